-- A connection that is lent before its dialogue is idle.
use Rattle.pgp_client.proofs.PoolCommon.{Lending, Lends, Talk, true, false, is_idle, FollowsTo, ◌≡◌, ◌≢◌, ◌∙◌, ℕ, List, [], ◌∷◌, ◌++◌, ap, refl, sym, Follows, BelongInTurns, reported_in, start, talk, Turn, Asks, Hears, Event, Last, Kind, Idle, AreTheirs, EachHearsOwn, EndsAnswer, EndsSession, InAnswer, IsTheirs, OfConnection, run_by_client, run_of}
use Rattle.pgp_client.specs.declared.kind.Kind.TheVariants.{ReadyForQuery}
use Rattle.pgp_client.specs.declared.request.Request.TheVariants.{Query, Sync}
use Rattle.pgp_client.specs.Pool.{lent_at_ready, two_syncs}
use Rattle.pgp_client.specs.Taking.{is_between}

not_theirs : (one other : ℕ) {k : Kind} {e : Event} → one ≢ other → Last one ≡ e → IsTheirs other k e → ⊥
not_theirs one other apart is (InAnswer x) = cc
not_theirs one other apart is (EndsAnswer x) = absurd (apart cc)
not_theirs one other apart is (OfConnection s) = cc
not_theirs one other apart is EndsSession = cc

behind : List Event → List Event
behind [] = []
behind (e ∷ es) = es

event_in : Event → List Event → Event
event_in d [] = d
event_in d (e ∷ es) = e

pub first_ready : (one : ℕ) → (now : Talk) × FollowsTo start (two_syncs one) now × (is_between now ≡ true) × (is_idle now ≡ false)
first_ready one =
    let now = talk Idle one (record { request = Sync; name = one } ∷ []) in
    (now, (now, refl, (λ h. cc), refl), refl, refl)

module _ (one other : ℕ) where
  pub followed : Follows start (run_of (lent_at_ready one other))
  followed = (talk Idle one (record { request = Sync; name = one } ∷ []), refl, (λ h. cc), (talk Idle one (record { request = Query; name = other } ∷ []), refl, (λ h. cc), tt))

  second_not : one ≢ other → (rest mine more : List Event) → Last one ∷ [] ≡ rest → rest ≡ mine ++ more
      → AreTheirs other (Asks (record { request = Query; name = other }) ∷ Hears ReadyForQuery (Last one) ∷ []) mine → ⊥
  unfolding event_in
  second_not apart rest [] more is at theirs = absurd theirs
  second_not apart rest (e ∷ mine) more is at theirs = not_theirs one other apart (ap (λ (es : List Event). event_in (Last one) es) (is ∙ at)) theirs.0

  first_not : one ≢ other → (mine rest : List Event) → Last one ∷ Last one ∷ [] ≡ mine ++ rest
      → AreTheirs one (Asks (record { request = Sync; name = one }) ∷ Asks (record { request = Sync; name = one }) ∷ Hears ReadyForQuery (Last one) ∷ []) mine
      → (next more : List Event) → rest ≡ next ++ more → AreTheirs other (Asks (record { request = Query; name = other }) ∷ Hears ReadyForQuery (Last one) ∷ []) next → ⊥
  unfolding behind
  first_not apart [] rest is theirs next more at others = absurd theirs
  first_not apart (e ∷ []) rest is theirs next more at others = second_not apart rest next more (ap behind is) at others
  first_not apart (e ∷ d ∷ mine) rest is theirs next more at others = absurd theirs.1

  pub astray : ((turns : List Turn) (truth : List Event) → Follows start turns → BelongInTurns turns truth → truth ≡ reported_in turns)
      → (truth : List Event) → one ≢ other → BelongInTurns (run_by_client (lent_at_ready one other)) truth → EachHearsOwn (lent_at_ready one other) truth → ⊥
  astray alone truth apart b own =
      let is : truth ≡ Last one ∷ Last one ∷ [] = alone (run_of (lent_at_ready one other)) truth followed b in
      first_not apart own.0 own.1 (sym is ∙ own.2) own.3 own.4.0 own.4.1 own.4.2 own.4.3

-- so the law is false where a connection may be lent while no answer is under way
pub premise : ((turns : List Turn) → Follows start turns → BelongInTurns turns (reported_in turns))
    → ((turns : List Turn) (truth : List Event) → Follows start turns → BelongInTurns turns truth → truth ≡ reported_in turns)
    → ((ls : List Lending) (now : Talk) (last : Lending) (truth : List Event) → Lends start ls now → is_between now ≡ true → BelongInTurns (run_by_client (ls ++ last ∷ [])) truth
    → EachHearsOwn (ls ++ last ∷ []) truth) → ⊥
premise belong alone claim =
    let f = first_ready 0 in
    let truth = Last 0 ∷ Last 0 ∷ [] in
    let last : Lending = record { client = 1; turns = Asks (record { request = Query; name = 1 }) ∷ Hears ReadyForQuery (Last 0) ∷ [] } in
    let b : BelongInTurns (run_by_client (lent_at_ready 0 1)) truth = belong (run_of (lent_at_ready 0 1)) (followed 0 1) in
    astray 0 1 alone truth (λ h. cc) b (claim (record { client = 0; turns = two_syncs 0 } ∷ []) f.0 last truth (refl, f.0, f.1, refl) f.2 b)
