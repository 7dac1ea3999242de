-- Under names that rise, the requests below the first that is to end have ended.
use Rattle.pgp_session.proofs.Common.{◌≡◌, ◌≢◌, true, false, ℕ, ◌+◌, ◌<◌, ◌≤◌, List, [], ◌∷◌, ◌++◌, length, ◌^◌, Option, Some, None, refl, sym, ap, subst, ◌∙◌, arith, inl, inr, append_assoc, append-nil, option_to_list, Turn, Asks, asked_in, start, Talk, Event, Ended, Request, Asked, ClientMessage, Shown, History, Known, AreNamed, Rises, ConnectionPhase, Started}
use Rattle.pgp_session.specs.Connection.{name_or, open_from, open_in_phase}
use Rattle.pgp_client.specs.Ending.{first_name, first_open, open_after, Rises as RisesAll}
use Rattle.pgp_client.specs.InTurns.{IsAmong}
use Rattle.pgp_client.specs.Telling.{FollowsTo, names}
use Rattle.pgp_login.proofs.Dialogues.{follows_to}
use Rattle.pgp_login.specs.Machine.{Ways}

ends_above : (low : ℕ) (ns : List ℕ) (high : ℕ) → Rises low ns high → low ≤ high
ends_above low [] high r = r
ends_above low (n ∷ ns) high r = omega (arith, r.0, ends_above (n + 1) ns high r.1)

between : (low : ℕ) (ns : List ℕ) (high : ℕ) → Rises low ns high → (m : ℕ) → IsAmong m ns → (low ≤ m) × (m < high)
between low [] high r m i = absurd i
between low (n ∷ ns) high r m (inl same) = (omega (arith, same, r.0), omega (arith, same, ends_above (n + 1) ns high r.1))
between low (n ∷ ns) high r m (inr i) = let b = between (n + 1) ns high r.1 m i in (omega (arith, r.0, b.0), b.1)

rising : (low : ℕ) (ns : List ℕ) (high : ℕ) → Rises low ns high → RisesAll ns
rising low [] high r = tt
rising low (n ∷ ns) high r = (λ m i. let b = between (n + 1) ns high r.1 m i in omega (arith, b.0), rising (n + 1) ns high r.1)

in_first : (n : ℕ) (xs ys : List Asked) → IsAmong n (names xs) → IsAmong n (names (xs ++ ys))
in_first n [] ys i = absurd i
in_first n (x ∷ xs) ys (inl same) = inl same
in_first n (x ∷ xs) ys (inr i) = inr (in_first n xs ys i)

none_left : (rs : List Asked) → first_name rs ≡ None → rs ≡ []
none_left [] h = refl
none_left (a ∷ rs) h = cc

abbrev Divides : List Asked → List Asked → ℕ → Type 0
Divides all left at = (ended : List Asked) × (all ≡ ended ++ left) × ((n : ℕ) → IsAmong n (names ended) → n < at) × ((n : ℕ) → IsAmong n (names left) → at ≤ n)

divided : (o : Option ℕ) (all left ended : List Asked) (next : ℕ) → Rises 0 (names all) next → o ≡ first_name left → all ≡ ended ++ left
    → ((m : ℕ) → o ≡ Some m → Divides all left m) → Divides all left (name_or next o)
divided (Some m) all left ended next r first is h = h m refl
divided None all left ended next r first is h =
    let none : left ≡ [] = none_left left (sym first) in
    (ended, is, λ n i. (between 0 (names all) next r n (subst (λ l. IsAmong n (names l)) (sym is) (in_first n ended left i))).1, λ n i. absurd (subst (λ l. IsAmong n (names l)) none i))

pub below_ended : (ways : Ways) (h : History) (now : Shown) → ((turns : List Turn) (now : Talk) → FollowsTo start turns now → (ended : List Asked) × (asked_in turns ≡ ended ++ open_after turns))
    → ((turns : List Turn) (now : Talk) → FollowsTo start turns now → first_open now ≡ first_name (open_after turns))
    → ((turns : List Turn) (now : Talk) (first : ℕ) → FollowsTo start turns now → RisesAll (names (asked_in turns)) → first_open now ≡ Some first → Divides (asked_in turns) (open_after turns) first)
    → now.phase ≡ Started → length h.written < 2 ^ 64 → Known ways h now → Divides (asked_in h.turns) (open_after h.turns) (open_from now)
below_ended ways h now once first numbers on few known =
    let f = follows_to ways known.talks in
    let named = (known.named few).0 in
    let ended = once h.turns now.talk f in
    let at : open_from now ≡ name_or now.names (first_open now.talk) = ap (λ (p : ConnectionPhase). open_in_phase p now) on in
    subst (Divides (asked_in h.turns) (open_after h.turns)) (sym at)
    (divided (first_open now.talk) (asked_in h.turns) (open_after h.turns) ended.0 now.names named (first h.turns now.talk f) ended.1
    (λ m is. numbers h.turns now.talk m f (rising 0 (names (asked_in h.turns)) now.names named) is))
