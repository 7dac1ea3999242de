-- A monitor as a value, what each call does to it, and what came of all calls so far.
use Rattle.std.specs.Prelude.{◌≡◌, ◌≢◌, ◌⊎◌, ℕ, Bool, true, false, List, [], ◌∷◌, ◌++◌, length, Option, Some, None, Result, Ok, Err, ◌+◌}
use Rattle.pgp_client.specs.Taking.{asked, is_copying, is_end, taken}
use Rattle.pgp_client.specs.Talk.{Talk, shown as talk_of}
use Rattle.pgp_client.specs.Telling.{start}
use Rattle.pgp_client.specs.declared.event.Event.{Event}
use Rattle.pgp_client.specs.declared.event.Event.TheVariants.{Ended}
use Rattle.pgp_client.specs.declared.event.Refusal.{Refusal}
use Rattle.pgp_client.specs.declared.kind.Kind.{Kind}
use Rattle.pgp_client.specs.declared.request.Request.{Request}
use Rattle.pgp_client.specs.declared.request.Request.TheVariants.{Sync}
use Rattle.pgp_session.specs.Answered.{BeginsWithNone, IsFront, Spells}
use Rattle.pgp_session.specs.declared.monitor.Passed.{Passed}
use Rattle.pgp_session.specs.declared.monitor.Stop.{Stop}
use Rattle.pgp_session.specs.declared.monitor.Stop.TheVariants.{Misplaced, NoMessage, OutOfMemory}
use Rattle.pgp_session.specs.declared.monitor.Monitor.{Monitor as Fields}

pub record Shown : Type 0 where
  pub talk : Talk
  -- the name of the next request
  pub names : ℕ
  -- nothing was noted or sent
  pub is_fresh : Bool
  pub is_over : Bool
  pub out : List ℕ

abbrev pub shown : {A : Type 0} → Fields A → Shown
shown m = record { talk = talk_of (λ q. q.items) m.dialogue; names = m.names; is_fresh = m.is_fresh; is_over = m.is_over; out = m.out.items }

abbrev pub begun : Shown
begun = record { talk = start; names = 0; is_fresh = true; is_over = false; out = [] }

-- ---- what came of all calls

-- The client's dialogue, after these requests and these messages: each was taken, and none ended the session.
pub data Runs : List Request → List Kind → List Event → Talk → Type 0 where
  Begins : Runs [] [] [] start
  Asks : {rs : List Request} {ks : List Kind} {es : List Event} {t : Talk} (r : Request) → Runs rs ks es t
      → Runs (rs ++ r ∷ []) ks es (asked t (record { request = r; name = length rs }))
  Says : {rs : List Request} {ks : List Kind} {es : List Event} {t : Talk} (k : Kind) (e : Event) (next : Talk) → Runs rs ks es t → taken t k ≡ Ok (e, next) → e ≢ Ended
      → Runs rs (ks ++ k ∷ []) (es ++ e ∷ []) next

-- the same, where the last message may have ended the session
pub data Ran : List Request → List Kind → List Event → Type 0 where
  Stopped : {rs : List Request} {ks : List Kind} {es : List Event} {t : Talk} → Runs rs ks es t → Ran rs ks es
  EndsThere : {rs : List Request} {ks : List Kind} {es : List Event} {t : Talk} (k : Kind) (next : Talk) → Runs rs ks es t → taken t k ≡ Ok (Ended, next)
      → Ran rs (ks ++ k ∷ []) (es ++ Ended ∷ [])

abbrev pub Goes : Bool → Talk → List Request → List Kind → List Event → Type 0
Goes false t rs ks es = Runs rs ks es t
Goes true t rs ks es = Ran rs ks es

-- These requests were noted and messages of these kinds let through, of whose bytes these are gone; the monitor is now this.
pub record Went (rs : List Request) (ks : List Kind) (es : List Event) (gone : List ℕ) (m : Shown) : Type 0 where
  pub goes : Goes m.is_over m.talk rs ks es
  pub names : m.names ≡ length rs
  pub fresh : m.is_fresh ≡ true → ks ≡ []
  pub cut_off : List ℕ
  pub whole : m.is_over ≡ false → cut_off ≡ []
  pub spelled : Spells ks ((gone ++ m.out) ++ cut_off)

-- ---- the calls

abbrev pub Declines : Type 0 → Shown → Shown → Result (Unit {0}) Stop → Type 0
Declines lacks old new (Ok done) = (old.is_fresh ≡ true) × (old.is_over ≡ false)
    × (new ≡ record { talk = old.talk; names = old.names; is_fresh = old.is_fresh; is_over = old.is_over; out = old.out ++ 0x4e ∷ [] })
Declines lacks old new (Err Misplaced) = ((old.is_fresh ≡ false) ⊎ (old.is_over ≡ true)) × (new ≡ old)
Declines lacks old new (Err OutOfMemory) = lacks × (new ≡ old)
Declines lacks old new (Err NoMessage) = ⊥

-- the request is one over which a server passes, or comes after the end
abbrev pub IsPassedOver : Request → Shown → Type 0
IsPassedOver r m = (m.is_over ≡ true) ⊎ ((r ≡ Sync) × (is_copying m.talk ≡ true))

abbrev pub noted : Request → Shown → Shown
noted r m = record { talk = asked m.talk (record { request = r; name = m.names }); names = m.names + 1; is_fresh = false; is_over = m.is_over; out = m.out }

abbrev pub Notes : {E : Type 0} → Type 0 → Request → Shown → Shown → Result (Option ℕ) E → Type 0
Notes lacks r old new (Ok None) = IsPassedOver r old × (new ≡ old)
Notes lacks r old new (Ok (Some n)) = (old.is_over ≡ false) × (n ≡ old.names) × (new ≡ noted r old) × ¬ IsPassedOver r old
Notes lacks r old new (Err e) = (lacks ⊎ (old.names ≡ 18446744073709551615)) × (new ≡ old)

abbrev pub after_note : {E : Type 0} → Result (Option ℕ) E → Request → List Request → List Request
after_note (Ok (Some n)) r rs = rs ++ r ∷ []
after_note x r rs = rs

-- the message of this kind has this place in the dialogue, or none
abbrev pub Admits : Kind → Shown → Shown → Result Event Stop → Type 0
Admits k old new (Ok e) = (taken old.talk k ≡ Ok (e, new.talk))
    × (new ≡ record { talk = new.talk; names = old.names; is_fresh = old.is_fresh; is_over = old.is_over; out = old.out })
Admits k old new (Err Misplaced) = ((r : Refusal) × (taken old.talk k ≡ Err r))
    × (new ≡ record { talk = new.talk; names = old.names; is_fresh = old.is_fresh; is_over = old.is_over; out = old.out })
Admits k old new (Err e) = ⊥

-- a message of this kind was let through, and belongs there
pub record HasPassed (bytes : List ℕ) (old new : Shown) (p : Passed) : Type 0 where
  pub kind : Kind
  pub front : IsFront bytes kind p.len
  pub goes_on : old.is_over ≡ false
  pub taken : taken old.talk kind ≡ Ok (p.event, new.talk)
  pub is : new ≡ record { talk = new.talk; names = old.names; is_fresh = false; is_over = is_end p.event; out = old.out ++ front.frame }

-- it isn't let through, and nothing more is
abbrev pub IsStopped : Shown → Shown → Type 0
IsStopped old new = new ≡ record { talk = new.talk; names = old.names; is_fresh = old.is_fresh; is_over = true; out = old.out }

abbrev pub HasNoPlace : List ℕ → Shown → Type 0
HasNoPlace bytes old = (old.is_over ≡ true) ⊎ ((k : Kind) × (len : ℕ) × (r : Refusal) × IsFront bytes k len × (taken old.talk k ≡ Err r))

abbrev pub Passes : Type 0 → List ℕ → Shown → Shown → Result Passed Stop → Type 0
Passes lacks bytes old new (Ok p) = HasPassed bytes old new p
Passes lacks bytes old new (Err Misplaced) = HasNoPlace bytes old × IsStopped old new
Passes lacks bytes old new (Err NoMessage) = BeginsWithNone bytes × IsStopped old new
Passes lacks bytes old new (Err OutOfMemory) = lacks × IsStopped old new

-- of a message that was let through more went, of another nothing
abbrev pub after_pass : Result Passed Stop → List Request → List Kind → List Event → List ℕ → Shown → Type 0
after_pass (Ok p) rs ks es gone new = (k : Kind) × Went rs (ks ++ k ∷ []) (es ++ p.event ∷ []) gone new
after_pass (Err e) rs ks es gone new = Went rs ks es gone new
