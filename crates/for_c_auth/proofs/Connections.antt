-- What a message comes to in a connection.
use Rattle.for_c_auth.proofs.Common.{◌≡◌, ◌≢◌, ◌⊎◌, ◌<◌, ℕ, ◌+◌, Bool, List, [], Some, None, Ok, Err, Option, Result, ap, arith, inl, inr, length, length-append, refl, subst, sym, ◌-◌, ◌∙◌, DataRow, Message, kind_of, PgpWays, PgpLogin, parsed, view, Talk, CountedBytes, IsPartial, Step, TakesFrame, frame_bytes}
use Rattle.pgp_client.specs.Codes.{refusal_at}
use Rattle.pgp_client.specs.Limits.{is_longer}
use Rattle.pgp_client.specs.Taking.{Takes, taken}
use Rattle.pgp_client.specs.declared.event.Event.{Event}
use Rattle.pgp_client.specs.declared.event.Refusal.{Refusal}
use Rattle.pgp_client.specs.declared.kind.Kind.{Kind}
use Rattle.pgp_client.specs.declared.stage.Stage.TheVariants.{Over}
use Rattle.pgp_message.specs.Rows.{TakesRow}
use Rattle.pgp_message.specs.declared.message as code
use Rattle.for_c_auth.specs.Answering.{HasAnswered, NotAnsweredFor, asking}
use Rattle.pgp_login.specs.Machine.{NothingAsked}
use Rattle.for_c_auth.specs.Connection.{IsFit, IsMisplaced, Link, NoMemory, NoRoom, NoSettingRoom, NoStatus, NotRepliedTo, Rejects, Took, TookSo, Unanswered, Untimely, ended, noted, reported_as, with_login, with_talk}
use Rattle.for_c_auth.specs.declared.connection.PgpTaken.{PgpTaken}

taken_no : (r : Result (Event × Talk) Refusal) (e : Refusal) (new : Talk) → Takes r (Err e) new → (r ≡ Err e) × (new.stage ≡ Over)
taken_no (Ok x) e new h = absurd h
taken_no (Err x) e new h = (ap (λ (y : Refusal). Err y) (sym h.0), h.1)

pub misplaced : (old new : Talk) (k : Kind) (e : Refusal) (code : ℕ) → Takes (taken old k) (Err e) new → refusal_at code ≡ Some e → code ≢ 0
    → (r : Refusal) × (taken old k ≡ Err r) × (refusal_at code ≡ Some r) × (code ≢ 0) × (new.stage ≡ Over)
misplaced old new k e code h is some = let no = taken_no (taken old k) e new h in (e, no.0, is, some, no.1)

pub misplaced_so : (m : Message) (old : Link) (t : Talk) (k : Kind) (code : ℕ) → k ≡ kind_of m → (r : Refusal) × (taken old.talk k ≡ Err r) × (refusal_at code ≡ Some r) × (code ≢ 0) × (t.stage ≡ Over)
    → IsMisplaced m old (ended (with_talk t old)) code
misplaced_so m old t k code is h = (h.0, t, subst (λ x. taken old.talk x ≡ Err h.0) is h.1, h.4, h.2, refl)

-- a row is taken by the dialogue alone
took_row_so : (w : PgpWays) (given : ℕ) (row : CountedBytes) (old : Link) (t : Talk) (e : Event) → taken old.talk (kind_of (DataRow row)) ≡ Ok (e, t) → Took w given (DataRow row) old (noted given (DataRow row) e (with_talk t old)) e []
took_row_so w given row old t e takes = record { taken = takes; fit = (tt, refl); logged = record { reply = None; logs = NothingAsked; adds = refl }; is = refl }

pub took_row : (w : PgpWays) (given : ℕ) (row : CountedBytes) (old new : Link) (t : Talk) (e : Event) (out : List ℕ) (said : PgpTaken) (frame : ℕ) → taken old.talk (kind_of (DataRow row)) ≡ Ok (e, t)
    → new ≡ noted given (DataRow row) e (with_talk t old) → said ≡ reported_as e frame → TookSo w given (DataRow row) old new said frame out out 0
took_row w given row old new t e out said frame takes is reported =
    (e, [], subst (λ n. Took w given (DataRow row) old n e []) (sym is) (took_row_so w given row old t e takes), reported, record { length_is = refl; fits = omega arith; stands = refl })

-- nothing stands before the reply
module _ (lacks : Type 0) (full : Message → Type 0) (w : PgpWays) (given : ℕ) (m : Message) (room : ℕ) (old : Link) (before : List ℕ) (none : before ≡ []) where
  answered_now : (l : PgpLogin) (reply : List ℕ) → HasAnswered w (asking m) old.login l before reply → HasAnswered w (asking m) old.login l [] reply
  answered_now l reply h = subst (λ b. HasAnswered w (asking m) old.login l b reply) none h

  -- what isn't answered for want of memory
  unanswered : (code : ℕ) → code ≡ 1 → NotRepliedTo lacks w old.login old.version m code → IsFit w old m × NotAnsweredFor lacks w old.login 1 (asking m)
  unanswered code one (inl h) = let is = h.0 in absurd (omega (arith, one, is))
  unanswered code one (inr (inl h)) = let is = h.0 in absurd (omega (arith, one, is))
  unanswered code one (inr (inr h)) = (h.0, subst (λ n. NotAnsweredFor lacks w old.login n (asking m)) one h.1)

  module _ (l : PgpLogin) (reply : List ℕ) (code : ℕ) (why : code ≢ 0 → NotRepliedTo lacks w old.login old.version m code)
      (fit : code ≡ 0 → IsFit w old m) (answers : code ≡ 0 → HasAnswered w (asking m) old.login l before reply) where
    pub lacking : (needed n : ℕ) → needed ≡ length reply → ((code ≡ 1) × (n ≡ 95)) ⊎ ((code ≡ 0) × (((n ≡ 1) × (room < needed)) ⊎ ((n ≡ 96) × full m))) → Rejects lacks full w m room old old n
    lacking needed n is (inl h) = let one = h.0 in let u = unanswered code one (why (omega (arith, one))) in NoMemory u.0 u.1 h.1 refl
    lacking needed n is (inr (none, inl h)) = NoRoom l reply (fit none) (answered_now l reply (answers none)) (subst (λ x. room < x) is h.1) h.0 refl
    lacking needed n is (inr (none, inr h)) = NoSettingRoom (fit none) h.1 h.0 refl

  module _ (e : Event) (t : Talk) (k : Kind) (kind_is : k ≡ kind_of m) (takes_it : taken old.talk k ≡ Ok (e, t)) where
    takes : taken old.talk (kind_of m) ≡ Ok (e, t)
    takes = subst (λ x. taken old.talk x ≡ Ok (e, t)) kind_is takes_it

    pub stops : (code : ℕ) → code ≢ 1 → NotRepliedTo lacks w old.login old.version m code → Rejects lacks full w m room old (ended (with_talk t old)) code
    stops code other (inl h) = Untimely e t takes h.1 h.0 refl
    stops code other (inr (inl h)) = NoStatus e t takes h.1 h.2 h.0 refl
    stops code other (inr (inr h)) = Unanswered e t takes h.0 h.1 other refl

    pub took : (l : PgpLogin) (reply : List ℕ) (new : Link) → IsFit w old m → HasAnswered w (asking m) old.login l before reply → new ≡ noted given m e (with_login l (with_talk t old)) → Took w given m old new e reply
    took l reply new fit h is = subst (λ n. Took w given m old n e reply) (sym is) (record { taken = takes; fit = fit; logged = answered_now l reply h; is = refl })

-- ---- the message at the front of the bytes

step_at : {A : Type 0} (old new bytes : List ℕ) (o p : Option (code.Message.Message A)) → old ≡ bytes → o ≡ p → Step ⊥ old (parsed (Ok o)) new → Step ⊥ bytes (parsed (Ok p)) new
step_at {A} old new bytes o p is e s = subst (λ (x : Option (code.Message.Message A)). Step ⊥ bytes (parsed (Ok x)) new) e (subst (λ l. Step ⊥ l (parsed (Ok o)) new) is s)

pub step_none : {A : Type 0} (old new bytes : List ℕ) (o : Option (code.Message.Message A)) → old ≡ bytes → o ≡ None → Step ⊥ old (parsed (Ok o)) new → IsPartial bytes
step_none {A} old new bytes o is e s = (step_at {A = A} old new bytes o None is e s).0

pub step_some : {A : Type 0} (old new bytes : List ℕ) (o : Option (code.Message.Message A)) (m : code.Message.Message A) → old ≡ bytes → o ≡ Some m → Step ⊥ old (parsed (Ok o)) new → TakesFrame bytes (Ok (view m)) new
step_some old new bytes o m is e s = step_at old new bytes o (Some m) is e s

pub step_row : (old new bytes : List ℕ) (row : CountedBytes) → old ≡ bytes → TakesRow old (Some row) new → TakesFrame bytes (Ok (DataRow row)) new
step_row old new bytes row is t = subst (λ l. TakesFrame l (Ok (DataRow row)) new) is t

pub framed : (bytes rest shown : List ℕ) (m : Message) → TakesFrame bytes (Ok m) rest → shown ≡ rest → (length bytes - length shown) + length rest ≡ length bytes
framed bytes rest shown m t is = let whole = ap length t.whole ∙ length-append (frame_bytes t.first) rest in let same = ap length is in omega (arith, whole, same)

pub within_limit : (bytes : List ℕ) (limit most : ℕ) (long b : Bool) → limit ≡ most → long ≡ is_longer limit bytes → long ≡ b → is_longer most bytes ≡ b
within_limit bytes limit most long b limit_is long_is is = ap (λ n. is_longer n bytes) (sym limit_is) ∙ sym long_is ∙ is
