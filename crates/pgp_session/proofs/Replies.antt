-- What a server answers, in one message or two.
use Rattle.pgp_session.proofs.Common.{◌≡◌, ◌⊎◌, ℕ, ◌≤◌, List, ◌++◌, length, take, Result, Ok, Err, Some, None, true, false, refl, subst, ap, ◌∙◌, arith, inl, inr, Cause, Wants, WantsMemory, Held, ◌⊕◌, int32, Error, cut_back, front_left, front_then, more_twice, wants_more, wants_then, admission}
use Rattle.std.proofs.Common.{length-append}
use Rattle.std.specs.Result.{IsErr, IsErrAnd}
use Rattle.pgp_base.specs.Cause.{Writes}
use Rattle.pgp_message_write.specs.Reply.{bytes_of, cause}

admission_fits : cause admission ≡ None
unfolding int32
admission_fits = refl

-- both of two messages were appended
pub both_said : {K : Type 0} (a b : List ℕ) (c : Cause) (old mid new : Held K) → c ≡ None → mid ≡ old ⊕ a → new ≡ mid ⊕ b → (c ≡ None) × (new ≡ old ⊕ (a ++ b))
both_said a b c old mid new n e f = (n, f ∙ (ap (λ h. h ⊕ b) e ∙ more_twice old a b))

module _ {K : Type 0} {lacks : Held K → ℕ → Type 0} where
  more_wanted : (n m : ℕ) (c : Cause) (old : Held K) (e : Error) → n ≤ m → WantsMemory (Wants lacks old n) e ⊎ (c ≡ Some e) → WantsMemory (Wants lacks old m) e ⊎ (c ≡ Some e)
  more_wanted n m c old e h (inl w) = inl (w.0, wants_more old n m h w.1)
  more_wanted n m c old e h (inr w) = inr w

  -- the first of them was rejected
  pub first_unsaid : (a b : List ℕ) (c : Cause) (old new : Held K) (r : Result (Unit {0}) Error) (e : Error) → IsErr r → IsErrAnd r (λ x. x ≡ e) → Writes a c lacks old new (Err e) → Writes (a ++ b) c lacks old new r
  first_unsaid a b c old new (Ok done) e is h w = let f : false ≡ true = is in cc
  first_unsaid a b c old new (Err x) e is h w =
      let same : x ≡ e = h in
      rw same (more_wanted (length a) (length (a ++ b)) c old e (omega (arith, length-append a b)) w.0, w.1)

  behind_wanted : (a b : List ℕ) (c : Cause) (old mid : Held K) (e : Error) → mid ≡ old ⊕ a → WantsMemory (Wants lacks mid (length b)) e ⊎ ((let none : Cause = None in none) ≡ Some e) → WantsMemory (Wants lacks old (length (a ++ b))) e ⊎ (c ≡ Some e)
  behind_wanted a b c old mid e is (inl w) = inl (w.0, wants_then old mid a (length b) (length (a ++ b)) is (omega (arith, length-append a b)) w.1)
  behind_wanted a b c old mid e is (inr w) = absurd cc

  -- the second was, and the first is cut off
  pub second_unsaid : (a b : List ℕ) (c : Cause) (old mid more new : Held K) (n : ℕ) (e : Error) → mid ≡ old ⊕ a → Writes b None lacks mid more (Err e)
      → n ≡ length old.bytes → new.bytes ≡ take n more.bytes → new.kept ≡ more.kept → Writes (a ++ b) c lacks old new (Err e)
  second_unsaid a b c old mid more new n e is w at cut kept =
      (behind_wanted a b c old mid e is w.0, cut_back old more new n (front_then old mid more a is (front_left mid more w.1)) at cut kept)

-- an admission has a spelling
pub admission_said : {K : Type 0} (lacks : Held K → ℕ → Type 0) (old new : Held K) (r : Result (Unit {0}) Error) → Writes (bytes_of admission) (cause admission) lacks old new r → Writes (bytes_of admission) None lacks old new r
admission_said lacks old new r w = subst (λ (c : Cause). Writes (bytes_of admission) c lacks old new r) admission_fits w
