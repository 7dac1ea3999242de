-- Two calls in a row, of which the second's answer is handed on: what it says of what stood there before the first.
use Rattle.pgp_values.proofs.Common.{◌≡◌, ℕ, ◌+◌, ◌≤◌, List, ◌++◌, length, Result, Ok, Err, Some, None, OnOk, ◌∙◌, ap, inl, inr, ◌⊎◌, IfErr, Error, Cause, Wants, WantsMemory, Writes, Held, ◌⊕◌, more_twice, wants_then, only_memory}

-- the first appended p, and the second q
pub both_held : {K : Type 0} (a b d : Held K) (p q : List ℕ) → b ≡ a ⊕ p → d ≡ b ⊕ q → d ≡ a ⊕ (p ++ q)
both_held a b d p q e f = f ∙ (ap (λ h. h ⊕ q) e ∙ more_twice a p q)

pub ok_behind : {K : Type 0} (r : Result (Unit {0}) Error) (a b d : Held K) (p q all : List ℕ) → b ≡ a ⊕ p → p ++ q ≡ all → OnOk r (d ≡ b ⊕ q) → OnOk r (d ≡ a ⊕ all)
ok_behind (Ok x) a b d p q all e same f = both_held a b d p q e f ∙ ap (λ l. a ⊕ l) same
ok_behind (Err x) a b d p q all e same f = tt

pub why_behind : {K : Type 0} (lacks : Held K → ℕ → Type 0) (r : Result (Unit {0}) Error) (a b : Held K) (p : List ℕ) (n m : ℕ) → b ≡ a ⊕ p → length p + n ≤ m
    → IfErr r (WantsMemory (Wants lacks b n)) → IfErr r (WantsMemory (Wants lacks a m))
why_behind lacks (Ok x) a b p n m e le w = tt
why_behind lacks (Err x) a b p n m e le w = (w.0, wants_then a b p n m e le w.1)

-- the same where what the second appends may have no spelling, for the cause C, and both for D
pub item_why : {K : Type 0} (lacks : Held K → ℕ → Type 0) (r : Result (Unit {0}) Error) (a b : Held K) (p : List ℕ) (n m : ℕ) (C D : Cause) → ((e : Error) → C ≡ Some e → D ≡ Some e) → b ≡ a ⊕ p → length p + n ≤ m
    → IfErr r (λ e. WantsMemory (Wants lacks b n) e ⊎ (C ≡ Some e)) → IfErr r (λ e. WantsMemory (Wants lacks a m) e ⊎ (D ≡ Some e))
item_why lacks (Ok x) a b p n m C D some e le w = tt
item_why lacks (Err x) a b p n m C D some e le w = elim w [ inl memory ↦ inl (memory.0, wants_then a b p n m e le memory.1) | inr cause ↦ inr (some x cause) ]

-- what the second's one word says of its error
pub writes_why : {K : Type 0} (lacks : Held K → ℕ → Type 0) (r : Result (Unit {0}) Error) (b d : Held K) (q : List ℕ) (C : Cause) → Writes q C lacks b d r → IfErr r (λ e. WantsMemory (Wants lacks b (length q)) e ⊎ (C ≡ Some e))
writes_why lacks (Ok x) b d q C w = tt
writes_why lacks (Err x) b d q C w = w.0

-- the same where it has a spelling
pub plain_why : {K : Type 0} (lacks : Held K → ℕ → Type 0) (r : Result (Unit {0}) Error) (a b d : Held K) (p q : List ℕ) (m : ℕ) (D : Cause) → b ≡ a ⊕ p → length p + length q ≤ m → Writes q None lacks b d r
    → IfErr r (λ e. WantsMemory (Wants lacks a m) e ⊎ (D ≡ Some e))
plain_why lacks (Ok x) a b d p q m D e le w = tt
plain_why lacks (Err x) a b d p q m D e le w = let memory = only_memory x w.0 in inl (memory.0, wants_then a b p (length q) m e le memory.1)
