-- A table falls, and has the statements that were to be ranked.
use Rattle.pgtrace_summary.proofs.Common.{◌≡◌, ℕ, ◌<◌, ◌≤◌, Bool, true, false, List, [], ◌∷◌, refl, ap, arith, ◌∙◌, inl, inr, nat_lt, ◌==◌, if◌then◌else◌, cases_Bool, eqb-true, Tally, ltb-false, ltb-true, placed, ranked, AllByRecursion}
use Rattle.pgtrace_summary.specs.Calls.{Falls, of_total}

abbrev Under : ℕ → List Tally → Type 0
Under n l = AllByRecursion (λ (x : Tally). x.total ≤ n) l

raised : (m n : ℕ) (l : List Tally) → m ≤ n → Under m l → Under n l
raised m n [] le a = tt
raised m n (d ∷ more) le a = (let h = a.0 in omega (arith, h, le), raised m n more le a.1)

under : (n : ℕ) (e : Tally) (l : List Tally) → e.total ≤ n → Under n l → Under n (placed e l)
under n e [] le a = (le, tt)
under n e (d ∷ more) le a =
    elim (cases_Bool (nat_lt e.total d.total)) [
      | inl less ↦ rw less (a.0, under n e more le a.1)
      | inr least ↦ rw least (le, a)
    ]

falls_placed : (e : Tally) (l : List Tally) → Falls l → Falls (placed e l)
falls_placed e [] f = (tt, tt)
falls_placed e (d ∷ more) f =
    elim (cases_Bool (nat_lt e.total d.total)) [
      | inl less ↦ rw less (under d.total e more (let h = ltb-true e.total d.total less in omega (arith, h)) f.0, falls_placed e more f.1)
      | inr least ↦ (let h = ltb-false e.total d.total least in rw least ((h, raised d.total e.total more h f.0), f))
    ]

pub falls : (l : List Tally) → Falls (ranked l)
falls [] = tt
falls (e ∷ more) = falls_placed e (ranked more) (falls more)

swapped : (a b : Bool) (d e : Tally) (l : List Tally) → (a ≡ true → b ≡ true → ⊥)
    → (if b then d ∷ (if a then e ∷ l else l) else (if a then e ∷ l else l)) ≡ (if a then e ∷ (if b then d ∷ l else l) else (if b then d ∷ l else l))
swapped true true d e l never = absurd (never refl refl)
swapped true false d e l never = refl
swapped false b d e l never = refl

apart : (m n total : ℕ) → m < n → (m == total) ≡ true → (n == total) ≡ true → ⊥
apart m n total lt one other = let h = eqb-true m total one in let k = eqb-true n total other in absurd (omega (arith, lt, h, k))

kept_placed : (total : ℕ) (e : Tally) (l : List Tally) → of_total total (placed e l) ≡ of_total total (e ∷ l)
kept_placed total e [] = refl
kept_placed total e (d ∷ more) =
    elim (cases_Bool (nat_lt e.total d.total)) [
      | inl less ↦ rw less (ap (λ (l : List Tally). if d.total == total then d ∷ l else l) (kept_placed total e more)
          ∙ swapped (e.total == total) (d.total == total) d e (of_total total more) (apart e.total d.total total (ltb-true e.total d.total less)))
      | inr least ↦ rw least refl
    ]

pub kept : (l : List Tally) (total : ℕ) → of_total total (ranked l) ≡ of_total total l
kept [] total = refl
kept (e ∷ more) total = kept_placed total e (ranked more) ∙ ap (λ (l : List Tally). if e.total == total then e ∷ l else l) (kept more total)
