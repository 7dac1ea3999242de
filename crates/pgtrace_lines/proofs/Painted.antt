-- A line in a colour.
use Rattle.pgtrace_lines.proofs.Common.{◌≡◌, ◌≢◌, ℕ, zero, suc, ◌+◌, ◌-◌, Bool, true, false, inl, inr, List, [], ◌∷◌, ◌++◌, length, length-append, take, get_or, refl, sym, ap, ◌∙◌, arith, OnOk, ◌==◌, if◌then◌else◌, cases_Bool, eqb-true, true≢false, Json, View, color_by, color_of, ends_in_newline, painted, uncolored}
use Rattle.std.specs.Prelude.{Option, Result, Ok, Err, Some, None}

if_true : {A : Type 0} (b : Bool) (x y : A) → b ≡ true → (if b then x else y) ≡ x
if_true true x y e = refl
if_true false x y e = absurd (true≢false (sym e))

if_false : {A : Type 0} (b : Bool) (x y : A) → b ≡ false → (if b then x else y) ≡ y
if_false true x y e = absurd (true≢false e)
if_false false x y e = refl

ends : (text : List ℕ) → get_or (text ++ 10 ∷ []) (length text) 0 ≡ 10
ends [] = refl
ends (x ∷ xs) = ends xs

front : (text : List ℕ) → take (length text) (text ++ 10 ∷ []) ≡ text
front [] = refl
front (x ∷ xs) = ap (λ l. x ∷ l) (front xs)

less : (text : List ℕ) → length (text ++ 10 ∷ []) - 1 ≡ length text
less text = let h : length (text ++ 10 ∷ []) ≡ length text + 1 = length-append text (10 ∷ []) in omega (arith, h)

-- what stands before a newline stands between the sequences
pub painted_line : (color text : List ℕ) → painted (Some color) (text ++ 10 ∷ []) ≡ color ++ text ++ uncolored ++ 10 ∷ []
painted_line color text =
    let line = text ++ 10 ∷ [] in
    if_true (ends_in_newline line) (color ++ take (length line - 1) line ++ uncolored ++ 10 ∷ []) line (ap (λ n. get_or line n 0 == 10) (less text) ∙ ap (λ b. b == 10) (ends text))
    ∙ ap (λ l. color ++ l ++ uncolored ++ 10 ∷ []) (ap (λ n. take n line) (less text) ∙ front text)

last_at : (line : List ℕ) (n : ℕ) → length line ≡ suc n → get_or line n 0 ≡ 10 → line ≡ take n line ++ 10 ∷ []
last_at [] n h e = absurd (omega (arith, h))
last_at (x ∷ []) zero h e = ap (λ y. y ∷ []) e
last_at (x ∷ y ∷ more) zero h e = absurd (omega (arith, h))
last_at (x ∷ more) (suc n) h e = ap (λ l. x ∷ l) (last_at more n (omega (arith, h)) e)

last_is : (line : List ℕ) → get_or line (length line - 1) 0 ≡ 10 → line ≡ take (length line - 1) line ++ 10 ∷ []
last_is [] e = let h : 0 ≡ 10 = e in absurd (omega (arith, h))
last_is (x ∷ more) e = last_at (x ∷ more) (length (x ∷ more) - 1) (omega arith) e

not_painted : (color line : List ℕ) → ((text : List ℕ) → line ≢ text ++ 10 ∷ []) → painted (Some color) line ≡ line
not_painted color line none = elim (cases_Bool (ends_in_newline line)) [
  | inl here ↦ absurd (none (take (length line - 1) line) (last_is line (eqb-true _ _ here)))
  | inr other ↦ if_false (ends_in_newline line) (color ++ take (length line - 1) line ++ uncolored ++ 10 ∷ []) line other
]

-- what has no newline at its end has no colour
pub painted_other : {T E : Type 0} (r : Result T E) (color line old new : List ℕ) → ((text : List ℕ) → line ≢ text ++ 10 ∷ []) → OnOk r (new ≡ old ++ line) → OnOk r (new ≡ old ++ painted (Some color) line)
painted_other (Ok x) color line old new none e = e ∙ ap (λ l. old ++ l) (sym (not_painted color line none))
painted_other (Err x) color line old new none e = tt

either : (b : Bool) (color : Option (List ℕ)) → color ≡ None → (if b then color else None) ≡ None
either true color e = e
either false color e = refl

-- objects have none
pub no_object : (view : View) (name : List ℕ) → view.style.form ≡ Json → color_of view name ≡ None
no_object view name e = either view.colored (color_by view.style.form name) (ap (λ f. color_by f name) e)
