-- A lexer's text ends at one place and is read in one way, whatever follows.
use Rattle.pgp_auth.proofs.Common.{◌≡◌, ◌≢◌, ◌==◌, ◌&&◌, ℕ, ◌<◌, Bool, true, false, not, cond, List, [], ◌∷◌, ◌++◌, length, refl, sym, ap, ◌∙◌, arith, All, append_assoc, append_cancel_right, ne_eqb, eq-eqb, All-head, All-tail, Option, Some, None, option_map, slice_get, Body, empty, join, two_quotes, two_slashes, itself, Quoted, Literal, plain, escape, NeedsNoEscape}

-- what a scan from after the first quote finds: what was read, and what follows the last quote
put : ℕ → Option (List ℕ × List ℕ) → Option (List ℕ × List ℕ)
put c r = option_map (λ p. (c ∷ p.0, p.1)) r

scan : ℕ → Bool → List ℕ → Option (List ℕ × List ℕ)
scan q s [] = None
scan q s (c ∷ []) = cond (c == q) (Some ([], [])) None
scan q s (c ∷ d ∷ l) =
    cond (c == q) (cond (d == q) (put q (scan q s l)) (Some ([], d ∷ l)))
    (cond (s && (c == 92)) (cond (d == 92) (put 92 (scan q s l)) None) (put c (scan q s (d ∷ l))))

same_byte : (q : ℕ) → (q == q) ≡ true
same_byte q = eq-eqb q q refl

scan_itself : (q c : ℕ) (s : Bool) (l : List ℕ) → c ≢ q → (s ≡ true → c ≢ 92) → 0 < length l → scan q s (c ∷ l) ≡ put c (scan q s l)
unfolding scan
scan_itself q c s [] nq ns some_ = absurd (omega arith)
scan_itself q c true (d ∷ l) nq ns some_ = rw (ne_eqb c q nq, ne_eqb c 92 (ns refl)) refl
scan_itself q c false (d ∷ l) nq ns some_ = rw (ne_eqb c q nq) refl

scan_end : (q : ℕ) (s : Bool) (r : List ℕ) → slice_get r 0 ≢ Some q → scan q s (q ∷ r) ≡ Some ([], r)
unfolding scan
scan_end q s [] other = rw (same_byte q) refl
scan_end q s (d ∷ r) other = rw (same_byte q, ne_eqb d q (λ e. other (ap Some e))) refl

not_empty : (b r : List ℕ) (q : ℕ) → 0 < length (b ++ q ∷ r)
not_empty [] r q = omega arith
not_empty (c ∷ b) r q = omega arith

scan_body : (q : ℕ) (s : Bool) (b z r : List ℕ) → q ≢ 92 → slice_get r 0 ≢ Some q → Body q s b z → scan q s (b ++ q ∷ r) ≡ Some (z, r)
unfolding scan put
scan_body q s _ _ r nq o empty = scan_end q s r o
scan_body q s _ _ r nq o (join {body = b} {z = z} two_quotes h) = rw (same_byte q, scan_body q s b z r nq o h) refl
scan_body q s _ _ r nq o (join {body = b} {z = z} (two_slashes on) h) =
    let n : 92 ≢ q = λ e. nq (sym e) in
    rw (ne_eqb 92 q n, on, scan_body q s b z r nq o h) refl
scan_body q s _ _ r nq o (join {body = b} {z = z} (itself {c} n ns) h) =
    rw (scan_itself q c s (b ++ q ∷ r) n ns (not_empty b r q), scan_body q s b z r nq o h) refl

pub quoted_once : (q : ℕ) (s : Bool) (t u r l y x : List ℕ) → q ≢ 92 → Quoted q s t y → Quoted q s u x → slice_get r 0 ≢ Some q → slice_get l 0 ≢ Some q
    → t ++ r ≡ u ++ l → (t ≡ u) × (y ≡ x)
quoted_once q s t u r l y x nq a b ro lo same =
    let one = scan_body q s a.body y r nq ro a.reads in
    let two = scan_body q s b.body x l nq lo b.reads in
    let ta : t ++ r ≡ q ∷ (a.body ++ q ∷ r) = rw (a.text_is, append_assoc) refl in
    let ub : u ++ l ≡ q ∷ (b.body ++ q ∷ l) = rw (b.text_is, append_assoc) refl in
    let tails : a.body ++ q ∷ r ≡ b.body ++ q ∷ l = cc in
    let scans = rw tails at one in
    let pair : ◌≡◌ {A = List ℕ × List ℕ} (y, r) (x, l) = cc in
    let rest : r ≡ l = ap (λ (p : List ℕ × List ℕ). p.1) pair in
    let value : y ≡ x = ap (λ (p : List ℕ × List ℕ). p.0) pair in
    let whole : t ++ r ≡ u ++ r = rw (← rest) at same in
    (append_cancel_right t u r whole, value)

not_slash : (q : ℕ) → q < 92 → q ≢ 92
not_slash q low e = omega arith

unequal : (n m : ℕ) → n < m → m ≡ n → ⊥
unequal n m less e = omega arith

pub heads : (a b : ℕ) (l k : List ℕ) → a ∷ l ≡ b ∷ k → a ≡ b
heads a b l k e = cc

behind_two : (a b : ℕ) (l k : List ℕ) → a ∷ b ∷ l ≡ a ∷ b ∷ k → l ≡ k
behind_two a b l k e = cc

-- the two forms of a string constant begin otherwise
forms_differ : (s : Bool) (t u r l y : List ℕ) → Quoted 39 s t y → t ++ r ≡ (32 ∷ 69 ∷ u) ++ l → ⊥
forms_differ s t u r l y a same =
    let ta : t ++ r ≡ 39 ∷ (a.body ++ 39 ∷ r) = rw (a.text_is, append_assoc) refl in
    unequal 32 39 (omega arith) (heads 39 32 (a.body ++ 39 ∷ r) (69 ∷ (u ++ l)) (sym ta ∙ same))

pub identifier_once : (t u r l y x : List ℕ) → Quoted 34 false t y → Quoted 34 false u x → slice_get r 0 ≢ Some 34 → slice_get l 0 ≢ Some 34
    → t ++ r ≡ u ++ l → (t ≡ u) × (y ≡ x)
identifier_once t u r l y x a b ro lo same = quoted_once 34 false t u r l y x (not_slash 34 (omega arith)) a b ro lo same

pub literal_once : (on : Bool) (t u r l y x : List ℕ) → Literal on t y → Literal on u x → slice_get r 0 ≢ Some 39 → slice_get l 0 ≢ Some 39
    → t ++ r ≡ u ++ l → (t ≡ u) × (y ≡ x)
literal_once on t u r l y x (plain a) (plain b) ro lo same = quoted_once 39 (not on) t u r l y x (not_slash 39 (omega arith)) a b ro lo same
literal_once on t _ r l y x (plain a) (escape {text = u} b) ro lo same = absurd (forms_differ (not on) t u r l y a same)
literal_once on _ u r l y x (escape {text = t} a) (plain b) ro lo same = absurd (forms_differ (not on) u t l r x b (sym same))
literal_once on _ _ r l y x (escape {text = t} a) (escape {text = u} b) ro lo same =
    let both = quoted_once 39 true t u r l y x (not_slash 39 (omega arith)) a b ro lo (behind_two 32 69 (t ++ r) (u ++ l) same) in
    (ap (λ z. 32 ∷ 69 ∷ z) both.0, both.1)

-- ---- bytes that need no escape

itself_body : (s : Bool) (z : List ℕ) → All NeedsNoEscape z → Body 39 s z z
itself_body s [] none = empty
itself_body s (c ∷ z) all =
    let first : NeedsNoEscape c = All-head NeedsNoEscape c z all in
    join (itself first.0 (λ _. first.1)) (itself_body s z (All-tail NeedsNoEscape c z all))

pub own_literal : (on : Bool) (z : List ℕ) → All NeedsNoEscape z → Literal on (39 ∷ (z ++ 39 ∷ [])) z
own_literal on z all = plain (record { body = z; text_is = refl; reads = itself_body (not on) z all })
