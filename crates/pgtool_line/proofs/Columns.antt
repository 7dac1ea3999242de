-- Columns of a line.
use Rattle.pgtool_line.proofs.Common.{◌≡◌, ℕ, zero, suc, ◌-◌, false, List, [], ◌∷◌, ◌++◌, length, refl, ap, ◌∙◌, arith, decimal, encode_utf8, char_count, format_spec, padded_integral, styled_decimal, repeat, append-nil, encode_ascii, blanks, right}

-- a fill of blanks
pub filled : (n : ℕ) → repeat n (encode_utf8 32) ≡ blanks n
filled zero = refl
filled (suc n) = ap (λ l. l ++ repeat n (encode_utf8 32)) (encode_ascii 32 (omega arith)) ∙ ap (λ l. 32 ∷ l) (filled n)

-- a number after a fill of blanks
padded_right : (w n : ℕ) → padded_integral (format_spec 32 3 0 w 18446744073709551615) false [] (decimal n) ≡ right w n
unfolding padded_integral char_count
padded_right w n =
    let fill : ℕ → List ℕ = λ k. repeat k (encode_utf8 32) in
    let p = w - length (decimal n) - 0 - 0 in
    let none : p - p ≡ 0 = omega arith in
    let all : p ≡ w - length (decimal n) = omega arith in
    ap (λ l. l ++ (decimal n ++ fill (p - p))) (append-nil (fill p ++ [] ++ []) ∙ append-nil (fill p ++ []) ∙ append-nil (fill p))
    ∙ ap (λ j. fill p ++ (decimal n ++ fill j)) none ∙ ap (λ l. fill p ++ l) (append-nil (decimal n))
    ∙ ap (λ j. fill j ++ decimal n) all ∙ ap (λ l. l ++ decimal n) (filled (w - length (decimal n)))

pub right_8 : (n : ℕ) → styled_decimal (format_spec 32 3 0 8 18446744073709551615) n ≡ right 8 n
right_8 n = padded_right 8 n

pub right_10 : (n : ℕ) → styled_decimal (format_spec 32 3 0 10 18446744073709551615) n ≡ right 10 n
right_10 n = padded_right 10 n
