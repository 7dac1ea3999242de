-- What `random_range(0x21u8..0x7e)` draws.
use Rattle.pgp_auth.proofs.Common.{◌≡◌, ◌≢◌, ◌==◌, ℕ, ◌+◌, ◌^◌, List, [], ◌∷◌, ◌++◌, arith, refl, false, true, add-one, pos, length, AllPass, length-append, All-nil, All-cons, All-append, is_nonce_char, nat_tests, drawn_char, drawn_chars}
use Rattle.rand.specs.Uniform.{canon, DrawsBetween}
use Rattle.rand_core.specs.Stream.{Stream, next_u32}

abbrev under_93 : Stream → ℕ × Stream
under_93 = canon (2 ^ 32) next_u32 93

not_whole : (n : ℕ) → n ≡ 93 → n ≡ 256 → ⊥
not_whole n a b = omega arith

range_draw : (standard : Stream → ℕ → Stream → Type 0) (s t : Stream) (x : ℕ)
    → DrawsBetween pos (2 ^ 8) standard (canon (2 ^ 32) next_u32) (pos 33) (pos 126) s x t
    → (x ≡ 33 + (under_93 s).0) × (t ≡ (under_93 s).1)
range_draw standard s t x d =
    let value : pos x ≡ pos (33 + (under_93 s).0) = d.value (not_whole 93 refl) in
    let rest : t ≡ (under_93 s).1 = d.rest (not_whole 93 refl) in
    (cc, rest)

pub char_drawn : (standard : Stream → ℕ → Stream → Type 0) (s t : Stream) (x : ℕ)
    → DrawsBetween pos (2 ^ 8) standard (canon (2 ^ 32) next_u32) (pos 33) (pos 126) s x t → x ≢ 44 → (x, t) ≡ drawn_char s
unfolding drawn_char
char_drawn standard s t x d differs =
    let r = range_draw standard s t x d in
    let test : (33 + (under_93 s).0 == 44) ≡ false = grind (arith, nat_tests, r.0) in
    rw (test, r.0, r.1) refl

pub comma_drawn : (standard : Stream → ℕ → Stream → Type 0) (s t : Stream) (x : ℕ)
    → DrawsBetween pos (2 ^ 8) standard (canon (2 ^ 32) next_u32) (pos 33) (pos 126) s x t → x ≡ 44 → (126, t) ≡ drawn_char s
unfolding drawn_char
comma_drawn standard s t x d same =
    let r = range_draw standard s t x d in
    let test : (33 + (under_93 s).0 == 44) ≡ true = grind (arith, nat_tests, r.0) in
    rw (test, r.1) refl

-- one more character
pub drawn_next : (n : ℕ) (cs : List ℕ) (s t u : Stream) (c : ℕ) → (cs, t) ≡ drawn_chars n s → (c, u) ≡ drawn_char t → (cs ++ c ∷ [], u) ≡ drawn_chars (n + 1) s
unfolding drawn_chars
drawn_next n cs s t u c before next =
    rw (add-one, ← before, ← next) refl

pub no_char : AllPass is_nonce_char []
no_char = All-nil (λ c. is_nonce_char c ≡ true)

pub one_more : (cs : List ℕ) (c n : ℕ) → AllPass is_nonce_char cs → is_nonce_char c ≡ true → length cs ≡ n
    → AllPass is_nonce_char (cs ++ c ∷ []) × (length (cs ++ c ∷ []) ≡ n + 1)
one_more cs c n pass passes len =
    let both = length-append cs (c ∷ []) in
    (All-append (λ c. is_nonce_char c ≡ true) cs (c ∷ []) pass (All-cons (λ c. is_nonce_char c ≡ true) c [] passes (All-nil (λ c. is_nonce_char c ≡ true))), omega arith)
