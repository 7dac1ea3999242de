-- The messages inside a CopyData.
use Rattle.pgtrace_lines.proofs.Common.{◌≡◌, ◌≢◌, ℕ, ◌+◌, ◌<◌, ◌≤◌, ◌^◌, Bool, true, false, List, [], ◌∷◌, ◌++◌, length, take, drop, get_or, Option, Some, None, refl, sym, ap, subst, ◌∙◌, arith, IfNone, w32, w64, from_be_bytes, le-ltb, IsBytes, uint32, uint64, front_at, BeginsNoOther, number_takes, oid_number, uint64_number, number_begins, Inner, IsInner, IsInt32, IsInt64, XLogData, Keepalive, StatusUpdate, Feedback, spelled}

-- ---- numbers

begins64 : BeginsNoOther (λ n. n < 2 ^ 64) uint64
begins64 = number_begins 8 (λ n. n < 2 ^ 64) uint64 (λ l. from_be_bytes w64 l) uint64_number

begins32 : BeginsNoOther (λ n. n < 2 ^ 32) uint32
begins32 = number_begins 4 (λ n. n < 2 ^ 32) uint32 (λ l. from_be_bytes w32 l) oid_number

read64 : (bytes : List ℕ) → 8 ≤ length bytes → front_at 8 (λ l. from_be_bytes w64 l) bytes ≡ Some (from_be_bytes w64 (take 8 bytes), drop 8 bytes)
read64 bytes long = rw (le-ltb (length bytes) 8 long) refl

pub int64_front : (bytes front rest : List ℕ) (n : ℕ) → IsBytes bytes → n ≡ from_be_bytes w64 front → front ≡ take 8 bytes → rest ≡ drop 8 bytes → length rest + 8 ≡ length bytes → IsInt64 bytes n rest
int64_front bytes front rest n h is f r long =
    let t = number_takes 8 (λ n. n < 2 ^ 64) uint64 (λ l. from_be_bytes w64 l) uint64_number bytes (from_be_bytes w64 (take 8 bytes), drop 8 bytes) h (read64 bytes (omega (arith, long))) in
    let same : from_be_bytes w64 (take 8 bytes) ≡ n = ap (λ l. from_be_bytes w64 l) (sym f) ∙ sym is in
    record { fits = subst (λ k. k < 2 ^ 64) same t.fits; whole = t.parts ∙ ap (λ k. uint64 k ++ drop 8 bytes) same ∙ ap (λ l. uint64 n ++ l) (sym r); long = sym long }

read32 : (bytes : List ℕ) → 4 ≤ length bytes → front_at 4 (λ l. from_be_bytes w32 l) bytes ≡ Some (from_be_bytes w32 (take 4 bytes), drop 4 bytes)
read32 bytes long = rw (le-ltb (length bytes) 4 long) refl

pub int32_front : (bytes front rest : List ℕ) (n : ℕ) → IsBytes bytes → n ≡ from_be_bytes w32 front → front ≡ take 4 bytes → rest ≡ drop 4 bytes → length rest + 4 ≡ length bytes → IsInt32 bytes n rest
int32_front bytes front rest n h is f r long =
    let t = number_takes 4 (λ n. n < 2 ^ 32) uint32 (λ l. from_be_bytes w32 l) oid_number bytes (from_be_bytes w32 (take 4 bytes), drop 4 bytes) h (read32 bytes (omega (arith, long))) in
    let same : from_be_bytes w32 (take 4 bytes) ≡ n = ap (λ l. from_be_bytes w32 l) (sym f) ∙ sym is in
    record { fits = subst (λ k. k < 2 ^ 32) same t.fits; whole = t.parts ∙ ap (λ k. uint32 k ++ drop 4 bytes) same ∙ ap (λ l. uint32 n ++ l) (sym r); long = sym long }

-- ---- how long a message is

abbrev size : Inner → ℕ
size (XLogData start end clock bytes) = 25 + length bytes
size (Keepalive end clock reply) = 18
size (StatusUpdate written flushed applied clock reply) = 34
size (Feedback clock xmin epoch catalog_xmin catalog_epoch) = 25

sized : (m : Inner) → length (spelled m) ≡ size m
unfolding uint64 uint32
sized (XLogData start end clock bytes) = omega arith
sized (Keepalive end clock reply) = refl
sized (StatusUpdate written flushed applied clock reply) = refl
sized (Feedback clock xmin epoch catalog_xmin catalog_epoch) = refl

abbrev first : List ℕ → ℕ
first bytes = get_or bytes 0 0

-- where bytes of one letter aren't as long, they are no message
pub no_log : (rest : List ℕ) → length rest < 24 → (m : Inner) → IsInner false (119 ∷ rest) m → ⊥
no_log rest short (XLogData start end clock bytes) is = absurd (omega (arith, short, ap length is.whole, sized (XLogData start end clock bytes)))
no_log rest short (Keepalive end clock reply) is = let e : 119 ≡ 107 = ap first is.whole in absurd (omega (arith, e))
no_log rest short (StatusUpdate written flushed applied clock reply) is = let e : true ≡ false = is.sent in absurd cc
no_log rest short (Feedback clock xmin epoch catalog_xmin catalog_epoch) is = let e : true ≡ false = is.sent in absurd cc

pub no_keepalive : (rest : List ℕ) → length rest ≢ 17 → (m : Inner) → IsInner false (107 ∷ rest) m → ⊥
no_keepalive rest other (XLogData start end clock bytes) is = let e : 107 ≡ 119 = ap first is.whole in absurd (omega (arith, e))
no_keepalive rest other (Keepalive end clock reply) is = other (omega (arith, ap length is.whole, sized (Keepalive end clock reply)))
no_keepalive rest other (StatusUpdate written flushed applied clock reply) is = let e : true ≡ false = is.sent in absurd cc
no_keepalive rest other (Feedback clock xmin epoch catalog_xmin catalog_epoch) is = let e : true ≡ false = is.sent in absurd cc

pub no_status : (rest : List ℕ) → length rest ≢ 33 → (m : Inner) → IsInner true (114 ∷ rest) m → ⊥
no_status rest other (XLogData start end clock bytes) is = let e : false ≡ true = is.sent in absurd cc
no_status rest other (Keepalive end clock reply) is = let e : false ≡ true = is.sent in absurd cc
no_status rest other (StatusUpdate written flushed applied clock reply) is = other (omega (arith, ap length is.whole, sized (StatusUpdate written flushed applied clock reply)))
no_status rest other (Feedback clock xmin epoch catalog_xmin catalog_epoch) is = let e : 114 ≡ 104 = ap first is.whole in absurd (omega (arith, e))

pub no_feedback : (rest : List ℕ) → length rest ≢ 24 → (m : Inner) → IsInner true (104 ∷ rest) m → ⊥
no_feedback rest other (XLogData start end clock bytes) is = let e : false ≡ true = is.sent in absurd cc
no_feedback rest other (Keepalive end clock reply) is = let e : false ≡ true = is.sent in absurd cc
no_feedback rest other (StatusUpdate written flushed applied clock reply) is = let e : 104 ≡ 114 = ap first is.whole in absurd (omega (arith, e))
no_feedback rest other (Feedback clock xmin epoch catalog_xmin catalog_epoch) is = other (omega (arith, ap length is.whole, sized (Feedback clock xmin epoch catalog_xmin catalog_epoch)))

pub none_so : {X : Type 0} {A B : Type 0} (r : Option X) → (A → B) → IfNone r A → IfNone r B
none_so None f a = f a
none_so (Some x) f a = tt

-- ---- bytes are one message

behind : (x y : ℕ) (xs ys : List ℕ) → x ∷ xs ≡ y ∷ ys → xs ≡ ys
behind x y xs ys e = ap (drop 1) e

last_one : (x y : ℕ) → x ∷ [] ≡ y ∷ [] → x ≡ y
last_one x y e = ap first e

ended : (xs : List ℕ) → xs ++ [] ≡ xs
ended [] = refl
ended (x ∷ xs) = ap (λ l. x ∷ l) (ended xs)

one_log : (s e c s2 e2 c2 : ℕ) (b b2 : List ℕ) → (s < 2 ^ 64) × (e < 2 ^ 64) × (c < 2 ^ 64) → (s2 < 2 ^ 64) × (e2 < 2 ^ 64) × (c2 < 2 ^ 64)
    → uint64 s ++ uint64 e ++ uint64 c ++ b ≡ uint64 s2 ++ uint64 e2 ++ uint64 c2 ++ b2 → XLogData s e c b ≡ XLogData s2 e2 c2 b2
unfolding uint64
one_log s e c s2 e2 c2 b b2 f g same =
    let one = begins64 s s2 (uint64 e ++ uint64 c ++ b) (uint64 e2 ++ uint64 c2 ++ b2) f.0 g.0 same in
    let two = begins64 e e2 (uint64 c ++ b) (uint64 c2 ++ b2) f.1 g.1 one.1 in
    let three = begins64 c c2 b b2 f.2 g.2 two.1 in
    ap (λ k. XLogData k e c b) one.0 ∙ ap (λ k. XLogData s2 k c b) two.0 ∙ ap (λ k. XLogData s2 e2 k b) three.0 ∙ ap (λ l. XLogData s2 e2 c2 l) three.1

one_keepalive : (e c r e2 c2 r2 : ℕ) → (e < 2 ^ 64) × (c < 2 ^ 64) → (e2 < 2 ^ 64) × (c2 < 2 ^ 64) → uint64 e ++ uint64 c ++ r ∷ [] ≡ uint64 e2 ++ uint64 c2 ++ r2 ∷ [] → Keepalive e c r ≡ Keepalive e2 c2 r2
unfolding uint64
one_keepalive e c r e2 c2 r2 f g same =
    let one = begins64 e e2 (uint64 c ++ r ∷ []) (uint64 c2 ++ r2 ∷ []) f.0 g.0 same in
    let two = begins64 c c2 (r ∷ []) (r2 ∷ []) f.1 g.1 one.1 in
    ap (λ k. Keepalive k c r) one.0 ∙ ap (λ k. Keepalive e2 k r) two.0 ∙ ap (λ k. Keepalive e2 c2 k) (last_one r r2 two.1)

one_status : (w f a c r w2 f2 a2 c2 r2 : ℕ) → (w < 2 ^ 64) × (f < 2 ^ 64) × (a < 2 ^ 64) × (c < 2 ^ 64) → (w2 < 2 ^ 64) × (f2 < 2 ^ 64) × (a2 < 2 ^ 64) × (c2 < 2 ^ 64)
    → uint64 w ++ uint64 f ++ uint64 a ++ uint64 c ++ r ∷ [] ≡ uint64 w2 ++ uint64 f2 ++ uint64 a2 ++ uint64 c2 ++ r2 ∷ [] → StatusUpdate w f a c r ≡ StatusUpdate w2 f2 a2 c2 r2
unfolding uint64
one_status w f a c r w2 f2 a2 c2 r2 p q same =
    let one = begins64 w w2 (uint64 f ++ uint64 a ++ uint64 c ++ r ∷ []) (uint64 f2 ++ uint64 a2 ++ uint64 c2 ++ r2 ∷ []) p.0 q.0 same in
    let two = begins64 f f2 (uint64 a ++ uint64 c ++ r ∷ []) (uint64 a2 ++ uint64 c2 ++ r2 ∷ []) p.1 q.1 one.1 in
    let three = begins64 a a2 (uint64 c ++ r ∷ []) (uint64 c2 ++ r2 ∷ []) p.2 q.2 two.1 in
    let four = begins64 c c2 (r ∷ []) (r2 ∷ []) p.3 q.3 three.1 in
    ap (λ k. StatusUpdate k f a c r) one.0 ∙ ap (λ k. StatusUpdate w2 k a c r) two.0 ∙ ap (λ k. StatusUpdate w2 f2 k c r) three.0 ∙ ap (λ k. StatusUpdate w2 f2 a2 k r) four.0
    ∙ ap (λ k. StatusUpdate w2 f2 a2 c2 k) (last_one r r2 four.1)

one_feedback : (c x e y d c2 x2 e2 y2 d2 : ℕ) → (c < 2 ^ 64) × (x < 2 ^ 32) × (e < 2 ^ 32) × (y < 2 ^ 32) × (d < 2 ^ 32) → (c2 < 2 ^ 64) × (x2 < 2 ^ 32) × (e2 < 2 ^ 32) × (y2 < 2 ^ 32) × (d2 < 2 ^ 32)
    → uint64 c ++ uint32 x ++ uint32 e ++ uint32 y ++ uint32 d ≡ uint64 c2 ++ uint32 x2 ++ uint32 e2 ++ uint32 y2 ++ uint32 d2 → Feedback c x e y d ≡ Feedback c2 x2 e2 y2 d2
unfolding uint64 uint32
one_feedback c x e y d c2 x2 e2 y2 d2 p q same =
    let one = begins64 c c2 (uint32 x ++ uint32 e ++ uint32 y ++ uint32 d) (uint32 x2 ++ uint32 e2 ++ uint32 y2 ++ uint32 d2) p.0 q.0 same in
    let two = begins32 x x2 (uint32 e ++ uint32 y ++ uint32 d) (uint32 e2 ++ uint32 y2 ++ uint32 d2) p.1 q.1 one.1 in
    let three = begins32 e e2 (uint32 y ++ uint32 d) (uint32 y2 ++ uint32 d2) p.2 q.2 two.1 in
    let four = begins32 y y2 (uint32 d) (uint32 d2) p.3 q.3 three.1 in
    let five = begins32 d d2 [] [] p.4 q.4 (ended (uint32 d) ∙ four.1 ∙ sym (ended (uint32 d2))) in
    ap (λ k. Feedback k x e y d) one.0 ∙ ap (λ k. Feedback c2 k e y d) two.0 ∙ ap (λ k. Feedback c2 x2 k y d) three.0 ∙ ap (λ k. Feedback c2 x2 e2 k d) four.0
    ∙ ap (λ k. Feedback c2 x2 e2 y2 k) five.0

no_letter : (standby : Bool) (bytes : List ℕ) (m n : Inner) → IsInner standby bytes m → IsInner standby bytes n → first (spelled m) ≡ first (spelled n)
no_letter standby bytes m n a b = ap first (sym a.whole ∙ b.whole)

pub one_inner : (standby : Bool) (bytes : List ℕ) (m n : Inner) → IsInner standby bytes m → IsInner standby bytes n → m ≡ n
one_inner standby bytes (XLogData s e c b) (XLogData s2 e2 c2 b2) p q = one_log s e c s2 e2 c2 b b2 p.fits q.fits (behind 119 119 (uint64 s ++ uint64 e ++ uint64 c ++ b) (uint64 s2 ++ uint64 e2 ++ uint64 c2 ++ b2) (sym p.whole ∙ q.whole))
one_inner standby bytes (Keepalive e c r) (Keepalive e2 c2 r2) p q = one_keepalive e c r e2 c2 r2 p.fits q.fits (behind 107 107 (uint64 e ++ uint64 c ++ r ∷ []) (uint64 e2 ++ uint64 c2 ++ r2 ∷ []) (sym p.whole ∙ q.whole))
one_inner standby bytes (StatusUpdate w f a c r) (StatusUpdate w2 f2 a2 c2 r2) p q =
    one_status w f a c r w2 f2 a2 c2 r2 p.fits q.fits (behind 114 114 (uint64 w ++ uint64 f ++ uint64 a ++ uint64 c ++ r ∷ []) (uint64 w2 ++ uint64 f2 ++ uint64 a2 ++ uint64 c2 ++ r2 ∷ []) (sym p.whole ∙ q.whole))
one_inner standby bytes (Feedback c x e y d) (Feedback c2 x2 e2 y2 d2) p q =
    one_feedback c x e y d c2 x2 e2 y2 d2 p.fits q.fits (behind 104 104 (uint64 c ++ uint32 x ++ uint32 e ++ uint32 y ++ uint32 d) (uint64 c2 ++ uint32 x2 ++ uint32 e2 ++ uint32 y2 ++ uint32 d2) (sym p.whole ∙ q.whole))
one_inner standby bytes (XLogData s e c b) (Keepalive e2 c2 r2) p q = let h : 119 ≡ 107 = no_letter standby bytes (XLogData s e c b) (Keepalive e2 c2 r2) p q in absurd (omega (arith, h))
one_inner standby bytes (XLogData s e c b) (StatusUpdate w2 f2 a2 c2 r2) p q = let h : 119 ≡ 114 = no_letter standby bytes (XLogData s e c b) (StatusUpdate w2 f2 a2 c2 r2) p q in absurd (omega (arith, h))
one_inner standby bytes (XLogData s e c b) (Feedback c2 x2 e2 y2 d2) p q = let h : 119 ≡ 104 = no_letter standby bytes (XLogData s e c b) (Feedback c2 x2 e2 y2 d2) p q in absurd (omega (arith, h))
one_inner standby bytes (Keepalive e c r) (XLogData s2 e2 c2 b2) p q = let h : 107 ≡ 119 = no_letter standby bytes (Keepalive e c r) (XLogData s2 e2 c2 b2) p q in absurd (omega (arith, h))
one_inner standby bytes (Keepalive e c r) (StatusUpdate w2 f2 a2 c2 r2) p q = let h : 107 ≡ 114 = no_letter standby bytes (Keepalive e c r) (StatusUpdate w2 f2 a2 c2 r2) p q in absurd (omega (arith, h))
one_inner standby bytes (Keepalive e c r) (Feedback c2 x2 e2 y2 d2) p q = let h : 107 ≡ 104 = no_letter standby bytes (Keepalive e c r) (Feedback c2 x2 e2 y2 d2) p q in absurd (omega (arith, h))
one_inner standby bytes (StatusUpdate w f a c r) (XLogData s2 e2 c2 b2) p q = let h : 114 ≡ 119 = no_letter standby bytes (StatusUpdate w f a c r) (XLogData s2 e2 c2 b2) p q in absurd (omega (arith, h))
one_inner standby bytes (StatusUpdate w f a c r) (Keepalive e2 c2 r2) p q = let h : 114 ≡ 107 = no_letter standby bytes (StatusUpdate w f a c r) (Keepalive e2 c2 r2) p q in absurd (omega (arith, h))
one_inner standby bytes (StatusUpdate w f a c r) (Feedback c2 x2 e2 y2 d2) p q = let h : 114 ≡ 104 = no_letter standby bytes (StatusUpdate w f a c r) (Feedback c2 x2 e2 y2 d2) p q in absurd (omega (arith, h))
one_inner standby bytes (Feedback c x e y d) (XLogData s2 e2 c2 b2) p q = let h : 104 ≡ 119 = no_letter standby bytes (Feedback c x e y d) (XLogData s2 e2 c2 b2) p q in absurd (omega (arith, h))
one_inner standby bytes (Feedback c x e y d) (Keepalive e2 c2 r2) p q = let h : 104 ≡ 107 = no_letter standby bytes (Feedback c x e y d) (Keepalive e2 c2 r2) p q in absurd (omega (arith, h))
one_inner standby bytes (Feedback c x e y d) (StatusUpdate w2 f2 a2 c2 r2) p q = let h : 104 ≡ 114 = no_letter standby bytes (Feedback c x e y d) (StatusUpdate w2 f2 a2 c2 r2) p q in absurd (omega (arith, h))
