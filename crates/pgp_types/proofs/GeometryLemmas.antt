-- Points and boxes as spellings: two numbers, and two points.
use Rattle.pgp_types.proofs.Common.{◌≡◌, ℕ, ◌+◌, List, ◌++◌, length, take, drop, refl, sym, ap, ◌∙◌, subst, arith, length-append, length-drop, length-take-le, take-append-drop, take-append_seam, drop-append_seam, Point, Box, IsPoint, IsBox, point_bytes, box_bytes}
use Rattle.pgp_types.proofs.Spelling.{IsSpelling, bytes_take, bytes_drop}
use Rattle.pgp_types.proofs.Numbers.{uint64_spelling}
use Rattle.pgp_types.specs.PartReading.{point_value}

take_front : (m : ℕ) (xs ys : List ℕ) → length xs ≡ m → take m (xs ++ ys) ≡ xs
take_front m xs ys is = rw (← is) (take-append_seam xs ys)

drop_front : (m : ℕ) (xs ys : List ℕ) → length xs ≡ m → drop m (xs ++ ys) ≡ ys
drop_front m xs ys is = rw (← is) (drop-append_seam xs ys)

-- a value that is made of two, spelled one after the other
pub pair_spelling : {U V W : Type 0} {IsU : U → Type 0} {IsV : V → Type 0} {u_bytes : U → List ℕ} {v_bytes : V → List ℕ}
    {m n : ℕ} {read_u : List ℕ → U} {read_v : List ℕ → V}
    → IsSpelling IsU u_bytes m read_u → IsSpelling IsV v_bytes n read_v
    → (pair : U → V → W) (first : W → U) (second : W → V) → ((w : W) → pair (first w) (second w) ≡ w)
    → ((u : U) (v : V) → first (pair u v) ≡ u) → ((u : U) (v : V) → second (pair u v) ≡ v)
    → IsSpelling (λ w. IsU (first w) × IsV (second w)) (λ w. u_bytes (first w) ++ v_bytes (second w)) (m + n)
    (λ bytes. pair (read_u (take m bytes)) (read_v (drop m bytes)))
pair_spelling {U} {V} {W} {IsU} {IsV} {u_bytes} {v_bytes} {m} {n} {read_u} {read_v} s t pair first second whole is_first is_second =
    let front : (bytes : List ℕ) → length bytes ≡ m + n → length (take m bytes) ≡ m =
    λ bytes l. length-take-le m bytes (omega arith) in
    let back : (bytes : List ℕ) → length bytes ≡ m + n → length (drop m bytes) ≡ n =
    λ bytes l. omega (arith, length-drop m bytes) in
    record {
      sized = λ w has. length-append (u_bytes (first w)) (v_bytes (second w)) ∙ omega (arith, s.sized _ has.0, t.sized _ has.1);
      has = λ bytes small l. (
        subst IsU (sym (is_first _ _)) (s.has _ (bytes_take m bytes small) (front bytes l)),
        subst IsV (sym (is_second _ _)) (t.has _ (bytes_drop m bytes small) (back bytes l)),
      );
      spelled = λ bytes small l.
          let u : u_bytes (first (pair (read_u (take m bytes)) (read_v (drop m bytes)))) ≡ take m bytes =
          ap u_bytes (is_first _ _) ∙ sym (s.spelled _ (bytes_take m bytes small) (front bytes l)) in
          let v : v_bytes (second (pair (read_u (take m bytes)) (read_v (drop m bytes)))) ≡ drop m bytes =
          ap v_bytes (is_second _ _) ∙ sym (t.spelled _ (bytes_drop m bytes small) (back bytes l)) in
          rw (u, v) (sym (take-append-drop m bytes));
      again = λ w has.
          let u : read_u (take m (u_bytes (first w) ++ v_bytes (second w))) ≡ first w =
          ap read_u (take_front m _ _ (s.sized _ has.0)) ∙ s.again _ has.0 in
          let v : read_v (drop m (u_bytes (first w) ++ v_bytes (second w))) ≡ second w =
          ap read_v (drop_front m _ _ (s.sized _ has.0)) ∙ t.again _ has.1 in
          rw (u, v) (whole w);
    }

abbrev box_of : List ℕ → Box
box_of bytes = record { upper_right = point_value (take 16 bytes); lower_left = point_value (drop 16 bytes) }

pub point_spelling : IsSpelling IsPoint point_bytes 16 point_value
point_spelling = pair_spelling uint64_spelling uint64_spelling
    (λ (x y : ℕ). record { x = x; y = y }) (λ (p : Point). p.x) (λ (p : Point). p.y)
    (λ p. refl) (λ x y. refl) (λ x y. refl)

pub box_spelling : IsSpelling IsBox box_bytes 32 box_of
box_spelling = pair_spelling point_spelling point_spelling
    (λ (p q : Point). record { upper_right = p; lower_left = q }) (λ (b : Box). b.upper_right) (λ (b : Box). b.lower_left)
    (λ b. refl) (λ p q. refl) (λ p q. refl)
