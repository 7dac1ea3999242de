-- What reads a part reads what its grammar says.
use Rattle.pgp_types.proofs.Common.{◌≡◌, ℕ, ℤ, pos, negsuc, ◌<◌, ◌≤◌, Bool, true, false, cond, ltb, List, ◌++◌, length, take, drop, Option, Some, None, Result, Ok, Err, refl, sym, ap, subst, ◌∙◌, append_assoc, arith, inl, inr, ◌⊎◌, FitsSigned, length-append, w32, IsUtf8, is_utf8, IsUtf8-from_is_utf8, is_utf8-from_IsUtf8, ltb-false, ltb-true, le-ltb, lt-ltb, take_at, drop_at, take-append-drop, length-take, Error, length_cause, int32, uint32, IsBytes, int32_at, front_at, length_fits, fits_of, ok, ok_is, differ, IsBytes-after, err, err_is, bind_ok, bind_err, guard_ok, guard_err, int32_number, number_takes, number_again, number_short, short_number, front_takes, front_again, int32_spelled, Part, Begins, IsNegative, IsShort, NullableSpelled, fixed_part, natural, sized, only, ◌then◌, Reader, and_then, fixed_at, natural_of, natural_at, split_at, sized_at, nullable_of, nullable_at, tested, only_at, paired, then_at}
use Rattle.pgp_types.specs.Part.{nullable}
use Rattle.pgp_types.proofs.Spelling.{IsSpelling, bytes_take}
use Rattle.pgp_base.proofs.PartLemmas.{guard_none}
use Rattle.std.proofs.Common.{true≢false}

pub record IsPart {V : Type 0} (p : Part V) (read : Reader V) : Type 0 where
  pub found : (bytes : List ℕ) (x : V) (rest : List ℕ) → IsBytes bytes → read bytes ≡ Ok (x, rest) → Begins p bytes x rest
  pub again : (x : V) (front rest : List ℕ) → p.Spelled x front → read (front ++ rest) ≡ Ok (x, rest)
  pub refused : (bytes : List ℕ) (e : Error) → IsBytes bytes → read bytes ≡ Err e → p.Refused bytes e
  pub refuses : (bytes : List ℕ) (e : Error) → p.Refused bytes e → read bytes ≡ Err e

pub begins_read : {V : Type 0} {p : Part V} {read : Reader V} → IsPart p read → (bytes : List ℕ) (x : V) (rest : List ℕ) → Begins p bytes x rest → read bytes ≡ Ok (x, rest)
begins_read {V} {p} {read} part bytes x rest b = ap read b.whole ∙ part.again x b.front rest b.spelled

pub rest_bytes : {V : Type 0} {p : Part V} → (bytes : List ℕ) (x : V) (rest : List ℕ) → Begins p bytes x rest → IsBytes bytes → IsBytes rest
rest_bytes bytes x rest b h = IsBytes-after b.front rest bytes b.whole h

-- one reading after another
pub and_then_ok : {U W : Type 0} (r : Result (U × List ℕ) Error) (f : U → List ℕ → Result W Error) (y : W) → and_then r f ≡ ok y → (x : U × List ℕ) × (r ≡ Ok x) × (f x.0 x.1 ≡ Ok y)
and_then_ok (Ok x) f y e = (x, refl, e)
and_then_ok (Err d) f y e = absurd (differ y d (sym e))

pub and_then_err : {U W : Type 0} (r : Result (U × List ℕ) Error) (f : U → List ℕ → Result W Error) (e : Error) → and_then r f ≡ err e → (r ≡ Err e) ⊎ ((x : U × List ℕ) × (r ≡ Ok x) × (f x.0 x.1 ≡ Err e))
and_then_err (Ok x) f e h = inr (x, refl, h)
and_then_err {U} {W} (Err d) f e h = inl (ap (λ d. err d) (err_is {A = W} d e h))

-- Numbers that have a sign and are not negative.

pub int32_pos : (n : ℕ) → int32 (pos n) ≡ uint32 n
int32_pos n = int32_spelled (pos n)

pub signed_fits : (n : ℕ) → length_cause n ≡ None → FitsSigned w32 (pos n)
signed_fits n h = record { sfits = fits_of n h }

natural_after : (negative : Error) (bytes : List ℕ) (z : ℤ) (after : List ℕ) (x : ℕ) (rest : List ℕ)
    → bytes ≡ int32 z ++ after → FitsSigned w32 z → natural_of negative z after ≡ Ok (x, rest) → Begins (natural negative) bytes x rest
natural_after negative bytes (pos n) after x rest parts fits e =
    subst (λ (p : ℕ × List ℕ). Begins (natural negative) bytes p.0 p.1) (ok_is (n, after) (x, rest) e)
    (record { front = uint32 n; whole = parts ∙ ap (λ s. s ++ after) (int32_pos n); spelled = (length_fits n fits.sfits, refl) })
natural_after negative bytes (negsuc k) after x rest parts fits e = absurd (differ (x, rest) negative (sym e))

natural_below : (negative : Error) (bytes : List ℕ) (z : ℤ) (after : List ℕ) (e : Error)
    → bytes ≡ int32 z ++ after → FitsSigned w32 z → natural_of negative z after ≡ Err e → IsNegative bytes × (e ≡ negative)
natural_below negative bytes (pos n) after e parts fits h = absurd (differ (n, after) e h)
natural_below negative bytes (negsuc k) after e parts fits h =
    (record { below = k; fits = fits; rest = after; whole = parts }, err_is {A = ℕ × List ℕ} e negative (sym h))

pub natural_part : (negative : Error) → IsPart (natural negative) (natural_at negative)
unfolding natural_at
natural_part negative = record {
  found = λ bytes x rest h e.
      let w = bind_ok (int32_at bytes) (λ x. natural_of negative x.0 x.1) (x, rest) e in
      let t = number_takes 4 (FitsSigned w32) int32 _ int32_number bytes w.0 h w.1 in
      natural_after negative bytes w.0.0 w.0.1 x rest t.parts t.fits w.2;
  again = λ x front rest s. rw (s.1, sym (int32_pos x), number_again 4 (FitsSigned w32) int32 _ int32_number (pos x) rest (signed_fits x s.0)) refl;
  refused = λ bytes e h is.
      elim (bind_err (int32_at bytes) (λ x. natural_of negative x.0 x.1) e is) [
        | inl cut ↦ inl (number_short 4 (FitsSigned w32) int32 _ int32_number bytes cut.0, cut.1)
        | inr w ↦
            let t = number_takes 4 (FitsSigned w32) int32 _ int32_number bytes w.0 h w.1 in
            inr (natural_below negative bytes w.0.0 w.0.1 e t.parts t.fits w.2)
      ];
  refuses = λ bytes e r.
      elim r [
        | inl cut ↦ rw (short_number 4 (FitsSigned w32) int32 _ int32_number bytes cut.0, cut.1) refl
        | inr below ↦ rw (below.0.whole, number_again 4 (FitsSigned w32) int32 _ int32_number (negsuc below.0.below) below.0.rest below.0.fits, below.1) refl
      ];
}

-- So many bytes.

split_found : (short : Error) (n : ℕ) (bytes x rest : List ℕ) → split_at short n bytes ≡ Ok (x, rest) → (length x ≡ n) × (bytes ≡ x ++ rest)
split_found short n bytes x rest e =
    let g = guard_ok (ltb (length bytes) n) short (take n bytes, drop n bytes) (x, rest) e in
    let enough : n ≤ length bytes = ltb-false _ _ g.0 in
    let front : take n bytes ≡ x = ap (λ p. p.0) g.1 in
    let back : drop n bytes ≡ rest = ap (λ p. p.1) g.1 in
    (omega (arith, length-take n bytes, ap length front), sym (take-append-drop n bytes) ∙ (ap (λ l. l ++ drop n bytes) front ∙ ap (λ l. x ++ l) back))

split_again : (short : Error) (n : ℕ) (v rest : List ℕ) → length v ≡ n → split_at short n (v ++ rest) ≡ Ok (v, rest)
split_again short n v rest len =
    let long : ltb (length (v ++ rest)) n ≡ false = le-ltb _ _ (omega (arith, length-append v rest)) in
    rw (long, take_at v rest n len, drop_at v rest n len) refl

split_refused : (short : Error) (n : ℕ) (bytes : List ℕ) (e : Error) → split_at short n bytes ≡ Err e → (length bytes < n) × (e ≡ short)
split_refused short n bytes e h =
    let g = guard_err (ltb (length bytes) n) short e (take n bytes, drop n bytes) h in
    (ltb-true _ _ g.0, g.1)

split_refuses : (short : Error) (n : ℕ) (bytes : List ℕ) → length bytes < n → split_at short n bytes ≡ Err short
split_refuses short n bytes lt = rw (lt-ltb _ _ lt) refl

-- Bytes after their length.

sized_whole : (n : ℕ) (front v rest after : List ℕ) → front ≡ uint32 n → length v ≡ n → after ≡ v ++ rest → front ++ after ≡ (uint32 (length v) ++ v) ++ rest
sized_whole n front v rest after is len split =
    ap (λ f. f ++ after) is ∙ (ap (λ a. uint32 n ++ a) split ∙ (ap (λ n. uint32 n ++ (v ++ rest)) (sym len) ∙ sym (append_assoc (uint32 (length v)) v rest)))

pub sized_part : (wrong : Error) → IsPart (sized wrong) (sized_at wrong)
unfolding sized_at
sized_part wrong = record {
  found = λ bytes v rest h e.
      let w = and_then_ok (natural_at wrong bytes) (split_at wrong) (v, rest) e in
      let b = (natural_part wrong).found bytes w.0.0 w.0.1 h w.1 in
      let s = split_found wrong w.0.0 w.0.1 v rest w.2 in
      record {
        front = uint32 (length v) ++ v;
        whole = b.whole ∙ sized_whole w.0.0 b.front v rest w.0.1 b.spelled.1 s.0 s.1;
        spelled = (subst (λ n. length_cause n ≡ None) (sym s.0) b.spelled.0, refl);
      };
  again = λ v front rest s.
      let whole : front ++ rest ≡ uint32 (length v) ++ (v ++ rest) = ap (λ f. f ++ rest) s.1 ∙ append_assoc (uint32 (length v)) v rest in
      rw (whole, (natural_part wrong).again (length v) (uint32 (length v)) (v ++ rest) (s.0, refl), split_again wrong (length v) v rest refl) refl;
  refused = λ bytes e h is.
      elim (and_then_err (natural_at wrong bytes) (split_at wrong) e is) [
        | inl r ↦ inl ((natural_part wrong).refused bytes e h r)
        | inr w ↦
            let b = (natural_part wrong).found bytes w.0.0 w.0.1 h w.1 in
            let s = split_refused wrong w.0.0 w.0.1 e w.2 in
            inr (record { len = w.0.0; fits = b.spelled.0; rest = w.0.1; whole = b.whole ∙ ap (λ f. f ++ w.0.1) b.spelled.1; short = s.0 }, s.1)
      ];
  refuses = λ bytes e r.
      elim r [
        | inl n ↦ rw ((natural_part wrong).refuses bytes e n) refl
        | inr cut ↦ rw (cut.0.whole, (natural_part wrong).again cut.0.len (uint32 cut.0.len) cut.0.rest (cut.0.fits, refl), split_refuses wrong cut.0.len cut.0.rest cut.0.short, cut.1) refl
      ];
}

-- The same, or a null.

nullable_after : (past_end : Error) (bytes : List ℕ) (z : ℤ) (after : List ℕ) (x : Option (List ℕ)) (rest : List ℕ)
    → bytes ≡ int32 z ++ after → FitsSigned w32 z → nullable_of past_end z after ≡ Ok (x, rest) → Begins (nullable past_end) bytes x rest
nullable_after past_end bytes (negsuc k) after x rest parts fits e =
    subst (λ (p : Option (List ℕ) × List ℕ). Begins (nullable past_end) bytes p.0 p.1) (ok_is (None, after) (x, rest) e)
    (record { front = int32 (negsuc k); whole = parts; spelled = (k, fits, refl) })
nullable_after past_end bytes (pos n) after x rest parts fits e =
    let g = guard_ok (ltb (length after) n) past_end (Some (take n after), drop n after) (x, rest) e in
    let enough : n ≤ length after = ltb-false _ _ g.0 in
    let len : length (take n after) ≡ n = omega (arith, length-take n after) in
    subst (λ (p : Option (List ℕ) × List ℕ). Begins (nullable past_end) bytes p.0 p.1) g.1
    (record {
      front = uint32 (length (take n after)) ++ take n after;
      whole = parts ∙ sized_whole n (int32 (pos n)) (take n after) (drop n after) after (int32_pos n) len (sym (take-append-drop n after));
      spelled = (subst (λ n. length_cause n ≡ None) (sym len) (length_fits n fits.sfits), refl);
    })

nullable_short : (past_end : Error) (bytes : List ℕ) (z : ℤ) (after : List ℕ) (e : Error)
    → bytes ≡ int32 z ++ after → FitsSigned w32 z → nullable_of past_end z after ≡ Err e → IsShort bytes × (e ≡ past_end)
nullable_short past_end bytes (negsuc k) after e parts fits h = absurd (differ (None, after) e h)
nullable_short past_end bytes (pos n) after e parts fits h =
    let g = guard_err (ltb (length after) n) past_end e (Some (take n after), drop n after) h in
    (record { len = n; fits = length_fits n fits.sfits; rest = after; whole = parts ∙ ap (λ s. s ++ after) (int32_pos n); short = ltb-true _ _ g.0 }, g.1)

nullable_again : (past_end : Error) (x : Option (List ℕ)) (front rest : List ℕ) → NullableSpelled x front → nullable_at past_end (front ++ rest) ≡ Ok (x, rest)
unfolding nullable_at
nullable_again past_end None front rest s = rw (s.2, number_again 4 (FitsSigned w32) int32 _ int32_number (negsuc s.0) rest s.1) refl
nullable_again past_end (Some v) front rest s =
    let whole : front ++ rest ≡ int32 (pos (length v)) ++ (v ++ rest) = ap (λ f. f ++ rest) s.1 ∙ (append_assoc (uint32 (length v)) v rest ∙ ap (λ f. f ++ (v ++ rest)) (sym (int32_pos (length v)))) in
    let long : ltb (length (v ++ rest)) (length v) ≡ false = le-ltb _ _ (omega (arith, length-append v rest)) in
    rw (whole, number_again 4 (FitsSigned w32) int32 _ int32_number (pos (length v)) (v ++ rest) (signed_fits (length v) s.0), long, take_at v rest (length v) refl, drop_at v rest (length v) refl) refl

pub nullable_part : (past_end : Error) → IsPart (nullable past_end) (nullable_at past_end)
unfolding nullable_at
nullable_part past_end = record {
  found = λ bytes x rest h e.
      let w = bind_ok (int32_at bytes) (λ x. nullable_of past_end x.0 x.1) (x, rest) e in
      let t = number_takes 4 (FitsSigned w32) int32 _ int32_number bytes w.0 h w.1 in
      nullable_after past_end bytes w.0.0 w.0.1 x rest t.parts t.fits w.2;
  again = nullable_again past_end;
  refused = λ bytes e h is.
      elim (bind_err (int32_at bytes) (λ x. nullable_of past_end x.0 x.1) e is) [
        | inl cut ↦ inl (number_short 4 (FitsSigned w32) int32 _ int32_number bytes cut.0, cut.1)
        | inr w ↦
            let t = number_takes 4 (FitsSigned w32) int32 _ int32_number bytes w.0 h w.1 in
            inr (nullable_short past_end bytes w.0.0 w.0.1 e t.parts t.fits w.2)
      ];
  refuses = λ bytes e r.
      elim r [
        | inl cut ↦ rw (short_number 4 (FitsSigned w32) int32 _ int32_number bytes cut.0, cut.1) refl
        | inr cut ↦ rw (cut.0.whole, sym (int32_pos cut.0.len), number_again 4 (FitsSigned w32) int32 _ int32_number (pos cut.0.len) cut.0.rest (signed_fits cut.0.len cut.0.fits), lt-ltb _ _ cut.0.short, cut.1) refl
      ];
}

-- So many bytes that spell a value.

front_short : {A : Type 0} (n : ℕ) (value : List ℕ → A) (bytes : List ℕ) → front_at n value bytes ≡ None → length bytes < n
front_short n value bytes e = ltb-true _ _ (guard_none (ltb (length bytes) n) (value (take n bytes), drop n bytes) e)

pub fixed_is : {V : Type 0} {IsValue : V → Type 0} {written : V → List ℕ} {size : ℕ} {read : List ℕ → V}
    → IsSpelling IsValue written size read → IsPart (fixed_part IsValue written size) (fixed_at read size)
fixed_is {V} {IsValue} {written} {size} {read} s = record {
  found = λ bytes x rest h e.
      let w = bind_ok (front_at size read bytes) (λ x. ok x) (x, rest) e in
      let t = front_takes size read bytes w.0 w.1 in
      let long : length (take size bytes) ≡ size = omega (arith, length-take size bytes, t.0) in
      let small = bytes_take size bytes h in
      subst (λ (p : V × List ℕ). Begins (fixed_part IsValue written size) bytes p.0 p.1) (ok_is w.0 (x, rest) w.2)
      (record { front = take size bytes; whole = t.2; spelled = (subst IsValue (sym t.1) (s.has (take size bytes) small long), s.spelled (take size bytes) small long ∙ ap written (sym t.1)) });
  again = λ x front rest p.
      let len : length front ≡ size = ap length p.1 ∙ s.sized x p.0 in
      let value : read front ≡ x = ap read p.1 ∙ s.again x p.0 in
      rw (front_again size read front rest len, value) refl;
  refused = λ bytes e h is.
      elim (bind_err (front_at size read bytes) (λ x. ok x) e is) [
        | inl cut ↦ (front_short size read bytes cut.0, cut.1)
        | inr w ↦ absurd (differ w.0 e w.2)
      ];
  refuses = λ bytes e r. rw (lt-ltb _ _ r.0, r.1) refl;
}

-- A part which has to be such a value.

accept_ok : {A : Type 0} (b : Bool) (e : Error) (x y : A) → cond b (Ok x) (Err e) ≡ ok y → (b ≡ true) × (x ≡ y)
accept_ok true e x y h = (refl, ok_is x y h)
accept_ok false e x y h = absurd (differ y e (sym h))

accept_err : {A : Type 0} (b : Bool) (e d : Error) (x : A) → cond b (Ok x) (Err e) ≡ err d → (b ≡ false) × (d ≡ e)
accept_err true e d x h = absurd (differ x d h)
accept_err {A} false e d x h = (refl, err_is {A = A} d e (sym h))

-- a test of what has to be
pub record IsTest {V : Type 0} (Is : V → Type 0) (is : V → Bool) : Type 0 where
  pub yes : (x : V) → is x ≡ true → Is x
  pub passes : (x : V) → Is x → is x ≡ true
  pub fails : (x : V) → ¬ (Is x) → is x ≡ false

pub not_passed : (b : Bool) → ¬ (b ≡ true) → b ≡ false
not_passed true never = absurd (never refl)
not_passed false never = refl

pub utf8_test : IsTest IsUtf8 is_utf8
utf8_test = record { yes = IsUtf8-from_is_utf8; passes = is_utf8-from_IsUtf8; fails = λ x bad. not_passed (is_utf8 x) (λ t. bad (IsUtf8-from_is_utf8 x t)) }

pub only_part : {V : Type 0} {Is : V → Type 0} {is : V → Bool} → IsTest Is is → (other : Error) → {p : Part V} → {read : Reader V} → IsPart p read → IsPart (only Is other p) (only_at is other read)
only_part {V} {Is} {is} test other {p} {read} part = record {
  found = λ bytes x rest h e.
      let w = and_then_ok (read bytes) (tested is other) (x, rest) e in
      let a = accept_ok (is w.0.0) other (w.0.0, w.0.1) (x, rest) w.2 in
      let b = part.found bytes w.0.0 w.0.1 h w.1 in
      subst (λ (q : V × List ℕ). Begins (only Is other p) bytes q.0 q.1) a.1 (record { front = b.front; whole = b.whole; spelled = (b.spelled, test.yes w.0.0 a.0) });
  again = λ x front rest s. rw (part.again x front rest s.0, test.passes x s.1) refl;
  refused = λ bytes e h r.
      elim (and_then_err (read bytes) (tested is other) e r) [
        | inl n ↦ inl (part.refused bytes e h n)
        | inr w ↦
            let a = accept_err (is w.0.0) other e (w.0.0, w.0.1) w.2 in
            inr (w.0.0, w.0.1, part.found bytes w.0.0 w.0.1 h w.1, (λ yes. true≢false (sym (test.passes w.0.0 yes) ∙ a.0)), a.1)
      ];
  refuses = λ bytes e r.
      elim r [
        | inl n ↦ rw (part.refuses bytes e n) refl
        | inr k ↦ rw (begins_read part bytes k.0 k.1 k.2, test.fails k.0 k.3, k.4) refl
      ];
}

-- Two parts, one after the other.

pub then_part : {U V : Type 0} {p : Part U} {q : Part V} {read_p : Reader U} {read_q : Reader V} → IsPart p read_p → IsPart q read_q → IsPart (p then q) (then_at read_p read_q)
then_part {U} {V} {p} {q} {read_p} {read_q} one other = record {
  found = λ bytes x rest h e.
      let w = and_then_ok (read_p bytes) (λ x rest. and_then (read_q rest) (paired x)) (x, rest) e in
      let v = and_then_ok (read_q w.0.1) (paired w.0.0) (x, rest) w.2 in
      let a = one.found bytes w.0.0 w.0.1 h w.1 in
      let b = other.found w.0.1 v.0.0 v.0.1 (rest_bytes bytes w.0.0 w.0.1 a h) v.1 in
      subst (λ (r : (U × V) × List ℕ). Begins (p then q) bytes r.0 r.1) (ok_is ((w.0.0, v.0.0), v.0.1) (x, rest) v.2)
      (record {
        front = a.front ++ b.front;
        whole = a.whole ∙ (ap (λ l. a.front ++ l) b.whole ∙ sym (append_assoc a.front b.front v.0.1));
        spelled = record { first = a.front; second = b.front; whole = refl; one = a.spelled; other = b.spelled };
      });
  again = λ x front rest s.
      let whole : front ++ rest ≡ s.first ++ (s.second ++ rest) = ap (λ f. f ++ rest) s.whole ∙ append_assoc s.first s.second rest in
      rw (whole, one.again x.0 s.first (s.second ++ rest) s.one, other.again x.1 s.second rest s.other) refl;
  refused = λ bytes e h r.
      elim (and_then_err (read_p bytes) (λ x rest. and_then (read_q rest) (paired x)) e r) [
        | inl n ↦ inl (one.refused bytes e h n)
        | inr w ↦
            let a = one.found bytes w.0.0 w.0.1 h w.1 in
            elim (and_then_err (read_q w.0.1) (paired w.0.0) e w.2) [
              | inl n ↦ inr (w.0.0, w.0.1, a, other.refused w.0.1 e (rest_bytes bytes w.0.0 w.0.1 a h) n)
              | inr v ↦ absurd (differ ((w.0.0, v.0.0), v.0.1) e v.2)
            ]
      ];
  refuses = λ bytes e r.
      elim r [
        | inl n ↦ rw (one.refuses bytes e n) refl
        | inr k ↦ rw (begins_read one bytes k.0 k.1 k.2, other.refuses k.1 e k.3) refl
      ];
}
