-- The values of a row are read as they are spelled.
use Rattle.pgp_message.proofs.Common.{◌≡◌, ℕ, ℤ, pos, negsuc, ◌+◌, ◌<◌, ◌≤◌, false, ltb, List, ◌++◌, length, take, drop, Option, Some, None, Ok, Err, refl, sym, ap, subst, ◌∙◌, append_assoc, arith, inl, inr, FitsSigned, length-append, w32, Range, ltb-false, ltb-true, le-ltb, lt-ltb, drop_at, take-append-drop, length-take, Error, UnexpectedEof, int32, IsBytes, StandsAt, IsReader, int32_at, ok_is, differ, bind_ok, bind_err, guard_ok, guard_err, int32_number, number_takes, number_again, number_short, short_number, RangeSpelled, RangeRefused, range_after, range_at}
use Rattle.pgp_base.proofs.PartLemmas.{int32_value}

same_range : (r : Range ℕ) (a b : ℕ) → r.start ≡ a → r.end ≡ b → record { start = a; end = b } ≡ r
same_range r a b s e = rw (sym s, sym e) refl

after_found : (place : ℕ) (bytes : List ℕ) (len : ℤ) (rest : List ℕ) (x : Option (Range ℕ)) (after : List ℕ)
    → bytes ≡ int32 len ++ rest → FitsSigned w32 len → range_after place len rest ≡ Ok (x, after) → StandsAt RangeSpelled place bytes x after
after_found place bytes (negsuc k) rest x after parts fits e =
    subst (λ (p : Option (Range ℕ) × List ℕ). StandsAt RangeSpelled place bytes p.0 p.1) (ok_is (None, rest) (x, after) e)
    (record { front = int32 (negsuc k); whole = parts; spelled = record { below = k; fits = fits; parts = refl } })
after_found place bytes (pos n) rest x after parts fits e =
    let r : Range ℕ = record { start = place + 4; end = place + 4 + n } in
    let g = guard_ok (ltb (length rest) n) UnexpectedEof (Some r, drop n rest) (x, after) e in
    let enough : n ≤ length rest = ltb-false _ _ g.0 in
    let value : List ℕ = take n rest in
    let len : length value ≡ n = omega (arith, length-take n rest) in
    subst (λ (p : Option (Range ℕ) × List ℕ). StandsAt RangeSpelled place bytes p.0 p.1) g.1
    (record {
      front = int32 (pos n) ++ value;
      whole = parts ∙ ap (λ l. int32 (pos n) ++ l) (sym (take-append-drop n rest)) ∙ sym (append_assoc (int32 (pos n)) value (drop n rest));
      spelled = record {
        value = value;
        fits = rw len fits;
        parts = rw len refl;
        starts = refl;
        ends = omega (arith, length-append (int32 (pos n)) value, len, int32_number.len (pos n));
      };
    })

after_refused : (bytes : List ℕ) (place : ℕ) (len : ℤ) (rest : List ℕ) (e : Error)
    → bytes ≡ int32 len ++ rest → FitsSigned w32 len → range_after place len rest ≡ Err e → RangeRefused bytes e
after_refused bytes place (negsuc k) rest e parts fits h = absurd (differ (None, rest) e h)
after_refused bytes place (pos n) rest e parts fits h =
    let r : Range ℕ = record { start = place + 4; end = place + 4 + n } in
    let g = guard_err (ltb (length rest) n) UnexpectedEof e (Some r, drop n rest) h in
    let short : length rest < n = ltb-true _ _ g.0 in
    subst (RangeRefused bytes) (sym g.1) (inr (record { len = n; more = rest; fits = fits; parts = parts; short = short }))

range_again : (place : ℕ) (x : Option (Range ℕ)) (front after : List ℕ) → RangeSpelled place x front → range_at place (front ++ after) ≡ Ok (x, after)
unfolding range_at
range_again place None front after s = rw (s.parts, number_again 4 (FitsSigned w32) int32 int32_value int32_number (negsuc s.below) after s.fits) refl
range_again place (Some r) front after s =
    let n : ℕ = length s.value in
    let whole : front ++ after ≡ int32 (pos n) ++ (s.value ++ after) = ap (λ l. l ++ after) s.parts ∙ append_assoc (int32 (pos n)) s.value after in
    let long : ltb (length (s.value ++ after)) n ≡ false = le-ltb _ _ (omega (arith, length-append s.value after)) in
    let same : record { start = place + 4; end = place + 4 + n } ≡ r = same_range r (place + 4) (place + 4 + n) s.starts (omega (arith, s.ends, ap length s.parts, length-append (int32 (pos n)) s.value, int32_number.len (pos n))) in
    rw (whole, number_again 4 (FitsSigned w32) int32 int32_value int32_number (pos n) (s.value ++ after) s.fits, long, drop_at s.value after n refl, same) refl

range_refused : (place : ℕ) (bytes : List ℕ) (e : Error) → IsBytes bytes → range_at place bytes ≡ Err e → RangeRefused bytes e
unfolding range_at
range_refused place bytes e h is =
    elim (bind_err (int32_at bytes) (λ len. range_after place len.0 len.1) e is) [
      | inl cut ↦ subst (RangeRefused bytes) (sym cut.1) (inl (number_short 4 (FitsSigned w32) int32 int32_value int32_number bytes cut.0))
      | inr w ↦
          let t = number_takes 4 (FitsSigned w32) int32 int32_value int32_number bytes w.0 h w.1 in
          after_refused bytes place w.0.0 w.0.1 e t.parts t.fits w.2
    ]

range_found : (place : ℕ) (bytes : List ℕ) (x : Option (Range ℕ)) (after : List ℕ) → IsBytes bytes → range_at place bytes ≡ Ok (x, after) → StandsAt RangeSpelled place bytes x after
unfolding range_at
range_found place bytes x after h e =
    let w = bind_ok (int32_at bytes) (λ len. range_after place len.0 len.1) (x, after) e in
    let t = number_takes 4 (FitsSigned w32) int32 int32_value int32_number bytes w.0 h w.1 in
    after_found place bytes w.0.0 w.0.1 x after t.parts t.fits w.2

range_refuses : (place : ℕ) (bytes : List ℕ) (e : Error) → RangeRefused bytes e → range_at place bytes ≡ Err e
unfolding range_at
range_refuses place bytes UnexpectedEof (inl short) = rw (short_number 4 (FitsSigned w32) int32 int32_value int32_number bytes short) refl
range_refuses place bytes UnexpectedEof (inr s) =
    rw (s.parts, number_again 4 (FitsSigned w32) int32 int32_value int32_number (pos s.len) s.more s.fits, lt-ltb _ _ s.short) refl
range_refuses place bytes e h = absurd h

range_some : (place : ℕ) (x : Option (Range ℕ)) (front : List ℕ) → RangeSpelled place x front → 0 < length front
range_some place None front s = omega (arith, ap length s.parts, int32_number.len (negsuc s.below))
range_some place (Some r) front s = omega (arith, ap length s.parts, length-append (int32 (pos (length s.value))) s.value, int32_number.len (pos (length s.value)))

pub range_reader : IsReader RangeSpelled RangeRefused range_at
range_reader = record { found = range_found; again = range_again; refused = range_refused; refuses = range_refuses; some = range_some; own = λ bytes h. h }
