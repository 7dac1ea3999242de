-- Lexemes and their places: what reads one reads what its grammar says.
use Rattle.pgp_values.proofs.Common.{◌≡◌, inl, inr, ℕ, ◌+◌, ◌<◌, ◌≤◌, ◌^◌, ltb, false, List, [], ◌∷◌, ◌++◌, length, take, drop, None, Ok, Err, refl, sym, ap, subst, ◌∙◌, arith, append_assoc, length-append, flat_map, ltb-false, ltb-true, le-ltb, lt-ltb, take_at, drop_at, take-append-drop, length-take, Error, UnexpectedEof, NotUtf8, NotDrained, string_at, text_at, IsBytes, uint16, text, text_cause, count_cause, guard_ok, guard_err, either_left, either_right, counts_of, without_zero, IsSound, Begins, fixed_part, IsPart, and_then_ok, and_then_err, rest_bytes, then_part, fixed_is, bytes_take, IsItem, pairs, uint16_at, places_at, lexeme_at, places_part, lexeme, tsvector}
use Rattle.pgp_base.proofs.PartLemmas.{TextFound, text_found, text_read, text_refused, text_cut, string_none}
use Rattle.pgp_base.proofs.Strings.{string_front, string_whole}
use Rattle.pgp_values.specs.ListReading.{places_of}
use Rattle.pgp_values.proofs.ListLemmas.{list_sound}
use Rattle.pgp_values.proofs.Numbers.{uint16_spelling}
use Rattle.pgp_values.proofs.Pairs.{pairs_half, pairs_small, pairs_spelled, pairs_again, digits_length}
use Rattle.pgp_values.specs.Tsquery.{text_part}

-- texts with the byte 0 that ends them

text_refused_by : (bytes : List ℕ) (e : Error) → TextFound bytes (Err e) → text_part.Refused bytes e
text_refused_by bytes UnexpectedEof w = inl (w, refl)
text_refused_by bytes NotUtf8 w = inr (w.string, w.rest, record { front = text w.string; whole = string_whole bytes w.string w.rest w.parts.parts; spelled = (w.parts.no_zero, refl) }, w.bad, refl)
text_refused_by bytes e w = absurd w

pub text_is : IsPart text_part text_at
text_is = record {
  found = λ bytes x rest h e.
      let w : TextFound bytes (Ok (x, rest)) = subst (TextFound bytes) e (text_found bytes) in
      record { front = text x; whole = string_whole bytes x rest w.0.parts; spelled = ((w.0.no_zero, refl), w.1) };
  again = λ x front rest s. ap (λ f. text_at (f ++ rest)) s.0.1 ∙ text_read (text x ++ rest) x rest (string_front x rest s.0.0) s.1;
  refused = λ bytes e h is. text_refused_by bytes e (subst (TextFound bytes) is (text_found bytes));
  refuses = λ bytes e r.
      elim r [
        | inl cut ↦ text_cut bytes (string_none bytes cut.0) ∙ ap (λ d. Err d) (sym cut.1)
        | inr w ↦ text_refused bytes w.0 w.1 (ap string_at (w.2.whole ∙ ap (λ f. f ++ w.1) w.2.spelled.1) ∙ string_front w.0 w.1 w.2.spelled.0) w.3 ∙ ap (λ d. Err d) (sym w.4)
      ];
}

-- places

pub count_is : IsPart (fixed_part (λ n. n < 2 ^ 16) uint16 2) uint16_at
count_is = fixed_is uint16_spelling

taken : (n : ℕ) (after : List ℕ) → n + n ≤ length after → length (take (n + n) after) ≡ n + n
taken n after h = omega (arith, length-take (n + n) after)

places_found : (bytes after ns rest : List ℕ) (n : ℕ) → IsBytes after → Begins (fixed_part (λ n. n < 2 ^ 16) uint16 2) bytes n after → n + n ≤ length after → pairs (take (n + n) after) ≡ ns → drop (n + n) after ≡ rest → Begins places_part bytes ns rest
places_found bytes after ns rest n h b enough is left =
    let part = take (n + n) after in
    let len = taken n after enough in
    let small = bytes_take (n + n) after h in
    let count : length (pairs part) ≡ n = pairs_half part n len in
    let spelled : flat_map uint16 (pairs part) ≡ part = pairs_spelled part n small len in
    let made : Begins places_part bytes (pairs part) (drop (n + n) after) = record {
      front = uint16 (length (pairs part)) ++ flat_map uint16 (pairs part);
      whole = b.whole ∙ (ap (λ f. f ++ after) (b.spelled.1 ∙ ap uint16 (sym count)) ∙ (ap (λ l. uint16 (length (pairs part)) ++ l) (sym (take-append-drop (n + n) after) ∙ ap (λ l. l ++ drop (n + n) after) (sym spelled)) ∙ sym (append_assoc (uint16 (length (pairs part))) (flat_map uint16 (pairs part)) (drop (n + n) after))));
      spelled = (omega (arith, count, b.spelled.0), (pairs_small part small, refl));
    } in
    subst (λ l. Begins places_part bytes ns l) left (subst (λ l. Begins places_part bytes l (drop (n + n) after)) is made)

places_is : IsPart places_part places_at
unfolding places_at
places_is = record {
  found = λ bytes ns rest h e.
      let w = and_then_ok (uint16_at bytes) places_of (ns, rest) e in
      let b = count_is.found bytes w.0.0 w.0.1 h w.1 in
      let g = guard_ok (ltb (length w.0.1) (w.0.0 + w.0.0)) UnexpectedEof (pairs (take (w.0.0 + w.0.0) w.0.1), drop (w.0.0 + w.0.0) w.0.1) (ns, rest) w.2 in
      places_found bytes w.0.1 ns rest w.0.0 (rest_bytes bytes w.0.0 w.0.1 b h) b (ltb-false _ _ g.0) (ap (λ p. p.0) g.1) (ap (λ p. p.1) g.1);
  again = λ ns front rest s.
      let n = length ns in
      let flat = flat_map uint16 ns in
      let len : length flat ≡ n + n = digits_length ns s.1.0 in
      let long : ltb (length (flat ++ rest)) (n + n) ≡ false = le-ltb (length (flat ++ rest)) (n + n) (omega (arith, len, length-append flat rest)) in
      let whole : front ++ rest ≡ uint16 n ++ (flat ++ rest) = ap (λ f. f ++ rest) s.1.1 ∙ append_assoc (uint16 n) flat rest in
      rw (whole, count_is.again n (uint16 n) (flat ++ rest) (s.0, refl), long, take_at flat rest (n + n) len, drop_at flat rest (n + n) len, pairs_again ns s.1.0) refl;
  refused = λ bytes e h is.
      elim (and_then_err (uint16_at bytes) places_of e is) [
        | inl r ↦ let cut = count_is.refused bytes e h r in (inl cut.0, cut.1)
        | inr w ↦
            let b = count_is.found bytes w.0.0 w.0.1 h w.1 in
            let g = guard_err (ltb (length w.0.1) (w.0.0 + w.0.0)) UnexpectedEof e (pairs (take (w.0.0 + w.0.0) w.0.1), drop (w.0.0 + w.0.0) w.0.1) w.2 in
            (inr (w.0.0, w.0.1, b.whole ∙ ap (λ f. f ++ w.0.1) b.spelled.1, b.spelled.0, ltb-true _ _ g.0), g.1)
      ];
  refuses = λ bytes e r.
      elim r.0 [
        | inl cut ↦ rw (count_is.refuses bytes UnexpectedEof (cut, refl), r.1) refl
        | inr w ↦ rw (w.2, count_is.again w.0 (uint16 w.0) w.1 (w.3, refl), lt-ltb _ _ w.4, r.1) refl
      ];
}

lexeme_part : IsPart lexeme.part lexeme_at
unfolding lexeme_at
lexeme_part = then_part text_is places_is

lexeme_own : (bytes : List ℕ) → lexeme.part.Refused bytes NotDrained → ⊥
lexeme_own bytes (inl (inl cut)) = absurd (let e : NotDrained ≡ UnexpectedEof = cut.1 in cc)
lexeme_own bytes (inl (inr w)) = absurd (let e : NotDrained ≡ NotUtf8 = w.4 in cc)
lexeme_own bytes (inr w) = absurd (let e : NotDrained ≡ UnexpectedEof = w.3.1 in cc)

pub lexeme_item : IsItem lexeme.part lexeme_at
lexeme_item = record {
  part = lexeme_part;
  some = λ x front s. omega (arith, ap length s.whole, length-append s.first s.second, ap length s.one.0.1, length-append x.0 (0 ∷ []));
  own = lexeme_own;
}

lexeme_spelled : (p : List ℕ × List ℕ) → lexeme.IsValue p → lexeme.cause p ≡ None → lexeme.part.Spelled p (lexeme.written p)
lexeme_spelled p is fits = record {
  first = text p.0;
  second = uint16 (length p.1) ++ flat_map uint16 p.1;
  whole = refl;
  one = ((without_zero p.0 (either_left (text_cause p.0) (count_cause (length p.1)) fits), refl), is.0);
  other = (counts_of (length p.1) (either_right (text_cause p.0) (count_cause (length p.1)) fits), (is.1, refl));
}

pub tsvector_sound : IsSound tsvector
tsvector_sound = list_sound lexeme lexeme_item lexeme_spelled
