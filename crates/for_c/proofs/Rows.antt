-- The values of a row, read one after another.
use Rattle.for_c.proofs.Common.{◌≡◌, ℕ, ◌+◌, ◌-◌, ◌<◌, ◌≤◌, List, [], take, drop, map, length, set, Ok, refl, sym, ap, subst, ◌∙◌, inl, inr, arith, ◌≢◌, length-append, length-drop, length-take, drop-drop, StandsAt, number_of, Error, DataRow, RangeSpelled, RangeRefused, IsColumnInside, range_of, rest_of, PgpCursor, PgpColumn}
use Rattle.pgp_message.specs.Parts.{CountedBytes}
use Rattle.pgp_message.specs.Stream.{TakesFrame}
use Rattle.for_c.proofs.Alls.{SoFar, none_so_far, one_more}
use Rattle.for_c.proofs.Fronts.{count_fits, left_of}
use Rattle.for_c.proofs.Walks.{left_after, passes_left, rest_between}
use Rattle.for_c.specs.Rows.{BeginsWithRow, HasValues, LacksValue, first_value}

-- a row that was taken
pub begins : (bytes new : List ℕ) (row : CountedBytes) (frame count : ℕ) → frame ≡ length bytes - length new → row.count ≡ count → TakesFrame bytes (Ok (DataRow row)) new → BeginsWithRow bytes frame count
begins bytes new row frame count is counted t =
    let rest : drop frame bytes ≡ new = ap (λ i. drop i bytes) is ∙ left_of bytes new (DataRow row) t in
    record { row = row; takes = subst (λ l. TakesFrame bytes (Ok (DataRow row)) l) (sym rest) t; within = omega (arith, is); count_is = counted }

-- has a header and a count
pub headed : (bytes : List ℕ) (frame count : ℕ) → BeginsWithRow bytes frame count → 7 ≤ frame
headed bytes frame count b =
    let is : frame ≡ length bytes - length (drop frame bytes) = omega (arith, length-drop frame bytes, b.within) in
    let fits : 7 + (frame - 7) ≤ frame = count_fits bytes (drop frame bytes) b.takes.first b.takes.whole frame is b.row.count b.row.storage b.takes.body.parts in
    omega (arith, fits)

module _ (bytes : List ℕ) (frame count : ℕ) (old : List PgpColumn) where
  abbrev pub cursor : ℕ → ℕ → PgpCursor
  cursor at left = record { at = at; end = frame; left = left }

  -- after n values, where these bytes are left
  abbrev pub here : List ℕ → ℕ → PgpCursor
  here rest n = cursor (frame - length rest) (count - n)

  pub record Reading (rest : List ℕ) (n : ℕ) (columns : List PgpColumn) : Type 0 where
    pub so_far : SoFar RangeSpelled bytes range_of (IsColumnInside frame) (first_value frame count) old (here rest n) n columns
    pub left : rest ≡ rest_of bytes (frame - length rest) frame
    pub fits : length rest ≤ frame

  pub begun : (rest : List ℕ) → 7 ≤ frame → frame ≤ length bytes → rest ≡ take (frame - 7) (drop 7 bytes) → Reading rest 0 old
  begun rest low high is =
      let size : length rest ≡ frame - 7 = omega (arith, ap length is, length-take (frame - 7) (drop 7 bytes), length-drop 7 bytes, low, high) in
      let at : frame - length rest ≡ 7 = omega (arith, size, low) in
      let left : count - 0 ≡ count = omega arith in
      let first : cursor 7 count ≡ here rest 0 = ap (λ a. cursor a count) (sym at) ∙ ap (λ n. cursor (frame - length rest) n) (sym left) in
      record {
        so_far = subst (λ c. SoFar RangeSpelled bytes range_of (IsColumnInside frame) (first_value frame count) old c 0 old) first (none_so_far RangeSpelled bytes range_of (IsColumnInside frame) (first_value frame count) old);
        left = is ∙ sym (rest_between bytes 7 frame low high) ∙ ap (λ a. rest_of bytes a frame) (sym at);
        fits = omega (arith, size);
      }

  pub more_read : (rest more : List ℕ) (n : ℕ) (columns : List PgpColumn) (x : PgpColumn) → n < length columns → n < count → Reading rest n columns
      → StandsAt RangeSpelled (frame - length rest) rest (range_of x) more → length more < length rest → IsColumnInside frame x → Reading more (n + 1) (set columns n x)
  more_read rest more n columns x few due r s shorter inside =
      let size : length rest ≡ length s.front + length more = ap length s.whole ∙ length-append s.front more in
      let next : frame - length more ≡ frame - length rest + length s.front = omega (arith, size, r.fits) in
      let one : count - (n + 1) + 1 ≡ count - n = omega (arith, due) in
      let passes = passes_left RangeSpelled bytes rest (here rest n) (here more (n + 1)) (range_of x) (range_of x) more r.left s refl shorter (omega (arith, shorter, r.fits)) refl in
      record {
        so_far = one_more RangeSpelled bytes range_of (IsColumnInside frame) (first_value frame count) old (here rest n) (here more (n + 1)) n columns x few r.so_far (passes, one) inside;
        left = sym (ap (λ a. rest_of bytes a frame) next ∙ left_after bytes (frame - length rest) frame s.front more (sym r.left ∙ s.whole) (omega (arith, shorter, size)));
        fits = omega (arith, shorter, r.fits);
      }

  -- no column changed but those of the values that were read
  pub behind : (rest : List ℕ) (n : ℕ) (columns : List PgpColumn) → n ≤ count → Reading rest n columns → drop count columns ≡ drop count old
  behind rest n columns few r =
      let all : n + (count - n) ≡ count = omega (arith, few) in
      ap (λ k. drop k columns) (sym all) ∙ sym (drop-drop (count - n) n columns) ∙ ap (drop (count - n)) r.so_far.behind ∙ drop-drop (count - n) n old ∙ ap (λ k. drop k old) all

  pub all_read : (rest : List ℕ) (columns : List PgpColumn) → rest ≡ [] → Reading rest count columns → HasValues bytes frame count (take count columns)
  all_read rest columns none r =
      let left : count - count ≡ 0 = omega arith in
      record { last = here rest count; taken = r.so_far.taken; ended = (left, sym r.left ∙ none); inside = r.so_far.inside }

  pub not_drained : (rest : List ℕ) (columns : List PgpColumn) (code : ℕ) → rest ≢ [] → code ≡ 8 → Reading rest count columns → LacksValue bytes frame count code
  not_drained rest columns code some is r =
      let left : count - count ≡ 0 = omega arith in
      record { values = map range_of (take count columns); last = here rest count; taken = r.so_far.taken; refused = inl (left, (λ none. some (r.left ∙ none)), is) }

  pub cut_short : (rest : List ℕ) (n : ℕ) (columns : List PgpColumn) (e : Error) (code : ℕ) → n < count → RangeRefused rest e → code ≡ number_of e → Reading rest n columns → LacksValue bytes frame count code
  cut_short rest n columns e code due bad is r =
      record {
        values = map range_of (take n columns);
        last = here rest n;
        taken = r.so_far.taken;
        refused = inr (e, (λ none. omega (arith, none, due)), subst (λ l. RangeRefused l e) r.left bad, is);
      }
