-- What a frame tells of types is one thing, and so is its line, since a value has one text.
use Rattle.pgtrace_session.proofs.Common.{◌≡◌, ℕ, ℤ, Bool, true, false, List, [], ◌∷◌, drop, is_some, length, names_parts, Option, Some, None, Ok, inl, inr, sym, ap, subst, ◌∙◌, map, codes, Range, Message, DataRow, ParameterDescription, RowDescription, CountedBytes, value_at, ClientMessage, Bind, Part, ListEnds, Value, closing, followed, Style, counted, signed_part, ending, Column, Told, Gives, Heard, Hears, IsBindLine, IsRowLine, Learns, Lists, Said, Sent, ShowsBound, ShowsBytes, ShowsFitting, ShowsHeard, ShowsRow, ShowsSent, ShowsTyped, ShowsValue, ShowsValues, bind_front, column_first, columns_of, fits, has_binary, parameters_in, row_front, Awaited, Types, described, first, reached, rows_of, tells}
use Rattle.std.specs.Prelude.{◌++◌}
use Rattle.pgtrace_session.specs.Shelves.{Columns}
use Rattle.pgtrace_lines.proofs.OneListing.{columns, ranges, types}
use Rattle.pgp_value_text.specs.TextOf.{IsTextOf}
use Rattle.pgtrace_session.specs.declared.placement.Told.TheVariants as told

-- ---- what is told

columns_one : (named : Bool) (row : CountedBytes) (x y : Option Columns) → Lists named row x → Lists named row y → x ≡ y
columns_one named row x y a b =
    let same = columns.one row.count row.storage a.fields b.fields a.end b.end a.list b.list in
    a.is ∙ ap (λ l. columns_of named l a.end) same.0 ∙ ap (columns_of named b.fields) same.1 ∙ sym b.is

parameters_one : (row : CountedBytes) (x y : Option (List Column)) → Gives row x → Gives row y → x ≡ y
parameters_one row x y a b =
    let same = types.one row.count row.storage a.types b.types a.end b.end a.list b.list in
    a.is ∙ ap (λ l. parameters_in l a.end) same.0 ∙ ap (parameters_in b.types) same.1 ∙ sym b.is

hears_one : (m : Message) (a : Option Awaited) (old x y : Types) → Hears m a old x → Hears m a old y → x ≡ y
hears_one (RowDescription row) a old x y p q = p.2 ∙ ap (λ c. described a c old) (columns_one (is_some old.texts) row p.0 q.0 p.1 q.1) ∙ sym q.2
hears_one (ParameterDescription row) a old x y p q = p.2 ∙ ap (λ c. tells a c old) (parameters_one row p.0 q.0 p.1 q.1) ∙ sym q.2
hears_one m a old x y p q = p ∙ sym q

pub learns_one : (told : Told) (said : Said) (old x y : Option Types) → Learns told said old x → Learns told said old y → x ≡ y
learns_one (told.Answer n sent now) (Heard (Ok m)) (Some old) x y p q = p.2 ∙ ap (λ t. Some t) (hears_one m (first n (reached n old).awaited) (reached n old) p.0 q.0 p.1 q.1) ∙ sym q.2
learns_one told.Lost said old x y p q = p ∙ sym q
learns_one (told.Number n) (Sent (Ok m)) (Some old) x y p q = p ∙ sym q
learns_one told said old x y p q = p ∙ sym q

-- ---- what is shown

-- a value has one text
abbrev pub OneText : Type 0
OneText = (type_oid : ℕ) (bytes a b : List ℕ) → IsTextOf type_oid bytes a → IsTextOf type_oid bytes b → a ≡ b

module _ (one_text : OneText) where
  bytes_one : (binary : Bool) (oid : ℕ) (bytes : List ℕ) (x y : Part) → ShowsBytes binary oid bytes x → ShowsBytes binary oid bytes y → x ≡ y
  bytes_one false oid bytes x y a b = a ∙ sym b
  bytes_one true oid bytes x y (inl a) (inl b) = a.2 ∙ ap (λ t. Value (Some t)) (one_text oid bytes a.0 b.0 a.1 b.1) ∙ sym b.2
  bytes_one true oid bytes x y (inl a) (inr b) = absurd (b.0 a.0 a.1)
  bytes_one true oid bytes x y (inr a) (inl b) = absurd (a.0 b.0 b.1)
  bytes_one true oid bytes x y (inr a) (inr b) = a.1 ∙ sym b.1

  value_one : (c : Column) (value : Option (List ℕ)) (x y : Part) → ShowsValue c value x → ShowsValue c value y → x ≡ y
  value_one c None x y a b = a ∙ sym b
  value_one c (Some bytes) x y a b = bytes_one c.binary c.oid bytes x y a b

  values_one : (style : Style) (columns : List Column) (values : List (Option (List ℕ))) (old x y : List ℕ) → ShowsValues style columns values old x → ShowsValues style columns values old y → x ≡ y
  values_one style columns [] old x y a b = a ∙ sym b
  values_one style columns (v ∷ vs) old x y a b =
      let same = value_one (column_first columns) v a.0 b.0 a.1 b.1 in
      values_one style (drop 1 columns) vs (followed style old (b.0 ∷ [])) x y (subst (λ s. ShowsValues style (drop 1 columns) vs (followed style old (s ∷ [])) x) same a.2) b.2

  row_one : (style : Style) (place len : ℕ) (named : Bool) (columns : Columns) (row : CountedBytes) (x y : List ℕ) → IsRowLine style place len named columns row x → IsRowLine style place len named columns row y → x ≡ y
  row_one style place len named columns row x y a b =
      let same = ranges.one row.count row.storage a.places b.places a.end b.end a.list b.list in
      let front = row_front style place len row.count in
      let each = subst (λ (l : List (Option (Range ℕ))). ShowsValues style columns.list (map (value_at row.storage) l) front a.values) same.0 a.each in
      let values = values_one style columns.list (map (value_at row.storage) b.places) front a.values b.values each b.each in
      a.is ∙ ap (λ l. followed style (followed style l (ending ListEnds a.end)) (names_parts named columns) ++ closing style ++ 10 ∷ []) values
      ∙ ap (λ e. followed style (followed style b.values (ending ListEnds e)) (names_parts named columns) ++ closing style ++ 10 ∷ []) same.1 ∙ sym b.is

  fitting_one : (fitting : Bool) (style : Style) (place len : ℕ) (named : Bool) (columns : Columns) (row : CountedBytes) (old x y : List ℕ) → ShowsFitting fitting style place len named columns row old x → ShowsFitting fitting style place len named columns row old y → x ≡ y
  fitting_one true style place len named columns row old x y a b = row_one style place len named columns row x y a b
  fitting_one false style place len named columns row old x y a b = a ∙ sym b

  rows_one : (style : Style) (place len : ℕ) (named : Bool) (columns : Option Columns) (row : CountedBytes) (old x y : List ℕ) → ShowsRow style place len named columns row old x → ShowsRow style place len named columns row old y → x ≡ y
  rows_one style place len named None row old x y a b = a ∙ sym b
  rows_one style place len named (Some columns) row old x y a b = fitting_one (fits named columns.list row) style place len named columns row old x y a b

  heard_one : (style : Style) (place len : ℕ) (m : Message) (a : Option Awaited) (types : Types) (old x y : List ℕ) → ShowsHeard style place len m a types old x → ShowsHeard style place len m a types old y → x ≡ y
  heard_one style place len (DataRow row) a types old x y p q = rows_one style place len (is_some types.texts) (rows_of a types) row old x y p q
  heard_one style place len m a types old x y p q = p ∙ sym q

  bind_one : (style : Style) (place len : ℕ) (parameters : List Column) (portal statement : List ℕ) (formats : List ℤ) (values : List (Option (List ℕ))) (results : List ℤ) (x y : List ℕ) → IsBindLine style place len parameters portal statement formats values results x
      → IsBindLine style place len parameters portal statement formats values results y → x ≡ y
  bind_one style place len parameters portal statement formats values results x y a b =
      let texts = values_one style parameters values (bind_front style place len portal statement formats (length values)) a.texts b.texts a.each b.each in
      a.is ∙ ap (λ l. followed style (followed style l (ListEnds ∷ [])) (counted (codes "results") (codes "result_formats") signed_part results) ++ closing style ++ 10 ∷ []) texts ∙ sym b.is

  bound_one : (binary : Bool) (style : Style) (place len : ℕ) (parameters : List Column) (portal statement : List ℕ) (formats : List ℤ) (values : List (Option (List ℕ))) (results : List ℤ) (old x y : List ℕ)
      → ShowsBound binary style place len parameters portal statement formats values results old x → ShowsBound binary style place len parameters portal statement formats values results old y → x ≡ y
  bound_one true style place len parameters portal statement formats values results old x y a b = bind_one style place len parameters portal statement formats values results x y a b
  bound_one false style place len parameters portal statement formats values results old x y a b = a ∙ sym b

  sent_one : (style : Style) (place len : ℕ) (m : ClientMessage) (types : Types) (old x y : List ℕ) → ShowsSent style place len m types old x → ShowsSent style place len m types old y → x ≡ y
  sent_one style place len (Bind portal statement formats values results) types old x y p q = bound_one (has_binary types.binds) style place len types.binds portal statement formats values results old x y p q
  sent_one style place len m types old x y p q = p ∙ sym q

  pub shows_one : (style : Style) (place len : ℕ) (told : Told) (said : Said) (types : Option Types) (old x y : List ℕ) → ShowsTyped style place len told said types old x → ShowsTyped style place len told said types old y → x ≡ y
  shows_one style place len (told.Answer n sent now) (Heard (Ok m)) (Some types) old x y p q = heard_one style place len m (first n types.awaited) types old x y p q
  shows_one style place len (told.Number n) (Sent (Ok m)) (Some types) old x y p q = sent_one style place len m types old x y p q
  shows_one style place len told said types old x y p q = p ∙ sym q
