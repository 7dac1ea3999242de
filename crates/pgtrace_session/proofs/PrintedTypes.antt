-- Lines with values as texts are printable.
use Rattle.pgtrace_session.proofs.Common.{◌≡◌, ℕ, ℤ, Bool, true, false, List, [], ◌∷◌, ◌++◌, drop, length, Option, Some, None, Ok, map, codes, Message, DataRow, CountedBytes, value_at, Part, Count, Length, ListEnds, Name, Tag, Text, closing, followed, key, opening, IsPrinted, Style, ClientMessage, Bind, executed, is_some, names_parts, refl, counted, signed_part, ending, closing_printable, join, opening_printable, parts_printable, Column, Told, Heard, IsBindLine, IsRowLine, Said, Sent, ShowsBound, ShowsFitting, ShowsHeard, ShowsRow, ShowsSent, ShowsTyped, ShowsValues, bind_front, fits, has_binary, row_front, Awaited, Types, first, rows_of, Execute, Key, Number, State}
use Rattle.pgtrace_session.specs.Shelves.{Columns}
use Rattle.pgtrace_session.specs.declared.placement.Told.TheVariants as told
use Rattle.pgtrace_summary.specs.Summary.{text_due}

-- printable characters before a newline
abbrev pub IsLine : List ℕ → Type 0
IsLine line = (text : List ℕ) × (line ≡ text ++ 10 ∷ []) × IsPrinted text

front_printed : (style : Style) (place len count : ℕ) → IsPrinted (row_front style place len count)
front_printed style place len count = parts_printable style (opening style place) (Length len ∷ Tag 68 ∷ Name false (codes "DataRow") ∷ key (codes "values") ∷ Count count ∷ []) (opening_printable style.form place)

values_printed : (style : Style) (columns : List Column) (values : List (Option (List ℕ))) (old new : List ℕ) → IsPrinted old → ShowsValues style columns values old new → IsPrinted new
values_printed style columns [] old new a s = rw s a
values_printed style columns (v ∷ vs) old new a s = values_printed style (drop 1 columns) vs (followed style old (s.0 ∷ [])) new (parts_printable style old (s.0 ∷ []) a) s.2

row_printed : (style : Style) (place len : ℕ) (named : Bool) (columns : Columns) (row : CountedBytes) (line : List ℕ) → IsRowLine style place len named columns row line → IsLine line
row_printed style place len named columns row line is =
    let front = row_front style place len row.count in
    let values = values_printed style columns.list (map (value_at row.storage) is.places) front is.values (front_printed style place len row.count) is.each in
    let ended = followed style is.values (ending ListEnds is.end) in
    let all = followed style ended (names_parts named columns) in
    (all ++ closing style, is.is, join all (closing style) (parts_printable style ended (names_parts named columns) (parts_printable style is.values (ending ListEnds is.end) values)) (closing_printable style.form))

fitting_printed : (fitting : Bool) (style : Style) (place len : ℕ) (named : Bool) (columns : Columns) (row : CountedBytes) (old new : List ℕ) → IsLine old → ShowsFitting fitting style place len named columns row old new → IsLine new
fitting_printed true style place len named columns row old new a s = row_printed style place len named columns row new s
fitting_printed false style place len named columns row old new a s = rw s a

rows_printed : (style : Style) (place len : ℕ) (named : Bool) (columns : Option Columns) (row : CountedBytes) (old new : List ℕ) → IsLine old → ShowsRow style place len named columns row old new → IsLine new
rows_printed style place len named None row old new a s = rw s a
rows_printed style place len named (Some columns) row old new a s = fitting_printed (fits named columns.list row) style place len named columns row old new a s

heard_printed : (style : Style) (place len : ℕ) (m : Message) (w : Option Awaited) (types : Types) (old new : List ℕ) → IsLine old → ShowsHeard style place len m w types old new → IsLine new
heard_printed style place len (DataRow row) w types old new a s = rows_printed style place len (is_some types.texts) (rows_of w types) row old new a s
heard_printed style place len m w types old new a s = rw s a

bind_front_printed : (style : Style) (place len : ℕ) (portal statement : List ℕ) (formats : List ℤ) (count : ℕ) → IsPrinted (bind_front style place len portal statement formats count)
bind_front_printed style place len portal statement formats count =
    let a = parts_printable style (opening style place) (Length len ∷ Tag 66 ∷ Name false (codes "Bind") ∷ []) (opening_printable style.form place) in
    let named = followed style (opening style place) (Length len ∷ Tag 66 ∷ Name false (codes "Bind") ∷ []) in
    let texts : List Part = key (codes "portal") ∷ Text portal ∷ key (codes "statement") ∷ Text statement ∷ [] in
    let b = parts_printable style named texts a in
    let listed = counted (codes "formats") (codes "formats") signed_part formats in
    let c = parts_printable style (followed style named texts) listed b in
    parts_printable style (followed style (followed style named texts) listed) (key (codes "values") ∷ Count count ∷ []) c

bind_printed : (style : Style) (place len : ℕ) (parameters : List Column) (portal statement : List ℕ) (formats : List ℤ) (values : List (Option (List ℕ))) (results : List ℤ) (line : List ℕ) → IsBindLine style place len parameters portal statement formats values results line → IsLine line
bind_printed style place len parameters portal statement formats values results line is =
    let front = bind_front style place len portal statement formats (length values) in
    let texts = values_printed style parameters values front is.texts (bind_front_printed style place len portal statement formats (length values)) is.each in
    let ended = parts_printable style is.texts (ListEnds ∷ []) texts in
    let listed = counted (codes "results") (codes "result_formats") signed_part results in
    let all = followed style (followed style is.texts (ListEnds ∷ [])) listed in
    (all ++ closing style, is.is, join all (closing style) (parts_printable style (followed style is.texts (ListEnds ∷ [])) listed ended) (closing_printable style.form))

bound_printed : (binary : Bool) (style : Style) (place len : ℕ) (parameters : List Column) (portal statement : List ℕ) (formats : List ℤ) (values : List (Option (List ℕ))) (results : List ℤ) (old new : List ℕ) → IsLine old
    → ShowsBound binary style place len parameters portal statement formats values results old new → IsLine new
bound_printed true style place len parameters portal statement formats values results old new a s = bind_printed style place len parameters portal statement formats values results new s
bound_printed false style place len parameters portal statement formats values results old new a s = rw s a

executed_printed : (texts : Option State) (style : Style) (place len : ℕ) (portal : List ℕ) (max_rows : ℤ) (line : List ℕ) → IsLine line → IsLine (executed texts style place len portal max_rows line)
executed_printed None style place len portal max_rows line a = a
executed_printed (Some s) style place len portal max_rows line a =
    let parts : List Part = Length len ∷ Tag 69 ∷ Name false (codes "Execute") ∷ key (codes "portal") ∷ Text portal ∷ Key (codes "rows") (codes "max_rows") ∷ Number max_rows ∷ key (codes "query") ∷ Text (text_due portal s) ∷ [] in
    let all = followed style (opening style place) parts in
    (all ++ closing style, refl, join all (closing style) (parts_printable style (opening style place) parts (opening_printable style.form place)) (closing_printable style.form))

sent_printed : (style : Style) (place len : ℕ) (m : ClientMessage) (types : Types) (old new : List ℕ) → IsLine old → ShowsSent style place len m types old new → IsLine new
sent_printed style place len (Bind portal statement formats values results) types old new a s = bound_printed (has_binary types.binds) style place len types.binds portal statement formats values results old new a s
sent_printed style place len (Execute portal max_rows) types old new a s = rw s (executed_printed types.texts style place len portal max_rows old a)
sent_printed style place len m types old new a s = rw s a

pub typed_printed : (style : Style) (place len : ℕ) (told : Told) (said : Said) (types : Option Types) (old new : List ℕ) → IsLine old → ShowsTyped style place len told said types old new → IsLine new
typed_printed style place len (told.Answer n sent now) (Heard (Ok m)) (Some types) old new a s = heard_printed style place len m (first n types.awaited) types old new a s
typed_printed style place len (told.Number n) (Sent (Ok m)) (Some types) old new a s = sent_printed style place len m types old new a s
typed_printed style place len told said types old new a s = rw s a
