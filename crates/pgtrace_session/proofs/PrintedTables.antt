-- The lines of a table are printable.
use Rattle.pgtrace_session.proofs.Common.{ℕ, ◌-◌, ◌/◌, ◌%◌, List, [], ◌∷◌, ◌++◌, length, refl, codes, decimal, blanks, json_value, quoted, up_to, Form, Columns, Json, Style, Tally, line_of, blank, cut, join, json_val, plain, plain_join, plain_number, quote, millis, number, cell, columns, heading, row_by, row_of, times, Plain}
use Rattle.pgtrace_summary.specs.declared.entry.Line.{Line}
use Rattle.pgtrace_session.specs.Tables.{counts, members, percentage, shares}
use Rattle.pgtrace_session.proofs.PrintedMarks.{seconds, thousandths}
use Rattle.pgtrace_session.proofs.PrintedTypes.{IsLine}

in_cell : (width : ℕ) (text : List ℕ) → Plain text → Plain (cell width text)
in_cell width text p = plain_join (blanks (width - length text) ++ text) (32 ∷ []) (plain_join (blanks (width - length text)) text (blank (width - length text)) p) refl

in_percentage : (n : ℕ) → Plain (percentage n)
in_percentage n =
    let front = decimal (n / 10) ++ codes "." in
    plain_join (front ++ decimal (n % 10)) (codes "%") (plain_join front (decimal (n % 10)) (plain_join (decimal (n / 10)) (codes ".") (plain_number (n / 10)) refl) (plain_number (n % 10))) refl

in_columns : (l : Line) → Plain (columns l)
in_columns l =
    let a = cell 8 (decimal l.count) in
    let b = a ++ cell 8 (decimal l.errors) in
    let c = b ++ cell 10 (decimal l.rows) in
    let d = c ++ cell 10 (millis l.total) in
    let s = d ++ cell 6 (percentage l.share) in
    let e = s ++ cell 10 (millis l.least) in
    let f = e ++ cell 10 (millis l.median) in
    let pa : Plain a = in_cell 8 (decimal l.count) (plain_number l.count) in
    let pb : Plain b = plain_join a (cell 8 (decimal l.errors)) pa (in_cell 8 (decimal l.errors) (plain_number l.errors)) in
    let pc : Plain c = plain_join b (cell 10 (decimal l.rows)) pb (in_cell 10 (decimal l.rows) (plain_number l.rows)) in
    let pd : Plain d = plain_join c (cell 10 (millis l.total)) pc (in_cell 10 (millis l.total) (thousandths l.total)) in
    let ps : Plain s = plain_join d (cell 6 (percentage l.share)) pd (in_cell 6 (percentage l.share) (in_percentage l.share)) in
    let pe : Plain e = plain_join s (cell 10 (millis l.least)) ps (in_cell 10 (millis l.least) (thousandths l.least)) in
    let pf : Plain f = plain_join e (cell 10 (millis l.median)) pe (in_cell 10 (millis l.median) (thousandths l.median)) in
    plain_join f (cell 10 (millis l.greatest)) pf (in_cell 10 (millis l.greatest) (thousandths l.greatest))

in_counts : (l : Line) → Plain (counts l)
in_counts l =
    let a = codes "{\"count\":" ++ decimal l.count in
    let b = a ++ codes ",\"errors\":" in
    let c = b ++ decimal l.errors in
    let d = c ++ codes ",\"rows\":" in
    let pa : Plain a = plain_join (codes "{\"count\":") (decimal l.count) refl (plain_number l.count) in
    let pb : Plain b = plain_join a (codes ",\"errors\":") pa refl in
    let pc : Plain c = plain_join b (decimal l.errors) pb (plain_number l.errors) in
    plain_join d (decimal l.rows) (plain_join c (codes ",\"rows\":") pc refl) (plain_number l.rows)

in_shares : (l : Line) → Plain (shares l)
in_shares l =
    let a = codes ",\"total\":" ++ number l.total in
    plain_join (a ++ codes ",\"share\":") (millis l.share) (plain_join a (codes ",\"share\":") (plain_join (codes ",\"total\":") (number l.total) refl (seconds l.total)) refl) (thousandths l.share)

in_times : (l : Line) → Plain (times l)
in_times l =
    let a = codes ",\"least\":" ++ number l.least in
    let b = a ++ codes ",\"median\":" in
    let c = b ++ number l.median in
    let pa : Plain a = plain_join (codes ",\"least\":") (number l.least) refl (seconds l.least) in
    let pb : Plain b = plain_join a (codes ",\"median\":") pa refl in
    let pc : Plain c = plain_join b (number l.median) pb (seconds l.median) in
    plain_join (c ++ codes ",\"greatest\":") (number l.greatest) (plain_join c (codes ",\"greatest\":") pc refl) (seconds l.greatest)

in_members : (l : Line) → Plain (members l)
in_members l =
    let front = counts l ++ shares l in
    plain_join (front ++ times l) (codes ",\"statement\":") (plain_join front (times l) (plain_join (counts l) (shares l) (in_counts l) (in_shares l)) (in_times l)) refl

row_printed : (form : Form) (limit : ℕ) (l : Line) (text : List ℕ) → IsLine (row_by form limit l text)
row_printed Columns limit l text = (columns l ++ up_to limit (quoted Columns) text, refl, join (columns l) (up_to limit (quoted Columns) text) (plain (columns l) (in_columns l)) (cut (quoted Columns) (quote Columns) limit text))
row_printed Json limit l text =
    let front = members l ++ json_value limit text in
    (front ++ codes "}", refl, join front (codes "}") (join (members l) (json_value limit text) (plain (members l) (in_members l)) (json_val limit text)) (plain (codes "}") refl))

pub rows_printed : (style : Style) (whole : ℕ) (e : Tally) → IsLine (row_of style whole e)
rows_printed style whole e = row_printed style.form style.limit (line_of whole e) e.text

pub heading_printed : IsLine (heading Columns)
heading_printed = (codes "   count   errors       rows      total  share      least     median   greatest ms", refl, plain (codes "   count   errors       rows      total  share      least     median   greatest ms") refl)
