-- The text of an amount of money, as a server shows it where `lc_monetary` is `C`.
-- PostgreSQL manual, "Monetary Types"; in the server's source `cash_out`.
use Rattle.std.specs.Prelude.{ℕ, ◌/◌, ◌%◌, ◌==◌, ◌&&◌, nat_lt, if◌then◌else◌, ℤ, unsigned_abs, List, [], ◌∷◌, ◌++◌, length}
use Rattle.std.specs.Fmt.{decimal, sign_text}
use Rattle.std.specs.Int.{is_negative}
use Rattle.jiff_fmt.specs.Text.{pad2}

-- where groups of three digits follow
abbrev pub comma_before : ℕ → List ℕ
comma_before left = if nat_lt 0 left && (left % 3 == 0) then 44 ∷ [] else []

-- digits in groups of three, with commas between them
abbrev pub grouped : List ℕ → List ℕ
grouped [] = []
grouped (d ∷ ds) = d ∷ comma_before (length ds) ++ grouped ds

-- `$1,234.56`, `-$0.05`: an amount is a number of hundredths
abbrev pub money_text : ℤ → List ℕ
money_text z = sign_text (is_negative z) ++ 36 ∷ (grouped (decimal (unsigned_abs z / 100)) ++ 46 ∷ pad2 (unsigned_abs z % 100))
