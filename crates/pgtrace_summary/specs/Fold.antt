-- A statement without its literals: a question mark stands for each. PostgreSQL manual, "Lexical Structure".
use Rattle.std.specs.Prelude.{ℕ, ◌+◌, ◌-◌, Bool, true, false, not, ◌&&◌, ◌||◌, ◌==◌, nat_le, if◌then◌else◌, List, [], ◌∷◌, ◌++◌, length, take, drop, get_or, codes, Option, Some, None}
use Rattle.std.specs.List.{list_any, starts_with}
use Rattle.pgtrace_summary.specs.Runs.{capped}
use Rattle.pgtrace_summary.specs.declared.fold.Inside.{Inside}
use Rattle.pgtrace_summary.specs.declared.fold.Inside.TheVariants.{Between, Opened, Word, Number, Text, Closed, Name, LineComment, BlockComment}

abbrev pub is_among : (low high byte : ℕ) → Bool
is_among low high byte = nat_le low byte && nat_le byte high

abbrev pub is_digit : ℕ → Bool
is_digit byte = is_among 48 57 byte

-- a letter, a digit, an underscore, a dollar, or a byte of another character
abbrev pub goes_on : ℕ → Bool
goes_on byte = is_among 97 122 byte || is_among 65 90 byte || is_digit byte || byte == 95 || byte == 36 || nat_le 128 byte

-- ---- texts in dollar quotes

-- what stands behind a tag, of which the first dollar is read
abbrev pub behind_tag : List ℕ → Option (List ℕ)
behind_tag [] = None
behind_tag (byte ∷ rest) = if byte == 36 then Some rest else if goes_on byte then behind_tag rest else None

-- what stands behind the next place of a tag; nothing where it has none
abbrev pub behind_next : (tag : List ℕ) → List ℕ → List ℕ
behind_next tag [] = []
behind_next tag (byte ∷ rest) = if starts_with ◌==◌ (byte ∷ rest) tag then drop (length tag) (byte ∷ rest) else behind_next tag rest

abbrev pub quoted_by : List ℕ → Option (List ℕ) → ℕ
quoted_by bytes None = 0
quoted_by bytes (Some body) = length bytes - length (behind_next (take (length bytes - length body) bytes) body)

-- how many bytes the one has that begins with the first, a dollar, with both tags: 0 where none does
abbrev pub quoted : List ℕ → ℕ
quoted bytes = if is_digit (get_or bytes 1 0) then 0 else quoted_by bytes (behind_tag (drop 1 bytes))

-- ---- in what a byte stands, by the one before it, and how many after it stand in the same

abbrev pub is_e : ℕ → Bool
is_e byte = byte == 69 || byte == 101

-- what stands before the quote of a text: B, E, N or X
abbrev pub is_mark : ℕ → Bool
is_mark byte = list_any (λ mark. mark == byte) (codes "BbEeNnXx")

abbrev pub is_blank : ℕ → Bool
is_blank byte = byte == 32 || is_among 9 13 byte

abbrev pub is_closing : ℕ → Bool
is_closing byte = byte == 41 || byte == 93

-- at a dollar, with which a text of so many bytes begins, or a word
abbrev pub dollared : ℕ → Inside × ℕ
dollared len = if nat_le 1 len then (Closed, len - 1) else (Word, 0)

-- where anything may begin
abbrev pub begun : (byte next : ℕ) → List ℕ → Inside × ℕ
begun byte next bytes =
    if byte == 39 then (Text false, 0)
    else if is_mark byte && next == 39 then (Text (is_e byte), 1)
    else if is_digit byte || (byte == 46 && is_digit next) then (Number, 0)
    else if byte == 36 then dollared (quoted bytes)
    else if goes_on byte then (Word, 0)
    else if byte == 34 then (Name, 0)
    else if byte == 45 && next == 45 then (LineComment, 0)
    else if byte == 47 && next == 42 then (BlockComment 0, 1)
    else if is_blank byte || is_closing byte then (Between, 0)
    else (Opened, 0)

-- behind an operator, a comma or an opening bracket a sign is a number's
abbrev pub opened : (byte next : ℕ) → List ℕ → Inside × ℕ
opened byte next bytes =
    if (byte == 43 || byte == 45) && is_digit next then (Number, 0)
    else if is_blank byte then (Opened, 0)
    else begun byte next bytes

-- the sign of an exponent is a number's
abbrev pub numbered : (byte next : ℕ) → List ℕ → Inside × ℕ
numbered byte next bytes =
    if is_e byte && (next == 43 || next == 45) then (Number, 1)
    else if goes_on byte || byte == 46 then (Number, 0)
    else begun byte next bytes

-- a doubled quote is a text's, and so is what an escape's backslash stands before
abbrev pub texted : (escapes : Bool) → (byte next : ℕ) → Inside × ℕ
texted escapes byte next =
    if (byte == 39 && next == 39) || (escapes && byte == 92) then (Text escapes, 1)
    else if byte == 39 then (Closed, 0)
    else (Text escapes, 0)

abbrev pub commented : (depth byte next : ℕ) → Inside × ℕ
commented depth byte next =
    if byte == 42 && next == 47 then (if depth == 0 then (Between, 1) else (BlockComment (depth - 1), 1))
    else if byte == 47 && next == 42 then (BlockComment (capped (depth + 1)), 1)
    else (BlockComment depth, 0)

abbrev pub read : Inside → (byte next : ℕ) → List ℕ → Inside × ℕ
read Between byte next bytes = begun byte next bytes
read Opened byte next bytes = opened byte next bytes
read Closed byte next bytes = begun byte next bytes
read Word byte next bytes = if goes_on byte then (Word, 0) else begun byte next bytes
read Number byte next bytes = numbered byte next bytes
read (Text escapes) byte next bytes = texted escapes byte next
read Name byte next bytes = if byte == 34 then (Between, 0) else (Name, 0)
read LineComment byte next bytes = if byte == 10 then (Between, 0) else (LineComment, 0)
read (BlockComment depth) byte next bytes = commented depth byte next

abbrev pub step : Inside → (same : ℕ) → List ℕ → Inside × ℕ
step inside same bytes = if same == 0 then read inside (get_or bytes 0 0) (get_or bytes 1 0) bytes else (inside, same - 1)

-- ---- what is left

abbrev pub is_literal : Inside → Bool
is_literal Number = true
is_literal (Text escapes) = true
is_literal Closed = true
is_literal inside = false

-- of a byte that stands in the second, behind one that stands in the first
abbrev pub shown : Inside → Inside → (byte : ℕ) → List ℕ
shown from to byte = if not (is_literal to) then byte ∷ [] else if is_literal from then [] else 63 ∷ []

abbrev pub folded_from : Inside → (same : ℕ) → List ℕ → List ℕ
folded_from inside same [] = []
folded_from inside same (byte ∷ rest) = shown inside (step inside same (byte ∷ rest)).0 byte ++ folded_from (step inside same (byte ∷ rest)).0 (step inside same (byte ∷ rest)).1 rest

abbrev pub folded : List ℕ → List ℕ
folded text = folded_from Between 0 text
