-- Private: a text a run at a time.
use Rattle.std.specs.Prelude.{ℕ, Bool, false, if◌then◌else◌, List}
use Rattle.std.specs.List.{flat_map}
use Rattle.std.specs.Str.{chars}
use Rattle.pgtool_line.specs.declared.style.Form.{Form}
use Rattle.pgtool_line.specs.Quoting.{escaped_char, is_mark, is_visible}

-- a character of ASCII that stands as it is
abbrev pub is_plain : ℕ → Bool
is_plain b = if is_mark b then false else is_visible b

-- each character of a text
abbrev pub escaped_text : Form → List ℕ → List ℕ
escaped_text form text = flat_map (escaped_char form) (chars text)
