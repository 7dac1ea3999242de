-- The styles that can be asked for.
use Rattle.std.specs.Prelude.{Bool, if◌then◌else◌}
use Rattle.pgtool_line.specs.declared.style.Form.TheVariants.{Columns, Json}
use Rattle.pgtool_line.specs.declared.style.Style.{Style}
use Rattle.pgtool_line.specs.Words.{greatest}

-- By a line of text or a JSON object; 64 bytes of a text or a value are shown, or all of them; and secrets aren't, or are
abbrev pub style_of : Bool → Bool → Bool → Style
style_of json full secrets = record { form = (if json then Json else Columns); limit = (if full then greatest else 64); secrets = secrets }
