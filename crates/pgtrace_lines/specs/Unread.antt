-- What the line of a frame says that `pgp_message` doesn't read: of a FunctionCallResponse and a CopyBothResponse their parts, of another why it is rejected.
-- PostgreSQL manual, "Message Formats".
use Rattle.std.specs.Prelude.{◌≡◌, ◌≢◌, ◌⊎◌, ℕ, pos, false, List, [], ◌∷◌, length, Option, None, codes}
use Rattle.pgtrace_lines.specs.Common.{Error, Style, Part, Count, Key, Name, Number, Value, followed, key}
use Rattle.pgtrace_lines.specs.PlainBody.{IsCallResult, IsCopyBoth}
use Rattle.pgtrace_lines.specs.Shown.{bare, list_of, number_part, refused}

abbrev pub result_parts : Option (List ℕ) → List Part
result_parts value = key (codes "result") ∷ Value value ∷ []

abbrev pub copy_parts : ℕ → List ℕ → List Part
copy_parts format formats =
    key (codes "format") ∷ Number (pos format) ∷ Key (codes "columns") (codes "column_formats") ∷ Count (length formats) ∷ list_of number_part formats None

-- the line goes on with the parts of the body, or with its bytes where it has none
abbrev pub ShowsResult : Style → (body old new : List ℕ) → Type 0
ShowsResult style body old new =
    ((value : Option (List ℕ)) × IsCallResult body value × (new ≡ followed style old (result_parts value)))
    ⊎ (((value : Option (List ℕ)) → IsCallResult body value → ⊥) × (new ≡ followed style old (bare body)))

abbrev pub ShowsCopyBoth : Style → (body old new : List ℕ) → Type 0
ShowsCopyBoth style body old new =
    ((format : ℕ) × (formats : List ℕ) × IsCopyBoth body format formats × (new ≡ followed style old (copy_parts format formats)))
    ⊎ (((format : ℕ) (formats : List ℕ) → IsCopyBoth body format formats → ⊥) × (new ≡ followed style old (bare body)))

-- and so by the tag of the frame
pub data ShowsUnread (style : Style) (tag : ℕ) (body : List ℕ) (e : Error) (old new : List ℕ) : Type 0 where
  CallResult : tag ≡ 86 → ShowsResult style body (followed style old (Name false (codes "FunctionCallResponse") ∷ [])) new → ShowsUnread style tag body e old new
  CopyBoth : tag ≡ 87 → ShowsCopyBoth style body (followed style old (Name false (codes "CopyBothResponse") ∷ [])) new → ShowsUnread style tag body e old new
  Rejected : tag ≢ 86 → tag ≢ 87 → new ≡ followed style old (refused e) → ShowsUnread style tag body e old new
