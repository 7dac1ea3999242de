-- What a frame says that `pgp_message` doesn't read.
use Rattle.pgtrace_lines.proofs.Common.{◌≡◌, ℕ, List, Option, Result, Ok, Err, inl, inr, ap, ◌∙◌, OnOk, Style, followed, IsCallResult, IsCopyBoth, bare, ShowsCopyBoth, ShowsResult, copy_parts, result_parts}

pub result_shown : {T E : Type 0} (r : Result T E) (style : Style) (body named mid new : List ℕ) (value : Option (List ℕ)) → IsCallResult body value → mid ≡ named → OnOk r (new ≡ followed style mid (result_parts value)) → OnOk r (ShowsResult style body named new)
result_shown (Ok x) style body named mid new value is e f = inl (value, is, f ∙ ap (λ l. followed style l (result_parts value)) e)
result_shown (Err x) style body named mid new value is e f = tt

pub no_result_shown : {T E : Type 0} (r : Result T E) (style : Style) (body named mid new : List ℕ) → ((value : Option (List ℕ)) → IsCallResult body value → ⊥) → mid ≡ named → OnOk r (new ≡ followed style mid (bare body)) → OnOk r (ShowsResult style body named new)
no_result_shown (Ok x) style body named mid new is e f = inr (is, f ∙ ap (λ l. followed style l (bare body)) e)
no_result_shown (Err x) style body named mid new is e f = tt

pub copy_shown : {T E : Type 0} (r : Result T E) (style : Style) (body named mid new : List ℕ) (format : ℕ) (formats : List ℕ) → IsCopyBoth body format formats → mid ≡ named → OnOk r (new ≡ followed style mid (copy_parts format formats)) → OnOk r (ShowsCopyBoth style body named new)
copy_shown (Ok x) style body named mid new format formats is e f = inl (format, formats, is, f ∙ ap (λ l. followed style l (copy_parts format formats)) e)
copy_shown (Err x) style body named mid new format formats is e f = tt

pub no_copy_shown : {T E : Type 0} (r : Result T E) (style : Style) (body named mid new : List ℕ) → ((format : ℕ) (formats : List ℕ) → IsCopyBoth body format formats → ⊥) → mid ≡ named → OnOk r (new ≡ followed style mid (bare body)) → OnOk r (ShowsCopyBoth style body named new)
no_copy_shown (Ok x) style body named mid new is e f = inr (is, f ∙ ap (λ l. followed style l (bare body)) e)
no_copy_shown (Err x) style body named mid new is e f = tt
