-- Messages that differ in their secrets alone say the same.
use Rattle.pgtrace_lines.proofs.Common.{◌≡◌, ℕ, Bool, true, false, List, [], ◌∷◌, length, Option, Some, None, refl, ap, ◌∙◌, codes, Message, Key, Number, Hidden, followed, Style, Alike, quiet, Says, Shows, called, inner_data}
use Rattle.pgtool_line.specs.Line.{key}
use Rattle.pgtrace_lines.proofs.AlikeCases.{heard_alike}

pub hidden : (style : Style) (m n : Message) (old new : List ℕ) → Alike m n → Shows (quiet style) m old new → Shows (quiet style) n old new
hidden style m n old new alike =
    let process = Key (codes "process") (codes "process_id") in
    let secret = Key (codes "key") (codes "secret_key") in
    heard_alike (λ x y. Shows (quiet style) x old new → Shows (quiet style) y old new) (λ m s. s)
    (λ a b e s. s ∙ ap (λ k. followed (quiet style) old (key (codes "salt") ∷ Hidden k ∷ [])) e)
    (λ a b e s. s ∙ ap (λ k. followed (quiet style) old (key (codes "data") ∷ Hidden k ∷ [])) e)
    (λ a b e s. s ∙ ap (λ k. followed (quiet style) old (key (codes "data") ∷ Hidden k ∷ [])) e)
    (λ a b e s. s ∙ ap (λ k. followed (quiet style) old (key (codes "data") ∷ Hidden k ∷ [])) e)
    (λ a b e s. s ∙ ap (λ p. followed (quiet style) old (process ∷ Number p ∷ secret ∷ Hidden (length a.secret_key) ∷ [])) e.0 ∙ ap (λ k. followed (quiet style) old (process ∷ Number b.process_id ∷ secret ∷ Hidden k ∷ [])) e.1)
    m n alike

-- and have one name
pub same_call : (m n : Message) → Alike m n → called m ≡ called n
same_call m n alike = heard_alike (λ x y. called x ≡ called y) (λ m. refl) (λ a b e. refl) (λ a b e. refl) (λ a b e. refl) (λ a b e. refl) (λ a b e. refl) m n alike

-- and the same data in them
pub same_data : (r : Bool) (m n : Message) → Alike m n → inner_data r m ≡ inner_data r n
same_data false m n e = refl
same_data true m n alike = heard_alike (λ x y. inner_data true x ≡ inner_data true y) (λ m. refl) (λ a b e. refl) (λ a b e. refl) (λ a b e. refl) (λ a b e. refl) (λ a b e. refl) m n alike

pub hidden_inside : (inside : Option (List ℕ)) (style : Style) (m n : Message) (old new : List ℕ) → Alike m n → Says inside (quiet style) m old new → Says inside (quiet style) n old new
hidden_inside (Some bytes) style m n old new e s = s
hidden_inside None style m n old new e s = hidden style m n old new e s
