-- A client's messages that differ in their secrets alone say the same.
use Rattle.pgtrace_lines.proofs.Common.{◌≡◌, ℕ, ℤ, Bool, true, false, List, [], ◌∷◌, length, Some, Ok, ap, codes, CancelRequest, PasswordMessage, SaslInitialResponse, SaslResponse, Style, client_line, grouped, Part, Name, Key, Member, Number, Text, Hidden, followed, quiet}
use Rattle.pgtool_line.specs.Line.{key as named}

-- a line with a name and one group of parts
abbrev one : Style → List ℕ → List ℕ → List Part → List ℕ
one style old name parts = grouped style (followed style old (Name false name ∷ [])) (parts ∷ [])

pub password : (style : Style) (reported : Bool) (a b old : List ℕ) → length a ≡ length b → client_line (quiet style) reported (Ok (PasswordMessage a)) old ≡ client_line (quiet style) reported (Ok (PasswordMessage b)) old
password style true a b old e = ap (λ n. one (quiet style) old (codes "PasswordMessage") (named (codes "password") ∷ Hidden n ∷ [])) e
password style false a b old e = ap (λ n. one (quiet style) old (codes "PasswordMessage") (named (codes "password") ∷ Hidden n ∷ [])) e

pub initial : (style : Style) (reported : Bool) (mechanism a b old : List ℕ) → length a ≡ length b
    → client_line (quiet style) reported (Ok (SaslInitialResponse mechanism (Some a))) old ≡ client_line (quiet style) reported (Ok (SaslInitialResponse mechanism (Some b))) old
initial style true mechanism a b old e = ap (λ n. one (quiet style) old (codes "SASLInitialResponse") (named (codes "mechanism") ∷ Text mechanism ∷ named (codes "data") ∷ Hidden n ∷ [])) e
initial style false mechanism a b old e = ap (λ n. one (quiet style) old (codes "SASLInitialResponse") (named (codes "mechanism") ∷ Text mechanism ∷ named (codes "data") ∷ Hidden n ∷ [])) e

pub response : (style : Style) (a b old : List ℕ) → length a ≡ length b → client_line (quiet style) true (Ok (SaslResponse a)) old ≡ client_line (quiet style) true (Ok (SaslResponse b)) old
response style a b old e = ap (λ n. one (quiet style) old (codes "SASLResponse") (named (codes "data") ∷ Hidden n ∷ [])) e

pub key : (style : Style) (reported : Bool) (process : ℤ) (a b old : List ℕ) → length a ≡ length b → client_line (quiet style) reported (Ok (CancelRequest process a)) old ≡ client_line (quiet style) reported (Ok (CancelRequest process b)) old
key style true process a b old e = ap (λ n. one (quiet style) old (codes "CancelRequest") (Key (codes "process") (codes "process_id") ∷ Number process ∷ Key (codes "key") (codes "secret_key") ∷ Hidden n ∷ [])) e
key style false process a b old e = ap (λ n. one (quiet style) old (codes "CancelRequest") (Key (codes "process") (codes "process_id") ∷ Number process ∷ Key (codes "key") (codes "secret_key") ∷ Hidden n ∷ [])) e

pub unreported : (style : Style) (a b old : List ℕ) → length a ≡ length b → client_line style false (Ok (SaslResponse a)) old ≡ client_line style false (Ok (SaslResponse b)) old
unreported style a b old e = ap (λ n. one style old (codes "Password, SASLInitialResponse or SASLResponse") (Member (codes "data") ∷ Hidden n ∷ [])) e
