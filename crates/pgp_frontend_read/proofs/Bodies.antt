-- What the readers of bodies with lists come to.
use Rattle.pgp_frontend_read.proofs.Common.{◌≡◌, ℕ, ℤ, List, [], ◌∷◌, Option, Some, Ok, refl, string_at, Bind, Parse, parse_of, bind_of, counted_at, type_at, format_at, value_at, ended}

pub parse_is : (payload a r b s : List ℕ) (types t : List ℕ) → string_at payload ≡ Some (a, r) → string_at r ≡ Some (b, s) → counted_at type_at s ≡ Ok (types, t) → ended (Parse a b types) t ≡ parse_of payload
unfolding parse_of
parse_is payload a r b s types [] e f g = rw (e, f, g) refl
parse_is payload a r b s types (c ∷ t) e f g = rw (e, f, g) refl

pub bind_is : (payload a r b s : List ℕ) (formats : List ℤ) (t : List ℕ) (values : List (Option (List ℕ))) (u : List ℕ) (results : List ℤ) (v : List ℕ)
    → string_at payload ≡ Some (a, r) → string_at r ≡ Some (b, s) → counted_at format_at s ≡ Ok (formats, t) → counted_at value_at t ≡ Ok (values, u) → counted_at format_at u ≡ Ok (results, v)
    → ended (Bind a b formats values results) v ≡ bind_of payload
unfolding bind_of
bind_is payload a r b s formats t values u results [] e f g h k = rw (e, f, g, h, k) refl
bind_is payload a r b s formats t values u results (c ∷ v) e f g h k = rw (e, f, g, h, k) refl
