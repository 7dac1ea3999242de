-- A map whose keys are read as names.
use Rattle.pgtrace_summary.proofs.Common.{◌≡◌, ℕ, suc, ◌+◌, Bool, true, false, List, [], ◌∷◌, length, Option, Some, None, refl, ap, sym, ◌∙◌, arith, swap_remove, if◌then◌else◌, not, option_map_or, position_or_len, keys_of, lookup, set_value, bytes_eq, insert_entry, swap_remove_entry, found, names_of, put, read, without}
use Rattle.std.specs.Prelude.{position}
use Rattle.indexmap.proofs.SetLemmas.{map-swap_remove}
use Rattle.pgtrace_summary.proofs.FoundLemmas.{no_none}

module _ {K V : Type 0} (name : K → List ℕ) where
  pub found_read : (n : List ℕ) (es : List (K × V)) → lookup (λ k. bytes_eq n (name k)) es ≡ found n (read name es)
  found_read n [] = refl
  found_read n (e ∷ es) = ap (λ r. if bytes_eq n (name e.0) then Some e.1 else r) (found_read n es)

  pub put_read : (k : K) (v : V) (es : List (K × V)) → read name (insert_entry (λ x y. bytes_eq (name x) (name y)) es k v) ≡ put (name k) v (read name es)
  put_read k v [] = refl
  put_read k v (e ∷ es) = by (bytes_eq (name k) (name e.0)) refl (put_read k v es)
    where
      by : (b : Bool) → bytes_eq (name k) (name e.0) ≡ b → read name (insert_entry (λ x y. bytes_eq (name x) (name y)) es k v) ≡ put (name k) v (read name es) → read name (insert_entry (λ x y. bytes_eq (name x) (name y)) (e ∷ es) k v) ≡ put (name k) v (read name (e ∷ es))
      by true h rest = rw h refl
      by false h rest = rw h (ap (λ l. (name e.0, e.1) ∷ l) rest)

  position_read : (n : List ℕ) (es : List (K × V)) → position_or_len (λ k. bytes_eq n (name k)) (keys_of es) ≡ position_or_len (bytes_eq n) (names_of (read name es))
  position_read n [] = refl
  position_read n (e ∷ es) = ap (λ i. if not (bytes_eq n (name e.0)) then 1 + i else 0) (position_read n es)

  length_read : (es : List (K × V)) → length (keys_of es) ≡ length (names_of (read name es))
  length_read [] = refl
  length_read (e ∷ es) = ap suc (length_read es)

  place_read : (n : List ℕ) (es : List (K × V)) → position (λ k. bytes_eq n (name k)) (keys_of es) ≡ position (bytes_eq n) (names_of (read name es))
  place_read n es = rw (position_read n es) (rw (length_read es) refl)

  pub without_read : (n : List ℕ) (es : List (K × V)) → read name (swap_remove_entry (λ k. bytes_eq n (name k)) es) ≡ without n (read name es)
  without_read n [] = refl
  without_read n (e ∷ es) = by (position (λ k. bytes_eq n (name k)) (keys_of (e ∷ es))) ∙ ap (λ p. option_map_or (λ i. swap_remove (read name (e ∷ es)) i (name e.0, e.1)) p (read name (e ∷ es))) (place_read n (e ∷ es))
    where
      by : (p : Option ℕ) → read name (option_map_or (λ i. swap_remove (e ∷ es) i e) p (e ∷ es)) ≡ option_map_or (λ i. swap_remove (read name (e ∷ es)) i (name e.0, e.1)) p (read name (e ∷ es))
      by None = refl
      by (Some i) = map-swap_remove (λ (x : K × V). (name x.0, x.1)) (e ∷ es) i e (omega arith)

  pub set_read : (n : List ℕ) (w v : V) (es : List (K × V)) → lookup (λ k. bytes_eq n (name k)) es ≡ Some v → read name (set_value (λ k. bytes_eq n (name k)) es w) ≡ put n w (read name es)
  set_read n w v [] h = absurd (no_none h)
  set_read n w v (e ∷ es) h = by (bytes_eq n (name e.0)) refl (set_read n w v es)
    where
      by : (b : Bool) → bytes_eq n (name e.0) ≡ b → (lookup (λ k. bytes_eq n (name k)) es ≡ Some v → read name (set_value (λ k. bytes_eq n (name k)) es w) ≡ put n w (read name es))
          → read name (set_value (λ k. bytes_eq n (name k)) (e ∷ es) w) ≡ put n w (read name (e ∷ es))
      by true t rest = rw t refl
      by false t rest = rw t (ap (λ l. (name e.0, e.1) ∷ l) (rest (sym (ap (λ b. if b then Some e.1 else lookup (λ k. bytes_eq n (name k)) es) t) ∙ h)))
