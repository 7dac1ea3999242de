-- The elements of an array that were read, one after another.
use Rattle.pgp_uses.proofs.Common.{◌≡◌, ℕ, List, [], ◌∷◌, ◌++◌, Option, None, Ok, Err, refl, sym, ap, subst, ◌∙◌, append_assoc, AllZip, append-nil, Error, Walk, TakesItem, IsFinished, IsRefused, Format, ReadsElement, ReadsElements, RefusesElement, RefusesEnd}

zip_push : {A B : Type 0} (R : A → B → Type 0) (xs : List A) (ys : List B) (x : A) (y : B) → AllZip R xs ys → R x y → AllZip R (xs ++ x ∷ []) (ys ++ y ∷ [])
zip_push R [] [] x y all one = (one, tt)
zip_push R [] (b ∷ ys) x y all one = absurd all
zip_push R (a ∷ xs) [] x y all one = absurd all
zip_push R (a ∷ xs) (b ∷ ys) x y all one = (all.0, zip_push R xs ys x y all.1 one)

module _ {X V R : Type 0} (view : X → R) (f : Format V R) where
  -- these came, and were read
  pub record HasRead (from : Walk (Option (List ℕ))) (xs : List (Option X)) (now : Walk (Option (List ℕ))) : Type 0 where
    pub taken : List (Option (List ℕ))
    pub items : from.items ≡ taken ++ now.items
    pub end : now.end ≡ from.end
    pub read : ReadsElements view f taken xs

  pub none_read : (w : Walk (Option (List ℕ))) → HasRead w [] w
  none_read w = record { taken = []; items = refl; end = refl; read = tt }

  pub one_read : (from now next : Walk (Option (List ℕ))) (xs ys : List (Option X)) (element : Option (List ℕ)) (x : Option X) → HasRead from xs now → TakesItem now element next → ReadsElement view f element (Ok x) → ys ≡ xs ++ x ∷ [] → HasRead from ys next
  one_read from now next xs ys element x h t one grown = record {
    taken = h.taken ++ element ∷ [];
    items = h.items ∙ (ap (λ l. h.taken ++ l) t.items ∙ sym (append_assoc h.taken (element ∷ []) next.items));
    end = t.end ∙ h.end;
    read = subst (λ (l : List (Option X)). ReadsElements view f (h.taken ++ element ∷ []) l) (sym grown) (zip_push (λ e y. ReadsElement view f e (Ok y)) h.taken xs element x h.read one);
  }

  whole : (from now : Walk (Option (List ℕ))) (xs : List (Option X)) → HasRead from xs now → now.items ≡ [] → ReadsElements view f from.items xs
  whole from now xs h none = subst (λ (l : List (Option (List ℕ))). ReadsElements view f l xs) (sym (h.items ∙ (ap (λ l. h.taken ++ l) none ∙ append-nil h.taken))) h.read

  pub all_read : (from now next : Walk (Option (List ℕ))) (xs : List (Option X)) → HasRead from xs now → IsFinished now next → (from.end ≡ None) × ReadsElements view f from.items xs
  all_read from now next xs h t = (sym h.end ∙ t.end, whole from now xs h t.items)

  pub end_refused : (from now next : Walk (Option (List ℕ))) (xs : List (Option X)) (e : Error) → HasRead from xs now → IsRefused now e next → RefusesEnd view f from e
  end_refused from now next xs e h t = record { end = sym h.end ∙ t.end; xs = xs; read = whole from now xs h t.items }

  pub element_refused : (from now next : Walk (Option (List ℕ))) (xs : List (Option X)) (element : Option (List ℕ)) (e : Error) → HasRead from xs now → TakesItem now element next → ReadsElement view f element (Err e) → RefusesElement view f from.items e
  element_refused from now next xs element e h t one = record {
    before = h.taken;
    element = element;
    more = next.items;
    are = h.items ∙ ap (λ l. h.taken ++ l) t.items;
    xs = xs;
    read = h.read;
    refused = one;
  }
