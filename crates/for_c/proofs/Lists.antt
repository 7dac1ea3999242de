-- What the lists that C hands over make of a message.
use Rattle.for_c.proofs.Common.{◌≡◌, ℕ, ℤ, List, [], ◌∷◌, map, Option, None, Result, Ok, Err, Bor, MutBor, refl, sym, ap, subst, ◌∙◌, map-id, YieldsList, items_from_drains, Error, IsNull, Yes, No, uint32, nullable, Held, ◌⊕◌, Gives, Runs, KeepsValue, front_same, Bind, PgpValue, value_of, Puts}
use Rattle.std.specs.Iterator.{YieldsThen}
use Rattle.pgp_base.specs.Calls.{value_of as value_made, Puts as Put}
use Rattle.pgp_message_write.proofs.Lists.{same_more}

-- a call of the serializer keeps the bytes that stood there
pub keeps : {K : Type 0} (p : PgpValue) (lacks : Held K → ℕ → Type 0) (old new : Held K) (r : Result IsNull Error) → Puts p lacks old new r → KeepsValue r old new
keeps p lacks old new (Ok Yes) d = d.1
keeps p lacks old new (Ok No) d = (p.bytes.now, d.1)
keeps p lacks old new (Err e) d = front_same old new d.2

-- the value that a call made
made : {K : Type 0} (p : PgpValue) (lacks : Held K → ℕ → Type 0) (null : IsNull) (bytes : List ℕ) (before after : Held K) (v : Option (List ℕ)) → v ≡ value_made null bytes → Puts p lacks before after (Ok null) → after ≡ before ⊕ bytes → v ≡ value_of p
made p lacks Yes bytes before after v e d b = rw (e, d.0) refl
made p lacks No bytes before after v e d b =
    let i : p.bytes.now ≡ bytes = same_more before after p.bytes.now bytes d.1 b in
    rw (e, d.0, i) refl

pub fused : (xs : List (Bor PgpValue)) → map (λ (x : Bor PgpValue). value_of x.now) xs ≡ map value_of (map (λ (x : Bor PgpValue). x.now) xs)
fused [] = refl
fused (x ∷ xs) = ap (λ l. value_of x.now ∷ l) (fused xs)

module _ {F B K : Type 0} (held : B → Held K) (step : F → Bor PgpValue → MutBor B → Result IsNull Error → MutBor B → F → Type 0) (lacks : Held K → ℕ → Type 0)
    (puts : (f f' : F) (x : Bor PgpValue) (b b' : MutBor B) (r : Result IsNull Error) → step f x b r b' f' → Puts x.now lacks (held b.now) (held b'.now) r) where
  pub one : (here : Held K) (f : F) (x : Bor PgpValue) (null : IsNull) (bytes : List ℕ) (u : F) (v : Option (List ℕ)) → v ≡ value_made null bytes → Put held step here f x (Ok null) bytes u → v ≡ value_of x.now
  one here f x null bytes u v is m =
      made x.now lacks null bytes here (held m.after.now) v is
      (subst (λ (h : Held K). Puts x.now lacks h (held m.after.now) (Ok null)) m.stood (puts f u x m.before m.after (Ok null) m.called)) m.appended

  -- the values that the calls made, in order
  pub all_made : (here : Held K) (f : F) (xs : List (Bor PgpValue)) (vs : List (Option (List ℕ))) (t : F) → Runs (Gives held step) nullable here f xs vs t → vs ≡ map (λ (x : Bor PgpValue). value_of x.now) xs
  all_made here f [] [] t r = refl
  all_made here f [] (v ∷ vs) t r = absurd r
  all_made here f (x ∷ xs) [] t r = absurd r
  all_made here f (x ∷ xs) (v ∷ vs) t r =
      let m = r.1 in
      let first = one (here ⊕ uint32 0) f x m.null m.bytes r.0 v m.value m.put in
      let rest = all_made (here ⊕ nullable v) r.0 xs vs t r.2 in
      ap (λ y. y ∷ vs) first ∙ ap (λ l. value_of x.now ∷ l) rest

-- all items came of an iterator over a list
pub all_received : {S A B : Type 0} (steps : S → Option A → S → Type 0) (v : A → B) (s : S) (all : List B) → YieldsList steps v s all → (xs : List A) (left : S) → YieldsThen steps s xs None left → map v xs ≡ all
all_received steps v s all road xs left received = items_from_drains xs (received.0, received.1, λ _. (left, received.2)) road

pub all_same : {S A : Type 0} (steps : S → Option A → S → Type 0) (s : S) (all : List A) → YieldsList steps (λ (x : A). x) s all → (xs : List A) (left : S) → YieldsThen steps s xs None left → xs ≡ all
all_same steps s all road xs left received = sym (map-id xs) ∙ all_received steps (λ (x : _). x) s all road xs left received

pub same_bind : (p s : List ℕ) (fs gs : List ℤ) (vs ws : List (Option (List ℕ))) (rs ts : List ℤ) → fs ≡ gs → vs ≡ ws → rs ≡ ts → Bind p s fs vs rs ≡ Bind p s gs ws ts
same_bind p s fs gs vs ws rs ts e f h = rw (e, f, h) refl
