-- What came from an iterator over a list, and the message of the first items.
use Rattle.pgp_frontend.proofs.Common.{◌≡◌, ℕ, ◌*◌, ◌≤◌, List, [], ◌∷◌, ◌++◌, map, length, Option, Some, None, refl, sym, ap, subst, ◌∙◌, arith, inl, inr, length-append, flat_map, map-id, Yielded, Cause, either, text_cause, count_cause, Wants, WantsMemory, Held, oid, Error, either_first, counted_length, length-uint32, wants_more, ClientMessage, Parse, Arrived, ParseWhole, ParseSoFar, Refused, Oids, parts, parts_cause, bytes_of, cause}
use Rattle.std.specs.Prelude.{◌⊎◌}
use Rattle.std.specs.Iterator.{Yields, AlwaysYields}
use Rattle.std.specs.Option.{option_to_list}
use Rattle.std.proofs.lemmas.Iterator.{YieldsList, items_from_drains}
use Rattle.pgp_frontend.proofs.Causes.{parts_first, last_cause, either_more, count_more}
use Rattle.pgp_frontend.proofs.Needs.{parse_length}

pub yields_front : {S A B : Type 0} (steps : S → Option A → S → Type 0) (v : A → B) (s : S) (ys : List B) (xs : List A) (t : S) (x : A) (u : S)
    → AlwaysYields steps v s ys → Yields steps s xs t → steps t (Some x) u → (more : List B) × (ys ≡ map v xs ++ v x ∷ more)
yields_front steps v s [] [] t x u all y last = absurd (all x u (subst (λ (t : _). steps t (Some x) u) (sym y) last))
yields_front steps v s (b ∷ ys) [] t x u all y last =
    let k = all.1 x u (subst (λ (t : _). steps t (Some x) u) (sym y) last) in
    (ys, ap (λ (b : _). b ∷ ys) (sym k.0))
yields_front steps v s [] (a ∷ xs) t x u all y last = absurd (all a y.0 y.1)
yields_front steps v s (b ∷ ys) (a ∷ xs) t x u all y last =
    let k = all.1 a y.0 y.1 in
    let m = yields_front steps v y.0 ys xs t x u k.1 y.2 last in
    (m.0, rw (k.0, m.1) refl)

pub all_given : {U S A B : Type 0} (into_iter_gives : U → S → Type 0) (next_gives : S → Option A → S → Type 0) (source : U) (v : A → B) (ys : List B) → ((it : S) → into_iter_gives source it → YieldsList next_gives v it ys)
    → (xs : List A) → Yielded into_iter_gives next_gives source xs None → map v xs ≡ ys
all_given into_iter_gives next_gives source v ys y xs k = items_from_drains xs (k.received.0, k.received.1, λ _. (k.left, k.received.2)) (y k.iterator k.from)

pub some_given : {U S A B : Type 0} (into_iter_gives : U → S → Type 0) (next_gives : S → Option A → S → Type 0) (source : U) (v : A → B) (ys : List B) → ((it : S) → into_iter_gives source it → YieldsList next_gives v it ys)
    → (xs : List A) (x : A) → Yielded into_iter_gives next_gives source xs (Some x) → (more : List B) × (ys ≡ map v xs ++ v x ∷ more)
some_given into_iter_gives next_gives source v ys y xs x k = yields_front next_gives v k.iterator ys xs k.received.0 x k.left (y k.iterator k.from).runs k.received.1 k.received.2

-- the same where the items are seen as they are
pub all_same : {U S A : Type 0} (into_iter_gives : U → S → Type 0) (next_gives : S → Option A → S → Type 0) (source : U) (ys : List A) → ((it : S) → into_iter_gives source it → YieldsList next_gives (λ (x : A). x) it ys)
    → (xs : List A) → Yielded into_iter_gives next_gives source xs None → xs ≡ ys
all_same into_iter_gives next_gives source ys y xs k = sym (map-id xs) ∙ all_given into_iter_gives next_gives source (λ x. x) ys y xs k

pub some_same : {U S A : Type 0} (into_iter_gives : U → S → Type 0) (next_gives : S → Option A → S → Type 0) (source : U) (ys : List A) → ((it : S) → into_iter_gives source it → YieldsList next_gives (λ (x : A). x) it ys)
    → (xs : List A) (x : A) → Yielded into_iter_gives next_gives source xs (Some x) → (more : List A) × (ys ≡ xs ++ x ∷ more)
some_same into_iter_gives next_gives source ys y xs x k =
    let m = some_given into_iter_gives next_gives source (λ x. x) ys y xs x k in
    (m.0, m.1 ∙ ap (λ l. l ++ x ∷ m.0) (map-id xs))

-- ---- a statement with a list of types

oids_length : (ts : List ℕ) → length (flat_map oid ts) ≡ 4 * length ts
oids_length [] = refl
oids_length (t ∷ ts) = let more = oids_length ts in omega (arith, more, length-append (oid t) (flat_map oid ts), length-uint32 t)

module _ (name query : List ℕ) (all : List ℕ) where
  parse_longer : (ts : List ℕ) → length ts ≤ length all → length (bytes_of (Parse name query ts)) ≤ length (bytes_of (Parse name query all))
  parse_longer ts few = omega (arith, few, parse_length name query ts, parse_length name query all, counted_length oid ts, counted_length oid all, oids_length ts, oids_length all)

  message_cause : (c d a b : Cause) (e : Error) → (a ≡ Some e → b ≡ Some e) → either c (either d (either a None)) ≡ Some e → either c (either d (either b None)) ≡ Some e
  message_cause c d a b e more h = either_more c (either d (either a None)) (either d (either b None)) e (λ i. either_more d (either a None) (either b None) e (λ j. either_first b None e (more (last_cause a e j))) i) h

  module _ (types : List ℕ → Option ℕ → Type 0) (all_types : (xs : List ℕ) → types xs None → xs ≡ all) (some_types : (xs : List ℕ) (x : ℕ) → types xs (Some x) → (more : List ℕ) × (all ≡ xs ++ x ∷ more)) where
    -- those that came so far are no more than all
    front_few : (xs : List ℕ) (x : ℕ) → types xs (Some x) → length (xs ++ x ∷ []) ≤ length all
    front_few xs x received = let k = some_types xs x received in omega (arith, ap length k.1, length-append xs (x ∷ []), length-append xs (x ∷ k.0))

    asked_few : (before : List ℕ) (next : Option ℕ) (xs : List ℕ) → types before next → xs ≡ before ++ option_to_list next → length xs ≤ length all
    asked_few before None xs received are = omega (arith, ap length are, ap length (all_types before received), length-append before [])
    asked_few before (Some x) xs received are = omega (arith, ap length are, front_few before x received)

    few : (xs : List ℕ) → Arrived types Oids xs → length xs ≤ length all
    few xs (inl none) = omega (arith, ap length none)
    few xs (inr received) = asked_few received.before received.next xs received.received received.are

    -- a cause of those that came so far is one of all
    so_far_cause : (m : ClientMessage) (e : Error) → ParseSoFar name query types m → parts_cause (parts m) ≡ Some e → cause (Parse name query all) ≡ Some e
    so_far_cause m e s c =
        parts_first (Parse name query all) e (message_cause (text_cause name) (text_cause query) (count_cause (length s.0)) (count_cause (length all)) e (count_more (length s.0) (length all) e (few s.0 s.1)) (ap (λ (m : ClientMessage). parts_cause (parts m)) (sym s.2) ∙ c))

    -- what rejects a message of the first types rejects that of all
    pub parse_refused : {K : Type 0} (lacks : Held K → ℕ → Type 0) (old : Held K) (e : Error) → Refused (ParseWhole name query types) (ParseSoFar name query types) lacks old e
        → WantsMemory (Wants lacks old (length (bytes_of (Parse name query all)))) e ⊎ (cause (Parse name query all) ≡ Some e)
    parse_refused lacks old e (inl k) =
        let so_far = k.1 in
        elim k.2 [
          | inl memory ↦
              let size : length (bytes_of k.0) ≡ length (bytes_of (Parse name query so_far.0)) = ap (λ m. length (bytes_of m)) so_far.2 in
              inl (memory.0, wants_more old _ _ (omega (arith, size, parse_longer so_far.0 (few so_far.0 so_far.1))) memory.1)
          | inr c ↦ inr (so_far_cause k.0 e so_far c)
        ]
    parse_refused lacks old e (inr r) = inr (ap (λ ts. cause (Parse name query ts)) (sym (all_types r.1.0 r.1.1)) ∙ (ap cause (sym r.1.2) ∙ r.3))
