-- What an array of steps comes to, alone and as the value of a message.
use Rattle.postgres_protocol.proofs.Common.{◌≡◌, ℕ, ◌+◌, ◌*◌, ◌≤◌, List, [], ◌∷◌, ◌++◌, map, take, length, Option, Some, None, Result, Ok, Err, Bor, MutBor, refl, sym, ap, subst, ◌∙◌, inl, inr, arith, length-append, map-append, Error, BindError, Conversion, Serialization, IsNull, Yes, No, flat_map, option_to_list, uint32, oid, nullable, either, first, length_cause, nullable_cause, Wants, Held, ◌⊕◌, value_of, Puts, Gives, Runs, SoFar, KeepsValue, either_none, either_then, first_here, length_past, flat_more, nullable_least, sized_wants, length-uint32, more_twice, front_left, wants_more, wants_then, ArrayDimension, Array, dimension_bytes, has_null, flag_of, array_bytes, array_cause, Step, Append, Null, Refuse, Does, gives, Give, RefusesAt, array_of, ArrayRefused, ArrayWants, ArrayAppended, WritesSteps, option_len}
use Rattle.pgp_types.specs.ArrayWriting.{before_elements, MadeUpTo, ArrayWritten, ArrayRefused as RefusedArray}
use Rattle.std.specs.Iterator.Adapters.{once_item}
use Rattle.std.specs.declared.iter.Once.{Once}
use Rattle.pgp_message_write.proofs.Lists.{same_more}
use Rattle.pgp_types.proofs.ArrayWrites.{dimensions_length}

-- The laws of the closures.

pub keeps_steps : {K : Type 0} (ds : List ArrayDimension) (type : ℕ) (steps : List Step) (lacks : Held K → ℕ → Type 0) (old new : Held K) (r : Result IsNull (BindError Error)) → WritesSteps ds type steps lacks old new r → KeepsValue r old new
keeps_steps ds type steps lacks old new (Ok Yes) d = let e : Yes ≡ No = d.0 in absurd cc
keeps_steps ds type steps lacks old new (Ok No) d = (array_bytes (array_of ds type d.1.vs), d.1.appended)
keeps_steps ds type steps lacks old new (Err e) d = front_left old new d.1

append_one : {A : Type 0} (xs : List A) (x : A) (ys : List A) → (xs ++ x ∷ []) ++ ys ≡ xs ++ x ∷ ys
append_one [] x ys = refl
append_one (y ∷ xs) x ys = ap (λ l. y ∷ l) (append_one xs x ys)

give_more : (before : List Step) (vs : List (Option (List ℕ))) (s : Step) (v : Option (List ℕ)) → Give before vs → gives s ≡ Some v → Give (before ++ s ∷ []) (vs ++ v ∷ [])
give_more before vs s v g h = map-append gives before (s ∷ []) ∙ (rw (g, h) (sym (map-append (λ v. Some v) vs (v ∷ []))))

same_array : (xs ds : List ArrayDimension) (m n : ℕ) (vs : List (Option (List ℕ))) → xs ≡ ds → m ≡ n
    → (let a : Array = record { dimensions = xs; element_type = m; elements = vs } in let b : Array = record { dimensions = ds; element_type = n; elements = vs } in a ≡ b)
same_array xs ds m n vs e f = rw (e, f) refl

-- The inner closure does the steps.

-- what a step that answered gave
step_known : {K : Type 0} (s : Step) (lacks : Held K → ℕ → Type 0) (null : IsNull) (bytes : List ℕ) (before after : Held K) (v : Option (List ℕ)) → v ≡ value_of null bytes → Does s lacks before after (Ok null) → after ≡ before ⊕ bytes → gives s ≡ Some v
step_known (Append w) lacks null bytes before after v e d b =
    let i : w.items ≡ bytes = same_more before after w.items bytes d.1 b in
    rw (e, d.0, i) refl
step_known Null lacks null bytes before after v e d b = rw (e, d.0) refl
step_known (Refuse r) lacks null bytes before after v e d b = absurd d

step_refuses : {K : Type 0} (s : Step) (lacks : Held K → ℕ → Type 0) (before after : Held K) (e : Error) (Wanted : List ℕ → Type 0) → ((bytes : List ℕ) → Wants lacks before (length bytes) → Wanted bytes)
    → Does s lacks before after (Err e) → RefusesAt Wanted s e
step_refuses (Append w) lacks before after e Wanted wants d = (d.0.0, wants w.items d.0.1)
step_refuses Null lacks before after e Wanted wants d = absurd d
step_refuses (Refuse r) lacks before after e Wanted wants d = d.0

-- A growth that an element needs is one that the array needs.

module _ (ds : List ArrayDimension) (type : ℕ) where
  abbrev flag : List (Option (List ℕ)) → List ℕ
  flag vs = uint32 (flag_of (has_null vs))

  pub array_length : (vs : List (Option (List ℕ))) → length (array_bytes (array_of ds type vs)) ≡ 12 + 8 * length ds + length (flat_map nullable vs)
  array_length vs =
      let count = uint32 (length ds) in
      let made = flat_map nullable vs in
      let all = flat_map dimension_bytes ds in
      omega (
        arith,
        dimensions_length ds,
        length-append (count ++ flag vs ++ oid type ++ all) made,
        length-append (count ++ flag vs ++ oid type) all,
        length-append (count ++ flag vs) (oid type),
        length-append count (flag vs),
        length-uint32 (length ds),
        length-uint32 (flag_of (has_null vs)),
        length-uint32 type,
      )

  module _ {K : Type 0} {lacks : Held K → ℕ → Type 0} (old : Held K) where
    -- of the head, in whose dimensions these stand
    pub head_wants : (n : ℕ) (vs : List (Option (List ℕ))) → n ≤ length ds → Wants lacks old (12 + 8 * n) → Wants lacks old (length (array_bytes (array_of ds type vs)))
    head_wants n vs h w = wants_more old (12 + 8 * n) _ (let l = array_length vs in omega (arith, l, h)) w

    -- of an element, after others
    pub element_wants : (b : Held K) (vs : List (Option (List ℕ))) (v : Option (List ℕ)) (n : ℕ) → b ≡ before_elements old ds type ⊕ flat_map nullable vs → n ≤ length (nullable v) → Wants lacks b n
        → Wants lacks old (length (array_bytes (array_of ds type (vs ++ v ∷ []))))
    element_wants b vs v n h k w =
        let count = uint32 (length ds) in
        let made = flat_map nullable vs in
        let all = flat_map dimension_bytes ds in
        let stands = h
        ∙ (more_twice (old ⊕ count ⊕ uint32 0 ⊕ oid type) all made
        ∙ (more_twice (old ⊕ count ⊕ uint32 0) (oid type) (all ++ made)
        ∙ (more_twice (old ⊕ count) (uint32 0) (oid type ++ (all ++ made)) ∙ more_twice old count (uint32 0 ++ (oid type ++ (all ++ made)))))) in
        wants_then old b (count ++ (uint32 0 ++ (oid type ++ (all ++ made)))) n _ stands
        (omega (
          arith,
          k,
          array_length (vs ++ v ∷ []),
          flat_more nullable vs v,
          dimensions_length ds,
          length-append count (uint32 0 ++ (oid type ++ (all ++ made))),
          length-append (uint32 0) (oid type ++ (all ++ made)),
          length-append (oid type) (all ++ made),
          length-append all made,
          length-uint32 (length ds),
          length-uint32 0,
          length-uint32 type,
        )) w

module _ {F B K : Type 0} (held : B → Held K) (step : F → Bor Step → MutBor B → Result IsNull Error → MutBor B → F → Type 0) (lacks : Held K → ℕ → Type 0)
    (does : (f f' : F) (x : Bor Step) (b b' : MutBor B) (r : Result IsNull Error) → step f x b r b' f' → Does x.now lacks (held b.now) (held b'.now) r) where
  put_gives : (here : Held K) (f : F) (x : Bor Step) (null : IsNull) (bytes : List ℕ) (u : F) (v : Option (List ℕ)) → v ≡ value_of null bytes → Puts held step here f x (Ok null) bytes u → gives x.now ≡ Some v
  put_gives here f x null bytes u v is m =
      step_known x.now lacks null bytes here (held m.after.now) v is
      (subst (λ (h : Held K). Does x.now lacks h (held m.after.now) (Ok null)) m.stood (does f u x m.before m.after (Ok null) m.called)) m.appended

  runs_give : (here : Held K) (f : F) (xs : List (Bor Step)) (vs : List (Option (List ℕ))) (t : F) → Runs (Gives held step) nullable here f xs vs t → Give (map (λ x. x.now) xs) vs
  runs_give here f [] [] t r = refl
  runs_give here f [] (v ∷ vs) t r = absurd r
  runs_give here f (x ∷ xs) [] t r = absurd r
  runs_give here f (x ∷ xs) (v ∷ vs) t r =
      let m = r.1 in
      rw (put_gives (here ⊕ uint32 0) f x m.null m.bytes r.0 v m.value m.put, runs_give (here ⊕ nullable v) r.0 xs vs t r.2) refl

  runs_fit : (here : Held K) (f : F) (xs : List (Bor Step)) (vs : List (Option (List ℕ))) (t : F) → Runs (Gives held step) nullable here f xs vs t → first (map nullable_cause vs) ≡ None
  runs_fit here f [] [] t r = refl
  runs_fit here f [] (v ∷ vs) t r = absurd r
  runs_fit here f (x ∷ xs) [] t r = absurd r
  runs_fit here f (x ∷ xs) (v ∷ vs) t r = either_none (nullable_cause v) (first (map nullable_cause vs)) r.1.fits (runs_fit (here ⊕ nullable v) r.0 xs vs t r.2)

  module _ (ds : List ArrayDimension) (type : ℕ) (steps : List Step) (dimensions : List ArrayDimension → Option ArrayDimension → Type 0) (elements : List (Bor Step) → Option (Bor Step) → Type 0)
      (all_dimensions : (xs : List ArrayDimension) → dimensions xs None → xs ≡ ds) (some_dimensions : (xs : List ArrayDimension) (x : ArrayDimension) → dimensions xs (Some x) → (more : List ArrayDimension) × (ds ≡ xs ++ x ∷ more))
      (all_steps : (xs : List (Bor Step)) → elements xs None → map (λ x. x.now) xs ≡ steps) (some_steps : (xs : List (Bor Step)) (x : Bor Step) → elements xs (Some x) → (more : List Step) × (steps ≡ map (λ x. x.now) xs ++ x.now ∷ more))
      (f last : F) (old : Held K) where
    pub steps_ok : (new : Held K) → ArrayWritten held step dimensions type elements f last old new → ArrayAppended ds type steps old new
    steps_ok new w =
        let d = all_dimensions w.array.dimensions w.received in
        let same : w.array ≡ array_of ds type w.array.elements = same_array w.array.dimensions ds w.array.element_type type w.array.elements d w.type in
        record {
          vs = w.array.elements;
          give = ap (λ xs. map gives xs) (sym (all_steps w.made.xs w.made.received)) ∙ runs_give _ f w.made.xs w.array.elements last w.made.runs;
          none = subst (λ (a : Array). array_cause a ≡ None) same w.none;
          appended = w.appended ∙ ap (λ (a : Array). old ⊕ array_bytes a) same;
        }

    stopped : (e : BindError Error) (all : List ArrayDimension) → dimensions all None → length_cause (length all) ≡ None → MadeUpTo held step elements f last (before_elements old all type) lacks e → ArrayRefused ds type steps (ArrayWants ds type lacks old) e
    stopped (Conversion e) all received fits s =
        let k = some_steps s.xs s.x s.received in
        let d = all_dimensions all received in
        let call = s.refused.1 in
        let behind : before_elements old all type ⊕ flat_map nullable s.made ≡ before_elements old ds type ⊕ flat_map nullable s.made = ap (λ ds. before_elements old ds type ⊕ flat_map nullable s.made) d in
        record {
          before = map (λ x. x.now) s.xs;
          step = s.x.now;
          more = k.0;
          are = k.1;
          vs = s.made;
          give = runs_give _ f s.xs s.made s.at s.runs;
          none = either_none (length_cause (length ds)) (first (map nullable_cause s.made)) (subst (λ (xs : List ArrayDimension). length_cause (length xs) ≡ None) d fits) (runs_fit _ f s.xs s.made s.at s.runs);
          refuses = step_refuses s.x.now lacks (held call.before.now) (held call.after.now) e (λ bytes. ArrayWants ds type lacks old (s.made ++ Some bytes ∷ []))
              (λ bytes w. element_wants ds type old _ s.made (Some bytes) (length (nullable (Some bytes))) behind (omega arith) (sized_wants bytes 0 _ (held call.before.now) call.stood w))
              (does s.at last s.x call.before call.after (Err e) call.called);
        }
    stopped (Serialization e) all received fits s =
        let k = some_steps s.xs s.x s.received in
        let d = all_dimensions all received in
        elim s.refused [
          | inl memory ↦
              inl (
                memory.0.0,
                record {
                  before = map (λ x. x.now) s.xs;
                  more = s.x.now ∷ k.0;
                  are = k.1;
                  vs = s.made;
                  give = runs_give _ f s.xs s.made s.at s.runs;
                  wanted = element_wants ds type old _ s.made None 4 (ap (λ ds. before_elements old ds type ⊕ flat_map nullable s.made) d) (nullable_least None) memory.0.1;
                },
              )
          | inr long ↦
              let v : Option (List ℕ) = Some long.0 in
              let one = put_gives _ s.at s.x No long.0 last v refl long.1 in
              inr (record {
                before = map (λ x. x.now) s.xs ++ s.x.now ∷ [];
                more = k.0;
                are = k.1 ∙ sym (append_one (map (λ x. x.now) s.xs) s.x.now k.0);
                vs = s.made ++ v ∷ [];
                give = give_more (map (λ x. x.now) s.xs) s.made s.x.now v (runs_give _ f s.xs s.made s.at s.runs) one;
                some = either_then (length_cause (length ds)) (first (map nullable_cause (s.made ++ v ∷ []))) (subst (λ (xs : List ArrayDimension). length_cause (length xs) ≡ None) d fits)
                    ∙ (ap first (map-append nullable_cause s.made (v ∷ [])) ∙ first_here (map nullable_cause s.made) (nullable_cause v) [] e (runs_fit _ f s.xs s.made s.at s.runs) long.2);
              })
        ]

    -- of the dimensions, those that came so far are no more than all
    asked_few : (before : List ArrayDimension) (next : Option ArrayDimension) (xs : List ArrayDimension) → dimensions before next → xs ≡ before ++ option_to_list next → length xs ≤ length ds
    asked_few before None xs received are = let n = ap (λ l. length l) are in let m = ap (λ l. length l) (all_dimensions before received) in omega (arith, n, m, length-append before [])
    asked_few before (Some x) xs received are =
        let k = some_dimensions before x received in
        let n = ap (λ l. length l) are in
        let m = ap (λ l. length l) k.1 in
        omega (arith, n, m, length-append before (x ∷ []), length-append before (x ∷ k.0))

    few : (xs : List ArrayDimension) → SoFar dimensions xs → length xs ≤ length ds
    few xs (inl none) = let n = ap (λ l. length l) none in omega (arith, n)
    few xs (inr asked) = asked_few asked.before asked.next xs asked.received asked.are

    pub steps_refused : (e : BindError Error) → RefusedArray held step dimensions type elements f last old lacks e → ArrayRefused ds type steps (ArrayWants ds type lacks old) e
    steps_refused (Conversion e) (inl head) = absurd head.0
    steps_refused (Serialization e) (inl head) =
        elim head.0 [
          | inl memory ↦
              let so_far = memory.1 in
              inl (memory.0, record { before = []; more = steps; are = refl; vs = []; give = refl; wanted = head_wants ds type old (length so_far.0) (map (λ step. None) (take 1 steps)) (few so_far.0 so_far.1) so_far.2 })
          | inr past ↦
              let p = past.0 in
              let k = some_dimensions p.before p.last p.received in
              let long : length ds ≡ length p.before + length (p.last ∷ k.0) = ap (λ l. length l) k.1 ∙ length-append p.before (p.last ∷ k.0) in
              inr (record {
                before = [];
                more = steps;
                are = refl;
                vs = [];
                give = refl;
                some = ap (λ c. either c None) (length_past (length ds) (omega (arith, long, p.full))) ∙ ap (λ (e : Error). Some e) (sym past.1);
              })
        ]
    steps_refused e (inr at) = stopped e at.all at.received at.fits at.stops

-- the iterator of an `Option`
abbrev pub FromOption : {A : Type 0} → Type 0 → Option A → Once A → Type 0
FromOption Ends source it = (once_item it ≡ source) × (option_len (once_item it) ≤ 1) × Ends

-- of a list of one item, or of none
pub first_of_one : {A : Type 0} (a : A) (xs : List A) (x : A) → (more : List A) × (a ∷ [] ≡ xs ++ x ∷ more) → (xs ≡ []) × (xs ++ x ∷ [] ≡ a ∷ [])
first_of_one a [] x m = (refl, let e = m.1 in let h : a ≡ x = cc in ap (λ x. x ∷ []) (sym h))
first_of_one a (y ∷ xs) x m = absurd (let n = ap (λ l. length l) m.1 in omega (arith, n, length-append xs (x ∷ m.0)))

pub none_of_none : {A : Type 0} (xs : List A) (x : A) → (more : List A) × ([] ≡ xs ++ x ∷ more) → ⊥
none_of_none [] x m = let e = m.1 in absurd cc
none_of_none (y ∷ xs) x m = let e = m.1 in absurd cc
