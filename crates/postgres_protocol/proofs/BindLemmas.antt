-- The message that binds one value, and the one that binds an array of steps.
use Rattle.postgres_protocol.proofs.Common.{◌≡◌, ℕ, ◌+◌, ◌≤◌, ℤ, pos, List, [], ◌∷◌, ◌++◌, length, take, Option, Some, None, Result, Ok, Err, MutBor, refl, sym, ap, subst, ◌∙◌, inl, inr, arith, ◌⊎◌, flat_map, append-nil, Error, BindError, Conversion, Serialization, IsNull, No, option_to_list, uint16, uint32, int16, nullable, counted, Cause, Wants, either, Held, ◌⊕◌, value_of, Puts, Gives, Runs, flat_more, counted_length, nullable_least, sized_wants, counted_wants, nothing_more, wants_more, parts_first, null_length, bind_length, joined_more, framed_wants, ClientMessage, Bind, Part, Text, Int16s, Values, part_cause, parts, parts_cause, joined, bytes_of, cause, Arrived, Serves, before_values, BindWhole, BindSoFar, BindRefused, WritesBind, ArrayDimension, array_bytes, array_cause, Step, Append, Null, Refuse, Give, RefusesAt, array_of, ElementsWant, ArrayRefused, ArrayWants, WritesSteps, binding, BindWants, BindsArray, Target, unnamed, one_bound, names_cause, PutsOne, NamesRefused, OneTooLong, OneWants, OneRefused, OneBinds, BindsOne}
use Rattle.std.specs.Prelude.{map}
use Rattle.pgp_frontend.proofs.Fields.{cause_front}
use Rattle.pgp_message_write.proofs.Lists.{same_more}

-- ---- one value

only_one : (vs : List (Option (List ℕ))) (v w : Option (List ℕ)) → vs ≡ [] → v ≡ w → vs ++ v ∷ [] ≡ w ∷ []
only_one vs v w e f = rw (e, f) refl

module _ (to : Target) where
  -- the parts up to the value, and all of them
  abbrev up_to : List ℤ → List (Option (List ℕ)) → List Part
  up_to fs vs = Text to.portal ∷ Text to.statement ∷ Int16s fs ∷ Values vs ∷ []

  same_bind : (fs : List ℤ) (vs : List (Option (List ℕ))) (v : Option (List ℕ)) (rs : List ℤ) → fs ≡ pos 1 ∷ [] → vs ≡ v ∷ [] → rs ≡ to.results → Bind to.portal to.statement fs vs rs ≡ one_bound to v
  same_bind fs vs v rs e f h = rw (e, f, h) refl

  -- a cause of the names is one of the message
  pub names_first : (v : Option (List ℕ)) (e : Error) → names_cause to ≡ Some e → cause (one_bound to v) ≡ Some e
  names_first v e h = parts_first (one_bound to v) e (cause_front (Text to.portal ∷ Text to.statement ∷ []) (Int16s (pos 1 ∷ []) ∷ Values (v ∷ []) ∷ Int16s to.results ∷ []) e h)

  -- what stands after them has none
  names_last : (c d : Cause) → either c (either d (either None (either None (either None None)))) ≡ either c (either d None)
  names_last c d = refl

  -- the one format has none
  format_last : (c d : Cause) → either c (either d (either None None)) ≡ either c (either d None)
  format_last c d = refl

  names_alone : (fs : List ℤ) → fs ≡ pos 1 ∷ [] → parts_cause (Text to.portal ∷ Text to.statement ∷ Int16s fs ∷ []) ≡ names_cause to
  names_alone fs e = rw e (format_last (part_cause (Text to.portal)) (part_cause (Text to.statement)))

  -- no result's format came
  no_results : (c d k : Cause) → either c (either d (either None (either k None))) ≡ either c (either d (either None (either k (either None None))))
  no_results c d k = refl

  parts_are : (fs : List ℤ) (vs : List (Option (List ℕ))) (v : Option (List ℕ)) (e : Error) → fs ≡ pos 1 ∷ [] → vs ≡ v ∷ [] → parts_cause (parts (Bind to.portal to.statement fs vs [])) ≡ Some e → cause (one_bound to v) ≡ Some e
  parts_are fs vs v e f w c =
      let one = ap (λ gs. parts_cause (parts (Bind to.portal to.statement gs (v ∷ []) []))) (sym f) ∙ (ap (λ ws. parts_cause (parts (Bind to.portal to.statement fs ws []))) (sym w) ∙ c) in
      let up = no_results (part_cause (Text to.portal)) (part_cause (Text to.statement)) (part_cause (Values (v ∷ []))) ∙ one in
      parts_first (one_bound to v) e (cause_front (up_to (pos 1 ∷ []) (v ∷ [])) (Int16s to.results ∷ []) e up)

  -- after the formats that came so far, none or all, only the names have a cause
  formats_alone : (fs : List ℤ) → (fs ≡ []) ⊎ (fs ≡ pos 1 ∷ []) → parts_cause (parts (Bind to.portal to.statement fs [] [])) ≡ names_cause to
  formats_alone fs (inl e) = rw e (names_last (part_cause (Text to.portal)) (part_cause (Text to.statement)))
  formats_alone fs (inr e) = rw e (names_last (part_cause (Text to.portal)) (part_cause (Text to.statement)))

  -- and a null has none
  null_alone : (fs : List ℤ) (vs : List (Option (List ℕ))) → fs ≡ pos 1 ∷ [] → vs ≡ None ∷ [] → parts_cause (parts (Bind to.portal to.statement fs vs [])) ≡ names_cause to
  null_alone fs vs e f = rw (e, f) (names_last (part_cause (Text to.portal)) (part_cause (Text to.statement)))

-- ---- growths that the message of one value needs

-- of a list that came none or all of it did so far
asked_all : {A : Type 0} (given : List A → Option A → Type 0) (all : List A) → ((xs : List A) → given xs None → xs ≡ all) → ((xs : List A) (x : A) → given xs (Some x) → xs ++ x ∷ [] ≡ all)
    → (before : List A) (next : Option A) (xs : List A) → given before next → xs ≡ before ++ option_to_list next → xs ≡ all
asked_all given all ends goes before None xs received are = are ∙ (append-nil before ∙ ends before received)
asked_all given all ends goes before (Some x) xs received are = are ∙ goes before x received

none_or_all : (given : List ℤ → Option ℤ → Type 0) (all : List ℤ) → ((xs : List ℤ) → given xs None → xs ≡ all) → ((xs : List ℤ) (x : ℤ) → given xs (Some x) → xs ++ x ∷ [] ≡ all) → (xs : List ℤ) → Arrived given Int16s xs → (xs ≡ []) ⊎ (xs ≡ all)
none_or_all given all ends goes xs (inl none) = inl none
none_or_all given all ends goes xs (inr received) = inr (asked_all given all ends goes received.before received.next xs received.received received.are)

few : (xs all : List ℤ) → (xs ≡ []) ⊎ (xs ≡ all) → length (counted int16 xs) ≤ length (counted int16 all)
few xs all (inl none) = let n = ap (λ l. length (counted int16 l)) none in omega (arith, n, counted_length int16 [], counted_length int16 all)
few xs all (inr same) = let n = ap (λ l. length (counted int16 l)) same in omega (arith, n)

module _ (to : Target) where
  -- the part before the values
  head_length : (fs : List ℤ) → length (joined (Text to.portal ∷ Text to.statement ∷ Int16s fs ∷ [])) ≡ length (joined (Text to.portal ∷ Text to.statement ∷ [])) + length (counted int16 fs)
  head_length fs = joined_more (Text to.portal ∷ Text to.statement ∷ []) (Int16s fs)

  one_length : (v : Option (List ℕ)) → length (bytes_of (one_bound to v)) ≡ 5 + (length (joined (Text to.portal ∷ Text to.statement ∷ [])) + length (counted int16 (pos 1 ∷ []))) + length (counted nullable (v ∷ [])) + length (counted int16 to.results)
  one_length v = let n = bind_length to.portal to.statement (pos 1 ∷ []) (v ∷ []) to.results in let m = head_length (pos 1 ∷ []) in omega (arith, n, m)

module _ {K : Type 0} {lacks : Held K → ℕ → Type 0} {old : Held K} (to : Target) where
  head_wants : (fs : List ℤ) → length (counted int16 fs) ≤ length (counted int16 (pos 1 ∷ [])) → Wants lacks old (length (bytes_of (Bind to.portal to.statement fs [] []))) → Wants lacks old (length (bytes_of (one_bound to None)))
  head_wants fs few w =
      let n = bind_length to.portal to.statement fs [] [] in
      let m = head_length to fs in
      let k = one_length to None in
      wants_more old _ _ (omega (arith, n, m, k, few, counted_length nullable [], counted_length nullable (None ∷ []), counted_length int16 [], counted_length int16 to.results)) w

  bind_wants : (fs : List ℤ) (vs : List (Option (List ℕ))) (v : Option (List ℕ)) (rs : List ℤ) → length (counted int16 fs) ≡ length (counted int16 (pos 1 ∷ [])) → vs ≡ v ∷ [] → length (counted int16 rs) ≤ length (counted int16 to.results)
      → Wants lacks old (length (bytes_of (Bind to.portal to.statement fs vs rs))) → Wants lacks old (length (bytes_of (one_bound to v)))
  bind_wants fs vs v rs is are few w =
      let n = bind_length to.portal to.statement fs vs rs in
      let m = head_length to fs in
      let k = one_length to v in
      let one = ap (λ l. length (counted nullable l)) are in
      wants_more old _ _ (omega (arith, n, m, k, is, one, few)) w

  -- the message of a null is no longer than that of any value
  pub null_wants : (v : Option (List ℕ)) → Wants lacks old (length (bytes_of (one_bound to None))) → Wants lacks old (length (bytes_of (one_bound to v)))
  null_wants v w =
      let n = one_length to None in
      let m = one_length to v in
      wants_more old _ _ (omega (arith, n, m, nullable_least v, null_length, counted_length nullable (None ∷ []), counted_length nullable (v ∷ []), flat_more nullable [] None, flat_more nullable [] v)) w

  -- after the place of the value's length
  pub value_wants : (b : Held K) (v : Option (List ℕ)) (n : ℕ) → b ≡ before_values old to.portal to.statement (pos 1 ∷ []) → n ≤ length (nullable v) → Wants lacks b n → Wants lacks old (length (bytes_of (one_bound to v)))
  value_wants b v n h k w =
      let ps = Text to.portal ∷ Text to.statement ∷ Int16s (pos 1 ∷ []) ∷ [] in
      let here = old ⊕ 66 ∷ [] ⊕ uint32 0 ⊕ joined ps in
      let counts = counted_wants nullable [] v here b n (h ∙ sym (nothing_more (here ⊕ uint16 0))) k w in
      let m = bind_length to.portal to.statement (pos 1 ∷ []) (v ∷ []) to.results in
      framed_wants 66 ps old here (length (counted nullable (v ∷ []))) _ refl (omega (arith, m)) counts

module _ {F E B K : Type 0} (held : B → Held K) (step : F → ℕ → MutBor B → Result IsNull E → MutBor B → F → Type 0) (lacks : Held K → ℕ → Type 0) (to : Target)
    (formats : List ℤ → Option ℤ → Type 0) (values : List ℕ → Option ℕ → Type 0) (results : List ℤ → Option ℤ → Type 0)
    (all_formats : (xs : List ℤ) → formats xs None → xs ≡ pos 1 ∷ []) (some_formats : (xs : List ℤ) (x : ℤ) → formats xs (Some x) → xs ++ x ∷ [] ≡ pos 1 ∷ [])
    (all_values : (xs : List ℕ) → values xs None → xs ≡ 0 ∷ []) (some_values : (xs : List ℕ) (x : ℕ) → values xs (Some x) → (xs ≡ []) × (xs ++ x ∷ [] ≡ 0 ∷ []))
    (all_results : (xs : List ℤ) → results xs None → xs ≡ to.results) (some_results : (xs : List ℤ) (x : ℤ) → results xs (Some x) → xs ++ x ∷ [] ≡ to.results)
    (f last : F) (old : Held K) where
  abbrev before : List ℤ → Held K
  before fs = before_values old to.portal to.statement fs

  -- the same call
  put_same : (h k : Held K) (a b : F) (x y : ℕ) (answer : Result IsNull E) (bytes : List ℕ) (t u : F) → h ≡ k → a ≡ b → x ≡ y → t ≡ u → Puts held step h a x answer bytes t → Puts held step k b y answer bytes u
  put_same h k a b x y answer bytes t u e i j l put = rw (← e, ← i, ← j, ← l) put

  -- before the one value nothing was made
  none_made : (here : Held K) (xs : List ℕ) (vs : List (Option (List ℕ))) (t : F) → xs ≡ [] → Runs (Gives held step) nullable here f xs vs t → (f ≡ t) × (vs ≡ [])
  none_made here [] [] t e r = (r, refl)
  none_made here [] (v ∷ vs) t e r = absurd r
  none_made here (x ∷ xs) vs t e r = absurd cc

  alone : (xs : List ℕ) (x : ℕ) → (xs ≡ []) × (xs ++ x ∷ [] ≡ 0 ∷ []) → x ≡ 0
  alone xs x h = (let one : x ∷ [] ≡ 0 ∷ [] = ap (λ (l : List ℕ). l ++ x ∷ []) (sym h.0) ∙ h.1 in cc)

  -- the one call
  one_put : (fs : List ℤ) (xs : List ℕ) (x : ℕ) (vs : List (Option (List ℕ))) (at : F) (answer : Result IsNull E) (bytes : List ℕ) → fs ≡ pos 1 ∷ [] → (xs ≡ []) × (xs ++ x ∷ [] ≡ 0 ∷ [])
      → Runs (Gives held step) nullable (before fs) f xs vs at → Puts held step (before fs ⊕ flat_map nullable vs ⊕ uint32 0) at x answer bytes last → PutsOne held step to f last old answer bytes
  one_put fs xs x vs at answer bytes is come runs put =
      let made = none_made (before fs) xs vs at come.0 runs in
      let here : before fs ⊕ flat_map nullable vs ⊕ uint32 0 ≡ before (pos 1 ∷ []) ⊕ uint32 0 =
      ap (λ (vs : List (Option (List ℕ))). before fs ⊕ flat_map nullable vs ⊕ uint32 0) made.1 ∙ (ap (λ h. h ⊕ uint32 0) (nothing_more (before fs)) ∙ ap (λ fs. before fs ⊕ uint32 0) is) in
      put_same (before fs ⊕ flat_map nullable vs ⊕ uint32 0) (before (pos 1 ∷ []) ⊕ uint32 0) at f x 0 answer bytes last last here (sym made.0) (alone xs x come) refl put

  -- the one value
  one_value : (fs : List ℤ) (xs : List ℕ) (vs : List (Option (List ℕ))) → fs ≡ pos 1 ∷ [] → xs ≡ 0 ∷ [] → Runs (Gives held step) nullable (before fs) f xs vs last
      → (null : IsNull) × (bytes : List ℕ) × (vs ≡ value_of null bytes ∷ []) × PutsOne held step to f last old (Ok null) bytes
  one_value fs [] vs e h r = absurd cc
  one_value fs (x ∷ []) [] e h r = absurd r
  one_value fs (x ∷ []) (v ∷ []) e h r =
      let m = r.1 in
      let x_is : x ≡ 0 = cc in
      (m.null, m.bytes, ap (λ v. v ∷ []) m.value, put_same (before fs ⊕ uint32 0) (before (pos 1 ∷ []) ⊕ uint32 0) f f x 0 (Ok m.null) m.bytes r.0 last (ap (λ fs. before fs ⊕ uint32 0) e) refl x_is r.2 m.put)
  one_value fs (x ∷ []) (v ∷ w ∷ vs) e h r = absurd r.2
  one_value fs (x ∷ y ∷ xs) vs e h r = absurd cc

  abbrev Whole : ClientMessage → Type 0
  Whole m = BindWhole to.portal to.statement formats values (Serves held step f last) results old m

  -- the message of the one value
  pub one_whole : (m : ClientMessage) → Whole m → (null : IsNull) × (bytes : List ℕ) × (m ≡ one_bound to (value_of null bytes)) × PutsOne held step to f last old (Ok null) bytes
  one_whole m w =
      let fs = all_formats w.0 w.1 in
      let served = w.2.1 in
      let v = one_value w.0 served.xs w.2.0 fs (all_values served.xs served.received) served.made in
      (v.0, v.1, w.2.2.2 ∙ same_bind to w.0 w.2.0 (value_of v.0 v.1) w.2.2.0 fs v.2 (all_results w.2.2.0 w.2.2.1), v.3)

  -- the formats, and the formats of results, that came so far: none or all
  few_formats : (fs : List ℤ) → Arrived formats Int16s fs → (fs ≡ []) ⊎ (fs ≡ pos 1 ∷ [])
  few_formats fs so_far = none_or_all formats (pos 1 ∷ []) all_formats some_formats fs so_far

  few_results : (rs : List ℤ) → Arrived results Int16s rs → (rs ≡ []) ⊎ (rs ≡ to.results)
  few_results rs so_far = none_or_all results to.results all_results some_results rs so_far

  abbrev Yielded : ClientMessage → Type 0
  Yielded m = BindSoFar to.portal to.statement formats values (Serves held step f last) results old m

  -- a growth that the message so far needs
  one_wants : (m : ClientMessage) → Yielded m → Wants lacks old (length (bytes_of m)) → OneWants held step to f last old lacks
  one_wants m (inl k) w =
      let fs = k.1.0 in
      inl (k.0, head_wants to fs (few fs (pos 1 ∷ []) (few_formats fs k.1.1)) (subst (λ (m : ClientMessage). Wants lacks old (length (bytes_of m))) k.1.2 w))
  one_wants m (inr (inl k)) w =
      let fs = all_formats k.0 k.1.0 in
      let counts = ap (λ l. length (counted int16 l)) fs in
      let b = k.2.1 in
      let come = some_values b.xs b.x b.received in
      let none = few [] to.results (inl refl) in
      let wanted = subst (λ (m : ClientMessage). Wants lacks old (length (bytes_of m))) k.2.2 w in
      elim b.made [
        | inl waits ↦
            let made = none_made (before k.0) b.xs b.before last come.0 waits.0 in
            inl (made.0, bind_wants to k.0 k.2.0 None [] counts (b.are ∙ only_one b.before b.value None made.1 waits.1) none wanted)
        | inr put ↦
            let bytes = put.1.0 in
            let at = put.1.1 in
            let made = none_made (before k.0) b.xs b.before at.0 come.0 at.1 in
            inr (No, bytes, one_put k.0 b.xs b.x b.before at.0 (Ok No) bytes fs come at.1 at.2, bind_wants to k.0 k.2.0 (Some bytes) [] counts (b.are ∙ only_one b.before b.value (Some bytes) made.1 put.1.2) none wanted)
      ]
  one_wants m (inr (inr k)) w =
      let fs = all_formats k.0 k.1.0 in
      let v = one_value k.0 k.2.1.xs k.2.0 fs (all_values k.2.1.xs k.2.1.received) k.2.1.made in
      let rs = k.2.3 in
      inr (v.0, v.1, v.3, bind_wants to k.0 k.2.0 (value_of v.0 v.1) rs.0 (ap (λ l. length (counted int16 l)) fs) v.2 (few rs.0 to.results (few_results rs.0 rs.1)) (subst (λ (m : ClientMessage). Wants lacks old (length (bytes_of m))) rs.2 w))

  -- a cause of its parts
  one_caused : (m : ClientMessage) (e : Error) → Yielded m → parts_cause (parts m) ≡ Some e → NamesRefused held step to f last old e ⊎ OneTooLong held step to f last old e
  one_caused m e (inl k) c = inl (k.0, sym (formats_alone to k.1.0 (few_formats k.1.0 k.1.1)) ∙ (ap (λ (m : ClientMessage). parts_cause (parts m)) (sym k.1.2) ∙ c))
  one_caused m e (inr (inl k)) c =
      let fs = all_formats k.0 k.1.0 in
      let b = k.2.1 in
      let come = some_values b.xs b.x b.received in
      let c' = ap (λ (m : ClientMessage). parts_cause (parts m)) (sym k.2.2) ∙ c in
      elim b.made [
        | inl waits ↦
            let made = none_made (before k.0) b.xs b.before last come.0 waits.0 in
            inl (made.0, sym (null_alone to k.0 k.2.0 fs (b.are ∙ only_one b.before b.value None made.1 waits.1)) ∙ c')
        | inr put ↦
            let bytes = put.1.0 in
            let at = put.1.1 in
            let made = none_made (before k.0) b.xs b.before at.0 come.0 at.1 in
            inr (record {
              null = No;
              bytes = bytes;
              put = one_put k.0 b.xs b.x b.before at.0 (Ok No) bytes fs come at.1 at.2;
              some = parts_are to k.0 k.2.0 (Some bytes) e fs (b.are ∙ only_one b.before b.value (Some bytes) made.1 put.1.2) c';
            })
      ]
  one_caused m e (inr (inr k)) c =
      let fs = all_formats k.0 k.1.0 in
      let v = one_value k.0 k.2.1.xs k.2.0 fs (all_values k.2.1.xs k.2.1.received) k.2.1.made in
      let rs = k.2.3 in
      let c' = ap (λ (m : ClientMessage). parts_cause (parts m)) (sym rs.2) ∙ c in
      inr (record {
        null = v.0;
        bytes = v.1;
        put = v.3;
        some = elim (few_results rs.0 rs.1) [
          | inl none ↦ parts_are to k.0 k.2.0 (value_of v.0 v.1) e fs v.2 (ap (λ rs. parts_cause (parts (Bind to.portal to.statement k.0 k.2.0 rs))) (sym none) ∙ c')
          | inr all ↦ parts_first (one_bound to (value_of v.0 v.1)) e (ap (λ (m : ClientMessage). parts_cause (parts m)) (sym (same_bind to k.0 k.2.0 (value_of v.0 v.1) rs.0 fs v.2 all)) ∙ c')
        ];
      })

  pub one_refused : (e : BindError E) → BindRefused to.portal to.statement formats values (Serves held step f last) results old lacks e → OneRefused held step to f last old lacks e
  one_refused (Conversion e) w =
      let fs = all_formats w.0 w.1.0 in
      let v = w.2 in
      (v.bytes, one_put w.0 v.xs v.x v.before v.made.0 (Err e) v.bytes fs (some_values v.xs v.x v.received) v.made.1 v.made.2, sym (names_alone to w.0 fs) ∙ w.1.1)
  one_refused (Serialization e) (inl (m, so_far, inl memory)) = inl (memory.0, one_wants m so_far memory.1)
  one_refused (Serialization e) (inl (m, so_far, inr c)) = inr (one_caused m e so_far c)
  one_refused (Serialization e) (inr m) =
      let k = one_whole m.0 m.1 in
      inr (inr (record { null = k.0; bytes = k.1; put = k.3; some = subst (λ (m : ClientMessage). cause m ≡ Some e) k.2 m.3 }))

  pub one_binds : (r : Result (Unit {0}) (BindError E)) (new : Held K) → WritesBind to.portal to.statement formats values (Serves held step f last) results old lacks new r → OneBinds held step to f last old lacks new r
  one_binds (Ok done) new w =
      let k = one_whole w.message w.whole in
      record {
        null = k.0;
        bytes = k.1;
        put = k.3;
        none = subst (λ (m : ClientMessage). cause m ≡ None) k.2 w.none;
        appended = w.appended ∙ ap (λ (m : ClientMessage). old ⊕ bytes_of m) k.2;
      }
  one_binds (Err e) new w = (one_refused e w.0, w.1)

-- ---- the value is an array

-- what is said of a growth in the array is said of one in the message
refuses_as : (P Q : List ℕ → Type 0) (s : Step) (e : Error) → ((bytes : List ℕ) → P bytes → Q bytes) → RefusesAt P s e → RefusesAt Q s e
refuses_as P Q (Append bytes) e turn r = (r.0, turn bytes.items r.1)
refuses_as P Q Null e turn r = absurd r
refuses_as P Q (Refuse d) e turn r = r

refused_as : (ds : List ArrayDimension) (type : ℕ) (steps : List Step) (P Q : List (Option (List ℕ)) → Type 0) → ((vs : List (Option (List ℕ))) → P vs → Q vs) → (e : BindError Error) → ArrayRefused ds type steps P e → ArrayRefused ds type steps Q e
refused_as ds type steps P Q turn (Conversion e) r = record {
  before = r.before;
  step = r.step;
  more = r.more;
  are = r.are;
  vs = r.vs;
  give = r.give;
  none = r.none;
  refuses = refuses_as (λ bytes. P (r.vs ++ Some bytes ∷ [])) (λ bytes. Q (r.vs ++ Some bytes ∷ [])) r.step e (λ bytes. turn (r.vs ++ Some bytes ∷ [])) r.refuses;
}
refused_as ds type steps P Q turn (Serialization e) (inl memory) =
    let w = memory.1 in
    inl (memory.0, record { before = w.before; more = w.more; are = w.are; vs = w.vs; give = w.give; wanted = turn (w.vs ++ map (λ step. None) (take 1 w.more)) w.wanted })
refused_as ds type steps P Q turn (Serialization e) (inr cause) = inr cause

module _ {F B K : Type 0} (held : B → Held K) (step : F → ℕ → MutBor B → Result IsNull (BindError Error) → MutBor B → F → Type 0) (lacks : Held K → ℕ → Type 0)
    (ds : List ArrayDimension) (type : ℕ) (steps : List Step) (f last : F) (old : Held K)
    (acts : (u : F) (x : ℕ) (b b' : MutBor B) (r : Result IsNull (BindError Error)) → step f x b r b' u → WritesSteps ds type steps lacks (held b.now) (held b'.now) r) where
  -- the value is an array of what the steps give
  made_array : (null : IsNull) (bytes : List ℕ) → PutsOne held step unnamed f last old (Ok null) bytes
      → (ws : List (Option (List ℕ))) × Give steps ws × (array_cause (array_of ds type ws) ≡ None) × (one_bound unnamed (value_of null bytes) ≡ binding ds type ws)
  made_array null bytes m =
      let here = before_values old [] [] (pos 1 ∷ []) ⊕ uint32 0 in
      let a = acts last 0 m.before m.after (Ok null) m.called in
      let w = a.1 in
      let stands : held m.after.now ≡ here ⊕ array_bytes (array_of ds type w.vs) = w.appended ∙ ap (λ h. h ⊕ array_bytes (array_of ds type w.vs)) m.stood in
      let are : bytes ≡ array_bytes (array_of ds type w.vs) = same_more here (held m.after.now) bytes _ m.appended stands in
      (w.vs, w.give, w.none, ap (λ (n : IsNull). one_bound unnamed (value_of n bytes)) a.0 ∙ ap (λ (b : List ℕ). one_bound unnamed (Some b)) are)

  elements_want : OneWants held step unnamed f last old lacks → ElementsWant ds type steps (BindWants ds type lacks old)
  elements_want (inl head) = record { before = []; more = steps; are = refl; vs = []; give = refl; wanted = null_wants unnamed (Some (array_bytes (array_of ds type (map (λ step. None) (take 1 steps))))) head.1 }
  elements_want (inr made) =
      let k = made_array made.0 made.1 made.2 in
      record {
        before = steps;
        more = [];
        are = sym (append-nil steps);
        vs = k.0;
        give = k.1;
        wanted = subst (λ (vs : List (Option (List ℕ))). BindWants ds type lacks old vs) (sym (append-nil k.0)) (subst (λ (m : ClientMessage). Wants lacks old (length (bytes_of m))) k.3 made.3);
      }

  array_binds : (r : Result (Unit {0}) (BindError (BindError Error))) (new : Held K) → OneBinds held step unnamed f last old lacks new r → BindsArray ds type steps lacks old new r
  array_binds (Ok done) new w =
      let k = made_array w.null w.bytes w.put in
      record {
        vs = k.0;
        give = k.1;
        none = k.2;
        fits = subst (λ (m : ClientMessage). cause m ≡ None) k.3 w.none;
        appended = w.appended ∙ ap (λ (m : ClientMessage). old ⊕ bytes_of m) k.3;
      }
  array_binds (Err (Conversion e)) new w =
      let m = w.0.1 in
      let wants : (vs : List (Option (List ℕ))) → ArrayWants ds type lacks (held m.before.now) vs → BindWants ds type lacks old vs = λ vs s. value_wants unnamed _ (Some (array_bytes (array_of ds type vs))) _ refl (omega arith) (sized_wants (array_bytes (array_of ds type vs)) 0 _ (held m.before.now) m.stood s) in
      (refused_as ds type steps (ArrayWants ds type lacks (held m.before.now)) (BindWants ds type lacks old) wants e (acts last 0 m.before m.after (Err e) m.called).0, w.1)
  array_binds (Err (Serialization e)) new w = (
    elim w.0 [
      | inl memory ↦ inl (memory.0, elements_want memory.1)
      | inr (inl names) ↦ let none : None ≡ Some e = names.1 in absurd cc
      | inr (inr long) ↦
          let k = made_array long.null long.bytes long.put in
          inr (record { vs = k.0; give = k.1; none = k.2; some = subst (λ (m : ClientMessage). cause m ≡ Some e) k.3 long.some })
    ],
    w.1,
  )

pub binds_array : {F B K : Type 0} (held : B → Held K) (step : F → ℕ → MutBor B → Result IsNull (BindError Error) → MutBor B → F → Type 0) (lacks : Held K → ℕ → Type 0) (f : F) (old new : Held K) (r : Result (Unit {0}) (BindError (BindError Error)))
    → BindsOne held step f old lacks new r → (ds : List ArrayDimension) (type : ℕ) (steps : List Step)
    → ((u : F) (x : ℕ) (b b' : MutBor B) (r : Result IsNull (BindError Error)) → step f x b r b' u → WritesSteps ds type steps lacks (held b.now) (held b'.now) r) → BindsArray ds type steps lacks old new r
binds_array held step lacks f old new r one ds type steps acts = array_binds held step lacks ds type steps f one.last old acts r new one.binds
