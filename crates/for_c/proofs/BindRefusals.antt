-- Why a `bind` of the lists that C hands over is refused: its message is too long for the memory, or has this cause.
use Rattle.for_c.proofs.Common.{◌≡◌, ◌⊎◌, ℕ, suc, ◌+◌, ◌-◌, ◌*◌, ◌<◌, ◌≤◌, ℤ, false, List, [], ◌∷◌, ◌++◌, length, take, map, Option, Some, None, Result, Err, Bor, MutBor, refl, sym, ap, subst, ◌∙◌, inl, inr, arith, length-append, flat_map, option_to_list, cases_lt, map-append, take_all, flat_map-append, take-append_seam, take-append-add, uint32, int16, nullable, counted, Gives, Runs, Cause, either, first, text_cause, count_cause, nullable_cause, counted_cause, Wants, WantsMemory, Held, ◌⊕◌, Error, IsNull, No, counts_of, count_fits, either_left, either_right, either_first, either_then, first-append, first_here, counted_length, flat_more, nullable_least, sized_wants, counted_wants, wants_here, wants_more, count_more, either_more, last_cause, no_cause, parts_first, int16_length, null_length, bind_length, joined_more, framed_wants, ClientMessage, Bind, Arrived, Serves, before_values, BindWhole, BindRefused, ValuesUpTo, Text, Int16s, parts, parts_cause, joined, bytes_of, cause, PgpValue, error_of, value_of, Puts}
use Rattle.pgp_base.specs.declared.error.BindError.{BindError}
use Rattle.pgp_base.specs.declared.error.BindError.TheVariants.{Conversion, Serialization}
use Rattle.pgp_frontend.specs.Given.{BindSoFar}
use Rattle.for_c.proofs.Lists.{one, all_made, fused, same_bind}

-- ---- a list's first items

int16s_length : (zs : List ℤ) → length (flat_map int16 zs) ≡ 2 * length zs
int16s_length [] = refl
int16s_length (z ∷ zs) = let more = int16s_length zs in omega (arith, more, length-append (int16 z) (flat_map int16 zs), int16_length z)

-- those that came so far are no more than all
module _ (given : List ℤ → Option ℤ → Type 0) (all : List ℤ) (ends : (xs : List ℤ) → given xs None → xs ≡ all) (goes : (xs : List ℤ) (x : ℤ) → given xs (Some x) → (more : List ℤ) × (all ≡ xs ++ x ∷ more)) where
  asked_few : (before : List ℤ) (next : Option ℤ) (xs : List ℤ) → given before next → xs ≡ before ++ option_to_list next → length xs ≤ length all
  asked_few before None xs received are = omega (arith, ap length are, ap length (ends before received), length-append before [])
  asked_few before (Some x) xs received are = let k = goes before x received in omega (arith, ap length are, ap length k.1, length-append before (x ∷ []), length-append before (x ∷ k.0))

  few : (xs : List ℤ) → Arrived given Int16s xs → length xs ≤ length all
  few xs (inl none) = omega (arith, ap length none)
  few xs (inr received) = asked_few received.before received.next xs received.received received.are

-- The values up to one, for which a null stands where it wasn't made: they take no more than all, and a cause of theirs is that of all.
module _ (us : List (Option (List ℕ))) (u v : Option (List ℕ)) (more : List (Option (List ℕ))) (same : (u ≡ None) ⊎ (u ≡ v)) where
  no_longer : (u ≡ None) ⊎ (u ≡ v) → length (nullable u) ≤ length (nullable v)
  no_longer (inl none) = let n = ap (λ x. length (nullable x)) none in omega (arith, n, null_length, nullable_least v)
  no_longer (inr is) = let n = ap (λ x. length (nullable x)) is in omega (arith, n)

  values_few : length (flat_map nullable (us ++ u ∷ [])) ≤ length (flat_map nullable (us ++ v ∷ more))
  values_few =
      let e = ap length (flat_map-append nullable us (v ∷ more)) in
      omega (arith, no_longer same, flat_more nullable us u, e, length-append (flat_map nullable us) (flat_map nullable (v ∷ more)), length-append (nullable v) (flat_map nullable more))

  module _ (none : counted_cause nullable_cause us ≡ None) (e : Error) (some : counted_cause nullable_cause (us ++ u ∷ []) ≡ Some e) where
    us_count : length us < 65536
    us_count = counts_of (length us) (either_right (first (map nullable_cause (take 65535 us))) (count_cause (length us)) none)

    us_clean : first (map nullable_cause us) ≡ None
    us_clean = ap (λ l. first (map nullable_cause l)) (sym (take_all 65535 us (omega (arith, us_count)))) ∙ either_left (first (map nullable_cause (take 65535 us))) (count_cause (length us)) none

    -- it is the value's own, which the count reaches
    module _ (within : length us < 65535) where
      whole : take 65535 (us ++ u ∷ []) ≡ us ++ u ∷ []
      whole = take_all 65535 (us ++ u ∷ []) (omega (arith, within, length-append us (u ∷ [])))

      fits : count_cause (length (us ++ u ∷ [])) ≡ None
      fits = count_fits (length (us ++ u ∷ [])) (omega (arith, within, length-append us (u ∷ [])))

      of_all : either (first (map nullable_cause (us ++ u ∷ []))) None ≡ Some e
      of_all = ap (λ c. either (first (map nullable_cause (us ++ u ∷ []))) c) (sym fits) ∙ (ap (λ l. either (first (map nullable_cause l)) (count_cause (length (us ++ u ∷ [])))) (sym whole) ∙ some)

      parted : first (map nullable_cause (us ++ u ∷ [])) ≡ either (first (map nullable_cause us)) (either (nullable_cause u) None)
      parted = ap first (map-append nullable_cause us (u ∷ [])) ∙ first-append (map nullable_cause us) (nullable_cause u ∷ [])

      own : nullable_cause u ≡ Some e
      own = last_cause (nullable_cause u) e (sym (either_then (first (map nullable_cause us)) (either (nullable_cause u) None) us_clean) ∙ (sym parted ∙ last_cause (first (map nullable_cause (us ++ u ∷ []))) e of_all))

      known : (u ≡ None) ⊎ (u ≡ v) → nullable_cause v ≡ Some e
      known (inl nothing) = absurd (no_cause e (ap nullable_cause (sym nothing) ∙ own))
      known (inr is) = ap nullable_cause (sym is) ∙ own

      front : (k : ℕ) → 65535 ≡ length us + suc k → take 65535 (us ++ v ∷ more) ≡ us ++ v ∷ take k more
      front k size = ap (λ n. take n (us ++ v ∷ more)) size ∙ take-append-add us (v ∷ more) (suc k)

      here : (k : ℕ) → 65535 ≡ length us + suc k → counted_cause nullable_cause (us ++ v ∷ more) ≡ Some e
      here k size =
          let one : first (map nullable_cause (us ++ v ∷ take k more)) ≡ Some e = ap first (map-append nullable_cause us (v ∷ take k more)) ∙ first_here (map nullable_cause us) (nullable_cause v) (map nullable_cause (take k more)) e us_clean (known same) in
          either_first (first (map nullable_cause (take 65535 (us ++ v ∷ more)))) (count_cause (length (us ++ v ∷ more))) e (ap (λ l. first (map nullable_cause l)) (front k size) ∙ one)

    -- it is the count's
    module _ (full : length us ≡ 65535) where
      cut : (rest : List (Option (List ℕ))) → first (map nullable_cause (take 65535 (us ++ rest))) ≡ None
      cut rest = ap (λ n. first (map nullable_cause (take n (us ++ rest)))) (sym full) ∙ (ap (λ l. first (map nullable_cause l)) (take-append_seam us rest) ∙ us_clean)

      past : count_cause (length (us ++ u ∷ [])) ≡ Some e
      past = sym (either_then (first (map nullable_cause (take 65535 (us ++ u ∷ [])))) (count_cause (length (us ++ u ∷ []))) (cut (u ∷ []))) ∙ some

      counted_past : counted_cause nullable_cause (us ++ v ∷ more) ≡ Some e
      counted_past =
          either_then (first (map nullable_cause (take 65535 (us ++ v ∷ more)))) (count_cause (length (us ++ v ∷ more))) (cut (v ∷ more))
          ∙ count_more (length (us ++ u ∷ [])) (length (us ++ v ∷ more)) e (omega (arith, length-append us (u ∷ []), length-append us (v ∷ more))) past

    values_caused : counted_cause nullable_cause (us ++ v ∷ more) ≡ Some e
    values_caused = elim (cases_lt (length us) 65535) [
      | inl within ↦ here within (65534 - length us) (omega (arith, within))
      | inr full ↦ counted_past (omega (arith, full, us_count))
    ]

-- ---- the message

module _ (p s : List ℕ) (fs : List ℤ) (ws : List (Option (List ℕ))) (rs : List ℤ) where
  abbrev m : ClientMessage
  m = Bind p s fs ws rs

  longer : (gs : List ℤ) (vs : List (Option (List ℕ))) (ts : List ℤ) → length gs ≤ length fs → length (flat_map nullable vs) ≤ length (flat_map nullable ws) → length ts ≤ length rs → length (bytes_of (Bind p s gs vs ts)) ≤ length (bytes_of m)
  longer gs vs ts g v t =
      let texts = Text p ∷ Text s ∷ [] in
      omega (
        arith,
        g,
        v,
        t,
        bind_length p s gs vs ts,
        bind_length p s fs ws rs,
        joined_more texts (Int16s gs),
        joined_more texts (Int16s fs),
        counted_length int16 gs,
        counted_length int16 fs,
        counted_length int16 ts,
        counted_length int16 rs,
        counted_length nullable vs,
        counted_length nullable ws,
        int16s_length gs,
        int16s_length fs,
        int16s_length ts,
        int16s_length rs,
      )

  -- a cause of the formats, of the values, or of the formats of results
  abbrev joins : Cause → Cause → Cause → Cause
  joins a b c = either (text_cause p) (either (text_cause s) (either a (either b (either c None))))

  formats_caused : (gs : List ℤ) (e : Error) → length gs ≤ length fs → joins (count_cause (length gs)) None None ≡ Some e → cause m ≡ Some e
  formats_caused gs e g h =
      parts_first m e (either_more (text_cause p) _ _ e (λ i. either_more (text_cause s) _ _ e (λ j. either_first (count_cause (length fs)) _ e (count_more (length gs) (length fs) e g (last_cause (count_cause (length gs)) e j))) i) h)

  all_values_caused : (vs : List (Option (List ℕ))) (e : Error) → (counted_cause nullable_cause vs ≡ Some e → counted_cause nullable_cause ws ≡ Some e) → joins (count_cause (length fs)) (counted_cause nullable_cause vs) None ≡ Some e → cause m ≡ Some e
  all_values_caused vs e more h =
      parts_first m e (either_more (text_cause p) _ _ e (λ i. either_more (text_cause s) _ _ e (λ j. either_more (count_cause (length fs)) _ _ e (λ k. either_first (counted_cause nullable_cause ws) _ e (more (last_cause (counted_cause nullable_cause vs) e k))) j) i) h)

  results_caused : (ts : List ℤ) (e : Error) → length ts ≤ length rs → joins (count_cause (length fs)) (counted_cause nullable_cause ws) (count_cause (length ts)) ≡ Some e → cause m ≡ Some e
  results_caused ts e t h =
      parts_first m e (either_more (text_cause p) _ _ e (λ i. either_more (text_cause s) _ _ e (λ j. either_more (count_cause (length fs)) _ _ e (λ k. either_more (counted_cause nullable_cause ws) _ _ e (λ l. either_first (count_cause (length rs)) None e (count_more (length ts) (length rs) e t (last_cause (count_cause (length ts)) e l))) k) j) i) h)

  -- a growth after the values so far, for a value of the list
  value_wants : {K : Type 0} (lacks : Held K → ℕ → Type 0) (old b : Held K) (us : List (Option (List ℕ))) (z : List ℕ) (more : List (Option (List ℕ))) → ws ≡ us ++ Some z ∷ more → b ≡ before_values old p s fs ⊕ flat_map nullable us ⊕ uint32 0
      → lacks b (length z) → Wants lacks old (length (bytes_of m))
  value_wants lacks old b us z more are is l =
      let ps = Text p ∷ Text s ∷ Int16s fs ∷ [] in
      let start = old ⊕ 66 ∷ [] ⊕ uint32 0 ⊕ joined ps in
      let value = sized_wants z 0 (before_values old p s fs ⊕ flat_map nullable us) b is (wants_here b (length z) (length z) l (omega arith)) in
      let counts = counted_wants nullable us (Some z) start (before_values old p s fs ⊕ flat_map nullable us) (length (nullable (Some z))) refl (omega arith) value in
      let n = bind_length p s fs ws rs in
      let few_values = values_few us (Some z) (Some z) more (inr refl) in
      let all = ap (λ l. length (flat_map nullable l)) are in
      framed_wants 66 ps old start (length (counted nullable (us ++ Some z ∷ []))) _ refl (omega (arith, n, few_values, all, counted_length nullable ws, counted_length nullable (us ++ Some z ∷ []))) counts

-- ---- the call, of lists that came of iterators

module _ {F B K : Type 0} (held : B → Held K) (step : F → Bor PgpValue → MutBor B → Result IsNull Error → MutBor B → F → Type 0) (lacks : Held K → ℕ → Type 0)
    (puts : (f f' : F) (x : Bor PgpValue) (b b' : MutBor B) (r : Result IsNull Error) → step f x b r b' f' → Puts x.now lacks (held b.now) (held b'.now) r)
    (p s : List ℕ) (fs : List ℤ) (all : List PgpValue) (rs : List ℤ)
    (formats : List ℤ → Option ℤ → Type 0) (values : List (Bor PgpValue) → Option (Bor PgpValue) → Type 0) (results : List ℤ → Option ℤ → Type 0)
    (all_formats : (xs : List ℤ) → formats xs None → xs ≡ fs) (some_formats : (xs : List ℤ) (x : ℤ) → formats xs (Some x) → (more : List ℤ) × (fs ≡ xs ++ x ∷ more))
    (all_values : (xs : List (Bor PgpValue)) → values xs None → map (λ (x : Bor PgpValue). x.now) xs ≡ all)
    (some_values : (xs : List (Bor PgpValue)) (x : Bor PgpValue) → values xs (Some x) → (more : List PgpValue) × (all ≡ map (λ (x : Bor PgpValue). x.now) xs ++ x.now ∷ more))
    (all_results : (xs : List ℤ) → results xs None → xs ≡ rs) (some_results : (xs : List ℤ) (x : ℤ) → results xs (Some x) → (more : List ℤ) × (rs ≡ xs ++ x ∷ more))
    (f last : F) (old : Held K) where
  abbrev ws : List (Option (List ℕ))
  ws = map value_of all

  abbrev whole_message : ClientMessage
  whole_message = Bind p s fs ws rs

  abbrev start : List ℤ → Held K
  start gs = before_values old p s gs

  made_all : (here : Held K) (xs : List (Bor PgpValue)) (vs : List (Option (List ℕ))) (t : F) → Runs (Gives held step) nullable here f xs vs t → vs ≡ map value_of (map (λ (x : Bor PgpValue). x.now) xs)
  made_all here xs vs t runs = all_made held step lacks puts here f xs vs t runs ∙ fused xs

  -- the values before one, it, and more
  values_are : (here : Held K) (xs : List (Bor PgpValue)) (x : Bor PgpValue) (vs : List (Option (List ℕ))) (t : F) → values xs (Some x) → Runs (Gives held step) nullable here f xs vs t → (more : List (Option (List ℕ))) × (ws ≡ vs ++ value_of x.now ∷ more)
  values_are here xs x vs t received runs =
      let k = some_values xs x received in
      let parted = ap (λ l. map value_of l) k.1 ∙ map-append value_of (map (λ (x : Bor PgpValue). x.now) xs) (x.now ∷ k.0) in
      (map value_of k.0, parted ∙ ap (λ l. l ++ value_of x.now ∷ map value_of k.0) (sym (made_all here xs vs t runs)))

  -- all values were made
  whole_values : (here : Held K) (xs : List (Bor PgpValue)) (vs : List (Option (List ℕ))) (t : F) → values xs None → Runs (Gives held step) nullable here f xs vs t → vs ≡ ws
  whole_values here xs vs t received runs = made_all here xs vs t runs ∙ ap (λ l. map value_of l) (all_values xs received)

  abbrev Whole : ClientMessage → Type 0
  Whole m = BindWhole p s formats values (Serves held step f last) results old m

  abbrev SoFar : ClientMessage → Type 0
  SoFar m = BindSoFar p s formats values (Serves held step f last) results old m

  whole_is : (m : ClientMessage) → Whole m → m ≡ whole_message
  whole_is m w =
      let served = w.2.1 in
      w.2.2.2 ∙ same_bind p s w.0 fs w.2.0 ws w.2.2.0 rs (all_formats w.0 w.1) (whole_values (start w.0) served.xs w.2.0 last served.received served.made) (all_results w.2.2.0 w.2.2.1)

  -- the last of the values so far: a null in the place of one that wasn't made, or what was made
  module _ (gs : List ℤ) (vs : List (Option (List ℕ))) (b : ValuesUpTo values (Serves held step f last) (start gs) vs) where
    last_value : ((b.value ≡ None) ⊎ (b.value ≡ value_of b.x.now)) × ((more : List (Option (List ℕ))) × (ws ≡ b.before ++ value_of b.x.now ∷ more))
    last_value = elim b.made [
      | inl waits ↦ (inl waits.1, values_are (start gs) b.xs b.x b.before last b.received waits.0)
      | inr put ↦
          let at = put.1.1 in
          (inr (put.1.2 ∙ one held step lacks puts (start gs ⊕ flat_map nullable b.before ⊕ uint32 0) at.0 b.x No put.1.0 last (Some put.1.0) refl at.2), values_are (start gs) b.xs b.x b.before at.0 b.received at.1)
    ]

    so_far_few : length (flat_map nullable vs) ≤ length (flat_map nullable ws)
    so_far_few =
        let l = last_value in
        let n = ap (λ l. length (flat_map nullable l)) b.are in
        let m = ap (λ l. length (flat_map nullable l)) l.1.1 in
        omega (arith, n, m, values_few b.before b.value (value_of b.x.now) l.1.0 l.0)

    so_far_caused : (e : Error) → counted_cause nullable_cause vs ≡ Some e → counted_cause nullable_cause ws ≡ Some e
    so_far_caused e h =
        let l = last_value in
        ap (λ l. counted_cause nullable_cause l) l.1.1 ∙ values_caused b.before b.value (value_of b.x.now) l.1.0 l.0 b.none e (ap (λ l. counted_cause nullable_cause l) (sym b.are) ∙ h)

  -- a message so far is no longer, and a cause of its parts is that of the whole
  abbrev Begins : ClientMessage → Type 0
  Begins m = (length (bytes_of m) ≤ length (bytes_of whole_message)) × ((e : Error) → parts_cause (parts m) ≡ Some e → cause whole_message ≡ Some e)

  begins : (m : ClientMessage) → SoFar m → Begins m
  begins m (inl k) =
      let gs = k.1.0 in
      let g = few formats fs all_formats some_formats gs k.1.1 in
      subst (λ (m : ClientMessage). Begins m) (sym k.1.2) (longer p s fs ws rs gs [] [] g (omega arith) (omega arith), λ e c. formats_caused p s fs ws rs gs e g c)
  begins m (inr (inl k)) =
      let is = k.2.2 ∙ ap (λ gs. Bind p s gs k.2.0 []) (all_formats k.0 k.1.0) in
      subst (λ (m : ClientMessage). Begins m) (sym is)
      (longer p s fs ws rs fs k.2.0 [] (omega arith) (so_far_few k.0 k.2.0 k.2.1) (omega arith), λ e c. all_values_caused p s fs ws rs k.2.0 e (so_far_caused k.0 k.2.0 k.2.1 e) c)
  begins m (inr (inr k)) =
      let served = k.2.1 in
      let rest = k.2.3 in
      let ts = rest.0 in
      let t = few results rs all_results some_results ts rest.1 in
      let is = rest.2 ∙ same_bind p s k.0 fs k.2.0 ws ts ts (all_formats k.0 k.1.0) (whole_values (start k.0) served.xs k.2.0 last served.received served.made) refl in
      subst (λ (m : ClientMessage). Begins m) (sym is) (longer p s fs ws rs fs ws ts (omega arith) (omega arith) t, λ e c. results_caused p s fs ws rs ts e t c)

  abbrev Refuses : Error → Type 0
  Refuses e = WantsMemory (Wants lacks old (length (bytes_of whole_message))) e ⊎ (cause whole_message ≡ Some e)

  -- a value that isn't null has its bytes
  has_bytes : (v : PgpValue) → v.is_null ≡ false → value_of v ≡ Some v.bytes.now
  has_bytes v h = rw h refl

  pub bind_refused : (e : BindError Error) → BindRefused p s formats values (Serves held step f last) results old lacks e → Refuses (error_of e)
  bind_refused (Conversion e) w =
      let v = w.2 in
      let put = v.made.2 in
      let did = puts v.made.0 last v.x put.before put.after (Err e) put.called in
      let k = values_are (start w.0) v.xs v.x v.before v.made.0 v.received v.made.1 in
      let are = k.1 ∙ ap (λ y. v.before ++ y ∷ k.0) (has_bytes v.x.now did.0) in
      let stood = put.stood ∙ ap (λ gs. start gs ⊕ flat_map nullable v.before ⊕ uint32 0) (all_formats w.0 w.1.0) in
      inl (did.1.0, value_wants p s fs ws rs lacks old (held put.before.now) v.before v.x.now.bytes.now k.0 are stood did.1.1)
  bind_refused (Serialization e) (inl (m, so_far, inl memory)) = inl (memory.0, wants_more old _ _ (begins m so_far).0 memory.1)
  bind_refused (Serialization e) (inl (m, so_far, inr c)) = inr ((begins m so_far).1 e c)
  bind_refused (Serialization e) (inr r) = inr (ap cause (sym (whole_is r.0 r.1)) ∙ r.3)
