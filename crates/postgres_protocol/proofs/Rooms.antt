-- What a call comes to in a window, by the room that is left there.
use Rattle.postgres_protocol.proofs.Common.{◌≡◌, ℕ, ◌+◌, ◌*◌, ◌≤◌, List, [], ◌∷◌, ◌++◌, map, take, length, Option, Some, None, Result, Ok, Err, refl, sym, ap, subst, ◌∙◌, arith, inl, inr, length-append, flat_map, map-append, nullable, counted, either, first, length_cause, nullable_cause, Wants, Held, ◌⊕◌, window_held, window_lacks, Error, BindError, Conversion, Serialization, either_left, either_right, either_none, first-append, wants_window, sized_length, flat_more, counted_length, nullable_least, ClientMessage, Parse, bytes_of, cause, ParseWhole, ParseSoFar, never_memory, parse_refused, null_length, bind_length, ArrayDimension, array_bytes, array_cause, Step, Append, Null, Refuse, gives, Give, RefusesAt, array_of, binding, StepRefuses, ElementsWant, HasCause, IsTooLong, BindWants, BindsArray}
use Rattle.std.specs.Prelude.{pos}
use Rattle.std.specs.Borrow.{GName}
use Rattle.std.proofs.lemmas.List.Concat.{flat_map-append}
use Rattle.pgp_base.specs.declared.window.Window.{Window}
use Rattle.pgp_base.specs.declared.error.Error.TheVariants.{OutOfMemory}
use Rattle.pgp_base.proofs.Fitting.{too_long}
use Rattle.postgres_protocol.specs.ArraySteps.{BindRefused}
use Rattle.pgp_stream.specs.ClientStream.{Sent, IsAdded, Adds, AddsMessage, AddsGiven}
use Rattle.postgres_protocol.specs.Rooms.{HasRoom, LacksRoom, GoesByRoom, IsWant, BindsByRoom}
use Rattle.postgres_protocol.proofs.StepLemmas.{array_length}

-- ---- one message

same_refusal : {E : Type 0} (d e : E) → (let r : Result (Unit {0}) E = Err d in let s : Result (Unit {0}) E = Err e in r ≡ s) → d ≡ e
same_refusal d e h = cc

no_refusal : {E : Type 0} (done : Unit {0}) (e : E) → (let r : Result (Unit {0}) E = Ok done in let s : Result (Unit {0}) E = Err e in r ≡ s) → ⊥
no_refusal done e h = cc

-- what stands in a window after a message is within the caller's memory
never_longer : (m : ClientMessage) (old new : Window) → window_held new ≡ window_held old ⊕ bytes_of m → LacksRoom (window_held old) m → ⊥
never_longer m old new grown long = no_refusal tt OutOfMemory (too_long (bytes_of m) None old new (Ok tt) (refl, grown) refl long)

module _ (m : ClientMessage) (old new : Sent Window) where
  added_by_room : {E : Type 0} (done : Unit {0}) (wants : E) (n : ClientMessage) → n ≡ m → IsAdded window_held n old new → GoesByRoom m wants old new (Ok done)
  added_by_room done wants n is added =
      let here : IsAdded window_held m old new = subst (λ k. IsAdded window_held k old new) is added in
      record {
        fits = λ none room. (refl, here);
        longer = λ none long. absurd (never_longer m old.buf new.buf here.appended long);
        only = λ h. absurd (no_refusal done wants h);
      }

  never_fits : Wants window_lacks (window_held old.buf) (length (bytes_of m)) → HasRoom (window_held old.buf) m → ⊥
  never_fits wants room = let long = wants_window (window_held old.buf) _ wants in omega (arith, long, room)

  pub message_by_room : (r : Result (Unit {0}) Error) → AddsMessage window_held m window_lacks old new r → GoesByRoom m OutOfMemory old new r
  message_by_room (Ok done) a = added_by_room done OutOfMemory a.0 a.1 a.2
  message_by_room (Err e) a = record {
    fits = λ none room. elim a.0 [
      | inl memory ↦ absurd (never_fits memory.1 room)
      | inr c ↦ let k : Some e ≡ None = sym c ∙ none in absurd cc
    ];
    longer = λ none long. elim a.0 [
      | inl memory ↦ ap (λ (e : Error). Err e) memory.0
      | inr c ↦ let k : Some e ≡ None = sym c ∙ none in absurd cc
    ];
    only = λ is. elim a.0 [
      | inl memory ↦ wants_window (window_held old.buf) _ memory.1
      | inr c ↦ absurd (never_memory m (c ∙ ap (λ (e : Error). Some e) (same_refusal e OutOfMemory is)))
    ];
  }

  pub piece_by_room : {T : Type 0} (piece : T) (r : Result (Unit {0}) T)
      → Adds window_held (λ n. n ≡ m) (λ back. (back ≡ piece) × Wants window_lacks (window_held old.buf) (length (bytes_of m))) old new r → GoesByRoom m piece old new r
  piece_by_room {T} piece (Ok done) a = added_by_room done piece a.0 a.1 a.2
  piece_by_room {T} piece (Err back) a = record {
    fits = λ none room. absurd (never_fits a.0.1 room);
    longer = λ none long. ap (λ (e : T). Err e) a.0.0;
    only = λ is. wants_window (window_held old.buf) _ a.0.1;
  }

-- ---- a statement with a list of types

module _ (name query all : List ℕ) (types : List ℕ → Option ℕ → Type 0) (all_types : (xs : List ℕ) → types xs None → xs ≡ all) (some_types : (xs : List ℕ) (x : ℕ) → types xs (Some x) → (more : List ℕ) × (all ≡ xs ++ x ∷ more)) where
  pub parse_adds : {B K : Type 0} (held : B → Held K) (lacks : Held K → ℕ → Type 0) (old new : Sent B) (r : Result (Unit {0}) Error)
      → AddsGiven held (ParseWhole name query types) (ParseSoFar name query types) lacks old new r → AddsMessage held (Parse name query all) lacks old new r
  parse_adds held lacks old new (Ok done) a = (a.0, a.1.2 ∙ ap (λ ts. Parse name query ts) (all_types a.1.0 a.1.1), a.2)
  parse_adds held lacks old new (Err e) a = (parse_refused name query all types all_types some_types lacks (held old.buf) e a.0, a.1)

-- ---- an array

-- the elements of the first steps are the first elements
front_given : (before rest : List Step) (us vs : List (Option (List ℕ))) → Give before us → Give (before ++ rest) vs → (ws : List (Option (List ℕ))) × (vs ≡ us ++ ws) × Give rest ws
front_given [] rest [] vs g h = (vs, refl, h)
front_given [] rest (u ∷ us) vs g h = let e : [] ≡ Some u ∷ map (λ v. Some v) us = g in absurd cc
front_given (s ∷ before) rest [] vs g h = let e : gives s ∷ map gives before ≡ [] = g in absurd cc
front_given (s ∷ before) rest (u ∷ us) [] g h = let e : gives s ∷ map gives (before ++ rest) ≡ [] = h in absurd cc
front_given (s ∷ before) rest (u ∷ us) (v ∷ vs) g h =
    let e : gives s ∷ map gives before ≡ Some u ∷ map (λ v. Some v) us = g in
    let f : gives s ∷ map gives (before ++ rest) ≡ Some v ∷ map (λ v. Some v) vs = h in
    let one : gives s ≡ Some u = cc in
    let two : gives s ≡ Some v = cc in
    let fore : map gives before ≡ map (λ v. Some v) us = cc in
    let all : map gives (before ++ rest) ≡ map (λ v. Some v) vs = cc in
    let same : Some v ≡ Some u = sym two ∙ one in
    let is : v ≡ u = cc in
    let k = front_given before rest us vs fore all in
    (k.0, ap (λ x. x ∷ vs) is ∙ ap (λ l. u ∷ l) k.1, k.2)

given_once : (us vs : List (Option (List ℕ))) → map (λ (v : Option (List ℕ)). Some v) us ≡ map (λ v. Some v) vs → us ≡ vs
given_once [] [] h = refl
given_once [] (v ∷ vs) h = let e : [] ≡ Some v ∷ map (λ v. Some v) vs = h in absurd cc
given_once (u ∷ us) [] h = let e : Some u ∷ map (λ v. Some v) us ≡ [] = h in absurd cc
given_once (u ∷ us) (v ∷ vs) h =
    let e : Some u ∷ map (λ v. Some v) us ≡ Some v ∷ map (λ v. Some v) vs = h in
    let here : Some u ≡ Some v = cc in
    let is : u ≡ v = cc in
    let more : map (λ v. Some v) us ≡ map (λ v. Some v) vs = cc in
    ap (λ x. x ∷ us) is ∙ ap (λ l. v ∷ l) (given_once us vs more)

-- a null in the place of a step that comes next
one_null : (s : Step) (more : List Step) → (let nulls : List (Option (List ℕ)) = map (λ step. None) (take 1 (s ∷ more)) in nulls ≡ None ∷ [])
one_null s [] = refl
one_null s (t ∷ more) = refl

front_length : (us ws : List (Option (List ℕ))) → length (flat_map nullable (us ++ ws)) ≡ length (flat_map nullable us) + length (flat_map nullable ws)
front_length us ws = ap length (flat_map-append nullable us ws) ∙ length-append (flat_map nullable us) (flat_map nullable ws)

module _ (ds : List ArrayDimension) (type : ℕ) where
  abbrev value : List (Option (List ℕ)) → Option (List ℕ)
  value vs = Some (array_bytes (array_of ds type vs))

  value_length : (vs : List (Option (List ℕ))) → length (counted nullable (value vs ∷ [])) ≡ 6 + (12 + 8 * length ds + length (flat_map nullable vs))
  value_length vs = omega (arith, counted_length nullable (value vs ∷ []), flat_more nullable [] (value vs), sized_length (array_bytes (array_of ds type vs)), array_length ds type vs)

  binding_longer : (us vs : List (Option (List ℕ))) → length (flat_map nullable us) ≤ length (flat_map nullable vs) → length (bytes_of (binding ds type us)) ≤ length (bytes_of (binding ds type vs))
  binding_longer us vs less = omega (arith, less, bind_length [] [] (pos 1 ∷ []) (value us ∷ []) [], bind_length [] [] (pos 1 ∷ []) (value vs ∷ []) [], value_length us, value_length vs)

  module _ (steps : List Step) (vs : List (Option (List ℕ))) (give : Give steps vs) (none : array_cause (array_of ds type vs) ≡ None) (clear : cause (binding ds type vs) ≡ None) (old : Held (GName × ℕ)) where
    abbrev m : ClientMessage
    m = binding ds type vs

    wanted : (us : List (Option (List ℕ))) → length (flat_map nullable us) ≤ length (flat_map nullable vs) → BindWants ds type window_lacks old us → LacksRoom old m
    wanted us less w = omega (arith, wants_window old _ w, binding_longer us vs less)

    -- the step that rejects stands at an element
    step_at : (step : Step) (more : List Step) (us ws : List (Option (List ℕ))) (e : Error) → Give (step ∷ more) ws → RefusesAt (λ bytes. BindWants ds type window_lacks old (us ++ Some bytes ∷ [])) step e
        → (e ≡ OutOfMemory) × ((v : Option (List ℕ)) × (others : List (Option (List ℕ))) × (ws ≡ v ∷ others) × BindWants ds type window_lacks old (us ++ v ∷ []))
    step_at (Append b) more us [] e g r = let h : Some (Some b.items) ∷ map gives more ≡ [] = g in absurd cc
    step_at (Append b) more us (w ∷ ws) e g r =
        let h : Some (Some b.items) ∷ map gives more ≡ Some w ∷ map (λ v. Some v) ws = g in
        let one : Some (Some b.items) ≡ Some w = cc in
        let is : Some b.items ≡ w = cc in
        (r.0, (Some b.items, ws, ap (λ w. w ∷ ws) (sym is), r.1))
    step_at Null more us ws e g r = absurd r
    step_at (Refuse d) more us [] e g r = let h : None ∷ map gives more ≡ [] = g in absurd cc
    step_at (Refuse d) more us (w ∷ ws) e g r =
        let h : None ∷ map gives more ≡ Some w ∷ map (λ v. Some v) ws = g in
        let none : None ≡ Some w = cc in
        absurd cc

    at_step : (e : Error) → StepRefuses ds type steps (BindWants ds type window_lacks old) e → (e ≡ OutOfMemory) × LacksRoom old m
    at_step e s =
        let k = front_given s.before (s.step ∷ s.more) s.vs vs s.give (subst (λ l. Give l vs) s.are give) in
        let a = step_at s.step s.more s.vs k.0 e k.2 s.refuses in
        let whole : length (flat_map nullable vs) ≡ length (flat_map nullable s.vs) + length (flat_map nullable (a.1.0 ∷ a.1.1)) = ap (λ l. length (flat_map nullable l)) (k.1 ∙ ap (λ l. s.vs ++ l) a.1.2) ∙ front_length s.vs (a.1.0 ∷ a.1.1) in
        (a.0, wanted (s.vs ++ a.1.0 ∷ []) (omega (arith, whole, flat_more nullable s.vs a.1.0, length-append (nullable a.1.0) (flat_map nullable a.1.1))) a.1.3)

    -- the place of an element's length is no longer than the element
    next_least : (more : List Step) (us ws : List (Option (List ℕ))) → Give more ws → length (flat_map nullable (us ++ map (λ step. None) (take 1 more))) ≤ length (flat_map nullable (us ++ ws))
    next_least [] us ws g = omega (arith, front_length us ws, front_length us [])
    next_least (s ∷ more) us [] g = let h : gives s ∷ map gives more ≡ [] = g in absurd cc
    next_least (s ∷ more) us (w ∷ ws) g =
        let one = ap (λ l. length (flat_map nullable (us ++ l))) (one_null s more) in
        omega (arith, one, flat_more nullable us None, front_length us (w ∷ ws), length-append (nullable w) (flat_map nullable ws), nullable_least w, null_length)

    at_elements : ElementsWant ds type steps (BindWants ds type window_lacks old) → LacksRoom old m
    at_elements w =
        let k = front_given w.before w.more w.vs vs w.give (subst (λ l. Give l vs) w.are give) in
        wanted (w.vs ++ map (λ step. None) (take 1 w.more)) (omega (arith, next_least w.more w.vs k.0 k.2, ap (λ l. length (flat_map nullable l)) k.1)) w.wanted

    -- the first elements have no cause where all have none
    never_caused : (e : Error) → HasCause ds type steps e → ⊥
    never_caused e h =
        let k = front_given h.before h.more h.vs vs h.give (subst (λ l. Give l vs) h.are give) in
        let all = either_right (length_cause (length ds)) (first (map nullable_cause vs)) none in
        let parted : first (map nullable_cause vs) ≡ either (first (map nullable_cause h.vs)) (first (map nullable_cause k.0)) =
        ap (λ l. first (map nullable_cause l)) k.1 ∙ (ap first (map-append nullable_cause h.vs k.0) ∙ first-append (map nullable_cause h.vs) (map nullable_cause k.0)) in
        let fore = either_left (first (map nullable_cause h.vs)) (first (map nullable_cause k.0)) (sym parted ∙ all) in
        let clean : array_cause (array_of ds type h.vs) ≡ None = either_none (length_cause (length ds)) (first (map nullable_cause h.vs)) (either_left (length_cause (length ds)) (first (map nullable_cause vs)) none) fore in
        let c : Some e ≡ None = sym h.some ∙ clean in
        cc

    never_too_long : (e : Error) → IsTooLong ds type steps e → ⊥
    never_too_long e h =
        let is = given_once h.vs vs (sym h.give ∙ give) in
        let c : Some e ≡ None = sym h.some ∙ (ap (λ vs. cause (binding ds type vs)) is ∙ clear) in
        cc

    refused_for_room : (e : BindError (BindError Error)) → BindRefused ds type steps (BindWants ds type window_lacks old) e → IsWant e × LacksRoom old m
    refused_for_room (Conversion (Conversion e)) r = at_step e r
    refused_for_room (Conversion (Serialization e)) (inl memory) = (memory.0, at_elements memory.1)
    refused_for_room (Conversion (Serialization e)) (inr h) = absurd (never_caused e h)
    refused_for_room (Serialization e) (inl memory) = (memory.0, at_elements memory.1)
    refused_for_room (Serialization e) (inr h) = absurd (never_too_long e h)

-- of steps that give these elements
pub array_by_room : (ds : List ArrayDimension) (type : ℕ) (steps : List Step) (vs : List (Option (List ℕ))) (old new : Window) (r : Result (Unit {0}) (BindError (BindError Error)))
    → BindsArray ds type steps window_lacks (window_held old) (window_held new) r → Give steps vs → array_cause (array_of ds type vs) ≡ None → cause (binding ds type vs) ≡ None
    → BindsByRoom (binding ds type vs) (window_held old) (window_held new) r
array_by_room ds type steps vs old new (Ok done) b give none clear =
    let is : b.vs ≡ vs = given_once b.vs vs (sym b.give ∙ give) in
    let grown : window_held new ≡ window_held old ⊕ bytes_of (binding ds type vs) = b.appended ∙ ap (λ vs. window_held old ⊕ bytes_of (binding ds type vs)) is in
    record {
      fits = λ room. (refl, grown);
      longer = λ long. absurd (never_longer (binding ds type vs) old new grown long);
      only = tt;
    }
array_by_room ds type steps vs old new (Err e) b give none clear =
    let refused = refused_for_room ds type steps vs give none clear (window_held old) e b.0 in
    record {
      fits = λ room. let long = refused.1 in absurd (omega (arith, long, room));
      longer = λ long. refl;
      only = refused;
    }
