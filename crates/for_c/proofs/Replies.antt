-- The memory of a caller of a server's writer.
use Rattle.for_c.proofs.Common.{◌≡◌, ◌⊎◌, ℕ, ◌+◌, ◌-◌, ◌≤◌, List, [], ◌∷◌, ◌++◌, map, length, take, None, Some, Option, Result, Ok, Err, refl, sym, ap, subst, ◌∙◌, inl, inr, arith, length-append, append_assoc, GName, ◌≢◌, option_to_list, take-append_seam, append-nil, length-map, map-append, Cause, either, Wants, WantsMemory, Writes, number_of, Held, ◌⊕◌, window_held, window_lacks, Error, OutOfMemory, Window, same_number, wants_window, wants_more, Part, frame_cause, parts_cause, Message, GivenRefused, WritesGiven, WritesReply, HasListFault, NotRepliedList, NotSentAs, Replied, NotReplied, RepliedList, SentAs, list_cause}
use Rattle.pgp_message_write.specs.Given.{Arrived, items_cause}
use Rattle.pgp_message_write.specs.Reply.{bytes_of, cause, parts}
use Rattle.for_c.proofs.NeverMemory.{Never, never_frame, never_items}
use Rattle.for_c.proofs.Sending.{is_memory, wrote}

-- `w` is the window as it was made on memory that held `old`, `v` as the writer left it
module _ (spelling : List ℕ) (w v : Window) (old : List ℕ) (name : GName) (new : window_held w ≡ record { bytes = []; behind = old; kept = (name, length old) }) where
  -- `x` is what the memory holds at last
  pub sent_as : (cause : Cause) → cause ≡ None → window_held v ≡ window_held w ⊕ spelling → (x : List ℕ) → (name ≡ v.room.ghost_name → x ≡ v.room.now) → (reported : ℕ) → reported ≡ length (take v.len v.room.now)
      → SentAs spelling cause old x reported
  sent_as cause none put x at_last reported reported_is =
      let r = wrote spelling spelling refl w v old name new put x at_last reported reported_is in
      record { none = none; length_is = r.length_is; fits = r.fits; stands = r.stands }

  pub not_sent_as : (HasFault : Error → Type 0) → (HasFault OutOfMemory → ⊥) → (e : Error) (code reported : ℕ) → WantsMemory (Wants window_lacks (window_held w) (length spelling)) e ⊎ HasFault e → code ≡ number_of e → reported ≡ 0
      → NotSentAs spelling HasFault old reported code
  not_sent_as HasFault never e code reported why code_is none = record {
    length_is = none;
    why = elim why [
      | inl memory ↦
          let long = wants_window (window_held w) _ memory.1 in
          let room : (window_held w).kept.1 ≡ length old = ap (λ (h : Held (GName × ℕ)). h.kept.1) new in
          let empty : length (window_held w).bytes ≡ 0 = ap (λ (h : Held (GName × ℕ)). length h.bytes) new in
          inl (code_is ∙ ap number_of memory.0, omega (arith, long, room, empty))
      | inr fault ↦
          let other : code ≢ 1 = λ one. never (subst (λ (e : Error). HasFault e) (is_memory e (same_number e OutOfMemory (sym code_is ∙ one))) fault) in
          inr (other, (e, fault, code_is))
    ];
  }

  -- both from the core's answer of a message whose causes are known, which the call after it reported
  pub sent_ended : (cause : Cause) (r : Result (Unit {0}) Error) → Writes spelling cause window_lacks (window_held w) (window_held v) r
      → (x : List ℕ) → (name ≡ v.room.ghost_name → x ≡ v.room.now) → (reported : ℕ) → (r ≡ Ok tt) × (reported ≡ length (take v.len v.room.now)) → SentAs spelling cause old x reported
  sent_ended cause r writes x at_last reported ended =
      let e : Writes spelling cause window_lacks (window_held w) (window_held v) (Ok tt) = subst (λ r. Writes spelling cause window_lacks (window_held w) (window_held v) r) ended.0 writes in
      sent_as cause e.0 e.1 x at_last reported ended.1

  pub refused_ended : (cause : Cause) → Never cause → (r : Result (Unit {0}) Error) → Writes spelling cause window_lacks (window_held w) (window_held v) r
      → (code reported : ℕ) → (e : Error) × (r ≡ Err e) × (code ≡ number_of e) × (reported ≡ 0) → NotSentAs spelling (λ e. cause ≡ Some e) old reported code
  refused_ended cause never r writes code reported ended =
      let e : Writes spelling cause window_lacks (window_held w) (window_held v) (Err ended.0) = subst (λ r. Writes spelling cause window_lacks (window_held w) (window_held v) r) ended.1 writes in
      not_sent_as (λ e. cause ≡ Some e) never ended.0 code reported e.0 ended.2 ended.3

-- the same of a message without a list
pub replied : (m : Message) (w v : Window) (old : List ℕ) (name : GName) → window_held w ≡ record { bytes = []; behind = old; kept = (name, length old) } → (r : Result (Unit {0}) Error) → WritesReply m window_lacks (window_held w) (window_held v) r
    → (x : List ℕ) → (name ≡ v.room.ghost_name → x ≡ v.room.now) → (reported : ℕ) → (r ≡ Ok tt) × (reported ≡ length (take v.len v.room.now)) → Replied m old x reported
replied m w v old name new r writes x at_last reported ended = (writes.0, sent_ended (bytes_of m) w v old name new (cause m) r writes.1 x at_last reported ended)

pub not_replied : (m : Message) (w v : Window) (old : List ℕ) (name : GName) → window_held w ≡ record { bytes = []; behind = old; kept = (name, length old) } → (r : Result (Unit {0}) Error) → WritesReply m window_lacks (window_held w) (window_held v) r
    → (code reported : ℕ) → (e : Error) × (r ≡ Err e) × (code ≡ number_of e) × (reported ≡ 0) → NotReplied m old reported code
not_replied m w v old name new r writes code reported ended = refused_ended (bytes_of m) w v old name new (cause m) (never_frame (parts m)) r writes.1 code reported ended

-- ---- lists whose items an iterator gave

contradiction : {A : Type 0} (c : Cause) (e : Error) → c ≡ None → c ≡ Some e → A
contradiction c e none some = let k : None ≡ Some e = sym none ∙ some in absurd cc

module _ {A D : Type 0} (view : D → A) (given : List D → Option D → Type 0) (number : ℕ → Cause) (ps : List A → List Part) (message : List A → Message) (all : List A)
    (given_all : (xs : List D) → given xs None → map view xs ≡ all) (given_some : (xs : List D) (x : D) → given xs (Some x) → (more : List A) × (all ≡ map view xs ++ view x ∷ more))
    (none_first : items_cause number ps [] ≡ None) (longer : (xs more : List A) → length (bytes_of (message xs)) ≤ length (bytes_of (message (xs ++ more)))) where
  qs : List D → List Part
  qs xs = ps (map view xs)

  abbrev Gives : {K : Type 0} → (Held K → ℕ → Type 0) → Held K → Held K → Result (Unit {0}) Error → Type 0
  Gives lacks old new r = WritesGiven given number (λ xs. ps (map view xs)) (λ xs. message (map view xs)) lacks old new r

  viewed : (xs : List D) → items_cause number ps (map view xs) ≡ items_cause number (λ xs. ps (map view xs)) xs
  viewed xs = ap (λ n. either (number n) (parts_cause (ps (map view xs)))) (length-map xs view)

  -- those that were yielded so far are a front of all
  front : (xs before : List D) (next : Option D) → given before next → xs ≡ before ++ option_to_list next → (more : List A) × (all ≡ map view xs ++ more)
  front xs before None yielded are =
      let e : map view xs ≡ all = ap (λ l. map view l) (are ∙ append-nil before) ∙ given_all before yielded in
      ([], sym (append-nil (map view xs) ∙ e))
  front xs before (Some x) yielded are =
      let k = given_some before x yielded in
      (k.0, k.1 ∙ sym (ap (λ l. map view l ++ k.0) are ∙ (ap (λ l. l ++ k.0) (map-append view before (x ∷ [])) ∙ append_assoc (map view before) (view x ∷ []) k.0)))

  arrived : (xs : List D) → Arrived given number (λ xs. ps (map view xs)) xs → (more : List A) × (all ≡ map view xs ++ more)
  arrived xs (inl none) = (all, sym (ap (λ l. map view l ++ all) none))
  arrived xs (inr a) = front xs a.before a.next a.received a.are

  memory_of_all : (xs : List D) (more : List A) → all ≡ map view xs ++ more → length (bytes_of (message (map view xs))) ≤ length (bytes_of (message all))
  memory_of_all xs more is = omega (arith, longer (map view xs) more, ap (λ l. length (bytes_of (message l))) is)

  first_fault : (xs before : List D) (next : Option D) (e : Error) → given before next → items_cause number (λ xs. ps (map view xs)) before ≡ None → xs ≡ before ++ option_to_list next
      → items_cause number (λ xs. ps (map view xs)) xs ≡ Some e → HasListFault number ps all e
  first_fault xs before None e yielded none are here =
      contradiction (items_cause number (λ xs. ps (map view xs)) before) e none (ap (λ l. items_cause number (λ xs. ps (map view xs)) l) (sym (are ∙ append-nil before)) ∙ here)
  first_fault xs before (Some x) e yielded none are here =
      let k = given_some before x yielded in
      let fore = map view before in
      let now : map view xs ≡ fore ++ view x ∷ [] = ap (λ l. map view l) are ∙ map-append view before (x ∷ []) in
      let count = length (fore ++ view x ∷ []) in
      let size : count ≡ length fore + 1 = length-append fore (view x ∷ []) in
      let less : count - 1 ≡ length fore = omega (arith, size) in
      let whole : all ≡ (fore ++ view x ∷ []) ++ k.0 = k.1 ∙ sym (append_assoc fore (view x ∷ []) k.0) in
      let first : take count all ≡ map view xs = ap (λ l. take count l) whole ∙ (take-append_seam (fore ++ view x ∷ []) k.0 ∙ sym now) in
      let fewer : take (count - 1) all ≡ fore = ap (λ n. take n all) less ∙ (ap (λ l. take (length fore) l) k.1 ∙ take-append_seam fore (view x ∷ k.0)) in
      inl (record {
        count = count;
        some = omega (arith, size);
        within = omega (arith, ap length whole, length-append (fore ++ view x ∷ []) k.0);
        none_before = ap (λ l. items_cause number ps l) fewer ∙ (viewed before ∙ none);
        here = ap (λ l. items_cause number ps l) first ∙ (viewed xs ∙ here);
      })

  fault : (xs : List D) (e : Error) → Arrived given number (λ xs. ps (map view xs)) xs → items_cause number (λ xs. ps (map view xs)) xs ≡ Some e → HasListFault number ps all e
  fault xs e (inl none) here = contradiction (items_cause number ps []) e none_first (ap (λ l. items_cause number (λ xs. ps (map view xs)) l) (sym none) ∙ here)
  fault xs e (inr a) here = first_fault xs a.before a.next e a.received a.none a.are here

  why : {K : Type 0} (lacks : Held K → ℕ → Type 0) (old : Held K) (e : Error) → GivenRefused given number (λ xs. ps (map view xs)) (λ xs. bytes_of (message (map view xs))) lacks old e
      → WantsMemory (Wants lacks old (length (bytes_of (message all)))) e ⊎ HasListFault number ps all e
  why lacks old e (inl k) =
      let xs = k.0 in
      let f = arrived xs k.1 in
      elim k.2 [
        | inl memory ↦ inl (memory.0, wants_more old _ _ (memory_of_all xs f.0 f.1) memory.1)
        | inr here ↦ inr (fault xs e k.1 here)
      ]
  why lacks old e (inr r) =
      let is = given_all r.0 r.1 in
      inr (inr (ap (λ l. items_cause number ps l) (sym is) ∙ (viewed r.0 ∙ r.2), ap (λ l. frame_cause (ps l)) (sym is) ∙ r.3))

  module _ (w v : Window) (old : List ℕ) (name : GName) (new : window_held w ≡ record { bytes = []; behind = old; kept = (name, length old) }) (r : Result (Unit {0}) Error) (writes : Gives window_lacks (window_held w) (window_held v) r) where
    pub list_replied : (x : List ℕ) → (name ≡ v.room.ghost_name → x ≡ v.room.now) → (reported : ℕ) → (r ≡ Ok tt) × (reported ≡ length (take v.len v.room.now)) → RepliedList number ps (message all) all old x reported
    list_replied x at_last reported ended =
        let e : Gives window_lacks (window_held w) (window_held v) (Ok tt) = subst (λ r. Gives window_lacks (window_held w) (window_held v) r) ended.0 writes in
        let is = given_all e.0 e.1 in
        let none : list_cause number ps (map view e.0) ≡ None = ap (λ n. either (number n) (frame_cause (ps (map view e.0)))) (length-map e.0 view) ∙ e.2 in
        sent_as (bytes_of (message all)) w v old name new (list_cause number ps all) (ap (λ l. list_cause number ps l) (sym is) ∙ none) (e.3 ∙ ap (λ l. window_held w ⊕ bytes_of (message l)) is) x at_last reported ended.1

    pub list_not_replied : ((n : ℕ) → Never (number n)) → (code reported : ℕ) → (e : Error) × (r ≡ Err e) × (code ≡ number_of e) × (reported ≡ 0) → NotRepliedList number ps (message all) all old reported code
    list_not_replied never code reported ended =
        let e : Gives window_lacks (window_held w) (window_held v) (Err ended.0) = subst (λ r. Gives window_lacks (window_held w) (window_held v) r) ended.1 writes in
        let not_memory : HasListFault number ps all OutOfMemory → ⊥ = λ f. elim f [
          | inl k ↦ never_items number ps never (take k.count all) k.here
          | inr k ↦ never_frame (ps all) k.1
        ] in
        not_sent_as (bytes_of (message all)) w v old name new (HasListFault number ps all) not_memory ended.0 code reported (why window_lacks (window_held w) ended.0 e.0) ended.2 ended.3
