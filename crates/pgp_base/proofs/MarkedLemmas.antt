-- A walk that a byte 0 ends: what is read is the one list and end that the grammar allows.
use Rattle.pgp_base.proofs.Common.{◌≡◌, ◌≢◌, ℕ, zero, suc, true, false, drop, ◌+◌, ◌-◌, ◌<◌, ◌≤◌, List, [], ◌∷◌, ◌++◌, length, get_or, Option, Some, None, Result, Ok, Err, refl, sym, ap, subst, ◌∙◌, append_assoc, arith, length-append, concat, Error, NotDrained, IsBytes, StandsAt, IsReader, Spellings, IsCut, MarkedEnd, Unmarked, Items, MarkedItems, read_on, drained, is_marked, marked_step, marked_run, marked, left_of}
use Rattle.pgp_base.proofs.CountedLemmas.{left_over, IsBytes-after, is_cut, none_there, one_more}

cut_end : {V : Type 0} (Spelled : ℕ → V → List ℕ → Type 0) (Refused : List ℕ → Error → Type 0) (place : ℕ) (rest : List ℕ) (e : Error)
    → e ≢ NotDrained → ((more : List ℕ) → rest ≢ 0 ∷ more) → IsCut Spelled Refused place rest e → MarkedEnd Spelled Refused place rest (Some e)
cut_end Spelled Refused place rest NotDrained own unmarked cut = absurd (own refl)
cut_end Spelled Refused place rest e own unmarked cut = (unmarked, cut)

pub is_unmarked : (bytes : List ℕ) → is_marked bytes ≡ false → (more : List ℕ) → bytes ≢ 0 ∷ more
is_unmarked [] e more h = cc
is_unmarked (zero ∷ bytes) e more h = absurd cc
is_unmarked (suc b ∷ bytes) e more h = omega (arith, ap (λ l. get_or l 0 0) h)

pub mark_parts : (bytes : List ℕ) → is_marked bytes ≡ true → bytes ≡ 0 ∷ drop 1 bytes
mark_parts [] e = absurd cc
mark_parts (zero ∷ bytes) e = refl
mark_parts (suc b ∷ bytes) e = absurd cc

pub unmarked_step : {V : Type 0} (go : List ℕ → List V × Option Error) (read : List ℕ → Result (V × List ℕ) Error) (bytes : List ℕ) → ((more : List ℕ) → bytes ≢ 0 ∷ more)
    → marked_step go read bytes ≡ read_on go (read bytes)
unmarked_step go read [] unmarked = refl
unmarked_step go read (zero ∷ bytes) unmarked = absurd (unmarked bytes refl)
unmarked_step go read (suc b ∷ bytes) unmarked = refl

unmarked_front : (front after : List ℕ) → 0 < length front → get_or front 0 0 ≢ 0 → (more : List ℕ) → front ++ after ≢ 0 ∷ more
unmarked_front [] after some first more e = omega (arith, some)
unmarked_front (b ∷ front) after some first more e = first (ap (λ l. get_or l 0 0) e)

first_unmarked : (front after bytes : List ℕ) → 0 < length front → bytes ≡ front ++ after → ((more : List ℕ) → bytes ≢ 0 ∷ more) → get_or front 0 0 ≢ 0
first_unmarked [] after bytes some whole unmarked first = omega (arith, some)
first_unmarked (b ∷ front) after bytes some whole unmarked first = unmarked (front ++ after) (rw first at whole)

module _ {V : Type 0} (Spelled : ℕ → V → List ℕ → Type 0) (Refused : List ℕ → Error → Type 0) (read : ℕ → List ℕ → Result (V × List ℕ) Error) (reads : IsReader Spelled Refused read) where
  abbrev Ended : ℕ → ℕ → List ℕ → Option Error → Type 0
  Ended k = MarkedEnd (Unmarked Spelled) Refused

  drained_end : (place : ℕ) (rest : List ℕ) → Items (Unmarked Spelled) Ended place (0 ∷ rest) (drained {V = V} rest).0 (drained {V = V} rest).1
  drained_end place [] = none_there (Unmarked Spelled) Ended place (0 ∷ []) None refl
  drained_end place (b ∷ rest) = none_there (Unmarked Spelled) Ended place (0 ∷ b ∷ rest) (Some NotDrained) (b ∷ rest, refl, λ e. cc)

  -- where no mark stands, an item or an error
  unmarked_found : (total k place : ℕ) (bytes : List ℕ) → IsBytes bytes → place + length bytes ≡ total → ((more : List ℕ) → bytes ≢ 0 ∷ more)
      → ((place : ℕ) (after : List ℕ) → IsBytes after → place + length after ≡ total → length after < length bytes
      → Items (Unmarked Spelled) Ended place after (marked_run (left_of read total) k after).0 (marked_run (left_of read total) k after).1)
      → Items (Unmarked Spelled) Ended place bytes (read_on (marked_run (left_of read total) k) (left_of read total bytes)).0 (read_on (marked_run (left_of read total) k) (left_of read total bytes)).1
  unmarked_found total k place bytes h at unmarked on =
      let here : total - length bytes ≡ place = omega (arith, at) in
      let by_result : (r : Result (V × List ℕ) Error) → left_of read total bytes ≡ r
      → Items (Unmarked Spelled) Ended place bytes (read_on (marked_run (left_of read total) k) r).0 (read_on (marked_run (left_of read total) k) r).1 =
      λ r. elim r as (λ v. left_of read total bytes ≡ v → Items (Unmarked Spelled) Ended place bytes (read_on (marked_run (left_of read total) k) v).0 (read_on (marked_run (left_of read total) k) v).1) [
        | Ok x ↦ λ e.
            let plain = reads.found place bytes x.0 x.1 h (rw here at e) in
            let stands : StandsAt (Unmarked Spelled) place bytes x.0 x.1 = record { front = plain.front; whole = plain.whole; spelled = (plain.spelled, first_unmarked plain.front x.1 bytes (reads.some place x.0 plain.front plain.spelled) plain.whole unmarked) } in
            let tail : IsBytes x.1 = IsBytes-after stands.front x.1 bytes stands.whole h in
            let parts : length bytes ≡ length stands.front + length x.1 = ap length stands.whole ∙ length-append stands.front x.1 in
            one_more (Unmarked Spelled) Ended Ended place bytes x.0 x.1 _ _ stands (λ k p rest end. end)
            (on (place + length stands.front) x.1 tail (omega (arith, at, parts)) (omega (arith, parts, reads.some place x.0 plain.front plain.spelled)))
        | Err f ↦ λ e.
            let cut = is_cut Spelled Refused read reads place bytes f h (rw here at e) in
            none_there (Unmarked Spelled) Ended place bytes (Some f) (cut_end (Unmarked Spelled) Refused place bytes f (λ same. reads.own bytes (subst (Refused bytes) same cut.refusal)) unmarked (record { none = λ x front after whole spelled. cut.none x front after whole spelled.0; refusal = cut.refusal }))
      ] in
      by_result (left_of read total bytes) refl

  -- What is read meets the grammar.
  pub marked_found : (total k place : ℕ) (bytes : List ℕ) → IsBytes bytes → place + length bytes ≡ total → length bytes < k
      → Items (Unmarked Spelled) Ended place bytes (marked_run (left_of read total) k bytes).0 (marked_run (left_of read total) k bytes).1
  marked_found total zero place bytes h at enough = absurd (omega (arith, enough))
  marked_found total (suc k) place [] h at enough =
      unmarked_found total k place [] h at (λ more e. cc) (λ p after t a lt. marked_found total k p after t a (omega (arith, enough, lt)))
  marked_found total (suc k) place (zero ∷ rest) h at enough = drained_end place rest
  marked_found total (suc k) place (suc b ∷ rest) h at enough =
      unmarked_found total k place (suc b ∷ rest) h at (λ more e. absurd (omega (arith, ap (λ l. get_or l 0 0) e))) (λ p after t a lt. marked_found total k p after t a (omega (arith, enough, lt)))

  end_read : (total k place : ℕ) (bytes : List ℕ) (end : Option Error) → total - length bytes ≡ place → MarkedEnd (Unmarked Spelled) Refused place bytes end
      → marked_run (left_of read total) (suc k) bytes ≡ ([], end)
  end_read total k place bytes None at h = rw h refl
  end_read total k place bytes (Some NotDrained) at h = rw h.1 (left_over h.0 h.2)
  end_read total k place bytes (Some e) at h =
      unmarked_step (marked_run (left_of read total) k) (left_of read total) bytes h.0 ∙ rw (at, reads.refuses place bytes e h.1.refusal) refl

  items_read : (total k place : ℕ) (bytes : List ℕ) (fronts : List (List ℕ)) (xs : List V) (rest : List ℕ) (end : Option Error)
      → place + length bytes ≡ total → bytes ≡ concat fronts ++ rest → Spellings (Unmarked Spelled) place xs fronts → MarkedEnd (Unmarked Spelled) Refused (place + length (concat fronts)) rest end → length xs < k
      → marked_run (left_of read total) k bytes ≡ (xs, end)
  items_read total zero place bytes fronts xs rest end at whole each ends enough = absurd (omega (arith, enough))
  items_read total (suc k) place bytes [] [] rest end at whole each ends enough =
      rw whole (end_read total k place rest end (omega (arith, at, ap length whole)) (subst (λ p. MarkedEnd (Unmarked Spelled) Refused p rest end) (omega arith) ends))
  items_read total (suc k) place bytes (front ∷ fronts) [] rest end at whole each ends enough = absurd each
  items_read total (suc k) place bytes [] (x ∷ xs) rest end at whole each ends enough = absurd each
  items_read total (suc k) place bytes (front ∷ fronts) (x ∷ xs) rest end at whole each ends enough =
      let after : List ℕ = concat fronts ++ rest in
      let split : bytes ≡ front ++ after = whole ∙ append_assoc front (concat fronts) rest in
      let here : total - length bytes ≡ place = omega (arith, at) in
      let first : left_of read total bytes ≡ Ok (x, after) = rw here (ap (read place) split ∙ reads.again place x front after each.0.0) in
      let far : place + length (front ++ concat fronts) ≡ place + length front + length (concat fronts) = omega (arith, length-append front (concat fronts)) in
      let more : marked_run (left_of read total) k after ≡ (xs, end) =
      items_read total k (place + length front) after fronts xs rest end (omega (arith, at, ap length split, length-append front after)) refl each.1
      (subst (λ p. MarkedEnd (Unmarked Spelled) Refused p rest end) far ends) (omega (arith, enough)) in
      let unmarked : (more : List ℕ) → bytes ≢ 0 ∷ more = λ more e. unmarked_front front after (reads.some place x front each.0.0) each.0.1 more (sym split ∙ e) in
      unmarked_step (marked_run (left_of read total) k) (left_of read total) bytes unmarked ∙ rw (first, more) refl

  -- What meets the grammar is read.
  pub marked_only : (total k place : ℕ) (bytes : List ℕ) (xs : List V) (end : Option Error) → place + length bytes ≡ total → length xs < k
      → Items (Unmarked Spelled) Ended place bytes xs end → marked_run (left_of read total) k bytes ≡ (xs, end)
  marked_only total k place bytes xs end at enough t = items_read total k place bytes t.fronts xs t.rest end at t.whole t.each t.ends enough

-- reading an item takes bytes
abbrev pub Falls : {V : Type 0} → (List ℕ → Result (V × List ℕ) Error) → Type 0
Falls {V} read = (bytes : List ℕ) (x : V) (after : List ℕ) → read bytes ≡ Ok (x, after) → length after < length bytes

-- more steps than bytes make no difference
module _ {V : Type 0} (read : List ℕ → Result (V × List ℕ) Error) (falls : Falls read) where
  same_on : (k m : ℕ) (bytes : List ℕ) → ((after : List ℕ) → length after < length bytes → marked_run read k after ≡ marked_run read m after)
      → read_on (marked_run read k) (read bytes) ≡ read_on (marked_run read m) (read bytes)
  same_on k m bytes on =
      let by_result : (r : Result (V × List ℕ) Error) → read bytes ≡ r → read_on (marked_run read k) r ≡ read_on (marked_run read m) r =
      λ r. elim r as (λ v. read bytes ≡ v → read_on (marked_run read k) v ≡ read_on (marked_run read m) v) [
        | Ok x ↦ λ e. rw (on x.1 (falls bytes x.0 x.1 e)) refl
        | Err f ↦ λ e. refl
      ] in
      by_result (read bytes) refl

  pub marked_same : (k m : ℕ) (bytes : List ℕ) → length bytes < k → length bytes < m → marked_run read k bytes ≡ marked_run read m bytes
  marked_same zero m bytes a b = absurd (omega (arith, a))
  marked_same (suc k) zero bytes a b = absurd (omega (arith, b))
  marked_same (suc k) (suc m) [] a b = same_on k m [] (λ after lt. marked_same k m after (omega (arith, a, lt)) (omega (arith, b, lt)))
  marked_same (suc k) (suc m) (zero ∷ bytes) a b = refl
  marked_same (suc k) (suc m) (suc c ∷ bytes) a b = same_on k m (suc c ∷ bytes) (λ after lt. marked_same k m after (omega (arith, a, lt)) (omega (arith, b, lt)))

module _ {V : Type 0} (Spelled : ℕ → V → List ℕ → Type 0) (Refused : List ℕ → Error → Type 0) (read : ℕ → List ℕ → Result (V × List ℕ) Error) (reads : IsReader Spelled Refused read) where
  -- an item that does not begin with the mark takes bytes as any other
  each_some : (place : ℕ) (xs : List V) (fronts : List (List ℕ)) → Spellings (Unmarked Spelled) place xs fronts → length xs ≤ length (concat fronts)
  each_some place [] [] each = omega arith
  each_some place [] (front ∷ fronts) each = absurd each
  each_some place (x ∷ xs) [] each = absurd each
  each_some place (x ∷ xs) (front ∷ fronts) each =
      omega (arith, length-append front (concat fronts), each_some (place + length front) xs fronts each.1, reads.some place x front each.0.0)

  -- a walk over a whole buffer
  pub marked_whole : (buffer : List ℕ) → IsBytes buffer
      → MarkedItems Spelled Refused buffer (marked (left_of read (length buffer)) buffer).items (marked (left_of read (length buffer)) buffer).end
  marked_whole buffer h = marked_found Spelled Refused read reads (length buffer) (suc (length buffer)) 0 buffer h (omega arith) (omega arith)

  -- no more items than bytes
  pub not_more_marked : (buffer : List ℕ) (xs : List V) (end : Option Error) → MarkedItems Spelled Refused buffer xs end → length xs ≤ length buffer
  not_more_marked buffer xs end t = omega (arith, ap length t.whole, length-append (concat t.fronts) t.rest, each_some 0 xs t.fronts t.each)

  pub marked_few : (buffer : List ℕ) → IsBytes buffer → length (marked (left_of read (length buffer)) buffer).items ≤ length buffer
  marked_few buffer h = not_more_marked buffer _ _ (marked_whole buffer h)

  -- the one list and end
  pub marked_one : (buffer : List ℕ) (xs : List V) (end : Option Error) → MarkedItems Spelled Refused buffer xs end
      → marked_run (left_of read (length buffer)) (suc (length buffer)) buffer ≡ (xs, end)
  marked_one buffer xs end t = marked_only Spelled Refused read reads (length buffer) (suc (length buffer)) 0 buffer xs end (omega arith) (omega (arith, not_more_marked buffer xs end t)) t
