-- A counted walk: what is read is the one list and end that the grammar allows.
use Rattle.pgp_base.proofs.Common.{◌≡◌, ◌≢◌, ℕ, zero, suc, ◌+◌, ◌-◌, ◌<◌, ◌≤◌, List, [], ◌∷◌, ◌++◌, length, get_or, Option, Some, None, Result, Ok, Err, refl, sym, ap, subst, ◌∙◌, append_assoc, arith, length-append, get_or-append-add, concat, Error, NotDrained, IsBytes, StandsAt, IsReader, Spellings, IsCut, CountedEnd, Items, CountedItems, read_on, drained, counted_run, left_of}

pub IsBytes-after : (front after bytes : List ℕ) → bytes ≡ front ++ after → IsBytes bytes → IsBytes after
IsBytes-after front after bytes e h i =
    let at : get_or after i 0 ≡ get_or bytes (length front + i) 0 = sym (ap (λ l. get_or l (length front + i) 0) e ∙ get_or-append-add front after i 0) in
    rw at (h (length front + i))

-- an error of an item is not that bytes are left
cut_end : {V : Type 0} (Spelled : ℕ → V → List ℕ → Type 0) (Refused : List ℕ → Error → Type 0) (n k place : ℕ) (rest : List ℕ) (e : Error)
    → e ≢ NotDrained → k < n → IsCut Spelled Refused place rest e → CountedEnd Spelled Refused n k place rest (Some e)
cut_end Spelled Refused n k place rest NotDrained own lt cut = absurd (own refl)
cut_end Spelled Refused n k place rest e own lt cut = (lt, cut)

-- an item more, before the same end
later_end : {V : Type 0} (Spelled : ℕ → V → List ℕ → Type 0) (Refused : List ℕ → Error → Type 0) (n k place : ℕ) (rest : List ℕ) (end : Option Error)
    → CountedEnd Spelled Refused n k place rest end → CountedEnd Spelled Refused (suc n) (suc k) place rest end
later_end Spelled Refused n k place rest None h = (ap suc h.0, h.1)
later_end Spelled Refused n k place rest (Some NotDrained) h = (ap suc h.0, h.1)
later_end Spelled Refused n k place rest (Some e) h = (omega (arith, h.0), h.1)

pub one_more : {V : Type 0} (Spelled : ℕ → V → List ℕ → Type 0) (Ends Later : ℕ → ℕ → List ℕ → Option Error → Type 0) (place : ℕ) (bytes : List ℕ) (x : V) (after : List ℕ) (xs : List V) (end : Option Error)
    (at : StandsAt Spelled place bytes x after)
    → ((k place : ℕ) (rest : List ℕ) → Ends k place rest end → Later (suc k) place rest end)
    → Items Spelled Ends (place + length at.front) after xs end
    → Items Spelled Later place bytes (x ∷ xs) end
one_more Spelled Ends Later place bytes x after xs end at later t = record {
  fronts = at.front ∷ t.fronts;
  rest = t.rest;
  whole = at.whole ∙ ap (λ l. at.front ++ l) t.whole ∙ sym (append_assoc at.front (concat t.fronts) t.rest);
  each = (at.spelled, t.each);
  ends =
      let far : place + length at.front + length (concat t.fronts) ≡ place + length (at.front ++ concat t.fronts) = omega (arith, length-append at.front (concat t.fronts)) in
      later (length xs) _ t.rest (subst (λ p. Ends (length xs) p t.rest end) far t.ends);
}

pub none_there : {V : Type 0} (Spelled : ℕ → V → List ℕ → Type 0) (Ends : ℕ → ℕ → List ℕ → Option Error → Type 0) (place : ℕ) (bytes : List ℕ) (end : Option Error)
    → Ends 0 place bytes end → Items Spelled Ends place bytes [] end
none_there Spelled Ends place bytes end h = record { fronts = []; rest = bytes; whole = refl; each = tt; ends = subst (λ p. Ends 0 p bytes end) (omega arith) h }

earlier_end : {V : Type 0} (Spelled : ℕ → V → List ℕ → Type 0) (Refused : List ℕ → Error → Type 0) (n k place : ℕ) (rest : List ℕ) (end : Option Error)
    → CountedEnd Spelled Refused (suc n) (suc k) place rest end → CountedEnd Spelled Refused n k place rest end
earlier_end Spelled Refused n k place rest None h = (omega (arith, h.0), h.1)
earlier_end Spelled Refused n k place rest (Some NotDrained) h = (omega (arith, h.0), h.1)
earlier_end Spelled Refused n k place rest (Some e) h = (omega (arith, h.0), h.1)

not_more : {V : Type 0} (Spelled : ℕ → V → List ℕ → Type 0) (Refused : List ℕ → Error → Type 0) (n k place : ℕ) (rest : List ℕ) (end : Option Error)
    → CountedEnd Spelled Refused n k place rest end → k ≤ n
not_more Spelled Refused n k place rest None h = omega (arith, h.0)
not_more Spelled Refused n k place rest (Some NotDrained) h = omega (arith, h.0)
not_more Spelled Refused n k place rest (Some e) h = omega (arith, h.0)

pub left_over : {V : Type 0} (bytes : List ℕ) → bytes ≢ [] → drained {V = V} bytes ≡ ([], Some NotDrained)
left_over [] more = absurd (more refl)
left_over (b ∷ bytes) more = refl

abbrev pub ok : {A : Type 0} → A → Result A Error
ok x = Ok x

pub ok_is : {A : Type 0} (x y : A) → ok x ≡ ok y → x ≡ y
ok_is x y e = cc

pub differ : {A : Type 0} (x : A) (e : Error) → ok x ≡ Err e → ⊥
differ x e h = absurd cc

module _ {V : Type 0} (Spelled : ℕ → V → List ℕ → Type 0) (Refused : List ℕ → Error → Type 0) (read : ℕ → List ℕ → Result (V × List ℕ) Error) (reads : IsReader Spelled Refused read) where
  -- an error of the reader is why no item stands there
  pub is_cut : (place : ℕ) (bytes : List ℕ) (e : Error) → IsBytes bytes → read place bytes ≡ Err e → IsCut Spelled Refused place bytes e
  is_cut place bytes e h r = record {
    none = λ x front after whole spelled. differ (x, after) e (sym (ap (read place) whole ∙ reads.again place x front after spelled) ∙ r);
    refusal = reads.refused place bytes e h r;
  }

  -- What is read meets the grammar.
  pub counted_found : (total n place : ℕ) (bytes : List ℕ) → IsBytes bytes → place + length bytes ≡ total
      → Items Spelled (CountedEnd Spelled Refused n) place bytes (counted_run (left_of read total) n bytes).0 (counted_run (left_of read total) n bytes).1
  counted_found total zero place [] h at = none_there Spelled _ place [] None (refl, refl)
  counted_found total zero place (b ∷ bytes) h at = none_there Spelled _ place (b ∷ bytes) (Some NotDrained) (refl, λ e. cc)
  counted_found total (suc n) place bytes h at =
      let here : total - length bytes ≡ place = omega (arith, at) in
      let by_result : (r : Result (V × List ℕ) Error) → left_of read total bytes ≡ r
      → Items Spelled (CountedEnd Spelled Refused (suc n)) place bytes (read_on (counted_run (left_of read total) n) r).0 (read_on (counted_run (left_of read total) n) r).1 =
      λ r. elim r as (λ v. left_of read total bytes ≡ v → Items Spelled (CountedEnd Spelled Refused (suc n)) place bytes (read_on (counted_run (left_of read total) n) v).0 (read_on (counted_run (left_of read total) n) v).1) [
        | Ok x ↦ λ e.
            let stands = reads.found place bytes x.0 x.1 h (rw here at e) in
            let tail : IsBytes x.1 = IsBytes-after stands.front x.1 bytes stands.whole h in
            let far : place + length stands.front + length x.1 ≡ total = omega (arith, at, ap length stands.whole, length-append stands.front x.1) in
            one_more Spelled (CountedEnd Spelled Refused n) (CountedEnd Spelled Refused (suc n)) place bytes x.0 x.1 _ _ stands
            (λ k p rest. later_end Spelled Refused n k p rest _) (counted_found total n (place + length stands.front) x.1 tail far)
        | Err f ↦ λ e.
            let cut = is_cut place bytes f h (rw here at e) in
            none_there Spelled _ place bytes (Some f) (cut_end Spelled Refused (suc n) 0 place bytes f (λ same. reads.own bytes (subst (Refused bytes) same cut.refusal)) (omega arith) cut)
      ] in
      by_result (left_of read total bytes) refl

  end_read : (total n place : ℕ) (bytes : List ℕ) (end : Option Error) → total - length bytes ≡ place → CountedEnd Spelled Refused n 0 place bytes end
      → counted_run (left_of read total) n bytes ≡ ([], end)
  end_read total zero place bytes None at h = ap drained h.1
  end_read total zero place bytes (Some NotDrained) at h = left_over bytes h.1
  end_read total zero place bytes (Some e) at h = absurd (omega (arith, h.0))
  end_read total (suc n) place bytes None at h = absurd (omega (arith, h.0))
  end_read total (suc n) place bytes (Some NotDrained) at h = absurd (omega (arith, h.0))
  end_read total (suc n) place bytes (Some e) at h = rw (at, reads.refuses place bytes e h.1.refusal) refl

  items_read : (total n place : ℕ) (bytes : List ℕ) (fronts : List (List ℕ)) (xs : List V) (rest : List ℕ) (end : Option Error)
      → place + length bytes ≡ total → bytes ≡ concat fronts ++ rest → Spellings Spelled place xs fronts → CountedEnd Spelled Refused n (length xs) (place + length (concat fronts)) rest end
      → counted_run (left_of read total) n bytes ≡ (xs, end)
  items_read total n place bytes [] [] rest end at whole each ends =
      rw whole (end_read total n place rest end (omega (arith, at, ap length whole)) (subst (λ p. CountedEnd Spelled Refused n 0 p rest end) (omega arith) ends))
  items_read total n place bytes (front ∷ fronts) [] rest end at whole each ends = absurd each
  items_read total n place bytes [] (x ∷ xs) rest end at whole each ends = absurd each
  items_read total zero place bytes (front ∷ fronts) (x ∷ xs) rest end at whole each ends = absurd (omega (arith, not_more Spelled Refused zero (suc (length xs)) _ rest end ends))
  items_read total (suc n) place bytes (front ∷ fronts) (x ∷ xs) rest end at whole each ends =
      let after : List ℕ = concat fronts ++ rest in
      let split : bytes ≡ front ++ after = whole ∙ append_assoc front (concat fronts) rest in
      let here : total - length bytes ≡ place = omega (arith, at) in
      let first : left_of read total bytes ≡ Ok (x, after) = rw here (ap (read place) split ∙ reads.again place x front after each.0) in
      let far : place + length (front ++ concat fronts) ≡ place + length front + length (concat fronts) = omega (arith, length-append front (concat fronts)) in
      let more : counted_run (left_of read total) n after ≡ (xs, end) =
      items_read total n (place + length front) after fronts xs rest end (omega (arith, at, ap length split, length-append front after)) refl each.1
      (subst (λ p. CountedEnd Spelled Refused n (length xs) p rest end) far (earlier_end Spelled Refused n (length xs) _ rest end ends)) in
      rw (first, more) refl

  -- What meets the grammar is read.
  pub counted_only : (total n place : ℕ) (bytes : List ℕ) (xs : List V) (end : Option Error) → place + length bytes ≡ total
      → Items Spelled (CountedEnd Spelled Refused n) place bytes xs end → counted_run (left_of read total) n bytes ≡ (xs, end)
  counted_only total n place bytes xs end at t = items_read total n place bytes t.fronts xs t.rest end at t.whole t.each t.ends

  each_some : (place : ℕ) (xs : List V) (fronts : List (List ℕ)) → Spellings Spelled place xs fronts → length xs ≤ length (concat fronts)
  each_some place [] [] each = omega arith
  each_some place [] (front ∷ fronts) each = absurd each
  each_some place (x ∷ xs) [] each = absurd each
  each_some place (x ∷ xs) (front ∷ fronts) each =
      omega (arith, length-append front (concat fronts), each_some (place + length front) xs fronts each.1, reads.some place x front each.0)

  -- No more items than bytes.
  pub not_more_items : (Ends : ℕ → ℕ → List ℕ → Option Error → Type 0) (place : ℕ) (bytes : List ℕ) (xs : List V) (end : Option Error)
      → Items Spelled Ends place bytes xs end → length xs ≤ length bytes
  not_more_items Ends place bytes xs end t = omega (arith, ap length t.whole, length-append (concat t.fronts) t.rest, each_some place xs t.fronts t.each)

  -- a walk over a whole buffer
  pub counted_whole : (n : ℕ) (buffer : List ℕ) → IsBytes buffer
      → CountedItems Spelled Refused n buffer (counted_run (left_of read (length buffer)) n buffer).0 (counted_run (left_of read (length buffer)) n buffer).1
  counted_whole n buffer h = counted_found (length buffer) n 0 buffer h (omega arith)

  pub counted_few : (n : ℕ) (buffer : List ℕ) → IsBytes buffer → length (counted_run (left_of read (length buffer)) n buffer).0 ≤ length buffer
  counted_few n buffer h = not_more_items (CountedEnd Spelled Refused n) 0 buffer _ _ (counted_whole n buffer h)

  -- the one list and end
  pub counted_one : (n : ℕ) (buffer : List ℕ) (xs : List V) (end : Option Error) → CountedItems Spelled Refused n buffer xs end
      → counted_run (left_of read (length buffer)) n buffer ≡ (xs, end)
  counted_one n buffer xs end t = counted_only (length buffer) n 0 buffer xs end (omega arith) t
