-- A bind whose values are put where they stand: its begin, and its end.
use Rattle.for_c.proofs.Common.{◌≡◌, ◌⊎◌, ℕ, ◌+◌, ◌-◌, ◌<◌, ◌≤◌, ◌^◌, ℤ, pos, negsuc, true, false, ◌&&◌, List, [], ◌∷◌, ◌++◌, length, take, drop, map, Option, Some, None, Result, Ok, Err, refl, sym, ap, subst, ◌∙◌, inl, inr, arith, append_assoc, length-append, GName, FitsSigned, All, IfErr, min, w16, cast_unsigned, AllByRecursion, flat_map, list_all, cases_lt, ltb-true, append-nil, length-drop, length-take, take-append-le, drop-append-le, drop-drop, take_all, flat_map-append, All-from_recursion, take-append_seam, drop-append_seam, Cause, counted_cause, count_cause, either, first, length_cause, nullable_cause, text_cause, Wants, WantsMemory, number_of, Held, ◌⊕◌, window_held, window_lacks, Error, Window, counted, int16, nullable, uint16, uint32, TooLarge, count_fits, count_past, either_first, either_left, either_none, either_right, either_then, wants_window, length-uint16, length-uint32, ClientMessage, Bind, Int16s, Text, Values, bytes_of, cause, joined, parts, parts_cause, payload, spelling, items_cause, are_bound, is_format, suits, NotSent, Sent, Wrote, PgpItems}
use Rattle.std.specs.Prelude.{OnOk}
use Rattle.for_c.specs.BindItems.{BindSoFar, Ends, WhyNoFormats, WhyNotEnded, bind_head, format_item}
use Rattle.for_c.proofs.Extensions.{both, min_left}
use Rattle.for_c.proofs.Sending.{wrote}
use Rattle.for_c.proofs.Putting.{error_in}

-- a format is a number of its field
format_fits : (z : ℤ) → is_format z ≡ true → FitsSigned w16 z
format_fits (pos n) h = let few = ltb-true n 2 h in record { sfits = omega (arith, few) }
format_fits (negsuc n) h = absurd cc

each_fits : (zs : List ℤ) → list_all is_format zs ≡ true → AllByRecursion (FitsSigned w16) zs
each_fits [] h = tt
each_fits (z ∷ zs) h = let k = both (is_format z) (list_all is_format zs) h in (format_fits z k.0, each_fits zs k.1)

formats_fit : (zs : List ℤ) → list_all is_format zs ≡ true → All (FitsSigned w16) zs
formats_fit zs h = All-from_recursion (FitsSigned w16) zs (each_fits zs h)

module _ (p s : List ℕ) (fs : List ℤ) where
  abbrev front : List ℕ
  front = joined (Text p ∷ Text s ∷ Int16s fs ∷ [])

  -- the parts of a bind after its formats
  module _ (vs : List (Option (List ℕ))) (rs : List ℤ) where
    abbrev m : ClientMessage
    m = Bind p s fs vs rs

    split : payload m ≡ front ++ (uint16 (length vs) ++ (flat_map nullable vs ++ counted int16 rs))
    split =
        let c = uint16 (length vs) in
        let v = flat_map nullable vs in
        let z = counted int16 rs in
        let apart : front ++ ((c ++ v) ++ (z ++ [])) ≡ front ++ (c ++ (v ++ z)) = simp (append_assoc, append-nil) refl in
        flat_map-append spelling (Text p ∷ Text s ∷ Int16s fs ∷ []) (Values vs ∷ Int16s rs ∷ []) ∙ apart

    long : length (payload m) ≡ length front + 2 + length (flat_map nullable vs) + length (counted int16 rs)
    long =
        let c = uint16 (length vs) in
        let v = flat_map nullable vs in
        let z = counted int16 rs in
        omega (arith, ap length split, length-append front (c ++ (v ++ z)), length-append c (v ++ z), length-append v z, length-uint16 (length vs))

    frame_long : length (bytes_of m) ≡ 5 + length (payload m)
    frame_long = omega (arith, length-append (uint32 (length (payload m) + 4)) (payload m), length-uint32 (length (payload m) + 4))

-- ---- the begin

module _ (p s : List ℕ) (fs : List ℤ) (count : ℕ) (old mid new : List ℕ) (written : ℕ) (sent : Sent (Bind p s fs [] []) old mid written) where
  abbrev gap : List ℕ
  gap = uint32 (length (payload (Bind p s fs [] [])) + 4)

  abbrev start : List ℕ
  start = 66 ∷ (gap ++ front p s fs)

  start_long : length start ≡ 5 + length (front p s fs)
  start_long = omega (arith, length-append gap (front p s fs), length-uint32 (length (payload (Bind p s fs [] [])) + 4))

  written_is : written ≡ length start + 4
  written_is =
      let none : length (counted int16 (let n : List ℤ = [] in n)) ≡ 2 = omega (arith, length-append (uint16 0) [], length-uint16 0) in
      omega (arith, sent.length_is, frame_long p s fs [] [], long p s fs [] [], start_long, none)

  pub begin_some : 4 ≤ written
  begin_some = omega (arith, written_is)

  pub begin_within : written ≤ length mid
  begin_within = let z = bytes_of (Bind p s fs [] []) in omega (arith, sent.length_is, ap length sent.stands, length-append z (drop (length z) old))

  mid_size : length mid ≡ length old
  mid_size = let z = bytes_of (Bind p s fs [] []) in omega (arith, sent.fits, ap length sent.stands, length-append z (drop (length z) old), length-drop (length z) old)

  mid_is : mid ≡ start ++ (uint16 0 ++ uint16 0 ++ drop written old)
  mid_is =
      let h = uint16 0 in
      let z = payload (Bind p s fs [] []) in
      let d = drop written old in
      let apart : gap ++ (front p s fs ++ (h ++ ([] ++ (h ++ [])))) ++ d ≡ gap ++ front p s fs ++ (h ++ h ++ d) = simp (append_assoc, append-nil) refl in
      sent.stands ∙ (ap (λ n. bytes_of (Bind p s fs [] []) ++ drop n old) (sym sent.length_is) ∙ (ap (λ l. 66 ∷ (gap ++ l ++ d)) (split p s fs [] []) ∙ ap (λ l. 66 ∷ l) apart))

  module _ (grown : new ≡ take (written - 4) mid ++ (uint16 count ++ drop (written - 2) mid)) where
    at_start : take (written - 4) mid ≡ start
    at_start =
        let n : written - 4 ≡ length start = omega (arith, written_is) in
        ap (λ k. take k mid) n ∙ (ap (λ l. take (length start) l) mid_is ∙ take-append_seam start (uint16 0 ++ uint16 0 ++ drop written old))

    new_is : new ≡ (start ++ uint16 count) ++ drop (written - 2) mid
    new_is = grown ∙ (ap (λ l. l ++ (uint16 count ++ drop (written - 2) mid)) at_start ∙ sym (append_assoc start (uint16 count) (drop (written - 2) mid)))

    head_long : length (start ++ uint16 count) ≡ written - 2
    head_long = omega (arith, written_is, length-append start (uint16 count), length-uint16 count)

    pub begin_behind : (place : ℕ) → place ≡ written - 2 → drop (place + 2) new ≡ drop (place + 2) old
    begin_behind place is =
        let z = bytes_of (Bind p s fs [] []) in
        let at : drop (written - 2) new ≡ drop (written - 2) mid = ap (λ n. drop n new) (sym head_long) ∙ (ap (λ l. drop (length (start ++ uint16 count)) l) new_is ∙ drop-append_seam (start ++ uint16 count) (drop (written - 2) mid)) in
        let there : drop written mid ≡ drop written old = ap (λ n. drop n mid) sent.length_is ∙ (ap (λ l. drop (length z) l) sent.stands ∙ (drop-append_seam z (drop (length z) old) ∙ ap (λ n. drop n old) (sym sent.length_is))) in
        let n : written - 2 + 2 ≡ written = omega (arith, written_is) in
        let m : place + 2 ≡ written - 2 + 2 = ap (λ k. k + 2) is in
        ap (λ k. drop k new) m ∙ (sym (drop-drop 2 (written - 2) new) ∙ (ap (λ l. drop 2 l) at ∙ (drop-drop 2 (written - 2) mid ∙ (ap (λ k. drop k mid) n ∙ (there ∙ ap (λ k. drop k old) (sym n ∙ sym m))))))

    pub begin_size : length new ≡ length old
    begin_size = omega (arith, ap length new_is, length-append (start ++ uint16 count) (drop (written - 2) mid), head_long, length-drop (written - 2) mid, written_is, begin_within, mid_size)

    pub begun : are_bound fs count [] ≡ true → count ≤ 65535 → (items : PgpItems) → items.at ≡ written - 2 → items.left ≡ count → items.has_null ≡ false → BindSoFar p s fs count [] new items
    begun bound few items at left nulls = record {
      gap = gap;
      four = length-uint32 (length (payload (Bind p s fs [] [])) + 4);
      items = record {
        fits = omega (arith, at, ap length new_is, length-append (start ++ uint16 count) (drop (written - 2) mid), head_long);
        stands =
            let apart : start ++ uint16 count ≡ bind_head gap p s fs count ++ [] = simp (append_assoc, append-nil) refl in
            ap (λ n. take n new) (at ∙ sym head_long) ∙ (ap (λ l. take (length (start ++ uint16 count)) l) new_is ∙ (take-append_seam (start ++ uint16 count) (drop (written - 2) mid) ∙ apart));
        count_is = omega (arith, left);
        nulls = nulls;
        none = refl;
      };
      none = sent.none;
      few = few;
      bound = bound;
    }

-- ---- the formats of the results

pub int16_is : (z : ℤ) → uint16 (cast_unsigned w16 z) ≡ int16 z
unfolding uint16 int16
int16_is z = refl

pub length-int16 : (z : ℤ) → length (int16 z) ≡ 2
length-int16 z = ap length (sym (int16_is z)) ∙ length-uint16 (cast_unsigned w16 z)

pub as_they_are : (zs : List ℤ) → map (λ (z : ℤ). z) zs ≡ zs
as_they_are [] = refl
as_they_are (z ∷ zs) = ap (λ l. z ∷ l) (as_they_are zs)

pub none_formats : (zs : List ℤ) → items_cause format_item zs ≡ None
none_formats [] = refl
none_formats (z ∷ zs) = none_formats zs

count_large : (n : ℕ) (e : Error) → count_cause n ≡ Some e → e ≡ TooLarge
count_large n e h = elim (cases_lt 65535 n) [
  | inl many ↦ ap error_in (sym h ∙ count_past n many)
  | inr few ↦ absurd (let x = sym h ∙ count_fits n (omega (arith, few)) in cc)
]

module _ (zs : List ℤ) (w : Window) (old : List ℕ) (name : GName) (new : window_held w ≡ record { bytes = []; behind = old; kept = (name, length old) }) where
  pub formats_written : (v : Window) (r : Result (Unit {0}) Error) → OnOk r ((count_cause (length zs) ≡ None) × (window_held v ≡ window_held w ⊕ counted int16 zs))
      → (at_last : List ℕ) → (name ≡ v.room.ghost_name → at_last ≡ v.room.now) → (reported : ℕ) → (r ≡ Ok tt) × (reported ≡ length (take v.len v.room.now)) → (count_cause (length zs) ≡ None) × Wrote (counted int16 zs) old at_last reported
  formats_written v r ok at_last is reported ended =
      let k : OnOk (let s : Result (Unit {0}) Error = Ok tt in s) ((count_cause (length zs) ≡ None) × (window_held v ≡ window_held w ⊕ counted int16 zs)) =
      subst (λ r. OnOk r ((count_cause (length zs) ≡ None) × (window_held v ≡ window_held w ⊕ counted int16 zs))) ended.0 ok in
      (k.0, wrote (counted int16 zs) (counted int16 zs) refl w v old name new k.1 at_last is reported ended.1)

  pub formats_refused : (r : Result (Unit {0}) Error) → IfErr r (λ e. WantsMemory (Wants window_lacks (window_held w) (length (counted int16 zs))) e ⊎ (count_cause (length zs) ≡ Some e))
      → (code reported : ℕ) → (e : Error) × (r ≡ Err e) × (code ≡ number_of e) × (reported ≡ 0) → WhyNoFormats zs old code
  formats_refused r why code reported (e, is, code_is, none) =
      let k : IfErr (let s : Result (Unit {0}) Error = Err e in s) (λ e. WantsMemory (Wants window_lacks (window_held w) (length (counted int16 zs))) e ⊎ (count_cause (length zs) ≡ Some e)) =
      subst (λ r. IfErr r (λ e. WantsMemory (Wants window_lacks (window_held w) (length (counted int16 zs))) e ⊎ (count_cause (length zs) ≡ Some e))) is why in
      elim k [
        | inl memory ↦
            let long = wants_window (window_held w) _ memory.1 in
            let room : (window_held w).kept.1 ≡ length old = ap (λ (h : Held (GName × ℕ)). h.kept.1) new in
            let empty : length (window_held w).bytes ≡ 0 = ap (λ (h : Held (GName × ℕ)). length h.bytes) new in
            inl (code_is ∙ ap number_of memory.0, omega (arith, long, room, empty))
        | inr some ↦ let large = count_large (length zs) e some in inr (code_is ∙ ap number_of large, some ∙ ap (λ (e : Error). Some e) large)
      ]

-- ---- what was written at a place

module _ (at : ℕ) (old out post now : List ℕ) (is : now ≡ take at old ++ (out ++ post)) (within : at ≤ length old) (same : length out ≡ length old - at) (parts : take (length old - at) (drop at old) ++ post ≡ drop at old) where
  abbrev before : List ℕ
  before = take at old

  before_size : length before ≡ at
  before_size = omega (arith, within, length-take at old)

  pub kept_before : take at now ≡ take at old
  kept_before = ap (λ n. take n now) (sym before_size) ∙ (ap (λ l. take (length before) l) is ∙ take-append_seam before (out ++ post))

  module _ (z : List ℕ) (added n : ℕ) (w : Wrote z (take (length old - at) (drop at old)) out added) (sum : n ≡ min (at + added) 18446744073709551615) (bound : length old < 2 ^ 63) where
    abbrev mid : List ℕ
    mid = take (length old - at) (drop at old)

    cut_size : length mid ≡ length old - at
    cut_size = omega (arith, within, length-take (length old - at) (drop at old), length-drop at old)

    len : n ≡ at + length z
    len = sum ∙ min_left (at + added) 18446744073709551615 (omega (arith, within, bound, cut_size, w.length_is, w.fits)) ∙ ap (λ k. at + k) w.length_is

    pub end_head : 5 ≤ at → 5 ≤ n
    end_head h = omega (arith, h, len)

    in_old : n ≤ length old
    in_old = omega (arith, len, within, cut_size, w.fits)

    rest : out ++ post ≡ z ++ drop n old
    rest =
        let behind : drop (length z) mid ++ post ≡ drop n old =
        sym (drop-append-le (length z) mid post w.fits) ∙ (ap (λ l. drop (length z) l) parts ∙ (drop-drop (length z) at old ∙ ap (λ k. drop k old) (sym len))) in
        ap (λ l. l ++ post) w.stands ∙ (append_assoc z (drop (length z) mid) post ∙ ap (λ l. z ++ l) behind)

    whole : now ≡ before ++ (z ++ drop n old)
    whole = is ∙ ap (λ l. before ++ l) rest

    pub end_within : n ≤ length now
    end_within = omega (arith, ap length whole, length-append before (z ++ drop n old), length-append z (drop n old), before_size, len)

    pub ended : 5 ≤ at → (new : List ℕ) (reported : ℕ) → (reported ≡ n) × (length_cause (n - 1) ≡ None) × (new ≡ take 1 now ++ (uint32 (n - 1) ++ drop 5 now)) → Ends at z old new reported
    ended five new reported (is_len, fits, grown) =
        let tag : take 1 now ≡ take 1 before = ap (λ l. take 1 l) whole ∙ take-append-le 1 before (z ++ drop n old) (omega (arith, five, before_size)) in
        let behind : drop 5 now ≡ drop 5 before ++ (z ++ drop n old) = ap (λ l. drop 5 l) whole ∙ drop-append-le 5 before (z ++ drop n old) (omega (arith, five, before_size)) in
        record {
          length_is = is_len ∙ len;
          fits = omega (arith, is_len, in_old);
          counts = ap (λ k. length_cause (k - 1)) is_len ∙ fits;
          stands = grown
              ∙ (ap (λ l. l ++ (uint32 (n - 1) ++ drop 5 now)) tag
              ∙ (ap (λ l. take 1 before ++ (uint32 (n - 1) ++ l)) behind
              ∙ ap (λ k. take 1 before ++ (uint32 (k - 1) ++ (drop 5 before ++ (z ++ drop k old)))) (sym is_len)));
        }

    pub past_end : length_cause (n - 1) ≡ Some TooLarge → length_cause (at + length z - 1) ≡ Some TooLarge
    past_end h = ap (λ k. length_cause (k - 1)) (sym len) ∙ h

pub not_there : (at : ℕ) (zs : List ℤ) (old : List ℕ) (code : ℕ) → at ≤ length old → WhyNoFormats zs (take (length old - at) (drop at old)) code → WhyNotEnded at zs old code
not_there at zs old code within (inl (one, short)) = inl (one, omega (arith, within, short, length-take (length old - at) (drop at old), length-drop at old))
not_there at zs old code within (inr (three, counts)) = inr (three, inl counts)

-- ---- the end

module _ (p s : List ℕ) (fs : List ℤ) (count : ℕ) (vs : List (Option (List ℕ))) (rs : List ℤ) (old : List ℕ) (items : PgpItems) (none_left : items.left ≡ 0) (b : BindSoFar p s fs count vs old items) where
  all : length vs ≡ count
  all = omega (arith, b.items.count_is, none_left)

  few_values : length vs ≤ 65535
  few_values = omega (arith, all, b.few)

  abbrev body : List ℕ
  body = front p s fs ++ (uint16 count ++ flat_map nullable vs)

  so_far : take items.at old ≡ 66 ∷ (b.gap ++ body)
  so_far =
      let v = flat_map nullable vs in
      let apart : bind_head b.gap p s fs count ++ v ≡ 66 ∷ (b.gap ++ body) = simp (append_assoc) refl in
      b.items.stands ∙ apart

  place : items.at ≡ 5 + length body
  place = omega (arith, b.items.fits, ap length so_far, length-take items.at old, length-append b.gap body, b.four)

  pub not_short : items.at < 5 → ⊥
  not_short h = omega (arith, h, place)

  whole_payload : payload (Bind p s fs vs rs) ≡ body ++ counted int16 rs
  whole_payload =
      let v = flat_map nullable vs in
      let z = counted int16 rs in
      let apart : front p s fs ++ (uint16 (length vs) ++ (v ++ z)) ≡ (front p s fs ++ (uint16 (length vs) ++ v)) ++ z = simp (append_assoc) refl in
      split p s fs vs rs ∙ (apart ∙ ap (λ n. (front p s fs ++ (uint16 n ++ v)) ++ z) all)

  size : length (payload (Bind p s fs vs rs)) + 5 ≡ items.at + length (counted int16 rs)
  size = omega (arith, ap length whole_payload, length-append body (counted int16 rs), place)

  whole_size : length (bytes_of (Bind p s fs vs rs)) ≡ items.at + length (counted int16 rs)
  whole_size = omega (arith, size, frame_long p s fs vs rs)

  -- the causes of the parts
  head_none : parts_cause (parts (Bind p s fs [] [])) ≡ None
  head_none = either_left (parts_cause (parts (Bind p s fs [] []))) (length_cause (length (payload (Bind p s fs [] [])) + 4)) b.none

  values_none : counted_cause nullable_cause vs ≡ None
  values_none = either_none (first (map nullable_cause (take 65535 vs))) (count_cause (length vs)) (ap (λ l. first (map nullable_cause l)) (take_all 65535 vs few_values) ∙ b.items.none) (count_fits (length vs) (omega (arith, few_values)))

  -- the first four parts have none
  to_last : parts_cause (parts (Bind p s fs vs rs)) ≡ either (count_cause (length rs)) None
  to_last =
      let last : Cause = either (count_cause (length rs)) None in
      let rest : Cause = either (counted_cause nullable_cause vs) last in
      let one = either_left (text_cause p) _ head_none in
      let after_one = either_right (text_cause p) _ head_none in
      let two = either_left (text_cause s) _ after_one in
      let after_two = either_right (text_cause s) _ after_one in
      let three = either_left (count_cause (length fs)) _ after_two in
      either_then (text_cause p) (either (text_cause s) (either (count_cause (length fs)) rest)) one
      ∙ (either_then (text_cause s) (either (count_cause (length fs)) rest) two ∙ (either_then (count_cause (length fs)) rest three ∙ either_then (counted_cause nullable_cause vs) last values_none))

  field : length (payload (Bind p s fs vs rs)) + 4 ≡ items.at + length (counted int16 rs) - 1
  field = omega (arith, size)

  pub sent_whole : (new : List ℕ) (reported : ℕ) → list_all is_format rs ≡ true → count_cause (length rs) ≡ None → Ends items.at (counted int16 rs) old new reported → Sent (Bind p s fs vs rs) old new reported
  sent_whole new reported formats counts e =
      let z = counted int16 rs in
      let back = drop reported old in
      let suits_all = both (suits (length fs) count) (list_all is_format fs && true) b.bound in
      let own = both (list_all is_format fs) true suits_all.1 in
      let n : reported - 1 ≡ length (payload (Bind p s fs vs rs)) + 4 = omega (arith, e.length_is, size) in
      let tag : take 1 (take items.at old) ≡ 66 ∷ [] = ap (λ l. take 1 l) so_far in
      let behind : drop 5 (take items.at old) ≡ body = ap (λ l. drop 5 l) so_far ∙ (ap (λ k. drop k (b.gap ++ body)) (sym b.four) ∙ drop-append_seam b.gap body) in
      let apart : (66 ∷ []) ++ (uint32 (reported - 1) ++ (body ++ (z ++ back))) ≡ 66 ∷ (uint32 (reported - 1) ++ (body ++ z)) ++ back = simp (append_assoc) refl in
      let stands : new ≡ 66 ∷ (uint32 (reported - 1) ++ (body ++ z)) ++ back =
      e.stands ∙ (ap (λ l. l ++ (uint32 (reported - 1) ++ (drop 5 (take items.at old) ++ (z ++ back)))) tag ∙ (ap (λ l. (66 ∷ []) ++ (uint32 (reported - 1) ++ (l ++ (z ++ back)))) behind ∙ apart)) in
      let long : reported ≡ length (bytes_of (Bind p s fs vs rs)) = e.length_is ∙ sym whole_size in
      record {
        in_range = ((tt, (tt, (formats_fit fs own.0, (tt, (formats_fit rs formats, tt))))), tt);
        none = either_none (parts_cause (parts (Bind p s fs vs rs))) (length_cause (length (payload (Bind p s fs vs rs)) + 4)) (to_last ∙ either_none (count_cause (length rs)) None counts refl) (ap length_cause (sym n) ∙ e.counts);
        length_is = long;
        fits = omega (arith, long, e.fits);
        stands = stands
            ∙ (ap (λ k. 66 ∷ (uint32 k ++ (body ++ z)) ++ back) n
            ∙ (ap (λ l. 66 ∷ (uint32 (length (payload (Bind p s fs vs rs)) + 4) ++ l) ++ back) (sym whole_payload)
            ∙ ap (λ k. bytes_of (Bind p s fs vs rs) ++ drop k old) long));
      }

  past_count : count_cause (length rs) ≡ Some TooLarge → cause (Bind p s fs vs rs) ≡ Some TooLarge
  past_count h = either_first (parts_cause (parts (Bind p s fs vs rs))) _ TooLarge (to_last ∙ either_first (count_cause (length rs)) None TooLarge h)

  past_length : length_cause (items.at + length (counted int16 rs) - 1) ≡ Some TooLarge → cause (Bind p s fs vs rs) ≡ Some TooLarge
  past_length h = elim (cases_lt 65535 (length rs)) [
    | inl many ↦ past_count (count_past (length rs) many)
    | inr few ↦
        let counts : count_cause (length rs) ≡ None = count_fits (length rs) (omega (arith, few)) in
        either_then (parts_cause (parts (Bind p s fs vs rs))) _ (to_last ∙ either_none (count_cause (length rs)) None counts refl) ∙ (ap length_cause field ∙ h)
  ]

  pub not_sent : (code reported : ℕ) → reported ≡ 0 → WhyNotEnded items.at rs old code → NotSent (Bind p s fs vs rs) old reported code
  not_sent code reported none (inl (one, short)) = record { length_is = none; why = inl (one, omega (arith, short, whole_size)) }
  not_sent code reported none (inr (three, inl counts)) = record { length_is = none; why = inr (λ e. (let x = sym e ∙ three in cc), (TooLarge, past_count counts, three)) }
  not_sent code reported none (inr (three, inr long)) = record { length_is = none; why = inr (λ e. (let x = sym e ∙ three in cc), (TooLarge, past_length long, three)) }
