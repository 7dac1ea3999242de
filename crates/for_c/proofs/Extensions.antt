-- What a call added to a client's stream.
use Rattle.for_c.proofs.Common.{◌≡◌, ℕ, ◌+◌, ◌-◌, ◌<◌, ◌≤◌, ◌^◌, Bool, true, false, List, [], ◌∷◌, ◌++◌, length, take, drop, map, Option, Some, None, refl, sym, ap, subst, ◌∙◌, arith, inl, MutBor, ◌&&◌, ◌≢◌, min, if◌then◌else◌, AllByRecursion, list_all, ltb-true, All-from_recursion, take-append_seam, take-append-add, drop-append_seam, append-nil, length-drop, length-take, drop-append-le, drop-drop, take-append-drop, length-uint32, uint32, ClientMessage, CopyData, PasswordKind, Startup, ProtocolVersion, bytes_of, framed, minor_of, payload, tag_of, ClientRun, MayCome, kinds_of, is_startup, is_opened, PgpPair, is_named, pair_of, copy_head, SentHead, Sent, Why, Wrote}
use Rattle.std.proofs.lemmas.List.{length-append, append_assoc}
use Rattle.pgp_frontend.proofs.ClientRuns.{run_more}
use Rattle.for_c.specs.declared.stream.PgpStream.{PgpStream}
use Rattle.for_c.specs.Streams.{Extends, ExtendsByHead, free}

-- what a call was handed of the memory, and what lies after that
pub parts_of : (s : PgpStream) → take (length s.room.now - s.len) (drop s.len s.room.now) ++ drop (length s.room.now - s.len) (drop s.len s.room.now) ≡ drop s.len s.room.now
parts_of s = take-append-drop (length s.room.now - s.len) (drop s.len s.room.now)

pub min_left : (a b : ℕ) → a ≤ b → min a b ≡ a
min_left a b le = omega (arith, le)

-- bytes that were written after what was to be sent
module _ (z : List ℕ) (old : PgpStream) (mid out post : List ℕ) (reported n : ℕ) (room : MutBor (List ℕ)) (is : room.now ≡ take old.len old.room.now ++ (out ++ post)) (within : old.len ≤ length old.room.now) (wrote : Wrote z mid out reported) (sum : n ≡ min (old.len + reported) 18446744073709551615) (same : length out ≡ length old.room.now - old.len) (bound : length old.room.now < 2 ^ 63) (parts : mid ++ post ≡ drop old.len old.room.now) where
  fits : old.len + reported ≤ 18446744073709551615
  fits = omega (arith, within, same, bound, wrote.length_is, ap length wrote.stands, length-append z (drop (length z) mid))

  len : n ≡ old.len + reported
  len = sum ∙ min_left (old.len + reported) 18446744073709551615 fits

  front : take reported (out ++ post) ≡ z
  front =
      ap (λ i. take i (out ++ post)) wrote.length_is
      ∙ ap (λ l. take (length z) (l ++ post)) wrote.stands
      ∙ ap (λ l. take (length z) l) (append_assoc z (drop (length z) mid) post)
      ∙ take-append_seam z (drop (length z) mid ++ post)

  grown : take n room.now ≡ take old.len old.room.now ++ z
  grown =
      let held = take old.len old.room.now in
      let count : n ≡ length held + reported = omega (arith, len, within, length-take old.len old.room.now) in
      ap (λ i. take i room.now) count ∙ ap (λ l. take (length held + reported) l) is ∙ take-append-add held (out ++ post) reported ∙ ap (λ l. held ++ l) front

  within_room : n ≤ length old.room.now
  within_room = omega (arith, len, within, same, wrote.fits, wrote.length_is, ap length wrote.stands, length-append z (drop (length z) mid), length-drop (length z) mid)

  -- the memory after what is to be sent is as it was
  rest_out : drop reported (out ++ post) ≡ drop reported (drop old.len old.room.now)
  rest_out =
      ap (λ i. drop i (out ++ post)) wrote.length_is
      ∙ ap (λ l. drop (length z) (l ++ post)) wrote.stands
      ∙ ap (λ l. drop (length z) l) (append_assoc z (drop (length z) mid) post)
      ∙ drop-append_seam z (drop (length z) mid ++ post)
      ∙ sym (drop-append-le (length z) mid post wrote.fits)
      ∙ ap (λ l. drop (length z) l) parts
      ∙ ap (λ i. drop i (drop old.len old.room.now)) (sym wrote.length_is)

  rest_same : drop n room.now ≡ drop n old.room.now
  rest_same =
      let held = take old.len old.room.now in
      let count : length held ≡ old.len = omega (arith, within, length-take old.len old.room.now) in
      let cut : drop old.len room.now ≡ out ++ post = ap (λ i. drop i room.now) (sym count) ∙ ap (λ l. drop (length held) l) is ∙ drop-append_seam held (out ++ post) in
      ap (λ i. drop i room.now) len ∙ sym (drop-drop reported old.len room.now) ∙ ap (λ l. drop reported l) cut ∙ rest_out ∙ drop-drop reported old.len old.room.now ∙ ap (λ i. drop i old.room.now) (sym len)

module _ (m : ClientMessage) (old : PgpStream) (mid out post : List ℕ) (reported n : ℕ) (room : MutBor (List ℕ)) (is : room.now ≡ take old.len old.room.now ++ (out ++ post)) (within : old.len ≤ length old.room.now) (sent : Sent m mid out reported) (sum : n ≡ min (old.len + reported) 18446744073709551615) (same : length out ≡ length old.room.now - old.len) (bound : length old.room.now < 2 ^ 63) (parts : mid ++ post ≡ drop old.len old.room.now) where
  written : Wrote (bytes_of m) mid out reported
  written = record { length_is = sent.length_is; fits = sent.fits; stands = sent.stands }

  whole : take n room.now ≡ take old.len old.room.now ++ bytes_of m
  whole = grown (bytes_of m) old mid out post reported n room is within written sum same bound parts

  module _ (o : Bool) (opened : old.is_open ≡ o) (may : MayCome m o) where
    reads : (sent_before : List ℕ) (kinds : List PasswordKind) (messages : List ClientMessage) → is_opened messages ≡ old.is_open
        → ClientRun kinds messages (sent_before ++ take old.len old.room.now) → ClientRun (kinds ++ kinds_of m) (messages ++ m ∷ []) (sent_before ++ take n room.now)
    reads before kinds messages phase run =
        subst (λ l. ClientRun (kinds ++ kinds_of m) (messages ++ m ∷ []) l)
        (append_assoc before (take old.len old.room.now) (bytes_of m) ∙ ap (λ l. before ++ l) (sym whole))
        (run_more kinds messages m (before ++ take old.len old.room.now) run (subst (λ (b : Bool). MayCome m b) (sym (phase ∙ opened)) may) sent.none sent.in_range)

    pub extends_to : (now : Bool) → now ≡ (if is_startup m then true else old.is_open) → (let new : PgpStream = record { room = room; len = n; is_open = now } in Extends m old new)
    extends_to now phase = record {
      none = sent.none;
      appended = whole;
      length_is = len (bytes_of m) old mid out post reported n room is within written sum same bound parts ∙ ap (λ k. old.len + k) sent.length_is;
      fits = within_room (bytes_of m) old mid out post reported n room is within written sum same bound parts;
      behind = rest_same (bytes_of m) old mid out post reported n room is within written sum same bound parts;
      opened = phase;
      reads = reads;
    }

    pub extends : is_startup m ≡ false → (let new : PgpStream = record { room = room; len = n; is_open = old.is_open } in Extends m old new)
    extends plain = extends_to old.is_open (ap (λ (x : Bool). if x then true else old.is_open) (sym plain))

-- the head of data
module _ (size : ℕ) (old : PgpStream) (mid out post : List ℕ) (reported n : ℕ) (room : MutBor (List ℕ)) (is : room.now ≡ take old.len old.room.now ++ (out ++ post)) (within : old.len ≤ length old.room.now) (sent : SentHead size mid out reported) (sum : n ≡ min (old.len + reported) 18446744073709551615) (same : length out ≡ length old.room.now - old.len) (bound : length old.room.now < 2 ^ 63) (parts : mid ++ post ≡ drop old.len old.room.now) (opened : old.is_open ≡ true) where
  five : length (copy_head size) ≡ 5
  five = omega (arith, length-uint32 (size + 4))

  head_written : Wrote (copy_head size) mid out reported
  head_written = record { length_is = sent.length_is ∙ sym five; fits = omega (arith, sent.fits, five); stands = sent.stands ∙ ap (λ n. copy_head size ++ drop n mid) (sym five) }

  head_grown : take n room.now ≡ take old.len old.room.now ++ copy_head size
  head_grown = grown (copy_head size) old mid out post reported n room is within head_written sum same bound parts

  with_data : (bytes : List ℕ) → length bytes ≡ size → take n room.now ++ bytes ≡ take old.len old.room.now ++ bytes_of (CopyData bytes)
  with_data bytes few =
      ap (λ l. l ++ bytes) head_grown ∙ append_assoc (take old.len old.room.now) (copy_head size) bytes ∙ ap (λ l. take old.len old.room.now ++ l) (sym (sent.message bytes few).1)

  head_reads : (bytes before : List ℕ) (kinds : List PasswordKind) (messages : List ClientMessage) → length bytes ≡ size → is_opened messages ≡ old.is_open
      → ClientRun kinds messages (before ++ take old.len old.room.now) → ClientRun kinds (messages ++ CopyData bytes ∷ []) (before ++ (take n room.now ++ bytes))
  head_reads bytes before kinds messages few phase run =
      subst (λ ks. ClientRun ks (messages ++ CopyData bytes ∷ []) (before ++ (take n room.now ++ bytes))) (append-nil kinds)
      (subst (λ l. ClientRun (kinds ++ []) (messages ++ CopyData bytes ∷ []) l)
      (append_assoc before (take old.len old.room.now) (bytes_of (CopyData bytes)) ∙ ap (λ l. before ++ l) (sym (with_data bytes few)))
      (run_more kinds messages (CopyData bytes) (before ++ take old.len old.room.now) run (subst (λ (b : Bool). MayCome (CopyData bytes) b) (sym (phase ∙ opened)) (λ e. absurd cc)) (sent.message bytes few).0 ((tt, tt), tt)))

  pub extends_by_head : (let new : PgpStream = record { room = room; len = n; is_open = old.is_open } in ExtendsByHead size old new)
  extends_by_head = record {
    appended = head_grown;
    length_is = len (copy_head size) old mid out post reported n room is within head_written sum same bound parts ∙ ap (λ k. old.len + k) sent.length_is;
    fits = within_room (copy_head size) old mid out post reported n room is within head_written sum same bound parts;
    behind = rest_same (copy_head size) old mid out post reported n room is within head_written sum same bound parts;
    opened = refl;
    message = λ bytes few. ((sent.message bytes few).0, with_data bytes few);
    reads = head_reads;
  }

-- no name is empty
named_one : (p : PgpPair) → is_named p ≡ true → (pair_of p).0 ≢ []
named_one p h e = let n = ap length e in let some = ltb-true 0 (length p.name.now) h in omega (arith, n, some)

pub both : (a b : Bool) → (a && b) ≡ true → (a ≡ true) × (b ≡ true)
both true b h = (refl, h)
both false b h = let e : false ≡ true = h in absurd cc

pub all_named : (ps : List PgpPair) → list_all is_named ps ≡ true → AllByRecursion (λ (p : List ℕ × List ℕ). p.0 ≢ []) (map pair_of ps)
all_named [] h = tt
all_named (p ∷ ps) h = let k = both (is_named p) (list_all is_named ps) h in (named_one p k.0, all_named ps k.1)

pub may_open : (v : ProtocolVersion) (ps : List PgpPair) → list_all is_named ps ≡ true → MayCome (Startup (minor_of v) (map pair_of ps)) false
may_open v ps h = (inl tt, All-from_recursion (λ (p : List ℕ × List ℕ). p.0 ≢ []) (map pair_of ps) (all_named ps h))

-- Where more is to be sent than the memory holds, no message fits.
framed_some : (tag : Option ℕ) (body : List ℕ) → 0 < length (framed tag body)
framed_some None body = omega (arith, length-append (uint32 (length body + 4)) body, length-uint32 (length body + 4))
framed_some (Some tag) body = omega arith

drop_past : (n : ℕ) (xs : List ℕ) → length xs < n → length (drop n xs) ≡ 0
drop_past n xs past = omega (arith, length-drop n xs, past)

pub no_room : (m : ClientMessage) (s : PgpStream) (code : ℕ) → length s.room.now < s.len → code ≡ 1 → Why m (free s) code
no_room m s code past one = inl (one, omega (arith, drop_past s.len s.room.now past, framed_some (tag_of m) (payload m)))
