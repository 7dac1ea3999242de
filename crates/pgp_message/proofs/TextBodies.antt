-- Bodies whose texts are cut from their bytes.
use Rattle.pgp_message.proofs.Common.{◌≡◌, ℕ, ℤ, ◌+◌, ◌-◌, ◌≤◌, ◌<◌, List, [], ◌∷◌, ◌++◌, length, take, drop, Some, Err, refl, sym, ap, ◌∙◌, arith, append_assoc, length-take, take_at, drop_at, nil_from_length, drop-append-add, w32, from_be_bytes, cast_signed, NotDrained, int32_at, string_at, ok, front_takes, string_takes, first_text, after_text, Notification, Setting, string_of, setting_of, notification_of}
use Rattle.std.proofs.lemmas.List.{length-append}
use Rattle.pgp_base.proofs.PartLemmas.{int32_value}

-- the text is the front of the bytes
text_is : (bytes text rest : List ℕ) → string_at bytes ≡ Some (text, rest) → take (length text) bytes ≡ text
text_is bytes text rest s = first_text bytes text rest (string_takes bytes (text, rest) s).parts

pub string_is : (payload text rest new : List ℕ) → string_at payload ≡ Some (text, rest) → length rest ≡ 0 → new ≡ take (length text) payload → ok new ≡ string_of payload
unfolding string_of
string_is payload text rest new s e n = let none = nil_from_length rest e in rw (s, none, n, text_is payload text rest s) refl

-- two strings and nothing after them
both_texts : (bytes first after second end : List ℕ) → string_at bytes ≡ Some (first, after) → string_at after ≡ Some (second, end) → length end ≡ 0 → bytes ≡ (first ++ 0 ∷ second) ++ 0 ∷ []
both_texts bytes first after second end s t e =
    let p = (string_takes bytes (first, after) s).parts in
    let q = (string_takes after (second, end) t).parts in
    p ∙ ap (λ l. first ++ 0 ∷ l) (q ∙ ap (λ l. second ++ 0 ∷ l) (nil_from_length end e)) ∙ sym (append_assoc first (0 ∷ second) (0 ∷ []))

setting_kept : (payload name rest value end texts : List ℕ) → string_at payload ≡ Some (name, rest) → string_at rest ≡ Some (value, end) → length end ≡ 0
    → texts ≡ take (length name + 1 + length value) payload → texts ≡ name ++ 0 ∷ value
setting_kept payload name rest value end texts s t e cut =
    let kept = name ++ 0 ∷ value in
    let len : length name + 1 + length value ≡ length kept = omega (arith, length-append name (0 ∷ value)) in
    cut ∙ ap (λ n. take n payload) len ∙ first_text payload kept [] (both_texts payload name rest value end s t e)

pub setting_fits : (payload name rest value end texts : List ℕ) → string_at payload ≡ Some (name, rest) → string_at rest ≡ Some (value, end) → length end ≡ 0
    → texts ≡ take (length name + 1 + length value) payload → length name + 1 ≤ length texts
setting_fits payload name rest value end texts s t e cut = omega (arith, ap length (setting_kept payload name rest value end texts s t e cut), length-append name (0 ∷ value))

pub setting_is : (payload name rest value end texts : List ℕ) → string_at payload ≡ Some (name, rest) → string_at rest ≡ Some (value, end) → length end ≡ 0 → texts ≡ take (length name + 1 + length value) payload
    → ok {A = Setting} (record { name = take (length name) texts; value = drop (length name + 1) texts }) ≡ setting_of payload
unfolding setting_of
setting_is payload name rest value end texts s t e cut =
    let none = nil_from_length end e in
    let kept = setting_kept payload name rest value end texts s t e cut in
    rw (s, t, none, first_text texts name value kept, after_text texts name value kept) refl

-- the process id takes four bytes
id_takes : (payload rest : List ℕ) (id : ℤ) → int32_at payload ≡ Some (id, rest) → (length (take 4 payload) ≡ 4) × (id ≡ int32_value (take 4 payload)) × (payload ≡ take 4 payload ++ rest)
id_takes payload rest id i =
    let f = front_takes 4 int32_value payload (id, rest) i in
    (omega (arith, length-take 4 payload, f.0), f.1, f.2)

-- the last zero is cut off
notification_kept : (payload rest channel after message end new : List ℕ) (id : ℤ) → int32_at payload ≡ Some (id, rest) → string_at rest ≡ Some (channel, after) → string_at after ≡ Some (message, end)
    → length end ≡ 0 → new ≡ take (length payload - 1) payload → new ≡ take 4 payload ++ (channel ++ 0 ∷ message)
notification_kept payload rest channel after message end new id i s t e cut =
    let head = take 4 payload in
    let texts = channel ++ 0 ∷ message in
    let whole : payload ≡ (head ++ texts) ++ 0 ∷ [] = (id_takes payload rest id i).2 ∙ ap (λ l. head ++ l) (both_texts rest channel after message end s t e) ∙ sym (append_assoc head texts (0 ∷ [])) in
    let less : length payload - 1 ≡ length (head ++ texts) = omega (arith, ap length whole, length-append (head ++ texts) (0 ∷ [])) in
    cut ∙ ap (λ n. take n payload) less ∙ first_text payload (head ++ texts) [] whole

pub notification_fits : (payload rest channel after message end new : List ℕ) (id : ℤ) → int32_at payload ≡ Some (id, rest) → string_at rest ≡ Some (channel, after) → string_at after ≡ Some (message, end)
    → length end ≡ 0 → new ≡ take (length payload - 1) payload → length channel + 5 ≤ length new
notification_fits payload rest channel after message end new id i s t e cut =
    omega (arith, ap length (notification_kept payload rest channel after message end new id i s t e cut), length-append (take 4 payload) (channel ++ 0 ∷ message), length-append channel (0 ∷ message), (id_takes payload rest id i).0)

pub notification_is : (payload rest channel after message end new : List ℕ) (id : ℤ) → int32_at payload ≡ Some (id, rest) → string_at rest ≡ Some (channel, after) → string_at after ≡ Some (message, end)
    → length end ≡ 0 → new ≡ take (length payload - 1) payload
    → ok {A = Notification} (record { process_id = cast_signed w32 (from_be_bytes w32 (take 4 new)); channel = take (length channel) (drop 4 new); message = drop (length channel + 5) new }) ≡ notification_of payload
unfolding notification_of
notification_is payload rest channel after message end new id i s t e cut =
    let none = nil_from_length end e in
    let head = take 4 payload in
    let texts = channel ++ 0 ∷ message in
    let front = id_takes payload rest id i in
    let kept = notification_kept payload rest channel after message end new id i s t e cut in
    let number : int32_value (take 4 new) ≡ id = ap int32_value (ap (take 4) kept ∙ take_at head texts 4 front.0) ∙ sym front.1 in
    let behind : drop 4 new ≡ texts = ap (drop 4) kept ∙ drop_at head texts 4 front.0 in
    let skips : length channel + 5 ≡ length head + (length channel + 1) = omega (arith, front.0) in
    let said : drop (length channel + 5) new ≡ message = ap (drop (length channel + 5)) kept ∙ ap (λ n. drop n (head ++ texts)) skips ∙ drop-append-add head texts (length channel + 1) ∙ after_text texts channel message refl in
    rw (i, s, t, none, number, behind, said, first_text texts channel message refl) refl

pub notification_long : (payload rest channel after message end : List ℕ) (id : ℤ) → int32_at payload ≡ Some (id, rest) → string_at rest ≡ Some (channel, after) → string_at after ≡ Some (message, end)
    → 0 < length end → Err NotDrained ≡ notification_of payload
unfolding notification_of
notification_long payload rest channel after message [] id i s t lt = absurd (omega arith)
notification_long payload rest channel after message (b ∷ end) id i s t lt = rw (i, s, t) refl
