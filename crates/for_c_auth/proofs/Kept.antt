-- The settings of bytes, and where one stands.
use Rattle.for_c_auth.proofs.Common.{◌≡◌, ◌≢◌, ℕ, zero, suc, ◌+◌, ◌-◌, ◌<◌, ◌≤◌, true, false, List, [], ◌∷◌, ◌++◌, Option, Some, None, ap, arith, append_assoc, drop, inl, inr, length, length-append, refl, subst, sym, take, ◌∙◌, ParameterStatus, HasValueAt, IsFull, StandsAt, kept_bytes, kept_in, pairs, settings_of, settled, size_of, spelled, value_of, without, drop-drop, drop-take, length-drop, length-take, length-take-le, take-append-drop, take-take, take_more_set, Setting, slice_set, if◌then◌else◌, ◌==◌}
use Rattle.std.proofs.Math.Seq.{drop-append-add, drop-append_seam, take-append_seam}
use Rattle.std.proofs.lemmas.Bool.{cases_Bool, ne_eqb}
use Rattle.std.proofs.lemmas.Slice.{take-put_mid}
use Rattle.std.proofs.lemmas.Slice.Eq.{bytes_eq-Decides}
use Rattle.std.specs.Str.{bytes_eq}
use borrow.Rule.Slice.PartMut.{mid_len, mid_of, post_of, put_mid, same_len_mid}
use Rattle.pgp_base.proofs.Strings.{string_takes, string_whole}
unfoldable use Rattle.pgp_base.specs.PartReading.{string_at}
use Rattle.pgp_base.specs.PartReading.{with_first as with_first_byte}
use Rattle.pgp_base.specs.Wire.{HasNoZero, text}
unfoldable use Rattle.for_c_auth.specs.Settings.{texts}
use Rattle.for_c_auth.specs.declared.settings.PgpSettings.{PgpSettings}

texts_text : (z rest : List ℕ) → HasNoZero z → texts (z ++ 0 ∷ rest) ≡ z ∷ texts rest
unfolding texts
texts_text [] rest none = refl
texts_text (zero ∷ z) rest none = absurd (none.0 refl)
texts_text (suc b ∷ z) rest none = rw (texts_text z rest none.1) refl

texts_front : (z rest : List ℕ) → HasNoZero z → texts (text z ++ rest) ≡ z ∷ texts rest
texts_front z rest none = ap texts (append_assoc z (0 ∷ []) rest) ∙ texts_text z rest none

not_some : (b : ℕ) (o : Option (List ℕ × List ℕ)) → with_first_byte b o ≡ None → o ≡ None
not_some b None e = refl
not_some b (Some x) e = absurd cc

texts_none : (bytes : List ℕ) → string_at bytes ≡ None → texts bytes ≡ []
unfolding texts string_at
texts_none [] e = refl
texts_none (zero ∷ bytes) e = absurd cc
texts_none (suc b ∷ bytes) e = rw (texts_none bytes (not_some (suc b) (string_at bytes) e)) refl

abbrev pub setting : List ℕ → List ℕ → Setting
setting name value = record { name = name; value = value }

pub settings_front : (name value more : List ℕ) → HasNoZero name → HasNoZero value → settings_of (spelled (setting name value) ++ more) ≡ setting name value ∷ settings_of more
settings_front name value more n v =
    ap settings_of (append_assoc (text name) (text value) more) ∙ ap pairs (texts_front name (text value ++ more) n ∙ ap (λ l. name ∷ l) (texts_front value more v))

module _ (bytes name behind : List ℕ) (name_is : string_at bytes ≡ Some (name, behind)) where
  one : texts bytes ≡ name ∷ texts behind
  one = let s = string_takes bytes (name, behind) name_is in ap texts s.parts ∙ texts_text name behind s.no_zero

  pub no_value : string_at behind ≡ None → settings_of bytes ≡ []
  no_value none = ap pairs (one ∙ ap (λ l. name ∷ l) (texts_none behind none))

  pub both : (value rest : List ℕ) → string_at behind ≡ Some (value, rest)
      → (bytes ≡ spelled (setting name value) ++ rest) × ((more : List ℕ) → settings_of (spelled (setting name value) ++ more) ≡ setting name value ∷ settings_of more)
  both value rest value_is =
      let first = string_takes bytes (name, behind) name_is in
      let second = string_takes behind (value, rest) value_is in (
        string_whole bytes name behind first.parts ∙ (ap (λ l. text name ++ l) (string_whole behind value rest second.parts) ∙ sym (append_assoc (text name) (text value) rest)),
        λ more. settings_front name value more first.no_zero second.no_zero,
      )

pub none_at : (bytes : List ℕ) → string_at bytes ≡ None → settings_of bytes ≡ []
none_at bytes none = ap pairs (texts_none bytes none)

-- ---- the search for a name: settings of other names were passed

pub record Passed (name bytes rest : List ℕ) : Type 0 where
  pub front : List ℕ
  pub whole : bytes ≡ front ++ rest
  pub value : value_of name (settings_of bytes) ≡ value_of name (settings_of rest)
  pub others : (x : List ℕ) → settings_of x ≡ without name (settings_of rest) → settings_of (front ++ x) ≡ without name (settings_of bytes)

pub passed_none : (name bytes : List ℕ) → Passed name bytes bytes
passed_none name bytes = record { front = []; whole = refl; value = refl; others = λ x e. e }

value_other : (name : List ℕ) (s : Setting) (kept : List Setting) → bytes_eq s.name name ≡ false → value_of name (s ∷ kept) ≡ value_of name kept
value_other name s kept other = rw other refl

value_same : (name : List ℕ) (s : Setting) (kept : List Setting) → bytes_eq s.name name ≡ true → value_of name (s ∷ kept) ≡ Some s.value
value_same name s kept same = rw same refl

without_other : (name : List ℕ) (s : Setting) (kept : List Setting) → bytes_eq s.name name ≡ false → without name (s ∷ kept) ≡ s ∷ without name kept
without_other name s kept other = rw other refl

without_same : (name : List ℕ) (s : Setting) (kept : List Setting) → bytes_eq s.name name ≡ true → without name (s ∷ kept) ≡ kept
without_same name s kept same = rw same refl

module _ (name bytes rest : List ℕ) (p : Passed name bytes rest) where
  start_is : (start : ℕ) → start ≡ length bytes - length rest → start ≡ length p.front
  start_is start is = let whole = ap length p.whole ∙ length-append p.front rest in omega (arith, is, whole)

  pub stands_not : (start : ℕ) → start ≡ length bytes - length rest → settings_of rest ≡ [] → StandsAt name bytes start start
  stands_not start is none =
      let no : value_of name (settings_of bytes) ≡ None = p.value ∙ ap (value_of name) none in
      let whole = ap length p.whole ∙ length-append p.front rest in
      record {
        size = subst (λ (v : Option (List ℕ)). start + size_of name v ≡ start) (sym no) (omega arith);
        within = omega (arith, is, whole);
        value = subst (λ (v : Option (List ℕ)). HasValueAt bytes (start + length name + 1) v) (sym no) tt;
        others = ap settings_of (take-append-drop start bytes ∙ p.whole) ∙ p.others rest (none ∙ sym (ap (without name) none));
      }

  module _ (s : Setting) (behind : List ℕ) (stands : rest ≡ spelled s ++ behind) (read : (more : List ℕ) → settings_of (spelled s ++ more) ≡ s ∷ settings_of more) where
    here : settings_of rest ≡ s ∷ settings_of behind
    here = ap settings_of stands ∙ read behind

    pub passed_one : bytes_eq s.name name ≡ false → Passed name bytes behind
    passed_one other = record {
      front = p.front ++ spelled s;
      whole = p.whole ∙ (ap (λ l. p.front ++ l) stands ∙ sym (append_assoc p.front (spelled s) behind));
      value = p.value ∙ (ap (value_of name) here ∙ value_other name s (settings_of behind) other);
      others = λ x e. ap settings_of (append_assoc p.front (spelled s) x)
          ∙ p.others (spelled s ++ x) (read x ∙ (ap (λ l. s ∷ l) e ∙ (sym (without_other name s (settings_of behind) other) ∙ sym (ap (without name) here))));
    }

    length_rest : length rest ≡ length (spelled s) + length behind
    length_rest = ap length stands ∙ length-append (spelled s) behind

    pub fewer : length behind < length rest
    fewer = let more = length_rest in let two = length-append (text s.name) (text s.value) in let one = length-append s.value (0 ∷ []) in omega (arith, more, two, one)

    whole_is : bytes ≡ p.front ++ (spelled s ++ behind)
    whole_is = p.whole ∙ ap (λ l. p.front ++ l) stands

    value_stands : (at : ℕ) → at ≡ length p.front + length s.name + 1 → take (length s.value) (drop at bytes) ≡ s.value
    value_stands at is =
        let joined = append_assoc (text s.name) (text s.value) behind in
        let name_len : length (text s.name) ≡ length s.name + 1 = length-append s.name (0 ∷ []) in
        let at_is : at ≡ length p.front + (length (text s.name) + 0) = omega (arith, is, name_len) in
        let gone = ap (λ l. drop at l) whole_is ∙ (ap (λ n. drop n (p.front ++ (spelled s ++ behind))) at_is ∙ (drop-append-add p.front (spelled s ++ behind) (length (text s.name) + 0)
        ∙ (ap (drop (length (text s.name) + 0)) joined ∙ drop-append-add (text s.name) (text s.value ++ behind) 0))) in
        ap (take (length s.value)) (gone ∙ append_assoc s.value (0 ∷ []) behind) ∙ take-append_seam s.value (0 ∷ behind)

    front_is : (start : ℕ) → start ≡ length p.front → take start bytes ≡ p.front
    front_is start is = ap (λ n. take n bytes) is ∙ (ap (take (length p.front)) p.whole ∙ take-append_seam p.front rest)

    behind_is : (end : ℕ) → end ≡ length bytes - length behind → drop end bytes ≡ behind
    behind_is end is =
        let whole = whole_is ∙ sym (append_assoc p.front (spelled s) behind) in
        let size = ap length whole ∙ length-append (p.front ++ spelled s) behind in
        let end_is : end ≡ length (p.front ++ spelled s) = omega (arith, is, size) in
        ap (λ n. drop n bytes) end_is ∙ (ap (drop (length (p.front ++ spelled s))) whole ∙ drop-append_seam (p.front ++ spelled s) behind)

    pub stands_here : (start end : ℕ) → start ≡ length bytes - length rest → end ≡ length bytes - length behind → bytes_eq s.name name ≡ true → StandsAt name bytes start end
    stands_here start end is end_is same =
        let named : s.name ≡ name = (bytes_eq-Decides s.name name).0 same in
        let has : value_of name (settings_of bytes) ≡ Some s.value = p.value ∙ (ap (value_of name) here ∙ value_same name s (settings_of behind) same) in
        let first = start_is start is in
        let whole = ap length p.whole ∙ length-append p.front rest in
        let more = length_rest in
        let sized : length (spelled (setting name s.value)) ≡ length (spelled s) = ap (λ n. length (spelled (setting n s.value))) (sym named) in
        let named_len : length s.name ≡ length name = ap length named in
        record {
          size = subst (λ (v : Option (List ℕ)). start + size_of name v ≡ end) (sym has) (omega (arith, is, end_is, whole, more, sized));
          within = omega (arith, end_is);
          value = subst (λ (v : Option (List ℕ)). HasValueAt bytes (start + length name + 1) v) (sym has) (value_stands (start + length name + 1) (omega (arith, first, named_len)));
          others = ap settings_of (ap (λ l. l ++ drop end bytes) (front_is start first) ∙ ap (λ l. p.front ++ l) (behind_is end end_is))
              ∙ p.others behind (sym (ap (without name) here ∙ without_same name s (settings_of behind) same));
        }

-- ---- the value of the setting that was found

module _ (name room : List ℕ) (len start end at : ℕ) (at_is : at ≡ start + length name + 1) where
  abbrev pub bytes : List ℕ
  bytes = take len room

  abbrev pub IsFound : Option (List ℕ) → Type 0
  IsFound v = (v ≡ Some (take (end - 1 - at) (drop at room))) × (at + (end - 1 - at) ≤ length room)

  inside : (value : List ℕ) → at + length value < length bytes → take (length value) (drop at bytes) ≡ value → take (length value) (drop at room) ≡ value
  inside value within is =
      let size = length-take len room in
      let from : len ≡ at + (len - at) = omega (arith, within, size) in
      let cut = ap (λ n. drop at (take n room)) from ∙ drop-take at (len - at) room in
      sym (take-take (length value) (len - at) (drop at room) (omega (arith, within, size))) ∙ (sym (ap (take (length value)) cut) ∙ is)

  found_by : (v : Option (List ℕ)) → start + size_of name v ≡ end → end < suc (length bytes) → HasValueAt bytes (start + length name + 1) v → start ≢ end → IsFound v
  found_by None size within has other = absurd (other (omega (arith, size)))
  found_by (Some value) size within has other =
      let two = length-append (text name) (text value) in
      let one = length-append name (0 ∷ []) in
      let last = length-append value (0 ∷ []) in
      let cut = length-take len room in
      let count : end - 1 - at ≡ length value = omega (arith, at_is, size, two, one, last) in
      let stands = inside value (omega (arith, at_is, size, two, one, last, within)) (subst (λ n. take (length value) (drop n bytes) ≡ value) (sym at_is) has) in
      (ap (λ (l : List ℕ). Some l) (sym (ap (λ n. take n (drop at room)) count ∙ stands)), omega (arith, count, at_is, size, two, one, last, within, cut))

  none_by : (v : Option (List ℕ)) → start + size_of name v ≡ end → start ≡ end → v ≡ None
  none_by None size same = refl
  none_by (Some value) size same = let two = length-append (text name) (text value) in let one = length-append name (0 ∷ []) in absurd (omega (arith, size, same, two, one))

  pub value_found : StandsAt name bytes start end → start ≢ end → IsFound (value_of name (settings_of bytes))
  value_found s other = found_by (value_of name (settings_of bytes)) s.size s.within s.value other

  pub value_not_found : StandsAt name bytes start end → start ≡ end → value_of name (settings_of bytes) ≡ None
  value_not_found s same = none_by (value_of name (settings_of bytes)) s.size same

-- ---- changes

pub rotated_end : (room ys : List ℕ) (start end len : ℕ) → len ≤ length room → start ≤ end → end ≤ len
    → ys ≡ drop (end - start) (mid_of start (len - start) room) ++ take (end - start) (mid_of start (len - start) room)
    → take (len - (end - start)) (put_mid start (len - start) room ys) ≡ take start room ++ drop end (take len room)
rotated_end room ys start end len fits ordered within is =
    let front : List ℕ = take start room in
    let mid : List ℕ = mid_of start (len - start) room in
    let post : List ℕ = post_of start (len - start) room in
    let more : List ℕ = drop (end - start) mid in
    let gone : List ℕ = take (end - start) mid in
    let front_len : length front ≡ start = length-take-le start room (omega (arith, ordered, within, fits)) in
    let cut : len ≡ start + (len - start) = omega (arith, ordered, within) in
    let mid_is : mid ≡ drop start (take len room) = sym (ap (λ n. drop start (take n room)) cut ∙ drop-take start (len - start) room) in
    let all_len : length (take len room) ≡ len = length-take-le len room fits in
    let back : start + (end - start) ≡ end = omega (arith, ordered) in
    let more_is : more ≡ drop end (take len room) = ap (drop (end - start)) mid_is ∙ (drop-drop (end - start) start (take len room) ∙ ap (λ n. drop n (take len room)) back) in
    let more_len : length more ≡ len - end = ap length more_is ∙ (length-drop end (take len room) ∙ ap (λ n. n - end) all_len) in
    let whole : put_mid start (len - start) room ys ≡ (front ++ more) ++ (gone ++ post) =
    ap (λ l. front ++ (l ++ post)) is ∙ (ap (λ l. front ++ l) (append_assoc more gone post) ∙ sym (append_assoc front more (gone ++ post))) in
    let count : len - (end - start) ≡ length (front ++ more) = let both = length-append front more in omega (arith, both, front_len, more_len, ordered, within) in
    ap (λ l. take (len - (end - start)) l) whole ∙ (ap (λ n. take n ((front ++ more) ++ (gone ++ post))) count ∙ (take-append_seam (front ++ more) (gone ++ post) ∙ ap (λ l. front ++ l) more_is))

pub text_put : (room written ys : List ℕ) (at end : ℕ) → end ≡ at + length written → end + 1 ≤ length room → ys ≡ written
    → take (end + 1) (slice_set (put_mid at (end - at) room ys) end 0) ≡ take at room ++ text written
text_put room written ys at end end_is fits is =
    let size : length ys ≡ length written = ap length is in
    let part = mid_len at end room (omega (arith, fits)) in
    let long : length (put_mid at (end - at) room ys) ≡ length room = same_len_mid at (end - at) room ys (omega (arith, size, part, end_is)) in
    take_more_set (put_mid at (end - at) room ys) end 0 (omega (arith, fits, long))
    ∙ (ap (λ l. l ++ 0 ∷ []) (take-put_mid at (end - at) room ys end (omega (arith, size, end_is)) (omega (arith, fits, end_is)) ∙ ap (λ l. take at room ++ l) is) ∙ append_assoc (take at room) written (0 ∷ []))

-- a setting that isn't too long has room, where its former value is gone
pub has_room : (p : PgpSettings) (s : Setting) (len room : ℕ) → p.room.now ≢ [] → ¬ IsFull p (ParameterStatus s) → len + size_of s.name (value_of s.name (kept_in p)) ≡ length (kept_bytes p)
    → room ≡ length p.room.now → len + length (spelled s) ≤ room
has_room p s len room some fits len_is room_is =
    let no : ¬ (length p.room.now + size_of s.name (value_of s.name (kept_in p)) < length (spelled s) + length (kept_bytes p)) = λ full. fits (some, full) in
    omega (arith, len_is, room_is, no)

pub not_empty : (l : List ℕ) → (length l == 0) ≡ false → l ≢ []
not_empty [] e = absurd cc
not_empty (x ∷ l) e = λ no. absurd cc

pub some_given : (n : ℕ) (x a b : List Setting) → (n == 0) ≡ false → x ≡ b → x ≡ (if n == 0 then a else b)
some_given n x a b some is = rw some is

module _ (name value b0 r1 r2 r3 : List ℕ) (len middle end : ℕ) (middle_is : middle ≡ len + length name + 1) (end_is : end ≡ middle + length value + 1) where
  pub front_put : length (take len b0) ≡ len → HasNoZero name → HasNoZero value → take middle r1 ≡ take len b0 ++ text name → take end r2 ≡ take middle r1 ++ text value
      → take end r3 ≡ drop len (take end r2) ++ take len r2 → settings_of (take end r3) ≡ setting name value ∷ settings_of (take len b0)
  front_put size n v first second turned =
      let kept : List ℕ = take len b0 in
      let all : take end r2 ≡ kept ++ spelled (setting name value) = second ∙ (ap (λ l. l ++ text value) first ∙ append_assoc kept (text name) (text value)) in
      let behind : drop len (take end r2) ≡ spelled (setting name value) = ap (drop len) all ∙ (ap (λ n. drop n (kept ++ spelled (setting name value))) (sym size) ∙ drop-append_seam kept (spelled (setting name value))) in
      let front : take len r2 ≡ kept = sym (take-take len end r2 (omega (arith, middle_is, end_is))) ∙ (ap (take len) all ∙ (ap (λ n. take n (kept ++ spelled (setting name value))) (sym size) ∙ take-append_seam kept (spelled (setting name value)))) in
      ap settings_of (turned ∙ (ap (λ l. l ++ take len r2) behind ∙ ap (λ l. spelled (setting name value) ++ l) front)) ∙ settings_front name value kept n v

-- ---- the law of settings

value_kept : (name other : List ℕ) (kept : List Setting) → bytes_eq other name ≡ false → value_of name (without other kept) ≡ value_of name kept
value_kept name other [] e = refl
value_kept name other (x ∷ kept) e = elim (cases_Bool (bytes_eq x.name other)) [
  | inl same ↦ ap (value_of name) (without_same other x kept same) ∙ sym (value_other name x kept (subst (λ n. bytes_eq n name ≡ false) (sym ((bytes_eq-Decides x.name other).0 same)) e))
  | inr differs ↦ ap (value_of name) (without_other other x kept differs) ∙ elim (cases_Bool (bytes_eq x.name name)) [
    | inl here ↦ value_same name x (without other kept) here ∙ sym (value_same name x kept here)
    | inr elsewhere ↦ value_other name x (without other kept) elsewhere ∙ (value_kept name other kept e ∙ sym (value_other name x kept elsewhere))
  ]
]

last_of : (s : Setting) (kept : List Setting) (name : List ℕ) → value_of name (s ∷ without s.name kept) ≡ (if bytes_eq s.name name then Some s.value else value_of name kept)
last_of s kept name = elim (cases_Bool (bytes_eq s.name name)) [
  | inl here ↦ rw here refl
  | inr elsewhere ↦ rw elsewhere (value_kept name s.name kept elsewhere)
]

pub last_value : (given : ℕ) (s : Setting) (kept : List Setting) (name : List ℕ) → given ≢ 0 → value_of name (settled given (ParameterStatus s) kept) ≡ (if bytes_eq s.name name then Some s.value else value_of name kept)
last_value given s kept name some = ap (value_of name) (sym (some_given given (s ∷ without s.name kept) kept (s ∷ without s.name kept) (ne_eqb given 0 some) refl)) ∙ last_of s kept name
