-- What a client grants meets its conditions, and what it doesn't is rejected by the first cause.
use Rattle.pgp_auth.proofs.Common.{◌≡◌, ◌≢◌, ℕ, zero, suc, ◌<◌, ◌≤◌, nat_le, nat_eq, ◌&&◌, Bool, true, false, cond, List, [], ◌∷◌, ◌++◌, length, drop, codes, get_or, refl, sym, subst, ◌∙◌, arith, inl, inr, ◌⊎◌, starts_with, AllPass, list_all, is_utf8, IsUtf8, IsAscii, cases_Bool, cases_lt, nat_tests, Decides-eqb, get_or_past, starts_is, IsAscii-append, IsUtf8-from_ascii, is_utf8-from_IsUtf8, IsUtf8-from_is_utf8, IfErr, Result, Ok, Err, standard, decode_of, DecodeError, ScramError, Fault, refusal, Shows, is_digit, is_nonce_char, is_base64_char, ServerFirst, Refusal, NotUtf8, InvalidNonce, TooManyIterations, InvalidBase64, Admitted, Meets, RefusesFirst, not_utf8, other, no_number, trailing, other_nonce, too_many, no_salt, FirstParts, AdmitsParts, read_first, Granted, grant, grant_read, grant_parts, grant_salt, refusal_of}
use Rattle.std.proofs.Common.{nat_lt}
use Rattle.pgp_auth.specs.declared.scram.error.ScramError.TheVariants as code
use Rattle.pgp_auth.proofs.FirstTexts.{cond_ok, read_first-sound, read_first-complete, read_first-fault, FirstFault, left, uncounted, further, one_fault, no_fault}
use Rattle.pgp_auth.proofs.Patterns.{scanned_begins, scanned_leaves, begun_scan, left_scan}

-- ---- what is granted

-- what a salt's text shows, where it is granted
record SaltGranted (p : FirstParts) (r : Result (List ℕ) DecodeError) (g : Granted) : Type 0 where
  shown : r ≡ Ok g.salt
  nonce : g.nonce ≡ p.nonce
  count : g.count ≡ p.count

grant_salt-ok : (p : FirstParts) (r : Result (List ℕ) DecodeError) (g : Granted) → grant_salt p r ≡ Ok g → SaltGranted p r g
grant_salt-ok p (Ok s) g h =
    let q : Granted = record { nonce = p.nonce; salt = s; count = p.count } in
    let same : q ≡ g = cc in
    let P : Granted → Type 0 = λ x. SaltGranted p (Ok s) x in
    subst P same (record { shown = refl; nonce = refl; count = refl })
grant_salt-ok p (Err e) g h = cc

record PartsGranted (c : List ℕ) (p : FirstParts) (g : Granted) : Type 0 where
  begins : starts_with nat_eq p.nonce c ≡ true
  few : p.count ≤ 100000
  salt : SaltGranted p (decode_of standard p.salt_text) g

grant_parts-ok : (c : List ℕ) (p : FirstParts) (g : Granted) → grant_parts c p ≡ Ok g → PartsGranted c p g
unfolding grant_parts
grant_parts-ok c p g h =
    let one = cond_ok (starts_with nat_eq p.nonce c) (cond (nat_le p.count 100000) (grant_salt p (decode_of standard p.salt_text)) (Err TooManyIterations)) InvalidNonce g h in
    let two = cond_ok (nat_le p.count 100000) (grant_salt p (decode_of standard p.salt_text)) TooManyIterations g one.1 in
    record { begins = one.0; few = grind (arith, nat_tests, two.0); salt = grant_salt-ok p (decode_of standard p.salt_text) g two.1 }

record ReadGranted (c m : List ℕ) (g : Granted) : Type 0 where
  text : is_utf8 m ≡ true
  parts : FirstParts
  read : read_first m ≡ Ok parts
  granted : PartsGranted c parts g

grant_read-ok : (c m : List ℕ) (r : Result FirstParts Fault) (g : Granted) → is_utf8 m ≡ true → read_first m ≡ r → grant_read c r ≡ Ok g → ReadGranted c m g
grant_read-ok c m (Ok p) g u e h = record { text = u; parts = p; read = e; granted = grant_parts-ok c p g h }
grant_read-ok c m (Err f) g u e h = cc

grant-ok : (c m : List ℕ) (g : Granted) → grant c m ≡ Ok g → ReadGranted c m g
unfolding grant
grant-ok c m g h =
    let one = cond_ok (is_utf8 m) (grant_read c (read_first m)) NotUtf8 g h in
    grant_read-ok c m (read_first m) g one.0 refl one.1

pub granted_few : (c m : List ℕ) (g : Granted) → grant c m ≡ Ok g → g.count ≤ 100000
granted_few c m g h =
    let j = grant-ok c m g h in
    let same = j.granted.salt.count in
    let few = j.granted.few in
    omega arith

begins_with : (c n : List ℕ) → starts_with nat_eq n c ≡ true → n ≡ c ++ drop (length c) n
begins_with c n h = (starts_is Decides-eqb n c (starts_with nat_eq n c) refl).0 h

begins_back : (c n rest : List ℕ) → n ≡ c ++ rest → starts_with nat_eq n c ≡ true
begins_back c n rest e = (starts_is Decides-eqb n c (starts_with nat_eq n c) refl).1 rest e

parts_meet : (c m n s : List ℕ) (i : ℕ) (p : FirstParts) → n ≡ p.nonce → i ≡ p.count → ServerFirst m p.nonce p.salt_text p.count
    → starts_with nat_eq p.nonce c ≡ true → p.count ≤ 100000 → Shows p.salt_text s → Meets c m n s i
parts_meet c m n s i p n_is i_is read begins few shown = record {
  salt_text = p.salt_text;
  more = drop (length c) n;
  text_is = rw (n_is, i_is) read;
  nonce_is = rw n_is (begins_with c p.nonce begins);
  few = rw i_is few;
  shows = shown;
}

pub granted_meets : (c m : List ℕ) (g : Granted) → grant c m ≡ Ok g → Meets c m g.nonce g.salt g.count
granted_meets c m g h =
    let j = grant-ok c m g h in
    parts_meet c m g.nonce g.salt g.count j.parts j.granted.salt.nonce j.granted.salt.count (read_first-sound m j.parts j.read) j.granted.begins j.granted.few j.granted.salt.shown

pub parts_admitted : (c m : List ℕ) (p : FirstParts) → read_first m ≡ Ok p → AdmitsParts c p → Admitted c m
parts_admitted c m p read a = record {
  nonce = p.nonce;
  salt_text = p.salt_text;
  count = p.count;
  more = drop (length c) p.nonce;
  text_is = read_first-sound m p read;
  nonce_is = begins_with c p.nonce a.0;
  few = a.1;
}

pub granted_admitted : (c m : List ℕ) (g : Granted) → grant c m ≡ Ok g → Admitted c m
granted_admitted c m g h =
    let j = grant-ok c m g h in
    parts_admitted c m j.parts j.read (j.granted.begins, j.granted.few)

-- why the parts aren't granted is why the text isn't
pub refused_parts : {A X : Type 0} (r : Result X (ScramError A)) (lacks : Type 0) (c m : List ℕ) (p : FirstParts) → is_utf8 m ≡ true → read_first m ≡ Ok p
    → IfErr r (λ e. ((e ≡ code.OutOfMemory) × lacks × AdmitsParts c p) ⊎ (grant_parts c p ≡ Err (refusal e)))
    → IfErr r (λ e. ((e ≡ code.OutOfMemory) × lacks × Admitted c m) ⊎ (grant c m ≡ Err (refusal e)))
unfolding grant
refused_parts (Ok x) lacks c m p u read h = tt
refused_parts (Err e) lacks c m p u read (inl memory) = inl (memory.0, memory.1, parts_admitted c m p read memory.2)
refused_parts (Err e) lacks c m p u read (inr cause) = inr (rw (u, read) cause)

-- ---- a server's first text is ASCII

passing_ascii : (p : ℕ → Bool) (t : List ℕ) → ((b : ℕ) → p b ≡ true → b < 128) → AllPass p t → IsAscii t
passing_ascii p t low pass = λ i. elim (cases_lt i (length t)) [
  | inl within ↦ low (get_or t i 0) (pass i 0 within)
  | inr past ↦ rw (get_or_past t i 0 past) (omega arith)
]

both_true : (x y : Bool) → (x && y) ≡ true → (x ≡ true) × (y ≡ true)
both_true true y h = (refl, h)
both_true false y h = cc

low_test : (b : ℕ) (x y : Bool) → (x && y) ≡ true → y ≡ true
low_test b true y h = h
low_test b false y h = cc

literal_ascii : (t : List ℕ) → list_all (λ b. nat_lt b 128) t ≡ true → (i : ℕ) → get_or t i 0 < 128
literal_ascii [] h i = omega arith
literal_ascii (c ∷ t) h zero = let low = both_true (nat_lt c 128) (list_all (λ b. nat_lt b 128) t) h in grind (arith, nat_tests, low.0)
literal_ascii (c ∷ t) h (suc i) = literal_ascii t (both_true (nat_lt c 128) (list_all (λ b. nat_lt b 128) t) h).1 i

digit_low : (b : ℕ) → is_digit b ≡ true → b < 128
digit_low b h =
    let top : nat_le b 57 ≡ true = low_test b (nat_le 48 b) (nat_le b 57) h in
    grind (arith, nat_tests, top)

true_is_not_false : true ≡ false → ⊥
true_is_not_false e = cc

nonce_low : (b : ℕ) → is_nonce_char b ≡ true → b < 128
nonce_low b h = elim (cases_lt b 128) [
  | inl low ↦ low
  | inr high ↦
      let a1 : nat_le 33 b ≡ true = grind (arith, nat_tests) in
      let a2 : nat_le b 43 ≡ false = grind (arith, nat_tests) in
      let b1 : nat_le 45 b ≡ true = grind (arith, nat_tests) in
      let b2 : nat_le b 126 ≡ false = grind (arith, nat_tests) in
      absurd (true_is_not_false (sym (rw (a1, a2, b1, b2) at h)))
]

not_base64 : (b : ℕ) → 128 ≤ b → is_base64_char b ≡ false
not_base64 b high =
    let a1 : nat_le 97 b ≡ true = grind (arith, nat_tests) in
    let a2 : nat_le b 122 ≡ false = grind (arith, nat_tests) in
    let b1 : nat_le 65 b ≡ true = grind (arith, nat_tests) in
    let b2 : nat_le b 90 ≡ false = grind (arith, nat_tests) in
    let c1 : nat_le 48 b ≡ true = grind (arith, nat_tests) in
    let c2 : nat_le b 57 ≡ false = grind (arith, nat_tests) in
    let d : nat_eq b 47 ≡ false = grind (arith, nat_tests) in
    let e : nat_eq b 43 ≡ false = grind (arith, nat_tests) in
    let f : nat_eq b 61 ≡ false = grind (arith, nat_tests) in
    rw (a1, a2, b1, b2, c1, c2, d, e, f) refl

pub base64_low : (b : ℕ) → is_base64_char b ≡ true → b < 128
base64_low b h = elim (cases_lt b 128) [
  | inl low ↦ low
  | inr high ↦ absurd (true_is_not_false (sym h ∙ not_base64 b high))
]

pub base64_ascii : (t : List ℕ) → AllPass is_base64_char t → IsAscii t
base64_ascii t pass = passing_ascii is_base64_char t base64_low pass

first_ascii : (n s d : List ℕ) → AllPass is_nonce_char n → AllPass is_base64_char s → AllPass is_digit d
    → IsAscii (codes "r=" ++ (n ++ (codes ",s=" ++ (s ++ (codes ",i=" ++ d)))))
first_ascii n s d np sp dp =
    let digits = passing_ascii is_digit d digit_low dp in
    let salt = base64_ascii s sp in
    let nonce = passing_ascii is_nonce_char n nonce_low np in
    let five = IsAscii-append (codes ",i=") d (λ i. literal_ascii (codes ",i=") refl i) digits in
    let four = IsAscii-append s (codes ",i=" ++ d) salt five in
    let three = IsAscii-append (codes ",s=") (s ++ (codes ",i=" ++ d)) (λ i. literal_ascii (codes ",s=") refl i) four in
    let two = IsAscii-append n (codes ",s=" ++ (s ++ (codes ",i=" ++ d))) nonce three in
    IsAscii-append (codes "r=") (n ++ (codes ",s=" ++ (s ++ (codes ",i=" ++ d)))) (λ i. literal_ascii (codes "r=") refl i) two

first_is_text : (m n s : List ℕ) (i : ℕ) → ServerFirst m n s i → is_utf8 m ≡ true
first_is_text m n s i f =
    let all = first_ascii n s f.digits f.nonce_chars f.salt_chars f.digit_chars in
    rw f.text_is (is_utf8-from_IsUtf8 _ (IsUtf8-from_ascii _ all))

-- ---- a text that meets the conditions is granted

pub meets_granted : (c m n s : List ℕ) (i : ℕ) → Meets c m n s i → grant c m ≡ Ok (record { nonce = n; salt = s; count = i })
unfolding grant grant_parts
meets_granted c m n s i g =
    let u = first_is_text m n g.salt_text i g.text_is in
    let read = read_first-complete m n g.salt_text i g.text_is in
    let begins = begins_back c n g.more g.nonce_is in
    let shown = g.shows in
    let few : nat_le i 100000 ≡ true = grind (arith, nat_tests, g.few) in
    rw (u, read, begins, few, shown) refl

-- ---- a text that isn't granted is rejected by its first cause

utf8_no : (m : List ℕ) → is_utf8 m ≡ false → ¬ IsUtf8 m
utf8_no m no_ text = true_is_not_false (sym (is_utf8-from_IsUtf8 m text) ∙ no_)

from_fault : (c m : List ℕ) (e : Refusal) → IsUtf8 m → FirstFault m e → RefusesFirst c m e
from_fault c m e u (left {rest = rest} scanned) = other u (scanned_leaves _ m rest scanned)
from_fault c m e u (uncounted {n = n} {t = t} {d = d} {rest = rest} scanned none) =
    no_number u (scanned_begins _ m rest (n ∷ t ∷ d ∷ []) scanned) none
from_fault c m e u (further {n = n} {t = t} {d = d} {rest = rest} scanned names some_) =
    trailing u (scanned_begins _ m rest (n ∷ t ∷ d ∷ []) scanned) names some_

shows_not : (r : Result (List ℕ) DecodeError) (e : DecodeError) (salt : List ℕ) → r ≡ Err e → r ≡ Ok salt → ⊥
shows_not r e salt a b = cc

abbrev refused : {A : Type 0} → Refusal → Result A Refusal
refused e = Err e

err_is : {A : Type 0} (d e : Refusal) → refused {A = A} d ≡ refused e → d ≡ e
err_is d e h = cc

salt_refused : (c m : List ℕ) (p : FirstParts) (r : Result (List ℕ) DecodeError) (e : Refusal) → decode_of standard p.salt_text ≡ r → ServerFirst m p.nonce p.salt_text p.count
    → p.nonce ≡ c ++ drop (length c) p.nonce → p.count ≤ 100000 → grant_salt p r ≡ Err e → RefusesFirst c m e
salt_refused c m p (Ok s) e is f extends few h = cc
salt_refused c m p (Err d) e is f extends few h =
    rw (← err_is InvalidBase64 e h) (no_salt (drop (length c) p.nonce) f extends few (λ salt shows. shows_not (decode_of standard p.salt_text) d salt is shows))

parts_cases : (c m : List ℕ) (p : FirstParts) (e : Refusal) (b k : Bool) → starts_with nat_eq p.nonce c ≡ b → nat_le p.count 100000 ≡ k
    → ServerFirst m p.nonce p.salt_text p.count
    → cond b (cond k (grant_salt p (decode_of standard p.salt_text)) (Err TooManyIterations)) (Err InvalidNonce) ≡ Err e → RefusesFirst c m e
parts_cases c m p e false k begins few f h =
    rw (← err_is InvalidNonce e h) (other_nonce f (λ rest extends. true_is_not_false (sym (begins_back c p.nonce rest extends) ∙ begins)))
parts_cases c m p e true false begins few f h =
    rw (← err_is TooManyIterations e h) (too_many (drop (length c) p.nonce) f (begins_with c p.nonce begins) (grind (arith, nat_tests, few)))
parts_cases c m p e true true begins few f h =
    salt_refused c m p (decode_of standard p.salt_text) e refl f (begins_with c p.nonce begins) (grind (arith, nat_tests, few)) h

grant_parts-err : (c m : List ℕ) (p : FirstParts) (e : Refusal) → ServerFirst m p.nonce p.salt_text p.count → grant_parts c p ≡ Err e → RefusesFirst c m e
unfolding grant_parts
grant_parts-err c m p e f h = parts_cases c m p e (starts_with nat_eq p.nonce c) (nat_le p.count 100000) refl refl f h

grant_read-err : (c m : List ℕ) (r : Result FirstParts Fault) (e : Refusal) → IsUtf8 m → read_first m ≡ r → grant_read c r ≡ Err e → RefusesFirst c m e
grant_read-err c m (Ok p) e u is h = grant_parts-err c m p e (read_first-sound m p is) h
grant_read-err c m (Err f) e u is h =
    rw (← err_is (refusal_of f) e h) (from_fault c m (refusal_of f) u (read_first-fault m f is))

text_cases : (c m : List ℕ) (e : Refusal) (b : Bool) → is_utf8 m ≡ b → cond b (grant_read c (read_first m)) (Err NotUtf8) ≡ Err e → RefusesFirst c m e
text_cases c m e true u h = grant_read-err c m (read_first m) e (IsUtf8-from_is_utf8 m u) refl h
text_cases c m e false u h = rw (← err_is NotUtf8 e h) (not_utf8 (utf8_no m u))

pub not_granted : (c m : List ℕ) (e : Refusal) → grant c m ≡ Err e → RefusesFirst c m e
unfolding grant
not_granted c m e h = text_cases c m e (is_utf8 m) refl h

-- ---- and by no other

utf8_false : (m : List ℕ) → ¬ IsUtf8 m → is_utf8 m ≡ false
utf8_false m no_ = elim (cases_Bool (is_utf8 m)) [
  | inl yes_ ↦ absurd (no_ (IsUtf8-from_is_utf8 m yes_))
  | inr no_text ↦ no_text
]

fault_granted : (c m : List ℕ) (e : Refusal) (r : Result FirstParts Fault) → read_first m ≡ r → FirstFault m e → grant_read c r ≡ Err e
fault_granted c m e (Ok p) is fault = absurd (no_fault (read_first-sound m p is) fault)
fault_granted c m e (Err f) is fault = rw (one_fault (read_first-fault m f is) fault) refl

from_fault_back : (c m : List ℕ) (e : Refusal) → IsUtf8 m → FirstFault m e → grant c m ≡ Err e
unfolding grant
from_fault_back c m e u fault =
    rw (is_utf8-from_IsUtf8 m u) (fault_granted c m e (read_first m) refl fault)

no_shown : (r : Result (List ℕ) DecodeError) (p : FirstParts) → ((salt : List ℕ) → ¬ (r ≡ Ok salt)) → grant_salt p r ≡ Err InvalidBase64
no_shown (Ok s) p none = absurd (none s refl)
no_shown (Err e) p none = refl

no_start : (c n : List ℕ) → ((rest : List ℕ) → n ≢ c ++ rest) → starts_with nat_eq n c ≡ false
no_start c n none = elim (cases_Bool (starts_with nat_eq n c)) [
  | inl begins ↦ absurd (none (drop (length c) n) (begins_with c n begins))
  | inr no_ ↦ no_
]

pub refused_back : (c m : List ℕ) (e : Refusal) → RefusesFirst c m e → grant c m ≡ Err e
unfolding grant grant_parts
refused_back c m e (not_utf8 no_) = rw (utf8_false m no_) refl
refused_back c m e (other {rest = rest} u leaves_) = from_fault_back c m e u (left (left_scan leaves_))
refused_back c m e (no_number {nonce = n} {salt_text = t} {digits = d} {rest = rest} u begins none) =
    from_fault_back c m e u (uncounted {n = n} {t = t} {d = d} {rest = rest} (begun_scan begins) none)
refused_back c m e (trailing {nonce = n} {salt_text = t} {digits = d} {rest = rest} u begins names some_) =
    from_fault_back c m e u (further {n = n} {t = t} {d = d} {rest = rest} (begun_scan begins) names some_)
refused_back c m e (other_nonce {nonce = n} {salt_text = t} {count = i} f none) =
    let u = first_is_text m n t i f in
    let read = read_first-complete m n t i f in
    rw (u, read, no_start c n none) refl
refused_back c m e (too_many {nonce = n} {salt_text = t} {count = i} rest f extends many) =
    let u = first_is_text m n t i f in
    let read = read_first-complete m n t i f in
    let past : nat_le i 100000 ≡ false = grind (arith, nat_tests, many) in
    rw (u, read, begins_back c n rest extends, past) refl
refused_back c m e (no_salt {nonce = n} {salt_text = t} {count = i} rest f extends few none) =
    let u = first_is_text m n t i f in
    let read = read_first-complete m n t i f in
    let low : nat_le i 100000 ≡ true = grind (arith, nat_tests, few) in
    rw (u, read, begins_back c n rest extends, low) (no_shown (decode_of standard t) (record { nonce = n; salt_text = t; count = i }) none)

pub one_refusal : (c m : List ℕ) (e d : Refusal) → RefusesFirst c m e → RefusesFirst c m d → e ≡ d
one_refusal c m e d a b = err_is e d (sym (refused_back c m e a) ∙ refused_back c m d b)

pub meets_not_refused : (c m n s : List ℕ) (i : ℕ) (e : Refusal) → Meets c m n s i → RefusesFirst c m e → ⊥
meets_not_refused c m n s i e meets refused =
    let yes_ = meets_granted c m n s i meets in
    let no_ = refused_back c m e refused in
    cc

salt_cause : (p : FirstParts) (r : Result (List ℕ) DecodeError) (e : Refusal) → grant_salt p r ≡ Err e → e ≡ InvalidBase64
salt_cause p (Ok s) e h = cc
salt_cause p (Err d) e h = sym (err_is InvalidBase64 e h)

-- an admitted text has no cause but its salt
pub admitted_cause : (c m : List ℕ) (e : Refusal) → Admitted c m → RefusesFirst c m e → e ≡ InvalidBase64
unfolding grant grant_parts
admitted_cause c m e a r =
    let u = first_is_text m a.nonce a.salt_text a.count a.text_is in
    let read = read_first-complete m a.nonce a.salt_text a.count a.text_is in
    let begins = begins_back c a.nonce a.more a.nonce_is in
    let few : nat_le a.count 100000 ≡ true = grind (arith, nat_tests, a.few) in
    let back = refused_back c m e r in
    salt_cause (record { nonce = a.nonce; salt_text = a.salt_text; count = a.count }) (decode_of standard a.salt_text) e (rw (u, read, begins, few) at back)

-- each text is answered
answer_of : (c m : List ℕ) (r : Result Granted Refusal) → grant c m ≡ r
    → ((nonce salt : List ℕ) × (count : ℕ) × Meets c m nonce salt count) ⊎ ((e : Refusal) × RefusesFirst c m e)
answer_of c m (Ok g) is = inl (g.nonce, g.salt, g.count, granted_meets c m g is)
answer_of c m (Err e) is = inr (e, not_granted c m e is)

pub answered : (c m : List ℕ) → ((nonce salt : List ℕ) × (count : ℕ) × Meets c m nonce salt count) ⊎ ((e : Refusal) × RefusesFirst c m e)
answered c m = answer_of c m (grant c m) refl
