-- What `read_first` reads is a server's first text, and what it rejects has the fault that is named.
use Rattle.pgp_auth.proofs.Common.{◌≡◌, ◌≢◌, ◌^◌, ◌==◌, ℕ, ◌-◌, ◌<◌, Bool, true, false, List, [], ◌∷◌, ◌++◌, length, codes, refl, sym, ap, ◌∙◌, arith, append-nil, cond, subst, take-append-drop, eqb-true, ltb-true, nat_tests, prefix_len, AllPass, Result, Ok, Err, Fault, number, is_digit, is_nonce_char, is_base64_char, NamesCount, ServerFirst, Part, Run, word, Begins, here, character, run, Refusal, place, unexpected, server_first_parts, InvalidNumber, Trailing, ◌>>=◌, expected, count_of, ended, front_of, rest_of, read_first, FirstParts, refusal_of}
use Rattle.std.proofs.Common.{nat_lt}
use Rattle.pgp_auth.specs.declared.scram.reading.Fault.TheVariants as faults
use Rattle.pgp_auth.proofs.Patterns.{Scan, scan, scan_of, begun_scan}
use Rattle.pgp_auth.proofs.Runs.{front_passes, run_stops, run_ends}

-- both steps of a chain that is Ok, for what follows from both
pub from_bind : {A B E : Type 0} (P : Type 0) (r : Result A E) (f : A → Result B E) (y : B) → (r >>= f) ≡ Ok y
    → ((x : A) → r ≡ Ok x → f x ≡ Ok y → P) → P
from_bind P (Ok x) f y h k = k x refl h
from_bind P (Err e) f y h k = cc

-- the first or the second step of a chain that is rejected
pub fault_bind : {A B E : Type 0} (P : Type 0) (r : Result A E) (f : A → Result B E) (e : E) → (r >>= f) ≡ Err e
    → (r ≡ Err e → P) → ((x : A) → r ≡ Ok x → f x ≡ Err e → P) → P
fault_bind P (Ok x) f e h k l = l x refl h
fault_bind P (Err d) f e h k l =
    let same : d ≡ e = cc in
    k (rw same refl)

pub bind_is : {A B E : Type 0} (r : Result A E) (f : A → Result B E) (x : A) → r ≡ Ok x → (r >>= f) ≡ f x
bind_is r f x e = rw e refl

-- the branch that is Ok
pub cond_ok : {A E : Type 0} (b : Bool) (x : Result A E) (e : E) (y : A) → cond b x (Err e) ≡ Ok y → (b ≡ true) × (x ≡ Ok y)
cond_ok true x e y h = (refl, h)
cond_ok false x e y h = cc

-- ---- the steps

pub expected-ok : (n : ℕ) (want s r : List ℕ) → expected n want s ≡ Ok r → s ≡ want ++ r
unfolding expected
expected-ok n [] s r h = cc
expected-ok n (w ∷ ws) [] r h = cc
expected-ok n (w ∷ ws) (b ∷ s) r h =
    let took = cond_ok (b == w) (expected n ws s) _ r h in
    let same : b ≡ w = eqb-true b w took.0 in
    let more = expected-ok n ws s r took.1 in
    rw (same, more) refl

pub expected-append : (n : ℕ) (want r : List ℕ) → expected n want (want ++ r) ≡ Ok r
unfolding expected
expected-append n [] r = refl
expected-append n (w ∷ ws) r =
    let same : (w == w) ≡ true = grind (arith, nat_tests) in
    rw same (expected-append n ws r)

pub ended-ok : (n : ℕ) (s : List ℕ) (x : Unit {0}) → ended n s ≡ Ok x → s ≡ []
unfolding ended
ended-ok n [] x h = refl
ended-ok n (b ∷ s) x h = cc

pub ended-err : (n : ℕ) (s : List ℕ) (f : Fault) → ended n s ≡ Err f → (s ≢ []) × (refusal_of f ≡ Trailing (n - length s))
unfolding ended
ended-err n [] f h = cc
ended-err n (b ∷ s) f h =
    let same : faults.Trailing (n - length (b ∷ s)) ≡ f = cc in
    (λ e. cc, ap refusal_of (sym same))

pub count_of-ok : (ds : List ℕ) (i : ℕ) → count_of ds ≡ Ok i → NamesCount ds i
unfolding count_of
count_of-ok [] i h = cc
count_of-ok (d ∷ ds) i h =
    let some_ : (length (d ∷ ds) == 0) ≡ false = grind (arith, nat_tests) in
    let took = cond_ok (nat_lt (number (d ∷ ds)) (2 ^ 32)) (Ok (number (d ∷ ds))) _ i (rw some_ at h) in
    let value : number (d ∷ ds) ≡ i = cc in
    let below : number (d ∷ ds) < 2 ^ 32 = ltb-true _ _ took.0 in
    record { some = omega arith; count_is = value; fits = omega arith }

pub count_of-is : (ds : List ℕ) (i : ℕ) → NamesCount ds i → count_of ds ≡ Ok i
unfolding count_of
count_of-is ds i names =
    let is = names.count_is in
    let fits = names.fits in
    let have = names.some in
    let some_ : (length ds == 0) ≡ false = grind (arith, nat_tests) in
    let under : nat_lt i (2 ^ 32) ≡ true = grind (arith, nat_tests) in
    rw (some_, is, under) refl

count_faults : (b c : Bool) (i : ℕ) (f : Fault) → cond b (Err faults.InvalidNumber) (cond c (Ok i) (Err faults.InvalidNumber)) ≡ Err f → f ≡ faults.InvalidNumber
count_faults true c i f h = cc
count_faults false true i f h = cc
count_faults false false i f h = cc

ok_not_err : {A E : Type 0} (r : Result A E) (x : A) (e : E) → r ≡ Ok x → r ≡ Err e → ⊥
ok_not_err r x e a b = cc

count_of-err : (ds : List ℕ) (f : Fault) → count_of ds ≡ Err f → ((i : ℕ) → ¬ NamesCount ds i) × (refusal_of f ≡ InvalidNumber)
unfolding count_of
count_of-err ds f h =
    let same : f ≡ faults.InvalidNumber = count_faults (length ds == 0) (nat_lt (number ds) (2 ^ 32)) (number ds) f h in
    (λ i names. ok_not_err (count_of ds) i f (count_of-is ds i names) h, ap refusal_of same)

-- ---- what is read stands in the text

parts_joined : (t a b c : List ℕ) (i : ℕ) → t ≡ codes "r=" ++ a → rest_of is_nonce_char a ≡ codes ",s=" ++ b
    → rest_of is_base64_char b ≡ codes ",i=" ++ c → count_of (front_of is_digit c) ≡ Ok i → rest_of is_digit c ≡ []
    → ServerFirst t (front_of is_nonce_char a) (front_of is_base64_char b) i
parts_joined t a b c i t_is a_is b_is num c_is =
    let a_all : front_of is_nonce_char a ++ rest_of is_nonce_char a ≡ a = take-append-drop (prefix_len is_nonce_char a) a in
    let b_all : front_of is_base64_char b ++ rest_of is_base64_char b ≡ b = take-append-drop (prefix_len is_base64_char b) b in
    let c_all : front_of is_digit c ++ rest_of is_digit c ≡ c = take-append-drop (prefix_len is_digit c) c in
    let a_joined = rw a_is at a_all in
    let b_joined = rw b_is at b_all in
    let c_joined = rw (c_is, append-nil) at c_all in
    record {
      digits = front_of is_digit c;
      text_is = rw (c_joined, b_joined, a_joined) t_is;
      nonce_chars = front_passes is_nonce_char a;
      salt_chars = front_passes is_base64_char b;
      digit_chars = front_passes is_digit c;
      names = count_of-ok (front_of is_digit c) i num;
    }

abbrev taken : FirstParts → Result FirstParts Fault
taken q = Ok q

read_last : (t : List ℕ) (p : FirstParts) (a b c : List ℕ) (i : ℕ) (u : Unit {0}) → expected (length t) (codes "r=") t ≡ Ok a
    → expected (length t) (codes ",s=") (rest_of is_nonce_char a) ≡ Ok b → expected (length t) (codes ",i=") (rest_of is_base64_char b) ≡ Ok c
    → count_of (front_of is_digit c) ≡ Ok i → ended (length t) (rest_of is_digit c) ≡ Ok u
    → taken (record { nonce = front_of is_nonce_char a; salt_text = front_of is_base64_char b; count = i }) ≡ Ok p → ServerFirst t p.nonce p.salt_text p.count
read_last t p a b c i u ea eb ec ei eu same =
    let made = parts_joined t a b c i (expected-ok (length t) (codes "r=") t a ea) (expected-ok (length t) (codes ",s=") _ b eb)
    (expected-ok (length t) (codes ",i=") _ c ec) ei (ended-ok (length t) _ u eu) in
    let q : FirstParts = record { nonce = front_of is_nonce_char a; salt_text = front_of is_base64_char b; count = i } in
    let e : q ≡ p = cc in
    let P : FirstParts → Type 0 = λ q. ServerFirst t q.nonce q.salt_text q.count in
    subst P e made

pub read_first-sound : (t : List ℕ) (p : FirstParts) → read_first t ≡ Ok p → ServerFirst t p.nonce p.salt_text p.count
unfolding read_first
read_first-sound t p h =
    let Q : Type 0 = ServerFirst t p.nonce p.salt_text p.count in
    from_bind Q (expected (length t) (codes "r=") t) _ p h
    (λ a ea h1. from_bind Q (expected (length t) (codes ",s=") (rest_of is_nonce_char a)) _ p h1
    (λ b eb h2. from_bind Q (expected (length t) (codes ",i=") (rest_of is_base64_char b)) _ p h2
    (λ c ec h3. from_bind Q (count_of (front_of is_digit c)) _ p h3
    (λ i ei h4. from_bind Q (ended (length t) (rest_of is_digit c)) _ p h4
    (λ u eu h5. read_last t p a b c i u ea eb ec ei eu h5)))))

-- ---- what stands in the text is read

-- `read_first`, of a text of n bytes
abbrev read_from : ℕ → List ℕ → Result FirstParts Fault
read_from n s = do
  a ← expected n (codes "r=") s
  b ← expected n (codes ",s=") (rest_of is_nonce_char a)
  c ← expected n (codes ",i=") (rest_of is_base64_char b)
  i ← count_of (front_of is_digit c)
  _ ← ended n (rest_of is_digit c)
  Ok (record { nonce = front_of is_nonce_char a; salt_text = front_of is_base64_char b; count = i })

from_complete : (len : ℕ) (n s digits : List ℕ) (i : ℕ) → AllPass is_nonce_char n → AllPass is_base64_char s → AllPass is_digit digits → NamesCount digits i
    → read_from len (codes "r=" ++ (n ++ (codes ",s=" ++ (s ++ (codes ",i=" ++ digits))))) ≡ Ok (record { nonce = n; salt_text = s; count = i })
unfolding ended
from_complete len n s digits i np sp dp names =
    let two_is : List ℕ = s ++ (codes ",i=" ++ digits) in
    let one_is : List ℕ = n ++ (codes ",s=" ++ two_is) in
    let one = run_stops is_nonce_char n 44 (codes "s=" ++ two_is) np refl in
    let two = run_stops is_base64_char s 44 (codes "i=" ++ digits) sp refl in
    let three = run_ends is_digit digits dp in
    let e1 = expected-append len (codes "r=") one_is in
    let e2 = expected-append len (codes ",s=") two_is in
    let e3 = expected-append len (codes ",i=") digits in
    let e4 : count_of digits ≡ Ok i = count_of-is digits i names in
    bind_is _ _ _ e1 ∙ (rw (one.1, one.0) (bind_is _ _ _ e2 ∙ (rw (two.1, two.0) (bind_is _ _ _ e3 ∙ (rw (three.0, three.1) (bind_is _ _ _ e4))))))

abbrev count_of_ok : Result FirstParts Fault → ℕ
count_of_ok (Ok p) = p.count
count_of_ok (Err f) = 0

pub read_first-complete : (t n s : List ℕ) (i : ℕ) → ServerFirst t n s i → read_first t ≡ Ok (record { nonce = n; salt_text = s; count = i })
unfolding read_first
read_first-complete t n s i f =
    let whole = from_complete (length t) n s f.digits i f.nonce_chars f.salt_chars f.digit_chars f.names in
    let P : List ℕ → Type 0 = λ x. read_from (length t) x ≡ Ok (record { nonce = n; salt_text = s; count = i }) in
    subst P (sym f.text_is) whole

-- a text has one count
pub one_count : (t n s m r : List ℕ) (i j : ℕ) → ServerFirst t n s i → ServerFirst t m r j → i ≡ j
one_count t n s m r i j f g =
    let same : Ok (record { nonce = n; salt_text = s; count = i }) ≡ Ok (record { nonce = m; salt_text = r; count = j }) = sym (read_first-complete t n s i f) ∙ read_first-complete t m r j g in
    ap count_of_ok same

-- ---- the faults

-- a word that stands there is passed
pub word_scan : (n : ℕ) (want s r : List ℕ) (parts : List Part) → expected n want s ≡ Ok r → scan (word want ++ parts) s ≡ scan parts r
unfolding scan expected
word_scan n [] s r parts h =
    let same : s ≡ r = cc in
    rw same refl
word_scan n (w ∷ ws) [] r parts h = cc
word_scan n (w ∷ ws) (b ∷ s) r parts h =
    let took = cond_ok (b == w) (expected n ws s) _ r h in
    rw took.0 (word_scan n ws s r parts took.1)

-- one that doesn't is left
pub record LeavesWord (n : ℕ) (want s : List ℕ) (parts : List Part) (f : Fault) : Type 0 where
  pub rest : List ℕ
  pub scanned : scan (word want ++ parts) s ≡ Err rest
  pub fault : refusal_of f ≡ unexpected (n - length rest) rest

word_cases : (b : Bool) (n w : ℕ) (ws s : List ℕ) (c : ℕ) (parts : List Part) (f : Fault) → (c == w) ≡ b
    → cond b (expected n ws s) (Err (faults.UnexpectedCharacter (n - length (c ∷ s)))) ≡ Err f
    → (expected n ws s ≡ Err f → LeavesWord n ws s parts f) → LeavesWord n (w ∷ ws) (c ∷ s) parts f
unfolding scan
word_cases true n w ws s c parts f test h again =
    let l = again h in
    record { rest = l.rest; scanned = rw test l.scanned; fault = l.fault }
word_cases false n w ws s c parts f test h again =
    let same : faults.UnexpectedCharacter (n - length (c ∷ s)) ≡ f = cc in
    record { rest = c ∷ s; scanned = rw test refl; fault = ap refusal_of (sym same) }

pub word_left : (n : ℕ) (want s : List ℕ) (parts : List Part) (f : Fault) → expected n want s ≡ Err f → LeavesWord n want s parts f
unfolding scan expected
word_left n [] s parts f h = cc
word_left n (w ∷ ws) [] parts f h =
    let same : faults.UnexpectedEnd ≡ f = cc in
    record { rest = []; scanned = refl; fault = ap refusal_of (sym same) }
word_left n (w ∷ ws) (c ∷ s) parts f h = word_cases (c == w) n w ws s c parts f refl h (word_left n ws s parts f)

abbrev parts_three : List Part
parts_three = word (codes ",i=") ++ Run is_digit ∷ []

abbrev parts_two : List Part
parts_two = word (codes ",s=") ++ (Run is_base64_char ∷ parts_three)

-- why the parts aren't there, or name no count, or aren't all
pub data FirstFault (s : List ℕ) : Refusal → Type 0 where
  left : {rest : List ℕ} → scan server_first_parts s ≡ Err rest → FirstFault s (unexpected (place s rest) rest)
  uncounted : {n t d rest : List ℕ} → scan server_first_parts s ≡ scan_of (n ∷ t ∷ d ∷ []) rest → ((i : ℕ) → ¬ NamesCount d i)
      → FirstFault s InvalidNumber
  further : {n t d rest : List ℕ} {i : ℕ} → scan server_first_parts s ≡ scan_of (n ∷ t ∷ d ∷ []) rest → NamesCount d i → rest ≢ []
      → FirstFault s (Trailing (place s rest))

abbrev FaultOf : List ℕ → Fault → Type 0
FaultOf s f = FirstFault s (refusal_of f)

left_one : (s : List ℕ) (f : Fault) → expected (length s) (codes "r=") s ≡ Err f → FaultOf s f
left_one s f e =
    let l = word_left (length s) (codes "r=") s (Run is_nonce_char ∷ parts_two) f e in
    rw l.fault (left l.scanned)

left_two : (s a : List ℕ) (f : Fault) → expected (length s) (codes "r=") s ≡ Ok a
    → expected (length s) (codes ",s=") (rest_of is_nonce_char a) ≡ Err f → FaultOf s f
unfolding scan
left_two s a f ea e =
    let l = word_left (length s) (codes ",s=") (rest_of is_nonce_char a) (Run is_base64_char ∷ parts_three) f e in
    let one = word_scan (length s) (codes "r=") s a (Run is_nonce_char ∷ parts_two) ea in
    let all : scan server_first_parts s ≡ Err l.rest = rw l.scanned at one in
    rw l.fault (left all)

left_three : (s a b : List ℕ) (f : Fault) → expected (length s) (codes "r=") s ≡ Ok a
    → expected (length s) (codes ",s=") (rest_of is_nonce_char a) ≡ Ok b
    → expected (length s) (codes ",i=") (rest_of is_base64_char b) ≡ Err f → FaultOf s f
unfolding scan
left_three s a b f ea eb e =
    let l = word_left (length s) (codes ",i=") (rest_of is_base64_char b) (Run is_digit ∷ []) f e in
    let one = word_scan (length s) (codes "r=") s a (Run is_nonce_char ∷ parts_two) ea in
    let two = word_scan (length s) (codes ",s=") (rest_of is_nonce_char a) b (Run is_base64_char ∷ parts_three) eb in
    let all : scan server_first_parts s ≡ Err l.rest = rw (two, l.scanned) at one in
    rw l.fault (left all)

scan_all : (s a b c : List ℕ) → expected (length s) (codes "r=") s ≡ Ok a
    → expected (length s) (codes ",s=") (rest_of is_nonce_char a) ≡ Ok b
    → expected (length s) (codes ",i=") (rest_of is_base64_char b) ≡ Ok c
    → scan server_first_parts s ≡ scan_of (front_of is_nonce_char a ∷ front_of is_base64_char b ∷ front_of is_digit c ∷ []) (rest_of is_digit c)
unfolding scan
scan_all s a b c ea eb ec =
    let one = word_scan (length s) (codes "r=") s a (Run is_nonce_char ∷ parts_two) ea in
    let two = word_scan (length s) (codes ",s=") (rest_of is_nonce_char a) b (Run is_base64_char ∷ parts_three) eb in
    let three = word_scan (length s) (codes ",i=") (rest_of is_base64_char b) c (Run is_digit ∷ []) ec in
    rw (two, three) at one

not_counted : (s a b c : List ℕ) (f : Fault) → expected (length s) (codes "r=") s ≡ Ok a
    → expected (length s) (codes ",s=") (rest_of is_nonce_char a) ≡ Ok b
    → expected (length s) (codes ",i=") (rest_of is_base64_char b) ≡ Ok c
    → count_of (front_of is_digit c) ≡ Err f → FaultOf s f
not_counted s a b c f ea eb ec e =
    let none = count_of-err (front_of is_digit c) f e in
    rw none.1 (uncounted (scan_all s a b c ea eb ec) none.0)

not_ended : (s a b c : List ℕ) (i : ℕ) (f : Fault) → expected (length s) (codes "r=") s ≡ Ok a
    → expected (length s) (codes ",s=") (rest_of is_nonce_char a) ≡ Ok b
    → expected (length s) (codes ",i=") (rest_of is_base64_char b) ≡ Ok c
    → count_of (front_of is_digit c) ≡ Ok i → ended (length s) (rest_of is_digit c) ≡ Err f → FaultOf s f
not_ended s a b c i f ea eb ec ei e =
    let some_ = ended-err (length s) (rest_of is_digit c) f e in
    rw some_.1 (further (scan_all s a b c ea eb ec) (count_of-ok (front_of is_digit c) i ei) some_.0)

ok_err : (x : FirstParts) (e : Fault) → taken x ≡ Err e → ⊥
ok_err x e h = cc

pub read_first-fault : (s : List ℕ) (f : Fault) → read_first s ≡ Err f → FirstFault s (refusal_of f)
unfolding read_first
read_first-fault s f h =
    let P : Type 0 = FirstFault s (refusal_of f) in
    fault_bind P (expected (length s) (codes "r=") s) _ f h (left_one s f)
    (λ a ea h1. fault_bind P (expected (length s) (codes ",s=") (rest_of is_nonce_char a)) _ f h1 (left_two s a f ea)
    (λ b eb h2. fault_bind P (expected (length s) (codes ",i=") (rest_of is_base64_char b)) _ f h2 (left_three s a b f ea eb)
    (λ c ec h3. fault_bind P (count_of (front_of is_digit c)) _ f h3 (not_counted s a b c f ea eb ec)
    (λ i ei h4. fault_bind P (ended (length s) (rest_of is_digit c)) _ f h4 (not_ended s a b c i f ea eb ec ei)
    (λ u eu h5. absurd (ok_err _ f h5))))))

-- the text of the parts has no fault
pub first_begins : (s n t : List ℕ) (i : ℕ) (f : ServerFirst s n t i) → Begins server_first_parts s (n ∷ t ∷ f.digits ∷ []) []
first_begins s n t i f =
    let last : Begins parts_three (codes ",i=" ++ (f.digits ++ [])) (f.digits ∷ []) [] = character (character (character (run f.digit_chars tt here))) in
    let two : Begins parts_two (codes ",s=" ++ (t ++ (codes ",i=" ++ (f.digits ++ [])))) (t ∷ f.digits ∷ []) [] = character (character (character (run f.salt_chars refl last))) in
    let all : Begins server_first_parts (codes "r=" ++ (n ++ (codes ",s=" ++ (t ++ (codes ",i=" ++ (f.digits ++ [])))))) (n ∷ t ∷ f.digits ∷ []) [] = character (character (run f.nonce_chars refl two)) in
    rw (append-nil, ← f.text_is) at all

first_scan : (s n t : List ℕ) (i : ℕ) (f : ServerFirst s n t i) → scan server_first_parts s ≡ scan_of (n ∷ t ∷ f.digits ∷ []) []
first_scan s n t i f = begun_scan (first_begins s n t i f)

abbrev digits_in : List (List ℕ) → List ℕ
digits_in (n ∷ t ∷ d ∷ more) = d
digits_in (n ∷ t ∷ []) = []
digits_in (n ∷ []) = []
digits_in [] = []

same_scan : {r : Result Scan (List ℕ)} {n t d rest n' t' d' rest' : List ℕ} → r ≡ scan_of (n ∷ t ∷ d ∷ []) rest → r ≡ scan_of (n' ∷ t' ∷ d' ∷ []) rest'
    → (d ≡ d') × (rest ≡ rest')
same_scan {n = n} {t = t} {d = d} {rest = rest} {n' = n'} {t' = t'} {d' = d'} {rest' = rest'} a b =
    let p : Scan = record { runs = n ∷ t ∷ d ∷ []; rest = rest } in
    let q : Scan = record { runs = n' ∷ t' ∷ d' ∷ []; rest = rest' } in
    let same : p ≡ q = cc in
    (ap (λ (x : Scan). digits_in x.runs) same, ap (λ (x : Scan). x.rest) same)

same_left : {r : Result Scan (List ℕ)} {rest rest' : List ℕ} → r ≡ Err rest → r ≡ Err rest' → rest ≡ rest'
same_left a b = cc

not_both : {r : Result Scan (List ℕ)} {x : Scan} {rest : List ℕ} → r ≡ Ok x → r ≡ Err rest → ⊥
not_both a b = cc

pub one_fault : {s : List ℕ} {e d : Refusal} → FirstFault s e → FirstFault s d → e ≡ d
one_fault {s = s} (left a) (left b) = rw (same_left a b) refl
one_fault (left a) (uncounted b n) = absurd (not_both b a)
one_fault (left a) (further b n m) = absurd (not_both b a)
one_fault (uncounted a n) (left b) = absurd (not_both a b)
one_fault (uncounted a n) (uncounted b m) = refl
one_fault (uncounted a none) (further {i = i} b names m) = absurd (none i (rw (sym (same_scan a b).0) at names))
one_fault (further a n m) (left b) = absurd (not_both a b)
one_fault (further {i = i} a names m) (uncounted b none) = absurd (none i (rw (same_scan a b).0 at names))
one_fault {s = s} (further a n m) (further b k l) = rw (same_scan a b).1 refl

pub no_fault : {s n t : List ℕ} {i : ℕ} {e : Refusal} → ServerFirst s n t i → FirstFault s e → ⊥
no_fault {s = s} {n = n} {t = t} {i = i} f (left a) = not_both (first_scan s n t i f) a
no_fault {s = s} {n = n} {t = t} {i = i} f (uncounted a none) = none i (rw (same_scan (first_scan s n t i f) a).0 at f.names)
no_fault {s = s} {n = n} {t = t} {i = i} f (further a names some_) = some_ (sym (same_scan (first_scan s n t i f) a).1)
