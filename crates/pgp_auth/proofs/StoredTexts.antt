-- What `read_stored` reads is a stored verifier's text, and each such text is read.
use Rattle.pgp_auth.proofs.Common.{◌≡◌, ◌≢◌, ℕ, List, ◌++◌, length, codes, refl, sym, ap, ◌∙◌, subst, inl, inr, ◌⊎◌, ◌↔◌, IsTrue, eqb-true, eq-eqb, take-append-drop, prefix_len, AllPass, Result, Ok, Err, sha256, IsBytes, Fault, base64, Shows, mac, salted, Verifier, verifier, is_digit, is_base64_char, NamesCount, ◌>>=◌, expected, count_of, front_of, rest_of, StoredParts, read_parts, read_stored}
use Rattle.std.specs.Prelude.{◌==◌, Bool, true, false}
use Rattle.pgp_auth.specs.declared.scram.server_error.VerifierError.{VerifierError}
use Rattle.pgp_auth.specs.declared.scram.server_error.VerifierError.TheVariants.{OutOfMemory, NotAVerifier}
use Rattle.pgp_auth.specs.ScramStored.{stored_text, IsKey, Stores, StoresBut, NotStored}
use Rattle.pgp_auth.proofs.FirstTexts.{from_bind, bind_is, expected-ok, expected-append, count_of-ok, count_of-is}
use Rattle.pgp_auth.proofs.Runs.{front_passes, run_stops}
use Rattle.pgp_auth.proofs.BothWays.{base64_chars}
use Rattle.pgp_auth.proofs.ServerTexts.{shows_itself}
use Rattle.std.proofs.Common.{true≢false}

-- ---- what is read stands in the text

record StoredIn (text : List ℕ) (p : StoredParts) : Type 0 where
  digits : List ℕ
  text_is : text ≡ stored_text digits p.salt p.stored p.server
  digit_chars : AllPass is_digit digits
  names : NamesCount digits p.count
  salt_chars : AllPass is_base64_char p.salt

abbrev taken : StoredParts → Result StoredParts Fault
taken p = Ok p

pieces_joined : (t a b c d : List ℕ) (i : ℕ) → t ≡ codes "SCRAM-SHA-256$" ++ a → count_of (front_of is_digit a) ≡ Ok i → rest_of is_digit a ≡ codes ":" ++ b
    → rest_of is_base64_char b ≡ codes "$" ++ c → rest_of is_base64_char c ≡ codes ":" ++ d
    → StoredIn t (record { count = i; salt = front_of is_base64_char b; stored = front_of is_base64_char c; server = d })
pieces_joined t a b c d i t_is num a_is b_is c_is =
    let a_all : front_of is_digit a ++ rest_of is_digit a ≡ a = take-append-drop (prefix_len is_digit a) a in
    let b_all : front_of is_base64_char b ++ rest_of is_base64_char b ≡ b = take-append-drop (prefix_len is_base64_char b) b in
    let c_all : front_of is_base64_char c ++ rest_of is_base64_char c ≡ c = take-append-drop (prefix_len is_base64_char c) c in
    let a_joined = rw a_is at a_all in
    let b_joined = rw b_is at b_all in
    let c_joined = rw c_is at c_all in
    record {
      digits = front_of is_digit a;
      text_is = rw (c_joined, b_joined, a_joined) t_is;
      digit_chars = front_passes is_digit a;
      names = count_of-ok (front_of is_digit a) i num;
      salt_chars = front_passes is_base64_char b;
    }

read_last : (t : List ℕ) (p : StoredParts) (a b c d : List ℕ) (i : ℕ) → expected (length t) (codes "SCRAM-SHA-256$") t ≡ Ok a → count_of (front_of is_digit a) ≡ Ok i
    → expected (length t) (codes ":") (rest_of is_digit a) ≡ Ok b → expected (length t) (codes "$") (rest_of is_base64_char b) ≡ Ok c
    → expected (length t) (codes ":") (rest_of is_base64_char c) ≡ Ok d
    → taken (record { count = i; salt = front_of is_base64_char b; stored = front_of is_base64_char c; server = d }) ≡ Ok p → StoredIn t p
read_last t p a b c d i ea ei eb ec ed same =
    let made = pieces_joined t a b c d i (expected-ok (length t) (codes "SCRAM-SHA-256$") t a ea) ei (expected-ok (length t) (codes ":") _ b eb)
    (expected-ok (length t) (codes "$") _ c ec) (expected-ok (length t) (codes ":") _ d ed) in
    let q : StoredParts = record { count = i; salt = front_of is_base64_char b; stored = front_of is_base64_char c; server = d } in
    let e : q ≡ p = cc in
    let P : StoredParts → Type 0 = λ x. StoredIn t x in
    subst P e made

read_stored-sound : (t : List ℕ) (p : StoredParts) → read_stored t ≡ Ok p → StoredIn t p
unfolding read_stored read_parts
read_stored-sound t p h =
    let Q : Type 0 = StoredIn t p in
    from_bind Q (expected (length t) (codes "SCRAM-SHA-256$") t) _ p h
    (λ a ea h1. from_bind Q (count_of (front_of is_digit a)) _ p h1
    (λ i ei h2. from_bind Q (expected (length t) (codes ":") (rest_of is_digit a)) _ p h2
    (λ b eb h3. from_bind Q (expected (length t) (codes "$") (rest_of is_base64_char b)) _ p h3
    (λ c ec h4. from_bind Q (expected (length t) (codes ":") (rest_of is_base64_char c)) _ p h4
    (λ d ed h5. read_last t p a b c d i ea ei eb ec ed h5)))))

-- ---- what stands in the text is read

-- `read_stored`, of a text of n bytes
abbrev read_from : ℕ → List ℕ → Result StoredParts Fault
read_from n s = do
  a ← expected n (codes "SCRAM-SHA-256$") s
  i ← count_of (front_of is_digit a)
  b ← expected n (codes ":") (rest_of is_digit a)
  c ← expected n (codes "$") (rest_of is_base64_char b)
  d ← expected n (codes ":") (rest_of is_base64_char c)
  Ok (record { count = i; salt = front_of is_base64_char b; stored = front_of is_base64_char c; server = d })

from_complete : (len : ℕ) (digits salt stored server : List ℕ) (i : ℕ) → AllPass is_digit digits → AllPass is_base64_char salt → AllPass is_base64_char stored → NamesCount digits i
    → read_from len (stored_text digits salt stored server) ≡ Ok (record { count = i; salt = salt; stored = stored; server = server })
from_complete len digits salt stored server i dp sp kp names =
    let three_is : List ℕ = stored ++ (codes ":" ++ server) in
    let two_is : List ℕ = salt ++ (codes "$" ++ three_is) in
    let one_is : List ℕ = digits ++ (codes ":" ++ two_is) in
    let one = run_stops is_digit digits 58 two_is dp refl in
    let two = run_stops is_base64_char salt 36 three_is sp refl in
    let three = run_stops is_base64_char stored 58 server kp refl in
    let e1 = expected-append len (codes "SCRAM-SHA-256$") one_is in
    let e2 : count_of digits ≡ Ok i = count_of-is digits i names in
    let e3 = expected-append len (codes ":") two_is in
    let e4 = expected-append len (codes "$") three_is in
    let e5 = expected-append len (codes ":") server in
    bind_is _ _ _ e1 ∙ (rw (one.1, one.0) (bind_is _ _ _ e2 ∙ (bind_is _ _ _ e3 ∙ (rw (two.1, two.0) (bind_is _ _ _ e4 ∙ (rw (three.1, three.0) (bind_is _ _ _ e5)))))))

-- the parts of a verifier
abbrev pub parts_at : Verifier → StoredParts
parts_at v = record { count = v.count; salt = base64 v.salt; stored = base64 v.stored_key; server = base64 v.server_key }

stored_is_read : (t : List ℕ) (v : Verifier) → Stores t v → read_stored t ≡ Ok (parts_at v)
unfolding read_stored read_parts
stored_is_read t v s =
    let whole = from_complete (length t) s.digits (base64 v.salt) (base64 v.stored_key) (base64 v.server_key) v.count s.digit_chars
    (base64_chars v.salt s.salt_bytes) (base64_chars v.stored_key s.stored_key.bytes) s.names in
    let P : List ℕ → Type 0 = λ x. read_from (length t) x ≡ Ok (parts_at v) in
    subst P (sym s.text_is) whole

-- ---- what is made of the parts

same_parts : (p q : StoredParts) (r : Result StoredParts Fault) → r ≡ Ok p → r ≡ Ok q → p ≡ q
same_parts p q r a b = cc

ok_not_err : (p : StoredParts) (f : Fault) (r : Result StoredParts Fault) → r ≡ Ok p → r ≡ Err f → ⊥
ok_not_err p f r a b = cc

abbrev Refuses : List ℕ → Type 0
Refuses text = (v : Verifier) → ¬ Stores text v

parts_of_stored : (t : List ℕ) (p : StoredParts) (v : Verifier) → read_stored t ≡ Ok p → Stores t v → p ≡ parts_at v
parts_of_stored t p v e s = same_parts p (parts_at v) (read_stored t) e (stored_is_read t v s)

pub not_parts : (lacks : Type 0) (t : List ℕ) (f : Fault) → read_stored t ≡ Err f → NotStored lacks t NotAVerifier
not_parts lacks t f e = inr (refl, λ v s. ok_not_err (parts_at v) f (read_stored t) (stored_is_read t v s) e)

pub no_stored_key : (lacks : Type 0) (t : List ℕ) (p : StoredParts) → read_stored t ≡ Ok p → ((key : List ℕ) → IsKey key → p.stored ≢ base64 key) → NotStored lacks t NotAVerifier
no_stored_key lacks t p e none = inr (refl, λ v s. none v.stored_key s.stored_key (ap (λ (q : StoredParts). q.stored) (parts_of_stored t p v e s)))

pub no_server_key : (lacks : Type 0) (t : List ℕ) (p : StoredParts) → read_stored t ≡ Ok p → ((key : List ℕ) → IsKey key → p.server ≢ base64 key) → NotStored lacks t NotAVerifier
no_server_key lacks t p e none = inr (refl, λ v s. none v.server_key s.server_key (ap (λ (q : StoredParts). q.server) (parts_of_stored t p v e s)))

salt_refused : (t : List ℕ) (p : StoredParts) → read_stored t ≡ Ok p → ((salt : List ℕ) → IsBytes salt → p.salt ≢ base64 salt) → Refuses t
salt_refused t p e none v s = none v.salt s.salt_bytes (ap (λ (q : StoredParts). q.salt) (parts_of_stored t p v e s))

text_as : (t d a b c x y z : List ℕ) → t ≡ stored_text d a b c → a ≡ x → b ≡ y → c ≡ z → t ≡ stored_text d x y z
text_as t d a b c x y z is e f g = rw (← e, ← f, ← g) is

stores_but : (t : List ℕ) (p : StoredParts) (stored server : List ℕ) → read_stored t ≡ Ok p → IsKey stored → p.stored ≡ base64 stored → IsKey server → p.server ≡ base64 server → StoresBut t
stores_but t p stored server e sk s_is vk v_is =
    let is = read_stored-sound t p e in
    record {
      digits = is.digits;
      count = p.count;
      salt_text = p.salt;
      stored = stored;
      server = server;
      text_is = text_as t is.digits p.salt p.stored p.server p.salt (base64 stored) (base64 server) is.text_is refl s_is v_is;
      digit_chars = is.digit_chars;
      names = is.names;
      salt_chars = is.salt_chars;
      stored_key = sk;
      server_key = vk;
    }

-- the salt is refused, or memory for it
pub no_salt_in : (lacks : Type 0) (t : List ℕ) (p : StoredParts) (stored server : List ℕ) (e : VerifierError) → read_stored t ≡ Ok p → IsKey stored → p.stored ≡ base64 stored → IsKey server → p.server ≡ base64 server
    → ((e ≡ OutOfMemory) × lacks) ⊎ ((e ≡ NotAVerifier) × ((salt : List ℕ) → IsBytes salt → p.salt ≢ base64 salt)) → NotStored lacks t e
no_salt_in lacks t p stored server e read sk s_is vk v_is (inl memory) = inl (memory.0, memory.1, stores_but t p stored server read sk s_is vk v_is)
no_salt_in lacks t p stored server e read sk s_is vk v_is (inr none) = inr (none.0, salt_refused t p read none.1)

pub stores : (t : List ℕ) (p : StoredParts) (salt stored server : List ℕ) → read_stored t ≡ Ok p → IsKey stored → p.stored ≡ base64 stored → IsKey server → p.server ≡ base64 server
    → IsBytes salt → p.salt ≡ base64 salt → Stores t (record { salt = salt; count = p.count; stored_key = stored; server_key = server })
stores t p salt stored server e sk s_is vk v_is bytes salt_is =
    let is = read_stored-sound t p e in
    record {
      digits = is.digits;
      text_is = text_as t is.digits p.salt p.stored p.server (base64 salt) (base64 stored) (base64 server) is.text_is salt_is s_is v_is;
      digit_chars = is.digit_chars;
      names = is.names;
      salt_bytes = bytes;
      stored_key = sk;
      server_key = vk;
    }

-- a text that shows no 32 bytes is that of no key
pub no_key : (shown : List ℕ) → ((key : List ℕ) → length key ≡ 32 → ¬ Shows shown key) → (key : List ℕ) → IsKey key → shown ≢ base64 key
no_key shown none key k is = none key k.len (rw is (shows_itself key k.bytes))

-- ---- a verifier is that of a password by its keys

abbrev verifier_at : List ℕ → ℕ → List ℕ → List ℕ → Verifier
verifier_at salt n stored server = record { salt = salt; count = n; stored_key = stored; server_key = server }

same_keys : (salt : List ℕ) (n : ℕ) (a b c d : List ℕ) → a ≡ b → c ≡ d → verifier_at salt n a c ≡ verifier_at salt n b d
same_keys salt n a b c d e f = rw (e, f) refl

pub verifier_by_keys : (v : Verifier) (p : List ℕ) → v.stored_key ≡ sha256 (mac (salted p v.salt v.count) (codes "Client Key")) → v.server_key ≡ mac (salted p v.salt v.count) (codes "Server Key")
    → v ≡ verifier p v.salt v.count
unfolding verifier
verifier_by_keys v p a b =
    same_keys v.salt v.count v.stored_key (sha256 (mac (salted p v.salt v.count) (codes "Client Key"))) v.server_key (mac (salted p v.salt v.count) (codes "Server Key")) a b

pub keys_of_verifier : (v : Verifier) (p : List ℕ) → v ≡ verifier p v.salt v.count
    → (v.stored_key ≡ sha256 (mac (salted p v.salt v.count) (codes "Client Key"))) × (v.server_key ≡ mac (salted p v.salt v.count) (codes "Server Key"))
unfolding verifier
keys_of_verifier v p e = (ap (λ (x : Verifier). x.stored_key) e, ap (λ (x : Verifier). x.server_key) e)

pub client_made : (p salt s k h d : List ℕ) (n : ℕ) → d ≡ sha256 h → h ≡ mac k (codes "Client Key") → k ≡ salted p s n → s ≡ salt → d ≡ sha256 (mac (salted p salt n) (codes "Client Key"))
client_made p salt s k h d n a b c e = rw (a, b, c, e) refl

pub server_made : (p salt s k h : List ℕ) (n : ℕ) → h ≡ mac k (codes "Server Key") → k ≡ salted p s n → s ≡ salt → h ≡ mac (salted p salt n) (codes "Server Key")
server_made p salt s k h n b c e = rw (b, c, e) refl

-- what a comparison of the keys says: how far each is from the password's
abbrev pub IsOf : Bool → Verifier → List ℕ → Type 0
IsOf made_up v p = (made_up ≡ false) × (v ≡ verifier p v.salt v.count)

pub no_ones : (v : Verifier) (p : List ℕ) (made_up : Bool) → made_up ≡ true → (IsTrue false ↔ IsOf made_up v p)
no_ones v p made_up yes_ = (λ bad. cc, λ is. absurd (true≢false (sym yes_ ∙ is.0)))

pub keys_compared : (v : Verifier) (p sk vk : List ℕ) (made_up : Bool) (far near : ℕ) → made_up ≡ false → sk ≡ sha256 (mac (salted p v.salt v.count) (codes "Client Key")) → vk ≡ mac (salted p v.salt v.count) (codes "Server Key")
    → ((far ≡ 0) ↔ (v.stored_key ≡ sk)) → ((near ≡ 0) ↔ (v.server_key ≡ vk)) → far ≡ 0 → (IsTrue (near == 0) ↔ IsOf made_up v p)
keys_compared v p sk vk made_up far near real sk_is vk_is first second zero_ = (
  λ yes_. (real, verifier_by_keys v p (first.0 zero_ ∙ sk_is) (second.0 (eqb-true near 0 yes_) ∙ vk_is)),
  λ is. eq-eqb near 0 (second.1 ((keys_of_verifier v p is.1).1 ∙ sym vk_is)),
)

pub other_stored_key : (v : Verifier) (p sk : List ℕ) (made_up : Bool) (far : ℕ) → sk ≡ sha256 (mac (salted p v.salt v.count) (codes "Client Key"))
    → ((far ≡ 0) ↔ (v.stored_key ≡ sk)) → far ≢ 0 → (IsTrue false ↔ IsOf made_up v p)
other_stored_key v p sk made_up far sk_is first other = (λ bad. cc, λ is. absurd (other (first.1 ((keys_of_verifier v p is.1).0 ∙ sym sk_is))))
