-- The texts of a server, and which final texts it accepts.
use Rattle.pgp_auth.proofs.Common.{◌≡◌, ◌≢◌, ℕ, ◌+◌, ◌*◌, ◌-◌, ◌/◌, ◌%◌, ◌<◌, ◌≤◌, ◌^◌, Bool, true, false, List, [], ◌∷◌, ◌++◌, length, inl, codes, refl, sym, ap, ◌∙◌, arith, decimal, AllPass, IsErr, Result, Ok, Err, nat_tests, append_cancel_left, append_assoc, length-append, All-nil, All-cons, All-append, DecodeError, standard, decode_of, decode_of-encode_of, decode_of_strict, sha256, IsBytes, base64, Shows, mac, xor_bytes, Binding, IsUserName, IsNonce, is_digit, is_nonce_char, number, number_from, ServerFirst, gs2_header, binding_data, named_bare, without_proof, with_proof, auth_message, Serving, Challenge, IsTaken, NotOpened, server_first, answer_of, first_of, ExpectsOf, AcceptsFinal, Shown, RefusesProof, other_exchange, no_proof, other_proof, mock, NotAdmitted, ServerError}
use Rattle.std.proofs.lemmas.Fmt.{decimal_by_steps}
use Rattle.pgp_auth.specs.declared.scram.server_error.ServerError.TheVariants.{OutOfMemory, OtherExchange, InvalidEncoding, InvalidProof}
use Rattle.pgp_auth.proofs.BothWays.{base64_chars, base64_len}
use Rattle.pgp_auth.proofs.Once.{expects_once}
use Rattle.pgp_auth.proofs.Steps.{cuts}

-- ---- a count in decimal is read as that count

record Reads (n : ℕ) (ds : List ℕ) : Type 0 where
  some : 0 < length ds
  chars : AllPass is_digit ds
  value : number ds ≡ n

abbrev Passes : ℕ → Type 0
Passes c = is_digit c ≡ true

number_last : (n : ℕ) (ds : List ℕ) (d : ℕ) → number_from n (ds ++ d ∷ []) ≡ number_from n ds * 10 + (d - 48)
unfolding number_from
number_last n [] d = refl
number_last n (x ∷ ds) d = number_last (n * 10 + (x - 48)) ds d

digit_passes : (d : ℕ) → d < 10 → Passes (48 + d)
digit_passes d lt = grind (arith, nat_tests, lt)

one_digit : (n : ℕ) → n < 10 → Reads n ((48 + n) ∷ [])
unfolding number_from
one_digit n lt = record { some = omega arith; chars = All-cons Passes (48 + n) [] (digit_passes n lt) (All-nil Passes); value = omega arith }

more_digits : (n : ℕ) (ds : List ℕ) → 10 ≤ n → Reads (n / 10) ds → Reads n (ds ++ ((48 + n % 10) ∷ []))
more_digits n ds le r =
    let last = number_last 0 ds (48 + n % 10) in
    let front = r.value in
    let len = length-append ds ((48 + n % 10) ∷ []) in
    record {
      some = omega arith;
      chars = All-append Passes ds ((48 + n % 10) ∷ []) r.chars (All-cons Passes (48 + n % 10) [] (digit_passes (n % 10) (omega arith)) (All-nil Passes));
      value = last ∙ rw front (omega arith);
    }

decimal_reads : (n : ℕ) → n < 2 ^ 64 → Reads n (decimal n)
decimal_reads n lt = decimal_by_steps Reads one_digit more_digits n lt

pub answer_is_first : (nonce salt : List ℕ) (count : ℕ) → AllPass is_nonce_char nonce → IsBytes salt → count < 2 ^ 32
    → ServerFirst (server_first nonce salt count) nonce (base64 salt) count
answer_is_first nonce salt count chars bytes fits =
    let d = decimal_reads count (omega arith) in
    record {
      digits = decimal count;
      text_is = refl;
      nonce_chars = chars;
      salt_chars = base64_chars salt bytes;
      digit_chars = d.chars;
      names = record { some = d.some; count_is = d.value; fits = fits };
    }

-- ---- what a challenge expects

pub expects_of : (c : Challenge) (front auth : List ℕ) → IsUserName c.user → AllPass is_nonce_char (c.nonce ++ c.own) → IsBytes c.verifier.salt → c.verifier.count < 2 ^ 32
    → front ≡ without_proof (gs2_header c.binding) (binding_data c.binding) (c.nonce ++ c.own)
    → auth ≡ auth_message (named_bare c.user c.nonce) (answer_of c) front → ExpectsOf c front auth
expects_of c front auth name chars bytes fits front_is auth_is = record {
  header = gs2_header c.binding;
  bare = named_bare c.user c.nonce;
  user = c.user;
  client_nonce = c.nonce;
  nonce = c.nonce ++ c.own;
  more = c.own;
  salt_text = base64 c.verifier.salt;
  count = c.verifier.count;
  cut = cuts c.binding (named_bare c.user c.nonce);
  header_is = refl;
  user_is = name;
  bare_is = refl;
  server_first_is = answer_is_first (c.nonce ++ c.own) c.verifier.salt c.verifier.count chars bytes fits;
  nonce_is = refl;
  final_is = front_is;
  auth_is = auth_is;
}

-- ---- what is rejected isn't accepted

same_bytes : (r : Result (List ℕ) DecodeError) (x y : List ℕ) → r ≡ Ok x → r ≡ Ok y → x ≡ y
same_bytes r x y a b = cc

pub err_not_ok : (r : Result (List ℕ) DecodeError) (x : List ℕ) → IsErr r → r ≡ Ok x → ⊥
err_not_ok (Ok y) x e same = cc
err_not_ok (Err d) x e same = cc

pub shows_itself : (bytes : List ℕ) → IsBytes bytes → Shows (base64 bytes) bytes
shows_itself bytes are = decode_of-encode_of standard bytes refl are

pub shown_alone : (text bytes : List ℕ) → IsBytes text → Shows text bytes → text ≡ base64 bytes
shown_alone text bytes are shows = decode_of_strict standard text bytes (refl, refl) are shows

proof_apart : (front shown : List ℕ) → with_proof front shown ≡ front ++ (codes ",p=" ++ shown)
proof_apart front shown = append_assoc front (codes ",p=") shown

same_shown : (front x y : List ℕ) → with_proof front x ≡ with_proof front y → x ≡ y
same_shown front x y same = append_cancel_left (front ++ codes ",p=") x y same

-- the text with what a challenge expects at its front, where it is accepted
accepted_text : (c : Challenge) (text front auth : List ℕ) → ExpectsOf c front auth → (a : AcceptsFinal c text) → text ≡ with_proof front (base64 a.proof)
accepted_text c text front auth x a =
    let same = expects_once c.binding (first_of c) (answer_of c) a.front a.auth front auth a.expects x in
    rw same.0 at a.final_is

accepted_auth : (c : Challenge) (text front auth : List ℕ) → ExpectsOf c front auth → (a : AcceptsFinal c text) → a.auth ≡ auth
accepted_auth c text front auth x a = (expects_once c.binding (first_of c) (answer_of c) a.front a.auth front auth a.expects x).1

accepted_shown : (c : Challenge) (text front auth shown : List ℕ) → ExpectsOf c front auth → text ≡ with_proof front shown → (a : AcceptsFinal c text) → Shows shown a.proof
accepted_shown c text front auth shown x is a =
    let same : shown ≡ base64 a.proof = same_shown front shown (base64 a.proof) (sym is ∙ accepted_text c text front auth x a) in
    rw same (shows_itself a.proof a.bytes)

real_not_mock : (b : Bool) → b ≡ false → b ≡ true → ⊥
real_not_mock b no_ yes_ = cc

refused_not : (c : Challenge) (text : List ℕ) (e : ServerError) → c.is_mock ≡ false → RefusesProof c text e → ¬ AcceptsFinal c text
refused_not c text _ real (other_exchange front auth x none) a = none (base64 a.proof) (accepted_text c text front auth x a)
refused_not c text _ real (no_proof front auth shown x is none) a = none a.proof a.len (accepted_shown c text front auth shown x is a)
refused_not c text _ real (other_proof front auth shown proof x is len shows differs) a =
    let same : a.proof ≡ proof = same_bytes (decode_of standard shown) a.proof proof (accepted_shown c text front auth shown x is a) shows in
    let auths = accepted_auth c text front auth x a in
    differs (rw (same, auths) at a.key)
refused_not c text _ real (mock front auth shown proof x is len shows made_up) a = real_not_mock c.is_mock real made_up

pub not_admitted : (c : Challenge) (text : List ℕ) (e : ServerError) → RefusesProof c text e → NotAdmitted c text e
not_admitted c text e why = record { why = why; not_accepted = λ real. refused_not c text e real why }

-- ---- the ways out of a final text

pub no_front : (c : Challenge) (text front auth : List ℕ) → ExpectsOf c front auth → ((rest : List ℕ) → text ≢ front ++ rest) → NotAdmitted c text OtherExchange
no_front c text front auth x none =
    not_admitted c text OtherExchange (other_exchange front auth x (λ shown is. none (codes ",p=" ++ shown) (is ∙ proof_apart front shown)))

pub no_mark : (c : Challenge) (text front auth rest : List ℕ) → ExpectsOf c front auth → text ≡ front ++ rest → ((shown : List ℕ) → rest ≢ codes ",p=" ++ shown) → NotAdmitted c text OtherExchange
no_mark c text front auth rest x text_is none =
    not_admitted c text OtherExchange (other_exchange front auth x (λ shown is. none shown (append_cancel_left front rest (codes ",p=" ++ shown) (sym text_is ∙ is ∙ proof_apart front shown))))

pub with_shown : (text front rest shown : List ℕ) → text ≡ front ++ rest → rest ≡ codes ",p=" ++ shown → text ≡ with_proof front shown
with_shown text front rest shown a b = a ∙ ap (λ r. front ++ r) b ∙ sym (proof_apart front shown)

pub not_32 : (c : Challenge) (text front auth shown : List ℕ) → ExpectsOf c front auth → text ≡ with_proof front shown
    → ((proof : List ℕ) → length proof ≡ 32 → ¬ Shows shown proof) → NotAdmitted c text InvalidEncoding
not_32 c text front auth shown x is none = not_admitted c text InvalidEncoding (no_proof front auth shown x is none)

pub other_key : (c : Challenge) (text front auth shown proof : List ℕ) → ExpectsOf c front auth → text ≡ with_proof front shown → length proof ≡ 32
    → Shows shown proof → sha256 (xor_bytes proof (mac c.verifier.stored_key auth)) ≢ c.verifier.stored_key → NotAdmitted c text InvalidProof
other_key c text front auth shown proof x is len shows differs =
    not_admitted c text InvalidProof (other_proof front auth shown proof x is len shows differs)

pub made_up : (c : Challenge) (text front auth shown proof : List ℕ) → ExpectsOf c front auth → text ≡ with_proof front shown → length proof ≡ 32
    → Shows shown proof → c.is_mock ≡ true → NotAdmitted c text InvalidProof
made_up c text front auth shown proof x is len shows yes_ =
    not_admitted c text InvalidProof (mock front auth shown proof x is len shows yes_)

-- the ways out of a proof
pub not_44 : (shown proof : List ℕ) → IsBytes shown → length shown ≢ 44 → length proof ≡ 32 → ¬ Shows shown proof
not_44 shown proof bytes other len shows = other (ap (λ (l : List ℕ). length l) (shown_alone shown proof bytes shows) ∙ base64_len proof len)

pub other_len : (shown bytes proof : List ℕ) → Shows shown bytes → length bytes ≢ 32 → length proof ≡ 32 → ¬ Shows shown proof
other_len shown bytes proof shows other len also = other (ap (λ (l : List ℕ). length l) (same_bytes (decode_of standard shown) bytes proof shows also) ∙ len)

pub not_base64 : (shown proof : List ℕ) → IsErr (decode_of standard shown) → ¬ Shows shown proof
not_base64 shown proof err shows = err_not_ok (decode_of standard shown) proof err shows

pub accepts_final : (c : Challenge) (text front auth shown proof : List ℕ) → ExpectsOf c front auth → text ≡ with_proof front shown → shown ≡ base64 proof
    → IsBytes proof → length proof ≡ 32 → sha256 (xor_bytes proof (mac c.verifier.stored_key auth)) ≡ c.verifier.stored_key → AcceptsFinal c text
accepts_final c text front auth shown proof x text_is shown_is bytes len key = record {
  front = front;
  auth = auth;
  proof = proof;
  expects = x;
  final_is = rw shown_is at text_is;
  bytes = bytes;
  len = len;
  key = key;
}

pub shows_final : (c : Challenge) (front auth signature answer : List ℕ) → ExpectsOf c front auth → signature ≡ mac c.verifier.server_key auth
    → answer ≡ codes "v=" ++ base64 signature → Shown c answer
shows_final c front auth signature answer x is answer_is = record {
  signature = signature;
  signs = record { front = front; auth = auth; expects = x; signature_is = is };
  answer_is = answer_is;
}

-- ---- what the code makes

pub front_made : (header hash nonce own items whole w front : List ℕ) → items ≡ nonce → whole ≡ nonce ++ own → w ≡ whole
    → front ≡ without_proof header hash w → front ≡ without_proof header hash (items ++ own)
front_made header hash nonce own items whole w front a b c is = rw (a, ← b, ← c) is

pub whole_made : (whole nonce own o : List ℕ) → whole ≡ nonce ++ o → o ≡ own → whole ≡ nonce ++ own
whole_made whole nonce own o is same = rw (← same) is

same_message : (a b c d e f : List ℕ) → a ≡ b → c ≡ d → e ≡ f → auth_message a c e ≡ auth_message b d f
same_message a b c d e f p q r = rw (p, q, r) refl

pub auth_made : (bare user nonce own users items whole w salt s answer m front f auth : List ℕ) (count : ℕ) → users ≡ user → items ≡ nonce → bare ≡ named_bare user nonce
    → whole ≡ nonce ++ own → w ≡ whole → s ≡ salt → answer ≡ server_first w s count → m ≡ answer → f ≡ front → auth ≡ auth_message bare m f
    → auth ≡ auth_message (named_bare users items) (server_first (items ++ own) salt count) front
auth_made bare user nonce own users items whole w salt s answer m front f auth count u a bare_is b c d answer_is m_is f_is is =
    let first : bare ≡ named_bare users items = rw (u, a) bare_is in
    let second : m ≡ server_first (items ++ own) salt count = rw (a, ← b, ← c, ← d) (m_is ∙ answer_is) in
    is ∙ same_message bare (named_bare users items) m (server_first (items ++ own) salt count) f front first second f_is

pub chars_made : (nonce own items : List ℕ) → items ≡ nonce → AllPass is_nonce_char nonce → AllPass is_nonce_char own → AllPass is_nonce_char (items ++ own)
chars_made nonce own items a front back = rw a (All-append (λ x. is_nonce_char x ≡ true) nonce own front back)

-- a text that isn't base64 is that of no bytes
pub no_salt : (text : List ℕ) (d : DecodeError) (salt : List ℕ) → decode_of standard text ≡ Err d → IsBytes salt → text ≢ base64 salt
no_salt text d salt err are is =
    let shows : Shows text salt = rw is (shows_itself salt are) in
    cc

-- memory is wanted only for a text that opens
pub opens_without_memory : (lacks : Type 0) (serving : Serving) (text bare user nonce : List ℕ) (b : Binding) → IsTaken serving.offer b × (text ≡ gs2_header b ++ bare)
    → IsUserName user × IsNonce nonce × (bare ≡ named_bare user nonce) → lacks → NotOpened lacks serving text OutOfMemory
opens_without_memory lacks serving text bare user nonce b taken named l =
    inl (
      refl,
      l,
      (
        record { verifier = serving.verifier; is_mock = serving.is_mock; binding = b; user = user; nonce = nonce; own = serving.own },
        record {
          taken = taken.0;
          is_name = named.0;
          is_nonce = named.1;
          verifier_is = refl;
          mock_is = refl;
          own_is = refl;
          text_is = taken.1 ∙ ap (λ z. gs2_header b ++ z) named.2;
        },
      ),
    )
