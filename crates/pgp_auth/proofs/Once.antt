-- A server's text is rejected for one cause, and a server makes one signature.
use Rattle.pgp_auth.proofs.Common.{◌≡◌, ◌≢◌, ◌==◌, ℕ, zero, suc, ◌<◌, Bool, true, false, cond, List, [], ◌∷◌, ◌++◌, length, codes, refl, sym, ap, ◌∙◌, arith, append-nil, inl, inr, is_utf8, IsUtf8, IsAscii, is_utf8-from_IsUtf8, IsUtf8-from_is_utf8, IsUtf8-from_ascii, cases_Bool, eqb-true, append_cancel_left, Result, Ok, Err, DecodeError, standard, decode_of, Fault, Shows, Verifier, Part, Begins, here, character, run, Binding, gs2_header, ServerFirst, ServerFinal, Expects, Signs, Refusal, NotUtf8, OutOfMemory, InvalidBase64, Trailing, place, unexpected, error_parts, server_final_parts, FinalForm, error, RefusesFinal, not_utf8, other, trailing, server, no_base64, IsServerError, Verifies, ShowsOther, Meets, TakesMemory, long, NotVerified, FirstParts, read_first, Granted, grant, begins_with_e}
use Rattle.pgp_auth.specs.ScramRefusal.{Server, verifier}
use Rattle.pgp_auth.specs.ScramClient.{error as takes_error}
use Rattle.pgp_auth.proofs.FirstTexts.{read_first-complete}
use Rattle.pgp_auth.proofs.Grants.{meets_granted, base64_ascii}
use Rattle.pgp_auth.proofs.Patterns.{Scan, scan, scan_of, begun_scan, left_scan}

-- ---- the server's first text

same_granted : (g h : Granted) (r : Result Granted Refusal) → r ≡ Ok g → r ≡ Ok h → g ≡ h
same_granted g h r a b = cc

pub meets_once : (c m n s k t : List ℕ) (i j : ℕ) → Meets c m n s i → Meets c m k t j → (n ≡ k) × (s ≡ t) × (i ≡ j)
meets_once c m n s k t i j a b =
    let same = same_granted (record { nonce = n; salt = s; count = i }) (record { nonce = k; salt = t; count = j }) (grant c m) (meets_granted c m n s i a) (meets_granted c m k t j b) in
    (ap (λ (g : Granted). g.nonce) same, ap (λ (g : Granted). g.salt) same, ap (λ (g : Granted). g.count) same)

same_parts : (p q : FirstParts) (r : Result FirstParts Fault) → r ≡ Ok p → r ≡ Ok q → p ≡ q
same_parts p q r e f = cc

nonce_once : (m n s k t : List ℕ) (i j : ℕ) → ServerFirst m n s i → ServerFirst m k t j → n ≡ k
nonce_once m n s k t i j x y =
    let same = same_parts (record { nonce = n; salt_text = s; count = i }) (record { nonce = k; salt_text = t; count = j }) (read_first m) (read_first-complete m n s i x) (read_first-complete m k t j y) in
    ap (λ (p : FirstParts). p.nonce) same

-- ---- the signature

pub expects_once : (b : Binding) (first m w auth v auth' : List ℕ) → Expects b first m w auth → Expects b first m v auth' → (w ≡ v) × (auth ≡ auth')
expects_once b first m w auth v auth' x y =
    let hx = rw x.header_is at x.cut.text_is in
    let hy = rw y.header_is at y.cut.text_is in
    let bare : x.bare ≡ y.bare = append_cancel_left (gs2_header b) x.bare y.bare (sym hx ∙ hy) in
    let nonce = nonce_once m x.nonce x.salt_text y.nonce y.salt_text x.count y.count x.server_first_is y.server_first_is in
    let wx = rw (x.header_is, nonce) at x.final_is in
    let wy = rw y.header_is at y.final_is in
    let w_same : w ≡ v = wx ∙ sym wy in
    let ax = rw (bare, w_same) at x.auth_is in
    (w_same, ax ∙ sym y.auth_is)

pub signs_once : (v : Verifier) (b : Binding) (first m x y : List ℕ) → Signs v b first m x → Signs v b first m y → x ≡ y
signs_once v b first m x y p q =
    let auth = expects_once b first m p.front p.auth q.front q.auth p.expects q.expects in
    rw auth.1 at p.signature_is ∙ sym q.signature_is

-- ---- the server's final text

-- what a final text comes to, signatures aside
data Outcome : Type 0 where
  Bytes : List ℕ → Outcome
  Cause : Refusal → Outcome

bytes_of : Result (List ℕ) DecodeError → Outcome
bytes_of (Ok bytes) = Bytes bytes
bytes_of (Err e) = Cause InvalidBase64

error_end : List ℕ → List (List ℕ) → List ℕ → Outcome
error_end s (reason ∷ more) [] = Cause (Server reason)
error_end s [] [] = Cause OutOfMemory
error_end s runs (c ∷ rest) = Cause (Trailing (place s (c ∷ rest)))

shown_end : List ℕ → List (List ℕ) → List ℕ → Outcome
shown_end s (shown ∷ more) [] = bytes_of (decode_of standard shown)
shown_end s [] [] = Cause OutOfMemory
shown_end s runs (c ∷ rest) = Cause (Trailing (place s (c ∷ rest)))

scanned : (List (List ℕ) → List ℕ → Outcome) → List ℕ → Result Scan (List ℕ) → Outcome
scanned end s (Ok x) = end x.runs x.rest
scanned end s (Err rest) = Cause (unexpected (place s rest) rest)

by_form : Bool → List ℕ → Outcome
by_form true s = scanned (error_end s) s (scan error_parts s)
by_form false s = scanned (shown_end s) s (scan server_final_parts s)

is_e : List ℕ → Bool
is_e s = begins_with_e s

outcome : List ℕ → Outcome
outcome s = cond (is_utf8 s) (by_form (is_e s) s) (Cause NotUtf8)

utf8_yes : (s : List ℕ) → IsUtf8 s → outcome s ≡ by_form (is_e s) s
unfolding outcome
utf8_yes s u = rw (is_utf8-from_IsUtf8 s u) refl

utf8_no : (s : List ℕ) → ¬ IsUtf8 s → outcome s ≡ Cause NotUtf8
unfolding outcome
utf8_no s no_ = elim (cases_Bool (is_utf8 s)) [
  | inl yes_ ↦ absurd (no_ (IsUtf8-from_is_utf8 s yes_))
  | inr not_text ↦ rw not_text refl
]

is_e-self : (s : List ℕ) → is_e (101 ∷ s) ≡ true
unfolding is_e
is_e-self s = refl

not_e : (s : List ℕ) → ((rest : List ℕ) → s ≢ 101 ∷ rest) → is_e s ≡ false
unfolding is_e
not_e [] none = refl
not_e (c ∷ s) none = elim (cases_Bool (c == 101)) [
  | inl same ↦ absurd (none s (rw (eqb-true c 101 same) refl))
  | inr differs ↦ differs
]

form_left : (s rest : List ℕ) (parts : List Part) → FinalForm s parts → scan parts s ≡ Err rest → by_form (is_e s) s ≡ Cause (unexpected (place s rest) rest)
unfolding by_form scanned
form_left s rest parts (error {text = t}) e = rw (is_e-self t, e) refl
form_left s rest parts (verifier none) e = rw (not_e s none, e) refl

error_more : (s : List ℕ) (runs : List (List ℕ)) (rest : List ℕ) → rest ≢ [] → error_end s runs rest ≡ Cause (Trailing (place s rest))
unfolding error_end
error_more s runs [] some_ = absurd (some_ refl)
error_more s [] (c ∷ rest) some_ = refl
error_more s (r ∷ runs) (c ∷ rest) some_ = refl

shown_more : (s : List ℕ) (runs : List (List ℕ)) (rest : List ℕ) → rest ≢ [] → shown_end s runs rest ≡ Cause (Trailing (place s rest))
unfolding shown_end
shown_more s runs [] some_ = absurd (some_ refl)
shown_more s [] (c ∷ rest) some_ = refl
shown_more s (r ∷ runs) (c ∷ rest) some_ = refl

form_more : (s rest : List ℕ) (runs : List (List ℕ)) (parts : List Part) → FinalForm s parts → scan parts s ≡ scan_of runs rest → rest ≢ []
    → by_form (is_e s) s ≡ Cause (Trailing (place s rest))
unfolding by_form scanned
form_more s rest runs parts (error {text = t}) e some_ = rw (is_e-self t, e) (error_more s runs rest some_)
form_more s rest runs parts (verifier none) e some_ = rw (not_e s none, e) (shown_more s runs rest some_)

error_begins : (s reason : List ℕ) → IsServerError s reason → Begins error_parts s (reason ∷ []) []
error_begins s reason is =
    let all : Begins error_parts (codes "e=" ++ (reason ++ [])) (reason ∷ []) [] = character (character (run is.chars tt here)) in
    rw (append-nil, ← is.text_is) at all

shown_begins : (s shown : List ℕ) → ServerFinal s shown → Begins server_final_parts s (shown ∷ []) []
shown_begins s shown is =
    let all : Begins server_final_parts (codes "v=" ++ (shown ++ [])) (shown ∷ []) [] = character (character (run is.chars tt here)) in
    rw (append-nil, ← is.text_is) at all

error_outcome : (s reason : List ℕ) → IsServerError s reason → outcome s ≡ Cause (Server reason)
unfolding by_form scanned error_end
error_outcome s reason is =
    let e = begun_scan (error_begins s reason is) in
    let test : is_e s ≡ true = rw is.text_is (is_e-self (61 ∷ reason)) in
    utf8_yes s is.utf8 ∙ rw (test, e) refl

v_ascii : (shown : List ℕ) → IsAscii shown → IsAscii (118 ∷ 61 ∷ shown)
v_ascii shown low zero = omega arith
v_ascii shown low (suc zero) = omega arith
v_ascii shown low (suc (suc i)) = low i

final_utf8 : (s shown : List ℕ) → ServerFinal s shown → IsUtf8 s
final_utf8 s shown is =
    let all : IsAscii (118 ∷ 61 ∷ shown) = v_ascii shown (base64_ascii shown is.chars) in
    rw is.text_is (IsUtf8-from_ascii (118 ∷ 61 ∷ shown) all)

shown_outcome : (s shown : List ℕ) → ServerFinal s shown → outcome s ≡ bytes_of (decode_of standard shown)
unfolding by_form scanned shown_end is_e
shown_outcome s shown is =
    let e = begun_scan (shown_begins s shown is) in
    let test : is_e s ≡ false = rw is.text_is refl in
    utf8_yes s (final_utf8 s shown is) ∙ rw (test, e) refl

none_shown : (r : Result (List ℕ) DecodeError) → ((bytes : List ℕ) → ¬ (r ≡ Ok bytes)) → bytes_of r ≡ Cause InvalidBase64
unfolding bytes_of
none_shown (Ok bytes) none = absurd (none bytes refl)
none_shown (Err e) none = refl

refused_outcome : (s : List ℕ) (e : Refusal) → RefusesFinal s e → outcome s ≡ Cause e
refused_outcome s e (not_utf8 no_) = utf8_no s no_
refused_outcome s e (other {parts = parts} {rest = rest} u form leaves_) = utf8_yes s u ∙ form_left s rest parts form (left_scan leaves_)
refused_outcome s e (trailing {parts = parts} {runs = runs} {rest = rest} u form begins some_) = utf8_yes s u ∙ form_more s rest runs parts form (begun_scan begins) some_
refused_outcome s e (server {reason = reason} is) = error_outcome s reason is
refused_outcome s e (no_base64 {shown = shown} is none) = shown_outcome s shown is ∙ none_shown (decode_of standard shown) none

shows_outcome : (s shown bytes : List ℕ) → ServerFinal s shown → Shows shown bytes → outcome s ≡ Bytes bytes
unfolding bytes_of
shows_outcome s shown bytes is shows = shown_outcome s shown is ∙ rw shows refl

same_cause : (d e : Refusal) (o : Outcome) → o ≡ Cause d → o ≡ Cause e → d ≡ e
same_cause d e o a b = cc

same_bytes : (x y : List ℕ) (o : Outcome) → o ≡ Bytes x → o ≡ Bytes y → x ≡ y
same_bytes x y o a b = cc

not_both : (x : List ℕ) (e : Refusal) (o : Outcome) → o ≡ Bytes x → o ≡ Cause e → ⊥
not_both x e o a b = cc

pub one_final_refusal : (s : List ℕ) (d e : Refusal) → RefusesFinal s d → RefusesFinal s e → d ≡ e
one_final_refusal s d e a b = same_cause d e (outcome s) (refused_outcome s d a) (refused_outcome s e b)

pub shows_not_refused : (s signature : List ℕ) (e : Refusal) → Verifies signature s → RefusesFinal s e → ⊥
shows_not_refused s signature e v r = not_both signature e (outcome s) (shows_outcome s v.shown signature v.text_is v.shows) (refused_outcome s e r)

pub other_not_refused : (s signature : List ℕ) (e : Refusal) → ShowsOther signature s → RefusesFinal s e → ⊥
other_not_refused s signature e v r = not_both v.bytes e (outcome s) (shows_outcome s v.shown v.bytes v.text_is v.shows) (refused_outcome s e r)

pub shows_not_other : (s signature : List ℕ) → Verifies signature s → ShowsOther signature s → ⊥
shows_not_other s signature v o =
    o.differs (same_bytes o.bytes signature (outcome s) (shows_outcome s o.shown o.bytes o.text_is o.shows) (shows_outcome s v.shown signature v.text_is v.shows))

-- the text that shows the signature is refused for lack of memory alone, where it is long
long_final : (s shown far : List ℕ) → ServerFinal s shown → ServerFinal s far → 64 < length far → 64 < length shown
long_final s shown far a b lt =
    let same : far ≡ shown = append_cancel_left (codes "v=") far shown (sym b.text_is ∙ a.text_is) in
    rw same at lt

error_or_shown : (s shown reason : List ℕ) → ServerFinal s shown → IsServerError s reason → ⊥
unfolding is_e
error_or_shown s shown reason a b =
    let both : 118 ∷ 61 ∷ shown ≡ 101 ∷ 61 ∷ reason = sym a.text_is ∙ b.text_is in
    let test : false ≡ true = ap is_e both in
    cc

takes_long : (s signature : List ℕ) (v : Verifies signature s) → TakesMemory s → 64 < length v.shown
takes_long s signature v (takes_error {reason = reason} is) = absurd (error_or_shown s v.shown reason v.text_is is)
takes_long s signature v (long {shown = far} is lt) = long_final s v.shown far v.text_is is lt

pub verified_memory : (lacks : Type 0) (s signature : List ℕ) (e : Refusal) (before after : ℕ) (v : Verifies signature s) → NotVerified lacks signature s e before after → (e ≡ OutOfMemory) × lacks × (64 < length v.shown)
verified_memory lacks s signature e before after v (inl cause) = absurd (shows_not_refused s signature e v cause.0)
verified_memory lacks s signature e before after v (inr (inl differs)) = absurd (shows_not_other s signature v differs.1)
verified_memory lacks s signature e before after v (inr (inr memory)) = (memory.0, memory.1, takes_long s signature v memory.2)
