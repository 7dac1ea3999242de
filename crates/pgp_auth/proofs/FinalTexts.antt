-- How a server's final text is read.
use Rattle.pgp_auth.proofs.Common.{◌≡◌, ◌≢◌, ℕ, ◌<◌, Bool, true, false, List, [], ◌∷◌, ◌++◌, length, codes, refl, sym, ap, subst, ◌∙◌, append-nil, inl, inr, AllPass, prefix_len, is_utf8, IsUtf8, IsErr, IsErrAnd, IfErr, eqb-true, take-append-drop, IsUtf8-from_is_utf8, is_utf8-from_IsUtf8, IsUtf8-past_char, Result, Ok, Err, DecodeError, standard, decode_of, Fault, is_base64_char, is_value_char, ServerFinal, Run, word, Refusal, InvalidBase64, error_parts, server_final_parts, FinalForm, error, RefusesFinal, not_utf8, other, trailing, no_base64, IsServerError, ShowsOther, NotUtf8, OutOfMemory, NotShown, NotVerified, TakesMemory, long, ScramError, refusal, ◌⊎◌, expected, ended, front_of, rest_of, read_run, begins_with_e, refusal_of}
use Rattle.pgp_auth.specs.ScramRefusal.{verifier}
use Rattle.pgp_auth.specs.declared.scram.error.ScramError.TheVariants as code
use Rattle.pgp_auth.proofs.FirstTexts.{from_bind, fault_bind, expected-ok, ended-ok, ended-err, word_scan, word_left}
use Rattle.pgp_auth.proofs.Patterns.{scan, scanned_begins, scanned_leaves}
use Rattle.pgp_auth.proofs.Runs.{front_passes}

-- a run that was read stands after its word
record RunRead (want : List ℕ) (test : ℕ → Bool) (s t : List ℕ) : Type 0 where
  whole : s ≡ want ++ t
  chars : AllPass test t

abbrev ok_run : List ℕ → Result (List ℕ) Fault
ok_run t = Ok t

run_parts : (want : List ℕ) (test : ℕ → Bool) (s t a : List ℕ) (u : Unit {0}) → expected (length s) want s ≡ Ok a → ended (length s) (rest_of test a) ≡ Ok u
    → ok_run (front_of test a) ≡ Ok t → RunRead want test s t
run_parts want test s t a u ea eu same =
    let s_is = expected-ok (length s) want s a ea in
    let none = ended-ok (length s) (rest_of test a) u eu in
    let all : front_of test a ++ rest_of test a ≡ a = take-append-drop (prefix_len test a) a in
    let front = rw (none, append-nil) at all in
    let t_is : front_of test a ≡ t = cc in
    let P : List ℕ → Type 0 = λ x. RunRead want test s x in
    subst P t_is (record { whole = rw front s_is; chars = front_passes test a })

read_run-ok : (want : List ℕ) (test : ℕ → Bool) (s t : List ℕ) → read_run want test s ≡ Ok t → RunRead want test s t
unfolding read_run
read_run-ok want test s t h =
    from_bind (RunRead want test s t) (expected (length s) want s) _ t h
    (λ a ea h1. from_bind (RunRead want test s t) (ended (length s) (rest_of test a)) _ t h1
    (λ u eu h2. run_parts want test s t a u ea eu h2))

-- one that wasn't has its fault
left_word : (want : List ℕ) (test : ℕ → Bool) (s : List ℕ) (f : Fault) → IsUtf8 s → FinalForm s (word want ++ Run test ∷ [])
    → expected (length s) want s ≡ Err f → RefusesFinal s (refusal_of f)
left_word want test s f u form e =
    let l = word_left (length s) want s (Run test ∷ []) f e in
    rw l.fault (other u form (scanned_leaves _ s l.rest l.scanned))

not_ended : (want : List ℕ) (test : ℕ → Bool) (s a : List ℕ) (f : Fault) → IsUtf8 s → FinalForm s (word want ++ Run test ∷ [])
    → expected (length s) want s ≡ Ok a → ended (length s) (rest_of test a) ≡ Err f → RefusesFinal s (refusal_of f)
unfolding scan
not_ended want test s a f u form ea e =
    let some_ = ended-err (length s) (rest_of test a) f e in
    let scanned = word_scan (length s) want s a (Run test ∷ []) ea in
    rw some_.1 (trailing u form (scanned_begins _ s (rest_of test a) (front_of test a ∷ []) scanned) some_.0)

ok_err : (x : List ℕ) (e : Fault) → ok_run x ≡ Err e → ⊥
ok_err x e h = cc

read_run-err : (want : List ℕ) (test : ℕ → Bool) (s : List ℕ) (f : Fault) → IsUtf8 s → FinalForm s (word want ++ Run test ∷ [])
    → read_run want test s ≡ Err f → RefusesFinal s (refusal_of f)
unfolding read_run
read_run-err want test s f u form h =
    let P : Type 0 = RefusesFinal s (refusal_of f) in
    fault_bind P (expected (length s) want s) _ f h (left_word want test s f u form)
    (λ a ea h1. fault_bind P (ended (length s) (rest_of test a)) _ f h1 (not_ended want test s a f u form ea)
    (λ u eu h2. absurd (ok_err _ f h2)))

-- ---- errors

error_form : (s : List ℕ) → begins_with_e s ≡ true → FinalForm s error_parts
error_form [] h = cc
error_form (c ∷ s) h = rw (eqb-true c 101 h) error

pub error_refused : (m : List ℕ) (f : Fault) (r : Refusal) → is_utf8 m ≡ true → begins_with_e m ≡ true → read_run (codes "e=") is_value_char m ≡ Err f
    → r ≡ refusal_of f → RefusesFinal m r
error_refused m f r u e h is =
    rw is (read_run-err (codes "e=") is_value_char m f (IsUtf8-from_is_utf8 m u) (error_form m e) h)

pub error_is : (m reason t : List ℕ) → is_utf8 m ≡ true → read_run (codes "e=") is_value_char m ≡ Ok reason → t ≡ reason → IsServerError m t
error_is m reason t u h is =
    let r = read_run-ok (codes "e=") is_value_char m reason h in
    rw is (record { text_is = r.whole; utf8 = IsUtf8-from_is_utf8 m u; chars = r.chars })

pub error_text : (m reason : List ℕ) → is_utf8 m ≡ true → read_run (codes "e=") is_value_char m ≡ Ok reason → IsUtf8 reason
unfolding lib.Utf8.encode
error_text m reason u h =
    let r = read_run-ok (codes "e=") is_value_char m reason h in
    let all : IsUtf8 (101 ∷ 61 ∷ reason) = rw r.whole at (IsUtf8-from_is_utf8 m u) in
    IsUtf8-past_char (61 ∷ reason) reason 61 (IsUtf8-past_char (101 ∷ 61 ∷ reason) (61 ∷ reason) 101 all refl) refl

-- ---- verifiers

not_true : false ≡ true → ⊥
not_true e = cc

verifier_form : (s : List ℕ) → begins_with_e s ≡ false → FinalForm s server_final_parts
verifier_form s h = verifier (λ rest is. not_true (sym h ∙ ap begins_with_e is))

pub final_refused : (m : List ℕ) (f : Fault) (r : Refusal) → is_utf8 m ≡ true → begins_with_e m ≡ false → read_run (codes "v=") is_base64_char m ≡ Err f
    → r ≡ refusal_of f → RefusesFinal m r
final_refused m f r u e h is =
    rw is (read_run-err (codes "v=") is_base64_char m f (IsUtf8-from_is_utf8 m u) (verifier_form m e) h)

pub final_is : (m t : List ℕ) → read_run (codes "v=") is_base64_char m ≡ Ok t → ServerFinal m t
final_is m t h =
    let r = read_run-ok (codes "v=") is_base64_char m t h in
    record { text_is = r.whole; chars = r.chars }

err_not_ok : (r : Result (List ℕ) DecodeError) (x : List ℕ) → IsErr r → r ≡ Ok x → ⊥
err_not_ok (Ok y) x bad e = cc
err_not_ok (Err f) x bad e = cc

pub final_no_base64 : (m t : List ℕ) (r : Refusal) → ServerFinal m t → IsErr (decode_of standard t) → r ≡ InvalidBase64 → RefusesFinal m r
final_no_base64 m t r s bad is = rw is (no_base64 s (λ bytes shows. err_not_ok (decode_of standard t) bytes bad shows))

pub final_other : (m t bytes signature : List ℕ) → ServerFinal m t → decode_of standard t ≡ Ok bytes → bytes ≢ signature → ShowsOther signature m
final_other m t bytes signature s shows differs = record { shown = t; bytes = bytes; text_is = s; shows = shows; differs = differs }

-- ---- what is answered

-- what follows from the error holds of the result
pub if_err_from : {T E : Type 0} (r : Result T E) (Q P : E → Type 0) → IsErrAnd r Q → ((e : E) → Q e → P e) → IfErr r P
if_err_from (Ok y) Q P h k = tt
if_err_from (Err e) Q P h k = k e h

pub text_no : (m : List ℕ) → is_utf8 m ≡ false → RefusesFinal m NotUtf8
text_no m u = not_utf8 (λ text. not_true (sym u ∙ is_utf8-from_IsUtf8 m text))

pub error_kept : (lacks : Type 0) (m signature : List ℕ) (e : Refusal) (n : ℕ) → RefusesFinal m e ⊎ ((e ≡ OutOfMemory) × lacks × TakesMemory m) → NotVerified lacks signature m e n n
error_kept lacks m signature e n (inl cause) = inl (cause, refl)
error_kept lacks m signature e n (inr memory) = inr (inr (memory.0, memory.1, memory.2, refl))

pub not_shown : (lacks : Type 0) (m signature : List ℕ) (e : Refusal) → RefusesFinal m e ⊎ ((e ≡ OutOfMemory) × lacks × TakesMemory m) → NotShown lacks signature m e
not_shown lacks m signature e (inl cause) = inl cause
not_shown lacks m signature e (inr memory) = inr (inr memory)

pub long_not : {A : Type 0} (lacks : Type 0) (m t : List ℕ) (e : ScramError A) → ServerFinal m t → 64 < length t
    → ((e ≡ code.OutOfMemory) × lacks) ⊎ ((e ≡ code.InvalidBase64) × IsErr (decode_of standard t)) → RefusesFinal m (refusal e) ⊎ ((refusal e ≡ OutOfMemory) × lacks × TakesMemory m)
long_not lacks m t e s far (inl memory) = inr (ap refusal memory.0, memory.1, long s far)
long_not lacks m t e s far (inr bad) = inl (final_no_base64 m t (refusal e) s bad.1 (ap refusal bad.0))
