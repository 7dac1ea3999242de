-- Requests for authentication: reading by the code is what the grammar says.
use Rattle.pgp_message.proofs.Common.{◌≡◌, ◌≢◌, ℕ, ℤ, pos, ◌<◌, ◌^◌, Bool, true, false, cond, eqb, List, [], ◌∷◌, ◌++◌, length, Option, Some, None, Result, Ok, Err, refl, sym, ap, ◌∙◌, append_assoc, arith, FitsSigned, lit<, w32, cast_signed, cast_unsigned, eqb-true, eqb-false, append-nil, of_z-to_z, to_z-of_z, Error, int32, uint32, IsBytes, ◌>>=◌, oid_at, Request, AuthenticationOk, AuthenticationKerberosV5, AuthenticationCleartextPassword, AuthenticationMd5Password, AuthenticationScmCredential, AuthenticationGss, AuthenticationGssContinue, AuthenticationSspi, AuthenticationSasl, AuthenticationSaslContinue, AuthenticationSaslFinal, code_of, details_of, ended, made, salt_of, bare_request, by_code, request_of}
use mir.Facts.{Fits-of_z}
use borrow.Author.Gap.{read_sfits}
use Rattle.pgp_base.specs.declared.error.Error.TheVariants as errors
use Rattle.pgp_message.proofs.Families.{code_again, code_takes, salt_again, salt_reads, Holds, Reads}
use Rattle.pgp_base.proofs.Parts.{int32_spelled}

-- a test of a number decides
pub pick : {R : Type 0} (P : R → Type 0) (tag n : ℕ) (this other : R) → (n ≡ tag → P this) → (n ≢ tag → P other) → P (cond (eqb tag n) this other)
pick P tag n this other f g =
    let by_test : (b : Bool) → eqb tag n ≡ b → P (cond b this other) = λ b. elim b as (λ v. eqb tag n ≡ v → P (cond v this other)) [
      | true ↦ λ e. f (sym (eqb-true _ _ e))
      | false ↦ λ e. g (λ same. grind (arith, eqb-false tag n e, same))
    ] in
    by_test (eqb tag n) refl

abbrev pub RequestFits : Request → Type 0
RequestFits (AuthenticationMd5Password salt) = length salt ≡ 4
RequestFits q = Unit {0}

abbrev pub request_parts : Request → List ℕ
request_parts q = int32 (pos (code_of q)) ++ details_of q

-- a code's number, signed and unsigned

code_spelled : (q : Request) → int32 (pos (code_of q)) ≡ uint32 (code_of q)
unfolding int32 uint32
code_spelled AuthenticationOk = refl
code_spelled AuthenticationKerberosV5 = refl
code_spelled AuthenticationCleartextPassword = refl
code_spelled (AuthenticationMd5Password salt) = refl
code_spelled AuthenticationScmCredential = refl
code_spelled AuthenticationGss = refl
code_spelled (AuthenticationGssContinue bytes) = refl
code_spelled AuthenticationSspi = refl
code_spelled (AuthenticationSasl bytes) = refl
code_spelled (AuthenticationSaslContinue bytes) = refl
code_spelled (AuthenticationSaslFinal bytes) = refl

code_unsigned : (q : Request) → cast_unsigned w32 (pos (code_of q)) ≡ code_of q
code_unsigned AuthenticationOk = refl
code_unsigned AuthenticationKerberosV5 = refl
code_unsigned AuthenticationCleartextPassword = refl
code_unsigned (AuthenticationMd5Password salt) = refl
code_unsigned AuthenticationScmCredential = refl
code_unsigned AuthenticationGss = refl
code_unsigned (AuthenticationGssContinue bytes) = refl
code_unsigned AuthenticationSspi = refl
code_unsigned (AuthenticationSasl bytes) = refl
code_unsigned (AuthenticationSaslContinue bytes) = refl
code_unsigned (AuthenticationSaslFinal bytes) = refl

code_signed : (q : Request) → cast_signed w32 (code_of q) ≡ pos (code_of q)
code_signed AuthenticationOk = refl
code_signed AuthenticationKerberosV5 = refl
code_signed AuthenticationCleartextPassword = refl
code_signed (AuthenticationMd5Password salt) = refl
code_signed AuthenticationScmCredential = refl
code_signed AuthenticationGss = refl
code_signed (AuthenticationGssContinue bytes) = refl
code_signed AuthenticationSspi = refl
code_signed (AuthenticationSasl bytes) = refl
code_signed (AuthenticationSaslContinue bytes) = refl
code_signed (AuthenticationSaslFinal bytes) = refl

code_small : (q : Request) → code_of q < 2 ^ 32
code_small AuthenticationOk = lit< tt
code_small AuthenticationKerberosV5 = lit< tt
code_small AuthenticationCleartextPassword = lit< tt
code_small (AuthenticationMd5Password salt) = lit< tt
code_small AuthenticationScmCredential = lit< tt
code_small AuthenticationGss = lit< tt
code_small (AuthenticationGssContinue bytes) = lit< tt
code_small AuthenticationSspi = lit< tt
code_small (AuthenticationSasl bytes) = lit< tt
code_small (AuthenticationSaslContinue bytes) = lit< tt
code_small (AuthenticationSaslFinal bytes) = lit< tt

-- a code that no request has, as it is read and as it is spelled
unknown_signed : (n : ℕ) → n < 2 ^ 32 → ((q : Request) → code_of q ≢ n) → (q : Request) → pos (code_of q) ≢ cast_signed w32 n
unknown_signed n lt none q e = none q (sym (code_unsigned q) ∙ ap (cast_unsigned w32) e ∙ of_z-to_z w32 n lt)

unknown_unsigned : (code : ℤ) → FitsSigned w32 code → ((q : Request) → pos (code_of q) ≢ code) → (q : Request) → code_of q ≢ cast_unsigned w32 code
unknown_unsigned code fits none q e = none q (sym (code_signed q) ∙ ap (cast_signed w32) e ∙ to_z-of_z w32 code fits)

-- What was spelled is read again.

-- what is left after a request: one that takes all has nothing left
abbrev pub after_request : Request → List ℕ → Result Request Error
after_request (AuthenticationGssContinue bytes) more = Ok (AuthenticationGssContinue (bytes ++ more))
after_request (AuthenticationSasl bytes) more = Ok (AuthenticationSasl (bytes ++ more))
after_request (AuthenticationSaslContinue bytes) more = Ok (AuthenticationSaslContinue (bytes ++ more))
after_request (AuthenticationSaslFinal bytes) more = Ok (AuthenticationSaslFinal (bytes ++ more))
after_request q more = ended q more

pub made_ended : {X Y : Type 0} (f : X → Y) (x : X) (more : List ℕ) → made f (ended x more) ≡ ended (f x) more
made_ended f x [] = refl
made_ended f x (b ∷ more) = refl

by_code_again : (q : Request) (more : List ℕ) → RequestFits q → by_code (code_of q) (details_of q ++ more) ≡ after_request q more
unfolding by_code bare_request
by_code_again AuthenticationOk more fits = refl
by_code_again AuthenticationKerberosV5 more fits = refl
by_code_again AuthenticationCleartextPassword more fits = refl
by_code_again (AuthenticationMd5Password salt) more fits = ap (made AuthenticationMd5Password) (salt_again salt more fits) ∙ made_ended AuthenticationMd5Password salt more
by_code_again AuthenticationScmCredential more fits = refl
by_code_again AuthenticationGss more fits = refl
by_code_again (AuthenticationGssContinue bytes) more fits = refl
by_code_again AuthenticationSspi more fits = refl
by_code_again (AuthenticationSasl bytes) more fits = refl
by_code_again (AuthenticationSaslContinue bytes) more fits = refl
by_code_again (AuthenticationSaslFinal bytes) more fits = refl

-- the code decides
code_decides : (n : ℕ) (more : List ℕ) → n < 2 ^ 32 → request_of (uint32 n ++ more) ≡ by_code n more
unfolding request_of
code_decides n more lt = rw (code_again n more lt) refl

pub request_again : (q : Request) (more : List ℕ) → RequestFits q → request_of (request_parts q ++ more) ≡ after_request q more
request_again q more fits =
    ap request_of (append_assoc (int32 (pos (code_of q))) (details_of q) more ∙ ap (λ l. l ++ (details_of q ++ more)) (code_spelled q))
    ∙ code_decides (code_of q) (details_of q ++ more) (code_small q) ∙ by_code_again q more fits

pub request_whole : (q : Request) → after_request q [] ≡ Ok q
request_whole (AuthenticationGssContinue bytes) = ap (λ (l : List ℕ). Ok (AuthenticationGssContinue l)) (append-nil bytes)
request_whole (AuthenticationSasl bytes) = ap (λ (l : List ℕ). Ok (AuthenticationSasl l)) (append-nil bytes)
request_whole (AuthenticationSaslContinue bytes) = ap (λ (l : List ℕ). Ok (AuthenticationSaslContinue l)) (append-nil bytes)
request_whole (AuthenticationSaslFinal bytes) = ap (λ (l : List ℕ). Ok (AuthenticationSaslFinal l)) (append-nil bytes)
request_whole AuthenticationOk = refl
request_whole AuthenticationKerberosV5 = refl
request_whole AuthenticationCleartextPassword = refl
request_whole (AuthenticationMd5Password salt) = refl
request_whole AuthenticationScmCredential = refl
request_whole AuthenticationGss = refl
request_whole AuthenticationSspi = refl

-- What is read was spelled so.

-- a code that no request has stands there
pub record HasUnknownCode (payload : List ℕ) (code : ℤ) : Type 0 where
  pub fits : FitsSigned w32 code
  pub more : List ℕ
  pub parts : payload ≡ int32 code ++ more
  pub unknown : (q : Request) → pos (code_of q) ≢ code

abbrev pub RequestReads : List ℕ → Result Request Error → Type 0
RequestReads payload (Ok q) = Holds RequestFits request_parts payload q []
RequestReads payload (Err errors.UnexpectedEof) = Unit {0}
RequestReads payload (Err errors.NotDrained) = (q : Request) × (more : List ℕ) × Holds RequestFits request_parts payload q more
RequestReads payload (Err (errors.UnknownAuthentication code)) = HasUnknownCode payload code
RequestReads payload (Err e) = ⊥

-- a request whose code stands at the front
module _ (payload rest : List ℕ) (n : ℕ) (spelled : payload ≡ uint32 n ++ rest) where
  coded : (q : Request) (more : List ℕ) → code_of q ≡ n → rest ≡ details_of q ++ more → payload ≡ request_parts q ++ more
  coded q more e r =
      spelled ∙ ap (λ k. uint32 k ++ rest) (sym e) ∙ ap (λ l. uint32 (code_of q) ++ l) r
      ∙ ap (λ l. l ++ (details_of q ++ more)) (sym (code_spelled q)) ∙ sym (append_assoc (int32 (pos (code_of q))) (details_of q) more)

  plain : (q : Request) (left : List ℕ) → rest ≡ left → code_of q ≡ n → details_of q ≡ [] → RequestFits q → RequestReads payload (ended q left)
  plain q [] is e none fits = record { fits = fits; parts = coded q [] e (is ∙ ap (λ l. l ++ []) (sym none)) }
  plain q (b ∷ left) is e none fits = (q, b ∷ left, record { fits = fits; parts = coded q (b ∷ left) e (is ∙ ap (λ l. l ++ (b ∷ left)) (sym none)) })

  whole : (q : Request) → code_of q ≡ n → details_of q ≡ rest → RequestFits q → RequestReads payload (Ok q)
  whole q e all fits = record { fits = fits; parts = coded q [] e (sym (append-nil rest) ∙ ap (λ l. l ++ []) (sym all)) }

  salted : (r : Result (List ℕ) Error) → 5 ≡ n → Reads (λ salt. length salt ≡ 4) (λ salt. salt) rest r → RequestReads payload (made AuthenticationMd5Password r)
  salted (Ok salt) e h = record { fits = h.fits; parts = coded (AuthenticationMd5Password salt) [] e h.parts }
  salted (Err errors.UnexpectedEof) e h = tt
  salted (Err errors.NotDrained) e h = (AuthenticationMd5Password h.0, h.1, record { fits = h.2.fits; parts = coded (AuthenticationMd5Password h.0) h.1 e h.2.parts })
  salted (Err d) e h = absurd h

  code_reads : n < 2 ^ 32 → RequestReads payload (by_code n rest)
  unfolding by_code bare_request
  code_reads lt =
      pick (RequestReads payload) n 8 _ _ (λ e. whole (AuthenticationGssContinue rest) e refl tt) (λ n8.
      pick (RequestReads payload) n 10 _ _ (λ e. whole (AuthenticationSasl rest) e refl tt) (λ n10.
      pick (RequestReads payload) n 11 _ _ (λ e. whole (AuthenticationSaslContinue rest) e refl tt) (λ n11.
      pick (RequestReads payload) n 12 _ _ (λ e. whole (AuthenticationSaslFinal rest) e refl tt) (λ n12.
      pick (RequestReads payload) n 0 _ _ (λ e. plain AuthenticationOk rest refl e refl tt) (λ n0.
      pick (RequestReads payload) n 2 _ _ (λ e. plain AuthenticationKerberosV5 rest refl e refl tt) (λ n2.
      pick (RequestReads payload) n 3 _ _ (λ e. plain AuthenticationCleartextPassword rest refl e refl tt) (λ n3.
      pick (RequestReads payload) n 5 _ _ (λ e. salted (salt_of rest) e (salt_reads rest)) (λ n5.
      pick (RequestReads payload) n 6 _ _ (λ e. plain AuthenticationScmCredential rest refl e refl tt) (λ n6.
      pick (RequestReads payload) n 7 _ _ (λ e. plain AuthenticationGss rest refl e refl tt) (λ n7.
      pick (RequestReads payload) n 9 _ _ (λ e. plain AuthenticationSspi rest refl e refl tt) (λ n9.
      let none : (q : Request) → code_of q ≢ n = λ q. elim q as (λ v. code_of v ≢ n) [
        | AuthenticationOk ↦ n0
        | AuthenticationKerberosV5 ↦ n2
        | AuthenticationCleartextPassword ↦ n3
        | AuthenticationMd5Password salt ↦ n5
        | AuthenticationScmCredential ↦ n6
        | AuthenticationGss ↦ n7
        | AuthenticationGssContinue bytes ↦ n8
        | AuthenticationSspi ↦ n9
        | AuthenticationSasl bytes ↦ n10
        | AuthenticationSaslContinue bytes ↦ n11
        | AuthenticationSaslFinal bytes ↦ n12
      ] in
      record {
        fits = read_sfits w32 n;
        more = rest;
        parts = spelled ∙ ap (λ l. l ++ rest) (sym (int32_spelled (cast_signed w32 n) ∙ ap uint32 (of_z-to_z w32 n lt)));
        unknown = unknown_signed n lt none;
      })))))))))))

pub request_reads : (payload : List ℕ) → IsBytes payload → RequestReads payload (request_of payload)
unfolding request_of
request_reads payload h = by_front (oid_at payload) refl
  where
    by_front : (o : Option (ℕ × List ℕ)) → oid_at payload ≡ o → RequestReads payload (o >>= λ code. by_code code.0 code.1)
    by_front None e = tt
    by_front (Some code) e =
        let a = code_takes payload code h e in
        code_reads payload code.1 code.0 a.parts a.fits

-- an unknown code is answered
by_unknown : (n : ℕ) (rest : List ℕ) → ((q : Request) → code_of q ≢ n) → by_code n rest ≡ Err (errors.UnknownAuthentication (cast_signed w32 n))
unfolding by_code bare_request
by_unknown n rest none =
    let P : Result Request Error → Type 0 = λ r. r ≡ Err (errors.UnknownAuthentication (cast_signed w32 n)) in
    pick P n 8 _ _ (λ e. absurd (none (AuthenticationGssContinue []) e)) (λ n8.
    pick P n 10 _ _ (λ e. absurd (none (AuthenticationSasl []) e)) (λ n10.
    pick P n 11 _ _ (λ e. absurd (none (AuthenticationSaslContinue []) e)) (λ n11.
    pick P n 12 _ _ (λ e. absurd (none (AuthenticationSaslFinal []) e)) (λ n12.
    pick P n 0 _ _ (λ e. absurd (none AuthenticationOk e)) (λ n0.
    pick P n 2 _ _ (λ e. absurd (none AuthenticationKerberosV5 e)) (λ n2.
    pick P n 3 _ _ (λ e. absurd (none AuthenticationCleartextPassword e)) (λ n3.
    pick P n 5 _ _ (λ e. absurd (none (AuthenticationMd5Password []) e)) (λ n5.
    pick P n 6 _ _ (λ e. absurd (none AuthenticationScmCredential e)) (λ n6.
    pick P n 7 _ _ (λ e. absurd (none AuthenticationGss e)) (λ n7.
    pick P n 9 _ _ (λ e. absurd (none AuthenticationSspi e)) (λ n9. refl)))))))))))

pub unknown_again : (code : ℤ) (more : List ℕ) → FitsSigned w32 code → ((q : Request) → pos (code_of q) ≢ code) → request_of (int32 code ++ more) ≡ Err (errors.UnknownAuthentication code)
unknown_again code more fits none =
    let n = cast_unsigned w32 code in
    ap (λ l. request_of (l ++ more)) (int32_spelled code) ∙ code_decides n more (omega (arith, Fits-of_z fits))
    ∙ by_unknown n more (unknown_unsigned code fits none) ∙ ap (λ z. Err (errors.UnknownAuthentication z)) (to_z-of_z w32 code fits)
