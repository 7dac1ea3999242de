-- What the server answers is accepted by the client.
use Rattle.pgp_auth.proofs.Common.{◌≡◌, ℕ, zero, suc, ◌+◌, ◌*◌, ◌/◌, ◌%◌, ◌<◌, true, List, [], ◌∷◌, ◌++◌, length, replicate, slice_index, refl, sym, ap, ◌∙◌, arith, inl, inr, codes, AllPass, length-append, All-nil, All-cons, All-append, All-replicate, AllPass-from_list_all, encode_symbols, encode_group, padding_len, standard, decode_of-encode_of, IsBytes, base64, verifier, Binding, is_base64_char, IfErr, Result, Ok, Err, ScramError, refusal, Signs, Refusal, OutOfMemory, Meets, Verifies, Begun, AwaitsFirst, AwaitsFinal, Client, Answers, UpdateRefuses, UpdateRefused, FinishRefuses, FinishRefused, Serves, first_text, signature_of, NotVerified}
use Rattle.std.specs.Prelude.{All}
use Rattle.base64.proofs.RoundTrip.{length-encode_symbols}
use Rattle.pgp_auth.proofs.Grants.{meets_not_refused}
use Rattle.pgp_auth.proofs.Once.{meets_once, signs_once, verified_memory}
use Rattle.pgp_auth.proofs.ServerSide.{mac_bytes, length-mac}

abbrev Passes : ℕ → Type 0
Passes c = is_base64_char c ≡ true

table : (i : ℕ) → i < 64 → Passes (slice_index standard.encode_table i)
table i lt = AllPass-from_list_all is_base64_char standard.encode_table refl i 0 lt

abbrev symbols : List ℕ → List ℕ
symbols m = encode_symbols standard.encode_table m

abbrev at : ℕ → ℕ
at i = slice_index standard.encode_table i

two : (i j : ℕ) → i < 64 → j < 64 → All Passes (at i ∷ at j ∷ [])
two i j a b = All-cons Passes (at i) (at j ∷ []) (table i a) (All-cons Passes (at j) [] (table j b) (All-nil Passes))

three : (i j k : ℕ) → i < 64 → j < 64 → k < 64 → All Passes (at i ∷ at j ∷ at k ∷ [])
three i j k a b c = All-cons Passes (at i) (at j ∷ at k ∷ []) (table i a) (two j k b c)

four : (i j k l : ℕ) → i < 64 → j < 64 → k < 64 → l < 64 → All Passes (at i ∷ at j ∷ at k ∷ at l ∷ [])
four i j k l a b c d = All-cons Passes (at i) (at j ∷ at k ∷ at l ∷ []) (table i a) (three j k l b c d)

encoded : (m : List ℕ) → IsBytes m → All Passes (symbols m)
unfolding encode_symbols
encoded [] bytes = All-nil Passes
encoded (a ∷ []) bytes =
    let la : a < 256 = bytes 0 in
    two (a / 4) (a % 4 * 16) (omega arith) (omega arith)
encoded (a ∷ b ∷ []) bytes =
    let la : a < 256 = bytes 0 in
    let lb : b < 256 = bytes 1 in
    three (a / 4) (a % 4 * 16 + b / 16) (b % 16 * 4) (omega arith) (omega arith) (omega arith)
encoded (a ∷ b ∷ c ∷ rest) bytes =
    let la : a < 256 = bytes 0 in
    let lb : b < 256 = bytes 1 in
    let lc : c < 256 = bytes 2 in
    All-append Passes (encode_group standard.encode_table a b c) (symbols rest)
    (four (a / 4) (a % 4 * 16 + b / 16) (b % 16 * 4 + c / 64) (c % 64) (omega arith) (omega arith) (omega arith) (omega arith))
    (encoded rest (λ i. bytes (suc (suc (suc i)))))

pub base64_chars : (m : List ℕ) → IsBytes m → AllPass is_base64_char (base64 m)
base64_chars m bytes =
    All-append Passes (symbols m) (replicate (padding_len (length m)) 61) (encoded m bytes) (All-replicate Passes (padding_len (length m)) 61 refl)

length_padding : (n x : ℕ) → length (replicate n x) ≡ n
length_padding zero x = refl
length_padding (suc n) x = let rest = length_padding n x in omega arith

pub base64_len : (m : List ℕ) → length m ≡ 32 → length (base64 m) ≡ 44
base64_len m len =
    let front = length-encode_symbols standard.encode_table m in
    let back = length_padding (padding_len (length m)) 61 in
    let both = length-append (symbols m) (replicate (padding_len (length m)) 61) in
    omega arith

-- the server's text
pub shows_signature : (signature : List ℕ) → IsBytes signature → Verifies signature (codes "v=" ++ base64 signature)
shows_signature signature bytes = record {
  shown = base64 signature;
  text_is = record { text_is = refl; chars = base64_chars signature bytes };
  shows = decode_of-encode_of standard signature refl bytes;
}

pub accepts_server : (old new : Client) (text signature : List ℕ) (a : Answers old text new)
    → Signs (verifier a.begun.password a.salt a.count) a.begun.binding (first_text a.begun) text signature
    → Verifies (signature_of a.answered) (codes "v=" ++ base64 signature)
accepts_server old new text signature a s =
    let same : signature ≡ signature_of a.answered = signs_once _ a.begun.binding (first_text a.begun) text signature (signature_of a.answered) s a.signs in
    rw same (shows_signature (signature_of a.answered) (mac_bytes _ _))

pub never_refused : (lacks : Type 0) (old new : Client) (text signature : List ℕ) (a : Answers old text new)
    → Signs (verifier a.begun.password a.salt a.count) a.begun.binding (first_text a.begun) text signature
    → (e : Refusal) (before after : ℕ) → ¬ NotVerified lacks (signature_of a.answered) (codes "v=" ++ base64 signature) e before after
unfolding shows_signature
never_refused lacks old new text signature a s e before after refused =
    let same : signature ≡ signature_of a.answered = signs_once _ a.begun.binding (first_text a.begun) text signature (signature_of a.answered) s a.signs in
    let moved : NotVerified lacks (signature_of a.answered) (codes "v=" ++ base64 (signature_of a.answered)) e before after = rw same at refused in
    let v = shows_signature (signature_of a.answered) (mac_bytes _ _) in
    let memory = verified_memory lacks _ (signature_of a.answered) e before after v moved in
    let far : 64 < length (base64 (signature_of a.answered)) = memory.2 in
    let len = base64_len (signature_of a.answered) (length-mac _ _) in
    omega arith

same_begun : (a b : Begun) → AwaitsFirst a ≡ AwaitsFirst b → a ≡ b
same_begun a b e = cc

pub update_memory : (lacks : Type 0) (old new : Client) (f g : List ℕ) (e : Refusal) → Serves old.state f g → UpdateRefused lacks old f e new → (e ≡ OutOfMemory) × lacks
update_memory lacks old new f g e s r = from_why s (rw s.due at r.why)
  where
    from_why : (s : Serves old.state f g) → UpdateRefuses lacks (AwaitsFirst s.begun) f e old.hmacs new.hmacs → (e ≡ OutOfMemory) × lacks
    from_why s (inl cause) = absurd (meets_not_refused s.begun.nonce f s.nonce s.salt s.count e s.meets cause.0)
    from_why s (inr memory) = (memory.0, memory.1)

signs_for : (password : List ℕ) (salt salt' : List ℕ) (count count' : ℕ) (b : Binding) (first f x : List ℕ) → salt ≡ salt' → count ≡ count'
    → Signs (verifier password salt count) b first f x → Signs (verifier password salt' count') b first f x
signs_for password salt salt' count count' b first f x e d s = rw (← e, ← d) s

answered_signs : (old mid : Client) (f g : List ℕ) (s : Serves old.state f g) (a : Answers old f mid)
    → Signs (verifier a.begun.password a.salt a.count) a.begun.binding (first_text a.begun) f s.signature
answered_signs old mid f g s a =
    let same : s.begun ≡ a.begun = same_begun s.begun a.begun (sym s.due ∙ a.due) in
    let meets : Meets a.begun.nonce f s.nonce s.salt s.count = rw same at s.meets in
    let once = meets_once a.begun.nonce f s.nonce s.salt a.nonce a.salt s.count a.count meets a.meets in
    let signs : Signs (verifier a.begun.password s.salt s.count) a.begun.binding (first_text a.begun) f s.signature = rw same at s.signs in
    signs_for a.begun.password s.salt a.salt s.count a.count a.begun.binding (first_text a.begun) f s.signature once.1 once.2 signs

pub finish_never : (lacks : Type 0) (old mid new : Client) (f g : List ℕ) (e : Refusal) → Serves old.state f g → Answers old f mid → FinishRefused lacks mid g e new → ⊥
finish_never lacks old mid new f g e s a r =
    let state : mid.state ≡ AwaitsFinal a.answered = ap (λ (x : Client). x.state) a.new_is in
    let why : FinishRefuses lacks (AwaitsFinal a.answered) g e mid.hmacs new.hmacs = rw state at r.why in
    let moved : FinishRefuses lacks (AwaitsFinal a.answered) (codes "v=" ++ base64 s.signature) e mid.hmacs new.hmacs = rw s.final_is at why in
    never_refused lacks old mid f s.signature a (answered_signs old mid f g s a) e mid.hmacs new.hmacs moved

pub finish_memory : {A : Type 0} (lacks : Type 0) (r : Result (Unit {0}) (ScramError A)) (old mid new : Client) (f g : List ℕ) → Serves old.state f g → Answers old f mid
    → IfErr r (λ e. FinishRefused lacks mid g (refusal e) new) → IfErr r (λ e. (refusal e ≡ OutOfMemory) × lacks)
finish_memory lacks (Ok u) old mid new f g s a h = tt
finish_memory lacks (Err e) old mid new f g s a h = absurd (finish_never lacks old mid new f g (refusal e) s a h)
