use Rattle.pgp_auth.proofs.Common.{◌≡◌, ◌≢◌, ℕ, List, ◌++◌, codes, sym, ap, ◌∙◌, append-nil, sha256, mac, xor_bytes, with_proof, ExpectsOf, challenge_of}
use Rattle.pgp_auth.specs.declared.scram.held.Challenged.{Challenged}
use Rattle.pgp_auth.proofs.ServerTexts.{expects_of, no_front, no_mark, with_shown, not_32, other_key, made_up, accepts_final, shows_final}
use Rattle.pgp_auth.proofs.UserNames.{stands_name}
use Rattle.pgp_auth.proofs.scram.serving.admit.Goals as goal

expects : {A : Type 0} (c : Challenged A) → ExpectsOf (challenge_of c) c.front.items c.auth.items
expects c = expects_of (challenge_of c) c.front.items c.auth.items (stands_name c.user.items c.user_text c.user_spelled) c.nonce_chars c.salt_bytes c.count_fits c.front_is c.auth_is

none_behind : (text front f : List ℕ) → f ≡ front → ((rest : List ℕ) → text ≢ f ++ rest) → (rest : List ℕ) → text ≢ front ++ rest
none_behind text front f same none rest is = none rest (is ∙ ap (λ l. l ++ rest) (sym same))

some_behind : (text front f rest : List ℕ) → f ≡ front → text ≡ f ++ rest → text ≡ front ++ rest
some_behind text front f rest same is = is ∙ ap (λ l. l ++ rest) same

pub returns-in_default-clause-err : goal.returns-in_default-clause-err
returns-in_default-clause-err g c =
    let ch = c.args.challenged.now in
    no_front (challenge_of ch) c.args.text.now ch.front.items ch.auth.items (expects ch) (none_behind c.args.text.now ch.front.items c.deref.result.now c.deref.ensures.value c.in_default.ensures)

pub returns-in_default-behind-clause-err : goal.returns-in_default-behind-clause-err
returns-in_default-behind-clause-err g c =
    let ch = c.args.challenged.now in
    let rest = c.in-Some.rest.now in
    no_mark (challenge_of ch) c.args.text.now ch.front.items ch.auth.items rest (expects ch)
    (some_behind c.args.text.now ch.front.items c.deref.result.now rest c.deref.ensures.value c.in-Some.ensures) c.in_default-behind.ensures

text_shown : (text front f rest shown : List ℕ) → f ≡ front → text ≡ f ++ rest → rest ≡ codes ",p=" ++ shown → text ≡ with_proof front shown
text_shown text front f rest shown same is rest_is = with_shown text front rest shown (some_behind text front f rest same is) rest_is

pub returns-in_default-proof_in-clause-err : goal.returns-in_default-proof_in-clause-err
returns-in_default-proof_in-clause-err g c =
    let ch = c.args.challenged.now in
    not_32 (challenge_of ch) c.args.text.now ch.front.items ch.auth.items c.in-Some-behind.shown.now (expects ch)
    (text_shown c.args.text.now ch.front.items c.deref.result.now c.in-Some.rest.now c.in-Some-behind.shown.now c.deref.ensures.value c.in-Some.ensures c.in-Some-behind.ensures) c.in_default-proof_in.ensures

pub returns-then-difference-ne0-clause-err : goal.returns-then-difference-ne0-clause-err
returns-then-difference-ne0-clause-err g c =
    let ch = c.args.challenged.now in
    let key : c.digest.result ≡ sha256 (xor_bytes c.in-Some-proof_in.proof.now (mac ch.verifier.stored_key ch.auth.items)) =
    c.digest.ensures ∙ ap sha256 (c.key_in-key.ensures.value ∙ ap (λ l. xor_bytes c.in-Some-proof_in.proof.now (mac ch.verifier.stored_key l)) c.deref-2.ensures.value) in
    other_key (challenge_of ch) c.args.text.now ch.front.items ch.auth.items c.in-Some-behind.shown.now c.in-Some-proof_in.proof.now (expects ch)
    (text_shown c.args.text.now ch.front.items c.deref.result.now c.in-Some.rest.now c.in-Some-behind.shown.now c.deref.ensures.value c.in-Some.ensures c.in-Some-behind.ensures) c.in-Some-proof_in.ensures.0 c.in-Some-proof_in.ensures.1
    (λ same. c.if-difference-ne0.true (c.difference.ensures.1 (sym (key ∙ same))))

pub returns-then-verifier-clause-err : goal.returns-then-verifier-clause-err
returns-then-verifier-clause-err g c =
    let ch = c.args.challenged.now in
    made_up (challenge_of ch) c.args.text.now ch.front.items ch.auth.items c.in-Some-behind.shown.now c.in-Some-proof_in.proof.now (expects ch)
    (text_shown c.args.text.now ch.front.items c.deref.result.now c.in-Some.rest.now c.in-Some-behind.shown.now c.deref.ensures.value c.in-Some.ensures c.in-Some-behind.ensures) c.in-Some-proof_in.ensures.0 c.in-Some-proof_in.ensures.1
    c.if-verifier.true

pub returns-clause-ok : goal.returns-clause-ok
returns-clause-ok g c =
    let ch = c.args.challenged.now in
    let key : c.digest.result ≡ sha256 (xor_bytes c.in-Some-proof_in.proof.now (mac ch.verifier.stored_key ch.auth.items)) =
    c.digest.ensures ∙ ap sha256 (c.key_in-key.ensures.value ∙ ap (λ l. xor_bytes c.in-Some-proof_in.proof.now (mac ch.verifier.stored_key l)) c.deref-2.ensures.value) in (
      c.if-verifier.false,
      accepts_final (challenge_of ch) c.args.text.now ch.front.items ch.auth.items c.in-Some-behind.shown.now c.in-Some-proof_in.proof.now (expects ch)
          (text_shown c.args.text.now ch.front.items c.deref.result.now c.in-Some.rest.now c.in-Some-behind.shown.now c.deref.ensures.value c.in-Some.ensures c.in-Some-behind.ensures) c.in-Some-proof_in.ensures.2 c.key_in-key.ensures.bytes c.in-Some-proof_in.ensures.0
          (sym key ∙ sym (c.difference.ensures.0 c.if-difference-ne0.false)),
      shows_final (challenge_of ch) ch.front.items ch.auth.items c.hmac_sha256.result c.final_text.result (expects ch) (rw (append-nil, c.deref-3.ensures.value) at c.hmac_sha256.ensures) c.final_text.ensures,
    )
