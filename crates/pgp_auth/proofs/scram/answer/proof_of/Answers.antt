use Rattle.pgp_auth.proofs.Common.{◌≡◌, refl, append-nil, sha256, mac, client_key}
use Rattle.pgp_auth.proofs.Codes.{code_is}
use Rattle.pgp_auth.proofs.scram.answer.proof_of.Goals as goal

pub returns-clause-value : goal.returns-clause-value
returns-clause-value c =
    let one : c.counted_code-proof.result ≡ client_key c.args.key.now = rw (c.new.ensures, code_is) at c.counted_code-proof.ensures.value in
    let two : c.counted_code-signature.result ≡ mac (sha256 c.counted_code-proof.result) c.args.auth.now =
    rw (c.new-2.ensures, code_is, append-nil, c.digest-stored_key.ensures) at c.counted_code-signature.ensures.value in
    rw (c.xor_into.ensures, two, one) refl
