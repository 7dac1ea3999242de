use Rattle.pgp_auth.proofs.Common.{◌≡◌, codes, append-nil, mac}
use Rattle.pgp_auth.proofs.Codes.{code_is}
use Rattle.pgp_auth.proofs.scram.verify.server_signature.Goals as goal

pub returns-clause-value : goal.returns-clause-value
returns-clause-value g c =
    let one : c.counted_code-server_key.result ≡ mac c.args.signed.now.key (codes "Server Key") = rw (c.new.ensures, code_is) at c.counted_code-server_key.ensures.value in
    rw (c.new-2.ensures, code_is, append-nil, c.deref.ensures.value, one) at c.counted_code.ensures.value
