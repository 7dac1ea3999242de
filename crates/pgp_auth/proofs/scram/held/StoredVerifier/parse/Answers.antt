use Rattle.pgp_auth.proofs.Common.{if_err_at, pieces_of}
use Rattle.pgp_auth.proofs.StoredTexts.{not_parts, no_stored_key, no_server_key, no_salt_in, stores}
use Rattle.pgp_auth.proofs.scram.held.StoredVerifier.parse.Goals as goal

pub returns-in_default-clause-err : goal.returns-in_default-clause-err
returns-in_default-clause-err g c = not_parts g.A.Memory.Lacks c.args.text.now _ c.in_default.ensures

pub returns-in_default-key_of-clause-err : goal.returns-in_default-key_of-clause-err
returns-in_default-key_of-clause-err g c = no_stored_key g.A.Memory.Lacks c.args.text.now (pieces_of c.in-Ok.pieces) c.in-Ok.ensures c.in_default-key_of.ensures

pub returns-in_default-key_of-2-clause-err : goal.returns-in_default-key_of-2-clause-err
returns-in_default-key_of-2-clause-err g c = no_server_key g.A.Memory.Lacks c.args.text.now (pieces_of c.in-Ok.pieces) c.in-Ok.ensures c.in_default-key_of-2.ensures

pub returns-in_err-salt-clause-err : goal.returns-in_err-salt-clause-err
returns-in_err-salt-clause-err g c =
    if_err_at c.from_residual.result _ _ c.from_residual.ensures.1
    (no_salt_in g.A.Memory.Lacks c.args.text.now (pieces_of c.in-Ok.pieces) c.in-Some.stored_key c.in-Some-key_of.server_key _ c.in-Ok.ensures c.in-Some.ensures.0 c.in-Some.ensures.1
    c.in-Some-key_of.ensures.0 c.in-Some-key_of.ensures.1 c.in_err-salt.ensures.err)

pub returns-clause-ok : goal.returns-clause-ok
returns-clause-ok g c =
    stores c.args.text.now (pieces_of c.in-Ok.pieces) c.in_ok-salt.salt.items c.in-Some.stored_key c.in-Some-key_of.server_key c.in-Ok.ensures c.in-Some.ensures.0 c.in-Some.ensures.1
    c.in-Some-key_of.ensures.0 c.in-Some-key_of.ensures.1 c.in_ok-salt.ensures.ok.0 c.in_ok-salt.ensures.ok.1
