use Rattle.pgp_auth.proofs.Common.{verifier_of}
use Rattle.pgp_auth.proofs.StoredTexts.{no_ones, other_stored_key, keys_compared, client_made, server_made}
use Rattle.pgp_auth.proofs.password.check.is_password.Goals as goal

pub returns-then-stored : goal.returns-then-stored
returns-then-stored g c = no_ones (verifier_of c.args.stored.now) c.args.password.now c.args.stored.now.is_mock c.if-stored.true

pub returns-then-from_stored-ne0 : goal.returns-then-from_stored-ne0
returns-then-from_stored-ne0 g c =
    other_stored_key (verifier_of c.args.stored.now) c.args.password.now c.digest-stored_key.result c.args.stored.now.is_mock c.difference-from_stored.result
    (client_made c.args.password.now c.args.stored.now.salt.items c.deref.result.now c.hi-salted.result c.hmac_sha256.result c.digest-stored_key.result c.args.stored.now.count
    c.digest-stored_key.ensures c.hmac_sha256.ensures c.hi-salted.ensures c.deref.ensures.value)
    c.difference-from_stored.ensures c.if-from_stored-ne0.true

pub returns : goal.returns
returns g c =
    keys_compared (verifier_of c.args.stored.now) c.args.password.now c.digest-stored_key.result c.hmac_sha256-server_key.result c.args.stored.now.is_mock c.difference-from_stored.result c.difference-from_server.result
    c.if-stored.false
    (client_made c.args.password.now c.args.stored.now.salt.items c.deref.result.now c.hi-salted.result c.hmac_sha256.result c.digest-stored_key.result c.args.stored.now.count
    c.digest-stored_key.ensures c.hmac_sha256.ensures c.hi-salted.ensures c.deref.ensures.value)
    (server_made c.args.password.now c.args.stored.now.salt.items c.deref.result.now c.hi-salted.result c.hmac_sha256-server_key.result c.args.stored.now.count
    c.hmac_sha256-server_key.ensures c.hi-salted.ensures c.deref.ensures.value)
    c.difference-from_stored.ensures c.difference-from_server.ensures c.if-from_stored-ne0.false
