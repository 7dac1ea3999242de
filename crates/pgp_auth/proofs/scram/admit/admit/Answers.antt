use Rattle.pgp_auth.proofs.Common.{rules, parts_of}
use Rattle.pgp_auth.proofs.Grants.{refused_parts}
use Rattle.pgp_auth.proofs.scram.admit.admit.Goals as goal

pub returns-clause-err : goal.returns-clause-err
returns-clause-err g c =
    refused_parts c.grant.result _ c.args.client_nonce.now c.args.message.now (parts_of c.in_ok-parts.parts) (search rules) c.in_ok-parts.ensures c.grant.ensures.err
