use Rattle.pgp_auth.proofs.Common.{◌≡◌}
use Rattle.pgp_auth.proofs.StoredTexts.{no_key}
use Rattle.pgp_auth.proofs.scram.stored.key_of.Goals as goal

pub returns-in_default : goal.returns-in_default
returns-in_default c = no_key c.args.shown.now c.in_default.ensures

pub returns : goal.returns
returns c =
    let same : c.copy_from_slice.new.self ≡ c.in-Some.bytes.now = c.copy_from_slice.ensures.after in (
      record { bytes = rw same c.are_bytes.ensures; len = rw same c.in-Some.ensures.0 },
      rw same c.in-Some.ensures.2,
    )
