use Rattle.pgp_auth.proofs.Common.{◌++◌, IsUtf8, md5}
use Rattle.pgp_auth.proofs.Digits.{digits_are_text, text_passes}
use Rattle.pgp_auth.proofs.md5_text.digest_text.Goals as goal

pub unwrap-requires : goal.unwrap-requires
unwrap-requires g c =
    let digits : IsUtf8 c.digest_hex-digits.result = rw c.digest_hex-digits.ensures (digits_are_text (md5 (c.args.first.now ++ c.args.second.now))) in
    text_passes _ _ _ c.from_utf8.result digits c.from_utf8.ensures.cases
