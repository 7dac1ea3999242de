use Rattle.pgp_auth.proofs.Common.{refl, standard, decode_of-encode_of, decode_of_strict}
use Rattle.pgp_auth.proofs.laws.base64_shows.Goals as goal

pub returns-clause-shows : goal.returns-clause-shows
returns-clause-shows c = λ bytes are_bytes. decode_of-encode_of standard bytes refl are_bytes

pub returns-clause-alone : goal.returns-clause-alone
returns-clause-alone c = λ text bytes are_bytes shows. decode_of_strict standard text bytes (refl, refl) are_bytes shows
