-- Private: what contracts see of the private types of a reading.
use Rattle.std.specs.Prelude.{ℕ, Bool}
use Rattle.pgp_auth.specs.declared.scram.reading.Alphabet.{Alphabet}
use Rattle.pgp_auth.specs.declared.scram.reading.Alphabet.TheVariants as alphabet
use Rattle.pgp_auth.specs.declared.scram.reading.ServerFirst.{ServerFirst}
use Rattle.pgp_auth.specs.declared.scram.admit.Granted.{Granted as CodeGranted}
use Rattle.pgp_auth.specs.ScramText.{is_nonce_char, is_base64_char, is_value_char, is_attribute_char, is_digit}
use Rattle.pgp_auth.specs.ScramReading.{FirstParts, Granted}

abbrev pub admits : Alphabet → ℕ → Bool
admits alphabet.Nonce c = is_nonce_char c
admits alphabet.Base64 c = is_base64_char c
admits alphabet.Digits c = is_digit c
admits alphabet.Value c = is_value_char c
admits alphabet.Attribute c = is_attribute_char c

abbrev pub parts_of : ServerFirst → FirstParts
parts_of p = record { nonce = p.nonce.now; salt_text = p.salt.now; count = p.count }

abbrev pub granted_of : {A : Type 0} → CodeGranted A → Granted
granted_of g = record { nonce = g.nonce.now; salt = g.salt.items; count = g.count }
