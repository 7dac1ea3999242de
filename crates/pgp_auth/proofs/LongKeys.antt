-- A key that is longer than a block and its digest make the same codes.
use Rattle.pgp_auth.proofs.Common.{◌≡◌, ℕ, zero, suc, ◌-◌, ◌<◌, ◌≤◌, true, false, List, length, refl, sym, ◌∙◌, arith, nat_lt, nat_tests, sha256, length-sha256, block, padded, mac, nth_code, xor_of_codes, salted}

hashed : (key : List ℕ) → nat_lt 64 (length key) ≡ true → block key ≡ padded (sha256 key)
hashed key long = rw long refl

kept : (key : List ℕ) → nat_lt 64 (length key) ≡ false → block key ≡ padded key
kept key short = rw short refl

is_long : (n : ℕ) → 64 < n → nat_lt 64 n ≡ true
is_long n long = grind (arith, nat_tests)

is_short : (n : ℕ) → n ≤ 64 → nat_lt 64 n ≡ false
is_short n short = grind (arith, nat_tests)

long_block : (key : List ℕ) → 64 < length key → block key ≡ block (sha256 key)
long_block key long =
    let digest : length (sha256 key) ≤ 64 = omega (arith, length-sha256 key) in
    hashed key (is_long (length key) long) ∙ sym (kept (sha256 key) (is_short (length (sha256 key)) digest))

long_mac : (key message : List ℕ) → 64 < length key → mac key message ≡ mac (sha256 key) message
unfolding mac
long_mac key message long = rw (long_block key long) refl

long_nth : (key salt : List ℕ) (n : ℕ) → 64 < length key → nth_code key salt n ≡ nth_code (sha256 key) salt n
unfolding nth_code
long_nth key salt zero long = long_mac key _ long
long_nth key salt (suc n) long = rw (long_nth key salt n long) (long_mac key (nth_code (sha256 key) salt n) long)

long_xor : (key salt : List ℕ) (n : ℕ) → 64 < length key → xor_of_codes key salt n ≡ xor_of_codes (sha256 key) salt n
unfolding xor_of_codes
long_xor key salt zero long = long_nth key salt zero long
long_xor key salt (suc n) long = rw (long_xor key salt n long, long_nth key salt (suc n) long) refl

pub long_salted : (key salt : List ℕ) (count : ℕ) → 64 < length key → salted key salt count ≡ salted (sha256 key) salt count
long_salted key salt count long = long_xor key salt (count - 1) long
