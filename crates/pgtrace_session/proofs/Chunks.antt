-- A chunk as it is read, and as the grammar says.
use Rattle.pgtrace_session.proofs.Common.{◌≡◌, ◌≢◌, ℕ, ◌+◌, ◌<◌, ◌≤◌, ◌^◌, List, ◌∷◌, ◌++◌, length, take, drop, sym, ap, subst, ◌∙◌, arith, append_assoc, w32, w64, from_be_bytes, take-append-drop, length-take, uint32, uint64, IsBytes, IsBytes-drop, IsBytes-take, oid_number, uint64_number, Sender, IsShort, arrow, magic, TakesChunk}

-- the time and the length after the first byte, as they are cut off
pub record AreCut (bytes a more b behind : List ℕ) : Type 0 where
  pub each : IsBytes bytes
  pub time : (a ≡ take 8 bytes) × (more ≡ drop 8 bytes) × (length more + 8 ≡ length bytes)
  pub size : (b ≡ take 4 more) × (behind ≡ drop 4 more) × (length behind + 4 ≡ length more)

front_bytes : (n : ℕ) (bytes front : List ℕ) → IsBytes bytes → front ≡ take n bytes → IsBytes front
front_bytes n bytes front each e = subst IsBytes (sym e) (IsBytes-take n bytes each)

front_long : (n : ℕ) (bytes front : List ℕ) → front ≡ take n bytes → n ≤ length bytes → length front ≡ n
front_long n bytes front e le = ap length e ∙ let h = length-take n bytes in omega (arith, h, le)

-- they are bytes, and so many
time_bytes : (bytes a more b behind : List ℕ) → AreCut bytes a more b behind → IsBytes a × (length a ≡ 8)
time_bytes bytes a more b behind c = (front_bytes 8 bytes a c.each c.time.0, front_long 8 bytes a c.time.0 (omega (arith, c.time.2)))

size_bytes : (bytes a more b behind : List ℕ) → AreCut bytes a more b behind → IsBytes b × (length b ≡ 4)
size_bytes bytes a more b behind c = (front_bytes 4 more b (subst IsBytes (sym c.time.1) (IsBytes-drop 8 bytes c.each)) c.size.0, front_long 4 more b c.size.0 (omega (arith, c.size.2)))

numbers : (bytes a more b behind : List ℕ) → AreCut bytes a more b behind → bytes ≡ uint64 (from_be_bytes w64 a) ++ uint32 (from_be_bytes w32 b) ++ behind
numbers bytes a more b behind c =
    let time = time_bytes bytes a more b behind c in
    let size = size_bytes bytes a more b behind c in
    sym (take-append-drop 8 bytes)
    ∙ ap (λ l. l ++ drop 8 bytes) (sym c.time.0 ∙ sym (uint64_number.spelled a time.0 time.1))
    ∙ ap (λ l. uint64 (from_be_bytes w64 a) ++ l) (sym c.time.1 ∙ sym (take-append-drop 4 more) ∙ ap (λ l. l ++ drop 4 more) (sym c.size.0 ∙ sym (oid_number.spelled b size.0 size.1)) ∙ ap (λ l. uint32 (from_be_bytes w32 b) ++ l) (sym c.size.1))
    ∙ sym (append_assoc (uint64 (from_be_bytes w64 a)) (uint32 (from_be_bytes w32 b)) behind)

-- bytes are missing
pub short : (bytes a more b behind : List ℕ) (len : ℕ) → AreCut bytes a more b behind → len ≡ from_be_bytes w32 b → length behind < len → IsShort bytes
short bytes a more b behind len c el missing = record {
  micros = from_be_bytes w64 a;
  len = from_be_bytes w32 b;
  rest = behind;
  time = let t = time_bytes bytes a more b behind c in uint64_number.fits a t.0;
  fits = let s = size_bytes bytes a more b behind c in oid_number.fits b s.0;
  parts = numbers bytes a more b behind c;
  missing = subst (λ n. length behind < n) el missing;
}

-- all of them are there
pub whole : (who : Sender) (bytes a more b behind body rest : List ℕ) (micros len : ℕ) → AreCut bytes a more b behind → micros ≡ from_be_bytes w64 a → len ≡ from_be_bytes w32 b
    → body ≡ take len behind → rest ≡ drop len behind → len ≤ length behind → TakesChunk (record { sender = who; micros = micros; bytes = body }) (arrow who ∷ bytes) rest
whole who bytes a more b behind body rest micros len c em el eb ed le =
    let time = time_bytes bytes a more b behind c in
    let size = size_bytes bytes a more b behind c in
    let long : length body ≡ from_be_bytes w32 b = front_long len behind body eb le ∙ el in
    record {
      is = record { time = subst (λ n. n < 2 ^ 64) (sym em) (uint64_number.fits a time.0); fits = subst (λ n. n < 2 ^ 32) (sym long) (oid_number.fits b size.0) };
      whole = ap (λ l. arrow who ∷ l) (
          numbers bytes a more b behind c
          ∙ ap (λ n. uint64 n ++ uint32 (from_be_bytes w32 b) ++ behind) (sym em)
          ∙ ap (λ n. uint64 micros ++ uint32 n ++ behind) (sym long)
          ∙ ap (λ l. uint64 micros ++ uint32 (length body) ++ l) (sym (take-append-drop len behind) ∙ ap (λ l. l ++ drop len behind) (sym eb) ∙ ap (λ l. body ++ l) (sym ed))
          ∙ sym (append_assoc (uint64 micros ++ uint32 (length body)) body rest));
    }

-- no beginning of a recording is shorter
pub magic_short : (bytes more : List ℕ) → length bytes < 20 → bytes ≢ magic ++ more
magic_short bytes more lt e = let h = ap length e in omega (arith, lt, h)
