-- A frame at the front, by its header.
use Rattle.pgp_uses.proofs.Common.{◌≡◌, ℕ, ℤ, pos, negsuc, ◌+◌, ◌≤◌, ◌≤ℤ◌, List, ◌∷◌, ◌++◌, length, take, drop, refl, sym, ap, subst, ◌∙◌, arith, inl, inr, length-take, length-take-le, length-drop, take-append_seam, nat_abs, Held, ◌⊕◌, uint32, IsBytes, Frame, frame_bytes, BeginsWithHeader}
use Rattle.std.proofs.Math.Dec.{T}
use Rattle.std.proofs.lemmas.Bool.Decides.{leb_tells}
use Rattle.pgp_types.proofs.PartLemmas.{int32_pos}
use Rattle.pgp_message.specs.FrontReading.{front_frame, announced}
use Rattle.pgp_message.specs.Header.{HeaderPart, IsHeader}
use Rattle.pgp_message.proofs.Cuts.{cut, front_of}
use Rattle.pgp_message.proofs.Fronts.{header_announced}
use Rattle.pgp_uses.specs.Filter.{PassesFrame, LacksFrame}

abbrev header_part : ℕ → ℤ → HeaderPart
header_part tag len = record { tag = tag; len = len }

frame_size : (f : Frame) → length (frame_bytes f) ≡ 5 + length f.payload
unfolding uint32
frame_size f = omega arith

at_least : (m n : ℕ) → pos m ≤ℤ pos n → m ≤ n
at_least m n le = elim (leb_tells m n) [ inl w ↦ w.1 | inr w ↦ absurd (subst T w.0 le.le) ]

passes : {K : Type 0} (limit : ℤ) (received : List ℕ) (tag : ℕ) (len : ℤ) (size : ℕ) (old new : Held K)
    → IsBytes received → IsHeader received (header_part tag len) → pos 4 ≤ℤ len → len ≤ℤ limit → size ≡ nat_abs len + 1 → size ≤ length received → new ≡ old ⊕ take size received → PassesFrame limit received size old new
passes limit received tag (pos n) size old new bytes is least within total there passed =
    let header : BeginsWithHeader received = record { tag = tag; len = n; rest = is.rest; fits = omega (arith, is.fits); parts = is.parts ∙ ap (λ l. tag ∷ l ++ is.rest) (int32_pos n) } in
    let four : 4 ≤ n = at_least 4 n least in
    let announces : announced received ≡ n = header_announced received header in
    let whole_there : n + 1 ≤ length received = omega (arith, total, there) in
    let front = cut received n bytes header.fits (sym announces) four whole_there in
    let frame = front_frame (front_of received n) received in
    let payload_size : length frame.payload + 4 ≡ n = omega (arith, length-drop 5 (take (n + 1) received), length-take (n + 1) received, whole_there, four) in
    let size_is : size ≡ length (frame_bytes frame) = omega (arith, frame_size frame, payload_size, total) in
    let same : take size received ≡ frame_bytes frame = ap (λ k. take k received) size_is ∙ (ap (take (length (frame_bytes frame))) front.whole ∙ take-append_seam (frame_bytes frame) (drop (n + 1) received)) in
    record {
      frame = frame;
      rest = drop (n + 1) received;
      whole = front.whole;
      fits = front.fits;
      within = rw payload_size within;
      size_is = size_is;
      passed = passed ∙ ap (λ p. old ⊕ p) same;
    }
passes limit received tag (negsuc n) size old new bytes is least within total there passed = absurd least.le

pub passes_frame : {K : Type 0} (limit : ℤ) (received : List ℕ) (header : HeaderPart) (size : ℕ) (old new : Held K)
    → IsBytes received → IsHeader received header → pos 4 ≤ℤ header.len → header.len ≤ℤ limit → size ≡ nat_abs header.len + 1 → size ≤ length received → new ≡ old ⊕ take size received → PassesFrame limit received size old new
passes_frame limit received header size old new = passes limit received header.tag header.len size old new

-- a growth by it was refused
lacks_at : {K : Type 0} (lacks : Held K → ℕ → Type 0) (limit : ℤ) (received : List ℕ) (tag : ℕ) (len : ℤ) (size : ℕ) (old : Held K)
    → IsHeader received (header_part tag len) → pos 4 ≤ℤ len → len ≤ℤ limit → size ≡ nat_abs len + 1 → size ≤ length received → lacks old (length (take size received)) → LacksFrame limit received lacks old
lacks_at lacks limit received tag (pos n) size old is least within total there refused = record {
  header = header_part tag (pos n);
  begins = is;
  least = least;
  within = within;
  len = n;
  len_is = refl;
  whole = omega (arith, total, there);
  refused = subst (λ (k : ℕ). lacks old k) (length-take-le size received there ∙ total) refused;
}
lacks_at lacks limit received tag (negsuc n) size old is least within total there refused = absurd least.le

pub lacks_frame : {K : Type 0} (lacks : Held K → ℕ → Type 0) (limit : ℤ) (received : List ℕ) (header : HeaderPart) (size : ℕ) (old : Held K)
    → IsHeader received header → pos 4 ≤ℤ header.len → header.len ≤ℤ limit → size ≡ nat_abs header.len + 1 → size ≤ length received → lacks old (length (take size received)) → LacksFrame limit received lacks old
lacks_frame lacks limit received header size old = lacks_at lacks limit received header.tag header.len size old
