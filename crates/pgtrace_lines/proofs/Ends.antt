-- Where a stream isn't cut into frames.
use Rattle.pgtrace_lines.proofs.Common.{◌≡◌, ℕ, ◌<◌, Bool, true, false, List, [], ◌∷◌, ◌++◌, length, None, refl, sym, ap, ◌∙◌, append_assoc, arith, inl, inr, length-append, uint32, framed, IsLengthFault, begins_behind, Side, Server, Client, Ends, IsRefusedPacket, answered, Beginning, Messages, Replicating, Encrypted}
use Rattle.pgp_frontend_read.specs.Step as client

fault_stays : (rest piece : List ℕ) → IsLengthFault rest → IsLengthFault (rest ++ piece)
fault_stays rest piece f = record {
  header = record {
    tag = f.header.tag;
    len = f.header.len;
    rest = f.header.rest ++ piece;
    fits = f.header.fits;
    parts = ap (λ l. l ++ piece) f.header.parts ∙ append_assoc (f.header.tag ∷ uint32 f.header.len) f.header.rest piece;
  };
  small = f.small;
}

fault_some : (rest : List ℕ) → IsLengthFault rest → 0 < length rest
fault_some [] f = absurd (omega (arith, ap length f.header.parts))
fault_some (x ∷ xs) f = omega arith

-- what stands after some bytes changes nothing of which answer they begin with
pub answered_stays : (bytes more : List ℕ) → 0 < length bytes → answered bytes ≡ None → answered (bytes ++ more) ≡ None
answered_stays [] more some none = absurd (omega (arith, some))
answered_stays (x ∷ xs) more some none = none

length_stays : (opened : Bool) (rest piece : List ℕ) → client.IsLengthFault opened rest → client.IsLengthFault opened (rest ++ piece)
length_stays opened rest piece f = record { len = f.len; begins = begins_behind opened rest piece f.len f.begins; wrong = f.wrong }

packet_stays : (opened : Bool) (rest piece : List ℕ) → IsRefusedPacket opened rest → IsRefusedPacket opened (rest ++ piece)
packet_stays opened rest piece r = record {
  phase = r.phase;
  payload = r.payload;
  rest = r.rest ++ piece;
  fits = r.fits;
  whole = ap (λ l. l ++ piece) r.whole ∙ append_assoc (framed None r.payload) r.rest piece;
  error = r.error;
  blames = r.blames;
  none = λ kind m more after s. r.none kind m (piece ++ more) after (record { expected = s.expected; spelled = s.spelled; whole = sym (append_assoc rest piece more) ∙ s.whole });
}

-- what stopped a stream stays there
pub stays_ended : (side : Side) (rest piece : List ℕ) → Ends side true rest → Ends side true (rest ++ piece)
stays_ended (Server Beginning) rest piece f = (answered_stays rest piece (fault_some rest f.1) f.0, fault_stays rest piece f.1)
stays_ended (Server Messages) rest piece f = fault_stays rest piece f
stays_ended (Server Replicating) rest piece f = fault_stays rest piece f
stays_ended (Server Encrypted) rest piece some = omega (arith, some, length-append rest piece)
stays_ended (Client opened kinds replicating) rest piece (inl f) = inl (length_stays opened rest piece f)
stays_ended (Client opened kinds replicating) rest piece (inr r) = inr (packet_stays opened rest piece r)

-- and where nothing came, more is awaited
pub nothing_ends : (side : Side) → Ends side false []
nothing_ends (Server Beginning) = (refl, inl (omega arith))
nothing_ends (Server Messages) = inl (omega arith)
nothing_ends (Server Replicating) = inl (omega arith)
nothing_ends (Server Encrypted) = refl
nothing_ends (Client true kinds replicating) = inl (omega arith)
nothing_ends (Client false kinds replicating) = inl (omega arith)
