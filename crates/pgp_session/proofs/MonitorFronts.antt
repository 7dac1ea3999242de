-- The message at the front of bytes.
use Rattle.std.proofs.Common.{◌≡◌, ℕ, ◌+◌, ◌-◌, Bool, true, false, List, [], ◌++◌, length, take, Result, Some, None, Ok, Err, sym, ap, ◌∙◌, arith, inl, inr, append-nil, length-append}
use Rattle.pgp_base.specs.declared.error.Error.TheVariants as errors
use Rattle.pgp_session.proofs.Common.{BeginsWithNone, IsFront, IsOne, kind_of_fault, Kind, Event, Step, TakesFrame, frame_bytes, Stop, Error, kind_of, Message, take-append_seam, is_end}
use Rattle.pgp_session.specs.Monitor.{Admits, Passes, Shown}
use Rattle.pgp_session.specs.declared.monitor.Stop.TheVariants.{Misplaced, NoMessage, OutOfMemory}

length_left : (all front new rest : ℕ) → all ≡ front + new → rest ≡ new → all - rest ≡ front
length_left all front new rest whole same = omega (arith, whole, same)

alone : (old new : List ℕ) (r : Result Message Error) (t : TakesFrame old r new) → TakesFrame (frame_bytes t.first) r []
alone old new r t = record { first = t.first; whole = sym (append-nil (frame_bytes t.first)); fits = t.fits; body = t.body }

front : (old new rest : List ℕ) (r : Result Message Error) (k : Kind) → rest ≡ new → (t : TakesFrame old r new) → IsOne (frame_bytes t.first) k → IsFront old k (length old - length rest)
front old new rest r k same t one = record {
  frame = frame_bytes t.first;
  rest = new;
  whole = t.whole;
  is = one;
  len_is = length_left (length old) (length (frame_bytes t.first)) (length new) (length rest) (ap length t.whole ∙ length-append (frame_bytes t.first) new) (ap length same);
}

pub front_is : (old new rest : List ℕ) (m : Message) (k : Kind) → k ≡ kind_of m → rest ≡ new → TakesFrame old (Ok m) new → IsFront old k (length old - length rest)
front_is old new rest m k kind same t = front old new rest (Ok m) k same t (inl (m, alone old new (Ok m) t, kind))

-- the same of a tag that no message has
pub unread_front : (old new rest : List ℕ) (e : Error) (k : Kind) → kind_of_fault e ≡ Some k → rest ≡ new → Step ⊥ old (Err e) new → IsFront old k (length old - length rest)
unread_front old new rest (errors.UnknownTag tag) k kind same t =
    front old new rest (Err (errors.UnknownTag tag)) k same t (inr (errors.UnknownTag tag, alone old new (Err (errors.UnknownTag tag)) t, kind))
unread_front old new rest e k kind same t = cc

pub none_there : (old new : List ℕ) (e : Error) → kind_of_fault e ≡ None → Step ⊥ old (Err e) new → BeginsWithNone old
none_there old new errors.InvalidLength f s = inr (inl s.0)
none_there old new errors.OutOfMemory f s = absurd s.1
none_there old new e f s = inr (inr (e, new, s, f))

front_taken : (bytes : List ℕ) (k : Kind) (len : ℕ) (f : IsFront bytes k len) → take len bytes ≡ f.frame
front_taken bytes k len f = ap (λ (n : ℕ). take n bytes) f.len_is ∙ ap (take (length f.frame)) f.whole ∙ take-append_seam f.frame f.rest

-- a message that has no place there
pub not_admitted : (lacks : Type 0) (bytes : List ℕ) (k : Kind) (len : ℕ) (old new : Shown) (e : Stop) → IsFront bytes k len
    → Admits k (record { talk = old.talk; names = old.names; is_fresh = old.is_fresh; is_over = true; out = old.out }) new (Err e) → Passes lacks bytes old new (Err e)
not_admitted lacks bytes k len old new Misplaced f h = (inr (k, len, h.0.0, f, h.0.1), h.1)
not_admitted lacks bytes k len old new NoMessage f h = absurd h
not_admitted lacks bytes k len old new OutOfMemory f h = absurd h

-- the state after a message that was let through
pub passed_so : (old admitted : Shown) (over : Bool) (out bytes : List ℕ) (e : Event) (k : Kind) (len : ℕ) (f : IsFront bytes k len) → admitted.names ≡ old.names → admitted.out ≡ old.out
    → over ≡ is_end e → out ≡ admitted.out ++ take len bytes
    → (let m : Shown = record { talk = admitted.talk; names = admitted.names; is_fresh = false; is_over = over; out = out } in m)
    ≡ record { talk = admitted.talk; names = old.names; is_fresh = false; is_over = is_end e; out = old.out ++ f.frame }
passed_so old admitted over out bytes e k len f names kept ends grown =
    ap (λ (n : ℕ). let m : Shown = record { talk = admitted.talk; names = n; is_fresh = false; is_over = over; out = out } in m) names
    ∙ ap (λ (b : Bool). let m : Shown = record { talk = admitted.talk; names = old.names; is_fresh = false; is_over = b; out = out } in m) ends
    ∙ ap (λ (l : List ℕ). let m : Shown = record { talk = admitted.talk; names = old.names; is_fresh = false; is_over = is_end e; out = l } in m)
    (grown ∙ ap (λ (l : List ℕ). l ++ take len bytes) kept ∙ ap (λ (l : List ℕ). old.out ++ l) (front_taken bytes k len f))
