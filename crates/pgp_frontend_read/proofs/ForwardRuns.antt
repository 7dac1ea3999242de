-- Messages that were read one after the other, written again: the same bytes.
use Rattle.pgp_frontend_read.proofs.Common.{◌≡◌, ℕ, List, [], ◌∷◌, ◌++◌, Ok, sym, ap, ◌∙◌, append_assoc, flat_map, Held, ◌⊕◌, nothing_more, more_twice, ClientMessage, PasswordKind, ClientRun, bytes_of, Forwards, WritesAll, HasRead, kinds_behind, Unread}

-- ---- what was read

all_read : (kinds rest : List PasswordKind) (from here : Unread) (messages : List ClientMessage) → HasRead kinds from messages rest here → from.bytes ≡ flat_map bytes_of messages ++ here.bytes
all_read kinds rest from here [] h = sym (ap (λ (u : Unread). u.bytes) h.1)
all_read kinds rest from here (m ∷ messages) h =
    h.1.stands.whole ∙ ap (λ l. bytes_of m ++ l) (all_read (kinds_behind m kinds) rest h.0 here messages h.2) ∙ sym (append_assoc (bytes_of m) (flat_map bytes_of messages) here.bytes)

-- ---- what was written

module _ {K : Type 0} where
  pub written_then : (old here new : Held K) (front back : List ℕ) → here ≡ old ⊕ front → new ≡ here ⊕ back → new ≡ old ⊕ (front ++ back)
  written_then old here new front back e f = f ∙ ap (λ (h : Held K). h ⊕ back) e ∙ more_twice old front back

module _ {K : Type 0} (lacks : Held K → ℕ → Type 0) where
  pub all_written : (messages : List ClientMessage) (old new : Held K) → WritesAll lacks messages old new → new ≡ old ⊕ flat_map bytes_of messages
  all_written [] old new w = w ∙ sym (nothing_more old)
  all_written (m ∷ messages) old new w = written_then old w.0 new (bytes_of m) (flat_map bytes_of messages) w.1.1.1 (all_written messages w.0 new w.2)

  pub run_forwards : (kinds rest : List PasswordKind) (from here : Unread) (messages : List ClientMessage) (old new : Held K) → HasRead kinds from messages rest here → WritesAll lacks messages old new → Forwards lacks from.bytes here.bytes old new (Ok tt)
  run_forwards kinds rest from here messages old new h w = record { stood = flat_map bytes_of messages; whole = all_read kinds rest from here messages h; appends = all_written messages old new w }

  pub session_forwards : (kinds : List PasswordKind) (messages : List ClientMessage) (bytes : List ℕ) (old new : Held K) → ClientRun kinds messages bytes → WritesAll lacks messages old new → new ≡ old ⊕ bytes
  session_forwards kinds messages bytes old new run w = all_written messages old new w ∙ ap (λ l. old ⊕ l) (sym run.whole)
