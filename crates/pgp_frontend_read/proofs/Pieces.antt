-- However the bytes are cut, the same messages are read.
use Rattle.pgp_frontend_read.proofs.Common.{ℕ, List, [], ◌∷◌, ◌++◌, Option, Result, ap, subst, ◌∙◌, append_assoc, ClientMessage, PasswordKind, bytes_of, Unread, Takes, Reads, HasRead, next_kind, kinds_behind, ClientError}
use Rattle.pgp_frontend_read.proofs.Steps.{left}

-- what was read, with bytes after it
pub took : (kind : PasswordKind) (old new : Unread) (m : ClientMessage) (more : List ℕ) → Takes kind old m new → Takes kind (left (old.bytes ++ more) old.opened) m (left (new.bytes ++ more) new.opened)
took kind old new m more t = record {
  stands = record {
    expected = t.stands.expected;
    spelled = t.stands.spelled;
    whole = ap (λ l. l ++ more) t.stands.whole ∙ append_assoc (bytes_of m) new.bytes more;
  };
  phase = t.phase;
}

pub pieces_read : (kinds rest : List PasswordKind) (old here new : Unread) (more : List ℕ) (messages others : List ClientMessage) (end : Result (Option ClientMessage) ClientError)
    → HasRead kinds old messages rest here → Reads rest (left (here.bytes ++ more) here.opened) others end new → Reads kinds (left (old.bytes ++ more) old.opened) (messages ++ others) end new
pieces_read kinds rest old here new more [] others end h r =
    subst (λ (u : Unread). Reads kinds (left (u.bytes ++ more) u.opened) others end new) h.1 (subst (λ ks. Reads ks (left (here.bytes ++ more) here.opened) others end new) h.0 r)
pieces_read kinds rest old here new more (m ∷ messages) others end h r =
    (left (h.0.bytes ++ more) h.0.opened, took (next_kind kinds) old h.0 m more h.1, pieces_read (kinds_behind m kinds) rest h.0 here new more messages others end h.2 r)
