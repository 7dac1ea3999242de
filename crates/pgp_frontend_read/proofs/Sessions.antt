-- A chain of steps: one more after the others, and what ends it.
use Rattle.pgp_frontend_read.proofs.Common.{ℕ, ◌+◌, ◌<◌, List, [], ◌∷◌, ◌++◌, length, Option, Some, None, Result, Ok, refl, ap, subst, arith, length-append, ClientError, uint32, length-uint32, ClientMessage, PasswordKind, framed, tag_of, payload, bytes_of, Unread, Step, Takes, Reads, IsEnd, HasRead, next_kind, kinds_behind}

pub one_more : (kinds rest : List PasswordKind) (old here new : Unread) (messages : List ClientMessage) (m : ClientMessage) → HasRead kinds old messages rest here → Step (next_kind rest) here (Ok (Some m)) new
    → HasRead kinds old (messages ++ m ∷ []) (kinds_behind m rest) new
one_more kinds rest old here new [] m h step =
    (new, subst (λ (u : Unread). Step (next_kind kinds) u (Ok (Some m)) new) h.1 (subst (λ ks. Step (next_kind ks) here (Ok (Some m)) new) h.0 step), (ap (kinds_behind m) h.0, refl))
one_more kinds rest old here new (n ∷ messages) m h step = (h.0, h.1, one_more (kinds_behind n kinds) rest h.0 here new messages m h.2 step)

pub ends_with : (kinds rest : List PasswordKind) (old here new : Unread) (messages : List ClientMessage) (end : Result (Option ClientMessage) ClientError) → HasRead kinds old messages rest here → Step (next_kind rest) here end new → IsEnd end
    → Reads kinds old messages end new
ends_with kinds rest old here new [] end h step is =
    (subst (λ (u : Unread). Step (next_kind kinds) u end new) h.1 (subst (λ ks. Step (next_kind ks) here end new) h.0 step), is)
ends_with kinds rest old here new (n ∷ messages) end h step is = (h.0, h.1, ends_with (kinds_behind n kinds) rest h.0 here new messages end h.2 step is)

some_bytes : (tag : Option ℕ) (body : List ℕ) → 0 < length (framed tag body)
some_bytes None body = omega (arith, length-append (uint32 (length body + 4)) body, length-uint32 (length body + 4))
some_bytes (Some t) body = omega arith

pub shorter : (kind : PasswordKind) (old new : Unread) (m : ClientMessage) → Takes kind old m new → length new.bytes < length old.bytes
shorter kind old new m t = omega (arith, ap length t.stands.whole, length-append (bytes_of m) new.bytes, some_bytes (tag_of m) (payload m))
