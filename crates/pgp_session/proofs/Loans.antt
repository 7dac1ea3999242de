-- A pooler's session goes on as its dialogue does.
use Rattle.std.proofs.Common.{append_assoc, append-nil, subst, sym, List, [], ◌∷◌, ◌++◌, Option, Some, None, ap, refl}
use Rattle.pgp_client.specs.Pool.{Lends}
use Rattle.pgp_client.specs.Talk.{Talk}
use Rattle.pgp_client.specs.Telling.{Turn, FollowsTo}
use Rattle.pgp_client.specs.declared.request.Request.{Request}
use Rattle.pgp_client.specs.Kinds.{request_of}
use Rattle.pgp_session.specs.Connection.{asked_of}
use Rattle.pgp_session.specs.Pooler.{Shown, and_sent, begun, Saw, Nothing, AndSent, AndReceived, AndResult}
use Rattle.pgp_session.specs.Session.{turns_of}
use Rattle.pgp_session.specs.Loans.{Call, Calls, Loan, Loans, Received, ReceivedResult, Sent, lending_of, lendings_of, turns_of_calls, calls_in, sent_in, received_in}
use Rattle.pgp_frontend.specs.ClientMessage.{ClientMessage}
use Rattle.pgp_message.specs.BackendMessage.{Message}
use Rattle.std.specs.Prelude.{ℕ}

asked_first : (o : Option Request) (turns : List Turn) (t now : Talk) → FollowsTo (asked_of o 0 t) turns now → FollowsTo t (turns_of o 0 ++ turns) now
asked_first None turns t now f = f
asked_first (Some r) turns t now f = f

pub calls_follow : (calls : List Call) (s now : Shown) → Calls s calls now → FollowsTo s.talk (turns_of_calls calls) now.talk
calls_follow [] s now c = ap (λ (x : Shown). x.talk) c
calls_follow (Sent m ∷ calls) s now c = asked_first (request_of m) (turns_of_calls calls) s.talk now.talk (calls_follow calls (and_sent m s) now c)
calls_follow (Received m e ∷ calls) s now c = (c.0.talk, c.1.0, c.2, calls_follow calls c.0 now c.3)
calls_follow (ReceivedResult e ∷ calls) s now c = (c.0.talk, c.1.0, c.2, calls_follow calls c.0 now c.3)

loans_lend : (ls : List Loan) (s now : Shown) → Loans s ls now → Lends s.talk (lendings_of ls) now.talk
loans_lend [] s now h = ap (λ (x : Shown). x.talk) h
loans_lend (l ∷ ls) s now h = (h.0.answered, h.1.talk, calls_follow l.calls s h.1 h.2, loans_lend ls h.1 now h.3)

pub pool_lends : (pool : ℕ) (login : List Call) (ls : List Loan) (first now : Shown) → Calls begun login first → Loans first ls now
    → Lends begun.talk (lending_of pool login ∷ lendings_of ls) now.talk
pool_lends pool login ls first now c h = (refl, first.talk, calls_follow login begun first c, loans_lend ls first now h)

-- ---- all calls

calls_more : (xs ys : List Call) (s m now : Shown) → Calls s xs m → Calls m ys now → Calls s (xs ++ ys) now
calls_more [] ys s m now c d = subst (λ (x : Shown). Calls x ys now) (sym c) d
calls_more (Sent x ∷ xs) ys s m now c d = calls_more xs ys (and_sent x s) m now c d
calls_more (Received x e ∷ xs) ys s m now c d = (c.0, c.1, c.2, calls_more xs ys c.0 m now c.3 d)
calls_more (ReceivedResult e ∷ xs) ys s m now c d = (c.0, c.1, c.2, calls_more xs ys c.0 m now c.3 d)

loans_call : (ls : List Loan) (s now : Shown) → Loans s ls now → Calls s (calls_in ls) now
loans_call [] s now h = h
loans_call (l ∷ ls) s now h = calls_more l.calls (calls_in ls) s h.1 now h.2 (loans_call ls h.1 now h.3)

pub pool_calls : (login : List Call) (ls : List Loan) (first now : Shown) → Calls begun login first → Loans first ls now → Calls begun (login ++ calls_in ls) now
pool_calls login ls first now c h = calls_more login (calls_in ls) begun first now c (loans_call ls first now h)

saw_from : (calls : List Call) (s now : Shown) (sent : List ClientMessage) (received : List Message) → Saw sent received s → Calls s calls now → Saw (sent ++ sent_in calls) (received ++ received_in calls) now
saw_from [] s now sent received w c =
    subst (λ (ms : List Message). Saw (sent ++ []) ms now) (sym (append-nil received))
    (subst (λ (ms : List ClientMessage). Saw ms received now) (sym (append-nil sent)) (subst (λ (x : Shown). Saw sent received x) c w))
saw_from (Sent m ∷ calls) s now sent received w c =
    subst (λ (ms : List ClientMessage). Saw ms (received ++ received_in calls) now) (append_assoc sent (m ∷ []) (sent_in calls))
    (saw_from calls (and_sent m s) now (sent ++ m ∷ []) received (AndSent m w) c)
saw_from (Received m e ∷ calls) s now sent received w c =
    let one : Saw sent (received ++ m ∷ []) c.0 = subst (λ (x : Shown). Saw sent (received ++ m ∷ []) x) (sym c.1.1) (AndReceived m e c.0.talk c.1.0 w) in
    subst (λ (ms : List Message). Saw (sent ++ sent_in calls) ms now) (append_assoc received (m ∷ []) (received_in calls))
    (saw_from calls c.0 now sent (received ++ m ∷ []) one c.3)
saw_from (ReceivedResult e ∷ calls) s now sent received w c =
    saw_from calls c.0 now sent received (subst (λ (x : Shown). Saw sent received x) (sym c.1.1) (AndResult e c.0.talk c.1.0 w)) c.3

pub saw_all : (calls : List Call) (now : Shown) → Calls begun calls now → Saw (sent_in calls) (received_in calls) now
saw_all calls now c = saw_from calls begun now [] [] Nothing c
