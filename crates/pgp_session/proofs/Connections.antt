-- What the calls of a connection come to.
use Rattle.pgp_session.proofs.Common.{◌≡◌, ℕ, ◌-◌, ◌≤◌, List, [], ◌∷◌, ◌++◌, length, get_or, Option, Some, None, Result, Ok, Err, refl, sym, ap, ap₂, subst, ◌∙◌, arith, inl, inr, Bool, true, false, not, OnOk, IfErr, ◌&&◌, WantsMemory, Error, Talk, Takes, taken, Event, Part, ClientMessage, bytes_of, cause, IsInRange, header_of, BeginsWithKept, IsLengthFault, IsPartial, Step, TakesFrame, parsed, view, InvalidLength, OutOfMemory, kind_of, request_of, awaits_data, is_copying, Request, Advances, Comes, IsNone, IsUnfit, Nexts, Notes, SendsGiven, Sent, Shown, Stops, Took, asked_of, is_bulk, is_end, in_phase, is_logged_in, is_part, is_longer, limit_of, may_ask, may_send, moved, next_name, noted, said, with_incoming, with_login, with_out, ConnectionError, ConnectionPhase, Started, Reads, Added, Puts, asking, error_of, fault, HasRoom, Said, heard, most, setting_in, CopyData, DataRow, Over, take-append_seam, and_parts}
use Rattle.std.specs.Prelude.{drop, take, ◌≢◌}
use Rattle.std.specs.Int.{w32, from_be_bytes}
use Rattle.pgp_client.specs.declared.event.Refusal.{Refusal}
use Rattle.pgp_message.specs.declared.message.Message.{Message}
use Rattle.pgp_session.specs.Connection.{Hears, IsNext}
use Rattle.pgp_login.specs.Login.{DeclinesSo, Kept as Login}
use Rattle.pgp_login.specs.Machine.{NothingAsked}
use Rattle.pgp_login.specs.Timely.{HasKey, IsTimely, Offered}
use Rattle.pgp_login.specs.Versions.{spoken}
use Rattle.pgp_frontend.specs.declared.startup.ProtocolVersion.{ProtocolVersion}
use Rattle.pgp_frontend.specs.declared.startup.ProtocolVersion.TheVariants.{V3_0, V3_2}
use Rattle.pgp_session.specs.ServerState.{KeyFits}
use Rattle.pgp_login.specs.declared.fault.LoginError.{LoginError}
use Rattle.pgp_login.specs.declared.fault.LoginError.TheVariants as login
use Rattle.pgp_session.specs.declared.connection_error.ConnectionError.TheVariants.{Malformed, OutOfMemory as OutOfMemoryThere}
use Rattle.pgp_client.specs.declared.stage.Stage.TheVariants.{Over as NothingMore}
use Rattle.pgp_session.proofs.Incomings.{frame_there, no_message, rest_there}
use Rattle.pgp_message.specs.BackendMessage.{Message as Meant, BackendKeyData}

pub announced : (bytes : List ℕ) → 5 ≤ length bytes → header_of bytes ≡ Some (get_or bytes 0 0, from_be_bytes w32 (get_or bytes 1 0 ∷ get_or bytes 2 0 ∷ get_or bytes 3 0 ∷ get_or bytes 4 0 ∷ []))
announced [] long = absurd (omega (arith, long))
announced (a ∷ []) long = absurd (omega (arith, long))
announced (a ∷ b ∷ []) long = absurd (omega (arith, long))
announced (a ∷ b ∷ c ∷ []) long = absurd (omega (arith, long))
announced (a ∷ b ∷ c ∷ d ∷ []) long = absurd (omega (arith, long))
announced (a ∷ b ∷ c ∷ d ∷ e ∷ rest) long = refl

pair_is : (x : Event × Talk) (e : Event) (t : Talk) → e ≡ x.0 → t ≡ x.1 → x ≡ (e, t)
pair_is x e t p q = rw (p, q) refl

-- what the dialogue took
pub taken_no : (r : Result (Event × Talk) Refusal) (e : Refusal) (new : Talk) → Takes r (Err e) new → (r ≡ Err e) × (new.stage ≡ NothingMore)
taken_no (Ok x) e new t = absurd t
taken_no (Err q) e new t = (ap Err (sym t.0), t.1)

pub taken_ok : (r : Result (Event × Talk) Refusal) (e : Event) (new : Talk) → Takes r (Ok e) new → r ≡ Ok (e, new)
taken_ok (Ok x) e new t = ap Ok (pair_is x e new t.0 t.1)
taken_ok (Err q) e new t = absurd t

-- bytes that spell a message were appended
pub put_by : (lacks : Type 0) (m : ClientMessage) (out grown packet : List ℕ) (r : Result (Unit {0}) Error) → cause m ≡ None → IsInRange m → packet ≡ bytes_of m
    → OnOk r (grown ≡ out ++ packet) → IfErr r (WantsMemory lacks) → Puts lacks m out grown r
put_by lacks m out grown packet (Ok done) none range spelled ok err = record { none = none; in_range = range; bytes = ok ∙ ap (λ b. out ++ b) spelled }
put_by lacks m out grown packet (Err e) none range spelled ok err = inl err

-- ---- a step along the stream

pub step_none : {A : Type 0} (lacks : Type 0) (old new : List ℕ) (o : Option (Message A)) → o ≡ None → Step lacks old (parsed (Ok o)) new → IsPartial old × (new ≡ old)
step_none {A} lacks old new o e s = subst (λ (x : Option (Message A)). Step lacks old (parsed (Ok x)) new) e s

pub step_memory : (lacks : Type 0) (old new : List ℕ) (e : Error) → e ≡ OutOfMemory → Step lacks old (Err e) new → BeginsWithKept old × lacks × (new ≡ old)
step_memory lacks old new e is s = subst (λ (x : Error). Step lacks old (Err x) new) is s

pub step_some : {A : Type 0} (lacks : Type 0) (old new : List ℕ) (o : Option (Message A)) (m : Message A) → o ≡ Some m → Step lacks old (parsed (Ok o)) new → TakesFrame old (Ok (view m)) new
step_some {A} lacks old new o m e s = subst (λ (x : Option (Message A)). Step lacks old (parsed (Ok x)) new) e s

-- ---- requests that iterators gave

said_by : (m : ClientMessage) (r : Request) (c : Shown) → request_of m ≡ Some r → noted r (with_out (c.out ++ bytes_of m) c) ≡ said m c
said_by m r c e = ap (λ (o : Option Request). record { phase = c.phase; login = c.login; out = c.out ++ bytes_of m; incoming = c.incoming; talk = asked_of o c.names c.talk; server = c.server; offered = c.offered; names = next_name c.names; limit = c.limit }) (sym e)

left_of : (a b : Bool) → (a && b) ≡ true → a ≡ true
left_of true b e = refl
left_of false b e = absurd cc

-- no data of a copy are awaited
pub none_awaited : (c : Shown) → may_ask c ≡ true → not (awaits_data c.talk) ≡ true
none_awaited c e = (and_parts (is_logged_in c) (not (awaits_data c.talk)) e).1

both_true : (a b : Bool) → a ≡ true → b ≡ true → (a && b) ≡ true
both_true a b e f = rw (e, f) refl

-- the message was written, and its request noted
pub given_by : {A : Type 0} (lacks : Type 0) (Whole : ClientMessage → Type 0) (Refuses : Error → Type 0) (m : ClientMessage) (r : Request) (old new : Shown) (written : List ℕ) (result : Result ℕ (ConnectionError A))
    → Whole m → may_send (is_copying old.talk) (awaits_data old.talk) m ≡ true → cause m ≡ None → IsInRange m → request_of m ≡ Some r → may_ask old ≡ true → written ≡ old.out ++ bytes_of m
    → Notes lacks (length old.out) r (with_out written old) new result → SendsGiven lacks Whole Refuses old new result
given_by lacks Whole Refuses m r old new written (Ok name) whole may none range request logged bytes n =
    let is : new ≡ said m old = n.1 ∙ ap (λ (l : List ℕ). noted r (with_out l old)) bytes ∙ said_by m r old request in (
      m,
      whole,
      record {
        may = both_true (is_logged_in old) (may_send (is_copying old.talk) (awaits_data old.talk) m) (left_of (is_logged_in old) (not (awaits_data old.talk)) logged) may;
        added = record { none = none; in_range = range; bytes = ap (λ (c : Shown). c.out) is };
        named = n.0;
        is = is;
      },
    )
given_by lacks Whole Refuses m r old new written (Err OutOfMemoryThere) whole may none range request logged bytes n =
    (logged, n.0, n.1 ∙ ap (λ (l : List ℕ). with_out (take (length old.out) l) old) bytes ∙ ap (λ (l : List ℕ). with_out l old) (take-append_seam old.out (bytes_of m)))
given_by lacks Whole Refuses m r old new written (Err e) whole may none range request logged bytes n = absurd n

-- the same where a serializer wrote the message
pub bound_by : (Whole : ClientMessage → Type 0) (m : ClientMessage) (r : Request) (old new : Shown) (written : List ℕ) (name : ℕ)
    → Whole m → may_send (is_copying old.talk) (awaits_data old.talk) m ≡ true → Added m old.out written → request_of m ≡ Some r → may_ask old ≡ true → name ≡ old.names
    → new ≡ noted r (with_out written old) → (k : ClientMessage) × Whole k × Sent k old new name
bound_by Whole m r old new written name whole may put request logged named is_noted =
    let is : new ≡ said m old = is_noted ∙ ap (λ (l : List ℕ). noted r (with_out l old)) put.bytes ∙ said_by m r old request in (
      m,
      whole,
      record {
        may = both_true (is_logged_in old) (may_send (is_copying old.talk) (awaits_data old.talk) m) (left_of (is_logged_in old) (not (awaits_data old.talk)) logged) may;
        added = record { none = put.none; in_range = put.in_range; bytes = ap (λ (c : Shown). c.out) is };
        named = named;
        is = is;
      },
    )

-- the message was taken back
pub taken_back : (m : ClientMessage) (old new : Shown) (written : List ℕ) (place : ℕ) → place ≡ length old.out → Added m old.out written → new ≡ with_out (take place written) old → new ≡ old
taken_back m old new written place at put is =
    is ∙ ap (λ (n : ℕ). with_out (take n written) old) at ∙ ap (λ (l : List ℕ). with_out (take (length old.out) l) old) put.bytes ∙ ap (λ (l : List ℕ). with_out l old) (take-append_seam old.out (bytes_of m))

key_short : (v : ProtocolVersion) (key : List ℕ) → HasKey v key → length key ≤ 256
key_short V3_0 key four = omega (arith, four)
key_short V3_2 key bounds = bounds.1

-- what is known of the server's session after a message
pub took_so : (m : Meant) (l : Login) (out : List ℕ) (t : Talk) (k : Said) (old : Shown) → k ≡ heard m old.server
    → record { phase = old.phase; login = l; out = out; incoming = old.incoming; talk = t; server = k; offered = old.offered; names = old.names; limit = old.limit } ≡ with_login l out (moved old.phase t m old)
took_so m l out t k old e = ap (λ (s : Said). record { phase = old.phase; login = l; out = out; incoming = old.incoming; talk = t; server = s; offered = old.offered; names = old.names; limit = old.limit }) e

-- a key whose message may come can be kept
pub key_fits : (done : Bool) (before : Option ProtocolVersion) (o : Offered) (m : Meant) → IsTimely done before o m → KeyFits m
key_fits done before o (BackendKeyData k) timely = key_short (spoken o.versions before) k.secret_key timely
key_fits done before o m timely = tt

part_goes_on : (e : Event) → is_part e ≡ true → is_end e ≡ false
part_goes_on (Part n) is = refl
part_goes_on e is = cc

-- a row and data of a copy come to nothing else
pub took_bulk : (m : Meant) (e : Event) (t : Talk) (old : Shown) → is_bulk m e ≡ true → taken old.talk (kind_of m) ≡ Ok (e, t)
    → Took m old (record { phase = old.phase; login = old.login; out = old.out; incoming = old.incoming; talk = t; server = old.server; offered = old.offered; names = old.names; limit = old.limit }) e
took_bulk (DataRow row) e t old bulk is = record { taken = is; due = tt; sound = refl; kept = tt; goes_on = part_goes_on e bulk; logged = λ w encrypted s stands. record { state = s; logged = record { reply = None; logs = NothingAsked; adds = refl }; stands = stands }; is = refl }
took_bulk (CopyData bytes) e t old bulk is = record { taken = is; due = tt; sound = refl; kept = tt; goes_on = part_goes_on e bulk; logged = λ w encrypted s stands. record { state = s; logged = record { reply = None; logs = NothingAsked; adds = refl }; stands = stands }; is = refl }
took_bulk m e t old bulk is = cc

-- the bytes that came are the same
pub so_far : {A : Type 0} (lacks : Type 0) (old new : Shown) (rest : List ℕ) (r : Result (Option (Event × Meant)) (ConnectionError A)) → rest ≡ old.incoming → Nexts lacks (with_incoming rest old) new r → Nexts lacks old new r
so_far lacks old new rest r same n = subst (λ (l : List ℕ). Nexts lacks (with_incoming l old) new r) same n

-- ---- a message in place

none_before : (all : List ℕ) → length all - length all ≡ 0
none_before all = omega arith

module _ (old : Shown) (all rest behind : List ℕ) (left : ℕ) (same : all ≡ old.incoming) (n : left ≡ length rest) (b : behind ≡ drop (length all - left) all) where
  behind_it : (r : Result Meant Error) → TakesFrame all r rest → TakesFrame old.incoming r behind
  behind_it r t =
      let is : behind ≡ rest = b ∙ ap (λ k. drop (length all - k) all) n ∙ rest_there all rest r t in
      subst (λ l. TakesFrame l r behind) same (subst (λ l. TakesFrame all r l) (sym is) t)

  not_taken : (lacks : Type 0) (e : Error) → Step ⊥ all (Err e) rest → Step lacks old.incoming (Err e) behind × (e ≢ OutOfMemory)
  not_taken lacks InvalidLength s =
      let is : behind ≡ all = b ∙ ap (λ k. drop (length all - k) all) (n ∙ ap length s.1) ∙ ap (λ k. drop k all) (none_before all) in
      ((subst IsLengthFault same s.0, is ∙ same), λ p. cc)
  not_taken lacks OutOfMemory s = absurd s.1
  not_taken lacks e s = (behind_it (Err e) s, λ p. cc)

-- of the errors of a log-in none is that the call may be made again
module _ (A : Type 0) (lacks : Type 0) where
  no_memory : (f : LoginError A) → OutOfMemoryThere ≡ error_of f → ⊥
  no_memory login.Undue e = cc
  no_memory login.NotAdmitted e = cc
  no_memory login.NotOffered e = cc
  no_memory login.TooFewRounds e = cc
  no_memory login.BadNonce e = cc
  no_memory (login.Scram r) e = cc
  no_memory (login.Unwritten r) e = cc

  no_unfit : (c : Shown) (m : Meant) → IsUnfit {A = A} lacks c m OutOfMemoryThere → ⊥
  no_unfit c m (inl h) = let e = h.1 in cc
  no_unfit c m (inr h) = let e = h.2 in cc

  no_stop : (phase : ConnectionPhase) (m : Meant) (old new : Shown) → Stops {A = A} lacks phase m old new OutOfMemoryThere → ⊥
  no_stop phase m old new (inl h) = let e = h.2 in cc
  no_stop phase m old new (inr (inl h)) = no_unfit old m h.2
  no_stop phase m old new (inr (inr (inl h))) = let e = h.4 in cc
  no_stop phase m old new (inr (inr (inr h))) = no_memory h.4.0 h.4.1

  stops_else : (phase : ConnectionPhase) (m : Meant) (old new : Shown) (e : ConnectionError A) → Stops {A = A} lacks phase m old new e → e ≢ OutOfMemoryThere
  stops_else phase m old new e h same = no_stop phase m old new (subst (λ x. Stops {A = A} lacks phase m old new x) same h)

module _ {A : Type 0} (lacks : Type 0) (old new : Shown) (all rest frame behind : List ℕ) (left : ℕ) (same : all ≡ old.incoming) (n : left ≡ length rest) (b : behind ≡ drop (length all - left) all) where
  -- the message was taken, and its frame is the current one
  pub advanced : (m : Meant) (e : Event) → old.phase ≡ Started → is_longer (limit_of old) old.incoming ≡ false → TakesFrame all (Ok m) rest → frame ≡ take (length all - left) all
      → Hears {A = A} lacks m (with_incoming behind old) new (Ok (Some (e, m))) → Advances {A = A} lacks old new frame (Ok (Some e))
  advanced m e phase short t f h =
      let whole : Reads frame (Some m) = subst (λ l. Reads l (Some m)) (sym (f ∙ ap (λ k. take (length all - k) all) n)) (frame_there all rest m t) in
      (m, whole, Comes m behind phase short (behind_it old all rest behind left same n b (Ok m) t) h)

  -- the connection stopped at it
  pub stopped_at : (m : Meant) (e : ConnectionError A) → old.phase ≡ Started → is_longer (limit_of old) old.incoming ≡ false → TakesFrame all (Ok m) rest → frame ≡ take (length all - left) all
      → Hears {A = A} lacks m (with_incoming behind old) new (Err e) → Advances {A = A} lacks old new frame (Err e)
  stopped_at m e phase short t f h =
      let whole : Reads frame (Some m) = subst (λ l. Reads l (Some m)) (sym (f ∙ ap (λ k. take (length all - k) all) n)) (frame_there all rest m t) in
      let there = behind_it old all rest behind left same n b (Ok m) t in
      (inl (m, (phase, short, (behind, there)), whole), stops_else A lacks Over m (with_incoming behind old) new e h, Comes m behind phase short there h)

  -- what came is no message
  pub malformed_at : (e : Error) → old.phase ≡ Started → is_longer (limit_of old) old.incoming ≡ false → Step ⊥ all (Err e) rest → frame ≡ [] → new ≡ in_phase Over (with_incoming behind old)
      → Advances {A = A} lacks old new frame (Err (Malformed e))
  malformed_at e phase short s f is =
      let t = not_taken old all rest behind left same n b lacks e s in
      let none = λ (m : Meant) (i : IsNext old m). no_message all rest i.2.0 e m s (subst (λ l. TakesFrame l (Ok m) i.2.0) (sym same) i.2.1) in
      (inr (f, none), (λ p. cc), IsNone e behind phase short t.0 t.1 is)

-- no message is taken
pub not_advanced : {A : Type 0} (lacks : Type 0) (old new : Shown) (rest frame : List ℕ) (e : ConnectionError A) → rest ≡ old.incoming → frame ≡ [] → e ≢ OutOfMemoryThere
    → ((m : Meant) → IsNext (with_incoming rest old) m → ⊥) → Nexts lacks (with_incoming rest old) new (Err e) → Advances lacks old new frame (Err e)
not_advanced lacks old new rest frame e same f other none h =
    (inr (f, λ (m : Meant) (i : IsNext old m). none m (subst (λ l. IsNext (with_incoming l old) m) (sym same) i)), other, so_far lacks old new rest (Err e) same h)

-- the same with the end of the connection
pub stops_over : {A : Type 0} (lacks : Type 0) (m : Meant) (old new : Shown) (e : ConnectionError A) → Stops {A = A} lacks old.phase m old new e → Stops {A = A} lacks Over m old (in_phase Over new) e
stops_over lacks m old new e (inl h) = inl (h.0, h.1, h.2, h.3, ap (λ (c : Shown). in_phase Over c) h.4)
stops_over lacks m old new e (inr (inl h)) = inr (inl (h.0, h.1, h.2, ap (λ (c : Shown). in_phase Over c) h.3))
stops_over lacks m old new e (inr (inr (inl h))) = inr (inr (inl (h.0, h.1, h.2, h.3, h.4, ap (λ (c : Shown). in_phase Over c) h.5)))
stops_over lacks m old new e (inr (inr (inr h))) = inr (inr (inr (h.0, h.1, h.2, h.3, h.4, h.5, ap (λ (c : Shown). in_phase Over c) h.6)))

-- the log-in stopped at a message, with nothing appended
pub stopped_log_in : {A : Type 0} (lacks : Type 0) (m : Meant) (old : Shown) (t : Talk) (l : Login) (grown : List ℕ) (k : Said) (e : Event) (f : LoginError A) (x : ConnectionError A) → taken old.talk (kind_of m) ≡ Ok (e, t)
    → HasRoom most (setting_in m) old.server.settings → is_end e ≡ false → x ≡ error_of f → DeclinesSo lacks (asking m) old.login (fault f) → grown ≡ old.out → l.phase ≡ old.login.phase → k ≡ heard m old.server
    → Stops {A = A} lacks old.phase m old (record { phase = old.phase; login = l; out = grown; incoming = old.incoming; talk = t; server = k; offered = old.offered; names = old.names; limit = old.limit }) x
stopped_log_in lacks m old t l grown k e f x is room live error declines same phase known =
    inr (inr (inr (
      (e, t),
      is,
      room,
      live,
      (f, error, declines),
      phase,
      ap₂ (λ (o : List ℕ) (s : Said). record { phase = old.phase; login = l; out = o; incoming = old.incoming; talk = t; server = s; offered = old.offered; names = old.names; limit = old.limit }) same known,
    )))
