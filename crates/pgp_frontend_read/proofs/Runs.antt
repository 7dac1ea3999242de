-- What a server reads step by step.
use Rattle.pgp_frontend_read.proofs.Common.{◌≡◌, ℕ, ◌+◌, Bool, true, false, List, [], ◌∷◌, ◌++◌, length, drop, Option, Some, None, Result, Ok, Err, refl, sym, ap, subst, ◌∙◌, append_assoc, arith, length-append, inl, inr, ◌⊎◌, ◌||◌, IfSome, is_some, option_to_list, flat_map, AllByRecursion, append-nil, drop_at, uint32, ClientError, length-uint32, ClientMessage, Startup, CancelRequest, SslRequest, GssEncRequest, PasswordKind, framed, payload, tag_of, kind_of, bytes_of, IsSpelled, frame_read, opening_read, ClientRun, IsRequest, IsStartup, IsTagged, AreInOrder, kinds_of, is_startup, Unread, IsExpected, Stands, Step, Reads, ReadsSession, end_of, IsAllRead, IsEnd, next_kind, kinds_behind}
use Rattle.pgp_frontend.specs.Opening.{Opening}
use Rattle.pgp_frontend.proofs.ClientRuns.{same_tag, kind_there, is_reported}
use Rattle.pgp_frontend_read.proofs.Steps.{partial_none, left}

-- ---- one message stands at the front

same_kind : (kind : PasswordKind) (a b : Option PasswordKind) → is_some a ≡ is_some b → IfSome a (λ k. k ≡ kind) → IfSome b (λ k. k ≡ kind) → a ≡ b
same_kind kind None None e h k = refl
same_kind kind None (Some y) e h k = cc
same_kind kind (Some x) None e h k = cc
same_kind kind (Some x) (Some y) e h k = ap (λ z. Some z) (h ∙ sym k)

pub stands_once : (kind : PasswordKind) (opened : Bool) (bytes rest after : List ℕ) (m n : ClientMessage) → Stands kind opened bytes m rest → Stands kind opened bytes n after → (m ≡ n) × (rest ≡ after)
stands_once kind true bytes rest after m n s t =
    let both : bytes_of m ++ rest ≡ bytes_of n ++ after = sym s.whole ∙ t.whole in
    let tags = same_tag (tag_of m) (tag_of n) (payload m) (payload n) rest after s.expected.0 t.expected.0 both in
    let kinds = same_kind kind (kind_of m) (kind_of n) (kind_there m ∙ ap is_reported tags ∙ sym (kind_there n)) s.expected.1 t.expected.1 in
    frame_read m n rest after s.expected.0 t.expected.0 kinds s.spelled t.spelled both
stands_once kind false bytes rest after m n s t =
    let om : Opening m (bytes_of m) = record { untagged = s.expected; spelled = s.spelled; are = refl } in
    let on : Opening n (bytes_of n) = record { untagged = t.expected; spelled = t.spelled; are = refl } in
    opening_read m n (bytes_of m) (bytes_of n) rest after om on (sym s.whole ∙ t.whole)

abbrev pub answer : ClientMessage → Result (Option ClientMessage) ClientError
answer m = Ok (Some m)

same_left : (new : Unread) (bytes : List ℕ) (opened : Bool) → new.bytes ≡ bytes → new.opened ≡ opened → new ≡ left bytes opened
same_left new bytes opened e f = ap (λ b. left b new.opened) e ∙ ap (λ (o : Bool). left bytes o) f

pub stands_read : (kind : PasswordKind) (opened : Bool) (bytes rest : List ℕ) (m : ClientMessage) (r : Result (Option ClientMessage) ClientError) (new : Unread)
    → Stands kind opened bytes m rest → Step kind (left bytes opened) r new → (r ≡ Ok (Some m)) × (new ≡ left rest (opened || is_startup m))
stands_read kind opened bytes rest m (Ok (Some n)) new s step =
    let same = stands_once kind opened bytes new.bytes rest n m step.stands s in
    (ap answer same.0, same_left new rest (opened || is_startup m) same.1 (step.phase ∙ ap (λ x. opened || is_startup x) same.0))
stands_read kind opened bytes rest m (Ok None) new s step = absurd (partial_none kind opened bytes m rest step.0 s)
stands_read kind opened bytes rest m (Err e) new s step =
    absurd (step.none m [] rest (record { expected = s.expected; spelled = s.spelled; whole = append-nil bytes ∙ s.whole }))

pub read_stays : (kind : PasswordKind) (old new later : Unread) (more : List ℕ) (m : ClientMessage) (r : Result (Option ClientMessage) ClientError)
    → Step kind old (Ok (Some m)) new → Step kind (left (old.bytes ++ more) old.opened) r later → (r ≡ Ok (Some m)) × (later ≡ left (new.bytes ++ more) new.opened)
read_stays kind old new later more m r first then =
    let s = first.stands in
    let stands : Stands kind old.opened (old.bytes ++ more) m (new.bytes ++ more) = record {
      expected = s.expected;
      spelled = s.spelled;
      whole = ap (λ l. l ++ more) s.whole ∙ append_assoc (bytes_of m) new.bytes more;
    } in
    let r = stands_read kind old.opened (old.bytes ++ more) (new.bytes ++ more) m r later stands then in
    (r.0, r.1 ∙ ap (λ (o : Bool). left (new.bytes ++ more) o) (sym first.phase))

-- ---- nothing stands in no bytes

framed_some : (tag : Option ℕ) (body more : List ℕ) → [] ≡ framed tag body ++ more → ⊥
framed_some None body more e = omega (arith, ap length e, length-append (framed None body) more, length-append (uint32 (length body + 4)) body, length-uint32 (length body + 4))
framed_some (Some t) body more e = cc

pub nothing_read : (kind : PasswordKind) (opened : Bool) (r : Result (Option ClientMessage) ClientError) (new : Unread) → Step kind (left [] opened) r new → (r ≡ Ok None) × (new ≡ left [] opened)
nothing_read kind opened (Ok (Some m)) new step = absurd (framed_some (tag_of m) (payload m) new.bytes step.stands.whole)
nothing_read kind opened (Ok None) new step = (refl, step.1)
nothing_read kind opened (Err e) new step =
    elim step.left [
      | inl at ↦
          let b = at.fault.begins in
          absurd (omega (arith, ap length b.parts, length-append (b.front ++ uint32 at.fault.len) b.rest, length-append b.front (uint32 at.fault.len), length-uint32 at.fault.len))
      | inr other ↦ elim other [
        | inl skips ↦ absurd (framed_some (Some skips.tag) skips.payload new.bytes skips.whole)
        | inr stops ↦ absurd (framed_some None stops.payload stops.rest stops.whole)
      ]
    ]

-- ---- a session

abbrev pub InOrder : Bool → List ClientMessage → Type 0
InOrder false messages = AreInOrder messages
InOrder true messages = AllByRecursion IsTagged messages

pub record RunFrom (opened : Bool) (kinds : List PasswordKind) (messages : List ClientMessage) (bytes : List ℕ) : Type 0 where
  pub order : InOrder opened messages
  pub spelled : AllByRecursion IsSpelled messages
  pub reported : kinds ≡ flat_map kinds_of messages
  pub whole : bytes ≡ flat_map bytes_of messages

untagged : (m : ClientMessage) → IsStartup m ⊎ IsRequest m → tag_of m ≡ None
untagged (Startup minor parameters) o = refl
untagged (CancelRequest process_id secret_key) o = refl
untagged SslRequest o = refl
untagged GssEncRequest o = refl
untagged _ (inl o) = absurd o
untagged _ (inr o) = absurd o

next_reported : (k : Option PasswordKind) (kinds : List PasswordKind) → IfSome k (λ x. x ≡ next_kind (option_to_list k ++ kinds))
next_reported None kinds = tt
next_reported (Some k) kinds = refl

expected : (opened : Bool) (m : ClientMessage) (messages : List ClientMessage) (kinds : List PasswordKind) → InOrder opened (m ∷ messages) → kinds ≡ flat_map kinds_of (m ∷ messages) → IsExpected (next_kind kinds) opened m
expected true m messages kinds o reported = (o.0, subst (λ ks. IfSome (kind_of m) (λ k. k ≡ next_kind ks)) (sym reported) (next_reported (kind_of m) (flat_map kinds_of messages)))
expected false m messages kinds (inl o) reported = untagged m (inl o.0)
expected false m messages kinds (inr o) reported = untagged m (inr o.0)

opens : (m : ClientMessage) → IsStartup m → is_startup m ≡ true
opens (Startup v ps) s = refl
opens _ s = absurd s

asks : (m : ClientMessage) → IsRequest m → is_startup m ≡ false
asks (CancelRequest a b) s = refl
asks SslRequest s = refl
asks GssEncRequest s = refl
asks _ s = absurd s

order_behind : (opened : Bool) (m : ClientMessage) (messages : List ClientMessage) → InOrder opened (m ∷ messages) → InOrder (opened || is_startup m) messages
order_behind true m messages o = o.1
order_behind false m messages (inl o) = subst (λ (b : Bool). InOrder b messages) (sym (opens m o.0)) o.1
order_behind false m messages (inr o) = subst (λ (b : Bool). InOrder b messages) (sym (asks m o.0)) o.1

pub front_stands : (opened : Bool) (kinds : List PasswordKind) (m : ClientMessage) (messages : List ClientMessage) (bytes : List ℕ) → RunFrom opened kinds (m ∷ messages) bytes → Stands (next_kind kinds) opened bytes m (flat_map bytes_of messages)
front_stands opened kinds m messages bytes run = record { expected = expected opened m messages kinds run.order run.reported; spelled = run.spelled.0; whole = run.whole }

pub behind : (opened : Bool) (kinds : List PasswordKind) (m : ClientMessage) (messages : List ClientMessage) (bytes : List ℕ) → RunFrom opened kinds (m ∷ messages) bytes
    → RunFrom (opened || is_startup m) (kinds_behind m kinds) messages (flat_map bytes_of messages)
behind opened kinds m messages bytes run = record {
  order = order_behind opened m messages run.order;
  spelled = run.spelled.1;
  reported = ap (drop (length (kinds_of m))) run.reported ∙ drop_at (kinds_of m) (flat_map kinds_of messages) (length (kinds_of m)) refl;
  whole = refl;
}

pub no_end : (m : ClientMessage) (r : Result (Option ClientMessage) ClientError) → r ≡ Ok (Some m) → IsEnd r → ⊥
no_end m r e h = subst IsEnd e h

pub is_message : (m n : ClientMessage) → answer m ≡ answer n → m ≡ n
is_message m n e = cc

abbrev pub silence : Result (Option ClientMessage) ClientError
silence = Ok None

pub no_message : (n : ClientMessage) → answer n ≡ silence → ⊥
no_message n e = cc

pub cons : (m n : ClientMessage) (l k : List ClientMessage) → m ≡ n → l ≡ k → m ∷ l ≡ n ∷ k
cons m n l k e f = rw (e, f) refl

run_read : (opened : Bool) (kinds : List PasswordKind) (messages others : List ClientMessage) (bytes : List ℕ) (end : Result (Option ClientMessage) ClientError) (new : Unread)
    → RunFrom opened kinds messages bytes → Reads kinds (left bytes opened) others end new → IsAllRead messages others end new
run_read opened kinds [] [] bytes end new run r =
    let n = nothing_read (next_kind kinds) opened end new (subst (λ b. Step (next_kind kinds) (left b opened) end new) run.whole r.0) in
    record { same = refl; waits = n.0; none = ap (λ (u : Unread). u.bytes) n.1 }
run_read opened kinds [] (n ∷ others) bytes end new run r =
    let none = nothing_read (next_kind kinds) opened (answer n) r.0 (subst (λ b. Step (next_kind kinds) (left b opened) (answer n) r.0) run.whole r.1) in
    absurd (no_message n none.0)
run_read opened kinds (m ∷ messages) [] bytes end new run r =
    let s = stands_read (next_kind kinds) opened bytes (flat_map bytes_of messages) m end new (front_stands opened kinds m messages bytes run) r.0 in
    absurd (no_end m end s.0 r.1)
run_read opened kinds (m ∷ messages) (n ∷ others) bytes end new run r =
    let s = stands_read (next_kind kinds) opened bytes (flat_map bytes_of messages) m (answer n) r.0 (front_stands opened kinds m messages bytes run) r.1 in
    let same : n ≡ m = is_message n m s.0 in
    let on : Reads (kinds_behind m kinds) (left (flat_map bytes_of messages) (opened || is_startup m)) others end new =
    subst (λ (u : Unread). Reads (kinds_behind m kinds) u others end new) s.1 (subst (λ x. Reads (kinds_behind x kinds) r.0 others end new) same r.2) in
    let more = run_read (opened || is_startup m) (kinds_behind m kinds) messages others (flat_map bytes_of messages) end new (behind opened kinds m messages bytes run) on in
    record { same = cons n m others messages same more.same; waits = more.waits; none = more.none }

pub session_read : (kinds : List PasswordKind) (messages others : List ClientMessage) (bytes : List ℕ) (end : Result (Option ClientMessage) ClientError) (new : Unread)
    → ClientRun kinds messages bytes → Reads kinds (left bytes false) others end new → IsAllRead messages others end new
session_read kinds messages others bytes end new run r =
    run_read false kinds messages others bytes end new (record { order = run.order; spelled = run.spelled; reported = run.reported; whole = run.whole }) r

end_is : (end : Option ClientError) → end_of end ≡ silence → end ≡ None
end_is None e = refl
end_is (Some d) e = cc

pub session_at_once : (kinds : List PasswordKind) (messages others : List ClientMessage) (bytes : List ℕ) (end : Option ClientError)
    → ClientRun kinds messages bytes → ReadsSession kinds bytes others end → (others ≡ messages) × (end ≡ None)
session_at_once kinds messages others bytes end run r =
    let all = session_read kinds messages others bytes (end_of end) r.0 run r.1 in
    (all.same, end_is end all.waits)
