-- Messages after those that a server read, and the binding among them.
use Rattle.pgp_uses.proofs.Common.{◌≡◌, ℕ, ℤ, pos, true, false, List, [], ◌∷◌, ◌++◌, length, Option, Some, None, Result, Ok, Err, MutBor, refl, sym, ap, subst, ◌∙◌, append_assoc, inl, inr, arith, if◌then◌else◌, flat_map, AllByRecursion, option_to_list, append-nil, flat_map-append, value_of, sized_wants, more_bytes, Held, ◌⊕◌, lengthened, uint32, Error, BindError, Conversion, Serialization, IsNull, ClientMessage, Parse, Oids, bytes_of, parts, parts_cause, cause, either_first, Wants, PutsOne, OneWants, names_first, one_whole, one_refused, null_wants, value_wants, Arrived, Serves, before_values, BindWhole, BindRefused, Refused, ParseWhole, ParseSoFar, int4, ClientRun, kinds_of, is_startup, Sent, IsAdded, IsLeft, Adds, RefusesMessage, AreAdded, Blames, Stops, AddsAll, NamedBinds, BindsNamed, named, named_bound, Serializes}
use Rattle.std.specs.Result.{IsErrAnd}
use Rattle.pgp_uses.specs.declared.session.AskError.{AskError}
use Rattle.pgp_uses.specs.declared.session.AskError.TheVariants.{Binding}
use Rattle.pgp_uses.proofs.Bound.{written, refused}

still_kept : {K : Type 0} (a b : Held K) (z : List ℕ) → b ≡ a ⊕ z → b.kept ≡ a.kept
unfolding lengthened
still_kept a b z e = ap (λ (h : Held _). h.kept) e

one_none : (ms : List ClientMessage) (n : ClientMessage) → AllByRecursion (λ m. cause m ≡ None) ms → cause n ≡ None → AllByRecursion (λ m. cause m ≡ None) (ms ++ n ∷ [])
one_none [] n all one = (one, tt)
one_none (m ∷ ms) n all one = (all.0, one_none ms n all.1 one)

one_behind : {K : Type 0} (old : List ℕ) (a b : Held K) (ms : List ClientMessage) (n : ClientMessage) → a.bytes ≡ old ++ flat_map bytes_of ms → b ≡ a ⊕ bytes_of n → b.bytes ≡ old ++ flat_map bytes_of (ms ++ n ∷ [])
one_behind old a b ms n e f =
    let all : flat_map bytes_of ms ++ bytes_of n ≡ flat_map bytes_of (ms ++ n ∷ []) = sym (flat_map-append bytes_of ms (n ∷ []) ∙ ap (λ l. flat_map bytes_of ms ++ l) (append-nil (bytes_of n))) in
    ap (λ (h : Held _). h.bytes) f ∙ (more_bytes a (bytes_of n) ∙ (ap (λ l. l ++ bytes_of n) e ∙ (append_assoc old (flat_map bytes_of ms) (bytes_of n) ∙ ap (λ l. old ++ l) all)))

module _ {B K : Type 0} (held : B → Held K) where
  pub none_yet : (s : Sent B) → s.opened ≡ true → AreAdded held [] s s
  none_yet s opens = record { opened = opens; none = tt; bytes = sym (append-nil (held s.buf).bytes); kept = refl; reads = λ kinds messages run. subst (λ ks. ClientRun ks (messages ++ []) (held s.buf).bytes) (sym (append-nil kinds)) (subst (λ ms. ClientRun kinds ms (held s.buf).bytes) (sym (append-nil messages)) run) }

  still_open : (m : ClientMessage) (mid new : Sent B) → mid.opened ≡ true → IsAdded held m mid new → new.opened ≡ true
  still_open m mid new opens a = elim (is_startup m) as (λ b. new.opened ≡ (if b then true else mid.opened) → new.opened ≡ true) [
    | true ↦ λ e. e
    | false ↦ λ e. e ∙ opens
  ] a.opened

  -- one message more
  pub one_more : (ms : List ClientMessage) (m n : ClientMessage) (old mid new : Sent B) → AreAdded held ms old mid → m ≡ n → IsAdded held m mid new → AreAdded held (ms ++ n ∷ []) old new
  one_more ms m n old mid new before e added =
      let a = subst (λ m. IsAdded held m mid new) e added in
      record {
        opened = still_open n mid new before.opened a;
        none = one_none ms n before.none a.none;
        bytes = one_behind (held old.buf).bytes (held mid.buf) (held new.buf) ms n before.bytes a.appended;
        kept = still_kept (held mid.buf) (held new.buf) (bytes_of n) a.appended ∙ before.kept;
        reads = λ kinds messages run.
            let r = a.reads (kinds ++ flat_map kinds_of ms) (messages ++ ms) (before.reads kinds messages run) in
            let ks : kinds ++ flat_map kinds_of ms ++ kinds_of n ≡ kinds ++ flat_map kinds_of (ms ++ n ∷ []) =
            append_assoc kinds (flat_map kinds_of ms) (kinds_of n) ∙ ap (λ l. kinds ++ l) (sym (flat_map-append kinds_of ms (n ∷ []) ∙ ap (λ l. flat_map kinds_of ms ++ l) (append-nil (kinds_of n)))) in
            subst (λ l. ClientRun l (messages ++ (ms ++ n ∷ [])) (held new.buf).bytes) ks
            (subst (λ l. ClientRun (kinds ++ flat_map kinds_of ms ++ kinds_of n) l (held new.buf).bytes) (append_assoc messages ms (n ∷ [])) r);
      }

  -- a rejected one
  pub none_more : (ms : List ClientMessage) (old mid new : Sent B) → AreAdded held ms old mid → IsLeft held mid new → AreAdded held ms old new
  none_more ms old mid new before left = record {
    opened = left.opened ∙ before.opened;
    none = before.none;
    bytes = left.left.bytes ∙ before.bytes;
    kept = left.left.kept ∙ before.kept;
    reads = λ kinds messages run. subst (λ bytes. ClientRun (kinds ++ flat_map kinds_of ms) (messages ++ ms) bytes) (sym left.left.bytes) (before.reads kinds messages run);
  }

  -- the error that a call handed on
  pub stops : (front : List ClientMessage) (at : ClientMessage) (rest : List ClientMessage) (lacks : Held K → ℕ → Type 0) (x : AskError) (old mid new : Sent B) (r : Result (Unit {0}) AskError)
      → IsErrAnd r (λ e. e ≡ x) → AreAdded held front old mid → IsLeft held mid new → Blames lacks (held mid.buf) x at → AddsAll held (front ++ at ∷ rest) lacks old new r
  stops front at rest lacks x old mid new (Ok done) is before left why = absurd is
  stops front at rest lacks x old mid new (Err e) is before left why =
      subst (λ e. Stops held (front ++ at ∷ rest) lacks e old new) (sym is) (record { front = front; at = at; rest = rest; are = refl; reached = mid; begun = before; added = none_more front old mid new before left; why = why })

-- ---- the error of `parse` without types

module _ (name sql : List ℕ) (types : List ℕ → Option ℕ → Type 0) (all_types : (xs : List ℕ) → types xs None → xs ≡ []) (some_types : (xs : List ℕ) (x : ℕ) → types xs (Some x) → ⊥) {K : Type 0} (lacks : Held K → ℕ → Type 0) (old : Held K) where
  -- no type came so far
  asked_none : (before : List ℕ) (next : Option ℕ) (ts : List ℕ) → types before next → ts ≡ before ++ option_to_list next → ts ≡ []
  asked_none before None ts received are = are ∙ (append-nil before ∙ all_types before received)
  asked_none before (Some x) ts received are = absurd (some_types before x received)

  none_so_far : (ts : List ℕ) → Arrived types Oids ts → ts ≡ []
  none_so_far ts (inl none) = none
  none_so_far ts (inr received) = asked_none received.before received.next ts received.received received.are

  pub parse_refused : (e : Error) → Refused (ParseWhole name sql types) (ParseSoFar name sql types) lacks old e → RefusesMessage (Parse name sql []) lacks old e
  parse_refused e (inl (m, so_far, why)) =
      let is : m ≡ Parse name sql [] = so_far.2 ∙ ap (λ ts. Parse name sql ts) (none_so_far so_far.0 so_far.1) in
      elim why [
        | inl memory ↦ inl (memory.0, subst (λ (m : ClientMessage). Wants lacks old (length (bytes_of m))) is memory.1)
        | inr c ↦ inr (either_first (parts_cause (parts (Parse name sql []))) _ e (ap (λ (m : ClientMessage). parts_cause (parts m)) (sym is) ∙ c))
      ]
  parse_refused e (inr (m, whole, none, c)) = inr (ap cause (sym (whole.2 ∙ ap (λ ts. Parse name sql ts) (all_types whole.0 whole.1))) ∙ c)

-- ---- the binding

module _ {F B K : Type 0} (held : B → Held K) (step : F → ℕ → MutBor B → Result IsNull Error → MutBor B → F → Type 0) (lacks : Held K → ℕ → Type 0) (name : List ℕ)
    (formats : List ℤ → Option ℤ → Type 0) (values : List ℕ → Option ℕ → Type 0) (results : List ℤ → Option ℤ → Type 0)
    (all_formats : (xs : List ℤ) → formats xs None → xs ≡ pos 1 ∷ []) (some_formats : (xs : List ℤ) (x : ℤ) → formats xs (Some x) → xs ++ x ∷ [] ≡ pos 1 ∷ [])
    (all_values : (xs : List ℕ) → values xs None → xs ≡ 0 ∷ []) (some_values : (xs : List ℕ) (x : ℕ) → values xs (Some x) → (xs ≡ []) × (xs ++ x ∷ [] ≡ 0 ∷ []))
    (all_results : (xs : List ℤ) → results xs None → xs ≡ pos 1 ∷ []) (some_results : (xs : List ℤ) (x : ℤ) → results xs (Some x) → xs ++ x ∷ [] ≡ pos 1 ∷ [])
    (f last : F) (old : Sent B) where
  pub named_binds : (r : Result (Unit {0}) (BindError Error)) (new : Sent B)
      → Adds held (BindWhole [] name formats values (Serves held step f last) results (held old.buf)) (BindRefused [] name formats values (Serves held step f last) results (held old.buf) lacks) old new r
      → NamedBinds held step f last name old lacks new r
  named_binds (Ok done) new w =
      let k = one_whole held step lacks (named name) formats values results all_formats some_formats all_values some_values all_results some_results f last (held old.buf) w.0 w.1 in
      record { null = k.0; bytes = k.1; put = k.3; added = subst (λ m. IsAdded held m old new) k.2 w.2 }
  named_binds (Err e) new w = (one_refused held step lacks (named name) formats values results all_formats some_formats all_values some_values all_results some_results f last (held old.buf) e w.0, w.1)

-- the value that was bound is what the serializer writes
module _ {F B K : Type 0} (held : B → Held K) (step : F → ℕ → MutBor B → Result IsNull Error → MutBor B → F → Type 0) (lacks : Held K → ℕ → Type 0) (f : F) (name : List ℕ) (v : ℤ) (old new : Sent B) where
  value_is : (null : IsNull) (bytes : List ℕ) (last : F) → PutsOne held step (named name) f last (held old.buf) (Ok null) bytes
      → ((u : F) (x : ℕ) (b b' : MutBor B) (r : Result IsNull Error) → step f x b r b' u → Serializes int4 (Some v) lacks (held b.now) (held b'.now) r) → value_of null bytes ≡ Some (int4.written v)
  value_is null bytes last m acts =
      (written int4 lacks (Some v) null bytes (before_values (held old.buf) [] name (pos 1 ∷ []) ⊕ uint32 0) (held m.before.now) (held m.after.now) m.stood m.appended (acts last 0 m.before m.after (Ok null) m.called)).1

  pub bound_is : BindsNamed held step f name lacks old new (Ok tt) → ((u : F) (x : ℕ) (b b' : MutBor B) (r : Result IsNull Error) → step f x b r b' u → Serializes int4 (Some v) lacks (held b.now) (held b'.now) r)
      → IsAdded held (named_bound name (Some (int4.written v))) old new
  bound_is b acts = subst (λ v. IsAdded held (named_bound name v) old new) (value_is b.binds.null b.binds.bytes b.last b.binds.put acts) b.binds.added

  -- it was rejected
  pub bind_left : (e : BindError Error) → BindsNamed held step f name lacks old new (Err e) → IsLeft held old new
  bind_left e b = b.binds.1

  -- a growth that the message needs
  one_wants : (last : F) → OneWants held step (named name) f last (held old.buf) lacks → ((u : F) (x : ℕ) (b b' : MutBor B) (r : Result IsNull Error) → step f x b r b' u → Serializes int4 (Some v) lacks (held b.now) (held b'.now) r)
      → Wants lacks (held old.buf) (length (bytes_of (named_bound name (Some (int4.written v)))))
  one_wants last (inl head) acts = null_wants (named name) (Some (int4.written v)) head.1
  one_wants last (inr made) acts = subst (λ (v : Option (List ℕ)). Wants lacks (held old.buf) (length (bytes_of (named_bound name v)))) (value_is made.0 made.1 last made.2 acts) made.3

  pub bind_blames : (e : BindError Error) → BindsNamed held step f name lacks old new (Err e) → ((u : F) (x : ℕ) (b b' : MutBor B) (r : Result IsNull Error) → step f x b r b' u → Serializes int4 (Some v) lacks (held b.now) (held b'.now) r)
      → Blames lacks (held old.buf) (Binding e) (named_bound name (Some (int4.written v)))
  bind_blames (Conversion e) b acts =
      let m = b.binds.0.1 in
      let bytes = int4.written v in
      let here = before_values (held old.buf) [] name (pos 1 ∷ []) in
      let wants : (x : ℤ) → Some v ≡ Some x → Wants lacks (held m.before.now) (length (int4.written x)) → Wants lacks (held old.buf) (length (bytes_of (named_bound name (Some bytes)))) = λ x is s.
      let same : v ≡ x = cc in
      value_wants (named name) here (Some bytes) _ refl (omega arith) (sized_wants bytes 0 here (held m.before.now) m.stood (subst (λ (x : ℤ). Wants lacks (held m.before.now) (length (int4.written x))) (sym same) s)) in (
        tt,
        elim (refused int4 lacks (Some v) e (Wants lacks (held old.buf) (length (bytes_of (named_bound name (Some bytes))))) (held m.before.now) (held m.after.now) wants (acts b.last 0 m.before m.after (Err e) m.called)) [
          | inl memory ↦ memory
          | inr c ↦ let none : None ≡ Some e = c in absurd cc
        ],
      )
  bind_blames (Serialization e) b acts = (
    tt,
    elim b.binds.0 [
      | inl memory ↦ inl (memory.0, one_wants b.last memory.1 acts)
      | inr (inl names) ↦ inr (names_first (named name) (Some (int4.written v)) e names.1)
      | inr (inr long) ↦ inr (subst (λ v. cause (named_bound name v) ≡ Some e) (value_is long.null long.bytes b.last long.put acts) long.some)
    ],
  )
