-- What a writer did, as what the stream's call did.
use Rattle.pgp_stream.proofs.Common.{◌≡◌, ℕ, Bool, true, false, List, [], ◌∷◌, ◌++◌, ℤ, None, Result, Ok, Err, refl, sym, ap, subst, ◌∙◌, inl, inr, ◌⊎◌, is_some, if◌then◌else◌, Held, ◌⊕◌, Leaves, Error, ClientMessage, CancelRequest, FunctionCall, GssEncRequest, SaslInitialResponse, Startup, PasswordKind, IsOurs, tag_of, bytes_of, cause, IsInRange, WritesMessage, IsNamed, ClientRun, IsStartup, IsRequest, MayCome, kinds_of, is_startup, is_opened, Sent, IsAdded, IsLeft, AddsMessage, Reads}
use Rattle.pgp_frontend.proofs.ClientRuns.{each_push, run_more, one_phase, opened_more, nothing}
use Rattle.pgp_base.proofs.Parts.{bytes_more}

-- nothing was sent
pub reads_nothing : (bytes : List ℕ) → bytes ≡ [] → Reads bytes false
reads_nothing bytes e = ([], [], record { run = subst (λ b. ClientRun [] [] b) (sym e) nothing; ours = tt; opens = refl })

-- the phase of any reading
pub phase : (bytes : List ℕ) (o : Bool) → Reads bytes o → (kinds : List PasswordKind) (l : List ClientMessage) → ClientRun kinds l bytes → o ≡ is_opened l
phase bytes o (more, m, r) kinds l run = r.opens ∙ one_phase more kinds m l bytes r.run run

-- what the writers write, but a startup packet
abbrev pub is_plain : ClientMessage → Bool
is_plain (FunctionCall function formats arguments result_format) = false
is_plain (SaslInitialResponse mechanism None) = false
is_plain (Startup minor parameters) = false
is_plain GssEncRequest = false
is_plain _ = true

plain_ours : (m : ClientMessage) → is_plain m ≡ true → IsOurs m
plain_ours (FunctionCall a b c d) e = cc
plain_ours (SaslInitialResponse a None) e = cc
plain_ours (Startup a b) e = absurd cc
plain_ours GssEncRequest e = cc
plain_ours _ e = tt

no_startup : (m : ClientMessage) → is_plain m ≡ true → is_startup m ≡ false
no_startup (Startup a b) e = absurd cc
no_startup _ e = refl

module _ {B K : Type 0} (held : B → Held K) (a b : B) (o : Bool) (inv : Reads (held a).bytes o) where
  -- the message was written
  module _ (m : ClientMessage) (p : Bool) (phase_is : p ≡ (if is_startup m then true else o)) (may : MayCome m o) (ours : IsOurs m) (in_range : IsInRange m) (none : cause m ≡ None) (grown : held b ≡ held a ⊕ bytes_of m) where
    one_more : (kinds : List PasswordKind) (l : List ClientMessage) → ClientRun kinds l (held a).bytes → ClientRun (kinds ++ kinds_of m) (l ++ m ∷ []) (held b).bytes
    one_more kinds l run = subst (λ x. ClientRun (kinds ++ kinds_of m) (l ++ m ∷ []) x) (sym (bytes_more (held a) (held b) (bytes_of m) grown))
        (run_more kinds l m (held a).bytes run (subst (λ (x : Bool). MayCome m x) (phase (held a).bytes o inv kinds l run) may) none in_range)

    pub added : IsAdded held m (record { buf = a; opened = o }) (record { buf = b; opened = p })
    added = record { ours = ours; in_range = in_range; none = none; appended = grown; opened = phase_is; reads = one_more }

    pub stays : Reads (held b).bytes p
    stays = (
      inv.0 ++ kinds_of m,
      inv.1 ++ m ∷ [],
      record {
        run = one_more inv.0 inv.1 inv.2.run;
        ours = each_push IsOurs inv.1 m inv.2.ours ours;
        opens = phase_is ∙ ap (λ (x : Bool). if is_startup m then true else x) inv.2.opens ∙ sym (opened_more inv.1 m);
      },
    )

  -- nothing was
  module _ (same : Leaves (held a) (held b)) where
    pub left : IsLeft held (record { buf = a; opened = o }) (record { buf = b; opened = o })
    left = record { left = same; opened = refl }

    pub still : Reads (held b).bytes o
    still = subst (λ x. Reads x o) (sym same.bytes) inv

  -- a writer of the message was called
  module _ (m : ClientMessage) (may : MayCome m o) (plain : is_plain m ≡ true) (lacks : Held K → ℕ → Type 0) where
    unchanged : o ≡ (if is_startup m then true else o)
    unchanged = ap (λ (x : Bool). if x then true else o) (sym (no_startup m plain))

    pub adds : (r : Result (Unit {0}) Error) → WritesMessage m lacks (held a) (held b) r → AddsMessage held m lacks (record { buf = a; opened = o }) (record { buf = b; opened = o }) r
    adds (Ok done) w = (m, refl, added m o unchanged may (plain_ours m plain) w.0 w.1.0 w.1.1)
    adds (Err e) w = (w.1.0, left w.1.1)

    pub reads : (r : Result (Unit {0}) Error) → WritesMessage m lacks (held a) (held b) r → Reads (held b).bytes o
    reads (Ok done) w = stays m o unchanged may (plain_ours m plain) w.0 w.1.0 w.1.1
    reads (Err e) w = still w.1.1

-- ---- the calls of the two phases

later : (m : ClientMessage) (o : Bool) → o ≡ true → is_some (tag_of m) ≡ true → MayCome m o
later m o e t = subst (λ (x : Bool). MayCome m x) (sym e) (λ none. let h : false ≡ true = ap is_some (sym none) ∙ t in cc)

earlier : (m : ClientMessage) (o : Bool) → o ≡ false → (IsStartup m ⊎ IsRequest m) × IsNamed m → MayCome m o
earlier m o e t = subst (λ (x : Bool). MayCome m x) (sym e) t

module _ {B K : Type 0} (held : B → Held K) (a b : B) (o : Bool) (inv : Reads (held a).bytes o) (m : ClientMessage) (plain : is_plain m ≡ true) (lacks : Held K → ℕ → Type 0) (r : Result (Unit {0}) Error) (w : WritesMessage m lacks (held a) (held b) r) where
  module _ (e : o ≡ true) (t : is_some (tag_of m) ≡ true) where
    pub later_adds : AddsMessage held m lacks (record { buf = a; opened = o }) (record { buf = b; opened = o }) r
    later_adds = adds held a b o inv m (later m o e t) plain lacks r w

    pub later_reads : Reads (held b).bytes o
    later_reads = reads held a b o inv m (later m o e t) plain lacks r w

  module _ (e : o ≡ false) (q : IsRequest m) (n : IsNamed m) where
    pub earlier_adds : AddsMessage held m lacks (record { buf = a; opened = o }) (record { buf = b; opened = o }) r
    earlier_adds = adds held a b o inv m (earlier m o e (inr q, n)) plain lacks r w

    pub earlier_reads : Reads (held b).bytes o
    earlier_reads = reads held a b o inv m (earlier m o e (inr q, n)) plain lacks r w

pub same_phase : {B : Type 0} {x y : Sent B} {o : Bool} → x ≡ y → y.opened ≡ o → x.opened ≡ o
same_phase e h = ap (λ (s : Sent _). s.opened) e ∙ h

module _ {B K : Type 0} (held : B → Held K) (a b : B) (o : Bool) (inv : Reads (held a).bytes o) (m : ClientMessage) (plain : is_plain m ≡ true) (e : o ≡ true) (t : is_some (tag_of m) ≡ true) (in_range : IsInRange m) (none : cause m ≡ None) (grown : held b ≡ held a ⊕ bytes_of m) where
  same : o ≡ (if is_startup m then true else o)
  same = ap (λ (x : Bool). if x then true else o) (sym (no_startup m plain))

  pub later_added : IsAdded held m (record { buf = a; opened = o }) (record { buf = b; opened = o })
  later_added = added held a b o inv m o same (later m o e t) (plain_ours m plain) in_range none grown

  pub later_stays : Reads (held b).bytes o
  later_stays = stays held a b o inv m o same (later m o e t) (plain_ours m plain) in_range none grown

-- a startup packet was written
module _ {B K : Type 0} (held : B → Held K) (a b : B) (o : Bool) (inv : Reads (held a).bytes o) (m : ClientMessage) (opens : is_startup m ≡ true) (e : o ≡ false) (s : IsStartup m) (n : IsNamed m) (ours : IsOurs m) (in_range : IsInRange m) (none : cause m ≡ None) (grown : held b ≡ held a ⊕ bytes_of m) where
  opened : true ≡ (if is_startup m then true else o)
  opened = ap (λ (x : Bool). if x then true else o) (sym opens)

  pub first_added : IsAdded held m (record { buf = a; opened = o }) (record { buf = b; opened = true })
  first_added = added held a b o inv m true opened (earlier m o e (inl s, n)) ours in_range none grown

  pub first_stays : Reads (held b).bytes true
  first_stays = stays held a b o inv m true opened (earlier m o e (inl s, n)) ours in_range none grown

-- the numbers as they were given
pub same_numbers : {B K : Type 0} (held : B → Held K) (lacks : Held K → ℕ → Type 0) (old new : Sent B) (r : Result (Unit {0}) Error) {x y : ℤ} {p q : List ℕ} → x ≡ y → p ≡ q
    → AddsMessage held (CancelRequest x p) lacks old new r → AddsMessage held (CancelRequest y q) lacks old new r
same_numbers held lacks old new r {y = y} {p = p} e f h =
    subst (λ z. AddsMessage held (CancelRequest y z) lacks old new r) f (subst (λ z. AddsMessage held (CancelRequest z p) lacks old new r) e h)
