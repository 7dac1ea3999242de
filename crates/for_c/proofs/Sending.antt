-- The memory of a caller of a writer.
use Rattle.for_c.proofs.Common.{◌≡◌, ◌⊎◌, ℕ, ◌≤◌, List, [], length, take, None, Some, Result, Ok, Err, refl, sym, ap, subst, ◌∙◌, inl, inr, arith, GName, ◌≢◌, cases_lt, Cause, Wants, WantsMemory, number_of, plain, Held, ◌⊕◌, window_held, window_lacks, Error, OutOfMemory, UnknownTag, UnknownAuthentication, Window, same_number, wants_window, ClientMessage, bytes_of, cause, IsInRange, WritesMessage, never_memory, no_cause, Sent, NotSent, Wrote, Lacks}
use Rattle.pgp_base.proofs.Fitting.{too_long}
use Rattle.pgp_base.proofs.Windows.{window_size, window_written}

never : (let r : Result (Unit {0}) Error = Ok tt in let s : Result (Unit {0}) Error = Err OutOfMemory in r ≡ s) → ⊥
never h = cc

-- what stands in a window is within the memory
within : (z : List ℕ) (w v : Window) (old : List ℕ) (name : GName) → window_held w ≡ record { bytes = []; behind = old; kept = (name, length old) } → window_held v ≡ window_held w ⊕ z → length z ≤ length old
within z w v old name new wrote = elim (cases_lt (length old) (length z)) [
  | inr fits ↦ fits
  | inl long ↦
      let room : (window_held w).kept.1 ≡ length old = ap (λ (h : Held (GName × ℕ)). h.kept.1) new in
      let none : length (window_held w).bytes ≡ 0 = ap (λ (h : Held (GName × ℕ)). length h.bytes) new in
      absurd (never (too_long z None w v (Ok tt) (refl, wrote) refl (omega (arith, room, none, long))))
]

-- `w` is the window as it was made on memory that held `old`, `v` as the writer of m left it, `x` what the memory holds at last
pub sends : (m n : ClientMessage) → n ≡ m → (w v : Window) (old : List ℕ) (name : GName) → window_held w ≡ record { bytes = []; behind = old; kept = (name, length old) }
    → IsInRange n → cause n ≡ None → window_held v ≡ window_held w ⊕ bytes_of n
    → (x : List ℕ) → (name ≡ v.room.ghost_name → x ≡ v.room.now) → (reported : ℕ) → reported ≡ length (take v.len v.room.now) → Sent m old x reported
sends m n is w v old name new range none wrote x at_last reported reported_is = subst (λ k. Sent k old x reported) is (record {
  in_range = range;
  none = none;
  length_is = reported_is ∙ window_size w v old (bytes_of n) name (length old) new wrote;
  fits = within (bytes_of n) w v old name new wrote;
  stands = window_written w v old (bytes_of n) name (length old) new wrote x at_last;
})

-- 1 is the number of lack of memory alone, which no message has as its cause
pub is_memory : (e : Error) → plain e ≡ plain OutOfMemory → e ≡ OutOfMemory
is_memory (UnknownTag tag) h = cc
is_memory (UnknownAuthentication code) h = cc
is_memory e h = h

pub not_room : (m : ClientMessage) (e : Error) (code : ℕ) → cause m ≡ Some e → code ≡ number_of e → code ≢ 1
not_room m e code some code_is one = never_memory m (some ∙ ap (λ (e : Error). Some e) (is_memory e (same_number e OutOfMemory (sym code_is ∙ one))))

-- the core's error, as its number
pub refuses : (m n : ClientMessage) → n ≡ m → (w : Window) (old : List ℕ) (name : GName) → window_held w ≡ record { bytes = []; behind = old; kept = (name, length old) }
    → (e : Error) (code reported : ℕ) → WantsMemory (Wants window_lacks (window_held w) (length (bytes_of n))) e ⊎ (cause n ≡ Some e) → code ≡ number_of e → reported ≡ 0 → NotSent m old reported code
refuses m n is w old name new e code reported why code_is none = subst (λ k. NotSent k old reported code) is (record {
  length_is = none;
  why = elim why [
    | inl memory ↦
        let long = wants_window (window_held w) _ memory.1 in
        let room : (window_held w).kept.1 ≡ length old = ap (λ (h : Held (GName × ℕ)). h.kept.1) new in
        let none : length (window_held w).bytes ≡ 0 = ap (λ (h : Held (GName × ℕ)). length h.bytes) new in
        inl (code_is ∙ ap number_of memory.0, omega (arith, long, room, none))
    | inr some ↦ inr (not_room n e code some code_is, (e, some, code_is))
  ];
})

-- both from the core's answer, which the call after it reported
pub sends_ended : (m : ClientMessage) (w v : Window) (old : List ℕ) (name : GName) → window_held w ≡ record { bytes = []; behind = old; kept = (name, length old) }
    → (r : Result (Unit {0}) Error) → WritesMessage m window_lacks (window_held w) (window_held v) r
    → (x : List ℕ) → (name ≡ v.room.ghost_name → x ≡ v.room.now) → (reported : ℕ) → (r ≡ Ok tt) × (reported ≡ length (take v.len v.room.now)) → Sent m old x reported
sends_ended m w v old name new r writes x at_last reported ended =
    let e : WritesMessage m window_lacks (window_held w) (window_held v) (Ok tt) = subst (λ r. WritesMessage m window_lacks (window_held w) (window_held v) r) ended.0 writes in
    sends m m refl w v old name new e.0 e.1.0 e.1.1 x at_last reported ended.1

pub refuses_ended : (m : ClientMessage) (w v : Window) (old : List ℕ) (name : GName) → window_held w ≡ record { bytes = []; behind = old; kept = (name, length old) }
    → (r : Result (Unit {0}) Error) → WritesMessage m window_lacks (window_held w) (window_held v) r
    → (code reported : ℕ) → (e : Error) × (r ≡ Err e) × (code ≡ number_of e) × (reported ≡ 0) → NotSent m old reported code
refuses_ended m w v old name new r writes code reported ended =
    let e : WritesMessage m window_lacks (window_held w) (window_held v) (Err ended.0) = subst (λ r. WritesMessage m window_lacks (window_held w) (window_held v) r) ended.1 writes in
    refuses m m refl w old name new ended.0 code reported e.1.0 ended.2 ended.3

-- the same for the spelling of a value
pub wrote : (p q : List ℕ) → q ≡ p → (w v : Window) (old : List ℕ) (name : GName) → window_held w ≡ record { bytes = []; behind = old; kept = (name, length old) }
    → window_held v ≡ window_held w ⊕ q → (x : List ℕ) → (name ≡ v.room.ghost_name → x ≡ v.room.now) → (reported : ℕ) → reported ≡ length (take v.len v.room.now) → Wrote p old x reported
wrote p q is w v old name new put x at_last reported reported_is = subst (λ k. Wrote k old x reported) is (record {
  length_is = reported_is ∙ window_size w v old q name (length old) new put;
  fits = within q w v old name new put;
  stands = window_written w v old q name (length old) new put x at_last;
})

-- a value that has no cause is rejected for its length alone
pub lacked : (p q : List ℕ) → q ≡ p → (w : Window) (old : List ℕ) (name : GName) → window_held w ≡ record { bytes = []; behind = old; kept = (name, length old) }
    → (e : Error) (code reported : ℕ) → WantsMemory (Wants window_lacks (window_held w) (length q)) e ⊎ (let c : Cause = None in c ≡ Some e) → code ≡ number_of e → reported ≡ 0 → Lacks p old reported code
lacked p q is w old name new e code reported why code_is none = subst (λ k. Lacks k old reported code) is (elim why [
  | inl memory ↦
      let long = wants_window (window_held w) _ memory.1 in
      let room : (window_held w).kept.1 ≡ length old = ap (λ (h : Held (GName × ℕ)). h.kept.1) new in
      let empty : length (window_held w).bytes ≡ 0 = ap (λ (h : Held (GName × ℕ)). length h.bytes) new in
      record { length_is = none; code_is = code_is ∙ ap number_of memory.0; longer = omega (arith, long, room, empty) }
  | inr some ↦ absurd (no_cause e some)
])

pub wrote_same : (p q : List ℕ) → q ≡ p → (old new : List ℕ) (reported : ℕ) → Wrote q old new reported → Wrote p old new reported
wrote_same p q is old new reported wrote = subst (λ l. Wrote l old new reported) is wrote

pub lacks_same : (p q : List ℕ) → q ≡ p → (old : List ℕ) (reported code : ℕ) → Lacks q old reported code → Lacks p old reported code
lacks_same p q is old reported code lacks = subst (λ l. Lacks l old reported code) is lacks
