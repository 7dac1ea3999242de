-- A writer of a value into the memory of a caller, from the core's answer, which the call after it reported.
use Rattle.for_c.proofs.Common.{◌≡◌, ◌⊎◌, ℕ, List, [], length, take, None, Some, OnOk, Result, Ok, Err, refl, ap, subst, ◌∙◌, inl, inr, arith, GName, IfErr, Wants, WantsMemory, number_of, Held, ◌⊕◌, window_held, window_lacks, Error, Window, wants_window, Format, IsNotWritten, WroteValue}
use Rattle.for_c.proofs.Sending.{wrote}

pub writes_value : {V R : Type 0} (f : Format V R) (x : V) (w v : Window) (old : List ℕ) (name : GName) → window_held w ≡ record { bytes = []; behind = old; kept = (name, length old) }
    → (r : Result (Unit {0}) Error) → OnOk r ((f.cause x ≡ None) × (window_held v ≡ window_held w ⊕ f.written x))
    → (at_last : List ℕ) → (name ≡ v.room.ghost_name → at_last ≡ v.room.now) → (reported : ℕ) → (r ≡ Ok tt) × (reported ≡ length (take v.len v.room.now)) → WroteValue f x old at_last reported
writes_value {V = V} f x w v old name new r ok at_last is reported ended =
    let k : OnOk (let s : Result (Unit {0}) Error = Ok tt in s) ((f.cause x ≡ None) × (window_held v ≡ window_held w ⊕ f.written x)) =
    subst (λ r. OnOk r ((f.cause x ≡ None) × (window_held v ≡ window_held w ⊕ f.written x))) ended.0 ok in
    record { none = k.0; wrote = wrote (f.written x) (f.written x) refl w v old name new k.1 at_last is reported ended.1 }

pub fails_value : {V R : Type 0} (f : Format V R) (x : V) (w : Window) (old : List ℕ) (name : GName) → window_held w ≡ record { bytes = []; behind = old; kept = (name, length old) }
    → (r : Result (Unit {0}) Error) → IfErr r (λ e. WantsMemory (Wants window_lacks (window_held w) (length (f.written x))) e ⊎ (f.cause x ≡ Some e))
    → (code reported : ℕ) → (e : Error) × (r ≡ Err e) × (code ≡ number_of e) × (reported ≡ 0) → IsNotWritten f x old reported code
fails_value f x w old name new r why code reported (e, is, code_is, none) =
    let k : IfErr (let s : Result (Unit {0}) Error = Err e in s) (λ e. WantsMemory (Wants window_lacks (window_held w) (length (f.written x))) e ⊎ (f.cause x ≡ Some e)) =
    subst (λ r. IfErr r (λ e. WantsMemory (Wants window_lacks (window_held w) (length (f.written x))) e ⊎ (f.cause x ≡ Some e))) is why in
    record {
      length_is = none;
      why = elim k [
        | inl memory ↦
            let long = wants_window (window_held w) _ memory.1 in
            let room : (window_held w).kept.1 ≡ length old = ap (λ (h : Held (GName × ℕ)). h.kept.1) new in
            let empty : length (window_held w).bytes ≡ 0 = ap (λ (h : Held (GName × ℕ)). length h.bytes) new in
            inl (code_is ∙ ap number_of memory.0, omega (arith, long, room, empty))
        | inr some ↦ inr (e, some, code_is)
      ];
    }
