-- The message of one value that `parameter` wrote.
use Rattle.pgp_uses.proofs.Common.{◌≡◌, ℕ, List, pos, [], ◌∷◌, length, Option, Some, None, option_map, Result, Ok, Err, MutBor, refl, sym, ap, subst, ◌∙◌, inl, inr, arith, Error, BindError, Conversion, Serialization, IsNull, Yes, No, uint32, value_of, KeepsValue, Wants, Held, ◌⊕◌, sized_wants, front_left, bytes_of, cause, before_values, Plain, unnamed, PutsOne, OneWants, OneBinds, BindsOne, value_wants, null_wants, same_more, BindsValue, BoundWants, HasSpelling, RefusesValue, Serializes, bound}

module _ {V K : Type 0} (f : Plain V) (lacks : Held K → ℕ → Type 0) where
  -- the value after `here` is what the format writes
  pub written : (v : Option V) (null : IsNull) (bytes : List ℕ) (here before after : Held K) → before ≡ here → after ≡ here ⊕ bytes → Serializes f v lacks before after (Ok null) → HasSpelling f v × (value_of null bytes ≡ option_map f.written v)
  written None Yes bytes here before after s p w = (tt, refl)
  written None No bytes here before after s p w = absurd w
  written (Some x) Yes bytes here before after s p w = absurd w
  written (Some x) No bytes here before after s p w = (w.0, ap (λ (b : List ℕ). Some b) (same_more here after bytes (f.written x) p (w.1 ∙ ap (λ h. h ⊕ f.written x) s)))

  -- a growth that the value needs is one that what is written of it needs, which `wanted` says
  pub refused : (v : Option V) (e : Error) (wanted : Type 0) (before after : Held K) → ((x : V) → v ≡ Some x → Wants lacks before (length (f.written x)) → wanted) → Serializes f v lacks before after (Err e) → RefusesValue f v wanted e
  refused None e wanted before after turn w = absurd w
  refused (Some x) e wanted before after turn w = elim w.0 [ inl memory ↦ inl (memory.0, turn x refl memory.1) | inr cause ↦ inr cause ]

-- a serializer of values keeps the bytes that stood there
pub keeps_value : {V K : Type 0} (f : Plain V) (lacks : Held K → ℕ → Type 0) (v : Option V) (old new : Held K) (r : Result IsNull Error) → Serializes f v lacks old new r → KeepsValue r old new
keeps_value f lacks None old new (Ok Yes) w = w
keeps_value f lacks None old new (Ok No) w = absurd w
keeps_value f lacks None old new (Err e) w = absurd w
keeps_value f lacks (Some x) old new (Ok Yes) w = absurd w
keeps_value f lacks (Some x) old new (Ok No) w = (f.written x, w.1)
keeps_value f lacks (Some x) old new (Err e) w = front_left old new w.1

module _ {V F B K : Type 0} (held : B → Held K) (step : F → ℕ → MutBor B → Result IsNull Error → MutBor B → F → Type 0) (lacks : Held K → ℕ → Type 0) (f : Plain V) (v : Option V) (first last : F) (old : Held K)
    (acts : (u : F) (x : ℕ) (b b' : MutBor B) (r : Result IsNull Error) → step first x b r b' u → Serializes f v lacks (held b.now) (held b'.now) r) where
  made : (null : IsNull) (bytes : List ℕ) → PutsOne held step unnamed first last old (Ok null) bytes → HasSpelling f v × (value_of null bytes ≡ option_map f.written v)
  made null bytes m =
      written f lacks v null bytes (before_values old [] [] (pos 1 ∷ []) ⊕ uint32 0) (held m.before.now) (held m.after.now) m.stood m.appended (acts last 0 m.before m.after (Ok null) m.called)

  wants : OneWants held step unnamed first last old lacks → BoundWants f v lacks old
  wants (inl head) = null_wants unnamed (option_map f.written v) head.1
  wants (inr m) = let k = made m.0 m.1 m.2 in subst (λ (o : Option (List ℕ)). Wants lacks old (length (bytes_of (bound o)))) k.1 m.3

  binds : (r : Result (Unit {0}) (BindError Error)) (new : Held K) → OneBinds held step unnamed first last old lacks new r → BindsValue f v lacks old new r
  binds (Ok done) new w =
      let k = made w.null w.bytes w.put in
      (k.0, subst (λ (o : Option (List ℕ)). cause (bound o) ≡ None) k.1 w.none, w.appended ∙ ap (λ (o : Option (List ℕ)). old ⊕ bytes_of (bound o)) k.1)
  binds (Err (Conversion e)) new w =
      let m = w.0.1 in
      let wants : (x : V) → v ≡ Some x → Wants lacks (held m.before.now) (length (f.written x)) → BoundWants f v lacks old = λ x is s.
      subst (λ (v : Option V). BoundWants f v lacks old) (sym is) (value_wants unnamed _ (Some (f.written x)) _ refl (omega arith) (sized_wants (f.written x) 0 _ (held m.before.now) m.stood s)) in
      (refused f lacks v e (BoundWants f v lacks old) (held m.before.now) (held m.after.now) wants (acts last 0 m.before m.after (Err e) m.called), w.1)
  binds (Err (Serialization e)) new w = (
    elim w.0 [
      | inl memory ↦ inl (memory.0, wants memory.1)
      | inr (inl names) ↦ let none : None ≡ Some e = names.1 in absurd cc
      | inr (inr long) ↦
          let k = made long.null long.bytes long.put in
          inr (k.0, subst (λ (o : Option (List ℕ)). cause (bound o) ≡ Some e) k.1 long.some)
    ],
    w.1,
  )

pub binds_value : {V F B K : Type 0} (held : B → Held K) (step : F → ℕ → MutBor B → Result IsNull Error → MutBor B → F → Type 0) (lacks : Held K → ℕ → Type 0) (f : F) (old new : Held K) (r : Result (Unit {0}) (BindError Error))
    → BindsOne held step f old lacks new r → (p : Plain V) (v : Option V)
    → ((u : F) (x : ℕ) (b b' : MutBor B) (r : Result IsNull Error) → step f x b r b' u → Serializes p v lacks (held b.now) (held b'.now) r) → BindsValue p v lacks old new r
binds_value held step lacks f old new r one p v acts = binds held step lacks p v f one.last old acts r new one.binds
