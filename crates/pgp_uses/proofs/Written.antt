-- A frame whose body a closure wrote.
use Rattle.pgp_uses.proofs.Common.{◌≡◌, ℕ, ◌+◌, ◌≤◌, List, [], ◌∷◌, length, Some, Result, Ok, Err, sym, ap, ◌∙◌, inl, inr, arith, length-append, MutBor, ◌⊎◌, append_cancel_left, Appends, BodyRefused, WritesBody, Wants, WantsMemory, length_cause, Error, BindError, Conversion, Serialization, Held, ◌⊕◌, frame, uint32, length-uint32, more_bytes, more_twice, wants_more, wants_then, error_of}

-- the closure appends q where it succeeds
module _ {F E B K : Type 0} (held : B → Held K) (post : F → MutBor B → Result (Unit {0}) E → MutBor B → Type 0) (f : F) (q : List ℕ) (law : (b d : MutBor B) → post f b (Ok tt) d → held d.now ≡ held b.now ⊕ q) where
  body_is : (here : Held K) (p : List ℕ) → Appends held post here f (Ok tt) p → p ≡ q
  body_is here p put =
      let after : held put.after.now ≡ here ⊕ q = law put.before put.after put.called ∙ ap (λ h. h ⊕ q) put.stood in
      append_cancel_left here.bytes p q (sym (more_bytes here p) ∙ (ap (λ h. h.bytes) (sym put.appended ∙ after) ∙ more_bytes here q))

  pub framed : (old tagged new : Held K) (tag : ℕ) → tagged ≡ old ⊕ (tag ∷ []) → WritesBody held post f tagged new → new ≡ old ⊕ frame tag q
  framed old tagged new tag t w =
      let size = uint32 (length q + 4) in
      w.appended ∙ (ap (λ p. tagged ⊕ uint32 (length p + 4) ⊕ p) (body_is (tagged ⊕ uint32 0) w.body w.put) ∙ (ap (λ h. h ⊕ size ⊕ q) t ∙ (ap (λ h. h ⊕ q) (more_twice old (tag ∷ []) size) ∙ more_twice old (tag ∷ size) q)))

-- what the tag wants, the message wants
pub tag_wants : {K : Type 0} {lacks : Held K → ℕ → Type 0} {old : Held K} (tag : ℕ) (q : List ℕ) → Wants lacks old 1 → Wants lacks old (length (frame tag q))
tag_wants {old = old} tag q w = wants_more old 1 _ (omega (arith, length-append (uint32 (length q + 4)) q)) w

-- why it was refused, where the closure wants memory for q alone
module _ {F B K : Type 0} (held : B → Held K) (post : F → MutBor B → Result (Unit {0}) Error → MutBor B → Type 0) (f : F) (q : List ℕ) (lacks : Held K → ℕ → Type 0) (old tagged : Held K) (tag : ℕ) where
  -- what is wanted after the tag, the message wants
  behind_tag : (n : ℕ) → tagged ≡ old ⊕ (tag ∷ []) → n ≤ length q + 4 → Wants lacks tagged n → Wants lacks old (length (frame tag q))
  behind_tag n t h w = wants_then old tagged (tag ∷ []) n _ t (omega (arith, h, length-append (uint32 (length q + 4)) q, length-uint32 (length q + 4))) w

  pub refused : (e : BindError Error) → tagged ≡ old ⊕ (tag ∷ []) → ((b d : MutBor B) → post f b (Ok tt) d → held d.now ≡ held b.now ⊕ q) → ((b d : MutBor B) (x : Error) → post f b (Err x) d → WantsMemory (Wants lacks (held b.now) (length q)) x)
      → BodyRefused held post lacks f tagged e → WantsMemory (Wants lacks old (length (frame tag q))) (error_of e) ⊎ (length_cause (length q + 4) ≡ Some (error_of e))
  refused (Conversion x) t law wants w =
      let m = wants w.1.before w.1.after x w.1.called in
      inl (m.0, behind_tag (length q + 4) t (omega arith) (wants_then tagged (held w.1.before.now) (uint32 0) (length q) _ w.1.stood (omega (arith, length-uint32 0)) m.1))
  refused (Serialization x) t law wants (inl memory) = inl (memory.0, behind_tag 4 t (omega arith) memory.1)
  refused (Serialization x) t law wants (inr w) = inr (ap (λ p. length_cause (length p + 4)) (sym (body_is held post f q law (tagged ⊕ uint32 0) w.0 w.1)) ∙ w.2)
