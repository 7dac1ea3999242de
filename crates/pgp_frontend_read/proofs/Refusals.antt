-- An error stays: whatever comes, no message is read there, and no more bytes are waited for.
use Rattle.pgp_frontend_read.proofs.Common.{◌≡◌, ℕ, ◌+◌, ◌<◌, ◌≤◌, ◌^◌, Bool, true, false, List, [], ◌∷◌, ◌++◌, length, Option, Some, None, Result, Ok, Err, refl, sym, ap, subst, ◌∙◌, append_assoc, arith, length-append, inl, inr, IsErr, uint32, ClientError, fronts, uint32_begins, ClientMessage, PasswordKind, framed, Unread, least, BeginsWithLength, IsPartial, Refuses, Step, append-nil}
use Rattle.pgp_frontend_read.proofs.Fronts.{behind_length}
use Rattle.pgp_frontend_read.proofs.Steps.{left, partial_none}
use Rattle.pgp_frontend_read.proofs.Headers.{begins_behind}

-- where bytes are missing, the length that stands there reports it
pub record TellsMissing (opened : Bool) (len behind : ℕ) : Type 0 where
  pub enough : least opened ≤ len
  pub fits : len < 2 ^ 31
  pub missing : behind + 4 < len

pub partial_length : (opened : Bool) (bytes : List ℕ) (len : ℕ) (b : BeginsWithLength opened bytes len) → IsPartial opened bytes → TellsMissing opened len (length b.rest)
partial_length opened bytes len b (inl short) = absurd (omega (arith, short, behind_length opened bytes len b))
partial_length opened bytes len b (inr p) =
    let same : b.front ++ (uint32 len ++ b.rest) ≡ p.begins.front ++ (uint32 p.len ++ p.begins.rest) =
    sym (append_assoc b.front (uint32 len) b.rest) ∙ sym b.parts ∙ p.begins.parts ∙ append_assoc p.begins.front (uint32 p.len) p.begins.rest in
    let f = fronts b.front p.begins.front (uint32 len ++ b.rest) (uint32 p.len ++ p.begins.rest) (b.at ∙ sym p.begins.at) same in
    let g = uint32_begins len p.len b.rest p.begins.rest b.fits p.begins.fits f.1 in
    record { enough = omega (arith, g.0, p.enough); fits = omega (arith, g.0, p.fits); missing = omega (arith, g.0, ap length g.1, p.missing) }

pub whole_frame : (tag : ℕ) (payload rest bytes : List ℕ) → bytes ≡ framed (Some tag) payload ++ rest → length payload + 4 < 2 ^ 31 → IsPartial true bytes → ⊥
whole_frame tag payload rest bytes whole fits part =
    let b : BeginsWithLength true bytes (length payload + 4) = record {
      front = tag ∷ [];
      rest = payload ++ rest;
      at = refl;
      fits = omega (arith, fits);
      parts = whole ∙ append_assoc (tag ∷ uint32 (length payload + 4)) payload rest;
    } in
    let t = partial_length true bytes (length payload + 4) b part in
    omega (arith, t.missing, length-append payload rest)

pub whole_packet : (payload rest bytes : List ℕ) → bytes ≡ framed None payload ++ rest → length payload + 4 < 2 ^ 31 → IsPartial false bytes → ⊥
whole_packet payload rest bytes whole fits part =
    let b : BeginsWithLength false bytes (length payload + 4) = record {
      front = [];
      rest = payload ++ rest;
      at = refl;
      fits = omega (arith, fits);
      parts = whole ∙ append_assoc (uint32 (length payload + 4)) payload rest;
    } in
    let t = partial_length false bytes (length payload + 4) b part in
    omega (arith, t.missing, length-append payload rest)

never_waits : (kind : PasswordKind) (old new : Unread) (e : ClientError) (more : List ℕ) → Refuses kind old e new → IsPartial old.opened (old.bytes ++ more) → ⊥
never_waits kind old new e more refused part =
    elim refused.left [
      | inl at ↦
          let t = partial_length old.opened (old.bytes ++ more) at.fault.len (begins_behind old.opened old.bytes more at.fault.len at.fault.begins) part in
          elim at.fault.wrong [ inl small ↦ omega (arith, small, t.enough) | inr large ↦ omega (arith, large, t.fits) ]
      | inr other ↦ elim other [
        | inl skips ↦
            whole_frame skips.tag skips.payload (new.bytes ++ more) (old.bytes ++ more) (ap (λ l. l ++ more) skips.whole ∙ append_assoc (framed (Some skips.tag) skips.payload) new.bytes more) skips.fits
            (subst (λ (o : Bool). IsPartial o (old.bytes ++ more)) skips.phase part)
        | inr stops ↦
            whole_packet stops.payload (stops.rest ++ more) (old.bytes ++ more) (ap (λ l. l ++ more) stops.whole ∙ append_assoc (framed None stops.payload) stops.rest more) stops.fits
            (subst (λ (o : Bool). IsPartial o (old.bytes ++ more)) stops.phase part)
      ]
    ]

pub refusal_stays : (kind : PasswordKind) (old new later : Unread) (e : ClientError) (more : List ℕ) (r : Result (Option ClientMessage) ClientError)
    → Refuses kind old e new → Step kind (left (old.bytes ++ more) old.opened) r later → IsErr r
refusal_stays kind old new later e more (Ok (Some m)) refused step = absurd (refused.none m more later.bytes step.stands)
refusal_stays kind old new later e more (Ok None) refused step = absurd (never_waits kind old new e more refused step.0)
refusal_stays kind old new later e more (Err d) refused step = refl

-- where bytes are missing, no other answer is given
pub partial_waits : (kind : PasswordKind) (opened : Bool) (bytes : List ℕ) (r : Result (Option ClientMessage) ClientError) (new : Unread) → IsPartial opened bytes → Step kind (left bytes opened) r new → r ≡ Ok None
partial_waits kind opened bytes (Ok (Some m)) new part step = absurd (partial_none kind opened bytes m new.bytes part step.stands)
partial_waits kind opened bytes (Ok None) new part step = refl
partial_waits kind opened bytes (Err e) new part step = absurd (never_waits kind (left bytes opened) new e [] step (subst (λ b. IsPartial opened b) (sym (append-nil bytes)) part))
