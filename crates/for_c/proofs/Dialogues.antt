-- A dialogue in memory of the caller's: what a message came to.
use Rattle.for_c.proofs.Common.{◌≡◌, ℕ, Some, Ok, Err, Result, subst, sym, OnErr, Talk}
use Rattle.pgp_client.specs.Codes.{refusal_at}
use Rattle.pgp_client.specs.Taking.{Takes, taken}
use Rattle.pgp_client.specs.declared.event.Event.{Event}
use Rattle.pgp_client.specs.declared.event.Refusal.{Refusal}
use Rattle.pgp_client.specs.declared.kind.Kind.{Kind}
use Rattle.for_c.specs.Dialogue.{RejectsMessage, TakesMessage, event_of, kind_at, talk_of}
use Rattle.for_c.specs.declared.dialogue.PgpDialogue.{PgpDialogue}
use Rattle.for_c.specs.declared.dialogue.PgpEvent.{PgpEvent}

module _ (old new : PgpDialogue) (before after : Talk) (same : before ≡ talk_of old) (left : talk_of new ≡ after) (number : ℕ) (k : Kind) (known : kind_at number ≡ Some k) where
  pub taken_of : (event : PgpEvent) (e : Event) → event ≡ event_of e → Takes (taken before k) (Ok e) after → TakesMessage old new number event
  taken_of event e is takes = (k, known, e, is, subst (λ t. Takes (taken t k) (Ok e) (talk_of new)) same (subst (λ t. Takes (taken before k) (Ok e) t) (sym left) takes))

  pub rejected_of : (code : ℕ) (r : Refusal) → refusal_at code ≡ Some r → Takes (taken before k) (Err r) after → RejectsMessage old new number code
  rejected_of code r is takes = (k, known, r, is, subst (λ t. Takes (taken t k) (Err r) (talk_of new)) same (subst (λ t. Takes (taken before k) (Err r) t) (sym left) takes))

-- what an error says
pub said_of : {T E : Type 0} (r : Result T E) (e : E) (P : Type 0) → r ≡ Err e → OnErr r P → P
said_of (Err x) e P is p = p
said_of (Ok x) e P is p = absurd cc
