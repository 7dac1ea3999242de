-- What a call of an exchange comes to.
use Rattle.pgp_login.proofs.Common.{◌≡◌, ℕ, List, Option, Some, None, refl, sym, ap, subst, ◌∙◌, inl, inr, Result, Ok, Err, option_map, IfErr, Begun, Client, ExchangeState, awaited_of, message_of, first_text, Refusal, WrongState, SaslResponse, Error, Begins, NotReplied, NotVerified, Replies, Seen, Unbegun, Unmade, Unsent, begun_of, seen_client, Fault, Scram, Unwritten, fault, LoginError}
use Rattle.pgp_auth.specs.ScramClient.{AwaitsFirst, AwaitsFinal, Over, Answers as Answered, UpdateRefuses, FinishRefuses, signature_of}
use Rattle.pgp_login.specs.Exchange.{binding_at, NoBinding, NoMemory, NoNonce, NoneAwaited, NotBegun, NotSent, Refuses, Shows, WasBegun}

none_begun : (o : Option Begun) → None ≡ option_map first_text o → o ≡ None
none_begun None e = refl
none_begun (Some b) e = absurd cc

-- ---- one that is held whole

module _ (lacks : Type 0) where
  pub refused_at : (s : ExchangeState) (text : List ℕ) (r : Refusal) (before after hmacs : ℕ) → UpdateRefuses lacks s text r before after → NotReplied lacks (record { begun = begun_of s; awaited = awaited_of s }) text (Scram r)
  refused_at (AwaitsFirst b) text r before after hmacs (inl h) = Refuses b r refl refl (inl h.0)
  refused_at (AwaitsFirst b) text r before after hmacs (inr h) = Refuses b r refl refl (inr (h.0, h.1, h.2))
  refused_at (AwaitsFinal a) text r before after hmacs h = rw h.0 (NotBegun (WasBegun refl))
  refused_at Over text r before after hmacs h = rw h.0 (NotBegun (WasBegun refl))

  pub unverified_at : (s : ExchangeState) (text : List ℕ) (r : Refusal) (before after : ℕ) → FinishRefuses lacks s text r before after → NotVerified lacks (record { begun = begun_of s; awaited = awaited_of s }) text (Scram r)
  unverified_at (AwaitsFirst b) text r before after h = NoneAwaited refl (ap Scram h.0)
  unverified_at (AwaitsFinal a) text r before after (inl h) = Shows (signature_of a) r refl refl (inl h.0)
  unverified_at (AwaitsFinal a) text r before after (inr (inl h)) = Shows (signature_of a) r refl refl (inr (inl (h.0, h.1)))
  unverified_at (AwaitsFinal a) text r before after (inr (inr h)) = Shows (signature_of a) r refl refl (inr (inr (h.0, h.1, h.2)))
  unverified_at Over text r before after h = NoneAwaited refl (ap Scram h.0)

  pub unbegun_none : (c : Client) → None ≡ option_map first_text (begun_of c.state) → Unbegun lacks (seen_client c) (Scram WrongState)
  unbegun_none c e = WasBegun (none_begun (begun_of c.state) e)

  replies_of : (c d : Client) (text : List ℕ) (h : Answered c text d) → Replies h.begun text h.answered.final (signature_of h.answered)
  replies_of c d text h = record { nonce = h.nonce; salt = h.salt; count = h.count; meets = h.meets; accepts = h.accepts; signs = h.signs }

  pub unsent_answer : (c d : Client) (text answer : List ℕ) (e : Error) → Answered c text d → Some answer ≡ message_of d.state → Unsent lacks (SaslResponse answer) e → NotReplied lacks (seen_client c) text (Unwritten e)
  unsent_answer c d text answer e h says u =
      let final : Some answer ≡ Some h.answered.final = says ∙ ap (λ (x : Client). message_of x.state) h.new_is in
      let same : answer ≡ h.answered.final = cc in
      NotSent h.begun h.answered.final (signature_of h.answered) (ap begun_of h.due) (replies_of c d text h) (e, refl, subst (λ (a : List ℕ). Unsent lacks (SaslResponse a) e) same u)

  -- ---- one that is made anew

  pub unbegun_so : (x y : Seen) (f : Fault) → x.begun ≡ y.begun → Unbegun lacks x f → Unbegun lacks y f
  unbegun_so x y f is (WasBegun e) = WasBegun (sym is ∙ e)
  unbegun_so x y f is (NoNonce b e h) = NoNonce b (sym is ∙ e) h
  unbegun_so x y f is (NoMemory l) = NoMemory l

  pub not_replied_so : (x y : Seen) (text : List ℕ) (f : Fault) → x.begun ≡ y.begun → NotReplied lacks x text f → NotReplied lacks y text f
  not_replied_so x y text f is (NotBegun u) = NotBegun (unbegun_so x y f is u)
  not_replied_so x y text f is (Refuses b r e is_r h) = Refuses b r (sym is ∙ e) is_r h
  not_replied_so x y text f is (NotSent b answer signature e replies u) = NotSent b answer signature (sym is ∙ e) replies u

  pub begins_so : {A : Type 0} (x y : Seen) (out grown : List ℕ) (r : Result (Unit {0}) (LoginError A)) → x.begun ≡ y.begun → Begins lacks x out grown r → Begins lacks y out grown r
  begins_so x y out grown (Ok done) is h = (h.0, sym is ∙ h.1, h.2)
  begins_so x y out grown (Err e) is (inl h) = inl (unbegun_so x y (fault e) is h)
  begins_so x y out grown (Err e) is (inr h) = inr (h.0, sym is ∙ h.1, h.2)

  unmade_so : (b : Begun) (x : Seen) (f : Fault) → x.begun ≡ Some b → Unmade lacks b.nonce f → Unbegun lacks x f
  unmade_so b x f is (inl h) = rw h.0 (NoNonce b is h.1)
  unmade_so b x f is (inr h) = rw h.0 (NoMemory h.1)

  pub unmade : {A X : Type 0} (b : Begun) (x : Seen) (r : Result X (LoginError A)) → x.begun ≡ Some b → IfErr r (λ e. Unmade lacks b.nonce (fault e)) → IfErr r (λ e. Unbegun lacks x (fault e))
  unmade b x (Ok client) is h = h
  unmade b x (Err e) is h = unmade_so b x (fault e) is h

  pub no_binding : (kind : ℕ) (certificate : List ℕ) (x : Seen) (f : Fault) → (binding_at kind certificate ≡ None → x.begun ≡ None) → NoBinding lacks kind certificate f → Unbegun lacks x f
  no_binding kind certificate x f none (inl h) = rw h.0 (WasBegun (none h.1))
  no_binding kind certificate x f none (inr h) = rw h.0 (NoMemory h.1)
