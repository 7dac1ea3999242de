-- Where an exchange of SCRAM-SHA-256 stopped, by what its calls reported.
use Rattle.postgres_protocol.proofs.Common.{◌≡◌, ℕ, List, [], Option, Some, None, Result, Ok, Err, refl, ap, subst, ◌∙◌, inl, inr, IfErr, if_err_at, Held, ◌⊕◌, Error, SaslInitialResponse, SaslResponse, bytes_of, WritesMessage}
use Rattle.std.specs.Result.{IsErrAnd}
use Rattle.pgp_auth.specs.ScramRefusal.{Refusal}
use Rattle.pgp_auth.specs.ScramClient.{Client, Begun, Answers, UpdateRefused, FinishRefused, AwaitsFirst, first_text, message_of}
use Rattle.pgp_message.specs.BackendMessage.{Authentication, AuthenticationSaslContinue, AuthenticationSaslFinal}
use Rattle.pgp_message.specs.Stream.{TakesFrame}
use Rattle.postgres_protocol.specs.SaslExchange.{GivesNone, IsNoContinue, IsNoFinal, SentFirst, GotFirst, SentFinal, FirstUnwritten, FirstRefused, FinalUnwritten, FinalRefused, Stopped}
use Rattle.postgres_protocol.specs.declared.laws.sasl.SaslRefusal.{SaslRefusal}
use Rattle.postgres_protocol.specs.declared.laws.sasl.SaslRefusal.TheVariants as refusals

the_text : Option (List ℕ) → List ℕ
the_text (Some text) = text
the_text None = []

said_first : (old : Client) (begun : Begun) (text : List ℕ) → old.state ≡ AwaitsFirst begun → Some text ≡ message_of old.state → text ≡ first_text begun
unfolding the_text
said_first old begun text due is = ap the_text (is ∙ ap message_of due)

said_final : (old new : Client) (first answer : List ℕ) (a : Answers old first new) → Some answer ≡ message_of new.state → answer ≡ a.answered.final
unfolding the_text
said_final old new first answer a is = ap the_text (is ∙ ap (λ (c : Client). message_of c.state) a.new_is)

-- ---- the stages

module _ {Kept : Type 0} (mechanism : List ℕ) (old : Client) (out_old out : Held Kept) (begun : Begun) (text : List ℕ) (due : old.state ≡ AwaitsFirst begun) (said : Some text ≡ message_of old.state) where
  -- what was said is the client's first text
  pub first_unwritten : (memory : Type 0) (lacks : Held Kept → ℕ → Type 0) (first final : List ℕ) (e : Error) → WritesMessage (SaslInitialResponse mechanism (Some text)) lacks out_old out (Err e) → FirstUnwritten memory lacks mechanism old old first first final final out_old out e
  first_unwritten memory lacks first final e w = record {
    begun = begun;
    due = due;
    refused = subst (λ (t : List ℕ). WritesMessage (SaslInitialResponse mechanism (Some t)) lacks out_old out (Err e)) (said_first old begun text due said) w;
    client = refl;
    first = refl;
    final = refl;
  }

  pub sent_first : out ≡ out_old ⊕ bytes_of (SaslInitialResponse mechanism (Some text)) → SentFirst mechanism old out_old out
  sent_first sent = record { begun = begun; due = due; sent = sent ∙ ap (λ (t : List ℕ). out_old ⊕ bytes_of (SaslInitialResponse mechanism (Some t))) (said_first old begun text due said) }

module _ {Kept : Type 0} (mechanism : List ℕ) (old : Client) (out_old : Held Kept) (first_old first_new : List ℕ) where
  -- the text that `update` was handed is that of the message
  pub got_first : (out : Held Kept) (client : Client) (handed first : List ℕ) → SentFirst mechanism old out_old out → TakesFrame first_old (Ok (Authentication (AuthenticationSaslContinue first))) first_new
      → handed ≡ first → Answers old handed client → GotFirst mechanism old out_old first_old first_new out client
  got_first out client handed first behind taken is answers = record { behind = behind; first = first; taken = taken; answers = subst (λ (t : List ℕ). Answers old t client) is answers }

  pub sent_final : (between out : Held Kept) (client : Client) (answer : List ℕ) → GotFirst mechanism old out_old first_old first_new between client → Some answer ≡ message_of client.state
      → out ≡ between ⊕ bytes_of (SaslResponse answer) → SentFinal mechanism old out_old first_old first_new out client
  sent_final between out client answer behind said sent =
      record { between = between; behind = behind; sent = sent ∙ ap (λ (t : List ℕ). between ⊕ bytes_of (SaslResponse t)) (said_final old client behind.first answer behind.answers said) }

-- ---- where it stopped

module _ {Kept : Type 0} (memory : Type 0) (lacks : Held Kept → ℕ → Type 0) (mechanism : List ℕ) (old : Client) (first_old : List ℕ) (out_old : Held Kept) where
  first_stops : {A : Type 0} (first_new final : List ℕ) (out : Held Kept) (r : SaslRefusal A) → SentFirst mechanism old out_old out → GivesNone memory IsNoContinue first_old first_new r
      → Stopped memory lacks mechanism old old first_old first_new final final out_old out r
  first_stops first_new final out refusals.Unexpected behind m = inl (record { behind = behind; missing = m; client = refl; final = refl })
  first_stops first_new final out (refusals.Message x) behind m = inr (inl (record { behind = behind; missing = m; client = refl; final = refl }))
  first_stops first_new final out (refusals.Scram x) behind m = absurd m

  -- the server's first text didn't stand in its buffer, and its error was handed on
  pub first_missing : {A T : Type 0} (r : Result T (SaslRefusal A)) (x : SaslRefusal A) → IsErrAnd r (λ e. e ≡ x) → (first_new final : List ℕ) (out : Held Kept) → SentFirst mechanism old out_old out → GivesNone memory IsNoContinue first_old first_new x
      → IfErr r (λ e. Stopped memory lacks mechanism old old first_old first_new final final out_old out e)
  first_missing r x h first_new final out behind m = if_err_at r x (λ e. Stopped memory lacks mechanism old old first_old first_new final final out_old out e) h (first_stops first_new final out x behind m)

  -- it was rejected
  pub first_refused : (new : Client) (first_new final : List ℕ) (out : Held Kept) (handed first : List ℕ) (e : Refusal) → SentFirst mechanism old out_old out → TakesFrame first_old (Ok (Authentication (AuthenticationSaslContinue first))) first_new
      → handed ≡ first → UpdateRefused memory old handed e new → FirstRefused memory lacks mechanism old new first_old first_new final final out_old out e
  first_refused new first_new final out handed first e behind taken is r = record { behind = behind; first = first; taken = taken; refused = subst (λ (t : List ℕ). UpdateRefused memory old t e new) is r; final = refl }

  -- the answer wasn't written
  pub final_unwritten : (new : Client) (first_new final : List ℕ) (between out : Held Kept) (answer : List ℕ) (e : Error) → GotFirst mechanism old out_old first_old first_new between new → Some answer ≡ message_of new.state
      → WritesMessage (SaslResponse answer) lacks between out (Err e) → FinalUnwritten memory lacks mechanism old new first_old first_new final final out_old out e
  final_unwritten new first_new final between out answer e behind said w = record {
    between = between;
    behind = behind;
    refused = subst (λ (t : List ℕ). WritesMessage (SaslResponse t) lacks between out (Err e)) (said_final old new behind.first answer behind.answers said) w;
    final = refl;
  }

  final_stops : {A : Type 0} (new : Client) (first_new final_old final_new : List ℕ) (out : Held Kept) (r : SaslRefusal A) → SentFinal mechanism old out_old first_old first_new out new → GivesNone memory IsNoFinal final_old final_new r
      → Stopped memory lacks mechanism old new first_old first_new final_old final_new out_old out r
  final_stops new first_new final_old final_new out refusals.Unexpected behind m = inr (record { behind = behind; missing = m })
  final_stops new first_new final_old final_new out (refusals.Message x) behind m = inr (inr (inr (record { behind = behind; missing = m })))
  final_stops new first_new final_old final_new out (refusals.Scram x) behind m = absurd m

  -- the server's final text didn't stand in its buffer, and its error was handed on
  pub final_missing : {A T : Type 0} (r : Result T (SaslRefusal A)) (x : SaslRefusal A) → IsErrAnd r (λ e. e ≡ x) → (new : Client) (first_new final_old final_new : List ℕ) (out : Held Kept) → SentFinal mechanism old out_old first_old first_new out new
      → GivesNone memory IsNoFinal final_old final_new x → IfErr r (λ e. Stopped memory lacks mechanism old new first_old first_new final_old final_new out_old out e)
  final_missing r x h new first_new final_old final_new out behind m = if_err_at r x (λ e. Stopped memory lacks mechanism old new first_old first_new final_old final_new out_old out e) h (final_stops new first_new final_old final_new out x behind m)

  -- it was rejected
  pub final_refused : (client new : Client) (first_new final_old final_new : List ℕ) (out : Held Kept) (handed final : List ℕ) (e : Refusal) → SentFinal mechanism old out_old first_old first_new out client
      → TakesFrame final_old (Ok (Authentication (AuthenticationSaslFinal final))) final_new → handed ≡ final → FinishRefused memory client handed e new → FinalRefused memory lacks mechanism old new first_old first_new final_old final_new out_old out e
  final_refused client new first_new final_old final_new out handed final e behind taken is r = record { client = client; behind = behind; final = final; taken = taken; refused = subst (λ (t : List ℕ). FinishRefused memory client t e new) is r }
