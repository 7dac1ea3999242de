-- What each call of the client comes to.
use Rattle.pgp_auth.proofs.Common.{◌≡◌, ℕ, ◌+◌, List, [], ◌++◌, codes, refl, ap, inl, inr, ◌==◌, not, ◌⊎◌, verifier, Binding, Unsupported, Unrequested, TlsServerEndPoint, gs2_header, first_bare, IsUserName, no_more, comma, CutAfterSecondComma, Expects, Accepts, Signs, Refusal, OutOfMemory, Admitted, Meets, RefusesFirst, Verifies, Begun, Answered, State, AwaitsFirst, AwaitsFinal, Over, Client, first_text, signature_of, Answers, MadeSome, UpdateRefused, Finished, NotVerified, FinishRefused, OnOk, IfErr, Result, Ok, Err, ScramError, refusal, state_of, Granted, client_proof, final_front, AnswersGranted, AnswersText, RefusesText, AllPass-from_list_all, IsUtf8-from_ascii, IsAscii-nil}
use Rattle.pgp_auth.specs.declared.scram.state.State.{State as CodeState}
use Rattle.pgp_auth.specs.declared.scram.state.State.TheVariants as code
use Rattle.pgp_auth.proofs.Grants.{granted_meets, not_granted}
use Rattle.pgp_auth.proofs.ServerSide.{recovers, length-client_proof, proof_bytes}

pub cuts : (b : Binding) (bare : List ℕ) → CutAfterSecondComma (gs2_header b ++ bare) (gs2_header b) bare
cuts Unrequested bare = record { one = codes "y"; two = []; one_plain = AllPass-from_list_all (λ x. not (x == comma)) (codes "y") refl; two_plain = AllPass-from_list_all (λ x. not (x == comma)) [] refl; header_is = refl; text_is = refl }
cuts Unsupported bare = record { one = codes "n"; two = []; one_plain = AllPass-from_list_all (λ x. not (x == comma)) (codes "n") refl; two_plain = AllPass-from_list_all (λ x. not (x == comma)) [] refl; header_is = refl; text_is = refl }
cuts (TlsServerEndPoint s) bare = record { one = codes "p=tls-server-end-point"; two = []; one_plain = AllPass-from_list_all (λ x. not (x == comma)) (codes "p=tls-server-end-point") refl; two_plain = AllPass-from_list_all (λ x. not (x == comma)) [] refl; header_is = refl; text_is = refl }

-- the empty name, which a client sends
pub no_name : IsUserName []
no_name = record { utf8 = IsUtf8-from_ascii [] IsAscii-nil; spelled = no_more }

-- what the server expects is what the client makes
expected : (begun : Begun) (text : List ℕ) (g : Granted) (answered : Answered) (before after : ℕ) → Meets begun.nonce text g.nonce g.salt g.count
    → AnswersGranted begun text g answered before after
    → Expects begun.binding (first_text begun) text (final_front begun g.nonce) answered.auth
expected begun text g answered before after m a = record {
  header = gs2_header begun.binding;
  bare = first_bare begun.nonce;
  user = [];
  client_nonce = begun.nonce;
  nonce = g.nonce;
  more = m.more;
  salt_text = m.salt_text;
  count = g.count;
  cut = cuts begun.binding (first_bare begun.nonce);
  header_is = refl;
  user_is = no_name;
  bare_is = refl;
  server_first_is = m.text_is;
  nonce_is = m.nonce_is;
  final_is = refl;
  auth_is = a.auth_is;
}

accepted : (begun : Begun) (text : List ℕ) (g : Granted) (answered : Answered) (before after : ℕ) → Meets begun.nonce text g.nonce g.salt g.count
    → AnswersGranted begun text g answered before after
    → Accepts (verifier begun.password g.salt g.count) begun.binding (first_text begun) text answered.final
unfolding verifier
accepted begun text g answered before after m a = record {
  front = final_front begun g.nonce;
  auth = answered.auth;
  proof = client_proof answered.key answered.auth;
  expects = expected begun text g answered before after m a;
  final_is = a.final_is;
  bytes = proof_bytes answered.key answered.auth;
  len = length-client_proof answered.key answered.auth;
  key = rw (← a.key_is) (recovers answered.key answered.auth);
}

signed : (begun : Begun) (text : List ℕ) (g : Granted) (answered : Answered) (before after : ℕ) → Meets begun.nonce text g.nonce g.salt g.count
    → AnswersGranted begun text g answered before after
    → Signs (verifier begun.password g.salt g.count) begun.binding (first_text begun) text (signature_of answered)
unfolding verifier
signed begun text g answered before after m a = record {
  front = final_front begun g.nonce;
  auth = answered.auth;
  expects = expected begun text g answered before after m a;
  signature_is = rw (← a.key_is) refl;
}

pub update_answers : (old new : Client) (text : List ℕ) (begun : Begun) (answered : Answered) (before after : ℕ) → old.state ≡ AwaitsFirst begun → before ≡ old.hmacs
    → AnswersText begun text answered before after → new ≡ record { state = AwaitsFinal answered; hmacs = after } → Answers old text new
update_answers old new text begun answered before after due same a new_is =
    let meets = granted_meets begun.nonce text a.g a.granted in
    record {
      begun = begun;
      nonce = a.g.nonce;
      salt = a.g.salt;
      count = a.g.count;
      answered = answered;
      due = due;
      meets = meets;
      accepts = accepted begun text a.g answered before after meets a.answers;
      signs = signed begun text a.g answered before after meets a.answers;
      key_is = a.answers.key_is;
      new_is = rw (← same, ← a.answers.hmacs) new_is;
    }

text_refused : (lacks : Type 0) (c text : List ℕ) (e : Refusal) (before after : ℕ) → RefusesText lacks c text e before after
    → (RefusesFirst c text e × (after ≡ before)) ⊎ ((e ≡ OutOfMemory) × lacks × Admitted c text × ((after ≡ before) ⊎ MadeSome c text before after))
text_refused lacks c text e before after (inl (memory, lack, admitted, inl none)) = inr (memory, lack, admitted, inl none)
text_refused lacks c text e before after (inl (memory, lack, admitted, inr m)) =
    inr (memory, lack, admitted, inr (record { nonce = m.g.nonce; salt = m.g.salt; count = m.g.count; meets = granted_meets c text m.g m.granted; grows = m.grows; at_most = m.at_most }))
text_refused lacks c text e before after (inr cause) = inl (not_granted c text e cause.0, cause.1)

pub update_refused : (lacks : Type 0) (old new : Client) (text : List ℕ) (e : Refusal) (begun : Begun) (before : ℕ) → old.state ≡ AwaitsFirst begun → before ≡ old.hmacs
    → new.state ≡ Over → RefusesText lacks begun.nonce text e before new.hmacs → UpdateRefused lacks old text e new
update_refused lacks old new text e begun before due same over r = record {
  why = rw (due, ← same) (text_refused lacks begun.nonce text e before new.hmacs r);
  over = over;
}

pub finished : {E : Type 0} (r : Result (Unit {0}) E) (old new : Client) (text : List ℕ) (answered : Answered) (before : ℕ) → old.state ≡ AwaitsFinal answered → before ≡ old.hmacs
    → new.state ≡ Over → OnOk r (Verifies (signature_of answered) text) → OnOk r (new.hmacs ≡ before + 2) → OnOk r (Finished old text new)
finished (Ok u) old new text answered before due same over v count =
    record { answered = answered; due = due; verifies = v; over = over; hmacs = rw (← same) count }
finished (Err e) old new text answered before due same over v count = tt

pub finish_refused : {A : Type 0} (lacks : Type 0) (r : Result (Unit {0}) (ScramError A)) (old new : Client) (text : List ℕ) (answered : Answered) (before : ℕ) → old.state ≡ AwaitsFinal answered → before ≡ old.hmacs
    → new.state ≡ Over → IfErr r (λ e. NotVerified lacks (signature_of answered) text (refusal e) before new.hmacs)
    → IfErr r (λ e. FinishRefused lacks old text (refusal e) new)
finish_refused lacks (Ok u) old new text answered before due same over v = tt
finish_refused lacks (Err e) old new text answered before due same over v = record { why = rw (due, ← same) v; over = over }

-- what the fields report the value
pub due_of : (old inside : Client) (x : State) → inside ≡ old → inside.state ≡ x → old.state ≡ x
due_of old inside x same is = rw (← same) is

pub hmacs_of : (old inside : Client) → inside ≡ old → inside.hmacs ≡ old.hmacs
hmacs_of old inside same = ap (λ (c : Client). c.hmacs) same

pub over_of : {A : Type 0} (state : CodeState A) → state ≡ code.Over → state_of state ≡ Over
over_of state is = rw is refl
