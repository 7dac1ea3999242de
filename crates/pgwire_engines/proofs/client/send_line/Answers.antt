use Rattle.pgwire_engines.proofs.Common.{rules, ◌≡◌, ◌≢◌, refl, ap, ◌∙◌, subst, inl, inr, Some, IsUtf8, Error, OutOfMemory, cause, IsAdded, asked, Says, is_opening}
use Rattle.std.proofs.Common.{not}
use Rattle.pgp_frontend.proofs.Causes.{never_memory}
use Rattle.pgwire_engines.proofs.SendingLemmas.{names_it, comes_now}
use Rattle.pgwire_engines.proofs.client.send_line.Goals as goal

pub send-requires-clause-named : goal.send-requires-clause-named
send-requires-clause-named g c =
    let says : Says c.in-Ok.text.now (asked c.in-Some.request) = search rules in
    names_it c.in-Ok.text.now (asked c.in-Some.request) says

pub returns-in-Ok-send-clause-line : goal.returns-in-Ok-send-clause-line
returns-in-Ok-send-clause-line g c =
    let m = asked c.in-Some.request in
    let text : c.in-Ok.text.now ≡ c.args.line.now = search rules in
    let says : Says c.in-Ok.text.now m = search rules in
    let phase : c.args.stream.now.opened ≡ not (is_opening m) = search rules in
    inr (record {
      some = search rules;
      utf8 = search rules;
      message = m;
      says = subst (λ t. Says t m) text says;
      may = comes_now c.in-Ok.text.now m c.args.stream.now.opened says phase;
      added = subst (λ n. IsAdded g.B.Buffer.held n c.args.stream.now c.send.new.stream) c.in-Ok-send.ensures.1 c.in-Ok-send.ensures.2;
    })

pub returns : goal.returns
returns g c =
    let m = asked c.in-Some.request in
    let text : c.in-Ok.text.now ≡ c.args.line.now = search rules in
    let says : Says c.in-Ok.text.now m = search rules in
    let phase : c.args.stream.now.opened ≡ not (is_opening m) = search rules in
    let utf8 : IsUtf8 c.args.line.now = search rules in
    let other : c.in-Err.e ≢ OutOfMemory = λ h. search rules in
    let why : cause m ≡ Some c.in-Err.e = elim c.in-Err.ensures.0 [ inl w ↦ absurd (other w.0) | inr h ↦ h ] in
    record {
      line = (utf8, (m, subst (λ t. Says t m) text says, comes_now c.in-Ok.text.now m c.args.stream.now.opened says phase, why));
      fault = tt;
    }

pub returns-in-Err-OutOfMemory-clause-fault : goal.returns-in-Err-OutOfMemory-clause-fault
returns-in-Err-OutOfMemory-clause-fault g c =
    let m = asked c.in-Some.request in
    let says : Says c.in-Ok.text.now m = search rules in
    let is : c.in-Err-OutOfMemory.field-0 ≡ OutOfMemory = search rules in
    elim c.in-Err-OutOfMemory.ensures.0 [
      | inl w ↦ (refl, inr (w.1.here, w.1.more, w.1.refused))
      | inr h ↦ absurd (never_memory m (h ∙ ap (λ (e : Error). Some e) is))
    ]
