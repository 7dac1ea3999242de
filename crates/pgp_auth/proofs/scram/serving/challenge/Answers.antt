use Rattle.pgp_auth.proofs.Common.{◌≡◌, ◌++◌, gs2_header, binding_data, if_err_at, serving_of}
use Rattle.pgp_auth.proofs.ServerTexts.{chars_made, front_made, auth_made, whole_made, opens_without_memory}
use Rattle.pgp_auth.proofs.UserNames.{name_stands}
use Rattle.pgp_auth.proofs.scram.serving.challenge.Goals as goal

pub invariant_of-result-clause-user_text : goal.invariant_of-result-clause-user_text
invariant_of-result-clause-user_text g c = rw c.in_ok-user.ensures.items (name_stands c.in-Some-named_in.named.user.now c.in-Some-named_in.ensures.0).0

pub invariant_of-result-clause-user_spelled : goal.invariant_of-result-clause-user_spelled
invariant_of-result-clause-user_spelled g c = rw c.in_ok-user.ensures.items (name_stands c.in-Some-named_in.named.user.now c.in-Some-named_in.ensures.0).1

pub invariant_of-result-clause-nonce_chars : goal.invariant_of-result-clause-nonce_chars
invariant_of-result-clause-nonce_chars g c =
    chars_made c.in-Some-named_in.named.nonce.now c.args.waiting.own.items c.in_ok-nonce.nonce.items c.in_ok-nonce.ensures.items c.in-Some-named_in.ensures.1.1 c.args.waiting.own_chars

pub invariant_of-result-clause-front_is : goal.invariant_of-result-clause-front_is
invariant_of-result-clause-front_is g c =
    let n = c.in-Some-named_in.named.nonce.now in
    let whole : c.in_ok-whole.whole.items ≡ n ++ c.args.waiting.own.items = whole_made c.in_ok-whole.whole.items n c.args.waiting.own.items c.deref.result.now c.in_ok-whole.ensures.ok c.deref.ensures.value in
    front_made (gs2_header c.in-Some.binding) (binding_data c.in-Some.binding) n c.args.waiting.own.items c.in_ok-nonce.nonce.items
    c.in_ok-whole.whole.items c.deref-4.result.now c.in_ok-front.front.items c.in_ok-nonce.ensures.items whole c.deref-4.ensures.value c.in_ok-front.ensures.ok

pub invariant_of-result-clause-auth_is : goal.invariant_of-result-clause-auth_is
invariant_of-result-clause-auth_is g c =
    let n = c.in-Some-named_in.named.nonce.now in
    let whole : c.in_ok-whole.whole.items ≡ n ++ c.args.waiting.own.items = whole_made c.in_ok-whole.whole.items n c.args.waiting.own.items c.deref.result.now c.in_ok-whole.ensures.ok c.deref.ensures.value in
    auth_made c.in-Some.bare.now c.in-Some-named_in.named.user.now n c.args.waiting.own.items c.in_ok-user.user.items c.in_ok-nonce.nonce.items c.in_ok-whole.whole.items c.deref-2.result.now
    c.args.waiting.verifier.salt.items c.deref-3.result.now c.in_ok-answer.answer.items c.deref-5.result.now c.in_ok-front.front.items c.deref-6.result.now c.in_ok-auth.auth.items
    c.args.waiting.verifier.count c.in_ok-user.ensures.items c.in_ok-nonce.ensures.items c.in-Some-named_in.ensures.2 whole c.deref-2.ensures.value c.deref-3.ensures.value c.in_ok-answer.ensures.ok c.deref-5.ensures.value c.deref-6.ensures.value c.in_ok-auth.ensures.ok

pub returns-in_err-whole-clause-err : goal.returns-in_err-whole-clause-err
returns-in_err-whole-clause-err g c =
    if_err_at c.from_residual.result _ _ c.from_residual.ensures.1
    (opens_without_memory g.A.Memory.Lacks (serving_of c.args.waiting) c.args.text.now _ c.in-Some-named_in.named.user.now c.in-Some-named_in.named.nonce.now c.in-Some.binding c.in-Some.ensures c.in-Some-named_in.ensures c.in_err-whole.ensures.lacks)

pub returns-in_err-answer-clause-err : goal.returns-in_err-answer-clause-err
returns-in_err-answer-clause-err g c =
    if_err_at c.from_residual-in_err-answer.result _ _ c.from_residual-in_err-answer.ensures.1
    (opens_without_memory g.A.Memory.Lacks (serving_of c.args.waiting) c.args.text.now _ c.in-Some-named_in.named.user.now c.in-Some-named_in.named.nonce.now c.in-Some.binding c.in-Some.ensures c.in-Some-named_in.ensures c.in_err-answer.ensures.lacks)

pub returns-in_err-front-clause-err : goal.returns-in_err-front-clause-err
returns-in_err-front-clause-err g c =
    if_err_at c.from_residual-in_err-front.result _ _ c.from_residual-in_err-front.ensures.1
    (opens_without_memory g.A.Memory.Lacks (serving_of c.args.waiting) c.args.text.now _ c.in-Some-named_in.named.user.now c.in-Some-named_in.named.nonce.now c.in-Some.binding c.in-Some.ensures c.in-Some-named_in.ensures c.in_err-front.ensures.lacks)

pub returns-in_err-auth-clause-err : goal.returns-in_err-auth-clause-err
returns-in_err-auth-clause-err g c =
    if_err_at c.from_residual-in_err-auth.result _ _ c.from_residual-in_err-auth.ensures.1
    (opens_without_memory g.A.Memory.Lacks (serving_of c.args.waiting) c.args.text.now _ c.in-Some-named_in.named.user.now c.in-Some-named_in.named.nonce.now c.in-Some.binding c.in-Some.ensures c.in-Some-named_in.ensures c.in_err-auth.ensures.lacks)

pub returns-in_err-user-clause-err : goal.returns-in_err-user-clause-err
returns-in_err-user-clause-err g c =
    if_err_at c.from_residual-in_err-user.result _ _ c.from_residual-in_err-user.ensures.1
    (opens_without_memory g.A.Memory.Lacks (serving_of c.args.waiting) c.args.text.now _ c.in-Some-named_in.named.user.now c.in-Some-named_in.named.nonce.now c.in-Some.binding c.in-Some.ensures c.in-Some-named_in.ensures c.in_err-user.ensures.lacks)

pub returns-in_err-nonce-clause-err : goal.returns-in_err-nonce-clause-err
returns-in_err-nonce-clause-err g c =
    if_err_at c.from_residual-in_err-nonce.result _ _ c.from_residual-in_err-nonce.ensures.1
    (opens_without_memory g.A.Memory.Lacks (serving_of c.args.waiting) c.args.text.now _ c.in-Some-named_in.named.user.now c.in-Some-named_in.named.nonce.now c.in-Some.binding c.in-Some.ensures c.in-Some-named_in.ensures c.in_err-nonce.ensures.lacks)
