use Rattle.postgres_protocol.proofs.Common.{inl, inr}
use Rattle.postgres_protocol.proofs.SaslStops.{first_unwritten, sent_first, got_first, sent_final, first_missing, first_refused, final_unwritten, final_missing, final_refused}
use Rattle.postgres_protocol.proofs.laws.sasl.sasl_exchange.Goals as goal

pub returns-in-Err-sasl_response-clause-refused : goal.returns-in-Err-sasl_response-clause-refused
returns-in-Err-sasl_response-clause-refused g c =
    let old = c.args.client.now in
    let out = g.B.Buffer.held c.args.out.now in
    let first = sent_first c.args.mechanism.now old out _ c.requires.0 _ c.requires.1 c.in-Some.ensures c.in_default-sasl_initial_response.ensures.1.1 in
    let got = got_first c.args.mechanism.now old out _ _ _ _ _ _ first c.in_ok-challenge.ensures.taken c.data.ensures c.in_default-update.ensures.ok in
    inr (inr (inl (final_unwritten g.A.Memory.Lacks g.B.Buffer.Lacks c.args.mechanism.now old _ out _ _ _ _ _ _ _ got c.in-Some-message.ensures c.in-Err-sasl_response.ensures)))

pub returns-in_err-outcome-clause-refused : goal.returns-in_err-outcome-clause-refused
returns-in_err-outcome-clause-refused g c =
    let old = c.args.client.now in
    let out = g.B.Buffer.held c.args.out.now in
    let first = sent_first c.args.mechanism.now old out _ c.requires.0 _ c.requires.1 c.in-Some.ensures c.in_default-sasl_initial_response.ensures.1.1 in
    let got = got_first c.args.mechanism.now old out _ _ _ _ _ _ first c.in_ok-challenge.ensures.taken c.data.ensures c.in_default-update.ensures.ok in
    let final = sent_final c.args.mechanism.now old out _ _ _ _ _ _ got c.in-Some-message.ensures c.in_default-sasl_response.ensures.1.1 in
    final_missing g.A.Memory.Lacks g.B.Buffer.Lacks c.args.mechanism.now old _ out
    c.from_residual-in_err-outcome.result c.in_err-outcome.field-0.0 c.from_residual-in_err-outcome.ensures.1 _ _ _ _ _ final c.in_err-outcome.ensures.refused

pub returns-in-Err-finish-clause-refused : goal.returns-in-Err-finish-clause-refused
returns-in-Err-finish-clause-refused g c =
    let old = c.args.client.now in
    let out = g.B.Buffer.held c.args.out.now in
    let first = sent_first c.args.mechanism.now old out _ c.requires.0 _ c.requires.1 c.in-Some.ensures c.in_default-sasl_initial_response.ensures.1.1 in
    let got = got_first c.args.mechanism.now old out _ _ _ _ _ _ first c.in_ok-challenge.ensures.taken c.data.ensures c.in_default-update.ensures.ok in
    let final = sent_final c.args.mechanism.now old out _ _ _ _ _ _ got c.in-Some-message.ensures c.in_default-sasl_response.ensures.1.1 in
    inr (final_refused g.A.Memory.Lacks g.B.Buffer.Lacks c.args.mechanism.now old _ out _ _ _ _ _ _ _ _ _ final c.in_ok-outcome.ensures.taken c.data-2.ensures c.in-Err-finish.ensures.err)

pub returns-in-Err-clause-refused : goal.returns-in-Err-clause-refused
returns-in-Err-clause-refused g c =
    inl (first_unwritten c.args.mechanism.now c.args.client.now (g.B.Buffer.held c.args.out.now) _ c.requires.0 _ c.requires.1 c.in-Some.ensures g.A.Memory.Lacks g.B.Buffer.Lacks _ _ _ c.in-Err.ensures)

pub returns-in_err-challenge-clause-refused : goal.returns-in_err-challenge-clause-refused
returns-in_err-challenge-clause-refused g c =
    let old = c.args.client.now in
    let out = g.B.Buffer.held c.args.out.now in
    let first = sent_first c.args.mechanism.now old out _ c.requires.0 _ c.requires.1 c.in-Some.ensures c.in_default-sasl_initial_response.ensures.1.1 in
    first_missing g.A.Memory.Lacks g.B.Buffer.Lacks c.args.mechanism.now old _ out
    c.from_residual.result c.in_err-challenge.field-0.0 c.from_residual.ensures.1 _ _ _ first c.in_err-challenge.ensures.refused

pub returns-in-Err-update-clause-refused : goal.returns-in-Err-update-clause-refused
returns-in-Err-update-clause-refused g c =
    let old = c.args.client.now in
    let out = g.B.Buffer.held c.args.out.now in
    let first = sent_first c.args.mechanism.now old out _ c.requires.0 _ c.requires.1 c.in-Some.ensures c.in_default-sasl_initial_response.ensures.1.1 in
    inl (first_refused g.A.Memory.Lacks g.B.Buffer.Lacks c.args.mechanism.now old _ out _ _ _ _ _ _ _ first c.in_ok-challenge.ensures.taken c.data.ensures c.in-Err-update.ensures.err)
