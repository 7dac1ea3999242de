use Rattle.pgwire_engines.proofs.Common.{rules, subst, ℕ, List, string_bytes}
use Rattle.pgp_base.proofs.Parts.{if_err_at}
use Rattle.pgtool_line.specs.Taken.{AppendsFront}
use Rattle.pgwire_engines.proofs.client.client.Goals as goal

pub returns-in_err-put-clause-cut : goal.returns-in_err-put-clause-cut
returns-in_err-put-clause-cut g c =
    if_err_at c.from_residual-in_err-put.result _ _ c.from_residual-in_err-put.ensures.1
    (λ write. record {
      bytes = string_bytes c.in_ok-answer.answer.text;
      status = c.in_ok-answer.answer.status;
      meant = search rules;
      taken = subst (λ (b : List ℕ). AppendsFront (g.W.Write.contents c.args.output.now) (g.W.Write.contents c.put.new.output) b) c.as_bytes.ensures.value c.in_err-put.ensures.front;
    })
