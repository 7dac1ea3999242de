use Rattle.pgtrace_lines.proofs.Common.{◌≡◌, ◌∷◌, [], List, pos, subst, ap, ◌∙◌, codes, string_bytes, OnOk, Part, Number, followed, key, clock_parts}
use Rattle.pgtrace_lines.proofs.replication.put_feedback.Goals as goal

pub returns-clause-parts : goal.returns-clause-parts
returns-clause-parts g c =
    let first : List Part = key (codes "xmin") ∷ Number (pos c.args.xmin) ∷ key (codes "epoch") ∷ Number (pos c.args.epoch) ∷ [] in
    let second : List Part = key (codes "catalog_xmin") ∷ Number (pos c.args.catalog_xmin) ∷ key (codes "catalog_epoch") ∷ Number (pos c.args.catalog_epoch) ∷ [] in
    subst (λ l. OnOk c.put_transaction-2.result (string_bytes c.put_transaction-2.new.line ≡ followed c.args.style l second))
    (c.in_ok-put_transaction.ensures.parts ∙ ap (λ l. followed c.args.style l first) (c.in_ok-put_clock.ensures.parts ∙ ap (λ l. followed c.args.style l (clock_parts c.args.clock)) c.in_ok-put_named.ensures.parts))
    c.put_transaction-2.ensures.parts
