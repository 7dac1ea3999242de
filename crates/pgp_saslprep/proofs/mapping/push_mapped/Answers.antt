use Rattle.pgp_saslprep.proofs.Common.{◌++◌, ◌∙◌, sym, ap, append-nil, string_bytes, in_table}
use Rattle.pgp_saslprep.proofs.Mapped.{as_nothing}
use Rattle.pgp_saslprep.proofs.mapping.push_mapped.Goals as goal

pub returns-then-lists-2-clause-ok : goal.returns-then-lists-2-clause-ok
returns-then-lists-2-clause-ok g c =
    let space = ap (λ table. in_table table c.args.c) (sym c.c_1_2_ranges.ensures.table) ∙ (sym c.lists.ensures ∙ c.if-lists.false) in
    let none = ap (λ table. in_table table c.args.c) (sym c.b_1_ranges.ensures.table) ∙ (sym c.lists-2.ensures ∙ c.if-lists-2.true) in
    sym (ap (λ bytes. string_bytes c.args.out.now ++ bytes) (as_nothing c.args.c space none) ∙ append-nil (string_bytes c.args.out.now))
