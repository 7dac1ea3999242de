use Rattle.pgp_saslprep.proofs.Common.{◌∙◌, List, ℕ, Some, sym, ap, encode_utf8_all, chars, nfkc}
use Rattle.pgp_saslprep.proofs.Prepared.{unassigned_text, refused_text, kept_text}
use Rattle.pgp_saslprep.proofs.prepare.saslprep.Goals as goal

pub returns-then-has_unassigned-clause-ok : goal.returns-then-has_unassigned-clause-ok
returns-then-has_unassigned-clause-ok g c =
    unassigned_text c.args.text.now c.deref.result.now c.deref.utf8 (c.deref.ensures ∙ c.in_ok-mapped.ensures.ok) (sym c.has_unassigned.ensures ∙ c.if-has_unassigned.true)

pub returns-then-refuses-clause-ok : goal.returns-then-refuses-clause-ok
returns-then-refuses-clause-ok g c =
    refused_text c.args.text.now c.deref.result.now c.deref.utf8 (c.deref.ensures ∙ c.in_ok-mapped.ensures.ok) (sym c.has_unassigned.ensures ∙ c.if-has_unassigned.false)
    c.deref-3.result.now c.deref-3.utf8 (c.deref-3.ensures ∙ (c.in_ok-normal.ensures.ok ∙ ap (λ (bytes : List ℕ). encode_utf8_all (nfkc (chars bytes))) (c.deref-2.ensures ∙ sym c.deref.ensures))) (sym c.refuses.ensures ∙ c.if-refuses.true)

pub returns-clause-ok : goal.returns-clause-ok
returns-clause-ok g c =
    ap (λ (bytes : List ℕ). Some bytes) (c.in_ok-text_of.ensures.bytes ∙ (c.deref-4.ensures ∙ sym c.deref-3.ensures))
    ∙ kept_text c.args.text.now c.deref.result.now c.deref.utf8 (c.deref.ensures ∙ c.in_ok-mapped.ensures.ok) (sym c.has_unassigned.ensures ∙ c.if-has_unassigned.false)
    c.deref-3.result.now c.deref-3.utf8 (c.deref-3.ensures ∙ (c.in_ok-normal.ensures.ok ∙ ap (λ (bytes : List ℕ). encode_utf8_all (nfkc (chars bytes))) (c.deref-2.ensures ∙ sym c.deref.ensures))) (sym c.refuses.ensures ∙ c.if-refuses.false)
