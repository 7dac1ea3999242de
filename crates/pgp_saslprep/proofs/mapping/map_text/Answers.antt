use Rattle.pgp_saslprep.proofs.Common.{encode_utf8_all, ◌∙◌, ap, sym, map-id, YieldsList-from_chars, YieldsList-end, encodes-append, mapped_text}
use Rattle.std.proofs.lemmas.Grind.{flat_map-append}
use Rattle.pgp_saslprep.proofs.mapping.map_text.Goals as goal

pub loop-c-preserved : goal.loop-c-preserved
loop-c-preserved g c =
    rw (flat_map-append, encodes-append, ← c.loop-c.invariant) c.in_ok-push_mapped.ensures.ok

pub returns-clause-ok : goal.returns-clause-ok
returns-clause-ok g c =
    let done = YieldsList-end (YieldsList-from_chars c.args.text.now c.utf8.text cc) c.loop-c.yielded _ c.loop-c.yielded_by _ _ c.in-None.is c.next.ensures.steps in
    c.loop-c.invariant ∙ ap (λ cs. encode_utf8_all (mapped_text cs)) (sym (map-id c.loop-c.yielded) ∙ done.0)
