use Rattle.pgp_client.proofs.Common.{◌≡◌, ◌∙◌, true, false, sym, ap, has_end}
use Rattle.pgp_client.proofs.SlotItems.{end_behind, end_before}
use Rattle.pgp_client.proofs.queue.VecDequeAskedQueue.has_end.Goals as goal

pub returns-then-has_end : goal.returns-then-has_end
returns-then-has_end g c =
    let first : has_end c.as_slices.result.0.now ≡ true = sym c.has_end.ensures ∙ c.if-has_end.true in
    sym (end_before c.as_slices.result.1.now c.as_slices.result.0.now first) ∙ ap has_end c.as_slices.ensures.items

pub returns : goal.returns
returns g c =
    let first : has_end c.as_slices.result.0.now ≡ false = sym c.has_end.ensures ∙ c.if-has_end.false in
    c.has_end-2.ensures ∙ sym (end_behind c.as_slices.result.1.now c.as_slices.result.0.now first) ∙ ap has_end c.as_slices.ensures.items
