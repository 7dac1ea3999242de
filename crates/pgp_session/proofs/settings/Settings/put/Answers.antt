use Rattle.pgp_session.proofs.Common.{List, Setting, refl, sym, ap, subst, ◌∙◌, inr, arith, AreInOrder, replaced, size}
use Rattle.pgp_session.proofs.Placed.{others_take, put_there, stays_in_order, takes_so_much}
use Rattle.pgp_session.proofs.settings.Settings.put.Goals as goal

pub returns-in_default : goal.returns-in_default
returns-in_default g c =
    let lent = c.deref.ensures.value ∙ c.self.view_is in
    let others = others_take c.args.name.now c.args.self.now c.deref.result.now c.deref-2.result.now c.place-place.result c.self.inside.taken c.others-others.result lent (c.deref-2.ensures.value ∙ c.self.view_is) c.place-place.ensures (c.self.invariant.1 ∙ ap size c.self.view_is) c.others-others.ensures in
    (inr (refl, omega (arith, others, c.in_default.ensures, c.saturating_sub.ensures)), refl)

pub invariant_of-self-2 : goal.invariant_of-self-2
invariant_of-self-2 g c =
    let kept = c.self.inside.entries.items in
    let s : Setting = record { name = c.args.name.now; value = c.args.value.now } in
    let others = others_take c.args.name.now kept c.deref.result.now c.deref-2.result.now c.place-place.result c.self.inside.taken c.others-others.result c.deref.ensures.value c.deref-2.ensures.value c.place-place.ensures c.self.invariant.1 c.others-others.ensures in
    let put = put_there c.args.name.now c.args.value.now kept c.deref.result.now c.put_at.new.entries.items c.place-place.result c.in-Ok.entry c.deref.ensures.value c.place-place.ensures c.in-Ok.ensures.ok c.in-Ok-put_at.ensures.ok in
    let taken = takes_so_much c.args.name.now c.args.value.now kept c.deref.result.now c.place-place.result c.deref.ensures.value c.place-place.ensures in
    (subst AreInOrder (sym put) (stays_in_order s kept c.self.invariant.0), omega (arith, others, taken, c.in-Some.ensures, c.saturating_sub.ensures) ∙ ap size (sym put))

pub returns : goal.returns
returns g c =
    let lent = c.deref.ensures.value ∙ c.self.view_is in
    let others = others_take c.args.name.now c.args.self.now c.deref.result.now c.deref-2.result.now c.place-place.result c.self.inside.taken c.others-others.result lent (c.deref-2.ensures.value ∙ c.self.view_is) c.place-place.ensures (c.self.invariant.1 ∙ ap size c.self.view_is) c.others-others.ensures in
    let put = put_there c.args.name.now c.args.value.now c.self.inside.entries.items c.deref.result.now c.put_at.new.entries.items c.place-place.result c.in-Ok.entry c.deref.ensures.value c.place-place.ensures c.in-Ok.ensures.ok c.in-Ok-put_at.ensures.ok in
    (omega (arith, others, c.in-Some.ensures, c.saturating_sub.ensures), put ∙ ap (λ (l : List Setting). replaced (record { name = c.args.name.now; value = c.args.value.now }) l) c.self.view_is)
