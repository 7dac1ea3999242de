use Rattle.pgp_value_text.proofs.Common.{◌≡◌, ℕ, List, ◌++◌, ap, ◌∙◌, sym, subst, Shows, ShowsRange, range}
use Rattle.pgp_value_text.proofs.Texts.{tells_one}
use Rattle.pgp_value_text.proofs.range.put_range.Goals as goal

pub returns-then-branch : goal.returns-then-branch
returns-then-branch g c =
    let shows = Shows range (ShowsRange c.args.type_oid) c.args.bytes.now in
    let pushed : (t : List ℕ) × shows t × (c.push_member.new.out.items ≡ c.new-shown.result.items ++ t) = rw c.if-branch.true at c.in_ok-push_member.ensures in
    let is = c.as_slice.ensures ∙ (pushed.2 ∙ ap (λ l. l ++ pushed.0) c.new-shown.ensures.items) in
    tells_one _ _ _ c.as_slice.result.now shows c.put_raw.result (subst shows (sym is) pushed.1) c.put_raw.ensures
