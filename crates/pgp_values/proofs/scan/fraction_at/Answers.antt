use Rattle.pgp_values.proofs.Common.{◌≡◌, ◌∷◌, [], inl, refl, ap, ◌∙◌}
use Rattle.pgp_values.proofs.scan.fraction_at.Goals as goal

pub returns-in-Some : goal.returns-in-Some
returns-in-Some c =
    let ds = c.digits_at.result.0.now in
    record {
      point = 46 ∷ ds;
      pointed = inl refl;
      are = c.digits_at.ensures.are;
      none = λ e. (let f : 46 ∷ ds ≡ [] = e in absurd cc);
      stops = λ _. c.digits_at.ensures.stops;
      all = c.in-Some.ensures ∙ ap (λ l. 46 ∷ l) c.digits_at.ensures.all;
    }
