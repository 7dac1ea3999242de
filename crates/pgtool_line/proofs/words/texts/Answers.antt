use Rattle.pgtool_line.proofs.Common.{rules, map, string_bytes, [], ◌∷◌, sym, ap, subst, ◌∙◌, map-append}
use Rattle.std.proofs.lemmas.Str.{IsUtf8-string_bytes}
use Rattle.pgtool_line.proofs.WordLemmas.{one_more}
use Rattle.pgtool_line.proofs.words.texts.Goals as goal

pub places-preserved : goal.places-preserved
places-preserved g c =
    let Stands = g.V.Words.Stands c.args.env.now in
    let (texts, here) = c.places.invariant in
    let text = c.in-Ok.text in
    let stands : Stands c.places.place (string_bytes text) = subst (λ b. Stands c.places.place b.items) (sym c.in-Ok.ensures.ok) (search rules) in
    one_more Stands c.places.place _ _ _ texts here stands (IsUtf8-string_bytes text)
    (ap (map string_bytes) c.in_ok-push-in-Ok.ensures.items ∙ map-append string_bytes c.places.texts.items (text ∷ []))
