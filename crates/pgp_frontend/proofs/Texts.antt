-- The parts of a message, one more.
use Rattle.pgp_frontend.proofs.Common.{◌≡◌, List, [], ◌∷◌, ◌++◌, sym, ap, ◌∙◌, append-nil, more_parts, Held, ◌⊕◌, Part, spelling, joined}

-- one part more
pub part_more : {K : Type 0} (ps : List Part) (p : Part) (a b d : Held K) → b ≡ a ⊕ joined ps → d ≡ b ⊕ spelling p → d ≡ a ⊕ joined (ps ++ p ∷ [])
part_more ps p a b d e f = more_parts spelling a b d ps p e f

-- the first part
pub first_part : {K : Type 0} (p : Part) (a d : Held K) → d ≡ a ⊕ spelling p → d ≡ a ⊕ joined (p ∷ [])
first_part p a d e = e ∙ ap (λ s. a ⊕ s) (sym (append-nil (spelling p)))
