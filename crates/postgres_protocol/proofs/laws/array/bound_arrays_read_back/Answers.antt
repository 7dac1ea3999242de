use Rattle.postgres_protocol.proofs.Common.{rules, arith, ◌≡◌, ◌≢◌, ◌<◌, ℕ, zero, suc, ℤ, pos, get_or, ◌∷◌, [], false, Option, Some, None, refl, ap, ◌∙◌, is_some, FitsSigned, tag_of, kind_of, payload, array_bytes, array_of, binding, same_tag, is_reported, kind_there}
use Rattle.std.specs.Int.{w16}
use Rattle.pgp_frontend.specs.Reading.{IsSpelled}
use Rattle.postgres_protocol.proofs.laws.array.bound_arrays_read_back.Goals as goal

not_there : {A : Type 0} (o : Option A) → is_some o ≡ false → o ≡ None
not_there None e = refl
not_there (Some x) e = cc

one_fits : (k : ℕ) (d : ℤ) → k < 1 → FitsSigned w16 (get_or (pos 1 ∷ []) k d)
one_fits zero d below = search rules
one_fits (suc k) d below = absurd (omega (arith, below))

pub returns : goal.returns
returns c = λ dimensions element_type vs is fits none.
    let m = binding dimensions element_type vs in
    let tagged : tag_of m ≢ None = λ e. cc in
    let spelled : IsSpelled m = record { none = none; in_range = ((tt, (tt, (one_fits, (tt, ((λ k d past. absurd (omega (arith, past))), tt))))), tt); named = tt } in
    let back = c.arrays.ensures.of_array in
    let value = back.back (array_of dimensions element_type vs) is fits in
    record {
      spelled = spelled;
      message = λ n more rest t s e.
          let tag = same_tag (tag_of n) (tag_of m) (payload n) (payload m) rest more t tagged e in
          let kind : kind_of n ≡ None = not_there (kind_of n) (kind_there n ∙ ap is_reported tag) in
          c.frames_begin_no_other.ensures.messages n m rest more t tagged kind s spelled e;
      value = value;
      only = λ r read. back.one (array_bytes (array_of dimensions element_type vs)) r _ read value;
    }
