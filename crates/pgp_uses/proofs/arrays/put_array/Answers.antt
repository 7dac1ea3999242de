use Rattle.pgp_uses.proofs.Common.{fits_of, length_fits, Held, ◌⊕◌, Array, array_bytes, int4, w32, to_z_pos, rules, ◌≡◌, ℕ, ℤ, pos, List, map, option_map, ap, subst, ◌∙◌, Option, length, [], ◌∷◌, Some, refl, inl, arith, Wants, WantsMemory, Error, once_steps, YieldsList-from_once, all_given, some_given, all_same, some_same, first_of_one, FromOption}
use Rattle.std.proofs.lemmas.Iterator.{YieldsList-from_slice}
use Rattle.pgp_uses.proofs.Lists.{array_ok, array_refused}
use Rattle.pgp_uses.proofs.arrays.put_array.Goals as goal

-- the array with this length
abbrev with_len : ℤ → List (Option ℤ) → Array
with_len z values = record { dimensions = record { len = z; lower_bound = pos 1 } ∷ []; element_type = 23; elements = map (option_map int4.written) values }

-- a growth that it needs, with the length as a number
as_counted : {K : Type 0} {lacks : Held K → ℕ → Type 0} {old : Held K} {e : Error} {z : ℤ} (values : List (Option ℤ)) → WantsMemory (Wants lacks old (length (array_bytes (with_len z values)))) e → z ≡ pos (length values)
    → WantsMemory (Wants lacks old (length (array_bytes (with_len (pos (length values)) values)))) e
as_counted {lacks = lacks} {old = old} {e = e} values w is = subst (λ (z : ℤ). WantsMemory (Wants lacks old (length (array_bytes (with_len z values)))) e) is w

pub returns-in-Ok : goal.returns-in-Ok
returns-in-Ok g c =
    let values = c.args.values.now in
    let held = g.B.Buffer.held in
    let fits = length_fits (length values) (omega (arith, c.if-values-gt2147483647.false)) in (
      refl,
      fits,
      array_ok held _ g.B.Buffer.Lacks (λ f f' x b b' r s. search rules) _ 23 values _ _
          (λ xs k. all_same (FromOption _) once_steps (Some _) (_ ∷ []) (λ it from. YieldsList-from_once (Some _) from.0) xs k)
          (λ xs x k. (first_of_one _ xs x (some_same (FromOption _) once_steps (Some _) (_ ∷ []) (λ it from. YieldsList-from_once (Some _) from.0) xs x k)).0)
          (λ xs k. all_given _ _ c.args.values (λ x. x.now) values (λ it from. YieldsList-from_slice values from.0) xs k)
          (λ xs x k. some_given _ _ c.args.values (λ x. x.now) values (λ it from. YieldsList-from_slice values from.0) xs x k)
          _ _ (held c.args.buf.now) (held c.array_to_sql.new.buf) c.in-Ok.ensures.1
          ∙ ap (λ z. held c.args.buf.now ⊕ array_bytes (with_len z values)) (to_z_pos w32 (length values) (fits_of (length values) fits)),
    )

pub returns-in-Err : goal.returns-in-Err
returns-in-Err g c =
    let values = c.args.values.now in
    let held = g.B.Buffer.held in
    let fits = length_fits (length values) (omega (arith, c.if-values-gt2147483647.false)) in
    rw c.refusal.ensures (
      inl (as_counted values (array_refused held _ g.B.Buffer.Lacks (λ f f' x b b' r s. search rules) _ _ values _ _
          (λ xs k. all_same (FromOption _) once_steps (Some _) (_ ∷ []) (λ it from. YieldsList-from_once (Some _) from.0) xs k)
          (λ xs x k. (first_of_one _ xs x (some_same (FromOption _) once_steps (Some _) (_ ∷ []) (λ it from. YieldsList-from_once (Some _) from.0) xs x k)).0)
          (λ xs k. all_given _ _ c.args.values (λ x. x.now) values (λ it from. YieldsList-from_slice values from.0) xs k)
          (λ xs x k. some_given _ _ c.args.values (λ x. x.now) values (λ it from. YieldsList-from_slice values from.0) xs x k)
          _ _ (held c.args.buf.now) c.in-Err.e c.in-Err.ensures.1.0) (to_z_pos w32 (length values) (fits_of (length values) fits))),
      c.in-Err.ensures.1.1,
    )
