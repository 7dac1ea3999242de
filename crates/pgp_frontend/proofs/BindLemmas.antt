-- What `bind` wrote, or why it rejected, from what its steps did.
use Rattle.pgp_frontend.proofs.Common.{◌≡◌, ℕ, ℤ, ◌+◌, ◌-◌, ◌≤◌, List, [], ◌∷◌, sym, Result, Option, Some, None, refl, ap, subst, inl, inr, MutBor, length, arith, length-append, FitsSigned, All, w16, uint32, int16, nullable, counted, append-nil, length_cause, counted_length, Held, ◌⊕◌, overwritten, more_bytes, Yielded, Error, BindError, Conversion, Serialization, IsNull, Bind, Serves, Served, before_values, BindWhole, BindRefused, Appended, Part, Text, Int16s, Values, joined, part_cause, parts_cause, HeadRefused, ItemsRefused, ValuesRefused}
use Rattle.pgp_frontend.proofs.Needs.{framed_wants, bind_length, joined_more}
use Rattle.pgp_frontend.proofs.Fields.{cause_more, cause_here, last_none}
use Rattle.pgp_frontend.proofs.Frames.{frame_room, frame_done, frame_fits, frame_passes, tagged}
use Rattle.pgp_frontend.proofs.Texts.{part_more}

module _ {F T E B K : Type 0} (held : B → Held K) (step : F → T → MutBor B → Result IsNull E → MutBor B → F → Type 0) {U S : Type 0} (into_iter_gives : U → S → Type 0) (next_gives : S → Option T → S → Type 0) (source : U) (f last : F) where
  -- the same, before which a buffer held the same
  pub refused_at : (here there : Held K) (lacks : Held K → ℕ → Type 0) (old : Held K) (e : BindError E) → here ≡ there → ValuesRefused (Yielded into_iter_gives next_gives source) (Serves held step f last) here lacks old e → ValuesRefused (Yielded into_iter_gives next_gives source) (Serves held step f last) there lacks old e
  refused_at here there lacks old e h r = subst (λ (here : Held K). ValuesRefused (Yielded into_iter_gives next_gives source) (Serves held step f last) here lacks old e) h r

  pub served_at : (here there : Held K) (vs : List (Option (List ℕ))) → here ≡ there → Served (Yielded into_iter_gives next_gives source) (Serves held step f last) here vs → Served (Yielded into_iter_gives next_gives source) (Serves held step f last) there vs
  served_at here there vs h r = subst (λ (here : Held K). Served (Yielded into_iter_gives next_gives source) (Serves held step f last) here vs) h r

module _ {F T E B K : Type 0} (held : B → Held K) (step : F → T → MutBor B → Result IsNull E → MutBor B → F → Type 0) {UI SI UJ SJ UK SK : Type 0} (i_into : UI → SI → Type 0) (i_next : SI → Option ℤ → SI → Type 0) (j_into : UJ → SJ → Type 0) (j_next : SJ → Option T → SJ → Type 0) (k_into : UK → SK → Type 0) (k_next : SK → Option ℤ → SK → Type 0)
    (portal statement : List ℕ) (formats : UI) (values : UJ) (f last : F) (result_formats : UK) (old : Held K) (lacks : Held K → ℕ → Type 0) where
  abbrev pub Refusal : BindError E → Type 0
  Refusal e = BindRefused portal statement (Yielded i_into i_next formats) (Yielded j_into j_next values) (Serves held step f last) (Yielded k_into k_next result_formats) old lacks e

  pub formats_refused : (e : Error) → f ≡ last → HeadRefused portal statement (Yielded i_into i_next formats) lacks old e → Refusal (Serialization e)
  formats_refused e same k = inl (Bind portal statement k.0 [] [], inl (same, (k.0, k.1, refl)), k.2)

  module _ (fs : List ℤ) (received : Yielded i_into i_next formats fs None) (none : parts_cause (Text portal ∷ Text statement ∷ Int16s fs ∷ []) ≡ None) where
    formats_none : part_cause (Int16s fs) ≡ None
    formats_none = last_none (Text portal ∷ Text statement ∷ []) (Int16s fs) none

    pub values_refused : (b4 : Held K) (e : BindError E) → b4 ≡ old ⊕ 66 ∷ [] ⊕ uint32 0 ⊕ joined (Text portal ∷ Text statement ∷ Int16s fs ∷ []) → ValuesRefused (Yielded j_into j_next values) (Serves held step f last) (before_values old portal statement fs) lacks b4 e → Refusal e
    values_refused b4 (Conversion e) front r = (fs, (received, none), r)
    values_refused b4 (Serialization e) front (inl count) =
        inl (
          Bind portal statement fs [] [],
          inl (count.0, (fs, inr (record { before = fs; next = None; received = received; none = formats_none; are = sym (append-nil fs) }), refl)),
          inl (count.1.0, framed_wants 66 (Text portal ∷ Text statement ∷ Int16s fs ∷ []) old b4 2 _ front (omega (arith, bind_length portal statement fs [] [], counted_length nullable [], counted_length int16 [])) count.1.1),
        )
    values_refused b4 (Serialization e) front (inr k) =
        inl (
          Bind portal statement fs k.0 [],
          inr (inl (fs, (received, none), (k.0, k.1, refl))),
          elim k.2 [
            | inl memory ↦ inl (memory.0, framed_wants 66 (Text portal ∷ Text statement ∷ Int16s fs ∷ []) old b4 _ _ front (omega (arith, bind_length portal statement fs k.0 [])) memory.1)
            | inr long ↦ inr (cause_here (Text portal ∷ Text statement ∷ Int16s fs ∷ []) (Values k.0) (Int16s [] ∷ []) e none long)
          ],
        )

    module _ (vs : List (Option (List ℕ))) (served : Served (Yielded j_into j_next values) (Serves held step f last) (before_values old portal statement fs) vs) (fit : part_cause (Values vs) ≡ None) where
      four_none : parts_cause (Text portal ∷ Text statement ∷ Int16s fs ∷ Values vs ∷ []) ≡ None
      four_none = cause_more (Text portal ∷ Text statement ∷ Int16s fs ∷ []) (Values vs) none fit

      pub results_refused : (b4 b5 : Held K) (e : Error) → b4 ≡ old ⊕ 66 ∷ [] ⊕ uint32 0 ⊕ joined (Text portal ∷ Text statement ∷ Int16s fs ∷ []) → b5 ≡ b4 ⊕ counted nullable vs
          → ItemsRefused (Yielded k_into k_next result_formats) Int16s lacks b5 e → Refusal (Serialization e)
      results_refused b4 b5 e front behind k =
          let four = Text portal ∷ Text statement ∷ Int16s fs ∷ Values vs ∷ [] in
          let stands = part_more (Text portal ∷ Text statement ∷ Int16s fs ∷ []) (Values vs) (old ⊕ 66 ∷ [] ⊕ uint32 0) b4 b5 front behind in
          inl (
            Bind portal statement fs vs k.0,
            inr (inr (fs, (received, none), (vs, served, fit, (k.0, k.1, refl)))),
            elim k.2 [
              | inl memory ↦ inl (
                memory.0,
                framed_wants 66 four old b5 _ _ stands (omega (arith, bind_length portal statement fs vs k.0, joined_more (Text portal ∷ Text statement ∷ Int16s fs ∷ []) (Values vs))) memory.1,
              )
              | inr past ↦ inr (cause_here four (Int16s k.0) [] e four_none past)
            ],
          )

      module _ (rs : List ℤ) (results : Yielded k_into k_next result_formats rs None) (counts : part_cause (Int16s rs) ≡ None) (b4 b5 d : Held K) (base : ℕ)
          (front : b4 ≡ old ⊕ 66 ∷ [] ⊕ uint32 0 ⊕ joined (Text portal ∷ Text statement ∷ Int16s fs ∷ [])) (behind : b5 ≡ b4 ⊕ counted nullable vs) (ends : d ≡ b5 ⊕ counted int16 rs) (at : base ≡ length old.bytes + 1) where
        abbrev all : List Part
        all = Text portal ∷ Text statement ∷ Int16s fs ∷ Values vs ∷ Int16s rs ∷ []

        all_none : parts_cause all ≡ None
        all_none = cause_more (Text portal ∷ Text statement ∷ Int16s fs ∷ Values vs ∷ []) (Int16s rs) four_none counts

        stands : d ≡ old ⊕ 66 ∷ [] ⊕ uint32 0 ⊕ joined all
        stands = part_more (Text portal ∷ Text statement ∷ Int16s fs ∷ Values vs ∷ []) (Int16s rs) (old ⊕ 66 ∷ [] ⊕ uint32 0) b5 d
            (part_more (Text portal ∷ Text statement ∷ Int16s fs ∷ []) (Values vs) (old ⊕ 66 ∷ [] ⊕ uint32 0) b4 b5 front behind) ends

        size : base ≡ length (old ⊕ 66 ∷ []).bytes
        size = omega (arith, ap length (more_bytes old (66 ∷ [])), length-append old.bytes (66 ∷ []))

        pub bind_room : base + 4 ≤ length d.bytes
        bind_room = frame_room all (old ⊕ 66 ∷ []) (old ⊕ 66 ∷ [] ⊕ uint32 0) d base refl stands size

        pub length_refused : (e : Error) → length_cause (length d.bytes - base) ≡ Some e → Refusal (Serialization e)
        length_refused e h =
            inr (Bind portal statement fs vs rs, (fs, received, (vs, served, (rs, results, refl))), all_none, frame_passes all (old ⊕ 66 ∷ []) (old ⊕ 66 ∷ [] ⊕ uint32 0) d base refl stands size e all_none h)

        pub bind_written : (r : Held K) → All (FitsSigned w16) fs → All (FitsSigned w16) rs → length_cause (length d.bytes - base) ≡ None → r ≡ overwritten d base (uint32 (length d.bytes - base))
            → Appended (BindWhole portal statement (Yielded i_into i_next formats) (Yielded j_into j_next values) (Serves held step f last) (Yielded k_into k_next result_formats) old) old r
        bind_written r fs_fit rs_fit fits done = record {
          message = Bind portal statement fs vs rs;
          whole = (fs, received, (vs, served, (rs, results, refl)));
          in_range = ((tt, (tt, (fs_fit, (tt, (rs_fit, tt))))), tt);
          none = frame_fits all (old ⊕ 66 ∷ []) (old ⊕ 66 ∷ [] ⊕ uint32 0) d base refl stands size all_none fits;
          appended = tagged 66 (joined all) old (old ⊕ 66 ∷ []) r refl (frame_done all (old ⊕ 66 ∷ []) (old ⊕ 66 ∷ [] ⊕ uint32 0) d base refl stands size r done);
        }
