-- Parts that are written as the bytes that stand for them: the same frame comes of it.
use Rattle.pgp_frontend_read.proofs.Common.{◌≡◌, ℕ, ℤ, ◌+◌, ◌<◌, ◌^◌, List, [], ◌∷◌, ◌++◌, length, Option, Some, None, Result, Ok, Err, refl, sym, ap, subst, ◌∙◌, append_assoc, arith, inl, inr, FitsSigned, w16, w32, cast_signed, to_z_pos, int16, int32, Held, Writes, either, length_cause, Error, ClientMessage, Bind, FunctionCall, Parse, Startup, PasswordKind, Part, Rest, Text, Int16, Int16s, Oid, Oids, Values, Pairs, Int32, spelling, part_cause, parts_cause, joined, framed, minor_code, WritesFrame, WritesMessage, bytes_of, cause, HasSpelling, minor_fits, Appends, Forwards, Step, Unread}
use Rattle.pgp_frontend_read.proofs.FaultLemmas.{signed_code}

-- two lists of parts with the same bytes and the same cause
record Same (ps qs : List Part) : Type 0 where
  bytes : joined ps ≡ joined qs
  cause : parts_cause ps ≡ parts_cause qs

same_none : Same [] []
same_none = record { bytes = refl; cause = refl }

same_part : (p : Part) (ps qs : List Part) → Same ps qs → Same (p ∷ ps) (p ∷ qs)
same_part p ps qs s = record { bytes = ap (λ l. spelling p ++ l) s.bytes; cause = ap (λ c. either (part_cause p) c) s.cause }

-- a list by its count and its items
same_list : (p : Part) (count items : List ℕ) (ps qs : List Part) → HasSpelling p → count ++ items ≡ spelling p → Same ps qs → Same (Rest count ∷ Rest items ∷ ps) (p ∷ qs)
same_list p count items ps qs h e s = record {
  bytes = sym (append_assoc count items (joined ps)) ∙ ap (λ l. l ++ joined ps) e ∙ ap (λ l. spelling p ++ l) s.bytes;
  cause = rw h.none s.cause;
}

-- a part in the place of another with the same bytes, of which none has a cause
same_spelling : (p q : Part) (ps qs : List Part) → part_cause p ≡ None → part_cause q ≡ None → spelling p ≡ spelling q → Same ps qs → Same (p ∷ ps) (q ∷ qs)
same_spelling p q ps qs c d e s = record {
  bytes = ap (λ l. l ++ joined ps) e ∙ ap (λ l. spelling q ++ l) s.bytes;
  cause = rw (c, d) s.cause;
}

module _ {K : Type 0} (lacks : Held K → ℕ → Type 0) (old new : Held K) (result : Result (Unit {0}) Error) where
  same_frame : (tag : Option ℕ) (ps qs : List Part) → Same ps qs → WritesFrame tag ps lacks old new result → WritesFrame tag qs lacks old new result
  same_frame tag ps qs s w =
      subst (λ c. Writes (framed tag (joined qs)) c lacks old new result) (ap (λ c. either c (length_cause (length (joined qs) + 4))) s.cause)
      (subst (λ l. Writes (framed tag l) (either (parts_cause ps) (length_cause (length l + 4))) lacks old new result) s.bytes w)

  pub writes_bind : (portal statement a b c d e f : List ℕ) (fs : List ℤ) (vs : List (Option (List ℕ))) (rs : List ℤ)
      → HasSpelling (Int16s fs) → a ++ b ≡ spelling (Int16s fs) → HasSpelling (Values vs) → c ++ d ≡ spelling (Values vs) → HasSpelling (Int16s rs) → e ++ f ≡ spelling (Int16s rs)
      → WritesFrame (Some 66) (Text portal ∷ Text statement ∷ Rest a ∷ Rest b ∷ Rest c ∷ Rest d ∷ Rest e ∷ Rest f ∷ []) lacks old new result
      → WritesMessage (Bind portal statement fs vs rs) lacks old new result
  writes_bind portal statement a b c d e f fs vs rs hf ef hv ev hr er w =
      let last = same_list (Int16s rs) e f [] [] hr er same_none in
      let values = same_list (Values vs) c d (Rest e ∷ Rest f ∷ []) (Int16s rs ∷ []) hv ev last in
      let lists = same_list (Int16s fs) a b (Rest c ∷ Rest d ∷ Rest e ∷ Rest f ∷ []) (Values vs ∷ Int16s rs ∷ []) hf ef values in
      let texts = same_part (Text portal) _ _ (same_part (Text statement) _ _ lists) in
      (((tt, (tt, (hf.in_range, (tt, (hr.in_range, tt))))), tt), same_frame (Some 66) _ _ texts w)

  pub writes_parse : (name query a b : List ℕ) (ts : List ℕ) → HasSpelling (Oids ts) → a ++ b ≡ spelling (Oids ts)
      → WritesFrame (Some 80) (Text name ∷ Text query ∷ Rest a ∷ Rest b ∷ []) lacks old new result → WritesMessage (Parse name query ts) lacks old new result
  writes_parse name query a b ts h e w =
      let texts = same_part (Text name) _ _ (same_part (Text query) _ _ (same_list (Oids ts) a b [] [] h e same_none)) in
      (((tt, (tt, (h.in_range, tt))), tt), same_frame (Some 80) _ _ texts w)

  pub writes_function_call : (function : ℕ) (a b c d r : List ℕ) (fs : List ℤ) (vs : List (Option (List ℕ))) (format : ℤ)
      → function < 2 ^ 32 → HasSpelling (Int16s fs) → a ++ b ≡ spelling (Int16s fs) → HasSpelling (Values vs) → c ++ d ≡ spelling (Values vs) → FitsSigned w16 format → r ≡ int16 format
      → WritesFrame (Some 70) (Int32 (cast_signed w32 function) ∷ Rest a ∷ Rest b ∷ Rest c ∷ Rest d ∷ Rest r ∷ []) lacks old new result
      → WritesMessage (FunctionCall function fs vs format) lacks old new result
  writes_function_call function a b c d r fs vs format small hf ef hv ev fits er w =
      let last = same_spelling (Rest r) (Int16 format) [] [] refl refl er same_none in
      let values = same_list (Values vs) c d (Rest r ∷ []) (Int16 format ∷ []) hv ev last in
      let lists = same_list (Int16s fs) a b (Rest c ∷ Rest d ∷ Rest r ∷ []) (Values vs ∷ Int16 format ∷ []) hf ef values in
      let all = same_spelling (Int32 (cast_signed w32 function)) (Oid function) _ _ refl refl (sym (signed_code function small)) lists in
      (((small, (hf.in_range, (tt, (fits, tt)))), tt), same_frame (Some 70) _ _ all w)

  pub writes_startup : (minor : ℕ) (bytes : List ℕ) (ps : List (List ℕ × List ℕ)) → minor < 2 ^ 16 → HasSpelling (Pairs ps) → bytes ≡ spelling (Pairs ps)
      → WritesFrame None (Int32 (cast_signed w32 (196608 + minor)) ∷ Rest bytes ∷ []) lacks old new result → WritesMessage (Startup minor ps) lacks old new result
  writes_startup minor bytes ps small h e w =
      let one = same_spelling (Rest bytes) (Pairs ps) [] [] refl h.none e same_none in
      let code : cast_signed w32 (196608 + minor) ≡ minor_code minor = to_z_pos w32 (196608 + minor) (omega (arith, small)) in
      let all = same_spelling (Int32 (cast_signed w32 (196608 + minor))) (Int32 (minor_code minor)) _ _ refl refl (ap int32 code) one in
      (((minor_fits minor small, (tt, tt)), small), same_frame None _ _ all w)

module _ {K : Type 0} (lacks : Held K → ℕ → Type 0) (m : ClientMessage) (old new : Held K) where
  written_appends : (result : Result (Unit {0}) Error) → cause m ≡ None → WritesMessage m lacks old new result → Appends lacks (bytes_of m) old new result
  written_appends (Ok done) none w = w.1.1
  written_appends (Err e) none w = (elim w.1.0 [ inl memory ↦ memory | inr c ↦ let k : Some e ≡ None = sym c ∙ none in cc ], w.1.1)

  pub read_forwards : (kind : PasswordKind) (before after : Unread) (result : Result (Unit {0}) Error) → Step kind before (Ok (Some m)) after → WritesMessage m lacks old new result → Forwards lacks before.bytes after.bytes old new result
  read_forwards kind before after result step w = record { stood = bytes_of m; whole = step.stands.whole; appends = written_appends result step.stands.spelled.none w }
