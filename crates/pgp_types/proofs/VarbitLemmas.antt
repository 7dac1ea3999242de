-- Bit strings: what is read is the one reading.
use Rattle.pgp_types.proofs.Common.{◌≡◌, ◌⊎◌, inl, inr, ℕ, ◌<◌, List, length, Result, Ok, Err, refl, sym, ap, ◌∙◌, arith, cases_order, div_ceil, Error, InvalidBitLength, InvalidSize, IsBytes, uint32, ok, ok_is, differ, err_is, IsSound, Begins, natural_at, Varbit, bit_count, VarbitReads, varbit}
use Rattle.pgp_types.proofs.PartLemmas.{natural_part, begins_read}

same_front : (bytes : List ℕ) (m n : ℕ) (x y : List ℕ) → Begins bit_count bytes m x → Begins bit_count bytes n y → (m ≡ n) × (x ≡ y)
same_front bytes m n x y p q =
    let both : ok (m, x) ≡ ok (n, y) = sym (begins_read (natural_part InvalidBitLength) bytes m x p) ∙ begins_read (natural_part InvalidBitLength) bytes n y q in
    let e = ok_is (m, x) (n, y) both in
    (ap (λ r. r.0) e, ap (λ r. r.1) e)

not_both : (bytes : List ℕ) (n : ℕ) (rest : List ℕ) (e : Error) → Begins bit_count bytes n rest → bit_count.Refused bytes e → ⊥
not_both bytes n rest e p q = differ (n, rest) e (sym (begins_read (natural_part InvalidBitLength) bytes n rest p) ∙ (natural_part InvalidBitLength).refuses bytes e q)

one_refusal : (bytes : List ℕ) (d e : Error) → bit_count.Refused bytes d → bit_count.Refused bytes e → d ≡ e
one_refusal bytes d e p q = err_is {A = ℕ × List ℕ} d e (sym ((natural_part InvalidBitLength).refuses bytes d p) ∙ (natural_part InvalidBitLength).refuses bytes e q)

not_refused : (bytes : List ℕ) (v : Varbit) (e : Error) → VarbitReads bytes (Ok v) → VarbitReads bytes (Err e) → ⊥
not_refused bytes v e p q = elim q [
  | inl r ↦ not_both bytes v.len v.bytes e p.0 r
  | inr r ↦
      let same = same_front bytes v.len r.0 v.bytes r.1 p.0 r.2 in
      r.3 (sym (ap length same.1) ∙ p.1 ∙ ap (λ n. div_ceil n 8) same.0)
]

one_varbit : (bytes : List ℕ) (r s : Result Varbit Error) → VarbitReads bytes r → VarbitReads bytes s → r ≡ s
one_varbit bytes (Ok v) (Ok w) p q =
    let same = same_front bytes v.len w.len v.bytes w.bytes p.0 q.0 in
    rw (same.0, same.1) refl
one_varbit bytes (Ok v) (Err e) p q = absurd (not_refused bytes v e p q)
one_varbit bytes (Err e) (Ok w) p q = absurd (not_refused bytes w e q p)
one_varbit bytes (Err d) (Err e) p q = ap Err (elim p [
  | inl a ↦ elim q [ inl b ↦ one_refusal bytes d e a b | inr b ↦ absurd (not_both bytes b.0 b.1 d b.2 a) ]
  | inr a ↦ elim q [ inl b ↦ absurd (not_both bytes a.0 a.1 e a.2 b) | inr b ↦ a.4 ∙ sym b.4 ]
])

sized_or_not : (n : ℕ) (rest bytes : List ℕ) → Begins bit_count bytes n rest → (length rest ≡ div_ceil n 8) ⊎ ((length rest < div_ceil n 8) ⊎ (div_ceil n 8 < length rest)) → (r : Result Varbit Error) × VarbitReads bytes r
sized_or_not n rest bytes b (inl fits) = (Ok (record { len = n; bytes = rest }), (b, fits))
sized_or_not n rest bytes b (inr (inl short)) = (Err InvalidSize, inr (n, rest, b, (λ e. omega arith), refl))
sized_or_not n rest bytes b (inr (inr long)) = (Err InvalidSize, inr (n, rest, b, (λ e. omega arith), refl))

some_varbit : (bytes : List ℕ) → IsBytes bytes → (r : Result (ℕ × List ℕ) Error) → natural_at InvalidBitLength bytes ≡ r → (r : Result Varbit Error) × VarbitReads bytes r
some_varbit bytes h (Ok x) e = sized_or_not x.0 x.1 bytes ((natural_part InvalidBitLength).found bytes x.0 x.1 h e) (cases_order (length x.1) (div_ceil x.0 8))
some_varbit bytes h (Err d) e = (Err d, inl ((natural_part InvalidBitLength).refused bytes d h e))

pub varbit_sound : IsSound varbit
varbit_sound = record {
  some = λ bytes h. some_varbit bytes h (natural_at InvalidBitLength bytes) refl;
  one = one_varbit;
  back = λ v has fits. (record { front = uint32 v.len; whole = refl; spelled = (fits, refl) }, has);
}
