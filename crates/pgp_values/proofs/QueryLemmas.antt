-- Items of what texts are searched for: what reads one reads what its grammar says.
use Rattle.pgp_values.proofs.Common.{◌≡◌, ◌≢◌, ◌⊎◌, inl, inr, ℕ, ◌<◌, ◌^◌, Bool, true, false, eqb, not, List, [], ◌∷◌, ◌++◌, length, None, Ok, Err, refl, sym, ap, subst, ◌∙◌, arith, cases_eq, Error, UnexpectedEof, NotUtf8, NotDrained, UnknownTag, text_at, IsBytes, uint16, text, err_is, differ, ok_is, IsBytes-after, without_zero, flag_of, IsSound, Part, Begins, is_set, and_then_ok, and_then_err, IsItem, uint16_at, QueryItem, operand, negation, conjunction, disjunction, phrase, query_bytes, IsQueryItem, query_cause, text_part, IsSet, QuerySpelled, OperandRefused, IsOperator, OperatorRefused, QueryRefused, query_item, tsquery}
use Rattle.pgp_values.specs.QueryReading.{operand_of, operand_at, phrase_of, phrase_at, operator_of, operator_at, query_of, query_at}
use Rattle.pgp_values.proofs.LexemeLemmas.{text_is, count_is}
use Rattle.pgp_values.proofs.ListLemmas.{list_sound}
use Rattle.pgp_values.proofs.FormatLemmas.{other}

abbrev part : Part QueryItem
part = query_item.part

abbrev Read : Type 0
Read = QueryItem × List ℕ

-- what is read is this
as_read : (bytes : List ℕ) (y x : Read) → y ≡ x → Begins part bytes y.0 y.1 → Begins part bytes x.0 x.1
as_read bytes y x e b = subst (λ (p : Read). Begins part bytes p.0 p.1) e b

-- flags

set_by : (b : Bool) (flag : ℕ) → eqb flag 0 ≡ b → IsSet (not b) flag
set_by true flag e = grind arith
set_by false flag e = grind arith

set_is : (b p : Bool) (flag : ℕ) → eqb flag 0 ≡ b → IsSet p flag → p ≡ not b
set_is true true flag e h = absurd (grind arith)
set_is true false flag e h = refl
set_is false true flag e h = refl
set_is false false flag e h = absurd (grind arith)

-- operands

operand_found : (bytes : List ℕ) (x : QueryItem) (rest : List ℕ) → IsBytes bytes → operand_at bytes ≡ Ok (x, rest) → Begins part (1 ∷ bytes) x rest
unfolding operand_at
operand_found [] x rest h e = absurd (differ (x, rest) UnexpectedEof (sym e))
operand_found (w ∷ []) x rest h e = absurd (differ (x, rest) UnexpectedEof (sym e))
operand_found (w ∷ f ∷ after) x rest h e =
    let o = and_then_ok (text_at after) (operand_of w f) (x, rest) e in
    let b = text_is.found after o.0.0 o.0.1 (IsBytes-after (w ∷ f ∷ []) after (w ∷ f ∷ after) refl h) o.1 in
    as_read (1 ∷ w ∷ f ∷ after) (operand o.0.0 w (is_set f), o.0.1) (x, rest) (ok_is (operand o.0.0 w (is_set f), o.0.1) (x, rest) o.2)
    (record { front = 1 ∷ w ∷ f ∷ b.front; whole = ap (λ l. 1 ∷ w ∷ f ∷ l) b.whole; spelled = (f, b.front, b.spelled, refl, set_by (eqb f 0) f refl) })

operand_refused : (bytes : List ℕ) (e : Error) → IsBytes bytes → operand_at bytes ≡ Err e → OperandRefused bytes e
unfolding operand_at
operand_refused [] e h r = err_is {A = Read} e UnexpectedEof (sym r)
operand_refused (w ∷ []) e h r = err_is {A = Read} e UnexpectedEof (sym r)
operand_refused (w ∷ f ∷ after) e h r =
    elim (and_then_err (text_at after) (operand_of w f) e r) [
      | inl t ↦ text_is.refused after e (IsBytes-after (w ∷ f ∷ []) after (w ∷ f ∷ after) refl h) t
      | inr o ↦ absurd (differ (operand o.0.0 w (is_set f), o.0.1) e o.2)
    ]

operand_again : (z : List ℕ) (w f : ℕ) (t rest : List ℕ) → text_part.Spelled z t → operand_at (w ∷ f ∷ (t ++ rest)) ≡ Ok (operand z w (is_set f), rest)
unfolding operand_at
operand_again z w f t rest s = rw (text_is.again z t rest s) refl

operand_refuses : (bytes : List ℕ) (e : Error) → OperandRefused bytes e → operand_at bytes ≡ Err e
unfolding operand_at
operand_refuses [] e r = ap Err (sym r)
operand_refuses (w ∷ []) e r = ap Err (sym r)
operand_refuses (w ∷ f ∷ after) e r = rw (text_is.refuses after e r) refl

-- operators

phrase_found : (bytes : List ℕ) (x : QueryItem) (rest : List ℕ) → IsBytes bytes → phrase_at bytes ≡ Ok (x, rest) → Begins part (2 ∷ 4 ∷ bytes) x rest
phrase_found bytes x rest h e =
    let o = and_then_ok (uint16_at bytes) phrase_of (x, rest) e in
    let b = count_is.found bytes o.0.0 o.0.1 h o.1 in
    as_read (2 ∷ 4 ∷ bytes) (phrase o.0.0, o.0.1) (x, rest) (ok_is (phrase o.0.0, o.0.1) (x, rest) o.2)
    (record { front = 2 ∷ 4 ∷ uint16 o.0.0; whole = ap (λ l. 2 ∷ 4 ∷ l) (b.whole ∙ ap (λ f. f ++ o.0.1) b.spelled.1); spelled = (b.spelled.0, refl) })

phrase_refused : (bytes : List ℕ) (e : Error) → IsBytes bytes → phrase_at bytes ≡ Err e → (length bytes < 2) × (e ≡ UnexpectedEof)
phrase_refused bytes e h r =
    elim (and_then_err (uint16_at bytes) phrase_of e r) [
      | inl cut ↦ count_is.refused bytes e h cut
      | inr o ↦ absurd (differ (phrase o.0.0, o.0.1) e o.2)
    ]

phrase_again : (n : ℕ) (rest : List ℕ) → n < 2 ^ 16 → phrase_at (uint16 n ++ rest) ≡ Ok (phrase n, rest)
phrase_again n rest small = rw (count_is.again n (uint16 n) rest (small, refl)) refl

phrase_refuses : (bytes : List ℕ) (e : Error) → length bytes < 2 → e ≡ UnexpectedEof → phrase_at bytes ≡ Err e
phrase_refuses bytes e short is = rw (count_is.refuses bytes UnexpectedEof (short, refl), is) refl

no_operator : (n : ℕ) (rest : List ℕ) → (IsOperator n → ⊥) → operator_of n rest ≡ Err (UnknownTag n)
no_operator n rest h =
    rw (other n 1 (λ e. h (inl e)), other n 2 (λ e. h (inr (inl e))), other n 3 (λ e. h (inr (inr (inl e)))), other n 4 (λ e. h (inr (inr (inr e))))) refl

none_of : {P Q R S : Type 0} → (P → ⊥) → (Q → ⊥) → (R → ⊥) → (S → ⊥) → P ⊎ (Q ⊎ (R ⊎ S)) → ⊥
none_of p q r s (inl a) = p a
none_of p q r s (inr (inl a)) = q a
none_of p q r s (inr (inr (inl a))) = r a
none_of p q r s (inr (inr (inr a))) = s a

-- which operator it is, if it is one
which : (n : ℕ) → IsOperator n ⊎ (IsOperator n → ⊥)
which n =
    elim (cases_eq n 1) [
      | inl a ↦ inl (inl a)
      | inr p ↦ elim (cases_eq n 2) [
        | inl a ↦ inl (inr (inl a))
        | inr q ↦ elim (cases_eq n 3) [
          | inl a ↦ inl (inr (inr (inl a)))
          | inr r ↦ elim (cases_eq n 4) [
            | inl a ↦ inl (inr (inr (inr a)))
            | inr s ↦ inr (none_of p q r s)
          ]
        ]
      ]
    ]

module _ (after : List ℕ) (x : QueryItem) (rest : List ℕ) (h : IsBytes after) where
  abbrev Finds : ℕ → Type 0
  Finds n = operator_of n after ≡ Ok (x, rest) → Begins part (2 ∷ n ∷ after) x rest

  finds_negation : Finds 1
  finds_negation e = as_read (2 ∷ 1 ∷ after) (negation, after) (x, rest) (ok_is (negation, after) (x, rest) e) (record { front = 2 ∷ 1 ∷ []; whole = refl; spelled = refl })

  finds_conjunction : Finds 2
  finds_conjunction e = as_read (2 ∷ 2 ∷ after) (conjunction, after) (x, rest) (ok_is (conjunction, after) (x, rest) e) (record { front = 2 ∷ 2 ∷ []; whole = refl; spelled = refl })

  finds_disjunction : Finds 3
  finds_disjunction e = as_read (2 ∷ 3 ∷ after) (disjunction, after) (x, rest) (ok_is (disjunction, after) (x, rest) e) (record { front = 2 ∷ 3 ∷ []; whole = refl; spelled = refl })

  finds_phrase : Finds 4
  finds_phrase e = phrase_found after x rest h e

  finds : (n : ℕ) → IsOperator n → Finds n
  finds n (inl is) = subst (λ (k : ℕ). Finds k) (sym is) finds_negation
  finds n (inr (inl is)) = subst (λ (k : ℕ). Finds k) (sym is) finds_conjunction
  finds n (inr (inr (inl is))) = subst (λ (k : ℕ). Finds k) (sym is) finds_disjunction
  finds n (inr (inr (inr is))) = subst (λ (k : ℕ). Finds k) (sym is) finds_phrase

operator_found : (bytes : List ℕ) (x : QueryItem) (rest : List ℕ) → IsBytes bytes → operator_at bytes ≡ Ok (x, rest) → Begins part (2 ∷ bytes) x rest
unfolding operator_at
operator_found [] x rest h e = absurd (differ (x, rest) UnexpectedEof (sym e))
operator_found (n ∷ after) x rest h e =
    elim (which n) [
      | inl is ↦ finds after x rest (IsBytes-after (n ∷ []) after (n ∷ after) refl h) n is e
      | inr none ↦ absurd (differ (x, rest) (UnknownTag n) (sym e ∙ no_operator n after none))
    ]

module _ (after : List ℕ) (e : Error) (h : IsBytes after) where
  abbrev Rejects : ℕ → Type 0
  Rejects n = operator_of n after ≡ Err e → OperatorRefused (n ∷ after) e

  rejects : (n : ℕ) → IsOperator n → Rejects n
  rejects n (inl is) = subst (λ (k : ℕ). Rejects k) (sym is) (λ r. absurd (differ (negation, after) e r))
  rejects n (inr (inl is)) = subst (λ (k : ℕ). Rejects k) (sym is) (λ r. absurd (differ (conjunction, after) e r))
  rejects n (inr (inr (inl is))) = subst (λ (k : ℕ). Rejects k) (sym is) (λ r. absurd (differ (disjunction, after) e r))
  rejects n (inr (inr (inr is))) = subst (λ (k : ℕ). Rejects k) (sym is) (λ r. inl (refl, phrase_refused after e h r))

operator_refused : (bytes : List ℕ) (e : Error) → IsBytes bytes → operator_at bytes ≡ Err e → OperatorRefused bytes e
unfolding operator_at
operator_refused [] e h r = err_is {A = Read} e UnexpectedEof (sym r)
operator_refused (n ∷ after) e h r =
    elim (which n) [
      | inl is ↦ rejects after e (IsBytes-after (n ∷ []) after (n ∷ after) refl h) n is r
      | inr none ↦ inr (none, err_is {A = Read} e (UnknownTag n) (sym r ∙ no_operator n after none))
    ]

operator_refuses : (bytes : List ℕ) (e : Error) → OperatorRefused bytes e → operator_at bytes ≡ Err e
unfolding operator_at
operator_refuses [] e r = ap Err (sym r)
operator_refuses (n ∷ after) e (inl r) = subst (λ (k : ℕ). operator_of k after ≡ Err e) (sym r.0) (phrase_refuses after e r.1.0 r.1.1)
operator_refuses (n ∷ after) e (inr r) = no_operator n after r.0 ∙ ap Err (sym r.1)

-- items

no_kind : (n : ℕ) (rest : List ℕ) → n ≢ 1 → n ≢ 2 → query_of n rest ≡ Err (UnknownTag n)
no_kind n rest p q = rw (other n 1 p, other n 2 q) refl

query_found : (bytes : List ℕ) (x : QueryItem) (rest : List ℕ) → IsBytes bytes → query_at bytes ≡ Ok (x, rest) → Begins part bytes x rest
unfolding query_at
query_found [] x rest h e = absurd (differ (x, rest) UnexpectedEof (sym e))
query_found (n ∷ after) x rest h e =
    let later : IsBytes after = IsBytes-after (n ∷ []) after (n ∷ after) refl h in
    elim (cases_eq n 1) [
      | inl is ↦ subst (λ (k : ℕ). query_of k after ≡ Ok (x, rest) → Begins part (k ∷ after) x rest) (sym is) (operand_found after x rest later) e
      | inr p ↦ elim (cases_eq n 2) [
        | inl is ↦ subst (λ (k : ℕ). query_of k after ≡ Ok (x, rest) → Begins part (k ∷ after) x rest) (sym is) (operator_found after x rest later) e
        | inr q ↦ absurd (differ (x, rest) (UnknownTag n) (sym e ∙ no_kind n after p q))
      ]
    ]

query_refused : (bytes : List ℕ) (e : Error) → IsBytes bytes → query_at bytes ≡ Err e → QueryRefused bytes e
unfolding query_at
query_refused [] e h r = err_is {A = Read} e UnexpectedEof (sym r)
query_refused (n ∷ after) e h r =
    let later : IsBytes after = IsBytes-after (n ∷ []) after (n ∷ after) refl h in
    elim (cases_eq n 1) [
      | inl is ↦ inl (is, operand_refused after e later (subst (λ (k : ℕ). query_of k after ≡ Err e) is r))
      | inr p ↦ elim (cases_eq n 2) [
        | inl is ↦ inr (inl (is, operator_refused after e later (subst (λ (k : ℕ). query_of k after ≡ Err e) is r)))
        | inr q ↦ inr (inr ((p, q), err_is {A = Read} e (UnknownTag n) (sym r ∙ no_kind n after p q)))
      ]
    ]

query_again : (x : QueryItem) (front rest : List ℕ) → QuerySpelled x front → query_at (front ++ rest) ≡ Ok (x, rest)
unfolding query_at operator_at
query_again (operand z w p) front rest s = rw (s.3, set_is (eqb s.0 0) p s.0 refl s.4) (operand_again z w s.0 s.1 rest s.2)
query_again negation front rest s = rw s refl
query_again conjunction front rest s = rw s refl
query_again disjunction front rest s = rw s refl
query_again (phrase n) front rest s = rw s.1 (phrase_again n rest s.0)

query_refuses : (bytes : List ℕ) (e : Error) → QueryRefused bytes e → query_at bytes ≡ Err e
unfolding query_at
query_refuses [] e r = ap Err (sym r)
query_refuses (n ∷ after) e (inl r) = subst (λ (k : ℕ). query_of k after ≡ Err e) (sym r.0) (operand_refuses after e r.1)
query_refuses (n ∷ after) e (inr (inl r)) = subst (λ (k : ℕ). query_of k after ≡ Err e) (sym r.0) (operator_refuses after e r.1)
query_refuses (n ∷ after) e (inr (inr r)) = no_kind n after r.0.0 r.0.1 ∙ ap Err (sym r.1)

query_some : (x : QueryItem) (front : List ℕ) → QuerySpelled x front → 0 < length front
query_some (operand z w p) front s = rw s.3 (omega arith)
query_some negation front s = rw s (omega arith)
query_some conjunction front s = rw s (omega arith)
query_some disjunction front s = rw s (omega arith)
query_some (phrase n) front s = rw s.1 (omega arith)

operand_own : (bytes : List ℕ) → OperandRefused bytes NotDrained → ⊥
operand_own [] r = absurd (let e : NotDrained ≡ UnexpectedEof = r in cc)
operand_own (w ∷ []) r = absurd (let e : NotDrained ≡ UnexpectedEof = r in cc)
operand_own (w ∷ f ∷ rest) (inl cut) = absurd (let e : NotDrained ≡ UnexpectedEof = cut.1 in cc)
operand_own (w ∷ f ∷ rest) (inr bad) = absurd (let e : NotDrained ≡ NotUtf8 = bad.4 in cc)

operator_own : (bytes : List ℕ) → OperatorRefused bytes NotDrained → ⊥
operator_own [] r = absurd (let e : NotDrained ≡ UnexpectedEof = r in cc)
operator_own (n ∷ rest) (inl cut) = absurd (let e : NotDrained ≡ UnexpectedEof = cut.1.1 in cc)
operator_own (n ∷ rest) (inr r) = absurd (let e : NotDrained ≡ UnknownTag n = r.1 in cc)

query_own : (bytes : List ℕ) → QueryRefused bytes NotDrained → ⊥
query_own [] r = absurd (let e : NotDrained ≡ UnexpectedEof = r in cc)
query_own (n ∷ rest) (inl r) = operand_own rest r.1
query_own (n ∷ rest) (inr (inl r)) = operator_own rest r.1
query_own (n ∷ rest) (inr (inr r)) = absurd (let e : NotDrained ≡ UnknownTag n = r.1 in cc)

pub query_is_item : IsItem query_item.part query_at
query_is_item = record {
  part = record { found = query_found; again = query_again; refused = query_refused; refuses = query_refuses };
  some = query_some;
  own = query_own;
}

flag_set : (p : Bool) → IsSet p (flag_of p)
flag_set true = λ e. omega (arith, e)
flag_set false = refl

query_spelled : (x : QueryItem) → IsQueryItem x → query_cause x ≡ None → QuerySpelled x (query_bytes x)
query_spelled (operand z w p) is fits = (flag_of p, text z, ((without_zero z fits, refl), is), refl, flag_set p)
query_spelled negation is fits = refl
query_spelled conjunction is fits = refl
query_spelled disjunction is fits = refl
query_spelled (phrase n) is fits = (is, refl)

pub tsquery_sound : IsSound tsquery
tsquery_sound = list_sound query_item query_is_item query_spelled
