-- The names and values of a startup packet.
use Rattle.pgp_frontend_read.proofs.Common.{◌≡◌, ◌≢◌, ℕ, zero, suc, ◌<◌, ◌≤◌, false, List, [], ◌∷◌, ◌++◌, length, Option, Some, None, Result, Ok, Err, refl, sym, ap, subst, ◌∙◌, append_assoc, arith, flat_map, AllByRecursion, text, HasNoZero, string_at, is_marked, marked_run, read_on, drained, Error, NotDrained, UnexpectedEof, string_takes, string_front, string_whole, string_falls, pair, IsPair, pair_at, pairs_at, all_of, ok_is}
use Rattle.std.proofs.lemmas.List.{length-append}
use Rattle.pgp_base.proofs.MarkedLemmas.{Falls}
use Rattle.pgp_frontend_read.proofs.ValueLemmas.{bound}

pub record PairStands (bytes : List ℕ) (p : List ℕ × List ℕ) (rest : List ℕ) : Type 0 where
  pub name : HasNoZero p.0
  pub value : HasNoZero p.1
  pub whole : bytes ≡ pair p ++ rest
  pub falls : length rest < length bytes

abbrev both : List ℕ → List ℕ → List ℕ → (List ℕ × List ℕ) × List ℕ
both name value rest = ((name, value), rest)

pub pair_found : (bytes : List ℕ) (x : (List ℕ × List ℕ) × List ℕ) → pair_at bytes ≡ Ok x → PairStands bytes x.0 x.1
unfolding pair_at
pair_found bytes x e =
    let n = bound (string_at bytes) _ x e in
    let v = bound (string_at n.0.1) _ x n.2 in
    let name = string_takes bytes n.0 n.1 in
    let value = string_takes n.0.1 v.0 v.1 in
    let a : bytes ≡ text n.0.0 ++ n.0.1 = string_whole bytes n.0.0 n.0.1 name.parts in
    let b : n.0.1 ≡ text v.0.0 ++ v.0.1 = string_whole n.0.1 v.0.0 v.0.1 value.parts in
    let all : bytes ≡ (text n.0.0 ++ text v.0.0) ++ v.0.1 = a ∙ ap (λ l. text n.0.0 ++ l) b ∙ sym (append_assoc (text n.0.0) (text v.0.0) v.0.1) in
    let less : length v.0.1 < length bytes = omega (arith, string_falls bytes n.0 n.1, string_falls n.0.1 v.0 v.1) in
    subst (λ (y : (List ℕ × List ℕ) × List ℕ). PairStands bytes y.0 y.1) (ok_is (both n.0.0 v.0.0 v.0.1) x v.2) (record { name = name.no_zero; value = value.no_zero; whole = all; falls = less })

pub pair_again : (p : List ℕ × List ℕ) (rest : List ℕ) → HasNoZero p.0 → HasNoZero p.1 → pair_at (pair p ++ rest) ≡ Ok (p, rest)
unfolding pair_at
pair_again (name, value) rest h k =
    let split : pair (name, value) ++ rest ≡ text name ++ (text value ++ rest) = append_assoc (text name) (text value) rest in
    let one : string_at (pair (name, value) ++ rest) ≡ Some (name, text value ++ rest) = ap string_at split ∙ string_front name (text value ++ rest) h in
    rw (one, string_front value rest k) refl

pub pair_falls : Falls pair_at
pair_falls bytes x after e = (pair_found bytes (x, after) e).falls

-- ---- all pairs

pub record PairsStand (bytes : List ℕ) (ps : List (List ℕ × List ℕ)) : Type 0 where
  pub clean : AllByRecursion IsPair ps
  pub whole : bytes ≡ flat_map pair ps ++ 0 ∷ []

-- what a list and its end are
abbrev run : List (List ℕ × List ℕ) → List (List ℕ × List ℕ) × Option Error
run ps = (ps, None)

unmarked_name : (p : List ℕ × List ℕ) (b : ℕ) (bytes rest : List ℕ) → suc b ∷ bytes ≡ pair p ++ rest → p.0 ≢ []
unmarked_name (name, value) b bytes rest e none =
    let h : suc b ∷ bytes ≡ pair ([], value) ++ rest = e ∙ ap (λ n. pair (n, value) ++ rest) none in
    let k : suc b ≡ 0 = cc in
    omega (arith, k)

on_found : (go : List ℕ → List (List ℕ × List ℕ) × Option Error) (r : Result ((List ℕ × List ℕ) × List ℕ) Error) (ps : List (List ℕ × List ℕ)) → read_on go r ≡ run ps
    → (x : (List ℕ × List ℕ) × List ℕ) × (r ≡ Ok x) × (ps ≡ x.0 ∷ (go x.1).0) × ((go x.1).1 ≡ None)
on_found go (Ok x) ps e = (x, refl, ap (λ (p : List _ × Option Error). p.0) (sym e), ap (λ (p : List _ × Option Error). p.1) e)
on_found go (Err f) ps e = let h : Some f ≡ None = ap (λ (p : List (List ℕ × List ℕ) × Option Error). p.1) e in absurd cc

drained_found : (bytes : List ℕ) (ps : List (List ℕ × List ℕ)) → drained bytes ≡ run ps → (bytes ≡ []) × (ps ≡ [])
drained_found [] ps e = (refl, ap (λ (p : List _ × Option Error). p.0) (sym e))
drained_found (b ∷ bytes) ps e = let h : Some NotDrained ≡ None = ap (λ (p : List (List ℕ × List ℕ) × Option Error). p.1) e in absurd cc

pub run_is : (x : List (List ℕ × List ℕ) × Option Error) → x.1 ≡ None → x ≡ run x.0
run_is (xs, end) e = ap (λ d. (xs, d)) e

pub run_found : (k : ℕ) (bytes : List ℕ) (ps : List (List ℕ × List ℕ)) → marked_run pair_at k bytes ≡ run ps → PairsStand bytes ps
run_found zero bytes ps e = let h : Some UnexpectedEof ≡ None = ap (λ (p : List (List ℕ × List ℕ) × Option Error). p.1) e in absurd cc
run_found (suc k) [] ps e =
    let on = on_found (marked_run pair_at k) (pair_at []) ps e in
    let one = pair_found [] on.0 on.1 in
    absurd (omega (arith, one.falls))
run_found (suc k) (zero ∷ bytes) ps e =
    let d = drained_found bytes ps e in
    rw (d.0, d.1) (record { clean = tt; whole = refl })
run_found (suc k) (suc b ∷ bytes) ps e =
    let on = on_found (marked_run pair_at k) (pair_at (suc b ∷ bytes)) ps e in
    let one = pair_found (suc b ∷ bytes) on.0 on.1 in
    let more = run_found k on.0.1 (marked_run pair_at k on.0.1).0 (run_is (marked_run pair_at k on.0.1) on.3) in
    let named = unmarked_name on.0.0 b bytes on.0.1 one.whole in
    rw on.2 (record {
      clean = ((one.name, one.value, named), more.clean);
      whole = one.whole ∙ ap (λ l. pair on.0.0 ++ l) more.whole ∙ sym (append_assoc (pair on.0.0) (flat_map pair (marked_run pair_at k on.0.1).0) (0 ∷ []));
    })

pub marked_by : (name : List ℕ) (more : List ℕ) → HasNoZero name → name ≢ [] → is_marked (name ++ more) ≡ false
marked_by [] more h n = absurd (n refl)
marked_by (zero ∷ name) more h n = absurd (h.0 refl)
marked_by (suc b ∷ name) more h n = refl

pub run_again : (k : ℕ) (ps : List (List ℕ × List ℕ)) → AllByRecursion IsPair ps → length ps < k → marked_run pair_at k (flat_map pair ps ++ 0 ∷ []) ≡ run ps
run_again zero ps h lt = absurd (omega (arith, lt))
run_again (suc k) [] h lt = refl
run_again (suc k) (p ∷ ps) h lt =
    let rest : List ℕ = flat_map pair ps ++ 0 ∷ [] in
    let split : flat_map pair (p ∷ ps) ++ 0 ∷ [] ≡ pair p ++ rest = append_assoc (pair p) (flat_map pair ps) (0 ∷ []) in
    let deep : pair p ++ rest ≡ p.0 ++ (0 ∷ [] ++ (text p.1 ++ rest)) = append_assoc (text p.0) (text p.1) rest ∙ append_assoc p.0 (0 ∷ []) (text p.1 ++ rest) in
    let mark : is_marked (flat_map pair (p ∷ ps) ++ 0 ∷ []) ≡ false = ap is_marked (split ∙ deep) ∙ marked_by p.0 (0 ∷ [] ++ (text p.1 ++ rest)) h.0.0 h.0.2 in
    let one : pair_at (flat_map pair (p ∷ ps) ++ 0 ∷ []) ≡ Ok (p, rest) = ap pair_at split ∙ pair_again p rest h.0.0 h.0.1 in
    rw (mark, one, run_again k ps h.1 (omega (arith, lt))) refl

all_found : (r : List (List ℕ × List ℕ) × Option Error) (ps : List (List ℕ × List ℕ)) (rest : List ℕ) → all_of r ≡ Ok (ps, rest) → (r ≡ run ps) × (rest ≡ [])
all_found (xs, None) ps rest e =
    let h = ok_is (xs, []) (ps, rest) e in
    (ap (λ (p : List _ × List ℕ). run p.0) h, ap (λ (p : List (List ℕ × List ℕ) × List ℕ). p.1) (sym h))
all_found (xs, Some f) ps rest e = absurd cc

pub pairs_found : (bytes : List ℕ) (ps : List (List ℕ × List ℕ)) (rest : List ℕ) → pairs_at bytes ≡ Ok (ps, rest) → PairsStand bytes ps × (rest ≡ [])
unfolding pairs_at
pairs_found bytes ps rest e =
    let a = all_found (marked_run pair_at (suc (length bytes)) bytes) ps rest e in
    (run_found (suc (length bytes)) bytes ps a.0, a.1)

each_some : (ps : List (List ℕ × List ℕ)) → length ps ≤ length (flat_map pair ps)
each_some [] = omega arith
each_some (p ∷ ps) = omega (arith, each_some ps, length-append (pair p) (flat_map pair ps), length-append (text p.0) (text p.1), length-append p.0 (0 ∷ []))

pub pairs_again : (ps : List (List ℕ × List ℕ)) → AllByRecursion IsPair ps → pairs_at (flat_map pair ps ++ 0 ∷ []) ≡ Ok (ps, [])
unfolding pairs_at
pairs_again ps h =
    let bytes : List ℕ = flat_map pair ps ++ 0 ∷ [] in
    ap all_of (run_again (suc (length bytes)) ps h (omega (arith, each_some ps, length-append (flat_map pair ps) (0 ∷ []))))
