-- The pairs of a startup packet, as an iterator gave them.
use Rattle.pgp_stream.proofs.Common.{◌≡◌, ℕ, zero, suc, ◌+◌, ◌≤◌, List, [], ◌∷◌, ◌++◌, length, take, map, Option, Some, None, refl, sym, ap, ◌∙◌, Bor, inl, inr, arith, length-append, flat_map, take_more, append-nil, take-length, YieldsList, YieldsList-so_far, YieldsList-turn, YieldsList-end, Wants, first, Held, Error, Startup, Arrived, shown, shown_pairs, Part, Int32, minor_code, minor_of, pair, pair_cause, parts_cause, bytes_of, cause}
use Rattle.std.proofs.Common.{◌⊎◌}
use Rattle.std.specs.Iterator.{YieldsThen}
use Rattle.std.specs.Option.{option_to_list}
use Rattle.pgp_base.specs.Calls.{Yielded}
use Rattle.pgp_frontend.specs.declared.startup.ProtocolVersion.{ProtocolVersion}
use Rattle.pgp_frontend.specs.declared.startup.ProtocolVersion.TheVariants.{V3_0, V3_2}
use Rattle.pgp_base.proofs.Parts.{wants_more}
use Rattle.pgp_frontend.proofs.Causes.{either_more, last_cause, refused_pairs}
use Rattle.pgp_frontend.proofs.Needs.{startup_length}

-- the versions that are written
pub minor_ours : (v : ProtocolVersion) → (minor_of v ≡ 0) ⊎ (minor_of v ≡ 2)
minor_ours V3_0 = inl refl
minor_ours V3_2 = inr refl

-- ---- the items of a list, one after another

map_itself : {X : Type 0} (xs : List X) → map (λ (x : X). x) xs ≡ xs
map_itself [] = refl
map_itself (x ∷ xs) = ap (λ l. x ∷ l) (map_itself xs)

module _ {S X : Type 0} (steps : S → Option X → S → Type 0) (s : S) (all : List X) (road : YieldsList steps (λ x. x) s all) where
  -- all of them came
  pub received_all : (xs : List X) (left : S) → YieldsThen steps s xs None left → xs ≡ all
  received_all xs left received = sym (map_itself xs) ∙ (YieldsList-end road xs received.0 received.1 None left refl received.2).0

  -- some came, and one more
  pub received_front : (xs : List X) (x : X) (left : S) → YieldsThen steps s xs (Some x) left → xs ++ x ∷ [] ≡ take (length xs + 1) all
  received_front xs x left received =
      let turn = YieldsList-turn road xs received.0 received.1 (Some x) left x refl received.2 in
      let so_far = sym (map_itself xs) ∙ YieldsList-so_far road xs received.0 received.1 in
      ap (λ l. l ++ x ∷ []) so_far ∙ ap (λ y. take (length xs) all ++ y ∷ []) turn.1 ∙ sym (take_more all (length xs) x turn.0)

-- those that came so far are the first ones
module _ {S X U : Type 0} (into_iter_gives : U → S → Type 0) (steps : S → Option X → S → Type 0) (source : U) (all : List X) (roads : (s : S) → into_iter_gives source s → YieldsList steps (λ x. x) s all) (xs : List X) where
  asked_front : (before : List X) (next : Option X) → Yielded into_iter_gives steps source before next → xs ≡ before ++ option_to_list next → (k : ℕ) × (xs ≡ take k all)
  asked_front before None received are = (length all, are ∙ (append-nil before ∙ (received_all steps received.iterator all (roads received.iterator received.from) before received.left received.received ∙ sym (take-length all))))
  asked_front before (Some x) received are = (length before + 1, are ∙ received_front steps received.iterator all (roads received.iterator received.from) before x received.left received.received)

  pub received_so_far : (part : List X → Part) → Arrived (Yielded into_iter_gives steps source) part xs → (k : ℕ) × (xs ≡ take k all)
  received_so_far part (inl none) = (0, none)
  received_so_far part (inr asked) = asked_front asked.before asked.next asked.received asked.are

-- ---- the packet of the first pairs is no longer than that of all

shorter_front : (all : List (Bor (List ℕ) × Bor (List ℕ))) (k : ℕ) → length (flat_map pair (map shown (take k all))) ≤ length (flat_map pair (map shown all))
shorter_front [] zero = omega arith
shorter_front [] (suc k) = omega arith
shorter_front (x ∷ xs) zero = omega arith
shorter_front (x ∷ xs) (suc k) =
    let more = shorter_front xs k in
    omega (arith, more, length-append (pair (shown x)) (flat_map pair (map shown (take k xs))), length-append (pair (shown x)) (flat_map pair (map shown xs)))

pub startup_wants : {K : Type 0} {lacks : Held K → ℕ → Type 0} (v : ℕ) (all xs : List (Bor (List ℕ) × Bor (List ℕ))) (old : Held K) → (k : ℕ) × (xs ≡ take k all) → Wants lacks old (length (bytes_of (Startup v (map shown xs))))
    → Wants lacks old (length (bytes_of (Startup v (map shown all))))
startup_wants v all xs old so_far w =
    let front = ap (λ l. length (flat_map pair (map shown l))) so_far.1 in
    let less = shorter_front all so_far.0 in
    let some = startup_length v (map shown xs) in
    let whole = startup_length v (map shown all) in
    wants_more old _ _ (omega (arith, front, less, some, whole, length-append (flat_map pair (map shown xs)) (0 ∷ []), length-append (flat_map pair (map shown all)) (0 ∷ []))) w

-- ---- the first cause of the first pairs is that of the packet

first_front : (xs : List (Bor (List ℕ) × Bor (List ℕ))) (k : ℕ) (e : Error) → first (map pair_cause (map shown (take k xs))) ≡ Some e → first (map pair_cause (map shown xs)) ≡ Some e
first_front [] zero e h = cc
first_front [] (suc k) e h = cc
first_front (x ∷ xs) zero e h = cc
first_front (x ∷ xs) (suc k) e h = either_more (pair_cause (shown x)) (first (map pair_cause (map shown (take k xs)))) (first (map pair_cause (map shown xs))) e (first_front xs k e) h

pub front_refused : (v : ℕ) (all : List (Bor (List ℕ) × Bor (List ℕ))) (k : ℕ) (e : Error) → parts_cause (Int32 (minor_code v) ∷ shown_pairs (take k all) ∷ []) ≡ Some e → cause (Startup v (map shown all)) ≡ Some e
front_refused v all k e h = refused_pairs (first (map pair_cause (map shown all))) _ e (first_front all k e (last_cause (first (map pair_cause (map shown (take k all)))) e h))
