-- The points of polygons and paths, and what they have in common with other values of a fixed size.
use Rattle.for_c.proofs.Common.{◌≡◌, ℕ, ◌+◌, Bool, true, false, List, [], ◌∷◌, ◌++◌, length, map, None, Some, Ok, refl, sym, ap, subst, ◌∙◌, arith, length-append, Cause, either, first, length_cause, StandsAt, hint_of, uint64, Error, length-uint32, FixedRefused, Point, Begins, PathReads, WalkedPath, header, point_part, BoolReads, polygon, BeginsPath, rest_of}
use Rattle.pgp_base.specs.declared.error.Error.TheVariants as errors
use Rattle.pgp_types.specs.Part.{Part}
use Rattle.for_c.proofs.Walks.{rest_after}

-- no point has a cause
none_first : (ps : List Point) → (let none : Point → Cause = λ _. None in first (map none ps)) ≡ None
none_first [] = refl
none_first (p ∷ ps) = none_first ps

alone : (c : Cause) → either c None ≡ c
alone None = refl
alone (Some e) = refl

pub corner_cause : (ps : List Point) → polygon.cause ps ≡ length_cause (length ps)
corner_cause ps = ap (λ d. either (length_cause (length ps)) d) (none_first ps) ∙ alone (length_cause (length ps))

-- bytes of a value's size are a value
pub never_rejected : (n : ℕ) (front : List ℕ) (e : Error) → length front ≡ n → FixedRefused n front e → ⊥
never_rejected n front errors.UnexpectedEof size short = omega (arith, size, short)
never_rejected n front errors.NotDrained size long = omega (arith, size, long)
never_rejected n front e size r = absurd r

pub length-uint64 : (n : ℕ) → length (uint64 n) ≡ 8
unfolding uint64
length-uint64 n = refl

pub point_long : (rest more : List ℕ) (p : Point) → Begins point_part rest p more → length rest ≡ 16 + length more
point_long rest more p b =
    omega (arith, ap length b.whole, length-append b.front more, ap length b.spelled.1, length-append (uint64 p.x) (uint64 p.y), length-uint64 p.x, length-uint64 p.y)

pub value_stands : {V : Type 0} (part : Part V) (at : ℕ) (rest more : List ℕ) (x : V) → Begins part rest x more → StandsAt (λ place. part.Spelled) at rest x more
value_stands part at rest more x b = record { front = b.front; whole = b.whole; spelled = b.spelled }

flag_size : (front : List ℕ) (b : Bool) → BoolReads front (Ok b) → length front ≡ 1
flag_size front false is = ap length is
flag_size front true is = ap length is.2

-- the points that are announced after the byte and the count
pub begins_path : (bytes : List ℕ) (n end : ℕ) (closed : Bool) (w : WalkedPath) → PathReads bytes (Ok w) → closed ≡ w.closed → n ≡ (hint_of w.points.announced).0 → end ≡ length bytes
    → BeginsPath bytes closed (record { at = 5; end = end; left = n })
begins_path bytes n end closed w (m, rest, b, walk) shut hint last =
    let reported : n ≡ m = hint ∙ ap (λ a. (hint_of a).0) walk.announced in
    let size : length b.front ≡ 5 =
    omega (arith, ap length b.spelled.whole, length-append b.spelled.first b.spelled.second, flag_size b.spelled.first w.closed b.spelled.one, ap length b.spelled.other.1, length-uint32 m) in
    let left : rest_of bytes 5 end ≡ rest = rest_after b.front rest bytes 5 end b.whole size last in
    subst (λ k. Begins header bytes (closed, k) (rest_of bytes 5 end)) (sym reported)
    (subst (λ (o : Bool). Begins header bytes (o, m) (rest_of bytes 5 end)) (sym shut) (record { front = b.front; whole = b.whole ∙ ap (λ l. b.front ++ l) (sym left); spelled = b.spelled }))
