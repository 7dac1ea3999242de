-- Paths: what is read is the one reading.
use Rattle.pgp_types.proofs.Common.{◌≡◌, ◌≢◌, ℕ, zero, suc, ◌≤◌, Bool, true, false, List, [], ◌∷◌, ◌++◌, map, length, Some, None, Result, Ok, Err, refl, sym, ap, subst, ◌∙◌, arith, length-append, append_assoc, flat_map, AllByRecursion, ne_eqb, length-map, Error, UnexpectedEof, NotDrained, InvalidCount, TooLarge, length_cause, counted, IsBytes, uint32, length_fits, length_past, ok, ok_is, differ, err_is, IsSound, Point, IsPoint, point_bytes, Begins, IsWalk, is_set, flag_at, natural_at, point_at, then_at, Path, WalkedPath, flag, header, point_part, path_bytes, PathReads, path, point_at_xy, path_of, bool_bytes, BoolReads}
use Rattle.pgp_types.proofs.GeometryLemmas.{point_spelling}
use Rattle.pgp_types.proofs.PartLemmas.{IsPart, begins_read, rest_bytes, natural_part, then_part, fixed_is}
use Rattle.pgp_types.proofs.WalkLemmas.{IsItem, walk_meets, walk_few, walk_is, walk_back}

-- the flag

set_true : (n : ℕ) → n ≢ 0 → is_set n ≡ true
set_true n h = rw (ne_eqb n 0 h) refl

set_read : (n : ℕ) → BoolReads (n ∷ []) (Ok (is_set n))
set_read zero = refl
set_read (suc n) =
    let some : suc n ≢ 0 = λ e. omega arith in
    subst (λ (b : Bool). BoolReads (suc n ∷ []) (Ok b)) (sym (set_true (suc n) some)) (suc n, some, refl)

flag_found : (bytes : List ℕ) (x : Bool) (rest : List ℕ) → flag_at bytes ≡ Ok (x, rest) → Begins flag bytes x rest
flag_found [] x rest e = absurd (differ (x, rest) UnexpectedEof (sym e))
flag_found (n ∷ bytes) x rest e =
    subst (λ (p : Bool × List ℕ). Begins flag (n ∷ bytes) p.0 p.1) (ok_is (is_set n, bytes) (x, rest) e)
    (record { front = n ∷ []; whole = refl; spelled = set_read n })

flag_again : (x : Bool) (front rest : List ℕ) → BoolReads front (Ok x) → flag_at (front ++ rest) ≡ Ok (x, rest)
flag_again false front rest s = rw s refl
flag_again true front rest s = rw (s.2, set_true s.0 s.1) refl

flag_refused : (bytes : List ℕ) (e : Error) → flag_at bytes ≡ Err e → (bytes ≡ []) × (e ≡ UnexpectedEof)
flag_refused [] e h = (refl, err_is {A = Bool × List ℕ} e UnexpectedEof (sym h))
flag_refused (n ∷ bytes) e h = absurd (differ (is_set n, bytes) e h)

pub flag_part : IsPart flag flag_at
flag_part = record {
  found = λ bytes x rest h e. flag_found bytes x rest e;
  again = flag_again;
  refused = λ bytes e h r. flag_refused bytes e r;
  refuses = λ bytes e r. rw (r.0, r.1) refl;
}

pub header_part : IsPart header (then_at flag_at (natural_at InvalidCount))
header_part = then_part flag_part (natural_part InvalidCount)

-- the points

pub point_item : IsItem point_part point_at
unfolding point_at
point_item = record {
  part = fixed_is point_spelling;
  some = λ x front s. omega (arith, ap length s.1, point_spelling.sized x s.0);
  own = λ bytes r. let e : NotDrained ≡ UnexpectedEof = r.1 in cc;
}

pub point_read : (p : Point) (bytes front rest : List ℕ) → IsPoint p × (front ≡ point_bytes p) → bytes ≡ front ++ rest → point_at bytes ≡ Ok (p, rest)
point_read p bytes front rest s e = ap point_at e ∙ point_item.part.again p front rest s

-- the same by its coordinates
pub coordinates_read : (x y : ℕ) (p : Point) (bytes front rest : List ℕ) → x ≡ p.x → y ≡ p.y → IsPoint p × (front ≡ point_bytes p) → bytes ≡ front ++ rest → point_at bytes ≡ Ok (point_at_xy (x, y), rest)
coordinates_read x y p bytes front rest a b s e = rw (a, b) (point_read p bytes front rest s e)

-- the reading

abbrev pub seen : (closed : Bool) (n : ℕ) (rest : List ℕ) → WalkedPath
seen closed n rest = record { closed = closed; points = counted point_at n rest None }

path_is : (bytes : List ℕ) (p : WalkedPath) (n : ℕ) (rest : List ℕ) → IsWalk point_part n rest p.points → p ≡ seen p.closed n rest
path_is bytes p n rest w = rw (sym (walk_is point_item n rest p.points w)) refl

one_path : (bytes : List ℕ) (r s : Result WalkedPath Error) → PathReads bytes r → PathReads bytes s → r ≡ s
one_path bytes (Ok p) (Ok q) a b =
    let both : ok ((p.closed, a.0), a.1) ≡ ok ((q.closed, b.0), b.1) = sym (begins_read header_part bytes (p.closed, a.0) a.1 a.2) ∙ begins_read header_part bytes (q.closed, b.0) b.1 b.2 in
    let e = ok_is ((p.closed, a.0), a.1) ((q.closed, b.0), b.1) both in
    ap Ok (path_is bytes p a.0 a.1 a.3 ∙ (ap (λ x. seen x.0.0 x.0.1 x.1) e ∙ sym (path_is bytes q b.0 b.1 b.3)))
one_path bytes (Ok p) (Err e) a b = absurd (differ ((p.closed, a.0), a.1) e (sym (begins_read header_part bytes (p.closed, a.0) a.1 a.2) ∙ header_part.refuses bytes e b))
one_path bytes (Err e) (Ok q) a b = absurd (differ ((q.closed, b.0), b.1) e (sym (begins_read header_part bytes (q.closed, b.0) b.1 b.2) ∙ header_part.refuses bytes e a))
one_path bytes (Err d) (Err e) a b = ap Err (err_is {A = (Bool × ℕ) × List ℕ} d e (sym (header_part.refuses bytes d a) ∙ header_part.refuses bytes e b))

some_path : (bytes : List ℕ) → IsBytes bytes → (r : Result ((Bool × ℕ) × List ℕ) Error) → then_at flag_at (natural_at InvalidCount) bytes ≡ r → (r : Result WalkedPath Error) × PathReads bytes r
some_path bytes h (Ok x) e =
    let b = header_part.found bytes x.0 x.1 h e in
    (Ok (seen x.0.0 x.0.1 x.1), (x.0.1, x.1, b, walk_meets point_item x.0.1 x.1 (rest_bytes bytes x.0 x.1 b h)))
some_path bytes h (Err d) e = (Err d, header_part.refused bytes d h e)

points_spelled : (ps : List Point) → AllByRecursion IsPoint ps → AllByRecursion (λ p. IsPoint p × (point_bytes p ≡ point_bytes p)) ps
points_spelled [] h = tt
points_spelled (p ∷ ps) h = ((h.0, refl), points_spelled ps h.1)

bool_back : (b : Bool) → BoolReads (bool_bytes b) (Ok b)
bool_back false = refl
bool_back true = (1, (λ e. omega arith), refl)

path_back : (p : Path) → AllByRecursion IsPoint p.points → length_cause (length p.points) ≡ None → PathReads (path_bytes p) (Ok (path.seen p))
path_back p has fits = (
  length p.points,
  flat_map point_bytes p.points,
  record {
    front = bool_bytes p.closed ++ uint32 (length p.points);
    whole = sym (append_assoc (bool_bytes p.closed) (uint32 (length p.points)) (flat_map point_bytes p.points));
    spelled = record { first = bool_bytes p.closed; second = uint32 (length p.points); whole = refl; one = bool_back p.closed; other = (fits, refl) };
  },
  walk_back point_part point_bytes p.points (points_spelled p.points has),
)

pub path_sound : IsSound path
path_sound = record {
  some = λ bytes h. some_path bytes h (then_at flag_at (natural_at InvalidCount) bytes) refl;
  one = one_path;
  back = path_back;
}

-- What the reader returns.

module _ (bytes rest after : List ℕ) (byte : ℕ) (is : flag_at bytes ≡ Ok (is_set byte, rest)) where
  pub header_refused : (e : Error) → IsBytes bytes → natural_at InvalidCount rest ≡ Err e → header.Refused bytes e
  header_refused e h n = header_part.refused bytes e h (rw (is, n) refl)

  module _ (n : ℕ) (count : natural_at InvalidCount rest ≡ Ok (n, after)) (h : IsBytes bytes) where
    begins : Begins header bytes (is_set byte, n) after
    begins = header_part.found bytes (is_set byte, n) after h (rw (is, count) refl)

    pub path_read : PathReads bytes (Ok (seen (is_set byte) n after))
    path_read = (n, after, begins, walk_meets point_item n after (rest_bytes bytes (is_set byte, n) after begins h))

    pub path_few : length (counted point_at n after None).items ≤ length bytes
    path_few = omega (arith, ap length begins.whole, length-append begins.front after, walk_few point_item n after (rest_bytes bytes (is_set byte, n) after begins h))

-- What the writer's items come to.

pub points_fit : (closed : Bool) (xs : List (ℕ × ℕ)) → length xs ≤ 2147483647 → path.cause (path_of closed xs) ≡ None
points_fit closed xs h = length_fits (length (map point_at_xy xs)) (omega (arith, length-map xs point_at_xy))

pub points_pass : (closed : Bool) (xs : List (ℕ × ℕ)) (x : ℕ × ℕ) → length xs ≡ 2147483647 → path.cause (path_of closed (xs ++ x ∷ [])) ≡ Some TooLarge
points_pass closed xs x h = length_past (length (map point_at_xy (xs ++ x ∷ []))) (omega (arith, length-map (xs ++ x ∷ []) point_at_xy, length-append xs (x ∷ [])))
