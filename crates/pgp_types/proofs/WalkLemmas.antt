-- Walks over counted parts: what is read is the one walk that the grammar allows.
use Rattle.pgp_types.proofs.Common.{◌≡◌, ℕ, ◌+◌, ◌<◌, ◌≤◌, List, [], ◌∷◌, ◌++◌, map, length, Option, Some, None, refl, sym, ap, ◌∙◌, append-nil, concat, flat_map, AllByRecursion, Error, NotDrained, IsReader, Spellings, Walk, counted, counted_run, IsBytes, counted_whole, counted_few, counted_one, Part, IsWalk, Reader}
use Rattle.pgp_types.specs.Part.{finished}
use Rattle.pgp_types.proofs.PartLemmas.{IsPart}

-- a part that takes bytes, and is never rejected as not drained
pub record IsItem {V : Type 0} (p : Part V) (read : Reader V) : Type 0 where
  pub part : IsPart p read
  pub some : (x : V) (front : List ℕ) → p.Spelled x front → 0 < length front
  pub own : (bytes : List ℕ) → p.Refused bytes NotDrained → ⊥

pub reader_of : {V : Type 0} {p : Part V} {read : Reader V} → IsItem p read → IsReader (λ place. p.Spelled) p.Refused (λ place. read)
reader_of {V} {p} {read} item = record {
  found = λ place bytes x after h e. let b = item.part.found bytes x after h e in record { front = b.front; whole = b.whole; spelled = b.spelled };
  again = λ place x front after s. item.part.again x front after s;
  refused = λ place bytes e h r. item.part.refused bytes e h r;
  refuses = λ place bytes e r. item.part.refuses bytes e r;
  some = λ place x front s. item.some x front s;
  own = item.own;
}

walk_by : {V : Type 0} (w : Walk V) (xs : List V) (end : Option Error) (n : Option ℕ) → xs ≡ w.items → end ≡ w.end → w.announced ≡ n → w ≡ record { items = xs; end = end; announced = n }
walk_by w xs end n items ends a = rw (items, ends, sym a) refl

module _ {V : Type 0} {p : Part V} {read : Reader V} (item : IsItem p read) where
  pub walk_meets : (n : ℕ) (bytes : List ℕ) → IsBytes bytes → IsWalk p n bytes (counted read n bytes None)
  walk_meets n bytes h = record { items = counted_whole (λ place. p.Spelled) p.Refused (λ place. read) (reader_of item) n bytes h; announced = refl }

  pub walk_few : (n : ℕ) (bytes : List ℕ) → IsBytes bytes → length (counted_run read n bytes).0 ≤ length bytes
  walk_few n bytes h = counted_few (λ place. p.Spelled) p.Refused (λ place. read) (reader_of item) n bytes h

  pub walk_is : (n : ℕ) (bytes : List ℕ) (w : Walk V) → IsWalk p n bytes w → w ≡ counted read n bytes None
  walk_is n bytes w h =
      let e = counted_one (λ place. p.Spelled) p.Refused (λ place. read) (reader_of item) n bytes w.items w.end h.items in
      walk_by w (counted_run read n bytes).0 (counted_run read n bytes).1 (Some n) (ap (λ r. r.0) e) (ap (λ r. r.1) e) h.announced

-- What is written is walked.

joined_fronts : {V : Type 0} (spell : V → List ℕ) (xs : List V) → flat_map spell xs ≡ concat (map spell xs)
joined_fronts spell [] = refl
joined_fronts spell (x ∷ xs) = ap (λ l. spell x ++ l) (joined_fronts spell xs)

each_spelled : {V : Type 0} (p : Part V) (spell : V → List ℕ) (place : ℕ) (xs : List V) → AllByRecursion (λ x. p.Spelled x (spell x)) xs → Spellings (λ place. p.Spelled) place xs (map spell xs)
each_spelled p spell place [] h = tt
each_spelled p spell place (x ∷ xs) h = (h.0, each_spelled p spell (place + length (spell x)) xs h.1)

pub walk_back : {V : Type 0} (p : Part V) (spell : V → List ℕ) (xs : List V) → AllByRecursion (λ x. p.Spelled x (spell x)) xs → IsWalk p (length xs) (flat_map spell xs) (finished xs)
walk_back p spell xs h = record {
  items = record {
    fronts = map spell xs;
    rest = [];
    whole = joined_fronts spell xs ∙ sym (append-nil (concat (map spell xs)));
    each = each_spelled p spell 0 xs h;
    ends = (refl, refl);
  };
  announced = refl;
}
