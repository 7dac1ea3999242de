-- Items of a list, one after another: what is read is spelled so, and what is spelled so is read.
use Rattle.pgp_frontend_read.proofs.Common.{◌≡◌, ℕ, zero, suc, ◌+◌, ◌-◌, ◌*◌, ◌<◌, List, [], ◌∷◌, ◌++◌, length, take, drop, Some, Result, Ok, Err, refl, sym, ap, subst, ◌∙◌, append_assoc, arith, length-append, length-take, length-drop, flat_map, AllByRecursion, append-nil, take-append-drop, drop_at, take_at, IsBytes, ◌>>=◌, front_at, uint16_at, Error, UnexpectedEof, inl, inr, cases_lt, lt-ltb, IsBytes-drop, front_again, items_at, items_on, with_front, counted_at, Left, AreLeft, items_of, ok_is}
use Rattle.std.proofs.Math.Nat.{mul-suc}

-- so many items, in these bytes
abbrev pub left : List ℕ → ℕ → Left
left bytes n = record { bytes = bytes; count = n }

-- what stands after a front is bytes too
pub bytes_behind : (bytes front rest : List ℕ) → bytes ≡ front ++ rest → IsBytes bytes → IsBytes rest
bytes_behind bytes front rest e h =
    let r : drop (length front) bytes ≡ rest = ap (drop (length front)) e ∙ drop_at front rest (length front) refl in
    subst IsBytes r (IsBytes-drop (length front) bytes h)

-- an item that is read is spelled so, and what is spelled so is read, whatever follows
pub record IsItem {V : Type 0} (Has : V → Type 0) (spell : V → List ℕ) (read : List ℕ → Result (V × List ℕ) Error) : Type 0 where
  pub found : (bytes : List ℕ) (x : V) (rest : List ℕ) → IsBytes bytes → read bytes ≡ Ok (x, rest) → Has x × (bytes ≡ spell x ++ rest)
  pub again : (x : V) (rest : List ℕ) → Has x → read (spell x ++ rest) ≡ Ok (x, rest)

pub record FoundItems {V : Type 0} (Has : V → Type 0) (spell : V → List ℕ) (n : ℕ) (bytes : List ℕ) (xs : List V) (rest : List ℕ) : Type 0 where
  pub has : AllByRecursion Has xs
  pub whole : bytes ≡ flat_map spell xs ++ rest
  pub count : length xs ≡ n

pub with_front_ok : {V : Type 0} (x : V) (r : Result (List V × List ℕ) Error) (xs : List V) (rest : List ℕ) → with_front x r ≡ Ok (xs, rest)
    → (ys : List V) × (r ≡ Ok (ys, rest)) × (xs ≡ x ∷ ys)
with_front_ok x (Ok y) xs rest e =
    let both = ok_is (x ∷ y.0, y.1) (xs, rest) e in
    (y.0, ap (λ (p : List _ × List ℕ). Ok (y.0, p.1)) both, sym (ap (λ (p : List _ × List ℕ). p.0) both))
with_front_ok x (Err f) xs rest e = absurd cc

module _ {V : Type 0} (Has : V → Type 0) (spell : V → List ℕ) (read : List ℕ → Result (V × List ℕ) Error) (item : IsItem Has spell read) where
  pub items_found : (n : ℕ) (bytes : List ℕ) (xs : List V) (rest : List ℕ) → IsBytes bytes → items_at read n bytes ≡ Ok (xs, rest) → FoundItems Has spell n bytes xs rest
  items_found zero bytes xs rest h e =
      let none : List V = [] in
      subst (λ (p : List V × List ℕ). FoundItems Has spell 0 bytes p.0 p.1) (ok_is (none, bytes) (xs, rest) e) (record { has = tt; whole = refl; count = refl })
  items_found (suc n) bytes xs rest h e = by_result (λ b ys k f. items_found n b ys rest k f) (read bytes) refl
    where
      by_result : ((b : List ℕ) (ys : List V) → IsBytes b → items_at read n b ≡ Ok (ys, rest) → FoundItems Has spell n b ys rest)
          → (r : Result (V × List ℕ) Error) → read bytes ≡ r → FoundItems Has spell (suc n) bytes xs rest
      by_result on (Ok x) is =
          let w = with_front_ok x.0 (items_at read n x.1) xs rest (ap (items_on (items_at read n)) (sym is) ∙ e) in
          let one = item.found bytes x.0 x.1 h is in
          let more = on x.1 w.0 (bytes_behind bytes (spell x.0) x.1 one.1 h) w.1 in
          let all : bytes ≡ flat_map spell (x.0 ∷ w.0) ++ rest = one.1 ∙ ap (λ l. spell x.0 ++ l) more.whole ∙ sym (append_assoc (spell x.0) (flat_map spell w.0) rest) in
          rw w.2 (record { has = (one.0, more.has); whole = all; count = ap suc more.count })
      by_result on (Err f) is =
          let k : Err f ≡ Ok (xs, rest) = ap (items_on (items_at read n)) (sym is) ∙ e in
          absurd cc

  pub items_again : (xs : List V) (rest : List ℕ) → AllByRecursion Has xs → items_at read (length xs) (flat_map spell xs ++ rest) ≡ Ok (xs, rest)
  items_again [] rest h = refl
  items_again (x ∷ xs) rest h =
      let split : flat_map spell (x ∷ xs) ++ rest ≡ spell x ++ (flat_map spell xs ++ rest) = append_assoc (spell x) (flat_map spell xs) rest in
      let one : read (flat_map spell (x ∷ xs) ++ rest) ≡ Ok (x, flat_map spell xs ++ rest) = ap read split ∙ item.again x (flat_map spell xs ++ rest) h.0 in
      ap (items_on (items_at read (length xs))) one ∙ ap (with_front x) (items_again xs rest h.1)

  -- such items alone
  pub items_alone : (xs : List V) → AllByRecursion Has xs → items_at read (length xs) (flat_map spell xs) ≡ Ok (xs, [])
  items_alone xs h = ap (items_at read (length xs)) (sym (append-nil (flat_map spell xs))) ∙ items_again xs [] h

  -- the bytes of the items that were read are these alone
  pub items_cut : (n : ℕ) (bytes front rest : List ℕ) (xs : List V) → IsBytes bytes → items_at read n bytes ≡ Ok (xs, rest) → bytes ≡ front ++ rest → items_at read n front ≡ Ok (xs, [])
  items_cut n bytes front rest xs h e is =
      let found = items_found n bytes xs rest h e in
      let same : front ≡ flat_map spell xs = same_front front (flat_map spell xs) rest (sym is ∙ found.whole) in
      rw (same, ← found.count) (items_alone xs found.has)
    where
      same_front : (a b c : List ℕ) → a ++ c ≡ b ++ c → a ≡ b
      same_front [] [] c e = refl
      same_front [] (y ∷ b) c e = absurd (omega (arith, ap length e, length-append b c))
      same_front (x ∷ a) [] c e = absurd (omega (arith, ap length e, length-append a c))
      same_front (x ∷ a) (y ∷ b) c e = let h : x ≡ y = cc in let t : a ++ c ≡ b ++ c = cc in rw (h, same_front a b c t) refl

-- items of so many bytes each
module _ {A : Type 0} (k : ℕ) (value : List ℕ → A) where
  abbrev pub fixed : List ℕ → Result (A × List ℕ) Error
  fixed bytes = front_at k value bytes >>= λ x. Ok x

  pub record Fixed (n : ℕ) (front rest : List ℕ) : Type 0 where
    pub xs : List A
    pub read : items_at fixed n (front ++ rest) ≡ Ok (xs, rest)
    pub alone : items_at fixed n front ≡ Ok (xs, [])
    pub count : length xs ≡ n

  pub fixed_items : (n : ℕ) (front rest : List ℕ) → length front ≡ k * n → Fixed n front rest
  fixed_items zero [] rest len = record { xs = []; read = refl; alone = refl; count = refl }
  fixed_items zero (b ∷ front) rest len = absurd (omega (arith, len))
  fixed_items (suc n) front rest len =
      let a : List ℕ = take k front in
      let b : List ℕ = drop k front in
      let all : front ≡ a ++ b = sym (take-append-drop k front) in
      let long : length front ≡ k * n + k = len ∙ mul-suc k n in
      let la : length a ≡ k = omega (arith, length-take k front, long) in
      let lb : length b ≡ k * n = omega (arith, length-drop k front, long) in
      let more = fixed_items n b rest lb in
      let one : fixed (front ++ rest) ≡ Ok (value a, b ++ rest) =
      ap (λ l. fixed (l ++ rest)) all ∙ ap fixed (append_assoc a b rest) ∙ ap (λ o. o >>= λ x. Ok x) (front_again k value a (b ++ rest) la) in
      let two : fixed front ≡ Ok (value a, b) = ap fixed all ∙ ap (λ o. o >>= λ x. Ok x) (front_again k value a b la) in
      record { xs = value a ∷ more.xs; read = ap (items_on (items_at fixed n)) one ∙ ap (with_front (value a)) more.read; alone = ap (items_on (items_at fixed n)) two ∙ ap (with_front (value a)) more.alone; count = ap suc more.count }

  -- too few bytes for them
  pub fixed_short : (n : ℕ) (bytes : List ℕ) → length bytes < k * n → items_at fixed n bytes ≡ Err UnexpectedEof
  fixed_short zero bytes short = absurd (omega (arith, short))
  fixed_short (suc n) bytes short =
      elim (cases_lt (length bytes) k) [
        | inl none ↦ let e : fixed bytes ≡ Err UnexpectedEof = rw (lt-ltb (length bytes) k none) refl in ap (items_on (items_at fixed n)) e
        | inr some ↦
            let la : length (take k bytes) ≡ k = omega (arith, length-take k bytes, some) in
            let one : fixed bytes ≡ Ok (value (take k bytes), drop k bytes) = ap fixed (sym (take-append-drop k bytes)) ∙ ap (λ o. o >>= λ x. Ok x) (front_again k value (take k bytes) (drop k bytes) la) in
            let less : length (drop k bytes) < k * n = omega (arith, short, mul-suc k n, length-drop k bytes) in
            ap (items_on (items_at fixed n)) one ∙ ap (with_front (value (take k bytes))) (fixed_short n (drop k bytes) less)
      ]

-- what stands before what is left
pub front_of : (front rest : List ℕ) → take (length (front ++ rest) - length rest) (front ++ rest) ≡ front
front_of front rest = take_at front rest (length (front ++ rest) - length rest) (omega (arith, length-append front rest))

module _ {V : Type 0} (Has : V → Type 0) (spell : V → List ℕ) (read : List ℕ → Result (V × List ℕ) Error) (item : IsItem Has spell read) where
  -- the bytes of what was read, alone
  pub cut_alone : (n : ℕ) (bytes rest : List ℕ) (xs : List V) → IsBytes bytes → items_at read n bytes ≡ Ok (xs, rest) → items_at read n (take (length bytes - length rest) bytes) ≡ Ok (xs, [])
  cut_alone n bytes rest xs h e =
      let found = items_found Has spell read item n bytes xs rest h e in
      let front : List ℕ = flat_map spell xs in
      let is : take (length bytes - length rest) bytes ≡ front = ap (λ l. take (length l - length rest) l) found.whole ∙ front_of front rest in
      rw is (items_cut Has spell read item n bytes front rest xs h e found.whole)

  -- a count, and so many items
  pub counted_found : (bytes : List ℕ) (n : ℕ) (rest : List ℕ) (xs : List V) (behind : List ℕ) → uint16_at bytes ≡ Some (n, rest) → items_at read n rest ≡ Ok (xs, behind) → counted_at read bytes ≡ Ok (xs, behind)
  unfolding counted_at
  counted_found bytes n rest xs behind e is = ap (λ o. o >>= λ x. items_at read x.0 x.1) e ∙ is

-- lists of items of so many bytes each
module _ {A : Type 0} (k : ℕ) (value : List ℕ → A) where
  pub counted_short : (bytes : List ℕ) (n : ℕ) (rest : List ℕ) → uint16_at bytes ≡ Some (n, rest) → length rest < k * n → counted_at (fixed k value) bytes ≡ Err UnexpectedEof
  unfolding counted_at
  counted_short bytes n rest e short = ap (λ o. o >>= λ x. items_at (fixed k value) x.0 x.1) e ∙ fixed_short k value n rest short

  pub fixed_left : (n : ℕ) (front : List ℕ) (r : Left) → r ≡ left front n → length front ≡ k * n → AreLeft (fixed k value) r
  fixed_left n front r is len =
      let f = fixed_items k value n front [] len in
      rw (is, f.alone) refl

  pub counted_fixed : (bytes : List ℕ) (n : ℕ) (rest front behind : List ℕ) (r : Left) → uint16_at bytes ≡ Some (n, rest) → rest ≡ front ++ behind → r ≡ left front n → length front ≡ k * n
      → counted_at (fixed k value) bytes ≡ Ok (items_of (fixed k value) r, behind)
  unfolding counted_at
  counted_fixed bytes n rest front behind r e split is len =
      let f = fixed_items k value n front behind len in
      let all : items_at (fixed k value) n rest ≡ Ok (f.xs, behind) = ap (items_at (fixed k value) n) split ∙ f.read in
      let same : items_of (fixed k value) r ≡ f.xs = rw (is, f.alone) refl in
      ap (λ o. o >>= λ x. items_at (fixed k value) x.0 x.1) e ∙ all ∙ ap (λ (l : List A). Ok (l, behind)) (sym same)
