-- Where a line and its parts are cut.
use Rattle.pgwire_engines.proofs.Common.{◌≡◌, ◌≢◌, ℕ, zero, suc, ◌+◌, ◌-◌, ◌<◌, Bool, true, false, List, [], ◌∷◌, ◌++◌, length, take, drop, get_or, take-append-drop, Contains, refl, sym, ap, subst, ◌∙◌, arith, inl, inr, ◌==◌, codes, V3_0, V3_2, ClientMessage, Query, PasswordMessage, Startup, SslRequest, Sync, Terminate, list_any, slice_split, get_or_default, drop_more, get_or-take, length-take-le, take_rest, All-from_get_or, HasWord, IsPair, ArePairs, Says, is_newline, AddsPart}
use Rattle.std.proofs.lemmas.Bool.{eq-eqb, or_left, or_right}
use Rattle.std.proofs.lemmas.List.Splits.{slice_split_at, slice_split_none}

-- ---- lists without an element

pub free : (c : ℕ) (xs : List ℕ) → ((i : ℕ) → i < length xs → get_or xs i 0 ≢ c) → Contains xs c → ⊥
free c xs none (k, lt, e) = none k lt (get_or_default xs k 0 c lt ∙ e)

tail_free : (c x : ℕ) (xs : List ℕ) → (Contains (x ∷ xs) c → ⊥) → Contains xs c → ⊥
tail_free c x xs none (k, lt, e) = none (suc k, omega (arith, lt), e)

head_free : (c x : ℕ) (xs : List ℕ) → (Contains (x ∷ xs) c → ⊥) → x ≢ c
head_free c x xs none e = none (0, omega arith, e)

holds : (c : ℕ) (xs ys : List ℕ) → Contains (xs ++ c ∷ ys) c
holds c [] ys = (0, omega arith, refl)
holds c (x ∷ xs) ys = let (k, lt, e) = holds c xs ys in (suc k, omega (arith, lt), e)

found : (c : ℕ) (xs : List ℕ) (k : ℕ) → k < length xs → get_or xs k c ≡ c → list_any (λ b. b == c) xs ≡ true
found c [] k h e = absurd (omega arith)
found c (x ∷ xs) zero h e = or_left (x == c) (list_any (λ b. b == c) xs) (eq-eqb x c e)
found c (x ∷ xs) (suc k) h e = or_right (x == c) (list_any (λ b. b == c) xs) (found c xs k (omega arith) e)

pub free_by : (c : ℕ) (xs : List ℕ) → list_any (λ b. b == c) xs ≡ false → Contains xs c → ⊥
free_by c xs none (k, lt, e) = let b : true ≡ false = sym (found c xs k lt e) ∙ none in cc

-- ---- a list is cut at its first c in one way

pub one_cut : (c : ℕ) (xs ys us vs : List ℕ) → (Contains xs c → ⊥) → (Contains us c → ⊥) → xs ++ c ∷ ys ≡ us ++ c ∷ vs → (xs ≡ us) × (ys ≡ vs)
one_cut c [] ys [] vs a b e = (refl, cc)
one_cut c [] ys (u ∷ us) vs a b e = let h : u ≡ c = cc in absurd (head_free c u us b h)
one_cut c (x ∷ xs) ys [] vs a b e = let h : x ≡ c = cc in absurd (head_free c x xs a h)
one_cut c (x ∷ xs) ys (u ∷ us) vs a b e =
    let here : x ≡ u = cc in
    let more : xs ++ c ∷ ys ≡ us ++ c ∷ vs = cc in
    let rest = one_cut c xs ys us vs (tail_free c x xs a) (tail_free c u us b) more in
    (ap (λ h. h ∷ xs) here ∙ ap (λ l. u ∷ l) rest.0, rest.1)

not_cut : (c : ℕ) (all xs ys : List ℕ) → (Contains all c → ⊥) → all ≡ xs ++ c ∷ ys → ⊥
not_cut c all xs ys none e = none (subst (λ l. Contains l c) (sym e) (holds c xs ys))

-- a line has one first word
pub one_word : (w v line r s : List ℕ) → HasWord w line r → HasWord v line s → (Contains w 32 → ⊥) → (Contains v 32 → ⊥) → (w ≡ v) × (r ≡ s)
one_word w v line r s (inl a) (inl b) nw nv = (sym a.0 ∙ b.0, a.1 ∙ sym b.1)
one_word w v line r s (inl a) (inr b) nw nv = absurd (not_cut 32 w v s nw (sym a.0 ∙ b))
one_word w v line r s (inr a) (inl b) nw nv = absurd (not_cut 32 v w r nv (sym b.0 ∙ a))
one_word w v line r s (inr a) (inr b) nw nv = one_cut 32 w r v s nw nv (sym a ∙ b)

-- ---- names and values

pub never_without : (part : List ℕ) → (Contains part 61 → ⊥) → (p : List ℕ × List ℕ) → IsPair part p → ⊥
never_without part none p one = not_cut 61 part p.0 p.1 none one.spelled

-- ---- one part more

-- an empty part, or a name and a value
pub pairs_more : (parts : List (List ℕ)) (part : List ℕ) (old new : List (List ℕ × List ℕ)) → ArePairs parts old → AddsPart part old new true → ArePairs (parts ++ part ∷ []) new
pairs_more [] [] old new a (inl h) = h.1 ∙ a
pairs_more [] [] old new a (inr h) = absurd (h.0 refl)
pairs_more [] (b ∷ part) old new a (inl h) = cc
pairs_more [] (b ∷ part) old new a (inr h) = (h.1.0, [], h.1.2 ∙ ap (λ l. l ++ h.1.0 ∷ []) a, h.1.1, refl)
pairs_more ([] ∷ parts) part old new a h = pairs_more parts part old new a h
pairs_more ((b ∷ x) ∷ parts) part old new (p, more, is, one, rest) (inl h) =
    (p, more, h.1 ∙ is, one, pairs_more parts part more more rest (inl (h.0, refl)))
pairs_more ((b ∷ x) ∷ parts) part old new (p, more, is, one, rest) (inr h) =
    (p, more ++ h.1.0 ∷ [], h.1.2 ∙ ap (λ l. l ++ h.1.0 ∷ []) is, one, pairs_more parts part more (more ++ h.1.0 ∷ []) rest (inr (h.0, (h.1.0, h.1.1, refl))))

-- a part that is none spoils all
pub never_pairs : (parts : List (List ℕ)) (part : List ℕ) (after : List (List ℕ)) (ps : List (List ℕ × List ℕ)) → AddsPart part [] [] false → ArePairs (parts ++ part ∷ after) ps → ⊥
never_pairs [] [] after ps none a = none.0 refl
never_pairs [] (b ∷ part) after ps none (p, more, is, one, rest) = none.1 p one
never_pairs ([] ∷ parts) part after ps none a = never_pairs parts part after ps none a
never_pairs ((b ∷ x) ∷ parts) part after ps none (p, more, is, one, rest) = never_pairs parts part after more none rest

-- ---- what a line says

no_space_in_query : Contains (codes "query") 32 → ⊥
no_space_in_query = free_by 32 (codes "query") refl

no_space_in_password : Contains (codes "password") 32 → ⊥
no_space_in_password = free_by 32 (codes "password") refl

no_space_in_startup : Contains (codes "startup") 32 → ⊥
no_space_in_startup = free_by 32 (codes "startup") refl

no_space_in_startup32 : Contains (codes "startup32") 32 → ⊥
no_space_in_startup32 = free_by 32 (codes "startup32") refl

-- a line that is none of the words alone, and begins with none of the others, says nothing
pub never_said : (line word rest : List ℕ) → HasWord word line rest → (Contains word 32 → ⊥) → line ≢ codes "ssl" → line ≢ codes "sync" → line ≢ codes "terminate" → word ≢ codes "query" → word ≢ codes "password" → word ≢ codes "startup" → word ≢ codes "startup32" → (m : ClientMessage) → Says line m → ⊥
never_said line word rest has first a b d q p s t SslRequest says = a says
never_said line word rest has first a b d q p s t Sync says = b says
never_said line word rest has first a b d q p s t Terminate says = d says
never_said line word rest has first a b d q p s t (Query z) says = q (one_word word (codes "query") line rest z has says first no_space_in_query).0
never_said line word rest has first a b d q p s t (PasswordMessage z) says = p (one_word word (codes "password") line rest z has says first no_space_in_password).0
never_said line word rest has first a b d q p s t (Startup n ps) (V3_0, is, other, had, pairs) = s (one_word word (codes "startup") line rest other has had first no_space_in_startup).0
never_said line word rest has first a b d q p s t (Startup n ps) (V3_2, is, other, had, pairs) = t (one_word word (codes "startup32") line rest other has had first no_space_in_startup32).0
never_said line word rest has first a b d q p s t _ says = says

-- ---- the first line

ne_true : (b : Bool) → (b ≡ true → ⊥) → b ≡ false
ne_true true h = absurd (h refl)
ne_true false h = refl

pub line_at : (xs : List ℕ) (i : ℕ) → i < length xs → is_newline (get_or xs i 0) ≡ true → ((k : ℕ) → k < i → is_newline (get_or xs k 0) ≡ true → ⊥) → slice_split is_newline xs ≡ take i xs ∷ slice_split is_newline (take (length xs - (i + 1)) (drop (i + 1) xs))
line_at xs i inside here before =
    let len = length-take-le i xs (omega (arith, inside)) in
    let whole : xs ≡ take i xs ++ get_or xs i 0 ∷ drop (i + 1) xs = sym (take-append-drop i xs) ∙ ap (λ l. take i xs ++ l) (drop_more xs i 0 inside) in
    let none = All-from_get_or (λ x. is_newline x ≡ false) (take i xs) 0 (λ k lt. let below : k < i = omega (arith, len, lt) in ne_true _ (λ e. before k below (ap is_newline (sym (get_or-take i xs k 0 below)) ∙ e))) in
    ap (slice_split is_newline) whole ∙ slice_split_at is_newline (take i xs) (get_or xs i 0) (drop (i + 1) xs) none here ∙ ap (λ l. take i xs ∷ slice_split is_newline l) (sym (take_rest xs (i + 1)))

pub last_line_of : (xs : List ℕ) → ((k : ℕ) → k < length xs → is_newline (get_or xs k 0) ≡ true → ⊥) → slice_split is_newline xs ≡ xs ∷ []
last_line_of xs before = slice_split_none is_newline xs (All-from_get_or (λ x. is_newline x ≡ false) xs 0 (λ k lt. ne_true _ (before k lt)))
