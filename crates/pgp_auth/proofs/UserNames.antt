-- A user's name in a client's first text, and where it ends.
use Rattle.pgp_auth.proofs.Common.{◌≡◌, ◌≢◌, ◌==◌, ℕ, Bool, true, false, not, List, [], ◌∷◌, ◌++◌, length, codes, refl, sym, ap, ◌∙◌, subst, arith, inl, inr, ◌↔◌, ◌⊎◌, ◌||◌, IsTrue, Option, Some, None, MatchOption, AllPass, prefix_len, is_utf8, eqb-true, is_utf8-from_IsUtf8, IsUtf8-from_is_utf8, append_cancel_left, take-append-drop, All-nil, All-cons, All-head, is_value_char, is_attribute_char, SaslName, no_more, equals, IsUserName, IsNonce, named_bare, first_bare, front_of, rest_of}
use Rattle.std.specs.Prelude.{◌&&◌}
use Rattle.pgp_auth.specs.ScramText.{itself, comma}
use Rattle.pgp_auth.specs.NameReading.{is_escape, may_stand, spells}
use Rattle.pgp_auth.proofs.Runs.{run_stops}
use Rattle.pgp_auth.proofs.Reading.{heads}
use Rattle.std.proofs.Common.{true≢false}

abbrev Plain : ℕ → Type 0
Plain c = is_attribute_char c ≡ true

not_second : (a b c : Bool) → not (a || b || c) ≡ true → not b ≡ true
not_second true b c h = cc
not_second false true c h = cc
not_second false false c h = refl

value_plain : (c : ℕ) → is_value_char c ≡ true → Plain c
value_plain c pass = not_second (c == 0) (c == 44) (c == 61) pass

-- a name has no comma
pub plain_name : (name : List ℕ) → SaslName name → AllPass is_attribute_char name
plain_name _ no_more = All-nil Plain
plain_name _ (itself {c = c} {name = n} pass h) = All-cons Plain c n (value_plain c pass) (plain_name n h)
plain_name _ (comma {name = n} h) = All-cons Plain 61 (50 ∷ 67 ∷ n) refl (All-cons Plain 50 (67 ∷ n) refl (All-cons Plain 67 n refl (plain_name n h)))
plain_name _ (equals {name = n} h) = All-cons Plain 61 (51 ∷ 68 ∷ n) refl (All-cons Plain 51 (68 ∷ n) refl (All-cons Plain 68 n refl (plain_name n h)))

-- ---- the first character of a name

tails : (a b : ℕ) (l k : List ℕ) → a ∷ l ≡ b ∷ k → l ≡ k
tails a b l k e = cc

not_equals : (c : ℕ) → c ≡ 61 → is_value_char c ≡ true → ⊥
not_equals c is pass =
    let bad : false ≡ true = subst (λ x. is_value_char x ≡ true) is pass in
    cc

record Behind (word r : List ℕ) : Type 0 where
  x : List ℕ
  is : r ≡ word ++ x
  name : SaslName x

-- a name of a character and more: the character stands for itself, or an escape begins
data Front (c : ℕ) (r : List ℕ) : Type 0 where
  plain : is_value_char c ≡ true → SaslName r → Front c r
  two : c ≡ 61 → Behind (codes "2C") r → Front c r
  three : c ≡ 61 → Behind (codes "3D") r → Front c r

front : (s : List ℕ) (c : ℕ) (r : List ℕ) → SaslName s → s ≡ c ∷ r → Front c r
front _ c r no_more e = cc
front _ c r (itself {c = d} {name = n} pass h) e =
    let one : d ≡ c = heads d c n r e in
    let rest : n ≡ r = tails d c n r e in
    plain (subst (λ x. is_value_char x ≡ true) one pass) (subst SaslName rest h)
front _ c r (comma {name = n} h) e = two (sym (heads 61 c (50 ∷ 67 ∷ n) r e)) (record { x = n; is = sym (tails 61 c (50 ∷ 67 ∷ n) r e); name = h })
front _ c r (equals {name = n} h) e = three (sym (heads 61 c (51 ∷ 68 ∷ n) r e)) (record { x = n; is = sym (tails 61 c (51 ∷ 68 ∷ n) r e); name = h })

plain_back : (c : ℕ) (r : List ℕ) → is_value_char c ≡ true → Front c r → SaslName r
plain_back c r pass (plain p h) = h
plain_back c r pass (two is b) = absurd (not_equals c is pass)
plain_back c r pass (three is b) = absurd (not_equals c is pass)

-- a character that stands for itself
pub plain_step : (c : ℕ) (r : List ℕ) → is_value_char c ≡ true → (SaslName (c ∷ r) ↔ SaslName r)
plain_step c r pass = (λ h. plain_back c r pass (front (c ∷ r) c r h refl), λ h. itself pass h)

two_back : (r x : List ℕ) → r ≡ codes "2C" ++ x → Front 61 r → SaslName x
two_back r x is (plain p h) = absurd (not_equals 61 refl p)
two_back r x is (two same b) = subst SaslName (append_cancel_left (codes "2C") b.x x (sym b.is ∙ is)) b.name
two_back r x is (three same b) =
    let bad = heads 51 50 (68 ∷ b.x) (67 ∷ x) (sym b.is ∙ is) in
    absurd (omega (arith, bad))

three_back : (r x : List ℕ) → r ≡ codes "3D" ++ x → Front 61 r → SaslName x
three_back r x is (plain p h) = absurd (not_equals 61 refl p)
three_back r x is (two same b) =
    let bad = heads 50 51 (67 ∷ b.x) (68 ∷ x) (sym b.is ∙ is) in
    absurd (omega (arith, bad))
three_back r x is (three same b) = subst SaslName (append_cancel_left (codes "3D") b.x x (sym b.is ∙ is)) b.name

two_on : (r x : List ℕ) → r ≡ codes "2C" ++ x → SaslName x → SaslName (61 ∷ r)
two_on r x is h = subst (λ l. SaslName (61 ∷ l)) (sym is) (comma h)

three_on : (r x : List ℕ) → r ≡ codes "3D" ++ x → SaslName x → SaslName (61 ∷ r)
three_on r x is h = subst (λ l. SaslName (61 ∷ l)) (sym is) (equals h)

-- an escape
pub comma_step : (r x : List ℕ) → r ≡ codes "2C" ++ x → (SaslName (61 ∷ r) ↔ SaslName x)
comma_step r x is = (λ h. two_back r x is (front (61 ∷ r) 61 r h refl), λ h. two_on r x is h)

pub equals_step : (r x : List ℕ) → r ≡ codes "3D" ++ x → (SaslName (61 ∷ r) ↔ SaslName x)
equals_step r x is = (λ h. three_back r x is (front (61 ∷ r) 61 r h refl), λ h. three_on r x is h)

no_escape : (r : List ℕ) → ((x : List ℕ) → r ≢ codes "2C" ++ x) → ((x : List ℕ) → r ≢ codes "3D" ++ x) → Front 61 r → ⊥
no_escape r a b (plain p h) = not_equals 61 refl p
no_escape r a b (two same h) = a h.x h.is
no_escape r a b (three same h) = b h.x h.is

-- no comma's escape: that of an equals sign, or none
pub second_escape : {T : Type 0} (o : Option T) (now : T → List ℕ) (r : List ℕ) → ((x : List ℕ) → r ≢ codes "2C" ++ x)
    → MatchOption o ((x : List ℕ) → r ≢ codes "3D" ++ x) (λ x. r ≡ codes "3D" ++ now x)
    → MatchOption o (¬ SaslName (61 ∷ r)) (λ x. SaslName (61 ∷ r) ↔ SaslName (now x))
second_escape None now r a b = λ h. no_escape r a b (front (61 ∷ r) 61 r h refl)
second_escape (Some x) now r a b = equals_step r (now x) b

none_back : (c : ℕ) (r : List ℕ) → c ≢ 61 → is_value_char c ≡ false → Front c r → ⊥
none_back c r other no_ (plain p h) = true≢false (sym p ∙ no_)
none_back c r other no_ (two is b) = other is
none_back c r other no_ (three is b) = other is

-- neither
pub no_character : (c : ℕ) (r : List ℕ) → c ≢ 61 → is_value_char c ≡ false → ¬ SaslName (c ∷ r)
no_character c r other no_ h = none_back c r other no_ (front (c ∷ r) c r h refl)

pub not_so : (P : Type 0) (b : Bool) → b ≡ false → (IsTrue b ↔ P) → ¬ P
not_so P b no_ h p = let yes_ : b ≡ true = h.1 p in cc

-- ---- a name, character by character

pub name_goes_on : (name rest r x : List ℕ) (c : ℕ) → (SaslName name ↔ SaslName rest) → rest ≡ c ∷ r → (SaslName (c ∷ r) ↔ SaslName x) → (SaslName name ↔ SaslName x)
name_goes_on name rest r x c h is step = (λ n. step.0 (subst SaslName is (h.0 n)), λ y. h.1 (subst SaslName (sym is) (step.1 y)))

pub name_stops : (name rest r : List ℕ) (c : ℕ) → (SaslName name ↔ SaslName rest) → rest ≡ c ∷ r → ¬ SaslName (c ∷ r) → (IsTrue false ↔ SaslName name)
name_stops name rest r c h is none = (λ bad. cc, λ n. absurd (none (subst SaslName is (h.0 n))))

pub name_ends : (name rest : List ℕ) → (SaslName name ↔ SaslName rest) → length rest ≡ 0 → (IsTrue true ↔ SaslName name)
name_ends name [] h e = (λ _. h.1 no_more, λ _. refl)
name_ends name (c ∷ r) h e = absurd (omega arith)

pub not_text : (bytes : List ℕ) → is_utf8 bytes ≡ false → (IsTrue false ↔ IsUserName bytes)
not_text bytes none = (λ bad. cc, λ n. absurd (true≢false (sym (is_utf8-from_IsUtf8 bytes n.utf8) ∙ none)))

pub text_spelled : (bytes : List ℕ) (b : Bool) → is_utf8 bytes ≡ true → (IsTrue b ↔ SaslName bytes) → (IsTrue b ↔ IsUserName bytes)
text_spelled bytes b u h = (λ y. record { utf8 = IsUtf8-from_is_utf8 bytes u; spelled = h.0 y }, λ n. h.1 n.spelled)

-- ---- a name that was tested

both : (a b : Bool) → (a && b) ≡ true → (a ≡ true) × (b ≡ true)
both true b e = (refl, e)
both false b e = cc

either : (a b : Bool) → (a || b) ≡ true → (a ≡ true) ⊎ (b ≡ true)
either true b e = inl refl
either false b e = inr e

or_left : (a b : Bool) → a ≡ true → (a || b) ≡ true
or_left true b e = refl
or_left false b e = cc

and_true : (a b : Bool) → a ≡ true → b ≡ true → (a && b) ≡ true
and_true true b e f = f
and_true false b e f = cc

spelled_stands : (name : List ℕ) → SaslName name → spells name ≡ true
unfolding spells may_stand is_escape
spelled_stands _ no_more = refl
spelled_stands _ (itself {c = c} {name = n} pass h) =
    and_true (is_value_char c || (c == 61 && is_escape n)) (spells n) (or_left (is_value_char c) (c == 61 && is_escape n) pass) (spelled_stands n h)
spelled_stands _ (comma {name = n} h) = spelled_stands n h
spelled_stands _ (equals {name = n} h) = spelled_stands n h

record Escape (rest : List ℕ) : Type 0 where
  x : List ℕ
  is : (rest ≡ codes "2C" ++ x) ⊎ (rest ≡ codes "3D" ++ x)

by_pair : (a b : ℕ) (r : List ℕ) → ((a == 50 && b == 67) ≡ true) ⊎ ((a == 51 && b == 68) ≡ true) → Escape (a ∷ b ∷ r)
by_pair a b r (inl e) =
    let e2 = both (a == 50) (b == 67) e in
    record { x = r; is = inl (rw (eqb-true a 50 e2.0, eqb-true b 67 e2.1) refl) }
by_pair a b r (inr e) =
    let e2 = both (a == 51) (b == 68) e in
    record { x = r; is = inr (rw (eqb-true a 51 e2.0, eqb-true b 68 e2.1) refl) }

escape_in : (rest : List ℕ) → is_escape rest ≡ true → Escape rest
unfolding is_escape
escape_in [] e = cc
escape_in (a ∷ []) e = cc
escape_in (a ∷ b ∷ r) e = by_pair a b r (either (a == 50 && b == 67) (a == 51 && b == 68) e)

-- two characters that stand for themselves, taken off
behind_two : (a b : ℕ) (x : List ℕ) → is_value_char a ≡ true → is_value_char b ≡ true → SaslName (a ∷ b ∷ x) → SaslName x
behind_two a b x p q h = (plain_step b x q).0 ((plain_step a (b ∷ x) p).0 h)

by_escape : (rest x : List ℕ) → (rest ≡ codes "2C" ++ x) ⊎ (rest ≡ codes "3D" ++ x) → SaslName rest → SaslName (61 ∷ rest)
by_escape rest x (inl is) h = two_on rest x is (behind_two 50 67 x refl refl (subst SaslName is h))
by_escape rest x (inr is) h = three_on rest x is (behind_two 51 68 x refl refl (subst SaslName is h))

by_first : (c : ℕ) (rest : List ℕ) → (is_value_char c ≡ true) ⊎ ((c == 61 && is_escape rest) ≡ true) → SaslName rest → SaslName (c ∷ rest)
by_first c rest (inl pass) h = itself pass h
by_first c rest (inr e) h =
    let parts = both (c == 61) (is_escape rest) e in
    let esc = escape_in rest parts.1 in
    subst (λ k. SaslName (k ∷ rest)) (sym (eqb-true c 61 parts.0)) (by_escape rest esc.x esc.is h)

stands_spelled : (name : List ℕ) → spells name ≡ true → SaslName name
unfolding spells may_stand
stands_spelled [] e = no_more
stands_spelled (c ∷ rest) e =
    let parts = both (is_value_char c || (c == 61 && is_escape rest)) (spells rest) e in
    by_first c rest (either (is_value_char c) (c == 61 && is_escape rest) parts.0) (stands_spelled rest parts.1)

pub name_stands : (name : List ℕ) → IsUserName name → (is_utf8 name ≡ true) × (spells name ≡ true)
name_stands name n = (is_utf8-from_IsUtf8 name n.utf8, spelled_stands name n.spelled)

pub stands_name : (name : List ℕ) → is_utf8 name ≡ true → spells name ≡ true → IsUserName name
stands_name name u s = record { utf8 = IsUtf8-from_is_utf8 name u; spelled = stands_spelled name s }

-- ---- where a name ends

pub name_cut : (bare text u r user nonce : List ℕ) → bare ≡ codes "n=" ++ text → u ≡ front_of is_attribute_char text → r ≡ rest_of is_attribute_char text
    → IsUserName user → bare ≡ named_bare user nonce → (u ≡ user) × (r ≡ codes ",r=" ++ nonce)
name_cut bare text u r user nonce is u_is r_is name same =
    let text_is : text ≡ user ++ (codes ",r=" ++ nonce) = append_cancel_left (codes "n=") text (user ++ (codes ",r=" ++ nonce)) (sym is ∙ same) in
    let stops = run_stops is_attribute_char user 44 (codes "r=" ++ nonce) (plain_name user name.spelled) refl in
    (u_is ∙ rw text_is stops.0, r_is ∙ rw text_is stops.1)

-- what no name and no nonce stand in
abbrev pub Unnamed : List ℕ → Type 0
Unnamed bare = (user nonce : List ℕ) → IsUserName user → IsNonce nonce → bare ≢ named_bare user nonce

pub no_attribute : (bare : List ℕ) → ((x : List ℕ) → bare ≢ codes "n=" ++ x) → Unnamed bare
no_attribute bare none user nonce a b is = none (user ++ (codes ",r=" ++ nonce)) is

pub no_second : (bare text u r : List ℕ) → bare ≡ codes "n=" ++ text → u ≡ front_of is_attribute_char text → r ≡ rest_of is_attribute_char text
    → ((x : List ℕ) → r ≢ codes ",r=" ++ x) → Unnamed bare
no_second bare text u r is u_is r_is none user nonce a b same = none nonce (name_cut bare text u r user nonce is u_is r_is a same).1

pub no_user : (bare text u r : List ℕ) → bare ≡ codes "n=" ++ text → u ≡ front_of is_attribute_char text → r ≡ rest_of is_attribute_char text
    → ¬ IsUserName u → Unnamed bare
no_user bare text u r is u_is r_is none user nonce a b same =
    none (subst IsUserName (sym (name_cut bare text u r user nonce is u_is r_is a same).0) a)

pub no_nonce : (bare text u r n : List ℕ) → bare ≡ codes "n=" ++ text → u ≡ front_of is_attribute_char text → r ≡ rest_of is_attribute_char text
    → r ≡ codes ",r=" ++ n → ¬ IsNonce n → Unnamed bare
no_nonce bare text u r n is u_is r_is n_is none user nonce a b same =
    let end : nonce ≡ n = append_cancel_left (codes ",r=") nonce n (sym (name_cut bare text u r user nonce is u_is r_is a same).1 ∙ n_is) in
    none (subst IsNonce end b)

pub named : (bare text u r n : List ℕ) → bare ≡ codes "n=" ++ text → u ≡ front_of is_attribute_char text → r ≡ rest_of is_attribute_char text
    → r ≡ codes ",r=" ++ n → bare ≡ named_bare u n
named bare text u r n is u_is r_is n_is =
    let whole : u ++ r ≡ text = rw (u_is, r_is) (take-append-drop (prefix_len is_attribute_char text) text) in
    is ∙ ap (λ l. codes "n=" ++ l) (sym whole ∙ ap (λ l. u ++ l) n_is)

-- ---- the empty name

third : (c d : ℕ) (l k : List ℕ) → 110 ∷ 61 ∷ c ∷ l ≡ 110 ∷ 61 ∷ d ∷ k → c ≡ d
third c d l k e = cc

pub empty_name : (user nonce n : List ℕ) → SaslName user → named_bare user nonce ≡ first_bare n → (user ≡ []) × (nonce ≡ n)
empty_name [] nonce n name e = (refl, append_cancel_left (codes "n=,r=") nonce n e)
empty_name (c ∷ user) nonce n name e =
    let is : c ≡ 44 = third c 44 (user ++ (codes ",r=" ++ nonce)) (codes "r=" ++ n) e in
    let pass : is_attribute_char c ≡ true = All-head Plain c user (plain_name (c ∷ user) name) in
    let bad : false ≡ true = subst (λ x. is_attribute_char x ≡ true) is pass in
    cc
