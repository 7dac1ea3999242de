-- Options, one after another.
use Rattle.pgtrace_lines.proofs.Common.{◌≡◌, ◌≢◌, ℕ, suc, ◌+◌, ◌-◌, ◌<◌, ◌≤◌, Bool, List, [], ◌∷◌, ◌++◌, length, length-append, get_or, drop, map, refl, sym, ap, subst, ◌∙◌, append_assoc, arith, codes, if◌then◌else◌, flat_map, AllByRecursion, append-nil, drop-drop, length-drop, length-map, drop-append_seam, flat_map-cons, AreOptions, AreNoOptions, BeginsWithNoneOf, Chosen, IsOneOf, argument_of, chooses, chosen_by, has_word, nothing_chosen, word_of}
use Rattle.std.proofs.lemmas.Grind.{flat_map-append}
use Rattle.pgtrace_lines.specs.Options.{IsSound, is_file, spelled}
use Rattle.pgtrace_lines.specs.declared.options.Choice.{Choice}
use Rattle.pgtrace_lines.specs.declared.options.Choice.TheVariants.{File, Only, Except}

-- Some options came, and these words stand after them.
pub record Received (terminal : Bool) (has all rest : List (List ℕ)) (chosen : Chosen) : Type 0 where
  pub choices : List Choice
  pub whole : all ≡ flat_map spelled choices ++ rest
  pub each : AllByRecursion (IsOneOf has) choices
  pub comes_to : chosen ≡ chosen_by terminal (nothing_chosen terminal) choices

pub received_none : (terminal : Bool) (has all : List (List ℕ)) (chosen : Chosen) → chosen ≡ nothing_chosen terminal → Received terminal has all all chosen
received_none terminal has all chosen e = record { choices = []; whole = refl; each = tt; comes_to = e }

-- one more, after the others
flat_more : (xs : List Choice) (x : Choice) → flat_map spelled (xs ++ x ∷ []) ≡ flat_map spelled xs ++ spelled x
flat_more xs x = flat_map-append spelled xs (x ∷ []) ∙ ap (λ l. flat_map spelled xs ++ l) (flat_map-cons spelled x [] ∙ append-nil (spelled x))

each_more : (has : List (List ℕ)) (xs : List Choice) (x : Choice) → AllByRecursion (IsOneOf has) xs → IsOneOf has x → AllByRecursion (IsOneOf has) (xs ++ x ∷ [])
each_more has [] x each is = (is, tt)
each_more has (first ∷ more) x each is = (each.0, each_more has more x each.1 is)

chosen_more : (terminal : Bool) (o : Chosen) (xs : List Choice) (x : Choice) → chosen_by terminal o (xs ++ x ∷ []) ≡ chooses terminal (chosen_by terminal o xs) x
chosen_more terminal o [] x = refl
chosen_more terminal o (first ∷ more) x = chosen_more terminal (chooses terminal o first) more x

received_more : (terminal : Bool) (has all rest behind : List (List ℕ)) (old new : Chosen) (c : Choice) → Received terminal has all rest old → rest ≡ spelled c ++ behind → IsOneOf has c → new ≡ chooses terminal old c → Received terminal has all behind new
received_more terminal has all rest behind old new c r is one e = record {
  choices = r.choices ++ c ∷ [];
  whole = r.whole ∙ ap (λ l. flat_map spelled r.choices ++ l) is ∙ sym (append_assoc (flat_map spelled r.choices) (spelled c) behind) ∙ ap (λ l. l ++ behind) (sym (flat_more r.choices c));
  each = each_more has r.choices c r.each one;
  comes_to = e ∙ ap (λ o. chooses terminal o c) r.comes_to ∙ sym (chosen_more terminal (nothing_chosen terminal) r.choices c);
}

no_length : {X : Type 0} (xs : List X) → length xs ≡ 0 → xs ≡ []
no_length [] e = refl
no_length (x ∷ xs) e = absurd (omega (arith, e))

-- all came
pub received_all : {X : Type 0} (terminal : Bool) (word : X → List ℕ) (has all : List (List ℕ)) (words : List X) (at : ℕ) (chosen : Chosen) → length words ≤ at → Received terminal has all (map word (drop at words)) chosen → AreOptions terminal has all chosen
received_all terminal word has all words at chosen le r = record {
  choices = r.choices;
  spelling = r.whole ∙ ap (λ l. flat_map spelled r.choices ++ l) (no_length (map word (drop at words)) (omega (arith, le, length-drop at words, length-map (drop at words) word))) ∙ append-nil (flat_map spelled r.choices);
  each = r.each;
  comes_to = r.comes_to;
}

-- ---- words spell options in one way

first : List (List ℕ) → List ℕ
first words = get_or words 0 []

-- how many words stand after the first word of an option
abbrev behind : List ℕ → ℕ
behind word = if is_file word then 0 else if has_word (codes "--only" ∷ codes "--except" ∷ codes "--color" ∷ codes "--password-kind" ∷ codes "--time" ∷ codes "--slower" ∷ []) word then 1 else 0

arguments : (c : Choice) → IsSound c → length (argument_of c) ≡ behind (word_of c)
arguments (File name) s = rw s refl
arguments (Only names) s = refl
arguments (Except names) s = refl
arguments c s = refl

first_word : (c d : Choice) (x y : List (List ℕ)) → spelled c ++ x ≡ spelled d ++ y → word_of c ≡ word_of d
unfolding first
first_word c d x y e = ap first e

-- the same stands after the first option of each
one_first : (c d : Choice) (x y : List (List ℕ)) → IsSound c → IsSound d → spelled c ++ x ≡ spelled d ++ y → x ≡ y
one_first c d x y s t e =
    let long : length (argument_of c) ≡ length (argument_of d) = arguments c s ∙ ap behind (first_word c d x y e) ∙ sym (arguments d t) in
    sym (drop-append_seam (spelled c) x) ∙ ap (λ l. drop (length (spelled c)) l) e ∙ ap (λ n. drop (suc n) (spelled d ++ y)) long ∙ drop-append_seam (spelled d) y

split : (cs : List Choice) (c : Choice) (rest : List (List ℕ)) → flat_map spelled (c ∷ cs) ++ rest ≡ spelled c ++ (flat_map spelled cs ++ rest)
split cs c rest = ap (λ l. l ++ rest) (flat_map-cons spelled c cs) ∙ append_assoc (spelled c) (flat_map spelled cs) rest

some_words : (c : Choice) (x : List (List ℕ)) → spelled c ++ x ≡ [] → ⊥
some_words c x e = let h : suc (length (argument_of c ++ x)) ≡ 0 = ap length e in absurd (omega (arith, h))

breaks_off : (has : List (List ℕ)) (cs ds : List Choice) (rest : List (List ℕ)) → AllByRecursion (IsOneOf has) cs → AllByRecursion (IsOneOf has) ds → rest ≢ [] → BeginsWithNoneOf has rest → flat_map spelled cs ++ rest ≡ flat_map spelled ds → ⊥
breaks_off has [] [] rest own each some none e = some e
breaks_off has [] (d ∷ ds) rest own each some none e = none d (flat_map spelled ds) each.0 (e ∙ flat_map-cons spelled d ds)
breaks_off has (c ∷ cs) [] rest own each some none e = some_words c (flat_map spelled cs ++ rest) (sym (split cs c rest) ∙ e)
breaks_off has (c ∷ cs) (d ∷ ds) rest own each some none e =
    breaks_off has cs ds rest own.1 each.1 some none (one_first c d (flat_map spelled cs ++ rest) (flat_map spelled ds) own.0.1 each.0.1 (sym (split cs c rest) ∙ e ∙ flat_map-cons spelled d ds))

-- where no option stands after some, the words are no options
pub received_wrong : {X : Type 0} (terminal : Bool) (word : X → List ℕ) (has all : List (List ℕ)) (words : List X) (at : ℕ) (chosen : Chosen) → at < length words → Received terminal has all (map word (drop at words)) chosen → BeginsWithNoneOf has (map word (drop at words)) → AreNoOptions has all
received_wrong terminal word has all words at chosen less r none =
    let some : map word (drop at words) ≢ [] = λ e. absurd (omega (arith, less, length-drop at words, length-map (drop at words) word, ap length e)) in
    λ ds each e. breaks_off has r.choices ds (map word (drop at words)) r.each each some none (sym r.whole ∙ e)

-- ---- places in the words

-- one more stands at a place
pub place_more : {X : Type 0} (terminal : Bool) (word : X → List ℕ) (has : List (List ℕ)) (words : List X) (at n next : ℕ) (old new : Chosen) (c : Choice) → at < length words
    → Received terminal has (map word words) (map word (drop at words)) old → map word (drop at words) ≡ spelled c ++ map word (drop (length (spelled c)) (drop at words)) → IsOneOf has c → n ≡ length (spelled c) → next ≡ at + n → new ≡ chooses terminal old c
    → (next ≤ length words) × Received terminal has (map word words) (map word (drop next words)) new
place_more {X = X} terminal word has words at n next old new c less received is one long sum e =
    let rest = drop at words in
    let there : drop (length (spelled c)) rest ≡ drop next words = drop-drop (length (spelled c)) at words ∙ ap (λ i. drop i words) (omega (arith, long, sum)) in
    let size : length rest ≡ length words - at = length-drop at words in
    let lengths : length rest ≡ length (spelled c) + length (map word (drop (length (spelled c)) rest)) = sym (length-map rest word) ∙ ap length is ∙ length-append (spelled c) (map word (drop (length (spelled c)) rest)) in (
      omega (arith, less, long, sum, size, lengths),
      subst (λ (l : List X). Received terminal has (map word words) (map word l) new) there
          (received_more terminal has (map word words) (map word rest) (map word (drop (length (spelled c)) rest)) old new c received is one e),
    )
