-- A text begins with parts, or leaves them, as a scan from the left finds.
use Rattle.pgp_auth.proofs.Common.{◌≡◌, ◌≢◌, ◌==◌, ℕ, Bool, true, false, List, [], ◌∷◌, ◌++◌, refl, ap, arith, append-nil, inl, inr, Some, slice_get, if◌then◌else◌, eqb-true, cases_Bool, nat_tests, take-append-drop, AllPass, prefix_len, Result, Ok, Err, Part, Character, Run, EndsRun, Begins, here, character, run, Leaves, front_of, rest_of}
use Rattle.pgp_auth.proofs.Runs.{front_passes, run_stops, run_ends, rest_ends}

-- the runs that were read, and the rest; or the text from where it leaves the parts
pub record Scan : Type 0 where
  pub runs : List (List ℕ)
  pub rest : List ℕ

abbrev pub scan_of : List (List ℕ) → List ℕ → Result Scan (List ℕ)
scan_of runs rest = Ok (record { runs = runs; rest = rest })

abbrev ok_scan : Scan → Result Scan (List ℕ)
ok_scan s = Ok s

abbrev err_scan : List ℕ → Result Scan (List ℕ)
err_scan rest = Err rest

abbrev add_run : List ℕ → Result Scan (List ℕ) → Result Scan (List ℕ)
add_run front (Ok s) = scan_of (front ∷ s.runs) s.rest
add_run front (Err at) = Err at

unfoldable pub scan : List Part → List ℕ → Result Scan (List ℕ)
scan [] text = scan_of [] text
scan (Character c ∷ parts) [] = Err []
scan (Character c ∷ parts) (b ∷ text) = if b == c then scan parts text else Err (b ∷ text)
scan (Run test ∷ parts) text = add_run (front_of test text) (scan parts (rest_of test text))

eqb_same : (c : ℕ) → (c == c) ≡ true
eqb_same c = grind (arith, nat_tests)

-- a longest run is read whole
run_whole : (test : ℕ → Bool) (front text : List ℕ) → AllPass test front → EndsRun test text
    → (front_of test (front ++ text) ≡ front) × (rest_of test (front ++ text) ≡ text)
run_whole test front [] pass ends = rw append-nil (run_ends test front pass)
run_whole test front (c ∷ text) pass ends = run_stops test front c text pass ends

-- ---- what begins so is scanned so

pub begun_scan : {parts : List Part} {text rest : List ℕ} {runs : List (List ℕ)} → Begins parts text runs rest → scan parts text ≡ scan_of runs rest
unfolding scan
begun_scan here = refl
begun_scan (character {c = c} b) = rw (eqb_same c) (begun_scan b)
begun_scan (run {test = test} {front = front} {text = text} pass ends b) =
    let whole = run_whole test front text pass ends in
    rw (whole.0, whole.1, begun_scan b) refl

-- runs of the parts before
abbrev add_runs : List (List ℕ) → Result Scan (List ℕ) → Result Scan (List ℕ)
add_runs [] r = r
add_runs (front ∷ runs) r = add_run front (add_runs runs r)

begun_on : {before : List Part} {text rest : List ℕ} {runs : List (List ℕ)} (more : List Part) → Begins before text runs rest
    → scan (before ++ more) text ≡ add_runs runs (scan more rest)
unfolding scan
begun_on more here = refl
begun_on more (character {c = c} b) = rw (eqb_same c) (begun_on more b)
begun_on more (run {test = test} {front = front} {text = text} pass ends b) =
    let whole = run_whole test front text pass ends in
    rw (whole.0, whole.1, begun_on more b) refl

add_runs-err : (runs : List (List ℕ)) (at : List ℕ) → add_runs runs (Err at) ≡ Err at
add_runs-err [] at = refl
add_runs-err (front ∷ runs) at = rw (add_runs-err runs at) refl

other_scan : (c : ℕ) (after : List Part) (rest : List ℕ) → slice_get rest 0 ≢ Some c → scan (Character c ∷ after) rest ≡ Err rest
unfolding scan
other_scan c after [] other = refl
other_scan c after (b ∷ rest) other = elim (cases_Bool (b == c)) [
  | inl same ↦ absurd (other (ap (λ (x : ℕ). Some x) (eqb-true b c same)))
  | inr differs ↦ rw differs refl
]

pub left_scan : {parts : List Part} {text rest : List ℕ} → Leaves parts text rest → scan parts text ≡ Err rest
left_scan {rest = rest} l =
    rw (l.parts_are, begun_on (Character l.c ∷ l.after) l.begins, other_scan l.c l.after rest l.other) (add_runs-err l.runs rest)

-- ---- what is scanned so begins so

join_front : (test : ℕ → Bool) (text : List ℕ) → front_of test text ++ rest_of test text ≡ text
join_front test text = take-append-drop (prefix_len test text) text

scan_same : (s : Scan) (runs : List (List ℕ)) (rest : List ℕ) → ok_scan s ≡ scan_of runs rest → (s.runs ≡ runs) × (s.rest ≡ rest)
scan_same s runs rest e =
    let same : s ≡ record { runs = runs; rest = rest } = cc in
    (ap (λ (x : Scan). x.runs) same, ap (λ (x : Scan). x.rest) same)

-- the case of a scan after a run
from_added : (P : Type 0) (front : List ℕ) (r : Result Scan (List ℕ)) (runs : List (List ℕ)) (rest : List ℕ) → add_run front r ≡ scan_of runs rest
    → ((s : Scan) → r ≡ Ok s → front ∷ s.runs ≡ runs → s.rest ≡ rest → P) → P
from_added P front (Ok s) runs rest e k =
    let both = scan_same (record { runs = front ∷ s.runs; rest = s.rest }) runs rest e in
    k s refl both.0 both.1
from_added P front (Err at) runs rest e k = cc

pub scanned_begins : (parts : List Part) (text rest : List ℕ) (runs : List (List ℕ)) → scan parts text ≡ scan_of runs rest → Begins parts text runs rest
unfolding scan
scanned_begins [] text rest runs e =
    let both = scan_same (record { runs = []; rest = text }) runs rest e in
    rw (← both.0, ← both.1) here
scanned_begins (Character c ∷ parts) [] rest runs e = cc
scanned_begins (Character c ∷ parts) (b ∷ text) rest runs e = elim (cases_Bool (b == c)) [
  | inl same ↦ rw (eqb-true b c same) (character (scanned_begins parts text rest runs (rw same at e)))
  | inr differs ↦ let bad = rw differs at e in cc
]
scanned_begins (Run test ∷ parts) text rest runs e =
    from_added (Begins (Run test ∷ parts) text runs rest) (front_of test text) (scan parts (rest_of test text)) runs rest e
    (λ s es runs_are rest_is.
    let inner = scanned_begins parts (rest_of test text) s.rest s.runs es in
    let b : Begins (Run test ∷ parts) (front_of test text ++ rest_of test text) (front_of test text ∷ s.runs) s.rest = run (front_passes test text) (rest_ends test text) inner in
    rw (join_front test text, runs_are, rest_is) at b)

-- ---- and what isn't leaves

from_err : (P : Type 0) (front : List ℕ) (r : Result Scan (List ℕ)) (at : List ℕ) → add_run front r ≡ Err at → (r ≡ Err at → P) → P
from_err P front (Ok s) at e k = cc
from_err P front (Err a) at e k = k e

err_same : (a b : List ℕ) → err_scan a ≡ err_scan b → a ≡ b
err_same a b e = cc

none_there : {A : Type 0} (c : A) → slice_get [] 0 ≢ Some c
none_there c e = cc

not_there : (b c : ℕ) (text : List ℕ) → (b == c) ≡ false → slice_get (b ∷ text) 0 ≢ Some c
not_there b c text test e =
    let same : b ≡ c = cc in
    let yes_ : (b == c) ≡ true = rw same (eqb_same c) in
    cc

leaves_here : (c : ℕ) (parts : List Part) (text : List ℕ) → slice_get text 0 ≢ Some c → Leaves (Character c ∷ parts) text text
leaves_here c parts text other = record { before = []; c = c; after = parts; parts_are = refl; runs = []; begins = here; other = other }

leaves_later : (part : Part) (parts : List Part) (text : List ℕ) (rest : List ℕ) (l : Leaves parts text rest) (runs : List (List ℕ)) (whole : List ℕ)
    → Begins (part ∷ l.before) whole runs rest → Leaves (part ∷ parts) whole rest
leaves_later part parts text rest l runs whole b = record {
  before = part ∷ l.before;
  c = l.c;
  after = l.after;
  parts_are = ap (λ (ps : List Part). part ∷ ps) l.parts_are;
  runs = runs;
  begins = b;
  other = l.other;
}

pub scanned_leaves : (parts : List Part) (text rest : List ℕ) → scan parts text ≡ Err rest → Leaves parts text rest
unfolding scan
scanned_leaves [] text rest e = cc
scanned_leaves (Character c ∷ parts) [] rest e =
    rw (← err_same [] rest e) (leaves_here c parts [] (none_there c))
scanned_leaves (Character c ∷ parts) (b ∷ text) rest e = elim (cases_Bool (b == c)) [
  | inl same ↦
      let l = scanned_leaves parts text rest (rw same at e) in
      rw (eqb-true b c same) (leaves_later (Character c) parts text rest l l.runs (c ∷ text) (character l.begins))
  | inr differs ↦
      let at_ : b ∷ text ≡ rest = err_same (b ∷ text) rest (rw differs at e) in
      rw (← at_) (leaves_here c parts (b ∷ text) (not_there b c text differs))
]
scanned_leaves (Run test ∷ parts) text rest e =
    from_err (Leaves (Run test ∷ parts) text rest) (front_of test text) (scan parts (rest_of test text)) rest e
    (λ er.
    let l = scanned_leaves parts (rest_of test text) rest er in
    let b : Begins (Run test ∷ l.before) (front_of test text ++ rest_of test text) (front_of test text ∷ l.runs) rest = run (front_passes test text) (rest_ends test text) l.begins in
    leaves_later (Run test) parts (rest_of test text) rest l (front_of test text ∷ l.runs) text (rw (join_front test text) at b))
