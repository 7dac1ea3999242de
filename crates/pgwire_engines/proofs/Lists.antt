-- The lines so far, and those of a piece more.
use Rattle.pgwire_engines.proofs.Common.{◌≡◌, ℕ, ◌+◌, ◌<◌, Bool, false, List, [], ◌∷◌, ◌++◌, length, take, get_or, map, Option, Result, refl, sym, ap, ◌∙◌, flat_map, Consumes, Keeps, IsAtEnd, IfSome, Consumes-nil, Consumes-trans, Consumes-kept, Consumes-whole, append-nil, take_more, map_push, Error, Reading, HasRead, BackendOutput, line_of, last_line}
use Rattle.std.proofs.lemmas.List.Concat.{flat_map-cons}
use Rattle.std.proofs.lemmas.Grind.{flat_map-append}
use Rattle.pgp_message.specs.BackendMessage.{Message}
use Rattle.pgp_stream.proofs.Readings.{has_read_more}
use Rattle.pgwire_engines.specs.Listing.{ListsPiece}

-- one result more, of those that view sees
pub one_line : {X : Type 0} (view : X → Result Message Error) (xs : List X) (i : ℕ) (d : X) → i < length xs
    → flat_map line_of (map view (take (i + 1) xs)) ≡ flat_map line_of (map view (take i xs)) ++ line_of (view (get_or xs i d))
one_line view xs i d lt =
    let r = view (get_or xs i d) in
    let more = ap (map view) (take_more xs i d lt) ∙ map_push view (take i xs) (get_or xs i d) in
    ap (flat_map line_of) more ∙ flat_map-append line_of (map view (take i xs)) (r ∷ []) ∙ ap (λ l. flat_map line_of (map view (take i xs)) ++ l) (flat_map-cons line_of r [] ∙ append-nil (line_of r))

-- What came of the input so far was read, its results were taken, and the lines are theirs.
pub record Lists (old now : Option (List ℕ)) (parser : Reading) (lines : List ℕ) : Type 0 where
  pub received : List ℕ
  pub taken : List (Result Message Error)
  pub consumed : Consumes old now received
  pub read : HasRead received taken parser
  pub sound : parser.failed ≡ false
  pub none : parser.results ≡ []
  pub text : lines ≡ flat_map line_of taken

pub lists_nothing : (old : Option (List ℕ)) (parser : Reading) (lines : List ℕ) → HasRead [] [] parser → parser.failed ≡ false → parser.results ≡ [] → lines ≡ [] → Lists old old parser lines
lists_nothing old parser lines read sound none text = record { received = []; taken = []; consumed = Consumes-nil old; read = read; sound = sound; none = none; text = text }

-- a piece more
pub lists_more : (old now next : Option (List ℕ)) (a c : Reading) (piece lines more : List ℕ) → Lists old now a lines → Consumes now next piece → ListsPiece piece a c lines more → Lists old next c more
lists_more old now next a c piece lines more so_far consumed one = record {
  received = so_far.received ++ piece;
  taken = so_far.taken ++ one.results;
  consumed = Consumes-trans old now next so_far.received piece so_far.consumed consumed;
  read = one.taken.reads (so_far.received ++ piece) so_far.taken (has_read_more _ _ _ one.fed so_far.received so_far.taken so_far.read);
  sound = ap (λ (r : Reading). r.failed) one.taken.kept ∙ one.fed.sound;
  none = ap (λ (r : Reading). r.results) one.taken.kept;
  text = one.text ∙ ap (λ l. l ++ flat_map line_of one.results) so_far.text ∙ sym (flat_map-append line_of so_far.taken one.results);
}

-- nothing came
pub lists_same : (old now next : Option (List ℕ)) (a : Reading) (lines : List ℕ) → Lists old now a lines → Keeps now next → Lists old next a lines
lists_same old now next a lines so_far same = record {
  received = so_far.received;
  taken = so_far.taken;
  consumed = Consumes-kept old now next so_far.received so_far.consumed same;
  read = so_far.read;
  sound = so_far.sound;
  none = so_far.none;
  text = so_far.text;
}

-- all input was read, and the last line added
pub lists_all : (old now next : Option (List ℕ)) (parser : Reading) (lines more : List ℕ) (stopped : Bool) (n : ℕ) → Lists old now parser lines → Consumes now next [] → IsAtEnd next
    → stopped ≡ parser.stopped → n ≡ length parser.rest → more ≡ lines ++ last_line stopped n → IfSome old (λ bytes. BackendOutput bytes more 0)
lists_all old now next parser lines more stopped n so_far none end s e grown =
    let whole = Consumes-trans old now next so_far.received [] so_far.consumed none in
    let same : so_far.taken ++ parser.results ≡ so_far.taken = ap (λ l. so_far.taken ++ l) so_far.none ∙ append-nil so_far.taken in
    Consumes-whole old next (so_far.received ++ []) (λ bytes. BackendOutput bytes more 0) whole end (record {
      results = so_far.taken;
      stopped = parser.stopped;
      rest = parser.rest;
      run = rw (append-nil so_far.received, ← same) so_far.read.run;
      text = grown ∙ ap (λ l. l ++ last_line stopped n) so_far.text ∙ ap (λ b. flat_map line_of so_far.taken ++ last_line b n) s ∙ ap (λ k. flat_map line_of so_far.taken ++ last_line parser.stopped k) e;
      fine = refl;
    })
