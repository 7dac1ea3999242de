-- A recording in a file: what wasn't read of it changes nothing.
use Rattle.pgtrace_session.proofs.Common.{Result, Ok, Err, IfOk, IfErr, OnErr, ◌≡◌, ◌≢◌, ◌≤◌, ◌++◌, inl, inr, Bool, true, false, List, [], ◌∷◌, ℕ, length, take, drop, Option, None, Some, refl, sym, ap, subst, ◌∙◌, append-nil, take-append-drop, take-append-le, take-append_seam, Appends, Consumes, IsAtEnd, View, Marking, End, Whole, Cut, NoChunk, NoRecording, Tally, Known, Streams, last_lines, magic, HeldTalk, EndsBy, HasLines, IsListing, IsCutShort, IsReadTo, summary_in, summarized, end_of, AddsFiles, OneFile, CutsFile, ListsFile, ListsRecording, SumsRecording, Follows, CutsLines, Talk, begins, tallies_in, tally_after}
use Rattle.std.specs.Io.KnownBytes.{Keeps}
use Rattle.pgtrace_session.specs.Common.{Caused, Fault, Memory, Read, Write}
use Rattle.pgtrace_session.specs.Several.{worst}
use Rattle.pgtrace_session.specs.declared.outcome.Ended.{Ended}
use Rattle.pgtrace_session.proofs.Sessions.{ends_by, lines_more}
use Rattle.pgtrace_session.proofs.Summaries.{chunks_none}

-- ---- more bytes, which aren't read

no_magic : (rest more other : List ℕ) → length magic ≤ length rest → ((after : List ℕ) → rest ≢ magic ++ after) → rest ++ more ≢ magic ++ other
no_magic rest more other long none e =
    none (drop 20 rest) (sym (take-append-drop 20 rest) ∙ ap (λ l. l ++ drop 20 rest) (sym (take-append-le 20 rest more long) ∙ ap (take 20) e ∙ take-append_seam magic other))

no_more : (opened : Bool) (rest more : List ℕ) (end : End) → EndsBy opened rest end → more ≡ [] → EndsBy opened (rest ++ more) end
no_more opened rest more end e none = subst (λ m. EndsBy opened (rest ++ m) end) (sym none) (subst (λ l. EndsBy opened l end) (sym (append-nil rest)) e)

ends_more : (opened : Bool) (rest more : List ℕ) (input : Option (List ℕ)) (end : End) → EndsBy opened rest end → IsReadTo end rest input → (IsAtEnd input → more ≡ []) → EndsBy opened (rest ++ more) end
ends_more true rest more input Whole e read none = no_more true rest more Whole e (none read)
ends_more true rest more input Cut e read none = no_more true rest more Cut e (none read)
ends_more true [] more input NoChunk e read none = absurd e
ends_more true (first ∷ rest) more input NoChunk e read none = e
ends_more true rest more input NoRecording e read none = absurd e
ends_more false rest more input Whole e read none = absurd e
ends_more false rest more input Cut e read none = absurd e
ends_more false rest more input NoChunk e read none = absurd e
ends_more false rest more input NoRecording e (inl end) none = no_more false rest more NoRecording e (none end)
ends_more false rest more input NoRecording e (inr long) none = λ other. no_magic rest more other long e

all_read : (end : End) (rest : List ℕ) → IsReadTo end rest (Some [])
all_read Whole rest = refl
all_read Cut rest = refl
all_read NoChunk rest = tt
all_read NoRecording rest = inl refl

-- ---- a file

-- all of its bytes, of which these were read
record IsFile (before after : Option (List ℕ)) (bytes : List ℕ) : Type 0 where
  more : List ℕ
  all : Consumes before (Some []) (bytes ++ more)
  none : IsAtEnd after → more ≡ []

file_of : (before after : Option (List ℕ)) (bytes : List ℕ) → Consumes before after bytes → IsFile before after bytes
file_of None after bytes c = record { more = []; all = tt; none = λ e. refl }
file_of (Some all) None bytes c = absurd c
file_of (Some all) (Some rest) bytes c = record { more = rest; all = c ∙ sym (append-nil (bytes ++ rest)); none = λ e. e }

came : (bytes : List ℕ) → Consumes (Some bytes) (Some []) bytes
came bytes = sym (append-nil bytes)

listing_more : (view : View) (marking : Marking) (bytes more : List ℕ) (input : Option (List ℕ)) (end : End) (output : List ℕ) (l : IsListing view marking bytes end output) → IsReadTo end l.rest input → (IsAtEnd input → more ≡ [])
    → IsListing view marking (bytes ++ more) end output
listing_more view marking bytes more input end output l read none = record {
  begun = l.begun;
  rest = l.rest ++ more;
  lines = l.lines;
  talk = l.talk;
  each = lines_more view marking bytes more l.begun l.rest l.lines l.talk l.each;
  ending = ends_more l.begun l.rest more input end l.ending read none;
  text = l.text;
}

module _ (Gives : List ℕ → List ℕ → Type 0) (view : View) (marking : Marking) (name : List ℕ) (before after : Option (List ℕ)) (gives : (bytes : List ℕ) → Consumes before (Some []) bytes → Gives name bytes) where
  listed : (old new : Option (List ℕ)) (status : ℕ) (said : List ℕ) → ListsRecording view marking (record { input = before; output = old }) (record { input = after; output = new }) status said → ListsFile Gives view marking name old new status said
  unfolding listing_more
  listed old new status said r =
      let w = r.listed in
      let file = file_of before after w.bytes w.received in
      let all = w.bytes ++ file.more in
      record {
        bytes = all;
        gives = gives all file.all;
        lists = record {
          end = r.end;
          listed = record {
            bytes = all;
            output = w.output;
            received = came all;
            is = listing_more view marking w.bytes file.more after r.end w.output w.is w.all file.none;
            all = all_read r.end (w.is.rest ++ file.more);
            written = w.written;
            why = w.why;
          };
          fine = r.fine;
        };
      }

  pub file_listed : (r : Result Ended Fault) (old new : Option (List ℕ)) → IfOk r (λ ended. ListsRecording view marking (record { input = before; output = old }) (record { input = after; output = new }) ended.status (ended.first.now ++ ended.second.now ++ ended.third.now))
      → IfOk r (λ ended. ListsFile Gives view marking name old new ended.status (ended.first.now ++ ended.second.now ++ ended.third.now))
  file_listed (Ok ended) old new lists = listed old new ended.status (ended.first.now ++ ended.second.now ++ ended.third.now) lists
  file_listed (Err fault) old new lists = tt

  cut : (old new : Option (List ℕ)) → IsCutShort view marking (record { input = before; output = old }) (record { input = after; output = new }) → CutsFile Gives view marking name old new
  unfolding listing_more
  cut old new (inl w) =
      let file = file_of before after w.bytes w.received in
      let all = w.bytes ++ file.more in
      let each = lines_more view marking w.bytes file.more w.begun w.rest w.lines w.talk w.each in
      inr (all, gives all file.all, inl (record { bytes = all; begun = w.begun; rest = w.rest ++ file.more; lines = w.lines; talk = w.talk; received = came all; each = each; written = w.written }))
  cut old new (inr w) =
      let file = file_of before after w.bytes w.received in
      let all = w.bytes ++ file.more in
      let is = listing_more view marking w.bytes file.more after w.end w.output w.is w.all file.none in
      inr (all, gives all file.all, inr (record { bytes = all; end = w.end; output = w.output; received = came all; is = is; all = all_read w.end (w.is.rest ++ file.more); written = w.written }))

  pub file_cut : (r : Result Ended Fault) (old new : Option (List ℕ)) → OnErr r (IsCutShort view marking (record { input = before; output = old }) (record { input = after; output = new })) → OnErr r (CutsFile Gives view marking name old new)
  file_cut (Ok ended) old new w = tt
  file_cut (Err fault) old new w = cut old new w

  pub file_added : (r : Result End Fault) (old new : List Tally) → IfOk r (λ end. SumsRecording view marking before after end old new)
      → IfOk r (λ its. (names : List (List ℕ)) (end : End) → AddsFiles Gives view marking names old end → AddsFiles Gives view marking (names ++ name ∷ []) new (worst end its))
  unfolding listing_more
  file_added (Err fault) old new s = tt
  file_added (Ok its) old new s = λ names end so_far.
      let file = file_of before after s.bytes s.received in
      let all = s.bytes ++ file.more in
      let listing = listing_more (summarized true view) marking s.bytes file.more after its s.adds.output s.adds.listing s.all file.none in
      OneFile name all so_far (gives all file.all) (record { output = s.adds.output; listing = listing; added = s.adds.added })

-- reading it stops as reading of the reader does
so : (lacks : Type 0) (stops others : Fault → Type 0) (writes : Type 0) (fault : Fault) → ((fault : Fault) → stops fault → others fault) → Caused lacks stops writes fault → Caused lacks others writes fault
so lacks stops others writes Memory f (inl l) = inl l
so lacks stops others writes Memory f (inr x) = inr (f Memory x)
so lacks stops others writes Read f x = f Read x
so lacks stops others writes Write f x = x

pub caused_so : {X : Type 0} (r : Result X Fault) (lacks : Type 0) (stops others : Fault → Type 0) (writes : Type 0) → ((fault : Fault) → stops fault → others fault) → IfErr r (Caused lacks stops writes)
    → IfErr r (Caused lacks others writes)
caused_so (Ok x) lacks stops others writes f c = tt
caused_so (Err fault) lacks stops others writes f c = so lacks stops others writes fault f c

nothing_written : (old new : Option (List ℕ)) (lines : List ℕ) → lines ≡ [] → Appends old new lines → Keeps old new
nothing_written None new lines none w = tt
nothing_written (Some x) None lines none w = absurd w
nothing_written (Some x) (Some y) lines none w = w ∙ ap (λ l. x ++ l) none ∙ append-nil x

front_of_nothing : (lines taken : List ℕ) → lines ≡ [] → take (length taken) lines ≡ taken → taken ≡ []
front_of_nothing lines [] none e = refl
front_of_nothing lines (x ∷ xs) none e = sym e ∙ ap (take (length (x ∷ xs))) none

-- ---- what its requests ran, with a view of which no line is written

module _ (quiet view : View) (is : quiet ≡ summarized true view) (marking : Marking) (before after : Streams) where
  pub sum_added : (opened stopped : Bool) (held : HeldTalk) (rest : List ℕ) (end : End) (old new : List Tally) → Follows quiet marking before after opened stopped held rest
      → IsReadTo (end_of opened stopped rest) rest after.input → end ≡ end_of opened stopped rest → new ≡ tally_after old (tallies_in (summary_in held.known.numbers)) → SumsRecording view marking before.input after.input end old new
  sum_added opened stopped held rest end old new follows all ended added =
      let f = subst (λ v. Follows v marking before after opened stopped held rest) is follows in
      let talk = f.tracks.talk in
      record {
        bytes = f.bytes;
        received = f.received;
        adds = record {
          output = f.lines ++ last_lines (summarized true view) talk;
          listing = record { begun = opened; rest = rest; lines = f.lines; talk = talk; each = f.tracks.each; ending = subst (EndsBy opened rest) (sym ended) (ends_by opened stopped rest f.stays); text = refl };
          added = added ∙ ap (λ (known : Known). tally_after old (tallies_in (summary_in known.numbers))) f.tracks.keeps.known;
        };
        all = subst (λ e. IsReadTo e rest after.input) (sym ended) all;
      }

  none : (bytes : List ℕ) (opened : Bool) (rest lines : List ℕ) (talk : Talk) → HasLines quiet marking bytes opened rest lines talk → lines ≡ []
  none bytes opened rest lines talk h = let each = subst (λ v. HasLines v marking bytes opened rest lines talk) is h in chunks_none view (begins marking) each.chunks lines talk each.each

  pub sum_kept : (opened stopped : Bool) (held : HeldTalk) (rest : List ℕ) → Follows quiet marking before after opened stopped held rest → Keeps before.output after.output
  sum_kept opened stopped held rest f = nothing_written before.output after.output f.lines (none f.bytes opened rest f.lines f.tracks.talk f.tracks.each) f.written

  pub part_kept : CutsLines quiet marking before after → Keeps before.output after.output
  part_kept f = nothing_written before.output after.output f.written.taken (front_of_nothing f.lines f.written.taken (none f.bytes f.begun f.rest f.lines f.talk f.each) f.written.is_front) f.written.written
