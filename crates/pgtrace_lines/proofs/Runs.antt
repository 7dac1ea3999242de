-- A listing is that of the run of its stream.
use Rattle.pgtrace_lines.proofs.Common.{ℕ, Bool, false, List, [], ◌∷◌, ◌++◌, Result, ◌+◌, length, sym, ap, subst, inl, inr, ◌∙◌, ◌≡◌, ◌⊎◌, append_assoc, Error, Message, Frames, BackendRun, TakesFrame, frames_none, frames_next, View, Lines, NoLines, OneLine, IsListing, IsRunBehindAnswers, place_behind, Side, Server, Ends, server_at, Beginning, Messages, Encrypted}
use Rattle.pgtrace_lines.proofs.Ends.{answered_stays}
use Rattle.pgtrace_lines.proofs.Beginnings.{HasCome, StillAnswers, NowEncrypted, NowMessages, has_come}
use Rattle.pgtrace_lines.proofs.Sides.{server_ending, server_line, stays_server}

-- the frames that were listed, and a result for each
record Read (front rest : List ℕ) : Type 0 where
  results : List (Result Message Error)
  frames : Frames (front ++ rest) results rest

read_of : (view : View) (start : ℕ) (replicating : Bool) (front lines : List ℕ) (to : Side) → Lines view start (server_at replicating) front lines to → (rest : List ℕ) → Read front rest
read_of view start replicating [] [] _ NoLines rest = record { results = []; frames = frames_none rest }
read_of view start replicating _ _ to (OneLine {bytes = bytes} {lines = lines} {here = here} frame line before has) rest =
    let has_line = server_line view start (place_behind (start + length bytes)) replicating bytes lines frame line here to before has in
    let is = has_line.told.reported in
    let so_far = read_of view start replicating bytes lines here before (frame ++ rest) in
    let takes : TakesFrame (frame ++ rest) is.reported.result rest = record { first = is.first; whole = ap (λ l. l ++ rest) is.whole; fits = is.fits; body = is.reported.body } in
    record {
      results = so_far.results ++ is.reported.result ∷ [];
      frames = subst (λ l. Frames l (so_far.results ++ is.reported.result ∷ []) rest) (sym (append_assoc bytes frame rest))
          (frames_next (bytes ++ (frame ++ rest)) (frame ++ rest) rest so_far.results is.reported.result so_far.frames takes);
    }

pub run_of : (view : View) (bytes output : List ℕ) (l : IsListing view (Server Messages) bytes output) → (results : List (Result Message Error)) × BackendRun bytes results l.stopped l.rest
run_of view bytes output l =
    let read = read_of view 0 false l.front l.lines l.to l.listed l.rest in
    let at = stays_server view 0 false l.front l.lines l.to l.listed in
    let ends = server_ending at.replicating l.stopped l.rest (subst (λ s. Ends s l.stopped l.rest) at.is l.ending) in
    (read.results, record { run = subst (λ b. Frames b read.results l.rest) (sym l.whole) read.frames; ending = ends })

-- from the first byte on
begun_run : (view : View) (bytes output : List ℕ) (l : IsListing view (Server Beginning) bytes output) → HasCome view 0 l.front l.lines l.to → (l.to ≡ Server Encrypted) ⊎ IsRunBehindAnswers bytes l.stopped l.rest
begun_run view bytes output l (NowEncrypted e some) = inl e
begun_run view bytes output l (StillAnswers e plain) =
    let ends = subst (λ s. Ends s l.stopped l.rest) e l.ending in
    inr (record { answers = l.front; more = l.rest; results = []; whole = l.whole; plain = plain; none = ends.0; run = record { run = frames_none l.rest; ending = ends.1 } })
begun_run view bytes output l (NowMessages replicating e b) =
    let read = read_of view (0 + length b.answers) false b.more b.rest (server_at replicating) b.backs l.rest in
    inr (record {
      answers = b.answers;
      more = b.more ++ l.rest;
      results = read.results;
      whole = l.whole ∙ ap (λ x. x ++ l.rest) b.whole ∙ append_assoc b.answers b.more l.rest;
      plain = b.plain;
      none = answered_stays b.more l.rest b.some b.none;
      run = record { run = read.frames; ending = server_ending replicating l.stopped l.rest (subst (λ s. Ends s l.stopped l.rest) e l.ending) };
    })

pub run_behind : (view : View) (bytes output : List ℕ) (l : IsListing view (Server Beginning) bytes output) → (l.to ≡ Server Encrypted) ⊎ IsRunBehindAnswers bytes l.stopped l.rest
run_behind view bytes output l = begun_run view bytes output l (has_come view 0 l.front l.lines l.to l.listed)
