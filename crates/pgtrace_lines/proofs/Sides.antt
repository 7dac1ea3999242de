-- The lines of a server's stream.
use Rattle.pgtrace_lines.proofs.Common.{◌≡◌, ℕ, ◌+◌, Bool, true, false, List, [], length, refl, subst, IsEnding, IsServerLine, Listed, Lines, NoLines, OneLine, place_behind, server_name, Side, Ends, replicates_behind, server_at, View, shown}

-- what stands in the listing of a server's frame
pub record Told (view : View) (place : ℕ) (replicating : Bool) (frame text : List ℕ) : Type 0 where
  pub line : List ℕ
  pub reported : IsServerLine view.style place replicating frame line
  pub is : text ≡ shown view (server_name reported.first.tag reported.reported.result) line

-- and how far the stream has come there and behind it
pub record ToldAt (view : View) (place : ℕ) (here : Side) (frame text : List ℕ) (to : Side) : Type 0 where
  pub replicating : Bool
  pub at : here ≡ server_at replicating
  pub told : Told view place replicating frame text
  pub behind : to ≡ server_at (replicates_behind replicating frame)

pub told : (view : View) (place : ℕ) (replicating : Bool) (frame text : List ℕ) (to : Side) → Listed view place (server_at replicating) frame text to → Told view place replicating frame text
told view place true frame text to has = record { line = has.line; reported = has.reported.0; is = has.is }
told view place false frame text to has = record { line = has.line; reported = has.reported.0; is = has.is }

pub behind_it : (view : View) (place : ℕ) (replicating : Bool) (frame text : List ℕ) (to : Side) → Listed view place (server_at replicating) frame text to → to ≡ server_at (replicates_behind replicating frame)
behind_it view place true frame text to has = has.reported.1
behind_it view place false frame text to has = has.reported.1

pub listed : (view : View) (place : ℕ) (replicating : Bool) (frame text : List ℕ) → Told view place replicating frame text → Listed view place (server_at replicating) frame text (server_at (replicates_behind replicating frame))
listed view place true frame text has = record { line = has.line; reported = (has.reported, refl); is = has.is }
listed view place false frame text has = record { line = has.line; reported = (has.reported, refl); is = has.is }

pub record ServerAt (side : Side) : Type 0 where
  pub replicating : Bool
  pub is : side ≡ server_at replicating

-- after a server's lines come a server's
pub stays_server : (view : View) (start : ℕ) (replicating : Bool) (bytes lines : List ℕ) (to : Side) → Lines view start (server_at replicating) bytes lines to → ServerAt to
stays_server view start replicating [] [] _ NoLines = record { replicating = replicating; is = refl }
stays_server view start replicating _ _ to (OneLine {bytes = bytes} {lines = lines} {here = here} frame line before has) =
    let at = stays_server view start replicating bytes lines here before in
    record {
      replicating = replicates_behind at.replicating frame;
      is = behind_it view (place_behind (start + length bytes)) at.replicating frame line to (subst (λ h. Listed view (place_behind (start + length bytes)) h frame line to) at.is has);
    }

pub server_line : (view : View) (start place : ℕ) (replicating : Bool) (bytes lines frame line : List ℕ) (here to : Side) → Lines view start (server_at replicating) bytes lines here → Listed view place here frame line to → ToldAt view place here frame line to
server_line view start place replicating bytes lines frame line here to before has =
    let at = stays_server view start replicating bytes lines here before in
    let there = subst (λ h. Listed view place h frame line to) at.is has in
    record { replicating = at.replicating; at = at.is; told = told view place at.replicating frame line to there; behind = behind_it view place at.replicating frame line to there }

-- where such a stream ends
pub server_ending : (replicating stopped : Bool) (rest : List ℕ) → Ends (server_at replicating) stopped rest → IsEnding stopped rest
server_ending true stopped rest ends = ends
server_ending false stopped rest ends = ends
