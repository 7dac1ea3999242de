-- The lines of a side, a frame at a time.
use Rattle.pgtrace_session.proofs.Common.{◌≡◌, ℕ, ◌+◌, ◌-◌, ◌<◌, ◌≤◌, Bool, true, false, List, [], ◌++◌, length, min, Option, refl, sym, ap, subst, ◌∙◌, arith, length-append, PasswordKind, greatest, place_behind, name_in, Side, Ends, HasLine, View, Sender, Client, Server, Noted, Asks, Told, Known, ListsFrame, ListsFrames, NoLines, OneLine, as_standby, note, noted_by, noted_in, other, replicates_in, side_in, text_of, told_by, with_kind, with_numbers, with_side, with_types, placed_by, Numbers, Learns, said_in, Reads, Types, ListsOneFrame, now_at, RowsTo, one_listed}
use Rattle.pgtrace_lines.specs.Sides.{Server as ServerSide, Client as ClientSide}
use Rattle.pgtrace_lines.proofs.Shorter.{frame_has}

-- what is no side's
record IsKept (new old : Known) : Type 0 where
  requests : new.requests ≡ old.requests
  numbers : new.numbers ≡ old.numbers
  types : new.types ≡ old.types
  marked : new.marked ≡ old.marked

kept : (who : Sender) (old : Known) (side : Side) → IsKept (with_side who old side) old
kept Client old side = record { requests = refl; numbers = refl; types = refl; marked = refl }
kept Server old side = record { requests = refl; numbers = refl; types = refl; marked = refl }

-- a frame with its line, and what is known after it
pub lists_one : (view : View) (mark : List ℕ) (who : Sender) (place : ℕ) (old mid new : Known) (told : Told) (noted : Noted) (numbers : Option Numbers) (types : Option Types) (bytes behind line typed name before after : List ℕ)
    → (has : HasLine view.style place (side_in who old) bytes behind line (side_in who mid) name) → mid ≡ with_side who old (side_in who mid)
    → Reads view.style place has.frame (said_in view.style place (side_in who old) has.frame line (side_in who mid) has.reported) mid.numbers numbers mid.types types line typed told noted
    → after ≡ before ++ text_of view mark (told_by mid.marked told) place mid.requests name typed → new ≡ note noted (with_types types (with_numbers numbers mid)) → ListsOneFrame view mark who place old bytes behind before after new
lists_one view mark who place old mid new told noted numbers types bytes behind line typed name before after has same reads grown is =
    let from = side_in who old in
    let to = side_in who mid in
    let waiting : mid.requests ≡ old.requests = ap (λ (k : Known). k.requests) same ∙ (kept who old to).requests in
    let counted : mid.numbers ≡ old.numbers = ap (λ (k : Known). k.numbers) same ∙ (kept who old to).numbers in
    let typing : mid.types ≡ old.types = ap (λ (k : Known). k.types) same ∙ (kept who old to).types in
    let marking : mid.marked ≡ old.marked = ap (λ (k : Known). k.marked) same ∙ (kept who old to).marked in
    let by = λ (marked : Bool). told_by marked told in
    let named = name_in view.style place from has.frame line to has.reported in
    let said = said_in view.style place from has.frame line to has.reported in
    record {
      frame = has.frame;
      text = text_of view mark (by old.marked) place old.requests named typed;
      whole = has.whole;
      some = frame_has view.style place from to has.frame line has.reported;
      lists = record {
        line = line;
        after = to;
        told = told;
        numbers = numbers;
        types = types;
        typed = typed;
        reported = has.reported;
        placed = ap (placed_by has.frame said) (sym counted) ∙ reads.tells.placed;
        learns = subst (λ t. Learns told said t types) typing reads.tells.learns;
        shows = reads.shows;
        is = refl;
        behind = is ∙ ap (λ n. note n (with_types types (with_numbers numbers mid))) reads.tells.expects
            ∙ ap (λ k. note (noted_by said) (with_types types (with_numbers numbers k))) same;
      };
      grown = grown ∙ ap (λ b. before ++ text_of view mark (by b) place mid.requests name typed) marking ∙ ap (λ r. before ++ text_of view mark (by old.marked) place r name typed) waiting ∙ ap (λ n. before ++ text_of view mark (by old.marked) place old.requests n typed) has.named;
    }

pub front_long : (bytes frame behind : List ℕ) → bytes ≡ frame ++ behind → length behind ≤ length bytes
front_long bytes frame behind whole = omega (arith, ap length whole, length-append frame behind)

-- ---- frame by frame

-- one more
pub one_more : (view : View) (mark : List ℕ) (who : Sender) (start here : ℕ) (from mid to : Known) (bytes rest behind old now new : List ℕ) → RowsTo (ListsFrame view mark who) start from bytes rest mid old now
    → here ≡ min (start + (length bytes - length rest)) greatest → ListsOneFrame view mark who here mid rest behind now new to → RowsTo (ListsFrame view mark who) start from bytes behind to old new
one_more view mark who start here from mid to bytes rest behind old now new so_far at one =
    one_listed (ListsFrame view mark who) start here from mid to bytes rest one.frame behind one.text old now new so_far at one.whole one.lists one.grown

pub shorter : (view : View) (mark : List ℕ) (who : Sender) (place : ℕ) (here to : Known) (bytes behind old new : List ℕ) → ListsOneFrame view mark who place here bytes behind old new to → length behind < length bytes
shorter view mark who place here to bytes behind old new one = omega (arith, ap length one.whole, length-append one.frame behind, one.some)

-- ---- the other side

other_kind : (side : Side) (kind : PasswordKind) (stopped : Bool) (rest : List ℕ) → Ends side stopped rest → Ends (with_kind side kind) stopped rest
other_kind (ClientSide opened kinds replicating) kind false rest e = e
other_kind (ClientSide opened kinds replicating) kind true rest e = e
other_kind (ServerSide phase) kind stopped rest e = e

-- and so where it is taken for a standby's or not
other_standby : (replicating : Bool) (side : Side) (stopped : Bool) (rest : List ℕ) → Ends side stopped rest → Ends (as_standby replicating side) stopped rest
other_standby replicating (ClientSide opened kinds was) false rest e = e
other_standby replicating (ClientSide opened kinds was) true rest e = e
other_standby replicating (ServerSide phase) stopped rest e = e

other_note : (who : Sender) (here : Known) (side : Side) (numbers : Option Numbers) (types : Option Types) (n : Noted) (stopped : Bool) (rest : List ℕ) → Ends (side_in (other who) here) stopped rest → Ends (side_in (other who) (note n (with_types types (with_numbers numbers (with_side who here side))))) stopped rest
other_note Client here side numbers types (Asks kind) stopped rest e = e
other_note Client here side numbers types n stopped rest e = e
other_note Server here side numbers types (Asks kind) stopped rest e = other_kind (as_standby (replicates_in side) here.client) kind stopped rest (other_standby (replicates_in side) here.client stopped rest e)
other_note Server here side numbers types n stopped rest e = other_standby (replicates_in side) here.client stopped rest e

-- of the other side as much is awaited as before
pub other_ends : (view : View) (mark : List ℕ) (who : Sender) (start : ℕ) (from : Known) (bytes lines : List ℕ) (to : Known) (stopped : Bool) (rest : List ℕ) → ListsFrames view mark who start from bytes lines to
    → Ends (side_in (other who) from) stopped rest → Ends (side_in (other who) to) stopped rest
other_ends view mark who start from [] [] _ stopped rest NoLines e = e
other_ends view mark who start from _ _ to stopped rest (OneLine {bytes = bytes} {lines = lines} {here = here} frame text before one) e =
    subst (λ k. Ends (side_in (other who) k) stopped rest) (sym one.behind)
    (other_note who here one.after one.numbers one.types (noted_in view.style (place_behind (start + length bytes)) (side_in who here) frame one.line one.after one.reported) stopped rest (other_ends view mark who start from bytes lines here stopped rest before e))

-- a time changes no side
pub timed_side : (who : Sender) (micros : ℕ) (known : Known) → side_in who (now_at micros known) ≡ side_in who known
timed_side Client micros known = refl
timed_side Server micros known = refl
