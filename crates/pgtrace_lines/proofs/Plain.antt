-- A server's stream in which no replication begins.
use Rattle.pgtrace_lines.proofs.Common.{◌≡◌, ◌≢◌, ℕ, ◌<◌, arith, Bool, true, false, List, [], ◌++◌, length, refl, sym, ap, subst, ◌∙◌, ◌==◌, if◌then◌else◌, eqb-true, Frame, frame_bytes, IsFrame, front_is_one, Listed, Lines, Side, Server, replicates, replicates_behind, server_at, View, Messages}
use Rattle.pgtrace_lines.specs.Plain.{HasNoCopyBoth, NoFrame, OneFrame, PlainLine, PlainLines}
use Rattle.pgtrace_lines.proofs.FrameLines.{frame_long}
use Rattle.pgtrace_lines.proofs.Rows.{InOrder, NoMore, Replaced, in_order, replaced, row_more, rows_again}
use Rattle.pgtrace_lines.proofs.Shorter.{frame_some}

never_by : (b c d : Bool) → (if b then false else if c then false else if d then false else false) ≡ false
never_by true c d = refl
never_by false true d = refl
never_by false false true = refl
never_by false false false = refl

begins_by : (b : Bool) (x : Bool) → x ≡ false → (b ≡ true → ⊥) → (if b then true else x) ≡ false
begins_by true x e none = absurd (none refl)
begins_by false x e none = e

-- nothing but a CopyBothResponse begins replication
stays_plain : (tag : ℕ) → tag ≢ 87 → replicates false tag ≡ false
stays_plain tag other = begins_by (tag == 87) _ (never_by (tag == 99) (tag == 69) (tag == 67)) (λ e. other (eqb-true tag 87 e))

behind_plain : (f : Frame) (frame : List ℕ) → frame ≡ frame_bytes f → f.tag ≢ 87 → server_at (replicates_behind false frame) ≡ Server Messages
behind_plain f frame whole other = ap (λ l. server_at (replicates_behind false l)) whole ∙ ap server_at (stays_plain f.tag other)

-- a frame without it, and the same once more
record Without (place : ℕ) (here : Unit {0}) (f g : List ℕ) (to : Unit {0}) : Type 0 where
  first : Frame
  whole : f ≡ frame_bytes first
  fits : IsFrame first
  other : first.tag ≢ 87
  again : f ≡ g

without : (bytes : List ℕ) → HasNoCopyBoth bytes → InOrder Without tt 0 tt bytes bytes
without [] NoFrame = NoMore
without _ (OneFrame {bytes = bytes} f before fits other) = row_more Without tt 0 tt tt bytes bytes (frame_bytes f) (frame_bytes f) (without bytes before) (record { first = f; whole = refl; fits = fits; other = other; again = refl })

some_without : (place : ℕ) (here to : Unit {0}) (f g : List ℕ) → Without place here f g to → 0 < length f
some_without place here to f g p = omega (arith, frame_long p.first f p.whole)

module _ (view : View) where
  some_line : (place : ℕ) (here to : Unit {0}) (f text : List ℕ) → PlainLine view place here f text to → 0 < length f
  some_line place here to f text p = omega (arith, frame_long p.is.first f p.is.whole)

  -- one line is that of a message by itself
  one_plain : (place q : ℕ) (s t : Side) (u v w : Unit {0}) (f h g text x y : List ℕ) → s ≡ Server Messages → Listed view place s f text t → Without q u h g v → f ++ x ≡ h ++ y → Replaced (PlainLine view) (λ k n. k ≡ Server Messages) place w f h g text x y t
  one_plain place q s t u v w f h g text x y at has pair e =
      let there = subst (λ k. Listed view place k f text t) at has in
      let is = there.reported.0 in
      let one = front_is_one is.first pair.first x y is.fits pair.fits (ap (λ l. l ++ x) (sym is.whole) ∙ e ∙ ap (λ l. l ++ y) pair.whole) in
      let same : f ≡ h = is.whole ∙ ap frame_bytes one.0 ∙ sym pair.whole in
      record {
        frames = same;
        rests = one.1;
        long = ap length (same ∙ pair.again);
        state = tt;
        is = subst (λ l. PlainLine view place w l text tt) (same ∙ pair.again) (record { line = there.line; is = is; shows = there.is });
        at = there.reported.1 ∙ behind_plain pair.first f (same ∙ pair.whole) pair.other;
      }

  pub plain : (start : ℕ) (bytes lines : List ℕ) (to : Side) → HasNoCopyBoth bytes → Lines view start (Server Messages) bytes lines to → PlainLines view start bytes lines × (to ≡ Server Messages)
  plain start bytes lines to none listed =
      let all = replaced (Listed view) Without (PlainLine view) (λ s u w. s ≡ Server Messages) one_plain (frame_some view) some_without to tt start 0 (Server Messages) tt tt bytes lines bytes bytes refl
      (in_order (Listed view) start (Server Messages) to bytes lines listed) (without bytes none) refl in
      (rows_again (PlainLine view) tt start tt bytes lines all.rows, all.at)

  -- and back
  one_listed : (place q : ℕ) (s t u v : Unit {0}) (w : Side) (f h g text x y : List ℕ) → w ≡ Server Messages → PlainLine view place s f text t → Without q u h g v → f ++ x ≡ h ++ y → Replaced (Listed view) (λ k n. n ≡ Server Messages) place w f h g text x y t
  one_listed place q s t u v w f h g text x y at has pair e =
      let one = front_is_one has.is.first pair.first x y has.is.fits pair.fits (ap (λ l. l ++ x) (sym has.is.whole) ∙ e ∙ ap (λ l. l ++ y) pair.whole) in
      let same : f ≡ h = has.is.whole ∙ ap frame_bytes one.0 ∙ sym pair.whole in
      record {
        frames = same;
        rests = one.1;
        long = ap length (same ∙ pair.again);
        state = Server Messages;
        is = subst (λ l. Listed view place w l text (Server Messages)) (same ∙ pair.again) (subst (λ k. Listed view place k f text (Server Messages)) (sym at)
            (record { line = has.line; reported = (has.is, sym (behind_plain pair.first f (same ∙ pair.whole) pair.other)); is = has.shows }));
        at = refl;
      }

  pub other : (start : ℕ) (bytes lines : List ℕ) → HasNoCopyBoth bytes → PlainLines view start bytes lines → Lines view start (Server Messages) bytes lines (Server Messages)
  other start bytes lines none listed =
      let all = replaced (PlainLine view) Without (Listed view) (λ s u w. w ≡ Server Messages) one_listed some_line some_without tt tt start 0 tt tt (Server Messages) bytes lines bytes bytes refl
      (in_order (PlainLine view) start tt tt bytes lines listed) (without bytes none) refl in
      subst (Lines view start (Server Messages) bytes lines) all.at (rows_again (Listed view) all.state start (Server Messages) bytes lines all.rows)
