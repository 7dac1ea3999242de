-- Places grow by a frame.
use Rattle.pgp_uses.proofs.Common.{◌≡◌, ℕ, ◌+◌, ◌-◌, ◌<◌, List, [], ◌∷◌, ◌++◌, length, drop, Result, Bool, refl, sym, ap, subst, ◌∙◌, arith, append_assoc, flat_map, drop-append_seam, uint32, Error, Message, Frame, frame_bytes, IsEnding, Frames, TakesFrame}
use Rattle.std.specs.declared.ops.Range.{Range}
use Rattle.std.proofs.lemmas.List.{length-append}
use Rattle.std.proofs.lemmas.List.Concat.{flat_map-cons}
use Rattle.pgp_message.proofs.Runs.{each_push, pushed, bodies_push}
use Rattle.pgp_uses.specs.Recorder.{places_of, IsRecording}

abbrev pub place : ℕ → ℕ → Range ℕ
place start end = record { start = start; end = end }

nothing : (n : ℕ) → 0 + n ≡ n
nothing n = omega arith

-- the places of the frames that were read, of which `left` is left from `rest` on
pub record IsCut (bytes : List ℕ) (places : List (Range ℕ)) (rest : ℕ) (left : List ℕ) : Type 0 where
  pub results : List (Result Message Error)
  pub run : Frames bytes results left
  pub cut : places ≡ places_of 0 run.frames
  pub at : rest ≡ length (flat_map frame_bytes run.frames)

at_front : (g : Frame) (frames : List Frame) (at : ℕ) → (at + length (frame_bytes g)) + length (flat_map frame_bytes frames) ≡ at + length (flat_map frame_bytes (g ∷ frames))
at_front g frames at = omega (arith, ap length (flat_map-cons frame_bytes g frames), length-append (frame_bytes g) (flat_map frame_bytes frames))

places_push : (at : ℕ) (frames : List Frame) (f : Frame) → places_of at (frames ++ f ∷ []) ≡ places_of at frames ++ place (at + length (flat_map frame_bytes frames)) (at + length (flat_map frame_bytes frames) + length (frame_bytes f)) ∷ []
places_push at [] f =
    let same : at ≡ at + length (flat_map frame_bytes []) = omega arith in
    ap (λ n. place n (n + length (frame_bytes f)) ∷ []) same
places_push at (g ∷ frames) f =
    let start = at + length (frame_bytes g) in
    ap (λ l. place at start ∷ l) (places_push start frames f ∙ ap (λ n. places_of start frames ++ place n (n + length (frame_bytes f)) ∷ []) (at_front g frames at))

pub cut_none : (bytes : List ℕ) → IsCut bytes [] 0 bytes
cut_none bytes = record { results = []; run = record { frames = []; whole = refl; each = tt; bodies = tt }; cut = refl; at = refl }

pub cut_next : (bytes old new : List ℕ) (places after : List (Range ℕ)) (rest end : ℕ) (r : Result Message Error) → IsCut bytes places rest old → TakesFrame old r new → end ≡ length bytes - length new → after ≡ places ++ place rest end ∷ [] → IsCut bytes after end new
cut_next bytes old new places after rest end r all one ends grown =
    let frames = all.run.frames in
    let front = flat_map frame_bytes frames in
    let f = one.first in
    let whole : bytes ≡ (front ++ frame_bytes f) ++ new = all.run.whole ∙ ap (λ l. front ++ l) one.whole ∙ sym (append_assoc front (frame_bytes f) new) in
    let size : length front + length (frame_bytes f) ≡ end = omega (arith, ap length whole, length-append (front ++ frame_bytes f) new, length-append front (frame_bytes f), ends) in
    let pushes : places_of 0 (frames ++ f ∷ []) ≡ places_of 0 frames ++ place (length front) (length front + length (frame_bytes f)) ∷ [] = places_push 0 frames f ∙ ap (λ n. places_of 0 frames ++ place n (n + length (frame_bytes f)) ∷ []) (nothing (length front)) in
    record {
      results = all.results ++ r ∷ [];
      run = record {
        frames = frames ++ f ∷ [];
        whole = whole ∙ ap (λ l. l ++ new) (sym (pushed frames f));
        each = each_push frames f all.run.each one.fits;
        bodies = bodies_push frames all.results f r all.run.bodies one.body;
      };
      cut = grown ∙ (ap (λ l. l ++ place rest end ∷ []) all.cut ∙ (ap (λ n. places_of 0 frames ++ place rest n ∷ []) (sym size) ∙ (ap (λ n. places_of 0 frames ++ place n (length front + length (frame_bytes f)) ∷ []) all.at ∙ sym pushes)));
      at = sym size ∙ (sym (length-append front (frame_bytes f)) ∙ ap length (sym (pushed frames f)));
    }

pub cut_end : (bytes left : List ℕ) (places : List (Range ℕ)) (rest : ℕ) (stopped : Bool) → IsCut bytes places rest left → IsEnding stopped left → IsRecording bytes places stopped rest
cut_end bytes left places rest stopped all ending =
    let front = flat_map frame_bytes all.run.frames in
    let left_is : drop rest bytes ≡ left = ap (λ n. drop n bytes) all.at ∙ (ap (drop (length front)) all.run.whole ∙ drop-append_seam front left) in
    record {
      results = all.results;
      run = record {
        run = record { frames = all.run.frames; whole = all.run.whole ∙ ap (λ l. front ++ l) (sym left_is); each = all.run.each; bodies = all.run.bodies };
        ending = subst (IsEnding stopped) (sym left_is) ending;
      };
      cut = all.cut;
      within = omega (arith, all.at, ap length all.run.whole, length-append front left);
    }

pub shorter : (old new : List ℕ) (r : Result Message Error) → TakesFrame old r new → length new < length old
unfolding uint32
shorter old new r one = omega (arith, ap length one.whole, length-append one.first.payload new)
