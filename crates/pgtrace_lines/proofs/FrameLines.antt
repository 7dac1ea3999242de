-- The line of one frame.
use Rattle.pgtrace_lines.proofs.Common.{◌≡◌, ℕ, Bool, true, false, ◌-◌, ◌≤◌, List, [], ◌∷◌, ◌++◌, length, take, drop, Result, Ok, Err, refl, sym, ap, subst, ◌∙◌, arith, slice_index, append-nil, uint32, Error, Message, payload_of, Frame, frame_bytes, TakesFrame, Style, Length, Tag, closing, followed, opening, Says, called, inner_data, ShowsUnread, front, unread_name, name_of, replicates_behind, server_at, IsFrameOf, IsNamedLine, HasLine, ReportsFault}
use Rattle.pgtrace_lines.proofs.Parts.{front_taken}

-- what a line begins with, by the bytes of the frame
abbrev pub begun : Style → ℕ → List ℕ → List ℕ
begun style place bytes = followed style (opening style place) (Length (length bytes) ∷ Tag (slice_index bytes 0) ∷ [])

begun_is : (style : Style) (place : ℕ) (f : Frame) (bytes : List ℕ) → bytes ≡ frame_bytes f → begun style place bytes ≡ front style place f
begun_is style place f bytes e = ap (begun style place) e

pub frame_long : (f : Frame) (bytes : List ℕ) → bytes ≡ frame_bytes f → 5 ≤ length bytes
unfolding uint32
frame_long f bytes e = omega (arith, ap length e)

payload_behind : (f : Frame) → drop 5 (frame_bytes f) ≡ f.payload
unfolding uint32
payload_behind f = refl

-- the body of a message's frame
pub body_is : (bytes : List ℕ) (m : Message) → IsFrameOf bytes (Ok m) → drop 5 bytes ≡ payload_of m
body_is bytes m is = ap (drop 5) is.whole ∙ payload_behind is.first ∙ is.body.parts ∙ append-nil (payload_of m)

pub message_reported : (style : Style) (place : ℕ) (replicating : Bool) (bytes : List ℕ) (m : Message) (is : IsFrameOf bytes (Ok m)) (begins called_so said line name : List ℕ)
    → begins ≡ begun style place bytes → called_so ≡ followed style begins (called m ∷ []) → Says (inner_data replicating m) style m called_so said → line ≡ said ++ closing style ++ 10 ∷ [] → name ≡ name_of m → IsNamedLine style place replicating bytes line name
message_reported style place replicating bytes m is begins called_so said line name b n shows e named =
    let head = b ∙ begun_is style place is.first bytes is.whole in
    record {
      is = record {
        first = is.first;
        whole = is.whole;
        fits = is.fits;
        reported = record {
          result = Ok m;
          body = is.body;
          text = said;
          reported = subst (λ l. Says (inner_data replicating m) style m l said) (n ∙ ap (λ l. followed style l (called m ∷ [])) head) shows;
          ended = e;
        };
      };
      named = named;
    }

pub fault_ended : (style : Style) (place : ℕ) (bytes body : List ℕ) (e : Error) (begins said line : List ℕ)
    → begins ≡ begun style place bytes → body ≡ drop 5 bytes → ShowsUnread style (slice_index bytes 0) body e begins said → line ≡ said ++ closing style ++ 10 ∷ [] → ReportsFault style place bytes e line
fault_ended style place bytes body e begins said line b d shows end = record {
  text = said;
  shown = subst (λ l. ShowsUnread style (slice_index bytes 0) (drop 5 bytes) e l said) b (subst (λ l. ShowsUnread style (slice_index bytes 0) l e begins said) d shows);
  ended = end;
}

pub fault_reported : (style : Style) (place : ℕ) (replicating : Bool) (bytes : List ℕ) (r : Error) (is : IsFrameOf bytes (Err r)) (line name : List ℕ) → ReportsFault style place bytes r line → name ≡ unread_name (slice_index bytes 0) → IsNamedLine style place replicating bytes line name
fault_reported style place replicating bytes r is line name reports named =
    let f = is.first in
    let tag : slice_index bytes 0 ≡ f.tag = ap (λ l. slice_index l 0) is.whole in
    let body : drop 5 bytes ≡ f.payload = ap (drop 5) is.whole ∙ payload_behind f in
    let head = begun_is style place f bytes is.whole in
    record {
      is = record {
        first = f;
        whole = is.whole;
        fits = is.fits;
        reported = record {
          result = Err r;
          body = is.body;
          text = reports.text;
          reported = subst (λ k. ShowsUnread style k f.payload r (front style place f) reports.text) tag (subst (λ l. ShowsUnread style (slice_index bytes 0) l r (front style place f) reports.text) body
              (subst (λ l. ShowsUnread style (slice_index bytes 0) (drop 5 bytes) r l reports.text) head reports.shown));
          ended = reports.ended;
        };
      };
      named = named ∙ ap unread_name tag;
    }

-- the bytes before the rest are the frame that was taken
pub taken_frame : (old new : List ℕ) (r : Result Message Error) → TakesFrame old r new → IsFrameOf (take (length old - length new) old) r
taken_frame old new r t = record {
  first = t.first;
  whole = front_taken (frame_bytes t.first) new old t.whole;
  fits = t.fits;
  body = t.body;
}

-- the frame that was taken, where what stands after it is known by another name
pub record Taken (old rest frame : List ℕ) (r : Result Message Error) : Type 0 where
  pub takes : TakesFrame old r rest
  pub framed : IsFrameOf frame r

pub taken_here : (from old new rest frame : List ℕ) (r : Result Message Error) → from ≡ old → TakesFrame from r new → rest ≡ new → frame ≡ take (length old - length rest) old → Taken old rest frame r
taken_here from old new rest frame r e t f g =
    let here = subst (λ l. TakesFrame old r l) (sym f) (subst (λ l. TakesFrame l r new) e t) in
    record { takes = here; framed = subst (λ l. IsFrameOf l r) (sym g) (taken_frame old rest r here) }

-- and what has its line there has it here
pub line_here : (style : Style) (place : ℕ) (replicating now : Bool) (old new bytes line name : List ℕ) (r : Result Message Error) → TakesFrame old r new → bytes ≡ take (length old - length new) old → now ≡ replicates_behind replicating bytes
    → IsNamedLine style place replicating bytes line name → HasLine style place (server_at replicating) old new line (server_at now) name
line_here style place true now old new bytes line name r t e n has = record {
  frame = bytes;
  whole = t.whole ∙ ap (λ l. l ++ new) (sym (front_taken (frame_bytes t.first) new old t.whole) ∙ sym e);
  reported = (has.is, ap server_at n);
  named = has.named;
}
line_here style place false now old new bytes line name r t e n has = record {
  frame = bytes;
  whole = t.whole ∙ ap (λ l. l ++ new) (sym (front_taken (frame_bytes t.first) new old t.whole) ∙ sym e);
  reported = (has.is, ap server_at n);
  named = has.named;
}
