-- Frames that are found at the front of bytes, and read there.
use Rattle.pgp_message.proofs.Common.{◌≡◌, ℕ, ◌+◌, ◌-◌, ◌^◌, ◌<◌, ◌≤◌, min, List, [], ◌∷◌, ◌++◌, length, get_or, take, drop, Option, Some, None, Result, refl, sym, ap, subst, ◌∙◌, append_assoc, arith, IfSome, flat_map, AllByRecursion, take-append_seam, drop-append_seam, append-nil, drop-drop, length-take, flat_map-cons, IsBytes, Error, Message, Found, FindsFrames, FindsAll, AreFrames, TakesEach, TakesSome, TakesOnto, Front, IsFront, announced, front_frame, body_of, Memory, header_of, count_of, Frame, frame_bytes, IsFrame, IsEnding, Frames, BeginsWithFrame, TakesFrame}
use Rattle.std.proofs.lemmas.List.{length-append}
use Rattle.pgp_message.proofs.Cuts.{cut, found}
use Rattle.pgp_message.proofs.Runs.{each_push, pushed, front_is_one, frames_none, frames_next, announced_frame, length-frame}
use Rattle.pgp_message.proofs.Steps.{takes, payload_of_front}

-- ---- found

-- frames were found, and the rest is still to be read
pub record Finding (bytes rest : List ℕ) (n : ℕ) : Type 0 where
  pub frames : List Frame
  pub whole : bytes ≡ flat_map frame_bytes frames ++ rest
  pub each : AllByRecursion IsFrame frames
  pub count : n ≡ length frames

pub finding_none : (bytes : List ℕ) → Finding bytes bytes 0
finding_none bytes = record { frames = []; whole = refl; each = tt; count = refl }

pub finding_more : (bytes rest new : List ℕ) (count : ℕ) (f : Front) → Finding bytes rest count → IsFront f rest → new ≡ drop f.total rest → Finding bytes new (count + 1)
finding_more bytes rest new count f so_far front left =
    let frame = front_frame f rest in
    let fs = flat_map frame_bytes so_far.frames in
    let whole : rest ≡ frame_bytes frame ++ new = front.whole ∙ ap (λ l. frame_bytes frame ++ l) (sym left) in
    record {
      frames = so_far.frames ++ frame ∷ [];
      whole = so_far.whole ∙ ap (λ l. fs ++ l) whole ∙ sym (append_assoc fs (frame_bytes frame) new) ∙ ap (λ l. l ++ new) (sym (pushed so_far.frames frame));
      each = each_push so_far.frames frame so_far.each front.fits;
      count = omega (arith, so_far.count, length-append so_far.frames (frame ∷ []));
    }

-- each frame takes bytes
frames_take : (frames : List Frame) → length frames ≤ length (flat_map frame_bytes frames)
frames_take [] = omega arith
frames_take (f ∷ frames) =
    let cons : length (flat_map frame_bytes (f ∷ frames)) ≡ length (frame_bytes f ++ flat_map frame_bytes frames) = ap length (flat_map-cons frame_bytes f frames) in
    omega (arith, cons, length-frame f (flat_map frame_bytes frames), frames_take frames)

pub finding_within : (bytes rest : List ℕ) (count : ℕ) → Finding bytes rest count → count + length rest ≤ length bytes
finding_within bytes rest count so_far = omega (arith, so_far.count, frames_take so_far.frames, ap length so_far.whole, length-append (flat_map frame_bytes so_far.frames) rest)

pub finds_frames : (bytes rest : List ℕ) (found : Found) → Finding bytes rest found.count → IsEnding found.stopped rest → found.len ≡ length bytes - length rest → FindsFrames bytes found
finds_frames bytes rest found so_far ending is =
    let fs = flat_map frame_bytes so_far.frames in
    let len : found.len ≡ length fs = omega (arith, is, ap length so_far.whole, length-append fs rest) in
    let front : take found.len bytes ≡ fs = ap (λ j. take j bytes) len ∙ ap (take (length fs)) so_far.whole ∙ take-append_seam fs rest in
    let behind : drop found.len bytes ≡ rest = ap (λ j. drop j bytes) len ∙ ap (drop (length fs)) so_far.whole ∙ drop-append_seam fs rest in
    record {
      within = omega (arith, is);
      front = record { frames = so_far.frames; whole = front; each = so_far.each; count = so_far.count };
      ending = subst (IsEnding found.stopped) (sym behind) ending;
    }

pub found_within : (bytes : List ℕ) (found : Found) → FindsFrames bytes found → found.count ≤ length bytes
found_within bytes found all = omega (arith, all.front.count, frames_take all.front.frames, ap length all.front.whole, length-take found.len bytes)

pub count_one : (header : Option (ℕ × ℕ)) → count_of header ≤ 1
count_one None = omega arith
count_one (Some header) = omega arith

-- a header that is remembered is that of the first frame, or of what stands after no frame
known_of : (frames : List Frame) (bytes : List ℕ) (len : ℕ) (known : Option (ℕ × ℕ)) → take len bytes ≡ flat_map frame_bytes frames → len ≤ length bytes → IfSome known (λ h. header_of bytes ≡ Some h)
    → count_of known ≤ length frames + count_of (header_of (drop len bytes))
known_of (f ∷ frames) bytes len known front within fits = omega (arith, count_one known)
known_of [] bytes len None front within fits = omega arith
known_of [] bytes len (Some h) front within fits =
    let none : len ≡ 0 = omega (arith, ap length front, length-take len bytes, within) in
    omega (arith, ap count_of (ap (λ j. header_of (drop j bytes)) none ∙ fits))

pub known_counts : (bytes : List ℕ) (known behind : Option (ℕ × ℕ)) (found : Found) → FindsFrames bytes found → behind ≡ header_of (drop found.len bytes) → IfSome known (λ h. header_of bytes ≡ Some h) → count_of known ≤ found.count + count_of behind
known_counts bytes known behind found all is fits = omega (arith, known_of all.front.frames bytes found.len known all.front.whole all.within fits, all.front.count, ap count_of is)

pub finds_all : (bytes : List ℕ) (old new : Memory) (found : Found) (read : ℕ) → FindsFrames bytes found → new.header ≡ header_of (drop found.len bytes) → read ≡ found.count + count_of new.header - count_of old.header
    → count_of old.header ≤ found.count + count_of new.header → (old.headers < 2 ^ 64 → new.headers ≡ min (old.headers + read) (2 ^ 64 - 1)) → FindsAll bytes old new found
finds_all bytes old new found read finds header is most counted = record { finds = finds; header = header; read = read; one_each = omega (arith, is, most); counted = counted }

-- ---- read

pub begins_long : (bytes : List ℕ) → BeginsWithFrame bytes → 5 ≤ length bytes
begins_long bytes b = omega (arith, ap length b.whole, length-frame b.first b.rest)

-- the frame that the bytes begin with is the one that its header says
pub front_begins : (bytes : List ℕ) (tag total : ℕ) → IsBytes bytes → BeginsWithFrame bytes → tag ≡ get_or bytes 0 0 → total ≡ announced bytes + 1 → IsFront (record { tag = tag; total = total }) bytes
front_begins bytes tag total each b tag_is total_is =
    let is : announced bytes ≡ length b.first.payload + 4 = ap announced b.whole ∙ announced_frame b.first b.rest b.fits in
    let len = ap length b.whole ∙ length-frame b.first b.rest in
    found bytes (announced bytes) tag total (cut bytes (announced bytes) each (omega (arith, is, b.fits.fits)) refl (omega (arith, is)) (omega (arith, is, len))) tag_is total_is

-- the bytes begin with the first of the frames
pub frames_begin : (bytes : List ℕ) (n : ℕ) → AreFrames bytes n → 0 < n → BeginsWithFrame bytes
frames_begin bytes n are some = begin are.frames are.whole are.each are.count
  where
    begin : (frames : List Frame) → bytes ≡ flat_map frame_bytes frames → AllByRecursion IsFrame frames → n ≡ length frames → BeginsWithFrame bytes
    begin [] whole each count = absurd (omega (arith, some, count))
    begin (f ∷ frames) whole each count = record { first = f; rest = flat_map frame_bytes frames; whole = whole ∙ flat_map-cons frame_bytes f frames; fits = each.0 }

-- after it are the others
pub frames_left : (bytes new : List ℕ) (n : ℕ) (r : Result Message Error) → AreFrames bytes n → 0 < n → TakesFrame bytes r new → AreFrames new (n - 1)
frames_left bytes new n r are some one = behind are.frames are.whole are.each are.count
  where
    behind : (frames : List Frame) → bytes ≡ flat_map frame_bytes frames → AllByRecursion IsFrame frames → n ≡ length frames → AreFrames new (n - 1)
    behind [] whole each count = absurd (omega (arith, some, count))
    behind (f ∷ frames) whole each count =
        let same = front_is_one f one.first (flat_map frame_bytes frames) new each.0 one.fits (sym (flat_map-cons frame_bytes f frames) ∙ sym whole ∙ one.whole) in
        record { frames = frames; whole = sym same.1; each = each.1; count = omega (arith, count) }

-- there are frames where there are bytes
pub frames_some : (bytes : List ℕ) (n : ℕ) → AreFrames bytes n → 0 < length bytes → 0 < n
frames_some bytes n are some = count are.frames are.whole are.count
  where
    count : (frames : List Frame) → bytes ≡ flat_map frame_bytes frames → n ≡ length frames → 0 < n
    count [] whole is = absurd (omega (arith, some, ap length whole))
    count (f ∷ frames) whole is = omega (arith, is)

no_frames : (bytes : List ℕ) (n : ℕ) → AreFrames bytes n → length bytes ≡ 0 → (bytes ≡ []) × (n ≡ 0)
no_frames bytes n are empty = none are.frames are.whole are.count
  where
    none : (frames : List Frame) → bytes ≡ flat_map frame_bytes frames → n ≡ length frames → (bytes ≡ []) × (n ≡ 0)
    none [] whole is = (whole, is)
    none (f ∷ frames) whole is = absurd (omega (arith, empty, ap length whole, ap length (flat_map-cons frame_bytes f frames), length-frame f (flat_map frame_bytes frames)))

-- some frames were read, and so many are left
pub record Taking (all now : List ℕ) (n left : ℕ) (before mid : List (Result Message Error)) : Type 0 where
  pub more : List (Result Message Error)
  pub grown : mid ≡ before ++ more
  pub frames : Frames all more now
  pub count : length more + left ≡ n
  pub behind : AreFrames now left

pub taking_none : (all : List ℕ) (n : ℕ) (before mid : List (Result Message Error)) → AreFrames all n → mid ≡ before → Taking all all n n before mid
taking_none all n before mid are same = record { more = []; grown = same ∙ sym (append-nil before); frames = frames_none all; count = omega arith; behind = are }

pub taking_more : (all now new : List ℕ) (n left : ℕ) (before mid after : List (Result Message Error)) → Taking all now n left before mid → 0 < left → TakesOnto now new mid after → Taking all new n (left - 1) before after
taking_more all now new n left before mid after t some one = record {
  more = t.more ++ one.result ∷ [];
  grown = one.grown ∙ ap (λ l. l ++ one.result ∷ []) t.grown ∙ append_assoc before t.more (one.result ∷ []);
  frames = frames_next all now new t.more one.result t.frames one.takes;
  count = omega (arith, length-append t.more (one.result ∷ []), t.count, some);
  behind = frames_left now new left one.result t.behind some one.takes;
}

pub takes_none : (bytes : List ℕ) (before after : List (Result Message Error)) → after ≡ before → TakesSome bytes before after
takes_none bytes before after same = record { more = []; grown = same ∙ sym (append-nil before); left = bytes; frames = frames_none bytes }

pub taking_some : (all now : List ℕ) (n left : ℕ) (before mid after : List (Result Message Error)) → Taking all now n left before mid → after ≡ mid → TakesSome all before after
taking_some all now n left before mid after t same = record { more = t.more; grown = same ∙ t.grown; left = now; frames = t.frames }

pub taking_all : (all now : List ℕ) (n left : ℕ) (before mid : List (Result Message Error)) → Taking all now n left before mid → length now ≡ 0 → TakesEach all n before mid
taking_all all now n left before mid t empty =
    let none = no_frames now left t.behind empty in
    record { more = t.more; grown = t.grown; frames = subst (λ l. Frames all t.more l) none.0 t.frames; count = omega (arith, t.count, none.1) }

-- its payload, as it is sliced
pub payload_at : (bytes all : List ℕ) (at t : ℕ) → 5 ≤ t → bytes ≡ all → take (at + t - (at + 5)) (drop (at + 5) bytes) ≡ drop 5 (take t (drop at all))
payload_at bytes all at t least same =
    let less : at + t - (at + 5) ≡ t - 5 = omega (arith, least) in
    ap (λ n. take n (drop (at + 5) bytes)) less ∙ ap (take (t - 5)) (sym (drop-drop 5 at bytes)) ∙ payload_of_front (drop at bytes) (drop at all) t least (ap (drop at) same)

-- a frame's body was read, and joined the list
pub takes_onto : (old new payload : List ℕ) (f : Front) (before mid after : List (Result Message Error)) → IsFront f old → new ≡ drop f.total old → payload ≡ drop 5 (take f.total old)
    → mid ≡ before → after ≡ mid ++ body_of f.tag payload ∷ [] → TakesOnto old new before after
takes_onto old new payload f before mid after front rest cut same grown =
    let read : body_of f.tag payload ≡ body_of f.tag (drop 5 (take f.total old)) = ap (body_of f.tag) cut in
    record {
      result = body_of f.tag payload;
      takes = subst (λ (x : Result Message Error). TakesFrame old x new) (sym read) (subst (λ l. TakesFrame old (body_of f.tag (drop 5 (take f.total old))) l) (sym rest) (takes old (drop f.total old) (front_frame f old) front.whole front.fits));
      grown = grown ∙ ap (λ l. l ++ body_of f.tag payload ∷ []) same;
    }
