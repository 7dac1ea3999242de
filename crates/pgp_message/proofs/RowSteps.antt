-- The row at the front of a stream: where it stands, and where none does.
use Rattle.pgp_message.proofs.Common.{◌≡◌, ℕ, Bool, List, take, drop, Result, Ok, Err, sym, ap, subst, ◌∙◌, IsBytes, Error, Message, DataRow, CountedBytes, Front, IsFront, front_frame, Finds, body_of, Frame, IsEnding, IsLengthFault, TakesFrame}
use Rattle.pgp_base.specs.declared.error.Error.TheVariants as errors
use Rattle.pgp_message.proofs.Bodies.{Found, found_body, one_body}
use Rattle.pgp_message.proofs.Runs.{front_is_one, no_ending}
use Rattle.pgp_message.proofs.Steps.{takes}

-- what is taken is what the body of the front comes to
pub one_step : (old x : List ℕ) (f : Front) (r : Result Message Error) → IsFront f old → TakesFrame old r x → body_of f.tag (drop 5 (take f.total old)) ≡ r
one_step old x f r front t =
    let same = front_is_one (front_frame f old) t.first (drop f.total old) x front.fits t.fits (sym front.whole ∙ t.whole) in
    ap (λ (g : Frame). body_of g.tag g.payload) same.0 ∙ one_body t.first.tag t.first.payload r t.fits.payload t.body

-- where the bytes begin with no complete frame, none is taken
pub none_taken : (old x : List ℕ) (stopped : Bool) (r : Result Message Error) → IsEnding stopped old → TakesFrame old r x → ⊥
none_taken old x stopped r ending t = no_ending t.first x stopped t.fits (subst (IsEnding stopped) t.whole ending)

-- a row has the tag of rows
pub row_tag : (tag : ℕ) (payload : List ℕ) (row : CountedBytes) → IsBytes payload → body_of tag payload ≡ Ok (DataRow row) → 0x44 ≡ tag
row_tag tag payload row bytes is = (subst (Found tag payload) is (found_body tag payload bytes)).tagged

-- the front is taken with what its body comes to
pub takes_front : (old new : List ℕ) (f : Front) (r : Result Message Error) → IsFront f old → new ≡ drop f.total old → body_of f.tag (drop 5 (take f.total old)) ≡ r → TakesFrame old r new
takes_front old new f r front rest read =
    let taken : TakesFrame old r (drop f.total old) = subst (λ (x : Result Message Error). TakesFrame old x (drop f.total old)) read (takes old (drop f.total old) (front_frame f old) front.whole front.fits) in
    subst (λ n. TakesFrame old r n) (sym rest) taken

-- where a front is rejected there is a length fault
pub fault_found : (bytes : List ℕ) (e : Error) → Finds bytes (Err e) → IsLengthFault bytes
fault_found bytes errors.InvalidLength finds = finds
fault_found bytes e finds = absurd finds
