-- A step along a stream: a frame that was cut, and what its body says.
use Rattle.pgp_message.proofs.Common.{◌≡◌, ℕ, ◌-◌, ◌≤◌, List, ◌++◌, take, drop, Option, Some, Result, Ok, Err, refl, sym, ap, ◌∙◌, subst, MatchResult, IsOkAnd, Error, Message, Front, IsFront, front_frame, Frame, frame_bytes, IsFrame, BeginsWithKept, KeepsBytes, TakesFrame, Step, body_of, view, seen, parsed}
use Rattle.std.specs.Prelude.{◌≢◌}
use Rattle.bytes.proofs.Ranges.{drop-take_less}
use Rattle.pgp_base.specs.declared.error.Error.TheVariants as errors
use Rattle.pgp_message.specs.declared.message as code
use Rattle.pgp_message.proofs.Bodies.{body_is}

pub takes : (old new : List ℕ) (f : Frame) → old ≡ frame_bytes f ++ new → IsFrame f → TakesFrame old (body_of f.tag f.payload) new
takes old new f whole fits = record { first = f; whole = whole; fits = fits; body = body_is f.tag f.payload fits.payload }

-- a rejected body is a rejected step
refused : (lacks : Type 0) (old new : List ℕ) (e : Error) → TakesFrame old (Err e) new → Step lacks old (Err e) new
refused lacks old new errors.InvalidLength t = absurd t.body
refused lacks old new errors.OutOfMemory t = absurd t.body
refused lacks old new e t = t

found_here : {A : Type 0} (lacks : Type 0) (old new : List ℕ) (m : code.Message.Message A) (o : Option (code.Message.Message A)) → TakesFrame old (Ok (view m)) new → o ≡ Some m → Step lacks old (parsed (Ok o)) new
found_here {A} lacks old new m o t e = subst (λ (x : Option (code.Message.Message A)). Step lacks old (parsed (Ok x)) new) (sym e) t

-- a body's answer as the answer of a step
answers : {A : Type 0} (lacks : Type 0) (old new : List ℕ) (r : Result (code.Message.Message A) Error) (out : Result (Option (code.Message.Message A)) Error) → TakesFrame old (seen r) new
    → MatchResult r (λ m. IsOkAnd out (λ o. o ≡ Some m)) (λ e. out ≡ Err e) → Step lacks old (parsed out) new
answers lacks old new (Ok m) (Ok o) t e = found_here lacks old new m o t e
answers lacks old new (Ok m) (Err d) t e = absurd e
answers {A} lacks old new (Err e) out t is = subst (λ (x : Result (Option (code.Message.Message A)) Error). Step lacks old (parsed x) new) (sym is) (refused lacks old new e t)

-- where no memory is wanted, an error that isn't a length fault is that of a frame
pub taken_by : (old new : List ℕ) (e : Error) → e ≢ errors.InvalidLength → Step ⊥ old (Err e) new → TakesFrame old (Err e) new
taken_by old new errors.OutOfMemory q step = absurd step.1
taken_by old new errors.InvalidLength q step = absurd (q refl)
taken_by old new e q step = step

-- the front that was found is removed
pub steps : {A : Type 0} (lacks : Type 0) (old new : List ℕ) (f : Front) (r : Result (code.Message.Message A) Error) (out : Result (Option (code.Message.Message A)) Error)
    → IsFront f old → new ≡ drop f.total old → seen r ≡ body_of f.tag (drop 5 (take f.total old))
    → MatchResult r (λ m. IsOkAnd out (λ o. o ≡ Some m)) (λ e. out ≡ Err e) → Step lacks old (parsed out) new
steps {A} lacks old new f r out front rest read is =
    let taken : TakesFrame old (seen r) (drop f.total old) = subst (λ (x : Result Message Error). TakesFrame old x (drop f.total old)) (sym read) (takes old (drop f.total old) (front_frame f old) front.whole front.fits) in
    rw rest (answers lacks old (drop f.total old) r out taken is)

-- a complete frame stands there, whose message keeps bytes of it
pub begins : (old : List ℕ) (f : Front) → IsFront f old → KeepsBytes f.tag (drop 5 (take f.total old)) → BeginsWithKept old
begins old f front keeps = record { first = front_frame f old; rest = drop f.total old; whole = front.whole; fits = front.fits; keeps = keeps }

-- what stands after the header, as it is sliced
pub payload_of_front : (bytes old : List ℕ) (t : ℕ) → 5 ≤ t → bytes ≡ old → take (t - 5) (drop 5 bytes) ≡ drop 5 (take t old)
payload_of_front bytes old t least same = ap (λ l. take (t - 5) (drop 5 l)) same ∙ sym (drop-take_less old 5 t least)
