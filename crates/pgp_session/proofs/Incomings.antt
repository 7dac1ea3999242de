-- The frame of a message that is taken in place.
use Rattle.pgp_session.proofs.Common.{◌≡◌, ℕ, ◌-◌, List, [], ◌++◌, length, take, drop, Option, Some, None, Result, Ok, Err, refl, sym, ap, subst, ◌∙◌, arith, true, false, option_map, append-nil, length-append, Error, Message, Frame, IsLengthFault, IsPartial, Step, TakesFrame, frame_bytes, parsed, view, HasFrame, Reads, take-append_seam, drop-append_seam}
use Rattle.pgp_base.specs.declared.error.Error.TheVariants as errors
use Rattle.pgp_message.specs.Reading.{body_of}
use Rattle.pgp_message.specs.declared.message as code
use Rattle.pgp_message.proofs.Bodies.{one_body}
use Rattle.pgp_message.proofs.Runs.{front_is_one, length-frame, no_ending}

before : (xs ys : List ℕ) → length (xs ++ ys) - length ys ≡ length xs
before xs ys = omega (arith, length-append xs ys)

said_by : Result Message Error → Option Message
said_by (Ok m) = Some m
said_by (Err e) = None

is_no_error : (m : Message) (e : Error) → Ok m ≡ Err e → ⊥
is_no_error m e same = cc

-- what stands before so many bytes at the end, and these
pub front_taken : (all xs ys : List ℕ) → all ≡ xs ++ ys → take (length all - length ys) all ≡ xs
front_taken all xs ys e = subst (λ l. take (length l - length ys) l ≡ xs) (sym e) (ap (λ n. take n (xs ++ ys)) (before xs ys) ∙ take-append_seam xs ys)

pub front_left : (all xs ys : List ℕ) → all ≡ xs ++ ys → drop (length all - length ys) all ≡ ys
front_left all xs ys e = subst (λ l. drop (length l - length ys) l ≡ ys) (sym e) (ap (λ n. drop n (xs ++ ys)) (before xs ys) ∙ drop-append_seam xs ys)

-- the frame that is taken, and what is left behind it
pub frame_there : (all rest : List ℕ) (m : Message) → TakesFrame all (Ok m) rest → Reads (take (length all - length rest) all) (Some m)
frame_there all rest m t = record { first = t.first; whole = front_taken all (frame_bytes t.first) rest t.whole ∙ sym (append-nil (frame_bytes t.first)); fits = t.fits; body = t.body }

pub rest_there : (all rest : List ℕ) (r : Result Message Error) → TakesFrame all r rest → drop (length all - length rest) all ≡ rest
rest_there all rest r t = front_left all (frame_bytes t.first) rest t.whole

-- ---- a frame that is read again

-- one message, and what stands behind it
one : (frame behind rest : List ℕ) (r : Result Message Error) (m : Message) → TakesFrame frame (Ok m) behind → TakesFrame frame r rest → (Ok m ≡ r) × (behind ≡ rest)
one frame behind rest r m f t =
    let same = front_is_one f.first t.first behind rest f.fits t.fits (sym f.whole ∙ t.whole) in
    let read = sym (one_body f.first.tag f.first.payload (Ok m) f.fits.payload f.body) ∙ ap (λ (g : Frame). body_of g.tag g.payload) same.0 ∙ one_body t.first.tag t.first.payload r t.fits.payload t.body in
    (read, same.1)

none : (rest : List ℕ) (r : Result Message Error) → TakesFrame [] r rest → ⊥
none rest r t = omega (arith, ap length t.whole, length-frame t.first rest)

pub one_message : (frame : List ℕ) (a b : Option Message) → Reads frame a → Reads frame b → a ≡ b
unfolding said_by
one_message frame None None p q = refl
one_message frame None (Some m) p q = absurd (none [] (Ok m) (subst (λ l. TakesFrame l (Ok m) []) p q))
one_message frame (Some m) None p q = absurd (none [] (Ok m) (subst (λ l. TakesFrame l (Ok m) []) q p))
one_message frame (Some m) (Some n) p q = ap said_by (one frame [] [] (Ok n) m p q).0

taken_again : (frame rest : List ℕ) (m : Message) → HasFrame frame → TakesFrame frame (Ok m) rest → Reads frame (Some m)
taken_again frame rest m (None, empty) t = absurd (none rest (Ok m) (subst (λ l. TakesFrame l (Ok m) rest) empty t))
taken_again frame rest m (Some k, f) t = subst (λ l. TakesFrame frame (Ok m) l) (sym (one frame [] rest (Ok m) k f t).1) t

-- where no message is read there are no bytes
nothing : (frame : List ℕ) → HasFrame frame → ((m : Message) → TakesFrame frame (Ok m) [] → ⊥) → Reads frame None
nothing frame (None, empty) not = empty
nothing frame (Some m, f) not = absurd (not m f)

pub read_again : {A : Type 0} (frame rest : List ℕ) (o : Option (code.Message.Message A)) → HasFrame frame → Step ⊥ frame (parsed (Ok o)) rest → Reads frame (option_map view o)
read_again frame rest None has s = nothing frame has (λ m f. no_ending f.first [] false f.fits (subst IsPartial f.whole s.0))
read_again frame rest (Some m) has s = taken_again frame rest (view m) has s

other : (frame rest : List ℕ) (e : Error) → TakesFrame frame (Err e) rest → HasFrame frame → Reads frame None
other frame rest e t has = nothing frame has (λ m f. is_no_error m e (one frame [] rest (Err e) m f t).0)

pub not_read : (frame rest : List ℕ) (e : Error) → HasFrame frame → Step ⊥ frame (Err e) rest → Reads frame None
not_read frame rest errors.InvalidLength has s = nothing frame has (λ m f. no_ending f.first [] true f.fits (subst IsLengthFault f.whole s.0))
not_read frame rest errors.OutOfMemory has s = absurd s.1
not_read frame rest e has s = other frame rest e s has

-- where the first frame isn't read, no message stands there
pub no_message : (all rest behind : List ℕ) (e : Error) (m : Message) → Step ⊥ all (Err e) rest → TakesFrame all (Ok m) behind → ⊥
no_message all rest behind errors.InvalidLength m s f = no_ending f.first behind true f.fits (subst IsLengthFault f.whole s.0)
no_message all rest behind errors.OutOfMemory m s f = absurd s.1
no_message all rest behind e m s f = is_no_error m e (one all behind rest (Err e) m f s).0
