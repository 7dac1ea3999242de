-- What a frame is read as, and what holds of that.
use Rattle.pgtrace_session.proofs.Common.{◌≡◌, ◌≢◌, ℕ, ◌==◌, Bool, true, false, not, get_or, List, [], length, Option, Some, None, Result, Ok, Err, refl, sym, ap, subst, ◌∙◌, arith, IfOk, append-nil, Error, Message, IsEnding, Step, TakesFrame, frame_bytes, front_is_one, length-frame, no_ending, ClientMessage, step_of, ClientError, step_one, Style, IsFrameOf, Client, Server, Noted, Told, noted_by, Numbers, role_by, places, sent_in, Heard, Learns, Said, Sent, ShowsTyped, Unsaid, Passes, Reads, ReadsSo, Tells, lost, Types, Authentication, Nothing, asks, one_read, notes_nothing, false≢true}
use Rattle.pgp_message.specs.BackendMessage.{tag_of}
use Rattle.pgp_base.specs.declared.error.Error.TheVariants as errors
use Rattle.pgp_frontend.specs.ClientMessage.{PasswordKind}
use Rattle.pgp_frontend_read.specs.Step as client
use Rattle.pgtrace_session.specs.declared.placement.Told.TheVariants as told

-- ---- a server's frame has one result

frame_read : (frame rest : List ℕ) (r s : Result Message Error) → IsFrameOf frame r → TakesFrame frame s rest → r ≡ s
frame_read frame rest r s a b =
    let one = front_is_one a.first b.first [] rest a.fits b.fits (append-nil (frame_bytes a.first) ∙ sym a.whole ∙ b.whole) in
    one_read a.first b.first r s a.fits one.0 a.body b.body

pub same_read : (frame : List ℕ) (r s : Result Message Error) → IsFrameOf frame r → IsFrameOf frame s → r ≡ s
same_read frame r s a b = frame_read frame [] r s a (record { first = b.first; whole = b.whole ∙ sym (append-nil (frame_bytes b.first)); fits = b.fits; body = b.body })

never_ends : (frame : List ℕ) (r : Result Message Error) (stopped : Bool) → IsFrameOf frame r → IsEnding stopped frame → ⊥
never_ends frame r stopped is ends = no_ending is.first [] stopped is.fits (subst (IsEnding stopped) (is.whole ∙ sym (append-nil (frame_bytes is.first))) ends)

long : (frame rest : List ℕ) (r : Result Message Error) → TakesFrame frame r rest → length frame ≡ 1 → ⊥
long frame rest r t e = absurd (omega (arith, e, ap length t.whole, length-frame t.first rest))

abbrev IsRead : Result Message Error → Type 0
IsRead (Ok m) = Unit {0}
IsRead (Err e) = ⊥

pub short : (frame : List ℕ) (r : Result Message Error) → IsFrameOf frame r → length frame ≡ 1 → ⊥
short frame r is e = absurd (omega (arith, e, ap length is.whole, ap length (append-nil (frame_bytes is.first)), length-frame is.first []))

taken_fault : (frame new : List ℕ) (e : Error) (m : Message) → TakesFrame frame (Err e) new → IsFrameOf frame (Ok m) → ⊥
taken_fault frame new e m takes is = subst IsRead (frame_read frame new (Ok m) (Err e) is takes) tt

fault_none : (frame new : List ℕ) (e : Error) → Step ⊥ frame (Err e) new → (m : Message) → IsFrameOf frame (Ok m) → ⊥
fault_none frame new errors.InvalidLength step m is = never_ends frame (Ok m) true is step.0
fault_none frame new errors.OutOfMemory step m is = absurd step.1
fault_none frame new e step m is = taken_fault frame new e m step is

-- ---- and so has a client's

-- no message
abbrev pub IsUnread : Said → Type 0
IsUnread (Heard (Ok m)) = ⊥
IsUnread (Heard (Err e)) = Unit {0}
IsUnread (Sent (Ok m)) = ⊥
IsUnread (Sent (Err e)) = Unit {0}
IsUnread Unsaid = Unit {0}

abbrev message_sent : ClientMessage → Result (Option ClientMessage) ClientError → ClientMessage
message_sent d (Ok (Some m)) = m
message_sent d r = d

abbrev IsSent : Result (Option ClientMessage) ClientError → Type 0
IsSent (Ok (Some m)) = Unit {0}
IsSent r = ⊥

abbrev IsRefused : Result (Option ClientMessage) ClientError → Type 0
IsRefused (Err e) = Unit {0}
IsRefused r = ⊥

module _ (kind : PasswordKind) (here new there : client.Unread) where
  pub sent_one : (m k : ClientMessage) → client.Step kind here (Ok (Some m)) new → client.Step kind here (step_of (Ok k)) there → m ≡ k
  sent_one m k a b = ap (message_sent m) (step_one kind here new there (Ok (Some m)) (step_of (Ok k)) a b).0

  pub sent_fault : (m : ClientMessage) (e : ClientError) → client.Step kind here (Ok (Some m)) new → client.Step kind here (step_of (Err e)) there → ⊥
  sent_fault m e a b = subst IsSent (step_one kind here new there (Ok (Some m)) (step_of (Err e)) a b).0 tt

  pub none_sent : (r : Result ClientMessage ClientError) → client.Step kind here (Ok None) new → client.Step kind here (step_of r) there → ⊥
  none_sent (Ok k) a b = subst IsSent (sym (step_one kind here new there (Ok None) (step_of (Ok k)) a b).0) tt
  none_sent (Err e) a b = subst IsRefused (sym (step_one kind here new there (Ok None) (step_of (Err e)) a b).0) tt

-- what holds of the reading that was met holds of each

module _ (P : Said → Type 0) (opened : Bool) (kind : PasswordKind) (frame : List ℕ) where
  pub answer_all : length frame ≡ 1 → P Unsaid → (said : Said) → ReadsSo Server opened kind frame said → P said
  answer_all e p (Heard r) is = absurd (short frame r is e)
  answer_all e p Unsaid is = p
  answer_all e p (Sent r) is = absurd is

  pub heard_all : (rest : List ℕ) (m : Message) → TakesFrame frame (Ok m) rest → P (Heard (Ok m)) → (said : Said) → ReadsSo Server opened kind frame said → P said
  heard_all rest m takes p (Heard r) is = subst (λ s. P (Heard s)) (sym (frame_read frame rest r (Ok m) is takes)) p
  heard_all rest m takes p Unsaid is = absurd (long frame rest (Ok m) takes is)
  heard_all rest m takes p (Sent r) is = absurd is

  pub none_all : (new : List ℕ) → Step ⊥ frame (Ok None) new → (length frame ≡ 1 → ⊥) → (said : Said) → ReadsSo Server opened kind frame said → P said
  none_all new step some (Heard r) is = absurd (never_ends frame r false is step.0)
  none_all new step some Unsaid is = absurd (some is)
  none_all new step some (Sent r) is = absurd is

  pub fault_all : (new : List ℕ) (e : Error) → Step ⊥ frame (Err e) new → (length frame ≡ 1 → ⊥) → ((d : Error) → P (Heard (Err d))) → (said : Said) → ReadsSo Server opened kind frame said → P said
  fault_all new e step some p (Heard (Ok m)) is = absurd (fault_none frame new e step m is)
  fault_all new e step some p (Heard (Err d)) is = p d
  fault_all new e step some p Unsaid is = absurd (some is)
  fault_all new e step some p (Sent r) is = absurd is

  pub sent_all : (new : client.Unread) (m : ClientMessage) → client.Step kind (record { bytes = frame; opened = opened }) (Ok (Some m)) new → P (Sent (Ok m)) → (said : Said) → ReadsSo Client opened kind frame said → P said
  sent_all new m step p (Sent (Ok k)) is = subst (λ x. P (Sent (Ok x))) (sent_one kind (record { bytes = frame; opened = opened }) new (record { bytes = []; opened = is.0 }) m k step is.1) p
  sent_all new m step p (Sent (Err e)) is = absurd (sent_fault kind (record { bytes = frame; opened = opened }) new (record { bytes = []; opened = is.0 }) m e step is.1)
  sent_all new m step p (Heard r) is = absurd is
  sent_all new m step p Unsaid is = absurd is

  pub silent_all : (new : client.Unread) → client.Step kind (record { bytes = frame; opened = opened }) (Ok None) new → (said : Said) → ReadsSo Client opened kind frame said → P said
  silent_all new step (Sent r) is = absurd (none_sent kind (record { bytes = frame; opened = opened }) new (record { bytes = []; opened = is.0 }) r step is.1)
  silent_all new step (Heard r) is = absurd is
  silent_all new step Unsaid is = absurd is

  pub refused_all : (new : client.Unread) (e : ClientError) → client.Step kind (record { bytes = frame; opened = opened }) (Err e) new → ((d : ClientError) → P (Sent (Err d))) → (said : Said) → ReadsSo Client opened kind frame said → P said
  refused_all new e step p (Sent (Ok k)) is = absurd (subst IsRefused (step_one kind (record { bytes = frame; opened = opened }) new (record { bytes = []; opened = is.0 }) (Err e) (step_of (Ok k)) step is.1).0 tt)
  refused_all new e step p (Sent (Err d)) is = p d
  refused_all new e step p (Heard r) is = absurd is
  refused_all new e step p Unsaid is = absurd is

-- ---- what isn't read

learns_lost : (told : Told) (said : Said) (old new : Option Types) → IsUnread said → new ≡ lost told old → Learns told said old new
learns_lost (told.Number n) (Sent (Ok m)) old new none e = absurd none
learns_lost (told.Answer n s t) (Heard (Ok m)) old new none e = absurd none
learns_lost told said old new none e = e

shows_none : (style : Style) (place len : ℕ) (told : Told) (said : Said) (types : Option Types) (line : List ℕ) → IsUnread said → ShowsTyped style place len told said types line line
shows_none style place len (told.Number n) (Sent (Ok m)) types line none = absurd none
shows_none style place len (told.Answer n s t) (Heard (Ok m)) types line none = absurd none
shows_none style place len told said types line none = refl

pub passed_tells : (frame : List ℕ) (said : Said) (from to : Option Numbers) (old new : Option Types) (told : Told) (noted : Noted) → IsUnread said → sent_in said ≡ None → noted ≡ noted_by said
    → Passes (role_by frame said) from to old new told → Tells frame said from to old new told noted
passed_tells frame said from to old new told noted none asks expects p = record {
  placed = ap (λ m. places (role_by frame said) m from) asks ∙ p.placed;
  learns = learns_lost told said old new none p.learns;
  expects = expects;
}

pub passed_reads : (style : Style) (place : ℕ) (frame : List ℕ) (said : Said) (from to : Option Numbers) (old new : Option Types) (line : List ℕ) (told : Told) (noted : Noted) → IsUnread said → sent_in said ≡ None → noted ≡ noted_by said
    → Passes (role_by frame said) from to old new told → Reads style place frame said from to old new line line told noted
passed_reads style place frame said from to old new line told noted none asks expects p = record {
  tells = passed_tells frame said from to old new told noted none asks expects p;
  shows = shows_none style place (length frame) told said new line none;
}

-- ---- what isn't looked at

asks_none : (m : Message) → tag_of m ≢ 82 → asks m ≡ Nothing
asks_none (Authentication request) other = absurd (other refl)
asks_none m other = refl

silent : (frame : List ℕ) (r : Result Message Error) → IsFrameOf frame r → get_or frame 0 0 ≢ 82 → noted_by (Heard r) ≡ Nothing
silent frame (Ok m) is other = asks_none m (λ e. other (ap (λ l. get_or l 0 0) is.whole ∙ sym is.body.tagged ∙ e))
silent frame (Err e) is other = refl

pub unnoted_reads : (style : Style) (place : ℕ) (opened : Bool) (kind : PasswordKind) (frame : List ℕ) (numbers : Option Numbers) (types : Option Types) (line : List ℕ) → notes_nothing numbers frame ≡ true → (length frame ≡ 1 → ⊥)
    → (said : Said) → ReadsSo Server opened kind frame said → Reads style place frame said numbers numbers types types line line told.Uncounted Nothing
unnoted_reads style place opened kind frame (Some n) types line plain some said is = absurd (false≢true plain)
unnoted_reads style place opened kind frame None types line plain some (Heard r) is = record {
  tells = record { placed = refl; learns = refl; expects = sym (silent frame r is (λ e. false≢true (ap (λ n. not (n == 82)) (sym e) ∙ plain))) };
  shows = refl;
}
unnoted_reads style place opened kind frame None types line plain some Unsaid is = absurd (some is)
unnoted_reads style place opened kind frame None types line plain some (Sent r) is = absurd is

-- ---- what a call returns

pub if_ok : {T E : Type 0} {P Q : T → Type 0} (r : Result T E) → ((x : T) → P x → Q x) → IfOk r P → IfOk r Q
if_ok (Ok x) f p = f x p
if_ok (Err e) f p = tt
