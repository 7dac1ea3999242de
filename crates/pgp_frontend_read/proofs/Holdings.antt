-- What a parser holds of a message that comes in pieces, and what a call returns of it.
use Rattle.pgp_frontend_read.proofs.Common.{◌≡◌, ◌≢◌, ℕ, ◌+◌, ◌<◌, ◌≤◌, Bool, true, false, List, [], ◌++◌, length, take, drop, Option, Some, None, Result, Ok, Err, refl, sym, ap, subst, ◌∙◌, append_assoc, arith, inl, inr, length-append, length-take, ◌⊎◌, nat_le, IfOk, IfSome, IsErrAnd, cases_Bool, nat_tests, append-nil, take_all, drop_all, take_at, take-append-le, take-append-drop, InvalidLength, IsPartial, place, Waiting, IsWithin, IsWhole, HandsOut, Parses, header, HasSize, IsWanted, wanted, is_whole, Fits, Sizes, Fills, IsLeft, IsFrameOf, Opens, StandsInPiece, TakesOff, Holds, Completes, ClientFrame, Limits, ParserError}
use Rattle.pgp_frontend_read.specs.declared.parser_error.ParserError.TheVariants.{OutOfMemory}
use Rattle.pgp_frontend_read.proofs.Fronts.{behind_length}
use Rattle.pgp_frontend_read.proofs.Handing.{refused_behind, hands_out}
use Rattle.pgp_frontend_read.proofs.Headers.{size_front, size_least, partial_cut, held_most}
use Rattle.pgp_frontend_read.proofs.Steps.{left, step_fault}

abbrev pub waiting : List ℕ → Bool → Limits → Waiting
waiting bytes opened limits = record { bytes = bytes; opened = opened; limits = limits }

-- an error that is handed on
pub refused : {T E : Type 0} (r : Result T E) (x : E) → IsErrAnd r (λ e. e ≡ x) → r ≡ Err x
refused (Ok y) x h = absurd h
refused {T} {E} (Err e) x h = let err : E → Result T E = λ d. Err d in ap err h

-- ---- what is moved

all_moved : (size : ℕ) (held piece new rest : List ℕ) → Fills size held piece new rest → new ++ rest ≡ held ++ piece
all_moved size held piece new rest f =
    ap (λ l. l ++ rest) f.grown ∙ ap (λ l. (held ++ take f.moved piece) ++ l) f.rest ∙ append_assoc held (take f.moved piece) (drop f.moved piece) ∙ ap (λ l. held ++ l) (take-append-drop f.moved piece)

module _ (size : ℕ) (held piece new rest : List ℕ) (f : Fills size held piece new rest) (all : length piece ≤ f.moved) where
  all_held : new ≡ held ++ piece
  all_held = f.grown ∙ ap (λ l. held ++ l) (take_all f.moved piece all)

  none_left : rest ≡ []
  none_left = f.rest ∙ drop_all f.moved piece all

new_length : (size : ℕ) (held piece new rest : List ℕ) (f : Fills size held piece new rest) → length new ≡ length held + f.moved
new_length size held piece new rest f = omega (arith, ap length f.grown, length-append held (take f.moved piece), length-take f.moved piece, f.there)

pub hold_done : (lacks : Type 0) (opened : Bool) (size : Option ℕ) (held piece new rest : List ℕ) → Fits opened held → IsWanted opened (held ++ piece) size → Fills (wanted opened size) held piece new rest
    → Holds lacks size held piece (Ok (is_whole (length new) size)) new rest
hold_done lacks opened None held piece new rest fits short f =
    let moved : length piece ≤ f.moved = elim f.done [
      | inl most ↦ absurd (omega (arith, most, f.there, short, length-append held piece))
      | inr all ↦ omega (arith, all)
    ] in
    (all_held (header opened) held piece new rest f moved, none_left (header opened) held piece new rest f moved, λ n e. let k : None ≡ Some n = e in cc)
hold_done lacks opened (Some n) held piece new rest fits h f =
    let len = new_length n held piece new rest f in
    let most : length held ≤ n = held_most opened held piece n fits h in
    elim (cases_Bool (nat_le n (length new))) [
      | inl has ↦
          let there : n ≤ length new = grind (arith, nat_tests, has) in
          rw has (all_moved n held piece new rest f, (n, refl, omega (arith, len, most, there, f.most)))
      | inr lacking ↦
          let short : length new < n = grind (arith, nat_tests, lacking) in
          let moved : length piece ≤ f.moved = elim f.done [
            | inl some ↦ absurd (omega (arith, some, len, most, short))
            | inr all ↦ omega (arith, all)
          ] in
          rw lacking (all_held n held piece new rest f moved, none_left n held piece new rest f moved, λ m e. let k : n ≡ m = cc in omega (arith, k, short))
    ]

-- ---- a message in the piece

pub piece_done : (opened : Bool) (piece : List ℕ) (size : Option ℕ) → IsWanted opened piece size → StandsInPiece opened [] piece size (is_whole (length piece) size)
piece_done opened piece None short = inr (inl (omega (arith, short)))
piece_done opened piece (Some n) h = elim (cases_Bool (nat_le n (length piece))) [
  | inl has ↦ let there : n ≤ length piece = grind (arith, nat_tests, has) in rw has (refl, (n, refl, h, there))
  | inr lacking ↦ let short : length piece < n = grind (arith, nat_tests, lacking) in rw lacking (inr (partial_cut opened piece n h short))
]

pub front_size : (opened : Bool) (piece front : List ℕ) (size : ℕ) → HasSize opened piece size → size ≤ length piece → front ≡ take size piece → HasSize opened front (length front)
front_size opened piece front size h most is =
    let len : length front ≡ size = omega (arith, ap length is, length-take size piece, most) in
    let whole : front ++ drop size piece ≡ piece = ap (λ l. l ++ drop size piece) is ∙ take-append-drop size piece in
    let there : HasSize opened (front ++ drop size piece) size = subst (λ l. HasSize opened l size) (sym whole) h in
    subst (HasSize opened front) (sym len) (size_front opened front (drop size piece) size (omega (arith, len, size_least opened piece size h)) there)

-- what is rejected is so with bytes after it
left_behind : (opened : Bool) (front rest : List ℕ) (e : ParserError) → IsLeft opened front e → IsLeft opened (front ++ rest) e
left_behind opened front rest e x = record { cause = x.cause; name = x.name; steps = λ kind. refused_behind kind (left front opened) (left front opened) x.cause rest (x.steps kind) }

pub front_refused : (opened : Bool) (piece front rest : List ℕ) (e : ParserError) → front ++ rest ≡ piece → Opens opened front (Err e) → TakesOff opened piece (Err e) opened piece
front_refused opened piece front rest e whole x = (refl, refl, subst (λ l. IsLeft opened l e) whole (left_behind opened front rest e x))

-- ---- a message that is held

module _ (lacks : Type 0) (opened : Bool) (held piece : List ℕ) (size : Option ℕ) (h : IsWanted opened (held ++ piece) size) (new rest : List ℕ) where
  part : (s : Option ℕ) → IsWanted opened (held ++ piece) s → new ≡ held ++ piece → ((n : ℕ) → s ≡ Some n → length new < n) → IsPartial opened (held ++ piece)
  part None short is less = inl (omega (arith, short))
  part (Some n) k is less = partial_cut opened (held ++ piece) n k (omega (arith, ap length is, less n refl))

  pub completes_none : Holds lacks size held piece (Ok false) new rest → Completes lacks opened held piece (Ok None) new rest
  completes_none x = (x.0, x.1, part size h x.0 x.2)

  module _ (x : Holds lacks size held piece (Ok true) new rest) where
    there : HasSize opened (held ++ piece) x.1.0
    there = subst (IsWanted opened (held ++ piece)) x.1.1 h

    pub held_size : HasSize opened new (length new)
    held_size =
        let front : HasSize opened (new ++ rest) x.1.0 = subst (λ l. HasSize opened l x.1.0) (sym x.0) there in
        subst (HasSize opened new) (sym x.1.2) (size_front opened new rest x.1.0 (omega (arith, x.1.2, size_least opened (held ++ piece) x.1.0 there)) front)

    pub completes_some : (now : Bool) → Opens opened new (Ok now) → Completes lacks opened held piece (Ok (Some now)) new rest
    completes_some now y = (x.0, held_size, y)

    -- what was held is the front of what is held now
    pub was_held : Fits opened held → take (length held) new ≡ held
    was_held fits =
        let most : length held ≤ length new = omega (arith, x.1.2, held_most opened held piece x.1.0 fits there) in
        sym (take-append-le (length held) new rest most) ∙ ap (take (length held)) x.0 ∙ take_at held piece (length held) refl

    pub completes_refused : (e : ParserError) (back before : List ℕ) → Fits opened held → back ≡ take (length held) new → before ≡ piece → Opens opened new (Err e) → Completes lacks opened held piece (Err e) back before
    completes_refused e back before fits b p y = (b ∙ was_held fits, p, inr (subst (λ l. IsLeft opened l e) x.0 (left_behind opened new rest e y)))

-- ---- what a call returns

module _ (lacks : Type 0) (limits : Limits) (opened : Bool) where
  pub size_refused : (held piece : List ℕ) (e : ParserError) → Sizes limits opened (held ++ piece) (Err e) → Parses lacks (waiting held opened limits) piece (Err e) (waiting held opened limits) piece
  size_refused held piece e (inl x) =
      subst (λ (d : ParserError). Parses lacks (waiting held opened limits) piece (Err d) (waiting held opened limits) piece) (sym x.1) (record { limits = refl; answer = (x.2, record { held = refl; in_piece = refl }) })
  size_refused held piece e (inr x) =
      subst (λ (d : ParserError). Parses lacks (waiting held opened limits) piece (Err d) (waiting held opened limits) piece) (sym x.0)
      (record { limits = refl; answer = (x.1, λ kind. step_fault kind opened (held ++ piece) InvalidLength (refl, x.2), record { held = refl; in_piece = refl }) })

  pub piece_taken : (piece rest : List ℕ) (frame : ClientFrame) (now : Bool) → IsWithin limits (left piece opened) → TakesOff opened piece (Ok frame) now rest
      → Parses lacks (waiting [] opened limits) piece (Ok (Some frame)) (waiting [] now limits) rest
  piece_taken piece rest frame now within x =
      let hands : HandsOut (left piece opened) frame (left rest now) = subst (λ l. HandsOut (left l opened) frame (left rest now)) (sym x.3) (hands_out opened x.0 rest frame now x.1 x.2) in
      record { limits = refl; answer = (within, hands, refl) }

  left_there : (held piece : List ℕ) (e : ParserError) → IsWithin limits (left (held ++ piece) opened) → IsLeft opened (held ++ piece) e → Parses lacks (waiting held opened limits) piece (Err e) (waiting held opened limits) piece
  left_there held piece e within x =
      subst (λ (d : ParserError). Parses lacks (waiting held opened limits) piece (Err d) (waiting held opened limits) piece) (sym x.name) (record { limits = refl; answer = (within, x.steps, record { held = refl; in_piece = refl }) })

  pub piece_refused : (piece rest : List ℕ) (e : ParserError) (now : Bool) → IsWithin limits (left piece opened) → TakesOff opened piece (Err e) now rest
      → Parses lacks (waiting [] opened limits) piece (Err e) (waiting [] now limits) rest
  piece_refused piece rest e now within x = rw (x.0, x.1) (left_there [] piece e within x.2)

  module _ (held piece : List ℕ) (within : IsWithin limits (left (held ++ piece) opened)) (new rest : List ℕ) where
    cut_refused : (e : ParserError) → (held ≢ []) ⊎ IsPartial opened piece → ((e ≡ OutOfMemory) × lacks × (piece ≢ [])) ⊎ IsLeft opened (held ++ piece) e
        → Parses lacks (waiting held opened limits) piece (Err e) (waiting held opened limits) piece
    cut_refused e cut (inl x) =
        subst (λ (d : ParserError). Parses lacks (waiting held opened limits) piece (Err d) (waiting held opened limits) piece) (sym x.0) (record { limits = refl; answer = (x.1, within, (x.2, cut), record { held = refl; in_piece = refl }) })
    cut_refused e cut (inr x) = left_there held piece e within x

    pub held_refused : (e : ParserError) → (held ≢ []) ⊎ IsPartial opened piece → Completes lacks opened held piece (Err e) new rest → Parses lacks (waiting held opened limits) piece (Err e) (waiting new opened limits) rest
    held_refused e cut x = rw (x.0, x.1) (cut_refused e cut x.2)

    pub held_waits : Completes lacks opened held piece (Ok None) new rest → Parses lacks (waiting held opened limits) piece (Ok None) (waiting new opened limits) rest
    held_waits x =
        let all : new ++ rest ≡ held ++ piece = ap (λ l. l ++ rest) x.0 ∙ ap (λ l. (held ++ piece) ++ l) x.1 ∙ append-nil (held ++ piece) in
        record { limits = refl; answer = (within, x.2, ap (λ l. left l opened) all, x.1) }

    pub held_handed : (frame : ClientFrame) (now : Bool) → IsFrameOf opened new frame → Completes lacks opened held piece (Ok (Some now)) new rest
        → Parses lacks (waiting held opened limits) piece (Ok (Some frame)) (waiting [] now limits) rest
    held_handed frame now f x =
        let hands : HandsOut (left (held ++ piece) opened) frame (left rest now) = subst (λ l. HandsOut (left l opened) frame (left rest now)) x.0 (hands_out opened new rest frame now x.2 f) in
        record { limits = refl; answer = (within, hands, refl) }

pub partial_fits : (opened : Bool) (bytes : List ℕ) → IsPartial opened bytes → Fits opened bytes
partial_fits opened bytes (inl short) = inl (omega (arith, short))
partial_fits opened bytes (inr u) =
    inr (u.len + place opened, record { len = u.len; begins = u.begins; enough = u.enough; fits = u.fits; all = refl }, omega (arith, u.missing, behind_length opened bytes u.len u.begins))

-- what is handed out is whole
pub whole_of : (lacks : Type 0) (old : Waiting) (piece : List ℕ) (r : Result (Option ClientFrame) ParserError) (new : Waiting) (rest : List ℕ) → Parses lacks old piece r new rest → IfOk r (λ found. IfSome found (λ frame. IsWhole frame.opened frame.bytes.now))
whole_of lacks old piece (Ok (Some frame)) new rest p = p.answer.1.whole
whole_of lacks old piece (Ok None) new rest p = tt
whole_of lacks old piece (Err e) new rest p = tt
