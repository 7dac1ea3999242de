-- What is known of the value of a setting.
use Rattle.pgp_session.proofs.Common.{◌≡◌, ℕ, Bool, true, false, List, [], ◌∷◌, ◌++◌, Option, Some, None, refl, sym, ap, ◌∙◌, inl, inr, if◌then◌else◌, bytes_eq, cases_Bool, Message, Setting, bytes_eq-Decides, newer, state_after, Said, heard, is_before, last_after, replaced, reported, said_after, setting_in, settled, value_of, true≢false}
use Rattle.pgp_session.specs.ServerState.{noted}
use Rattle.pgp_session.specs.declared.server_state.ServerState.{ServerState}

-- ---- the value under a name is the last that was reported

hidden : (a b : Bool) (u v w : Option (List ℕ)) → a ≡ b → (if a then u else w) ≡ (if a then u else (if b then v else w))
hidden true b u v w e = refl
hidden false b u v w e = rw (sym e) refl

apart_or_not : (a b : Bool) (u v w r : Option (List ℕ)) → (b ≡ true → a ≡ false) → r ≡ (if a then u else w) → (if b then v else r) ≡ (if a then u else (if b then v else w))
apart_or_not a true u v w r apart e = rw (apart refl) refl
apart_or_not a false u v w r apart e = e

apart : (x s name : List ℕ) → bytes_eq x s ≡ false → bytes_eq x name ≡ true → bytes_eq s name ≡ false
apart x s name other is =
    elim (cases_Bool (bytes_eq s name)) [
      | inl same ↦ absurd (true≢false (sym ((bytes_eq-Decides x s).1 ((bytes_eq-Decides x name).0 is ∙ sym ((bytes_eq-Decides s name).0 same))) ∙ other))
      | inr differs ↦ differs
    ]

value_replaced : (name : List ℕ) (s : Setting) (kept : List Setting) → value_of name (replaced s kept) ≡ (if bytes_eq s.name name then Some s.value else value_of name kept)
value_replaced name s [] = refl
value_replaced name s (x ∷ kept) =
    elim (cases_Bool (bytes_eq x.name s.name)) [
      | inl same ↦ rw same (hidden (bytes_eq s.name name) (bytes_eq x.name name) (Some s.value) (Some x.value) (value_of name kept) (ap (λ n. bytes_eq n name) (sym ((bytes_eq-Decides x.name s.name).0 same))))
      | inr other ↦ elim (cases_Bool (is_before x.name s.name)) [
        | inl before ↦ rw (other, before) (apart_or_not (bytes_eq s.name name) (bytes_eq x.name name) (Some s.value) (Some x.value) (value_of name kept) (value_of name (replaced s kept)) (apart x.name s.name name other) (value_replaced name s kept))
        | inr behind ↦ rw (other, behind) refl
      ]
    ]

newer_if : (b : Bool) (value : List ℕ) (before : Option (List ℕ)) → (if b then Some value else before) ≡ newer before (if b then Some value else None)
newer_if true value before = refl
newer_if false value before = refl

value_settled : (name : List ℕ) (o : Option Setting) (kept : List Setting) → value_of name (settled o kept) ≡ newer (value_of name kept) (reported name o)
value_settled name None kept = refl
value_settled name (Some s) kept = value_replaced name s kept ∙ newer_if (bytes_eq s.name name) s.value (value_of name kept)

pub values_follow : (name : List ℕ) (s : Said) (received : List Message) → value_of name (said_after s received).settings ≡ last_after name (value_of name s.settings) received
values_follow name s [] = refl
values_follow name s (m ∷ received) =
    values_follow name (heard m s) received ∙ ap (λ (before : Option (List ℕ)). last_after name before received) (value_settled name (setting_in m) s.settings)

-- ---- what a server said

pub said_more : (s : Said) (received : List Message) (m : Message) → said_after s (received ++ m ∷ []) ≡ heard m (said_after s received)
said_more s [] m = refl
said_more s (x ∷ received) m = said_more (heard x s) received m

pub states_follow : (s : Said) (received : List Message) → (said_after s received).state ≡ state_after s.state received
states_follow s [] = refl
states_follow s (m ∷ received) = states_follow (heard m s) received

pub heard_so : (m : Message) (state : ServerState) (settings : List Setting) (old : Said) → state ≡ noted m old.state → settings ≡ settled (setting_in m) old.settings → record { state = state; settings = settings } ≡ heard m old
heard_so m state settings old e f = rw (e, f) refl
