-- Messages that differ in their secrets alone tell the same of types, and have the same lines.
use Rattle.pgtrace_session.proofs.Common.{◌≡◌, ℕ, List, Option, Some, None, Ok, Err, refl, ap, ◌∙◌, Error, Message, ClientMessage, ClientError, Style, AlikeAnswers, AlikeMessages, Alike, AlikeResults, Told, Heard, Hears, Learns, Said, Sent, ShowsHeard, ShowsSent, ShowsTyped, Unsaid, sends, Types, first, reached, answers_alike, heard_alike, results_alike, sent_alike}
use Rattle.pgtrace_session.specs.declared.placement.Told.TheVariants as told

-- frames are read as things that differ in their secrets alone
abbrev pub AlikeSaid : Said → Said → Type 0
AlikeSaid (Heard r) (Heard s) = AlikeResults r s
AlikeSaid (Sent r) (Sent s) = AlikeAnswers r s
AlikeSaid Unsaid Unsaid = Unit {0}
AlikeSaid x y = ⊥

-- what holds of messages that are alike, of an error and of an answer of one byte holds of all such
module _ (P : Said → Said → Type 0) (heard : (m k : Message) → Alike m k → P (Heard (Ok m)) (Heard (Ok k))) (sent : (x y : ClientMessage) → AlikeMessages x y → P (Sent (Ok x)) (Sent (Ok y)))
    (faults : (e : Error) → P (Heard (Err e)) (Heard (Err e))) (refusals : (e : ClientError) → P (Sent (Err e)) (Sent (Err e))) (none : P Unsaid Unsaid) where
  pub said_alike : (x y : Said) → AlikeSaid x y → P x y
  said_alike (Heard r) (Heard s) e = results_alike (λ r s. P (Heard r) (Heard s)) heard faults r s e
  said_alike (Sent r) (Sent s) e = answers_alike (λ r s. P (Sent r) (Sent s)) sent refusals r s e
  said_alike Unsaid Unsaid e = none
  said_alike (Heard r) (Sent s) e = absurd e
  said_alike (Heard r) Unsaid e = absurd e
  said_alike (Sent r) (Heard s) e = absurd e
  said_alike (Sent r) Unsaid e = absurd e
  said_alike Unsaid (Heard s) e = absurd e
  said_alike Unsaid (Sent s) e = absurd e

-- ---- what is known of types

abbrev LearnsToo : Told → Said → Said → Type 0
LearnsToo told x y = (old new : Option Types) → Learns told x old new → Learns told y old new

sent_learns : (n : ℕ) (x y : ClientMessage) → AlikeMessages x y → (old new : Option Types) → Learns (told.Number n) (Sent (Ok x)) old new → Learns (told.Number n) (Sent (Ok y)) old new
sent_learns n x y e (Some old) new l = l ∙ ap (λ t. Some t) (sent_alike (λ x y. sends n x old ≡ sends n y old) (λ m. refl) (λ a b e. refl) (λ m a b e. refl) (λ a b e. refl) (λ p a b e. refl) x y e)
sent_learns n x y e None new l = l

heard_learns : (n sent now : ℕ) (m k : Message) → Alike m k → (old new : Option Types) → Learns (told.Answer n sent now) (Heard (Ok m)) old new → Learns (told.Answer n sent now) (Heard (Ok k)) old new
heard_learns n sent now m k e (Some old) new l =
    let here = reached n old in
    (l.0, heard_alike (λ m k. Hears m (first n here.awaited) here l.0 → Hears k (first n here.awaited) here l.0) (λ m s. s) (λ a b e s. s) (λ a b e s. s) (λ a b e s. s) (λ a b e s. s) (λ a b e s. s) m k e l.1, l.2)
heard_learns n sent now m k e None new l = l

pub learns_alike : (told : Told) (x y : Said) → AlikeSaid x y → (old new : Option Types) → Learns told x old new → Learns told y old new
learns_alike told.Uncounted x y e old new l = l
learns_alike told.Lost x y e old new l = l
learns_alike told.Nothing x y e old new l = l
learns_alike (told.Number n) x y e old new l = said_alike (LearnsToo (told.Number n)) (λ m k e old new l. l) (sent_learns n) (λ e old new l. l) (λ e old new l. l) (λ old new l. l) x y e old new l
learns_alike (told.Answer n sent now) x y e old new l = said_alike (LearnsToo (told.Answer n sent now)) (heard_learns n sent now) (λ x y e old new l. l) (λ e old new l. l) (λ e old new l. l) (λ old new l. l) x y e old new l

-- ---- what is shown

module _ (style : Style) (place len : ℕ) where
  abbrev ShowsToo : Told → Said → Said → Type 0
  ShowsToo told x y = (types : Option Types) (old new : List ℕ) → ShowsTyped style place len told x types old new → ShowsTyped style place len told y types old new

  heard_shown : (n sent now : ℕ) (m k : Message) → Alike m k → (types : Option Types) (old new : List ℕ) → ShowsTyped style place len (told.Answer n sent now) (Heard (Ok m)) types old new → ShowsTyped style place len (told.Answer n sent now) (Heard (Ok k)) types old new
  heard_shown n sent now m k e (Some types) old new l =
      heard_alike (λ m k. ShowsHeard style place len m (first n types.awaited) types old new → ShowsHeard style place len k (first n types.awaited) types old new) (λ m s. s) (λ a b e s. s) (λ a b e s. s) (λ a b e s. s) (λ a b e s. s) (λ a b e s. s) m k e l
  heard_shown n sent now m k e None old new l = l

  sent_shown : (n : ℕ) (x y : ClientMessage) → AlikeMessages x y → (types : Option Types) (old new : List ℕ) → ShowsTyped style place len (told.Number n) (Sent (Ok x)) types old new → ShowsTyped style place len (told.Number n) (Sent (Ok y)) types old new
  sent_shown n x y e (Some types) old new l = sent_alike (λ x y. ShowsSent style place len x types old new → ShowsSent style place len y types old new) (λ m s. s) (λ a b e s. s) (λ m a b e s. s) (λ a b e s. s) (λ p a b e s. s) x y e l
  sent_shown n x y e None old new l = l

  pub shows_alike : (told : Told) (x y : Said) → AlikeSaid x y → (types : Option Types) (old new : List ℕ) → ShowsTyped style place len told x types old new → ShowsTyped style place len told y types old new
  shows_alike told.Uncounted x y e types old new l = l
  shows_alike told.Lost x y e types old new l = l
  shows_alike told.Nothing x y e types old new l = l
  shows_alike (told.Number n) x y e types old new l = said_alike (ShowsToo (told.Number n)) (λ m k e types old new l. l) (sent_shown n) (λ e types old new l. l) (λ e types old new l. l) (λ types old new l. l) x y e types old new l
  shows_alike (told.Answer n sent now) x y e types old new l = said_alike (ShowsToo (told.Answer n sent now)) (heard_shown n sent now) (λ x y e types old new l. l) (λ e types old new l. l) (λ e types old new l. l) (λ types old new l. l) x y e types old new l
