-- The version that is spoken was asked for.
use Rattle.pgp_login.proofs.Common.{◌≡◌, ◌⊎◌, ◌∙◌, ℕ, Bool, true, false, List, [], Option, Some, None, refl, ap, inl, inr, sym, subst}
use Rattle.std.specs.Prelude.{◌≢◌}
use Rattle.pgp_frontend.specs.declared.startup.ProtocolVersion.{ProtocolVersion}
use Rattle.pgp_message.specs.BackendMessage.{Message, NegotiateProtocolVersion}
use Rattle.pgp_login.specs.Timely.{IsTimely, Offered}
use Rattle.pgp_login.specs.Versions.{answered, is_admitted, newer, newest, spoken}
use Rattle.pgp_login.specs.declared.versions.Versions.{Versions}
use Rattle.pgp_login.specs.declared.versions.Versions.TheVariants.{Only3_0, UpTo3_2, Only3_2}

pub packet_spoken : (asked : Versions) → is_admitted asked (spoken asked None) ≡ true
packet_spoken Only3_0 = refl
packet_spoken UpTo3_2 = refl
packet_spoken Only3_2 = refl

pub spoken_after : (done : Bool) (before : Option ProtocolVersion) (o : Offered) (m : Message) → IsTimely done before o m → is_admitted o.versions (spoken o.versions before) ≡ true
    → is_admitted o.versions (spoken o.versions (newer before (answered m))) ≡ true
spoken_after done before o (NegotiateProtocolVersion v) timely e = subst (λ x. is_admitted o.versions (spoken o.versions (newer before x)) ≡ true) (sym timely.is) timely.admitted
spoken_after done before o m timely e = e

-- ---- whether an answer changes anything, where its names were walked twice

pub changes_by : (version : ProtocolVersion) (asked there : Versions) (options walked : List (List ℕ)) → there ≡ asked → walked ≡ options → (version ≢ newest there) ⊎ (walked ≢ []) → (version ≢ newest asked) ⊎ (options ≢ [])
changes_by version asked there options walked same is change = subst (λ a. (version ≢ newest a) ⊎ (options ≢ [])) same (subst (λ l. (version ≢ newest there) ⊎ (l ≢ [])) is change)

some_one : (a b : ProtocolVersion) → Some a ≡ Some b → a ≡ b
some_one a b e = cc

pub no_change : (version other : ProtocolVersion) (asked there : Versions) (found : Option ProtocolVersion) (options walked : List (List ℕ)) → found ≡ Some version → found ≡ Some other → there ≡ asked → options ≡ walked
    → version ≡ newest there → walked ≡ [] → (other ≢ newest asked) ⊎ (options ≢ []) → false ≡ true
no_change version other asked there found options walked is also same one at none (inl apart) = absurd (apart (sym (some_one version other (sym is ∙ also)) ∙ at ∙ ap newest same))
no_change version other asked there found options walked is also same one at none (inr some) = absurd (some (one ∙ none))
