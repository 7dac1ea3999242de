-- The example's turns are taken, and each lending ends where the dialogue is idle.
use Rattle.pgp_client.proofs.PoolCommon.{◌≡◌, true, [], ◌∷◌, refl, FollowsTo, Lends, Talk, is_idle, start, talk, Idle, Asked}
use Rattle.pgp_client.specs.declared.request.Request.TheVariants.{CopyDone}
use Rattle.pgp_client.specs.PoolExample.{call, copy, failing_copy, lendings, login, pipeline}

abbrev left : Asked
left = record { request = CopyDone; name = 9 }

logs_in : FollowsTo start login (talk Idle 0 [])
logs_in = (_, refl, (λ h. cc), (_, refl, (λ h. cc), (_, refl, (λ h. cc), (_, refl, (λ h. cc), refl))))

goes_on : FollowsTo (talk Idle 0 []) pipeline (talk Idle 6 [])
goes_on = (_, refl, (λ h. cc), (_, refl, (λ h. cc), (_, refl, (λ h. cc), (_, refl, (λ h. cc), (_, refl, (λ h. cc), refl)))))

calls : FollowsTo (talk Idle 6 []) call (talk Idle 7 [])
calls = (_, refl, (λ h. cc), (_, refl, (λ h. cc), (_, refl, (λ h. cc), refl)))

-- the end of its data is still pending, and the server passes over it
fails : FollowsTo (talk Idle 7 []) failing_copy (talk Idle 8 (left ∷ []))
fails = (_, refl, (λ h. cc), (_, refl, (λ h. cc), (_, refl, (λ h. cc), refl)))

copies : FollowsTo (talk Idle 8 (left ∷ [])) copy (talk Idle 10 [])
copies = (_, refl, (λ h. cc), (_, refl, (λ h. cc), (_, refl, (λ h. cc), refl)))

pub lent : (now : Talk) × Lends start lendings now × (is_idle now ≡ true)
lent = (talk Idle 10 [], (refl, talk Idle 0 [], logs_in, (refl, talk Idle 6 [], goes_on, (refl, talk Idle 7 [], calls, (refl, talk Idle 8 (left ∷ []), fails, (refl, talk Idle 10 [], copies, refl))))), refl)
