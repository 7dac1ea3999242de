use Rattle.pgp_auth.proofs.Common.{◌≡◌, ℕ, ◌<◌, max, refl, sym, subst, lt-ltb, ltb-true}
use Rattle.pgp_auth.proofs.FirstTexts.{one_count}
use Rattle.pgp_auth.proofs.scram.rounds.asks_fewer.Goals as goal

pub returns-in-Some : goal.returns-in-Some
returns-in-Some c =
    let known = c.in-Some.ensures.some in
    let most : c.max.result ≡ max c.args.least 1 = c.max.ensures in (
      λ few. record { nonce = known.0; salt_text = known.1; count = c.in-Some.count; text_is = known.2; fewer = subst (λ (m : ℕ). c.in-Some.count < m) most (ltb-true _ _ few) },
      λ asks. lt-ltb _ _ (subst (λ (m : ℕ). c.in-Some.count < m) (sym most) (subst (λ (n : ℕ). n < max c.args.least 1) (one_count c.args.message.now asks.nonce asks.salt_text known.0 known.1 asks.count c.in-Some.count asks.text_is known.2) asks.fewer)),
    )

pub returns-in-None : goal.returns-in-None
returns-in-None c = (λ e. cc, λ asks. absurd (c.in-None.ensures.none refl asks.nonce asks.salt_text asks.count asks.text_is))
