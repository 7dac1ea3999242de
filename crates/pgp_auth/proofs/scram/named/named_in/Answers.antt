use Rattle.pgp_auth.proofs.Common.{IsUserName, IsNonce}
use Rattle.pgp_auth.proofs.UserNames.{not_so, no_attribute, no_second, no_user, no_nonce, named}
use Rattle.pgp_auth.proofs.scram.named.named_in.Goals as goal

pub returns-in_default : goal.returns-in_default
returns-in_default c = no_attribute c.args.bare.now c.in_default.ensures

pub returns-in_default-behind : goal.returns-in_default-behind
returns-in_default-behind c =
    no_second c.args.bare.now c.in-Some.text.now c.split_front.result.0.now c.split_front.result.1.now c.in-Some.ensures c.split_front.ensures.front c.split_front.ensures.rest c.in_default-behind.ensures

pub returns-then-not-is_user_name : goal.returns-then-not-is_user_name
returns-then-not-is_user_name c =
    no_user c.args.bare.now c.in-Some.text.now c.split_front.result.0.now c.split_front.result.1.now c.in-Some.ensures c.split_front.ensures.front c.split_front.ensures.rest
    (not_so (IsUserName c.split_front.result.0.now) c.is_user_name.result c.if-not-is_user_name.true c.is_user_name.ensures)

pub returns-then-not-is_nonce_of : goal.returns-then-not-is_nonce_of
returns-then-not-is_nonce_of c =
    no_nonce c.args.bare.now c.in-Some.text.now c.split_front.result.0.now c.split_front.result.1.now c.in-Some-behind.nonce.now c.in-Some.ensures c.split_front.ensures.front c.split_front.ensures.rest c.in-Some-behind.ensures
    (not_so (IsNonce c.in-Some-behind.nonce.now) c.is_nonce_of.result c.if-not-is_nonce_of.true c.is_nonce_of.ensures)

pub returns : goal.returns
returns c = (
  c.is_user_name.ensures.0 c.if-not-is_user_name.false,
  c.is_nonce_of.ensures.0 c.if-not-is_nonce_of.false,
  named c.args.bare.now c.in-Some.text.now c.split_front.result.0.now c.split_front.result.1.now c.in-Some-behind.nonce.now c.in-Some.ensures c.split_front.ensures.front c.split_front.ensures.rest c.in-Some-behind.ensures,
)
