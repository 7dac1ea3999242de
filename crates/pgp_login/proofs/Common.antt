-- The names of other crates and of this one's specs that several proofs cite, passed on from one place. Declares nothing.
pub use Rattle.std.proofs.Common.{◌≡◌, ℕ, Bool, true, false, List, [], ◌∷◌, ◌++◌, Option, Some, None, refl, sym, ap, subst, ◌∙◌, inl, inr, ◌⊎◌, length, Result, Ok, Err, Contains, rules, ◌<◌}
pub use Rattle.std.specs.Prelude.{option_map, option_to_list, IfErr}
pub use Rattle.pgp_auth.specs.ScramClient.{Begun, Client, State as ExchangeState, awaited_of, first_text, message_of}
pub use Rattle.pgp_auth.specs.ScramRefusal.{Refusal, WrongState}
pub use Rattle.pgp_auth.specs.Md5Text.{md5_answer}
pub use Rattle.pgp_frontend.specs.ClientMessage.{ClientMessage, PasswordMessage, SaslInitialResponse, SaslResponse}
pub use Rattle.pgp_base.specs.declared.error.Error.{Error}
pub use Rattle.pgp_login.specs.Exchange.{Added, AddsReply, Answers, Begins, NotReplied, NotVerified, Replies, Seen, Unbegun, Unmade, Unsent, UnsentAs, begun_of, binding_at, initial, seen_client}
pub use Rattle.pgp_login.specs.Fault.{Fault, Scram, Unwritten, fault}
pub use Rattle.pgp_login.specs.declared.fault.LoginError.{LoginError}
