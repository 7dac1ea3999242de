-- Private: the code's commands as those of `Command`.
use Rattle.pgwire_engines.specs.declared.run as code
use Rattle.pgwire_engines.specs.declared.run.Command.TheVariants as variants
use Rattle.pgwire_engines.specs.Command.{Command, Client, Backend, Verifier, EscapeLiteral, EscapeIdentifier}

abbrev pub asked : code.Command.Command → Command
asked variants.Client = Client
asked variants.Backend = Backend
asked (variants.Verifier password salt) = Verifier password.now salt
asked (variants.EscapeLiteral text) = EscapeLiteral text.now
asked (variants.EscapeIdentifier text) = EscapeIdentifier text.now
