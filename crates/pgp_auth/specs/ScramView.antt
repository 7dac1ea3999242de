-- Private: what contracts see of the types of the exchange.
use Rattle.pgp_auth.specs.declared.scram.binding.Inner.{Inner}
use Rattle.pgp_auth.specs.declared.scram.binding.Inner.TheVariants as inner
use Rattle.pgp_auth.specs.ScramText.{Binding, Unsupported, Unrequested, TlsServerEndPoint}

abbrev pub binding_of : {A : Type 0} → Inner A → Binding
binding_of inner.Unsupported = Unsupported
binding_of inner.Unrequested = Unrequested
binding_of (inner.TlsServerEndPoint signature) = TlsServerEndPoint signature.items
