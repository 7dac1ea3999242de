-- A server that has challenged, and what it answers to the client's final text.
use Rattle.for_c_auth.proofs.Common.{ℕ, List, ◌<◌, length, Delivered, Delivers, IsLonger}
use Rattle.pgp_auth.specs.ScramServing.{Admits, Server}
use Rattle.for_c_auth.specs.Serving.{AdmitsWith, HasChallenged, Serve}
use Rattle.for_c_auth.proofs.Texts.{delivers, longer}

module _ (s : Serve) (first last challenge text : List ℕ) (between after : Server) (challenged : HasChallenged s first challenge between) (admits : Admits between last after text) where
  admitted : AdmitsWith s first last text
  admitted = record { challenge = challenge; between = between; challenged = challenged; after = after; admits = admits }

  pub admits_delivered : (old new : List ℕ) (reported : ℕ) → Delivered text old new reported → Delivers (AdmitsWith s first last) old new reported
  admits_delivered old new reported d = delivers (AdmitsWith s first last) text old new reported admitted d

  pub admits_longer : (old : List ℕ) → length old < length text → IsLonger (AdmitsWith s first last) old
  admits_longer old l = longer (AdmitsWith s first last) text old admitted l
