-- Over which Sync a server passed where a copy failed can be uncertain.
use Rattle.pgp_client.proofs.Common.{◌==◌, ℕ, [], ◌∷◌, arith, refl, if◌then◌else◌, BreaksBehind, BreaksHere, CopyBreaks, Ready, Serves, Skips, Syncs, AmongTurns, NoTurnLeft, OneAsked, OneAnswer, BelongInTurns, failed_copy, Last, Part, CopyInResponse, ErrorResponse, ReadyForQuery, Asked}
use Rattle.pgp_client.specs.Flow as flow
use Rattle.pgp_client.specs.declared.request.Request.TheVariants.{Execute, Sync}

-- the second Sync alone is asked after the error
abbrev later : ℕ → ℕ
later m = if m == 0 then 0 else 1

module _ (execute first second : ℕ) where
  abbrev sync : ℕ → Asked
  sync n = record { request = Sync; name = n }

  heard : (name : ℕ) → AmongTurns later (CopyInResponse ∷ ErrorResponse ∷ ReadyForQuery ∷ []) (Part execute ∷ Last execute ∷ Last name ∷ []) (failed_copy execute first second) (Part execute ∷ Last execute ∷ Last name ∷ [])
  heard name =
      OneAsked (record { request = Execute; name = execute }) (OneAsked (sync first) (OneAnswer CopyInResponse (Part execute) (Part execute) refl (OneAnswer ErrorResponse (Last execute) (Last execute) refl
      (OneAsked (sync second) (OneAnswer ReadyForQuery (Last name) (Last first) refl NoTurnLeft)))))

  at_first : Serves later Skips (sync first ∷ sync second ∷ []) (ReadyForQuery ∷ []) (Last first ∷ [])
  at_first = flow.Resumed (flow.Answered Syncs flow.Waits)

  at_second : Serves later Skips (sync second ∷ []) (ReadyForQuery ∷ []) (Last second ∷ [])
  at_second = flow.Resumed (flow.Answered Syncs flow.Waits)

  passed : CopyBreaks (later 1) (sync first ∷ sync second ∷ []) (sync second ∷ [])
  passed = BreaksBehind (omega arith) BreaksHere

  pub of_first : BelongInTurns (failed_copy execute first second) (Part execute ∷ Last execute ∷ Last first ∷ [])
  of_first = record {
    later = later;
    sent = CopyInResponse ∷ ErrorResponse ∷ ReadyForQuery ∷ [];
    belong = Part execute ∷ Last execute ∷ Last first ∷ [];
    serves = flow.CopyFails BreaksHere at_first;
    among = heard first;
  }

  pub of_second : BelongInTurns (failed_copy execute first second) (Part execute ∷ Last execute ∷ Last second ∷ [])
  of_second = record {
    later = later;
    sent = CopyInResponse ∷ ErrorResponse ∷ ReadyForQuery ∷ [];
    belong = Part execute ∷ Last execute ∷ Last second ∷ [];
    serves = flow.CopyFails passed at_second;
    among = heard second;
  }
