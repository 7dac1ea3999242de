-- The numbers of requests and stages, each in the order of its variants, and those of refusals in C.
use Rattle.std.specs.Prelude.{ℕ, ◌==◌, if◌then◌else◌, Option, Some, None}
use Rattle.pgp_client.specs.declared.event.Refusal.{Refusal}
use Rattle.pgp_client.specs.declared.event.Refusal.TheVariants.{Uncertain, Unexpected}
use Rattle.pgp_client.specs.declared.request.Asked.{Asked}
use Rattle.pgp_client.specs.declared.request.Request.{Request}
use Rattle.pgp_client.specs.declared.request.Request.TheVariants as requests
use Rattle.pgp_client.specs.declared.slots.Slot.{Slot}
use Rattle.pgp_client.specs.declared.stage.Stage.{Stage}
use Rattle.pgp_client.specs.declared.stage.Stage.TheVariants as stages

abbrev pub request_at : ℕ → Request
request_at n =
    if n == 0 then requests.Startup
    else (if n == 1 then requests.Query
    else (if n == 2 then requests.Parse
    else (if n == 3 then requests.Bind
    else (if n == 4 then requests.Close
    else (if n == 5 then requests.DescribeStatement
    else (if n == 6 then requests.DescribePortal
    else (if n == 7 then requests.Execute
    else (if n == 8 then requests.FunctionCall
    else (if n == 9 then requests.Sync
    else (if n == 10 then requests.CopyDone
    else requests.CopyFail))))))))))

abbrev pub request_code : Request → ℕ
request_code requests.Startup = 0
request_code requests.Query = 1
request_code requests.Parse = 2
request_code requests.Bind = 3
request_code requests.Close = 4
request_code requests.DescribeStatement = 5
request_code requests.DescribePortal = 6
request_code requests.Execute = 7
request_code requests.FunctionCall = 8
request_code requests.Sync = 9
request_code requests.CopyDone = 10
request_code requests.CopyFail = 11

-- the request that stands in a place
abbrev pub asked_in : Slot → Asked
asked_in s = record { request = request_at s.request; name = s.name }

abbrev pub stage_at : ℕ → Stage
stage_at n =
    if n == 0 then stages.Idle
    else (if n == 1 then stages.Skipping
    else (if n == 3 then stages.Authenticating
    else (if n == 4 then stages.Starting
    else (if n == 5 then stages.Asked
    else (if n == 6 then stages.Answering
    else (if n == 7 then stages.Rows
    else (if n == 8 then stages.CopyingIn
    else (if n == 9 then stages.CopyingOut
    else (if n == 10 then stages.CopyingBoth
    else (if n == 11 then stages.CopiedBoth
    else (if n == 12 then stages.Parsing
    else (if n == 13 then stages.Binding
    else (if n == 14 then stages.Closing
    else (if n == 15 then stages.Describing
    else (if n == 16 then stages.DescribingRows
    else (if n == 17 then stages.Executing
    else (if n == 18 then stages.Returning
    else (if n == 19 then stages.TakingCopy
    else (if n == 20 then stages.GivingCopy
    else (if n == 21 then stages.GaveCopy
    else (if n == 22 then stages.Calling
    else (if n == 23 then stages.Called
    else (if n == 24 then stages.Syncing
    else (if n == 25 then stages.Failed
    else stages.Over))))))))))))))))))))))))

abbrev pub stage_code : Stage → ℕ
stage_code stages.Idle = 0
stage_code stages.Skipping = 1
stage_code stages.Over = 2
stage_code stages.Authenticating = 3
stage_code stages.Starting = 4
stage_code stages.Asked = 5
stage_code stages.Answering = 6
stage_code stages.Rows = 7
stage_code stages.CopyingIn = 8
stage_code stages.CopyingOut = 9
stage_code stages.CopyingBoth = 10
stage_code stages.CopiedBoth = 11
stage_code stages.Parsing = 12
stage_code stages.Binding = 13
stage_code stages.Closing = 14
stage_code stages.Describing = 15
stage_code stages.DescribingRows = 16
stage_code stages.Executing = 17
stage_code stages.Returning = 18
stage_code stages.TakingCopy = 19
stage_code stages.GivingCopy = 20
stage_code stages.GaveCopy = 21
stage_code stages.Calling = 22
stage_code stages.Called = 23
stage_code stages.Syncing = 24
stage_code stages.Failed = 25

abbrev pub refusal_at : ℕ → Option Refusal
refusal_at n =
    if n == 36 then Some Unexpected
    else (if n == 37 then Some Uncertain
    else None)
