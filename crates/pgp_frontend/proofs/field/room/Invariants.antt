use Rattle.pgp_frontend.proofs.Common.{◌+◌, ◌≤◌, take, length, joined, parts_of}
use Rattle.pgp_frontend.proofs.field.room.Given as goal

abbrev pub invariant-loop-field : goal.invariant-loop-field
invariant-loop-field l =
    l.room ≤ length (joined (parts_of (take l.field-index l.fields))) + 4
