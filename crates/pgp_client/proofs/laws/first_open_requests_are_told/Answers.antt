use Rattle.pgp_client.proofs.Ends.{first_told, idle_open, none_over, numbers_told, open_may_come}
use Rattle.pgp_client.proofs.laws.first_open_requests_are_told.Goals as goal

pub returns : goal.returns
returns c = record { first = first_told; numbers = numbers_told; early = open_may_come; idle = idle_open; over = none_over }
