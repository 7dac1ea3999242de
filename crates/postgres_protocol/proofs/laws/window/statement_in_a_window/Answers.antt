use Rattle.postgres_protocol.proofs.Common.{sym, subst, copies, fronts, YieldsList, YieldsList-from_slice, YieldsList-from_copied, Yielded, window_held, window_lacks, Parse, all_same, some_same}
use Rattle.pgp_message_write.proofs.GivenLists.{FromItself}
use Rattle.postgres_protocol.proofs.Rooms.{message_by_room, parse_adds}
use Rattle.postgres_protocol.proofs.laws.window.statement_in_a_window.Goals as goal

pub returns : goal.returns
returns c =
    let all = c.args.types.now in
    let source = c.copied.result in
    let road : YieldsList (copies fronts) (λ x. x) source all = YieldsList-from_copied (YieldsList-from_slice all cc) in
    let adds = parse_adds c.args.name.now c.args.query.now all (Yielded FromItself (copies fronts) source)
    (λ xs k. all_same FromItself (copies fronts) source all (λ it from. subst (λ s. YieldsList (copies fronts) (λ x. x) s all) (sym from) road) xs k)
    (λ xs x k. some_same FromItself (copies fronts) source all (λ it from. subst (λ s. YieldsList (copies fronts) (λ x. x) s all) (sym from) road) xs x k)
    window_held window_lacks _ _ c.parse.result c.parse.ensures in
    record { adds = adds; room = message_by_room (Parse c.args.name.now c.args.query.now all) _ _ c.parse.result adds }
