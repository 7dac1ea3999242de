use Rattle.for_c_auth.proofs.Common.{Err, false, length, refl, rules, subst, true, ◌-◌, DataRow, view, Step}
use Rattle.for_c_auth.proofs.Connections.{framed, step_none, step_row, step_some, within_limit}
use Rattle.for_c_auth.specs.Connection.{Comes, HasNoPlaces, IsCut, IsLonger, IsNone, Misplaced, WasOver, limit_of}
use Rattle.for_c_auth.proofs.connection.take.Goals as goal

pub returns-then-connection-clause-none : goal.returns-then-connection-clause-none
returns-then-connection-clause-none g c z = WasOver c.if-connection.true refl refl

pub returns-then-is_broken-clause-none : goal.returns-then-is_broken-clause-none
returns-then-is_broken-clause-none g c z = HasNoPlaces (c.is_broken.ensures.broken c.if-is_broken.true) refl refl

pub returns-then-is_too_long-clause-none : goal.returns-then-is_too_long-clause-none
returns-then-is_too_long-clause-none g c z = IsLonger c.if-connection.false (within_limit c.args.bytes.now c.limit.result (limit_of c.args.ways.now c.args.connection.now.login) c.is_too_long.result true c.limit.ensures c.is_too_long.ensures c.if-is_too_long.true) refl refl

pub returns-in-Some-clause-took : goal.returns-in-Some-clause-took
returns-in-Some-clause-took g c z =
    let stands = step_row c.new-rows.result c.next_row.new.self c.args.bytes.now c.in-Some.row c.new-rows.ensures c.in-Some.ensures in
    record {
      goes_on = c.if-connection.false;
      short = within_limit c.args.bytes.now c.limit.result (limit_of c.args.ways.now c.args.connection.now.login) c.is_too_long.result false c.limit.ensures c.is_too_long.ensures c.if-is_too_long.false;
      message = DataRow c.in-Some.row;
      rest = c.next_row.new.self;
      stands = stands;
      frame = length c.args.bytes.now - length c.rest.result.now;
      length_is = framed c.args.bytes.now c.next_row.new.self c.rest.result.now (DataRow c.in-Some.row) stands c.rest.ensures;
      took = c.hear_row.ensures.took z c.args.ways.now (length c.args.connection.now.settings.room.now) c.args.out.now;
    }

pub returns-in-Some-clause-none : goal.returns-in-Some-clause-none
returns-in-Some-clause-none g c z =
    let stands = step_row c.new-rows.result c.next_row.new.self c.args.bytes.now c.in-Some.row c.new-rows.ensures c.in-Some.ensures in
    Comes (DataRow c.in-Some.row) c.next_row.new.self c.if-connection.false (within_limit c.args.bytes.now c.limit.result (limit_of c.args.ways.now c.args.connection.now.login) c.is_too_long.result false c.limit.ensures c.is_too_long.ensures c.if-is_too_long.false) stands (Misplaced (c.hear_row.ensures.none z))

pub returns-in-Ok-None-clause-none : goal.returns-in-Ok-None-clause-none
returns-in-Ok-None-clause-none g c z =
    let cut = step_none c.new-messages.result c.next.new.self c.args.bytes.now c.in-Ok-None.field-0 c.new-messages.ensures c.in-Ok-None.field-0-is c.in-Ok-None.ensures.step in
    IsCut c.if-connection.false (within_limit c.args.bytes.now c.limit.result (limit_of c.args.ways.now c.args.connection.now.login) c.is_too_long.result false c.limit.ensures c.is_too_long.ensures c.if-is_too_long.false) cut refl refl

pub returns-in-Ok-Some-clause-took : goal.returns-in-Ok-Some-clause-took
returns-in-Ok-Some-clause-took g c z =
    let stands = step_some c.new-messages.result c.next.new.self c.args.bytes.now c.in-Ok-Some.field-0 c.in-Ok-Some.message c.new-messages.ensures c.in-Ok-Some.field-0-is c.in-Ok-Some.ensures.step in
    record {
      goes_on = c.if-connection.false;
      short = within_limit c.args.bytes.now c.limit.result (limit_of c.args.ways.now c.args.connection.now.login) c.is_too_long.result false c.limit.ensures c.is_too_long.ensures c.if-is_too_long.false;
      message = view c.in-Ok-Some.message;
      rest = c.next.new.self;
      stands = stands;
      frame = length c.args.bytes.now - length c.rest-in-Ok-Some.result.now;
      length_is = framed c.args.bytes.now c.next.new.self c.rest-in-Ok-Some.result.now (view c.in-Ok-Some.message) stands c.rest-in-Ok-Some.ensures;
      took = c.hear-code.ensures.took z;
    }

pub returns-in-Ok-Some-clause-none : goal.returns-in-Ok-Some-clause-none
returns-in-Ok-Some-clause-none g c z =
    let stands = step_some c.new-messages.result c.next.new.self c.args.bytes.now c.in-Ok-Some.field-0 c.in-Ok-Some.message c.new-messages.ensures c.in-Ok-Some.field-0-is c.in-Ok-Some.ensures.step in
    Comes (view c.in-Ok-Some.message) c.next.new.self c.if-connection.false (within_limit c.args.bytes.now c.limit.result (limit_of c.args.ways.now c.args.connection.now.login) c.is_too_long.result false c.limit.ensures c.is_too_long.ensures c.if-is_too_long.false) stands (c.hear-code.ensures.none z)

pub returns-in-Err-clause-none : goal.returns-in-Err-clause-none
returns-in-Err-clause-none g c z =
    let step = subst (λ l. Step ⊥ l (Err c.in-Err.e) c.next.new.self) c.new-messages.ensures c.in-Err.ensures.step in
    IsNone c.in-Err.e c.next.new.self c.if-connection.false (within_limit c.args.bytes.now c.limit.result (limit_of c.args.ways.now c.args.connection.now.login) c.is_too_long.result false c.limit.ensures c.is_too_long.ensures c.if-is_too_long.false) step refl (search rules)
