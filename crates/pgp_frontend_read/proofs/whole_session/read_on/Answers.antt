use Rattle.pgp_frontend_read.proofs.Common.{rules, ◌≡◌, map, List, [], ◌∷◌, ◌++◌, Some, None, Ok, Err, sym, ap, ◌∙◌, subst, map-append, ClientMessage, PasswordKind, Step, HasRead, next_kind, kind_view, view}
use Rattle.pgp_frontend_read.proofs.Sessions.{one_more, ends_with, shorter}
use Rattle.pgp_frontend_read.proofs.whole_session.read_on.Goals as goal

pub messages-smaller : goal.messages-smaller
messages-smaller g c =
    let step : Step (kind_view c.next_kind.result) c.messages.reader (Ok (Some (view c.in-Ok-Some.message))) c.next.new.self = search rules in
    shorter (kind_view c.next_kind.result) c.messages.reader c.next.new.self (view c.in-Ok-Some.message) step

pub messages-preserved : goal.messages-preserved
messages-preserved g c =
    let step : Step (kind_view c.next_kind.result) c.messages.reader (Ok (Some (view c.in-Ok-Some.message))) c.next.new.self = search rules in
    let reported : Step (next_kind (map kind_view c.messages.rest.now)) c.messages.reader (Ok (Some (view c.in-Ok-Some.message))) c.next.new.self = rw (← c.next_kind.ensures) step in
    let pushed : c.push.new.list.items ≡ c.messages.messages.items ++ c.in-Ok-Some.message ∷ [] = search rules in
    let more = one_more (map kind_view c.args.kinds.now) (map kind_view c.messages.rest.now) c.args.reader.now c.messages.reader c.next.new.self (map view c.messages.messages.items) (view c.in-Ok-Some.message) c.messages.invariant reported in
    let old : List ClientMessage = map view c.messages.messages.items in
    let behind : HasRead (map kind_view c.args.kinds.now) c.args.reader.now (old ++ view c.in-Ok-Some.message ∷ []) (map kind_view c.kinds_behind-rest.result.now) c.next.new.self =
    subst (λ (ks : List PasswordKind). HasRead (map kind_view c.args.kinds.now) c.args.reader.now (old ++ view c.in-Ok-Some.message ∷ []) ks c.next.new.self) (sym c.kinds_behind-rest.ensures) more in
    let all : map view c.push.new.list.items ≡ old ++ view c.in-Ok-Some.message ∷ [] = ap (map view) pushed ∙ map-append view c.messages.messages.items (c.in-Ok-Some.message ∷ []) in
    subst (λ (ms : List ClientMessage). HasRead (map kind_view c.args.kinds.now) c.args.reader.now ms (map kind_view c.kinds_behind-rest.result.now) c.next.new.self) (sym all) behind

pub returns-in-Ok-None : goal.returns-in-Ok-None
returns-in-Ok-None g c =
    let step : Step (kind_view c.next_kind.result) c.messages.reader (Ok None) c.next.new.self = search rules in
    record { read = ends_with (map kind_view c.args.kinds.now) (map kind_view c.messages.rest.now) c.args.reader.now c.messages.reader c.next.new.self (map view c.messages.messages.items) (Ok None) c.messages.invariant step tt; lacks = tt }

pub returns-in-Err : goal.returns-in-Err
returns-in-Err g c =
    let step : Step (kind_view c.next_kind.result) c.messages.reader (Err c.in-Err.e) c.next.new.self = search rules in
    record { read = ends_with (map kind_view c.args.kinds.now) (map kind_view c.messages.rest.now) c.args.reader.now c.messages.reader c.next.new.self (map view c.messages.messages.items) (Err c.in-Err.e) c.messages.invariant (rw (← c.next_kind.ensures) step) tt; lacks = tt }
