use Rattle.pgp_stream.proofs.Common.{◌≡◌, ◌<◌, ◌++◌, [], length, take, drop, map, rules, arith, refl, sym, ap, subst, ◌∙◌, Found, FindsAll, TakesEach, TakesSome, seen, TakesAll, kept_or_piece}
use Rattle.std.proofs.Math.ListN.{drop_of_length-le}
use Rattle.pgp_message.proofs.FindLemmas.{takes_none}
use Rattle.pgp_stream.proofs.Pieces.{whole_taken, whole_some, next_kept, next_piece, some_of_next, some_of_all, part_of_kept, part_of_piece}
use Rattle.pgp_stream.proofs.stream_parser.take_whole.Goals as goal

pub returns-in_err-whole-clause-some : goal.returns-in_err-whole-clause-some
returns-in_err-whole-clause-some g c =
    let bytes = c.args.rest.now.items ++ c.args.piece.now in
    let before = map seen c.args.results.now.items in
    let some : TakesSome bytes before before = takes_none bytes before before refl in
    search rules

pub returns-in_err-read_frames-clause-some : goal.returns-in_err-read_frames-clause-some
returns-in_err-read_frames-clause-some g c =
    let old = c.args.rest.now.items in
    let piece = c.args.piece.now in
    let here = kept_or_piece old piece in
    let before = map seen c.args.results.now.items in
    let after = map seen c.read_frames.new.results.items in
    let found : Found = record { len = c.found.inside.len; count = c.found.inside.count; stopped = c.found.inside.stopped } in
    let all : FindsAll here c.args.frames.now c.find_all-found.new.self found = search rules in
    let whole : c.in_ok-whole.whole ≡ take found.len here = search rules in
    let front : TakesSome c.in_ok-whole.whole before after = search rules in
    let some : TakesSome here before after = whole_some here before after found.len (subst (λ l. TakesSome l before after) whole front) in
    let more : TakesSome (old ++ piece) before after = some_of_next old piece before after some in
    search rules

pub returns-then-kept-clause-ok : goal.returns-then-kept-clause-ok
returns-then-kept-clause-ok g c =
    let old = c.args.rest.now.items in
    let piece = c.args.piece.now in
    let here = kept_or_piece old piece in
    let before = map seen c.args.results.now.items in
    let after = map seen c.read_frames.new.results.items in
    let found : Found = record { len = c.found.inside.len; count = c.found.inside.count; stopped = c.found.inside.stopped } in
    let all : FindsAll here c.args.frames.now c.find_all-found.new.self found = search rules in
    let whole : c.in_ok-whole.whole ≡ take found.len here = search rules in
    let each : TakesEach c.in_ok-whole.whole found.count before after = search rules in
    let taken : TakesAll here (drop found.len here) before after c.args.frames.now c.find_all-found.new.self found.stopped =
    whole_taken here (drop found.len here) before after c.args.frames.now c.find_all-found.new.self found all (subst (λ l. TakesEach l found.count before after) whole each) refl in
    let kept : 0 < length old = search rules in
    let is : here ≡ old = next_kept old piece kept in
    let rest : c.share_front.new.rest.items ≡ drop found.len old = search rules in
    let there : TakesAll old c.share_front.new.rest.items before after c.args.frames.now c.find_all-found.new.self found.stopped =
    subst (λ l. TakesAll old l before after c.args.frames.now c.find_all-found.new.self found.stopped) (ap (drop found.len) is ∙ sym rest)
    (subst (λ l. TakesAll l (drop found.len here) before after c.args.frames.now c.find_all-found.new.self found.stopped) is taken) in
    part_of_kept old c.share_front.new.rest.items piece before after c.args.frames.now c.find_all-found.new.self found.stopped kept there

pub returns-in_err-keep_partial-clause-some : goal.returns-in_err-keep_partial-clause-some
returns-in_err-keep_partial-clause-some g c =
    let old = c.args.rest.now.items in
    let piece = c.args.piece.now in
    let here = kept_or_piece old piece in
    let before = map seen c.args.results.now.items in
    let after = map seen c.read_frames.new.results.items in
    let found : Found = record { len = c.found.inside.len; count = c.found.inside.count; stopped = c.found.inside.stopped } in
    let all : FindsAll here c.args.frames.now c.find_all-found.new.self found = search rules in
    let whole : c.in_ok-whole.whole ≡ take found.len here = search rules in
    let each : TakesEach c.in_ok-whole.whole found.count before after = search rules in
    let taken : TakesAll here (drop found.len here) before after c.args.frames.now c.find_all-found.new.self found.stopped =
    whole_taken here (drop found.len here) before after c.args.frames.now c.find_all-found.new.self found all (subst (λ l. TakesEach l found.count before after) whole each) refl in
    let some : TakesSome (old ++ piece) before after = some_of_next old piece before after (some_of_all here (drop found.len here) before after c.args.frames.now c.find_all-found.new.self found.stopped taken) in
    search rules

pub returns-clause-ok : goal.returns-clause-ok
returns-clause-ok g c =
    let old = c.args.rest.now.items in
    let piece = c.args.piece.now in
    let here = kept_or_piece old piece in
    let before = map seen c.args.results.now.items in
    let after = map seen c.read_frames.new.results.items in
    let found : Found = record { len = c.found.inside.len; count = c.found.inside.count; stopped = c.found.inside.stopped } in
    let all : FindsAll here c.args.frames.now c.find_all-found.new.self found = search rules in
    let whole : c.in_ok-whole.whole ≡ take found.len here = search rules in
    let each : TakesEach c.in_ok-whole.whole found.count before after = search rules in
    let taken : TakesAll here (drop found.len here) before after c.args.frames.now c.find_all-found.new.self found.stopped =
    whole_taken here (drop found.len here) before after c.args.frames.now c.find_all-found.new.self found all (subst (λ l. TakesEach l found.count before after) whole each) refl in
    let none : length old ≡ 0 = search rules in
    let is : here ≡ piece = next_piece old piece none in
    let rest : c.share_front.new.rest.items ≡ drop found.len old = search rules in
    let nothing : c.share_front.new.rest.items ≡ [] = rest ∙ drop_of_length-le old (omega (arith, none)) in
    let behind : c.keep_partial.new.rest.items ≡ c.share_front.new.rest.items ++ drop found.len piece = search rules in
    let kept : c.keep_partial.new.rest.items ≡ drop found.len piece = behind ∙ ap (λ l. l ++ drop found.len piece) nothing in
    let there : TakesAll piece c.keep_partial.new.rest.items before after c.args.frames.now c.find_all-found.new.self found.stopped =
    subst (λ l. TakesAll piece l before after c.args.frames.now c.find_all-found.new.self found.stopped) (ap (drop found.len) is ∙ sym kept)
    (subst (λ l. TakesAll l (drop found.len here) before after c.args.frames.now c.find_all-found.new.self found.stopped) is taken) in
    part_of_piece old c.keep_partial.new.rest.items piece before after c.args.frames.now c.find_all-found.new.self found.stopped none there
