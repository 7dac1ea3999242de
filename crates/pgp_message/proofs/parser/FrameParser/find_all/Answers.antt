use Rattle.pgp_message.proofs.Common.{◌≡◌, ◌+◌, ◌-◌, ◌≤◌, drop, length, rules, header_of, count_of}
use Rattle.pgp_message.proofs.FindLemmas.{count_one, found_within, known_counts, finds_all}
use Rattle.pgp_message.proofs.parser.FrameParser.find_all.Goals as goal

pub header_behind-behind-requires-clause-within : goal.header_behind-behind-requires-clause-within
header_behind-behind-requires-clause-within c = search rules

pub overflow_add-read : goal.overflow_add-read
overflow_add-read c =
    let within : c.whole_frames-found.result.count ≤ length c.args.bytes.now = found_within c.args.bytes.now c.whole_frames-found.result c.whole_frames-found.ensures in
    let same : c.found.inside.count ≡ c.whole_frames-found.result.count = search rules in
    search (rules, within, same, count_one c.header_behind-behind.result)

pub returns : goal.returns
returns c =
    let behind = c.header_behind-behind.result in
    let known = c.args.self.now.header in
    let finds = c.whole_frames-found.ensures in
    let is : behind ≡ header_of (drop c.whole_frames-found.result.len c.args.bytes.now) = search rules in
    finds_all c.args.bytes.now c.args.self.now _ c.whole_frames-found.result (c.found.inside.count + count_of behind - count_of known) finds is (search rules)
    (known_counts c.args.bytes.now known behind c.whole_frames-found.result finds is c.requires) (λ small. search rules)
