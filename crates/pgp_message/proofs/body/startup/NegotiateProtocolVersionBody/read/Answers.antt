use Rattle.pgp_message.proofs.Common.{rules, ◌≡◌, ◌∙◌, drop, Some, Ok, Err, to_z, of_z, int32_at, count_at}
use Rattle.std.proofs.Common.{w32}
use Rattle.pgp_message.proofs.Keys.{negotiated, miscounted, counted_room}
use Rattle.pgp_message.proofs.body.startup.NegotiateProtocolVersionBody.read.Goals as goal

pub skip-requires-2 : goal.skip-requires-2
skip-requires-2 g c =
    let count : Ok c.in_ok-len.len ≡ count_at (g.S.Storage.bytes c.skip.new.self) = search rules in
    counted_room (g.S.Storage.bytes c.skip.new.self) c.in_ok-len.len count

pub returns-in_err-len : goal.returns-in_err-len
returns-in_err-len g c =
    let bytes = g.S.Storage.bytes c.args.payload in
    let version = to_z w32 (of_z w32 c.in_ok-version.version) in
    let first : int32_at bytes ≡ Some (version, c.in_ok-version.field-0-1.now) = search rules in
    let refused : c.from_residual-in_err-len.result ≡ Err c.in_err-len.field-0.0 = search rules in
    let count : Err c.in_err-len.field-0.0 ≡ count_at (drop 4 bytes) = search rules in
    refused ∙ miscounted bytes version c.in_ok-version.field-0-1.now first c.in_err-len.field-0.0 count

pub returns : goal.returns
returns g c =
    let bytes = g.S.Storage.bytes c.args.payload in
    let version = to_z w32 (of_z w32 c.in_ok-version.version) in
    let first : int32_at bytes ≡ Some (version, c.in_ok-version.field-0-1.now) = search rules in
    let count : Ok c.in_ok-len.len ≡ count_at (drop 4 bytes) = search rules in
    search rules ∙ negotiated bytes version c.in_ok-version.field-0-1.now first c.in_ok-len.len count
