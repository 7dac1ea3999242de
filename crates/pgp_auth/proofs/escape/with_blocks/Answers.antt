use Rattle.pgp_auth.proofs.Common.{◌≡◌, ◌++◌, rules, string_bytes, IsUtf8-append, IsUtf8-string_bytes, doubled}
use Rattle.pgp_auth.proofs.Doubles.{utf8_doubled}
use Rattle.pgp_auth.proofs.Quoting.{true_not_false}
use Rattle.pgp_auth.proofs.escape.with_blocks.Goals as goal

pub unreachable-requires : goal.unreachable-requires
unreachable-requires g c =
    let z = c.as_bytes.result.now in
    let more = utf8_doubled c.args.form.quote c.args.form.slashes z c.requires c.as_bytes.ensures.utf8 in
    let text = IsUtf8-append (string_bytes c.args.out) (doubled c.args.form.quote c.args.form.slashes z) (IsUtf8-string_bytes c.args.out) more in
    let all : c.push_blocks.new.out.items ≡ string_bytes c.args.out ++ doubled c.args.form.quote c.args.form.slashes z = search rules in
    true_not_false (rw c.in-Err.is at (c.from_utf8.ensures.succeeds (rw all text)))
