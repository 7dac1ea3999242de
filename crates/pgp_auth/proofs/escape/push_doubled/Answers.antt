use Rattle.pgp_auth.proofs.Common.{◌++◌, ◌∙◌, string_bytes, doubled}
use Rattle.pgp_auth.proofs.Quoting.{cut_behind, run_step, run_end}
use Rattle.pgp_auth.proofs.escape.push_doubled.Goals as goal

pub range-requires-clause-end_boundary : goal.range-requires-clause-end_boundary
range-requires-clause-end_boundary g c =
    cut_behind c.args.form.quote c.args.form.slashes c.as_bytes.result.now c.runs.rest.now c.in-Some.at c.as_bytes.ensures.value c.requires c.as_bytes.ensures.utf8 c.in-Some.ensures

pub range-requires-in-Some-clause-end_boundary : goal.range-requires-in-Some-clause-end_boundary
range-requires-in-Some-clause-end_boundary g c =
    cut_behind c.args.form.quote c.args.form.slashes c.as_bytes.result.now c.runs.rest.now c.in-Some.at c.as_bytes.ensures.value c.requires c.as_bytes.ensures.utf8 c.in-Some.ensures

pub range_from-rest-requires : goal.range_from-rest-requires
range_from-rest-requires g c some_ =
    cut_behind c.args.form.quote c.args.form.slashes c.as_bytes.result.now c.runs.rest.now c.in-Some.at c.as_bytes.ensures.value c.requires c.as_bytes.ensures.utf8 c.in-Some.ensures

pub runs-preserved : goal.runs-preserved
runs-preserved g c =
    let step = run_step c.args.form.quote c.args.form.slashes c.in-Some.at c.as_bytes.result.now c.runs.rest.now (string_bytes c.runs.out) (string_bytes c.args.out.now ++ doubled c.args.form.quote c.args.form.slashes c.args.input.now) c.as_bytes.ensures.value c.in-Some.ensures c.runs.invariant.written in
    let first = c.in_ok-push_str.ensures.bytes in
    let second = c.in_ok-push_str-2.ensures.bytes in
    record {
      text = c.range_from-rest.utf8;
      written = rw (second, first, c.range.ensures.value, c.range-in-Some.ensures.value, c.range_from-rest.ensures.value) step;
    }

pub returns-clause-ok : goal.returns-clause-ok
returns-clause-ok g c =
    c.in_ok-push_str-3.ensures.bytes
    ∙ run_end c.args.form.quote c.args.form.slashes c.as_bytes.result.now c.runs.rest.now (string_bytes c.runs.out) (string_bytes c.args.out.now ++ doubled c.args.form.quote c.args.form.slashes c.args.input.now) c.as_bytes.ensures.value c.in_default.ensures c.runs.invariant.written
