use Rattle.pgp_login.proofs.Common.{◌≡◌, ℕ, List, Option, None, Some, sym, subst, rules, true, false, Error, ◌∙◌}
use Rattle.std.specs.List.{list_all}
use Rattle.pgp_base.specs.Items.{CountedItems}
use Rattle.pgp_message.specs.Items.{StringSpelled, StringRefused}
use Rattle.pgp_login.specs.Timely.{is_among}
use Rattle.pgp_login.specs.Versions.{version_of}
use Rattle.pgp_login.proofs.Speaking.{changes_by, no_change}
use Rattle.pgp_login.proofs.timely.is_answered.Goals as goal

pub returns-then-not-is_change : goal.returns-then-not-is_change
returns-then-not-is_change g c =
    let answer = c.args.answer.now in
    let still : c.is_change.result ≡ false = search rules in
    let found : c.version_in.result ≡ Some c.in-Some.version = search rules in (
      λ yes. cc,
      λ answered.
          let one = c.one_list_of_options.ensures.bytes.one answer.count answer.options answered.options c.options.result.items None c.options.result.end answered.whole c.options.ensures in
          let same = c.is_change.ensures.no still in
          no_change c.in-Some.version answered.version (g.N.Sent.offered c.args.sent.now).versions c.versions-2.result (version_of answer.version) answered.options c.options.result.items (sym c.version_in.ensures ∙ found) answered.is (search rules) one.0 same.0 same.1 answered.changes,
    )

pub returns : goal.returns
returns g c =
    let walk = c.options-2.result in
    let answer = c.args.answer.now in
    let changed : c.is_change.result ≡ true = search rules in
    let one = c.one_list_of_options.ensures.bytes.one answer.count answer.options c.options.result.items walk.items c.options.result.end walk.end c.options.ensures c.options-2.ensures in (
      λ yes.
          let end = (c.all_among.ensures.0 yes).0 in
          record {
            once = search rules;
            version = c.in-Some.version;
            is = search rules;
            admitted = search rules;
            options = walk.items;
            whole = subst (λ (e : Option Error). CountedItems StringSpelled StringRefused answer.count answer.options walk.items e) end c.options-2.ensures;
            among = (c.all_among.ensures.0 yes).1;
            changes = changes_by c.in-Some.version (g.N.Sent.offered c.args.sent.now).versions c.versions-2.result walk.items c.options.result.items (search rules) one.0 (c.is_change.ensures.yes changed (one.1 ∙ end));
          },
      λ answered.
          let one = c.one_list_of_options.ensures.bytes.one answer.count answer.options answered.options walk.items None walk.end answered.whole c.options-2.ensures in
          c.all_among.ensures.1 (sym one.1, subst (λ (l : List (List ℕ)). list_all (is_among (g.N.Sent.offered c.args.sent.now).options) l ≡ true) one.0 answered.among),
    )
