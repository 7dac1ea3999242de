use Rattle.pgp_login.proofs.Common.{◌≡◌, length}
use Rattle.std.specs.List.{list_all}
use Rattle.pgp_login.specs.Timely.{is_among}
use Rattle.pgp_login.proofs.timely.all_among.Given as goal

abbrev pub invariant-names : goal.invariant-names
invariant-names g l = record {
  end : l.names.end ≡ l.fn.names.end;
  all : list_all (is_among (g.N.Sent.offered l.sent).options) l.fn.names.items ≡ list_all (is_among (g.N.Sent.offered l.sent).options) l.names.items;
}

abbrev pub decreases-names : goal.decreases-names
decreases-names g l = length l.names.items
