use Rattle.pgp_base.proofs.Common.{◌≡◌, ◌<◌, ◌^◌, None, FitsSigned, w16, int16, oid, nullable, nullable_cause}
use Rattle.pgp_base.proofs.Prefixes.{int16_begins, uint32_begins, nullable_begins, counted_begins}
use Rattle.pgp_base.proofs.laws.counted_lists_begin_no_other.Goals as goal

pub returns : goal.returns
returns c = record {
  int16s = counted_begins (FitsSigned w16) int16 int16_begins;
  oids = counted_begins (λ n. n < 2 ^ 32) oid uint32_begins;
  values = counted_begins (λ v. nullable_cause v ≡ None) nullable nullable_begins;
}
