use Rattle.pgp_base.proofs.Common.{◌<◌, ◌^◌, FitsSigned, w64, from_be_bytes, cast_signed, int64, uint64}
use Rattle.pgp_base.proofs.PartLemmas.{int64_number, uint64_number}
use Rattle.pgp_base.proofs.Prefixes.{int16_begins, int32_begins, uint16_begins, uint32_begins}
use Rattle.pgp_base.proofs.Spellings.{number_begins}
use Rattle.pgp_base.proofs.laws.numbers_begin_no_other.Goals as goal

pub returns : goal.returns
returns c = record {
  int16s = int16_begins;
  int32s = int32_begins;
  int64s = number_begins 8 (FitsSigned w64) int64 (λ l. cast_signed w64 (from_be_bytes w64 l)) int64_number;
  uint16s = uint16_begins;
  uint32s = uint32_begins;
  uint64s = number_begins 8 (λ n. n < 2 ^ 64) uint64 (λ l. from_be_bytes w64 l) uint64_number;
}
