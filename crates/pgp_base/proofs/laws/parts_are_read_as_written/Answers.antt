use Rattle.pgp_base.proofs.Common.{◌<◌, ◌^◌, FitsSigned, w16, w32, from_be_bytes, cast_signed, int16, int32, uint16, oid}
use Rattle.pgp_base.proofs.MarkedLemmas.{mark_parts, is_unmarked}
use Rattle.pgp_base.proofs.PartLemmas.{int16_number, int32_number, uint16_number, oid_number}
use Rattle.pgp_base.proofs.Spellings.{number_reads, byte_reads, string_reads, text_reads}
use Rattle.pgp_base.proofs.laws.parts_are_read_as_written.Goals as goal

pub returns : goal.returns
returns c = record {
  bytes = byte_reads;
  uint16s = number_reads 2 (λ n. n < 2 ^ 16) uint16 (λ l. from_be_bytes w16 l) uint16_number;
  int16s = number_reads 2 (FitsSigned w16) int16 (λ l. cast_signed w16 (from_be_bytes w16 l)) int16_number;
  int32s = number_reads 4 (FitsSigned w32) int32 (λ l. cast_signed w32 (from_be_bytes w32 l)) int32_number;
  oids = number_reads 4 (λ n. n < 2 ^ 32) oid (λ l. from_be_bytes w32 l) oid_number;
  strings = string_reads;
  texts = text_reads;
  marks = mark_parts;
  no_marks = λ bytes more e. is_unmarked bytes e more;
}
