use Rattle.for_c.proofs.Common.{◌∷◌, ◌^◌, ◌<◌, suc, ap, subst, ◌∙◌, rules, from_be_bytes, w16, uint16, uint16_number, IsBytes}
use Rattle.pgp_base.proofs.Spellings.{byte_reads, number_reads}
use Rattle.for_c.proofs.front.copy_head.Goals as goal

pub returns-clause-some : goal.returns-clause-some
returns-clause-some c =
    let payload : IsBytes c.args.payload.now = search rules in
    let format = byte_reads.found c.args.payload.now c.in-Ok.format c.in-Ok.behind.now payload (search rules) in
    let behind : IsBytes c.in-Ok.behind.now = λ i. subst IsBytes format.1 payload (suc i) in
    let count = (number_reads 2 (λ n. n < 2 ^ 16) uint16 (λ l. from_be_bytes w16 l) uint16_number).found c.in-Ok.behind.now c.in-Ok-uint16_at.count c.in-Ok-uint16_at.field-0-1.now behind (search rules) in
    (count.0, c.in-Ok-uint16_at.field-0-1.now, format.1 ∙ ap (λ l. c.in-Ok.format ∷ l) count.1)
