use Rattle.pgp_message.proofs.Common.{◌+◌, ◌<◌, length, arith, rules, inl, inr, IsBytes}
use Rattle.pgp_message.proofs.Cuts.{cut, found}
use Rattle.pgp_message.proofs.Fronts.{partial_is, fault_is, partial_there, fault_there}
use Rattle.pgp_message.proofs.Headers.{parts_of, short_of}
use Rattle.pgp_message.proofs.frame.Front.find.Goals as goal

pub returns-in_default-clause-fault : goal.returns-in_default-clause-fault
returns-in_default-clause-fault c =
    let bytes = c.args.bytes.now in
    let short : length bytes < 5 = short_of bytes (search rules) in
    λ fault. let w = fault_is bytes fault in absurd (omega (arith, short, w.0))

pub returns-then-len-lt4-clause-finds : goal.returns-then-len-lt4-clause-finds
returns-then-len-lt4-clause-finds c =
    let bytes = c.args.bytes.now in
    let parts = parts_of bytes c.in-Some.tag c.in-Some.len (search rules) in
    let each : IsBytes bytes = λ i. omega (arith, c.type_inv.bytes i) in
    fault_there bytes each parts.long (omega (arith, parts.len, c.if-len-lt4.true))

pub returns-then-len-lt4-clause-waits : goal.returns-then-len-lt4-clause-waits
returns-then-len-lt4-clause-waits c =
    let bytes = c.args.bytes.now in
    let parts = parts_of bytes c.in-Some.tag c.in-Some.len (search rules) in
    λ part.
    elim (partial_is bytes part) [
      | inl short ↦ absurd (omega (arith, short, parts.long))
      | inr w ↦ absurd (omega (arith, w.0, parts.len, c.if-len-lt4.true))
    ]

pub returns-then-bytes-total-clause-finds : goal.returns-then-bytes-total-clause-finds
returns-then-bytes-total-clause-finds c =
    let bytes = c.args.bytes.now in
    let parts = parts_of bytes c.in-Some.tag c.in-Some.len (search rules) in
    let each : IsBytes bytes = λ i. omega (arith, c.type_inv.bytes i) in
    partial_there bytes each (omega (arith, parts.len, c.if-len-lt4.false)) (omega (arith, parts.len, c.if-bytes-total.true))

pub returns-then-bytes-total-clause-fault : goal.returns-then-bytes-total-clause-fault
returns-then-bytes-total-clause-fault c =
    let bytes = c.args.bytes.now in
    let parts = parts_of bytes c.in-Some.tag c.in-Some.len (search rules) in
    λ fault. let w = fault_is bytes fault in absurd (omega (arith, w.1, parts.len, c.if-len-lt4.false))

pub returns-clause-finds : goal.returns-clause-finds
returns-clause-finds c =
    let bytes = c.args.bytes.now in
    let n = c.in-Some.len in
    let parts = parts_of bytes c.in-Some.tag n (search rules) in
    let each : IsBytes bytes = λ i. omega (arith, c.type_inv.bytes i) in
    found bytes n c.in-Some.tag (n + 1) (cut bytes n each (omega arith) parts.len c.if-len-lt4.false (omega arith)) parts.tag (search rules)

pub returns-clause-waits : goal.returns-clause-waits
returns-clause-waits c =
    let bytes = c.args.bytes.now in
    let parts = parts_of bytes c.in-Some.tag c.in-Some.len (search rules) in
    λ part.
    elim (partial_is bytes part) [
      | inl short ↦ absurd (omega (arith, short, parts.long))
      | inr w ↦ absurd (omega (arith, w.1, parts.len, c.if-bytes-total.false))
    ]

pub returns-clause-fault : goal.returns-clause-fault
returns-clause-fault c =
    let bytes = c.args.bytes.now in
    let parts = parts_of bytes c.in-Some.tag c.in-Some.len (search rules) in
    λ fault. let w = fault_is bytes fault in absurd (omega (arith, w.1, parts.len, c.if-len-lt4.false))
