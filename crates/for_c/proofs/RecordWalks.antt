-- The items of records and multiranges stand at their places among the bytes.
use Rattle.for_c.proofs.Common.{◌≡◌, ℕ, ◌+◌, ◌-◌, ◌≤◌, List, ◌++◌, length, take, drop, Ok, refl, sym, ap, subst, ◌∙◌, arith, length-append, StandsAt, Walk, hint_of, uint32, length-uint32, Begins, item_count, ListReads, member, Field, field, value_in, column_before, StandsFrom, rest_of, PgpColumn}
use Rattle.std.proofs.lemmas.List.{append_assoc}
use Rattle.pgp_types.specs.Part.{Part}
use Rattle.for_c.specs.Records.{BeginsList}
use Rattle.for_c.proofs.Compound.{column_in, value_size}
use Rattle.for_c.proofs.Listings.{part_stands}
use Rattle.for_c.proofs.Walks.{rest_after}

-- the items that are announced
pub begins_list : {V : Type 0} (item : Part V) (bytes : List ℕ) (n end : ℕ) (w : Walk V) → ListReads item bytes (Ok w) → n ≡ (hint_of w.announced).0 → end ≡ length bytes → BeginsList bytes (record { at = 4; end = end; left = n })
begins_list item bytes n end w (m, rest, b, walk) hint last =
    let reported : n ≡ m = hint ∙ ap (λ a. (hint_of a).0) walk.announced in
    let size : length b.front ≡ 4 = ap length b.spelled.1 ∙ length-uint32 m in
    let left : rest_of bytes 4 end ≡ rest = rest_after b.front rest bytes 4 end b.whole size last in
    subst (λ k. Begins item_count bytes k (rest_of bytes 4 end)) (sym reported) (record { front = b.front; whole = b.whole ∙ ap (λ l. b.front ++ l) (sym left); spelled = b.spelled })

-- a field has a type and a length
pub field_long : (rest more : List ℕ) (x : Field) → Begins field.part rest x more → length more + 8 ≤ length rest
field_long rest more x b =
    omega (arith, ap length b.whole, length-append b.front more, ap length b.spelled.whole, length-append b.spelled.first b.spelled.second, ap length b.spelled.one.1, length-uint32 x.0, value_size x.1 b.spelled.second b.spelled.other)

pub field_placed : (bytes rest more : List ℕ) (x : Field) (at : ℕ) (value : PgpColumn) → StandsFrom bytes at rest → Begins field.part rest x more → value ≡ column_before x.1 (at + (length rest - length more))
    → StandsAt (λ place. field.part.Spelled) at rest (x.0, value_in bytes value) more
field_placed bytes rest more x at value from b is =
    let parts : rest ≡ b.spelled.first ++ (b.spelled.second ++ more) = b.whole ∙ (ap (λ l. l ++ more) b.spelled.whole ∙ append_assoc b.spelled.first b.spelled.second more) in
    let placed : value_in bytes value ≡ x.1 = ap (λ v. value_in bytes v) is ∙ column_in bytes rest b.spelled.first b.spelled.second more x.1 at _ from b.spelled.other parts refl in
    let found : StandsAt (λ place. field.part.Spelled) at rest x more = record { front = b.front; whole = b.whole; spelled = b.spelled } in
    subst (λ v. StandsAt (λ place. field.part.Spelled) at rest (x.0, v) more) (sym placed) found

-- a range has a length
pub range_long : (rest more v : List ℕ) → Begins member.part rest v more → length rest ≡ 4 + (length v + length more)
range_long rest more v b =
    omega (arith, ap length b.whole, length-append b.front more, ap length b.spelled.1, length-append (uint32 (length v)) v, length-uint32 (length v))

pub range_stands : (bytes rest more v : List ℕ) (at : ℕ) → StandsFrom bytes at rest → Begins member.part rest v more → StandsAt (λ place. member.part.Spelled) at rest (take (length v) (drop (at + 4) bytes)) more
range_stands bytes rest more v at from b =
    let head = uint32 (length v) in
    let parts : rest ≡ head ++ (v ++ more) = b.whole ∙ (ap (λ l. l ++ more) b.spelled.1 ∙ append_assoc head v more) in
    let place : at + 4 ≡ at + length head = omega (arith, length-uint32 (length v)) in
    let is : take (length v) (drop (at + 4) bytes) ≡ v = ap (λ k. take (length v) (drop k bytes)) place ∙ part_stands bytes rest head v more at from parts in
    let found : StandsAt (λ place. member.part.Spelled) at rest v more = record { front = b.front; whole = b.whole; spelled = b.spelled } in
    subst (λ l. StandsAt (λ place. member.part.Spelled) at rest l more) (sym is) found
