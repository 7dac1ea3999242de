use Rattle.pgtrace_session.proofs.Common.{List, length, rules, subst, map, string_bytes, AllByRecursion, IsFinished, IsRefused, TakesItem, IsPlaceIn, value_at, Column, column_first, AddsValue, AddsValues, ok_then}
use Rattle.pgtrace_session.proofs.RowLemmas.{values_end, values_fault, values_more}
use Rattle.pgtrace_session.proofs.row.put_values.Goals as goal

pub items-preserved : goal.items-preserved
items-preserved g c =
    let style = c.args.style in
    let value = value_at c.args.buffer.now in
    let before = c.items.places in
    let after = c.next.new.self in
    let x = c.in-Ok-Some.place in
    let old = string_bytes c.items.line in
    let mid = string_bytes c.put_place.new.line in
    let takes : TakesItem before x after = search rules in
    let adds : AddsValue style (column_first c.items.rest.now) (value x) old mid = subst (λ k. AddsValue style k (value x) old mid) c.column_first.ensures c.in_ok-put_place-in-Ok-Some.ensures.adds in (
      λ new more. c.items.invariant.0 new (values_more style c.items.rest.now value before after x old mid new takes adds
          (subst (λ (l : List Column). AddsValues style l (map value after.items) after.end mid new) c.behind_first-rest.ensures more)),
      (subst (AllByRecursion (IsPlaceIn (length c.args.buffer.now))) takes.items c.items.invariant.1).1,
    )

pub returns-in-Ok-None-clause-adds : goal.returns-in-Ok-None-clause-adds
returns-in-Ok-None-clause-adds g c =
    let before = c.items.places in
    let after = c.next.new.self in
    let old = string_bytes c.items.line in
    let new = string_bytes c.end_list.new.line in
    let ends : IsFinished before after = search rules in
    ok_then c.end_list.result (λ grown. c.items.invariant.0 new (values_end c.args.style c.items.rest.now (value_at c.args.buffer.now) before after old new ends grown)) c.end_list.ensures.part

pub returns-in-Err-clause-adds : goal.returns-in-Err-clause-adds
returns-in-Err-clause-adds g c =
    let before = c.items.places in
    let after = c.next.new.self in
    let old = string_bytes c.items.line in
    let new = string_bytes c.put_fault.new.line in
    let e = c.in-Err.e in
    let ends : IsRefused before e after = search rules in
    ok_then c.put_fault.result (λ grown. c.items.invariant.0 new (values_fault c.args.style c.items.rest.now (value_at c.args.buffer.now) before after e old new ends grown)) c.put_fault.ensures.parts
