use Rattle.pgtrace_session.proofs.Common.{List, rules, subst, string_bytes, IsFinished, IsRefused, TakesItem, Column, column_first, AddsValue, AddsValues, ok_then}
use Rattle.pgp_frontend_read.specs.Whole.{shown, whole}
use Rattle.pgtrace_session.proofs.RowLemmas.{each_end, each_fault, each_more}
use Rattle.pgtrace_session.proofs.bound.put_each.Goals as goal

pub items-preserved : goal.items-preserved
items-preserved g c =
    let style = c.args.style in
    let before = whole c.items.values in
    let after = whole c.next.new.self in
    let x = shown c.in-Ok-Some.value in
    let old = string_bytes c.items.line in
    let mid = string_bytes c.put_typed.new.line in
    let takes : TakesItem before x after = search rules in
    let adds : AddsValue style (column_first c.items.rest.now) x old mid = subst (λ k. AddsValue style k x old mid) c.column_first.ensures c.in_ok-put_typed-in-Ok-Some.ensures.adds in
    λ new more. c.items.invariant new (each_more style c.items.rest.now before after x old mid new takes adds
    (subst (λ (l : List Column). AddsValues style l after.items after.end mid new) c.behind_first-rest.ensures more))

pub returns-in-Ok-None-clause-adds : goal.returns-in-Ok-None-clause-adds
returns-in-Ok-None-clause-adds g c =
    let before = whole c.items.values in
    let after = whole c.next.new.self in
    let old = string_bytes c.items.line in
    let new = string_bytes c.end_list.new.line in
    let ends : IsFinished before after = search rules in
    ok_then c.end_list.result (λ grown. c.items.invariant new (each_end c.args.style c.items.rest.now before after old new ends grown)) c.end_list.ensures.part

pub returns-in-Err-clause-adds : goal.returns-in-Err-clause-adds
returns-in-Err-clause-adds g c =
    let before = whole c.items.values in
    let after = whole c.next.new.self in
    let old = string_bytes c.items.line in
    let new = string_bytes c.put_fault.new.line in
    let e = c.in-Err.e in
    let ends : IsRefused before e after = search rules in
    ok_then c.put_fault.result (λ grown. c.items.invariant new (each_fault c.args.style c.items.rest.now before after e old new ends grown)) c.put_fault.ensures.parts
