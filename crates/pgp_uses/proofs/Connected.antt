-- What a connection's next message is.
use Rattle.pgp_uses.proofs.Common.{◌≡◌, ℕ, Bool, true, false, List, Option, Some, None, Ok, sym, subst, ◌⊎◌, Event, Message, DataRow, ErrorResponse, view, IsSo, received_as, row_if, is_part, IsPartial, TakesFrame, IsCut, Nexts, Shown, nexted, Took, TookEnd, with_incoming, ConnectionError}
use Rattle.pgp_message.specs.Parts.{CountedBytes}
use Rattle.pgp_message.specs.declared.message as code
use Rattle.pgp_uses.specs.declared.client.Received.{Received}
use Rattle.pgp_uses.specs.declared.client.Received.TheVariants as received
use Rattle.pgp_session.specs.Connection.{Comes}

pub none_comes : {A : Type 0} (lacks : Type 0) (old new : Shown) → Nexts {A = A} lacks old new (Ok None) → IsPartial old.incoming × (new ≡ old)
none_comes lacks old new (IsCut phase limit partial same) = (partial, same)
none_comes lacks old new (Comes m rest phase limit frame h) = absurd h

-- a message was taken, and reported so
pub record Taken (old new : Shown) (e : Event) (m : Message) : Type 0 where
  pub rest : List ℕ
  pub frame : TakesFrame old.incoming (Ok m) rest
  pub took : Took m (with_incoming rest old) new e ⊎ TookEnd m (with_incoming rest old) new e

pub one_comes : {A : Type 0} (lacks : Type 0) (old new : Shown) (e : Event) (m : Message) → Nexts {A = A} lacks old new (Ok (Some (e, m))) → Taken old new e m
one_comes lacks old new e m (Comes n rest phase limit frame h) = record {
  rest = rest;
  frame = subst (λ (x : Message). TakesFrame old.incoming (Ok x) rest) (sym h.0) frame;
  took = subst (λ (x : Message). Took x (with_incoming rest old) new e ⊎ TookEnd x (with_incoming rest old) new e) (sym h.0) h.1;
}

pub none_given : {A B : Type 0} (lacks : Type 0) (old new : Shown) (o : Option (Event × code.Message.Message B)) → o ≡ None → Nexts {A = A} lacks old new (nexted {A = B} {E = ConnectionError A} (Ok o)) → IsPartial old.incoming × (new ≡ old)
none_given {A} {B} lacks old new o e n = none_comes {A = A} lacks old new (subst (λ (x : Option (Event × code.Message.Message B)). Nexts {A = A} lacks old new (nexted {A = B} {E = ConnectionError A} (Ok x))) e n)

pub some_given : {A B : Type 0} (lacks : Type 0) (old new : Shown) (o : Option (Event × code.Message.Message B)) (e : Event) (m : code.Message.Message B) → o ≡ Some (e, m) → Nexts {A = A} lacks old new (nexted {A = B} {E = ConnectionError A} (Ok o)) → Taken old new e (view m)
some_given {A} {B} lacks old new o e m is n = one_comes {A = A} lacks old new e (view m) (subst (λ (x : Option (Event × code.Message.Message B)). Nexts {A = A} lacks old new (nexted {A = B} {E = ConnectionError A} (Ok x))) is n)

module _ {A : Type 0} where
  no_row : (b : Bool) (e : Event) (row : CountedBytes) → received.Nothing ≡ row_if {A = A} b e row → ⊥
  no_row true e row is = cc
  no_row false e row is = cc

  not_nothing : (name : ℕ) (e : Event) (m : Message) → received.Nothing ≡ received_as {A = A} name e m → ⊥
  not_nothing name e (DataRow row) is = no_row (is_part name e) e row is
  not_nothing name e (ErrorResponse fields) is = cc
  not_nothing name e m is = cc

  pub is_so : (name : ℕ) (c : Received A) (old new : Shown) (e : Event) (m : Message) → c ≡ received_as {A = A} name e m → Taken old new e m → IsSo name c old new
  is_so name received.Nothing old new e m is t = absurd (not_nothing name e m is)
  is_so name (received.Row row) old new e m is t = (m, t.rest, e, t.frame, t.took, is)
  is_so name (received.Failed f fields) old new e m is t = (m, t.rest, e, t.frame, t.took, is)
  is_so name (received.Other f) old new e m is t = (m, t.rest, e, t.frame, t.took, is)
