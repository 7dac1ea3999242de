use Rattle.pgp_session.proofs.Common.{◌≡◌, false, rules, List, ap, refl, sym, inl, inr, ◌∙◌, kind_of, taken, true≢false, view, seen, in_state, left_at, Setting}
use Rattle.pgp_session.specs.Connection.{done_at, offered_in}
use Rattle.pgp_client.specs.Talk.{shown as talk_of}
use Rattle.pgp_session.proofs.Connections.{key_fits, stopped_log_in, taken_no, taken_ok, took_bulk, took_so}
use Rattle.pgp_session.proofs.Reported.{heard_so}
use Rattle.pgp_session.proofs.connection_state.ConnectionState.take.Goals as goal

pub returns-then-is_bulk : goal.returns-then-is_bulk
returns-then-is_bulk g c = λ s.
    let m = view c.args.message.now in
    let talk = talk_of (λ q. q.items) c.take_message.new.self in
    inl (took_bulk m c.in-Ok.event talk (in_state c.args.self.now s) (sym c.is_bulk.ensures ∙ c.if-is_bulk.true) (taken_ok (taken (talk_of (λ q. q.items) c.args.self.now.dialogue) (kind_of m)) c.in-Ok.event talk c.in-Ok.ensures))

pub returns-in-Ok-hear : goal.returns-in-Ok-hear
returns-in-Ok-hear g c = λ s.
    let m = view c.args.message.now in
    let old = in_state c.args.self.now s in
    inl (record {
      taken = taken_ok (taken old.talk (kind_of m)) c.in-Ok.event (talk_of (λ q. q.items) c.take_message.new.self) c.in-Ok.ensures;
      due = c.is_timely.ensures.0 (search rules);
      sound = sym c.lacks_status.ensures ∙ c.if-lacks_status.false;
      kept = c.in-Ok-keep.ensures.0;
      goes_on = sym c.is_end.ensures ∙ c.if-is_end.false;
      logged = c.in-Ok-hear.ensures.follows;
      is = took_so m (seen c.hear.new.login) c.hear.new.out.items (talk_of (λ q. q.items) c.take_message.new.self) (record { state = c.note.new.self; settings = c.keep.new.self }) old
          (heard_so m c.note.new.self c.keep.new.self old.server c.note.ensures c.in-Ok-keep.ensures.1);
    })

pub returns-in-Err : goal.returns-in-Err
returns-in-Err g c = λ s.
    let old = in_state c.args.self.now s in
    let talk = talk_of (λ q. q.items) c.take_message.new.self in
    let is = taken_no (taken old.talk (kind_of (view c.args.message.now))) c.in-Err.e talk c.in-Err.ensures in
    inl (c.in-Err.e, is.0, refl, is.1, refl)

pub returns-in-Err-keep : goal.returns-in-Err-keep
returns-in-Err-keep g c = λ s.
    let old = in_state c.args.self.now s in
    let talk = talk_of (λ q. q.items) c.take_message.new.self in
    let is = taken_ok (taken old.talk (kind_of (view c.args.message.now))) c.in-Ok.event talk c.in-Ok.ensures in
    inr (inr (inl (
      (c.in-Ok.event, talk),
      is,
      c.in-Err-keep.e,
      c.in-Err-keep.ensures.0,
      refl,
      ap (λ (k : List Setting). left_at old.phase talk old.login (record { state = old.server.state; settings = k }) old) c.in-Err-keep.ensures.1,
    )))

pub returns-in-Err-hear : goal.returns-in-Err-hear
returns-in-Err-hear g c = λ s.
    let m = view c.args.message.now in
    let old = in_state c.args.self.now s in
    let talk = talk_of (λ q. q.items) c.take_message.new.self in
    let is = taken_ok (taken old.talk (kind_of m)) c.in-Ok.event talk c.in-Ok.ensures in
    stopped_log_in g.A.Memory.Lacks m old talk (seen c.hear.new.login) c.hear.new.out.items (record { state = c.note.new.self; settings = c.keep.new.self }) c.in-Ok.event c.in-Err-hear.e c.error_of.result
    is c.in-Ok-keep.ensures.0 (sym c.is_end.ensures ∙ c.if-is_end.false) c.error_of.ensures c.in-Err-hear.ensures.declines c.in-Err-hear.ensures.kept c.in-Err-hear.ensures.phase
    (heard_so m c.note.new.self c.keep.new.self old.server c.note.ensures c.in-Ok-keep.ensures.1)

pub returns-then-not-is_timely : goal.returns-then-not-is_timely
returns-then-not-is_timely g c = λ s.
    let old = in_state c.args.self.now s in
    let talk = talk_of (λ q. q.items) c.take_message.new.self in
    let is = taken_ok (taken old.talk (kind_of (view c.args.message.now))) c.in-Ok.event talk c.in-Ok.ensures in
    let late : c.is_timely.result ≡ false = search rules in
    inr (inl ((c.in-Ok.event, talk), is, inl ((λ timely. true≢false (sym (c.is_timely.ensures.1 timely) ∙ late)), refl), refl))

pub returns-then-lacks_status : goal.returns-then-lacks_status
returns-then-lacks_status g c = λ s.
    let old = in_state c.args.self.now s in
    let talk = talk_of (λ q. q.items) c.take_message.new.self in
    let is = taken_ok (taken old.talk (kind_of (view c.args.message.now))) c.in-Ok.event talk c.in-Ok.ensures in
    inr (inl ((c.in-Ok.event, talk), is, inr (c.is_timely.ensures.0 (search rules), sym c.lacks_status.ensures ∙ c.if-lacks_status.true, refl), refl))

pub note-requires : goal.note-requires
note-requires g c = key_fits (done_at c.args.self.now.login.phase) c.args.self.now.server.version (offered_in c.args.self.now.offered) (view c.args.message.now) (c.is_timely.ensures.0 (search rules))
