use Rattle.for_c.proofs.Common.{◌≡◌, ◌-◌, rules, refl, sym, subst, arith, true, length, take, drop, length-drop, take_all, Bind, Why}
use Rattle.for_c.specs.BindItems.{BindSoFar}
use Rattle.for_c.specs.declared.stream.PgpStream.{PgpStream}
use Rattle.for_c.proofs.Extensions.{extends, parts_of}
use Rattle.for_c.proofs.bind_items.pgp_stream_bind_end.Goals as goal

-- the call is handed all of the free memory
handed : (s : PgpStream) → take (length s.room.now - s.len) (drop s.len s.room.now) ≡ drop s.len s.room.now
handed s = take_all (length s.room.now - s.len) (drop s.len s.room.now) (omega (arith, length-drop s.len s.room.now))

pub returns-clause-added : goal.returns-clause-added
returns-clause-added c z portal statement formats values count so =
    let begun = subst (λ l. BindSoFar portal statement formats count values l c.args.items.now) (sym (handed c.args.stream.now)) so in
    extends (Bind portal statement formats values c.args.result_formats.now) c.args.stream.now _ c.pgp_bind_end-code.new.out _ c.pgp_bind_end-code.new.written _ _ refl c.if-len-stream.false (c.pgp_bind_end-code.ensures.sent z portal statement formats values count begun) c.saturating_add-stream.ensures (search rules) (search rules) (parts_of c.args.stream.now) true (search rules) (λ e. absurd cc) refl

pub returns-clause-why : goal.returns-clause-why
returns-clause-why c e is_open within few none portal statement formats values count so =
    let begun = subst (λ l. BindSoFar portal statement formats count values l c.args.items.now) (sym (handed c.args.stream.now)) so in
    subst (λ l. Why (Bind portal statement formats values c.args.result_formats.now) l c.pgp_bind_end-code.result) (handed c.args.stream.now) (c.pgp_bind_end-code.ensures.refused e few none portal statement formats values count begun).why
