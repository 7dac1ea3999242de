-- Calls of a proxy, one after the other.
use Rattle.pgp_session.proofs.Common.{◌≡◌, ℕ, List, [], ◌∷◌, ◌++◌, Some, Ok, sym, ap, ◌∙◌, append_assoc, Bor, flat_map, Held, ◌⊕◌, nothing_more, ClientMessage, PasswordKind, bytes_of, Unread, Call, ProxiesAll, PassesOn, NoneReceived, NoneRead, OneRead, Went, Stayed, Proxies, all_forwarded}
use Rattle.pgp_frontend_read.specs.Forwards.{Forwards}
use Rattle.pgp_frontend_read.proofs.ForwardRuns.{written_then}
use Rattle.pgp_session.specs.declared.proxy.Passed.{Passed}
use Rattle.pgp_session.specs.declared.proxy.Passed.TheVariants.{Forwarded, HeldBack}

read_then : (from here next : Unread) (x : ClientMessage) (rest : List ℕ) → from.bytes ≡ bytes_of x ++ here.bytes → here.bytes ≡ rest ++ next.bytes → from.bytes ≡ (bytes_of x ++ rest) ++ next.bytes
read_then from here next x rest e f = e ∙ ap (λ l. bytes_of x ++ l) f ∙ sym (append_assoc (bytes_of x) rest next.bytes)

module _ {K : Type 0} (refused : List (Bor (List ℕ))) (lacks : Held K → ℕ → Type 0) where
  one_more : (kind : PasswordKind) (passed : Passed) (calls : List Call) (from here next : Unread) (old held new : Held K) → Proxies refused kind lacks from old (Ok (Some passed)) here held → PassesOn refused calls here held next new → PassesOn refused (record { kind = kind; passed = passed } ∷ calls) from old next new
  one_more kind Forwarded calls from here next old held new p more = record {
    received = p.0 ∷ more.received;
    went = p.0 ∷ more.went;
    read_by = OneRead p.1 more.read_by;
    are = Went p.0 p.2 more.are;
    read = read_then from here next p.0 (flat_map bytes_of more.received) p.1.stands.whole more.read;
    written = written_then old held new (bytes_of p.0) (flat_map bytes_of more.went) p.3 more.written;
  }
  one_more kind HeldBack calls from here next old held new p more = record {
    received = p.0 ∷ more.received;
    went = more.went;
    read_by = OneRead p.1 more.read_by;
    are = Stayed p.0 p.2 more.are;
    read = read_then from here next p.0 (flat_map bytes_of more.received) p.1.stands.whole more.read;
    written = more.written ∙ ap (λ (h : Held K). h ⊕ flat_map bytes_of more.went) p.3;
  }

  pub calls_pass : (calls : List Call) (from next : Unread) (old new : Held K) → ProxiesAll refused lacks calls from old next new → PassesOn refused calls from old next new
  calls_pass [] from next old new p = record { received = []; went = []; read_by = NoneRead p.0; are = NoneReceived; read = sym (ap (λ (u : Unread). u.bytes) p.0); written = p.1 ∙ sym (nothing_more old) }
  calls_pass (call ∷ calls) from next old new p = one_more call.kind call.passed calls from p.0 next old p.1 new p.2 (calls_pass calls p.0 next p.1 new p.3)

  pub all_pass : (kinds : List PasswordKind) (from next : Unread) (old new : Held K) → ProxiesAll refused lacks (all_forwarded kinds) from old next new → Forwards lacks from.bytes next.bytes old new (Ok tt)
  all_pass [] from next old new p = record { stood = []; whole = sym (ap (λ (u : Unread). u.bytes) p.0); appends = p.1 ∙ sym (nothing_more old) }
  all_pass (kind ∷ kinds) from next old new p =
      let more = all_pass kinds p.0 next p.1 new p.3 in
      let step = p.2 in
      record {
        stood = bytes_of step.0 ++ more.stood;
        whole = read_then from p.0 next step.0 more.stood step.1.stands.whole more.whole;
        appends = written_then old p.1 new (bytes_of step.0) more.stood step.3 more.appends;
      }
