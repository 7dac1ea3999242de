-- A final text that is accepted shows a key, and a first text with the empty name is the one of PostgreSQL's clients.
use Rattle.pgp_auth.proofs.Common.{◌≡◌, ℕ, List, [], ◌++◌, length, refl, sym, ap, ◌∙◌, append_cancel_left, length-zip2, mac, xor_bytes, Binding, gs2_header, first_bare, client_first, Expects, Server, Challenge, AcceptsFinal, Admits, ShowsKey}
use Rattle.std.specs.Prelude.{bit_xor}
use Rattle.pgp_auth.proofs.ServerSide.{xor_bytes_back, xor_are_bytes, length-mac, mac_bytes}
use Rattle.pgp_auth.proofs.UserNames.{empty_name}

shows_key : (c : Challenge) (text : List ℕ) → AcceptsFinal c text → ShowsKey c text
shows_key c text a =
    let code : List ℕ = mac c.verifier.stored_key a.auth in
    let same : length a.proof ≡ length code = a.len ∙ sym (length-mac c.verifier.stored_key a.auth) in
    record {
      front = a.front;
      auth = a.auth;
      key = xor_bytes a.proof code;
      expects = a.expects;
      len = length-zip2 bit_xor a.proof code same ∙ a.len;
      bytes = xor_are_bytes a.proof code same a.bytes (mac_bytes c.verifier.stored_key a.auth);
      digest = a.key;
      text_is = rw (xor_bytes_back a.proof code same) a.final_is;
    }

pub admitted_shows : (old new : Server) (text answer : List ℕ) (a : Admits old text new answer) → ShowsKey a.challenge text
admitted_shows old new text answer a = shows_key a.challenge text a.accepts

bare_same : (b : Binding) (nonce first header bare : List ℕ) → first ≡ client_first b nonce → first ≡ header ++ bare → header ≡ gs2_header b → bare ≡ first_bare nonce
bare_same b nonce first header bare first_is text_is header_is =
    let whole : first ≡ gs2_header b ++ bare = rw header_is at text_is in
    append_cancel_left (gs2_header b) bare (first_bare nonce) (sym whole ∙ first_is)

pub empty_is : (b : Binding) (nonce m front auth : List ℕ) (x : Expects b (client_first b nonce) m front auth)
    → (x.user ≡ []) × (x.client_nonce ≡ nonce) × (x.bare ≡ first_bare x.client_nonce)
empty_is b nonce m front auth x =
    let bare_is : x.bare ≡ first_bare nonce = bare_same b nonce (client_first b nonce) x.header x.bare refl x.cut.text_is x.header_is in
    let both = empty_name x.user x.client_nonce nonce x.user_is.spelled (sym x.bare_is ∙ bare_is) in
    (both.0, both.1, bare_is ∙ ap first_bare (sym both.1))
