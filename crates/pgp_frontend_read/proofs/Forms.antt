-- Messages: what is read from a payload is the message of that payload, and each message is read from its own.
use Rattle.pgp_frontend_read.proofs.Common.{◌≡◌, ℕ, ◌+◌, ◌-◌, ◌<◌, ◌^◌, true, false, List, [], ◌∷◌, ◌++◌, length, Option, Some, None, Result, Ok, Err, refl, sym, ap, subst, ◌∙◌, arith, inl, inr, FitsSigned, IfSome, ◌==◌, nat_lt, nat_le, w32, from_be_bytes, cast_signed, cast_unsigned, eqb-true, ne_eqb, le-ltb, ltb-false, leb-false, lt-leb, to_z_pos, of_z-to_z, append-nil, IsBytes, oid, int32, uint32, length_cause, oid_at, Error, UnknownTag, length_fits, either_none, int32_spelled, oid_number, number_takes, number_again, ClientMessage, Bind, Close, CopyData, CopyDone, CopyFail, Describe, Execute, Flush, Parse, PasswordMessage, Query, SaslInitialResponse, SaslResponse, Sync, Terminate, Startup, CancelRequest, SslRequest, GssEncRequest, FunctionCall, PasswordKind, Password, Initial, Response, Part, Int32, Key, Pairs, joined, parts, payload, tag_of, kind_of, part_cause, parts_cause, EachInRange, HasMinor, Shape, AByte, AnInt16, AnInt32, AnOid, AText, SomeInt16s, SomeOids, SomeValues, ANullable, AKey, SomePairs, IsNamed, IsSpelled, EachHasSpelling, spelled_parts, Contents, parts_of, contents_at, made, ended, bind_of, close_of, describe_of, execute_of, function_call_of, parse_of, query_of, copy_fail_of, password_of, sasl_initial_of, reported_of, body_of, startup_of, cancel_of, named, by_code, by_front, packet_of, ClientError, UnknownPacket, ok, ok_is}
use Rattle.std.specs.Prelude.{pos}
use Rattle.pgp_frontend_read.proofs.Contents.{contents_found, contents_again, TakesAllLast}
use Rattle.pgp_frontend_read.proofs.ValueLemmas.{chosen}

-- ---- what a message has, part by part

each_none : (ps : List Part) → EachHasSpelling ps → parts_cause ps ≡ None
each_none [] h = refl
each_none (p ∷ ps) h = either_none (part_cause p) (parts_cause ps) h.0.none (each_none ps h.1)

each_in_range : (ps : List Part) → EachHasSpelling ps → EachInRange ps
each_in_range [] h = tt
each_in_range (p ∷ ps) h = (h.0.in_range, each_in_range ps h.1)

-- a message after a tag has no version
no_version : (m : ClientMessage) (tag : ℕ) → tag_of m ≡ Some tag → HasMinor m
no_version (Startup v ps) tag t = absurd cc
no_version _ tag t = tt

-- the payload is the message's, and the message has a spelling
pub record IsPayload (m : ClientMessage) (bytes : List ℕ) : Type 0 where
  pub spelled : IsSpelled m
  pub are : bytes ≡ payload m

spelled_message : (m : ClientMessage) (bytes : List ℕ) → EachHasSpelling (parts m) → IsNamed m → HasMinor m → bytes ≡ payload m → length bytes + 4 < 2 ^ 31 → IsPayload m bytes
spelled_message m bytes each named minor are fits = record {
  spelled = record {
    none = either_none (parts_cause (parts m)) (length_cause (length (payload m) + 4)) (each_none (parts m) each) (length_fits (length (payload m) + 4) (omega (arith, ap length are, fits)));
    in_range = (each_in_range (parts m) each, minor);
    named = named;
  };
  are = are;
}

-- ---- forms: a message made of what parts of given shapes hold

made_ok : {X : Type 0} (f : X → ClientMessage) (r : Result X Error) (m : ClientMessage) → made f r ≡ Ok m → (x : X) × (r ≡ Ok x) × (m ≡ f x)
made_ok f (Ok x) m e = (x, refl, sym (ok_is (f x) m e))
made_ok f (Err g) m e = absurd cc

module _ (shapes : List Shape) (make : Contents shapes → ClientMessage) (are : (c : Contents shapes) → parts (make c) ≡ parts_of shapes c) where
  pub form_found : (named : (c : Contents shapes) → EachHasSpelling (parts_of shapes c) → IsNamed (make c)) (minor : (c : Contents shapes) → HasMinor (make c)) (bytes : List ℕ) (m : ClientMessage) → IsBytes bytes → length bytes + 4 < 2 ^ 31
      → made make (contents_at shapes bytes) ≡ Ok m → (c : Contents shapes) × (m ≡ make c) × IsPayload m bytes
  form_found named minor bytes m h fits e =
      let r = made_ok make (contents_at shapes bytes) m e in
      let f = contents_found shapes bytes r.0 h r.1 in
      let is : IsPayload (make r.0) bytes = spelled_message (make r.0) bytes (subst EachHasSpelling (sym (are r.0)) f.spelled) (named r.0 f.spelled) (minor r.0) (f.whole ∙ ap joined (sym (are r.0))) fits in
      (r.0, r.2, subst (λ n. IsPayload n bytes) (sym r.2) is)

  pub form_again : (c : Contents shapes) → TakesAllLast shapes → IsSpelled (make c) → made make (contents_at shapes (payload (make c))) ≡ Ok (make c)
  form_again c last h =
      ap (λ ps. made make (contents_at shapes (joined ps))) (are c) ∙ ap (made make) (contents_again shapes c last (subst EachHasSpelling (are c) (spelled_parts (make c) h)))

-- a message without parts
ended_is : (m n : ClientMessage) (bytes : List ℕ) → ended m bytes ≡ Ok n → (n ≡ m) × (bytes ≡ [])
ended_is m n [] e = (sym (ok_is m n e), refl)
ended_is m n (b ∷ bytes) e = absurd cc

-- ---- what follows each tag

-- The payload is that of a message that may come after this tag, given this kind.
pub record IsBody (kind : PasswordKind) (tag : ℕ) (bytes : List ℕ) (m : ClientMessage) : Type 0 where
  pub tagged : tag_of m ≡ Some tag
  pub reported : IfSome (kind_of m) (λ k. k ≡ kind)
  pub payload : IsPayload m bytes

bare_body : (kind : PasswordKind) (tag : ℕ) (bytes : List ℕ) (m n : ClientMessage) → parts m ≡ [] → IsNamed m → kind_of m ≡ None → tag_of m ≡ Some tag → ended m bytes ≡ Ok n → IsBody kind tag bytes n
bare_body kind tag bytes m n none named unreported tagged e =
    let r = ended_is m n bytes e in
    let is : IsBody kind tag bytes m = record {
      tagged = tagged;
      reported = subst (λ (o : Option PasswordKind). IfSome o (λ k. k ≡ kind)) (sym unreported) tt;
      payload = spelled_message m bytes (subst EachHasSpelling (sym none) tt) named (no_version m tag tagged) (r.1 ∙ ap joined (sym none)) (omega (arith, ap length r.1));
    } in
    subst (λ x. IsBody kind tag bytes x) (sym r.0) is

module _ (kind : PasswordKind) (tag : ℕ) (shapes : List Shape) (make : Contents shapes → ClientMessage) (are : (c : Contents shapes) → parts (make c) ≡ parts_of shapes c)
    (named : (c : Contents shapes) → IsNamed (make c)) (tagged : (c : Contents shapes) → tag_of (make c) ≡ Some tag) (reported : (c : Contents shapes) → IfSome (kind_of (make c)) (λ k. k ≡ kind)) where
  form_body : (bytes : List ℕ) (m : ClientMessage) → IsBytes bytes → length bytes + 4 < 2 ^ 31 → made make (contents_at shapes bytes) ≡ Ok m → IsBody kind tag bytes m
  form_body bytes m h fits e =
      let f = form_found shapes make are (λ c each. named c) (λ c. no_version (make c) tag (tagged c)) bytes m h fits e in
      record {
        tagged = ap tag_of f.1 ∙ tagged f.0;
        reported = subst (λ x. IfSome (kind_of x) (λ k. k ≡ kind)) (sym f.1) (reported f.0);
        payload = f.2;
      }

rest_body : (kind : PasswordKind) (tag : ℕ) (bytes : List ℕ) (m n : ClientMessage) → tag_of m ≡ Some tag → IfSome (kind_of m) (λ k. k ≡ kind) → EachHasSpelling (parts m) → IsNamed m → bytes ≡ payload m → length bytes + 4 < 2 ^ 31
    → ok m ≡ ok n → IsBody kind tag bytes n
rest_body kind tag bytes m n tagged reported each named are fits e =
    let is : IsBody kind tag bytes m = record { tagged = tagged; reported = reported; payload = spelled_message m bytes each named (no_version m tag tagged) are fits } in
    subst (λ x. IsBody kind tag bytes x) (ok_is m n e) is

reported_found : (kind : PasswordKind) (bytes : List ℕ) (m : ClientMessage) → IsBytes bytes → length bytes + 4 < 2 ^ 31 → reported_of kind bytes ≡ Ok m → IsBody kind 112 bytes m
unfolding password_of sasl_initial_of
reported_found Password bytes m h fits e = form_body Password 112 (AText ∷ []) (λ c. PasswordMessage c.first) (λ c. refl) (λ c. tt) (λ c. refl) (λ c. refl) bytes m h fits e
reported_found Initial bytes m h fits e = form_body Initial 112 (AText ∷ ANullable ∷ []) (λ c. SaslInitialResponse c.first c.rest.first) (λ c. refl) (λ c. tt) (λ c. refl) (λ c. refl) bytes m h fits e
reported_found Response bytes m h fits e = rest_body Response 112 bytes (SaslResponse bytes) m refl refl (record { none = refl; in_range = tt; named = tt }, tt) tt (sym (append-nil bytes)) fits e

pub body_found : (kind : PasswordKind) (tag : ℕ) (bytes : List ℕ) (m : ClientMessage) → IsBytes bytes → length bytes + 4 < 2 ^ 31 → body_of kind tag bytes ≡ Ok m → IsBody kind tag bytes m
unfolding body_of bind_of close_of describe_of execute_of function_call_of parse_of query_of copy_fail_of
body_found kind tag bytes m h fits e =
    elim (chosen (tag == 66) _ _ _ e) [
      | inl y ↦ at 66 y.0 (form_body kind 66 (AText ∷ AText ∷ SomeInt16s ∷ SomeValues ∷ SomeInt16s ∷ []) (λ c. Bind c.first c.rest.first c.rest.rest.first c.rest.rest.rest.first c.rest.rest.rest.rest.first) (λ c. refl) (λ c. tt) (λ c. refl) (λ c. tt) bytes m h fits y.1)
      | inr e ↦ elim (chosen (tag == 67) _ _ _ e.1) [
        | inl y ↦ at 67 y.0 (form_body kind 67 (AByte ∷ AText ∷ []) (λ c. Close c.first c.rest.first) (λ c. refl) (λ c. tt) (λ c. refl) (λ c. tt) bytes m h fits y.1)
        | inr e ↦ elim (chosen (tag == 68) _ _ _ e.1) [
          | inl y ↦ at 68 y.0 (form_body kind 68 (AByte ∷ AText ∷ []) (λ c. Describe c.first c.rest.first) (λ c. refl) (λ c. tt) (λ c. refl) (λ c. tt) bytes m h fits y.1)
          | inr e ↦ elim (chosen (tag == 69) _ _ _ e.1) [
            | inl y ↦ at 69 y.0 (form_body kind 69 (AText ∷ AnInt32 ∷ []) (λ c. Execute c.first c.rest.first) (λ c. refl) (λ c. tt) (λ c. refl) (λ c. tt) bytes m h fits y.1)
            | inr e ↦ elim (chosen (tag == 70) _ _ _ e.1) [
              | inl y ↦ at 70 y.0 (form_body kind 70 (AnOid ∷ SomeInt16s ∷ SomeValues ∷ AnInt16 ∷ []) (λ c. FunctionCall c.first c.rest.first c.rest.rest.first c.rest.rest.rest.first) (λ c. refl) (λ c. tt) (λ c. refl) (λ c. tt) bytes m h fits y.1)
              | inr e ↦ elim (chosen (tag == 72) _ _ _ e.1) [
                | inl y ↦ at 72 y.0 (bare_body kind 72 bytes Flush m refl tt refl refl y.1)
                | inr e ↦ elim (chosen (tag == 80) _ _ _ e.1) [
                  | inl y ↦ at 80 y.0 (form_body kind 80 (AText ∷ AText ∷ SomeOids ∷ []) (λ c. Parse c.first c.rest.first c.rest.rest.first) (λ c. refl) (λ c. tt) (λ c. refl) (λ c. tt) bytes m h fits y.1)
                  | inr e ↦ elim (chosen (tag == 81) _ _ _ e.1) [
                    | inl y ↦ at 81 y.0 (form_body kind 81 (AText ∷ []) (λ c. Query c.first) (λ c. refl) (λ c. tt) (λ c. refl) (λ c. tt) bytes m h fits y.1)
                    | inr e ↦ elim (chosen (tag == 83) _ _ _ e.1) [
                      | inl y ↦ at 83 y.0 (bare_body kind 83 bytes Sync m refl tt refl refl y.1)
                      | inr e ↦ elim (chosen (tag == 88) _ _ _ e.1) [
                        | inl y ↦ at 88 y.0 (bare_body kind 88 bytes Terminate m refl tt refl refl y.1)
                        | inr e ↦ elim (chosen (tag == 99) _ _ _ e.1) [
                          | inl y ↦ at 99 y.0 (bare_body kind 99 bytes CopyDone m refl tt refl refl y.1)
                          | inr e ↦ elim (chosen (tag == 100) _ _ _ e.1) [
                            | inl y ↦ at 100 y.0 (rest_body kind 100 bytes (CopyData bytes) m refl tt (record { none = refl; in_range = tt; named = tt }, tt) tt (sym (append-nil bytes)) fits y.1)
                            | inr e ↦ elim (chosen (tag == 102) _ _ _ e.1) [
                              | inl y ↦ at 102 y.0 (form_body kind 102 (AText ∷ []) (λ c. CopyFail c.first) (λ c. refl) (λ c. tt) (λ c. refl) (λ c. tt) bytes m h fits y.1)
                              | inr e ↦ elim (chosen (tag == 112) _ _ _ e.1) [
                                | inl y ↦ at 112 y.0 (reported_found kind bytes m h fits y.1)
                                | inr e ↦ let k : Err (UnknownTag tag) ≡ Ok m = e.1 in absurd cc
                              ]
                            ]
                          ]
                        ]
                      ]
                    ]
                  ]
                ]
              ]
            ]
          ]
        ]
      ]
    ]
  where
    at : (n : ℕ) → (tag == n) ≡ true → IsBody kind n bytes m → IsBody kind tag bytes m
    at n e b = subst (λ t. IsBody kind t bytes m) (sym (eqb-true tag n e)) b

pub some_is : (a b : ℕ) → (let x : Option ℕ = Some a in x ≡ Some b) → a ≡ b
some_is a b e = cc

-- each message is read from its own payload
password_again : (kind : PasswordKind) (z : List ℕ) → Password ≡ kind → IsSpelled (PasswordMessage z) → reported_of kind (payload (PasswordMessage z)) ≡ Ok (PasswordMessage z)
unfolding password_of
password_again kind z k h = rw (← k) (form_again (AText ∷ []) (λ c. PasswordMessage c.first) (λ c. refl) (record { first = z; rest = tt }) tt h)

initial_again : (kind : PasswordKind) (a : List ℕ) (z : Option (List ℕ)) → Initial ≡ kind → IsSpelled (SaslInitialResponse a z) → reported_of kind (payload (SaslInitialResponse a z)) ≡ Ok (SaslInitialResponse a z)
unfolding sasl_initial_of
initial_again kind a z k h =
    rw (← k) (form_again (AText ∷ ANullable ∷ []) (λ c. SaslInitialResponse c.first c.rest.first) (λ c. refl) (record { first = a; rest = record { first = z; rest = tt } }) ((λ z. z), tt) h)

response_again : (kind : PasswordKind) (z : List ℕ) → Response ≡ kind → reported_of kind (payload (SaslResponse z)) ≡ Ok (SaslResponse z)
response_again kind z k = rw (← k) (ap (λ l. ok (SaslResponse l)) (append-nil z))

pub body_again : (kind : PasswordKind) (m : ClientMessage) (tag : ℕ) → tag_of m ≡ Some tag → IfSome (kind_of m) (λ k. k ≡ kind) → IsSpelled m → body_of kind tag (payload m) ≡ Ok m
unfolding body_of bind_of close_of describe_of execute_of function_call_of parse_of query_of copy_fail_of
body_again kind (Bind a b fs vs rs) tag t k h = rw (← some_is 66 tag t)
    (form_again (AText ∷ AText ∷ SomeInt16s ∷ SomeValues ∷ SomeInt16s ∷ []) (λ c. Bind c.first c.rest.first c.rest.rest.first c.rest.rest.rest.first c.rest.rest.rest.rest.first) (λ c. refl)
    (record { first = a; rest = record { first = b; rest = record { first = fs; rest = record { first = vs; rest = record { first = rs; rest = tt } } } } }) ((λ z. z), ((λ z. z), ((λ z. z), ((λ z. z), tt)))) h)
body_again kind (Close v a) tag t k h = rw (← some_is 67 tag t) (form_again (AByte ∷ AText ∷ []) (λ c. Close c.first c.rest.first) (λ c. refl) (record { first = v; rest = record { first = a; rest = tt } }) ((λ z. z), tt) h)
body_again kind (Describe v a) tag t k h = rw (← some_is 68 tag t) (form_again (AByte ∷ AText ∷ []) (λ c. Describe c.first c.rest.first) (λ c. refl) (record { first = v; rest = record { first = a; rest = tt } }) ((λ z. z), tt) h)
body_again kind (Execute a n) tag t k h = rw (← some_is 69 tag t) (form_again (AText ∷ AnInt32 ∷ []) (λ c. Execute c.first c.rest.first) (λ c. refl) (record { first = a; rest = record { first = n; rest = tt } }) ((λ z. z), tt) h)
body_again kind (FunctionCall a fs vs n) tag t k h = rw (← some_is 70 tag t)
    (form_again (AnOid ∷ SomeInt16s ∷ SomeValues ∷ AnInt16 ∷ []) (λ c. FunctionCall c.first c.rest.first c.rest.rest.first c.rest.rest.rest.first) (λ c. refl)
    (record { first = a; rest = record { first = fs; rest = record { first = vs; rest = record { first = n; rest = tt } } } }) ((λ z. z), ((λ z. z), ((λ z. z), tt))) h)
body_again kind Flush tag t k h = rw (← some_is 72 tag t) refl
body_again kind (Parse a b ts) tag t k h = rw (← some_is 80 tag t)
    (form_again (AText ∷ AText ∷ SomeOids ∷ []) (λ c. Parse c.first c.rest.first c.rest.rest.first) (λ c. refl) (record { first = a; rest = record { first = b; rest = record { first = ts; rest = tt } } }) ((λ z. z), ((λ z. z), tt)) h)
body_again kind (Query a) tag t k h = rw (← some_is 81 tag t) (form_again (AText ∷ []) (λ c. Query c.first) (λ c. refl) (record { first = a; rest = tt }) tt h)
body_again kind Sync tag t k h = rw (← some_is 83 tag t) refl
body_again kind Terminate tag t k h = rw (← some_is 88 tag t) refl
body_again kind CopyDone tag t k h = rw (← some_is 99 tag t) refl
body_again kind (CopyData z) tag t k h = rw (← some_is 100 tag t) (ap (λ l. ok (CopyData l)) (append-nil z))
body_again kind (CopyFail a) tag t k h = rw (← some_is 102 tag t) (form_again (AText ∷ []) (λ c. CopyFail c.first) (λ c. refl) (record { first = a; rest = tt }) tt h)
body_again kind (PasswordMessage z) tag t k h = rw (← some_is 112 tag t) (password_again kind z k h)
body_again kind (SaslInitialResponse a z) tag t k h = rw (← some_is 112 tag t) (initial_again kind a z k h)
body_again kind (SaslResponse z) tag t k h = rw (← some_is 112 tag t) (response_again kind z k)
body_again kind (Startup v ps) tag t k h = absurd cc
body_again kind (CancelRequest a b) tag t k h = absurd cc
body_again kind SslRequest tag t k h = absurd cc
body_again kind GssEncRequest tag t k h = absurd cc

-- ---- opening packets

-- the payload is that of an opening packet
pub record IsPacket (bytes : List ℕ) (m : ClientMessage) : Type 0 where
  pub untagged : tag_of m ≡ None
  pub payload : IsPayload m bytes

-- a number below 2 ^ 31 with a sign
pub small_code : (n : ℕ) → n < 2 ^ 31 → FitsSigned w32 (pos n)
small_code n h = record { sfits = h }

pub plain_code : (n : ℕ) → n < 2 ^ 31 → oid n ≡ int32 (pos n)
plain_code n small =
    let signed : cast_signed w32 n ≡ pos n = to_z_pos w32 n small in
    sym (int32_spelled (pos n) ∙ ap uint32 (ap (cast_unsigned w32) (sym signed) ∙ of_z-to_z w32 n (omega (arith, small))))

-- after its code
module _ (code : ℕ) (small : code < 2 ^ 31) (shapes : List Shape) (make : Contents shapes → ClientMessage)
    (are : (c : Contents shapes) → parts (make c) ≡ Int32 (pos code) ∷ parts_of shapes c) (untagged : (c : Contents shapes) → tag_of (make c) ≡ None) where
  packet_form : (named : (c : Contents shapes) → EachHasSpelling (parts_of shapes c) → IsNamed (make c)) (minor : (c : Contents shapes) → HasMinor (make c)) (bytes rest : List ℕ) (m : ClientMessage) → IsBytes rest → length bytes + 4 < 2 ^ 31 → bytes ≡ oid code ++ rest
      → made make (contents_at shapes rest) ≡ Ok m → IsPacket bytes m
  packet_form named minor bytes rest m h short whole e =
      let r = made_ok make (contents_at shapes rest) m e in
      let f = contents_found shapes rest r.0 h r.1 in
      let each : EachHasSpelling (Int32 (pos code) ∷ parts_of shapes r.0) = (record { none = refl; in_range = small_code code small; named = tt }, f.spelled) in
      let all : bytes ≡ joined (Int32 (pos code) ∷ parts_of shapes r.0) = whole ∙ ap (λ l. l ++ rest) (plain_code code small) ∙ ap (λ l. int32 (pos code) ++ l) f.whole in
      let is : IsPayload (make r.0) bytes = spelled_message (make r.0) bytes (subst EachHasSpelling (sym (are r.0)) each) (named r.0 f.spelled) (minor r.0) (all ∙ ap joined (sym (are r.0))) short in
      let packet : IsPacket bytes (make r.0) = record { untagged = untagged r.0; payload = is } in
      subst (λ n. IsPacket bytes n) (sym r.2) packet

  packet_form_again : (c : Contents shapes) → TakesAllLast shapes → IsSpelled (make c) → (payload (make c) ≡ oid code ++ joined (parts_of shapes c)) × (made make (contents_at shapes (joined (parts_of shapes c))) ≡ Ok (make c))
  packet_form_again c last h =
      let each : EachHasSpelling (Int32 (pos code) ∷ parts_of shapes c) = subst EachHasSpelling (are c) (spelled_parts (make c) h) in
      (ap joined (are c) ∙ ap (λ l. l ++ joined (parts_of shapes c)) (sym (plain_code code small)), ap (made make) (contents_again shapes c last each.1))

names : (v : ℕ) (c : Contents (SomePairs ∷ [])) → EachHasSpelling (parts_of (SomePairs ∷ []) c) → IsNamed (Startup v c.first)
names v c h = h.0.named

-- a packet that is its code alone
bare_found : (code : ℕ) (m : ClientMessage) (bytes rest : List ℕ) (n : ClientMessage) → code < 2 ^ 31 → parts m ≡ Int32 (pos code) ∷ [] → tag_of m ≡ None → IsNamed m → HasMinor m → length bytes + 4 < 2 ^ 31 → bytes ≡ oid code ++ rest
    → ended m rest ≡ Ok n → IsPacket bytes n
bare_found code m bytes rest n small are untagged named minor short whole e =
    let r = ended_is m n rest e in
    let all : bytes ≡ payload m = whole ∙ ap (λ l. oid code ++ l) r.1 ∙ ap (λ l. l ++ []) (plain_code code small) ∙ ap joined (sym are) in
    let each : EachHasSpelling (parts m) = subst EachHasSpelling (sym are) (record { none = refl; in_range = small_code code small; named = tt }, tt) in
    let is : IsPacket bytes m = record { untagged = untagged; payload = spelled_message m bytes each named minor all short } in
    subst (λ x. IsPacket bytes x) (sym r.0) is

named_ok : (r : Result ClientMessage Error) (m : ClientMessage) → named r ≡ Ok m → r ≡ Ok m
named_ok (Ok n) m e = let same : n ≡ m = cc in ap ok same
named_ok (Err d) m e = absurd cc

abbrev pub unknown : ℕ → Result ClientMessage ClientError
unknown code = Err (UnknownPacket (cast_signed w32 code))

-- the code of a minor version of protocol 3
pub record IsVersion (code minor : ℕ) : Type 0 where
  pub are : code ≡ 196608 + minor
  pub small : minor < 2 ^ 16

pub version_there : (code : ℕ) → nat_lt code 196608 ≡ false → nat_le 262144 code ≡ false → IsVersion code (code - 196608)
version_there code low high =
    let above = ltb-false code 196608 low in
    let below = leb-false 262144 code high in
    record { are = omega (arith, above); small = omega (arith, above, below) }

code_found : (bytes : List ℕ) (code : ℕ) (rest : List ℕ) (m : ClientMessage) → IsBytes rest → length bytes + 4 < 2 ^ 31 → bytes ≡ oid code ++ rest → by_code code rest ≡ Ok m → IsPacket bytes m
unfolding by_code startup_of cancel_of
code_found bytes code rest m h short whole e =
    elim (chosen (code == 80877102) _ _ _ e) [
      | inl y ↦ packet_form 80877102 (omega arith) (AnInt32 ∷ AKey ∷ []) (λ c. CancelRequest c.first c.rest.first) (λ c. refl) (λ c. refl) (λ c each. tt) (λ c. tt) bytes rest m h short (at 80877102 y.0) (named_ok _ m y.1)
      | inr e ↦ elim (chosen (code == 80877103) _ _ _ e.1) [
        | inl y ↦ bare_found 80877103 SslRequest bytes rest m (omega arith) refl refl tt tt short (at 80877103 y.0) (named_ok _ m y.1)
        | inr e ↦ elim (chosen (code == 80877104) _ _ _ e.1) [
          | inl y ↦ bare_found 80877104 GssEncRequest bytes rest m (omega arith) refl refl tt tt short (at 80877104 y.0) (named_ok _ m y.1)
          | inr e ↦ elim (chosen (nat_lt code 196608) _ _ _ e.1) [
            | inl y ↦ let k : unknown code ≡ Ok m = y.1 in absurd cc
            | inr low ↦ elim (chosen (nat_le 262144 code) _ _ _ low.1) [
              | inl y ↦ let k : unknown code ≡ Ok m = y.1 in absurd cc
              | inr high ↦
                  let minor : ℕ = code - 196608 in
                  let v = version_there code low.0 high.0 in
                  packet_form (196608 + minor) (omega (arith, v.small)) (SomePairs ∷ []) (λ c. Startup minor c.first) (λ c. refl) (λ c. refl) (names minor) (λ c. v.small) bytes rest m h short
                  (whole ∙ ap (λ n. oid n ++ rest) v.are) (named_ok _ m high.1)
            ]
          ]
        ]
      ]
    ]
  where
    at : (n : ℕ) → (code == n) ≡ true → bytes ≡ oid n ++ rest
    at n e = whole ∙ ap (λ k. oid k ++ rest) (eqb-true code n e)

front_found : (o : Option (ℕ × List ℕ)) (m : ClientMessage) → by_front o ≡ Ok m → (x : ℕ × List ℕ) × (o ≡ Some x) × (by_code x.0 x.1 ≡ Ok m)
front_found None m e = absurd cc
front_found (Some x) m e = (x, refl, e)

pub packet_found : (bytes : List ℕ) (m : ClientMessage) → IsBytes bytes → length bytes + 4 < 2 ^ 31 → packet_of bytes ≡ Ok m → IsPacket bytes m
unfolding packet_of
packet_found bytes m h short e =
    let b = front_found (oid_at bytes) m e in
    let t = number_takes 4 (λ n. n < 2 ^ 32) oid (λ l. from_be_bytes w32 l) oid_number bytes b.0 h b.1 in
    code_found bytes b.0.0 b.0.1 m t.tail short t.parts b.2

pub coded : (code : ℕ) (rest : List ℕ) (bytes : List ℕ) (r : Result ClientMessage ClientError) → code < 2 ^ 32 → bytes ≡ oid code ++ rest → by_code code rest ≡ r → packet_of bytes ≡ r
unfolding packet_of
coded code rest bytes r small whole is =
    ap (λ l. by_front (oid_at l)) whole
    ∙ ap by_front (number_again 4 (λ n. n < 2 ^ 32) oid (λ l. from_be_bytes w32 l) oid_number code rest small) ∙ is

pub version_read : (code minor : ℕ) (rest : List ℕ) → IsVersion code minor → by_code code rest ≡ named (startup_of minor rest)
unfolding by_code
version_read code minor rest v =
    rw (
      ne_eqb code 80877102 (λ same. omega (arith, same, v.are, v.small)),
      ne_eqb code 80877103 (λ same. omega (arith, same, v.are, v.small)),
      ne_eqb code 80877104 (λ same. omega (arith, same, v.are, v.small)),
      le-ltb code 196608 (omega (arith, v.are)),
      lt-leb 262144 code (omega (arith, v.are, v.small)),
    ) (let same : code - 196608 ≡ minor = omega (arith, v.are) in ap (λ n. named (startup_of n rest)) same)

pub packet_again : (m : ClientMessage) → tag_of m ≡ None → IsSpelled m → packet_of (payload m) ≡ Ok m
unfolding by_code startup_of cancel_of
packet_again (Startup v ps) t h =
    let small = h.in_range.1 in
    let code : ℕ = 196608 + v in
    let a = packet_form_again code (omega (arith, small)) (SomePairs ∷ []) (λ c. Startup v c.first) (λ c. refl) (λ c. refl) (record { first = ps; rest = tt }) tt h in
    coded code (joined (Pairs ps ∷ [])) (payload (Startup v ps)) (Ok (Startup v ps)) (omega (arith, small)) a.0 (version_read code v (joined (Pairs ps ∷ [])) (record { are = refl; small = small }) ∙ ap named a.1)
packet_again (CancelRequest x y) t h =
    let a = packet_form_again 80877102 (omega arith) (AnInt32 ∷ AKey ∷ []) (λ c. CancelRequest c.first c.rest.first) (λ c. refl) (λ c. refl) (record { first = x; rest = record { first = y; rest = tt } }) ((λ z. z), tt) h in
    coded 80877102 (joined (Int32 x ∷ Key y ∷ [])) (payload (CancelRequest x y)) (Ok (CancelRequest x y)) (omega arith) a.0 (ap named a.1)
packet_again SslRequest t h = coded 80877103 [] (payload SslRequest) (Ok SslRequest) (omega arith) (ap (λ l. l ++ []) (sym (plain_code 80877103 (omega arith)))) refl
packet_again GssEncRequest t h = coded 80877104 [] (payload GssEncRequest) (Ok GssEncRequest) (omega arith) (ap (λ l. l ++ []) (sym (plain_code 80877104 (omega arith)))) refl
packet_again _ t h = absurd cc
