-- Why a body is rejected: what the code says is what the grammar says.
use Rattle.pgp_frontend_read.proofs.Common.{◌≡◌, ◌≢◌, ℕ, ℤ, pos, zero, suc, ◌+◌, ◌-◌, ◌<◌, ◌≤◌, ◌^◌, true, false, List, [], ◌∷◌, ◌++◌, length, map, Option, Some, None, Result, Ok, Err, refl, sym, ap, subst, ◌∙◌, append_assoc, arith, inl, inr, FitsSigned, length-append, ◌==◌, ◌⊎◌, nat_lt, nat_le, IfSome, w16, w32, from_be_bytes, cast_signed, cast_unsigned, flat_map, AllByRecursion, eqb-true, eq-eqb, ltb-true, ltb-false, leb-true, to_z_pos, of_z-to_z, IsBytes, oid, int16, int32, uint16, uint32, text, nullable, Cause, ◌>>=◌, front_at, byte_at, uint16_at, oid_at, string_at, marked_run, read_on, drained, Error, UnknownTag, UnexpectedEof, NotDrained, InvalidValueLength, IsNumber, oid_number, int16_number, int32_number, uint16_number, number_takes, number_short, no_string, null_spelled, int32_spelled, uint32_begins, string_takes, string_whole, ClientMessage, Bind, Close, CopyData, CopyDone, CopyFail, Describe, Execute, Flush, Parse, PasswordMessage, Query, SaslInitialResponse, SaslResponse, Sync, Terminate, Startup, CancelRequest, SslRequest, GssEncRequest, FunctionCall, PasswordKind, Password, Initial, Response, Part, Int32, Key, Pairs, pair, parts, tag_of, kind_of, key_cause, HasMinor, Shape, AByte, AnInt16, AnInt32, AnOid, AText, SomeInt16s, SomeOids, SomeValues, ANullable, AllBytes, AKey, SomePairs, shape, null_length, Content, Contents, IsShort, HasWrongLength, LacksValue, LacksItems, IsCutPair, LacksEnd, Lacks, Faulty, items_at, items_on, with_front, counted_at, format_at, type_at, value_at, value_after, pair_at, all_of, pairs_at, unless, key_at, content_at, contents_at, contents_on, before, ended, made, bind_of, close_of, describe_of, execute_of, function_call_of, parse_of, query_of, copy_fail_of, password_of, sasl_initial_of, reported_of, body_of, startup_of, cancel_of, named, by_code, by_front, packet_of, BlamesFrame, BlamesPacket, ClientError, UnknownPacket, Reading, differ, err, err_is}
use borrow.Author.Gap.{read_sfits}
use Rattle.pgp_frontend_read.proofs.Items.{IsItem, bytes_behind}
use Rattle.pgp_frontend_read.proofs.Contents.{content_found, content_all, number_item}
use Rattle.pgp_frontend_read.proofs.Forms.{plain_code, version_there, unknown}
use Rattle.pgp_frontend_read.proofs.PairLemmas.{pair_found}
use Rattle.pgp_frontend_read.proofs.ValueLemmas.{HasLength, value_item, chosen}

-- ---- errors of the readers' combinators

bind_err : {A B : Type 0} (o : Option A) (f : A → Result B Error) (e : Error) → (o >>= f) ≡ Err e → ((o ≡ None) × (e ≡ UnexpectedEof)) ⊎ ((x : A) × (o ≡ Some x) × (f x ≡ Err e))
bind_err None f e h = inl (refl, sym (err_is UnexpectedEof e h))
bind_err (Some x) f e h = inr (x, refl, h)

given_err : {A : Type 0} (o : Option A) (e : Error) → (o >>= λ x. Ok x) ≡ Err e → (o ≡ None) × (e ≡ UnexpectedEof)
given_err None e h = (refl, sym (err_is UnexpectedEof e h))
given_err (Some x) e h = absurd (differ x e h)

made_err : {X Y : Type 0} (f : X → Y) (r : Result X Error) (e : Error) → made f r ≡ Err e → r ≡ Err e
made_err f (Ok x) e h = absurd (differ (f x) e h)
made_err f (Err d) e h = ap err (err_is d e h)

-- ---- numbers

module _ {A : Type 0} (n : ℕ) (Fits : A → Type 0) (spell : A → List ℕ) (value : List ℕ → A) (number : IsNumber n Fits spell value) where
  number_lacks : (bytes : List ℕ) (e : Error) → (front_at n value bytes >>= λ x. Ok x) ≡ Err e → IsShort n bytes e
  number_lacks bytes e h =
      let g = given_err (front_at n value bytes) e h in
      (number_short n Fits spell value number bytes g.0, g.1)

-- ---- items of a list

abbrev Refuses : {V : Type 0} → (List ℕ → Result (V × List ℕ) Error) → (List ℕ → Error → Type 0) → Type 0
Refuses read Missing = (bytes : List ℕ) (e : Error) → IsBytes bytes → read bytes ≡ Err e → Missing bytes e

record CutItems {V : Type 0} (Has : V → Type 0) (spell : V → List ℕ) (Missing : List ℕ → Error → Type 0) (n : ℕ) (bytes : List ℕ) (e : Error) : Type 0 where
  pub items : List V
  pub rest : List ℕ
  pub have : AllByRecursion Has items
  pub few : length items < n
  pub whole : bytes ≡ flat_map spell items ++ rest
  pub lacks : Missing rest e

with_front_err : {V : Type 0} (x : V) (r : Result (List V × List ℕ) Error) (e : Error) → with_front x r ≡ Err e → r ≡ Err e
with_front_err x (Ok y) e h = absurd cc
with_front_err x (Err d) e h = ap err (err_is d e h)

module _ {V : Type 0} (Has : V → Type 0) (spell : V → List ℕ) (read : List ℕ → Result (V × List ℕ) Error) (Missing : List ℕ → Error → Type 0) (item : IsItem Has spell read) (refuses : Refuses read Missing) where
  items_cut : (n : ℕ) (bytes : List ℕ) (e : Error) → IsBytes bytes → items_at read n bytes ≡ Err e → CutItems Has spell Missing n bytes e
  items_cut zero bytes e h is = absurd cc
  items_cut (suc n) bytes e h is = by_result (items_cut n) (read bytes) refl
    where
      by_result : ((b : List ℕ) (d : Error) → IsBytes b → items_at read n b ≡ Err d → CutItems Has spell Missing n b d) → (r : Result (V × List ℕ) Error) → read bytes ≡ r → CutItems Has spell Missing (suc n) bytes e
      by_result on (Ok x) reads =
          let behind = with_front_err x.0 (items_at read n x.1) e (ap (items_on (items_at read n)) (sym reads) ∙ is) in
          let one = item.found bytes x.0 x.1 h reads in
          let more = on x.1 e (bytes_behind bytes (spell x.0) x.1 one.1 h) behind in
          record {
            items = x.0 ∷ more.items;
            rest = more.rest;
            have = (one.0, more.have);
            few = omega (arith, more.few);
            whole = one.1 ∙ ap (λ l. spell x.0 ++ l) more.whole ∙ sym (append_assoc (spell x.0) (flat_map spell more.items) more.rest);
            lacks = more.lacks;
          }
      by_result on (Err d) reads =
          let same : d ≡ e = err_is d e (ap (items_on (items_at read n)) (sym reads) ∙ is) in
          record { items = []; rest = bytes; have = tt; few = omega arith; whole = refl; lacks = subst (λ (x : Error). Missing bytes x) same (refuses bytes d h reads) }

  counted_lacks : (bytes : List ℕ) (e : Error) → IsBytes bytes → counted_at read bytes ≡ Err e → LacksItems Has spell Missing bytes e
  unfolding counted_at
  counted_lacks bytes e h is =
      elim (bind_err (uint16_at bytes) (λ n. items_at read n.0 n.1) e is) [
        | inl none ↦ inl (number_short 2 (λ n. n < 2 ^ 16) uint16 (λ l. from_be_bytes w16 l) uint16_number bytes none.0, none.1)
        | inr some ↦
            let t = number_takes 2 (λ n. n < 2 ^ 16) uint16 (λ l. from_be_bytes w16 l) uint16_number bytes some.0 h some.1 in
            let cut = items_cut some.0.0 some.0.1 e t.tail some.2 in
            inr (record { count = some.0.0; items = cut.items; rest = cut.rest; fits = t.fits; have = cut.have; few = cut.few; whole = t.parts ∙ ap (λ l. uint16 some.0.0 ++ l) cut.whole; lacks = cut.lacks })
      ]

-- ---- values

wrong_length : (n : ℕ) (rest bytes : List ℕ) (e : Error) → n < 2 ^ 32 → bytes ≡ uint32 n ++ rest → (n == 4294967295) ≡ false → value_after n rest ≡ Err e → HasWrongLength bytes e
wrong_length n rest bytes e fits whole null is =
    elim (chosen (n == 4294967295) _ _ _ is) [
      | inl y ↦ absurd (differ _ e y.1)
      | inr y ↦ elim (chosen (nat_lt 2147483647 n) _ _ _ y.1) [
        | inl large ↦ record { len = n; rest = rest; fits = fits; whole = whole; wrong = inl (omega (arith, ltb-true 2147483647 n large.0), sym (err_is InvalidValueLength e large.1)) }
        | inr small ↦ elim (chosen (nat_lt (length rest) n) _ _ _ small.1) [
          | inl short ↦ record { len = n; rest = rest; fits = fits; whole = whole; wrong = inr (omega (arith, ltb-false 2147483647 n small.0), (ltb-true (length rest) n short.0, sym (err_is UnexpectedEof e short.1))) }
          | inr enough ↦ absurd (differ _ e enough.1)
        ]
      ]
    ]

value_lacks : (bytes : List ℕ) (e : Error) → IsBytes bytes → value_at bytes ≡ Err e → LacksValue bytes e
unfolding value_at
value_lacks bytes e h is =
    elim (bind_err (oid_at bytes) (λ len. value_after len.0 len.1) e is) [
      | inl none ↦
          let short = number_short 4 (λ n. n < 2 ^ 32) oid (λ l. from_be_bytes w32 l) oid_number bytes none.0 in
          (inl (short, none.1), λ rest same. omega (arith, short, ap length same, length-append (nullable None) rest, null_length))
      | inr some ↦
          let t = number_takes 4 (λ n. n < 2 ^ 32) oid (λ l. from_be_bytes w32 l) oid_number bytes some.0 h some.1 in
          elim (chosen (some.0.0 == 4294967295) _ _ _ some.2) [
            | inl y ↦ absurd (differ _ e y.1)
            | inr y ↦ (
              inr (wrong_length some.0.0 some.0.1 bytes e t.fits t.parts y.0 some.2),
              λ rest same.
                  let null : uint32 some.0.0 ++ some.0.1 ≡ uint32 4294967295 ++ rest = sym t.parts ∙ same ∙ ap (λ l. l ++ rest) (sym null_spelled) in
                  let k : true ≡ false = sym (eq-eqb some.0.0 4294967295 (uint32_begins some.0.0 4294967295 some.0.1 rest t.fits (omega arith) null).0) ∙ y.0 in
                  cc,
            )
          ]
    ]

-- ---- pairs

pair_cut : (bytes : List ℕ) (e : Error) → ((more : List ℕ) → bytes ≢ 0 ∷ more) → pair_at bytes ≡ Err e → IsCutPair bytes × (e ≡ UnexpectedEof)
unfolding pair_at
pair_cut bytes e unmarked is =
    elim (bind_err (string_at bytes) _ e is) [
      | inl none ↦ (inl (no_string bytes none.0), none.1)
      | inr name ↦ elim (bind_err (string_at name.0.1) _ e name.2) [
        | inl none ↦
            let s = string_takes bytes name.0 name.1 in
            (inr (name.0.0, name.0.1, s.no_zero, (λ empty. unmarked name.0.1 (s.parts ∙ ap (λ l. l ++ 0 ∷ name.0.1) empty)), string_whole bytes name.0.0 name.0.1 s.parts, no_string name.0.1 none.0), none.1)
        | inr value ↦ absurd (differ _ e value.2)
      ]
    ]

some_error : (d e : Error) → (let x : Option Error = Some d in x ≡ Some e) → d ≡ e
some_error d e h = cc

no_error : (e : Error) → (let x : Option Error = None in x ≡ Some e) → ⊥
no_error e h = cc

-- the pairs of a list that is rejected
module _ (go : List ℕ → List (List ℕ × List ℕ) × Option Error) (bytes : List ℕ) (e : Error) (unmarked : (more : List ℕ) → bytes ≢ 0 ∷ more) where
  pair_on : ((b : List ℕ) → length b < length bytes → (go b).1 ≡ Some e → LacksEnd b e) → (r : Result ((List ℕ × List ℕ) × List ℕ) Error) → pair_at bytes ≡ r → (read_on go r).1 ≡ Some e → LacksEnd bytes e
  pair_on on (Ok x) reads is =
      let one = pair_found bytes x reads in
      let more = on x.1 one.falls is in
      record {
        pairs = x.0 ∷ more.pairs;
        rest = more.rest;
        have = ((one.name, one.value, λ empty. unmarked (text x.0.1 ++ x.1) (one.whole ∙ append_assoc (text x.0.0) (text x.0.1) x.1 ∙ ap (λ l. text l ++ (text x.0.1 ++ x.1)) empty)), more.have);
        whole = one.whole ∙ ap (λ l. pair x.0 ++ l) more.whole ∙ sym (append_assoc (pair x.0) (flat_map pair more.pairs) more.rest);
        wrong = more.wrong;
      }
  pair_on on (Err d) reads is =
      let cut = pair_cut bytes e unmarked (reads ∙ ap err (some_error d e is)) in
      record { pairs = []; rest = bytes; have = tt; whole = refl; wrong = inl cut }

drained_wrong : (bytes : List ℕ) (e : Error) → (let r : List (List ℕ × List ℕ) × Option Error = drained bytes in r.1 ≡ Some e) → LacksEnd (0 ∷ bytes) e
drained_wrong [] e is = absurd (no_error e is)
drained_wrong (b ∷ bytes) e is = record { pairs = []; rest = 0 ∷ b ∷ bytes; have = tt; whole = refl; wrong = inr (b ∷ bytes, refl, (λ z. cc), sym (some_error NotDrained e is)) }

run_lacks : (k : ℕ) (bytes : List ℕ) (e : Error) → length bytes < k → (marked_run pair_at k bytes).1 ≡ Some e → LacksEnd bytes e
run_lacks zero bytes e lt is = absurd (omega (arith, lt))
run_lacks (suc k) [] e lt is = pair_on (marked_run pair_at k) [] e (λ more z. cc) (λ b less on. absurd (omega (arith, less))) (pair_at []) refl is
run_lacks (suc k) (zero ∷ bytes) e lt is = drained_wrong bytes e is
run_lacks (suc k) (suc b ∷ bytes) e lt is =
    pair_on (marked_run pair_at k) (suc b ∷ bytes) e (λ more z. let h : suc b ≡ 0 = cc in omega (arith, h)) (λ c less on. run_lacks k c e (omega (arith, less, lt)) on) (pair_at (suc b ∷ bytes)) refl is

all_err : (r : List (List ℕ × List ℕ) × Option Error) (e : Error) → all_of r ≡ Err e → r.1 ≡ Some e
all_err (xs, None) e is = absurd (differ _ e is)
all_err (xs, Some d) e is = ap (λ (x : Error). Some x) (err_is d e is)

pairs_lack : (bytes : List ℕ) (e : Error) → pairs_at bytes ≡ Err e → LacksEnd bytes e
unfolding pairs_at
pairs_lack bytes e is = run_lacks (suc (length bytes)) bytes e (omega arith) (all_err (marked_run pair_at (suc (length bytes)) bytes) e is)

-- ---- parts

unless_err : (c : Cause) (bytes : List ℕ) (e : Error) → unless c bytes ≡ Err e → c ≡ Some e
unless_err None bytes e is = absurd (differ _ e is)
unless_err (Some d) bytes e is = ap (λ (x : Error). Some x) (err_is d e is)

no_byte : (bytes : List ℕ) → byte_at bytes ≡ None → length bytes < 1
no_byte [] e = omega arith
no_byte (b ∷ bytes) e = absurd cc

content_lacks : (s : Shape) (bytes : List ℕ) (e : Error) → IsBytes bytes → content_at s bytes ≡ Err e → Lacks s bytes e
unfolding key_at
content_lacks AByte bytes e h is = let g = given_err (byte_at bytes) e is in (no_byte bytes g.0, g.1)
content_lacks AnInt32 bytes e h is = number_lacks 4 (FitsSigned w32) int32 (λ l. cast_signed w32 (from_be_bytes w32 l)) int32_number bytes e is
content_lacks AnInt16 bytes e h is = number_lacks 2 (FitsSigned w16) int16 (λ l. cast_signed w16 (from_be_bytes w16 l)) int16_number bytes e is
content_lacks AnOid bytes e h is = number_lacks 4 (λ n. n < 2 ^ 32) oid (λ l. from_be_bytes w32 l) oid_number bytes e is
content_lacks AText bytes e h is = let g = given_err (string_at bytes) e is in (no_string bytes g.0, g.1)
content_lacks SomeInt16s bytes e h is =
    counted_lacks (FitsSigned w16) int16 format_at (IsShort 2) (number_item 2 (FitsSigned w16) int16 (λ l. cast_signed w16 (from_be_bytes w16 l)) int16_number)
    (λ b d k i. number_lacks 2 (FitsSigned w16) int16 (λ l. cast_signed w16 (from_be_bytes w16 l)) int16_number b d i) bytes e h is
content_lacks SomeOids bytes e h is =
    counted_lacks (λ n. n < 2 ^ 32) oid type_at (IsShort 4) (number_item 4 (λ n. n < 2 ^ 32) oid (λ l. from_be_bytes w32 l) oid_number)
    (λ b d k i. number_lacks 4 (λ n. n < 2 ^ 32) oid (λ l. from_be_bytes w32 l) oid_number b d i) bytes e h is
content_lacks SomeValues bytes e h is = counted_lacks HasLength nullable value_at LacksValue value_item value_lacks bytes e h is
content_lacks ANullable bytes e h is = value_lacks bytes e h is
content_lacks AllBytes bytes e h is = differ _ e is
content_lacks AKey bytes e h is = unless_err (key_cause (length bytes)) bytes e is
content_lacks SomePairs bytes e h is = pairs_lack bytes e is

ended_err : {A : Type 0} (x : A) (bytes : List ℕ) (e : Error) → ended x bytes ≡ Err e → (bytes ≢ []) × (e ≡ NotDrained)
ended_err x [] e is = absurd (differ x e is)
ended_err x (b ∷ bytes) e is = ((λ z. cc), sym (err_is NotDrained e is))

before_err : {A B : Type 0} (x : A) (r : Result B Error) (e : Error) → before x r ≡ Err e → r ≡ Err e
before_err x (Ok y) e is = absurd cc
before_err x (Err d) e is = ap err (err_is d e is)

contents_faulty : (shapes : List Shape) (bytes : List ℕ) (e : Error) → IsBytes bytes → contents_at shapes bytes ≡ Err e → Faulty shapes bytes e
contents_faulty [] bytes e h is = ended_err tt bytes e is
contents_faulty (s ∷ shapes) bytes e h is = by_part (λ b k i. contents_faulty shapes b e k i) (content_at s bytes) refl
  where
    by_part : ((b : List ℕ) → IsBytes b → contents_at shapes b ≡ Err e → Faulty shapes b e) → (r : Result (Content s × List ℕ) Error) → content_at s bytes ≡ r → Faulty (s ∷ shapes) bytes e
    by_part on (Ok x) reads =
        let one = content_found s bytes x.0 x.1 h reads in
        let behind = before_err x.0 (contents_at shapes x.1) e (ap (contents_on (contents_at shapes)) (sym reads) ∙ is) in
        inr (x.0, x.1, record { spelled = one.spelled; whole = one.whole; all = content_all s bytes x.0 x.1 reads }, on x.1 (bytes_behind bytes _ x.1 one.whole h) behind)
    by_part on (Err d) reads =
        let same : d ≡ e = err_is d e (ap (contents_on (contents_at shapes)) (sym reads) ∙ is) in
        inl (subst (λ (x : Error). Lacks s bytes x) same (content_lacks s bytes d h reads))

-- ---- frames

abbrev Reported : PasswordKind → ClientMessage → Type 0
Reported kind m = IfSome (kind_of m) (λ k. k ≡ kind)

-- the message is one of this tag, and the payload isn't parts of its shapes
module _ (kind : PasswordKind) (tag n : ℕ) (bytes : List ℕ) (e : Error) (h : IsBytes bytes) where
  faulty_body : (m : ClientMessage) → tag_of m ≡ Some n → Reported kind m → (tag == n) ≡ true → Faulty (map shape (parts m)) bytes e → BlamesFrame kind tag bytes (Reading e)
  faulty_body m t reported is faulty = inr (record { message = m; tagged = t ∙ ap (λ k. Some k) (sym (eqb-true tag n is)); reported = reported; fault = e; faulty = faulty; name = refl })

  form_blamed : (m : ClientMessage) (make : Contents (map shape (parts m)) → ClientMessage) → tag_of m ≡ Some n → Reported kind m → (tag == n) ≡ true → made make (contents_at (map shape (parts m)) bytes) ≡ Err e → BlamesFrame kind tag bytes (Reading e)
  form_blamed m make t reported is refused = faulty_body m t reported is (contents_faulty (map shape (parts m)) bytes e h (made_err make (contents_at (map shape (parts m)) bytes) e refused))

reported_blamed : (kind : PasswordKind) (tag : ℕ) (bytes : List ℕ) (e : Error) → IsBytes bytes → (tag == 112) ≡ true → reported_of kind bytes ≡ Err e → BlamesFrame kind tag bytes (Reading e)
unfolding password_of sasl_initial_of
reported_blamed Password tag bytes e h is refused = form_blamed Password tag 112 bytes e h (PasswordMessage []) (λ c. PasswordMessage c.first) refl refl is refused
reported_blamed Initial tag bytes e h is refused = form_blamed Initial tag 112 bytes e h (SaslInitialResponse [] None) (λ c. SaslInitialResponse c.first c.rest.first) refl refl is refused
reported_blamed Response tag bytes e h is refused = absurd (differ _ e refused)

not_here : (tag n : ℕ) → (tag == n) ≡ false → (let x : Option ℕ = Some n in x ≢ Some tag)
not_here tag n is e =
    let same : n ≡ tag = cc in
    let yes : (tag == n) ≡ true = eq-eqb tag n (sym same) in
    let k : true ≡ false = sym yes ∙ is in
    cc

-- none of these tags
record NoTag (tag : ℕ) : Type 0 where
  pub b : (tag == 66) ≡ false
  pub c : (tag == 67) ≡ false
  pub d : (tag == 68) ≡ false
  pub e : (tag == 69) ≡ false
  pub call : (tag == 70) ≡ false
  pub h : (tag == 72) ≡ false
  pub p : (tag == 80) ≡ false
  pub q : (tag == 81) ≡ false
  pub s : (tag == 83) ≡ false
  pub x : (tag == 88) ≡ false
  pub done : (tag == 99) ≡ false
  pub copy : (tag == 100) ≡ false
  pub fail : (tag == 102) ≡ false
  pub password : (tag == 112) ≡ false

no_message : (tag : ℕ) → NoTag tag → (m : ClientMessage) → tag_of m ≢ Some tag
no_message tag n (Bind a b c d e) = not_here tag 66 n.b
no_message tag n (Close a b) = not_here tag 67 n.c
no_message tag n (Describe a b) = not_here tag 68 n.d
no_message tag n (Execute a b) = not_here tag 69 n.e
no_message tag n (FunctionCall a b c d) = not_here tag 70 n.call
no_message tag n Flush = not_here tag 72 n.h
no_message tag n (Parse a b c) = not_here tag 80 n.p
no_message tag n (Query a) = not_here tag 81 n.q
no_message tag n Sync = not_here tag 83 n.s
no_message tag n Terminate = not_here tag 88 n.x
no_message tag n CopyDone = not_here tag 99 n.done
no_message tag n (CopyData a) = not_here tag 100 n.copy
no_message tag n (CopyFail a) = not_here tag 102 n.fail
no_message tag n (PasswordMessage a) = not_here tag 112 n.password
no_message tag n (SaslInitialResponse a b) = not_here tag 112 n.password
no_message tag n (SaslResponse a) = not_here tag 112 n.password
no_message tag n (Startup v a) = λ e. cc
no_message tag n (CancelRequest a b) = λ e. cc
no_message tag n SslRequest = λ e. cc
no_message tag n GssEncRequest = λ e. cc

pub body_blames : (kind : PasswordKind) (tag : ℕ) (bytes : List ℕ) (e : Error) → IsBytes bytes → body_of kind tag bytes ≡ Err e → BlamesFrame kind tag bytes (Reading e)
unfolding body_of bind_of close_of describe_of execute_of function_call_of parse_of query_of copy_fail_of
body_blames kind tag bytes e each is =
    elim (chosen (tag == 66) _ _ _ is) [
      | inl y ↦ form_blamed kind tag 66 bytes e each (Bind [] [] [] [] []) (λ c. Bind c.first c.rest.first c.rest.rest.first c.rest.rest.rest.first c.rest.rest.rest.rest.first) refl tt y.0 y.1
      | inr b ↦ elim (chosen (tag == 67) _ _ _ b.1) [
        | inl y ↦ form_blamed kind tag 67 bytes e each (Close 0 []) (λ c. Close c.first c.rest.first) refl tt y.0 y.1
        | inr c ↦ elim (chosen (tag == 68) _ _ _ c.1) [
          | inl y ↦ form_blamed kind tag 68 bytes e each (Describe 0 []) (λ c. Describe c.first c.rest.first) refl tt y.0 y.1
          | inr d ↦ elim (chosen (tag == 69) _ _ _ d.1) [
            | inl y ↦ form_blamed kind tag 69 bytes e each (Execute [] (pos 0)) (λ c. Execute c.first c.rest.first) refl tt y.0 y.1
            | inr f ↦ elim (chosen (tag == 70) _ _ _ f.1) [
              | inl y ↦ form_blamed kind tag 70 bytes e each (FunctionCall 0 [] [] (pos 0)) (λ c. FunctionCall c.first c.rest.first c.rest.rest.first c.rest.rest.rest.first) refl tt y.0 y.1
              | inr call ↦ elim (chosen (tag == 72) _ _ _ call.1) [
                | inl y ↦ faulty_body kind tag 72 bytes e each Flush refl tt y.0 (ended_err Flush bytes e y.1)
                | inr h ↦ elim (chosen (tag == 80) _ _ _ h.1) [
                  | inl y ↦ form_blamed kind tag 80 bytes e each (Parse [] [] []) (λ c. Parse c.first c.rest.first c.rest.rest.first) refl tt y.0 y.1
                  | inr p ↦ elim (chosen (tag == 81) _ _ _ p.1) [
                    | inl y ↦ form_blamed kind tag 81 bytes e each (Query []) (λ c. Query c.first) refl tt y.0 y.1
                    | inr q ↦ elim (chosen (tag == 83) _ _ _ q.1) [
                      | inl y ↦ faulty_body kind tag 83 bytes e each Sync refl tt y.0 (ended_err Sync bytes e y.1)
                      | inr s ↦ elim (chosen (tag == 88) _ _ _ s.1) [
                        | inl y ↦ faulty_body kind tag 88 bytes e each Terminate refl tt y.0 (ended_err Terminate bytes e y.1)
                        | inr x ↦ elim (chosen (tag == 99) _ _ _ x.1) [
                          | inl y ↦ faulty_body kind tag 99 bytes e each CopyDone refl tt y.0 (ended_err CopyDone bytes e y.1)
                          | inr done ↦ elim (chosen (tag == 100) _ _ _ done.1) [
                            | inl y ↦ absurd (differ _ e y.1)
                            | inr copy ↦ elim (chosen (tag == 102) _ _ _ copy.1) [
                              | inl y ↦ form_blamed kind tag 102 bytes e each (CopyFail []) (λ c. CopyFail c.first) refl tt y.0 y.1
                              | inr fail ↦ elim (chosen (tag == 112) _ _ _ fail.1) [
                                | inl y ↦ reported_blamed kind tag bytes e each y.0 y.1
                                | inr last ↦
                                    let none : NoTag tag = record { b = b.0; c = c.0; d = d.0; e = f.0; call = call.0; h = h.0; p = p.0; q = q.0; s = s.0; x = x.0; done = done.0; copy = copy.0; fail = fail.0; password = last.0 } in
                                    inl (ap (λ (x : Error). Reading x) (sym (err_is (UnknownTag tag) e last.1)), no_message tag none)
                              ]
                            ]
                          ]
                        ]
                      ]
                    ]
                  ]
                ]
              ]
            ]
          ]
        ]
      ]
    ]

-- ---- opening packets

named_err : (r : Result ClientMessage Error) (e : ClientError) → named r ≡ Err e → (d : Error) × (r ≡ Err d) × (e ≡ Reading d)
named_err (Ok m) e is = absurd cc
named_err (Err d) e is = (d, refl, cc)

module _ (payload rest : List ℕ) (code n : ℕ) (e : ClientError) (h : IsBytes rest) (whole : payload ≡ oid code ++ rest) (is : code ≡ n) (small : n < 2 ^ 31) where
  -- after the code of this message
  faulty_packet : (m : ClientMessage) (others : List Part) → tag_of m ≡ None → HasMinor m → parts m ≡ Int32 (pos n) ∷ others → (d : Error) → e ≡ Reading d → Faulty (map shape others) rest d → BlamesPacket payload e
  faulty_packet m others t minor are d name faulty =
      inr (record { message = m; untagged = t; minor = minor; code = pos n; others = others; are = are; rest = rest; whole = whole ∙ ap (λ k. oid k ++ rest) is ∙ ap (λ l. l ++ rest) (plain_code n small); fault = d; faulty = faulty; name = name })

  packet_blamed : (m : ClientMessage) (others : List Part) (make : Contents (map shape others) → ClientMessage) → tag_of m ≡ None → HasMinor m → parts m ≡ Int32 (pos n) ∷ others
      → named (made make (contents_at (map shape others) rest)) ≡ Err e → BlamesPacket payload e
  packet_blamed m others make t minor are refused =
      let r = named_err (made make (contents_at (map shape others) rest)) e refused in
      faulty_packet m others t minor are r.0 r.2 (contents_faulty (map shape others) rest r.0 h (made_err make (contents_at (map shape others) rest) r.0 r.1))

head_is : (a b : ℤ) (ps qs : List Part) → Int32 a ∷ ps ≡ Int32 b ∷ qs → a ≡ b
head_is a b ps qs e = cc

not_code : (code n : ℕ) → code < 2 ^ 32 → n < 2 ^ 31 → code ≢ n → pos n ≡ cast_signed w32 code → ⊥
not_code code n fits small other same =
    let signed : cast_signed w32 n ≡ cast_signed w32 code = to_z_pos w32 n small ∙ same in
    other (sym (of_z-to_z w32 code fits) ∙ ap (cast_unsigned w32) (sym signed) ∙ of_z-to_z w32 n (omega (arith, small)))

apart : (code n : ℕ) → (code == n) ≡ false → code ≢ n
apart code n is same = let k : true ≡ false = sym (eq-eqb code n same) ∙ is in cc

-- no opening packet has the code
module _ (code : ℕ) (fits : code < 2 ^ 32) (a : (code == 80877102) ≡ false) (b : (code == 80877103) ≡ false) (c : (code == 80877104) ≡ false) (outside : (code < 196608) ⊎ (262144 ≤ code)) where
  no_version : (minor : ℕ) → minor < 2 ^ 16 → code ≢ 196608 + minor
  no_version minor small same = elim outside [ inl low ↦ omega (arith, low, same) | inr high ↦ omega (arith, high, same, small) ]

  no_packet : (m : ClientMessage) (ps : List Part) → tag_of m ≡ None → HasMinor m → parts m ≢ Int32 (cast_signed w32 code) ∷ ps
  no_packet (Startup v x) ps t minor e = not_code code (196608 + v) fits (omega (arith, minor)) (no_version v minor) (head_is _ _ _ _ e)
  no_packet (CancelRequest x y) ps t minor e = not_code code 80877102 fits (omega arith) (apart code 80877102 a) (head_is _ _ _ _ e)
  no_packet SslRequest ps t minor e = not_code code 80877103 fits (omega arith) (apart code 80877103 b) (head_is _ _ _ _ e)
  no_packet GssEncRequest ps t minor e = not_code code 80877104 fits (omega arith) (apart code 80877104 c) (head_is _ _ _ _ e)
  no_packet _ ps t minor e = cc

pub signed_code : (code : ℕ) → code < 2 ^ 32 → oid code ≡ int32 (cast_signed w32 code)
signed_code code fits = sym (int32_spelled (cast_signed w32 code) ∙ ap uint32 (of_z-to_z w32 code fits))

unknown_is : (code : ℕ) (e : ClientError) → unknown code ≡ Err e → e ≡ UnknownPacket (cast_signed w32 code)
unknown_is code e is = cc

unknown_blamed : (payload : List ℕ) (code : ℕ) (rest : List ℕ) (e : ClientError) → code < 2 ^ 32 → payload ≡ oid code ++ rest
    → ((m : ClientMessage) (ps : List Part) → tag_of m ≡ None → HasMinor m → parts m ≢ Int32 (cast_signed w32 code) ∷ ps) → unknown code ≡ Err e → BlamesPacket payload e
unknown_blamed payload code rest e fits whole none is = inl (record {
  code = cast_signed w32 code;
  rest = rest;
  fits = read_sfits w32 code;
  whole = whole ∙ ap (λ l. l ++ rest) (signed_code code fits);
  unknown = none;
  name = unknown_is code e is;
})

code_blames : (payload : List ℕ) (code : ℕ) (rest : List ℕ) (e : ClientError) → IsBytes rest → code < 2 ^ 32 → payload ≡ oid code ++ rest → by_code code rest ≡ Err e → BlamesPacket payload e
unfolding by_code startup_of cancel_of
code_blames payload code rest e h fits whole is =
    elim (chosen (code == 80877102) _ _ _ is) [
      | inl y ↦ packet_blamed payload rest code 80877102 e h whole (eqb-true code 80877102 y.0) (omega arith) (CancelRequest (pos 0) []) (Int32 (pos 0) ∷ Key [] ∷ []) (λ c. CancelRequest c.first c.rest.first) refl tt refl y.1
      | inr a ↦ elim (chosen (code == 80877103) _ _ _ a.1) [
        | inl y ↦
            let r = named_err (ended SslRequest rest) e y.1 in
            faulty_packet payload rest code 80877103 e h whole (eqb-true code 80877103 y.0) (omega arith) SslRequest [] refl tt refl r.0 r.2 (ended_err SslRequest rest r.0 r.1)
        | inr b ↦ elim (chosen (code == 80877104) _ _ _ b.1) [
          | inl y ↦
              let r = named_err (ended GssEncRequest rest) e y.1 in
              faulty_packet payload rest code 80877104 e h whole (eqb-true code 80877104 y.0) (omega arith) GssEncRequest [] refl tt refl r.0 r.2 (ended_err GssEncRequest rest r.0 r.1)
          | inr c ↦ elim (chosen (nat_lt code 196608) _ _ _ c.1) [
            | inl low ↦ unknown_blamed payload code rest e fits whole (no_packet code fits a.0 b.0 c.0 (inl (ltb-true code 196608 low.0))) low.1
            | inr from ↦ elim (chosen (nat_le 262144 code) _ _ _ from.1) [
              | inl high ↦ unknown_blamed payload code rest e fits whole (no_packet code fits a.0 b.0 c.0 (inr (leb-true 262144 code high.0))) high.1
              | inr below ↦
                  let v = version_there code from.0 below.0 in
                  packet_blamed payload rest code (196608 + (code - 196608)) e h whole v.are (omega (arith, v.small)) (Startup (code - 196608) []) (Pairs [] ∷ []) (λ c. Startup (code - 196608) c.first) refl v.small refl below.1
            ]
          ]
        ]
      ]
    ]

pub packet_blames : (payload : List ℕ) (e : ClientError) → IsBytes payload → 4 ≤ length payload → packet_of payload ≡ Err e → BlamesPacket payload e
unfolding packet_of
packet_blames payload e each long is = on (oid_at payload) refl
  where
    on : (o : Option (ℕ × List ℕ)) → oid_at payload ≡ o → BlamesPacket payload e
    on None none = absurd (omega (arith, long, number_short 4 (λ n. n < 2 ^ 32) oid (λ l. from_be_bytes w32 l) oid_number payload none))
    on (Some x) some =
        let t = number_takes 4 (λ n. n < 2 ^ 32) oid (λ l. from_be_bytes w32 l) oid_number payload x each some in
        code_blames payload x.0 x.1 e t.tail t.fits t.parts (ap by_front (sym some) ∙ is)
