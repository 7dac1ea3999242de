-- A payload is read in one way, given the tag and the kind.
use Rattle.pgp_frontend.proofs.Common.{◌≡◌, ◌≢◌, ℕ, ◌+◌, ◌<◌, ◌^◌, ℤ, List, [], ◌∷◌, ◌++◌, length, Option, Some, None, refl, sym, ap, ◌∙◌, append_assoc, arith, map, Opening, pos, FitsSigned, slice_index_or, ◌==◌, if◌then◌else◌, w32, append-nil, int32, uint32, frame, length_cause, either_left, either_right, fits_of, fronts, uint32_begins, int32_begins, ClientMessage, Bind, Close, CopyData, CopyDone, CopyFail, Describe, Execute, Flush, Parse, PasswordMessage, Query, SaslInitialResponse, SaslResponse, Sync, Terminate, Startup, CancelRequest, SslRequest, GssEncRequest, FunctionCall, PasswordKind, Password, Initial, Response, Part, Byte, Int16, Int32, Oid, Text, Int16s, Oids, Values, Nullable, Rest, Key, Pairs, minor_code, spelling, joined, parts, payload, tag_of, kind_of, framed, bytes_of, part_cause, parts_cause, EachInRange, Shape, AByte, AnInt16, AnInt32, AnOid, AText, SomeInt16s, SomeOids, SomeValues, ANullable, AllBytes, AKey, shape, HasNames, HasSpelling, IsNamed, IsSpelled}
use Rattle.std.specs.Prelude.{◌≤◌}
use Rattle.pgp_frontend.proofs.Shapes.{part_begins}

abbrev pub EachHasSpelling : List Part → Type 0
EachHasSpelling [] = Unit {0}
EachHasSpelling (p ∷ ps) = HasSpelling p × EachHasSpelling ps

-- of the pairs among them no name is empty
abbrev pub EachHasNames : List Part → Type 0
EachHasNames [] = Unit {0}
EachHasNames (p ∷ ps) = HasNames p × EachHasNames ps

pub each_spelled : (ps : List Part) → parts_cause ps ≡ None → EachInRange ps → EachHasNames ps → EachHasSpelling ps
each_spelled [] c r n = tt
each_spelled (p ∷ ps) c r n = (record { none = either_left (part_cause p) (parts_cause ps) c; in_range = r.0; named = n.0 }, each_spelled ps (either_right (part_cause p) (parts_cause ps) c) r.1 n.1)

pub each_named : (m : ClientMessage) → IsNamed m → EachHasNames (parts m)
each_named (Bind a b c d e) n = (tt, (tt, (tt, (tt, (tt, tt)))))
each_named (Close a b) n = (tt, (tt, tt))
each_named (CopyData a) n = (tt, tt)
each_named CopyDone n = tt
each_named (CopyFail a) n = (tt, tt)
each_named (Describe a b) n = (tt, (tt, tt))
each_named (Execute a b) n = (tt, (tt, tt))
each_named Flush n = tt
each_named (FunctionCall a b c d) n = (tt, (tt, (tt, (tt, tt))))
each_named (Parse a b c) n = (tt, (tt, (tt, tt)))
each_named (PasswordMessage a) n = (tt, tt)
each_named (Query a) n = (tt, tt)
each_named (SaslInitialResponse a b) n = (tt, (tt, tt))
each_named (SaslResponse a) n = (tt, tt)
each_named Sync n = tt
each_named Terminate n = tt
each_named (Startup v ps) n = (tt, (n, tt))
each_named (CancelRequest a b) n = (tt, (tt, (tt, tt)))
each_named SslRequest n = (tt, tt)
each_named GssEncRequest n = (tt, tt)

pub spelled_parts : (m : ClientMessage) → IsSpelled m → EachHasSpelling (parts m)
spelled_parts m h = each_spelled (parts m) (either_left (parts_cause (parts m)) (length_cause (length (payload m) + 4)) h.none) h.in_range.0 (each_named m h.named)

pub length_fits : (m : ClientMessage) → IsSpelled m → length (payload m) + 4 < 2 ^ 32
length_fits m h = omega (arith, fits_of (length (payload m) + 4) (either_right (parts_cause (parts m)) (length_cause (length (payload m) + 4)) h.none))

-- all bytes that are left are only taken by the last part
abbrev pub TakesAllLast : List Part → Type 0
TakesAllLast [] = Unit {0}
TakesAllLast (p ∷ []) = Unit {0}
TakesAllLast (p ∷ q ∷ ps) = (shape p ≢ AllBytes) × (shape p ≢ AKey) × TakesAllLast (q ∷ ps)

last_read : (p q : Part) → shape p ≡ shape q → HasSpelling p → HasSpelling q → spelling p ++ [] ≡ spelling q ++ [] → p ≡ q
last_read (Rest m) (Rest n) s h k e = ap Rest (sym (append-nil m) ∙ (e ∙ append-nil n))
last_read (Rest m) _ s h k e = cc
last_read (Key m) (Key n) s h k e = ap Key (sym (append-nil m) ∙ (e ∙ append-nil n))
last_read (Key m) _ s h k e = cc
last_read p q s h k e = (part_begins p q [] [] s (λ z. cc) (λ z. cc) h k e).0

heads : (a b : Shape) (s t : List Shape) → a ∷ s ≡ b ∷ t → a ≡ b
heads a b s t e = cc

tails : (a b : Shape) (s t : List Shape) → a ∷ s ≡ b ∷ t → s ≡ t
tails a b s t e = cc

cons : (p q : Part) (ps qs : List Part) → p ≡ q → ps ≡ qs → p ∷ ps ≡ q ∷ qs
cons p q ps qs e f = rw (e, f) refl

pub parts_read : (ps qs : List Part) → map shape ps ≡ map shape qs → TakesAllLast ps → TakesAllLast qs → EachHasSpelling ps → EachHasSpelling qs → joined ps ≡ joined qs → ps ≡ qs
parts_read [] [] s r t h k e = refl
parts_read [] (q ∷ qs) s r t h k e = cc
parts_read (p ∷ ps) [] s r t h k e = cc
parts_read (p ∷ []) (q ∷ []) s r t h k e = cons p q [] [] (last_read p q (heads (shape p) (shape q) [] [] s) h.0 k.0 e) refl
parts_read (p ∷ []) (q ∷ q2 ∷ qs) s r t h k e = cc
parts_read (p ∷ p2 ∷ ps) (q ∷ []) s r t h k e = cc
parts_read (p ∷ p2 ∷ ps) (q ∷ q2 ∷ qs) s r t h k e =
    let both = part_begins p q (joined (p2 ∷ ps)) (joined (q2 ∷ qs)) (heads (shape p) (shape q) (map shape (p2 ∷ ps)) (map shape (q2 ∷ qs)) s) r.0 r.1 h.0 k.0 e in
    cons p q (p2 ∷ ps) (q2 ∷ qs) both.0 (parts_read (p2 ∷ ps) (q2 ∷ qs) (tails (shape p) (shape q) (map shape (p2 ∷ ps)) (map shape (q2 ∷ qs)) s) r.2 t.2 h.1 k.1 both.1)

-- The shapes that a tag and a kind stand for, and the message of such parts.

plain_shapes : ℕ → List Shape
plain_shapes tag =
    if tag == 66 then AText ∷ AText ∷ SomeInt16s ∷ SomeValues ∷ SomeInt16s ∷ [] else
    if tag == 67 then AByte ∷ AText ∷ [] else
    if tag == 68 then AByte ∷ AText ∷ [] else
    if tag == 69 then AText ∷ AnInt32 ∷ [] else
    if tag == 70 then AnOid ∷ SomeInt16s ∷ SomeValues ∷ AnInt16 ∷ [] else
    if tag == 80 then AText ∷ AText ∷ SomeOids ∷ [] else
    if tag == 81 then AText ∷ [] else
    if tag == 100 then AllBytes ∷ [] else
    if tag == 102 then AText ∷ [] else []

shapes_of : Option ℕ → Option PasswordKind → List Shape
shapes_of None kind = []
shapes_of (Some tag) None = plain_shapes tag
shapes_of (Some tag) (Some Password) = AText ∷ []
shapes_of (Some tag) (Some Initial) = AText ∷ ANullable ∷ []
shapes_of (Some tag) (Some Response) = AllBytes ∷ []

text_of : Part → List ℕ
text_of (Text z) = z
text_of (Rest z) = z
text_of _ = []

byte_of : Part → ℕ
byte_of (Byte n) = n
byte_of _ = 0

int16_of : Part → ℤ
int16_of (Int16 z) = z
int16_of _ = pos 0

oid_of : Part → ℕ
oid_of (Oid n) = n
oid_of _ = 0

nullable_of : Part → Option (List ℕ)
nullable_of (Nullable v) = v
nullable_of _ = None

int32_of : Part → ℤ
int32_of (Int32 z) = z
int32_of _ = pos 0

int16s_of : Part → List ℤ
int16s_of (Int16s zs) = zs
int16s_of _ = []

oids_of : Part → List ℕ
oids_of (Oids ns) = ns
oids_of _ = []

values_of : Part → List (Option (List ℕ))
values_of (Values vs) = vs
values_of _ = []

pairs_of : Part → List (List ℕ × List ℕ)
pairs_of (Pairs ps) = ps
pairs_of _ = []

part_at : ℕ → List Part → Part
part_at k ps = slice_index_or ps k (Byte 0)

plain_message : ℕ → List Part → ClientMessage
plain_message tag ps =
    if tag == 66 then Bind (text_of (part_at 0 ps)) (text_of (part_at 1 ps)) (int16s_of (part_at 2 ps)) (values_of (part_at 3 ps)) (int16s_of (part_at 4 ps)) else
    if tag == 67 then Close (byte_of (part_at 0 ps)) (text_of (part_at 1 ps)) else
    if tag == 68 then Describe (byte_of (part_at 0 ps)) (text_of (part_at 1 ps)) else
    if tag == 69 then Execute (text_of (part_at 0 ps)) (int32_of (part_at 1 ps)) else
    if tag == 70 then FunctionCall (oid_of (part_at 0 ps)) (int16s_of (part_at 1 ps)) (values_of (part_at 2 ps)) (int16_of (part_at 3 ps)) else
    if tag == 72 then Flush else
    if tag == 80 then Parse (text_of (part_at 0 ps)) (text_of (part_at 1 ps)) (oids_of (part_at 2 ps)) else
    if tag == 81 then Query (text_of (part_at 0 ps)) else
    if tag == 83 then Sync else
    if tag == 88 then Terminate else
    if tag == 99 then CopyDone else
    if tag == 100 then CopyData (text_of (part_at 0 ps)) else
    CopyFail (text_of (part_at 0 ps))

message_of : Option ℕ → Option PasswordKind → List Part → ClientMessage
message_of None kind ps = SslRequest
message_of (Some tag) None ps = plain_message tag ps
message_of (Some tag) (Some Password) ps = PasswordMessage (text_of (part_at 0 ps))
message_of (Some tag) (Some Initial) ps = SaslInitialResponse (text_of (part_at 0 ps)) (nullable_of (part_at 1 ps))
message_of (Some tag) (Some Response) ps = SaslResponse (text_of (part_at 0 ps))

shapes_known : (m : ClientMessage) → tag_of m ≢ None → map shape (parts m) ≡ shapes_of (tag_of m) (kind_of m)
unfolding shapes_of plain_shapes
shapes_known (Startup v ps) t = absurd (t refl)
shapes_known (CancelRequest a b) t = absurd (t refl)
shapes_known SslRequest t = absurd (t refl)
shapes_known GssEncRequest t = absurd (t refl)
shapes_known _ t = refl

message_known : (m : ClientMessage) → tag_of m ≢ None → message_of (tag_of m) (kind_of m) (parts m) ≡ m
unfolding message_of plain_message part_at text_of byte_of int16_of int32_of oid_of nullable_of int16s_of oids_of values_of
message_known (Startup v ps) t = absurd (t refl)
message_known (CancelRequest a b) t = absurd (t refl)
message_known SslRequest t = absurd (t refl)
message_known GssEncRequest t = absurd (t refl)
message_known _ t = refl

all_last : (m : ClientMessage) → tag_of m ≢ None → TakesAllLast (parts m)
all_last (Bind a b c d e) t = ((λ z. cc), (λ z. cc), ((λ z. cc), (λ z. cc), ((λ z. cc), (λ z. cc), ((λ z. cc), (λ z. cc), tt))))
all_last (Close a b) t = ((λ z. cc), (λ z. cc), tt)
all_last (Describe a b) t = ((λ z. cc), (λ z. cc), tt)
all_last (Execute a b) t = ((λ z. cc), (λ z. cc), tt)
all_last (FunctionCall a b c d) t = ((λ z. cc), (λ z. cc), ((λ z. cc), (λ z. cc), ((λ z. cc), (λ z. cc), tt)))
all_last (Parse a b c) t = ((λ z. cc), (λ z. cc), ((λ z. cc), (λ z. cc), tt))
all_last (SaslInitialResponse a b) t = ((λ z. cc), (λ z. cc), tt)
all_last (Startup v ps) t = absurd (t refl)
all_last (CancelRequest a b) t = absurd (t refl)
all_last _ t = tt

-- the payload determines the message, under its tag and its kind
pub payload_read : (m n : ClientMessage) → tag_of m ≢ None → tag_of m ≡ tag_of n → kind_of m ≡ kind_of n → IsSpelled m → IsSpelled n → payload m ≡ payload n → m ≡ n
payload_read m n t e f h k p =
    let u : tag_of n ≢ None = λ z. t (e ∙ z) in
    let s = shapes_known m t ∙ (ap (λ tag. shapes_of tag (kind_of m)) e ∙ (ap (λ kind. shapes_of (tag_of n) kind) f ∙ sym (shapes_known n u))) in
    let q = parts_read (parts m) (parts n) s (all_last m t) (all_last n u) (spelled_parts m h) (spelled_parts n k) p in
    sym (message_known m t) ∙ (ap (λ tag. message_of tag (kind_of m) (parts m)) e ∙ (ap (λ kind. message_of (tag_of n) kind (parts m)) f ∙ (ap (λ ps. message_of (tag_of n) (kind_of n) ps) q ∙ message_known n u)))

-- the length and the body of two packets
pub bodies : (p q x y : List ℕ) → length p + 4 < 2 ^ 32 → length q + 4 < 2 ^ 32 → framed None p ++ x ≡ framed None q ++ y → (p ≡ q) × (x ≡ y)
bodies p q x y h k e =
    let e' : uint32 (length p + 4) ++ (p ++ x) ≡ uint32 (length q + 4) ++ (q ++ y) = sym (append_assoc (uint32 (length p + 4)) p x) ∙ (e ∙ append_assoc (uint32 (length q + 4)) q y) in
    let t = uint32_begins (length p + 4) (length q + 4) (p ++ x) (q ++ y) h k e' in
    fronts p q x y (omega (arith, t.0)) t.1

pub tagged_bodies : (a b : ℕ) (p q x y : List ℕ) → length p + 4 < 2 ^ 32 → length q + 4 < 2 ^ 32 → framed (Some a) p ++ x ≡ framed (Some b) q ++ y → (a ≡ b) × (p ≡ q) × (x ≡ y)
tagged_bodies a b p q x y h k e =
    let t : a ≡ b = cc in
    let r : framed None p ++ x ≡ framed None q ++ y = cc in
    let s = bodies p q x y h k r in
    (t, s.0, s.1)

-- no frame begins another
pub any_frame_read : (t u : ℕ) (p q x y : List ℕ) → length_cause (length p + 4) ≡ None → length_cause (length q + 4) ≡ None → frame t p ++ x ≡ frame u q ++ y → (t ≡ u) × (p ≡ q) × (x ≡ y)
any_frame_read t u p q x y h k e = tagged_bodies t u p q x y (omega (arith, fits_of (length p + 4) h)) (omega (arith, fits_of (length q + 4) k)) e

-- a tag that is there
pub tag_in : (t : Option ℕ) → t ≢ None → (a : ℕ) × (t ≡ Some a)
tag_in None h = absurd (h refl)
tag_in (Some a) h = (a, refl)

-- no frame begins another, under one kind
pub frame_read : (m n : ClientMessage) (x y : List ℕ) → tag_of m ≢ None → tag_of n ≢ None → kind_of m ≡ kind_of n → IsSpelled m → IsSpelled n → bytes_of m ++ x ≡ bytes_of n ++ y → (m ≡ n) × (x ≡ y)
frame_read m n x y t u f h k e =
    let a = tag_in (tag_of m) t in
    let b = tag_in (tag_of n) u in
    let e' : framed (Some a.0) (payload m) ++ x ≡ framed (Some b.0) (payload n) ++ y = ap (λ tag. framed tag (payload m) ++ x) (sym a.1) ∙ (e ∙ ap (λ tag. framed tag (payload n) ++ y) b.1) in
    let r = tagged_bodies a.0 b.0 (payload m) (payload n) x y (length_fits m h) (length_fits n k) e' in
    (payload_read m n t (a.1 ∙ (ap (λ tag. Some tag) r.0 ∙ sym b.1)) f h k r.1, r.2)

-- Opening packets: the code distinguishes them.

minor_is : (v w : ℕ) → minor_code v ≡ minor_code w → v ≡ w
minor_is v w e = let same : 196608 + v ≡ 196608 + w = cc in omega (arith, same)

-- the code of a request is that of no minor version
pub no_minor : (v code : ℕ) → v < 2 ^ 16 → 262144 ≤ code → minor_code v ≡ pos code → ⊥
no_minor v code small large e = let same : 196608 + v ≡ code = cc in omega (arith, same, small, large)

-- the version and the pairs
same_startup : (v w : ℕ) (ps qs : List (List ℕ × List ℕ)) → IsSpelled (Startup v ps) → IsSpelled (Startup w qs) → payload (Startup v ps) ≡ payload (Startup w qs) → Startup v ps ≡ Startup w qs
unfolding part_at pairs_of int32_of
same_startup v w ps qs h k e =
    let r = parts_read (parts (Startup v ps)) (parts (Startup w qs)) refl ((λ z. cc), (λ z. cc), tt) ((λ z. cc), (λ z. cc), tt) (spelled_parts (Startup v ps) h) (spelled_parts (Startup w qs) k) e in
    let code : v ≡ w = minor_is v w (ap (λ l. int32_of (part_at 0 l)) r) in
    ap (λ n. Startup n ps) code ∙ ap (λ l. Startup w (pairs_of (part_at 1 l))) r

-- two requests have two codes
apart : (c d : ℕ) (x y : List ℕ) → c < d → FitsSigned w32 (pos c) → FitsSigned w32 (pos d) → int32 (pos c) ++ x ≡ int32 (pos d) ++ y → ⊥
apart c d x y less h k e = let f = (int32_begins (pos c) (pos d) x y h k e).0 in let same : c ≡ d = cc in omega (arith, same, less)

-- the key is what is left, however long it is
same_cancel : (a c : ℤ) (b d : List ℕ) → IsSpelled (CancelRequest a b) → IsSpelled (CancelRequest c d) → payload (CancelRequest a b) ≡ payload (CancelRequest c d) → CancelRequest a b ≡ CancelRequest c d
same_cancel a c b d h k e =
    let behind = (int32_begins (pos 80877102) (pos 80877102) _ _ h.in_range.0.0 k.in_range.0.0 e).1 in
    let both = int32_begins a c _ _ h.in_range.0.1.0 k.in_range.0.1.0 behind in
    let key : b ≡ d = sym (append-nil b) ∙ (both.1 ∙ append-nil d) in
    ap (λ n. CancelRequest n b) both.0 ∙ ap (λ z. CancelRequest c z) key

opening_payload : (m n : ClientMessage) → tag_of m ≡ None → tag_of n ≡ None → IsSpelled m → IsSpelled n → payload m ≡ payload n → m ≡ n
opening_payload (Startup v ps) (Startup w qs) t u h k e = same_startup v w ps qs h k e
opening_payload (CancelRequest a b) (CancelRequest c d) t u h k e = same_cancel a c b d h k e
opening_payload SslRequest SslRequest t u h k e = refl
opening_payload GssEncRequest GssEncRequest t u h k e = refl
opening_payload (Startup v ps) (CancelRequest c d) t u h k e = absurd (no_minor v 80877102 h.in_range.1 (omega arith) (int32_begins _ _ _ _ h.in_range.0.0 k.in_range.0.0 e).0)
opening_payload (Startup v ps) SslRequest t u h k e = absurd (no_minor v 80877103 h.in_range.1 (omega arith) (int32_begins _ _ _ _ h.in_range.0.0 k.in_range.0.0 e).0)
opening_payload (Startup v ps) GssEncRequest t u h k e = absurd (no_minor v 80877104 h.in_range.1 (omega arith) (int32_begins _ _ _ _ h.in_range.0.0 k.in_range.0.0 e).0)
opening_payload (CancelRequest a b) (Startup v qs) t u h k e = absurd (no_minor v 80877102 k.in_range.1 (omega arith) (int32_begins _ _ _ _ k.in_range.0.0 h.in_range.0.0 (sym e)).0)
opening_payload SslRequest (Startup v qs) t u h k e = absurd (no_minor v 80877103 k.in_range.1 (omega arith) (int32_begins _ _ _ _ k.in_range.0.0 h.in_range.0.0 (sym e)).0)
opening_payload GssEncRequest (Startup v qs) t u h k e = absurd (no_minor v 80877104 k.in_range.1 (omega arith) (int32_begins _ _ _ _ k.in_range.0.0 h.in_range.0.0 (sym e)).0)
opening_payload (CancelRequest a b) SslRequest t u h k e = absurd (apart 80877102 80877103 _ _ (omega arith) h.in_range.0.0 k.in_range.0.0 e)
opening_payload (CancelRequest a b) GssEncRequest t u h k e = absurd (apart 80877102 80877104 _ _ (omega arith) h.in_range.0.0 k.in_range.0.0 e)
opening_payload SslRequest (CancelRequest c d) t u h k e = absurd (apart 80877102 80877103 _ _ (omega arith) k.in_range.0.0 h.in_range.0.0 (sym e))
opening_payload SslRequest GssEncRequest t u h k e = absurd (apart 80877103 80877104 _ _ (omega arith) h.in_range.0.0 k.in_range.0.0 e)
opening_payload GssEncRequest (CancelRequest c d) t u h k e = absurd (apart 80877102 80877104 _ _ (omega arith) k.in_range.0.0 h.in_range.0.0 (sym e))
opening_payload GssEncRequest SslRequest t u h k e = absurd (apart 80877103 80877104 _ _ (omega arith) k.in_range.0.0 h.in_range.0.0 (sym e))
opening_payload _ _ t u h k e = cc

-- no opening packet begins another
pub opening_read : (m n : ClientMessage) (b c x y : List ℕ) → Opening m b → Opening n c → b ++ x ≡ c ++ y → (m ≡ n) × (x ≡ y)
opening_read m n b c x y h k e =
    let left : b ≡ framed None (payload m) = h.are ∙ ap (λ tag. framed tag (payload m)) h.untagged in
    let right : c ≡ framed None (payload n) = k.are ∙ ap (λ tag. framed tag (payload n)) k.untagged in
    let e' : framed None (payload m) ++ x ≡ framed None (payload n) ++ y = ap (λ b. b ++ x) (sym left) ∙ (e ∙ ap (λ c. c ++ y) right) in
    let r = bodies (payload m) (payload n) x y (length_fits m h.spelled) (length_fits n k.spelled) e' in
    (opening_payload m n h.untagged k.untagged h.spelled k.spelled r.0, r.1)
