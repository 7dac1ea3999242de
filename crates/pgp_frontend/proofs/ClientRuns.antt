-- A client's bytes are read in one way, and by message more.
use Rattle.pgp_frontend.proofs.Common.{◌≡◌, ◌≢◌, ℕ, ◌+◌, ◌<◌, ◌≤◌, ◌^◌, Bool, true, false, List, [], ◌∷◌, ◌++◌, length, Option, Some, None, refl, sym, ap, subst, ◌∙◌, append_assoc, arith, inl, inr, ◌⊎◌, is_some, ◌==◌, ◌||◌, if◌then◌else◌, option_to_list, All, FitsSigned, pos, slice_index, w32, flat_map, AllByRecursion, append-nil, recursion_from_All, uint32, int32, ClientMessage, PasswordMessage, SaslInitialResponse, SaslResponse, Startup, CancelRequest, SslRequest, GssEncRequest, PasswordKind, Opening, tag_of, kind_of, framed, payload, minor_code, bytes_of, cause, IsInRange, IsSpelled, IsNamed, int32_begins}
use Rattle.std.proofs.lemmas.List.{length-append}
use Rattle.std.proofs.lemmas.List.Concat.{flat_map-cons}
use Rattle.std.proofs.lemmas.Grind.{flat_map-append}
use Rattle.pgp_frontend.proofs.Readings.{frame_read, opening_read, bodies, length_fits, no_minor}
use Rattle.pgp_frontend.proofs.Needs.{framed_length, startup_length, minor_fits}
use Rattle.pgp_frontend.specs.ClientRun.{IsRequest, IsStartup, IsTagged, AreInOrder, MayCome, kinds_of, ClientRun, is_startup, is_opened}

-- ---- what the first message's bytes tell

framed_some : (tag : Option ℕ) (body more : List ℕ) → framed tag body ++ more ≡ [] → ⊥
unfolding uint32
framed_some None body more e = cc
framed_some (Some t) body more e = cc

-- a message has bytes
pub has_bytes : (m : ClientMessage) (more : List ℕ) → bytes_of m ++ more ≡ [] → ⊥
has_bytes m more e = framed_some (tag_of m) (payload m) more e

pub same_tag : (a b : Option ℕ) (p q x y : List ℕ) → a ≢ None → b ≢ None → framed a p ++ x ≡ framed b q ++ y → a ≡ b
same_tag None b p q x y t u e = absurd (t refl)
same_tag (Some a) None p q x y t u e = absurd (u refl)
same_tag (Some a) (Some b) p q x y t u e = cc

-- whether a server has to be given the kind
abbrev pub is_reported : Option ℕ → Bool
is_reported None = false
is_reported (Some t) = t == 112

pub kind_there : (m : ClientMessage) → is_some (kind_of m) ≡ is_reported (tag_of m)
kind_there (PasswordMessage password) = refl
kind_there (SaslInitialResponse mechanism response) = refl
kind_there (SaslResponse response) = refl
kind_there _ = refl

same_kind : (p q : Option PasswordKind) (s t : List PasswordKind) → is_some p ≡ is_some q → option_to_list p ++ s ≡ option_to_list q ++ t → (p ≡ q) × (s ≡ t)
same_kind None None s t h e = (refl, e)
same_kind None (Some b) s t h e = cc
same_kind (Some a) None s t h e = cc
same_kind (Some a) (Some b) s t h e = (let x : a ≡ b = cc in ap (λ k. Some k) x, cc)

regroup : {X A : Type 0} (f : X → List A) (x : X) (xs : List X) (more : List A) → flat_map f (x ∷ xs) ++ more ≡ f x ++ (flat_map f xs ++ more)
regroup f x xs more = ap (λ l. l ++ more) (flat_map-cons f x xs) ∙ append_assoc (f x) (flat_map f xs) more

cons : {X : Type 0} (x y : X) (l n m : List X) → x ≡ y → m ≡ l ++ n → y ∷ m ≡ (x ∷ l) ++ n
cons x y l n m e f = rw (e, f) refl

-- ---- the messages of the bytes begin those of more bytes

-- after the startup packet
tagged_front : (l m : List ClientMessage) (others : List PasswordKind) (c : List ℕ) → AllByRecursion IsTagged l → AllByRecursion IsTagged m → AllByRecursion IsSpelled l → AllByRecursion IsSpelled m
    → flat_map kinds_of m ≡ flat_map kinds_of l ++ others → flat_map bytes_of m ≡ flat_map bytes_of l ++ c → (n : List ClientMessage) × (m ≡ l ++ n)
tagged_front [] m others c tl tm sl sm k e = (m, refl)
tagged_front (x ∷ l) [] others c tl tm sl sm k e = absurd (has_bytes x (flat_map bytes_of l ++ c) (sym (e ∙ regroup bytes_of x l c)))
tagged_front (x ∷ l) (y ∷ m) others c tl tm sl sm k e =
    let bytes : bytes_of x ++ (flat_map bytes_of l ++ c) ≡ bytes_of y ++ flat_map bytes_of m = sym (regroup bytes_of x l c) ∙ sym e ∙ flat_map-cons bytes_of y m in
    let tags = same_tag (tag_of x) (tag_of y) (payload x) (payload y) (flat_map bytes_of l ++ c) (flat_map bytes_of m) tl.0 tm.0 bytes in
    let reported : is_some (kind_of x) ≡ is_some (kind_of y) = kind_there x ∙ ap is_reported tags ∙ sym (kind_there y) in
    let kinds : kinds_of x ++ (flat_map kinds_of l ++ others) ≡ kinds_of y ++ flat_map kinds_of m = sym (regroup kinds_of x l others) ∙ sym k ∙ flat_map-cons kinds_of y m in
    let kind = same_kind (kind_of x) (kind_of y) (flat_map kinds_of l ++ others) (flat_map kinds_of m) reported kinds in
    let both = frame_read x y (flat_map bytes_of l ++ c) (flat_map bytes_of m) tl.0 tm.0 kind.0 sl.0 sm.0 bytes in
    let rest = tagged_front l m others c tl.1 tm.1 sl.1 sm.1 (sym kind.1) (sym both.1) in
    (rest.0, cons x y l rest.0 m both.0 rest.1)

opening : (m : ClientMessage) → IsStartup m ⊎ IsRequest m → (tag_of m ≡ None) × (kind_of m ≡ None)
opening (Startup version parameters) o = (refl, refl)
opening (CancelRequest process_id secret_key) o = (refl, refl)
opening SslRequest o = (refl, refl)
opening GssEncRequest o = (refl, refl)
opening _ (inl o) = absurd o
opening _ (inr o) = absurd o

not_both : (m : ClientMessage) → IsStartup m → IsRequest m → ⊥
not_both (Startup version parameters) s r = r
not_both _ s r = s

one_of : (m : ClientMessage) (messages : List ClientMessage) → AreInOrder (m ∷ messages) → IsStartup m ⊎ IsRequest m
one_of m messages (inl o) = inl o.0
one_of m messages (inr o) = inr o.0

front : (l m : List ClientMessage) (others : List PasswordKind) (c : List ℕ) → AreInOrder l → AreInOrder m → AllByRecursion IsSpelled l → AllByRecursion IsSpelled m
    → flat_map kinds_of m ≡ flat_map kinds_of l ++ others → flat_map bytes_of m ≡ flat_map bytes_of l ++ c → (n : List ClientMessage) × (m ≡ l ++ n)
front [] m others c ol om sl sm k e = (m, refl)
front (x ∷ l) [] others c ol om sl sm k e = absurd (has_bytes x (flat_map bytes_of l ++ c) (sym (e ∙ regroup bytes_of x l c)))
front (x ∷ l) (y ∷ m) others c ol om sl sm k e =
    let bytes : bytes_of x ++ (flat_map bytes_of l ++ c) ≡ bytes_of y ++ flat_map bytes_of m = sym (regroup bytes_of x l c) ∙ sym e ∙ flat_map-cons bytes_of y m in
    let a = opening x (one_of x l ol) in
    let b = opening y (one_of y m om) in
    let ox : Opening x (bytes_of x) = record { untagged = a.0; spelled = sl.0; are = refl } in
    let oy : Opening y (bytes_of y) = record { untagged = b.0; spelled = sm.0; are = refl } in
    let both = opening_read x y (bytes_of x) (bytes_of y) (flat_map bytes_of l ++ c) (flat_map bytes_of m) ox oy bytes in
    let kinds : kinds_of x ++ (flat_map kinds_of l ++ others) ≡ kinds_of y ++ flat_map kinds_of m = sym (regroup kinds_of x l others) ∙ sym k ∙ flat_map-cons kinds_of y m in
    let reported : is_some (kind_of x) ≡ is_some (kind_of y) = ap is_some (a.1 ∙ sym b.1) in
    let kind = same_kind (kind_of x) (kind_of y) (flat_map kinds_of l ++ others) (flat_map kinds_of m) reported kinds in
    go both.0 ol om (λ tl tm. tagged_front l m others c tl tm sl.1 sm.1 (sym kind.1) (sym both.1)) (λ pl pm. front l m others c pl pm sl.1 sm.1 (sym kind.1) (sym both.1))
  where
    go : x ≡ y → AreInOrder (x ∷ l) → AreInOrder (y ∷ m) → (AllByRecursion IsTagged l → AllByRecursion IsTagged m → (n : List ClientMessage) × (m ≡ l ++ n))
        → (AreInOrder l → AreInOrder m → (n : List ClientMessage) × (m ≡ l ++ n)) → (n : List ClientMessage) × (y ∷ m ≡ (x ∷ l) ++ n)
    go same (inl p) (inl q) tagged more = let rest = tagged p.1 q.1 in (rest.0, cons x y l rest.0 m same rest.1)
    go same (inl p) (inr q) tagged more = absurd (not_both y (subst IsStartup same p.0) q.0)
    go same (inr p) (inl q) tagged more = absurd (not_both y q.0 (subst IsRequest same p.0))
    go same (inr p) (inr q) tagged more = let rest = more p.1 q.1 in (rest.0, cons x y l rest.0 m same rest.1)

-- later bytes change nothing that was read
pub runs_front : (kinds others : List PasswordKind) (l m : List ClientMessage) (b c : List ℕ) → ClientRun kinds l b → ClientRun (kinds ++ others) m (b ++ c) → (n : List ClientMessage) × (m ≡ l ++ n)
runs_front kinds others l m b c p q =
    front l m others c p.order q.order p.spelled q.spelled (sym q.reported ∙ ap (λ ks. ks ++ others) p.reported) (sym q.whole ∙ ap (λ bs. bs ++ c) p.whole)

no_more : (l n k : List ClientMessage) → l ≡ (l ++ n) ++ k → n ≡ []
no_more l [] k e = refl
no_more l (x ∷ n) k e =
    let len : length l ≡ length ((l ++ x ∷ n) ++ k) = ap length e in
    absurd (omega (arith, len, length-append (l ++ x ∷ n) k, length-append l (x ∷ n)))

-- one list of messages
pub runs_one : (kinds : List PasswordKind) (l m : List ClientMessage) (b : List ℕ) → ClientRun kinds l b → ClientRun kinds m b → l ≡ m
runs_one kinds l m b p q =
    let on = runs_front kinds [] l m b [] p (rw (append-nil kinds, append-nil b) q) in
    let back = runs_front kinds [] m l b [] q (rw (append-nil kinds, append-nil b) p) in
    let none : on.0 ≡ [] = no_more l on.0 back.0 (back.1 ∙ ap (λ x. x ++ back.0) on.1) in
    sym (on.1 ∙ ap (λ x. l ++ x) none ∙ append-nil l)

-- one list of bytes
pub runs_bytes : (kinds more : List PasswordKind) (l : List ClientMessage) (b c : List ℕ) → ClientRun kinds l b → ClientRun more l c → (b ≡ c) × (kinds ≡ more)
runs_bytes kinds more l b c p q = (p.whole ∙ sym q.whole, p.reported ∙ sym q.reported)

-- ---- one message more

pub each_push : {X : Type 0} (P : X → Type 0) (xs : List X) (x : X) → AllByRecursion P xs → P x → AllByRecursion P (xs ++ x ∷ [])
each_push P [] x all one = (one, tt)
each_push P (y ∷ xs) x all one = (all.0, each_push P xs x all.1 one)

pushed : {X A : Type 0} (f : X → List A) (xs : List X) (x : X) → flat_map f (xs ++ x ∷ []) ≡ flat_map f xs ++ f x
pushed f xs x = flat_map-append f xs (x ∷ []) ∙ ap (λ l. flat_map f xs ++ l) (flat_map-cons f x [] ∙ append-nil (f x))

startup_opens : (m : ClientMessage) (messages : List ClientMessage) → IsStartup m → is_opened (m ∷ messages) ≡ true
startup_opens (Startup version parameters) messages s = refl
startup_opens _ messages s = absurd s

request_opens : (m : ClientMessage) (messages : List ClientMessage) → IsRequest m → is_opened (m ∷ messages) ≡ is_opened messages
request_opens (CancelRequest process_id secret_key) messages r = refl
request_opens SslRequest messages r = refl
request_opens GssEncRequest messages r = refl
request_opens _ messages r = absurd r

in_order : (l : List ClientMessage) (m : ClientMessage) (o : Bool) → AreInOrder l → o ≡ is_opened l → MayCome m o → AreInOrder (l ++ m ∷ [])
in_order [] m true order e h = cc
in_order [] m false order e (inl s, named) = inl (s, tt)
in_order [] m false order e (inr r, named) = inr (r, tt)
in_order (x ∷ l) m o (inl p) e h = inl (p.0, each_push IsTagged l m p.1 (subst (MayCome m) (e ∙ startup_opens x l p.0) h))
in_order (x ∷ l) m o (inr p) e h = inr (p.0, in_order l m o p.1 (e ∙ request_opens x l p.0) h)

one_of_two : (a b c d : Bool) → b ≡ (if c then true else d) → (a || b) ≡ (if c then true else (a || d))
one_of_two true b true d e = refl
one_of_two true b false d e = refl
one_of_two false b c d e = e

pub opened_more : (l : List ClientMessage) (m : ClientMessage) → is_opened (l ++ m ∷ []) ≡ (if is_startup m then true else is_opened l)
opened_more [] m = go (is_startup m)
  where
    go : (b : Bool) → (b || false) ≡ (if b then true else false)
    go true = refl
    go false = refl
opened_more (x ∷ l) m = one_of_two (is_startup x) (is_opened (l ++ m ∷ [])) (is_startup m) (is_opened l) (opened_more l m)

tagged_named : (m : ClientMessage) → IsTagged m → IsNamed m
tagged_named (Startup version parameters) t = absurd (t refl)
tagged_named (CancelRequest a b) t = tt
tagged_named _ t = tt

named : (m : ClientMessage) (o : Bool) → MayCome m o → IsNamed m
named m false h = h.1
named m true h = tagged_named m h

pub run_more : (kinds : List PasswordKind) (l : List ClientMessage) (m : ClientMessage) (b : List ℕ) → ClientRun kinds l b → MayCome m (is_opened l) → cause m ≡ None → IsInRange m
    → ClientRun (kinds ++ kinds_of m) (l ++ m ∷ []) (b ++ bytes_of m)
run_more kinds l m b run may none in_range = record {
  order = in_order l m (is_opened l) run.order refl may;
  spelled = each_push IsSpelled l m run.spelled (record { none = none; in_range = in_range; named = named m (is_opened l) may });
  reported = ap (λ ks. ks ++ kinds_of m) run.reported ∙ sym (pushed kinds_of l m);
  whole = ap (λ bs. bs ++ bytes_of m) run.whole ∙ sym (pushed bytes_of l m);
}

-- ---- whatever the kinds, a startup packet is read or none

same_phase : (l m : List ClientMessage) → AreInOrder l → AreInOrder m → AllByRecursion IsSpelled l → AllByRecursion IsSpelled m → flat_map bytes_of l ≡ flat_map bytes_of m → is_opened l ≡ is_opened m
same_phase [] [] ol om sl sm e = refl
same_phase [] (y ∷ m) ol om sl sm e = absurd (has_bytes y (flat_map bytes_of m) (sym (e ∙ flat_map-cons bytes_of y m)))
same_phase (x ∷ l) [] ol om sl sm e = absurd (has_bytes x (flat_map bytes_of l) (sym (sym e ∙ flat_map-cons bytes_of x l)))
same_phase (x ∷ l) (y ∷ m) ol om sl sm e =
    let bytes : bytes_of x ++ flat_map bytes_of l ≡ bytes_of y ++ flat_map bytes_of m = sym (flat_map-cons bytes_of x l) ∙ e ∙ flat_map-cons bytes_of y m in
    let a = opening x (one_of x l ol) in
    let b = opening y (one_of y m om) in
    let ox : Opening x (bytes_of x) = record { untagged = a.0; spelled = sl.0; are = refl } in
    let oy : Opening y (bytes_of y) = record { untagged = b.0; spelled = sm.0; are = refl } in
    let both = opening_read x y (bytes_of x) (bytes_of y) (flat_map bytes_of l) (flat_map bytes_of m) ox oy bytes in
    go both.0 ol om (λ pl pm. same_phase l m pl pm sl.1 sm.1 both.1)
  where
    go : x ≡ y → AreInOrder (x ∷ l) → AreInOrder (y ∷ m) → (AreInOrder l → AreInOrder m → is_opened l ≡ is_opened m) → is_opened (x ∷ l) ≡ is_opened (y ∷ m)
    go same (inl p) (inl q) more = startup_opens x l p.0 ∙ sym (startup_opens y m q.0)
    go same (inl p) (inr q) more = absurd (not_both y (subst IsStartup same p.0) q.0)
    go same (inr p) (inl q) more = absurd (not_both y q.0 (subst IsRequest same p.0))
    go same (inr p) (inr q) more = request_opens x l p.0 ∙ more p.1 q.1 ∙ sym (request_opens y m q.0)

pub one_phase : (kinds others : List PasswordKind) (l m : List ClientMessage) (b : List ℕ) → ClientRun kinds l b → ClientRun others m b → is_opened l ≡ is_opened m
one_phase kinds others l m b p q = same_phase l m p.order q.order p.spelled q.spelled (sym p.whole ∙ q.whole)

-- ---- a startup packet with an empty name

-- the name is empty, and so is its value but for one byte
abbrev no_name : ℕ → ClientMessage
no_name minor = Startup minor (([], 120 ∷ []) ∷ [])

abbrev pub nameless : ℕ → List ℕ
nameless minor = bytes_of (no_name minor)

zero_cause : (w : ℕ) (c : ℕ) (cs v : List ℕ) (ps : List (List ℕ × List ℕ)) → c ≡ 0 → cause (Startup w ((c ∷ cs, v) ∷ ps)) ≡ None → ⊥
zero_cause w c cs v ps e h = let k : cause (Startup w ((0 ∷ cs, v) ∷ ps)) ≡ None = subst (λ x. cause (Startup w ((x ∷ cs, v) ∷ ps)) ≡ None) e h in cc

no_names : (v : List ℕ) (ps : List (List ℕ × List ℕ)) → All (λ p. p.0 ≢ []) (([], v) ∷ ps) → ⊥
no_names v ps h = (recursion_from_All (λ (p : List ℕ × List ℕ). p.0 ≢ []) (([], v) ∷ ps) h).0 refl

byte_of : (k : ℕ) (x y : List ℕ) → x ≡ y → slice_index x k ≡ slice_index y k
byte_of k x y e = ap (λ l. slice_index l k) e

-- a request has another code
no_request : (minor code : ℕ) (m : ClientMessage) (body rest : List ℕ) → minor < 2 ^ 16 → 262144 ≤ code → FitsSigned w32 (pos code) → tag_of m ≡ None → payload m ≡ int32 (pos code) ++ body → IsSpelled m
    → nameless minor ≡ bytes_of m ++ rest → ⊥
no_request minor code m body rest small large fits untagged is s e =
    let size : length (payload (no_name minor)) + 4 ≡ 12 = sym (framed_length (payload (no_name minor))) ∙ startup_length minor (([], 120 ∷ []) ∷ []) in
    let whole : framed None (payload (no_name minor)) ++ [] ≡ framed None (payload m) ++ rest = append-nil (nameless minor) ∙ e ∙ ap (λ t. framed t (payload m) ++ rest) untagged in
    let same = bodies (payload (no_name minor)) (payload m) [] rest (omega (arith, size)) (length_fits m s) whole in
    no_minor minor code small large (int32_begins (minor_code minor) (pos code) _ body (minor_fits minor small) fits (same.0 ∙ is)).0

not_first : (minor : ℕ) (m : ClientMessage) (rest : List ℕ) → minor < 2 ^ 16 → IsStartup m ⊎ IsRequest m → IsSpelled m → nameless minor ≡ bytes_of m ++ rest → ⊥
unfolding uint32 int32
not_first minor (Startup w []) rest small o s e = let h : 12 ≡ 9 = byte_of 3 (nameless minor) (bytes_of (Startup w []) ++ rest) e in omega (arith, h)
not_first minor (Startup w (([], v) ∷ ps)) rest small o s e = no_names v ps s.named
not_first minor (Startup w ((c ∷ cs, v) ∷ ps)) rest small o s e = let h : 0 ≡ c = byte_of 8 (nameless minor) (bytes_of (Startup w ((c ∷ cs, v) ∷ ps)) ++ rest) e in zero_cause w c cs v ps (sym h) s.none
not_first minor (CancelRequest a b) rest small o s e = no_request minor 80877102 (CancelRequest a b) _ rest small (omega arith) s.in_range.0.0 refl refl s e
not_first minor SslRequest rest small o s e = no_request minor 80877103 SslRequest _ rest small (omega arith) s.in_range.0.0 refl refl s e
not_first minor GssEncRequest rest small o s e = no_request minor 80877104 GssEncRequest _ rest small (omega arith) s.in_range.0.0 refl refl s e
not_first minor _ rest small (inl o) s e = absurd o
not_first minor _ rest small (inr o) s e = absurd o

pub no_run : (minor : ℕ) (kinds : List PasswordKind) (l : List ClientMessage) → minor < 2 ^ 16 → ClientRun kinds l (nameless minor) → ⊥
no_run minor kinds [] small run = has_bytes (no_name minor) [] (rw (append-nil (nameless minor)) run.whole)
no_run minor kinds (m ∷ l) small run = not_first minor m (flat_map bytes_of l) small (one_of m l run.order) run.spelled.0 (run.whole ∙ flat_map-cons bytes_of m l)

pub nothing : ClientRun [] [] []
nothing = record { order = tt; spelled = tt; reported = refl; whole = refl }
