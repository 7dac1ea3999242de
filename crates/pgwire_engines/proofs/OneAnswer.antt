-- A script has one output: each line says one thing, and one line is the first that is rejected. A stream
-- has one listing.
use Rattle.pgwire_engines.proofs.Common.{◌≡◌, ℕ, ◌+◌, Bool, true, List, [], ◌∷◌, ◌++◌, length, get_or, Contains, Some, None, refl, sym, ap, subst, ◌∙◌, arith, inl, inr, length-append, codes, decimal, AllByRecursion, flat_map, slice_split, IsUtf8, V3_0, V3_2, ClientMessage, Query, PasswordMessage, Startup, SslRequest, CancelRequest, GssEncRequest, Sync, Terminate, cause, minor_of, IsSpelled, AreInOrder, IsStartup, IsRequest, IsTagged, MayCome, is_opened, runs_bytes, Ask, ClientOutput, IsFaulty, IsRefused, IsSent, Sends, reported, line, line_of, last_line, BackendOutput, ArePairs, HasWord, IsPair, Says, is_newline, is_space, version_word}
use Rattle.hex.specs.Hex.{encode_lower}
use Rattle.pgp_frontend.specs.declared.startup.ProtocolVersion.{ProtocolVersion}
use Rattle.pgp_message.proofs.Runs.{runs_one}
use Rattle.pgwire_engines.specs.declared.client.LineFault.{LineFault}
use Rattle.pgwire_engines.specs.declared.client.LineFault.TheVariants.{NotUtf8, WrongWords, WrongPhase, Refused}
use Rattle.pgwire_engines.proofs.ScriptLemmas.{free_by, one_cut, one_word}

-- ---- a line says one thing

abbrev first_word : (text : List ℕ) (m : ClientMessage) → Says text m → List ℕ
first_word text SslRequest says = codes "ssl"
first_word text Sync says = codes "sync"
first_word text Terminate says = codes "terminate"
first_word text (Query z) says = codes "query"
first_word text (PasswordMessage z) says = codes "password"
first_word text (Startup n ps) says = version_word says.0
first_word text _ says = []

version_free : (v : ProtocolVersion) → Contains (version_word v) 32 → ⊥
version_free V3_0 = free_by 32 (codes "startup") refl
version_free V3_2 = free_by 32 (codes "startup32") refl

word_free : (text : List ℕ) (m : ClientMessage) (says : Says text m) → Contains (first_word text m says) 32 → ⊥
word_free text SslRequest says = free_by 32 (codes "ssl") refl
word_free text Sync says = free_by 32 (codes "sync") refl
word_free text Terminate says = free_by 32 (codes "terminate") refl
word_free text (Query z) says = free_by 32 (codes "query") refl
word_free text (PasswordMessage z) says = free_by 32 (codes "password") refl
word_free text (Startup n ps) says = version_free says.0
word_free text _ says = λ h. omega (arith, h.1)

has_word : (text : List ℕ) (m : ClientMessage) (says : Says text m) → (rest : List ℕ) × HasWord (first_word text m says) text rest
has_word text SslRequest says = ([], inl (says, refl))
has_word text Sync says = ([], inl (says, refl))
has_word text Terminate says = ([], inl (says, refl))
has_word text (Query z) says = (z, says)
has_word text (PasswordMessage z) says = (z, says)
has_word text (Startup n ps) says = (says.2, says.3)
has_word text _ says = absurd says

same_word : (text : List ℕ) (m n : ClientMessage) (a : Says text m) (b : Says text n) → length (first_word text m a) ≡ length (first_word text n b)
same_word text m n a b =
    let (r, has) = has_word text m a in
    let (s, had) = has_word text n b in
    ap length (one_word (first_word text m a) (first_word text n b) text r s has had (word_free text m a) (word_free text n b)).0

pair_one : (part : List ℕ) (p q : List ℕ × List ℕ) → IsPair part p → IsPair part q → p ≡ q
pair_one part (name, value) (other, rest) a b =
    let same = one_cut 61 name value other rest a.first b.first (sym a.spelled ∙ b.spelled) in
    ap (λ n. (n, value)) same.0 ∙ ap (λ v. (other, v)) same.1

pairs_one : (parts : List (List ℕ)) (ps qs : List (List ℕ × List ℕ)) → ArePairs parts ps → ArePairs parts qs → ps ≡ qs
pairs_one [] ps qs a b = a ∙ sym b
pairs_one ([] ∷ parts) ps qs a b = pairs_one parts ps qs a b
pairs_one ((x ∷ part) ∷ parts) ps qs (p, more, is, one, rest) (q, others, are, other, tail) =
    is ∙ ap (λ h. h ∷ more) (pair_one (x ∷ part) p q one other) ∙ ap (λ l. q ∷ l) (pairs_one parts more others rest tail) ∙ sym are

one_ssl : (text : List ℕ) (n : ClientMessage) → Says text SslRequest → Says text n → SslRequest ≡ n
one_ssl text SslRequest a b = refl
one_ssl text Sync a b = let e : 3 ≡ 4 = same_word text SslRequest Sync a b in absurd (omega (arith, e))
one_ssl text Terminate a b = let e : 3 ≡ 9 = same_word text SslRequest Terminate a b in absurd (omega (arith, e))
one_ssl text (Query y) a b = let e : 3 ≡ 5 = same_word text SslRequest (Query y) a b in absurd (omega (arith, e))
one_ssl text (PasswordMessage y) a b = let e : 3 ≡ 8 = same_word text SslRequest (PasswordMessage y) a b in absurd (omega (arith, e))
one_ssl text (Startup n qs) a (V3_0, is, other, had, pairs) = let e : 3 ≡ 7 = same_word text SslRequest (Startup n qs) a (V3_0, is, other, had, pairs) in absurd (omega (arith, e))
one_ssl text (Startup n qs) a (V3_2, is, other, had, pairs) = let e : 3 ≡ 9 = same_word text SslRequest (Startup n qs) a (V3_2, is, other, had, pairs) in absurd (omega (arith, e))
one_ssl text _ a b = absurd b

one_sync : (text : List ℕ) (n : ClientMessage) → Says text Sync → Says text n → Sync ≡ n
one_sync text SslRequest a b = let e : 4 ≡ 3 = same_word text Sync SslRequest a b in absurd (omega (arith, e))
one_sync text Sync a b = refl
one_sync text Terminate a b = let e : 4 ≡ 9 = same_word text Sync Terminate a b in absurd (omega (arith, e))
one_sync text (Query y) a b = let e : 4 ≡ 5 = same_word text Sync (Query y) a b in absurd (omega (arith, e))
one_sync text (PasswordMessage y) a b = let e : 4 ≡ 8 = same_word text Sync (PasswordMessage y) a b in absurd (omega (arith, e))
one_sync text (Startup n qs) a (V3_0, is, other, had, pairs) = let e : 4 ≡ 7 = same_word text Sync (Startup n qs) a (V3_0, is, other, had, pairs) in absurd (omega (arith, e))
one_sync text (Startup n qs) a (V3_2, is, other, had, pairs) = let e : 4 ≡ 9 = same_word text Sync (Startup n qs) a (V3_2, is, other, had, pairs) in absurd (omega (arith, e))
one_sync text _ a b = absurd b

one_terminate : (text : List ℕ) (n : ClientMessage) → Says text Terminate → Says text n → Terminate ≡ n
one_terminate text SslRequest a b = let e : 9 ≡ 3 = same_word text Terminate SslRequest a b in absurd (omega (arith, e))
one_terminate text Sync a b = let e : 9 ≡ 4 = same_word text Terminate Sync a b in absurd (omega (arith, e))
one_terminate text Terminate a b = refl
one_terminate text (Query y) a b = let e : 9 ≡ 5 = same_word text Terminate (Query y) a b in absurd (omega (arith, e))
one_terminate text (PasswordMessage y) a b = let e : 9 ≡ 8 = same_word text Terminate (PasswordMessage y) a b in absurd (omega (arith, e))
one_terminate text (Startup n qs) a (V3_0, is, other, had, pairs) = let e : 9 ≡ 7 = same_word text Terminate (Startup n qs) a (V3_0, is, other, had, pairs) in absurd (omega (arith, e))
one_terminate text (Startup n qs) a (V3_2, is, other, had, pairs) = let e : 116 ≡ 115 = ap (λ l. get_or l 0 0) (one_word (codes "terminate") (codes "startup32") text [] other (inl (a, refl)) had (free_by 32 (codes "terminate") refl) (version_free V3_2)).0 in absurd (omega (arith, e))
one_terminate text _ a b = absurd b

one_query : (text : List ℕ) (z : List ℕ) (n : ClientMessage) → Says text (Query z) → Says text n → (Query z) ≡ n
one_query text z SslRequest a b = let e : 5 ≡ 3 = same_word text (Query z) SslRequest a b in absurd (omega (arith, e))
one_query text z Sync a b = let e : 5 ≡ 4 = same_word text (Query z) Sync a b in absurd (omega (arith, e))
one_query text z Terminate a b = let e : 5 ≡ 9 = same_word text (Query z) Terminate a b in absurd (omega (arith, e))
one_query text z (Query y) a b = ap Query (one_word (codes "query") (codes "query") text z y a b (free_by 32 (codes "query") refl) (free_by 32 (codes "query") refl)).1
one_query text z (PasswordMessage y) a b = let e : 5 ≡ 8 = same_word text (Query z) (PasswordMessage y) a b in absurd (omega (arith, e))
one_query text z (Startup n qs) a (V3_0, is, other, had, pairs) = let e : 5 ≡ 7 = same_word text (Query z) (Startup n qs) a (V3_0, is, other, had, pairs) in absurd (omega (arith, e))
one_query text z (Startup n qs) a (V3_2, is, other, had, pairs) = let e : 5 ≡ 9 = same_word text (Query z) (Startup n qs) a (V3_2, is, other, had, pairs) in absurd (omega (arith, e))
one_query text z _ a b = absurd b

one_password : (text : List ℕ) (z : List ℕ) (n : ClientMessage) → Says text (PasswordMessage z) → Says text n → (PasswordMessage z) ≡ n
one_password text z SslRequest a b = let e : 8 ≡ 3 = same_word text (PasswordMessage z) SslRequest a b in absurd (omega (arith, e))
one_password text z Sync a b = let e : 8 ≡ 4 = same_word text (PasswordMessage z) Sync a b in absurd (omega (arith, e))
one_password text z Terminate a b = let e : 8 ≡ 9 = same_word text (PasswordMessage z) Terminate a b in absurd (omega (arith, e))
one_password text z (Query y) a b = let e : 8 ≡ 5 = same_word text (PasswordMessage z) (Query y) a b in absurd (omega (arith, e))
one_password text z (PasswordMessage y) a b = ap PasswordMessage (one_word (codes "password") (codes "password") text z y a b (free_by 32 (codes "password") refl) (free_by 32 (codes "password") refl)).1
one_password text z (Startup n qs) a (V3_0, is, other, had, pairs) = let e : 8 ≡ 7 = same_word text (PasswordMessage z) (Startup n qs) a (V3_0, is, other, had, pairs) in absurd (omega (arith, e))
one_password text z (Startup n qs) a (V3_2, is, other, had, pairs) = let e : 8 ≡ 9 = same_word text (PasswordMessage z) (Startup n qs) a (V3_2, is, other, had, pairs) in absurd (omega (arith, e))
one_password text z _ a b = absurd b

-- the words of the two versions aren't of one length
one_version : (text rest other : List ℕ) (v w : ProtocolVersion) → HasWord (version_word v) text rest → HasWord (version_word w) text other → v ≡ w
one_version text rest other V3_0 V3_0 a b = refl
one_version text rest other V3_0 V3_2 a b = let e : 7 ≡ 9 = ap length (one_word (codes "startup") (codes "startup32") text rest other a b (version_free V3_0) (version_free V3_2)).0 in absurd (omega (arith, e))
one_version text rest other V3_2 V3_0 a b = let e : 9 ≡ 7 = ap length (one_word (codes "startup32") (codes "startup") text rest other a b (version_free V3_2) (version_free V3_0)).0 in absurd (omega (arith, e))
one_version text rest other V3_2 V3_2 a b = refl

one_startup : (text : List ℕ) (m n : ℕ) (ps qs : List (List ℕ × List ℕ)) → Says text (Startup m ps) → Says text (Startup n qs) → Startup m ps ≡ Startup n qs
one_startup text m n ps qs (v, is, rest, has, list) (w, are, other, had, others) =
    let rests = (one_word (version_word v) (version_word w) text rest other has had (version_free v) (version_free w)).1 in
    let pairs = pairs_one (slice_split is_space other) ps qs (subst (λ r. ArePairs (slice_split is_space r) ps) rests list) others in
    let minors : m ≡ n = is ∙ ap minor_of (one_version text rest other v w has had) ∙ sym are in
    ap (λ x. Startup x ps) minors ∙ ap (λ xs. Startup n xs) pairs

pub says_one : (text : List ℕ) (m n : ClientMessage) → Says text m → Says text n → m ≡ n
says_one text SslRequest n a b = one_ssl text n a b
says_one text Sync n a b = one_sync text n a b
says_one text Terminate n a b = one_terminate text n a b
says_one text (Query z) n a b = one_query text z n a b
says_one text (PasswordMessage z) n a b = one_password text z n a b
says_one text (Startup v ps) SslRequest a b = sym (one_ssl text (Startup v ps) b a)
says_one text (Startup v ps) Sync a b = sym (one_sync text (Startup v ps) b a)
says_one text (Startup v ps) Terminate a b = sym (one_terminate text (Startup v ps) b a)
says_one text (Startup v ps) (Query y) a b = sym (one_query text y (Startup v ps) b a)
says_one text (Startup v ps) (PasswordMessage y) a b = sym (one_password text y (Startup v ps) b a)
says_one text (Startup v ps) (Startup w qs) a b = one_startup text v w ps qs a b
says_one text (Startup v ps) _ a b = absurd b
says_one text _ n a b = absurd a

word_some : (k : ℕ) (word : List ℕ) → length word ≡ k + 1 → (rest : List ℕ) → HasWord word [] rest → ⊥
word_some k word len rest (inl h) = let e : 0 ≡ length word = ap length h.0 in omega (arith, e, len)
word_some k word len rest (inr h) = let e : 0 ≡ length (word ++ 32 ∷ rest) = ap length h in omega (arith, e, length-append word (32 ∷ rest))

-- an empty line says nothing
says_some : (m : ClientMessage) → Says [] m → ⊥
says_some SslRequest says = let e : 0 ≡ 3 = ap length says in omega (arith, e)
says_some Sync says = let e : 0 ≡ 4 = ap length says in omega (arith, e)
says_some Terminate says = let e : 0 ≡ 9 = ap length says in omega (arith, e)
says_some (Query z) says = word_some 4 (codes "query") refl z says
says_some (PasswordMessage z) says = word_some 7 (codes "password") refl z says
says_some (Startup n ps) (V3_0, is, rest, says, pairs) = word_some 6 (codes "startup") refl rest says
says_some (Startup n ps) (V3_2, is, rest, says, pairs) = word_some 8 (codes "startup32") refl rest says
says_some _ says = says

-- ---- lines ask for one list of messages

ask_one : (lines : List (List ℕ)) (ms ns : List ClientMessage) → Ask lines ms → Ask lines ns → ms ≡ ns
ask_one [] ms ns a b = a ∙ sym b
ask_one ([] ∷ lines) ms ns a b = ask_one lines ms ns a b
ask_one ((x ∷ t) ∷ lines) ms ns (m, more, is, u, s, rest) (n, others, are, v, w, tail) =
    is ∙ ap (λ h. h ∷ more) (says_one (x ∷ t) m n s w) ∙ ap (λ l. n ∷ l) (ask_one lines more others rest tail) ∙ sym are

-- what the first lines ask for comes first
pub record Parts (before rest : List (List ℕ)) (messages : List ClientMessage) : Type 0 where
  pub first : List ClientMessage
  pub others : List ClientMessage
  pub whole : messages ≡ first ++ others
  pub asked : Ask before first
  pub left : Ask rest others

ask_parts : (before rest : List (List ℕ)) (messages : List ClientMessage) → Ask (before ++ rest) messages → Parts before rest messages
ask_parts [] rest messages a = record { first = []; others = messages; whole = refl; asked = refl; left = a }
ask_parts ([] ∷ before) rest messages a =
    let p = ask_parts before rest messages a in
    record { first = p.first; others = p.others; whole = p.whole; asked = p.asked; left = p.left }
ask_parts ((x ∷ t) ∷ before) rest messages (m, more, is, u, s, tail) =
    let p = ask_parts before rest more tail in
    record { first = m ∷ p.first; others = p.others; whole = is ∙ ap (λ l. m ∷ l) p.whole; asked = (m, p.first, refl, u, s, p.asked); left = p.left }

-- ---- each message of a run may come

startup_opens : (m : ClientMessage) (messages : List ClientMessage) → IsStartup m → is_opened (m ∷ messages) ≡ true
startup_opens (Startup v ps) messages s = refl
startup_opens _ messages s = absurd s

request_opens : (m : ClientMessage) (messages : List ClientMessage) → IsRequest m → is_opened (m ∷ messages) ≡ is_opened messages
request_opens SslRequest messages r = refl
request_opens GssEncRequest messages r = refl
request_opens (CancelRequest id key) messages r = refl
request_opens _ messages r = absurd r

tagged_there : (ms : List ClientMessage) (m : ClientMessage) (more : List ClientMessage) → AllByRecursion IsTagged (ms ++ m ∷ more) → IsTagged m
tagged_there [] m more all = all.0
tagged_there (x ∷ ms) m more all = tagged_there ms m more all.1

spelled_there : (ms : List ClientMessage) (m : ClientMessage) (more : List ClientMessage) → AllByRecursion IsSpelled (ms ++ m ∷ more) → IsSpelled m
spelled_there [] m more all = all.0
spelled_there (x ∷ ms) m more all = spelled_there ms m more all.1

may_there : (ms : List ClientMessage) (m : ClientMessage) (more : List ClientMessage) → AreInOrder (ms ++ m ∷ more) → IsSpelled m → MayCome m (is_opened ms)
may_there [] m more (inl h) spelled = (inl h.0, spelled.named)
may_there [] m more (inr h) spelled = (inr h.0, spelled.named)
may_there (x ∷ ms) m more (inl h) spelled = subst (MayCome m) (sym (startup_opens x ms h.0)) (tagged_there ms m more h.1)
may_there (x ∷ ms) m more (inr h) spelled = subst (MayCome m) (sym (request_opens x ms h.0)) (may_there ms m more h.1 spelled)

-- ---- a line that asks for a message that may come isn't rejected

sound_line : (here : List ℕ) (m : ClientMessage) (opened : Bool) (fault : LineFault) → IsUtf8 here → Says here m → MayCome m opened → cause m ≡ None → IsFaulty here opened fault → ⊥
sound_line here m opened NotUtf8 utf8 says may none h = h utf8
sound_line here m opened WrongWords utf8 says may none h = h.2 m says
sound_line here m opened WrongPhase utf8 says may none h = h.1.2 (subst (λ n. MayCome n opened) (says_one here m h.1.0 says h.1.1) may)
sound_line here m opened (Refused e) utf8 says may none h =
    let same : None ≡ Some e = sym none ∙ ap cause (says_one here m h.1.0 says h.1.1) ∙ h.1.3 in cc

empty_line : (opened : Bool) (fault : LineFault) → IsFaulty [] opened fault → ⊥
empty_line opened NotUtf8 h = h ([], (refl, refl))
empty_line opened WrongWords h = h.1 refl
empty_line opened WrongPhase h = says_some h.1.0 h.1.1
empty_line opened (Refused e) h = says_some h.1.0 h.1.1

-- a rejected line isn't among lines whose messages are read
never_before : (before : List (List ℕ)) (here : List ℕ) (after : List (List ℕ)) (first all : List ClientMessage) (bytes : List ℕ) (fault : LineFault) → Ask before first → Sends (before ++ here ∷ after) all bytes → IsFaulty here (is_opened first) fault → ⊥
never_before before [] after first all bytes fault asked sends why = empty_line (is_opened first) fault why
never_before before (x ∷ t) after first all bytes fault asked sends why =
    let p = ask_parts before ((x ∷ t) ∷ after) all sends.asked in
    let (m, more, is, utf8, says, rest) = p.left in
    let whole : all ≡ first ++ m ∷ more = p.whole ∙ ap (λ l. p.first ++ l) is ∙ ap (λ l. l ++ m ∷ more) (ask_one before p.first first p.asked asked) in
    let spelled = spelled_there first m more (subst (AllByRecursion IsSpelled) whole sends.run.spelled) in
    sound_line (x ∷ t) m (is_opened first) fault utf8 says (may_there first m more (subst AreInOrder whole sends.run.order) spelled) spelled.none why

-- ---- a line is rejected for one cause

fault_one : (here : List ℕ) (opened : Bool) (f g : LineFault) → IsFaulty here opened f → IsFaulty here opened g → f ≡ g
fault_one here opened NotUtf8 NotUtf8 a b = refl
fault_one here opened NotUtf8 WrongWords a b = absurd (a b.0)
fault_one here opened NotUtf8 WrongPhase a b = absurd (a b.0)
fault_one here opened NotUtf8 (Refused e) a b = absurd (a b.0)
fault_one here opened WrongWords NotUtf8 a b = absurd (b a.0)
fault_one here opened WrongWords WrongWords a b = refl
fault_one here opened WrongWords WrongPhase a b = absurd (a.2 b.1.0 b.1.1)
fault_one here opened WrongWords (Refused e) a b = absurd (a.2 b.1.0 b.1.1)
fault_one here opened WrongPhase NotUtf8 a b = absurd (b a.0)
fault_one here opened WrongPhase WrongWords a b = absurd (b.2 a.1.0 a.1.1)
fault_one here opened WrongPhase WrongPhase a b = refl
fault_one here opened WrongPhase (Refused e) a b = absurd (a.1.2 (subst (λ n. MayCome n opened) (says_one here b.1.0 a.1.0 b.1.1 a.1.1) b.1.2))
fault_one here opened (Refused e) NotUtf8 a b = absurd (b a.0)
fault_one here opened (Refused e) WrongWords a b = absurd (b.2 a.1.0 a.1.1)
fault_one here opened (Refused e) WrongPhase a b = absurd (b.1.2 (subst (λ n. MayCome n opened) (says_one here a.1.0 b.1.0 a.1.1 b.1.1) a.1.2))
fault_one here opened (Refused e) (Refused d) a b =
    let same : Some e ≡ Some d = sym a.1.3 ∙ ap cause (says_one here a.1.0 b.1.0 a.1.1 b.1.1) ∙ b.1.3 in
    let is : e ≡ d = cc in ap Refused is

-- ---- one line is the first that is rejected

-- two places in a list: the same, or one of them before the other
pub data Places {X : Type 0} (a : List X) (x : X) (b : List X) (y : X) (v : List X) (u : List X) : Type 0 where
  same : a ≡ b → x ≡ y → Places a x b y v u
  earlier : (mid : List X) → b ≡ a ++ x ∷ mid → Places a x b y v u
  later : (mid : List X) → a ≡ b ++ y ∷ mid → Places a x b y v u

places_more : {X : Type 0} (z : X) (a : List X) (x : X) (b : List X) (y : X) (v u : List X) → Places a x b y v u → Places (z ∷ a) x (z ∷ b) y v u
places_more z a x b y v u (same e f) = same (ap (λ l. z ∷ l) e) f
places_more z a x b y v u (earlier mid e) = earlier mid (ap (λ l. z ∷ l) e)
places_more z a x b y v u (later mid e) = later mid (ap (λ l. z ∷ l) e)

places : {X : Type 0} (a : List X) (x : X) (v b : List X) (y : X) (u : List X) → a ++ x ∷ v ≡ b ++ y ∷ u → Places a x b y v u
places [] x v [] y u e = same refl cc
places [] x v (z ∷ b) y u e = let h : z ≡ x = cc in earlier b (ap (λ w. w ∷ b) h)
places (z ∷ a) x v [] y u e = let h : z ≡ y = cc in later a (ap (λ w. w ∷ a) h)
places (z ∷ a) x v (w ∷ b) y u e =
    let h : w ≡ z = cc in
    let t : a ++ x ∷ v ≡ b ++ y ∷ u = cc in
    subst (λ k. Places (z ∷ a) x (k ∷ b) y v u) (sym h) (places_more z a x b y v u (places a x v b y u t))

refused_one : (lines : List (List ℕ)) (output other : List ℕ) (status answer : ℕ) → IsRefused lines output status → IsRefused lines other answer → (output ≡ other) × (status ≡ answer)
refused_one lines output other status answer a b =
    elim (places a.before a.here a.after b.before b.here b.after (sym a.cut ∙ b.cut)) [
      | same e f ↦
          let observed = ask_one b.before a.messages b.messages (subst (λ l. Ask l a.messages) e a.sends.asked) b.sends.asked in
          let why = subst (λ ms. IsFaulty b.here (is_opened ms) a.fault) observed (subst (λ h. IsFaulty h (is_opened a.messages) a.fault) f a.why) in
          let fault = fault_one b.here (is_opened b.messages) a.fault b.fault why b.why in (
            a.text ∙ ap (λ l. line (codes "line " ++ decimal (length l + 1) ++ codes ": " ++ reported a.fault)) e
                ∙ ap (λ k. line (codes "line " ++ decimal (length b.before + 1) ++ codes ": " ++ reported k)) fault ∙ sym b.text,
            a.failed ∙ sym b.failed,
          )
      | earlier mid e ↦ absurd (never_before a.before a.here mid a.messages b.messages b.bytes a.fault a.sends.asked (subst (λ l. Sends l b.messages b.bytes) e b.sends) a.why)
      | later mid e ↦ absurd (never_before b.before b.here mid b.messages a.messages a.bytes b.fault b.sends.asked (subst (λ l. Sends l a.messages a.bytes) e a.sends) b.why)
    ]

sent_one : (lines : List (List ℕ)) (output other : List ℕ) (status answer : ℕ) → IsSent lines output status → IsSent lines other answer → (output ≡ other) × (status ≡ answer)
sent_one lines output other status answer a b =
    let observed = ask_one lines a.messages b.messages a.sends.asked b.sends.asked in
    let bytes = (runs_bytes a.sends.kinds b.sends.kinds b.messages a.bytes b.bytes (rw observed at a.sends.run) b.sends.run).0 in
    (a.text ∙ ap (λ z. line (encode_lower z)) bytes ∙ sym b.text, a.fine ∙ sym b.fine)

never_both : (lines : List (List ℕ)) (output other : List ℕ) (status answer : ℕ) → IsSent lines output status → IsRefused lines other answer → ⊥
never_both lines output other status answer a b =
    never_before b.before b.here b.after b.messages a.messages a.bytes b.fault b.sends.asked (subst (λ l. Sends l a.messages a.bytes) b.cut a.sends) b.why

pub one_answer : (script output other : List ℕ) (status answer : ℕ) → ClientOutput script output status → ClientOutput script other answer → (output ≡ other) × (status ≡ answer)
one_answer script output other status answer (inl a) (inl b) = sent_one (slice_split is_newline script) output other status answer a b
one_answer script output other status answer (inl a) (inr b) = absurd (never_both (slice_split is_newline script) output other status answer a b)
one_answer script output other status answer (inr a) (inl b) = absurd (never_both (slice_split is_newline script) other output answer status b a)
one_answer script output other status answer (inr a) (inr b) = refused_one (slice_split is_newline script) output other status answer a b

-- ---- a stream has one listing

pub one_listing : (input output other : List ℕ) (status answer : ℕ) → BackendOutput input output status → BackendOutput input other answer → (output ≡ other) × (status ≡ answer)
one_listing input output other status answer a b =
    let (results, stops, rest) = runs_one input a.results b.results a.stopped b.stopped a.rest b.rest a.run b.run in (
      a.text ∙ ap (λ l. flat_map line_of l ++ last_line a.stopped (length a.rest)) results
          ∙ ap (λ s. flat_map line_of b.results ++ last_line s (length a.rest)) stops
          ∙ ap (λ l. flat_map line_of b.results ++ last_line b.stopped (length l)) rest ∙ sym b.text,
      a.fine ∙ sym b.fine,
    )
