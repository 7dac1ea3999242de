-- The names under which messages were asked.
use Rattle.pgp_session.proofs.Common.{◌≡◌, ℕ, ◌+◌, ◌<◌, ◌≤◌, Bool, if◌then◌else◌, List, [], ◌∷◌, ◌++◌, length, Option, Some, None, refl, sym, ap, subst, ◌∙◌, arith, append-nil, length-append, option_to_list, request_of, Turn, Asks, asked_in, ClientMessage, Request, turns_of, ◌^◌, next_name, Kind, Event, AreNamed, Rises, ne_eqb}
use Rattle.pgp_client.specs.Telling.{Hears, names}

rises_up : (low : ℕ) (ns : List ℕ) (high more : ℕ) → Rises low ns high → high ≤ more → Rises low ns more
rises_up low [] high more r le = omega (arith, r, le)
rises_up low (n ∷ ns) high more r le = (r.0, rises_up (n + 1) ns high more r.1 le)

rises_one : (low : ℕ) (ns : List ℕ) (n : ℕ) → Rises low ns n → Rises low (ns ++ n ∷ []) (n + 1)
rises_one low [] n r = (r, omega arith)
rises_one low (x ∷ ns) n r = (r.0, rises_one (x + 1) ns n r.1)

names_more : (turns : List Turn) (r : Option Request) (n : ℕ) → names (asked_in (turns ++ turns_of r n)) ≡ names (asked_in turns) ++ names (asked_in (turns_of r n))
names_more [] r n = refl
names_more (Asks a ∷ turns) r n = ap (λ l. a.name ∷ l) (names_more turns r n)
names_more (Hears k e ∷ turns) r n = names_more turns r n

still_named : (turns : List Turn) (k : Kind) (e : Event) → asked_in (turns ++ Hears k e ∷ []) ≡ asked_in turns
still_named [] k e = refl
still_named (Asks a ∷ turns) k e = ap (λ l. a ∷ l) (still_named turns k e)
still_named (Hears j f ∷ turns) k e = still_named turns k e

one_longer : (l : List ClientMessage) (m : ClientMessage) → length (l ++ m ∷ []) ≡ length l + 1
one_longer l m = length-append l (m ∷ [])

next_is : (n : ℕ) → n < 18446744073709551615 → next_name n ≡ n + 1
next_is n small = ap (λ (b : Bool). if b then 0 else n + 1) (ne_eqb n 18446744073709551615 (λ e. omega (arith, e, small)))

rises_named : (r : Option Request) (ns : List ℕ) (n : ℕ) → Rises 0 ns n → Rises 0 (ns ++ names (asked_in (turns_of r n))) (n + 1)
rises_named None ns n rises = subst (λ l. Rises 0 l (n + 1)) (sym (append-nil ns)) (rises_up 0 ns n (n + 1) rises (omega arith))
rises_named (Some r) ns n rises = rises_one 0 ns n rises

-- a message was asked under the next name
pub named_next : (turns : List Turn) (next new name : ℕ) (written : List ClientMessage) (m : ClientMessage) → name ≡ next → new ≡ next_name next
    → AreNamed turns next written → AreNamed (turns ++ turns_of (request_of m) name) new (written ++ m ∷ [])
named_next turns next new name written m is new_is named small =
    let one = one_longer written m in
    let had = named (omega (arith, one, small)) in
    let grown : new ≡ next + 1 = new_is ∙ next_is next (omega (arith, one, small, had.1)) in
    let rises : Rises 0 (names (asked_in turns) ++ names (asked_in (turns_of (request_of m) name))) (next + 1) =
    subst (λ n. Rises 0 (names (asked_in turns) ++ names (asked_in (turns_of (request_of m) n))) (next + 1)) (sym is) (rises_named (request_of m) (names (asked_in turns)) next had.0) in (
      subst (λ l. Rises 0 l new) (sym (names_more turns (request_of m) name)) (subst (λ n. Rises 0 (names (asked_in turns) ++ names (asked_in (turns_of (request_of m) name))) n) (sym grown) rises),
      omega (arith, one, grown, had.1),
    )

-- a message was written that asks nothing
pub named_still : (turns : List Turn) (next new name : ℕ) (written : List ClientMessage) (m : ClientMessage) → request_of m ≡ None → new ≡ next
    → AreNamed turns next written → AreNamed (turns ++ turns_of (request_of m) name) new (written ++ m ∷ [])
named_still turns next new name written m none new_is named small =
    let one = one_longer written m in
    let had = named (omega (arith, one, small)) in
    let same : asked_in (turns ++ turns_of (request_of m) name) ≡ asked_in turns = ap (λ (r : Option Request). asked_in (turns ++ turns_of r name)) none ∙ ap asked_in (append-nil turns) in
    (subst (λ l. Rises 0 (names l) new) (sym same) (subst (λ n. Rises 0 (names (asked_in turns)) n) (sym new_is) had.0), omega (arith, one, new_is, had.1))

-- a message was heard, and perhaps answered
pub named_heard : (turns : List Turn) (k : Kind) (e : Event) (next new : ℕ) (written : List ClientMessage) (reply : Option ClientMessage) → new ≡ next
    → AreNamed turns next written → AreNamed (turns ++ Hears k e ∷ []) new (written ++ option_to_list reply)
named_heard turns k e next new written reply new_is named small =
    let longer : length (written ++ option_to_list reply) ≡ length written + length (option_to_list reply) = length-append written (option_to_list reply) in
    let had = named (omega (arith, longer, small)) in
    (subst (λ l. Rises 0 (names l) new) (sym (still_named turns k e)) (subst (λ n. Rises 0 (names (asked_in turns)) n) (sym new_is) had.0), omega (arith, longer, new_is, had.1))

pub named_same : (turns : List Turn) (next new : ℕ) (written : List ClientMessage) → new ≡ next → AreNamed turns next written → AreNamed turns new written
named_same turns next new written new_is named = subst (λ n. AreNamed turns n written) (sym new_is) named

-- what was written was named below 2^64
pub named_all : (turns : List Turn) (next : ℕ) (written : List ClientMessage) → AreNamed turns next written → length written < 2 ^ 64 → Rises 0 (names (asked_in turns)) (2 ^ 64)
named_all turns next written named small = let had = named small in rises_up 0 (names (asked_in turns)) next (2 ^ 64) had.0 (omega (arith, had.1, small))
