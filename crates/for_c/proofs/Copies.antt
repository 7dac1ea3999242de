-- The head of a message with data of a copy.
use Rattle.for_c.proofs.Common.{◌≡◌, ℕ, ◌+◌, ◌≤◌, List, [], ◌∷◌, ◌++◌, length, take, drop, Result, Ok, Err, None, refl, ap, ◌∙◌, inl, arith, GName, IfErr, append-nil, Wants, WantsMemory, number_of, Held, ◌⊕◌, window_held, window_lacks, uint32, frame, Error, Window, length_fits, wants_window, memory_more, memory_then, CopyData, bytes_of, cause, copy_head, SentHead, NoHead, Wrote}
use Rattle.for_c.proofs.Sending.{wrote}

-- any data of this length after the head are the message of these data
message : (len : ℕ) → len ≤ 2147483643 → (bytes : List ℕ) → length bytes ≡ len → (cause (CopyData bytes) ≡ None) × (bytes_of (CopyData bytes) ≡ copy_head len ++ bytes)
message len few bytes size =
    let whole : bytes ++ [] ≡ bytes = append-nil bytes in
    let count = ap (λ l. length l) whole in (
      length_fits (length (bytes ++ []) + 4) (omega (arith, few, size, count)),
      ap (λ l. frame 100 l) whole ∙ ap (λ n. 100 ∷ (uint32 (n + 4) ++ bytes)) size,
    )

pub head_sent : (len size : ℕ) → size ≡ len + 4 → len ≤ 2147483643 → (w v : Window) (old : List ℕ) (name : GName) → window_held w ≡ record { bytes = []; behind = old; kept = (name, length old) }
    → window_held v ≡ window_held w ⊕ (100 ∷ uint32 size) → (x : List ℕ) → (name ≡ v.room.ghost_name → x ≡ v.room.now) → (reported : ℕ) → reported ≡ length (take v.len v.room.now) → SentHead len old x reported
unfolding uint32
head_sent len size is few w v old name new put x at_last reported reported_is =
    let h : Wrote (copy_head len) old x reported = wrote (copy_head len) (100 ∷ uint32 size) (ap (λ n. 100 ∷ uint32 n) is) w v old name new put x at_last reported reported_is in
    let count : length (copy_head len) ≡ 5 = refl in
    record {
      length_is = h.length_is ∙ count;
      fits = let f = h.fits in omega (arith, f, count);
      stands = h.stands ∙ ap (λ n. copy_head len ++ drop n old) count;
      message = message len few;
    }

pub head_lacks : (len : ℕ) (w : Window) (old : List ℕ) (name : GName) → window_held w ≡ record { bytes = []; behind = old; kept = (name, length old) }
    → (e : Error) (code reported : ℕ) → WantsMemory (Wants window_lacks (window_held w) 5) e → code ≡ number_of e → reported ≡ 0 → NoHead len old reported code
head_lacks len w old name new e code reported memory code_is none =
    let long = wants_window (window_held w) _ memory.1 in
    let room : (window_held w).kept.1 ≡ length old = ap (λ (h : Held (GName × ℕ)). h.kept.1) new in
    let empty : length (window_held w).bytes ≡ 0 = ap (λ (h : Held (GName × ℕ)). length h.bytes) new in
    record { length_is = none; why = inl (code_is ∙ ap number_of memory.0, omega (arith, long, room, empty)) }

-- an error after the tag
pub then_head : {K : Type 0} (lacks : Held K → ℕ → Type 0) (old mid : Held K) (r : Result (Unit {0}) Error) → mid ≡ old ⊕ (100 ∷ []) → IfErr r (WantsMemory (Wants lacks mid 4)) → IfErr r (WantsMemory (Wants lacks old 5))
then_head lacks old mid (Ok done) e h = tt
then_head lacks old mid (Err x) e h = memory_then old mid (100 ∷ []) 4 5 x e (omega arith) h

pub at_tag : {K : Type 0} (lacks : Held K → ℕ → Type 0) (old : Held K) (e : Error) → WantsMemory (Wants lacks old 1) e → WantsMemory (Wants lacks old 5) e
at_tag lacks old e h = memory_more old 1 5 e (omega arith) h
