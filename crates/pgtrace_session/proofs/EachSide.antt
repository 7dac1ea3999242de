-- What each side sent, and the lines of the server's stream alone.
use Rattle.pgtrace_session.proofs.Common.{◌≡◌, ℕ, ◌+◌, List, [], ◌∷◌, ◌++◌, length, refl, sym, ap, subst, ◌∙◌, length-append, append_assoc, flat_map, append-nil, flat_map-cons, flat_map-append, Ends, View, nothing_ends, Sender, Client, Server, Marking, Half, ListsChunk, ListsChunks, NoChunkListed, OneChunkListed, Talk, at_first, begins, half_in, now_at, other, side_in, mark, Chunk}
use Rattle.pgtrace_session.specs.Order.{IsSplit, sent, sent_by}
use Rattle.pgtrace_session.proofs.FrameLists.{other_ends, timed_side}

sent_more : (who : Sender) (chunks : List Chunk) (chunk : Chunk) → sent who (chunks ++ chunk ∷ []) ≡ sent who chunks ++ sent_by who chunk.sender chunk.bytes
sent_more who chunks chunk =
    let f : Chunk → List ℕ = λ c. sent_by who c.sender c.bytes in
    flat_map-append f chunks (chunk ∷ []) ∙ ap (λ l. flat_map f chunks ++ l) (flat_map-cons f chunk [] ∙ append-nil (f chunk))

-- the side whose chunk it is
own : (view : View) (here to : Talk) (chunks : List Chunk) (chunk : Chunk) (text : List ℕ) (who : Sender) → chunk.sender ≡ who → sent_by who chunk.sender chunk.bytes ≡ chunk.bytes → (s : IsSplit who chunks here) → (l : ListsChunk view here chunk text to) → IsSplit who (chunks ++ chunk ∷ []) to
own view here to chunks chunk text who is all s l = subst (λ w. IsSplit w (chunks ++ chunk ∷ []) to) is (
    let t = subst (λ w. IsSplit w chunks here) (sym is) s in
    let mine : sent_by chunk.sender chunk.sender chunk.bytes ≡ chunk.bytes = subst (λ w. sent_by w chunk.sender chunk.bytes ≡ chunk.bytes) (sym is) all in
    record {
      front = t.front ++ l.front;
      whole = sent_more chunk.sender chunks chunk ∙ ap (λ b. sent chunk.sender chunks ++ b) mine ∙ ap (λ b. b ++ chunk.bytes) t.whole ∙ append_assoc t.front (half_in chunk.sender here).rest chunk.bytes
          ∙ ap (λ b. t.front ++ b) l.whole ∙ sym (append_assoc t.front l.front (half_in chunk.sender to).rest);
      passed = l.passed ∙ ap (λ n. n + length l.front) t.passed ∙ sym (length-append t.front l.front);
      ending = l.ending;
    })

-- and the other
beside : (view : View) (here to : Talk) (chunks : List Chunk) (chunk : Chunk) (text : List ℕ) (who : Sender) → other chunk.sender ≡ who → sent_by who chunk.sender chunk.bytes ≡ [] → IsSplit who chunks here → ListsChunk view here chunk text to → IsSplit who (chunks ++ chunk ∷ []) to
beside view here to chunks chunk text who is none s l = subst (λ w. IsSplit w (chunks ++ chunk ∷ []) to) is (
    let t = subst (λ w. IsSplit w chunks here) (sym is) s in
    let empty : sent_by (other chunk.sender) chunk.sender chunk.bytes ≡ [] = subst (λ w. sent_by w chunk.sender chunk.bytes ≡ []) (sym is) none in
    let m = mark view.style.form chunk.sender l.time in
    record {
      front = t.front;
      whole = sent_more (other chunk.sender) chunks chunk ∙ ap (λ b. sent (other chunk.sender) chunks ++ b) empty ∙ append-nil (sent (other chunk.sender) chunks) ∙ t.whole ∙ ap (λ (h : Half). t.front ++ h.rest) (sym l.same);
      passed = ap (λ (h : Half). h.passed) l.same ∙ t.passed;
      ending = subst (λ (h : Half). Ends (side_in (other chunk.sender) to.known) h.stopped h.rest) (sym l.same)
          (other_ends view m chunk.sender (half_in chunk.sender here).passed (now_at chunk.micros here.known) l.front text to.known (half_in (other chunk.sender) here).stopped (half_in (other chunk.sender) here).rest l.each
          (subst (λ s. Ends s (half_in (other chunk.sender) here).stopped (half_in (other chunk.sender) here).rest) (sym (timed_side (other chunk.sender) chunk.micros here.known)) t.ending));
    })

split_more : (view : View) (here to : Talk) (chunks : List Chunk) (chunk : Chunk) (text : List ℕ) (who sender : Sender) → chunk.sender ≡ sender → IsSplit who chunks here → ListsChunk view here chunk text to → IsSplit who (chunks ++ chunk ∷ []) to
split_more view here to chunks chunk text Client Client is s l = own view here to chunks chunk text Client is (ap (λ w. sent_by Client w chunk.bytes) is) s l
split_more view here to chunks chunk text Server Server is s l = own view here to chunks chunk text Server is (ap (λ w. sent_by Server w chunk.bytes) is) s l
split_more view here to chunks chunk text Server Client is s l = beside view here to chunks chunk text Server (ap other is) (ap (λ w. sent_by Server w chunk.bytes) is) s l
split_more view here to chunks chunk text Client Server is s l = beside view here to chunks chunk text Client (ap other is) (ap (λ w. sent_by Client w chunk.bytes) is) s l

split_none : (marking : Marking) (who : Sender) → IsSplit who [] (begins marking)
split_none marking Client = record { front = []; whole = refl; passed = refl; ending = nothing_ends (at_first marking).client }
split_none marking Server = record { front = []; whole = refl; passed = refl; ending = nothing_ends (at_first marking).server }

pub each_side : (view : View) (marking : Marking) (chunks : List Chunk) (lines : List ℕ) (talk : Talk) → ListsChunks view (begins marking) chunks lines talk → (who : Sender) → IsSplit who chunks talk
each_side view marking [] [] _ NoChunkListed who = split_none marking who
each_side view marking _ _ talk (OneChunkListed {chunks = chunks} {lines = lines} {here = here} chunk text before l) who =
    split_more view here talk chunks chunk text who chunk.sender refl (each_side view marking chunks lines here before who) l
