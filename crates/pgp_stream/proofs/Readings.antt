-- What was read, and a piece more.
use Rattle.pgp_stream.proofs.Common.{ℕ, List, ◌++◌, length, length-append, Result, sym, ap, ◌∙◌, Error, Message, header_of, headers_read, Reading, HasRead, GoesOn}

pub has_read_more : (piece : List ℕ) (old new : Reading) → GoesOn piece old new → (bytes : List ℕ) (taken : List (Result Message Error)) → HasRead bytes taken old → HasRead (bytes ++ piece) taken new
has_read_more piece old new on bytes taken h = record {
  run = on.reads bytes taken h.run;
  headers = on.counts (length taken) (h.headers ∙ ap (λ k. headers_read k (header_of old.rest)) (length-append taken old.results))
      ∙ ap (λ k. headers_read k (header_of new.rest)) (sym (length-append taken new.results));
}
