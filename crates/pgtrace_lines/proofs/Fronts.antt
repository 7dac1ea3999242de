-- What a writer took of some bytes.
use Rattle.pgtrace_lines.proofs.Common.{ℕ, List, [], ◌++◌, length, take, Option, Some, None, refl, sym, ap, ◌∙◌, arith, length-append, Appends, Keeps, Appends-nil, Appends-trans, append-nil, take_all, take-append-add, AppendsFront}

-- nothing
pub none_taken : (old : Option (List ℕ)) (bytes : List ℕ) → AppendsFront old old bytes
none_taken old bytes = record { taken = []; is_front = refl; written = Appends-nil old }

-- all of them
pub all_taken : (old new : Option (List ℕ)) (bytes : List ℕ) → Appends old new bytes → AppendsFront old new bytes
all_taken old new bytes w = record { taken = bytes; is_front = take_all (length bytes) bytes (omega arith); written = w }

-- some more after those that were taken
pub more_taken : (old mid new : Option (List ℕ)) (xs ys : List ℕ) → Appends old mid xs → AppendsFront mid new ys → AppendsFront old new (xs ++ ys)
more_taken old mid new xs ys w front = record {
  taken = xs ++ front.taken;
  is_front = ap (λ n. take n (xs ++ ys)) (length-append xs front.taken) ∙ take-append-add xs ys (length front.taken) ∙ ap (λ l. xs ++ l) front.is_front;
  written = Appends-trans old mid new xs front.taken w front.written;
}

pub kept_nothing : (old new : Option (List ℕ)) → Keeps old new → Appends old new []
kept_nothing None new k = tt
kept_nothing (Some x) None k = absurd k
kept_nothing (Some x) (Some y) k = k ∙ sym (append-nil x)
