-- What a reader reads is the one list and end of a buffer.
use Rattle.pgp_base.proofs.Common.{ℕ, List, length, Result, sym, ap, ◌∙◌, Error, IsReader, counted_run, marked, left_of}
use Rattle.pgp_base.specs.OneList.{HasOneCountedList, HasOneMarkedList}
use Rattle.pgp_base.proofs.CountedLemmas.{counted_whole, counted_one}
use Rattle.pgp_base.proofs.MarkedLemmas.{marked_whole, marked_one}

module _ {V : Type 0} (Spelled : ℕ → V → List ℕ → Type 0) (Refused : List ℕ → Error → Type 0) (read : ℕ → List ℕ → Result (V × List ℕ) Error) (reads : IsReader Spelled Refused read) where
  pub one_counted_list : HasOneCountedList Spelled Refused
  one_counted_list = record {
    some = λ n buffer h.
        let run = counted_run (left_of read (length buffer)) n buffer in
        (run.0, run.1, counted_whole Spelled Refused read reads n buffer h);
    one = λ n buffer xs ys d e left right.
        let same = sym (counted_one Spelled Refused read reads n buffer xs d left) ∙ counted_one Spelled Refused read reads n buffer ys e right in
        (ap (λ r. r.0) same, ap (λ r. r.1) same);
  }

  pub one_marked_list : HasOneMarkedList Spelled Refused
  one_marked_list = record {
    some = λ buffer h.
        let walk = marked (left_of read (length buffer)) buffer in
        (walk.items, walk.end, marked_whole Spelled Refused read reads buffer h);
    one = λ buffer xs ys d e left right.
        let same = sym (marked_one Spelled Refused read reads buffer xs d left) ∙ marked_one Spelled Refused read reads buffer ys e right in
        (ap (λ r. r.0) same, ap (λ r. r.1) same);
  }
