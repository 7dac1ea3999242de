-- Steps along a stream up to its first description of a row.
use Rattle.pgp_uses.proofs.Common.{◌≡◌, ℕ, List, [], ◌∷◌, ◌++◌, map, Option, Some, None, Result, Ok, Err, subst, sym, AllByRecursion, Error, Walk, FieldPart, Message, RowDescription, TakesFrame, Step, IsOther, Passed, Columns, FirstColumns, HasNames, HasBroken}
use Rattle.pgp_base.specs.declared.error.Error.TheVariants as errors
use Rattle.pgp_message.proofs.Runs.{frames_next}

others_push : (results : List (Result Message Error)) (r : Result Message Error) → AllByRecursion IsOther results → IsOther r → AllByRecursion IsOther (results ++ r ∷ [])
others_push [] r all one = (one, tt)
others_push (x ∷ xs) r all one = (all.0, others_push xs r all.1 one)

-- one frame more that describes no row
pub passes : (bytes old new : List ℕ) (r : Result Message Error) → Passed bytes old → TakesFrame old r new → IsOther r → Passed bytes new
passes bytes old new r p takes other = record {
  results = p.results ++ r ∷ [];
  frames = frames_next bytes old new p.results r p.frames takes;
  others = others_push p.results r p.others other;
}

is_other : (m : Message) → Columns m None → IsOther (Ok m)
is_other (RowDescription row) h = absurd h
is_other _ h = tt

-- a message with no columns
pub skips : (bytes old new : List ℕ) (m : Message) → Passed bytes old → TakesFrame old (Ok m) new → Columns m None → Passed bytes new
skips bytes old new m p takes h = passes bytes old new (Ok m) p takes (is_other m h)

-- a rejected frame
pub skips_fault : (bytes old new : List ℕ) (e : Error) → Passed bytes old → Step ⊥ old (Err e) new → Passed bytes new
skips_fault bytes old new errors.InvalidLength p s = subst (λ l. Passed bytes l) (sym s.1) p
skips_fault bytes old new errors.OutOfMemory p s = absurd s.1
skips_fault bytes old new e p s = passes bytes old new (Err e) p s tt

-- the first message with columns
pub finds : (bytes old new : List ℕ) (m : Message) (walk : Walk FieldPart) → Passed bytes old → TakesFrame old (Ok m) new → Columns m (Some walk) → FirstColumns bytes walk.items walk.end
finds bytes old new (RowDescription row) walk p takes h = record {
  row = row;
  first = record { before = p.results; others = p.others; rest = new; frames = frames_next bytes old new p.results (Ok (RowDescription row)) p.frames takes };
  items = h;
}
finds bytes old new _ walk p takes h = absurd h

pub has_names : (bytes : List ℕ) (names : List (List ℕ)) (columns : List FieldPart) (end : Option Error) → FirstColumns bytes columns end → end ≡ None → names ≡ map (λ column. column.name) columns → HasNames bytes names
has_names bytes names columns end first e are = (columns, subst (λ x. FirstColumns bytes columns x) e first, are)

pub has_broken : (bytes : List ℕ) (columns : List FieldPart) (end : Option Error) (e : Error) → FirstColumns bytes columns end → end ≡ Some e → HasBroken bytes e
has_broken bytes columns end e first is = (columns, subst (λ x. FirstColumns bytes columns x) is first)
