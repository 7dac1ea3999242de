-- Values of a row and columns of a description, one at a time.
use Rattle.pgtrace_session.proofs.Common.{◌≡◌, ℕ, ℤ, List, [], ◌∷◌, ◌++◌, drop, length, Option, Some, None, refl, sym, ap, subst, ◌∙◌, append_assoc, codes, map, option_map, Range, append-nil, Walk, TakesItem, IsFinished, IsRefused, Error, FieldPart, CountedBytes, HasPlaces, value_at, ListEnds, closing, followed, Style, counted, signed_part, ending, refused, IsBindLine, IsRowLine, ShowsValues, bind_front, column_first, columns_from, names_from, names_parts, parameter, parameters_in, row_front, AddsValue, AddsValues, Bool, suc, Column, with_field}
use Rattle.pgtrace_session.specs.Shelves.{Columns}

-- ---- values

module _ (style : Style) (columns : List Column) (value : Option (Range ℕ) → Option (List ℕ)) (before after : Walk (Option (Range ℕ))) where
  pub values_more : (x : Option (Range ℕ)) (old mid new : List ℕ) → TakesItem before x after → AddsValue style (column_first columns) (value x) old mid
      → AddsValues style (drop 1 columns) (map value after.items) after.end mid new → AddsValues style columns (map value before.items) before.end old new
  values_more x old mid new takes adds rest = record {
    last = rest.last;
    each = subst (λ l. ShowsValues style columns (map value l) old rest.last) (sym takes.items)
        (adds.shown, adds.under, subst (λ l. ShowsValues style (drop 1 columns) (map value after.items) l rest.last) adds.text rest.each);
    text = rest.text ∙ ap (λ e. followed style rest.last (ending ListEnds e)) takes.end;
  }

  pub values_end : (old new : List ℕ) → IsFinished before after → new ≡ followed style old (ListEnds ∷ []) → AddsValues style columns (map value before.items) before.end old new
  values_end old new ends grown = record {
    last = old;
    each = subst (λ l. ShowsValues style columns (map value l) old old) (sym ends.items) refl;
    text = grown ∙ ap (λ e. followed style old (ending ListEnds e)) (sym ends.end);
  }

  pub values_fault : (e : Error) (old new : List ℕ) → IsRefused before e after → new ≡ followed style old (ListEnds ∷ refused e) → AddsValues style columns (map value before.items) before.end old new
  values_fault e old new ends grown = record {
    last = old;
    each = subst (λ l. ShowsValues style columns (map value l) old old) (sym ends.items) refl;
    text = grown ∙ ap (λ e. followed style old (ending ListEnds e)) (sym ends.end);
  }

pub row_line : (style : Style) (place len : ℕ) (named : Bool) (columns : Columns) (row : CountedBytes) (places : List (Option (Range ℕ))) (end : Option Error) (buffer front text more line : List ℕ) → HasPlaces row places end → buffer ≡ row.storage → front ≡ row_front style place len row.count
    → AddsValues style columns.list (map (value_at buffer) places) end front text → more ≡ followed style text (names_parts named columns) → line ≡ more ++ closing style ++ 10 ∷ [] → IsRowLine style place len named columns row line
row_line style place len named columns row places end buffer front text more line has stands begins adds names ended = record {
  places = places;
  end = end;
  values = adds.last;
  list = has;
  each = subst (λ f. ShowsValues style columns.list (map (value_at row.storage) places) f adds.last) begins (subst (λ b. ShowsValues style columns.list (map (value_at b) places) front adds.last) stands adds.each);
  is = ended ∙ ap (λ t. t ++ closing style ++ 10 ∷ []) (names ∙ ap (λ t. followed style t (names_parts named columns)) adds.text);
}

-- the same of values that stand in no bytes
module _ (style : Style) (columns : List Column) (before after : Walk (Option (List ℕ))) where
  pub each_more : (x : Option (List ℕ)) (old mid new : List ℕ) → TakesItem before x after → AddsValue style (column_first columns) x old mid
      → AddsValues style (drop 1 columns) after.items after.end mid new → AddsValues style columns before.items before.end old new
  each_more x old mid new takes adds rest = record {
    last = rest.last;
    each = subst (λ l. ShowsValues style columns l old rest.last) (sym takes.items)
        (adds.shown, adds.under, subst (λ l. ShowsValues style (drop 1 columns) after.items l rest.last) adds.text rest.each);
    text = rest.text ∙ ap (λ e. followed style rest.last (ending ListEnds e)) takes.end;
  }

  pub each_end : (old new : List ℕ) → IsFinished before after → new ≡ followed style old (ListEnds ∷ []) → AddsValues style columns before.items before.end old new
  each_end old new ends grown = record {
    last = old;
    each = subst (λ l. ShowsValues style columns l old old) (sym ends.items) refl;
    text = grown ∙ ap (λ e. followed style old (ending ListEnds e)) (sym ends.end);
  }

  pub each_fault : (e : Error) (old new : List ℕ) → IsRefused before e after → new ≡ followed style old (ListEnds ∷ refused e) → AddsValues style columns before.items before.end old new
  each_fault e old new ends grown = record {
    last = old;
    each = subst (λ l. ShowsValues style columns l old old) (sym ends.items) refl;
    text = grown ∙ ap (λ e. followed style old (ending ListEnds e)) (sym ends.end);
  }

pub bind_line : (style : Style) (place len : ℕ) (parameters : List Column) (portal statement : List ℕ) (formats : List ℤ) (values : List (Option (List ℕ))) (results : List ℤ) (front text more line : List ℕ) → front ≡ bind_front style place len portal statement formats (length values)
    → AddsValues style parameters values None front text → more ≡ followed style text (counted (codes "results") (codes "result_formats") signed_part results) → line ≡ more ++ closing style ++ 10 ∷ [] → IsBindLine style place len parameters portal statement formats values results line
bind_line style place len parameters portal statement formats values results front text more line begins adds listed ended = record {
  texts = adds.last;
  each = subst (λ f. ShowsValues style parameters values f adds.last) begins adds.each;
  is = ended ∙ ap (λ t. t ++ closing style ++ 10 ∷ []) (listed ∙ ap (λ t. followed style t (counted (codes "results") (codes "result_formats") signed_part results)) adds.text);
}

-- ---- columns

module _ (named : Bool) (front : Columns) (before after : Walk FieldPart) (all : Option Columns) where
  pub columns_more : (x : FieldPart) → columns_from named front before.items before.end ≡ all → TakesItem before x after → columns_from named (with_field named front x) after.items after.end ≡ all
  columns_more x so_far takes =
      ap (λ e. columns_from named front (x ∷ after.items) e) takes.end ∙ ap (λ l. columns_from named front l before.end) (sym takes.items) ∙ so_far

  pub columns_end : columns_from named front before.items before.end ≡ all → IsFinished before after → Some front ≡ all
  columns_end so_far ends =
      ap (λ e. columns_from named front [] e) (sym ends.end) ∙ ap (λ l. columns_from named front l before.end) (sym ends.items) ∙ so_far

  pub columns_cut : (e : Error) → columns_from named front before.items before.end ≡ all → IsRefused before e after → None ≡ all
  columns_cut e so_far ends =
      ap (λ x. columns_from named front [] x) (sym ends.end) ∙ ap (λ l. columns_from named front l before.end) (sym ends.items) ∙ so_far

-- ---- names

pub names_length : (columns : List Column) (names : List ℕ) → length (names_from columns names) ≡ length columns
names_length [] names = refl
names_length (c ∷ rest) names = ap suc (names_length rest (drop c.len names))

-- ---- parameters

abbrev with_front : List Column → Option (List Column) → Option (List Column)
with_front front columns = option_map (λ rest. front ++ rest) columns

parameter_more : (front : List Column) (x : ℕ) (types : List ℕ) (end : Option Error) → with_front (front ++ parameter x ∷ []) (parameters_in types end) ≡ with_front front (parameters_in (x ∷ types) end)
parameter_more front x types None = ap (λ l. Some l) (append_assoc front (parameter x ∷ []) (map parameter types))
parameter_more front x types (Some e) = refl

module _ (front : List Column) (before after : Walk ℕ) (all : Option (List Column)) where
  pub parameters_more : (x : ℕ) → with_front front (parameters_in before.items before.end) ≡ all → TakesItem before x after → with_front (front ++ parameter x ∷ []) (parameters_in after.items after.end) ≡ all
  parameters_more x so_far takes =
      parameter_more front x after.items after.end ∙ ap (λ e. with_front front (parameters_in (x ∷ after.items) e)) takes.end ∙ ap (λ l. with_front front (parameters_in l before.end)) (sym takes.items) ∙ so_far

  pub parameters_end : with_front front (parameters_in before.items before.end) ≡ all → IsFinished before after → Some front ≡ all
  parameters_end so_far ends =
      ap (λ l. Some l) (sym (append-nil front)) ∙ ap (λ e. with_front front (parameters_in [] e)) (sym ends.end) ∙ ap (λ l. with_front front (parameters_in l before.end)) (sym ends.items) ∙ so_far

  pub parameters_cut : (e : Error) → with_front front (parameters_in before.items before.end) ≡ all → IsRefused before e after → None ≡ all
  parameters_cut e so_far ends = ap (λ x. with_front front (parameters_in before.items x)) (sym ends.end) ∙ so_far
