-- Frames with their texts: the first at first, and in how many ways.
use Rattle.pgtrace_lines.proofs.Common.{◌≡◌, ℕ, ◌+◌, ◌-◌, ◌<◌, Bool, List, [], ◌++◌, length, refl, sym, ap, subst, ◌∙◌, arith, append_assoc, length-append, append-nil, min, greatest, Rows, NoLines, OneLine, place_behind}
use Rattle.pgtrace_lines.proofs.Parts.{saturates}

-- the first at first
pub data InOrder {S : Type 0} (One : (place : ℕ) (here : S) (frame text : List ℕ) (to : S) → Type 0) (to : S) : ℕ → S → List ℕ → List ℕ → Type 0 where
  NoMore : {start : ℕ} → InOrder One to start to [] []
  OneMore : {start : ℕ} {from mid : S} {bytes lines : List ℕ} (frame text : List ℕ) → One (place_behind start) from frame text mid → InOrder One to (start + length frame) mid bytes lines → InOrder One to start from (frame ++ bytes) (text ++ lines)

-- the first frames of the same bytes, their texts, what stands after them, and the state there
pub record SameFirst {S : Type 0} (f g text other x y : List ℕ) (to too : S) : Type 0 where
  pub frames : f ≡ g
  pub texts : text ≡ other
  pub rests : x ≡ y
  pub states : to ≡ too

-- all frames, and what stands at the end
pub record SameEnd {S : Type 0} (a b lines others x y : List ℕ) (s t : Bool) (to too : S) : Type 0 where
  pub fronts : a ≡ b
  pub texts : lines ≡ others
  pub rests : x ≡ y
  pub ends : s ≡ t
  pub states : to ≡ too

module _ {S : Type 0} (One : (place : ℕ) (here : S) (frame text : List ℕ) (to : S) → Type 0) where
  moved : (p q : ℕ) (from to : S) (f l : List ℕ) → p ≡ q → One (place_behind p) from f l to → One (place_behind q) from f l to
  moved p q from to f l e has = subst (λ n. One (place_behind n) from f l to) e has

  -- one more, after the others
  pub row_more : (here : S) (start : ℕ) (from to : S) (bytes lines frame text : List ℕ) → InOrder One here start from bytes lines → One (place_behind (start + length bytes)) here frame text to → InOrder One to start from (bytes ++ frame) (lines ++ text)
  row_more _ start from to [] [] frame text NoMore has =
      subst (λ l. InOrder One to start from l text) (append-nil frame)
      (subst (λ l. InOrder One to start from (frame ++ []) l) (append-nil text)
      (OneMore {start = start} frame text (moved (start + 0) start from to frame text (omega arith) has) NoMore))
  row_more here start from to _ _ frame text (OneMore {mid = mid} {bytes = bytes} {lines = lines} f l is rest) has =
      let more = row_more here (start + length f) mid to bytes lines frame text rest (moved (start + length (f ++ bytes)) ((start + length f) + length bytes) here to frame text (omega (arith, length-append f bytes)) has) in
      subst (λ x. InOrder One to start from x ((l ++ lines) ++ text)) (sym (append_assoc f bytes frame))
      (subst (λ x. InOrder One to start from (f ++ (bytes ++ frame)) x) (sym (append_assoc l lines text))
      (OneMore f l is more))

  pub in_order : (start : ℕ) (from to : S) (bytes lines : List ℕ) → Rows One start from bytes lines to → InOrder One to start from bytes lines
  in_order start from _ [] [] NoLines = NoMore
  in_order start from to _ _ (OneLine {bytes = bytes} {lines = lines} {here = here} frame text before has) = row_more here start from to bytes lines frame text (in_order start from here bytes lines before) has

  -- rows after rows
  pub rows_join : (start : ℕ) (from mid : S) (a xs : List ℕ) → Rows One start from a xs mid → (b ys : List ℕ) (to : S) → Rows One (start + length a) mid b ys to → Rows One start from (a ++ b) (xs ++ ys) to
  rows_join start from mid a xs first [] [] _ NoLines = subst (λ l. Rows One start from l (xs ++ []) mid) (sym (append-nil a)) (subst (λ l. Rows One start from a l mid) (sym (append-nil xs)) first)
  rows_join start from mid a xs first _ _ to (OneLine {bytes = b} {lines = ys} {here = here} frame text before has) =
      subst (λ l. Rows One start from l (xs ++ (ys ++ text)) to) (append_assoc a b frame)
      (subst (λ l. Rows One start from ((a ++ b) ++ frame) l to) (append_assoc xs ys text)
      (OneLine frame text (rows_join start from mid a xs first b ys here before) (moved ((start + length a) + length b) (start + length (a ++ b)) here to frame text (omega (arith, length-append a b)) has)))

  pub rows_again : (to : S) (start : ℕ) (from : S) (bytes lines : List ℕ) → InOrder One to start from bytes lines → Rows One start from bytes lines to
  rows_again _ start from [] [] NoMore = NoLines
  rows_again to start from _ _ (OneMore {mid = mid} {bytes = bytes} {lines = lines} f l is rest) =
      rows_join start from mid f l (OneLine {bytes = []} {lines = []} f l NoLines (moved start (start + 0) from mid f l (omega arith) is)) bytes lines to (rows_again to (start + length f) mid bytes lines rest)

  -- places are counted as far as a number of the machine reports them
  pub counted_on : (start : ℕ) (from to : S) (bytes lines : List ℕ) → Rows One (place_behind start) from bytes lines to → Rows One start from bytes lines to
  counted_on start from _ [] [] NoLines = NoLines
  counted_on start from to _ _ (OneLine {bytes = bytes} {lines = lines} {here = here} frame text before has) =
      OneLine frame text (counted_on start from here bytes lines before) (subst (λ p. One p here frame text to) (saturates start (length bytes) greatest) has)

  -- the frames before the rest have these texts
  pub record RowsTo (start : ℕ) (from : S) (bytes rest : List ℕ) (to : S) (old new : List ℕ) : Type 0 where
    pub front : List ℕ
    pub lines : List ℕ
    pub whole : bytes ≡ front ++ rest
    pub listed : Rows One start from front lines to
    pub text : new ≡ old ++ lines

  pub nothing_yet : (start : ℕ) (from : S) (bytes old : List ℕ) → RowsTo start from bytes bytes from old old
  nothing_yet start from bytes old = record { front = []; lines = []; whole = refl; listed = NoLines; text = sym (append-nil old) }

  -- one more has its text, which stands after those
  pub one_listed : (start here : ℕ) (from mid to : S) (bytes rest frame next text old now new : List ℕ) → RowsTo start from bytes rest mid old now → here ≡ min (start + (length bytes - length rest)) greatest
      → rest ≡ frame ++ next → One here mid frame text to → new ≡ now ++ text → RowsTo start from bytes next to old new
  one_listed start here from mid to bytes rest frame next text old now new so_far at whole has grown =
      let passed : length bytes - length rest ≡ length so_far.front = omega (arith, ap length so_far.whole, length-append so_far.front rest) in
      record {
        front = so_far.front ++ frame;
        lines = so_far.lines ++ text;
        whole = so_far.whole ∙ ap (λ l. so_far.front ++ l) whole ∙ sym (append_assoc so_far.front frame next);
        listed = OneLine frame text so_far.listed (subst (λ p. One p mid frame text to) (at ∙ ap (λ n. place_behind (start + n)) passed) has);
        text = grown ∙ ap (λ l. l ++ text) so_far.text ∙ append_assoc old so_far.lines text;
      }

-- rows are one, where their first frames are
module _ {S : Type 0} (One : (place : ℕ) (here : S) (frame text : List ℕ) (to : S) → Type 0) (Ends : S → Bool → List ℕ → Type 0)
    (same : (place : ℕ) (from to too : S) (f g text other x y : List ℕ) → One place from f text to → One place from g other too → f ++ x ≡ g ++ y → SameFirst f g text other x y to too)
    (one_end : (from : S) (s t : Bool) (rest : List ℕ) → Ends from s rest → Ends from t rest → s ≡ t)
    (none : (place : ℕ) (from to : S) (stopped : Bool) (rest f text x : List ℕ) → Ends from stopped rest → One place from f text to → rest ≡ f ++ x → ⊥) where
  ordered_one : (to too : S) (start : ℕ) (from : S) (a b lines others x y : List ℕ) (s t : Bool) → InOrder One to start from a lines → Ends to s x → InOrder One too start from b others → Ends too t y → a ++ x ≡ b ++ y → SameEnd a b lines others x y s t to too
  ordered_one _ _ start from [] [] [] [] x y s t NoMore ends NoMore others e = record { fronts = refl; texts = refl; rests = e; ends = one_end from s t y (subst (Ends from s) e ends) others; states = refl }
  ordered_one _ too start from [] _ [] _ x y s t NoMore ends (OneMore {mid = mid} {bytes = bytes} g k is rest) others e =
      absurd (none (place_behind start) from mid s x g k (bytes ++ y) ends is (e ∙ append_assoc g bytes y))
  ordered_one to _ start from _ [] _ [] x y s t (OneMore {mid = mid} {bytes = bytes} f l is rest) ends NoMore others e =
      absurd (none (place_behind start) from mid t y f l (bytes ++ x) others is (sym e ∙ append_assoc f bytes x))
  ordered_one to too start from _ _ _ _ x y s t (OneMore {mid = mid} {bytes = bytes} {lines = more} f l is rest) ends (OneMore {mid = last} {bytes = left} {lines = less} g k has tail) others e =
      let one = same (place_behind start) from mid last f g l k (bytes ++ x) (left ++ y) is has (sym (append_assoc f bytes x) ∙ e ∙ append_assoc g left y) in
      let here : InOrder One too (start + length f) mid left less = subst (λ h. InOrder One too (start + length f) h left less) (sym one.states) (subst (λ h. InOrder One too (start + length h) last left less) (sym one.frames) tail) in
      let all = ordered_one to too (start + length f) mid bytes left more less x y s t rest ends here others one.rests in
      record {
        fronts = ap (λ h. h ++ bytes) one.frames ∙ ap (λ h. g ++ h) all.fronts;
        texts = ap (λ h. h ++ more) one.texts ∙ ap (λ h. k ++ h) all.texts;
        rests = all.rests;
        ends = all.ends;
        states = all.states;
      }

  pub rows_one : (to too : S) (start : ℕ) (from : S) (a b lines others x y : List ℕ) (s t : Bool) → Rows One start from a lines to → Ends to s x → Rows One start from b others too → Ends too t y → a ++ x ≡ b ++ y → SameEnd a b lines others x y s t to too
  rows_one to too start from a b lines others x y s t rows ends more others_end e = ordered_one to too start from a b lines others x y s t (in_order One start from to a lines rows) ends (in_order One start from too b others more) others_end e

-- what a frame is in other rows of the same bytes: with bytes as long in its place
pub record Replaced {S W : Type 0} (New : (place : ℕ) (here : W) (frame text : List ℕ) (to : W) → Type 0) (At : S → W → Type 0) (place : ℕ) (w : W) (f h g text x y : List ℕ) (to : S) : Type 0 where
  pub frames : f ≡ h
  pub rests : x ≡ y
  pub long : length f ≡ length g
  pub state : W
  pub is : New place w g text state
  pub at : At to state

-- Two rows of the same bytes, with texts of the one, and others of as many bytes of the other.
module _ {S U W : Type 0} (One : (place : ℕ) (here : S) (frame text : List ℕ) (to : S) → Type 0) (Other : (place : ℕ) (here : U) (frame text : List ℕ) (to : U) → Type 0)
    (New : (place : ℕ) (here : W) (frame text : List ℕ) (to : W) → Type 0) (At : S → U → W → Type 0)
    (step : (place q : ℕ) (s t : S) (u v : U) (w : W) (f h g text x y : List ℕ) → At s u w → One place s f text t → Other q u h g v → f ++ x ≡ h ++ y → Replaced New (λ s. At s v) place w f h g text x y t)
    (some : (place : ℕ) (s t : S) (f text : List ℕ) → One place s f text t → 0 < length f) (others : (place : ℕ) (u v : U) (f g : List ℕ) → Other place u f g v → 0 < length f) where
  pub record ReplacedAll (start : ℕ) (w : W) (b lines : List ℕ) (to : S) (too : U) : Type 0 where
    pub state : W
    pub rows : InOrder New state start w b lines
    pub at : At to too state

  pub replaced : (to : S) (too : U) (start other : ℕ) (s : S) (u : U) (w : W) (a lines c b : List ℕ) → At s u w → InOrder One to start s a lines → InOrder Other too other u c b → a ≡ c → ReplacedAll start w b lines to too
  replaced _ _ start other s u w [] [] [] [] at NoMore NoMore e = record { state = w; rows = NoMore; at = at }
  replaced _ too start other s u w [] [] _ _ at NoMore (OneMore {mid = v} {bytes = bytes} h g is rest) e = absurd (omega (arith, ap length e, length-append h bytes, others (place_behind other) u v h g is))
  replaced to _ start other s u w _ _ [] [] at (OneMore {mid = t} {bytes = bytes} f l has rest) NoMore e = absurd (omega (arith, ap length e, length-append f bytes, some (place_behind start) s t f l has))
  replaced to too start other s u w _ _ _ _ at (OneMore {mid = t} {bytes = bytes} {lines = lines} f l has rest) (OneMore {mid = v} {bytes = left} {lines = news} h g is tail) e =
      let one = step (place_behind start) (place_behind other) s t u v w f h g l bytes left at has is e in
      let more = replaced to too (start + length f) (other + length h) t v one.state bytes lines left news one.at rest tail one.rests in
      record { state = more.state; rows = OneMore g l one.is (subst (λ n. InOrder New more.state (start + n) one.state news lines) one.long more.rows); at = more.at }
