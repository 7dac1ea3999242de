-- The text that a portal has once the requests that wait have succeeded is what the last of them gives it, or what it has.
use Rattle.pgtrace_summary.proofs.Common.{◌≡◌, ℕ, zero, suc, ◌≤◌, length, Bool, true, false, List, [], ◌∷◌, Some, None, Option, refl, sym, ap, ◌∙◌, inl, inr, if◌then◌else◌, bytes_eq, cases_Bool, Request, State, done, put, found, ◌&&◌, take, slice_get, unwrap_or, take_all, did, ends, given, given_at, gives, granted, last_given, text_due, text_under, unknown, Work, Query, Parse, Bind, Execute}
use Rattle.pgtrace_summary.proofs.FoundLemmas.{found_put}
use Rattle.pgtrace_summary.specs.declared.work.Reply.TheVariants.{ParseComplete, BindComplete}

-- one request more
granted_next : (n : ℕ) (waiting : List Request) (s : State) → granted (take (suc n) waiting) s ≡ done (slice_get waiting n) 0 0 (granted (take n waiting) s)
granted_next zero [] s = refl
granted_next (suc n) [] s = refl
granted_next zero (r ∷ more) s = refl
granted_next (suc n) (r ∷ more) s = granted_next n more (did r.work r 0 0 s)

under_put : (name other text : List ℕ) (list : List (List ℕ × List ℕ)) → text_under other (put name text list) ≡ (if bytes_eq name other then text else text_under other list)
under_put name other text list = ap (λ f. unwrap_or f unknown) (found_put name other text list) ∙ both (bytes_eq name other)
  where
    both : (b : Bool) → unwrap_or (if b then Some text else found other list) unknown ≡ (if b then text else text_under other list)
    both true = refl
    both false = refl

parse_step : (w : Work) (r : Request) (name : List ℕ) (s : State) → text_under name (did w r 0 0 s).statements ≡ (if ends w ParseComplete && bytes_eq r.first name then r.second else text_under name s.statements)
parse_step Query r name s = refl
parse_step Parse r name s = under_put r.first name r.second s.statements
parse_step Bind r name s = refl
parse_step Execute r name s = refl

bind_step : (w : Work) (r : Request) (name : List ℕ) (s : State) → text_under name (did w r 0 0 s).portals ≡ (if ends w BindComplete && bytes_eq r.first name then text_under r.second s.statements else text_under name s.portals)
bind_step Query r name s = refl
bind_step Parse r name s = refl
bind_step Bind r name s = under_put r.first name (text_under r.second s.statements) s.portals
bind_step Execute r name s = refl

module _ (s : State) (name : List ℕ) where
  -- those that are left once the first n succeeded
  abbrev here : ℕ → State
  here n = granted (take n s.waiting) s

  abbrev pub statement_by : Option (ℕ × List ℕ) → List ℕ
  statement_by None = text_under name s.statements
  statement_by (Some x) = x.1

  statement_next : (n : ℕ) (before : Option (ℕ × List ℕ)) (o : Option Request) → statement_by before ≡ text_under name (here n).statements → statement_by (given_at n (given ParseComplete name o) before) ≡ text_under name (done o 0 0 (here n)).statements
  statement_next n before None e = e
  statement_next n before (Some r) e =
      let step = parse_step r.work r name (here n) in
      elim (cases_Bool (gives ParseComplete name r)) [
        | inl is ↦ rw is (sym (step ∙ ap (λ b. if b then r.second else text_under name (here n).statements) is))
        | inr not ↦ rw not (e ∙ sym (step ∙ ap (λ b. if b then r.second else text_under name (here n).statements) not))
      ]

  statements_due : (n : ℕ) → statement_by (last_given ParseComplete name n s.waiting) ≡ text_under name (here n).statements
  statements_due zero = refl
  statements_due (suc n) = statement_next n (last_given ParseComplete name n s.waiting) (slice_get s.waiting n) (statements_due n) ∙ ap (λ (t : State). text_under name t.statements) (sym (granted_next n s.waiting s))

  abbrev portal_by : Option (ℕ × List ℕ) → List ℕ
  portal_by None = text_under name s.portals
  portal_by (Some x) = text_under x.1 (here x.0).statements

  portal_next : (n : ℕ) (before : Option (ℕ × List ℕ)) (o : Option Request) → portal_by before ≡ text_under name (here n).portals → portal_by (given_at n (given BindComplete name o) before) ≡ text_under name (done o 0 0 (here n)).portals
  portal_next n before None e = e
  portal_next n before (Some r) e =
      let step = bind_step r.work r name (here n) in
      elim (cases_Bool (gives BindComplete name r)) [
        | inl is ↦ rw is (sym (step ∙ ap (λ b. if b then text_under r.second (here n).statements else text_under name (here n).portals) is))
        | inr not ↦ rw not (e ∙ sym (step ∙ ap (λ b. if b then text_under r.second (here n).statements else text_under name (here n).portals) not))
      ]

  portals_due : (n : ℕ) → portal_by (last_given BindComplete name n s.waiting) ≡ text_under name (here n).portals
  portals_due zero = refl
  portals_due (suc n) = portal_next n (last_given BindComplete name n s.waiting) (slice_get s.waiting n) (portals_due n) ∙ ap (λ (t : State). text_under name t.portals) (sym (granted_next n s.waiting s))

  portal_due : (n : ℕ) (given : Option (ℕ × List ℕ)) → length s.waiting ≤ n → given ≡ last_given BindComplete name n s.waiting → portal_by given ≡ text_due name s
  portal_due n given all e = ap portal_by e ∙ portals_due n ∙ ap (λ l. text_under name (granted l s).portals) (take_all n s.waiting all)

pub known_due : (s : State) (portal : List ℕ) (n : ℕ) → length s.waiting ≤ n → None ≡ last_given BindComplete portal n s.waiting → text_under portal s.portals ≡ text_due portal s
known_due s portal n all none = portal_due s portal n None all none

pub bound_due : (s : State) (portal name : List ℕ) (n i : ℕ) (given : Option (ℕ × List ℕ)) → length s.waiting ≤ n → Some (i, name) ≡ last_given BindComplete portal n s.waiting → given ≡ last_given ParseComplete name i s.waiting → statement_by s name given ≡ text_due portal s
bound_due s portal name n i given all bound parsed = ap (statement_by s name) parsed ∙ statements_due s name i ∙ portal_due s portal n (Some (i, name)) all bound
