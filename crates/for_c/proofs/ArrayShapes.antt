-- The dimensions of an array, one after another.
use Rattle.for_c.proofs.Common.{◌≡◌, ℕ, pos, ◌+◌, ◌*◌, ◌<◌, ◌≤◌, List, [], ◌∷◌, ◌++◌, length, map, take, drop, get_or, None, refl, sym, ap, subst, ◌∙◌, arith, append_assoc, length-append, w32, cast_unsigned, flat_map, take_more, map-append, drop_more, length-map, Error, int32, uint32, length-uint32, Product, array_bytes, dimension_bytes, ArrayDimension, Blames, Misshapen, Stops, array_of, body_of, dimension_item, dimension_of, items_cause, flag_in, PgpValue, PgpDimension}
use Rattle.pgp_base.specs.declared.error.Error.TheVariants as errors
use Rattle.for_c.specs.ArrayWriting.{head_of}
use Rattle.for_c.specs.Putting.{elements_of as elements_bytes}
use Rattle.for_c.proofs.Elements.{flags}

product_snoc : (q : ℕ) (ds : List ArrayDimension) (p : ℕ) (d : ArrayDimension) (n : ℕ) → Product q ds p → d.len ≡ pos n → p * n ≤ 2147483647 → Product q (ds ++ d ∷ []) (p * n)
product_snoc q [] p d n h len few = (n, len, subst (λ k. k * n ≤ 2147483647) (sym h) few, ap (λ k. k * n) h)
product_snoc q (e ∷ ds) p d n (k, l, f, h) len few = (k, l, f, product_snoc (q * k) ds p d n h len few)

pub product_more : (ds : List PgpDimension) (i p n next : ℕ) (d : PgpDimension) → i < length ds → Product 1 (map dimension_of (take i ds)) p → (get_or ds i d).len ≡ pos n → next ≡ p * n → next ≤ 2147483647
    → Product 1 (map dimension_of (take (i + 1) ds)) next
product_more ds i p n next d h are len is few =
    let front : map dimension_of (take (i + 1) ds) ≡ map dimension_of (take i ds) ++ dimension_of (get_or ds i d) ∷ [] =
    ap (map dimension_of) (take_more ds i d h) ∙ map-append dimension_of (take i ds) (get_or ds i d ∷ []) in
    subst (λ l. Product 1 l next) (sym front)
    (subst (λ k. Product 1 (map dimension_of (take i ds) ++ dimension_of (get_or ds i d) ∷ []) k) (sym is)
    (product_snoc 1 (map dimension_of (take i ds)) p (dimension_of (get_or ds i d)) n are len (subst (λ k. k ≤ 2147483647) is few)))

pub stops_at : (ds : List PgpDimension) (i p : ℕ) (d : PgpDimension) (e : Error) → i < length ds → Product 1 (map dimension_of (take i ds)) p → Blames p (get_or ds i d) e → Stops ds e
stops_at ds i p d e h are why = record { before = i; product = p; are = are; last = get_or ds i d; more = drop (i + 1) ds; rest = drop_more ds i d h; blames = why }

pub misshapen : (ds : List PgpDimension) (count : ℕ) (e : Error) → Stops ds e → Misshapen ds count e
misshapen ds count errors.InvalidSize s = absurd s.blames
misshapen ds count e s = s

-- what is written of an array, part by part
pub dimension_is : (d : PgpDimension) → uint32 (cast_unsigned w32 d.len) ++ uint32 (cast_unsigned w32 d.lower_bound) ≡ dimension_bytes (dimension_of d)
unfolding uint32 int32
dimension_is d = refl

pub none_dimensions : (ds : List ArrayDimension) → items_cause dimension_item ds ≡ None
none_dimensions [] = refl
none_dimensions (d ∷ ds) = none_dimensions ds

pub head_size : (n f t : ℕ) → length (head_of n f t) ≡ 12
head_size n f t = omega (arith, length-append (uint32 n ++ uint32 f) (uint32 t), length-append (uint32 n) (uint32 f), length-uint32 n, length-uint32 f, length-uint32 t)

pub array_written : (t : ℕ) (ds : List PgpDimension) (vs : List PgpValue) → head_of (length ds) (flag_in vs) t ++ body_of ds vs ≡ array_bytes (array_of t ds vs)
array_written t ds vs =
    let dims = flat_map dimension_bytes (map dimension_of ds) in
    let elements = elements_bytes vs in
    sym (append_assoc (head_of (length ds) (flag_in vs) t) dims elements)
    ∙ (ap (λ n. head_of n (flag_in vs) t ++ dims ++ elements) (sym (length-map ds dimension_of))
    ∙ ap (λ f. head_of (length (map dimension_of ds)) f t ++ dims ++ elements) (sym (flags vs)))
