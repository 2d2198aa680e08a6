-- The list of the vectors found: one more, all the classes reached, and what it says of the points.
use Rattle.std.proofs.Common.{◌≡◌, ◌≢◌, ℕ, zero, suc, ◌+◌, ◌<◌, ◌≤◌, inl, inr, List, [], ◌∷◌, ◌++◌, length, map, take, get_or, ℤ, pos, ◌*ℤ◌, ◌≤ℤ◌, ◌<ℤ◌, Contains, refl, sym, ap, ◌∙◌, subst, arith, append_assoc}
use Rattle.std.proofs.lemmas.Int.{ints}
use Rattle.std.proofs.lemmas.List.{length-append, append-nil, take_more, take_all, take-append-le}
use Rattle.std.proofs.lemmas.List.Elements.{Contains-append_left, Contains-push}
use Rattle.std.proofs.lemmas.List.Sorted.{length_permutation}
use Rattle.std.proofs.Math.IntN.{*ℤ_comm}
use Rattle.std.specs.List.{AllByRecursion as Each, AllZip}
use Rattle.std.specs.List.Sorted.{IsPermutation}
use Rattle.nz_spec.specs.Vectors.{Vector, dot, plus, scaled, combination, zero_vector, unit_vectors, HasWidth}
use Rattle.nz_spec.specs.Sums.{IsInBox}
use Rattle.nz_spec.specs.Order.{Pairwise, ListsOnce}
use Rattle.nz_spec.proofs.VectorLaws.{dot-zero, dot-scaled}
use Rattle.nz_spec.proofs.SumLaws.{length-zero_vector}
use Rattle.nz_spec.proofs.ListLaws.{Each-contains, Each-from_contains}
use Rattle.nz_order.proofs.OrderLaws.{Each-push, Pairwise-push}
use Rattle.nz_order.proofs.SortLaws.{MoreThan-list}
use Rattle.nz_linear.specs.DualPairs.{Pair, divisor, HasWidths, IsDual, IsCompleteOn}
use Rattle.nz_linear.specs.Echelon.{unit_at}
use Rattle.nz_linear.proofs.Cones.{above_zero}
use Rattle.nz_linear.proofs.DualPairs.{divisors_positive}
use Rattle.nz_linear.proofs.Elimination.{all_of_width}
use Rattle.nz_linear.proofs.Floors.{reduced_in_box, values_at_combination}
use Rattle.nz_linear.proofs.Lists.{each_map, each_of_map, zip_change}
use Rattle.nz_linear.proofs.Ring.{sums}
use Rattle.nz_linear.proofs.Signs.{cancel_lt, mul_is_nonneg}
use Rattle.nz_spec.proofs.IntLaws.{mul-nonneg}
use Rattle.nz_linear.proofs.Signs.{mul_lt}
use Rattle.nz_vec.specs.declared.answers.Work.{Work}
use Rattle.nz_vec.specs.declared.answers.Work.TheVariants.{Range, TooMany, Stopped, NoMemory}
use Rattle.nz_classes.specs.Classes.{IsPoint, HasReducedValues, IsRestOf}
use Rattle.nz_classes.specs.Steps.{IsPut, IsFull, Extends, IsPart, Reaches, IsExpanded, IsNotFalling}
use Rattle.nz_classes.specs.Walks.{paired, IsFullSimplex, ListsPoints, IsRefusal}
use Rattle.nz_classes.proofs.ClassLaws.{all_found}
use Rattle.nz_classes.proofs.SimplexLemmas.{class_refl, vectors-paired, length-paired}
use Rattle.nz_classes.proofs.SortLemmas.{in_order_list}
use Rattle.nz_vec.proofs.UnitLemmas.{length-unit_vectors, unit_vector_at}

-- ---- the points are the vectors with reduced values
module _ (sides forms : List Vector) (s : IsFullSimplex sides forms) where
  vectors_are : map (λ p. p.vector) (paired forms sides) ≡ sides
  vectors_are = vectors-paired forms sides s.one_each

  pub point_of : (x : Vector) → HasWidth (length sides) x → HasReducedValues (paired forms sides) x → IsPoint (length sides) sides x
  point_of x l r =
      let w = length sides in
      let ps = paired forms sides in
      let complete : IsCompleteOn w (HasWidth w) ps = record { vectors_in = each_map (HasWidths w) (λ (p : Pair). HasWidth w p.vector) ps (λ p h. h.vector_width) s.dual.widths; only_zero = s.only_zero } in
      (l, subst (λ (vs : List Vector). IsInBox w vs x) vectors_are (reduced_in_box w (HasWidth w) ps x (all_of_width w) s.dual complete l r))

  reduced_of_sum : (m : ℤ) (x : Vector) → pos 1 ≤ℤ m → (ps : List Pair) (cs : List ℤ) → Each (λ p. pos 0 <ℤ divisor p) ps → AllZip (λ (p : Pair) c. m *ℤ dot p.form x ≡ c *ℤ divisor p) ps cs → Each (λ c. (pos 0 ≤ℤ c) × (c <ℤ m)) cs → HasReducedValues ps x
  reduced_of_sum m x q [] [] b z n = tt
  reduced_of_sum m x q [] (c ∷ cs) b z n = absurd z
  reduced_of_sum m x q (p ∷ ps) [] b z n = absurd z
  reduced_of_sum m x q (p ∷ ps) (c ∷ cs) b z n =
      let a = dot p.form x in
      let d = divisor p in
      let pd = b.0 in
      let e = z.0 in
      let pm = above_zero m q in
      let low = mul-nonneg c d n.0.0 (omega (arith, sums, pd)) in
      let high = mul_lt d c m pd n.0.1 in
      let f = *ℤ_comm d c in
      let h = *ℤ_comm d m in
      ((mul_is_nonneg m a pm (omega (arith, sums, e, low)), cancel_lt m a d pm (omega (arith, sums, e, high, f, h))), reduced_of_sum m x q ps cs b.1 z.1 n.1)

  pub reduced_of : (x : Vector) → IsPoint (length sides) sides x → HasReducedValues (paired forms sides) x
  reduced_of x h =
      let w = length sides in
      let ps = paired forms sides in
      let k = h.1 in
      let lc = k.one_each ∙ sym (length-paired forms sides s.one_each) in
      let v = values_at_combination w ps k.factors lc s.dual.widths s.dual.dual in
      let same : combination w k.factors (map (λ p. p.vector) ps) ≡ scaled k.multiple x = ap (combination w k.factors) vectors_are ∙ k.same in
      reduced_of_sum k.multiple x k.positive ps k.factors (divisors_positive ps s.dual.dual)
      (zip_change (λ (p : Pair) c. dot p.form (combination w k.factors (map (λ r. r.vector) ps)) ≡ c *ℤ divisor p) (λ (p : Pair) c. k.multiple *ℤ dot p.form x ≡ c *ℤ divisor p) ps k.factors (λ p c e. sym (dot-scaled p.form k.multiple x) ∙ ap (dot p.form) (sym same) ∙ e) v) k.each

-- ---- one vector more
pub put_extends : (old : List Vector) (x : Vector) (new : List Vector) → IsPut old x new → Extends old new
put_extends old x new (inl h) = ([], h.0 ∙ sym (append-nil old))
put_extends old x new (inr h) = (x ∷ [], h.0)

pub put_contains : (old : List Vector) (x : Vector) (new : List Vector) → IsPut old x new → Contains new x
put_contains old x new (inl h) = subst (λ (vs : List Vector). Contains vs x) (sym h.0) h.1
put_contains old x new (inr h) = subst (λ (vs : List Vector). Contains vs x) (sym h.0) (Contains-push old x)

-- all of the list but its length
record IsDistinct (w : ℕ) (ps : List Pair) (found : List Vector) : Type 0 where
  different : Pairwise ◌≢◌ found
  wide : Each (HasWidth w) found
  reduced : Each (HasReducedValues ps) found

put_distinct : (w : ℕ) (ps : List Pair) (limit : ℕ) (old : List Vector) (x : Vector) (new : List Vector) → IsPart w ps limit old → HasWidth w x → HasReducedValues ps x → IsPut old x new → IsDistinct w ps new
put_distinct w ps limit old x new p l r (inl h) = subst (IsDistinct w ps) (sym h.0) (record { different = p.different; wide = p.wide; reduced = p.reduced })
put_distinct w ps limit old x new p l r (inr h) = subst (IsDistinct w ps) (sym h.0) (record {
  different = Pairwise-push ◌≢◌ old x p.different (Each-from_contains (λ y. y ≢ x) old (λ y c e. h.1 (subst (Contains old) e c)));
  wide = Each-push (HasWidth w) old x p.wide l;
  reduced = Each-push (HasReducedValues ps) old x p.reduced r;
})

pub put_part : (w : ℕ) (ps : List Pair) (limit : ℕ) (old : List Vector) (x : Vector) (new : List Vector) → IsPart w ps limit old → HasWidth w x → HasReducedValues ps x → IsPut old x new → length new ≤ limit → IsPart w ps limit new
put_part w ps limit old x new p l r h m =
    let d = put_distinct w ps limit old x new p l r h in
    record { different = d.different; wide = d.wide; reduced = d.reduced; within = m }

-- a list that has become too long shows that there are too many points
pub full_refusal : (sides forms : List Vector) → IsFullSimplex sides forms → (bound limit : ℕ) (old : List Vector) (x : Vector) (new : List Vector) → IsPart (length sides) (paired forms sides) limit old → HasWidth (length sides) x → HasReducedValues (paired forms sides) x → (e : Work) → IsFull limit old x new e → IsRefusal bound limit sides forms e
full_refusal sides forms s bound limit old x new p l r (Range told) h = absurd h
full_refusal sides forms s bound limit old x new p l r TooMany h =
    let w = length sides in
    let d = put_distinct w (paired forms sides) limit old x new p l r h.0 in
    MoreThan-list (IsPoint w sides) new limit d.different (Each-from_contains (IsPoint w sides) new (λ y c. point_of sides forms s y (Each-contains (HasWidth w) new y d.wide c) (Each-contains (HasReducedValues (paired forms sides)) new y d.reduced c))) h.1
full_refusal sides forms s bound limit old x new p l r (Stopped stage) h = absurd h
full_refusal sides forms s bound limit old x new p l r NoMemory h = tt

pub part_none : (w : ℕ) (ps : List Pair) (limit : ℕ) → IsPart w ps limit []
part_none w ps limit = record { different = tt; wide = tt; reduced = tt; within = omega arith }

-- ---- the zero vector
pub unit_past : (w : ℕ) → unit_at w w ≡ zero_vector w
unit_past zero = refl
unit_past (suc w) = ap (λ (v : Vector). pos 0 ∷ v) (unit_past w)

pub zero_reduced : (w : ℕ) (ps : List Pair) → IsDual ps → HasReducedValues ps (unit_at w w)
zero_reduced w ps d = each_map (λ (p : Pair). pos 0 <ℤ divisor p) (λ (p : Pair). (pos 0 ≤ℤ dot p.form (unit_at w w)) × (dot p.form (unit_at w w) <ℤ divisor p)) ps
    (λ p h. let e = ap (dot p.form) (unit_past w) ∙ dot-zero p.form w in (omega (arith, ints, e), omega (arith, ints, e, h)))
    (divisors_positive ps d)

-- ---- the classes reached
pub extends_refl : (xs : List Vector) → Extends xs xs
extends_refl xs = ([], sym (append-nil xs))

pub extends_trans : (xs ys zs : List Vector) → Extends xs ys → Extends ys zs → Extends xs zs
extends_trans xs ys zs a b = (a.0 ++ b.0, b.1 ∙ ap (λ (us : List Vector). us ++ b.0) a.1 ∙ append_assoc xs a.0 b.0)

pub extends_contains : (xs ys : List Vector) (x : Vector) → Extends xs ys → Contains xs x → Contains ys x
extends_contains xs ys x e c = subst (λ (us : List Vector). Contains us x) (sym e.1) (Contains-append_left xs e.0 x c)

reaches_more : (ps : List Pair) (xs ys : List Vector) (z : Vector) → Extends xs ys → Reaches ps xs z → Reaches ps ys z
reaches_more ps xs ys z e r = (r.0, (extends_contains xs ys r.0 e r.1.0, r.1.1))

pub reaches_put : (w : ℕ) (ps : List Pair) (old : List Vector) (x : Vector) (new : List Vector) (z : Vector) → IsPut old x new → IsRestOf w ps z x → Reaches ps new z
reaches_put w ps old x new z p r = (x, (put_contains old x new p, r.one_class))

-- the unit vectors so far, from x
abbrev pub ReachesSoFar : ℕ → List Pair → ℕ → List Vector → Vector → Type 0
ReachesSoFar w ps i found x = Each (λ u. Reaches ps found (plus x u)) (take i (unit_vectors w))

pub column_start : (w : ℕ) (ps : List Pair) (found : List Vector) (x : Vector) → ReachesSoFar w ps 0 found x
column_start w ps found x = none (unit_vectors w)
  where
    none : (us : List Vector) → Each (λ u. Reaches ps found (plus x u)) (take 0 us)
    none [] = tt
    none (u ∷ us) = tt

pub column_more : (w : ℕ) (ps : List Pair) (i : ℕ) (old new : List Vector) (x : Vector) → i < w → Extends old new → ReachesSoFar w ps i old x → Reaches ps new (plus x (unit_at w i)) → ReachesSoFar w ps (i + 1) new x
column_more w ps i old new x l e h r =
    let n = length-unit_vectors w in
    subst (λ (us : List Vector). Each (λ u. Reaches ps new (plus x u)) us) (sym (take_more (unit_vectors w) i [] (omega arith)))
    (Each-push (λ u. Reaches ps new (plus x u)) (take i (unit_vectors w)) (get_or (unit_vectors w) i [])
    (each_map (λ u. Reaches ps old (plus x u)) (λ u. Reaches ps new (plus x u)) (take i (unit_vectors w)) (λ u k. reaches_more ps old new (plus x u) e k) h)
    (subst (λ (u : Vector). Reaches ps new (plus x u)) (sym (unit_vector_at w i l)) r))

pub column_end : (w : ℕ) (ps : List Pair) (i : ℕ) (found : List Vector) (x : Vector) → w ≤ i → ReachesSoFar w ps i found x → IsExpanded w ps found x
column_end w ps i found x l h =
    let n = length-unit_vectors w in
    subst (λ (us : List Vector). Each (λ u. Reaches ps found (plus x u)) us) (take_all i (unit_vectors w) (omega arith)) h

expanded_more : (w : ℕ) (ps : List Pair) (xs ys : List Vector) (x : Vector) → Extends xs ys → IsExpanded w ps xs x → IsExpanded w ps ys x
expanded_more w ps xs ys x e h = each_map (λ u. Reaches ps xs (plus x u)) (λ u. Reaches ps ys (plus x u)) (unit_vectors w) (λ u k. reaches_more ps xs ys (plus x u) e k) h

-- the vectors before a place are expanded
abbrev pub AreExpanded : ℕ → List Pair → ℕ → List Vector → Type 0
AreExpanded w ps place found = Each (IsExpanded w ps found) (take place found)

pub places_start : (w : ℕ) (ps : List Pair) (found : List Vector) → AreExpanded w ps 0 found
places_start w ps [] = tt
places_start w ps (x ∷ found) = tt

pub places_more : (w : ℕ) (ps : List Pair) (place : ℕ) (old new : List Vector) → place < length old → Extends old new → AreExpanded w ps place old → IsExpanded w ps new (get_or old place []) → AreExpanded w ps (place + 1) new
places_more w ps place old new l e h x =
    let same : take (place + 1) new ≡ take place old ++ get_or old place [] ∷ [] = ap (take (place + 1)) e.1 ∙ take-append-le (place + 1) old e.0 (omega arith) ∙ take_more old place [] l in
    subst (λ (us : List Vector). Each (IsExpanded w ps new) us) (sym same)
    (Each-push (IsExpanded w ps new) (take place old) (get_or old place []) (each_map (IsExpanded w ps old) (IsExpanded w ps new) (take place old) (λ y k. expanded_more w ps old new y e k) h) x)

pub places_end : (w : ℕ) (ps : List Pair) (place : ℕ) (found : List Vector) → length found ≤ place → AreExpanded w ps place found → Each (IsExpanded w ps found) found
places_end w ps place found l h = subst (λ (us : List Vector). Each (IsExpanded w ps found) us) (take_all place found l) h

pub extends_length : (xs ys : List Vector) → Extends xs ys → length xs ≤ length ys
extends_length xs ys e = let l = ap length e.1 in let m = length-append xs e.0 in omega (arith, l, m)

-- ---- the end of the walk
units_wide : (w : ℕ) → Each (HasWidth w) (unit_vectors w)
units_wide zero = tt
units_wide (suc w) = (ap suc (length-zero_vector w), each_of_map (λ u. pos 0 ∷ u) (HasWidth (suc w)) (unit_vectors w) (each_map (HasWidth w) (λ u. HasWidth (suc w) (pos 0 ∷ u)) (unit_vectors w) (λ u l. ap suc l) (units_wide w)))

pub points_once : (sides forms : List Vector) → IsFullSimplex sides forms → (limit : ℕ) (found : List Vector) → IsPart (length sides) (paired forms sides) limit found → Each (IsExpanded (length sides) (paired forms sides) found) found → Contains found (unit_at (length sides) (length sides)) → ListsOnce (IsPoint (length sides) sides) found
points_once sides forms s limit found p all z =
    let w = length sides in
    let ps = paired forms sides in
    let wide : (x : Vector) → Contains found x → HasWidth w x = λ x c. Each-contains (HasWidth w) found x p.wide c in
    let reduced : (x : Vector) → Contains found x → HasReducedValues ps x = λ x c. Each-contains (HasReducedValues ps) found x p.reduced c in
    let step : (x u : Vector) → Contains found x → Contains (unit_vectors w) u → Reaches ps found (plus x u) = λ x u c k. Each-contains (λ v. Reaches ps found (plus x v)) (unit_vectors w) u (Each-contains (IsExpanded w ps found) found x all c) k in
    let start : Reaches ps found (zero_vector w) = (zero_vector w, (subst (Contains found) (unit_past w) z, class_refl ps (zero_vector w))) in
    record {
      in_order = p.different;
      only = Each-from_contains (IsPoint w sides) found (λ x c. point_of sides forms s x (wide x c) (reduced x c));
      each = λ x h. all_found w ps s.dual.dual (Contains found) wide step s.dual s.only_zero (units_wide w) start reduced x h.0 (reduced_of sides forms s x h);
    }

pub points_listed : (sides forms : List Vector) → IsFullSimplex sides forms → (limit : ℕ) (found : List Vector) → IsPart (length sides) (paired forms sides) limit found → Each (IsExpanded (length sides) (paired forms sides) found) found → Contains found (unit_at (length sides) (length sides)) → (xs : List Vector) → IsPermutation found xs → IsNotFalling xs → ListsPoints limit sides xs
points_listed sides forms s limit found p all z xs perm up =
    let l = length_permutation found xs perm in
    let m = p.within in
    (in_order_list (length sides) (IsPoint (length sides) sides) (λ x h. h.0) found xs (points_once sides forms s limit found p all z) perm up, omega (arith, l, m))
