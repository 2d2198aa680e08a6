-- What is left of a vector when the floors are taken away is in the box of a dual pair.
use Rattle.std.proofs.Common.{◌≡◌, ℕ, List, [], ◌∷◌, length, map, ℤ, pos, negsuc, ◌+ℤ◌, ◌*ℤ◌, ◌≤ℤ◌, ◌<ℤ◌, sym, ap, ◌∙◌, subst, arith}
use Rattle.std.proofs.lemmas.Int.{ints}
use Rattle.std.proofs.lemmas.Slice.Zip.{AllZip-long}
use Rattle.std.proofs.lemmas.List.{length-map}
use Rattle.std.proofs.Math.IntN.{*ℤ_comm, *ℤ-zero}
use Rattle.std.specs.List.{AllByRecursion as Each, AllZip, Contains}
use Rattle.nz_spec.specs.Vectors.{Vector, IsZero, zero_vector, dot, plus, minus, scaled, combination, HasWidth}
use Rattle.nz_spec.specs.Boxes.{IsFloor}
use Rattle.nz_spec.specs.Sums.{IsInBox, IsInSpan}
use Rattle.nz_spec.proofs.IntLaws.{add-mul, mul-nonneg}
use Rattle.nz_spec.proofs.VectorLaws.{zero_vector_of, dot-minus, dot-scaled}
use Rattle.nz_spec.proofs.SumLaws.{length-combination, combination-zeros}
use Rattle.nz_spec.proofs.ListLaws.{Each-from_contains}
use Rattle.nz_linear.proofs.Spans.{span_member, span_space}
use Rattle.nz_linear.proofs.Cones.{above_zero}
use Rattle.nz_linear.specs.DualPairs.{Pair, divisor, IsApart, HasWidths, IsDual, IsDualPair, IsSpace, IsCompleteOn, product, spread_factors}
use Rattle.nz_linear.proofs.Ring.{sums, one-mul}
use Rattle.nz_linear.proofs.Signs.{mul_lt, mul_is_zero}
use Rattle.nz_linear.proofs.Lists.{zip_change, map_each, each_map, each_map2, zip_first, zip_both, zip_left}
use Rattle.nz_linear.proofs.VectorLaws.{scaled_is_zero, cons_same, length-scaled, dot-plus, zero-scaled}
use Rattle.nz_linear.proofs.DualPairs.{widths_of_vectors, vanishes_at_combination, product_positive, expansion, spread_is, length-factors}

-- each form has at a sum of the vectors its own factor times its divisor
pub values_at_combination : (w : ℕ) (ps : List Pair) (qs : List ℤ) → length qs ≡ length ps → Each (HasWidths w) ps → IsDual ps → AllZip (λ (p : Pair) q. dot p.form (combination w qs (map (λ p. p.vector) ps)) ≡ q *ℤ divisor p) ps qs
values_at_combination w [] [] l h d = tt
values_at_combination w [] (q ∷ qs) l h d = absurd (omega arith)
values_at_combination w (p ∷ ps) [] l h d = absurd (omega arith)
values_at_combination w (p ∷ ps) (q ∷ qs) l h d =
    let vs = map (λ (r : Pair). r.vector) ps in
    let rest = combination w qs vs in
    let ls = length-scaled w q p.vector h.0.vector_width in
    let lr = length-combination w qs vs (widths_of_vectors w ps h.1) in
    let value : (f : Vector) → dot f (plus (scaled q p.vector) rest) ≡ q *ℤ dot f p.vector +ℤ dot f rest = λ f. dot-plus w f (scaled q p.vector) rest ls lr ∙ ap (λ t. t +ℤ dot f rest) (dot-scaled f q p.vector) in
    let apart : Each (λ (r : Pair). dot p.form r.vector ≡ pos 0) ps = each_map (IsApart p) (λ (r : Pair). dot p.form r.vector ≡ pos 0) ps (λ r a. a.there) d.1 in (
      value p.form ∙ omega (arith, sums, vanishes_at_combination w p.form qs ps h.1 apart),
      others (plus (scaled q p.vector) rest) rest (λ f. value f) ps qs d.1 (values_at_combination w ps qs (omega arith) h.1 d.2),
    )
  where
    others : (x rest : Vector) → ((f : Vector) → dot f x ≡ q *ℤ dot f p.vector +ℤ dot f rest) → (rs : List Pair) (ks : List ℤ) → Each (IsApart p) rs → AllZip (λ (r : Pair) k. dot r.form rest ≡ k *ℤ divisor r) rs ks → AllZip (λ (r : Pair) k. dot r.form x ≡ k *ℤ divisor r) rs ks
    others x rest v [] [] a z = tt
    others x rest v [] (k ∷ ks) a z = absurd z
    others x rest v (r ∷ rs) [] a z = absurd z
    others x rest v (r ∷ rs) (k ∷ ks) a z = (v r.form ∙ omega (arith, sums, ap (λ t. q *ℤ t) a.0.back, *ℤ-zero q, z.0), others x rest v rs ks a.1 z.1)

-- the value of the form is at least 0 and less than its divisor
abbrev pub IsReduced : Vector → Pair → Type 0
IsReduced x p = (pos 0 ≤ℤ dot p.form x) × (dot p.form x <ℤ divisor p)

pub floor_rest : (w : ℕ) (ps : List Pair) (qs : List ℤ) (x : Vector) → HasWidth w x → IsDualPair w ps → length qs ≡ length ps → AllZip (λ (p : Pair) q. IsFloor (divisor p) (dot p.form x) q) ps qs → Each (IsReduced (minus x (combination w qs (map (λ p. p.vector) ps)))) ps
floor_rest w ps qs x lx d l z =
    let vs = map (λ (p : Pair). p.vector) ps in
    let s = combination w qs vs in
    let ls : HasWidth w s = length-combination w qs vs (widths_of_vectors w ps d.widths) in
    zip_left (λ (p : Pair) q. IsFloor (divisor p) (dot p.form x) q × (dot p.form s ≡ q *ℤ divisor p)) (IsReduced (minus x s)) ps qs
    (λ p q k.
    let f = k.0 in
    let e = dot-minus p.form x s (lx ∙ sym ls) in
    let a = add-mul q (pos 1) (divisor p) in
    let o = one-mul (divisor p) in
    let v = k.1 in
    let low = f.at_most in
    let high = f.above in
    (omega (arith, sums), omega (arith, sums)))
    (zip_both (λ (p : Pair) q. IsFloor (divisor p) (dot p.form x) q) (λ (p : Pair) q. dot p.form s ≡ q *ℤ divisor p) ps qs z (values_at_combination w ps qs l d.widths d.dual))

factors_in_box : (ps : List Pair) (x : Vector) → IsDual ps → Each (IsReduced x) ps → Each (λ c. (pos 0 ≤ℤ c) × (c <ℤ product ps)) (spread_factors ps x)
factors_in_box [] x d r = tt
factors_in_box (p ∷ ps) x d r =
    let D = product ps in
    let pD = product_positive ps d.2 in
    let v = dot p.form x in
    let first = mul_lt D v (divisor p) pD r.0.1 in
    ((mul-nonneg D v (omega (arith, sums)) r.0.0, omega (arith, sums, first, *ℤ_comm D (divisor p))), scale (divisor p) D d.0 (spread_factors ps x) (factors_in_box ps x d.2 r.1))
  where
    scale : (k m : ℤ) → pos 0 <ℤ k → (cs : List ℤ) → Each (λ c. (pos 0 ≤ℤ c) × (c <ℤ m)) cs → Each (λ c. (pos 0 ≤ℤ c) × (c <ℤ (k *ℤ m))) (scaled k cs)
    scale k m h [] b = tt
    scale k m h (c ∷ cs) b = ((mul-nonneg k c (omega (arith, sums)) b.0.0, mul_lt k c m h b.0.1), scale k m h cs b.1)

-- a vector of the space with reduced values is in the box of the vectors
pub reduced_in_box : (w : ℕ) (In : Vector → Type 0) (ps : List Pair) (x : Vector) → IsSpace w In → IsDualPair w ps → IsCompleteOn w In ps → In x → Each (IsReduced x) ps → IsInBox w (map (λ p. p.vector) ps) x
reduced_in_box w In ps x s d c i r = record {
  multiple = product ps;
  factors = spread_factors ps x;
  positive = (let p = product_positive ps d.dual in omega (arith, sums));
  one_each = length-factors ps x ∙ sym (length-map ps (λ (p : Pair). p.vector));
  each = factors_in_box ps x d.dual r;
  same = sym (spread_is w ps x) ∙ sym (expansion w In ps x s d c i);
}

-- sums of the vectors are in the space
combination_in : (w : ℕ) (In : Vector → Type 0) (qs : List ℤ) (ps : List Pair) (x : Vector) → IsSpace w In → In x → Each (λ (p : Pair). In p.vector) ps → In (combination w qs (map (λ (p : Pair). p.vector) ps))
combination_in w In [] ps x s i v = subst In (zero-scaled w x (s.width x i)) (s.multiple_in (pos 0) x i)
combination_in w In (q ∷ qs) [] x s i v = subst In (zero-scaled w x (s.width x i)) (s.multiple_in (pos 0) x i)
combination_in w In (q ∷ qs) (p ∷ ps) x s i v = s.sum_in (scaled q p.vector) (combination w qs (map (λ (r : Pair). r.vector) ps)) (s.multiple_in q p.vector v.0) (combination_in w In qs ps x s i v.1)

minus_is : (x y : Vector) → minus x y ≡ plus x (scaled (negsuc 0) y)
minus_is [] y = λ i. []
minus_is (a ∷ x) [] = λ i. []
minus_is (a ∷ x) (b ∷ y) = cons_same (omega (arith, ints)) (minus_is x y)

-- a vector less the vectors, taken as often as the floors say, is in the box
pub floors_in_box : (w : ℕ) (In : Vector → Type 0) (ps : List Pair) (floors : List ℤ) (x : Vector) → IsSpace w In → IsDualPair w ps → IsCompleteOn w In ps → In x → AllZip (λ (p : Pair) q. IsFloor (divisor p) (dot p.form x) q) ps floors
    → IsInBox w (map (λ p. p.vector) ps) (minus x (combination w floors (map (λ p. p.vector) ps)))
floors_in_box w In ps floors x s d c i z =
    let t = combination w floors (map (λ (p : Pair). p.vector) ps) in
    let y_in : In (minus x t) = subst In (sym (minus_is x t)) (s.sum_in x (scaled (negsuc 0) t) i (s.multiple_in (negsuc 0) t (combination_in w In floors ps x s i c.vectors_in))) in
    reduced_in_box w In ps (minus x t) s d c y_in (floor_rest w ps floors x (s.width x i) d (AllZip-long (λ (p : Pair) q. IsFloor (divisor p) (dot p.form x) q) ps floors z) z)

-- ---- a dual pair is complete on the span of its vectors
zero_factors : (ps : List Pair) (cs : List ℤ) → IsDual ps → AllZip (λ (p : Pair) c. c *ℤ divisor p ≡ pos 0) ps cs → IsZero cs
zero_factors [] [] d z = tt
zero_factors [] (c ∷ cs) d z = absurd z
zero_factors (p ∷ ps) [] d z = absurd z
zero_factors (p ∷ ps) (c ∷ cs) d z = (mul_is_zero (divisor p) c d.0 (*ℤ_comm (divisor p) c ∙ z.0), zero_factors ps cs d.2 z.1)

pub complete_on_span : (w : ℕ) (ps : List Pair) → IsDualPair w ps → IsCompleteOn w (λ x. HasWidth w x × IsInSpan w (map (λ p. p.vector) ps) x) ps
complete_on_span w ps d =
    let vs = map (λ (p : Pair). p.vector) ps in
    let lv = widths_of_vectors w ps d.widths in
    record {
      vectors_in = map_each (λ (p : Pair). p.vector) (λ v. HasWidth w v × IsInSpan w vs v) ps (each_map2 (HasWidth w) (Contains vs) (λ v. HasWidth w v × IsInSpan w vs v) vs (λ v l c. (l, span_member w vs v lv c)) lv (Each-from_contains (Contains vs) vs (λ v c. c)));
      only_zero = λ x i v.
          let j = i.1 in
          let size : length j.factors ≡ length ps = j.one_each ∙ length-map ps (λ (p : Pair). p.vector) in
          let same : AllZip (λ (p : Pair) c. c *ℤ divisor p ≡ pos 0) ps j.factors = zip_change (λ (p : Pair) c. (dot p.form (combination w j.factors vs) ≡ c *ℤ divisor p) × (dot p.form x ≡ pos 0)) (λ (p : Pair) c. c *ℤ divisor p ≡ pos 0) ps j.factors
          (λ p c k. sym k.0 ∙ ap (dot p.form) j.same ∙ dot-scaled p.form j.multiple x ∙ ap (λ t. j.multiple *ℤ t) k.1 ∙ *ℤ-zero j.multiple)
          (zip_first (λ (p : Pair) c. dot p.form (combination w j.factors vs) ≡ c *ℤ divisor p) (λ (p : Pair). dot p.form x ≡ pos 0) ps j.factors (values_at_combination w ps j.factors size d.widths d.dual) v) in
          let none : j.factors ≡ zero_vector (length vs) = zero_vector_of j.factors (zero_factors ps j.factors d.dual same) ∙ ap zero_vector j.one_each in
          scaled_is_zero w j.multiple x (above_zero j.multiple j.positive) i.0 (sym j.same ∙ ap (λ (cs : List ℤ). combination w cs vs) none ∙ combination-zeros w vs lv);
    }

pub floors_in_span_box : (w : ℕ) (ps : List Pair) (floors : List ℤ) (x : Vector) → IsDualPair w ps → HasWidth w x → IsInSpan w (map (λ p. p.vector) ps) x → AllZip (λ (p : Pair) q. IsFloor (divisor p) (dot p.form x) q) ps floors
    → IsInBox w (map (λ p. p.vector) ps) (minus x (combination w floors (map (λ p. p.vector) ps)))
floors_in_span_box w ps floors x d l i z =
    floors_in_box w (λ y. HasWidth w y × IsInSpan w (map (λ (p : Pair). p.vector) ps) y) ps floors x (span_space w (map (λ (p : Pair). p.vector) ps) (widths_of_vectors w ps d.widths)) d (complete_on_span w ps d) (l, i) z
