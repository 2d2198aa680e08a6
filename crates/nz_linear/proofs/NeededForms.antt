-- Each support form is needed: some vector meets all the others and the equations, and not it.
use Rattle.std.proofs.Common.{[], ◌∷◌, ◌≡◌, inl, inr, ℕ, List, pos, negsuc, ◌+ℤ◌, ◌*ℤ◌, ◌≤ℤ◌, ap, ap₂, ◌∙◌, arith}
use Rattle.std.proofs.lemmas.Int.{ints}
use Rattle.std.proofs.Math.IntN.{*ℤ-zero}
use Rattle.std.specs.List.{AllByRecursion as Each, Contains}
use Rattle.nz_spec.specs.Vectors.{zero_vector, Vector, dot, plus, scaled, HasWidth}
use Rattle.nz_spec.specs.Forms.{IsEquationAt, AreEquations, IsSupportForm, AreSupportForms, IsNeeded}
use Rattle.nz_spec.proofs.SumLaws.{length-zero_vector}
use Rattle.nz_spec.proofs.VectorLaws.{dot-zero, dot-scaled, int_is_zero}
use Rattle.nz_spec.proofs.ListLaws.{Each-contains}
use Rattle.nz_linear.proofs.Ring.{sums, mul-one, zero_sum}
use Rattle.nz_linear.proofs.Signs.{mul_le}
use Rattle.nz_linear.proofs.Lists.{each_map, zip_to_right}
use Rattle.nz_linear.proofs.VectorLaws.{length-plus, length-scaled, dot-plus}
use Rattle.nz_linear.proofs.ExtremeRays.{same_on_ray}
use Rattle.nz_linear.proofs.Splitting.{enough_of}
use Rattle.nz_linear.proofs.SupportForms.{SomePositive, zero_or_positive, support_is_valid, on_ray_by_facet}

-- the sum of a list
abbrev total : ℕ → List Vector → Vector
total w [] = zero_vector w
total w (v ∷ vs) = plus v (total w vs)

length-total : (w : ℕ) (vs : List Vector) → Each (HasWidth w) vs → HasWidth w (total w vs)
length-total w [] l = length-zero_vector w
length-total w (v ∷ vs) l = length-plus w v (total w vs) l.0 (length-total w vs l.1)

total_zero : (w : ℕ) (f : Vector) (vs : List Vector) → Each (HasWidth w) vs → Each (λ v. dot f v ≡ pos 0) vs → dot f (total w vs) ≡ pos 0
total_zero w f [] l z = dot-zero f w
total_zero w f (v ∷ vs) l z = dot-plus w f v (total w vs) l.0 (length-total w vs l.1) ∙ omega (arith, sums, z.0, total_zero w f vs l.1 z.1)

total_nonneg : (w : ℕ) (f : Vector) (vs : List Vector) → Each (HasWidth w) vs → Each (λ v. pos 0 ≤ℤ dot f v) vs → pos 0 ≤ℤ dot f (total w vs)
total_nonneg w f [] l n = omega (arith, sums, dot-zero f w)
total_nonneg w f (v ∷ vs) l n = omega (arith, sums, dot-plus w f v (total w vs) l.0 (length-total w vs l.1), n.0, total_nonneg w f vs l.1 n.1)

-- a form that is at least 0 on the list and 0 at the sum is 0 on the list
zero_of_total : (w : ℕ) (f : Vector) (vs : List Vector) → Each (HasWidth w) vs → Each (λ v. pos 0 ≤ℤ dot f v) vs → dot f (total w vs) ≡ pos 0 → Each (λ v. dot f v ≡ pos 0) vs
zero_of_total w f [] l n e = tt
zero_of_total w f (v ∷ vs) l n e =
    let s = dot-plus w f v (total w vs) l.0 (length-total w vs l.1) in
    let r = total_nonneg w f vs l.1 n.1 in
    let h = n.0 in
    let first : dot f v ≡ pos 0 = omega (arith, sums) in
    (first, zero_of_total w f vs l.1 n.1 (omega (arith, sums)))

pub support_needed : (w : ℕ) (G support equations : List Vector) (f : Vector) → Each (HasWidth w) G → AreSupportForms w G support → AreEquations w G equations → Contains support f → IsNeeded w support equations f
support_needed w G support equations f lG are eq has = elim (zero_or_positive f G sf.at_least) [
  | inl z ↦ absurd (sf.not_all z)
  | inr t ↦ by t
]
  where
    sf : IsSupportForm w G f
    sf = Each-contains (IsSupportForm w G) support f are.only has

    by : SomePositive f G → IsNeeded w support equations f
    by t =
        let g = t.vector in
        let lg : HasWidth w g = Each-contains (HasWidth w) G g lG t.has in
        let vs = sf.facet.vectors in
        let lv : Each (HasWidth w) vs = each_map (Contains G) (HasWidth w) vs (λ u k. Each-contains (HasWidth w) G u lG k) sf.facet.of_list in
        let v = total w vs in
        let lt = length-total w vs lv in
        let n = enough_of support g in
        let N = n.0 in
        let x = plus (scaled N v) (scaled (negsuc 0) g) in
        let value : (a : Vector) → dot a x ≡ N *ℤ dot a v +ℤ negsuc 0 *ℤ dot a g = λ a. dot-plus w a (scaled N v) (scaled (negsuc 0) g) (length-scaled w N v lt) (length-scaled w (negsuc 0) g lg) ∙ ap₂ ◌+ℤ◌ (dot-scaled a N v) (dot-scaled a (negsuc 0) g) in
        let zero : (a : Vector) → Each (λ u. dot a u ≡ pos 0) G → dot a x ≡ pos 0 = λ a z.
        let p = total_zero w a vs lv (each_map (Contains G) (λ u. dot a u ≡ pos 0) vs (λ u k. Each-contains (λ u. dot a u ≡ pos 0) G u z k) sf.facet.of_list) in
        let q = Each-contains (λ u. dot a u ≡ pos 0) G g z t.has in
        value a ∙ zero_sum N (negsuc 0) (dot a v) (dot a g) p q in
        let at_f : dot f v ≡ pos 0 = total_zero w f vs lv sf.facet.zero_on in
        record {
          vector = x;
          width = length-plus w (scaled N v) (scaled (negsuc 0) g) (length-scaled w N v lt) (length-scaled w (negsuc 0) g lg);
          zero_at = zip_to_right (IsEquationAt w G) (λ e. dot e x ≡ pos 0) eq.columns equations (λ c e k. zero e k.zero_on) eq.each;
          others = λ h k ne.
              let sh = Each-contains (IsSupportForm w G) support h are.only k in
              let on_facet : Each (λ u. pos 0 ≤ℤ dot h u) vs = each_map (Contains G) (λ u. pos 0 ≤ℤ dot h u) vs (λ u c. Each-contains (λ u. pos 0 ≤ℤ dot h u) G u sh.at_least c) sf.facet.of_list in
              let up = total_nonneg w h vs lv on_facet in
              let small = Each-contains (λ a. dot a g ≤ℤ N) support h n.2 k in
              elim (int_is_zero (dot h v)) [
                | inl z ↦ absurd (ne (same_on_ray w h f sh.width sf.width sh.primitive sf.primitive (on_ray_by_facet w G f h lG sf (support_is_valid w G h sh) (zero_of_total w h vs lv on_facet z))))
                | inr d ↦ (let one : pos 1 ≤ℤ dot h v = omega (arith, sums) in let m = mul_le N (pos 1) (dot h v) (let q = n.1 in omega (arith, sums)) one in omega (arith, ints, value h, m, mul-one N, small))
              ];
          negative = (let p = t.positive in omega (arith, ints, value f, ap (λ q. N *ℤ q) at_f, *ℤ-zero N, p));
        }
