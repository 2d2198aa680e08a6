-- The list of rays has each primitive extreme vector of the cone.
use Rattle.std.proofs.Common.{◌≡◌, ℕ, ◌⊎◌, inl, inr, List, [], ◌∷◌, length, ℤ, pos, ◌+ℤ◌, ◌*ℤ◌, ◌≤ℤ◌, ◌<ℤ◌, refl, sym, ap, ◌∙◌, subst, arith}
use Rattle.std.proofs.lemmas.List.Elements.{Contains-append_right}
use Rattle.std.specs.List.{AllByRecursion as Each, Contains}
use Rattle.nz_spec.specs.Vectors.{Vector, dot, plus, scaled, zero_vector, combination, HasWidth, IsPrimitive, IsZero}
use Rattle.nz_spec.proofs.SumLaws.{length-combination}
use Rattle.nz_spec.proofs.ListLaws.{Each-contains}
use Rattle.nz_spec.proofs.IntLaws.{mul-nonneg}
use Rattle.nz_linear.specs.Cones.{Satisfies}
use Rattle.nz_linear.specs.Extreme.{VanishesWith}
use Rattle.nz_linear.specs.DoubleDescription.{IsExtremeByZeros}
use Rattle.nz_linear.specs.RayStep.{AreExtremeRays}
use Rattle.nz_linear.proofs.Ring.{sums}
use Rattle.nz_linear.proofs.Signs.{mul_is_zero}
use Rattle.nz_linear.proofs.Lists.{each_map3}
use Rattle.nz_spec.proofs.VectorLaws.{IsZero-zero_vector, dot-scaled, int_is_zero}
use Rattle.nz_linear.proofs.VectorLaws.{length-scaled, dot-plus, scaled_is_zero}
use Rattle.nz_linear.proofs.Cones.{above_zero}
use Rattle.nz_linear.proofs.Division.{primitive_nonzero}
use Rattle.nz_linear.proofs.Combinations.{combination-skip}
use Rattle.nz_linear.proofs.Farkas.{generated}
use Rattle.nz_linear.proofs.Extreme.{combination_inside, vanishes_multiple}
use Rattle.nz_linear.proofs.ExtremeRays.{same_on_ray}

-- a generator that vanishes wherever x does
record SomeTerm (w : ℕ) (rows gens : List Vector) (x : Vector) : Type 0 where
  term : Vector
  has : Contains gens term
  vanishes : VanishesWith rows x term

-- a sum of generators is zero, or has a term
term_of : (w : ℕ) (rows : List Vector) (x : Vector) (cs : List ℤ) (gs : List Vector) → Each (HasWidth w) rows → Each (λ c. pos 0 ≤ℤ c) cs → Each (HasWidth w) gs → Each (Satisfies rows) gs → VanishesWith rows x (combination w cs gs)
    → (combination w cs gs ≡ zero_vector w) ⊎ SomeTerm w rows gs x
term_of w rows x [] gs lr k l s z = inl refl
term_of w rows x (c ∷ cs) [] lr k l s z = inl refl
term_of w rows x (c ∷ cs) (g ∷ gs) lr k l s z =
    let rest = combination_inside w rows cs gs k.1 l.1 s.1 lr in
    let value : (a : Vector) → dot a (plus (scaled c g) (combination w cs gs)) ≡ c *ℤ dot a g +ℤ dot a (combination w cs gs) = λ a.
    dot-plus w a (scaled c g) (combination w cs gs) (length-scaled w c g l.0) (length-combination w cs gs l.1) ∙ ap (λ t. t +ℤ dot a (combination w cs gs)) (dot-scaled a c g) in
    elim (int_is_zero c) [
      | inl e ↦ (
          let zrest : VanishesWith rows x (combination w cs gs) = each_map3 (λ a. dot a x ≡ pos 0 → dot a (plus (scaled c g) (combination w cs gs)) ≡ pos 0) (λ a. pos 0 ≤ℤ dot a g) (λ a. pos 0 ≤ℤ dot a (combination w cs gs)) (λ a. dot a x ≡ pos 0 → dot a (combination w cs gs) ≡ pos 0) rows
          (λ a f p q n. omega (arith, sums, value a, f n, mul-nonneg c (dot a g) k.0 p, q)) z s.0 rest in
          elim (term_of w rows x cs gs lr k.1 l.1 s.1 zrest) [
            | inl n ↦ inl (ap (λ d. plus (scaled d g) (combination w cs gs)) e ∙ combination-skip w cs g gs l.0 l.1 ∙ n)
            | inr t ↦ inr (record { term = t.term; has = Contains-append_right (g ∷ []) gs t.term t.has; vanishes = t.vanishes })
          ])
      | inr d ↦ (
          let up : pos 0 <ℤ c = omega (arith, sums, k.0, d) in
          inr (record {
            term = g;
            has = (0, omega arith, refl);
            vanishes = each_map3 (λ a. dot a x ≡ pos 0 → dot a (plus (scaled c g) (combination w cs gs)) ≡ pos 0) (λ a. pos 0 ≤ℤ dot a g) (λ a. pos 0 ≤ℤ dot a (combination w cs gs)) (λ a. dot a x ≡ pos 0 → dot a g ≡ pos 0) rows
                (λ a f p q n. mul_is_zero c (dot a g) up (omega (arith, sums, value a, f n, mul-nonneg c (dot a g) k.0 p, q))) z s.0 rest;
          }))
    ]

pub each_extreme_listed : (w : ℕ) (rows rays : List Vector) (x : Vector) → AreExtremeRays w rows rays → length x ≡ w → Satisfies rows x → IsPrimitive x → IsExtremeByZeros w rows x → Contains rays x
each_extreme_listed w rows rays x r lx sx px ex =
    let d = r.description in
    let i = generated w rows rays x d lx sx in
    elim (term_of w rows x i.factors rays d.row_widths i.each d.ray_widths d.sound (vanishes_multiple rows i.multiple x (combination w i.factors rays) (sym i.same) sx)) [
      | inl n ↦ absurd (
          primitive_nonzero x px (subst IsZero (sym (scaled_is_zero w i.multiple x (above_zero i.multiple i.positive) lx (sym i.same ∙ n))) (IsZero-zero_vector w)))
      | inr t ↦ (
          let lt = Each-contains (λ v. length v ≡ w) rays t.term d.ray_widths t.has in
          let st = Each-contains (Satisfies rows) rays t.term d.sound t.has in
          let pt = Each-contains IsPrimitive rays t.term r.primitive t.has in
          let same : t.term ≡ x = same_on_ray w t.term x lt lx pt px (ex t.term lt st t.vanishes) in
          subst (Contains rays) same t.has)
    ]
