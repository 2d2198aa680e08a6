-- Closure of a cone by generators, and the ray that binds first.
use Rattle.std.proofs.Common.{◌≡◌, ℕ, suc, ◌⊎◌, inl, inr, List, [], ◌∷◌, length, ℤ, pos, ◌+ℤ◌, ◌-ℤ◌, ◌*ℤ◌, neg_ℤ, ◌≤ℤ◌, ◌<ℤ◌, sym, ap, ◌∙◌, arith}
use Rattle.std.proofs.lemmas.Int.{by_lt_z}
use Rattle.std.proofs.Math.IntN.{*ℤ_comm}
use Rattle.std.specs.List.{AllByRecursion as Each}
use Rattle.nz_spec.specs.Vectors.{Vector, HasWidth, dot, plus, scaled, zero_vector}
use Rattle.nz_spec.specs.Sums.{IsInCone}
use Rattle.nz_spec.proofs.IntLaws.{mul-nonneg, mul-pos}
use Rattle.nz_spec.proofs.VectorLaws.{scaled-scaled}
use Rattle.nz_spec.proofs.SumLaws.{length-zero_vector, combination-scaled, combination-zeros, nonneg-scaled, nonneg_zeros}
use Rattle.nz_linear.proofs.Ring.{sums, ring_z, neg-mul}
use Rattle.nz_linear.proofs.Signs.{mul_is_nonneg}
use Rattle.nz_linear.proofs.Lists.{each_map}
use Rattle.nz_linear.proofs.VectorLaws.{length-scaled, plus-zero}
use Rattle.nz_linear.proofs.Combinations.{combination-skip}

-- the multiple of a sum is positive
pub above_zero : (m : ℤ) → pos 1 ≤ℤ m → pos 0 <ℤ m
above_zero m p = omega (arith, sums)

-- ---- closure
pub cone_skip : (w : ℕ) (g : Vector) (gens : List Vector) (x : Vector) → length g ≡ w → Each (HasWidth w) gens → IsInCone w gens x → IsInCone w (g ∷ gens) x
cone_skip w g gens x l a i = record {
  multiple = i.multiple;
  positive = i.positive;
  factors = pos 0 ∷ i.factors;
  each = (omega (arith, sums), i.each);
  one_each = ap suc i.one_each;
  same = combination-skip w i.factors g gens l a ∙ i.same;
}

pub cone_head : (w : ℕ) (g : Vector) (gens : List Vector) → length g ≡ w → Each (HasWidth w) gens → IsInCone w (g ∷ gens) g
cone_head w g gens l a = record {
  multiple = pos 1;
  positive = omega (arith, sums);
  factors = pos 1 ∷ zero_vector (length gens);
  each = (omega (arith, sums), nonneg_zeros (length gens));
  one_each = ap suc (length-zero_vector (length gens));
  same = ap (plus (scaled (pos 1) g)) (combination-zeros w gens a) ∙ plus-zero w (scaled (pos 1) g) (length-scaled w (pos 1) g l);
}

pub cone_scaled : (w : ℕ) (gens : List Vector) (k : ℤ) (x : Vector) → pos 0 ≤ℤ k → IsInCone w gens x → IsInCone w gens (scaled k x)
cone_scaled w gens k x p i = record {
  multiple = i.multiple;
  positive = i.positive;
  factors = scaled k i.factors;
  each = nonneg-scaled k i.factors p i.each;
  one_each = length-scaled _ k i.factors i.one_each;
  same = combination-scaled w k i.factors gens ∙ ap (scaled k) i.same ∙ scaled-scaled k i.multiple x ∙ ap (λ t. scaled t x) (*ℤ_comm k i.multiple) ∙ sym (scaled-scaled i.multiple k x);
}

pub cone_divide : (w : ℕ) (gens : List Vector) (k : ℤ) (x : Vector) → pos 0 <ℤ k → IsInCone w gens (scaled k x) → IsInCone w gens x
cone_divide w gens k x p i = record {
  multiple = i.multiple *ℤ k;
  positive = mul-pos i.multiple k i.positive (omega (arith, sums));
  factors = i.factors;
  each = i.each;
  one_each = i.one_each;
  same = i.same ∙ scaled-scaled i.multiple k x;
}

-- ---- the ray that binds first
-- of the rays at which h and y are negative, the one with the largest quotient y / h
pub record Worst (h y : Vector) (Q : Vector → Type 0) (rays : List Vector) : Type 0 where
  pub ray : Vector
  pub fact : Q ray
  pub under : dot h ray <ℤ pos 0
  pub value : dot ray y <ℤ pos 0
  pub best : Each (λ m. dot h m <ℤ pos 0 → pos 0 ≤ℤ (neg_ℤ (dot h ray) *ℤ dot m y +ℤ neg_ℤ (dot ray y) *ℤ neg_ℤ (dot h m))) rays

ring_worst : (a b c d s v : ℤ) → b *ℤ (d *ℤ v +ℤ c *ℤ s) ≡ d *ℤ (b *ℤ v +ℤ a *ℤ s) +ℤ s *ℤ (c *ℤ b -ℤ a *ℤ d)
ring_worst a b c d s v = simp ring_z (omega (arith, sums))

-- a quotient a/b is at most c/d; what a/b is enough for, c/d is
worse : (a b c d s v : ℤ) → pos 0 <ℤ b → pos 0 <ℤ d → pos 0 <ℤ s → pos 0 ≤ℤ (c *ℤ b -ℤ a *ℤ d) → pos 0 ≤ℤ (b *ℤ v +ℤ a *ℤ s) → pos 0 ≤ℤ (d *ℤ v +ℤ c *ℤ s)
worse a b c d s v pb pd ps more h =
    let k = mul-nonneg d (b *ℤ v +ℤ a *ℤ s) (omega (arith, sums)) h in
    let l = mul-nonneg s (c *ℤ b -ℤ a *ℤ d) (omega (arith, sums)) more in
    mul_is_nonneg b (d *ℤ v +ℤ c *ℤ s) pb (omega (arith, sums, ring_worst a b c d s v, k, l))

enough : (a b s v : ℤ) → pos 0 <ℤ a → pos 0 <ℤ b → pos 0 <ℤ s → pos 0 ≤ℤ v → pos 0 ≤ℤ (b *ℤ v +ℤ a *ℤ s)
enough a b s v pa pb ps h =
    let k = mul-nonneg b v (omega (arith, sums)) h in
    let l = mul-nonneg a s (omega (arith, sums)) (omega (arith, sums)) in
    omega (arith, sums)

pub worst : (h y : Vector) (Q : Vector → Type 0) (rays : List Vector) → Each Q rays → Each (λ n. dot h n <ℤ pos 0 → pos 0 ≤ℤ dot n y) rays ⊎ Worst h y Q rays
worst h y Q [] q = inl tt
worst h y Q (n ∷ rays) q = by_lt_z (dot h n) (pos 0)
    (λ (under : dot h n <ℤ pos 0). by_lt_z (dot n y) (pos 0)
    (λ (value : dot n y <ℤ pos 0). elim (worst h y Q rays q.1) [
      | inl all ↦ inr (record {
        ray = n;
        fact = q.0;
        under = under;
        value = value;
        best = (
          λ u. omega (arith, sums, *ℤ_comm (neg_ℤ (dot h n)) (dot n y), neg-mul (dot n y) (neg_ℤ (dot h n))),
          each_map (λ m. dot h m <ℤ pos 0 → pos 0 ≤ℤ dot m y) (λ m. dot h m <ℤ pos 0 → pos 0 ≤ℤ (neg_ℤ (dot h n) *ℤ dot m y +ℤ neg_ℤ (dot n y) *ℤ neg_ℤ (dot h m))) rays
              (λ m f u. enough (neg_ℤ (dot n y)) (neg_ℤ (dot h n)) (neg_ℤ (dot h m)) (dot m y) (omega (arith, sums)) (omega (arith, sums)) (omega (arith, sums)) (f u)) all,
        );
      })
      | inr b ↦ by_lt_z (neg_ℤ (dot b.ray y) *ℤ neg_ℤ (dot h n)) (neg_ℤ (dot n y) *ℤ neg_ℤ (dot h b.ray))
          (λ (less : (neg_ℤ (dot b.ray y) *ℤ neg_ℤ (dot h n)) <ℤ (neg_ℤ (dot n y) *ℤ neg_ℤ (dot h b.ray))). inr (record {
            ray = n;
            fact = q.0;
            under = under;
            value = value;
            best = (
              λ u. omega (arith, sums, *ℤ_comm (neg_ℤ (dot h n)) (dot n y), neg-mul (dot n y) (neg_ℤ (dot h n))),
              each_map (λ m. dot h m <ℤ pos 0 → pos 0 ≤ℤ (neg_ℤ (dot h b.ray) *ℤ dot m y +ℤ neg_ℤ (dot b.ray y) *ℤ neg_ℤ (dot h m))) (λ m. dot h m <ℤ pos 0 → pos 0 ≤ℤ (neg_ℤ (dot h n) *ℤ dot m y +ℤ neg_ℤ (dot n y) *ℤ neg_ℤ (dot h m))) rays
                  (λ m f u. worse (neg_ℤ (dot b.ray y)) (neg_ℤ (dot h b.ray)) (neg_ℤ (dot n y)) (neg_ℤ (dot h n)) (neg_ℤ (dot h m)) (dot m y) (omega (arith, sums, b.under)) (omega (arith, sums)) (omega (arith, sums)) (omega (arith, sums)) (f u)) b.best,
            );
          }))
          (λ (more : (neg_ℤ (dot n y) *ℤ neg_ℤ (dot h b.ray)) ≤ℤ (neg_ℤ (dot b.ray y) *ℤ neg_ℤ (dot h n))). inr (record {
            ray = b.ray;
            fact = b.fact;
            under = b.under;
            value = b.value;
            best = (λ u. omega (arith, sums, *ℤ_comm (neg_ℤ (dot h b.ray)) (dot n y), neg-mul (dot n y) (neg_ℤ (dot h b.ray))), b.best);
          }))
    ])
    (λ (fine : pos 0 ≤ℤ dot n y). elim (worst h y Q rays q.1) [
      | inl all ↦ inl (λ u. fine, all)
      | inr b ↦ inr (record {
        ray = b.ray;
        fact = b.fact;
        under = b.under;
        value = b.value;
        best = (λ u. enough (neg_ℤ (dot b.ray y)) (neg_ℤ (dot h b.ray)) (neg_ℤ (dot h n)) (dot n y) (omega (arith, sums, b.value)) (omega (arith, sums, b.under)) (omega (arith, sums)) fine, b.best);
      })
    ]))
    (λ (over : pos 0 ≤ℤ dot h n). elim (worst h y Q rays q.1) [
      | inl all ↦ inl (λ u. absurd (omega (arith, sums)), all)
      | inr b ↦ inr (record { ray = b.ray; fact = b.fact; under = b.under; value = b.value; best = (λ u. absurd (omega (arith, sums)), b.best) })
    ])
