-- A row is inserted into a stage of a lattice: what makes the new list and the reversed list complete, and what may be kept.
use Rattle.std.proofs.Common.{ℕ, ◌⊎◌, inl, inr, List, [], ◌∷◌, ◌++◌, ℤ, pos, ◌≤ℤ◌, ◌<ℤ◌, Contains, arith}
use Rattle.std.proofs.lemmas.Int.{ints, by_lt_z}
use Rattle.std.specs.List.{AllByRecursion as Each}
use Rattle.nz_spec.specs.Vectors.{Vector, dot, plus, minus, HasWidth, IsNonzero}
use Rattle.nz_spec.specs.Laws.{IsDegreeOf}
use Rattle.nz_spec.specs.Monoids.{IsPositive, IsIrreducible}
use Rattle.nz_spec.specs.Stages.{IsInStage, IsInReversed}
use Rattle.nz_spec.proofs.ListLaws.{Each-weaker}
use Rattle.nz_order.specs.Lattices.{IsLattice}
use Rattle.nz_order.specs.Totals.{total}
use Rattle.nz_order.specs.Sides.{IsAbove, IsBeneath}
use Rattle.nz_order.proofs.RowLaws.{stage_wide, stage_closed, stage_zero, stage_decided, stage_degree}
use Rattle.nz_order.proofs.IrreducibleLaws.{member_is_total}
use Rattle.nz_order.proofs.SideLaws.{IsIrreducible-where, stage_above, stage_beneath, irreducible_from_lower}
use Rattle.nz_order.proofs.PairLaws.{sides_complete, beneath_closed, beneath_zero}

module _ (w : ℕ) (Lattice : Vector → Type 0) (lattice : IsLattice w Lattice) (rows : List Vector) (rows_wide : Each (HasWidth w) rows) (positive : IsPositive (IsInStage Lattice rows)) (h : Vector) where
  -- the degree: the sum of the old rows
  abbrev pub degree_form : Vector
  degree_form = total w rows

  old_degree : IsDegreeOf (IsInStage Lattice rows) (total w rows)
  old_degree = stage_degree w Lattice lattice rows rows_wide positive

  above_decided : (x e : Vector) → IsAbove (IsInStage Lattice rows) h x → IsAbove (IsInStage Lattice rows) h e → IsAbove (IsInStage Lattice rows) h (minus x e) ⊎ (¬ IsAbove (IsInStage Lattice rows) h (minus x e))
  above_decided x e p q = elim (stage_decided w Lattice lattice rows x e p.member q.member) [
    | inr n ↦ inr (λ m. n m.member)
    | inl m ↦ by_lt_z (dot h (minus x e)) (pos 0)
        (λ (lt : dot h (minus x e) <ℤ pos 0). inr (λ k. let a = k.at_least in omega (arith, ints, lt, a)))
        (λ (ge : pos 0 ≤ℤ dot h (minus x e)). inl (record { member = m; at_least = ge }))
  ]

  beneath_decided : (x e : Vector) → IsBeneath (IsInStage Lattice rows) h x → IsBeneath (IsInStage Lattice rows) h e → IsBeneath (IsInStage Lattice rows) h (minus x e) ⊎ (¬ IsBeneath (IsInStage Lattice rows) h (minus x e))
  beneath_decided x e p q = elim (stage_decided w Lattice lattice rows x e p.member q.member) [
    | inr n ↦ inr (λ m. n m.member)
    | inl m ↦ by_lt_z (pos 0) (dot h (minus x e))
        (λ (lt : pos 0 <ℤ dot h (minus x e)). inr (λ k. let a = k.at_most in omega (arith, ints, lt, a)))
        (λ (ge : dot h (minus x e) ≤ℤ pos 0). inl (record { member = m; at_most = ge }))
  ]

  to_above : (x : Vector) → IsIrreducible (IsInStage Lattice (rows ++ h ∷ [])) x → IsIrreducible (IsAbove (IsInStage Lattice rows) h) x
  to_above = IsIrreducible-where (IsInStage Lattice (rows ++ h ∷ [])) (IsAbove (IsInStage Lattice rows) h) (λ v. (stage_above Lattice rows h v).0) (λ v. (stage_above Lattice rows h v).1)

  from_above : (x : Vector) → IsIrreducible (IsAbove (IsInStage Lattice rows) h) x → IsIrreducible (IsInStage Lattice (rows ++ h ∷ [])) x
  from_above = IsIrreducible-where (IsAbove (IsInStage Lattice rows) h) (IsInStage Lattice (rows ++ h ∷ [])) (λ v. (stage_above Lattice rows h v).1) (λ v. (stage_above Lattice rows h v).0)

  to_beneath : (x : Vector) → IsIrreducible (IsInReversed Lattice rows h) x → IsIrreducible (IsBeneath (IsInStage Lattice rows) h) x
  to_beneath = IsIrreducible-where (IsInReversed Lattice rows h) (IsBeneath (IsInStage Lattice rows) h) (λ v. (stage_beneath Lattice rows h v).0) (λ v. (stage_beneath Lattice rows h v).1)

  from_beneath : (x : Vector) → IsIrreducible (IsBeneath (IsInStage Lattice rows) h) x → IsIrreducible (IsInReversed Lattice rows h) x
  from_beneath = IsIrreducible-where (IsBeneath (IsInStage Lattice rows) h) (IsInReversed Lattice rows h) (λ v. (stage_beneath Lattice rows h v).1) (λ v. (stage_beneath Lattice rows h v).0)

  -- a nonzero vector of the new stage from which no irreducible of it of smaller degree can be taken is irreducible
  pub kept_above : (x : Vector) → IsInStage Lattice (rows ++ h ∷ []) x → IsNonzero x → ((e : Vector) → IsIrreducible (IsInStage Lattice (rows ++ h ∷ [])) e → dot (total w rows) e <ℤ dot (total w rows) x → ¬ IsInStage Lattice (rows ++ h ∷ []) (minus x e)) → IsIrreducible (IsInStage Lattice (rows ++ h ∷ [])) x
  kept_above x m n none =
      irreducible_from_lower (IsInStage Lattice (rows ++ h ∷ [])) (stage_closed w Lattice lattice (rows ++ h ∷ [])) w (stage_wide w Lattice lattice (rows ++ h ∷ [])) (stage_zero w Lattice lattice (rows ++ h ∷ []))
      (total w rows) (λ y k nz. old_degree y ((stage_above Lattice rows h y).0 k).member nz) x m n none

  -- and in the same way one of the reversed stage
  pub kept_beneath : (x : Vector) → IsInReversed Lattice rows h x → IsNonzero x → ((e : Vector) → IsIrreducible (IsInReversed Lattice rows h) e → dot (total w rows) e <ℤ dot (total w rows) x → ¬ IsInReversed Lattice rows h (minus x e)) → IsIrreducible (IsInReversed Lattice rows h) x
  kept_beneath x m n none =
      let M = IsInStage Lattice rows in
      let wide : (v : Vector) → M v → HasWidth w v = stage_wide w Lattice lattice rows in
      from_beneath x (irreducible_from_lower (IsBeneath M h) (beneath_closed M (stage_closed w Lattice lattice rows) w wide h) w (λ v k. wide v k.member) (beneath_zero M w h (stage_zero w Lattice lattice rows))
      (total w rows) (λ y k nz. old_degree y k.member nz) x ((stage_beneath Lattice rows h x).0 m) n
      (λ e i lt k. none e (from_beneath e i) lt ((stage_beneath Lattice rows h (minus x e)).1 k)))

  module _ (H : List Vector) (H_only : Each (IsIrreducible (IsInStage Lattice rows)) H) (H_each : (v : Vector) → IsIrreducible (IsInStage Lattice rows) v → Contains H v)
      (P N : List Vector) (P_only : Each (IsIrreducible (IsInStage Lattice (rows ++ h ∷ []))) P) (N_only : Each (IsIrreducible (IsInReversed Lattice rows h)) N)
      (b : ℤ)
      (old_above : (v : Vector) → Contains H v → dot (total w rows) v <ℤ b → pos 0 ≤ℤ dot h v → Contains P v)
      (old_beneath : (v : Vector) → Contains H v → dot (total w rows) v <ℤ b → dot h v ≤ℤ pos 0 → Contains N v)
      (pair_above : (p n : Vector) → Contains P p → Contains N n → pos 0 <ℤ dot h p → dot h n <ℤ pos 0 → dot (total w rows) (plus p n) <ℤ b → IsIrreducible (IsInStage Lattice (rows ++ h ∷ [])) (plus p n) → Contains P (plus p n))
      (pair_beneath : (p n : Vector) → Contains P p → Contains N n → pos 0 <ℤ dot h p → dot h n <ℤ pos 0 → dot (total w rows) (plus p n) <ℤ b → IsIrreducible (IsInReversed Lattice rows h) (plus p n) → Contains N (plus p n)) where
    complete : (x : Vector) → dot (total w rows) x <ℤ b → (IsIrreducible (IsAbove (IsInStage Lattice rows) h) x → Contains P x) × (IsIrreducible (IsBeneath (IsInStage Lattice rows) h) x → Contains N x)
    complete =
        let M = IsInStage Lattice rows in
        let closed = stage_closed w Lattice lattice rows in
        let wide = stage_wide w Lattice lattice rows in
        let zero_in = stage_zero w Lattice lattice rows in
        sides_complete M closed w wide zero_in positive (total w rows) old_degree h H H_only
        (member_is_total M closed w wide zero_in (total w rows) old_degree H H_only H_each (stage_decided w Lattice lattice rows))
        P N (Each-weaker (IsIrreducible (IsInStage Lattice (rows ++ h ∷ []))) (IsIrreducible (IsAbove M h)) to_above P P_only)
        (Each-weaker (IsIrreducible (IsInReversed Lattice rows h)) (IsIrreducible (IsBeneath M h)) to_beneath N N_only)
        above_decided beneath_decided b old_above old_beneath
        (λ p n cp cn hp hn lt i. pair_above p n cp cn hp hn lt (from_above (plus p n) i))
        (λ p n cp cn hp hn lt i. pair_beneath p n cp cn hp hn lt (from_beneath (plus p n) i))

    -- below the bound, the first list has every irreducible of the new stage
    pub stage_complete : (x : Vector) → dot (total w rows) x <ℤ b → IsIrreducible (IsInStage Lattice (rows ++ h ∷ [])) x → Contains P x
    stage_complete x lt i = (complete x lt).0 (to_above x i)

    -- and the second every irreducible of the reversed stage
    pub reversed_complete : (x : Vector) → dot (total w rows) x <ℤ b → IsIrreducible (IsInReversed Lattice rows h) x → Contains N x
    reversed_complete x lt i = (complete x lt).1 (to_beneath x i)
