-- The parts of a vector by division: how often an element can be taken, by the rows.
use Rattle.std.proofs.Common.{◌↔◌, ℕ, zero, suc, List, [], ◌∷◌, ℤ, pos, ◌*ℤ◌, ◌≤ℤ◌, sym, ap, ◌∙◌, subst, arith}
use Rattle.std.proofs.lemmas.Int.{ints}
use Rattle.std.specs.List.{AllByRecursion as Each}
use Rattle.nz_spec.specs.Vectors.{Vector, dot, minus, scaled, opposite, zero_vector, IsNonzero}
use Rattle.nz_spec.specs.Monoids.{IsPositive}
use Rattle.nz_spec.specs.Stages.{IsInStage}
use Rattle.nz_spec.proofs.VectorLaws.{dot-scaled, zero-scaled}
use Rattle.nz_spec.proofs.PartsSums.{one_time_more}
use Rattle.nz_order.specs.Lattices.{IsLattice}
use Rattle.nz_order.proofs.RowLaws.{stage_minus, lattice_opposite, dot-opposite}

-- the row allows c times e to be taken from x
abbrev pub Allows : ℕ → Vector → Vector → Vector → Type 0
Allows c e x r = (pos c *ℤ dot r e) ≤ℤ dot r x

module _ (w : ℕ) (Lattice : Vector → Type 0) (lattice : IsLattice w Lattice) (rows : List Vector) where
  lattice_scaled : (c : ℕ) (e : Vector) → Lattice e → Lattice (scaled (pos c) e)
  lattice_scaled zero e h = subst Lattice (sym (zero-scaled e ∙ ap zero_vector (lattice.wide e h))) lattice.zero_in
  lattice_scaled (suc c) e h = subst Lattice (sym (one_time_more c e)) (lattice.sums e (scaled (pos c) e) h (lattice_scaled c e h))

  allows_to : (rs : List Vector) (c : ℕ) (e x : Vector) → Each (λ r. dot r (scaled (pos c) e) ≤ℤ dot r x) rs → Each (Allows c e x) rs
  allows_to [] c e x h = tt
  allows_to (r ∷ rs) c e x h = (subst (λ (z : ℤ). z ≤ℤ dot r x) (dot-scaled r (pos c) e) h.0, allows_to rs c e x h.1)

  allows_from : (rs : List Vector) (c : ℕ) (e x : Vector) → Each (Allows c e x) rs → Each (λ r. dot r (scaled (pos c) e) ≤ℤ dot r x) rs
  allows_from [] c e x h = tt
  allows_from (r ∷ rs) c e x h = (subst (λ (z : ℤ). z ≤ℤ dot r x) (sym (dot-scaled r (pos c) e)) h.0, allows_from rs c e x h.1)

  -- c times e can be taken from x just where each row allows it
  pub taken_times : (c : ℕ) (e x : Vector) → Lattice e → Lattice x → IsInStage Lattice rows (minus x (scaled (pos c) e)) ↔ Each (Allows c e x) rows
  taken_times c e x he hx =
      let both = stage_minus w Lattice lattice rows x (scaled (pos c) e) hx (lattice_scaled c e he) in
      ((λ m. allows_to rows c e x (both.0 m)), (λ h. both.1 (allows_from rows c e x h)))

  zero_rows : (rs : List Vector) (e : Vector) → Each (λ r. pos 0 ≤ℤ dot r e) rs → Each (λ r. dot r e ≤ℤ pos 0) rs → Each (λ r. pos 0 ≤ℤ dot r (opposite e)) rs
  zero_rows [] e h k = tt
  zero_rows (r ∷ rs) e h k = (let d = dot-opposite r e in let a = k.0 in omega (arith, ints, d, a), zero_rows rs e h.1 k.1)

  -- without a line, some row is positive at each nonzero member: it bounds how often that can be taken
  pub some_row_positive : IsPositive (IsInStage Lattice rows) → (e : Vector) → IsInStage Lattice rows e → IsNonzero e → ¬ Each (λ r. dot r e ≤ℤ pos 0) rows
  some_row_positive positive e m n k = positive e (record {
    nonzero = n;
    forward = m;
    backward = record { in_lattice = lattice_opposite w Lattice lattice e m.in_lattice; at_least = zero_rows rows e m.at_least k };
  })

  -- where each row allows c times and not each allows once more, c is how often e can be taken
  pub taken_most : (c : ℕ) (e x : Vector) → Lattice e → Lattice x → Each (Allows c e x) rows → (¬ Each (Allows (suc c) e x) rows) → IsInStage Lattice rows (minus x (scaled (pos c) e)) × (¬ IsInStage Lattice rows (minus x (scaled (pos (suc c)) e)))
  taken_most c e x he hx h n = ((taken_times c e x he hx).1 h, (λ m. n ((taken_times (suc c) e x he hx).0 m)))
