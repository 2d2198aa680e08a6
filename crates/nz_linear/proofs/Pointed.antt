-- A cone of rows has a line where they vanish together, and else no line.
use Rattle.std.proofs.Common.{◌≡◌, ℕ, List, [], ◌∷◌, pos, neg_ℤ, ◌≤ℤ◌, refl, sym, ◌∙◌, subst, arith}
use Rattle.std.specs.List.{AllByRecursion as Each, Contains}
use Rattle.nz_spec.specs.Vectors.{Vector, dot, opposite, IsZero}
use Rattle.nz_spec.specs.Monoids.{IsLine, IsPositive}
use Rattle.nz_spec.proofs.VectorLaws.{length-opposite, IsZero-zero_vector}
use Rattle.nz_linear.specs.Cones.{IsInRows}
use Rattle.nz_linear.specs.Extreme.{IsPointed}
use Rattle.nz_linear.specs.DualPairs.{Pair}
use Rattle.nz_linear.specs.Elimination.{CommonZero, DualOfRows}
use Rattle.nz_linear.proofs.Ring.{sums, mul-neg}
use Rattle.nz_linear.proofs.Lists.{each_map, each_map2}
use Rattle.nz_spec.proofs.ListLaws.{Each-contains}

dot-opposite : (f x : Vector) → dot f (opposite x) ≡ neg_ℤ (dot f x)
dot-opposite [] x = refl
dot-opposite (a ∷ f) [] = refl
dot-opposite (a ∷ f) (b ∷ x) = omega (arith, sums, mul-neg a b, dot-opposite f x)

-- a nonzero common zero of the rows is a line
pub line_of_common_zero : (w : ℕ) (rows : List Vector) (z : CommonZero w rows) → IsLine (IsInRows w rows) z.point
line_of_common_zero w rows z = record {
  nonzero = z.nonzero;
  forward = (z.width, each_map (λ r. dot r z.point ≡ pos 0) (λ r. pos 0 ≤ℤ dot r z.point) rows (λ r e. omega (arith, sums)) z.zero);
  backward = (length-opposite z.point ∙ z.width, each_map (λ r. dot r z.point ≡ pos 0) (λ r. pos 0 ≤ℤ dot r (opposite z.point)) rows (λ r e. omega (arith, sums, dot-opposite r z.point, e)) z.zero);
}

-- rows among which are the forms of a complete dual pair vanish together only at 0
pub pointed_of_dual : (w : ℕ) (rows : List Vector) → DualOfRows w rows → IsPointed w rows
pointed_of_dual w rows d x l z = d.only_zero x l (each_map (λ (p : Pair). Contains rows p.form) (λ (p : Pair). dot p.form x ≡ pos 0) d.pairs (λ p c. Each-contains (λ r. dot r x ≡ pos 0) rows p.form z c) d.from_rows)

-- a set of vectors at which pointed rows are at least 0 has no line
pub positive_of_pointed : (w : ℕ) (rows : List Vector) (Member : Vector → Type 0) → IsPointed w rows → ((x : Vector) → Member x → IsInRows w rows x) → IsPositive Member
positive_of_pointed w rows Member pt inside v line =
    let a = inside v line.forward in
    let b = inside (opposite v) line.backward in
    let zero : Each (λ r. dot r v ≡ pos 0) rows = each_map2 (λ r. pos 0 ≤ℤ dot r v) (λ r. pos 0 ≤ℤ dot r (opposite v)) (λ r. dot r v ≡ pos 0) rows (λ r p q. let e = dot-opposite r v in omega (arith, sums)) a.1 b.1 in
    line.nonzero (subst IsZero (sym (pt v a.0 zero)) (IsZero-zero_vector w))
