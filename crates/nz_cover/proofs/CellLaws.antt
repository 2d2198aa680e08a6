-- A cell by its forms: its cone, its inside, and the values of other forms there.
use Rattle.std.proofs.Common.{◌↔◌, ℕ, List, map, pos, ◌≤ℤ◌, ◌<ℤ◌, sym, ◌∙◌, arith}
use Rattle.std.proofs.lemmas.List.{length-map}
use Rattle.std.specs.List.{AllByRecursion as Each, Contains}
use Rattle.nz_spec.specs.Vectors.{Vector, dot, HasWidth}
use Rattle.nz_spec.specs.Sums.{IsInSpan, IsInCone, IsInside}
use Rattle.nz_spec.proofs.ConstraintLaws.{nonneg_on_cone}
use Rattle.nz_linear.specs.DualPairs.{Pair, IsDualPair, OnlyZero, product}
use Rattle.nz_linear.proofs.Ring.{sums}
use Rattle.nz_linear.proofs.Lists.{each_map, each_of_map}
use Rattle.nz_linear.proofs.DualPairs.{product_positive, expansion, spread_is, length-factors}
use Rattle.nz_linear.proofs.Elimination.{all_of_width, complete_of}
use Rattle.nz_linear.proofs.ConeMembers.{cone_of_members}
use Rattle.nz_linear.proofs.Spans.{in_span}
use Rattle.nz_linear.proofs.SimplexCones.{cone_by_forms, inside_by_forms}
use Rattle.nz_cover.specs.Cells.{IsCell, IsAt, IsWithin, IsOf}

abbrev pub vectors_of : List Pair → List Vector
vectors_of cell = map (λ (p : Pair). p.vector) cell

-- its vectors span all vectors of the width
pub cell_span : (w : ℕ) (c : List Pair) (x : Vector) → IsDualPair w c → OnlyZero w c → HasWidth w x → IsInSpan w (vectors_of c) x
cell_span w c x d o l =
    in_span w (vectors_of c) x (product c) _ (product_positive c d.dual) (length-factors c x ∙ sym (length-map c (λ (p : Pair). p.vector)))
    (sym (spread_is w c x) ∙ sym (expansion w (HasWidth w) c x (all_of_width w) d (complete_of w c d.widths o) l))

pub cell_cone : (w : ℕ) (c : List Pair) (x : Vector) → IsCell w c → HasWidth w x → IsInCone w (vectors_of c) x ↔ IsAt x c
cell_cone w c x k l = cone_by_forms w c x k.dual l (cell_span w c x k.dual k.only_zero l)

pub cell_inside : (w : ℕ) (c : List Pair) (x : Vector) → IsCell w c → HasWidth w x → IsInside w (vectors_of c) x ↔ IsWithin x c
cell_inside w c x k l = inside_by_forms w c x k.dual l (cell_span w c x k.dual k.only_zero l)

pub within_at : (x : Vector) (c : List Pair) → IsWithin x c → IsAt x c
within_at x c h = each_map (λ (p : Pair). pos 0 <ℤ dot p.form x) (λ (p : Pair). pos 0 ≤ℤ dot p.form x) c (λ p k. omega (arith, sums)) h

-- what a cell of vectors of the list holds is in the cone of the list
pub at_in_cone : (w : ℕ) (vs : List Vector) (c : List Pair) (x : Vector) → Each (HasWidth w) vs → IsCell w c → IsOf vs c → HasWidth w x → IsAt x c → IsInCone w vs x
at_in_cone w vs c x lv k m l h = cone_of_members w (vectors_of c) vs x lv (each_of_map (λ (p : Pair). p.vector) (Contains vs) c m) ((cell_cone w c x k l).1 h)

-- so a form that is at least 0 on the list is at least 0 there
pub nonneg_at : (w : ℕ) (vs : List Vector) (f : Vector) (c : List Pair) (x : Vector) → Each (HasWidth w) vs → IsCell w c → IsOf vs c → HasWidth w x → Each (λ v. pos 0 ≤ℤ dot f v) vs → IsAt x c → pos 0 ≤ℤ dot f x
nonneg_at w vs f c x lv k m l n h = nonneg_on_cone f w vs x lv n (at_in_cone w vs c x lv k m l h)
