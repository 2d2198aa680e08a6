-- The forms by which vectors of coordinates are put in order: their values are the degree, where there is one, and the entries of the vector.
use Rattle.std.proofs.Common.{◌≡◌, ℕ, zero, suc, List, [], ◌∷◌, length, map, Option, Some, None, IfSome, ℤ, pos, refl, sym, ap, ap₂, ◌∙◌, subst, arith}
use Rattle.std.proofs.Math.IntN.{zero-*ℤ}
use Rattle.std.specs.List.{AllByRecursion as Each}
use Rattle.nz_spec.specs.Vectors.{Vector, dot, combination, values_at, unit_vectors, HasWidth, IsZero}
use Rattle.nz_spec.specs.Sums.{IsIndependent}
use Rattle.nz_spec.specs.Order.{degree, StandsBefore, IsLexBefore}
use Rattle.nz_spec.proofs.EquationLaws.{dot_comm}
use Rattle.nz_spec.proofs.SumLaws.{dot-combination, length-combination}
use Rattle.nz_spec.proofs.VectorLaws.{zero-dot}
use Rattle.nz_linear.specs.Coordinates.{in_coordinates}
use Rattle.nz_linear.proofs.Lists.{each_of_map}
use Rattle.nz_linear.proofs.Ring.{sums, one-mul}
use Rattle.nz_linear.proofs.SumCoordinates as sum
use Rattle.nz_frame.specs.Frames.{order_forms}
use Rattle.nz_measures.specs.Pools.{order_from}
use Rattle.nz_frame.proofs.FrameLemmas.{pulled_wide, units_wide_at}

-- the values of forms in coordinates are those of the forms
values_in : (w : ℕ) (vs fs : List Vector) (c : Vector) → Each (HasWidth w) vs → values_at (map (λ h. in_coordinates vs h) fs) c ≡ values_at fs (combination w c vs)
values_in w vs [] c l = refl
values_in w vs (f ∷ fs) c l = ap₂ (λ b y. b ∷ y) (dot_comm (in_coordinates vs f) c ∙ sym (dot-combination f w c vs l)) (values_in w vs fs c l)

-- the unit forms have the entries as values
shifted : (us : List Vector) (a : ℤ) (x : Vector) → map (λ u. dot u (a ∷ x)) (map (λ u. pos 0 ∷ u) us) ≡ map (λ u. dot u x) us
shifted [] a x = refl
shifted (u ∷ us) a x = ap₂ (λ b y. b ∷ y) (let e = zero-*ℤ a in omega (arith, sums, e)) (shifted us a x)

unit_values : (w : ℕ) (x : Vector) → HasWidth w x → values_at (unit_vectors w) x ≡ x
unit_values zero [] l = refl
unit_values zero (a ∷ x) l = absurd (let b : ⊥ = omega (arith, l) in b)
unit_values (suc w) [] l = absurd (let b : ⊥ = omega (arith, l) in b)
unit_values (suc w) (a ∷ x) l = ap₂ (λ b y. b ∷ y) (let e = zero-dot w x in let o = one-mul a in omega (arith, sums, e, o)) (shifted (unit_vectors w) a x ∙ unit_values w x (omega (arith, l)))

entry_values : (w : ℕ) (base : List Vector) (c : Vector) → Each (HasWidth w) base → values_at (order_forms w base None) c ≡ combination w c base
entry_values w base c l = values_in w base (unit_vectors w) c l ∙ unit_values w (combination w c base) (length-combination w c base l)

-- lexicographically by the degree, where there is one, and the entries is the order of the system
pub before_by_forms : (w : ℕ) (base : List Vector) (grading : Option Vector) (c d : Vector) → Each (HasWidth w) base
    → IsLexBefore (values_at (order_forms w base grading) c) (values_at (order_forms w base grading) d) → StandsBefore grading (combination w c base) (combination w d base)
before_by_forms w base None c d l b = subst (λ x. IsLexBefore x (combination w d base)) (entry_values w base c l) (subst (IsLexBefore (values_at (order_forms w base None) c)) (entry_values w base d l) b)
before_by_forms w base (Some g) c d l b =
    let value : (e : Vector) → values_at (order_forms w base (Some g)) e ≡ degree g (combination w e base) ∷ combination w e base = λ e. values_in w base (g ∷ unit_vectors w) e l ∙ ap (λ t. degree g (combination w e base) ∷ t) (unit_values w (combination w e base) (length-combination w e base l)) in
    subst (λ x. IsLexBefore x (degree g (combination w d base) ∷ combination w d base)) (value c) (subst (IsLexBefore (values_at (order_forms w base (Some g)) c)) (value d) b)

-- these forms have the width of coordinates
pub order_wide : (w : ℕ) (base : List Vector) (grading : Option Vector) → Each (HasWidth (length base)) (order_forms w base grading)
order_wide w base None = pulled_wide base (unit_vectors w)
order_wide w base (Some g) = pulled_wide base (g ∷ unit_vectors w)

-- and vanish together only at 0
entries_only_zero : (w : ℕ) (base : List Vector) → Each (HasWidth w) base → IsIndependent w base → (c : Vector) → HasWidth (length base) c → Each (λ f. dot f c ≡ pos 0) (order_forms w base None) → IsZero c
entries_only_zero w base l free c lc z = sum.zero_of_at w base l free c lc (subst IsZero (entry_values w base c l) (each_of_map (λ f. dot f c) (λ a. a ≡ pos 0) (order_forms w base None) z))

pub order_only_zero : (w : ℕ) (base : List Vector) (grading : Option Vector) → Each (HasWidth w) base → IsIndependent w base → (c : Vector) → HasWidth (length base) c → Each (λ f. dot f c ≡ pos 0) (order_forms w base grading) → IsZero c
order_only_zero w base None l free c lc z = entries_only_zero w base l free c lc z
order_only_zero w base (Some g) l free c lc z = entries_only_zero w base l free c lc z.1

-- ---- the forms themselves
pub forms_wide : (w n : ℕ) (grading : Option Vector) (fs : List Vector) → n ≡ w → IfSome grading (HasWidth w) → fs ≡ order_from grading (unit_vectors w) → Each (HasWidth n) fs
forms_wide w n None fs e h k = units_wide_at w n fs e k
forms_wide w n (Some g) fs e h k = subst (Each (HasWidth n)) (sym k) (h ∙ sym e, units_wide_at w n (unit_vectors w) e refl)
