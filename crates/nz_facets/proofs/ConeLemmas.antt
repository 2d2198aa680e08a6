-- The constraints of a cone and of a lattice: their members, and that they fit vectors of the width.
use Rattle.std.proofs.Common.{◌≡◌, ℕ, List, [], ◌∷◌, ◌++◌, map, Option, Some, None, sym, ap, ◌∙◌, subst, arith}
use Rattle.std.proofs.lemmas.Int.{ints}
use Rattle.std.specs.List.{AllByRecursion as Each, AllZip}
use Rattle.nz_spec.specs.Vectors.{Vector}
use Rattle.nz_spec.specs.Forms.{IsEquationAt, AreEquations, IsSupportForm, IsDescription}
use Rattle.nz_spec.specs.Systems.{Congruence}
use Rattle.nz_spec.specs.Constraints.{Constraint, Zero, NotNegative, Meets, constraint_of}
use Rattle.nz_linear.proofs.Lists.{each_map, each_append, each_left, each_right, each_of_map, zip_to_right}
use Rattle.nz_member.specs.Values.{IsOfWidth}
use Rattle.nz_sweep.specs.Duals.{Coordinate}
use Rattle.nz_sweep.specs.GroupConstraints.{IsDualCoordinate, AreAboveOne, none, pass, keep, AreGroupConstraints}
use Rattle.nz_facets.specs.Members.{HaveMembers, AreConeConstraints, AreOfGiven}

-- as the code puts them together
pub cone_listed : (w : ℕ) (G support equations : List Vector) (empty zeros all : List Constraint) → IsDescription w G support equations → empty ≡ [] → zeros ≡ empty ++ map Zero equations → all ≡ zeros ++ map NotNegative support → AreConeConstraints w G all
cone_listed w G support equations empty zeros all d n z a = record { equations = equations; support = support; description = d; whole = a ∙ ap (λ t. t ++ map NotNegative support) (z ∙ ap (λ t. t ++ map Zero equations) n) }

-- behind constraints with members of their own they have those of both
pub members_both : (w : ℕ) (Member Other : Vector → Type 0) (list more all : List Constraint) → HaveMembers w Member list → HaveMembers w Other more → all ≡ list ++ more → HaveMembers w (λ x. Member x × Other x) all
members_both w Member Other list more all h k e x l =
    let Met : Constraint → Type 0 = λ c. Meets c x in (
      (λ m. let n = subst (Each Met) e m in ((h x l).0 (each_left Met list more n), (k x l).0 (each_right Met list more n))),
      (λ m. subst (Each Met) (sym e) (each_append Met list more ((h x l).1 m.0) ((k x l).1 m.1))),
    )

-- ---- forms of the width, and moduli of at least 1
zeros_fit : (w : ℕ) (vs fs : List Vector) → AreEquations w vs fs → Each (IsOfWidth w) (map Zero fs)
zeros_fit w vs fs e = each_of_map Zero (IsOfWidth w) fs (zip_to_right (IsEquationAt w vs) (λ f. IsOfWidth w (Zero f)) e.columns fs (λ c f k. record { width = k.width; modulus = tt }) e.each)

pub cone_fits : (w : ℕ) (G : List Vector) (cs : List Constraint) → AreConeConstraints w G cs → Each (IsOfWidth w) cs
cone_fits w G cs a = subst (Each (IsOfWidth w)) (sym a.whole)
    (each_append (IsOfWidth w) (map Zero a.equations) (map NotNegative a.support) (zeros_fit w G a.equations a.description.equation_forms)
    (each_of_map NotNegative (IsOfWidth w) a.support (each_map (IsSupportForm w G) (λ f. IsOfWidth w (NotNegative f)) a.support (λ f k. record { width = k.width; modulus = tt }) a.description.support_forms.only)))

above_fits : (w : ℕ) (vs us : List Vector) (cs : List Coordinate) (gs : List Congruence) → AllZip (IsDualCoordinate w vs) us cs → AreAboveOne cs gs → Each (IsOfWidth w) (map constraint_of gs)
above_fits w vs [] [] [] z none = tt
above_fits w vs [] [] (g ∷ gs) z t = elim t [ ]
above_fits w vs [] (c ∷ cs) gs z t = absurd z
above_fits w vs (u ∷ us) [] gs z t = absurd z
above_fits w vs (u ∷ us) (c ∷ cs) gs z (pass p t) = above_fits w vs us cs gs z.1 t
above_fits w vs (u ∷ us) (c ∷ cs) (g ∷ gs) z (keep p t) = (record { width = z.0.form.width; modulus = (let l = p in omega (arith, ints, l)) }, above_fits w vs us cs gs z.1 t)

group_fits : (w : ℕ) (vs : List Vector) (cs : List Constraint) → AreGroupConstraints w vs cs → Each (IsOfWidth w) cs
group_fits w vs cs a = subst (Each (IsOfWidth w)) (sym a.whole)
    (each_append (IsOfWidth w) (map Zero a.equations) (map constraint_of a.congruences) (zeros_fit w vs a.equations a.are_equations)
    (above_fits w vs vs a.are_congruences.coordinates a.congruences a.are_congruences.dual a.are_congruences.above_one))

given_fits : (w : ℕ) (given : Option (List Vector)) (cs : List Constraint) → AreOfGiven w given cs → Each (IsOfWidth w) cs
given_fits w None cs a = subst (Each (IsOfWidth w)) (sym a) tt
given_fits w (Some vs) cs a = group_fits w vs cs a

-- behind constraints that fit, those of the group fit too
pub both_fit : (w : ℕ) (given : Option (List Vector)) (list more all : List Constraint) → Each (IsOfWidth w) list → AreOfGiven w given more → all ≡ list ++ more → Each (IsOfWidth w) all
both_fit w given list more all h a e = subst (Each (IsOfWidth w)) (sym e) (each_append (IsOfWidth w) list more h (given_fits w given more a))
