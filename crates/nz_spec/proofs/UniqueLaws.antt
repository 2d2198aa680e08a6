-- What a system determines: its description, its constraints, its first element and its stage lists.
use Rattle.std.proofs.Common.{◌≡◌, ◌≢◌, ℕ, ◌⊎◌, inl, inr, List, [], ◌∷◌, ◌++◌, length, map, pos, Option, Some, None, IfSome, sym, ap, ap₂, ◌∙◌, subst, arith}
use Rattle.std.proofs.lemmas.Int.{ints}
use Rattle.std.specs.List.{AllByRecursion as Each}
use Rattle.nz_spec.specs.Vectors.{Vector, minus, HasWidth}
use Rattle.nz_spec.specs.Order.{IsFirstOf, StandsBefore}
use Rattle.nz_spec.specs.Forms.{IsSupportForm, IsDescription}
use Rattle.nz_spec.specs.Systems.{Congruence, System, IsSystem}
use Rattle.nz_spec.specs.Elements.{IsHilbertElement, IsFirstNotPositive}
use Rattle.nz_spec.specs.Constraints.{Constraint, Zero, NotNegative, Meets, constraint_of, AreGenEquations, AreGenSupport, AreEquationsOf, AreRowsOf, AreConstraints, IsFirstBroken, IsOutsideConstraint}
use Rattle.nz_spec.proofs.VectorLaws.{zero_or_not}
use Rattle.nz_spec.proofs.ListLaws.{IsListOf-unique, IsLexBefore-asymmetric, StandsBefore-asymmetric, Each-weaker, first_unique}
use Rattle.nz_spec.proofs.PrimitiveLaws.{same_of_zero_minus}
use Rattle.nz_spec.proofs.EquationLaws.{AreEquations-unique}

-- two support descriptions of one list agree
pub IsDescription-unique : (w : ℕ) (G fs gs es ds : List Vector) → Each (HasWidth w) G → IsDescription w G fs es → IsDescription w G gs ds → (fs ≡ gs) × (es ≡ ds)
IsDescription-unique w G fs gs es ds wide p q = (
  IsListOf-unique _ IsLexBefore-asymmetric (IsSupportForm w G) fs gs p.support_forms q.support_forms,
  AreEquations-unique w G es ds wide p.equation_forms q.equation_forms,
)

gen_equations : (w : ℕ) (o : Option (List Vector)) (fs gs : List Vector) → IfSome o (λ G. Each (HasWidth w) G) → AreGenEquations w o fs → AreGenEquations w o gs → fs ≡ gs
gen_equations w None fs gs h p q = p ∙ sym q
gen_equations w (Some G) fs gs h p q = AreEquations-unique w G fs gs h p q

gen_support : (w : ℕ) (o : Option (List Vector)) (fs gs : List Vector) → AreGenSupport w o fs → AreGenSupport w o gs → fs ≡ gs
gen_support w None fs gs p q = p ∙ sym q
gen_support w (Some G) fs gs p q = IsListOf-unique _ IsLexBefore-asymmetric (IsSupportForm w G) fs gs p q

pub AreEquationsOf-unique : (s : System) → IsSystem s → (fs gs : List Vector) → AreEquationsOf s fs → AreEquationsOf s gs → fs ≡ gs
AreEquationsOf-unique s is fs gs p q = p.whole ∙ ap (λ es. s.eq ++ es) (gen_equations s.width s.gens p.of_gens q.of_gens is.gens_width p.are_of_gens q.are_of_gens) ∙ sym q.whole

pub AreRowsOf-unique : (s : System) (fs gs : List Vector) → AreRowsOf s fs → AreRowsOf s gs → fs ≡ gs
AreRowsOf-unique s fs gs p q = p.whole ∙ ap (λ es. s.ge ++ es) (gen_support s.width s.gens p.of_gens q.of_gens p.are_of_gens q.are_of_gens) ∙ sym q.whole

-- the constraints of a system are unique
pub AreConstraints-unique : (s : System) → IsSystem s → (of_group : List Congruence) (cs ds : List Constraint) → AreConstraints s of_group cs → AreConstraints s of_group ds → cs ≡ ds
AreConstraints-unique s is of_group cs ds p q =
    p.whole
    ∙ ap₂ (λ es rs. map Zero es ++ map constraint_of s.cg ++ map NotNegative rs ++ map constraint_of of_group)
    (AreEquationsOf-unique s is p.equations q.equations p.are_equations q.are_equations) (AreRowsOf-unique s p.rows q.rows p.are_rows q.are_rows)
    ∙ sym q.whole

pub IsFirstBroken-unique : (cs : List Constraint) (x : Vector) (c d : Constraint) → IsFirstBroken cs x c → IsFirstBroken cs x d → c ≡ d
IsFirstBroken-unique cs x c d p q =
    let met : (e : Constraint) → Meets e x → ¬ ¬ Meets e x = λ e m n. n m in
    (first_unique (λ e. ¬ Meets e x) p.before p.after q.before q.after c d (sym p.whole ∙ q.whole)
    (Each-weaker (λ e. Meets e x) (λ e. ¬ ¬ Meets e x) met p.before p.met) p.broken
    (Each-weaker (λ e. Meets e x) (λ e. ¬ ¬ Meets e x) met q.before q.met) q.broken).1

pub IsOutsideConstraint-unique : (s : System) → IsSystem s → (of_group : List Congruence) (x : Vector) (c d : Constraint) → IsOutsideConstraint s of_group x c → IsOutsideConstraint s of_group x d → c ≡ d
IsOutsideConstraint-unique s is of_group x c d p q =
    IsFirstBroken-unique p.constraints x c d p.first
    (subst (λ (es : List Constraint). IsFirstBroken es x d) (AreConstraints-unique s is of_group q.constraints p.constraints q.are_constraints p.are_constraints) q.first)

-- two vectors of one width are the same or not
pub same_or_not : (x y : Vector) → length x ≡ length y → (x ≡ y) ⊎ (x ≢ y)
same_or_not x y l = elim (zero_or_not (minus x y)) [
  | inl z ↦ inl (same_of_zero_minus x y l z)
  | inr n ↦ inr (λ e. n (subst (λ (v : Vector). Each (λ a. a ≡ pos 0) (minus x v)) e (minus-self x)))
]
  where
    minus-self : (x : Vector) → Each (λ a. a ≡ pos 0) (minus x x)
    minus-self [] = tt
    minus-self (a ∷ x) = (omega (arith, ints), minus-self x)

-- the first of a set of vectors of one width is unique
pub IsFirstOf-unique : (w : ℕ) (B : Vector → Vector → Type 0) → ((x y : Vector) → B x y → B y x → ⊥) → (P : Vector → Type 0) → ((x : Vector) → P x → HasWidth w x) → (x y : Vector) → IsFirstOf B P x → IsFirstOf B P y → x ≡ y
IsFirstOf-unique w B asym P wide x y p q = elim (same_or_not x y (wide x p.has ∙ sym (wide y q.has))) [
  | inl e ↦ e
  | inr n ↦ absurd (asym x y (p.before y q.has (λ e. n (sym e))) (q.before x p.has n))
]

pub IsFirstNotPositive-unique : (s : System) (x y : Vector) → IsFirstNotPositive s x → IsFirstNotPositive s y → x ≡ y
IsFirstNotPositive-unique s x y p q =
    IsFirstOf-unique s.width (StandsBefore s.grading) (StandsBefore-asymmetric s.grading) (IsHilbertElement s) (λ z h. h.irreducible.member.width) x y p.first q.first
