-- A reply that cannot be reckoned forms a number that is named: each constraint's form is one of the system's.
use Rattle.std.proofs.Common.{◌≡◌, inl, inr, List, [], ◌∷◌, ◌++◌, map, ℕ, ℤ, Option, Some, None, IfSome, Bool, true, false, refl, sym, subst}
use Rattle.std.specs.Prelude.{Contains, MatchOption}
use Rattle.std.proofs.lemmas.List.Elements.{Contains-append_cases}
use Rattle.std.specs.List.{AllByRecursion as Each, AllZip}
use Rattle.nz_spec.specs.Vectors.{Vector, HasWidth}
use Rattle.nz_spec.specs.Forms.{IsOtherColumn, IsEquationAt, IsEquation}
use Rattle.nz_spec.specs.Systems.{Congruence, System, IsSystem, IsMember}
use Rattle.nz_spec.specs.Monoids.{IsPositive, IsIrreducible, IsModuleGenerator}
use Rattle.nz_spec.specs.Elements.{IsHilbertElement, AreModuleGenerators}
use Rattle.nz_spec.specs.Constraints.{Constraint, Zero, NotNegative, form_of, constraint_of, AreGenEquations, AreEquationsOf}
use Rattle.nz_spec.proofs.LevelLaws.{module_irreducible}
use Rattle.nz_spec.proofs.ListLaws.{contains_none, Each-contains, Each-from_contains}
use Rattle.nz_linear.proofs.Lists.{each_map, zip_to_right}
use Rattle.nz_linear.proofs.SumCoordinates.{image_of}
use Rattle.nz_scalar.specs.Room.{HasRoom}
use Rattle.nz_range.proofs.Causes.{value_cause}
use Rattle.nz_sweep.specs.Duals.{Coordinate}
use Rattle.nz_sweep.specs.GroupConstraints.{IsDualCoordinate, AreAboveOne, none, pass, keep}
use Rattle.nz_sweep.proofs.GeneratingLemmas.{generates}
use Rattle.nz_measures.specs.Pools.{IsAmbientVector, IsAmbientForm, IsEquationOf, own_equation, generated_equation, equation, congruence, row, of_set_apart, asked}
use Rattle.nz_measures.specs.Reaches.{HasOwnAbove, of_ambient}
use Rattle.nz_measures.proofs.Measuring.{pool_pair}
use Rattle.nz_measures.proofs.SystemCauses.{row_of_list}
use Rattle.nz_member.specs.Values.{LacksValue}
use Rattle.nz_member.specs.Replies.{LacksNumber, LacksValueAt}
use Rattle.nz_blocks.specs.Outcomes.{at_level}
use Rattle.nz_frame.specs.Constraining.{AreGivenCongruences, AreAllConstraints}
use Rattle.nz_solve.specs.Replies.{IsWhere}
use Rattle.nz_solve.specs.Parts.{AreElementLists, LacksReply}
use Rattle.nz_solve.proofs.AskedLemmas.{level_there}
use Rattle.nz_solve.proofs.RangeLemmas.{irreducible_named}

-- ---- the forms of the constraints
equations_named : (w : ℕ) (G : List Vector) (columns : List ℕ) (fs : List Vector) → Each (IsOtherColumn w G) columns → AllZip (IsEquationAt w G) columns fs → Each (IsEquation w G) fs
equations_named w G [] [] o z = tt
equations_named w G [] (f ∷ fs) o z = absurd z
equations_named w G (c ∷ columns) [] o z = absurd z
equations_named w G (c ∷ columns) (f ∷ fs) o z = ((c, o.0, z.0), equations_named w G columns fs o.1 z.1)

equation_of_list : (s : System) (equations : List Vector) (f : Vector) → AreEquationsOf s equations → Contains equations f → IsEquationOf s f
equation_of_list s equations f a c = elim (Contains-append_cases s.eq a.of_gens f (subst (λ (fs : List Vector). Contains fs f) a.whole c)) [
  | inl own ↦ own_equation own
  | inr k ↦ generated s.gens refl a.are_of_gens k
]
  where
    generated : (G : Option (List Vector)) → s.gens ≡ G → AreGenEquations s.width G a.of_gens → Contains a.of_gens f → IsEquationOf s f
    generated None e g k = absurd (contains_none f (subst (λ (fs : List Vector). Contains fs f) g k))
    generated (Some G) e g k = generated_equation e (Each-contains (IsEquation s.width G) a.of_gens f (equations_named s.width G g.columns a.of_gens g.others.only g.each) k)

above_each : (P : Vector → Type 0) {cs : List Coordinate} {gs : List Congruence} → AreAboveOne cs gs → Each (λ (c : Coordinate). P c.form) cs → Each (λ (g : Congruence). P g.form) gs
above_each P none h = tt
above_each P (pass e r) h = above_each P r h.1
above_each P (keep l r) h = (h.0, above_each P r h.1)

given_named : (s : System) → IsSystem s → (lat : Option (List Vector)) → s.lat ≡ lat → (gs : List Congruence) → AreGivenCongruences s.width lat gs → Each (λ (g : Congruence). IsAmbientForm s g.form) gs
given_named s is None e gs a = subst (Each (λ (g : Congruence). IsAmbientForm s g.form)) (sym a) tt
given_named s is (Some lat) e gs a =
    let named = subst (λ (o : Option (List Vector)). IfSome o (λ vs. (s.gens ≡ Some vs) × (s.level ≡ false))) e is.lat_is_gens in
    let wide : Each (HasWidth s.width) lat = subst (λ (o : Option (List Vector)). IfSome o (Each (HasWidth s.width))) named.0 is.gens_width in
    let free = (generates s.width lat a.base wide a.set_apart).independent in
    above_each (IsAmbientForm s) a.congruences.above_one
    (zip_to_right (IsDualCoordinate s.width a.base) (λ (c : Coordinate). IsAmbientForm s c.form) a.base a.congruences.coordinates
    (λ v c d. of_set_apart e a.set_apart (record { vectors = a.base; of_list = Each-from_contains (Contains a.base) a.base (λ v c. c); independent = free; kind = inl (v, d.form) })) a.congruences.dual)

module _ (s : System) (is : IsSystem s) (cs : List Constraint) (a : AreAllConstraints s cs) where
  of_zero : (c : Constraint) → Contains (map Zero a.constraints.equations) c → IsAmbientForm s (form_of c)
  of_zero c k = let i = image_of Zero a.constraints.equations c k in subst (λ (d : Constraint). IsAmbientForm s (form_of d)) i.same (equation (equation_of_list s a.constraints.equations i.source a.constraints.are_equations i.has))

  of_own : (c : Constraint) → Contains (map constraint_of s.cg) c → IsAmbientForm s (form_of c)
  of_own c k = let i = image_of constraint_of s.cg c k in subst (λ (d : Constraint). IsAmbientForm s (form_of d)) i.same (congruence i.has)

  of_row : (c : Constraint) → Contains (map NotNegative a.constraints.rows) c → IsAmbientForm s (form_of c)
  of_row c k = let i = image_of NotNegative a.constraints.rows c k in subst (λ (d : Constraint). IsAmbientForm s (form_of d)) i.same (row (row_of_list s a.constraints.rows i.source a.constraints.are_rows i.has))

  of_lattice : (c : Constraint) → Contains (map constraint_of a.of_group) c → IsAmbientForm s (form_of c)
  of_lattice c k = let i = image_of constraint_of a.of_group c k in subst (λ (d : Constraint). IsAmbientForm s (form_of d)) i.same (Each-contains (λ (g : Congruence). IsAmbientForm s g.form) a.of_group i.source (given_named s is s.lat refl a.of_group a.are_of_group) i.has)

  form_named : (c : Constraint) → Contains cs c → IsAmbientForm s (form_of c)
  form_named c k =
      let Z = map Zero a.constraints.equations in
      let C = map constraint_of s.cg in
      let N = map NotNegative a.constraints.rows in
      elim (Contains-append_cases ((Z ++ C) ++ N) (map constraint_of a.of_group) c (subst (λ (ds : List Constraint). Contains ds c) a.constraints.whole k)) [
        | inl x ↦ elim (Contains-append_cases (Z ++ C) N c x) [
          | inl y ↦ elim (Contains-append_cases Z C c y) [
            | inl z ↦ of_zero c z
            | inr z ↦ of_own c z
          ]
          | inr y ↦ of_row c y
        ]
        | inr x ↦ of_lattice c x
      ]

  -- ---- the vectors
  value_above : (half : ℤ) (fits : ℤ → Type 0) → HasRoom half fits → (x : Vector) → IsAmbientVector s x → LacksValue fits cs x → HasOwnAbove s half
  value_above half fits room x named k = of_ambient (pool_pair half (IsAmbientVector s) (IsAmbientForm s) (form_of k.constraint) x (form_named k.constraint k.listed) named (value_cause half fits room (form_of k.constraint) x k.lacks))

  listed_above : (half : ℤ) (fits : ℤ → Type 0) → HasRoom half fits → (xs : List Vector) → Each (IsAmbientVector s) xs → LacksValueAt fits cs xs → HasOwnAbove s half
  listed_above half fits room xs named k = value_above half fits room k.vector (Each-contains (IsAmbientVector s) xs k.vector named k.listed) k.lacks

  modules_above : (half : ℤ) (fits : ℤ → Type 0) → HasRoom half fits → IsPositive (IsMember s) → (modules : Option (List Vector)) (level : Bool) → s.level ≡ level → IsWhere level (AreModuleGenerators s) modules → MatchOption modules ⊥ (LacksValueAt fits cs) → HasOwnAbove s half
  modules_above half fits room p None level e m k = absurd k
  modules_above half fits room p (Some xs) true e m k = listed_above half fits room xs (irreducible_named s p xs (each_map (IsModuleGenerator (IsMember s)) (IsIrreducible (IsMember s)) xs (λ x g. ((module_irreducible s is e x).0 g).0) m.only)) k
  modules_above half fits room p (Some xs) false e m k = absurd (let f : Some xs ≡ None = m in cc)

  pub reply_above : (half : ℤ) (fits : ℤ → Type 0) → HasRoom half fits → IsPositive (IsMember s) → (hilbert : List Vector) (modules : Option (List Vector)) → AreElementLists s hilbert modules → (level : Bool) → s.level ≡ level → (xs : List Vector) → s.asked ≡ Some xs → LacksReply fits cs level hilbert modules xs → HasOwnAbove s half
  reply_above half fits room p hilbert modules l level e xs given k = by k.lacks
    where
      by : LacksNumber fits cs (at_level level k.vector) hilbert modules → HasOwnAbove s half
      by (inl x) = value_above half fits room (at_level level k.vector) (subst (IsAmbientVector s) (sym (level_there s level e k.vector)) (asked given k.listed)) x
      by (inr (inl x)) = listed_above half fits room hilbert (irreducible_named s p hilbert (each_map (IsHilbertElement s) (IsIrreducible (IsMember s)) hilbert (λ y h. h.irreducible) l.basis.only)) x
      by (inr (inr x)) = modules_above half fits room p modules s.level refl l.are_modules x
