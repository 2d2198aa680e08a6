-- The list of all constraints of a system, as it is put together, and that it fits the vectors of the system.
use Rattle.std.proofs.Common.{◌≡◌, ℕ, List, [], ◌∷◌, ◌++◌, map, Option, Some, None, pos, ◌≤ℤ◌, refl, sym, ap, ◌∙◌, subst, arith, append-nil}
use Rattle.std.proofs.lemmas.Int.{ints}
use Rattle.std.specs.List.{AllByRecursion as Each, AllZip}
use Rattle.nz_spec.specs.Vectors.{Vector, HasWidth}
use Rattle.nz_spec.specs.Forms.{IsEquationAt, IsSupportForm}
use Rattle.nz_spec.specs.Systems.{Congruence, System, IsSystem, IsMember}
use Rattle.nz_spec.specs.Constraints.{Constraint, Zero, NotNegative, constraint_of, AreGenEquations, AreGenSupport, AreEquationsOf, AreRowsOf}
use Rattle.nz_linear.proofs.Lists.{each_map, each_map2, each_append, each_of_map, zip_to_right}
use Rattle.nz_member.specs.Values.{IsOfWidth}
use Rattle.nz_member.specs.Replies.{IsInMonoid}
use Rattle.nz_sweep.specs.Duals.{Coordinate}
use Rattle.nz_sweep.specs.Generating.{AreSetApart}
use Rattle.nz_sweep.specs.GroupConstraints.{IsDualCoordinate, AreAboveOne, none, pass, keep, AreGroupConstraints}
use Rattle.nz_frame.specs.Constraining.{AreGivenCongruences, AreAllConstraints, congruences_in}
use Rattle.nz_frame.proofs.GroupLaws.{members_meet_all}

-- ---- the list as it is put together
zeros_left_out : (fs : List Vector) (cs : List Constraint) → congruences_in (map Zero fs ++ cs) ≡ congruences_in cs
zeros_left_out [] cs = refl
zeros_left_out (f ∷ fs) cs = zeros_left_out fs cs

congruences_kept : (gs : List Congruence) → congruences_in (map constraint_of gs) ≡ map constraint_of gs
congruences_kept [] = refl
congruences_kept (g ∷ gs) = ap (λ cs. constraint_of g ∷ cs) (congruences_kept gs)

-- without a given lattice
pub put_together : (s : System) (equations rows : List Vector) → AreEquationsOf s equations → AreRowsOf s rows → s.lat ≡ None → AreAllConstraints s (map Zero equations ++ map constraint_of s.cg ++ map NotNegative rows)
put_together s equations rows e r n = record {
  of_group = [];
  are_of_group = subst (λ (o : Option (List Vector)). AreGivenCongruences s.width o []) (sym n) refl;
  constraints = record { equations = equations; rows = rows; are_equations = e; are_rows = r; no_group = λ k. refl; whole = sym (append-nil (map Zero equations ++ map constraint_of s.cg ++ map NotNegative rows)) };
}

-- with one: the congruences of the constraints of its base come last
pub put_together_with : (s : System) (equations rows lat base : List Vector) (of_base : List Constraint) → AreEquationsOf s equations → AreRowsOf s rows → s.lat ≡ Some lat → AreSetApart s.width 0 lat base → AreGroupConstraints s.width base of_base
    → AreAllConstraints s (map Zero equations ++ map constraint_of s.cg ++ map NotNegative rows ++ congruences_in of_base)
put_together_with s equations rows lat base of_base e r n t g =
    let last : congruences_in of_base ≡ map constraint_of g.congruences = ap congruences_in g.whole ∙ zeros_left_out g.equations (map constraint_of g.congruences) ∙ congruences_kept g.congruences in
    record {
      of_group = g.congruences;
      are_of_group = subst (λ (o : Option (List Vector)). AreGivenCongruences s.width o g.congruences) (sym n) (record { base = base; set_apart = t; congruences = g.are_congruences });
      constraints = record { equations = equations; rows = rows; are_equations = e; are_rows = r; no_group = λ k. absurd (given s.lat lat n k); whole = ap (λ (cs : List Constraint). map Zero equations ++ map constraint_of s.cg ++ map NotNegative rows ++ cs) last };
    }
  where
    given : (o : Option (List Vector)) (lat : List Vector) → o ≡ Some lat → o ≡ None → ⊥
    given o lat n k = let e : Some lat ≡ None = sym n ∙ k in cc

-- ---- forms of the width, and moduli of at least 1
gen_equations_wide : (w : ℕ) (gens : Option (List Vector)) (fs : List Vector) → AreGenEquations w gens fs → Each (HasWidth w) fs
gen_equations_wide w None fs e = subst (Each (HasWidth w)) (sym e) tt
gen_equations_wide w (Some gens) fs e = zip_to_right (IsEquationAt w gens) (HasWidth w) e.columns fs (λ c f k. k.width) e.each

gen_support_wide : (w : ℕ) (gens : Option (List Vector)) (fs : List Vector) → AreGenSupport w gens fs → Each (HasWidth w) fs
gen_support_wide w None fs e = subst (Each (HasWidth w)) (sym e) tt
gen_support_wide w (Some gens) fs e = each_map (IsSupportForm w gens) (HasWidth w) fs (λ f k. k.width) e.only

FitsGroup : ℕ → Congruence → Type 0
FitsGroup w g = HasWidth w g.form × (pos 1 ≤ℤ g.modulus)

above_fits : (w : ℕ) (vs us : List Vector) (cs : List Coordinate) (gs : List Congruence) → AllZip (IsDualCoordinate w vs) us cs → AreAboveOne cs gs → Each (FitsGroup w) gs
unfolding FitsGroup
above_fits w vs [] [] [] z none = tt
above_fits w vs [] [] (g ∷ gs) z t = elim t [ ]
above_fits w vs [] (c ∷ cs) gs z t = absurd z
above_fits w vs (u ∷ us) [] gs z t = absurd z
above_fits w vs (u ∷ us) (c ∷ cs) gs z (pass p t) = above_fits w vs us cs gs z.1 t
above_fits w vs (u ∷ us) (c ∷ cs) (g ∷ gs) z (keep p t) = ((z.0.form.width, (let l = p in omega (arith, ints, l))), above_fits w vs us cs gs z.1 t)

given_fits : (w : ℕ) (o : Option (List Vector)) (gs : List Congruence) → AreGivenCongruences w o gs → Each (FitsGroup w) gs
given_fits w None gs a = subst (Each (FitsGroup w)) (sym a) tt
given_fits w (Some lat) gs a = above_fits w a.base a.base a.congruences.coordinates gs a.congruences.dual a.congruences.above_one

pub all_of_width : (s : System) → IsSystem s → (cs : List Constraint) → AreAllConstraints s cs → Each (IsOfWidth s.width) cs
unfolding FitsGroup
all_of_width s is cs a =
    let c = a.constraints in
    let e = c.are_equations in
    let r = c.are_rows in
    let P : Constraint → Type 0 = IsOfWidth s.width in
    let equations : Each (HasWidth s.width) c.equations = subst (Each (HasWidth s.width)) (sym e.whole) (each_append (HasWidth s.width) s.eq e.of_gens is.eq_width (gen_equations_wide s.width s.gens e.of_gens e.are_of_gens)) in
    let rows : Each (HasWidth s.width) c.rows = subst (Each (HasWidth s.width)) (sym r.whole) (each_append (HasWidth s.width) s.ge r.of_gens is.ge_width (gen_support_wide s.width s.gens r.of_gens r.are_of_gens)) in
    let zeros = map Zero c.equations in
    let multiples = map constraint_of s.cg in
    let nonneg = map NotNegative c.rows in
    subst (Each P) (sym c.whole)
    (each_append P (zeros ++ multiples ++ nonneg) (map constraint_of a.of_group)
    (each_append P (zeros ++ multiples) nonneg
    (each_append P zeros multiples
    (each_of_map Zero P c.equations (each_map (HasWidth s.width) (λ f. P (Zero f)) c.equations (λ f l. record { width = l; modulus = tt }) equations))
    (each_of_map constraint_of P s.cg (each_map2 (λ (g : Congruence). HasWidth s.width g.form) (λ (g : Congruence). pos 1 ≤ℤ g.modulus) (λ g. P (constraint_of g)) s.cg (λ g l m. record { width = l; modulus = m }) is.cg_width is.moduli)))
    (each_of_map NotNegative P c.rows (each_map (HasWidth s.width) (λ f. P (NotNegative f)) c.rows (λ f l. record { width = l; modulus = tt }) rows)))
    (each_of_map constraint_of P a.of_group (each_map (FitsGroup s.width) (λ g. P (constraint_of g)) a.of_group (λ g h. record { width = h.0; modulus = h.1 }) (given_fits s.width s.lat a.of_group a.are_of_group))))

-- the elements of a list of members are what the constraints hold at
pub members_in_monoid : (s : System) → IsSystem s → (cs : List Constraint) → AreAllConstraints s cs → (xs : List Vector) → Each (IsMember s) xs → Each (IsInMonoid s.width cs) xs
members_in_monoid s is cs a xs h = each_map (IsMember s) (IsInMonoid s.width cs) xs (λ x m. record { width = m.width; met = members_meet_all s is cs a x m }) h
