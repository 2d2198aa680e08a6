-- Farkas for a list with its support forms and equations: they describe its cone, and each support form is needed.
use Rattle.std.proofs.Common.{◌↔◌, ◌≡◌, ℕ, List, [], ◌∷◌, ℤ, pos, negsuc, ◌+ℤ◌, ◌*ℤ◌, ◌≤ℤ◌, ◌<ℤ◌, sym, ap, ap₂, ◌∙◌, subst, arith}
use Rattle.std.proofs.lemmas.Int.{ints}
use Rattle.std.proofs.Math.IntN.{*ℤ-zero}
use Rattle.std.specs.List.{AllByRecursion as Each, AllZip, Contains}
use Rattle.nz_spec.specs.Vectors.{Vector, dot, plus, scaled, entry, HasWidth, IsNonzero, IsZero}
use Rattle.nz_spec.specs.Sums.{IsInCone}
use Rattle.nz_spec.specs.Forms.{AreEquations, IsSupportForm}
use Rattle.nz_spec.specs.Laws.{IsDescribedCone}
use Rattle.nz_spec.specs.Systems.{System, IsSystem, IsMember}
use Rattle.nz_spec.specs.Constraints.{AreEquationsOf, AreRowsOf}
use Rattle.nz_spec.specs.Stages.{IsInLattice, IsInStage}
use Rattle.nz_spec.proofs.StageLaws.{members_last_stage}
use Rattle.nz_spec.proofs.VectorLaws.{dot-scaled, dot-IsZero}
use Rattle.nz_spec.proofs.IntLaws.{mul-nonneg}
use Rattle.nz_spec.proofs.ListLaws.{Each-contains, Each-from_contains}
use Rattle.nz_spec.proofs.ConstraintLaws.{nonneg_on_cone, support_met, equations_met}
use Rattle.nz_spec.proofs.EquationLaws.{dot_comm, AreEquations-unique}
use Rattle.nz_spec.proofs.MemberLaws.{if_some_each}
use Rattle.nz_linear.specs.DualPairs.{Pair, divisor, HasWidths, IsDual, product, spread}
use Rattle.nz_linear.specs.Division.{IsPrimitiveOf}
use Rattle.nz_linear.specs.Cones.{Satisfies}
use Rattle.nz_linear.specs.Facets.{IsValidForm, facet_rows}
use Rattle.nz_linear.proofs.Ring.{sums}
use Rattle.nz_linear.proofs.Signs.{mul_is_nonneg}
use Rattle.nz_linear.proofs.Lists.{each_map, each_map2, each_right}
use Rattle.nz_linear.proofs.VectorLaws.{length-plus, length-scaled, dot-plus, scaled-dot}
use Rattle.nz_linear.proofs.Division.{primitive_of}
use Rattle.nz_linear.proofs.DualPairs.{dual_right, length-spread, vanishes_at_spread, values_at_spread, product_positive}
use Rattle.nz_linear.proofs.Farkas.{described, generated}
use Rattle.nz_linear.proofs.KeyColumns.{SomeEchelon, echelon, IsLeft, all_left, columns_are_other, equations_of_left}
use Rattle.nz_linear.proofs.Rank.{seen_vanish}
use Rattle.nz_linear.proofs.RayExistence.{extreme_rays_exist}
use Rattle.nz_linear.proofs.FacetRows.{facet_rows_width, facet_rows_pointed, valid_satisfies, rays_are_support}

-- ---- the equations exist
record Primitives (free : List Pair) : Type 0 where
  list : List Vector
  each : AllZip (λ (p : Pair) f. IsPrimitiveOf p.vector f) free list

primitives : (free : List Pair) → IsDual free → Primitives free
primitives [] d = record { list = []; each = tt }
primitives (p ∷ free) d =
    let t = primitives free d.2 in
    let n : IsNonzero p.vector = λ (z : IsZero p.vector). let e : divisor p ≡ pos 0 = dot-IsZero p.form p.vector z in let q = d.0 in omega (arith, sums) in
    let f = primitive_of p.vector n in
    record { list = f.y ∷ t.list; each = (f.is, t.each) }

-- a list of the equations of G
pub record SomeEquations (w : ℕ) (G : List Vector) : Type 0 where
  pub equations : List Vector
  pub are : AreEquations w G equations

pub equations_exist : (w : ℕ) (G : List Vector) → Each (HasWidth w) G → SomeEquations w G
equations_exist w G lG =
    let a = echelon w G lG in
    let p = primitives a.free (dual_right a.chosen a.free a.state.pair.dual) in
    record { equations = p.list; are = equations_of_left w G a.columns a.chosen a.free p.list lG a.state a.are_columns p.each }

-- where the equations are 0 so are the vectors that elimination leaves
left_zero : (x : Vector) (free : List Pair) (fs : List Vector) → AllZip (λ (p : Pair) f. IsPrimitiveOf p.vector f) free fs → Each (λ f. dot f x ≡ pos 0) fs → Each (λ (p : Pair). dot x p.vector ≡ pos 0) free
left_zero x [] [] z e = tt
left_zero x [] (f ∷ fs) z e = absurd z
left_zero x (p ∷ free) [] z e = absurd z
left_zero x (p ∷ free) (f ∷ fs) z e =
    (dot_comm x p.vector ∙ ap (λ v. dot v x) (sym z.0.same) ∙ scaled-dot z.0.factor f x ∙ ap (λ t. z.0.factor *ℤ t) e.0 ∙ *ℤ-zero z.0.factor, left_zero x free fs z.1 e.1)

-- ---- a form without its part along the equations
record Reduced (w : ℕ) (G : List Vector) (columns : List ℕ) (free : List Pair) (r : Vector) : Type 0 where
  form : Vector
  valid : IsValidForm w G form
  multiple : ℤ
  positive : pos 0 <ℤ multiple
  same : (x : Vector) → Each (λ (p : Pair). dot x p.vector ≡ pos 0) free → dot x form ≡ multiple *ℤ dot x r

zero_columns : (w : ℕ) (G : List Vector) (x : Vector) (columns : List ℕ) (free : List Pair) → HasWidth w x → AllZip (IsLeft w G) columns free → Each (λ (p : Pair). dot p.form x ≡ pos 0) free → Each (λ c. entry x c ≡ pos 0) columns
zero_columns w G x [] [] lx k v = tt
zero_columns w G x [] (p ∷ free) lx k v = absurd k
zero_columns w G x (c ∷ columns) [] lx k v = absurd k
zero_columns w G x (c ∷ columns) (p ∷ free) lx k v = (sym (k.0.column.unit x lx) ∙ v.0, zero_columns w G x columns free lx k.1 v.1)

reduced : (w : ℕ) (G : List Vector) (a : SomeEchelon w G) (r : Vector) → Each (HasWidth w) G → HasWidth w r → Satisfies G r → Reduced w G a.columns a.free r
reduced w G a r lG lr s =
    let free = a.free in
    let wide = each_right (HasWidths w) a.chosen free a.state.pair.widths in
    let dual = dual_right a.chosen free a.state.pair.dual in
    let D = product free in
    let pD = product_positive free dual in
    let S = spread w free r in
    let lS = length-spread w free r wide in
    let f = plus (scaled D r) (scaled (negsuc 0) S) in
    let lf : HasWidth w f = length-plus w (scaled D r) (scaled (negsuc 0) S) (length-scaled w D r lr) (length-scaled w (negsuc 0) S lS) in
    let value : (x : Vector) → dot x f ≡ D *ℤ dot x r +ℤ negsuc 0 *ℤ dot x S = λ x. dot-plus w x (scaled D r) (scaled (negsuc 0) S) (length-scaled w D r lr) (length-scaled w (negsuc 0) S lS) ∙ ap₂ ◌+ℤ◌ (dot-scaled x D r) (dot-scaled x (negsuc 0) S) in
    let same : (x : Vector) → Each (λ (p : Pair). dot x p.vector ≡ pos 0) free → dot x f ≡ D *ℤ dot x r = λ x z. value x ∙ ap (λ t. D *ℤ dot x r +ℤ negsuc 0 *ℤ t) (vanishes_at_spread w free x r wide z) ∙ omega (arith, ints) in
    let zero : Each (λ (p : Pair). dot p.form f ≡ pos 0) free = each_map (λ (p : Pair). dot p.form S ≡ D *ℤ dot p.form r) (λ (p : Pair). dot p.form f ≡ pos 0) free (λ p e. value p.form ∙ ap (λ t. D *ℤ dot p.form r +ℤ negsuc 0 *ℤ t) e ∙ omega (arith, ints)) (values_at_spread w free r wide dual) in
    let columns = zero_columns w G f a.columns free lf (all_left w G a.columns a.chosen free a.state a.are_columns) zero in
    let others = columns_are_other w G a.columns a.chosen free lG a.state a.are_columns in
    record {
      form = f;
      valid = record {
        width = lf;
        at_least = Each-from_contains (λ g. pos 0 ≤ℤ dot f g) G (λ g c.
            let h = Each-contains (λ u. pos 0 ≤ℤ dot u r) G g s c in
            let e = same g (seen_vanish w G a.chosen free g a.state c) in
            rw (dot_comm f g) (rw e (mul-nonneg D (dot g r) (omega (arith, sums)) h)));
        zero_at = λ j o. Each-contains (λ c. entry f c ≡ pos 0) a.columns j columns (others.each j o);
      };
      multiple = D;
      positive = pD;
      same = same;
    }

-- ---- the theorem
-- x is in the cone where all support forms are at least 0 and all equations are 0
described_back : (w : ℕ) (G support equations : List Vector) (x : Vector) → Each (HasWidth w) G → HasWidth w x → ((f : Vector) → IsSupportForm w G f → Contains support f) → AreEquations w G equations
    → Each (λ f. pos 0 ≤ℤ dot f x) support → Each (λ f. dot f x ≡ pos 0) equations → IsInCone w G x
described_back w G support equations x lG lx has eq s z =
    let a = echelon w G lG in
    let p = primitives a.free (dual_right a.chosen a.free a.state.pair.dual) in
    let others = columns_are_other w G a.columns a.chosen a.free lG a.state a.are_columns in
    let same = AreEquations-unique w G equations p.list lG eq (equations_of_left w G a.columns a.chosen a.free p.list lG a.state a.are_columns p.each) in
    let zero = left_zero x a.free p.list p.each (subst (λ (fs : List Vector). Each (λ f. dot f x ≡ pos 0) fs) same z) in
    let rows = facet_rows w a.columns G in
    let e = extreme_rays_exist w rows (facet_rows_width w a.columns G lG) (facet_rows_pointed w G a.columns others lG) in
    let are_support = rays_are_support w G a.columns others e.rays lG e.are in
    let at_rays : Each (λ f. pos 0 ≤ℤ dot x f) e.rays = each_map (IsSupportForm w G) (λ f. pos 0 ≤ℤ dot x f) e.rays (λ f k. rw (dot_comm x f) (Each-contains (λ h. pos 0 ≤ℤ dot h x) support f s (has f k))) are_support in
    let d = described w G lG in
    d.is.farkas x lx (each_map2 (HasWidth w) (Satisfies G) (λ r. pos 0 ≤ℤ dot r x) d.rays
    (λ r lr sr.
    let t = reduced w G a r lG lr sr in
    let i = generated w rows e.rays t.form e.are.description t.valid.width (valid_satisfies w G a.columns others t.form t.valid) in
    let v : pos 0 ≤ℤ dot x t.form = nonneg_on_cone x w e.rays t.form e.are.description.ray_widths at_rays i in
    rw (dot_comm r x) (mul_is_nonneg t.multiple (dot x r) t.positive (rw (← t.same x zero) v))) d.is.ray_widths d.is.sound)

-- the support forms and the equations of a list describe its cone
pub described_cone : (w : ℕ) (G : List Vector) → Each (HasWidth w) G → IsDescribedCone w G
described_cone w G lG support equations s e x lx = (
  (λ i. (support_met w G x support lG s.only i, equations_met w G x e.columns equations lG e.each i)),
  (λ h. described_back w G support equations x lG lx s.each e h.0 h.1),
)

-- ---- the members of a system
-- the members of a system are its last stage
pub members_are_last_stage : (s : System) (equations rows : List Vector) → IsSystem s → AreEquationsOf s equations → AreRowsOf s rows → (x : Vector) → IsMember s x ↔ IsInStage (IsInLattice s equations) rows x
members_are_last_stage s equations rows is e r = members_last_stage s equations rows e r (if_some_each s.gens (λ G. Each (HasWidth s.width) G) (IsDescribedCone s.width) (λ (G : List Vector) l. described_cone s.width G l) is.gens_width)
