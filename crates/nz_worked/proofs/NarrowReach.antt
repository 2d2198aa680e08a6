-- The reach of the narrow cone is not above 2^62 in either mode.
use Rattle.std.proofs.Common.{◌≡◌, inl, inr, ℕ, zero, suc, ◌<◌, ◌≤◌, ◌^◌, List, [], ◌∷◌, ◌++◌, length, map, take, get_or, ℤ, pos, negsuc, ◌≤ℤ◌, ◌<ℤ◌, Some, None, false, unsigned_abs, Contains, subst, subst₂, ap, ap₂, sym, refl, ◌∙◌, arith}
use Rattle.std.proofs.lemmas.Int.{ints}
use Rattle.std.proofs.lemmas.List.{length-append}
use Rattle.std.specs.List.{AllByRecursion as Each, AllZip}
use Rattle.nz_spec.specs.Vectors.{Vector, dot, combination, HasWidth, IsZero, unit_vectors}
use Rattle.nz_spec.specs.Sums.{IsIndependent}
use Rattle.nz_spec.specs.Boxes.{IsListedOrBoxMember}
use Rattle.nz_spec.specs.Covers.{vectors_at}
use Rattle.nz_spec.specs.Forms.{IsNormalForm, IsEquation, IsSupportForm}
use Rattle.nz_spec.specs.Systems.{System, IsMember}
use Rattle.nz_spec.specs.Monoids.{IsExtreme, IsIrreducible}
use Rattle.nz_spec.specs.Constraints.{AreEquationsOf, AreRowsOf}
use Rattle.nz_spec.specs.Stages.{IsInStage, IsFreshRow, Separates, none, fresh, other}
use Rattle.nz_spec.proofs.ListLaws.{contains_here, contains_there, contains_none, Each-contains, Each-weaker, IsListOf-unique, IsLexBefore-asymmetric}
use Rattle.nz_spec.proofs.IntLaws.{nonneg_of_mul}
use Rattle.nz_spec.proofs.VectorLaws.{dot-scaled}
use Rattle.nz_spec.proofs.Examples.{two}
use Rattle.nz_linear.specs.Cones.{IsInRows}
use Rattle.nz_linear.specs.Coordinates.{in_coordinates}
use Rattle.nz_sweep.specs.Bases.{Base}
use Rattle.nz_sweep.specs.Duals.{Coordinate, unit_coordinate}
use Rattle.nz_sweep.specs.Numbers.{entry_of, form_in, divisor_in}
use Rattle.nz_measures.specs.Sweeps as sweeps
use Rattle.nz_measures.specs.Sweeps.{Sweeps, IsMidway, whole_base, IsBaseInteger, IsSwept, IsFirstSweepInteger}
use Rattle.nz_measures.specs.Faces as faces
use Rattle.nz_measures.specs.Faces.{VanishesThere, FaceMove, IsFaceSwept, IsFaceInteger, IsFaceMeasure}
use Rattle.nz_measures.specs.Pools as pools
use Rattle.nz_measures.specs.Pools.{IsPoolAbove, IsAmbientVector, IsAmbientForm, IsFrame, IsRowVector, IsRowForm, IsSecondFrame, IsSecondVector, IsSecondForm}
use Rattle.nz_measures.specs.Stages as stages
use Rattle.nz_measures.specs.Stages.{AreFirstRays, IsLater, IsStageVector}
use Rattle.nz_measures.specs.Reaches as reaches
use Rattle.nz_measures.specs.Reaches.{HasOwnAbove, HasPrimalAbove, HasDualAbove, IsVectorInStages, IsFormInStages, IsInFrame, IsPrimalReachAbove, IsDualReachAbove}
use Rattle.nz_measures.proofs.Measuring.{entry_at_most}
use Rattle.nz_measures.proofs.BoxesOfTwo.{either}
use Rattle.nz_worked.proofs.Reaching.{lower, upper, narrow, lower_form, upper_form, narrow_no_other}
use Rattle.nz_worked.proofs.PlaneForms.{normal_bounded}
use Rattle.nz_worked.proofs.NarrowCone.{IsSide, side_of, listed_side, IsNarrow, lower_member, upper_member, irreducible_side, at_lower, at_upper, box_zero, narrow_rows, narrow_support, narrow_equations}
use Rattle.nz_worked.proofs.NarrowSums.{IsNear, IsFar, IsSteep, far_of_near, near_side, floor_far, bounded_measure, bounded_pair, pool_within}

-- what the file means
abbrev pub narrow_system : System
narrow_system = record { width = 2; level = false; eq = []; cg = []; ge = []; gens = Some narrow; lat = None; grading = None; asked = None }

abbrev axes : List Vector
axes = unit_vectors 2

near_axis : (x : Vector) → Contains axes x → IsNear x
near_axis x c = elim (either (pos 1 ∷ pos 0 ∷ []) (pos 0 ∷ pos 1 ∷ []) x c) [
  | inl e ↦ record { front = pos 1; back = pos 0; same = sym e; front_most = omega arith; back_most = omega arith }
  | inr e ↦ record { front = pos 0; back = pos 1; same = sym e; front_most = omega arith; back_most = omega arith }
]

steep_axis : (x : Vector) → Contains axes x → IsSteep x
steep_axis x c = elim (either (pos 1 ∷ pos 0 ∷ []) (pos 0 ∷ pos 1 ∷ []) x c) [
  | inl e ↦ record { front = pos 1; back = pos 0; same = sym e; front_most = omega arith; back_most = omega arith }
  | inr e ↦ record { front = pos 0; back = pos 1; same = sym e; front_most = omega arith; back_most = omega arith }
]

steep_row : (f : Vector) → Contains narrow_rows f → IsSteep f
steep_row f c = elim (either upper_form lower_form f c) [
  | inl e ↦ record { front = negsuc 0; back = pos 1000000007; same = sym e; front_most = omega arith; back_most = omega arith }
  | inr e ↦ record { front = pos 1; back = negsuc 1000000005; same = sym e; front_most = omega arith; back_most = omega arith }
]

near_narrow : Each IsNear narrow
near_narrow = (near_side lower (inl refl), (near_side upper (inr refl), tt))

steep_rows : Each IsSteep narrow_rows
steep_rows = (steep_row upper_form (0, omega arith, refl), (steep_row lower_form (1, omega arith, refl), tt))

-- the normal forms of vectors of the two are steep, and those of rows are near
steep_normal : (G : List Vector) (f : Vector) → Each IsSide G → IsNormalForm 2 G f → IsSteep f
steep_normal G f s n = normal_bounded 1000000007 1 (omega arith) (omega arith) G f (Each-weaker IsSide IsNear near_side G s) n

-- ---- the whole base
coordinate_form : (c : Coordinate) → Contains (map unit_coordinate axes) c → (IsSteep c.form) × (c.divisor ≡ pos 1)
coordinate_form c k = elim (either (unit_coordinate (pos 1 ∷ pos 0 ∷ [])) (unit_coordinate (pos 0 ∷ pos 1 ∷ [])) c k) [
  | inl e ↦ subst (λ (d : Coordinate). IsSteep d.form × (d.divisor ≡ pos 1)) e (steep_axis (pos 1 ∷ pos 0 ∷ []) (0, omega arith, refl), refl)
  | inr e ↦ subst (λ (d : Coordinate). IsSteep d.form × (d.divisor ≡ pos 1)) e (steep_axis (pos 0 ∷ pos 1 ∷ []) (1, omega arith, refl), refl)
]

base_small : (n : ℤ) → IsBaseInteger (whole_base 2) n → unsigned_abs n ≤ 1000000008
base_small n (inl (entry_of {v = v} a b)) = let l = entry_at_most v n b in let m = bounded_measure 1000000007 1 v (near_axis v a) in omega (arith, l, m)
base_small n (inr (form_in {c = c} a b)) = let l = entry_at_most c.form n b in let m = bounded_measure 1 1000000007 c.form (coordinate_form c a).0 in omega (arith, l, m)
base_small n (inr (divisor_in {c = c} a)) = let e = ap unsigned_abs (coordinate_form c a).1 in omega (arith, e)

-- ---- no cuts
sweeps_none : {Cut : Type 0} (Move : Cut → Base → Base → Type 0) (cuts : List Cut) (b c : Base) → cuts ≡ [] → Sweeps Move cuts b c → c ≡ b
sweeps_none Move cuts b c e sweeps.none = refl
sweeps_none Move cuts b c e (sweeps.onward m s) = absurd cc

not_none : {A : Type 0} (xs ys : List A) (y : A) → [] ≡ xs ++ y ∷ ys → ⊥
not_none [] ys y e = cc
not_none (x ∷ xs) ys y e = cc

no_equations : (eqs : List Vector) → AreEquationsOf narrow_system eqs → eqs ≡ []
no_equations eqs a = a.whole ∙ narrow_equations a.of_gens a.are_of_gens

swept_whole : (b : Base) → IsSwept narrow_system b → b ≡ whole_base 2
swept_whole b s =
    let m = s.after_equations in
    let e = sweeps_none _ m.equations m.first s.middle (no_equations m.equations m.are_equations) m.sweeps in
    sweeps_none _ [] s.middle b refl s.sweeps ∙ e ∙ m.begins

first_integer : (n : ℤ) → IsFirstSweepInteger narrow_system n → unsigned_abs n ≤ 1000000008
first_integer n (sweeps.of_group g k) = absurd cc
first_integer n (sweeps.of_first base e k) = base_small n (subst (λ (b : Base). IsBaseInteger b n) e k)
first_integer n (sweeps.of_equation {equations = eqs} base a e m k) = absurd (not_none m.earlier m.later _ (sym (no_equations eqs a) ∙ m.whole))
first_integer n (sweeps.of_congruence a m k) = absurd (not_none m.earlier m.later _ m.whole)
first_integer n (sweeps.of_end {b = b} s k) = base_small n (subst (λ (b : Base). IsBaseInteger b n) (swept_whole b s) k)

-- ---- the coordinates of the file
members : IsNarrow (IsMember narrow_system)
members = record {
  into = λ a b s t. record {
    width = refl;
    equations = tt;
    congruences = tt;
    inequalities = tt;
    generated = record { multiple = pos 1; factors = dot lower_form (a ∷ b ∷ []) ∷ dot upper_form (a ∷ b ∷ []) ∷ []; positive = omega (arith, ints); one_each = refl; each = (s, (t, tt)); same = ap₂ (λ (m n : ℤ). m ∷ n ∷ []) (omega (arith, ints)) (omega (arith, ints)) };
    in_group = tt;
  };
  wide = λ x m. m.width;
  low = λ x m.
      let i = m.generated in
      let t = two i.factors i.one_each in
      let g = subst (λ (fs : List ℤ). Each (λ c. pos 0 ≤ℤ c) fs) t.2 i.each in
      nonneg_of_mul i.multiple (dot lower_form x) i.positive (subst (λ (c : ℤ). pos 0 ≤ℤ c) (sym (at_lower t.0 t.1) ∙ ap (λ (fs : List ℤ). dot lower_form (combination 2 fs narrow)) (sym t.2) ∙ ap (dot lower_form) i.same ∙ dot-scaled lower_form i.multiple x) g.0);
  high = λ x m.
      let i = m.generated in
      let t = two i.factors i.one_each in
      let g = subst (λ (fs : List ℤ). Each (λ c. pos 0 ≤ℤ c) fs) t.2 i.each in
      nonneg_of_mul i.multiple (dot upper_form x) i.positive (subst (λ (c : ℤ). pos 0 ≤ℤ c) (sym (at_upper t.0 t.1) ∙ ap (λ (fs : List ℤ). dot upper_form (combination 2 fs narrow)) (sym t.2) ∙ ap (dot upper_form) i.same ∙ dot-scaled upper_form i.multiple x) g.1.0);
}

member_side : (x : Vector) → IsIrreducible (IsMember narrow_system) x → IsSide x
member_side x i = irreducible_side (IsMember narrow_system) members x i

given_narrow : (P : List Vector → Type 0) (G : List Vector) → Some narrow ≡ Some G → P G → P narrow
given_narrow P G e p = subst P (same e) p
  where
    same : Some narrow ≡ Some G → G ≡ narrow
    same e = cc

ambient_vector : (x : Vector) → IsAmbientVector narrow_system x → IsNear x
ambient_vector x (pools.unit c) = near_axis x c
ambient_vector x (pools.generator {G = G} g c) = near_side x (side_of x (given_narrow (λ (G : List Vector). Contains G x) G g c))
ambient_vector x (pools.of_group g c) = absurd cc
ambient_vector x (pools.set_apart g a c) = absurd cc
ambient_vector x (pools.of_base {b = b} s c) = near_axis x (subst (λ (b : Base). Contains b.vectors x) (swept_whole b s) c)
ambient_vector x (pools.extreme p e) = near_side x (member_side x e.irreducible)
ambient_vector x (pools.irreducible p i) = near_side x (member_side x i)
ambient_vector x (pools.asked g c) = absurd cc

no_equation : (f : Vector) → IsEquation 2 narrow f → ⊥
no_equation f (c, o, q) = narrow_no_other c o

ambient_form : (f : Vector) → IsAmbientForm narrow_system f → IsSteep f
ambient_form f (pools.equation (pools.own_equation c)) = absurd (contains_none f c)
ambient_form f (pools.equation (pools.generated_equation {G = G} g e)) = absurd (no_equation f (given_narrow (λ (G : List Vector). IsEquation 2 G f) G g e))
ambient_form f (pools.congruence {c = c} k) = absurd (contains_none c k)
ambient_form f (pools.row (pools.own_row c)) = absurd (contains_none f c)
ambient_form f (pools.row (pools.support_row {G = G} g e)) = steep_row f (narrow_support.each f (given_narrow (λ (G : List Vector). IsSupportForm 2 G f) G g e))
ambient_form f (pools.grading g) = absurd cc
ambient_form f (pools.of_generators {G = G} g n) = steep_normal narrow f (inl refl, (inr refl, tt)) (given_narrow (λ (G : List Vector). IsNormalForm 2 G f) G g n)
ambient_form f (pools.of_set_apart g a n) = absurd cc
ambient_form f (pools.of_extreme {X = X} p a n) = steep_normal X f (Each-weaker (IsExtreme (IsMember narrow_system)) IsSide (λ x e. member_side x e.irreducible) X a.only) n
ambient_form f (pools.end_form {b = b} {c = c} s k) = (coordinate_form c (subst (λ (b : Base). Contains b.coordinates c) (swept_whole b s) k)).0

no_own : HasOwnAbove narrow_system (pos (2 ^ 62)) → ⊥
no_own (reaches.of_sweep k) = let l = first_integer k.number k.is_number in let m = k.large in omega (arith, ints, l, m)
no_own (reaches.of_modulus {c = c} k l) = contains_none c k
no_own (reaches.of_ambient k) = pool_within (IsAmbientVector narrow_system) (IsAmbientForm narrow_system) (λ x v. far_of_near x (ambient_vector x v)) ambient_form k

-- ---- in coordinates
abbrev Cone : Vector → Type 0
Cone = IsInRows 2 narrow_rows

cone_members : IsNarrow Cone
cone_members = record {
  into = λ a b s t. (refl, (t, (s, tt)));
  wide = λ x m. m.0;
  low = λ x m. m.1.1.0;
  high = λ x m. m.1.0;
}

cone_side : (x : Vector) → IsIrreducible Cone x → IsSide x
cone_side x i = irreducible_side Cone cone_members x i

no_vanishing : (h : Vector) → Contains narrow_rows h → ¬ VanishesThere Cone h
no_vanishing h c v = elim (either upper_form lower_form h c) [
  | inl e ↦ (let z : dot upper_form upper ≡ pos 0 = ap (λ (f : Vector). dot f upper) e ∙ v upper (upper_member Cone cone_members) in omega (arith, ints, z))
  | inr e ↦ (let z : dot lower_form lower ≡ pos 0 = ap (λ (f : Vector). dot f lower) e ∙ v lower (lower_member Cone cone_members) in omega (arith, ints, z))
]

stays : (rows : List Vector) (b c : Base) → Each (Contains narrow_rows) rows → Sweeps (FaceMove Cone) rows b c → c ≡ b
stays rows b c u sweeps.none = refl
stays rows b c u (sweeps.onward {cut = h} (inl m) s) = absurd (no_vanishing h u.0 m.0)
stays rows b c u (sweeps.onward {cut = h} {c = d} (inr m) s) = stays _ d c u.1 s ∙ m.1

face_whole : (b : Base) → IsFaceSwept 2 narrow_rows b → b ≡ whole_base 2
face_whole b s = stays narrow_rows (whole_base 2) b ((0, omega arith, refl), ((1, omega arith, refl), tt)) s

in_middle : (xs ys zs : List Vector) (y : Vector) → zs ≡ xs ++ y ∷ ys → Contains zs y
in_middle xs ys zs y e = subst (λ (us : List Vector). Contains us y) (sym e) (inside xs)
  where
    inside : (us : List Vector) → Contains (us ++ y ∷ ys) y
    inside [] = contains_here y ys
    inside (u ∷ us) = contains_there u y (us ++ y ∷ ys) (inside us)

face_integer : (n : ℤ) → IsFaceInteger 2 narrow_rows n → unsigned_abs n ≤ 1000000008
face_integer n (faces.of_first k) = base_small n k
face_integer n (faces.of_row {h = h} m v k) = absurd (no_vanishing h (in_middle m.earlier m.later narrow_rows h m.whole) v)
face_integer n (faces.of_end {b = b} s k) = base_small n (subst (λ (b : Base). IsBaseInteger b n) (face_whole b s) k)

row_vector : (x : Vector) → IsRowVector 2 narrow_rows x → IsFar x
row_vector x (pools.normal n) = far_of_near x (normal_bounded 1 1000000007 (omega arith) (omega arith) narrow_rows x steep_rows n)
row_vector x (pools.generator_there p e) = far_of_near x (near_side x (cone_side x e.irreducible))
row_vector x (pools.irreducible_there p i) = far_of_near x (near_side x (cone_side x i))

row_form : (f : Vector) → IsRowForm narrow_rows axes f → IsSteep f
row_form f (inl c) = steep_row f c
row_form f (inr c) = steep_axis f c

face_coordinate : (b : Base) (c : Coordinate) → IsFaceSwept 2 narrow_rows b → Contains b.coordinates c → IsSteep c.form
face_coordinate b c s k = (coordinate_form c (subst (λ (b : Base). Contains b.coordinates c) (face_whole b s) k)).0

face_measure : (m : ℕ) → IsFaceMeasure 2 narrow_rows axes m → m ≤ 2000000028000000098
face_measure m (faces.of_form {b = b} {c = c} p s k) = let l = bounded_measure 1 1000000007 c.form (face_coordinate b c s k) in omega (arith, l)
face_measure m (faces.at_extreme {b = b} {c = c} {x = x} p s k e) = bounded_pair c.form x (face_coordinate b c s k) (far_of_near x (near_side x (cone_side x e.irreducible)))
face_measure m (faces.at_end {b = b} {f = f} {x = x} p s i k) = bounded_pair f x (row_form f i) (far_of_near x (near_axis x (subst (λ (b : Base). Contains b.vectors x) (face_whole b s) k)))

sides_at : (X : List Vector) (places : List ℕ) → Each IsSide X → Each (λ p. p < length X) places → Each IsSide (vectors_at X places)
sides_at X [] u w = tt
sides_at X (p ∷ places) u w = (at X p u w.0, sides_at X places u w.1)
  where
    at : (X : List Vector) (p : ℕ) → Each IsSide X → p < length X → IsSide (get_or X p [])
    at [] p u l = absurd (omega (arith, l))
    at (x ∷ X) zero u l = u.0
    at (x ∷ X) (suc p) u l = at X p u.1 (omega (arith, l))

far_zero : (x : Vector) → x ≡ pos 0 ∷ pos 0 ∷ [] → IsFar x
far_zero x e = record { front = pos 0; back = pos 0; same = e; front_most = omega arith; back_most = omega arith }

held_far : (Member : Vector → Type 0) (X : List Vector) (x : Vector) → ((y : Vector) → Member y → HasWidth 2 y) → Each IsSide X → IsListedOrBoxMember 2 Member X x → IsFar x
held_far Member X x l u (inl c) = far_of_near x (near_side x (Each-contains IsSide X x u c))
held_far Member X x l u (inr h) = far_zero x (box_zero h.vectors x (l x h.member) (Each-weaker (Contains X) (Contains narrow) (λ v c. listed_side v (Each-contains IsSide X v u c)) h.vectors h.of_list) h.independent h.in_box)

no_second : (X : List Vector) → IsSecondFrame 2 narrow_rows axes (whole_base 2) X → IsPoolAbove (pos (2 ^ 62)) (IsSecondVector narrow_rows (whole_base 2) X) (IsSecondForm 2 narrow_rows axes (whole_base 2) X) → ⊥
no_second X s k = pool_within (IsSecondVector narrow_rows (whole_base 2) X) (IsSecondForm 2 narrow_rows axes (whole_base 2) X) vector form k
  where
    sides : Each IsSide X
    sides = Each-weaker (IsExtreme Cone) IsSide (λ x e. cone_side x e.irreducible) X s.extreme.only

    vector : (x : Vector) → IsSecondVector narrow_rows (whole_base 2) X x → IsFar x
    vector x (pools.unit_vector c) = far_of_near x (near_axis x c)
    vector x (pools.held h) = held_far Cone X x (λ y m. m.0) sides h
    vector x (pools.floor_sum {places = places} sim f) = floor_far (vectors_at X places) x (sides_at X places sides sim.within) sim.independent f

    form : (f : Vector) → IsSecondForm 2 narrow_rows axes (whole_base 2) X f → IsSteep f
    form f (pools.normal_form n) = steep_normal X f sides n
    form f (pools.of_row c) = steep_row f c
    form f (pools.of_order c) = steep_axis f c
    form f (pools.of_unit c) = steep_axis f c

no_primal : HasPrimalAbove (pos (2 ^ 62)) 2 narrow_rows axes → ⊥
no_primal (reaches.primal_face k) = let l = face_integer k.number k.is_number in let m = k.large in omega (arith, ints, l, m)
no_primal (reaches.primal_measure {m = m} k l) = let n = face_measure m k in omega (arith, ints, l, n)
no_primal (reaches.primal_pool k) = pool_within (IsRowVector 2 narrow_rows) (IsRowForm narrow_rows axes) row_vector row_form k
no_primal (reaches.primal_second {b = b} {X = X} s k) =
    subst (λ (b : Base). IsSecondFrame 2 narrow_rows axes b X → IsPoolAbove (pos (2 ^ 62)) (IsSecondVector narrow_rows b X) (IsSecondForm 2 narrow_rows axes b X) → ⊥) (sym (face_whole b s.swept)) (no_second X) s k

-- ---- the frame
own_rows : (own : List Vector) → AreRowsOf narrow_system own → own ≡ narrow_rows
own_rows own a = a.whole ∙ IsListOf-unique _ IsLexBefore-asymmetric _ a.of_gens narrow_rows a.are_of_gens narrow_support

rows_are : (b : Base) (rows order : List Vector) → IsFrame narrow_system b rows order → rows ≡ narrow_rows
rows_are b rows order f = f.rows_there ∙ ap₂ (λ (vs own : List Vector). map (λ h. in_coordinates vs h) own) (ap (λ (b : Base). b.vectors) (swept_whole b f.swept)) (own_rows f.own f.are_rows)

order_is : (b : Base) (rows order : List Vector) → IsFrame narrow_system b rows order → order ≡ axes
order_is b rows order f = f.order_there ∙ ap (λ (vs : List Vector). map (λ h. in_coordinates vs h) (unit_vectors 2)) (ap (λ (b : Base). b.vectors) (swept_whole b f.swept))

in_rows : (Above : ℕ → (rows order : List Vector) → Type 0) → IsInFrame Above narrow_system → Above 2 narrow_rows axes
in_rows Above k =
    let b = ap (λ (b : Base). length b.vectors) (swept_whole k.base k.frame.swept) in
    subst (λ (n : ℕ). Above n narrow_rows axes) b (subst₂ (Above (length k.base.vectors)) (rows_are k.base k.rows k.order k.frame) (order_is k.base k.rows k.order k.frame) k.above)

pub narrow_primal_within : ¬ IsPrimalReachAbove narrow_system (pos (2 ^ 62))
narrow_primal_within (inl k) = no_own k
narrow_primal_within (inr k) = no_primal (in_rows (HasPrimalAbove (pos (2 ^ 62))) k)

-- ---- dual mode
upper_is_fresh : IsFreshRow (HasWidth 2) [] upper_form
upper_is_fresh = record { vector = upper; in_lattice = refl; zero_at = tt; nonzero_at = λ e. omega (arith, ints, e) }

lower_is_fresh : IsFreshRow (HasWidth 2) (upper_form ∷ []) lower_form
lower_is_fresh = record { vector = lower; in_lattice = refl; zero_at = (refl, tt); nonzero_at = λ e. omega (arith, ints, e) }

rows_separate : (fs os : List Vector) → Separates (IsFreshRow (HasWidth 2)) [] (upper_form ∷ lower_form ∷ []) fs os → fs ++ os ≡ upper_form ∷ lower_form ∷ []
rows_separate fs os (fresh n (fresh m none)) = refl
rows_separate fs os (fresh n (other m s)) = absurd (m lower_is_fresh)
rows_separate fs os (other n s) = absurd (n upper_is_fresh)

rows_ordered : (ordered F : List Vector) → AreFirstRays (HasWidth 2) 2 narrow_rows ordered F → ordered ≡ narrow_rows
rows_ordered ordered F a = a.in_order.whole ∙ rows_separate a.in_order.first a.in_order.others a.in_order.separates

abbrev FirstStage : Vector → Type 0
FirstStage = IsInStage (HasWidth 2) narrow_rows

stage_members : IsNarrow FirstStage
stage_members = record {
  into = λ a b s t. record { in_lattice = refl; at_least = (t, (s, tt)) };
  wide = λ x m. m.in_lattice;
  low = λ x m. m.at_least.1.0;
  high = λ x m. m.at_least.0;
}

stage_side : (x : Vector) → IsIrreducible FirstStage x → IsSide x
stage_side x i = irreducible_side FirstStage stage_members x i

at_upper_form : (x : Vector) → IsSide x → pos 0 <ℤ dot upper_form x → x ≡ upper
at_upper_form x (inr e) l = e
at_upper_form x (inl e) l = let m : pos 0 <ℤ dot upper_form lower = subst (λ (y : Vector). pos 0 <ℤ dot upper_form y) e l in absurd (omega (arith, ints, m))

at_lower_form : (x : Vector) → IsSide x → pos 0 <ℤ dot lower_form x → x ≡ lower
at_lower_form x (inl e) l = e
at_lower_form x (inr e) l = let m : pos 0 <ℤ dot lower_form upper = subst (λ (y : Vector). pos 0 <ℤ dot lower_form y) e l in absurd (omega (arith, ints, m))

abbrev first_list : List Vector
first_list = upper ∷ lower ∷ []

stage_rays : (F : List Vector) → AllZip (λ h x. IsExtreme FirstStage x × (pos 0 <ℤ dot h x)) (upper_form ∷ lower_form ∷ []) F → F ≡ first_list
stage_rays [] z = absurd z
stage_rays (x ∷ []) z = absurd z.1
stage_rays (x ∷ y ∷ []) z = ap₂ (λ (a b : Vector). a ∷ b ∷ []) (at_upper_form x (stage_side x z.0.0.irreducible) z.0.1) (at_lower_form y (stage_side y z.1.0.0.irreducible) z.1.0.1)
stage_rays (x ∷ y ∷ t ∷ F) z = absurd z.1.1

first_rays : (ordered F : List Vector) → AreFirstRays (HasWidth 2) 2 narrow_rows ordered F → F ≡ first_list
first_rays ordered F a = stage_rays F (subst (λ (os : List Vector). AllZip (λ h x. IsExtreme (IsInStage (HasWidth 2) (take 2 os)) x × (pos 0 <ℤ dot h x)) (take 2 os) F) (rows_ordered ordered F a) a.rays)

first_free : IsIndependent 2 first_list
first_free cs l z = let t = two cs l in subst IsZero (sym t.2) (both t.0 t.1 (subst (λ (fs : List ℤ). IsZero (combination 2 fs first_list)) t.2 z))
  where
    both : (a b : ℤ) → IsZero (combination 2 (a ∷ b ∷ []) first_list) → IsZero (a ∷ b ∷ [])
    both a b z = let p = z.0 in let q = z.1.0 in (omega (arith, ints, p, q), (omega (arith, ints, p, q), tt))

first_sides : Each IsSide first_list
first_sides = (inr refl, (inl refl, tt))

no_later : (ordered earlier : List Vector) (last : Vector) → ordered ≡ upper_form ∷ lower_form ∷ [] → IsLater 2 ordered earlier last → ⊥
no_later ordered earlier last e l =
    let n = ap length (sym l.whole ∙ e) ∙ refl in
    let m = length-append earlier (last ∷ l.later) in
    let k = l.enough in
    omega (arith, n, m, k)

no_stages : IsPoolAbove (pos (2 ^ 62)) (IsVectorInStages 2 narrow_rows narrow_rows first_list) (IsFormInStages 2 narrow_rows axes first_list) → ⊥
no_stages k = pool_within (IsVectorInStages 2 narrow_rows narrow_rows first_list) (IsFormInStages 2 narrow_rows axes first_list) vector form k
  where
    stage : (x : Vector) → IsStageVector (HasWidth 2) 2 narrow_rows x → IsFar x
    stage x (stages.of_first i) = far_of_near x (near_side x (stage_side x i))
    stage x (stages.of_later {earlier = earlier} {last = last} l i) = absurd (no_later narrow_rows earlier last refl l)
    stage x (stages.of_reversed {earlier = earlier} {last = last} l i) = absurd (no_later narrow_rows earlier last refl l)
    stage x (stages.of_sum {earlier = earlier} {last = last} l i j) = absurd (no_later narrow_rows earlier last refl l)

    vector : (x : Vector) → IsVectorInStages 2 narrow_rows narrow_rows first_list x → IsFar x
    vector x (inl r) = row_vector x r
    vector x (inr (inl (stages.held_first h))) = held_far FirstStage first_list x (λ y m. m.in_lattice) first_sides h
    vector x (inr (inl (stages.first_sum f))) = floor_far first_list x first_sides first_free f
    vector x (inr (inr s)) = stage x s

    form : (f : Vector) → IsFormInStages 2 narrow_rows axes first_list f → IsSteep f
    form f (inl r) = row_form f r
    form f (inr n) = steep_normal first_list f first_sides n

no_dual : HasDualAbove (pos (2 ^ 62)) 2 narrow_rows axes → ⊥
no_dual (reaches.dual_face k) = let l = face_integer k.number k.is_number in let m = k.large in omega (arith, ints, l, m)
no_dual (reaches.dual_pool k) = pool_within (IsRowVector 2 narrow_rows) (IsRowForm narrow_rows axes) row_vector row_form k
no_dual (reaches.dual_stages {ordered = ordered} {F = F} p a k) =
    no_stages (subst₂ (λ (os G : List Vector). IsPoolAbove (pos (2 ^ 62)) (IsVectorInStages 2 narrow_rows os G) (IsFormInStages 2 narrow_rows axes G)) (rows_ordered ordered F a) (first_rays ordered F a) k)

pub narrow_dual_within : ¬ IsDualReachAbove narrow_system (pos (2 ^ 62))
narrow_dual_within (inl k) = no_own k
narrow_dual_within (inr k) = no_dual (in_rows (HasDualAbove (pos (2 ^ 62))) k)
