-- The stages of a made file: its rows stand in their order with the last one dependent, so the first stage is that of three rows, and there is one later stage and one reversed one.
use Rattle.std.proofs.Common.{◌≡◌, inl, inr, ℕ, ◌≤◌, List, [], ◌∷◌, ◌++◌, length, take, ℤ, pos, negsuc, ◌+ℤ◌, ◌-ℤ◌, ◌*ℤ◌, ◌≤ℤ◌, ◌<ℤ◌, refl, sym, ap, ◌∙◌, subst, arith, length-append}
use Rattle.std.proofs.lemmas.Bool.{false≢true}
use Rattle.std.proofs.lemmas.Int.{ints}
use Rattle.std.proofs.Math.IntN.{*ℤ-zero}
use Rattle.std.specs.List.{AllByRecursion as Each, AllZip}
use Rattle.nz_spec.specs.Vectors.{Vector, dot}
use Rattle.nz_spec.specs.Sums.{IsInSpan, HasRank}
use Rattle.nz_spec.specs.Systems.{IsSystem, IsMember}
use Rattle.nz_spec.specs.Monoids.{IsIrreducible, IsExtreme}
use Rattle.nz_spec.specs.Stages.{IsInLattice, IsInStage, IsInReversed, IsFreshRow, Separates, IsIndependentFirst, none, fresh, other}
use Rattle.nz_spec.proofs.CoverExamples.{independent_of_three}
use Rattle.nz_linear.proofs.DescribedCone.{members_are_last_stage}
use Rattle.nz_linear.proofs.Ring.{sums, mul-one}
use Rattle.nz_order.proofs.SideLaws.{IsIrreducible-where}
use Rattle.nz_measures.specs.Stages.{AreFirstRays, IsLater}
use Rattle.nz_system.specs.Meaning.{system_of}
use Rattle.nz_make.specs.Squares.{made_file, point, IsPoint}
use Rattle.nz_make.proofs.Cones.{three, three_same}
use Rattle.nz_make.proofs.Points.{irreducible_of_point, point_of_irreducible}
use Rattle.nz_make.proofs.HeldSums.{IsFree}
use Rattle.nz_make.proofs.Fans.{IsInFan, IsFan, IsFanElement, back, fan_element, back_extreme, side_extreme, extreme_of_fan}
use Rattle.nz_make.proofs.SupportRows.{right_form, top_form, bottom_form, left_form, made_rows, rows_listed, no_equations}

-- ---- the lattice: all vectors of three entries

abbrev pub MadeLattice : ℕ → Vector → Type 0
MadeLattice n = IsInLattice (system_of (made_file n)) []

in_lattice : (n : ℕ) (a b c : ℤ) → MadeLattice n (a ∷ b ∷ c ∷ [])
in_lattice n a b c = record { width = refl; zero_at = tt; congruences = tt; in_group = tt }

abbrev units : List Vector
units = (pos 1 ∷ pos 0 ∷ pos 0 ∷ []) ∷ (pos 0 ∷ pos 1 ∷ pos 0 ∷ []) ∷ (pos 0 ∷ pos 0 ∷ pos 1 ∷ []) ∷ []

-- the entries of a sum of the units
first_entry : (a b c : ℤ) → a *ℤ pos 1 +ℤ (b *ℤ pos 0 +ℤ (c *ℤ pos 0 +ℤ pos 0)) ≡ a
first_entry a b c = omega (arith, sums, mul-one a, *ℤ-zero b, *ℤ-zero c)

second_entry : (a b c : ℤ) → a *ℤ pos 0 +ℤ (b *ℤ pos 1 +ℤ (c *ℤ pos 0 +ℤ pos 0)) ≡ b
second_entry a b c = omega (arith, sums, *ℤ-zero a, mul-one b, *ℤ-zero c)

third_entry : (a b c : ℤ) → a *ℤ pos 0 +ℤ (b *ℤ pos 0 +ℤ (c *ℤ pos 1 +ℤ pos 0)) ≡ c
third_entry a b c = omega (arith, sums, *ℤ-zero a, *ℤ-zero b, mul-one c)

units_free : IsFree units
units_free a b c z = (sym (first_entry a b c) ∙ z.0, (sym (second_entry a b c) ∙ z.1.0, (sym (third_entry a b c) ∙ z.1.1.0, tt)))

units_span : (a b c : ℤ) → IsInSpan 3 units (a ∷ b ∷ c ∷ [])
units_span a b c = record {
  multiple = pos 1;
  factors = a ∷ b ∷ c ∷ [];
  positive = omega (arith, ints);
  one_each = refl;
  each = (tt, (tt, (tt, tt)));
  same = three_same (first_entry a b c ∙ once a) (second_entry a b c ∙ once b) (third_entry a b c ∙ once c);
}
  where
    once : (t : ℤ) → t ≡ pos 1 *ℤ t
    once t = omega (arith, ints)

pub lattice_rank : (n : ℕ) → HasRank 3 (MadeLattice n) 3
lattice_rank n = record {
  base = units;
  size = refl;
  members = (in_lattice n (pos 1) (pos 0) (pos 0), (in_lattice n (pos 0) (pos 1) (pos 0), (in_lattice n (pos 0) (pos 0) (pos 1), tt)));
  independent = independent_of_three units refl units_free;
  all = λ x m. let u = three x m.width in subst (IsInSpan 3 units) (sym u.3) (units_span u.0 u.1 u.2);
}

-- ---- the values of the rows

right_value : (n a b c : ℤ) → negsuc 0 *ℤ a +ℤ (pos 0 *ℤ b +ℤ (n *ℤ c +ℤ pos 0)) ≡ n *ℤ c -ℤ a
right_value n a b c = omega (arith, ints)

top_value : (n a b c : ℤ) → pos 0 *ℤ a +ℤ (negsuc 0 *ℤ b +ℤ (n *ℤ c +ℤ pos 0)) ≡ n *ℤ c -ℤ b
top_value n a b c = omega (arith, ints)

bottom_value : (a b c : ℤ) → pos 0 *ℤ a +ℤ (pos 1 *ℤ b +ℤ (pos 0 *ℤ c +ℤ pos 0)) ≡ b
bottom_value a b c = omega (arith, ints)

left_value : (a b c : ℤ) → pos 1 *ℤ a +ℤ (pos 0 *ℤ b +ℤ (pos 0 *ℤ c +ℤ pos 0)) ≡ a
left_value a b c = omega (arith, ints)

-- ---- the order of the rows

right_fresh : (n : ℕ) → IsFreshRow (MadeLattice n) [] (right_form n)
right_fresh n = record {
  vector = pos 1 ∷ pos 0 ∷ pos 0 ∷ [];
  in_lattice = in_lattice n (pos 1) (pos 0) (pos 0);
  zero_at = tt;
  nonzero_at = λ e. omega (arith, ints, e);
}

top_fresh : (n : ℕ) → IsFreshRow (MadeLattice n) (right_form n ∷ []) (top_form n)
top_fresh n = record {
  vector = pos 0 ∷ pos 1 ∷ pos 0 ∷ [];
  in_lattice = in_lattice n (pos 0) (pos 1) (pos 0);
  zero_at = (omega (arith, ints), tt);
  nonzero_at = λ e. omega (arith, ints, e);
}

bottom_fresh : (n : ℕ) → 1 ≤ n → IsFreshRow (MadeLattice n) (top_form n ∷ right_form n ∷ []) bottom_form
bottom_fresh n l = record {
  vector = point n n;
  in_lattice = in_lattice n (pos n) (pos n) (pos 1);
  zero_at = (omega (arith, ints), (omega (arith, ints), tt));
  nonzero_at = λ e. omega (arith, ints, e, l);
}

-- where the other three rows are 0, so is the last
left_zero : (n : ℕ) (a b c : ℤ) → Each (λ r. dot r (a ∷ b ∷ c ∷ []) ≡ pos 0) (bottom_form ∷ top_form n ∷ right_form n ∷ []) → dot left_form (a ∷ b ∷ c ∷ []) ≡ pos 0
left_zero n a b c z =
    let bottom = sym (bottom_value a b c) ∙ z.0 in
    let top = sym (top_value (pos n) a b c) ∙ z.1.0 in
    let right = sym (right_value (pos n) a b c) ∙ z.1.1.0 in
    left_value a b c ∙ omega (arith, sums, bottom, top, right)

left_dependent : (n : ℕ) → ¬ IsFreshRow (MadeLattice n) (bottom_form ∷ top_form n ∷ right_form n ∷ []) left_form
left_dependent n f =
    let u = three f.vector f.in_lattice.width in
    let z = subst (λ (x : Vector). Each (λ r. dot r x ≡ pos 0) (bottom_form ∷ top_form n ∷ right_form n ∷ [])) u.3 f.zero_at in
    f.nonzero_at (subst (λ (x : Vector). dot left_form x ≡ pos 0) (sym u.3) (left_zero n u.0 u.1 u.2 z))

abbrev pub first_rows : ℕ → List Vector
first_rows n = right_form n ∷ top_form n ∷ bottom_form ∷ []

rows_in_order : (n : ℕ) → 1 ≤ n → IsIndependentFirst (IsFreshRow (MadeLattice n)) (made_rows n) (made_rows n)
rows_in_order n l = record {
  first = first_rows n;
  others = left_form ∷ [];
  separates = fresh (right_fresh n) (fresh (top_fresh n) (fresh (bottom_fresh n l) (other (left_dependent n) none)));
  whole = refl;
}

separated : (n : ℕ) → 1 ≤ n → (fs os : List Vector) → Separates (IsFreshRow (MadeLattice n)) [] (right_form n ∷ top_form n ∷ bottom_form ∷ left_form ∷ []) fs os → fs ++ os ≡ made_rows n
separated n l fs os (fresh k (fresh m (fresh p (other q none)))) = refl
separated n l fs os (fresh k (fresh m (fresh p (fresh q s)))) = absurd (left_dependent n q)
separated n l fs os (fresh k (fresh m (other p s))) = absurd (p (bottom_fresh n l))
separated n l fs os (fresh k (other m s)) = absurd (m (top_fresh n))
separated n l fs os (other k s) = absurd (k (right_fresh n))

pub ordered_same : (n : ℕ) (ordered F : List Vector) → 1 ≤ n → AreFirstRays (MadeLattice n) 3 (made_rows n) ordered F → ordered ≡ made_rows n
ordered_same n ordered F l r = r.in_order.whole ∙ separated n l r.in_order.first r.in_order.others r.in_order.separates

-- ---- the first stage, and the reversed one

first_fan : (n : ℕ) → 1 ≤ n → IsFan n n (IsInStage (MadeLattice n) (first_rows n))
first_fan n l = record { into = enter; out = leave }
  where
    enter : (a b c : ℤ) → a ≤ℤ (pos n *ℤ c) → pos 0 ≤ℤ b → b ≤ℤ (pos n *ℤ c) → IsInStage (MadeLattice n) (first_rows n) (a ∷ b ∷ c ∷ [])
    enter a b c ah bl bh =
        let right = right_value (pos n) a b c in
        let top = top_value (pos n) a b c in
        let bottom = bottom_value a b c in
        record { in_lattice = in_lattice n a b c; at_least = (omega (arith, sums, right, ah), (omega (arith, sums, top, bh), (omega (arith, sums, bottom, bl), tt))) }

    leave : (x : Vector) → IsInStage (MadeLattice n) (first_rows n) x → IsInFan n n x
    leave x m =
        let u = three x m.in_lattice.width in
        let h = subst (λ (v : Vector). Each (λ r. pos 0 ≤ℤ dot r v) (first_rows n)) u.3 m.at_least in
        let right = right_value (pos n) u.0 u.1 u.2 in
        let top = top_value (pos n) u.0 u.1 u.2 in
        let bottom = bottom_value u.0 u.1 u.2 in
        let h0 = h.0 in
        let h1 = h.1.0 in
        let h2 = h.1.1.0 in
        record { a = u.0; b = u.1; c = u.2; same = u.3; a_high = omega (arith, sums, right, h0); b_low = omega (arith, sums, bottom, h2); b_high = omega (arith, sums, top, h1) }

reversed_fan : (n : ℕ) → 1 ≤ n → IsFan n 0 (IsInReversed (MadeLattice n) (first_rows n) left_form)
reversed_fan n l = record { into = enter; out = leave }
  where
    flat : (c : ℤ) → pos 0 *ℤ c ≡ pos 0
    flat c = omega (arith, ints)

    enter : (a b c : ℤ) → a ≤ℤ (pos 0 *ℤ c) → pos 0 ≤ℤ b → b ≤ℤ (pos n *ℤ c) → IsInReversed (MadeLattice n) (first_rows n) left_form (a ∷ b ∷ c ∷ [])
    enter a b c ah bl bh =
        let left = left_value a b c in
        let z = flat c in
        record { in_stage = (first_fan n l).into a b c (omega (arith, sums, ah, bl, bh, z)) bl bh; at_most = omega (arith, sums, left, ah, z) }

    leave : (x : Vector) → IsInReversed (MadeLattice n) (first_rows n) left_form x → IsInFan n 0 x
    leave x m =
        let u = (first_fan n l).out x m.in_stage in
        let h = subst (λ (v : Vector). dot left_form v ≤ℤ pos 0) u.same m.at_most in
        let left = left_value u.a u.b u.c in
        let z = flat u.c in
        record { a = u.a; b = u.b; c = u.c; same = u.same; a_high = omega (arith, sums, left, h, z); b_low = u.b_low; b_high = u.b_high }

pub first_irreducible : (n : ℕ) (x : Vector) → 1 ≤ n → IsIrreducible (IsInStage (MadeLattice n) (first_rows n)) x → IsFanElement n n x
first_irreducible n x l = fan_element n n l (IsInStage (MadeLattice n) (first_rows n)) (first_fan n l) x

pub reversed_irreducible : (n : ℕ) (x : Vector) → 1 ≤ n → IsIrreducible (IsInReversed (MadeLattice n) (first_rows n) left_form) x → IsFanElement n 0 x
reversed_irreducible n x l = fan_element n 0 l (IsInReversed (MadeLattice n) (first_rows n) left_form) (reversed_fan n l) x

-- ---- the extreme generators of the first stage

abbrev pub first_rays : ℕ → List Vector
first_rays n = back ∷ point n 0 ∷ point n n ∷ []

pub first_rays_are : (n : ℕ) → 1 ≤ n → AreFirstRays (MadeLattice n) 3 (made_rows n) (made_rows n) (first_rays n)
first_rays_are n l = record {
  in_order = rows_in_order n l;
  rays = (
    (back_extreme n n l (IsInStage (MadeLattice n) (first_rows n)) (first_fan n l), omega (arith, ints)),
    (
      (side_extreme n n l (IsInStage (MadeLattice n) (first_rows n)) (first_fan n l) 0 (omega arith) (inl refl), omega (arith, ints, l)),
      ((side_extreme n n l (IsInStage (MadeLattice n) (first_rows n)) (first_fan n l) n (omega arith) (inr refl), omega (arith, ints, l)), tt),
    ),
  );
}

data IsFirstRay (n : ℕ) (x : Vector) : Type 0 where
  is_back : x ≡ back → IsFirstRay n x
  is_lower : x ≡ point n 0 → IsFirstRay n x
  is_upper : x ≡ point n n → IsFirstRay n x

ray_of : (n : ℕ) (x : Vector) → 1 ≤ n → IsExtreme (IsInStage (MadeLattice n) (first_rows n)) x → IsFirstRay n x
ray_of n x l e = elim (extreme_of_fan n n l (IsInStage (MadeLattice n) (first_rows n)) (first_fan n l) x e) [
  | inl s ↦ is_back s
  | inr (j, inl z, s) ↦ is_lower (s ∙ ap (point n) z)
  | inr (j, inr z, s) ↦ is_upper (s ∙ ap (point n) z)
]

-- a ray at which a form is positive is not one at which it is not
other_ray : (f x y : Vector) → x ≡ y → pos 0 <ℤ dot f x → dot f y ≡ pos 0 → ⊥
other_ray f x y e h z = let k = subst (λ (v : Vector). pos 0 <ℤ dot f v) e h in omega (arith, sums, k, z)

at_right : (n : ℕ) (x : Vector) → IsFirstRay n x → pos 0 <ℤ dot (right_form n) x → x ≡ back
at_right n x (is_back e) h = e
at_right n x (is_lower e) h = absurd (other_ray (right_form n) x (point n 0) e h (omega (arith, ints)))
at_right n x (is_upper e) h = absurd (other_ray (right_form n) x (point n n) e h (omega (arith, ints)))

at_top : (n : ℕ) (x : Vector) → IsFirstRay n x → pos 0 <ℤ dot (top_form n) x → x ≡ point n 0
at_top n x (is_back e) h = absurd (other_ray (top_form n) x back e h (omega (arith, ints)))
at_top n x (is_lower e) h = e
at_top n x (is_upper e) h = absurd (other_ray (top_form n) x (point n n) e h (omega (arith, ints)))

at_bottom : (n : ℕ) (x : Vector) → IsFirstRay n x → pos 0 <ℤ dot bottom_form x → x ≡ point n n
at_bottom n x (is_back e) h = absurd (other_ray bottom_form x back e h (omega (arith, ints)))
at_bottom n x (is_lower e) h = absurd (other_ray bottom_form x (point n 0) e h (omega (arith, ints)))
at_bottom n x (is_upper e) h = e

abbrev IsRayOf : ℕ → Vector → Vector → Type 0
IsRayOf n h x = IsExtreme (IsInStage (MadeLattice n) (first_rows n)) x × (pos 0 <ℤ dot h x)

rays_by_rows : (n : ℕ) (F : List Vector) → 1 ≤ n → AllZip (IsRayOf n) (right_form n ∷ top_form n ∷ bottom_form ∷ []) F → F ≡ first_rays n
rays_by_rows n [] l z = absurd z
rays_by_rows n (x ∷ []) l z = absurd z.1
rays_by_rows n (x ∷ y ∷ []) l z = absurd z.1.1
rays_by_rows n (x ∷ y ∷ t ∷ u ∷ F) l z = absurd z.1.1.1
rays_by_rows n (x ∷ y ∷ t ∷ []) l z = three_listed (at_right n x (ray_of n x l z.0.0) z.0.1) (at_top n y (ray_of n y l z.1.0.0) z.1.0.1) (at_bottom n t (ray_of n t l z.1.1.0.0) z.1.1.0.1)
  where
    three_listed : {x y t x' y' t' : Vector} → x ≡ x' → y ≡ y' → t ≡ t' → (x ∷ y ∷ t ∷ []) ≡ (x' ∷ y' ∷ t' ∷ [])
    three_listed e f g = cc

pub rays_same : (n : ℕ) (ordered F : List Vector) → 1 ≤ n → AreFirstRays (MadeLattice n) 3 (made_rows n) ordered F → F ≡ first_rays n
rays_same n ordered F l r = rays_by_rows n F l
    (subst (λ (os : List Vector). AllZip (λ h x. IsExtreme (IsInStage (MadeLattice n) (take 3 os)) x × (pos 0 <ℤ dot h x)) (take 3 os) F) (ordered_same n ordered F l r) r.rays)

-- ---- the later stage

pub last_is_later : (n : ℕ) → IsLater 3 (made_rows n) (first_rows n) left_form
last_is_later n = record { later = []; whole = refl; enough = omega arith }

split_at_three : (a b c d : Vector) (earlier later : List Vector) (last : Vector) → (a ∷ b ∷ c ∷ d ∷ []) ≡ earlier ++ last ∷ later → 3 ≤ length earlier → (earlier ≡ a ∷ b ∷ c ∷ []) × (last ≡ d)
split_at_three a b c d [] later last e h = absurd (omega (arith, h))
split_at_three a b c d (x ∷ []) later last e h = absurd (omega (arith, h))
split_at_three a b c d (x ∷ y ∷ []) later last e h = absurd (omega (arith, h))
split_at_three a b c d (x ∷ y ∷ t ∷ []) later last e h = (cc, cc)
split_at_three a b c d (x ∷ y ∷ t ∷ u ∷ earlier) later last e h = absurd (let m = ap length e in let k = length-append earlier (last ∷ later) in let f : ⊥ = omega (arith, m, k) in f)

pub later_same : (n : ℕ) (ordered earlier : List Vector) (last : Vector) → ordered ≡ made_rows n → IsLater 3 ordered earlier last → (earlier ≡ first_rows n) × (last ≡ left_form)
later_same n ordered earlier last e l = split_at_three (right_form n) (top_form n) bottom_form left_form earlier l.later last (sym e ∙ l.whole) l.enough

made_is_system : (n : ℕ) → IsSystem (system_of (made_file n))
made_is_system n = record {
  at_least = omega arith;
  at_most = omega arith;
  eq_width = tt;
  cg_width = tt;
  ge_width = tt;
  gens_width = (refl, (refl, (refl, (refl, tt))));
  grading_width = tt;
  asked_width = tt;
  moduli = tt;
  no_level_degree = λ h. tt;
  level_form = λ h. absurd (false≢true h);
  lat_is_gens = tt;
}

-- its irreducibles are the points
pub stage_of_point : (n : ℕ) (x : Vector) → 1 ≤ n → IsPoint n x → IsIrreducible (IsInStage (MadeLattice n) (made_rows n)) x
stage_of_point n x l p =
    let all = members_are_last_stage (system_of (made_file n)) [] (made_rows n) (made_is_system n) (no_equations n l) (rows_listed n l) in
    IsIrreducible-where (IsMember (system_of (made_file n))) (IsInStage (MadeLattice n) (made_rows n)) (λ y m. (all y).0 m) (λ y m. (all y).1 m) x (irreducible_of_point n l x p)

pub point_of_stage : (n : ℕ) (x : Vector) → 1 ≤ n → IsIrreducible (IsInStage (MadeLattice n) (made_rows n)) x → IsPoint n x
point_of_stage n x l i =
    let all = members_are_last_stage (system_of (made_file n)) [] (made_rows n) (made_is_system n) (no_equations n l) (rows_listed n l) in
    point_of_irreducible n l x (IsIrreducible-where (IsInStage (MadeLattice n) (made_rows n)) (IsMember (system_of (made_file n))) (λ y m. (all y).1 m) (λ y m. (all y).0 m) x i)
