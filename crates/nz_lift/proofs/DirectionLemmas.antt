-- The rays of bounded rows, with their levels in front, or a vector of level 0.
use Rattle.std.proofs.Common.{◌≡◌, ◌≢◌, inl, ℕ, ◌<◌, ◌≤◌, List, [], ◌∷◌, length, get_or, take, ℤ, pos, ◌≤ℤ◌, ◌<ℤ◌, Contains, refl, sym, ap, ◌∙◌, subst, arith}
use Rattle.std.specs.List.{AllByRecursion as Each}
use Rattle.std.proofs.lemmas.Int.{ints, by_lt_z}
use Rattle.std.proofs.lemmas.List.{get_or-map, length-map, length-take-le}
use Rattle.nz_spec.specs.Vectors.{Vector, dot, entry, HasWidth}
use Rattle.nz_spec.specs.Covers.{vectors_at}
use Rattle.nz_spec.specs.Forms.{AreEquations}
use Rattle.nz_spec.proofs.ListLaws.{Each-contains, Each-from_contains, contains_at}
use Rattle.nz_linear.specs.Cones.{Satisfies}
use Rattle.nz_linear.specs.Extreme.{IsPointed}
use Rattle.nz_linear.proofs.Lists.{each_map, each_map2, each_all, each_of_map, map_each}
use Rattle.nz_linear.proofs.Splitting.{listed_is_ray}
use Rattle.nz_range.specs.Measures.{SomeLarge, SomeLargeAt}
use Rattle.nz_further.proofs.ShadowLaws.{unbounded_line, unbounded_ray}
use Rattle.nz_pointed.specs.Pointed.{IsNew, IsSimplexOf, IsLineOf, IsTooLarge}
use Rattle.nz_linear.proofs.CoverCoordinates.{vectors_listed}
use Rattle.nz_rays.proofs.StartLemmas.{simplex_description}
use Rattle.nz_scalar.specs.Room.{HasRoom}
use Rattle.nz_vec.specs.Sums.{SumsFit}
use Rattle.nz_range.proofs.Causes.{value_cause}
use Rattle.nz_spec.specs.Vectors.{IsPrimitive}
use Rattle.nz_rays.specs.Rays.{AreRaysOnce}
use Rattle.nz_rays.proofs.RayLemmas.{IsNormalEitherWay, ray_normal, large_at}
use Rattle.nz_lift.specs.Lifts.{IsUnboundedBy}
use Rattle.nz_lift.specs.Directions.{headed, fronts, IsFlatPlace, AreHeadedRays}
use Rattle.nz_lift.proofs.FormLemmas.{equations_are_normal}

-- ---- first entries
pub fronts_wide : (size : ℕ) (vs list : List Vector) → Each (λ v. size ≤ length v) vs → list ≡ fronts size vs → Each (HasWidth size) list
fronts_wide size vs list h e = subst (Each (HasWidth size)) (sym e) (each_of_map (λ v. take size v) (HasWidth size) vs (each_map (λ v. size ≤ length v) (λ v. HasWidth size (take size v)) vs (λ v l. length-take-le size v l) h))

pub equation_large : (h : ℤ) (size : ℕ) (G list equations : List Vector) → Each (HasWidth size) list → list ≡ G → AreEquations size list equations → SomeLarge h (Contains equations) → IsTooLarge h size G
equation_large h size G list equations l is e s =
    subst (IsTooLarge h size) is (inl (record { vector = s.vector; named = Each-contains _ equations s.vector (equations_are_normal size list equations l e) s.named; large = s.large }))

-- ---- the rays
pub rows_pointed : (w : ℕ) (rows rays : List Vector) (places : List ℕ) → IsSimplexOf w rows places rays → IsPointed w rows
rows_pointed w rows rays places s x l z =
    let within = each_map (IsNew w rows) (λ p. p < length rows) places (λ p k. k.within) s.first.only in
    (simplex_description w rows rays places s).pointed x l (each_map (Contains rows) (λ a. dot a x ≡ pos 0) (vectors_at rows places) (λ a c. Each-contains (λ a. dot a x ≡ pos 0) rows a z c) (vectors_listed rows places within))

pub rays_normal : (w : ℕ) (rows rays : List Vector) → Each (HasWidth w) rows → IsPointed w rows → AreRaysOnce w rows rays → Each (IsNormalEitherWay w rows) rays
rays_normal w rows rays l p once = Each-from_contains (IsNormalEitherWay w rows) rays (λ v c. ray_normal w rows v l p (listed_is_ray w rows rays v once.extreme c))

pub level_large : (h : ℤ) (w : ℕ) (rows rays : List Vector) (level : Vector) → Each (IsNormalEitherWay w rows) rays → Contains rows level → SomeLargeAt h (λ f. f ≡ level) (Contains rays) → IsTooLarge h w rows
level_large h w rows rays level n c s = large_at h w rows s.form s.vector (subst (Contains rows) (sym s.is_form) c) (Each-contains (IsNormalEitherWay w rows) rays s.vector n s.named) s.large

-- the level has no value at a vector
pub no_level : (h : ℤ) (fits : ℤ → Type 0) → HasRoom h fits → (level x : Vector) (vs : List Vector) (k : ℕ) → k < length vs → x ≡ get_or vs k [] → ¬ SumsFit fits (pos 0) level x → SomeLargeAt h (λ f. f ≡ level) (Contains vs)
no_level h fits room level x vs k l e u = record { form = level; vector = x; is_form = refl; named = subst (Contains vs) (sym e) (contains_at vs k [] l); large = value_cause h fits room level x u }

pub headed_long : (level : Vector) (vs list : List Vector) → list ≡ headed level vs → Each (λ v. 0 < length v) list
headed_long level vs list e = subst (Each (λ v. 0 < length v)) (sym e) (each_of_map (λ v. dot level v ∷ v) (λ v. 0 < length v) vs (each_all (λ v. 0 < length (dot level v ∷ v)) vs (λ v. omega arith)))

-- a ray of level 0
pub flat_ray : (w : ℕ) (rows rays list : List Vector) (level v ray : Vector) (k : ℕ) → AreRaysOnce w rows rays → Each (IsNormalEitherWay w rows) rays → list ≡ headed level rays → IsFlatPlace list k → v ≡ get_or rays k [] → ray ≡ v → IsUnboundedBy w rows level ray
flat_ray w rows rays list level v ray k once n e flat at same =
    let size : length list ≡ length rays = ap length e ∙ length-map rays (λ v. dot level v ∷ v) in
    let l : k < length rays = (let m = flat.within in omega (arith, m, size)) in
    let own : get_or list k [] ≡ dot level (get_or rays k []) ∷ get_or rays k [] = ap (λ xs. get_or xs k []) e ∙ get_or-map (λ v. dot level v ∷ v) rays k [] [] l in
    let zero : dot level (get_or rays k []) ≡ pos 0 = sym (ap (λ x. entry x 0) own) ∙ flat.flat in
    let has = contains_at rays k [] l in
    let x = get_or rays k [] in
    let is : ray ≡ x = same ∙ at in
    subst (IsUnboundedBy w rows level) (sym is) (record {
      along = unbounded_ray w rows rays level once.extreme.description x has (Each-contains IsPrimitive rays x once.extreme.primitive has) zero;
      normal = Each-contains (IsNormalEitherWay w rows) rays x n has;
    })

-- no ray of level 0
pub steep_rays : (w : ℕ) (rows rays list : List Vector) (level : Vector) → IsPointed w rows → AreRaysOnce w rows rays → Contains rows level → list ≡ headed level rays → Each (λ v. entry v 0 ≢ pos 0) list → AreHeadedRays w rows level list
steep_rays w rows rays list level p once c e n =
    let nonzero : Each (λ v. dot level v ≢ pos 0) rays = map_each (λ v. dot level v ∷ v) (λ v. entry v 0 ≢ pos 0) rays (subst (Each (λ v. entry v 0 ≢ pos 0)) e n) in
    let nonneg : Each (λ v. pos 0 ≤ℤ dot level v) rays = each_map (Satisfies rows) (λ v. pos 0 ≤ℤ dot level v) rays (λ v s. Each-contains (λ a. pos 0 ≤ℤ dot a v) rows level s c) once.extreme.description.sound in
    record {
      rays = rays;
      pointed = p;
      once = once;
      levels = each_map2 (λ v. pos 0 ≤ℤ dot level v) (λ v. dot level v ≢ pos 0) (λ v. pos 1 ≤ℤ dot level v) rays (λ v a b. by_lt_z (dot level v) (pos 1) (λ (l : dot level v <ℤ pos 1). absurd (b (omega (arith, ints, l, a)))) (λ (l : pos 1 ≤ℤ dot level v). l)) nonneg nonzero;
      whole = e;
    }

-- ---- a line
pub line_direction : (w : ℕ) (rows : List Vector) (level v : Vector) → Contains rows level → IsLineOf w rows v → IsUnboundedBy w rows level v
line_direction w rows level v c l = record { along = unbounded_line w rows level v l.width l.primitive l.zero c; normal = l.normal }
