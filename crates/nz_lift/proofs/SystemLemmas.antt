-- From the lattice points in the coordinates of a system's base to those of the file.
use Rattle.std.proofs.Common.{◌≡◌, ℕ, zero, suc, ◌-◌, ◌≤◌, Bool, true, false, List, [], ◌∷◌, ◌++◌, length, map, ℤ, pos, Contains, None, refl, sym, ap, ◌∙◌, subst, arith}
use Rattle.std.specs.Prelude.{IsTrue}
use Rattle.std.specs.List.{AllByRecursion as Each}
use Rattle.std.specs.List.Sorted.{IsPermutation}
use Rattle.std.proofs.lemmas.List.Sorted.{length_permutation}
use Rattle.nz_spec.specs.Vectors.{Vector, combination, zero_vector, HasWidth}
use Rattle.nz_spec.specs.Order.{IsLexBefore}
use Rattle.nz_spec.specs.Monoids.{HasLevel}
use Rattle.nz_spec.specs.Systems.{System, IsSystem, IsMember}
use Rattle.nz_spec.proofs.LinearLaws.{length-mapped}
use Rattle.nz_spec.proofs.ListLaws.{Each-contains, Each-from_contains}
use Rattle.nz_spec.proofs.SumLaws.{length-combination}
use Rattle.nz_linear.specs.Cones.{IsInRows}
use Rattle.nz_linear.specs.Echelon.{unit_at}
use Rattle.nz_linear.specs.Coordinates.{AreCoordinates, in_coordinates}
use Rattle.nz_linear.proofs.Coordinates.{same_coordinates}
use Rattle.nz_linear.proofs.SystemRays.{system_coordinates}
use Rattle.nz_linear.proofs.Lists.{each_map, each_of_map}
use Rattle.nz_order.proofs.OrderLaws.{lex_irreflexive}
use Rattle.nz_order.proofs.SortLaws.{Pairwise-different}
use Rattle.nz_further.specs.Shadows.{AreBounded, IsLatticePoint, IsUnboundedAlong}
use Rattle.nz_further.proofs.InOrder.{contains_map, map_contains}
use Rattle.nz_further.proofs.ShadowLaws.{level_forth, level_back, bounded_back, unbounded_member, level_in_rows}
use Rattle.nz_scalar.specs.Room.{HasRoom}
use Rattle.nz_vec.specs.declared.answers.Num.{Num}
use Rattle.nz_vec.specs.declared.answers.Num.TheVariants as num
use Rattle.nz_vec.specs.declared.answers.Work.{Work}
use Rattle.nz_vec.specs.declared.answers.Work.TheVariants.{Range, TooMany, Stopped, NoMemory}
use Rattle.nz_sweep.specs.Bases.{Base, ValueSumsFit, CombinationSumsFit}
use Rattle.nz_sweep.specs.Lists.{LacksVector}
use Rattle.nz_measures.specs.Sweeps.{IsSwept}
use Rattle.nz_measures.proofs.Measuring.{vector_cause}
use Rattle.nz_measures.proofs.SystemCauses.{unit_pulled_above}
use Rattle.nz_degree.specs.Degrees.{IsInOrder}
use Rattle.nz_degree.proofs.ElementLaws.{sorted_is_list}
use Rattle.nz_frame.specs.Frames.{IsFrame, vector_at}
use Rattle.nz_frame.proofs.ListSplits.{different_forth}
use Rattle.nz_lift.specs.Directions.{IsUntold}
use Rattle.nz_lift.specs.Lifts.{AreAllPoints, IsUnboundedBy, IsLiftRefusal}
use Rattle.nz_lift.specs.SystemPoints.{ArePointsOf, IsAlong}
use Rattle.nz_lift.specs.SystemRefusals.{level_in, point, along, IsPointReachAbove, of_file, of_base, of_return, IsSystemRefusal}

-- the last unit form is the level
last_unit : (k : ℕ) → unit_at (suc k) k ≡ zero_vector k ++ pos 1 ∷ []
last_unit zero = refl
last_unit (suc k) = ap (λ (v : Vector). pos 0 ∷ v) (last_unit k)

-- a vector of a system has an entry
pub some_width : (s : System) → IsSystem s → 1 ≤ s.width
some_width s is = by s.level refl
  where
    by : (level : Bool) → s.level ≡ level → 1 ≤ s.width
    by true e = (let l : 1 ≤ s.width - 1 = subst (λ (b : Bool). 1 ≤ elim b [ true ↦ s.width - 1 | false ↦ s.width ]) e is.at_least in omega (arith, l))
    by false e = subst (λ (b : Bool). 1 ≤ elim b [ true ↦ s.width - 1 | false ↦ s.width ]) e is.at_least

level_unit : (w : ℕ) → 1 ≤ w → unit_at w (w - 1) ≡ zero_vector (w - 1) ++ pos 1 ∷ []
level_unit w l =
    let e : suc (w - 1) ≡ w = omega (arith, l) in
    subst (λ (n : ℕ). unit_at n (w - 1) ≡ zero_vector (w - 1) ++ pos 1 ∷ []) e (last_unit (w - 1))

-- as many vectors come back as there are there
as_many_back : (limit : ℕ) (base : Base) (cs points : List Vector) → IsPermutation (map (λ c. vector_at base c) cs) points → length cs ≤ limit → length points ≤ limit
as_many_back limit base cs points moved few = let n = length_permutation (map (λ c. vector_at base c) cs) points moved ∙ length-mapped (λ c. vector_at base c) cs in omega (arith, n, few)

module _ (s : System) (is : IsSystem s) (leveled : IsTrue s.level) (base : Base) (pulled : List Vector) (fr : IsFrame s base pulled) where
  abbrev At : Vector → Vector
  At c = combination s.width c base.vectors

  abbrev There : ℕ
  There = length base.vectors

  abbrev Rows : List Vector
  Rows = map (λ h. in_coordinates base.vectors h) fr.rows

  abbrev Level : Vector
  Level = in_coordinates base.vectors (zero_vector (s.width - 1) ++ pos 1 ∷ [])

  same_level : level_in s base ≡ Level
  same_level = ap (in_coordinates base.vectors) (level_unit s.width (some_width s is))

  -- what is said of the rows and the level there
  both : (P : List Vector → Vector → Type 0) → P pulled (level_in s base) → P Rows Level
  both P p = subst (λ (l : Vector). P Rows l) same_level (subst (λ (r : List Vector). P r (level_in s base)) fr.there p)

  both_back : (P : List Vector → Vector → Type 0) → P Rows Level → P pulled (level_in s base)
  both_back P p = subst (λ (r : List Vector). P r (level_in s base)) (sym fr.there) (subst (λ (l : Vector). P Rows l) (sym same_level) p)

  pub pulled_wide : Each (HasWidth There) pulled
  pulled_wide = subst (Each (HasWidth There)) (sym fr.there) (each_of_map (λ h. in_coordinates base.vectors h) (HasWidth There) fr.rows (Each-from_contains (λ h. HasWidth There (in_coordinates base.vectors h)) fr.rows (λ h c. length-mapped _ base.vectors)))

  pub level_among : Contains pulled (level_in s base)
  level_among = both_back (λ r l. Contains r l) (level_in_rows s is leveled fr.equations fr.rows base.vectors fr.are_equations fr.are_rows fr.is_base.widths fr.is_base.independent fr.is_base.same)

  coordinates : AreCoordinates s.width base.vectors (IsMember s) (IsInRows There Rows)
  coordinates = system_coordinates s fr.equations fr.rows base.vectors is fr.are_equations fr.are_rows fr.is_base.widths fr.is_base.independent fr.is_base.same

  at_file : (cs : List Vector) → map (λ c. vector_at base c) cs ≡ map At cs
  at_file cs = ap (λ (n : ℕ). map (λ c. combination n c base.vectors) cs) fr.is_base.width

  pub points_wide : (limit : ℕ) (cs : List Vector) → AreAllPoints limit There pulled (level_in s base) cs → Each (HasWidth There) cs
  points_wide limit cs a = each_map (IsLatticePoint There pulled (level_in s base)) (HasWidth There) cs (λ c p. p.width) a.list.only

  -- the points taken back, in order
  pub points_of : (limit : ℕ) (cs points : List Vector) → AreAllPoints limit There pulled (level_in s base) cs → IsPermutation (map (λ c. vector_at base c) cs) points → IsInOrder None points → ArePointsOf limit s points
  points_of limit cs points a moved ordered =
      let wide = points_wide limit cs a in
      let different = different_forth At (HasWidth There) (λ c d l m e. same_coordinates s.width base.vectors (IsMember s) (IsInRows There Rows) coordinates c d l m e) cs wide (Pairwise-different IsLexBefore lex_irreflexive cs a.list.in_order) in
      let wide_back : Each (HasWidth s.width) (map At cs) = each_of_map At (HasWidth s.width) cs (each_map (HasWidth There) (λ c. HasWidth s.width (At c)) cs (λ c l. length-combination s.width c base.vectors fr.is_base.widths) wide) in
      let sorted = sorted_is_list s.width None (map At cs) points wide_back different (subst (λ (xs : List Vector). IsPermutation xs points) (at_file cs) moved) ordered in
      record {
        bounded = bounded_back s is leveled fr.equations fr.rows base.vectors fr.are_equations fr.are_rows fr.is_base.widths fr.is_base.independent fr.is_base.same (both (λ r l. AreBounded There r l) a.bounded);
        list = record {
          in_order = sorted.in_order;
          only = Each-from_contains (HasLevel (IsMember s) (pos 1)) points (λ x c.
              let r = map_contains At cs x (Each-contains (Contains (map At cs)) points x sorted.only c) in
              let p = both (λ r' l. IsLatticePoint There r' l r.0) (Each-contains (IsLatticePoint There pulled (level_in s base)) cs r.0 a.list.only r.1) in
              subst (HasLevel (IsMember s) (pos 1)) r.2 (level_forth s is leveled fr.equations fr.rows base.vectors fr.are_equations fr.are_rows fr.is_base.widths fr.is_base.independent fr.is_base.same (pos 1) r.0 p));
          each = λ x h.
              let k = level_back s is leveled fr.equations fr.rows base.vectors fr.are_equations fr.are_rows fr.is_base.widths fr.is_base.independent fr.is_base.same (pos 1) x h in
              let c = a.list.each k.0 (both_back (λ r l. IsLatticePoint There r l k.0) k.1) in
              sorted.each x (subst (Contains (map At cs)) k.2 (contains_map At cs k.0 c));
        };
        within = as_many_back limit base cs points moved a.within;
      }

  -- the vector along which the rows are not bounded, taken back
  pub along_of : (c x : Vector) → IsUnboundedBy There pulled (level_in s base) c → x ≡ vector_at base c → IsAlong s x
  along_of c x u e =
      let m = unbounded_member s is leveled fr.equations fr.rows base.vectors fr.are_equations fr.are_rows fr.is_base.widths fr.is_base.independent fr.is_base.same c (both (λ r l. IsUnboundedAlong There r l c) u.along) in
      let same : At c ≡ x = sym (e ∙ ap (λ (n : ℕ). combination n c base.vectors) fr.is_base.width) in
      subst (IsAlong s) same (record { flat = m.0; nonzero = m.1; shortest = m.2 })

  -- ---- refusals
  pub level_refused : (h : ℤ) (fits : ℤ → Type 0) → HasRoom h fits → IsSwept s base → ¬ ValueSumsFit fits (unit_at s.width (s.width - 1)) base.vectors → IsPointReachAbove s h
  level_refused h fits room swept out = of_file (unit_pulled_above h fits room s base (s.width - 1) (let l = some_width s is in omega (arith, l)) fr.is_base.widths swept out)

  pub points_refused : (h : ℤ) (fits : ℤ → Type 0) → HasRoom h fits → IsSwept s base → (limit : ℕ) (cs : List Vector) → AreAllPoints limit There pulled (level_in s base) cs → LacksVector fits base cs → IsPointReachAbove s h
  points_refused h fits room swept limit cs a k =
      let u = vector_cause h fits room base.width k.coordinates base.vectors k.outside in
      of_return fr swept (point a.bounded (Each-contains (IsLatticePoint There pulled (level_in s base)) cs k.coordinates a.list.only k.has)) u.0 u.2

  pub along_refused : (h : ℤ) (fits : ℤ → Type 0) → HasRoom h fits → IsSwept s base → (c : Vector) → IsUnboundedBy There pulled (level_in s base) c → ¬ CombinationSumsFit fits base.width c base.vectors → IsPointReachAbove s h
  along_refused h fits room swept c b out =
      let u = vector_cause h fits room base.width c base.vectors out in
      of_return fr swept (along b.along b.normal) u.0 u.2

  -- refused as in the coordinates of the base
  pub there_refused : (h : ℤ) (limit : ℕ) → IsSwept s base → (r : Work) → IsLiftRefusal h limit There pulled (level_in s base) r → IsSystemRefusal h limit s r
  there_refused h limit swept (Range told) k = (k.0, of_base fr swept k.1)
  there_refused h limit swept TooMany k = record { base = base; rows = pulled; frame = fr; swept = swept; crowd = k }
  there_refused h limit swept (Stopped stage) k = k
  there_refused h limit swept NoMemory k = tt

-- refused by a number
pub number_refused : (h : ℤ) (limit : ℕ) (s : System) (e : Num) (r : Work) → (e ≡ num.Range → IsPointReachAbove s h) → IsUntold e r → IsSystemRefusal h limit s r
number_refused h limit s num.Range r cause w = subst (IsSystemRefusal h limit s) (sym w) (refl, cause refl)
number_refused h limit s num.NoMemory r cause w = subst (IsSystemRefusal h limit s) (sym w) tt

-- the same answer, for a count and a form that are the rank and the level
pub points_there : (limit n : ℕ) (s : System) (base : Base) (rows : List Vector) (form : Vector) (cs : List Vector) → n ≡ length base.vectors → form ≡ level_in s base → AreAllPoints limit n rows form cs → AreAllPoints limit (length base.vectors) rows (level_in s base) cs
points_there limit n s base rows form cs e f a = subst (λ (m : ℕ). AreAllPoints limit m rows (level_in s base) cs) e (subst (λ (l : Vector). AreAllPoints limit n rows l cs) f a)

pub along_there : (n : ℕ) (s : System) (base : Base) (rows : List Vector) (form c : Vector) → n ≡ length base.vectors → form ≡ level_in s base → IsUnboundedBy n rows form c → IsUnboundedBy (length base.vectors) rows (level_in s base) c
along_there n s base rows form c e f a = subst (λ (m : ℕ). IsUnboundedBy m rows (level_in s base) c) e (subst (λ (l : Vector). IsUnboundedBy n rows l c) f a)

pub refusal_there : (h : ℤ) (limit n : ℕ) (s : System) (base : Base) (rows : List Vector) (form : Vector) (r : Work) → n ≡ length base.vectors → form ≡ level_in s base → IsLiftRefusal h limit n rows form r → IsLiftRefusal h limit (length base.vectors) rows (level_in s base) r
refusal_there h limit n s base rows form r e f a = subst (λ (m : ℕ). IsLiftRefusal h limit m rows (level_in s base) r) e (subst (λ (l : Vector). IsLiftRefusal h limit n rows l r) f a)

-- a form of the level at the width that a system was opened with
pub level_same : (n : ℕ) (s : System) (base : Base) (form : Vector) → n ≡ s.width → form ≡ in_coordinates base.vectors (unit_at n (n - 1)) → form ≡ level_in s base
level_same n s base form e f = f ∙ ap (λ (m : ℕ). in_coordinates base.vectors (unit_at m (m - 1))) e

pub sums_same : (fits : ℤ → Type 0) (n : ℕ) (s : System) (base : Base) → n ≡ s.width → ¬ ValueSumsFit fits (unit_at n (n - 1)) base.vectors → ¬ ValueSumsFit fits (unit_at s.width (s.width - 1)) base.vectors
sums_same fits n s base e = subst (λ (m : ℕ). ¬ ValueSumsFit fits (unit_at m (m - 1)) base.vectors) e

pub unit_wide : (w j : ℕ) → length (unit_at w j) ≡ w
unit_wide zero j = refl
unit_wide (suc w) zero = ap suc (zeros_wide w)
  where
    zeros_wide : (n : ℕ) → length (zero_vector n) ≡ n
    zeros_wide zero = refl
    zeros_wide (suc n) = ap suc (zeros_wide n)
unit_wide (suc w) (suc j) = ap suc (unit_wide w j)
