-- From the lists in the coordinates of a system's base to those of the file.
use Rattle.std.proofs.Common.{◌≡◌, ◌≢◌, ◌↔◌, ◌⊎◌, inl, inr, ℕ, ◌-◌, ◌≤◌, Bool, true, false, List, [], ◌∷◌, length, map, ℤ, pos, ◌≤ℤ◌, Contains, None, refl, sym, ap, ◌∙◌, subst, arith}
use Rattle.std.specs.List.{AllByRecursion as Each}
use Rattle.std.specs.List.Sorted.{IsPermutation}
use Rattle.std.proofs.lemmas.List.Sorted.{Contains-permutation, length_permutation, IsPermutation-sym}
use Rattle.nz_spec.specs.Vectors.{Vector, dot, combination, unit_vectors, HasWidth}
use Rattle.nz_spec.specs.Order.{IsLexBefore, IsListOf}
use Rattle.nz_spec.specs.Sums.{IsInGroup, IsIndependent}
use Rattle.nz_spec.specs.Monoids.{IsIrreducible}
use Rattle.nz_spec.specs.Systems.{System, IsSystem, IsMember}
use Rattle.nz_spec.specs.Stages.{IsInStage}
use Rattle.nz_spec.proofs.LinearLaws.{length-mapped}
use Rattle.nz_spec.proofs.ListLaws.{Each-contains, Each-from_contains}
use Rattle.nz_spec.proofs.SumLaws.{length-combination}
use Rattle.nz_linear.specs.Coordinates.{AreCoordinates, in_coordinates}
use Rattle.nz_linear.proofs.Coordinates.{same_coordinates, irreducible_forth, irreducible_back}
use Rattle.nz_linear.proofs.Lists.{each_map, each_of_map, map_each}
use Rattle.nz_order.proofs.OrderLaws.{lex_irreflexive}
use Rattle.nz_order.proofs.SortLaws.{Pairwise-different}
use Rattle.nz_scalar.specs.Room.{HasRoom}
use Rattle.nz_vec.specs.declared.answers.Num.{Num}
use Rattle.nz_vec.specs.declared.answers.Num.TheVariants as num
use Rattle.nz_vec.specs.declared.answers.Work.{Work}
use Rattle.nz_vec.specs.declared.answers.Work.TheVariants.{Range, TooMany, Stopped, NoMemory}
use Rattle.nz_sweep.specs.Bases.{Base}
use Rattle.nz_sweep.specs.Lists.{LacksVector}
use Rattle.nz_sweep.proofs.BaseLemmas.{units_are_base}
use Rattle.nz_measures.specs.Sweeps.{IsSwept}
use Rattle.nz_measures.specs.Reaches.{HasOwnAbove}
use Rattle.nz_measures.proofs.Measuring.{vector_cause}
use Rattle.nz_degree.specs.Degrees.{IsInOrder}
use Rattle.nz_degree.specs.Levels.{HasEntry}
use Rattle.nz_degree.proofs.ElementLaws.{sorted_is_list}
use Rattle.nz_dual.specs.Sides.{IsWorkOf}
use Rattle.nz_frame.specs.Frames.{IsFrame, IsBaseOf, IsInGiven, vector_at}
use Rattle.nz_frame.proofs.LatticeLemmas.{whole_base}
use Rattle.nz_further.specs.Units.{IsUnitSplit, AreClassesOf, GenerateUnits, RepresentClasses}
use Rattle.nz_further.proofs.InOrder.{contains_map, map_contains}
use Rattle.nz_further.proofs.UnitBridges.{value_in, sum_through, split_forth, system_units}
use Rattle.nz_further.proofs.UnitLaws.{classes_are_irreducibles}
use Rattle.nz_units.specs.Splits.{AreForLattice}
use Rattle.nz_units.specs.UnitLists.{AreUnitLists}
use Rattle.nz_units.specs.Refusals.{IsUnitRefusal}
use Rattle.nz_units.specs.SystemUnits.{AreUnitsOf, AreByLevel, AreSystemUnits}
use Rattle.nz_units.specs.SystemRefusals.{IsUnitReachAbove, of_file, of_base, of_return, IsUnitCrowdAbove, IsSystemRefusal}
use Rattle.nz_units.proofs.ListLemmas.{different_back}

-- ---- the unit vectors are a base of all vectors
units_base : (n : ℕ) → IsBaseOf n (IsInGiven n None) (record { width = n; vectors = unit_vectors n; coordinates = [] })
units_base n = whole_base n (record { width = n; vectors = unit_vectors n; coordinates = [] }) refl refl (units_are_base n (unit_vectors n) [] refl)

pub for_units : (n : ℕ) (lattice rows : List Vector) → lattice ≡ unit_vectors n → Each (HasWidth n) rows → AreForLattice lattice rows
for_units n lattice rows e wide = subst (λ (l : List Vector). AreForLattice l rows) (sym e) (record { width = n; vectors = (units_base n).widths; row_widths = wide; independent = (units_base n).independent })

pub lists_at : (n : ℕ) (lattice rows units classes : List Vector) → lattice ≡ unit_vectors n → ((w : ℕ) → Each (HasWidth w) lattice → IsIndependent w lattice → AreUnitLists w lattice rows units classes) → AreUnitLists n (unit_vectors n) rows units classes
lists_at n lattice rows units classes e h = subst (λ (l : List Vector). (w : ℕ) → Each (HasWidth w) l → IsIndependent w l → AreUnitLists w l rows units classes) e h n (units_base n).widths (units_base n).independent

module _ (s : System) (base : Base) (pulled : List Vector) (fr : IsFrame s base pulled) where
  abbrev At : Vector → Vector
  At c = combination s.width c base.vectors

  abbrev There : ℕ
  There = length base.vectors

  pub pulled_wide : Each (HasWidth There) pulled
  pulled_wide = subst (Each (HasWidth There)) (sym fr.there) (each_of_map (λ h. in_coordinates base.vectors h) (HasWidth There) fr.rows (Each-from_contains (λ h. HasWidth There (in_coordinates base.vectors h)) fr.rows (λ h c. length-mapped (dot h) base.vectors)))

  at_file : (cs : List Vector) → map (λ c. vector_at base c) cs ≡ map At cs
  at_file cs = ap (λ (n : ℕ). map (λ c. combination n c base.vectors) cs) fr.is_base.width

  whole : (c : Vector) → HasWidth There c ↔ IsInGroup There (unit_vectors There) c
  whole c = ((λ l. ((units_base There).same c).0 (l, tt)), (λ g. (((units_base There).same c).1 g).0))

  -- the members in the group of the rest, in coordinates
  of_rest : (rest : List Vector) → Each (HasWidth There) rest → AreCoordinates s.width base.vectors (IsInStage (IsInGroup s.width (map At rest)) fr.rows) (IsInStage (IsInGroup There rest) pulled)
  of_rest rest wide = record {
    widths = fr.is_base.widths;
    independent = fr.is_base.independent;
    one_each = λ c i. one c i.in_lattice;
    forth = λ c i. let g = i.in_lattice in record {
      in_lattice = record { factors = g.factors; one_each = g.one_each ∙ sym (length-mapped At rest); same = sum_through s.width base.vectors fr.is_base.widths g.factors rest wide ∙ ap At g.same };
      at_least = each_map (λ r. pos 0 ≤ℤ dot (in_coordinates base.vectors r) c) (λ r. pos 0 ≤ℤ dot r (At c)) fr.rows (λ r h. subst (λ (z : ℤ). pos 0 ≤ℤ z) (value_in s.width base.vectors r c fr.is_base.widths) h)
          (map_each (λ r. in_coordinates base.vectors r) (λ f. pos 0 ≤ℤ dot f c) fr.rows (subst (Each (λ f. pos 0 ≤ℤ dot f c)) fr.there i.at_least));
    };
    back = λ x m.
        let g = m.in_lattice in
        let c = combination There g.factors rest in
        let e : At c ≡ x = sym (sum_through s.width base.vectors fr.is_base.widths g.factors rest wide) ∙ g.same in (
          c,
          record {
            in_lattice = record { factors = g.factors; one_each = g.one_each ∙ length-mapped At rest; same = refl };
            at_least = subst (Each (λ f. pos 0 ≤ℤ dot f c)) (sym fr.there) (each_of_map (λ r. in_coordinates base.vectors r) (λ f. pos 0 ≤ℤ dot f c) fr.rows
                (each_map (λ r. pos 0 ≤ℤ dot r x) (λ r. pos 0 ≤ℤ dot (in_coordinates base.vectors r) c) fr.rows (λ r h. subst (λ (z : ℤ). pos 0 ≤ℤ z) (sym (value_in s.width base.vectors r c fr.is_base.widths ∙ ap (dot r) e)) h) m.at_least));
          },
          e,
        );
  }
    where
      one : (c : Vector) → IsInGroup There rest c → length c ≡ There
      one c g = ap length (sym g.same) ∙ length-combination There g.factors rest wide

  module _ (is : IsSystem s) (units_there classes_there : List Vector) (t : AreUnitLists There (unit_vectors There) pulled units_there classes_there) where
    abbrev RestThere : List Vector
    RestThere = t.rest

    irreducibles_there : IsListOf IsLexBefore (IsIrreducible (IsInStage (IsInGroup There RestThere) pulled)) classes_there
    irreducibles_there = (classes_are_irreducibles There (unit_vectors There) pulled units_there RestThere (units_base There).widths t.split classes_there).1 t.list

    pub units_wide : Each (HasWidth There) units_there
    units_wide = t.split.unit_widths

    pub classes_wide : Each (HasWidth There) classes_there
    classes_wide = each_map (IsIrreducible (IsInStage (IsInGroup There RestThere) pulled)) (HasWidth There) classes_there (λ c i. (of_rest RestThere t.split.rest_widths).one_each c i.member) irreducibles_there.only

    split_in_file : IsUnitSplit s.width base.vectors fr.rows (map At units_there) (map At RestThere)
    split_in_file = split_forth s.width base.vectors fr.is_base.widths fr.is_base.independent fr.rows units_there RestThere (unit_vectors There) (units_base There).widths whole
        (subst (λ (ps : List Vector). IsUnitSplit There (unit_vectors There) ps units_there RestThere) fr.there t.split)

    -- the classes taken back, in order
    listed_in_file : (classes : List Vector) → IsPermutation (map At classes_there) classes → IsInOrder None classes → AreClassesOf s.width base.vectors fr.rows (map At RestThere) classes
    listed_in_file classes moved ordered =
        let M = IsInStage (IsInGroup s.width (map At RestThere)) fr.rows in
        let C = IsInStage (IsInGroup There RestThere) pulled in
        let k = of_rest RestThere t.split.rest_widths in
        let different = different_back At (HasWidth There) (λ c d l m e. same_coordinates s.width base.vectors M C k c d l m e) classes_there classes_wide (Pairwise-different IsLexBefore lex_irreflexive classes_there irreducibles_there.in_order) in
        let wide : Each (HasWidth s.width) (map At classes_there) = each_of_map At (HasWidth s.width) classes_there (each_map (HasWidth There) (λ c. HasWidth s.width (At c)) classes_there (λ c l. length-combination s.width c base.vectors fr.is_base.widths) classes_wide) in
        let sorted = sorted_is_list s.width None (map At classes_there) classes wide different moved ordered in
        (classes_are_irreducibles s.width base.vectors fr.rows (map At units_there) (map At RestThere) fr.is_base.widths split_in_file classes).0 (record {
          in_order = sorted.in_order;
          only = Each-from_contains (IsIrreducible M) classes (λ x c.
              let r = map_contains At classes_there x (Each-contains (Contains (map At classes_there)) classes x sorted.only c) in
              subst (IsIrreducible M) r.2 (irreducible_forth s.width base.vectors M C k r.0 (Each-contains (IsIrreducible C) classes_there r.0 irreducibles_there.only r.1)));
          each = λ x i.
              let b = k.back x i.member in
              let n = k.one_each b.0 b.1 in
              sorted.each x (subst (Contains (map At classes_there)) b.2 (contains_map At classes_there b.0 (irreducibles_there.each b.0 (irreducible_back s.width base.vectors M C k b.0 n (subst (IsIrreducible M) (sym b.2) i)))));
        })

    pub units_of : IsSwept s base → (units classes : List Vector) → units ≡ map (λ c. vector_at base c) units_there → IsPermutation (map (λ c. vector_at base c) classes_there) classes → IsInOrder None classes → AreUnitsOf s units classes
    units_of swept units classes same moved ordered =
        let list = listed_in_file classes (subst (λ (xs : List Vector). IsPermutation xs classes) (at_file classes_there) moved) ordered in
        let both = system_units s is fr.equations fr.rows base.vectors (map At units_there) (map At RestThere) classes fr.are_equations fr.are_rows fr.is_base.widths fr.is_base.same split_in_file list in
        record {
          base = base;
          pulled = pulled;
          frame = fr;
          swept = swept;
          units_there = units_there;
          rest_there = RestThere;
          steps = t.steps;
          units_back = same;
          list = subst (λ (rest : List Vector). AreClassesOf s.width base.vectors fr.rows rest classes) (sym (at_file RestThere)) list;
          generate = subst (λ (us : List Vector). GenerateUnits s.width (IsMember s) us) (sym (same ∙ at_file units_there)) both.0;
          represent = both.1;
        }

    -- a list that cannot be taken back has a large sum
    pub return_refused : (h : ℤ) (fits : ℤ → Type 0) → HasRoom h fits → IsSwept s base → LacksVector fits base units_there ⊎ LacksVector fits base classes_there → IsUnitReachAbove s h
    return_refused h fits room swept l = elim l [
      | inl k ↦ (let u = vector_cause h fits room base.width k.coordinates base.vectors k.outside in of_return fr swept t (inl k.has) u.0 u.2)
      | inr k ↦ (let u = vector_cause h fits room base.width k.coordinates base.vectors k.outside in of_return fr swept t (inr k.has) u.0 u.2)
    ]

-- ---- refusals
-- a vector of a system has an entry
some_width : (s : System) → IsSystem s → 1 ≤ s.width
some_width s is = by s.level refl
  where
    by : (level : Bool) → s.level ≡ level → 1 ≤ s.width
    by true e = (let l : 1 ≤ s.width - 1 = subst (λ (b : Bool). 1 ≤ elim b [ true ↦ s.width - 1 | false ↦ s.width ]) e is.at_least in omega (arith, l))
    by false e = subst (λ (b : Bool). 1 ≤ elim b [ true ↦ s.width - 1 | false ↦ s.width ]) e is.at_least

pub entries_there : (s : System) → IsSystem s → (base : Base) (pulled : List Vector) → IsFrame s base pulled → (cs classes : List Vector) → IsPermutation (map (λ c. vector_at base c) cs) classes → Each HasEntry classes
entries_there s is base pulled fr cs classes moved =
    let w = base.width in
    let vs = base.vectors in
    let e : w ≡ s.width = fr.is_base.width in
    let wide : Each (HasWidth w) vs = subst (λ (n : ℕ). Each (HasWidth n) vs) (sym e) fr.is_base.widths in
    let back = map (λ c. combination w c vs) cs in
    Each-from_contains HasEntry classes (λ x k.
    let there = map_contains (λ c. combination w c vs) cs x (Contains-permutation classes back x (IsPermutation-sym back classes moved) k) in
    subst (λ (n : ℕ). 1 ≤ n) (sym (ap length (sym there.2) ∙ length-combination w there.0 vs wide ∙ e)) (some_width s is))

-- refused as the split in the coordinates of the base is
pub there_refused : (h : ℤ) (limit : ℕ) (s : System) (base : Base) (pulled : List Vector) → IsFrame s base pulled → IsSwept s base → (r : Work) → IsUnitRefusal h limit (unit_vectors (length base.vectors)) pulled r → IsSystemRefusal h limit s r
there_refused h limit s base pulled fr swept (Range told) k = (k.0, of_base fr swept k.1)
there_refused h limit s base pulled fr swept TooMany k = record { base = base; rows = pulled; frame = fr; swept = swept; crowd = k (length base.vectors) (units_base (length base.vectors)).widths (units_base (length base.vectors)).independent }
there_refused h limit s base pulled fr swept (Stopped stage) k = k
there_refused h limit s base pulled fr swept NoMemory k = tt

-- refused by a number
pub number_refused : (h : ℤ) (limit : ℕ) (s : System) (e : Num) (r : Work) → (e ≡ num.Range → IsUnitReachAbove s h) → IsWorkOf e r → IsSystemRefusal h limit s r
number_refused h limit s e (Range told) cause w = (w.1, cause w.0)
number_refused h limit s e TooMany cause w = absurd w
number_refused h limit s e (Stopped stage) cause w = w
number_refused h limit s e NoMemory cause w = tt

-- the lists by level, where the level is known only up to equality
-- as many vectors come back as there are there
pub as_many_back : (limit : ℕ) (base : Base) (cs classes : List Vector) → IsPermutation (map (λ c. vector_at base c) cs) classes → length cs ≤ limit → length classes ≤ limit
as_many_back limit base cs classes moved few = let n = length_permutation (map (λ c. vector_at base c) cs) classes moved ∙ length-mapped (λ c. vector_at base c) cs in omega (arith, n, few)

pub system_lists : (limit : ℕ) (s : System) (level : Bool) (units back classes modules zero : List Vector) → length classes ≤ limit → level ≡ s.level → AreUnitsOf s back classes → units ≡ back → AreByLevel level classes modules zero → AreSystemUnits limit s units modules zero
system_lists limit s level units back classes modules zero few e are same levels = record {
  representatives = classes;
  within = few;
  are = subst (λ (us : List Vector). AreUnitsOf s us classes) (sym same) are;
  levels = subst (λ (b : Bool). AreByLevel b classes modules zero) e levels;
}
