-- The irreducibles in the coordinates of the rest, taken back and sorted, are the list of the classes.
use Rattle.std.proofs.Common.{◌≡◌, ◌≢◌, ◌↔◌, ⊎_elim, inl, inr, ℕ, ◌+◌, ◌-◌, ◌<◌, ◌≤◌, max, List, [], ◌∷◌, ◌++◌, length, map, ℤ, pos, Contains, None, refl, sym, ap, ◌∙◌, subst, arith}
use Rattle.std.proofs.lemmas.List.{length-map}
use Rattle.std.proofs.lemmas.List.Sorted.{length_permutation}
use Rattle.std.specs.List.{AllByRecursion as Each, AllZip, range_with_len}
use Rattle.std.specs.List.Sorted.{IsPermutation}
use Rattle.nz_spec.specs.Vectors.{Vector, combination, values_at, HasWidth, IsZero, IsNonzero}
use Rattle.nz_spec.specs.Covers.{vectors_at}
use Rattle.nz_spec.specs.Order.{Pairwise, IsLexBefore, IsListOf}
use Rattle.nz_spec.specs.Sums.{IsInGroup, IsIndependent}
use Rattle.nz_spec.specs.Monoids.{IsIrreducible}
use Rattle.nz_spec.specs.Stages.{IsInStage, AreStages}
use Rattle.nz_spec.proofs.ListLaws.{Each-contains, Each-weaker}
use Rattle.nz_spec.proofs.SumLaws.{length-combination}
use Rattle.nz_linear.specs.Cones.{IsInRows}
use Rattle.nz_linear.specs.Coordinates.{in_coordinates}
use Rattle.nz_linear.specs.Extreme.{IsPointed}
use Rattle.nz_linear.proofs.Coordinates.{stage_coordinates, same_coordinates}
use Rattle.nz_linear.proofs.Lists.{each_map, each_of_map}
use Rattle.nz_order.proofs.OrderLaws.{lex_irreflexive}
use Rattle.nz_order.proofs.SideLaws.{IsIrreducible-where}
use Rattle.nz_order.proofs.SortLaws.{Pairwise-different, IsListOf-where}
use Rattle.nz_degree.specs.Degrees.{IsInOrder}
use Rattle.nz_degree.proofs.ElementLaws.{sorted_is_list}
use Rattle.nz_dual.specs.DualStages.{IsElement}
use Rattle.nz_further.specs.Units.{IsUnitSplit, AreClassesOf}
use Rattle.nz_further.proofs.UnitBridges.{rest_free, rest_pointed, classes_from_coordinates}
use Rattle.nz_further.proofs.UnitLaws.{units_generate, classes_represent}
use Rattle.nz_units.specs.Splits.{IsSplitBy}
use Rattle.nz_units.specs.UnitLists.{AreUnitLists, width_of}
use Rattle.nz_units.proofs.CoordinateLemmas.{all_values_in}
use Rattle.nz_units.proofs.SplitLemmas.{split_ends}

-- ---- widths
pub width_is : (w : ℕ) (vs : List Vector) → Each (HasWidth w) vs → Each (HasWidth (width_of vs)) vs
width_is w [] h = tt
width_is w (v ∷ vs) h = subst (λ (n : ℕ). Each (HasWidth n) (v ∷ vs)) (sym h.0) h

-- coordinates that are not 0 are taken back at any width of the list
back_at : (w : ℕ) (vs cs : List Vector) → Each (HasWidth w) vs → Each (HasWidth (length vs)) cs → Each IsNonzero cs → map (λ c. combination (width_of vs) c vs) cs ≡ map (λ c. combination w c vs) cs
back_at w [] [] h l n = refl
back_at w [] ([] ∷ cs) h l n = absurd (n.0 tt)
back_at w [] ((a ∷ c) ∷ cs) h l n = absurd (let e = l.0 in let b : ⊥ = omega (arith, e) in b)
back_at w (v ∷ vs) cs h l n = ap (λ (m : ℕ). map (λ c. combination m c (v ∷ vs)) cs) h.0

-- ---- the irreducibles
element_in_rows : (w : ℕ) (rows : List Vector) (c : Vector) → IsElement w rows c → IsIrreducible (IsInRows w rows) c
element_in_rows w rows = IsIrreducible-where (IsInStage (HasWidth w) rows) (IsInRows w rows) (λ x m. (m.in_lattice, m.at_least)) (λ x m. record { in_lattice = m.0; at_least = m.1 })

in_rows_element : (w : ℕ) (rows : List Vector) (c : Vector) → IsIrreducible (IsInRows w rows) c → IsElement w rows c
in_rows_element w rows = IsIrreducible-where (IsInRows w rows) (IsInStage (HasWidth w) rows) (λ x m. record { in_lattice = m.0; at_least = m.1 }) (λ x m. (m.in_lattice, m.at_least))

pub found_in_rows : (w : ℕ) (rows found : List Vector) → IsListOf IsLexBefore (IsElement w rows) found → (c : Vector) → Contains found c → IsIrreducible (IsInRows w rows) c
found_in_rows w rows found list c k = element_in_rows w rows c (Each-contains (IsElement w rows) found c list.only k)

pub found_wide : (w : ℕ) (rows found : List Vector) → IsListOf IsLexBefore (IsElement w rows) found → Each (HasWidth w) found
found_wide w rows found list = each_map (IsElement w rows) (HasWidth w) found (λ c i. i.member.in_lattice) list.only

pub different_back : (at : Vector → Vector) (P : Vector → Type 0) → ((c d : Vector) → P c → P d → at c ≡ at d → c ≡ d) → (cs : List Vector) → Each P cs → Pairwise ◌≢◌ cs → Pairwise ◌≢◌ (map at cs)
different_back at P one [] h d = tt
different_back at P one (c ∷ cs) h d = (go cs h.1 d.0, different_back at P one cs h.1 d.1)
  where
    go : (es : List Vector) → Each P es → Each (λ e. c ≢ e) es → Each (λ y. at c ≢ y) (map at es)
    go [] k n = tt
    go (e ∷ es) k n = ((λ s. n.0 (one c e h.0 k.0 s)), go es k.1 n.1)

-- taking back and sorting keeps the number
pub no_more : (v limit : ℕ) (rest found list classes : List Vector) → list ≡ map (λ c. combination v c rest) found → IsPermutation list classes → length found ≤ limit → length classes ≤ limit
no_more v limit rest found list classes same moved few =
    subst (λ (n : ℕ). n ≤ limit) (sym (length_permutation list classes moved ∙ ap length same ∙ length-map found (λ c. combination v c rest))) few

-- ---- the lists
module _ (w : ℕ) (lattice rows units rest : List Vector) (wide : Each (HasWidth w) lattice) (free : IsIndependent w lattice) (steps : IsSplitBy lattice rows units rest) where
  split : IsUnitSplit w lattice rows units rest
  split = split_ends w lattice rows units rest wide free steps

  pub values_pointed : IsPointed (length rest) (map (λ r. values_at rest r) rows)
  values_pointed = subst (IsPointed (length rest)) (sym (all_values_in rest rows)) (rest_pointed w lattice rows units rest wide split)

  lists_of : (found list classes : List Vector) → IsListOf IsLexBefore (IsElement (length rest) (map (λ r. values_at rest r) rows)) found → list ≡ map (λ c. combination (width_of rest) c rest) found → IsPermutation list classes → IsInOrder None classes → AreUnitLists w lattice rows units classes
  lists_of found list classes are same moved ordered =
      let n = length rest in
      let pulled = map (λ r. in_coordinates rest r) rows in
      let all : IsListOf IsLexBefore (IsElement n pulled) found = subst (λ rs. IsListOf IsLexBefore (IsElement n rs) found) (all_values_in rest rows) are in
      let k = stage_coordinates w rest rows split.rest_widths (rest_free w lattice rows units rest wide split) in
      let widths = found_wide n pulled found all in
      let nonzero = each_map (IsElement n pulled) IsNonzero found (λ c i. i.nonzero) all.only in
      let back : list ≡ map (λ c. combination w c rest) found = same ∙ back_at w rest found split.rest_widths widths nonzero in
      let different = different_back (λ c. combination w c rest) (HasWidth n) (λ c d l m e. same_coordinates w rest (IsInStage (IsInGroup w rest) rows) (IsInRows n pulled) k c d l m e) found widths (Pairwise-different IsLexBefore lex_irreflexive found all.in_order) in
      let wide_list : Each (HasWidth w) (map (λ c. combination w c rest) found) = each_of_map (λ c. combination w c rest) (HasWidth w) found (each_map (HasWidth n) (λ c. HasWidth w (combination w c rest)) found (λ c l. length-combination w c rest split.rest_widths) widths) in
      let s = sorted_is_list w None (map (λ c. combination w c rest) found) classes wide_list different (subst (λ xs. IsPermutation xs classes) back moved) ordered in
      let listed : AreClassesOf w lattice rows rest classes = classes_from_coordinates w lattice rows units rest wide split found classes
      (λ c. ((λ m. found_in_rows n pulled found all c m), (λ i. all.each c (in_rows_element n pulled c i)))) s.in_order
      (λ x. ((λ c. Each-contains (Contains (map (λ c. combination w c rest) found)) classes x s.only c), (λ c. s.each x c))) in
      record {
        rest = rest;
        steps = steps;
        split = split;
        generate = units_generate w lattice rows units rest wide split;
        list = listed;
        represent = classes_represent w lattice rows units rest wide split classes listed;
      }

  -- the same where the numbers and the lists are known only up to equality
  pub listed : (n v : ℕ) (there found list classes : List Vector) → n ≡ length rest → there ≡ map (λ r. values_at rest r) rows → IsListOf IsLexBefore (IsElement n there) found → v ≡ width_of rest → list ≡ map (λ c. combination v c rest) found → IsPermutation list classes → IsInOrder None classes → AreUnitLists w lattice rows units classes
  listed n v there found list classes a b are e same moved ordered =
      lists_of found list classes (subst (λ (rs : List Vector). IsListOf IsLexBefore (IsElement (length rest) rs) found) b (subst (λ (m : ℕ). IsListOf IsLexBefore (IsElement m there) found) a are))
      (same ∙ ap (λ (m : ℕ). map (λ c. combination m c rest) found) e) moved ordered
