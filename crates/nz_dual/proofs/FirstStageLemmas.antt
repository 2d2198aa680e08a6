-- The first stage: the rays of a simplex and the points of their half-open parallelepiped generate it.
use Rattle.std.proofs.Common.{◌≡◌, ◌⊎◌, ⊎_elim, inl, inr, ℕ, List, [], ◌∷◌, length, map, get_or, pos, ◌≤ℤ◌, Contains, refl, sym, ap, ◌∙◌, subst, arith}
use Rattle.std.proofs.lemmas.List.{length-map}
use Rattle.std.proofs.lemmas.List.Elements.{Contains-append_left, Contains-append_right, Contains-append_cases}
use Rattle.std.specs.List.{AllByRecursion as Each}
use Rattle.nz_spec.specs.Vectors.{Vector, dot, combination, zero_vector, HasWidth, IsZero}
use Rattle.nz_spec.specs.Covers.{vectors_at}
use Rattle.nz_spec.specs.Monoids.{IsPositive}
use Rattle.nz_spec.specs.Order.{IsLexBefore, IsListOf}
use Rattle.nz_spec.specs.Stages.{IsInStage}
use Rattle.nz_spec.specs.Boxes.{IsBoxMember}
use Rattle.nz_spec.specs.Sums.{IsInSpan, IsInCone, IsIndependent}
use Rattle.nz_spec.proofs.ListLaws.{Each-contains, Each-from_contains}
use Rattle.nz_spec.proofs.SumLaws.{IsInCone-box, length-combination}
use Rattle.nz_spec.proofs.VectorLaws.{IsZero-zero_vector, length-minus}
use Rattle.nz_linear.specs.DualPairs.{Pair, pair_of, product, IsDualPair, OnlyZero}
use Rattle.nz_linear.proofs.Dependence.{complete_length}
use Rattle.nz_linear.proofs.Elimination.{all_of_width, complete_of}
use Rattle.nz_linear.proofs.DualPairs.{product_positive, length-factors, spread_is, expansion, dual_independent}
use Rattle.nz_linear.proofs.Lists.{each_of_map, map_each}
use Rattle.nz_linear.proofs.Pointed.{positive_of_pointed}
use Rattle.nz_linear.proofs.RayStart.{dual_pointed}
use Rattle.nz_linear.proofs.SimplexCones.{cone_by_forms}
use Rattle.nz_linear.proofs.ConeMembers.{cone_member}
use Rattle.nz_linear.proofs.Spans.{in_span}
use Rattle.nz_order.proofs.CandidateLaws.{cone_split}
use Rattle.nz_order.proofs.RowLaws.{whole_lattice}
use Rattle.nz_order.proofs.OrderLaws.{lex_irreflexive}
use Rattle.nz_order.proofs.SortLaws.{IsListOf-once}
use Rattle.nz_order.specs.Totals.{IsTotalOf}
use Rattle.nz_order.proofs.TotalLaws.{IsTotalOf-one, IsTotalOf-plus, IsTotalOf-weaker, IsTotalOf-counts}
use Rattle.nz_pointed.specs.Pointed as pointed
use Rattle.nz_classes.specs.Classes.{IsPoint}
use Rattle.nz_classes.specs.Walks.{paired, IsFullSimplex}
use Rattle.nz_classes.proofs.SimplexLemmas.{length-paired, vectors-paired, sides_wide, forms_wide}
use Rattle.nz_reducer.specs.Reducers.{AreSeparated, IsUnreduced}
use Rattle.nz_reducer.proofs.Generating.{unreduced_irreducible}
use Rattle.nz_dual.specs.DualStages.{IsElement, IsStageList}
use Rattle.nz_dual.specs.FirstStage.{IsStartCandidate, AreCandidates}

-- ---- the simplex, as the walk asks for it
same_pairs : (fs vs : List Vector) → pointed.paired fs vs ≡ paired fs vs
same_pairs [] vs = refl
same_pairs (f ∷ fs) [] = refl
same_pairs (f ∷ fs) (v ∷ vs) = ap (λ ps. pair_of f v ∷ ps) (same_pairs fs vs)

pub full_simplex : (rows rays : List Vector) (places : List ℕ) → pointed.IsSimplexOf (length places) rows places rays → IsFullSimplex rays (vectors_at rows places)
full_simplex rows rays places s =
    let fs = vectors_at rows places in
    let n : length places ≡ length rays = sym s.one_each in
    let e = same_pairs fs rays in
    record {
      one_each = length-map places (λ p. get_or rows p []) ∙ n;
      dual = subst (λ (ps : List Pair). IsDualPair (length rays) ps) e (subst (λ (w : ℕ). IsDualPair w (pointed.paired fs rays)) n s.dual);
      only_zero = subst (λ (ps : List Pair). OnlyZero (length rays) ps) e (subst (λ (w : ℕ). OnlyZero w (pointed.paired fs rays)) n s.only_zero);
    }

forms-paired : (fs vs : List Vector) → length fs ≡ length vs → map (λ (p : Pair). p.form) (paired fs vs) ≡ fs
forms-paired [] vs l = refl
forms-paired (f ∷ fs) [] l = absurd (let b : ⊥ = omega arith in b)
forms-paired (f ∷ fs) (v ∷ vs) l = ap (λ gs. f ∷ gs) (forms-paired fs vs (omega arith))

-- ---- the stage of its rows is the cone of its rays
module _ (rows rays : List Vector) (s : IsFullSimplex rays rows) where
  pub vectors_of_pairs : map (λ (p : Pair). p.vector) (paired rows rays) ≡ rays
  vectors_of_pairs = vectors-paired rows rays s.one_each

  pub forms_of_pairs : map (λ (p : Pair). p.form) (paired rows rays) ≡ rows
  forms_of_pairs = forms-paired rows rays s.one_each

  pub span_all : (x : Vector) → HasWidth (length rays) x → IsInSpan (length rays) rays x
  span_all x l =
      let ps = paired rows rays in
      let w = length rays in
      subst (λ (vs : List Vector). IsInSpan w vs x) vectors_of_pairs
      (in_span w (map (λ (p : Pair). p.vector) ps) x (product ps) _ (product_positive ps s.dual.dual) (length-factors ps x ∙ sym (length-map ps (λ (p : Pair). p.vector)))
      (sym (spread_is w ps x) ∙ sym (expansion w (HasWidth w) ps x (all_of_width w) s.dual (complete_of w ps s.dual.widths s.only_zero) l)))

  pub cone_in_stage : (x : Vector) → HasWidth (length rays) x → IsInCone (length rays) rays x → IsInStage (HasWidth (length rays)) rows x
  cone_in_stage x l c =
      let w = length rays in
      let ps = paired rows rays in
      let h = (cone_by_forms w ps x s.dual l (subst (λ (vs : List Vector). IsInSpan w vs x) (sym vectors_of_pairs) (span_all x l))).0 (subst (λ (vs : List Vector). IsInCone w vs x) (sym vectors_of_pairs) c) in
      record {
        in_lattice = l;
        at_least = subst (Each (λ r. pos 0 ≤ℤ dot r x)) forms_of_pairs (each_of_map (λ (p : Pair). p.form) (λ r. pos 0 ≤ℤ dot r x) ps h);
      }

  pub stage_in_cone : (x : Vector) → IsInStage (HasWidth (length rays)) rows x → IsInCone (length rays) rays x
  stage_in_cone x m =
      let w = length rays in
      let ps = paired rows rays in
      let l = m.in_lattice in
      subst (λ (vs : List Vector). IsInCone w vs x) vectors_of_pairs
      ((cone_by_forms w ps x s.dual l (subst (λ (vs : List Vector). IsInSpan w vs x) (sym vectors_of_pairs) (span_all x l))).1
      (map_each (λ (p : Pair). p.form) (λ r. pos 0 ≤ℤ dot r x) ps (subst (Each (λ r. pos 0 ≤ℤ dot r x)) (sym forms_of_pairs) m.at_least)))

  pub rays_wide : Each (HasWidth (length rays)) rays
  rays_wide = sides_wide rays rows s

  pub rows_wide : Each (HasWidth (length rays)) rows
  rows_wide = forms_wide rays rows s

  pub rows_pointed : (x : Vector) → length x ≡ length rays → Each (λ r. dot r x ≡ pos 0) rows → x ≡ zero_vector (length rays)
  rows_pointed x l h = dual_pointed (length rays) (paired rows rays) s.only_zero x l (subst (Each (λ r. dot r x ≡ pos 0)) (sym forms_of_pairs) h)

  pub positive_stage : IsPositive (IsInStage (HasWidth (length rays)) rows)
  positive_stage = positive_of_pointed (length rays) rows (IsInStage (HasWidth (length rays)) rows) rows_pointed (λ x m. (m.in_lattice, m.at_least))

  pub rays_free : IsIndependent (length rays) rays
  rays_free = subst (λ (vs : List Vector). IsIndependent (length rays) vs) vectors_of_pairs (dual_independent (length rays) (paired rows rays) s.dual)

  ray_in_stage : (v : Vector) → Contains rays v → IsInStage (HasWidth (length rays)) rows v
  ray_in_stage v c = cone_in_stage v (Each-contains (HasWidth (length rays)) rays v rays_wide c) (cone_member (length rays) rays v rays_wide c)

  point_in_stage : (v : Vector) → IsPoint (length rays) rays v → IsInStage (HasWidth (length rays)) rows v
  point_in_stage v p = cone_in_stage v p.0 (IsInCone-box (length rays) rays v p.1)

  -- ---- the points and the rays
  pub point_boxed : (v : Vector) → IsPoint (length rays) rays v → IsBoxMember (length rays) (IsInStage (HasWidth (length rays)) rows) rays v
  point_boxed v p = record {
    member = point_in_stage v p;
    vectors = rays;
    of_list = Each-from_contains (Contains rays) rays (λ u c. c);
    independent = rays_free;
    in_box = p.1;
  }

  pub point_listed : (v : Vector) → IsPoint (length rays) rays v → IsStartCandidate (length rays) rows rays v
  point_listed v p = inr (point_boxed v p)

  module _ (candidates : List Vector) (a : AreCandidates rays candidates) where
    listed : (v : Vector) → Contains candidates v → IsPoint (length rays) rays v ⊎ Contains rays v
    listed v c = ⊎_elim (λ h. inl (Each-contains (IsPoint (length rays) rays) a.points v a.lists.only h)) (λ h. inr h) (Contains-append_cases a.points rays v (subst (λ (vs : List Vector). Contains vs v) a.whole c))

    pub candidate_named : (v : Vector) → Contains candidates v → IsStartCandidate (length rays) rows rays v
    candidate_named v c = ⊎_elim (point_listed v) (λ h. inl h) (listed v c)

    pub candidate_in_stage : (v : Vector) → Contains candidates v → IsInStage (HasWidth (length rays)) rows v
    candidate_in_stage v c = ⊎_elim (point_in_stage v) (ray_in_stage v) (listed v c)

    pub separated : AreSeparated rows candidates
    separated = record {
      width = length rays;
      rows_wide = rows_wide;
      candidates_wide = Each-from_contains (HasWidth (length rays)) candidates (λ v c. (candidate_in_stage v c).in_lattice);
      only_zero = λ x l h. subst IsZero (sym (rows_pointed x l h)) (IsZero-zero_vector (length rays));
    }

    -- each vector of the stage is a sum of candidates
    generate : (x : Vector) → IsInStage (HasWidth (length rays)) rows x → IsTotalOf (length rays) (Contains candidates) x
    generate x m =
        let w = length rays in
        let k = cone_split w rays rays_wide x m.in_lattice (stage_in_cone x m) in
        let sum = combination w (map pos k.counts) rays in
        let wide : (v : Vector) → Contains candidates v → HasWidth w v = λ v c. (candidate_in_stage v c).in_lattice in
        let of_rays : (v : Vector) → Contains rays v → Contains candidates v = λ v c. subst (λ (vs : List Vector). Contains vs v) (sym a.whole) (Contains-append_right a.points rays v c) in
        let wc : HasWidth w sum = length-combination w (map pos k.counts) rays rays_wide in
        let lp : HasWidth w k.point = subst (HasWidth w) k.left (length-minus x sum (m.in_lattice ∙ sym wc) ∙ m.in_lattice) in
        let p : Contains candidates k.point = subst (λ (vs : List Vector). Contains vs k.point) (sym a.whole) (Contains-append_left a.points rays k.point (a.lists.each k.point (lp, k.in_box))) in
        subst (IsTotalOf w (Contains candidates)) k.same
        (IsTotalOf-plus w (Contains candidates) wide sum k.point
        (IsTotalOf-weaker w (Contains rays) (Contains candidates) of_rays sum (IsTotalOf-counts w rays k.counts rays_wide))
        (IsTotalOf-one w (Contains candidates) k.point lp p))

    pub first_list : (xs : List Vector) → IsListOf IsLexBefore (IsUnreduced rows candidates) xs → IsListOf IsLexBefore (IsElement (length rays) rows) xs
    first_list xs h = unreduced_irreducible (length rays) (HasWidth (length rays)) (whole_lattice (length rays)) rows candidates positive_stage (Each-from_contains (IsInStage (HasWidth (length rays)) rows) candidates candidate_in_stage) generate xs h

-- a stage of these rows and this list
pub first_stage : (w : ℕ) (rows rays chosen list : List Vector) (places : List ℕ) → w ≡ length places → chosen ≡ vectors_at rows places → pointed.IsSimplexOf (length places) rows places rays → IsListOf IsLexBefore (IsElement (length rays) chosen) list → IsStageList w chosen list
first_stage w rows rays chosen list places ew ec s l =
    let f : IsFullSimplex rays chosen = subst (λ (c : List Vector). IsFullSimplex rays c) (sym ec) (full_simplex rows rays places s) in
    subst (λ (n : ℕ). IsStageList n chosen list) (s.one_each ∙ sym ew) (record {
      rows_wide = rows_wide chosen rays f;
      positive = positive_stage chosen rays f;
      lists = IsListOf-once IsLexBefore lex_irreflexive (IsElement (length rays) chosen) list l;
    })

-- a simplex has as many places as its vectors have entries
pub own_width : (w : ℕ) (rows rays : List Vector) (places : List ℕ) → pointed.IsSimplexOf w rows places rays → w ≡ length places
own_width w rows rays places s =
    let fs = vectors_at rows places in
    let lf : length fs ≡ length places = length-map places (λ p. get_or rows p []) in
    let l : length fs ≡ length rays = lf ∙ sym s.one_each in
    let e = same_pairs fs rays in
    let d : IsDualPair w (paired fs rays) = subst (λ (ps : List Pair). IsDualPair w ps) e s.dual in
    let o : OnlyZero w (paired fs rays) = subst (λ (ps : List Pair). OnlyZero w ps) e s.only_zero in
    sym (complete_length w (paired fs rays) d o) ∙ length-paired fs rays l ∙ s.one_each

pub at_own_width : (w : ℕ) (rows rays : List Vector) (places : List ℕ) → pointed.IsSimplexOf w rows places rays → pointed.IsSimplexOf (length places) rows places rays
at_own_width w rows rays places s = subst (λ (n : ℕ). pointed.IsSimplexOf n rows places rays) (own_width w rows rays places s) s
