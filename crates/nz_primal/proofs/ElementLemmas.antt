-- From a placed cone in second coordinates to its irreducible elements.
use Rattle.std.proofs.Common.{◌≡◌, ◌≢◌, ◌⊎◌, ⊎_elim, ℕ, suc, ◌<◌, ◌≤◌, None, List, [], ◌∷◌, length, map, Contains, refl, sym, ap, ◌∙◌, subst, arith}
use Rattle.std.proofs.lemmas.List.{length-map}
use Rattle.std.proofs.lemmas.List.Sorted.{length_permutation}
use Rattle.std.specs.List.{AllByRecursion as Each, AllZip}
use Rattle.std.specs.List.Sorted.{IsPermutation}
use Rattle.nz_spec.specs.Vectors.{Vector, combination, zero_vector, HasWidth}
use Rattle.nz_spec.specs.Sums.{IsInCone, IsInBox}
use Rattle.nz_spec.specs.Order.{Pairwise, IsLexBefore, IsListOf}
use Rattle.nz_spec.specs.Monoids.{IsPositive, IsIrreducible}
use Rattle.nz_spec.specs.Stages.{IsInStage}
use Rattle.nz_spec.specs.Covers.{vectors_at, IsSimplex, IsGoodCover}
use Rattle.nz_spec.specs.Forms.{IsDualForm, AreDualForms}
use Rattle.nz_linear.specs.DualPairs.{IsDualPair, OnlyZero}
use Rattle.nz_spec.proofs.ListLaws.{Each-contains, Each-from_contains, IsLexBefore-asymmetric}
use Rattle.nz_spec.proofs.LinearLaws.{HasRank-unique}
use Rattle.nz_spec.proofs.SumLaws.{IsInCone-box}
use Rattle.nz_linear.specs.Cones.{IsInRows}
use Rattle.nz_linear.proofs.Lists.{each_map, each_map2, each_of_map}
use Rattle.nz_linear.proofs.ConeMembers.{cone_member, cone_of_members}
use Rattle.nz_linear.proofs.Pointed.{positive_of_pointed}
use Rattle.nz_spec.proofs.VectorLaws.{zero_vector_of}
use Rattle.nz_order.specs.Candidates.{IsCandidate}
use Rattle.nz_order.proofs.TotalLaws.{IsTotalOf-weaker}
use Rattle.nz_order.proofs.RowLaws.{whole_lattice}
use Rattle.nz_order.proofs.CandidateLaws.{candidates_generate}
use Rattle.nz_order.proofs.SortLaws.{Pairwise-different, IsListOf-where}
use Rattle.nz_order.proofs.SideLaws.{IsIrreducible-where}
use Rattle.nz_classes.specs.Walks.{paired, IsFullSimplex}
use Rattle.nz_reducer.specs.Reducers.{AreSeparated, IsUnreduced}
use Rattle.nz_reducer.proofs.Generating.{unreduced_irreducible}
use Rattle.nz_degree.specs.Degrees.{IsInOrder}
use Rattle.nz_degree.proofs.ElementLaws.{sorted_is_list}
use Rattle.nz_cover.specs.Placing.{IsInConeOf}
use Rattle.nz_sweep.specs.Bases.{Base, IsBase}
use Rattle.nz_primal.specs.Parts.{IsSecondCone, IsVectorOf, AreFullSimplices, IsPointOf, IsCrowded, AreCandidates}
use Rattle.nz_primal.proofs.DualLemmas.{dual_pair, dual_only_zero, zip_length}
use Rattle.nz_linear.proofs.CoverCoordinates.{vectors_wide, vectors_listed}
use Rattle.nz_linear.proofs.SumCoordinates.{image_of, mapped_has, at_same, at_widths}

module _ (w : ℕ) (rows rays : List Vector) (k : IsSecondCone w rows rays) where
  abbrev Member : Vector → Type 0
  Member = IsInStage (HasWidth w) rows

  to_rows : (x : Vector) → Member x → IsInRows w rows x
  to_rows x m = (m.in_lattice, m.at_least)

  to_stage : (x : Vector) → IsInRows w rows x → Member x
  to_stage x m = record { in_lattice = m.0; at_least = m.1 }

  in_cone : (x : Vector) → HasWidth w x → IsInCone w rays x → Member x
  in_cone x l c = to_stage x ((k.cone x l).0 c)

  positive : IsPositive Member
  positive = positive_of_pointed w rows Member (λ x l z. zero_vector_of x (k.pointed x l z) ∙ ap zero_vector l) to_rows

  ray_member : (x : Vector) → Contains rays x → Member x
  ray_member x c = in_cone x (Each-contains (HasWidth w) rays x k.rays_wide c) (cone_member w rays x k.rays_wide c)

  -- a good cover of the cone is one of the vectors at which the rows are at least 0
  stage_cover : (simplices : List (List ℕ)) → IsGoodCover w (IsInConeOf w rays) rays simplices → IsGoodCover w Member rays simplices
  stage_cover simplices g = record {
    in_order = g.in_order;
    simplices = g.simplices;
    covers = λ x m n. g.covers x (m.in_lattice, (k.cone x m.in_lattice).1 (to_rows x m)) n;
    no_overlap = λ p q cp cq ne x m. g.no_overlap p q cp cq ne x (m.in_lattice, (k.cone x m.in_lattice).1 (to_rows x m));
    none = g.none;
  }

  pub simplex_size : (places : List ℕ) → IsSimplex w rays places → length places ≡ w
  simplex_size places s = HasRank-unique w (Contains rays) (length places) w (λ x c. Each-contains (HasWidth w) rays x k.rays_wide c) s.full k.full

  sides_size : (places : List ℕ) → length (vectors_at rays places) ≡ length places
  sides_size [] = refl
  sides_size (p ∷ places) = ap suc (sides_size places)

  full_simplex : (places : List ℕ) (fs : List Vector) → IsSimplex w rays places → AreDualForms w (vectors_at rays places) fs → IsFullSimplex (vectors_at rays places) fs
  full_simplex places fs s d =
      let vs = vectors_at rays places in
      let size : length vs ≡ w = sides_size places ∙ simplex_size places s in
      let wide = vectors_wide w rays places k.rays_wide s.within in
      record {
        one_each = zip_length (IsDualForm w vs) vs fs d;
        dual = subst (λ n. IsDualPair n (paired fs vs)) (sym size) (dual_pair w vs fs wide s.independent d);
        only_zero = subst (λ n. OnlyZero n (paired fs vs)) (sym size) (dual_only_zero w vs fs wide s.independent size d);
      }

  pub full_simplices : (simplices : List (List ℕ)) (forms : List (List Vector)) → Each (IsSimplex w rays) simplices → AllZip (λ places fs. AreDualForms w (vectors_at rays places) fs) simplices forms → AreFullSimplices rays simplices forms
  full_simplices [] [] h z = tt
  full_simplices [] (fs ∷ forms) h z = absurd z
  full_simplices (p ∷ simplices) [] h z = absurd z
  full_simplices (p ∷ simplices) (fs ∷ forms) h z = ((h.0.within, full_simplex p fs h.0 z.0), full_simplices simplices forms h.1 z.1)

  module _ (simplices : List (List ℕ)) (good : IsGoodCover w (IsInConeOf w rays) rays simplices) (list : List Vector) (c : AreCandidates rays simplices list) where
    point_member : (x : Vector) → IsPointOf rays simplices x → Member x
    point_member x p =
        let s = Each-contains (IsSimplex w rays) simplices p.0 good.simplices p.1 in
        let n = simplex_size p.0 s in
        let vs = vectors_at rays p.0 in
        let box : IsInBox w vs x = subst (λ m. IsInBox m vs x) n p.2.1 in
        in_cone x (p.2.0 ∙ n) (cone_of_members w vs rays x k.rays_wide (vectors_listed rays p.0 s.within) (IsInCone-box w vs x box))

    candidate_member : (x : Vector) → Contains list x → Member x
    candidate_member x m = ⊎_elim (λ r. ray_member x r) (λ p. point_member x p) (Each-contains (λ y. Contains rays y ⊎ IsPointOf rays simplices y) list x c.only m)

    candidate_listed : (x : Vector) → IsCandidate w Member rays simplices x → Contains list x
    candidate_listed x i = ⊎_elim
        (λ r. Each-contains (Contains list) rays x c.rays_in r)
        (λ b. let n = simplex_size b.places (Each-contains (IsSimplex w rays) simplices b.places good.simplices b.of_cover) in
        c.points_in x (b.places, b.of_cover, (b.member.in_lattice ∙ sym n, subst (λ m. IsInBox m (vectors_at rays b.places) x) (sym n) b.in_box)))
        i

    members_listed : Each Member list
    members_listed = Each-from_contains Member list candidate_member

    pub candidates_separated : AreSeparated rows list
    candidates_separated = record {
      width = w;
      rows_wide = k.rows_wide;
      candidates_wide = each_map Member (HasWidth w) list (λ x m. m.in_lattice) members_listed;
      only_zero = k.pointed;
    }

    pub kept_irreducible : (kept : List Vector) → IsListOf IsLexBefore (IsUnreduced rows list) kept → IsListOf IsLexBefore (IsIrreducible (IsInRows w rows)) kept
    kept_irreducible kept h =
        IsListOf-where IsLexBefore (IsIrreducible Member) (IsIrreducible (IsInRows w rows))
        (λ x i. IsIrreducible-where Member (IsInRows w rows) to_rows to_stage x i)
        (λ x i. IsIrreducible-where (IsInRows w rows) Member to_stage to_rows x i)
        kept
        (unreduced_irreducible w (HasWidth w) (whole_lattice w) rows list positive members_listed
        (λ x m. IsTotalOf-weaker w (IsCandidate w Member rays simplices) (Contains list) candidate_listed x
        (candidates_generate w (HasWidth w) (whole_lattice w) rows rays simplices (Each-from_contains Member rays ray_member) (stage_cover simplices good) x m))
        kept h)

    -- what no other candidate reduces is a ray or a point
    pub kept_crowded : (limit : ℕ) (kept : List Vector) → IsListOf IsLexBefore (IsUnreduced rows list) kept → limit < length kept → IsCrowded limit rays simplices
    kept_crowded limit kept h l = record {
      witnesses = kept;
      different = Pairwise-different IsLexBefore (λ x b. IsLexBefore-asymmetric x x b b) kept h.in_order;
      only = each_map (IsUnreduced rows list) (λ x. Contains rays x ⊎ IsPointOf rays simplices x) kept (λ x u. Each-contains (λ y. Contains rays y ⊎ IsPointOf rays simplices y) list x c.only u.candidate) h.only;
      more = l;
    }

-- ---- back from coordinates
pub kept_within : (b : Base) (kept list : List Vector) (limit : ℕ) → IsPermutation (map (λ c. combination b.width c b.vectors) kept) list → length kept ≤ limit → length list ≤ limit
kept_within b kept list limit moved l =
    let at : Vector → Vector = λ c. combination b.width c b.vectors in
    let e = length_permutation (map at kept) list moved in
    let m = length-map kept at in
    omega (arith, e, m, l)

pub different_mapped : (f : Vector → Vector) (P : Vector → Type 0) → ((x y : Vector) → P x → P y → f x ≡ f y → x ≡ y) → (xs : List Vector) → Each P xs → Pairwise ◌≢◌ xs → Pairwise ◌≢◌ (map f xs)
different_mapped f P one [] h d = tt
different_mapped f P one (x ∷ xs) h d = (
  each_of_map f (λ y. f x ≢ y) xs (each_map2 P (λ y. x ≢ y) (λ y. f x ≢ f y) xs (λ y p n e. n (one x y h.0 p e)) h.1 d.0),
  different_mapped f P one xs h.1 d.1,
)

pub brought_back : (b : Base) → IsBase b → (P : Vector → Type 0) (kept list : List Vector) → ((c : Vector) → P c → HasWidth (length b.vectors) c) → IsListOf IsLexBefore P kept → IsPermutation (map (λ c. combination b.width c b.vectors) kept) list → IsInOrder None list → IsListOf IsLexBefore (IsVectorOf b P) list
brought_back b is P kept list wide h moved order =
    let at : Vector → Vector = λ c. combination b.width c b.vectors in
    let lk = each_map P (HasWidth (length b.vectors)) kept wide h.only in
    let d : Pairwise ◌≢◌ kept = Pairwise-different IsLexBefore (λ x l. IsLexBefore-asymmetric x x l l) kept h.in_order in
    let dm = different_mapped at (HasWidth (length b.vectors)) (at_same b.width b.vectors is.widths is.independent) kept lk d in
    let s = sorted_is_list b.width None (map at kept) list (at_widths b.width b.vectors is.widths is.independent kept) dm moved order in
    record {
      in_order = s.in_order;
      only = each_map (Contains (map at kept)) (IsVectorOf b P) list (λ x c. let i = image_of at kept x c in (i.source, Each-contains P kept i.source h.only i.has, i.same)) s.only;
      each = λ x v. s.each x (subst (Contains (map at kept)) v.2 (mapped_has at kept v.0 (h.each v.0 v.1)));
    }
