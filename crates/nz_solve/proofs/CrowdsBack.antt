-- A crowd of a system is one of its run in coordinates of a base: what a run has passed is no crowd of the system.
use Rattle.std.proofs.Common.{◌≡◌, ◌≢◌, ◌↔◌, inl, inr, ℕ, zero, suc, ◌+◌, ◌<◌, List, [], ◌∷◌, ◌++◌, length, map, take, drop, get_or, pos, ◌≤ℤ◌, ◌<ℤ◌, Contains, refl, sym, ap, ap₂, ◌∙◌, subst, arith, append_assoc}
use Rattle.std.proofs.Math.Seq.{drop-cons}
use Rattle.std.proofs.lemmas.List.{length-map, length-append, length-take-le, take-append-drop}
use Rattle.std.specs.List.{AllByRecursion as Each}
use Rattle.nz_spec.specs.Vectors.{Vector, combination, HasWidth}
use Rattle.nz_spec.specs.Sums.{IsInGroup, IsInBox, IsIndependent, HasRank}
use Rattle.nz_spec.specs.Order.{Pairwise, ListsOnce, MoreThan}
use Rattle.nz_spec.specs.Boxes.{IsListedOrBoxMember}
use Rattle.nz_spec.specs.Covers.{vectors_at}
use Rattle.nz_spec.specs.Systems.{System, IsSystem}
use Rattle.nz_spec.specs.Monoids.{IsIrreducible, IsExtreme}
use Rattle.nz_spec.specs.Constraints.{AreEquationsOf, AreRowsOf}
use Rattle.nz_spec.specs.Stages.{IsInLattice, IsInStage, IsInReversed, IsInReversedStage, IsFreshRow, Separates, IsIndependentFirst}
use Rattle.nz_spec.proofs.LinearLaws.{HasRank-unique}
use Rattle.nz_spec.proofs.ListLaws.{Each-contains}
use Rattle.nz_spec.proofs.UniqueLaws.{AreEquationsOf-unique, AreRowsOf-unique}
use Rattle.nz_linear.specs.Coordinates.{AreCoordinates, in_coordinates}
use Rattle.nz_linear.proofs.Coordinates.{irreducible_back}
use Rattle.nz_linear.proofs.Lists.{each_map, map_each}
use Rattle.nz_linear.proofs.SumCoordinates as sum
use Rattle.nz_order.proofs.SideLaws.{IsIrreducible-where}
use Rattle.nz_pointed.specs.Pointed.{IsSimplexOf}
use Rattle.nz_dual.proofs.CrowdLemmas.{separated_once}
use Rattle.nz_frame.specs.DualCrowds.{HasDualOrder, IsFirstCrowd, IsRowCrowd, IsCrowdAfter, IsDualCrowd, IsInsertCrowd, IsRunCrowd}
use Rattle.nz_frame.proofs.DualCoordinates as dual
use Rattle.nz_frame.proofs.ListSplits.{mapped_join, mapped_take, take_front}
use Rattle.nz_frame.proofs.SimplexRays.{simplex_extremes, simplex_width}
use Rattle.nz_frame.proofs.SystemStages.{reversed_to, reversed_from}

-- ---- what a function was applied to
module _ (at : Vector → Vector) where
  -- vectors of the set from which the function makes those of the list
  record HasSources (P : Vector → Type 0) (xs : List Vector) : Type 0 where
    sources : List Vector
    only : Each P sources
    same : map at sources ≡ xs

  sources_of : (P Q : Vector → Type 0) → ((x : Vector) → Q x → (c : Vector) × P c × (at c ≡ x)) → (xs : List Vector) → Each Q xs → HasSources P xs
  sources_of P Q back [] h = record { sources = []; only = tt; same = refl }
  sources_of P Q back (x ∷ xs) h =
      let r = back x h.0 in
      let t = sources_of P Q back xs h.1 in
      record { sources = r.0 ∷ t.sources; only = (r.1, t.only); same = ap₂ (λ a b. a ∷ b) r.2 t.same }

  different_back : (xs : List Vector) → Pairwise ◌≢◌ (map at xs) → Pairwise ◌≢◌ xs
  different_back [] d = tt
  different_back (x ∷ xs) d = (each_map (λ y. at x ≢ at y) (λ y. x ≢ y) xs (λ y n e. n (ap at e)) (map_each at (λ y. at x ≢ y) xs d.0), different_back xs d.1)

  more_back : (P Q : Vector → Type 0) → ((x : Vector) → Q x → (c : Vector) × P c × (at c ≡ x)) → (n : ℕ) → MoreThan n Q → MoreThan n P
  more_back P Q back n m =
      let h = sources_of P Q back m.witnesses m.only in
      record {
        witnesses = h.sources;
        different = different_back h.sources (subst (Pairwise ◌≢◌) (sym h.same) m.different);
        only = h.only;
        more = (let e = length-map h.sources at in let f = ap length h.same in let l = m.more in omega (arith, e, f, l));
      }

-- an irreducible of the set has irreducible coordinates
more_irreducibles_back : (w : ℕ) (base : List Vector) (Member Coordinates : Vector → Type 0) → AreCoordinates w base Member Coordinates → (n : ℕ) → MoreThan n (IsIrreducible Member) → MoreThan n (IsIrreducible Coordinates)
more_irreducibles_back w base Member Coordinates k = more_back (λ c. combination w c base) (IsIrreducible Coordinates) (IsIrreducible Member)
    (λ x i. let r = k.back x i.member in (r.0, irreducible_back w base Member Coordinates k r.0 (k.one_each r.0 r.1) (subst (IsIrreducible Member) (sym r.2) i), r.2))

-- ---- a system in coordinates of a base of its lattice
module _ (s : System) (equations rows base : List Vector) (is : IsSystem s) (are_equations : AreEquationsOf s equations) (are_rows : AreRowsOf s rows) (wide : Each (HasWidth s.width) base) (free : IsIndependent s.width base) (group : (x : Vector) → IsInLattice s equations x ↔ IsInGroup s.width base x) where
  abbrev pull : Vector → Vector
  pull f = in_coordinates base f

  abbrev at : Vector → Vector
  at c = combination s.width c base

  abbrev L : Vector → Type 0
  L = IsInLattice s equations

  -- a vector that is listed, or in a box
  candidate_back : (stage rays extreme : List Vector) → Each (HasWidth (length base)) rays → ((x : Vector) → Contains extreme x → Contains (map (λ c. combination s.width c base) rays) x)
      → (x : Vector) → IsListedOrBoxMember s.width (IsInStage L stage) extreme x → (c : Vector) × IsListedOrBoxMember (length base) (IsInStage (HasWidth (length base)) (map (λ r. in_coordinates base r) stage)) rays c × (combination s.width c base ≡ x)
  candidate_back stage rays extreme l to x (inl h) = let i = sum.image_of at rays x (to x h) in (i.source, inl i.has, i.same)
  candidate_back stage rays extreme l to x (inr h) =
      let b = (dual.stage_in s.width L base wide free group stage).back x h.member in
      let vs = sources_of at (Contains rays) (Contains extreme) (λ y c. let i = sum.image_of at rays y (to y c) in (i.source, i.has, i.same)) h.vectors h.of_list in
      let lv : Each (HasWidth (length base)) vs.sources = each_map (Contains rays) (HasWidth (length base)) vs.sources (λ v m. Each-contains (HasWidth (length base)) rays v l m) vs.only in (
        b.0,
        inr (record {
          member = b.1;
          vectors = vs.sources;
          of_list = vs.only;
          independent = sum.independent_back s.width base wide free vs.sources lv (subst (IsIndependent s.width) (sym vs.same) h.independent);
          in_box = sum.sum_back s.width base wide free (λ m f. (pos 0 ≤ℤ f) × (f <ℤ m)) vs.sources b.0 lv b.1.in_lattice
              (subst (λ (us : List Vector). IsInBox s.width us (at b.0)) (sym vs.same) (subst (IsInBox s.width h.vectors) (sym b.2) h.in_box));
        }),
        b.2,
      )

  module _ (chosen others : List Vector) (t : Separates (IsFreshRow (HasWidth (length base))) [] (map (λ r. in_coordinates base r) rows) chosen others) where
    abbrev first : List Vector
    first = (dual.parts_of_pulled s.width L base wide free group rows chosen others t).first

    abbrev rest : List Vector
    rest = (dual.parts_of_pulled s.width L base wide free group rows chosen others t).rest

    -- the first stage
    first_back : (limit : ℕ) (rays : List Vector) → ListsOnce (IsExtreme (IsInStage (HasWidth (length base)) chosen)) rays → IsFirstCrowd s.width (IsInStage L first) limit → MoreThan limit (IsListedOrBoxMember (length base) (IsInStage (HasWidth (length base)) chosen) rays)
    first_back limit rays lists crowd =
        let n = length base in
        let p = dual.parts_of_pulled s.width L base wide free group rows chosen others t in
        let pulled = map pull p.first in
        let ex : ListsOnce (IsExtreme (IsInStage (HasWidth n) pulled)) rays = subst (λ (fs : List Vector). ListsOnce (IsExtreme (IsInStage (HasWidth n) fs)) rays) (sym p.same_first) lists in
        let k = dual.stage_in s.width L base wide free group p.first in
        let widths : Each (HasWidth n) rays = each_map (IsExtreme (IsInStage (HasWidth n) pulled)) (HasWidth n) rays (λ v e. e.irreducible.member.in_lattice) ex.only in
        let ours = dual.extremes_forth s.width base (IsInStage L p.first) (IsInStage (HasWidth n) pulled) k rays ex in
        let to : (x : Vector) → Contains crowd.extreme x → Contains (map at rays) x = λ x c. ours.each x (Each-contains (IsExtreme (IsInStage L p.first)) crowd.extreme x crowd.lists.only c) in
        subst (λ (fs : List Vector). MoreThan limit (IsListedOrBoxMember n (IsInStage (HasWidth n) fs) rays)) p.same_first
        (more_back at (IsListedOrBoxMember n (IsInStage (HasWidth n) pulled) rays) (IsListedOrBoxMember s.width (IsInStage L p.first) crowd.extreme) (candidate_back p.first rays crowd.extreme widths to) limit crowd.more)

    -- the insertion of a row
    row_back : (limit passed : ℕ) → length chosen ≡ length base → IsRowCrowd L (first ++ rest) limit (length base + suc passed) → IsInsertCrowd (length base) chosen others limit passed
    row_back limit passed size crowd =
        let n = length base in
        let p = dual.parts_of_pulled s.width L base wide free group rows chosen others t in
        let all = p.first ++ p.rest in
        let k = n + suc passed in
        let joined : map pull all ≡ chosen ++ others = mapped_join pull p.first p.rest ∙ ap₂ (λ a b. a ++ b) p.same_first p.same_rest in
        let total : length all ≡ length chosen + length others = sym (length-map all pull) ∙ ap length joined ∙ length-append chosen others in
        let l : passed < length others = (let i = crowd.within in omega (arith, total, i, size)) in
        let earlier = take passed others in
        let row = get_or others passed [] in
        let later = drop (suc passed) others in
        let long : length earlier ≡ passed = length-take-le passed others (omega (arith, l)) in
        let whole : others ≡ earlier ++ row ∷ later = sym (take-append-drop passed others) ∙ ap (λ us. earlier ++ us) (drop-cons others passed [] l) in
        let held = chosen ++ earlier in
        let pulled : map pull all ≡ held ++ row ∷ later = joined ∙ ap (λ us. chosen ++ us) whole ∙ sym (append_assoc chosen earlier (row ∷ later)) in
        let place : k ≡ length held + 1 = (let h = length-append chosen earlier in omega (arith, h, size, long)) in
        record {
          earlier = earlier;
          row = row;
          later = later;
          whole = whole;
          place = sym long;
          more = elim crowd.more [
            | inl a ↦ inl (subst (λ (rs : List Vector). MoreThan limit (IsIrreducible (IsInStage (HasWidth n) rs)))
                (sym (mapped_take pull k all) ∙ ap (take k) (pulled ∙ sym (append_assoc held (row ∷ []) later)) ∙ take_front (held ++ row ∷ []) later k (place ∙ sym (length-append held (row ∷ []))))
                (more_irreducibles_back s.width base (IsInStage L (take k all)) (IsInStage (HasWidth n) (map pull (take k all))) (dual.stage_in s.width L base wide free group (take k all)) limit a))
            | inr b ↦ inr (more_back (λ x. x) (IsIrreducible (IsInReversed (HasWidth n) held row)) (IsIrreducible (IsInReversedStage (HasWidth n) (held ++ row ∷ later) (length held + 1)))
                (λ x i. (
                  x,
                  IsIrreducible-where (IsInReversedStage (HasWidth n) (held ++ row ∷ later) (length held + 1)) (IsInReversed (HasWidth n) held row) (reversed_from (HasWidth n) held row later) (reversed_to (HasWidth n) held row later) x i,
                  refl,
                )) limit
                (subst (λ (i : ℕ). MoreThan limit (IsIrreducible (IsInReversedStage (HasWidth n) (held ++ row ∷ later) i))) place
                (subst (λ (rs : List Vector). MoreThan limit (IsIrreducible (IsInReversedStage (HasWidth n) rs k))) pulled
                (more_irreducibles_back s.width base (IsInReversedStage L all k) (IsInReversedStage (HasWidth n) (map pull all) k) (dual.reversed_stage_in s.width L base wide free group all k) limit b))))
          ];
        }

    -- the order of the rows is one alone, and so is the rank
    own_order : (eqs ordered : List Vector) (rank limit passed : ℕ) → HasDualOrder s eqs ordered rank → IsCrowdAfter s.width (IsInLattice s eqs) ordered rank limit passed → IsCrowdAfter s.width L (first ++ rest) (length base) limit passed
    own_order eqs ordered rank limit passed o crowd =
        let p = dual.parts_of_pulled s.width L base wide free group rows chosen others t in
        let same : eqs ≡ equations = AreEquationsOf-unique s is eqs equations o.are_equations are_equations in
        let in_order : IsIndependentFirst (IsFreshRow L) rows ordered =
        subst (λ (rs : List Vector). IsIndependentFirst (IsFreshRow L) rs ordered) (AreRowsOf-unique s o.rows rows o.are_rows are_rows)
        (subst (λ (es : List Vector). IsIndependentFirst (IsFreshRow (IsInLattice s es)) o.rows ordered) same o.in_order) in
        let parts = separated_once p.separates in_order.first in_order.others in_order.separates in
        let list : ordered ≡ p.first ++ p.rest = in_order.whole ∙ sym (ap₂ (λ a b. a ++ b) parts.0 parts.1) in
        let number : rank ≡ length base = HasRank-unique s.width L rank (length base) (λ x h. h.width) (subst (λ (es : List Vector). HasRank s.width (IsInLattice s es) rank) same o.has_rank) (dual.rank_of_base s.width L base wide free group) in
        subst (λ (n : ℕ). IsCrowdAfter s.width L (p.first ++ p.rest) n limit passed) number
        (subst (λ (os : List Vector). IsCrowdAfter s.width L os rank limit passed) list
        (subst (λ (es : List Vector). IsCrowdAfter s.width (IsInLattice s es) ordered rank limit passed) same crowd))

  -- a crowd of the system is that of the run, at the same stage
  pub system_crowd : (limit passed : ℕ) (places : List ℕ) (rays others : List Vector) → IsSimplexOf (length base) (map (λ r. in_coordinates base r) rows) places rays
      → Separates (IsFreshRow (HasWidth (length base))) [] (map (λ r. in_coordinates base r) rows) (vectors_at (map (λ r. in_coordinates base r) rows) places) others
      → IsDualCrowd s limit passed → IsRunCrowd (length base) (vectors_at (map (λ r. in_coordinates base r) rows) places) rays others limit passed
  system_crowd limit passed places rays others sx t d = by passed (own_order chosen others t d.equations d.ordered d.rank limit passed d.order d.crowd)
    where
      chosen : List Vector
      chosen = vectors_at (map (λ r. in_coordinates base r) rows) places

      long : length chosen ≡ length base
      long = sym (simplex_width (length base) (map pull rows) rays places sx)

      by : (passed : ℕ) → IsCrowdAfter s.width L (first chosen others t ++ rest chosen others t) (length base) limit passed → IsRunCrowd (length base) chosen rays others limit passed
      by zero c =
          let p = dual.parts_of_pulled s.width L base wide free group rows chosen others t in
          let size : length base ≡ length p.first = sym long ∙ ap length (sym p.same_first) ∙ length-map p.first pull in
          first_back chosen others t limit rays (simplex_extremes (length base) (map pull rows) rays places sx)
          (subst (λ (fs : List Vector). IsFirstCrowd s.width (IsInStage L fs) limit) (take_front p.first p.rest (length base) size) c)
      by (suc k) c = row_back chosen others t limit k long c
