-- The dual stages of a system, and where there are too many, from a run in coordinates of a base of its lattice.
use Rattle.std.proofs.Common.{◌≡◌, ◌↔◌, inl, inr, ℕ, zero, suc, ◌+◌, List, [], ◌∷◌, ◌++◌, length, map, take, pos, ◌≤ℤ◌, ◌<ℤ◌, Contains, refl, sym, ap, ap₂, ◌∙◌, subst, arith, append_assoc}
use Rattle.std.specs.Prelude.{◌⊎◌}
use Rattle.std.proofs.lemmas.List.{length-map, length-append}
use Rattle.std.specs.List.{AllByRecursion as Each}
use Rattle.nz_spec.specs.Vectors.{Vector, combination, HasWidth}
use Rattle.nz_spec.specs.Sums.{IsInGroup, IsIndependent}
use Rattle.nz_spec.specs.Order.{ListsOnce, MoreThan}
use Rattle.nz_spec.specs.Boxes.{IsListedOrBoxMember}
use Rattle.nz_spec.specs.Covers.{vectors_at}
use Rattle.nz_spec.specs.Systems.{System, IsMember}
use Rattle.nz_spec.specs.Monoids.{IsPositive, IsIrreducible, IsExtreme}
use Rattle.nz_spec.specs.Constraints.{AreEquationsOf, AreRowsOf}
use Rattle.nz_spec.specs.Stages.{IsInLattice, IsInStage, IsInReversed, IsInReversedStage, IsFreshRow, Separates, AreStages, AreDualStages, AreTold}
use Rattle.nz_spec.proofs.ListLaws.{Each-contains}
use Rattle.nz_linear.specs.Coordinates.{in_coordinates}
use Rattle.nz_linear.proofs.Lists.{each_map, each_of_map}
use Rattle.nz_order.proofs.SideLaws.{IsIrreducible-where}
use Rattle.nz_pointed.specs.Pointed.{IsSimplexOf}
use Rattle.nz_frame.proofs.SimplexRays.{simplex_extremes, simplex_width}
use Rattle.nz_frame.specs.DualCrowds.{HasDualOrder, IsFirstCrowd, IsDualCrowd, IsRunCrowd}
use Rattle.nz_linear.proofs.SumCoordinates as sum
use Rattle.nz_frame.proofs.ListSplits.{mapped_join, mapped_take, take_front, same_cut}
use Rattle.nz_frame.proofs.DualCoordinates as dual

-- ---- sets that are the same
more_where : (P Q : Vector → Type 0) → ((x : Vector) → P x → Q x) → (n : ℕ) → MoreThan n P → MoreThan n Q
more_where P Q to n m = record { witnesses = m.witnesses; different = m.different; only = each_map P Q m.witnesses to m.only; more = m.more }

-- the vectors at which the last row is at most 0 are a reversed stage
pub reversed_to : (Lattice : Vector → Type 0) (earlier : List Vector) (last : Vector) (later : List Vector) (x : Vector) → IsInReversed Lattice earlier last x → IsInReversedStage Lattice (earlier ++ last ∷ later) (length earlier + 1) x
reversed_to Lattice earlier last later x h = record { earlier = earlier; last = last; later = later; whole = refl; place = refl; reversed = h }

pub reversed_from : (Lattice : Vector → Type 0) (earlier : List Vector) (last : Vector) (later : List Vector) (x : Vector) → IsInReversedStage Lattice (earlier ++ last ∷ later) (length earlier + 1) x → IsInReversed Lattice earlier last x
reversed_from Lattice earlier last later x h =
    let c = same_cut earlier last later h.earlier h.last h.later h.whole (let p = h.place in omega (arith, p)) in
    subst (λ (l : Vector). IsInReversed Lattice earlier l x) (sym c.own) (subst (λ (es : List Vector). IsInReversed Lattice es h.last x) (sym c.before) h.reversed)

-- ---- a system in coordinates of a base of its lattice
module _ (s : System) (equations rows base : List Vector) (are_equations : AreEquationsOf s equations) (are_rows : AreRowsOf s rows) (wide : Each (HasWidth s.width) base) (free : IsIndependent s.width base) (group : (x : Vector) → IsInLattice s equations x ↔ IsInGroup s.width base x) where
  abbrev pull : Vector → Vector
  pull f = in_coordinates base f

  abbrev L : Vector → Type 0
  L = IsInLattice s equations

  -- the dual stages
  pub dual_stages : (pairs : List (ℕ × ℕ)) → AreStages (length base) (HasWidth (length base)) (map (λ r. in_coordinates base r) rows) pairs → AreDualStages s pairs
  dual_stages pairs h = record { equations = equations; rows = rows; are_equations = are_equations; are_rows = are_rows; stages = dual.stages_forth s.width L base wide free group rows pairs h }

  -- what the watch is told
  pub dual_told : IsPositive (IsMember s) → (pairs : List (ℕ × ℕ)) → AreStages (length base) (HasWidth (length base)) (map (λ r. in_coordinates base r) rows) pairs → AreTold AreDualStages s pairs
  dual_told positive pairs h = inr (positive, dual_stages pairs h)

  -- the order of the rows: those of the simplex, and then the others
  order_at : (chosen others : List Vector) (t : Separates (IsFreshRow (HasWidth (length base))) [] (map (λ r. in_coordinates base r) rows) chosen others) → HasDualOrder s equations ((dual.parts_of_pulled s.width L base wide free group rows chosen others t).first ++ (dual.parts_of_pulled s.width L base wide free group rows chosen others t).rest) (length base)
  order_at chosen others t =
      let p = dual.parts_of_pulled s.width L base wide free group rows chosen others t in
      record {
        rows = rows;
        are_equations = are_equations;
        are_rows = are_rows;
        in_order = record { first = p.first; others = p.rest; separates = p.separates; whole = refl };
        has_rank = dual.rank_of_base s.width L base wide free group;
      }

  -- a vector that is listed, or in a box
  candidate_forth : (stage rays : List Vector) → Each (HasWidth (length base)) rays → (c : Vector) → IsListedOrBoxMember (length base) (IsInStage (HasWidth (length base)) (map (λ r. in_coordinates base r) stage)) rays c → IsListedOrBoxMember s.width (IsInStage L stage) (map (λ c. combination s.width c base) rays) (combination s.width c base)
  candidate_forth stage rays l c (inl h) = inl (sum.mapped_has (λ c. combination s.width c base) rays c h)
  candidate_forth stage rays l c (inr h) =
      let at : Vector → Vector = λ c. combination s.width c base in
      let lv : Each (HasWidth (length base)) h.vectors = each_map (Contains rays) (HasWidth (length base)) h.vectors (λ v m. Each-contains (HasWidth (length base)) rays v l m) h.of_list in
      inr (record {
        member = (dual.stage_in s.width L base wide free group stage).forth c h.member;
        vectors = map at h.vectors;
        of_list = each_of_map at (Contains (map at rays)) h.vectors (each_map (Contains rays) (λ v. Contains (map at rays) (at v)) h.vectors (λ v m. sum.mapped_has at rays v m) h.of_list);
        independent = sum.independent_forth s.width base wide free h.vectors lv h.independent;
        in_box = sum.sum_forth s.width base wide free (λ m f. (pos 0 ≤ℤ f) × (f <ℤ m)) h.vectors c lv h.in_box;
      })

  candidate_wide : (stage rays : List Vector) → Each (IsInStage (HasWidth (length base)) stage) rays → (c : Vector) → IsListedOrBoxMember (length base) (IsInStage (HasWidth (length base)) stage) rays c → IsInStage (HasWidth (length base)) stage c
  candidate_wide stage rays l c (inl h) = Each-contains (IsInStage (HasWidth (length base)) stage) rays c l h
  candidate_wide stage rays l c (inr h) = h.member

  -- the first stage
  pub first_crowd : (limit : ℕ) (places : List ℕ) (rays others : List Vector) → IsPositive (IsMember s) → IsSimplexOf (length base) (map (λ r. in_coordinates base r) rows) places rays
      → Separates (IsFreshRow (HasWidth (length base))) [] (map (λ r. in_coordinates base r) rows) (vectors_at (map (λ r. in_coordinates base r) rows) places) others
      → MoreThan limit (IsListedOrBoxMember (length base) (IsInStage (HasWidth (length base)) (vectors_at (map (λ r. in_coordinates base r) rows) places)) rays)
      → IsDualCrowd s limit 0
  first_crowd limit places rays others positive sx t m =
      let n = length base in
      let chosen = vectors_at (map pull rows) places in
      let p = dual.parts_of_pulled s.width L base wide free group rows chosen others t in
      let at : Vector → Vector = λ c. combination s.width c base in
      let size : n ≡ length p.first = simplex_width n (map pull rows) rays places sx ∙ ap length (sym p.same_first) ∙ length-map p.first pull in
      let front : take n (p.first ++ p.rest) ≡ p.first = take_front p.first p.rest n size in
      let ex : ListsOnce (IsExtreme (IsInStage (HasWidth n) (map pull p.first))) rays = subst (λ (fs : List Vector). ListsOnce (IsExtreme (IsInStage (HasWidth n) fs)) rays) (sym p.same_first) (simplex_extremes n (map pull rows) rays places sx) in
      let more' : MoreThan limit (IsListedOrBoxMember n (IsInStage (HasWidth n) (map pull p.first)) rays) = subst (λ (fs : List Vector). MoreThan limit (IsListedOrBoxMember n (IsInStage (HasWidth n) fs) rays)) (sym p.same_first) m in
      let k = dual.stage_in s.width L base wide free group p.first in
      let members : Each (IsInStage (HasWidth n) (map pull p.first)) rays = each_map (IsExtreme (IsInStage (HasWidth n) (map pull p.first))) (IsInStage (HasWidth n) (map pull p.first)) rays (λ v e. e.irreducible.member) ex.only in
      let widths : Each (HasWidth n) rays = each_map (IsInStage (HasWidth n) (map pull p.first)) (HasWidth n) rays (λ v e. e.in_lattice) members in
      record {
        positive = positive;
        equations = equations;
        ordered = p.first ++ p.rest;
        rank = n;
        order = order_at chosen others t;
        crowd = subst (λ (fs : List Vector). IsFirstCrowd s.width (IsInStage L fs) limit) (sym front) (record {
          extreme = map at rays;
          lists = dual.extremes_forth s.width base (IsInStage L p.first) (IsInStage (HasWidth n) (map pull p.first)) k rays ex;
          more = dual.more_forth s.width base (IsInStage L p.first) (IsInStage (HasWidth n) (map pull p.first)) k
              (IsListedOrBoxMember n (IsInStage (HasWidth n) (map pull p.first)) rays) (IsListedOrBoxMember s.width (IsInStage L p.first) (map at rays))
              (candidate_wide (map pull p.first) rays members) (candidate_forth p.first rays widths) limit more';
        });
      }

  -- the insertion of a row
  pub row_crowd : (limit : ℕ) (chosen others earlier : List Vector) (row : Vector) (later : List Vector) → IsPositive (IsMember s) → length chosen ≡ length base
      → Separates (IsFreshRow (HasWidth (length base))) [] (map (λ r. in_coordinates base r) rows) chosen others → others ≡ earlier ++ row ∷ later
      → MoreThan limit (IsIrreducible (IsInStage (HasWidth (length base)) ((chosen ++ earlier) ++ row ∷ []))) ⊎ MoreThan limit (IsIrreducible (IsInReversed (HasWidth (length base)) (chosen ++ earlier) row))
      → IsDualCrowd s limit (suc (length earlier))
  row_crowd limit chosen others earlier row later positive size t whole m =
      let n = length base in
      let p = dual.parts_of_pulled s.width L base wide free group rows chosen others t in
      let all = p.first ++ p.rest in
      let k = n + suc (length earlier) in
      let pulled : map pull all ≡ (chosen ++ earlier) ++ row ∷ later = mapped_join pull p.first p.rest ∙ ap₂ (λ a b. a ++ b) p.same_first (p.same_rest ∙ whole) ∙ sym (append_assoc chosen earlier (row ∷ later)) in
      let joined : length (chosen ++ earlier) ≡ length chosen + length earlier = length-append chosen earlier in
      let place : k ≡ length (chosen ++ earlier) + 1 = omega (arith, joined, size) in
      let total : length all ≡ length (chosen ++ earlier) + suc (length later) = sym (length-map all pull) ∙ ap length pulled ∙ length-append (chosen ++ earlier) (row ∷ later) in
      record {
        positive = positive;
        equations = equations;
        ordered = all;
        rank = n;
        order = order_at chosen others t;
        crowd = record {
          within = omega (arith, place, total);
          more = elim m [
            | inl a ↦ inl (dual.more_irreducibles s.width base (IsInStage L (take k all)) (IsInStage (HasWidth n) (map pull (take k all))) (dual.stage_in s.width L base wide free group (take k all)) limit
                (subst (λ (rs : List Vector). MoreThan limit (IsIrreducible (IsInStage (HasWidth n) rs)))
                (sym (take_front ((chosen ++ earlier) ++ row ∷ []) later k (place ∙ sym (length-append (chosen ++ earlier) (row ∷ [])))) ∙ ap (take k) (append_assoc (chosen ++ earlier) (row ∷ []) later ∙ sym pulled) ∙ mapped_take pull k all) a))
            | inr b ↦ inr (dual.more_irreducibles s.width base (IsInReversedStage L all k) (IsInReversedStage (HasWidth n) (map pull all) k) (dual.reversed_stage_in s.width L base wide free group all k) limit
                (subst (λ (rs : List Vector). MoreThan limit (IsIrreducible (IsInReversedStage (HasWidth n) rs k))) (sym pulled)
                (subst (λ (i : ℕ). MoreThan limit (IsIrreducible (IsInReversedStage (HasWidth n) ((chosen ++ earlier) ++ row ∷ later) i))) (sym place)
                (more_where (IsIrreducible (IsInReversed (HasWidth n) (chosen ++ earlier) row)) (IsIrreducible (IsInReversedStage (HasWidth n) ((chosen ++ earlier) ++ row ∷ later) (length (chosen ++ earlier) + 1)))
                (λ x i. IsIrreducible-where (IsInReversed (HasWidth n) (chosen ++ earlier) row) (IsInReversedStage (HasWidth n) ((chosen ++ earlier) ++ row ∷ later) (length (chosen ++ earlier) + 1))
                (reversed_to (HasWidth n) (chosen ++ earlier) row later) (reversed_from (HasWidth n) (chosen ++ earlier) row later) x i) limit b))))
          ];
        };
      }

  -- the crowd of a run in coordinates is that of the system, at the same stage
  pub run_crowd : (limit passed : ℕ) (places : List ℕ) (rays others : List Vector) → IsPositive (IsMember s) → IsSimplexOf (length base) (map (λ r. in_coordinates base r) rows) places rays
      → Separates (IsFreshRow (HasWidth (length base))) [] (map (λ r. in_coordinates base r) rows) (vectors_at (map (λ r. in_coordinates base r) rows) places) others
      → IsRunCrowd (length base) (vectors_at (map (λ r. in_coordinates base r) rows) places) rays others limit passed → IsDualCrowd s limit passed
  run_crowd limit zero places rays others positive sx t m = first_crowd limit places rays others positive sx t m
  run_crowd limit (suc passed) places rays others positive sx t m =
      subst (λ (n : ℕ). IsDualCrowd s limit (suc n)) (sym m.place)
      (row_crowd limit (vectors_at (map pull rows) places) others m.earlier m.row m.later positive (sym (simplex_width (length base) (map pull rows) rays places sx)) t m.whole m.more)
