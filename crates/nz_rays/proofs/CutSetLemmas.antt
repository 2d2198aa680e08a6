-- Pairs of rays on both sides of a new row, tested by their zero sets cut to the places that both sides share.
use Rattle.std.proofs.Common.{◌≡◌, ℕ, ◌<◌, ◌≤◌, List, [], length, get_or, map, sym, ◌∙◌, subst, arith}
use Rattle.std.specs.List.{AllByRecursion as Each, Contains}
use Rattle.std.proofs.lemmas.List.{length-map, get_or_default}
use Rattle.nz_spec.specs.Vectors.{Vector}
use Rattle.nz_spec.specs.Order.{Pairwise}
use Rattle.nz_spec.proofs.ListLaws.{Each-contains}
use Rattle.nz_pointed.proofs.ListLemmas.{each_at}
use Rattle.nz_linear.proofs.Lists.{each_map}
use Rattle.nz_rays.specs.Crossings.{AreCommon, HasNoThird, HasThird, IsThird, IsCovered, AreOnBothSides}
use Rattle.nz_rays.specs.Words.{AreColumns, AreNear, HaveFew, IsPlaceIn}
use Rattle.nz_rays.specs.Shared.{AreSharedColumns, IsCutTo}
use Rattle.nz_rays.proofs.PlaceLemmas.{zip_at, zip_length, IsInBoth, common_list, fewer_within}
use Rattle.nz_rays.proofs.CutLemmas.{contains_map}
use Rattle.nz_rays.proofs.WordLemmas.{columns_count, columns_wide, places_in, no_third}

module _ (values : Vector) (zeros columns : List (List ℕ)) (h : AreSharedColumns values zeros columns) where
  count : length h.cuts ≡ length zeros
  count = sym (zip_length (IsCutTo h.shared) zeros h.cuts h.are_cut)

  pub shared_in : (place : ℕ) → place < length zeros → IsPlaceIn place columns
  shared_in place l = columns_count h.cuts columns place h.are_columns (omega (arith, l, count))

  pub shared_wide : Each (λ c. length c ≡ length zeros) columns
  shared_wide = subst (λ (n : ℕ). Each (λ c. length c ≡ n) columns) count (columns_wide h.cuts columns h.are_columns)

  near_cuts : (places : List ℕ) → Each (λ k. k < length zeros) places → Each (λ k. k < length h.cuts) places
  near_cuts places e = subst (λ (n : ℕ). Each (λ k. k < n) places) (sym count) e

  pub shared_places_in : (places : List ℕ) → Each (λ k. k < length zeros) places → Each (λ k. IsPlaceIn k columns) places
  shared_places_in places e = places_in h.cuts columns places h.are_columns (near_cuts places e)

  cut_at : (place : ℕ) → place < length zeros → IsCutTo h.shared (get_or zeros place []) (get_or h.cuts place [])
  cut_at place l = zip_at (IsCutTo h.shared) [] [] zeros h.cuts place h.are_cut l

  -- a shared place with its number
  number_of : (k : ℕ) (c : Contains h.shared k) → get_or h.shared c.0 0 ≡ k
  number_of k c = get_or_default h.shared c.0 0 k c.1 ∙ c.2

  to_cut : (place k : ℕ) → place < length zeros → (c : Contains h.shared k) → Contains (get_or zeros place []) k → Contains (get_or h.cuts place []) c.0
  to_cut place k l c d = (cut_at place l).each c.0 (c.1, subst (Contains (get_or zeros place [])) (sym (number_of k c)) d)

  from_cut : (place i : ℕ) → place < length zeros → Contains (get_or h.cuts place []) i → (i < length h.shared) × Contains (get_or zeros place []) (get_or h.shared i 0)
  from_cut place i l c = Each-contains (λ i. (i < length h.shared) × Contains (get_or zeros place []) (get_or h.shared i 0)) (get_or h.cuts place []) i (cut_at place l).only c

  -- two rays on both sides
  module _ (above below : ℕ) (s : AreOnBothSides values above below) (la : above < length zeros) (lb : below < length zeros) where
    common_fewer : (common cut : List ℕ) → AreCommon zeros above below common → AreCommon h.cuts above below cut → length common ≤ length cut
    common_fewer common cut a b =
        let place : ℕ → ℕ = λ i. get_or h.shared i 0 in
        let all : Each (Contains (map place cut)) common = each_map (IsInBoth (get_or zeros above []) (get_or zeros below [])) (Contains (map place cut)) common
        (λ k d.
        let c = h.has above below s k d.0 d.1 in
        subst (Contains (map place cut)) (number_of k c) (contains_map place cut c.0 (b.each c.0 (to_cut above k la c d.0, to_cut below k lb c d.1)))) a.only in
        let f = fewer_within common (map place cut) a.in_order all in
        let g = length-map cut place in
        omega (arith, f, g)

    third_to_cut : (common cut : List ℕ) (place : ℕ) → AreCommon zeros above below common → AreCommon h.cuts above below cut → place < length zeros → IsThird zeros common above below place → IsThird h.cuts cut above below place
    third_to_cut common cut place a b l t = record {
      not_above = t.not_above;
      not_below = t.not_below;
      covers = each_map (IsInBoth (get_or h.cuts above []) (get_or h.cuts below [])) (Contains (get_or h.cuts place [])) cut
          (λ i d.
          let p = from_cut above i la d.0 in
          let q = from_cut below i lb d.1 in
          (cut_at place l).each i (p.0, Each-contains (Contains (get_or zeros place [])) common (get_or h.shared i 0) t.covers (a.each (get_or h.shared i 0) (p.1, q.1)))) b.only;
    }

    third_from_cut : (common cut : List ℕ) (place : ℕ) → AreCommon zeros above below common → AreCommon h.cuts above below cut → place < length zeros → IsThird h.cuts cut above below place → IsThird zeros common above below place
    third_from_cut common cut place a b l t = record {
      not_above = t.not_above;
      not_below = t.not_below;
      covers = each_map (IsInBoth (get_or zeros above []) (get_or zeros below [])) (Contains (get_or zeros place [])) common
          (λ k d.
          let c = h.has above below s k d.0 d.1 in
          let e = Each-contains (Contains (get_or h.cuts place [])) cut c.0 t.covers (b.each c.0 (to_cut above k la c d.0, to_cut below k lb c d.1)) in
          subst (Contains (get_or zeros place [])) (number_of k c) (from_cut place c.0 l e).1) a.only;
    }

    cut_common : (cut : List ℕ) × AreCommon h.cuts above below cut
    cut_common = (let m = common_list (get_or h.cuts above []) (get_or h.cuts below []) (cut_at above la).in_order in (m.common, m.is_common))

    module _ (in_order : Each (Pairwise ◌<◌) zeros) where
      zeros_common : (common : List ℕ) × AreCommon zeros above below common
      zeros_common = (let m = common_list (get_or zeros above []) (get_or zeros below []) (each_at (Pairwise ◌<◌) [] zeros above in_order la) in (m.common, m.is_common))

      -- few places in common in the cut sets are few
      pub shared_few : (needed : ℕ) → ((common : List ℕ) → AreCommon zeros above below common → length common < needed → IsCovered zeros above below) → HaveFew columns above below needed → IsCovered zeros above below
      shared_few needed covered few =
          let a = zeros_common in
          let b = cut_common in
          let l = few h.cuts h.are_columns (omega (arith, la, count)) (omega (arith, lb, count)) b.0 b.1.in_order b.1.only in
          let m = common_fewer a.0 b.0 a.1 b.1 in
          covered a.0 a.1 (omega (arith, l, m))

      -- a third one in the cut sets is one
      pub shared_covered : (near : List ℕ) → Each (λ k. k < length zeros) near → ((sets : List (List ℕ)) → AreColumns sets columns → above < length sets → below < length sets → Each (λ k. k < length sets) near → (common : List ℕ) → AreCommon sets above below common → HasThird sets common above below) → IsCovered zeros above below
      shared_covered near within third =
          let a = zeros_common in
          let b = cut_common in
          let t = third h.cuts h.are_columns (omega (arith, la, count)) (omega (arith, lb, count)) (near_cuts near within) b.0 b.1 in
          let l : t.place < length zeros = (let w = t.within in omega (arith, w, count)) in
          record { common = a.0; is_common = a.1; other = record { place = t.place; within = l; third = third_from_cut a.0 b.0 t.place a.1 b.1 l t.third } }

      -- and where none of the near ones is a third in the cut sets, none at all is one
      pub shared_adjacent : (near common : List ℕ) (needed : ℕ) → AreNear columns (length zeros) above needed near → AreCommon zeros above below common → needed ≤ length common
          → ((sets : List (List ℕ)) → AreColumns sets columns → above < length sets → below < length sets → Each (λ k. k < length sets) near → (common : List ℕ) → AreCommon sets above below common → Each (λ k. ¬ IsThird sets common above below k) near) → HasNoThird zeros common above below
      shared_adjacent near common needed n a enough none place l t =
          let b = cut_common in
          let m = common_fewer common b.0 a b.1 in
          let lc : above < length h.cuts = omega (arith, la, count) in
          let no = no_third h.cuts columns near b.0 above below needed h.are_columns lc (cut_at above la).in_order (subst (λ (k : ℕ). AreNear columns k above needed near) (sym count) n) b.1 (omega (arith, m, enough))
          (none h.cuts h.are_columns lc (omega (arith, lb, count)) (near_cuts near n.within) b.0 b.1) in
          no place (omega (arith, l, count)) (third_to_cut common b.0 place a b.1 l t)
