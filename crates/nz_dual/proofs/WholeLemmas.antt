-- From the stages of ordered rows to the stages of the rows, and the last list.
use Rattle.std.proofs.Common.{◌≡◌, ℕ, List, [], ◌++◌, length, pos, ◌≤ℤ◌, false, refl, subst}
use Rattle.std.specs.List.{AllByRecursion as Each}
use Rattle.nz_spec.specs.Vectors.{Vector, dot, HasWidth}
use Rattle.nz_spec.specs.Covers.{vectors_at}
use Rattle.nz_spec.specs.Order.{IsLexBefore, IsListOf}
use Rattle.nz_spec.specs.Stages.{IsInStage, IsFreshRow, Separates, AreStages}
use Rattle.nz_spec.specs.Sums.{HasRank}
use Rattle.nz_linear.proofs.Elimination.{all_of_width, complete_of}
use Rattle.nz_linear.proofs.Rank.{rank_of_dual}
use Rattle.nz_order.proofs.SideLaws.{IsIrreducible-where}
use Rattle.nz_order.proofs.SortLaws.{IsListOf-where}
use Rattle.nz_pointed.specs.Pointed as pointed
use Rattle.nz_classes.specs.Walks.{paired}
use Rattle.nz_classes.proofs.SimplexLemmas.{length-paired}
use Rattle.nz_watch.specs.Watching.{Pair}
use Rattle.nz_watch.specs.Telling.{Watched, HasPassed}
use Rattle.nz_dual.specs.DualStages.{IsElement}
use Rattle.nz_dual.specs.Runs.{AreOrderedStages}
use Rattle.nz_dual.proofs.FirstStageLemmas.{full_simplex}
use Rattle.nz_dual.proofs.InsertionLemmas.{simplex_pointed, chosen_length, at_start}
use Rattle.nz_dual.proofs.OrderLemmas.{each_part, each_whole, others_exist}
use Rattle.nz_dual.proofs.RunLemmas.{passed_where}

module _ (rows rays : List Vector) (places : List ℕ) (s : pointed.IsSimplexOf (length places) rows places rays) where
  pub full_rank : HasRank (length places) (HasWidth (length places)) (length places)
  full_rank =
      let f = full_simplex rows rays places s in
      let ps = paired (vectors_at rows places) rays in
      let w = length rays in
      let r : HasRank w (HasWidth w) (length ps) = rank_of_dual w (HasWidth w) ps (all_of_width w) f.dual (complete_of w ps f.dual.widths f.only_zero) in
      subst (λ (n : ℕ). HasRank n (HasWidth n) n) s.one_each (subst (λ (n : ℕ). HasRank w (HasWidth w) n) (length-paired (vectors_at rows places) rays f.one_each) r)

  pub stages_of : (others : List Vector) → Separates (IsFreshRow (HasWidth (length places))) [] rows (vectors_at rows places) others → (pairs : List Pair) → AreOrderedStages (length places) (vectors_at rows places ++ others) pairs → AreStages (length places) (HasWidth (length places)) rows pairs
  stages_of others t pairs z = record {
    ordered = vectors_at rows places ++ others;
    rank = length places;
    in_order = record { first = vectors_at rows places; others = others; separates = t; whole = refl };
    has_rank = full_rank;
    counts = z;
  }

  -- before anything is told
  pub nothing_yet : (told : ℕ) (now : Watched) → Each (HasWidth (length places)) rows → HasPassed (AreStages (length places) (HasWidth (length places)) rows) told 0 now now false
  nothing_yet told now wide =
      let o = others_exist (length places) rows places wide s.first in
      passed_where (AreOrderedStages (length places) (vectors_at rows places ++ o.0)) (AreStages (length places) (HasWidth (length places)) rows) (stages_of o.0 o.1) told now now 0 false
      (at_start (length places) (vectors_at rows places) o.0 (chosen_length rows places) (each_part (HasWidth (length places)) o.1 wide) (simplex_pointed rows rays places s) told now)

-- the list of the last stage is that of all rows
pub last_list : (w v : ℕ) (rows chosen others held list : List Vector) → Separates (IsFreshRow (HasWidth w)) [] rows chosen others → v ≡ w → held ≡ chosen ++ others → IsListOf IsLexBefore (IsElement v held) list → IsListOf IsLexBefore (IsElement w rows) list
last_list w v rows chosen others held list t e f h =
    let at : IsListOf IsLexBefore (IsElement w (chosen ++ others)) list = subst (λ (us : List Vector). IsListOf IsLexBefore (IsElement w us) list) f (subst (λ (n : ℕ). IsListOf IsLexBefore (IsElement n held) list) e h) in
    let to : (x : Vector) → IsInStage (HasWidth w) (chosen ++ others) x → IsInStage (HasWidth w) rows x = λ x m. record { in_lattice = m.in_lattice; at_least = each_whole (λ r. pos 0 ≤ℤ dot r x) t m.at_least } in
    let from : (x : Vector) → IsInStage (HasWidth w) rows x → IsInStage (HasWidth w) (chosen ++ others) x = λ x m. record { in_lattice = m.in_lattice; at_least = each_part (λ r. pos 0 ≤ℤ dot r x) t m.at_least } in
    IsListOf-where IsLexBefore (IsElement w (chosen ++ others)) (IsElement w rows)
    (λ x i. IsIrreducible-where (IsInStage (HasWidth w) (chosen ++ others)) (IsInStage (HasWidth w) rows) to from x i)
    (λ x i. IsIrreducible-where (IsInStage (HasWidth w) rows) (IsInStage (HasWidth w) (chosen ++ others)) from to x i) list at
