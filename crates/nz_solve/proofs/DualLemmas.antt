-- What the dual run finds in a frame, as the elements of the system and as what a watch is told of it.
use Rattle.std.proofs.Common.{◌≡◌, inl, inr, ℕ, ℤ, zero, suc, ◌+◌, ◌-◌, max, List, [], length, map, Option, false, refl, sym, ap, ap₂, ◌∙◌, subst, arith}
use Rattle.std.specs.List.{AllByRecursion as Each}
use Rattle.std.proofs.lemmas.List.{length-append}
use Rattle.std.proofs.lemmas.List.FromFn.{length-range_with_len}
use Rattle.nz_spec.proofs.LinearLaws.{HasRank-unique}
use Rattle.nz_scalar.specs.Room.{HasRoom}
use Rattle.nz_spec.specs.Vectors.{Vector, HasWidth}
use Rattle.nz_spec.specs.Order.{IsLexBefore, IsListOf, ListsOnce}
use Rattle.nz_spec.specs.Covers.{vectors_at}
use Rattle.nz_spec.specs.Systems.{System, IsSystem, IsMember}
use Rattle.nz_spec.specs.Monoids.{IsPositive, IsIrreducible, IsExtreme}
use Rattle.nz_spec.specs.Elements.{AreExtreme}
use Rattle.nz_spec.specs.Stages.{IsInStage, IsFreshRow, Separates, AreStages}
use Rattle.nz_spec.proofs.ListLaws.{Each-from_contains}
use Rattle.nz_linear.specs.Cones.{IsInRows}
use Rattle.nz_linear.proofs.Pointed.{positive_of_pointed}
use Rattle.nz_linear.proofs.Splitting.{listed_is_extreme}
use Rattle.nz_order.proofs.SideLaws.{IsIrreducible-where}
use Rattle.nz_sweep.specs.Lists.{LacksVector}
use Rattle.nz_measures.specs.Sweeps.{IsSwept}
use Rattle.nz_measures.specs.Reaches.{IsDualReachAbove}
use Rattle.nz_linear.specs.Extreme.{IsPointed}
use Rattle.nz_linear.proofs.Lists.{each_map}
use Rattle.nz_pointed.specs.Pointed.{IsSimplexOf, IsTooLarge}
use Rattle.nz_rays.specs.Rays.{AreRaysOnce}
use Rattle.nz_rays.proofs.StartLemmas.{simplex_width, simplex_at_width}
use Rattle.nz_sweep.specs.Bases.{Base}
use Rattle.nz_watch.specs.Watching.{Pair}
use Rattle.nz_watch.specs.Telling.{Watched, HasPassedAll, HasLeft}
use Rattle.nz_input.specs.declared.kind.Mode.{Mode}
use Rattle.nz_input.specs.declared.kind.Mode.TheVariants.{Primal, Dual}
use Rattle.nz_dual.specs.Runs.{NoneIsCrowded, IsRunRefusal}
use Rattle.nz_dual.specs.Runs as runs
use Rattle.nz_dual.specs.Refusals.{IsRowOf, IsStageOf}
use Rattle.nz_primal.proofs.GeneratorLemmas.{pointed_of_simplex}
use Rattle.nz_dual.proofs.OrderLemmas.{others_exist}
use Rattle.nz_dual.proofs.WholeLemmas.{full_rank}
use Rattle.nz_primal.proofs.RunLemmas.{passed_where, all_where, stopped_where, separates_length, zipped_length}
use Rattle.nz_frame.specs.DualCrowds.{IsRunCrowd, IsDualCrowd}
use Rattle.nz_frame.specs.Frames.{IsFrame, vector_at}
use Rattle.nz_frame.proofs.FrameLemmas.{frame_wide, frame_positive}
use Rattle.nz_frame.proofs.SystemLists.{sorted_extreme}
use Rattle.nz_frame.proofs.SystemStages.{dual_told, run_crowd}
use Rattle.nz_vec.specs.declared.answers.Work.{Work}
use Rattle.nz_vec.specs.declared.answers.Work.TheVariants as work
use Rattle.nz_solve.specs.declared.refusal.InnerRefusal.{InnerRefusal}
use Rattle.nz_solve.specs.Solutions.{AreToldOf, AreNotCrowded, HasLeftWithin, IsInnerRefusal}
use Rattle.nz_solve.specs.Parts.{IsSameRefusal, IsSorted, LacksSomeDegree}
use Rattle.nz_solve.proofs.CrowdsBack.{system_crowd}
use Rattle.nz_solve.proofs.ToldLemmas.{left_of_all, left_where}
use Rattle.nz_solve.proofs.FrameLists.{dual_listed, rays_listed}
use Rattle.nz_solve.proofs.RangeLemmas.{dual_above, list_refused, extreme_refused, start_refused, degree_refused, extreme_named}

-- where a stage of the run has too many, that stage has more than the limit
crowd_of : (half : ℤ) (limit w : ℕ) (chosen rays others : List Vector) (passed : ℕ) → IsRowOf half limit w chosen rays others passed work.TooMany → IsRunCrowd w chosen rays others limit passed
crowd_of half limit w chosen rays others passed (inl h) = subst (IsRunCrowd w chosen rays others limit) (sym h.0) h.1
crowd_of half limit w chosen rays others passed (inr h) = subst (IsRunCrowd w chosen rays others limit) (let n = h.number in let e : suc (length h.earlier) ≡ passed = omega (arith, n) in e) (record { earlier = h.earlier; row = h.row; later = h.later; whole = h.whole; place = refl_length h.earlier; more = h.refused })
  where
    refl_length : (xs : List Vector) → length xs ≡ length xs
    refl_length xs = omega arith

-- and a stage with more than the limit is one of the run that has too many
crowd_from : (half : ℤ) (limit w : ℕ) (chosen rays others : List Vector) (passed : ℕ) → IsRunCrowd w chosen rays others limit passed → IsRowOf half limit w chosen rays others passed work.TooMany
crowd_from half limit w chosen rays others zero m = inl (refl, m)
crowd_from half limit w chosen rays others (suc passed) m = inr (record { earlier = m.earlier; row = m.row; later = m.later; whole = m.whole; number = (let e = m.place in omega (arith, e)); refused = m.more })

module _ (s : System) (base : Base) (pulled : List Vector) (is : IsSystem s) (fr : IsFrame s base pulled) (pt : IsPointed (length base.vectors) pulled) (told : ℕ) (before now : Watched) where
  abbrev Told : List Pair → Type 0
  Told = AreStages (length base.vectors) (HasWidth (length base.vectors)) pulled

  positive : IsPositive (IsMember s)
  positive = frame_positive s base pulled is fr pt

  to : (pairs : List Pair) → AreStages (length base.vectors) (HasWidth (length base.vectors)) pulled pairs → AreToldOf Dual s pairs
  to pairs h = dual_told s fr.equations fr.rows base.vectors fr.are_equations fr.are_rows fr.is_base.widths fr.is_base.independent fr.is_base.same positive pairs
      (subst (λ (ps : List Vector). AreStages (length base.vectors) (HasWidth (length base.vectors)) ps pairs) fr.there h)

  pub all_told : HasPassedAll (AreStages (length base.vectors) (HasWidth (length base.vectors)) pulled) told before now → HasPassedAll (AreToldOf Dual s) told before now
  all_told h = all_where Told (AreToldOf Dual s) to told before now h

  pub left_told : (number : ℕ) → HasLeft (AreStages (length base.vectors) (HasWidth (length base.vectors)) pulled) told number before now → HasLeft (AreToldOf Dual s) told number before now
  left_told number h = left_where Told (AreToldOf Dual s) to told number before now h

  crowd_told : (limit passed : ℕ) (places : List ℕ) (rays others : List Vector) → IsSimplexOf (length base.vectors) pulled places rays
      → Separates (IsFreshRow (HasWidth (length base.vectors))) [] pulled (vectors_at pulled places) others → IsRunCrowd (length base.vectors) (vectors_at pulled places) rays others limit passed → IsDualCrowd s limit passed
  crowd_told limit passed places rays others sx t m =
      run_crowd s fr.equations fr.rows base.vectors fr.are_equations fr.are_rows fr.is_base.widths fr.is_base.independent fr.is_base.same limit passed places rays others positive
      (subst (λ (ps : List Vector). IsSimplexOf (length base.vectors) ps places rays) fr.there sx)
      (subst (λ (ps : List Vector). Separates (IsFreshRow (HasWidth (length base.vectors))) [] ps (vectors_at ps places) others) fr.there t)
      (subst (λ (ps : List Vector). IsRunCrowd (length base.vectors) (vectors_at ps places) rays others limit passed) fr.there m)

  -- a stage that is not crowded in coordinates is not crowded in the system
  pub never_crowded : (half : ℤ) (limit passed : ℕ) (places : List ℕ) (rays : List Vector) → IsSimplexOf (length base.vectors) pulled places rays → ¬ IsStageOf half limit (length base.vectors) pulled (vectors_at pulled places) rays passed work.TooMany → ¬ IsDualCrowd s limit passed
  never_crowded half limit passed places rays sx f d =
      let n = length base.vectors in
      let o = others_exist n pulled places (frame_wide s base pulled fr) sx.first in
      let m = subst (λ (ps : List Vector). IsRunCrowd n (vectors_at ps places) rays o.0 limit passed) (sym fr.there)
      (system_crowd s fr.equations fr.rows base.vectors is fr.are_equations fr.are_rows fr.is_base.widths fr.is_base.independent fr.is_base.same limit passed places rays o.0
      (subst (λ (ps : List Vector). IsSimplexOf n ps places rays) fr.there sx)
      (subst (λ (ps : List Vector). Separates (IsFreshRow (HasWidth n)) [] ps (vectors_at ps places) o.0) fr.there o.1) d) in
      f (o.0, (o.1, crowd_from half limit n (vectors_at pulled places) rays o.0 passed m))

  pub not_crowded : (half : ℤ) (limit passed : ℕ) (places : List ℕ) (rays : List Vector) → IsSimplexOf (length base.vectors) pulled places rays → runs.AreNotCrowded (IsStageOf half limit (length base.vectors) pulled (vectors_at pulled places) rays) passed → AreNotCrowded Dual s limit passed
  not_crowded half limit passed places rays sx h p l d = never_crowded half limit p places rays sx (h p l) d

  -- a refused run in coordinates refuses the system with the same refusal
  pub dual_refused : (half : ℤ) (fits : ℤ → Type 0) → HasRoom half fits → IsSwept s base → (limit : ℕ) (places : List ℕ) (rays : List Vector) → IsSimplexOf (length base.vectors) pulled places rays → length places ≡ length base.vectors → (e : Work) (result : InnerRefusal)
      → IsRunRefusal (AreStages (length base.vectors) (HasWidth (length base.vectors)) pulled) (IsStageOf half limit (length base.vectors) pulled (vectors_at pulled places) rays) told before now e → IsSameRefusal e result → IsInnerRefusal Dual s half limit told before now result
  dual_refused half fits room swept limit places rays sx n (work.Range number) result h i = subst (IsInnerRefusal Dual s half limit told before now) (sym i)
      (dual_above s base pulled fr swept half fits room limit rays h.1.0 places (positive_of_pointed (length base.vectors) pulled (IsInRows (length base.vectors) pulled) pt (λ v m. m)) sx n h.1.1.0 h.0.passed h.1.1.1, inr (record { left = record { passed = h.0.passed; telling = passed_where Told (AreToldOf Dual s) to told h.0.passed before now false h.0.telling; is_greater = h.0.is_greater }; not_crowded = not_crowded half limit h.0.passed places rays sx h.2 }))
  dual_refused half fits room swept limit places rays sx n work.TooMany result h i = subst (IsInnerRefusal Dual s half limit told before now) (sym i) (
    h.0,
    crowd_told limit h.0 places rays h.2.0 sx h.2.1.0 (crowd_of half limit (length base.vectors) (vectors_at pulled places) rays h.2.0 h.0 h.2.1.1),
    passed_where Told (AreToldOf Dual s) to told h.0 before now false h.1,
  )
  dual_refused half fits room swept limit places rays sx n (work.Stopped stage) result h i = subst (IsInnerRefusal Dual s half limit told before now) (sym i) (stopped_where Told (AreToldOf Dual s) to told stage before now h)
  dual_refused half fits room swept limit places rays sx n work.NoMemory result h i = subst (IsInnerRefusal Dual s half limit told before now) (sym i) (inr (h.0, passed_where Told (AreToldOf Dual s) to told h.0 before now false h.1))

-- no mode is both
pub dual_not_primal : (m : Mode) → m ≡ Dual → m ≡ Primal → ⊥
dual_not_primal Primal d p = cc
dual_not_primal Dual d p = cc

-- ---- the same where the number of base vectors is that of the places of a simplex
module _ (s : System) (base : Base) (pulled : List Vector) (is : IsSystem s) (fr : IsFrame s base pulled) (places : List ℕ) (rays : List Vector) (sx : IsSimplexOf (length base.vectors) pulled places rays) where
  same_width : length base.vectors ≡ length places
  same_width = simplex_width (length base.vectors) pulled rays places sx

  pub rows_at : Each (HasWidth (length places)) pulled
  rows_at = subst (λ (n : ℕ). Each (HasWidth n) pulled) same_width (frame_wide s base pulled fr)

  pub simplex_at : IsSimplexOf (length places) pulled places rays
  simplex_at = simplex_at_width (length base.vectors) pulled rays places sx

  pub pt : IsPointed (length base.vectors) pulled
  pt = pointed_of_simplex (length base.vectors) pulled rays places sx

  pub positive_at : IsPositive (IsMember s)
  positive_at = frame_positive s base pulled is fr pt

  list_at : (list : List Vector) → IsListOf IsLexBefore (IsIrreducible (IsInStage (HasWidth (length places)) pulled)) list → IsListOf IsLexBefore (IsIrreducible (IsInStage (HasWidth (length base.vectors)) pulled)) list
  list_at list h = subst (λ (n : ℕ). IsListOf IsLexBefore (IsIrreducible (IsInStage (HasWidth n) pulled)) list) (sym same_width) h

  pub wide_at : (list : List Vector) → IsListOf IsLexBefore (IsIrreducible (IsInStage (HasWidth (length places)) pulled)) list → Each (HasWidth (length base.vectors)) list
  wide_at list h = each_map (IsIrreducible (IsInStage (HasWidth (length base.vectors)) pulled)) (HasWidth (length base.vectors)) list (λ c i. i.member.in_lattice) (list_at list h).only

  pub listed_at : (list back : List Vector) → IsListOf IsLexBefore (IsIrreducible (IsInStage (HasWidth (length places)) pulled)) list → back ≡ map (vector_at base) list → ListsOnce (IsIrreducible (IsMember s)) back
  listed_at list back h e = subst (ListsOnce (IsIrreducible (IsMember s))) (sym e) (dual_listed s base pulled is fr list (list_at list h))

  pub told_at : (told : ℕ) (a c : Watched) → HasPassedAll (AreStages (length places) (HasWidth (length places)) pulled) told a c → HasPassedAll (AreToldOf Dual s) told a c
  told_at told a c h = all_told s base pulled is fr pt told a c (subst (λ (n : ℕ). HasPassedAll (AreStages n (HasWidth n) pulled) told a c) (sym same_width) h)

  -- as many stages as there are numbers of rows from the rank on
  counted : (ps : List Pair) → AreStages (length places) (HasWidth (length places)) pulled ps → length ps ≡ length pulled + 1 - length places
  counted ps p =
      let z = zipped_length _ _ ps p.counts in
      let n = length-range_with_len p.rank (length p.ordered + 1 - p.rank) in
      let o : length p.ordered ≡ length pulled = ap length p.in_order.whole ∙ length-append p.in_order.first p.in_order.others ∙ separates_length p.in_order.separates in
      let r : p.rank ≡ length places = HasRank-unique (length places) (HasWidth (length places)) p.rank (length places) (λ x l. l) p.has_rank (full_rank pulled rays places simplex_at) in
      z ∙ n ∙ ap₂ (λ m k. m + 1 - k) o r

  pub left_at : (half : ℤ) (limit told number : ℕ) (a c : Watched) → HasPassedAll (AreStages (length places) (HasWidth (length places)) pulled) told a c → number ≡ max told (length pulled + 1 - length places)
      → NoneIsCrowded (IsStageOf half limit (length places) pulled (vectors_at pulled places) rays) → HasLeftWithin Dual s limit told number a c
  left_at half limit told number a c h e none = record {
    left = left_told s base pulled is fr pt told a c number (subst (λ (n : ℕ). HasLeft (AreStages n (HasWidth n) pulled) told number a c) (sym same_width) (left_of_all (AreStages (length places) (HasWidth (length places)) pulled) told number (length pulled + 1 - length places) a c h counted e));
    not_crowded = λ p l d. never_crowded s base pulled is fr pt told a c half limit p places rays sx (subst (λ (n : ℕ). ¬ IsStageOf half limit n pulled (vectors_at pulled places) rays p work.TooMany) (sym same_width) (none p)) d;
  }

  pub refused_at : (half : ℤ) (fits : ℤ → Type 0) → HasRoom half fits → IsSwept s base → (limit told : ℕ) (a c : Watched) (e : Work) (result : InnerRefusal) → IsRunRefusal (AreStages (length places) (HasWidth (length places)) pulled) (IsStageOf half limit (length places) pulled (vectors_at pulled places) rays) told a c e → IsSameRefusal e result → IsInnerRefusal Dual s half limit told a c result
  refused_at half fits room swept limit told a c e result h i = dual_refused s base pulled is fr pt told a c half fits room swept limit places rays sx (sym same_width) e result (subst (λ (n : ℕ). IsRunRefusal (AreStages n (HasWidth n) pulled) (IsStageOf half limit n pulled (vectors_at pulled places) rays) told a c e) (sym same_width) h) i

  rows_positive : IsPositive (IsInRows (length base.vectors) pulled)
  rows_positive = positive_of_pointed (length base.vectors) pulled (IsInRows (length base.vectors) pulled) pt (λ v m. m)

  -- an element cannot be brought back
  pub list_refused_at : (half : ℤ) (fits : ℤ → Type 0) → HasRoom half fits → IsSwept s base → (list : List Vector) → IsListOf IsLexBefore (IsIrreducible (IsInStage (HasWidth (length places)) pulled)) list → LacksVector fits base list → IsDualReachAbove s half
  list_refused_at half fits room swept list h k = list_refused s base pulled fr swept half fits room Dual list rows_positive
      (each_map (IsIrreducible (IsInStage (HasWidth (length base.vectors)) pulled)) (IsIrreducible (IsInRows (length base.vectors) pulled)) list
      (λ x i. IsIrreducible-where (IsInStage (HasWidth (length base.vectors)) pulled) (IsInRows (length base.vectors) pulled) (λ y m. (m.in_lattice, m.at_least)) (λ y m. record { in_lattice = m.0; at_least = m.1 }) x i) (list_at list h).only) k

  -- ---- the extreme rays
  rays_at : (xs : List Vector) → AreRaysOnce (length places) pulled xs → AreRaysOnce (length base.vectors) pulled xs
  rays_at xs h = subst (λ (n : ℕ). AreRaysOnce n pulled xs) (sym same_width) h

  pub rays_wide_at : (xs : List Vector) → AreRaysOnce (length places) pulled xs → Each (HasWidth (length base.vectors)) xs
  rays_wide_at xs h = (rays_at xs h).extreme.description.ray_widths

  back_listed : (xs back : List Vector) → AreRaysOnce (length places) pulled xs → back ≡ map (vector_at base) xs → ListsOnce (IsExtreme (IsMember s)) back
  back_listed xs back h e = subst (ListsOnce (IsExtreme (IsMember s))) (sym e) (rays_listed s base pulled is fr xs pt (rays_at xs h).extreme (rays_at xs h).once)

  pub back_wide_at : (xs back : List Vector) → AreRaysOnce (length places) pulled xs → back ≡ map (vector_at base) xs → Each (HasWidth s.width) back
  back_wide_at xs back h e = each_map (IsExtreme (IsMember s)) (HasWidth s.width) back (λ x k. k.irreducible.member.width) (back_listed xs back h e).only

  pub extreme_at : (xs back sorted : List Vector) → AreRaysOnce (length places) pulled xs → back ≡ map (vector_at base) xs → IsSorted s.grading back sorted → AreExtreme s sorted
  extreme_at xs back sorted h e k = sorted_extreme s back sorted (back_listed xs back h e) k.moved k.in_order

  -- they cannot be found, or not be brought back, or their degree is no value
  pub rays_refused_at : (half : ℤ) (fits : ℤ → Type 0) → HasRoom half fits → IsSwept s base → IsTooLarge half (length places) pulled → IsDualReachAbove s half
  rays_refused_at half fits room swept k = start_refused s base pulled fr swept half fits room Dual (subst (λ (n : ℕ). IsTooLarge half n pulled) (sym same_width) k)

  pub back_refused_at : (half : ℤ) (fits : ℤ → Type 0) → HasRoom half fits → IsSwept s base → (xs : List Vector) → AreRaysOnce (length places) pulled xs → LacksVector fits base xs → IsDualReachAbove s half
  back_refused_at half fits room swept xs h k = extreme_refused s base pulled fr swept half fits room Dual xs rows_positive
      (Each-from_contains (IsExtreme (IsInRows (length base.vectors) pulled)) xs (λ x c. listed_is_extreme (length base.vectors) pulled xs x pt (rays_at xs h).extreme c)) k

  pub degree_refused_at : (half : ℤ) (fits : ℤ → Type 0) → HasRoom half fits → (grading : Option Vector) → grading ≡ s.grading → (xs back : List Vector) → AreRaysOnce (length places) pulled xs → back ≡ map (vector_at base) xs → LacksSomeDegree fits grading back → IsDualReachAbove s half
  degree_refused_at half fits room grading g xs back h e k = inl (degree_refused s half fits room k.form (sym g ∙ k.given) back (extreme_named s positive_at back (back_listed xs back h e).only) k.lacks)
