-- What the primal run finds in a frame, as the elements of the system and as what a watch is told of it.
use Rattle.std.proofs.Common.{◌≡◌, inl, inr, ⊎_elim, ℕ, ℤ, max, List, length, map, pos, ◌≤ℤ◌, ◌<ℤ◌, Option, IfSome, false, Contains, sym, ap, ◌∙◌, subst, arith}
use Rattle.std.proofs.lemmas.List.{length-map}
use Rattle.std.specs.List.{AllByRecursion as Each}
use Rattle.nz_spec.specs.Vectors.{Vector, HasWidth}
use Rattle.nz_spec.specs.Order.{MoreThan}
use Rattle.nz_spec.specs.Systems.{System, IsSystem, IsMember}
use Rattle.nz_spec.specs.Monoids.{IsPositive, IsIrreducible, IsExtreme}
use Rattle.nz_spec.specs.Covers.{IsGoodCover}
use Rattle.nz_spec.specs.Stages.{ArePlacings}
use Rattle.nz_spec.proofs.ListLaws.{Each-contains}
use Rattle.nz_spec.specs.Boxes.{IsListedOrBoxMember}
use Rattle.nz_linear.specs.Cones.{IsInRows}
use Rattle.nz_linear.specs.Extreme.{IsPointed}
use Rattle.nz_linear.specs.Coordinates.{AreCoordinates}
use Rattle.nz_linear.proofs.Lists.{each_map, each_of_map}
use Rattle.nz_linear.proofs.SumCoordinates as sum
use Rattle.nz_linear.proofs.CoverCoordinates.{cover_forth}
use Rattle.nz_watch.specs.Watching.{Pair}
use Rattle.nz_watch.specs.Telling.{Watched, HasPassedAll, HasLeft}
use Rattle.nz_vec.specs.declared.answers.Work.{Work}
use Rattle.nz_vec.specs.declared.answers.Work.TheVariants as work
use Rattle.nz_input.specs.declared.kind.Mode.TheVariants.{Primal}
use Rattle.nz_pointed.specs.Pointed.{IsSimplexOf}
use Rattle.nz_rays.proofs.StartLemmas.{simplex_width, simplex_at_width}
use Rattle.nz_sweep.specs.Bases.{Base, IsBase}
use Rattle.nz_primal.specs.Lists.{AreSeparating, AreGenerators, ArePrimalLists, HasStageCount, HasPassedFirst, IsPrimalRefusal}
use Rattle.nz_primal.specs.Parts.{WhereRange}
use Rattle.nz_primal.proofs.PlacingCoordinates.{placings_forth}
use Rattle.nz_primal.proofs.ElementLemmas.{different_mapped}
use Rattle.nz_primal.proofs.GeneratorLemmas.{pointed_of_simplex}
use Rattle.nz_primal.proofs.RunLemmas.{passed_where, all_where, stopped_where}
use Rattle.nz_measures.specs.Crowds.{IsPrimalCrowdAbove, of_held}
use Rattle.nz_measures.specs.Reaches.{IsPrimalReachAbove}
use Rattle.nz_frame.specs.Frames.{IsFrame, order_forms, vector_at}
use Rattle.nz_frame.proofs.FrameLemmas.{frame_base, frame_wide, frame_coordinates, frame_positive}
use Rattle.nz_frame.proofs.OrderLemmas.{order_wide, order_only_zero}
use Rattle.nz_solve.specs.declared.refusal.InnerRefusal.{InnerRefusal}
use Rattle.nz_solve.specs.Solutions.{AreToldOf, WasToldSome, HasLeftWithin, LeavesWith, IsInnerRefusal}
use Rattle.nz_solve.proofs.ToldLemmas.{left_of_all, left_where}
use Rattle.nz_solve.specs.Parts.{AreAllElements, IsSameRefusal}
use Rattle.nz_solve.proofs.FrameLists.{primal_listed, generators_listed}

-- the order forms tell coordinates apart
order_separates : (s : System) (base : Base) (pulled : List Vector) → IsFrame s base pulled → AreSeparating (length base.vectors) (order_forms s.width base.vectors s.grading)
order_separates s base pulled fr = record {
  widths = order_wide s.width base.vectors s.grading;
  only_zero = λ x l z. order_only_zero s.width base.vectors s.grading fr.is_base.widths fr.is_base.independent x l z;
}

-- the forms as they are made from the fields of a system
pub order_here : (s : System) (base : Base) (order : List Vector) (w : ℕ) (grading : Option Vector) → w ≡ s.width → grading ≡ s.grading → order ≡ order_forms w base.vectors grading → order ≡ order_forms s.width base.vectors s.grading
order_here s base order w grading e f h = h ∙ ap (λ (n : ℕ). order_forms n base.vectors grading) e ∙ ap (order_forms s.width base.vectors) f

pub grading_here : (s : System) (w : ℕ) (grading : Option Vector) → w ≡ s.width → grading ≡ s.grading → IfSome s.grading (HasWidth s.width) → IfSome grading (HasWidth w)
grading_here s w grading e f h = subst (λ (n : ℕ). IfSome grading (HasWidth n)) (sym e) (subst (λ (o : Option Vector). IfSome o (HasWidth s.width)) (sym f) h)

module _ (s : System) (base : Base) (pulled : List Vector) (is : IsSystem s) (fr : IsFrame s base pulled) (pt : IsPointed (length base.vectors) pulled) where
  b : IsBase base
  b = frame_base s base pulled fr

  k : AreCoordinates base.width base.vectors (IsMember s) (IsInRows (length base.vectors) pulled)
  k = frame_coordinates s base pulled is fr

  positive : IsPositive (IsMember s)
  positive = frame_positive s base pulled is fr pt

  generators_wide : (extreme : List Vector) → AreGenerators (length base.vectors) pulled (order_forms s.width base.vectors s.grading) extreme → Each (HasWidth (length base.vectors)) extreme
  generators_wide extreme g = each_map (IsExtreme (IsInRows (length base.vectors) pulled)) (HasWidth (length base.vectors)) extreme (λ c e. e.irreducible.member.0) g.only

  pub elements_back : (list extreme list' extreme' : List Vector) (simplices : List (List ℕ)) (forms : List (List Vector)) → ArePrimalLists (length base.vectors) pulled (order_forms s.width base.vectors s.grading) list extreme simplices forms → list' ≡ map (vector_at base) list → extreme' ≡ map (vector_at base) extreme → AreAllElements s list' extreme' simplices
  elements_back list extreme list' extreme' simplices forms p el ex = subst (λ (xs : List Vector). AreAllElements s xs extreme' simplices) (sym el) (subst (λ (xs : List Vector). AreAllElements s (map (vector_at base) list) xs simplices) (sym ex) (record {
    positive = positive;
    lists = primal_listed s base pulled is fr list p.elements;
    are_extreme = generators_listed s base pulled is fr extreme p.generators;
    cover = subst (λ (n : ℕ). IsGoodCover n (IsMember s) (map (vector_at base) extreme) simplices) fr.is_base.width
        (cover_forth base.width base.vectors (IsMember s) (IsInRows (length base.vectors) pulled) k extreme simplices (generators_wide extreme p.generators) p.cover);
  }))

  -- ---- what is told
  told_back : (extreme : List Vector) → AreGenerators (length base.vectors) pulled (order_forms s.width base.vectors s.grading) extreme → (ps : List Pair) → ArePlacings (length base.vectors) extreme ps → AreToldOf Primal s ps
  told_back extreme g ps p = inr (
    positive,
    record {
      extreme = map (vector_at base) extreme;
      are_extreme = generators_listed s base pulled is fr extreme g;
      placings = subst (λ (n : ℕ). ArePlacings n (map (vector_at base) extreme) ps) fr.is_base.width (placings_forth base.width base.vectors b.widths b.independent extreme ps (generators_wide extreme g) p);
    },
  )

  pub all_told : (extreme : List Vector) (told : ℕ) (a c : Watched) → AreGenerators (length base.vectors) pulled (order_forms s.width base.vectors s.grading) extreme → HasPassedAll (ArePlacings (length base.vectors) extreme) told a c → HasPassedAll (AreToldOf Primal s) told a c
  all_told extreme told a c g h = all_where (ArePlacings (length base.vectors) extreme) (AreToldOf Primal s) (told_back extreme g) told a c h

  pub left_told : (extreme : List Vector) (told number : ℕ) (a c : Watched) → AreGenerators (length base.vectors) pulled (order_forms s.width base.vectors s.grading) extreme → HasLeft (ArePlacings (length base.vectors) extreme) told number a c → HasLeft (AreToldOf Primal s) told number a c
  left_told extreme told number a c g h = left_where (ArePlacings (length base.vectors) extreme) (AreToldOf Primal s) (told_back extreme g) told number a c h

  -- ---- what is held
  held_back : (extreme : List Vector) → Each (HasWidth (length base.vectors)) extreme → (c : Vector) → IsListedOrBoxMember (length base.vectors) (IsInRows (length base.vectors) pulled) extreme c → IsListedOrBoxMember base.width (IsMember s) (map (vector_at base) extreme) (vector_at base c)
  held_back extreme l c (inl h) = inl (sum.mapped_has (vector_at base) extreme c h)
  held_back extreme l c (inr h) =
      let lv : Each (HasWidth (length base.vectors)) h.vectors = each_map (Contains extreme) (HasWidth (length base.vectors)) h.vectors (λ v m. sum_width v m) h.of_list in
      inr (record {
        member = k.forth c h.member;
        vectors = map (vector_at base) h.vectors;
        of_list = each_of_map (vector_at base) (Contains (map (vector_at base) extreme)) h.vectors (each_map (Contains extreme) (λ v. Contains (map (vector_at base) extreme) (vector_at base v)) h.vectors (λ v m. sum.mapped_has (vector_at base) extreme v m) h.of_list);
        independent = sum.independent_forth base.width base.vectors b.widths b.independent h.vectors lv h.independent;
        in_box = sum.sum_forth base.width base.vectors b.widths b.independent (λ m f. (pos 0 ≤ℤ f) × (f <ℤ m)) h.vectors c lv h.in_box;
      })
    where
      sum_width : (v : Vector) → Contains extreme v → HasWidth (length base.vectors) v
      sum_width v m = Each-contains (HasWidth (length base.vectors)) extreme v l m

  held_width : (extreme : List Vector) → Each (HasWidth (length base.vectors)) extreme → (c : Vector) → IsListedOrBoxMember (length base.vectors) (IsInRows (length base.vectors) pulled) extreme c → HasWidth (length base.vectors) c
  held_width extreme l c (inl h) = Each-contains (HasWidth (length base.vectors)) extreme c l h
  held_width extreme l c (inr h) = h.member.0

  crowd_back : (limit : ℕ) (extreme : List Vector) → AreGenerators (length base.vectors) pulled (order_forms s.width base.vectors s.grading) extreme → MoreThan limit (IsListedOrBoxMember (length base.vectors) (IsInRows (length base.vectors) pulled) extreme) → IsPositive (IsMember s) × IsPrimalCrowdAbove s limit
  crowd_back limit extreme g m =
      let l = generators_wide extreme g in
      let held : MoreThan limit (IsListedOrBoxMember base.width (IsMember s) (map (vector_at base) extreme)) = record {
        witnesses = map (vector_at base) m.witnesses;
        different = different_mapped (vector_at base) (HasWidth (length base.vectors)) (sum.at_same base.width base.vectors b.widths b.independent) m.witnesses (each_map (IsListedOrBoxMember (length base.vectors) (IsInRows (length base.vectors) pulled) extreme) (HasWidth (length base.vectors)) m.witnesses (λ c h. held_width extreme l c h) m.only) m.different;
        only = each_of_map (vector_at base) (IsListedOrBoxMember base.width (IsMember s) (map (vector_at base) extreme)) m.witnesses (each_map (IsListedOrBoxMember (length base.vectors) (IsInRows (length base.vectors) pulled) extreme) (λ c. IsListedOrBoxMember base.width (IsMember s) (map (vector_at base) extreme) (vector_at base c)) m.witnesses (λ c h. held_back extreme l c h) m.only);
        more = (let e = length-map m.witnesses (vector_at base) in let n = m.more in omega (arith, e, n));
      } in
      (positive, of_held positive (generators_listed s base pulled is fr extreme g) (subst (λ (n : ℕ). MoreThan limit (IsListedOrBoxMember n (IsMember s) (map (vector_at base) extreme))) fr.is_base.width held))

  -- ---- refusals
  some_back : (told passed : ℕ) (a c : Watched) → HasPassedFirst (length base.vectors) pulled (order_forms s.width base.vectors s.grading) told passed a c → WasToldSome Primal s told a c
  some_back told passed a c h = ⊎_elim
      (λ p. inl p.1)
      (λ p. inr (passed, passed_where (ArePlacings (length base.vectors) p.0) (AreToldOf Primal s) (told_back p.0 p.1) told passed a c false p.2))
      h

  left_back : (limit told passed number : ℕ) (a c : Watched) → HasPassedFirst (length base.vectors) pulled (order_forms s.width base.vectors s.grading) told passed a c → number ≡ max told passed → LeavesWith Primal s limit told number a c
  left_back limit told passed number a c h e = ⊎_elim
      (λ p. inl (let z = p.0 in omega (arith, e, z), p.1))
      (λ p. inr (record { left = record { passed = passed; telling = passed_where (ArePlacings (length base.vectors) p.0) (AreToldOf Primal s) (told_back p.0 p.1) told passed a c false p.2; is_greater = e }; not_crowded = tt }))
      h

  pub primal_refused : (half : ℤ) (limit told : ℕ) (a c : Watched) (e : Work) (result : InnerRefusal) → IsPrimalRefusal (length base.vectors) pulled (order_forms s.width base.vectors s.grading) limit told a c e → WhereRange (IsPrimalReachAbove s half) e → IsSameRefusal e result → IsInnerRefusal Primal s half limit told a c result
  primal_refused half limit told a c (work.Range number) result h r i = subst (IsInnerRefusal Primal s half limit told a c) (sym i) (r, left_back limit told h.0 number a c h.1 h.2)
  primal_refused half limit told a c work.TooMany result h r i = subst (IsInnerRefusal Primal s half limit told a c) (sym i) (let cr = crowd_back limit h.0 h.1 h.3 in (cr.0, cr.1, all_told h.0 told a c h.1 h.2))
  primal_refused half limit told a c (work.Stopped stage) result h r i = subst (IsInnerRefusal Primal s half limit told a c) (sym i) (stopped_where (ArePlacings (length base.vectors) h.0) (AreToldOf Primal s) (told_back h.0 h.1) told stage a c h.2)
  primal_refused half limit told a c work.NoMemory result h r i = subst (IsInnerRefusal Primal s half limit told a c) (sym i) (some_back told h.0 a c h.1)

-- ---- the same where the number of base vectors is that of the places of a simplex, and the order has another name
module _ (s : System) (base : Base) (pulled : List Vector) (is : IsSystem s) (fr : IsFrame s base pulled) (places : List ℕ) (rays : List Vector) (sx : IsSimplexOf (length base.vectors) pulled places rays) (order : List Vector) (eo : order ≡ order_forms s.width base.vectors s.grading) where
  same_width : length base.vectors ≡ length places
  same_width = simplex_width (length base.vectors) pulled rays places sx

  pub rows_at : Each (HasWidth (length places)) pulled
  rows_at = subst (λ (n : ℕ). Each (HasWidth n) pulled) same_width (frame_wide s base pulled fr)

  pub simplex_at : IsSimplexOf (length places) pulled places rays
  simplex_at = simplex_at_width (length base.vectors) pulled rays places sx

  pub order_at : AreSeparating (length places) order
  order_at = subst (λ (n : ℕ). AreSeparating n order) same_width (subst (AreSeparating (length base.vectors)) (sym eo) (order_separates s base pulled fr))

  pub pt : IsPointed (length base.vectors) pulled
  pt = pointed_of_simplex (length base.vectors) pulled rays places sx

  lists_at : (list extreme : List Vector) (simplices : List (List ℕ)) (forms : List (List Vector)) → ArePrimalLists (length places) pulled order list extreme simplices forms → ArePrimalLists (length base.vectors) pulled (order_forms s.width base.vectors s.grading) list extreme simplices forms
  lists_at list extreme simplices forms p = subst (λ (n : ℕ). ArePrimalLists n pulled (order_forms s.width base.vectors s.grading) list extreme simplices forms) (sym same_width) (subst (λ (o : List Vector). ArePrimalLists (length places) pulled o list extreme simplices forms) eo p)

  pub list_irreducible_at : (list extreme : List Vector) (simplices : List (List ℕ)) (forms : List (List Vector)) → ArePrimalLists (length places) pulled order list extreme simplices forms → Each (IsIrreducible (IsInRows (length base.vectors) pulled)) list
  list_irreducible_at list extreme simplices forms p = (lists_at list extreme simplices forms p).elements.only

  pub extreme_at : (list extreme : List Vector) (simplices : List (List ℕ)) (forms : List (List Vector)) → ArePrimalLists (length places) pulled order list extreme simplices forms → Each (IsExtreme (IsInRows (length base.vectors) pulled)) extreme
  extreme_at list extreme simplices forms p = (lists_at list extreme simplices forms p).generators.only

  pub list_wide_at : (list extreme : List Vector) (simplices : List (List ℕ)) (forms : List (List Vector)) → ArePrimalLists (length places) pulled order list extreme simplices forms → Each (HasWidth (length base.vectors)) list
  list_wide_at list extreme simplices forms p = each_map (IsIrreducible (IsInRows (length base.vectors) pulled)) (HasWidth (length base.vectors)) list (λ c i. i.member.0) (lists_at list extreme simplices forms p).elements.only

  pub extreme_wide_at : (list extreme : List Vector) (simplices : List (List ℕ)) (forms : List (List Vector)) → ArePrimalLists (length places) pulled order list extreme simplices forms → Each (HasWidth (length base.vectors)) extreme
  extreme_wide_at list extreme simplices forms p = each_map (IsExtreme (IsInRows (length base.vectors) pulled)) (HasWidth (length base.vectors)) extreme (λ c e. e.irreducible.member.0) (lists_at list extreme simplices forms p).generators.only

  pub elements_at : (list extreme list' extreme' : List Vector) (simplices simplices' : List (List ℕ)) (forms : List (List Vector)) → ArePrimalLists (length places) pulled order list extreme simplices forms → list' ≡ map (vector_at base) list → extreme' ≡ map (vector_at base) extreme → simplices' ≡ simplices → AreAllElements s list' extreme' simplices'
  elements_at list extreme list' extreme' simplices simplices' forms p el ex e = subst (AreAllElements s list' extreme') (sym e) (elements_back s base pulled is fr pt list extreme list' extreme' simplices forms (lists_at list extreme simplices forms p) el ex)

  pub told_at : (list extreme : List Vector) (simplices : List (List ℕ)) (forms : List (List Vector)) (told : ℕ) (a c : Watched) → ArePrimalLists (length places) pulled order list extreme simplices forms × HasPassedAll (ArePlacings (length places) extreme) told a c → HasPassedAll (AreToldOf Primal s) told a c
  told_at list extreme simplices forms told a c h = all_told s base pulled is fr pt extreme told a c (lists_at list extreme simplices forms h.0).generators (subst (λ (n : ℕ). HasPassedAll (ArePlacings n extreme) told a c) (sym same_width) h.1)

  pub left_at : (list extreme : List Vector) (simplices : List (List ℕ)) (forms : List (List Vector)) (limit told number count : ℕ) (a c : Watched) → ArePrimalLists (length places) pulled order list extreme simplices forms × HasPassedAll (ArePlacings (length places) extreme) told a c → HasStageCount (length places) extreme count → number ≡ max told count → HasLeftWithin Primal s limit told number a c
  left_at list extreme simplices forms limit told number count a c h law e = record { left = left_told s base pulled is fr pt extreme told number a c (lists_at list extreme simplices forms h.0).generators (subst (λ (n : ℕ). HasLeft (ArePlacings n extreme) told number a c) (sym same_width) (left_of_all (ArePlacings (length places) extreme) told number count a c h.1 law e)); not_crowded = tt }

  pub refused_at : (half : ℤ) (limit told : ℕ) (a c : Watched) (e : Work) (result : InnerRefusal) → IsPrimalRefusal (length places) pulled order limit told a c e → WhereRange (IsPrimalReachAbove s half) e → IsSameRefusal e result → IsInnerRefusal Primal s half limit told a c result
  refused_at half limit told a c e result h r i = primal_refused s base pulled is fr pt half limit told a c e result (subst (λ (n : ℕ). IsPrimalRefusal n pulled (order_forms s.width base.vectors s.grading) limit told a c e) (sym same_width) (subst (λ (o : List Vector). IsPrimalRefusal (length places) pulled o limit told a c e) eo h)) r i
