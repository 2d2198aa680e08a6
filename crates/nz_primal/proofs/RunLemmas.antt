-- From second coordinates to what the primal run answers.
use Rattle.std.proofs.Common.{◌≡◌, ◌⊎◌, inl, inr, ℕ, suc, ◌+◌, ◌-◌, max, List, [], ◌∷◌, length, map, ℤ, pos, ◌≤ℤ◌, ◌<ℤ◌, Contains, Bool, false, true, refl, sym, ap, ap₂, ◌∙◌, subst, arith}
use Rattle.std.proofs.lemmas.List.{length-map, length-append}
use Rattle.std.proofs.lemmas.List.FromFn.{length-range_with_len}
use Rattle.std.specs.List.{AllByRecursion as Each, AllZip, range_with_len}
use Rattle.nz_spec.specs.Vectors.{Vector, dot, combination, HasWidth, IsZero}
use Rattle.nz_spec.specs.Sums.{IsInBox, IsIndependent, HasRank}
use Rattle.nz_spec.specs.Order.{IsLexBefore, IsListOf, MoreThan}
use Rattle.nz_spec.specs.Monoids.{IsIrreducible, IsExtreme}
use Rattle.nz_spec.specs.Covers.{vectors_at, IsSimplex, IsGoodCover}
use Rattle.nz_spec.specs.Stages.{Separates, none, fresh, other, ArePlacings}
use Rattle.nz_spec.proofs.ListLaws.{Each-contains, contains_here}
use Rattle.nz_spec.proofs.VectorLaws.{IsZero-zero_vector}
use Rattle.nz_spec.proofs.LinearLaws.{HasRank-unique}
use Rattle.nz_spec.proofs.SumLaws.{IsInCone-box}
use Rattle.nz_spec.specs.Boxes.{IsListedOrBoxMember}
use Rattle.nz_linear.specs.Cones.{IsInRows}
use Rattle.nz_linear.specs.Extreme.{IsPointed}
use Rattle.nz_linear.specs.Coordinates.{AreCoordinates, in_coordinates}
use Rattle.nz_spec.proofs.StageUnique.{ArePlacings-unique}
use Rattle.nz_linear.proofs.Lists.{each_map, each_of_map}
use Rattle.nz_linear.proofs.ConeMembers.{cone_of_members}
use Rattle.nz_linear.proofs.Coordinates.{irreducible_forth, irreducible_back}
use Rattle.nz_order.proofs.SortLaws.{IsListOf-where}
use Rattle.nz_watch.specs.Watching.{Pair}
use Rattle.nz_watch.specs.Telling.{Watched, HasPassed, HasPassedAll, HasStopped}
use Rattle.nz_watch.proofs.TellingLemmas.{none_told}
use Rattle.nz_vec.specs.declared.answers.Num.{Num}
use Rattle.nz_vec.specs.declared.answers.Num.TheVariants as num
use Rattle.nz_vec.specs.declared.answers.Work.{Work}
use Rattle.nz_vec.specs.declared.answers.Work.TheVariants.{Range, TooMany, Stopped, NoMemory}
use Rattle.nz_classes.specs.Classes.{IsPoint}
use Rattle.nz_cover.specs.Placing.{ArePlaceable, IsInConeOf, IsPlaced, IsPlaceRefusal}
use Rattle.nz_sweep.specs.Bases.{Base, IsBase}
use Rattle.nz_primal.specs.Lists.{ArePrimalLists, HasStageCount, IsPrimalRefusal, HasPassedFirst}
use Rattle.nz_primal.specs.Second.{IsFaceBase, HaveCoordinates}
use Rattle.nz_primal.specs.Parts.{IsSettled, IsSecondCone, IsVectorOf, IsPointOf, IsCrowded, IsWalkRefusal, IsFirstRefusal, IsLastRefusal, stage_count}
use Rattle.nz_linear.proofs.SumCoordinates as sum
use Rattle.nz_linear.proofs.CoverCoordinates.{vectors_wide, vectors_listed, cover_forth}
use Rattle.nz_primal.proofs.SecondLemmas as second
use Rattle.nz_primal.proofs.PlacingCoordinates.{placings_forth}
use Rattle.nz_primal.proofs.ElementLemmas.{different_mapped}

-- ---- what a watch was told, by other words for the stages
abbrev pub passed_where : (P Q : List Pair → Type 0) → ((ps : List Pair) → P ps → Q ps) → (told passed : ℕ) (a b : Watched) (s : Bool) → HasPassed P told passed a b s → HasPassed Q told passed a b s
passed_where P Q f told passed a b s h = record { stages = h.stages; are_stages = f h.stages h.are_stages; within = h.within; was_told = h.was_told }

pub all_where : (P Q : List Pair → Type 0) → ((ps : List Pair) → P ps → Q ps) → (told : ℕ) (a b : Watched) → HasPassedAll P told a b → HasPassedAll Q told a b
all_where P Q f told a b h = record { passed = h.passed; telling = passed_where P Q f told h.passed a b false h.telling; all = h.all }

pub stopped_where : (P Q : List Pair → Type 0) → ((ps : List Pair) → P ps → Q ps) → (told stage : ℕ) (a b : Watched) → HasStopped P told stage a b → HasStopped Q told stage a b
stopped_where P Q f told stage a b h = record { passed = h.passed; new = h.new; telling = passed_where P Q f told h.passed a b true h.telling; is_last = h.is_last }

-- ---- how many stages there are
pub separates_length : {Fresh : List Vector → Vector → Type 0} {earlier vs first others : List Vector} → Separates Fresh earlier vs first others → length first + length others ≡ length vs
separates_length none = refl
separates_length (fresh n s) = let r = separates_length s in omega (arith, r)
separates_length (other n s) = let r = separates_length s in omega (arith, r)

pub zipped_length : {A B : Type 0} (R : A → B → Type 0) (xs : List A) (ys : List B) → AllZip R xs ys → length ys ≡ length xs
zipped_length R [] [] z = refl
zipped_length R [] (y ∷ ys) z = absurd z
zipped_length R (x ∷ xs) [] z = absurd z
zipped_length R (x ∷ xs) (y ∷ ys) z = ap suc (zipped_length R xs ys z.1)

stages_counted : (w : ℕ) (vs : List Vector) (pairs : List Pair) → Each (HasWidth w) vs → HasRank w (Contains vs) w → ArePlacings w vs pairs → length pairs ≡ stage_count w (length vs)
stages_counted w [] pairs l h e = ap length e
stages_counted w (v ∷ vs) pairs l h p =
    let z = zipped_length _ _ pairs p.counts in
    let n : length (range_with_len p.rank (length p.ordered + 1 - p.rank)) ≡ length p.ordered + 1 - p.rank = length-range_with_len p.rank (length p.ordered + 1 - p.rank) in
    let o : length p.ordered ≡ length (v ∷ vs) = ap length p.in_order.whole ∙ length-append p.in_order.first p.in_order.others ∙ separates_length p.in_order.separates in
    let r : p.rank ≡ w = HasRank-unique w (Contains (v ∷ vs)) p.rank w (λ x c. Each-contains (HasWidth w) (v ∷ vs) x l c) p.has_rank h in
    z ∙ n ∙ ap₂ (λ m k. m + 1 - k) o r

no_entries : (c : Vector) → length c ≡ 0 → c ≡ []
no_entries [] e = refl
no_entries (a ∷ c) e = absurd (let b : ⊥ = omega (arith, e) in b)

module _ (w : ℕ) (rows order extreme : List Vector) (base : Base) (coordinates second_rows : List Vector) (lr : Each (HasWidth w) rows) (pt : IsPointed w rows) (st : IsSettled w rows order extreme base coordinates second_rows) where
  abbrev r : ℕ
  r = length base.vectors

  abbrev at : Vector → Vector
  at c = combination w c base.vectors

  fb : IsFaceBase w rows extreme base.vectors
  fb = st.in_second.is_base

  have : HaveCoordinates w base.vectors coordinates extreme
  have = st.in_second.have

  there : AreCoordinates w base.vectors (IsInRows w rows) (IsInRows (length base.vectors) second_rows)
  there = subst (λ (rs : List Vector). AreCoordinates w base.vectors (IsInRows w rows) (IsInRows (length base.vectors) rs)) (sym st.in_second.rows_there) (second.second_coordinates w rows extreme pt st.once.extreme base.vectors fb)

  pulled_wide : (rs : List Vector) → Each (HasWidth (length base.vectors)) (map (λ f. in_coordinates base.vectors f) rs)
  pulled_wide [] = tt
  pulled_wide (f ∷ rs) = (length-map base.vectors (λ v. dot f v), pulled_wide rs)

  pub settled_cone : IsSecondCone (length base.vectors) second_rows coordinates
  settled_cone = subst (λ (rs : List Vector). IsSecondCone (length base.vectors) rs coordinates) (sym st.in_second.rows_there) (record {
    rows_wide = pulled_wide rows;
    rays_wide = have.widths;
    pointed = second.second_only_zero w rows extreme pt st.once.extreme base.vectors fb;
    cone = second.second_cone w rows extreme pt st.once.extreme base.vectors fb coordinates have;
    full = second.second_rank w rows extreme pt st.once.extreme base.vectors fb coordinates have;
  })

  pub settled_base : IsBase base
  settled_base = record { widths = subst (λ (n : ℕ). Each (HasWidth n) base.vectors) (sym st.in_second.width) fb.widths; independent = subst (λ (n : ℕ). IsIndependent n base.vectors) (sym st.in_second.width) fb.independent }

  pub settled_placeable : ArePlaceable (length base.vectors) coordinates
  settled_placeable = record { widths = have.widths; full = settled_cone.full }

  placings_back : (ps : List Pair) → ArePlacings (length base.vectors) coordinates ps → ArePlacings w extreme ps
  placings_back ps p = subst (λ (vs : List Vector). ArePlacings w vs ps) have.same (placings_forth w base.vectors fb.widths fb.independent coordinates ps have.widths p)

  elements_back : (list : List Vector) → IsListOf IsLexBefore (IsVectorOf base (IsIrreducible (IsInRows (length base.vectors) second_rows))) list → IsListOf IsLexBefore (IsIrreducible (IsInRows w rows)) list
  elements_back list h =
      IsListOf-where IsLexBefore (IsVectorOf base (IsIrreducible (IsInRows (length base.vectors) second_rows))) (IsIrreducible (IsInRows w rows))
      (λ x v. subst (IsIrreducible (IsInRows w rows)) (ap (λ n. combination n v.0 base.vectors) (sym st.in_second.width) ∙ v.2) (irreducible_forth w base.vectors (IsInRows w rows) (IsInRows (length base.vectors) second_rows) there v.0 v.1))
      (λ x i. let b = there.back x i.member in
      (b.0, irreducible_back w base.vectors (IsInRows w rows) (IsInRows (length base.vectors) second_rows) there b.0 (there.one_each b.0 b.1) (subst (IsIrreducible (IsInRows w rows)) (sym b.2) i), ap (λ n. combination n b.0 base.vectors) st.in_second.width ∙ b.2))
      list h

  cover_back : (simplices : List (List ℕ)) → IsGoodCover (length base.vectors) (IsInConeOf (length base.vectors) coordinates) coordinates simplices → IsGoodCover w (IsInRows w rows) extreme simplices
  cover_back simplices g = subst (λ (vs : List Vector). IsGoodCover w (IsInRows w rows) vs simplices) have.same (cover_forth w base.vectors (IsInRows w rows) (IsInRows (length base.vectors) second_rows) there coordinates simplices have.widths (record {
    in_order = g.in_order;
    simplices = g.simplices;
    covers = λ x m n. g.covers x (m.0, (settled_cone.cone x m.0).1 m) n;
    no_overlap = λ p q cp cq ne x m. g.no_overlap p q cp cq ne x (m.0, (settled_cone.cone x m.0).1 m);
    none = g.none;
  }))

  pub lists_found : (list : List Vector) (simplices : List (List ℕ)) (forms : List (List Vector)) → IsPlaced (length base.vectors) coordinates simplices forms → IsListOf IsLexBefore (IsVectorOf base (IsIrreducible (IsInRows (length base.vectors) second_rows))) list → ArePrimalLists w rows order list extreme simplices forms
  lists_found list simplices forms p h = record {
    elements = elements_back list h;
    generators = st.generators;
    cover = cover_back simplices p.cover;
    cover_forms = record { base = base.vectors; coordinates = coordinates; is_base = fb; have = have; dual = p.dual };
  }

  pub all_told : (told : ℕ) (a b : Watched) → HasPassedAll (ArePlacings (length base.vectors) coordinates) told a b → HasPassedAll (ArePlacings w extreme) told a b
  all_told told a b h = all_where (ArePlacings (length base.vectors) coordinates) (ArePlacings w extreme) placings_back told a b h

  passed_first : (told passed : ℕ) (a b : Watched) → HasPassed (ArePlacings (length base.vectors) coordinates) told passed a b false → HasPassedFirst w rows order told passed a b
  passed_first told passed a b h = inr (extreme, st.generators, passed_where (ArePlacings (length base.vectors) coordinates) (ArePlacings w extreme) placings_back told passed a b false h)

  pub place_refused : (h : ℤ) (limit told : ℕ) (a b : Watched) (e : Work) → IsPlaceRefusal h (length base.vectors) coordinates told a b e → IsPrimalRefusal w rows order limit told a b e
  place_refused h limit told a b (Range number) k = (k.0.passed, passed_first told k.0.passed a b k.0.telling, k.0.is_greater)
  place_refused h limit told a b TooMany k = absurd k
  place_refused h limit told a b (Stopped stage) k = (extreme, st.generators, stopped_where (ArePlacings (length base.vectors) coordinates) (ArePlacings w extreme) placings_back told stage a b k)
  place_refused h limit told a b NoMemory k = (k.0, passed_first told k.0 a b k.1)

  -- without a base there are no rays
  pub no_rays : length base.vectors ≡ 0 → length coordinates ≡ 0
  no_rays e = none_there coordinates have.widths (λ c k. Each-contains (IsExtreme (IsInRows w rows)) extreme (at c) st.generators.only (subst (λ (vs : List Vector). Contains vs (at c)) have.same (sum.mapped_has at coordinates c k)))
    where
      none_there : (cs : List Vector) → Each (HasWidth (length base.vectors)) cs → ((c : Vector) → Contains cs c → IsExtreme (IsInRows w rows) (at c)) → length cs ≡ 0
      none_there [] l h = refl
      none_there (c ∷ cs) l h =
          let lc = l.0 in
          let z : c ≡ [] = no_entries c (lc ∙ e) in
          absurd ((h c (contains_here c cs)).irreducible.nonzero (subst (λ d. IsZero (at d)) (sym z) (IsZero-zero_vector w)))

  -- the points of a simplex, as vectors of the whole
  point_held : (simplices : List (List ℕ)) (places : List ℕ) → IsSimplex (length base.vectors) coordinates places → (c : Vector) → IsPoint (length places) (vectors_at coordinates places) c → HasWidth (length base.vectors) c × IsListedOrBoxMember w (IsInRows w rows) extreme (at c)
  point_held simplices places s c p =
      let n : length places ≡ length base.vectors = HasRank-unique (length base.vectors) (Contains coordinates) (length places) (length base.vectors) (λ x k. Each-contains (HasWidth (length base.vectors)) coordinates x have.widths k) s.full settled_cone.full in
      let vs = vectors_at coordinates places in
      let lv = vectors_wide (length base.vectors) coordinates places have.widths s.within in
      let lc : HasWidth (length base.vectors) c = p.0 ∙ n in
      let box : IsInBox (length base.vectors) vs c = subst (λ m. IsInBox m vs c) n p.1 in
      let m : IsInRows (length base.vectors) second_rows c = (settled_cone.cone c lc).0 (cone_of_members (length base.vectors) vs coordinates c have.widths (vectors_listed coordinates places s.within) (IsInCone-box (length base.vectors) vs c box)) in (
        lc,
        inr (record {
          member = there.forth c m;
          vectors = map at vs;
          of_list = subst (λ (us : List Vector). Each (Contains us) (map at vs)) have.same (each_of_map at (Contains (map at coordinates)) vs (each_map (Contains coordinates) (λ v. Contains (map at coordinates) (at v)) vs (λ v k. sum.mapped_has at coordinates v k) (vectors_listed coordinates places s.within)));
          independent = sum.independent_forth w base.vectors fb.widths fb.independent vs lv s.independent;
          in_box = sum.sum_forth w base.vectors fb.widths fb.independent (λ k f. (pos 0 ≤ℤ f) × (f <ℤ k)) vs c lv box;
        }),
      )

  -- a ray or a point of a simplex, as a vector of the whole
  held_at : (simplices : List (List ℕ)) → Each (IsSimplex (length base.vectors) coordinates) simplices → (c : Vector) → Contains coordinates c ⊎ IsPointOf coordinates simplices c → HasWidth (length base.vectors) c × IsListedOrBoxMember w (IsInRows w rows) extreme (at c)
  held_at simplices g c (inl r) = (Each-contains (HasWidth (length base.vectors)) coordinates c have.widths r, inl (subst (λ (vs : List Vector). Contains vs (at c)) have.same (sum.mapped_has at coordinates c r)))
  held_at simplices g c (inr p) = point_held simplices p.0 (Each-contains (IsSimplex (length base.vectors) coordinates) simplices p.0 g p.1) c p.2

  more_held : (limit : ℕ) (simplices : List (List ℕ)) → Each (IsSimplex (length base.vectors) coordinates) simplices → IsCrowded limit coordinates simplices → MoreThan limit (IsListedOrBoxMember w (IsInRows w rows) extreme)
  more_held limit simplices g h =
      let each = each_map (λ c. Contains coordinates c ⊎ IsPointOf coordinates simplices c) (λ c. HasWidth (length base.vectors) c × IsListedOrBoxMember w (IsInRows w rows) extreme (at c)) h.witnesses (held_at simplices g) h.only in
      record {
        witnesses = map at h.witnesses;
        different = different_mapped at (HasWidth (length base.vectors)) (sum.at_same w base.vectors fb.widths fb.independent) h.witnesses (each_map (λ c. HasWidth (length base.vectors) c × IsListedOrBoxMember w (IsInRows w rows) extreme (at c)) (HasWidth (length base.vectors)) h.witnesses (λ c p. p.0) each) h.different;
        only = each_of_map at (IsListedOrBoxMember w (IsInRows w rows) extreme) h.witnesses (each_map (λ c. HasWidth (length base.vectors) c × IsListedOrBoxMember w (IsInRows w rows) extreme (at c)) (λ c. IsListedOrBoxMember w (IsInRows w rows) extreme (at c)) h.witnesses (λ c p. p.1) each);
        more = (let e = length-map h.witnesses at in let m = h.more in omega (arith, e, m));
      }

  pub walk_refused : (limit told : ℕ) (a b : Watched) (simplices : List (List ℕ)) (forms : List (List Vector)) (e result : Work) → IsPlaced (length base.vectors) coordinates simplices forms → HasPassedAll (ArePlacings (length base.vectors) coordinates) told a b → IsWalkRefusal limit coordinates simplices e → IsLastRefusal e told (stage_count (length base.vectors) (length coordinates)) result → IsPrimalRefusal w rows order limit told a b result
  walk_refused limit told a b simplices forms (Range number) result p h k i = subst (IsPrimalRefusal w rows order limit told a b) (sym i) (
    h.passed,
    passed_first told h.passed a b h.telling,
    ap (λ n. max told n) (sym (h.all ∙ stages_counted (length base.vectors) coordinates h.telling.stages have.widths settled_cone.full h.telling.are_stages)),
  )
  walk_refused limit told a b simplices forms TooMany result p h k i = subst (IsPrimalRefusal w rows order limit told a b) (sym i) (extreme, st.generators, all_told told a b h, more_held limit simplices p.cover.simplices k)
  walk_refused limit told a b simplices forms (Stopped stage) result p h k i = absurd k
  walk_refused limit told a b simplices forms NoMemory result p h k i = subst (IsPrimalRefusal w rows order limit told a b) (sym i) (h.passed, passed_first told h.passed a b h.telling)

  -- ---- the same where the number of base vectors is called n
  pub placeable_at : (n : ℕ) → n ≡ length base.vectors → ArePlaceable n coordinates
  placeable_at n e = subst (λ (m : ℕ). ArePlaceable m coordinates) (sym e) settled_placeable

  pub place_refused_at : (n : ℕ) → n ≡ length base.vectors → (h : ℤ) (limit told : ℕ) (a b : Watched) (e : Work) → IsPlaceRefusal h n coordinates told a b e → IsPrimalRefusal w rows order limit told a b e
  place_refused_at n en h limit told a b e k = place_refused h limit told a b e (subst (λ (m : ℕ). IsPlaceRefusal h m coordinates told a b e) en k)

  pub found_at : (n : ℕ) → n ≡ length base.vectors → (told : ℕ) (a b : Watched) (list : List Vector) (simplices : List (List ℕ)) (forms : List (List Vector)) → IsPlaced n coordinates simplices forms × HasPassedAll (ArePlacings n coordinates) told a b → IsListOf IsLexBefore (IsVectorOf base (IsIrreducible (IsInRows (length base.vectors) second_rows))) list → ArePrimalLists w rows order list extreme simplices forms × HasPassedAll (ArePlacings w extreme) told a b
  found_at n en told a b list simplices forms k h = (
    lists_found list simplices forms (subst (λ (m : ℕ). IsPlaced m coordinates simplices forms) en k.0) h,
    all_told told a b (subst (λ (m : ℕ). HasPassedAll (ArePlacings m coordinates) told a b) en k.1),
  )

  pub counted_at : (n : ℕ) → n ≡ length base.vectors → (told : ℕ) (a b : Watched) → HasPassedAll (ArePlacings n coordinates) told a b → (count : ℕ) → count ≡ stage_count (length base.vectors) (length coordinates) → HasStageCount w extreme count
  counted_at n en told a b h count ec pairs q =
      let k = subst (λ (m : ℕ). HasPassedAll (ArePlacings m coordinates) told a b) en h in
      ap length (ArePlacings-unique w extreme pairs k.telling.stages st.once.extreme.description.ray_widths q (placings_back k.telling.stages k.telling.are_stages)) ∙ stages_counted (length base.vectors) coordinates k.telling.stages have.widths settled_cone.full k.telling.are_stages ∙ sym ec

  pub walk_refused_at : (n : ℕ) → n ≡ length base.vectors → (limit told : ℕ) (a b : Watched) (simplices : List (List ℕ)) (forms : List (List Vector)) (e result : Work) (count : ℕ) → IsPlaced n coordinates simplices forms × HasPassedAll (ArePlacings n coordinates) told a b → IsWalkRefusal limit coordinates simplices e → count ≡ stage_count (length base.vectors) (length coordinates) → IsLastRefusal e told count result → IsPrimalRefusal w rows order limit told a b result
  walk_refused_at n en limit told a b simplices forms e result count k h ec i =
      walk_refused limit told a b simplices forms e result (subst (λ (m : ℕ). IsPlaced m coordinates simplices forms) en k.0) (subst (λ (m : ℕ). HasPassedAll (ArePlacings m coordinates) told a b) en k.1) h (subst (λ (m : ℕ). IsLastRefusal e told m result) ec i)

-- before the first stage
pub first_refused : (w : ℕ) (rows order : List Vector) (limit told : ℕ) (a : Watched) (e : Num) (result : Work) → IsFirstRefusal e told result → IsPrimalRefusal w rows order limit told a a result
first_refused w rows order limit told a num.Range result i = subst (IsPrimalRefusal w rows order limit told a a) (sym i) (0, inl (refl, none_told a), omega (arith))
first_refused w rows order limit told a num.NoMemory result i = subst (IsPrimalRefusal w rows order limit told a a) (sym i) (0, inl (refl, none_told a))
