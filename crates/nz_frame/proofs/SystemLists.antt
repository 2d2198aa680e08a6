-- The irreducible elements and the extreme generators of a system, from their lists in coordinates of a base of its lattice.
use Rattle.std.proofs.Common.{◌≡◌, ◌≢◌, ◌↔◌, ℕ, ◌≤◌, List, [], ◌∷◌, length, map, Option, Contains, sym, subst, arith, inl, inr, pos, ◌≤ℤ◌, ◌<ℤ◌}
use Rattle.std.proofs.lemmas.List.{length-map}
use Rattle.std.specs.List.{AllByRecursion as Each}
use Rattle.std.specs.List.Sorted.{IsPermutation}
use Rattle.nz_spec.specs.Vectors.{Vector, combination, values_at, HasWidth}
use Rattle.nz_spec.specs.Sums.{IsInGroup, IsIndependent}
use Rattle.nz_spec.specs.Order.{Pairwise, IsListOf, ListsOnce, IsLexBefore, StandsBefore, MoreThan}
use Rattle.nz_spec.specs.Systems.{System, IsSystem, IsMember}
use Rattle.nz_spec.specs.Monoids.{IsPositive, IsIrreducible, IsExtreme}
use Rattle.nz_spec.specs.Elements.{AreExtreme}
use Rattle.nz_spec.specs.Constraints.{AreEquationsOf, AreRowsOf}
use Rattle.nz_spec.specs.Stages.{IsInLattice, IsInStage}
use Rattle.nz_spec.proofs.ListLaws.{Each-contains, Each-from_contains, Each-weaker}
use Rattle.nz_linear.specs.Cones.{IsInRows}
use Rattle.nz_linear.specs.Coordinates.{AreCoordinates, in_coordinates}
use Rattle.nz_linear.specs.Extreme.{IsPointed}
use Rattle.nz_linear.specs.RayStep.{AreExtremeRays}
use Rattle.nz_linear.proofs.Coordinates.{coordinates_where, positive_forth}
use Rattle.nz_linear.proofs.DescribedCone.{members_are_last_stage}
use Rattle.nz_linear.proofs.Lists.{each_map, each_of_map}
use Rattle.nz_linear.proofs.Pointed.{positive_of_pointed}
use Rattle.nz_linear.proofs.Splitting.{listed_is_extreme, extreme_is_listed}
use Rattle.nz_order.proofs.SideLaws.{IsIrreducible-where}
use Rattle.nz_order.proofs.OrderLaws.{lex_irreflexive}
use Rattle.nz_order.proofs.SortLaws.{IsListOf-once, IsListOf-where}
use Rattle.nz_degree.specs.Degrees.{IsInOrder}
use Rattle.nz_degree.proofs.ElementLaws.{sorted_is_list}
use Rattle.nz_spec.specs.Boxes.{IsListedOrBoxMember}
use Rattle.nz_linear.proofs.SumCoordinates as sum
use Rattle.nz_measures.specs.Crowds.{IsPrimalCrowdAbove, of_held}
use Rattle.nz_frame.specs.Elements.{IsWithin}
use Rattle.nz_frame.specs.Frames.{order_forms}
use Rattle.nz_frame.proofs.DualCoordinates as dual
use Rattle.nz_frame.proofs.SimplexRays.{extreme_where}
use Rattle.nz_frame.proofs.OrderLemmas.{before_by_forms}

pairwise_mapped : (R S : Vector → Vector → Type 0) (f : Vector → Vector) → ((x y : Vector) → R x y → S (f x) (f y)) → (xs : List Vector) → Pairwise R xs → Pairwise S (map f xs)
pairwise_mapped R S f h [] r = tt
pairwise_mapped R S f h (x ∷ xs) r = (from x xs r.0, pairwise_mapped R S f h xs r.1)
  where
    from : (x : Vector) (xs : List Vector) → Each (R x) xs → Each (S (f x)) (map f xs)
    from x [] e = tt
    from x (y ∷ ys) e = (h x y e.0, from x ys e.1)

module _ (s : System) (equations rows base : List Vector) (is : IsSystem s) (are_equations : AreEquationsOf s equations) (are_rows : AreRowsOf s rows) (wide : Each (HasWidth s.width) base) (free : IsIndependent s.width base) (group : (x : Vector) → IsInLattice s equations x ↔ IsInGroup s.width base x) where
  abbrev pulled : List Vector
  pulled = map (λ r. in_coordinates base r) rows

  abbrev at : Vector → Vector
  at c = combination s.width c base

  -- the members are, in coordinates, the stage of all pulled rows
  pub members_in : AreCoordinates s.width base (IsMember s) (IsInStage (HasWidth (length base)) (map (λ r. in_coordinates base r) rows))
  members_in = coordinates_where s.width base (IsInStage (IsInLattice s equations) rows) (IsMember s) (IsInStage (HasWidth (length base)) pulled)
      (λ x. let m = members_are_last_stage s equations rows is are_equations are_rows x in (m.1, m.0)) (dual.stage_in s.width (IsInLattice s equations) base wide free group rows)

  in_stage : (x : Vector) → IsInRows (length base) pulled x → IsInStage (HasWidth (length base)) pulled x
  in_stage x i = record { in_lattice = i.0; at_least = i.1 }

  in_rows : (x : Vector) → IsInStage (HasWidth (length base)) pulled x → IsInRows (length base) pulled x
  in_rows x i = (i.in_lattice, i.at_least)

  pub positive_in : IsPointed (length base) (map (λ r. in_coordinates base r) rows) → IsPositive (IsMember s)
  positive_in pt = positive_forth s.width base (IsMember s) (IsInStage (HasWidth (length base)) pulled) members_in
      (positive_of_pointed (length base) pulled (IsInStage (HasWidth (length base)) pulled) pt (λ x m. in_rows x m))

  -- the list of the dual run: each irreducible element once
  pub dual_elements : (list : List Vector) → IsListOf IsLexBefore (IsIrreducible (IsInStage (HasWidth (length base)) (map (λ r. in_coordinates base r) rows))) list → ListsOnce (IsIrreducible (IsMember s)) (map (λ c. combination s.width c base) list)
  dual_elements list h = dual.irreducibles_forth s.width base (IsMember s) (IsInStage (HasWidth (length base)) pulled) members_in list (IsListOf-once IsLexBefore lex_irreflexive (IsIrreducible (IsInStage (HasWidth (length base)) pulled)) list h)

  -- and that of the primal run
  pub primal_elements : (list : List Vector) → IsListOf IsLexBefore (IsIrreducible (IsInRows (length base) (map (λ r. in_coordinates base r) rows))) list → ListsOnce (IsIrreducible (IsMember s)) (map (λ c. combination s.width c base) list)
  primal_elements list h = dual_elements list (IsListOf-where IsLexBefore (IsIrreducible (IsInRows (length base) pulled)) (IsIrreducible (IsInStage (HasWidth (length base)) pulled))
      (λ x i. IsIrreducible-where (IsInRows (length base) pulled) (IsInStage (HasWidth (length base)) pulled) in_stage in_rows x i)
      (λ x i. IsIrreducible-where (IsInStage (HasWidth (length base)) pulled) (IsInRows (length base) pulled) in_rows in_stage x i) list h)

  -- as many as the limit at most
  pub within_back : (limit : ℕ) (list : List Vector) → ListsOnce (IsIrreducible (IsMember s)) (map (λ c. combination s.width c base) list) → length list ≤ limit → IsWithin s limit
  within_back limit list h l = record { list = map at list; lists = h; size = (let e = length-map list at in omega (arith, e, l)) }

  -- the extreme rays of the pulled rows: each extreme generator once
  pub rays_back : (rays : List Vector) → IsPointed (length base) (map (λ r. in_coordinates base r) rows) → AreExtremeRays (length base) (map (λ r. in_coordinates base r) rows) rays → Pairwise ◌≢◌ rays → ListsOnce (IsExtreme (IsMember s)) (map (λ c. combination s.width c base) rays)
  rays_back rays pt are once = dual.extremes_forth s.width base (IsMember s) (IsInStage (HasWidth (length base)) pulled) members_in rays (record {
    in_order = once;
    only = Each-from_contains (IsExtreme (IsInStage (HasWidth (length base)) pulled)) rays (λ x c. extreme_where (IsInRows (length base) pulled) (IsInStage (HasWidth (length base)) pulled) in_stage in_rows x (listed_is_extreme (length base) pulled rays x pt are c));
    each = λ x e. extreme_is_listed (length base) pulled rays x pt are (extreme_where (IsInStage (HasWidth (length base)) pulled) (IsInRows (length base) pulled) in_rows in_stage x e);
  })

  -- the extreme generators in the order of the primal run, by the grading, where there is one, and the entries
  pub generators_back : (grading : Option Vector) → s.grading ≡ grading → (extreme : List Vector)
      → IsListOf (λ c d. IsLexBefore (values_at (order_forms s.width base grading) c) (values_at (order_forms s.width base grading) d)) (IsExtreme (IsInRows (length base) (map (λ r. in_coordinates base r) rows))) extreme
      → AreExtreme s (map (λ c. combination s.width c base) extreme)
  generators_back grading e extreme g =
      let Before : Vector → Vector → Type 0 = λ c d. IsLexBefore (values_at (order_forms s.width base grading) c) (values_at (order_forms s.width base grading) d) in
      let order : Pairwise (StandsBefore grading) (map at extreme) = pairwise_mapped Before (StandsBefore grading) at (λ c d b. before_by_forms s.width base grading c d wide b) extreme g.in_order in
      let once : ListsOnce (IsExtreme (IsInStage (HasWidth (length base)) pulled)) extreme = record {
        in_order = differ extreme g.in_order;
        only = each_map (IsExtreme (IsInRows (length base) pulled)) (IsExtreme (IsInStage (HasWidth (length base)) pulled)) extreme (λ x i. extreme_where (IsInRows (length base) pulled) (IsInStage (HasWidth (length base)) pulled) in_stage in_rows x i) g.only;
        each = λ x i. g.each x (extreme_where (IsInStage (HasWidth (length base)) pulled) (IsInRows (length base) pulled) in_rows in_stage x i);
      } in
      let all = dual.extremes_forth s.width base (IsMember s) (IsInStage (HasWidth (length base)) pulled) members_in extreme once in
      record { in_order = subst (λ (o : Option Vector). Pairwise (StandsBefore o) (map at extreme)) (sym e) order; only = all.only; each = all.each }
    where
      differ : (xs : List Vector) → Pairwise (λ c d. IsLexBefore (values_at (order_forms s.width base grading) c) (values_at (order_forms s.width base grading) d)) xs → Pairwise ◌≢◌ xs
      differ [] p = tt
      differ (x ∷ xs) p = (Each-weaker (λ d. IsLexBefore (values_at (order_forms s.width base grading) x) (values_at (order_forms s.width base grading) d)) (λ d. x ≢ d) (λ d b q. lex_irreflexive (values_at (order_forms s.width base grading) x) (subst (λ y. IsLexBefore (values_at (order_forms s.width base grading) x) (values_at (order_forms s.width base grading) y)) (sym q) b)) xs p.0, differ xs p.1)

module _ (s : System) (equations rows base : List Vector) (is : IsSystem s) (are_equations : AreEquationsOf s equations) (are_rows : AreRowsOf s rows) (wide : Each (HasWidth s.width) base) (free : IsIndependent s.width base) (group : (x : Vector) → IsInLattice s equations x ↔ IsInGroup s.width base x) where
  held_forth : (extreme : List Vector) → Each (HasWidth (length base)) extreme → (c : Vector) → IsListedOrBoxMember (length base) (IsInRows (length base) (map (λ r. in_coordinates base r) rows)) extreme c → IsListedOrBoxMember s.width (IsMember s) (map (λ c. combination s.width c base) extreme) (combination s.width c base)
  held_forth extreme l c (inl h) = inl (sum.mapped_has (λ c. combination s.width c base) extreme c h)
  held_forth extreme l c (inr h) =
      let at : Vector → Vector = λ c. combination s.width c base in
      let lv : Each (HasWidth (length base)) h.vectors = each_map (Contains extreme) (HasWidth (length base)) h.vectors (λ v m. Each-contains (HasWidth (length base)) extreme v l m) h.of_list in
      inr (record {
        member = (members_in s equations rows base is are_equations are_rows wide free group).forth c (record { in_lattice = h.member.0; at_least = h.member.1 });
        vectors = map at h.vectors;
        of_list = each_of_map at (Contains (map at extreme)) h.vectors (each_map (Contains extreme) (λ v. Contains (map at extreme) (at v)) h.vectors (λ v m. sum.mapped_has at extreme v m) h.of_list);
        independent = sum.independent_forth s.width base wide free h.vectors lv h.independent;
        in_box = sum.sum_forth s.width base wide free (λ m f. (pos 0 ≤ℤ f) × (f <ℤ m)) h.vectors c lv h.in_box;
      })

  held_wide : (extreme : List Vector) → Each (HasWidth (length base)) extreme → (c : Vector) → IsListedOrBoxMember (length base) (IsInRows (length base) (map (λ r. in_coordinates base r) rows)) extreme c → HasWidth (length base) c
  held_wide extreme l c (inl h) = Each-contains (HasWidth (length base)) extreme c l h
  held_wide extreme l c (inr h) = h.member.0

  -- the crowd of the primal run in coordinates is that of the system
  pub primal_crowd : (limit : ℕ) (extreme : List Vector) → IsPositive (IsMember s) → AreExtreme s (map (λ c. combination s.width c base) extreme) → Each (HasWidth (length base)) extreme → MoreThan limit (IsListedOrBoxMember (length base) (IsInRows (length base) (map (λ r. in_coordinates base r) rows)) extreme) → IsPrimalCrowdAbove s limit
  primal_crowd limit extreme positive are l m = of_held positive are
      (dual.more_forth s.width base (IsInGroup s.width base) (HasWidth (length base)) (sum.group_coordinates s.width base wide free)
      (IsListedOrBoxMember (length base) (IsInRows (length base) (map (λ r. in_coordinates base r) rows)) extreme) (IsListedOrBoxMember s.width (IsMember s) (map (λ c. combination s.width c base) extreme))
      (held_wide extreme l) (held_forth extreme l) limit m)

-- the extreme generators in any order, sorted by degree and entries, are their list
pub sorted_extreme : (s : System) (xs ys : List Vector) → ListsOnce (IsExtreme (IsMember s)) xs → IsPermutation xs ys → IsInOrder s.grading ys → AreExtreme s ys
sorted_extreme s xs ys once moved order =
    IsListOf-where (StandsBefore s.grading) (Contains xs) (IsExtreme (IsMember s)) (λ x c. member x c) once.each ys
    (sorted_is_list s.width s.grading xs ys (each_map (IsExtreme (IsMember s)) (HasWidth s.width) xs (λ x e. e.irreducible.member.width) once.only) once.in_order moved order)
  where
    member : (x : Vector) → Contains xs x → IsExtreme (IsMember s) x
    member x c = Each-contains (IsExtreme (IsMember s)) xs x once.only c
