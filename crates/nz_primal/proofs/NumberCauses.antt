-- In the coordinates of a cone: each cause of an engine that the primal run calls is a named number above the bound.
use Rattle.std.proofs.Common.{◌≡◌, ◌⊎◌, inl, inr, ℕ, ◌<◌, List, [], ◌∷◌, ◌++◌, length, map, get_or, ℤ, pos, negsuc, ◌<ℤ◌, ◌≤ℤ◌, unsigned_abs, subst, subst₂, ap₂, sym, refl, ◌∙◌, arith}
use Rattle.std.proofs.lemmas.Int.{ints}
use Rattle.std.proofs.lemmas.List.{length-map}
use Rattle.std.proofs.lemmas.List.Elements.{Contains-append_left, Contains-append_right, Contains-get_or}
use Rattle.std.specs.List.{AllByRecursion as Each, AllZip, Contains}
use Rattle.nz_spec.specs.Vectors.{Vector, combination, values_at, HasWidth}
use Rattle.nz_spec.specs.Sums.{IsIndependent}
use Rattle.nz_spec.specs.Order.{IsLexBefore, Pairwise}
use Rattle.nz_spec.specs.Monoids.{IsPositive, IsExtreme}
use Rattle.nz_spec.specs.Boxes.{IsListedOrBoxMember, IsFloorSum}
use Rattle.nz_spec.specs.Covers.{vectors_at, IsSimplex}
use Rattle.nz_spec.specs.Forms.{IsDualForm, AreDualForms, IsNormalForm}
use Rattle.nz_spec.proofs.ListLaws.{Each-contains, Each-from_contains, contains_here, contains_none, contains_cases}
use Rattle.nz_spec.proofs.SumLaws.{IsInCone-box}
use Rattle.nz_spec.proofs.LinearLaws.{HasRank-unique}
use Rattle.nz_scalar.specs.Room.{HasRoom}
use Rattle.nz_vec.specs.Sums.{HasValueOutside}
use Rattle.nz_linear.specs.Cones.{IsInRows, Satisfies}
use Rattle.nz_linear.specs.Extreme.{IsPointed}
use Rattle.nz_linear.specs.RayStep.{AreExtremeRays}
use Rattle.nz_linear.proofs.Splitting.{listed_is_extreme}
use Rattle.nz_linear.specs.Coordinates.{AreCoordinates}
use Rattle.nz_linear.proofs.Lists.{each_map}
use Rattle.nz_linear.proofs.ConeMembers.{cone_of_members}
use Rattle.nz_linear.proofs.Coordinates.{extreme_forth, extreme_back}
use Rattle.nz_linear.proofs.Pointed.{positive_of_pointed}
use Rattle.nz_range.specs.Measures.{measure, pair_measure}
use Rattle.nz_range.proofs.Causes.{value_cause}
use Rattle.nz_sweep.specs.Bases.{Base, CombinationSumsFit}
use Rattle.nz_pointed.specs.Pointed.{IsTooLarge}
use Rattle.nz_classes.specs.Classes.{IsPoint}
use Rattle.nz_classes.specs.Walks.{IsNamed}
use Rattle.nz_classes.specs.Walks as walks
use Rattle.nz_cover.specs.Placing.{IsPlaced, IsTooLargeToPlace}
use Rattle.nz_primal.specs.Lists.{IsBeforeBy}
use Rattle.nz_primal.specs.Second.{VanishesOn, IsFaceBase, HaveCoordinates}
use Rattle.nz_primal.specs.Parts.{IsSettled, IsSecondCone, IsPointOf, AreCandidates, MoveOn, IsFaceCause, IsSecondCause, IsSettleCause, IsElementCause}
use Rattle.nz_primal.specs.Parts as parts
use Rattle.nz_primal.proofs.CandidateLemmas.{zip_at}
use Rattle.nz_primal.proofs.RunLemmas as run
use Rattle.nz_primal.proofs.SecondLemmas as second
use Rattle.nz_linear.proofs.SumCoordinates as sum
use Rattle.nz_linear.proofs.CoverCoordinates.{vectors_listed}
use Rattle.nz_measures.specs.Sweeps.{Sweeps, none, onward, whole_base}
use Rattle.nz_measures.specs.Faces.{VanishesThere, FaceMove, IsFaceSwept, in_second}
use Rattle.nz_measures.specs.Pools.{IsRowVector, IsRowForm, normal, IsSecondFrame, IsSecondVector, IsSecondForm, held, floor_sum, normal_form, of_row}
use Rattle.nz_measures.specs.Reaches.{HasPrimalAbove, primal_pool, primal_second}
use Rattle.nz_measures.proofs.FaceCauses.{cut_above, row_at_extreme, coordinates_above, pulled_above, back_above}
use Rattle.nz_measures.proofs.Measuring.{pool_vector, pool_form, pool_pair, pool_swapped}

-- the start of the rows, or a step of their double description, is refused
pub normal_above : (h : ℤ) (w : ℕ) (rows order : List Vector) → IsTooLarge h w rows → HasPrimalAbove h w rows order
normal_above h w rows order (inl k) = primal_pool (inl (record { vector = k.vector; named = inl (normal k.named); large = k.large }))
normal_above h w rows order (inr k) = primal_pool (pool_pair h (IsRowVector w rows) (IsRowForm rows order) k.form k.vector (inl k.is_form) (normal k.named) k.large)

-- ---- second coordinates
-- placing is refused
pub placed_above : (h : ℤ) (w : ℕ) (rows order : List Vector) (b : Base) (X : List Vector) → IsSecondFrame w rows order b X → IsTooLargeToPlace h (length b.vectors) X → HasPrimalAbove h w rows order
placed_above h w rows order b X s (inl k) = primal_second s (pool_vector h (IsSecondVector rows b X) (IsSecondForm w rows order b X) k.vector (held (inl k.named)) k.large)
placed_above h w rows order b X s (inr (inl k)) = primal_second s (pool_form h (IsSecondVector rows b X) (IsSecondForm w rows order b X) k.vector (normal_form k.named) k.large)
placed_above h w rows order b X s (inr (inr k)) = primal_second s (pool_swapped h (IsSecondVector rows b X) (IsSecondForm w rows order b X) k.vector k.form (normal_form k.named) (held (inl k.is_form)) k.large)

-- the values of the rows at a candidate are refused
pub valued_above : (h : ℤ) (fits : ℤ → Type 0) → HasRoom h fits → (w : ℕ) (rows order : List Vector) (b : Base) (X candidates : List Vector) → IsSecondFrame w rows order b X → Each (IsListedOrBoxMember (length b.vectors) (IsInRows (length b.vectors) (in_second b rows)) X) candidates → HasValueOutside fits (in_second b rows) candidates → HasPrimalAbove h w rows order
valued_above h fits room w rows order b X candidates s c k =
    primal_second s (pool_pair h (IsSecondVector rows b X) (IsSecondForm w rows order b X) k.form k.vector (of_row k.of_forms) (held (Each-contains (IsListedOrBoxMember (length b.vectors) (IsInRows (length b.vectors) (in_second b rows)) X) candidates k.vector c k.of_vectors)) (value_cause h fits room k.form k.vector k.outside))

-- a dual form of independent vectors of a list is a normal form of the list
dual_normal : (w : ℕ) (X vs forms : List Vector) (f : Vector) → Each (Contains X) vs → IsIndependent w vs → AreDualForms w vs forms → Contains forms f → IsNormalForm w X f
dual_normal w X vs forms f l i d c = let u = found vs forms d c in record { vectors = vs; of_list = l; independent = i; kind = inl (u.0, u.1) }
  where
    found : (us fs : List Vector) → AllZip (IsDualForm w vs) us fs → Contains fs f → (v : Vector) × IsDualForm w vs v f
    found [] [] z c = absurd (contains_none f c)
    found [] (g ∷ fs) z c = absurd z
    found (u ∷ us) [] z c = absurd z
    found (u ∷ us) (g ∷ fs) z c = elim (contains_cases g fs f c) [
      | inl e ↦ (u, subst (IsDualForm w vs u) e z.0)
      | inr k ↦ found us fs z.1 k
    ]

-- a size above the bound
above_size : (h : ℤ) (m : ℕ) → pos 0 ≤ℤ h → unsigned_abs h < m → h <ℤ pos m
above_size h m p l = let e = size h p in omega (arith, ints, e, l)
  where
    size : (h : ℤ) → pos 0 ≤ℤ h → pos (unsigned_abs h) ≡ h
    size (pos n) p = refl
    size (negsuc n) p = absurd (omega (arith, ints, p))

-- the walk of a simplex is refused
pub walked_above : (h : ℤ) → pos 0 ≤ℤ h → (w : ℕ) (rows order : List Vector) (b : Base) (X : List Vector) (places : List ℕ) (forms : List Vector) → IsSecondFrame w rows order b X → IsSimplex (length b.vectors) X places → length places ≡ length b.vectors
    → ((c : Vector) → IsPoint (length b.vectors) (vectors_at X places) c → IsListedOrBoxMember (length b.vectors) (IsInRows (length b.vectors) (in_second b rows)) X c)
    → length (vectors_at X places) ≡ length b.vectors → AreDualForms (length b.vectors) (vectors_at X places) forms → walks.IsTooLarge (unsigned_abs h) (vectors_at X places) forms → HasPrimalAbove h w rows order
walked_above h p w rows order b X places forms s simplex full point size dual large = of_large large
  where
    sides : List Vector
    sides = vectors_at X places

    listed : Each (Contains X) (vectors_at X places)
    listed = vectors_listed X places simplex.within

    named : (x : Vector) → IsNamed (vectors_at X places) x → IsSecondVector rows b X x
    named x (inl q) = held (point x (subst (λ (n : ℕ). IsPoint n (vectors_at X places) x) size q))
    named x (inr (inl q)) = held (inl (Each-contains (Contains X) (vectors_at X places) x listed q))
    named x (inr (inr q)) = floor_sum {places = places} simplex (subst (λ (n : ℕ). IsFloorSum n (vectors_at X places) x) size q)

    form : (f : Vector) → Contains forms f → IsSecondForm w rows order b X f
    form f c = normal_form (dual_normal (length b.vectors) X (vectors_at X places) forms f listed simplex.independent dual c)

    of_large : walks.IsTooLarge (unsigned_abs h) (vectors_at X places) forms → HasPrimalAbove h w rows order
    of_large (inl k) = primal_second s (pool_vector h (IsSecondVector rows b X) (IsSecondForm w rows order b X) k.0 (named k.0 k.1.0) (above_size h (measure k.0) p k.1.1))
    of_large (inr (inl k)) = primal_second s (pool_form h (IsSecondVector rows b X) (IsSecondForm w rows order b X) k.0 (form k.0 k.1.0) (above_size h (measure k.0) p k.1.1))
    of_large (inr (inr k)) = primal_second s (pool_pair h (IsSecondVector rows b X) (IsSecondForm w rows order b X) k.0 k.1 (form k.0 k.2.0) (named k.1 k.2.1) (above_size h (pair_measure k.0 k.1) p k.2.2))

-- ---- what the run has found, in second coordinates
module _ (w : ℕ) (rows order extreme : List Vector) (base : Base) (coordinates second_rows : List Vector) (lr : Each (HasWidth w) rows) (lo : Each (HasWidth w) order) (pt : IsPointed w rows) (st : IsSettled w rows order extreme base coordinates second_rows) (swept : IsFaceSwept w rows base) where
  abbrev at : Vector → Vector
  at c = combination w c base.vectors

  fb : IsFaceBase w rows extreme base.vectors
  fb = st.in_second.is_base

  have : HaveCoordinates w base.vectors coordinates extreme
  have = st.in_second.have

  there : AreCoordinates w base.vectors (IsInRows w rows) (IsInRows (length base.vectors) (in_second base rows))
  there = second.second_coordinates w rows extreme pt st.once.extreme base.vectors fb

  cone : IsSecondCone (length base.vectors) second_rows coordinates
  cone = run.settled_cone w rows order extreme base coordinates second_rows lr pt st

  -- the values of forms are the same in second coordinates
  values_same : (fs : List Vector) (c : Vector) → values_at (in_second base fs) c ≡ values_at fs (at c)
  values_same [] c = refl
  values_same (f ∷ fs) c = ap₂ (λ (a : ℤ) (v : Vector). a ∷ v) (sym (second.row_value w base.vectors f c fb.widths)) (values_same fs c)

  in_order : (cs : List Vector) → Pairwise (IsBeforeBy order) (map at cs) → Pairwise (IsBeforeBy (in_second base order)) cs
  in_order [] p = tt
  in_order (c ∷ cs) p = (before c cs p.0, in_order cs p.1)
    where
      before : (c : Vector) (ds : List Vector) → Each (IsBeforeBy order (at c)) (map at ds) → Each (IsBeforeBy (in_second base order) c) ds
      before c [] e = tt
      before c (d ∷ ds) e = (subst₂ IsLexBefore (sym (values_same order c)) (sym (values_same order d)) e.0, before c ds e.1)

  ray_of : (c : Vector) → Contains coordinates c → IsExtreme (IsInRows w rows) (at c)
  ray_of c k = Each-contains (IsExtreme (IsInRows w rows)) extreme (at c) st.generators.only (subst (λ (vs : List Vector). Contains vs (at c)) have.same (sum.mapped_has at coordinates c k))

  listed : (c : Vector) → IsExtreme (IsInRows (length base.vectors) (in_second base rows)) c → Contains coordinates c
  listed c e =
      let lc : HasWidth (length base.vectors) c = there.one_each c e.irreducible.member in
      let k : Contains (map at coordinates) (at c) = subst (λ (vs : List Vector). Contains vs (at c)) (sym have.same) (st.generators.each (at c) (extreme_forth w base.vectors (IsInRows w rows) (IsInRows (length base.vectors) (in_second base rows)) there c e)) in
      let i = sum.image_of at coordinates (at c) k in
      subst (Contains coordinates) (sum.at_same w base.vectors fb.widths fb.independent i.source c (Each-contains (HasWidth (length base.vectors)) coordinates i.source have.widths i.has) lc i.same) i.has

  -- the second coordinates of the extreme generators are those of the definition
  pub second_frame : IsSecondFrame w rows order base coordinates
  second_frame = record {
    positive = positive_of_pointed w rows (IsInRows w rows) pt (λ x m. m);
    swept = swept;
    extreme = record {
      in_order = in_order coordinates (subst (Pairwise (IsBeforeBy order)) (sym have.same) st.generators.in_order);
      only = Each-from_contains (IsExtreme (IsInRows (length base.vectors) (in_second base rows))) coordinates (λ c k. extreme_back w base.vectors (IsInRows w rows) (IsInRows (length base.vectors) (in_second base rows)) there c (Each-contains (HasWidth (length base.vectors)) coordinates c have.widths k) (ray_of c k));
      each = listed;
    };
  }

  -- a point of a simplex is held
  pub point_named : (places : List ℕ) → IsSimplex (length base.vectors) coordinates places → (c : Vector) → IsPoint (length base.vectors) (vectors_at coordinates places) c → IsListedOrBoxMember (length base.vectors) (IsInRows (length base.vectors) (in_second base rows)) coordinates c
  point_named places s c p =
      let vs = vectors_at coordinates places in
      let m : IsInRows (length base.vectors) second_rows c = (cone.cone c p.0).0 (cone_of_members (length base.vectors) vs coordinates c have.widths (vectors_listed coordinates places s.within) (IsInCone-box (length base.vectors) vs c p.1)) in
      inr (record {
        member = subst (λ (rs : List Vector). IsInRows (length base.vectors) rs c) st.in_second.rows_there m;
        vectors = vs;
        of_list = vectors_listed coordinates places s.within;
        independent = s.independent;
        in_box = p.1;
      })

  -- ---- the calls in second coordinates, each with its cause
  pub placing_above : (h : ℤ) → IsTooLargeToPlace h (length base.vectors) coordinates → HasPrimalAbove h w rows order
  placing_above h k = placed_above h w rows order base coordinates second_frame k

  pub walking_above : (h : ℤ) → pos 0 ≤ℤ h → (places : List ℕ) (forms : List Vector) → IsSimplex (length base.vectors) coordinates places → AreDualForms (length base.vectors) (vectors_at coordinates places) forms → walks.IsTooLarge (unsigned_abs h) (vectors_at coordinates places) forms → HasPrimalAbove h w rows order
  walking_above h p places forms s dual k =
      let n : length places ≡ length base.vectors = HasRank-unique (length base.vectors) (Contains coordinates) (length places) (length base.vectors) (λ x k. Each-contains (HasWidth (length base.vectors)) coordinates x have.widths k) s.full cone.full in
      walked_above h p w rows order base coordinates places forms second_frame s n (point_named places s) (length-map places (λ i. get_or coordinates i []) ∙ n) dual k

  -- a candidate is held
  pub candidate_named : (simplices : List (List ℕ)) → Each (IsSimplex (length base.vectors) coordinates) simplices → (c : Vector) → Contains coordinates c ⊎ IsPointOf coordinates simplices c → IsListedOrBoxMember (length base.vectors) (IsInRows (length base.vectors) (in_second base rows)) coordinates c
  candidate_named simplices g c (inl k) = inl k
  candidate_named simplices g c (inr q) =
      let s = Each-contains (IsSimplex (length base.vectors) coordinates) simplices q.0 g q.1 in
      let n : length q.0 ≡ length base.vectors = HasRank-unique (length base.vectors) (Contains coordinates) (length q.0) (length base.vectors) (λ x k. Each-contains (HasWidth (length base.vectors)) coordinates x have.widths k) s.full cone.full in
      point_named q.0 s c (subst (λ (m : ℕ). IsPoint m (vectors_at coordinates q.0) c) n q.2)

  pub reducing_above : (h : ℤ) (fits : ℤ → Type 0) → HasRoom h fits → (simplices : List (List ℕ)) (candidates : List Vector) → Each (IsSimplex (length base.vectors) coordinates) simplices → AreCandidates coordinates simplices candidates → HasValueOutside fits second_rows candidates → HasPrimalAbove h w rows order
  reducing_above h fits room simplices candidates g c k =
      valued_above h fits room w rows order base coordinates candidates second_frame (each_map (λ x. Contains coordinates x ⊎ IsPointOf coordinates simplices x) (IsListedOrBoxMember (length base.vectors) (IsInRows (length base.vectors) (in_second base rows)) coordinates) candidates (candidate_named simplices g) c.only) (subst (λ (rs : List Vector). HasValueOutside fits rs candidates) st.in_second.rows_there k)

  pub returning_above : (h : ℤ) (fits : ℤ → Type 0) → HasRoom h fits → (simplices : List (List ℕ)) (c : Vector) → Each (IsSimplex (length base.vectors) coordinates) simplices → Contains coordinates c ⊎ IsPointOf coordinates simplices c → ¬ CombinationSumsFit fits w c base.vectors → HasPrimalAbove h w rows order
  returning_above h fits room simplices c g k out = back_above h fits room w rows order base coordinates c fb.widths second_frame (candidate_named simplices g c k) out

-- ---- the face: what vanishes at all rays vanishes at all vectors of the cone
module _ (w : ℕ) (rows rays : List Vector) (pt : IsPointed w rows) (ex : AreExtremeRays w rows rays) where
  there_of_on : (h : Vector) → Contains rows h → VanishesOn rays h → VanishesThere (IsInRows w rows) h
  there_of_on h c z x m = (second.member_in_face w rows rays pt ex x m).1 h c z

  on_of_there : (h : Vector) → VanishesThere (IsInRows w rows) h → VanishesOn rays h
  on_of_there h z = each_of_both rays ex.description.ray_widths ex.description.sound
    where
      each_of_both : (vs : List Vector) → Each (HasWidth w) vs → Each (Satisfies rows) vs → VanishesOn vs h
      each_of_both [] l s = tt
      each_of_both (v ∷ vs) l s = (z v (l.0, s.0), each_of_both vs l.1 s.1)

  move_there : (h : Vector) (b c : Base) → Contains rows h → MoveOn rays h b c → FaceMove (IsInRows w rows) h b c
  move_there h b c k (inl m) = inl (there_of_on h k m.0, m.1)
  move_there h b c k (inr m) = inr ((λ z. m.0 (on_of_there h z)), m.1)

  sweeps_there : (cuts : List Vector) (b c : Base) → Each (Contains rows) cuts → Sweeps (MoveOn rays) cuts b c → Sweeps (FaceMove (IsInRows w rows)) cuts b c
  sweeps_there cuts b c k none = none
  sweeps_there cuts b c k (onward {cut = h} {c = d} m s) = onward (move_there h b d k.0 m) (sweeps_there _ d c k.1 s)

  pub face_swept : (b : Base) → Sweeps (MoveOn rays) rows (whole_base w) b → IsFaceSwept w rows b
  face_swept b s = sweeps_there rows (whole_base w) b (Each-from_contains (Contains rows) rows (λ x c. c)) s

  front_listed : (xs ys : List Vector) (y : Vector) → rows ≡ xs ++ y ∷ ys → Each (Contains rows) xs × Contains rows y
  front_listed xs ys y e = (
    Each-from_contains (Contains rows) xs (λ x c. subst (λ (us : List Vector). Contains us x) (sym e) (Contains-append_left xs (y ∷ ys) x c)),
    subst (λ (us : List Vector). Contains us y) (sym e) (Contains-append_right xs (y ∷ ys) y (contains_here y ys)),
  )

  module _ (h : ℤ) (fits : ℤ → Type 0) (room : HasRoom h fits) (order : List Vector) where
    positive : IsPositive (IsInRows w rows)
    positive = positive_of_pointed w rows (IsInRows w rows) pt (λ x m. m)

    ray : (x : Vector) → Contains rays x → IsExtreme (IsInRows w rows) x
    ray x c = listed_is_extreme w rows rays x pt ex c

    face_above : IsFaceCause h fits w rows rays → HasPrimalAbove h w rows order
    face_above k =
        let f = front_listed k.midway.earlier k.midway.later k.row k.midway.whole in
        elim k.cause [
          | inl l ↦ row_at_extreme h fits room w rows order k.row l.vector positive (inl f.1) (ray l.vector l.has) l.outside
          | inr l ↦ cut_above h w rows order k.row k.moment (let r = room.at_least in omega (arith, ints, r)) (record { earlier = k.midway.earlier; later = k.midway.later; whole = k.midway.whole; sweeps = sweeps_there k.midway.earlier (whole_base w) k.moment f.0 k.midway.sweeps }) (there_of_on k.row f.1 l.0) l.1
        ]

    pub second_above : IsSecondCause h fits w rows rays → HasPrimalAbove h w rows order
    second_above (parts.of_face k) = face_above k
    second_above (parts.of_coordinates {b = b} s k) = coordinates_above h w rows order b k.vector positive (face_swept b s) (ray k.vector k.has) k.large
    second_above (parts.of_pull {b = b} s k) = pulled_above h fits room w rows order b k.form positive (face_swept b s) (inl k.has) k.outside

    pub order_above : HasValueOutside fits order rays → HasPrimalAbove h w rows order
    order_above k = row_at_extreme h fits room w rows order k.form k.vector positive (inr k.of_forms) (ray k.vector k.of_vectors) k.outside

-- nothing is settled
pub settle_above : (h : ℤ) (fits : ℤ → Type 0) → HasRoom h fits → (w : ℕ) (rows order : List Vector) → IsPointed w rows → IsSettleCause h fits w rows order → HasPrimalAbove h w rows order
settle_above h fits room w rows order pt (parts.of_generators (parts.of_rows k)) = normal_above h w rows order k
settle_above h fits room w rows order pt (parts.of_generators (parts.of_order {rays = rays} o k)) = order_above w rows rays pt o.extreme h fits room order k
settle_above h fits room w rows order pt (parts.of_second {extreme = extreme} g o k) = second_above w rows extreme pt o.extreme h fits room order k

-- there are no elements
pub element_above : (h : ℤ) (fits : ℤ → Type 0) → HasRoom h fits → (w : ℕ) (rows order extreme : List Vector) (base : Base) (coordinates second_rows : List Vector) (simplices : List (List ℕ)) (forms : List (List Vector)) → Each (HasWidth w) rows → Each (HasWidth w) order → IsPointed w rows → IsSettled w rows order extreme base coordinates second_rows → Sweeps (MoveOn extreme) rows (whole_base w) base → IsPlaced (length base.vectors) coordinates simplices forms → IsElementCause h fits base coordinates second_rows simplices forms → HasPrimalAbove h w rows order
element_above h fits room w rows order extreme base coordinates second_rows simplices forms lr lo pt st sweeps p k = by_cause k
  where
    swept : IsFaceSwept w rows base
    swept = face_swept w rows extreme pt st.once.extreme base sweeps

    nonneg : pos 0 ≤ℤ h
    nonneg = let r = room.at_least in omega (arith, ints, r)

    by_cause : IsElementCause h fits base coordinates second_rows simplices forms → HasPrimalAbove h w rows order
    by_cause (parts.of_walk k) =
        let z = zip_at (λ places fs. AreDualForms (length base.vectors) (vectors_at coordinates places) fs) simplices forms [] [] k.place p.dual k.within in
        walking_above w rows order extreme base coordinates second_rows lr lo pt st swept h nonneg (get_or simplices k.place []) (get_or forms k.place []) (Each-contains (IsSimplex (length base.vectors) coordinates) simplices (get_or simplices k.place []) p.cover.simplices (Contains-get_or simplices k.place [] k.within)) z.1 k.large
    by_cause (parts.of_values {list = list} c k) = reducing_above w rows order extreme base coordinates second_rows lr lo pt st swept h fits room simplices list p.cover.simplices c k
    by_cause (parts.of_back {list = list} {kept = kept} c l k) =
        returning_above w rows order extreme base coordinates second_rows lr lo pt st swept h fits room simplices k.coordinates p.cover.simplices
        (Each-contains (λ x. Contains coordinates x ⊎ IsPointOf coordinates simplices x) list k.coordinates c.only (Each-contains (Contains list) kept k.coordinates l k.has))
        (subst (λ (n : ℕ). ¬ CombinationSumsFit fits n k.coordinates base.vectors) st.in_second.width k.outside)
