-- The rays after one more row are again all primitive extreme rays, each once, with exact zero sets.
use Rattle.std.proofs.Common.{◌≡◌, ◌≢◌, ◌⊎◌, inl, inr, ⊎_elim, ℕ, zero, suc, ◌<◌, List, [], ◌∷◌, ◌++◌, length, map, get_or, pos, neg_ℤ, ◌*ℤ◌, ◌≤ℤ◌, ◌<ℤ◌, refl, sym, ap, ◌∙◌, subst, arith}
use Rattle.std.specs.List.{AllByRecursion as Each, AllZip, Contains}
use Rattle.std.proofs.Math.IntN.{*ℤ-zero}
use Rattle.std.proofs.lemmas.Int.{ints}
use Rattle.std.proofs.lemmas.List.{get_or_append_left, get_or_push, length_push, length-map, get_or-map}
use Rattle.std.proofs.lemmas.List.Elements.{Contains-append_left, Contains-append_right, Contains-get_or}
use Rattle.nz_spec.specs.Vectors.{Vector, HasWidth, dot, IsZero, IsNonzero}
use Rattle.nz_spec.specs.Order.{Pairwise, IsListOf}
use Rattle.nz_spec.specs.Covers.{vectors_at}
use Rattle.nz_spec.proofs.VectorLaws.{dot-IsZero, IsZero-zero_vector}
use Rattle.nz_spec.proofs.ListLaws.{Each-contains, Each-from_contains}
use Rattle.nz_linear.specs.Cones.{Satisfies, meet}
use Rattle.nz_linear.specs.Coordinates.{in_coordinates}
use Rattle.nz_linear.specs.Division.{IsPrimitiveOf}
use Rattle.nz_linear.specs.Extreme.{IsPointed}
use Rattle.nz_linear.specs.DoubleDescription.{AreAdjacent}
use Rattle.nz_linear.specs.RayStep.{IsFromPair, RayPair, IsAdjacentPair, IsKept, HasSum, HasOther, IsRayStep}
use Rattle.nz_linear.proofs.Ring.{cross_gone, sums}
use Rattle.nz_linear.proofs.Signs.{mul_is_zero}
use Rattle.nz_linear.proofs.Lists.{each_map, each_map2, each_append, each_left, each_of_map, zip_append, zip_change, zip_first, zip_to_right}
use Rattle.nz_linear.proofs.DoubleDescription.{meet_at, both_vanish}
use Rattle.nz_linear.proofs.RaySteps.{primitive_value, ray_step}
use Rattle.nz_linear.proofs.RayStart.{pointed_more, rays_of_members}
use Rattle.nz_linear.proofs.Members.{members_push}
use Rattle.nz_linear.proofs.Distinct.{no_ray_twice}
use Rattle.nz_pointed.proofs.ListLemmas.{each_at}
use Rattle.nz_rays.specs.declared.crossings.Crossing.{Crossing}
use Rattle.nz_rays.specs.Descriptions.{IsDescription, IsDouble, VanishesAt, AreZeros}
use Rattle.nz_rays.specs.Crossings.{AreCommon, HasNoThird, IsCovered, AreOnBothSides, IsCrossing, IsBefore, HasCrossing}
use Rattle.nz_rays.specs.Cuts.{IsKeptAt, crossing_sum, IsSum, AreKeptZeros, AreSumZeros, IsCutByValues}
pub use Rattle.nz_rays.proofs.PlaceLemmas.{same_or_not}
use Rattle.nz_rays.proofs.PlaceLemmas.{listed_push, listed_same, below_next, zip_at, zip_length, Beside, zip_beside}

-- ---- lists
pub each_from_at : {A : Type 0} (P : A → Type 0) (d : A) (xs : List A) → ((i : ℕ) → i < length xs → P (get_or xs i d)) → Each P xs
each_from_at P d [] f = tt
each_from_at P d (x ∷ xs) f = (f 0 (omega arith), each_from_at P d xs (λ i l. f (suc i) (omega arith)))

differ_at : {A : Type 0} (d : A) (xs : List A) → Pairwise ◌≢◌ xs → (i j : ℕ) → i < length xs → j < length xs → i ≢ j → get_or xs i d ≢ get_or xs j d
differ_at d [] p i j li lj n = absurd (let f : ⊥ = omega arith in f)
differ_at d (x ∷ xs) p zero zero li lj n = absurd (n refl)
differ_at d (x ∷ xs) p zero (suc j) li lj n = each_at (λ y. x ≢ y) d xs j p.0 (omega arith)
differ_at d (x ∷ xs) p (suc i) zero li lj n = λ e. each_at (λ y. x ≢ y) d xs i p.0 (omega arith) (sym e)
differ_at d (x ∷ xs) p (suc i) (suc j) li lj n = differ_at d xs p.1 i j (omega arith) (omega arith) (λ e. n (ap suc e))

pub contains_map : {A B : Type 0} (f : A → B) (xs : List A) (x : A) → Contains xs x → Contains (map f xs) (f x)
contains_map f [] x c = absurd (let l = c.1 in let e : ⊥ = omega arith in e)
contains_map f (y ∷ xs) x (zero, l, e) = (0, omega arith, ap f e)
contains_map f (y ∷ xs) x (suc k, l, e) = let c = contains_map f xs x (k, omega arith, e) in (suc c.0, let h = c.1 in omega arith, c.2)

zip_map_left : {A B C : Type 0} (f : A → B) (R : B → C → Type 0) (xs : List A) (ys : List C) → AllZip (λ x y. R (f x) y) xs ys → AllZip R (map f xs) ys
zip_map_left f R [] [] z = tt
zip_map_left f R [] (y ∷ ys) z = absurd z
zip_map_left f R (x ∷ xs) [] z = absurd z
zip_map_left f R (x ∷ xs) (y ∷ ys) z = (z.0, zip_map_left f R xs ys z.1)

-- two lists beside a third
zip_beside_each : {A B C : Type 0} (R : A → B → Type 0) (S : A → C → Type 0) (P : A → Type 0) (T : B → C → Type 0) (xs : List A) (ys : List B) (zs : List C) → ((x : A) (y : B) (z : C) → R x y → S x z → P x → T y z) → AllZip R xs ys → AllZip S xs zs → Each P xs → AllZip T ys zs
zip_beside_each R S P T [] [] [] f h k e = tt
zip_beside_each R S P T [] [] (z ∷ zs) f h k e = absurd k
zip_beside_each R S P T [] (y ∷ ys) zs f h k e = absurd h
zip_beside_each R S P T (x ∷ xs) [] zs f h k e = absurd h
zip_beside_each R S P T (x ∷ xs) (y ∷ ys) [] f h k e = absurd k
zip_beside_each R S P T (x ∷ xs) (y ∷ ys) (z ∷ zs) f h k e = (f x y z h.0 k.0 e.0, zip_beside_each R S P T xs ys zs f h.1 k.1 e.1)

-- ---- the values at the rays
pub value_at : (h : Vector) (rays : List Vector) (k : ℕ) → k < length rays → get_or (in_coordinates rays h) k (pos 0) ≡ dot h (get_or rays k [])
value_at h rays k l = get_or-map (λ r. dot h r) rays k [] (pos 0) l

pub values_length : (h : Vector) (rays : List Vector) → length (in_coordinates rays h) ≡ length rays
values_length h rays = length-map rays (λ r. dot h r)

-- ---- the sum of two rays on both sides
meet_nonzero : (w : ℕ) (rows : List Vector) (h p n : Vector) → IsPointed w rows → length p ≡ w → length n ≡ w → Satisfies rows p → Satisfies rows n → pos 0 <ℤ dot h p → dot h n <ℤ pos 0 → IsNonzero (meet h p n)
meet_nonzero w rows h p n pt lp ln sp sn up down z =
    let vanish : Each (λ a. dot a p ≡ pos 0) rows = each_map2 (λ a. pos 0 ≤ℤ dot a p) (λ a. pos 0 ≤ℤ dot a n) (λ a. dot a p ≡ pos 0) rows
    (λ a i j. (both_vanish (dot h p) (neg_ℤ (dot h n)) (dot a n) (dot a p) up (omega (arith, sums)) j i (sym (meet_at w h p n a lp ln) ∙ dot-IsZero a (meet h p n) z)).1) sp sn in
    let e = dot-IsZero h p (subst IsZero (sym (pt p lp vanish)) (IsZero-zero_vector w)) in
    omega (arith, sums)

-- what is known of the two rays of a crossing
pub record Crossed (w : ℕ) (h : Vector) (rows rays : List Vector) (c : Crossing) : Type 0 where
  pub above_in : c.above < length rays
  pub below_in : c.below < length rays
  pub width_p : length (get_or rays c.above []) ≡ w
  pub width_n : length (get_or rays c.below []) ≡ w
  pub sound_p : Satisfies rows (get_or rays c.above [])
  pub sound_n : Satisfies rows (get_or rays c.below [])
  pub over : pos 0 <ℤ dot h (get_or rays c.above [])
  pub under : dot h (get_or rays c.below []) <ℤ pos 0
  pub nonzero : IsNonzero (meet h (get_or rays c.above []) (get_or rays c.below []))
  pub same_sum : crossing_sum (in_coordinates rays h) rays c ≡ meet h (get_or rays c.above []) (get_or rays c.below [])

pub crossed : (w : ℕ) (h : Vector) (rows rays : List Vector) (c : Crossing) → IsDescription (record { width = w; rows = rows; rays = rays }) → AreOnBothSides (in_coordinates rays h) c.above c.below → Crossed w h rows rays c
crossed w h rows rays c d s =
    let d2 = d.extreme.description in
    let lv = values_length h rays in
    let ia : c.above < length rays = let k = s.above_within in omega arith in
    let ib : c.below < length rays = let k = s.below_within in omega arith in
    let va = value_at h rays c.above ia in
    let vb = value_at h rays c.below ib in
    let p = get_or rays c.above [] in
    let n = get_or rays c.below [] in
    let lp : length p ≡ w = each_at (HasWidth w) [] rays c.above d2.ray_widths ia in
    let ln : length n ≡ w = each_at (HasWidth w) [] rays c.below d2.ray_widths ib in
    let sp : Satisfies rows p = each_at (Satisfies rows) [] rays c.above d2.sound ia in
    let sn : Satisfies rows n = each_at (Satisfies rows) [] rays c.below d2.sound ib in
    let up : pos 0 <ℤ dot h p = subst (λ t. pos 0 <ℤ t) va s.over in
    let down : dot h n <ℤ pos 0 = subst (λ t. t <ℤ pos 0) vb s.under in
    record {
      above_in = ia;
      below_in = ib;
      width_p = lp;
      width_n = ln;
      sound_p = sp;
      sound_n = sn;
      over = up;
      under = down;
      nonzero = meet_nonzero w rows h p n d.pointed lp ln sp sn up down;
      same_sum = rw (va, vb) refl;
    }

-- the primitive vector of the sum
sum_primitive : (w : ℕ) (h : Vector) (rows rays : List Vector) (c : Crossing) (x : Vector) → Crossed w h rows rays c → IsSum (in_coordinates rays h) rays c x → IsPrimitiveOf (meet h (get_or rays c.above []) (get_or rays c.below [])) x
sum_primitive w h rows rays c x k s = record {
  factor = s.divisor;
  positive = (let p = s.positive in omega (arith, ints, p));
  same = sym s.whole ∙ k.same_sum;
  primitive = s.primitive (subst IsNonzero (sym k.same_sum) k.nonzero);
}

-- ---- adjacency by places
pub at_place : (rows : List Vector) (x : Vector) (zs : List ℕ) (k : ℕ) → AreZeros rows x zs → Contains zs k → VanishesAt rows x k
at_place rows x zs k z c = Each-contains (VanishesAt rows x) zs k z.only c

-- where a third ray has all common places, rows that are 0 at both rays are 0 at it
covered_vanish : (rows : List Vector) (p n r : Vector) (zp zn zr common : List ℕ) → AreZeros rows p zp → AreZeros rows n zn → AreZeros rows r zr → IsListOf ◌<◌ (λ k. Contains zp k × Contains zn k) common → Each (Contains zr) common
    → Each (λ a. dot a p ≡ pos 0 → dot a n ≡ pos 0 → dot a r ≡ pos 0) rows
covered_vanish rows p n r zp zn zr common ep en er l v = each_from_at (λ a. dot a p ≡ pos 0 → dot a n ≡ pos 0 → dot a r ≡ pos 0) [] rows
    (λ k h zero_p zero_n. (at_place rows r zr k er (Each-contains (Contains zr) common k v (l.each k (ep.each k (record { within = h; zero = zero_p }), en.each k (record { within = h; zero = zero_n }))))).zero)

-- and the other way round
vanish_covered : (rows : List Vector) (p n r : Vector) (zp zn zr common : List ℕ) → AreZeros rows p zp → AreZeros rows n zn → AreZeros rows r zr → IsListOf ◌<◌ (λ k. Contains zp k × Contains zn k) common → Each (λ a. dot a p ≡ pos 0 → dot a n ≡ pos 0 → dot a r ≡ pos 0) rows
    → Each (Contains zr) common
vanish_covered rows p n r zp zn zr common ep en er l v = each_map (λ k. Contains zp k × Contains zn k) (Contains zr) common
    (λ k b. let zero_p = at_place rows p zp k ep b.0 in let zero_n = at_place rows n zn k en b.1 in er.each k (record { within = zero_p.within; zero = each_at (λ a. dot a p ≡ pos 0 → dot a n ≡ pos 0 → dot a r ≡ pos 0) [] rows k v zero_p.within zero_p.zero zero_n.zero })) l.only

pub adjacent_of : (rows rays : List Vector) (zeros : List (List ℕ)) (c : Crossing) → AllZip (AreZeros rows) rays zeros → c.above < length rays → c.below < length rays → AreCommon zeros c.above c.below c.zeros → HasNoThird zeros c.zeros c.above c.below
    → AreAdjacent rows rays (get_or rays c.above []) (get_or rays c.below [])
adjacent_of rows rays zeros c z ia ib m t = each_from_at (λ r. Each (λ a. dot a (get_or rays c.above []) ≡ pos 0 → dot a (get_or rays c.below []) ≡ pos 0 → dot a r ≡ pos 0) rows → (r ≡ get_or rays c.above []) ⊎ (r ≡ get_or rays c.below [])) [] rays
    (λ i l v. ⊎_elim (λ e. inl (ap (λ k. get_or rays k []) e))
    (λ na. ⊎_elim (λ e. inr (ap (λ k. get_or rays k []) e))
    (λ nb. absurd (t i (let k = zip_length (AreZeros rows) rays zeros z in omega arith) (record {
      not_above = na;
      not_below = nb;
      covers = vanish_covered rows (get_or rays c.above []) (get_or rays c.below []) (get_or rays i []) (get_or zeros c.above []) (get_or zeros c.below []) (get_or zeros i []) c.zeros
          (zip_at (AreZeros rows) [] [] rays zeros c.above z ia) (zip_at (AreZeros rows) [] [] rays zeros c.below z ib) (zip_at (AreZeros rows) [] [] rays zeros i z l) m v;
    }))) (same_or_not i c.below)) (same_or_not i c.above))

other_of : (rows rays : List Vector) (zeros : List (List ℕ)) (i j : ℕ) → AllZip (AreZeros rows) rays zeros → Pairwise ◌≢◌ rays → i < length rays → j < length rays → IsCovered zeros i j → HasOther rows rays (get_or rays i []) (get_or rays j [])
other_of rows rays zeros i j z p li lj c =
    let k = c.other.place in
    let lk : k < length rays = let l = zip_length (AreZeros rows) rays zeros z in let m = c.other.within in omega arith in
    record {
      ray = get_or rays k [];
      has = Contains-get_or rays k [] lk;
      not_p = differ_at [] rays p i k li lk (λ e. c.other.third.not_above (sym e));
      not_n = differ_at [] rays p j k lj lk (λ e. c.other.third.not_below (sym e));
      vanishes = covered_vanish rows (get_or rays i []) (get_or rays j []) (get_or rays k []) (get_or zeros i []) (get_or zeros j []) (get_or zeros k []) c.common
          (zip_at (AreZeros rows) [] [] rays zeros i z li) (zip_at (AreZeros rows) [] [] rays zeros j z lj) (zip_at (AreZeros rows) [] [] rays zeros k z lk) c.is_common c.other.third.covers;
    }

-- ---- the zero sets
before_last : (rows : List Vector) (h x : Vector) (k : ℕ) → VanishesAt rows x k → VanishesAt (rows ++ (h ∷ [])) x k
before_last rows h x k v = record {
  within = (let l = length_push rows h in let w = v.within in omega arith);
  zero = rw (get_or_append_left rows (h ∷ []) [] k v.within) v.zero;
}

last_or_before : (rows : List Vector) (h x : Vector) (k : ℕ) → VanishesAt (rows ++ (h ∷ [])) x k → VanishesAt rows x k ⊎ ((k ≡ length rows) × (dot h x ≡ pos 0))
last_or_before rows h x k v = ⊎_elim
    (λ l. inl (record { within = l; zero = rw (get_or_append_left rows (h ∷ []) [] k l) at v.zero }))
    (λ e. inr (e, ap (λ a. dot a x) (sym (get_or_push rows h [] k (sym e))) ∙ v.zero))
    (below_next k (length rows) (let l = length_push rows h in let w = v.within in omega arith))

zeros_push : (rows : List Vector) (h x : Vector) (zs : List ℕ) → AreZeros rows x zs → dot h x ≡ pos 0 → AreZeros (rows ++ (h ∷ [])) x (zs ++ (length rows ∷ []))
zeros_push rows h x zs z e = listed_push ◌<◌ (VanishesAt rows x) (VanishesAt (rows ++ (h ∷ [])) x) zs (length rows) z
    (record { within = (let l = length_push rows h in omega arith); zero = ap (λ a. dot a x) (get_or_push rows h [] (length rows) refl) ∙ e })
    (λ k v. v.within) (λ k v. before_last rows h x k v)
    (λ k v. ⊎_elim (λ b. inl b) (λ b. inr b.0) (last_or_before rows h x k v))

zeros_stay : (rows : List Vector) (h x : Vector) (zs : List ℕ) → AreZeros rows x zs → dot h x ≢ pos 0 → AreZeros (rows ++ (h ∷ [])) x zs
zeros_stay rows h x zs z n = listed_same ◌<◌ (VanishesAt rows x) (VanishesAt (rows ++ (h ∷ [])) x) zs z (λ k v. before_last rows h x k v)
    (λ k v. ⊎_elim (λ b. b) (λ b. absurd (n b.1)) (last_or_before rows h x k v))

kept_zero_sets : (h : Vector) (rows rays : List Vector) (zeros : List (List ℕ)) (k : ℕ) (z : List ℕ) → AllZip (AreZeros rows) rays zeros → k < length rays → AreKeptZeros (in_coordinates rays h) zeros (length rows) k z → AreZeros (rows ++ (h ∷ [])) (get_or rays k []) z
kept_zero_sets h rows rays zeros k z e l a =
    let v = value_at h rays k l in
    let old = zip_at (AreZeros rows) [] [] rays zeros k e l in
    ⊎_elim (λ s. rw s.1 (zeros_push rows h (get_or rays k []) (get_or zeros k []) old (sym v ∙ s.0)))
    (λ s. rw s.1 (zeros_stay rows h (get_or rays k []) (get_or zeros k []) old (λ n. s.0 (v ∙ n)))) a

-- the places at the sum of a crossing, before the new row
sum_zeros : (w : ℕ) (h : Vector) (rows rays : List Vector) (zeros : List (List ℕ)) (c : Crossing) (x : Vector) → AllZip (AreZeros rows) rays zeros → Crossed w h rows rays c → AreCommon zeros c.above c.below c.zeros → IsPrimitiveOf (meet h (get_or rays c.above []) (get_or rays c.below [])) x
    → AreZeros rows x c.zeros
sum_zeros w h rows rays zeros c x e k m i =
    let p = get_or rays c.above [] in
    let n = get_or rays c.below [] in
    let zp = zip_at (AreZeros rows) [] [] rays zeros c.above e k.above_in in
    let zn = zip_at (AreZeros rows) [] [] rays zeros c.below e k.below_in in
    listed_same ◌<◌ (λ j. Contains (get_or zeros c.above []) j × Contains (get_or zeros c.below []) j) (VanishesAt rows x) c.zeros m
    (λ j b.
    let vp = at_place rows p (get_or zeros c.above []) j zp b.0 in
    let vn = at_place rows n (get_or zeros c.below []) j zn b.1 in
    record { within = vp.within; zero = vanish_sum (get_or rows j []) vp.zero vn.zero })
    (λ j v.
    let b = both_vanish (dot h p) (neg_ℤ (dot h n)) (dot (get_or rows j []) n) (dot (get_or rows j []) p) k.over (let u = k.under in omega (arith, sums, u)) (each_at (λ a. pos 0 ≤ℤ dot a n) [] rows j k.sound_n v.within) (each_at (λ a. pos 0 ≤ℤ dot a p) [] rows j k.sound_p v.within)
    (sym (meet_at w h p n (get_or rows j []) k.width_p k.width_n) ∙ sym (primitive_value (meet h p n) x i (get_or rows j [])) ∙ ap (λ t. i.factor *ℤ t) v.zero ∙ *ℤ-zero i.factor) in
    (zp.each j (record { within = v.within; zero = b.1 }), zn.each j (record { within = v.within; zero = b.0 })))
  where
    vanish_sum : (a : Vector) → dot a (get_or rays c.above []) ≡ pos 0 → dot a (get_or rays c.below []) ≡ pos 0 → dot a x ≡ pos 0
    vanish_sum a zero_p zero_n =
        let p = get_or rays c.above [] in
        let n = get_or rays c.below [] in
        mul_is_zero i.factor (dot a x) i.positive (primitive_value (meet h p n) x i a ∙ meet_at w h p n a k.width_p k.width_n ∙ omega (arith, sums, ap (λ t. dot h p *ℤ t) zero_n, ap (λ t. neg_ℤ (dot h n) *ℤ t) zero_p, *ℤ-zero (dot h p), *ℤ-zero (neg_ℤ (dot h n))))

-- the new row is 0 at the sum
sum_at_row : (w : ℕ) (h : Vector) (rows rays : List Vector) (c : Crossing) (x : Vector) → Crossed w h rows rays c → IsPrimitiveOf (meet h (get_or rays c.above []) (get_or rays c.below [])) x → dot h x ≡ pos 0
sum_at_row w h rows rays c x k i =
    let p = get_or rays c.above [] in
    let n = get_or rays c.below [] in
    mul_is_zero i.factor (dot h x) i.positive (primitive_value (meet h p n) x i h ∙ meet_at w h p n h k.width_p k.width_n ∙ cross_gone (dot h p) (dot h n))

-- ---- the parts of a cut
-- all that is known of a crossing and its sum
record CrossingKnown (w : ℕ) (h : Vector) (rows rays : List Vector) (c : Crossing) : Type 0 where
  rays_known : Crossed w h rows rays c
  adjacent : AreAdjacent rows rays (get_or rays c.above []) (get_or rays c.below [])

-- the two rays of a crossing
abbrev pair_of_rays : List Vector → Crossing → RayPair
pair_of_rays rays c = record { above = get_or rays c.above []; below = get_or rays c.below [] }

known_crossings : (w : ℕ) (h : Vector) (rows rays : List Vector) (zeros : List (List ℕ)) (crossings : List Crossing) → IsDouble (record { width = w; rows = rows; rays = rays }) zeros → Each (IsCrossing (in_coordinates rays h) zeros) crossings → Each (CrossingKnown w h rows rays) crossings
known_crossings w h rows rays zeros crossings d e = each_map (IsCrossing (in_coordinates rays h) zeros) (CrossingKnown w h rows rays) crossings
    (λ c i. let k = crossed w h rows rays c d.description i.sides in record { rays_known = k; adjacent = adjacent_of rows rays zeros c d.exact k.above_in k.below_in i.common i.adjacent }) e

pairs_adjacent : (w : ℕ) (h : Vector) (rows rays : List Vector) (crossings : List Crossing) → Each (CrossingKnown w h rows rays) crossings → Each (IsAdjacentPair h rows rays) (map (pair_of_rays rays) crossings)
pairs_adjacent w h rows rays crossings e = each_of_map (pair_of_rays rays) (IsAdjacentPair h rows rays) crossings (each_map (CrossingKnown w h rows rays) (λ c. IsAdjacentPair h rows rays (pair_of_rays rays c)) crossings
    (λ c k. record { has_above = Contains-get_or rays c.above [] k.rays_known.above_in; has_below = Contains-get_or rays c.below [] k.rays_known.below_in; over = k.rays_known.over; under = k.rays_known.under; adjacent = k.adjacent }) e)

pairs_differ : (w : ℕ) (h : Vector) (rows rays : List Vector) (crossings : List Crossing) → Pairwise ◌≢◌ rays → Each (CrossingKnown w h rows rays) crossings → Pairwise IsBefore crossings → Pairwise ◌≢◌ (map (pair_of_rays rays) crossings)
pairs_differ w h rows rays [] p e o = tt
pairs_differ w h rows rays (c ∷ crossings) p e o = (
  each_of_map (pair_of_rays rays) (λ q. pair_of_rays rays c ≢ q) crossings
      (each_map2 (CrossingKnown w h rows rays) (IsBefore c) (λ q. pair_of_rays rays c ≢ pair_of_rays rays q) crossings (λ q k b e'. differ q k b (ap (λ (r : RayPair). r.above) e') (ap (λ (r : RayPair). r.below) e')) e.1 o.0),
  pairs_differ w h rows rays crossings p e.1 o.1,
)
  where
    differ : (q : Crossing) → CrossingKnown w h rows rays q → IsBefore c q → get_or rays c.above [] ≡ get_or rays q.above [] → get_or rays c.below [] ≡ get_or rays q.below [] → ⊥
    differ q k (inl l) ea eb = differ_at [] rays p c.above q.above e.0.rays_known.above_in k.rays_known.above_in (λ s. let f : ⊥ = omega arith in f) ea
    differ q k (inr l) ea eb = differ_at [] rays p c.below q.below e.0.rays_known.below_in k.rays_known.below_in (λ s. let r = l.1 in let f : ⊥ = omega arith in f) eb

kept_differ : (rays : List Vector) (kept : List ℕ) → Pairwise ◌≢◌ rays → Each (λ k. k < length rays) kept → Pairwise ◌<◌ kept → Pairwise ◌≢◌ (vectors_at rays kept)
kept_differ rays [] p e o = tt
kept_differ rays (k ∷ kept) p e o = (
  each_of_map (λ j. get_or rays j []) (λ x. get_or rays k [] ≢ x) kept (each_map2 (λ j. j < length rays) (λ j. k < j) (λ j. get_or rays k [] ≢ get_or rays j []) kept (λ j l b. differ_at [] rays p k j e.0 l (λ s. let f : ⊥ = omega arith in f)) e.1 o.0),
  kept_differ rays kept p e.1 o.1,
)

-- ---- one more row
pub cut_double : (w : ℕ) (h : Vector) (rows rays cut : List Vector) (zeros cut_zeros : List (List ℕ)) → length h ≡ w → IsDouble (record { width = w; rows = rows; rays = rays }) zeros → IsCutByValues (in_coordinates rays h) (length rows) rays zeros cut cut_zeros
    → IsDouble (record { width = w; rows = rows ++ (h ∷ []); rays = cut }) cut_zeros
cut_double w h rows rays cut zeros cut_zeros lh d c =
    let v = in_coordinates rays h in
    let lv = values_length h rays in
    let dd = d.description in
    let ex = dd.extreme.description in
    let crossings = c.crossings in
    let added = c.sums.added in
    let known = known_crossings w h rows rays zeros crossings d c.are_crossings.only in
    let within : Each (λ k. k < length rays) c.kept = each_map (IsKeptAt v) (λ k. k < length rays) c.kept (λ k i. let l = i.within in omega arith) c.are_kept.only in
    let kept_rays = vectors_at rays c.kept in
    let both : AllZip (λ (q : Crossing) x. IsSum v rays q x × CrossingKnown w h rows rays q) crossings added = zip_first (IsSum v rays) (CrossingKnown w h rows rays) crossings added c.sums.each known in
    let related : AllZip (λ (q : Crossing) x. IsPrimitiveOf (meet h (get_or rays q.above []) (get_or rays q.below [])) x × CrossingKnown w h rows rays q) crossings added = zip_change (λ (q : Crossing) x. IsSum v rays q x × CrossingKnown w h rows rays q) (λ (q : Crossing) x. IsPrimitiveOf (meet h (get_or rays q.above []) (get_or rays q.below [])) x × CrossingKnown w h rows rays q) crossings added (λ q x b. (sum_primitive w h rows rays q x b.1.rays_known b.0, b.1)) both in
    let only : Each (λ x. IsKept h rays x ⊎ IsFromPair h rows rays x) (kept_rays ++ added) = each_append (λ x. IsKept h rays x ⊎ IsFromPair h rows rays x) kept_rays added
    (each_of_map (λ k. get_or rays k []) (λ x. IsKept h rays x ⊎ IsFromPair h rows rays x) c.kept (each_map (IsKeptAt v) (λ k. IsKept h rays (get_or rays k []) ⊎ IsFromPair h rows rays (get_or rays k [])) c.kept
    (λ k i. let l : k < length rays = let m = i.within in omega arith in inl (record { has = Contains-get_or rays k [] l; side = subst (λ t. pos 0 ≤ℤ t) (value_at h rays k l) i.side })) c.are_kept.only))
    (zip_to_right (λ (q : Crossing) x. IsPrimitiveOf (meet h (get_or rays q.above []) (get_or rays q.below [])) x × CrossingKnown w h rows rays q) (λ x. IsKept h rays x ⊎ IsFromPair h rows rays x) crossings added
    (λ q x b. inr (record { p = get_or rays q.above []; n = get_or rays q.below []; has_p = Contains-get_or rays q.above [] b.1.rays_known.above_in; has_n = Contains-get_or rays q.below [] b.1.rays_known.below_in; above = b.1.rays_known.over; below = b.1.rays_known.under; adjacent = b.1.adjacent; is = b.0 })) related) in
    let step : IsRayStep h rows rays (kept_rays ++ added) = record {
      only = only;
      keeps = each_from_at (λ r. pos 0 ≤ℤ dot h r → Contains (kept_rays ++ added) r) [] rays
          (λ k l s. Contains-append_left kept_rays added (get_or rays k []) (contains_map (λ j. get_or rays j []) c.kept k (c.are_kept.each k (record { within = omega arith; side = rw (value_at h rays k l) s }))));
      pairs = each_from_at (λ n. Each (λ p. dot h n <ℤ pos 0 → pos 0 <ℤ dot h p → HasSum h p n (kept_rays ++ added) ⊎ HasOther rows rays p n) rays) [] rays
          (λ j lj. each_from_at (λ p. dot h (get_or rays j []) <ℤ pos 0 → pos 0 <ℤ dot h p → HasSum h p (get_or rays j []) (kept_rays ++ added) ⊎ HasOther rows rays p (get_or rays j [])) [] rays
          (λ i li down up. ⊎_elim
          (λ f. inl (sum_in i j f (zip_beside (λ (q : Crossing) x. IsPrimitiveOf (meet h (get_or rays q.above []) (get_or rays q.below [])) x × CrossingKnown w h rows rays q) crossings added f.crossing related f.has)))
          (λ f. inr (other_of rows rays zeros i j d.exact dd.once li lj f))
          (c.are_crossings.each i j (inl (omega arith)) (record { above_within = omega arith; below_within = omega arith; over = rw (value_at h rays i li) up; under = rw (value_at h rays j lj) down }))));
    } in
    rw c.sums.whole (record {
      description = record {
        pointed = λ x lx z. dd.pointed x lx (each_left (λ a. dot a x ≡ pos 0) rows (h ∷ []) z);
        extreme = rays_of_members w (h ∷ rows) (rows ++ (h ∷ [])) (kept_rays ++ added) (members_push h rows rows (record { there = Each-from_contains (Contains rows) rows (λ x k. k); back = Each-from_contains (Contains rows) rows (λ x k. k) }))
            (ray_step w h rows rays (kept_rays ++ added) lh (pointed_more w h rows dd.pointed) dd.extreme step);
        once = no_ray_twice w h rows rays kept_rays (map (pair_of_rays rays) crossings) added ex.ray_widths ex.sound
            (kept_differ rays c.kept dd.once within c.are_kept.in_order)
            (each_of_map (λ k. get_or rays k []) (Contains rays) c.kept (each_map (λ k. k < length rays) (λ k. Contains rays (get_or rays k [])) c.kept (λ k l. Contains-get_or rays k [] l) within))
            (pairs_adjacent w h rows rays crossings known) (pairs_differ w h rows rays crossings dd.once known c.are_crossings.in_order)
            (zip_map_left (pair_of_rays rays) (λ (q : RayPair) x. IsPrimitiveOf (meet h q.above q.below) x) crossings added (zip_change (λ (q : Crossing) x. IsPrimitiveOf (meet h (get_or rays q.above []) (get_or rays q.below [])) x × CrossingKnown w h rows rays q) (λ (q : Crossing) x. IsPrimitiveOf (meet h (get_or rays q.above []) (get_or rays q.below [])) x) crossings added (λ q x b. b.0) related));
      };
      exact = rw c.places.at_sums.whole (zip_append (AreZeros (rows ++ (h ∷ []))) kept_rays c.places.at_kept added c.places.at_sums.added
          (zip_map_left (λ k. get_or rays k []) (AreZeros (rows ++ (h ∷ []))) c.kept c.places.at_kept
          (zip_change (λ k z. AreKeptZeros v zeros (length rows) k z × (k < length rays)) (λ k z. AreZeros (rows ++ (h ∷ [])) (get_or rays k []) z) c.kept c.places.at_kept (λ k z b. kept_zero_sets h rows rays zeros k z d.exact b.1 b.0)
          (zip_first (AreKeptZeros v zeros (length rows)) (λ k. k < length rays) c.kept c.places.at_kept c.places.are_at_kept within)))
          (zip_beside_each (λ (q : Crossing) x. IsPrimitiveOf (meet h (get_or rays q.above []) (get_or rays q.below [])) x × CrossingKnown w h rows rays q) (AreSumZeros (length rows)) (IsCrossing v zeros) (AreZeros (rows ++ (h ∷ []))) crossings added c.places.at_sums.added
          (λ q x z b e i. rw e (zeros_push rows h x q.zeros (sum_zeros w h rows rays zeros q x d.exact b.1.rays_known i.common b.0) (sum_at_row w h rows rays q x b.1.rays_known b.0)))
          related c.places.at_sums.each c.are_crossings.only));
    })
  where
    sum_in : (i j : ℕ) (f : HasCrossing c.crossings i j) → Beside (λ (q : Crossing) x. IsPrimitiveOf (meet h (get_or rays q.above []) (get_or rays q.below [])) x × CrossingKnown w h rows rays q) f.crossing c.sums.added → HasSum h (get_or rays i []) (get_or rays j []) (vectors_at rays c.kept ++ c.sums.added)
    sum_in i j f b = record {
      ray = b.other;
      has = Contains-append_right (vectors_at rays c.kept) c.sums.added b.other b.has;
      is = subst (λ (k : ℕ). IsPrimitiveOf (meet h (get_or rays k []) (get_or rays j [])) b.other) f.same_above (subst (λ (k : ℕ). IsPrimitiveOf (meet h (get_or rays f.crossing.above []) (get_or rays k [])) b.other) f.same_below b.related.0);
    }

-- as the code adds it
pub add_double : (w n : ℕ) (h copy : Vector) (rows more rays cut : List Vector) (zeros cut_zeros : List (List ℕ)) → length h ≡ w → n ≡ length rows → copy ≡ h → more ≡ rows ++ (copy ∷ []) → IsDouble (record { width = w; rows = rows; rays = rays }) zeros → IsCutByValues (in_coordinates rays h) n rays zeros cut cut_zeros
    → IsDouble (record { width = w; rows = more; rays = cut }) cut_zeros
add_double w n h copy rows more rays cut zeros cut_zeros lh en ec em d c =
    rw (em, ec) (cut_double w h rows rays cut zeros cut_zeros lh d (subst (λ (k : ℕ). IsCutByValues (in_coordinates rays h) k rays zeros cut cut_zeros) en c))
