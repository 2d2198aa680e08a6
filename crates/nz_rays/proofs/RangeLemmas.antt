-- Where all rays and the row at them are small, no number of a step leaves the type.
use Rattle.std.proofs.Common.{◌≡◌, ◌⊎◌, inl, inr, ⊎_elim, ℕ, ◌+◌, ◌<◌, List, [], ◌∷◌, length, get_or, ℤ, pos, negsuc, neg_ℤ, ◌+ℤ◌, ◌-ℤ◌, ◌*ℤ◌, ◌≤ℤ◌, sym, ap, ◌∙◌, subst, arith}
use Rattle.std.specs.Prelude.{unsigned_abs}
use Rattle.std.specs.List.{AllByRecursion as Each, Contains}
use Rattle.std.proofs.lemmas.Int.{ints, by_lt_z}
use Rattle.std.proofs.lemmas.List.Elements.{Contains-get_or}
use Rattle.nz_spec.specs.Vectors.{Vector, dot, plus, scaled}
use Rattle.nz_spec.proofs.ListLaws.{contains_here, contains_there}
use Rattle.nz_linear.specs.Coordinates.{in_coordinates}
use Rattle.nz_linear.proofs.Ring.{mul-one}
use Rattle.nz_linear.proofs.Lists.{each_map}
use Rattle.nz_linear.proofs.Division.{gcd_of, common_divides_gcd}
use Rattle.nz_scalar.specs.Room.{IsWithin, HasRoom}
use Rattle.nz_scalar.specs.Division.{HasGcd}
use Rattle.nz_scalar.proofs.RoomLemmas.{IsCovered, one_within, opposite_within, product_covered, gcd_of_covered}
use Rattle.nz_vec.specs.Combinations.{CombinationFits}
use Rattle.nz_vec.specs.Sums.{SumsFit}
use Rattle.nz_vec.proofs.RoomLemmas.{combination_fits, combination_covered}
use Rattle.nz_pointed.proofs.ListLemmas.{each_at}
use Rattle.nz_rays.specs.declared.crossings.Crossing.{Crossing}
use Rattle.nz_rays.specs.Crossings.{AreOnBothSides}
use Rattle.nz_rays.specs.Cuts.{crossing_sum}
use Rattle.nz_range.specs.Measures.{measure, pair_measure}
use Rattle.nz_rays.specs.Measures.{HasLargeRay, IsCrossingWithin}
use Rattle.nz_rays.proofs.CutLemmas.{value_at, values_length}

-- ---- absolute values
abs_bounds : (n : ℤ) → IsWithin (pos (unsigned_abs n)) n
abs_bounds (pos n) = (omega (arith, ints), omega (arith, ints))
abs_bounds (negsuc n) = (omega (arith, ints), omega (arith, ints))

entries_within : (h : ℤ) (x : Vector) → pos (measure x) ≤ℤ h → Each (IsWithin h) x
entries_within h [] l = tt
entries_within h (a ∷ x) l = let b = abs_bounds a in ((omega (arith, ints, b.0, l), omega (arith, ints, b.1, l)), entries_within h x (omega (arith, ints, l)))

dot_within : (f x : Vector) → IsWithin (pos (pair_measure f x)) (dot f x)
dot_within [] x = (omega (arith, ints), omega (arith, ints))
dot_within (a ∷ f) [] = (omega (arith, ints), omega (arith, ints))
dot_within (a ∷ f) (b ∷ x) = let c = abs_bounds (a *ℤ b) in let d = dot_within f x in (omega (arith, ints, c.0, d.0), omega (arith, ints, c.1, d.1))

value_within : (h : ℤ) (f x : Vector) → pos (pair_measure f x) ≤ℤ h → IsWithin h (dot f x)
value_within h f x l = let d = dot_within f x in (omega (arith, ints, d.0, l), omega (arith, ints, d.1, l))

-- ---- what a type with room can form
module _ (h : ℤ) (fits : ℤ → Type 0) (room : HasRoom h fits) where
  pub within_fits : (n : ℤ) → IsWithin h n → fits n
  within_fits n w = subst fits (mul-one n) (product_covered h fits room n (pos 1) w (one_within h fits room)).0

  sums_fit : (s : ℤ) (m : ℕ) (f x : Vector) → IsWithin (pos m) s → pos (m + pair_measure f x) ≤ℤ h → SumsFit fits s f x
  sums_fit s m [] x w l = tt
  sums_fit s m (a ∷ f) [] w l = tt
  sums_fit s m (a ∷ f) (b ∷ x) w l =
      let c = abs_bounds (a *ℤ b) in
      let t : IsWithin (pos (m + unsigned_abs (a *ℤ b))) (s +ℤ a *ℤ b) = (omega (arith, ints, c.0, w.0), omega (arith, ints, c.1, w.1)) in (
        within_fits (a *ℤ b) (omega (arith, ints, c.0, l), omega (arith, ints, c.1, l)),
        within_fits (s +ℤ a *ℤ b) (omega (arith, ints, t.0, l), omega (arith, ints, t.1, l)),
        sums_fit (s +ℤ a *ℤ b) (m + unsigned_abs (a *ℤ b)) f x t (omega (arith, ints, l)),
      )

  pub dot_fits : (f x : Vector) → pos (pair_measure f x) ≤ℤ h → SumsFit fits (pos 0) f x
  dot_fits f x l = sums_fit (pos 0) 0 f x (omega (arith, ints), omega (arith, ints)) (omega (arith, ints, l))

  -- the form has no value at a ray, so the ray is large
  pub large_by_value : (form : Vector) (rays : List Vector) (i : ℕ) (x : Vector) → i < length rays → x ≡ get_or rays i [] → ¬ SumsFit fits (pos 0) form x → HasLargeRay h form rays
  large_by_value form rays i x l e n = record {
    ray = x;
    has = subst (Contains rays) (sym e) (Contains-get_or rays i [] l);
    large = by_lt_z h (pos (pair_measure form x)) (λ k. inr k) (λ k. absurd (n (dot_fits form x k)));
  }

  -- ---- the numbers of a sum
  pub no_opposite : (values : Vector) (rays : List Vector) (c : Crossing) (v : ℤ) → v ≡ get_or values c.below (pos 0) → ¬ fits (pos 0 -ℤ v) → ¬ IsCrossingWithin h values rays c
  no_opposite values rays c v e n w = n (within_fits (pos 0 -ℤ v) (let b = subst (IsWithin h) (sym e) w.below in (omega (arith, ints, b.1), omega (arith, ints, b.0))))

  factor_within : (values : Vector) (rays : List Vector) (c : Crossing) (b : ℤ) → b ≡ neg_ℤ (get_or values c.below (pos 0)) → IsCrossingWithin h values rays c → IsWithin h b
  factor_within values rays c b e w = subst (IsWithin h) (sym e) (opposite_within h fits room (get_or values c.below (pos 0)) w.below)

  pub no_combination : (values : Vector) (rays : List Vector) (c : Crossing) (a b : ℤ) (u v : Vector) → a ≡ get_or values c.above (pos 0) → b ≡ neg_ℤ (get_or values c.below (pos 0)) → u ≡ get_or rays c.below [] → v ≡ get_or rays c.above []
      → ¬ CombinationFits fits a u b v → ¬ IsCrossingWithin h values rays c
  no_combination values rays c a b u v ea eb eu ev n w = n (combination_fits h fits room a b (subst (IsWithin h) (sym ea) w.above) (factor_within values rays c b eb w) u v (subst (Each (IsWithin h)) (sym eu) w.below_ray) (subst (Each (IsWithin h)) (sym ev) w.above_ray))

  pub no_divisor : (values : Vector) (rays : List Vector) (c : Crossing) (a b : ℤ) (u v s : Vector) → a ≡ get_or values c.above (pos 0) → b ≡ neg_ℤ (get_or values c.below (pos 0)) → u ≡ get_or rays c.below [] → v ≡ get_or rays c.above []
      → s ≡ plus (scaled a u) (scaled b v) → ((d : ℤ) → HasGcd s d → ¬ fits d) → ¬ IsCrossingWithin h values rays c
  no_divisor values rays c a b u v s ea eb eu ev es n w =
      let covered : Each (IsCovered fits) s = subst (Each (IsCovered fits)) (sym es) (combination_covered h fits room a b (subst (IsWithin h) (sym ea) w.above) (factor_within values rays c b eb w) u v (subst (Each (IsWithin h)) (sym eu) w.below_ray) (subst (Each (IsWithin h)) (sym ev) w.above_ray)) in
      let g = gcd_of s in
      let d : HasGcd s g.g = record { nonneg = g.is.nonneg; divides = g.is.divides; greatest = λ k m. common_divides_gcd k g.g s g.is m } in
      n g.g d (gcd_of_covered h fits room s g.g covered d)

-- the sum that the code makes is that of the crossing
pub sum_is : (values : Vector) (rays : List Vector) (c : Crossing) (a b : ℤ) (u v s : Vector) → a ≡ get_or values c.above (pos 0) → b ≡ neg_ℤ (get_or values c.below (pos 0)) → u ≡ get_or rays c.below [] → v ≡ get_or rays c.above [] → s ≡ plus (scaled a u) (scaled b v) → s ≡ crossing_sum values rays c
sum_is values rays c a b u v s ea eb eu ev es = es ∙ ap (λ t. plus (scaled t u) (scaled b v)) ea ∙ ap (λ t. plus (scaled (get_or values c.above (pos 0)) t) (scaled b v)) eu ∙ ap (λ t. plus (scaled (get_or values c.above (pos 0)) (get_or rays c.below [])) (scaled t v)) eb
    ∙ ap (λ t. plus (scaled (get_or values c.above (pos 0)) (get_or rays c.below [])) (scaled (neg_ℤ (get_or values c.below (pos 0))) t)) ev

-- 0 - v as the opposite
pub opposite_is : (a b z v : ℤ) → z ≡ pos 0 → b ≡ z -ℤ a → a ≡ v → b ≡ neg_ℤ v
opposite_is a b z v ez eb ea = omega (arith, ints)

-- ---- all rays are small, or one is large
record IsSmall (h : ℤ) (form r : Vector) : Type 0 where
  own : pos (measure r) ≤ℤ h
  at_form : pos (pair_measure form r) ≤ℤ h

large_or_small : (h : ℤ) (form : Vector) (rays : List Vector) → HasLargeRay h form rays ⊎ Each (IsSmall h form) rays
large_or_small h form [] = inr tt
large_or_small h form (r ∷ rays) = by_lt_z h (pos (measure r))
    (λ l. inl (record { ray = r; has = contains_here r rays; large = inl l }))
    (λ l. by_lt_z h (pos (pair_measure form r))
    (λ k. inl (record { ray = r; has = contains_here r rays; large = inr k }))
    (λ k. ⊎_elim (λ m. inl (record { ray = m.ray; has = contains_there r m.ray rays m.has; large = m.large })) (λ m. inr (record { own = l; at_form = k }, m)) (large_or_small h form rays)))

pub large_by_sum : (h : ℤ) (form values : Vector) (rays : List Vector) (crossings : List Crossing) → values ≡ in_coordinates rays form → Each (λ (c : Crossing). AreOnBothSides values c.above c.below) crossings → ¬ Each (IsCrossingWithin h values rays) crossings → HasLargeRay h form rays
large_by_sum h form values rays crossings e sides n = ⊎_elim (λ l. l) (λ s. absurd (n (each_map (λ (c : Crossing). AreOnBothSides values c.above c.below) (IsCrossingWithin h values rays) crossings (λ c b. within s c b) sides))) (large_or_small h form rays)
  where
    in_rays : (k : ℕ) → k < length values → k < length rays
    in_rays k l = let a = ap length e in let b = values_length form rays in omega arith

    at_ray : Each (IsSmall h form) rays → (k : ℕ) → k < length rays → IsWithin h (get_or values k (pos 0))
    at_ray s k l = rw e (rw (value_at form rays k l) (value_within h form (get_or rays k []) (each_at (IsSmall h form) [] rays k s l).at_form))

    within : Each (IsSmall h form) rays → (c : Crossing) → AreOnBothSides values c.above c.below → IsCrossingWithin h values rays c
    within s c b =
        let i = in_rays c.above b.above_within in
        let j = in_rays c.below b.below_within in
        record {
          above = at_ray s c.above i;
          below = at_ray s c.below j;
          above_ray = entries_within h (get_or rays c.above []) (each_at (IsSmall h form) [] rays c.above s i).own;
          below_ray = entries_within h (get_or rays c.below []) (each_at (IsSmall h form) [] rays c.below s j).own;
        }
