-- From the first shadow to the lattice points, and why there are none.
use Rattle.std.proofs.Common.{◌≡◌, inl, inr, ℕ, zero, suc, ◌+◌, ◌<◌, ◌≤◌, List, [], ◌∷◌, ◌++◌, length, get_or, map, ℤ, pos, ◌*ℤ◌, ◌≤ℤ◌, ◌<ℤ◌, Contains, refl, sym, ap, ◌∙◌, subst, arith}
use Rattle.std.specs.List.{AllByRecursion as Each}
use Rattle.std.proofs.lemmas.Int.{ints}
use Rattle.nz_spec.specs.Vectors.{Vector, dot, scaled, opposite, combination, HasWidth, IsPrimitive}
use Rattle.nz_spec.specs.Order.{IsLexBefore, IsListOf, ListsOnce}
use Rattle.nz_spec.specs.Monoids.{IsExtremeRay}
use Rattle.nz_spec.specs.Sums.{IsInCone}
use Rattle.nz_spec.proofs.ListLaws.{Each-contains, contains_here, contains_at}
use Rattle.nz_linear.specs.Cones.{IsInRows}
use Rattle.nz_linear.proofs.Division.{primitive_nonzero}
use Rattle.nz_linear.proofs.Lists.{each_map, each_of_map}
use Rattle.nz_order.proofs.SortLaws.{IsListOf-where}
use Rattle.nz_range.specs.Measures.{measure, pair_measure}
use Rattle.nz_range.proofs.Fits.{pair_measure_opposite}
use Rattle.nz_measures.proofs.Measuring.{pair_measure-swap}
use Rattle.nz_sweep.specs.Numbers.{SomeNumberLarge}
use Rattle.nz_pointed.specs.Pointed.{IsTooLarge}
use Rattle.nz_rays.specs.Descriptions.{RowsAndRays}
use Rattle.nz_rays.proofs.StartLemmas.{lists_rays}
use Rattle.nz_rays.proofs.RayLemmas.{IsNormalEitherWay}
use Rattle.nz_vec.specs.declared.answers.Num.{Num}
use Rattle.nz_vec.specs.declared.answers.Num.TheVariants as num
use Rattle.nz_vec.specs.declared.answers.Work.{Work}
use Rattle.nz_vec.specs.declared.answers.Work.TheVariants.{Range, TooMany, Stopped, NoMemory}
use Rattle.nz_further.specs.Shadows.{AreBounded, IsLatticePoint, IsInShadow, shadow_of}
use Rattle.nz_further.proofs.ShadowLaws.{wide_shadows, shadow_is_cone, shadow_is_points, bounded_by_rays}
use Rattle.nz_lift.specs.ShadowForms.{AreShadow, AreShadowForms, AreForLift, LiftsTo, IsShadowRefusal}
use Rattle.nz_lift.specs.Directions.{headed, fronts, AreHeadedRays, AreFormsOf, IsUntold}
use Rattle.nz_lift.specs.LiftNumbers.{IsNormalNumber, of_form, of_pair, IsLiftNumber, of_rows, of_shadow, of_point}
use Rattle.nz_lift.specs.Lifts.{AreAllPoints, IsLiftRefusal}
use Rattle.nz_lift.proofs.FormLemmas.{shadow_forms, forms_normal}

-- ---- numbers
normal_number : (h : ℤ) (w : ℕ) (G : List Vector) → IsTooLarge h w G → SomeNumberLarge h (IsNormalNumber w G)
normal_number h w G (inl k) = record { number = pos (measure k.vector); is_number = of_form k.named; large = k.large }
normal_number h w G (inr k) = record { number = pos (pair_measure k.form k.vector); is_number = of_pair k.is_form k.named; large = k.large }

-- a refusal that tells of no stage
pub untold_refused : (h : ℤ) (limit w : ℕ) (rows : List Vector) (level : Vector) (n : Num) (e : Work) → (n ≡ num.Range → SomeNumberLarge h (IsLiftNumber w rows level)) → IsUntold n e → IsLiftRefusal h limit w rows level e
untold_refused h limit w rows level num.Range e c i = subst (IsLiftRefusal h limit w rows level) (sym i) (refl, c refl)
untold_refused h limit w rows level num.NoMemory e c i = subst (IsLiftRefusal h limit w rows level) (sym i) tt

pub rows_large : (h : ℤ) (w : ℕ) (rows : List Vector) (level : Vector) → IsTooLarge h w rows → SomeNumberLarge h (IsLiftNumber w rows level)
rows_large h w rows level t = let k = normal_number h w rows t in record { number = k.number; is_number = of_rows k.is_number; large = k.large }

-- the list of shadow j, before the round for this place; after the first one it is within the limit
pub record IsUpTo (w : ℕ) (rows : List Vector) (level : Vector) (limit place : ℕ) (xs : List Vector) : Type 0 where
  pub j : ℕ
  pub place_is : place ≡ suc j
  pub within_rank : j ≤ w
  pub shadow : AreShadow w rows level j xs
  pub within : 1 ≤ j → length xs ≤ limit

-- ---- the rays
module _ (w : ℕ) (rows : List Vector) (level : Vector) (list : List Vector) (r : AreHeadedRays w rows level list) where
  abbrev Rays : List Vector
  Rays = r.rays

  once : ListsOnce (IsExtremeRay (IsInRows w rows)) r.rays
  once = let d : RowsAndRays = record { width = w; rows = rows; rays = r.rays } in lists_rays d (record { pointed = r.pointed; extreme = r.once.extreme; once = r.once.once })

  bounded : AreBounded w rows level
  bounded = bounded_by_rays w rows r.rays level r.once.extreme.description r.levels

  long : Each (HasWidth (suc w)) list
  long = subst (Each (HasWidth (suc w))) (sym r.whole) (each_of_map (λ v. dot level v ∷ v) (HasWidth (suc w)) r.rays (each_map (HasWidth w) (λ v. HasWidth (suc w) (dot level v ∷ v)) r.rays (λ v l. ap suc l) r.once.extreme.description.ray_widths))

  shadows_are : (j : ℕ) (vs : List Vector) → fronts (suc (suc j)) (headed level vs) ≡ map (shadow_of level (suc j)) vs
  shadows_are j [] = refl
  shadows_are j (v ∷ vs) = ap (λ xs. shadow_of level (suc j) v ∷ xs) (shadows_are j vs)

  fronts_are : (j : ℕ) → fronts (suc (suc j)) list ≡ map (shadow_of level (suc j)) r.rays
  fronts_are j = ap (fronts (suc (suc j))) r.whole ∙ shadows_are j r.rays

  pub first_length : (n : ℕ) (v : Vector) → n ≡ length v → v ≡ get_or list 0 [] → 0 < length list → n ≡ suc w
  first_length n v e is l = e ∙ ap length is ∙ Each-contains (HasWidth (suc w)) list (get_or list 0 []) long (contains_at list 0 [] l)

  -- a ray, where there is one
  some_ray : (rays : List Vector) → list ≡ headed level rays → 0 < length list → (v : Vector) × Contains rays v
  some_ray [] e l = absurd (let n = ap length e in let f : ⊥ = omega (arith, l, n) in f)
  some_ray (v ∷ rays) e l = (v, contains_here v rays)

  positive_rank : 0 < length list → 1 ≤ w
  positive_rank l =
      let v = some_ray r.rays r.whole l in
      one w v.0 (Each-contains (HasWidth w) r.rays v.0 r.once.extreme.description.ray_widths v.1) (Each-contains IsPrimitive r.rays v.0 r.once.extreme.primitive v.1)
    where
      one : (n : ℕ) (v : Vector) → HasWidth n v → IsPrimitive v → 1 ≤ n
      one zero [] e p = absurd (primitive_nonzero [] p tt)
      one zero (a ∷ v) e p = absurd (let f : ⊥ = omega (arith, e) in f)
      one (suc n) v e p = omega arith

  -- ---- the shadows
  nothing : (x : Vector) → length x ≡ 0 → [] ≡ x
  nothing [] e = refl
  nothing (a ∷ x) e = absurd (let f : ⊥ = omega (arith, e) in f)

  pub first_shadow : (limit : ℕ) (xs : List Vector) → 0 < length list → xs ≡ [] ∷ [] → IsUpTo w rows level limit 1 xs
  first_shadow limit xs l e =
      let v = some_ray r.rays r.whole l in
      let d = r.once.extreme.description in
      let i : IsInShadow w rows level 0 [] = record {
        size = refl;
        multiple = dot level v.0;
        positive = Each-contains (λ v. pos 1 ≤ℤ dot level v) r.rays v.0 r.levels v.1;
        vector = v.0;
        at_level = record { width = Each-contains (HasWidth w) r.rays v.0 d.ray_widths v.1; at_least = Each-contains (λ v. Each (λ a. pos 0 ≤ℤ dot a v) rows) r.rays v.0 d.sound v.1; at_level = refl };
        first_entries = refl;
      } in record {
        j = 0;
        place_is = refl;
        within_rank = omega arith;
        shadow = subst (AreShadow w rows level 0) (sym e) (record { in_order = (tt, tt); only = (i, tt); each = λ x k. subst (Contains ([] ∷ [])) (nothing x k.size) (contains_here [] []) });
        within = λ k. absurd (let f : ⊥ = omega (arith, k) in f);
      }

  -- no rays, and so no lattice points
  pub no_points : (limit : ℕ) (xs : List Vector) → length list ≡ 0 → xs ≡ [] → AreAllPoints limit w rows level xs
  no_points limit xs l e = record {
    bounded = bounded;
    list = subst (IsListOf IsLexBefore (IsLatticePoint w rows level)) (sym e) (record {
      in_order = tt;
      only = tt;
      each = λ x p. absurd (none r.rays (ap length (sym r.whole) ∙ l) x (
          (shadow_is_cone w rows r.rays level r.once.extreme.description w (omega arith) x p.width).0 ((shadow_is_points w rows level x).1 p)));
    });
    within = let n = ap length e in omega (arith, n);
  }
    where
      first : (m : ℤ) (n : ℕ) (ks : List ℤ) (x : Vector) → combination (suc n) ks [] ≡ scaled m (pos 1 ∷ x) → pos 1 ≤ℤ m → ⊥
      first m n [] x h k = let z : pos 0 ≡ m *ℤ pos 1 = cc in omega (arith, ints, z, k)
      first m n (c ∷ ks) x h k = let z : pos 0 ≡ m *ℤ pos 1 = cc in omega (arith, ints, z, k)

      none : (rays : List Vector) → length (headed level rays) ≡ 0 → (x : Vector) → IsInCone (suc w) (map (shadow_of level w) rays) (pos 1 ∷ x) → ⊥
      none [] n x g = first g.multiple w g.factors x g.same g.positive
      none (v ∷ rays) n x g = let f : ⊥ = omega (arith, n) in f

  -- a round
  module _ (limit place : ℕ) (xs : List Vector) (u : IsUpTo w rows level limit place xs) (room : place < suc w) where
    next : suc u.j ≤ w
    next = let e = u.place_is in omega (arith, e, room)

    pub fronts_long : (size : ℕ) → size ≡ place + 1 → Each (λ v. size ≤ length v) list
    fronts_long size e = each_map (HasWidth (suc w)) (λ v. size ≤ length v) list (λ v l. omega (arith, e, l, room)) long

    size_is : place + 1 ≡ suc (suc u.j)
    size_is = let e = u.place_is in omega (arith, e)

    there : (forms : List Vector) → AreFormsOf (place + 1) (fronts (place + 1) list) forms → AreFormsOf (suc (suc u.j)) (map (shadow_of level (suc u.j)) r.rays) forms
    there forms a = subst (λ (G : List Vector). AreFormsOf (suc (suc u.j)) G forms) (fronts_are u.j) (subst (λ (n : ℕ). AreFormsOf n (fronts n list) forms) size_is a)

    forms_are : (forms : List Vector) → AreFormsOf (place + 1) (fronts (place + 1) list) forms → AreShadowForms w rows level u.j forms
    forms_are forms a = shadow_forms w rows r.rays level r.once.extreme.description u.j next bounded forms (there forms a)

    pub for_lift : (forms : List Vector) → AreFormsOf (place + 1) (fronts (place + 1) list) forms → AreForLift forms xs
    for_lift forms a = record { size = u.j; widths = each_map (IsInShadow w rows level u.j) (HasWidth u.j) xs (λ c i. i.size) u.shadow.only; bounding = (forms_are forms a).bounding }

    pub next_shadow : (forms new : List Vector) → AreFormsOf (place + 1) (fronts (place + 1) list) forms → LiftsTo forms xs new → length new ≤ limit → IsUpTo w rows level limit (place + 1) new
    next_shadow forms new a l n = record { j = suc u.j; place_is = size_is; within_rank = next; shadow = l w u.j rows level (forms_are forms a) u.shadow; within = λ _. n }

    pub forms_large : (h : ℤ) → IsTooLarge h (place + 1) (fronts (place + 1) list) → SomeNumberLarge h (IsLiftNumber w rows level)
    forms_large h t =
        let k = normal_number h (suc (suc u.j)) (map (shadow_of level (suc u.j)) r.rays) (subst (IsTooLarge h (suc (suc u.j))) (fronts_are u.j) (subst (λ (n : ℕ). IsTooLarge h n (fronts n list)) size_is t)) in
        record { number = k.number; is_number = of_shadow bounded once next k.is_number; large = k.large }

    pub lift_refused : (h : ℤ) (forms : List Vector) (e : Work) → AreFormsOf (place + 1) (fronts (place + 1) list) forms → IsShadowRefusal h limit forms xs e → IsLiftRefusal h limit w rows level e
    lift_refused h forms (Range told) a s =
        let k = s.1 in
        let o = k.named in
        let G = map (shadow_of level (suc u.j)) r.rays in
        let c = o.point in
        let i = Each-contains (IsInShadow w rows level u.j) xs c u.shadow.only o.has in
        let n = Each-contains (IsNormalEitherWay (suc (suc u.j)) G) forms k.form (forms_normal (suc (suc u.j)) G forms (wide_shadows w level (suc u.j) next r.rays r.once.extreme.description.ray_widths) (there forms a)) k.is_form in
        let v = pos 1 ∷ c ++ pos 0 ∷ [] in
        let large : h <ℤ pos (pair_measure k.form v) = subst (λ x. h <ℤ pos (pair_measure k.form x)) o.same k.large in
        let turned : pair_measure (opposite k.form) v ≡ pair_measure k.form v = pair_measure-swap (opposite k.form) v ∙ pair_measure_opposite v k.form ∙ pair_measure-swap v k.form in (
          s.0,
          elim n [
            | inl own ↦ record { number = pos (pair_measure k.form v); is_number = of_point bounded once next own i; large = large }
            | inr back ↦ record { number = pos (pair_measure (opposite k.form) v); is_number = of_point bounded once next back i; large = subst (λ m. h <ℤ pos m) (sym turned) large }
          ],
        )
    lift_refused h forms TooMany a s = record { bounded = bounded; j = suc u.j; within = next; more = s w u.j rows level (forms_are forms a) u.shadow }
    lift_refused h forms (Stopped stage) a s = s
    lift_refused h forms NoMemory a s = tt

  -- after the last round
  pub all_points : (limit place : ℕ) (xs : List Vector) → 0 < length list → suc w ≤ place → IsUpTo w rows level limit place xs → AreAllPoints limit w rows level xs
  all_points limit place xs l done u =
      let e = u.place_is in
      let k = u.within_rank in
      let last : u.j ≡ w = omega (arith, e, k, done) in
      let s = subst (λ (n : ℕ). AreShadow w rows level n xs) last u.shadow in
      record {
        bounded = bounded;
        list = IsListOf-where IsLexBefore (IsInShadow w rows level w) (IsLatticePoint w rows level) (λ c i. (shadow_is_points w rows level c).0 i) (λ c p. (shadow_is_points w rows level c).1 p) xs s;
        within = u.within (let p = positive_rank l in omega (arith, p, last));
      }
