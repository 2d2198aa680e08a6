-- What the first conditions of a certificate give for the others.
use Rattle.std.specs.Bool.{MatchBool}
use Rattle.std.proofs.Common.{Bool, true, false, ◌≡◌, ℕ, ◌-◌, List, [], ◌∷◌, length, map, take, drop, get_or, ℤ, pos, ◌≤ℤ◌, Contains, refl, sym, ap, ◌∙◌, subst, take-append-drop, length-take, arith}
use Rattle.std.proofs.lemmas.Int.{ints}
use Rattle.std.specs.List.{AllByRecursion as Each}
use Rattle.nz_spec.specs.Vectors.{Vector, dot, values_at, HasWidth, IsZero, IsNonzero}
use Rattle.nz_spec.specs.Stages.{IsInStage}
use Rattle.nz_spec.proofs.ListLaws.{Each-weaker}
use Rattle.nz_spec.proofs.LinearLaws.{length-mapped}
use Rattle.nz_spec.proofs.VectorLaws.{IsZero-zero_vector}
use Rattle.nz_linear.specs.DualPairs.{pair_of, IsApart, IsDual, IsDualPair, AllVanish}
use Rattle.nz_order.specs.Boxes.{NonNegative}
use Rattle.nz_order.proofs.SortLaws.{Each-front}
use Rattle.nz_vec.specs.Sums.{HasValueOutside}
use Rattle.nz_further.specs.Certificates.{CertificateData, HasShape, IsReducedAt, IsReducedOver, AreAllPoints, GeneratesFirst, pairs_of, rows_in_order}
use Rattle.nz_further.proofs.FirstStage.{vectors_of_pairs, length-pairs, widths_of_pairs, only_zero}
use Rattle.nz_further.proofs.InOrder.{each_in_order}
use Rattle.nz_cert.specs.Monoids.{MonoidData, InLattice, IsMonoid, IsGround, IsHeldBy, HasFormOutside, AreReady}
use Rattle.nz_cert.proofs.BridgeLemmas.{at_least_of, not_negative_of, reduced_values}

each_map_forth : {A B : Type 0} (f : A → B) (Q P : A → Type 0) (R : B → Type 0) → ((x : A) → Q x → P x → R (f x)) → (xs : List A) → Each Q xs → Each P xs → Each R (map f xs)
each_map_forth f Q P R h [] q p = tt
each_map_forth f Q P R h (x ∷ xs) q p = (h x q.0 p.0, each_map_forth f Q P R h xs q.1 p.1)

each_map_back : {A B : Type 0} (f : A → B) (Q P : A → Type 0) (R : B → Type 0) → ((x : A) → Q x → R (f x) → P x) → (xs : List A) → Each Q xs → Each R (map f xs) → Each P xs
each_map_back f Q P R h [] q r = tt
each_map_back f Q P R h (x ∷ xs) q r = (h x q.0 r.0, each_map_back f Q P R h xs q.1 r.1)

pub wide_values : (forms : List Vector) (xs : List Vector) → Each (HasWidth (length forms)) (map (values_at forms) xs)
wide_values forms [] = tt
wide_values forms (x ∷ xs) = (length-mapped (λ f. dot f x) forms, wide_values forms xs)

-- pairs of forms and vectors, form by form
vanish_pairs : (fs vs : List Vector) (x : Vector) → IsZero (values_at fs x) → AllVanish (pairs_of fs vs) x
vanish_pairs [] vs x z = tt
vanish_pairs (f ∷ fs) [] x z = tt
vanish_pairs (f ∷ fs) (v ∷ vs) x z = (z.0, vanish_pairs fs vs x z.1)

apart_values : (f v : Vector) (fs vs : List Vector) → Each (IsApart (pair_of f v)) (pairs_of fs vs) → length fs ≡ length vs → NonNegative (values_at fs v)
apart_values f v [] vs a l = tt
apart_values f v (g ∷ fs) [] a l = absurd (let e : ⊥ = omega (arith, l) in e)
apart_values f v (g ∷ fs) (u ∷ vs) a l = ((let e = a.0.back in omega (arith, ints, e)), apart_values f v fs vs a.1 (omega (arith, l)))

apart_columns : (f v : Vector) (fs vs : List Vector) → Each (IsApart (pair_of f v)) (pairs_of fs vs) → length fs ≡ length vs → Each (λ u. pos 0 ≤ℤ dot f u) vs
apart_columns f v [] [] a l = tt
apart_columns f v [] (u ∷ vs) a l = absurd (let e : ⊥ = omega (arith, l) in e)
apart_columns f v (g ∷ fs) [] a l = absurd (let e : ⊥ = omega (arith, l) in e)
apart_columns f v (g ∷ fs) (u ∷ vs) a l = ((let e = a.0.there in omega (arith, ints, e)), apart_columns f v fs vs a.1 (omega (arith, l)))

with_first : (f : Vector) (fs us : List Vector) → Each (λ u. pos 0 ≤ℤ dot f u) us → Each NonNegative (map (values_at fs) us) → Each NonNegative (map (values_at (f ∷ fs)) us)
with_first f fs [] h k = tt
with_first f fs (u ∷ us) h k = ((h.0, k.0), with_first f fs us h.1 k.1)

-- a dual pair has values of at least 0
dual_values : (fs vs : List Vector) → length fs ≡ length vs → IsDual (pairs_of fs vs) → Each NonNegative (map (values_at fs) vs)
dual_values [] [] l d = tt
dual_values [] (v ∷ vs) l d = absurd (let e : ⊥ = omega (arith, l) in e)
dual_values (f ∷ fs) [] l d = absurd (let e : ⊥ = omega (arith, l) in e)
dual_values (f ∷ fs) (v ∷ vs) l d =
    let m : length fs ≡ length vs = omega (arith, l) in
    let p = d.0 in
    ((omega (arith, ints, p), apart_values f v fs vs d.1 m), with_first f fs vs (apart_columns f v fs vs d.1 m) (dual_values fs vs m d.2))

reduced_not_negative : (fs vs : List Vector) (x : Vector) → length fs ≡ length vs → IsReducedAt (pairs_of fs vs) x → NonNegative (values_at fs x)
reduced_not_negative [] vs x l h = tt
reduced_not_negative (f ∷ fs) [] x l h = absurd (let e : ⊥ = omega (arith, l) in e)
reduced_not_negative (f ∷ fs) (v ∷ vs) x l h = (h.0.0, reduced_not_negative fs vs x (omega (arith, l)) h.1)

module _ (m : MonoidData) (c : CertificateData) (first : List Vector) (is : IsMonoid m) (shape : HasShape c) (ground : IsGround m c first) where
  Lattice-first : (list : List Vector) → Each (λ v. InLattice m v × IsNonzero v) list → Each (InLattice m) list
  Lattice-first list h = Each-weaker (λ v. InLattice m v × IsNonzero v) (InLattice m) (λ v k. k.0) list h

  as_many : length first ≡ length c.rays
  as_many =
      let e = ap length ground.first_rows in
      let t = length-take c.rank (rows_in_order m.rows c.order) in
      let n = length-mapped (λ p. get_or m.rows (p - 1) []) c.order in
      let l = shape.is.at_most in
      let r = shape.is.as_many_rays in
      omega (arith, e, t, n, l, r)

  pub wide_first : Each (HasWidth m.width) first
  wide_first =
      let ordered = rows_in_order m.rows c.order in
      let all = each_in_order m.rows c.order ground.sizes.number shape.is.places (HasWidth m.width) is.rows in
      subst (Each (HasWidth m.width)) (sym ground.first_rows) (Each-front (HasWidth m.width) (take c.rank ordered) (drop c.rank ordered) (subst (Each (HasWidth m.width)) (sym (take-append-drop c.rank ordered)) all))

  wide_list : (list : List Vector) → Each (InLattice m) list → Each (HasWidth m.width) list
  wide_list list h = Each-weaker (InLattice m) (HasWidth m.width) (λ v k. k.0) list h

  dual : IsDualPair m.width (pairs_of first c.rays)
  dual = record { widths = widths_of_pairs m.width first c.rays wide_first (wide_list c.rays (Lattice-first c.rays ground.inside.rays)); dual = ground.inside.dual }

  pub only : (x : Vector) → InLattice m x → IsZero (values_at first x) → IsZero x
  only x h z =
      let vectors = vectors_of_pairs first c.rays as_many in
      let number : length (pairs_of first c.rays) ≡ length m.base = length-pairs first c.rays as_many ∙ shape.is.as_many_rays ∙ ground.sizes.rank in
      let e = only_zero m.width (InLattice m) is.lattice m.base is.base is.independent is.group (pairs_of first c.rays) dual (subst (Each (InLattice m)) (sym vectors) (Lattice-first c.rays ground.inside.rays)) number x h (vanish_pairs first c.rays x z) in
      subst IsZero (sym e) (IsZero-zero_vector m.width)

  nonzero_values : (list : List Vector) → Each (λ v. InLattice m v × IsNonzero v) list → Each IsNonzero (map (values_at first) list)
  nonzero_values list h = each_map_forth (values_at first) (λ v. InLattice m v × IsNonzero v) (λ v. InLattice m v × IsNonzero v) IsNonzero (λ x q p z. p.1 (only x p.0 z)) list h h

  pub forms_fit : (list : List Vector) → Each (InLattice m) list → Each (λ v. Each (HasWidth (length v)) first) list
  forms_fit list h = Each-weaker (InLattice m) (λ v. Each (HasWidth (length v)) first) (λ v k. subst (λ (n : ℕ). Each (HasWidth n) first) (sym k.0) wide_first) list h

  pub first_in : Each (InLattice m) c.first
  first_in = Lattice-first c.first ground.inside.first

  pub rays_in : Each (InLattice m) c.rays
  rays_in = Lattice-first c.rays ground.inside.rays

  pub points_ready : (table : List Vector) → table ≡ map (values_at first) c.first → Each NonNegative table → AreAllPoints m.width m.base (pairs_of first c.rays) c.points → AreReady first table c.points
  points_ready table e n p = record {
    wide = forms_fit c.points ground.inside.points;
    columns = subst (Each (HasWidth (length first))) (sym e) (wide_values first c.first);
    entries = n;
    nonzero = subst (Each IsNonzero) (sym e) (nonzero_values c.first ground.inside.first);
    values = each_map_forth (values_at first) (IsReducedAt (pairs_of first c.rays)) (IsReducedAt (pairs_of first c.rays)) NonNegative (λ x q r. reduced_not_negative first c.rays x as_many r) c.points p.reduced p.reduced;
  }

  pub rays_ready : (table : List Vector) → table ≡ map (values_at first) c.first → Each NonNegative table → AreReady first table c.rays
  rays_ready table e n = record {
    wide = forms_fit c.rays rays_in;
    columns = subst (Each (HasWidth (length first))) (sym e) (wide_values first c.first);
    entries = n;
    nonzero = subst (Each IsNonzero) (sym e) (nonzero_values c.first ground.inside.first);
    values = dual_values first c.rays as_many ground.inside.dual;
  }

  -- the first list is of the stage just where its values are not below 0
  inside_forth : (table : List Vector) → table ≡ map (values_at first) c.first → Each (IsInStage (InLattice m) first) c.first → Each NonNegative table
  inside_forth table e h = subst (Each NonNegative) (sym e) (each_map_forth (values_at first) (IsInStage (InLattice m) first) (IsInStage (InLattice m) first) NonNegative (λ x q p. not_negative_of first x p.at_least) c.first h h)

  inside_back : (table : List Vector) → table ≡ map (values_at first) c.first → Each NonNegative table → Each (IsInStage (InLattice m) first) c.first
  inside_back table e h = each_map_back (values_at first) (InLattice m) (IsInStage (InLattice m) first) NonNegative (λ x q r. record { in_lattice = q; at_least = at_least_of first x r }) c.first first_in (subst (Each NonNegative) e h)

  reduced_forth : (table list : List Vector) → table ≡ map (values_at first) c.first → Each (InLattice m) list → Each (IsReducedOver (IsInStage (InLattice m) first) c.first) list → Each (IsReducedOver NonNegative table) (map (values_at first) list)
  reduced_forth table list e h r = subst (λ (t : List Vector). Each (IsReducedOver NonNegative t) (map (values_at first) list)) (sym e)
      (each_map_forth (values_at first) (InLattice m) (IsReducedOver (IsInStage (InLattice m) first) c.first) (IsReducedOver NonNegative (map (values_at first) c.first)) (λ x q p. (reduced_values m.width (InLattice m) is.lattice first only c.first first_in x q).0 p) list h r)

  reduced_back : (table list : List Vector) → table ≡ map (values_at first) c.first → Each (InLattice m) list → Each (IsReducedOver NonNegative table) (map (values_at first) list) → Each (IsReducedOver (IsInStage (InLattice m) first) c.first) list
  reduced_back table list e h r = each_map_back (values_at first) (InLattice m) (IsReducedOver (IsInStage (InLattice m) first) c.first) (IsReducedOver NonNegative (map (values_at first) c.first)) (λ x q p. (reduced_values m.width (InLattice m) is.lattice first only c.first first_in x q).1 p) list h
      (subst (λ (t : List Vector). Each (IsReducedOver NonNegative t) (map (values_at first) list)) e r)

  pub not_inside : (table : List Vector) → table ≡ map (values_at first) c.first → ¬ Each NonNegative table → ¬ GeneratesFirst (IsInStage (InLattice m) first) c
  not_inside table e n g = n (inside_forth table e g.inside)

  pub not_points : (table : List Vector) → table ≡ map (values_at first) c.first → ¬ Each (IsReducedOver NonNegative table) (map (values_at first) c.points) → ¬ GeneratesFirst (IsInStage (InLattice m) first) c
  not_points table e n g = n (reduced_forth table c.points e ground.inside.points g.points)

  pub not_rays : (table : List Vector) → table ≡ map (values_at first) c.first → ¬ Each (IsReducedOver NonNegative table) (map (values_at first) c.rays) → ¬ GeneratesFirst (IsInStage (InLattice m) first) c
  not_rays table e n g = n (reduced_forth table c.rays e rays_in g.rays)

  pub generates : (table : List Vector) → table ≡ map (values_at first) c.first → Each NonNegative table → Each (IsReducedOver NonNegative table) (map (values_at first) c.points) → Each (IsReducedOver NonNegative table) (map (values_at first) c.rays)
      → GeneratesFirst (IsInStage (InLattice m) first) c
  generates table e n p r = record { inside = inside_back table e n; points = reduced_back table c.points e ground.inside.points p; rays = reduced_back table c.rays e rays_in r }

  pub rays_end : (table : List Vector) → table ≡ map (values_at first) c.first → Each NonNegative table → Each (IsReducedOver NonNegative table) (map (values_at first) c.points)
      → (yes : Bool) → MatchBool yes (Each (IsReducedOver NonNegative table) (map (values_at first) c.rays)) (¬ Each (IsReducedOver NonNegative table) (map (values_at first) c.rays))
      → MatchBool yes (GeneratesFirst (IsInStage (InLattice m) first) c) (¬ GeneratesFirst (IsInStage (InLattice m) first) c)
  rays_end table e n p true r = generates table e n p r
  rays_end table e n p false r = not_rays table e r

-- a value that a form has outside, at a vector of a list of the certificate
pub outside_of : (fits : ℤ → Type 0) (forms list : List Vector) (c : CertificateData) → ((v : Vector) → Contains list v → IsHeldBy c v) → HasValueOutside fits forms list → HasFormOutside fits forms c
outside_of fits forms list c h o = record {
  vector = o.vector;
  held = h o.vector o.of_vectors;
  outside = record { form = o.form; vector = o.vector; of_forms = o.of_forms; of_vectors = (0, omega arith, refl); outside = o.outside };
}

-- the entries of the table have as many values as there are forms
pub columns_fit : (forms table vectors values : List Vector) → Each (HasWidth (length forms)) table → values ≡ map (values_at forms) vectors → Each (λ v. Each (HasWidth (length v)) table) values
columns_fit forms table vectors values h e = subst (Each (λ v. Each (HasWidth (length v)) table)) (sym e) (go vectors)
  where
    go : (xs : List Vector) → Each (λ v. Each (HasWidth (length v)) table) (map (values_at forms) xs)
    go [] = tt
    go (x ∷ xs) = (subst (λ (n : ℕ). Each (HasWidth n) table) (sym (length-mapped (λ f. dot f x) forms)) h, go xs)
