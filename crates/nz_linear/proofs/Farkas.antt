-- Farkas by double description: each list of rows has rays that describe it, and the description closes in both directions.
use Rattle.std.proofs.Common.{◌≡◌, ℕ, zero, suc, inl, inr, List, [], ◌∷◌, ◌++◌, length, map, ℤ, pos, negsuc, ◌+ℤ◌, ◌*ℤ◌, neg_ℤ, ◌≤ℤ◌, ◌<ℤ◌, refl, sym, ap, ◌∙◌, subst, arith}
use Rattle.std.proofs.lemmas.Int.{ints, by_lt_z}
use Rattle.std.proofs.Math.IntN.{*ℤ-zero, zero-*ℤ}
use Rattle.std.specs.List.{AllByRecursion as Each}
use Rattle.nz_spec.specs.Vectors.{Vector, dot, plus, scaled, zero_vector, HasWidth}
use Rattle.nz_spec.specs.Sums.{IsInCone}
use Rattle.nz_spec.proofs.SumLaws.{IsInCone-zero, length-zero_vector, IsInCone-plus}
use Rattle.nz_spec.proofs.ConstraintLaws.{nonneg_on_cone}
use Rattle.nz_spec.proofs.IntLaws.{mul-nonneg}
use Rattle.nz_spec.proofs.EquationLaws.{dot_comm}
use Rattle.nz_linear.specs.Cones.{Satisfies, IsDoubleDescription, meet, IsCut}
use Rattle.nz_spec.proofs.ListLaws.{Each-contains, Each-from_contains}
use Rattle.nz_linear.proofs.Ring.{cross_gone, sums, ring_z, one-mul, neg-mul}
use Rattle.nz_linear.proofs.Lists.{each_map, each_map2, each_map3, each_map4, each_append, each_left, each_right, each_of_map, map_each}
use Rattle.nz_spec.proofs.VectorLaws.{dot-scaled, zero-dot}
use Rattle.nz_linear.proofs.VectorLaws.{cons_same, length-plus, length-scaled, dot-plus, plus-dot, scaled-dot, same_values}
use Rattle.nz_linear.proofs.Cones.{cone_skip, cone_head, cone_scaled, cone_divide, worst}

-- ---- one row more
-- b·y - a·h is at least 0 at each ray
shifted_value : (w : ℕ) (h y m : Vector) (a b : ℤ) → length h ≡ w → length y ≡ w → dot m (plus (scaled b y) (scaled (neg_ℤ a) h)) ≡ b *ℤ dot m y +ℤ neg_ℤ a *ℤ dot h m
shifted_value w h y m a b lh ly =
    dot-plus w m (scaled b y) (scaled (neg_ℤ a) h) (length-scaled w b y ly) (length-scaled w (neg_ℤ a) h lh)
    ∙ omega (arith, sums, dot-scaled m b y, dot-scaled m (neg_ℤ a) h, ap (λ t. neg_ℤ a *ℤ t) (dot_comm m h))

at_zero : (a b v s : ℤ) → pos 0 <ℤ b → pos 0 ≤ℤ v → s ≡ pos 0 → pos 0 ≤ℤ (b *ℤ v +ℤ neg_ℤ a *ℤ s)
at_zero a b v s p h e = omega (arith, sums, mul-nonneg b v (omega (arith, sums)) h, ap (λ t. neg_ℤ a *ℤ t) e, *ℤ-zero (neg_ℤ a))

ring_minus : (a s : ℤ) → a *ℤ neg_ℤ s ≡ neg_ℤ a *ℤ s
ring_minus a s = simp ring_z

meet_value : (w : ℕ) (h p n y : Vector) → length p ≡ w → length n ≡ w → dot (meet h p n) y ≡ dot h p *ℤ dot n y +ℤ neg_ℤ (dot h n) *ℤ dot p y
meet_value w h p n y lp ln =
    plus-dot w (scaled (dot h p) n) (scaled (neg_ℤ (dot h n)) p) y (length-scaled w _ n ln) (length-scaled w _ p lp)
    ∙ omega (arith, sums, scaled-dot (dot h p) n y, scaled-dot (neg_ℤ (dot h n)) p y)

ring_double : (hp ny : ℤ) → neg_ℤ (neg_ℤ ny) *ℤ hp ≡ hp *ℤ ny
ring_double hp ny = simp ring_z (omega (arith, sums))

-- the description of the rows with h, by the cut of the rays
pub farkas_step : (w : ℕ) (h : Vector) (rows rays cut : List Vector) → length h ≡ w → IsDoubleDescription w rows rays → IsCut w h rows rays cut → IsDoubleDescription w (h ∷ rows) cut
farkas_step w h rows rays cut lh d c = record {
  row_widths = (lh, d.row_widths);
  ray_widths = c.widths;
  sound = each_map (λ r. (pos 0 ≤ℤ dot h r) × Satisfies rows r) (Satisfies (h ∷ rows)) cut (λ r k. (k.0, k.1)) c.sound;
  farkas = by;
}
  where
    more : (y : Vector) → length y ≡ w → IsInCone w rows y → IsInCone w (h ∷ rows) y
    more y ly i = cone_skip w h rows y lh d.row_widths i

    by : (y : Vector) → length y ≡ w → Satisfies cut y → IsInCone w (h ∷ rows) y
    by y ly s =
        let k = c.keeps y ly s in
        let q : Each (λ n. (length n ≡ w) × Each (λ p. dot h n <ℤ pos 0 → pos 0 <ℤ dot h p → pos 0 ≤ℤ dot (meet h p n) y) rays) rays =
        each_map2 (λ n. length n ≡ w) (λ n. Each (λ p. dot h n <ℤ pos 0 → pos 0 <ℤ dot h p → pos 0 ≤ℤ dot (meet h p n) y) rays) (λ n. (length n ≡ w) × Each (λ p. dot h n <ℤ pos 0 → pos 0 <ℤ dot h p → pos 0 ≤ℤ dot (meet h p n) y) rays) rays (λ n a b. (a, b)) d.ray_widths (c.pairs y ly s) in
        elim (worst h y (λ n. (length n ≡ w) × Each (λ p. dot h n <ℤ pos 0 → pos 0 <ℤ dot h p → pos 0 ≤ℤ dot (meet h p n) y) rays) rays q) [
          | inl all ↦ more y ly (d.farkas y ly (each_map2 (λ r. pos 0 ≤ℤ dot h r → pos 0 ≤ℤ dot r y) (λ r. dot h r <ℤ pos 0 → pos 0 ≤ℤ dot r y) (λ r. pos 0 ≤ℤ dot r y) rays
              (λ r f g. by_lt_z (dot h r) (pos 0) g f) k all))
          | inr b ↦ (
              let a = neg_ℤ (dot b.ray y) in
              let e = neg_ℤ (dot h b.ray) in
              let pa : pos 0 ≤ℤ a = omega (arith, sums, b.value) in
              let pe : pos 0 <ℤ e = omega (arith, sums, b.under) in
              let z = plus (scaled e y) (scaled (neg_ℤ a) h) in
              let lz : length z ≡ w = length-plus w _ _ (length-scaled w e y ly) (length-scaled w (neg_ℤ a) h lh) in
              let sz : Satisfies rays z = each_map4 (λ r. length r ≡ w) (λ r. pos 0 ≤ℤ dot h r → pos 0 ≤ℤ dot r y) (λ r. dot h r <ℤ pos 0 → pos 0 ≤ℤ (e *ℤ dot r y +ℤ a *ℤ neg_ℤ (dot h r)))
              (λ r. dot h b.ray <ℤ pos 0 → pos 0 <ℤ dot h r → pos 0 ≤ℤ dot (meet h r b.ray) y) (λ r. pos 0 ≤ℤ dot r z) rays
              (λ r lr f g m. by_lt_z (dot h r) (pos 0)
              (λ (u : dot h r <ℤ pos 0). omega (arith, sums, shifted_value w h y r a e lh ly, g u, ring_minus a (dot h r)))
              (λ (o : pos 0 ≤ℤ dot h r). by_lt_z (pos 0) (dot h r)
              (λ (up : pos 0 <ℤ dot h r). omega (arith, sums, shifted_value w h y r a e lh ly, m b.under up, meet_value w h r b.ray y lr b.fact.0, ring_double (dot h r) (dot b.ray y)))
              (λ (down : dot h r ≤ℤ pos 0). let n : dot h r ≡ pos 0 = omega (arith, sums) in omega (arith, sums, shifted_value w h y r a e lh ly, at_zero a e (dot r y) (dot h r) pe (f o) n))))
              d.ray_widths k b.best b.fact.1 in
              let i = more z lz (d.farkas z lz sz) in
              let j = IsInCone-plus w (h ∷ rows) z (scaled a h) i (cone_scaled w (h ∷ rows) a h pa (cone_head w h rows lh d.row_widths)) in
              let same : plus z (scaled a h) ≡ scaled e y = same_values w _ _ (length-plus w z (scaled a h) lz (length-scaled w a h lh)) (length-scaled w e y ly)
              (λ f. dot-plus w f z (scaled a h) lz (length-scaled w a h lh)
              ∙ omega (arith, sums, dot-plus w f (scaled e y) (scaled (neg_ℤ a) h) (length-scaled w e y ly) (length-scaled w (neg_ℤ a) h lh), dot-scaled f (neg_ℤ a) h, dot-scaled f a h, neg-mul a (dot f h))) in
              cone_divide w (h ∷ rows) e y pe (subst (IsInCone w (h ∷ rows)) same j))
        ]

-- ---- a cut of any rays by any row
pub meet_width : (w : ℕ) (h p n : Vector) → length p ≡ w → length n ≡ w → length (meet h p n) ≡ w
meet_width w h p n lp ln = length-plus w _ _ (length-scaled w (dot h p) n ln) (length-scaled w (neg_ℤ (dot h n)) p lp)

-- the sum of two rays on both sides satisfies the rows, and h is 0 at it
pub meet_sound : (w : ℕ) (h : Vector) (rows : List Vector) (p n : Vector) → length p ≡ w → length n ≡ w → dot h n <ℤ pos 0 → pos 0 <ℤ dot h p → Satisfies rows p → Satisfies rows n → (pos 0 ≤ℤ dot h (meet h p n)) × Satisfies rows (meet h p n)
meet_sound w h rows p n lp ln un up sp sn =
    let value : (f : Vector) → dot f (meet h p n) ≡ dot h p *ℤ dot f n +ℤ neg_ℤ (dot h n) *ℤ dot f p = λ f.
    dot-plus w f _ _ (length-scaled w (dot h p) n ln) (length-scaled w (neg_ℤ (dot h n)) p lp) ∙ omega (arith, sums, dot-scaled f (dot h p) n, dot-scaled f (neg_ℤ (dot h n)) p) in (
      omega (arith, sums, value h, cross_gone (dot h p) (dot h n)),
      each_map2 (λ f. pos 0 ≤ℤ dot f p) (λ f. pos 0 ≤ℤ dot f n) (λ f. pos 0 ≤ℤ dot f (meet h p n)) rows
          (λ f a b. omega (arith, sums, value f, mul-nonneg (dot h p) (dot f n) (omega (arith, sums)) b, mul-nonneg (neg_ℤ (dot h n)) (dot f p) (omega (arith, sums)) a)) sp sn,
    )

-- some of the new rays, each of which is as wanted, and what satisfying them gives
pub record Part (w : ℕ) (Wanted Given : Vector → Type 0) : Type 0 where
  pub rays : List Vector
  pub widths : Each (HasWidth w) rays
  pub wanted : Each Wanted rays
  pub gives : (y : Vector) → length y ≡ w → Satisfies rays y → Given y

-- the rays on h's side
pub kept : (w : ℕ) (h : Vector) (Wanted : Vector → Type 0) (rays : List Vector) → Each (HasWidth w) rays → Each (λ r. pos 0 ≤ℤ dot h r → Wanted r) rays
    → Part w Wanted (λ y. Each (λ r. pos 0 ≤ℤ dot h r → pos 0 ≤ℤ dot r y) rays)
kept w h Wanted [] l s = record { rays = []; widths = tt; wanted = tt; gives = λ y ly k. tt }
kept w h Wanted (r ∷ rays) l s =
    let t = kept w h Wanted rays l.1 s.1 in
    by_lt_z (dot h r) (pos 0)
    (λ (u : dot h r <ℤ pos 0). record { rays = t.rays; widths = t.widths; wanted = t.wanted; gives = λ y ly k. (λ o. absurd (omega (arith, sums)), t.gives y ly k) })
    (λ (o : pos 0 ≤ℤ dot h r). record { rays = r ∷ t.rays; widths = (l.0, t.widths); wanted = (s.0 o, t.wanted); gives = λ y ly k. (λ u. k.0, t.gives y ly k.1) })

-- the sums of n with the rays on the other side
met : (w : ℕ) (h : Vector) (Wanted : Vector → Type 0) (n : Vector) (rays : List Vector) → length n ≡ w → Each (HasWidth w) rays → Each (λ p. dot h n <ℤ pos 0 → pos 0 <ℤ dot h p → Wanted (meet h p n)) rays
    → Part w Wanted (λ y. Each (λ p. dot h n <ℤ pos 0 → pos 0 <ℤ dot h p → pos 0 ≤ℤ dot (meet h p n) y) rays)
met w h Wanted n [] ln l s = record { rays = []; widths = tt; wanted = tt; gives = λ y ly k. tt }
met w h Wanted n (p ∷ rays) ln l s =
    let t = met w h Wanted n rays ln l.1 s.1 in
    by_lt_z (dot h n) (pos 0)
    (λ (un : dot h n <ℤ pos 0). by_lt_z (pos 0) (dot h p)
    (λ (up : pos 0 <ℤ dot h p). record {
      rays = meet h p n ∷ t.rays;
      widths = (meet_width w h p n l.0 ln, t.widths);
      wanted = (s.0 un up, t.wanted);
      gives = λ y ly k. (λ u v. k.0, t.gives y ly k.1);
    })
    (λ (o : dot h p ≤ℤ pos 0). record { rays = t.rays; widths = t.widths; wanted = t.wanted; gives = λ y ly k. (λ u v. absurd (omega (arith, sums)), t.gives y ly k) }))
    (λ (o : pos 0 ≤ℤ dot h n). record { rays = t.rays; widths = t.widths; wanted = t.wanted; gives = λ y ly k. (λ u v. absurd (omega (arith, sums)), t.gives y ly k) })

joined : (w : ℕ) (Wanted P Q : Vector → Type 0) → Part w Wanted P → Part w Wanted Q → Part w Wanted (λ y. P y × Q y)
joined w Wanted P Q a b = record {
  rays = a.rays ++ b.rays;
  widths = each_append (λ v. length v ≡ w) a.rays b.rays a.widths b.widths;
  wanted = each_append Wanted a.rays b.rays a.wanted b.wanted;
  gives = λ y ly k. (a.gives y ly (each_left (λ r. pos 0 ≤ℤ dot r y) a.rays b.rays k), b.gives y ly (each_right (λ r. pos 0 ≤ℤ dot r y) a.rays b.rays k));
}

all_met : (w : ℕ) (h : Vector) (Wanted : Vector → Type 0) (ns rays : List Vector) → Each (HasWidth w) ns → Each (HasWidth w) rays → Each (λ n. Each (λ p. dot h n <ℤ pos 0 → pos 0 <ℤ dot h p → Wanted (meet h p n)) rays) ns
    → Part w Wanted (λ y. Each (λ n. Each (λ p. dot h n <ℤ pos 0 → pos 0 <ℤ dot h p → pos 0 ≤ℤ dot (meet h p n) y) rays) ns)
all_met w h Wanted [] rays ln l s = record { rays = []; widths = tt; wanted = tt; gives = λ y ly k. tt }
all_met w h Wanted (n ∷ ns) rays ln l s =
    let j = joined w Wanted _ _ (met w h Wanted n rays ln.0 l s.0) (all_met w h Wanted ns rays ln.1 l s.1) in
    record { rays = j.rays; widths = j.widths; wanted = j.wanted; gives = λ y ly k. let g = j.gives y ly k in (g.0, g.1) }

-- a cut, each ray of which is as wanted
pub record FullCut (w : ℕ) (h : Vector) (Wanted : Vector → Type 0) (rows rays : List Vector) : Type 0 where
  pub cut : List Vector
  pub is : IsCut w h rows rays cut
  pub wanted : Each Wanted cut

-- the rays on h's side with all the sums; what is wanted of each of them holds of each of the list
pub full_cut : (w : ℕ) (h : Vector) (Wanted : Vector → Type 0) (rows rays : List Vector) → Each (HasWidth w) rays → Each (Satisfies rows) rays → Each (λ r. pos 0 ≤ℤ dot h r → Wanted r) rays
    → Each (λ n. Each (λ p. dot h n <ℤ pos 0 → pos 0 <ℤ dot h p → Wanted (meet h p n)) rays) rays → FullCut w h Wanted rows rays
full_cut w h Wanted rows rays l s k m =
    let W : Vector → Type 0 = λ r. ((pos 0 ≤ℤ dot h r) × Satisfies rows r) × Wanted r in
    let a = kept w h W rays l (each_map2 (Satisfies rows) (λ r. pos 0 ≤ℤ dot h r → Wanted r) (λ r. pos 0 ≤ℤ dot h r → W r) rays (λ r x f o. ((o, x), f o)) s k) in
    let b = all_met w h W rays rays l l (each_map3 (λ n. length n ≡ w) (Satisfies rows) (λ n. Each (λ p. dot h n <ℤ pos 0 → pos 0 <ℤ dot h p → Wanted (meet h p n)) rays) (λ n. Each (λ p. dot h n <ℤ pos 0 → pos 0 <ℤ dot h p → W (meet h p n)) rays) rays
    (λ n ln sn f. each_map3 (λ p. length p ≡ w) (Satisfies rows) (λ p. dot h n <ℤ pos 0 → pos 0 <ℤ dot h p → Wanted (meet h p n)) (λ p. dot h n <ℤ pos 0 → pos 0 <ℤ dot h p → W (meet h p n)) rays
    (λ p lp sp g un up. (meet_sound w h rows p n lp ln un up sp sn, g un up)) l s f) l s m) in
    let j = joined w W _ _ a b in
    record {
      cut = j.rays;
      is = record {
        widths = j.widths;
        sound = each_map W (λ r. (pos 0 ≤ℤ dot h r) × Satisfies rows r) j.rays (λ r x. x.0) j.wanted;
        keeps = λ y ly k. (j.gives y ly k).0;
        pairs = λ y ly k. (j.gives y ly k).1;
      };
      wanted = each_map W Wanted j.rays (λ r x. x.1) j.wanted;
    }

-- a cut
pub record SomeCut (w : ℕ) (h : Vector) (rows rays : List Vector) : Type 0 where
  pub cut : List Vector
  pub is : IsCut w h rows rays cut

pub cut_of : (w : ℕ) (h : Vector) (rows rays : List Vector) → Each (HasWidth w) rays → Each (Satisfies rows) rays → SomeCut w h rows rays
cut_of w h rows rays l s =
    let f = full_cut w h (λ r. Unit {0}) rows rays l s (each_map (Satisfies rows) (λ r. pos 0 ≤ℤ dot h r → Unit {0}) rays (λ r x o. tt) s)
    (each_map (Satisfies rows) (λ n. Each (λ p. dot h n <ℤ pos 0 → pos 0 <ℤ dot h p → Unit {0}) rays) rays (λ n x. each_map (Satisfies rows) (λ p. dot h n <ℤ pos 0 → pos 0 <ℤ dot h p → Unit {0}) rays (λ p y u v. tt) s) s) in
    record { cut = f.cut; is = f.is }

-- ---- the start: no rows
abbrev pub axes : ℕ → List Vector
axes zero = []
axes (suc w) = (pos 1 ∷ zero_vector w) ∷ (negsuc 0 ∷ zero_vector w) ∷ map (λ v. pos 0 ∷ v) (axes w)

axes_widths : (w : ℕ) → Each (HasWidth w) (axes w)
axes_widths zero = tt
axes_widths (suc w) = (ap suc (length-zero_vector w), (ap suc (length-zero_vector w), each_of_map (λ v. pos 0 ∷ v) (λ v. length v ≡ suc w) (axes w) (each_map (λ v. length v ≡ w) (λ v. length (pos 0 ∷ v) ≡ suc w) (axes w) (λ v e. ap suc e) (axes_widths w))))

axes_zero : (w : ℕ) (y : Vector) → length y ≡ w → Satisfies (axes w) y → y ≡ zero_vector w
axes_zero zero [] l s = refl
axes_zero zero (a ∷ y) l s = absurd (omega arith)
axes_zero (suc w) [] l s = absurd (omega arith)
axes_zero (suc w) (a ∷ y) l s =
    let rest = map_each (λ v. pos 0 ∷ v) (λ v. pos 0 ≤ℤ dot v (a ∷ y)) (axes w) s.1.1 in
    let up : pos 0 ≤ℤ a = omega (arith, ints, s.0, one-mul a, zero-dot w y) in
    let down : a ≤ℤ pos 0 = omega (arith, ints, s.1.0, zero-dot w y) in
    let first : a ≡ pos 0 = omega (arith, sums) in
    cons_same first (axes_zero w y (omega arith) (each_map (λ v. pos 0 ≤ℤ dot (pos 0 ∷ v) (a ∷ y)) (λ v. pos 0 ≤ℤ dot v y) (axes w) (λ v k. omega (arith, sums, k, zero-*ℤ a)) rest))

describes_none : (w : ℕ) → IsDoubleDescription w [] (axes w)
describes_none w = record {
  row_widths = tt;
  ray_widths = axes_widths w;
  sound = each_map (λ v. length v ≡ w) (Satisfies []) (axes w) (λ v l. tt) (axes_widths w);
  farkas = λ y ly s. subst (IsInCone w []) (sym (axes_zero w y ly s)) (IsInCone-zero w [] tt);
}

-- ---- each list of rows has a description
pub record SomeDescription (w : ℕ) (rows : List Vector) : Type 0 where
  pub rays : List Vector
  pub is : IsDoubleDescription w rows rays

pub described : (w : ℕ) (rows : List Vector) → Each (HasWidth w) rows → SomeDescription w rows
described w [] l = record { rays = axes w; is = describes_none w }
described w (h ∷ rows) l =
    let d = described w rows l.1 in
    let c = cut_of w h rows d.rays d.is.ray_widths d.is.sound in
    record { rays = c.cut; is = farkas_step w h rows d.rays c.cut l.0 d.is c.is }

-- what satisfies the rows is in the cone of the rays
pub generated : (w : ℕ) (rows rays : List Vector) (x : Vector) → IsDoubleDescription w rows rays → length x ≡ w → Satisfies rows x → IsInCone w rays x
generated w rows rays x d lx s =
    let e = described w rays d.ray_widths in
    let each : Satisfies e.rays x = each_map2 (λ f. length f ≡ w) (Satisfies rays) (λ f. pos 0 ≤ℤ dot f x) e.rays
    (λ f lf sf.
    let i = d.farkas f lf (each_map (λ r. pos 0 ≤ℤ dot r f) (λ r. pos 0 ≤ℤ dot r f) rays (λ r k. k) sf) in
    let v = nonneg_on_cone x w rows f d.row_widths (each_map (λ a. pos 0 ≤ℤ dot a x) (λ a. pos 0 ≤ℤ dot x a) rows (λ a k. omega (arith, sums, k, dot_comm a x)) s) i in
    omega (arith, sums, v, dot_comm f x)) e.is.ray_widths e.is.sound in
    e.is.farkas x lx each

-- and the other way round
pub cone_satisfies : (w : ℕ) (rows rays : List Vector) (x : Vector) → IsDoubleDescription w rows rays → IsInCone w rays x → Satisfies rows x
cone_satisfies w rows rays x d i =
    by rows (transposed rows d.sound)
  where
    transposed : (fs : List Vector) → Each (Satisfies fs) rays → Each (λ a. Each (λ r. pos 0 ≤ℤ dot a r) rays) fs
    transposed [] s = tt
    transposed (a ∷ fs) s = (each_map (Satisfies (a ∷ fs)) (λ r. pos 0 ≤ℤ dot a r) rays (λ r k. k.0) s, transposed fs (each_map (Satisfies (a ∷ fs)) (Satisfies fs) rays (λ r k. k.1) s))

    by : (fs : List Vector) → Each (λ a. Each (λ r. pos 0 ≤ℤ dot a r) rays) fs → Satisfies fs x
    by fs s = each_map (λ a. Each (λ r. pos 0 ≤ℤ dot a r) rays) (λ a. pos 0 ≤ℤ dot a x) fs (λ a k. nonneg_on_cone a w rays x d.ray_widths k i) s

-- rows and rays change places
pub swapped : (w : ℕ) (rows rays : List Vector) → IsDoubleDescription w rows rays → IsDoubleDescription w rays rows
swapped w rows rays d = record {
  row_widths = d.ray_widths;
  ray_widths = d.row_widths;
  sound = Each-from_contains (Satisfies rays) rows (λ a c. each_map (Satisfies rows) (λ r. pos 0 ≤ℤ dot r a) rays (λ r s. rw (dot_comm r a) (Each-contains (λ b. pos 0 ≤ℤ dot b r) rows a s c)) d.sound);
  farkas = λ y ly s. generated w rows rays y d ly s;
}
