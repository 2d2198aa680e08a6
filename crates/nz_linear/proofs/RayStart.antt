-- The rays of a dual pair, which start the double description; and rays go by the members of the list of rows alone.
use Rattle.std.proofs.Common.{◌≡◌, ℕ, List, [], ◌∷◌, length, map, ℤ, pos, ◌*ℤ◌, ◌≤ℤ◌, ap, ◌∙◌, arith}
use Rattle.std.proofs.Math.IntN.{*ℤ-zero}
use Rattle.std.specs.List.{AllByRecursion as Each, Contains}
use Rattle.nz_spec.specs.Vectors.{Vector, dot, plus, scaled, HasWidth, IsPrimitive}
use Rattle.nz_spec.proofs.ListLaws.{Each-contains}
use Rattle.nz_spec.proofs.IntLaws.{mul-nonneg}
use Rattle.nz_linear.specs.DualPairs.{Pair, divisor, IsApart, HasWidths, IsDual, IsDualPair, AllVanish, OnlyZero, product, spread}
use Rattle.nz_spec.specs.Sums.{IsInCone}
use Rattle.nz_linear.specs.Cones.{Satisfies}
use Rattle.nz_linear.specs.Extreme.{IsPointed}
use Rattle.nz_linear.specs.DoubleDescription.{IsExtremeByZeros}
use Rattle.nz_linear.specs.RayStep.{AreExtremeRays}
use Rattle.nz_linear.proofs.Ring.{sums}
use Rattle.nz_linear.proofs.Lists.{each_map, each_map2, each_of_map, map_each}
use Rattle.nz_spec.proofs.VectorLaws.{scaled-zero, scaled-scaled}
use Rattle.nz_linear.proofs.VectorLaws.{length-scaled, plus-zero, zero-plus, zero-scaled}
use Rattle.nz_linear.proofs.DualPairs.{product_positive, length-spread, expansion}
use Rattle.nz_linear.proofs.Elimination.{all_of_width, complete_of, spread_vanishes}
use Rattle.nz_linear.proofs.DualCone.{described_by_dual}
use Rattle.nz_linear.proofs.ConeMembers.{cone_member, cone_within}

-- the spread of y is a multiple of v
record IsSpreadOn (w : ℕ) (ps : List Pair) (v y : Vector) : Type 0 where
  factor : ℤ
  nonneg : pos 0 ≤ℤ factor
  same : spread w ps y ≡ scaled factor v

spread_on : (w : ℕ) (ps : List Pair) → Each (HasWidths w) ps → IsDual ps
    → Each (λ (p : Pair). (y : Vector) → Each (λ (q : Pair). pos 0 ≤ℤ dot q.form y) ps → Each (λ (q : Pair). dot q.form p.vector ≡ pos 0 → dot q.form y ≡ pos 0) ps → IsSpreadOn w ps p.vector y) ps
spread_on w [] h d = tt
spread_on w (p ∷ ps) h d = (
  (λ y s z.
      let vanish : AllVanish ps y = each_map2 (IsApart p) (λ (q : Pair). dot q.form p.vector ≡ pos 0 → dot q.form y ≡ pos 0) (λ (q : Pair). dot q.form y ≡ pos 0) ps (λ q a f. f a.back) d.1 z.1 in
      let k = product ps *ℤ dot p.form y in
      record {
        factor = k;
        nonneg = mul-nonneg (product ps) (dot p.form y) (omega (arith, sums, product_positive ps d.2)) s.0;
        same = ap (λ t. plus (scaled k p.vector) (scaled (divisor p) t)) (spread_vanishes w ps y h.1 vanish) ∙ ap (plus (scaled k p.vector)) (scaled-zero (divisor p) w) ∙ plus-zero w (scaled k p.vector) (length-scaled w k p.vector h.0.vector_width);
      }),
  each_map2 (IsApart p) (λ (r : Pair). (y : Vector) → Each (λ (q : Pair). pos 0 ≤ℤ dot q.form y) ps → Each (λ (q : Pair). dot q.form r.vector ≡ pos 0 → dot q.form y ≡ pos 0) ps → IsSpreadOn w ps r.vector y)
      (λ (r : Pair). (y : Vector) → Each (λ (q : Pair). pos 0 ≤ℤ dot q.form y) (p ∷ ps) → Each (λ (q : Pair). dot q.form r.vector ≡ pos 0 → dot q.form y ≡ pos 0) (p ∷ ps) → IsSpreadOn w (p ∷ ps) r.vector y) ps
      (λ r a f y s z.
      let b = f y s.1 z.1 in
      let e : dot p.form y ≡ pos 0 = z.0 a.there in
      record {
        factor = divisor p *ℤ b.factor;
        nonneg = mul-nonneg (divisor p) b.factor (omega (arith, sums, d.0)) b.nonneg;
        same = ap (λ t. plus (scaled (product ps *ℤ t) p.vector) (scaled (divisor p) (spread w ps y))) e
            ∙ ap (λ t. plus (scaled t p.vector) (scaled (divisor p) (spread w ps y))) (*ℤ-zero (product ps))
            ∙ ap (λ t. plus t (scaled (divisor p) (spread w ps y))) (zero-scaled w p.vector h.0.vector_width)
            ∙ zero-plus w _ (length-scaled w (divisor p) (spread w ps y) (length-spread w ps y h.1))
            ∙ ap (scaled (divisor p)) b.same ∙ scaled-scaled (divisor p) b.factor r.vector;
      }) d.1 (spread_on w ps h.1 d.2),
)

pub dual_extreme : (w : ℕ) (ps : List Pair) → IsDualPair w ps → OnlyZero w ps → Each (IsExtremeByZeros w (map (λ p. p.form) ps)) (map (λ p. p.vector) ps)
dual_extreme w ps d o = each_of_map (λ (p : Pair). p.vector) (IsExtremeByZeros w (map (λ (p : Pair). p.form) ps)) ps
    (each_map (λ (p : Pair). (y : Vector) → Each (λ (q : Pair). pos 0 ≤ℤ dot q.form y) ps → Each (λ (q : Pair). dot q.form p.vector ≡ pos 0 → dot q.form y ≡ pos 0) ps → IsSpreadOn w ps p.vector y)
    (λ (p : Pair). IsExtremeByZeros w (map (λ (q : Pair). q.form) ps) p.vector) ps
    (λ p f y ly s v.
    let b = f y (map_each (λ (q : Pair). q.form) (λ a. pos 0 ≤ℤ dot a y) ps s) (map_each (λ (q : Pair). q.form) (λ a. dot a p.vector ≡ pos 0 → dot a y ≡ pos 0) ps v) in
    record {
      multiple = product ps;
      positive = product_positive ps d.dual;
      factor = b.factor;
      nonneg = b.nonneg;
      same = expansion w (λ z. length z ≡ w) ps y (all_of_width w) d (complete_of w ps d.widths o) ly ∙ b.same;
    }) (spread_on w ps d.widths d.dual))

-- the rays of a complete dual pair with primitive vectors
pub dual_rays : (w : ℕ) (ps : List Pair) → IsDualPair w ps → OnlyZero w ps → Each (λ p. IsPrimitive p.vector) ps → AreExtremeRays w (map (λ p. p.form) ps) (map (λ p. p.vector) ps)
dual_rays w ps d o i = record { description = described_by_dual w ps d o; primitive = each_of_map (λ (p : Pair). p.vector) IsPrimitive ps i; extreme = dual_extreme w ps d o }

pub dual_pointed : (w : ℕ) (ps : List Pair) → OnlyZero w ps → IsPointed w (map (λ p. p.form) ps)
dual_pointed w ps o x lx z = o x lx (map_each (λ (p : Pair). p.form) (λ a. dot a x ≡ pos 0) ps z)

pub pointed_more : (w : ℕ) (h : Vector) (rows : List Vector) → IsPointed w rows → IsPointed w (h ∷ rows)
pointed_more w h rows pt x lx z = pt x lx z.1

-- ---- by the members alone
pub record HaveSameMembers (xs ys : List Vector) : Type 0 where
  pub there : Each (Contains ys) xs
  pub back : Each (Contains xs) ys

pub each_of_members : (P : Vector → Type 0) (xs ys : List Vector) → Each (Contains xs) ys → Each P xs → Each P ys
each_of_members P xs ys c s = each_map (Contains xs) P ys (λ y k. Each-contains P xs y s k) c

pub rays_of_members : (w : ℕ) (rows others rays : List Vector) → HaveSameMembers rows others → AreExtremeRays w rows rays → AreExtremeRays w others rays
rays_of_members w rows others rays m r =
    let d = r.description in
    let lo : Each (HasWidth w) others = each_of_members (λ v. length v ≡ w) rows others m.back d.row_widths in
    record {
      description = record {
        row_widths = lo;
        ray_widths = d.ray_widths;
        sound = each_map (Satisfies rows) (Satisfies others) rays (λ x s. each_of_members (λ a. pos 0 ≤ℤ dot a x) rows others m.back s) d.sound;
        farkas = λ y ly s. cone_within w rows others y lo (each_map (Contains others) (IsInCone w others) rows (λ a k. cone_member w others a lo k) m.there) (d.farkas y ly s);
      };
      primitive = r.primitive;
      extreme = each_map (IsExtremeByZeros w rows) (IsExtremeByZeros w others) rays
          (λ x e y ly s v. e y ly (each_of_members (λ a. pos 0 ≤ℤ dot a y) others rows m.there s) (each_of_members (λ a. dot a x ≡ pos 0 → dot a y ≡ pos 0) others rows m.there v)) r.extreme;
    }
