-- The rays after a row are extreme again: those kept, and the sums of adjacent pairs.
use Rattle.std.proofs.Common.{◌≡◌, ◌≢◌, ℕ, inl, inr, List, [], ◌∷◌, length, ℤ, pos, ◌+ℤ◌, ◌*ℤ◌, neg_ℤ, ◌≤ℤ◌, ◌<ℤ◌, sym, ap, ◌∙◌, subst, arith}
use Rattle.std.proofs.Math.IntN.{*ℤ-zero}
use Rattle.std.specs.List.{AllByRecursion as Each}
use Rattle.nz_spec.specs.Vectors.{Vector, dot, plus, scaled, zero_vector, combination, HasWidth, IsPrimitive, IsZero}
use Rattle.nz_spec.proofs.SumLaws.{length-zero_vector, length-combination}
use Rattle.nz_spec.proofs.IntLaws.{mul-nonneg}
use Rattle.nz_linear.specs.Cones.{Satisfies, IsDoubleDescription, meet}
use Rattle.nz_linear.specs.DoubleDescription.{HaveApartZeros, IsOnRay, IsExtremeByZeros, AreAdjacent}
use Rattle.nz_linear.proofs.Ring.{zero_sum, cross_gone, sums, ring_z}
use Rattle.nz_linear.proofs.Signs.{mul_pos, mul_is_zero, sign_cases}
use Rattle.nz_linear.proofs.Lists.{each_map, each_map2, each_map3}
use Rattle.nz_spec.proofs.VectorLaws.{IsZero-zero_vector, dot-scaled, plus_assoc, add-scaled, int_is_zero}
use Rattle.nz_linear.proofs.VectorLaws.{length-scaled, dot-plus, zero-scaled, zero-plus, plus_left_comm, scaled_is_zero, same_values}
use Rattle.nz_linear.proofs.Cones.{above_zero}
use Rattle.nz_linear.proofs.Combinations.{combination-skip}
use Rattle.nz_linear.proofs.Division.{primitive_nonzero, primitive_unique}
use Rattle.nz_linear.proofs.Farkas.{generated, meet_width}
use Rattle.nz_linear.proofs.Extreme.{combination_inside, vanishes_multiple}
use Rattle.nz_linear.proofs.DoubleDescription.{meet_at}

-- a ray on h's side stays extreme
pub kept_extreme : (w : ℕ) (h : Vector) (rows : List Vector) (x : Vector) → IsExtremeByZeros w rows x → IsExtremeByZeros w (h ∷ rows) x
kept_extreme w h rows x e y ly s v = e y ly s.1 v.1

-- a sum of two vectors with factors of at least 0
pub record IsBetween (w : ℕ) (p n y : Vector) : Type 0 where
  pub at_p : ℤ
  pub at_n : ℤ
  pub nonneg_p : pos 0 ≤ℤ at_p
  pub nonneg_n : pos 0 ≤ℤ at_n
  pub same : y ≡ plus (scaled at_p p) (scaled at_n n)

more_p : (w : ℕ) (p n y : Vector) (c : ℤ) → length p ≡ w → length n ≡ w → pos 0 ≤ℤ c → IsBetween w p n y → IsBetween w p n (plus (scaled c p) y)
more_p w p n y c lp ln h b = record {
  at_p = c +ℤ b.at_p;
  at_n = b.at_n;
  nonneg_p = omega (arith, sums, b.nonneg_p);
  nonneg_n = b.nonneg_n;
  same = ap (plus (scaled c p)) b.same ∙ sym (plus_assoc (scaled c p) (scaled b.at_p p) (scaled b.at_n n)) ∙ ap (λ t. plus t (scaled b.at_n n)) (sym (add-scaled c b.at_p p));
}

more_n : (w : ℕ) (p n y : Vector) (c : ℤ) → length p ≡ w → length n ≡ w → pos 0 ≤ℤ c → IsBetween w p n y → IsBetween w p n (plus (scaled c n) y)
more_n w p n y c lp ln h b = record {
  at_p = b.at_p;
  at_n = c +ℤ b.at_n;
  nonneg_p = b.nonneg_p;
  nonneg_n = omega (arith, sums, b.nonneg_n);
  same = ap (plus (scaled c n)) b.same ∙ plus_left_comm (scaled c n) (scaled b.at_p p) (scaled b.at_n n) ∙ ap (plus (scaled b.at_p p)) (sym (add-scaled c b.at_n n));
}

between_zero : (w : ℕ) (p n : Vector) → length p ≡ w → length n ≡ w → IsBetween w p n (zero_vector w)
between_zero w p n lp ln = record {
  at_p = pos 0;
  at_n = pos 0;
  nonneg_p = omega (arith, sums);
  nonneg_n = omega (arith, sums);
  same = sym ((λ i. plus (zero-scaled w p lp i) (zero-scaled w n ln i)) ∙ zero-plus w (zero_vector w) (length-zero_vector w));
}

-- a sum of rays that vanishes where p and n do is between them
pub between : (w : ℕ) (rows : List Vector) (p n : Vector) (cs : List ℤ) (gs : List Vector) → length p ≡ w → length n ≡ w → Each (HasWidth w) rows → Each (λ c. pos 0 ≤ℤ c) cs → Each (HasWidth w) gs → Each (Satisfies rows) gs
    → AreAdjacent rows gs p n → Each (λ a. dot a p ≡ pos 0 → dot a n ≡ pos 0 → dot a (combination w cs gs) ≡ pos 0) rows → IsBetween w p n (combination w cs gs)
between w rows p n [] gs lp ln lr k l s adj z = between_zero w p n lp ln
between w rows p n (c ∷ cs) [] lp ln lr k l s adj z = between_zero w p n lp ln
between w rows p n (c ∷ cs) (g ∷ gs) lp ln lr k l s adj z =
    let rest = combination_inside w rows cs gs k.1 l.1 s.1 lr in
    let value : (a : Vector) → dot a (plus (scaled c g) (combination w cs gs)) ≡ c *ℤ dot a g +ℤ dot a (combination w cs gs) = λ a.
    dot-plus w a (scaled c g) (combination w cs gs) (length-scaled w c g l.0) (length-combination w cs gs l.1) ∙ ap (λ t. t +ℤ dot a (combination w cs gs)) (dot-scaled a c g) in
    let zrest : Each (λ a. dot a p ≡ pos 0 → dot a n ≡ pos 0 → dot a (combination w cs gs) ≡ pos 0) rows =
    each_map3 (λ a. dot a p ≡ pos 0 → dot a n ≡ pos 0 → dot a (plus (scaled c g) (combination w cs gs)) ≡ pos 0) (λ a. pos 0 ≤ℤ dot a g) (λ a. pos 0 ≤ℤ dot a (combination w cs gs)) (λ a. dot a p ≡ pos 0 → dot a n ≡ pos 0 → dot a (combination w cs gs) ≡ pos 0) rows
    (λ a f x y e1 e2. omega (arith, sums, value a, f e1 e2, mul-nonneg c (dot a g) k.0 x, y)) z s.0 rest in
    let tail = between w rows p n cs gs lp ln lr k.1 l.1 s.1 adj.1 zrest in
    elim (int_is_zero c) [
      | inl e ↦ subst (λ (d : ℤ). IsBetween w p n (plus (scaled d g) (combination w cs gs))) (sym e) (subst (IsBetween w p n) (sym (combination-skip w cs g gs l.0 l.1)) tail)
      | inr d ↦ (
          let up : pos 0 <ℤ c = omega (arith, sums, k.0, d) in
          let zg : Each (λ a. dot a p ≡ pos 0 → dot a n ≡ pos 0 → dot a g ≡ pos 0) rows =
          each_map3 (λ a. dot a p ≡ pos 0 → dot a n ≡ pos 0 → dot a (plus (scaled c g) (combination w cs gs)) ≡ pos 0) (λ a. pos 0 ≤ℤ dot a g) (λ a. pos 0 ≤ℤ dot a (combination w cs gs)) (λ a. dot a p ≡ pos 0 → dot a n ≡ pos 0 → dot a g ≡ pos 0) rows
          (λ a f x y e1 e2. mul_is_zero c (dot a g) up (omega (arith, sums, value a, f e1 e2, mul-nonneg c (dot a g) k.0 x, y))) z s.0 rest in
          elim (adj.0 zg) [
            | inl e ↦ subst (λ (v : Vector). IsBetween w p n (plus (scaled c v) (combination w cs gs))) (sym e) (more_p w p n (combination w cs gs) c lp ln k.0 tail)
            | inr e ↦ subst (λ (v : Vector). IsBetween w p n (plus (scaled c v) (combination w cs gs))) (sym e) (more_n w p n (combination w cs gs) c lp ln k.0 tail)
          ])
    ]

ring_on_ray : (H N x y P Q m v : ℤ) → x *ℤ H +ℤ y *ℤ neg_ℤ N ≡ pos 0 → m *ℤ v ≡ x *ℤ P +ℤ y *ℤ Q → (H *ℤ m) *ℤ v ≡ y *ℤ (H *ℤ Q +ℤ N *ℤ P)
ring_on_ray H N x y P Q m v e f =
    let g = ap (λ t. H *ℤ t) f in
    let k = ap (λ t. P *ℤ t) e in
    let gg = simp ring_z at g in
    let kk = simp ring_z at k in
    simp ring_z (omega (arith, sums, gg, kk))

-- the sum of an adjacent pair is extreme
pub adjacent_extreme : (w : ℕ) (h : Vector) (rows rays : List Vector) (p n : Vector) → length p ≡ w → length n ≡ w → IsDoubleDescription w rows rays → Satisfies rows p → Satisfies rows n → dot h n <ℤ pos 0 → pos 0 <ℤ dot h p
    → AreAdjacent rows rays p n → IsExtremeByZeros w (h ∷ rows) (meet h p n)
adjacent_extreme w h rows rays p n lp ln d sp sn un up adj y ly sy v =
    let i = generated w rows rays y d ly sy.1 in
    let H = dot h p in
    let N = neg_ℤ (dot h n) in
    let at_h : dot h (meet h p n) ≡ pos 0 = meet_at w h p n h lp ln ∙ cross_gone H (dot h n) in
    let hy : dot h y ≡ pos 0 = v.0 at_h in
    let zy : Each (λ a. dot a p ≡ pos 0 → dot a n ≡ pos 0 → dot a y ≡ pos 0) rows = each_map (λ a. dot a (meet h p n) ≡ pos 0 → dot a y ≡ pos 0) (λ a. dot a p ≡ pos 0 → dot a n ≡ pos 0 → dot a y ≡ pos 0) rows
    (λ a f e1 e2. f (meet_at w h p n a lp ln ∙ zero_sum H N (dot a n) (dot a p) e2 e1)) v.1 in
    let zc : Each (λ a. dot a p ≡ pos 0 → dot a n ≡ pos 0 → dot a (combination w i.factors rays) ≡ pos 0) rows = each_map2 (λ a. dot a p ≡ pos 0 → dot a n ≡ pos 0 → dot a y ≡ pos 0) (λ a. dot a y ≡ pos 0 → dot a (combination w i.factors rays) ≡ pos 0) (λ a. dot a p ≡ pos 0 → dot a n ≡ pos 0 → dot a (combination w i.factors rays) ≡ pos 0) rows
    (λ a f g e1 e2. g (f e1 e2)) zy (vanishes_multiple rows i.multiple y (combination w i.factors rays) (sym i.same) sy.1) in
    let b = between w rows p n i.factors rays lp ln d.row_widths i.each d.ray_widths d.sound adj zc in
    let value : (a : Vector) → i.multiple *ℤ dot a y ≡ b.at_p *ℤ dot a p +ℤ b.at_n *ℤ dot a n = λ a.
    sym (dot-scaled a i.multiple y) ∙ ap (dot a) (sym i.same ∙ b.same) ∙ dot-plus w a _ _ (length-scaled w b.at_p p lp) (length-scaled w b.at_n n ln) ∙ omega (arith, sums, dot-scaled a b.at_p p, dot-scaled a b.at_n n) in
    let balance : b.at_p *ℤ H +ℤ b.at_n *ℤ neg_ℤ N ≡ pos 0 = balanced (dot h n) b.at_n (b.at_p *ℤ H) (sym (value h) ∙ ap (λ t. i.multiple *ℤ t) hy ∙ *ℤ-zero i.multiple) in
    record {
      multiple = H *ℤ i.multiple;
      positive = mul_pos H i.multiple up (above_zero i.multiple i.positive);
      factor = b.at_n;
      nonneg = b.nonneg_n;
      same = same_values w _ _ (length-scaled w (H *ℤ i.multiple) y ly) (length-scaled w b.at_n (meet h p n) (meet_width w h p n lp ln))
          (λ a. dot-scaled a (H *ℤ i.multiple) y ∙ ring_on_ray H N b.at_p b.at_n (dot a p) (dot a n) i.multiple (dot a y) balance (value a)
          ∙ ap (λ t. b.at_n *ℤ t) (sym (meet_at w h p n a lp ln)) ∙ sym (dot-scaled a b.at_n (meet h p n)));
    }
  where
    balanced : (z y s : ℤ) → s +ℤ y *ℤ z ≡ pos 0 → s +ℤ y *ℤ neg_ℤ (neg_ℤ z) ≡ pos 0
    balanced z y s e = let f : neg_ℤ (neg_ℤ z) ≡ z = omega (arith, sums) in rw f e

-- two primitive vectors on one ray are the same
pub same_on_ray : (w : ℕ) (u v : Vector) → length u ≡ w → length v ≡ w → IsPrimitive u → IsPrimitive v → IsOnRay v u → u ≡ v
same_on_ray w u v lu lv pu pv r = elim (sign_cases r.factor) [
  | inl none ↦ absurd (
      let e : scaled r.multiple u ≡ zero_vector w = r.same ∙ ap (λ t. scaled t v) none ∙ zero-scaled w v lv in
      primitive_nonzero u pu (subst IsZero (sym (scaled_is_zero w r.multiple u r.positive lu e)) (IsZero-zero_vector w)))
  | inr s ↦ elim s [
    | inl up ↦ primitive_unique w r.multiple r.factor u v r.positive up lu lv r.same pu pv
    | inr down ↦ absurd (omega (arith, sums, r.nonneg))
  ]
]

-- two different primitive extreme vectors of the cone are apart
pub extreme_apart : (w : ℕ) (rows : List Vector) (x y : Vector) → length x ≡ w → length y ≡ w → Satisfies rows x → Satisfies rows y → IsPrimitive x → IsPrimitive y → IsExtremeByZeros w rows x → IsExtremeByZeros w rows y → x ≢ y → HaveApartZeros rows x y
extreme_apart w rows x y lx ly sx sy px py ex ey ne = record {
  there = λ v. ne (sym (same_on_ray w y x ly lx py px (ex y ly sy v)));
  back = λ v. ne (same_on_ray w x y lx ly px py (ey x lx sx v));
}
