-- A pair of rays with a third that vanishes where both do gives no ray that is needed; so the pruned step keeps a description.
use Rattle.std.proofs.Common.{◌≡◌, ℕ, ◌⊎◌, inl, inr, List, ◌∷◌, length, ℤ, pos, ◌+ℤ◌, ◌-ℤ◌, ◌*ℤ◌, neg_ℤ, ◌≤ℤ◌, ◌<ℤ◌, sym, ap, ◌∙◌, arith}
use Rattle.std.proofs.lemmas.Int.{by_lt_z}
use Rattle.std.proofs.Math.IntN.{*ℤ-zero, zero-*ℤ}
use Rattle.std.specs.List.{AllByRecursion as Each}
use Rattle.nz_spec.specs.Vectors.{Vector, dot, scaled}
use Rattle.nz_spec.specs.Sums.{IsInCone}
use Rattle.nz_spec.proofs.ConstraintLaws.{nonneg_on_cone}
use Rattle.nz_spec.proofs.IntLaws.{mul-nonneg}
use Rattle.nz_spec.proofs.EquationLaws.{dot_comm}
use Rattle.nz_linear.specs.Cones.{Satisfies, IsDoubleDescription, meet}
use Rattle.nz_linear.specs.Extreme.{IsPointed, Splits}
use Rattle.nz_linear.specs.DoubleDescription.{HaveApartZeros, IsThird, HasThird, IsPrunedCut}
use Rattle.nz_linear.proofs.Ring.{zero_sum, cross_gone, sums, ring_z, neg-mul}
use Rattle.nz_linear.proofs.Signs.{mul_pos, mul_is_zero}
use Rattle.nz_linear.proofs.Lists.{each_map, each_map2, each_map3, each_map4}
use Rattle.nz_spec.proofs.VectorLaws.{dot-scaled}
use Rattle.nz_linear.proofs.VectorLaws.{length-scaled, dot-plus}
use Rattle.nz_linear.proofs.Farkas.{meet_width, meet_sound, full_cut, farkas_step, generated}
use Rattle.nz_linear.proofs.Extreme.{unsplit_generate}

ring_left : (c d e f k p q r : ℤ) → c *ℤ r +ℤ d *ℤ q ≡ k *ℤ (e *ℤ q +ℤ f *ℤ p) → c *ℤ r +ℤ (d -ℤ k *ℤ e) *ℤ q ≡ (k *ℤ f) *ℤ p
ring_left c d e f k p q r h = let g = simp ring_z at h in simp ring_z (omega (arith, sums, g))

-- a positive multiple of r, and some of q, is no multiple of a sum of p and q, if the zero sets of p and r are apart
not_parallel : (rows : List Vector) (p q r : Vector) (c d e f k : ℤ) → Satisfies rows p → Satisfies rows q → Satisfies rows r → pos 0 <ℤ c → pos 0 ≤ℤ d → pos 0 ≤ℤ e → pos 0 <ℤ f
    → HaveApartZeros rows p r → Each (λ a. c *ℤ dot a r +ℤ d *ℤ dot a q ≡ k *ℤ (e *ℤ dot a q +ℤ f *ℤ dot a p)) rows → ⊥
not_parallel rows p q r c d e f k sp sq sr pc pd pe pf apart same =
    by_lt_z (pos 0) k
    (λ (up : pos 0 <ℤ k). let kf = mul_pos k f up pf in by_lt_z (d -ℤ k *ℤ e) (pos 0)
    (λ (less : (d -ℤ k *ℤ e) <ℤ pos 0). apart.back (each_map4 (λ a. pos 0 ≤ℤ dot a p) (λ a. pos 0 ≤ℤ dot a q) (λ a. pos 0 ≤ℤ dot a r) (λ a. c *ℤ dot a r +ℤ d *ℤ dot a q ≡ k *ℤ (e *ℤ dot a q +ℤ f *ℤ dot a p)) (λ a. dot a r ≡ pos 0 → dot a p ≡ pos 0) rows
    (λ a ap_ aq ar s z. mul_is_zero (k *ℤ f) (dot a p) kf (omega (
      arith,
      sums,
      ring_left c d e f k (dot a p) (dot a q) (dot a r) s,
      ap (λ t. c *ℤ t) z,
      *ℤ-zero c,
      mul-nonneg (k *ℤ f) (dot a p) (omega (arith, sums)) ap_,
      mul-nonneg (neg_ℤ (d -ℤ k *ℤ e)) (dot a q) (omega (arith, sums)) aq,
      neg-mul (d -ℤ k *ℤ e) (dot a q),
    ))) sp sq sr same))
    (λ (more : pos 0 ≤ℤ (d -ℤ k *ℤ e)). apart.there (each_map4 (λ a. pos 0 ≤ℤ dot a p) (λ a. pos 0 ≤ℤ dot a q) (λ a. pos 0 ≤ℤ dot a r) (λ a. c *ℤ dot a r +ℤ d *ℤ dot a q ≡ k *ℤ (e *ℤ dot a q +ℤ f *ℤ dot a p)) (λ a. dot a p ≡ pos 0 → dot a r ≡ pos 0) rows
    (λ a ap_ aq ar s z. mul_is_zero c (dot a r) pc (omega (
      arith,
      sums,
      ring_left c d e f k (dot a p) (dot a q) (dot a r) s,
      ap (λ t. (k *ℤ f) *ℤ t) z,
      *ℤ-zero (k *ℤ f),
      mul-nonneg c (dot a r) (omega (arith, sums)) ar,
      mul-nonneg (d -ℤ k *ℤ e) (dot a q) more aq,
    ))) sp sq sr same)))
    (λ (down : k ≤ℤ pos 0). apart.there (each_map4 (λ a. pos 0 ≤ℤ dot a p) (λ a. pos 0 ≤ℤ dot a q) (λ a. pos 0 ≤ℤ dot a r) (λ a. c *ℤ dot a r +ℤ d *ℤ dot a q ≡ k *ℤ (e *ℤ dot a q +ℤ f *ℤ dot a p)) (λ a. dot a p ≡ pos 0 → dot a r ≡ pos 0) rows
    (λ a ap_ aq ar s z. mul_is_zero c (dot a r) pc (
    let m = mul-nonneg e (dot a q) pe aq in
    let n = mul-nonneg f (dot a p) (omega (arith, sums)) ap_ in
    let o = mul-nonneg (neg_ℤ k) (e *ℤ dot a q +ℤ f *ℤ dot a p) (omega (arith, sums)) (omega (arith, sums)) in
    omega (arith, sums, s, o, neg-mul k (e *ℤ dot a q +ℤ f *ℤ dot a p), mul-nonneg c (dot a r) (omega (arith, sums)) ar, mul-nonneg d (dot a q) pd aq))) sp sq sr same))

pub meet_at : (w : ℕ) (h p n a : Vector) → length p ≡ w → length n ≡ w → dot a (meet h p n) ≡ dot h p *ℤ dot a n +ℤ neg_ℤ (dot h n) *ℤ dot a p
meet_at w h p n a lp ln = dot-plus w a _ _ (length-scaled w (dot h p) n ln) (length-scaled w (neg_ℤ (dot h n)) p lp) ∙ omega (arith, sums, dot-scaled a (dot h p) n, dot-scaled a (neg_ℤ (dot h n)) p)

-- where the sum vanishes both rays do
pub both_vanish : (c d x y : ℤ) → pos 0 <ℤ c → pos 0 <ℤ d → pos 0 ≤ℤ x → pos 0 ≤ℤ y → c *ℤ x +ℤ d *ℤ y ≡ pos 0 → (x ≡ pos 0) × (y ≡ pos 0)
both_vanish c d x y pc pd hx hy e =
    let m = mul-nonneg c x (omega (arith, sums)) hx in
    let n = mul-nonneg d y (omega (arith, sums)) hy in
    (mul_is_zero c x pc (omega (arith, sums)), mul_is_zero d y pd (omega (arith, sums)))

-- where the sum of p and n vanishes the third ray does
third_vanishes : (w : ℕ) (h : Vector) (rows : List Vector) (p n r : Vector) → length p ≡ w → length n ≡ w → Satisfies rows p → Satisfies rows n → dot h n <ℤ pos 0 → pos 0 <ℤ dot h p → IsThird w rows p n r
    → Each (λ a. dot a (meet h p n) ≡ pos 0 → (dot a p ≡ pos 0) × (dot a n ≡ pos 0) × (dot a r ≡ pos 0)) rows
third_vanishes w h rows p n r lp ln sp sn un up t = each_map3 (λ a. pos 0 ≤ℤ dot a p) (λ a. pos 0 ≤ℤ dot a n) (λ a. dot a p ≡ pos 0 → dot a n ≡ pos 0 → dot a r ≡ pos 0) _ rows
    (λ a x y f e.
    let b = both_vanish (dot h p) (neg_ℤ (dot h n)) (dot a n) (dot a p) up (omega (arith, sums)) y x (sym (meet_at w h p n a lp ln) ∙ e) in
    (b.1, b.0, f b.1 b.0)) sp sn t.vanishes

ring_case : (m k H N R v q p r : ℤ) → m *ℤ r ≡ k *ℤ (H *ℤ q +ℤ N *ℤ p) → m *ℤ r +ℤ pos 0 *ℤ q ≡ k *ℤ (H *ℤ q +ℤ N *ℤ p)
ring_case m k H N R v q p r e = omega (arith, sums, e, zero-*ℤ q)

ring_above : (m k H N R q p r : ℤ) → m *ℤ (R *ℤ q +ℤ N *ℤ r) ≡ k *ℤ (H *ℤ q +ℤ N *ℤ p) → (m *ℤ N) *ℤ r +ℤ (m *ℤ R) *ℤ q ≡ k *ℤ (H *ℤ q +ℤ N *ℤ p)
ring_above m k H N R q p r e = let f = simp ring_z at e in simp ring_z (omega (arith, sums, f))

ring_below : (m k H N R q p r : ℤ) → m *ℤ (H *ℤ r +ℤ R *ℤ p) ≡ k *ℤ (H *ℤ q +ℤ N *ℤ p) → (m *ℤ H) *ℤ r +ℤ (m *ℤ R) *ℤ p ≡ k *ℤ (N *ℤ p +ℤ H *ℤ q)
ring_below m k H N R q p r e = let f = simp ring_z at e in simp ring_z (omega (arith, sums, f))

-- the values of two vectors of which multiples are the same
pub same_at : (m k : ℤ) (x y : Vector) → scaled m x ≡ scaled k y → (a : Vector) → m *ℤ dot a x ≡ k *ℤ dot a y
same_at m k x y e a = sym (dot-scaled a m x) ∙ ap (dot a) e ∙ dot-scaled a k y

-- the sum of a pair with a third ray is split
third_splits : (w : ℕ) (h : Vector) (rows : List Vector) (p n r : Vector) → length p ≡ w → length n ≡ w → Satisfies rows p → Satisfies rows n → dot h n <ℤ pos 0 → pos 0 <ℤ dot h p → IsThird w rows p n r
    → Splits w (h ∷ rows) (meet h p n)
third_splits w h rows p n r lp ln sp sn un up t =
    let N = neg_ℤ (dot h n) in
    let H = dot h p in
    let pN : pos 0 <ℤ N = omega (arith, sums) in
    let v = third_vanishes w h rows p n r lp ln sp sn un up t in
    by_lt_z (dot h r) (pos 0)
    (λ (below : dot h r <ℤ pos 0). record {
      other = meet h p r;
      width = meet_width w h p r lp t.width;
      inside = meet_sound w h rows p r lp t.width below up sp t.inside;
      vanishes = (
        λ e. (h_zero p r lp t.width),
        each_map (λ a. dot a (meet h p n) ≡ pos 0 → (dot a p ≡ pos 0) × (dot a n ≡ pos 0) × (dot a r ≡ pos 0)) (λ a. dot a (meet h p n) ≡ pos 0 → dot a (meet h p r) ≡ pos 0) rows
            (λ a f e. let g = f e in meet_at w h p r a lp t.width ∙ zero_sum (dot h p) (neg_ℤ (dot h r)) (dot a r) (dot a p) g.2 g.0) v,
      );
      apart = λ m k pm e. not_parallel rows n p r (m *ℤ H) (m *ℤ neg_ℤ (dot h r)) N H k sn sp t.inside (mul_pos m H pm up) (mul-nonneg m (neg_ℤ (dot h r)) (omega (arith, sums)) (omega (arith, sums))) (omega (arith, sums)) up t.apart_n
          (each_map (λ a. pos 0 ≤ℤ dot a p) _ rows (λ a x. ring_below m k H N (neg_ℤ (dot h r)) (dot a n) (dot a p) (dot a r)
          (ap (λ y. m *ℤ y) (sym (meet_at w h p r a lp t.width)) ∙ same_at m k (meet h p r) (meet h p n) e a ∙ ap (λ y. k *ℤ y) (meet_at w h p n a lp ln))) sp);
    })
    (λ (o : pos 0 ≤ℤ dot h r). by_lt_z (pos 0) (dot h r)
    (λ (above : pos 0 <ℤ dot h r). record {
      other = meet h r n;
      width = meet_width w h r n t.width ln;
      inside = meet_sound w h rows r n t.width ln un above t.inside sn;
      vanishes = (
        λ e. (h_zero r n t.width ln),
        each_map (λ a. dot a (meet h p n) ≡ pos 0 → (dot a p ≡ pos 0) × (dot a n ≡ pos 0) × (dot a r ≡ pos 0)) (λ a. dot a (meet h p n) ≡ pos 0 → dot a (meet h r n) ≡ pos 0) rows
            (λ a f e. let g = f e in meet_at w h r n a t.width ln ∙ zero_sum (dot h r) N (dot a n) (dot a r) g.1 g.2) v,
      );
      apart = λ m k pm e. not_parallel rows p n r (m *ℤ N) (m *ℤ dot h r) H N k sp sn t.inside (mul_pos m N pm pN) (mul-nonneg m (dot h r) (omega (arith, sums)) o) (omega (arith, sums)) pN t.apart_p
          (each_map (λ a. pos 0 ≤ℤ dot a p) _ rows (λ a x. ring_above m k H N (dot h r) (dot a n) (dot a p) (dot a r)
          (ap (λ y. m *ℤ y) (sym (meet_at w h r n a t.width ln)) ∙ same_at m k (meet h r n) (meet h p n) e a ∙ ap (λ y. k *ℤ y) (meet_at w h p n a lp ln))) sp);
    })
    (λ (under : dot h r ≤ℤ pos 0). record {
      other = r;
      width = t.width;
      inside = (o, t.inside);
      vanishes = (λ e. omega (arith, sums), each_map (λ a. dot a (meet h p n) ≡ pos 0 → (dot a p ≡ pos 0) × (dot a n ≡ pos 0) × (dot a r ≡ pos 0)) (λ a. dot a (meet h p n) ≡ pos 0 → dot a r ≡ pos 0) rows (λ a f e. (f e).2) v);
      apart = λ m k pm e. not_parallel rows p n r m (pos 0) H N k sp sn t.inside pm (omega (arith, sums)) (omega (arith, sums)) pN t.apart_p
          (each_map (λ a. pos 0 ≤ℤ dot a p) _ rows (λ a x. ring_case m k H N (pos 0) (pos 0) (dot a n) (dot a p) (dot a r)
          (same_at m k r (meet h p n) e a ∙ ap (λ y. k *ℤ y) (meet_at w h p n a lp ln))) sp);
    }))
  where
    h_zero : (x y : Vector) → length x ≡ w → length y ≡ w → dot h (meet h x y) ≡ pos 0
    h_zero x y lx ly = meet_at w h x y h lx ly ∙ cross_gone (dot h x) (dot h y)

-- ---- the pruned step
pub pruned_step : (w : ℕ) (h : Vector) (rows rays cut : List Vector) → length h ≡ w → IsPointed w (h ∷ rows) → IsDoubleDescription w rows rays → IsPrunedCut w h rows rays cut → IsDoubleDescription w (h ∷ rows) cut
pruned_step w h rows rays cut lh pt d c =
    let full = full_cut w h (λ g. IsInCone w cut g ⊎ Splits w (h ∷ rows) g) rows rays d.ray_widths d.sound
    (each_map (λ r. pos 0 ≤ℤ dot h r → IsInCone w cut r) (λ r. pos 0 ≤ℤ dot h r → IsInCone w cut r ⊎ Splits w (h ∷ rows) r) rays (λ r f o. inl (f o)) c.keeps)
    (each_map3 (λ n. length n ≡ w) (Satisfies rows) (λ n. Each (λ p. dot h n <ℤ pos 0 → pos 0 <ℤ dot h p → IsInCone w cut (meet h p n) ⊎ HasThird w rows p n) rays) (λ n. Each (λ p. dot h n <ℤ pos 0 → pos 0 <ℤ dot h p → IsInCone w cut (meet h p n) ⊎ Splits w (h ∷ rows) (meet h p n)) rays) rays
    (λ n ln sn f. each_map3 (λ p. length p ≡ w) (Satisfies rows) (λ p. dot h n <ℤ pos 0 → pos 0 <ℤ dot h p → IsInCone w cut (meet h p n) ⊎ HasThird w rows p n) (λ p. dot h n <ℤ pos 0 → pos 0 <ℤ dot h p → IsInCone w cut (meet h p n) ⊎ Splits w (h ∷ rows) (meet h p n)) rays
    (λ p lp sp g un up. elim (g un up) [ inl i ↦ inl i | inr t ↦ inr (third_splits w h rows p n t.ray lp ln sp sn un up t.is) ]) d.ray_widths d.sound f) d.ray_widths d.sound c.pairs) in
    let whole = farkas_step w h rows rays full.cut lh d full.is in
    let in_cut : (x : Vector) → length x ≡ w → Satisfies (h ∷ rows) x → IsInCone w cut x =
    unsplit_generate w (h ∷ rows) full.cut cut pt (lh, d.row_widths) full.is.widths c.widths whole.sound (λ x lx sx. generated w (h ∷ rows) full.cut x whole lx sx) full.wanted in
    record {
      row_widths = (lh, d.row_widths);
      ray_widths = c.widths;
      sound = each_map (λ r. (pos 0 ≤ℤ dot h r) × Satisfies rows r) (Satisfies (h ∷ rows)) cut (λ r k. (k.0, k.1)) c.sound;
      farkas = λ y ly s. whole.farkas y ly (each_map2 (λ g. length g ≡ w) (Satisfies (h ∷ rows)) (λ g. pos 0 ≤ℤ dot g y) full.cut
          (λ g lg sg.
          let v = nonneg_on_cone y w cut g c.widths (each_map (λ r. pos 0 ≤ℤ dot r y) (λ r. pos 0 ≤ℤ dot y r) cut (λ r k. omega (arith, sums, k, dot_comm r y)) s) (in_cut g lg sg) in
          omega (arith, sums, v, dot_comm g y)) full.is.widths whole.sound);
    }
