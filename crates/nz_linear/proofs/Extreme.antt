-- The rays of a pointed cone that no other splits generate it.
use Rattle.std.proofs.Common.{◌≡◌, ℕ, zero, suc, ◌<◌, ◌≤◌, ◌⊎◌, inl, inr, List, [], ◌∷◌, length, ℤ, pos, negsuc, ◌+ℤ◌, ◌-ℤ◌, ◌*ℤ◌, neg_ℤ, ◌≤ℤ◌, ◌<ℤ◌, refl, sym, ap, ◌∙◌, subst, arith}
use Rattle.std.proofs.lemmas.Int.{ints, by_lt_z}
use Rattle.std.proofs.Math.IntN.{*ℤ-zero, zero-*ℤ}
use Rattle.std.specs.List.{AllByRecursion as Each, Contains}
use Rattle.nz_spec.specs.Vectors.{Vector, dot, plus, scaled, zero_vector, combination, HasWidth}
use Rattle.nz_spec.specs.Sums.{IsInCone}
use Rattle.nz_spec.proofs.SumLaws.{length-combination, IsInCone-plus, IsInCone-zero}
use Rattle.nz_spec.proofs.IntLaws.{mul-nonneg}
use Rattle.nz_spec.proofs.ListLaws.{Each-contains, contains_here, contains_there, contains_cases, contains_none}
use Rattle.nz_linear.specs.Cones.{Satisfies}
use Rattle.nz_linear.specs.Extreme.{VanishesWith, IsPointed, Splits, one_if_positive, positive_count}
use Rattle.nz_linear.proofs.Ring.{sums, ring_z, neg-mul}
use Rattle.nz_linear.proofs.Signs.{mul_pos, cancel_le, mul_is_zero, sign_cases}
use Rattle.nz_linear.proofs.Lists.{each_map, each_map2, each_map3}
use Rattle.nz_spec.proofs.VectorLaws.{dot-scaled, dot-zero, int_is_zero}
use Rattle.nz_linear.proofs.VectorLaws.{length-plus, length-scaled, dot-plus, same_values}
use Rattle.nz_linear.proofs.Combinations.{combination-skip}
use Rattle.nz_linear.proofs.Cones.{above_zero, cone_scaled, cone_divide}

-- ---- counts
count_step : (p q : ℤ) → pos 0 ≤ℤ p → pos 0 ≤ℤ q → (q ≡ pos 0 → p ≡ pos 0) → one_if_positive p ≤ one_if_positive q
count_step (pos zero) q h k f = omega arith
count_step (pos (suc m)) (pos zero) h k f = absurd (let e = f refl in omega (arith, sums))
count_step (pos (suc m)) (pos (suc n)) h k f = omega arith
count_step (pos (suc m)) (negsuc n) h k f = absurd (omega (arith, sums))
count_step (negsuc m) q h k f = absurd (omega (arith, sums))

count_le : (rows : List Vector) (v x : Vector) → Satisfies rows v → Satisfies rows x → VanishesWith rows v x → positive_count rows x ≤ positive_count rows v
count_le [] v x sv sx z = omega arith
count_le (a ∷ rows) v x sv sx z = omega (arith, count_step (dot a x) (dot a v) sx.0 sv.0 z.0, count_le rows v x sv.1 sx.1 z.1)

one_of : (q : ℤ) → pos 0 <ℤ q → one_if_positive q ≡ 1
one_of (pos zero) h = absurd (omega (arith, sums))
one_of (pos (suc n)) h = refl
one_of (negsuc n) h = absurd (omega (arith, sums))

count_less : (rows : List Vector) (v x r : Vector) → Satisfies rows v → Satisfies rows x → VanishesWith rows v x → Contains rows r → dot r x ≡ pos 0 → pos 0 <ℤ dot r v → positive_count rows x < positive_count rows v
count_less [] v x r sv sx z i e p = absurd (contains_none r i)
count_less (a ∷ rows) v x r sv sx z i e p = elim (contains_cases a rows r i) [
  | inl same ↦ (
      let zero_at : dot a x ≡ pos 0 = ap (λ t. dot t x) same ∙ e in
      let pos_at : pos 0 <ℤ dot a v = rw same p in
      omega (arith, ap one_if_positive zero_at, one_of (dot a v) pos_at, count_le rows v x sv.1 sx.1 z.1))
  | inr k ↦ omega (arith, count_step (dot a x) (dot a v) sx.0 sv.0 z.0, count_less rows v x r sv.1 sx.1 z.1 k e p)
]

-- ---- the row with the greatest quotient of g by v
record Greatest (g v : Vector) (rows : List Vector) : Type 0 where
  row : Vector
  among : Contains rows row
  up : pos 0 <ℤ dot row v
  best : Each (λ a. (dot a g *ℤ dot row v) ≤ℤ (dot row g *ℤ dot a v)) rows

-- pk/qk <= pi/qi <= pj/qj
ring_up : (pk qk pi qi pj qj : ℤ) → (qi *ℤ (pj *ℤ qk)) -ℤ (qi *ℤ (pk *ℤ qj)) ≡ qj *ℤ (pi *ℤ qk -ℤ pk *ℤ qi) +ℤ qk *ℤ (pj *ℤ qi -ℤ pi *ℤ qj)
ring_up pk qk pi qi pj qj = simp ring_z (omega (arith, sums))

better : (pk qk pi qi pj qj : ℤ) → pos 0 ≤ℤ qk → pos 0 <ℤ qi → pos 0 ≤ℤ qj → (pk *ℤ qi) ≤ℤ (pi *ℤ qk) → (pi *ℤ qj) ≤ℤ (pj *ℤ qi) → (pk *ℤ qj) ≤ℤ (pj *ℤ qk)
better pk qk pi qi pj qj hk hi hj a b =
    let l = mul-nonneg qj (pi *ℤ qk -ℤ pk *ℤ qi) hj (omega (arith, sums)) in
    let m = mul-nonneg qk (pj *ℤ qi -ℤ pi *ℤ qj) hk (omega (arith, sums)) in
    cancel_le qi (pk *ℤ qj) (pj *ℤ qk) hi (omega (arith, sums, ring_up pk qk pi qi pj qj, l, m))

none_here : (p q P Q : ℤ) → q ≡ pos 0 → p ≡ pos 0 → (p *ℤ Q) ≤ℤ (P *ℤ q)
none_here p q P Q e f = omega (arith, sums, ap (λ t. t *ℤ Q) f, ap (λ t. P *ℤ t) e, *ℤ-zero P, zero-*ℤ Q)

greatest : (g v : Vector) (rows : List Vector) → Satisfies rows v → VanishesWith rows v g → Each (λ a. dot a v ≡ pos 0) rows ⊎ Greatest g v rows
greatest g v [] s z = inl tt
greatest g v (a ∷ rows) s z = elim (int_is_zero (dot a v)) [
  | inl e ↦ elim (greatest g v rows s.1 z.1) [
    | inl all ↦ inl (e, all)
    | inr b ↦ inr (record { row = b.row; among = contains_there a b.row rows b.among; up = b.up; best = (none_here (dot a g) (dot a v) (dot b.row g) (dot b.row v) e (z.0 e), b.best) })
  ]
  | inr n ↦ (
      let up : pos 0 <ℤ dot a v = omega (arith, sums, s.0, n) in
      elim (greatest g v rows s.1 z.1) [
        | inl all ↦ inr (record {
          row = a;
          among = contains_here a rows;
          up = up;
          best = (
            omega (arith, sums),
            each_map2 (λ c. dot c v ≡ pos 0) (λ c. dot c v ≡ pos 0 → dot c g ≡ pos 0) (λ c. (dot c g *ℤ dot a v) ≤ℤ (dot a g *ℤ dot c v)) rows
                (λ c e f. none_here (dot c g) (dot c v) (dot a g) (dot a v) e (f e)) all z.1,
          );
        })
        | inr b ↦ by_lt_z (dot b.row g *ℤ dot a v) (dot a g *ℤ dot b.row v)
            (λ (more : (dot b.row g *ℤ dot a v) <ℤ (dot a g *ℤ dot b.row v)). inr (record {
              row = a;
              among = contains_here a rows;
              up = up;
              best = (
                omega (arith, sums),
                each_map2 (λ c. pos 0 ≤ℤ dot c v) (λ c. (dot c g *ℤ dot b.row v) ≤ℤ (dot b.row g *ℤ dot c v)) (λ c. (dot c g *ℤ dot a v) ≤ℤ (dot a g *ℤ dot c v)) rows
                    (λ c k f. better (dot c g) (dot c v) (dot b.row g) (dot b.row v) (dot a g) (dot a v) k b.up (omega (arith, sums)) f (omega (arith, sums))) s.1 b.best,
              );
            }))
            (λ (less : (dot a g *ℤ dot b.row v) ≤ℤ (dot b.row g *ℤ dot a v)). inr (record { row = b.row; among = contains_there a b.row rows b.among; up = b.up; best = (less, b.best) }))
      ])
]

-- the vector v, moved away from g until one more row vanishes
record Edge (w : ℕ) (rows : List Vector) (g v : Vector) : Type 0 where
  row : Vector
  among : Contains rows row
  up : pos 0 <ℤ dot row v
  point : Vector
  is : point ≡ plus (scaled (dot row g) v) (scaled (neg_ℤ (dot row v)) g)
  width : length point ≡ w
  inside : Satisfies rows point
  less : positive_count rows point < positive_count rows v

ring_edge : (p q P Q : ℤ) → P *ℤ q +ℤ neg_ℤ Q *ℤ p ≡ P *ℤ q -ℤ p *ℤ Q
ring_edge p q P Q = simp ring_z (omega (arith, sums))

edge : (w : ℕ) (rows : List Vector) (g v : Vector) → length g ≡ w → length v ≡ w → Satisfies rows v → VanishesWith rows v g → Greatest g v rows → Edge w rows g v
edge w rows g v lg lv sv z b =
    let r = b.row in
    let y = plus (scaled (dot r g) v) (scaled (neg_ℤ (dot r v)) g) in
    let value : (a : Vector) → dot a y ≡ dot r g *ℤ dot a v -ℤ dot a g *ℤ dot r v = λ a.
    dot-plus w a _ _ (length-scaled w (dot r g) v lv) (length-scaled w (neg_ℤ (dot r v)) g lg)
    ∙ omega (arith, sums, dot-scaled a (dot r g) v, dot-scaled a (neg_ℤ (dot r v)) g, ring_edge (dot a g) (dot a v) (dot r g) (dot r v)) in
    let s : Satisfies rows y = each_map (λ a. (dot a g *ℤ dot r v) ≤ℤ (dot r g *ℤ dot a v)) (λ a. pos 0 ≤ℤ dot a y) rows (λ a k. omega (arith, sums, k, value a)) b.best in
    let n : VanishesWith rows v y = each_map (λ a. dot a v ≡ pos 0 → dot a g ≡ pos 0) (λ a. dot a v ≡ pos 0 → dot a y ≡ pos 0) rows
    (λ a f e. value a ∙ omega (arith, sums, ap (λ t. dot r g *ℤ t) e, *ℤ-zero (dot r g), ap (λ t. t *ℤ dot r v) (f e), zero-*ℤ (dot r v))) z in
    let at_row : dot r y ≡ pos 0 = value r ∙ omega (arith, sums) in
    record {
      row = r;
      among = b.among;
      up = b.up;
      point = y;
      is = refl;
      width = length-plus w _ _ (length-scaled w (dot r g) v lv) (length-scaled w (neg_ℤ (dot r v)) g lg);
      inside = s;
      less = count_less rows v y r sv s n b.among at_row b.up;
    }

-- the two edges of a vector that is split: a positive multiple of it is their sum
ring_sum : (P Q R S v g : ℤ) → S *ℤ (P *ℤ v +ℤ neg_ℤ Q *ℤ g) +ℤ Q *ℤ (R *ℤ v +ℤ neg_ℤ S *ℤ (negsuc 0 *ℤ g)) ≡ (S *ℤ P +ℤ Q *ℤ R) *ℤ v
ring_sum P Q R S v g = let e : negsuc 0 *ℤ g ≡ neg_ℤ g = omega (arith, ints) in rw e (simp ring_z (omega (arith, sums)))

split_in : (w : ℕ) (rows : List Vector) (v : Vector) (E : List Vector) → IsPointed w rows → Each (HasWidth w) E → length v ≡ w → Satisfies rows v → (s : Splits w rows v)
    → ((y : Vector) → length y ≡ w → Satisfies rows y → positive_count rows y < positive_count rows v → IsInCone w E y) → IsInCone w E v
split_in w rows v E pt lE lv sv s below =
    let g = s.other in
    let h = scaled (negsuc 0) g in
    let lh : length h ≡ w = length-scaled w (negsuc 0) g s.width in
    let zh : VanishesWith rows v h = each_map (λ a. dot a v ≡ pos 0 → dot a g ≡ pos 0) (λ a. dot a v ≡ pos 0 → dot a h ≡ pos 0) rows (λ a f e. dot-scaled a (negsuc 0) g ∙ ap (λ t. negsuc 0 *ℤ t) (f e)) s.vanishes in
    -- v itself is zero: then it is in any cone
    let nothing : Each (λ a. dot a v ≡ pos 0) rows → IsInCone w E v = λ all. subst (IsInCone w E) (sym (pt v lv all)) (IsInCone-zero w E lE) in
    elim (greatest g v rows sv s.vanishes) [
      | inl all ↦ nothing all
      | inr b1 ↦ elim (greatest h v rows sv zh) [
        | inl all ↦ nothing all
        | inr b2 ↦ two g h (edge w rows g v s.width lv sv s.vanishes b1) (edge w rows h v lh lv sv zh b2) refl s.width lh s.apart
      ]
    ]
  where
    two : (g h : Vector) (p : Edge w rows g v) (q : Edge w rows h v) → h ≡ scaled (negsuc 0) g → length g ≡ w → length h ≡ w → ((m k : ℤ) → pos 0 <ℤ m → ¬ (scaled m g ≡ scaled k v)) → IsInCone w E v
    two g h p q eh lg lh apart =
        let P = dot p.row g in
        let Q = dot p.row v in
        let R = dot q.row h in
        let S = dot q.row v in
        let c = S *ℤ P +ℤ Q *ℤ R in
        let pvalue : (a : Vector) → dot a p.point ≡ P *ℤ dot a v +ℤ neg_ℤ Q *ℤ dot a g = λ a. ap (dot a) p.is ∙ dot-plus w a _ _ (length-scaled w P v lv) (length-scaled w (neg_ℤ Q) g lg) ∙ omega (arith, sums, dot-scaled a P v, dot-scaled a (neg_ℤ Q) g) in
        let qvalue : (a : Vector) → dot a q.point ≡ R *ℤ dot a v +ℤ neg_ℤ S *ℤ (negsuc 0 *ℤ dot a g) = λ a. ap (dot a) q.is ∙ dot-plus w a _ _ (length-scaled w R v lv) (length-scaled w (neg_ℤ S) h lh)
        ∙ omega (arith, sums, dot-scaled a R v, dot-scaled a (neg_ℤ S) h, ap (λ t. neg_ℤ S *ℤ dot a t) eh, ap (λ t. neg_ℤ S *ℤ t) (dot-scaled a (negsuc 0) g)) in
        let sum : (a : Vector) → S *ℤ dot a p.point +ℤ Q *ℤ dot a q.point ≡ c *ℤ dot a v = λ a. (λ t. S *ℤ pvalue a t +ℤ Q *ℤ qvalue a t) ∙ ring_sum P Q R S (dot a v) (dot a g) in
        let pQ : pos 0 ≤ℤ Q = omega (arith, sums, p.up) in
        let pS : pos 0 ≤ℤ S = omega (arith, sums, q.up) in
        elim (sign_cases c) [
          | inl none ↦ (
              let vanish : Each (λ a. dot a p.point ≡ pos 0) rows = each_map2 (λ a. pos 0 ≤ℤ dot a p.point) (λ a. pos 0 ≤ℤ dot a q.point) (λ a. dot a p.point ≡ pos 0) rows
              (λ a x y. mul_is_zero S (dot a p.point) q.up (omega (arith, sums, sum a, ap (λ t. t *ℤ dot a v) none, zero-*ℤ (dot a v), mul-nonneg S (dot a p.point) pS x, mul-nonneg Q (dot a q.point) pQ y))) p.inside q.inside in
              let is_zero : p.point ≡ zero_vector w = pt p.point p.width vanish in
              let same : scaled Q g ≡ scaled P v = same_values w (scaled Q g) (scaled P v) (length-scaled w Q g lg) (length-scaled w P v lv)
              (λ a. omega (arith, sums, pvalue a, ap (dot a) is_zero, dot-zero a w, dot-scaled a Q g, dot-scaled a P v, neg-mul Q (dot a g))) in
              absurd (apart Q P p.up same))
          | inr d ↦ elim d [
            | inl positive ↦ (
                let ip = below p.point p.width p.inside p.less in
                let iq = below q.point q.width q.inside q.less in
                let both = IsInCone-plus w E (scaled S p.point) (scaled Q q.point) (cone_scaled w E S p.point pS ip) (cone_scaled w E Q q.point pQ iq) in
                let same : plus (scaled S p.point) (scaled Q q.point) ≡ scaled c v = same_values w _ _ (length-plus w _ _ (length-scaled w S p.point p.width) (length-scaled w Q q.point q.width)) (length-scaled w c v lv)
                (λ a. dot-plus w a _ _ (length-scaled w S p.point p.width) (length-scaled w Q q.point q.width) ∙ omega (arith, sums, dot-scaled a S p.point, dot-scaled a Q q.point, dot-scaled a c v, sum a)) in
                cone_divide w E c v positive (subst (IsInCone w E) same both))
            | inr negative ↦ (
                let x = Each-contains (λ a. pos 0 ≤ℤ dot a p.point) rows p.row p.inside p.among in
                let y = Each-contains (λ a. pos 0 ≤ℤ dot a q.point) rows p.row q.inside p.among in
                let n : pos 0 <ℤ (neg_ℤ c *ℤ Q) = mul_pos (neg_ℤ c) Q (omega (arith, sums)) p.up in
                absurd (omega (arith, sums, sum p.row, mul-nonneg S (dot p.row p.point) pS x, mul-nonneg Q (dot p.row q.point) pQ y, n, neg-mul c Q)))
          ]
        ]

-- ---- all of the cone
pub combination_inside : (w : ℕ) (rows : List Vector) (cs : List ℤ) (gs : List Vector) → Each (λ c. pos 0 ≤ℤ c) cs → Each (HasWidth w) gs → Each (Satisfies rows) gs → Each (HasWidth w) rows → Satisfies rows (combination w cs gs)
combination_inside w rows [] gs n l s lr = each_map (λ a. length a ≡ w) (λ a. pos 0 ≤ℤ dot a (zero_vector w)) rows (λ a k. omega (arith, sums, dot-zero a w)) lr
combination_inside w rows (c ∷ cs) [] n l s lr = each_map (λ a. length a ≡ w) (λ a. pos 0 ≤ℤ dot a (zero_vector w)) rows (λ a k. omega (arith, sums, dot-zero a w)) lr
combination_inside w rows (c ∷ cs) (g ∷ gs) n l s lr =
    each_map2 (λ a. pos 0 ≤ℤ dot a g) (λ a. pos 0 ≤ℤ dot a (combination w cs gs)) (λ a. pos 0 ≤ℤ dot a (plus (scaled c g) (combination w cs gs))) rows
    (λ a x y. omega (arith, sums, dot-plus w a (scaled c g) (combination w cs gs) (length-scaled w c g l.0) (length-combination w cs gs l.1), dot-scaled a c g, mul-nonneg c (dot a g) n.0 x, y))
    s.0 (combination_inside w rows cs gs n.1 l.1 s.1 lr)

-- a sum of rays is in the cone of E if each ray is that vanishes wherever x and the sum do
collect : (w : ℕ) (rows E : List Vector) (x : Vector) (cs : List ℤ) (gs : List Vector) → Each (HasWidth w) rows → Each (HasWidth w) E → Each (λ c. pos 0 ≤ℤ c) cs → Each (HasWidth w) gs → Each (Satisfies rows) gs
    → Each (λ g. VanishesWith rows x g → IsInCone w E g) gs → VanishesWith rows x (combination w cs gs) → IsInCone w E (combination w cs gs)
collect w rows E x [] gs lr lE n l s each z = IsInCone-zero w E lE
collect w rows E x (c ∷ cs) [] lr lE n l s each z = IsInCone-zero w E lE
collect w rows E x (c ∷ cs) (g ∷ gs) lr lE n l s each z =
    let rest = combination_inside w rows cs gs n.1 l.1 s.1 lr in
    let value : (a : Vector) → dot a (plus (scaled c g) (combination w cs gs)) ≡ c *ℤ dot a g +ℤ dot a (combination w cs gs) = λ a.
    dot-plus w a (scaled c g) (combination w cs gs) (length-scaled w c g l.0) (length-combination w cs gs l.1) ∙ ap (λ t. t +ℤ dot a (combination w cs gs)) (dot-scaled a c g) in
    let zrest : VanishesWith rows x (combination w cs gs) = each_map3 (λ a. dot a x ≡ pos 0 → dot a (plus (scaled c g) (combination w cs gs)) ≡ pos 0) (λ a. pos 0 ≤ℤ dot a g) (λ a. pos 0 ≤ℤ dot a (combination w cs gs)) (λ a. dot a x ≡ pos 0 → dot a (combination w cs gs) ≡ pos 0) rows
    (λ a f p q e. omega (arith, sums, value a, f e, mul-nonneg c (dot a g) n.0 p, q)) z s.0 rest in
    let tail = collect w rows E x cs gs lr lE n.1 l.1 s.1 each.1 zrest in
    elim (int_is_zero c) [
      | inl e ↦ subst (λ (k : ℤ). IsInCone w E (plus (scaled k g) (combination w cs gs))) (sym e) (subst (IsInCone w E) (sym (combination-skip w cs g gs l.0 l.1)) tail)
      | inr d ↦ (
          let up : pos 0 <ℤ c = omega (arith, sums, n.0, d) in
          let zg : VanishesWith rows x g = each_map3 (λ a. dot a x ≡ pos 0 → dot a (plus (scaled c g) (combination w cs gs)) ≡ pos 0) (λ a. pos 0 ≤ℤ dot a g) (λ a. pos 0 ≤ℤ dot a (combination w cs gs)) (λ a. dot a x ≡ pos 0 → dot a g ≡ pos 0) rows
          (λ a f p q e. mul_is_zero c (dot a g) up (omega (arith, sums, value a, f e, mul-nonneg c (dot a g) n.0 p, q))) z s.0 rest in
          IsInCone-plus w E (scaled c g) (combination w cs gs) (cone_scaled w E c g n.0 (each.0 zg)) tail)
    ]

pub vanishes_multiple : (rows : List Vector) (m : ℤ) (x y : Vector) → scaled m x ≡ y → Each (λ a. pos 0 ≤ℤ dot a x) rows → VanishesWith rows x y
vanishes_multiple rows m x y e s = each_map (λ a. pos 0 ≤ℤ dot a x) (λ a. dot a x ≡ pos 0 → dot a y ≡ pos 0) rows (λ a k z. ap (dot a) (sym e) ∙ dot-scaled a m x ∙ ap (λ t. m *ℤ t) z ∙ *ℤ-zero m) s

step : (w : ℕ) (rows gens E : List Vector) → IsPointed w rows → Each (HasWidth w) rows → Each (HasWidth w) gens → Each (HasWidth w) E → Each (Satisfies rows) gens
    → ((x : Vector) → length x ≡ w → Satisfies rows x → IsInCone w gens x) → Each (λ g. IsInCone w E g ⊎ Splits w rows g) gens
    → (n : ℕ) → ((y : Vector) → length y ≡ w → Satisfies rows y → positive_count rows y < n → IsInCone w E y)
    → (x : Vector) → length x ≡ w → Satisfies rows x → positive_count rows x ≤ n → IsInCone w E x
step w rows gens E pt lr lg lE sg gen each_of n below x lx sx small =
    let i = gen x lx sx in
    let each : Each (λ g. VanishesWith rows x g → IsInCone w E g) gens = each_map3 (λ g. length g ≡ w) (Satisfies rows) (λ g. IsInCone w E g ⊎ Splits w rows g) (λ g. VanishesWith rows x g → IsInCone w E g) gens
    (λ g l s d z. elim d [
      | inl in_E ↦ in_E
      | inr sp ↦ split_in w rows g E pt lE l s sp (λ y ly sy less. below y ly sy (omega (arith, less, small, count_le rows x g sx s z)))
    ]) lg sg each_of in
    let sum = collect w rows E x i.factors gens lr lE i.each lg sg each (vanishes_multiple rows i.multiple x (combination w i.factors gens) (sym i.same) sx) in
    cone_divide w E i.multiple x (above_zero i.multiple i.positive) (subst (IsInCone w E) i.same sum)

all_in : (w : ℕ) (rows gens E : List Vector) → IsPointed w rows → Each (HasWidth w) rows → Each (HasWidth w) gens → Each (HasWidth w) E → Each (Satisfies rows) gens
    → ((x : Vector) → length x ≡ w → Satisfies rows x → IsInCone w gens x) → Each (λ g. IsInCone w E g ⊎ Splits w rows g) gens
    → (n : ℕ) (x : Vector) → length x ≡ w → Satisfies rows x → positive_count rows x < n → IsInCone w E x
all_in w rows gens E pt lr lg lE sg gen each_of zero x lx sx small = absurd (omega arith)
all_in w rows gens E pt lr lg lE sg gen each_of (suc n) x lx sx small = step w rows gens E pt lr lg lE sg gen each_of n (all_in w rows gens E pt lr lg lE sg gen each_of n) x lx sx (omega arith)

-- a pointed cone that gens generate is generated by E too, if each of gens is in the cone of E or is split
pub unsplit_generate : (w : ℕ) (rows gens E : List Vector) → IsPointed w rows → Each (HasWidth w) rows → Each (HasWidth w) gens → Each (HasWidth w) E → Each (Satisfies rows) gens
    → ((x : Vector) → length x ≡ w → Satisfies rows x → IsInCone w gens x) → Each (λ g. IsInCone w E g ⊎ Splits w rows g) gens
    → (x : Vector) → length x ≡ w → Satisfies rows x → IsInCone w E x
unsplit_generate w rows gens E pt lr lg lE sg gen each_of x lx sx = all_in w rows gens E pt lr lg lE sg gen each_of (suc (positive_count rows x)) x lx sx (omega arith)
