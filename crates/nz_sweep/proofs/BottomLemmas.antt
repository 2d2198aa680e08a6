-- Forms from the bottom, step by step, and what they are at the end.
use Rattle.std.proofs.Common.{◌≡◌, ◌≢◌, ◌⊎◌, inl, inr, ℕ, zero, suc, ◌+◌, ◌<◌, ◌≤◌, List, [], ◌∷◌, ◌++◌, length, get_or, take, ℤ, pos, negsuc, ◌+ℤ◌, ◌-ℤ◌, ◌*ℤ◌, ◌<ℤ◌, refl, sym, ap, ap₂, ◌∙◌, subst, arith, length-append}
use Rattle.std.specs.List.{AllByRecursion as Each, AllZip}
use Rattle.std.proofs.lemmas.Int.{ints}
use Rattle.std.proofs.lemmas.Bool.{cases_lt}
use Rattle.std.proofs.lemmas.List.{take_more, take_all}
use Rattle.std.proofs.Math.IntN.{*ℤ-zero, zero-*ℤ, *ℤ_comm}
use Rattle.nz_spec.specs.Vectors.{Vector, dot, plus, scaled, entry, HasWidth, IsMultipleOf}
use Rattle.nz_spec.specs.Order.{Pairwise}
use Rattle.nz_spec.specs.Forms.{LeadsAt}
use Rattle.nz_spec.proofs.IntLaws.{mul_assoc, multiple_add, multiple_mul, multiple_sub}
use Rattle.nz_spec.proofs.VectorLaws.{dot-scaled}
use Rattle.nz_spec.proofs.EquationLaws.{dot_at_lead, entry_at_lead, entry-scaled}
use Rattle.nz_scalar.specs.Division.{HasGcd, IsFloorQuotient}
use Rattle.nz_linear.specs.Echelon.{unit_at}
use Rattle.nz_linear.proofs.Ring.{sums, ring_z, one-mul}
use Rattle.nz_linear.proofs.Signs.{mul_pos, mul_is_pos, mul_is_zero, cancel_mul}
use Rattle.nz_linear.proofs.VectorLaws.{length-plus, length-scaled, dot-plus, plus-dot, scaled-dot}
use Rattle.nz_linear.proofs.Units.{length-unit_at, unit_at-dot, entry-unit_own, entry-unit_other, entry_sum}
use Rattle.nz_linear.proofs.Division.{unit_value}
use Rattle.nz_sweep.specs.Duals.{Coordinate, coordinate_at, vector_at, AreDual}
use Rattle.nz_sweep.specs.Generating.{AreLeading}
use Rattle.nz_sweep.specs.Bottom.{column_at, AreLeastFactors, IsClearedOf, IsFromBottom, IsDualAt, AreDualEach}
use Rattle.nz_sweep.proofs.PlaceLemmas.{zip_at}
use Rattle.nz_sweep.proofs.BaseLemmas.{each_at}
use Rattle.nz_sweep.proofs.LowerLemmas.{divisor_above, exact_of}

-- ---- leading columns
pub zip_lengths : {A B : Type 0} (R : A → B → Type 0) (xs : List A) (ys : List B) → AllZip R xs ys → length xs ≡ length ys
zip_lengths R [] [] z = refl
zip_lengths R [] (y ∷ ys) z = absurd z
zip_lengths R (x ∷ xs) [] z = absurd z
zip_lengths R (x ∷ xs) (y ∷ ys) z = ap suc (zip_lengths R xs ys z.1)

-- the entries before the first nonzero one
pub lead_zero : (v : Vector) (j k : ℕ) → LeadsAt j v → k < j → entry v k ≡ pos 0
lead_zero [] j k l h = absurd l
lead_zero (a ∷ v) zero k l h = absurd (omega (arith, h))
lead_zero (a ∷ v) (suc j) zero l h = l.0
lead_zero (a ∷ v) (suc j) (suc k) l h = lead_zero v j k l.1 (omega (arith, h))

pub lead_within : (v : Vector) (j : ℕ) → LeadsAt j v → j < length v
lead_within [] j l = absurd l
lead_within (a ∷ v) zero l = omega arith
lead_within (a ∷ v) (suc j) l = let h = lead_within v j l.1 in omega (arith, h)

pub increasing : (columns : List ℕ) (i j : ℕ) → Pairwise ◌<◌ columns → i < j → j < length columns → column_at columns i < column_at columns j
increasing [] i j p l h = absurd (omega (arith, h))
increasing (c ∷ cs) zero zero p l h = absurd (omega (arith, l))
increasing (c ∷ cs) zero (suc j) p l h = each_at (λ k. c < k) 0 cs j p.0 (omega (arith, h))
increasing (c ∷ cs) (suc i) zero p l h = absurd (omega (arith, l))
increasing (c ∷ cs) (suc i) (suc j) p l h = increasing cs i j p.1 (omega (arith, l)) (omega (arith, h))

pub lead_at : (columns : List ℕ) (vs : List Vector) (i : ℕ) → AreLeading columns vs → i < length vs → LeadsAt (column_at columns i) (vector_at vs i)
lead_at columns vs i a l = let n = zip_lengths LeadsAt columns vs a.each in zip_at LeadsAt 0 [] columns vs i a.each (omega (arith, n, l))

pub leads_later : (columns : List ℕ) (vs : List Vector) (i j : ℕ) → AreLeading columns vs → i < j → j < length vs → column_at columns i < column_at columns j
leads_later columns vs i j a l h = let n = zip_lengths LeadsAt columns vs a.each in increasing columns i j a.in_order l (omega (arith, n, h))

pub column_within : (w : ℕ) (columns : List ℕ) (vs : List Vector) (i : ℕ) → Each (HasWidth w) vs → AreLeading columns vs → i < length vs → column_at columns i < w
column_within w columns vs i l a h =
    let b = lead_within (vector_at vs i) (column_at columns i) (lead_at columns vs i a h) in
    let e = each_at (HasWidth w) [] vs i l h in
    omega (arith, b, e)

-- ---- the factors
-- what divides each entry divides each value
pub dot_multiple : (d : ℤ) (u x : Vector) → Each (IsMultipleOf d) x → IsMultipleOf d (dot u x)
dot_multiple d [] x h = (pos 0, sym (zero-*ℤ d))
dot_multiple d (a ∷ u) [] h = (pos 0, sym (zero-*ℤ d))
dot_multiple d (a ∷ u) (b ∷ x) h = multiple_add d (a *ℤ b) (dot u x) (multiple_mul d a b h.0) (dot_multiple d u x h.1)

-- 1 or -1
abbrev pub IsSign : ℤ → Type 0
IsSign s = (s ≡ pos 1) ⊎ (s ≡ negsuc 0)

square_one : (s : ℤ) → IsSign s → s *ℤ s ≡ pos 1
square_one s h = elim h [ inl e ↦ ap (λ t. t *ℤ t) e | inr e ↦ ap (λ t. t *ℤ t) e ]

-- what divides a number up to its sign divides it
unsigned_multiple : (k s a : ℤ) → IsSign s → IsMultipleOf k (s *ℤ a) → IsMultipleOf k a
unsigned_multiple k s a h m = subst (IsMultipleOf k) (sym (mul_assoc s s a) ∙ ap (λ t. t *ℤ a) (square_one s h) ∙ one-mul a) (multiple_mul k s (s *ℤ a) m)

-- v where g times t is v up to its sign
pub quotient_multiple : (k g t s v : ℤ) → IsSign s → g *ℤ t ≡ s *ℤ v → IsMultipleOf k t → IsMultipleOf (k *ℤ g) v
quotient_multiple k g t s v h e m = unsigned_multiple (k *ℤ g) s v h (m.0, sym e ∙ ap (λ u. g *ℤ u) m.1 ∙ turn g m.0 k)
  where
    turn : (g n k : ℤ) → g *ℤ (n *ℤ k) ≡ n *ℤ (k *ℤ g)
    turn g n k = simp ring_z (omega (arith, sums))

pub least_factors_of : (v p g s a t b : ℤ) → HasGcd (v ∷ p ∷ []) g → IsSign s → pos 0 <ℤ (s *ℤ p) → g *ℤ a ≡ s *ℤ p → g *ℤ t ≡ s *ℤ v → b ≡ pos 0 -ℤ t → AreLeastFactors v p a b
least_factors_of v p g s a t b h sg pp ea et eb =
    let pg : pos 0 <ℤ g = divisor_above g (s *ℤ p) h.nonneg pp (multiple_mul g s p h.divides.1.0) in
    record {
      positive = mul_is_pos g a pg (subst (λ (x : ℤ). pos 0 <ℤ x) (sym ea) pp);
      zero = mul_is_zero g (a *ℤ v +ℤ b *ℤ p) pg (ap (λ x. g *ℤ (a *ℤ v +ℤ x *ℤ p)) eb ∙ apart g a t v p ∙ ap₂ (λ x y. x *ℤ v -ℤ y *ℤ p) ea et ∙ cancels s p v);
      least = λ k ka kb.
          let kt : IsMultipleOf k t = subst (IsMultipleOf k) (omega (arith, ints, eb)) (multiple_sub k (pos 0) b (pos 0, sym (zero-*ℤ k)) kb) in
          let m = h.greatest (k *ℤ g) (quotient_multiple k g t s v sg et kt, (quotient_multiple k g a s p sg ea ka, tt)) in
          (m.0, cancel_mul g (pos 1) (m.0 *ℤ k) pg (whole g ∙ m.1 ∙ turn m.0 k g));
    }
  where
    apart : (g a t v p : ℤ) → g *ℤ (a *ℤ v +ℤ (pos 0 -ℤ t) *ℤ p) ≡ (g *ℤ a) *ℤ v -ℤ (g *ℤ t) *ℤ p
    apart g a t v p = simp ring_z (omega (arith, sums))

    cancels : (s p v : ℤ) → (s *ℤ p) *ℤ v -ℤ (s *ℤ v) *ℤ p ≡ pos 0
    cancels s p v = simp ring_z (omega (arith, sums))

    whole : (g : ℤ) → g *ℤ pos 1 ≡ g
    whole g = *ℤ_comm g (pos 1) ∙ one-mul g

    turn : (m k g : ℤ) → m *ℤ (k *ℤ g) ≡ g *ℤ (m *ℤ k)
    turn m k g = simp ring_z (omega (arith, sums))

-- ---- one step
pub cleared_of : (w c : ℕ) (v f g : Vector) (a b : ℤ) → HasWidth w f → HasWidth w v → c < w → entry f c ≡ pos 0 → AreLeastFactors (dot f v) (entry v c) a b → g ≡ plus (scaled a f) (scaled b (unit_at w c)) → IsClearedOf w c v f g
cleared_of w c v f g a b lf lv lc z k e = record {
  factor = a;
  own = b;
  positive = k.positive;
  same = e;
  zero = ap (λ t. dot t v) e ∙ plus-dot w (scaled a f) (scaled b u) v la lb ∙ ap₂ ◌+ℤ◌ (scaled-dot a f v) (scaled-dot b u v ∙ ap (λ t. b *ℤ t) (unit_at-dot w c v lv)) ∙ k.zero;
  primitive = λ p d h.
      let q = unit_value f p in
      let db : IsMultipleOf d b = subst (IsMultipleOf d) at_unit (dot_multiple d u g h) in
      let both : IsMultipleOf d (a +ℤ b *ℤ dot q.form u) = subst (IsMultipleOf d) (value q.form ∙ ap (λ t. a *ℤ t +ℤ b *ℤ dot q.form u) q.one ∙ ap (λ t. t +ℤ b *ℤ dot q.form u) (*ℤ_comm a (pos 1) ∙ one-mul a)) (dot_multiple d q.form g h) in
      let da : IsMultipleOf d a = subst (IsMultipleOf d) (less a (b *ℤ dot q.form u)) (multiple_sub d (a +ℤ b *ℤ dot q.form u) (b *ℤ dot q.form u) both (subst (IsMultipleOf d) (*ℤ_comm (dot q.form u) b) (multiple_mul d (dot q.form u) b db))) in
      k.least d da db;
}
  where
    u : Vector
    u = unit_at w c

    la : length (scaled a f) ≡ w
    la = length-scaled w a f lf

    lb : length (scaled b u) ≡ w
    lb = length-scaled w b u (length-unit_at w c)

    value : (h : Vector) → dot h g ≡ a *ℤ dot h f +ℤ b *ℤ dot h u
    value h = ap (dot h) e ∙ dot-plus w h (scaled a f) (scaled b u) la lb ∙ ap₂ ◌+ℤ◌ (dot-scaled h a f) (dot-scaled h b u)

    ones : (a b : ℤ) → a *ℤ pos 0 +ℤ b *ℤ pos 1 ≡ b
    ones a b = simp ring_z (omega (arith, sums))

    at_unit : dot u g ≡ b
    at_unit = value u ∙ ap₂ (λ x y. a *ℤ x +ℤ b *ℤ y) (unit_at-dot w c f lf ∙ z) (unit_at-dot w c u (length-unit_at w c) ∙ entry-unit_own w c lc) ∙ ones a b

    less : (x y : ℤ) → (x +ℤ y) -ℤ y ≡ x
    less x y = omega (arith, ints)

-- outside the column the entries are multiples of those before
pub cleared_entry : (w c : ℕ) (v f g : Vector) (k : IsClearedOf w c v f g) → HasWidth w f → (j : ℕ) → j ≢ c → entry g j ≡ k.factor *ℤ entry f j
cleared_entry w c v f g k l j n =
    ap (λ t. entry t j) k.same ∙ entry_sum w k.factor f (scaled k.own u) j l (length-scaled w k.own u (length-unit_at w c)) ∙ ap (λ t. k.factor *ℤ entry f j +ℤ t) (entry-scaled k.own u j ∙ ap (λ t. k.own *ℤ t) (entry-unit_other w c j (λ e. n (sym e))) ∙ *ℤ-zero k.own) ∙ omega (arith, ints)
  where
    u : Vector
    u = unit_at w c

-- ---- all steps
pub bottom_start : (w : ℕ) (columns : List ℕ) (vs : List Vector) (c n : ℕ) (s : ℤ) → c < w → IsSign s → IsFromBottom w columns vs c s n n (scaled s (unit_at w c))
bottom_start w columns vs c n s l h = record {
  width = length-scaled w s (unit_at w c) (length-unit_at w c);
  primitive = λ d k. unsigned_multiple d s (pos 1) h (subst (IsMultipleOf d) (unit_at-dot w c (scaled s (unit_at w c)) (length-scaled w s (unit_at w c) (length-unit_at w c)) ∙ own) (dot_multiple d (unit_at w c) (scaled s (unit_at w c)) k));
  sign = subst (λ (t : ℤ). pos 0 <ℤ t) (sym (ap (λ t. s *ℤ t) (own ∙ *ℤ_comm s (pos 1) ∙ one-mul s) ∙ square_one s h)) (omega arith);
  after = λ k m. other k (λ e. omega (arith, e, m));
  zero_at = λ k n o. other k n;
  zero_on = λ i a b. absurd (omega (arith, a, b));
}
  where
    own : entry (scaled s (unit_at w c)) c ≡ s *ℤ pos 1
    own = entry-scaled s (unit_at w c) c ∙ ap (λ t. s *ℤ t) (entry-unit_own w c l)

    other : (k : ℕ) → k ≢ c → entry (scaled s (unit_at w c)) k ≡ pos 0
    other k n = entry-scaled s (unit_at w c) k ∙ ap (λ t. s *ℤ t) (entry-unit_other w c k (λ e. n (sym e))) ∙ *ℤ-zero s

module _ (w : ℕ) (columns : List ℕ) (vs : List Vector) (c : ℕ) (s : ℤ) (first end : ℕ) (wide : Each (HasWidth w) vs) (a : AreLeading columns vs) (inside : end ≤ length vs) (l : first < end) (before : (i : ℕ) → i < end → column_at columns i < c) where
  -- the column of the next vector is not used so far
  pub next_is_zero : (f : Vector) → IsFromBottom w columns vs c s (suc first) end f → entry f (column_at columns first) ≡ pos 0
  next_is_zero f b =
      let p = before first l in
      b.zero_at (column_at columns first) (λ e. omega (arith, e, p)) (λ i m h e. let q = leads_later columns vs first i a (omega (arith, m)) (omega (arith, h, inside)) in omega (arith, e, q))

  pub bottom_step : (f g : Vector) → IsFromBottom w columns vs c s (suc first) end f → IsClearedOf w (column_at columns first) (vector_at vs first) f g → IsFromBottom w columns vs c s first end g
  bottom_step f g b k = record {
    width = ap length k.same ∙ length-plus w (scaled k.factor f) (scaled k.own u) la lb;
    primitive = k.primitive b.primitive;
    sign = subst (λ (t : ℤ). pos 0 <ℤ t) (sym (ap (λ t. s *ℤ t) (other c (λ e. let q = before first l in omega (arith, e, q))) ∙ turn s k.factor (entry f c))) (mul_pos k.factor (s *ℤ entry f c) k.positive b.sign);
    after = λ j m. other j (λ e. let q = before first l in omega (arith, e, q, m)) ∙ ap (λ t. k.factor *ℤ t) (b.after j m) ∙ *ℤ-zero k.factor;
    zero_at = λ j n o. other j (o first (omega arith) l) ∙ ap (λ t. k.factor *ℤ t) (b.zero_at j n (λ i m h. o i (omega (arith, m)) h)) ∙ *ℤ-zero k.factor;
    zero_on = on;
  }
    where
      u : Vector
      u = unit_at w (column_at columns first)

      la : length (scaled k.factor f) ≡ w
      la = length-scaled w k.factor f b.width

      lb : length (scaled k.own u) ≡ w
      lb = length-scaled w k.own u (length-unit_at w (column_at columns first))

      other : (j : ℕ) → j ≢ column_at columns first → entry g j ≡ k.factor *ℤ entry f j
      other = cleared_entry w (column_at columns first) (vector_at vs first) f g k b.width

      turn : (s a e : ℤ) → s *ℤ (a *ℤ e) ≡ a *ℤ (s *ℤ e)
      turn s a e = simp ring_z (omega (arith, sums))

      later : (i : ℕ) → first < i → i < end → dot g (vector_at vs i) ≡ pos 0
      later i m h =
          let v = vector_at vs i in
          let lv : HasWidth w v = each_at (HasWidth w) [] vs i wide (omega (arith, h, inside)) in
          let z = lead_zero v (column_at columns i) (column_at columns first) (lead_at columns vs i a (omega (arith, h, inside))) (leads_later columns vs first i a m (omega (arith, h, inside))) in
          ap (λ t. dot t v) k.same ∙ plus-dot w (scaled k.factor f) (scaled k.own u) v la lb ∙ ap₂ ◌+ℤ◌ (scaled-dot k.factor f v ∙ ap (λ t. k.factor *ℤ t) (b.zero_on i (omega (arith, m)) h) ∙ *ℤ-zero k.factor) (scaled-dot k.own u v ∙ ap (λ t. k.own *ℤ t) (unit_at-dot w (column_at columns first) v lv ∙ z) ∙ *ℤ-zero k.own)

      on : (i : ℕ) → first ≤ i → i < end → dot g (vector_at vs i) ≡ pos 0
      on i m h = elim (cases_lt first i) [
        | inl q ↦ later i q h
        | inr q ↦ (let e : first ≡ i = omega (arith, m, q) in subst (λ (j : ℕ). dot g (vector_at vs j) ≡ pos 0) e k.zero)
      ]

-- with the sign of another number
pub bottom_signed : (w : ℕ) (columns : List ℕ) (vs : List Vector) (c : ℕ) (s p : ℤ) (first end : ℕ) (f : Vector) → IsSign s → pos 0 <ℤ (s *ℤ p) → IsFromBottom w columns vs c s first end f → IsFromBottom w columns vs c p first end f
bottom_signed w columns vs c s p first end f h q b = record {
  width = b.width;
  primitive = b.primitive;
  sign = subst (λ (t : ℤ). pos 0 <ℤ t) (turn s p (entry f c) ∙ ap (λ t. t *ℤ (p *ℤ entry f c)) (square_one s h) ∙ one-mul (p *ℤ entry f c)) (mul_pos (s *ℤ p) (s *ℤ entry f c) q b.sign);
  after = b.after;
  zero_at = b.zero_at;
  zero_on = b.zero_on;
}
  where
    turn : (s p e : ℤ) → (s *ℤ p) *ℤ (s *ℤ e) ≡ (s *ℤ s) *ℤ (p *ℤ e)
    turn s p e = simp ring_z (omega (arith, sums))

-- ---- the dual forms
-- a form from the bottom is 0 at the vectors that lead after its column
pub zero_behind : (w : ℕ) (columns : List ℕ) (vs : List Vector) (c : ℕ) (s : ℤ) (first end : ℕ) (f : Vector) (j : ℕ) → AreLeading columns vs → IsFromBottom w columns vs c s first end f → j < length vs → c < column_at columns j → dot f (vector_at vs j) ≡ pos 0
zero_behind w columns vs c s first end f j a b l h =
    dot_at_lead f (vector_at vs j) (column_at columns j) (lead_at columns vs j a l) (λ k m. b.after k (omega (arith, m, h))) ∙ ap (λ t. t *ℤ entry (vector_at vs j) (column_at columns j)) (b.after (column_at columns j) h) ∙ zero-*ℤ (entry (vector_at vs j) (column_at columns j))

pub divisor_positive : (w : ℕ) (columns : List ℕ) (vs : List Vector) (i : ℕ) (c : Coordinate) → AreLeading columns vs → i < length vs → IsDualAt w columns vs i c → pos 0 <ℤ c.divisor
divisor_positive w columns vs i c a l d =
    let p = entry (vector_at vs i) (column_at columns i) in
    subst (λ (t : ℤ). pos 0 <ℤ t) (sym (d.divisor ∙ dot_at_lead c.form (vector_at vs i) (column_at columns i) (lead_at columns vs i a l) d.form.after ∙ *ℤ_comm (entry c.form (column_at columns i)) p)) d.form.sign

pub dual_apart : (w : ℕ) (columns : List ℕ) (vs : List Vector) (i j : ℕ) (c : Coordinate) → AreLeading columns vs → i < length vs → j < length vs → i ≢ j → IsDualAt w columns vs i c → dot c.form (vector_at vs j) ≡ pos 0
dual_apart w columns vs i j c a li lj n d = elim (cases_lt j i) [
  | inl q ↦ d.form.zero_on j (omega arith) q
  | inr q ↦ zero_behind w columns vs (column_at columns i) (entry (vector_at vs i) (column_at columns i)) 0 i c.form j a d.form lj (leads_later columns vs i j a (different q) lj)
]
  where
    different : i ≤ j → i < j
    different q = elim (cases_lt i j) [ inl h ↦ h | inr h ↦ absurd (n (omega (arith, h, q))) ]

pub dual_of_each : (w : ℕ) (columns : List ℕ) (vs : List Vector) (cs : List Coordinate) → Each (HasWidth w) vs → AreLeading columns vs → AreDualEach w columns vs cs → AreDual w vs cs
dual_of_each w columns vs cs wide a d = record {
  one_each = d.one_each;
  vector_width = λ i l. each_at (HasWidth w) [] vs i wide l;
  form_width = λ i l. (d.each i l).form.width;
  positive = λ i l. divisor_positive w columns vs i (coordinate_at cs i) a l (d.each i l);
  own = λ i l. sym (d.each i l).divisor;
  apart = λ i j li lj n. dual_apart w columns vs i j (coordinate_at cs i) a li lj n (d.each i li);
}

-- ---- as the code has them
default_same : {A : Type 0} (d e : A) (xs : List A) (i : ℕ) → i < length xs → get_or xs i d ≡ get_or xs i e
default_same d e [] i l = absurd (omega (arith, l))
default_same d e (x ∷ xs) zero l = refl
default_same d e (x ∷ xs) (suc i) l = default_same d e xs i (omega (arith, l))

pub vector_is : (vs : List Vector) (i : ℕ) (v : Vector) → i < length vs → v ≡ get_or vs i v → v ≡ vector_at vs i
vector_is vs i v l e = e ∙ default_same v [] vs i l

pub column_is : (columns : List ℕ) (i c : ℕ) → i < length columns → c ≡ get_or columns i c → c ≡ column_at columns i
column_is columns i c l e = e ∙ default_same c 0 columns i l

-- the first nonzero entry is found
pub lead_found : (v : Vector) (i : ℕ) (x : ℤ) → ((k : ℕ) → k < i → entry v k ≡ pos 0) → x ≡ entry v i → x ≢ pos 0 → (j : ℕ) → LeadsAt j v → i ≡ j
lead_found v i x z e n j l = elim (cases_lt i j) [
  | inl q ↦ absurd (n (e ∙ lead_zero v j i l q))
  | inr q ↦ elim (cases_lt j i) [
    | inl r ↦ absurd (entry_at_lead v j l (z j r))
    | inr r ↦ omega (arith, q, r)
  ]
]

pub lead_none : (v : Vector) (i : ℕ) → length v ≤ i → ((k : ℕ) → k < i → entry v k ≡ pos 0) → (j : ℕ) → LeadsAt j v → length v ≡ j
lead_none v i h z j l = absurd (let k = lead_within v j l in entry_at_lead v j l (z j (omega (arith, k, h))))

-- one leading column more
pub columns_more : (columns : List ℕ) (vs : List Vector) (es fs : List ℕ) (i : ℕ) (v : Vector) (r : ℕ) → i < length vs → v ≡ get_or vs i v → AllZip LeadsAt columns vs → es ≡ take i columns → ((j : ℕ) → LeadsAt j v → r ≡ j) → fs ≡ es ++ (r ∷ []) → fs ≡ take (i + 1) columns
columns_more columns vs es fs i v r l e z s h f =
    let n = zip_lengths LeadsAt columns vs z in
    let k : i < length columns = omega (arith, n, l) in
    let m : LeadsAt (column_at columns i) v = subst (LeadsAt (column_at columns i)) (sym (vector_is vs i v l e)) (zip_at LeadsAt 0 [] columns vs i z k) in
    f ∙ ap (λ t. t ++ (r ∷ [])) s ∙ ap (λ t. take i columns ++ (t ∷ [])) (h (column_at columns i) m) ∙ sym (take_more columns i 0 k)

pub columns_all : (columns : List ℕ) (vs : List Vector) (i : ℕ) → length vs ≤ i → AllZip LeadsAt columns vs → take i columns ≡ columns
columns_all columns vs i l z = let n = zip_lengths LeadsAt columns vs z in take_all i columns (omega (arith, n, l))

-- one dual form more
at_end : {A : Type 0} (d : A) (xs : List A) (x : A) → get_or (xs ++ (x ∷ [])) (length xs) d ≡ x
at_end d [] x = refl
at_end d (y ∷ xs) x = at_end d xs x

at_front : {A : Type 0} (d : A) (xs : List A) (x : A) (i : ℕ) → i < length xs → get_or (xs ++ (x ∷ [])) i d ≡ get_or xs i d
at_front d [] x i l = absurd (omega (arith, l))
at_front d (y ∷ xs) x zero l = refl
at_front d (y ∷ xs) x (suc i) l = at_front d xs x i (omega (arith, l))

pub duals_more : (w : ℕ) (columns : List ℕ) (vs : List Vector) (es fs : List Coordinate) (n : ℕ) (c : Coordinate) → length es ≡ n → ((i : ℕ) → i < n → IsDualAt w columns vs i (coordinate_at es i)) → IsDualAt w columns vs n c → fs ≡ es ++ (c ∷ []) → (i : ℕ) → i < n + 1 → IsDualAt w columns vs i (coordinate_at fs i)
duals_more w columns vs es fs n c e h d f i l = elim (cases_lt i n) [
  | inl q ↦ subst (IsDualAt w columns vs i) (sym (ap (λ t. coordinate_at t i) f ∙ at_front (record { form = []; divisor = pos 0 }) es c i (omega (arith, e, q)))) (h i q)
  | inr q ↦ (let s : n ≡ i = omega (arith, q, l) in subst (λ (j : ℕ). IsDualAt w columns vs j (coordinate_at fs j)) s (subst (IsDualAt w columns vs n) (sym (ap (λ t. coordinate_at t n) f ∙ own)) d))
]
  where
    own : coordinate_at (es ++ (c ∷ [])) n ≡ c
    own = ap (coordinate_at (es ++ (c ∷ []))) (sym e) ∙ at_end (record { form = []; divisor = pos 0 }) es c

pub pushed_length : {A : Type 0} (es fs : List A) (n : ℕ) (c : A) → length es ≡ n → fs ≡ es ++ (c ∷ []) → length fs ≡ n + 1
pushed_length es fs n c e f = let a = ap length f in let b = length-append es (c ∷ []) in omega (arith, a, b, e)

pub dual_found : (w : ℕ) (columns : List ℕ) (vs : List Vector) (i c : ℕ) (s x d : ℤ) (f v : Vector) → c ≡ column_at columns i → v ≡ vector_at vs i → x ≡ entry v c → IsSign s → pos 0 <ℤ (s *ℤ x) → IsFromBottom w columns vs c s 0 i f → d ≡ dot f v → IsDualAt w columns vs i (record { form = f; divisor = d })
dual_found w columns vs i c s x d f v ec ev ex sg sx b ed = record {
  form = subst (λ (t : ℕ). IsFromBottom w columns vs t (entry (vector_at vs i) t) 0 i f) ec (subst (λ (t : ℤ). IsFromBottom w columns vs c t 0 i f) (ex ∙ ap (λ t. entry t c) ev) (bottom_signed w columns vs c s x 0 i f sg sx b));
  divisor = ed ∙ ap (dot f) ev;
}

-- a quotient up to its sign
pub signed_quotient_of : (v g s q r : ℤ) → pos 0 <ℤ g → IsMultipleOf g v → IsFloorQuotient v g q → r ≡ s *ℤ q → g *ℤ r ≡ s *ℤ v
signed_quotient_of v g s q r p m f e = ap (λ t. g *ℤ t) e ∙ turn g s q ∙ ap (λ t. s *ℤ t) (exact_of v g q p m f)
  where
    turn : (g s q : ℤ) → g *ℤ (s *ℤ q) ≡ s *ℤ (g *ℤ q)
    turn g s q = simp ring_z (omega (arith, sums))

pub gcd_positive : (v p s g : ℤ) → pos 0 <ℤ (s *ℤ p) → HasGcd (v ∷ p ∷ []) g → pos 0 <ℤ g
gcd_positive v p s g l h = divisor_above g (s *ℤ p) h.nonneg l (multiple_mul g s p h.divides.1.0)

pub cleared_found : (w c : ℕ) (v f u r : Vector) (x p a b : ℤ) → HasWidth w f → HasWidth w v → c < w → entry f c ≡ pos 0 → x ≡ dot f v → p ≡ entry v c → AreLeastFactors x p a b → u ≡ unit_at w c → r ≡ plus (scaled a f) (scaled b u) → IsClearedOf w c v f r
cleared_found w c v f u r x p a b lf lv lc z ex ep k eu e = cleared_of w c v f r a b lf lv lc z (subst (λ (t : ℤ). AreLeastFactors t (entry v c) a b) ex (subst (λ (t : ℤ). AreLeastFactors x t a b) ep k)) (e ∙ ap (λ (t : Vector). plus (scaled a f) (scaled b t)) eu)

pub unit_width : (w c : ℕ) (f u : Vector) → HasWidth w f → u ≡ unit_at w c → length f ≡ length u
unit_width w c f u l e = l ∙ sym (ap length e ∙ length-unit_at w c)

pub columns_length : (columns : List ℕ) (vs : List Vector) → AreLeading columns vs → length columns ≡ length vs
columns_length columns vs a = zip_lengths LeadsAt columns vs a.each

pub lead_nonzero : (columns : List ℕ) (vs : List Vector) (i : ℕ) → AreLeading columns vs → i < length vs → entry (vector_at vs i) (column_at columns i) ≢ pos 0
lead_nonzero columns vs i a l = entry_at_lead (vector_at vs i) (column_at columns i) (lead_at columns vs i a l)

-- from the place n to the one before
pub zero_before_step : (w : ℕ) (columns : List ℕ) (vs : List Vector) (c : ℕ) (s : ℤ) (n m end : ℕ) (f : Vector) → n ≡ suc m → Each (HasWidth w) vs → AreLeading columns vs → end ≤ length vs → n ≤ end → ((i : ℕ) → i < end → column_at columns i < c) → IsFromBottom w columns vs c s n end f → entry f (column_at columns m) ≡ pos 0
zero_before_step w columns vs c s n m end f e wide a inside l before b = next_is_zero w columns vs c s m end wide a inside (omega (arith, e, l)) before f (subst (λ (k : ℕ). IsFromBottom w columns vs c s k end f) e b)

pub step_before : (w : ℕ) (columns : List ℕ) (vs : List Vector) (c : ℕ) (s : ℤ) (n m end : ℕ) (f g : Vector) → n ≡ suc m → Each (HasWidth w) vs → AreLeading columns vs → end ≤ length vs → n ≤ end → ((i : ℕ) → i < end → column_at columns i < c) → IsFromBottom w columns vs c s n end f → IsClearedOf w (column_at columns m) (vector_at vs m) f g → IsFromBottom w columns vs c s m end g
step_before w columns vs c s n m end f g e wide a inside l before b k = bottom_step w columns vs c s m end wide a inside (omega (arith, e, l)) before f g (subst (λ (j : ℕ). IsFromBottom w columns vs c s j end f) e b) k
