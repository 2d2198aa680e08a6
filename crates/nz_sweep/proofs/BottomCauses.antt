-- What is large where a form from the bottom is not formed: it goes into the form that would come of it, so that its numbers are no larger than those of that.
use Rattle.std.proofs.Common.{◌≡◌, ◌≢◌, ◌⊎◌, inl, inr, ℕ, zero, suc, ◌*◌, ◌<◌, ◌≤◌, List, [], ◌∷◌, length, ℤ, pos, negsuc, neg_ℤ, ◌-ℤ◌, ◌*ℤ◌, ◌<ℤ◌, refl, sym, ap, ◌∙◌, subst, arith}
use Rattle.std.specs.Prelude.{Result, Ok, Err, MatchResult, unsigned_abs}
use Rattle.std.specs.List.{AllByRecursion as Each, Contains}
use Rattle.std.proofs.lemmas.Int.{ints, unsigned_abs-mul}
use Rattle.std.proofs.Math.IntN.{*ℤ-zero, *ℤ_comm}
use Rattle.std.proofs.Math.Nat.{mul-le-mul}
use Rattle.nz_spec.specs.Vectors.{Vector, dot, plus, scaled, entry, zero_vector, HasWidth}
use Rattle.nz_spec.proofs.EquationLaws.{column_cases, dot_at_lead}
use Rattle.nz_spec.proofs.ListLaws.{contains_here, contains_there, contains_none, contains_cases}
use Rattle.nz_scalar.specs.Division.{HasGcd}
use Rattle.nz_scalar.specs.Room.{HasRoom}
use Rattle.nz_scalar.proofs.GcdLemmas.{divisor_le, multiple_neg}
use Rattle.nz_vec.specs.declared.answers.Num.{Num}
use Rattle.nz_vec.specs.declared.answers.Num.TheVariants.{Range}
use Rattle.nz_vec.specs.Combinations.{CombinationFits}
use Rattle.nz_linear.specs.Echelon.{unit_at}
use Rattle.nz_linear.proofs.Ring.{sums, ring_z}
use Rattle.nz_linear.proofs.Signs.{sign_cases}
use Rattle.nz_range.specs.Measures.{pair_measure}
use Rattle.nz_range.proofs.Fits.{value_size}
use Rattle.nz_sweep.specs.Duals.{vector_at}
use Rattle.nz_sweep.specs.Generating.{AreLeading}
use Rattle.nz_sweep.specs.Bottom.{column_at, AreLeastFactors, IsClearedOf, IsFromBottom}
use Rattle.nz_sweep.specs.GroupConstraints.{IsBetween}
use Rattle.nz_sweep.specs.Numbers.{SomeNumberLarge, IsMeasureOf, measure_of, IsDualNumber, of_dual, IsConstraintNumber, of_dual_form, of_equation, IsBottomStepNumber, IsBottomNumber, leading, coming}
use Rattle.nz_sweep.proofs.BaseLemmas.{each_at}
use Rattle.nz_sweep.proofs.NumberLemmas.{some_map, unfit_large, quotient_size, element_held}
use Rattle.nz_sweep.proofs.DivisionCauses.{some_gcd, combination_large}
use Rattle.nz_sweep.proofs.BottomLemmas.{IsSign, lead_at, lead_nonzero, leads_later, columns_length, column_within, least_factors_of, cleared_of, cleared_entry, bottom_start, next_is_zero, bottom_step, dual_found}
use Rattle.nz_sweep.proofs.ConstrainingLemmas.{dual_at, equation_found}

-- ---- smaller forms
-- each entry of g is at most that of f in size
pub IsUnder : Vector → Vector → Type 0
IsUnder g f = (k : ℕ) → unsigned_abs (entry g k) ≤ unsigned_abs (entry f k)

pub under_tail : (a b : ℤ) (g f : Vector) → IsUnder (a ∷ g) (b ∷ f) → IsUnder g f
unfolding IsUnder
under_tail a b g f u = λ k. u (suc k)

pub under_head : (a b : ℤ) (g f : Vector) → IsUnder (a ∷ g) (b ∷ f) → unsigned_abs a ≤ unsigned_abs b
unfolding IsUnder
under_head a b g f u = u 0

product_under : (a b c : ℤ) → unsigned_abs a ≤ unsigned_abs b → unsigned_abs (a *ℤ c) ≤ unsigned_abs (b *ℤ c)
product_under a b c l =
    let p = unsigned_abs-mul a c in
    let q = unsigned_abs-mul b c in
    let m : unsigned_abs a * unsigned_abs c ≤ unsigned_abs b * unsigned_abs c = mul-le-mul l (let t : unsigned_abs c ≤ unsigned_abs c = omega arith in t) in
    omega (arith, p, q, m)

measure_under : (g f x : Vector) → length g ≡ length f → IsUnder g f → pair_measure g x ≤ pair_measure f x
measure_under [] [] x e u = omega arith
measure_under [] (b ∷ f) x e u = absurd (omega (arith, e))
measure_under (a ∷ g) [] x e u = absurd (omega (arith, e))
measure_under (a ∷ g) (b ∷ f) [] e u = omega arith
measure_under (a ∷ g) (b ∷ f) (c ∷ x) e u =
    let p = product_under a b c (under_head a b g f u) in
    let q = measure_under g f x (omega (arith, e)) (under_tail a b g f u) in
    omega (arith, p, q)

entry_under : (h : ℤ) (g f : Vector) (n : ℤ) → length g ≡ length f → IsUnder g f → Contains g n → h <ℤ pos (unsigned_abs n) → SomeNumberLarge h (Contains f)
entry_under h [] f n e u c l = absurd (contains_none n c)
entry_under h (a ∷ g) [] n e u c l = absurd (omega (arith, e))
entry_under h (a ∷ g) (b ∷ f) n e u c l = elim (contains_cases a g n c) [
  | inl q ↦ (
      let k = under_head a b g f u in
      let y = ap unsigned_abs q in
      record { number = b; is_number = contains_here b f; large = omega (arith, ints, k, y, l) })
  | inr m ↦ some_map h (λ k d. contains_there b k f d) (entry_under h g f n (omega (arith, e)) (under_tail a b g f u) m l)
]

unit_entry : (w c : ℕ) (n : ℤ) → Contains (unit_at w c) n → unsigned_abs n ≤ 1
unit_entry zero c n k = absurd (contains_none n k)
unit_entry (suc w) zero n k = elim (contains_cases (pos 1) (zero_vector w) n k) [
  | inl e ↦ (let y = ap unsigned_abs e in omega (arith, y))
  | inr m ↦ zero_entry w m
]
  where
    zero_entry : (w : ℕ) → Contains (zero_vector w) n → unsigned_abs n ≤ 1
    zero_entry zero m = absurd (contains_none n m)
    zero_entry (suc w) m = elim (contains_cases (pos 0) (zero_vector w) n m) [
      | inl e ↦ (let y = ap unsigned_abs e in omega (arith, y))
      | inr k ↦ zero_entry w k
    ]
unit_entry (suc w) (suc c) n k = elim (contains_cases (pos 0) (unit_at w c) n k) [
  | inl e ↦ (let y = ap unsigned_abs e in omega (arith, y))
  | inr m ↦ unit_entry w c n m
]

-- ---- the form that comes
sign_of : (p : ℤ) → p ≢ pos 0 → (s : ℤ) × IsSign s × (pos 0 <ℤ (s *ℤ p))
sign_of p n = elim (sign_cases p) [
  | inl z ↦ absurd (n z)
  | inr (inl q) ↦ (pos 1, inl refl, omega (arith, ints, q))
  | inr (inr q) ↦ (negsuc 0, inr refl, omega (arith, ints, q))
]

record LeastFactors (v p : ℤ) : Type 0 where
  own : ℤ
  unit : ℤ
  least : AreLeastFactors v p own unit

some_least : (v p : ℤ) → p ≢ pos 0 → LeastFactors v p
some_least v p n =
    let (g, h) = some_gcd (v ∷ p ∷ []) in
    let (s, i, l) = sign_of p n in
    let a = s *ℤ h.divides.1.0.0 in
    let t = s *ℤ h.divides.0.0 in
    record { own = a; unit = pos 0 -ℤ t; least = least_factors_of v p g s a t (pos 0 -ℤ t) h i l (turn g s h.divides.1.0.0 ∙ ap (λ x. s *ℤ x) (sym h.divides.1.0.1)) (turn g s h.divides.0.0 ∙ ap (λ x. s *ℤ x) (sym h.divides.0.1)) refl }
  where
    turn : (g s q : ℤ) → g *ℤ (s *ℤ q) ≡ s *ℤ (q *ℤ g)
    turn g s q = simp ring_z (omega (arith, sums))

times_grows : (a e : ℤ) → pos 0 <ℤ a → unsigned_abs e ≤ unsigned_abs (a *ℤ e)
times_grows a e p = quotient_size (a *ℤ e) e a (unsigned_abs (a *ℤ e)) (*ℤ_comm a e) p (omega arith)

step_under : (w c : ℕ) (v f g : Vector) → HasWidth w f → entry f c ≡ pos 0 → IsClearedOf w c v f g → IsUnder f g
unfolding IsUnder
step_under w c v f g l z k i = elim (column_cases i c) [
  | inl e ↦ (let y = ap unsigned_abs (ap (entry f) e ∙ z) in omega (arith, y))
  | inr n ↦ (
      let y = ap unsigned_abs (cleared_entry w c v f g k l i n) in
      let m = times_grows k.factor (entry f i) k.positive in
      omega (arith, y, m))
]

under_trans : (f g k : Vector) → IsUnder f g → IsUnder g k → IsUnder f k
unfolding IsUnder
under_trans f g k u v i = let p = u i in let q = v i in omega (arith, p, q)

under_own : (f : Vector) → IsUnder f f
unfolding IsUnder
under_own f i = omega arith

pub record Comes (w : ℕ) (columns : List ℕ) (vs : List Vector) (c : ℕ) (s : ℤ) (end : ℕ) (g : Vector) : Type 0 where
  pub form : Vector
  pub bottom : IsFromBottom w columns vs c s 0 end form
  pub under : IsUnder g form

module _ (h : ℤ) (w : ℕ) (columns : List ℕ) (vs : List Vector) (wide : Each (HasWidth w) vs) (a : AreLeading columns vs) where
  module _ (c : ℕ) (s : ℤ) (end : ℕ) (inside : end ≤ length vs) (before : (i : ℕ) → i < end → column_at columns i < c) where
    pub comes : (first : ℕ) (g : Vector) → first ≤ end → IsFromBottom w columns vs c s first end g → Comes w columns vs c s end g
    comes zero g l b = record { form = g; bottom = b; under = under_own g }
    comes (suc m) g l b =
        let v = vector_at vs m in
        let j = column_at columns m in
        let z = next_is_zero w columns vs c s m end wide a inside (omega (arith, l)) before g b in
        let k = some_least (dot g v) (entry v j) (lead_nonzero columns vs m a (omega (arith, l, inside))) in
        let f = plus (scaled k.own g) (scaled k.unit (unit_at w j)) in
        let d = cleared_of w j v g f k.own k.unit b.width (each_at (HasWidth w) [] vs m wide (omega (arith, l, inside))) (column_within w columns vs m wide a (omega (arith, l, inside))) z k.least refl in
        let r = comes m f (omega (arith, l)) (bottom_step w columns vs c s m end wide a inside (omega (arith, l)) before g f b d) in
        record { form = r.form; bottom = r.bottom; under = under_trans g f r.form (step_under w j v g f b.width z d) r.under }

    -- what is large at one step
    pub step_large : (m : ℕ) (g : Vector) → suc m ≤ end → IsFromBottom w columns vs c s (suc m) end g → SomeNumberLarge h (IsBottomStepNumber (column_at columns m) (vector_at vs m) g) → SomeNumberLarge h (IsBottomNumber w columns vs c s end)
    step_large m g l b u =
        let r = comes (suc m) g l b in
        let e : length g ≡ length r.form = b.width ∙ sym r.bottom.width in
        let big = u.large in
        elim u.is_number [
          | inl q ↦ record { number = entry (vector_at vs m) (column_at columns m); is_number = leading l; large = subst (λ (t : ℤ). h <ℤ pos (unsigned_abs t)) q big }
          | inr (inl q) ↦ some_map h (λ n k. coming r.bottom (inl k)) (entry_under h g r.form u.number e r.under q big)
          | inr (inr q) ↦ some_map h (λ n k. coming r.bottom (inr k)) (measured r e u.number q big)
        ]
      where
        measured : (r : Comes w columns vs c s end g) → length g ≡ length r.form → (n : ℤ) → IsMeasureOf g (vector_at vs m ∷ []) n → h <ℤ pos (unsigned_abs n) → SomeNumberLarge h (IsMeasureOf r.form vs)
        measured r e n (measure_of {v = v} q) big = elim (contains_cases (vector_at vs m) [] v q) [
          | inl y ↦ (
              let k = measure_under g r.form v e r.under in
              record { number = pos (pair_measure r.form v); is_number = measure_of {v = v} (element_held vs m [] v (omega (arith, l, inside)) (sym y)); large = omega (arith, ints, k, big) })
          | inr y ↦ absurd (contains_none v y)
        ]

  -- ---- the dual forms
  -- the entry with which a vector leads goes into the value of its dual form
  leading_large : (i : ℕ) → i < length vs → h <ℤ pos (unsigned_abs (entry (vector_at vs i) (column_at columns i))) → SomeNumberLarge h (IsDualNumber w vs)
  leading_large i l big =
      let v = vector_at vs i in
      let c = column_at columns i in
      let p = entry v c in
      let (s, is, up) = sign_of p (lead_nonzero columns vs i a l) in
      let r = comes c s i (omega (arith, l)) (λ j m. leads_later columns vs j i a m l) i (scaled s (unit_at w c)) (omega arith) (bottom_start w columns vs c i s (column_within w columns vs i wide a l) is) in
      let d = dual_found w columns vs i c s p (dot r.form v) r.form v refl refl refl is up r.bottom refl in
      let k = dual_at w columns vs wide a i (record { form = r.form; divisor = dot r.form v }) l d in
      let same : dot r.form v ≡ entry r.form c *ℤ p = dot_at_lead r.form v c (lead_at columns vs i a l) d.form.after in
      let size = value_size r.form v in
      let grows = factor_size p (entry r.form c) d.form.sign in
      let y = ap unsigned_abs same in
      record { number = pos (pair_measure r.form v); is_number = of_dual k.form (inr (measure_of {v = v} (element_held vs i [] v l refl))); large = omega (arith, ints, size, grows, y, big) }
    where
      turned : (e p : ℤ) → (pos 0 -ℤ e) *ℤ p ≡ pos 0 -ℤ (e *ℤ p)
      turned e p = simp ring_z (omega (arith, sums))

      factor_size : (p e : ℤ) → pos 0 <ℤ (p *ℤ e) → unsigned_abs p ≤ unsigned_abs (e *ℤ p)
      factor_size p e q = elim (sign_cases e) [
        | inl z ↦ absurd (let y = ap (λ t. p *ℤ t) z ∙ *ℤ-zero p in omega (arith, ints, y, q))
        | inr (inl u) ↦ times_grows e p u
        | inr (inr u) ↦ (
            let k = times_grows (pos 0 -ℤ e) p (omega (arith, ints, u)) in
            let t = turned e p in
            omega (arith, ints, k, t))
      ]

  pub dual_large : (i : ℕ) (s : ℤ) → i < length vs → IsSign s → pos 0 <ℤ (s *ℤ entry (vector_at vs i) (column_at columns i)) → SomeNumberLarge h (IsBottomNumber w columns vs (column_at columns i) s i) → SomeNumberLarge h (IsDualNumber w vs)
  dual_large i s l is up u = told u.number u.is_number u.large
    where
      told : (n : ℤ) → IsBottomNumber w columns vs (column_at columns i) s i n → h <ℤ pos (unsigned_abs n) → SomeNumberLarge h (IsDualNumber w vs)
      told n (leading {i = j} m) big = leading_large j (omega (arith, m, l)) big
      told n (coming {f = f} b k) big =
          let d = dual_found w columns vs i (column_at columns i) s (entry (vector_at vs i) (column_at columns i)) (dot f (vector_at vs i)) f (vector_at vs i) refl refl refl is up b refl in
          record { number = n; is_number = of_dual (dual_at w columns vs wide a i (record { form = f; divisor = dot f (vector_at vs i) }) l d).form k; large = big }

  -- its value at its own vector
  pub value_large : (i : ℕ) (s : ℤ) (f : Vector) → i < length vs → IsSign s → pos 0 <ℤ (s *ℤ entry (vector_at vs i) (column_at columns i)) → IsFromBottom w columns vs (column_at columns i) s 0 i f → h <ℤ pos (pair_measure f (vector_at vs i)) → SomeNumberLarge h (IsDualNumber w vs)
  value_large i s f l is up b big = dual_large i s l is up (record { number = pos (pair_measure f (vector_at vs i)); is_number = coming b (inr (measure_of {v = vector_at vs i} (element_held vs i [] (vector_at vs i) l refl))); large = big })

  -- ---- the equations
  pub equation_large : (c n : ℕ) (s : ℤ) → c < w → s ≡ pos 1 → IsBetween columns c n → SomeNumberLarge h (IsBottomNumber w columns vs c s n) → SomeNumberLarge h (IsConstraintNumber w vs)
  equation_large c n s l e between u = told u.number u.is_number u.large
    where
      told : (k : ℤ) → IsBottomNumber w columns vs c s n k → h <ℤ pos (unsigned_abs k) → SomeNumberLarge h (IsConstraintNumber w vs)
      told k (leading {i = j} m) big = some_map h (λ t d. of_dual_form d) (leading_large j (let q = between.within in let o = columns_length columns vs a in omega (arith, m, q, o)) big)
      told k (coming {f = f} b q) big = record { number = k; is_number = of_equation (equation_found w columns vs wide a c n f l between (subst (λ (t : ℤ). IsFromBottom w columns vs c t 0 n f) e b)) q; large = big }

-- ---- single calls
-- a quotient, up to its sign
pub signed_size : (v g s t : ℤ) → pos 0 <ℤ g → IsSign s → g *ℤ t ≡ s *ℤ v → unsigned_abs t ≤ unsigned_abs v
signed_size v g s t p i e =
    let k = quotient_size (s *ℤ v) t g (unsigned_abs (s *ℤ v)) (sym e ∙ *ℤ_comm g t) p (omega arith) in
    let y = sign_size s v i in
    omega (arith, k, y)
  where
    sign_size : (s v : ℤ) → IsSign s → unsigned_abs (s *ℤ v) ≡ unsigned_abs v
    sign_size s v (inl e) = (let y = ap (λ t. unsigned_abs (t *ℤ v)) e in let m = unsigned_abs-mul (pos 1) v in omega (arith, y, m))
    sign_size s v (inr e) = (let y = ap (λ t. unsigned_abs (t *ℤ v)) e in let m = unsigned_abs-mul (negsuc 0) v in omega (arith, y, m))

pub no_signed : (h : ℤ) (fits : ℤ → Type 0) → HasRoom h fits → (v g s q : ℤ) → pos 0 <ℤ g → IsSign s → g *ℤ (s *ℤ q) ≡ s *ℤ v → ¬ fits (s *ℤ q) → h <ℤ pos (unsigned_abs v)
no_signed h fits r v g s q p i e u =
    let l = unfit_large h fits r (s *ℤ q) u in
    let k = signed_size v g s (s *ℤ q) p i e in
    omega (arith, ints, l, k)

pub no_common : (h : ℤ) (fits : ℤ → Type 0) → HasRoom h fits → (v p : ℤ) → p ≢ pos 0 → ((z : ℤ) → HasGcd (v ∷ p ∷ []) z → ¬ fits z) → h <ℤ pos (unsigned_abs p)
no_common h fits r v p n u =
    let (d, g) = some_gcd (v ∷ p ∷ []) in
    let low = g.nonneg in
    let l = unfit_large h fits r d (u d g) in
    elim (sign_cases p) [
      | inl z ↦ absurd (n z)
      | inr (inl q) ↦ (let k = divisor_le d p low (omega (arith, ints, q)) g.divides.1.0 in omega (arith, ints, l, k, low, q))
      | inr (inr q) ↦ (let k = divisor_le d (neg_ℤ p) low (omega (arith, ints, q)) (multiple_neg d p g.divides.1.0) in omega (arith, ints, l, k, low, q))
    ]

-- the opposite of a factor
pub no_opposite : (h : ℤ) (fits : ℤ → Type 0) → HasRoom h fits → (v z t : ℤ) → z ≡ pos 0 → unsigned_abs t ≤ unsigned_abs v → ¬ fits (z -ℤ t) → h <ℤ pos (unsigned_abs v)
no_opposite h fits r v z t e k u = let l = unfit_large h fits r (z -ℤ t) u in omega (arith, ints, l, k, e)

-- no value of the form
pub value_step : (h : ℤ) (c : ℕ) (v f : Vector) → h <ℤ pos (pair_measure f v) → SomeNumberLarge h (IsBottomStepNumber c v f)
value_step h c v f l = record { number = pos (pair_measure f v); is_number = inr (inr (measure_of {v = v} (contains_here v []))); large = l }

pub leading_step : (h : ℤ) (c : ℕ) (v f : Vector) (p : ℤ) → p ≡ entry v c → h <ℤ pos (unsigned_abs p) → SomeNumberLarge h (IsBottomStepNumber c v f)
leading_step h c v f p e l = record { number = p; is_number = inl e; large = l }

pub size_step : (h : ℤ) (c : ℕ) (v f : Vector) (x : ℤ) → x ≡ dot f v → h <ℤ pos (unsigned_abs x) → SomeNumberLarge h (IsBottomStepNumber c v f)
size_step h c v f x e l = value_step h c v f (let k = value_size f v in let y = ap unsigned_abs e in omega (arith, ints, k, y, l))

-- no factors
pub no_factors : (h : ℤ) (c : ℕ) (v f : Vector) (x p : ℤ) → x ≡ dot f v → p ≡ entry v c → (h <ℤ pos (unsigned_abs x)) ⊎ (h <ℤ pos (unsigned_abs p)) → SomeNumberLarge h (IsBottomStepNumber c v f)
no_factors h c v f x p ex ep k = elim k [ inl l ↦ size_step h c v f x ex l | inr l ↦ leading_step h c v f p ep l ]

-- no sum
pub no_sum : (h : ℤ) (fits : ℤ → Type 0) → HasRoom h fits → (w c : ℕ) (v f u : Vector) (x p a b : ℤ) → x ≡ dot f v → p ≡ entry v c → unsigned_abs a ≤ unsigned_abs p → unsigned_abs b ≤ unsigned_abs x → u ≡ unit_at w c → ¬ CombinationFits fits a f b u → SomeNumberLarge h (IsBottomStepNumber c v f)
no_sum h fits r w c v f u x p a b ex ep la lb eu n =
    let s = combination_large h fits r a f b u n in
    let l = s.large in
    let low = r.at_least in
    elim s.is_number [
      | inl e ↦ leading_step h c v f p ep (let y = ap unsigned_abs e in omega (arith, ints, y, la, l))
      | inr (inl e) ↦ size_step h c v f x ex (let y = ap unsigned_abs e in omega (arith, ints, y, lb, l))
      | inr (inr (inl k)) ↦ record { number = s.number; is_number = inr (inl k); large = l }
      | inr (inr (inr k)) ↦ absurd (let y = unit_entry w c s.number (subst (λ (t : Vector). Contains t s.number) eu k) in omega (arith, ints, y, low, l))
    ]

-- a unit form up to its sign is always formed
pub unit_signed : (h : ℤ) (fits : ℤ → Type 0) → HasRoom h fits → (w c : ℕ) (s : ℤ) (u : Vector) → IsSign s → u ≡ unit_at w c → SomeNumberLarge h (λ n. (n ≡ s) ⊎ Contains u n) → ⊥
unit_signed h fits r w c s u i e k =
    let l = k.large in
    let low = r.at_least in
    elim k.is_number [
      | inl q ↦ elim i [
        | inl o ↦ (let y = ap unsigned_abs (q ∙ o) in omega (arith, ints, y, low, l))
        | inr o ↦ (let y = ap unsigned_abs (q ∙ o) in omega (arith, ints, y, low, l))
      ]
      | inr q ↦ (let y = unit_entry w c k.number (subst (λ (t : Vector). Contains t k.number) e q) in omega (arith, ints, y, low, l))
    ]

pub unit_times : (h : ℤ) (fits : ℤ → Type 0) → HasRoom h fits → (w c : ℕ) (s : ℤ) (u : Vector) (r : Result Vector Num) → IsSign s → u ≡ unit_at w c → MatchResult r (λ f. f ≡ scaled s u) (λ e. e ≡ Range → SomeNumberLarge h (λ n. (n ≡ s) ⊎ Contains u n)) → MatchResult r (λ f. f ≡ scaled s (unit_at w c)) (λ e. ¬ (e ≡ Range))
unit_times h fits room w c s u (Ok f) i e k = k ∙ ap (λ (t : Vector). scaled s t) e
unit_times h fits room w c s u (Err q) i e k = λ o. unit_signed h fits room w c s u i e (k o)
