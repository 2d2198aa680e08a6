-- A refused part as a refusal of the system: the number that was too large is one that the run is known to form.
use Rattle.std.proofs.Common.{◌≡◌, ◌≢◌, ◌⊎◌, inl, inr, ⊎_elim, ℕ, zero, suc, ◌<◌, ◌≤◌, List, [], ◌∷◌, length, map, get_or, ℤ, pos, negsuc, ◌*ℤ◌, ◌<ℤ◌, ◌≤ℤ◌, unsigned_abs, Option, Some, None, refl, sym, ap, ◌∙◌, subst, arith}
use Rattle.std.proofs.lemmas.Int.{ints, by_lt_z}
use Rattle.std.specs.List.{AllByRecursion as Each, Contains}
use Rattle.nz_spec.specs.Vectors.{Vector, dot, opposite, combination, unit_vectors, HasWidth}
use Rattle.nz_spec.specs.Systems.{System, IsMember}
use Rattle.nz_spec.specs.Monoids.{IsPositive, IsIrreducible, IsExtreme}
use Rattle.nz_spec.specs.Elements.{AreExtreme}
use Rattle.nz_spec.specs.Forms.{IsNormalForm}
use Rattle.nz_spec.proofs.ListLaws.{Each-contains, contains_here, contains_there, contains_none, contains_cases}
use Rattle.nz_spec.proofs.SumLaws.{dot-combination, length-combination}
use Rattle.nz_spec.specs.Vectors.{IsMultipleOf}
use Rattle.nz_spec.specs.Order.{degree}
use Rattle.nz_spec.proofs.VectorLaws.{int_is_zero}
use Rattle.nz_further.specs.Denominators.{HaveDegreeZero, IsDenominator}
use Rattle.nz_further.proofs.DenominatorLaws.{denominator_of}
use Rattle.nz_scalar.specs.Room.{IsWithin, HasRoom}
use Rattle.nz_scalar.proofs.RoomLemmas.{one_within}
use Rattle.nz_scalar.proofs.GcdLemmas.{multiple_neg, divisor_le}
use Rattle.nz_linear.specs.Cones.{IsInRows}
use Rattle.nz_linear.specs.Extreme.{IsPointed}
use Rattle.nz_linear.specs.Coordinates.{in_coordinates}
use Rattle.nz_linear.specs.Echelon.{unit_at}
use Rattle.nz_linear.proofs.Pointed.{positive_of_pointed}
use Rattle.nz_linear.proofs.Lists.{each_map}
use Rattle.nz_linear.proofs.Units.{unit_at_listed, unit_at-dot}
use Rattle.nz_vec.proofs.UnitLemmas.{length-unit_vectors, unit_vector_at}
use Rattle.nz_vec.specs.declared.answers.Num.{Num}
use Rattle.nz_vec.specs.declared.answers.Num.TheVariants as num
use Rattle.nz_range.specs.Measures.{pair_measure}
use Rattle.nz_range.proofs.Causes.{value_cause}
use Rattle.nz_range.proofs.Fits.{size_within, within_self, value_size, value_within, pair_measure_opposite}
use Rattle.nz_spec.specs.Covers.{vectors_at}
use Rattle.nz_spec.specs.Stages.{IsFreshRow, Separates}
use Rattle.nz_dual.specs.Refusals.{IsRowOf}
use Rattle.nz_dual.proofs.NumberCauses.{stage_above}
use Rattle.nz_vec.specs.declared.answers.Work.TheVariants as work
use Rattle.nz_pointed.specs.Pointed.{IsSimplexOf, IsLineOf, IsTooLarge}
use Rattle.nz_sweep.specs.Bases.{Base, CombinationSumsFit, ValueSumsFit}
use Rattle.nz_sweep.specs.Lists.{LacksPull, LacksVector}
use Rattle.nz_watch.specs.Telling.{Watched, HasPassedAll}
use Rattle.nz_input.specs.declared.kind.Mode.{Mode}
use Rattle.nz_input.specs.declared.kind.Mode.TheVariants.{Primal, Dual}
use Rattle.nz_degree.specs.Degrees.{LacksDegree, LacksDenominator}
use Rattle.nz_measures.specs.Sweeps.{IsSwept}
use Rattle.nz_measures.specs.Pools as pools
use Rattle.nz_measures.specs.Pools.{IsPoolAbove, IsAmbientVector, IsAmbientForm, of_base, irreducible, IsRowVector, IsRowForm, normal, generator_there, irreducible_there, order_of, order_from}
use Rattle.nz_measures.specs.Reaches.{HasOwnAbove, of_ambient, HasPrimalAbove, primal_pool, dual_pool, IsPrimalReachAbove, IsDualReachAbove}
use Rattle.nz_measures.proofs.FaceCauses.{mapped}
use Rattle.nz_measures.proofs.Measuring.{vector_cause, column-unit, pull_cause, pool_pair, pool_swapped, pair_measure-swap}
use Rattle.nz_measures.proofs.SystemCauses.{unit_pulled_above, units_ordered, extreme_described_above}
use Rattle.nz_frame.specs.Frames.{IsFrame, order_forms, vector_at, LacksMultiple, LacksLine, of_vector, of_sign}
use Rattle.nz_solve.specs.declared.refusal.SolveRefusal.{SolveRefusal}
use Rattle.nz_solve.specs.declared.refusal.SolveRefusal.TheVariants.{Line, Grade, Range, TooMany, Stopped, NoMemory}
use Rattle.nz_solve.specs.declared.refusal.InnerRefusal.{InnerRefusal}
use Rattle.nz_solve.specs.Solutions.{AreToldOf, HasLeftWithin, LeavesWith, IsReachAbove, IsInnerRefusal}
use Rattle.nz_solve.specs.Parts.{IsCountedRefusal, IsToldRefusal, IsLineRefusal, IsOutcomeRefusal}
use Rattle.nz_solve.proofs.ToldLemmas.{some_left}

-- ---- a call that only reckons
pub reckon_refused : (mode : Mode) (s : System) (bound : ℤ) (limit told number : ℕ) (before now : Watched) → LeavesWith mode s limit told number before now → (e : Num) (r : InnerRefusal) → (e ≡ num.Range → IsReachAbove mode s bound) → IsCountedRefusal number e r → IsInnerRefusal mode s bound limit told before now r
reckon_refused mode s bound limit told number before now t num.Range r f i = subst (IsInnerRefusal mode s bound limit told before now) (sym i) (f refl, t)
reckon_refused mode s bound limit told number before now t num.NoMemory r f i = subst (IsInnerRefusal mode s bound limit told before now) (sym i) (some_left mode s limit told number before now t)

-- a number in the coordinates of the file is the cause in both modes
pub own_reach : (mode : Mode) (s : System) (bound : ℤ) → HasOwnAbove s bound → IsReachAbove mode s bound
own_reach Primal s bound h = inl h
own_reach Dual s bound h = inl h

-- a refusal by the algorithm of the mode
pub refused_by : (mode by : Mode) (s : System) (bound : ℤ) (limit told : ℕ) (before now : Watched) (r : InnerRefusal) → mode ≡ by → IsInnerRefusal by s bound limit told before now r → IsInnerRefusal mode s bound limit told before now r
refused_by mode by s bound limit told before now r e h = subst (λ (m : Mode). IsInnerRefusal m s bound limit told before now r) (sym e) h

-- nothing more is told after the elements are found
pub outcome_refused : (mode : Mode) (s : System) (bound : ℤ) (limit told number : ℕ) (before now : Watched) → IsPositive (IsMember s) → HasPassedAll (AreToldOf mode s) told before now → HasLeftWithin mode s limit told number before now → (r : SolveRefusal) (i : InnerRefusal) → IsOutcomeRefusal bound s r → IsToldRefusal number r i → IsInnerRefusal mode s bound limit told before now i
outcome_refused mode s bound limit told number before now p t l (Line v) i h e = absurd h
outcome_refused mode s bound limit told number before now p t l (Grade x) i h e = subst (IsInnerRefusal mode s bound limit told before now) (sym e) (p, h, t)
outcome_refused mode s bound limit told number before now p t l Range i h e = subst (IsInnerRefusal mode s bound limit told before now) (sym e) (own_reach mode s bound h, inr l)
outcome_refused mode s bound limit told number before now p t l TooMany i h e = absurd h
outcome_refused mode s bound limit told number before now p t l (Stopped stage) i h e = absurd h
outcome_refused mode s bound limit told number before now p t l NoMemory i h e = subst (IsInnerRefusal mode s bound limit told before now) (sym e) (inr (t.passed, t.telling))

-- a line that is not shown
pub line_reckoned : (fits : ℤ → Type 0) (told : ℕ) (b : Base) (line : Vector) (e : Num) (r : InnerRefusal) → (e ≡ num.Range → LacksLine fits b line) → IsCountedRefusal told e r → IsLineRefusal fits told b line r
line_reckoned fits told b line num.Range r f i = subst (IsLineRefusal fits told b line) (sym i) (f refl, refl)
line_reckoned fits told b line num.NoMemory r f i = subst (IsLineRefusal fits told b line) (sym i) tt

-- ---- places
place_of : {A : Type 0} (d : A) (xs : List A) (x : A) → Contains xs x → (j : ℕ) × (j < length xs) × (get_or xs j d ≡ x)
place_of d [] x c = absurd (contains_none x c)
place_of d (y ∷ xs) x c = elim (contains_cases y xs x c) [
  | inl e ↦ (0, omega arith, e)
  | inr k ↦ (let r = place_of d xs x k in let l = r.1 in (suc r.0, omega arith, r.2))
]

-- a number whose product with 1 or -1 is no value is above the bound
large_entry : (h : ℤ) (fits : ℤ → Type 0) → HasRoom h fits → (t a : ℤ) → unsigned_abs t ≡ 1 → (¬ fits (t *ℤ a)) → h <ℤ pos (unsigned_abs a)
large_entry h fits room t a u out = by_lt_z h (pos (unsigned_abs a)) (λ l. l) (λ l. absurd (out (within_self h fits room (t *ℤ a) (size_within h (t *ℤ a) (subst (λ (n : ℕ). pos n ≤ℤ h) (sym (size t a u)) l)))))
  where
    size : (t a : ℤ) → unsigned_abs t ≡ 1 → unsigned_abs (t *ℤ a) ≡ unsigned_abs a
    size t a u = grind (arith, ints)

-- ---- in a frame
module _ (s : System) (base : Base) (pulled : List Vector) (fr : IsFrame s base pulled) (swept : IsSwept s base) (half : ℤ) (fits : ℤ → Type 0) (room : HasRoom half fits) where
  abbrev order : List Vector
  order = map (λ (h : Vector). in_coordinates base.vectors h) (order_of s)

  here : pools.IsFrame s base pulled order
  here = record { swept = swept; own = fr.rows; are_rows = fr.are_rows; rows_there = fr.there; order_there = refl }

  widths : Each (HasWidth s.width) base.vectors
  widths = fr.is_base.widths

  -- a vector of the pool in coordinates, a form of it, or a form at a vector
  pool_reach : (mode : Mode) → IsPoolAbove half (IsRowVector (length base.vectors) pulled) (IsRowForm pulled order) → IsReachAbove mode s half
  pool_reach Primal k = inr (record { base = base; rows = pulled; order = order; frame = here; above = primal_pool k })
  pool_reach Dual k = inr (record { base = base; rows = pulled; order = order; frame = here; above = dual_pool k })

  -- the rows are refused at the start
  pub start_refused : (mode : Mode) → IsTooLarge half (length base.vectors) pulled → IsReachAbove mode s half
  start_refused mode (inl k) = pool_reach mode (inl (record { vector = k.vector; named = inl (normal k.named); large = k.large }))
  start_refused mode (inr k) = pool_reach mode (pool_pair half (IsRowVector (length base.vectors) pulled) (IsRowForm pulled order) k.form k.vector (inl k.is_form) (normal k.named) k.large)

  -- the grading or a unit form cannot be pulled
  form_refused : (w : ℕ) → w ≡ s.width → (f : Vector) → Contains (unit_vectors w) f → ¬ ValueSumsFit fits f base.vectors → HasOwnAbove s half
  form_refused w e f has out =
      let p = place_of [] (unit_vectors w) f has in
      let l : p.0 < w = subst (λ (n : ℕ). p.0 < n) (length-unit_vectors w) p.1 in
      let same : f ≡ unit_at w p.0 = sym p.2 ∙ unit_vector_at w p.0 l in
      unit_pulled_above half fits room s base p.0 (subst (λ (n : ℕ). p.0 < n) e l) widths swept (subst (λ (f : Vector). ¬ ValueSumsFit fits f base.vectors) (same ∙ ap (λ (n : ℕ). unit_at n p.0) e) out)

  pub order_refused : (w : ℕ) (grading : Option Vector) → w ≡ s.width → grading ≡ s.grading → LacksPull fits base (order_from grading (unit_vectors w)) → HasOwnAbove s half
  order_refused w grading e f k = by grading (sym f) k.has
    where
      by : (g : Option Vector) → s.grading ≡ g → Contains (order_from g (unit_vectors w)) k.form → HasOwnAbove s half
      by None given has = form_refused w e k.form has k.outside
      by (Some g) given has = elim (contains_cases g (unit_vectors w) k.form has) [
        | inl same ↦ (let u = pull_cause half fits room k.form base.vectors k.outside in of_ambient (pool_pair half (IsAmbientVector s) (IsAmbientForm s) k.form u.0 (subst (IsAmbientForm s) same (pools.grading given)) (of_base swept u.1) u.2))
        | inr there ↦ form_refused w e k.form there k.outside
      ]

  -- the primal run is refused
  pub primal_above : (n : ℕ) (forms : List Vector) → n ≡ length base.vectors → forms ≡ order_forms s.width base.vectors s.grading → HasPrimalAbove half n pulled forms → IsPrimalReachAbove s half
  primal_above n forms e f k = inr (record {
    base = base;
    rows = pulled;
    order = order;
    frame = here;
    above = subst (λ (fs : List Vector). HasPrimalAbove half (length base.vectors) pulled fs) f (subst (λ (m : ℕ). HasPrimalAbove half m pulled forms) e k);
  })

  -- a stage of the dual run is refused
  pub dual_above : (limit : ℕ) (rays others : List Vector) (places : List ℕ) → IsPositive (IsInRows (length base.vectors) pulled) → IsSimplexOf (length base.vectors) pulled places rays → length places ≡ length base.vectors → Separates (IsFreshRow (HasWidth (length base.vectors))) [] pulled (vectors_at pulled places) others
      → (passed : ℕ) → IsRowOf half limit (length base.vectors) (vectors_at pulled places) rays others passed (work.Range 0) → IsDualReachAbove s half
  dual_above limit rays others places p sx n t passed h = inr (record { base = base; rows = pulled; order = order; frame = here; above = stage_above half limit (length base.vectors) pulled order rays others places p sx n t passed h })

  -- a listed vector cannot be brought back
  returned_large : (c : Vector) → IsRowVector (length base.vectors) pulled c → ¬ CombinationSumsFit fits s.width c base.vectors → IsPoolAbove half (IsRowVector (length base.vectors) pulled) (IsRowForm pulled order)
  returned_large c v out =
      let u = vector_cause half fits room s.width c base.vectors out in
      let unit = unit_at s.width u.0 in
      let l : half <ℤ pos (pair_measure c (in_coordinates base.vectors unit)) = subst (λ (g : Vector). half <ℤ pos (pair_measure c g)) (column-unit s.width u.0 base.vectors widths) u.2 in
      let there : Contains order (in_coordinates base.vectors unit) = mapped (λ (g : Vector). in_coordinates base.vectors g) (order_of s) unit (units_ordered s unit (unit_at_listed s.width u.0 u.1)) in
      pool_swapped half (IsRowVector (length base.vectors) pulled) (IsRowForm pulled order) (in_coordinates base.vectors unit) c (inr there) v l

  pub back_refused : (mode : Mode) (cs : List Vector) → Each (IsRowVector (length base.vectors) pulled) cs → LacksVector fits base cs → IsReachAbove mode s half
  back_refused mode cs named k = pool_reach mode (returned_large k.coordinates (Each-contains (IsRowVector (length base.vectors) pulled) cs k.coordinates named k.has) (subst (λ (n : ℕ). ¬ CombinationSumsFit fits n k.coordinates base.vectors) fr.is_base.width k.outside))

  pub list_refused : (mode : Mode) (list : List Vector) → IsPositive (IsInRows (length base.vectors) pulled) → Each (IsIrreducible (IsInRows (length base.vectors) pulled)) list → LacksVector fits base list → IsReachAbove mode s half
  list_refused mode list p i k = back_refused mode list (each_map (IsIrreducible (IsInRows (length base.vectors) pulled)) (IsRowVector (length base.vectors) pulled) list (λ v k. irreducible_there p k) i) k

  pub extreme_refused : (mode : Mode) (extreme : List Vector) → IsPositive (IsInRows (length base.vectors) pulled) → Each (IsExtreme (IsInRows (length base.vectors) pulled)) extreme → LacksVector fits base extreme → IsReachAbove mode s half
  extreme_refused mode extreme p x k = back_refused mode extreme (each_map (IsExtreme (IsInRows (length base.vectors) pulled)) (IsRowVector (length base.vectors) pulled) extreme (λ v k. generator_there p k) x) k

  pub elements_refused : (list extreme : List Vector) → IsPointed (length base.vectors) pulled → Each (IsIrreducible (IsInRows (length base.vectors) pulled)) list → Each (IsExtreme (IsInRows (length base.vectors) pulled)) extreme → LacksVector fits base list ⊎ LacksVector fits base extreme → IsPrimalReachAbove s half
  elements_refused list extreme pt i x =
      let p : IsPositive (IsInRows (length base.vectors) pulled) = positive_of_pointed (length base.vectors) pulled (IsInRows (length base.vectors) pulled) pt (λ v m. m) in
      ⊎_elim (list_refused Primal list p i) (extreme_refused Primal extreme p x)

  -- ---- a line
  -- an entry of the vector of a line is above the half
  entry_refused : (line : Vector) (j : ℕ) → j < s.width → IsNormalForm (length base.vectors) pulled line ⊎ IsNormalForm (length base.vectors) pulled (opposite line) → half <ℤ pos (pair_measure line (in_coordinates base.vectors (unit_at s.width j))) → IsPoolAbove half (IsRowVector (length base.vectors) pulled) (IsRowForm pulled order)
  entry_refused line j l n m =
      let form = in_coordinates base.vectors (unit_at s.width j) in
      let there : Contains order form = mapped (λ (g : Vector). in_coordinates base.vectors g) (order_of s) (unit_at s.width j) (units_ordered s (unit_at s.width j) (unit_at_listed s.width j l)) in
      let turned : half <ℤ pos (pair_measure form (opposite line)) = subst (λ (k : ℕ). half <ℤ pos k) (pair_measure-swap line form ∙ sym (pair_measure_opposite form line)) m in
      ⊎_elim
      (λ k. pool_swapped half (IsRowVector (length base.vectors) pulled) (IsRowForm pulled order) form line (inr there) (normal k) m)
      (λ k. pool_pair half (IsRowVector (length base.vectors) pulled) (IsRowForm pulled order) form (opposite line) (inr there) (normal k) turned)
      n

  sign_refused : (line : Vector) (t : ℤ) → IsLineOf (length base.vectors) pulled line → unsigned_abs t ≡ 1 → LacksMultiple fits t (vector_at base line) → IsPoolAbove half (IsRowVector (length base.vectors) pulled) (IsRowForm pulled order)
  sign_refused line t li u k =
      let w = s.width in
      let v : Vector = combination w line base.vectors in
      let same : vector_at base line ≡ v = ap (λ (n : ℕ). combination n line base.vectors) fr.is_base.width in
      let p = place_of (pos 0) v k.entry (subst (λ (x : Vector). Contains x k.entry) same k.has) in
      let wide : HasWidth w v = length-combination w line base.vectors widths in
      let l : p.0 < w = subst (λ (n : ℕ). p.0 < n) wide p.1 in
      let value : k.entry ≡ dot line (in_coordinates base.vectors (unit_at w p.0)) = sym p.2 ∙ sym (unit_at-dot w p.0 v wide) ∙ dot-combination (unit_at w p.0) w line base.vectors widths in
      let size : half <ℤ pos (unsigned_abs (dot line (in_coordinates base.vectors (unit_at w p.0)))) = subst (λ (a : ℤ). half <ℤ pos (unsigned_abs a)) value (large_entry half fits room t k.entry u k.outside) in
      let m = value_size line (in_coordinates base.vectors (unit_at w p.0)) in
      entry_refused line p.0 l li.normal (above_more half (unsigned_abs (dot line (in_coordinates base.vectors (unit_at w p.0)))) (pair_measure line (in_coordinates base.vectors (unit_at w p.0))) size m)
    where
      above_more : (h : ℤ) (a b : ℕ) → h <ℤ pos a → a ≤ b → h <ℤ pos b
      above_more h a b l m = omega (arith, ints, l, m)

  line_back : (line : Vector) → IsNormalForm (length base.vectors) pulled line ⊎ IsNormalForm (length base.vectors) pulled (opposite line) → ¬ CombinationSumsFit fits s.width line base.vectors → IsPoolAbove half (IsRowVector (length base.vectors) pulled) (IsRowForm pulled order)
  line_back line n out =
      let u = vector_cause half fits room s.width line base.vectors out in
      entry_refused line u.0 u.1 n (subst (λ (g : Vector). half <ℤ pos (pair_measure line g)) (column-unit s.width u.0 base.vectors widths) u.2)

  pub line_refused : (mode : Mode) (line : Vector) → IsLineOf (length base.vectors) pulled line → LacksLine fits base line → IsReachAbove mode s half
  line_refused mode line li (of_vector out) = pool_reach mode (line_back line li.normal (subst (λ (n : ℕ). ¬ CombinationSumsFit fits n line base.vectors) fr.is_base.width out))
  line_refused mode line li (of_sign {t} u k) = pool_reach mode (sign_refused line t li u k)

-- ---- of the elements
-- the description of the extreme generators is refused
pub described_refused : (s : System) (half : ℤ) (extreme : List Vector) → IsPositive (IsMember s) → AreExtreme s extreme → IsTooLarge half s.width extreme → HasOwnAbove s half
described_refused s half extreme p a k = extreme_described_above half s extreme p a k

-- the degree of a named vector is no value
pub degree_refused : (s : System) (half : ℤ) (fits : ℤ → Type 0) → HasRoom half fits → (grading : Vector) → s.grading ≡ Some grading → (xs : List Vector) → Each (IsAmbientVector s) xs → LacksDegree fits grading xs → HasOwnAbove s half
degree_refused s half fits room grading given xs named k = of_ambient (pool_pair half (IsAmbientVector s) (IsAmbientForm s) grading k.row (pools.grading given) (Each-contains (IsAmbientVector s) xs k.row named k.listed) (value_cause half fits room grading k.row k.lacks))

-- ---- the denominator
-- a divisor of a number within the half is within it
divisor_within : (half g n : ℤ) → pos 1 ≤ℤ g → n ≢ pos 0 → IsWithin half n → IsMultipleOf g n → IsWithin half g
divisor_within half g (pos zero) l ne w m = absurd (ne refl)
divisor_within half g (pos (suc k)) l ne w m = let d = divisor_le g (pos (suc k)) (omega (arith, ints, l)) (omega (arith, ints)) m in (omega (arith, ints, l, d, w.1), omega (arith, ints, d, w.1))
divisor_within half g (negsuc k) l ne w m = let d = divisor_le g (pos (suc k)) (omega (arith, ints, l)) (omega (arith, ints)) (multiple_neg g (negsuc k) m) in (omega (arith, ints, l, d, w.0), omega (arith, ints, d, w.0))

divisor_or_zeros : (half : ℤ) (grading : Vector) (g : ℤ) → pos 1 ≤ℤ g → (xs : List Vector) → Each (λ x. IsWithin half (degree grading x)) xs → Each (λ x. IsMultipleOf g (degree grading x)) xs → IsWithin half g ⊎ HaveDegreeZero grading xs
divisor_or_zeros half grading g low [] w m = inr tt
divisor_or_zeros half grading g low (x ∷ xs) w m = elim (int_is_zero (degree grading x)) [
  | inl z ↦ elim (divisor_or_zeros half grading g low xs w.1 m.1) [ inl f ↦ inl f | inr n ↦ inr (z, n) ]
  | inr n ↦ inl (divisor_within half g (degree grading x) low n w.0 m.0)
]

divisor_value : (half : ℤ) (fits : ℤ → Type 0) → HasRoom half fits → (grading : Vector) (xs : List Vector) (g : ℤ) → IsDenominator grading xs g → Each (λ x. IsWithin half (degree grading x)) xs → fits g
divisor_value half fits room grading xs g is w = elim (divisor_or_zeros half grading g is.at_least xs w is.divides) [
  | inl f ↦ within_self half fits room g f
  | inr n ↦ subst fits (sym (is.of_none n)) (within_self half fits room (pos 1) (one_within half fits room))
]

large_or_within : (half : ℤ) (grading : Vector) (xs : List Vector) → ((x : Vector) × Contains xs x × (half <ℤ pos (pair_measure grading x))) ⊎ Each (λ x. IsWithin half (degree grading x)) xs
large_or_within half grading [] = inr tt
large_or_within half grading (x ∷ xs) = by_lt_z half (pos (pair_measure grading x))
    (λ l. inl (x, contains_here x xs, l))
    (λ l. elim (large_or_within half grading xs) [
      | inl k ↦ inl (k.0, contains_there x k.0 xs k.1, k.2)
      | inr w ↦ inr (value_within half grading x l, w)
    ])

-- the denominator of the degrees of named vectors is no value
pub denominator_refused : (s : System) (half : ℤ) (fits : ℤ → Type 0) → HasRoom half fits → (grading : Vector) → s.grading ≡ Some grading → (xs : List Vector) → Each (IsAmbientVector s) xs → LacksDenominator fits grading xs → HasOwnAbove s half
denominator_refused s half fits room grading given xs named (inl k) = degree_refused s half fits room grading given xs named k
denominator_refused s half fits room grading given xs named (inr lacks) = elim (large_or_within half grading xs) [
  | inl k ↦ of_ambient (pool_pair half (IsAmbientVector s) (IsAmbientForm s) grading k.0 (pools.grading given) (Each-contains (IsAmbientVector s) xs k.0 named k.1) k.2)
  | inr w ↦ (let d = denominator_of grading xs in absurd (lacks d.0 d.1 (divisor_value half fits room grading xs d.0 d.1 w)))
]

pub irreducible_named : (s : System) → IsPositive (IsMember s) → (xs : List Vector) → Each (IsIrreducible (IsMember s)) xs → Each (IsAmbientVector s) xs
irreducible_named s p xs i = each_map (IsIrreducible (IsMember s)) (IsAmbientVector s) xs (λ x k. irreducible p k) i

pub extreme_named : (s : System) → IsPositive (IsMember s) → (xs : List Vector) → Each (IsExtreme (IsMember s)) xs → Each (IsAmbientVector s) xs
extreme_named s p xs i = each_map (IsExtreme (IsMember s)) (IsAmbientVector s) xs (λ x k. pools.extreme p k) i
