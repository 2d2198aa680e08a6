-- The cone of (1000000007, 1) and (1000000006, 1): its irreducible elements, its boxes and its support forms.
use Rattle.std.proofs.Common.{◌≡◌, ◌⊎◌, inl, inr, ℕ, suc, List, [], ◌∷◌, length, ℤ, pos, negsuc, ◌-ℤ◌, ◌*ℤ◌, ◌≤ℤ◌, ◌<ℤ◌, Contains, subst, ap, ap₂, sym, refl, ◌∙◌, arith}
use Rattle.std.proofs.lemmas.Int.{ints}
use Rattle.std.proofs.Math.IntN.{zero-*ℤ}
use Rattle.nz_spec.proofs.IntLaws.{sub-mul}
use Rattle.std.specs.List.{AllByRecursion as Each, AllZip}
use Rattle.nz_spec.specs.Vectors.{Vector, dot, plus, scaled, combination, HasWidth, IsZero, IsNonzero, IsPrimitive}
use Rattle.nz_spec.specs.Sums.{IsInBox, IsInSpan, IsIndependent, HasRank}
use Rattle.nz_spec.specs.Monoids.{IsIrreducible}
use Rattle.nz_spec.specs.Forms.{IsSupportForm, AreSupportForms, IsEquationAt, IsOtherColumn, AreEquations}
use Rattle.nz_spec.proofs.VectorLaws.{dot-scaled, zero_or_not}
use Rattle.nz_spec.proofs.PrimitiveLaws.{one_of_divisor}
use Rattle.nz_spec.proofs.LinearLaws.{HasRank-unique}
use Rattle.nz_spec.proofs.CoverExamples.{one}
use Rattle.nz_spec.proofs.Examples.{two}
use Rattle.nz_measures.proofs.BoxesOfTwo.{box_of_two, either}
use Rattle.nz_worked.proofs.Units.{one_less}
use Rattle.nz_worked.proofs.Orthants.{below_one}
use Rattle.nz_worked.proofs.Reaching.{lower, upper, narrow, lower_form, upper_form, narrow_free, narrow_spans, narrow_no_other}

-- one of the two
abbrev pub IsSide : Vector → Type 0
IsSide x = (x ≡ lower) ⊎ (x ≡ upper)

pub side_of : (x : Vector) → Contains narrow x → IsSide x
side_of x c = elim (either lower upper x c) [ inl e ↦ inl (sym e) | inr e ↦ inr (sym e) ]

pub listed_side : (x : Vector) → IsSide x → Contains narrow x
listed_side x (inl e) = subst (Contains narrow) (sym e) (0, omega arith, refl)
listed_side x (inr e) = subst (Contains narrow) (sym e) (1, omega arith, refl)

-- ---- the set at which both forms are at least 0, whatever it is called
pub record IsNarrow (Member : Vector → Type 0) : Type 0 where
  pub into : (a b : ℤ) → pos 0 ≤ℤ dot lower_form (a ∷ b ∷ []) → pos 0 ≤ℤ dot upper_form (a ∷ b ∷ []) → Member (a ∷ b ∷ [])
  pub wide : (x : Vector) → Member x → HasWidth 2 x
  pub low : (x : Vector) → Member x → pos 0 ≤ℤ dot lower_form x
  pub high : (x : Vector) → Member x → pos 0 ≤ℤ dot upper_form x

lower_nonzero : IsNonzero lower
lower_nonzero z = let e = z.0 in omega (arith, ints, e)

upper_nonzero : IsNonzero upper
upper_nonzero z = let e = z.0 in omega (arith, ints, e)

module _ (Member : Vector → Type 0) (q : IsNarrow Member) where
  pub lower_member : Member lower
  lower_member = q.into (pos 1000000007) (pos 1) (omega (arith, ints)) (omega (arith, ints))

  pub upper_member : Member upper
  upper_member = q.into (pos 1000000006) (pos 1) (omega (arith, ints)) (omega (arith, ints))

  -- what is left of an irreducible element without one of the two is 0
  rest_zero : (s : Vector) (p r a b : ℤ) → s ≡ p ∷ r ∷ [] → Member s → IsNonzero s → IsIrreducible Member (a ∷ b ∷ []) → Member ((a -ℤ p) ∷ (b -ℤ r) ∷ []) → a ∷ b ∷ [] ≡ s
  rest_zero s p r a b e ms ns i m = elim (zero_or_not ((a -ℤ p) ∷ (b -ℤ r) ∷ [])) [
    | inl z ↦ (let x = z.0 in let y = z.1.0 in ap₂ (λ (m n : ℤ). m ∷ n ∷ []) (omega (arith, ints, x)) (omega (arith, ints, y)) ∙ sym e)
    | inr n ↦ absurd (i.no_sum s ((a -ℤ p) ∷ (b -ℤ r) ∷ []) ms ns m n (ap (λ (t : Vector). plus t ((a -ℤ p) ∷ (b -ℤ r) ∷ [])) e ∙ ap₂ (λ (m n : ℤ). m ∷ n ∷ []) (omega (arith, ints)) (omega (arith, ints))))
  ]

  irreducible_two : (a b : ℤ) → IsIrreducible Member (a ∷ b ∷ []) → IsSide (a ∷ b ∷ [])
  irreducible_two a b i =
      let s = q.low (a ∷ b ∷ []) i.member in
      let t = q.high (a ∷ b ∷ []) i.member in
      elim (one_less (dot lower_form (a ∷ b ∷ [])) s) [
        | inr h ↦ inl (rest_zero lower (pos 1000000007) (pos 1) a b refl lower_member lower_nonzero i (q.into (a -ℤ pos 1000000007) (b -ℤ pos 1) (omega (arith, ints, h)) (omega (arith, ints, t))))
        | inl z ↦ elim (one_less (dot upper_form (a ∷ b ∷ [])) t) [
          | inr h ↦ inr (rest_zero upper (pos 1000000006) (pos 1) a b refl upper_member upper_nonzero i (q.into (a -ℤ pos 1000000006) (b -ℤ pos 1) (omega (arith, ints, s)) (omega (arith, ints, h))))
          | inl y ↦ absurd (i.nonzero (omega (arith, ints, z, y), (omega (arith, ints, z, y), tt)))
        ]
      ]

  pub irreducible_side : (x : Vector) → IsIrreducible Member x → IsSide x
  irreducible_side x i =
      let u = two x (q.wide x i.member) in
      subst IsSide (sym u.2) (irreducible_two u.0 u.1 (subst (IsIrreducible Member) u.2 i))

-- ---- sums of the two
pub at_lower : (c d : ℤ) → dot lower_form (combination 2 (c ∷ d ∷ []) narrow) ≡ c
at_lower c d = omega (arith, ints)

pub at_upper : (c d : ℤ) → dot upper_form (combination 2 (c ∷ d ∷ []) narrow) ≡ d
at_upper c d = omega (arith, ints)

-- the only vector of a box is 0
pub box_zero : (vs : List Vector) (x : Vector) → HasWidth 2 x → Each (Contains narrow) vs → IsIndependent 2 vs → IsInBox 2 vs x → x ≡ pos 0 ∷ pos 0 ∷ []
box_zero vs x l of free h =
    let i = box_of_two (pos 1000000007) (pos 1) (pos 1000000006) (pos 1) vs x of free h in
    let u = two x l in
    let t = two i.factors i.one_each in
    let g = subst (λ (fs : List ℤ). Each (λ t. (pos 0 ≤ℤ t) × (t <ℤ i.multiple)) fs) t.2 i.each in
    let same : combination 2 (t.0 ∷ t.1 ∷ []) narrow ≡ scaled i.multiple x = ap (λ (fs : List ℤ). combination 2 fs narrow) (sym t.2) ∙ i.same in
    let low : t.0 ≡ i.multiple *ℤ dot lower_form x = sym (at_lower t.0 t.1) ∙ ap (dot lower_form) same ∙ dot-scaled lower_form i.multiple x in
    let high : t.1 ≡ i.multiple *ℤ dot upper_form x = sym (at_upper t.0 t.1) ∙ ap (dot upper_form) same ∙ dot-scaled upper_form i.multiple x in
    let zero_low = below_one i.multiple (dot lower_form x) i.positive (subst (λ (s : ℤ). pos 0 ≤ℤ s) low g.0.0) (subst (λ (s : ℤ). s <ℤ i.multiple) low g.0.1) in
    let zero_high = below_one i.multiple (dot upper_form x) i.positive (subst (λ (s : ℤ). pos 0 ≤ℤ s) high g.1.0.0) (subst (λ (s : ℤ). s <ℤ i.multiple) high g.1.0.1) in
    u.2 ∙ nothing u.0 u.1 (ap (dot lower_form) (sym u.2) ∙ zero_low) (ap (dot upper_form) (sym u.2) ∙ zero_high)
  where
    nothing : (a b : ℤ) → dot lower_form (a ∷ b ∷ []) ≡ pos 0 → dot upper_form (a ∷ b ∷ []) ≡ pos 0 → a ∷ b ∷ [] ≡ pos 0 ∷ pos 0 ∷ []
    nothing a b e f = ap₂ (λ (m n : ℤ). m ∷ n ∷ []) (omega (arith, ints, e, f)) (omega (arith, ints, e, f))

-- ---- support forms
abbrev pub narrow_rows : List Vector
narrow_rows = upper_form ∷ lower_form ∷ []

side_spans : (x : Vector) → Contains narrow x → IsInSpan 2 narrow x
side_spans x c = elim (side_of x c) [
  | inl e ↦ subst (IsInSpan 2 narrow) (sym e) (narrow_spans (pos 1 ∷ pos 0 ∷ []) lower refl refl)
  | inr e ↦ subst (IsInSpan 2 narrow) (sym e) (narrow_spans (pos 0 ∷ pos 1 ∷ []) upper refl refl)
]

narrow_rank : HasRank 2 (Contains narrow) 2
narrow_rank = record { base = narrow; size = refl; members = ((0, omega arith, refl), ((1, omega arith, refl), tt)); independent = narrow_free; all = side_spans }

pub side_wide : (x : Vector) → Contains narrow x → HasWidth 2 x
side_wide x c = elim (side_of x c) [ inl e ↦ ap length e | inr e ↦ ap length e ]

alone : (v : Vector) → ((a : ℤ) → IsZero (combination 2 (a ∷ []) (v ∷ [])) → a ≡ pos 0) → IsIndependent 2 (v ∷ [])
alone v f cs l z = let t = one cs l in subst IsZero (sym t.1) (f t.0 (subst (λ (fs : List ℤ). IsZero (combination 2 fs (v ∷ []))) t.1 z), tt)

lower_supports : IsSupportForm 2 narrow lower_form
lower_supports = record {
  width = refl;
  primitive = λ d h. h.0;
  zero_at = λ j o. absurd (narrow_no_other j o);
  at_least = (omega (arith, ints), (omega (arith, ints), tt));
  not_all = λ h. let e = h.0 in omega (arith, ints, e);
  facet = record { vectors = upper ∷ []; of_list = ((1, omega arith, refl), tt); independent = alone upper (λ a z. let e = z.1.0 in omega (arith, ints, e)); zero_on = (refl, tt); rank = narrow_rank };
}

upper_supports : IsSupportForm 2 narrow upper_form
upper_supports = record {
  width = refl;
  primitive = λ d h. let k = h.0.0 in let e = h.0.1 in (pos 0 -ℤ k, omega (arith, ints, e, sub-mul (pos 0) k d, zero-*ℤ d));
  zero_at = λ j o. absurd (narrow_no_other j o);
  at_least = (omega (arith, ints), (omega (arith, ints), tt));
  not_all = λ h. let e = h.1.0 in omega (arith, ints, e);
  facet = record { vectors = lower ∷ []; of_list = ((0, omega arith, refl), tt); independent = alone lower (λ a z. let e = z.1.0 in omega (arith, ints, e)); zero_on = (refl, tt); rank = narrow_rank };
}

-- a form that is at least 0 at both is the sum of the two forms with these values
one_value : (p q t m n : ℤ) → p ≡ m *ℤ t → q ≡ n *ℤ t → IsPrimitive (p ∷ q ∷ []) → pos 1 ≤ℤ t → t ≡ pos 1
one_value p q t m n e f h k = one_of_divisor t k (h t ((m, e), ((n, f), tt)))

upper_only : (p q : ℤ) → IsPrimitive (p ∷ q ∷ []) → dot (p ∷ q ∷ []) lower ≡ pos 0 → pos 0 ≤ℤ dot (p ∷ q ∷ []) upper → (dot (p ∷ q ∷ []) upper ≡ pos 0 → ⊥) → upper_form ≡ p ∷ q ∷ []
upper_only p q h e k n = elim (one_less (dot (p ∷ q ∷ []) upper) k) [
  | inl z ↦ absurd (n z)
  | inr s ↦ (
      let t = one_value p q (pos 0 -ℤ p) (negsuc 0) (pos 1000000007) (omega (arith, ints)) (omega (arith, ints, e)) h (omega (arith, ints, s, e)) in
      ap₂ (λ (m n : ℤ). m ∷ n ∷ []) (omega (arith, ints, t)) (omega (arith, ints, t, e)))
]

lower_only : (p q : ℤ) → IsPrimitive (p ∷ q ∷ []) → dot (p ∷ q ∷ []) upper ≡ pos 0 → pos 0 ≤ℤ dot (p ∷ q ∷ []) lower → (dot (p ∷ q ∷ []) lower ≡ pos 0 → ⊥) → lower_form ≡ p ∷ q ∷ []
lower_only p q h e k n = elim (one_less (dot (p ∷ q ∷ []) lower) k) [
  | inl z ↦ absurd (n z)
  | inr s ↦ (
      let t = one_value p q p (pos 1) (negsuc 1000000005) (omega (arith, ints)) (omega (arith, ints, e)) h (omega (arith, ints, s, e)) in
      ap₂ (λ (m n : ℤ). m ∷ n ∷ []) (omega (arith, ints, t)) (omega (arith, ints, t, e)))
]

one_row : (p q : ℤ) (v : Vector) → IsPrimitive (p ∷ q ∷ []) → Each (λ g. pos 0 ≤ℤ dot (p ∷ q ∷ []) g) narrow → (¬ Each (λ g. dot (p ∷ q ∷ []) g ≡ pos 0) narrow) → IsSide v → dot (p ∷ q ∷ []) v ≡ pos 0 → Contains narrow_rows (p ∷ q ∷ [])
one_row p q v h k n (inl f) e = let z = ap (dot (p ∷ q ∷ [])) (sym f) ∙ e in (0, omega arith, upper_only p q h z k.1.0 (λ y. n (z, (y, tt))))
one_row p q v h k n (inr f) e = let z = ap (dot (p ∷ q ∷ [])) (sym f) ∙ e in (1, omega arith, lower_only p q h z k.0 (λ y. n (y, (z, tt))))

one_vector : (vs : List Vector) → length vs ≡ 1 → (v : Vector) × (vs ≡ v ∷ [])
one_vector [] l = absurd (omega (arith, l))
one_vector (v ∷ []) l = (v, refl)
one_vector (u ∷ v ∷ vs) l = absurd (omega (arith, l))

pub narrow_support : AreSupportForms 2 narrow narrow_rows
narrow_support = record {
  in_order = ((inl (omega (arith, ints)), tt), (tt, tt));
  only = (upper_supports, (lower_supports, tt));
  each = λ f s.
      let u = two f s.width in
      let facet = s.facet in
      let r = HasRank-unique 2 (Contains narrow) (suc (length facet.vectors)) 2 side_wide facet.rank narrow_rank in
      let o = one_vector facet.vectors (omega (arith, r)) in
      let c = subst (λ (vs : List Vector). Each (Contains narrow) vs) o.1 facet.of_list in
      let z = subst (λ (vs : List Vector). Each (λ g. dot f g ≡ pos 0) vs) o.1 facet.zero_on in
      subst (Contains narrow_rows) (sym u.2)
      (one_row u.0 u.1 o.0 (subst IsPrimitive u.2 s.primitive) (subst (λ (g : Vector). Each (λ v. pos 0 ≤ℤ dot g v) narrow) u.2 s.at_least) (subst (λ (g : Vector). ¬ Each (λ v. dot g v ≡ pos 0) narrow) u.2 s.not_all) (side_of o.0 c.0) (ap (λ (g : Vector). dot g o.0) (sym u.2) ∙ z.0));
}

-- the two are independent and fill the plane, so they have no equations
pub narrow_equations : (fs : List Vector) → AreEquations 2 narrow fs → fs ≡ []
narrow_equations fs e = none_of fs e.columns e.others.only e.each
  where
    none_of : (fs : List Vector) (columns : List ℕ) → Each (IsOtherColumn 2 narrow) columns → AllZip (IsEquationAt 2 narrow) columns fs → fs ≡ []
    none_of [] columns o z = refl
    none_of (f ∷ fs) [] o z = absurd z
    none_of (f ∷ fs) (c ∷ columns) o z = absurd (narrow_no_other c o.0)
