-- The equations and the support forms of a list of vectors are unique.
use Rattle.std.proofs.Common.{◌≡◌, ◌≢◌, ℕ, zero, suc, ◌+◌, ◌<◌, ◌≤◌, ◌⊎◌, inl, inr, List, [], ◌∷◌, length, ℤ, pos, ◌-ℤ◌, ◌*ℤ◌, refl, sym, ap, ◌∙◌, arith}
use Rattle.std.proofs.lemmas.Int.{ints}
use Rattle.std.proofs.Math.IntN.{*ℤ-zero, zero-*ℤ, *ℤ_comm}
use Rattle.std.specs.List.{AllByRecursion as Each, AllZip}
use Rattle.nz_spec.specs.Vectors.{Vector, dot, minus, scaled, entry, HasWidth, IsZero}
use Rattle.nz_spec.specs.Sums.{IsInSpan}
use Rattle.nz_spec.specs.Forms.{LeadsAt, IsOtherColumn, IsEquationAt, AreEquations}
use Rattle.nz_spec.proofs.IntLaws.{int_cases, zero_product}
use Rattle.nz_spec.proofs.VectorLaws.{dot-scaled, dot-minus, length-minus, length-scaled}
use Rattle.nz_spec.proofs.SumLaws.{dot-combination}
use Rattle.nz_spec.proofs.ConstraintLaws.{values_zero}
use Rattle.nz_spec.proofs.ListLaws.{IsListOf-unique}
use Rattle.nz_spec.proofs.PrimitiveLaws.{same_of_zero_minus, primitive_same}

pub dot_comm : (f x : Vector) → dot f x ≡ dot x f
dot_comm [] [] = refl
dot_comm [] (b ∷ x) = refl
dot_comm (a ∷ f) [] = refl
dot_comm (a ∷ f) (b ∷ x) = omega (arith, ints, *ℤ_comm a b, dot_comm f x)

-- a form that is 0 on the vectors is 0 on their span
pub zero_on_span : (f : Vector) (w : ℕ) (G : List Vector) (x : Vector) → Each (HasWidth w) G → Each (λ g. dot f g ≡ pos 0) G → IsInSpan w G x → dot f x ≡ pos 0
zero_on_span f w G x h k i = zero_product i.multiple (dot f x) (λ e. let p = i.positive in omega (arith, ints, p, e))
    (sym (dot-scaled f i.multiple x) ∙ ap (dot f) (sym i.same) ∙ dot-combination f w i.factors G h ∙ values_zero f i.factors G k)

pub entry_past : (f : Vector) (j : ℕ) → length f ≤ j → entry f j ≡ pos 0
entry_past [] zero h = refl
entry_past [] (suc j) h = refl
entry_past (a ∷ f) zero h = absurd (omega (arith, h))
entry_past (a ∷ f) (suc j) h = entry_past f j (omega arith)

pub dot-no_entries : (f x : Vector) → ((i : ℕ) → entry f i ≡ pos 0) → dot f x ≡ pos 0
dot-no_entries [] x h = refl
dot-no_entries (a ∷ f) [] h = refl
dot-no_entries (a ∷ f) (b ∷ x) h = omega (arith, ints, ap (λ t. t *ℤ b) (h 0), zero-*ℤ b, dot-no_entries f x (λ i. h (suc i)))

-- where f has no entry after column j and x has none before it, the value is the product of the entries there
pub dot_at_lead : (f x : Vector) (j : ℕ) → LeadsAt j x → ((i : ℕ) → j < i → entry f i ≡ pos 0) → dot f x ≡ entry f j *ℤ entry x j
dot_at_lead f [] j h k = absurd h
dot_at_lead [] (b ∷ x) j h k = sym (ap (λ t. t *ℤ entry (b ∷ x) j) (entry_past [] j (omega arith)) ∙ zero-*ℤ (entry (b ∷ x) j))
dot_at_lead (a ∷ f) (b ∷ x) zero h k = omega (arith, ints, dot-no_entries f x (λ i. k (suc i) (omega arith)))
dot_at_lead (a ∷ f) (b ∷ x) (suc j) h k = omega (arith, ints, ap (λ t. a *ℤ t) h.0, *ℤ-zero a, dot_at_lead f x j h.1 (λ i l. k (suc i) (omega arith)))

pub entry_at_lead : (x : Vector) (j : ℕ) → LeadsAt j x → entry x j ≢ pos 0
entry_at_lead [] j h e = h
entry_at_lead (a ∷ x) zero h e = h e
entry_at_lead (a ∷ x) (suc j) h e = entry_at_lead x j h.1 e

pub within_or_past : (w j : ℕ) → (j < w) ⊎ (w ≤ j)
within_or_past zero j = inr (omega arith)
within_or_past (suc w) zero = inl (omega arith)
within_or_past (suc w) (suc j) = elim (within_or_past w j) [ inl h ↦ inl (omega (arith, h)) | inr h ↦ inr (omega (arith, h)) ]

pub zero_of_entries : (x : Vector) → ((j : ℕ) → entry x j ≡ pos 0) → IsZero x
zero_of_entries [] h = tt
zero_of_entries (a ∷ x) h = (h 0, zero_of_entries x (λ j. h (suc j)))

module _ (w : ℕ) (G : List Vector) (wide : Each (HasWidth w) G) (f : Vector) (l : HasWidth w f) (zero_on : Each (λ g. dot f g ≡ pos 0) G) (zero_at : (j : ℕ) → IsOtherColumn w G j → entry f j ≡ pos 0) where
  -- from the last column back, each entry is 0
  no_entry_from : (n j : ℕ) → w ≤ j + n → entry f j ≡ pos 0
  no_entry_from zero j h = entry_past f j (omega (arith, l, h))
  no_entry_from (suc n) j h = at_column (λ i k. no_entry_from n i (omega (arith, h, k)))
    where
      stable : (a : ℤ) → (a ≢ pos 0 → ⊥) → a ≡ pos 0
      stable a n = elim (int_cases a) [
        | inl z ↦ z
        | inr s ↦ absurd (n (λ e. elim s [ inl p ↦ omega (arith, ints, p, e) | inr p ↦ omega (arith, ints, p, e) ]))
      ]

      at_column : ((i : ℕ) → j < i → entry f i ≡ pos 0) → entry f j ≡ pos 0
      at_column later = stable (entry f j) (λ ne. elim (within_or_past w j) [
        | inl inside ↦ ne (zero_at j (record {
          within = inside;
          not_key = λ key.
              let e = sym (dot_at_lead f key.0 j key.2 later) ∙ zero_on_span f w G key.0 wide zero_on key.1 in
              entry_at_lead key.0 j key.2 (zero_product (entry f j) (entry key.0 j) ne e);
        }))
        | inr past ↦ ne (entry_past f j (omega (arith, l, past)))
      ])

  -- a form that is 0 on G and outside the key columns is 0
  pub zero_outside_keys : IsZero f
  zero_outside_keys = zero_of_entries f (λ j. no_entry_from w j (omega arith))

pub entry-scaled : (k : ℤ) (x : Vector) (j : ℕ) → entry (scaled k x) j ≡ k *ℤ entry x j
entry-scaled k [] zero = sym (*ℤ-zero k)
entry-scaled k [] (suc j) = sym (*ℤ-zero k)
entry-scaled k (a ∷ x) zero = refl
entry-scaled k (a ∷ x) (suc j) = entry-scaled k x j

pub entry-minus : (x y : Vector) (j : ℕ) → length x ≡ length y → entry (minus x y) j ≡ entry x j -ℤ entry y j
entry-minus [] [] zero h = refl
entry-minus [] [] (suc j) h = refl
entry-minus [] (b ∷ y) j h = absurd (omega arith)
entry-minus (a ∷ x) [] j h = absurd (omega arith)
entry-minus (a ∷ x) (b ∷ y) zero h = refl
entry-minus (a ∷ x) (b ∷ y) (suc j) h = entry-minus x y j (omega arith)

pub column_cases : (i j : ℕ) → (i ≡ j) ⊎ (i ≢ j)
column_cases zero zero = inl refl
column_cases zero (suc j) = inr (λ e. omega (arith, e))
column_cases (suc i) zero = inr (λ e. omega (arith, e))
column_cases (suc i) (suc j) = elim (column_cases i j) [ inl e ↦ inl (ap suc e) | inr n ↦ inr (λ e. n (omega (arith, e))) ]

-- f times b less g times a
crossed : ℤ → Vector → ℤ → Vector → Vector
crossed b f a g = minus (scaled b f) (scaled a g)

module _ (w : ℕ) (f g : Vector) (l : HasWidth w f) (m : HasWidth w g) (b a : ℤ) where
  same_length : length (scaled b f) ≡ length (scaled a g)
  same_length = length-scaled b f ∙ l ∙ sym m ∙ sym (length-scaled a g)

  crossed-width : HasWidth w (crossed b f a g)
  unfolding crossed
  crossed-width = length-minus (scaled b f) (scaled a g) same_length ∙ length-scaled b f ∙ l

  crossed-value : (v : Vector) → dot (crossed b f a g) v ≡ b *ℤ dot f v -ℤ a *ℤ dot g v
  unfolding crossed
  crossed-value v = dot_comm (crossed b f a g) v ∙ dot-minus v (scaled b f) (scaled a g) same_length
      ∙ omega (arith, ints, dot-scaled v b f, dot-scaled v a g, ap (λ t. b *ℤ t) (dot_comm v f), ap (λ t. a *ℤ t) (dot_comm v g))

  crossed-entry : (j : ℕ) → entry (crossed b f a g) j ≡ b *ℤ entry f j -ℤ a *ℤ entry g j
  unfolding crossed
  crossed-entry j = entry-minus (scaled b f) (scaled a g) j same_length ∙ omega (arith, ints, entry-scaled b f j, entry-scaled a g j)

  crossed-zero : (vs : List Vector) → Each (λ v. dot f v ≡ pos 0) vs → Each (λ v. dot g v ≡ pos 0) vs → Each (λ v. dot (crossed b f a g) v ≡ pos 0) vs
  crossed-zero [] h k = tt
  crossed-zero (v ∷ vs) h k = (omega (arith, ints, crossed-value v, ap (λ t. b *ℤ t) h.0, ap (λ t. a *ℤ t) k.0, *ℤ-zero a, *ℤ-zero b), crossed-zero vs h.1 k.1)

  same_of_crossed : IsZero (crossed b f a g) → scaled b f ≡ scaled a g
  unfolding crossed
  same_of_crossed z = same_of_zero_minus (scaled b f) (scaled a g) same_length z

-- the equation of a column is unique
pub IsEquationAt-unique : (w : ℕ) (G : List Vector) → Each (HasWidth w) G → (c : ℕ) (f g : Vector) → IsEquationAt w G c f → IsEquationAt w G c g → f ≡ g
IsEquationAt-unique w G wide c f g p q =
    let a = entry f c in
    let b = entry g c in
    let h = crossed b f a g in
    let at_others : (j : ℕ) → IsOtherColumn w G j → entry (crossed b f a g) j ≡ pos 0 = λ j o. crossed-entry w f g p.width q.width b a j ∙ elim (column_cases j c) [
      | inl e ↦ (let s = ap (λ i. entry f i) e in let t = ap (λ i. entry g i) e in
          omega (arith, ints, ap (λ z. b *ℤ z) s, ap (λ z. a *ℤ z) t, *ℤ_comm a b))
      | inr n ↦ omega (arith, ints, ap (λ z. b *ℤ z) (p.zero_at j o n), ap (λ z. a *ℤ z) (q.zero_at j o n), *ℤ-zero a, *ℤ-zero b)
    ] in
    let z = zero_outside_keys w G wide (crossed b f a g) (crossed-width w f g p.width q.width b a) (crossed-zero w f g p.width q.width b a G p.zero_on q.zero_on) at_others in
    let u = p.positive in
    let v = q.positive in
    primitive_same b a f g (omega (arith, ints, v)) (omega (arith, ints, u)) p.primitive q.primitive (same_of_crossed w f g p.width q.width b a z)

zip_unique : (w : ℕ) (G : List Vector) → Each (HasWidth w) G → (columns : List ℕ) (fs gs : List Vector) → AllZip (IsEquationAt w G) columns fs → AllZip (IsEquationAt w G) columns gs → fs ≡ gs
zip_unique w G wide [] [] [] p q = refl
zip_unique w G wide [] [] (g ∷ gs) p q = absurd q
zip_unique w G wide [] (f ∷ fs) gs p q = absurd p
zip_unique w G wide (c ∷ cs) [] gs p q = absurd p
zip_unique w G wide (c ∷ cs) (f ∷ fs) [] p q = absurd q
zip_unique w G wide (c ∷ cs) (f ∷ fs) (g ∷ gs) p q =
    let e = IsEquationAt-unique w G wide c f g p.0 q.0 in
    let r = zip_unique w G wide cs fs gs p.1 q.1 in cc

-- the equations of a list are unique
pub AreEquations-unique : (w : ℕ) (G fs gs : List Vector) → Each (HasWidth w) G → AreEquations w G fs → AreEquations w G gs → fs ≡ gs
AreEquations-unique w G fs gs wide p q =
    let e : p.columns ≡ q.columns = IsListOf-unique ◌<◌ (λ i j h k. omega (arith, h, k)) (IsOtherColumn w G) p.columns q.columns p.others q.others in
    zip_unique w G wide p.columns fs gs p.each (rw e q.each)
