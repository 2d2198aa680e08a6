-- Vectors of a cone at which finitely many forms are not 0, and why simplices that hold these hold all of the cone.
use Rattle.std.proofs.Common.{◌≡◌, ◌≢◌, ◌⊎◌, inl, inr, ℕ, List, [], ◌∷◌, ◌++◌, map, ℤ, pos, negsuc, ◌+ℤ◌, ◌-ℤ◌, ◌*ℤ◌, neg_ℤ, ◌≤ℤ◌, ◌<ℤ◌, sym, ap, ◌∙◌, subst, arith}
use Rattle.std.proofs.lemmas.Int.{ints}
use Rattle.std.proofs.Math.IntN.{*ℤ-zero}
use Rattle.std.specs.List.{AllByRecursion as Each, Contains}
use Rattle.nz_spec.specs.Vectors.{Vector, dot, plus, scaled, zero_vector, HasWidth, IsZero}
use Rattle.nz_spec.specs.Sums.{IsInCone}
use Rattle.nz_spec.proofs.IntLaws.{int_cases}
use Rattle.nz_spec.proofs.VectorLaws.{dot-scaled, int_is_zero, zero-dot, IsZero-zero_vector}
use Rattle.nz_spec.proofs.SumLaws.{IsInCone-zero, IsInCone-plus, length-zero_vector}
use Rattle.nz_spec.proofs.ListLaws.{contains_here, contains_there, contains_cases, contains_none, Each-contains}
use Rattle.nz_spec.proofs.EquationLaws.{zero_on_span}
use Rattle.nz_linear.specs.DualPairs.{Pair}
use Rattle.nz_linear.proofs.Ring.{sums}
use Rattle.nz_linear.proofs.Signs.{mul_le}
use Rattle.nz_linear.proofs.Lists.{each_map, each_map2, each_left, each_right, each_of_map, map_each}
use Rattle.nz_linear.proofs.VectorLaws.{length-plus, length-scaled, dot-plus}
use Rattle.nz_linear.proofs.Cones.{cone_scaled}
use Rattle.nz_linear.proofs.ConeMembers.{cone_member}
use Rattle.nz_linear.proofs.DualCone.{same_forms}
use Rattle.nz_linear.proofs.DualPairs.{widths_of_vectors}
use Rattle.nz_linear.proofs.Splitting.{enough_of}
use Rattle.nz_cover.specs.Cells.{IsCell, IsOf, HasCellAt}
use Rattle.nz_cover.proofs.CellLaws.{vectors_of, cell_span}

-- of these forms only the zero form is 0 at x
abbrev pub Avoids : List Vector → Vector → Type 0
Avoids forms x = Each (λ g. dot g x ≡ pos 0 → IsZero g) forms

-- a form that is 0 at all vectors of the list is the zero form
abbrev pub AreSpanning : ℕ → List Vector → Type 0
AreSpanning w vs = (g : Vector) → HasWidth w g → Each (λ u. dot g u ≡ pos 0) vs → IsZero g

-- ---- a number larger than all values
-- the number is above the size of the value of each form at u
abbrev pub IsLarge : ℤ → List Vector → Vector → Type 0
IsLarge n forms u = Each (λ g. (dot g u <ℤ n) × (neg_ℤ (dot g u) <ℤ n)) forms

pub record SomeLarge (forms : List Vector) (u : Vector) : Type 0 where
  pub number : ℤ
  pub positive : pos 1 ≤ℤ number
  pub large : IsLarge number forms u

pub large_for : (forms : List Vector) (u : Vector) → SomeLarge forms u
large_for forms u =
    let a = enough_of forms u in
    let b = enough_of forms (scaled (negsuc 0) u) in
    let pa = a.1 in
    let pb = b.1 in
    record {
      number = a.0 +ℤ b.0;
      positive = omega (arith, sums);
      large = each_map2 (λ g. dot g u ≤ℤ a.0) (λ g. dot g (scaled (negsuc 0) u) ≤ℤ b.0) (λ g. (dot g u <ℤ (a.0 +ℤ b.0)) × (neg_ℤ (dot g u) <ℤ (a.0 +ℤ b.0))) forms
          (λ g h k. (omega (arith, sums), (let e = dot-scaled g (negsuc 0) u in omega (arith, ints)))) a.2 b.2;
    }

below_of : (n a b : ℤ) → pos 1 ≤ℤ n → b <ℤ n → pos 1 ≤ℤ (pos 0 -ℤ a) → (n *ℤ a +ℤ b) <ℤ pos 0
below_of n a b pn u k =
    let h : a ≤ℤ negsuc 0 = omega (arith, sums) in
    let m = mul_le n a (negsuc 0) (omega (arith, sums)) h in
    let e : n *ℤ negsuc 0 ≡ neg_ℤ n = omega (arith, ints) in omega (arith, sums)

above_of : (n a b : ℤ) → pos 1 ≤ℤ n → neg_ℤ b <ℤ n → pos 1 ≤ℤ a → pos 0 <ℤ (n *ℤ a +ℤ b)
above_of n a b pn d k =
    let m = mul_le n (pos 1) a (omega (arith, sums)) k in
    let e : n *ℤ pos 1 ≡ n = omega (arith, ints) in omega (arith, sums)

-- a multiple by a large number cannot be undone by a small one
pub zero_if_far : (n a b : ℤ) → pos 1 ≤ℤ n → b <ℤ n → neg_ℤ b <ℤ n → n *ℤ a +ℤ b ≡ pos 0 → a ≡ pos 0
zero_if_far n a b pn u d e = elim (int_cases a) [
  | inl z ↦ z
  | inr s ↦ elim s [
    | inl up ↦ absurd (let k = above_of n a b pn d up in omega (arith, sums))
    | inr down ↦ absurd (let k = below_of n a b pn u down in omega (arith, sums))
  ]
]

pub nonneg_if_far : (n a b : ℤ) → pos 1 ≤ℤ n → b <ℤ n → pos 0 ≤ℤ (n *ℤ a +ℤ b) → pos 0 ≤ℤ a
nonneg_if_far n a b pn u h = elim (int_cases a) [
  | inl z ↦ omega (arith, sums)
  | inr s ↦ elim s [
    | inl up ↦ omega (arith, sums)
    | inr down ↦ absurd (let k = below_of n a b pn u down in omega (arith, sums))
  ]
]

-- ---- a generic vector of the cone
pub far_value : (w : ℕ) (g y u : Vector) (n : ℤ) → HasWidth w y → HasWidth w u → dot g (plus (scaled n y) u) ≡ n *ℤ dot g y +ℤ dot g u
far_value w g y u n ly lu = let e = dot-plus w g (scaled n y) u (length-scaled w n y ly) lu in let s = dot-scaled g n y in omega (arith, sums)

pub record IsGeneric (w : ℕ) (vs forms : List Vector) (y : Vector) : Type 0 where
  pub width : HasWidth w y
  pub in_cone : IsInCone w vs y
  pub avoids : Avoids forms y

pub record SomeNonzero (g : Vector) (vs : List Vector) : Type 0 where
  pub vector : Vector
  pub has : Contains vs vector
  pub nonzero : dot g vector ≢ pos 0

zero_or_some : (g : Vector) (vs : List Vector) → Each (λ u. dot g u ≡ pos 0) vs ⊎ SomeNonzero g vs
zero_or_some g [] = inl tt
zero_or_some g (u ∷ vs) = elim (int_is_zero (dot g u)) [
  | inr n ↦ inr (record { vector = u; has = contains_here u vs; nonzero = n })
  | inl z ↦ elim (zero_or_some g vs) [
    | inl all ↦ inl (z, all)
    | inr s ↦ inr (record { vector = s.vector; has = contains_there u s.vector vs s.has; nonzero = s.nonzero })
  ]
]

still_avoids : (w : ℕ) (forms : List Vector) (y u : Vector) (n : ℤ) → HasWidth w y → HasWidth w u → pos 1 ≤ℤ n → IsLarge n forms u → Avoids forms y → Avoids forms (plus (scaled n y) u)
still_avoids w forms y u n ly lu pn b a =
    each_map2 (λ g. (dot g u <ℤ n) × (neg_ℤ (dot g u) <ℤ n)) (λ g. dot g y ≡ pos 0 → IsZero g) (λ g. dot g (plus (scaled n y) u) ≡ pos 0 → IsZero g) forms
    (λ g k f e. f (zero_if_far n (dot g y) (dot g u) pn k.0 k.1 (sym (far_value w g y u n ly lu) ∙ e))) b a

pub generic_exists : (w : ℕ) (vs forms : List Vector) → Each (HasWidth w) vs → Each (HasWidth w) forms → AreSpanning w vs → (y : Vector) × IsGeneric w vs forms y
generic_exists w vs [] lv lf span = (zero_vector w, record { width = length-zero_vector w; in_cone = IsInCone-zero w vs lv; avoids = tt })
generic_exists w vs (g ∷ forms) lv lf span = by (generic_exists w vs forms lv lf.1 span)
  where
    moved : (y : Vector) → IsGeneric w vs forms y → dot g y ≡ pos 0 → SomeNonzero g vs → (x : Vector) × IsGeneric w vs (g ∷ forms) x
    moved y i z s =
        let u = s.vector in
        let lu = Each-contains (HasWidth w) vs u lv s.has in
        let b = large_for forms u in
        let n = b.number in
        let pn = b.positive in (
          plus (scaled n y) u,
          record {
            width = length-plus w (scaled n y) u (length-scaled w n y i.width) lu;
            in_cone = IsInCone-plus w vs (scaled n y) u (cone_scaled w vs n y (omega (arith, sums)) i.in_cone) (cone_member w vs u lv s.has);
            avoids = (
              (λ e. absurd (s.nonzero (let k = far_value w g y u n i.width lu in let m = ap (λ t. n *ℤ t) z in omega (arith, sums, k, m, e, *ℤ-zero n)))),
              still_avoids w forms y u n i.width lu pn b.large i.avoids,
            );
          },
        )

    by : (y : Vector) × IsGeneric w vs forms y → (x : Vector) × IsGeneric w vs (g ∷ forms) x
    by (y, i) = elim (int_is_zero (dot g y)) [
      | inr n ↦ (y, record { width = i.width; in_cone = i.in_cone; avoids = ((λ e. absurd (n e)), i.avoids) })
      | inl z ↦ elim (zero_or_some g vs) [
        | inl all ↦ (y, record { width = i.width; in_cone = i.in_cone; avoids = ((λ e. span g lf.0 all), i.avoids) })
        | inr s ↦ moved y i z s
      ]
    ]

-- ---- from generic vectors to all
-- the forms of all cells
abbrev pub all_forms : List (List Pair) → List Vector
all_forms [] = []
all_forms (c ∷ cells) = map (λ (p : Pair). p.form) c ++ all_forms cells

pub of_all_forms : (P : Vector → Type 0) (cells : List (List Pair)) (c : List Pair) → Each P (all_forms cells) → Contains cells c → Each (λ (p : Pair). P p.form) c
of_all_forms P [] c h k = absurd (contains_none c k)
of_all_forms P (b ∷ cells) c h k = elim (contains_cases b cells c k) [
  | inl e ↦ subst (Each (λ (p : Pair). P p.form)) e (map_each (λ (p : Pair). p.form) P b (each_left P (map (λ (p : Pair). p.form) b) (all_forms cells) h))
  | inr m ↦ of_all_forms P cells c (each_right P (map (λ (p : Pair). p.form) b) (all_forms cells) h) m
]

-- cells that hold each vector of the cone that avoids some forms hold all of it
pub generic_to_all : (w : ℕ) (vs forms : List Vector) (cells : List (List Pair)) → Each (HasWidth w) vs → Each (HasWidth w) forms → AreSpanning w vs
    → ((y : Vector) → IsGeneric w vs forms y → HasCellAt cells y) → (x : Vector) → HasWidth w x → IsInCone w vs x → HasCellAt cells x
generic_to_all w vs forms cells lv lf span holds x lx ix = by (generic_exists w vs forms lv lf span)
  where
    by : (u : Vector) × IsGeneric w vs forms u → HasCellAt cells x
    by (u, i) =
        let a = large_for forms u in
        let b = large_for (all_forms cells) u in
        let n = a.number +ℤ b.number in
        let pa = a.positive in
        let pb = b.positive in
        let pn : pos 1 ≤ℤ n = omega (arith, sums) in
        let y = plus (scaled n x) u in
        let generic : IsGeneric w vs forms y = record {
          width = length-plus w (scaled n x) u (length-scaled w n x lx) i.width;
          in_cone = IsInCone-plus w vs (scaled n x) u (cone_scaled w vs n x (omega (arith, sums)) ix) i.in_cone;
          avoids = each_map2 (λ g. (dot g u <ℤ a.number) × (neg_ℤ (dot g u) <ℤ a.number)) (λ g. dot g u ≡ pos 0 → IsZero g) (λ g. dot g y ≡ pos 0 → IsZero g) forms
              (λ g k f e.
              let v = far_value w g x u n lx i.width in
              let z = zero_if_far n (dot g x) (dot g u) pn (let k0 = k.0 in omega (arith, sums)) (let k1 = k.1 in omega (arith, sums)) (sym v ∙ e) in
              f (let m = ap (λ t. n *ℤ t) z in omega (arith, sums, v, m, e, *ℤ-zero n))) a.large i.avoids;
        } in
        let h = holds y generic in
        record {
          cell = h.cell;
          has = h.has;
          at = each_map2 (λ (p : Pair). (dot p.form u <ℤ b.number) × (neg_ℤ (dot p.form u) <ℤ b.number)) (λ (p : Pair). pos 0 ≤ℤ dot p.form y) (λ (p : Pair). pos 0 ≤ℤ dot p.form x) h.cell
              (λ p k m. nonneg_if_far n (dot p.form x) (dot p.form u) pn (let k0 = k.0 in omega (arith, sums)) (let v = far_value w p.form x u n lx i.width in omega (arith, sums)))
              (of_all_forms (λ g. (dot g u <ℤ b.number) × (neg_ℤ (dot g u) <ℤ b.number)) cells h.cell b.large h.has) h.at;
        }

-- ---- the vectors of a cell span
pub zero_form : (w : ℕ) (g : Vector) → HasWidth w g → ((x : Vector) → HasWidth w x → dot g x ≡ pos 0) → IsZero g
zero_form w g lg z = subst IsZero (sym (same_forms w g (zero_vector w) lg (length-zero_vector w) (λ x lx. z x lx ∙ sym (zero-dot w x)))) (IsZero-zero_vector w)

pub spanning_by_cell : (w : ℕ) (vs : List Vector) (c : List Pair) → IsCell w c → IsOf vs c → AreSpanning w vs
spanning_by_cell w vs c k o g lg z = zero_form w g lg (λ x lx. zero_on_span g w (vectors_of c) x (widths_of_vectors w c k.dual.widths)
    (each_of_map (λ (p : Pair). p.vector) (λ u. dot g u ≡ pos 0) c (each_map (λ (p : Pair). Contains vs p.vector) (λ (p : Pair). dot g p.vector ≡ pos 0) c (λ p h. Each-contains (λ u. dot g u ≡ pos 0) vs p.vector z h) o))
    (cell_span w c x k.dual k.only_zero lx))
