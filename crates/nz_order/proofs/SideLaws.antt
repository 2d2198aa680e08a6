-- The two sides of a row: their sums, their irreducible elements, and when lists of these are complete.
use Rattle.std.proofs.Common.{◌≡◌, ◌↔◌, ℕ, zero, suc, ◌⊎◌, inl, inr, List, [], ◌∷◌, ◌++◌, length, ℤ, pos, negsuc, ◌+ℤ◌, ◌≤ℤ◌, ◌<ℤ◌, Contains, sym, ap, ◌∙◌, subst, arith}
use Rattle.std.proofs.lemmas.Int.{ints}
use Rattle.std.specs.List.{AllByRecursion as Each}
use Rattle.nz_spec.specs.Vectors.{Vector, dot, minus, zero_vector, HasWidth, IsNonzero}
use Rattle.nz_spec.specs.Laws.{IsDegreeOf}
use Rattle.nz_spec.specs.Monoids.{IsClosed, IsIrreducible}
use Rattle.nz_spec.specs.Stages.{IsInStage, IsInReversed}
use Rattle.nz_spec.proofs.VectorLaws.{length-minus, dot-plus, dot-IsZero, plus-minus, zero_or_not, zero_vector_of}
use Rattle.nz_spec.proofs.ListLaws.{Each-contains, contains_here, contains_there}
use Rattle.nz_spec.proofs.PartsSums.{some_irreducible, minus-plus_right}
use Rattle.nz_order.specs.Totals.{IsTotalOf}
use Rattle.nz_order.specs.Sides.{IsAbove, IsBeneath, IsLower}
use Rattle.nz_order.proofs.SortLaws.{Each-append, Each-front, Each-back}
use Rattle.nz_order.proofs.TotalLaws.{IsTotalOf-zero, IsTotalOf-one, IsTotalOf-plus}

-- sets with the same members have the same irreducibles
pub IsIrreducible-where : (P Q : Vector → Type 0) → ((x : Vector) → P x → Q x) → ((x : Vector) → Q x → P x) → (x : Vector) → IsIrreducible P x → IsIrreducible Q x
IsIrreducible-where P Q to from x i = record {
  member = to x i.member;
  nonzero = i.nonzero;
  no_sum = λ y z my ny mz nz e. i.no_sum y z (from y my) ny (from z mz) nz e;
}

-- the stage with one more row is the side above it
pub stage_above : (Lattice : Vector → Type 0) (rows : List Vector) (h x : Vector) → IsInStage Lattice (rows ++ h ∷ []) x ↔ IsAbove (IsInStage Lattice rows) h x
stage_above Lattice rows h x = (
  (λ m. record {
    member = record { in_lattice = m.in_lattice; at_least = Each-front (λ r. pos 0 ≤ℤ dot r x) rows (h ∷ []) m.at_least };
    at_least = (Each-back (λ r. pos 0 ≤ℤ dot r x) rows (h ∷ []) m.at_least).0;
  }),
  (λ m. record {
    in_lattice = m.member.in_lattice;
    at_least = Each-append (λ r. pos 0 ≤ℤ dot r x) rows (h ∷ []) m.member.at_least (m.at_least, tt);
  }),
)

-- and the reversed stage is the side beneath it
pub stage_beneath : (Lattice : Vector → Type 0) (rows : List Vector) (h x : Vector) → IsInReversed Lattice rows h x ↔ IsBeneath (IsInStage Lattice rows) h x
stage_beneath Lattice rows h x = ((λ m. record { member = m.in_stage; at_most = m.at_most }), (λ m. record { in_stage = m.member; at_most = m.at_most }))

module _ (Side : Vector → Type 0) (closed : IsClosed Side) (w : ℕ) (wide : (x : Vector) → Side x → HasWidth w x) (zero_in : Side (zero_vector w)) (form : Vector) (degree : IsDegreeOf Side form) where
  pub degree_at_least : (x : Vector) → Side x → pos 0 ≤ℤ dot form x
  degree_at_least x m = elim (zero_or_not x) [
    | inl z ↦ (let e = dot-IsZero form x z in omega (arith, ints, e))
    | inr n ↦ (let d = degree x m n in omega (arith, ints, d))
  ]

  degree_split : (x e : Vector) → Side x → Side e → dot form e +ℤ dot form (minus x e) ≡ dot form x
  degree_split x e m k =
      let l : length x ≡ length e = wide x m ∙ sym (wide e k) in
      sym (dot-plus form e (minus x e) (sym (length-minus x e l ∙ l))) ∙ ap (dot form) (plus-minus x e l)

  -- a nonzero member from which no irreducible of smaller degree can be taken is irreducible
  pub irreducible_from_lower : (x : Vector) → Side x → IsNonzero x → ((e : Vector) → IsIrreducible Side e → dot form e <ℤ dot form x → ¬ Side (minus x e)) → IsIrreducible Side x
  irreducible_from_lower x m n none = record {
    member = m;
    nonzero = n;
    no_sum = λ a b ma na mb nb s.
        let l : length a ≡ length b = wide a ma ∙ sym (wide b mb) in
        let d = dot-plus form a b l in
        let f = ap (dot form) s in
        let gb = degree b mb nb in
        bounded (dot form a) (λ k h. some_irreducible Side closed w wide zero_in form degree k a h ma na (λ e i rest.
        let g = degree_split a e ma i.member in
        let r = degree_at_least (minus a e) rest in
        none e i (omega (arith, ints, d, f, gb, g, r))
        (subst (λ (v : Vector). Side (minus v e)) s
        (subst Side (minus-plus_right a b e (wide a ma ∙ sym (wide e i.member)) (sym l)) (closed (minus a e) b rest mb)))));
  }
    where
      bounded : (d : ℤ) → ((k : ℕ) → d ≤ℤ pos k → ⊥) → ⊥
      bounded (pos k) f = f k (omega (arith, ints))
      bounded (negsuc k) f = f 0 (omega (arith, ints))

  search_side : (x : Vector) → Side x → ((x e : Vector) → Side x → Side e → Side (minus x e) ⊎ (¬ Side (minus x e))) → (K : List Vector) → Each (IsIrreducible Side) K → ((e : Vector) × Contains K e × Side (minus x e)) ⊎ Each (λ e. ¬ Side (minus x e)) K
  search_side x m can [] only = inr tt
  search_side x m can (e ∷ K) only = elim (can x e m only.0.member) [
    | inl k ↦ inl (e, contains_here e K, k)
    | inr n ↦ elim (search_side x m can K only.1) [
      | inl f ↦ inl (f.0, contains_there e f.0 K f.1, f.2)
      | inr all ↦ inr (n, all)
    ]
  ]

  lower_bound : (t : ℤ) (K : List Vector) → Each (IsIrreducible Side) K → ((v : Vector) → IsIrreducible Side v → dot form v <ℤ t → Contains K v) → ((x e : Vector) → Side x → Side e → Side (minus x e) ⊎ (¬ Side (minus x e))) → (n : ℕ) (x : Vector) → dot form x ≤ℤ pos n → dot form x <ℤ t → Side x → IsTotalOf w (IsLower Side form t) x
  lower_bound t K only each can zero x h lt m = elim (zero_or_not x) [
    | inl z ↦ subst (IsTotalOf w (IsLower Side form t)) (sym (zero_vector_of x z ∙ ap zero_vector (wide x m))) (IsTotalOf-zero w (IsLower Side form t))
    | inr nz ↦ (let d = degree x m nz in absurd (omega (arith, ints, d, h)))
  ]
  lower_bound t K only each can (suc n) x h lt m = elim (zero_or_not x) [
    | inl z ↦ subst (IsTotalOf w (IsLower Side form t)) (sym (zero_vector_of x z ∙ ap zero_vector (wide x m))) (IsTotalOf-zero w (IsLower Side form t))
    | inr nz ↦ elim (search_side x m can K only) [
      | inl f ↦ (let i = Each-contains (IsIrreducible Side) K f.0 only f.1 in
          let we = wide f.0 i.member in
          let l : length x ≡ length f.0 = wide x m ∙ sym we in
          let d = degree f.0 i.member i.nonzero in
          let s = degree_split x f.0 m i.member in
          let r = degree_at_least (minus x f.0) f.2 in
          subst (IsTotalOf w (IsLower Side form t)) (plus-minus x f.0 l)
          (IsTotalOf-plus w (IsLower Side form t) (λ v c. wide v c.irreducible.member) f.0 (minus x f.0)
          (IsTotalOf-one w (IsLower Side form t) f.0 we (record { irreducible = i; below = omega (arith, ints, s, r, lt) }))
          (lower_bound t K only each can n (minus x f.0) (omega (arith, ints, s, d, h)) (omega (arith, ints, s, d, lt)) f.2)))
      | inr all ↦ absurd (some_irreducible Side closed w wide zero_in form degree (suc n) x h m nz (λ e i k.
          let s = degree_split x e m i.member in
          let r = degree_at_least (minus x e) k in
          Each-contains (λ e. ¬ Side (minus x e)) K e all (each e i (omega (arith, ints, s, r, lt))) k))
    ]
  ]

  -- where the list has every irreducible of degree below t, each member of degree below t is a sum of such
  pub lower_total : (t : ℤ) (K : List Vector) → Each (IsIrreducible Side) K → ((v : Vector) → IsIrreducible Side v → dot form v <ℤ t → Contains K v) → ((x e : Vector) → Side x → Side e → Side (minus x e) ⊎ (¬ Side (minus x e))) → (x : Vector) → Side x → dot form x <ℤ t → IsTotalOf w (IsLower Side form t) x
  lower_total t K only each can x m lt = bounded (dot form x) (λ n h. lower_bound t K only each can n x h lt m)
    where
      bounded : (d : ℤ) → ((n : ℕ) → d ≤ℤ pos n → IsTotalOf w (IsLower Side form t) x) → IsTotalOf w (IsLower Side form t) x
      bounded (pos n) f = f n (omega (arith, ints))
      bounded (negsuc n) f = f 0 (omega (arith, ints))
