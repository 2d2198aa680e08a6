-- Irreducible elements from a list that generates, and a list that generates from the irreducible elements.
use Rattle.std.proofs.Common.{◌≡◌, ◌↔◌, ℕ, zero, suc, ◌⊎◌, inl, inr, List, [], ◌∷◌, length, ℤ, pos, negsuc, ◌+ℤ◌, ◌≤ℤ◌, Contains, refl, sym, ap, ◌∙◌, subst, arith}
use Rattle.std.proofs.lemmas.Int.{ints}
use Rattle.std.specs.List.{AllByRecursion as Each}
use Rattle.nz_spec.specs.Vectors.{Vector, dot, plus, minus, opposite, zero_vector, HasWidth, IsZero, IsNonzero}
use Rattle.nz_spec.specs.Laws.{IsDegreeOf}
use Rattle.nz_spec.specs.Monoids.{IsClosed, IsPositive, IsIrreducible}
use Rattle.nz_spec.proofs.VectorLaws.{length-minus, dot-plus, plus-minus, minus-plus, plus_comm, plus_assoc, zero_vector_of, zero_or_not}
use Rattle.nz_spec.proofs.ListLaws.{Each-weaker, Each-contains, contains_here, contains_there}
use Rattle.nz_spec.proofs.MemberLaws.{zero_of_both}
use Rattle.nz_spec.proofs.PrimitiveLaws.{same_of_zero_minus}
use Rattle.nz_spec.proofs.PartsSums.{some_irreducible, plus-zero}
use Rattle.nz_spec.proofs.UniqueLaws.{same_or_not}
use Rattle.nz_order.specs.Reduction.{Reduces}
use Rattle.nz_order.specs.Totals.{IsTotalOf}
use Rattle.nz_order.proofs.TotalLaws.{IsTotalOf-zero, IsTotalOf-plus, IsTotalOf-member, IsTotalOf-one, nonzero_term}

-- the opposite of what adds up to 0
pub opposite_of_sum : (x y : Vector) → length x ≡ length y → IsZero (plus x y) → opposite y ≡ x
opposite_of_sum [] [] l z = refl
opposite_of_sum [] (b ∷ y) l z = absurd (omega (arith, l))
opposite_of_sum (a ∷ x) [] l z = absurd (omega (arith, l))
opposite_of_sum (a ∷ x) (b ∷ y) l z =
    let r = opposite_of_sum x y (omega (arith, l)) z.1 in ap₂-cons (omega (arith, ints, z.0)) r
  where
    ap₂-cons : {a b : ℤ} {x y : Vector} → a ≡ b → x ≡ y → (a ∷ x) ≡ (b ∷ y)
    ap₂-cons e f = cc

zero_of_minus_self : (x : Vector) → IsZero (minus x x)
zero_of_minus_self [] = tt
zero_of_minus_self (a ∷ x) = (omega (arith, ints), zero_of_minus_self x)

module _ (Member : Vector → Type 0) (closed : IsClosed Member) (w : ℕ) (wide : (x : Vector) → Member x → HasWidth w x) (zero_in : Member (zero_vector w)) where
  -- an irreducible that is a sum of members that have P has P
  pub irreducible_has : (P : Vector → Type 0) → ((v : Vector) → P v → Member v) → (x : Vector) → IsIrreducible Member x → IsTotalOf w P x → P x
  irreducible_has P members x i t =
      let h = nonzero_term w P (λ v p. wide v (members v p)) x i.nonzero t in
      let m = IsTotalOf-member w P Member closed zero_in members h.rest h.others in
      elim (zero_or_not h.rest) [
        | inl z ↦ subst P (sym (plus-zero h.term h.rest (wide h.term (members h.term h.has) ∙ sym (wide h.rest m)) z) ∙ h.same) h.has
        | inr n ↦ absurd (i.no_sum h.term h.rest (members h.term h.has) h.nonzero m n h.same)
      ]

  -- an irreducible is reduced by no member
  pub not_reduced : (u v : Vector) → IsIrreducible Member u → Member v → ¬ Reduces Member v u
  not_reduced u v i m r =
      let l : length u ≡ length v = wide u i.member ∙ sym (wide v m) in
      i.no_sum v (minus u v) m r.nonzero r.left (λ z. r.other (sym (same_of_zero_minus u v l z))) (plus-minus u v l)

  -- generating is enough: where each member is a sum of vectors that have P, a nonzero member that none of these reduces is irreducible
  pub irreducible_from_generators : IsPositive Member → (P : Vector → Type 0) → ((v : Vector) → P v → Member v) → ((x : Vector) → Member x → IsTotalOf w P x) → (u : Vector) → Member u → IsNonzero u → ((v : Vector) → P v → ¬ Reduces Member v u) → IsIrreducible Member u
  irreducible_from_generators positive P members all u m n none = record {
    member = m;
    nonzero = n;
    no_sum = λ a b ma na mb nb e.
        let h = nonzero_term w P (λ v p. wide v (members v p)) a na (all a ma) in
        let c = h.term in
        let mc = members c h.has in
        let mr = IsTotalOf-member w P Member closed zero_in members h.rest h.others in
        let left = plus h.rest b in
        let ml = closed h.rest b mr mb in
        let s : plus c left ≡ u = sym (plus_assoc c h.rest b) ∙ ap (λ v. plus v b) h.same ∙ e in
        let lc : length left ≡ length c = wide left ml ∙ sym (wide c mc) in
        let d : minus u c ≡ left = ap (λ v. minus v c) (sym s ∙ plus_comm c left) ∙ minus-plus left c lc in
        elim (same_or_not c u (wide c mc ∙ sym (wide u m))) [
          | inr ne ↦ none c h.has (record { nonzero = h.nonzero; other = ne; left = subst Member (sym d) ml })
          | inl same ↦ (let z : IsZero left = subst IsZero (sym (ap (minus u) same) ∙ d) (zero_of_minus_self u) in
              let o = opposite_of_sum h.rest b (wide h.rest mr ∙ sym (wide b mb)) z in
              nb (zero_of_both Member positive b mb (subst Member (sym o) mr)))
        ];
  }

  -- the irreducibles are the nonzero vectors of a list that generates, which no other of it reduces
  pub irreducible_listed : IsPositive Member → (K : List Vector) → Each Member K → ((x : Vector) → Member x → IsTotalOf w (Contains K) x) → (u : Vector) → IsIrreducible Member u ↔ (Contains K u × IsNonzero u × Each (λ v. ¬ Reduces Member v u) K)
  irreducible_listed positive K members all u =
      let of_list : (v : Vector) → Contains K v → Member v = λ v c. Each-contains Member K v members c in (
        (λ i. (irreducible_has (Contains K) of_list u i (all u i.member), i.nonzero, Each-weaker Member (λ v. ¬ Reduces Member v u) (λ v m. not_reduced u v i m) K members)),
        (λ h. irreducible_from_generators positive (Contains K) of_list all u (of_list u h.0) h.1 (λ v c. Each-contains (λ v. ¬ Reduces Member v u) K v h.2 c)),
      )

  search_list : (x : Vector) → ((e : Vector) → Member e → Member (minus x e) ⊎ (¬ Member (minus x e))) → (H : List Vector) → Each (IsIrreducible Member) H → ((e : Vector) × Contains H e × Member (minus x e)) ⊎ Each (λ e. ¬ Member (minus x e)) H
  search_list x can [] only = inr tt
  search_list x can (e ∷ H) only = elim (can e only.0.member) [
    | inl m ↦ inl (e, contains_here e H, m)
    | inr n ↦ elim (search_list x can H only.1) [
      | inl f ↦ inl (f.0, contains_there e f.0 H f.1, f.2)
      | inr all ↦ inr (n, all)
    ]
  ]

  below_bound : (form : Vector) → IsDegreeOf Member form → (H : List Vector) → Each (IsIrreducible Member) H → ((x : Vector) → IsIrreducible Member x → Contains H x) → ((x e : Vector) → Member x → Member e → Member (minus x e) ⊎ (¬ Member (minus x e))) → (n : ℕ) (x : Vector) → dot form x ≤ℤ pos n → Member x → IsTotalOf w (Contains H) x
  below_bound form degree H only each can zero x h m = elim (zero_or_not x) [
    | inl z ↦ subst (IsTotalOf w (Contains H)) (sym (zero_vector_of x z ∙ ap zero_vector (wide x m))) (IsTotalOf-zero w (Contains H))
    | inr nz ↦ (let d = degree x m nz in absurd (omega (arith, ints, d, h)))
  ]
  below_bound form degree H only each can (suc n) x h m = elim (zero_or_not x) [
    | inl z ↦ subst (IsTotalOf w (Contains H)) (sym (zero_vector_of x z ∙ ap zero_vector (wide x m))) (IsTotalOf-zero w (Contains H))
    | inr nz ↦ elim (search_list x (λ e k. can x e m k) H only) [
      | inl f ↦ (let i = Each-contains (IsIrreducible Member) H f.0 only f.1 in
          let we = wide f.0 i.member in
          let l : length x ≡ length f.0 = wide x m ∙ sym we in
          let d = degree f.0 i.member i.nonzero in
          let s : dot form f.0 +ℤ dot form (minus x f.0) ≡ dot form x = sym (dot-plus form f.0 (minus x f.0) (sym (length-minus x f.0 l ∙ l))) ∙ ap (dot form) (plus-minus x f.0 l) in
          subst (IsTotalOf w (Contains H)) (plus-minus x f.0 l)
          (IsTotalOf-plus w (Contains H) (λ v c. wide v (Each-contains (IsIrreducible Member) H v only c).member) f.0 (minus x f.0)
          (IsTotalOf-one w (Contains H) f.0 we f.1)
          (below_bound form degree H only each can n (minus x f.0) (omega (arith, ints, s, d, h)) f.2)))
      | inr all ↦ absurd (some_irreducible Member closed w wide zero_in form degree (suc n) x h m nz (λ e i k. Each-contains (λ e. ¬ Member (minus x e)) H e all (each e i) k))
    ]
  ]

  -- where members have a degree and it is decided what can be taken, each member is a sum of irreducibles
  pub member_is_total : (form : Vector) → IsDegreeOf Member form → (H : List Vector) → Each (IsIrreducible Member) H → ((x : Vector) → IsIrreducible Member x → Contains H x) → ((x e : Vector) → Member x → Member e → Member (minus x e) ⊎ (¬ Member (minus x e))) → (x : Vector) → Member x → IsTotalOf w (Contains H) x
  member_is_total form degree H only each can x m = bounded (dot form x) (λ n h. below_bound form degree H only each can n x h m)
    where
      bounded : (d : ℤ) → ((n : ℕ) → d ≤ℤ pos n → IsTotalOf w (Contains H) x) → IsTotalOf w (Contains H) x
      bounded (pos n) f = f n (omega (arith, ints))
      bounded (negsuc n) f = f 0 (omega (arith, ints))
