-- The search goes through the box in order, and keeps each nonzero member with no kept one below.
use Rattle.std.proofs.Common.{◌≡◌, ◌≢◌, ℕ, zero, suc, ◌+◌, ◌<◌, ◌≤◌, inl, inr, List, [], ◌∷◌, ◌++◌, length, ℤ, pos, negsuc, ◌≤ℤ◌, ◌<ℤ◌, nat_abs, Contains, refl, sym, ◌∙◌, subst, arith}
use Rattle.std.proofs.lemmas.Int.{ints, by_lt_z}
use Rattle.std.proofs.lemmas.List.Elements.{Contains-append_left, Contains-push}
use Rattle.std.specs.List.{AllByRecursion as Each}
use Rattle.nz_spec.specs.Vectors.{Vector, zero_vector, IsZero, IsNonzero}
use Rattle.nz_spec.specs.Systems.{System, IsMember}
use Rattle.nz_spec.specs.Monoids.{IsIrreducible}
use Rattle.nz_spec.specs.Order.{IsLexBefore, Pairwise, IsListOf}
use Rattle.nz_spec.proofs.ListLaws.{Each-contains, Each-weaker}
use Rattle.nz_spec.proofs.VectorLaws.{IsZero-zero_vector, zero_vector_of}
use Rattle.nz_order.proofs.OrderLaws.{lex_irreflexive, lex_transitive, lex_cases, Each-push, Each-both, Pairwise-push}
use Rattle.nz_order.specs.Boxes.{IsBelow, NonNegative, IsWithin, IsOrthant, IsCommonMultiple}
use Rattle.nz_order.proofs.BoxLaws.{non_negative, irreducible_within, irreducible_from, no_other_below}

-- the sum of the entries, where none is negative
abbrev pub weight : Vector → ℕ
weight [] = 0
weight (a ∷ x) = nat_abs a + weight x

abs_le : (a b : ℤ) → pos 0 ≤ℤ a → a ≤ℤ b → nat_abs a ≤ nat_abs b
abs_le (pos m) (pos n) p q = omega (arith, ints)
abs_le (pos m) (negsuc n) p q = absurd (omega (arith, ints))
abs_le (negsuc m) b p q = absurd (omega (arith, ints))

abs_same : (a b : ℤ) → pos 0 ≤ℤ a → a ≤ℤ b → nat_abs b ≤ nat_abs a → a ≡ b
abs_same (pos m) (pos n) p q r = omega (arith, ints)
abs_same (pos m) (negsuc n) p q r = absurd (omega (arith, ints))
abs_same (negsuc m) b p q r = absurd (omega (arith, ints))

weight_le : (y x : Vector) → NonNegative y → IsBelow y x → weight y ≤ weight x
weight_le [] [] n b = omega arith
weight_le [] (a ∷ x) n b = absurd b
weight_le (a ∷ y) [] n b = absurd b
weight_le (a ∷ y) (c ∷ x) n b = omega (arith, abs_le a c n.0 b.0, weight_le y x n.1 b.1)

weight_same : (y x : Vector) → NonNegative y → IsBelow y x → weight x ≤ weight y → y ≡ x
weight_same [] [] n b w = refl
weight_same [] (a ∷ x) n b w = absurd b
weight_same (a ∷ y) [] n b w = absurd b
weight_same (a ∷ y) (c ∷ x) n b w =
    let l = weight_le y x n.1 b.1 in
    let k = abs_le a c n.0 b.0 in
    let e = abs_same a c n.0 b.0 (omega arith) in
    let r = weight_same y x n.1 b.1 (omega arith) in cc

weight_lt : (y x : Vector) → NonNegative y → IsBelow y x → y ≢ x → weight y < weight x
weight_lt y x n b ne = by_cases (weight y) (weight x) (λ (w : weight x ≤ weight y). ne (weight_same y x n b w))
  where
    by_cases : (m n : ℕ) → (n ≤ m → ⊥) → m < n
    by_cases zero zero f = absurd (f (omega arith))
    by_cases zero (suc n) f = omega arith
    by_cases (suc m) zero f = absurd (f (omega arith))
    by_cases (suc m) (suc n) f = (let r = by_cases m n (λ (h : n ≤ m). f (omega arith)) in omega arith)

pub below_refl : (x : Vector) → IsBelow x x
below_refl [] = tt
below_refl (a ∷ x) = (omega (arith, ints), below_refl x)

pub below_trans : (x y z : Vector) → IsBelow x y → IsBelow y z → IsBelow x z
below_trans [] [] [] p q = tt
below_trans [] [] (c ∷ z) p q = absurd q
below_trans [] (b ∷ y) z p q = absurd p
below_trans (a ∷ x) [] z p q = absurd p
below_trans (a ∷ x) (b ∷ y) [] p q = absurd q
below_trans (a ∷ x) (b ∷ y) (c ∷ z) p q = (omega (arith, ints, p.0, q.0), below_trans x y z p.1 q.1)

-- what is below x and not x is before x
pub below_before : (z x : Vector) → IsBelow z x → z ≢ x → IsLexBefore z x
below_before [] [] b ne = absurd (ne refl)
below_before [] (a ∷ x) b ne = absurd b
below_before (a ∷ z) [] b ne = absurd b
below_before (a ∷ z) (c ∷ x) b ne = by_lt_z a c
    (λ (lt : a <ℤ c). inl lt)
    (λ (ge : c ≤ℤ a). let e : a ≡ c = omega (arith, ints, b.0) in inr (e, below_before z x b.1 (λ (s : z ≡ x). ne (let t = e in cc))))

-- the zero vector is below each vector with entries of at least 0
pub zeros_below : (w : ℕ) (y : Vector) → length y ≡ w → NonNegative y → IsBelow (zero_vector w) y
zeros_below zero [] l h = tt
zeros_below zero (a ∷ y) l h = absurd (omega arith)
zeros_below (suc w) [] l h = absurd (omega arith)
zeros_below (suc w) (a ∷ y) l h = (h.0, zeros_below w y (omega arith) h.1)

-- below each nonzero member stands an irreducible element: there cannot be none
pub some_below : (s : System) → IsOrthant s → (n : ℕ) (y : Vector) → weight y < n → IsMember s y → IsNonzero y → ((z : Vector) → IsIrreducible (IsMember s) z → IsBelow z y → ⊥) → ⊥
some_below s o zero y l m nz none = omega arith
some_below s o (suc n) y l m nz none = none y (irreducible_from s o y m nz (λ w mw nw ne b.
    some_below s o n w (let k = weight_lt w y (non_negative s o w mw) b ne in omega arith) mw nw (λ z i c. none z i (below_trans z w y c b)))) (below_refl y)

-- the list is that of the irreducible elements up to x
pub record Searched (s : System) (x : Vector) (list : List Vector) : Type 0 where
  pub in_order : Pairwise IsLexBefore list
  pub only : Each (IsIrreducible (IsMember s)) list
  pub upto : Each (λ y. ¬ IsLexBefore x y) list
  pub each : (y : Vector) → IsIrreducible (IsMember s) y → ¬ IsLexBefore x y → Contains list y

-- x' comes next after x in the box of the vectors with w entries from 0 to m
pub record IsNext (w m : ℕ) (x x' : Vector) : Type 0 where
  pub width : length x ≡ w
  pub width' : length x' ≡ w
  pub later : IsLexBefore x x'
  pub none_between : (y : Vector) → length y ≡ w → IsWithin m y → IsLexBefore x y → ¬ IsLexBefore y x'

not_after : (x' : Vector) (list : List Vector) → Each (λ y. IsLexBefore y x') list → Each (λ y. ¬ IsLexBefore x' y) list
not_after x' list before = Each-weaker (λ y. IsLexBefore y x') (λ y. ¬ IsLexBefore x' y) (λ y b a. lex_irreflexive y (lex_transitive y x' y b a)) list before

module _ (s : System) (o : IsOrthant s) (m : ℕ) (one : 1 ≤ m) (common : IsCommonMultiple s m) (x x' : Vector) (list : List Vector) (done : Searched s x list) (next : IsNext s.width m x x') where
  -- an irreducible element before x' is in the list
  pub listed : (y : Vector) → IsIrreducible (IsMember s) y → IsLexBefore y x' → Contains list y
  listed y i b = done.each y i (λ (a : IsLexBefore x y). next.none_between y i.member.width (irreducible_within s o m one common y i) a b)

  pub before_next : Each (λ y. IsLexBefore y x') list
  before_next = Each-both (λ y. ¬ IsLexBefore x y) (IsIrreducible (IsMember s)) (λ y. IsLexBefore y x')
      (λ y n i. elim (lex_cases x y (next.width ∙ sym i.member.width)) [
        | inl b ↦ absurd (n b)
        | inr (inl e) ↦ subst (λ (v : Vector). IsLexBefore v x') e next.later
        | inr (inr b) ↦ lex_transitive y x x' b next.later
      ]) list done.upto done.only

  -- a nonzero member with no listed one below is kept
  pub keeps : IsMember s x' → IsNonzero x' → ((y : Vector) → Contains list y → ¬ IsBelow y x') → Searched s x' (list ++ x' ∷ [])
  keeps mx nx none = record {
    in_order = Pairwise-push IsLexBefore list x' done.in_order before_next;
    only = Each-push (IsIrreducible (IsMember s)) list x' done.only irreducible;
    upto = Each-push (λ y. ¬ IsLexBefore x' y) list x' (not_after x' list before_next) (lex_irreflexive x');
    each = λ y i n. elim (lex_cases x' y (next.width' ∙ sym i.member.width)) [
      | inl b ↦ absurd (n b)
      | inr (inl e) ↦ subst (λ (v : Vector). Contains (list ++ x' ∷ []) v) e (Contains-push list x')
      | inr (inr b) ↦ Contains-append_left list (x' ∷ []) y (listed y i b)
    ];
  }
    where
      irreducible : IsIrreducible (IsMember s) x'
      irreducible = irreducible_from s o x' mx nx (λ y my ny ne b.
          some_below s o (suc (weight y)) y (omega arith) my ny (λ z i c.
          let d = below_trans z y x' c b in
          none z (listed z i (below_before z x' d (λ (e : z ≡ x').
          no_other_below s o z i y my ny (λ (e' : y ≡ z). ne (e' ∙ e)) (subst (λ (v : Vector). IsBelow y v) (sym e) b)))) d))

  -- what is no irreducible element is passed over
  pub passes : ¬ IsIrreducible (IsMember s) x' → Searched s x' list
  passes not = record {
    in_order = done.in_order;
    only = done.only;
    upto = not_after x' list before_next;
    each = λ y i n. elim (lex_cases x' y (next.width' ∙ sym i.member.width)) [
      | inl b ↦ absurd (n b)
      | inr (inl e) ↦ absurd (not (subst (λ (v : Vector). IsIrreducible (IsMember s) v) (sym e) i))
      | inr (inr b) ↦ listed y i b
    ];
  }

  -- a member with another listed one below is no irreducible element
  pub reduced : (y : Vector) → Contains list y → IsBelow y x' → ¬ IsIrreducible (IsMember s) x'
  reduced y h b i =
      let iy = Each-contains (IsIrreducible (IsMember s)) list y done.only h in
      let before = Each-contains (λ y. IsLexBefore y x') list y before_next h in
      no_other_below s o x' i y iy.member iy.nonzero (λ (e : y ≡ x'). lex_irreflexive x' (subst (λ (v : Vector). IsLexBefore v x') e before)) b

-- at the last vector of the box the list is complete
pub searched_all : (s : System) → IsOrthant s → (m : ℕ) → 1 ≤ m → IsCommonMultiple s m → (x : Vector) (list : List Vector) → Searched s x list → ((y : Vector) → length y ≡ s.width → IsWithin m y → ¬ IsLexBefore x y) → IsListOf IsLexBefore (IsIrreducible (IsMember s)) list
searched_all s o m one common x list done last = record {
  in_order = done.in_order;
  only = done.only;
  each = λ y i. done.each y i (last y i.member.width (irreducible_within s o m one common y i));
}

-- before the search, at the zero vector, the list is empty
pub searched_zero : (s : System) → IsOrthant s → Searched s (zero_vector s.width) []
searched_zero s o = record {
  in_order = tt;
  only = tt;
  upto = tt;
  each = λ y i n. absurd (n (below_before (zero_vector s.width) y (zeros_below s.width y i.member.width (non_negative s o y i.member))
      (λ (e : zero_vector s.width ≡ y). i.nonzero (subst IsZero e (IsZero-zero_vector s.width)))));
}

-- no vector with entries of at least 0 is before the zero vector
pub none_before_zero : (w : ℕ) (x : Vector) → NonNegative x → IsLexBefore x (zero_vector w) → ⊥
none_before_zero w [] h b = b
none_before_zero zero (a ∷ x) h b = b
none_before_zero (suc w) (a ∷ x) h (inl b) = omega (arith, ints, b, h.0)
none_before_zero (suc w) (a ∷ x) h (inr (e, b)) = none_before_zero w x h.1 b

-- what comes after a vector with entries of at least 0 is not 0
pub later_is_nonzero : (x x' : Vector) → NonNegative x → IsLexBefore x x' → IsNonzero x'
later_is_nonzero x x' h b z = none_before_zero (length x') x h (subst (λ (v : Vector). IsLexBefore x v) (zero_vector_of x' z) b)
