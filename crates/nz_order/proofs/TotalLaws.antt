-- Laws of sums of listed vectors.
use Rattle.std.proofs.Common.{◌≡◌, ℕ, zero, suc, inl, inr, List, [], ◌∷◌, ◌++◌, length, map, ℤ, pos, ◌+ℤ◌, Contains, refl, sym, ap, ap₂, ◌∙◌, subst, arith}
use Rattle.std.proofs.lemmas.Int.{ints}
use Rattle.std.specs.List.{AllByRecursion as Each}
use Rattle.nz_spec.specs.Vectors.{Vector, dot, plus, scaled, zero_vector, combination, HasWidth, IsZero, IsNonzero}
use Rattle.nz_spec.specs.Monoids.{IsClosed}
use Rattle.nz_spec.proofs.VectorLaws.{length-plus, dot-plus, dot-zero, plus_comm, plus_assoc, zero-plus, add-scaled, one-scaled, zero-scaled, IsZero-zero_vector, zero_vector_of, zero_or_not}
use Rattle.nz_spec.proofs.SumLaws.{length-zero_vector, length-combination}
use Rattle.nz_spec.proofs.ListLaws.{contains_here, contains_there, Each-weaker}
use Rattle.nz_order.specs.Totals.{total, IsTotalOf}
use Rattle.nz_order.proofs.SortLaws.{Each-append}

pub length-total : (w : ℕ) (xs : List Vector) → Each (HasWidth w) xs → length (total w xs) ≡ w
length-total w [] h = length-zero_vector w
length-total w (x ∷ xs) h = let r = length-total w xs h.1 in length-plus x (total w xs) (h.0 ∙ sym r) ∙ h.0

pub total-append : (w : ℕ) (xs ys : List Vector) → Each (HasWidth w) ys → total w (xs ++ ys) ≡ plus (total w xs) (total w ys)
total-append w [] ys h = sym (zero-plus (total w ys) w (length-total w ys h))
total-append w (x ∷ xs) ys h = ap (plus x) (total-append w xs ys h) ∙ sym (plus_assoc x (total w xs) (total w ys))

-- a term may stand first
pub total-to_front : (w : ℕ) (before after : List Vector) (x : Vector) → total w (before ++ x ∷ after) ≡ plus x (total w (before ++ after))
total-to_front w [] after x = refl
total-to_front w (b ∷ before) after x =
    let r = total w (before ++ after) in
    ap (plus b) (total-to_front w before after x) ∙ sym (plus_assoc b x r) ∙ ap (λ v. plus v r) (plus_comm b x) ∙ plus_assoc x b r

-- the value of a form at a sum is the sum of its values
abbrev pub value_total : Vector → List Vector → ℤ
value_total f [] = pos 0
value_total f (x ∷ xs) = dot f x +ℤ value_total f xs

pub dot-total : (f : Vector) (w : ℕ) (xs : List Vector) → Each (HasWidth w) xs → dot f (total w xs) ≡ value_total f xs
dot-total f w [] h = dot-zero f w
dot-total f w (x ∷ xs) h = dot-plus f x (total w xs) (h.0 ∙ sym (length-total w xs h.1)) ∙ ap (λ z. dot f x +ℤ z) (dot-total f w xs h.1)

-- the sum of members is a member
pub total-member : (w : ℕ) (Member : Vector → Type 0) → IsClosed Member → Member (zero_vector w) → (xs : List Vector) → Each Member xs → Member (total w xs)
total-member w Member closed zero_in [] h = zero_in
total-member w Member closed zero_in (x ∷ xs) h = closed x (total w xs) h.0 (total-member w Member closed zero_in xs h.1)

plus-zero_vector : (w : ℕ) (x : Vector) → HasWidth w x → plus x (zero_vector w) ≡ x
plus-zero_vector w x h = plus_comm x (zero_vector w) ∙ zero-plus x w h

pub IsTotalOf-zero : (w : ℕ) (P : Vector → Type 0) → IsTotalOf w P (zero_vector w)
IsTotalOf-zero w P = record { terms = []; each = tt; same = refl }

pub IsTotalOf-one : (w : ℕ) (P : Vector → Type 0) (x : Vector) → HasWidth w x → P x → IsTotalOf w P x
IsTotalOf-one w P x h p = record { terms = x ∷ []; each = (p, tt); same = plus-zero_vector w x h }

pub IsTotalOf-plus : (w : ℕ) (P : Vector → Type 0) → ((x : Vector) → P x → HasWidth w x) → (x y : Vector) → IsTotalOf w P x → IsTotalOf w P y → IsTotalOf w P (plus x y)
IsTotalOf-plus w P wide x y p q = record {
  terms = p.terms ++ q.terms;
  each = Each-append P p.terms q.terms p.each q.each;
  same = total-append w p.terms q.terms (Each-weaker P (HasWidth w) wide q.terms q.each) ∙ ap₂ plus p.same q.same;
}

pub IsTotalOf-weaker : (w : ℕ) (P Q : Vector → Type 0) → ((x : Vector) → P x → Q x) → (x : Vector) → IsTotalOf w P x → IsTotalOf w Q x
IsTotalOf-weaker w P Q f x p = record { terms = p.terms; each = Each-weaker P Q f p.terms p.each; same = p.same }

-- where each vector that has P is a sum of vectors that have Q, so is a sum of those
pub IsTotalOf-through : (w : ℕ) (P Q : Vector → Type 0) → ((x : Vector) → Q x → HasWidth w x) → ((x : Vector) → P x → IsTotalOf w Q x) → (x : Vector) → IsTotalOf w P x → IsTotalOf w Q x
IsTotalOf-through w P Q wide f x p = subst (IsTotalOf w Q) p.same (all p.terms p.each)
  where
    all : (xs : List Vector) → Each P xs → IsTotalOf w Q (total w xs)
    all [] h = IsTotalOf-zero w Q
    all (y ∷ xs) h = IsTotalOf-plus w Q wide y (total w xs) (f y h.0) (all xs h.1)

pub IsTotalOf-member : (w : ℕ) (P Member : Vector → Type 0) → IsClosed Member → Member (zero_vector w) → ((x : Vector) → P x → Member x) → (x : Vector) → IsTotalOf w P x → Member x
IsTotalOf-member w P Member closed zero_in f x p = subst Member p.same (total-member w Member closed zero_in p.terms (Each-weaker P Member f p.terms p.each))

-- a sum with counts is a sum of the vectors, each as often as its count says
pub IsTotalOf-counts : (w : ℕ) (vs : List Vector) (counts : List ℕ) → Each (HasWidth w) vs → IsTotalOf w (Contains vs) (combination w (map pos counts) vs)
IsTotalOf-counts w [] [] h = IsTotalOf-zero w (Contains [])
IsTotalOf-counts w [] (n ∷ counts) h = IsTotalOf-zero w (Contains [])
IsTotalOf-counts w (v ∷ vs) [] h = IsTotalOf-zero w (Contains (v ∷ vs))
IsTotalOf-counts w (v ∷ vs) (n ∷ counts) h =
    let rest = combination w (map pos counts) vs in
    again n (IsTotalOf-weaker w (Contains vs) (Contains (v ∷ vs)) (λ x c. contains_there v x vs c) rest (IsTotalOf-counts w vs counts h.1))
  where
    again : (n : ℕ) → IsTotalOf w (Contains (v ∷ vs)) (combination w (map pos counts) vs) → IsTotalOf w (Contains (v ∷ vs)) (plus (scaled (pos n) v) (combination w (map pos counts) vs))
    again zero t =
        let r = combination w (map pos counts) vs in
        subst (IsTotalOf w (Contains (v ∷ vs))) (sym (ap (λ u. plus u r) (zero-scaled v) ∙ ap (λ k. plus (zero_vector k) r) h.0 ∙ zero-plus r w (length-combination w (map pos counts) vs h.1))) t
    again (suc n) t =
        let r = combination w (map pos counts) vs in
        let more = again n t in
        let s : pos (suc n) ≡ pos 1 +ℤ pos n = omega (arith, ints) in
        let e : plus (scaled (pos (suc n)) v) r ≡ plus v (plus (scaled (pos n) v) r) =
        ap (λ k. plus (scaled k v) r) s ∙ ap (λ u. plus u r) (add-scaled (pos 1) (pos n) v ∙ ap (λ u. plus u (scaled (pos n) v)) (one-scaled v)) ∙ plus_assoc v (scaled (pos n) v) r in
        record { terms = v ∷ more.terms; each = (contains_here v vs, more.each); same = ap (plus v) more.same ∙ sym e }

-- a nonzero sum has a nonzero term, and what is left is the sum of the others
pub record HasTerm (w : ℕ) (P : Vector → Type 0) (x : Vector) : Type 0 where
  pub term : Vector
  pub rest : Vector
  pub has : P term
  pub nonzero : IsNonzero term
  pub others : IsTotalOf w P rest
  pub same : plus term rest ≡ x

pub nonzero_term : (w : ℕ) (P : Vector → Type 0) → ((x : Vector) → P x → HasWidth w x) → (x : Vector) → IsNonzero x → IsTotalOf w P x → HasTerm w P x
nonzero_term w P wide x n p = subst (HasTerm w P) p.same (of_terms p.terms p.each (λ z. n (subst IsZero p.same z)))
  where
    of_terms : (ts : List Vector) → Each P ts → IsNonzero (total w ts) → HasTerm w P (total w ts)
    of_terms [] h n = absurd (n (IsZero-zero_vector w))
    of_terms (t ∷ ts) h n = elim (zero_or_not t) [
      | inr nz ↦ record { term = t; rest = total w ts; has = h.0; nonzero = nz; others = record { terms = ts; each = h.1; same = refl }; same = refl }
      | inl z ↦ (let e : plus t (total w ts) ≡ total w ts =
          ap (λ u. plus u (total w ts)) (zero_vector_of t z ∙ ap zero_vector (wide t h.0)) ∙ zero-plus (total w ts) w (length-total w ts (Each-weaker P (HasWidth w) wide ts h.1)) in
          subst (HasTerm w P) (sym e) (of_terms ts h.1 (λ y. n (subst IsZero (sym e) y))))
    ]
