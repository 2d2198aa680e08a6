-- Orders, and lists in an order.
use Rattle.std.proofs.Common.{◌≡◌, ℕ, zero, suc, ◌<◌, ◌⊎◌, inl, inr, List, [], ◌∷◌, ◌++◌, length, ℤ, ◌≤ℤ◌, ◌<ℤ◌, Option, Some, None, refl, sym, ap, ◌∙◌, subst, arith}
use Rattle.std.proofs.lemmas.Int.{ints, by_lt_z}
use Rattle.std.specs.List.{AllByRecursion as Each}
use Rattle.nz_spec.specs.Vectors.{Vector}
use Rattle.nz_spec.specs.Order.{IsLexLess, IsLexBefore, StandsBefore, degree, Pairwise}

-- an order of entries gives the lexicographic order of lists: irreflexive, transitive, and total at one length
module _ {A : Type 0} (Less : A → A → Type 0) (irreflexive : (a : A) → Less a a → ⊥) (transitive : (a b c : A) → Less a b → Less b c → Less a c) (cases : (a b : A) → Less a b ⊎ ((a ≡ b) ⊎ Less b a)) where
  pub lexless_irreflexive : (x : List A) → IsLexLess Less x x → ⊥
  lexless_irreflexive [] h = h
  lexless_irreflexive (a ∷ x) (inl h) = irreflexive a h
  lexless_irreflexive (a ∷ x) (inr (e, h)) = lexless_irreflexive x h

  pub lexless_transitive : (x y z : List A) → IsLexLess Less x y → IsLexLess Less y z → IsLexLess Less x z
  lexless_transitive [] y z h k = absurd h
  lexless_transitive (a ∷ x) [] z h k = absurd h
  lexless_transitive (a ∷ x) (b ∷ y) [] h k = absurd k
  lexless_transitive (a ∷ x) (b ∷ y) (c ∷ z) (inl h) (inl k) = inl (transitive a b c h k)
  lexless_transitive (a ∷ x) (b ∷ y) (c ∷ z) (inl h) (inr (e, k)) = inl (subst (Less a) e h)
  lexless_transitive (a ∷ x) (b ∷ y) (c ∷ z) (inr (d, h)) (inl k) = inl (subst (λ (v : A). Less v c) (sym d) k)
  lexless_transitive (a ∷ x) (b ∷ y) (c ∷ z) (inr (d, h)) (inr (e, k)) = inr (d ∙ e, lexless_transitive x y z h k)

  pub lexless_cases : (x y : List A) → length x ≡ length y → IsLexLess Less x y ⊎ ((x ≡ y) ⊎ IsLexLess Less y x)
  lexless_cases [] [] l = inr (inl refl)
  lexless_cases [] (b ∷ y) l = absurd (omega (arith, l))
  lexless_cases (a ∷ x) [] l = absurd (omega (arith, l))
  lexless_cases (a ∷ x) (b ∷ y) l = elim (cases a b) [
    | inl h ↦ inl (inl h)
    | inr (inl e) ↦ elim (lexless_cases x y (omega (arith, l))) [
      | inl h ↦ inl (inr (e, h))
      | inr (inl s) ↦ inr (inl (cc))
      | inr (inr h) ↦ inr (inr (inr (sym e, h)))
    ]
    | inr (inr h) ↦ inr (inr (inl h))
  ]

int_irreflexive : (a : ℤ) → a <ℤ a → ⊥
int_irreflexive a h = omega (arith, ints, h)

int_transitive : (a b c : ℤ) → a <ℤ b → b <ℤ c → a <ℤ c
int_transitive a b c h k = omega (arith, ints, h, k)

int_compare : (a b : ℤ) → (a <ℤ b) ⊎ ((a ≡ b) ⊎ (b <ℤ a))
int_compare a b = by_lt_z a b (λ (lt : a <ℤ b). inl lt) (λ (le : b ≤ℤ a). by_lt_z b a (λ (gt : b <ℤ a). inr (inr gt)) (λ (ge : a ≤ℤ b). inr (inl (omega (arith, ints, le, ge)))))

pub nat_irreflexive : (a : ℕ) → a < a → ⊥
nat_irreflexive a h = omega (arith, h)

pub nat_transitive : (a b c : ℕ) → a < b → b < c → a < c
nat_transitive a b c h k = omega (arith, h, k)

pub nat_compare : (a b : ℕ) → (a < b) ⊎ ((a ≡ b) ⊎ (b < a))
nat_compare zero zero = inr (inl refl)
nat_compare zero (suc b) = inl (omega arith)
nat_compare (suc a) zero = inr (inr (omega arith))
nat_compare (suc a) (suc b) = elim (nat_compare a b) [
  | inl h ↦ inl (omega (arith, h))
  | inr (inl e) ↦ inr (inl (ap suc e))
  | inr (inr h) ↦ inr (inr (omega (arith, h)))
]

-- no vector is before itself
pub lex_irreflexive : (x : Vector) → IsLexBefore x x → ⊥
lex_irreflexive = lexless_irreflexive ◌<ℤ◌ int_irreflexive int_transitive int_compare

pub lex_transitive : (x y z : Vector) → IsLexBefore x y → IsLexBefore y z → IsLexBefore x z
lex_transitive = lexless_transitive ◌<ℤ◌ int_irreflexive int_transitive int_compare

-- of two vectors of one width one is before the other, or they are the same
pub lex_cases : (x y : Vector) → length x ≡ length y → IsLexBefore x y ⊎ ((x ≡ y) ⊎ IsLexBefore y x)
lex_cases = lexless_cases ◌<ℤ◌ int_irreflexive int_transitive int_compare

-- lists of places, as the simplices of a cover
pub places_irreflexive : (x : List ℕ) → IsLexLess ◌<◌ x x → ⊥
places_irreflexive = lexless_irreflexive ◌<◌ nat_irreflexive nat_transitive nat_compare

pub places_transitive : (x y z : List ℕ) → IsLexLess ◌<◌ x y → IsLexLess ◌<◌ y z → IsLexLess ◌<◌ x z
places_transitive = lexless_transitive ◌<◌ nat_irreflexive nat_transitive nat_compare

pub places_cases : (x y : List ℕ) → length x ≡ length y → IsLexLess ◌<◌ x y ⊎ ((x ≡ y) ⊎ IsLexLess ◌<◌ y x)
places_cases = lexless_cases ◌<◌ nat_irreflexive nat_transitive nat_compare

-- the order of the element lists, in the same way
pub stands_irreflexive : (grading : Option Vector) (x : Vector) → StandsBefore grading x x → ⊥
stands_irreflexive None x h = lex_irreflexive x h
stands_irreflexive (Some g) x (inl h) = omega (arith, ints, h)
stands_irreflexive (Some g) x (inr (e, h)) = lex_irreflexive x h

pub stands_transitive : (grading : Option Vector) (x y z : Vector) → StandsBefore grading x y → StandsBefore grading y z → StandsBefore grading x z
stands_transitive None x y z h k = lex_transitive x y z h k
stands_transitive (Some g) x y z (inl h) (inl k) = inl (omega (arith, ints, h, k))
stands_transitive (Some g) x y z (inl h) (inr (e, k)) = inl (omega (arith, ints, h, e))
stands_transitive (Some g) x y z (inr (d, h)) (inl k) = inl (omega (arith, ints, d, k))
stands_transitive (Some g) x y z (inr (d, h)) (inr (e, k)) = inr (d ∙ e, lex_transitive x y z h k)

pub stands_cases : (grading : Option Vector) (x y : Vector) → length x ≡ length y → StandsBefore grading x y ⊎ ((x ≡ y) ⊎ StandsBefore grading y x)
stands_cases None x y l = lex_cases x y l
stands_cases (Some g) x y l = by_lt_z (degree g x) (degree g y) (λ (lt : degree g x <ℤ degree g y). inl (inl lt))
    (λ (le : degree g y ≤ℤ degree g x). by_lt_z (degree g y) (degree g x) (λ (gt : degree g y <ℤ degree g x). inr (inr (inl gt)))
    (λ (ge : degree g x ≤ℤ degree g y). let e : degree g x ≡ degree g y = omega (arith, ints, le, ge) in
    elim (lex_cases x y l) [
      | inl h ↦ inl (inr (e, h))
      | inr (inl s) ↦ inr (inl s)
      | inr (inr h) ↦ inr (inr (inr (sym e, h)))
    ]))

pub Each-push : {A : Type 0} (P : A → Type 0) (xs : List A) (x : A) → Each P xs → P x → Each P (xs ++ x ∷ [])
Each-push P [] x h p = (p, tt)
Each-push P (y ∷ xs) x h p = (h.0, Each-push P xs x h.1 p)

pub Each-both : {A : Type 0} (P Q R : A → Type 0) → ((x : A) → P x → Q x → R x) → (xs : List A) → Each P xs → Each Q xs → Each R xs
Each-both P Q R f [] h k = tt
Each-both P Q R f (x ∷ xs) h k = (f x h.0 k.0, Each-both P Q R f xs h.1 k.1)

-- a list in order stays so where an element is pushed that all others are before
pub Pairwise-push : {A : Type 0} (B : A → A → Type 0) (xs : List A) (x : A) → Pairwise B xs → Each (λ y. B y x) xs → Pairwise B (xs ++ x ∷ [])
Pairwise-push B [] x h k = (tt, tt)
Pairwise-push B (y ∷ ys) x h k = (Each-push (B y) ys x h.0 k.0, Pairwise-push B ys x h.1 k.1)
