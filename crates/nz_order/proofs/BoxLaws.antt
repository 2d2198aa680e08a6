-- The irreducible elements of a system of congruences over the orthant: they lie in a box, and are those with no other nonzero member below.
use Rattle.std.proofs.Common.{◌≡◌, ◌≢◌, ℕ, zero, suc, ◌≤◌, ◌⊎◌, inl, inr, List, [], ◌∷◌, length, map, ℤ, pos, ◌+ℤ◌, ◌*ℤ◌, ◌≤ℤ◌, ◌<ℤ◌, Option, None, IfSome, refl, sym, ap, ◌∙◌, subst, arith}
use Rattle.std.proofs.lemmas.Int.{ints, by_lt_z}
use Rattle.std.proofs.lemmas.List.{length-replicate}
use Rattle.std.specs.List.{AllByRecursion as Each}
use Rattle.nz_spec.specs.Vectors.{Vector, dot, plus, minus, zero_vector, unit_vectors, IsZero, IsNonzero, IsMultipleOf}
use Rattle.nz_spec.specs.Systems.{Congruence, System, IsMember}
use Rattle.nz_spec.specs.Monoids.{IsIrreducible}
use Rattle.nz_spec.proofs.PrimitiveLaws.{same_of_zero_minus}
use Rattle.nz_order.specs.Boxes.{IsBelow, NonNegative, Holds, IsOrthant, IsCommonMultiple, HasNoOtherBelow, IsWithin}
use Rattle.nz_spec.proofs.IntLaws.{multiple_add, multiple_sub, multiple_mul, multiple_zero}
use Rattle.nz_spec.proofs.VectorLaws.{length-minus, dot-minus, plus-minus, zero-dot, dot-IsZero, IsZero-zero_vector}

pub zero_of_same_plus : (y z : Vector) → length y ≡ length z → plus y z ≡ y → IsZero z
zero_of_same_plus [] [] h e = tt
zero_of_same_plus [] (b ∷ z) h e = absurd (omega arith)
zero_of_same_plus (a ∷ y) [] h e = absurd (omega arith)
zero_of_same_plus (a ∷ y) (b ∷ z) h e =
    let f : a +ℤ b ≡ a = cc in
    let g : plus y z ≡ y = cc in
    (omega (arith, ints, f), zero_of_same_plus y z (omega arith) g)

shift : (a : ℤ) (x : Vector) (us : List Vector) → Each (λ f. pos 0 ≤ℤ dot f (a ∷ x)) (map (λ u. pos 0 ∷ u) us) → Each (λ u. pos 0 ≤ℤ dot u x) us
shift a x [] h = tt
shift a x (u ∷ us) h = (omega (arith, ints, h.0), shift a x us h.1)

shift_back : (a : ℤ) (x : Vector) (us : List Vector) → Each (λ u. pos 0 ≤ℤ dot u x) us → Each (λ f. pos 0 ≤ℤ dot f (a ∷ x)) (map (λ u. pos 0 ∷ u) us)
shift_back a x [] h = tt
shift_back a x (u ∷ us) h = (omega (arith, ints, h.0), shift_back a x us h.1)

-- where the unit forms are at least 0, the entries are
pub entries_of_forms : (w : ℕ) (x : Vector) → length x ≡ w → Each (λ f. pos 0 ≤ℤ dot f x) (unit_vectors w) → NonNegative x
entries_of_forms zero [] l h = tt
entries_of_forms zero (a ∷ x) l h = absurd (omega arith)
entries_of_forms (suc w) [] l h = absurd (omega arith)
entries_of_forms (suc w) (a ∷ x) l h = (omega (arith, ints, h.0, zero-dot w x), entries_of_forms w x (omega arith) (shift a x (unit_vectors w) h.1))

-- and where the entries are, the unit forms are
pub forms_of_entries : (w : ℕ) (x : Vector) → length x ≡ w → NonNegative x → Each (λ f. pos 0 ≤ℤ dot f x) (unit_vectors w)
forms_of_entries zero [] l h = tt
forms_of_entries zero (a ∷ x) l h = absurd (omega arith)
forms_of_entries (suc w) [] l h = absurd (omega arith)
forms_of_entries (suc w) (a ∷ x) l h = (omega (arith, ints, h.0, zero-dot w x), shift_back a x (unit_vectors w) (forms_of_entries w x (omega arith) h.1))

none_some : {A : Type 0} (o : Option A) (P : A → Type 0) → o ≡ None → IfSome o P
none_some o P e = subst (λ (p : Option _). IfSome p P) (sym e) tt

-- what has entries of at least 0 and meets the congruences is a member
pub member_of : (s : System) → IsOrthant s → (x : Vector) → length x ≡ s.width → NonNegative x → Holds s.cg x → IsMember s x
member_of s o x l n h = record {
  width = l;
  equations = subst (λ (fs : List Vector). Each (λ f. dot f x ≡ pos 0) fs) (sym o.no_equations) tt;
  congruences = h;
  inequalities = subst (λ (fs : List Vector). Each (λ f. pos 0 ≤ℤ dot f x) fs) (sym o.orthant) (forms_of_entries s.width x l n);
  generated = none_some s.gens _ o.no_generators;
  in_group = none_some s.lat _ o.no_group;
}

-- a member has entries of at least 0
pub non_negative : (s : System) → IsOrthant s → (x : Vector) → IsMember s x → NonNegative x
non_negative s o x m = entries_of_forms s.width x m.width (subst (λ (fs : List Vector). Each (λ f. pos 0 ≤ℤ dot f x) fs) o.orthant m.inequalities)

holds_minus : (cg : List Congruence) (x y : Vector) → length x ≡ length y → Holds cg x → Holds cg y → Holds cg (minus x y)
holds_minus [] x y l h k = tt
holds_minus (c ∷ cg) x y l h k =
    let e = multiple_sub c.modulus _ _ h.0 k.0 in
    (rw (dot-minus c.form x y l) e, holds_minus cg x y l h.1 k.1)

minus_non_negative : (x y : Vector) → IsBelow y x → NonNegative (minus x y)
minus_non_negative [] [] h = tt
minus_non_negative [] (b ∷ y) h = absurd h
minus_non_negative (a ∷ x) [] h = absurd h
minus_non_negative (a ∷ x) (b ∷ y) h = (omega (arith, ints, h.0), minus_non_negative x y h.1)

below_plus : (y z : Vector) → length y ≡ length z → NonNegative z → IsBelow y (plus y z)
below_plus [] z l h = tt
below_plus (a ∷ y) [] l h = absurd (omega arith)
below_plus (a ∷ y) (b ∷ z) l h = (omega (arith, ints, h.0), below_plus y z (omega arith) h.1)

-- what is left of a member when a member below it is taken away is a member
pub member_minus : (s : System) → IsOrthant s → (x y : Vector) → IsMember s x → IsMember s y → IsBelow y x → IsMember s (minus x y)
member_minus s o x y mx my b =
    let l : length x ≡ length y = mx.width ∙ sym my.width in
    member_of s o (minus x y) (length-minus x y l ∙ mx.width) (minus_non_negative x y b) (holds_minus _ x y l mx.congruences my.congruences)

pub irreducible_from : (s : System) → IsOrthant s → (x : Vector) → IsMember s x → IsNonzero x → HasNoOtherBelow (IsMember s) x → IsIrreducible (IsMember s) x
irreducible_from s o x m n none = record {
  member = m;
  nonzero = n;
  no_sum = λ y z my ny mz nz e.
      let l : length y ≡ length z = my.width ∙ sym mz.width in
      let b : IsBelow y x = subst (λ (v : Vector). IsBelow y v) e (below_plus y z l (non_negative s o z mz)) in
      none y my ny (λ (same : y ≡ x). nz (zero_of_same_plus y z l (e ∙ sym same))) b;
}

pub no_other_below : (s : System) → IsOrthant s → (x : Vector) → IsIrreducible (IsMember s) x → HasNoOtherBelow (IsMember s) x
no_other_below s o x i y my ny ne b =
    let l : length x ≡ length y = i.member.width ∙ sym my.width in
    i.no_sum y (minus x y) my ny (member_minus s o x y i.member my b)
    (λ (e : IsZero (minus x y)). ne (sym (same_of_zero_minus x y l e)))
    (plus-minus x y l)

-- one entry m, and 0 elsewhere
abbrev pub IsBump : ℤ → Vector → Type 0
IsBump m [] = ⊥
IsBump m (a ∷ e) = ((a ≡ m) × IsZero e) ⊎ ((a ≡ pos 0) × IsBump m e)

bump_dot : (d m : ℤ) (f e : Vector) → IsMultipleOf d m → IsBump m e → IsMultipleOf d (dot f e)
bump_dot d m [] e h b = multiple_zero d
bump_dot d m (c ∷ f) [] h b = absurd b
bump_dot d m (c ∷ f) (a ∷ e) h (inl (p, q)) =
    let z : dot f e ≡ pos 0 = dot-IsZero f e q in
    multiple_add d (c *ℤ a) (dot f e) (rw p (multiple_mul d c m h)) (rw z (multiple_zero d))
bump_dot d m (c ∷ f) (a ∷ e) h (inr (p, q)) =
    multiple_add d (c *ℤ a) (dot f e) (rw p (multiple_mul d c (pos 0) (multiple_zero d))) (bump_dot d m f e h q)

bump_holds : (cg : List Congruence) (m : ℤ) (e : Vector) → Each (λ (c : Congruence). IsMultipleOf c.modulus m) cg → IsBump m e → Holds cg e
bump_holds [] m e h b = tt
bump_holds (c ∷ cg) m e h b = (bump_dot c.modulus m c.form e h.0 b, bump_holds cg m e h.1 b)

zero_non_negative : (x : Vector) → IsZero x → NonNegative x
zero_non_negative [] z = tt
zero_non_negative (a ∷ x) z = (omega (arith, ints, z.0), zero_non_negative x z.1)

bump_non_negative : (m : ℤ) (e : Vector) → pos 1 ≤ℤ m → IsBump m e → NonNegative e
bump_non_negative m [] h b = tt
bump_non_negative m (a ∷ e) h (inl (p, q)) = (omega (arith, ints), zero_non_negative e q)
bump_non_negative m (a ∷ e) h (inr (p, q)) = (omega (arith, ints), bump_non_negative m e h q)

bump_nonzero : (m : ℤ) (e : Vector) → pos 1 ≤ℤ m → IsBump m e → IsNonzero e
bump_nonzero m [] h b z = b
bump_nonzero m (a ∷ e) h (inl (p, q)) z = omega (arith, ints, p, z.0)
bump_nonzero m (a ∷ e) h (inr (p, q)) z = bump_nonzero m e h q z.1

-- some entry of x is above m: m can be taken from it, and something is left
pub record Exceeds (m : ℤ) (x : Vector) : Type 0 where
  pub bump : Vector
  pub same : length bump ≡ length x
  pub is_bump : IsBump m bump
  pub below : IsBelow bump x
  pub other : bump ≢ x

below_zeros : (x : Vector) → NonNegative x → IsBelow (zero_vector (length x)) x
below_zeros [] h = tt
below_zeros (a ∷ x) h = (h.0, below_zeros x h.1)

pub within_or_exceeds : (m : ℤ) (x : Vector) → NonNegative x → Each (λ a. a ≤ℤ m) x ⊎ Exceeds m x
within_or_exceeds m [] h = inl tt
within_or_exceeds m (a ∷ x) h = by_lt_z m a
    (λ (lt : m <ℤ a). inr (record {
      bump = m ∷ zero_vector (length x);
      same = ap suc (length-replicate (length x) (pos 0));
      is_bump = inl (refl, IsZero-zero_vector (length x));
      below = (omega (arith, ints), below_zeros x h.1);
      other = λ (e : (m ∷ zero_vector (length x)) ≡ (a ∷ x)). let s : m ≡ a = cc in omega (arith, ints);
    }))
    (λ (le : a ≤ℤ m). elim (within_or_exceeds m x h.1) [
      | inl all ↦ inl (le, all)
      | inr big ↦ inr (record {
        bump = pos 0 ∷ big.bump;
        same = ap suc big.same;
        is_bump = inr (refl, big.is_bump);
        below = (h.0, big.below);
        other = λ (e : (pos 0 ∷ big.bump) ≡ (a ∷ x)). let s : big.bump ≡ x = cc in big.other s;
      })
    ])

pub within_signs : (m : ℕ) (x : Vector) → IsWithin m x → NonNegative x
within_signs m [] h = tt
within_signs m (a ∷ x) h = (h.0.0, within_signs m x h.1)

pub within_bounds : (m : ℕ) (x : Vector) → NonNegative x → Each (λ a. a ≤ℤ pos m) x → IsWithin m x
within_bounds m [] h k = tt
within_bounds m (a ∷ x) h k = ((h.0, k.0), within_bounds m x h.1 k.1)

pub zero_within : (m w : ℕ) → IsWithin m (zero_vector w)
zero_within m zero = tt
zero_within m (suc w) = ((omega (arith, ints), omega (arith, ints)), zero_within m w)

-- every irreducible element has entries of at most m
pub irreducible_in_box : (s : System) → IsOrthant s → (m : ℕ) → 1 ≤ m → IsCommonMultiple s m → (x : Vector) → IsIrreducible (IsMember s) x → Each (λ a. a ≤ℤ pos m) x
irreducible_in_box s o m one common x i = elim (within_or_exceeds (pos m) x (non_negative s o x i.member)) [
  | inl all ↦ all
  | inr big ↦ (let p : pos 1 ≤ℤ pos m = omega (arith, ints) in
      absurd (no_other_below s o x i big.bump
      (member_of s o big.bump (big.same ∙ i.member.width) (bump_non_negative (pos m) big.bump p big.is_bump) (bump_holds _ (pos m) big.bump common big.is_bump))
      (bump_nonzero (pos m) big.bump p big.is_bump) big.other big.below))
]

-- every irreducible element lies in the box
pub irreducible_within : (s : System) → IsOrthant s → (m : ℕ) → 1 ≤ m → IsCommonMultiple s m → (x : Vector) → IsIrreducible (IsMember s) x → IsWithin m x
irreducible_within s o m one common x i = within_bounds m x (non_negative s o x i.member) (irreducible_in_box s o m one common x i)
