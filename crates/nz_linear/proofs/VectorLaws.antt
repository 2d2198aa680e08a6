-- Laws of vectors and forms of one width: lengths, linearity of the value, cancellation.
-- The width is the first argument of each law that needs one, so that `simp` can be given `dot-plus w` and finds the rest; laws without a width are those of nz_spec.
use Rattle.std.proofs.Common.{◌≡◌, ℕ, zero, suc, [], ◌∷◌, length, ℤ, pos, negsuc, ◌+ℤ◌, ◌*ℤ◌, ◌<ℤ◌, refl, sym, ap, ◌∙◌, arith}
use Rattle.std.proofs.lemmas.Int.{ints}
use Rattle.std.proofs.Math.IntN.{zero-*ℤ}
use Rattle.nz_spec.specs.Vectors.{Vector, dot, plus, scaled, zero_vector}
use Rattle.nz_spec.proofs.VectorLaws.{dot-scaled, dot-zero, plus_comm, plus_assoc, scaled-scaled, scaled-zero}
use Rattle.nz_spec.proofs.VectorLaws as spec
use Rattle.nz_spec.proofs.SumLaws.{length-zero_vector}
use Rattle.nz_spec.proofs.EquationLaws.{dot_comm}
use Rattle.nz_spec.proofs.PrimitiveLaws.{scaled_cancel}
use Rattle.nz_linear.proofs.Ring.{sums, one-mul}

pub cons_same : {a b : ℤ} {x y : Vector} → a ≡ b → x ≡ y → (a ∷ x) ≡ (b ∷ y)
cons_same e r = λ i. e i ∷ r i

-- ---- lengths
pub length-plus : (w : ℕ) (x y : Vector) → length x ≡ w → length y ≡ w → length (plus x y) ≡ w
length-plus w x y h k = spec.length-plus x y (h ∙ sym k) ∙ h

pub length-scaled : (w : ℕ) (k : ℤ) (x : Vector) → length x ≡ w → length (scaled k x) ≡ w
length-scaled w k x h = spec.length-scaled k x ∙ h

-- ---- the value is linear in both arguments
pub dot-plus : (w : ℕ) (f x y : Vector) → length x ≡ w → length y ≡ w → dot f (plus x y) ≡ dot f x +ℤ dot f y
dot-plus w f x y h k = spec.dot-plus f x y (h ∙ sym k)

pub plus-dot : (w : ℕ) (f g x : Vector) → length f ≡ w → length g ≡ w → dot (plus f g) x ≡ dot f x +ℤ dot g x
plus-dot w f g x h k = omega (arith, sums, dot_comm (plus f g) x, dot-plus w x f g h k, dot_comm f x, dot_comm g x)

pub scaled-dot : (k : ℤ) (f x : Vector) → dot (scaled k f) x ≡ k *ℤ dot f x
scaled-dot k f x = dot_comm (scaled k f) x ∙ dot-scaled x k f ∙ ap (λ t. k *ℤ t) (dot_comm x f)

-- ---- two vectors at which every form has one value are the same
pub same_values : (w : ℕ) (x y : Vector) → length x ≡ w → length y ≡ w → ((f : Vector) → dot f x ≡ dot f y) → x ≡ y
same_values w [] [] h k e = refl
same_values w [] (b ∷ y) h k e = absurd (omega arith)
same_values w (a ∷ x) [] h k e = absurd (omega arith)
same_values zero (a ∷ x) (b ∷ y) h k e = absurd (omega arith)
same_values (suc w) (a ∷ x) (b ∷ y) h k e =
    let first : a ≡ b = omega (arith, sums, e (pos 1 ∷ []), one-mul a, one-mul b) in
    cons_same first (same_values w x y (omega arith) (omega arith) (λ f. omega (arith, sums, e (pos 0 ∷ f), zero-*ℤ a, zero-*ℤ b)))

-- ---- the module laws
pub plus_left_comm : (x y z : Vector) → plus x (plus y z) ≡ plus y (plus x z)
plus_left_comm x y z = sym (plus_assoc x y z) ∙ ap (λ t. plus t z) (plus_comm x y) ∙ plus_assoc y x z

pub zero-plus : (w : ℕ) (x : Vector) → length x ≡ w → plus (zero_vector w) x ≡ x
zero-plus w x h = spec.zero-plus x w h

pub plus-zero : (w : ℕ) (x : Vector) → length x ≡ w → plus x (zero_vector w) ≡ x
plus-zero w x h = plus_comm x (zero_vector w) ∙ zero-plus w x h

pub zero-scaled : (w : ℕ) (x : Vector) → length x ≡ w → scaled (pos 0) x ≡ zero_vector w
zero-scaled w x h = spec.zero-scaled x ∙ ap zero_vector h

-- ---- cancellation
pub cancel_plus : (w : ℕ) (x y z : Vector) → length x ≡ w → length y ≡ w → length z ≡ w → plus x y ≡ plus x z → y ≡ z
cancel_plus w x y z h k l e = same_values w y z k l (λ f. omega (arith, sums, ap (dot f) e, dot-plus w f x y h k, dot-plus w f x z h l))

pub cancel_scaled : (w : ℕ) (k : ℤ) (x y : Vector) → pos 0 <ℤ k → length x ≡ w → length y ≡ w → scaled k x ≡ scaled k y → x ≡ y
cancel_scaled w k x y p h l e = scaled_cancel k (λ z. omega (arith, sums)) x y e

pub scaled_is_zero : (w : ℕ) (k : ℤ) (x : Vector) → pos 0 <ℤ k → length x ≡ w → scaled k x ≡ zero_vector w → x ≡ zero_vector w
scaled_is_zero w k x p h e = cancel_scaled w k x (zero_vector w) p h (length-zero_vector w) (e ∙ sym (scaled-zero k w))

-- a sum that is zero: the one is the opposite of the other
pub plus_is_zero : (w : ℕ) (x y : Vector) → length x ≡ w → length y ≡ w → plus x y ≡ zero_vector w → x ≡ scaled (negsuc 0) y
plus_is_zero w x y h k e = same_values w x (scaled (negsuc 0) y) h (length-scaled w (negsuc 0) y k) (λ f. omega (arith, ints, dot-scaled f (negsuc 0) y, ap (dot f) e, dot-plus w f x y h k, dot-zero f w))

pub ruleset lengths = (length-plus, length-scaled, length-zero_vector)
