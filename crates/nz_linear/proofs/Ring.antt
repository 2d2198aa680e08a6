-- ℤ as a commutative ring: the laws that std lacks, and the recipe for identities: `simp ring_z (omega (arith, sums))`.
use Rattle.std.proofs.Common.{◌≡◌, ℤ, pos, ◌+ℤ◌, ◌*ℤ◌, neg_ℤ, sym, ap, ◌∙◌, arith}
use Rattle.std.proofs.lemmas.Int.{ints}
use Rattle.std.proofs.Math.IntN.{*ℤ_comm, zero-*ℤ, *ℤ-zero}
use borrow.Author.Differences.{same_out, same_in, Apart-out, lt_out, le_out, below_in, at_most_in, sum_is_lem, neg_is}
use Rattle.nz_spec.proofs.IntLaws.{mul-add, add-mul, mul-sub, sub-mul, mul_assoc}

-- linear arithmetic over ℤ where products are atoms
pub ruleset sums = (same_out, same_in, Apart-out, lt_out, le_out, below_in, at_most_in, sum_is_lem, neg_is)

pub neg-mul : (a b : ℤ) → neg_ℤ a *ℤ b ≡ neg_ℤ (a *ℤ b)
neg-mul a b = let e : neg_ℤ a +ℤ a ≡ pos 0 = omega (arith, sums) in omega (arith, sums, add-mul (neg_ℤ a) a b, ap (λ t. t *ℤ b) e, zero-*ℤ b)

pub mul-neg : (a b : ℤ) → a *ℤ neg_ℤ b ≡ neg_ℤ (a *ℤ b)
mul-neg a b = *ℤ_comm a (neg_ℤ b) ∙ neg-mul b a ∙ ap neg_ℤ (*ℤ_comm b a)

pub mul_left_comm : (a b c : ℤ) → a *ℤ (b *ℤ c) ≡ b *ℤ (a *ℤ c)
mul_left_comm a b c = sym (mul_assoc a b c) ∙ ap (λ t. t *ℤ c) (*ℤ_comm a b) ∙ mul_assoc b a c

pub one-mul : (a : ℤ) → pos 1 *ℤ a ≡ a
one-mul a = omega (arith, ints)

pub mul-one : (a : ℤ) → a *ℤ pos 1 ≡ a
mul-one a = omega (arith, ints)

pub mul-two : (a : ℤ) → a *ℤ pos 2 ≡ a +ℤ a
mul-two a = omega (arith, ints)

pub two-mul : (a : ℤ) → pos 2 *ℤ a ≡ a +ℤ a
two-mul a = omega (arith, ints)

pub ruleset ring_z = (mul-add, add-mul, neg-mul, mul-neg, zero-*ℤ, *ℤ-zero, one-mul, mul-one, two-mul, mul-two, mul_assoc, mul_left_comm, *ℤ_comm)

-- ---- identities that many proofs use
pub cross_gone : (a b : ℤ) → a *ℤ b +ℤ neg_ℤ b *ℤ a ≡ pos 0
cross_gone a b = simp ring_z (omega (arith, sums))

pub zero_sum : (c d x y : ℤ) → x ≡ pos 0 → y ≡ pos 0 → c *ℤ x +ℤ d *ℤ y ≡ pos 0
zero_sum c d x y e f = omega (arith, sums, ap (λ t. c *ℤ t) e, ap (λ t. d *ℤ t) f, *ℤ-zero c, *ℤ-zero d)

pub both_zero : (a x b y : ℤ) → x ≡ pos 0 → y ≡ pos 0 → a *ℤ x ≡ b *ℤ y
both_zero a x b y e h = ap (λ t. a *ℤ t) e ∙ *ℤ-zero a ∙ sym (ap (λ t. b *ℤ t) h ∙ *ℤ-zero b)
