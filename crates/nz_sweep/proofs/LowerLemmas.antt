-- What the code reckons of coordinates.
use Rattle.std.proofs.Common.{◌≡◌, ◌≢◌, inl, inr, ℕ, zero, suc, ◌+◌, ◌<◌, List, [], ◌∷◌, ◌++◌, length, map, get_or, take, ℤ, pos, ◌*ℤ◌, ◌+ℤ◌, ◌<ℤ◌, ◌≤ℤ◌, refl, sym, ap, ◌∙◌, subst, arith}
use Rattle.std.proofs.Math.IntN.{*ℤ-zero, *ℤ_comm}
use Rattle.std.specs.List.{AllByRecursion as Each}
use Rattle.std.proofs.lemmas.Int.{ints}
use Rattle.std.proofs.lemmas.List.{take_more}
use Rattle.nz_spec.specs.Vectors.{Vector, plus, scaled, entry, IsMultipleOf}
use Rattle.nz_spec.proofs.IntLaws.{mul_assoc}
use Rattle.nz_scalar.specs.Division.{IsFloorQuotient, HasGcd}
use Rattle.nz_linear.proofs.Ring.{sums, ring_z, one-mul}
use Rattle.nz_linear.proofs.Signs.{sign_cases, cancel_le, cancel_lt, mul_is_pos}
use Rattle.nz_linear.proofs.Lists.{each_map}
use Rattle.nz_sweep.specs.Duals.{Coordinate, IsLowered, IsJoined}
use Rattle.nz_scalar.specs.Room.{HasRoom}
use Rattle.nz_scalar.proofs.GcdLemmas.{divisor_le}
use Rattle.nz_sweep.proofs.PlaceLemmas.{each_more}
use Rattle.nz_sweep.proofs.DivisionCauses.{gcd_large}

-- one element more is copied
pub copy_more : {A : Type 0} (xs ys zs : List A) (i : ℕ) (x c : A) → i < length xs → x ≡ get_or xs i x → c ≡ x → ys ≡ take i xs → zs ≡ ys ++ (c ∷ []) → zs ≡ take (i + 1) xs
copy_more xs ys zs i x c l e k h s = s ∙ ap (λ t. t ++ (c ∷ [])) h ∙ ap (λ t. take i xs ++ (t ∷ [])) (k ∙ e) ∙ sym (take_more xs i x l)

-- the floor of a quotient by a divisor is exact
pub exact_of : (m g t : ℤ) → pos 0 <ℤ g → IsMultipleOf g m → IsFloorQuotient m g t → g *ℤ t ≡ m
exact_of m g t p k f =
    let b = f.above p in
    let low : (t *ℤ g) ≤ℤ (k.0 *ℤ g) = subst (λ (u : ℤ). (t *ℤ g) ≤ℤ u) k.1 b.0 in
    let high : (k.0 *ℤ g) <ℤ ((t +ℤ pos 1) *ℤ g) = subst (λ (u : ℤ). u <ℤ ((t +ℤ pos 1) *ℤ g)) k.1 b.1 in
    let x = cancel_le g t k.0 p (subst (λ (u : ℤ). (g *ℤ t) ≤ℤ u) (*ℤ_comm k.0 g) (subst (λ (u : ℤ). u ≤ℤ (k.0 *ℤ g)) (*ℤ_comm t g) low)) in
    let y = cancel_lt g k.0 (t +ℤ pos 1) p (subst (λ (u : ℤ). (g *ℤ k.0) <ℤ u) (*ℤ_comm (t +ℤ pos 1) g) (subst (λ (u : ℤ). u <ℤ ((t +ℤ pos 1) *ℤ g)) (*ℤ_comm k.0 g) high)) in
    let e : t ≡ k.0 = omega (arith, ints, x, y) in
    ap (λ u. g *ℤ u) e ∙ *ℤ_comm g k.0 ∙ sym k.1

pub positive_nonzero : (g : ℤ) → pos 0 <ℤ g → g ≢ pos 0
positive_nonzero g p e = omega (arith, ints, p, e)

multiple_through : (g h x : ℤ) → IsMultipleOf g h → IsMultipleOf h x → IsMultipleOf g x
multiple_through g h x a b = (b.0 *ℤ a.0, b.1 ∙ ap (λ t. b.0 *ℤ t) a.1 ∙ sym (mul_assoc b.0 a.0 g))

-- what divides a positive number is positive, if it is at least 0
pub divisor_above : (g c : ℤ) → pos 0 ≤ℤ g → pos 0 <ℤ c → IsMultipleOf g c → pos 0 <ℤ g
divisor_above g c n p k = elim (sign_cases g) [
  | inl z ↦ absurd (let e : c ≡ pos 0 = k.1 ∙ ap (λ t. k.0 *ℤ t) z ∙ *ℤ-zero k.0 in omega (arith, ints, e, p))
  | inr (inl a) ↦ a
  | inr (inr b) ↦ absurd (omega (arith, ints, b, n))
]

-- the greatest common divisor of a number and the first entries, and of one more
pub gcd_start : (d : ℤ) → pos 0 <ℤ d → HasGcd (d ∷ []) d
gcd_start d p = record { nonneg = omega (arith, ints, p); divides = ((pos 1, sym (one-mul d)), tt); greatest = λ k m. m.0 }

firsts : (P : ℤ → Type 0) (f : Vector) (i : ℕ) → Each P (take (suc i) f) → Each P (take i f)
firsts P f zero e = tt
firsts P [] (suc i) e = tt
firsts P (x ∷ f) (suc i) e = (e.0, firsts P f i e.1)

last_of : (P : ℤ → Type 0) (f : Vector) (i : ℕ) → i < length f → Each P (take (suc i) f) → P (entry f i)
last_of P [] i l e = absurd (omega (arith, l))
last_of P (x ∷ f) zero l e = e.0
last_of P (x ∷ f) (suc i) l e = last_of P f i (omega (arith, l)) e.1

pub gcd_more : (d c g : ℤ) (f : Vector) (i : ℕ) → i < length f → pos 0 <ℤ c → HasGcd (d ∷ take i f) c → HasGcd (c ∷ entry f i ∷ []) g → (pos 0 <ℤ g) × HasGcd (d ∷ take (i + 1) f) g
gcd_more d c g f i l p h n = (
  divisor_above g c n.nonneg p n.divides.0,
  record {
    nonneg = n.nonneg;
    divides = (multiple_through g c d n.divides.0 h.divides.0, each_more (IsMultipleOf g) (pos 0) f i l (each_map (IsMultipleOf c) (IsMultipleOf g) (take i f) (λ x m. multiple_through g c x n.divides.0 m) h.divides.1) n.divides.1.0);
    greatest = λ k m. let u = subst (λ (j : ℕ). Each (IsMultipleOf k) (take j f)) one_more m.1 in n.greatest k (h.greatest k (m.0, firsts (IsMultipleOf k) f i u), (last_of (IsMultipleOf k) f i l u, tt));
  },
)
  where
    one_more : i + 1 ≡ suc i
    one_more = omega arith

-- the first number is above the bound where there is none
pub gcd_first_large : (h : ℤ) (fits : ℤ → Type 0) → HasRoom h fits → (d c e : ℤ) (xs : Vector) → pos 0 <ℤ d → pos 0 <ℤ c → HasGcd (d ∷ xs) c → ((z : ℤ) → HasGcd (c ∷ e ∷ []) z → ¬ fits z) → h <ℤ d
gcd_first_large h fits r d c e xs pd pc k u =
    let l = gcd_large h fits r c e pc u in
    let m = divisor_le c d (omega (arith, ints, pc)) (omega (arith, ints, pd)) k.divides.0 in
    omega (arith, ints, l, m)

-- one entry more is divided
pub divided_more : {T : Type 0} (integer : T → ℤ) (by : ℤ) (f : Vector) (es fs : List T) (i : ℕ) (x : T) → i < length f → scaled by (map integer es) ≡ take i f → by *ℤ integer x ≡ entry f i → fs ≡ es ++ (x ∷ []) → scaled by (map integer fs) ≡ take (i + 1) f
divided_more integer by f es fs i x l e v s =
    ap (λ t. scaled by (map integer t)) s ∙ push es ∙ ap (λ u. u ++ ((by *ℤ integer x) ∷ [])) e ∙ ap (λ u. take i f ++ (u ∷ [])) v ∙ sym (take_more f i (pos 0) l)
  where
    push : (es : List _) → scaled by (map integer (es ++ (x ∷ []))) ≡ scaled by (map integer es) ++ ((by *ℤ integer x) ∷ [])
    push [] = refl
    push (y ∷ es) = ap (λ u. (by *ℤ integer y) ∷ u) (push es)

pub each_entry : (g : ℤ) (f : Vector) (i : ℕ) → Each (IsMultipleOf g) f → i < length f → IsMultipleOf g (entry f i)
each_entry g [] i h l = absurd (omega (arith, l))
each_entry g (x ∷ f) zero h l = h.0
each_entry g (x ∷ f) (suc i) h l = each_entry g f i h.1 (omega (arith, l))

-- the factors of two divisors to their least common multiple
pub record Factors (d e a b : ℤ) : Type 0 where
  pub factor : pos 0 <ℤ a
  pub balance : a *ℤ d ≡ b *ℤ e

pub factors_of : (d e g a b : ℤ) → pos 0 <ℤ d → pos 0 <ℤ e → HasGcd (d ∷ e ∷ []) g → IsFloorQuotient e g a → IsFloorQuotient d g b → Factors d e a b
factors_of d e g a b pd pe h fa fb =
    let p = divisor_above g d h.nonneg pd h.divides.0 in
    let x = exact_of e g a p h.divides.1.0 fa in
    let y = exact_of d g b p h.divides.0 fb in
    record { factor = mul_is_pos g a p (subst (λ (t : ℤ). pos 0 <ℤ t) (sym x) pe); balance = ap (λ t. a *ℤ t) (sym y) ∙ swap a g b ∙ ap (λ t. b *ℤ t) x }
  where
    swap : (a g b : ℤ) → a *ℤ (g *ℤ b) ≡ b *ℤ (g *ℤ a)
    swap a g b = simp ring_z (omega (arith, sums))

pub gcd_above : (d e g : ℤ) → pos 0 <ℤ d → HasGcd (d ∷ e ∷ []) g → pos 0 <ℤ g
gcd_above d e g p h = divisor_above g d h.nonneg p h.divides.0

pub joined_of : (q a b f d d' e' : ℤ) (own other c : Coordinate) (form of tf : Vector) → own.divisor ≡ d' → other.divisor ≡ e' → own.form ≡ of → other.form ≡ tf → Factors d' e' a b → d ≡ a *ℤ d' → f ≡ q *ℤ b → form ≡ plus (scaled a of) (scaled f tf) → IsLowered form d c → IsJoined q own other c
joined_of q a b f d d' e' own other c form of tf eo et fo ft k ed ef e l = record {
  a = a;
  b = b;
  factor = k.factor;
  balance = ap (λ t. a *ℤ t) eo ∙ k.balance ∙ ap (λ t. b *ℤ t) (sym et);
  lowered = subst (λ (t : Vector). IsLowered t (a *ℤ own.divisor) c) (e ∙ ap (λ (t : Vector). plus (scaled a t) (scaled f tf)) (sym fo) ∙ ap (λ (t : Vector). plus (scaled a own.form) (scaled f t)) (sym ft) ∙ ap (λ t. plus (scaled a own.form) (scaled t other.form)) ef) (subst (λ (t : ℤ). IsLowered form t c) (ed ∙ ap (λ t. a *ℤ t) (sym eo)) l);
}
