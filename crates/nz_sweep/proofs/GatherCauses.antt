-- What is large where the coordinate at a pivot cannot take in another.
use Rattle.std.proofs.Common.{◌≡◌, ◌⊎◌, ⊎_elim, [], ◌∷◌, ℤ, pos, ◌*ℤ◌, ◌<ℤ◌, refl, sym, ap, ◌∙◌, subst, arith}
use Rattle.std.specs.Prelude.{Option, Some, None, MatchOption, Result, Ok, Err, MatchResult, unsigned_abs}
use Rattle.std.specs.List.{Contains}
use Rattle.std.proofs.lemmas.Int.{ints}
use Rattle.nz_spec.specs.Vectors.{Vector, plus, scaled}
use Rattle.nz_spec.proofs.ListLaws.{contains_here, contains_there}
use Rattle.nz_linear.proofs.Ring.{sums, ring_z}
use Rattle.nz_scalar.specs.Exact.{Gives, GivesSuch}
use Rattle.nz_scalar.specs.Division.{IsFloorQuotient, HasGcd}
use Rattle.nz_scalar.specs.Room.{HasRoom}
use Rattle.nz_vec.specs.Combinations.{CombinationFits}
use Rattle.nz_sweep.specs.Duals.{Coordinate}
use Rattle.nz_sweep.specs.Numbers.{SomeNumberLarge, IsTakingNumber, of_both, multiple, factor, form_in, divisor_in}
use Rattle.nz_sweep.specs.Rounds.{AreFactors, IsInLowestTerms, IsTakenIn}
use Rattle.nz_sweep.proofs.LowerLemmas.{exact_of, gcd_above}
use Rattle.nz_sweep.proofs.NumberLemmas.{quotient_size}
use Rattle.nz_sweep.proofs.DivisionCauses.{least_of, combination_large}

-- ---- answers of calls
pub option_such : {T : Type 0} (integer : T → ℤ) (fits P : ℤ → Type 0) (Q : Type 0) (R : T → Type 0) (o : Option T) → GivesSuch integer fits o P → (((z : ℤ) → P z → ¬ fits z) → Q) → ((x : T) → P (integer x) → R x) → MatchOption o Q R
option_such integer fits P Q R None h f k = f h
option_such integer fits P Q R (Some x) h f k = k x h.1

pub option_given : {T : Type 0} (integer : T → ℤ) (fits : ℤ → Type 0) (z : ℤ) (Q : Type 0) (R : T → Type 0) (o : Option T) → Gives integer fits o z → (¬ fits z → Q) → ((x : T) → integer x ≡ z → R x) → MatchOption o Q R
option_given integer fits z Q R None h f k = f h
option_given integer fits z Q R (Some x) h f k = k x h.1

pub result_map : {A E : Type 0} (P Q : A → Type 0) (R S : E → Type 0) (r : Result A E) → ((x : A) → P x → Q x) → ((e : E) → R e → S e) → MatchResult r P R → MatchResult r Q S
result_map P Q R S (Ok x) f g h = f x h
result_map P Q R S (Err e) f g h = g e h

-- ---- one coordinate takes in another
pub factors_are : (o p : Coordinate) (g a b : ℤ) → pos 0 <ℤ o.divisor → pos 0 <ℤ p.divisor → HasGcd (o.divisor ∷ p.divisor ∷ []) g → IsFloorQuotient p.divisor g a → IsFloorQuotient o.divisor g b → AreFactors o p (a *ℤ o.divisor) a b
factors_are o p g a b po pp h fa fb =
    let pg = gcd_above o.divisor p.divisor g po h in
    let x = exact_of p.divisor g a pg h.divides.1.0 fa in
    let y = exact_of o.divisor g b pg h.divides.0 fb in
    record { least = least_of o.divisor p.divisor g a b po pp pg h x y; first = refl; second = ap (λ t. a *ℤ t) (sym y) ∙ swap a g b ∙ ap (λ t. b *ℤ t) x }
  where
    swap : (a g b : ℤ) → a *ℤ (g *ℤ b) ≡ b *ℤ (g *ℤ a)
    swap a g b = simp ring_z (omega (arith, sums))

pub above_size : (h d : ℤ) → h <ℤ d → h <ℤ pos (unsigned_abs d)
above_size h d l = omega (arith, ints, l)

pub own_divisor_large : (h q : ℤ) (o p : Coordinate) → h <ℤ o.divisor → SomeNumberLarge h (IsTakingNumber q o p)
own_divisor_large h q o p l = record { number = o.divisor; is_number = of_both (divisor_in {c = o} (contains_here o (p ∷ []))); large = above_size h o.divisor l }

pub multiple_large : (h q : ℤ) (o p : Coordinate) (m s t : ℤ) → AreFactors o p m s t → h <ℤ pos (unsigned_abs m) → SomeNumberLarge h (IsTakingNumber q o p)
multiple_large h q o p m s t k l = record { number = m; is_number = multiple k; large = l }

pub factor_large : (h q : ℤ) (o p : Coordinate) (m s t : ℤ) → AreFactors o p m s t → h <ℤ pos (unsigned_abs (q *ℤ t)) → SomeNumberLarge h (IsTakingNumber q o p)
factor_large h q o p m s t k l = record { number = q *ℤ t; is_number = factor k; large = l }

pub taking_large : (h : ℤ) (fits : ℤ → Type 0) → HasRoom h fits → (q : ℤ) (o p : Coordinate) (m s t b : ℤ) → pos 0 <ℤ o.divisor → AreFactors o p m s t → b ≡ q *ℤ t → ¬ CombinationFits fits s o.form b p.form → SomeNumberLarge h (IsTakingNumber q o p)
taking_large h fits r q o p m s t b pd k e n = told (combination_large h fits r s o.form b p.form n)
  where
    told : SomeNumberLarge h (λ n. (n ≡ s) ⊎ (n ≡ b) ⊎ Contains o.form n ⊎ Contains p.form n) → SomeNumberLarge h (IsTakingNumber q o p)
    told u =
        let l = u.large in
        ⊎_elim
        (λ a. multiple_large h q o p m s t k (let z = quotient_size m s o.divisor (unsigned_abs m) k.first pd (omega arith) in let y = ap unsigned_abs a in omega (arith, ints, z, y, l)))
        (λ v. ⊎_elim
        (λ a. factor_large h q o p m s t k (subst (λ (z : ℤ). h <ℤ pos (unsigned_abs z)) (a ∙ e) l))
        (λ w. ⊎_elim
        (λ a. record { number = u.number; is_number = of_both (form_in {c = o} (contains_here o (p ∷ [])) a); large = l })
        (λ a. record { number = u.number; is_number = of_both (form_in {c = p} (contains_there o p (p ∷ []) (contains_here p [])) a); large = l })
        w)
        v)
        u.is_number

pub taken_in : (q : ℤ) (o p c : Coordinate) (m s t d f : ℤ) (form : Vector) → AreFactors o p m s t → d ≡ m → f ≡ q *ℤ t → form ≡ plus (scaled s o.form) (scaled f p.form) → IsInLowestTerms form d c → IsTakenIn q o p c
taken_in q o p c m s t d f form k ed ef e l = record {
  m = m;
  s = s;
  t = t;
  factors = k;
  lowest = subst (λ (u : Vector). IsInLowestTerms u m c) (e ∙ ap (λ u. plus (scaled s o.form) (scaled u p.form)) ef) (subst (λ (u : ℤ). IsInLowestTerms form u c) ed l);
}

pub taking_views : (h q : ℤ) (o o' p p' : Coordinate) → o ≡ o' → p ≡ p' → SomeNumberLarge h (IsTakingNumber q o p) → SomeNumberLarge h (IsTakingNumber q o' p')
taking_views h q o o' p p' e f s = subst (λ (u : Coordinate). SomeNumberLarge h (IsTakingNumber q u p')) e (subst (λ (u : Coordinate). SomeNumberLarge h (IsTakingNumber q o u)) f s)
