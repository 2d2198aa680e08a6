-- Dual pairs: forms and vectors, where each form has a positive value at its own vector and is 0 at the others.
use Rattle.std.specs.Prelude.{◌≡◌, ℕ, List, [], ◌∷◌, length, ℤ, pos, ◌*ℤ◌, ◌<ℤ◌}
use Rattle.std.specs.List.{AllByRecursion as Each}
use Rattle.nz_spec.specs.Vectors.{Vector, dot, plus, scaled, zero_vector}

-- a form and a vector
pub record Pair : Type 0 where
  pub form : Vector
  pub vector : Vector

-- the pair of these two
abbrev pub pair_of : Vector → Vector → Pair
pair_of f v = record { form = f; vector = v }

-- the value of the form at its own vector
abbrev pub divisor : Pair → ℤ
divisor p = dot p.form p.vector

-- each form is 0 at the other vector
pub record IsApart (p q : Pair) : Type 0 where
  pub there : dot p.form q.vector ≡ pos 0
  pub back : dot q.form p.vector ≡ pos 0

-- the form and the vector have w entries
pub record HasWidths (w : ℕ) (p : Pair) : Type 0 where
  pub form_width : length p.form ≡ w
  pub vector_width : length p.vector ≡ w

-- each form is positive at its own vector, and 0 at the others
abbrev pub IsDual : List Pair → Type 0
IsDual [] = Unit {0}
IsDual (p ∷ ps) = (pos 0 <ℤ divisor p) × Each (IsApart p) ps × IsDual ps

-- a dual pair: forms and vectors of one width, each form positive at its own vector and 0 at the others
pub record IsDualPair (w : ℕ) (ps : List Pair) : Type 0 where
  pub widths : Each (HasWidths w) ps
  pub dual : IsDual ps

-- all the forms are 0 at x
abbrev pub AllVanish : List Pair → Vector → Type 0
AllVanish ps x = Each (λ p. dot p.form x ≡ pos 0) ps

-- only the zero vector of this width has the value 0 at each form
abbrev pub OnlyZero : ℕ → List Pair → Type 0
OnlyZero w ps = (x : Vector) → length x ≡ w → AllVanish ps x → x ≡ zero_vector w

-- a set that is closed under sums and multiples
pub record IsSpace (w : ℕ) (In : Vector → Type 0) : Type 0 where
  pub width : (x : Vector) → In x → length x ≡ w
  pub sum_in : (x y : Vector) → In x → In y → In (plus x y)
  pub multiple_in : (k : ℤ) (x : Vector) → In x → In (scaled k x)

-- of the set, only the zero vector has the value 0 at each form
pub record IsCompleteOn (w : ℕ) (In : Vector → Type 0) (ps : List Pair) : Type 0 where
  pub vectors_in : Each (λ p. In p.vector) ps
  pub only_zero : (x : Vector) → In x → AllVanish ps x → x ≡ zero_vector w

-- the product of the divisors
abbrev pub product : List Pair → ℤ
product [] = pos 1
product (p ∷ ps) = divisor p *ℤ product ps

-- the sum of the vectors, each taken with the product of the other divisors times its form's value at x
abbrev pub spread : ℕ → List Pair → Vector → Vector
spread w [] x = zero_vector w
spread w (p ∷ ps) x = plus (scaled (product ps *ℤ dot p.form x) p.vector) (scaled (divisor p) (spread w ps x))

-- the factors of that sum
abbrev pub spread_factors : List Pair → Vector → List ℤ
spread_factors [] x = []
spread_factors (p ∷ ps) x = (product ps *ℤ dot p.form x) ∷ scaled (divisor p) (spread_factors ps x)
