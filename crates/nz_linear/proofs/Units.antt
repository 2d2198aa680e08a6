-- Entries of vectors: unit vectors, the first and the last entry that is not 0.
use Rattle.std.proofs.Common.{◌≡◌, ◌≢◌, ℕ, zero, suc, ◌<◌, List, [], ◌∷◌, length, map, ℤ, pos, ◌+ℤ◌, ◌*ℤ◌, refl, sym, ap, ap₂, ◌∙◌, arith}
use Rattle.std.proofs.Math.IntN.{*ℤ-zero}
use Rattle.std.specs.List.{Contains}
use Rattle.nz_spec.specs.Vectors.{Vector, dot, plus, scaled, zero_vector, entry, unit_vectors, HasWidth}
use Rattle.nz_spec.specs.Forms.{LeadsAt}
use Rattle.nz_spec.proofs.IntLaws.{zero_product}
use Rattle.nz_spec.proofs.VectorLaws.{dot-scaled, dot-zero}
use Rattle.nz_spec.proofs.SumLaws.{length-zero_vector}
use Rattle.nz_spec.proofs.ListLaws.{contains_here, contains_there}
use Rattle.nz_spec.proofs.EquationLaws.{dot_comm, dot_at_lead, entry_at_lead}
use Rattle.nz_linear.proofs.Ring.{sums, mul-one}
use Rattle.nz_linear.proofs.VectorLaws.{length-scaled, length-plus, dot-plus}
use Rattle.nz_linear.specs.Echelon.{unit_at, EndsAt}

-- ---- unit vectors
pub length-unit_at : (w j : ℕ) → length (unit_at w j) ≡ w
length-unit_at zero j = refl
length-unit_at (suc w) zero = ap suc (length-zero_vector w)
length-unit_at (suc w) (suc j) = ap suc (length-unit_at w j)

-- the value of a form at a unit vector is its entry there
pub dot-unit_at : (w j : ℕ) (f : Vector) → HasWidth w f → dot f (unit_at w j) ≡ entry f j
dot-unit_at w j [] h = refl
dot-unit_at zero j (a ∷ f) h = absurd (omega arith)
dot-unit_at (suc w) zero (a ∷ f) h = omega (arith, sums, mul-one a, dot-zero f w)
dot-unit_at (suc w) (suc j) (a ∷ f) h = omega (arith, sums, *ℤ-zero a, dot-unit_at w j f (omega arith))

pub unit_at-dot : (w j : ℕ) (x : Vector) → HasWidth w x → dot (unit_at w j) x ≡ entry x j
unit_at-dot w j x h = dot_comm (unit_at w j) x ∙ dot-unit_at w j x h

pub entry-zero_vector : (w j : ℕ) → entry (zero_vector w) j ≡ pos 0
entry-zero_vector zero j = refl
entry-zero_vector (suc w) zero = refl
entry-zero_vector (suc w) (suc j) = entry-zero_vector w j

pub entry-unit_own : (w j : ℕ) → j < w → entry (unit_at w j) j ≡ pos 1
entry-unit_own zero j h = absurd (omega arith)
entry-unit_own (suc w) zero h = refl
entry-unit_own (suc w) (suc j) h = entry-unit_own w j (omega arith)

pub entry-unit_other : (w j k : ℕ) → j ≢ k → entry (unit_at w j) k ≡ pos 0
entry-unit_other zero j k n = refl
entry-unit_other (suc w) zero zero n = absurd (n refl)
entry-unit_other (suc w) zero (suc k) n = entry-zero_vector w k
entry-unit_other (suc w) (suc j) zero n = refl
entry-unit_other (suc w) (suc j) (suc k) n = entry-unit_other w j k (λ e. n (ap suc e))

pub unit_at_listed : (w j : ℕ) → j < w → Contains (unit_vectors w) (unit_at w j)
unit_at_listed zero j h = absurd (omega arith)
unit_at_listed (suc w) zero h = contains_here (pos 1 ∷ zero_vector w) _
unit_at_listed (suc w) (suc j) h = contains_there (pos 1 ∷ zero_vector w) (pos 0 ∷ unit_at w j) _ (contains_mapped (unit_vectors w) (unit_at w j) (unit_at_listed w j (omega arith)))
  where
    contains_mapped : (us : List Vector) (u : Vector) → Contains us u → Contains (map (λ v. pos 0 ∷ v) us) (pos 0 ∷ u)
    contains_mapped [] u (k, h, e) = absurd (omega arith)
    contains_mapped (v ∷ us) u (zero, h, e) = (zero, omega arith, ap (λ t. pos 0 ∷ t) e)
    contains_mapped (v ∷ us) u (suc k, h, e) = contains_there (pos 0 ∷ v) (pos 0 ∷ u) _ (contains_mapped us u (k, omega arith, e))

pub entry_sum : (w : ℕ) (k : ℤ) (x y : Vector) (j : ℕ) → HasWidth w x → HasWidth w y → entry (plus (scaled k x) y) j ≡ k *ℤ entry x j +ℤ entry y j
entry_sum w k x y j lx ly =
    let e = unit_at w j in
    let ls = length-scaled w k x lx in
    sym (unit_at-dot w j (plus (scaled k x) y) (length-plus w (scaled k x) y ls ly)) ∙ dot-plus w e (scaled k x) y ls ly ∙ ap₂ ◌+ℤ◌ (dot-scaled e k x ∙ ap (λ t. k *ℤ t) (unit_at-dot w j x lx)) (unit_at-dot w j y ly)

-- ---- the first and the last nonzero entry
pub leads_at : (x : Vector) (j : ℕ) → entry x j ≢ pos 0 → ((k : ℕ) → k < j → entry x k ≡ pos 0) → LeadsAt j x
leads_at [] j n z = n refl
leads_at (a ∷ x) zero n z = n
leads_at (a ∷ x) (suc j) n z = (z 0 (omega arith), leads_at x j n (λ k l. z (suc k) (omega arith)))

-- a form that ends where a vector begins is not 0 at it
pub value_at_end : (f x : Vector) (j : ℕ) → EndsAt j f → LeadsAt j x → dot f x ≢ pos 0
value_at_end f x j e l = λ h. entry_at_lead x j l (zero_product (entry f j) (entry x j) e.nonzero (sym (dot_at_lead f x j l e.after) ∙ h))
