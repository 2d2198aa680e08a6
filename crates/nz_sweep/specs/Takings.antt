-- One vector is taken out of a list: the values of a form are cleared, and the one that is left with a value is it.
use Rattle.std.specs.Prelude.{◌≡◌, ℕ, List, ℤ}
use Rattle.nz_spec.specs.Vectors.{Vector}
use Rattle.nz_sweep.specs.Clearing.{Valued, vectors_of, AreRounds, IsCleared}
use Rattle.nz_sweep.specs.Cuts.{AreValued, IsValueAt}
use Rattle.nz_sweep.specs.Numbers.{IsMeasureOf, IsOfValued}

-- the values of the form at the vectors are cleared: p is left with the value a, and us are the others
pub record IsTakenAt (h : Vector) (vs : List Vector) (p : Vector) (a : ℤ) (us : List Vector) : Type 0 where
  pub values : List Valued
  pub valued : AreValued (IsValueAt h) vs values
  pub place : ℕ
  pub own : Valued
  pub others : List Valued
  pub cleared : IsCleared values place own others
  pub own_vector : p ≡ own.vector
  pub own_value : a ≡ own.value
  pub left : us ≡ vectors_of others

-- the measures of the form at the vectors, and the entries and the values at each moment of clearing
pub data IsTakenNumber (h : Vector) (vs : List Vector) : ℤ → Type 0 where
  measured : {n : ℤ} → IsMeasureOf h vs n → IsTakenNumber h vs n
  at_moment : {values moment : List Valued} {n : ℤ} → AreValued (IsValueAt h) vs values → AreRounds values moment → IsOfValued moment n → IsTakenNumber h vs n
