-- A base of the group that rows generate, and bases in echelon form.
use Rattle.std.specs.Prelude.{◌≡◌, ℕ, suc, ◌<◌, List, [], ◌∷◌, pos}
use Rattle.std.specs.List.{AllByRecursion as Each, AllZip}
use Rattle.nz_spec.specs.Vectors.{Vector, entry}
use Rattle.nz_spec.specs.Order.{Pairwise}
use Rattle.nz_spec.specs.Forms.{LeadsAt}
use Rattle.nz_linear.specs.Echelon.{unit_at}
use Rattle.nz_sweep.specs.Clearing.{Valued, vectors_of, IsCleared}
use Rattle.nz_sweep.specs.Cuts.{AreValued, IsValueAt}

-- from column c on, of w columns: the entries of a column are cleared, and the row that is left with one is set apart as the next of the base
pub data AreSetApart (w : ℕ) : ℕ → List Vector → List Vector → Type 0 where
  done : {rows : List Vector} → AreSetApart w w rows []
  pass : {c : ℕ} {rows base : List Vector} → Each (λ v. entry v c ≡ pos 0) rows → AreSetApart w (suc c) rows base → AreSetApart w c rows base
  take : {c : ℕ} {rows base : List Vector} {values : List Valued} {place : ℕ} {own : Valued} {others : List Valued} → AreValued (IsValueAt (unit_at w c)) rows values → IsCleared values place own others → AreSetApart w (suc c) (vectors_of others) base → AreSetApart w c rows (own.vector ∷ base)

-- the vectors have their first nonzero entries at these columns, which increase
pub record AreLeading (columns : List ℕ) (vs : List Vector) : Type 0 where
  pub in_order : Pairwise ◌<◌ columns
  pub each : AllZip LeadsAt columns vs

-- the first nonzero entry of each vector stands to the right of that of the vector before it
abbrev pub IsEchelon : List Vector → Type 0
IsEchelon vs = (columns : List ℕ) × AreLeading columns vs
