-- Where a type has room, rows of numbers within h can be combined and then made primitive.
use Rattle.std.proofs.Common.{[], ◌∷◌, ℤ}
use Rattle.std.specs.List.{AllByRecursion as Each}
use Rattle.nz_spec.specs.Vectors.{Vector, plus, scaled}
use Rattle.nz_scalar.specs.Room.{IsWithin, HasRoom}
use Rattle.nz_scalar.proofs.RoomLemmas.{IsCovered, sum_covered, product_covered}
use Rattle.nz_vec.specs.Combinations.{CombinationFits}

module _ (h : ℤ) (fits : ℤ → Type 0) (room : HasRoom h fits) (a b : ℤ) (p : IsWithin h a) (q : IsWithin h b) where
  pub combination_fits : (u v : Vector) → Each (IsWithin h) u → Each (IsWithin h) v → CombinationFits fits a u b v
  combination_fits [] v f g = tt
  combination_fits (x ∷ u) [] f g = tt
  combination_fits (x ∷ u) (y ∷ v) f g = (((product_covered h fits room a x p f.0).0, (product_covered h fits room b y q g.0).0, (sum_covered h fits room a x b y p f.0 q g.0).0), combination_fits u v f.1 g.1)

  pub combination_covered : (u v : Vector) → Each (IsWithin h) u → Each (IsWithin h) v → Each (IsCovered fits) (plus (scaled a u) (scaled b v))
  combination_covered [] v f g = tt
  combination_covered (x ∷ u) [] f g = tt
  combination_covered (x ∷ u) (y ∷ v) f g = (sum_covered h fits room a x b y p f.0 q g.0, combination_covered u v f.1 g.1)
