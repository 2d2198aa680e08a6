-- What is prepared of a simplex, at a column; and the causes in the words of a refusal.
use Rattle.std.proofs.Common.{◌≡◌, ℕ, ◌<◌, inl, inr, List, [], ◌∷◌, length, get_or, ℤ, Contains, refl, ap, ◌∙◌, subst, arith}
use Rattle.std.proofs.lemmas.List.{length-map, get_or-map}
use Rattle.std.proofs.lemmas.Slice.Zip.{AllZip-long}
use Rattle.std.specs.List.{AllByRecursion as Each, AllZip}
use Rattle.nz_spec.specs.Vectors.{Vector, dot, values_at, unit_vectors, HasWidth}
use Rattle.nz_spec.proofs.ListLaws.{contains_cases, contains_none, Each-contains}
use Rattle.nz_linear.specs.DualPairs.{Pair}
use Rattle.nz_linear.specs.Echelon.{unit_at}
use Rattle.nz_linear.proofs.Lists.{zip_to_right}
use Rattle.nz_vec.specs.declared.answers.Num.{Num}
use Rattle.nz_vec.specs.declared.answers.Num.TheVariants.{Range, NoMemory}
use Rattle.nz_classes.specs.Causes.{IsCaused}
use Rattle.nz_classes.specs.Classes.{IsRestOf}
use Rattle.nz_classes.specs.Steps.{IsPrepared}
use Rattle.nz_classes.specs.Walks.{paired, IsFullSimplex, IsNamed, IsTooLarge}
use Rattle.nz_classes.proofs.SimplexLemmas.{zip_at}
use Rattle.nz_vec.proofs.UnitLemmas.{length-unit_vectors, unit_vector_at}
use Rattle.nz_classes.proofs.WalkLemmas.{point_of}

pub caused_of : (bound : ℕ) (sides forms : List Vector) (e : Num) → (e ≡ Range → IsTooLarge bound sides forms) → IsCaused bound sides forms e
caused_of bound sides forms Range h = h refl
caused_of bound sides forms NoMemory h = tt

pub alone_named : (sides : List Vector) (x : Vector) → IsNamed sides x → (y : Vector) → Contains (x ∷ []) y → IsNamed sides y
alone_named sides x n y c = elim (contains_cases x [] y c) [
  | inl e ↦ subst (IsNamed sides) e n
  | inr d ↦ absurd (contains_none y d)
]

pub rest_named : (sides forms : List Vector) → IsFullSimplex sides forms → (x y : Vector) → IsRestOf (length sides) (paired forms sides) x y → IsNamed sides y
rest_named sides forms s x y r = inl (point_of sides forms s y r.width r.reduced)

pub rests_named : (sides forms : List Vector) → IsFullSimplex sides forms → (us units : List Vector) → AllZip (IsRestOf (length sides) (paired forms sides)) us units → (y : Vector) → Contains units y → IsNamed sides y
rests_named sides forms s us units z y c = Each-contains (IsNamed sides) units y (zip_to_right (IsRestOf (length sides) (paired forms sides)) (IsNamed sides) us units (λ u r h. rest_named sides forms s u r h) z) c

pub rests_wide : (w : ℕ) (ps : List Pair) (us units : List Vector) → AllZip (IsRestOf w ps) us units → Each (HasWidth w) units
rests_wide w ps us units z = zip_to_right (IsRestOf w ps) (HasWidth w) us units (λ u r h. h.width) z

module _ (sides forms : List Vector) (divisors : List ℤ) (units values : List Vector) (p : IsPrepared sides forms divisors units values) where
  pub units_long : length units ≡ length sides
  units_long = AllZip-long _ _ _ p.unit_points ∙ length-unit_vectors (length sides)

  pub values_long : length values ≡ length sides
  values_long = ap length p.values_are ∙ length-map units (values_at forms) ∙ units_long

  pub forms_long : (x : Vector) → length (values_at forms x) ≡ length sides
  forms_long x = length-map forms (λ f. dot f x) ∙ p.simplex.one_each

  module _ (column : ℕ) (l : column < length sides) where
    pub unit_is : IsRestOf (length sides) (paired forms sides) (unit_at (length sides) column) (get_or units column [])
    unit_is = subst (λ (u : Vector). IsRestOf (length sides) (paired forms sides) u (get_or units column [])) (unit_vector_at (length sides) column l) (zip_at _ (unit_vectors (length sides)) units column [] [] (omega (arith, l, length-unit_vectors (length sides))) p.unit_points)

    pub values_is : get_or values column [] ≡ values_at forms (get_or units column [])
    values_is = ap (λ (vs : List Vector). get_or vs column []) p.values_are ∙ get_or-map (values_at forms) units column [] [] (omega (arith, l, units_long))
