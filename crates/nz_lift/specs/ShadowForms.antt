-- The forms of a shadow, and its list from that of the shadow before.
use Rattle.std.specs.Prelude.{◌≡◌, ◌↔◌, ⊤, ℕ, suc, ℤ, pos, ◌≤ℤ◌, List, [], ◌∷◌, ◌++◌, length, Contains}
use Rattle.std.specs.List.{AllByRecursion as Each}
use Rattle.nz_spec.specs.Vectors.{Vector, dot, level_of, HasWidth}
use Rattle.nz_spec.specs.Order.{IsLexBefore, IsListOf, MoreThan}
use Rattle.nz_range.specs.Measures.{SomeLargeAt}
use Rattle.nz_further.specs.Shadows.{IsInShadow}
use Rattle.nz_vec.specs.declared.answers.Work.{Work}
use Rattle.nz_vec.specs.declared.answers.Work.TheVariants.{Range, TooMany, Stopped, NoMemory}
use Rattle.nz_lift.specs.Ends.{BoundLastEntry}

-- shadow j, lexicographically
abbrev pub AreShadow : ℕ → (rows : List Vector) → (level : Vector) → ℕ → List Vector → Type 0
AreShadow w rows level j xs = IsListOf IsLexBefore (IsInShadow w rows level j) xs

-- The vectors of the shadow after shadow j are just those at which, with 1 in front, all forms are at least 0. Over shadow j those of the forms that have no last entry are so, and the others bound the last entry on both sides.
pub record AreShadowForms (w : ℕ) (rows : List Vector) (level : Vector) (j : ℕ) (forms : List Vector) : Type 0 where
  pub bounding : BoundLastEntry (suc (suc j)) forms
  pub meet : (c : Vector) → length c ≡ suc j → IsInShadow w rows level (suc j) c ↔ Each (λ f. pos 0 ≤ℤ dot f (pos 1 ∷ c)) forms
  pub over : (c : Vector) → IsInShadow w rows level j c → Each (λ f. level_of f ≡ pos 0 → pos 0 ≤ℤ dot f (pos 1 ∷ c ++ pos 0 ∷ [])) forms

-- vectors of one width, and forms on two entries more, by which the last one is bounded on both sides
pub record AreForLift (forms points : List Vector) : Type 0 where
  pub size : ℕ
  pub widths : Each (HasWidth size) points
  pub bounding : BoundLastEntry (suc (suc size)) forms

-- from a shadow, by the forms of the next one, to that one
abbrev pub LiftsTo : (forms points xs : List Vector) → Type 0
LiftsTo forms points xs = (w j : ℕ) (rows : List Vector) (level : Vector) → AreShadowForms w rows level j forms → AreShadow w rows level j points → AreShadow w rows level (suc j) xs

-- there the next one has more vectors than the limit
abbrev pub LiftsToMore : ℕ → (forms points : List Vector) → Type 0
LiftsToMore limit forms points = (w j : ℕ) (rows : List Vector) (level : Vector) → AreShadowForms w rows level j forms → AreShadow w rows level j points → MoreThan limit (IsInShadow w rows level (suc j))

-- v is one of the vectors with 1 in front and 0 after it
pub record IsOver (points : List Vector) (v : Vector) : Type 0 where
  pub point : Vector
  pub has : Contains points point
  pub same : v ≡ pos 1 ∷ point ++ pos 0 ∷ []

-- why the next shadow is not given
abbrev pub IsShadowRefusal : ℤ → ℕ → (forms points : List Vector) → Work → Type 0
IsShadowRefusal bound limit forms points (Range told) = (told ≡ 0) × SomeLargeAt bound (Contains forms) (IsOver points)
IsShadowRefusal bound limit forms points TooMany = LiftsToMore limit forms points
IsShadowRefusal bound limit forms points (Stopped stage) = ⊥
IsShadowRefusal bound limit forms points NoMemory = ⊤
