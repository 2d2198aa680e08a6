-- The numbers from a least to a greatest one, each where it is given, and how a form narrows them.
use Rattle.std.specs.Prelude.{◌≡◌, ◌≢◌, ◌↔◌, ◌⊎◌, ⊤, ℕ, ◌≤◌, ℤ, pos, ◌+ℤ◌, ◌*ℤ◌, ◌≤ℤ◌, unsigned_abs, Option, Some, None, List, Contains}
use Rattle.std.specs.List.{AllByRecursion as Each}
use Rattle.nz_spec.specs.Vectors.{Vector, dot, level_of, HasWidth}

-- the ends, as far as they are known
pub record Ends : Type 0 where
  pub least : Option ℤ
  pub greatest : Option ℤ

abbrev pub IsFrom : Option ℤ → ℤ → Type 0
IsFrom None t = ⊤
IsFrom (Some l) t = l ≤ℤ t

abbrev pub IsUpTo : Option ℤ → ℤ → Type 0
IsUpTo None t = ⊤
IsUpTo (Some g) t = t ≤ℤ g

-- t is between the ends
abbrev pub IsIn : Ends → ℤ → Type 0
IsIn e t = IsFrom e.least t × IsUpTo e.greatest t

-- just from l on is a + t·b at least 0, and l is no larger than a
pub record IsLeastEnd (a b l : ℤ) : Type 0 where
  pub from_here : (t : ℤ) → (pos 0 ≤ℤ (a +ℤ t *ℤ b)) ↔ (l ≤ℤ t)
  pub size : unsigned_abs l ≤ unsigned_abs a

-- just up to g is a + t·b at least 0, and g is no larger than a
pub record IsGreatestEnd (a b g : ℤ) : Type 0 where
  pub up_to_here : (t : ℤ) → (pos 0 ≤ℤ (a +ℤ t *ℤ b)) ↔ (t ≤ℤ g)
  pub size : unsigned_abs g ≤ unsigned_abs a

-- the number n, or the known one where that is greater
abbrev pub IsGreaterOf : Option ℤ → ℤ → ℤ → Type 0
IsGreaterOf None n r = r ≡ n
IsGreaterOf (Some k) n r = ((r ≡ k) × (n ≤ℤ k)) ⊎ ((r ≡ n) × (k ≤ℤ n))

-- the number n, or the known one where that is less
abbrev pub IsLesserOf : Option ℤ → ℤ → ℤ → Type 0
IsLesserOf None n r = r ≡ n
IsLesserOf (Some k) n r = ((r ≡ k) × (k ≤ℤ n)) ⊎ ((r ≡ n) × (n ≤ℤ k))

-- the ends n are those of the numbers t between the ends e at which, unless b is 0, a + t·b is at least 0
pub record IsNarrowed (e : Ends) (a b : ℤ) (n : Ends) : Type 0 where
  pub numbers : (t : ℤ) → IsIn n t ↔ (IsIn e t × (b ≢ pos 0 → pos 0 ≤ℤ (a +ℤ t *ℤ b)))
  pub no_least : n.least ≡ None → (e.least ≡ None) × (b ≤ℤ pos 0)
  pub no_greatest : n.greatest ≡ None → (e.greatest ≡ None) × (pos 0 ≤ℤ b)
  pub least_size : (l : ℤ) → n.least ≡ Some l → (e.least ≡ Some l) ⊎ (unsigned_abs l ≤ unsigned_abs a)
  pub greatest_size : (g : ℤ) → n.greatest ≡ Some g → (e.greatest ≡ Some g) ⊎ (unsigned_abs g ≤ unsigned_abs a)

-- with t added to the last entry of x the form, if it has a last entry, is at least 0
abbrev pub Allows : Vector → Vector → ℤ → Type 0
Allows f x t = level_of f ≢ pos 0 → pos 0 ≤ℤ (dot f x +ℤ t *ℤ level_of f)

-- the number is no larger than the value of one of the forms at x
pub record HasValueOfSize (forms : List Vector) (x : Vector) (n : ℤ) : Type 0 where
  pub form : Vector
  pub has : Contains forms form
  pub size : unsigned_abs n ≤ unsigned_abs (dot form x)

-- just the numbers between the ends are allowed by the forms, and an end is not known only where no form bounds the number there
pub record AreEndsAt (forms : List Vector) (x : Vector) (e : Ends) : Type 0 where
  pub numbers : (t : ℤ) → IsIn e t ↔ Each (λ f. Allows f x t) forms
  pub no_least : e.least ≡ None → Each (λ f. level_of f ≤ℤ pos 0) forms
  pub no_greatest : e.greatest ≡ None → Each (λ f. pos 0 ≤ℤ level_of f) forms
  pub least_size : (l : ℤ) → e.least ≡ Some l → HasValueOfSize forms x l
  pub greatest_size : (g : ℤ) → e.greatest ≡ Some g → HasValueOfSize forms x g

-- just the numbers from low to high are allowed by the forms
pub record IsIntervalAt (forms : List Vector) (x : Vector) (low high : ℤ) : Type 0 where
  pub numbers : (t : ℤ) → ((low ≤ℤ t) × (t ≤ℤ high)) ↔ Each (λ f. Allows f x t) forms
  pub low_size : HasValueOfSize forms x low
  pub high_size : HasValueOfSize forms x high

-- forms of this width of which some bound the last entry below, and some bound it above
pub record BoundLastEntry (w : ℕ) (forms : List Vector) : Type 0 where
  pub widths : Each (HasWidth w) forms
  pub below : ¬ Each (λ f. level_of f ≤ℤ pos 0) forms
  pub above : ¬ Each (λ f. pos 0 ≤ℤ level_of f) forms
