-- The degrees of a list, in classes: from the end of a class one comes to each place of its degree.
use Rattle.std.specs.Prelude.{◌≡◌, ℕ, ◌+◌, ◌<◌, ◌≤◌, ◌^◌, List, length, slice_index, Contains}
use Rattle.std.specs.List.{AllByRecursion as Each}

-- what callers see: the degree of each place, and the degrees of the classes
pub record ClassLists : Type 0 where
  pub degrees : List ℕ
  pub classes : List ℕ

-- the end lies just behind the last place below the bound that has this degree; it is 0 where none has
pub record IsEnd (degrees : List ℕ) (degree bound end : ℕ) : Type 0 where
  pub inside : end ≤ bound
  pub last : (k : ℕ) → end ≡ k + 1 → slice_index degrees k ≡ degree
  pub none_behind : (k : ℕ) → k < bound → slice_index degrees k ≡ degree → k < end

-- different classes, with one for each degree; for each class the end of its degree, and for each place that of its degree below it
pub record AreClasses (degrees classes ends links : List ℕ) : Type 0 where
  pub all : Each (Contains classes) degrees
  pub small : Each (λ d. d < 2 ^ 127) classes
  pub different : (a b : ℕ) → a < length classes → b < length classes → slice_index classes a ≡ slice_index classes b → a ≡ b
  pub ends_known : length ends ≡ length classes
  pub links_known : length links ≡ length degrees
  pub at_ends : (c : ℕ) → c < length classes → IsEnd degrees (slice_index classes c) (length degrees) (slice_index ends c)
  pub at_links : (k : ℕ) → k < length degrees → IsEnd degrees (slice_index degrees k) k (slice_index links k)
