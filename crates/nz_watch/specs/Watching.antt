-- What a watch is told of a run, and how it stops one.
use Rattle.std.specs.Prelude.{◌≡◌, ℕ, zero, suc, List, [], ◌∷◌, ◌++◌, Option, Some, None, Bool, IsTrue, IsFalse, slice_get}

-- the number of a stage, and the size of its list
abbrev pub Pair : Type 0
Pair = ℕ × ℕ

-- where the watch tells afterwards, it told before, and its list grew by these pairs
abbrev pub Grew : Option (List Pair) → Option (List Pair) → List Pair → Type 0
Grew before None pairs = Unit {0}
Grew None (Some now) pairs = ⊥
Grew (Some before) (Some now) pairs = now ≡ before ++ pairs

-- where the watch tells afterwards, it told before, and its list grew by this pair
abbrev pub Tells : Option (List Pair) → Option (List Pair) → Pair → Type 0
Tells before now pair = Grew before now (pair ∷ [])

-- a patience above 0 falls by one and gives true, at 0 the answer is false, and none stays none
abbrev pub Waits : Option ℕ → Option ℕ → Bool → Type 0
Waits None now answer = now ≡ None
Waits (Some zero) now answer = (now ≡ Some 0) × IsFalse answer
Waits (Some (suc n)) now answer = (now ≡ Some n) × IsTrue answer

-- the pair told at a place, from 0, where the watch tells
abbrev pub told_at : Option (List Pair) → ℕ → Option Pair
told_at None place = None
told_at (Some pairs) place = slice_get pairs place
