-- A list with what fails a test left out.
use Rattle.std.specs.Prelude.{List, [], ◌∷◌}

-- ys has the elements of xs that have Q, in their order
pub data Picks {A : Type 0} (Q : A → Type 0) : List A → List A → Type 0 where
  none : Picks Q [] []
  keep : {x : A} {xs ys : List A} → Q x → Picks Q xs ys → Picks Q (x ∷ xs) (x ∷ ys)
  skip : {x : A} {xs ys : List A} → ¬ Q x → Picks Q xs ys → Picks Q (x ∷ xs) ys
