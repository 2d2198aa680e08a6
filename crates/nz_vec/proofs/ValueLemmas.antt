-- The values of forms at a vector, place by place.
use Rattle.std.proofs.Common.{◌≡◌, ℕ, ◌<◌, List, [], length, get_or, pos}
use Rattle.std.proofs.lemmas.List.{get_or-map}
use Rattle.nz_spec.specs.Vectors.{Vector, dot, values_at}

pub value_at : (forms : List Vector) (x : Vector) (i : ℕ) → i < length forms → get_or (values_at forms x) i (pos 0) ≡ dot (get_or forms i []) x
value_at forms x i l = get_or-map (λ f. dot f x) forms i [] (pos 0) l
