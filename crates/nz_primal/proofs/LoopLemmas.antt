-- Lists that loops build, one element further on.
use Rattle.std.proofs.Common.{◌≡◌, ℕ, ◌+◌, ◌-◌, ◌<◌, ◌≤◌, List, [], ◌∷◌, ◌++◌, length, map, take, drop, get_or, ℤ, pos, sym, ap, ap₂, ◌∙◌, arith}
use Rattle.std.proofs.lemmas.List.{take_more, map-append, get_or-drop, length-drop}
use Rattle.nz_spec.specs.Vectors.{Vector}

pub end_more : {T : Type 0} (integer : T → ℤ) (key : Vector) (count i : ℕ) (before after : List T) (x : T) → i < length key → integer x ≡ get_or key i (pos 0) → (count ≤ i) × (map integer before ≡ take (i - count) (drop count key)) → after ≡ before ++ x ∷ [] → (count ≤ i + 1) × (map integer after ≡ take (i + 1 - count) (drop count key))
end_more integer key count i before after x l e h a =
    let j = i - count in
    let k = h.0 in
    let n = length-drop count key in
    let within : j < length (drop count key) = omega (arith, l, n, k) in
    let place : count + j ≡ i = omega (arith, k) in
    let next : j + 1 ≡ i + 1 - count = omega (arith, k) in
    let own : integer x ≡ get_or (drop count key) j (pos 0) = e ∙ ap (λ m. get_or key m (pos 0)) (sym place) ∙ sym (get_or-drop count key j (pos 0)) in
    (omega (arith, k), ap (map integer) a ∙ map-append integer before (x ∷ []) ∙ ap₂ (λ us u. us ++ u ∷ []) h.1 own ∙ sym (take_more (drop count key) j (pos 0) within) ∙ ap (λ m. take m (drop count key)) next)
