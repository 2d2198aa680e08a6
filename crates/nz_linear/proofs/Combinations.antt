-- Laws of `combination`: factors that are 0 drop out, and lists are joined.
use Rattle.std.proofs.Common.{◌≡◌, ℕ, List, [], ◌∷◌, ◌++◌, length, ℤ, pos, sym, ap, ◌∙◌, arith}
use Rattle.std.specs.List.{AllByRecursion as Each}
use Rattle.nz_spec.specs.Vectors.{Vector, plus, scaled, combination, HasWidth}
use Rattle.nz_spec.proofs.VectorLaws.{plus_assoc}
use Rattle.nz_spec.proofs.SumLaws.{length-combination}
use Rattle.nz_linear.proofs.VectorLaws.{zero-plus, zero-scaled}

pub combination-skip : (w : ℕ) (ks : List ℤ) (v : Vector) (vs : List Vector) → length v ≡ w → Each (HasWidth w) vs → combination w (pos 0 ∷ ks) (v ∷ vs) ≡ combination w ks vs
combination-skip w ks v vs h a = ap (λ t. plus t (combination w ks vs)) (zero-scaled w v h) ∙ zero-plus w _ (length-combination w ks vs a)

-- lists joined, in the same places
pub combination-append : (w : ℕ) (js ks : List ℤ) (us vs : List Vector) → length js ≡ length us → Each (HasWidth w) us → Each (HasWidth w) vs → combination w (js ++ ks) (us ++ vs) ≡ plus (combination w js us) (combination w ks vs)
combination-append w [] ks [] vs h a b = sym (zero-plus w _ (length-combination w ks vs b))
combination-append w [] ks (u ∷ us) vs h a b = absurd (omega arith)
combination-append w (j ∷ js) ks [] vs h a b = absurd (omega arith)
combination-append w (j ∷ js) ks (u ∷ us) vs h a b =
    ap (plus (scaled j u)) (combination-append w js ks us vs (omega arith) a.1 b) ∙ sym (plus_assoc (scaled j u) (combination w js us) (combination w ks vs))
