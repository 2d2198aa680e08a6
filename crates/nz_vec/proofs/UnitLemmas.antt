-- The unit vectors, entry by entry and one by one.
use Rattle.std.proofs.Common.{◌≡◌, ℕ, zero, suc, ◌+◌, ◌<◌, ◌≤◌, List, [], ◌∷◌, ◌++◌, length, map, get_or, take, ℤ, pos, refl, sym, ap, ◌∙◌, arith}
use Rattle.std.proofs.lemmas.List.{take_more, take_all, length-map, get_or-map}
use Rattle.nz_spec.specs.Vectors.{Vector, unit_vectors, entry}
use Rattle.nz_linear.specs.Echelon.{unit_at}
use Rattle.nz_linear.proofs.Units.{length-unit_at}

pub length-unit_vectors : (w : ℕ) → length (unit_vectors w) ≡ w
length-unit_vectors zero = refl
length-unit_vectors (suc w) = ap suc (length-map (unit_vectors w) (λ u. pos 0 ∷ u) ∙ length-unit_vectors w)

pub unit_vector_at : (w i : ℕ) → i < w → get_or (unit_vectors w) i [] ≡ unit_at w i
unit_vector_at zero i l = absurd (omega arith)
unit_vector_at (suc w) zero l = refl
unit_vector_at (suc w) (suc i) l =
    let n = length-unit_vectors w in
    get_or-map (λ u. pos 0 ∷ u) (unit_vectors w) i [] [] (omega arith) ∙ ap (λ u. pos 0 ∷ u) (unit_vector_at w i (omega arith))

-- one more unit vector
pub unit_more : (w i : ℕ) (us : List Vector) → i < w → us ≡ take i (unit_vectors w) → us ++ (unit_at w i ∷ []) ≡ take (i + 1) (unit_vectors w)
unit_more w i us l e =
    let n = length-unit_vectors w in
    ap (λ t. t ++ (unit_at w i ∷ [])) e ∙ ap (λ t. take i (unit_vectors w) ++ (t ∷ [])) (sym (unit_vector_at w i l)) ∙ sym (take_more (unit_vectors w) i [] (omega arith))

-- one more entry
pub entry_more : {T : Type 0} (integer : T → ℤ) (w j i : ℕ) (es fs : List T) (x : T) → i < w → map integer es ≡ take i (unit_at w j) → integer x ≡ entry (unit_at w j) i → fs ≡ es ++ (x ∷ []) → map integer fs ≡ take (i + 1) (unit_at w j)
entry_more integer w j i es fs x l e v s =
    let n = length-unit_at w j in
    let t = take_more (unit_at w j) i (pos 0) (omega arith) in
    ap (map integer) s ∙ map_push integer es x ∙ ap (λ u. u ++ (integer x ∷ [])) e ∙ ap (λ u. take i (unit_at w j) ++ (u ∷ [])) v ∙ sym t
  where
    map_push : {A B : Type 0} (f : A → B) (xs : List A) (x : A) → map f (xs ++ (x ∷ [])) ≡ map f xs ++ (f x ∷ [])
    map_push f [] x = refl
    map_push f (y ∷ xs) x = ap (λ u. f y ∷ u) (map_push f xs x)

pub entries_all : (w j i : ℕ) → w ≤ i → take i (unit_at w j) ≡ unit_at w j
entries_all w j i l = let n = length-unit_at w j in take_all i (unit_at w j) (omega arith)

pub units_all : (w i : ℕ) → w ≤ i → take i (unit_vectors w) ≡ unit_vectors w
units_all w i l = let n = length-unit_vectors w in take_all i (unit_vectors w) (omega arith)
