-- The entries of combinations, and lists of values that grow one by one.
use Rattle.std.proofs.Common.{◌≡◌, ℕ, zero, suc, ◌+◌, ◌<◌, List, [], ◌∷◌, ◌++◌, length, map, get_or, take, ℤ, pos, ◌+ℤ◌, ◌*ℤ◌, refl, sym, ap, ap₂, ◌∙◌, subst, arith}
use Rattle.std.proofs.lemmas.List.{take_more, get_or-map, length-map}
use Rattle.std.specs.List.{AllByRecursion as Each}
use Rattle.nz_spec.specs.Vectors.{Vector, dot, combination, zero_vector, unit_vectors, entry, HasWidth}
use Rattle.nz_spec.specs.Sums.{IsIndependent}
use Rattle.nz_spec.proofs.SumLaws.{length-combination}
use Rattle.nz_linear.specs.DualPairs.{Pair, HasWidths}
use Rattle.nz_linear.specs.Elimination.{unit_pairs, shifted}
use Rattle.nz_linear.proofs.EliminationRun.{unit_dual}
use Rattle.nz_linear.proofs.DualPairs.{dual_independent}
use Rattle.nz_linear.proofs.Units.{entry_sum, entry-zero_vector}
use Rattle.nz_sweep.specs.Duals.{Coordinate}
use Rattle.nz_sweep.specs.Bases.{column_of, IsBase}

-- the unit vectors are a base
unit_vectors_of_pairs : (w : ℕ) → map (λ (p : Pair). p.vector) (unit_pairs w) ≡ unit_vectors w
unit_vectors_of_pairs zero = refl
unit_vectors_of_pairs (suc w) = ap (λ t. (pos 1 ∷ zero_vector w) ∷ t) (shifted_vectors (unit_pairs w) ∙ ap (map (λ u. pos 0 ∷ u)) (unit_vectors_of_pairs w))
  where
    shifted_vectors : (ps : List Pair) → map (λ (p : Pair). p.vector) (map shifted ps) ≡ map (λ u. pos 0 ∷ u) (map (λ (p : Pair). p.vector) ps)
    shifted_vectors [] = refl
    shifted_vectors (p ∷ ps) = ap (λ t. (pos 0 ∷ p.vector) ∷ t) (shifted_vectors ps)

widths_of : (w : ℕ) (ps : List Pair) → Each (HasWidths w) ps → Each (HasWidth w) (map (λ (p : Pair). p.vector) ps)
widths_of w [] h = tt
widths_of w (p ∷ ps) h = (h.0.vector_width, widths_of w ps h.1)

pub units_are_base : (w : ℕ) (vs : List Vector) (cs : List Coordinate) → vs ≡ unit_vectors w → IsBase (record { width = w; vectors = vs; coordinates = cs })
units_are_base w vs cs e =
    let same : map (λ (p : Pair). p.vector) (unit_pairs w) ≡ vs = unit_vectors_of_pairs w ∙ sym e in
    record {
      widths = subst (Each (HasWidth w)) same (widths_of w (unit_pairs w) (unit_dual w).widths);
      independent = subst (IsIndependent w) same (dual_independent w (unit_pairs w) (unit_dual w));
    }

-- the entry of a combination is the combination of the entries
pub entry-combination : (w : ℕ) (c : List ℤ) (vs : List Vector) (j : ℕ) → Each (HasWidth w) vs → entry (combination w c vs) j ≡ dot c (column_of vs j)
entry-combination w [] vs j l = entry-zero_vector w j
entry-combination w (k ∷ c) [] j l = entry-zero_vector w j
entry-combination w (k ∷ c) (v ∷ vs) j l = entry_sum w k v (combination w c vs) j l.0 (length-combination w c vs l.1) ∙ ap (λ t. k *ℤ entry v j +ℤ t) (entry-combination w c vs j l.1)

-- one more value, where the values are those of a list
pub value_more : {T : Type 0} (integer : T → ℤ) (xs : List ℤ) (es fs : List T) (i : ℕ) (x : T) → i < length xs → map integer es ≡ take i xs → integer x ≡ get_or xs i (pos 0) → fs ≡ es ++ (x ∷ []) → map integer fs ≡ take (i + 1) xs
value_more integer xs es fs i x l e v s =
    ap (map integer) s ∙ map_push es ∙ ap (λ u. u ++ (integer x ∷ [])) e ∙ ap (λ u. take i xs ++ (u ∷ [])) v ∙ sym (take_more xs i (pos 0) l)
  where
    map_push : (es : List _) → map integer (es ++ (x ∷ [])) ≡ map integer es ++ (integer x ∷ [])
    map_push [] = refl
    map_push (y ∷ es) = ap (λ u. integer y ∷ u) (map_push es)

pub each_at : {A : Type 0} (P : A → Type 0) (d : A) (xs : List A) (i : ℕ) → Each P xs → i < length xs → P (get_or xs i d)
each_at P d [] i h l = absurd (omega arith)
each_at P d (x ∷ xs) zero h l = h.0
each_at P d (x ∷ xs) (suc i) h l = each_at P d xs i h.1 (omega arith)

-- the value of what is made of each element, at a place
pub mapped_at : {A : Type 0} (f : A → ℤ) (xs : List A) (i : ℕ) (d : A) → i < length xs → get_or (map f xs) i (pos 0) ≡ f (get_or xs i d)
mapped_at f xs i d l = get_or-map f xs i d (pos 0) l

-- one more image of a list of vectors
pub mapped_more : (f : Vector → Vector) (xs : List Vector) (i : ℕ) (before after : List Vector) (y v : Vector) → i < length xs → v ≡ get_or xs i [] → y ≡ f v → before ≡ take i (map f xs) → after ≡ before ++ y ∷ [] → after ≡ take (i + 1) (map f xs)
mapped_more f xs i before after y v l e k h a =
    let n = length-map xs f in
    a ∙ ap₂ (λ us u. us ++ u ∷ []) h (k ∙ ap f e ∙ sym (get_or-map f xs i [] [] l)) ∙ sym (take_more (map f xs) i [] (omega (arith, l, n)))
