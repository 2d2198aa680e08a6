-- A vector is told by its coordinates.
use Rattle.std.proofs.Common.{◌≡◌, ℕ, suc, ◌+◌, ◌<◌, List, [], ◌∷◌, ◌++◌, length, map, get_or, take, ℤ, pos, ◌*ℤ◌, ◌+ℤ◌, ◌<ℤ◌, refl, sym, ap, ◌∙◌, subst, arith}
use Rattle.std.proofs.Math.IntN.{*ℤ_comm}
use Rattle.std.specs.List.{AllZip}
use Rattle.std.proofs.lemmas.List.{take_more}
use Rattle.nz_spec.specs.Vectors.{Vector, dot, combination, entry, IsMultipleOf}
use Rattle.nz_spec.specs.Sums.{IsInGroup}
use Rattle.nz_scalar.specs.Division.{IsFloorQuotient}
use Rattle.nz_linear.proofs.Ring.{sums}
use Rattle.nz_linear.proofs.Signs.{cancel_mul}
use Rattle.nz_linear.proofs.Lists.{zip_append}
use Rattle.nz_vec.specs.Sums.{SumsFit}
use Rattle.nz_sweep.specs.Duals.{Coordinate, coordinate_at, AreDual, IsWholeAt, HasFraction}
use Rattle.nz_sweep.proofs.PlaceLemmas.{zip_at}
use Rattle.nz_sweep.proofs.DualLemmas.{coordinate_of_sum}
use Rattle.nz_sweep.proofs.LowerLemmas.{exact_of}

-- vectors with the same entries are the same
pub same_entries : (xs ys : Vector) → length xs ≡ length ys → ((k : ℕ) → k < length xs → entry xs k ≡ entry ys k) → xs ≡ ys
same_entries [] [] e h = refl
same_entries [] (y ∷ ys) e h = absurd (omega (arith, e))
same_entries (x ∷ xs) [] e h = absurd (omega (arith, e))
same_entries (x ∷ xs) (y ∷ ys) e h = ap (λ t. t ∷ xs) (h 0 (omega arith)) ∙ ap (λ t. y ∷ t) (same_entries xs ys (omega (arith, e)) (λ k l. h (suc k) (omega (arith, l))))

-- a vector of the group has the factors as its coordinates
pub in_group_coordinate : (w : ℕ) (vs : List Vector) (cs : List Coordinate) (x : Vector) (i : ℕ) (k : IsInGroup w vs x) → AreDual w vs cs → i < length vs → dot (coordinate_at cs i).form x ≡ entry k.factors i *ℤ (coordinate_at cs i).divisor
in_group_coordinate w vs cs x i k d l = ap (dot (coordinate_at cs i).form) (sym k.same) ∙ coordinate_of_sum w vs cs k.factors i d k.one_each l

pub outside_by_fraction : (w : ℕ) (vs : List Vector) (cs : List Coordinate) (x : Vector) → AreDual w vs cs → HasFraction x cs → ¬ IsInGroup w vs x
outside_by_fraction w vs cs x d f k = f.fraction (entry k.factors f.place, in_group_coordinate w vs cs x f.place k d (let e = d.one_each in let l = f.within in omega (arith, e, l)))

pub outside_by_sum : (w : ℕ) (vs : List Vector) (cs : List Coordinate) (x c : Vector) → AreDual w vs cs → AllZip (IsWholeAt x) cs c → ¬ (combination w c vs ≡ x) → ¬ IsInGroup w vs x
outside_by_sum w vs cs x c d z n k = n (ap (λ (t : Vector). combination w t vs) same ∙ k.same)
  where
    size : (cs : List Coordinate) (c : Vector) → AllZip (IsWholeAt x) cs c → length c ≡ length cs
    size [] [] z = refl
    size [] (q ∷ c) z = absurd z
    size (p ∷ cs) [] z = absurd z
    size (p ∷ cs) (q ∷ c) z = ap suc (size cs c z.1)

    inside : (i : ℕ) → i < length c → i < length vs
    inside i l = let e = size cs c z in let f = d.one_each in omega (arith, e, f, l)

    same : c ≡ k.factors
    same = same_entries c k.factors (size cs c z ∙ d.one_each ∙ sym k.one_each) (λ i l.
        let p = d.positive i (inside i l) in
        let a = zip_at (IsWholeAt x) (record { form = []; divisor = pos 0 }) (pos 0) cs c i z (let e = size cs c z in omega (arith, e, l)) in
        cancel_mul (coordinate_at cs i).divisor (entry c i) (entry k.factors i) p (*ℤ_comm (coordinate_at cs i).divisor (entry c i) ∙ sym a ∙ in_group_coordinate w vs cs x i k d (inside i l) ∙ *ℤ_comm (entry k.factors i) (coordinate_at cs i).divisor))

pub whole_length : (x : Vector) (cs : List Coordinate) (c : Vector) → AllZip (IsWholeAt x) cs c → length c ≡ length cs
whole_length x [] [] z = refl
whole_length x [] (q ∷ c) z = absurd z
whole_length x (p ∷ cs) [] z = absurd z
whole_length x (p ∷ cs) (q ∷ c) z = ap suc (whole_length x cs c z.1)

-- ---- as the code has them
pub sum_fits : (fits : ℤ → Type 0) (s : ℤ) (f x : Vector) → fits s → SumsFit fits s f x → fits (s +ℤ dot f x)
sum_fits fits s [] x h k = subst fits (omega (arith, sums)) h
sum_fits fits s (a ∷ f) [] h k = subst fits (omega (arith, sums)) h
sum_fits fits s (a ∷ f) (b ∷ x) h k = subst fits (omega (arith, sums)) (sum_fits fits (s +ℤ a *ℤ b) f x k.1 k.2)

pub value_fits : (fits : ℤ → Type 0) (v : ℤ) (f x : Vector) → fits (pos 0) → SumsFit fits (pos 0) f x → v ≡ dot f x → fits v
value_fits fits v f x z k e = subst fits (e' ∙ sym e) (sum_fits fits (pos 0) f x z k)
  where
    e' : pos 0 +ℤ dot f x ≡ dot f x
    e' = omega (arith, sums)

pub no_fraction : (v d q p : ℤ) → pos 0 <ℤ d → IsFloorQuotient v d q → p ≡ q *ℤ d → ¬ (p ≡ v) → ¬ IsMultipleOf d v
no_fraction v d q p l f e n k = n (e ∙ *ℤ_comm q d ∙ exact_of v d q l k f)

pub no_product : (fits : ℤ → Type 0) (v d q : ℤ) → pos 0 <ℤ d → IsFloorQuotient v d q → ¬ fits (q *ℤ d) → fits v → ¬ IsMultipleOf d v
no_product fits v d q l f n h k = n (subst fits (sym (*ℤ_comm q d ∙ exact_of v d q l k f)) h)

pub whole_more : {T : Type 0} (integer : T → ℤ) (x : Vector) (cs : List Coordinate) (es fs : List T) (i : ℕ) (p : Coordinate) (q : T) → i < length cs → p ≡ get_or cs i p → AllZip (IsWholeAt x) (take i cs) (map integer es) → IsWholeAt x p (integer q) → fs ≡ es ++ (q ∷ []) → AllZip (IsWholeAt x) (take (i + 1) cs) (map integer fs)
whole_more integer x cs es fs i p q l e z h s =
    subst (λ (t : List _). AllZip (IsWholeAt x) (take (i + 1) cs) (map integer t)) (sym s)
    (subst (AllZip (IsWholeAt x) (take (i + 1) cs)) (sym (map_push es))
    (subst (λ (t : List Coordinate). AllZip (IsWholeAt x) t (map integer es ++ (integer q ∷ []))) (ap (λ t. take i cs ++ (t ∷ [])) e ∙ sym (take_more cs i p l))
    (zip_append (IsWholeAt x) (take i cs) (map integer es) (p ∷ []) (integer q ∷ []) z (h, tt))))
  where
    map_push : (es : List _) → map integer (es ++ (q ∷ [])) ≡ map integer es ++ (integer q ∷ [])
    map_push [] = refl
    map_push (y ∷ es) = ap (λ u. integer y ∷ u) (map_push es)
