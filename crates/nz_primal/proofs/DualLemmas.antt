-- Independent vectors with their dual forms, as many as the width, are a complete dual pair.
use Rattle.std.proofs.Common.{◌≡◌, ◌≢◌, ◌⊎◌, inl, inr, ℕ, suc, List, [], ◌∷◌, ◌++◌, length, map, pos, negsuc, Contains, refl, sym, ap, ◌∙◌, subst, arith}
use Rattle.std.proofs.lemmas.Int.{ints}
use Rattle.std.specs.List.{AllByRecursion as Each, AllZip}
use Rattle.nz_spec.specs.Vectors.{Vector, dot, plus, scaled, zero_vector, combination, HasWidth, IsZero}
use Rattle.nz_spec.specs.Sums.{IsInSpan, IsIndependent, HasRank}
use Rattle.nz_spec.specs.Order.{Pairwise}
use Rattle.nz_spec.specs.Forms.{IsDualForm, AreDualForms}
use Rattle.nz_spec.proofs.ListLaws.{contains_here, contains_there, contains_cases, Each-contains, Each-from_contains}
use Rattle.nz_spec.proofs.SumLaws.{combination-scaled}
use Rattle.nz_spec.proofs.VectorLaws.{IsZero-zero_vector}
use Rattle.nz_linear.specs.DualPairs.{Pair, pair_of, HasWidths, IsApart, IsDual, IsDualPair, OnlyZero}
use Rattle.nz_linear.proofs.VectorLaws.{length-scaled, cons_same}
use Rattle.nz_linear.proofs.Combinations.{combination-skip}
use Rattle.nz_linear.proofs.Groups.{group_member}
use Rattle.nz_linear.proofs.Elimination.{all_of_width, complete_of}
use Rattle.nz_linear.proofs.EliminationRun.{start_state, unit_only_zero}
use Rattle.nz_linear.specs.Elimination.{unit_pairs}
use Rattle.nz_linear.proofs.Dependence.{complete_length}
use Rattle.nz_linear.proofs.Floors.{complete_on_span}
use Rattle.nz_linear.proofs.Rank.{rank_of_dual, full_independent_span}
use Rattle.nz_classes.specs.Walks.{paired}

-- ---- independent vectors are different
minus_one : (x : Vector) → plus (scaled (pos 1) x) (scaled (negsuc 0) x) ≡ zero_vector (length x)
minus_one [] = refl
minus_one (a ∷ x) = cons_same (omega (arith, ints)) (minus_one x)

not_again : (w : ℕ) (v : Vector) (vs : List Vector) → Each (HasWidth w) (v ∷ vs) → IsIndependent w (v ∷ vs) → Contains vs v → ⊥
not_again w v vs l free c =
    let g = group_member w vs v l.1 c in
    let fs = pos 1 ∷ scaled (negsuc 0) g.factors in
    let e : combination w fs (v ∷ vs) ≡ zero_vector w = ap (plus (scaled (pos 1) v)) (combination-scaled w (negsuc 0) g.factors vs ∙ ap (scaled (negsuc 0)) g.same) ∙ minus_one v ∙ ap zero_vector l.0 in
    let z = free fs (ap suc (length-scaled (length vs) (negsuc 0) g.factors g.one_each)) (subst IsZero (sym e) (IsZero-zero_vector w)) in
    let o = z.0 in
    let b : ⊥ = omega (arith, ints, o) in b

pub rest_independent : (w : ℕ) (v : Vector) (vs : List Vector) → Each (HasWidth w) (v ∷ vs) → IsIndependent w (v ∷ vs) → IsIndependent w vs
rest_independent w v vs l free fs e z = (free (pos 0 ∷ fs) (ap suc e) (subst IsZero (sym (combination-skip w fs v vs l.0 l.1)) z)).1

pub independent_different : (w : ℕ) (vs : List Vector) → Each (HasWidth w) vs → IsIndependent w vs → Pairwise ◌≢◌ vs
independent_different w [] l free = tt
independent_different w (v ∷ vs) l free = (
  Each-from_contains (λ u. v ≢ u) vs (λ u c e. not_again w v vs l free (subst (Contains vs) (sym e) c)),
  independent_different w vs l.1 (rest_independent w v vs l free),
)

-- ---- dual forms
here_or_other : (v g : Vector) (earlier later : List Vector) → Contains (earlier ++ v ∷ later) g → (v ≡ g) ⊎ Contains (earlier ++ later) g
here_or_other v g [] later c = contains_cases v later g c
here_or_other v g (u ∷ earlier) later c = elim (contains_cases u (earlier ++ v ∷ later) g c) [
  | inl e ↦ inr (subst (Contains (u ∷ (earlier ++ later))) e (contains_here u (earlier ++ later)))
  | inr d ↦ elim (here_or_other v g earlier later d) [ inl e ↦ inl e | inr k ↦ inr (contains_there u g (earlier ++ later) k) ]
]

zero_at_other : (w : ℕ) (vs : List Vector) (v f g : Vector) → IsDualForm w vs v f → Contains vs g → v ≢ g → dot f g ≡ pos 0
zero_at_other w vs v f g d c ne = elim (here_or_other v g d.earlier d.later (subst (λ us. Contains us g) d.whole c)) [
  | inl e ↦ absurd (ne e)
  | inr k ↦ Each-contains (λ u. dot f u ≡ pos 0) (d.earlier ++ d.later) g d.zero_on k
]

aparts : (w : ℕ) (vs : List Vector) (v f : Vector) (us fs : List Vector) → Contains vs v → IsDualForm w vs v f → Each (Contains vs) us → Each (λ u. v ≢ u) us → AllZip (IsDualForm w vs) us fs → Each (IsApart (pair_of f v)) (paired fs us)
aparts w vs v f [] [] cv d cs ne z = tt
aparts w vs v f [] (g ∷ fs) cv d cs ne z = absurd z
aparts w vs v f (u ∷ us) [] cv d cs ne z = absurd z
aparts w vs v f (u ∷ us) (g ∷ fs) cv d cs ne z = (
  record { there = zero_at_other w vs v f u d cs.0 ne.0; back = zero_at_other w vs u g v z.0 cv (λ e. ne.0 (sym e)) },
  aparts w vs v f us fs cv d cs.1 ne.1 z.1,
)

duals : (w : ℕ) (vs us fs : List Vector) → Each (Contains vs) us → Pairwise ◌≢◌ us → AllZip (IsDualForm w vs) us fs → IsDual (paired fs us)
duals w vs [] [] cs ne z = tt
duals w vs [] (g ∷ fs) cs ne z = absurd z
duals w vs (u ∷ us) [] cs ne z = absurd z
duals w vs (u ∷ us) (g ∷ fs) cs ne z = (z.0.positive, aparts w vs u g us fs cs.0 z.0 cs.1 ne.0 z.1, duals w vs us fs cs.1 ne.1 z.1)

pair_widths : (w : ℕ) (vs us fs : List Vector) → Each (HasWidth w) us → AllZip (IsDualForm w vs) us fs → Each (HasWidths w) (paired fs us)
pair_widths w vs [] [] l z = tt
pair_widths w vs [] (g ∷ fs) l z = absurd z
pair_widths w vs (u ∷ us) [] l z = absurd z
pair_widths w vs (u ∷ us) (g ∷ fs) l z = (record { form_width = z.0.width; vector_width = l.0 }, pair_widths w vs us fs l.1 z.1)

pub zip_length : {A B : Type 0} (R : A → B → Type 0) (xs : List A) (ys : List B) → AllZip R xs ys → length ys ≡ length xs
zip_length R [] [] z = refl
zip_length R [] (y ∷ ys) z = absurd z
zip_length R (x ∷ xs) [] z = absurd z
zip_length R (x ∷ xs) (y ∷ ys) z = ap suc (zip_length R xs ys z.1)

paired_vectors : (fs us : List Vector) → length fs ≡ length us → map (λ (p : Pair). p.vector) (paired fs us) ≡ us
paired_vectors [] [] e = refl
paired_vectors [] (u ∷ us) e = absurd (let b : ⊥ = omega (arith, e) in b)
paired_vectors (f ∷ fs) [] e = absurd (let b : ⊥ = omega (arith, e) in b)
paired_vectors (f ∷ fs) (u ∷ us) e = ap (λ vs. u ∷ vs) (paired_vectors fs us (omega (arith, e)))

pub dual_pair : (w : ℕ) (vs fs : List Vector) → Each (HasWidth w) vs → IsIndependent w vs → AreDualForms w vs fs → IsDualPair w (paired fs vs)
dual_pair w vs fs l free z = record {
  widths = pair_widths w vs vs fs l z;
  dual = duals w vs vs fs (Each-from_contains (Contains vs) vs (λ v c. c)) (independent_different w vs l free) z;
}

-- all vectors of a width have it as their rank
whole_rank : (w : ℕ) → HasRank w (HasWidth w) w
whole_rank w =
    let s = start_state w in
    subst (HasRank w (HasWidth w)) (complete_length w (unit_pairs w) s.pair (unit_only_zero w)) (rank_of_dual w (HasWidth w) (unit_pairs w) (all_of_width w) s.pair (complete_of w (unit_pairs w) s.pair.widths (unit_only_zero w)))

pub dual_only_zero : (w : ℕ) (vs fs : List Vector) → Each (HasWidth w) vs → IsIndependent w vs → length vs ≡ w → AreDualForms w vs fs → OnlyZero w (paired fs vs)
dual_only_zero w vs fs l free n z x lx v =
    let ps = paired fs vs in
    let e = paired_vectors fs vs (zip_length (IsDualForm w vs) vs fs z) in
    let i : IsInSpan w (map (λ (p : Pair). p.vector) ps) x = subst (λ us. IsInSpan w us x) (sym e) (full_independent_span w (HasWidth w) w vs x (λ y h. h) (whole_rank w) l free n lx) in
    (complete_on_span w ps (dual_pair w vs fs l free z)).only_zero x (lx, i) v
