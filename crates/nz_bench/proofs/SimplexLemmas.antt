-- The first simplex of rows, as the walk and the reducer take it.
use Rattle.std.proofs.Common.{◌≡◌, ℕ, zero, suc, ◌+◌, ◌++◌, take, Contains, ◌<◌, List, [], ◌∷◌, length, get_or, pos, refl, sym, ap, ◌∙◌, subst, arith}
use Rattle.std.specs.List.{AllByRecursion as Each}
use Rattle.nz_spec.specs.Vectors.{Vector, dot, HasWidth, IsZero}
use Rattle.nz_spec.specs.Sums.{HasRank}
use Rattle.nz_spec.specs.Covers.{vectors_at}
use Rattle.std.proofs.lemmas.List.{length-map, get_or-map, take_more, append-nil}
use Rattle.nz_spec.proofs.ListLaws.{contains_here, contains_there, Each-from_contains, Each-contains}
use Rattle.nz_linear.specs.DualPairs.{Pair, pair_of, AllVanish, IsDualPair, OnlyZero}
use Rattle.nz_spec.proofs.VectorLaws.{IsZero-zero_vector}
use Rattle.nz_linear.specs.Elimination.{IsState}
use Rattle.nz_linear.proofs.Rank.{rank_of_state}
use Rattle.nz_linear.proofs.Dependence.{complete_length}
use Rattle.nz_pointed.specs.Pointed.{paired, IsNew, IsSimplexOf}
use Rattle.nz_classes.specs.Classes.{IsPoint}
use Rattle.nz_classes.specs.Walks.{paired as paired_sides, IsFullSimplex}
use Rattle.nz_dual.proofs.FirstStageLemmas.{own_width}
use Rattle.nz_reducer.specs.Reducers.{AreSeparated}

pub simplex_size : (w : ℕ) (rows : List Vector) (places : List ℕ) (rays : List Vector) → IsSimplexOf w rows places rays → length places ≡ w
simplex_size w rows places rays s = sym (own_width w rows rays places s)

pub within : (w : ℕ) (rows : List Vector) (places : List ℕ) (rays : List Vector) → IsSimplexOf w rows places rays → Each (λ p. p < length rows) places
within w rows places rays s = Each-from_contains _ places (λ p c. (Each-contains (IsNew w rows) places p s.first.only c).within)

contains_get : (k : ℕ) (xs : List Vector) → k < length xs → Contains xs (get_or xs k [])
contains_get k [] h = absurd (omega arith)
contains_get zero (x ∷ xs) h = contains_here x xs
contains_get (suc k) (x ∷ xs) h = contains_there x (get_or xs k []) xs (contains_get k xs (omega arith))

vanish : (rows : List Vector) (places : List ℕ) (rays : List Vector) (x : Vector) → Each (λ p. p < length rows) places → Each (λ r. dot r x ≡ pos 0) rows → AllVanish (paired (vectors_at rows places) rays) x
vanish rows [] rays x inside zero_at = tt
vanish rows (p ∷ places) [] x inside zero_at = tt
vanish rows (p ∷ places) (v ∷ rays) x inside zero_at = (Each-contains (λ r. dot r x ≡ pos 0) rows (get_or rows p []) zero_at (contains_get p rows inside.0), vanish rows places rays x inside.1 zero_at)

-- all rows are 0 only where the chosen ones are
pub separated : (w : ℕ) (rows candidates : List Vector) (places : List ℕ) (rays : List Vector) → IsSimplexOf w rows places rays → Each (HasWidth w) rows → Each (HasWidth w) candidates → AreSeparated rows candidates
separated w rows candidates places rays s wide candidates_wide = record {
  width = w;
  rows_wide = wide;
  candidates_wide = candidates_wide;
  only_zero = λ x width zero_at. subst IsZero (sym (s.only_zero x width (vanish rows places rays x (within w rows places rays s) zero_at))) (IsZero-zero_vector w);
}

-- one row more of those at the places
pub chosen_more : (rows : List Vector) (places : List ℕ) (i place : ℕ) (row copy : Vector) (done more : List Vector) → i < length places → place ≡ get_or places i 0 → row ≡ get_or rows place [] → copy ≡ row → done ≡ take i (vectors_at rows places) → more ≡ done ++ copy ∷ [] → more ≡ take (i + 1) (vectors_at rows places)
chosen_more rows places i place row copy done more l p r c d m =
    let all = vectors_at rows places in
    let own : copy ≡ get_or all i [] = c ∙ r ∙ ap (λ q. get_or rows q []) p ∙ sym (get_or-map (λ q. get_or rows q []) places i 0 [] l) in
    m ∙ ap (λ (t : List Vector). t ++ copy ∷ []) d ∙ ap (λ (v : Vector). take i all ++ v ∷ []) own ∙ sym (take_more all i [] (omega (arith, l, length-map places (λ q. get_or rows q []))))

-- the points have the width of the rows
pub points_wide : (w : ℕ) (rows : List Vector) (places : List ℕ) (rays points : List Vector) → IsSimplexOf w rows places rays → Each (IsPoint (length rays) rays) points → Each (HasWidth w) points
points_wide w rows places rays points s e = Each-from_contains _ points (λ x c. (Each-contains (IsPoint (length rays) rays) points x e c).0 ∙ s.one_each ∙ simplex_size w rows places rays s)
