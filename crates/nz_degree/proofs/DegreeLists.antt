-- The rows of a list by their places, and what is picked of them.
use Rattle.std.proofs.Common.{◌≡◌, ℕ, suc, ◌+◌, ◌<◌, ◌≤◌, List, [], ◌∷◌, ◌++◌, length, take, get_or, ℤ, pos, sym, ap, ◌∙◌, subst, arith, take_all}
use Rattle.std.specs.Prelude.{Contains}
use Rattle.std.proofs.lemmas.List.{take_more}
use Rattle.std.specs.List.{AllByRecursion as Each}
use Rattle.nz_spec.specs.Vectors.{Vector, HasWidth}
use Rattle.nz_spec.proofs.ListLaws.{each_at, contains_at}
use Rattle.nz_vec.specs.Sums.{SumsFit}
use Rattle.nz_order.specs.Picks.{Picks}
use Rattle.nz_order.proofs.SortLaws.{Picks-keep, Picks-skip}
use Rattle.nz_degree.specs.Degrees.{LacksDegree}

pub each_from : {A : Type 0} (P : A → Type 0) (xs : List A) (d : A) → ((k : ℕ) → k < length xs → P (get_or xs k d)) → Each P xs
each_from P [] d h = tt
each_from P (x ∷ xs) d h = (h 0 (omega arith), each_from P xs d (λ k l. h (suc k) (omega (arith, l))))

-- the width of the row at a place
pub width_at : (w : ℕ) (list : List Vector) (k : ℕ) (row : Vector) → Each (HasWidth w) list → k < length list → row ≡ get_or list k [] → w ≡ length row
width_at w list k row h l e = sym (ap length e ∙ each_at (HasWidth w) list k [] h l)

pub lacks_at : (fits : ℤ → Type 0) (grading : Vector) (list : List Vector) (k : ℕ) (row : Vector) → k < length list → row ≡ get_or list k [] → (¬ SumsFit fits (pos 0) grading row) → LacksDegree fits grading list
lacks_at fits grading list k row l e n = record { row = row; listed = subst (Contains list) (sym e) (contains_at list k [] l); lacks = n }

-- one row more of the list: a copy of it is picked, or it is left out
pub picked_next : (Q : Vector → Type 0) (list picked more : List Vector) (k : ℕ) (row copy : Vector) → k < length list → row ≡ get_or list k [] → Q row → copy ≡ row → more ≡ picked ++ copy ∷ [] → Picks Q (take k list) picked → Picks Q (take (k + 1) list) more
picked_next Q list picked more k row copy l e h f m p =
    let next = Picks-keep (get_or list k []) p (subst Q e h) in
    let same : picked ++ get_or list k [] ∷ [] ≡ more = sym (m ∙ ap (λ (x : Vector). picked ++ x ∷ []) (f ∙ e)) in
    subst (λ (xs : List Vector). Picks Q xs more) (sym (take_more list k [] l)) (subst (Picks Q (take k list ++ get_or list k [] ∷ [])) same next)

pub left_next : (Q : Vector → Type 0) (list picked : List Vector) (k : ℕ) (row : Vector) → k < length list → row ≡ get_or list k [] → (¬ Q row) → Picks Q (take k list) picked → Picks Q (take (k + 1) list) picked
left_next Q list picked k row l e n p = subst (λ (xs : List Vector). Picks Q xs picked) (sym (take_more list k [] l)) (Picks-skip (get_or list k []) p (λ h. n (subst Q (sym e) h)))

pub picked_all : (Q : Vector → Type 0) (list picked : List Vector) (k : ℕ) → length list ≤ k → Picks Q (take k list) picked → Picks Q list picked
picked_all Q list picked k l p = subst (λ (xs : List Vector). Picks Q xs picked) (take_all k list l) p
