-- The rows of a simplex and the other rows, one after another.
use Rattle.std.proofs.Common.{◌≡◌, ℕ, zero, suc, ◌+◌, ◌-◌, ◌<◌, ◌≤◌, List, [], ◌∷◌, ◌++◌, length, take, drop, get_or, false, refl, sym, ap, ◌∙◌, subst, arith}
use Rattle.std.proofs.lemmas.List.{take_more, take_all, length-take-le, length-append, append_assoc, append-nil, length-map}
use Rattle.std.specs.List.{AllByRecursion as Each}
use Rattle.nz_spec.specs.Vectors.{Vector, HasWidth}
use Rattle.nz_spec.specs.Covers.{vectors_at}
use Rattle.nz_spec.specs.Order.{HasNumber}
use Rattle.nz_spec.specs.Monoids.{IsIrreducible}
use Rattle.nz_spec.specs.Stages.{IsInStage}
use Rattle.nz_linear.specs.Extreme.{IsPointed}
use Rattle.nz_linear.proofs.Lists.{each_right}
use Rattle.nz_vec.specs.declared.answers.Work.{Work}
use Rattle.nz_pointed.specs.Pointed as pointed
use Rattle.nz_watch.specs.Telling.{Watched, WasTold, HasPassed, HasPassedAll}
use Rattle.nz_dual.specs.DualStages.{IsElement}
use Rattle.nz_dual.specs.Runs.{AreOrderedStages, IsRunRefusal, IsStopAt}
use Rattle.nz_dual.proofs.FirstStageLemmas.{full_simplex, rows_pointed}
use Rattle.nz_dual.proofs.RunLemmas as runs

pub simplex_pointed : (rows rays : List Vector) (places : List ℕ) → pointed.IsSimplexOf (length places) rows places rays → IsPointed (length places) (vectors_at rows places)
simplex_pointed rows rays places s = subst (λ (n : ℕ). IsPointed n (vectors_at rows places)) s.one_each (rows_pointed (vectors_at rows places) rays (full_simplex rows rays places s))

pub chosen_length : (rows : List Vector) (places : List ℕ) → length (vectors_at rows places) ≡ length places
chosen_length rows places = length-map places (λ p. get_or rows p [])

take_none : (xs : List Vector) → take 0 xs ≡ []
take_none [] = refl
take_none (x ∷ xs) = refl

take_beyond : (xs ys : List Vector) (i : ℕ) → take (length xs + i) (xs ++ ys) ≡ xs ++ take i ys
take_beyond [] ys i = ap (λ n. take n ys) (omega arith)
take_beyond (x ∷ xs) ys i = ap (λ n. take n (x ∷ (xs ++ ys))) (same (length xs) i) ∙ ap (λ us. x ∷ us) (take_beyond xs ys i)
  where
    same : (n i : ℕ) → suc n + i ≡ suc (n + i)
    same n i = omega arith

pub rows_at_start : (rows chosen others : List Vector) → rows ≡ chosen → rows ≡ chosen ++ take 0 others
rows_at_start rows chosen others e = e ∙ sym (append-nil chosen) ∙ ap (λ us. chosen ++ us) (sym (take_none others))

pub rows_more : (rows new chosen others : List Vector) (place : ℕ) (row : Vector) → place < length others → rows ≡ chosen ++ take place others → row ≡ get_or others place [] → new ≡ rows ++ row ∷ [] → new ≡ chosen ++ take (place + 1) others
rows_more rows new chosen others place row l e r n = n ∙ ap (λ us. us ++ row ∷ []) e ∙ append_assoc chosen (take place others) (row ∷ []) ∙ ap (λ v. chosen ++ (take place others ++ v ∷ [])) r ∙ ap (λ us. chosen ++ us) (sym (take_more others place [] l))

pub rows_at_end : (rows chosen others : List Vector) (place : ℕ) → length others ≤ place → rows ≡ chosen ++ take place others → rows ≡ chosen ++ others
rows_at_end rows chosen others place l e = e ∙ ap (λ us. chosen ++ us) (take_all place others l)

pub other_wide : (w : ℕ) (chosen others : List Vector) (place : ℕ) (row : Vector) → Each (HasWidth w) (chosen ++ others) → place < length others → row ≡ get_or others place [] → length row ≡ w
other_wide w chosen others place row h l e = ap length e ∙ at others place (each_right (HasWidth w) chosen others h) l
  where
    at : (vs : List Vector) (i : ℕ) → Each (HasWidth w) vs → i < length vs → HasWidth w (get_or vs i [])
    at [] i k m = absurd (let f : ⊥ = omega arith in f)
    at (v ∷ vs) zero k m = k.0
    at (v ∷ vs) (suc i) k m = at vs i k.1 (omega arith)

module _ (w : ℕ) (chosen others : List Vector) (long : length chosen ≡ w) (wide : Each (HasWidth w) (chosen ++ others)) (pt : IsPointed w chosen) (told : ℕ) where
  pub at_start : (now : Watched) → HasPassed (AreOrderedStages w (chosen ++ others)) told 0 now now false
  at_start now = runs.nothing_passed w (chosen ++ others) told now wide (subst (IsPointed w) (sym front) pt)
    where
      front : take w (chosen ++ others) ≡ chosen
      front = ap (λ n. take n (chosen ++ others)) (sym long ∙ add_none (length chosen)) ∙ take_beyond chosen others 0 ∙ ap (λ us. chosen ++ us) (take_none others) ∙ append-nil chosen
        where
          add_none : (n : ℕ) → n ≡ n + 0
          add_none n = omega arith

  module _ (place v n : ℕ) (rows : List Vector) (before middle : Watched) (h : HasPassed (AreOrderedStages w (chosen ++ others)) told place before middle false) (l : place ≤ length others) (is : rows ≡ chosen ++ take place others) (same : v ≡ w) (number : HasNumber (IsElement v rows) n) where
    inside : w + place ≤ length (chosen ++ others)
    inside = let e = length-append chosen others in let f = long in omega arith

    size : length rows ≡ w + place
    size = let e = ap length is ∙ length-append chosen (take place others) in let f = length-take-le place others l in let g = long in omega arith

    number_here : HasNumber (IsIrreducible (IsInStage (HasWidth w) (take (w + place) (chosen ++ others)))) n
    number_here = subst (λ (us : List Vector). HasNumber (IsIrreducible (IsInStage (HasWidth w) us)) n) (is ∙ sym (take_beyond chosen others place) ∙ ap (λ k. take (k + place) (chosen ++ others)) long) (subst (λ (k : ℕ). HasNumber (IsElement k rows) n) same number)

    pub stage_passed : (now : Watched) → WasTold middle now (drop (told - place) ((length rows, n) ∷ [])) false → HasPassed (AreOrderedStages w (chosen ++ others)) told (place + 1) before now false
    stage_passed now t = runs.one_passed w (chosen ++ others) told place n before middle now h inside number_here (subst (λ (k : ℕ). WasTold middle now (drop (told - place) ((k, n) ∷ [])) false) size t)

    pub stage_stopped : (P : ℕ → Work → Type 0) (now : Watched) (e : Work) → IsStopAt told place (length rows, n) middle now e → IsRunRefusal (AreOrderedStages w (chosen ++ others)) P told before now e
    stage_stopped P now e s =
        let t : IsStopAt told place (w + place, n) middle now e = subst (λ (k : ℕ). IsStopAt told place (k, n) middle now e) size s in
        runs.stop_refused (AreOrderedStages w (chosen ++ others)) P told (w + place) before now e t.stopped (runs.stopped_there w (chosen ++ others) told place n before middle now h inside number_here e t (w + place) t.stopped)

  pub all_done : (place : ℕ) (before now : Watched) → place ≡ length others → HasPassed (AreOrderedStages w (chosen ++ others)) told (place + 1) before now false → HasPassedAll (AreOrderedStages w (chosen ++ others)) told before now
  all_done place before now e h = runs.all_passed w (chosen ++ others) told (place + 1) before now (let f = length-append chosen others in let g = long in omega arith) h
