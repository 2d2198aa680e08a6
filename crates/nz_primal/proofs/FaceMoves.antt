-- The cuts of the face, one after the other.
use Rattle.std.proofs.Common.{◌≡◌, ℕ, suc, ◌+◌, ◌<◌, ◌≤◌, List, [], ◌∷◌, ◌++◌, length, map, take, drop, get_or, ℤ, subst, ap, sym, refl, ◌∙◌}
use Rattle.std.proofs.lemmas.List.{take_more, take_all, take-append-drop}
use Rattle.std.proofs.Math.Seq.{drop-cons}
use Rattle.nz_spec.specs.Vectors.{Vector, unit_vectors}
use Rattle.nz_sweep.specs.Bases.{Base}
use Rattle.nz_sweep.specs.Duals.{Coordinate, unit_coordinate}
use Rattle.nz_measures.specs.Sweeps.{Sweeps, none, onward, whole_base}
use Rattle.nz_primal.specs.Parts.{MoveOn, IsCutCause, IsFaceCause}

-- one cut more
pub sweeps_push : {Cut : Type 0} (Move : Cut → Base → Base → Type 0) (cuts : List Cut) (cut : Cut) (b c d : Base) → Sweeps Move cuts b c → Move cut c d → Sweeps Move (cuts ++ cut ∷ []) b d
sweeps_push Move cuts cut b c d none m = onward m none
sweeps_push Move cuts cut b c d (onward {c = e} k s) m = onward k (sweeps_push Move _ cut e c d s m)

-- a base is the whole one by its parts
pub whole_parts : (w : ℕ) (b : Base) → (b.width ≡ w) × (b.vectors ≡ unit_vectors w) × (b.coordinates ≡ map unit_coordinate (unit_vectors w)) → b ≡ whole_base w
whole_parts w b e = parts b.width b.vectors b.coordinates e.0 e.1 e.2
  where
    parts : (n : ℕ) (vs : List Vector) (cs : List Coordinate) → n ≡ w → vs ≡ unit_vectors w → cs ≡ map unit_coordinate (unit_vectors w) → record { width = n; vectors = vs; coordinates = cs } ≡ whole_base w
    parts n vs cs e f g = cc

module _ (rays rows : List Vector) (w : ℕ) where
  pub moves_start : (b : Base) → (b.width ≡ w) × (b.vectors ≡ unit_vectors w) × (b.coordinates ≡ map unit_coordinate (unit_vectors w)) → Sweeps (MoveOn rays) (take 0 rows) (whole_base w) b
  moves_start b e = subst (Sweeps (MoveOn rays) (take 0 rows) (whole_base w)) (sym (whole_parts w b e)) (subst (λ (cs : List Vector). Sweeps (MoveOn rays) cs (whole_base w) (whole_base w)) (sym (take_none rows)) none)
    where
      take_none : (xs : List Vector) → take 0 xs ≡ []
      take_none [] = refl
      take_none (x ∷ xs) = refl

  pub moves_more : (i : ℕ) (row : Vector) (before after : Base) → i < length rows → row ≡ get_or rows i [] → MoveOn rays row before after → Sweeps (MoveOn rays) (take i rows) (whole_base w) before → Sweeps (MoveOn rays) (take (i + 1) rows) (whole_base w) after
  moves_more i row before after l e m s =
      subst (λ (cs : List Vector). Sweeps (MoveOn rays) cs (whole_base w) after) (ap (λ (r : Vector). take i rows ++ r ∷ []) e ∙ sym (take_more rows i [] l)) (sweeps_push (MoveOn rays) (take i rows) row (whole_base w) before after s m)

  pub moves_all : (i : ℕ) (b : Base) → length rows ≤ i → Sweeps (MoveOn rays) (take i rows) (whole_base w) b → Sweeps (MoveOn rays) rows (whole_base w) b
  moves_all i b l s = subst (λ (cs : List Vector). Sweeps (MoveOn rays) cs (whole_base w) b) (take_all i rows l) s

  pub moves_refused : (h : ℤ) (fits : ℤ → Type 0) (i : ℕ) (row : Vector) (moment : Base) → i < length rows → row ≡ get_or rows i [] → Sweeps (MoveOn rays) (take i rows) (whole_base w) moment → IsCutCause h fits row rays moment → IsFaceCause h fits w rows rays
  moves_refused h fits i row moment l e s c = record {
    row = row;
    moment = moment;
    midway = record { earlier = take i rows; later = drop (suc i) rows; whole = split; sweeps = s };
    cause = c;
  }
    where
      split : rows ≡ take i rows ++ row ∷ drop (suc i) rows
      split = sym (take-append-drop i rows) ∙ ap (λ (vs : List Vector). take i rows ++ vs) (drop-cons rows i [] l ∙ ap (λ (r : Vector). r ∷ drop (suc i) rows) (sym e))
