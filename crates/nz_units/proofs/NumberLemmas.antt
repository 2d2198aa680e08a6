-- The causes of the calls in the coordinates of the rest are named numbers above the bound.
use Rattle.std.proofs.Common.{◌≡◌, ◌⊎◌, inl, inr, ℕ, List, [], ◌∷◌, ◌++◌, length, take, ℤ, pos, Contains, sym, ap, ◌∙◌, subst, arith}
use Rattle.std.proofs.lemmas.List.{length-append, append_assoc}
use Rattle.std.proofs.lemmas.List.Elements.{Contains-append_right}
use Rattle.std.proofs.Math.Seq.{take-append_seam}
use Rattle.std.specs.List.{AllByRecursion as Each}
use Rattle.nz_spec.specs.Vectors.{Vector, HasWidth}
use Rattle.nz_spec.specs.Covers.{vectors_at}
use Rattle.nz_spec.specs.Forms.{IsNormalForm}
use Rattle.nz_spec.specs.Stages.{IsFreshRow, Separates}
use Rattle.nz_spec.proofs.ListLaws.{Each-contains, contains_here}
use Rattle.nz_linear.proofs.Lists.{each_append, each_left, each_right}
use Rattle.nz_range.proofs.Causes.{each_own}
use Rattle.nz_range.specs.Measures.{measure, pair_measure}
use Rattle.nz_sweep.specs.Numbers.{SomeNumberLarge}
use Rattle.nz_pointed.specs.Pointed.{IsSimplexOf, IsTooLarge}
use Rattle.nz_measures.specs.Stages.{AreFirstRays, IsLater, IsFirstVector, IsStageVector, of_later, of_reversed, of_sum, held_first, first_sum}
use Rattle.nz_vec.specs.declared.answers.Work.TheVariants.{Range}
use Rattle.nz_dual.specs.DualStages as stages
use Rattle.nz_dual.specs.FirstStage.{IsStartVector, IsStartForm, IsStartTooLarge}
use Rattle.nz_dual.specs.Refusals.{IsRowOf}
use Rattle.nz_dual.proofs.InsertionLemmas.{chosen_length}
use Rattle.nz_dual.proofs.NumberCauses.{simplex_rays}
use Rattle.nz_dual.proofs.OrderLemmas.{each_part}
use Rattle.nz_units.specs.UnitNumbers.{IsPoolNumber, of_vector, of_form, of_pair, IsRestNumber, of_rows, of_stages}

-- the first rows are refused
pub first_large : (h : ℤ) (w : ℕ) (rows : List Vector) → IsTooLarge h w rows → SomeNumberLarge h (IsRestNumber w rows)
first_large h w rows (inl k) = record { number = pos (measure k.vector); is_number = of_rows (of_vector k.named); large = k.large }
first_large h w rows (inr k) = record { number = pos (pair_measure k.form k.vector); is_number = of_rows (of_pair k.is_form k.named); large = k.large }

module _ (h : ℤ) (w : ℕ) (rows ordered F : List Vector) (a : AreFirstRays (HasWidth w) w rows ordered F) where
  abbrev Named : Vector → Type 0
  Named v = IsFirstVector w ordered F v ⊎ IsStageVector (HasWidth w) w ordered v

  abbrev IsForm : Vector → Type 0
  IsForm f = Contains rows f ⊎ IsNormalForm w F f

  -- ---- the first stage
  start_vector : (x : Vector) → IsStartVector w (take w ordered) F x → Named x
  start_vector x (inl c) = inl (held_first c)
  start_vector x (inr c) = inl (first_sum c)

  start_form : Each (Contains rows) (take w ordered) → (f : Vector) → IsStartForm w (take w ordered) F f → IsForm f
  start_form l f (inl c) = inl (Each-contains (Contains rows) (take w ordered) f l c)
  start_form l f (inr n) = inr n

  start_large : Each (Contains rows) (take w ordered) → IsStartTooLarge h w (take w ordered) F → SomeNumberLarge h (IsRestNumber w rows)
  start_large l (inl k) = elim k.named [
    | inl v ↦ record { number = pos (measure k.vector); is_number = of_stages a (of_vector (start_vector k.vector v)); large = k.large }
    | inr f ↦ record { number = pos (measure k.vector); is_number = of_stages a (of_form (start_form l k.vector f)); large = k.large }
  ]
  start_large l (inr k) = record { number = pos (pair_measure k.form k.vector); is_number = of_stages a (of_pair (start_form l k.form k.is_form) (start_vector k.vector k.named)); large = k.large }

  -- ---- the later stages
  module _ (earlier : List Vector) (last : Vector) (l : IsLater w ordered earlier last) (of_list : Each (Contains rows) (earlier ++ last ∷ [])) where
    stage_vector : (x : Vector) → stages.IsNamed w earlier last x → Named x
    stage_vector x (stages.element e) = inr (of_later l e)
    stage_vector x (stages.reversed e) = inr (of_reversed l e)
    stage_vector x (stages.sum {u = u} {v = v} e f) = inr (of_sum l e f)

    insert_large : stages.IsTooLarge h w earlier last → SomeNumberLarge h (IsRestNumber w rows)
    insert_large (inl k) = elim k.named [
      | inl e ↦ record { number = pos (measure k.vector); is_number = of_stages a (of_form (inl (subst (Contains rows) (sym e) (each_right (Contains rows) earlier (last ∷ []) of_list).0))); large = k.large }
      | inr v ↦ record { number = pos (measure k.vector); is_number = of_stages a (of_vector (stage_vector k.vector v)); large = k.large }
    ]
    insert_large (inr k) = record { number = pos (pair_measure k.form k.vector); is_number = of_stages a (of_pair (inl (Each-contains (Contains rows) (earlier ++ last ∷ []) k.form of_list k.is_form)) (stage_vector k.vector k.named)); large = k.large }

-- a stage of the dual algorithm is refused
pub stage_large : (h : ℤ) (limit w : ℕ) (rows rays others : List Vector) (places : List ℕ) → IsSimplexOf w rows places rays → length places ≡ w → Separates (IsFreshRow (HasWidth w)) [] rows (vectors_at rows places) others
    → (passed : ℕ) → IsRowOf h limit w (vectors_at rows places) rays others passed (Range 0) → SomeNumberLarge h (IsRestNumber w rows)
stage_large h limit w rows rays others places s n separates passed refused =
    let chosen : List Vector = vectors_at rows places in
    let size : length chosen ≡ w = chosen_length rows places ∙ n in
    let ordered : List Vector = chosen ++ others in
    let a : AreFirstRays (HasWidth w) w rows ordered rays = simplex_rays w rows rays others places s n separates in
    let front : take w ordered ≡ chosen = ap (λ m. take m (chosen ++ others)) (sym size) ∙ take-append_seam chosen others in
    let all : Each (Contains rows) (chosen ++ others) = each_part (Contains rows) separates (each_own rows) in
    let listed : Each (Contains rows) chosen = each_left (Contains rows) chosen others all in
    elim refused [
      | inl k ↦ start_large h w rows ordered rays a (subst (Each (Contains rows)) (sym front) listed) (subst (λ fs. IsStartTooLarge h w fs rays) (sym front) k.1.1)
      | inr k ↦
          let there : Each (Contains rows) (k.earlier ++ k.row ∷ k.later) = subst (Each (Contains rows)) k.whole (each_right (Contains rows) chosen others all) in
          let own : Contains rows k.row = (each_right (Contains rows) k.earlier (k.row ∷ k.later) there).0 in
          insert_large h w rows ordered rays a (chosen ++ k.earlier) k.row
          (record { later = k.later; whole = ap (λ xs. chosen ++ xs) k.whole ∙ sym (append_assoc chosen k.earlier (k.row ∷ k.later)); enough = (let e = length-append chosen k.earlier in omega (arith, e, size)) })
          (each_append (Contains rows) (chosen ++ k.earlier) (k.row ∷ []) (each_append (Contains rows) chosen k.earlier listed (each_left (Contains rows) k.earlier (k.row ∷ k.later) there)) (own, tt))
          k.refused.1
    ]
