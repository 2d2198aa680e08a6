-- In the coordinates of a cone: each cause of the dual run is a named number above the bound, or stages that have more than the limit.
use Rattle.std.proofs.Common.{◌≡◌, ◌⊎◌, inl, inr, ℕ, List, [], ◌∷◌, ◌++◌, length, map, take, get_or, ℤ, pos, ◌<ℤ◌, subst, ap, sym, refl, ◌∙◌, arith}
use Rattle.std.proofs.lemmas.List.{length-map, length-append, append_assoc}
use Rattle.std.proofs.Math.Seq.{take-append_seam}
use Rattle.std.proofs.lemmas.List.Elements.{Contains-append_right}
use Rattle.std.specs.List.{AllByRecursion as Each, AllZip, Contains}
use Rattle.nz_spec.specs.Vectors.{Vector, dot, HasWidth, IsPrimitive}
use Rattle.nz_spec.specs.Covers.{vectors_at}
use Rattle.nz_spec.specs.Monoids.{IsPositive, IsExtreme}
use Rattle.nz_spec.specs.Order.{MoreThan}
use Rattle.nz_spec.specs.Stages.{IsInStage, IsFreshRow, Separates, none, fresh, other}
use Rattle.nz_spec.proofs.ListLaws.{Each-contains, contains_here, contains_there}
use Rattle.nz_linear.specs.Cones.{IsInRows}
use Rattle.nz_linear.specs.DualPairs.{Pair, IsDual}
use Rattle.nz_linear.specs.Extreme.{IsPointed}
use Rattle.nz_linear.specs.RayStep.{AreExtremeRays}
use Rattle.nz_linear.proofs.Lists.{each_map, each_append, each_left, each_right, map_each}
use Rattle.nz_linear.proofs.RayStart.{dual_rays, dual_pointed}
use Rattle.nz_linear.proofs.Splitting.{listed_is_extreme}
use Rattle.nz_pointed.specs.Pointed.{paired, IsSimplexOf}
use Rattle.nz_dual.specs.DualStages.{IsElement, IsReversedElement, IsNamed, IsTooLarge}
use Rattle.nz_dual.specs.Refusals.{IsRowOf}
use Rattle.nz_vec.specs.declared.answers.Work.TheVariants.{Range}
use Rattle.nz_dual.specs.DualStages as named
use Rattle.nz_dual.specs.FirstStage.{IsStartCandidate, IsStartVector, IsStartForm, IsStartTooLarge}
use Rattle.nz_measures.specs.Stages.{AreFirstRays, IsLater, of_later, of_reversed, of_sum, held_first, first_sum}
use Rattle.nz_measures.specs.Reaches.{IsVectorInStages, IsFormInStages, HasDualAbove, dual_stages}
use Rattle.nz_measures.specs.Crowds.{HaveStagesAbove}
use Rattle.nz_measures.specs.Crowds as crowds
use Rattle.nz_measures.proofs.Measuring.{pool_vector, pool_form, pool_pair}

-- ---- the first stage
module _ (h : ℤ) (w : ℕ) (rows order ordered F : List Vector) (p : IsPositive (IsInRows w rows)) (a : AreFirstRays (HasWidth w) w rows ordered F) where
  abbrev Named : Vector → Type 0
  Named = IsVectorInStages w rows ordered F

  abbrev IsForm : Vector → Type 0
  IsForm = IsFormInStages w rows order F

  start_vector : (x : Vector) → IsStartVector w (take w ordered) F x → Named x
  start_vector x (inl c) = inr (inl (held_first c))
  start_vector x (inr c) = inr (inl (first_sum c))

  start_form : Each (Contains rows) (take w ordered) → (f : Vector) → IsStartForm w (take w ordered) F f → IsForm f
  start_form l f (inl c) = inl (inl (Each-contains (Contains rows) (take w ordered) f l c))
  start_form l f (inr n) = inr n

  pub start_above : Each (Contains rows) (take w ordered) → IsStartTooLarge h w (take w ordered) F → HasDualAbove h w rows order
  start_above l (inl k) = elim k.named [
    | inl v ↦ dual_stages p a (pool_vector h Named IsForm k.vector (start_vector k.vector v) k.large)
    | inr f ↦ dual_stages p a (pool_form h Named IsForm k.vector (start_form l k.vector f) k.large)
  ]
  start_above l (inr k) = dual_stages p a (pool_pair h Named IsForm k.form k.vector (start_form l k.form k.is_form) (start_vector k.vector k.named) k.large)

  -- ---- the later stages
  module _ (earlier : List Vector) (last : Vector) (l : IsLater w ordered earlier last) (of_rows : Each (Contains rows) (earlier ++ last ∷ [])) where
    stage_vector : (x : Vector) → IsNamed w earlier last x → Named x
    stage_vector x (named.element e) = inr (inr (of_later l e))
    stage_vector x (named.reversed e) = inr (inr (of_reversed l e))
    stage_vector x (named.sum {u = u} {v = v} e f) = inr (inr (of_sum l e f))

    pub insert_above : IsTooLarge h w earlier last → HasDualAbove h w rows order
    insert_above (inl k) = elim k.named [
      | inl e ↦ dual_stages p a (pool_form h Named IsForm k.vector (inl (inl (Each-contains (Contains rows) (earlier ++ last ∷ []) k.vector of_rows (subst (Contains (earlier ++ last ∷ [])) (sym e) (Contains-append_right earlier (last ∷ []) last (contains_here last [])))))) k.large)
      | inr v ↦ dual_stages p a (pool_vector h Named IsForm k.vector (stage_vector k.vector v) k.large)
    ]
    insert_above (inr k) = dual_stages p a (pool_pair h Named IsForm k.form k.vector (inl (inl (Each-contains (Contains rows) (earlier ++ last ∷ []) k.form of_rows k.is_form))) (stage_vector k.vector k.named) k.large)

-- ---- crowds
pub start_crowded : (limit w : ℕ) (rows ordered F : List Vector) → AreFirstRays (HasWidth w) w rows ordered F → MoreThan limit (IsStartCandidate w (take w ordered) F) → HaveStagesAbove limit w (HasWidth w) w rows
start_crowded limit w rows ordered F a m = crowds.of_first a m

pub insert_crowded : (limit w : ℕ) (rows ordered F earlier : List Vector) (last : Vector) → AreFirstRays (HasWidth w) w rows ordered F → IsLater w ordered earlier last → MoreThan limit (IsElement w (earlier ++ last ∷ [])) ⊎ MoreThan limit (IsReversedElement w earlier last) → HaveStagesAbove limit w (HasWidth w) w rows
insert_crowded limit w rows ordered F earlier last a l (inl m) = crowds.of_stage a l m
insert_crowded limit w rows ordered F earlier last a l (inr m) = crowds.of_reversed a l m

-- ---- the rays of a simplex are those of the definition
stage_extreme : (w : ℕ) (rows : List Vector) (x : Vector) → IsExtreme (IsInRows w rows) x → IsExtreme (IsInStage (HasWidth w) rows) x
stage_extreme w rows x e = record {
  irreducible = record {
    member = record { in_lattice = e.irreducible.member.0; at_least = e.irreducible.member.1 };
    nonzero = e.irreducible.nonzero;
    no_sum = λ y z my ny mz nz. e.irreducible.no_sum y z (my.in_lattice, my.at_least) ny (mz.in_lattice, mz.at_least) nz;
  };
  splits_along = λ m a b pm ma mb. e.splits_along m a b pm (ma.in_lattice, ma.at_least) (mb.in_lattice, mb.at_least);
}

forms_of : (fs vs : List Vector) → length vs ≡ length fs → map (λ (p : Pair). p.form) (paired fs vs) ≡ fs
forms_of [] vs l = refl
forms_of (f ∷ fs) [] l = absurd (let e : ⊥ = omega (arith, l) in e)
forms_of (f ∷ fs) (v ∷ vs) l = ap (λ t. f ∷ t) (forms_of fs vs (omega (arith, l)))

vectors_of : (fs vs : List Vector) → length vs ≡ length fs → map (λ (p : Pair). p.vector) (paired fs vs) ≡ vs
vectors_of [] [] l = refl
vectors_of [] (v ∷ vs) l = absurd (let e : ⊥ = omega (arith, l) in e)
vectors_of (f ∷ fs) [] l = absurd (let e : ⊥ = omega (arith, l) in e)
vectors_of (f ∷ fs) (v ∷ vs) l = ap (λ t. v ∷ t) (vectors_of fs vs (omega (arith, l)))

own_positive : (P : Vector → Type 0) (fs vs : List Vector) → length vs ≡ length fs → IsDual (paired fs vs) → Each P vs → AllZip (λ h x. P x × (pos 0 <ℤ dot h x)) fs vs
own_positive P [] [] l d e = tt
own_positive P [] (v ∷ vs) l d e = absurd (let b : ⊥ = omega (arith, l) in b)
own_positive P (f ∷ fs) [] l d e = absurd (let b : ⊥ = omega (arith, l) in b)
own_positive P (f ∷ fs) (v ∷ vs) l d e = ((e.0, d.0), own_positive P fs vs (omega (arith, l)) d.2 e.1)

pub simplex_rays : (w : ℕ) (rows rays others : List Vector) (places : List ℕ) → IsSimplexOf w rows places rays → length places ≡ w → Separates (IsFreshRow (HasWidth w)) [] rows (vectors_at rows places) others → AreFirstRays (HasWidth w) w rows (vectors_at rows places ++ others) rays
simplex_rays w rows rays others places s n separates =
    let fs = vectors_at rows places in
    let lf : length fs ≡ w = length-map places (λ i. get_or rows i []) ∙ n in
    let l : length rays ≡ length fs = s.one_each ∙ n ∙ sym lf in
    let ps = paired fs rays in
    let forms = forms_of fs rays l in
    let vectors = vectors_of fs rays l in
    let pt : IsPointed w fs = subst (IsPointed w) forms (dual_pointed w ps s.only_zero) in
    let ex : AreExtremeRays w fs rays = subst (λ (fs : List Vector). AreExtremeRays w fs rays) forms (subst (AreExtremeRays w (map (λ (p : Pair). p.form) ps)) vectors (dual_rays w ps s.dual s.only_zero (map_each (λ (p : Pair). p.vector) IsPrimitive ps (subst (Each IsPrimitive) (sym vectors) s.primitive)))) in
    let t : take w (fs ++ others) ≡ fs = ap (λ m. take m (fs ++ others)) (sym lf) ∙ take_front fs others in
    let each : Each (IsExtreme (IsInStage (HasWidth w) fs)) rays = each_of rays (λ x c. stage_extreme w fs x (listed_is_extreme w fs rays x pt ex c)) in
    record {
      in_order = record { first = fs; others = others; separates = separates; whole = refl };
      rays = subst (λ (gs : List Vector). AllZip (λ h x. IsExtreme (IsInStage (HasWidth w) gs) x × (pos 0 <ℤ dot h x)) gs rays) (sym t) (own_positive (IsExtreme (IsInStage (HasWidth w) fs)) fs rays l s.dual.dual each);
    }
  where
    take_front : (xs ys : List Vector) → take (length xs) (xs ++ ys) ≡ xs
    take_front xs ys = take-append_seam xs ys

    each_of : {P : Vector → Type 0} (xs : List Vector) → ((x : Vector) → Contains xs x → P x) → Each P xs
    each_of [] f = tt
    each_of (x ∷ xs) f = (f x (contains_here x xs), each_of xs (λ y c. f y (contains_there x y xs c)))

-- ---- the stage that is refused
-- all rows are rows of the list
separated_first : {Fresh : List Vector → Vector → Type 0} {earlier vs first others : List Vector} → Separates Fresh earlier vs first others → Each (Contains vs) first
separated_first none = tt
separated_first (fresh {vs = vs} {first = first} {v = v} n s) = (contains_here v vs, each_map (Contains vs) (Contains (v ∷ vs)) first (λ x c. contains_there v x vs c) (separated_first s))
separated_first (other {vs = vs} {first = first} {v = v} n s) = each_map (Contains vs) (Contains (v ∷ vs)) first (λ x c. contains_there v x vs c) (separated_first s)

separated_others : {Fresh : List Vector → Vector → Type 0} {earlier vs first others : List Vector} → Separates Fresh earlier vs first others → Each (Contains vs) others
separated_others none = tt
separated_others (fresh {vs = vs} {others = others} {v = v} n s) = each_map (Contains vs) (Contains (v ∷ vs)) others (λ x c. contains_there v x vs c) (separated_others s)
separated_others (other {vs = vs} {others = others} {v = v} n s) = (contains_here v vs, each_map (Contains vs) (Contains (v ∷ vs)) others (λ x c. contains_there v x vs c) (separated_others s))

-- a stage that is refused for a number forms one that is named
pub stage_above : (h : ℤ) (limit w : ℕ) (rows order rays others : List Vector) (places : List ℕ) → IsPositive (IsInRows w rows) → IsSimplexOf w rows places rays → length places ≡ w → Separates (IsFreshRow (HasWidth w)) [] rows (vectors_at rows places) others
    → (passed : ℕ) → IsRowOf h limit w (vectors_at rows places) rays others passed (Range 0) → HasDualAbove h w rows order
stage_above h limit w rows order rays others places p s n separates passed refused =
    let chosen : List Vector = vectors_at rows places in
    let size : length chosen ≡ w = length-map places (λ i. get_or rows i []) ∙ n in
    let ordered : List Vector = chosen ++ others in
    let a : AreFirstRays (HasWidth w) w rows ordered rays = simplex_rays w rows rays others places s n separates in
    let front : take w ordered ≡ chosen = ap (λ m. take m (chosen ++ others)) (sym size) ∙ take-append_seam chosen others in
    let listed : Each (Contains rows) chosen = separated_first separates in
    elim refused [
      | inl k ↦ start_above h w rows order ordered rays p a (subst (Each (Contains rows)) (sym front) listed) (subst (λ fs. IsStartTooLarge h w fs rays) (sym front) k.1.1)
      | inr k ↦
          let there : Each (Contains rows) (k.earlier ++ k.row ∷ k.later) = subst (Each (Contains rows)) k.whole (separated_others separates) in
          let own : Contains rows k.row = (each_right (Contains rows) k.earlier (k.row ∷ k.later) there).0 in
          insert_above h w rows order ordered rays p a (chosen ++ k.earlier) k.row
          (record { later = k.later; whole = ap (λ xs. chosen ++ xs) k.whole ∙ sym (append_assoc chosen k.earlier (k.row ∷ k.later)); enough = (let e = length-append chosen k.earlier in omega (arith, e, size)) })
          (each_append (Contains rows) (chosen ++ k.earlier) (k.row ∷ []) (each_append (Contains rows) chosen k.earlier listed (each_left (Contains rows) k.earlier (k.row ∷ k.later) there)) (own, tt))
          k.refused.1
    ]
