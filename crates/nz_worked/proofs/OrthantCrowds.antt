-- The crowd of the orthant: n + 1 in both modes.
use Rattle.std.proofs.Common.{◌≡◌, ℕ, ◌+◌, ◌<◌, List, [], ◌∷◌, ◌++◌, length, take, pos, ◌<ℤ◌, None, false, Contains, subst, subst₂, ap, sym, refl, ◌∙◌, arith}
use Rattle.std.proofs.lemmas.Int.{ints}
use Rattle.std.proofs.lemmas.List.{length-append, append-nil}
use Rattle.std.specs.List.{AllByRecursion as Each, AllZip}
use Rattle.nz_spec.specs.Vectors.{Vector, dot, zero_vector, unit_vectors, HasWidth}
use Rattle.nz_spec.specs.Sums.{HasRank}
use Rattle.nz_spec.specs.Boxes.{IsListedOrBoxMember}
use Rattle.nz_spec.specs.Order.{MoreThan}
use Rattle.nz_spec.specs.Systems.{System, IsMember}
use Rattle.nz_spec.specs.Monoids.{IsExtreme, IsIrreducible}
use Rattle.nz_spec.specs.Elements.{AreExtreme}
use Rattle.nz_spec.specs.Stages.{IsInLattice, IsInStage}
use Rattle.nz_spec.proofs.ListLaws.{contains_there, Each-weaker, Each-contains, Each-from_contains, different_within}
use Rattle.nz_spec.proofs.LinearLaws.{HasRank-unique}
use Rattle.nz_linear.proofs.Lists.{zip_to_right}
use Rattle.nz_order.proofs.BoxLaws.{entries_of_forms, forms_of_entries}
use Rattle.nz_vec.proofs.UnitLemmas.{length-unit_vectors, units_all}
use Rattle.nz_measures.specs.Stages.{AreFirstRays, IsLater}
use Rattle.nz_measures.specs.Crowds.{IsPrimalCrowdAbove, of_line, of_held, HaveStagesAbove, IsDualCrowdAbove, dual_line, of_stages, of_first, of_first_stage, of_stage, of_reversed}
use Rattle.nz_worked.proofs.Units.{IsUnit, each_unit, unit_listed, unit_at_self}
use Rattle.nz_worked.proofs.UnitLists.{units_different, zero_different, units_separate, separate_units, rising_units, each_rising, rising_listed, rising_in_order}
use Rattle.nz_worked.proofs.Orthants.{IsOrthant, orthant_positive, irreducible_unit, unit_extreme, held_of_units, units_held, whole_rank}

-- the vectors with w entries of at least 0
abbrev pub orthant : ℕ → System
orthant w = record { width = w; level = false; eq = []; cg = []; ge = unit_vectors w; gens = None; lat = None; grading = None; asked = None }

abbrev held_list : ℕ → List Vector
held_list w = zero_vector w ∷ unit_vectors w

-- what is in the list is at most w + 1
no_more : (w m : ℕ) (P : Vector → Type 0) → ((x : Vector) → P x → Contains (held_list w) x) → MoreThan m P → m < w + 1
no_more w m P f k =
    let few = different_within k.witnesses (held_list w) k.different (Each-from_contains (Contains (held_list w)) k.witnesses (λ x c. f x (Each-contains P k.witnesses x k.only c))) in
    let l = length-unit_vectors w in
    let n = k.more in
    omega (arith, few, l, n)

all_held : (w m : ℕ) (P : Vector → Type 0) → Each P (held_list w) → m < w + 1 → MoreThan m P
all_held w m P only l = record { witnesses = held_list w; different = (zero_different w, units_different w); only = only; more = (let n = length-unit_vectors w in omega (arith, l, n)) }

-- ---- primal mode
members : (w : ℕ) → IsOrthant w (IsMember (orthant w))
members w = record {
  into = λ x l n. record { width = l; equations = tt; congruences = tt; inequalities = forms_of_entries w x l n; generated = tt; in_group = tt };
  wide = λ x m. m.width;
  nonneg = λ x m. entries_of_forms w x m.width m.inequalities;
}

extreme_list : (w : ℕ) → AreExtreme (orthant w) (rising_units w)
extreme_list w = record {
  in_order = rising_in_order w;
  only = Each-weaker (IsUnit w) (IsExtreme (IsMember (orthant w))) (unit_extreme w (IsMember (orthant w)) (members w)) (rising_units w) (each_rising w);
  each = λ x e. rising_listed w x (irreducible_unit w (IsMember (orthant w)) (members w) x e.irreducible);
}

pub orthant_primal_below : (w m : ℕ) → IsPrimalCrowdAbove (orthant w) m → m < w + 1
orthant_primal_below w m (of_line l small) = omega (arith, small)
orthant_primal_below w m (of_held {X = X} p b more) =
    no_more w m (IsListedOrBoxMember w (IsMember (orthant w)) X) (λ x h. held_of_units w (IsMember (orthant w)) (members w) X x (Each-weaker (IsExtreme (IsMember (orthant w))) (IsUnit w) (λ u e. irreducible_unit w (IsMember (orthant w)) (members w) u e.irreducible) X b.only) h) more

pub orthant_primal_above : (w m : ℕ) → m < w + 1 → IsPrimalCrowdAbove (orthant w) m
orthant_primal_above w m l = of_held {X = rising_units w} (orthant_positive w (IsMember (orthant w)) (members w)) (extreme_list w)
    (all_held w m (IsListedOrBoxMember w (IsMember (orthant w)) (rising_units w)) (units_held w (IsMember (orthant w)) (members w) (rising_units w) (rising_listed w)) l)

-- ---- dual mode
abbrev Whole : ℕ → Vector → Type 0
Whole w = IsInLattice (orthant w) []

whole_into : (w : ℕ) (x : Vector) → HasWidth w x → Whole w x
whole_into w x l = record { width = l; zero_at = tt; congruences = tt; in_group = tt }

lattice_rank : (w : ℕ) → HasRank w (Whole w) w
lattice_rank w = let r = whole_rank w in record { base = r.base; size = r.size; members = Each-weaker (HasWidth w) (Whole w) (whole_into w) r.base r.members; independent = r.independent; all = λ x m. r.all x m.width }

abbrev Stage : ℕ → Vector → Type 0
Stage w = IsInStage (Whole w) (unit_vectors w)

stage_members : (w : ℕ) → IsOrthant w (Stage w)
stage_members w = record {
  into = λ x l n. record { in_lattice = whole_into w x l; at_least = forms_of_entries w x l n };
  wide = λ x m. m.in_lattice.width;
  nonneg = λ x m. entries_of_forms w x m.in_lattice.width m.at_least;
}

stage_unit : (w : ℕ) (x : Vector) → IsIrreducible (Stage w) x → IsUnit w x
stage_unit w x i = irreducible_unit w (Stage w) (stage_members w) x i

ordered_units : (w : ℕ) (ordered F : List Vector) → AreFirstRays (Whole w) w (unit_vectors w) ordered F → ordered ≡ unit_vectors w
ordered_units w ordered F a = a.in_order.whole ∙ separate_units w (Whole w) (whole_into w) a.in_order.first a.in_order.others a.in_order.separates

first_units : (w : ℕ) (ordered F : List Vector) → AreFirstRays (Whole w) w (unit_vectors w) ordered F → take w ordered ≡ unit_vectors w
first_units w ordered F a = ap (take w) (ordered_units w ordered F a) ∙ units_all w w (omega arith)

rays_units : (w : ℕ) (ordered F : List Vector) → AreFirstRays (Whole w) w (unit_vectors w) ordered F → Each (IsUnit w) F
rays_units w ordered F a = zip_to_right (λ h x. IsExtreme (Stage w) x × (pos 0 <ℤ dot h x)) (IsUnit w) (unit_vectors w) F (λ h x e. stage_unit w x e.0.irreducible)
    (subst (λ (hs : List Vector). AllZip (λ h x. IsExtreme (IsInStage (Whole w) hs) x × (pos 0 <ℤ dot h x)) hs F) (first_units w ordered F a) a.rays)

none_later : (w : ℕ) (ordered F earlier : List Vector) (last : Vector) → AreFirstRays (Whole w) w (unit_vectors w) ordered F → IsLater w ordered earlier last → ⊥
none_later w ordered F earlier last a l =
    let m = ap length (sym l.whole ∙ ordered_units w ordered F a) in
    let k = length-append earlier (last ∷ l.later) in
    let e = l.enough in
    let n = length-unit_vectors w in
    omega (arith, m, k, e, n)

stages_below : (w m : ℕ) → HaveStagesAbove m w (Whole w) w (unit_vectors w) → m < w + 1
stages_below w m (of_first {ordered = ordered} {F = F} a k) =
    no_more w m (IsListedOrBoxMember w (Stage w) F) (λ x h. held_of_units w (Stage w) (stage_members w) F x (rays_units w ordered F a) h)
    (subst (λ (hs : List Vector). MoreThan m (IsListedOrBoxMember w (IsInStage (Whole w) hs) F)) (first_units w ordered F a) k)
stages_below w m (of_first_stage {ordered = ordered} {F = F} a k) =
    no_more w m (IsIrreducible (Stage w)) (λ x i. contains_there (zero_vector w) x (unit_vectors w) (unit_listed w x (stage_unit w x i)))
    (subst (λ (hs : List Vector). MoreThan m (IsIrreducible (IsInStage (Whole w) hs))) (first_units w ordered F a) k)
stages_below w m (of_stage {ordered = ordered} {F = F} {earlier = earlier} {last = last} a l k) = absurd (none_later w ordered F earlier last a l)
stages_below w m (of_reversed {ordered = ordered} {F = F} {earlier = earlier} {last = last} a l k) = absurd (none_later w ordered F earlier last a l)

pub orthant_dual_below : (w m : ℕ) → IsDualCrowdAbove (orthant w) m → m < w + 1
orthant_dual_below w m (dual_line l small) = omega (arith, small)
orthant_dual_below w m (of_stages {equations = eqs} {rows = rows} {r = r} p e a h k) =
    let no : eqs ≡ [] = e.whole ∙ e.are_of_gens in
    let same : rows ≡ unit_vectors w = a.whole ∙ ap (λ (fs : List Vector). unit_vectors w ++ fs) a.are_of_gens ∙ append-nil (unit_vectors w) in
    let rank : r ≡ w = HasRank-unique w (Whole w) r w (λ x m. m.width) (subst (λ (es : List Vector). HasRank w (IsInLattice (orthant w) es) r) no h) (lattice_rank w) in
    let k' = subst₂ (λ (es rs : List Vector). HaveStagesAbove m w (IsInLattice (orthant w) es) r rs) no same k in
    stages_below w m (subst (λ (n : ℕ). HaveStagesAbove m w (Whole w) n (unit_vectors w)) rank k')

-- each unit form is positive at its own vector
own_rays : (w : ℕ) (us : List Vector) → Each (IsUnit w) us → AllZip (λ h x. IsExtreme (Stage w) x × (pos 0 <ℤ dot h x)) us us
own_rays w [] i = tt
own_rays w (u ∷ us) i = ((unit_extreme w (Stage w) (stage_members w) u i.0, (let e = unit_at_self w u i.0 in omega (arith, ints, e))), own_rays w us i.1)

first_rays : (w : ℕ) → AreFirstRays (Whole w) w (unit_vectors w) (unit_vectors w) (unit_vectors w)
first_rays w = record {
  in_order = record { first = unit_vectors w; others = []; separates = units_separate w (Whole w) (whole_into w); whole = sym (append-nil (unit_vectors w)) };
  rays = subst (λ (hs : List Vector). AllZip (λ h x. IsExtreme (IsInStage (Whole w) hs) x × (pos 0 <ℤ dot h x)) hs (unit_vectors w)) (sym (units_all w w (omega arith))) (own_rays w (unit_vectors w) (each_unit w));
}

pub orthant_dual_above : (w m : ℕ) → m < w + 1 → IsDualCrowdAbove (orthant w) m
orthant_dual_above w m l = of_stages {equations = []} {rows = unit_vectors w} {r = w} (orthant_positive w (IsMember (orthant w)) (members w))
    (record { of_gens = []; are_of_gens = refl; whole = refl }) (record { of_gens = []; are_of_gens = refl; whole = sym (append-nil (unit_vectors w)) }) (lattice_rank w)
    (of_first {ordered = unit_vectors w} {F = unit_vectors w} (first_rays w)
    (subst (λ (hs : List Vector). MoreThan m (IsListedOrBoxMember w (IsInStage (Whole w) hs) (unit_vectors w))) (sym (units_all w w (omega arith)))
    (all_held w m (IsListedOrBoxMember w (Stage w) (unit_vectors w)) (units_held w (Stage w) (stage_members w) (unit_vectors w) (unit_listed w)) l)))
