-- The parts of a vector, from how often its values let each element be taken.
use Rattle.std.proofs.Common.{◌≡◌, ◌≢◌, inl, inr, ℕ, suc, List, [], ◌∷◌, length, get_or, map, ℤ, pos, negsuc, ◌+ℤ◌, ◌≤ℤ◌, Option, Some, None, refl, sym, ap, ap₂, ◌∙◌, subst, arith}
use Rattle.std.specs.Prelude.{MatchOption, ⊤}
use Rattle.std.proofs.lemmas.Int.{ints}
use Rattle.std.proofs.lemmas.Option.{slice_get-get_or}
use Rattle.std.specs.List.{AllByRecursion as Each}
use Rattle.nz_spec.specs.Vectors.{Vector, dot, values_at, plus, minus, scaled, HasWidth, IsZero, IsNonzero, level_of}
use Rattle.nz_spec.specs.Monoids.{IsPositive, IsIrreducible, IsModuleGenerator}
use Rattle.nz_spec.specs.Constraints.{Constraint, MeetsAll}
use Rattle.nz_spec.specs.Parts.{CanTake, TakesApart, leaves, takes, NamesRest}
use Rattle.nz_spec.proofs.ListLaws.{Each-contains, Each-weaker}
use Rattle.nz_spec.proofs.VectorLaws.{length-minus, plus-minus, plus_comm}
use Rattle.nz_spec.proofs.LevelLaws.{level_of-plus}
use Rattle.nz_spec.proofs.PartsLaws.{TakesMost, TakesApart-most, Each-at}
use Rattle.nz_spec.proofs.PartsSums.{TakesApart-member, TakesApart-none, minus-plus_right, zero_of_none}
use Rattle.nz_order.specs.Totals.{total}
use Rattle.nz_order.proofs.PartLaws.{Allows, some_row_positive, taken_most}
use Rattle.nz_member.specs.Amounts.{rows_of, Allow, IsMost, IsCount, LeaveValues, FindsValues}
use Rattle.nz_member.specs.Values.{IsOfWidth, IsFitFor}
use Rattle.nz_member.specs.Replies.{IsInMonoid, HasJust, IsTaken, HasLevels, AreElementLists, HasCounts}
use Rattle.nz_member.proofs.AmountSteps.{vector_at}
use Rattle.nz_member.proofs.MonoidLaws.{IsInLattice, constraint_lattice, stage_of, monoid_of, monoid_wide, monoid_closed, monoid_zero, stage_positive, monoid_degree, same_of_values, values_minus}

allows_of : (rs : List Vector) (n : ℕ) (e x : Vector) → Allow (pos n) (values_at rs e) (values_at rs x) → Each (Allows n e x) rs
allows_of [] n e x h = tt
allows_of (r ∷ rs) n e x h = (h.0, allows_of rs n e x h.1)

allow_of : (rs : List Vector) (n : ℕ) (e x : Vector) → Each (Allows n e x) rs → Allow (pos n) (values_at rs e) (values_at rs x)
allow_of [] n e x h = tt
allow_of (r ∷ rs) n e x h = (h.0, allow_of rs n e x h.1)

none_positive : (rs : List Vector) (e : Vector) → Each (λ h. h ≤ℤ pos 0) (values_at rs e) → Each (λ r. dot r e ≤ℤ pos 0) rs
none_positive [] e h = tt
none_positive (r ∷ rs) e h = (h.0, none_positive rs e h.1)

-- how often an element is taken
record IsTimes (w : ℕ) (cs : List Constraint) (e x : Vector) (c : ℤ) : Type 0 where
  times : ℕ
  same : c ≡ pos times
  taken : IsInMonoid w cs (minus x (scaled (pos times) e))
  no_more : ¬ IsInMonoid w cs (minus x (scaled (pos (suc times)) e))

-- how often the elements are taken, and what is left
record HasTimes (w : ℕ) (cs : List Constraint) (es : List Vector) (x : Vector) (counts rest : List ℤ) : Type 0 where
  times : List ℕ
  left : Vector
  counted : counts ≡ map pos times
  most : TakesMost (IsInMonoid w cs) es x times left
  same : rest ≡ values_at (rows_of cs) left

-- taking vectors of level 0 leaves the level as it is
level_of-rest : (w : ℕ) {Member : Vector → Type 0} {elements : List Vector} {x : Vector} {counts : List ℕ} {rest : Vector} → Each (λ e. HasWidth w e × (level_of e ≡ pos 0)) elements → HasWidth w x → TakesApart Member elements x counts rest → level_of rest ≡ level_of x
level_of-rest w flat l (leaves none) = refl
level_of-rest w flat l (takes {x = x} before after e whole none can t) =
    let h = Each-at (λ e. HasWidth w e × (level_of e ≡ pos 0)) before after e (subst (λ (vs : List Vector). Each (λ e. HasWidth w e × (level_of e ≡ pos 0)) vs) whole flat) in
    let same : length x ≡ length e = l ∙ sym h.0 in
    let n = length-minus x e same in
    let a = level_of-plus e (minus x e) (sym (n ∙ same)) in
    let b = ap level_of (plus-minus x e same) in
    let r = level_of-rest w flat (n ∙ l) t in
    let z = h.1 in
    omega (arith, ints, a, b, r, z)

module _ (w : ℕ) (cs : List Constraint) (positive : IsPositive (IsInMonoid w cs)) where
  most_times : (c : ℤ) (e x : Vector) → IsInMonoid w cs e → IsInMonoid w cs x → IsMost (values_at (rows_of cs) e) (values_at (rows_of cs) x) c → IsTimes w cs e x c
  most_times (negsuc n) e x me mx m = absurd (let k = m.not_negative in let f : ⊥ = omega (arith, ints, k) in f)
  most_times (pos n) e x me mx m =
      let next : pos n +ℤ pos 1 ≡ pos (suc n) = omega (arith, ints) in
      let r = taken_most w (IsInLattice w cs) (constraint_lattice w cs) (rows_of cs) n e x (stage_of w cs e me).in_lattice (stage_of w cs x mx).in_lattice
      (allows_of (rows_of cs) n e x m.allowed)
      (λ h. m.no_more (subst (λ (k : ℤ). Allow k (values_at (rows_of cs) e) (values_at (rows_of cs) x)) (sym next) (allow_of (rows_of cs) (suc n) e x h))) in
      record { times = n; same = refl; taken = monoid_of w cs (minus x (scaled (pos n) e)) r.0; no_more = λ h. r.1 (stage_of w cs (minus x (scaled (pos (suc n)) e)) h) }

  count_times : (c : ℤ) (e x : Vector) → IsInMonoid w cs e → IsNonzero e → IsInMonoid w cs x → IsCount (values_at (rows_of cs) e) (values_at (rows_of cs) x) c → IsTimes w cs e x c
  count_times c e x me ne mx (inl m) = most_times c e x me mx m
  count_times c e x me ne mx (inr h) = absurd (some_row_positive w (IsInLattice w cs) (constraint_lattice w cs) (rows_of cs) (stage_positive w cs positive) e (stage_of w cs e me) ne (none_positive (rows_of cs) e h.0))

  by_values : (es : List Vector) (x : Vector) (counts rest : List ℤ) → Each (λ e. IsInMonoid w cs e × IsNonzero e) es → IsInMonoid w cs x → LeaveValues (rows_of cs) es (values_at (rows_of cs) x) counts rest → HasTimes w cs es x counts rest
  by_values [] x [] rest he mx h = record { times = []; left = x; counted = refl; most = refl; same = h }
  by_values [] x (c ∷ counts) rest he mx h = absurd h
  by_values (e ∷ es) x [] rest he mx h = absurd h
  by_values (e ∷ es) x (c ∷ counts) rest he mx h =
      let t = count_times c e x he.0.0 he.0.1 mx h.0 in
      let l : length x ≡ length e = mx.width ∙ sym he.0.0.width in
      let e1 : minus (values_at (rows_of cs) x) (scaled c (values_at (rows_of cs) e)) ≡ values_at (rows_of cs) (minus x (scaled (pos t.times) e)) =
      ap (λ k. minus (values_at (rows_of cs) x) (scaled k (values_at (rows_of cs) e))) t.same ∙ sym (values_minus (rows_of cs) (pos t.times) x e l) in
      let next = by_values es (minus x (scaled (pos t.times) e)) counts rest he.1 t.taken (subst (λ (vs : List ℤ). LeaveValues (rows_of cs) es vs counts rest) e1 h.1) in
      record {
        times = t.times ∷ next.times;
        left = next.left;
        counted = ap₂ ◌∷◌ t.same next.counted;
        most = (t.taken, t.no_more, next.most);
        same = next.same;
      }

  module _ (forms : Each (IsOfWidth w) cs) (elements : List Vector) where
    -- where no irreducible can be taken from a member, it is 0
    nothing_left : (y : Vector) → IsInMonoid w cs y → ((e : Vector) → IsIrreducible (IsInMonoid w cs) e → ¬ IsInMonoid w cs (minus y e)) → IsZero y
    nothing_left y my none = zero_of_none (IsInMonoid w cs) (monoid_closed w cs) w (monoid_wide w cs) (monoid_zero w cs) (total w (rows_of cs)) (monoid_degree w cs forms positive) y my none

    none_taken : (P : Vector → Type 0) → HasJust P elements → (x : Vector) (counts : List ℕ) (rest : Vector) → TakesApart (IsInMonoid w cs) elements x counts rest → (e : Vector) → P e → ¬ IsInMonoid w cs (minus rest e)
    none_taken P just x counts rest t e p = Each-contains (λ d. ¬ CanTake (IsInMonoid w cs) rest d) elements e (TakesApart-none t) (just.each e p)

    zero_left : HasJust (IsIrreducible (IsInMonoid w cs)) elements → (x : Vector) (counts : List ℕ) (rest : Vector) → IsInMonoid w cs x → TakesApart (IsInMonoid w cs) elements x counts rest → IsZero rest
    zero_left just x counts rest mx t = nothing_left rest (TakesApart-member mx t) (none_taken (IsIrreducible (IsInMonoid w cs)) just x counts rest t)

    -- from a member of level 1 a module generator is left
    module_left : HasLevels w cs → HasJust (λ e. IsIrreducible (IsInMonoid w cs) e × (level_of e ≡ pos 0)) elements → (x : Vector) (counts : List ℕ) (rest : Vector) → IsInMonoid w cs x → level_of x ≡ pos 1 → TakesApart (IsInMonoid w cs) elements x counts rest → IsModuleGenerator (IsInMonoid w cs) rest
    module_left levels just x counts rest mx one t = record {
      of_level_one = record {
        member = TakesApart-member mx t;
        at_level = level_of-rest w (Each-weaker (λ e. IsIrreducible (IsInMonoid w cs) e × (level_of e ≡ pos 0)) (λ e. HasWidth w e × (level_of e ≡ pos 0)) (λ e h. (h.0.member.width, h.1)) elements just.only) mx.width t ∙ one;
      };
      no_sum = λ y z my mz nz e. nz (nothing_left z mz.member (λ i im k.
          let l : length z ≡ length i = mz.member.width ∙ sym im.member.width in
          let a = levels i im.member in
          let b = levels (minus z i) k in
          let c = level_of-plus i (minus z i) (sym (length-minus z i l ∙ l)) in
          let d = ap level_of (plus-minus z i l) in
          let f = mz.at_level in
          let u : plus y (minus z i) ≡ minus rest i =
          plus_comm y (minus z i) ∙ minus-plus_right z y i l (my.member.width ∙ sym mz.member.width) ∙ ap (λ v. minus v i) (plus_comm z y ∙ e) in
          none_taken (λ e. IsIrreducible (IsInMonoid w cs) e × (level_of e ≡ pos 0)) just x counts rest t i (im, omega (arith, ints, a, b, c, d, f))
          (subst (IsInMonoid w cs) u (monoid_closed w cs y (minus z i) my.member k))));
    }

    taken_apart : (x : Vector) (counts rest : List ℤ) → Each (λ e. IsInMonoid w cs e × IsNonzero e) elements → IsInMonoid w cs x → (h : HasTimes w cs elements x counts rest) → TakesApart (IsInMonoid w cs) elements x h.times h.left
    taken_apart x counts rest he mx h = TakesApart-most (IsInMonoid w cs) (monoid_closed w cs) w (monoid_wide w cs) elements x h.times h.left (Each-weaker (λ e. IsInMonoid w cs e × IsNonzero e) (IsInMonoid w cs) (λ e p. p.0) elements he) mx h.most

taken_nonzero : (w : ℕ) (cs : List Constraint) (modules : Option (List Vector)) (e : Vector) → IsTaken w cs modules e → IsInMonoid w cs e × IsNonzero e
taken_nonzero w cs None e h = (h.member, h.nonzero)
taken_nonzero w cs (Some modules) e h = (h.0.member, h.0.nonzero)

module _ (cs : List Constraint) (x : Vector) (forms : Each (IsOfWidth (length x)) cs) (met : MeetsAll cs x) (hilbert : List Vector) (counts rest : List ℤ) (leave : LeaveValues (rows_of cs) hilbert (values_at (rows_of cs) x) counts rest) where
  member_of : IsInMonoid (length x) cs x
  member_of = record { width = refl; met = met }

  times_of : (modules : Option (List Vector)) → AreElementLists cs x hilbert modules → HasTimes (length x) cs hilbert x counts rest
  times_of modules lists = by_values (length x) cs lists.positive hilbert x counts rest (Each-weaker (IsTaken (length x) cs modules) (λ e. IsInMonoid (length x) cs e × IsNonzero e) (taken_nonzero (length x) cs modules) hilbert lists.elements.only) member_of leave

  apart_of : (modules : Option (List Vector)) (lists : AreElementLists cs x hilbert modules) (h : HasTimes (length x) cs hilbert x counts rest) → TakesApart (IsInMonoid (length x) cs) hilbert x h.times h.left
  apart_of modules lists h = taken_apart (length x) cs lists.positive forms hilbert x counts rest (Each-weaker (IsTaken (length x) cs modules) (λ e. IsInMonoid (length x) cs e × IsNonzero e) (taken_nonzero (length x) cs modules) hilbert lists.elements.only) member_of h

  names_left : (modules : Option (List Vector)) (place : Option ℕ) → AreElementLists cs x hilbert modules → FindsValues (rows_of cs) modules rest place → (h : HasTimes (length x) cs hilbert x counts rest) → TakesApart (IsInMonoid (length x) cs) hilbert x h.times h.left → NamesRest modules h.left place
  names_left None place lists found h t = subst (NamesRest None h.left) (sym found) (zero_left (length x) cs lists.positive forms hilbert lists.elements x h.times h.left member_of t)
  names_left (Some modules) None lists found h t =
      let made = module_left (length x) cs lists.positive forms hilbert lists.generators.1 lists.elements x h.times h.left member_of lists.generators.2 t in
      absurd (Each-contains (λ m. values_at (rows_of cs) m ≢ rest) modules h.left found (lists.generators.0.each h.left made) (sym h.same))
  names_left (Some modules) (Some place) lists found h t =
      let m : Vector = get_or modules place [] in
      let made = vector_at (IsModuleGenerator (IsInMonoid (length x) cs)) modules place m found.0 refl lists.generators.0.only in
      let same = same_of_values (length x) cs lists.positive m h.left made.of_level_one.member (TakesApart-member member_of t) (found.1 ∙ h.same) in
      slice_get-get_or modules place [] found.0 ∙ ap Some same

  -- what division leaves are the parts
  pub has_counts : (modules : Option (List Vector)) (place : Option ℕ) → FindsValues (rows_of cs) modules rest place → AreElementLists cs x hilbert modules → HasCounts cs x hilbert modules counts place
  has_counts modules place found lists =
      let h = times_of modules lists in
      let t = apart_of modules lists h in
      record { times = h.times; counted = h.counted; parts = record { rest = h.left; taken = t; names = names_left modules place lists found h t } }

pub match_weaker : {A : Type 0} (o : Option A) (P Q : A → Type 0) → ((a : A) → P a → Q a) → MatchOption o ⊤ P → MatchOption o ⊤ Q
match_weaker None P Q f h = tt
match_weaker (Some a) P Q f h = f a h

pub fit_for : (cs : List Constraint) (w : ℕ) → Each (IsOfWidth w) cs → (ms : List Vector) → Each (HasWidth w) ms → Each (IsFitFor cs) ms
fit_for cs w forms ms h = Each-weaker (HasWidth w) (IsFitFor cs) (λ m e. subst (λ (n : ℕ). Each (IsOfWidth n) cs) (sym e) forms) ms h
