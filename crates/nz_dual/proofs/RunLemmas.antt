-- The stages of ordered rows, and what was told of them.
use Rattle.std.proofs.Common.{◌≡◌, ℕ, zero, suc, ◌+◌, ◌-◌, ◌<◌, ◌≤◌, List, [], ◌∷◌, ◌++◌, length, take, drop, get_or, pos, true, false, Bool, refl, sym, ap, ap₂, ◌∙◌, subst, arith}
use Rattle.std.specs.List.{AllByRecursion as Each, AllZip, range_with_len}
use Rattle.std.proofs.lemmas.List.{take_more, length-take-le}
use Rattle.std.proofs.lemmas.List.FromFn.{length-range_with_len, get_or-range_with_len}
use Rattle.std.proofs.lemmas.Slice.Zip.{AllZip-long}
use Rattle.nz_spec.specs.Vectors.{Vector, dot, HasWidth}
use Rattle.nz_spec.specs.Monoids.{IsIrreducible}
use Rattle.nz_spec.specs.Order.{HasNumber}
use Rattle.nz_spec.specs.Stages.{IsInStage}
use Rattle.nz_spec.proofs.StageUnique.{HasNumber-unique}
use Rattle.nz_linear.specs.Extreme.{IsPointed}
use Rattle.nz_vec.specs.declared.answers.Work.{Work}
use Rattle.nz_vec.specs.declared.answers.Work.TheVariants.{Range, TooMany, Stopped, NoMemory}
use Rattle.nz_watch.specs.Watching.{Pair}
use Rattle.nz_watch.specs.Telling.{Watched, WasTold, HasPassed, HasPassedAll, HasStopped}
use Rattle.nz_watch.proofs.TellingLemmas.{none_told, told_one_more}
use Rattle.nz_dual.specs.Runs.{AreOrderedStages, AreNotCrowded, IsRunRefusal, IsStopAt, IsLeftAs}
use Rattle.nz_dual.proofs.FiniteLemmas.{finitely_many}

-- ---- all stages have a number of irreducibles
each_front : (P : Vector → Type 0) (vs : List Vector) (i : ℕ) → Each P vs → Each P (take i vs)
each_front P [] zero h = tt
each_front P [] (suc i) h = tt
each_front P (v ∷ vs) zero h = tt
each_front P (v ∷ vs) (suc i) h = (h.0, each_front P vs i h.1)

each_shorter : (P : Vector → Type 0) (vs : List Vector) (i k : ℕ) → i ≤ k → Each P (take k vs) → Each P (take i vs)
each_shorter P [] zero k l h = tt
each_shorter P [] (suc i) k l h = tt
each_shorter P (v ∷ vs) zero k l h = tt
each_shorter P (v ∷ vs) (suc i) zero l h = absurd (let f : ⊥ = omega arith in f)
each_shorter P (v ∷ vs) (suc i) (suc k) l h = (h.0, each_shorter P vs i k (omega arith) h.1)

abbrev Has : ℕ → List Vector → ℕ → ℕ → Type 0
Has w ordered k n = HasNumber (IsIrreducible (IsInStage (HasWidth w) (take k ordered))) n

module _ (w : ℕ) (ordered : List Vector) (l : Each (HasWidth w) ordered) (pt : IsPointed w (take w ordered)) where
  number_of : (k : ℕ) → w ≤ k → (n : ℕ) × HasNumber (IsIrreducible (IsInStage (HasWidth w) (take k ordered))) n
  number_of k h = finitely_many w (take k ordered) (each_front (HasWidth w) ordered k l) (λ x lx z. pt x lx (each_shorter (λ r. dot r x ≡ pos 0) ordered w k h z))

  numbers_of : (a n : ℕ) → w ≤ a → (pairs : List Pair) × AllZip (λ k (pair : Pair). (pair.0 ≡ k) × HasNumber (IsIrreducible (IsInStage (HasWidth w) (take k ordered))) pair.1) (range_with_len a n) pairs
  numbers_of a zero h = ([], tt)
  numbers_of a (suc n) h =
      let c = number_of a h in
      let r = numbers_of (a + 1) n (omega arith) in
      ((a, c.0) ∷ r.0, ((refl, c.1), r.1))

  pub stages_exist : (stages : List Pair) × AreOrderedStages w ordered stages
  stages_exist = numbers_of w (length ordered + 1 - w) (omega arith)

-- ---- the stage at a place
pub stages_length : (w : ℕ) (ordered : List Vector) (stages : List Pair) → AreOrderedStages w ordered stages → length stages ≡ length ordered + 1 - w
stages_length w ordered stages z = AllZip-long (λ k (pair : Pair). (pair.0 ≡ k) × HasNumber (IsIrreducible (IsInStage (HasWidth w) (take k ordered))) pair.1) (range_with_len w (length ordered + 1 - w)) stages z ∙ length-range_with_len w (length ordered + 1 - w)

zip_at : {A B : Type 0} (R : A → B → Type 0) (xs : List A) (ys : List B) (i : ℕ) (d : A) (e : B) → i < length xs → AllZip R xs ys → R (get_or xs i d) (get_or ys i e)
zip_at R [] ys i d e l h = absurd (let f : ⊥ = omega arith in f)
zip_at R (x ∷ xs) [] i d e l h = absurd h
zip_at R (x ∷ xs) (y ∷ ys) zero d e l h = h.0
zip_at R (x ∷ xs) (y ∷ ys) (suc i) d e l h = zip_at R xs ys i d e (omega arith) h.1

pub stage_at : (w : ℕ) (ordered : List Vector) (stages : List Pair) (i n : ℕ) → AreOrderedStages w ordered stages → i < length stages → HasNumber (IsIrreducible (IsInStage (HasWidth w) (take (w + i) ordered))) n → get_or stages i (0, 0) ≡ (w + i, n)
stage_at w ordered stages i n z l h =
    let count = length ordered + 1 - w in
    let m : i < count = (let e = stages_length w ordered stages z in omega arith) in
    let r = zip_at (λ k (pair : Pair). (pair.0 ≡ k) × HasNumber (IsIrreducible (IsInStage (HasWidth w) (take k ordered))) pair.1) (range_with_len w count) stages i 0 (0, 0) (let e = length-range_with_len w count in omega arith) z in
    let p = get_or stages i (0, 0) in
    let e : get_or (range_with_len w count) i 0 ≡ w + i = get_or-range_with_len w count i 0 m in
    let k : HasNumber (IsIrreducible (IsInStage (HasWidth w) (take (w + i) ordered))) p.1 = subst (λ j. HasNumber (IsIrreducible (IsInStage (HasWidth w) (take j ordered))) p.1) e r.1 in
    ap₂ (λ (a b : ℕ). (a, b)) (r.0 ∙ e) (HasNumber-unique (IsIrreducible (IsInStage (HasWidth w) (take (w + i) ordered))) p.1 n k h)

-- ---- what was told
drop_none : (n : ℕ) → drop {A = Pair} n [] ≡ []
drop_none zero = refl
drop_none (suc n) = refl

stage_told : (told j : ℕ) (stages : List Pair) (pair : Pair) (a b c : Watched) (s : Bool) → j < length stages → get_or stages j (0, 0) ≡ pair → WasTold a b (drop told (take j stages)) false → WasTold b c (drop (told - j) (pair ∷ [])) s → WasTold a c (drop told (take (j + 1) stages)) s
stage_told told j stages pair a b c s l e h k =
    let size : length (take j stages) ≡ j = length-take-le j stages (omega (arith, l)) in
    let more : take (j + 1) stages ≡ take j stages ++ pair ∷ [] = take_more stages j (0, 0) l ∙ ap (λ (p : Pair). take j stages ++ p ∷ []) e in
    subst (λ (ps : List Pair). WasTold a c (drop told ps) s) (sym more) (told_one_more told a b c (take j stages) pair s h (subst (λ (n : ℕ). WasTold b c (drop (told - n) (pair ∷ [])) s) (sym size) k))

pub nothing_passed : (w : ℕ) (ordered : List Vector) (told : ℕ) (now : Watched) → Each (HasWidth w) ordered → IsPointed w (take w ordered) → HasPassed (AreOrderedStages w ordered) told 0 now now false
nothing_passed w ordered told now l pt =
    let s = stages_exist w ordered l pt in
    record { stages = s.0; are_stages = s.1; within = omega arith; was_told = subst (λ (ps : List Pair). WasTold now now ps false) (sym (drop_first told s.0)) (none_told now) }
  where
    drop_first : (told : ℕ) (stages : List Pair) → drop told (take 0 stages) ≡ []
    drop_first told [] = drop_none told
    drop_first told (p ∷ ps) = drop_none told

abbrev stage_in : Work → ℕ
stage_in (Range number) = 0
stage_in TooMany = 0
stage_in (Stopped stage) = stage
stage_in NoMemory = 0

number_of_stop : (a b : ℕ) → Stopped a ≡ Stopped b → a ≡ b
number_of_stop a b e = ap stage_in e

module _ (w : ℕ) (ordered : List Vector) (told i n : ℕ) (before middle now : Watched) (h : HasPassed (AreOrderedStages w ordered) told i before middle false) (inside : w + i ≤ length ordered) (number : HasNumber (IsIrreducible (IsInStage (HasWidth w) (take (w + i) ordered))) n) where
  here : i < length h.stages
  here = let e = stages_length w ordered h.stages h.are_stages in omega arith

  pub one_passed : WasTold middle now (drop (told - i) ((w + i, n) ∷ [])) false → HasPassed (AreOrderedStages w ordered) told (i + 1) before now false
  one_passed t = record {
    stages = h.stages;
    are_stages = h.are_stages;
    within = let k = here in omega arith;
    was_told = stage_told told i h.stages (w + i, n) before middle now false here (stage_at w ordered h.stages i n h.are_stages here number) h.was_told t;
  }

  pub stopped_there : (e : Work) → IsStopAt told i (w + i, n) middle now e → (stage : ℕ) → e ≡ Stopped stage → HasStopped (AreOrderedStages w ordered) told stage before now
  stopped_there e s stage same =
      let back : i ≡ i + 1 - 1 = omega arith in
      let place = stage_at w ordered h.stages i n h.are_stages here number in
      record {
        passed = i + 1;
        new = let k = s.new in omega arith;
        telling = record { stages = h.stages; are_stages = h.are_stages; within = let k = here in omega arith; was_told = stage_told told i h.stages (w + i, n) before middle now true here place h.was_told s.was_told };
        is_last = number_of_stop stage (w + i) (sym same ∙ s.stopped) ∙ ap (λ (q : Pair). q.0) (sym place) ∙ ap (λ (k : ℕ). (get_or h.stages k (0, 0)).0) back;
      }

pub all_passed : (w : ℕ) (ordered : List Vector) (told i : ℕ) (before now : Watched) → w + i ≡ length ordered + 1 → HasPassed (AreOrderedStages w ordered) told i before now false → HasPassedAll (AreOrderedStages w ordered) told before now
all_passed w ordered told i before now e h = record { passed = i; telling = h; all = let k = stages_length w ordered h.stages h.are_stages in omega arith }

-- ---- the same of other stages
module _ (S R : List Pair → Type 0) (to : (ps : List Pair) → S ps → R ps) (told : ℕ) (before now : Watched) where
  abbrev pub passed_where : (i : ℕ) (s : Bool) → HasPassed S told i before now s → HasPassed R told i before now s
  passed_where i s h = record { stages = h.stages; are_stages = to h.stages h.are_stages; within = h.within; was_told = h.was_told }

  pub passed_all_where : HasPassedAll S told before now → HasPassedAll R told before now
  passed_all_where h = record { passed = h.passed; telling = passed_where h.passed false h.telling; all = h.all }

  pub refused_where : (P Q : ℕ → Work → Type 0) → ((i : ℕ) (e : Work) → P i e → Q i e) → ((i : ℕ) → AreNotCrowded P i → AreNotCrowded Q i) → (e : Work) → IsRunRefusal S P told before now e → IsRunRefusal R Q told before now e
  refused_where P Q f g (Range number) h = (record { passed = h.0.passed; telling = passed_where h.0.passed false h.0.telling; is_greater = h.0.is_greater }, f h.0.passed (Range 0) h.1, g h.0.passed h.2)
  refused_where P Q f g TooMany h = (h.0, passed_where h.0 false h.1, f h.0 TooMany h.2)
  refused_where P Q f g (Stopped stage) h = record { passed = h.passed; new = h.new; telling = passed_where h.passed true h.telling; is_last = h.is_last }
  refused_where P Q f g NoMemory h = (h.0, passed_where h.0 false h.1)

-- ---- refusals
module _ (S : List Pair → Type 0) (P : ℕ → Work → Type 0) (told i : ℕ) (before now : Watched) (h : HasPassed S told i before now false) where
  -- the stage after those that were passed is refused
  pub left_refused : (refusal e : Work) → ((number : ℕ) → P i (Range number) → P i (Range 0)) → ((stage : ℕ) → ¬ P i (Stopped stage)) → AreNotCrowded P i → P i refusal → IsLeftAs told i refusal e → IsRunRefusal S P told before now e
  left_refused (Range number) e without never few p k = subst (IsRunRefusal S P told before now) (sym k) (record { passed = i; telling = h; is_greater = refl }, without number p, few)
  left_refused TooMany e without never few p k = subst (IsRunRefusal S P told before now) (sym k) (i, h, p)
  left_refused (Stopped stage) e without never few p k = absurd (never stage p)
  left_refused NoMemory e without never few p k = subst (IsRunRefusal S P told before now) (sym k) (i, h)

  pub memory_refused : (e : Work) → e ≡ NoMemory → IsRunRefusal S P told before now e
  memory_refused e k = subst (IsRunRefusal S P told before now) (sym k) (i, h)

pub stop_refused : (S : List Pair → Type 0) (P : ℕ → Work → Type 0) (told stage : ℕ) (before now : Watched) (e : Work) → e ≡ Stopped stage → HasStopped S told stage before now → IsRunRefusal S P told before now e
stop_refused S P told stage before now e k h = subst (IsRunRefusal S P told before now) (sym k) h
