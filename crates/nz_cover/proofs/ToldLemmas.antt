-- What the watch was told on the way: at the start, at each place, and where placing ends.
use Rattle.std.proofs.Common.{◌≡◌, ◌≢◌, inr, ℕ, zero, suc, ◌+◌, ◌-◌, ◌<◌, ◌≤◌, List, [], ◌∷◌, ◌++◌, length, take, drop, get_or, ℤ, Bool, true, false, refl, sym, ap, ◌∙◌, subst, length-take-le, arith}
use Rattle.std.specs.Prelude.{IsTrue, MatchResult, ⊤}
use Rattle.std.specs.declared.result.Result.{Result}
use Rattle.std.specs.declared.result.Result.TheVariants.{Ok, Err}
use Rattle.std.proofs.lemmas.List.{take_more, length_push}
use Rattle.std.specs.List.{AllByRecursion as Each}
use Rattle.nz_spec.specs.Vectors.{Vector, HasWidth}
use Rattle.nz_spec.specs.Stages.{ArePlacings}
use Rattle.nz_vec.specs.declared.answers.Num.{Num}
use Rattle.nz_vec.specs.declared.answers.Num.TheVariants as nums
use Rattle.nz_vec.specs.declared.answers.Work.{Work}
use Rattle.nz_vec.specs.declared.answers.Work.TheVariants.{Range, TooMany, Stopped, NoMemory}
use Rattle.nz_pointed.specs.Pointed.{AreFirstIndependent, IsSimplexOf, IsTooLarge}
use Rattle.nz_rays.specs.Descriptions.{RowsAndRays, IsDescription}
use Rattle.nz_rays.proofs.StartLemmas.{simplex_width}
use Rattle.nz_watch.specs.Watching.{Pair}
use Rattle.nz_watch.specs.Telling.{Watched, WasTold, HasPassed, HasPassedAll}
use Rattle.nz_watch.proofs.TellingLemmas.{none_told, told_one_more}
use Rattle.nz_cover.specs.Corners.{Vertex}
use Rattle.nz_cover.specs.Placed.{ArePlacedUpTo}
use Rattle.nz_cover.specs.Passing.{PlacesOnce, IsUnderWay, IsToldUpTo, LeavesAs, PassesStage, PassesIf}
use Rattle.nz_cover.specs.Placing.{ArePlaceable, IsPlaceRefusal}
use Rattle.nz_cover.proofs.OrderLemmas.{firsts}
use Rattle.nz_cover.proofs.StageLemmas.{way_start, way_next, way_stage, way_done}

drop_none : (n : ℕ) → drop {A = Pair} n [] ≡ []
drop_none zero = refl
drop_none (suc n) = refl

-- one stage more
stage_told : (told j : ℕ) (stages : List Pair) (pair : Pair) (a b c : Watched) (s : Bool) → j < length stages → get_or stages j (0, 0) ≡ pair → WasTold a b (drop told (take j stages)) false → WasTold b c (drop (told - j) (pair ∷ [])) s → WasTold a c (drop told (take (j + 1) stages)) s
stage_told told j stages pair a b c s l e h k =
    let size : length (take j stages) ≡ j = length-take-le j stages (omega (arith, l)) in
    let more : take (j + 1) stages ≡ take j stages ++ pair ∷ [] = take_more stages j (0, 0) l ∙ ap (λ (p : Pair). take j stages ++ p ∷ []) e in
    subst (λ (ps : List Pair). WasTold a c (drop told ps) s) (sym more) (told_one_more told a b c (take j stages) pair s h (subst (λ (n : ℕ). WasTold b c (drop (told - n) (pair ∷ [])) s) (sym size) k))

-- ---- before the first stage
pub passed_none : (w : ℕ) (rays : List Vector) (told : ℕ) (now : Watched) → ArePlaceable w rays → rays ≢ [] → HasPassed (ArePlacings w rays) told 0 now now false
passed_none w rays told now able some =
    let f = firsts w rays able in
    let m = way_start w rays f.places able some f.first in
    record { stages = m.stages; are_stages = m.way.are_stages; within = omega arith; was_told = subst (λ (ps : List Pair). WasTold now now ps false) (sym (drop_none told)) (none_told now) }

-- a refusal to reckon
pub refused : (half : ℤ) (w : ℕ) (rays : List Vector) (told passed : ℕ) (before now : Watched) (e : Num) (work : Work) → HasPassed (ArePlacings w rays) told passed before now false → (e ≡ nums.Range → IsTooLarge half w rays) → LeavesAs told passed e work → IsPlaceRefusal half w rays told before now work
refused half w rays told passed before now nums.Range work h large l = subst (IsPlaceRefusal half w rays told before now) (sym l) (record { passed = passed; telling = h; is_greater = refl }, inr (large refl))
refused half w rays told passed before now nums.NoMemory work h large l = subst (IsPlaceRefusal half w rays told before now) (sym l) (passed, h)

-- want of memory is not a number that is too large
abbrev IsRange : Num → Type 0
IsRange nums.Range = ⊤
IsRange nums.NoMemory = ⊥

pub no_range : {A : Type 0} (e : Num) → e ≡ nums.NoMemory → e ≡ nums.Range → A
no_range e h k = absurd (subst IsRange h (subst IsRange (sym k) tt))

pub so_far : (w : ℕ) (rays : List Vector) (told place passed : ℕ) (placed : List ℕ) (before now : Watched) → IsToldUpTo w rays told place placed passed before now → HasPassed (ArePlacings w rays) told passed before now false
so_far w rays told place passed placed before now t = record { stages = t.stages; are_stages = t.way.are_stages; within = t.within; was_told = t.was_told }

-- ---- a stage at hand
pub stage_passed : (half : ℤ) (w : ℕ) (rays : List Vector) (told place passed : ℕ) (placed : List ℕ) (cells : List (List Vertex)) (d : RowsAndRays) (stages : List Pair) (before middle now : Watched) (r : Result ℕ Work) → Each (HasWidth w) rays → ArePlacedUpTo w rays place placed cells d → IsDescription d → IsUnderWay w rays place placed stages → w + passed ≡ length placed → WasTold before middle (drop told (take passed stages)) false
    → PassesStage told passed (length placed, length d.rays) middle now r → MatchResult r (λ n. ArePlacedUpTo w rays place placed cells d × IsToldUpTo w rays told place placed n before now) (λ e. IsPlaceRefusal half w rays told before now e)
stage_passed half w rays told place passed placed cells d stages before middle now (Ok n) wide a i u e h p =
    let s = way_stage w rays place passed placed cells d stages wide a i u e in
    let k = p.0 in
    let l = s.0 in (
      a,
      record {
        stages = stages;
        way = u;
        number = omega (arith, e, k);
        within = omega (arith, k, l);
        was_told = subst (λ (m : ℕ). WasTold before now (drop told (take m stages)) false) (sym k) (stage_told told passed stages (length placed, length d.rays) before middle now false l s.1 h p.1);
      },
    )
stage_passed half w rays told place passed placed cells d stages before middle now (Err (Range n)) wide a i u e h p = absurd p
stage_passed half w rays told place passed placed cells d stages before middle now (Err TooMany) wide a i u e h p = absurd p
stage_passed half w rays told place passed placed cells d stages before middle now (Err (Stopped stage)) wide a i u e h p =
    let s = way_stage w rays place passed placed cells d stages wide a i u e in
    let l = s.0 in
    let m = p.0 in
    let back : passed ≡ passed + 1 - 1 = omega arith in
    record {
      passed = passed + 1;
      new = omega (arith, m);
      telling = record { stages = stages; are_stages = u.are_stages; within = omega (arith, l); was_told = stage_told told passed stages (length placed, length d.rays) before middle now true l s.1 h p.2 };
      is_last = p.1 ∙ ap (λ (q : Pair). q.0) (sym s.1) ∙ ap (λ (k : ℕ). (get_or stages k (0, 0)).0) back;
    }
stage_passed half w rays told place passed placed cells d stages before middle now (Err NoMemory) wide a i u e h p =
    let s = way_stage w rays place passed placed cells d stages wide a i u e in
    let l = s.0 in
    (passed, record { stages = stages; are_stages = u.are_stages; within = omega (arith, l); was_told = subst (λ (x : Watched). WasTold before x (drop told (take passed stages)) false) p h })

-- the first stage
pub first_passed : (half : ℤ) (w : ℕ) (rays : List Vector) (told : ℕ) (places placed : List ℕ) (forms : List Vector) (cells : List (List Vertex)) (d : RowsAndRays) (before now : Watched) (r : Result ℕ Work) → ArePlaceable w rays → rays ≢ [] → IsSimplexOf w rays places forms → placed ≡ places → ArePlacedUpTo w rays 0 placed cells d → IsDescription d
    → PassesStage told 0 (length placed, length d.rays) before now r → MatchResult r (λ n. ArePlacedUpTo w rays 0 placed cells d × IsToldUpTo w rays told 0 placed n before now) (λ e. IsPlaceRefusal half w rays told before now e)
first_passed half w rays told places placed forms cells d before now r able some s e a i p =
    let first : AreFirstIndependent w rays placed = subst (AreFirstIndependent w rays) (sym e) s.first in
    let size = simplex_width w rays forms places s ∙ sym (ap length e) in
    let m = way_start w rays placed able some first in
    stage_passed half w rays told 0 0 placed cells d m.stages before before now r able.widths a i m.way (omega (arith, size)) (subst (λ (ps : List Pair). WasTold before before ps false) (sym (drop_none told)) (none_told before)) p

-- ---- at the next place
pub held_passed : (w : ℕ) (rays : List Vector) (told place passed : ℕ) (placed after : List ℕ) (before now : Watched) → place < length rays → PlacesOnce placed place after false → IsToldUpTo w rays told place placed passed before now → IsToldUpTo w rays told (place + 1) after passed before now
held_passed w rays told place passed placed after before now l p t =
    let e = ap length p.1 in
    let n = t.number in
    record { stages = t.stages; way = way_next w rays place placed after false t.stages l p t.way; number = omega (arith, e, n); within = t.within; was_told = t.was_told }

pub new_passed : (half : ℤ) (w : ℕ) (rays : List Vector) (told place passed : ℕ) (placed after : List ℕ) (cells : List (List Vertex)) (d : RowsAndRays) (before middle now : Watched) (r : Result ℕ Work) → Each (HasWidth w) rays → place < length rays → PlacesOnce placed place after true → ArePlacedUpTo w rays (place + 1) after cells d → IsDescription d
    → IsToldUpTo w rays told place placed passed before middle → PassesStage told passed (length after, length d.rays) middle now r → MatchResult r (λ n. ArePlacedUpTo w rays (place + 1) after cells d × IsToldUpTo w rays told (place + 1) after n before now) (λ e. IsPlaceRefusal half w rays told before now e)
new_passed half w rays told place passed placed after cells d before middle now r wide l p a i t q =
    let e = ap length p.1 ∙ length_push placed place in
    let n = t.number in
    stage_passed half w rays told (place + 1) passed after cells d t.stages before middle now r wide a i (way_next w rays place placed after true t.stages l p t.way) (omega (arith, e, n)) t.was_told q

pub next_passed : (half : ℤ) (w : ℕ) (rays : List Vector) (told place passed : ℕ) (placed after : List ℕ) (cells : List (List Vertex)) (d : RowsAndRays) (before middle now : Watched) (is_new : Bool) (r : Result ℕ Work) → Each (HasWidth w) rays → place < length rays → PlacesOnce placed place after is_new → ArePlacedUpTo w rays (place + 1) after cells d → (IsTrue is_new → IsDescription d)
    → IsToldUpTo w rays told place placed passed before middle → PassesIf is_new told passed (length after, length d.rays) middle now r → MatchResult r (λ n. ArePlacedUpTo w rays (place + 1) after cells d × IsToldUpTo w rays told (place + 1) after n before now) (λ e. IsPlaceRefusal half w rays told before now e)
next_passed half w rays told place passed placed after cells d before middle now true r wide l p a i t q = new_passed half w rays told place passed placed after cells d before middle now r wide l p a (i refl) t q
next_passed half w rays told place passed placed after cells d before middle now false r wide l p a i t q =
    let Next = λ (s : Result ℕ Work). MatchResult s (λ n. ArePlacedUpTo w rays (place + 1) after cells d × IsToldUpTo w rays told (place + 1) after n before now) (λ e. IsPlaceRefusal half w rays told before now e) in
    subst Next (sym q.0) (a, held_passed w rays told place passed placed after before now l p (subst (IsToldUpTo w rays told place placed passed before) q.1 t))

-- ---- at the end
pub all_passed : (w : ℕ) (rays : List Vector) (told place passed : ℕ) (placed : List ℕ) (before now : Watched) → length rays ≤ place → IsToldUpTo w rays told place placed passed before now → HasPassedAll (ArePlacings w rays) told before now
all_passed w rays told place passed placed before now l t =
    let n = t.number in
    let u = t.way.enough in
    record {
      passed = passed;
      telling = record { stages = t.stages; are_stages = t.way.are_stages; within = t.within; was_told = t.was_told };
      all = by (length placed - w) (omega (arith, u)) n;
    }
  where
    by : (j : ℕ) → w + j ≡ length placed → w + passed ≡ length placed + 1 → passed ≡ length t.stages
    by j e n = let d = way_done w rays place j placed t.stages l t.way e in omega (arith, d, e, n)

-- no ray, no stage
pub nothing_passed : (w : ℕ) (rays : List Vector) (told : ℕ) (now : Watched) → rays ≡ [] → HasPassedAll (ArePlacings w rays) told now now
nothing_passed w rays told now e = subst (λ (vs : List Vector). HasPassedAll (ArePlacings w vs) told now now) (sym e) (record {
  passed = 0;
  telling = record { stages = []; are_stages = refl; within = omega arith; was_told = subst (λ (ps : List Pair). WasTold now now ps false) (sym (drop_none told)) (none_told now) };
  all = refl;
})
