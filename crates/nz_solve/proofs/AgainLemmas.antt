-- A call that was left with a number, and another one that goes on from there: what the watch was told in both.
use Rattle.std.proofs.Common.{◌≡◌, ◌⊎◌, ⊎_elim, inl, inr, ℕ, ℤ, zero, suc, ◌<◌, ◌≤◌, max, List, [], ◌∷◌, ◌++◌, length, take, drop, Bool, true, false, refl, sym, ap, ◌∙◌, subst, arith}
use Rattle.std.proofs.lemmas.List.{append-nil}
use Rattle.nz_spec.specs.Vectors.{Vector}
use Rattle.nz_spec.specs.Systems.{System, IsSystem, IsMember}
use Rattle.nz_spec.specs.Monoids.{IsLeastLine}
use Rattle.nz_spec.specs.Stages.{AreDualStages, ArePrimalStages}
use Rattle.nz_spec.proofs.StageUnique.{AreTold-unique, AreDualStages-unique, ArePrimalStages-unique}
use Rattle.nz_watch.specs.Watching.{Pair}
use Rattle.nz_watch.specs.Telling.{Watched, WasTold, HasPassed, HasPassedAll, HasStopped}
use Rattle.nz_watch.proofs.TellingLemmas.{was_told_more}
use Rattle.nz_input.specs.declared.kind.Mode.{Mode}
use Rattle.nz_input.specs.declared.kind.Mode.TheVariants.{Primal, Dual}
use Rattle.nz_solve.specs.declared.refusal.SolveRefusal.{SolveRefusal}
use Rattle.nz_solve.specs.declared.refusal.InnerRefusal.{InnerRefusal}
use Rattle.nz_solve.specs.declared.refusal.InnerRefusal.TheVariants as inner
use Rattle.nz_solve.specs.Solutions.{AreToldOf, AreNotCrowded, WasToldSome, LeavesWith, IsCrowd, half, IsSolveRefusal, IsInnerRefusal}
use Rattle.nz_frame.specs.DualCrowds.{IsDualCrowd}
use Rattle.nz_solve.specs.Parts.{IsOuterRefusal}
use Rattle.nz_solve.proofs.ToldLemmas.{some_left}

-- the stages of a system are one list
stages_once : (mode : Mode) (s : System) → IsSystem s → (xs ys : List Pair) → AreToldOf mode s xs → AreToldOf mode s ys → xs ≡ ys
stages_once Primal s is xs ys p q = AreTold-unique ArePrimalStages s (ArePrimalStages-unique s) xs ys p q
stages_once Dual s is xs ys p q = AreTold-unique AreDualStages s (AreDualStages-unique s is) xs ys p q

drop_none : (n : ℕ) → drop {A = Pair} n [] ≡ []
drop_none zero = refl
drop_none (suc n) = refl

take_none : (n : ℕ) → take {A = Pair} n [] ≡ []
take_none zero = refl
take_none (suc n) = refl

max_suc : (n p : ℕ) → max (suc n) (suc p) ≡ suc (max n p)
max_suc n p = omega arith

-- the first n, and then the first p without these
joined : (xs : List Pair) (n p : ℕ) → take n xs ++ drop n (take p xs) ≡ take (max n p) xs
joined xs zero p = ap (λ (m : ℕ). take m xs) (let e : p ≡ max 0 p = omega arith in e)
joined xs (suc n) zero = append-nil (take (suc n) xs) ∙ ap (λ (m : ℕ). take m xs) (let e : suc n ≡ max (suc n) 0 = omega arith in e)
joined [] (suc n) (suc p) = sym (take_none (max (suc n) (suc p)))
joined (x ∷ xs) (suc n) (suc p) = ap (λ (ys : List Pair). x ∷ ys) (joined xs n p) ∙ ap (λ (m : ℕ). take m (x ∷ xs)) (sym (max_suc n p))

below_or : (i k : ℕ) → (i < k) ⊎ (k ≤ i)
below_or i k = grind arith

module _ (mode : Mode) (s : System) (is : IsSystem s) (limit n : ℕ) (a b : Watched) (first : LeavesWith mode s limit 0 n a b) where
  -- in both calls
  pub both : (c : Watched) (p : ℕ) (stopped : Bool) (stages : List Pair) → AreToldOf mode s stages → WasTold b c (drop n (take p stages)) stopped → WasTold a c (take (max n p) stages) stopped
  both c p stopped stages are v = by first
    where
      by : LeavesWith mode s limit 0 n a b → WasTold a c (take (max n p) stages) stopped
      by (inl f) = subst (λ (ps : List Pair). WasTold a c ps stopped) (sym (ap (λ (m : ℕ). drop m (take p stages)) (sym f.0)) ∙ ap (λ (m : ℕ). take m stages) (let z = f.0 in let e : p ≡ max n p = omega (arith, z) in e)) (was_told_more a b c [] (drop n (take p stages)) stopped f.1 v)
      by (inr l) =
          let e : l.left.passed ≡ n = (let g = l.left.is_greater in omega (arith, g)) in
          let same = stages_once mode s is l.left.telling.stages stages l.left.telling.are_stages are in
          let t : WasTold a b (take n stages) false = subst (λ (ps : List Pair). WasTold a b ps false) (ap (λ (m : ℕ). take m l.left.telling.stages) e ∙ ap (take n) same) l.left.telling.was_told in
          subst (λ (ps : List Pair). WasTold a c ps stopped) (joined stages n p) (was_told_more a b c (take n stages) (drop n (take p stages)) stopped t v)

  pub number_within : (stages : List Pair) → AreToldOf mode s stages → n ≤ length stages
  number_within stages are = by first
    where
      by : LeavesWith mode s limit 0 n a b → n ≤ length stages
      by (inl f) = let z = f.0 in omega (arith, z)
      by (inr l) =
          let g = l.left.is_greater in
          let w = l.left.telling.within in
          let e = ap length (stages_once mode s is l.left.telling.stages stages l.left.telling.are_stages are) in
          omega (arith, g, w, e)

  abbrev pub again : (c : Watched) (p m : ℕ) (stopped : Bool) → m ≡ max n p → HasPassed (AreToldOf mode s) n p b c stopped → HasPassed (AreToldOf mode s) 0 m a c stopped
  again c p m stopped e k = record {
    stages = k.stages;
    are_stages = k.are_stages;
    within = (let w = k.within in let v = number_within k.stages k.are_stages in omega (arith, e, w, v));
    was_told = subst (λ (j : ℕ). WasTold a c (take j k.stages) stopped) (sym e) (both c p stopped k.stages k.are_stages k.was_told);
  }

  pub again_all : (c : Watched) → HasPassedAll (AreToldOf mode s) n b c → HasPassedAll (AreToldOf mode s) 0 a c
  again_all c k = record {
    passed = k.passed;
    telling = again c k.passed k.passed false (let e = k.all in let v = number_within k.telling.stages k.telling.are_stages in omega (arith, e, v)) k.telling;
    all = k.all;
  }

  again_stopped : (c : Watched) (stage : ℕ) → HasStopped (AreToldOf mode s) n stage b c → HasStopped (AreToldOf mode s) 0 stage a c
  again_stopped c stage k = record {
    passed = k.passed;
    new = (let l = k.new in omega (arith, l));
    telling = again c k.passed k.passed true (let l = k.new in omega (arith, l)) k.telling;
    is_last = k.is_last;
  }

  again_some : (c : Watched) → WasToldSome mode s n b c → WasToldSome mode s 0 a c
  again_some c (inl v) = by first
    where
      by : LeavesWith mode s limit 0 n a b → WasToldSome mode s 0 a c
      by (inl f) = inl (was_told_more a b c [] [] false f.1 v)
      by (inr l) = inr (l.left.passed, record { stages = l.left.telling.stages; are_stages = l.left.telling.are_stages; within = l.left.telling.within; was_told = subst (λ (ps : List Pair). WasTold a c ps false) (append-nil (take l.left.passed l.left.telling.stages)) (was_told_more a b c (take l.left.passed l.left.telling.stages) [] false l.left.telling.was_told v) })
  again_some c (inr k) = inr (max n k.0, again c k.0 (max n k.0) false refl k.1)

  -- where there is a line nothing is told
  again_none : (c : Watched) (v : Vector) → IsLeastLine (IsMember s) v → WasTold b c [] false → WasTold a c [] false
  again_none c v line w = by first
    where
      by : LeavesWith mode s limit 0 n a b → WasTold a c [] false
      by (inl f) = was_told_more a b c [] [] false f.1 w
      by (inr l) = of_stages l.left.telling.stages l.left.telling.are_stages l.left.telling.was_told
        where
          of_stages : (stages : List Pair) → AreToldOf mode s stages → WasTold a b (take l.left.passed stages) false → WasTold a c [] false
          of_stages stages (inl none) t = was_told_more a b c [] [] false (subst (λ (ps : List Pair). WasTold a b ps false) (ap (take l.left.passed) none.2 ∙ take_none l.left.passed) t) w
          of_stages stages (inr some) t = absurd (some.0 v line.line)

  -- a crowd comes at no stage that the first call passed
  not_before : mode ≡ Dual → (earlier : ℕ) → IsDualCrowd s limit earlier → earlier ≡ max n earlier
  not_before e earlier crowd = by first
    where
      by : LeavesWith mode s limit 0 n a b → earlier ≡ max n earlier
      by (inl f) = let z = f.0 in omega (arith, z)
      by (inr l) = ⊎_elim
          (λ (m : earlier < l.left.passed). absurd (subst (λ (m : Mode). AreNotCrowded m s limit l.left.passed) e l.not_crowded earlier m crowd))
          (λ (m : l.left.passed ≤ earlier). let g = l.left.is_greater in omega (arith, g, m))
          (below_or earlier l.left.passed)

  again_crowd : (c : Watched) → IsCrowd mode s limit n b c → IsCrowd mode s limit 0 a c
  again_crowd c k = by mode refl k
    where
      by : (m : Mode) → mode ≡ m → IsCrowd mode s limit n b c → IsCrowd mode s limit 0 a c
      by Primal e k =
          let k' = subst (λ (m : Mode). IsCrowd m s limit n b c) e k in
          subst (λ (m : Mode). IsCrowd m s limit 0 a c) (sym e) (k'.0, k'.1, subst (λ (m : Mode). HasPassedAll (AreToldOf m s) 0 a c) e (again_all c (subst (λ (m : Mode). HasPassedAll (AreToldOf m s) n b c) (sym e) k'.2)))
      by Dual e k =
          let k' = subst (λ (m : Mode). IsCrowd m s limit n b c) e k in
          subst (λ (m : Mode). IsCrowd m s limit 0 a c) (sym e) (
            k'.0,
            k'.1,
            subst (λ (m : Mode). HasPassed (AreToldOf m s) 0 k'.0 a c false) e (again c k'.0 k'.0 false (not_before e k'.0 k'.1) (subst (λ (m : Mode). HasPassed (AreToldOf m s) n k'.0 b c false) (sym e) k'.2)),
          )

  -- a refusal of the second call refuses the whole
  pub again_refused : (c : Watched) (r : InnerRefusal) (o : SolveRefusal) → IsInnerRefusal mode s half limit n b c r → IsOuterRefusal r o → IsSolveRefusal mode s limit a c o
  again_refused c (inner.Line v) o h e = subst (IsSolveRefusal mode s limit a c) (sym e) (h.0, again_none c v h.0 h.1)
  again_refused c (inner.Grade x) o h e = subst (IsSolveRefusal mode s limit a c) (sym e) (h.0, h.1, again_all c h.2)
  again_refused c (inner.Range number) o h e = subst (IsSolveRefusal mode s limit a c) (sym e) (h.0, again_some c (some_left mode s limit n number b c h.1))
  again_refused c inner.TooMany o h e = subst (IsSolveRefusal mode s limit a c) (sym e) (again_crowd c h)
  again_refused c (inner.Stopped stage) o h e = subst (IsSolveRefusal mode s limit a c) (sym e) (again_stopped c stage h)
  again_refused c inner.NoMemory o h e = subst (IsSolveRefusal mode s limit a c) (sym e) (again_some c h)

-- the number of a call that was left for a number too large
pub range_left : (mode : Mode) (s : System) (h : ℤ) (limit told : ℕ) (a b : Watched) (r : InnerRefusal) (n : ℕ) → r ≡ inner.Range n → IsInnerRefusal mode s h limit told a b r → LeavesWith mode s limit told n a b
range_left mode s h limit told a b r n e k = (subst (IsInnerRefusal mode s h limit told a b) e k).1
