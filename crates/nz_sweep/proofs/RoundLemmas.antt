-- One round of clearing, as the code makes it.
use Rattle.std.proofs.Common.{◌≡◌, ◌≢◌, ℕ, ◌<◌, ◌≤◌, List, ◌++◌, length, get_or, set, take, drop, pos, refl, sym, ap, ◌∙◌, subst, arith}
use Rattle.std.specs.Prelude.{unsigned_abs}
use Rattle.std.specs.List.{AllByRecursion as Each, AllZip, insert, remove}
use Rattle.std.proofs.lemmas.List.{take-append-drop}
use Rattle.std.proofs.lemmas.List.Edits.{length-remove, length-insert}
use Rattle.nz_spec.specs.Vectors.{HasWidth, entry}
use Rattle.nz_linear.proofs.Lists.{each_insert, each_of_map, map_each}
use Rattle.nz_sweep.specs.Clearing.{Valued, vectors_of, values_of, AreZero, IsReduced, IsPivot, IsRound, AreRounds, more, IsCleared}
use Rattle.nz_sweep.proofs.ClearingLemmas.{zip_length, zip_widths, rest_widths, width_at, round_smaller}
use Rattle.nz_sweep.specs.Duals.{Coordinate, AreDual, IsGathered}
use Rattle.nz_sweep.proofs.DualLemmas.{round_dual}
use Rattle.nz_sweep.proofs.PivotLemmas.{value_at, own_zero, pivot_smaller}

-- rounds have led to vs, of which the pivot is taken out and reduces the rest
pub record AtRound (all vs rest others : List Valued) (i : ℕ) (own : Valued) : Type 0 where
  pub rounds : AreRounds all vs
  pub pivot : IsPivot (values_of vs) (length vs) i
  pub is_own : own ≡ get_or vs i own
  pub is_rest : rest ≡ remove vs i
  pub reduced : AllZip (IsReduced own) rest others

pub own_value : (vs : List Valued) (i : ℕ) (own : Valued) → IsPivot (values_of vs) (length vs) i → own ≡ get_or vs i own → entry (values_of vs) i ≡ own.value
own_value vs i own p e = value_at vs i own p.within e

pub own_nonzero : (vs : List Valued) (i : ℕ) (own : Valued) → IsPivot (values_of vs) (length vs) i → own ≡ get_or vs i own → own.value ≢ pos 0
own_nonzero vs i own p e z = p.nonzero (own_value vs i own p e ∙ z)

pub place_within : (all vs rest others : List Valued) (i : ℕ) (own : Valued) → AtRound all vs rest others i own → i ≤ length others
place_within all vs rest others i own r =
    let a = zip_length own rest others r.reduced in
    let b = ap length r.is_rest in
    let c = length-remove vs i r.pivot.within in
    let d = r.pivot.within in
    omega (arith, a, b, c, d)

abbrev pub round_of : (all vs rest others : List Valued) (i : ℕ) (own : Valued) → AtRound all vs rest others i own → IsRound vs (insert others i own)
round_of all vs rest others i own r = record {
  place = i;
  own = own;
  others = others;
  pivot = r.pivot;
  is_own = r.is_own;
  reduced = subst (λ (t : List Valued). AllZip (IsReduced own) t others) r.is_rest r.reduced;
  same = refl;
}

pub rounds_go_on : (all vs rest others ls : List Valued) (i : ℕ) (own : Valued) → AtRound all vs rest others i own → ls ≡ insert others i own → AreRounds all ls
rounds_go_on all vs rest others ls i own r e = subst (AreRounds all) (sym e) (more r.rounds (round_of all vs rest others i own r))

pub rounds_end : (all vs rest others : List Valued) (i : ℕ) (own : Valued) → AtRound all vs rest others i own → AreZero others → IsCleared all i own others
rounds_end all vs rest others i own r z = record {
  rounds = more r.rounds (round_of all vs rest others i own r);
  within = place_within all vs rest others i own r;
  nonzero = own_nonzero vs i own r.pivot r.is_own;
  zero = z;
}

-- the vector put back has a value other than 0
pub not_all_zero : (all vs rest others ls : List Valued) (i : ℕ) (own : Valued) → AtRound all vs rest others i own → ls ≡ insert others i own → AreZero ls → ⊥
not_all_zero all vs rest others ls i own r e z = own_nonzero vs i own r.pivot r.is_own (own_zero others i own (subst AreZero e z))

pub round_less : (all vs rest others ls : List Valued) (i next : ℕ) (own : Valued) → AtRound all vs rest others i own → ls ≡ insert others i own → ¬ AreZero others → IsPivot (values_of ls) (length ls) next → unsigned_abs (entry (values_of ls) next) < unsigned_abs (entry (values_of vs) i)
round_less all vs rest others ls i next own r e nz p =
    let s = round_smaller own rest others (own_nonzero vs i own r.pivot r.is_own) r.reduced in
    let l = pivot_smaller others i next own nz s (subst (λ (t : List Valued). IsPivot (values_of t) (length t) next) e p) in
    let v = ap unsigned_abs (own_value vs i own r.pivot r.is_own) in
    let k = ap (λ (t : List Valued). unsigned_abs (entry (values_of t) next)) e in
    omega (arith, l, v, k)

pub round_widths : (w : ℕ) (all vs rest others ls : List Valued) (i : ℕ) (own : Valued) → AtRound all vs rest others i own → ls ≡ insert others i own → Each (HasWidth w) (vectors_of vs) → Each (HasWidth w) (vectors_of ls)
round_widths w all vs rest others ls i own r e l =
    let lo : HasWidth w own.vector = width_at w vs i own l r.pivot.within r.is_own in
    let lr : Each (HasWidth w) (vectors_of rest) = subst (λ (t : List Valued). Each (HasWidth w) (vectors_of t)) (sym r.is_rest) (rest_widths w vs i own r.pivot.within r.is_own l) in
    let lt : Each (λ (v : Valued). HasWidth w v.vector) others = map_each (λ (v : Valued). v.vector) (HasWidth w) others (zip_widths w own rest others lo lr r.reduced) in
    let back : Each (λ (v : Valued). HasWidth w v.vector) (take i others ++ drop i others) = subst (Each (λ (v : Valued). HasWidth w v.vector)) (sym (take-append-drop i others)) lt in
    subst (λ (t : List Valued). Each (HasWidth w) (vectors_of t)) (sym e) (each_of_map (λ (v : Valued). v.vector) (HasWidth w) (insert others i own) (each_insert (λ (v : Valued). HasWidth w v.vector) own (take i others) (drop i others) (lo, back)))

pub dual_after : (w : ℕ) (all vs rest others : List Valued) (cs : List Coordinate) (i : ℕ) (own : Valued) (c : Coordinate) → AtRound all vs rest others i own → AreDual w (vectors_of vs) cs → IsGathered w vs i (length vs) c → AreDual w (vectors_of (insert others i own)) (set cs i c)
dual_after w all vs rest others cs i own c r d g =
    let l = place_within all vs rest others i own r in
    let n = length-insert others i own l in
    let a = zip_length own rest others r.reduced in
    let b = ap length r.is_rest in
    let k = length-remove vs i r.pivot.within in
    round_dual w vs others cs i own c d g (subst (λ (t : List Valued). AllZip (IsReduced own) t others) r.is_rest r.reduced) r.pivot.within l (omega (arith, n, a, b, k)) r.is_own
