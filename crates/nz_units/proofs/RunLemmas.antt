-- A run of the dual algorithm of which no stage is told, as a refusal in the coordinates of the rest.
use Rattle.std.proofs.Common.{◌≡◌, ℕ, ◌+◌, ◌-◌, ◌<◌, ◌≤◌, ℤ, List, [], ◌∷◌, ◌++◌, length, refl, sym, ap, ◌∙◌, subst, arith}
use Rattle.std.proofs.lemmas.List.{length-append}
use Rattle.std.proofs.lemmas.List.FromFn.{length-range_with_len}
use Rattle.std.proofs.lemmas.Slice.Zip.{AllZip-long}
use Rattle.std.specs.List.{range_with_len}
use Rattle.nz_spec.specs.Vectors.{Vector, HasWidth}
use Rattle.nz_spec.specs.Covers.{vectors_at}
use Rattle.nz_spec.specs.Monoids.{IsIrreducible}
use Rattle.nz_spec.specs.Stages.{IsInStage, Separates, none, fresh, other, AreStages}
use Rattle.nz_pointed.specs.Pointed.{IsSimplexOf, IsTooLarge}
use Rattle.nz_rays.proofs.StartLemmas.{simplex_width, simplex_at_width}
use Rattle.nz_sweep.specs.Numbers.{SomeNumberLarge}
use Rattle.nz_vec.specs.declared.answers.Num.{Num}
use Rattle.nz_vec.specs.declared.answers.Num.TheVariants as num
use Rattle.nz_vec.specs.declared.answers.Work.{Work}
use Rattle.nz_vec.specs.declared.answers.Work.TheVariants.{Range, TooMany, Stopped, NoMemory}
use Rattle.nz_watch.specs.Watching.{Pair}
use Rattle.nz_watch.specs.Telling.{Watched, HasStopped}
use Rattle.nz_dual.specs.Refusals.{IsStageOf}
use Rattle.nz_dual.specs.Runs.{IsRunRefusal, IsLeftAs}
use Rattle.nz_dual.specs.Sides.{IsWorkOf}
use Rattle.nz_units.specs.UnitNumbers.{IsRestNumber}
use Rattle.nz_units.specs.Refusals.{IsRestRefusal}
use Rattle.nz_units.proofs.NumberLemmas.{first_large, stage_large}

separates_length : {Fresh : List Vector → Vector → Type 0} {earlier vs first others : List Vector} → Separates Fresh earlier vs first others → length first + length others ≡ length vs
separates_length none = refl
separates_length (fresh n s) = let r = separates_length s in omega (arith, r)
separates_length (other n s) = let r = separates_length s in omega (arith, r)

-- there are no more stages than rows and one
stages_few : (w : ℕ) (Lattice : Vector → Type 0) (rows : List Vector) (pairs : List Pair) → AreStages w Lattice rows pairs → length pairs ≤ length rows + 1
stages_few w Lattice rows pairs s =
    let n = AllZip-long _ (range_with_len s.rank (length s.ordered + 1 - s.rank)) pairs s.counts ∙ length-range_with_len s.rank (length s.ordered + 1 - s.rank) in
    let o = ap length s.in_order.whole ∙ length-append s.in_order.first s.in_order.others ∙ separates_length s.in_order.separates in
    omega (arith, n, o)

-- so none is new where as many were told before
never_stopped : (w told stage : ℕ) (Lattice : Vector → Type 0) (rows : List Vector) (before now : Watched) → told ≡ length rows + 1 → ¬ HasStopped (AreStages w Lattice rows) told stage before now
never_stopped w told stage Lattice rows before now e s =
    let few = stages_few w Lattice rows s.telling.stages s.telling.are_stages in
    let new = s.new in
    let within = s.telling.within in
    let b : ⊥ = omega (arith, few, new, within, e) in b

pub run_refused : (h : ℤ) (limit w told : ℕ) (rows rays : List Vector) (places : List ℕ) → IsSimplexOf w rows places rays → told ≡ length rows + 1 → (before now : Watched) (e r : Work)
    → IsRunRefusal (AreStages (length places) (HasWidth (length places)) rows) (IsStageOf h limit (length places) rows (vectors_at rows places) rays) told before now e → IsLeftAs 0 0 e r → IsRestRefusal h limit w rows r
run_refused h limit w told rows rays places s n before now (Range number) r k l =
    let refused = k.1 in
    let at = simplex_at_width w rows rays places s in
    let large = stage_large h limit (length places) rows rays refused.0 places at refl refused.1.0 k.0.passed refused.1.1 in
    subst (IsRestRefusal h limit w rows) (sym l) (refl, subst (λ (m : ℕ). SomeNumberLarge h (IsRestNumber m rows)) (sym (simplex_width w rows rays places s)) large)
run_refused h limit w told rows rays places s n before now TooMany r k l = subst (IsRestRefusal h limit w rows) (sym l) (record {
  places = places;
  rays = rays;
  simplex = s;
  passed = k.0;
  refused = subst (λ (m : ℕ). IsStageOf h limit m rows (vectors_at rows places) rays k.0 TooMany) (sym (simplex_width w rows rays places s)) k.2;
})
run_refused h limit w told rows rays places s n before now (Stopped stage) r k l = absurd (never_stopped (length places) told stage (HasWidth (length places)) rows before now n k)
run_refused h limit w told rows rays places s n before now NoMemory r k l = subst (IsRestRefusal h limit w rows) (sym l) tt

-- the first rows are refused
pub first_refused : (h : ℤ) (limit w : ℕ) (rows : List Vector) (e : Num) (r : Work) → (e ≡ num.Range → IsTooLarge h w rows) → IsWorkOf e r → IsRestRefusal h limit w rows r
first_refused h limit w rows e (Range told) f k = (k.1, first_large h w rows (f k.0))
first_refused h limit w rows e TooMany f k = absurd k
first_refused h limit w rows e (Stopped stage) f k = absurd k
first_refused h limit w rows e NoMemory f k = tt
