-- The list of all constraints of a system as the code puts it together, and why that is refused.
use Rattle.std.proofs.Common.{◌≡◌, ℕ, ◌+◌, ◌<◌, ◌≤◌, List, [], ◌∷◌, ◌++◌, length, take, get_or, map, Option, Some, None, false, ℤ, pos, ◌<ℤ◌, unsigned_abs, inl, inr, refl, sym, ap, ◌∙◌, subst, arith, append_assoc}
use Rattle.std.specs.Prelude.{IfSome}
use Rattle.std.proofs.lemmas.Int.{ints}
use Rattle.std.proofs.lemmas.List.{take_more, take_all}
use Rattle.std.specs.List.{AllByRecursion as Each}
use Rattle.nz_spec.specs.Vectors.{Vector, HasWidth}
use Rattle.nz_spec.specs.Forms.{IsNormalForm}
use Rattle.nz_spec.specs.Systems.{System, IsSystem}
use Rattle.nz_spec.specs.Constraints.{Constraint, Zero, Multiple, NotNegative, constraint_of, AreEquationsOf, AreRowsOf}
use Rattle.nz_range.proofs.Causes.{each_own}
use Rattle.nz_sweep.specs.Generating.{AreSetApart}
use Rattle.nz_sweep.specs.Numbers.{IsConstraintNumber, of_dual_form, of_equation, of_dual, IsFormNumber, measure_of}
use Rattle.nz_sweep.proofs.GeneratingLemmas.{generates}
use Rattle.nz_measures.specs.Pools.{IsAmbientVector, IsAmbientForm, set_apart, of_set_apart}
use Rattle.nz_measures.specs.Reaches.{HasOwnAbove, of_ambient}
use Rattle.nz_measures.proofs.Measuring.{entry_at_most, pool_form, pool_pair}
use Rattle.nz_measures.proofs.SystemCauses.{generated_above}
use Rattle.nz_system.specs.Meaning.{congruences_of}
use Rattle.nz_frame.specs.Constraining.{congruences_in, AreAllConstraints, AreWithGiven, IsLatticeTooLarge, finding_base, constraining_base}
use Rattle.nz_frame.proofs.ConstraintLists.{put_together, put_together_with}

-- ---- the congruences of a list
pub congruences_listed : (cs : List Constraint) → congruences_in cs ≡ map constraint_of (congruences_of cs)
congruences_listed [] = refl
congruences_listed (Zero f ∷ cs) = congruences_listed cs
congruences_listed (Multiple f m ∷ cs) = ap (λ ds. Multiple f m ∷ ds) (congruences_listed cs)
congruences_listed (NotNegative f ∷ cs) = congruences_listed cs

congruences_append : (cs ds : List Constraint) → congruences_in (cs ++ ds) ≡ congruences_in cs ++ congruences_in ds
congruences_append [] ds = refl
congruences_append (Zero f ∷ cs) ds = congruences_append cs ds
congruences_append (Multiple f m ∷ cs) ds = ap (λ es. Multiple f m ∷ es) (congruences_append cs ds)
congruences_append (NotNegative f ∷ cs) ds = congruences_append cs ds

-- one constraint more is looked at
pub appended_more : (first list next others : List Constraint) (i : ℕ) (c : Constraint) → i < length others → c ≡ get_or others i c → list ≡ first ++ congruences_in (take i others) → next ≡ list ++ congruences_in (c ∷ []) → next ≡ first ++ congruences_in (take (i + 1) others)
appended_more first list next others i c l e h n =
    n ∙ ap (λ t. t ++ congruences_in (c ∷ [])) h ∙ append_assoc first (congruences_in (take i others)) (congruences_in (c ∷ []))
    ∙ ap (λ t. first ++ t) (sym (congruences_append (take i others) (c ∷ [])) ∙ ap congruences_in (sym (take_more others i c l ∙ ap (λ g. take i others ++ g ∷ []) (sym e))))

pub appended_all : (first list others : List Constraint) (i : ℕ) → length others ≤ i → list ≡ first ++ congruences_in (take i others) → list ≡ first ++ congruences_in others
appended_all first list others i l h = h ∙ ap (λ cs. first ++ congruences_in cs) (take_all i others l)

-- ---- the whole list
pub together : (s : System) (equations rows : List Vector) (own all : List Constraint) → AreEquationsOf s equations → AreRowsOf s rows → own ≡ map Zero equations ++ map constraint_of s.cg ++ map NotNegative rows → AreWithGiven s.width s.lat own all → AreAllConstraints s all
together s equations rows own all e r o a = by s.lat refl a
  where
    by : (given : Option (List Vector)) → s.lat ≡ given → AreWithGiven s.width given own all → AreAllConstraints s all
    by None n a = subst (AreAllConstraints s) (sym (a ∙ o)) (put_together s equations rows e r n)
    by (Some lat) n a = subst (AreAllConstraints s) (sym (a.whole ∙ ap (λ t. t ++ congruences_in a.of_base) o)) (put_together_with s equations rows lat a.base a.of_base e r n a.set_apart a.are_of_base)

-- ---- what is too large: the forms and the vectors of the base are named
form_above : (h : ℤ) (s : System) (lat base : List Vector) (f : Vector) (n : ℤ) → s.lat ≡ Some lat → AreSetApart s.width 0 lat base → IsNormalForm s.width base f → IsFormNumber f base n → h <ℤ pos (unsigned_abs n) → HasOwnAbove s h
form_above h s lat base f n given apart k (inl c) l = let m = entry_at_most f n c in of_ambient (pool_form h (IsAmbientVector s) (IsAmbientForm s) f (of_set_apart given apart k) (omega (arith, ints, l, m)))
form_above h s lat base f n given apart k (inr (measure_of {v = v} c)) l = of_ambient (pool_pair h (IsAmbientVector s) (IsAmbientForm s) f v (of_set_apart given apart k) (set_apart given apart c) l)

base_above : (h : ℤ) (s : System) (lat base : List Vector) (n : ℤ) → Each (HasWidth s.width) lat → s.lat ≡ Some lat → AreSetApart s.width 0 lat base → IsConstraintNumber s.width base n → h <ℤ pos (unsigned_abs n) → HasOwnAbove s h
base_above h s lat base n wide given apart (of_dual_form (of_dual {v = v} {f = f} d m)) l = form_above h s lat base f n given apart (record { vectors = base; of_list = each_own base; independent = (generates s.width lat base wide apart).independent; kind = inl (v, d) }) m l
base_above h s lat base n wide given apart (of_equation {f = f} e m) l = form_above h s lat base f n given apart (record { vectors = base; of_list = each_own base; independent = (generates s.width lat base wide apart).independent; kind = inr e }) m l

pub lattice_above : (h : ℤ) (s : System) → IsSystem s → IsLatticeTooLarge h s.width s.lat → HasOwnAbove s h
lattice_above h s is (finding_base {lat = lat} given k) = generated_above h s lat given k
lattice_above h s is (constraining_base {lat = lat} {base = base} given apart k) =
    let named = subst (λ (o : Option (List Vector)). IfSome o (λ vs. (s.gens ≡ Some vs) × (s.level ≡ false))) given is.lat_is_gens in
    let wide : Each (HasWidth s.width) lat = subst (λ (o : Option (List Vector)). IfSome o (Each (HasWidth s.width))) named.0 is.gens_width in
    base_above h s lat base k.number wide given apart k.is_number k.large
