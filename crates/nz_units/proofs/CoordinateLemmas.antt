-- To the coordinates of a list of vectors and back, by the values of forms.
use Rattle.std.proofs.Common.{◌≡◌, inl, inr, ℕ, zero, suc, ◌+◌, ◌<◌, List, [], ◌∷◌, length, map, ℤ, pos, ◌*ℤ◌, ◌<ℤ◌, Contains, unsigned_abs, refl, sym, ap, ap₂, ◌∙◌, subst, arith}
use Rattle.std.proofs.lemmas.Int.{ints}
use Rattle.std.proofs.lemmas.List.{length-map}
use Rattle.std.proofs.Math.IntN.{zero-*ℤ}
use Rattle.std.specs.List.{AllByRecursion as Each}
use Rattle.nz_spec.specs.Vectors.{Vector, dot, entry, combination, values_at, unit_vectors, zero_vector, HasWidth}
use Rattle.nz_spec.proofs.EquationLaws.{dot_comm}
use Rattle.nz_spec.proofs.ListLaws.{Each-contains, contains_here, contains_there}
use Rattle.nz_spec.proofs.SumLaws.{length-combination}
use Rattle.nz_spec.proofs.VectorLaws.{zero-dot}
use Rattle.nz_linear.specs.Coordinates.{in_coordinates}
use Rattle.nz_linear.specs.Echelon.{unit_at}
use Rattle.nz_linear.proofs.Lists.{each_map}
use Rattle.nz_linear.proofs.Ring.{sums, one-mul}
use Rattle.nz_scalar.specs.Room.{HasRoom}
use Rattle.nz_vec.specs.Sums.{HasValueOutside}
use Rattle.nz_vec.proofs.UnitLemmas.{length-unit_vectors, unit_vector_at}
use Rattle.nz_range.specs.Measures.{pair_measure}
use Rattle.nz_range.proofs.Causes.{value_cause}
use Rattle.nz_sweep.specs.Bases.{column_of}
use Rattle.nz_sweep.specs.Numbers.{SomeNumberLarge, entry_of}
use Rattle.nz_sweep.proofs.BaseLemmas.{units_are_base}
use Rattle.nz_sweep.proofs.NumberLemmas.{entry_held}
use Rattle.nz_measures.proofs.Measuring.{pair_measure-swap, column-unit}
use Rattle.nz_further.proofs.InOrder.{place_of, map_contains}
use Rattle.nz_further.proofs.UnitBridges.{value_in}
use Rattle.nz_units.specs.UnitNumbers.{IsReturnNumber, of_entry, of_sum}

-- ---- values and coordinates
-- the values of vectors, read as forms, at a form are the form in their coordinates
pub values_in : (vs : List Vector) (f : Vector) → values_at vs f ≡ in_coordinates vs f
values_in [] f = refl
values_in (v ∷ vs) f = ap₂ (λ a x. a ∷ x) (dot_comm v f) (values_in vs f)

pub all_values_in : (vs fs : List Vector) → map (λ f. values_at vs f) fs ≡ map (λ f. in_coordinates vs f) fs
all_values_in vs [] = refl
all_values_in vs (f ∷ fs) = ap₂ (λ a x. a ∷ x) (values_in vs f) (all_values_in vs fs)

-- the values of forms in coordinates are those of the forms
values_there : (w : ℕ) (vs fs : List Vector) (c : Vector) → Each (HasWidth w) vs → values_at (map (λ f. in_coordinates vs f) fs) c ≡ values_at fs (combination w c vs)
values_there w vs [] c l = refl
values_there w vs (f ∷ fs) c l = ap₂ (λ a x. a ∷ x) (value_in w vs f c l) (values_there w vs fs c l)

-- the unit forms have the entries as values
shifted : (us : List Vector) (a : ℤ) (x : Vector) → map (λ u. dot u (a ∷ x)) (map (λ u. pos 0 ∷ u) us) ≡ map (λ u. dot u x) us
shifted [] a x = refl
shifted (u ∷ us) a x = ap₂ (λ b y. b ∷ y) (let e = zero-*ℤ a in omega (arith, sums, e)) (shifted us a x)

unit_values : (w : ℕ) (x : Vector) → HasWidth w x → values_at (unit_vectors w) x ≡ x
unit_values zero [] l = refl
unit_values zero (a ∷ x) l = absurd (let b : ⊥ = omega (arith, l) in b)
unit_values (suc w) [] l = absurd (let b : ⊥ = omega (arith, l) in b)
unit_values (suc w) (a ∷ x) l = ap₂ (λ b y. b ∷ y) (let e = zero-dot w x in let o = one-mul a in omega (arith, sums, e, o)) (shifted (unit_vectors w) a x ∙ unit_values w x (omega (arith, l)))

-- so the unit forms in coordinates have the entries of the vector as values
value_back : (w : ℕ) (vs : List Vector) (c : Vector) → Each (HasWidth w) vs → values_at (map (λ e. values_at vs e) (unit_vectors w)) c ≡ combination w c vs
value_back w vs c l =
    ap (λ fs. values_at fs c) (all_values_in vs (unit_vectors w)) ∙ values_there w vs (unit_vectors w) c l ∙ unit_values w (combination w c vs) (length-combination w c vs l)

pub values_back : (w : ℕ) (vs cs : List Vector) → Each (HasWidth w) vs → map (λ c. values_at (map (λ e. values_at vs e) (unit_vectors w)) c) cs ≡ map (λ c. combination w c vs) cs
values_back w vs [] l = refl
values_back w vs (c ∷ cs) l = ap₂ (λ a x. a ∷ x) (value_back w vs c l) (values_back w vs cs l)

-- ---- widths
pub all_wide : (w : ℕ) (fs xs : List Vector) → Each (HasWidth w) fs → Each (HasWidth w) xs → Each (λ x. Each (HasWidth (length x)) fs) xs
all_wide w fs xs l h = each_map (HasWidth w) (λ x. Each (HasWidth (length x)) fs) xs (λ x e. subst (λ n. Each (HasWidth n) fs) (sym e) l) h

pub values_wide : (vs fs : List Vector) → Each (HasWidth (length vs)) (map (λ f. values_at vs f) fs)
values_wide vs [] = tt
values_wide vs (f ∷ fs) = (length-map vs (λ v. dot v f), values_wide vs fs)

-- ---- causes
-- the measure of a unit form at a vector is the size of an entry
unit_size : (w j : ℕ) (v : Vector) → HasWidth w v → pair_measure (unit_at w j) v ≡ unsigned_abs (entry v j)
unit_size zero j [] l = refl
unit_size zero j (b ∷ v) l = absurd (omega (arith, l))
unit_size (suc w) zero [] l = absurd (omega (arith, l))
unit_size (suc w) zero (b ∷ v) l = ap₂ ◌+◌ (ap unsigned_abs (one-mul b)) (nothing w v) ∙ omega arith
  where
    nothing : (w : ℕ) (v : Vector) → pair_measure (zero_vector w) v ≡ 0
    nothing zero v = refl
    nothing (suc w) [] = refl
    nothing (suc w) (b ∷ v) = ap₂ ◌+◌ (ap unsigned_abs (zero-*ℤ b)) (nothing w v)
unit_size (suc w) (suc j) [] l = absurd (omega (arith, l))
unit_size (suc w) (suc j) (b ∷ v) l = ap₂ ◌+◌ (ap unsigned_abs (zero-*ℤ b)) (unit_size w j v (omega (arith, l))) ∙ omega arith

unit_place : (w : ℕ) (e : Vector) → Contains (unit_vectors w) e → (j : ℕ) × (j < w) × (e ≡ unit_at w j)
unit_place w e c =
    let p = place_of (unit_vectors w) e [] c in
    let l : p.0 < w = subst (λ (n : ℕ). p.0 < n) (length-unit_vectors w) p.1 in
    (p.0, l, sym p.2 ∙ unit_vector_at w p.0 l)

module _ (h : ℤ) (fits : ℤ → Type 0) (room : HasRoom h fits) (w : ℕ) (vs : List Vector) (wide : Each (HasWidth w) vs) (Named : Vector → Type 0) where
  -- a unit form cannot be read in coordinates
  pub entry_large : HasValueOutside fits vs (unit_vectors w) → SomeNumberLarge h (IsReturnNumber vs Named)
  entry_large k =
      let p = unit_place w k.vector k.of_vectors in
      let v = k.form in
      let l : HasWidth w v = Each-contains (HasWidth w) vs v wide k.of_forms in
      let size : pair_measure v k.vector ≡ unsigned_abs (entry v p.0) = pair_measure-swap v k.vector ∙ ap (λ e. pair_measure e v) p.2 ∙ unit_size w p.0 v l in
      record {
        number = entry v p.0;
        is_number = of_entry (entry_of {v = v} k.of_forms (entry_held v p.0 (entry v p.0) (subst (λ (n : ℕ). p.0 < n) (sym l) p.1) refl));
        large = subst (λ (m : ℕ). h <ℤ pos m) size (value_cause h fits room v k.vector k.outside);
      }

  -- a vector cannot be taken back
  pub sum_large : (cs : List Vector) → ((c : Vector) → Contains cs c → Named c) → HasValueOutside fits (map (λ e. values_at vs e) (unit_vectors w)) cs → SomeNumberLarge h (IsReturnNumber vs Named)
  sum_large cs named k =
      let s = map_contains (λ e. values_at vs e) (unit_vectors w) k.form k.of_forms in
      let p = unit_place w s.0 s.1 in
      let column : k.form ≡ column_of vs p.0 = sym s.2 ∙ values_in vs s.0 ∙ ap (in_coordinates vs) p.2 ∙ sym (column-unit w p.0 vs wide) in
      record {
        number = pos (pair_measure k.vector (column_of vs p.0));
        is_number = of_sum p.0 (named k.vector k.of_vectors);
        large = subst (λ (m : ℕ). h <ℤ pos m) (pair_measure-swap k.form k.vector ∙ ap (pair_measure k.vector) column) (value_cause h fits room k.form k.vector k.outside);
      }

-- ---- the same where the unit vectors and the columns are known only up to equality
pub units_wide : (w : ℕ) (vs us : List Vector) → Each (HasWidth w) vs → us ≡ unit_vectors w → Each (λ x. Each (HasWidth (length x)) vs) us
units_wide w vs us l e = all_wide w vs us l (units_are_base w us [] e).widths

pub columns_wide : (vs us columns cs : List Vector) → columns ≡ map (λ e. values_at vs e) us → Each (HasWidth (length vs)) cs → Each (λ x. Each (HasWidth (length x)) columns) cs
columns_wide vs us columns cs e l = all_wide (length vs) columns cs (subst (Each (HasWidth (length vs))) (sym e) (values_wide vs us)) l

pub taken : (w : ℕ) (vs us columns cs : List Vector) → Each (HasWidth w) vs → us ≡ unit_vectors w → columns ≡ map (λ e. values_at vs e) us → map (λ c. values_at columns c) cs ≡ map (λ c. combination w c vs) cs
taken w vs us columns cs l e f = ap (λ ts. map (λ c. values_at ts c) cs) (f ∙ ap (map (λ u. values_at vs u)) e) ∙ values_back w vs cs l
