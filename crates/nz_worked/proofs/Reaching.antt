-- Numbers above a bound that are named in three files: a form at a vector, an entry of a form, an entry of a unit vector.
use Rattle.std.proofs.Common.{◌≡◌, inl, inr, ℕ, zero, suc, ◌^◌, List, [], ◌∷◌, length, ℤ, pos, negsuc, refl, sym, subst, arith}
use Rattle.std.proofs.lemmas.Int.{ints}
use Rattle.nz_spec.specs.Vectors.{Vector, combination, scaled, IsZero}
use Rattle.nz_spec.specs.Sums.{IsInSpan, IsIndependent}
use Rattle.nz_spec.specs.Forms.{IsOtherColumn, IsNormalForm}
use Rattle.nz_spec.proofs.SumLaws.{span_each}
use Rattle.nz_spec.proofs.Examples.{two}
use Rattle.nz_system.specs.Meaning.{system_of}
use Rattle.nz_measures.specs.Reaches.{HasOwnAbove, of_ambient}
use Rattle.nz_measures.specs.Pools.{unit, generator, of_generators}
use Rattle.nz_worked.specs.Files.{orthant_file, narrow_file, far_file}
use Rattle.nz_worked.proofs.FarFacets.{corners, facet, facet_is_normal}

-- ---- the cone with a far facet
pub far_above : HasOwnAbove (system_of far_file) (pos (2 ^ 62))
far_above = of_ambient (inl (record { vector = facet; named = inr (of_generators {G = corners} refl facet_is_normal); large = omega (arith, ints) }))

-- ---- the quadrant
pub quadrant_above_none : HasOwnAbove (system_of (orthant_file 2)) (pos 0)
quadrant_above_none = of_ambient (inl (record { vector = pos 1 ∷ pos 0 ∷ []; named = inl (unit (0, omega arith, refl)); large = omega (arith, ints) }))

-- ---- the narrow cone
abbrev pub lower : Vector
lower = pos 1000000007 ∷ pos 1 ∷ []

abbrev pub upper : Vector
upper = pos 1000000006 ∷ pos 1 ∷ []

abbrev pub narrow : List Vector
narrow = lower ∷ upper ∷ []

-- the form that is 0 at the upper one
abbrev pub lower_form : Vector
lower_form = pos 1 ∷ negsuc 1000000005 ∷ []

-- and the one that is 0 at the lower one
abbrev pub upper_form : Vector
upper_form = negsuc 0 ∷ pos 1000000007 ∷ []

pub narrow_free : IsIndependent 2 narrow
narrow_free fs l z = let t = two fs l in subst IsZero (sym t.2) (both t.0 t.1 (subst (λ (cs : List ℤ). IsZero (combination 2 cs narrow)) t.2 z))
  where
    both : (a b : ℤ) → IsZero (combination 2 (a ∷ b ∷ []) narrow) → IsZero (a ∷ b ∷ [])
    both a b z = let p = z.0 in let q = z.1.0 in (omega (arith, ints, p, q), (omega (arith, ints, p, q), tt))

pub narrow_spans : (fs : List ℤ) (x : Vector) → length fs ≡ 2 → combination 2 fs narrow ≡ scaled (pos 1) x → IsInSpan 2 narrow x
narrow_spans fs x l e = record { multiple = pos 1; factors = fs; positive = omega (arith, ints); one_each = l; each = span_each fs; same = e }

pub narrow_no_other : (j : ℕ) → IsOtherColumn 2 narrow j → ⊥
narrow_no_other zero o = o.not_key (lower, narrow_spans (pos 1 ∷ pos 0 ∷ []) lower refl refl, λ e. omega (arith, ints, e))
narrow_no_other (suc zero) o = o.not_key (pos 0 ∷ pos 1 ∷ [], narrow_spans (negsuc 1000000005 ∷ pos 1000000007 ∷ []) (pos 0 ∷ pos 1 ∷ []) refl refl, (refl, λ e. omega (arith, ints, e)))
narrow_no_other (suc (suc j)) o = let l = o.within in omega (arith, l)

lower_form_is_normal : IsNormalForm 2 narrow lower_form
lower_form_is_normal = record {
  vectors = narrow;
  of_list = ((0, omega arith, refl), ((1, omega arith, refl), tt));
  independent = narrow_free;
  kind = inl (
    lower,
    record {
      earlier = [];
      later = upper ∷ [];
      whole = refl;
      width = refl;
      primitive = λ d h. h.0;
      zero_at = λ j o. absurd (narrow_no_other j o);
      positive = omega (arith, ints);
      zero_on = (refl, tt);
    },
  );
}

-- the products of the form and the lower one have sizes whose sum is above 2^30
pub narrow_above : HasOwnAbove (system_of narrow_file) (pos (2 ^ 30))
narrow_above = of_ambient (inr (record { form = lower_form; vector = lower; is_form = of_generators {G = narrow} refl lower_form_is_normal; named = generator {G = narrow} refl (0, omega arith, refl); large = omega (arith, ints) }))
