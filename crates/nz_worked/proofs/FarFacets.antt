-- A cone of three vectors with entries of at most 10^18, one of whose support forms has the entry 10^36.
use Rattle.std.proofs.Common.{◌≡◌, inl, ℕ, zero, suc, List, [], ◌∷◌, length, ℤ, pos, negsuc, refl, sym, subst, arith}
use Rattle.std.proofs.lemmas.Int.{ints}
use Rattle.nz_spec.specs.Vectors.{Vector, combination, scaled, IsZero, IsPrimitive}
use Rattle.nz_spec.specs.Sums.{IsInSpan, IsIndependent}
use Rattle.nz_spec.specs.Forms.{IsKeyColumn, IsOtherColumn, IsNormalForm}
use Rattle.nz_spec.proofs.SumLaws.{span_each}
use Rattle.nz_spec.proofs.CoverExamples.{three}

abbrev large : ℤ
large = pos 1000000000000000000

abbrev one : Vector
one = large ∷ pos 1 ∷ pos 0 ∷ []

abbrev two : Vector
two = pos 0 ∷ large ∷ pos 1 ∷ []

abbrev three_of : Vector
three_of = pos 1 ∷ pos 0 ∷ large ∷ []

abbrev pub corners : List Vector
corners = one ∷ two ∷ three_of ∷ []

-- 0 at the first two
abbrev pub facet : Vector
facet = pos 1 ∷ negsuc 999999999999999999 ∷ pos 1000000000000000000000000000000000000 ∷ []

spans : (fs : List ℤ) (x : Vector) → length fs ≡ 3 → combination 3 fs corners ≡ scaled (pos 1) x → IsInSpan 3 corners x
spans fs x l e = record { multiple = pos 1; factors = fs; positive = omega (arith, ints); one_each = l; each = span_each fs; same = e }

first_key : IsKeyColumn 3 corners 0
first_key = (one, spans (pos 1 ∷ pos 0 ∷ pos 0 ∷ []) one refl refl, λ e. omega (arith, ints, e))

second_key : IsKeyColumn 3 corners 1
second_key = (two, spans (pos 0 ∷ pos 1 ∷ pos 0 ∷ []) two refl refl, (refl, λ e. omega (arith, ints, e)))

third_key : IsKeyColumn 3 corners 2
third_key = (pos 0 ∷ pos 0 ∷ pos 1000000000000000000000000000000000000000000000000000001 ∷ [], spans (negsuc 999999999999999999 ∷ pos 1 ∷ pos 1000000000000000000000000000000000000 ∷ []) _ refl refl, (refl, (refl, λ e. omega (arith, ints, e))))

no_other : (j : ℕ) → IsOtherColumn 3 corners j → ⊥
no_other zero o = o.not_key first_key
no_other (suc zero) o = o.not_key second_key
no_other (suc (suc zero)) o = o.not_key third_key
no_other (suc (suc (suc j))) o = let l = o.within in omega (arith, l)

corners_free : IsIndependent 3 corners
corners_free fs l z = let t = three fs l in subst IsZero (sym t.3) (all t.0 t.1 t.2 (subst (λ (cs : List ℤ). IsZero (combination 3 cs corners)) t.3 z))
  where
    all : (a b c : ℤ) → IsZero (combination 3 (a ∷ b ∷ c ∷ []) corners) → IsZero (a ∷ b ∷ c ∷ [])
    all a b c z =
        let p = z.0 in
        let q = z.1.0 in
        let r = z.1.1.0 in
        (omega (arith, ints, p, q, r), (omega (arith, ints, p, q, r), (omega (arith, ints, p, q, r), tt)))

facet_primitive : IsPrimitive facet
facet_primitive d h = h.0

-- the form is the dual form of the third
pub facet_is_normal : IsNormalForm 3 corners facet
facet_is_normal = record {
  vectors = corners;
  of_list = ((0, omega arith, refl), ((1, omega arith, refl), ((2, omega arith, refl), tt)));
  independent = corners_free;
  kind = inl (
    three_of,
    record {
      earlier = one ∷ two ∷ [];
      later = [];
      whole = refl;
      width = refl;
      primitive = facet_primitive;
      zero_at = λ j o. absurd (no_other j o);
      positive = omega (arith, ints);
      zero_on = (refl, (refl, tt));
    },
  );
}
