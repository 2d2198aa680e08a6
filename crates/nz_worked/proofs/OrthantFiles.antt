-- What `amb_space n` alone means: the unit forms are at least 0.
use Rattle.std.proofs.Common.{◌≡◌, ℕ, zero, suc, ◌+◌, ◌-◌, ◌<◌, ◌≤◌, List, [], ◌∷◌, ◌++◌, length, map, replicate, take, ℤ, pos, None, false, ap, ap₂, refl, ◌∙◌, arith}
use Rattle.std.proofs.lemmas.List.{length-replicate, append-nil, get_or-replicate}
use Rattle.nz_spec.specs.Vectors.{Vector, zero_vector, unit_vectors, entry}
use Rattle.nz_spec.specs.Systems.{System}
use Rattle.nz_linear.specs.Echelon.{unit_at}
use Rattle.nz_vec.proofs.UnitLemmas.{unit_more, units_all}
use Rattle.nz_system.specs.declared.contribution.Contribution.TheVariants.{NotNegative}
use Rattle.nz_system.specs.Contributions.{coordinate_form, sign_form, sign_forms}
use Rattle.nz_system.specs.Meaning.{system_of, system_given}
use Rattle.nz_worked.specs.Files.{orthant_file}
use Rattle.nz_worked.proofs.OrthantCrowds.{orthant}

coordinate_unit : (d i : ℕ) → i < d → coordinate_form d i (pos 1) ≡ unit_at d i
coordinate_unit zero i l = absurd (omega (arith, l))
coordinate_unit (suc d) zero l = (let e : suc d - suc zero ≡ d = omega arith in ap (λ (n : ℕ). pos 1 ∷ zero_vector n) e)
coordinate_unit (suc d) (suc i) l =
    let e : suc d - suc (suc i) ≡ d - suc i = omega arith in
    ap (λ (n : ℕ). pos 0 ∷ (zero_vector i ++ pos 1 ∷ zero_vector n)) e ∙ ap (λ (t : Vector). pos 0 ∷ t) (coordinate_unit d i (omega (arith, l)))

-- the form of the sign 1
sign_unit : (d i : ℕ) → i < d → sign_form (length (replicate d (pos 1))) [] i (entry (replicate d (pos 1)) i) ≡ unit_at d i ∷ []
sign_unit d i l =
    ap₂ (λ (n : ℕ) (a : ℤ). sign_form n [] i a) (length-replicate d (pos 1)) (get_or-replicate d i (pos 1) (pos 0) l)
    ∙ ap (λ (f : Vector). f ∷ []) (append-nil (coordinate_form d i (pos 1)) ∙ coordinate_unit d i l)

signs_units : (d i : ℕ) → i ≤ d → sign_forms (replicate d (pos 1)) [] i ≡ take i (unit_vectors d)
signs_units d zero l = refl
signs_units d (suc i) l =
    ap₂ (λ (fs gs : List Vector). fs ++ gs) (signs_units d i (omega (arith, l))) (sign_unit d i (omega (arith, l)))
    ∙ unit_more d i (take i (unit_vectors d)) (omega (arith, l)) refl
    ∙ (let e : i + 1 ≡ suc i = omega arith in ap (λ (n : ℕ). take n (unit_vectors d)) e)

all_signs : (d : ℕ) → sign_forms (replicate d (pos 1)) [] (length (replicate d (pos 1))) ≡ unit_vectors d
all_signs d = ap (sign_forms (replicate d (pos 1)) []) (length-replicate d (pos 1)) ∙ signs_units d d (omega arith) ∙ units_all d d (omega arith)

abbrev only_rows : ℕ → List Vector → System
only_rows d fs = record { width = d; level = false; eq = []; cg = []; ge = fs; gens = None; lat = None; grading = None; asked = None }

one_more : (d : ℕ) (f : Vector) (s : System) (fs : List Vector) → s ≡ only_rows d fs → record { width = s.width; level = s.level; eq = s.eq; cg = s.cg; ge = f ∷ s.ge; gens = s.gens; lat = s.lat; grading = s.grading; asked = s.asked } ≡ only_rows d (f ∷ fs)
one_more d f s fs e = ap (λ (t : System). record { width = t.width; level = t.level; eq = t.eq; cg = t.cg; ge = f ∷ t.ge; gens = t.gens; lat = t.lat; grading = t.grading; asked = t.asked }) e

-- rows alone are sorted out as rows
rows_given : (d : ℕ) (fs : List Vector) → system_given false (orthant_file d) (map NotNegative fs ++ []) ≡ only_rows d fs
rows_given d [] = refl
rows_given d (f ∷ fs) = one_more d f (system_given false (orthant_file d) (map NotNegative fs ++ [])) fs (rows_given d fs)

pub orthant_system : (d : ℕ) → system_of (orthant_file d) ≡ orthant d
orthant_system d = rows_given d (sign_forms (replicate d (pos 1)) [] (length (replicate d (pos 1)))) ∙ ap (only_rows d) (all_signs d)
