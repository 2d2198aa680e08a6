-- The members of a system in a frame of it; the entries of a vector as forms on its coordinates.
use Rattle.std.proofs.Common.{◌≡◌, ℕ, List, [], ◌∷◌, length, map, Option, Some, None, sym, subst}
use Rattle.std.proofs.lemmas.List.{length-map}
use Rattle.std.specs.List.{AllByRecursion as Each}
use Rattle.nz_spec.specs.Vectors.{Vector, dot, unit_vectors, HasWidth}
use Rattle.nz_spec.specs.Systems.{System, IsSystem, IsMember}
use Rattle.nz_spec.specs.Monoids.{IsPositive}
use Rattle.nz_spec.specs.Forms.{IsEquationAt, IsSupportForm}
use Rattle.nz_spec.specs.Constraints.{AreGenEquations, AreGenSupport, AreEquationsOf, AreRowsOf}
use Rattle.nz_linear.specs.Cones.{IsInRows}
use Rattle.nz_linear.specs.Extreme.{IsPointed}
use Rattle.nz_linear.specs.Coordinates.{AreCoordinates, in_coordinates}
use Rattle.nz_linear.proofs.Lists.{each_map, each_append, zip_to_right}
use Rattle.nz_linear.proofs.Coordinates.{positive_forth}
use Rattle.nz_linear.proofs.Pointed.{positive_of_pointed}
use Rattle.nz_linear.proofs.SystemRays.{system_coordinates}
use Rattle.nz_sweep.specs.Bases.{Base, IsBase}
use Rattle.nz_sweep.proofs.BaseLemmas.{units_are_base}
use Rattle.nz_frame.specs.Frames.{IsFrame}
use Rattle.nz_frame.proofs.LatticeLemmas.{base_of}

-- ---- a frame
pub pulled_wide : (vs fs : List Vector) → Each (HasWidth (length vs)) (map (λ h. in_coordinates vs h) fs)
pulled_wide vs [] = tt
pulled_wide vs (f ∷ fs) = (length-map vs (λ v. dot f v), pulled_wide vs fs)

pub frame_wide : (s : System) (base : Base) (pulled : List Vector) → IsFrame s base pulled → Each (HasWidth (length base.vectors)) pulled
frame_wide s base pulled fr = subst (Each (HasWidth (length base.vectors))) (sym fr.there) (pulled_wide base.vectors fr.rows)

pub frame_base : (s : System) (base : Base) (pulled : List Vector) → IsFrame s base pulled → IsBase base
frame_base s base pulled fr = base_of s.width _ base fr.is_base

-- the members of the system are, in coordinates, the whole vectors of the cone of the rows there
pub frame_coordinates : (s : System) (base : Base) (pulled : List Vector) → IsSystem s → IsFrame s base pulled → AreCoordinates base.width base.vectors (IsMember s) (IsInRows (length base.vectors) pulled)
frame_coordinates s base pulled is fr =
    let b = fr.is_base in
    subst (λ (n : ℕ). AreCoordinates n base.vectors (IsMember s) (IsInRows (length base.vectors) pulled)) (sym b.width)
    (subst (λ (rs : List Vector). AreCoordinates s.width base.vectors (IsMember s) (IsInRows (length base.vectors) rs)) (sym fr.there)
    (system_coordinates s fr.equations fr.rows base.vectors is fr.are_equations fr.are_rows b.widths b.independent b.same))

-- where the rows there vanish together only at 0 there is no line
pub frame_positive : (s : System) (base : Base) (pulled : List Vector) → IsSystem s → IsFrame s base pulled → IsPointed (length base.vectors) pulled → IsPositive (IsMember s)
frame_positive s base pulled is fr pt =
    positive_forth base.width base.vectors (IsMember s) (IsInRows (length base.vectors) pulled) (frame_coordinates s base pulled is fr)
    (positive_of_pointed (length base.vectors) pulled (IsInRows (length base.vectors) pulled) pt (λ x m. m))

-- ---- widths
gen_equations_wide : (w : ℕ) (gens : Option (List Vector)) (fs : List Vector) → AreGenEquations w gens fs → Each (HasWidth w) fs
gen_equations_wide w None fs e = subst (Each (HasWidth w)) (sym e) tt
gen_equations_wide w (Some gens) fs e = zip_to_right (IsEquationAt w gens) (HasWidth w) e.columns fs (λ c f k. k.width) e.each

gen_support_wide : (w : ℕ) (gens : Option (List Vector)) (fs : List Vector) → AreGenSupport w gens fs → Each (HasWidth w) fs
gen_support_wide w None fs e = subst (Each (HasWidth w)) (sym e) tt
gen_support_wide w (Some gens) fs e = each_map (IsSupportForm w gens) (HasWidth w) fs (λ f k. k.width) e.only

pub equations_wide : (s : System) (fs : List Vector) → IsSystem s → AreEquationsOf s fs → Each (HasWidth s.width) fs
equations_wide s fs is e = subst (Each (HasWidth s.width)) (sym e.whole) (each_append (HasWidth s.width) s.eq e.of_gens is.eq_width (gen_equations_wide s.width s.gens e.of_gens e.are_of_gens))

pub rows_wide : (s : System) (fs : List Vector) → IsSystem s → AreRowsOf s fs → Each (HasWidth s.width) fs
rows_wide s fs is e = subst (Each (HasWidth s.width)) (sym e.whole) (each_append (HasWidth s.width) s.ge e.of_gens is.ge_width (gen_support_wide s.width s.gens e.of_gens e.are_of_gens))

pub wide_at : (w n : ℕ) (fs : List Vector) → n ≡ w → Each (HasWidth w) fs → Each (HasWidth n) fs
wide_at w n fs e h = subst (λ (m : ℕ). Each (HasWidth m) fs) (sym e) h

pub units_wide_at : (w n : ℕ) (us : List Vector) → n ≡ w → us ≡ unit_vectors w → Each (HasWidth n) us
units_wide_at w n us e k = wide_at w n us e (units_are_base w us [] k).widths
