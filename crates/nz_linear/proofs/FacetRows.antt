-- The support forms of a list are the extreme rays of its facet rows.
use Rattle.std.proofs.Common.{◌≡◌, ℕ, ◌<◌, List, [], ◌∷◌, pos, negsuc, ◌*ℤ◌, ◌≤ℤ◌, sym, ap, ◌∙◌, arith}
use Rattle.std.proofs.lemmas.Int.{ints}
use Rattle.std.specs.List.{AllByRecursion as Each, Contains}
use Rattle.nz_spec.specs.Vectors.{Vector, dot, scaled, zero_vector, entry, HasWidth, IsPrimitive}
use Rattle.nz_spec.specs.Order.{IsListOf}
use Rattle.nz_spec.specs.Forms.{IsOtherColumn, IsSupportForm}
use Rattle.nz_spec.proofs.VectorLaws.{zero_vector_of}
use Rattle.nz_spec.proofs.ListLaws.{Each-contains, Each-from_contains}
use Rattle.nz_spec.proofs.EquationLaws.{dot_comm, zero_outside_keys}
use Rattle.nz_linear.specs.Cones.{Satisfies}
use Rattle.nz_linear.specs.Extreme.{VanishesWith, IsPointed}
use Rattle.nz_linear.specs.DoubleDescription.{IsExtremeByZeros}
use Rattle.nz_linear.specs.RayStep.{AreExtremeRays}
use Rattle.nz_linear.specs.Echelon.{unit_at}
use Rattle.nz_linear.specs.Facets.{IsValidForm, IsExtremeForm, facet_rows}
use Rattle.nz_linear.proofs.Ring.{sums}
use Rattle.nz_linear.proofs.Lists.{each_map}
use Rattle.nz_linear.proofs.VectorLaws.{length-scaled, scaled-dot}
use Rattle.nz_linear.proofs.Units.{length-unit_at, unit_at-dot}
use Rattle.nz_linear.proofs.RayList.{each_extreme_listed}
use Rattle.nz_linear.proofs.SupportForms.{support_of_extreme, extreme_of_support, support_is_valid}

pub facet_rows_width : (w : ℕ) (columns : List ℕ) (G : List Vector) → Each (HasWidth w) G → Each (HasWidth w) (facet_rows w columns G)
facet_rows_width w [] G l = l
facet_rows_width w (c ∷ columns) G l = (length-unit_at w c, (length-scaled w (negsuc 0) (unit_at w c) (length-unit_at w c), facet_rows_width w columns G l))

other_side : (w c : ℕ) (f : Vector) → HasWidth w f → dot (scaled (negsuc 0) (unit_at w c)) f ≡ negsuc 0 *ℤ entry f c
other_side w c f l = scaled-dot (negsuc 0) (unit_at w c) f ∙ ap (λ t. negsuc 0 *ℤ t) (unit_at-dot w c f l)

-- the facet rows are at least 0 just where G is and the columns are 0
satisfies_rows : (w : ℕ) (columns : List ℕ) (G : List Vector) (f : Vector) → HasWidth w f → Each (λ c. entry f c ≡ pos 0) columns → Satisfies G f → Satisfies (facet_rows w columns G) f
satisfies_rows w [] G f l z s = s
satisfies_rows w (c ∷ columns) G f l z s = (
  omega (arith, sums, unit_at-dot w c f l, z.0),
  (omega (arith, ints, other_side w c f l, ap (λ t. negsuc 0 *ℤ t) z.0), satisfies_rows w columns G f l z.1 s),
)

rows_satisfied : (w : ℕ) (columns : List ℕ) (G : List Vector) (f : Vector) → HasWidth w f → Satisfies (facet_rows w columns G) f → Each (λ c. entry f c ≡ pos 0) columns × Satisfies G f
rows_satisfied w [] G f l s = (tt, s)
rows_satisfied w (c ∷ columns) G f l s =
    let r = rows_satisfied w columns G f l s.1.1 in
    let up : pos 0 ≤ℤ entry f c = omega (arith, sums, unit_at-dot w c f l, s.0) in
    let down : pos 0 ≤ℤ (negsuc 0 *ℤ entry f c) = omega (arith, sums, other_side w c f l, s.1.0) in
    ((omega (arith, ints), r.0), r.1)

rows_vanish : (w : ℕ) (columns : List ℕ) (G : List Vector) (f y : Vector) → HasWidth w y → Each (λ c. entry y c ≡ pos 0) columns → VanishesWith G f y → VanishesWith (facet_rows w columns G) f y
rows_vanish w [] G f y l z v = v
rows_vanish w (c ∷ columns) G f y l z v = (
  (λ e. unit_at-dot w c y l ∙ z.0),
  ((λ e. other_side w c y l ∙ ap (λ t. negsuc 0 *ℤ t) z.0), rows_vanish w columns G f y l z.1 v),
)

vanish_rows : (w : ℕ) (columns : List ℕ) (G : List Vector) (f y : Vector) → VanishesWith (facet_rows w columns G) f y → VanishesWith G f y
vanish_rows w [] G f y v = v
vanish_rows w (c ∷ columns) G f y v = vanish_rows w columns G f y v.1.1

rows_zero : (w : ℕ) (columns : List ℕ) (G : List Vector) (f : Vector) → HasWidth w f → Each (λ r. dot r f ≡ pos 0) (facet_rows w columns G) → Each (λ c. entry f c ≡ pos 0) columns × Each (λ g. dot g f ≡ pos 0) G
rows_zero w [] G f l z = (tt, z)
rows_zero w (c ∷ columns) G f l z = let r = rows_zero w columns G f l z.1.1 in ((sym (unit_at-dot w c f l) ∙ z.0, r.0), r.1)

-- ---- valid forms, for the columns that are no key column
module _ (w : ℕ) (G : List Vector) (columns : List ℕ) (others : IsListOf ◌<◌ (IsOtherColumn w G) columns) where
  pub valid_satisfies : (f : Vector) → IsValidForm w G f → Satisfies (facet_rows w columns G) f
  valid_satisfies f v =
      satisfies_rows w columns G f v.width (each_map (IsOtherColumn w G) (λ c. entry f c ≡ pos 0) columns (λ c o. v.zero_at c o) others.only) (each_map (λ g. pos 0 ≤ℤ dot f g) (λ g. pos 0 ≤ℤ dot g f) G (λ g h. rw (dot_comm g f) h) v.at_least)

  pub satisfies_valid : (f : Vector) → HasWidth w f → Satisfies (facet_rows w columns G) f → IsValidForm w G f
  satisfies_valid f l s =
      let r = rows_satisfied w columns G f l s in
      record {
        width = l;
        at_least = each_map (λ g. pos 0 ≤ℤ dot g f) (λ g. pos 0 ≤ℤ dot f g) G (λ g h. rw (dot_comm f g) h) r.1;
        zero_at = λ j o. Each-contains (λ c. entry f c ≡ pos 0) columns j r.0 (others.each j o);
      }

  pub facet_rows_pointed : Each (HasWidth w) G → IsPointed w (facet_rows w columns G)
  facet_rows_pointed lG x l z =
      let r = rows_zero w columns G x l z in
      zero_vector_of x (zero_outside_keys w G lG x l (each_map (λ g. dot g x ≡ pos 0) (λ g. dot x g ≡ pos 0) G (λ g e. dot_comm x g ∙ e) r.1) (λ j o. Each-contains (λ c. entry x c ≡ pos 0) columns j r.0 (others.each j o))) ∙ ap zero_vector l

  zeros_there : (f y : Vector) → VanishesWith G f y → Each (λ g. dot f g ≡ pos 0 → dot y g ≡ pos 0) G
  zeros_there f y v = each_map (λ g. dot g f ≡ pos 0 → dot g y ≡ pos 0) (λ g. dot f g ≡ pos 0 → dot y g ≡ pos 0) G (λ g h e. dot_comm y g ∙ h (dot_comm g f ∙ e)) v

  zeros_back : (f y : Vector) → Each (λ g. dot f g ≡ pos 0 → dot y g ≡ pos 0) G → VanishesWith G f y
  zeros_back f y v = each_map (λ g. dot f g ≡ pos 0 → dot y g ≡ pos 0) (λ g. dot g f ≡ pos 0 → dot g y ≡ pos 0) G (λ g h e. dot_comm g y ∙ h (dot_comm f g ∙ e)) v

  extreme_form : (f : Vector) → IsExtremeByZeros w (facet_rows w columns G) f → IsExtremeForm w G f
  extreme_form f e y v z =
      e y v.width (valid_satisfies y v) (rows_vanish w columns G f y v.width (each_map (IsOtherColumn w G) (λ c. entry y c ≡ pos 0) columns (λ c o. v.zero_at c o) others.only) (zeros_back f y z))

  form_extreme : (f : Vector) → IsExtremeForm w G f → IsExtremeByZeros w (facet_rows w columns G) f
  form_extreme f e y l s v = e y (satisfies_valid y l s) (zeros_there f y (vanish_rows w columns G f y v))

  -- each extreme ray of the facet rows is a support form
  pub rays_are_support : (rays : List Vector) → Each (HasWidth w) G → AreExtremeRays w (facet_rows w columns G) rays → Each (IsSupportForm w G) rays
  rays_are_support rays lG r = Each-from_contains (IsSupportForm w G) rays (λ f c.
      let l = Each-contains (HasWidth w) rays f r.description.ray_widths c in
      let s = Each-contains (Satisfies (facet_rows w columns G)) rays f r.description.sound c in
      support_of_extreme w G f lG (satisfies_valid f l s) (Each-contains IsPrimitive rays f r.primitive c) (extreme_form f (Each-contains (IsExtremeByZeros w (facet_rows w columns G)) rays f r.extreme c)))

  -- and each support form is one of them
  pub support_listed : (rays : List Vector) (f : Vector) → Each (HasWidth w) G → AreExtremeRays w (facet_rows w columns G) rays → IsSupportForm w G f → Contains rays f
  support_listed rays f lG r s =
      each_extreme_listed w (facet_rows w columns G) rays f r s.width (valid_satisfies f (support_is_valid w G f s)) s.primitive (form_extreme f (extreme_of_support w G f lG s))
