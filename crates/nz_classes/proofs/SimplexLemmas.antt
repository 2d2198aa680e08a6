-- The pairs of a simplex: their floors leave the point of a class.
use Rattle.std.proofs.Common.{◌≡◌, ℕ, zero, suc, ◌+◌, ◌<◌, ◌≤◌, inl, inr, List, [], ◌∷◌, ◌++◌, length, map, take, get_or, ℤ, pos, ◌+ℤ◌, ◌-ℤ◌, ◌*ℤ◌, neg_ℤ, ◌≤ℤ◌, ◌<ℤ◌, refl, sym, ap, ◌∙◌, subst, arith}
use Rattle.std.proofs.lemmas.Int.{ints}
use Rattle.std.proofs.lemmas.List.{length-map, get_or-map, take_more, take_all}
use Rattle.std.proofs.lemmas.Slice.Zip.{AllZip-long}
use Rattle.std.specs.List.{AllByRecursion as Each, AllZip}
use Rattle.nz_spec.specs.Vectors.{Vector, dot, plus, minus, opposite, combination, values_at, entry, HasWidth, IsMultipleOf}
use Rattle.nz_spec.specs.Boxes.{IsFloor}
use Rattle.nz_spec.proofs.VectorLaws.{dot-minus, length-minus, plus_comm}
use Rattle.nz_spec.proofs.SumLaws.{length-combination}
use Rattle.nz_spec.proofs.ListLaws.{each_at, zip_push}
use Rattle.nz_linear.specs.DualPairs.{Pair, pair_of, divisor, HasWidths, IsDual}
use Rattle.nz_linear.specs.Echelon.{unit_at}
use Rattle.nz_linear.proofs.DualPairs.{widths_of_vectors}
use Rattle.nz_linear.proofs.Floors.{floor_rest, values_at_combination}
use Rattle.nz_linear.proofs.Lists.{zip_left}
use Rattle.nz_linear.proofs.Ring.{sums, one-mul, two-mul, neg-mul}
use Rattle.nz_linear.proofs.Units.{dot-unit_at}
use Rattle.nz_linear.proofs.VectorLaws.{dot-plus}
use Rattle.nz_classes.specs.Classes.{AreOneClass, HasReducedValues, IsRestOf}
use Rattle.nz_classes.specs.Steps.{AreQuotients, AreCarries, IsCarry}
use Rattle.nz_classes.specs.Walks.{paired, IsFullSimplex}
use Rattle.nz_classes.proofs.ClassLaws.{class_trans, class_plus}

-- ---- the pairs of a simplex
pub length-paired : (fs vs : List Vector) → length fs ≡ length vs → length (paired fs vs) ≡ length vs
length-paired [] [] l = refl
length-paired [] (v ∷ vs) l = absurd (omega (arith, l))
length-paired (f ∷ fs) [] l = absurd (omega (arith, l))
length-paired (f ∷ fs) (v ∷ vs) l = ap suc (length-paired fs vs (omega (arith, l)))

pub vectors-paired : (fs vs : List Vector) → length fs ≡ length vs → map (λ p. p.vector) (paired fs vs) ≡ vs
vectors-paired [] [] l = refl
vectors-paired [] (v ∷ vs) l = absurd (omega (arith, l))
vectors-paired (f ∷ fs) [] l = absurd (omega (arith, l))
vectors-paired (f ∷ fs) (v ∷ vs) l = ap (λ us. v ∷ us) (vectors-paired fs vs (omega (arith, l)))

pub pair_at : (fs vs : List Vector) (i : ℕ) (d : Pair) → length fs ≡ length vs → i < length vs → get_or (paired fs vs) i d ≡ pair_of (get_or fs i []) (get_or vs i [])
pair_at [] [] i d l h = absurd (omega (arith, h))
pair_at [] (v ∷ vs) i d l h = absurd (omega (arith, l))
pair_at (f ∷ fs) [] i d l h = absurd (omega (arith, l))
pair_at (f ∷ fs) (v ∷ vs) zero d l h = refl
pair_at (f ∷ fs) (v ∷ vs) (suc i) d l h = pair_at fs vs i d (omega (arith, l)) (omega (arith, h))

-- ---- lists
-- what holds at each place holds of the two lists
pub zip_from : {A B : Type 0} (R : A → B → Type 0) (xs : List A) (ys : List B) (d : A) (e : B) → length xs ≡ length ys → ((i : ℕ) → i < length xs → R (get_or xs i d) (get_or ys i e)) → AllZip R xs ys
zip_from R [] [] d e l h = tt
zip_from R [] (y ∷ ys) d e l h = absurd (omega (arith, l))
zip_from R (x ∷ xs) [] d e l h = absurd (omega (arith, l))
zip_from R (x ∷ xs) (y ∷ ys) d e l h = (h 0 (omega arith), zip_from R xs ys d e (omega (arith, l)) (λ i m. h (suc i) (omega (arith, m))))

pub zip_at : {A B : Type 0} (R : A → B → Type 0) (xs : List A) (ys : List B) (i : ℕ) (d : A) (e : B) → i < length xs → AllZip R xs ys → R (get_or xs i d) (get_or ys i e)
zip_at R [] ys i d e l h = absurd (omega (arith, l))
zip_at R (x ∷ xs) [] i d e l h = absurd h
zip_at R (x ∷ xs) (y ∷ ys) zero d e l h = h.0
zip_at R (x ∷ xs) (y ∷ ys) (suc i) d e l h = zip_at R xs ys i d e (omega (arith, l)) h.1

-- one more pair of two lists
pub zip_more : {A B : Type 0} (R : A → B → Type 0) (xs : List A) (ys zs : List B) (i : ℕ) (d : A) (y : B) → i < length xs → AllZip R (take i xs) ys → R (get_or xs i d) y → zs ≡ ys ++ (y ∷ []) → AllZip R (take (i + 1) xs) zs
zip_more R xs ys zs i d y l z r s = subst (AllZip R (take (i + 1) xs)) (sym s) (subst (λ us. AllZip R us (ys ++ (y ∷ []))) (sym (take_more xs i d l)) (zip_push R (take i xs) ys (get_or xs i d) y z r))

pub zip_none : {A B : Type 0} (R : A → B → Type 0) (xs : List A) → AllZip R (take 0 xs) []
zip_none R [] = tt
zip_none R (x ∷ xs) = tt

pub zip_end : {A B : Type 0} (R : A → B → Type 0) (xs : List A) (ys : List B) (i : ℕ) → length xs ≤ i → AllZip R (take i xs) ys → AllZip R xs ys
zip_end R xs ys i l z = subst (λ (us : List _). AllZip R us ys) (take_all i xs l) z

pub class_refl : (ps : List Pair) (x : Vector) → AreOneClass ps x x
class_refl [] x = tt
class_refl (p ∷ ps) x = ((pos 0, omega (arith, ints)), class_refl ps x)

module _ (sides forms : List Vector) (s : IsFullSimplex sides forms) (i : ℕ) (l : i < length sides) where
  here : Pair
  here = pair_of (get_or forms i []) (get_or sides i [])

  long : i < length (paired forms sides)
  long = omega (arith, l, length-paired forms sides s.one_each)

  is_here : get_or (paired forms sides) i here ≡ here
  unfolding here
  is_here = pair_at forms sides i here s.one_each l

  widths_here : HasWidths (length sides) (pair_of (get_or forms i []) (get_or sides i []))
  unfolding here
  widths_here = subst (HasWidths (length sides)) is_here (each_at (HasWidths (length sides)) (paired forms sides) i here s.dual.widths long)

  pub side_width : length (get_or sides i []) ≡ length sides
  side_width = widths_here.vector_width

  pub form_width : length (get_or forms i []) ≡ length sides
  form_width = widths_here.form_width

  pub divisor_positive : pos 0 <ℤ dot (get_or forms i []) (get_or sides i [])
  unfolding here
  divisor_positive = subst (λ (p : Pair). pos 0 <ℤ divisor p) is_here (positive (paired forms sides) i here s.dual.dual long)
    where
      positive : (qs : List Pair) (j : ℕ) (d : Pair) → IsDual qs → j < length qs → pos 0 <ℤ divisor (get_or qs j d)
      positive [] j d h m = absurd (omega (arith, m))
      positive (q ∷ qs) zero d h m = h.0
      positive (q ∷ qs) (suc j) d h m = positive qs j d h.2 (omega (arith, m))

  pub divisor_at : (d : ℤ) → get_or (map divisor (paired forms sides)) i d ≡ dot (get_or forms i []) (get_or sides i [])
  unfolding here
  divisor_at d = get_or-map divisor (paired forms sides) i here d long ∙ ap divisor is_here

  pub value_at : (x : Vector) → entry (values_at forms x) i ≡ dot (get_or forms i []) x
  value_at x = get_or-map (λ f. dot f x) forms i [] (pos 0) (omega (arith, l, s.one_each))

  pub reduced_at : (x : Vector) → HasReducedValues (paired forms sides) x → (pos 0 ≤ℤ dot (get_or forms i []) x) × (dot (get_or forms i []) x <ℤ dot (get_or forms i []) (get_or sides i []))
  unfolding here
  reduced_at x r = subst (λ (p : Pair). (pos 0 ≤ℤ dot p.form x) × (dot p.form x <ℤ divisor p)) is_here (each_at (λ p. (pos 0 ≤ℤ dot p.form x) × (dot p.form x <ℤ divisor p)) (paired forms sides) i here r long)

module _ (sides forms : List Vector) (s : IsFullSimplex sides forms) where
  pub sides_wide : Each (HasWidth (length sides)) sides
  sides_wide = subst (Each (HasWidth (length sides))) (vectors-paired forms sides s.one_each) (widths_of_vectors (length sides) (paired forms sides) s.dual.widths)

  pub forms_wide : Each (HasWidth (length sides)) forms
  forms_wide = from forms sides s.one_each s.dual.widths
    where
      from : (fs vs : List Vector) → length fs ≡ length vs → Each (HasWidths (length sides)) (paired fs vs) → Each (HasWidth (length sides)) fs
      from [] vs l h = tt
      from (f ∷ fs) [] l h = absurd (omega (arith, l))
      from (f ∷ fs) (v ∷ vs) l h = (h.0.form_width, from fs vs (omega (arith, l)) h.1)

  pub divisors_above : (divisors : List ℤ) → divisors ≡ map divisor (paired forms sides) → Each (λ d. pos 0 <ℤ d) divisors
  divisors_above divisors e = subst (Each (λ d. pos 0 <ℤ d)) (sym e) (from (paired forms sides) s.dual.dual)
    where
      from : (ps : List Pair) → IsDual ps → Each (λ d. pos 0 <ℤ d) (map divisor ps)
      from [] h = tt
      from (p ∷ ps) h = (h.0, from ps h.2)

  pub divisors_long : (divisors : List ℤ) → divisors ≡ map divisor (paired forms sides) → length divisors ≡ length sides
  divisors_long divisors e = ap length e ∙ length-map (paired forms sides) divisor ∙ length-paired forms sides s.one_each

  -- a vector less the sides, each taken as often as the floor says, is the point of its class
  pub rest_of_floors : (x : Vector) (floors : List ℤ) → HasWidth (length sides) x → AllZip (λ (p : Pair) q. IsFloor (divisor p) (dot p.form x) q) (paired forms sides) floors → IsRestOf (length sides) (paired forms sides) x (minus x (combination (length sides) floors sides))
  rest_of_floors x floors lx z =
      let w = length sides in
      let ps = paired forms sides in
      let long : length floors ≡ length ps = AllZip-long (λ (p : Pair) q. IsFloor (divisor p) (dot p.form x) q) ps floors z in
      subst (λ (vs : List Vector). IsRestOf w ps x (minus x (combination w floors vs))) (vectors-paired forms sides s.one_each)
      (let t = combination w floors (map (λ (p : Pair). p.vector) ps) in
      let lt : HasWidth w t = length-combination w floors (map (λ (p : Pair). p.vector) ps) (widths_of_vectors w ps s.dual.widths) in
      record {
        width = length-minus x t (lx ∙ sym lt) ∙ lx;
        reduced = floor_rest w ps floors x lx s.dual long z;
        one_class = zip_left (λ (p : Pair) q. dot p.form t ≡ q *ℤ divisor p) (λ p. IsMultipleOf (divisor p) (dot p.form (minus x t) -ℤ dot p.form x)) ps floors
            (λ p q e. (neg_ℤ q, omega (arith, sums, dot-minus p.form x t (lx ∙ sym lt), e, neg-mul q (divisor p))))
            (values_at_combination w ps floors long s.dual.widths s.dual.dual);
      })

  -- the quotients at a column are the floors of the unit vector
  pub floors_of_quotients : (divisors : List ℤ) (column : ℕ) (floors : List ℤ) → divisors ≡ map divisor (paired forms sides) → AreQuotients forms divisors column floors → AllZip (λ (p : Pair) q. IsFloor (divisor p) (dot p.form (unit_at (length sides) column)) q) (paired forms sides) floors
  floors_of_quotients divisors column floors e h =
      let w = length sides in
      let none = pair_of [] [] in
      zip_from _ (paired forms sides) floors none (pos 0) (length-paired forms sides s.one_each ∙ sym (h.one_each ∙ s.one_each))
      (λ i l.
      let m : i < length sides = omega (arith, l, length-paired forms sides s.one_each) in
      let f = get_or forms i [] in
      let v = get_or sides i [] in
      let k = h.each i (omega (arith, m, s.one_each)) in
      let d : entry divisors i ≡ dot f v = ap (λ (ds : List ℤ). entry ds i) e ∙ divisor_at sides forms s i m (pos 0) in
      let a : dot f (unit_at w column) ≡ entry f column = dot-unit_at w column f (form_width sides forms s i m) in
      let b = k.above (subst (λ (t : ℤ). pos 0 <ℤ t) (sym d) (divisor_positive sides forms s i m)) in
      let c = subst (λ (t : ℤ). ((entry floors i *ℤ t) ≤ℤ entry f column) × (entry f column <ℤ ((entry floors i +ℤ pos 1) *ℤ t))) d b in
      subst (λ (p : Pair). IsFloor (divisor p) (dot p.form (unit_at w column)) (entry floors i)) (sym (pair_at forms sides i none s.one_each m))
      (subst (λ (t : ℤ). IsFloor (dot f v) t (entry floors i)) (sym a) (record { at_most = c.0; above = c.1 })))

  floor_of_carry : (a b d k : ℤ) → (pos 0 ≤ℤ a) × (a <ℤ d) → (pos 0 ≤ℤ b) × (b <ℤ d) → IsCarry (a +ℤ b) d k → IsFloor d (a +ℤ b) (neg_ℤ k)
  floor_of_carry a b d k p q (inl (h, e)) = subst (λ (t : ℤ). IsFloor d (a +ℤ b) (neg_ℤ t)) (sym e) (let i = p.1 in let j = q.1 in record { at_most = omega (arith, sums, h, one-mul d); above = omega (arith, sums, i, j, two-mul d) })
  floor_of_carry a b d k p q (inr (h, e)) = subst (λ (t : ℤ). IsFloor d (a +ℤ b) (neg_ℤ t)) (sym e) (let i = p.0 in let j = q.0 in record { at_most = omega (arith, ints, i, j); above = omega (arith, sums, h, one-mul d) })

  -- the carries are the opposites of the floors of a sum of two points
  pub floors_of_carries : (divisors : List ℤ) (x y : Vector) (carries : List ℤ) → divisors ≡ map divisor (paired forms sides) → HasWidth (length sides) x → HasWidth (length sides) y → HasReducedValues (paired forms sides) x → HasReducedValues (paired forms sides) y → AreCarries (values_at forms x) (values_at forms y) divisors carries → AllZip (λ (p : Pair) q. IsFloor (divisor p) (dot p.form (plus x y)) q) (paired forms sides) (opposite carries)
  floors_of_carries divisors x y carries e lx ly rx ry h =
      let w = length sides in
      let none = pair_of [] [] in
      let lv : length (values_at forms x) ≡ length sides = length-map forms (λ f. dot f x) ∙ s.one_each in
      let lc : length carries ≡ length sides = h.one_each ∙ lv in
      zip_from _ (paired forms sides) (opposite carries) none (pos 0) (length-paired forms sides s.one_each ∙ sym (length-map carries neg_ℤ ∙ lc))
      (λ i l.
      let m : i < length sides = omega (arith, l, length-paired forms sides s.one_each) in
      let f = get_or forms i [] in
      let v = get_or sides i [] in
      let k = h.each i (omega (arith, m, lv)) in
      let d : entry divisors i ≡ dot f v = ap (λ (ds : List ℤ). entry ds i) e ∙ divisor_at sides forms s i m (pos 0) in
      let a = value_at sides forms s i m x in
      let b = value_at sides forms s i m y in
      let k2 : IsCarry (dot f x +ℤ dot f y) (dot f v) (entry carries i) = subst (λ (t : ℤ). IsCarry t (dot f v) (entry carries i)) (ap (λ (t : ℤ). t +ℤ entry (values_at forms y) i) a ∙ ap (λ (t : ℤ). dot f x +ℤ t) b) (subst (λ (t : ℤ). IsCarry (entry (values_at forms x) i +ℤ entry (values_at forms y) i) t (entry carries i)) d k) in
      let o : entry (opposite carries) i ≡ neg_ℤ (entry carries i) = get_or-map neg_ℤ carries i (pos 0) (pos 0) (omega (arith, m, lc)) in
      subst (λ (p : Pair). IsFloor (divisor p) (dot p.form (plus x y)) (entry (opposite carries) i)) (sym (pair_at forms sides i none s.one_each m))
      (subst (λ (t : ℤ). IsFloor (dot f v) t (entry (opposite carries) i)) (sym (dot-plus w f x y lx ly))
      (subst (λ (t : ℤ). IsFloor (dot f v) (dot f x +ℤ dot f y) t) (sym o) (floor_of_carry (dot f x) (dot f y) (dot f v) (entry carries i) (reduced_at sides forms s i m x rx) (reduced_at sides forms s i m y ry) k2))))

  -- a step by the point of a unit vector is one by the unit vector
  pub rest_of_unit : (x u r y : Vector) → HasWidth (length sides) x → HasWidth (length sides) u → IsRestOf (length sides) (paired forms sides) u r → IsRestOf (length sides) (paired forms sides) (plus x r) y → IsRestOf (length sides) (paired forms sides) (plus x u) y
  rest_of_unit x u r y lx lu hr hy =
      let w = length sides in
      let ps = paired forms sides in
      let c = class_plus w ps r u x hr.width lu lx hr.one_class in
      let d = subst (λ (v : Vector). AreOneClass ps v (plus x u)) (plus_comm r x) (subst (AreOneClass ps (plus r x)) (plus_comm u x) c) in
      record { width = hy.width; reduced = hy.reduced; one_class = class_trans ps y (plus x r) (plus x u) hy.one_class d }
