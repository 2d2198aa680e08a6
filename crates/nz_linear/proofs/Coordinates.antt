-- Lines, irreducible elements and extreme generators in coordinates are those of the set.
use Rattle.std.proofs.Common.{◌↔◌, ◌≡◌, ℕ, List, [], ◌∷◌, length, map, ℤ, pos, negsuc, ◌≤ℤ◌, refl, sym, ap, ap₂, ◌∙◌, subst, arith}
use Rattle.std.proofs.lemmas.Int.{ints}
use Rattle.std.specs.List.{AllByRecursion as Each}
use Rattle.nz_spec.specs.Vectors.{Vector, dot, plus, scaled, opposite, zero_vector, combination, HasWidth, IsZero}
use Rattle.nz_spec.specs.Sums.{IsIndependent, IsInGroup}
use Rattle.nz_spec.specs.Monoids.{IsLine, IsPositive, IsIrreducible, IsAlong, IsExtreme}
use Rattle.nz_spec.specs.Stages.{IsInStage}
use Rattle.nz_spec.proofs.EquationLaws.{dot_comm}
use Rattle.nz_spec.proofs.SumLaws.{combination-plus, combination-scaled, combination-zeros, length-combination, dot-combination}
use Rattle.nz_spec.proofs.VectorLaws.{IsZero-zero_vector, zero_vector_of, plus-opposite, plus_comm, length-opposite}
use Rattle.nz_linear.specs.Cones.{IsInRows}
use Rattle.nz_linear.specs.Coordinates.{AreCoordinates, in_coordinates}
use Rattle.nz_linear.proofs.Lists.{each_map, map_each, each_of_map}
use Rattle.nz_linear.proofs.VectorLaws.{length-plus, length-scaled, cons_same, cancel_plus}

minus_one : (x : Vector) → scaled (negsuc 0) x ≡ opposite x
minus_one [] = refl
minus_one (a ∷ x) = cons_same (omega (arith, ints)) (minus_one x)

module _ (w : ℕ) (base : List Vector) (Member Coordinates : Vector → Type 0) (k : AreCoordinates w base Member Coordinates) where
  -- the vector with these coordinates
  abbrev at : Vector → Vector
  at c = combination w c base

  at_plus : (c d : Vector) → length c ≡ length base → length d ≡ length base → at (plus c d) ≡ plus (at c) (at d)
  at_plus c d l m = combination-plus w c d base (l ∙ sym m)

  at_scaled : (t : ℤ) (c : Vector) → at (scaled t c) ≡ scaled t (at c)
  at_scaled t c = combination-scaled w t c base

  at_zero : (c : Vector) → length c ≡ length base → IsZero c → IsZero (at c)
  at_zero c l z = subst IsZero (sym (ap at (zero_vector_of c z ∙ ap zero_vector l) ∙ combination-zeros w base k.widths)) (IsZero-zero_vector w)

  pub zero_at : (c : Vector) → length c ≡ length base → IsZero (at c) → IsZero c
  zero_at c l z = k.independent c l z

  -- coordinates are unique
  pub same_coordinates : (c d : Vector) → length c ≡ length base → length d ≡ length base → at c ≡ at d → c ≡ d
  same_coordinates c d l m e =
      let n = length base in
      let u = plus c (scaled (negsuc 0) d) in
      let ld : length (scaled (negsuc 0) d) ≡ n = length-scaled n (negsuc 0) d m in
      let lu : length u ≡ n = length-plus n c (scaled (negsuc 0) d) l ld in
      let s : at u ≡ zero_vector w = at_plus c (scaled (negsuc 0) d) l ld ∙ ap₂ plus e (at_scaled (negsuc 0) d) ∙ ap (plus (at d)) (minus_one (at d)) ∙ plus-opposite (at d) ∙ ap zero_vector (length-combination w d base k.widths) in
      let z = zero_at u lu (subst IsZero (sym s) (IsZero-zero_vector w)) in
      let v : plus c (scaled (negsuc 0) d) ≡ plus d (scaled (negsuc 0) d) = zero_vector_of u z ∙ ap zero_vector lu ∙ sym (ap (plus d) (minus_one d) ∙ plus-opposite d ∙ ap zero_vector m) in
      cancel_plus n (scaled (negsuc 0) d) c d ld l m (plus_comm (scaled (negsuc 0) d) c ∙ v ∙ plus_comm d (scaled (negsuc 0) d))

  -- a vector is a member just where its coordinates are
  pub back_at : (c : Vector) → length c ≡ length base → Member (at c) → Coordinates c
  back_at c l m =
      let r = k.back (at c) m in
      subst Coordinates (same_coordinates r.0 c (k.one_each r.0 r.1) l r.2) r.1

  -- ---- irreducible elements
  pub irreducible_forth : (c : Vector) → IsIrreducible Coordinates c → IsIrreducible Member (at c)
  irreducible_forth c i =
      let lc = k.one_each c i.member in
      record {
        member = k.forth c i.member;
        nonzero = λ z. i.nonzero (zero_at c lc z);
        no_sum = λ y z my ny mz nz e.
            let a = k.back y my in
            let b = k.back z mz in
            let la = k.one_each a.0 a.1 in
            let lb = k.one_each b.0 b.1 in
            let s : plus a.0 b.0 ≡ c = same_coordinates (plus a.0 b.0) c (length-plus (length base) a.0 b.0 la lb) lc (at_plus a.0 b.0 la lb ∙ ap₂ plus a.2 b.2 ∙ e) in
            i.no_sum a.0 b.0 a.1 (λ o. ny (subst IsZero a.2 (at_zero a.0 la o))) b.1 (λ o. nz (subst IsZero b.2 (at_zero b.0 lb o))) s;
      }

  pub irreducible_back : (c : Vector) → length c ≡ length base → IsIrreducible Member (at c) → IsIrreducible Coordinates c
  irreducible_back c l i = record {
    member = back_at c l i.member;
    nonzero = λ z. i.nonzero (at_zero c l z);
    no_sum = λ a b ma na mb nb e.
        let la = k.one_each a ma in
        let lb = k.one_each b mb in
        i.no_sum (at a) (at b) (k.forth a ma) (λ o. na (zero_at a la o)) (k.forth b mb) (λ o. nb (zero_at b lb o)) (sym (at_plus a b la lb) ∙ ap at e);
  }

  -- ---- extreme generators
  along_forth : (c a : Vector) → IsAlong c a → IsAlong (at c) (at a)
  along_forth c a r = record { multiple = r.multiple; factor = r.factor; positive = r.positive; same = sym (at_scaled r.multiple a) ∙ ap at r.same ∙ at_scaled r.factor c }

  along_back : (c a : Vector) → length c ≡ length base → length a ≡ length base → IsAlong (at c) (at a) → IsAlong c a
  along_back c a l m r = record {
    multiple = r.multiple;
    factor = r.factor;
    positive = r.positive;
    same = same_coordinates (scaled r.multiple a) (scaled r.factor c) (length-scaled (length base) r.multiple a m) (length-scaled (length base) r.factor c l) (at_scaled r.multiple a ∙ r.same ∙ sym (at_scaled r.factor c));
  }

  pub extreme_forth : (c : Vector) → IsExtreme Coordinates c → IsExtreme Member (at c)
  extreme_forth c x =
      let lc = k.one_each c x.irreducible.member in
      record {
        irreducible = irreducible_forth c x.irreducible;
        splits_along = λ m y z pm my mz e.
            let a = k.back y my in
            let b = k.back z mz in
            let la = k.one_each a.0 a.1 in
            let lb = k.one_each b.0 b.1 in
            let s : plus a.0 b.0 ≡ scaled m c = same_coordinates (plus a.0 b.0) (scaled m c) (length-plus (length base) a.0 b.0 la lb) (length-scaled (length base) m c lc) (at_plus a.0 b.0 la lb ∙ ap₂ plus a.2 b.2 ∙ e ∙ sym (at_scaled m c)) in
            let r = x.splits_along m a.0 b.0 pm a.1 b.1 s in
            (subst (IsAlong (at c)) a.2 (along_forth c a.0 r.0), subst (IsAlong (at c)) b.2 (along_forth c b.0 r.1));
      }

  pub extreme_back : (c : Vector) → length c ≡ length base → IsExtreme Member (at c) → IsExtreme Coordinates c
  extreme_back c l x = record {
    irreducible = irreducible_back c l x.irreducible;
    splits_along = λ m a b pm ma mb e.
        let la = k.one_each a ma in
        let lb = k.one_each b mb in
        let r = x.splits_along m (at a) (at b) pm (k.forth a ma) (k.forth b mb) (sym (at_plus a b la lb) ∙ ap at e ∙ at_scaled m c) in
        (along_back c a l la r.0, along_back c b l lb r.1);
  }

  -- ---- lines
  at_opposite : (c : Vector) → at (opposite c) ≡ opposite (at c)
  at_opposite c = ap at (sym (minus_one c)) ∙ at_scaled (negsuc 0) c ∙ minus_one (at c)

  pub line_forth : (c : Vector) → IsLine Coordinates c → IsLine Member (at c)
  line_forth c i = record { nonzero = λ z. i.nonzero (zero_at c (k.one_each c i.forward) z); forward = k.forth c i.forward; backward = subst Member (at_opposite c) (k.forth (opposite c) i.backward) }

  pub line_back : (c : Vector) → length c ≡ length base → IsLine Member (at c) → IsLine Coordinates c
  line_back c l i = record {
    nonzero = λ z. i.nonzero (at_zero c l z);
    forward = back_at c l i.forward;
    backward = back_at (opposite c) (length-opposite c ∙ l) (subst Member (sym (at_opposite c)) i.backward);
  }

  pub positive_forth : IsPositive Coordinates → IsPositive Member
  positive_forth p v i =
      let r = k.back v i.forward in
      p r.0 (line_back r.0 (k.one_each r.0 r.1) (subst (IsLine Member) (sym r.2) i))

-- ---- the vectors of a group at which rows are at least 0
row_value : (w : ℕ) (base : List Vector) (r c : Vector) → Each (HasWidth w) base → dot r (combination w c base) ≡ dot (in_coordinates base r) c
row_value w base r c l = dot-combination r w c base l ∙ dot_comm c (in_coordinates base r)

-- the coordinates of a stage of the group of an independent base: the rows in coordinates are at least 0
pub stage_coordinates : (w : ℕ) (base rows : List Vector) → Each (HasWidth w) base → IsIndependent w base
    → AreCoordinates w base (IsInStage (IsInGroup w base) rows) (IsInRows (length base) (map (λ r. in_coordinates base r) rows))
stage_coordinates w base rows l free = record {
  widths = l;
  independent = free;
  one_each = λ c i. i.0;
  forth = λ c i. record {
    in_lattice = record { factors = c; one_each = i.0; same = refl };
    at_least = each_map (λ r. pos 0 ≤ℤ dot (in_coordinates base r) c) (λ r. pos 0 ≤ℤ dot r (combination w c base)) rows (λ r h. rw (row_value w base r c l) h) (map_each (λ r. in_coordinates base r) (λ f. pos 0 ≤ℤ dot f c) rows i.1);
  };
  back = λ x m.
      let g = m.in_lattice in (
        g.factors,
        (g.one_each, each_of_map (λ r. in_coordinates base r) (λ f. pos 0 ≤ℤ dot f g.factors) rows (each_map (λ r. pos 0 ≤ℤ dot r x) (λ r. pos 0 ≤ℤ dot (in_coordinates base r) g.factors) rows (λ r h. rw (← row_value w base r g.factors l) (subst (λ y. pos 0 ≤ℤ dot r y) (sym g.same) h)) m.at_least)),
        g.same,
      );
}

-- a set that is the same has the same coordinates
pub coordinates_where : (w : ℕ) (base : List Vector) (Member Other Coordinates : Vector → Type 0) → ((x : Vector) → Member x ↔ Other x) → AreCoordinates w base Member Coordinates → AreCoordinates w base Other Coordinates
coordinates_where w base Member Other Coordinates same k = record {
  widths = k.widths;
  independent = k.independent;
  one_each = k.one_each;
  forth = λ c i. (same (combination w c base)).0 (k.forth c i);
  back = λ x m. k.back x ((same x).1 m);
}
