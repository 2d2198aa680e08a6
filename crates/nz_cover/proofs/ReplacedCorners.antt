-- The corners of a replaced simplex: in order, with the forms that it is to have.
use Rattle.std.proofs.Common.{◌≡◌, ◌≢◌, ◌⊎◌, inl, inr, ℕ, zero, suc, ◌<◌, List, [], ◌∷◌, ◌++◌, length, take, drop, get_or, ℤ, pos, neg_ℤ, ◌*ℤ◌, ◌<ℤ◌, refl, sym, ap, ◌∙◌, subst, arith}
use Rattle.std.proofs.lemmas.List.{map-append}
use Rattle.std.proofs.Math.IntN.{*ℤ-zero}
use Rattle.std.specs.List.{AllByRecursion as Each, AllZip, Contains}
use Rattle.nz_spec.specs.Vectors.{Vector, dot, opposite, HasWidth}
use Rattle.nz_spec.proofs.EquationLaws.{dot_comm}
use Rattle.nz_spec.proofs.VectorLaws.{dot-IsZero}
use Rattle.nz_spec.proofs.ListLaws.{contains_here, contains_there}
use Rattle.nz_linear.specs.Cones.{meet}
use Rattle.nz_linear.specs.DualPairs.{Pair, pair_of, divisor, HasWidths}
use Rattle.nz_linear.proofs.DualPairs.{divisors_positive}
use Rattle.nz_linear.proofs.Lists.{each_map, each_insert, map_each}
use Rattle.nz_linear.proofs.Ring.{sums}
use Rattle.nz_linear.proofs.Signs.{mul_pos}
use Rattle.nz_range.specs.Measures.{measure, AreLargeFor}
use Rattle.nz_cover.specs.Cells.{IsCell}
use Rattle.nz_cover.specs.Steps.{IsTilted}
use Rattle.nz_cover.specs.Corners.{Vertex, vertex, places_of, pairs_of, AreInOrder, without, IsBetween, IsTiltedAt, IsReplacedAt}
use Rattle.nz_cover.proofs.CornerLemmas.{without_is, split_at, take_and_drop, each_without, pairwise_without}
use Rattle.nz_cover.proofs.ReplacedCells.{on_facet}
use Rattle.nz_cover.proofs.StepCovers.{meet_form}

-- ---- where a place stands
later : (place i : ℕ) (cell : List Vertex) (d : Vertex) → AreInOrder cell → i < length cell → place < (get_or cell i d).place → Each (λ u. place < u.place) (drop i cell)
later place zero [] d o l p = tt
later place (suc i) [] d o l p = tt
later place zero (x ∷ cell) d o l p = (p, each_map (λ (u : Vertex). x.place < u.place) (λ (u : Vertex). place < u.place) cell (λ u h. omega arith) o.0)
later place (suc i) (x ∷ cell) d o l p = later place i cell d o.1 (omega arith) p

pub between_here : (place i : ℕ) (cell : List Vertex) (u : Vertex) (at : ℕ) (form : Vector) → AreInOrder cell → i < length cell → vertex at form ≡ u → u ≡ get_or cell i u → place < at → Each (λ v. v.place < place) (take i cell) → IsBetween place cell i
between_here place i cell u at form o l s is p b =
    let e : at ≡ (get_or cell i u).place = ap (λ (v : Vertex). v.place) (s ∙ is) in
    record { within = omega arith; before = b; after = later place i cell u o l (subst (λ (n : ℕ). place < n) e p) }

-- ---- in order with one more
insert_in_order : (k : ℕ) (ts : List Vertex) (v : Vertex) → AreInOrder ts → Each (λ u. u.place < v.place) (take k ts) → Each (λ u. v.place < u.place) (drop k ts) → AreInOrder (take k ts ++ v ∷ drop k ts)
insert_in_order zero ts v o b a = (a, o)
insert_in_order (suc k) [] v o b a = (tt, tt)
insert_in_order (suc k) (x ∷ ts) v o b a = (
  each_insert (λ (u : Vertex). x.place < u.place) v (take k ts) (drop k ts) (b.0, subst (Each (λ (u : Vertex). x.place < u.place)) (sym (take_and_drop k ts)) o.0),
  insert_in_order k ts v o.1 b.1 a,
)

tilted_after : (ray facet : Vector) (n m : ℕ) (us ts : List Vertex) → m ≡ n → AllZip (IsTiltedAt ray facet) us ts → Each (λ u. n < u.place) us → Each (λ u. m < u.place) ts
tilted_after ray facet n m [] [] e z h = tt
tilted_after ray facet n m [] (t ∷ ts) e z h = absurd z
tilted_after ray facet n m (u ∷ us) [] e z h = absurd z
tilted_after ray facet n m (u ∷ us) (t ∷ ts) e z h = ((let s = z.0.same_place in let q = h.0 in omega arith), tilted_after ray facet n m us ts e z.1 h.1)

pub tilted_in_order : (ray facet : Vector) (us ts : List Vertex) → AllZip (IsTiltedAt ray facet) us ts → AreInOrder us → AreInOrder ts
tilted_in_order ray facet [] [] z o = tt
tilted_in_order ray facet [] (t ∷ ts) z o = absurd z
tilted_in_order ray facet (u ∷ us) [] z o = absurd z
tilted_in_order ray facet (u ∷ us) (t ∷ ts) z o = (tilted_after ray facet u.place t.place us ts z.0.same_place z.1 o.0, tilted_in_order ray facet us ts z.1 o.1)

pub tilted_fresh : (ray facet : Vector) (place : ℕ) (us ts : List Vertex) → AllZip (IsTiltedAt ray facet) us ts → Each (λ u. u.place ≢ place) us → Each (λ u. u.place ≢ place) ts
tilted_fresh ray facet place [] [] z o = tt
tilted_fresh ray facet place [] (t ∷ ts) z o = absurd z
tilted_fresh ray facet place (u ∷ us) [] z o = absurd z
tilted_fresh ray facet place (u ∷ us) (t ∷ ts) z o = ((λ e. o.0 (sym z.0.same_place ∙ e)), tilted_fresh ray facet place us ts z.1 o.1)

tilted_places : (ray facet : Vector) (ps : List ℕ) (us ts : List Vertex) → AllZip (IsTiltedAt ray facet) us ts → Each (λ u. Contains ps u.place) us → Each (λ u. Contains ps u.place) ts
tilted_places ray facet ps [] [] z o = tt
tilted_places ray facet ps [] (t ∷ ts) z o = absurd z
tilted_places ray facet ps (u ∷ us) [] z o = absurd z
tilted_places ray facet ps (u ∷ us) (t ∷ ts) z o = (subst (Contains ps) (sym z.0.same_place) o.0, tilted_places ray facet ps us ts z.1 o.1)

own_places : (cell : List Vertex) → Each (λ u. Contains (places_of cell) u.place) cell
own_places [] = tt
own_places (u ∷ cell) = (contains_here u.place (places_of cell), each_map (λ (v : Vertex). Contains (places_of cell) v.place) (λ (v : Vertex). Contains (places_of (u ∷ cell)) v.place) cell (λ v k. contains_there u.place v.place (places_of cell) k) (own_places cell))

-- ---- the pairs
module _ (w : ℕ) (rays : List Vector) (facet ray : Vector) (lf : HasWidth w facet) (seen : dot facet ray <ℤ pos 0) where
  tilted_form : (u t : Vertex) → HasWidths w (pair_of u.form (get_or rays u.place [])) → dot facet (get_or rays u.place []) ≡ pos 0 → pos 0 <ℤ dot u.form (get_or rays u.place []) → IsTiltedAt ray facet u t → IsTilted facet ray (pair_of u.form (get_or rays u.place [])) (pair_of t.form (get_or rays t.place []))
  tilted_form u t l e p i =
      let v = get_or rays u.place [] in
      record {
        same_vector = ap (λ n. get_or rays n []) i.same_place;
        form = record {
          factor = i.form.divisor;
          positive = (let h = i.form.positive in omega (arith, sums));
          same = sym i.form.whole;
          primitive = i.form.primitive (λ z.
              let a = meet_form w ray u.form facet v l.form_width lf in
              let b = dot_comm (meet ray u.form facet) v ∙ dot-IsZero v (meet ray u.form facet) z in
              let m = mul_pos (neg_ℤ (dot facet ray)) (dot u.form v) (omega (arith, sums)) p in
              let n = ap (λ y. dot u.form ray *ℤ y) e in
              omega (arith, sums, a, b, m, n, *ℤ-zero (dot u.form ray)));
        };
      }

  tilted_pairs : (us ts : List Vertex) → Each (HasWidths w) (pairs_of rays us) → Each (λ (p : Pair). dot facet p.vector ≡ pos 0) (pairs_of rays us) → Each (λ (p : Pair). pos 0 <ℤ divisor p) (pairs_of rays us) → AllZip (IsTiltedAt ray facet) us ts → AllZip (IsTilted facet ray) (pairs_of rays us) (pairs_of rays ts)
  tilted_pairs [] [] l e d z = tt
  tilted_pairs [] (t ∷ ts) l e d z = absurd z
  tilted_pairs (u ∷ us) [] l e d z = absurd z
  tilted_pairs (u ∷ us) (t ∷ ts) l e d z = (tilted_form u t l.0 e.0 d.0 z.0, tilted_pairs us ts l.1 e.1 d.1 z.1)

-- the whole
pub replaced_is : (w : ℕ) (rays : List Vector) (place j k : ℕ) (facet : Vector) (old ts new : List Vertex) (d : Vertex) → IsCell w (pairs_of rays old) → dot facet (get_or rays place []) <ℤ pos 0 → j < length old → (get_or old j d).form ≡ facet → AreInOrder old
    → AllZip (IsTiltedAt (get_or rays place []) facet) (without j old) ts → IsBetween place ts k → new ≡ take k ts ++ vertex place (opposite facet) ∷ drop k ts → IsReplacedAt rays place facet (get_or rays place []) old new
replaced_is w rays place j k facet old ts new d cell seen l e o z b is =
    let ray = get_or rays place [] in
    let u = get_or old j d in
    let f = λ (v : Vertex). pair_of v.form (get_or rays v.place []) in
    let split : pairs_of rays old ≡ pairs_of rays (take j old) ++ f u ∷ pairs_of rays (drop (suc j) old) = ap (pairs_of rays) (split_at j old d l) ∙ map-append f (take j old) (u ∷ drop (suc j) old) in
    let on = on_facet w facet (pairs_of rays old) (pairs_of rays (take j old)) (pairs_of rays (drop (suc j) old)) (f u) cell.dual split e in
    let lf : HasWidth w facet = subst (HasWidth w) e on.widths.form_width in
    let left : pairs_of rays (without j old) ≡ pairs_of rays (take j old) ++ pairs_of rays (drop (suc j) old) = ap (pairs_of rays) (without_is j old) ∙ map-append f (take j old) (drop (suc j) old) in
    let right : pairs_of rays ts ≡ pairs_of rays (take k ts) ++ pairs_of rays (drop k ts) = ap (pairs_of rays) (sym (take_and_drop k ts)) ∙ map-append f (take k ts) (drop k ts) in
    let pairs = tilted_pairs w rays facet ray lf seen (without j old) ts (subst (Each (HasWidths w)) (sym left) on.other_widths) (subst (Each (λ (p : Pair). dot facet p.vector ≡ pos 0)) (sym left) on.on) (subst (Each (λ (p : Pair). pos 0 <ℤ divisor p)) (sym left) (divisors_positive _ on.dual)) z in
    let others = tilted_places ray facet (places_of old) (without j old) ts z (each_without (λ (v : Vertex). Contains (places_of old) v.place) j old (own_places old)) in
    let tagged : Each (λ (v : Vertex). (v.place ≡ place) ⊎ Contains (places_of old) v.place) (take k ts ++ drop k ts) = subst (Each (λ (v : Vertex). (v.place ≡ place) ⊎ Contains (places_of old) v.place)) (sym (take_and_drop k ts)) (each_map (λ (v : Vertex). Contains (places_of old) v.place) (λ (v : Vertex). (v.place ≡ place) ⊎ Contains (places_of old) v.place) ts (λ v h. inr h) others) in
    record {
      replaced = record {
        before = pairs_of rays (take j old);
        across = f u;
        after = pairs_of rays (drop (suc j) old);
        split = split;
        is_facet = e;
        first = pairs_of rays (take k ts);
        last = pairs_of rays (drop k ts);
        whole = ap (pairs_of rays) is ∙ map-append f (take k ts) (vertex place (opposite facet) ∷ drop k ts);
        tilted = subst (λ (x : List Pair). AllZip (IsTilted facet ray) x (pairs_of rays (take k ts) ++ pairs_of rays (drop k ts))) left (subst (AllZip (IsTilted facet ray) (pairs_of rays (without j old))) right pairs);
      };
      in_order = subst AreInOrder (sym is) (insert_in_order k ts (vertex place (opposite facet)) (tilted_in_order ray facet (without j old) ts z (pairwise_without (λ (x y : Vertex). x.place < y.place) j old o)) b.before b.after);
      places = subst (Each (λ (v : Vertex). (v.place ≡ place) ⊎ Contains (places_of old) v.place)) (sym is) (each_insert (λ (v : Vertex). (v.place ≡ place) ⊎ Contains (places_of old) v.place) (vertex place (opposite facet)) (take k ts) (drop k ts) (inl refl, tagged));
    }

-- ---- the forms
pub forms_width : (w : ℕ) (rays : List Vector) (cell : List Vertex) → IsCell w (pairs_of rays cell) → Each (λ u. HasWidth w u.form) cell
forms_width w rays cell k = each_map (λ (u : Vertex). HasWidths w (pair_of u.form (get_or rays u.place []))) (λ (u : Vertex). HasWidth w u.form) cell (λ u h. h.form_width) (map_each (λ (u : Vertex). pair_of u.form (get_or rays u.place [])) (HasWidths w) cell k.dual.widths)

pub form_widths_at : (w : ℕ) (rays : List Vector) (cell : List Vertex) (x y : Vector) → x ≡ y → length y ≡ w → IsCell w (pairs_of rays cell) → Each (λ u. HasWidth (length x) u.form) cell
form_widths_at w rays cell x y e l k = subst (λ (m : ℕ). Each (λ (u : Vertex). HasWidth m u.form) cell) (sym (ap length e ∙ l)) (forms_width w rays cell k)

pub inserted : (ts new : List Vertex) (k place : ℕ) (form facet : Vector) → form ≡ opposite facet → new ≡ take k ts ++ vertex place form ∷ drop k ts → new ≡ take k ts ++ vertex place (opposite facet) ∷ drop k ts
inserted ts new k place form facet e n = n ∙ ap (λ (f : Vector). take k ts ++ vertex place f ∷ drop k ts) e

pub large_facet : (h : ℤ) (ray facet : Vector) (forms : List Vector) → h <ℤ pos (measure facet) → AreLargeFor h ray (facet ∷ forms)
large_facet h ray facet forms l = inl (record { vector = facet; named = contains_here facet forms; large = l })
