-- The coordinates of a base through clearing and cuts.
use Rattle.std.proofs.Common.{◌≡◌, ◌≢◌, ◌⊎◌, inl, inr, ℕ, zero, suc, ◌+◌, ◌<◌, ◌≤◌, List, [], ◌∷◌, length, map, get_or, set, ℤ, pos, ◌*ℤ◌, ◌+ℤ◌, ◌-ℤ◌, neg_ℤ, ◌<ℤ◌, refl, sym, ap, ◌∙◌, subst, arith, get_or-set_same, get_or-set_other}
use Rattle.std.proofs.Math.IntN.{*ℤ-zero, zero-*ℤ, *ℤ_comm}
use Rattle.std.proofs.Math.ListN.{get_or-map, length-set}
use Rattle.std.proofs.lemmas.Bool.{cases_lt}
use Rattle.std.proofs.lemmas.List.{length-map, get_or-map as at_map}
use Rattle.std.proofs.lemmas.List.Edits.{length-insert, length-remove}
use Rattle.std.specs.List.{AllByRecursion as Each, AllZip, insert, remove}
use Rattle.nz_spec.specs.Vectors.{Vector, dot, plus, scaled, entry, combination, unit_vectors, HasWidth}
use Rattle.nz_spec.proofs.IntLaws.{mul_assoc}
use Rattle.nz_spec.proofs.EquationLaws.{column_cases}
use Rattle.nz_spec.proofs.SumLaws.{dot-combination}
use Rattle.nz_spec.proofs.VectorLaws.{dot-scaled}
use Rattle.nz_scalar.specs.Division.{IsFloorQuotient}
use Rattle.nz_scalar.proofs.FloorLemmas.{floor_unique}
use Rattle.nz_linear.proofs.Ring.{sums, ring_z, neg-mul, one-mul}
use Rattle.nz_linear.proofs.Signs.{cancel_mul, mul_pos, mul_is_pos}
use Rattle.nz_linear.proofs.VectorLaws.{length-plus, length-scaled, dot-plus, plus-dot, scaled-dot}
use Rattle.nz_linear.specs.Echelon.{unit_at}
use Rattle.nz_linear.proofs.Units.{length-unit_at, dot-unit_at, entry-unit_own, entry-unit_other}
use Rattle.nz_sweep.specs.Clearing.{Valued, vectors_of, values_of, IsReduced}
use Rattle.nz_sweep.specs.Duals.{Coordinate, unit_coordinate, coordinate_at, vector_at, AreDual, IsLowered, IsJoined, IsGathered}
use Rattle.nz_sweep.proofs.PlaceLemmas.{shift, shift_within, shift_apart, at_removed, at_inserted, own_inserted, others_inserted, map_inserted, put_back_at, each_of_places, single}
use Rattle.nz_vec.proofs.UnitLemmas.{length-unit_vectors, unit_vector_at}

abbrev no_value : Valued
no_value = record { vector = []; value = pos 0 }

abbrev no_coordinate : Coordinate
no_coordinate = record { form = []; divisor = pos 0 }

-- ---- values of lowered and joined forms
pub lowered_value : (form x : Vector) (divisor : ℤ) (c : Coordinate) (l : IsLowered form divisor c) → l.g *ℤ dot c.form x ≡ dot form x
lowered_value form x divisor c l = sym (scaled-dot l.g c.form x) ∙ ap (λ (t : Vector). dot t x) l.form_is

pub lowered_width : (w : ℕ) (form : Vector) (divisor : ℤ) (c : Coordinate) → HasWidth w form → IsLowered form divisor c → HasWidth w c.form
lowered_width w form divisor c h l = sym (length-map c.form (λ t. l.g *ℤ t)) ∙ ap length l.form_is ∙ h

pub joined_value : (w : ℕ) (q : ℤ) (own other c : Coordinate) (x : Vector) (j : IsJoined q own other c) → HasWidth w own.form → HasWidth w other.form → j.lowered.g *ℤ dot c.form x ≡ j.a *ℤ dot own.form x +ℤ (q *ℤ j.b) *ℤ dot other.form x
joined_value w q own other c x j lo lt =
    lowered_value (plus (scaled j.a own.form) (scaled (q *ℤ j.b) other.form)) x (j.a *ℤ own.divisor) c j.lowered
    ∙ plus-dot w (scaled j.a own.form) (scaled (q *ℤ j.b) other.form) x (length-scaled w j.a own.form lo) (length-scaled w (q *ℤ j.b) other.form lt)
    ∙ ap (λ t. t +ℤ dot (scaled (q *ℤ j.b) other.form) x) (scaled-dot j.a own.form x)
    ∙ ap (λ t. j.a *ℤ dot own.form x +ℤ t) (scaled-dot (q *ℤ j.b) other.form x)

-- ---- gathering
pub gathered_start : (w : ℕ) (vs : List Valued) (cs : List Coordinate) (place : ℕ) → AreDual w (vectors_of vs) cs → place < length vs → IsGathered w vs place 0 (coordinate_at cs place)
gathered_start w vs cs place d l =
    let n = length-map vs (λ (v : Valued). v.vector) in
    let inside : place < length (vectors_of vs) = omega (arith, n, l) in
    record {
      width = d.form_width place inside;
      positive = d.positive place inside;
      own = d.own place inside;
      seen = λ i h k a q f. absurd (omega (arith, h));
      unseen = λ i h k a. d.apart place i inside (omega (arith, n, k)) (λ e. a (sym e));
    }

below_more : (n k : ℕ) → k < n + 1 → (k < n) ⊎ (k ≡ n)
below_more n k l = elim (cases_lt k n) [
  | inl b ↦ inl b
  | inr g ↦ inr (omega (arith, g, l))
]

-- the own place is passed over
pub gathered_own : (w : ℕ) (vs : List Valued) (place n : ℕ) (c : Coordinate) → IsGathered w vs place n c → n ≡ place → IsGathered w vs place (n + 1) c
gathered_own w vs place n c g e = record {
  width = g.width;
  positive = g.positive;
  own = g.own;
  seen = λ i h k a q f. elim (below_more n i h) [
    | inl b ↦ g.seen i b k a q f
    | inr s ↦ absurd (a (s ∙ e))
  ];
  unseen = λ i h k a. g.unseen i (omega (arith, h)) k a;
}

floor_zero : (b q : ℤ) → b ≢ pos 0 → IsFloorQuotient (pos 0) b q → q ≡ pos 0
floor_zero b q n f = floor_unique (pos 0) b q (pos 0) n f (record { above = λ p. (omega (arith, sums, zero-*ℤ b), omega (arith, sums, one-mul b, p)); below = λ p. (omega (arith, sums, zero-*ℤ b), omega (arith, sums, one-mul b, p)) })

-- so is a vector with the value 0
pub gathered_zero : (w : ℕ) (vs : List Valued) (place n : ℕ) (c : Coordinate) → IsGathered w vs place n c → entry (values_of vs) place ≢ pos 0 → entry (values_of vs) n ≡ pos 0 → IsGathered w vs place (n + 1) c
gathered_zero w vs place n c g nz z = record {
  width = g.width;
  positive = g.positive;
  own = g.own;
  seen = λ i h k a q f. elim (below_more n i h) [
    | inl b ↦ g.seen i b k a q f
    | inr s ↦ here i s k a q f
  ];
  unseen = λ i h k a. g.unseen i (omega (arith, h)) k a;
}
  where
    here : (i : ℕ) → i ≡ n → i < length vs → i ≢ place → (q : ℤ) → IsFloorQuotient (entry (values_of vs) i) (entry (values_of vs) place) q → dot c.form (vector_at (vectors_of vs) i) ≡ q *ℤ c.divisor
    here i s k a q f =
        let e : q ≡ pos 0 = floor_zero (entry (values_of vs) place) q nz (subst (λ (t : ℤ). IsFloorQuotient t (entry (values_of vs) place) q) (ap (entry (values_of vs)) s ∙ z) f) in
        g.unseen i (omega (arith, s)) k a ∙ sym (ap (λ t. t *ℤ c.divisor) e ∙ zero-*ℤ c.divisor)

-- one vector more is reduced
pub gathered_joined : (w : ℕ) (vs : List Valued) (cs : List Coordinate) (place n : ℕ) (q : ℤ) (own c : Coordinate) → AreDual w (vectors_of vs) cs → place < length vs → n < length vs → n ≢ place → entry (values_of vs) place ≢ pos 0 → IsFloorQuotient (entry (values_of vs) n) (entry (values_of vs) place) q → IsGathered w vs place n own → IsJoined q own (coordinate_at cs n) c → IsGathered w vs place (n + 1) c
gathered_joined w vs cs place n q own c d lp ln a nz f g j = record {
  width = lowered_width w (plus (scaled j.a own.form) (scaled (q *ℤ j.b) other.form)) (j.a *ℤ own.divisor) c (length-plus w (scaled j.a own.form) (scaled (q *ℤ j.b) other.form) (length-scaled w j.a own.form g.width) (length-scaled w (q *ℤ j.b) other.form ow)) j.lowered;
  positive = mul_is_pos G c.divisor j.lowered.positive (subst (λ (t : ℤ). pos 0 <ℤ t) (sym j.lowered.divisor_is) (mul_pos j.a own.divisor j.factor g.positive));
  own = cancel_mul G (dot c.form (vector_at (vectors_of vs) place)) c.divisor j.lowered.positive
      (value (vector_at (vectors_of vs) place) ∙ own_ring (j.a) (dot own.form (vector_at (vectors_of vs) place)) own.divisor (q *ℤ j.b) (dot other.form (vector_at (vectors_of vs) place)) g.own (d.apart n place (inside n ln) (inside place lp) a) ∙ sym j.lowered.divisor_is);
  seen = λ i h k b r s. elim (below_more n i h) [
    | inl l ↦ (let x = vector_at (vectors_of vs) i in
        cancel_mul G (dot c.form x) (r *ℤ c.divisor) j.lowered.positive
        (value x ∙ seen_ring j.a (dot own.form x) own.divisor r (q *ℤ j.b) (dot other.form x) G c.divisor (g.seen i l k b r s) (d.apart n i (inside n ln) (inside i k) (λ e. omega (arith, e, l))) j.lowered.divisor_is))
    | inr e ↦ here i e r s
  ];
  unseen = λ i h k b. let x = vector_at (vectors_of vs) i in
      cancel_mul G (dot c.form x) (pos 0) j.lowered.positive
      (value x ∙ zero_ring j.a (dot own.form x) (q *ℤ j.b) (dot other.form x) (g.unseen i (omega (arith, h)) k b) (d.apart n i (inside n ln) (inside i k) (λ e. omega (arith, e, h))) ∙ sym (*ℤ-zero G));
}
  where
    other : Coordinate
    other = coordinate_at cs n

    G : ℤ
    G = j.lowered.g

    inside : (i : ℕ) → i < length vs → i < length (vectors_of vs)
    inside i l = let m = length-map vs (λ (v : Valued). v.vector) in omega (arith, m, l)

    ow : HasWidth w (coordinate_at cs n).form
    ow = d.form_width n (inside n ln)

    value : (x : Vector) → j.lowered.g *ℤ dot c.form x ≡ j.a *ℤ dot own.form x +ℤ (q *ℤ j.b) *ℤ dot (coordinate_at cs n).form x
    value x = joined_value w q own (coordinate_at cs n) c x j g.width ow

    own_ring : (a v e b u : ℤ) → v ≡ e → u ≡ pos 0 → a *ℤ v +ℤ b *ℤ u ≡ a *ℤ e
    own_ring a v e b u h k = let x = ap (λ t. a *ℤ t) h in let y = ap (λ t. b *ℤ t) k ∙ *ℤ-zero b in omega (arith, sums, x, y)

    seen_ring : (a v e r b u g f : ℤ) → v ≡ r *ℤ e → u ≡ pos 0 → g *ℤ f ≡ a *ℤ e → a *ℤ v +ℤ b *ℤ u ≡ g *ℤ (r *ℤ f)
    seen_ring a v e r b u g f h k l =
        let x = ap (λ t. a *ℤ t) h in let y = ap (λ t. b *ℤ t) k ∙ *ℤ-zero b in let z = ap (λ t. r *ℤ t) l in
        let x' : a *ℤ (r *ℤ e) ≡ r *ℤ (a *ℤ e) = simp ring_z (omega (arith, sums)) in
        let z' : g *ℤ (r *ℤ f) ≡ r *ℤ (g *ℤ f) = simp ring_z (omega (arith, sums)) in
        omega (arith, sums, x, y, z, x', z')

    zero_ring : (a v b u : ℤ) → v ≡ pos 0 → u ≡ pos 0 → a *ℤ v +ℤ b *ℤ u ≡ pos 0
    zero_ring a v b u h k = let x = ap (λ t. a *ℤ t) h ∙ *ℤ-zero a in let y = ap (λ t. b *ℤ t) k ∙ *ℤ-zero b in omega (arith, sums, x, y)

    new_ring : (a v q b u e g f : ℤ) → v ≡ pos 0 → u ≡ e → b *ℤ e ≡ g *ℤ f → a *ℤ v +ℤ (q *ℤ b) *ℤ u ≡ g *ℤ (q *ℤ f)
    new_ring a v q b u e g f h k l =
        let x = ap (λ t. a *ℤ t) h ∙ *ℤ-zero a in let y = ap (λ t. (q *ℤ b) *ℤ t) k in let z = ap (λ t. q *ℤ t) l in
        let y' : (q *ℤ b) *ℤ e ≡ q *ℤ (b *ℤ e) = mul_assoc q b e in
        let z' : g *ℤ (q *ℤ f) ≡ q *ℤ (g *ℤ f) = simp ring_z (omega (arith, sums)) in
        omega (arith, sums, x, y, z, y', z')

    at_n : dot c.form (vector_at (vectors_of vs) n) ≡ q *ℤ c.divisor
    at_n = cancel_mul j.lowered.g (dot c.form (vector_at (vectors_of vs) n)) (q *ℤ c.divisor) j.lowered.positive
        (value (vector_at (vectors_of vs) n) ∙ new_ring j.a (dot own.form (vector_at (vectors_of vs) n)) q j.b (dot (coordinate_at cs n).form (vector_at (vectors_of vs) n)) (coordinate_at cs n).divisor j.lowered.g c.divisor (g.unseen n (omega arith) ln a) (d.own n (inside n ln)) (sym j.balance ∙ sym j.lowered.divisor_is))

    here : (i : ℕ) → i ≡ n → (r : ℤ) → IsFloorQuotient (entry (values_of vs) i) (entry (values_of vs) place) r → dot c.form (vector_at (vectors_of vs) i) ≡ r *ℤ c.divisor
    here i e r s =
        let same : q ≡ r = floor_unique (entry (values_of vs) n) (entry (values_of vs) place) q r nz f (subst (λ (t : ℕ). IsFloorQuotient (entry (values_of vs) t) (entry (values_of vs) place) r) e s) in
        ap (λ t. dot c.form (vector_at (vectors_of vs) t)) e ∙ at_n ∙ ap (λ t. t *ℤ c.divisor) same

-- ---- a round
-- the vectors by their elements
vector_is : (vs : List Valued) (i : ℕ) → vector_at (vectors_of vs) i ≡ (get_or vs i no_value).vector
vector_is vs i = get_or-map (λ (v : Valued). v.vector) vs i no_value

value_is : (vs : List Valued) (i : ℕ) → entry (values_of vs) i ≡ (get_or vs i no_value).value
value_is vs i = get_or-map (λ (v : Valued). v.value) vs i no_value

-- what a round makes of the vector at a place other than the pivot's
record Reduces (vs us : List Valued) (place i : ℕ) : Type 0 where
  q : ℤ
  floor : IsFloorQuotient (entry (values_of vs) i) (entry (values_of vs) place) q
  same : vector_at (vectors_of us) i ≡ plus (vector_at (vectors_of vs) i) (scaled (neg_ℤ q) (vector_at (vectors_of vs) place))

same_default : (vs : List Valued) (place : ℕ) (own : Valued) → place < length vs → own ≡ get_or vs place own → get_or vs place no_value ≡ own
same_default [] place own l e = absurd (omega (arith, l))
same_default (v ∷ vs) zero own l e = sym e
same_default (v ∷ vs) (suc place) own l e = same_default vs place own (omega (arith, l)) e

round_own : (vs others : List Valued) (place : ℕ) (own : Valued) → place < length vs → place ≤ length others → own ≡ get_or vs place own → vector_at (vectors_of (insert others place own)) place ≡ vector_at (vectors_of vs) place
round_own vs others place own l h e =
    vector_is (insert others place own) place ∙ ap (λ (t : Valued). t.vector) (own_inserted no_value others place own h) ∙ sym (ap (λ (t : Valued). t.vector) (same_default vs place own l e)) ∙ sym (vector_is vs place)

round_other : (vs others : List Valued) (place : ℕ) (own : Valued) → AllZip (IsReduced own) (remove vs place) others → place < length vs → own ≡ get_or vs place own → (i : ℕ) → i < length vs → i ≢ place → Reduces vs (insert others place own) place i
round_other vs others place own z l e i h n =
    let r = put_back_at (IsReduced own) no_value vs others place i own z l h n in
    let o = same_default vs place own l e in
    record {
      q = r.q;
      floor = subst (λ (t : ℤ). IsFloorQuotient (entry (values_of vs) i) t r.q) (sym (value_is vs place ∙ ap (λ (t : Valued). t.value) o)) (subst (λ (t : ℤ). IsFloorQuotient t own.value r.q) (sym (value_is vs i)) r.floor);
      same = vector_is (insert others place own) i ∙ r.vector ∙ ap (λ (t : Vector). plus t (scaled (neg_ℤ r.q) own.vector)) (sym (vector_is vs i)) ∙ ap (λ (t : Vector). plus (vector_at (vectors_of vs) i) (scaled (neg_ℤ r.q) t)) (sym (vector_is vs place ∙ ap (λ (t : Valued). t.vector) o));
    }

reduced_value : (w : ℕ) (f x p y : Vector) (q : ℤ) → HasWidth w x → HasWidth w p → y ≡ plus x (scaled (neg_ℤ q) p) → dot f y ≡ dot f x -ℤ q *ℤ dot f p
reduced_value w f x p y q lx lp e = ap (dot f) e ∙ dot-plus w f x (scaled (neg_ℤ q) p) lx (length-scaled w (neg_ℤ q) p lp) ∙ omega (arith, sums, dot-scaled f (neg_ℤ q) p, neg-mul q (dot f p))

zero_minus : (v q u : ℤ) → u ≡ pos 0 → v -ℤ q *ℤ u ≡ v
zero_minus v q u e = let x = ap (λ t. q *ℤ t) e ∙ *ℤ-zero q in omega (arith, sums, x)

pub round_dual : (w : ℕ) (vs others : List Valued) (cs : List Coordinate) (place : ℕ) (own : Valued) (c : Coordinate) → AreDual w (vectors_of vs) cs → IsGathered w vs place (length vs) c → AllZip (IsReduced own) (remove vs place) others → place < length vs → place ≤ length others → length (insert others place own) ≡ length vs → own ≡ get_or vs place own
    → AreDual w (vectors_of (insert others place own)) (set cs place c)
round_dual w vs others cs place own c d g z l h n e = record {
  one_each = length-set cs place c ∙ d.one_each ∙ length-map vs (λ (v : Valued). v.vector) ∙ sym n ∙ sym (length-map us (λ (v : Valued). v.vector));
  vector_width = λ i k. elim (column_cases i place) [
    | inl a ↦ subst (λ (t : ℕ). HasWidth w (vector_at (vectors_of us) t)) (sym a) (subst (HasWidth w) (sym own_is) (d.vector_width place (inside place l)))
    | inr a ↦ (let r = other_is i (back i k) a in subst (HasWidth w) (sym r.same) (length-plus w _ _ (d.vector_width i (inside i (back i k))) (length-scaled w _ _ (d.vector_width place (inside place l)))))
  ];
  form_width = λ i k. elim (column_cases i place) [
    | inl a ↦ subst (λ (t : Coordinate). HasWidth w t.form) (sym (new_at i a)) g.width
    | inr a ↦ subst (λ (t : Coordinate). HasWidth w t.form) (sym (old_at i a)) (d.form_width i (inside i (back i k)))
  ];
  positive = λ i k. elim (column_cases i place) [
    | inl a ↦ subst (λ (t : Coordinate). pos 0 <ℤ t.divisor) (sym (new_at i a)) g.positive
    | inr a ↦ subst (λ (t : Coordinate). pos 0 <ℤ t.divisor) (sym (old_at i a)) (d.positive i (inside i (back i k)))
  ];
  own = λ i k. elim (column_cases i place) [
    | inl a ↦ subst (λ (t : Coordinate). dot t.form (vector_at (vectors_of us) i) ≡ t.divisor) (sym (new_at i a)) (ap (λ t. dot c.form (vector_at (vectors_of us) t)) a ∙ ap (dot c.form) own_is ∙ g.own)
    | inr a ↦ subst (λ (t : Coordinate). dot t.form (vector_at (vectors_of us) i) ≡ t.divisor) (sym (old_at i a)) (old_value i i (back i k) (back i k) a a ∙ d.own i (inside i (back i k)))
  ];
  apart = λ i j k m b. elim (column_cases i place) [
    | inl a ↦ subst (λ (t : Coordinate). dot t.form (vector_at (vectors_of us) j) ≡ pos 0) (sym (new_at i a)) (new_value j (back j m) (λ f. b (a ∙ sym f)))
    | inr a ↦ subst (λ (t : Coordinate). dot t.form (vector_at (vectors_of us) j) ≡ pos 0) (sym (old_at i a)) (elim (column_cases j place) [
      | inl f ↦ ap (λ t. dot (coordinate_at cs i).form (vector_at (vectors_of us) t)) f ∙ ap (dot (coordinate_at cs i).form) own_is ∙ d.apart i place (inside i (back i k)) (inside place l) a
      | inr f ↦ old_value i j (back i k) (back j m) a f ∙ d.apart i j (inside i (back i k)) (inside j (back j m)) b
    ])
  ];
}
  where
    us : List Valued
    us = insert others place own

    inside : (i : ℕ) → i < length vs → i < length (vectors_of vs)
    inside i k = let m = length-map vs (λ (v : Valued). v.vector) in omega (arith, m, k)

    back : (i : ℕ) → i < length (vectors_of (insert others place own)) → i < length vs
    back i k = let m = length-map (insert others place own) (λ (v : Valued). v.vector) in omega (arith, m, k, n)

    place_in : place < length cs
    place_in = let m = length-map vs (λ (v : Valued). v.vector) in let o = d.one_each in omega (arith, m, o, l)

    new_at : (i : ℕ) → i ≡ place → coordinate_at (set cs place c) i ≡ c
    new_at i a = ap (coordinate_at (set cs place c)) a ∙ get_or-set_same cs place c no_coordinate place_in

    old_at : (i : ℕ) → i ≢ place → coordinate_at (set cs place c) i ≡ coordinate_at cs i
    old_at i a = get_or-set_other cs place i c no_coordinate a

    own_is : vector_at (vectors_of (insert others place own)) place ≡ vector_at (vectors_of vs) place
    own_is = round_own vs others place own l h e

    other_is : (i : ℕ) → i < length vs → i ≢ place → Reduces vs (insert others place own) place i
    other_is i k a = round_other vs others place own z l e i k a

    old_value : (i j : ℕ) → i < length vs → j < length vs → i ≢ place → j ≢ place → dot (coordinate_at cs i).form (vector_at (vectors_of (insert others place own)) j) ≡ dot (coordinate_at cs i).form (vector_at (vectors_of vs) j)
    old_value i j k m a f =
        let r = other_is j m f in
        reduced_value w (coordinate_at cs i).form (vector_at (vectors_of vs) j) (vector_at (vectors_of vs) place) (vector_at (vectors_of (insert others place own)) j) r.q (d.vector_width j (inside j m)) (d.vector_width place (inside place l)) r.same
        ∙ zero_minus (dot (coordinate_at cs i).form (vector_at (vectors_of vs) j)) r.q (dot (coordinate_at cs i).form (vector_at (vectors_of vs) place)) (d.apart i place (inside i k) (inside place l) a)

    new_value : (j : ℕ) → j < length vs → j ≢ place → dot c.form (vector_at (vectors_of (insert others place own)) j) ≡ pos 0
    new_value j m f =
        let r = other_is j m f in
        reduced_value w c.form (vector_at (vectors_of vs) j) (vector_at (vectors_of vs) place) (vector_at (vectors_of (insert others place own)) j) r.q (d.vector_width j (inside j m)) (d.vector_width place (inside place l)) r.same
        ∙ none (dot c.form (vector_at (vectors_of vs) j)) r.q (dot c.form (vector_at (vectors_of vs) place)) c.divisor (g.seen j m m f r.q r.floor) g.own
      where
        none : (v q u e : ℤ) → v ≡ q *ℤ e → u ≡ e → v -ℤ q *ℤ u ≡ pos 0
        none v q u e x y = let t = ap (λ t. q *ℤ t) y in omega (arith, sums, x, t)

-- ---- a vector taken out
pub dual_without : (w : ℕ) (others : List Vector) (cs : List Coordinate) (place : ℕ) (own : Vector) → place ≤ length others → AreDual w (insert others place own) cs → AreDual w others (remove cs place)
dual_without w others cs place own l d = record {
  one_each = (let a = length-remove cs place inside in let b = length-insert others place own l in let o = d.one_each in omega (arith, a, b, o));
  vector_width = λ i k. subst (HasWidth w) (vector i) (d.vector_width (shift place i) (within i k));
  form_width = λ i k. subst (λ (t : Coordinate). HasWidth w t.form) (coordinate i) (d.form_width (shift place i) (within i k));
  positive = λ i k. subst (λ (t : Coordinate). pos 0 <ℤ t.divisor) (coordinate i) (d.positive (shift place i) (within i k));
  own = λ i k. subst (λ (t : Coordinate). dot t.form (vector_at others i) ≡ t.divisor) (coordinate i) (subst (λ (t : Vector). dot (coordinate_at cs (shift place i)).form t ≡ (coordinate_at cs (shift place i)).divisor) (vector i) (d.own (shift place i) (within i k)));
  apart = λ i j k m n. subst (λ (t : Coordinate). dot t.form (vector_at others j) ≡ pos 0) (coordinate i) (subst (λ (t : Vector). dot (coordinate_at cs (shift place i)).form t ≡ pos 0) (vector j) (d.apart (shift place i) (shift place j) (within i k) (within j m) (shift_apart place i j n)));
}
  where
    inside : place < length cs
    inside = let b = length-insert others place own l in let o = d.one_each in omega (arith, b, o, l)

    within : (i : ℕ) → i < length others → shift place i < length (insert others place own)
    within i k = let b = length-insert others place own l in let s = shift_within place i (length others) k l in omega (arith, b, s)

    vector : (i : ℕ) → vector_at (insert others place own) (shift place i) ≡ vector_at others i
    vector i = at_inserted [] others place i own l

    coordinate : (i : ℕ) → coordinate_at cs (shift place i) ≡ coordinate_at (remove cs place) i
    coordinate i = sym (at_removed no_coordinate cs place i inside)

-- ---- a vector multiplied
pub dual_multiplied : (w : ℕ) (others : List Vector) (cs : List Coordinate) (place : ℕ) (own : Vector) (t : ℤ) (c : Coordinate) → place ≤ length others → pos 0 <ℤ t → AreDual w (insert others place own) cs → IsLowered (coordinate_at cs place).form ((coordinate_at cs place).divisor *ℤ t) c
    → AreDual w (insert others place (scaled t own)) (set cs place c)
dual_multiplied w others cs place own t c l p d k = record {
  one_each = length-set cs place c ∙ d.one_each ∙ sizes;
  vector_width = λ i h. elim (column_cases i place) [
    | inl a ↦ subst (λ (s : ℕ). HasWidth w (vector_at new s)) (sym a) (subst (HasWidth w) (sym new_own) (length-scaled w t own own_width))
    | inr a ↦ subst (HasWidth w) (sym (same i a)) (d.vector_width i (back i h))
  ];
  form_width = λ i h. elim (column_cases i place) [
    | inl a ↦ subst (λ (s : Coordinate). HasWidth w s.form) (sym (new_at i a)) (lowered_width w f.form (f.divisor *ℤ t) c (d.form_width place inside) k)
    | inr a ↦ subst (λ (s : Coordinate). HasWidth w s.form) (sym (old_at i a)) (d.form_width i (back i h))
  ];
  positive = λ i h. elim (column_cases i place) [
    | inl a ↦ subst (λ (s : Coordinate). pos 0 <ℤ s.divisor) (sym (new_at i a)) (mul_is_pos k.g c.divisor k.positive (subst (λ (s : ℤ). pos 0 <ℤ s) (sym k.divisor_is) (mul_pos f.divisor t (d.positive place inside) p)))
    | inr a ↦ subst (λ (s : Coordinate). pos 0 <ℤ s.divisor) (sym (old_at i a)) (d.positive i (back i h))
  ];
  own = λ i h. elim (column_cases i place) [
    | inl a ↦ subst (λ (s : Coordinate). dot s.form (vector_at new i) ≡ s.divisor) (sym (new_at i a)) (ap (λ s. dot c.form (vector_at new s)) a ∙ ap (dot c.form) new_own ∙ at_own)
    | inr a ↦ subst (λ (s : Coordinate). dot s.form (vector_at new i) ≡ s.divisor) (sym (old_at i a)) (ap (dot (coordinate_at cs i).form) (same i a) ∙ d.own i (back i h))
  ];
  apart = λ i j h m b. elim (column_cases i place) [
    | inl a ↦ subst (λ (s : Coordinate). dot s.form (vector_at new j) ≡ pos 0) (sym (new_at i a)) (at_other j (back j m) (λ e. b (a ∙ sym e)))
    | inr a ↦ subst (λ (s : Coordinate). dot s.form (vector_at new j) ≡ pos 0) (sym (old_at i a)) (elim (column_cases j place) [
      | inl e ↦ ap (λ s. dot (coordinate_at cs i).form (vector_at new s)) e ∙ ap (dot (coordinate_at cs i).form) new_own ∙ dot-scaled (coordinate_at cs i).form t own ∙ ap (λ s. t *ℤ s) (ap (dot (coordinate_at cs i).form) (sym old_own) ∙ d.apart i place (back i h) inside a) ∙ *ℤ-zero t
      | inr e ↦ ap (dot (coordinate_at cs i).form) (same j e) ∙ d.apart i j (back i h) (back j m) b
    ])
  ];
}
  where
    new : List Vector
    new = insert others place (scaled t own)

    f : Coordinate
    f = coordinate_at cs place

    sizes : length (insert others place own) ≡ length (insert others place (scaled t own))
    sizes = length-insert others place own l ∙ sym (length-insert others place (scaled t own) l)

    inside : place < length (insert others place own)
    inside = let b = length-insert others place own l in omega (arith, b, l)

    back : (i : ℕ) → i < length (insert others place (scaled t own)) → i < length (insert others place own)
    back i h = let s = sizes in omega (arith, s, h)

    old_own : vector_at (insert others place own) place ≡ own
    old_own = own_inserted [] others place own l

    own_width : HasWidth w own
    own_width = subst (HasWidth w) old_own (d.vector_width place inside)

    new_own : vector_at (insert others place (scaled t own)) place ≡ scaled t own
    new_own = own_inserted [] others place (scaled t own) l

    same : (i : ℕ) → i ≢ place → vector_at (insert others place (scaled t own)) i ≡ vector_at (insert others place own) i
    same i a = others_inserted [] others place i (scaled t own) own l a

    place_in : place < length cs
    place_in = let o = d.one_each in let i = inside in omega (arith, o, i)

    new_at : (i : ℕ) → i ≡ place → coordinate_at (set cs place c) i ≡ c
    new_at i a = ap (coordinate_at (set cs place c)) a ∙ get_or-set_same cs place c no_coordinate place_in

    old_at : (i : ℕ) → i ≢ place → coordinate_at (set cs place c) i ≡ coordinate_at cs i
    old_at i a = get_or-set_other cs place i c no_coordinate a

    at_own : dot c.form (scaled t own) ≡ c.divisor
    at_own = cancel_mul k.g (dot c.form (scaled t own)) c.divisor k.positive
        (lowered_value (coordinate_at cs place).form (scaled t own) ((coordinate_at cs place).divisor *ℤ t) c k ∙ dot-scaled (coordinate_at cs place).form t own ∙ ap (λ s. t *ℤ s) (ap (dot (coordinate_at cs place).form) (sym old_own) ∙ d.own place inside) ∙ *ℤ_comm t (coordinate_at cs place).divisor ∙ sym k.divisor_is)

    at_other : (j : ℕ) → j < length (insert others place own) → j ≢ place → dot c.form (vector_at (insert others place (scaled t own)) j) ≡ pos 0
    at_other j m e = cancel_mul k.g (dot c.form (vector_at (insert others place (scaled t own)) j)) (pos 0) k.positive
        (lowered_value (coordinate_at cs place).form (vector_at (insert others place (scaled t own)) j) ((coordinate_at cs place).divisor *ℤ t) c k ∙ ap (dot (coordinate_at cs place).form) (same j e) ∙ d.apart place j inside m (λ q. e (sym q)) ∙ sym (*ℤ-zero k.g))

-- ---- the coordinates of a sum
pub coordinate_of_sum : (w : ℕ) (vs : List Vector) (cs : List Coordinate) (ks : List ℤ) (i : ℕ) → AreDual w vs cs → length ks ≡ length vs → i < length vs → dot (coordinate_at cs i).form (combination w ks vs) ≡ entry ks i *ℤ (coordinate_at cs i).divisor
coordinate_of_sum w vs cs ks i d e l =
    let f = (coordinate_at cs i).form in
    let widths : Each (HasWidth w) vs = each_of_places (HasWidth w) [] vs (λ j h. d.vector_width j h) in
    let n = length-map vs (dot f) in
    dot-combination f w ks vs widths ∙ single ks (map (dot f) vs) i (omega (arith, n, l)) (e ∙ sym n) (λ j h a. at j (omega (arith, n, h)) ∙ d.apart i j l (omega (arith, n, h)) (λ q. a (sym q))) ∙ ap (λ t. entry ks i *ℤ t) (at i l ∙ d.own i l)
  where
    at : (j : ℕ) → j < length vs → entry (map (dot (coordinate_at cs i).form) vs) j ≡ dot (coordinate_at cs i).form (vector_at vs j)
    at j h = mapped (dot (coordinate_at cs i).form) vs j h
      where
        mapped : (f : Vector → ℤ) (xs : List Vector) (j : ℕ) → j < length xs → get_or (map f xs) j (pos 0) ≡ f (get_or xs j [])
        mapped f [] j h = absurd (omega (arith, h))
        mapped f (x ∷ xs) zero h = refl
        mapped f (x ∷ xs) (suc j) h = mapped f xs j (omega (arith, h))

-- ---- as the code has them
pub dual_same : (w : ℕ) (vs bs : List Vector) (cs ds : List Coordinate) → AreDual w vs cs → bs ≡ vs → ds ≡ cs → AreDual w bs ds
dual_same w vs bs cs ds d e f = subst (λ (t : List Vector). AreDual w t ds) (sym e) (subst (AreDual w vs) (sym f) d)

pub cleared_without : (w : ℕ) (others : List Valued) (cs ds : List Coordinate) (place : ℕ) (own : Valued) (bs : List Vector) → place ≤ length others → AreDual w (vectors_of (insert others place own)) cs → bs ≡ vectors_of others → ds ≡ remove cs place → AreDual w bs ds
cleared_without w others cs ds place own bs l d e f =
    let n = length-map others (λ (v : Valued). v.vector) in
    let k : AreDual w (insert (vectors_of others) place own.vector) cs = subst (λ (t : List Vector). AreDual w t cs) (map_inserted (λ (v : Valued). v.vector) others place own l) d in
    subst (λ (t : List Vector). AreDual w t ds) (sym e) (subst (AreDual w (vectors_of others)) (sym f) (dual_without w (vectors_of others) cs place own.vector (omega (arith, n, l)) k))

pub cleared_multiplied : (w : ℕ) (others : List Valued) (cs ds : List Coordinate) (place : ℕ) (own : Valued) (t : ℤ) (c : Coordinate) (row : Vector) (bs us : List Vector) → place ≤ length others → AreDual w (vectors_of (insert others place own)) cs → pos 0 <ℤ t → IsLowered (coordinate_at cs place).form ((coordinate_at cs place).divisor *ℤ t) c → row ≡ scaled t own.vector → bs ≡ vectors_of others → us ≡ insert bs place row → ds ≡ set cs place c → AreDual w us ds
cleared_multiplied w others cs ds place own t c row bs us l d p k r e f g =
    let n = length-map others (λ (v : Valued). v.vector) in
    let h : AreDual w (insert (vectors_of others) place own.vector) cs = subst (λ (t : List Vector). AreDual w t cs) (map_inserted (λ (v : Valued). v.vector) others place own l) d in
    let m = dual_multiplied w (vectors_of others) cs place own.vector t c (omega (arith, n, l)) p h k in
    let same : us ≡ insert (vectors_of others) place (scaled t own.vector) = f ∙ ap (λ (b : List Vector). insert b place row) e ∙ ap (insert (vectors_of others) place) r in
    subst (λ (t : List Vector). AreDual w t ds) (sym same) (subst (AreDual w (insert (vectors_of others) place (scaled t own.vector))) (sym g) m)

pub coordinate_is : (cs : List Coordinate) (i : ℕ) (c : Coordinate) → i < length cs → c ≡ get_or cs i c → coordinate_at cs i ≡ c
coordinate_is [] i c l e = absurd (omega (arith, l))
coordinate_is (x ∷ cs) zero c l e = sym e
coordinate_is (x ∷ cs) (suc i) c l e = coordinate_is cs i c (omega (arith, l)) e

-- the unit vectors are their own coordinates
pub units_dual : (w : ℕ) (vs : List Vector) (cs : List Coordinate) → vs ≡ unit_vectors w → cs ≡ map unit_coordinate (unit_vectors w) → AreDual w vs cs
units_dual w vs cs e f = subst (λ (t : List Vector). AreDual w t cs) (sym e) (subst (AreDual w (unit_vectors w)) (sym f) (record {
  one_each = length-map (unit_vectors w) unit_coordinate;
  vector_width = λ i k. subst (HasWidth w) (sym (vector i k)) (length-unit_at w i);
  form_width = λ i k. subst (λ (t : Coordinate). HasWidth w t.form) (sym (unit i k)) (length-unit_at w i);
  positive = λ i k. subst (λ (t : Coordinate). pos 0 <ℤ t.divisor) (sym (unit i k)) (omega (arith, sums));
  own = λ i k. subst (λ (t : Coordinate). dot t.form (vector_at (unit_vectors w) i) ≡ t.divisor) (sym (unit i k)) (ap (dot (unit_at w i)) (vector i k) ∙ dot-unit_at w i (unit_at w i) (length-unit_at w i) ∙ entry-unit_own w i (within i k));
  apart = λ i j k m n. subst (λ (t : Coordinate). dot t.form (vector_at (unit_vectors w) j) ≡ pos 0) (sym (unit i k)) (ap (dot (unit_at w i)) (vector j m) ∙ dot-unit_at w j (unit_at w i) (length-unit_at w i) ∙ entry-unit_other w i j n);
}))
  where
    within : (i : ℕ) → i < length (unit_vectors w) → i < w
    within i k = let n = length-unit_vectors w in omega (arith, n, k)

    vector : (i : ℕ) → i < length (unit_vectors w) → vector_at (unit_vectors w) i ≡ unit_at w i
    vector i k = unit_vector_at w i (within i k)

    unit : (i : ℕ) → i < length (unit_vectors w) → coordinate_at (map unit_coordinate (unit_vectors w)) i ≡ unit_coordinate (unit_at w i)
    unit i k = at_map unit_coordinate (unit_vectors w) i [] no_coordinate k ∙ ap unit_coordinate (vector i k)
