-- The rank, from a complete dual pair and from the state of elimination; as many independent vectors as the rank span.
use Rattle.std.proofs.Common.{◌≡◌, ◌≢◌, ℕ, ◌+◌, inl, inr, List, [], ◌∷◌, ◌++◌, length, map, ℤ, pos, ◌+ℤ◌, ◌*ℤ◌, refl, sym, ap, ap₂, ◌∙◌, subst, arith, length-append}
use Rattle.std.proofs.lemmas.List.{length-map}
use Rattle.std.specs.List.{AllByRecursion as Each, Contains}
use Rattle.nz_spec.specs.Vectors.{Vector, dot, scaled, combination, HasWidth}
use Rattle.nz_spec.specs.Sums.{IsInSpan, IsIndependent, HasRank}
use Rattle.nz_spec.proofs.ListLaws.{Each-contains, Each-from_contains}
use Rattle.nz_spec.proofs.LinearLaws.{HasRank-unique, independent_at_most}
use Rattle.nz_spec.proofs.EquationLaws.{dot_comm, zero_on_span}
use Rattle.nz_spec.proofs.ConstraintLaws.{values_zero}
use Rattle.nz_linear.specs.DualPairs.{Pair, HasWidths, IsDualPair, IsDual, IsSpace, IsCompleteOn, product, spread, spread_factors}
use Rattle.nz_linear.specs.Elimination.{IsState}
use Rattle.nz_linear.proofs.Ring.{sums}
use Rattle.nz_linear.proofs.Lists.{each_map, each_left, each_of_map}
use Rattle.nz_linear.proofs.DualPairs.{product_positive, expansion, spread_is, dual_independent, dual_left, length-factors}
use Rattle.nz_linear.proofs.DualCone.{swap, swapped_widths, swapped_dual, swapped_vectors, swapped_product}
use Rattle.nz_linear.proofs.Dependence.{dependent_row}
use Rattle.nz_spec.specs.Vectors.{plus, IsZero}
use Rattle.nz_spec.proofs.IntLaws.{zero_product}
use Rattle.nz_spec.proofs.VectorLaws.{dot-scaled, dot-IsZero}
use Rattle.nz_spec.proofs.SumLaws.{length-combination, dot-combination}
use Rattle.std.proofs.Math.IntN.{*ℤ_comm}
use Rattle.nz_linear.proofs.VectorLaws.{length-scaled, dot-plus, zero-scaled, zero-plus}
use Rattle.nz_linear.proofs.Lists.{each_remove}
use Rattle.nz_linear.proofs.Dependence.{complete_length}
use Rattle.nz_linear.proofs.EliminationRun.{run, find_pivot, FoundPivot}
use Rattle.nz_linear.proofs.Spans.{in_span, span_member, span_within}

-- the spread of the pairs is in the span of their vectors
spread_in_span : (w : ℕ) (ps : List Pair) (x y : Vector) → IsDual ps → scaled (product ps) x ≡ spread w ps y → IsInSpan w (map (λ p. p.vector) ps) x
spread_in_span w ps x y d e =
    in_span w (map (λ (p : Pair). p.vector) ps) x (product ps) (spread_factors ps y) (product_positive ps d) (length-factors ps y ∙ sym (length-map ps (λ (p : Pair). p.vector)))
    (sym (spread_is w ps y) ∙ sym e)

-- a set that a dual pair of its vectors is complete on has the number of pairs as its rank
pub rank_of_dual : (w : ℕ) (In : Vector → Type 0) (ps : List Pair) → IsSpace w In → IsDualPair w ps → IsCompleteOn w In ps → HasRank w In (length ps)
rank_of_dual w In ps s d c = record {
  base = map (λ (p : Pair). p.vector) ps;
  size = length-map ps (λ (p : Pair). p.vector);
  members = each_of_map (λ (p : Pair). p.vector) In ps c.vectors_in;
  independent = dual_independent w ps d;
  all = λ x i. spread_in_span w ps x x d.dual (expansion w In ps x s d c i);
}

-- the chosen rows of a state, as vectors
abbrev pub chosen_rows : List Pair → List Vector
chosen_rows chosen = map (λ p. p.form) chosen

chosen_dual : (w : ℕ) (seen : List Vector) (chosen free : List Pair) → IsState w seen chosen free → IsDualPair w (map swap chosen)
chosen_dual w seen chosen free s =
    record { widths = swapped_widths w chosen (each_left (HasWidths w) chosen free s.pair.widths); dual = swapped_dual chosen (dual_left chosen free s.pair.dual) }

-- they are independent
pub chosen_independent : (w : ℕ) (seen : List Vector) (chosen free : List Pair) → IsState w seen chosen free → IsIndependent w (chosen_rows chosen)
chosen_independent w seen chosen free s = subst (IsIndependent w) (swapped_vectors chosen) (dual_independent w (map swap chosen) (chosen_dual w seen chosen free s))

-- what vanishes at the vectors left is in their span
pub in_chosen_span : (w : ℕ) (seen : List Vector) (chosen free : List Pair) (x : Vector) → HasWidth w x → IsState w seen chosen free → Each (λ p. dot x p.vector ≡ pos 0) free → IsInSpan w (chosen_rows chosen) x
in_chosen_span w seen chosen free x l s z =
    let d = chosen_dual w seen chosen free s in
    subst (λ (vs : List Vector). IsInSpan w vs x) (swapped_vectors chosen)
    (spread_in_span w (map swap chosen) x x d.dual (ap (λ t. scaled t x) (swapped_product chosen) ∙ dependent_row w x seen chosen free l s z))

pub chosen_members : (w : ℕ) (seen : List Vector) (chosen free : List Pair) → IsState w seen chosen free → Each (Contains seen) (chosen_rows chosen)
chosen_members w seen chosen free s = each_of_map (λ (p : Pair). p.form) (Contains seen) chosen s.from_seen

-- a row seen vanishes at the vectors left
pub seen_vanish : (w : ℕ) (seen : List Vector) (chosen free : List Pair) (x : Vector) → IsState w seen chosen free → Contains seen x → Each (λ p. dot x p.vector ≡ pos 0) free
seen_vanish w seen chosen free x s c = each_map (λ (p : Pair). Each (λ r. dot r p.vector ≡ pos 0) seen) (λ (p : Pair). dot x p.vector ≡ pos 0) free (λ p k. Each-contains (λ r. dot r p.vector ≡ pos 0) seen x k c) s.free_vanish

-- the rank of the rows seen is the number of those chosen
pub rank_of_state : (w : ℕ) (seen : List Vector) (chosen free : List Pair) → Each (HasWidth w) seen → IsState w seen chosen free → HasRank w (Contains seen) (length chosen)
rank_of_state w seen chosen free l s = record {
  base = chosen_rows chosen;
  size = length-map chosen (λ (p : Pair). p.form);
  members = chosen_members w seen chosen free s;
  independent = chosen_independent w seen chosen free s;
  all = λ x c. in_chosen_span w seen chosen free x (Each-contains (HasWidth w) seen x l c) s (seen_vanish w seen chosen free x s c);
}

-- and with the vectors left it is the width
pub rank_and_left : (w : ℕ) (seen : List Vector) (chosen free : List Pair) → IsState w seen chosen free → length chosen + length free ≡ w
rank_and_left w seen chosen free s = sym (length-append chosen free) ∙ complete_length w (chosen ++ free) s.pair s.only_zero

-- the span of the rows seen is where the vectors left vanish
pub in_seen_span : (w : ℕ) (seen : List Vector) (chosen free : List Pair) (x : Vector) → Each (HasWidth w) seen → HasWidth w x → IsState w seen chosen free → Each (λ p. dot x p.vector ≡ pos 0) free → IsInSpan w seen x
in_seen_span w seen chosen free x l lx s z =
    span_within w (chosen_rows chosen) seen x l (each_map (Contains seen) (IsInSpan w seen) (chosen_rows chosen) (λ v c. span_member w seen v l c) (chosen_members w seen chosen free s)) (in_chosen_span w seen chosen free x lx s z)

pub seen_span_vanishes : (w : ℕ) (seen : List Vector) (chosen free : List Pair) (x : Vector) → Each (HasWidth w) seen → IsState w seen chosen free → IsInSpan w seen x → Each (λ p. dot x p.vector ≡ pos 0) free
seen_span_vanishes w seen chosen free x l s i = each_map (λ (p : Pair). Each (λ r. dot r p.vector ≡ pos 0) seen) (λ (p : Pair). dot x p.vector ≡ pos 0) free
    (λ p k. dot_comm x p.vector ∙ zero_on_span p.vector w seen x l (each_map (λ r. dot r p.vector ≡ pos 0) (λ r. dot p.vector r ≡ pos 0) seen (λ r e. dot_comm p.vector r ∙ e) k) i) s.free_vanish

-- ---- independent vectors
-- a vector at which a form is not 0 that is 0 at the others is independent of them
pub independent_more : (w : ℕ) (f v : Vector) (vs : List Vector) → HasWidth w v → Each (HasWidth w) vs → dot f v ≢ pos 0 → Each (λ u. dot f u ≡ pos 0) vs → IsIndependent w vs → IsIndependent w (v ∷ vs)
independent_more w f v vs lv l n z free [] e i = absurd (omega arith)
independent_more w f v vs lv l n z free (c ∷ cs) e i =
    let rest = combination w cs vs in
    let value : dot f (plus (scaled c v) rest) ≡ c *ℤ dot f v +ℤ pos 0 = dot-plus w f (scaled c v) rest (length-scaled w c v lv) (length-combination w cs vs l) ∙ ap₂ ◌+ℤ◌ (dot-scaled f c v) (dot-combination f w cs vs l ∙ values_zero f cs vs z) in
    let product : dot f v *ℤ c ≡ pos 0 = omega (arith, sums, value, dot-IsZero f (plus (scaled c v) rest) i, *ℤ_comm c (dot f v)) in
    let none : c ≡ pos 0 = zero_product (dot f v) c n product in
    let same : plus (scaled c v) rest ≡ rest = ap (λ (t : ℤ). plus (scaled t v) rest) none ∙ ap (λ t. plus t rest) (zero-scaled w v lv) ∙ zero-plus w rest (length-combination w cs vs l) in
    (none, free cs (omega arith) (subst IsZero same i))

-- independent vectors of a set, as many as its rank, span it
pub full_independent_span : (w : ℕ) (P : Vector → Type 0) (r : ℕ) (vs : List Vector) (x : Vector) → ((y : Vector) → P y → HasWidth w y) → HasRank w P r → Each P vs → IsIndependent w vs → length vs ≡ r → P x → IsInSpan w vs x
full_independent_span w P r vs x wide h in_P free size px =
    let l : Each (HasWidth w) vs = each_map P (HasWidth w) vs (λ y p. wide y p) in_P in
    let s = run w vs l in
    let rows = chosen_rows s.chosen in
    let members = chosen_members w vs s.chosen s.free s.state in
    elim (find_pivot x s.free) [
      | inl all ↦ in_seen_span w vs s.chosen s.free x l (wide x px) s.state all
      | inr t ↦ absurd (
          let as_base : HasRank w (Contains vs) (length vs) = record { base = vs; size = refl; members = Each-from_contains (Contains vs) vs (λ y c. c); independent = free; all = λ y c. span_member w vs y l c } in
          let as_many = HasRank-unique w (Contains vs) (length s.chosen) (length vs) (λ y c. Each-contains (HasWidth w) vs y l c) (rank_of_state w vs s.chosen s.free l s.state) as_base in
          let b = t.pivot.vector in
          let in_vs : Each P rows = each_map (Contains vs) P rows (λ y c. Each-contains P vs y in_P c) members in
          let wide_rows : Each (HasWidth w) rows = each_map P (HasWidth w) rows (λ y p. wide y p) in_vs in
          let zero_at : Each (λ u. dot b u ≡ pos 0) rows = each_map (Contains vs) (λ u. dot b u ≡ pos 0) rows (λ u c. dot_comm b u ∙ pivot_zero vs b (free_at s.free t s.state.free_vanish) u c) members in
          let nonzero : dot b x ≢ pos 0 = λ e. t.nonzero (dot_comm x b ∙ e) in
          let more = independent_more w b x rows (wide x px) wide_rows nonzero zero_at (chosen_independent w vs s.chosen s.free s.state) in
          let base_wide = each_map P (HasWidth w) h.base (λ y p. wide y p) h.members in
          let spanned : Each (IsInSpan w h.base) (x ∷ rows) = (h.all x px, each_map P (IsInSpan w h.base) rows (λ y p. h.all y p) in_vs) in
          let few = independent_at_most w h.base (x ∷ rows) base_wide spanned more in
          let n1 = h.size in
          let n2 = length-map s.chosen (λ (p : Pair). p.form) in
          omega arith)
    ]
  where
    pivot_zero : (seen : List Vector) (b : Vector) → Each (λ r. dot r b ≡ pos 0) seen → (u : Vector) → Contains seen u → dot u b ≡ pos 0
    pivot_zero seen b z u c = Each-contains (λ r. dot r b ≡ pos 0) seen u z c

    free_at : (ps : List Pair) (t : FoundPivot x ps) → Each (λ (p : Pair). Each (λ r. dot r p.vector ≡ pos 0) vs) ps → Each (λ r. dot r t.pivot.vector ≡ pos 0) vs
    free_at ps t k = (each_remove (λ (p : Pair). Each (λ r. dot r p.vector ≡ pos 0) vs) t.pivot t.before t.after (subst (Each (λ (p : Pair). Each (λ r. dot r p.vector ≡ pos 0) vs)) t.split k)).0
