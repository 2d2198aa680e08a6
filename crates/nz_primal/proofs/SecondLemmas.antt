-- The extreme rays of a cone in second coordinates: they span all, their cone is that of the rows there, and the whole vectors of it are the members.
use Rattle.std.proofs.Common.{◌≡◌, ◌↔◌, inl, inr, ℕ, List, [], ◌∷◌, length, map, ℤ, pos, neg_ℤ, ◌+ℤ◌, ◌*ℤ◌, ◌≤ℤ◌, ◌<ℤ◌, Contains, refl, sym, ap, ap₂, ◌∙◌, subst, arith}
use Rattle.std.proofs.lemmas.Int.{ints}
use Rattle.std.specs.List.{AllByRecursion as Each, AllZip}
use Rattle.nz_spec.specs.Vectors.{Vector, dot, plus, scaled, opposite, combination, HasWidth, IsZero}
use Rattle.nz_spec.specs.Sums.{IsInGroup, IsInSpan, IsInCone, HasRank}
use Rattle.nz_spec.specs.Monoids.{IsPositive}
use Rattle.nz_spec.specs.Stages.{IsInStage}
use Rattle.nz_spec.proofs.ListLaws.{Each-contains, Each-from_contains, contains_cases, contains_none}
use Rattle.nz_spec.proofs.SumLaws.{IsInSpan-cone, length-combination, dot-combination}
use Rattle.nz_spec.proofs.VectorLaws.{dot-scaled, dot-zero, IsZero-zero_vector}
use Rattle.nz_spec.proofs.EquationLaws.{zero_on_span, dot_comm}
use Rattle.nz_linear.specs.DualPairs.{Pair}
use Rattle.nz_linear.specs.Elimination.{IsState}
use Rattle.nz_linear.specs.Cones.{IsInRows, Satisfies}
use Rattle.nz_linear.specs.Extreme.{IsPointed}
use Rattle.nz_linear.specs.RayStep.{AreExtremeRays}
use Rattle.nz_linear.specs.Coordinates.{AreCoordinates, in_coordinates}
use Rattle.std.proofs.Math.IntN.{*ℤ-zero}
use Rattle.nz_linear.proofs.Ring.{sums, mul-one, ring_z}
use Rattle.nz_linear.proofs.Signs.{mul_le}
use Rattle.nz_linear.proofs.Lists.{each_map, map_each}
use Rattle.nz_linear.proofs.VectorLaws.{length-plus, length-scaled, dot-plus, same_values, lengths}
use Rattle.nz_linear.proofs.Coordinates.{stage_coordinates, coordinates_where, back_at, line_forth}
use Rattle.nz_linear.proofs.Farkas.{generated, cone_satisfies}
use Rattle.nz_linear.proofs.Spans.{span_plus, span_scaled, span_zero, span_member}
use Rattle.nz_linear.proofs.KeyColumns.{echelon, IsLeft, all_left}
use Rattle.nz_linear.proofs.Rank.{rank_of_state, rank_and_left, seen_span_vanishes}
use Rattle.nz_linear.proofs.Splitting.{enough_of}
use Rattle.nz_linear.proofs.SupportForms.{zero_or_positive}
use Rattle.nz_linear.proofs.Pointed.{positive_of_pointed}
use Rattle.nz_order.specs.Totals.{total}
use Rattle.nz_order.proofs.RowLaws.{dot-opposite}
use Rattle.nz_order.proofs.TotalLaws.{length-total}
use Rattle.nz_primal.specs.Second.{IsInFace, IsFaceBase, HaveCoordinates}
use Rattle.nz_linear.proofs.SumCoordinates.{sum_back, sum_forth, zero_of_at}

-- the value of a row at a vector is that of the row in coordinates at its coordinates
pub row_value : (w : ℕ) (base : List Vector) (r c : Vector) → Each (HasWidth w) base → dot r (combination w c base) ≡ dot (in_coordinates base r) c
row_value w base r c l = dot-combination r w c base l ∙ dot_comm c (in_coordinates base r)

-- ---- the sum of all rays
total_span : (w : ℕ) (vs us : List Vector) → Each (HasWidth w) vs → Each (IsInSpan w vs) us → IsInSpan w vs (total w us)
total_span w vs [] l h = span_zero w vs l
total_span w vs (u ∷ us) l h = span_plus w vs u (total w us) h.0 (total_span w vs us l h.1)

total_nonneg : (w : ℕ) (a : Vector) (us : List Vector) → Each (HasWidth w) us → Each (λ v. pos 0 ≤ℤ dot a v) us → pos 0 ≤ℤ dot a (total w us)
total_nonneg w a [] l h = (let e = dot-zero a w in omega (arith, sums, e))
total_nonneg w a (u ∷ us) l h =
    let e = dot-plus w a u (total w us) l.0 (length-total w us l.1) in
    let k = total_nonneg w a us l.1 h.1 in
    let p = h.0 in omega (arith, sums, e, k, p)

total_zero : (w : ℕ) (a : Vector) (us : List Vector) → Each (HasWidth w) us → Each (λ v. dot a v ≡ pos 0) us → dot a (total w us) ≡ pos 0
total_zero w a [] l h = dot-zero a w
total_zero w a (u ∷ us) l h =
    let e = dot-plus w a u (total w us) l.0 (length-total w us l.1) in
    let k = total_zero w a us l.1 h.1 in
    let p = h.0 in omega (arith, sums, e, k, p)

total_positive : (w : ℕ) (a v : Vector) (us : List Vector) → Each (HasWidth w) us → Each (λ v. pos 0 ≤ℤ dot a v) us → Contains us v → pos 0 <ℤ dot a v → pos 0 <ℤ dot a (total w us)
total_positive w a v [] l h c p = absurd (contains_none v c)
total_positive w a v (u ∷ us) l h c p =
    let e = dot-plus w a u (total w us) l.0 (length-total w us l.1) in
    let q = h.0 in
    elim (contains_cases u us v c) [
      | inl s ↦ (let k = total_nonneg w a us l.1 h.1 in let f = ap (λ x. dot a x) s in omega (arith, sums, e, k, f, p))
      | inr d ↦ (let k = total_positive w a v us l.1 h.1 d p in omega (arith, sums, e, k, q))
    ]

less_again : (w : ℕ) (n : ℤ) (t x : Vector) → HasWidth w t → HasWidth w x → plus (plus (scaled n t) x) (scaled (neg_ℤ n) t) ≡ x
less_again w n t x lt lx = same_values w (plus (plus (scaled n t) x) (scaled (neg_ℤ n) t)) x (search lengths) lx (λ f. simp (dot-plus w, dot-scaled, length-scaled w, length-plus w) (simp ring_z (omega (arith, sums))))

-- ---- vectors that span all have the width as their rank
no_free : (w : ℕ) (vs : List Vector) (columns : List ℕ) (chosen free : List Pair) → Each (HasWidth w) vs → ((x : Vector) → HasWidth w x → IsInSpan w vs x) → IsState w vs chosen free → AllZip (IsLeft w vs) columns free → free ≡ []
no_free w vs columns chosen [] l span s z = refl
no_free w vs [] chosen (p ∷ free) l span s z = absurd z
no_free w vs (c ∷ columns) chosen (p ∷ free) l span s z =
    let v = seen_span_vanishes w vs chosen (p ∷ free) p.form l s (span p.form z.0.widths.form_width) in
    let e = v.0 in
    let k = z.0.positive in
    absurd (let b : ⊥ = omega (arith, ints, e, k) in b)

pub full_rank : (w : ℕ) (vs : List Vector) → Each (HasWidth w) vs → ((x : Vector) → HasWidth w x → IsInSpan w vs x) → HasRank w (Contains vs) w
full_rank w vs l span =
    let a = echelon w vs l in
    let n = ap length (no_free w vs a.columns a.chosen a.free l span a.state (all_left w vs a.columns a.chosen a.free a.state a.are_columns)) in
    let s = rank_and_left w vs a.chosen a.free a.state in
    subst (HasRank w (Contains vs)) (omega (arith, n, s)) (rank_of_state w vs a.chosen a.free l a.state)

-- ---- every vector of the face is in the span of the rays
far_nonneg : (n a p x e : ℤ) → pos 1 ≤ℤ n → pos 0 <ℤ p → a ≤ℤ n → a +ℤ x ≡ pos 0 → e ≡ n *ℤ p +ℤ x → pos 0 ≤ℤ e
far_nonneg n a p x e hn hp ha hx he =
    let m = mul_le n (pos 1) p (omega (arith, sums, hn)) (omega (arith, sums, hp)) in
    let o = mul-one n in omega (arith, sums, m, o, ha, hx, he)

module _ (w : ℕ) (rows rays : List Vector) (pt : IsPointed w rows) (ex : AreExtremeRays w rows rays) where
  ray_sides : (a : Vector) → Contains rows a → Each (λ v. pos 0 ≤ℤ dot a v) rays
  ray_sides a c = each_map (Satisfies rows) (λ v. pos 0 ≤ℤ dot a v) rays (λ v s. Each-contains (λ r. pos 0 ≤ℤ dot r v) rows a s c) ex.description.sound

  -- a member is in the face
  pub member_in_face : (x : Vector) → IsInRows w rows x → IsInFace w rows rays x
  member_in_face x m = (m.0, λ row c z. zero_on_span row w rays x ex.description.ray_widths z (IsInSpan-cone w rays x (generated w rows rays x ex.description m.0 m.1)))

  far_member : (x : Vector) → IsInFace w rows rays x → (n : ℤ) → pos 1 ≤ℤ n → Each (λ a. dot a (opposite x) ≤ℤ n) rows → Satisfies rows (plus (scaled n (total w rays)) x)
  far_member x f n one big = Each-from_contains (λ a. pos 0 ≤ℤ dot a (plus (scaled n (total w rays)) x)) rows (λ a c.
      let t = total w rays in
      let lt = length-total w rays ex.description.ray_widths in
      let e : dot a (plus (scaled n t) x) ≡ n *ℤ dot a t +ℤ dot a x = dot-plus w a (scaled n t) x (length-scaled w n t lt) f.0 ∙ ap (λ z. z +ℤ dot a x) (dot-scaled a n t) in
      elim (zero_or_positive a rays (ray_sides a c)) [
        | inl z ↦ (let zt = total_zero w a rays ex.description.ray_widths z in let zx = f.1 a c z in let k : dot a (plus (scaled n t) x) ≡ n *ℤ pos 0 +ℤ pos 0 = e ∙ ap₂ (λ y z. n *ℤ y +ℤ z) zt zx in let o = *ℤ-zero n in omega (arith, sums, k, o))
        | inr s ↦ (let p = total_positive w a s.vector rays ex.description.ray_widths (ray_sides a c) s.has s.positive in far_nonneg n (dot a (opposite x)) (dot a t) (dot a x) (dot a (plus (scaled n t) x)) one p (Each-contains (λ r. dot r (opposite x) ≤ℤ n) rows a big c) (let o = dot-opposite a x in omega (arith, sums, o)) e)
      ])

  -- each vector of the face is in the span of the rays
  pub face_span : (x : Vector) → IsInFace w rows rays x → IsInSpan w rays x
  face_span x f =
      let t = total w rays in
      let lt = length-total w rays ex.description.ray_widths in
      let big = enough_of rows (opposite x) in
      let y = plus (scaled big.0 t) x in
      let ly = length-plus w (scaled big.0 t) x (length-scaled w big.0 t lt) f.0 in
      let iy : IsInSpan w rays y = IsInSpan-cone w rays y (generated w rows rays y ex.description ly (far_member x f big.0 big.1 big.2)) in
      let it : IsInSpan w rays t = total_span w rays rays ex.description.ray_widths (Each-from_contains (IsInSpan w rays) rays (λ v c. span_member w rays v ex.description.ray_widths c)) in
      subst (IsInSpan w rays) (less_again w big.0 t x lt f.0) (span_plus w rays y (scaled (neg_ℤ big.0) t) iy (span_scaled w rays (neg_ℤ big.0) t it))

  module _ (base : List Vector) (fb : IsFaceBase w rows rays base) where
    -- the members are, in coordinates of the face, the whole vectors of the cone of the rows there
    pub second_coordinates : AreCoordinates w base (IsInRows w rows) (IsInRows (length base) (map (λ r. in_coordinates base r) rows))
    second_coordinates = coordinates_where w base (IsInStage (IsInGroup w base) rows) (IsInRows w rows) (IsInRows (length base) (map (λ r. in_coordinates base r) rows))
        (λ x. (λ s. (((fb.same x).1 s.in_lattice).0, s.at_least), λ m. record { in_lattice = (fb.same x).0 (member_in_face x m); at_least = m.1 }))
        (stage_coordinates w base rows fb.widths fb.independent)

    pub second_positive : IsPositive (IsInRows (length base) (map (λ r. in_coordinates base r) rows))
    second_positive v line = positive_of_pointed w rows (IsInRows w rows) pt (λ x m. m) (combination w v base) (line_forth w base (IsInRows w rows) (IsInRows (length base) (map (λ r. in_coordinates base r) rows)) second_coordinates v line)

    pub second_only_zero : (c : Vector) → HasWidth (length base) c → Each (λ r. dot r c ≡ pos 0) (map (λ r. in_coordinates base r) rows) → IsZero c
    second_only_zero c l z =
        zero_of_at w base fb.widths fb.independent c l
        (subst IsZero (sym (pt (combination w c base) (length-combination w c base fb.widths) (each_map (λ r. dot (in_coordinates base r) c ≡ pos 0) (λ r. dot r (combination w c base) ≡ pos 0) rows (λ r e. row_value w base r c fb.widths ∙ e) (map_each (λ r. in_coordinates base r) (λ f. dot f c ≡ pos 0) rows z)))) (IsZero-zero_vector w))

    module _ (coordinates : List Vector) (have : HaveCoordinates w base coordinates rays) where
      -- they are the cone of the rays there
      pub second_cone : (c : Vector) → HasWidth (length base) c → IsInCone (length base) coordinates c ↔ IsInRows (length base) (map (λ r. in_coordinates base r) rows) c
      second_cone c l = (
        λ i. let x = combination w c base in
            back_at w base (IsInRows w rows) (IsInRows (length base) (map (λ r. in_coordinates base r) rows)) second_coordinates c l
            (length-combination w c base fb.widths, cone_satisfies w rows rays x ex.description (subst (λ vs. IsInCone w vs x) have.same (sum_forth w base fb.widths fb.independent (λ m f. pos 0 ≤ℤ f) coordinates c have.widths i))),
        λ m. let x = combination w c base in
            let n = second_coordinates.forth c m in
            sum_back w base fb.widths fb.independent (λ m f. pos 0 ≤ℤ f) coordinates c have.widths l (subst (λ vs. IsInCone w vs x) (sym have.same) (generated w rows rays x ex.description n.0 n.1)),
      )

      -- they span all vectors
      pub second_span : (c : Vector) → HasWidth (length base) c → IsInSpan (length base) coordinates c
      second_span c l =
          let x = combination w c base in
          let f = (fb.same x).1 (record { factors = c; one_each = l; same = refl }) in
          sum_back w base fb.widths fb.independent (λ m f. Unit {0}) coordinates c have.widths l (subst (λ vs. IsInSpan w vs x) (sym have.same) (face_span x f))

      pub second_rank : HasRank (length base) (Contains coordinates) (length base)
      second_rank = full_rank (length base) coordinates have.widths second_span
