-- The columns of the vectors that elimination leaves are the columns that are no key column, and these vectors give the equations.
use Rattle.std.proofs.Common.{◌≡◌, ◌≢◌, ◌⊎◌, inl, inr, ℕ, ◌<◌, List, [], ◌∷◌, ◌++◌, length, map, pos, negsuc, ◌+ℤ◌, ◌*ℤ◌, ◌<ℤ◌, refl, sym, ap, ap₂, ◌∙◌, subst, arith}
use Rattle.std.proofs.lemmas.Int.{ints}
use Rattle.std.proofs.Math.IntN.{*ℤ-zero, zero-*ℤ}
use Rattle.std.specs.List.{AllByRecursion as Each, AllZip, Contains, range_with_len}
use Rattle.nz_spec.specs.Vectors.{Vector, dot, plus, scaled, entry, HasWidth}
use Rattle.nz_spec.specs.Order.{IsListOf}
use Rattle.nz_spec.specs.Forms.{IsKeyColumn, IsOtherColumn, IsEquationAt, AreEquations}
use Rattle.nz_spec.proofs.VectorLaws.{dot-zero, dot-scaled}
use Rattle.nz_spec.proofs.ListLaws.{Each-from_contains, contains_here, contains_there, contains_cases, contains_none}
use Rattle.nz_spec.proofs.EquationLaws.{dot_comm, zero_on_span, column_cases, entry-scaled}
use Rattle.nz_linear.specs.DualPairs.{Pair, pair_of, divisor, IsApart, HasWidths, IsDual, product, spread}
use Rattle.nz_linear.specs.Division.{IsPrimitiveOf}
use Rattle.nz_linear.specs.Elimination.{IsState, unit_pairs}
use Rattle.nz_linear.specs.Echelon.{unit_at, IsColumnPair, AreColumnPairs}
use Rattle.nz_linear.proofs.Ring.{sums}
use Rattle.nz_linear.proofs.Signs.{mul_is_zero, mul_is_pos}
use Rattle.nz_linear.proofs.Lists.{map_each, each_map, each_map2, each_right, zip_both, zip_right, zip_left, zip_change, zip_meet}
use Rattle.nz_linear.proofs.VectorLaws.{length-plus, length-scaled, dot-plus, scaled-dot}
use Rattle.nz_linear.proofs.Units.{length-unit_at, dot-unit_at, unit_at-dot, entry-unit_own, entry-unit_other, leads_at, value_at_end}
use Rattle.nz_linear.proofs.DualPairs.{dual_right, length-spread, value_step, values_at_spread, product_positive, divisors_positive}
use Rattle.nz_linear.proofs.DualCone.{swap, swapped_widths, swapped_dual}
use Rattle.nz_linear.proofs.EliminationRun.{start_state, find_pivot, turned, clear, found_step}
use Rattle.nz_linear.proofs.Elimination.{skip_keeps, pivot_keeps}
use Rattle.nz_linear.proofs.Rank.{in_seen_span}
use Rattle.nz_linear.proofs.Echelon.{start_columns, split_columns, pivot_columns}

-- ---- each list of rows has such a state
pub record SomeEchelon (w : ℕ) (rows : List Vector) : Type 0 where
  pub columns : List ℕ
  pub chosen : List Pair
  pub free : List Pair
  pub state : IsState w rows chosen free
  pub are_columns : AreColumnPairs w columns free

pub echelon : (w : ℕ) (rows : List Vector) → Each (HasWidth w) rows → SomeEchelon w rows
echelon w [] l = record { columns = range_with_len 0 w; chosen = []; free = unit_pairs w; state = start_state w; are_columns = start_columns w }
echelon w (h ∷ rows) l =
    let s = echelon w rows l.1 in
    elim (find_pivot h s.free) [
      | inl all ↦ record { columns = s.columns; chosen = s.chosen; free = s.free; state = skip_keeps w h rows s.chosen s.free s.state all; are_columns = s.are_columns }
      | inr f ↦ (
          let u = turned h s.free f in
          let chosen = pair_of h u ∷ map (clear h u) s.chosen in
          let free = map (clear h u) (f.before ++ f.after) in
          let t = found_step w h rows s.chosen s.free f s.state in
          let p = split_columns w s.columns f.before f.pivot f.after (subst (AllZip (IsColumnPair w) s.columns) f.split s.are_columns.each) in
          record {
            columns = p.front ++ p.back;
            chosen = chosen;
            free = free;
            state = pivot_keeps w h rows s.chosen s.free chosen free l.0 s.state t;
            are_columns = pivot_columns w h s.columns s.chosen s.free chosen free (each_right (HasWidths w) s.chosen s.free s.state.pair.widths) s.are_columns t f.none_before p;
          })
    ]

-- ---- the columns left are no key columns
-- what is known of a pair left, by its column
pub record IsLeft (w : ℕ) (seen : List Vector) (c : ℕ) (p : Pair) : Type 0 where
  pub column : IsColumnPair w c p
  pub widths : HasWidths w p
  pub positive : pos 0 <ℤ divisor p
  pub vanish : Each (λ r. dot r p.vector ≡ pos 0) seen

pub all_left : (w : ℕ) (seen : List Vector) (columns : List ℕ) (chosen free : List Pair) → IsState w seen chosen free → AreColumnPairs w columns free → AllZip (IsLeft w seen) columns free
all_left w seen columns chosen free s a =
    let wide : Each (HasWidths w) free = each_right (HasWidths w) chosen free s.pair.widths in
    let known : Each (λ p. HasWidths w p × (pos 0 <ℤ divisor p) × Each (λ r. dot r p.vector ≡ pos 0) seen) free =
    each_map2 (HasWidths w) (λ p. (pos 0 <ℤ divisor p) × Each (λ r. dot r p.vector ≡ pos 0) seen) (λ p. HasWidths w p × (pos 0 <ℤ divisor p) × Each (λ r. dot r p.vector ≡ pos 0) seen) free (λ p x y. (x, y.0, y.1)) wide
    (each_map2 (λ (p : Pair). pos 0 <ℤ divisor p) (λ p. Each (λ r. dot r p.vector ≡ pos 0) seen) (λ p. (pos 0 <ℤ divisor p) × Each (λ r. dot r p.vector ≡ pos 0) seen) free (λ p x y. (x, y)) (divisors_positive free (dual_right chosen free s.pair.dual)) s.free_vanish) in
    zip_change (λ c p. IsColumnPair w c p × (HasWidths w p × (pos 0 <ℤ divisor p) × Each (λ r. dot r p.vector ≡ pos 0) seen)) (IsLeft w seen) columns free
    (λ c p k. record { column = k.0; widths = k.1.0; positive = k.1.1; vanish = k.1.2 }) (zip_right (IsColumnPair w) (λ p. HasWidths w p × (pos 0 <ℤ divisor p) × Each (λ r. dot r p.vector ≡ pos 0) seen) columns free a.each known)

-- the entry of the vector at its own column
pub own_entry : (w : ℕ) (seen : List Vector) (c : ℕ) (p : Pair) → IsLeft w seen c p → pos 0 <ℤ entry p.vector c
own_entry w seen c p k = let e = k.column.unit p.vector k.widths.vector_width in let d = k.positive in omega (arith, sums)

left_is_other : (w : ℕ) (seen : List Vector) (c : ℕ) (p : Pair) → Each (HasWidth w) seen → IsLeft w seen c p → IsOtherColumn w seen c
left_is_other w seen c p l k = record {
  within = k.column.within;
  not_key = λ (y : IsKeyColumn w seen c). value_at_end p.vector y.0 c
      (record { nonzero = λ e. let o = own_entry w seen c p k in omega (arith, sums); after = k.column.after }) y.2
      (zero_on_span p.vector w seen y.0 l (each_map (λ r. dot r p.vector ≡ pos 0) (λ r. dot p.vector r ≡ pos 0) seen (λ r e. dot_comm p.vector r ∙ e) k.vanish) y.1);
}

-- ---- all others are key columns
-- the value at column k of the spread by the forms that vanish on the rows
spread_entry : (w k : ℕ) (y : Vector) (columns : List ℕ) (free : List Pair) → HasWidth w y → k < w → Each (HasWidths w) free → AllZip (λ c p. IsColumnPair w c p × ((dot p.vector y ≡ pos 0) ⊎ (k ≢ c))) columns free → dot (unit_at w k) (spread w (map swap free) y) ≡ pos 0
spread_entry w k y [] [] ly lk l z = dot-zero (unit_at w k) w
spread_entry w k y [] (p ∷ free) ly lk l z = absurd z
spread_entry w k y (c ∷ columns) [] ly lk l z = absurd z
spread_entry w k y (c ∷ columns) (p ∷ free) ly lk l z =
    let rest = spread_entry w k y columns free ly lk l.1 z.1 in
    let D = product (map swap free) in
    let first : (D *ℤ dot p.vector y) *ℤ dot (unit_at w k) p.form ≡ pos 0 = elim z.0.1 [
      | inl e ↦ ap (λ t. (D *ℤ t) *ℤ dot (unit_at w k) p.form) e ∙ ap (λ t. t *ℤ dot (unit_at w k) p.form) (*ℤ-zero D) ∙ zero-*ℤ (dot (unit_at w k) p.form)
      | inr n ↦ ap (λ t. (D *ℤ dot p.vector y) *ℤ t) (dot_comm (unit_at w k) p.form ∙ z.0.0.unit (unit_at w k) (length-unit_at w k) ∙ entry-unit_other w k c n) ∙ *ℤ-zero (D *ℤ dot p.vector y)
    ] in
    value_step w (swap p) (map swap free) (unit_at w k) y (record { form_width = l.0.vector_width; vector_width = l.0.form_width }) (swapped_widths w free l.1)
    ∙ omega (arith, sums, first, ap (λ t. divisor (swap p) *ℤ t) rest, *ℤ-zero (divisor (swap p)))

pub key_of_missing : (w : ℕ) (seen : List Vector) (columns : List ℕ) (chosen free : List Pair) (j : ℕ) → Each (HasWidth w) seen → IsState w seen chosen free → AreColumnPairs w columns free → j < w → ¬ Contains columns j → IsKeyColumn w seen j
key_of_missing w seen columns chosen free j l s a lj missing =
    let y = unit_at w j in
    let ly : HasWidth w y = length-unit_at w j in
    let wide : Each (HasWidths w) free = each_right (HasWidths w) chosen free s.pair.widths in
    let swapped = map swap free in
    let wide' = swapped_widths w free wide in
    let dual' = swapped_dual free (dual_right chosen free s.pair.dual) in
    let D = product swapped in
    let S = spread w swapped y in
    let lS : HasWidth w S = length-spread w swapped y wide' in
    let x = plus (scaled D y) (scaled (negsuc 0) S) in
    let lx : HasWidth w x = length-plus w (scaled D y) (scaled (negsuc 0) S) (length-scaled w D y ly) (length-scaled w (negsuc 0) S lS) in
    let value : (f : Vector) → dot f x ≡ D *ℤ dot f y +ℤ negsuc 0 *ℤ dot f S = λ f. dot-plus w f (scaled D y) (scaled (negsuc 0) S) (length-scaled w D y ly) (length-scaled w (negsuc 0) S lS) ∙ ap₂ ◌+ℤ◌ (dot-scaled f D y) (dot-scaled f (negsuc 0) S) in
    let vanish : Each (λ (p : Pair). dot x p.vector ≡ pos 0) free = map_each swap (λ (q : Pair). dot x q.form ≡ pos 0) free
    (each_map (λ (q : Pair). dot q.form S ≡ D *ℤ dot q.form y) (λ (q : Pair). dot x q.form ≡ pos 0) swapped (λ q e. dot_comm x q.form ∙ value q.form ∙ ap (λ t. D *ℤ dot q.form y +ℤ negsuc 0 *ℤ t) e ∙ omega (arith, ints)) (values_at_spread w swapped y wide' dual')) in
    let others : Each (λ c. j ≢ c) columns = Each-from_contains (λ c. j ≢ c) columns (λ c k e. missing (subst (Contains columns) (sym e) k)) in
    let at_own : dot (unit_at w j) S ≡ pos 0 = spread_entry w j y columns free ly lj wide (own_cases columns free a.each others) in
    let earlier : (k : ℕ) → k < j → dot (unit_at w k) S ≡ pos 0 = λ k m. spread_entry w k y columns free ly (omega arith) wide (earlier_cases k m columns free wide a.each) in
    let own : entry x j ≡ D = sym (unit_at-dot w j x lx) ∙ value (unit_at w j) ∙ ap₂ (λ s t. D *ℤ s +ℤ negsuc 0 *ℤ t) (unit_at-dot w j y ly ∙ entry-unit_own w j lj) at_own ∙ omega (arith, ints) in
    let positive = product_positive swapped dual' in (
      x,
      in_seen_span w seen chosen free x l lx s vanish,
      leads_at x j (λ e. omega (arith, sums, own, e, positive))
          (λ k m. sym (unit_at-dot w k x lx) ∙ value (unit_at w k) ∙ ap₂ (λ s t. D *ℤ s +ℤ negsuc 0 *ℤ t) (unit_at-dot w k y ly ∙ entry-unit_other w j k (λ e. omega arith)) (earlier k m) ∙ omega (arith, ints, *ℤ-zero D)),
    )
  where
    own_cases : (cs : List ℕ) (ps : List Pair) → AllZip (IsColumnPair w) cs ps → Each (λ c. j ≢ c) cs → AllZip (λ c p. IsColumnPair w c p × ((dot p.vector (unit_at w j) ≡ pos 0) ⊎ (j ≢ c))) cs ps
    own_cases [] [] z n = tt
    own_cases [] (p ∷ ps) z n = absurd z
    own_cases (c ∷ cs) [] z n = absurd z
    own_cases (c ∷ cs) (p ∷ ps) z n = ((z.0, inr n.0), own_cases cs ps z.1 n.1)

    earlier_cases : (k : ℕ) → k < j → (cs : List ℕ) (ps : List Pair) → Each (HasWidths w) ps → AllZip (IsColumnPair w) cs ps → AllZip (λ c p. IsColumnPair w c p × ((dot p.vector (unit_at w j) ≡ pos 0) ⊎ (k ≢ c))) cs ps
    earlier_cases k m [] [] h z = tt
    earlier_cases k m [] (p ∷ ps) h z = absurd z
    earlier_cases k m (c ∷ cs) [] h z = absurd z
    earlier_cases k m (c ∷ cs) (p ∷ ps) h z = (
      (
        z.0,
        elim (column_cases k c) [
          | inl e ↦ inl (dot-unit_at w j p.vector h.0.vector_width ∙ z.0.after j (omega arith))
          | inr n ↦ inr n
        ],
      ),
      earlier_cases k m cs ps h.1 z.1,
    )

listed_or_not : (columns : List ℕ) (j : ℕ) → Contains columns j ⊎ ¬ Contains columns j
listed_or_not [] j = inr (contains_none j)
listed_or_not (c ∷ columns) j = elim (column_cases c j) [
  | inl e ↦ inl (subst (Contains (c ∷ columns)) e (contains_here c columns))
  | inr n ↦ elim (listed_or_not columns j) [
    | inl k ↦ inl (contains_there c j columns k)
    | inr m ↦ inr (λ k. elim (contains_cases c columns j k) [ inl e ↦ n e | inr i ↦ m i ])
  ]
]

-- a column is a key column or not
pub key_or_other : (w : ℕ) (seen : List Vector) (columns : List ℕ) (chosen free : List Pair) (j : ℕ) → Each (HasWidth w) seen → IsState w seen chosen free → AreColumnPairs w columns free → j < w → IsKeyColumn w seen j ⊎ Contains columns j
key_or_other w seen columns chosen free j l s a lj = elim (listed_or_not columns j) [ inl k ↦ inr k | inr n ↦ inl (key_of_missing w seen columns chosen free j l s a lj n) ]

-- the columns of the vectors left are the list of the columns that are no key column
pub columns_are_other : (w : ℕ) (seen : List Vector) (columns : List ℕ) (chosen free : List Pair) → Each (HasWidth w) seen → IsState w seen chosen free → AreColumnPairs w columns free → IsListOf ◌<◌ (IsOtherColumn w seen) columns
columns_are_other w seen columns chosen free l s a = record {
  in_order = a.in_order;
  only = zip_left (IsLeft w seen) (IsOtherColumn w seen) columns free (λ c p k. left_is_other w seen c p l k) (all_left w seen columns chosen free s a);
  each = λ j o. elim (key_or_other w seen columns chosen free j l s a o.within) [ inl k ↦ absurd (o.not_key k) | inr k ↦ k ];
}

-- ---- the equations
others_vanish : (w : ℕ) (columns : List ℕ) (ps : List Pair) → Each (HasWidths w) ps → IsDual ps → AllZip (IsColumnPair w) columns ps → AllZip (λ c p. (j : ℕ) → Contains columns j → j ≢ c → entry p.vector j ≡ pos 0) columns ps
others_vanish w [] [] l d z = tt
others_vanish w [] (p ∷ ps) l d z = absurd z
others_vanish w (c ∷ columns) [] l d z = absurd z
others_vanish w (c ∷ columns) (p ∷ ps) l d z = (
  (λ j k n. elim (contains_cases c columns j k) [ inl e ↦ absurd (n (sym e)) | inr i ↦ back columns ps d.1 z.1 j i ]),
  both columns ps l.1 d.1 columns (others_vanish w columns ps l.1 d.2 z.1),
)
  where
    back : (cs : List ℕ) (qs : List Pair) → Each (IsApart p) qs → AllZip (IsColumnPair w) cs qs → (j : ℕ) → Contains cs j → entry p.vector j ≡ pos 0
    back [] [] h k j i = absurd (contains_none j i)
    back [] (q ∷ qs) h k j i = absurd k
    back (b ∷ cs) [] h k j i = absurd k
    back (b ∷ cs) (q ∷ qs) h k j i = elim (contains_cases b cs j i) [
      | inl e ↦ subst (λ (t : ℕ). entry p.vector t ≡ pos 0) e (sym (k.0.unit p.vector l.0.vector_width) ∙ h.0.back)
      | inr m ↦ back cs qs h.1 k.1 j m
    ]

    both : (cs : List ℕ) (qs : List Pair) → Each (HasWidths w) qs → Each (IsApart p) qs → (all : List ℕ) → AllZip (λ b q. (j : ℕ) → Contains all j → j ≢ b → entry q.vector j ≡ pos 0) cs qs → AllZip (λ b q. (j : ℕ) → Contains (c ∷ all) j → j ≢ b → entry q.vector j ≡ pos 0) cs qs
    both [] [] h i all k = tt
    both [] (q ∷ qs) h i all k = absurd k
    both (b ∷ cs) [] h i all k = absurd k
    both (b ∷ cs) (q ∷ qs) h i all k = (
      (λ j m n. elim (contains_cases c all j m) [
        | inl e ↦ subst (λ (t : ℕ). entry q.vector t ≡ pos 0) e (sym (z.0.unit q.vector h.0.vector_width) ∙ i.0.there)
        | inr o ↦ k.0 j o n
      ]),
      both cs qs h.1 i.1 all k.1,
    )

pub primitive_entry : (w : ℕ) (b f : Vector) (j : ℕ) (i : IsPrimitiveOf b f) → HasWidth w f → i.factor *ℤ entry f j ≡ entry b j
primitive_entry w b f j i l = sym (entry-scaled i.factor f j) ∙ ap (λ v. entry v j) i.same

pub left_equation : (w : ℕ) (seen : List Vector) (columns : List ℕ) (c : ℕ) (p : Pair) (f : Vector) → IsLeft w seen c p → ((j : ℕ) → IsOtherColumn w seen j → j ≢ c → entry p.vector j ≡ pos 0) → IsPrimitiveOf p.vector f → IsEquationAt w seen c f
left_equation w seen columns c p f k z i =
    let lf : HasWidth w f = sym (length-scaled (length f) i.factor f refl) ∙ ap length i.same ∙ k.widths.vector_width in
    record {
      width = lf;
      primitive = i.primitive;
      zero_on = each_map (λ r. dot r p.vector ≡ pos 0) (λ r. dot f r ≡ pos 0) seen
          (λ r e. mul_is_zero i.factor (dot f r) i.positive (sym (scaled-dot i.factor f r) ∙ ap (λ v. dot v r) i.same ∙ dot_comm p.vector r ∙ e)) k.vanish;
      positive = mul_is_pos i.factor (entry f c) i.positive (rw (primitive_entry w p.vector f c i lf) (own_entry w seen c p k));
      zero_at = λ j o n. mul_is_zero i.factor (entry f j) i.positive (primitive_entry w p.vector f j i lf ∙ z j o n);
    }

-- the primitive vectors of those left are the equations
pub equations_of_left : (w : ℕ) (seen : List Vector) (columns : List ℕ) (chosen free : List Pair) (fs : List Vector) → Each (HasWidth w) seen → IsState w seen chosen free → AreColumnPairs w columns free → AllZip (λ (p : Pair) f. IsPrimitiveOf p.vector f) free fs → AreEquations w seen fs
equations_of_left w seen columns chosen free fs l s a i =
    let list = columns_are_other w seen columns chosen free l s a in
    let zero = others_vanish w columns free (each_right (HasWidths w) chosen free s.pair.widths) (dual_right chosen free s.pair.dual) a.each in
    let known = zip_both (IsLeft w seen) (λ c p. (j : ℕ) → Contains columns j → j ≢ c → entry p.vector j ≡ pos 0) columns free (all_left w seen columns chosen free s a) zero in
    record {
      columns = columns;
      others = list;
      each = zip_meet (λ c p. IsLeft w seen c p × ((j : ℕ) → Contains columns j → j ≢ c → entry p.vector j ≡ pos 0)) (λ (p : Pair) f. IsPrimitiveOf p.vector f) (IsEquationAt w seen) columns free fs
          (λ c p f k m. left_equation w seen columns c p f k.0 (λ j o n. k.1 j (list.each j o) n) m) known i;
    }
