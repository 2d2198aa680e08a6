-- Elimination with columns: the vectors left are the equations of the rows, and their columns are the columns that are no key column.
use Rattle.std.proofs.Common.{◌≡◌, ℕ, zero, suc, ◌+◌, ◌<◌, List, [], ◌∷◌, ◌++◌, length, map, pos, ◌+ℤ◌, ◌*ℤ◌, neg_ℤ, refl, sym, ap, ap₂, ◌∙◌, subst, arith}
use Rattle.std.proofs.Math.IntN.{*ℤ-zero, zero-*ℤ}
use Rattle.std.specs.List.{AllByRecursion as Each, AllZip, range_with_len}
use Rattle.nz_spec.specs.Vectors.{Vector, dot, zero_vector, entry, HasWidth}
use Rattle.nz_spec.specs.Order.{Pairwise}
use Rattle.nz_spec.proofs.EquationLaws.{entry-scaled}
use Rattle.nz_linear.specs.DualPairs.{Pair, HasWidths}
use Rattle.nz_linear.specs.Elimination.{IsCleared, IsPivotStep, shifted, unit_pairs}
use Rattle.nz_linear.specs.Echelon.{unit_at, IsColumnPair, AreColumnPairs}
use Rattle.nz_spec.proofs.VectorLaws.{zero-dot}
use Rattle.nz_linear.proofs.Ring.{sums, one-mul}
use Rattle.nz_linear.proofs.Signs.{mul_is_zero}
use Rattle.nz_linear.proofs.Lists.{each_left, each_right, each_remove}
use Rattle.nz_linear.proofs.VectorLaws.{length-scaled}
use Rattle.nz_linear.proofs.Units.{entry-zero_vector, unit_at-dot}
use Rattle.nz_linear.proofs.Elimination.{cleared_at_form}

-- ---- the start: all columns
shifted_columns : (w s t n : ℕ) (ps : List Pair) → t ≡ suc s → AllZip (IsColumnPair w) (range_with_len s n) ps → AllZip (IsColumnPair (suc w)) (range_with_len t n) (map shifted ps)
shifted_columns w s t zero [] e z = tt
shifted_columns w s t zero (p ∷ ps) e z = absurd z
shifted_columns w s t (suc n) [] e z = absurd z
shifted_columns w s t (suc n) (p ∷ ps) e z = (subst (λ (k : ℕ). IsColumnPair (suc w) k (shifted p)) (sym e) (more z.0), shifted_columns w (s + 1) (t + 1) n ps (omega arith) z.1)
  where
    at_unit : IsColumnPair w s p → (x : Vector) → HasWidth (suc w) x → dot (pos 0 ∷ p.form) x ≡ entry x (suc s)
    at_unit k [] l = absurd (omega arith)
    at_unit k (a ∷ x) l = omega (arith, sums, zero-*ℤ a, k.unit x (omega arith))

    later : IsColumnPair w s p → (k : ℕ) → suc s < k → entry (pos 0 ∷ p.vector) k ≡ pos 0
    later i zero l = refl
    later i (suc k) l = i.after k (omega arith)

    more : IsColumnPair w s p → IsColumnPair (suc w) (suc s) (shifted p)
    more k = record { within = (let h = k.within in omega arith); unit = at_unit k; after = later k }

start_each : (w : ℕ) → AllZip (IsColumnPair w) (range_with_len 0 w) (unit_pairs w)
start_each zero = tt
start_each (suc w) = (record { within = omega arith; unit = at_first; after = later }, shifted_columns w 0 1 w (unit_pairs w) refl (start_each w))
  where
    at_first : (x : Vector) → HasWidth (suc w) x → dot (pos 1 ∷ zero_vector w) x ≡ entry x 0
    at_first [] l = absurd (omega arith)
    at_first (a ∷ x) l = omega (arith, sums, one-mul a, zero-dot w x)

    later : (k : ℕ) → 0 < k → entry (pos 1 ∷ zero_vector w) k ≡ pos 0
    later zero l = absurd (omega arith)
    later (suc k) l = entry-zero_vector w k

range_above : (a s n : ℕ) → a < s → Each (◌<◌ a) (range_with_len s n)
range_above a s zero h = tt
range_above a s (suc n) h = (h, range_above a (s + 1) n (omega arith))

range_in_order : (s n : ℕ) → Pairwise ◌<◌ (range_with_len s n)
range_in_order s zero = tt
range_in_order s (suc n) = (range_above s (s + 1) n (omega arith), range_in_order (s + 1) n)

pub start_columns : (w : ℕ) → AreColumnPairs w (range_with_len 0 w) (unit_pairs w)
start_columns w = record { in_order = range_in_order 0 w; each = start_each w }

-- ---- a pivot step takes the column of the pivot away, if it is the first at which the row is not 0
-- the columns before the pivot's, it, and those after it
pub record IsColumnSplit (w : ℕ) (columns : List ℕ) (before : List Pair) (pivot : Pair) (after : List Pair) : Type 0 where
  pub front : List ℕ
  pub column : ℕ
  pub back : List ℕ
  pub whole : columns ≡ front ++ column ∷ back
  pub each_front : AllZip (IsColumnPair w) front before
  pub of_pivot : IsColumnPair w column pivot
  pub each_back : AllZip (IsColumnPair w) back after

pub split_columns : (w : ℕ) (columns : List ℕ) (before : List Pair) (pivot : Pair) (after : List Pair) → AllZip (IsColumnPair w) columns (before ++ pivot ∷ after) → IsColumnSplit w columns before pivot after
split_columns w [] [] pivot after z = absurd z
split_columns w [] (b ∷ before) pivot after z = absurd z
split_columns w (c ∷ columns) [] pivot after z = record { front = []; column = c; back = columns; whole = refl; each_front = tt; of_pivot = z.0; each_back = z.1 }
split_columns w (c ∷ columns) (b ∷ before) pivot after z =
    let r = split_columns w columns before pivot after z.1 in
    record { front = c ∷ r.front; column = r.column; back = r.back; whole = ap (λ t. c ∷ t) r.whole; each_front = (z.0, r.each_front); of_pivot = r.of_pivot; each_back = r.each_back }

-- an entry of a cleared vector
cleared_entry : (w : ℕ) (h u : Vector) (r q : Pair) (k : ℕ) (c : IsCleared w h u r q) → HasWidth w u → HasWidth w r.vector → c.factor *ℤ entry q.vector k ≡ dot h u *ℤ entry r.vector k +ℤ neg_ℤ (dot h r.vector) *ℤ entry u k
cleared_entry w h u r q k c lu lr =
    let e = unit_at w k in
    let at : (x : Vector) → HasWidth w x → dot e x ≡ entry x k = unit_at-dot w k in
    ap (λ t. c.factor *ℤ t) (sym (at q.vector c.width)) ∙ cleared_at_form w h u e r q c lu lr ∙ ap₂ (λ s t. dot h u *ℤ s +ℤ neg_ℤ (dot h r.vector) *ℤ t) (at r.vector lr) (at u lu)

cleared_column : (w c : ℕ) (h u : Vector) (r q : Pair) → IsCleared w h u r q → HasWidth w u → HasWidth w r.vector → IsColumnPair w c r → ((k : ℕ) → c < k → neg_ℤ (dot h r.vector) *ℤ entry u k ≡ pos 0) → IsColumnPair w c q
cleared_column w c h u r q i lu lr p z = record {
  within = p.within;
  unit = λ x l. ap (λ f. dot f x) i.same_form ∙ p.unit x l;
  after = λ k l. mul_is_zero i.factor (entry q.vector k) i.positive
      (cleared_entry w h u r q k i lu lr ∙ omega (arith, sums, ap (λ t. dot h u *ℤ t) (p.after k l), *ℤ-zero (dot h u), z k l));
}

front_columns : (w : ℕ) (h u : Vector) (cs : List ℕ) (rs : List Pair) (more : List ℕ) (others qs : List Pair) → HasWidth w u → Each (HasWidths w) rs → Each (λ (r : Pair). dot h r.vector ≡ pos 0) rs → AllZip (IsColumnPair w) cs rs
    → AllZip (IsCleared w h u) (rs ++ others) qs → ((ps : List Pair) → AllZip (IsCleared w h u) others ps → AllZip (IsColumnPair w) more ps) → AllZip (IsColumnPair w) (cs ++ more) qs
front_columns w h u [] [] more others qs lu l n z i back = back qs i
front_columns w h u [] (r ∷ rs) more others qs lu l n z i back = absurd z
front_columns w h u (c ∷ cs) [] more others qs lu l n z i back = absurd z
front_columns w h u (c ∷ cs) (r ∷ rs) more others [] lu l n z i back = absurd i
front_columns w h u (c ∷ cs) (r ∷ rs) more others (q ∷ qs) lu l n z i back = (
  cleared_column w c h u r q i.0 lu l.0.vector_width z.0 (λ k m. let e : neg_ℤ (dot h r.vector) ≡ pos 0 = (let f = n.0 in omega (arith, sums)) in ap (λ t. t *ℤ entry u k) e ∙ zero-*ℤ (entry u k)),
  front_columns w h u cs rs more others qs lu l.1 n.1 z.1 i.1 back,
)

back_columns : (w c : ℕ) (h u : Vector) (cs : List ℕ) (rs qs : List Pair) → HasWidth w u → ((k : ℕ) → c < k → entry u k ≡ pos 0) → Each (HasWidths w) rs → Each (◌<◌ c) cs → AllZip (IsColumnPair w) cs rs → AllZip (IsCleared w h u) rs qs → AllZip (IsColumnPair w) cs qs
back_columns w c h u [] [] [] lu e l a z i = tt
back_columns w c h u [] [] (q ∷ qs) lu e l a z i = absurd i
back_columns w c h u [] (r ∷ rs) qs lu e l a z i = absurd z
back_columns w c h u (d ∷ cs) [] qs lu e l a z i = absurd z
back_columns w c h u (d ∷ cs) (r ∷ rs) [] lu e l a z i = absurd i
back_columns w c h u (d ∷ cs) (r ∷ rs) (q ∷ qs) lu e l a z i = (
  cleared_column w d h u r q i.0 lu l.0.vector_width z.0 (λ k m. ap (λ t. neg_ℤ (dot h r.vector) *ℤ t) (e k (let b = a.0 in omega arith)) ∙ *ℤ-zero (neg_ℤ (dot h r.vector))),
  back_columns w c h u cs rs qs lu e l.1 a.1 z.1 i.1,
)

order_remove : (xs : List ℕ) (c : ℕ) (ys : List ℕ) → Pairwise ◌<◌ (xs ++ c ∷ ys) → Pairwise ◌<◌ (xs ++ ys)
order_remove [] c ys p = p.1
order_remove (x ∷ xs) c ys p = ((each_remove (◌<◌ x) c xs ys p.0).1, order_remove xs c ys p.1)

order_after : (xs : List ℕ) (c : ℕ) (ys : List ℕ) → Pairwise ◌<◌ (xs ++ c ∷ ys) → Each (◌<◌ c) ys
order_after [] c ys p = p.0
order_after (x ∷ xs) c ys p = order_after xs c ys p.1

pub pivot_columns : (w : ℕ) (h : Vector) (columns : List ℕ) (chosen free new_chosen new_free : List Pair) → Each (HasWidths w) free → AreColumnPairs w columns free → (t : IsPivotStep w h chosen free new_chosen new_free) → Each (λ p. dot h p.vector ≡ pos 0) t.before
    → (s : IsColumnSplit w columns t.before t.pivot t.after) → AreColumnPairs w (s.front ++ s.back) new_free
pivot_columns w h columns chosen free new_chosen new_free l a t n s =
    let wide : Each (HasWidths w) (t.pivot ∷ (t.before ++ t.after)) = each_remove (HasWidths w) t.pivot t.before t.after (subst (Each (HasWidths w)) t.split l) in
    let order : Pairwise ◌<◌ (s.front ++ s.column ∷ s.back) = subst (Pairwise ◌<◌) s.whole a.in_order in
    let lu : HasWidth w t.u = ap length t.turned.same ∙ length-scaled w t.turned.sign t.pivot.vector wide.0.vector_width in
    let after_u : (k : ℕ) → s.column < k → entry t.u k ≡ pos 0 = λ k m. ap (λ x. entry x k) t.turned.same ∙ entry-scaled t.turned.sign t.pivot.vector k ∙ ap (λ y. t.turned.sign *ℤ y) (s.of_pivot.after k m) ∙ *ℤ-zero t.turned.sign in
    record {
      in_order = order_remove s.front s.column s.back order;
      each = front_columns w h t.u s.front t.before s.back t.after new_free lu (each_left (HasWidths w) t.before t.after wide.1) n s.each_front t.clears_free
          (λ ps i. back_columns w s.column h t.u s.back t.after ps lu after_u (each_right (HasWidths w) t.before t.after wide.1) (order_after s.front s.column s.back order) s.each_back i);
    }

-- the columns of a list that is cut at one pair, with as many before it
columns_cut : (w : ℕ) (front : List ℕ) (c : ℕ) (back : List ℕ) (before : List Pair) (pivot : Pair) (after : List Pair) → length front ≡ length before → AllZip (IsColumnPair w) (front ++ c ∷ back) (before ++ pivot ∷ after)
    → AllZip (IsColumnPair w) front before × IsColumnPair w c pivot × AllZip (IsColumnPair w) back after
columns_cut w [] c back [] pivot after l z = (tt, z.0, z.1)
columns_cut w [] c back (b ∷ before) pivot after l z = absurd (omega arith)
columns_cut w (d ∷ front) c back [] pivot after l z = absurd (omega arith)
columns_cut w (d ∷ front) c back (b ∷ before) pivot after l z = let r = columns_cut w front c back before pivot after (omega arith) z.1 in ((z.0, r.0), r.1, r.2)

-- a pivot step leaves out the column at the place of the pivot
pub pivot_columns_at : (w : ℕ) (h : Vector) (front : List ℕ) (c : ℕ) (back : List ℕ) (chosen free new_chosen new_free : List Pair) → Each (HasWidths w) free → AreColumnPairs w (front ++ c ∷ back) free → (t : IsPivotStep w h chosen free new_chosen new_free)
    → Each (λ p. dot h p.vector ≡ pos 0) t.before → length front ≡ length t.before → AreColumnPairs w (front ++ back) new_free
pivot_columns_at w h front c back chosen free new_chosen new_free l a t n e =
    let r = columns_cut w front c back t.before t.pivot t.after e (subst (AllZip (IsColumnPair w) (front ++ c ∷ back)) t.split a.each) in
    pivot_columns w h (front ++ c ∷ back) chosen free new_chosen new_free l a t n (record { front = front; column = c; back = back; whole = refl; each_front = r.0; of_pivot = r.1; each_back = r.2 })
