-- The dual forms of independent vectors: unique, and given by the chosen rows of elimination.
use Rattle.std.proofs.Common.{◌≡◌, ◌≢◌, inl, inr, ℕ, List, [], ◌∷◌, ◌++◌, length, pos, ◌*ℤ◌, ◌<ℤ◌, refl, sym, ap, ◌∙◌, subst}
use Rattle.std.proofs.Math.IntN.{*ℤ_comm}
use Rattle.std.proofs.lemmas.List.{append_assoc, map-append}
use Rattle.std.specs.List.{AllByRecursion as Each, AllZip, Contains}
use Rattle.nz_spec.specs.Vectors.{Vector, dot, entry, HasWidth}
use Rattle.nz_spec.specs.Forms.{IsKeyColumn, IsOtherColumn, IsDualForm, AreDualForms}
use Rattle.nz_spec.specs.Sums.{IsInSpan}
use Rattle.nz_spec.proofs.ListLaws.{Each-contains, Each-from_contains, contains_cases, contains_here, contains_there}
use Rattle.nz_spec.proofs.EquationLaws.{dot_comm}
use Rattle.nz_spec.proofs.UniqueLaws.{same_or_not}
use Rattle.nz_linear.specs.DualPairs.{Pair, divisor, IsApart, HasWidths, IsDual}
use Rattle.nz_linear.specs.Division.{IsPrimitiveOf}
use Rattle.nz_linear.specs.Elimination.{IsState}
use Rattle.nz_linear.specs.Echelon.{IsColumnPair, AreColumnPairs}
use Rattle.nz_linear.proofs.Ring.{both_zero}
use Rattle.nz_linear.proofs.Signs.{mul_is_zero, mul_is_pos}
use Rattle.nz_linear.proofs.Lists.{each_map, each_map2, each_left, each_right, each_append, each_of_map}
use Rattle.nz_linear.proofs.VectorLaws.{length-scaled, scaled-dot}
use Rattle.nz_linear.proofs.NormalForms.{normal_unique}
use Rattle.nz_linear.proofs.Spans.{span_within}
use Rattle.nz_linear.proofs.Rank.{chosen_rows, chosen_members, in_chosen_span, seen_vanish}
use Rattle.nz_linear.proofs.KeyColumns.{primitive_entry, columns_are_other}

-- ---- unique
-- a dual form of v is 0 at each vector but v
zero_at_others : (w : ℕ) (vectors : List Vector) (v f x : Vector) → IsDualForm w vectors v f → Contains vectors x → x ≢ v → dot f x ≡ pos 0
zero_at_others w vectors v f x d c n =
    let k : Contains (d.earlier ++ v ∷ d.later) x = subst (λ (vs : List Vector). Contains vs x) d.whole c in
    by d.earlier d.later d.zero_on k
  where
    by : (e l : List Vector) → Each (λ g. dot f g ≡ pos 0) (e ++ l) → Contains (e ++ v ∷ l) x → dot f x ≡ pos 0
    by [] l z k = elim (contains_cases v l x k) [ inl h ↦ absurd (n (sym h)) | inr i ↦ Each-contains (λ g. dot f g ≡ pos 0) l x z i ]
    by (a ∷ e) l z k = elim (contains_cases a (e ++ v ∷ l) x k) [ inl h ↦ ap (dot f) (sym h) ∙ z.0 | inr i ↦ by e l z.1 i ]

in_list : {w : ℕ} {vectors : List Vector} {v f : Vector} → IsDualForm w vectors v f → Contains vectors v
in_list {vectors} {v} d = subst (λ (vs : List Vector). Contains vs v) (sym d.whole) (middle d.earlier d.later)
  where
    middle : (e l : List Vector) → Contains (e ++ v ∷ l) v
    middle [] l = contains_here v l
    middle (a ∷ e) l = contains_there a v (e ++ v ∷ l) (middle e l)

pub dual_form_unique : (w : ℕ) (vectors : List Vector) (v f g : Vector) → Each (HasWidth w) vectors → IsDualForm w vectors v f → IsDualForm w vectors v g → f ≡ g
dual_form_unique w vectors v f g l p q =
    let a = dot g v in
    let b = dot f v in
    normal_unique w vectors f g a b q.positive p.positive p.width q.width p.primitive q.primitive l
    (Each-from_contains (λ x. a *ℤ dot f x ≡ b *ℤ dot g x) vectors (λ x c. elim (same_or_not x v (Each-contains (HasWidth w) vectors x l c ∙ sym (Each-contains (HasWidth w) vectors v l (in_list p)))) [
      | inl e ↦ ap (λ t. a *ℤ dot f t) e ∙ *ℤ_comm a b ∙ ap (λ t. b *ℤ dot g t) (sym e)
      | inr n ↦ both_zero a (dot f x) b (dot g x) (zero_at_others w vectors v f x p c n) (zero_at_others w vectors v g x q c n)
    ]))
    (λ j o. both_zero a (entry f j) b (entry g j) (p.zero_at j o) (q.zero_at j o))

-- ---- from elimination
-- rows with one span have the same key columns
other_by_span : (w : ℕ) (G H : List Vector) (j : ℕ) → ((x : Vector) → IsInSpan w H x → IsInSpan w G x) → IsOtherColumn w G j → IsOtherColumn w H j
other_by_span w G H j f o = record { within = o.within; not_key = λ (k : IsKeyColumn w H j). o.not_key (k.0, f k.0 k.1, k.2) }

-- the forms of the pairs left are unit forms of the other columns, so the vectors of those chosen are 0 there
zero_at_columns : (w : ℕ) (columns : List ℕ) (free : List Pair) (x : Vector) → HasWidth w x → AllZip (IsColumnPair w) columns free → Each (λ (p : Pair). dot p.form x ≡ pos 0) free → Each (λ c. entry x c ≡ pos 0) columns
zero_at_columns w [] [] x l z v = tt
zero_at_columns w [] (p ∷ free) x l z v = absurd z
zero_at_columns w (c ∷ columns) [] x l z v = absurd z
zero_at_columns w (c ∷ columns) (p ∷ free) x l z v = (sym (z.0.unit x l) ∙ v.0, zero_at_columns w columns free x l z.1 v.1)

-- what is known of a pair of a dual list, in its place
record InPlace (w : ℕ) (chosen free : List Pair) (p : Pair) : Type 0 where
  earlier : List Pair
  later : List Pair
  whole : chosen ≡ earlier ++ p ∷ later
  widths : HasWidths w p
  positive : pos 0 <ℤ divisor p
  others : Each (λ (q : Pair). dot q.form p.vector ≡ pos 0) (earlier ++ later)
  left : Each (λ (q : Pair). dot q.form p.vector ≡ pos 0) free

in_place : (w : ℕ) (before ps free : List Pair) → Each (HasWidths w) ps → IsDual (ps ++ free) → Each (λ (p : Pair). Each (λ (q : Pair). dot q.form p.vector ≡ pos 0) before) ps → Each (InPlace w (before ++ ps) free) ps
in_place w before [] free h d b = tt
in_place w before (p ∷ ps) free h d b =
    let apart : Each (λ (q : Pair). dot q.form p.vector ≡ pos 0) (ps ++ free) = each_map (IsApart p) (λ (q : Pair). dot q.form p.vector ≡ pos 0) (ps ++ free) (λ q a. a.back) d.1 in
    let there : Each (λ (q : Pair). dot p.form q.vector ≡ pos 0) ps = each_left (λ (q : Pair). dot p.form q.vector ≡ pos 0) ps free (each_map (IsApart p) (λ (q : Pair). dot p.form q.vector ≡ pos 0) (ps ++ free) (λ q a. a.there) d.1) in
    let rest = in_place w (before ++ p ∷ []) ps free h.1 d.2
    (each_map2 (λ (q : Pair). Each (λ (r : Pair). dot r.form q.vector ≡ pos 0) before) (λ (q : Pair). dot p.form q.vector ≡ pos 0) (λ (q : Pair). Each (λ (r : Pair). dot r.form q.vector ≡ pos 0) (before ++ p ∷ [])) ps
    (λ q x y. each_append (λ (r : Pair). dot r.form q.vector ≡ pos 0) before (p ∷ []) x (y, tt)) b.1 there) in (
      record {
        earlier = before;
        later = ps;
        whole = refl;
        widths = h.0;
        positive = d.0;
        others = each_append (λ (q : Pair). dot q.form p.vector ≡ pos 0) before ps b.0 (each_left (λ (q : Pair). dot q.form p.vector ≡ pos 0) ps free apart);
        left = each_right (λ (q : Pair). dot q.form p.vector ≡ pos 0) ps free apart;
      },
      subst (λ (all : List Pair). Each (InPlace w all free) ps) (append_assoc before (p ∷ []) ps) rest,
    )

-- the form of a chosen pair and the primitive vector of it
form_in_place : (w : ℕ) (seen : List Vector) (columns : List ℕ) (chosen free : List Pair) (p : Pair) (f : Vector) → Each (HasWidth w) seen → IsState w seen chosen free → AreColumnPairs w columns free → InPlace w chosen free p → IsPrimitiveOf p.vector f → IsDualForm w (chosen_rows chosen) p.form f
form_in_place w seen columns chosen free p f l s a k i =
    let lp = k.widths.vector_width in
    let lf : HasWidth w f = sym (length-scaled (length f) i.factor f refl) ∙ ap length i.same ∙ lp in
    let value : (x : Vector) → i.factor *ℤ dot f x ≡ dot x p.vector = λ x. sym (scaled-dot i.factor f x) ∙ ap (λ v. dot v x) i.same ∙ dot_comm p.vector x in
    let list = columns_are_other w seen columns chosen free l s a in
    let zero = zero_at_columns w columns free p.vector lp a.each k.left in
    let rows = chosen_rows chosen in
    let lr : Each (HasWidth w) rows = each_map (Contains seen) (HasWidth w) rows (λ v c. Each-contains (HasWidth w) seen v l c) (chosen_members w seen chosen free s) in
    record {
      earlier = chosen_rows k.earlier;
      later = chosen_rows k.later;
      whole = ap (λ (ps : List Pair). chosen_rows ps) k.whole ∙ map-append (λ (q : Pair). q.form) k.earlier (p ∷ k.later);
      width = lf;
      primitive = i.primitive;
      zero_at = λ j o.
          let o' : IsOtherColumn w seen j = other_by_span w rows seen j (λ x m. span_within w seen rows x lr (each_map (Contains seen) (IsInSpan w rows) seen (λ v c. in_chosen_span w seen chosen free v (Each-contains (HasWidth w) seen v l c) s (seen_vanish w seen chosen free v s c)) (Each-from_contains (Contains seen) seen (λ v c. c))) m) o in
          mul_is_zero i.factor (entry f j) i.positive (primitive_entry w p.vector f j i lf ∙ Each-contains (λ c. entry p.vector c ≡ pos 0) columns j zero (list.each j o'));
      positive = mul_is_pos i.factor (dot f p.form) i.positive (rw (value p.form) k.positive);
      zero_on = subst (Each (λ g. dot f g ≡ pos 0)) (map-append (λ (q : Pair). q.form) k.earlier k.later)
          (each_of_map (λ (q : Pair). q.form) (λ g. dot f g ≡ pos 0) (k.earlier ++ k.later) (each_map (λ (q : Pair). dot q.form p.vector ≡ pos 0) (λ (q : Pair). dot f q.form ≡ pos 0) (k.earlier ++ k.later) (λ q e. mul_is_zero i.factor (dot f q.form) i.positive (value q.form ∙ e)) k.others));
    }

-- the primitive vectors of the pairs chosen are the dual forms of the rows chosen
pub dual_forms_of_chosen : (w : ℕ) (seen : List Vector) (columns : List ℕ) (chosen free : List Pair) (fs : List Vector) → Each (HasWidth w) seen → IsState w seen chosen free → AreColumnPairs w columns free
    → AllZip (λ (p : Pair) f. IsPrimitiveOf p.vector f) chosen fs → AreDualForms w (chosen_rows chosen) fs
dual_forms_of_chosen w seen columns chosen free fs l s a z =
    let wide = each_left (HasWidths w) chosen free s.pair.widths in
    let places = in_place w [] chosen free wide s.pair.dual (each_map (HasWidths w) (λ p. Each (λ (q : Pair). dot q.form p.vector ≡ pos 0) []) chosen (λ p k. tt) wide) in
    by chosen fs places z
  where
    by : (ps : List Pair) (gs : List Vector) → Each (InPlace w chosen free) ps → AllZip (λ (p : Pair) f. IsPrimitiveOf p.vector f) ps gs → AllZip (IsDualForm w (chosen_rows chosen)) (chosen_rows ps) gs
    by [] [] k i = tt
    by [] (g ∷ gs) k i = absurd i
    by (p ∷ ps) [] k i = absurd i
    by (p ∷ ps) (g ∷ gs) k i = (form_in_place w seen columns chosen free p g l s a k.0 i.0, by ps gs k.1 i.1)
