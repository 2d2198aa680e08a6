-- Both sides of a row: what an offer to one of them keeps, and when they are complete.
use Rattle.std.proofs.Common.{◌≡◌, ◌⊎◌, ⊎_elim, inl, inr, ℕ, zero, suc, ◌+◌, ◌<◌, ◌≤◌, ◌^◌, List, [], ◌∷◌, ◌++◌, length, take, get_or, Option, Some, None, ℤ, pos, neg_ℤ, ◌*ℤ◌, ◌+ℤ◌, ◌-ℤ◌, ◌≤ℤ◌, ◌<ℤ◌, Contains, refl, sym, ap, ap₂, ◌∙◌, subst, arith, append_assoc}
use Rattle.std.proofs.lemmas.Int.{ints, by_lt_z}
use Rattle.std.proofs.lemmas.List.{take_more}
use Rattle.std.proofs.lemmas.List.Elements.{Contains-append_left, Contains-append_right, Contains-append_cases}
use Rattle.std.specs.Prelude.{unsigned_abs}
use Rattle.std.specs.List.{AllZip, AllByRecursion as Each}
use Rattle.nz_spec.specs.Vectors.{Vector, dot, plus, opposite, HasWidth, IsNonzero}
use Rattle.nz_spec.specs.Laws.{IsDegreeOf}
use Rattle.nz_spec.specs.Monoids.{IsPositive, IsIrreducible}
use Rattle.nz_spec.specs.Stages.{IsInStage, IsInReversed}
use Rattle.nz_spec.proofs.VectorLaws.{dot-plus, dot-IsZero}
use Rattle.nz_spec.proofs.ListLaws.{Each-contains, Each-weaker, contains_here, contains_cases, contains_none, each_at}
use Rattle.nz_order.specs.Totals.{total}
use Rattle.nz_order.proofs.OrderLaws.{Each-push}
use Rattle.nz_order.proofs.SortLaws.{Each-front}
use Rattle.nz_order.proofs.RowLaws.{whole_lattice, stage_closed, stage_degree}
use Rattle.nz_order.proofs.StageInsert.{stage_complete, reversed_complete}
use Rattle.nz_vec.specs.declared.answers.Num.{Num}
use Rattle.nz_vec.specs.declared.answers.Num.TheVariants as num
use Rattle.nz_vec.specs.declared.answers.Work.{Work}
use Rattle.nz_vec.specs.declared.answers.Work.TheVariants.{Range, TooMany, Stopped, NoMemory}
use Rattle.nz_range.specs.Measures.{pair_measure, SomeLarge}
use Rattle.nz_range.proofs.Fits.{abs_of_neg}
use Rattle.nz_linear.proofs.Ring.{sums, ring_z}
use Rattle.nz_dual.specs.DualStages.{IsElement, IsReversedElement, IsStageList, IsNamed, element, reversed, sum, IsTooLarge, IsInsertRefusal}
use Rattle.nz_dual.specs.Sides.{SideLists, IsSide, IsSideElement, Keeps, Handles, HasGrown, IsWorkOf, IsOfferRefusal}
use Rattle.nz_dual.specs.PairSums.{IsNotSooner, IsNext, IsSumOf, AreSums}
use Rattle.nz_dual.specs.Closures.{IsPart, IsSettled, HandlesSums, IsComplete, IsOfferedRefusal}
use Rattle.nz_dual.proofs.SideLemmas.{old_element, keeps_lower, keeps_more, handles_more, opposite_value, opposite_length, reversed_of_side, side_of_reversed}

-- ---- growth
pub grown_trans : (limit : ℕ) (rows : List Vector) (a b c : SideLists) → HasGrown limit rows a b → HasGrown limit rows b c → HasGrown limit rows a c
grown_trans limit rows a b c f g = record {
  side = g.side;
  last = g.last ∙ f.last;
  more = f.more ++ g.more;
  extends = g.extends ∙ ap (λ (xs : List Vector). xs ++ g.more) f.extends ∙ append_assoc a.elements f.more g.more;
}

pub grown_handles : (limit : ℕ) (rows : List Vector) (last : Vector) (a b : SideLists) (xs : List Vector) → HasGrown limit rows a b → Each (Handles rows last a.elements) xs → Each (Handles rows last b.elements) xs
grown_handles limit rows last a b xs f h = Each-weaker (Handles rows last a.elements) (Handles rows last b.elements) (λ x k. subst (λ (es : List Vector). Handles rows last es x) (sym f.extends) (handles_more rows last a.elements f.more x k)) xs h

pub grown_keeps : (limit : ℕ) (rows : List Vector) (a b : SideLists) (xs : List Vector) (place : ℕ) (x : Vector) → HasGrown limit rows a b → Each (Keeps rows a.last a.elements) xs → place < length xs → x ≡ get_or xs place [] → Keeps rows b.last b.elements x
grown_keeps limit rows a b xs place x f h l e =
    let k = subst (Keeps rows a.last a.elements) (sym e) (each_at (Keeps rows a.last a.elements) xs place [] h l) in
    subst (λ (v : Vector). Keeps rows v b.elements x) (sym f.last) (subst (λ (es : List Vector). Keeps rows a.last es x) (sym f.extends) (keeps_more rows a.last a.elements f.more x k))

-- one vector more is handled
pub handles_next : (limit : ℕ) (rows : List Vector) (a b c : SideLists) (xs : List Vector) (place : ℕ) (x : Vector) → place < length xs → x ≡ get_or xs place [] → HasGrown limit rows a b → HasGrown limit rows b c → Handles rows b.last c.elements x
    → Each (Handles rows a.last b.elements) (take place xs) → Each (Handles rows a.last c.elements) (take (place + 1) xs)
handles_next limit rows a b c xs place x l e f g h done =
    subst (Each (Handles rows a.last c.elements)) (sym (take_more xs place [] l))
    (Each-push (Handles rows a.last c.elements) (take place xs) (get_or xs place []) (grown_handles limit rows a.last b c (take place xs) g done)
    (subst (Handles rows a.last c.elements) e (subst (λ (v : Vector). Handles rows v c.elements x) f.last h)))

pub large_offered : (h : ℤ) (limit : ℕ) (rows : List Vector) (last : Vector) (P Q : Vector → Type 0) (work : Work) → ((v : Vector) → P v → Q v) → IsOfferRefusal h limit rows last P work → IsOfferRefusal h limit rows last Q work
large_offered h limit rows last P Q (Range told) f r = (r.0, record { form = r.1.form; vector = r.1.vector; is_form = r.1.is_form; named = f r.1.vector r.1.named; large = r.1.large })
large_offered h limit rows last P Q TooMany f r = r
large_offered h limit rows last P Q (Stopped stage) f r = r
large_offered h limit rows last P Q NoMemory f r = tt

-- ---- degrees
zip_get : (R : Vector → ℕ → Type 0) (xs : List Vector) (ds : List ℕ) (i : ℕ) (x : Vector) → AllZip R xs ds → i < length xs → R (get_or xs i x) (get_or ds i 0)
zip_get R [] ds i x h l = absurd (let f : ⊥ = omega arith in f)
zip_get R (y ∷ xs) [] i x h l = absurd h
zip_get R (y ∷ xs) (d ∷ ds) zero x h l = h.0
zip_get R (y ∷ xs) (d ∷ ds) (suc i) x h l = zip_get R xs ds i x h.1 (omega arith)

zip_length : (R : Vector → ℕ → Type 0) (xs : List Vector) (ds : List ℕ) → AllZip R xs ds → length ds ≡ length xs
zip_length R [] [] h = refl
zip_length R [] (d ∷ ds) h = absurd h
zip_length R (x ∷ xs) [] h = absurd h
zip_length R (x ∷ xs) (d ∷ ds) h = ap suc (zip_length R xs ds h.1)

zip_each : (R : Vector → ℕ → Type 0) (P : ℕ → Type 0) → ((x : Vector) (d : ℕ) → R x d → P d) → (xs : List Vector) (ds : List ℕ) → AllZip R xs ds → Each P ds
zip_each R P f [] [] h = tt
zip_each R P f [] (d ∷ ds) h = absurd h
zip_each R P f (x ∷ xs) [] h = tt
zip_each R P f (x ∷ xs) (d ∷ ds) h = (f x d h.0, zip_each R P f xs ds h.1)

default_free : (xs : List Vector) (i : ℕ) (d e : Vector) → i < length xs → get_or xs i d ≡ get_or xs i e
default_free [] i d e l = absurd (let f : ⊥ = omega arith in f)
default_free (x ∷ xs) zero d e l = refl
default_free (x ∷ xs) (suc i) d e l = default_free xs i d e (omega arith)

pub degrees_length : (limit : ℕ) (rows : List Vector) (s : SideLists) → IsSide limit rows s → length s.degrees ≡ length s.rising
degrees_length limit rows s i = zip_length (λ v d. (dot (total (length s.last) rows) v ≡ pos d) × (d < 2 ^ 127)) s.rising s.degrees i.degrees

pub degrees_bound : (limit : ℕ) (rows : List Vector) (s : SideLists) → IsSide limit rows s → Each (λ d. d < 2 ^ 127) s.degrees
degrees_bound limit rows s i = zip_each (λ v d. (dot (total (length s.last) rows) v ≡ pos d) × (d < 2 ^ 127)) (λ d. d < 2 ^ 127) (λ x d h. h.1) s.rising s.degrees i.degrees

degree_at : (limit : ℕ) (rows : List Vector) (s : SideLists) → IsSide limit rows s → (k : ℕ) → k < length s.rising → dot (total (length s.last) rows) (get_or s.rising k []) ≡ pos (get_or s.degrees k 0)
degree_at limit rows s i k l = (zip_get (λ v d. (dot (total (length s.last) rows) v ≡ pos d) × (d < 2 ^ 127)) s.rising s.degrees k [] i.degrees l).0

pub degree_small : (limit : ℕ) (rows : List Vector) (s : SideLists) → IsSide limit rows s → (k : ℕ) → k < length s.rising → get_or s.degrees k 0 < 2 ^ 127
degree_small limit rows s i k l = (zip_get (λ v d. (dot (total (length s.last) rows) v ≡ pos d) × (d < 2 ^ 127)) s.rising s.degrees k [] i.degrees l).1

side_member : (rows : List Vector) (last v : Vector) → IsSideElement rows last v → IsInStage (HasWidth (length last)) rows v
side_member rows last v i = record { in_lattice = i.member.in_lattice; at_least = Each-front (λ r. pos 0 ≤ℤ dot r v) rows (last ∷ []) i.member.at_least }

-- ---- causes of a refusal
pair_measure_of_opposite : (f x : Vector) → pair_measure (opposite f) x ≡ pair_measure f x
pair_measure_of_opposite [] x = refl
pair_measure_of_opposite (a ∷ f) [] = refl
pair_measure_of_opposite (a ∷ f) (b ∷ x) =
    let e : neg_ℤ a *ℤ b ≡ neg_ℤ (a *ℤ b) = simp ring_z (omega (arith, sums)) in
    ap₂ (λ (m n : ℕ). m + n) (ap unsigned_abs e ∙ abs_of_neg (a *ℤ b)) (pair_measure_of_opposite f x)

pub insert_up : (h : ℤ) (limit : ℕ) (rows : List Vector) (row : Vector) (Offered : Vector → Type 0) (work : Work) → ((v : Vector) → Offered v → IsNamed (length row) rows row v) → IsOfferRefusal h limit rows row Offered work → IsInsertRefusal h limit (length row) rows row work
insert_up h limit rows row Offered (Range told) f r = (r.0, inr (record { form = r.1.form; vector = r.1.vector; is_form = r.1.is_form; named = f r.1.vector r.1.named; large = r.1.large }))
insert_up h limit rows row Offered TooMany f r = inl r
insert_up h limit rows row Offered (Stopped stage) f r = r
insert_up h limit rows row Offered NoMemory f r = tt

pub insert_down : (h : ℤ) (limit : ℕ) (rows : List Vector) (row : Vector) (Offered : Vector → Type 0) (work : Work) → ((v : Vector) → Offered v → IsNamed (length row) rows row v) → IsOfferRefusal h limit rows (opposite row) Offered work → IsInsertRefusal h limit (length row) rows row work
insert_down h limit rows row Offered (Range told) f r = (
  r.0,
  inr (⊎_elim
      (λ (c : Contains rows r.1.form). record { form = r.1.form; vector = r.1.vector; is_form = Contains-append_left rows (row ∷ []) r.1.form c; named = f r.1.vector r.1.named; large = r.1.large })
      (λ (c : Contains (opposite row ∷ []) r.1.form). record {
        form = row;
        vector = r.1.vector;
        is_form = Contains-append_right rows (row ∷ []) row (contains_here row []);
        named = f r.1.vector r.1.named;
        large = subst (λ (n : ℕ). h <ℤ pos n) (⊎_elim
            (λ (e : opposite row ≡ r.1.form). ap (λ (g : Vector). pair_measure g r.1.vector) (sym e) ∙ pair_measure_of_opposite row r.1.vector)
            (λ (n : Contains [] r.1.form). absurd (contains_none r.1.form n))
            (contains_cases (opposite row) [] r.1.form c)) r.1.large;
      })
      (Contains-append_cases rows (opposite row ∷ []) r.1.form r.1.is_form)),
)
insert_down h limit rows row Offered TooMany f r = inr (record { witnesses = r.witnesses; different = r.different; only = Each-weaker (IsSideElement rows (opposite row)) (IsReversedElement (length row) rows row) (reversed_of_side rows row) r.witnesses r.only; more = r.more })
insert_down h limit rows row Offered (Stopped stage) f r = r
insert_down h limit rows row Offered NoMemory f r = tt

-- an irreducible of the stage so far is one of a side of the row
pub old_named : (rows : List Vector) (row v : Vector) → IsElement (length row) rows v → IsNamed (length row) rows row v
old_named rows row v i = by_lt_z (dot row v) (pos 0)
    (λ (l : dot row v <ℤ pos 0). reversed (reversed_of_side rows row v (old_element rows (opposite row) v (subst (λ (n : ℕ). IsElement n rows v) (sym (opposite_length row)) i) (let o = opposite_value row v in omega (arith, ints, o, l)))))
    (λ (l : pos 0 ≤ℤ dot row v). element (old_element rows row v i l))

-- ---- completeness below a degree
module _ (limit : ℕ) (rows : List Vector) (up down : SideLists) (p : IsPart limit rows up down) where
  w_same : length down.last ≡ length up.last
  w_same = ap length p.turned ∙ opposite_length up.last

  form_same : total (length down.last) rows ≡ total (length up.last) rows
  form_same = ap (λ (n : ℕ). total n rows) w_same

  reversed_elements : Each (IsReversedElement (length up.last) rows up.last) down.elements
  reversed_elements = Each-weaker (IsSideElement rows down.last) (IsReversedElement (length up.last) rows up.last) (λ v i. reversed_of_side rows up.last v (subst (λ (f : Vector). IsSideElement rows f v) p.turned i)) down.elements p.down_side.elements

  to_side : (v : Vector) → IsReversedElement (length up.last) rows up.last v → IsSideElement rows down.last v
  to_side v i = subst (λ (f : Vector). IsSideElement rows f v) (sym p.turned) (side_of_reversed rows up.last v i)

  from_side : (v : Vector) → IsSideElement rows down.last v → IsReversedElement (length up.last) rows up.last v
  from_side v i = reversed_of_side rows up.last v (subst (λ (f : Vector). IsSideElement rows f v) p.turned i)

  down_height : (v : Vector) → dot down.last v ≡ pos 0 -ℤ dot up.last v
  down_height v = ap (λ (f : Vector). dot f v) p.turned ∙ opposite_value up.last v

  -- where the sums below a bound are handled, both sides are complete below it
  complete_below : (b : ℤ) → ((q n : Vector) → Contains up.elements q → Contains down.elements n → pos 0 <ℤ dot up.last q → pos 0 <ℤ dot down.last n → dot (total (length up.last) rows) (plus q n) <ℤ b → Handles rows up.last up.elements (plus q n) × Handles rows down.last down.elements (plus q n))
      → (x : Vector) → dot (total (length up.last) rows) x <ℤ b → (IsSideElement rows up.last x → Contains up.elements x) × (IsSideElement rows down.last x → Contains down.elements x)
  complete_below b sums x lt =
      let W = HasWidth (length up.last) in
      let lattice = whole_lattice (length up.last) in
      let old_above : (v : Vector) → Contains p.list v → dot (total (length up.last) rows) v <ℤ b → pos 0 ≤ℤ dot up.last v → Contains up.elements v =
      λ v c l ge. Each-contains (Handles rows up.last up.elements) p.list v p.up_old c (old_element rows up.last v (Each-contains (IsElement (length up.last) rows) p.list v p.stage.lists.only c) ge) in
      let old_beneath : (v : Vector) → Contains p.list v → dot (total (length up.last) rows) v <ℤ b → dot up.last v ≤ℤ pos 0 → Contains down.elements v =
      λ v c l le. Each-contains (Handles rows down.last down.elements) p.list v p.down_old c (old_element rows down.last v
      (subst (λ (n : ℕ). IsElement n rows v) (sym w_same) (Each-contains (IsElement (length up.last) rows) p.list v p.stage.lists.only c)) (let h = down_height v in omega (arith, ints, h, le))) in
      let above : (q n : Vector) → Contains up.elements q → Contains down.elements n → pos 0 <ℤ dot up.last q → dot up.last n <ℤ pos 0 → dot (total (length up.last) rows) (plus q n) <ℤ b → IsIrreducible (IsInStage W (rows ++ up.last ∷ [])) (plus q n) → Contains up.elements (plus q n) =
      λ q n cq cn hq hn l i. (sums q n cq cn hq (let h = down_height n in omega (arith, ints, h, hn)) l).0 i in
      let beneath : (q n : Vector) → Contains up.elements q → Contains down.elements n → pos 0 <ℤ dot up.last q → dot up.last n <ℤ pos 0 → dot (total (length up.last) rows) (plus q n) <ℤ b → IsIrreducible (IsInReversed W rows up.last) (plus q n) → Contains down.elements (plus q n) =
      λ q n cq cn hq hn l i. (sums q n cq cn hq (let h = down_height n in omega (arith, ints, h, hn)) l).1 (to_side (plus q n) i) in (
        (λ i. stage_complete (length up.last) W lattice rows p.stage.rows_wide p.stage.positive up.last p.list p.stage.lists.only p.stage.lists.each up.elements down.elements p.up_side.elements reversed_elements b old_above old_beneath above beneath x lt i),
        (λ i. reversed_complete (length up.last) W lattice rows p.stage.rows_wide p.stage.positive up.last p.list p.stage.lists.only p.stage.lists.each up.elements down.elements p.up_side.elements reversed_elements b old_above old_beneath above beneath x lt (from_side x i)),
      )

  up_element : (v : Vector) → Contains up.elements v → IsSideElement rows up.last v
  up_element v c = Each-contains (IsSideElement rows up.last) up.elements v p.up_side.elements c

  down_element : (v : Vector) → Contains down.elements v → IsSideElement rows down.last v
  down_element v c = Each-contains (IsSideElement rows down.last) down.elements v p.down_side.elements c

  down_member : (v : Vector) → IsSideElement rows down.last v → IsInStage (HasWidth (length up.last)) rows v
  down_member v i = subst (λ (n : ℕ). IsInStage (HasWidth n) rows v) w_same (side_member rows down.last v i)

  old_degree : IsDegreeOf (IsInStage (HasWidth (length up.last)) rows) (total (length up.last) rows)
  old_degree = stage_degree (length up.last) (HasWidth (length up.last)) (whole_lattice (length up.last)) rows p.stage.rows_wide p.stage.positive

  sum_degree : (q n : Vector) → IsSideElement rows up.last q → IsSideElement rows down.last n → dot (total (length up.last) rows) (plus q n) ≡ dot (total (length up.last) rows) q +ℤ dot (total (length up.last) rows) n
  sum_degree q n i j = dot-plus (total (length up.last) rows) q n (i.member.in_lattice ∙ sym w_same ∙ sym j.member.in_lattice)

  -- a rising element stands at some place, with its degree
  record IsPlaced (s : SideLists) (v : Vector) : Type 0 where
    place : ℕ
    inside : place < length s.rising
    same : get_or s.rising place [] ≡ v
    is_degree : dot (total (length up.last) rows) v ≡ pos (get_or s.degrees place 0)

  up_placed : (v : Vector) → Contains up.elements v → pos 0 <ℤ dot up.last v → IsPlaced up v
  up_placed v c h =
      let k = p.up_side.all_rising v c h in
      let e = default_free up.rising k.0 [] v k.1 ∙ k.2 in
      record { place = k.0; inside = k.1; same = e; is_degree = ap (dot (total (length up.last) rows)) (sym e) ∙ degree_at limit rows up p.up_side k.0 k.1 }

  down_placed : (v : Vector) → Contains down.elements v → pos 0 <ℤ dot down.last v → IsPlaced down v
  down_placed v c h =
      let k = p.down_side.all_rising v c h in
      let e = default_free down.rising k.0 [] v k.1 ∙ k.2 in
      record { place = k.0; inside = k.1; same = e; is_degree = ap (λ (f : Vector). dot f v) (sym form_same) ∙ ap (dot (total (length down.last) rows)) (sym e) ∙ degree_at limit rows down p.down_side k.0 k.1 }

  -- the sum of two rising elements is not looked at sooner than the next degree
  not_sooner : (last : ℕ) (best : Option ℕ) → IsNext last up.degrees down.degrees best → (q n : Vector) → (a : IsPlaced up q) → (b : IsPlaced down n) → IsNotSooner last best (get_or up.degrees a.place 0 + get_or down.degrees b.place 0)
  not_sooner last best next q n a b =
      let lu = degrees_length limit rows up p.up_side in
      let ld = degrees_length limit rows down p.down_side in
      let ia = a.inside in let ib = b.inside in
      let row = nat_each (λ x. Each (λ y. IsNotSooner last best (x + y)) down.degrees) up.degrees a.place next.none_sooner (omega (arith, ia, lu)) in
      nat_each (λ y. IsNotSooner last best (get_or up.degrees a.place 0 + y)) down.degrees b.place row (omega (arith, ib, ld))
    where
      nat_each : (P : ℕ → Type 0) (xs : List ℕ) (k : ℕ) → Each P xs → k < length xs → P (get_or xs k 0)
      nat_each P [] k h l = absurd (let f : ⊥ = omega arith in f)
      nat_each P (x ∷ xs) zero h l = h.0
      nat_each P (x ∷ xs) (suc k) h l = nat_each P xs k h.1 (omega arith)

  pub rising_large : (h : ℤ) → SomeLarge h (Contains (up.rising ++ down.rising)) → IsTooLarge h (length up.last) rows up.last
  rising_large h s = inl (record {
    vector = s.vector;
    named = inr (⊎_elim
        (λ c. element (up_element s.vector (Each-contains (λ v. Contains up.elements v × (pos 0 <ℤ dot up.last v)) up.rising s.vector p.up_side.rising c).0))
        (λ c. reversed (from_side s.vector (down_element s.vector (Each-contains (λ v. Contains down.elements v × (pos 0 <ℤ dot down.last v)) down.rising s.vector p.down_side.rising c).0)))
        (Contains-append_cases up.rising down.rising s.vector s.named));
    large = s.large;
  })

  -- with no sum left both sides are complete
  pub complete_at_end : (last : ℕ) → HandlesSums rows up.last down.last last up.elements down.elements → IsNext last up.degrees down.degrees None → IsComplete limit rows up × IsComplete limit rows down
  complete_at_end last sums next =
      let all : (x : Vector) → (IsSideElement rows up.last x → Contains up.elements x) × (IsSideElement rows down.last x → Contains down.elements x) =
      λ x. complete_below (dot (total (length up.last) rows) x +ℤ pos 1)
      (λ q n cq cn hq hn l.
      let a = up_placed q cq hq in
      let b = down_placed n cn hn in
      let s = sum_degree q n (up_element q cq) (down_element n cn) in
      let k = not_sooner last None next q n a b in
      let da = a.is_degree in let db = b.is_degree in
      sums q n cq cn hq hn (omega (arith, ints, s, da, db, k)))
      x (omega (arith, ints)) in (
        record { lists = record { in_order = p.up_side.different; only = p.up_side.elements; each = λ x i. (all x).0 i }; within = p.up_side.within },
        record { lists = record { in_order = p.down_side.different; only = p.down_side.elements; each = λ x i. (all x).1 i }; within = p.down_side.within },
      )

  module _ (last degree : ℕ) (sums : HandlesSums rows up.last down.last last up.elements down.elements) (next : IsNext last up.degrees down.degrees (Some degree)) where
    below : (x : Vector) → dot (total (length up.last) rows) x <ℤ pos degree → (IsSideElement rows up.last x → Contains up.elements x) × (IsSideElement rows down.last x → Contains down.elements x)
    below = complete_below (pos degree)
        (λ q n cq cn hq hn l.
        let a = up_placed q cq hq in
        let b = down_placed n cn hn in
        let s = sum_degree q n (up_element q cq) (down_element n cn) in
        let da = a.is_degree in let db = b.is_degree in
        sums q n cq cn hq hn (⊎_elim
        (λ (k : get_or up.degrees a.place 0 + get_or down.degrees b.place 0 ≤ last). omega (arith, ints, s, da, db, k))
        (λ (k : degree ≤ get_or up.degrees a.place 0 + get_or down.degrees b.place 0). absurd (let f : ⊥ = omega (arith, ints, s, da, db, k, l) in f))
        (not_sooner last (Some degree) next q n a b)))

    -- a sum of this degree: it is a vector of the stage so far, and may be kept where no element can be taken from it
    record IsCandidate (x : Vector) : Type 0 where
      first : Vector
      second : Vector
      of_up : IsSideElement rows up.last first
      of_down : IsSideElement rows down.last second
      same : x ≡ plus first second
      is_degree : dot (total (length up.last) rows) x ≡ pos degree

    candidate : (x : Vector) → IsSumOf up.rising up.degrees down.rising down.degrees degree x → IsCandidate x
    candidate x c =
        let q = get_or up.rising c.first [] in
        let n = get_or down.rising c.second [] in
        let li : c.first < length up.rising = (let k = c.related.0 in let s = degrees_length limit rows up p.up_side in omega (arith, k, s)) in
        let lj : c.second < length down.rising = (let k = c.related.1.0 in let s = degrees_length limit rows down p.down_side in omega (arith, k, s)) in
        let iq = up_element q (each_at (λ v. Contains up.elements v × (pos 0 <ℤ dot up.last v)) up.rising c.first [] p.up_side.rising li).0 in
        let jn = down_element n (each_at (λ v. Contains down.elements v × (pos 0 <ℤ dot down.last v)) down.rising c.second [] p.down_side.rising lj).0 in
        let s = sum_degree q n iq jn in
        let da = degree_at limit rows up p.up_side c.first li in
        let db = ap (λ (f : Vector). dot f n) (sym form_same) ∙ degree_at limit rows down p.down_side c.second lj in
        let e = ap (dot (total (length up.last) rows)) c.same in
        let h = c.related.1.1 in
        record { first = q; second = n; of_up = iq; of_down = jn; same = c.same; is_degree = omega (arith, ints, e, s, da, db, h) }

    member_of : (x : Vector) → IsCandidate x → IsInStage (HasWidth (length up.last)) rows x
    member_of x c = subst (IsInStage (HasWidth (length up.last)) rows) (sym c.same) (stage_closed (length up.last) (HasWidth (length up.last)) (whole_lattice (length up.last)) rows c.first c.second (side_member rows up.last c.first c.of_up) (down_member c.second c.of_down))

    nonzero_of : (x : Vector) → IsCandidate x → IsNonzero x
    nonzero_of x c z = let d = dot-IsZero (total (length up.last) rows) x z in let e = c.is_degree in let a = next.ahead in omega (arith, ints, d, e, a)

    pub keeps_up : (x : Vector) → IsSumOf up.rising up.degrees down.rising down.degrees degree x → Keeps rows up.last up.elements x
    keeps_up x s = let c = candidate x s in keeps_lower rows up.last p.stage.rows_wide p.stage.positive up.elements x (member_of x c) (nonzero_of x c)
        (λ e i l. let d = c.is_degree in (below e (omega (arith, ints, d, l))).0 i)

    pub keeps_down : (x : Vector) → IsSumOf up.rising up.degrees down.rising down.degrees degree x → Keeps rows down.last down.elements x
    keeps_down x s = let c = candidate x s in keeps_lower rows down.last
        (subst (λ (n : ℕ). Each (HasWidth n) rows) (sym w_same) p.stage.rows_wide)
        (subst (λ (n : ℕ). IsPositive (IsInStage (HasWidth n) rows)) (sym w_same) p.stage.positive) down.elements x
        (subst (λ (n : ℕ). IsInStage (HasWidth n) rows x) (sym w_same) (member_of x c)) (nonzero_of x c)
        (λ e i l. let d = c.is_degree in let fe = ap (λ (f : Vector). dot f e) form_same in let fx = ap (λ (f : Vector). dot f x) form_same in (below e (omega (arith, ints, d, l, fe, fx))).1 i)

    pub sum_wide : (x : Vector) → IsSumOf up.rising up.degrees down.rising down.degrees degree x → HasWidth (length up.last) x
    sum_wide x s = (member_of x (candidate x s)).in_lattice

    pub sum_named : (x : Vector) → IsSumOf up.rising up.degrees down.rising down.degrees degree x → IsNamed (length up.last) rows up.last x
    sum_named x s = let c = candidate x s in subst (IsNamed (length up.last) rows up.last) (sym c.same) (sum c.of_up (from_side c.second c.of_down))

    -- after the sums of this degree
    module _ (listed ups downs more_up more_down : List Vector) (are : AreSums (IsSettled rows up down) up.rising up.degrees down.rising down.degrees degree listed)
        (grew_up : ups ≡ up.elements ++ more_up) (grew_down : downs ≡ down.elements ++ more_down)
        (only_up : Each (IsSideElement rows up.last) ups) (only_down : Each (IsSideElement rows down.last) downs)
        (handled_up : Each (Handles rows up.last ups) listed) (handled_down : Each (Handles rows down.last downs) listed) where
      still : (z : Vector) → IsSettled rows up down z → Handles rows up.last ups z × Handles rows down.last downs z
      still z h = (
        subst (λ (es : List Vector). Handles rows up.last es z) (sym grew_up) (handles_more rows up.last up.elements more_up z h.0),
        subst (λ (es : List Vector). Handles rows down.last es z) (sym grew_down) (handles_more rows down.last down.elements more_down z h.1),
      )

      both_old : (q n : Vector) → Contains up.elements q → Contains down.elements n → pos 0 <ℤ dot up.last q → pos 0 <ℤ dot down.last n → dot (total (length up.last) rows) (plus q n) ≤ℤ pos degree → Handles rows up.last ups (plus q n) × Handles rows down.last downs (plus q n)
      both_old q n cq cn hq hn l =
          let a = up_placed q cq hq in
          let b = down_placed n cn hn in
          let s = sum_degree q n (up_element q cq) (down_element n cn) in
          let da = a.is_degree in let db = b.is_degree in
          ⊎_elim
          (λ (k : get_or up.degrees a.place 0 + get_or down.degrees b.place 0 ≤ last).
          still (plus q n) (sums q n cq cn hq hn (omega (arith, ints, s, da, db, k))))
          (λ (k : degree ≤ get_or up.degrees a.place 0 + get_or down.degrees b.place 0).
          let e : get_or up.degrees a.place 0 + get_or down.degrees b.place 0 ≡ degree = omega (arith, ints, s, da, db, k, l) in
          let o : Vector → Type 0 = λ z. Contains listed z ⊎ IsSettled rows up down z in
          let a_degree : a.place < length up.degrees = (let k = a.inside in let t = degrees_length limit rows up p.up_side in omega (arith, k, t)) in
          let b_degree : b.place < length down.degrees = (let k = b.inside in let t = degrees_length limit rows down p.down_side in omega (arith, k, t)) in
          ⊎_elim
          (λ (c : Contains listed (plus q n)). (Each-contains (Handles rows up.last ups) listed (plus q n) handled_up c, Each-contains (Handles rows down.last downs) listed (plus q n) handled_down c))
          (λ (h : IsSettled rows up down (plus q n)). still (plus q n) h)
          (subst (λ (v : Vector). o (plus v n)) a.same (subst (λ (v : Vector). o (plus (get_or up.rising a.place []) v)) b.same (are.each a.place b.place (a_degree, (b_degree, e))))))
          (not_sooner last (Some degree) next q n a b)

      pub sums_next : HandlesSums rows up.last down.last degree ups downs
      sums_next q n cq cn hq hn l =
          let iq = Each-contains (IsSideElement rows up.last) ups q only_up cq in
          let jn = Each-contains (IsSideElement rows down.last) downs n only_down cn in
          let s = sum_degree q n iq jn in
          let dq = old_degree q (side_member rows up.last q iq) iq.nonzero in
          let dn = old_degree n (down_member n jn) jn.nonzero in
          both_old q n ((below q (omega (arith, ints, s, dn, l))).0 iq) ((below n (omega (arith, ints, s, dq, l))).1 jn) hq hn l

-- ---- one degree further
pub part_next : (limit : ℕ) (rows : List Vector) (up down up' down' : SideLists) → IsPart limit rows up down → HasGrown limit rows up up' → HasGrown limit rows down down' → IsPart limit rows up' down'
part_next limit rows up down up' down' p f g = record {
  list = p.list;
  stage = subst (λ (v : Vector). IsStageList (length v) rows p.list) (sym f.last) p.stage;
  turned = g.last ∙ p.turned ∙ ap opposite (sym f.last);
  up_side = f.side;
  down_side = g.side;
  up_old = subst (λ (v : Vector). Each (Handles rows v up'.elements) p.list) (sym f.last) (grown_handles limit rows up.last up up' p.list f p.up_old);
  down_old = subst (λ (v : Vector). Each (Handles rows v down'.elements) p.list) (sym g.last) (grown_handles limit rows down.last down down' p.list g p.down_old);
}

pub handles_sums_next : (limit : ℕ) (rows : List Vector) (up down up' down' : SideLists) (p : IsPart limit rows up down) (last degree : ℕ) → HandlesSums rows up.last down.last last up.elements down.elements → IsNext last up.degrees down.degrees (Some degree)
    → (listed : List Vector) → AreSums (IsSettled rows up down) up.rising up.degrees down.rising down.degrees degree listed → HasGrown limit rows up up' → HasGrown limit rows down down' → Each (Handles rows up.last up'.elements) listed → Each (Handles rows down.last down'.elements) listed
    → HandlesSums rows up'.last down'.last degree up'.elements down'.elements
handles_sums_next limit rows up down up' down' p last degree sums next listed are f g hu hd =
    subst (λ (v : Vector). HandlesSums rows v down'.last degree up'.elements down'.elements) (sym f.last)
    (subst (λ (v : Vector). HandlesSums rows up.last v degree up'.elements down'.elements) (sym g.last)
    (sums_next limit rows up down p last degree sums next listed up'.elements down'.elements f.more g.more are f.extends g.extends
    (subst (λ (v : Vector). Each (IsSideElement rows v) up'.elements) f.last f.side.elements)
    (subst (λ (v : Vector). Each (IsSideElement rows v) down'.elements) g.last g.side.elements) hu hd))

pub all_keep_up : (limit : ℕ) (rows : List Vector) (up down : SideLists) (p : IsPart limit rows up down) (last degree : ℕ) → HandlesSums rows up.last down.last last up.elements down.elements → IsNext last up.degrees down.degrees (Some degree)
    → (listed : List Vector) → AreSums (IsSettled rows up down) up.rising up.degrees down.rising down.degrees degree listed → Each (Keeps rows up.last up.elements) listed
all_keep_up limit rows up down p last degree sums next listed are = Each-weaker (IsSumOf up.rising up.degrees down.rising down.degrees degree) (Keeps rows up.last up.elements) (λ x s. keeps_up limit rows up down p last degree sums next x s) listed are.only

pub all_keep_down : (limit : ℕ) (rows : List Vector) (up down : SideLists) (p : IsPart limit rows up down) (last degree : ℕ) → HandlesSums rows up.last down.last last up.elements down.elements → IsNext last up.degrees down.degrees (Some degree)
    → (listed : List Vector) → AreSums (IsSettled rows up down) up.rising up.degrees down.rising down.degrees degree listed → Each (Keeps rows down.last down.elements) listed
all_keep_down limit rows up down p last degree sums next listed are = Each-weaker (IsSumOf up.rising up.degrees down.rising down.degrees degree) (Keeps rows down.last down.elements) (λ x s. keeps_down limit rows up down p last degree sums next x s) listed are.only

pub all_wide : (limit : ℕ) (rows : List Vector) (up down : SideLists) (p : IsPart limit rows up down) (last degree : ℕ) → HandlesSums rows up.last down.last last up.elements down.elements → IsNext last up.degrees down.degrees (Some degree)
    → (listed : List Vector) → AreSums (IsSettled rows up down) up.rising up.degrees down.rising down.degrees degree listed → Each (HasWidth (length up.last)) listed
all_wide limit rows up down p last degree sums next listed are = Each-weaker (IsSumOf up.rising up.degrees down.rising down.degrees degree) (HasWidth (length up.last)) (λ x s. sum_wide limit rows up down p last degree sums next x s) listed are.only

pub side_width : (limit : ℕ) (rows : List Vector) (up down : SideLists) → IsPart limit rows up down → length down.last ≡ length up.last
side_width limit rows up down p = ap length p.turned ∙ opposite_length up.last

-- before the first degree: no sum of two elements has the degree 0
pub no_sums : (limit : ℕ) (rows : List Vector) (up down : SideLists) → IsPart limit rows up down → HandlesSums rows up.last down.last 0 up.elements down.elements
no_sums limit rows up down p q n cq cn hq hn l =
    let i = Each-contains (IsSideElement rows up.last) up.elements q p.up_side.elements cq in
    let j = Each-contains (IsSideElement rows down.last) down.elements n p.down_side.elements cn in
    let W = HasWidth (length up.last) in
    let e = side_width limit rows up down p in
    let degree = stage_degree (length up.last) W (whole_lattice (length up.last)) rows p.stage.rows_wide p.stage.positive in
    let dq = degree q (side_member rows up.last q i) i.nonzero in
    let dn = degree n (subst (λ (k : ℕ). IsInStage (HasWidth k) rows n) e (side_member rows down.last n j)) j.nonzero in
    let s = dot-plus (total (length up.last) rows) q n (i.member.in_lattice ∙ sym e ∙ sym j.member.in_lattice) in
    absurd (omega (arith, ints, dq, dn, s, l))

-- a refusal while the sums of one degree are offered
pub close_refused : (h : ℤ) (limit : ℕ) (rows : List Vector) (up down : SideLists) (p : IsPart limit rows up down) (last degree : ℕ) → HandlesSums rows up.last down.last last up.elements down.elements → IsNext last up.degrees down.degrees (Some degree)
    → (listed : List Vector) → AreSums (IsSettled rows up down) up.rising up.degrees down.rising down.degrees degree listed → (row : Vector) → up.last ≡ row → (work : Work) → IsOfferedRefusal h limit rows up.last down.last (Contains listed) work → IsInsertRefusal h limit (length row) rows row work
close_refused h limit rows up down p last degree sums next listed are row same work r =
    let named : (v : Vector) → Contains listed v → IsNamed (length up.last) rows up.last v = λ v c. sum_named limit rows up down p last degree sums next v (Each-contains (IsSumOf up.rising up.degrees down.rising down.degrees degree) listed v are.only c) in
    subst (λ (v : Vector). IsInsertRefusal h limit (length v) rows v work) same (⊎_elim
    (λ u. insert_up h limit rows up.last (Contains listed) work named u)
    (λ d. insert_down h limit rows up.last (Contains listed) work named (subst (λ (v : Vector). IsOfferRefusal h limit rows v (Contains listed) work) p.turned d))
    r)

pub sums_refused : (h : ℤ) (limit : ℕ) (rows : List Vector) (up down : SideLists) → IsPart limit rows up down → (row : Vector) → up.last ≡ row → (refusal : Num) (work : Work) → (refusal ≡ num.Range → SomeLarge h (Contains (up.rising ++ down.rising))) → IsWorkOf refusal work → IsInsertRefusal h limit (length row) rows row work
sums_refused h limit rows up down p row same refusal (Range told) f w = (w.1, subst (λ (v : Vector). IsTooLarge h (length v) rows v) same (rising_large limit rows up down p h (f w.0)))
sums_refused h limit rows up down p row same refusal TooMany f w = absurd w
sums_refused h limit rows up down p row same refusal (Stopped stage) f w = w
sums_refused h limit rows up down p row same refusal NoMemory f w = tt
