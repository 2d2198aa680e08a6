-- The forms from the bottom are the equations and the dual forms of the base, and tell its group.
use Rattle.std.proofs.Common.{◌≡◌, ◌≢◌, ◌↔◌, ◌⊎◌, inl, inr, ℕ, zero, suc, ◌+◌, ◌<◌, ◌≤◌, List, [], ◌∷◌, ◌++◌, length, map, get_or, ℤ, pos, ◌-ℤ◌, ◌*ℤ◌, ◌<ℤ◌, refl, sym, ap, ap₂, ◌∙◌, subst, arith}
use Rattle.std.specs.List.{AllByRecursion as Each, AllZip, Contains}
use Rattle.std.proofs.lemmas.Int.{ints}
use Rattle.std.proofs.lemmas.Bool.{cases_lt}
use Rattle.std.proofs.Math.IntN.{*ℤ-zero, *ℤ_comm}
use Rattle.nz_spec.specs.Vectors.{Vector, dot, plus, minus, combination, zero_vector, entry, HasWidth, IsZero, IsMultipleOf}
use Rattle.nz_spec.specs.Sums.{IsInGroup}
use Rattle.nz_spec.specs.Order.{Pairwise}
use Rattle.nz_spec.specs.Forms.{LeadsAt, IsKeyColumn, IsOtherColumn, IsEquationAt, AreEquations, IsEquation}
use Rattle.nz_spec.specs.Systems.{Congruence, IsMultipleBy}
use Rattle.nz_spec.specs.Constraints.{Constraint, Zero, Meets, MeetsAll, constraint_of}
use Rattle.nz_spec.proofs.EquationLaws.{zero_on_span, column_cases}
use Rattle.nz_spec.proofs.ListLaws.{contains_here, contains_there, contains_none, contains_cases, Each-contains, Each-from_contains}
use Rattle.nz_spec.proofs.SumLaws.{length-combination}
use Rattle.nz_spec.proofs.VectorLaws.{dot-minus, length-minus, plus-minus, zero_vector_of, int_is_zero}
use Rattle.nz_linear.specs.Echelon.{EndsAt}
use Rattle.nz_linear.proofs.Ring.{one-mul}
use Rattle.nz_linear.proofs.Lists.{each_map, each_append, each_left, each_right, each_of_map, map_each, zip_append, zip_change}
use Rattle.nz_linear.proofs.VectorLaws.{plus-zero}
use Rattle.nz_linear.proofs.Spans.{span_member}
use Rattle.nz_linear.proofs.Units.{value_at_end}
use Rattle.nz_sweep.specs.Duals.{Coordinate, coordinate_at, vector_at, AreDual}
use Rattle.nz_sweep.specs.Generating.{AreLeading, IsEchelon}
use Rattle.nz_sweep.specs.Bottom.{column_at, IsFromBottom, IsDualAt, AreDualEach}
use Rattle.nz_sweep.specs.GroupConstraints.{congruence_of, IsDualCoordinate, AreAboveOne, none, pass, keep, AreGroupConstraints, IsBetween, AreEquationsBefore}
use Rattle.nz_sweep.proofs.PlaceLemmas.{each_of_places}
use Rattle.nz_sweep.proofs.DualLemmas.{coordinate_of_sum}
use Rattle.nz_sweep.proofs.InsideLemmas.{in_group_coordinate}
use Rattle.nz_sweep.proofs.GeneratingLemmas.{form_zero}
use Rattle.nz_sweep.proofs.BottomLemmas.{zip_lengths, increasing, lead_at, zero_behind, divisor_positive, dual_apart, dual_of_each}

-- ---- lists by their places
contains_at : {A : Type 0} (d : A) (xs : List A) (i : ℕ) → i < length xs → Contains xs (get_or xs i d)
contains_at d [] i l = absurd (omega (arith, l))
contains_at d (x ∷ xs) zero l = contains_here x xs
contains_at d (x ∷ xs) (suc i) l = contains_there x (get_or xs i d) xs (contains_at d xs i (omega (arith, l)))

record PlaceOf (columns : List ℕ) (c : ℕ) : Type 0 where
  place : ℕ
  within : place < length columns
  same : column_at columns place ≡ c

place_of : (columns : List ℕ) (c : ℕ) → Contains columns c → PlaceOf columns c
place_of [] c k = absurd (contains_none c k)
place_of (d ∷ columns) c k = elim (contains_cases d columns c k) [
  | inl e ↦ record { place = 0; within = omega arith; same = e }
  | inr m ↦ (let r = place_of columns c m in let l = r.within in record { place = suc r.place; within = omega (arith, l); same = r.same })
]

listed_or_not : (columns : List ℕ) (c : ℕ) → Contains columns c ⊎ ¬ Contains columns c
listed_or_not [] c = inr (contains_none c)
listed_or_not (d ∷ columns) c = elim (column_cases d c) [
  | inl e ↦ inl (subst (Contains (d ∷ columns)) e (contains_here d columns))
  | inr n ↦ elim (listed_or_not columns c) [
    | inl k ↦ inl (contains_there d c columns k)
    | inr m ↦ inr (λ k. elim (contains_cases d columns c k) [ inl e ↦ n e | inr i ↦ m i ])
  ]
]

zip_of_places : {A B : Type 0} (R : A → B → Type 0) (d : A) (e : B) (xs : List A) (ys : List B) → length xs ≡ length ys → ((i : ℕ) → i < length xs → R (get_or xs i d) (get_or ys i e)) → AllZip R xs ys
zip_of_places R d e [] [] n h = tt
zip_of_places R d e [] (y ∷ ys) n h = absurd (omega (arith, n))
zip_of_places R d e (x ∷ xs) [] n h = absurd (omega (arith, n))
zip_of_places R d e (x ∷ xs) (y ∷ ys) n h = (h 0 (omega arith), zip_of_places R d e xs ys (omega (arith, n)) (λ i l. h (suc i) (omega (arith, l))))

record Beside {A B : Type 0} (R : A → B → Type 0) (x : A) (ys : List B) : Type 0 where
  other : B
  listed : Contains ys other
  related : R x other

beside : {A B : Type 0} (R : A → B → Type 0) (xs : List A) (ys : List B) (x : A) → AllZip R xs ys → Contains xs x → Beside R x ys
beside R [] ys x z c = absurd (contains_none x c)
beside R (a ∷ xs) [] x z c = absurd z
beside R (a ∷ xs) (b ∷ ys) x z c = elim (contains_cases a xs x c) [
  | inl e ↦ record { other = b; listed = contains_here b ys; related = subst (λ t. R t b) e z.0 }
  | inr m ↦ (let r = beside R xs ys x z.1 m in record { other = r.other; listed = contains_there b r.other ys r.listed; related = r.related })
]

record IsSplit (f : Vector) (vs : List Vector) (i : ℕ) : Type 0 where
  earlier : List Vector
  later : List Vector
  whole : vs ≡ earlier ++ vector_at vs i ∷ later
  each : ((j : ℕ) → j < length vs → i ≢ j → dot f (vector_at vs j) ≡ pos 0) → Each (λ v. dot f v ≡ pos 0) (earlier ++ later)

split_at : (f : Vector) (vs : List Vector) (i : ℕ) → i < length vs → IsSplit f vs i
split_at f [] i l = absurd (omega (arith, l))
split_at f (v ∷ vs) zero l = record { earlier = []; later = vs; whole = refl; each = λ h. each_of_places (λ u. dot f u ≡ pos 0) [] vs (λ j m. h (suc j) (omega (arith, m)) (λ e. omega (arith, e))) }
split_at f (v ∷ vs) (suc i) l =
    let r = split_at f vs i (omega (arith, l)) in
    record { earlier = v ∷ r.earlier; later = r.later; whole = ap (λ t. v ∷ t) r.whole; each = λ h. (h 0 (omega arith) (λ e. omega (arith, e)), r.each (λ j m n. h (suc j) (omega (arith, m)) (λ e. n (omega (arith, e))))) }

-- ---- the columns
module _ (w : ℕ) (columns : List ℕ) (vs : List Vector) (wide : Each (HasWidth w) vs) (a : AreLeading columns vs) where
  -- a column at which a vector leads is a key column
  key_column : (i : ℕ) → i < length vs → IsKeyColumn w vs (column_at columns i)
  key_column i l = (vector_at vs i, span_member w vs (vector_at vs i) wide (contains_at [] vs i l), lead_at columns vs i a l)

  other_apart : (k : ℕ) → IsOtherColumn w vs k → (i : ℕ) → i < length vs → k ≢ column_at columns i
  other_apart k o i l e = o.not_key (subst (IsKeyColumn w vs) (sym e) (key_column i l))

  other_not_listed : (k : ℕ) → IsOtherColumn w vs k → ¬ Contains columns k
  other_not_listed k o c =
      let p = place_of columns k c in
      let n = zip_lengths LeadsAt columns vs a.each in
      let l = p.within in
      other_apart k o p.place (omega (arith, n, l)) (sym p.same)

  -- ---- the dual forms
  pub dual_at : (i : ℕ) (c : Coordinate) → i < length vs → IsDualAt w columns vs i c → IsDualCoordinate w vs (vector_at vs i) c
  dual_at i c l d =
      let s = split_at c.form vs i l in
      record {
        form = record {
          earlier = s.earlier;
          later = s.later;
          whole = s.whole;
          width = d.form.width;
          primitive = d.form.primitive;
          zero_at = λ k o. d.form.zero_at k (other_apart k o i l) (λ j m h. other_apart k o j (omega (arith, l, h)));
          positive = subst (λ (t : ℤ). pos 0 <ℤ t) d.divisor (divisor_positive w columns vs i c a l d);
          zero_on = s.each (λ j m n. dual_apart w columns vs i j c a l m n d);
        };
        divisor = d.divisor;
      }

  module _ (cs : List Coordinate) (d : AreDualEach w columns vs cs) where
    dual : AreDual w vs cs
    dual = dual_of_each w columns vs cs wide a d

    dual_form : (i : ℕ) → i < length vs → IsDualCoordinate w vs (vector_at vs i) (coordinate_at cs i)
    dual_form i l = dual_at i (coordinate_at cs i) l (d.each i l)

    pub dual_forms : AllZip (IsDualCoordinate w vs) vs cs
    dual_forms = zip_of_places (IsDualCoordinate w vs) [] (record { form = []; divisor = pos 0 }) vs cs (sym d.one_each) dual_form

    pub divisors_above : Each (λ (c : Coordinate). pos 0 <ℤ c.divisor) cs
    divisors_above = each_of_places (λ (c : Coordinate). pos 0 <ℤ c.divisor) (record { form = []; divisor = pos 0 }) cs (λ i l. dual.positive i (let n = d.one_each in omega (arith, n, l)))

    dual_ends : (i : ℕ) → i < length vs → EndsAt (column_at columns i) (coordinate_at cs i).form
    dual_ends i l = record {
      nonzero = λ z. let p = entry (vector_at vs i) (column_at columns i) in let s = (d.each i l).form.sign in let e = ap (λ t. p *ℤ t) z ∙ *ℤ-zero p in omega (arith, ints, s, e);
      after = (d.each i l).form.after;
    }

  -- ---- the equations
  equation_at : (c n : ℕ) (f : Vector) → IsBetween columns c n → IsFromBottom w columns vs c (pos 1) 0 n f → IsEquationAt w vs c f × EndsAt c f
  equation_at c n f between b =
      let s : pos 0 <ℤ entry f c = subst (λ (t : ℤ). pos 0 <ℤ t) (one-mul (entry f c)) b.sign in
      let size = zip_lengths LeadsAt columns vs a.each in
      let l = between.within in (
        record {
          width = b.width;
          primitive = b.primitive;
          zero_on = each_of_places (λ v. dot f v ≡ pos 0) [] vs (λ i h. elim (cases_lt i n) [
            | inl q ↦ b.zero_on i (omega arith) q
            | inr q ↦ zero_behind w columns vs c (pos 1) 0 n f i a b h (between.behind i q (omega (arith, size, h)))
          ]);
          positive = s;
          zero_at = λ j o k. b.zero_at j k (λ i m h. other_apart j o i (omega (arith, size, l, h)));
        },
        record { nonzero = λ z. omega (arith, ints, s, z); after = b.after },
      )

  pub equation_found : (c n : ℕ) (f : Vector) → c < w → IsBetween columns c n → IsFromBottom w columns vs c (pos 1) 0 n f → IsEquation w vs f
  equation_found c n f l between b =
      let e = equation_at c n f between b in
      (c, record { within = l; not_key = λ (key : IsKeyColumn w vs c). value_at_end f key.0 c e.1 key.2 (zero_on_span f w vs key.0 wide e.0.zero_on key.1) }, e.0)

  pub no_equations : AreEquationsBefore w columns vs 0 []
  no_equations = record { others = []; forms = []; in_order = tt; only = tt; all = λ k l n. absurd (omega (arith, l)); each = tt; whole = refl }

  more_before : (c k : ℕ) → k < c + 1 → (k < c) ⊎ (k ≡ c)
  more_before c k l = elim (cases_lt k c) [ inl q ↦ inl q | inr q ↦ inr (omega (arith, q, l)) ]

  further : (c : ℕ) (ks : List ℕ) → Each (λ k. (k < c) × (¬ Contains columns k)) ks → Each (λ k. (k < c + 1) × (¬ Contains columns k)) ks
  further c ks h = each_map (λ k. (k < c) × (¬ Contains columns k)) (λ k. (k < c + 1) × (¬ Contains columns k)) ks (λ k q. let l = q.0 in (omega (arith, l), q.1)) h

  pub equation_passed : (c : ℕ) (cs : List Constraint) → Contains columns c → AreEquationsBefore w columns vs c cs → AreEquationsBefore w columns vs (c + 1) cs
  equation_passed c cs k e = record {
    others = e.others;
    forms = e.forms;
    in_order = e.in_order;
    only = further c e.others e.only;
    all = λ j l n. elim (more_before c j l) [ inl q ↦ e.all j q n | inr q ↦ absurd (n (subst (Contains columns) (sym q) k)) ];
    each = e.each;
    whole = e.whole;
  }

  not_between : (c n : ℕ) → IsBetween columns c n → ¬ Contains columns c
  not_between c n b k =
      let p = place_of columns c k in
      let s = p.same in
      elim (cases_lt p.place n) [
        | inl q ↦ (let h = b.before p.place q in omega (arith, h, s))
        | inr q ↦ (let h = b.behind p.place q p.within in omega (arith, h, s))
      ]

  pairwise_more : (c : ℕ) (ks : List ℕ) → Pairwise ◌<◌ ks → Each (λ k. k < c) ks → Pairwise ◌<◌ (ks ++ (c ∷ []))
  pairwise_more c [] p h = (tt, tt)
  pairwise_more c (k ∷ ks) p h = (each_append (λ j. k < j) ks (c ∷ []) p.0 (h.0, tt), pairwise_more c ks p.1 h.1)

  contains_left : (ks : List ℕ) (c k : ℕ) → Contains ks k → Contains (ks ++ (c ∷ [])) k
  contains_left [] c k m = absurd (contains_none k m)
  contains_left (j ∷ ks) c k m = elim (contains_cases j ks k m) [
    | inl e ↦ subst (Contains (j ∷ (ks ++ (c ∷ [])))) e (contains_here j (ks ++ (c ∷ [])))
    | inr i ↦ contains_there j k (ks ++ (c ∷ [])) (contains_left ks c k i)
  ]

  contains_last : (ks : List ℕ) (c : ℕ) → Contains (ks ++ (c ∷ [])) c
  contains_last [] c = contains_here c []
  contains_last (j ∷ ks) c = contains_there j c (ks ++ (c ∷ [])) (contains_last ks c)

  map_more : (fs : List Vector) (f : Vector) → map Zero fs ++ (Zero f ∷ []) ≡ map Zero (fs ++ (f ∷ []))
  map_more [] f = refl
  map_more (g ∷ fs) f = ap (λ t. Zero g ∷ t) (map_more fs f)

  pub equation_more : (c n : ℕ) (cs ds : List Constraint) (f : Vector) → IsBetween columns c n → IsFromBottom w columns vs c (pos 1) 0 n f → AreEquationsBefore w columns vs c cs → ds ≡ cs ++ (Zero f ∷ []) → AreEquationsBefore w columns vs (c + 1) ds
  equation_more c n cs ds f between b e s = record {
    others = e.others ++ (c ∷ []);
    forms = e.forms ++ (f ∷ []);
    in_order = pairwise_more c e.others e.in_order (each_map (λ k. (k < c) × (¬ Contains columns k)) (λ k. k < c) e.others (λ k q. q.0) e.only);
    only = each_append (λ k. (k < c + 1) × (¬ Contains columns k)) e.others (c ∷ []) (further c e.others e.only) ((omega arith, not_between c n between), tt);
    all = λ j l m. elim (more_before c j l) [ inl q ↦ contains_left e.others c j (e.all j q m) | inr q ↦ subst (Contains (e.others ++ (c ∷ []))) (sym q) (contains_last e.others c) ];
    each = zip_append (λ k g. IsEquationAt w vs k g × EndsAt k g) e.others e.forms (c ∷ []) (f ∷ []) e.each (equation_at c n f between b, tt);
    whole = s ∙ ap (λ t. t ++ (Zero f ∷ [])) e.whole ∙ map_more e.forms f;
  }

  are_equations : (cs : List Constraint) (e : AreEquationsBefore w columns vs w cs) → AreEquations w vs e.forms
  are_equations cs e = record {
    columns = e.others;
    others = record {
      in_order = e.in_order;
      only = Each-from_contains (IsOtherColumn w vs) e.others (λ k c. record {
        within = (Each-contains (λ k. (k < w) × (¬ Contains columns k)) e.others k e.only c).0;
        not_key = λ (key : IsKeyColumn w vs k).
            let f = beside (λ k g. IsEquationAt w vs k g × EndsAt k g) e.others e.forms k e.each c in
            value_at_end f.other key.0 k f.related.1 key.2 (zero_on_span f.other w vs key.0 wide f.related.0.zero_on key.1);
      });
      each = λ k o. e.all k o.within (other_not_listed k o);
    };
    each = zip_change (λ k g. IsEquationAt w vs k g × EndsAt k g) (IsEquationAt w vs) e.others e.forms (λ k g r. r.0) e.each;
  }

  -- ---- the members
  module _ (cs : List Coordinate) (es : List Constraint) (d : AreDualEach w columns vs cs) (e : AreEquationsBefore w columns vs w es) where
    lead_or_zero : (x : Vector) → ((j : ℕ) × LeadsAt j x) ⊎ IsZero x
    lead_or_zero [] = inr tt
    lead_or_zero (b ∷ x) = elim (int_is_zero b) [
      | inl z ↦ elim (lead_or_zero x) [ inl r ↦ inl (suc r.0, (z, r.1)) | inr i ↦ inr (z, i) ]
      | inr n ↦ inl (0, n)
    ]

    lead_inside : (x : Vector) (j : ℕ) → LeadsAt j x → j < length x
    lead_inside [] j l = absurd l
    lead_inside (b ∷ x) zero l = omega arith
    lead_inside (b ∷ x) (suc j) l = let h = lead_inside x j l.1 in omega (arith, h)

    -- all forms are 0 at the zero vector only
    only_zero : (z : Vector) → HasWidth w z → Each (λ f. dot f z ≡ pos 0) e.forms → ((i : ℕ) → i < length vs → dot (coordinate_at cs i).form z ≡ pos 0) → IsZero z
    only_zero z l zf zd = elim (lead_or_zero z) [
      | inr i ↦ i
      | inl r ↦ absurd (
          let h = lead_inside z r.0 r.1 in
          elim (listed_or_not columns r.0) [
            | inl c ↦ (
                let p = place_of columns r.0 c in
                let n = zip_lengths LeadsAt columns vs a.each in
                let q = p.within in
                let m : p.place < length vs = omega (arith, n, q) in
                value_at_end (coordinate_at cs p.place).form z (column_at columns p.place) (dual_ends cs d p.place m) (subst (λ t. LeadsAt t z) (sym p.same) r.1) (zd p.place m))
            | inr o ↦ (
                let f = beside (λ k g. IsEquationAt w vs k g × EndsAt k g) e.others e.forms r.0 e.each (e.all r.0 (omega (arith, h, l)) o) in
                value_at_end f.other z r.0 f.related.1 r.1 (Each-contains (λ g. dot g z ≡ pos 0) e.forms f.other zf f.listed))
          ])
    ]

    equations_zero : (x : Vector) → IsInGroup w vs x → Each (λ f. dot f x ≡ pos 0) e.forms
    equations_zero x k = on e.others e.forms e.each
      where
        on : (ks : List ℕ) (fs : List Vector) → AllZip (λ k g. IsEquationAt w vs k g × EndsAt k g) ks fs → Each (λ f. dot f x ≡ pos 0) fs
        on [] [] z = tt
        on [] (f ∷ fs) z = absurd z
        on (j ∷ ks) [] z = absurd z
        on (j ∷ ks) (f ∷ fs) z = (form_zero w f vs x wide z.0.0.zero_on k, on ks fs z.1)

    IsWholeMultiple : Vector → Coordinate → Type 0
    IsWholeMultiple x c = IsMultipleOf c.divisor (dot c.form x)

    multiples : (x : Vector) → IsInGroup w vs x → Each (IsWholeMultiple x) cs
    unfolding IsWholeMultiple
    multiples x k = each_of_places (IsWholeMultiple x) (record { form = []; divisor = pos 0 }) cs (λ i l. (entry k.factors i, in_group_coordinate w vs cs x i k (dual cs d) (let n = d.one_each in omega (arith, n, l))))

    record Quotients (x : Vector) (ds : List Coordinate) : Type 0 where
      list : List ℤ
      size : length list ≡ length ds
      each : (i : ℕ) → i < length ds → dot (coordinate_at ds i).form x ≡ entry list i *ℤ (coordinate_at ds i).divisor

    quotients : (x : Vector) (ds : List Coordinate) → Each (IsWholeMultiple x) ds → Quotients x ds
    unfolding IsWholeMultiple
    quotients x [] h = record { list = []; size = refl; each = λ i l. absurd (omega (arith, l)) }
    quotients x (c ∷ ds) h =
        let r = quotients x ds h.1 in
        record { list = h.0.0 ∷ r.list; size = ap suc r.size; each = by r }
      where
        by : (r : Quotients x ds) → (i : ℕ) → i < length (c ∷ ds) → dot (coordinate_at (c ∷ ds) i).form x ≡ entry (h.0.0 ∷ r.list) i *ℤ (coordinate_at (c ∷ ds) i).divisor
        by r zero l = h.0.1
        by r (suc i) l = r.each i (omega (arith, l))

    in_group : (x : Vector) → HasWidth w x → Each (λ f. dot f x ≡ pos 0) e.forms → Each (IsWholeMultiple x) cs → IsInGroup w vs x
    in_group x l zf h =
        let r = quotients x cs h in
        let n = d.one_each in
        let y = combination w r.list vs in
        let ly : HasWidth w y = length-combination w r.list vs wide in
        let k : IsInGroup w vs y = record { factors = r.list; one_each = r.size ∙ n; same = refl } in
        let z = minus x y in
        let lz : HasWidth w z = length-minus x y (l ∙ sym ly) ∙ l in
        let value : (f : Vector) → dot f z ≡ dot f x -ℤ dot f y = λ f. dot-minus f x y (l ∙ sym ly) in
        let zeros : Each (λ f. dot f z ≡ pos 0) e.forms = Each-from_contains (λ f. dot f z ≡ pos 0) e.forms (λ f c.
        let p = Each-contains (λ f. dot f x ≡ pos 0) e.forms f zf c in
        let q = Each-contains (λ f. dot f y ≡ pos 0) e.forms f (equations_zero y k) c in
        let v = value f in
        omega (arith, ints, p, q, v)) in
        let duals : (i : ℕ) → i < length vs → dot (coordinate_at cs i).form z ≡ pos 0 = λ i m.
        let p = r.each i (omega (arith, n, m)) in
        let q = coordinate_of_sum w vs cs r.list i (dual cs d) (r.size ∙ n) m in
        let v = value (coordinate_at cs i).form in
        v ∙ ap₂ ◌-ℤ◌ p q ∙ same (entry r.list i *ℤ (coordinate_at cs i).divisor) in
        let i = only_zero z lz zeros duals in
        let s : y ≡ x = sym (plus-zero w y ly) ∙ ap (λ t. plus y t) (sym (zero_vector_of z i ∙ ap zero_vector lz)) ∙ plus-minus x y (l ∙ sym ly) in
        subst (IsInGroup w vs) s k
      where
        same : (t : ℤ) → t -ℤ t ≡ pos 0
        same t = omega (arith, ints)

    -- what the congruences with a modulus above 1 leave out is no condition
    above_met : (x : Vector) (ds : List Coordinate) (gs : List Congruence) → AreAboveOne ds gs → Each (IsWholeMultiple x) ds → Each (λ g. IsMultipleBy g x) gs
    unfolding IsWholeMultiple
    above_met x [] [] none h = tt
    above_met x [] (g ∷ gs) t h = elim t [ ]
    above_met x (c ∷ ds) gs (pass p t) h = above_met x ds gs t h.1
    above_met x (c ∷ ds) (g ∷ gs) (keep p t) h = (h.0, above_met x ds gs t h.1)

    above_all : (x : Vector) (ds : List Coordinate) (gs : List Congruence) → AreAboveOne ds gs → Each (λ g. IsMultipleBy g x) gs → Each (IsWholeMultiple x) ds
    unfolding IsWholeMultiple
    above_all x [] [] none h = tt
    above_all x [] (g ∷ gs) t h = elim t [ ]
    above_all x (c ∷ ds) gs (pass p t) h = ((dot c.form x, sym (ap (λ t. dot c.form x *ℤ t) p ∙ *ℤ_comm (dot c.form x) (pos 1) ∙ one-mul (dot c.form x))), above_all x ds gs t h)
    above_all x (c ∷ ds) (g ∷ gs) (keep p t) h = (h.0, above_all x ds gs t h.1)

    module _ (gs : List Congruence) (all : List Constraint) (t : AreAboveOne cs gs) (s : all ≡ es ++ map constraint_of gs) where
      together : all ≡ map Zero e.forms ++ map constraint_of gs
      together = s ∙ ap (λ u. u ++ map constraint_of gs) e.whole

      pub are_constraints : AreGroupConstraints w vs all
      are_constraints = record {
        equations = e.forms;
        congruences = gs;
        are_equations = are_equations es e;
        are_congruences = record { coordinates = cs; dual = dual_forms cs d; above_one = t };
        whole = together;
      }

      pub members : (x : Vector) → HasWidth w x → MeetsAll all x ↔ IsInGroup w vs x
      members x l = (
        (λ m.
            let both : MeetsAll (map Zero e.forms ++ map constraint_of gs) x = subst (λ u. MeetsAll u x) together m in
            in_group x l
            (map_each Zero (λ c. Meets c x) e.forms (each_left (λ c. Meets c x) (map Zero e.forms) (map constraint_of gs) both))
            (above_all x cs gs t (map_each constraint_of (λ c. Meets c x) gs (each_right (λ c. Meets c x) (map Zero e.forms) (map constraint_of gs) both)))),
        (λ k. subst (λ u. MeetsAll u x) (sym together) (each_append (λ c. Meets c x) (map Zero e.forms) (map constraint_of gs)
            (each_of_map Zero (λ c. Meets c x) e.forms (equations_zero x k))
            (each_of_map constraint_of (λ c. Meets c x) gs (above_met x cs gs t (multiples x k))))),
      )

-- ---- as the code has them
pub leading_of : (vs : List Vector) (items : List ℕ) → IsEchelon vs → ((columns : List ℕ) → AllZip LeadsAt columns vs → items ≡ columns) → AreLeading items vs
leading_of vs items e h = subst (λ (t : List ℕ). AreLeading t vs) (sym (h e.0 e.1.each)) e.1

-- where a greater column is found
pub between_found : (columns : List ℕ) (c n : ℕ) → Pairwise ◌<◌ columns → n < length columns → c < column_at columns n → ((i : ℕ) → i < n → column_at columns i < c) → IsBetween columns c n
between_found columns c n p l h b = record {
  within = omega (arith, l);
  before = b;
  behind = λ i m k. elim (cases_lt n i) [
    | inl q ↦ (let r = increasing columns n i p q k in omega (arith, r, h))
    | inr q ↦ (let t : n ≡ i = omega (arith, m, q) in subst (λ (j : ℕ). c < column_at columns j) t h)
  ];
}

pub all_before : (columns : List ℕ) (c n : ℕ) → length columns ≤ n → ((i : ℕ) → i < n → column_at columns i < c) → IsBetween columns c (length columns)
all_before columns c n l b = record { within = omega arith; before = λ i h. b i (omega (arith, l, h)); behind = λ i h k. absurd (omega (arith, h, k)) }

-- not smaller and not equal
pub before_more : (columns : List ℕ) (c n : ℕ) → ¬ (column_at columns n ≡ c) → column_at columns n ≤ c → ((i : ℕ) → i < n → column_at columns i < c) → (i : ℕ) → i < n + 1 → column_at columns i < c
before_more columns c n ne h b i k = elim (cases_lt i n) [
  | inl q ↦ b i q
  | inr q ↦ (
      let t : n ≡ i = omega (arith, k, q) in
      subst (λ (j : ℕ). column_at columns j < c) t (elim (cases_lt (column_at columns n) c) [ inl r ↦ r | inr r ↦ absurd (ne (omega (arith, h, r))) ]))
]

pub nothing_more : (xs : List Constraint) → xs ≡ xs ++ []
nothing_more [] = refl
nothing_more (x ∷ xs) = ap (λ t. x ∷ t) (nothing_more xs)

-- one congruence more
above_push : (es fs : List Coordinate) (gs hs : List Congruence) → AreAboveOne es gs → AreAboveOne fs hs → AreAboveOne (es ++ fs) (gs ++ hs)
above_push [] fs [] hs none t = t
above_push [] fs (g ∷ gs) hs a t = elim a [ ]
above_push (c ∷ es) fs gs hs (pass p a) t = pass p (above_push es fs gs hs a t)
above_push (c ∷ es) fs (g ∷ gs) hs (keep p a) t = keep p (above_push es fs gs hs a t)

above_same : (gs : List Congruence) → gs ++ [] ≡ gs
above_same [] = refl
above_same (g ∷ gs) = ap (λ t. g ∷ t) (above_same gs)

pub congruences_more : (es : List Coordinate) (c : Coordinate) (gs : List Congruence) (list before after : List Constraint) → AreAboveOne es gs → before ≡ list ++ map constraint_of gs → ((c.divisor ≡ pos 1) × (after ≡ before)) ⊎ ((pos 1 <ℤ c.divisor) × (after ≡ before ++ (constraint_of (congruence_of c) ∷ []))) → (hs : List Congruence) × AreAboveOne (es ++ (c ∷ [])) hs × (after ≡ list ++ map constraint_of hs)
congruences_more es c gs list before after a e h = elim h [
  | inl o ↦ (gs, subst (AreAboveOne (es ++ (c ∷ []))) (above_same gs) (above_push es (c ∷ []) gs [] a (pass o.0 none)), o.1 ∙ e)
  | inr o ↦ (gs ++ (congruence_of c ∷ []), above_push es (c ∷ []) gs (congruence_of c ∷ []) a (keep o.0 none), o.1 ∙ ap (λ t. t ++ (constraint_of (congruence_of c) ∷ [])) e ∙ assoc list (map constraint_of gs) ∙ ap (λ t. list ++ t) (push gs))
]
  where
    assoc : (xs ys : List Constraint) → (xs ++ ys) ++ (constraint_of (congruence_of c) ∷ []) ≡ xs ++ (ys ++ (constraint_of (congruence_of c) ∷ []))
    assoc [] ys = refl
    assoc (x ∷ xs) ys = ap (λ t. x ∷ t) (assoc xs ys)

    push : (gs : List Congruence) → map constraint_of gs ++ (constraint_of (congruence_of c) ∷ []) ≡ map constraint_of (gs ++ (congruence_of c ∷ []))
    push [] = refl
    push (g ∷ gs) = ap (λ t. constraint_of g ∷ t) (push gs)

pub equation_pushed : (w : ℕ) (columns : List ℕ) (vs : List Vector) (c n : ℕ) (s : ℤ) (cs ds : List Constraint) (f : Vector) → Each (HasWidth w) vs → AreLeading columns vs → s ≡ pos 1 → IsBetween columns c n → IsFromBottom w columns vs c s 0 n f → AreEquationsBefore w columns vs c cs → ds ≡ cs ++ (Zero f ∷ []) → AreEquationsBefore w columns vs (c + 1) ds
equation_pushed w columns vs c n s cs ds f wide a e between b so_far k = equation_more w columns vs wide a c n cs ds f between (subst (λ (t : ℤ). IsFromBottom w columns vs c t 0 n f) e b) so_far k
