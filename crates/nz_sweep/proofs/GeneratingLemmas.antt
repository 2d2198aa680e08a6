-- The rows set apart are a base of the group of all rows, in echelon form.
use Rattle.std.proofs.Common.{◌≡◌, ◌≢◌, ◌↔◌, ◌⊎◌, inl, inr, ℕ, zero, suc, ◌+◌, ◌<◌, ◌≤◌, List, [], ◌∷◌, ◌++◌, length, map, ℤ, pos, refl, sym, ap, ◌∙◌, subst, arith}
use Rattle.std.specs.List.{AllByRecursion as Each, AllZip}
use Rattle.std.proofs.lemmas.Bool.{cases_lt}
use Rattle.std.proofs.lemmas.Int.{ints}
use Rattle.nz_spec.specs.Vectors.{Vector, dot, combination, entry, zero_vector, unit_vectors, HasWidth, IsZero}
use Rattle.nz_spec.specs.Sums.{IsInGroup, IsIndependent}
use Rattle.nz_spec.specs.Order.{Pairwise}
use Rattle.nz_spec.specs.Forms.{LeadsAt}
use Rattle.nz_spec.proofs.SumLaws.{dot-combination, length-zero_vector, IsInGroup-zero}
use Rattle.nz_spec.proofs.ConstraintLaws.{values_zero}
use Rattle.nz_spec.proofs.ListLaws.{Each-contains, Each-from_contains}
use Rattle.nz_linear.specs.Echelon.{unit_at}
use Rattle.nz_linear.proofs.Ring.{sums}
use Rattle.nz_linear.proofs.Lists.{each_all, each_map, each_map2, each_of_map}
use Rattle.nz_linear.proofs.Units.{unit_at-dot, entry-zero_vector, leads_at}
use Rattle.nz_linear.proofs.Groups.{group_member, group_within}
use Rattle.nz_linear.proofs.GroupCuts.{group_split, group_join}
use Rattle.nz_linear.proofs.Rank.{independent_more}
use Rattle.nz_sweep.specs.Clearing.{Valued, vectors_of, AreZero, IsCleared}
use Rattle.nz_sweep.specs.Cuts.{AreValued, IsValueAt}
use Rattle.nz_sweep.specs.Generating.{AreSetApart, done, pass, take, AreLeading, IsEchelon}
use Rattle.nz_sweep.proofs.InsideLemmas.{same_entries}
use Rattle.nz_sweep.proofs.ClearingLemmas.{cleared_clears}
use Rattle.nz_sweep.proofs.StepLemmas.{valued_vectors, values_are, zero_values, none_of, zeros_are}

-- the first nonzero entries increase, from column c on
pub record IsEchelonFrom (c : ℕ) (vs : List Vector) : Type 0 where
  pub columns : List ℕ
  pub behind : Each (λ k. c ≤ k) columns
  pub leading : AreLeading columns vs

-- independent vectors of that width that generate the group of the rows, in echelon form
pub record IsBaseOf (w c : ℕ) (rows base : List Vector) : Type 0 where
  pub widths : Each (HasWidth w) base
  pub independent : IsIndependent w base
  pub same : (x : Vector) → IsInGroup w rows x ↔ IsInGroup w base x
  pub echelon : IsEchelonFrom c base

-- all entries before column c are 0
pub IsZeroBefore : ℕ → Vector → Type 0
IsZeroBefore c v = (k : ℕ) → k < c → entry v k ≡ pos 0

-- a form that is 0 at generators is 0 on their group
pub form_zero : (w : ℕ) (h : Vector) (vs : List Vector) (x : Vector) → Each (HasWidth w) vs → Each (λ v. dot h v ≡ pos 0) vs → IsInGroup w vs x → dot h x ≡ pos 0
form_zero w h vs x l z k = ap (dot h) (sym k.same) ∙ dot-combination h w k.factors vs l ∙ values_zero h k.factors vs z

-- so it is at the vectors of a base of a smaller group
zero_inside : (w : ℕ) (h : Vector) (vs us : List Vector) → Each (HasWidth w) vs → Each (HasWidth w) us → ((x : Vector) → IsInGroup w us x → IsInGroup w vs x) → Each (λ v. dot h v ≡ pos 0) vs → Each (λ v. dot h v ≡ pos 0) us
zero_inside w h vs us l m i z = Each-from_contains (λ v. dot h v ≡ pos 0) us (λ v c. form_zero w h vs v l z (i v (group_member w us v m c)))

zero_vector_of_entries : (w : ℕ) (v : Vector) → HasWidth w v → IsZeroBefore w v → v ≡ zero_vector w
unfolding IsZeroBefore
zero_vector_of_entries w v l z = same_entries v (zero_vector w) (l ∙ sym (length-zero_vector w)) (λ k h. z k (omega (arith, l, h)) ∙ sym (entry-zero_vector w k))

-- rows that are 0 generate what no vector does
done_base : (w : ℕ) (rows : List Vector) → Each (HasWidth w) rows → Each (IsZeroBefore w) rows → IsBaseOf w w rows []
done_base w rows l z = record {
  widths = tt;
  independent = none;
  same = λ x. (
    (λ k. group_within w rows [] x tt (each_map2 (HasWidth w) (IsZeroBefore w) (IsInGroup w []) rows (λ v a b. record { factors = []; one_each = refl; same = sym (zero_vector_of_entries w v a b) }) l z) k),
    (λ k. subst (IsInGroup w rows) (empty k.factors k.one_each ∙ k.same) (IsInGroup-zero w rows l)),
  );
  echelon = record { columns = []; behind = tt; leading = record { in_order = tt; each = tt } };
}
  where
    none : (cs : List ℤ) → length cs ≡ length {A = Vector} [] → IsZero (combination w cs []) → IsZero cs
    none [] e i = tt
    none (c ∷ cs) e i = absurd (omega (arith, e))

    empty : (cs : List ℤ) → length cs ≡ length {A = Vector} [] → zero_vector w ≡ combination w cs []
    empty [] e = refl
    empty (c ∷ cs) e = absurd (omega (arith, e))

-- one vector before others that generate the same group
same_behind : (w : ℕ) (p : Vector) (vs us : List Vector) (x : Vector) → Each (HasWidth w) (p ∷ us) → ((y : Vector) → IsInGroup w vs y → IsInGroup w us y) → IsInGroup w (p ∷ vs) x → IsInGroup w (p ∷ us) x
same_behind w p vs us x l i k =
    let s = group_split w [] p vs x k in
    subst (IsInGroup w (p ∷ us)) (sym s.same) (group_join w [] p us s.factor s.rest l (i s.rest s.in_others))

more_before : (c k : ℕ) → k < suc c → (k < c) ⊎ (k ≡ c)
more_before c k l = elim (cases_lt k c) [
  | inl b ↦ inl b
  | inr g ↦ inr (omega (arith, g, l))
]

echelon_before : (c : ℕ) (vs : List Vector) → IsEchelonFrom (suc c) vs → IsEchelonFrom c vs
echelon_before c vs e = record { columns = e.columns; behind = each_map (λ k. suc c ≤ k) (λ k. c ≤ k) e.columns (λ k l. omega (arith, l)) e.behind; leading = e.leading }

echelon_more : (c : ℕ) (v : Vector) (vs : List Vector) → LeadsAt c v → IsEchelonFrom (suc c) vs → IsEchelonFrom c (v ∷ vs)
unfolding echelon_before
echelon_more c v vs l e = record {
  columns = c ∷ e.columns;
  behind = (omega arith, (echelon_before c vs e).behind);
  leading = record { in_order = (each_map (λ k. suc c ≤ k) (λ k. c < k) e.columns (λ k l. omega (arith, l)) e.behind, e.leading.in_order); each = (l, e.leading.each) };
}

pub apart_base : (w c : ℕ) (rows base : List Vector) → Each (HasWidth w) rows → Each (IsZeroBefore c) rows → AreSetApart w c rows base → IsBaseOf w c rows base
unfolding IsZeroBefore
apart_base w c rows base l z done = done_base w rows l z
apart_base w c rows base l z (pass h s) =
    let r = apart_base w (suc c) rows base l (each_map2 (IsZeroBefore c) (λ v. entry v c ≡ pos 0) (IsZeroBefore (suc c)) rows (λ v a b k i. elim (more_before c k i) [
      | inl j ↦ a k j
      | inr e ↦ ap (entry v) e ∙ b
    ]) z h) s in
    record { widths = r.widths; independent = r.independent; same = r.same; echelon = echelon_before c base r.echelon }
apart_base w c rows base l z (take {base = rest} {values = values} {place = place} {own = own} {others = others} v d s) =
    let e = valued_vectors (IsValueAt (unit_at w c)) rows values v in
    let k = cleared_clears w values place own others d (subst (Each (HasWidth w)) (sym e) l) in
    let all : (x : Vector) → IsInGroup w rows x ↔ IsInGroup w (own.vector ∷ vectors_of others) x = subst (λ (t : List Vector). (x : Vector) → IsInGroup w t x ↔ IsInGroup w (own.vector ∷ vectors_of others) x) e k.0.same in
    let values_stay = k.1 (unit_at w c) (pos 0) (values_are (unit_at w c) (pos 0) rows values v) in
    let here = zero_values (unit_at w c) others values_stay.1 d.zero in
    let lo : Each (HasWidth w) (vectors_of others) = k.0.widths.1 in
    let before : (j : ℕ) → j < c → Each (λ v. dot (unit_at w j) v ≡ pos 0) (own.vector ∷ vectors_of others) = λ j i. zero_inside w (unit_at w j) rows (own.vector ∷ vectors_of others) l k.0.widths (λ x m. (all x).1 m) (each_map2 (HasWidth w) (IsZeroBefore c) (λ v. dot (unit_at w j) v ≡ pos 0) rows (λ v a b. unit_at-dot w j v a ∙ b j i) l z) in
    let zeros : Each (IsZeroBefore (suc c)) (vectors_of others) = Each-from_contains (IsZeroBefore (suc c)) (vectors_of others) (λ v m j i. elim (more_before c j i) [
      | inl b ↦ sym (unit_at-dot w j v (Each-contains (HasWidth w) (vectors_of others) v lo m)) ∙ Each-contains (λ v. dot (unit_at w j) v ≡ pos 0) (vectors_of others) v (before j b).1 m
      | inr q ↦ ap (entry v) q ∙ sym (unit_at-dot w c v (Each-contains (HasWidth w) (vectors_of others) v lo m)) ∙ Each-contains (λ v. dot (unit_at w c) v ≡ pos 0) (vectors_of others) v here m
    ]) in
    let r = apart_base w (suc c) (vectors_of others) rest lo zeros s in
    let nonzero : dot (unit_at w c) own.vector ≢ pos 0 = λ q. d.nonzero (let n = none_of _ values_stay.0 in omega (arith, sums, n, q)) in
    record {
      widths = (k.0.widths.0, r.widths);
      independent = independent_more w (unit_at w c) own.vector rest k.0.widths.0 r.widths nonzero (zero_inside w (unit_at w c) (vectors_of others) rest lo r.widths (λ x m. (r.same x).1 m) here) r.independent;
      same = λ x. (
        (λ m. same_behind w own.vector (vectors_of others) rest x (k.0.widths.0, r.widths) (λ y i. (r.same y).0 i) ((all x).0 m)),
        (λ m. (all x).1 (same_behind w own.vector rest (vectors_of others) x k.0.widths (λ y i. (r.same y).1 i) m)),
      );
      echelon = echelon_more c own.vector rest (leads_at own.vector c (λ q. nonzero (unit_at-dot w c own.vector k.0.widths.0 ∙ q)) (λ j i. sym (unit_at-dot w j own.vector k.0.widths.0) ∙ (before j i).0)) r.echelon;
    }

pub generates : (w : ℕ) (rows base : List Vector) → Each (HasWidth w) rows → AreSetApart w 0 rows base → IsBaseOf w 0 rows base
unfolding IsZeroBefore
generates w rows base l s = apart_base w 0 rows base l (Each-from_contains (IsZeroBefore 0) rows (λ v c k i. absurd (omega (arith, i)))) s

-- ---- as the code has it: what is set apart from a column on comes after what was before
pub column_zero : (w c : ℕ) (left : List Vector) (form : Vector) (list : List Valued) → Each (HasWidth w) left → form ≡ unit_at w c → AreValued (IsValueAt form) left list → AreZero list → Each (λ u. entry u c ≡ pos 0) left
column_zero w c left form list l e v z = each_map2 (HasWidth w) (λ u. dot form u ≡ pos 0) (λ u. entry u c ≡ pos 0) left (λ u a b. sym (unit_at-dot w c u a) ∙ ap (λ t. dot t u) (sym e) ∙ b) l (zeros_are form left list v z)

pub apart_passed : (w c : ℕ) (left base rest : List Vector) (form : Vector) (list : List Valued) → Each (HasWidth w) left → form ≡ unit_at w c → AreValued (IsValueAt form) left list → AreZero list → AreSetApart w (c + 1) left rest → (more : List Vector) × AreSetApart w c left more × (base ++ more ≡ base ++ rest)
apart_passed w c left base rest form list l e v z s =
    let e' : c + 1 ≡ suc c = omega arith in (
      rest,
      pass (column_zero w c left form list l e v z) (subst (λ (n : ℕ). AreSetApart w n left rest) e' s),
      refl,
    )

pub apart_taken : (w c : ℕ) (left base base' rest lefts : List Vector) (form : Vector) (list : List Valued) (place : ℕ) (own : Valued) (others : List Valued) → form ≡ unit_at w c → AreValued (IsValueAt form) left list → IsCleared list place own others → base' ≡ base ++ (own.vector ∷ []) → lefts ≡ vectors_of others → AreSetApart w (c + 1) lefts rest → (more : List Vector) × AreSetApart w c left more × (base ++ more ≡ base' ++ rest)
apart_taken w c left base base' rest lefts form list place own others e v d b f s =
    let e' : c + 1 ≡ suc c = omega arith in (
      own.vector ∷ rest,
      take (subst (λ (h : Vector). AreValued (IsValueAt h) left list) e v) d (subst (λ (t : List Vector). AreSetApart w (suc c) t rest) f (subst (λ (n : ℕ). AreSetApart w n lefts rest) e' s)),
      push base ∙ ap (λ t. t ++ rest) (sym b),
    )
  where
    push : (xs : List Vector) → xs ++ (own.vector ∷ rest) ≡ (xs ++ (own.vector ∷ [])) ++ rest
    push [] = refl
    push (x ∷ xs) = ap (λ t. x ∷ t) (push xs)

pub left_widths : (w : ℕ) (left lefts : List Vector) (form : Vector) (list : List Valued) (place : ℕ) (own : Valued) (others : List Valued) → Each (HasWidth w) left → AreValued (IsValueAt form) left list → IsCleared list place own others → lefts ≡ vectors_of others → Each (HasWidth w) lefts
left_widths w left lefts form list place own others l v d f =
    let e = valued_vectors (IsValueAt form) left list v in
    let k = cleared_clears w list place own others d (subst (Each (HasWidth w)) (sym e) l) in
    subst (Each (HasWidth w)) (sym f) k.0.widths.1

-- at the last column nothing is set apart any more
pub apart_done : (w c : ℕ) (rows left base : List Vector) → w ≤ c → c ≤ w → ((rest : List Vector) → AreSetApart w c left rest → (more : List Vector) × AreSetApart w 0 rows more × (more ≡ base ++ rest)) → AreSetApart w 0 rows base
apart_done w c rows left base n l h =
    let e : w ≡ c = omega (arith, n, l) in
    let r = h [] (subst (λ (t : ℕ). AreSetApart w t left []) e done) in
    subst (AreSetApart w 0 rows) (r.2 ∙ nothing base) r.1
  where
    nothing : (xs : List Vector) → xs ++ [] ≡ xs
    nothing [] = refl
    nothing (x ∷ xs) = ap (λ t. x ∷ t) (nothing xs)

-- ---- the unit vectors
shifted_leads : (columns : List ℕ) (vs : List Vector) → AllZip LeadsAt columns vs → AllZip LeadsAt (map suc columns) (map (λ u. pos 0 ∷ u) vs)
shifted_leads [] [] z = tt
shifted_leads [] (v ∷ vs) z = absurd z
shifted_leads (c ∷ columns) [] z = absurd z
shifted_leads (c ∷ columns) (v ∷ vs) z = ((refl, z.0), shifted_leads columns vs z.1)

shifted_order : (columns : List ℕ) → Pairwise ◌<◌ columns → Pairwise ◌<◌ (map suc columns)
shifted_order [] p = tt
shifted_order (c ∷ columns) p = (each_of_map suc (λ k. suc c < k) columns (each_map (λ k. c < k) (λ k. suc c < suc k) columns (λ k l. omega (arith, l)) p.0), shifted_order columns p.1)

pub units_echelon : (w : ℕ) (vs : List Vector) → vs ≡ unit_vectors w → IsEchelon vs
units_echelon w vs e = subst IsEchelon (sym e) (units w)
  where
    units : (w : ℕ) → IsEchelon (unit_vectors w)
    units zero = ([], record { in_order = tt; each = tt })
    units (suc w) =
        let r = units w in
        (0 ∷ map suc r.0, record { in_order = (each_of_map suc (λ k. 0 < k) r.0 (each_all (λ k. 0 < suc k) r.0 (λ k. omega arith)), shifted_order r.0 r.1.in_order); each = ((λ q. omega (arith, ints, q)), shifted_leads r.0 (unit_vectors w) r.1.each) })
