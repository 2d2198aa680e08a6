-- The order of the stages: the first independent rays, and then the others.
use Rattle.std.proofs.Common.{◌≡◌, ◌≢◌, ◌⊎◌, inl, inr, ⊎_elim, ℕ, zero, suc, ◌+◌, ◌<◌, ◌≤◌, List, [], ◌∷◌, ◌++◌, length, map, take, get_or, pos, refl, sym, ap, ◌∙◌, subst, append_assoc, append-nil, length-append, length-take-le, arith}
use Rattle.std.proofs.Math.Seq.{take-append_seam, get_or-append_seam}
use Rattle.std.proofs.lemmas.List.{map-append, length_push, take_more, take_all, get_or-take}
use Rattle.std.proofs.lemmas.List.Elements.{Contains-append_left, Contains-append_right}
use Rattle.std.specs.List.{AllByRecursion as Each, Contains}
use Rattle.nz_spec.specs.Vectors.{Vector, dot, HasWidth, IsZero}
use Rattle.nz_spec.specs.Sums.{IsInSpan, IsIndependent, HasRank}
use Rattle.nz_spec.specs.Order.{IsListOf}
use Rattle.nz_spec.specs.Covers.{vectors_at}
use Rattle.nz_spec.specs.Stages.{IsFreshVector, Separates, none, fresh, other, IsIndependentFirst}
use Rattle.nz_spec.proofs.ListLaws.{contains_here, contains_there, contains_cases, contains_none, Each-contains, contains_at}
use Rattle.nz_spec.proofs.LinearLaws.{HasRank-unique}
use Rattle.nz_spec.proofs.VectorLaws.{IsZero-zero_vector}
use Rattle.nz_spec.proofs.EquationLaws.{dot_comm, zero_on_span}
use Rattle.nz_linear.specs.DualPairs.{Pair, IsDualPair}
use Rattle.nz_linear.specs.Extreme.{IsPointed}
use Rattle.nz_linear.proofs.DualCone.{swap, swapped_dual, swapped_widths, swapped_only_zero}
use Rattle.nz_linear.proofs.EliminationRun.{run, find_pivot, common_zero_or_dual}
use Rattle.nz_linear.proofs.Lists.{each_map, each_map2, each_append, each_left, each_of_map}
use Rattle.nz_linear.proofs.Members.{members_push}
use Rattle.nz_linear.proofs.Rank.{rank_of_state, rank_and_left, in_seen_span, independent_more}
use Rattle.nz_linear.proofs.Spans.{span_of_members, span_within, span_member}
use Rattle.nz_pointed.specs.Pointed.{IsNew, AreFirstIndependent}
use Rattle.nz_pointed.proofs.ListLemmas.{each_take, pairwise_push}
use Rattle.nz_range.proofs.Causes.{each_own as own_members}
use Rattle.nz_rays.proofs.CutLemmas.{same_or_not}
use Rattle.nz_cover.specs.Passing.{IsLeft}
use Rattle.nz_cover.specs.Placing.{ArePlaceable}
use Rattle.nz_cover.proofs.CellLaws.{vectors_of, cell_span}

pub held_or_not : (xs : List ℕ) (x : ℕ) → Contains xs x ⊎ ¬ Contains xs x
held_or_not [] x = inr (contains_none x)
held_or_not (y ∷ xs) x = elim (same_or_not y x) [
  | inl e ↦ inl (subst (Contains (y ∷ xs)) e (contains_here y xs))
  | inr n ↦ elim (held_or_not xs x) [
    | inl k ↦ inl (contains_there y x xs k)
    | inr m ↦ inr (λ k. ⊎_elim n m (contains_cases y xs x k))
  ]
]

pub above : (i q : ℕ) → i ≤ q → i ≢ q → suc i ≤ q
above zero zero l n = absurd (n refl)
above zero (suc q) l n = omega arith
above (suc i) zero l n = absurd (let z : ⊥ = omega (arith, l) in z)
above (suc i) (suc q) l n = let k = above i q (omega (arith, l)) (λ e. n (ap suc e)) in omega (arith, k)

-- ---- lists of numbers in order
pub list_change : (P Q : ℕ → Type 0) (xs : List ℕ) → ((q : ℕ) → P q → Q q) → ((q : ℕ) → Q q → P q) → IsListOf ◌<◌ P xs → IsListOf ◌<◌ Q xs
list_change P Q xs f g l = record { in_order = l.in_order; only = each_map P Q xs f l.only; each = λ q h. l.each q (g q h) }

pub record HasHead (P : ℕ → Type 0) (i : ℕ) (xs : List ℕ) : Type 0 where
  pub tail : List ℕ
  pub whole : xs ≡ i ∷ tail
  pub lists : IsListOf ◌<◌ (λ q. P q × (i < q)) tail

-- the least number of a list in order is its first
pub head_of : (P : ℕ → Type 0) (i : ℕ) (xs : List ℕ) → IsListOf ◌<◌ P xs → P i → ((q : ℕ) → P q → i ≤ q) → HasHead P i xs
head_of P i [] l p low = absurd (contains_none i (l.each i p))
head_of P i (x ∷ xs) l p low = by (contains_cases x xs i (l.each i p))
  where
    by : (x ≡ i) ⊎ Contains xs i → HasHead P i (x ∷ xs)
    by (inl e) = record {
      tail = xs;
      whole = ap (λ (t : ℕ). t ∷ xs) e;
      lists = record {
        in_order = l.in_order.1;
        only = each_map2 P (λ q. x < q) (λ q. P q × (i < q)) xs (λ q h k. (h, omega (arith, e, k))) l.only.1 l.in_order.0;
        each = λ q h. ⊎_elim (λ f. let b = h.1 in absurd (let z : ⊥ = omega (arith, e, f, b) in z)) (λ k. k) (contains_cases x xs q (l.each q h.0));
      };
    }
    by (inr k) = let a = Each-contains (λ q. x < q) xs i l.in_order.0 k in let b = low x l.only.0 in absurd (let z : ⊥ = omega (arith, a, b) in z)

pub none_of : (P : ℕ → Type 0) (xs : List ℕ) → IsListOf ◌<◌ P xs → ((q : ℕ) → P q → ⊥) → xs ≡ []
none_of P [] l n = refl
none_of P (x ∷ xs) l n = absurd (n x l.only.0)

-- ---- the places that are left
pub record SomeLeft (placed : List ℕ) (low high : ℕ) : Type 0 where
  pub rest : List ℕ
  pub lists : IsListOf ◌<◌ (IsLeft placed low high) rest

pub left_from : (placed : List ℕ) (high n low : ℕ) → low + n ≡ high → SomeLeft placed low high
left_from placed high zero low e = record { rest = []; lists = record { in_order = tt; only = tt; each = λ q h. let a = h.from in let b = h.below in absurd (let z : ⊥ = omega (arith, e, a, b) in z) } }
left_from placed high (suc n) low e =
    let r = left_from placed high n (suc low) (omega (arith, e)) in
    elim (held_or_not placed low) [
      | inl k ↦ record {
        rest = r.rest;
        lists = list_change (IsLeft placed (suc low) high) (IsLeft placed low high) r.rest
            (λ q h. record { from = (let a = h.from in omega (arith, a)); below = h.below; fresh = h.fresh })
            (λ q h. record { from = ⊎_elim (λ s. absurd (h.fresh (subst (Contains placed) s k))) (λ s. let a = h.from in above low q a s) (same_or_not low q); below = h.below; fresh = h.fresh }) r.lists;
      }
      | inr m ↦ record {
        rest = low ∷ r.rest;
        lists = record {
          in_order = (each_map (IsLeft placed (suc low) high) (λ q. low < q) r.rest (λ q h. let a = h.from in omega (arith, a)) r.lists.only, r.lists.in_order);
          only = (record { from = omega arith; below = omega (arith, e); fresh = m }, each_map (IsLeft placed (suc low) high) (IsLeft placed low high) r.rest (λ q h. record { from = (let a = h.from in omega (arith, a)); below = h.below; fresh = h.fresh }) r.lists.only);
          each = λ q h. ⊎_elim (λ s. subst (Contains (low ∷ r.rest)) s (contains_here low r.rest)) (λ s. contains_there low q r.rest (r.lists.each q (record { from = (let a = h.from in above low q a s); below = h.below; fresh = h.fresh }))) (same_or_not low q);
        };
      }
    ]

-- ---- the rays fall into the first independent ones and the others
module _ (w : ℕ) (rows : List Vector) (wide : Each (HasWidth w) rows) where
  abbrev NewFrom : ℕ → ℕ → Type 0
  NewFrom i p = (i ≤ p) × IsNew w rows p

  record IsOld (i p : ℕ) : Type 0 where
    from : i ≤ p
    below : p < length rows
    old : ¬ IsNew w rows p

  separate : (suffix front earlier : List Vector) (i : ℕ) (ps rs : List ℕ) → rows ≡ front ++ suffix → length front ≡ i → Each (Contains front) earlier → Each (Contains earlier) front → IsListOf ◌<◌ (NewFrom i) ps → IsListOf ◌<◌ (IsOld i) rs
      → Separates (IsFreshVector w) earlier suffix (vectors_at rows ps) (vectors_at rows rs)
  separate [] front earlier i ps rs whole size there back new old =
      let n : length rows ≡ i = ap length whole ∙ ap length (append-nil front) ∙ size in
      let e = none_of (NewFrom i) ps new (λ q h. let a = h.0 in let b = h.1.within in let z : ⊥ = omega (arith, n, a, b) in z) in
      let f = none_of (IsOld i) rs old (λ q h. let a = h.from in let b = h.below in let z : ⊥ = omega (arith, n, a, b) in z) in
      subst (λ (xs : List ℕ). Separates (IsFreshVector w) earlier [] (vectors_at rows xs) (vectors_at rows rs)) (sym e) (subst (λ (xs : List ℕ). Separates (IsFreshVector w) earlier [] [] (vectors_at rows xs)) (sym f) none)
  separate (v ∷ suffix) front earlier i ps rs whole size there back new old =
      let here : get_or rows i [] ≡ v = ap (λ (n : ℕ). get_or rows n []) (sym size) ∙ ap (λ (xs : List Vector). get_or xs (length front) []) whole ∙ get_or-append_seam front v suffix [] in
      let before : take i rows ≡ front = ap (λ (n : ℕ). take n rows) (sym size) ∙ ap (take (length front)) whole ∙ take-append_seam front (v ∷ suffix) in
      let within : i < length rows = (let a = ap length whole in let b = length-append front (v ∷ suffix) in omega (arith, a, b, size)) in
      let wide_front = each_left (HasWidth w) front (v ∷ suffix) (subst (Each (HasWidth w)) whole wide) in
      let wide_earlier = each_map (Contains front) (HasWidth w) earlier (λ x k. Each-contains (HasWidth w) front x wide_front k) there in
      let m = members_push v earlier front (record { there = there; back = back }) in
      let next : rows ≡ (front ++ v ∷ []) ++ suffix = whole ∙ sym (append_assoc front (v ∷ []) suffix) in
      let more : length (front ++ v ∷ []) ≡ suc i = length_push front v ∙ omega (arith, size) in
      elim (held_or_not ps i) [
        | inl k ↦ (
            let is = (Each-contains (NewFrom i) ps i new.only k).1 in
            let h = head_of (NewFrom i) i ps new (omega arith, is) (λ q a. a.0) in
            let tail : IsListOf ◌<◌ (NewFrom (suc i)) h.tail = list_change (λ q. NewFrom i q × (i < q)) (NewFrom (suc i)) h.tail (λ q a. let b = a.1 in (omega (arith, b), a.0.1)) (λ q a. let b = a.0 in ((omega (arith, b), a.1), omega (arith, b))) h.lists in
            let others : IsListOf ◌<◌ (IsOld (suc i)) rs = list_change (IsOld i) (IsOld (suc i)) rs (λ q a. record { from = ⊎_elim (λ s. absurd (a.old (subst (IsNew w rows) s is))) (λ s. let b = a.from in above i q b s) (same_or_not i q); below = a.below; old = a.old }) (λ q a. record { from = (let b = a.from in omega (arith, b)); below = a.below; old = a.old }) old in
            let rest = separate suffix (front ++ v ∷ []) (v ∷ earlier) (suc i) h.tail rs next more m.there m.back tail others in
            let is_fresh : IsFreshVector w earlier v = λ s. is.independent (subst (λ (xs : List Vector). IsInSpan w xs (get_or rows i [])) (sym before) (subst (IsInSpan w front) (sym here) (span_of_members w earlier front v wide_front there s))) in
            subst (λ (xs : List ℕ). Separates (IsFreshVector w) earlier (v ∷ suffix) (vectors_at rows xs) (vectors_at rows rs)) (sym h.whole)
            (subst (λ (x : Vector). Separates (IsFreshVector w) earlier (v ∷ suffix) (x ∷ vectors_at rows h.tail) (vectors_at rows rs)) (sym here) (fresh is_fresh rest)))
        | inr n ↦ (
            let not_new : ¬ IsNew w rows i = λ is. n (new.each i (omega arith, is)) in
            let h = head_of (IsOld i) i rs old (record { from = omega arith; below = within; old = not_new }) (λ q a. a.from) in
            let tail : IsListOf ◌<◌ (IsOld (suc i)) h.tail = list_change (λ q. IsOld i q × (i < q)) (IsOld (suc i)) h.tail (λ q a. record { from = (let b = a.1 in omega (arith, b)); below = a.0.below; old = a.0.old }) (λ q a. let b = a.from in (record { from = omega (arith, b); below = a.below; old = a.old }, omega (arith, b))) h.lists in
            let firsts : IsListOf ◌<◌ (NewFrom (suc i)) ps = list_change (NewFrom i) (NewFrom (suc i)) ps (λ q a. (⊎_elim (λ s. absurd (not_new (subst (IsNew w rows) (sym s) a.1))) (λ s. let b = a.0 in above i q b s) (same_or_not i q), a.1)) (λ q a. let b = a.0 in (omega (arith, b), a.1)) new in
            let rest = separate suffix (front ++ v ∷ []) (v ∷ earlier) (suc i) ps h.tail next more m.there m.back firsts tail in
            let not_fresh : ¬ IsFreshVector w earlier v = λ f. not_new (record { within = within; independent = λ s. f (span_of_members w front earlier v wide_earlier back (subst (IsInSpan w front) here (subst (λ (xs : List Vector). IsInSpan w xs (get_or rows i [])) before s))) }) in
            subst (λ (xs : List ℕ). Separates (IsFreshVector w) earlier (v ∷ suffix) (vectors_at rows ps) (vectors_at rows xs)) (sym h.whole)
            (subst (λ (x : Vector). Separates (IsFreshVector w) earlier (v ∷ suffix) (vectors_at rows ps) (x ∷ vectors_at rows h.tail)) (sym here) (other not_fresh rest)))
      ]

  pub independent_first : (places rest : List ℕ) → AreFirstIndependent w rows places → IsListOf ◌<◌ (IsLeft places 0 (length rows)) rest → IsIndependentFirst (IsFreshVector w) rows (vectors_at rows (places ++ rest))
  independent_first places rest first left = record {
    first = vectors_at rows places;
    others = vectors_at rows rest;
    separates = separate rows [] [] 0 places rest refl refl tt tt
        (list_change (IsNew w rows) (NewFrom 0) places (λ q h. (omega arith, h)) (λ q h. h.1) first)
        (list_change (IsLeft places 0 (length rows)) (IsOld 0) rest (λ q h. record { from = h.from; below = h.below; old = λ n. h.fresh (first.each q n) }) (λ q h. record { from = h.from; below = h.below; fresh = λ k. h.old (Each-contains (IsNew w rows) places q first.only k) }) left);
    whole = map-append (λ (p : ℕ). get_or rows p []) places rest;
  }

-- ---- there are first independent rays, and they span all vectors of the width
pub placeable_pointed : (w : ℕ) (rays : List Vector) → ArePlaceable w rays → IsPointed w rays
placeable_pointed w rays a v l z =
    let t = run w rays a.widths in
    let n = HasRank-unique w (Contains rays) (length t.chosen) w (λ x k. Each-contains (HasWidth w) rays x a.widths k) (rank_of_state w rays t.chosen t.free a.widths t.state) a.full in
    let m = rank_and_left w rays t.chosen t.free t.state in
    let nothing = no_pairs t.free (omega (arith, n, m)) in
    let zero : Each (λ (p : Pair). dot p.form v ≡ pos 0) t.chosen = each_map (λ (p : Pair). Contains rays p.form) (λ (p : Pair). dot p.form v ≡ pos 0) t.chosen (λ p k. Each-contains (λ r. dot r v ≡ pos 0) rays p.form z k) t.state.from_seen in
    t.state.only_zero v l (each_append (λ (p : Pair). dot p.form v ≡ pos 0) t.chosen t.free zero (subst (Each (λ (p : Pair). dot p.form v ≡ pos 0)) (sym nothing) tt))
  where
    no_pairs : (ps : List Pair) → length ps ≡ 0 → ps ≡ []
    no_pairs [] e = refl
    no_pairs (p ∷ ps) e = absurd (let b : ⊥ = omega (arith, e) in b)

swapped_vectors : (ps : List Pair) → vectors_of (map swap ps) ≡ map (λ (p : Pair). p.form) ps
swapped_vectors [] = refl
swapped_vectors (p ∷ ps) = ap (λ t. p.form ∷ t) (swapped_vectors ps)

-- rays of full rank span all
rays_span : (w : ℕ) (rays : List Vector) → ArePlaceable w rays → (x : Vector) → HasWidth w x → IsInSpan w rays x
rays_span w rays a x l = elim (common_zero_or_dual w rays a.widths) [
  | inl c ↦ absurd (c.nonzero (subst IsZero (sym (placeable_pointed w rays a c.point c.width c.zero)) (IsZero-zero_vector w)))
  | inr d ↦ (
      let ps = map swap d.pairs in
      let dual : IsDualPair w ps = record { widths = swapped_widths w d.pairs d.dual.widths; dual = swapped_dual d.pairs d.dual.dual } in
      span_of_members w (vectors_of ps) rays x a.widths
      (subst (Each (Contains rays)) (sym (swapped_vectors d.pairs)) (each_of_map (λ (p : Pair). p.form) (Contains rays) d.pairs d.from_rows))
      (cell_span w ps x dual (swapped_only_zero w d.pairs d.dual d.only_zero) l))
]

-- a form is 0 on the vectors and not at x
record FreshAt (w : ℕ) (vs : List Vector) (x : Vector) : Type 0 where
  form : Vector
  nonzero : dot form x ≢ pos 0
  zero : Each (λ r. dot form r ≡ pos 0) vs

span_or_not : (w : ℕ) (vs : List Vector) (x : Vector) → Each (HasWidth w) vs → HasWidth w x → IsInSpan w vs x ⊎ FreshAt w vs x
span_or_not w vs x lv lx =
    let t = run w vs lv in
    elim (find_pivot x t.free) [
      | inl z ↦ inl (in_seen_span w vs t.chosen t.free x lv lx t.state z)
      | inr f ↦ (
          let k : Contains t.free f.pivot = subst (λ (ps : List Pair). Contains ps f.pivot) (sym f.split) (Contains-append_right f.before (f.pivot ∷ f.after) f.pivot (contains_here f.pivot f.after)) in
          let z = Each-contains (λ (p : Pair). Each (λ r. dot r p.vector ≡ pos 0) vs) t.free f.pivot t.state.free_vanish k in
          inr (record {
            form = f.pivot.vector;
            nonzero = λ e. f.nonzero (dot_comm x f.pivot.vector ∙ e);
            zero = each_map (λ r. dot r f.pivot.vector ≡ pos 0) (λ r. dot f.pivot.vector r ≡ pos 0) vs (λ r e. dot_comm f.pivot.vector r ∙ e) z;
          }))
    ]

-- the first independent ones of the first rays
record FirstsOf (w : ℕ) (rows : List Vector) (count : ℕ) : Type 0 where
  places : List ℕ
  lists : IsListOf ◌<◌ (λ p. IsNew w rows p × (p < count)) places
  base : List Vector
  size : length base ≡ length places
  independent : IsIndependent w base
  members : Each (Contains (vectors_at rows places)) base
  spans : Each (IsInSpan w base) (take count rows)

pushed_list : (P Q : ℕ → Type 0) (xs : List ℕ) (n : ℕ) → IsListOf ◌<◌ P xs → ((q : ℕ) → P q → Q q × (q < n)) → Q n → ((q : ℕ) → Q q → q ≢ n → P q) → IsListOf ◌<◌ Q (xs ++ n ∷ [])
pushed_list P Q xs n l f h g = record {
  in_order = pairwise_push ◌<◌ xs n l.in_order (each_map P (λ q. q < n) xs (λ q k. (f q k).1) l.only);
  only = each_append Q xs (n ∷ []) (each_map P Q xs (λ q k. (f q k).0) l.only) (h, tt);
  each = λ q k. elim (same_or_not q n) [
    | inl e ↦ subst (Contains (xs ++ n ∷ [])) (sym e) (Contains-append_right xs (n ∷ []) n (contains_here n []))
    | inr m ↦ Contains-append_left xs (n ∷ []) q (l.each q (g q k m))
  ];
}

firsts_of : (w : ℕ) (rows : List Vector) → Each (HasWidth w) rows → (count : ℕ) → count ≤ length rows → FirstsOf w rows count
firsts_of w rows wide zero l = record {
  places = [];
  lists = record { in_order = tt; only = tt; each = λ q h. let a = h.1 in absurd (let z : ⊥ = omega (arith, a) in z) };
  base = [];
  size = refl;
  independent = none_independent;
  members = tt;
  spans = tt;
}
  where
    none_independent : IsIndependent w []
    none_independent [] e z = tt
    none_independent (c ∷ cs) e z = absurd (let b : ⊥ = omega (arith, e) in b)
firsts_of w rows wide (suc n) l =
    let r = firsts_of w rows wide n (omega (arith, l)) in
    let v = get_or rows n [] in
    let within : n < length rows = omega (arith, l) in
    let lv : HasWidth w v = Each-contains (HasWidth w) rows v wide (contains_at rows n [] within) in
    let lt = each_take (HasWidth w) rows n wide in
    let lb = each_map (Contains (vectors_at rows r.places)) (HasWidth w) r.base (λ x k. Each-contains (HasWidth w) (vectors_at rows r.places) x (widths_at r.places (each_map (λ p. IsNew w rows p × (p < n)) (λ p. p < length rows) r.places (λ p h. h.0.within) r.lists.only)) k) r.members in
    let step : suc n ≡ n + 1 = omega arith in
    let longer : take (suc n) rows ≡ take n rows ++ v ∷ [] = ap (λ (k : ℕ). take k rows) step ∙ take_more rows n [] within in
    elim (span_or_not w (take n rows) v lt lv) [
      | inl i ↦ record {
        places = r.places;
        lists = list_change (λ p. IsNew w rows p × (p < n)) (λ p. IsNew w rows p × (p < suc n)) r.places (λ q h. let a = h.1 in (h.0, omega (arith, a)))
            (λ q h. (h.0, elim (same_or_not q n) [ inl e ↦ absurd (h.0.independent (subst (λ (k : ℕ). IsInSpan w (take k rows) (get_or rows k [])) (sym e) i)) | inr m ↦ (let a = h.1 in let k = above q n (omega (arith, a)) m in omega (arith, k)) ])) r.lists;
        base = r.base;
        size = r.size;
        independent = r.independent;
        members = r.members;
        spans = subst (Each (IsInSpan w r.base)) (sym longer) (each_append (IsInSpan w r.base) (take n rows) (v ∷ []) r.spans (span_within w (take n rows) r.base v lb r.spans i, tt));
      }
      | inr f ↦ (
          let is : IsNew w rows n = record { within = within; independent = λ i. f.nonzero (zero_on_span f.form w (take n rows) v lt f.zero i) } in
          let more : vectors_at rows (r.places ++ n ∷ []) ≡ vectors_at rows r.places ++ v ∷ [] = map-append (λ (p : ℕ). get_or rows p []) r.places (n ∷ []) in
          let taken : Each (Contains (take n rows)) (vectors_at rows r.places) = each_of_map (λ (p : ℕ). get_or rows p []) (Contains (take n rows)) r.places (each_map (λ p. IsNew w rows p × (p < n)) (λ p. Contains (take n rows) (get_or rows p [])) r.places (λ p h. taken_at n rows p within h.1) r.lists.only) in
          let zero : Each (λ u. dot f.form u ≡ pos 0) r.base = each_map (Contains (vectors_at rows r.places)) (λ u. dot f.form u ≡ pos 0) r.base (λ u k. Each-contains (λ x. dot f.form x ≡ pos 0) (take n rows) u f.zero (Each-contains (Contains (take n rows)) (vectors_at rows r.places) u taken k)) r.members in
          record {
            places = r.places ++ n ∷ [];
            lists = pushed_list (λ p. IsNew w rows p × (p < n)) (λ p. IsNew w rows p × (p < suc n)) r.places n r.lists (λ q h. let a = h.1 in ((h.0, omega (arith, a)), a)) (is, omega arith) (λ q h m. (h.0, let a = h.1 in let k = above q n (omega (arith, a)) m in omega (arith, k)));
            base = v ∷ r.base;
            size = ap suc r.size ∙ sym (length_push r.places n ∙ omega arith);
            independent = independent_more w f.form v r.base lv lb f.nonzero zero r.independent;
            members = subst (λ (vs : List Vector). Each (Contains vs) (v ∷ r.base)) (sym more)
                (Contains-append_right (vectors_at rows r.places) (v ∷ []) v (contains_here v []), each_map (Contains (vectors_at rows r.places)) (Contains (vectors_at rows r.places ++ v ∷ [])) r.base (λ x k. Contains-append_left (vectors_at rows r.places) (v ∷ []) x k) r.members);
            spans = subst (Each (IsInSpan w (v ∷ r.base))) (sym longer) (each_append (IsInSpan w (v ∷ r.base)) (take n rows) (v ∷ [])
                (each_map (IsInSpan w r.base) (IsInSpan w (v ∷ r.base)) (take n rows) (λ x i. span_of_members w r.base (v ∷ r.base) x (lv, lb) (each_map (Contains r.base) (Contains (v ∷ r.base)) r.base (λ y k. contains_there v y r.base k) (own_members r.base)) i) r.spans)
                (span_member w (v ∷ r.base) v (lv, lb) (contains_here v r.base), tt));
          })
    ]
  where
    widths_at : (ps : List ℕ) → Each (λ p. p < length rows) ps → Each (HasWidth w) (vectors_at rows ps)
    widths_at [] h = tt
    widths_at (p ∷ ps) h = (Each-contains (HasWidth w) rows (get_or rows p []) wide (contains_at rows p [] h.0), widths_at ps h.1)

    taken_at : (n : ℕ) (rows : List Vector) (p : ℕ) → n < length rows → p < n → Contains (take n rows) (get_or rows p [])
    taken_at n rows p l m = subst (Contains (take n rows)) (get_or-take n rows p [] m) (contains_at (take n rows) p [] (let e = length-take-le n rows (omega (arith, l)) in omega (arith, e, m)))

-- the first independent rays, which are as many as their entries
pub record Firsts (w : ℕ) (rays : List Vector) : Type 0 where
  pub places : List ℕ
  pub first : AreFirstIndependent w rays places
  pub size : length places ≡ w
  pub span : (x : Vector) → HasWidth w x → IsInSpan w (vectors_at rays places) x
  pub pointed : IsPointed w (vectors_at rays places)

pub firsts : (w : ℕ) (rays : List Vector) → ArePlaceable w rays → Firsts w rays
firsts w rays a =
    let r = firsts_of w rays a.widths (length rays) (omega arith) in
    let vs = vectors_at rays r.places in
    let first : AreFirstIndependent w rays r.places = list_change (λ p. IsNew w rays p × (p < length rays)) (IsNew w rays) r.places (λ q h. h.0) (λ q h. (h, h.within)) r.lists in
    let within : Each (Contains rays) vs = each_of_map (λ (p : ℕ). get_or rays p []) (Contains rays) r.places (each_map (IsNew w rays) (λ p. Contains rays (get_or rays p [])) r.places (λ p h. contains_at rays p [] h.within) first.only) in
    let lv = each_map (Contains rays) (HasWidth w) vs (λ x k. Each-contains (HasWidth w) rays x a.widths k) within in
    let lb = each_map (Contains vs) (HasWidth w) r.base (λ x k. Each-contains (HasWidth w) vs x lv k) r.members in
    let spans : Each (IsInSpan w r.base) rays = subst (Each (IsInSpan w r.base)) (take_all (length rays) rays (omega arith)) r.spans in
    let rank : HasRank w (Contains rays) (length r.base) = record { base = r.base; size = refl; members = each_map (Contains vs) (Contains rays) r.base (λ x k. Each-contains (Contains rays) vs x within k) r.members; independent = r.independent; all = λ x k. Each-contains (IsInSpan w r.base) rays x spans k } in
    let n = HasRank-unique w (Contains rays) (length r.base) w (λ x k. Each-contains (HasWidth w) rays x a.widths k) rank a.full in
    let whole : (x : Vector) → IsInSpan w r.base x → IsInSpan w vs x = λ x i. span_of_members w r.base vs x lv r.members i in
    record {
      places = r.places;
      first = first;
      size = sym r.size ∙ n;
      span = λ x l. span_within w rays vs x lv (each_map (IsInSpan w r.base) (IsInSpan w vs) rays whole spans) (rays_span w rays a x l);
      pointed = λ x l z. placeable_pointed w rays a x l (each_map (IsInSpan w r.base) (λ g. dot g x ≡ pos 0) rays (λ g i. dot_comm g x ∙ zero_on_span x w vs g lv (each_map (λ g. dot g x ≡ pos 0) (λ g. dot x g ≡ pos 0) vs (λ g e. dot_comm x g ∙ e) z) (whole g i)) spans);
    }
