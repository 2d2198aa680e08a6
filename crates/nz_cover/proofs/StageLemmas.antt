-- The stages of placing: they are there, and what is held at each is its number and its count.
use Rattle.std.proofs.Common.{◌≡◌, ◌≢◌, ◌⊎◌, inl, inr, ⊎_elim, ℕ, zero, suc, ◌+◌, ◌-◌, ◌<◌, ◌≤◌, List, [], ◌∷◌, ◌++◌, length, take, get_or, pos, refl, sym, ap, ap₂, ◌∙◌, subst, append_assoc, length-append, Bool, true, false, arith}
use Rattle.std.proofs.Math.Seq.{take-append_seam}
use Rattle.std.proofs.lemmas.List.{map-append, length_push, length-map}
use Rattle.std.proofs.lemmas.List.Elements.{Contains-append_left}
use Rattle.std.proofs.lemmas.List.FromFn.{length-range_with_len, get_or-range_with_len}
use Rattle.std.specs.List.{AllByRecursion as Each, AllZip, Contains, range_with_len}
use Rattle.nz_spec.specs.Vectors.{Vector, dot, HasWidth}
use Rattle.nz_spec.specs.Order.{Pairwise, HasNumber}
use Rattle.nz_spec.specs.Forms.{IsSupportForm}
use Rattle.nz_spec.specs.Covers.{vectors_at}
use Rattle.nz_spec.specs.Stages.{IsFreshVector, IsIndependentFirst, CountsStages, ArePlacings}
use Rattle.nz_spec.proofs.ListLaws.{IsListOf-unique, contains_here, contains_there, contains_cases, contains_none, Each-contains, Each-from_contains}
use Rattle.nz_spec.proofs.UniqueLaws.{same_or_not}
use Rattle.nz_spec.proofs.StageUnique.{HasNumber-unique}
use Rattle.nz_linear.specs.Extreme.{IsPointed}
use Rattle.nz_linear.proofs.FacetRows as facet_rows
use Rattle.nz_linear.proofs.Lists.{each_map, each_append}
use Rattle.nz_linear.proofs.RayExistence.{extreme_rays_exist}
use Rattle.nz_linear.proofs.Spans.{span_of_members}
use Rattle.nz_pointed.specs.Pointed.{IsNew, AreFirstIndependent}
use Rattle.nz_pointed.proofs.ListLemmas.{each_take}
use Rattle.nz_rays.specs.Descriptions.{RowsAndRays, IsDescription}
use Rattle.nz_watch.specs.Watching.{Pair}
use Rattle.nz_cover.specs.Corners.{Vertex}
use Rattle.nz_cover.specs.Placed.{ArePlacedUpTo}
use Rattle.nz_cover.specs.Passing.{PlacesOnce, IsLeft, IsUnderWay}
use Rattle.nz_cover.specs.Placing.{ArePlaceable}
use Rattle.nz_cover.proofs.FacetLaws.{SpanAll, no_columns, placed_widths, facet_number}
use Rattle.nz_cover.proofs.OrderLemmas.{Firsts, firsts, list_change, head_of, none_of, left_from, independent_first, above}

-- ---- a list with each of its vectors once
record Once (list : List Vector) : Type 0 where
  once : List Vector
  differ : Pairwise ◌≢◌ once
  there : Each (Contains list) once
  back : Each (Contains once) list

has_or_not : (w : ℕ) (list : List Vector) (x : Vector) → Each (HasWidth w) list → HasWidth w x → Contains list x ⊎ ¬ Contains list x
has_or_not w [] x l k = inr (contains_none x)
has_or_not w (y ∷ list) x l k = elim (same_or_not y x (l.0 ∙ sym k)) [
  | inl e ↦ inl (subst (Contains (y ∷ list)) e (contains_here y list))
  | inr n ↦ elim (has_or_not w list x l.1 k) [
    | inl h ↦ inl (contains_there y x list h)
    | inr m ↦ inr (λ h. ⊎_elim n m (contains_cases y list x h))
  ]
]

once_of : (w : ℕ) (list : List Vector) → Each (HasWidth w) list → Once list
once_of w [] l = record { once = []; differ = tt; there = tt; back = tt }
once_of w (x ∷ list) l =
    let r = once_of w list l.1 in
    let wide = each_map (Contains list) (HasWidth w) r.once (λ y k. Each-contains (HasWidth w) list y l.1 k) r.there in
    elim (has_or_not w r.once x wide l.0) [
      | inl k ↦ record { once = r.once; differ = r.differ; there = each_map (Contains list) (Contains (x ∷ list)) r.once (λ y h. contains_there x y list h) r.there; back = (k, r.back) }
      | inr n ↦ record {
        once = x ∷ r.once;
        differ = (Each-from_contains (λ y. x ≢ y) r.once (λ y h e. n (subst (Contains r.once) (sym e) h)), r.differ);
        there = (contains_here x list, each_map (Contains list) (Contains (x ∷ list)) r.once (λ y h. contains_there x y list h) r.there);
        back = (contains_here x r.once, each_map (Contains r.once) (Contains (x ∷ r.once)) list (λ y h. contains_there x y r.once h) r.back);
      }
    ]

-- ---- support forms have a number
record SomeNumber (P : Vector → Type 0) : Type 0 where
  count : ℕ
  number : HasNumber P count

support_number : (w : ℕ) (vs : List Vector) → Each (HasWidth w) vs → SpanAll w vs → IsPointed w vs → SomeNumber (IsSupportForm w vs)
support_number w vs lv span pointed =
    let e = extreme_rays_exist w vs lv pointed in
    let only = facet_rows.rays_are_support w vs [] (no_columns w vs span) e.rays lv e.are in
    let r = once_of w e.rays (each_map (IsSupportForm w vs) (HasWidth w) e.rays (λ f s. s.width) only) in
    record {
      count = length r.once;
      number = record {
        list = r.once;
        lists = record {
          in_order = r.differ;
          only = each_map (Contains e.rays) (IsSupportForm w vs) r.once (λ f k. Each-contains (IsSupportForm w vs) e.rays f only k) r.there;
          each = λ f s. Each-contains (Contains r.once) e.rays f r.back (facet_rows.support_listed w vs [] (no_columns w vs span) e.rays f lv e.are s);
        };
        size = refl;
      };
    }

-- ---- first vectors that have all of these
firsts_taken : (vs more : List Vector) (k : ℕ) → length vs ≤ k → Each (Contains (take k (vs ++ more))) vs
firsts_taken [] more k l = tt
firsts_taken (v ∷ vs) more zero l = absurd (let z : ⊥ = omega (arith, l) in z)
firsts_taken (v ∷ vs) more (suc k) l = (contains_here v (take k (vs ++ more)), each_map (Contains (take k (vs ++ more))) (Contains (v ∷ take k (vs ++ more))) vs (λ x h. contains_there v x (take k (vs ++ more)) h) (firsts_taken vs more k (omega (arith, l))))

first_number : (w : ℕ) (vs more : List Vector) (k : ℕ) → Each (HasWidth w) (vs ++ more) → SpanAll w vs → IsPointed w vs → length vs ≤ k → SomeNumber (IsSupportForm w (take k (vs ++ more)))
first_number w vs more k wide span pointed l =
    let f = firsts_taken vs more k l in
    let lt = each_take (HasWidth w) (vs ++ more) k wide in
    support_number w (take k (vs ++ more)) lt
    (λ x lx. span_of_members w vs (take k (vs ++ more)) x lt f (span x lx))
    (λ x lx z. pointed x lx (each_map (Contains (take k (vs ++ more))) (λ a. dot a x ≡ pos 0) vs (λ a h. Each-contains (λ a. dot a x ≡ pos 0) (take k (vs ++ more)) a z h) f))

record SomeCounts (R : ℕ → Pair → Type 0) (ks : List ℕ) : Type 0 where
  pairs : List Pair
  counts : AllZip R ks pairs

some_counts : (P : ℕ → Vector → Type 0) (low : ℕ) → ((k : ℕ) → low ≤ k → SomeNumber (P k)) → (a n : ℕ) → low ≤ a → SomeCounts (λ k pair. (pair.0 ≡ k) × HasNumber (P k) pair.1) (range_with_len a n)
some_counts P low first a zero l = record { pairs = []; counts = tt }
some_counts P low first a (suc n) l = let m = first a l in let r = some_counts P low first (a + 1) n (omega (arith, l)) in record { pairs = (a, m.count) ∷ r.pairs; counts = ((refl, m.number), r.counts) }

-- ---- a pair of the stages by its place
zip_at : {A B : Type 0} (R : A → B → Type 0) (xs : List A) (ys : List B) (i : ℕ) (d : A) (e : B) → AllZip R xs ys → i < length xs → R (get_or xs i d) (get_or ys i e)
zip_at R [] ys i d e z l = absurd (let b : ⊥ = omega (arith, l) in b)
zip_at R (x ∷ xs) [] i d e z l = absurd z
zip_at R (x ∷ xs) (y ∷ ys) zero d e z l = z.0
zip_at R (x ∷ xs) (y ∷ ys) (suc i) d e z l = zip_at R xs ys i d e z.1 (omega (arith, l))

zip_size : {A B : Type 0} (R : A → B → Type 0) (xs : List A) (ys : List B) → AllZip R xs ys → length xs ≡ length ys
zip_size R [] [] z = refl
zip_size R [] (y ∷ ys) z = absurd z
zip_size R (x ∷ xs) [] z = absurd z
zip_size R (x ∷ xs) (y ∷ ys) z = ap suc (zip_size R xs ys z.1)

stage_count : (w : ℕ) (list : List Vector) (stages : List Pair) → CountsStages (IsSupportForm w) w list stages → length stages ≡ length list + 1 - w
stage_count w list stages c = sym (zip_size _ (range_with_len w (length list + 1 - w)) stages c) ∙ length-range_with_len w (length list + 1 - w)

stage_at : (w : ℕ) (list : List Vector) (stages : List Pair) (j k n : ℕ) → CountsStages (IsSupportForm w) w list stages → w + j ≡ k → k ≤ length list → HasNumber (IsSupportForm w (take k list)) n → get_or stages j (0, 0) ≡ (k, n)
stage_at w list stages j k n c e l h =
    let m = length list + 1 - w in
    let within : j < m = omega (arith, e, l) in
    let size = length-range_with_len w m in
    let z = zip_at (λ i (pair : Pair). (pair.0 ≡ i) × HasNumber (IsSupportForm w (take i list)) pair.1) (range_with_len w m) stages j 0 (0, 0) c (omega (arith, size, within)) in
    let at : get_or (range_with_len w m) j 0 ≡ k = get_or-range_with_len w m j 0 within ∙ e in
    let number : HasNumber (IsSupportForm w (take k list)) (get_or stages j (0, 0)).1 = subst (λ (i : ℕ). HasNumber (IsSupportForm w (take i list)) (get_or stages j (0, 0)).1) at z.1 in
    ap₂ (λ (a b : ℕ). (a, b)) (z.0 ∙ at) (HasNumber-unique (IsSupportForm w (take k list)) (get_or stages j (0, 0)).1 n number h)

-- ---- placing under way
placings : (w : ℕ) (rays ordered : List Vector) (stages : List Pair) → ArePlaceable w rays → rays ≢ [] → IsIndependentFirst (IsFreshVector w) rays ordered → CountsStages (IsSupportForm w) w ordered stages → ArePlacings w rays stages
placings w [] ordered stages able some o c = absurd (some refl)
placings w (v ∷ vs) ordered stages able some o c = record { ordered = ordered; rank = w; in_order = o; has_rank = able.full; counts = c }

size_at : (rays : List Vector) (places : List ℕ) → length (vectors_at rays places) ≡ length places
size_at rays places = length-map places (λ (p : ℕ). get_or rays p [])

split_at : (rays : List Vector) (placed rest : List ℕ) → vectors_at rays (placed ++ rest) ≡ vectors_at rays placed ++ vectors_at rays rest
split_at rays placed rest = map-append (λ (p : ℕ). get_or rays p []) placed rest

-- placing has come to a place, with some list of stages
pub record SomeWay (w : ℕ) (rays : List Vector) (place : ℕ) (placed : List ℕ) : Type 0 where
  pub stages : List Pair
  pub way : IsUnderWay w rays place placed stages

-- at its start the first independent rays are placed
pub way_start : (w : ℕ) (rays : List Vector) (placed : List ℕ) → ArePlaceable w rays → rays ≢ [] → AreFirstIndependent w rays placed → SomeWay w rays 0 placed
way_start w rays placed able some first =
    let f = firsts w rays able in
    let same : f.places ≡ placed = IsListOf-unique ◌<◌ (λ m n l k. let z : ⊥ = omega (arith, l, k) in z) (IsNew w rays) f.places placed f.first first in
    subst (SomeWay w rays 0) same (from f)
  where
    from : (f : Firsts w rays) → SomeWay w rays 0 f.places
    from f =
        let vs = vectors_at rays f.places in
        let left = left_from f.places (length rays) (length rays) 0 (omega arith) in
        let more = vectors_at rays left.rest in
        let within : Each (λ p. p < length rays) f.places = each_map (IsNew w rays) (λ p. p < length rays) f.places (λ p h. h.within) f.first.only in
        let listed : Each (λ p. p < length rays) left.rest = each_map (IsLeft f.places 0 (length rays)) (λ p. p < length rays) left.rest (λ p k. k.below) left.lists.only in
        let wide : Each (HasWidth w) (vs ++ more) = each_append (HasWidth w) vs more (placed_widths w rays f.places able.widths within) (placed_widths w rays left.rest able.widths listed) in
        let size = f.size in
        let long = size_at rays f.places in
        let c = some_counts (λ k. IsSupportForm w (take k (vs ++ more))) w (λ k l. first_number w vs more k wide f.span f.pointed (omega (arith, size, long, l))) w (length (vs ++ more) + 1 - w) (omega arith) in
        let counts : CountsStages (IsSupportForm w) w (vectors_at rays (f.places ++ left.rest)) c.pairs = subst (λ (xs : List Vector). CountsStages (IsSupportForm w) w xs c.pairs) (sym (split_at rays f.places left.rest)) c.counts in
        record {
          stages = c.pairs;
          way = record {
            rest = left.rest;
            left = left.lists;
            enough = omega (arith, size);
            counts = counts;
            are_stages = placings w rays (vectors_at rays (f.places ++ left.rest)) c.pairs able some (independent_first w rays able.widths f.places left.rest f.first left.lists) counts;
          };
        }

-- the next place: it is placed now, or was before
pub way_next : (w : ℕ) (rays : List Vector) (place : ℕ) (placed after : List ℕ) (is_new : Bool) (stages : List Pair) → place < length rays → PlacesOnce placed place after is_new → IsUnderWay w rays place placed stages → IsUnderWay w rays (place + 1) after stages
way_next w rays place placed after false stages l p u = subst (λ (ps : List ℕ). IsUnderWay w rays (place + 1) ps stages) (sym p.1) (record {
  rest = u.rest;
  left = list_change (IsLeft placed place (length rays)) (IsLeft placed (place + 1) (length rays)) u.rest
      (λ q h. record { from = (let k = above place q h.from (λ e. h.fresh (subst (Contains placed) e p.0)) in omega (arith, k)); below = h.below; fresh = h.fresh })
      (λ q h. record { from = (let k = h.from in omega (arith, k)); below = h.below; fresh = h.fresh }) u.left;
  enough = u.enough;
  counts = u.counts;
  are_stages = u.are_stages;
})
way_next w rays place placed after true stages l p u =
    let h = head_of (IsLeft placed place (length rays)) place u.rest u.left (record { from = omega arith; below = l; fresh = p.0 }) (λ q k. k.from) in
    let order : placed ++ u.rest ≡ (placed ++ place ∷ []) ++ h.tail = ap (λ (t : List ℕ). placed ++ t) h.whole ∙ sym (append_assoc placed (place ∷ []) h.tail) in
    let longer = length_push placed place in
    let e = u.enough in
    subst (λ (ps : List ℕ). IsUnderWay w rays (place + 1) ps stages) (sym p.1) (record {
      rest = h.tail;
      left = list_change (λ q. IsLeft placed place (length rays) q × (place < q)) (IsLeft (placed ++ place ∷ []) (place + 1) (length rays)) h.tail
          (λ q k. record { from = (let b = k.1 in omega (arith, b)); below = k.0.below; fresh = λ c. not_pushed placed place q k.0.fresh (let b = k.1 in λ f. let z : ⊥ = omega (arith, b, f) in z) c })
          (λ q k. (record { from = (let b = k.from in omega (arith, b)); below = k.below; fresh = λ c. k.fresh (Contains-append_left placed (place ∷ []) q c) }, (let b = k.from in omega (arith, b)))) h.lists;
      enough = omega (arith, longer, e);
      counts = subst (λ (ps : List ℕ). CountsStages (IsSupportForm w) w (vectors_at rays ps) stages) order u.counts;
      are_stages = u.are_stages;
    })
  where
    not_pushed : (xs : List ℕ) (x q : ℕ) → (¬ Contains xs q) → x ≢ q → ¬ Contains (xs ++ x ∷ []) q
    not_pushed [] x q n m c = ⊎_elim m (λ k. contains_none q k) (contains_cases x [] q c)
    not_pushed (y ∷ xs) x q n m c = ⊎_elim (λ e. n (subst (Contains (y ∷ xs)) e (contains_here y xs))) (λ k. not_pushed xs x q (λ i. n (contains_there y q xs i)) m k) (contains_cases y (xs ++ x ∷ []) q c)

-- the stage at hand
pub way_stage : (w : ℕ) (rays : List Vector) (place j : ℕ) (placed : List ℕ) (cells : List (List Vertex)) (d : RowsAndRays) (stages : List Pair) → Each (HasWidth w) rays → ArePlacedUpTo w rays place placed cells d → IsDescription d → IsUnderWay w rays place placed stages → w + j ≡ length placed → (j < length stages) × (get_or stages j (0, 0) ≡ (length placed, length d.rays))
way_stage w rays place j placed cells d stages wide a i u e =
    let list = vectors_at rays (placed ++ u.rest) in
    let whole = split_at rays placed u.rest in
    let all = size_at rays (placed ++ u.rest) ∙ length-append placed u.rest in
    let n : HasNumber (IsSupportForm w (take (length placed) list)) (length d.rays) = subst (λ (vs : List Vector). HasNumber (IsSupportForm w vs) (length d.rays)) (sym (ap (take (length placed)) whole ∙ ap (λ (k : ℕ). take k (vectors_at rays placed ++ vectors_at rays u.rest)) (sym (size_at rays placed)) ∙ take-append_seam (vectors_at rays placed) (vectors_at rays u.rest)))
    (facet_number w rays placed cells d wide a.within a.state i) in
    let size = stage_count w list stages u.counts in
    (omega (arith, size, all, e), stage_at w list stages j (length placed) (length d.rays) u.counts e (omega (arith, all)) n)

-- after the last place the last stage is the last
pub way_done : (w : ℕ) (rays : List Vector) (place j : ℕ) (placed : List ℕ) (stages : List Pair) → length rays ≤ place → IsUnderWay w rays place placed stages → w + j ≡ length placed → length stages ≡ j + 1
way_done w rays place j placed stages l u e =
    let none = none_of (IsLeft placed place (length rays)) u.rest u.left (λ q h. let a = h.from in let b = h.below in let z : ⊥ = omega (arith, l, a, b) in z) in
    let all = size_at rays (placed ++ u.rest) ∙ length-append placed u.rest in
    let nothing : length u.rest ≡ 0 = ap length none in
    let size = stage_count w (vectors_at rays (placed ++ u.rest)) stages u.counts in
    omega (arith, size, all, nothing, e)
