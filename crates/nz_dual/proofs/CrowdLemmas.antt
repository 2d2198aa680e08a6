-- Where no stage has to hold more than the limit: what is held is all that the limit speaks of.
use Rattle.std.proofs.Common.{◌≡◌, ◌≢◌, inl, inr, ⊎_elim, ℕ, ◌+◌, ◌<◌, ◌≤◌, List, [], ◌∷◌, ◌++◌, length, take, get_or, ℤ, pos, ◌≤ℤ◌, ◌<ℤ◌, Contains, refl, sym, ap, ◌∙◌, subst, arith}
use Rattle.std.specs.Prelude.{◌⊎◌}
use Rattle.std.proofs.lemmas.Int.{ints}
use Rattle.std.proofs.lemmas.List.{length-append}
use Rattle.std.proofs.lemmas.List.Elements.{Contains-append_left, Contains-append_right}
use Rattle.std.specs.List.{AllByRecursion as Each}
use Rattle.nz_spec.specs.Vectors.{Vector, dot, HasWidth}
use Rattle.nz_spec.specs.Boxes.{IsBoxMember}
use Rattle.nz_spec.specs.Order.{Pairwise, IsLexBefore, IsListOf, ListsOnce, MoreThan}
use Rattle.nz_spec.specs.Stages.{IsInStage, IsFreshRow, Separates, none, fresh, other}
use Rattle.nz_spec.specs.Sums.{IsInBox}
use Rattle.nz_spec.proofs.ListLaws.{Each-from_contains, MoreThan-HasNumber, different_within}
use Rattle.nz_linear.specs.DualPairs.{Pair, divisor}
use Rattle.nz_linear.proofs.Elimination.{all_of_width, complete_of}
use Rattle.nz_linear.proofs.Floors.{reduced_in_box}
use Rattle.nz_linear.proofs.Lists.{each_map, each_of_map}
use Rattle.nz_further.specs.Certificates.{IsReducedAt}
use Rattle.nz_further.proofs.StartCrowds.{box_member_reduced, independent_different}
use Rattle.nz_order.proofs.OrderLaws.{lex_irreflexive}
use Rattle.nz_order.proofs.SortLaws.{IsListOf-once, MoreThan-list, Pairwise-append}
use Rattle.nz_classes.specs.Classes.{IsPoint}
use Rattle.nz_classes.specs.Walks.{paired, IsFullSimplex}
use Rattle.nz_reducer.specs.Reducers.{IsUnreduced}
use Rattle.nz_vec.specs.declared.answers.Work.{Work}
use Rattle.nz_vec.specs.declared.answers.Work.TheVariants.{TooMany}
use Rattle.nz_dual.specs.DualStages.{IsElement, IsReversedElement}
use Rattle.nz_dual.specs.FirstStage.{IsStartCandidate, IsStartRefusal, IsStartWithin, AreCandidates}
use Rattle.nz_dual.specs.Refusals.{IsRowOf, IsStageOf}
use Rattle.nz_dual.specs.Runs.{AreNotCrowded, NoneIsCrowded}
use Rattle.nz_dual.proofs.FirstStageLemmas.{vectors_of_pairs, rays_wide, rays_free, point_boxed, candidate_named}

-- a set that is listed within the limit has no more than the limit
pub not_more : (limit : ℕ) (P : Vector → Type 0) (list : List Vector) → ListsOnce P list → length list ≤ limit → ¬ MoreThan limit P
not_more limit P list h l m = let k = MoreThan-HasNumber limit (length list) P m (record { list = list; lists = h; size = refl }) in omega (arith, k, l)

-- ---- the first stage
module _ (rows rays : List Vector) (s : IsFullSimplex rays rows) where
  reduced : (x : Vector) → IsBoxMember (length rays) (IsInStage (HasWidth (length rays)) rows) rays x → IsReducedAt (paired rows rays) x
  reduced x b = box_member_reduced (length rays) (paired rows rays) s.dual (IsInStage (HasWidth (length rays)) rows) x
      (subst (λ (vs : List Vector). IsBoxMember (length rays) (IsInStage (HasWidth (length rays)) rows) vs x) (sym (vectors_of_pairs rows rays s)) b)

  -- a vector of a box of some rays is one of the box of all
  point_of : (x : Vector) → IsBoxMember (length rays) (IsInStage (HasWidth (length rays)) rows) rays x → IsPoint (length rays) rays x
  point_of x b =
      let w = length rays in
      let ps = paired rows rays in (
        b.member.in_lattice,
        subst (λ (vs : List Vector). IsInBox w vs x) (vectors_of_pairs rows rays s) (reduced_in_box w (HasWidth w) ps x (all_of_width w) s.dual (complete_of w ps s.dual.widths s.only_zero) b.member.in_lattice (reduced x b)),
      )

  -- no point is a ray
  not_a_ray : (x : Vector) → IsPoint (length rays) rays x → Each (λ v. x ≢ v) rays
  not_a_ray x p =
      let ps = paired rows rays in
      subst (Each (λ v. x ≢ v)) (vectors_of_pairs rows rays s) (each_of_map (λ (q : Pair). q.vector) (λ v. x ≢ v) ps
      (each_map (λ (q : Pair). (pos 0 ≤ℤ dot q.form x) × (dot q.form x <ℤ divisor q)) (λ (q : Pair). x ≢ q.vector) ps (λ q r e. let l = r.1 in let h = ap (dot q.form) e in let b : ⊥ = omega (arith, ints, l, h) in b) (reduced x (point_boxed rows rays s x p))))

  module _ (candidates : List Vector) (a : AreCandidates rays candidates) where
    has_candidate : (x : Vector) → IsStartCandidate (length rays) rows rays x → Contains candidates x
    has_candidate x (inl c) = subst (λ (vs : List Vector). Contains vs x) (sym a.whole) (Contains-append_right a.points rays x c)
    has_candidate x (inr b) = subst (λ (vs : List Vector). Contains vs x) (sym a.whole) (Contains-append_left a.points rays x (a.lists.each x (point_of x b)))

    candidates_once : Pairwise ◌≢◌ candidates
    candidates_once = subst (Pairwise ◌≢◌) (sym a.whole) (Pairwise-append ◌≢◌ a.points rays
        (IsListOf-once IsLexBefore lex_irreflexive (IsPoint (length rays) rays) a.points a.lists).in_order
        (independent_different (length rays) rays (rays_wide rows rays s) (rays_free rows rays s))
        (each_map (IsPoint (length rays) rays) (λ x. Each (λ v. x ≢ v) rays) a.points not_a_ray a.lists.only))

    pub start_within : (limit : ℕ) → length candidates ≤ limit → IsStartWithin limit (length rays) rows rays
    start_within limit l m =
        let k = different_within m.witnesses candidates m.different (each_map (IsStartCandidate (length rays) rows rays) (Contains candidates) m.witnesses has_candidate m.only) in
        let n = m.more in
        omega (arith, k, l, n)

    pub start_crowded : (h : ℤ) (limit : ℕ) (work : Work) → (work ≡ TooMany) × (limit < length candidates) → IsStartRefusal h limit (length rays) rows rays work
    start_crowded h limit work w = subst (IsStartRefusal h limit (length rays) rows rays) (sym w.0)
        (MoreThan-list (IsStartCandidate (length rays) rows rays) candidates limit candidates_once (Each-from_contains (IsStartCandidate (length rays) rows rays) candidates (candidate_named rows rays s candidates a)) w.1)

    -- the list of the stage is not longer than that of the candidates
    pub list_within : (limit : ℕ) (list : List Vector) → IsListOf IsLexBefore (IsUnreduced rows candidates) list → length candidates ≤ limit → length list ≤ limit
    list_within limit list h l =
        let once = IsListOf-once IsLexBefore lex_irreflexive (IsUnreduced rows candidates) list h in
        let k = different_within list candidates once.in_order (each_map (IsUnreduced rows candidates) (Contains candidates) list (λ v u. u.candidate) h.only) in
        omega (arith, k, l)

-- ---- the rows after it
record IsCutAt (rows earlier : List Vector) (row : Vector) : Type 0 where
  before : take (length earlier) rows ≡ earlier
  own : get_or rows (length earlier) [] ≡ row

cut_at : (rows earlier : List Vector) (row : Vector) (later : List Vector) → rows ≡ earlier ++ row ∷ later → IsCutAt rows earlier row
cut_at rows earlier row later e = subst (λ (rs : List Vector). IsCutAt rs earlier row) (sym e) (record { before = front earlier; own = own_of earlier })
  where
    front : (vs : List Vector) → take (length vs) (vs ++ row ∷ later) ≡ vs
    front [] = refl
    front (v ∷ vs) = ap (λ us. v ∷ us) (front vs)

    own_of : (vs : List Vector) → get_or (vs ++ row ∷ later) (length vs) [] ≡ row
    own_of [] = refl
    own_of (v ∷ vs) = own_of vs

module _ (bound : ℤ) (limit w : ℕ) (chosen rays others : List Vector) where
  -- none of no stages
  pub none_before : AreNotCrowded (IsRowOf bound limit w chosen rays others) 0
  none_before p l c = omega (arith, l)

  -- after the first stage
  pub first_passed : IsStartWithin limit w chosen rays → AreNotCrowded (IsRowOf bound limit w chosen rays others) 1
  first_passed f p l (inl c) = f c.1
  first_passed f p l (inr c) = let n = c.number in omega (arith, l, n)

  -- after the insertion of a row
  pub next_passed : (place : ℕ) (held : List Vector) (row : Vector) (list reversed : List Vector) → place < length others → held ≡ chosen ++ take place others → row ≡ get_or others place []
      → ListsOnce (IsElement w (held ++ row ∷ [])) list → ListsOnce (IsReversedElement w held row) reversed → (length list ≤ limit) × (length reversed ≤ limit)
      → AreNotCrowded (IsRowOf bound limit w chosen rays others) (place + 1) → AreNotCrowded (IsRowOf bound limit w chosen rays others) (place + 1 + 1)
  next_passed place held row list reversed l h r up down within old p m c = by c
    where
      P : List Vector → Vector → Type 0
      P earlier last = MoreThan limit (IsElement w (earlier ++ last ∷ [])) ⊎ MoreThan limit (IsReversedElement w earlier last)

      few : ¬ P held row
      few (inl k) = not_more limit (IsElement w (held ++ row ∷ [])) list up within.0 k
      few (inr k) = not_more limit (IsReversedElement w held row) reversed down within.1 k

      by : ¬ IsRowOf bound limit w chosen rays others p TooMany
      by (inl k) = old p (let z = k.0 in omega (arith, z)) (inl k)
      by (inr k) = ⊎_elim
          (λ (b : p < place + 1). old p b (inr k))
          (λ (e : length k.earlier ≡ place).
          let cut = cut_at others k.earlier k.row k.later k.whole in
          let before : chosen ++ k.earlier ≡ held = ap (λ us. chosen ++ us) (sym cut.before ∙ ap (λ (n : ℕ). take n others) e) ∙ sym h in
          let own : k.row ≡ row = sym cut.own ∙ ap (λ (n : ℕ). get_or others n []) e ∙ sym r in
          few (subst (λ (v : Vector). P held v) own (subst (λ (es : List Vector). P es k.row) before k.refused)))
          (below_or p (length k.earlier) k.number m)
        where
          below_or : (p n : ℕ) → p ≡ n + 1 → p < place + 1 + 1 → (p < place + 1) ⊎ (n ≡ place)
          below_or p n e m = grind arith

  -- after all
  pub all_passed : AreNotCrowded (IsRowOf bound limit w chosen rays others) (length others + 1) → NoneIsCrowded (IsRowOf bound limit w chosen rays others)
  all_passed h p c = h p (inside c) c
    where
      inside : IsRowOf bound limit w chosen rays others p TooMany → p < length others + 1
      inside (inl k) = let z = k.0 in omega (arith, z)
      inside (inr k) = let n = k.number in let e = ap length k.whole ∙ length-append k.earlier (k.row ∷ k.later) in omega (arith, n, e)

-- ---- the rows set apart
-- they can be set apart in one way alone
pub separated_once : {Fresh : List Vector → Vector → Type 0} {earlier vs a b : List Vector} → Separates Fresh earlier vs a b → (c d : List Vector) → Separates Fresh earlier vs c d → (a ≡ c) × (b ≡ d)
separated_once none c d none = (refl, refl)
separated_once (fresh {v = v} f s) c d (fresh g t) = let r = separated_once s _ _ t in (ap (λ xs. v ∷ xs) r.0, r.1)
separated_once (fresh f s) c d (other n t) = absurd (n f)
separated_once (other n s) c d (fresh g t) = absurd (n g)
separated_once (other {v = v} n s) c d (other m t) = let r = separated_once s _ _ t in (r.0, ap (λ xs. v ∷ xs) r.1)

module _ (bound : ℤ) (limit w : ℕ) (rows chosen rays others : List Vector) (t : Separates (IsFreshRow (HasWidth w)) [] rows chosen others) where
  row_of_stage : (p : ℕ) (e : Work) → IsStageOf bound limit w rows chosen rays p e → IsRowOf bound limit w chosen rays others p e
  row_of_stage p e h = subst (λ (os : List Vector). IsRowOf bound limit w chosen rays os p e) (sym (separated_once t chosen h.0 h.1.0).1) h.1.1

  pub stages_not_crowded : (passed : ℕ) → AreNotCrowded (IsRowOf bound limit w chosen rays others) passed → AreNotCrowded (IsStageOf bound limit w rows chosen rays) passed
  stages_not_crowded passed h p l c = h p l (row_of_stage p TooMany c)

  pub no_stage_crowded : NoneIsCrowded (IsRowOf bound limit w chosen rays others) → NoneIsCrowded (IsStageOf bound limit w rows chosen rays)
  no_stage_crowded h p c = h p (row_of_stage p TooMany c)
