-- What is kept of candidates in the order of their values: those that no other one reduces.
use Rattle.std.proofs.Common.{◌≡◌, ◌≢◌, inl, inr, List, [], ◌∷◌, ◌++◌, length, take, pos, ◌⊎◌, Contains, refl, sym, ap, ◌∙◌, subst, arith}
use Rattle.std.proofs.lemmas.Int.{ints}
use Rattle.std.proofs.lemmas.List.Elements.{Contains-append_left, Contains-push}
use Rattle.std.specs.List.{AllByRecursion as Each}
use Rattle.nz_spec.specs.Vectors.{Vector, dot, minus, values_at, HasWidth, IsZero, IsNonzero}
use Rattle.nz_spec.specs.Order.{IsLexBefore, Pairwise, ListsOnce}
use Rattle.nz_spec.proofs.VectorLaws.{length-minus, dot-minus}
use Rattle.nz_spec.proofs.ListLaws.{Each-contains, Each-from_contains, Each-weaker}
use Rattle.nz_spec.proofs.PrimitiveLaws.{same_of_zero_minus}
use Rattle.nz_spec.proofs.UniqueLaws.{same_or_not}
use Rattle.nz_order.specs.Reduction.{Reduces}
use Rattle.nz_order.specs.Boxes.{IsBelow}
use Rattle.nz_order.proofs.OrderLaws.{Each-push, Pairwise-push}
use Rattle.nz_order.proofs.SearchLaws.{below_refl, below_trans}
use Rattle.nz_reducer.specs.Reducers.{AreSeparated, IsNotNegative, IsUnreduced}

-- no row has a greater value at v
abbrev pub IsUnder : List Vector → Vector → Vector → Type 0
IsUnder rows v u = IsBelow (values_at rows v) (values_at rows u)

-- v comes before u by its values, or has the same
abbrev pub ComesBefore : List Vector → Vector → Vector → Type 0
ComesBefore rows v u = IsLexBefore (values_at rows v) (values_at rows u) ⊎ (values_at rows v ≡ values_at rows u)

-- what is below is not after
pub not_below : (x y : Vector) → IsLexBefore x y → IsBelow y x → ⊥
not_below [] y l b = l
not_below (a ∷ x) [] l b = l
not_below (a ∷ x) (c ∷ y) (inl l) b = (let k = b.0 in omega (arith, ints, l, k))
not_below (a ∷ x) (c ∷ y) (inr (e, l)) b = not_below x y l b.1

under_of_left : (rows : List Vector) (u v : Vector) → length u ≡ length v → IsNotNegative rows (minus u v) → IsUnder rows v u
under_of_left [] u v l h = tt
under_of_left (r ∷ rows) u v l h = (omega (arith, ints, dot-minus r u v l, h.0), under_of_left rows u v l h.1)

left_of_under : (rows : List Vector) (u v : Vector) → length u ≡ length v → IsUnder rows v u → IsNotNegative rows (minus u v)
left_of_under [] u v l h = tt
left_of_under (r ∷ rows) u v l h = (omega (arith, ints, dot-minus r u v l, h.0), left_of_under rows u v l h.1)

zero_of_both : (rows : List Vector) (u v : Vector) → length u ≡ length v → IsUnder rows v u → IsUnder rows u v → Each (λ r. dot r (minus u v) ≡ pos 0) rows
zero_of_both [] u v l h k = tt
zero_of_both (r ∷ rows) u v l h k = (omega (arith, ints, dot-minus r u v l, h.0, k.0), zero_of_both rows u v l h.1 k.1)

under_of_same : (rows : List Vector) (u v : Vector) → values_at rows u ≡ values_at rows v → IsUnder rows u v
under_of_same rows u v e = subst (IsBelow (values_at rows u)) e (below_refl (values_at rows u))

-- a part of the candidates, and what is kept of it
pub record Kept (rows done kept : List Vector) : Type 0 where
  pub different : Pairwise ◌≢◌ kept
  pub from_done : Each (Contains done) kept
  pub nonzero : Each IsNonzero kept
  pub unreduced : Each (λ u. Each (λ v. ¬ Reduces (IsNotNegative rows) v u) done) kept
  pub covers : Each (λ c. IsNonzero c → (k : Vector) × (Contains kept k × IsUnder rows k c)) done

kept_none : (rows : List Vector) → Kept rows [] []
kept_none rows = record { different = tt; from_done = tt; nonzero = tt; unreduced = tt; covers = tt }

pub kept_start : (rows es : List Vector) → Kept rows (take 0 es) []
kept_start rows [] = kept_none rows
kept_start rows (x ∷ es) = kept_none rows

module _ (rows candidates : List Vector) (s : AreSeparated rows candidates) where
  wide : (x : Vector) → Contains candidates x → HasWidth s.width x
  wide x c = Each-contains (HasWidth s.width) candidates x s.candidates_wide c

  same_width : (u v : Vector) → Contains candidates u → Contains candidates v → length u ≡ length v
  same_width u v cu cv = wide u cu ∙ sym (wide v cv)

  -- candidates with the same values are the same
  pub same_of_both : (u v : Vector) → Contains candidates u → Contains candidates v → IsUnder rows v u → IsUnder rows u v → u ≡ v
  same_of_both u v cu cv h k =
      let l = same_width u v cu cv in
      same_of_zero_minus u v l (s.only_zero (minus u v) (length-minus u v l ∙ wide u cu) (zero_of_both rows u v l h k))

  module _ (done kept : List Vector) (x : Vector) (of_done : Each (Contains candidates) done) (of_x : Contains candidates x) (is : Kept rows done kept) where
    in_done : (u : Vector) → Contains kept u → Contains done u
    in_done u c = Each-contains (Contains done) kept u is.from_done c

    candidate_of : (u : Vector) → Contains done u → Contains candidates u
    candidate_of u c = Each-contains (Contains candidates) done u of_done c

    moved : (k : Vector) (c : Vector) → ((k : Vector) × (Contains kept k × IsUnder rows k c)) → (ys : List Vector) → ((z : Vector) → Contains kept z → Contains ys z) → (k : Vector) × (Contains ys k × IsUnder rows k c)
    moved k c h ys to = (h.0, (to h.0 h.1.0, h.1.1))

    not_reduced_more : Each (λ u. ¬ Reduces (IsNotNegative rows) x u) kept → Each (λ u. Each (λ v. ¬ Reduces (IsNotNegative rows) v u) (done ++ x ∷ [])) kept
    not_reduced_more n = Each-from_contains _ kept (λ u c. Each-push (λ v. ¬ Reduces (IsNotNegative rows) v u) done x (Each-contains _ kept u is.unreduced c) (Each-contains (λ u. ¬ Reduces (IsNotNegative rows) x u) kept u n c))

    -- a zero vector is left out
    pub kept_zero : IsZero x → Kept rows (done ++ x ∷ []) kept
    kept_zero z = record {
      different = is.different;
      from_done = Each-weaker (Contains done) (Contains (done ++ x ∷ [])) (λ u c. Contains-append_left done (x ∷ []) u c) kept is.from_done;
      nonzero = is.nonzero;
      unreduced = not_reduced_more (Each-from_contains _ kept (λ u c r. r.nonzero z));
      covers = Each-push _ done x is.covers (λ n. absurd (n z));
    }

    -- and so is one that a kept one is under
    pub kept_under : (k : Vector) → Contains kept k → IsUnder rows k x → Kept rows (done ++ x ∷ []) kept
    kept_under k ck b = record {
      different = is.different;
      from_done = Each-weaker (Contains done) (Contains (done ++ x ∷ [])) (λ u c. Contains-append_left done (x ∷ []) u c) kept is.from_done;
      nonzero = is.nonzero;
      unreduced = not_reduced_more (Each-from_contains _ kept (λ u c r.
          let cu = candidate_of u (in_done u c) in
          let cc' = candidate_of k (in_done k ck) in
          let xu = under_of_left rows u x (same_width u x cu of_x) r.left in
          let ku = below_trans _ _ _ b xu in
          elim (same_or_not k u (same_width k u cc' cu)) [
            | inl e ↦ r.other (same_of_both x u of_x cu (subst (λ (v : Vector). IsUnder rows v x) e b) xu)
            | inr n ↦ Each-contains (λ v. ¬ Reduces (IsNotNegative rows) v u) done k (Each-contains _ kept u is.unreduced c) (in_done k ck)
                (record { nonzero = Each-contains IsNonzero kept k is.nonzero ck; other = n; left = left_of_under rows u k (same_width u k cu cc') ku })
          ]));
      covers = Each-push _ done x is.covers (λ n. (k, (ck, b)));
    }

    -- a nonzero one that no kept one is under is kept
    pub kept_more : Each (λ u. ComesBefore rows u x) done → IsNonzero x → Each (λ k. ¬ IsUnder rows k x) kept → Kept rows (done ++ x ∷ []) (kept ++ x ∷ [])
    kept_more before nx none =
        let none_at : (u : Vector) → Contains kept u → ¬ IsUnder rows u x = λ u c. Each-contains (λ k. ¬ IsUnder rows k x) kept u none c in
        let old : Each (λ u. ¬ Reduces (IsNotNegative rows) x u) kept = Each-from_contains _ kept (λ u c r.
        let cu = candidate_of u (in_done u c) in
        let xu = under_of_left rows u x (same_width u x cu of_x) r.left in
        elim (Each-contains (λ u. ComesBefore rows u x) done u before (in_done u c)) [
          | inl l ↦ not_below _ _ l xu
          | inr e ↦ none_at u c (under_of_same rows u x e)
        ]) in
        record {
          different = Pairwise-push ◌≢◌ kept x is.different (Each-from_contains _ kept (λ u c e. none_at u c (under_of_same rows u x (ap (values_at rows) e))));
          from_done = Each-push _ kept x (Each-weaker (Contains done) (Contains (done ++ x ∷ [])) (λ u c. Contains-append_left done (x ∷ []) u c) kept is.from_done) (Contains-push done x);
          nonzero = Each-push _ kept x is.nonzero nx;
          unreduced = Each-push _ kept x (not_reduced_more old) (Each-push (λ v. ¬ Reduces (IsNotNegative rows) v x) done x
              (Each-from_contains _ done (λ v c r.
              let h = Each-contains (λ c. IsNonzero c → (k : Vector) × (Contains kept k × IsUnder rows k c)) done v is.covers c r.nonzero in
              none_at h.0 h.1.0 (below_trans _ _ _ h.1.1 (under_of_left rows x v (same_width x v of_x (candidate_of v c)) r.left))))
              (λ r. r.other refl));
          covers = Each-push _ done x
              (Each-weaker _ _ (λ c f n. moved c c (f n) (kept ++ x ∷ []) (λ z k. Contains-append_left kept (x ∷ []) z k)) done is.covers)
              (λ n. (x, (Contains-push kept x, below_refl (values_at rows x))));
        }

  -- when all candidates are done, just those that no other one reduces are kept
  pub kept_all : (done kept : List Vector) → Kept rows done kept → ((x : Vector) → Contains candidates x → Contains done x) → ((x : Vector) → Contains done x → Contains candidates x) → ListsOnce (IsUnreduced rows candidates) kept
  kept_all done kept is to from = record {
    in_order = is.different;
    only = Each-from_contains _ kept (λ u c. record {
      candidate = from u (Each-contains (Contains done) kept u is.from_done c);
      nonzero = Each-contains IsNonzero kept u is.nonzero c;
      unreduced = Each-from_contains _ candidates (λ v k. Each-contains (λ v. ¬ Reduces (IsNotNegative rows) v u) done v (Each-contains _ kept u is.unreduced c) (to v k));
    });
    each = λ u h.
        let f = Each-contains (λ c. IsNonzero c → (k : Vector) × (Contains kept k × IsUnder rows k c)) done u is.covers (to u h.candidate) h.nonzero in
        let ck = from f.0 (Each-contains (Contains done) kept f.0 is.from_done f.1.0) in
        elim (same_or_not f.0 u (same_width f.0 u ck h.candidate)) [
          | inl e ↦ subst (Contains kept) e f.1.0
          | inr n ↦ absurd (Each-contains (λ v. ¬ Reduces (IsNotNegative rows) v u) candidates f.0 h.unreduced ck
              (record { nonzero = Each-contains IsNonzero kept f.0 is.nonzero f.1.0; other = n; left = left_of_under rows u f.0 (same_width u f.0 h.candidate ck) f.1.1 }))
        ];
  }
