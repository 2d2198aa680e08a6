-- A stage that is refused in the coordinates of the rest, since it would have too many vectors, is one of the lattice with too many classes.
use Rattle.std.proofs.Common.{◌≡◌, ◌⊎◌, inl, inr, ℕ, ◌≤◌, List, [], ◌∷◌, ◌++◌, length, map, ℤ, pos, Contains, refl, sym, ap, ap₂, ◌∙◌, subst, arith}
use Rattle.std.proofs.lemmas.List.{length-append, append_assoc}
use Rattle.std.specs.List.{AllByRecursion as Each}
use Rattle.nz_spec.specs.Vectors.{Vector, dot, combination, zero_vector, HasWidth, IsZero, IsPrimitive}
use Rattle.nz_spec.specs.Covers.{vectors_at}
use Rattle.nz_spec.specs.Order.{MoreThan}
use Rattle.nz_spec.specs.Sums.{IsInGroup}
use Rattle.nz_spec.specs.Boxes.{IsListedOrBoxMember}
use Rattle.nz_spec.specs.Monoids.{IsIrreducible}
use Rattle.nz_spec.specs.Stages.{IsInStage, IsInReversed, IsFreshRow, Separates, none, fresh, other}
use Rattle.nz_spec.proofs.ListLaws.{Each-contains}
use Rattle.nz_spec.proofs.SumLaws.{combination-zeros}
use Rattle.nz_spec.proofs.VectorLaws.{IsZero-zero_vector}
use Rattle.nz_linear.specs.Coordinates.{in_coordinates}
use Rattle.nz_linear.specs.DualPairs.{Pair}
use Rattle.nz_linear.specs.Extreme.{IsPointed}
use Rattle.nz_linear.proofs.Lists.{each_map, each_map2, each_append, each_left, each_right, each_of_map, map_each}
use Rattle.nz_range.proofs.Causes.{each_own}
use Rattle.nz_classes.specs.Walks.{paired}
use Rattle.nz_pointed.specs.Pointed.{IsSimplexOf}
use Rattle.nz_rays.proofs.StartLemmas.{simplex_width, simplex_at_width}
use Rattle.nz_measures.specs.Stages.{IsLater}
use Rattle.nz_vec.specs.declared.answers.Work.TheVariants.{TooMany}
use Rattle.nz_dual.specs.Refusals.{IsInsertOf, IsStageOf}
use Rattle.nz_dual.proofs.FirstStageLemmas.{full_simplex, vectors_of_pairs, forms_of_pairs}
use Rattle.nz_dual.proofs.InsertionLemmas.{simplex_pointed}
use Rattle.nz_dual.proofs.OrderLemmas.{each_part}
use Rattle.nz_further.specs.Units.{IsUnitSplit}
use Rattle.nz_further.specs.Crowds.{IsStartCrowd}
use Rattle.nz_further.proofs.Crowding.{split_of_some, start_crowd_forth, more_of_stage, more_of_reversed}
use Rattle.nz_further.proofs.StartCrowds.{start_crowd}
use Rattle.nz_further.proofs.UnitBridges.{value_in}
use Rattle.nz_further.proofs.UnitLaws.{rest_part, rest_in_lattice}
use Rattle.nz_units.specs.UnitCrowds.{IsUnitCrowd, of_start, of_stage, of_reversed}

-- ---- a simplex
-- more candidates of the first stage than the limit
simplex_crowd : (limit w : ℕ) (rows rays : List Vector) (places : List ℕ) → IsSimplexOf w rows places rays → MoreThan limit (IsListedOrBoxMember w (IsInStage (HasWidth w) (vectors_at rows places)) rays) → IsStartCrowd limit (HasWidth w) IsZero (vectors_at rows places)
simplex_crowd limit w rows rays places s m =
    let fs : List Vector = vectors_at rows places in
    let at = simplex_at_width w rows rays places s in
    let full = full_simplex rows rays places at in
    let size : length rays ≡ w = s.one_each ∙ sym (simplex_width w rows rays places s) in
    let ps = paired fs rays in
    let vectors = vectors_of_pairs fs rays full in
    let forms = forms_of_pairs fs rays full in
    let primitive = map_each (λ (p : Pair). p.vector) IsPrimitive ps (subst (Each IsPrimitive) (sym vectors) s.primitive) in
    let more : MoreThan limit (IsListedOrBoxMember (length rays) (IsInStage (HasWidth (length rays)) (map (λ (p : Pair). p.form) ps)) (map (λ (p : Pair). p.vector) ps)) =
    subst (λ (n : ℕ). MoreThan limit (IsListedOrBoxMember n (IsInStage (HasWidth n) (map (λ (p : Pair). p.form) ps)) (map (λ (p : Pair). p.vector) ps))) (sym size)
    (subst (λ (us : List Vector). MoreThan limit (IsListedOrBoxMember w (IsInStage (HasWidth w) us) (map (λ (p : Pair). p.vector) ps))) (sym forms)
    (subst (λ (us : List Vector). MoreThan limit (IsListedOrBoxMember w (IsInStage (HasWidth w) fs) us)) (sym vectors) m)) in
    subst (λ (us : List Vector). IsStartCrowd limit (HasWidth w) IsZero us) forms
    (subst (λ (n : ℕ). IsStartCrowd limit (HasWidth n) IsZero (map (λ (p : Pair). p.form) ps)) size (start_crowd (length rays) ps full.dual full.only_zero primitive limit more))

-- its rows vanish together only at 0
simplex_at_zero : (w : ℕ) (rows rays : List Vector) (places : List ℕ) → IsSimplexOf w rows places rays → IsPointed w (vectors_at rows places)
simplex_at_zero w rows rays places s = subst (λ (n : ℕ). IsPointed n (vectors_at rows places)) (sym (simplex_width w rows rays places s)) (simplex_pointed rows rays places (simplex_at_width w rows rays places s))

-- ---- lists
module _ (at : Vector → Vector) where
  joined : (xs ys : List Vector) → map at (xs ++ ys) ≡ map at xs ++ map at ys
  joined [] ys = refl
  joined (x ∷ xs) ys = ap (λ t. at x ∷ t) (joined xs ys)

  -- the parts of a list that a function was applied to
  record HasParts (xs before : List Vector) (row : Vector) (after : List Vector) : Type 0 where
    front : List Vector
    own : Vector
    back : List Vector
    whole : xs ≡ front ++ own ∷ back
    same_front : map at front ≡ before
    same_own : at own ≡ row

  parts_at : (xs before : List Vector) (row : Vector) (after : List Vector) → map at xs ≡ before ++ row ∷ after → HasParts xs before row after
  parts_at [] [] row after e = absurd (let n = ap length e in let b : ⊥ = omega (arith, n) in b)
  parts_at [] (b ∷ before) row after e = absurd (let n = ap length e in let b : ⊥ = omega (arith, n) in b)
  parts_at (x ∷ xs) [] row after e = record { front = []; own = x; back = xs; whole = refl; same_front = refl; same_own = cc }
  parts_at (x ∷ xs) (b ∷ before) row after e =
      let own : at x ≡ b = cc in
      let rest : map at xs ≡ before ++ row ∷ after = cc in
      let p = parts_at xs before row after rest in
      record { front = x ∷ p.front; own = p.own; back = p.back; whole = ap (λ t. x ∷ t) p.whole; same_front = ap₂ (λ a t. a ∷ t) own p.same_front; same_own = p.same_own }

-- ---- the rows in the coordinates of the rest
module _ (w : ℕ) (lattice rows units rest : List Vector) (wide : Each (HasWidth w) lattice) (split : IsUnitSplit w lattice rows units rest) where
  abbrev pull : Vector → Vector
  pull r = in_coordinates rest r

  abbrev L : Vector → Type 0
  L = IsInGroup w lattice

  abbrev Fresh : List Vector → Vector → Type 0
  Fresh = IsFreshRow (HasWidth (length rest))

  fresh_forth : (earlier : List Vector) (row : Vector) → IsFreshRow (HasWidth (length rest)) (map (λ r. in_coordinates rest r) earlier) (in_coordinates rest row) → IsFreshRow (IsInGroup w lattice) earlier row
  fresh_forth earlier row h =
      let x = combination w h.vector rest in
      let value : (r : Vector) → dot (pull r) h.vector ≡ dot r x = λ r. value_in w rest r h.vector split.rest_widths in
      record {
        vector = x;
        in_lattice = rest_in_lattice w lattice rows units rest wide split x (record { factors = h.vector; one_each = h.in_lattice; same = refl });
        zero_at = each_map (λ r. dot (pull r) h.vector ≡ pos 0) (λ r. dot r x ≡ pos 0) earlier (λ r e. sym (value r) ∙ e) (map_each pull (λ f. dot f h.vector ≡ pos 0) earlier h.zero_at);
        nonzero_at = λ e. h.nonzero_at (value row ∙ e);
      }

  fresh_back : (earlier : List Vector) (row : Vector) → Each (Contains rows) earlier → Contains rows row → IsFreshRow (IsInGroup w lattice) earlier row → IsFreshRow (HasWidth (length rest)) (map (λ r. in_coordinates rest r) earlier) (in_coordinates rest row)
  fresh_back earlier row of_list own h =
      let p = rest_part w lattice rows units rest wide split h.vector h.in_lattice in
      let c = p.1.factors in
      let value : (r : Vector) → Contains rows r → dot (pull r) c ≡ dot r h.vector = λ r k. value_in w rest r c split.rest_widths ∙ ap (dot r) p.1.same ∙ sym (Each-contains (λ r. dot r h.vector ≡ dot r p.0) rows r p.2 k) in
      record {
        vector = c;
        in_lattice = p.1.one_each;
        zero_at = each_of_map pull (λ f. dot f c ≡ pos 0) earlier (each_map2 (Contains rows) (λ r. dot r h.vector ≡ pos 0) (λ r. dot (pull r) c ≡ pos 0) earlier (λ r k e. value r k ∙ e) of_list h.zero_at);
        nonzero_at = λ e. h.nonzero_at (sym (value row own) ∙ e);
      }

  -- the parts of the rows of which the parts in coordinates are these
  record HasOrder (earlier list chosen others : List Vector) : Type 0 where
    first : List Vector
    later : List Vector
    separates : Separates (IsFreshRow (IsInGroup w lattice)) earlier list first later
    same_first : map (λ r. in_coordinates rest r) first ≡ chosen
    same_later : map (λ r. in_coordinates rest r) later ≡ others

  order_of : {es us chosen others : List Vector} → Separates (IsFreshRow (HasWidth (length rest))) es us chosen others → (earlier list : List Vector) → Each (Contains rows) earlier → Each (Contains rows) list
      → es ≡ map (λ r. in_coordinates rest r) earlier → us ≡ map (λ r. in_coordinates rest r) list → HasOrder earlier list chosen others
  order_of none earlier [] k l e f = record { first = []; later = []; separates = none; same_first = refl; same_later = refl }
  order_of none earlier (r ∷ list) k l e f = absurd (let n = ap length f in let b : ⊥ = omega (arith, n) in b)
  order_of (fresh h s) earlier [] k l e f = absurd (let n = ap length f in let b : ⊥ = omega (arith, n) in b)
  order_of (fresh {earlier = es} {vs = us} {v = u} h s) earlier (r ∷ list) k l e f =
      let own : u ≡ pull r = cc in
      let tail : us ≡ map pull list = cc in
      let p = order_of s (r ∷ earlier) list (l.0, k) l.1 (ap₂ (λ a t. a ∷ t) own e) tail in
      let here : Fresh (map pull earlier) (pull r) = subst (λ (t : Vector). Fresh (map pull earlier) t) own (subst (λ (ts : List Vector). Fresh ts u) e h) in
      record {
        first = r ∷ p.first;
        later = p.later;
        separates = fresh (fresh_forth earlier r here) p.separates;
        same_first = ap₂ (λ a t. a ∷ t) (sym own) p.same_first;
        same_later = p.same_later;
      }
  order_of (other h s) earlier [] k l e f = absurd (let n = ap length f in let b : ⊥ = omega (arith, n) in b)
  order_of (other {earlier = es} {vs = us} {v = u} h s) earlier (r ∷ list) k l e f =
      let own : u ≡ pull r = cc in
      let tail : us ≡ map pull list = cc in
      let p = order_of s (r ∷ earlier) list (l.0, k) l.1 (ap₂ (λ a t. a ∷ t) own e) tail in
      record {
        first = p.first;
        later = r ∷ p.later;
        separates = other (λ i. h (subst (λ (ts : List Vector). Fresh ts u) (sym e) (subst (λ (t : Vector). Fresh (map pull earlier) t) (sym own) (fresh_back earlier r k l.0 i)))) p.separates;
        same_first = p.same_first;
        same_later = ap₂ (λ a t. a ∷ t) (sym own) p.same_later;
      }

  -- ---- units and rest of some of the rows
  split_with : (first : List Vector) → IsPointed (length rest) (map (λ r. in_coordinates rest r) first) → (others : List Vector) → Each (Contains rows) (first ++ others) → IsUnitSplit w lattice (first ++ others) units rest
  split_with first pointed others of_list = split_of_some w lattice rows (first ++ others) units rest split of_list (λ x g z.
      let at_first = each_left (λ r. dot r x ≡ pos 0) first others z in
      let c = pointed g.factors g.one_each (each_of_map pull (λ f. dot f g.factors ≡ pos 0) first (each_map (λ r. dot r x ≡ pos 0) (λ r. dot (pull r) g.factors ≡ pos 0) first (λ r e. value_in w rest r g.factors split.rest_widths ∙ ap (dot r) g.same ∙ e) at_first)) in
      subst IsZero (sym (ap (λ t. combination w t rest) c ∙ combination-zeros w rest split.rest_widths) ∙ g.same) (IsZero-zero_vector w))

  -- the insertion of a row has too many irreducibles
  insert_crowd : (bound : ℤ) (limit passed : ℕ) (chosen others : List Vector) → IsPointed (length rest) chosen → HasOrder [] rows chosen others → IsInsertOf bound limit (length rest) chosen others passed TooMany → IsUnitCrowd limit w lattice rows
  insert_crowd bound limit passed chosen others pointed o k =
      let p = parts_at pull o.later k.earlier k.row k.later (o.same_later ∙ k.whole) in
      let n = length rest in
      let held = o.first ++ p.front in
      let listed : Each (Contains rows) (o.first ++ o.later) = each_part (Contains rows) o.separates (each_own rows) in
      let first = each_left (Contains rows) o.first o.later listed in
      let there : Each (Contains rows) (p.front ++ p.own ∷ p.back) = subst (Each (Contains rows)) p.whole (each_right (Contains rows) o.first o.later listed) in
      let own : Contains rows p.own = (each_right (Contains rows) p.front (p.own ∷ p.back) there).0 in
      let of_held : Each (Contains rows) held = each_append (Contains rows) o.first p.front first (each_left (Contains rows) p.front (p.own ∷ p.back) there) in
      let at_zero : IsPointed n (map pull o.first) = subst (IsPointed n) (sym o.same_first) pointed in
      let later : IsLater (length o.first) (o.first ++ o.later) held p.own = record {
        later = p.back;
        whole = ap (λ xs. o.first ++ xs) p.whole ∙ sym (append_assoc o.first p.front (p.own ∷ p.back));
        enough = (let e = length-append o.first p.front in omega (arith, e));
      } in
      let same_held : map pull held ≡ chosen ++ k.earlier = joined pull o.first p.front ∙ ap₂ (λ a b. a ++ b) o.same_first p.same_front in
      let same_more : map pull (held ++ p.own ∷ []) ≡ (chosen ++ k.earlier) ++ k.row ∷ [] = joined pull held (p.own ∷ []) ∙ ap₂ (λ a b. a ++ b ∷ []) same_held p.same_own in
      elim k.refused [
        | inl m ↦
            let of_more = each_append (Contains rows) held (p.own ∷ []) of_held (own, tt) in
            let whole : held ++ p.own ∷ [] ≡ o.first ++ (p.front ++ p.own ∷ []) = append_assoc o.first p.front (p.own ∷ []) in
            let some : IsUnitSplit w lattice (held ++ p.own ∷ []) units rest = subst (λ rs. IsUnitSplit w lattice rs units rest) (sym whole) (split_with o.first at_zero (p.front ++ p.own ∷ []) (subst (Each (Contains rows)) whole of_more)) in
            of_stage o.separates later (more_of_stage w lattice (held ++ p.own ∷ []) units rest wide some limit (subst (λ rs. MoreThan limit (IsIrreducible (IsInStage (HasWidth n) rs))) (sym same_more) m))
        | inr m ↦
            let zero = Each-contains (λ r. Each (λ u. dot r u ≡ pos 0) units) rows p.own split.zero_at_units own in
            of_reversed o.separates later (more_of_reversed w lattice held units rest p.own wide (split_with o.first at_zero p.front of_held) zero limit
            (subst (λ r. MoreThan limit (IsIrreducible (IsInReversed (HasWidth n) (map pull held) r))) (sym p.same_own)
            (subst (λ rs. MoreThan limit (IsIrreducible (IsInReversed (HasWidth n) rs k.row))) (sym same_held) m)))
      ]

  -- the stage that is refused has too many classes
  pub stage_crowd : (bound : ℤ) (limit passed : ℕ) (places : List ℕ) (rays : List Vector) → IsSimplexOf (length rest) (map (λ r. in_coordinates rest r) rows) places rays
      → IsStageOf bound limit (length rest) (map (λ r. in_coordinates rest r) rows) (vectors_at (map (λ r. in_coordinates rest r) rows) places) rays passed TooMany → IsUnitCrowd limit w lattice rows
  stage_crowd bound limit passed places rays s (others, (t, refused)) =
      let n = length rest in
      let pulled = map pull rows in
      let o = order_of t [] rows tt (each_own rows) refl refl in
      elim refused [
        | inl k ↦
            let listed = each_left (Contains rows) o.first o.later (each_part (Contains rows) o.separates (each_own rows)) in
            of_start o.separates (start_crowd_forth w lattice rows units rest o.first wide split listed limit (subst (IsStartCrowd limit (HasWidth n) IsZero) (sym o.same_first) (simplex_crowd limit n pulled rays places s k.1)))
        | inr k ↦ insert_crowd bound limit passed (vectors_at pulled places) others (simplex_at_zero n pulled rays places s) o k
      ]
