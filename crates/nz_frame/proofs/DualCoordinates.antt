-- Stages, reversed stages, the order of the rows and their numbers in coordinates of a base of the lattice.
use Rattle.std.proofs.Common.{◌≡◌, ◌≢◌, ◌↔◌, ℕ, ◌+◌, ◌-◌, List, [], ◌∷◌, ◌++◌, length, map, take, pos, ◌≤ℤ◌, Contains, refl, sym, ap, ap₂, ◌∙◌, subst, arith}
use Rattle.std.proofs.lemmas.List.{length-map}
use Rattle.std.specs.List.{AllByRecursion as Each, AllZip, range_with_len}
use Rattle.nz_spec.specs.Vectors.{Vector, dot, combination, HasWidth}
use Rattle.nz_spec.specs.Sums.{IsInGroup, IsInSpan, IsIndependent, HasRank}
use Rattle.nz_spec.specs.Order.{Pairwise, ListsOnce, HasNumber, MoreThan}
use Rattle.nz_spec.specs.Monoids.{IsIrreducible, IsExtreme}
use Rattle.nz_spec.specs.Stages.{IsInStage, IsInReversed, IsInReversedStage, IsFreshRow, Separates, none, fresh, other, IsIndependentFirst, CountsStages, AreStages}
use Rattle.nz_spec.proofs.EquationLaws.{dot_comm}
use Rattle.nz_spec.proofs.SumLaws.{dot-combination}
use Rattle.nz_spec.proofs.ListLaws.{Each-from_contains}
use Rattle.nz_linear.specs.Coordinates.{AreCoordinates, in_coordinates}
use Rattle.nz_linear.proofs.Coordinates.{stage_coordinates, irreducible_forth, irreducible_back, extreme_forth, extreme_back, same_coordinates}
use Rattle.nz_linear.proofs.Lists.{each_map, each_of_map, map_each, zip_change}
use Rattle.nz_linear.proofs.SumCoordinates as sum
use Rattle.nz_frame.proofs.ListSplits.{mapped_split, mapped_join, mapped_take, different_forth}

-- ---- lists of irreducible elements and of extreme generators
module _ (w : ℕ) (base : List Vector) (Member Coordinates : Vector → Type 0) (k : AreCoordinates w base Member Coordinates) where
  abbrev at : Vector → Vector
  at c = combination w c base

  one_of : (xs : List Vector) → Each Coordinates xs → Pairwise ◌≢◌ xs → Pairwise ◌≢◌ (map (λ c. combination w c base) xs)
  one_of xs h d = different_forth (λ c. combination w c base) Coordinates (λ c e p q s. same_coordinates w base Member Coordinates k c e (k.one_each c p) (k.one_each e q) s) xs h d

  pub irreducibles_forth : (xs : List Vector) → ListsOnce (IsIrreducible Coordinates) xs → ListsOnce (IsIrreducible Member) (map (λ c. combination w c base) xs)
  irreducibles_forth xs h = record {
    in_order = one_of xs (each_map (IsIrreducible Coordinates) Coordinates xs (λ c i. i.member) h.only) h.in_order;
    only = each_of_map at (IsIrreducible Member) xs (each_map (IsIrreducible Coordinates) (λ c. IsIrreducible Member (at c)) xs (λ c i. irreducible_forth w base Member Coordinates k c i) h.only);
    each = λ x i.
        let r = k.back x i.member in
        subst (Contains (map at xs)) r.2 (sum.mapped_has at xs r.0 (h.each r.0 (irreducible_back w base Member Coordinates k r.0 (k.one_each r.0 r.1) (subst (IsIrreducible Member) (sym r.2) i))));
  }

  pub extremes_forth : (xs : List Vector) → ListsOnce (IsExtreme Coordinates) xs → ListsOnce (IsExtreme Member) (map (λ c. combination w c base) xs)
  extremes_forth xs h = record {
    in_order = one_of xs (each_map (IsExtreme Coordinates) Coordinates xs (λ c i. i.irreducible.member) h.only) h.in_order;
    only = each_of_map at (IsExtreme Member) xs (each_map (IsExtreme Coordinates) (λ c. IsExtreme Member (at c)) xs (λ c i. extreme_forth w base Member Coordinates k c i) h.only);
    each = λ x i.
        let r = k.back x i.irreducible.member in
        subst (Contains (map at xs)) r.2 (sum.mapped_has at xs r.0 (h.each r.0 (extreme_back w base Member Coordinates k r.0 (k.one_each r.0 r.1) (subst (IsExtreme Member) (sym r.2) i))));
  }

  pub number_forth : (n : ℕ) → HasNumber (IsIrreducible Coordinates) n → HasNumber (IsIrreducible Member) n
  number_forth n h = record { list = map at h.list; lists = irreducibles_forth h.list h.lists; size = length-map h.list at ∙ h.size }

  -- more vectors than a number stay more
  pub more_forth : (P Q : Vector → Type 0) → ((c : Vector) → P c → Coordinates c) → ((c : Vector) → P c → Q (combination w c base)) → (n : ℕ) → MoreThan n P → MoreThan n Q
  more_forth P Q of forth n m = record {
    witnesses = map at m.witnesses;
    different = one_of m.witnesses (each_map P Coordinates m.witnesses of m.only) m.different;
    only = each_of_map at Q m.witnesses (each_map P (λ c. Q (at c)) m.witnesses forth m.only);
    more = (let e = length-map m.witnesses at in let l = m.more in omega (arith, e, l));
  }

  pub more_irreducibles : (n : ℕ) → MoreThan n (IsIrreducible Coordinates) → MoreThan n (IsIrreducible Member)
  more_irreducibles n m = more_forth (IsIrreducible Coordinates) (IsIrreducible Member) (λ c i. i.member) (λ c i. irreducible_forth w base Member Coordinates k c i) n m

-- ---- stages
module _ (w : ℕ) (Lattice : Vector → Type 0) (base : List Vector) (wide : Each (HasWidth w) base) (free : IsIndependent w base) (group : (x : Vector) → Lattice x ↔ IsInGroup w base x) where
  abbrev vector : Vector → Vector
  vector c = combination w c base

  abbrev pull : Vector → Vector
  pull f = in_coordinates base f

  pub value_in : (f c : Vector) → dot (in_coordinates base f) c ≡ dot f (combination w c base)
  value_in f c = dot_comm (in_coordinates base f) c ∙ sym (dot-combination f w c base wide)

  in_lattice_at : (c : Vector) → HasWidth (length base) c → Lattice (combination w c base)
  in_lattice_at c l = (group (combination w c base)).1 (record { factors = c; one_each = l; same = refl })

  -- a stage
  pub stage_in : (rows : List Vector) → AreCoordinates w base (IsInStage Lattice rows) (IsInStage (HasWidth (length base)) (map (λ r. in_coordinates base r) rows))
  stage_in rows =
      let k = stage_coordinates w base rows wide free in
      record {
        widths = k.widths;
        independent = k.independent;
        one_each = λ c i. i.in_lattice;
        forth = λ c i. let m = k.forth c (i.in_lattice, i.at_least) in record { in_lattice = (group (combination w c base)).1 m.in_lattice; at_least = m.at_least };
        back = λ x m. let b = k.back x (record { in_lattice = (group x).0 m.in_lattice; at_least = m.at_least }) in (b.0, record { in_lattice = b.1.0; at_least = b.1.1 }, b.2);
      }

  -- a vector of a stage at which the last row is at most 0
  pub reversed_in : (earlier : List Vector) (last : Vector) → AreCoordinates w base (IsInReversed Lattice earlier last) (IsInReversed (HasWidth (length base)) (map (λ r. in_coordinates base r) earlier) (in_coordinates base last))
  reversed_in earlier last =
      let k = stage_in earlier in
      record {
        widths = k.widths;
        independent = k.independent;
        one_each = λ c i. i.in_stage.in_lattice;
        forth = λ c i. record { in_stage = k.forth c i.in_stage; at_most = subst (λ t. t ≤ℤ pos 0) (value_in last c) i.at_most };
        back = λ x m. let b = k.back x m.in_stage in (b.0, record { in_stage = b.1; at_most = subst (λ t. t ≤ℤ pos 0) (sym (value_in last b.0 ∙ ap (dot last) b.2)) m.at_most }, b.2);
      }

  -- a reversed stage
  pub reversed_stage_in : (rows : List Vector) (k : ℕ) → AreCoordinates w base (IsInReversedStage Lattice rows k) (IsInReversedStage (HasWidth (length base)) (map (λ r. in_coordinates base r) rows) k)
  reversed_stage_in rows k = record {
    widths = wide;
    independent = free;
    one_each = λ c i. i.reversed.in_stage.in_lattice;
    forth = λ c i.
        let s = mapped_split pull rows i.earlier i.last i.later i.whole in
        record {
          earlier = s.before;
          last = s.own;
          later = s.after;
          whole = s.whole;
          place = i.place ∙ ap (λ n. n + 1) (ap length (sym s.same_before) ∙ length-map s.before pull);
          reversed = (reversed_in s.before s.own).forth c
              (subst (λ (l : Vector). IsInReversed (HasWidth (length base)) (map pull s.before) l c) (sym s.same_own)
              (subst (λ (es : List Vector). IsInReversed (HasWidth (length base)) es i.last c) (sym s.same_before) i.reversed));
        };
    back = λ x m.
        let b = (reversed_in m.earlier m.last).back x m.reversed in (
          b.0,
          record {
            earlier = map pull m.earlier;
            last = pull m.last;
            later = map pull m.later;
            whole = ap (map pull) m.whole ∙ mapped_join pull m.earlier (m.last ∷ m.later);
            place = m.place ∙ ap (λ n. n + 1) (sym (length-map m.earlier pull));
            reversed = b.1;
          },
          b.2,
        );
  }

  -- ---- the order of the rows
  fresh_forth : (earlier : List Vector) (row : Vector) → IsFreshRow (HasWidth (length base)) (map (λ r. in_coordinates base r) earlier) (in_coordinates base row) → IsFreshRow Lattice earlier row
  fresh_forth earlier row h = record {
    vector = vector h.vector;
    in_lattice = in_lattice_at h.vector h.in_lattice;
    zero_at = each_map (λ r. dot (pull r) h.vector ≡ pos 0) (λ r. dot r (vector h.vector) ≡ pos 0) earlier (λ r e. sym (value_in r h.vector) ∙ e) (map_each pull (λ f. dot f h.vector ≡ pos 0) earlier h.zero_at);
    nonzero_at = λ e. h.nonzero_at (value_in row h.vector ∙ e);
  }

  fresh_back : (earlier : List Vector) (row : Vector) → IsFreshRow Lattice earlier row → IsFreshRow (HasWidth (length base)) (map (λ r. in_coordinates base r) earlier) (in_coordinates base row)
  fresh_back earlier row h =
      let g = (group h.vector).0 h.in_lattice in
      let value : (r : Vector) → dot (pull r) g.factors ≡ dot r h.vector = λ r. value_in r g.factors ∙ ap (dot r) g.same in
      record {
        vector = g.factors;
        in_lattice = g.one_each;
        zero_at = each_of_map pull (λ f. dot f g.factors ≡ pos 0) earlier (each_map (λ r. dot r h.vector ≡ pos 0) (λ r. dot (pull r) g.factors ≡ pos 0) earlier (λ r e. value r ∙ e) h.zero_at);
        nonzero_at = λ e. h.nonzero_at (sym (value row) ∙ e);
      }

  -- the parts of the pulled rows are the pulled parts of the rows
  pub record ArePulledParts (earlier rows chosen others : List Vector) : Type 0 where
    pub first : List Vector
    pub rest : List Vector
    pub separates : Separates (IsFreshRow Lattice) earlier rows first rest
    pub same_first : map (λ r. in_coordinates base r) first ≡ chosen
    pub same_rest : map (λ r. in_coordinates base r) rest ≡ others

  separated : {es us chosen others : List Vector} → Separates (IsFreshRow (HasWidth (length base))) es us chosen others → (earlier rows : List Vector) → es ≡ map (λ r. in_coordinates base r) earlier → us ≡ map (λ r. in_coordinates base r) rows → ArePulledParts earlier rows chosen others
  separated none earlier [] e f = record { first = []; rest = []; separates = none; same_first = refl; same_rest = refl }
  separated none earlier (r ∷ rows) e f = absurd (let n = ap length f in let b : ⊥ = omega (arith, n) in b)
  separated (fresh h s) earlier [] e f = absurd (let n = ap length f in let b : ⊥ = omega (arith, n) in b)
  separated (fresh {earlier = es} {vs = us} {v = u} h s) earlier (r ∷ rows) e f =
      let own : u ≡ pull r = cc in
      let rest : us ≡ map pull rows = cc in
      let p = separated s (r ∷ earlier) rows (ap₂ (λ a t. a ∷ t) own e) rest in
      record {
        first = r ∷ p.first;
        rest = p.rest;
        separates = fresh (fresh_forth earlier r (subst (λ (t : Vector). IsFreshRow (HasWidth (length base)) (map pull earlier) t) own (subst (λ (ts : List Vector). IsFreshRow (HasWidth (length base)) ts u) e h))) p.separates;
        same_first = ap₂ (λ a t. a ∷ t) (sym own) p.same_first;
        same_rest = p.same_rest;
      }
  separated (other h s) earlier [] e f = absurd (let n = ap length f in let b : ⊥ = omega (arith, n) in b)
  separated (other {earlier = es} {vs = us} {v = u} h s) earlier (r ∷ rows) e f =
      let own : u ≡ pull r = cc in
      let rest : us ≡ map pull rows = cc in
      let p = separated s (r ∷ earlier) rows (ap₂ (λ a t. a ∷ t) own e) rest in
      record {
        first = p.first;
        rest = r ∷ p.rest;
        separates = other (λ i. h (subst (λ (ts : List Vector). IsFreshRow (HasWidth (length base)) ts u) (sym e) (subst (λ (t : Vector). IsFreshRow (HasWidth (length base)) (map pull earlier) t) (sym own) (fresh_back earlier r i)))) p.separates;
        same_first = p.same_first;
        same_rest = ap₂ (λ a t. a ∷ t) (sym own) p.same_rest;
      }

  pub parts_of_pulled : (rows chosen others : List Vector) → Separates (IsFreshRow (HasWidth (length base))) [] (map (λ r. in_coordinates base r) rows) chosen others → ArePulledParts [] rows chosen others
  parts_of_pulled rows chosen others s = separated s [] rows refl refl

  -- the rows in order are, in coordinates, the pulled rows in order
  pub record IsPulledOrder (rows pulled : List Vector) : Type 0 where
    pub ordered : List Vector
    pub in_order : IsIndependentFirst (IsFreshRow Lattice) rows ordered
    pub same : map (λ r. in_coordinates base r) ordered ≡ pulled

  pub order_of_pulled : (rows pulled : List Vector) → IsIndependentFirst (IsFreshRow (HasWidth (length base))) (map (λ r. in_coordinates base r) rows) pulled → IsPulledOrder rows pulled
  order_of_pulled rows pulled h =
      let p = parts_of_pulled rows h.first h.others h.separates in
      record {
        ordered = p.first ++ p.rest;
        in_order = record { first = p.first; others = p.rest; separates = p.separates; whole = refl };
        same = mapped_join pull p.first p.rest ∙ ap₂ (λ a b. a ++ b) p.same_first p.same_rest ∙ sym h.whole;
      }

  -- ---- the rank
  pub rank_of_base : HasRank w Lattice (length base)
  rank_of_base = record {
    base = base;
    size = refl;
    members = Each-from_contains Lattice base (λ v c. (group v).1 (sum.group_has w base wide v c));
    independent = free;
    all = λ x l. sum.group_in_span w base x ((group x).0 l);
  }

  pub rank_forth : (n : ℕ) → HasRank (length base) (HasWidth (length base)) n → HasRank w Lattice n
  rank_forth n h = record {
    base = map vector h.base;
    size = length-map h.base vector ∙ h.size;
    members = each_of_map vector Lattice h.base (each_map (HasWidth (length base)) (λ c. Lattice (vector c)) h.base (λ c l. in_lattice_at c l) h.members);
    independent = sum.independent_forth w base wide free h.base h.members h.independent;
    all = λ x l.
        let g = (group x).0 l in
        subst (IsInSpan w (map vector h.base)) g.same (sum.sum_forth w base wide free (λ m f. Unit {0}) h.base g.factors h.members (h.all g.factors g.one_each));
  }

  -- ---- the numbers of the stages
  counts_forth : (rank : ℕ) (ordered pulled : List Vector) (pairs : List (ℕ × ℕ)) → map (λ r. in_coordinates base r) ordered ≡ pulled → CountsStages (λ first. IsIrreducible (IsInStage (HasWidth (length base)) first)) rank pulled pairs → CountsStages (λ first. IsIrreducible (IsInStage Lattice first)) rank ordered pairs
  counts_forth rank ordered pulled pairs same h =
      let size : length pulled ≡ length ordered = ap length (sym same) ∙ length-map ordered pull in
      subst (λ (n : ℕ). AllZip (λ k (pair : ℕ × ℕ). (pair.0 ≡ k) × HasNumber (IsIrreducible (IsInStage Lattice (take k ordered))) pair.1) (range_with_len rank (n + 1 - rank)) pairs) size
      (zip_change (λ k (pair : ℕ × ℕ). (pair.0 ≡ k) × HasNumber (IsIrreducible (IsInStage (HasWidth (length base)) (take k pulled))) pair.1) (λ k (pair : ℕ × ℕ). (pair.0 ≡ k) × HasNumber (IsIrreducible (IsInStage Lattice (take k ordered))) pair.1)
      (range_with_len rank (length pulled + 1 - rank)) pairs
      (λ k pair q. (
        q.0,
        number_forth w base (IsInStage Lattice (take k ordered)) (IsInStage (HasWidth (length base)) (map pull (take k ordered))) (stage_in (take k ordered)) pair.1
            (subst (λ (rs : List Vector). HasNumber (IsIrreducible (IsInStage (HasWidth (length base)) rs)) pair.1) (ap (take k) (sym same) ∙ mapped_take pull k ordered) q.1),
      ))
      h)

  -- the stages of the pulled rows are those of the rows
  pub stages_forth : (rows : List Vector) (pairs : List (ℕ × ℕ)) → AreStages (length base) (HasWidth (length base)) (map (λ r. in_coordinates base r) rows) pairs → AreStages w Lattice rows pairs
  stages_forth rows pairs h =
      let o = order_of_pulled rows h.ordered h.in_order in
      record { ordered = o.ordered; rank = h.rank; in_order = o.in_order; has_rank = rank_forth h.rank h.has_rank; counts = counts_forth h.rank o.ordered h.ordered pairs o.same h.counts }
