-- Candidates generate: each member is a sum of vectors of the cover and of members in the boxes of its simplices.
use Rattle.std.proofs.Common.{◌≡◌, ◌↔◌, ℕ, suc, ◌/◌, ◌%◌, ◌<◌, inl, inr, List, [], ◌∷◌, length, map, ℤ, pos, negsuc, ◌+ℤ◌, ◌*ℤ◌, ◌≤ℤ◌, ◌<ℤ◌, Contains, refl, sym, ap, ◌∙◌, subst, arith}
use Rattle.std.proofs.lemmas.Int.{ints}
use Rattle.std.proofs.Math.IntN.{pos-*ℤ-pos, *ℤ_comm}
use Rattle.std.proofs.Math.Nat.{mod-lt}
use Rattle.std.proofs.lemmas.Nat.{div-add-mod'}
use Rattle.std.proofs.lemmas.List.Elements.{Contains-get_or}
use Rattle.std.specs.List.{AllByRecursion as Each}
use Rattle.nz_spec.specs.Vectors.{Vector, dot, plus, minus, scaled, zero_vector, combination, HasWidth, IsNonzero}
use Rattle.nz_spec.specs.Sums.{IsInCone, IsInBox}
use Rattle.nz_spec.specs.Covers.{vectors_at, IsSimplex, IsGoodCover}
use Rattle.nz_spec.specs.Monoids.{IsPositive, IsIrreducible}
use Rattle.nz_spec.specs.Stages.{IsInStage}
use Rattle.nz_spec.proofs.IntLaws.{mul-sub}
use Rattle.nz_spec.proofs.VectorLaws.{length-scaled, minus-plus, plus-minus, plus_comm, zero_or_not, zero_vector_of}
use Rattle.nz_spec.proofs.SumLaws.{combination-plus, combination-scaled, length-combination, IsInCone-box}
use Rattle.nz_spec.proofs.ConstraintLaws.{nonneg_on_cone}
use Rattle.nz_spec.proofs.ListLaws.{Each-weaker, Each-contains}
use Rattle.nz_order.specs.Lattices.{IsLattice}
use Rattle.nz_order.specs.Totals.{IsTotalOf}
use Rattle.nz_order.specs.Candidates.{IsCandidate}
use Rattle.nz_order.proofs.TotalLaws.{IsTotalOf-zero, IsTotalOf-one, IsTotalOf-plus, IsTotalOf-weaker, IsTotalOf-member, IsTotalOf-counts}
use Rattle.nz_order.specs.Reduction.{Reduces}
use Rattle.nz_order.proofs.IrreducibleLaws.{irreducible_listed}
use Rattle.nz_order.proofs.RowLaws.{stage_wide, stage_closed, stage_zero}

-- factors as whole parts and parts below k
pub record IsSplit (k : ℤ) (factors : List ℤ) : Type 0 where
  pub counts : List ℕ
  pub rests : List ℤ
  pub counts_length : length counts ≡ length factors
  pub rests_length : length rests ≡ length factors
  pub each : Each (λ c. (pos 0 ≤ℤ c) × (c <ℤ k)) rests
  pub same : plus (scaled k (map pos counts)) rests ≡ factors

divided : (k c : ℤ) → pos 1 ≤ℤ k → pos 0 ≤ℤ c → (q r : ℕ) × (pos r <ℤ k) × (k *ℤ pos q +ℤ pos r ≡ c)
divided (negsuc k) c h p = absurd (let f : ⊥ = omega (arith, ints, h) in f)
divided (pos k) (negsuc c) h p = absurd (let f : ⊥ = omega (arith, ints, p) in f)
divided (pos k) (pos c) h p =
    let one : 0 < k = omega (arith, ints, h) in
    let e = div-add-mod' c k in
    let m = pos-*ℤ-pos (c / k) k in
    let t = *ℤ_comm (pos k) (pos (c / k)) in
    let l = mod-lt c one in
    (c / k, c % k, omega (arith, ints, l), omega (arith, ints, e, m, t))

split_factors : (k : ℤ) (cs : List ℤ) → pos 1 ≤ℤ k → Each (λ c. pos 0 ≤ℤ c) cs → IsSplit k cs
split_factors k [] h p = record { counts = []; rests = []; counts_length = refl; rests_length = refl; each = tt; same = refl }
split_factors k (c ∷ cs) h p =
    let d = divided k c h p.0 in
    let s = split_factors k cs h p.1 in
    let e = d.3 in
    let f = s.same in
    record {
      counts = d.0 ∷ s.counts;
      rests = pos d.1 ∷ s.rests;
      counts_length = ap suc s.counts_length;
      rests_length = ap suc s.rests_length;
      each = ((omega (arith, ints), d.2), s.each);
      same = cc;
    }

scaled-minus : (k : ℤ) (x y : Vector) → scaled k (minus x y) ≡ minus (scaled k x) (scaled k y)
scaled-minus k [] y = refl
scaled-minus k (a ∷ x) [] = refl
scaled-minus k (a ∷ x) (b ∷ y) =
    let h = mul-sub k a b in
    let t = scaled-minus k x y in cc

-- a vector of the cone of vs is a sum of vs with counts, and a vector of its box
pub record IsCountsAndBox (w : ℕ) (vs : List Vector) (x : Vector) : Type 0 where
  pub counts : List ℕ
  pub point : Vector
  pub one_each : length counts ≡ length vs
  pub in_box : IsInBox w vs point
  pub left : minus x (combination w (map pos counts) vs) ≡ point
  pub same : plus (combination w (map pos counts) vs) point ≡ x

length-map : (ns : List ℕ) → length (map pos ns) ≡ length ns
length-map [] = refl
length-map (n ∷ ns) = ap suc (length-map ns)

pub cone_split : (w : ℕ) (vs : List Vector) → Each (HasWidth w) vs → (x : Vector) → HasWidth w x → IsInCone w vs x → IsCountsAndBox w vs x
cone_split w vs wide x l i =
    let k = i.multiple in
    let s = split_factors k i.factors i.positive i.each in
    let ks = map pos s.counts in
    let c = combination w ks vs in
    let r = combination w s.rests vs in
    let wc = length-combination w ks vs wide in
    let wr = length-combination w s.rests vs wide in
    let lx : length x ≡ length c = l ∙ sym wc in
    let lengths : length (scaled k ks) ≡ length s.rests = length-scaled k ks ∙ length-map s.counts ∙ s.counts_length ∙ sym s.rests_length in
    let e : scaled k x ≡ plus (scaled k c) r =
    sym i.same ∙ ap (λ fs. combination w fs vs) (sym s.same) ∙ combination-plus w (scaled k ks) s.rests vs lengths ∙ ap (λ v. plus v r) (combination-scaled w k ks vs) in
    let f : r ≡ scaled k (minus x c) =
    sym (scaled-minus k x c ∙ ap (λ v. minus v (scaled k c)) (e ∙ plus_comm (scaled k c) r) ∙ minus-plus r (scaled k c) (wr ∙ sym wc ∙ sym (length-scaled k c))) in
    record {
      counts = s.counts;
      point = minus x c;
      one_each = s.counts_length ∙ i.one_each;
      in_box = record { multiple = k; factors = s.rests; positive = i.positive; one_each = s.rests_length ∙ i.one_each; each = s.each; same = f };
      left = refl;
      same = plus-minus x c lx;
    }

vectors_listed : (X : List Vector) (places : List ℕ) → Each (λ p. p < length X) places → Each (Contains X) (vectors_at X places)
vectors_listed X [] h = tt
vectors_listed X (p ∷ places) h = (Contains-get_or X p [] h.0, vectors_listed X places h.1)

rows_on : (rows : List Vector) (w : ℕ) (vs : List Vector) (x : Vector) → Each (HasWidth w) vs → Each (λ v. Each (λ r. pos 0 ≤ℤ dot r v) rows) vs → IsInCone w vs x → Each (λ r. pos 0 ≤ℤ dot r x) rows
rows_on [] w vs x wide h i = tt
rows_on (r ∷ rows) w vs x wide h i = (
  nonneg_on_cone r w vs x wide (Each-weaker (λ v. Each (λ s. pos 0 ≤ℤ dot s v) (r ∷ rows)) (λ v. pos 0 ≤ℤ dot r v) (λ v k. k.0) vs h) i,
  rows_on rows w vs x wide (Each-weaker (λ v. Each (λ s. pos 0 ≤ℤ dot s v) (r ∷ rows)) (λ v. Each (λ s. pos 0 ≤ℤ dot s v) rows) (λ v k. k.1) vs h) i,
)

-- where the rows give a stage and the cover is a good one of it, each member is a sum of candidates
pub candidates_generate : (w : ℕ) (Lattice : Vector → Type 0) → IsLattice w Lattice → (rows X : List Vector) (cover : List (List ℕ)) → Each (IsInStage Lattice rows) X → IsGoodCover w (IsInStage Lattice rows) X cover → (x : Vector) → IsInStage Lattice rows x → IsTotalOf w (IsCandidate w (IsInStage Lattice rows) X cover) x
candidates_generate w Lattice lattice rows X cover members good x m = elim (zero_or_not x) [
  | inl z ↦ subst (IsTotalOf w (IsCandidate w Member X cover)) (sym (zero_vector_of x z ∙ ap zero_vector (lattice.wide x m.in_lattice))) (IsTotalOf-zero w (IsCandidate w Member X cover))
  | inr n ↦ (let h = good.covers x m n in split h.0 h.1 h.2)
]
  where
    Member : Vector → Type 0
    Member = IsInStage Lattice rows

    split : (places : List ℕ) → Contains cover places → IsInCone w (vectors_at X places) x → IsTotalOf w (IsCandidate w (IsInStage Lattice rows) X cover) x
    split places c i =
        let vs = vectors_at X places in
        let M = IsInStage Lattice rows in
        let P = IsCandidate w M X cover in
        let simplex = Each-contains (IsSimplex w X) cover places good.simplices c in
        let listed : Each (Contains X) vs = vectors_listed X places simplex.within in
        let all : Each M vs = Each-weaker (Contains X) M (λ v k. Each-contains M X v members k) vs listed in
        let wide : Each (HasWidth w) vs = Each-weaker M (HasWidth w) (stage_wide w Lattice lattice rows) vs all in
        let lx = lattice.wide x m.in_lattice in
        let s = cone_split w vs wide x lx i in
        let sum = combination w (map pos s.counts) vs in
        let t : IsTotalOf w (Contains X) sum = IsTotalOf-weaker w (Contains vs) (Contains X) (λ v k. Each-contains (Contains X) vs v listed k) sum (IsTotalOf-counts w vs s.counts wide) in
        let ms : M sum = IsTotalOf-member w (Contains X) M (stage_closed w Lattice lattice rows) (stage_zero w Lattice lattice rows) (λ v k. Each-contains M X v members k) sum t in
        let mp : M s.point = record {
          in_lattice = subst Lattice s.left (lattice.differences x sum m.in_lattice ms.in_lattice);
          at_least = rows_on rows w vs s.point wide (Each-weaker M (λ v. Each (λ r. pos 0 ≤ℤ dot r v) rows) (λ v k. k.at_least) vs all) (IsInCone-box w vs s.point s.in_box);
        } in
        let p : P s.point = inr (record { member = mp; places = places; of_cover = c; in_box = s.in_box }) in
        let widths : (v : Vector) → P v → HasWidth w v = λ v q. elim q [
          | inl k ↦ stage_wide w Lattice lattice rows v (Each-contains M X v members k)
          | inr b ↦ stage_wide w Lattice lattice rows v b.member
        ] in
        subst (IsTotalOf w P) s.same
        (IsTotalOf-plus w P widths sum s.point (IsTotalOf-weaker w (Contains X) P (λ v k. inl k) sum t)
        (IsTotalOf-one w P s.point (lattice.wide s.point mp.in_lattice) p))

-- so the irreducibles are the nonzero vectors of a list with all candidates that no other of the list reduces
pub candidates_suffice : (w : ℕ) (Lattice : Vector → Type 0) → IsLattice w Lattice → (rows X : List Vector) (cover : List (List ℕ)) → IsPositive (IsInStage Lattice rows) → Each (IsInStage Lattice rows) X → IsGoodCover w (IsInStage Lattice rows) X cover → (K : List Vector) → Each (IsInStage Lattice rows) K → ((v : Vector) → IsCandidate w (IsInStage Lattice rows) X cover v → Contains K v) → (u : Vector) → IsIrreducible (IsInStage Lattice rows) u ↔ (Contains K u × IsNonzero u × Each (λ v. ¬ Reduces (IsInStage Lattice rows) v u) K)
candidates_suffice w Lattice lattice rows X cover positive members good K all each u =
    irreducible_listed (IsInStage Lattice rows) (stage_closed w Lattice lattice rows) w (stage_wide w Lattice lattice rows) (stage_zero w Lattice lattice rows) positive K all
    (λ x m. IsTotalOf-weaker w (IsCandidate w (IsInStage Lattice rows) X cover) (Contains K) each x (candidates_generate w Lattice lattice rows X cover members good x m)) u
