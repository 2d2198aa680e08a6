-- The stage lists of a system are unique.
use Rattle.std.proofs.Common.{◌≡◌, ℕ, ◌+◌, ◌-◌, inl, inr, List, [], ◌∷◌, ◌++◌, length, take, Contains, refl, sym, ap, ap₂, ◌∙◌, subst, arith}
use Rattle.std.specs.List.{AllByRecursion as Each, AllZip, range_with_len}
use Rattle.nz_spec.specs.Vectors.{Vector, HasWidth}
use Rattle.nz_spec.specs.Order.{HasNumber, StandsBefore}
use Rattle.nz_spec.specs.Forms.{IsSupportForm}
use Rattle.nz_spec.specs.Systems.{System, IsSystem, IsMember}
use Rattle.nz_spec.specs.Monoids.{IsIrreducible, IsExtreme}
use Rattle.nz_spec.specs.Stages.{IsInLattice, IsInStage, IsFreshRow, IsFreshVector, Separates, none, fresh, other, IsIndependentFirst, CountsStages, AreStages, ArePlacings, AreDualStages, ArePrimalStages, AreTold}
use Rattle.nz_spec.proofs.ListLaws.{IsListOf-unique, StandsBefore-asymmetric, Each-weaker, Each-contains, different_within}
use Rattle.nz_spec.proofs.LinearLaws.{HasRank-unique}
use Rattle.nz_spec.proofs.UniqueLaws.{AreEquationsOf-unique, AreRowsOf-unique}

-- a set has one number
pub HasNumber-unique : (P : Vector → Type 0) (m n : ℕ) → HasNumber P m → HasNumber P n → m ≡ n
HasNumber-unique P m n p q =
    let h = different_within p.list q.list p.lists.in_order (Each-weaker P (Contains q.list) q.lists.each p.list p.lists.only) in
    let k = different_within q.list p.list q.lists.in_order (Each-weaker P (Contains p.list) p.lists.each q.list q.lists.only) in
    let s = p.size in
    let t = q.size in
    omega (arith, h, k, s, t)

separated_once : {Fresh : List Vector → Vector → Type 0} {earlier vs a b : List Vector} → Separates Fresh earlier vs a b → (c d : List Vector) → Separates Fresh earlier vs c d → (a ≡ c) × (b ≡ d)
separated_once none c d none = (refl, refl)
separated_once (fresh {v = v} f s) c d (fresh g t) = let r = separated_once s _ _ t in (ap (λ xs. v ∷ xs) r.0, r.1)
separated_once (fresh f s) c d (other n t) = absurd (n f)
separated_once (other n s) c d (fresh g t) = absurd (n g)
separated_once (other {v = v} n s) c d (other m t) = let r = separated_once s _ _ t in (r.0, ap (λ xs. v ∷ xs) r.1)

IsIndependentFirst-unique : (Fresh : List Vector → Vector → Type 0) (vs a b : List Vector) → IsIndependentFirst Fresh vs a → IsIndependentFirst Fresh vs b → a ≡ b
IsIndependentFirst-unique Fresh vs a b p q =
    let r = separated_once p.separates q.first q.others q.separates in
    p.whole ∙ ap₂ (λ xs ys. xs ++ ys) r.0 r.1 ∙ sym q.whole

counts_once : (P : List Vector → Vector → Type 0) (list : List Vector) (ks : List ℕ) (xs ys : List (ℕ × ℕ)) → AllZip (λ k pair. (pair.0 ≡ k) × HasNumber (P (take k list)) pair.1) ks xs → AllZip (λ k pair. (pair.0 ≡ k) × HasNumber (P (take k list)) pair.1) ks ys → xs ≡ ys
counts_once P list [] [] [] p q = refl
counts_once P list [] [] (y ∷ ys) p q = absurd q
counts_once P list [] (x ∷ xs) ys p q = absurd p
counts_once P list (k ∷ ks) [] ys p q = absurd p
counts_once P list (k ∷ ks) (x ∷ xs) [] p q = absurd q
counts_once P list (k ∷ ks) ((i, m) ∷ xs) ((j, n) ∷ ys) p q =
    let e : i ≡ j = p.0.0 ∙ sym q.0.0 in
    let f = HasNumber-unique (P (take k list)) m n p.0.1 q.0.1 in
    let r = counts_once P list ks xs ys p.1 q.1 in cc

CountsStages-unique : (P : List Vector → Vector → Type 0) (start start' : ℕ) (list list' : List Vector) (xs ys : List (ℕ × ℕ)) → start' ≡ start → list' ≡ list → CountsStages P start list xs → CountsStages P start' list' ys → xs ≡ ys
CountsStages-unique P start start' list list' xs ys e f p q =
    counts_once P list (range_with_len start (length list + 1 - start)) xs ys p
    (subst (λ (ls : List Vector). CountsStages P start ls ys) f (subst (λ (n : ℕ). CountsStages P n list' ys) e q))

pub AreStages-unique : (w : ℕ) (Lattice : Vector → Type 0) → ((x : Vector) → Lattice x → HasWidth w x) → (rows : List Vector) (xs ys : List (ℕ × ℕ)) → AreStages w Lattice rows xs → AreStages w Lattice rows ys → xs ≡ ys
AreStages-unique w Lattice wide rows xs ys p q =
    CountsStages-unique (λ first. IsIrreducible (IsInStage Lattice first)) p.rank q.rank p.ordered q.ordered xs ys
    (HasRank-unique w Lattice q.rank p.rank wide q.has_rank p.has_rank)
    (IsIndependentFirst-unique (IsFreshRow Lattice) rows q.ordered p.ordered q.in_order p.in_order) p.counts q.counts

pub ArePlacings-unique : (w : ℕ) (vs : List Vector) (xs ys : List (ℕ × ℕ)) → Each (HasWidth w) vs → ArePlacings w vs xs → ArePlacings w vs ys → xs ≡ ys
ArePlacings-unique w [] xs ys wide p q = p ∙ sym q
ArePlacings-unique w (v ∷ vs) xs ys wide p q =
    CountsStages-unique (IsSupportForm w) p.rank q.rank p.ordered q.ordered xs ys
    (HasRank-unique w (Contains (v ∷ vs)) q.rank p.rank (λ x c. Each-contains (HasWidth w) (v ∷ vs) x wide c) q.has_rank p.has_rank)
    (IsIndependentFirst-unique (IsFreshVector w) (v ∷ vs) q.ordered p.ordered q.in_order p.in_order) p.counts q.counts

pub AreDualStages-unique : (s : System) → IsSystem s → (xs ys : List (ℕ × ℕ)) → AreDualStages s xs → AreDualStages s ys → xs ≡ ys
AreDualStages-unique s is xs ys p q =
    let e = AreEquationsOf-unique s is q.equations p.equations q.are_equations p.are_equations in
    let r = AreRowsOf-unique s q.rows p.rows q.are_rows p.are_rows in
    AreStages-unique s.width (IsInLattice s p.equations) (λ x h. h.width) p.rows xs ys p.stages
    (subst (λ (rs : List Vector). AreStages s.width (IsInLattice s p.equations) rs ys) r
    (subst (λ (es : List Vector). AreStages s.width (IsInLattice s es) q.rows ys) e q.stages))

pub ArePrimalStages-unique : (s : System) (xs ys : List (ℕ × ℕ)) → ArePrimalStages s xs → ArePrimalStages s ys → xs ≡ ys
ArePrimalStages-unique s xs ys p q =
    let e = IsListOf-unique (StandsBefore s.grading) (StandsBefore-asymmetric s.grading) (IsExtreme (IsMember s)) q.extreme p.extreme q.are_extreme p.are_extreme in
    ArePlacings-unique s.width p.extreme xs ys
    (Each-weaker (IsExtreme (IsMember s)) (HasWidth s.width) (λ x h. h.irreducible.member.width) p.extreme p.are_extreme.only)
    p.placings (subst (λ (vs : List Vector). ArePlacings s.width vs ys) e q.placings)

-- the stages that a watch is told are unique where the stages are
pub AreTold-unique : (Stages : System → List (ℕ × ℕ) → Type 0) (s : System) → ((xs ys : List (ℕ × ℕ)) → Stages s xs → Stages s ys → xs ≡ ys) → (xs ys : List (ℕ × ℕ)) → AreTold Stages s xs → AreTold Stages s ys → xs ≡ ys
AreTold-unique Stages s h xs ys (inl p) (inl q) = p.2 ∙ sym q.2
AreTold-unique Stages s h xs ys (inl p) (inr q) = absurd (q.0 p.0 p.1)
AreTold-unique Stages s h xs ys (inr p) (inl q) = absurd (p.0 q.0 q.1)
AreTold-unique Stages s h xs ys (inr p) (inr q) = h xs ys p.1 q.1
