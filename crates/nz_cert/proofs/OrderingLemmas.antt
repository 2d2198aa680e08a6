-- Lists in order, and differences by values.
use Rattle.std.specs.Bool.{MatchBool}
use Rattle.std.proofs.lemmas.Bool.{cases_eq}
use Rattle.std.proofs.Common.{Bool, true, false, ◌≡◌, ◌≢◌, ◌⊎◌, inl, inr, ℕ, zero, suc, ◌+◌, ◌-◌, ◌<◌, ◌≤◌, List, [], ◌∷◌, length, map, get_or, ℤ, ◌≤ℤ◌, Contains, refl, sym, ap, ◌∙◌, subst, arith}
use Rattle.std.proofs.lemmas.Int.{ints}
use Rattle.std.specs.List.{AllByRecursion as Each}
use Rattle.nz_spec.specs.Vectors.{Vector, dot, minus, values_at, HasWidth, IsNonzero}
use Rattle.nz_spec.specs.Order.{IsLexBefore, Pairwise}
use Rattle.nz_spec.specs.Stages.{IsInStage}
use Rattle.nz_spec.proofs.ListLaws.{each_at, Each-from_contains, Each-contains, Each-weaker, contains_here, contains_there}
use Rattle.nz_spec.proofs.LinearLaws.{length-mapped}
use Rattle.nz_order.specs.Boxes.{IsBelow}
use Rattle.nz_order.proofs.OrderLaws.{lex_irreflexive, lex_transitive}
use Rattle.nz_order.proofs.SortLaws.{Pairwise-neighbours}
use Rattle.nz_further.specs.Certificates.{CertificateData, IsWithoutReducible, last_of}
use Rattle.nz_cert.specs.Monoids.{MonoidData, InLattice, IsMonoid, IsGround, IsHeldBy, HasInside, HasOtherBelow, IsApart}
use Rattle.nz_order.proofs.RowLaws.{stage_minus}

-- the element at an earlier place stands before that at a later one
pub in_order_at : (xs : List Vector) → Pairwise IsLexBefore xs → (j k : ℕ) → j < k → k < length xs → IsLexBefore (get_or xs j []) (get_or xs k [])
in_order_at [] p j k l m = absurd (let f : ⊥ = omega (arith, m) in f)
in_order_at (x ∷ xs) p j zero l m = absurd (let f : ⊥ = omega (arith, l) in f)
in_order_at (x ∷ xs) p zero (suc k) l m = each_at (IsLexBefore x) xs k [] p.0 (omega (arith, m))
in_order_at (x ∷ xs) p (suc j) (suc k) l m = in_order_at xs p.1 j k (omega (arith, l)) (omega (arith, m))

pub different_at : (xs : List Vector) → Pairwise IsLexBefore xs → (j k : ℕ) → j < length xs → k < length xs → j ≢ k → get_or xs j [] ≢ get_or xs k []
different_at xs p j k l m n e = by_lt j k
    (λ (a : j < k). lex_irreflexive (get_or xs k []) (subst (λ (v : Vector). IsLexBefore v (get_or xs k [])) e (in_order_at xs p j k a m)))
    (λ (b : k ≤ j). lex_irreflexive (get_or xs j []) (subst (λ (v : Vector). IsLexBefore v (get_or xs j [])) (sym e) (in_order_at xs p k j (omega (arith, b, n)) l)))
  where
    by_lt : (a b : ℕ) → (a < b → ⊥) → (b ≤ a → ⊥) → ⊥
    by_lt zero zero f g = g (omega arith)
    by_lt zero (suc b) f g = f (omega arith)
    by_lt (suc a) zero f g = g (omega arith)
    by_lt (suc a) (suc b) f g = by_lt a b (λ l. f (omega (arith, l))) (λ l. g (omega (arith, l)))

pub increasing : (list : List Vector) (place : ℕ) → length list ≤ place → ((k : ℕ) → k + 1 < place → IsLexBefore (get_or list k []) (get_or list (k + 1) [])) → Pairwise IsLexBefore list
increasing list place l h = Pairwise-neighbours IsLexBefore lex_transitive list (λ k d m.
    subst (λ (n : ℕ). IsLexBefore (get_or list k d) (get_or list n d)) (let e : k + 1 ≡ suc k = omega arith in e)
    (moved list k d m (h k (omega (arith, l, m)))))
  where
    other : (xs : List Vector) (k : ℕ) (d : Vector) → k < length xs → get_or xs k [] ≡ get_or xs k d
    other [] k d m = absurd (let f : ⊥ = omega (arith, m) in f)
    other (x ∷ xs) zero d m = refl
    other (x ∷ xs) (suc k) d m = other xs k d (omega (arith, m))

    moved : (xs : List Vector) (k : ℕ) (d : Vector) → suc k < length xs → IsLexBefore (get_or xs k []) (get_or xs (k + 1) []) → IsLexBefore (get_or xs k d) (get_or xs (k + 1) d)
    moved xs k d m g = subst (λ (v : Vector). IsLexBefore v (get_or xs (k + 1) d)) (other xs k d (omega (arith, m))) (subst (λ (v : Vector). IsLexBefore (get_or xs k []) v) (other xs (k + 1) d (omega (arith, m))) g)

module _ (m : MonoidData) (is : IsMonoid m) (list : List Vector) (inside : Each (InLattice m) list) (in_order : Pairwise IsLexBefore list) where
  abbrev Stage : Vector → Type 0
  Stage = IsInStage (InLattice m) m.rows

  table_at : (k : ℕ) → k < length list → get_or (map (values_at m.rows) list) k [] ≡ values_at m.rows (get_or list k [])
  table_at k l = go list k l
    where
      go : (xs : List Vector) (j : ℕ) → j < length xs → get_or (map (values_at m.rows) xs) j [] ≡ values_at m.rows (get_or xs j [])
      go [] j n = absurd (let f : ⊥ = omega (arith, n) in f)
      go (x ∷ xs) zero n = refl
      go (x ∷ xs) (suc j) n = go xs j (omega (arith, n))

  size : length (map (values_at m.rows) list) ≡ length list
  size = length-mapped (values_at m.rows) list

  at_most_of : (fs : List Vector) (u v : Vector) → IsBelow (values_at fs v) (values_at fs u) → Each (λ r. dot r v ≤ℤ dot r u) fs
  at_most_of [] u v b = tt
  at_most_of (f ∷ fs) u v b = (b.0, at_most_of fs u v b.1)

  below_of : (fs : List Vector) (u v : Vector) → Each (λ r. dot r v ≤ℤ dot r u) fs → IsBelow (values_at fs v) (values_at fs u)
  below_of [] u v b = tt
  below_of (f ∷ fs) u v b = (b.0, below_of fs u v b.1)

  -- no differences, where no values are at most others
  pub apart_forth : IsApart (map (values_at m.rows) list) → Each (λ u. Each (λ v. u ≢ v → ¬ Stage (minus u v)) list) list
  apart_forth a = Each-from_contains (λ u. Each (λ v. u ≢ v → ¬ Stage (minus u v)) list) list (λ u cu. Each-from_contains (λ v. u ≢ v → ¬ Stage (minus u v)) list (λ v cv n s. clash u cu v cv n s))
    where
      other : (xs : List Vector) (k : ℕ) (x : Vector) → k < length xs → get_or xs k x ≡ x → get_or xs k [] ≡ x
      other [] k x l e = absurd (let f : ⊥ = omega (arith, l) in f)
      other (y ∷ xs) zero x l e = e
      other (y ∷ xs) (suc k) x l e = other xs k x (omega (arith, l)) e

      clash : (u : Vector) → Contains list u → (v : Vector) → Contains list v → u ≢ v → Stage (minus u v) → ⊥
      clash u (i, li, ei) v (j, lj, ej) n s =
          let hu = Each-contains (InLattice m) list u inside (i, li, ei) in
          let hv = Each-contains (InLattice m) list v inside (j, lj, ej) in
          let below = below_of m.rows u v ((stage_minus m.width (InLattice m) is.lattice m.rows u v hu hv).0 s) in
          let oi = other list i u li ei in
          let oj = other list j v lj ej in
          let at = subst (λ (x : Vector). IsBelow x (get_or (map (values_at m.rows) list) i [])) (ap (values_at m.rows) (sym oj) ∙ sym (table_at j lj)) (subst (λ (x : Vector). IsBelow (values_at m.rows v) x) (ap (values_at m.rows) (sym oi) ∙ sym (table_at i li)) below) in
          a i (let z = size in omega (arith, li, z)) (j, (let z = size in omega (arith, lj, z)), (λ e. n (sym oi ∙ ap (λ (k : ℕ). get_or list k []) (sym e) ∙ oj)), at)

  pub apart_back : Each (λ u. Each (λ v. u ≢ v → ¬ Stage (minus u v)) list) list → IsApart (map (values_at m.rows) list)
  apart_back h place l (k, lk, n, b) =
      let lp : place < length list = (let s = size in omega (arith, l, s)) in
      let lj : k < length list = (let s = size in omega (arith, lk, s)) in
      let u = get_or list place [] in
      let v = get_or list k [] in
      let below = subst (λ (x : Vector). IsBelow x (values_at m.rows u)) (table_at k lj) (subst (λ (x : Vector). IsBelow (get_or (map (values_at m.rows) list) k []) x) (table_at place lp) b) in
      let s = (stage_minus m.width (InLattice m) is.lattice m.rows u v (each_at (InLattice m) list place [] inside lp) (each_at (InLattice m) list k [] inside lj)).1 (at_most_of m.rows u v below) in
      each_at (λ x. u ≢ x → ¬ Stage (minus u x)) list k [] (each_at (λ x. Each (λ y. x ≢ y → ¬ Stage (minus x y)) list) list place [] h lp) lj (different_at list in_order place k lp lj (λ e. n (sym e))) s

-- the answer on both
pub end_without : (m : MonoidData) (is : IsMonoid m) (list table : List Vector) → Each (InLattice m) list → Pairwise IsLexBefore list → table ≡ map (values_at m.rows) list → (yes : Bool) → MatchBool yes (IsApart table) (¬ IsApart table)
    → MatchBool yes (IsWithoutReducible (IsInStage (InLattice m) m.rows) list) (¬ IsWithoutReducible (IsInStage (InLattice m) m.rows) list)
end_without m is list table inside order e true a = record { in_order = order; no_difference = apart_forth m is list inside order (subst IsApart e a) }
end_without m is list table inside order e false a = λ h. a (subst IsApart (sym e) (apart_back m is list inside order h.no_difference))

pub each_in_last : (P : Vector → Type 0) (first : List Vector) (lists : List (List Vector)) → Each P first → Each (Each P) lists → Each P (last_of first lists)
each_in_last P first [] h k = h
each_in_last P first (list ∷ lists) h k = each_in_last P list lists k.0 k.1

pub last_at : (first : List Vector) (lists : List (List Vector)) (k : ℕ) → length lists ≡ suc k → last_of first lists ≡ get_or lists k []
last_at first [] k l = absurd (let f : ⊥ = omega (arith, l) in f)
last_at first (list ∷ []) zero l = refl
last_at first (list ∷ []) (suc k) l = absurd (let f : ⊥ = omega (arith, l) in f)
last_at first (list ∷ (more ∷ lists)) zero l = absurd (let f : ⊥ = omega (arith, l) in f)
last_at first (list ∷ (more ∷ lists)) (suc k) l = last_at list (more ∷ lists) k (omega (arith, l))

last_held : (first : List Vector) (lists : List (List Vector)) (v : Vector) → Contains (last_of first lists) v → Contains first v ⊎ HasInside lists v
last_held first [] v h = inl h
last_held first (list ∷ lists) v h = elim (last_held list lists v h) [
  | inl k ↦ inr (list, contains_here list lists, k)
  | inr k ↦ inr (k.0, contains_there list k.0 lists k.1, k.2)
]

pub held_in_last : (c : CertificateData) (v : Vector) → Contains (last_of c.first c.above) v → IsHeldBy c v
held_in_last c v h = elim (last_held c.first c.above v h) [ inl k ↦ inr (inr (inl k)) | inr k ↦ inr (inr (inr (inl k))) ]

pub in_last : (m : MonoidData) (c : CertificateData) (first : List Vector) → IsGround m c first → Each (InLattice m) (last_of c.first c.above)
in_last m c first g = Each-weaker (λ v. InLattice m v × IsNonzero v) (InLattice m) (λ v k. k.0) (last_of c.first c.above) (each_in_last (λ v. InLattice m v × IsNonzero v) c.first c.above g.inside.first g.inside.above)

pub fit_in_last : (m : MonoidData) (is : IsMonoid m) (list : List Vector) → Each (InLattice m) list → Each (λ v. Each (HasWidth (length v)) m.rows) list
fit_in_last m is list h = Each-weaker (InLattice m) (λ v. Each (HasWidth (length v)) m.rows) (λ v k. subst (λ (n : ℕ). Each (HasWidth n) m.rows) (sym k.0) is.rows) list h

pub not_at : (list : List Vector) (u v : Vector) (k : ℕ) → 1 ≤ k → k < length list → u ≡ get_or list (k - 1) [] → v ≡ get_or list k [] → ¬ IsLexBefore u v → ¬ Pairwise IsLexBefore list
not_at list u v k s l a b n p = n (subst (λ (x : Vector). IsLexBefore x v) (sym a) (subst (λ (x : Vector). IsLexBefore (get_or list (k - 1) []) x) (sym b) (in_order_at list p (k - 1) k (omega (arith, s)) l)))

pub apart_end : (table : List Vector) (place : ℕ) → length table ≤ place → ((k : ℕ) → k < place → ¬ HasOtherBelow table k) → IsApart table
apart_end table place l h k m = h k (omega (arith, l, m))

pub apart_more : (table : List Vector) (place : ℕ) → ((k : ℕ) → k < place → ¬ HasOtherBelow table k) → ¬ HasOtherBelow table place → (k : ℕ) → k < place + 1 → ¬ HasOtherBelow table k
apart_more table place h n k l = elim (cases_eq k place) [ inl e ↦ subst (λ (j : ℕ). ¬ HasOtherBelow table j) (sym e) n | inr d ↦ h k (omega (arith, l, d)) ]

pub not_before_equal : (a : ℤ) (u v : Vector) → a ∷ u ≡ a ∷ v → ¬ IsLexBefore u v
not_before_equal a u v e b = lex_irreflexive v (subst (λ (x : Vector). IsLexBefore x v) (let f : u ≡ v = cc in f) b)

pub not_before_greater : (a : ℤ) (u v : Vector) → IsLexBefore (a ∷ v) (a ∷ u) → ¬ IsLexBefore u v
not_before_greater a u v (inl l) b = omega (arith, ints, l)
not_before_greater a u v (inr h) b = lex_irreflexive u (lex_transitive u v u b h.1)
