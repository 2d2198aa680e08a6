-- The unit vectors as a list: all are different, each is a fresh row after those before it, and from the last to the first they increase.
use Rattle.std.proofs.Common.{◌≡◌, ◌≢◌, inl, inr, ℕ, zero, suc, List, [], ◌∷◌, ◌++◌, map, ℤ, pos, Contains, subst, ap, sym, refl, ◌∙◌, arith}
use Rattle.std.proofs.lemmas.Int.{ints}
use Rattle.std.proofs.lemmas.List.Elements.{Contains-append_left, Contains-append_right}
use Rattle.std.specs.List.{AllByRecursion as Each}
use Rattle.nz_spec.specs.Vectors.{Vector, dot, zero_vector, unit_vectors, HasWidth}
use Rattle.nz_spec.specs.Order.{Pairwise, IsLexBefore}
use Rattle.nz_spec.specs.Stages.{IsFreshRow, Separates, none, fresh, other}
use Rattle.nz_spec.proofs.ListLaws.{contains_here, Each-weaker}
use Rattle.nz_spec.proofs.VectorLaws.{IsZero-zero_vector}
use Rattle.nz_linear.proofs.Lists.{each_of_map, each_append}
use Rattle.nz_order.proofs.SortLaws.{Pairwise-append}
use Rattle.nz_worked.proofs.Units.{contains_mapped, IsUnit, here, there, each_unit, unit_wide, unit_nonzero, unit_at_self, unit_apart}

-- ---- all are different
pairwise_shifted : (R : Vector → Vector → Type 0) (us : List Vector) → ((u v : Vector) → R u v → R (pos 0 ∷ u) (pos 0 ∷ v)) → Pairwise R us → Pairwise R (map (λ u. pos 0 ∷ u) us)
pairwise_shifted R [] f p = tt
pairwise_shifted R (u ∷ us) f p = (each_of_map (λ (v : Vector). pos 0 ∷ v) (R (pos 0 ∷ u)) us (Each-weaker (R u) (λ v. R (pos 0 ∷ u) (pos 0 ∷ v)) (f u) us p.0), pairwise_shifted R us f p.1)

tail_same : (a b : ℤ) (x y : Vector) → a ∷ x ≡ b ∷ y → x ≡ y
tail_same a b x y e = cc

head_same : (a b : ℤ) (x y : Vector) → a ∷ x ≡ b ∷ y → a ≡ b
head_same a b x y e = cc

one_not_zero : pos 1 ≢ pos 0
one_not_zero e = omega (arith, ints, e)

pub units_different : (w : ℕ) → Pairwise ◌≢◌ (unit_vectors w)
units_different zero = tt
units_different (suc w) = (
  each_of_map (λ (u : Vector). pos 0 ∷ u) (λ v. (pos 1 ∷ zero_vector w) ≢ v) (unit_vectors w) (Each-weaker (IsUnit w) (λ u. (pos 1 ∷ zero_vector w) ≢ pos 0 ∷ u) (λ u i e. one_not_zero (head_same (pos 1) (pos 0) (zero_vector w) u e)) (unit_vectors w) (each_unit w)),
  pairwise_shifted ◌≢◌ (unit_vectors w) (λ u v n e. n (tail_same (pos 0) (pos 0) u v e)) (units_different w),
)

pub zero_different : (w : ℕ) → Each (λ u. zero_vector w ≢ u) (unit_vectors w)
zero_different w = Each-weaker (IsUnit w) (λ u. zero_vector w ≢ u) (λ u i e. unit_nonzero w u i (subst (Each (λ a. a ≡ pos 0)) e (IsZero-zero_vector w))) (unit_vectors w) (each_unit w)

-- ---- fresh rows
module _ (w : ℕ) (Lattice : Vector → Type 0) (into : (x : Vector) → HasWidth w x → Lattice x) where
  unit_fresh : (earlier : List Vector) (v : Vector) → IsUnit w v → Each (IsUnit w) earlier → Each (λ r. r ≢ v) earlier → IsFreshRow Lattice earlier v
  unit_fresh earlier v i units apart = record {
    vector = v;
    in_lattice = into v (unit_wide w v i);
    zero_at = zeros earlier units apart;
    nonzero_at = λ e. one_not_zero (sym (unit_at_self w v i) ∙ e);
  }
    where
      zeros : (rs : List Vector) → Each (IsUnit w) rs → Each (λ r. r ≢ v) rs → Each (λ r. dot r v ≡ pos 0) rs
      zeros [] units apart = tt
      zeros (r ∷ rs) units apart = (elim (unit_apart w r v units.0 i) [ inl z ↦ z | inr e ↦ absurd (apart.0 e) ], zeros rs units.1 apart.1)

  -- the vectors are apart from those before them, and from one another
  next_apart : (earlier vs : List Vector) (v : Vector) → Each (λ r. Each (λ y. r ≢ y) (v ∷ vs)) earlier → Pairwise ◌≢◌ (v ∷ vs) → Each (λ r. Each (λ y. r ≢ y) vs) (v ∷ earlier)
  next_apart earlier vs v a d = (d.0, Each-weaker (λ r. Each (λ y. r ≢ y) (v ∷ vs)) (λ r. Each (λ y. r ≢ y) vs) (λ r e. e.1) earlier a)

  now_apart : (earlier vs : List Vector) (v : Vector) → Each (λ r. Each (λ y. r ≢ y) (v ∷ vs)) earlier → Each (λ r. r ≢ v) earlier
  now_apart earlier vs v a = Each-weaker (λ r. Each (λ y. r ≢ y) (v ∷ vs)) (λ r. r ≢ v) (λ r e. e.0) earlier a

  all_fresh : (earlier vs : List Vector) → Each (IsUnit w) earlier → Each (IsUnit w) vs → Each (λ r. Each (λ y. r ≢ y) vs) earlier → Pairwise ◌≢◌ vs → Separates (IsFreshRow Lattice) earlier vs vs []
  all_fresh earlier [] e u a d = none
  all_fresh earlier (v ∷ vs) e u a d = fresh (unit_fresh earlier v u.0 e (now_apart earlier vs v a)) (all_fresh (v ∷ earlier) vs (u.0, e) u.1 (next_apart earlier vs v a d) d.1)

  only_fresh : (earlier vs fs os : List Vector) → Each (IsUnit w) earlier → Each (IsUnit w) vs → Each (λ r. Each (λ y. r ≢ y) vs) earlier → Pairwise ◌≢◌ vs → Separates (IsFreshRow Lattice) earlier vs fs os → fs ++ os ≡ vs
  only_fresh earlier [] fs os e u a d none = refl
  only_fresh earlier (v ∷ vs) fs os e u a d (fresh {first = gs} n s) = ap (λ (t : List Vector). v ∷ t) (only_fresh (v ∷ earlier) vs gs os (u.0, e) u.1 (next_apart earlier vs v a d) d.1 s)
  only_fresh earlier (v ∷ vs) fs os e u a d (other n s) = absurd (n (unit_fresh earlier v u.0 e (now_apart earlier vs v a)))

  -- all unit forms are fresh rows, so they stay in their order
  pub units_separate : Separates (IsFreshRow Lattice) [] (unit_vectors w) (unit_vectors w) []
  units_separate = all_fresh [] (unit_vectors w) tt (each_unit w) tt (units_different w)

  pub separate_units : (fs os : List Vector) → Separates (IsFreshRow Lattice) [] (unit_vectors w) fs os → fs ++ os ≡ unit_vectors w
  separate_units fs os s = only_fresh [] (unit_vectors w) fs os tt (each_unit w) tt (units_different w) s

-- ---- in increasing order
abbrev pub rising_units : ℕ → List Vector
rising_units zero = []
rising_units (suc w) = map (λ u. pos 0 ∷ u) (rising_units w) ++ (pos 1 ∷ zero_vector w) ∷ []

pub each_rising : (w : ℕ) → Each (IsUnit w) (rising_units w)
each_rising zero = tt
each_rising (suc w) = each_append (IsUnit (suc w)) (map (λ u. pos 0 ∷ u) (rising_units w)) ((pos 1 ∷ zero_vector w) ∷ []) (each_of_map (λ (u : Vector). pos 0 ∷ u) (IsUnit (suc w)) (rising_units w) (Each-weaker (IsUnit w) (λ u. IsUnit (suc w) (pos 0 ∷ u)) (λ u i. there i) (rising_units w) (each_rising w))) (here, tt)

pub rising_listed : (w : ℕ) (u : Vector) → IsUnit w u → Contains (rising_units w) u
rising_listed zero u i = elim i [ ]
rising_listed (suc w) u here = Contains-append_right (map (λ u. pos 0 ∷ u) (rising_units w)) ((pos 1 ∷ zero_vector w) ∷ []) (pos 1 ∷ zero_vector w) (contains_here (pos 1 ∷ zero_vector w) [])
rising_listed (suc w) u (there {u = v} i) = Contains-append_left (map (λ u. pos 0 ∷ u) (rising_units w)) ((pos 1 ∷ zero_vector w) ∷ []) (pos 0 ∷ v) (contains_mapped (rising_units w) v (rising_listed w v i))

pub rising_in_order : (w : ℕ) → Pairwise IsLexBefore (rising_units w)
rising_in_order zero = tt
rising_in_order (suc w) = Pairwise-append IsLexBefore (map (λ u. pos 0 ∷ u) (rising_units w)) ((pos 1 ∷ zero_vector w) ∷ []) (pairwise_shifted IsLexBefore (rising_units w) (λ u v l. inr (refl, l)) (rising_in_order w)) (tt, tt)
    (each_of_map (λ (u : Vector). pos 0 ∷ u) (λ x. Each (IsLexBefore x) ((pos 1 ∷ zero_vector w) ∷ [])) (rising_units w) (Each-weaker (IsUnit w) (λ u. Each (IsLexBefore (pos 0 ∷ u)) ((pos 1 ∷ zero_vector w) ∷ [])) (λ u i. (inl (omega (arith, ints)), tt)) (rising_units w) (each_rising w)))
