-- The normal forms of the facet rows are normal forms of the generators, or their opposites are.
use Rattle.std.proofs.Common.{◌≡◌, ◌≢◌, ◌⊎◌, inl, inr, ⊎_elim, ℕ, zero, suc, ◌+◌, ◌<◌, ◌≤◌, List, [], ◌∷◌, ◌++◌, length, ℤ, pos, negsuc, neg_ℤ, ◌*ℤ◌, ◌<ℤ◌, Contains, refl, sym, ap, ◌∙◌, subst, arith}
use Rattle.std.proofs.lemmas.Int.{ints}
use Rattle.std.proofs.Math.IntN.{zero-*ℤ}
use Rattle.std.specs.Prelude.{unsigned_abs}
use Rattle.std.specs.List.{AllByRecursion as Each}
use Rattle.nz_spec.specs.Vectors.{Vector, dot, plus, scaled, opposite, entry, combination, zero_vector, HasWidth, IsZero}
use Rattle.nz_spec.specs.Sums.{IsIndependent}
use Rattle.nz_spec.specs.Order.{IsListOf}
use Rattle.nz_spec.specs.Forms.{IsKeyColumn, IsOtherColumn, IsEquationAt, IsDualForm, IsNormalForm}
use Rattle.nz_spec.proofs.IntLaws.{int_cases, zero_product, mul_assoc}
use Rattle.nz_spec.proofs.VectorLaws.{dot-scaled, length-opposite}
use Rattle.nz_spec.proofs.ListLaws.{Each-contains, Each-from_contains, contains_here, contains_there, contains_cases, contains_none}
use Rattle.nz_spec.proofs.EquationLaws.{zero_on_span, entry_past, within_or_past, dot_at_lead, entry_at_lead, column_cases}
use Rattle.nz_linear.specs.Echelon.{unit_at, EndsAt}
use Rattle.nz_linear.specs.Facets.{facet_rows}
use Rattle.nz_linear.proofs.Ring.{sums, one-mul, neg-mul}
use Rattle.nz_linear.proofs.Lists.{each_map, each_append, each_left, each_right}
use Rattle.nz_linear.proofs.VectorLaws.{length-scaled}
use Rattle.nz_linear.proofs.Combinations.{combination-skip}
use Rattle.nz_linear.proofs.Spans.{span_of_members}
use Rattle.nz_linear.proofs.Units.{length-unit_at, dot-unit_at, value_at_end}
use Rattle.nz_linear.proofs.DescribedCone.{equations_exist}
use Rattle.nz_pointed.proofs.SignLemmas.{primitive_opposite}
use Rattle.nz_range.specs.Measures.{measure, pair_measure}
use Rattle.nz_range.proofs.Fits.{abs_of_neg}
use Rattle.nz_pointed.specs.Pointed.{IsTooLarge}
use Rattle.nz_rays.proofs.PlaceLemmas.{zip_beside}
use Rattle.nz_rays.proofs.RayLemmas.{IsNormalEitherWay, opposite-dot, entry-opposite, large_vector, large_at}

-- v is the unit form of the column, or its opposite
abbrev pub IsUnitAt : ℕ → ℕ → Vector → Type 0
IsUnitAt w c v = (v ≡ unit_at w c) ⊎ (v ≡ scaled (negsuc 0) (unit_at w c))

unit_width : (w c : ℕ) (v : Vector) → IsUnitAt w c v → HasWidth w v
unit_width w c v u = elim u [ inl e ↦ ap length e ∙ length-unit_at w c | inr e ↦ ap length e ∙ length-scaled w (negsuc 0) (unit_at w c) (length-unit_at w c) ]

-- the value of a form there is its entry, or the opposite of it
unit_value : (w c : ℕ) (v f : Vector) → HasWidth w f → IsUnitAt w c v → (dot f v ≡ entry f c) ⊎ (dot f v ≡ neg_ℤ (entry f c))
unit_value w c v f l u = elim u [
  | inl e ↦ inl (ap (dot f) e ∙ dot-unit_at w c f l)
  | inr e ↦ inr (let k = ap (dot f) e ∙ dot-scaled f (negsuc 0) (unit_at w c) ∙ ap (λ t. negsuc 0 *ℤ t) (dot-unit_at w c f l) in omega (arith, ints, k))
]

zero_at_unit : (w c : ℕ) (v f : Vector) → HasWidth w f → IsUnitAt w c v → entry f c ≡ pos 0 → dot f v ≡ pos 0
zero_at_unit w c v f l u z = elim (unit_value w c v f l u) [ inl e ↦ e ∙ z | inr e ↦ e ∙ ap neg_ℤ z ]

entry_of_unit : (w c : ℕ) (v f : Vector) → HasWidth w f → IsUnitAt w c v → dot f v ≡ pos 0 → entry f c ≡ pos 0
entry_of_unit w c v f l u z = elim (unit_value w c v f l u) [ inl e ↦ sym e ∙ z | inr e ↦ (let k = e in omega (arith, ints, k, z)) ]

-- ---- the measure of a unit form at a vector is at most that of the vector
zero_pair : (n : ℕ) (f : Vector) → pair_measure (zero_vector n) f ≡ 0
zero_pair zero f = refl
zero_pair (suc n) [] = refl
zero_pair (suc n) (a ∷ f) = let e = zero_pair n f in let z : unsigned_abs (pos 0 *ℤ a) ≡ 0 = ap unsigned_abs (zero-*ℤ a) in omega (arith, e, z)

one_pair : (w c : ℕ) (f : Vector) → pair_measure (unit_at w c) f ≤ measure f
one_pair zero c f = omega arith
one_pair (suc w) zero [] = omega arith
one_pair (suc w) zero (a ∷ f) = let e = zero_pair w f in let o : unsigned_abs (pos 1 *ℤ a) ≡ unsigned_abs a = ap unsigned_abs (one-mul a) in omega (arith, e, o)
one_pair (suc w) (suc c) [] = omega arith
one_pair (suc w) (suc c) (a ∷ f) = let e = one_pair w c f in let z : unsigned_abs (pos 0 *ℤ a) ≡ 0 = ap unsigned_abs (zero-*ℤ a) in omega (arith, e, z)

minus_pair : (u f : Vector) → pair_measure (scaled (negsuc 0) u) f ≡ pair_measure u f
minus_pair [] f = refl
minus_pair (a ∷ u) [] = refl
minus_pair (a ∷ u) (b ∷ f) =
    let e = minus_pair u f in
    let n : negsuc 0 *ℤ (a *ℤ b) ≡ neg_ℤ (a *ℤ b) = omega (arith, sums, neg-mul (pos 1) (a *ℤ b), one-mul (a *ℤ b)) in
    let o : unsigned_abs ((negsuc 0 *ℤ a) *ℤ b) ≡ unsigned_abs (a *ℤ b) = ap unsigned_abs (mul_assoc (negsuc 0) a b ∙ n) ∙ abs_of_neg (a *ℤ b) in
    omega (arith, e, o)

unit_pair : (w c : ℕ) (v f : Vector) → IsUnitAt w c v → pair_measure v f ≤ measure f
unit_pair w c v f u = elim u [
  | inl e ↦ subst (λ t. pair_measure t f ≤ measure f) (sym e) (one_pair w c f)
  | inr e ↦ subst (λ t. pair_measure t f ≤ measure f) (sym e) (let m = minus_pair (unit_at w c) f in let l = one_pair w c f in omega (arith, m, l))
]

-- ---- the form of an equation ends at its column
module _ (w : ℕ) (G : List Vector) (wide : Each (HasWidth w) G) (f : Vector) (l : HasWidth w f) (zero_on : Each (λ g. dot f g ≡ pos 0) G) (j : ℕ) (zero_later : (i : ℕ) → j < i → IsOtherColumn w G i → entry f i ≡ pos 0) where
  later_from : (n i : ℕ) → j < i → w ≤ i + n → entry f i ≡ pos 0
  later_from zero i lt h = entry_past f i (omega (arith, l, h))
  later_from (suc n) i lt h = at_column (λ k m. later_from n k (omega (arith, lt, m)) (omega (arith, h, m)))
    where
      stable : (a : ℤ) → (a ≢ pos 0 → ⊥) → a ≡ pos 0
      stable a n = elim (int_cases a) [
        | inl z ↦ z
        | inr s ↦ absurd (n (λ e. elim s [ inl p ↦ omega (arith, ints, p, e) | inr p ↦ omega (arith, ints, p, e) ]))
      ]

      at_column : ((k : ℕ) → i < k → entry f k ≡ pos 0) → entry f i ≡ pos 0
      at_column later = stable (entry f i) (λ ne. elim (within_or_past w i) [
        | inl inside ↦ ne (zero_later i lt (record {
          within = inside;
          not_key = λ (key : IsKeyColumn w G i).
              let e = sym (dot_at_lead f key.0 i key.2 later) ∙ zero_on_span f w G key.0 wide zero_on key.1 in
              entry_at_lead key.0 i key.2 (zero_product (entry f i) (entry key.0 i) ne e);
        }))
        | inr past ↦ ne (entry_past f i (omega (arith, l, past)))
      ])

  pub later_zero : (i : ℕ) → j < i → entry f i ≡ pos 0
  later_zero i lt = later_from w i lt (omega arith)

equation_ends : (w : ℕ) (G : List Vector) (j : ℕ) (f : Vector) → Each (HasWidth w) G → IsEquationAt w G j f → EndsAt j f
equation_ends w G j f l e = record {
  nonzero = λ z. let p = e.positive in let b : ⊥ = omega (arith, ints, p, z) in b;
  after = later_zero w G l f e.width e.zero_on j (λ i lt o. e.zero_at i o (λ h. let b : ⊥ = omega (arith, lt, h) in b));
}

-- the equation of a column
some_equation : (w : ℕ) (G : List Vector) (j : ℕ) → Each (HasWidth w) G → IsOtherColumn w G j → (f : Vector) × IsEquationAt w G j f
some_equation w G j l o =
    let s = equations_exist w G l in
    let b = zip_beside (IsEquationAt w G) s.are.columns s.equations j s.are.each (s.are.others.each j o) in
    (b.other, b.related)

-- ---- a list of facet rows: its generators, and the columns of its unit forms
record Carried (w : ℕ) (own V : List Vector) (factors : List ℤ) : Type 0 where
  all : List ℤ
  one_each : length all ≡ length V
  zero : IsZero all → IsZero factors
  same : combination w all V ≡ combination w factors own

module _ (w : ℕ) (columns : List ℕ) (G : List Vector) (lG : Each (HasWidth w) G) (others : IsListOf ◌<◌ (IsOtherColumn w G) columns) where
  record Parts (own : List Vector) (units : List ℕ) (V : List Vector) : Type 0 where
    widths : Each (HasWidth w) V
    of_list : Each (Contains G) own
    of_columns : Each (Contains columns) units
    there : Each (λ v. Contains own v ⊎ ((c : ℕ) × Contains units c × IsUnitAt w c v)) V
    back : Each (Contains V) own
    unit_back : Each (λ c. (v : Vector) × Contains V v × IsUnitAt w c v) units
    carried : (factors : List ℤ) → length factors ≡ length own → Carried w own V factors

  part_none : Parts [] [] []
  part_none = record {
    widths = tt;
    of_list = tt;
    of_columns = tt;
    there = tt;
    back = tt;
    unit_back = tt;
    carried = λ factors e. record { all = []; one_each = refl; zero = λ z. no_factors factors e; same = ap (λ t. combination w t []) (sym (none factors e)) };
  }
    where
      none : (factors : List ℤ) → length factors ≡ 0 → factors ≡ []
      none [] e = refl
      none (f ∷ fs) e = absurd (let b : ⊥ = omega (arith, e) in b)

      no_factors : (factors : List ℤ) → length factors ≡ 0 → IsZero factors
      no_factors [] e = tt
      no_factors (f ∷ fs) e = absurd (let b : ⊥ = omega (arith, e) in b)

  part_own : (v : Vector) (own : List Vector) (units : List ℕ) (V : List Vector) → Contains G v → Parts own units V → Parts (v ∷ own) units (v ∷ V)
  part_own v own units V c p = record {
    widths = (Each-contains (HasWidth w) G v lG c, p.widths);
    of_list = (c, p.of_list);
    of_columns = p.of_columns;
    there = (
      inl (contains_here v own),
      each_map (λ u. Contains own u ⊎ ((k : ℕ) × Contains units k × IsUnitAt w k u)) (λ u. Contains (v ∷ own) u ⊎ ((k : ℕ) × Contains units k × IsUnitAt w k u)) V (λ u h. ⊎_elim (λ a. inl (contains_there v u own a)) (λ a. inr a) h) p.there,
    );
    back = (contains_here v V, each_map (Contains V) (Contains (v ∷ V)) own (λ u k. contains_there v u V k) p.back);
    unit_back = each_map (λ k. (u : Vector) × Contains V u × IsUnitAt w k u) (λ k. (u : Vector) × Contains (v ∷ V) u × IsUnitAt w k u) units (λ k h. (h.0, contains_there v h.0 V h.1, h.2)) p.unit_back;
    carried = by;
  }
    where
      by : (factors : List ℤ) → length factors ≡ suc (length own) → Carried w (v ∷ own) (v ∷ V) factors
      by [] e = absurd (let b : ⊥ = omega (arith, e) in b)
      by (f ∷ fs) e =
          let r = p.carried fs (omega (arith, e)) in
          record { all = f ∷ r.all; one_each = ap suc r.one_each; zero = λ z. (z.0, r.zero z.1); same = ap (λ t. plus (scaled f v) t) r.same }

  part_unit : (c : ℕ) (v : Vector) (own : List Vector) (units : List ℕ) (V : List Vector) → Contains columns c → IsUnitAt w c v → Parts own units V → Parts own (c ∷ units) (v ∷ V)
  part_unit c v own units V k u p = record {
    widths = (unit_width w c v u, p.widths);
    of_list = p.of_list;
    of_columns = (k, p.of_columns);
    there = (
      inr (c, contains_here c units, u),
      each_map (λ x. Contains own x ⊎ ((d : ℕ) × Contains units d × IsUnitAt w d x)) (λ x. Contains own x ⊎ ((d : ℕ) × Contains (c ∷ units) d × IsUnitAt w d x)) V (λ x h. ⊎_elim (λ a. inl a) (λ a. inr (a.0, contains_there c a.0 units a.1, a.2)) h) p.there,
    );
    back = each_map (Contains V) (Contains (v ∷ V)) own (λ x m. contains_there v x V m) p.back;
    unit_back = (
      (v, contains_here v V, u),
      each_map (λ d. (x : Vector) × Contains V x × IsUnitAt w d x) (λ d. (x : Vector) × Contains (v ∷ V) x × IsUnitAt w d x) units (λ d h. (h.0, contains_there v h.0 V h.1, h.2)) p.unit_back,
    );
    carried = λ factors e. let r = p.carried factors e in
        record { all = pos 0 ∷ r.all; one_each = ap suc r.one_each; zero = λ z. r.zero z.1; same = combination-skip w r.all v V (unit_width w c v u) p.widths ∙ r.same };
  }

  -- a generator, or a unit form of one of the columns with a sign
  abbrev IsFacetRow : Vector → Type 0
  IsFacetRow v = Contains G v ⊎ ((c : ℕ) × Contains columns c × IsUnitAt w c v)

  record SomeParts (V : List Vector) : Type 0 where
    own : List Vector
    units : List ℕ
    parts : Parts own units V

  parts_of : (V : List Vector) → Each IsFacetRow V → SomeParts V
  parts_of [] h = record { own = []; units = []; parts = part_none }
  parts_of (v ∷ V) h =
      let t = parts_of V h.1 in
      elim h.0 [
        | inl c ↦ record { own = v ∷ t.own; units = t.units; parts = part_own v t.own t.units V c t.parts }
        | inr k ↦ record { own = t.own; units = k.0 ∷ t.units; parts = part_unit k.0 v t.own t.units V k.1 k.2 t.parts }
      ]

  -- the parts of a list before another
  record PartsBefore (front : List Vector) (own : List Vector) (units : List ℕ) (V : List Vector) : Type 0 where
    first : List Vector
    first_units : List ℕ
    from : Each (Contains front) first
    from_units : Each (λ c. (v : Vector) × Contains front v × IsUnitAt w c v) first_units
    parts : Parts (first ++ own) (first_units ++ units) (front ++ V)

  parts_before : (front : List Vector) (own : List Vector) (units : List ℕ) (V : List Vector) → Each IsFacetRow front → Parts own units V → PartsBefore front own units V
  parts_before [] own units V h p = record { first = []; first_units = []; from = tt; from_units = tt; parts = p }
  parts_before (v ∷ front) own units V h p =
      let t = parts_before front own units V h.1 p in
      let from = each_map (Contains front) (Contains (v ∷ front)) t.first (λ x m. contains_there v x front m) t.from in
      let from_units = each_map (λ d. (x : Vector) × Contains front x × IsUnitAt w d x) (λ d. (x : Vector) × Contains (v ∷ front) x × IsUnitAt w d x) t.first_units (λ d k. (k.0, contains_there v k.0 front k.1, k.2)) t.from_units in
      elim h.0 [
        | inl c ↦ record { first = v ∷ t.first; first_units = t.first_units; from = (contains_here v front, from); from_units = from_units; parts = part_own v (t.first ++ own) (t.first_units ++ units) (front ++ V) c t.parts }
        | inr k ↦ record { first = t.first; first_units = k.0 ∷ t.first_units; from = from; from_units = ((v, contains_here v front, k.2), from_units); parts = part_unit k.0 v (t.first ++ own) (t.first_units ++ units) (front ++ V) k.1 k.2 t.parts }
      ]

  module _ (own : List Vector) (units : List ℕ) (V : List Vector) (p : Parts own units V) where
    own_independent : IsIndependent w V → IsIndependent w own
    own_independent free factors e z = let r = p.carried factors e in r.zero (free r.all r.one_each (subst IsZero (sym r.same) z))

    own_wide : Each (HasWidth w) own
    own_wide = each_map (Contains G) (HasWidth w) own (λ v c. Each-contains (HasWidth w) G v lG c) p.of_list

    -- what is no key column of a list is none of some of its vectors
    other_of_all : (j : ℕ) → IsOtherColumn w V j → IsOtherColumn w own j
    other_of_all j o = record { within = o.within; not_key = λ (k : IsKeyColumn w own j). o.not_key (k.0, span_of_members w own V k.0 p.widths p.back k.1, k.2) }

    other_of_gens : (j : ℕ) → IsOtherColumn w G j → IsOtherColumn w own j
    other_of_gens j o = record { within = o.within; not_key = λ (k : IsKeyColumn w own j). o.not_key (k.0, span_of_members w own G k.0 lG p.of_list k.1, k.2) }

    unit_is_other : (c : ℕ) → Contains units c → IsOtherColumn w own c
    unit_is_other c k = other_of_gens c (Each-contains (IsOtherColumn w G) columns c others.only (Each-contains (Contains columns) units c p.of_columns k))

    listed_or_not : (cs : List ℕ) (j : ℕ) → Contains cs j ⊎ ¬ Contains cs j
    listed_or_not [] j = inr (contains_none j)
    listed_or_not (c ∷ cs) j = elim (column_cases c j) [
      | inl e ↦ inl (subst (Contains (c ∷ cs)) e (contains_here c cs))
      | inr n ↦ elim (listed_or_not cs j) [
        | inl k ↦ inl (contains_there c j cs k)
        | inr m ↦ inr (λ k. elim (contains_cases c cs j k) [ inl e ↦ n e | inr i ↦ m i ])
      ]
    ]

    -- what is no key column of the generators of a list, and no column of a unit form of it, is no key column of it
    other_or_unit : (j : ℕ) → IsOtherColumn w own j → Contains units j ⊎ IsOtherColumn w V j
    other_or_unit j o = elim (listed_or_not units j) [
      | inl k ↦ inl k
      | inr n ↦ inr (
          let s = some_equation w own j own_wide o in
          let f = s.0 in
          let e = s.1 in
          let zero : Each (λ v. dot f v ≡ pos 0) V = each_map (λ v. Contains own v ⊎ ((c : ℕ) × Contains units c × IsUnitAt w c v)) (λ v. dot f v ≡ pos 0) V
          (λ v h. ⊎_elim (λ c. Each-contains (λ g. dot f g ≡ pos 0) own v e.zero_on c)
          (λ k. zero_at_unit w k.0 v f e.width k.2 (e.zero_at k.0 (unit_is_other k.0 k.1) (λ h. n (subst (Contains units) h k.1)))) h) p.there in
          record {
            within = o.within;
            not_key = λ (k : IsKeyColumn w V j). value_at_end f k.0 j (equation_ends w own j f own_wide e) k.2 (zero_on_span f w V k.0 p.widths zero k.1);
          })
    ]

  -- ---- the normal forms
  equation_of_own : (V : List Vector) (c : ℕ) (f : Vector) → (s : SomeParts V) → IsIndependent w V → IsOtherColumn w V c → IsEquationAt w V c f → IsNormalForm w G f
  equation_of_own V c f s free o e =
      let p = s.parts in
      record {
        vectors = s.own;
        of_list = p.of_list;
        independent = own_independent s.own s.units V p free;
        kind = inr (
          c,
          other_of_all s.own s.units V p c o,
          record {
            width = e.width;
            primitive = e.primitive;
            zero_on = each_map (Contains V) (λ g. dot f g ≡ pos 0) s.own (λ g k. Each-contains (λ g. dot f g ≡ pos 0) V g e.zero_on k) p.back;
            positive = e.positive;
            zero_at = λ j k ne. ⊎_elim
                (λ u. let b = Each-contains (λ d. (v : Vector) × Contains V v × IsUnitAt w d v) s.units j p.unit_back u in entry_of_unit w j b.0 f e.width b.2 (Each-contains (λ g. dot f g ≡ pos 0) V b.0 e.zero_on b.1))
                (λ q. e.zero_at j q ne)
                (other_or_unit s.own s.units V p j k);
          },
        );
      }

  -- zero at a unit form of a list
  zero_of_list : (Z : List Vector) (f : Vector) (cs : List ℕ) (j : ℕ) → HasWidth w f → Each (λ g. dot f g ≡ pos 0) Z → Each (λ d. (v : Vector) × Contains Z v × IsUnitAt w d v) cs → Contains cs j → entry f j ≡ pos 0
  zero_of_list Z f cs j l z b k = let u = Each-contains (λ d. (v : Vector) × Contains Z v × IsUnitAt w d v) cs j b k in entry_of_unit w j u.0 f l u.2 (Each-contains (λ g. dot f g ≡ pos 0) Z u.0 z u.1)

  in_either : (xs ys : List ℕ) (j : ℕ) → Contains (xs ++ ys) j → Contains xs j ⊎ Contains ys j
  in_either [] ys j c = inr c
  in_either (x ∷ xs) ys j c = elim (contains_cases x (xs ++ ys) j c) [
    | inl e ↦ inl (subst (Contains (x ∷ xs)) e (contains_here x xs))
    | inr k ↦ ⊎_elim (λ a. inl (contains_there x j xs a)) (λ a. inr a) (in_either xs ys j k)
  ]

  zero_both : (f : Vector) (xs ys us vs : List Vector) → Each (λ g. dot f g ≡ pos 0) (us ++ vs) → Each (Contains us) xs → Each (Contains vs) ys → Each (λ g. dot f g ≡ pos 0) (xs ++ ys)
  zero_both f xs ys us vs z cx cy = each_append (λ g. dot f g ≡ pos 0) xs ys
      (each_map (Contains us) (λ g. dot f g ≡ pos 0) xs (λ g k. Each-contains (λ g. dot f g ≡ pos 0) us g (each_left (λ g. dot f g ≡ pos 0) us vs z) k) cx)
      (each_map (Contains vs) (λ g. dot f g ≡ pos 0) ys (λ g k. Each-contains (λ g. dot f g ≡ pos 0) vs g (each_right (λ g. dot f g ≡ pos 0) us vs z) k) cy)

  dual_of_own : (V : List Vector) (v f : Vector) → Each IsFacetRow V → IsIndependent w V → IsDualForm w V v f → IsNormalEitherWay w G f
  dual_of_own V v f h free d =
      let whole : Each IsFacetRow (d.earlier ++ v ∷ d.later) = subst (Each IsFacetRow) d.whole h in
      let front = each_left IsFacetRow d.earlier (v ∷ d.later) whole in
      let back = each_right IsFacetRow d.earlier (v ∷ d.later) whole in
      let t = parts_of d.later back.1 in
      let all = subst (IsIndependent w) d.whole free in
      let zero_front = each_left (λ g. dot f g ≡ pos 0) d.earlier d.later d.zero_on in
      let zero_back = each_right (λ g. dot f g ≡ pos 0) d.earlier d.later d.zero_on in
      let dual_zero : (j : ℕ) → IsOtherColumn w (d.earlier ++ v ∷ d.later) j → entry f j ≡ pos 0 = λ j o. d.zero_at j (subst (λ (vs : List Vector). IsOtherColumn w vs j) (sym d.whole) o) in
      elim back.0 [
        | inl c ↦ (
            let b = parts_before d.earlier (v ∷ t.own) t.units (v ∷ d.later) front (part_own v t.own t.units d.later c t.parts) in
            inl (record {
              vectors = b.first ++ v ∷ t.own;
              of_list = b.parts.of_list;
              independent = own_independent (b.first ++ v ∷ t.own) (b.first_units ++ t.units) (d.earlier ++ v ∷ d.later) b.parts all;
              kind = inl (
                v,
                record {
                  earlier = b.first;
                  later = t.own;
                  whole = refl;
                  width = d.width;
                  primitive = d.primitive;
                  zero_at = λ j k. ⊎_elim
                      (λ u. ⊎_elim (zero_of_list d.earlier f b.first_units j d.width zero_front b.from_units) (zero_of_list d.later f t.units j d.width zero_back t.parts.unit_back) (in_either b.first_units t.units j u))
                      (λ q. dual_zero j q)
                      (other_or_unit (b.first ++ v ∷ t.own) (b.first_units ++ t.units) (d.earlier ++ v ∷ d.later) b.parts j k);
                  positive = d.positive;
                  zero_on = zero_both f b.first t.own d.earlier d.later d.zero_on b.from t.parts.back;
                },
              );
            }))
        | inr u ↦ (
            let b = parts_before d.earlier t.own (u.0 ∷ t.units) (v ∷ d.later) front (part_unit u.0 v t.own t.units d.later u.1 u.2 t.parts) in
            let own = b.first ++ t.own in
            let units = b.first_units ++ u.0 ∷ t.units in
            let rows = d.earlier ++ v ∷ d.later in
            let zero_at : (j : ℕ) → IsOtherColumn w own j → j ≢ u.0 → entry f j ≡ pos 0 = λ j k ne. ⊎_elim
            (λ m. ⊎_elim (zero_of_list d.earlier f b.first_units j d.width zero_front b.from_units)
            (λ n. elim (contains_cases u.0 t.units j n) [ inl e ↦ absurd (ne (sym e)) | inr i ↦ zero_of_list d.later f t.units j d.width zero_back t.parts.unit_back i ])
            (in_either b.first_units (u.0 ∷ t.units) j m))
            (λ q. dual_zero j q)
            (other_or_unit own units rows b.parts j k) in
            let zero_on = zero_both f b.first t.own d.earlier d.later d.zero_on b.from t.parts.back in
            let other = other_of_gens own units rows b.parts u.0 (Each-contains (IsOtherColumn w G) columns u.0 others.only u.1) in
            let independent = own_independent own units rows b.parts all in
            ⊎_elim
            (λ e. inl (record { vectors = own; of_list = b.parts.of_list; independent = independent; kind = inr (u.0, other, record { width = d.width; primitive = d.primitive; zero_on = zero_on; positive = subst (λ t. pos 0 <ℤ t) e d.positive; zero_at = zero_at }) }))
            (λ e. inr (record {
              vectors = own;
              of_list = b.parts.of_list;
              independent = independent;
              kind = inr (
                u.0,
                other,
                record {
                  width = length-opposite f ∙ d.width;
                  primitive = primitive_opposite f d.primitive;
                  zero_on = each_map (λ g. dot f g ≡ pos 0) (λ g. dot (opposite f) g ≡ pos 0) own (λ g z. opposite-dot f g ∙ ap neg_ℤ z) zero_on;
                  positive = (let n = entry-opposite f u.0 in let q = d.positive in omega (arith, sums, n, e, q));
                  zero_at = λ j k ne. entry-opposite f j ∙ ap neg_ℤ (zero_at j k ne);
                },
              );
            }))
            (unit_value w u.0 v f d.width u.2))
      ]

  row_kinds : (cs : List ℕ) → Each (Contains columns) cs → Each IsFacetRow (facet_rows w cs G)
  row_kinds [] h = Each-from_contains IsFacetRow G (λ g c. inl c)
  row_kinds (c ∷ cs) h = (inr (c, h.0, inl refl), (inr (c, h.0, inr refl), row_kinds cs h.1))

  are_facet_rows : Each IsFacetRow (facet_rows w columns G)
  are_facet_rows = row_kinds columns (Each-from_contains (Contains columns) columns (λ c k. k))

  pub normal_of_gens : (f : Vector) → IsNormalForm w (facet_rows w columns G) f → IsNormalEitherWay w G f
  normal_of_gens f n =
      let rows = facet_rows w columns G in
      let h = each_map (Contains rows) IsFacetRow n.vectors (λ v c. Each-contains IsFacetRow rows v are_facet_rows c) n.of_list in
      elim n.kind [
        | inl d ↦ dual_of_own n.vectors d.0 f h n.independent d.1
        | inr e ↦ inl (equation_of_own n.vectors e.0 f (parts_of n.vectors h) n.independent e.1 e.2)
      ]

  -- ---- the cause of Range
  pub large_of_gens : (h : ℤ) → IsTooLarge h w (facet_rows w columns G) → IsTooLarge h w G
  large_of_gens h t = elim t [
    | inl s ↦ large_vector h w G s.vector (normal_of_gens s.vector s.named) s.large
    | inr s ↦ elim (Each-contains IsFacetRow (facet_rows w columns G) s.form are_facet_rows s.is_form) [
      | inl c ↦ large_at h w G s.form s.vector c (normal_of_gens s.vector s.named) s.large
      | inr u ↦ large_vector h w G s.vector (normal_of_gens s.vector s.named) (let l = unit_pair w u.0 s.form s.vector u.2 in let k = s.large in omega (arith, ints, l, k))
    ]
  ]
