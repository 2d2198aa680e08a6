-- The support forms of a list are its primitive extreme valid forms.
use Rattle.std.proofs.Common.{◌≡◌, ◌⊎◌, inl, inr, ℕ, suc, List, [], ◌∷◌, length, ℤ, pos, negsuc, ◌+ℤ◌, ◌*ℤ◌, neg_ℤ, ◌≤ℤ◌, ◌<ℤ◌, refl, sym, ap, ap₂, ◌∙◌, subst, arith}
use Rattle.std.proofs.lemmas.Int.{ints}
use Rattle.std.proofs.Math.IntN.{*ℤ_comm, *ℤ-zero}
use Rattle.std.specs.List.{AllByRecursion as Each, AllZip, Contains}
use Rattle.nz_spec.specs.Vectors.{Vector, dot, plus, scaled, zero_vector, entry, HasWidth, IsPrimitive}
use Rattle.nz_spec.specs.Sums.{IsIndependent, HasRank}
use Rattle.nz_spec.specs.Forms.{IsOtherColumn, IsZeroOnFacet, IsSupportForm}
use Rattle.nz_spec.proofs.IntLaws.{mul-add, mul_assoc}
use Rattle.nz_spec.proofs.VectorLaws.{dot-scaled, dot-zero, int_is_zero}
use Rattle.nz_spec.proofs.SumLaws.{length-zero_vector}
use Rattle.std.proofs.lemmas.List.{length-map}
use Rattle.nz_spec.proofs.EquationLaws.{dot_comm, zero_on_span, zero_outside_keys}
use Rattle.nz_linear.proofs.ExtremeRays.{same_on_ray}
use Rattle.nz_linear.proofs.Units.{entry_sum}
use Rattle.nz_spec.proofs.ListLaws.{Each-contains, Each-from_contains, contains_here, contains_there, contains_cases}
use Rattle.nz_spec.proofs.LinearLaws.{HasRank-unique}
use Rattle.nz_linear.specs.DualPairs.{Pair, pair_of, IsApart, HasWidths, AllVanish, IsSpace}
use Rattle.nz_linear.specs.Elimination.{IsState}
use Rattle.nz_linear.specs.DoubleDescription.{IsOnRay}
use Rattle.nz_linear.specs.Facets.{IsValidForm, IsExtremeForm}
use Rattle.nz_linear.proofs.Ring.{zero_sum, cross_gone, sums, ring_z, mul-one, neg-mul}
use Rattle.nz_linear.proofs.Signs.{mul_le, cancel_mul}
use Rattle.nz_linear.proofs.Lists.{each_map, each_map2, each_map3, each_append, each_right}
use Rattle.nz_linear.proofs.VectorLaws.{length-plus, length-scaled, dot-plus, plus-dot, scaled-dot, scaled_is_zero, same_values}
use Rattle.nz_linear.proofs.Division.{primitive_nonzero}
use Rattle.nz_linear.proofs.DualPairs.{dual_right}
use Rattle.nz_linear.proofs.EliminationRun.{run}
use Rattle.nz_linear.proofs.Rank.{chosen_rows, chosen_members, chosen_independent, rank_of_dual, rank_of_state, rank_and_left, independent_more, full_independent_span}
use Rattle.nz_linear.proofs.NormalForms.{difference, difference_value, normal_along}
use Rattle.nz_linear.proofs.KeyColumns.{echelon, IsLeft, all_left, columns_are_other}
use Rattle.nz_linear.proofs.Splitting.{enough_of}

-- ---- a form that is at least 0 on a list
pub record SomePositive (f : Vector) (G : List Vector) : Type 0 where
  pub vector : Vector
  pub has : Contains G vector
  pub positive : pos 0 <ℤ dot f vector

pub zero_or_positive : (f : Vector) (G : List Vector) → Each (λ g. pos 0 ≤ℤ dot f g) G → Each (λ g. dot f g ≡ pos 0) G ⊎ SomePositive f G
zero_or_positive f [] n = inl tt
zero_or_positive f (g ∷ G) n = elim (int_is_zero (dot f g)) [
  | inr d ↦ inr (record { vector = g; has = contains_here g G; positive = (let p = n.0 in omega (arith, sums)) })
  | inl z ↦ elim (zero_or_positive f G n.1) [
    | inl all ↦ inl (z, all)
    | inr s ↦ inr (record { vector = s.vector; has = contains_there g s.vector G s.has; positive = s.positive })
  ]
]

-- the vectors of the list at which the form is 0
record ZeroPart (f : Vector) (G : List Vector) : Type 0 where
  list : List Vector
  members : Each (Contains G) list
  zero_on : Each (λ g. dot f g ≡ pos 0) list
  all : (g : Vector) → Contains G g → dot f g ≡ pos 0 → Contains list g

zero_part : (f : Vector) (G : List Vector) → ZeroPart f G
zero_part f [] = record { list = []; members = tt; zero_on = tt; all = λ g c e. c }
zero_part f (g ∷ G) =
    let t = zero_part f G in
    let still = each_map (Contains G) (Contains (g ∷ G)) t.list (λ x c. contains_there g x G c) t.members in
    elim (int_is_zero (dot f g)) [
      | inl z ↦ record {
        list = g ∷ t.list;
        members = (contains_here g G, still);
        zero_on = (z, t.zero_on);
        all = λ x c e. elim (contains_cases g G x c) [
          | inl h ↦ subst (Contains (g ∷ t.list)) h (contains_here g t.list)
          | inr k ↦ contains_there g x t.list (t.all x k e)
        ];
      }
      | inr n ↦ record {
        list = t.list;
        members = still;
        zero_on = t.zero_on;
        all = λ x c e. elim (contains_cases g G x c) [ inl h ↦ absurd (n (ap (dot f) h ∙ e)) | inr k ↦ t.all x k e ];
      }
    ]

-- ---- a primitive extreme valid form is a support form
-- the vectors of this width at which the vectors of a list are 0
abbrev IsAcross : ℕ → List Vector → Vector → Type 0
IsAcross w Z x = HasWidth w x × Each (λ z. dot z x ≡ pos 0) Z

across_space : (w : ℕ) (Z : List Vector) → Each (HasWidth w) Z → IsSpace w (IsAcross w Z)
across_space w Z l = record {
  width = λ x i. i.0;
  sum_in = λ x y i j. (length-plus w x y i.0 j.0, each_map2 (λ z. dot z x ≡ pos 0) (λ z. dot z y ≡ pos 0) (λ z. dot z (plus x y) ≡ pos 0) Z (λ z e f. dot-plus w z x y i.0 j.0 ∙ omega (arith, sums)) i.1 j.1);
  multiple_in = λ k x i. (length-scaled w k x i.0, each_map (λ z. dot z x ≡ pos 0) (λ z. dot z (scaled k x) ≡ pos 0) Z (λ z e. dot-scaled z k x ∙ ap (λ t. k *ℤ t) e ∙ *ℤ-zero k) i.1);
}

-- the vectors that elimination leaves are complete there
rank_across : (w : ℕ) (Z : List Vector) (chosen free : List Pair) → Each (HasWidth w) Z → IsState w Z chosen free → HasRank w (IsAcross w Z) (length free)
rank_across w Z chosen free l s =
    let wide = each_right (HasWidths w) chosen free s.pair.widths in
    rank_of_dual w (IsAcross w Z) free (across_space w Z l)
    (record { widths = wide; dual = dual_right chosen free s.pair.dual })
    (record {
      vectors_in = each_map2 (HasWidths w) (λ (p : Pair). Each (λ r. dot r p.vector ≡ pos 0) Z) (λ (p : Pair). IsAcross w Z p.vector) free (λ p k v. (k.vector_width, v)) wide s.free_vanish;
      only_zero = λ x i v. s.only_zero x i.0
          (each_append (λ (p : Pair). dot p.form x ≡ pos 0) chosen free (each_map (λ (p : Pair). Contains Z p.form) (λ (p : Pair). dot p.form x ≡ pos 0) chosen (λ p c. Each-contains (λ z. dot z x ≡ pos 0) Z p.form i.1 c) s.from_seen) v);
    })

-- N·f + x at a vector
pushed_value : (w : ℕ) (N : ℤ) (f x a : Vector) → HasWidth w f → HasWidth w x → dot (plus (scaled N f) x) a ≡ N *ℤ dot f a +ℤ dot x a
pushed_value w N f x a lf lx = plus-dot w (scaled N f) x a (length-scaled w N f lf) lx ∙ ap (λ t. t +ℤ dot x a) (scaled-dot N f a)

-- where it is on the ray of f and x is 0 at a vector at which f is not, x is 0
pushed_on_ray : (w : ℕ) (N m k : ℤ) (f x g : Vector) → HasWidth w f → HasWidth w x → pos 0 <ℤ m → pos 0 <ℤ dot f g → dot x g ≡ pos 0 → scaled m (plus (scaled N f) x) ≡ scaled k f → x ≡ zero_vector w
pushed_on_ray w N m k f x g lf lx pm pg zg e =
    scaled_is_zero w m x pm lx (same_values w (scaled m x) (zero_vector w) (length-scaled w m x lx) (length-zero_vector w) (λ h. dot-scaled h m x ∙ rest h ∙ sym (dot-zero h w)))
  where
    ring_to : (p m n : ℤ) → p *ℤ (m *ℤ n) ≡ m *ℤ (n *ℤ p)
    ring_to p m n = simp ring_z (omega (arith, sums))

    ring_rest : (m n f x y k : ℤ) → m *ℤ y ≡ k *ℤ f → y ≡ n *ℤ f +ℤ x → m *ℤ n ≡ k → m *ℤ x ≡ pos 0
    ring_rest m n f x y k e1 e2 e3 =
        let a : m *ℤ (n *ℤ f +ℤ x) ≡ (m *ℤ n) *ℤ f = ap (λ t. m *ℤ t) (sym e2) ∙ e1 ∙ ap (λ t. t *ℤ f) (sym e3) in
        omega (arith, sums, a, mul-add m (n *ℤ f) x, mul_assoc m n f)

    at_vector : (a : Vector) → m *ℤ dot (plus (scaled N f) x) a ≡ k *ℤ dot f a
    at_vector a = sym (scaled-dot m (plus (scaled N f) x) a) ∙ ap (λ t. dot t a) e ∙ scaled-dot k f a

    there : dot (plus (scaled N f) x) g ≡ N *ℤ dot f g
    there = omega (arith, sums, pushed_value w N f x g lf lx, zg)

    factor : m *ℤ N ≡ k
    factor = cancel_mul (dot f g) (m *ℤ N) k pg (ring_to (dot f g) m N ∙ ap (λ t. m *ℤ t) (sym there) ∙ at_vector g ∙ *ℤ_comm k (dot f g))

    rest : (h : Vector) → m *ℤ dot h x ≡ pos 0
    rest h = ring_rest m N (dot h f) (dot h x) (dot h (plus (scaled N f) x)) k
        (ap (λ t. m *ℤ t) (dot_comm h (plus (scaled N f) x)) ∙ at_vector h ∙ ap (λ t. k *ℤ t) (dot_comm f h))
        (dot_comm h (plus (scaled N f) x) ∙ pushed_value w N f x h lf lx ∙ ap₂ (λ s t. N *ℤ s +ℤ t) (dot_comm f h) (dot_comm x h)) factor

-- a form across the zeros of an extreme form f, 0 at the other columns and at a vector at which f is positive, is 0
across_is_zero : (w : ℕ) (G Z : List Vector) (f x g : Vector) → Each (HasWidth w) G → IsValidForm w G f → IsExtremeForm w G f → ((v : Vector) → Contains G v → dot f v ≡ pos 0 → Contains Z v)
    → HasWidth w x → Each (λ z. dot z x ≡ pos 0) Z → ((j : ℕ) → IsOtherColumn w G j → entry x j ≡ pos 0) → Contains G g → pos 0 <ℤ dot f g → dot g x ≡ pos 0 → x ≡ zero_vector w
across_is_zero w G Z f x g lG v e all lx zx at cg pg zg =
    let lf = v.width in
    let n = enough_of G (scaled (negsuc 0) x) in
    let N = n.0 in
    let y = plus (scaled N f) x in
    let ly : HasWidth w y = length-plus w (scaled N f) x (length-scaled w N f lf) lx in
    let value : (a : Vector) → dot y a ≡ N *ℤ dot f a +ℤ dot x a = λ a. pushed_value w N f x a lf lx in
    let zero_there : Each (λ a. dot f a ≡ pos 0 → dot x a ≡ pos 0) G = Each-from_contains (λ a. dot f a ≡ pos 0 → dot x a ≡ pos 0) G (λ a c z. dot_comm x a ∙ Each-contains (λ u. dot u x ≡ pos 0) Z a zx (all a c z)) in
    let below : Each (λ a. dot a (scaled (negsuc 0) x) ≤ℤ N) G = n.2 in
    let at_least : Each (λ a. pos 0 ≤ℤ dot y a) G = each_map3 (λ a. pos 0 ≤ℤ dot f a) (λ a. dot f a ≡ pos 0 → dot x a ≡ pos 0) (λ a. dot a (scaled (negsuc 0) x) ≤ℤ N) (λ a. pos 0 ≤ℤ dot y a) G
    (λ a p z h. elim (int_is_zero (dot f a)) [
      | inl o ↦ (let q = z o in omega (arith, sums, value a, ap (λ t. N *ℤ t) o, *ℤ-zero N, q))
      | inr d ↦ (
          let up : pos 1 ≤ℤ dot f a = omega (arith, sums) in
          let k = mul_le N (pos 1) (dot f a) (let q = n.1 in omega (arith, sums)) up in
          let m : dot a (scaled (negsuc 0) x) ≡ negsuc 0 *ℤ dot x a = dot-scaled a (negsuc 0) x ∙ ap (λ t. negsuc 0 *ℤ t) (dot_comm a x) in
          omega (arith, ints, value a, k, mul-one N, h, m))
    ]) v.at_least zero_there below in
    let valid : IsValidForm w G y = record {
      width = ly;
      at_least = at_least;
      zero_at = λ j o. entry_sum w N f x j lf lx ∙ omega (arith, sums, ap (λ t. N *ℤ t) (v.zero_at j o), *ℤ-zero N, at j o);
    } in
    let r = e y valid (each_map (λ a. dot f a ≡ pos 0 → dot x a ≡ pos 0) (λ a. dot f a ≡ pos 0 → dot y a ≡ pos 0) G (λ a z o. let q = z o in omega (arith, sums, value a, ap (λ t. N *ℤ t) o, *ℤ-zero N, q)) zero_there) in
    pushed_on_ray w N r.multiple r.factor f x g lf lx r.positive pg (dot_comm x g ∙ zg) r.same

-- the pair of a vector at which f is positive and f, with the equations
facet_pair : (w : ℕ) (G : List Vector) (f g : Vector) (columns : List ℕ) (free : List Pair) → HasWidth w f → HasWidth w g → Contains G g → Each (λ c. entry f c ≡ pos 0) columns → AllZip (IsLeft w G) columns free → Each (IsApart (pair_of g f)) free
facet_pair w G f g [] [] lf lg c z k = tt
facet_pair w G f g [] (p ∷ free) lf lg c z k = absurd k
facet_pair w G f g (j ∷ columns) [] lf lg c z k = absurd k
facet_pair w G f g (j ∷ columns) (p ∷ free) lf lg c z k =
    (record { there = Each-contains (λ r. dot r p.vector ≡ pos 0) G g k.0.vanish c; back = k.0.column.unit f lf ∙ z.0 }, facet_pair w G f g columns free lf lg c z.1 k.1)

columns_zero : (w : ℕ) (G : List Vector) (x : Vector) (columns : List ℕ) (free : List Pair) → HasWidth w x → AllZip (IsLeft w G) columns free → AllVanish free x → Each (λ c. entry x c ≡ pos 0) columns
columns_zero w G x [] [] lx k v = tt
columns_zero w G x [] (p ∷ free) lx k v = absurd k
columns_zero w G x (c ∷ columns) [] lx k v = absurd k
columns_zero w G x (c ∷ columns) (p ∷ free) lx k v = (sym (k.0.column.unit x lx) ∙ v.0, columns_zero w G x columns free lx k.1 v.1)

pub support_of_extreme : (w : ℕ) (G : List Vector) (f : Vector) → Each (HasWidth w) G → IsValidForm w G f → IsPrimitive f → IsExtremeForm w G f → IsSupportForm w G f
support_of_extreme w G f lG v p e =
    let not_all : ¬ Each (λ g. dot f g ≡ pos 0) G = λ (z : Each (λ g. dot f g ≡ pos 0) G). primitive_nonzero f p (zero_outside_keys w G lG f v.width z v.zero_at) in
    record {
      width = v.width;
      primitive = p;
      zero_at = v.zero_at;
      at_least = v.at_least;
      not_all = not_all;
      facet = elim (zero_or_positive f G v.at_least) [
        | inl z ↦ absurd (not_all z)
        | inr s ↦ on_facet s
      ];
    }
  where
    on_facet : SomePositive f G → IsZeroOnFacet w G f
    on_facet s =
        let g = s.vector in
        let lg : HasWidth w g = Each-contains (HasWidth w) G g lG s.has in
        let part = zero_part f G in
        let Z = part.list in
        let lZ : Each (HasWidth w) Z = each_map (Contains G) (HasWidth w) Z (λ z c. Each-contains (HasWidth w) G z lG c) part.members in
        let t = run w Z lZ in
        let a = echelon w G lG in
        let left = all_left w G a.columns a.chosen a.free a.state a.are_columns in
        let others = columns_are_other w G a.columns a.chosen a.free lG a.state a.are_columns in
        let wide = each_right (HasWidths w) a.chosen a.free a.state.pair.widths in
        let zero_columns : Each (λ c. entry f c ≡ pos 0) a.columns = each_map (IsOtherColumn w G) (λ c. entry f c ≡ pos 0) a.columns (λ c o. v.zero_at c o) others.only in
        let zf : Each (λ z. dot z f ≡ pos 0) Z = each_map (λ z. dot f z ≡ pos 0) (λ z. dot z f ≡ pos 0) Z (λ z h. dot_comm z f ∙ h) part.zero_on in
        let pairs = pair_of g f ∷ a.free in
        let second : HasRank w (IsAcross w Z) (suc (length a.free)) = rank_of_dual w (IsAcross w Z) pairs (across_space w Z lZ)
        (record {
          widths = (record { form_width = lg; vector_width = v.width }, wide);
          dual = (rw (dot_comm g f) s.positive, facet_pair w G f g a.columns a.free v.width lg s.has zero_columns left, dual_right a.chosen a.free a.state.pair.dual);
        })
        (record {
          vectors_in = (
            (v.width, zf),
            each_map2 (HasWidths w) (λ (q : Pair). Each (λ r. dot r q.vector ≡ pos 0) G) (λ (q : Pair). IsAcross w Z q.vector) a.free
                (λ q k h. (k.vector_width, each_map (Contains G) (λ z. dot z q.vector ≡ pos 0) Z (λ z c. Each-contains (λ r. dot r q.vector ≡ pos 0) G z h c) part.members)) wide a.state.free_vanish,
          );
          only_zero = λ x i h. across_is_zero w G Z f x g lG v e part.all i.0 i.1
              (λ j o. Each-contains (λ c. entry x c ≡ pos 0) a.columns j (columns_zero w G x a.columns a.free i.0 left h.1) (others.each j o)) s.has s.positive h.0;
        }) in
        let first = rank_across w Z t.chosen t.free lZ t.state in
        let same = HasRank-unique w (IsAcross w Z) (length t.free) (suc (length a.free)) (λ x i. i.0) first second in
        let n1 = rank_and_left w Z t.chosen t.free t.state in
        let n2 = rank_and_left w G a.chosen a.free a.state in
        let n3 : length (chosen_rows t.chosen) ≡ length t.chosen = length-map t.chosen (λ (q : Pair). q.form) in
        let members = chosen_members w Z t.chosen t.free t.state in
        let size : length a.chosen ≡ suc (length (chosen_rows t.chosen)) = omega arith in
        record {
          vectors = chosen_rows t.chosen;
          of_list = each_map (Contains Z) (Contains G) (chosen_rows t.chosen) (λ z c. Each-contains (Contains G) Z z part.members c) members;
          independent = chosen_independent w Z t.chosen t.free t.state;
          zero_on = each_map (Contains Z) (λ z. dot f z ≡ pos 0) (chosen_rows t.chosen) (λ z c. Each-contains (λ z. dot f z ≡ pos 0) Z z part.zero_on c) members;
          rank = subst (HasRank w (Contains G)) size (rank_of_state w G a.chosen a.free lG a.state);
        }

-- ---- a support form is extreme
pub support_is_valid : (w : ℕ) (G : List Vector) (f : Vector) → IsSupportForm w G f → IsValidForm w G f
support_is_valid w G f s = record { width = s.width; at_least = s.at_least; zero_at = s.zero_at }

-- a valid form that is 0 on the facet of a support form is on its ray
pub on_ray_by_facet : (w : ℕ) (G : List Vector) (f y : Vector) → Each (HasWidth w) G → (s : IsSupportForm w G f) → IsValidForm w G y → Each (λ u. dot y u ≡ pos 0) s.facet.vectors → IsOnRay f y
on_ray_by_facet w G f y lG s v z = elim (zero_or_positive f G s.at_least) [
  | inl all ↦ absurd (s.not_all all)
  | inr t ↦ by t
]
  where
    by : SomePositive f G → IsOnRay f y
    by t =
        let g = t.vector in
        let c = s.facet in
        let lg : HasWidth w g = Each-contains (HasWidth w) G g lG t.has in
        let lv : Each (HasWidth w) c.vectors = each_map (Contains G) (HasWidth w) c.vectors (λ u k. Each-contains (HasWidth w) G u lG k) c.of_list in
        let a = dot f g in
        let b = dot y g in
        let d = difference a y b f in
        let value : (x : Vector) → dot d x ≡ a *ℤ dot y x +ℤ neg_ℤ b *ℤ dot f x = λ x. difference_value w a y b f x v.width s.width in
        let free : IsIndependent w (g ∷ c.vectors) = independent_more w f g c.vectors lg lv (λ e. let p = t.positive in omega (arith, sums)) c.zero_on c.independent in
        let zero_on : Each (λ u. dot d u ≡ pos 0) (g ∷ c.vectors) = (
          value g ∙ cross_gone a b,
          each_map2 (λ u. dot y u ≡ pos 0) (λ u. dot f u ≡ pos 0) (λ u. dot d u ≡ pos 0) c.vectors (λ u h e. value u ∙ zero_sum a (neg_ℤ b) (dot y u) (dot f u) h e) z c.zero_on,
        ) in
        let same_on : Each (λ x. a *ℤ dot y x ≡ b *ℤ dot f x) G = Each-from_contains (λ x. a *ℤ dot y x ≡ b *ℤ dot f x) G
        (λ x k.
        let i = full_independent_span w (Contains G) (suc (length c.vectors)) (g ∷ c.vectors) x (λ u m. Each-contains (HasWidth w) G u lG m) c.rank (t.has, c.of_list) free refl k in
        omega (arith, sums, zero_on_span d w (g ∷ c.vectors) x (lg, lv) zero_on i, value x, neg-mul b (dot f x))) in
        record {
          multiple = a;
          positive = t.positive;
          factor = b;
          nonneg = Each-contains (λ x. pos 0 ≤ℤ dot y x) G g v.at_least t.has;
          same = normal_along w G y f a b v.width s.width lG same_on (λ j o. ap (λ q. a *ℤ q) (v.zero_at j o) ∙ *ℤ-zero a ∙ sym (ap (λ q. b *ℤ q) (s.zero_at j o) ∙ *ℤ-zero b));
        }

pub extreme_of_support : (w : ℕ) (G : List Vector) (f : Vector) → Each (HasWidth w) G → IsSupportForm w G f → IsExtremeForm w G f
extreme_of_support w G f lG s y v z = on_ray_by_facet w G f y lG s v
    (each_map2 (Contains G) (λ u. dot f u ≡ pos 0) (λ u. dot y u ≡ pos 0) s.facet.vectors (λ u k e. Each-contains (λ x. dot f x ≡ pos 0 → dot y x ≡ pos 0) G u z k e) s.facet.of_list s.facet.zero_on)

-- two support forms that are 0 on the same independent vectors, one fewer than the rank, are the same
pub same_support_form : (w : ℕ) (G : List Vector) (f g : Vector) (vs : List Vector) → Each (HasWidth w) G → IsSupportForm w G f → IsSupportForm w G g → Each (Contains G) vs → IsIndependent w vs → HasRank w (Contains G) (suc (length vs))
    → Each (λ v. dot f v ≡ pos 0) vs → Each (λ v. dot g v ≡ pos 0) vs → f ≡ g
same_support_form w G f g vs lG s t of_list free rank zf zg =
    let s' : IsSupportForm w G f = record { width = s.width; primitive = s.primitive; zero_at = s.zero_at; at_least = s.at_least; not_all = s.not_all; facet = record { vectors = vs; of_list = of_list; independent = free; zero_on = zf; rank = rank } } in
    sym (same_on_ray w g f t.width s.width t.primitive s.primitive (on_ray_by_facet w G f g lG s' (support_is_valid w G g t) zg))
