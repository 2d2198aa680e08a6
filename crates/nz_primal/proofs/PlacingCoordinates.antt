-- Support forms and stages of placing are the same in coordinates of an independent base.
use Rattle.std.proofs.Common.{◌≡◌, ◌≢◌, inl, inr, ℕ, zero, suc, ◌+◌, ◌-◌, List, [], ◌∷◌, length, map, take, ℤ, pos, ◌*ℤ◌, ◌≤ℤ◌, ◌<ℤ◌, Contains, refl, sym, ap, ap₂, ◌∙◌, subst, arith}
use Rattle.std.proofs.Math.IntN.{*ℤ-zero}
use Rattle.std.proofs.lemmas.List.{length-map, map-append}
use Rattle.std.specs.List.{AllByRecursion as Each, AllZip, range_with_len}
use Rattle.nz_spec.specs.Vectors.{Vector, dot, combination, entry, HasWidth, IsPrimitive}
use Rattle.nz_spec.specs.Sums.{IsInSpan, IsIndependent, HasRank}
use Rattle.nz_spec.specs.Order.{Pairwise, HasNumber}
use Rattle.nz_spec.specs.Forms.{IsOtherColumn, IsSupportForm}
use Rattle.nz_spec.specs.Stages.{IsFreshVector, Separates, none, fresh, other, IsIndependentFirst, ArePlacings}
use Rattle.nz_spec.proofs.IntLaws.{mul-nonneg}
use Rattle.nz_spec.proofs.ListLaws.{contains_here, contains_there, contains_cases, contains_none, Each-contains}
use Rattle.nz_linear.specs.Coordinates.{in_coordinates}
use Rattle.nz_linear.proofs.Ring.{sums, ring_z}
use Rattle.nz_linear.proofs.Signs.{mul_pos, mul_is_zero, mul_is_nonneg}
use Rattle.nz_linear.proofs.Lists.{each_map, each_map2, each_of_map, map_each, each_append}
use Rattle.nz_linear.proofs.VectorLaws.{scaled-dot}
use Rattle.nz_linear.proofs.NormalForms.{normal_unique}
use Rattle.nz_linear.proofs.SumCoordinates as sum
use Rattle.nz_primal.proofs.SecondLemmas.{row_value}
use Rattle.nz_primal.proofs.NormalForms.{form_with_values, normal_of}

-- ---- values that agree but for positive factors
nonneg_by : (a b x y : ℤ) → pos 0 <ℤ a → pos 0 <ℤ b → a *ℤ x ≡ b *ℤ y → pos 0 ≤ℤ y → pos 0 ≤ℤ x
nonneg_by a b x y pa pb e h = mul_is_nonneg a x pa (subst (λ z. pos 0 ≤ℤ z) (sym e) (mul-nonneg b y (let p = pb in omega (arith, sums)) h))

zero_by : (a b x y : ℤ) → pos 0 <ℤ a → a *ℤ x ≡ b *ℤ y → y ≡ pos 0 → x ≡ pos 0
zero_by a b x y pa e h = mul_is_zero a x pa (e ∙ ap (λ z. b *ℤ z) h ∙ *ℤ-zero b)

cross : (a b c d x y z : ℤ) → a *ℤ x ≡ b *ℤ y → c *ℤ x ≡ d *ℤ z → (c *ℤ b) *ℤ y ≡ (a *ℤ d) *ℤ z
cross a b c d x y z e f =
    let k = ap (λ t. c *ℤ t) e in
    let m = ap (λ t. a *ℤ t) f in
    let k' = simp ring_z at k in
    simp ring_z (omega (arith, sums, k', m))

record Pulled (f : Vector → Vector) (G us : List Vector) : Type 0 where
  list : List Vector
  of_list : Each (Contains G) list
  same : map f list ≡ us

pulled : (f : Vector → Vector) (G us : List Vector) → Each (Contains (map f G)) us → Pulled f G us
pulled f G [] h = record { list = []; of_list = tt; same = refl }
pulled f G (u ∷ us) h =
    let i = sum.image_of f G u h.0 in
    let r = pulled f G us h.1 in
    record { list = i.source ∷ r.list; of_list = (i.has, r.of_list); same = ap₂ (λ v vs. v ∷ vs) i.same r.same }

module _ (w : ℕ) (base : List Vector) (lw : Each (HasWidth w) base) (free : IsIndependent w base) where
  abbrev at : Vector → Vector
  at c = combination w c base

  abbrev r : ℕ
  r = length base

  rank_back : (G : List Vector) (n : ℕ) → Each (HasWidth (length base)) G → HasRank w (Contains (map at G)) n → HasRank (length base) (Contains G) n
  rank_back G n l h =
      let p = pulled at G h.base h.members in
      let lb : Each (HasWidth (length base)) p.list = each_map (Contains G) (HasWidth (length base)) p.list (λ c k. Each-contains (HasWidth (length base)) G c l k) p.of_list in
      record {
        base = p.list;
        size = sym (length-map p.list at) ∙ ap length p.same ∙ h.size;
        members = p.of_list;
        independent = sum.independent_back w base lw free p.list lb (subst (IsIndependent w) (sym p.same) h.independent);
        all = λ x c. sum.sum_back w base lw free (λ m f. Unit {0}) p.list x lb (Each-contains (HasWidth (length base)) G x l c) (subst (λ vs. IsInSpan w vs (at x)) (sym p.same) (h.all (at x) (sum.mapped_has at G x c)));
      }

  -- the form f has at the vectors the values that g has at their coordinates, but for positive factors
  record Matches (G : List Vector) (f g : Vector) : Type 0 where
    a : ℤ
    b : ℤ
    positive_a : pos 0 <ℤ a
    positive_b : pos 0 <ℤ b
    values : Each (λ v. a *ℤ dot f (at v) ≡ b *ℤ dot g v) G

  support_forth : (G : List Vector) (f g : Vector) → Each (HasWidth (length base)) G → HasWidth w f → IsPrimitive f → ((j : ℕ) → IsOtherColumn w (map at G) j → entry f j ≡ pos 0) → Matches G f g → IsSupportForm (length base) G g → IsSupportForm w (map at G) f
  support_forth G f g l lf pf zf m s =
      let vs = s.facet.vectors in
      let lv : Each (HasWidth (length base)) vs = each_map (Contains G) (HasWidth (length base)) vs (λ v c. Each-contains (HasWidth (length base)) G v l c) s.facet.of_list in
      record {
        width = lf;
        primitive = pf;
        zero_at = zf;
        at_least = each_of_map at (λ h. pos 0 ≤ℤ dot f h) G (each_map2 (λ v. m.a *ℤ dot f (at v) ≡ m.b *ℤ dot g v) (λ v. pos 0 ≤ℤ dot g v) (λ v. pos 0 ≤ℤ dot f (at v)) G (λ v e h. nonneg_by m.a m.b (dot f (at v)) (dot g v) m.positive_a m.positive_b e h) m.values s.at_least);
        not_all = λ z. s.not_all (each_map2 (λ v. m.a *ℤ dot f (at v) ≡ m.b *ℤ dot g v) (λ v. dot f (at v) ≡ pos 0) (λ v. dot g v ≡ pos 0) G (λ v e h. zero_by m.b m.a (dot g v) (dot f (at v)) m.positive_b (sym e) h) m.values (map_each at (λ h. dot f h ≡ pos 0) G z));
        facet = record {
          vectors = map at vs;
          of_list = each_of_map at (Contains (map at G)) vs (each_map (Contains G) (λ v. Contains (map at G) (at v)) vs (λ v c. sum.mapped_has at G v c) s.facet.of_list);
          independent = sum.independent_forth w base lw free vs lv s.facet.independent;
          zero_on = each_of_map at (λ h. dot f h ≡ pos 0) vs (each_map2 (Contains G) (λ v. dot g v ≡ pos 0) (λ v. dot f (at v) ≡ pos 0) vs (λ v c z. zero_by m.a m.b (dot f (at v)) (dot g v) m.positive_a (Each-contains (λ v. m.a *ℤ dot f (at v) ≡ m.b *ℤ dot g v) G v m.values c) z) s.facet.of_list s.facet.zero_on);
          rank = subst (HasRank w (Contains (map at G))) (ap suc (sym (length-map vs at))) (sum.rank_forth w base lw free G (suc (length vs)) l s.facet.rank);
        };
      }

  support_back : (G : List Vector) (f g : Vector) → Each (HasWidth (length base)) G → HasWidth (length base) g → IsPrimitive g → ((j : ℕ) → IsOtherColumn (length base) G j → entry g j ≡ pos 0) → Matches G f g → IsSupportForm w (map at G) f → IsSupportForm (length base) G g
  support_back G f g l lg pg zg m s =
      let p = pulled at G s.facet.vectors s.facet.of_list in
      let vs = p.list in
      let lv : Each (HasWidth (length base)) vs = each_map (Contains G) (HasWidth (length base)) vs (λ v c. Each-contains (HasWidth (length base)) G v l c) p.of_list in
      let size : length s.facet.vectors ≡ length vs = ap length (sym p.same) ∙ length-map vs at in
      record {
        width = lg;
        primitive = pg;
        zero_at = zg;
        at_least = each_map2 (λ v. m.a *ℤ dot f (at v) ≡ m.b *ℤ dot g v) (λ v. pos 0 ≤ℤ dot f (at v)) (λ v. pos 0 ≤ℤ dot g v) G (λ v e h. nonneg_by m.b m.a (dot g v) (dot f (at v)) m.positive_b m.positive_a (sym e) h) m.values (map_each at (λ h. pos 0 ≤ℤ dot f h) G s.at_least);
        not_all = λ z. s.not_all (each_of_map at (λ h. dot f h ≡ pos 0) G (each_map2 (λ v. m.a *ℤ dot f (at v) ≡ m.b *ℤ dot g v) (λ v. dot g v ≡ pos 0) (λ v. dot f (at v) ≡ pos 0) G (λ v e h. zero_by m.a m.b (dot f (at v)) (dot g v) m.positive_a e h) m.values z));
        facet = record {
          vectors = vs;
          of_list = p.of_list;
          independent = sum.independent_back w base lw free vs lv (subst (IsIndependent w) (sym p.same) s.facet.independent);
          zero_on = each_map2 (Contains G) (λ v. dot f (at v) ≡ pos 0) (λ v. dot g v ≡ pos 0) vs (λ v c z. zero_by m.b m.a (dot g v) (dot f (at v)) m.positive_b (sym (Each-contains (λ v. m.a *ℤ dot f (at v) ≡ m.b *ℤ dot g v) G v m.values c)) z) p.of_list (map_each at (λ h. dot f h ≡ pos 0) vs (subst (Each (λ h. dot f h ≡ pos 0)) (sym p.same) s.facet.zero_on));
          rank = subst (HasRank (length base) (Contains G)) (ap suc size) (rank_back G (suc (length s.facet.vectors)) l s.facet.rank);
        };
      }

  -- each support form in coordinates has one of the vectors that matches it
  record Counterpart (G : List Vector) (g : Vector) : Type 0 where
    form : Vector
    support : IsSupportForm w (map at G) form
    matches : Matches G form g

  counterpart : (G : List Vector) (g : Vector) → Each (HasWidth (length base)) G → IsSupportForm (length base) G g → Counterpart G g
  counterpart G g l s =
      let t = form_with_values w base g lw free s.width in
      let value : (v : Vector) → dot t.form (at v) ≡ t.factor *ℤ dot g v = λ v. row_value w base t.form v lw ∙ ap (λ f. dot f v) t.same ∙ scaled-dot t.factor g v in
      let n = normal_of w (map at G) t.form (sum.at_widths w base lw free G) t.width (λ z. s.not_all (each_map (λ v. dot t.form (at v) ≡ pos 0) (λ v. dot g v ≡ pos 0) G (λ v e. mul_is_zero t.factor (dot g v) t.positive (sym (value v) ∙ e)) (map_each at (λ h. dot t.form h ≡ pos 0) G z))) in
      let k = n.1 in
      let m : Matches G n.0 g = record {
        a = k.a;
        b = k.b *ℤ t.factor;
        positive_a = k.positive_a;
        positive_b = mul_pos k.b t.factor k.positive_b t.positive;
        values = each_map (λ v. k.a *ℤ dot n.0 (at v) ≡ k.b *ℤ dot t.form (at v)) (λ v. k.a *ℤ dot n.0 (at v) ≡ (k.b *ℤ t.factor) *ℤ dot g v) G (λ v e. e ∙ ap (λ z. k.b *ℤ z) (value v) ∙ again k.b t.factor (dot g v)) (map_each at (λ h. k.a *ℤ dot n.0 h ≡ k.b *ℤ dot t.form h) G k.values);
      } in
      record { form = n.0; support = support_forth G n.0 g l k.width k.primitive k.zero_at m s; matches = m }
    where
      again : (b D x : ℤ) → b *ℤ (D *ℤ x) ≡ (b *ℤ D) *ℤ x
      again b D x = simp ring_z (omega (arith, sums))

  -- two forms in coordinates that match one of the vectors are the same
  same_coordinates_form : (G : List Vector) (f g h : Vector) → Each (HasWidth (length base)) G → Matches G f g → Matches G f h → IsSupportForm (length base) G g → IsSupportForm (length base) G h → g ≡ h
  same_coordinates_form G f g h l m n s t =
      normal_unique (length base) G g h (n.a *ℤ m.b) (m.a *ℤ n.b) (mul_pos n.a m.b n.positive_a m.positive_b) (mul_pos m.a n.b m.positive_a n.positive_b) s.width t.width s.primitive t.primitive l
      (each_map2 (λ v. m.a *ℤ dot f (at v) ≡ m.b *ℤ dot g v) (λ v. n.a *ℤ dot f (at v) ≡ n.b *ℤ dot h v) (λ v. (n.a *ℤ m.b) *ℤ dot g v ≡ (m.a *ℤ n.b) *ℤ dot h v) G (λ v e k. cross m.a m.b n.a n.b (dot f (at v)) (dot g v) (dot h v) e k) m.values n.values)
      (λ j o. ap (λ z. (n.a *ℤ m.b) *ℤ z) (s.zero_at j o) ∙ *ℤ-zero (n.a *ℤ m.b) ∙ sym (ap (λ z. (m.a *ℤ n.b) *ℤ z) (t.zero_at j o) ∙ *ℤ-zero (m.a *ℤ n.b)))

  -- and two of the vectors that match one in coordinates
  same_form : (G : List Vector) (f h g : Vector) → Matches G f g → Matches G h g → IsSupportForm w (map at G) f → IsSupportForm w (map at G) h → f ≡ h
  same_form G f h g m n s t =
      normal_unique w (map at G) f h (n.b *ℤ m.a) (m.b *ℤ n.a) (mul_pos n.b m.a n.positive_b m.positive_a) (mul_pos m.b n.a m.positive_b n.positive_a) s.width t.width s.primitive t.primitive (sum.at_widths w base lw free G)
      (each_of_map at (λ x. (n.b *ℤ m.a) *ℤ dot f x ≡ (m.b *ℤ n.a) *ℤ dot h x) G (each_map2 (λ v. m.a *ℤ dot f (at v) ≡ m.b *ℤ dot g v) (λ v. n.a *ℤ dot h (at v) ≡ n.b *ℤ dot g v) (λ v. (n.b *ℤ m.a) *ℤ dot f (at v) ≡ (m.b *ℤ n.a) *ℤ dot h (at v)) G (λ v e k. cross m.b m.a n.b n.a (dot g v) (dot f (at v)) (dot h (at v)) (sym e) (sym k)) m.values n.values))
      (λ j o. ap (λ z. (n.b *ℤ m.a) *ℤ z) (s.zero_at j o) ∙ *ℤ-zero (n.b *ℤ m.a) ∙ sym (ap (λ z. (m.b *ℤ n.a) *ℤ z) (t.zero_at j o) ∙ *ℤ-zero (m.b *ℤ n.a)))

  -- ---- as many support forms
  record Counterparts (G gs : List Vector) : Type 0 where
    forms : List Vector
    each : AllZip (λ g f. IsSupportForm (length base) G g × IsSupportForm w (map at G) f × Matches G f g) gs forms

  counterparts : (G gs : List Vector) → Each (HasWidth (length base)) G → Each (IsSupportForm (length base) G) gs → Counterparts G gs
  counterparts G [] l s = record { forms = []; each = tt }
  counterparts G (g ∷ gs) l s =
      let c = counterpart G g l s.0 in
      let r = counterparts G gs l s.1 in
      record { forms = c.form ∷ r.forms; each = ((s.0, c.support, c.matches), r.each) }

  apart_from : (G : List Vector) (f g : Vector) (gs fs : List Vector) → Each (HasWidth (length base)) G → IsSupportForm (length base) G g → Matches G f g → Each (λ h. g ≢ h) gs → AllZip (λ g f. IsSupportForm (length base) G g × IsSupportForm w (map at G) f × Matches G f g) gs fs → Each (λ h. f ≢ h) fs
  apart_from G f g [] [] l s m d z = tt
  apart_from G f g [] (h ∷ fs) l s m d z = absurd z
  apart_from G f g (k ∷ gs) [] l s m d z = absurd z
  apart_from G f g (k ∷ gs) (h ∷ fs) l s m d z = (
    λ e. d.0 (same_coordinates_form G f g k l m (subst (λ x. Matches G x k) (sym e) z.0.2) s z.0.0),
    apart_from G f g gs fs l s m d.1 z.1,
  )

  all_apart : (G gs fs : List Vector) → Each (HasWidth (length base)) G → Pairwise ◌≢◌ gs → AllZip (λ g f. IsSupportForm (length base) G g × IsSupportForm w (map at G) f × Matches G f g) gs fs → Pairwise ◌≢◌ fs
  all_apart G [] [] l d z = tt
  all_apart G [] (h ∷ fs) l d z = absurd z
  all_apart G (k ∷ gs) [] l d z = absurd z
  all_apart G (k ∷ gs) (h ∷ fs) l d z = (apart_from G h k gs fs l z.0.0 z.0.2 d.0 z.1, all_apart G gs fs l d.1 z.1)

  record Partner (G : List Vector) (g : Vector) (fs : List Vector) : Type 0 where
    form : Vector
    has : Contains fs form
    support : IsSupportForm w (map at G) form
    matches : Matches G form g

  partner : (G : List Vector) (g : Vector) (gs fs : List Vector) → Contains gs g → AllZip (λ g f. IsSupportForm (length base) G g × IsSupportForm w (map at G) f × Matches G f g) gs fs → Partner G g fs
  partner G g [] fs c z = absurd (contains_none g c)
  partner G g (k ∷ gs) [] c z = absurd z
  partner G g (k ∷ gs) (h ∷ fs) c z = elim (contains_cases k gs g c) [
    | inl e ↦ record { form = h; has = contains_here h fs; support = z.0.1; matches = subst (Matches G h) e z.0.2 }
    | inr d ↦ (let p = partner G g gs fs d z.1 in record { form = p.form; has = contains_there h p.form fs p.has; support = p.support; matches = p.matches })
  ]

  supports_only : (G gs fs : List Vector) → AllZip (λ g f. IsSupportForm (length base) G g × IsSupportForm w (map at G) f × Matches G f g) gs fs → Each (IsSupportForm w (map at G)) fs
  supports_only G [] [] z = tt
  supports_only G [] (h ∷ fs) z = absurd z
  supports_only G (k ∷ gs) [] z = absurd z
  supports_only G (k ∷ gs) (h ∷ fs) z = (z.0.1, supports_only G gs fs z.1)

  counterparts_size : (G gs fs : List Vector) → AllZip (λ g f. IsSupportForm (length base) G g × IsSupportForm w (map at G) f × Matches G f g) gs fs → length fs ≡ length gs
  counterparts_size G [] [] z = refl
  counterparts_size G [] (h ∷ fs) z = absurd z
  counterparts_size G (k ∷ gs) [] z = absurd z
  counterparts_size G (k ∷ gs) (h ∷ fs) z = ap suc (counterparts_size G gs fs z.1)

  number_forth : (G : List Vector) (n : ℕ) → Each (HasWidth (length base)) G → HasNumber (IsSupportForm (length base) G) n → HasNumber (IsSupportForm w (map at G)) n
  number_forth G n l h =
      let c = counterparts G h.list l h.lists.only in
      record {
        list = c.forms;
        lists = record {
          in_order = all_apart G h.list c.forms l h.lists.in_order c.each;
          only = supports_only G h.list c.forms c.each;
          each = λ f s. listed G h.list c.forms f l h.lists.each c.each s;
        };
        size = counterparts_size G h.list c.forms c.each ∙ h.size;
      }
    where
      listed : (G gs fs : List Vector) (f : Vector) → Each (HasWidth (length base)) G → ((g : Vector) → IsSupportForm (length base) G g → Contains gs g) → AllZip (λ g f. IsSupportForm (length base) G g × IsSupportForm w (map at G) f × Matches G f g) gs fs → IsSupportForm w (map at G) f → Contains fs f
      listed G gs fs f l all z s =
          let g0 = in_coordinates base f in
          let lg0 : HasWidth (length base) g0 = length-map base (λ v. dot f v) in
          let value : (v : Vector) → dot f (at v) ≡ dot g0 v = λ v. row_value w base f v lw in
          let n = normal_of (length base) G g0 l lg0 (λ z. s.not_all (each_of_map at (λ h. dot f h ≡ pos 0) G (each_map (λ v. dot g0 v ≡ pos 0) (λ v. dot f (at v) ≡ pos 0) G (λ v e. value v ∙ e) z))) in
          let k = n.1 in
          let m : Matches G f n.0 = record {
            a = k.b;
            b = k.a;
            positive_a = k.positive_b;
            positive_b = k.positive_a;
            values = each_map (λ v. k.a *ℤ dot n.0 v ≡ k.b *ℤ dot g0 v) (λ v. k.b *ℤ dot f (at v) ≡ k.a *ℤ dot n.0 v) G (λ v e. ap (λ z. k.b *ℤ z) (value v) ∙ sym e) k.values;
          } in
          let sg = support_back G f n.0 l k.width k.primitive k.zero_at m s in
          let p = partner G n.0 gs fs (all n.0 sg) z in
          subst (Contains fs) (same_form G p.form f n.0 p.matches m p.support s) p.has

  -- ---- stages
  separates_forth : {earlier vs first others : List Vector} → Separates (IsFreshVector (length base)) earlier vs first others → Each (HasWidth (length base)) earlier → Each (HasWidth (length base)) vs → Separates (IsFreshVector w) (map at earlier) (map at vs) (map at first) (map at others)
  separates_forth none le lv = none
  separates_forth (fresh {earlier = earlier} {v = v} n s) le lv = fresh (λ i. n (sum.sum_back w base lw free (λ m f. Unit {0}) earlier v le lv.0 i)) (separates_forth s (lv.0, le) lv.1)
  separates_forth (other {earlier = earlier} {v = v} n s) le lv = other (λ k. n (λ i. k (sum.sum_forth w base lw free (λ m f. Unit {0}) earlier v le i))) (separates_forth s (lv.0, le) lv.1)

  take_mapped : (f : Vector → Vector) (k : ℕ) (xs : List Vector) → take k (map f xs) ≡ map f (take k xs)
  take_mapped f zero xs = refl
  take_mapped f (suc k) [] = refl
  take_mapped f (suc k) (x ∷ xs) = ap (λ ys. f x ∷ ys) (take_mapped f k xs)

  take_wide : (k : ℕ) (xs : List Vector) → Each (HasWidth (length base)) xs → Each (HasWidth (length base)) (take k xs)
  take_wide zero xs l = tt
  take_wide (suc k) [] l = tt
  take_wide (suc k) (x ∷ xs) l = (l.0, take_wide k xs l.1)

  counts_forth : (list : List Vector) (ks : List ℕ) (pairs : List (ℕ × ℕ)) → Each (HasWidth (length base)) list → AllZip (λ k (pair : ℕ × ℕ). (pair.0 ≡ k) × HasNumber (IsSupportForm (length base) (take k list)) pair.1) ks pairs → AllZip (λ k (pair : ℕ × ℕ). (pair.0 ≡ k) × HasNumber (IsSupportForm w (take k (map at list))) pair.1) ks pairs
  counts_forth list [] [] l z = tt
  counts_forth list [] (p ∷ pairs) l z = absurd z
  counts_forth list (k ∷ ks) [] l z = absurd z
  counts_forth list (k ∷ ks) (p ∷ pairs) l z = (
    (z.0.0, subst (λ G. HasNumber (IsSupportForm w G) p.1) (sym (take_mapped at k list)) (number_forth (take k list) p.1 (take_wide k list l) z.0.1)),
    counts_forth list ks pairs l z.1,
  )

  pub placings_forth : (vs : List Vector) (pairs : List (ℕ × ℕ)) → Each (HasWidth (length base)) vs → ArePlacings (length base) vs pairs → ArePlacings w (map at vs) pairs
  placings_forth [] pairs l e = e
  placings_forth (v ∷ vs) pairs l p =
      let i = p.in_order in
      let lo : Each (HasWidth (length base)) p.ordered = ordered_wide i in
      record {
        ordered = map at p.ordered;
        rank = p.rank;
        in_order = record {
          first = map at i.first;
          others = map at i.others;
          separates = separates_forth i.separates tt l;
          whole = ap (map at) i.whole ∙ map-append at i.first i.others;
        };
        has_rank = sum.rank_forth w base lw free (v ∷ vs) p.rank l p.has_rank;
        counts = subst (λ n. AllZip (λ k (pair : ℕ × ℕ). (pair.0 ≡ k) × HasNumber (IsSupportForm w (take k (map at p.ordered))) pair.1) (range_with_len p.rank (n + 1 - p.rank)) pairs) (sym (length-map p.ordered at)) (counts_forth p.ordered (range_with_len p.rank (length p.ordered + 1 - p.rank)) pairs lo p.counts);
      }
    where
      parts_wide : {earlier us first others : List Vector} → Separates (IsFreshVector (length base)) earlier us first others → Each (HasWidth (length base)) us → Each (HasWidth (length base)) first × Each (HasWidth (length base)) others
      parts_wide none l = (tt, tt)
      parts_wide (fresh n s) l = let r = parts_wide s l.1 in ((l.0, r.0), r.1)
      parts_wide (other n s) l = let r = parts_wide s l.1 in (r.0, (l.0, r.1))

      ordered_wide : (i : IsIndependentFirst (IsFreshVector (length base)) (v ∷ vs) p.ordered) → Each (HasWidth (length base)) p.ordered
      ordered_wide i = let q = parts_wide i.separates l in subst (Each (HasWidth (length base))) (sym i.whole) (each_append (HasWidth (length base)) i.first i.others q.0 q.1)
