-- The forms of the shadows of the rays are those of the next shadow, and normal forms up to their sign.
use Rattle.std.proofs.Common.{◌≡◌, inl, inr, ⊎_elim, ℕ, zero, suc, ◌<◌, ◌≤◌, List, [], ◌∷◌, ◌++◌, length, get_or, take, map, ℤ, pos, ◌+ℤ◌, ◌-ℤ◌, ◌*ℤ◌, ◌≤ℤ◌, Contains, refl, sym, ap, ◌∙◌, subst, arith}
use Rattle.std.specs.List.{AllByRecursion as Each, AllZip}
use Rattle.std.proofs.lemmas.Int.{ints}
use Rattle.std.proofs.Math.IntN.{*ℤ-zero}
use Rattle.nz_spec.specs.Vectors.{Vector, dot, scaled, opposite, combination, level_of, HasWidth}
use Rattle.nz_spec.specs.Sums.{IsInSpan}
use Rattle.nz_spec.specs.Forms.{IsOtherColumn, IsEquationAt, IsNormalForm, IsSupportForm, AreEquations}
use Rattle.nz_spec.proofs.IntLaws.{mul-pos, nonneg_of_mul}
use Rattle.nz_spec.proofs.VectorLaws.{length-opposite, dot-scaled, scaled-scaled}
use Rattle.nz_spec.proofs.SumLaws.{dot-combination}
use Rattle.nz_spec.proofs.ListLaws.{Each-contains, Each-from_contains}
use Rattle.nz_spec.proofs.ConstraintLaws.{values_nonneg}
use Rattle.nz_linear.specs.Cones.{IsDoubleDescription}
use Rattle.nz_linear.proofs.Lists.{each_map, each_map2, each_append, each_left, each_right, each_of_map, map_each, zip_to_right}
use Rattle.nz_linear.proofs.Ring.{sums, mul-one}
use Rattle.nz_linear.proofs.VectorLaws.{length-scaled, cons_same}
use Rattle.nz_linear.proofs.Farkas.{generated}
use Rattle.nz_linear.proofs.EliminationRun.{run}
use Rattle.nz_linear.proofs.Rank.{rank_of_state, independent_more, full_independent_span}
use Rattle.nz_linear.proofs.Spans.{span_within, span_member}
use Rattle.nz_linear.proofs.SupportForms.{zero_or_positive, SomePositive}
use Rattle.nz_order.proofs.PairLaws.{opposite-dot}
use Rattle.nz_further.specs.Shadows.{IsInShadow, AreBounded, shadow_of}
use Rattle.nz_further.proofs.ShadowLaws.{shadow-combination, wide_shadows, shadow_by_forms, bounded_above, bounded_below, value_with_last}
use Rattle.nz_rays.proofs.RayLemmas.{IsNormalEitherWay}
use Rattle.nz_lift.specs.ShadowForms.{AreShadowForms}
use Rattle.nz_lift.specs.Directions.{AreFormsOf}

-- ---- forms, and equations with both signs
abbrev pub both_signs : (support equations : List Vector) → List Vector
both_signs support equations = (support ++ equations) ++ map opposite equations

-- what is turned with the form is at least 0 at all just where it is so at the support forms, and 0 at the equations
module _ (value : Vector → ℤ) (turned : (f : Vector) → value (opposite f) ≡ pos 0 -ℤ value f) (support equations : List Vector) where
  signs_forth : Each (λ f. pos 0 ≤ℤ value f) (both_signs support equations) → Each (λ f. pos 0 ≤ℤ value f) support × Each (λ f. value f ≡ pos 0) equations
  signs_forth h =
      let P : Vector → Type 0 = λ f. pos 0 ≤ℤ value f in
      let first = each_left P (support ++ equations) (map opposite equations) h in
      let second = map_each opposite P equations (each_right P (support ++ equations) (map opposite equations) h) in
      (each_left P support equations first, each_map2 P (λ f. P (opposite f)) (λ f. value f ≡ pos 0) equations (λ f a b. let t = turned f in omega (arith, ints, a, b, t)) (each_right P support equations first) second)

  signs_back : Each (λ f. pos 0 ≤ℤ value f) support → Each (λ f. value f ≡ pos 0) equations → Each (λ f. pos 0 ≤ℤ value f) (both_signs support equations)
  signs_back a b =
      let P : Vector → Type 0 = λ f. pos 0 ≤ℤ value f in
      each_append P (support ++ equations) (map opposite equations)
      (each_append P support equations a (each_map (λ f. value f ≡ pos 0) P equations (λ f z. omega (arith, ints, z)) b))
      (each_of_map opposite P equations (each_map (λ f. value f ≡ pos 0) (λ f. P (opposite f)) equations (λ f z. let t = turned f in omega (arith, ints, z, t)) b))

level_of-opposite : (f : Vector) → level_of (opposite f) ≡ pos 0 -ℤ level_of f
level_of-opposite [] = refl
level_of-opposite (a ∷ []) = omega (arith, ints)
level_of-opposite (a ∷ b ∷ f) = level_of-opposite (b ∷ f)

-- ---- normal forms
-- where the list is in the span of the vectors, what is no key column of these is none of the list
other_of_base : (w : ℕ) (G V : List Vector) (j : ℕ) → Each (HasWidth w) V → Each (IsInSpan w V) G → IsOtherColumn w V j → IsOtherColumn w G j
other_of_base w G V j l s o = record { within = o.within; not_key = λ k. o.not_key (k.0, span_within w G V k.0 l s k.1, k.2) }

-- so a support form is the dual form of a vector at which it is positive, among that one and independent ones at which it is 0
support_normal : (w : ℕ) (G : List Vector) (f : Vector) → Each (HasWidth w) G → IsSupportForm w G f → IsNormalForm w G f
support_normal w G f lG s = ⊎_elim (λ z. absurd (s.not_all z)) by (zero_or_positive f G s.at_least)
  where
    by : SomePositive f G → IsNormalForm w G f
    by t =
        let u = t.vector in
        let us = s.facet.vectors in
        let lu = Each-contains (HasWidth w) G u lG t.has in
        let lus = each_map (Contains G) (HasWidth w) us (λ x k. Each-contains (HasWidth w) G x lG k) s.facet.of_list in
        let p = t.positive in
        let free = independent_more w f u us lu lus (λ e. omega (arith, sums)) s.facet.zero_on s.facet.independent in
        let members : Each (Contains G) (u ∷ us) = (t.has, s.facet.of_list) in
        let all : Each (IsInSpan w (u ∷ us)) G = Each-from_contains (IsInSpan w (u ∷ us)) G (λ x k. full_independent_span w (Contains G) (suc (length us)) (u ∷ us) x (λ y m. Each-contains (HasWidth w) G y lG m) s.facet.rank members free refl k) in
        record {
          vectors = u ∷ us;
          of_list = members;
          independent = free;
          kind = inl (
            u,
            record {
              earlier = [];
              later = us;
              whole = refl;
              width = s.width;
              primitive = s.primitive;
              zero_at = λ j o. s.zero_at j (other_of_base w G (u ∷ us) j (lu, lus) all o);
              positive = t.positive;
              zero_on = s.facet.zero_on;
            },
          );
        }

-- an equation of a list is one of independent vectors of it that span it
equation_normal : (w : ℕ) (G : List Vector) (c : ℕ) (f : Vector) → Each (HasWidth w) G → IsOtherColumn w G c → IsEquationAt w G c f → IsNormalForm w G f
equation_normal w G c f lG o e =
    let s = run w G lG in
    let r = rank_of_state w G s.chosen s.free lG s.state in
    let V = r.base in
    let lV = each_map (Contains G) (HasWidth w) V (λ x k. Each-contains (HasWidth w) G x lG k) r.members in
    let all : Each (IsInSpan w V) G = Each-from_contains (IsInSpan w V) G r.all in
    let own : Each (IsInSpan w G) V = each_map (Contains G) (IsInSpan w G) V (λ x k. span_member w G x lG k) r.members in
    record {
      vectors = V;
      of_list = r.members;
      independent = r.independent;
      kind = inr (
        c,
        other_of_base w V G c lG own o,
        record {
          width = e.width;
          primitive = e.primitive;
          zero_on = each_map (Contains G) (λ g. dot f g ≡ pos 0) V (λ x k. Each-contains (λ g. dot f g ≡ pos 0) G x e.zero_on k) r.members;
          positive = e.positive;
          zero_at = λ j p. e.zero_at j (other_of_base w G V j lV all p);
        },
      );
    }

equations_normal : (w : ℕ) (G equations : List Vector) (columns : List ℕ) → Each (HasWidth w) G → Each (IsOtherColumn w G) columns → AllZip (IsEquationAt w G) columns equations → Each (IsNormalForm w G) equations
equations_normal w G [] [] lG o z = tt
equations_normal w G (f ∷ fs) [] lG o z = absurd z
equations_normal w G [] (c ∷ cs) lG o z = absurd z
equations_normal w G (f ∷ fs) (c ∷ cs) lG o z = (equation_normal w G c f lG o.0 z.0, equations_normal w G fs cs lG o.1 z.1)

opposite-opposite : (x : Vector) → opposite (opposite x) ≡ x
opposite-opposite [] = refl
opposite-opposite (a ∷ x) = cons_same (omega (arith, ints)) (opposite-opposite x)

pub equations_are_normal : (w : ℕ) (G equations : List Vector) → Each (HasWidth w) G → AreEquations w G equations → Each (IsNormalForm w G) equations
equations_are_normal w G equations lG e = equations_normal w G equations e.columns lG e.others.only e.each

pub forms_normal : (w : ℕ) (G forms : List Vector) → Each (HasWidth w) G → AreFormsOf w G forms → Each (IsNormalEitherWay w G) forms
forms_normal w G forms lG a =
    let E = equations_are_normal w G a.equations lG a.description.equation_forms in
    let P = IsNormalEitherWay w G in
    subst (Each P) (sym a.whole)
    (each_append P (a.support ++ a.equations) (map opposite a.equations)
    (each_append P a.support a.equations (each_map (IsSupportForm w G) P a.support (λ f s. inl (support_normal w G f lG s)) a.description.support_forms.only) (each_map (IsNormalForm w G) P a.equations (λ f n. inl n) E))
    (each_of_map opposite P a.equations (each_map (IsNormalForm w G) (λ f. P (opposite f)) a.equations (λ f n. inr (subst (IsNormalForm w G) (sym (opposite-opposite f)) n)) E)))

-- ---- over the shadow before
take-scaled : (j : ℕ) (k : ℤ) (x : Vector) → take j (scaled k x) ≡ scaled k (take j x)
take-scaled zero k x = refl
take-scaled (suc j) k [] = refl
take-scaled (suc j) k (a ∷ x) = ap (λ t. (k *ℤ a) ∷ t) (take-scaled j k x)

take_one : (j : ℕ) (x : Vector) → j < length x → take (suc j) x ≡ take j x ++ get_or x j (pos 0) ∷ []
take_one zero [] l = absurd (let f : ⊥ = omega (arith, l) in f)
take_one (suc j) [] l = absurd (let f : ⊥ = omega (arith, l) in f)
take_one zero (a ∷ x) l = refl
take_one (suc j) (a ∷ x) l = ap (λ t. a ∷ t) (take_one j x (omega (arith, l)))

scaled_with_zero : (k : ℤ) (c : Vector) → scaled k (c ++ pos 0 ∷ []) ≡ scaled k c ++ pos 0 ∷ []
scaled_with_zero k [] = ap (λ t. t ∷ []) (*ℤ-zero k)
scaled_with_zero k (a ∷ c) = ap (λ t. (k *ℤ a) ∷ t) (scaled_with_zero k c)

module _ (w : ℕ) (rows rays : List Vector) (level : Vector) (description : IsDoubleDescription w rows rays) (j : ℕ) (within : suc j ≤ w) where
  abbrev Shadows : List Vector
  Shadows = map (shadow_of level (suc j)) rays

  wide : Each (HasWidth (suc (suc j))) Shadows
  wide = wide_shadows w level (suc j) within rays description.ray_widths

  over_shadow : (f c : Vector) → HasWidth (suc (suc j)) f → Each (λ v. pos 0 ≤ℤ dot f v) Shadows → level_of f ≡ pos 0 → IsInShadow w rows level j c → pos 0 ≤ℤ dot f (pos 1 ∷ c ++ pos 0 ∷ [])
  over_shadow f c lf n z i =
      let x = i.vector in
      let g = generated w rows rays x description i.at_level.width i.at_level.at_least in
      let m = g.multiple in
      let K = m *ℤ i.multiple in
      let y = scaled m x in
      let ly : length y ≡ w = length-scaled w m x i.at_level.width in
      let t = get_or y j (pos 0) in
      let least : pos 0 ≤ℤ dot f (combination (suc (suc j)) g.factors Shadows) = subst (λ v. pos 0 ≤ℤ v) (sym (dot-combination f (suc (suc j)) g.factors Shadows wide)) (values_nonneg f g.factors Shadows g.each n) in
      let shadow : combination (suc (suc j)) g.factors Shadows ≡ shadow_of level (suc j) y = sym (shadow-combination w level (suc j) within g.factors rays description.ray_widths) ∙ ap (shadow_of level (suc j)) g.same in
      let first : dot level y ≡ K *ℤ pos 1 = dot-scaled level m x ∙ ap (λ v. m *ℤ v) i.at_level.at_level ∙ sym (mul-one K) in
      let others : take (suc j) y ≡ scaled K c ++ t ∷ [] = take_one j y (omega (arith, ly, within)) ∙ ap (λ v. v ++ t ∷ []) (take-scaled j m x ∙ ap (scaled m) i.first_entries ∙ scaled-scaled m i.multiple c) in
      let whole : combination (suc (suc j)) g.factors Shadows ≡ (K *ℤ pos 1) ∷ scaled K c ++ t ∷ [] = shadow ∙ cons_same first others in
      let front : Vector = (K *ℤ pos 1) ∷ scaled K c in
      let size : length f ≡ suc (length front) = (let a = length-scaled j K c i.size in omega (arith, lf, a)) in
      let split : dot f (front ++ t ∷ []) ≡ dot f (front ++ pos 0 ∷ []) +ℤ t *ℤ level_of f = value_with_last f front t size in
      let none : t *ℤ level_of f ≡ pos 0 = ap (λ v. t *ℤ v) z ∙ *ℤ-zero t in
      let back : scaled K (pos 1 ∷ c ++ pos 0 ∷ []) ≡ front ++ pos 0 ∷ [] = cons_same refl (scaled_with_zero K c) in
      let value : dot f (front ++ pos 0 ∷ []) ≡ K *ℤ dot f (pos 1 ∷ c ++ pos 0 ∷ []) = ap (dot f) (sym back) ∙ dot-scaled f K (pos 1 ∷ c ++ pos 0 ∷ []) in
      let h : pos 0 ≤ℤ dot f (front ++ t ∷ []) = subst (λ v. pos 0 ≤ℤ dot f v) whole least in
      nonneg_of_mul K (dot f (pos 1 ∷ c ++ pos 0 ∷ [])) (mul-pos m i.multiple g.positive i.positive) (let k : pos 0 ≤ℤ dot f (front ++ pos 0 ∷ []) = omega (arith, sums, h, split, none) in subst (λ v. pos 0 ≤ℤ v) value k)

  pub shadow_forms : AreBounded w rows level → (forms : List Vector) → AreFormsOf (suc (suc j)) Shadows forms → AreShadowForms w rows level j forms
  shadow_forms bounded forms a =
      let support = a.support in
      let equations = a.equations in
      let s = a.description.support_forms in
      let e = a.description.equation_forms in
      let n = suc (suc j) in
      let ls = each_map (IsSupportForm n Shadows) (HasWidth n) support (λ f k. k.width) s.only in
      let le = zip_to_right (IsEquationAt n Shadows) (HasWidth n) e.columns equations (λ c f k. k.width) e.each in
      let zero_on = zip_to_right (IsEquationAt n Shadows) (λ f. Each (λ g. dot f g ≡ pos 0) Shadows) e.columns equations (λ c f k. k.zero_on) e.each in
      let less : (f : Vector) → pos 0 -ℤ level_of (opposite f) ≡ pos 0 -ℤ (pos 0 -ℤ level_of f) = λ f. let t = level_of-opposite f in omega (arith, ints, t) in
      let whole = a.whole in
      let P : Vector → Type 0 = λ f. HasWidth n f × Each (λ v. pos 0 ≤ℤ dot f v) Shadows in
      let valid : Each P (both_signs support equations) =
      each_append P (support ++ equations) (map opposite equations)
      (each_append P support equations (each_map (IsSupportForm n Shadows) P support (λ f k. (k.width, k.at_least)) s.only)
      (each_map2 (HasWidth n) (λ f. Each (λ g. dot f g ≡ pos 0) Shadows) P equations (λ f l k. (l, each_map (λ g. dot f g ≡ pos 0) (λ g. pos 0 ≤ℤ dot f g) Shadows (λ g z. omega (arith, ints, z)) k)) le zero_on))
      (each_of_map opposite P equations (each_map2 (HasWidth n) (λ f. Each (λ g. dot f g ≡ pos 0) Shadows) (λ f. P (opposite f)) equations
      (λ f l k. (length-opposite f ∙ l, each_map (λ g. dot f g ≡ pos 0) (λ g. pos 0 ≤ℤ dot (opposite f) g) Shadows (λ g z. let t = opposite-dot f g in omega (arith, ints, z, t)) k)) le zero_on)) in
      let forms_valid : Each P forms = subst (Each P) (sym whole) valid in
      record {
        bounding = record {
          widths = each_map P (HasWidth n) forms (λ f k. k.0) forms_valid;
          below = λ h.
              let r = signs_forth (λ f. pos 0 -ℤ level_of f) less support equations (each_map (λ f. level_of f ≤ℤ pos 0) (λ f. pos 0 ≤ℤ (pos 0 -ℤ level_of f)) (both_signs support equations) (λ f k. omega (arith, ints, k)) (subst (Each (λ f. level_of f ≤ℤ pos 0)) whole h)) in
              bounded_below w rows rays level description bounded j within support equations s e ls le (each_map (λ f. pos 0 ≤ℤ (pos 0 -ℤ level_of f)) (λ f. level_of f ≤ℤ pos 0) support (λ f k. omega (arith, ints, k)) r.0, each_map (λ f. (pos 0 -ℤ level_of f) ≡ pos 0) (λ f. level_of f ≡ pos 0) equations (λ f k. omega (arith, ints, k)) r.1);
          above = λ h. bounded_above w rows rays level description bounded j within support equations s e ls le (signs_forth level_of level_of-opposite support equations (subst (Each (λ f. pos 0 ≤ℤ level_of f)) whole h));
        };
        meet = λ c l.
            let k = shadow_by_forms w rows rays level description (suc j) within support equations s e c l in
            let v : Vector → ℤ = λ f. dot f (pos 1 ∷ c) in
            let t : (f : Vector) → v (opposite f) ≡ pos 0 -ℤ v f = λ f. opposite-dot f (pos 1 ∷ c) in (
              (λ i. let r = k.0 i in subst (Each (λ f. pos 0 ≤ℤ dot f (pos 1 ∷ c))) (sym whole) (signs_back v t support equations r.0 r.1)),
              (λ h. k.1 (signs_forth v t support equations (subst (Each (λ f. pos 0 ≤ℤ dot f (pos 1 ∷ c))) whole h))),
            );
        over = λ c i. each_map P (λ f. level_of f ≡ pos 0 → pos 0 ≤ℤ dot f (pos 1 ∷ c ++ pos 0 ∷ [])) forms (λ f k z. over_shadow f c k.0 k.1 z i) forms_valid;
      }
