-- Worked examples of single words: the vector of a line, dual forms, floor sums, vertices, and the first element.
use Rattle.std.proofs.Common.{◌≡◌, ◌≢◌, inl, inr, [], ◌∷◌, ℤ, pos, negsuc, ◌+ℤ◌, ◌-ℤ◌, ◌*ℤ◌, ◌≤ℤ◌, ◌<ℤ◌, Some, None, refl, sym, ap, ap₂, ◌∙◌, subst, arith, false}
use Rattle.std.proofs.lemmas.Int.{ints}
use Rattle.std.specs.List.{AllZip}
use Rattle.nz_spec.specs.Vectors.{Vector, dot, plus, scaled, unit_vectors, IsZero, IsNonzero}
use Rattle.nz_spec.specs.Order.{StandsBefore}
use Rattle.nz_spec.specs.Forms.{IsDualForm, IsNormalForm}
use Rattle.nz_spec.specs.Boxes.{IsFloor, IsFloorSum}
use Rattle.nz_spec.specs.Systems.{System, IsMember}
use Rattle.nz_spec.specs.Monoids.{IsLeastLine, IsIrreducible, IsAlong}
use Rattle.nz_spec.specs.Elements.{IsRayElement, IsVertexElement, IsFirstNotPositive, IsSupportDescription, IsCoverOf}
use Rattle.nz_spec.specs.Constraints.{NotNegative, IsOutsideConstraint}
use Rattle.std.proofs.Math.IntN.{*ℤ_comm, *ℤ-zero}
use Rattle.nz_spec.proofs.IntLaws.{int_cases, zero_or_one, sub-mul}
use Rattle.nz_spec.proofs.VectorLaws.{zero_or_not}
use Rattle.nz_spec.proofs.PrimitiveLaws.{one_of_divisor}
use Rattle.nz_spec.proofs.LevelLaws.{module_irreducible}
use Rattle.nz_spec.proofs.ListLaws.{contains_here, contains_there}
use Rattle.nz_spec.proofs.Examples.{two, half_plane, half_plane_line, above_level, above_level_module, above_level_recession}
use Rattle.nz_spec.proofs.CoverExamples.{left, right, wedge, wedge_independent, wedge_rank, contains_one, no_other}
use Rattle.nz_spec.proofs.WedgeExamples.{wedge_system, wedge_support, wedge_extreme, wedge_support_list}
use Rattle.nz_spec.proofs.StageExamples.{above_level_system}

-- the unit vectors with two entries
pub two_units : unit_vectors 2 ≡ (pos 1 ∷ pos 0 ∷ []) ∷ (pos 0 ∷ pos 1 ∷ []) ∷ []
two_units = refl

-- where x_1 is at least 0, (0, 1) is the vector that names the line
pub half_plane_least : IsLeastLine (IsMember half_plane) (pos 0 ∷ pos 1 ∷ [])
half_plane_least = record {
  line = half_plane_line;
  least = λ k x h e m. no_part k x (two x m.width) h e;
  leads = inr (refl, inl (omega (arith, ints)));
}
  where
    no_product : (k b : ℤ) → pos 2 ≤ℤ k → k *ℤ b ≡ pos 1 → ⊥
    no_product k b h e = (let g = one_of_divisor k (omega (arith, ints, h)) (b, sym e ∙ *ℤ_comm k b) in omega (arith, ints, g, h))

    no_part : (k : ℤ) (x : Vector) → ((a b : ℤ) × (x ≡ a ∷ b ∷ [])) → pos 2 ≤ℤ k → scaled k x ≡ pos 0 ∷ pos 1 ∷ [] → ⊥
    no_part k x u h e =
        let s : scaled k (u.0 ∷ u.1 ∷ []) ≡ pos 0 ∷ pos 1 ∷ [] = ap (scaled k) (sym u.2) ∙ e in
        let f : k *ℤ u.1 ≡ pos 1 = cc in
        no_product k u.1 h f

-- of (1, 3) in the list of (1, 3) and (2, 1), (-1, 2) is the dual form
pub left_dual : IsDualForm 2 wedge left (negsuc 0 ∷ pos 2 ∷ [])
left_dual = record {
  earlier = [];
  later = right ∷ [];
  whole = refl;
  width = refl;
  primitive = λ d h. let k = h.0.0 in let e = h.0.1 in (pos 0 -ℤ k, omega (arith, ints, e, sub-mul (pos 0) k d));
  zero_at = λ j o. absurd (no_other j o);
  positive = omega (arith, ints);
  zero_on = (refl, tt);
}

-- and so it is a normal form of that list
pub left_normal : IsNormalForm 2 wedge (negsuc 0 ∷ pos 2 ∷ [])
left_normal = record {
  vectors = wedge;
  of_list = (contains_here left (right ∷ []), (contains_there left right (right ∷ []) (contains_here right []), tt));
  independent = wedge_independent;
  kind = inl (left, left_dual);
}

wedge_floors : AllZip (IsFloor (pos 5)) (pos 2 ∷ negsuc 0 ∷ []) (pos 0 ∷ negsuc 0 ∷ [])
wedge_floors = (record { at_most = omega (arith, ints); above = omega (arith, ints) }, (record { at_most = omega (arith, ints); above = omega (arith, ints) }, tt))

-- (0, 1) is (2/5) (1, 3) + (-1/5) (2, 1); with the floors 0 and -1 the first sum is (0, 0)
pub wedge_first_sum : IsFloorSum 2 wedge (pos 0 ∷ pos 0 ∷ [])
wedge_first_sum = record {
  unit = pos 0 ∷ pos 1 ∷ [];
  of_units = contains_there (pos 1 ∷ pos 0 ∷ []) (pos 0 ∷ pos 1 ∷ []) ((pos 0 ∷ pos 1 ∷ []) ∷ []) (contains_here (pos 0 ∷ pos 1 ∷ []) []);
  multiple = pos 5;
  factors = pos 2 ∷ negsuc 0 ∷ [];
  floors = pos 0 ∷ negsuc 0 ∷ [];
  n = 1;
  positive = omega (arith, ints);
  one_each = refl;
  same = refl;
  are_floors = wedge_floors;
  partial = refl;
}

-- and the second (-2, -1)
pub wedge_second_sum : IsFloorSum 2 wedge (negsuc 1 ∷ negsuc 0 ∷ [])
wedge_second_sum = record {
  unit = pos 0 ∷ pos 1 ∷ [];
  of_units = contains_there (pos 1 ∷ pos 0 ∷ []) (pos 0 ∷ pos 1 ∷ []) ((pos 0 ∷ pos 1 ∷ []) ∷ []) (contains_here (pos 0 ∷ pos 1 ∷ []) []);
  multiple = pos 5;
  factors = pos 2 ∷ negsuc 0 ∷ [];
  floors = pos 0 ∷ negsuc 0 ∷ [];
  n = 2;
  positive = omega (arith, ints);
  one_each = refl;
  same = refl;
  are_floors = wedge_floors;
  partial = refl;
}

-- above the level, (1, 1) is a vertex
pub above_level_vertex : IsVertexElement above_level (pos 1 ∷ pos 1 ∷ [])
above_level_vertex = record {
  has_level = refl;
  extreme = record {
    irreducible = ((module_irreducible above_level above_level_system refl (pos 1 ∷ pos 1 ∷ [])).0 above_level_module).0;
    splits_along = λ m a b h ma mb e.
        let u = two a ma.width in
        let v = two b mb.width in
        splits u.0 u.1 v.0 v.1 m a b u.2 v.2 ma mb e;
  };
  level_positive = omega (arith, ints);
}
  where
    along : (a b : ℤ) (x : Vector) → x ≡ a ∷ b ∷ [] → a ≡ b → IsAlong (pos 1 ∷ pos 1 ∷ []) x
    along a b x e f = record {
      multiple = pos 1;
      factor = b;
      positive = omega (arith, ints);
      same = (let p : pos 1 *ℤ a ≡ b *ℤ pos 1 = omega (arith, ints, f) in let q : pos 1 *ℤ b ≡ b *ℤ pos 1 = omega (arith, ints) in ap (scaled (pos 1)) e ∙ cc);
    }

    splits : (a b c d m : ℤ) (x y : Vector) → x ≡ a ∷ b ∷ [] → y ≡ c ∷ d ∷ [] → IsMember above_level x → IsMember above_level y → plus x y ≡ scaled m (pos 1 ∷ pos 1 ∷ []) → IsAlong (pos 1 ∷ pos 1 ∷ []) x × IsAlong (pos 1 ∷ pos 1 ∷ []) y
    splits a b c d m x y e f p q s =
        let k = (subst (IsMember above_level) e p).inequalities.0 in
        let l = (subst (IsMember above_level) f q).inequalities.0 in
        let t : plus (a ∷ b ∷ []) (c ∷ d ∷ []) ≡ scaled m (pos 1 ∷ pos 1 ∷ []) = ap₂ plus (sym e) (sym f) ∙ s in
        let g : a +ℤ c ≡ m *ℤ pos 1 = cc in
        let h : b +ℤ d ≡ m *ℤ pos 1 = cc in
        (along a b x e (omega (arith, ints, k, l, g, h)), along c d y f (omega (arith, ints, k, l, g, h)))

-- the orthant with the grading x_1 + c x_2
abbrev pub uneven : ℤ → System
uneven c = record {
  width = 2;
  level = false;
  eq = [];
  cg = [];
  ge = unit_vectors 2;
  gens = None;
  lat = None;
  grading = Some (pos 1 ∷ c ∷ []);
  asked = None;
}

module _ (c : ℤ) where
  uneven_member : (a b : ℤ) → pos 0 ≤ℤ a → pos 0 ≤ℤ b → IsMember (uneven c) (a ∷ b ∷ [])
  uneven_member a b h k = record { width = refl; equations = tt; congruences = tt; inequalities = (omega (arith, ints, h), (omega (arith, ints, k), tt)); generated = tt; in_group = tt }

  uneven_signs : (a b : ℤ) → IsMember (uneven c) (a ∷ b ∷ []) → (pos 0 ≤ℤ a) × (pos 0 ≤ℤ b)
  uneven_signs a b m =
      let h = m.inequalities.0 in
      let k = m.inequalities.1.0 in
      (omega (arith, ints, h), omega (arith, ints, k))

  uneven_one : IsIrreducible (IsMember (uneven c)) (pos 0 ∷ pos 1 ∷ [])
  uneven_one = record {
    member = uneven_member (pos 0) (pos 1) (omega (arith, ints)) (omega (arith, ints));
    nonzero = λ z. let e = z.1.0 in omega (arith, ints, e);
    no_sum = λ y z my ny mz nz e.
        let u = two y my.width in
        let v = two z mz.width in
        no_two u.0 u.1 v.0 v.1 (uneven_signs u.0 u.1 (subst (IsMember (uneven c)) u.2 my)) (uneven_signs v.0 v.1 (subst (IsMember (uneven c)) v.2 mz))
        (λ k. ny (subst IsZero (sym u.2) k)) (λ k. nz (subst IsZero (sym v.2) k)) (ap₂ plus (sym u.2) (sym v.2) ∙ e);
  }
    where
      no_two : (a b c d : ℤ) → ((pos 0 ≤ℤ a) × (pos 0 ≤ℤ b)) → ((pos 0 ≤ℤ c) × (pos 0 ≤ℤ d)) → IsNonzero (a ∷ b ∷ []) → IsNonzero (c ∷ d ∷ []) → plus (a ∷ b ∷ []) (c ∷ d ∷ []) ≡ pos 0 ∷ pos 1 ∷ [] → ⊥
      no_two a b c d h k n o e =
          let f : a +ℤ c ≡ pos 0 = cc in
          let g : b +ℤ d ≡ pos 1 = cc in
          let p = h.0 in
          let q = k.0 in
          elim (zero_or_one b h.1 (let r = k.1 in omega (arith, ints, g, r))) [
            | inl z ↦ n (omega (arith, ints, f, p, q), (z, tt))
            | inr z ↦ o (omega (arith, ints, f, p, q), (omega (arith, ints, g, z), tt))
          ]

  -- an irreducible vector but (0, 1) is (1, 0), of degree 1
  uneven_other : (a b : ℤ) → IsIrreducible (IsMember (uneven c)) (a ∷ b ∷ []) → (pos 0 ∷ pos 1 ∷ []) ≢ (a ∷ b ∷ []) → (a ≡ pos 1) × (b ≡ pos 0)
  uneven_other a b i ne =
      let s = uneven_signs a b i.member in
      elim (int_cases a) [
        | inl z ↦ absurd (elim (zero_or_not (pos 0 ∷ (b -ℤ pos 1) ∷ [])) [
          | inl e ↦ (let g : b ≡ pos 1 = omega (arith, ints, e.1.0) in ne (cc))
          | inr n ↦ elim (int_cases b) [
            | inl y ↦ i.nonzero (z, (y, tt))
            | inr h ↦ elim h [
              | inl p ↦ (let f : pos 0 +ℤ pos 0 ≡ a = omega (arith, ints, z) in let g : pos 1 +ℤ (b -ℤ pos 1) ≡ b = omega (arith, ints) in
                  i.no_sum (pos 0 ∷ pos 1 ∷ []) (pos 0 ∷ (b -ℤ pos 1) ∷ []) uneven_one.member uneven_one.nonzero (uneven_member (pos 0) (b -ℤ pos 1) (omega (arith, ints)) (omega (arith, ints, p))) n (cc))
              | inr p ↦ (let t = s.1 in omega (arith, ints, p, t))
            ]
          ]
        ])
        | inr h ↦ elim h [
          | inl p ↦ elim (zero_or_not ((a -ℤ pos 1) ∷ b ∷ [])) [
            | inl e ↦ (omega (arith, ints, e.0), e.1.0)
            | inr n ↦ absurd (let f : pos 1 +ℤ (a -ℤ pos 1) ≡ a = omega (arith, ints) in let g : pos 0 +ℤ b ≡ b = omega (arith, ints) in
                i.no_sum (pos 1 ∷ pos 0 ∷ []) ((a -ℤ pos 1) ∷ b ∷ []) (uneven_member (pos 1) (pos 0) (omega (arith, ints)) (omega (arith, ints))) (λ z. let e = z.0 in omega (arith, ints, e))
                (uneven_member (a -ℤ pos 1) b (omega (arith, ints, p)) s.1) n (cc))
          ]
          | inr p ↦ absurd (let t = s.0 in omega (arith, ints, p, t))
        ]
      ]

  -- where c is 0 or less, (0, 1) is the first element of the orthant, of degree c
  pub uneven_first : c ≤ℤ pos 0 → IsFirstNotPositive (uneven c) (pos 0 ∷ pos 1 ∷ [])
  uneven_first h0 = record {
    grading = pos 1 ∷ c ∷ [];
    given = refl;
    first = record {
      has = record { irreducible = uneven_one; level_zero = λ h. absurd cc };
      before = λ y h ne.
          let u = two y h.irreducible.member.width in
          let r = uneven_other u.0 u.1 (subst (IsIrreducible (IsMember (uneven c))) u.2 h.irreducible) (λ e. ne (u.2 ∙ sym e)) in
          subst (λ (v : Vector). StandsBefore (uneven c).grading (pos 0 ∷ pos 1 ∷ []) v) (sym u.2) (inl (smaller u.0 u.1 r.0 r.1));
    };
    not_positive = omega (arith, ints, h0);
  }
    where
      smaller : (a b : ℤ) → a ≡ pos 1 → b ≡ pos 0 → dot (pos 1 ∷ c ∷ []) (pos 0 ∷ pos 1 ∷ []) <ℤ dot (pos 1 ∷ c ∷ []) (a ∷ b ∷ [])
      smaller a b e f = omega (arith, ints, e, f, h0, ap (λ t. c *ℤ t) f, *ℤ-zero c)

-- with the grading x_1 - x_2 it is refused, and with x_1 as well
pub uneven_refused : IsFirstNotPositive (uneven (negsuc 0)) (pos 0 ∷ pos 1 ∷ []) × IsFirstNotPositive (uneven (pos 0)) (pos 0 ∷ pos 1 ∷ [])
uneven_refused = (uneven_first (negsuc 0) (omega (arith, ints)), uneven_first (pos 0) (omega (arith, ints)))

-- 1 is the floor of 5/5, and 0 is not
pub five_fifths : ¬ IsFloor (pos 5) (pos 5) (pos 0)
five_fifths h = let k = h.above in omega (arith, ints, k)

-- above the level, (1, 0) is an extreme ray
pub above_level_ray : IsRayElement above_level (pos 1 ∷ pos 0 ∷ [])
above_level_ray = record {
  extreme = record {
    irreducible = above_level_recession.irreducible;
    splits_along = λ m a b h ma mb e.
        let u = two a ma.width in
        let v = two b mb.width in
        splits u.0 u.1 v.0 v.1 m a b u.2 v.2 ma mb e;
  };
  level_zero = λ h. refl;
}
  where
    along : (a b : ℤ) (x : Vector) → x ≡ a ∷ b ∷ [] → b ≡ pos 0 → IsAlong (pos 1 ∷ pos 0 ∷ []) x
    along a b x e f = record {
      multiple = pos 1;
      factor = a;
      positive = omega (arith, ints);
      same = (let p : pos 1 *ℤ a ≡ a *ℤ pos 1 = omega (arith, ints) in let q : pos 1 *ℤ b ≡ a *ℤ pos 0 = omega (arith, ints, f) in ap (scaled (pos 1)) e ∙ cc);
    }

    splits : (a b c d m : ℤ) (x y : Vector) → x ≡ a ∷ b ∷ [] → y ≡ c ∷ d ∷ [] → IsMember above_level x → IsMember above_level y → plus x y ≡ scaled m (pos 1 ∷ pos 0 ∷ []) → IsAlong (pos 1 ∷ pos 0 ∷ []) x × IsAlong (pos 1 ∷ pos 0 ∷ []) y
    splits a b c d m x y e f p q s =
        let k = (subst (IsMember above_level) e p).inequalities.1.0 in
        let l = (subst (IsMember above_level) f q).inequalities.1.0 in
        let t : plus (a ∷ b ∷ []) (c ∷ d ∷ []) ≡ scaled m (pos 1 ∷ pos 0 ∷ []) = ap₂ plus (sym e) (sym f) ∙ s in
        let h : b +ℤ d ≡ m *ℤ pos 0 = cc in
        (along a b x e (omega (arith, ints, k, l, h)), along c d y f (omega (arith, ints, k, l, h)))

-- the outside constraint of (0, 1) is the first, x - level at least 0
pub above_level_outside : IsOutsideConstraint above_level [] (pos 0 ∷ pos 1 ∷ []) (NotNegative (pos 1 ∷ negsuc 0 ∷ []))
above_level_outside = record {
  constraints = NotNegative (pos 1 ∷ negsuc 0 ∷ []) ∷ NotNegative (pos 0 ∷ pos 1 ∷ []) ∷ [];
  are_constraints = record {
    equations = [];
    rows = above_level.ge;
    are_equations = record { of_gens = []; are_of_gens = refl; whole = refl };
    are_rows = record { of_gens = []; are_of_gens = refl; whole = refl };
    no_group = λ h. refl;
    whole = refl;
  };
  first = record { before = []; after = NotNegative (pos 0 ∷ pos 1 ∷ []) ∷ []; whole = refl; met = tt; broken = λ h. omega (arith, ints, h) };
}

-- the support description of the cone of (1, 3) and (2, 1): two forms and no equation
pub wedge_description : IsSupportDescription (wedge_system None) wedge_support []
wedge_description = record {
  extreme = wedge;
  are_extreme = wedge_extreme;
  description = record {
    support_forms = wedge_support_list;
    equation_forms = record { columns = []; others = record { in_order = tt; only = tt; each = λ j o. absurd (no_other j o) }; each = tt };
  };
}

-- and its cover: the one simplex of both
pub wedge_cover : IsCoverOf (wedge_system None) wedge ((0 ∷ 1 ∷ []) ∷ [])
wedge_cover = record {
  are_extreme = wedge_extreme;
  good = record {
    in_order = (tt, tt);
    simplices = (record { in_order = ((omega arith, tt), (tt, tt)); within = (omega arith, (omega arith, tt)); independent = wedge_independent; full = wedge_rank }, tt);
    covers = λ x m n. (0 ∷ 1 ∷ [], contains_here (0 ∷ 1 ∷ []) [], m.generated);
    no_overlap = λ p q c d ne. absurd (ne (sym (contains_one (0 ∷ 1 ∷ []) p c) ∙ contains_one (0 ∷ 1 ∷ []) q d));
    none = λ e. absurd cc;
  };
}
