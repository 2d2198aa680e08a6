-- Each pointed cone of rows has its list of extreme rays.
use Rattle.std.proofs.Common.{◌≡◌, ◌≢◌, ◌⊎◌, inl, inr, ℕ, List, [], ◌∷◌, ℤ, pos, ◌+ℤ◌, ◌≤ℤ◌, ◌<ℤ◌, sym, ap, ◌∙◌, subst, arith}
use Rattle.std.specs.List.{AllByRecursion as Each, Contains}
use Rattle.nz_spec.specs.Vectors.{plus, Vector, dot, scaled, zero_vector, combination, HasWidth, IsPrimitive}
use Rattle.nz_spec.specs.Sums.{IsInCone}
use Rattle.nz_spec.proofs.VectorLaws.{zero_or_not, zero_vector_of, add-scaled, int_is_zero}
use Rattle.nz_spec.proofs.SumLaws.{IsInCone-zero}
use Rattle.nz_spec.proofs.ListLaws.{Each-contains, contains_here, contains_there}
use Rattle.nz_spec.proofs.ConstraintLaws.{nonneg_on_cone}
use Rattle.nz_spec.proofs.EquationLaws.{dot_comm}
use Rattle.nz_spec.proofs.UniqueLaws.{same_or_not}
use Rattle.nz_linear.specs.Cones.{Satisfies}
use Rattle.nz_linear.specs.Extreme.{VanishesWith, IsPointed, Splits}
use Rattle.nz_linear.specs.DoubleDescription.{IsOnRay, IsExtremeByZeros, AreAdjacent}
use Rattle.nz_linear.specs.RayStep.{AreExtremeRays}
use Rattle.nz_linear.proofs.Ring.{sums}
use Rattle.nz_linear.proofs.Signs.{sign_cases}
use Rattle.nz_linear.proofs.Lists.{each_map, each_map2, each_map3}
use Rattle.nz_linear.proofs.Cones.{above_zero, cone_skip, cone_head, cone_scaled}
use Rattle.nz_linear.proofs.ConeMembers.{cone_within}
use Rattle.nz_linear.proofs.Division.{primitive_of, primitive_nonzero, primitive_unique}
use Rattle.nz_linear.proofs.RaySteps.{primitive_width, primitive_satisfies}
use Rattle.nz_linear.proofs.Farkas.{described, generated}
use Rattle.nz_linear.proofs.Extreme.{unsplit_generate, vanishes_multiple}
use Rattle.nz_linear.proofs.ExtremeRays.{between, same_on_ray}
use Rattle.nz_linear.proofs.Splitting.{opposite_is_zero}

-- ---- primitive vectors for the rays
record Primitives (w : ℕ) (rows rays : List Vector) : Type 0 where
  list : List Vector
  widths : Each (HasWidth w) list
  sound : Each (Satisfies rows) list
  primitive : Each IsPrimitive list
  all : Each (IsInCone w list) rays

primitives : (w : ℕ) (rows rays : List Vector) → Each (HasWidth w) rays → Each (Satisfies rows) rays → Primitives w rows rays
primitives w rows [] l s = record { list = []; widths = tt; sound = tt; primitive = tt; all = tt }
primitives w rows (r ∷ rays) l s =
    let t = primitives w rows rays l.1 s.1 in
    elim (zero_or_not r) [
      | inl z ↦ record {
        list = t.list;
        widths = t.widths;
        sound = t.sound;
        primitive = t.primitive;
        all = (subst (IsInCone w t.list) (sym (zero_vector_of r z ∙ ap zero_vector l.0)) (IsInCone-zero w t.list t.widths), t.all);
      }
      | inr n ↦ (
          let p = primitive_of r n in
          let lp = primitive_width w r p.y l.0 p.is in record {
            list = p.y ∷ t.list;
            widths = (lp, t.widths);
            sound = (primitive_satisfies rows r p.y p.is s.0, t.sound);
            primitive = (p.is.primitive, t.primitive);
            all = (
              subst (IsInCone w (p.y ∷ t.list)) p.is.same (cone_scaled w (p.y ∷ t.list) p.is.factor p.y (let q = p.is.positive in omega (arith, sums)) (cone_head w p.y t.list lp t.widths)),
              each_map (IsInCone w t.list) (IsInCone w (p.y ∷ t.list)) rays (λ x i. cone_skip w p.y t.list x lp t.widths i) t.all,
            );
          })
    ]

-- ---- each of them is extreme or split by another
vanishes_or_not : (rows : List Vector) (x y : Vector) → VanishesWith rows x y ⊎ ¬ VanishesWith rows x y
vanishes_or_not [] x y = inl tt
vanishes_or_not (a ∷ rows) x y = elim (vanishes_or_not rows x y) [
  | inl v ↦ elim (int_is_zero (dot a y)) [
    | inl e ↦ inl (λ z. e, v)
    | inr n ↦ elim (int_is_zero (dot a x)) [
      | inl z ↦ inr (λ (h : VanishesWith (a ∷ rows) x y). n (h.0 z))
      | inr m ↦ inl (λ z. absurd (m z), v)
    ]
  ]
  | inr n ↦ inr (λ (h : VanishesWith (a ∷ rows) x y). n h.1)
]

-- different primitive vectors of a pointed cone are no multiples of each other
not_along : (w : ℕ) (rows : List Vector) (g r : Vector) → IsPointed w rows → HasWidth w g → HasWidth w r → Satisfies rows g → Satisfies rows r → IsPrimitive g → IsPrimitive r → r ≢ g → (m k : ℤ) → pos 0 <ℤ m → ¬ (scaled m r ≡ scaled k g)
not_along w rows g r pt lg lr sg sr pg pr n m k pm e = elim (sign_cases k) [
  | inl z ↦ n (same_on_ray w r g lr lg pr pg (record { multiple = m; positive = pm; factor = k; nonneg = omega (arith, sums); same = e }))
  | inr c ↦ elim c [
    | inl up ↦ n (primitive_unique w m k r g pm up lr lg e pr pg)
    | inr down ↦ primitive_nonzero g pg (opposite_is_zero w rows g r m k pt lg sg sr pm down e)
  ]
]

-- another vector of the list vanishes where g does, or none
record SomeOther (rows : List Vector) (g : Vector) (list : List Vector) : Type 0 where
  other : Vector
  has : Contains list other
  vanishes : VanishesWith rows g other
  differs : other ≢ g

other_or_none : (w : ℕ) (rows : List Vector) (g : Vector) (list : List Vector) → HasWidth w g → Each (HasWidth w) list → Each (λ r. VanishesWith rows g r → r ≡ g) list ⊎ SomeOther rows g list
other_or_none w rows g [] lg l = inl tt
other_or_none w rows g (r ∷ list) lg l = elim (other_or_none w rows g list lg l.1) [
  | inr s ↦ inr (record { other = s.other; has = contains_there r s.other list s.has; vanishes = s.vanishes; differs = s.differs })
  | inl all ↦ elim (vanishes_or_not rows g r) [
    | inr n ↦ inl (λ v. absurd (n v), all)
    | inl v ↦ elim (same_or_not r g (l.0 ∙ sym lg)) [
      | inl e ↦ inl (λ u. e, all)
      | inr n ↦ inr (record { other = r; has = contains_here r list; vanishes = v; differs = n })
    ]
  ]
]

ray_of_sum : (y g c : Vector) (m j k : ℤ) → pos 0 <ℤ m → pos 0 ≤ℤ j → pos 0 ≤ℤ k → c ≡ scaled m y → c ≡ plus (scaled j g) (scaled k g) → IsOnRay g y
ray_of_sum y g c m j k p nj nk e f = record { multiple = m; positive = p; factor = j +ℤ k; nonneg = omega (arith, sums); same = sym e ∙ f ∙ sym (add-scaled j k g) }

-- a vector at whose zeros no other of a list that generates vanishes is extreme
extreme_of_alone : (w : ℕ) (rows list : List Vector) (g : Vector) → Each (HasWidth w) rows → HasWidth w g → Each (HasWidth w) list → Each (Satisfies rows) list → ((x : Vector) → HasWidth w x → Satisfies rows x → IsInCone w list x)
    → Each (λ r. VanishesWith rows g r → r ≡ g) list → IsExtremeByZeros w rows g
extreme_of_alone w rows list g lr lg l s gen alone y ly sy v =
    let i = gen y ly sy in
    let c = combination w i.factors list in
    let adjacent : AreAdjacent rows list g g = each_map (λ r. VanishesWith rows g r → r ≡ g) (λ r. Each (λ a. dot a g ≡ pos 0 → dot a g ≡ pos 0 → dot a r ≡ pos 0) rows → (r ≡ g) ⊎ (r ≡ g)) list
    (λ r f z. inl (f (each_map (λ a. dot a g ≡ pos 0 → dot a g ≡ pos 0 → dot a r ≡ pos 0) (λ a. dot a g ≡ pos 0 → dot a r ≡ pos 0) rows (λ a h e. h e e) z))) alone in
    let zc : Each (λ a. dot a g ≡ pos 0 → dot a g ≡ pos 0 → dot a c ≡ pos 0) rows = each_map2 (λ a. dot a g ≡ pos 0 → dot a y ≡ pos 0) (λ a. dot a y ≡ pos 0 → dot a c ≡ pos 0) (λ a. dot a g ≡ pos 0 → dot a g ≡ pos 0 → dot a c ≡ pos 0) rows
    (λ a f h e u. h (f e)) v (vanishes_multiple rows i.multiple y c (sym i.same) sy) in
    let b = between w rows g g i.factors list lg lg lr i.each l s adjacent zc in
    ray_of_sum y g c i.multiple b.at_p b.at_n (above_zero i.multiple i.positive) b.nonneg_p b.nonneg_n i.same b.same

extreme_or_split : (w : ℕ) (rows list : List Vector) (g : Vector) → IsPointed w rows → Each (HasWidth w) rows → Each (HasWidth w) list → Each (Satisfies rows) list → Each IsPrimitive list → ((x : Vector) → HasWidth w x → Satisfies rows x → IsInCone w list x)
    → HasWidth w g → Satisfies rows g → IsPrimitive g → IsExtremeByZeros w rows g ⊎ Splits w rows g
extreme_or_split w rows list g pt lr l s p gen lg sg pg = elim (other_or_none w rows g list lg l) [
  | inl alone ↦ inl (extreme_of_alone w rows list g lr lg l s gen alone)
  | inr o ↦ inr (
      let lo = Each-contains (HasWidth w) list o.other l o.has in
      let so = Each-contains (Satisfies rows) list o.other s o.has in
      let po = Each-contains IsPrimitive list o.other p o.has in
      record { other = o.other; width = lo; inside = so; vanishes = o.vanishes; apart = not_along w rows g o.other pt lg lo sg so pg po o.differs })
]

-- ---- the extreme ones
record Chosen (w : ℕ) (rows list : List Vector) : Type 0 where
  extreme : List Vector
  widths : Each (HasWidth w) extreme
  sound : Each (Satisfies rows) extreme
  primitive : Each IsPrimitive extreme
  are_extreme : Each (IsExtremeByZeros w rows) extreme
  each : Each (λ g. IsInCone w extreme g ⊎ Splits w rows g) list

choose : (w : ℕ) (rows list : List Vector) → Each (HasWidth w) list → Each (Satisfies rows) list → Each IsPrimitive list → Each (λ g. IsExtremeByZeros w rows g ⊎ Splits w rows g) list → Chosen w rows list
choose w rows [] l s p d = record { extreme = []; widths = tt; sound = tt; primitive = tt; are_extreme = tt; each = tt }
choose w rows (g ∷ list) l s p d =
    let t = choose w rows list l.1 s.1 p.1 d.1 in
    elim d.0 [
      | inl e ↦ record {
        extreme = g ∷ t.extreme;
        widths = (l.0, t.widths);
        sound = (s.0, t.sound);
        primitive = (p.0, t.primitive);
        are_extreme = (e, t.are_extreme);
        each = (
          inl (cone_head w g t.extreme l.0 t.widths),
          each_map (λ x. IsInCone w t.extreme x ⊎ Splits w rows x) (λ x. IsInCone w (g ∷ t.extreme) x ⊎ Splits w rows x) list
              (λ x c. elim c [ inl i ↦ inl (cone_skip w g t.extreme x l.0 t.widths i) | inr z ↦ inr z ]) t.each,
        );
      }
      | inr z ↦ record { extreme = t.extreme; widths = t.widths; sound = t.sound; primitive = t.primitive; are_extreme = t.are_extreme; each = (inr z, t.each) }
    ]

-- a list of the extreme rays
pub record SomeExtremeRays (w : ℕ) (rows : List Vector) : Type 0 where
  pub rays : List Vector
  pub are : AreExtremeRays w rows rays

pub extreme_rays_exist : (w : ℕ) (rows : List Vector) → Each (HasWidth w) rows → IsPointed w rows → SomeExtremeRays w rows
extreme_rays_exist w rows lr pt =
    let d = described w rows lr in
    let p = primitives w rows d.rays d.is.ray_widths d.is.sound in
    let gen : (x : Vector) → HasWidth w x → Satisfies rows x → IsInCone w p.list x = λ x lx sx. cone_within w d.rays p.list x p.widths p.all (generated w rows d.rays x d.is lx sx) in
    let c = choose w rows p.list p.widths p.sound p.primitive
    (each_map3 (HasWidth w) (Satisfies rows) IsPrimitive (λ g. IsExtremeByZeros w rows g ⊎ Splits w rows g) p.list (λ g l s q. extreme_or_split w rows p.list g pt lr p.widths p.sound p.primitive gen l s q) p.widths p.sound p.primitive) in
    let in_cone : (x : Vector) → HasWidth w x → Satisfies rows x → IsInCone w c.extreme x = unsplit_generate w rows p.list c.extreme pt lr p.widths c.widths p.sound gen c.each in
    record {
      rays = c.extreme;
      are = record {
        description = record {
          row_widths = lr;
          ray_widths = c.widths;
          sound = c.sound;
          farkas = λ y ly s. d.is.farkas y ly (each_map2 (HasWidth w) (Satisfies rows) (λ r. pos 0 ≤ℤ dot r y) d.rays
              (λ r l i.
              let v = nonneg_on_cone y w c.extreme r c.widths (each_map (λ e. pos 0 ≤ℤ dot e y) (λ e. pos 0 ≤ℤ dot y e) c.extreme (λ e h. rw (dot_comm y e) h) s) (in_cone r l i) in
              rw (dot_comm r y) v) d.is.ray_widths d.is.sound);
        };
        primitive = c.primitive;
        extreme = c.are_extreme;
      };
    }
