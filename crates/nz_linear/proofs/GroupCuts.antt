-- Cuts of a group: clearing keeps it, an equation leaves out one generator, a congruence takes a multiple of one.
use Rattle.std.proofs.Common.{◌≡◌, ◌≢◌, ◌↔◌, ℕ, List, [], ◌∷◌, ◌++◌, length, ℤ, pos, suc, inl, inr, ◌+ℤ◌, ◌-ℤ◌, ◌*ℤ◌, neg_ℤ, ◌<ℤ◌, refl, sym, ap, ◌∙◌, subst, arith}
use Rattle.std.proofs.Math.IntN.{*ℤ_comm}
use Rattle.std.specs.List.{AllByRecursion as Each, Contains}
use Rattle.nz_spec.specs.Vectors.{Vector, dot, plus, scaled, combination, HasWidth, IsMultipleOf}
use Rattle.nz_spec.specs.Sums.{IsInGroup}
use Rattle.nz_spec.proofs.IntLaws.{multiple_add, multiple_sub, multiple_mul, multiple_zero, zero_product}
use Rattle.nz_spec.proofs.ListLaws.{Each-contains, Each-from_contains, contains_here, contains_there, contains_cases}
use Rattle.nz_spec.proofs.SumLaws.{length-combination, dot-combination, IsInGroup-plus}
use Rattle.nz_spec.proofs.VectorLaws.{dot-scaled, dot-zero, scaled-scaled}
use Rattle.nz_linear.specs.Division.{IsGcdOf}
use Rattle.nz_linear.proofs.Ring.{sums, one-mul, neg-mul}
use Rattle.nz_linear.proofs.Lists.{each_map, each_insert}
use Rattle.nz_linear.proofs.VectorLaws.{length-plus, length-scaled, dot-plus, plus_left_comm, zero-plus, zero-scaled, same_values}
use Rattle.nz_linear.proofs.Division.{multiple_by_gcd, gcd_multiple}
use Rattle.nz_spec.proofs.ConstraintLaws.{values_zero}
use Rattle.nz_linear.proofs.Groups.{group_width, group_scaled, group_member, group_within, group_of_members}

-- a vector of the group, as a multiple of one generator and a rest
pub record IsSplitAt (w : ℕ) (p : Vector) (others : List Vector) (x : Vector) : Type 0 where
  pub factor : ℤ
  pub rest : Vector
  pub in_others : IsInGroup w others rest
  pub same : x ≡ plus (scaled factor p) rest

pub group_split : (w : ℕ) (xs : List Vector) (p : Vector) (ys : List Vector) (x : Vector) → IsInGroup w (xs ++ p ∷ ys) x → IsSplitAt w p (xs ++ ys) x
group_split w xs p ys x i = by xs i.factors x i.one_each i.same
  where
    by : (zs : List Vector) (cs : List ℤ) (y : Vector) → length cs ≡ length (zs ++ p ∷ ys) → combination w cs (zs ++ p ∷ ys) ≡ y → IsSplitAt w p (zs ++ ys) y
    by [] [] y l e = absurd (omega arith)
    by [] (c ∷ cs) y l e = record { factor = c; rest = combination w cs ys; in_others = record { factors = cs; one_each = omega arith; same = refl }; same = sym e }
    by (z ∷ zs) [] y l e = absurd (omega arith)
    by (z ∷ zs) (c ∷ cs) y l e =
        let t = by zs cs (combination w cs (zs ++ p ∷ ys)) (omega arith) refl in
        let o = t.in_others in
        record {
          factor = t.factor;
          rest = plus (scaled c z) t.rest;
          in_others = record { factors = c ∷ o.factors; one_each = ap suc o.one_each; same = ap (plus (scaled c z)) o.same };
          same = sym e ∙ ap (plus (scaled c z)) t.same ∙ plus_left_comm (scaled c z) (scaled t.factor p) t.rest;
        }

contains_middle : (xs : List Vector) (p : Vector) (ys : List Vector) → Contains (xs ++ p ∷ ys) p
contains_middle [] p ys = contains_here p ys
contains_middle (x ∷ xs) p ys = contains_there x p (xs ++ p ∷ ys) (contains_middle xs p ys)

contains_around : (xs : List Vector) (p : Vector) (ys : List Vector) (v : Vector) → Contains (xs ++ ys) v → Contains (xs ++ p ∷ ys) v
contains_around [] p ys v c = contains_there p v ys c
contains_around (x ∷ xs) p ys v c = elim (contains_cases x (xs ++ ys) v c) [
  | inl e ↦ subst (Contains (x ∷ (xs ++ p ∷ ys))) e (contains_here x (xs ++ p ∷ ys))
  | inr k ↦ contains_there x v (xs ++ p ∷ ys) (contains_around xs p ys v k)
]

all_around : (xs : List Vector) (p : Vector) (ys : List Vector) → Each (Contains (xs ++ p ∷ ys)) (xs ++ ys)
all_around xs p ys = Each-from_contains (Contains (xs ++ p ∷ ys)) (xs ++ ys) (λ v c. contains_around xs p ys v c)

pub group_join : (w : ℕ) (xs : List Vector) (p : Vector) (ys : List Vector) (c : ℤ) (y : Vector) → Each (HasWidth w) (xs ++ p ∷ ys) → IsInGroup w (xs ++ ys) y → IsInGroup w (xs ++ p ∷ ys) (plus (scaled c p) y)
group_join w xs p ys c y l i =
    IsInGroup-plus w (xs ++ p ∷ ys) (scaled c p) y (group_scaled w (xs ++ p ∷ ys) c p (group_member w (xs ++ p ∷ ys) p l (contains_middle xs p ys)))
    (group_of_members w (xs ++ ys) (xs ++ p ∷ ys) y l (all_around xs p ys) i)

-- ---- clearing
taken_back : (w : ℕ) (b p : Vector) (q : ℤ) → HasWidth w b → HasWidth w p → plus (plus b (scaled q p)) (scaled (neg_ℤ q) p) ≡ b
taken_back w b p q lb lp =
    let lq = length-scaled w q p lp in
    let ln = length-scaled w (neg_ℤ q) p lp in
    let ls = length-plus w b (scaled q p) lb lq in
    same_values w (plus (plus b (scaled q p)) (scaled (neg_ℤ q) p)) b (length-plus w (plus b (scaled q p)) (scaled (neg_ℤ q) p) ls ln) lb
    (λ f. dot-plus w f (plus b (scaled q p)) (scaled (neg_ℤ q) p) ls ln ∙ omega (arith, sums, dot-plus w f b (scaled q p) lb lq, dot-scaled f q p, dot-scaled f (neg_ℤ q) p, neg-mul q (dot f p)))

-- what the generators generate, they do with a multiple of one of them added to another
half : (w : ℕ) (xs : List Vector) (b p : Vector) (ys : List Vector) (q : ℤ) (x : Vector) → HasWidth w b → Each (HasWidth w) (xs ++ ys) → Contains (xs ++ ys) p → IsInGroup w (xs ++ b ∷ ys) x → IsInGroup w (xs ++ plus b (scaled q p) ∷ ys) x
half w xs b p ys q x lb l c i =
    let lp : HasWidth w p = Each-contains (HasWidth w) (xs ++ ys) p l c in
    let b' = plus b (scaled q p) in
    let lb' : HasWidth w b' = length-plus w b (scaled q p) lb (length-scaled w q p lp) in
    let new = xs ++ b' ∷ ys in
    let ln : Each (HasWidth w) new = each_insert (HasWidth w) b' xs ys (lb', l) in
    let has_p : IsInGroup w new p = group_member w new p ln (contains_around xs b' ys p c) in
    let has_b' : IsInGroup w new b' = group_member w new b' ln (contains_middle xs b' ys) in
    let sum : IsInGroup w new (plus b' (scaled (neg_ℤ q) p)) = IsInGroup-plus w new b' (scaled (neg_ℤ q) p) has_b' (group_scaled w new (neg_ℤ q) p has_p) in
    let has_b : IsInGroup w new b = subst (IsInGroup w new) (taken_back w b p q lb lp) sum in
    group_within w (xs ++ b ∷ ys) new x ln
    (each_insert (IsInGroup w new) b xs ys (has_b, each_map (Contains (xs ++ ys)) (IsInGroup w new) (xs ++ ys) (λ v k. group_member w new v ln (contains_around xs b' ys v k)) (Each-from_contains (Contains (xs ++ ys)) (xs ++ ys) (λ v k. k)))) i

-- a multiple of one generator added to another keeps the group
pub cleared_group : (w : ℕ) (xs : List Vector) (b p : Vector) (ys : List Vector) (q : ℤ) (x : Vector) → HasWidth w b → Each (HasWidth w) (xs ++ ys) → Contains (xs ++ ys) p → IsInGroup w (xs ++ b ∷ ys) x ↔ IsInGroup w (xs ++ plus b (scaled q p) ∷ ys) x
cleared_group w xs b p ys q x lb l c =
    let lp : HasWidth w p = Each-contains (HasWidth w) (xs ++ ys) p l c in
    let lb' : HasWidth w (plus b (scaled q p)) = length-plus w b (scaled q p) lb (length-scaled w q p lp) in
    ((λ i. half w xs b p ys q x lb l c i), (λ i. subst (λ (v : Vector). IsInGroup w (xs ++ v ∷ ys) x) (taken_back w b p q lb lp) (half w xs (plus b (scaled q p)) p ys (neg_ℤ q) x lb' l c i)))

-- ---- an equation
group_zero : (w : ℕ) (h : Vector) (vs : List Vector) (x : Vector) → Each (HasWidth w) vs → Each (λ v. dot h v ≡ pos 0) vs → IsInGroup w vs x → dot h x ≡ pos 0
group_zero w h vs x l z i = ap (dot h) (sym i.same) ∙ dot-combination h w i.factors vs l ∙ values_zero h i.factors vs z

split_value : (w : ℕ) (h p : Vector) (others : List Vector) (x : Vector) → HasWidth w p → Each (HasWidth w) others → (s : IsSplitAt w p others x) → dot h x ≡ s.factor *ℤ dot h p +ℤ dot h s.rest
split_value w h p others x lp l s =
    ap (dot h) s.same ∙ dot-plus w h (scaled s.factor p) s.rest (length-scaled w s.factor p lp) (group_width w others s.rest l s.in_others) ∙ ap (λ t. t +ℤ dot h s.rest) (dot-scaled h s.factor p)

-- the vectors at which a form is 0 that is 0 at all generators but one
pub equation_cut : (w : ℕ) (h : Vector) (xs : List Vector) (p : Vector) (ys : List Vector) (x : Vector) → HasWidth w p → Each (HasWidth w) (xs ++ ys) → Each (λ v. dot h v ≡ pos 0) (xs ++ ys) → dot h p ≢ pos 0
    → (IsInGroup w (xs ++ p ∷ ys) x × (dot h x ≡ pos 0)) ↔ IsInGroup w (xs ++ ys) x
equation_cut w h xs p ys x lp l z n = (
  (λ k.
      let s = group_split w xs p ys x k.0 in
      let r = group_zero w h (xs ++ ys) s.rest l z s.in_others in
      let e = split_value w h p (xs ++ ys) x lp l s in
      let none : s.factor ≡ pos 0 = zero_product (dot h p) s.factor n (*ℤ_comm (dot h p) s.factor ∙ omega (arith, sums, e, r, k.1)) in
      let same : x ≡ s.rest = s.same ∙ ap (λ t. plus (scaled t p) s.rest) none ∙ ap (λ t. plus t s.rest) (zero-scaled w p lp) ∙ zero-plus w s.rest (group_width w (xs ++ ys) s.rest l s.in_others) in
      subst (IsInGroup w (xs ++ ys)) (sym same) s.in_others),
  (λ i. (group_of_members w (xs ++ ys) (xs ++ p ∷ ys) x (each_insert (HasWidth w) p xs ys (lp, l)) (all_around xs p ys) i, group_zero w h (xs ++ ys) x l z i)),
)

-- ---- a congruence
group_multiple : (w : ℕ) (h : Vector) (m : ℤ) (vs : List Vector) (x : Vector) → Each (HasWidth w) vs → Each (λ v. IsMultipleOf m (dot h v)) vs → IsInGroup w vs x → IsMultipleOf m (dot h x)
group_multiple w h m vs x l z i = subst (λ y. IsMultipleOf m (dot h y)) i.same (by i.factors vs l z)
  where
    by : (cs : List ℤ) (us : List Vector) → Each (HasWidth w) us → Each (λ v. IsMultipleOf m (dot h v)) us → IsMultipleOf m (dot h (combination w cs us))
    by [] us k n = rw (dot-zero h w) (multiple_zero m)
    by (c ∷ cs) [] k n = rw (dot-zero h w) (multiple_zero m)
    by (c ∷ cs) (u ∷ us) k n = subst (IsMultipleOf m) (sym (dot-plus w h (scaled c u) (combination w cs us) (length-scaled w c u k.0) (length-combination w cs us k.1)))
        (multiple_add m (dot h (scaled c u)) (dot h (combination w cs us)) (subst (IsMultipleOf m) (sym (dot-scaled h c u)) (multiple_mul m c (dot h u) n.0)) (by cs us k.1 n.1))

-- the vectors at which a form is a multiple of g·m, where it is one at all generators but p, and g is the greatest common divisor of g·m and its value g·a at p
pub congruence_cut : (w : ℕ) (h : Vector) (g a m : ℤ) (xs : List Vector) (p : Vector) (ys : List Vector) (x : Vector) → HasWidth w p → Each (HasWidth w) (xs ++ ys) → Each (λ v. IsMultipleOf (g *ℤ m) (dot h v)) (xs ++ ys)
    → dot h p ≡ g *ℤ a → pos 0 <ℤ g → IsGcdOf g ((g *ℤ a) ∷ (g *ℤ m) ∷ []) → (IsInGroup w (xs ++ p ∷ ys) x × IsMultipleOf (g *ℤ m) (dot h x)) ↔ IsInGroup w (xs ++ scaled m p ∷ ys) x
congruence_cut w h g a m xs p ys x lp l z e pg d = (
  (λ k.
      let s = group_split w xs p ys x k.0 in
      let r = group_multiple w h (g *ℤ m) (xs ++ ys) s.rest l z s.in_others in
      let v = split_value w h p (xs ++ ys) x lp l s in
      let first : IsMultipleOf (g *ℤ m) ((g *ℤ a) *ℤ s.factor) = subst (IsMultipleOf (g *ℤ m)) (part (dot h x) (s.factor *ℤ dot h p) (dot h s.rest) v ∙ ap (λ t. s.factor *ℤ t) e ∙ *ℤ_comm s.factor (g *ℤ a)) (multiple_sub (g *ℤ m) (dot h x) (dot h s.rest) k.1 r) in
      let t = multiple_by_gcd g a m s.factor pg d first in
      let same : plus (scaled t.0 (scaled m p)) s.rest ≡ x = ap (λ u. plus u s.rest) (scaled-scaled t.0 m p ∙ ap (λ c. scaled c p) (sym t.1)) ∙ sym s.same in
      subst (IsInGroup w (xs ++ scaled m p ∷ ys)) same (group_join w xs (scaled m p) ys t.0 s.rest (each_insert (HasWidth w) (scaled m p) xs ys (length-scaled w m p lp, l)) s.in_others)),
  (λ i.
      let s = group_split w xs (scaled m p) ys x i in
      let lm : HasWidth w (scaled m p) = length-scaled w m p lp in
      let same : plus (scaled (s.factor *ℤ m) p) s.rest ≡ x = ap (λ u. plus u s.rest) (sym (scaled-scaled s.factor m p)) ∙ sym s.same in
      let value : dot h (scaled m p) ≡ (g *ℤ a) *ℤ m = dot-scaled h m p ∙ ap (λ t. m *ℤ t) e ∙ *ℤ_comm m (g *ℤ a) in
      let first : IsMultipleOf (g *ℤ m) (s.factor *ℤ dot h (scaled m p)) = multiple_mul (g *ℤ m) s.factor (dot h (scaled m p)) (subst (IsMultipleOf (g *ℤ m)) (sym value) (gcd_multiple g a m m (pos 1, sym (one-mul m)))) in (
        subst (IsInGroup w (xs ++ p ∷ ys)) same (group_join w xs p ys (s.factor *ℤ m) s.rest (each_insert (HasWidth w) p xs ys (lp, l)) s.in_others),
        subst (IsMultipleOf (g *ℤ m)) (sym (split_value w h (scaled m p) (xs ++ ys) x lm l s)) (multiple_add (g *ℤ m) (s.factor *ℤ dot h (scaled m p)) (dot h s.rest) first (group_multiple w h (g *ℤ m) (xs ++ ys) s.rest l z s.in_others)),
      )),
)
  where
    part : (x y r : ℤ) → x ≡ y +ℤ r → x -ℤ r ≡ y
    part x y r q = omega (arith, sums, q)
