-- Vectors of a lattice are reduced as their values are.
use Rattle.std.proofs.Common.{◌≡◌, ◌↔◌, ℕ, List, [], ◌∷◌, ◌++◌, length, map, replicate, pos, ◌≤ℤ◌, refl, sym, ap, ◌∙◌, subst}
use Rattle.std.specs.List.{AllByRecursion as Each}
use Rattle.nz_spec.specs.Vectors.{Vector, dot, minus, values_at, IsZero}
use Rattle.nz_spec.specs.Parts.{CanTake, one_more, TakesApart, leaves, takes}
use Rattle.nz_spec.specs.Stages.{IsInStage}
use Rattle.nz_spec.proofs.VectorLaws.{dot-minus, dot-IsZero}
use Rattle.nz_spec.proofs.PartsLaws.{Each-at}
use Rattle.nz_order.specs.Boxes.{NonNegative}
use Rattle.nz_order.specs.Lattices.{IsLattice}
use Rattle.nz_further.specs.Certificates.{IsReducedOver}

pub values_of_minus : (forms : List Vector) (x e : Vector) → length x ≡ length e → values_at forms (minus x e) ≡ minus (values_at forms x) (values_at forms e)
values_of_minus [] x e l = refl
values_of_minus (f ∷ forms) x e l = (let a = dot-minus f x e l in let b = values_of_minus forms x e l in cc)

pub at_least_of : (forms : List Vector) (x : Vector) → NonNegative (values_at forms x) → Each (λ r. pos 0 ≤ℤ dot r x) forms
at_least_of [] x h = tt
at_least_of (f ∷ forms) x h = (h.0, at_least_of forms x h.1)

pub not_negative_of : (forms : List Vector) (x : Vector) → Each (λ r. pos 0 ≤ℤ dot r x) forms → NonNegative (values_at forms x)
not_negative_of [] x h = tt
not_negative_of (f ∷ forms) x h = (h.0, not_negative_of forms x h.1)

module _ (w : ℕ) (Lattice : Vector → Type 0) (lattice : IsLattice w Lattice) (forms : List Vector) (only : (x : Vector) → Lattice x → IsZero (values_at forms x) → IsZero x) where
  same_width : (x e : Vector) → Lattice x → Lattice e → length x ≡ length e
  same_width x e h k = lattice.wide x h ∙ sym (lattice.wide e k)

  pub can_forth : (x e : Vector) → Lattice x → Lattice e → CanTake (IsInStage Lattice forms) x e → NonNegative (minus (values_at forms x) (values_at forms e))
  can_forth x e h k c = subst NonNegative (values_of_minus forms x e (same_width x e h k)) (not_negative_of forms (minus x e) c.at_least)

  pub can_back : (x e : Vector) → Lattice x → Lattice e → NonNegative (minus (values_at forms x) (values_at forms e)) → CanTake (IsInStage Lattice forms) x e
  can_back x e h k c = record { in_lattice = lattice.differences x e h k; at_least = at_least_of forms (minus x e) (subst NonNegative (sym (values_of_minus forms x e (same_width x e h k))) c) }

  none_forth : (x : Vector) (K : List Vector) → Lattice x → Each Lattice K → Each (λ e. ¬ CanTake (IsInStage Lattice forms) x e) K → Each (λ v. ¬ CanTake NonNegative (values_at forms x) v) (map (values_at forms) K)
  none_forth x [] h k n = tt
  none_forth x (e ∷ K) h k n = ((λ c. n.0 (can_back x e h k.0 c)), none_forth x K h k.1 n.1)

  none_back : (x : Vector) (K : List Vector) → Lattice x → Each Lattice K → Each (λ v. ¬ CanTake NonNegative (values_at forms x) v) (map (values_at forms) K) → Each (λ e. ¬ CanTake (IsInStage Lattice forms) x e) K
  none_back x [] h k n = tt
  none_back x (e ∷ K) h k n = ((λ c. n.0 (can_forth x e h k.0 c)), none_back x K h k.1 n.1)

  map_split : (before after : List Vector) (e : Vector) → map (values_at forms) (before ++ e ∷ after) ≡ map (values_at forms) before ++ values_at forms e ∷ map (values_at forms) after
  map_split [] after e = refl
  map_split (b ∷ before) after e = ap (λ (vs : List Vector). values_at forms b ∷ vs) (map_split before after e)

  front : (P : Vector → Type 0) (before after : List Vector) → Each P (before ++ after) → Each P before
  front P [] after h = tt
  front P (b ∷ before) after h = (h.0, front P before after h.1)

  -- what the values leave
  record LeavesValues (K : List Vector) (x rest : Vector) : Type 0 where
    pub counts : List ℕ
    pub taken : TakesApart NonNegative (map (values_at forms) K) (values_at forms x) counts (values_at forms rest)
    pub there : Lattice rest

  forth : (K : List Vector) → Each Lattice K → (x : Vector) (counts : List ℕ) (rest : Vector) → TakesApart (IsInStage Lattice forms) K x counts rest → Lattice x → LeavesValues K x rest
  forth K inside x counts rest (leaves none) h = record { counts = replicate (length (map (values_at forms) K)) 0; taken = leaves (none_forth x K h inside none); there = h }
  forth K inside x counts rest (takes before after e whole none can t) h =
      let k = Each-at Lattice before after e (subst (Each Lattice) whole inside) in
      let r = forth K inside (minus x e) _ rest t (lattice.differences x e h k) in
      let m = values_of_minus forms x e (same_width x e h k) in
      record {
        counts = one_more (length (map (values_at forms) before)) r.counts;
        taken = takes (map (values_at forms) before) (map (values_at forms) after) (values_at forms e) (ap (map (values_at forms)) whole ∙ map_split before after e) (none_forth x before h (front Lattice before (e ∷ after) (subst (Each Lattice) whole inside)) none)
            (can_forth x e h k can) (subst (λ (v : Vector). TakesApart NonNegative (map (values_at forms) K) v r.counts (values_at forms rest)) m r.taken);
        there = r.there;
      }

  record SplitsAt (K before after : List Vector) (v : Vector) : Type 0 where
    pub front : List Vector
    pub back : List Vector
    pub vector : Vector
    pub whole : K ≡ front ++ vector ∷ back
    pub front_is : map (values_at forms) front ≡ before
    pub is : values_at forms vector ≡ v

  splits : (K before after : List Vector) (v : Vector) → map (values_at forms) K ≡ before ++ v ∷ after → SplitsAt K before after v
  splits [] [] after v e = absurd (let f : ⊥ = cc in f)
  splits [] (b ∷ before) after v e = absurd (let f : ⊥ = cc in f)
  splits (k ∷ K) [] after v e = record { front = []; back = K; vector = k; whole = refl; front_is = refl; is = (let f : values_at forms k ≡ v = cc in f) }
  splits (k ∷ K) (b ∷ before) after v e =
      let head : values_at forms k ≡ b = cc in
      let tail : map (values_at forms) K ≡ before ++ v ∷ after = cc in
      let s = splits K before after v tail in
      record { front = k ∷ s.front; back = s.back; vector = s.vector; whole = ap (λ (vs : List Vector). k ∷ vs) s.whole; front_is = (let f = s.front_is in cc); is = s.is }

  -- what is left of a vector
  record Leaves (K : List Vector) (x left : Vector) : Type 0 where
    pub counts : List ℕ
    pub rest : Vector
    pub taken : TakesApart (IsInStage Lattice forms) K x counts rest
    pub there : Lattice rest
    pub is : left ≡ values_at forms rest

  back : (K : List Vector) → Each Lattice K → (v : Vector) (counts : List ℕ) (left : Vector) → TakesApart NonNegative (map (values_at forms) K) v counts left → (x : Vector) → Lattice x → v ≡ values_at forms x → Leaves K x left
  back K inside v counts left (leaves none) x h e = record {
    counts = replicate (length K) 0;
    rest = x;
    taken = leaves (none_back x K h inside (subst (λ (u : Vector). Each (λ d. ¬ CanTake NonNegative u d) (map (values_at forms) K)) e none));
    there = h;
    is = e;
  }
  back K inside v counts left (takes before after d whole none can t) x h e =
      let s = splits K before after d whole in
      let inside_split = subst (Each Lattice) s.whole inside in
      let k = Each-at Lattice s.front s.back s.vector inside_split in
      let same : minus v d ≡ values_at forms (minus x s.vector) = ap (λ (u : Vector). minus u d) e ∙ ap (λ (u : Vector). minus (values_at forms x) u) (sym s.is) ∙ sym (values_of_minus forms x s.vector (same_width x s.vector h k)) in
      let r = back K inside (minus v d) _ left t (minus x s.vector) (lattice.differences x s.vector h k) same in
      let before_none = subst (λ (vs : List Vector). Each (λ c. ¬ CanTake NonNegative (values_at forms x) c) vs) (sym s.front_is) (subst (λ (u : Vector). Each (λ c. ¬ CanTake NonNegative u c) before) e none) in
      let can_here = subst (λ (u : Vector). NonNegative (minus (values_at forms x) u)) (sym s.is) (subst (λ (u : Vector). NonNegative (minus u d)) e can) in
      record {
        counts = one_more (length s.front) r.counts;
        rest = r.rest;
        taken = takes s.front s.back s.vector s.whole (none_back x s.front h (front Lattice s.front (s.vector ∷ s.back) inside_split) before_none) (can_back x s.vector h k can_here) r.taken;
        there = r.there;
        is = r.is;
      }

  zero_values : (fs : List Vector) (x : Vector) → IsZero x → IsZero (values_at fs x)
  zero_values [] x z = tt
  zero_values (f ∷ fs) x z = (dot-IsZero f x z, zero_values fs x z)

  -- a vector is reduced just where its values are
  pub reduced_values : (K : List Vector) → Each Lattice K → (x : Vector) → Lattice x → IsReducedOver (IsInStage Lattice forms) K x ↔ IsReducedOver NonNegative (map (values_at forms) K) (values_at forms x)
  reduced_values K inside x h = (
    (λ r. let s = forth K inside x r.counts r.rest r.taken h in record { counts = s.counts; rest = values_at forms r.rest; taken = s.taken; nothing_left = zero_values forms r.rest r.nothing_left }),
    (λ r. let s = back K inside (values_at forms x) r.counts r.rest r.taken x h refl in record { counts = s.counts; rest = s.rest; taken = s.taken; nothing_left = only s.rest s.there (subst IsZero s.is r.nothing_left) }),
  )
