-- A line in coordinates of a frame is, with its sign set, the least line of the system.
use Rattle.std.proofs.Common.{◌≡◌, inl, inr, ⊎_elim, ℕ, zero, suc, ◌+◌, ◌<◌, ◌≤◌, List, [], ◌∷◌, ◌++◌, length, take, get_or, ℤ, pos, negsuc, neg_ℤ, ◌*ℤ◌, ◌≤ℤ◌, unsigned_abs, refl, sym, ap, ap₂, ◌∙◌, subst, arith}
use Rattle.std.proofs.lemmas.List.{take_more, take_all, length-map}
use Rattle.std.proofs.lemmas.Int.{ints}
use Rattle.std.specs.List.{AllByRecursion as Each}
use Rattle.nz_spec.specs.Vectors.{Vector, scaled, opposite, IsNonzero, LeadsPositive, IsMultipleOf}
use Rattle.nz_spec.specs.Systems.{System, IsSystem, IsMember}
use Rattle.nz_spec.specs.Monoids.{IsLine, IsLeastLine}
use Rattle.nz_spec.proofs.VectorLaws.{length-opposite, length-scaled, one-scaled}
use Rattle.nz_spec.proofs.SumLaws.{combination-scaled}
use Rattle.nz_spec.proofs.PrimitiveLaws.{one_of_divisor, each_multiple}
use Rattle.nz_linear.specs.Cones.{IsInRows}
use Rattle.nz_linear.specs.Coordinates.{AreCoordinates}
use Rattle.nz_linear.proofs.Coordinates.{line_forth, same_coordinates}
use Rattle.nz_linear.proofs.Division.{primitive_nonzero}
use Rattle.nz_linear.proofs.Lists.{each_map, map_each}
use Rattle.nz_linear.proofs.Ring.{neg-mul}
use Rattle.nz_linear.proofs.Pointed.{line_of_common_zero}
use Rattle.nz_pointed.specs.Pointed.{IsLineOf}
use Rattle.nz_sweep.specs.Bases.{Base}
use Rattle.nz_frame.specs.Frames.{IsFrame, IsLed, LacksMultiple, LacksLine, of_sign, vector_at}
use Rattle.nz_frame.proofs.FrameLemmas.{frame_coordinates}

-- ---- opposites
minus_one : (x : Vector) → scaled (negsuc 0) x ≡ opposite x
minus_one [] = refl
minus_one (a ∷ x) = ap₂ (λ b y. b ∷ y) (omega (arith, ints)) (minus_one x)

opposite_twice : (x : Vector) → opposite (opposite x) ≡ x
opposite_twice [] = refl
opposite_twice (a ∷ x) = ap₂ (λ b y. b ∷ y) (omega (arith, ints)) (opposite_twice x)

turned_multiple : (k a : ℤ) → IsMultipleOf k (neg_ℤ a) → IsMultipleOf k a
turned_multiple k a (j, e) = (neg_ℤ j, (let m = neg-mul j k in omega (arith, ints, e, m)))

opposite_multiples : (k : ℤ) (x : Vector) → Each (IsMultipleOf k) (opposite x) → Each (IsMultipleOf k) x
opposite_multiples k x h = each_map (λ a. IsMultipleOf k (neg_ℤ a)) (IsMultipleOf k) x (λ a m. turned_multiple k a m) (map_each (λ a. neg_ℤ a) (IsMultipleOf k) x h)

line_opposite : (Member : Vector → Type 0) (v : Vector) → IsLine Member v → IsLine Member (opposite v)
line_opposite Member v l = record {
  nonzero = λ z. l.nonzero (each_map (λ a. neg_ℤ a ≡ pos 0) (λ a. a ≡ pos 0) v (λ a e. omega (arith, ints, e)) (map_each (λ a. neg_ℤ a) (λ a. a ≡ pos 0) v z));
  forward = l.backward;
  backward = subst Member (sym (opposite_twice v)) l.forward;
}

-- ---- the least line
module _ (s : System) (base : Base) (pulled : List Vector) (is : IsSystem s) (fr : IsFrame s base pulled) (line : Vector) (li : IsLineOf (length base.vectors) pulled line) where
  k : AreCoordinates base.width base.vectors (IsMember s) (IsInRows (length base.vectors) pulled)
  k = frame_coordinates s base pulled is fr

  here : IsLine (IsInRows (length base.vectors) pulled) line
  here = line_of_common_zero (length base.vectors) pulled (record { point = line; width = li.width; nonzero = primitive_nonzero line li.primitive; zero = li.zero })

  there : IsLine (IsMember s) (vector_at base line)
  there = line_forth base.width base.vectors (IsMember s) (IsInRows (length base.vectors) pulled) k line here

  pub line_nonzero : IsNonzero (vector_at base line)
  line_nonzero = there.nonzero

  no_divisor : (j : ℤ) → pos 2 ≤ℤ j → Each (IsMultipleOf j) line → ⊥
  no_divisor j two h = let o = one_of_divisor j (omega (arith, ints, two)) (li.primitive j h) in omega (arith, ints, two, o)

  no_member : (j : ℤ) (x c : Vector) → pos 2 ≤ℤ j → scaled j x ≡ vector_at base c → length c ≡ length base.vectors → IsMember s x → Each (IsMultipleOf j) c
  no_member j x c two e lc m =
      let r = k.back x m in
      let same : scaled j r.0 ≡ c = same_coordinates base.width base.vectors (IsMember s) (IsInRows (length base.vectors) pulled) k (scaled j r.0) c (length-scaled j r.0 ∙ k.one_each r.0 r.1) lc (combination-scaled base.width j r.0 base.vectors ∙ ap (scaled j) r.2 ∙ e) in
      subst (Each (IsMultipleOf j)) same (each_multiple j r.0)

  opposite_at : vector_at base (opposite line) ≡ opposite (vector_at base line)
  opposite_at = ap (vector_at base) (sym (minus_one line)) ∙ combination-scaled base.width (negsuc 0) line base.vectors ∙ minus_one (vector_at base line)

  pub least_line : (v : Vector) → IsLed (vector_at base line) v → IsLeastLine (IsMember s) v
  least_line v led = record {
    line = ⊎_elim (λ e. subst (IsLine (IsMember s)) (sym e) there) (λ e. subst (IsLine (IsMember s)) (sym e) (line_opposite (IsMember s) (vector_at base line) there)) led.side;
    least = λ j x two e m. ⊎_elim
        (λ f. no_divisor j two (no_member j x line two (e ∙ f) li.width m))
        (λ f. no_divisor j two (opposite_multiples j line (no_member j x (opposite line) two (e ∙ f ∙ sym opposite_at) (length-opposite line ∙ li.width) m)))
        led.side;
    leads = led.leads;
  }

-- ---- a multiple with the sign set
pub led_as_is : (x v y : Vector) (factor : ℤ) → LeadsPositive y → y ≡ x → factor ≡ pos 1 → v ≡ scaled factor y → IsLed x v
led_as_is x v y factor l e f k =
    let same : v ≡ x = k ∙ ap (λ a. scaled a y) f ∙ one-scaled y ∙ e in
    record { leads = subst LeadsPositive (sym same) (subst LeadsPositive e l); side = inl same }

pub led_turned : (x v y : Vector) (factor : ℤ) → LeadsPositive (opposite y) → y ≡ x → factor ≡ negsuc 0 → v ≡ scaled factor y → IsLed x v
led_turned x v y factor l e f k =
    let same : v ≡ opposite x = k ∙ ap (λ a. scaled a y) f ∙ minus_one y ∙ ap opposite e in
    record { leads = subst LeadsPositive (sym same) (subst (λ z. LeadsPositive (opposite z)) e l); side = inr same }

pub lacks_line : (fits : ℤ → Type 0) (b : Base) (line y : Vector) (t : ℤ) → unsigned_abs t ≡ 1 → y ≡ vector_at b line → LacksMultiple fits t y → LacksLine fits b line
lacks_line fits b line y t u e k = of_sign u (subst (LacksMultiple fits t) e k)

-- ---- the multiple, entry by entry
get_scaled : (t : ℤ) (x : Vector) (i : ℕ) → i < length x → get_or (scaled t x) i (pos 0) ≡ t *ℤ get_or x i (pos 0)
get_scaled t [] i l = absurd (let b : ⊥ = omega (arith, l) in b)
get_scaled t (a ∷ x) zero l = refl
get_scaled t (a ∷ x) (suc i) l = get_scaled t x i (omega (arith, l))

pub scaled_more : (t : ℤ) (x before after : Vector) (i : ℕ) (a b : ℤ) → i < length x → a ≡ get_or x i (pos 0) → b ≡ t *ℤ a → before ≡ take i (scaled t x) → after ≡ before ++ b ∷ [] → after ≡ take (i + 1) (scaled t x)
scaled_more t x before after i a b l e f h k =
    let n = length-map x (λ c. t *ℤ c) in
    k ∙ ap₂ (λ us u. us ++ u ∷ []) h (f ∙ ap (λ c. t *ℤ c) e ∙ sym (get_scaled t x i l)) ∙ sym (take_more (scaled t x) i (pos 0) (omega (arith, l, n)))

pub scaled_all : (t : ℤ) (x before : Vector) (i : ℕ) → length x ≤ i → before ≡ take i (scaled t x) → before ≡ scaled t x
scaled_all t x before i l h = h ∙ take_all i (scaled t x) (let n = length-map x (λ c. t *ℤ c) in omega (arith, l, n))
