-- A number that is no value of a type is a named number above its half; and the greatest width has the room of each type.
use Rattle.std.proofs.Common.{◌≡◌, inl, inr, ◌≤◌, List, [], ◌∷◌, ◌++◌, map, ℤ, pos, ◌*ℤ◌, ◌≤ℤ◌, ◌<ℤ◌, unsigned_abs, Bool, true, false, Contains, refl, sym, subst, arith, lit≤, lit<, ◌^◌}
use Rattle.std.specs.Prelude.{FitsSigned}
use Rattle.std.specs.Int.{w128}
use Rattle.std.proofs.lemmas.Int.{ints, by_lt_z}
use Rattle.std.proofs.lemmas.List.Elements.{Contains-append_left}
use Rattle.nz_scalar.specs.Room.{HasRoom, IsWithin}
use Rattle.nz_scalar.specs.RoomLaws.{room_of}
use Rattle.nz_spec.specs.Vectors.{Vector}
use Rattle.nz_spec.specs.Systems.{Congruence, System, IsSystem, asked_member}
use Rattle.nz_spec.specs.Constraints.{Constraint, Multiple, constraint_of}
use Rattle.nz_spec.proofs.ListLaws.{contains_none, contains_cases, contains_here, contains_there, Each-contains}
use Rattle.nz_linear.proofs.Ring.{sums, ring_z}
use Rattle.nz_linear.proofs.Signs.{mul_le}
use Rattle.nz_range.specs.Measures.{measure}
use Rattle.nz_range.proofs.Fits.{size_within, within_self}
use Rattle.nz_measures.specs.Pools.{IsAmbientVector, IsAmbientForm, equation, own_equation, row, own_row, congruence}
use Rattle.nz_measures.specs.Pools as pools
use Rattle.nz_measures.specs.Reaches.{HasOwnAbove, of_ambient, of_modulus}
use Rattle.nz_system.specs.Narrowing.{HasEntryOutside, HasConditionOutside, multiple_form, modulus, HasNumberOutside, of_equation, of_congruence, of_row, of_generator, of_group, of_grading, of_asked}

-- ---- room
wide_room : HasRoom (pos (2 ^ 62)) (FitsSigned w128)
wide_room = room_of w128 (2 ^ 62) (lit≤ tt) (lit≤ tt) (lit< tt)

within_more : (h k n : ℤ) → h ≤ℤ k → IsWithin h n → IsWithin k n
within_more h k n l w = let a = w.0 in let b = w.1 in (omega (arith, ints, l, a), omega (arith, ints, l, b))

squares_more : (h k : ℤ) → pos 0 ≤ℤ h → h ≤ℤ k → (h *ℤ h) ≤ℤ (k *ℤ k)
squares_more h k p l =
    let a = mul_le h h k p l in
    let b = mul_le k h k (omega (arith, ints, p, l)) l in
    let c : h *ℤ k ≡ k *ℤ h = simp ring_z (omega (arith, sums)) in
    omega (arith, ints, a, b, c)

less_room : (h k : ℤ) (fits : ℤ → Type 0) → pos 1 ≤ℤ h → h ≤ℤ k → HasRoom k fits → HasRoom h fits
less_room h k fits one l room = record {
  at_least = one;
  at_most = (let m = room.at_most in omega (arith, ints, l, m));
  products = λ a b c d p q r s. room.products a b c d (within_more h k a l p) (within_more h k b l q) (within_more h k c l r) (within_more h k d l s);
  squares = λ n w. room.squares n (within_more (h *ℤ h) (k *ℤ k) n (squares_more h k (omega (arith, ints, one)) l) w);
  between = room.between;
  zero_fits = room.zero_fits;
}

-- the greatest width has the room of each type
pub room_at_width : (h : ℤ) (fits : ℤ → Type 0) → HasRoom h fits → HasRoom h (FitsSigned w128)
room_at_width h fits room = less_room h (pos (2 ^ 62)) (FitsSigned w128) room.at_least room.at_most wide_room

-- ---- numbers outside
module _ (h : ℤ) (fits : ℤ → Type 0) (room : HasRoom h fits) where
  large_number : (z : ℤ) → (¬ fits z) → h <ℤ pos (unsigned_abs z)
  large_number z out = by_lt_z h (pos (unsigned_abs z)) (λ l. l) (λ l. absurd (out (within_self h fits room z (size_within h z l))))

  entry_measure : (v : Vector) (z : ℤ) → Contains v z → unsigned_abs z ≤ measure v
  entry_measure [] z c = absurd (contains_none z c)
  entry_measure (a ∷ v) z c = elim (contains_cases a v z c) [
    | inl e ↦ subst (λ (b : ℤ). unsigned_abs b ≤ measure (a ∷ v)) e (omega (arith))
    | inr k ↦ (let r = entry_measure v z k in omega (arith, r))
  ]

  large_vector : (v : Vector) → HasEntryOutside fits v → h <ℤ pos (measure v)
  large_vector v k = let l = large_number k.entry k.outside in let m = entry_measure v k.entry k.listed in omega (arith, ints, l, m)

  module _ (s : System) (is : IsSystem s) where
    vector_above : (v : Vector) → IsAmbientVector s v → HasEntryOutside fits v → HasOwnAbove s h
    vector_above v named k = of_ambient (inl (record { vector = v; named = inl named; large = large_vector v k }))

    form_above : (f : Vector) → IsAmbientForm s f → HasEntryOutside fits f → HasOwnAbove s h
    form_above f named k = of_ambient (inl (record { vector = f; named = inr named; large = large_vector f k }))

    congruence_of : (cs : List Congruence) (k : Constraint) → Contains (map constraint_of cs) k → (c : Congruence) × Contains cs c × (constraint_of c ≡ k)
    congruence_of [] k m = absurd (contains_none k m)
    congruence_of (c ∷ cs) k m = elim (contains_cases (constraint_of c) (map constraint_of cs) k m) [
      | inl e ↦ (c, contains_here c cs, e)
      | inr t ↦ (let r = congruence_of cs k t in (r.0, contains_there c r.0 cs r.1, r.2))
    ]

    condition_above : (c : Congruence) → Contains s.cg c → (f : Vector) (m : ℤ) → f ≡ c.form → m ≡ c.modulus → HasConditionOutside fits (Multiple f m) → HasOwnAbove s h
    condition_above c there f m e i (multiple_form k) = form_above c.form (congruence there) (subst (HasEntryOutside fits) e k)
    condition_above c there f m e i (modulus k) =
        let l = large_number m k in
        let p = Each-contains (λ (d : Congruence). pos 1 ≤ℤ d.modulus) s.cg c is.moduli there in
        of_modulus there (subst (λ (n : ℤ). h <ℤ n) i (positive m (subst (λ (n : ℤ). pos 1 ≤ℤ n) (sym i) p) l))
      where
        positive : (m : ℤ) → pos 1 ≤ℤ m → h <ℤ pos (unsigned_abs m) → h <ℤ m
        positive m p l = grind (arith, ints)

    asked_entry : (x : Vector) → HasEntryOutside fits x → HasEntryOutside fits (asked_member s x)
    asked_entry x k = by s.level
      where
        by : (b : Bool) → HasEntryOutside fits (elim b [ true ↦ x ++ pos 1 ∷ [] | false ↦ x ])
        by true = record { entry = k.entry; listed = Contains-append_left x (pos 1 ∷ []) k.entry k.listed; outside = k.outside }
        by false = k

    -- a number of the system that is no value of the type
    pub number_above : HasNumberOutside fits s → HasOwnAbove s h
    number_above (of_equation k) = form_above k.vector (equation (own_equation k.listed)) k.outside
    number_above (of_congruence k) =
        let r = congruence_of s.cg k.condition k.listed in
        condition_above r.0 r.1 r.0.form r.0.modulus refl refl (subst (HasConditionOutside fits) (sym r.2) k.outside)
    number_above (of_row k) = form_above k.vector (row (own_row k.listed)) k.outside
    number_above (of_generator k) = vector_above k.outside.vector (pools.generator k.same k.outside.listed) k.outside.outside
    number_above (of_group k) = vector_above k.outside.vector (pools.of_group k.same k.outside.listed) k.outside.outside
    number_above (of_grading k) = form_above k.form (pools.grading k.same) k.outside
    number_above (of_asked k) = vector_above (asked_member s k.outside.vector) (pools.asked k.same k.outside.listed) (asked_entry k.outside.vector k.outside.outside)
