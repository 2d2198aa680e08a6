-- What the values at two elements, one of each side, tell of their sum.
use Rattle.std.proofs.Common.{◌≡◌, ⊎_elim, inr, ℕ, zero, suc, ◌+◌, ◌<◌, List, [], ◌∷◌, ◌++◌, length, map, take, get_or, ℤ, pos, ◌+ℤ◌, ◌-ℤ◌, ◌<ℤ◌, Contains, refl, sym, ap, ap₂, ◌∙◌, subst, arith}
use Rattle.std.proofs.lemmas.Int.{ints}
use Rattle.std.proofs.lemmas.List.{length-map, length-append, length-take-le, get_or-map}
use Rattle.std.specs.List.{AllByRecursion as Each}
use Rattle.nz_spec.specs.Vectors.{Vector, dot, plus, entry, values_at}
use Rattle.nz_spec.proofs.VectorLaws.{dot-plus, plus_comm, length-plus}
use Rattle.nz_spec.proofs.ListLaws.{Each-contains, each_at, contains_at}
use Rattle.nz_linear.proofs.SumCoordinates.{image_of}
use Rattle.nz_order.specs.Boxes.{IsBelow}
use Rattle.nz_reducer.specs.Tables.{HasAnyBelow}
use Rattle.nz_dual.specs.Sides.{SideLists, IsSide, IsSideElement, Handles}
use Rattle.nz_dual.specs.PairValues.{sums_before, height, HasValues, FallsAway}
use Rattle.nz_dual.specs.Closures.{AreParts, IsSettled}
use Rattle.nz_dual.proofs.SideLemmas.{found_same, opposite_value, opposite_length}
use Rattle.nz_dual.proofs.KeepLemmas.{values_split, last_value, not_on_side}

-- ---- sums of values
pub plus_at : (u v : Vector) (i : ℕ) → i < length u → i < length v → get_or (plus u v) i (pos 0) ≡ get_or u i (pos 0) +ℤ get_or v i (pos 0)
plus_at [] v i l m = absurd (let f : ⊥ = omega arith in f)
plus_at (a ∷ u) [] i l m = absurd (let f : ⊥ = omega arith in f)
plus_at (a ∷ u) (b ∷ v) zero l m = refl
plus_at (a ∷ u) (b ∷ v) (suc i) l m = plus_at u v i (omega arith) (omega arith)

pub sums_wide : (count : ℕ) (own other : Vector) (last : ℤ) → length own ≡ count + 1 → length other ≡ count + 1 → length (sums_before count own other last) ≡ count + 1
sums_wide count own other last a b =
    let l = length-plus own other (a ∙ sym b) in
    let t = length-take-le count (plus own other) (omega (arith, l, a)) in
    length-append (take count (plus own other)) (last ∷ []) ∙ ap (λ (n : ℕ). n + 1) t

-- the value of the last form, read off the values at the two
pub fallen : (count : ℕ) (own other u v : Vector) (z : ℤ) → own ≡ u → other ≡ v → z ≡ entry own count -ℤ entry other count → z ≡ height count u v
fallen count own other u v z a b e = e ∙ ap₂ (λ (x y : Vector). height count x y) a b

first_sums : (rows : List Vector) (f g x y : Vector) → length x ≡ length y → take (length rows) (plus (values_at (rows ++ f ∷ []) x) (values_at (rows ++ g ∷ []) y)) ≡ values_at rows (plus x y)
first_sums [] f g x y l = refl
first_sums (r ∷ rows) f g x y l = ap₂ (λ (a : ℤ) (vs : Vector). a ∷ vs) (sym (dot-plus r x y l)) (first_sums rows f g x y l)

-- the height of the sum of an element and one of the side of the opposite form
height_is : (rows : List Vector) (f g x y : Vector) → length x ≡ length y → dot g y ≡ pos 0 -ℤ dot f y → height (length rows) (values_at (rows ++ f ∷ []) x) (values_at (rows ++ g ∷ []) y) ≡ dot f (plus x y)
height_is rows f g x y l o =
    let a = last_value rows f x in
    let b = last_value rows g y in
    let s = dot-plus f x y l in
    omega (arith, ints, a, b, s, o)

values_are : (rows : List Vector) (f g x y : Vector) → length x ≡ length y → dot g y ≡ pos 0 -ℤ dot f y
    → sums_before (length rows) (values_at (rows ++ f ∷ []) x) (values_at (rows ++ g ∷ []) y) (height (length rows) (values_at (rows ++ f ∷ []) x) (values_at (rows ++ g ∷ []) y)) ≡ values_at (rows ++ f ∷ []) (plus x y)
values_are rows f g x y l o = ap₂ (λ (vs : Vector) (a : ℤ). vs ++ a ∷ []) (first_sums rows f g x y l) (height_is rows f g x y l o) ∙ sym (values_split rows f (plus x y))

pub falls_by : (count : ℕ) (entries : List Vector) (own other u v values : Vector) (z : ℤ) → own ≡ u → other ≡ v → z ≡ entry own count -ℤ entry other count → values ≡ sums_before count own other z → HasAnyBelow entries values → FallsAway count entries u v
falls_by count entries own other u v values z a b h e k = inr (subst (HasAnyBelow entries) (e ∙ ap (sums_before count own other) (fallen count own other u v z a b h) ∙ ap₂ (λ (x y : Vector). sums_before count x y (height count u v)) a b) k)

-- ---- what falls
handled_below : (rows : List Vector) (last : Vector) (elements : List Vector) (z : Vector) → Each (IsSideElement rows last) elements → HasAnyBelow (map (values_at (rows ++ last ∷ [])) elements) (values_at (rows ++ last ∷ []) z) → Handles rows last elements z
handled_below rows last elements z only s = λ i.
    let fs = rows ++ last ∷ [] in
    let m = image_of (values_at fs) elements (get_or (map (values_at fs) elements) s.place []) (contains_at (map (values_at fs) elements) s.place [] s.inside) in
    let b = subst (λ (v : Vector). IsBelow v (values_at fs z)) (sym m.same) s.below in
    subst (Contains elements) (found_same rows last m.source z (Each-contains (IsSideElement rows last) elements m.source only m.has) b i) m.has

falls_handled : (limit : ℕ) (rows : List Vector) (s : SideLists) (g x y own other : Vector) → IsSide limit rows s → length x ≡ length y → dot g y ≡ pos 0 -ℤ dot s.last y → own ≡ values_at (rows ++ s.last ∷ []) x → other ≡ values_at (rows ++ g ∷ []) y
    → FallsAway (length rows) s.values own other → Handles rows s.last s.elements (plus x y)
falls_handled limit rows s g x y own other side l o eu ev f =
    let fs = rows ++ s.last ∷ [] in
    let n = length rows in
    ⊎_elim
    (λ (a : height n own other <ℤ pos 0). λ i. absurd (not_on_side rows s.last s.last (plus x y) (height n own other) refl (ap₂ (height n) eu ev ∙ height_is rows s.last g x y l o) a i))
    (λ (b : HasAnyBelow s.values (sums_before n own other (height n own other))).
    let e : sums_before n own other (height n own other) ≡ values_at fs (plus x y) = ap₂ (λ (u v : Vector). sums_before n u v (height n u v)) eu ev ∙ values_are rows s.last g x y l o in
    handled_below rows s.last s.elements (plus x y) side.elements (subst (λ (ts : List Vector). HasAnyBelow ts (values_at fs (plus x y))) side.values (subst (HasAnyBelow s.values) e b)))
    f

-- ---- the rising elements of a side
rising_wide : (limit : ℕ) (rows : List Vector) (s : SideLists) → IsSide limit rows s → (k : ℕ) → k < length s.rising → length (get_or s.rising k []) ≡ length s.last
rising_wide limit rows s i k l =
    let c = (each_at (λ v. Contains s.elements v × (pos 0 <ℤ dot s.last v)) s.rising k [] i.rising l).0 in
    (Each-contains (IsSideElement rows s.last) s.elements (get_or s.rising k []) i.elements c).member.in_lattice

values_of_rising : (limit : ℕ) (rows : List Vector) (s : SideLists) → IsSide limit rows s → (k : ℕ) → k < length s.rising → get_or s.rising_values k [] ≡ values_at (rows ++ s.last ∷ []) (get_or s.rising k [])
values_of_rising limit rows s i k l = ap (λ (vs : List Vector). get_or vs k []) i.rising_values ∙ get_or-map (values_at (rows ++ s.last ∷ [])) s.rising k [] [] l

pub rising_values_count : (limit : ℕ) (rows : List Vector) (s : SideLists) → IsSide limit rows s → length s.rising_values ≡ length s.rising
rising_values_count limit rows s i = ap length i.rising_values ∙ length-map s.rising (values_at (rows ++ s.last ∷ []))

pub rising_values_wide : (limit : ℕ) (rows : List Vector) (s : SideLists) → IsSide limit rows s → (k : ℕ) → k < length s.rising → length (get_or s.rising_values k []) ≡ length rows + 1
rising_values_wide limit rows s i k l = ap length (values_of_rising limit rows s i k l) ∙ length-map (rows ++ s.last ∷ []) (λ f. dot f (get_or s.rising k [])) ∙ length-append rows (s.last ∷ [])

pub has_values : (limit : ℕ) (rows : List Vector) (s : SideLists) → IsSide limit rows s → (count k : ℕ) → count ≡ length rows → k < length s.rising → HasValues count s k
has_values limit rows s i count k e l = ((let n = rising_values_count limit rows s i in omega (arith, n, l)), rising_values_wide limit rows s i k l ∙ ap (λ (n : ℕ). n + 1) (sym e))

pub same_width : (rows : List Vector) (up down : SideLists) → AreParts rows up down → (i k : ℕ) → i < length up.rising → k < length down.rising → length (get_or up.rising i []) ≡ length (get_or down.rising k [])
same_width rows up down parts i k li lk =
    let p = parts.1 in
    rising_wide parts.0 rows up p.up_side i li ∙ sym (opposite_length up.last) ∙ sym (ap length p.turned) ∙ sym (rising_wide parts.0 rows down p.down_side k lk)

-- where the sum of two rising elements falls or is absent on each side, neither needs it
pub settled : (rows : List Vector) (up down : SideLists) → AreParts rows up down → (i k : ℕ) → i < length up.rising → k < length down.rising → (above below : Vector) → above ≡ get_or up.rising_values i [] → below ≡ get_or down.rising_values k []
    → FallsAway (length rows) up.values above below → FallsAway (length rows) down.values below above → IsSettled rows up down (plus (get_or up.rising i []) (get_or down.rising k []))
settled rows up down parts i k li lk above below ea eb fu fd =
    let limit = parts.0 in
    let p = parts.1 in
    let x = get_or up.rising i [] in
    let y = get_or down.rising k [] in
    let l = same_width rows up down parts i k li lk in
    let eu = ea ∙ values_of_rising limit rows up p.up_side i li in
    let ev = eb ∙ values_of_rising limit rows down p.down_side k lk in
    let turned : (v : Vector) → dot down.last v ≡ pos 0 -ℤ dot up.last v = λ v. ap (λ (f : Vector). dot f v) p.turned ∙ opposite_value up.last v in
    let back : dot up.last x ≡ pos 0 -ℤ dot down.last x = (let t = turned x in omega (arith, ints, t)) in (
      falls_handled limit rows up down.last x y above below p.up_side l (turned y) eu ev fu,
      subst (Handles rows down.last down.elements) (plus_comm y x) (falls_handled limit rows down up.last y x below above p.down_side (sym l) back ev eu fd),
    )
