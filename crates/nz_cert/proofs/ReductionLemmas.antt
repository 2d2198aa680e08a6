-- Values from which entries of a table are taken, one after the other.
use Rattle.std.specs.Bool.{MatchBool}
use Rattle.std.proofs.Common.{Bool, true, false, ◌≡◌, ℕ, zero, suc, ◌+◌, ◌<◌, ◌≤◌, List, [], ◌∷◌, ◌++◌, length, take, drop, get_or, replicate, ℤ, pos, negsuc, ◌-ℤ◌, ◌≤ℤ◌, unsigned_abs, refl, sym, ap, ◌∙◌, subst, arith, slice_index_or}
use Rattle.std.proofs.lemmas.Int.{ints}
use Rattle.std.proofs.lemmas.List.{take-append-drop, drop_more}
use Rattle.std.specs.List.{AllByRecursion as Each}
use Rattle.nz_spec.specs.Vectors.{Vector, minus, HasWidth, IsZero, IsNonzero}
use Rattle.nz_spec.specs.Parts.{CanTake, one_more, TakesApart, leaves, takes}
use Rattle.nz_spec.proofs.ListLaws.{each_at}
use Rattle.nz_order.specs.Boxes.{NonNegative, IsBelow}
use Rattle.nz_range.specs.Measures.{measure}
use Rattle.nz_further.specs.Certificates.{IsReducedOver}
use Rattle.nz_further.proofs.Reducing.{not_reduced_over}
use Rattle.nz_reducer.specs.Tables.{NoneIsBelow, IsFirstBelow}

-- ---- columns
pub below_more : (low high : Vector) (k : ℕ) → k < length low → length low ≡ length high → IsBelow (take k low) (take k high) → get_or low k (pos 0) ≤ℤ get_or high k (pos 0) → IsBelow (take (k + 1) low) (take (k + 1) high)
below_more low high k l e h g = (let n : suc k ≡ k + 1 = omega arith in subst (λ (n : ℕ). IsBelow (take n low) (take n high)) n (go low high k l e h g))
  where
    go : (low high : Vector) (k : ℕ) → k < length low → length low ≡ length high → IsBelow (take k low) (take k high) → get_or low k (pos 0) ≤ℤ get_or high k (pos 0) → IsBelow (take (suc k) low) (take (suc k) high)
    go [] high k l e h g = absurd (let f : ⊥ = omega (arith, l) in f)
    go (a ∷ low) [] k l e h g = absurd (let f : ⊥ = omega (arith, e) in f)
    go (a ∷ low) (b ∷ high) zero l e h g = (g, tt)
    go (a ∷ low) (b ∷ high) (suc k) l e h g = (h.0, go low high k (omega (arith, l)) (omega (arith, e)) h.1 g)

pub below_at : (low high : Vector) (k : ℕ) → k < length low → IsBelow low high → get_or low k (pos 0) ≤ℤ get_or high k (pos 0)
below_at [] high k l h = absurd (let f : ⊥ = omega (arith, l) in f)
below_at (a ∷ low) [] k l h = absurd h
below_at (a ∷ low) (b ∷ high) zero l h = h.0
below_at (a ∷ low) (b ∷ high) (suc k) l h = below_at low high k (omega (arith, l)) h.1

pub below_length : (low high : Vector) → IsBelow low high → length low ≡ length high
below_length [] [] h = refl
below_length [] (b ∷ high) h = absurd h
below_length (a ∷ low) [] h = absurd h
below_length (a ∷ low) (b ∷ high) h = ap suc (below_length low high h.1)

pub taken_all : {A : Type 0} (xs : List A) (k : ℕ) → length xs ≤ k → take k xs ≡ xs
taken_all [] zero l = refl
taken_all [] (suc k) l = refl
taken_all (x ∷ xs) zero l = absurd (let f : ⊥ = omega (arith, l) in f)
taken_all {A} (x ∷ xs) (suc k) l = ap (λ (ys : List A). x ∷ ys) (taken_all xs k (omega (arith, l)))

pub minus_more : (x e : Vector) (k : ℕ) → k < length x → length e ≡ length x → minus (take (k + 1) x) (take (k + 1) e) ≡ minus (take k x) (take k e) ++ (get_or x k (pos 0) -ℤ get_or e k (pos 0)) ∷ []
minus_more x e k l s = (let n : k + 1 ≡ suc k = omega arith in ap (λ (n : ℕ). minus (take n x) (take n e)) n ∙ go x e k l s)
  where
    go : (x e : Vector) (k : ℕ) → k < length x → length e ≡ length x → minus (take (suc k) x) (take (suc k) e) ≡ minus (take k x) (take k e) ++ (get_or x k (pos 0) -ℤ get_or e k (pos 0)) ∷ []
    go [] e k l s = absurd (let f : ⊥ = omega (arith, l) in f)
    go (a ∷ x) [] k l s = absurd (let f : ⊥ = omega (arith, s) in f)
    go (a ∷ x) (b ∷ e) zero l s = refl
    go (a ∷ x) (b ∷ e) (suc k) l s = ap (λ (v : Vector). (a -ℤ b) ∷ v) (go x e k (omega (arith, l)) (omega (arith, s)))

pub zero_more : (x : Vector) (k : ℕ) → k < length x → IsZero (take k x) → get_or x k (pos 0) ≡ pos 0 → IsZero (take (k + 1) x)
zero_more x k l h e = (let n : suc k ≡ k + 1 = omega arith in subst (λ (n : ℕ). IsZero (take n x)) n (go x k l h e))
  where
    go : (x : Vector) (k : ℕ) → k < length x → IsZero (take k x) → get_or x k (pos 0) ≡ pos 0 → IsZero (take (suc k) x)
    go [] k l h e = absurd (let f : ⊥ = omega (arith, l) in f)
    go (a ∷ x) zero l h e = (e, tt)
    go (a ∷ x) (suc k) l h e = (h.0, go x k (omega (arith, l)) h.1 e)

-- ---- taking away
pub can_of_below : (x e : Vector) → IsBelow e x → NonNegative (minus x e)
can_of_below [] [] h = tt
can_of_below [] (b ∷ e) h = absurd h
can_of_below (a ∷ x) [] h = absurd h
can_of_below (a ∷ x) (b ∷ e) h = ((let k = h.0 in omega (arith, ints, k)), can_of_below x e h.1)

pub below_of_can : (x e : Vector) → length e ≡ length x → NonNegative (minus x e) → IsBelow e x
below_of_can [] [] l h = tt
below_of_can [] (b ∷ e) l h = absurd (let f : ⊥ = omega (arith, l) in f)
below_of_can (a ∷ x) [] l h = absurd (let f : ⊥ = omega (arith, l) in f)
below_of_can (a ∷ x) (b ∷ e) l h = ((let k = h.0 in omega (arith, ints, k)), below_of_can x e (omega (arith, l)) h.1)

less_length : (x e : Vector) → IsBelow e x → length (minus x e) ≡ length x
less_length [] [] h = refl
less_length [] (b ∷ e) h = absurd h
less_length (a ∷ x) [] h = absurd h
less_length (a ∷ x) (b ∷ e) h = ap suc (less_length x e h.1)

abs_same : (a : ℤ) → pos 0 ≤ℤ a → pos (unsigned_abs a) ≡ a
abs_same (pos n) h = refl
abs_same (negsuc n) h = absurd (let f : ⊥ = omega (arith, ints, h) in f)

abs_less : (a b : ℤ) → pos 0 ≤ℤ b → b ≤ℤ a → unsigned_abs (a -ℤ b) + unsigned_abs b ≡ unsigned_abs a
abs_less a b h k =
    let x = abs_same (a -ℤ b) (omega (arith, ints, k)) in
    let y = abs_same b h in
    let z = abs_same a (omega (arith, ints, h, k)) in
    omega (arith, ints, x, y, z)

measure_less : (x e : Vector) → NonNegative e → IsBelow e x → measure (minus x e) + measure e ≡ measure x
measure_less [] [] h k = refl
measure_less [] (b ∷ e) h k = absurd k
measure_less (a ∷ x) [] h k = absurd k
measure_less (a ∷ x) (b ∷ e) h k = (let m = abs_less a b h.0 k.0 in let n = measure_less x e h.1 k.1 in omega (arith, m, n))

measure_positive : (e : Vector) → IsNonzero e → 0 < measure e
measure_positive [] n = absurd (n tt)
measure_positive (pos zero ∷ e) n = (let m = measure_positive e (λ z. n (refl, z)) in omega (arith, m))
measure_positive (pos (suc k) ∷ e) n = omega arith
measure_positive (negsuc k ∷ e) n = omega arith

-- this is left of the values after some takings
pub record IsLeft (table : List Vector) (values left : Vector) : Type 0 where
  pub same : length left ≡ length values
  pub not_negative : NonNegative left
  pub taken : (counts : List ℕ) (rest : Vector) → TakesApart NonNegative table left counts rest → (all : List ℕ) × TakesApart NonNegative table values all rest

pub left_start : (table : List Vector) (values left : Vector) → NonNegative values → left ≡ values → IsLeft table values left
left_start table values left h e = subst (IsLeft table values) (sym e) (record { same = refl; not_negative = h; taken = λ counts rest t. (counts, t) })

none_before : (table : List Vector) (x : Vector) (k : ℕ) → Each (HasWidth (length x)) table → ((j : ℕ) → j < k → ¬ IsBelow (get_or table j []) x) → k ≤ length table → Each (λ d. ¬ CanTake NonNegative x d) (take k table)
none_before table x zero w n l = tt
none_before [] x (suc k) w n l = tt
none_before (e ∷ table) x (suc k) w n l = ((λ c. n 0 (omega arith) (below_of_can x e w.0 c)), none_before table x k w.1 (λ j m. n (suc j) (omega (arith, m))) (omega (arith, l)))

none_can : (table : List Vector) (x : Vector) → Each (HasWidth (length x)) table → NoneIsBelow table x → Each (λ d. ¬ CanTake NonNegative x d) table
none_can [] x w n = tt
none_can (e ∷ table) x w n = ((λ c. n.0 (below_of_can x e w.0 c)), none_can table x w.1 n.1)

pub left_more : (table : List Vector) (values left less : Vector) (k : ℕ) → Each (HasWidth (length values)) table → IsLeft table values left → IsFirstBelow table left k → less ≡ minus left (slice_index_or table k []) → IsLeft table values less
left_more table values left less k w h f e =
    let entry = get_or table k [] in
    let split : table ≡ take k table ++ entry ∷ drop (k + 1) table = sym (take-append-drop k table) ∙ ap (λ (xs : List Vector). take k table ++ xs) (drop_more table k [] f.inside) in
    let wide = subst (λ (n : ℕ). Each (HasWidth n) table) (sym h.same) w in
    subst (IsLeft table values) (sym e) (record {
      same = less_length left entry f.below ∙ h.same;
      not_negative = can_of_below left entry f.below;
      taken = λ counts rest t. h.taken (one_more (length (take k table)) counts) rest
          (takes (take k table) (drop (k + 1) table) entry split (none_before table left k wide f.first (let l = f.inside in omega (arith, l))) (can_of_below left entry f.below) t);
    })

pub left_smaller : (table : List Vector) (values left less : Vector) (k : ℕ) → Each NonNegative table → Each IsNonzero table → IsFirstBelow table left k → less ≡ minus left (slice_index_or table k []) → measure less < measure left
left_smaller table values left less k p n f e =
    let entry = get_or table k [] in
    let m = measure_less left entry (each_at NonNegative table k [] p f.inside) f.below in
    let z = measure_positive entry (each_at IsNonzero table k [] n f.inside) in
    let s = ap measure e in
    omega (arith, m, z, s)

pub left_zero : (table : List Vector) (values left : Vector) → Each (HasWidth (length values)) table → IsLeft table values left → NoneIsBelow table left → IsZero left → IsReducedOver NonNegative table values
left_zero table values left w h n z =
    let wide = subst (λ (k : ℕ). Each (HasWidth k) table) (sym h.same) w in
    let t = h.taken (replicate (length table) 0) left (leaves (none_can table left wide n)) in
    record { counts = t.0; rest = left; taken = t.1; nothing_left = z }

pub left_nonzero : (table : List Vector) (values left : Vector) → Each (HasWidth (length values)) table → IsLeft table values left → NoneIsBelow table left → IsNonzero left → ¬ IsReducedOver NonNegative table values
left_nonzero table values left w h n z =
    let wide = subst (λ (k : ℕ). Each (HasWidth k) table) (sym h.same) w in
    let t = h.taken (replicate (length table) 0) left (leaves (none_can table left wide n)) in
    not_reduced_over NonNegative table values t.0 left t.1 z

pub none_is_below : (table : List Vector) (x : Vector) (k : ℕ) → length table ≤ k → ((j : ℕ) → j < k → ¬ IsBelow (get_or table j []) x) → NoneIsBelow table x
none_is_below [] x k l n = tt
none_is_below (e ∷ table) x zero l n = absurd (let f : ⊥ = omega (arith, l) in f)
none_is_below (e ∷ table) x (suc k) l n = (n 0 (omega arith), none_is_below table x k (omega (arith, l)) (λ j m. n (suc j) (omega (arith, m))))

pub taken_difference : (x e : Vector) (k : ℕ) (items : Vector) → IsBelow e x → length x ≤ k → items ≡ minus (take k x) (take k e) → items ≡ minus x e
taken_difference x e k items b l h =
    let m = below_length e x b in
    h ∙ ap (λ (v : Vector). minus v (take k e)) (taken_all x k l) ∙ ap (λ (v : Vector). minus x v) (taken_all e k (omega (arith, l, m)))

pub left_end : (table : List Vector) (values left : Vector) (zero : Bool) → Each (HasWidth (length values)) table → IsLeft table values left → NoneIsBelow table left → MatchBool zero (IsZero left) (¬ IsZero left) → MatchBool zero (IsReducedOver NonNegative table values) (¬ IsReducedOver NonNegative table values)
left_end table values left true w h n z = left_zero table values left w h n z
left_end table values left false w h n z = left_nonzero table values left w h n z

pub pushed_difference : (x e : Vector) (k : ℕ) (items more : Vector) (d : ℤ) → k < length x → length e ≡ length x → items ≡ minus (take k x) (take k e) → more ≡ items ++ d ∷ [] → d ≡ get_or x k (pos 0) -ℤ get_or e k (pos 0) → more ≡ minus (take (k + 1) x) (take (k + 1) e)
pushed_difference x e k items more d l m h g f = g ∙ ap (λ (v : Vector). v ++ d ∷ []) h ∙ ap (λ (z : ℤ). minus (take k x) (take k e) ++ z ∷ []) f ∙ sym (minus_more x e k l m)
