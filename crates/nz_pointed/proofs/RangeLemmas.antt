-- What is too large where elimination forms a number that is no value of the type.
use Rattle.std.proofs.Common.{◌≡◌, inl, inr, ⊎_elim, ℕ, zero, suc, ◌<◌, List, [], ◌∷◌, ◌++◌, length, get_or, take, drop, ℤ, pos, negsuc, neg_ℤ, ◌-ℤ◌, ◌≤ℤ◌, ◌<ℤ◌, refl, sym, ap, ap₂, ◌∙◌, subst, arith}
use Rattle.std.specs.Prelude.{Result, Ok, Err, MatchResult, unsigned_abs}
use Rattle.std.specs.List.{AllByRecursion as Each, Contains}
use Rattle.std.proofs.lemmas.Int.{ints}
use Rattle.nz_spec.specs.Vectors.{Vector, dot, plus, scaled, opposite, HasWidth}
use Rattle.nz_spec.proofs.ListLaws.{contains_here, contains_there, Each-contains}
use Rattle.nz_scalar.specs.Room.{HasRoom}
use Rattle.nz_vec.specs.Combinations.{CombinationFits}
use Rattle.nz_range.specs.Measures.{measure, SomeLarge, SomeLargeAt, AreLargeFor}
use Rattle.nz_range.proofs.Fits.{combination_fits}
use Rattle.nz_range.proofs.Causes.{or_large, IsUpToSign, large_within, large_up_to_sign, each_own}
use Rattle.std.proofs.lemmas.List.Elements.{Contains-append_left, Contains-append_right}
use Rattle.nz_linear.proofs.Lists.{each_map, each_append}
use Rattle.nz_spec.specs.Forms.{IsNormalForm}
use Rattle.nz_pointed.specs.Pointed.{IsTooLarge}
use Rattle.nz_pointed.proofs.AnswerLemmas.{left_normals, chosen_normals}
use Rattle.nz_pointed.specs.Elimination.{IsElimination, IsTurned}
use Rattle.nz_pointed.proofs.ListLemmas.{each_take}
use Rattle.nz_pointed.proofs.SignLemmas.{opposite-opposite}

pub match_map : {A E : Type 0} (P Q : A → Type 0) (R S : E → Type 0) (r : Result A E) → ((x : A) → P x → Q x) → ((e : E) → R e → S e) → MatchResult r P R → MatchResult r Q S
match_map P Q R S (Ok x) f g h = f x h
match_map P Q R S (Err e) f g h = g e h

-- -1 times x and 0 times x
pub opposite_large : (h : ℤ) (fits : ℤ → Type 0) → HasRoom h fits → (a b : ℤ) (x : Vector) → a ≡ negsuc 0 → b ≡ pos 0 → ¬ CombinationFits fits a x b x → h <ℤ pos (measure x)
opposite_large h fits r a b x e f n =
    let low = r.at_least in
    ⊎_elim
    (λ (l : pos (measure x) ≤ℤ h). absurd (n (combination_fits h fits r a x b x (rw e (omega (arith, ints, low), omega (arith, ints, low))) (rw f (omega (arith, ints, low), omega (arith, ints, low))) l l)))
    (λ l. l)
    (or_large h (measure x))

-- 0 less a value has its size
pub size_of_opposite : (a b c z : ℤ) → z ≡ pos 0 → a ≡ c → b ≡ z -ℤ a → unsigned_abs b ≡ unsigned_abs c
size_of_opposite a b c z k e f = omega (arith, ints, k, e, f)

pub first_of_two : (u v : Vector) → Contains (u ∷ v ∷ []) u
first_of_two u v = contains_here u (v ∷ [])

pub second_of_two : (u v : Vector) → Contains (u ∷ v ∷ []) v
second_of_two u v = contains_there u v (v ∷ []) (contains_here v [])

-- what is cleared, and the cause where that is no row
pub cleared_sum : (f u v : Vector) (a b at z : ℤ) → a ≡ dot f u → at ≡ dot f v → z ≡ pos 0 → b ≡ z -ℤ at → plus (scaled a v) (scaled b u) ≡ plus (scaled (dot f u) v) (scaled (neg_ℤ (dot f v)) u)
cleared_sum f u v a b at z e g k h = let n : b ≡ neg_ℤ (dot f v) = omega (arith, ints, g, k, h) in ap₂ (λ (s t : ℤ). plus (scaled s v) (scaled t u)) e n

pub contains_at : (xs : List Vector) (i : ℕ) (x : Vector) → i < length xs → x ≡ get_or xs i x → Contains xs x
contains_at xs i x l e = (i, l, sym e)

-- ---- a step: the vector left at the pivot, its turned form, and the others
each_drop : (P : Vector → Type 0) (n : ℕ) (xs : List Vector) → Each P xs → Each P (drop n xs)
each_drop P zero xs h = h
each_drop P (suc n) [] h = tt
each_drop P (suc n) (x ∷ xs) h = each_drop P n xs h.1

left_held : (chosen left : List Vector) → Each (Contains (chosen ++ left)) left
left_held chosen left = each_map (Contains left) (Contains (chosen ++ left)) left (λ x k. Contains-append_right chosen left x k) (each_own left)

chosen_held : (chosen left : List Vector) → Each (Contains (chosen ++ left)) chosen
chosen_held chosen left = each_map (Contains chosen) (Contains (chosen ++ left)) chosen (λ x k. Contains-append_left chosen left x k) (each_own chosen)

by_sign : (ws vs : List Vector) → Each (Contains ws) vs → Each (IsUpToSign ws) vs
by_sign ws vs h = each_map (Contains ws) (IsUpToSign ws) vs (λ x k. inl k) h

pivot_held : (chosen left : List Vector) (pivot : ℕ) (b : Vector) → pivot < length left → b ≡ get_or left pivot b → Contains (chosen ++ left) b
pivot_held chosen left pivot b l e = Contains-append_right chosen left b (contains_at left pivot b l e)

own_held : (f : Vector) (chosen left : List Vector) (pivot : ℕ) (b own : Vector) → pivot < length left → b ≡ get_or left pivot b → IsTurned f b own → IsUpToSign (chosen ++ left) own
own_held f chosen left pivot b own l e t =
    ⊎_elim
    (λ s. inl (subst (Contains (chosen ++ left)) (sym s) (pivot_held chosen left pivot b l e)))
    (λ s. inr (subst (Contains (chosen ++ left)) (sym (ap opposite s ∙ opposite-opposite b)) (pivot_held chosen left pivot b l e)))
    t.same

pub large_pivot : (h : ℤ) (f : Vector) (chosen left : List Vector) (pivot : ℕ) (b : Vector) → pivot < length left → b ≡ get_or left pivot b → AreLargeFor h f (b ∷ []) → AreLargeFor h f (chosen ++ left)
large_pivot h f chosen left pivot b l e a = large_within h f (b ∷ []) (chosen ++ left) (pivot_held chosen left pivot b l e, tt) a

pub large_own : (h : ℤ) (f : Vector) (chosen left : List Vector) (pivot : ℕ) (b own : Vector) → pivot < length left → b ≡ get_or left pivot b → IsTurned f b own → AreLargeFor h f (own ∷ []) → AreLargeFor h f (chosen ++ left)
large_own h f chosen left pivot b own l e t a = large_up_to_sign h f (own ∷ []) (chosen ++ left) (own_held f chosen left pivot b own l e t, tt) a

pub large_left : (h : ℤ) (f : Vector) (chosen left others : List Vector) (pivot : ℕ) (b own : Vector) → pivot < length left → b ≡ get_or left pivot b → others ≡ take pivot left ++ drop (suc pivot) left → IsTurned f b own
    → AreLargeFor h f (own ∷ others) → AreLargeFor h f (chosen ++ left)
large_left h f chosen left others pivot b own l e o t a =
    large_up_to_sign h f (own ∷ others) (chosen ++ left)
    (own_held f chosen left pivot b own l e t, by_sign (chosen ++ left) others (subst (Each (Contains (chosen ++ left))) (sym o) (each_append (Contains (chosen ++ left)) (take pivot left) (drop (suc pivot) left) (each_take (Contains (chosen ++ left)) left pivot (left_held chosen left)) (each_drop (Contains (chosen ++ left)) (suc pivot) left (left_held chosen left)))))
    a

pub large_chosen : (h : ℤ) (f : Vector) (chosen left : List Vector) (pivot : ℕ) (b own : Vector) → pivot < length left → b ≡ get_or left pivot b → IsTurned f b own → AreLargeFor h f (own ∷ chosen) → AreLargeFor h f (chosen ++ left)
large_chosen h f chosen left pivot b own l e t a = large_up_to_sign h f (own ∷ chosen) (chosen ++ left) (own_held f chosen left pivot b own l e t, by_sign (chosen ++ left) chosen (chosen_held chosen left)) a

-- ---- the whole
normal_among : (w : ℕ) (seen rows : List Vector) (f : Vector) → Each (Contains rows) seen → IsNormalForm w seen f → IsNormalForm w rows f
normal_among w seen rows f c n = record {
  vectors = n.vectors;
  of_list = each_map (Contains seen) (Contains rows) n.vectors (λ v k. Each-contains (Contains rows) seen v c k) n.of_list;
  independent = n.independent;
  kind = n.kind;
}

-- all that is held after some of the rows is a normal form of all
held_normal : (w : ℕ) (rows : List Vector) (place : ℕ) (places : List ℕ) (chosen left : List Vector) → Each (HasWidth w) rows → IsElimination w (take place rows) places chosen left → Each (IsNormalForm w rows) (chosen ++ left)
held_normal w rows place places chosen left l e =
    let some = take place rows in
    let among = each_take (Contains rows) rows place (each_own rows) in
    each_append (IsNormalForm w rows) chosen left
    (each_map (IsNormalForm w some) (IsNormalForm w rows) chosen (λ f n. normal_among w some rows f among n) (chosen_normals w some places chosen left (each_take (HasWidth w) rows place l) e))
    (each_map (IsNormalForm w some) (IsNormalForm w rows) left (λ f n. normal_among w some rows f among n) (left_normals w some places chosen left e))

default_free : (xs : List Vector) (i : ℕ) (d e : Vector) → i < length xs → get_or xs i d ≡ get_or xs i e
default_free [] i d e l = absurd (omega arith)
default_free (x ∷ xs) zero d e l = refl
default_free (x ∷ xs) (suc i) d e l = default_free xs i d e (omega arith)

pub too_large : (h : ℤ) (w : ℕ) (rows : List Vector) (place : ℕ) (places : List ℕ) (chosen left : List Vector) → Each (HasWidth w) rows → place < length rows → IsElimination w (take place rows) places chosen left
    → AreLargeFor h (get_or rows place []) (chosen ++ left) → IsTooLarge h w rows
too_large h w rows place places chosen left l within e a =
    let f = get_or rows place [] in
    let normal = held_normal w rows place places chosen left l e in
    ⊎_elim
    (λ (s : SomeLarge h (Contains (chosen ++ left))). inl (record { vector = s.vector; named = Each-contains (IsNormalForm w rows) (chosen ++ left) s.vector normal s.named; large = s.large }))
    (λ (s : SomeLargeAt h (λ g. g ≡ f) (Contains (chosen ++ left))). inr (record { form = s.form; vector = s.vector; is_form = subst (Contains rows) (sym s.is_form) (contains_at rows place f within (default_free rows place [] f within)); named = Each-contains (IsNormalForm w rows) (chosen ++ left) s.vector normal s.named; large = s.large }))
    a

pub left_too_large : (h : ℤ) (w : ℕ) (rows : List Vector) (places : List ℕ) (chosen left : List Vector) → IsElimination w rows places chosen left → SomeLarge h (Contains left) → IsTooLarge h w rows
left_too_large h w rows places chosen left e s = inl (record { vector = s.vector; named = Each-contains (IsNormalForm w rows) left s.vector (left_normals w rows places chosen left e) s.named; large = s.large })

-- the first row is sought among the vectors left
pub large_found : (h : ℤ) (f row : Vector) (chosen left found : List Vector) → f ≡ row → found ≡ left → AreLargeFor h f found → AreLargeFor h row (chosen ++ left)
large_found h f row chosen left found e s a = subst (λ g. AreLargeFor h g (chosen ++ left)) e (large_within h f left (chosen ++ left) (left_held chosen left) (subst (AreLargeFor h f) s a))
