-- Lists that are filled place by place: values, quotients, carries, sums of vectors.
use Rattle.std.proofs.Common.{◌≡◌, ℕ, zero, suc, ◌+◌, ◌<◌, ◌≤◌, ◌⊎◌, inl, inr, List, [], ◌∷◌, ◌++◌, length, map, take, get_or, Option, None, Some, ℤ, pos, negsuc, ◌+ℤ◌, ◌-ℤ◌, ◌*ℤ◌, neg_ℤ, Contains, refl, sym, ap, ◌∙◌, subst, arith, append_assoc}
use Rattle.std.proofs.lemmas.Int.{ints}
use Rattle.std.proofs.lemmas.List.{append-nil, length-map, map-append, get_or-map, get_or_append_left, take_more, take_all}
use Rattle.std.proofs.Math.Seq.{get_or-append_seam}
use Rattle.std.specs.List.{AllByRecursion as Each}
use Rattle.nz_spec.specs.Vectors.{Vector, dot, plus, minus, scaled, opposite, combination, zero_vector, entry, HasWidth}
use Rattle.nz_spec.proofs.ListLaws.{contains_cases, contains_none, contains_at, each_at}
use Rattle.nz_spec.proofs.SumLaws.{length-combination}
use Rattle.nz_spec.proofs.VectorLaws.{length-minus, plus_assoc, one-scaled}
use Rattle.nz_linear.specs.DualPairs.{pair_of, divisor}
use Rattle.nz_order.proofs.OrderLaws.{nat_compare}
use Rattle.nz_linear.proofs.Ring.{sums, neg-mul}
use Rattle.nz_linear.proofs.Units.{entry-zero_vector}
use Rattle.nz_linear.proofs.VectorLaws.{cons_same, length-plus, length-scaled, plus-zero, zero-plus}
use Rattle.nz_scalar.specs.Division.{IsFloorQuotient}
use Rattle.nz_scalar.specs.Exact.{GivesSuch}
use Rattle.nz_vec.specs.Combinations.{CombinationFits}
use Rattle.nz_vec.specs.Sums.{HasValueOutside}
use Rattle.nz_vec.specs.declared.answers.Num.{Num}
use Rattle.nz_vec.specs.declared.answers.Num.TheVariants.{Range, NoMemory}
use Rattle.nz_classes.specs.Steps.{HasSumOutside, HasPairOutside, IsCarry, products, column_terms}
use Rattle.nz_classes.specs.Sums.{sum_of, IsSumRefusal}
use Rattle.nz_classes.specs.Walks.{paired}
use Rattle.nz_classes.proofs.SimplexLemmas.{length-paired, pair_at}
use Rattle.nz_classes.proofs.SumLemmas.{sum_taken}

-- ---- one more
pub row_more : {A B : Type 0} (f : A → B) (xs : List A) (i : ℕ) (d : A) (done : List B) (b : B) (new : List B) → i < length xs → done ≡ take i (map f xs) → b ≡ f (get_or xs i d) → new ≡ done ++ b ∷ [] → new ≡ take (i + 1) (map f xs)
row_more f xs i d done b new l h e n =
    let m : i < length (map f xs) = omega (arith, l, length-map xs f) in
    n ∙ ap (λ (zs : List _). zs ++ b ∷ []) h ∙ ap (λ (z : _). take i (map f xs) ++ z ∷ []) (e ∙ sym (get_or-map f xs i d b l)) ∙ sym (take_more (map f xs) i b m)

pub row_end : {A B : Type 0} (f : A → B) (xs : List A) (i : ℕ) (done : List B) → length xs ≤ i → done ≡ take i (map f xs) → done ≡ map f xs
row_end f xs i done l h = h ∙ take_all i (map f xs) (omega (arith, l, length-map xs f))

earlier : (a b : ℕ) → a < b + 1 → (a < b) ⊎ (a ≡ b)
earlier a b k = elim (nat_compare a b) [ inl x ↦ inl x | inr (inl x) ↦ inr x | inr (inr x) ↦ absurd (omega (arith, x, k)) ]

-- what holds of each value and its place holds of one more
pub each_push : {T : Type 0} (P : ℕ → ℤ → Type 0) (int : T → ℤ) (old new : List T) (q : T) (i : ℕ) → length old ≡ i → new ≡ old ++ q ∷ [] → ((j : ℕ) → j < i → P j (entry (map int old) j)) → P i (int q) → (j : ℕ) → j < i + 1 → P j (entry (map int new) j)
each_push P int old new q i l n h p j m = by (earlier j i m)
  where
    is : map int new ≡ map int old ++ int q ∷ []
    is = ap (map int) n ∙ map-append int old (q ∷ [])

    long : length (map int old) ≡ i
    long = length-map old int ∙ l

    by : (j < i) ⊎ (j ≡ i) → P j (entry (map int new) j)
    by (inl k) = subst (P j) (sym (ap (λ (zs : List ℤ). entry zs j) is ∙ get_or_append_left (map int old) (int q ∷ []) (pos 0) j (omega (arith, k, long)))) (h j k)
    by (inr e) =
        let a : entry (map int new) j ≡ int q = ap (λ (zs : List ℤ). entry zs j) is ∙ ap (λ (k : ℕ). entry (map int old ++ int q ∷ []) k) (e ∙ sym long) ∙ get_or-append_seam (map int old) (int q) [] (pos 0) in
        subst (λ (k : ℕ). P k (entry (map int new) j)) (sym e) (subst (P i) (sym a) p)

-- ---- values
pub divisor_entry : (fs vs : List Vector) (i : ℕ) → length fs ≡ length vs → i < length vs → get_or (map divisor (paired fs vs)) i (pos 0) ≡ dot (get_or fs i []) (get_or vs i [])
divisor_entry fs vs i l m =
    let d = pair_of [] [] in
    get_or-map divisor (paired fs vs) i d (pos 0) (omega (arith, m, length-paired fs vs l)) ∙ ap divisor (pair_at fs vs i d l m)

-- a value outside at one vector
pub outside_among : (fits : ℤ → Type 0) (forms xs : List Vector) (i : ℕ) (x : Vector) → i < length xs → x ≡ get_or xs i [] → HasValueOutside fits forms (x ∷ []) → HasValueOutside fits forms xs
outside_among fits forms xs i x l e o = record {
  form = o.form;
  vector = o.vector;
  of_forms = o.of_forms;
  of_vectors = elim (contains_cases x [] o.vector o.of_vectors) [
    | inl same ↦ subst (Contains xs) (sym e ∙ same) (contains_at xs i [] l)
    | inr none ↦ absurd (contains_none o.vector none)
  ];
  outside = o.outside;
}

pub quotient_is : {T : Type 0} (int : T → ℤ) (fits : ℤ → Type 0) (o : Option T) (q : T) (a b x y : ℤ) → o ≡ Some q → GivesSuch int fits o (IsFloorQuotient a b) → a ≡ x → b ≡ y → IsFloorQuotient x y (int q)
quotient_is int fits o q a b x y some is e f = subst (λ (t : ℤ). IsFloorQuotient x t (int q)) f (subst (λ (t : ℤ). IsFloorQuotient t b (int q)) e (such o some is))
  where
    such : (r : Option _) → r ≡ Some q → GivesSuch int fits r (IsFloorQuotient a b) → IsFloorQuotient a b (int q)
    such None e h = cc
    such (Some p) e h = let k : p ≡ q = cc in subst (λ (t : _). IsFloorQuotient a b (int t)) k h.1

-- ---- sums of vectors
pub combination_more : (w : ℕ) (ks : List ℤ) (vs : List Vector) (i : ℕ) → length ks ≡ length vs → Each (HasWidth w) vs → i < length vs → combination w (take (i + 1) ks) vs ≡ plus (combination w (take i ks) vs) (scaled (entry ks i) (get_or vs i []))
combination_more w [] [] i l h m = absurd (omega (arith, m))
combination_more w [] (v ∷ vs) i l h m = absurd (omega (arith, l))
combination_more w (k ∷ ks) [] i l h m = absurd (omega (arith, l))
combination_more w (k ∷ ks) (v ∷ vs) zero l h m =
    let lk = length-scaled w k v h.0 in
    first ks ∙ plus-zero w (scaled k v) lk ∙ sym (zero-plus w (scaled k v) lk)
  where
    first : (qs : List ℤ) → plus (scaled k v) (combination w (take 0 qs) vs) ≡ plus (scaled k v) (zero_vector w)
    first [] = refl
    first (q ∷ qs) = refl
combination_more w (k ∷ ks) (v ∷ vs) (suc i) l h m =
    let s : suc i + 1 ≡ suc (i + 1) = omega arith in
    ap (λ (n : ℕ). combination w (take n (k ∷ ks)) (v ∷ vs)) s ∙ ap (plus (scaled k v)) (combination_more w ks vs i (omega (arith, l)) h.1 (omega (arith, m))) ∙ sym (plus_assoc (scaled k v) (combination w (take i ks) vs) (scaled (entry ks i) (get_or vs i [])))

pub combination_none : (w : ℕ) (ks : List ℤ) (vs : List Vector) → combination w (take 0 ks) vs ≡ zero_vector w
combination_none w [] vs = refl
combination_none w (k ∷ ks) vs = refl

pub combination_end : (w : ℕ) (ks : List ℤ) (vs : List Vector) (i : ℕ) → length ks ≤ i → combination w (take i ks) vs ≡ combination w ks vs
combination_end w ks vs i l = ap (λ (qs : List ℤ). combination w qs vs) (take_all i ks l)

-- one more term of a sum
pub sum_more : (w : ℕ) (ks : List ℤ) (vs : List Vector) (i : ℕ) (sum more v : Vector) (one k : ℤ) → length ks ≡ length vs → Each (HasWidth w) vs → i < length vs → sum ≡ combination w (take i ks) vs → more ≡ plus (scaled one sum) (scaled k v) → one ≡ pos 1 → k ≡ entry ks i → v ≡ get_or vs i [] → more ≡ combination w (take (i + 1) ks) vs
sum_more w ks vs i sum more v one k l h m s e o f g =
    e ∙ ap (λ (t : ℤ). plus (scaled t sum) (scaled k v)) o ∙ ap (λ (u : Vector). plus u (scaled k v)) (one-scaled sum ∙ s)
    ∙ ap (λ (t : ℤ). plus (combination w (take i ks) vs) (scaled t v)) f ∙ ap (λ (u : Vector). plus (combination w (take i ks) vs) (scaled (entry ks i) u)) g ∙ sym (combination_more w ks vs i l h m)

-- ---- entries
entry-plus : (x y : Vector) (j : ℕ) → j < length x → j < length y → entry (plus x y) j ≡ entry x j +ℤ entry y j
entry-plus [] y j l m = absurd (omega (arith, l))
entry-plus (a ∷ x) [] j l m = absurd (omega (arith, m))
entry-plus (a ∷ x) (b ∷ y) zero l m = refl
entry-plus (a ∷ x) (b ∷ y) (suc j) l m = entry-plus x y j (omega (arith, l)) (omega (arith, m))

entry-minus : (x y : Vector) (j : ℕ) → j < length x → j < length y → entry (minus x y) j ≡ entry x j -ℤ entry y j
entry-minus [] y j l m = absurd (omega (arith, l))
entry-minus (a ∷ x) [] j l m = absurd (omega (arith, m))
entry-minus (a ∷ x) (b ∷ y) zero l m = refl
entry-minus (a ∷ x) (b ∷ y) (suc j) l m = entry-minus x y j (omega (arith, l)) (omega (arith, m))

products_sum : (w : ℕ) (ks : List ℤ) (vs : List Vector) (j : ℕ) → j < w → Each (HasWidth w) vs → sum_of (products ks vs j) ≡ neg_ℤ (entry (combination w (opposite ks) vs) j)
products_sum w [] vs j l h = (let e = entry-zero_vector w j in omega (arith, sums, e))
products_sum w (k ∷ ks) [] j l h = (let e = entry-zero_vector w j in omega (arith, sums, e))
products_sum w (k ∷ ks) (v ∷ vs) j l h =
    let lv : length v ≡ w = h.0 in
    let lc = length-combination w (opposite ks) vs h.1 in
    let r = products_sum w ks vs j l h.1 in
    let a = entry-plus (scaled (neg_ℤ k) v) (combination w (opposite ks) vs) j (omega (arith, l, lv, length-map v (λ a. neg_ℤ k *ℤ a))) (omega (arith, l, lc)) in
    let b = get_or-map (λ a. neg_ℤ k *ℤ a) v j (pos 0) (pos 0) (omega (arith, l, lv)) in
    let c = neg-mul k (entry v j) in
    omega (arith, sums, r, a, b, c)

-- the terms of a column are the entry of the sum
pub column_sum : (w : ℕ) (x y : Vector) (ks : List ℤ) (vs : List Vector) (j : ℕ) → j < w → HasWidth w x → HasWidth w y → Each (HasWidth w) vs → sum_of (column_terms x y ks vs j) ≡ entry (minus (plus x y) (combination w (opposite ks) vs)) j
column_sum w x y ks vs j l lx ly h =
    let r = products_sum w ks vs j l h in
    let lc = length-combination w (opposite ks) vs h in
    let lp = length-plus w x y lx ly in
    let a = entry-minus (plus x y) (combination w (opposite ks) vs) j (omega (arith, l, lp)) (omega (arith, l, lc)) in
    let b = entry-plus x y j (omega (arith, l, lx)) (omega (arith, l, ly)) in
    omega (arith, sums, r, a, b)

pub length-products : (ks : List ℤ) (vs : List Vector) (j : ℕ) → length ks ≡ length vs → length (products ks vs j) ≡ length vs
length-products [] [] j l = refl
length-products [] (v ∷ vs) j l = absurd (omega (arith, l))
length-products (k ∷ ks) [] j l = absurd (omega (arith, l))
length-products (k ∷ ks) (v ∷ vs) j l = ap suc (length-products ks vs j (omega (arith, l)))

pub product_at : (ks : List ℤ) (vs : List Vector) (j i : ℕ) → length ks ≡ length vs → i < length vs → get_or (products ks vs j) i (pos 0) ≡ entry ks i *ℤ entry (get_or vs i []) j
product_at [] [] j i l m = absurd (omega (arith, m))
product_at [] (v ∷ vs) j i l m = absurd (omega (arith, l))
product_at (k ∷ ks) [] j i l m = absurd (omega (arith, l))
product_at (k ∷ ks) (v ∷ vs) j zero l m = refl
product_at (k ∷ ks) (v ∷ vs) j (suc i) l m = product_at ks vs j i (omega (arith, l)) (omega (arith, m))

-- one more product after those that stood before
pub product_more : (ks : List ℤ) (vs : List Vector) (j i : ℕ) (first old new : List ℤ) (p : ℤ) → length ks ≡ length vs → i < length vs → old ≡ first ++ take i (products ks vs j) → new ≡ old ++ p ∷ [] → p ≡ entry ks i *ℤ entry (get_or vs i []) j → new ≡ first ++ take (i + 1) (products ks vs j)
product_more ks vs j i first old new p l m h n e =
    let t = take_more (products ks vs j) i (pos 0) (omega (arith, m, length-products ks vs j l)) in
    n ∙ ap (λ (zs : List ℤ). zs ++ p ∷ []) h ∙ append_assoc first (take i (products ks vs j)) (p ∷ []) ∙ ap (λ (z : ℤ). first ++ (take i (products ks vs j) ++ z ∷ [])) (e ∙ sym (product_at ks vs j i l m)) ∙ ap (λ (zs : List ℤ). first ++ zs) (sym t)

pub product_outside : (fits : ℤ → Type 0) (ks : List ℤ) (vs : List Vector) (j i : ℕ) (p : ℤ) → length ks ≡ length vs → i < length vs → p ≡ entry ks i *ℤ entry (get_or vs i []) j → ¬ fits p → ¬ Each fits (products ks vs j)
product_outside fits ks vs j i p l m e none all = none (subst fits (product_at ks vs j i l m ∙ sym e) (each_at fits (products ks vs j) i (pos 0) all (omega (arith, m, length-products ks vs j l))))

pub sum_outside : (fits : ℤ → Type 0) (w : ℕ) (ks : List ℤ) (vs : List Vector) (i : ℕ) (sum v : Vector) (one k : ℤ) → i < length vs → sum ≡ combination w (take i ks) vs → one ≡ pos 1 → k ≡ entry ks i → v ≡ get_or vs i [] → ¬ CombinationFits fits one sum k v → HasSumOutside fits w ks vs
sum_outside fits w ks vs i sum v one k l s o f g none = record {
  place = i;
  within = l;
  outside = λ c. none (subst (λ (t : ℤ). CombinationFits fits t sum k v) (sym o) (subst (λ (x : Vector). CombinationFits fits (pos 1) x k v) (sym s) (subst (λ (t : ℤ). CombinationFits fits (pos 1) (combination w (take i ks) vs) t v) (sym f) (subst (λ (x : Vector). CombinationFits fits (pos 1) (combination w (take i ks) vs) (entry ks i) x) (sym g) c))));
}

pub pair_outside : (fits : ℤ → Type 0) (xs ys : List ℤ) (i : ℕ) (a b : ℤ) → i < length xs → a ≡ entry xs i → b ≡ entry ys i → ¬ fits (a +ℤ b) → HasPairOutside fits xs ys
pair_outside fits xs ys i a b l e f none = record {
  place = i;
  within = l;
  outside = λ c. none (subst fits (sym (ap (λ (t : ℤ). t +ℤ b) e ∙ ap (λ (t : ℤ). entry xs i +ℤ t) f)) c);
}

pub carry_at : (xs ys ds : List ℤ) (i : ℕ) (a b s d k : ℤ) → a ≡ entry xs i → b ≡ entry ys i → s ≡ a +ℤ b → d ≡ entry ds i → IsCarry s d k → IsCarry (entry xs i +ℤ entry ys i) (entry ds i) k
carry_at xs ys ds i a b s d k e f g h c = subst (λ (t : ℤ). IsCarry (entry xs i +ℤ entry ys i) t k) h (subst (λ (t : ℤ). IsCarry t d k) (g ∙ ap (λ (t : ℤ). t +ℤ b) e ∙ ap (λ (t : ℤ). entry xs i +ℤ t) f) c)

-- the terms of a column, as they are pushed
pub terms_are : {T : Type 0} (int : T → ℤ) (s three two one none : List T) (a b : ℤ) (x y : Vector) (ks : List ℤ) (vs : List Vector) (j : ℕ) → s ≡ three → map int three ≡ map int two ++ products ks vs j → map int two ≡ map int one ++ b ∷ [] → map int one ≡ map int none ++ a ∷ [] → none ≡ [] → a ≡ entry x j → b ≡ entry y j → map int s ≡ column_terms x y ks vs j
terms_are int s three two one none a b x y ks vs j e h g f n p q =
    let first : map int one ≡ entry x j ∷ [] = f ∙ ap (λ (zs : List _). map int zs ++ a ∷ []) n ∙ ap (λ (t : ℤ). t ∷ []) p in
    let second : map int two ≡ entry x j ∷ entry y j ∷ [] = g ∙ ap (λ (zs : List ℤ). zs ++ b ∷ []) first ∙ ap (λ (t : ℤ). entry x j ∷ t ∷ []) q in
    ap (map int) e ∙ h ∙ ap (λ (zs : List ℤ). zs ++ products ks vs j) second

pub sum_refusal : (fits : ℤ → Type 0) (terms : List ℤ) (e : Num) → IsSumRefusal fits terms e → e ≡ Range → Each fits terms → ¬ fits (sum_of terms)
sum_refusal fits terms Range h k = h
sum_refusal fits terms NoMemory h k = cc

pub minus_is : (x y : Vector) → plus (scaled (pos 1) x) (scaled (negsuc 0) y) ≡ minus x y
minus_is [] y = refl
minus_is (a ∷ x) [] = refl
minus_is (a ∷ x) (b ∷ y) = cons_same (omega (arith, ints)) (minus_is x y)

pub difference_is : (r x y : Vector) (a b : ℤ) (u v : Vector) → r ≡ plus (scaled a x) (scaled b y) → a ≡ pos 1 → b ≡ negsuc 0 → x ≡ u → y ≡ v → r ≡ minus u v
difference_is r x y a b u v e f g h k = e ∙ ap (λ (t : ℤ). plus (scaled t x) (scaled b y)) f ∙ ap (λ (t : ℤ). plus (scaled (pos 1) x) (scaled t y)) g ∙ ap (λ (z : Vector). plus (scaled (pos 1) z) (scaled (negsuc 0) y)) h ∙ ap (λ (z : Vector). plus (scaled (pos 1) u) (scaled (negsuc 0) z)) k ∙ minus_is u v

pub length-moved : (w : ℕ) (x y : Vector) (ks : List ℤ) (vs : List Vector) → HasWidth w x → HasWidth w y → Each (HasWidth w) vs → length (minus (plus x y) (combination w (opposite ks) vs)) ≡ w
length-moved w x y ks vs lx ly h =
    let lp = length-plus w x y lx ly in
    let lc = length-combination w (opposite ks) vs h in
    length-minus (plus x y) (combination w (opposite ks) vs) (lp ∙ sym lc) ∙ lp

pub product_is : (a b : ℤ) (ks : List ℤ) (vs : List Vector) (j i : ℕ) (v : Vector) → a ≡ entry ks i → b ≡ entry v j → v ≡ get_or vs i [] → a *ℤ b ≡ entry ks i *ℤ entry (get_or vs i []) j
product_is a b ks vs j i v e f g = ap (λ (t : ℤ). t *ℤ b) e ∙ ap (λ (t : ℤ). entry ks i *ℤ t) (f ∙ ap (λ (u : Vector). entry u j) g)

pub products_none : (first : List ℤ) (ks : List ℤ) (vs : List Vector) (j : ℕ) → first ≡ first ++ take 0 (products ks vs j)
products_none first ks vs j = sym (ap (λ (zs : List ℤ). first ++ zs) (none (products ks vs j)) ∙ append-nil first)
  where
    none : (zs : List ℤ) → take 0 zs ≡ []
    none [] = refl
    none (z ∷ zs) = refl

-- ---- an entry from the left
pub left_start : (a b s : ℤ) (xs : List ℤ) → s ≡ a +ℤ b → s ≡ sum_of (a ∷ b ∷ take 0 xs)
left_start a b s [] e = omega (arith, sums, e)
left_start a b s (x ∷ xs) e = omega (arith, sums, e)

pub left_more : (a b old new p : ℤ) (ks : List ℤ) (vs : List Vector) (j i : ℕ) → length ks ≡ length vs → i < length vs → old ≡ sum_of (a ∷ b ∷ take i (products ks vs j)) → new ≡ old +ℤ p → p ≡ entry ks i *ℤ entry (get_or vs i []) j → new ≡ sum_of (a ∷ b ∷ take (i + 1) (products ks vs j))
left_more a b old new p ks vs j i l m h n e =
    let t = sum_taken (products ks vs j) i (omega (arith, m, length-products ks vs j l)) in
    let q = product_at ks vs j i l m in
    omega (arith, sums, h, n, e, t, q)
