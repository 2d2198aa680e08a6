-- Simplices under construction: rows that differ, corners without one, and corners with one more in order.
use Rattle.std.proofs.Common.{◌≡◌, ◌≢◌, length-take-le, inl, inr, ℕ, zero, suc, ◌+◌, ◌<◌, ◌≤◌, List, [], ◌∷◌, ◌++◌, length, take, drop, get_or, ℤ, neg_ℤ, refl, sym, ap, ap₂, ◌∙◌, subst, arith}
use Rattle.std.specs.Prelude.{unsigned_abs}
use Rattle.std.specs.List.{AllByRecursion as Each, AllZip, Contains}
use Rattle.std.proofs.lemmas.List.{take_more, take_all}
use Rattle.nz_spec.specs.Vectors.{Vector, dot, plus, scaled}
use Rattle.nz_spec.specs.Order.{IsLexBefore, Pairwise}
use Rattle.nz_spec.proofs.ListLaws.{IsLexBefore-asymmetric, contains_here, contains_there, contains_cases, contains_none, zip_push}
use Rattle.nz_range.proofs.Fits.{abs_of_neg}
use Rattle.nz_linear.specs.Cones.{meet}
use Rattle.nz_range.specs.Measures.{AreLargeFor}
use Rattle.nz_range.proofs.Causes.{large_within}
use Rattle.nz_vec.specs.Primitives.{IsPrimitivePart}
use Rattle.nz_cover.specs.Corners.{Vertex, vertex, forms_of, without, IsTiltedAt}

-- ---- rows
pub not_before_itself : (a b : ℤ) (x y : Vector) → a ≡ b → IsLexBefore (a ∷ x) (b ∷ y) → x ≡ y → ⊥
not_before_itself a b x y e h k = let q = subst (λ t. IsLexBefore (a ∷ x) t) (sym (ap₂ (λ (s : ℤ) (t : Vector). s ∷ t) e k)) h in IsLexBefore-asymmetric (a ∷ x) (a ∷ x) q q

pub same_tail : (a b : ℤ) (x y : Vector) → (a ∷ x) ≡ (b ∷ y) → x ≡ y
same_tail a b x y e = ap (drop 1) e

-- ---- the tilted sum
pub tilted_sum : (ray form facet : Vector) (a b : ℤ) → a ≡ dot ray form → b ≡ neg_ℤ (dot ray facet) → plus (scaled a facet) (scaled b form) ≡ meet ray form facet
tilted_sum ray form facet a b e f = ap₂ (λ (s t : ℤ). plus (scaled s facet) (scaled t form)) e f

pub size_of_factor : (b c : ℤ) → b ≡ neg_ℤ c → unsigned_abs b ≡ unsigned_abs c
size_of_factor b c e = ap unsigned_abs e ∙ abs_of_neg c

-- ---- a list without one element
pub without_long : {A : Type 0} (j : ℕ) (xs : List A) → length xs ≤ j → without j xs ≡ xs
without_long j [] l = refl
without_long zero (x ∷ xs) l = absurd (omega arith)
without_long (suc j) (x ∷ xs) l = ap (λ t. x ∷ t) (without_long j xs (omega arith))

pub without_same : {A : Type 0} (j : ℕ) (xs : List A) (x : A) → length xs ≡ j → without j (xs ++ x ∷ []) ≡ without j xs
without_same zero [] x e = refl
without_same (suc j) [] x e = absurd (omega arith)
without_same zero (y ∷ xs) x e = absurd (omega arith)
without_same (suc j) (y ∷ xs) x e = ap (λ t. y ∷ t) (without_same j xs x (omega arith))

pub without_other : {A : Type 0} (j : ℕ) (xs : List A) (x : A) → length xs ≢ j → without j (xs ++ x ∷ []) ≡ without j xs ++ x ∷ []
without_other zero [] x n = absurd (n refl)
without_other (suc j) [] x n = refl
without_other zero (y ∷ xs) x n = refl
without_other (suc j) (y ∷ xs) x n = ap (λ t. y ∷ t) (without_other j xs x (λ e. n (ap suc e)))

pub without_is : {A : Type 0} (j : ℕ) (xs : List A) → without j xs ≡ take j xs ++ drop (suc j) xs
without_is zero [] = refl
without_is (suc j) [] = refl
without_is zero (x ∷ xs) = refl
without_is (suc j) (x ∷ xs) = ap (λ t. x ∷ t) (without_is j xs)

pub split_at : {A : Type 0} (j : ℕ) (xs : List A) (d : A) → j < length xs → xs ≡ take j xs ++ get_or xs j d ∷ drop (suc j) xs
split_at j [] d l = absurd (omega arith)
split_at zero (x ∷ xs) d l = refl
split_at (suc j) (x ∷ xs) d l = ap (λ t. x ∷ t) (split_at j xs d (omega arith))

pub take_and_drop : {A : Type 0} (k : ℕ) (xs : List A) → take k xs ++ drop k xs ≡ xs
take_and_drop zero xs = refl
take_and_drop (suc k) [] = refl
take_and_drop (suc k) (x ∷ xs) = ap (λ t. x ∷ t) (take_and_drop k xs)

pub each_without : {A : Type 0} (P : A → Type 0) (j : ℕ) (xs : List A) → Each P xs → Each P (without j xs)
each_without P j [] h = tt
each_without P zero (x ∷ xs) h = h.1
each_without P (suc j) (x ∷ xs) h = (h.0, each_without P j xs h.1)

pub pairwise_without : {A : Type 0} (R : A → A → Type 0) (j : ℕ) (xs : List A) → Pairwise R xs → Pairwise R (without j xs)
pairwise_without R j [] h = tt
pairwise_without R zero (x ∷ xs) h = h.1
pairwise_without R (suc j) (x ∷ xs) h = (each_without (R x) j xs h.0, pairwise_without R j xs h.1)

pub tilted_more : (R : Vertex → Vertex → Type 0) (j i : ℕ) (cell : List Vertex) (u v : Vertex) (ts : List Vertex) → i < length cell → i ≢ j → u ≡ get_or cell i u → AllZip R (without j (take i cell)) ts → R u v → AllZip R (without j (take (i + 1) cell)) (ts ++ v ∷ [])
tilted_more R j i cell u v ts l n e z r =
    let t = take_more cell i u l ∙ ap (λ x. take i cell ++ x ∷ []) (sym e) in
    let o = without_other j (take i cell) u (λ k. n (sym (length-take-le i cell (omega arith)) ∙ k)) in
    subst (λ x. AllZip R x (ts ++ v ∷ [])) (sym (ap (without j) t ∙ o)) (zip_push R (without j (take i cell)) ts u v z r)

pub tilted_skip : (R : Vertex → Vertex → Type 0) (j i : ℕ) (cell : List Vertex) (d : Vertex) (ts : List Vertex) → i < length cell → i ≡ j → AllZip R (without j (take i cell)) ts → AllZip R (without j (take (i + 1) cell)) ts
tilted_skip R j i cell d ts l e z =
    let t = take_more cell i d l in
    let o = without_same j (take i cell) (get_or cell i d) (length-take-le i cell (omega arith) ∙ e) in
    subst (λ x. AllZip R x ts) (sym (ap (without j) t ∙ o)) z

pub tilted_corner : (ray facet : Vector) (j i : ℕ) (cell items : List Vertex) (u : Vertex) (place : ℕ) (form r : Vector) (ts new : List Vertex) → items ≡ cell → i < length items → i ≢ j → vertex place form ≡ u → u ≡ get_or items i u → IsPrimitivePart (meet ray form facet) r
    → AllZip (IsTiltedAt ray facet) (without j (take i cell)) ts → new ≡ ts ++ vertex place r ∷ [] → AllZip (IsTiltedAt ray facet) (without j (take (i + 1) cell)) new
tilted_corner ray facet j i cell items u place form r ts new e l n s is p z w =
    let same_place : place ≡ u.place = ap (λ (v : Vertex). v.place) s in
    let same_form : form ≡ u.form = ap (λ (v : Vertex). v.form) s in
    let k : i < length cell = subst (λ (xs : List Vertex). i < length xs) e l in
    let at : u ≡ get_or cell i u = subst (λ (xs : List Vertex). u ≡ get_or xs i u) e is in
    subst (AllZip (IsTiltedAt ray facet) (without j (take (i + 1) cell))) (sym w)
    (tilted_more (IsTiltedAt ray facet) j i cell u (vertex place r) ts k n at z (record { same_place = same_place; form = subst (λ (f : Vector). IsPrimitivePart (meet ray f facet) r) same_form p }))

pub tilted_pass : (ray facet : Vector) (j i : ℕ) (cell items : List Vertex) (ts : List Vertex) → items ≡ cell → i < length items → i ≡ j → AllZip (IsTiltedAt ray facet) (without j (take i cell)) ts → AllZip (IsTiltedAt ray facet) (without j (take (i + 1) cell)) ts
tilted_pass ray facet j i cell items ts e l h z = tilted_skip (IsTiltedAt ray facet) j i cell (vertex 0 []) ts (subst (λ (xs : List Vertex). i < length xs) e l) h z

-- all corners but one
pub tilted_all : (ray facet : Vector) (j i : ℕ) (cell items : List Vertex) (ts : List Vertex) → items ≡ cell → length items ≤ i → AllZip (IsTiltedAt ray facet) (without j (take i cell)) ts → AllZip (IsTiltedAt ray facet) (without j cell) ts
tilted_all ray facet j i cell items ts e l z = subst (λ (xs : List Vertex). AllZip (IsTiltedAt ray facet) (without j xs) ts) (take_all i cell (subst (λ (xs : List Vertex). length xs ≤ i) e l)) z

-- ---- causes
form_held : (cell items : List Vertex) (i : ℕ) (u : Vertex) (place : ℕ) (form : Vector) → items ≡ cell → i < length items → vertex place form ≡ u → u ≡ get_or items i u → Contains (forms_of cell) form
form_held cell items i u place form e l s is =
    let has : Contains cell u = (i, subst (λ (xs : List Vertex). i < length xs) e l, sym (subst (λ (xs : List Vertex). u ≡ get_or xs i u) e is)) in
    subst (Contains (forms_of cell)) (sym (ap (λ (v : Vertex). v.form) s)) (mapped cell u has)
  where
    mapped : (xs : List Vertex) (v : Vertex) → Contains xs v → Contains (forms_of xs) v.form
    mapped [] v k = absurd (contains_none v k)
    mapped (x ∷ xs) v k = elim (contains_cases x xs v k) [
      | inl h ↦ subst (λ (t : Vertex). Contains (x.form ∷ forms_of xs) t.form) h (contains_here x.form (forms_of xs))
      | inr m ↦ contains_there x.form v.form (forms_of xs) (mapped xs v m)
    ]

pub large_corner : (h : ℤ) (ray facet : Vector) (cell items : List Vertex) (i : ℕ) (u : Vertex) (place : ℕ) (form : Vector) → items ≡ cell → i < length items → vertex place form ≡ u → u ≡ get_or items i u → AreLargeFor h ray (facet ∷ form ∷ []) → AreLargeFor h ray (facet ∷ forms_of cell)
large_corner h ray facet cell items i u place form e l s is a =
    large_within h ray (facet ∷ form ∷ []) (facet ∷ forms_of cell)
    (contains_here facet (forms_of cell), (contains_there facet form (forms_of cell) (form_held cell items i u place form e l s is), tt)) a
