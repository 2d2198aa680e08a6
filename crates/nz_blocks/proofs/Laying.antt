-- Texts that grow by one cell or one row at a time.
use Rattle.std.proofs.Common.{◌≡◌, ℕ, zero, suc, ◌+◌, ◌<◌, ◌≤◌, max, List, [], ◌∷◌, ◌++◌, length, get_or, set, map, take, pos, refl, sym, ap, ◌∙◌, arith, append_assoc, add-one}
use Rattle.std.proofs.Math.Seq.{take-suc}
use Rattle.std.proofs.lemmas.List.{append-nil, take_all}
use Rattle.std.specs.Prelude.{Result, Ok, Err, OnOk}
use Rattle.nz_blocks.specs.Lines.{line}
use Rattle.std.proofs.lemmas.Grind.{flat_map-append}
use Rattle.std.specs.List.{flat_map}
use Rattle.std.specs.Fmt.{signed_decimal}
use Rattle.nz_vec.specs.Texts.{Text}
use Rattle.nz_spec.specs.Vectors.{Vector}
use Rattle.nz_blocks.specs.Columns.{column_width, width_at_only, right_aligned, gap, cells, spaced}
use Rattle.nz_blocks.specs.AskedLines.{count_word, count_words}

pub take_more : {X : Type 0} (xs : List X) (k : ℕ) (d : X) → k < length xs → take (k + 1) xs ≡ take k xs ++ get_or xs k d ∷ []
take_more xs k d l = rw add-one (take-suc xs k d l)

column_width-push : (rs : List Vector) (r : Vector) (j : ℕ) → column_width (rs ++ r ∷ []) j ≡ max (column_width rs j) (length (get_or (map signed_decimal r) j []))
column_width-push [] r j = omega arith
column_width-push (q ∷ rs) r j = (let e = column_width-push rs r j in omega arith)

pub column_width_more : (rows : List Vector) (k j : ℕ) → k < length rows → column_width (take (k + 1) rows) j ≡ max (column_width (take k rows) j) (length (get_or (map signed_decimal (get_or rows k [])) j []))
column_width_more rows k j l = ap (λ (rs : List Vector). column_width rs j) (take_more rows k [] l) ∙ column_width-push (take k rows) (get_or rows k []) j

-- a column of width 0 more changes no width
pub push_zero : (ws : List ℕ) (j : ℕ) → get_or (ws ++ 0 ∷ []) j 0 ≡ get_or ws j 0
push_zero [] zero = refl
push_zero [] (suc j) = refl
push_zero (w ∷ ws) zero = refl
push_zero (w ∷ ws) (suc j) = push_zero ws j

-- one column is widened
pub raised : (ws : List ℕ) (k w j : ℕ) → k < length ws → get_or (set ws k (max (get_or ws k 0) w)) j 0 ≡ max (get_or ws j 0) (width_at_only k w j)
raised [] k w j l = absurd (omega arith)
raised (x ∷ ws) zero w zero l = refl
raised (x ∷ ws) zero w (suc j) l = omega arith
raised (x ∷ ws) (suc k) w zero l = omega arith
raised (x ∷ ws) (suc k) w (suc j) l = raised ws k w j (omega arith)

row_width-suc : (r : Vector) (k j : ℕ) → k < length r → length (get_or (map signed_decimal (take (suc k) r)) j []) ≡ max (length (get_or (map signed_decimal (take k r)) j [])) (width_at_only k (length (signed_decimal (get_or r k (pos 0)))) j)
row_width-suc [] k j l = absurd (omega arith)
row_width-suc (a ∷ r) zero zero l = omega arith
row_width-suc (a ∷ r) zero (suc j) l = omega arith
row_width-suc (a ∷ r) (suc k) zero l = omega arith
row_width-suc (a ∷ r) (suc k) (suc j) l = row_width-suc r k j (omega arith)

-- one entry more of a row
pub row_width_more : (r : Vector) (k j : ℕ) → k < length r → length (get_or (map signed_decimal (take (k + 1) r)) j []) ≡ max (length (get_or (map signed_decimal (take k r)) j [])) (width_at_only k (length (signed_decimal (get_or r k (pos 0)))) j)
row_width_more r k j l = rw add-one (row_width-suc r k j l)

pub length-cells : (width : ℕ → ℕ) (j : ℕ) (r : Vector) → length (cells width j r) ≡ length r
length-cells width j [] = refl
length-cells width j (a ∷ r) = ap suc (length-cells width (suc j) r)

cells_at : (width : ℕ → ℕ) (j : ℕ) (r : Vector) (k : ℕ) → k < length r → get_or (cells width j r) k [] ≡ right_aligned (width (j + k)) (signed_decimal (get_or r k (pos 0)))
cells_at width j [] k l = absurd (omega arith)
cells_at width j (a ∷ r) zero l = (let e : j ≡ j + 0 = omega arith in ap (λ i. right_aligned (width i) (signed_decimal a)) e)
cells_at width j (a ∷ r) (suc k) l =
    let e : suc j + k ≡ j + suc k = omega arith in
    cells_at width (suc j) r k (omega arith) ∙ ap (λ i. right_aligned (width i) (signed_decimal (get_or r k (pos 0)))) e

-- widths that agree give the same cells
pub cells_same : (f g : ℕ → ℕ) (j : ℕ) (r : Vector) → ((i : ℕ) → f i ≡ g i) → cells f j r ≡ cells g j r
cells_same f g j [] h = refl
cells_same f g j (a ∷ r) h =
    ap (λ w. right_aligned w (signed_decimal a) ∷ cells f (suc j) r) (h j) ∙ ap (λ (cs : List Text). right_aligned (g j) (signed_decimal a) ∷ cs) (cells_same f g (suc j) r h)

pub take_front : {X : Type 0} (n : ℕ) (xs ys : List X) → n ≡ length xs → take n (xs ++ ys) ≡ xs
take_front n xs ys e = ap (λ k. take k (xs ++ ys)) e ∙ go xs ys
  where
    go : {X : Type 0} (xs ys : List X) → take (length xs) (xs ++ ys) ≡ xs
    go [] ys = refl
    go (x ∷ xs) ys = ap (λ zs. x ∷ zs) (go xs ys)

spaced-push : (c : Text) (cs : List Text) (d : Text) → spaced ((c ∷ cs) ++ d ∷ []) ≡ spaced (c ∷ cs) ++ 32 ∷ d
spaced-push c cs d =
    ap (λ (t : Text). c ++ t) (flat_map-append (λ (e : Text). 32 ∷ e) cs (d ∷ []) ∙ ap (λ (t : Text). flat_map (λ (e : Text). 32 ∷ e) cs ++ t) (append-nil (32 ∷ d)))
    ∙ sym (append_assoc c (flat_map (λ (e : Text). 32 ∷ e) cs) (32 ∷ d))

pub spaced_more : (cs : List Text) (k : ℕ) → k < length cs → spaced (take (k + 1) cs) ≡ spaced (take k cs) ++ (gap k ++ get_or cs k [])
spaced_more cs k l = ap spaced (take_more cs k [] l) ∙ go cs k l
  where
    go : (cs : List Text) (k : ℕ) → k < length cs → spaced (take k cs ++ get_or cs k [] ∷ []) ≡ spaced (take k cs) ++ (gap k ++ get_or cs k [])
    go [] k l = absurd (omega arith)
    go (c ∷ cs) zero l = append-nil c
    go (c ∷ cs) (suc k) l = spaced-push c (take k cs) (get_or cs k [])

-- one cell more of a row
pub row_more : (width : ℕ → ℕ) (r : Vector) (k : ℕ) (old out out' : Text) → k < length r → out ≡ old ++ spaced (take k (cells width 0 r)) → out' ≡ out ++ (gap k ++ right_aligned (width k) (signed_decimal (get_or r k (pos 0)))) → out' ≡ old ++ spaced (take (k + 1) (cells width 0 r))
row_more width r k old out out' l p q =
    let n : k < length (cells width 0 r) = omega (arith, length-cells width 0 r) in
    let z : 0 + k ≡ k = omega arith in
    let c : get_or (cells width 0 r) k [] ≡ right_aligned (width k) (signed_decimal (get_or r k (pos 0))) =
    cells_at width 0 r k l ∙ ap (λ i. right_aligned (width i) (signed_decimal (get_or r k (pos 0)))) z in
    q ∙ ap (λ (t : Text). t ++ (gap k ++ right_aligned (width k) (signed_decimal (get_or r k (pos 0))))) p
    ∙ append_assoc old (spaced (take k (cells width 0 r))) (gap k ++ right_aligned (width k) (signed_decimal (get_or r k (pos 0))))
    ∙ ap (λ (t : Text). old ++ (spaced (take k (cells width 0 r)) ++ (gap k ++ t))) (sym c)
    ∙ ap (λ (t : Text). old ++ t) (sym (spaced_more (cells width 0 r) k n))

-- one line more
pub rows_more : {X : Type 0} (f : X → Text) (rows : List X) (k : ℕ) (d : X) (old out out' : Text) → k < length rows → out ≡ old ++ flat_map f (take k rows) → out' ≡ out ++ f (get_or rows k d) → out' ≡ old ++ flat_map f (take (k + 1) rows)
rows_more f rows k d old out out' l p q =
    let one : flat_map f (take (k + 1) rows) ≡ flat_map f (take k rows) ++ f (get_or rows k d) =
    ap (flat_map f) (take_more rows k d l) ∙ flat_map-append f (take k rows) (get_or rows k d ∷ []) ∙ ap (λ (t : Text). flat_map f (take k rows) ++ t) (append-nil (f (get_or rows k d))) in
    q ∙ ap (λ (t : Text). t ++ f (get_or rows k d)) p ∙ append_assoc old (flat_map f (take k rows)) (f (get_or rows k d)) ∙ ap (λ (t : Text). old ++ t) (sym one)

get_or-texts : (r : Vector) (k : ℕ) → k < length r → get_or (map signed_decimal r) k [] ≡ signed_decimal (get_or r k (pos 0))
get_or-texts [] k l = absurd (omega arith)
get_or-texts (a ∷ r) zero l = refl
get_or-texts (a ∷ r) (suc k) l = get_or-texts r k (omega arith)

pub length-texts : (r : Vector) → length (map signed_decimal r) ≡ length r
length-texts [] = refl
length-texts (a ∷ r) = ap suc (length-texts r)

-- one entry more, with a space in front
pub entries_more : (r : Vector) (k : ℕ) (old out out' : Text) → k < length r → out ≡ old ++ spaced (take k (map signed_decimal r)) → out' ≡ out ++ (gap k ++ signed_decimal (get_or r k (pos 0))) → out' ≡ old ++ spaced (take (k + 1) (map signed_decimal r))
entries_more r k old out out' l p q =
    let n : k < length (map signed_decimal r) = omega (arith, length-texts r) in
    let e : spaced (take (k + 1) (map signed_decimal r)) ≡ spaced (take k (map signed_decimal r)) ++ (gap k ++ signed_decimal (get_or r k (pos 0))) =
    spaced_more (map signed_decimal r) k n ∙ ap (λ (t : Text). spaced (take k (map signed_decimal r)) ++ (gap k ++ t)) (get_or-texts r k l) in
    q ∙ ap (λ (t : Text). t ++ (gap k ++ signed_decimal (get_or r k (pos 0)))) p
    ∙ append_assoc old (spaced (take k (map signed_decimal r))) (gap k ++ signed_decimal (get_or r k (pos 0)))
    ∙ ap (λ (t : Text). old ++ t) (sym e)

pub entries_whole : (r : Vector) (k : ℕ) (old out : Text) → length r ≤ k → out ≡ old ++ spaced (take k (map signed_decimal r)) → out ≡ old ++ spaced (map signed_decimal r)
entries_whole r k old out l p =
    let n : length (map signed_decimal r) ≤ k = omega (arith, length-texts r) in
    p ∙ ap (λ (cs : List Text). old ++ spaced cs) (take_all k (map signed_decimal r) n)

count_words-suc : (n : ℕ) (cs : Vector) (k : ℕ) → k < length cs → count_words n (take (suc k) cs) ≡ count_words n (take k cs) ++ count_word (k + n) (get_or cs k (pos 0))
count_words-suc n [] k l = absurd (omega arith)
count_words-suc n (c ∷ cs) zero l = (let e : n ≡ 0 + n = omega arith in append-nil (count_word n c) ∙ ap (λ i. count_word i c) e)
count_words-suc n (c ∷ cs) (suc k) l =
    let e : k + (n + 1) ≡ suc k + n = omega arith in
    ap (λ (t : Text). count_word n c ++ t) (count_words-suc (n + 1) cs k (omega arith))
    ∙ sym (append_assoc (count_word n c) (count_words (n + 1) (take k cs)) (count_word (k + (n + 1)) (get_or cs k (pos 0))))
    ∙ ap (λ i. (count_word n c ++ count_words (n + 1) (take k cs)) ++ count_word i (get_or cs k (pos 0))) e

-- one count more
pub counts_more : (cs : Vector) (k : ℕ) (old out out' : Text) → k < length cs → out ≡ old ++ count_words 1 (take k cs) → out' ≡ out ++ count_word (k + 1) (get_or cs k (pos 0)) → out' ≡ old ++ count_words 1 (take (k + 1) cs)
counts_more cs k old out out' l p q =
    let s : k + 1 ≡ suc k = omega arith in
    let e : count_words 1 (take (k + 1) cs) ≡ count_words 1 (take k cs) ++ count_word (k + 1) (get_or cs k (pos 0)) = ap (λ i. count_words 1 (take i cs)) s ∙ count_words-suc 1 cs k l in
    q ∙ ap (λ (t : Text). t ++ count_word (k + 1) (get_or cs k (pos 0))) p ∙ append_assoc old (count_words 1 (take k cs)) (count_word (k + 1) (get_or cs k (pos 0))) ∙ ap (λ (t : Text). old ++ t) (sym e)

-- the whole row and its end of line
pub row_whole : {E : Type 0} (width : ℕ → ℕ) (r : Vector) (k : ℕ) (old out out' : Text) (result : Result (Unit {0}) E) → length r ≤ k → out ≡ old ++ spaced (take k (cells width 0 r)) → OnOk result (out' ≡ out ++ 10 ∷ []) → OnOk result (out' ≡ old ++ line (spaced (cells width 0 r)))
row_whole width r k old out out' (Ok u) l p q =
    let n : length (cells width 0 r) ≤ k = omega (arith, length-cells width 0 r) in
    q ∙ ap (λ (t : Text). t ++ 10 ∷ []) (p ∙ ap (λ (cs : List Text). old ++ spaced cs) (take_all k (cells width 0 r) n)) ∙ append_assoc old (spaced (cells width 0 r)) (10 ∷ [])
row_whole width r k old out out' (Err e) l p q = tt

-- what follows from what a call left, where memory sufficed
pub on_ok_map : {T E : Type 0} (result : Result T E) (P Q : Type 0) → (P → Q) → OnOk result P → OnOk result Q
on_ok_map (Ok x) P Q f h = f h
on_ok_map (Err e) P Q f h = tt
