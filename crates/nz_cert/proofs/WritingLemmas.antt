-- Texts that grow by one number, one line or one list at a time.
use Rattle.std.proofs.Common.{◌≡◌, ℕ, zero, suc, ◌+◌, ◌<◌, ◌≤◌, ℤ, pos, List, [], ◌∷◌, ◌++◌, length, get_or, map, take, codes, decimal, refl, sym, ap, ◌∙◌, subst, arith, append_assoc, append-nil}
use Rattle.std.proofs.lemmas.List.{take_more}
use Rattle.std.specs.Fmt.{signed_decimal}
use Rattle.nz_spec.specs.Vectors.{Vector}
use Rattle.nz_further.specs.CertificateTexts.{Bytes, spaced, vector_line, vector_lines, list_lines, stage_lines}
use Rattle.nz_cert.specs.Written.{gap, sides_lines}

-- what grows by one piece for each item
grown : (first out more text piece longer : Bytes) → out ≡ first ++ text → more ≡ out ++ piece → longer ≡ text ++ piece → more ≡ first ++ longer
grown first out more text piece longer e f g = f ∙ ap (λ (t : Bytes). t ++ piece) e ∙ append_assoc first text piece ∙ ap (λ (t : Bytes). first ++ t) (sym g)

spaced_push : (ts : List Bytes) (t : Bytes) → spaced (ts ++ t ∷ []) ≡ spaced ts ++ spaced (t ∷ [])
spaced_push [] t = refl
spaced_push (s ∷ ts) t = ap (λ (u : Bytes). 32 ∷ s ++ u) (spaced_push ts t) ∙ ap (λ (u : Bytes). 32 ∷ u) (sym (append_assoc s (spaced ts) (spaced (t ∷ []))))

map_push : {A : Type 0} (f : A → Bytes) (xs : List A) (x : A) → map f (xs ++ x ∷ []) ≡ map f xs ++ f x ∷ []
map_push f [] x = refl
map_push f (y ∷ xs) x = ap (λ (ts : List Bytes). f y ∷ ts) (map_push f xs x)

pub order_more : (order : List ℕ) (k : ℕ) (first out more : Bytes) → k < length order → out ≡ first ++ spaced (map decimal (take k order)) → more ≡ out ++ spaced (decimal (get_or order k 0) ∷ []) → more ≡ first ++ spaced (map decimal (take (k + 1) order))
order_more order k first out more l e f =
    grown first out more (spaced (map decimal (take k order))) (spaced (decimal (get_or order k 0) ∷ [])) (spaced (map decimal (take (k + 1) order))) e f
    (ap (λ (xs : List ℕ). spaced (map decimal xs)) (take_more order k 0 l) ∙ ap spaced (map_push decimal (take k order) (get_or order k 0)) ∙ spaced_push (map decimal (take k order)) (decimal (get_or order k 0)))

-- the entries with one space between two
abbrev pub joined : List Bytes → Bytes
joined [] = []
joined (t ∷ ts) = t ++ spaced ts

joined_push : (v : Vector) (a : ℤ) → joined (map signed_decimal (v ++ a ∷ [])) ≡ joined (map signed_decimal v) ++ (gap (length v) ++ signed_decimal a)
joined_push [] a = append-nil (signed_decimal a)
joined_push (b ∷ v) a =
    ap (λ (ts : List Bytes). signed_decimal b ++ spaced ts) (map_push signed_decimal v a)
    ∙ ap (λ (t : Bytes). signed_decimal b ++ t) (spaced_push (map signed_decimal v) (signed_decimal a))
    ∙ sym (append_assoc (signed_decimal b) (spaced (map signed_decimal v)) (spaced (signed_decimal a ∷ [])))
    ∙ ap (λ (t : Bytes). (signed_decimal b ++ spaced (map signed_decimal v)) ++ (32 ∷ t)) (append-nil (signed_decimal a))

length-taken : {A : Type 0} (xs : List A) (k : ℕ) → k ≤ length xs → length (take k xs) ≡ k
length-taken xs zero l = refl
length-taken [] (suc k) l = absurd (let f : ⊥ = omega (arith, l) in f)
length-taken (x ∷ xs) (suc k) l = ap suc (length-taken xs k (omega (arith, l)))

pub entry_more : (v : Vector) (k : ℕ) (first out more : Bytes) → k < length v → out ≡ first ++ joined (map signed_decimal (take k v)) → more ≡ out ++ (gap k ++ signed_decimal (get_or v k (pos 0))) → more ≡ first ++ joined (map signed_decimal (take (k + 1) v))
entry_more v k first out more l e f =
    grown first out more (joined (map signed_decimal (take k v))) (gap k ++ signed_decimal (get_or v k (pos 0))) (joined (map signed_decimal (take (k + 1) v))) e f
    (ap (λ (x : Vector). joined (map signed_decimal x)) (take_more v k (pos 0) l) ∙ joined_push (take k v) (get_or v k (pos 0))
    ∙ ap (λ (n : ℕ). joined (map signed_decimal (take k v)) ++ (gap n ++ signed_decimal (get_or v k (pos 0)))) (length-taken v k (omega (arith, l))))

line_is : (v : Vector) → vector_line v ≡ joined (map signed_decimal v) ++ 10 ∷ []
line_is [] = refl
line_is (a ∷ v) = sym (append_assoc (signed_decimal a) (spaced (map signed_decimal v)) (10 ∷ []))

pub line_end : (v : Vector) (k : ℕ) (first out more : Bytes) → length v ≤ k → out ≡ first ++ joined (map signed_decimal (take k v)) → more ≡ out ++ 10 ∷ [] → more ≡ first ++ vector_line v
line_end v k first out more l e f =
    grown first out more (joined (map signed_decimal (take k v))) (10 ∷ []) (vector_line v) e f
    (line_is v ∙ ap (λ (x : Vector). joined (map signed_decimal x) ++ 10 ∷ []) (sym (taken_all v k l)))
  where
    taken_all : (xs : Vector) (j : ℕ) → length xs ≤ j → take j xs ≡ xs
    taken_all [] zero m = refl
    taken_all [] (suc j) m = refl
    taken_all (x ∷ xs) zero m = absurd (let g : ⊥ = omega (arith, m) in g)
    taken_all (x ∷ xs) (suc j) m = ap (λ (ys : Vector). x ∷ ys) (taken_all xs j (omega (arith, m)))

lines_push : (vs : List Vector) (v : Vector) → vector_lines (vs ++ v ∷ []) ≡ vector_lines vs ++ vector_line v
lines_push [] v = append-nil (vector_line v)
lines_push (u ∷ vs) v = ap (λ (t : Bytes). vector_line u ++ t) (lines_push vs v) ∙ sym (append_assoc (vector_line u) (vector_lines vs) (vector_line v))

pub lines_more : (vs : List Vector) (k : ℕ) (first out more : Bytes) → k < length vs → out ≡ first ++ vector_lines (take k vs) → more ≡ out ++ vector_line (get_or vs k []) → more ≡ first ++ vector_lines (take (k + 1) vs)
lines_more vs k first out more l e f =
    grown first out more (vector_lines (take k vs)) (vector_line (get_or vs k [])) (vector_lines (take (k + 1) vs)) e f
    (ap vector_lines (take_more vs k [] l) ∙ lines_push (take k vs) (get_or vs k []))

stages_push : (k j : ℕ) (above beneath : List (List Vector)) (a b : List Vector) → length above ≡ j → length beneath ≡ j → stage_lines k (above ++ a ∷ []) (beneath ++ b ∷ []) ≡ stage_lines k above beneath ++ sides_lines (k + j) a b
stages_push k j [] [] a b l m = ends (k + j) (subst (λ (n : ℕ). k ≡ k + n) l (omega arith))
  where
    ends : (n : ℕ) → k ≡ n → stage_lines k (a ∷ []) (b ∷ []) ≡ sides_lines n a b
    ends n e = ap (λ (t : Bytes). codes "stage" ++ (spaced (decimal k ∷ decimal (length a) ∷ []) ++ (10 ∷ vector_lines a ++ t))) (append-nil (list_lines (codes "reversed") b)) ∙ ap (λ (i : ℕ). sides_lines i a b) e
stages_push k j [] (y ∷ beneath) a b l m = absurd (let f : ⊥ = omega (arith, l, m) in f)
stages_push k j (x ∷ above) [] a b l m = absurd (let f : ⊥ = omega (arith, l, m) in f)
stages_push k zero (x ∷ above) (y ∷ beneath) a b l m = absurd (let f : ⊥ = omega (arith, l) in f)
stages_push k (suc j) (x ∷ above) (y ∷ beneath) a b l m =
    let more = stages_push (suc k) j above beneath a b (omega (arith, l)) (omega (arith, m)) in
    let number : suc k + j ≡ k + suc j = omega arith in
    let rest = stage_lines (suc k) above beneath in
    let last = sides_lines (k + suc j) a b in
    let r = list_lines (codes "reversed") y in
    let s = codes "stage" in
    let n = spaced (decimal k ∷ decimal (length x) ∷ []) in
    let front = λ (t : Bytes). s ++ (n ++ (10 ∷ vector_lines x ++ (r ++ t))) in
    ap front (more ∙ ap (λ (i : ℕ). rest ++ sides_lines i a b) number)
    ∙ ap (λ (t : Bytes). s ++ (n ++ (10 ∷ vector_lines x ++ t))) (sym (append_assoc r rest last))
    ∙ ap (λ (t : Bytes). s ++ (n ++ (10 ∷ t))) (sym (append_assoc (vector_lines x) (r ++ rest) last))
    ∙ ap (λ (t : Bytes). s ++ t) (sym (append_assoc n (10 ∷ vector_lines x ++ (r ++ rest)) last))
    ∙ sym (append_assoc s (n ++ (10 ∷ vector_lines x ++ (r ++ rest))) last)

pub stages_more : (rank number k : ℕ) (above beneath : List (List Vector)) (first out more : Bytes) → k < length above → length above ≡ length beneath → number ≡ suc rank + k → out ≡ first ++ stage_lines (suc rank) (take k above) (take k beneath)
    → more ≡ out ++ sides_lines number (get_or above k []) (get_or beneath k []) → more ≡ first ++ stage_lines (suc rank) (take (k + 1) above) (take (k + 1) beneath)
stages_more rank number k above beneath first out more l same e f g =
    let x = get_or above k [] in
    let y = get_or beneath k [] in
    let m : k < length beneath = omega (arith, l, same) in
    grown first out more (stage_lines (suc rank) (take k above) (take k beneath)) (sides_lines number x y) (stage_lines (suc rank) (take (k + 1) above) (take (k + 1) beneath)) f g
    (ap (λ (xs : List (List Vector)). stage_lines (suc rank) xs (take (k + 1) beneath)) (take_more above k [] l)
    ∙ ap (λ (xs : List (List Vector)). stage_lines (suc rank) (take k above ++ x ∷ []) xs) (take_more beneath k [] m)
    ∙ stages_push (suc rank) k (take k above) (take k beneath) x y (length-taken above k (omega (arith, l))) (length-taken beneath k (omega (arith, m)))
    ∙ ap (λ (i : ℕ). stage_lines (suc rank) (take k above) (take k beneath) ++ sides_lines i x y) (sym e))
