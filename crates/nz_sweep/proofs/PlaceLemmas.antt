-- Elements by their places, in lists out of which one is taken or into which one is put.
use Rattle.std.proofs.Common.{◌≡◌, ◌≢◌, ℕ, zero, suc, ◌+◌, ◌<◌, ◌≤◌, List, [], ◌∷◌, ◌++◌, length, map, get_or, take, ℤ, pos, ◌*ℤ◌, refl, sym, ap, ◌∙◌, subst, arith}
use Rattle.std.proofs.Math.IntN.{*ℤ-zero}
use Rattle.std.specs.List.{AllByRecursion as Each, AllZip, insert, remove}
use Rattle.std.proofs.lemmas.List.{take_more}
use Rattle.nz_spec.specs.Vectors.{dot, entry}
use Rattle.nz_linear.proofs.Ring.{sums}

-- the place that an element had before another was taken out at p
abbrev pub shift : ℕ → ℕ → ℕ
shift zero i = suc i
shift (suc p) zero = zero
shift (suc p) (suc i) = suc (shift p i)

pub shift_within : (p i n : ℕ) → i < n → p ≤ n → shift p i < suc n
shift_within zero i n l h = omega (arith, l)
shift_within (suc p) zero n l h = omega (arith, l)
shift_within (suc p) (suc i) zero l h = absurd (omega (arith, l))
shift_within (suc p) (suc i) (suc n) l h = let r = shift_within p i n (omega (arith, l)) (omega (arith, h)) in omega (arith, r)

pub shift_apart : (p i j : ℕ) → i ≢ j → shift p i ≢ shift p j
shift_apart zero i j n e = n (omega (arith, e))
shift_apart (suc p) zero zero n e = n refl
shift_apart (suc p) zero (suc j) n e = omega (arith, e)
shift_apart (suc p) (suc i) zero n e = omega (arith, e)
shift_apart (suc p) (suc i) (suc j) n e = shift_apart p i j (λ k. n (ap suc k)) (omega (arith, e))

pub at_removed : {A : Type 0} (d : A) (xs : List A) (p i : ℕ) → p < length xs → get_or (remove xs p) i d ≡ get_or xs (shift p i) d
at_removed d [] p i l = absurd (omega (arith, l))
at_removed d (x ∷ xs) zero i l = refl
at_removed d (x ∷ xs) (suc p) zero l = refl
at_removed d (x ∷ xs) (suc p) (suc i) l = at_removed d xs p i (omega (arith, l))

pub at_inserted : {A : Type 0} (d : A) (xs : List A) (p i : ℕ) (y : A) → p ≤ length xs → get_or (insert xs p y) (shift p i) d ≡ get_or xs i d
at_inserted d xs zero i y l = refl
at_inserted d [] (suc p) i y l = absurd (omega (arith, l))
at_inserted d (x ∷ xs) (suc p) zero y l = refl
at_inserted d (x ∷ xs) (suc p) (suc i) y l = at_inserted d xs p i y (omega (arith, l))

pub own_inserted : {A : Type 0} (d : A) (xs : List A) (p : ℕ) (y : A) → p ≤ length xs → get_or (insert xs p y) p d ≡ y
own_inserted d xs zero y l = refl
own_inserted d [] (suc p) y l = absurd (omega (arith, l))
own_inserted d (x ∷ xs) (suc p) y l = own_inserted d xs p y (omega (arith, l))

pub others_inserted : {A : Type 0} (d : A) (xs : List A) (p j : ℕ) (y z : A) → p ≤ length xs → j ≢ p → get_or (insert xs p y) j d ≡ get_or (insert xs p z) j d
others_inserted d xs zero zero y z l n = absurd (n refl)
others_inserted d xs zero (suc j) y z l n = refl
others_inserted d [] (suc p) j y z l n = absurd (omega (arith, l))
others_inserted d (x ∷ xs) (suc p) zero y z l n = refl
others_inserted d (x ∷ xs) (suc p) (suc j) y z l n = others_inserted d xs p j y z (omega (arith, l)) (λ e. n (ap suc e))

pub map_inserted : {A B : Type 0} (f : A → B) (xs : List A) (p : ℕ) (y : A) → p ≤ length xs → map f (insert xs p y) ≡ insert (map f xs) p (f y)
map_inserted f xs zero y l = refl
map_inserted f [] (suc p) y l = absurd (omega (arith, l))
map_inserted f (x ∷ xs) (suc p) y l = ap (λ t. f x ∷ t) (map_inserted f xs p y (omega (arith, l)))

pub zip_at : {A B : Type 0} (R : A → B → Type 0) (d : A) (e : B) (xs : List A) (ys : List B) (i : ℕ) → AllZip R xs ys → i < length xs → R (get_or xs i d) (get_or ys i e)
zip_at R d e [] ys i z l = absurd (omega (arith, l))
zip_at R d e (x ∷ xs) [] i z l = absurd z
zip_at R d e (x ∷ xs) (y ∷ ys) zero z l = z.0
zip_at R d e (x ∷ xs) (y ∷ ys) (suc i) z l = zip_at R d e xs ys i z.1 (omega (arith, l))

-- what is put back among the others stands at their places
pub put_back_at : {A : Type 0} (R : A → A → Type 0) (d : A) (vs others : List A) (p j : ℕ) (own : A) → AllZip R (remove vs p) others → p < length vs → j < length vs → j ≢ p → R (get_or vs j d) (get_or (insert others p own) j d)
put_back_at R d [] others p j own z l h n = absurd (omega (arith, l))
put_back_at R d (v ∷ vs) others zero zero own z l h n = absurd (n refl)
put_back_at R d (v ∷ vs) others zero (suc j) own z l h n = zip_at R d d vs others j z (omega (arith, h))
put_back_at R d (v ∷ vs) [] (suc p) j own z l h n = absurd z
put_back_at R d (v ∷ vs) (o ∷ os) (suc p) zero own z l h n = z.0
put_back_at R d (v ∷ vs) (o ∷ os) (suc p) (suc j) own z l h n = put_back_at R d vs os p j own z.1 (omega (arith, l)) (omega (arith, h)) (λ e. n (ap suc e))

pub each_more : {A : Type 0} (P : A → Type 0) (d : A) (xs : List A) (i : ℕ) → i < length xs → Each P (take i xs) → P (get_or xs i d) → Each P (take (i + 1) xs)
each_more P d xs i l h k = subst (Each P) (sym (take_more xs i d l)) (push (take i xs) h)
  where
    push : (ys : List _) → Each P ys → Each P (ys ++ (get_or xs i d ∷ []))
    push [] h = (k, tt)
    push (y ∷ ys) h = (h.0, push ys h.1)

pub each_of_places : {A : Type 0} (P : A → Type 0) (d : A) (xs : List A) → ((i : ℕ) → i < length xs → P (get_or xs i d)) → Each P xs
each_of_places P d [] h = tt
each_of_places P d (x ∷ xs) h = (h 0 (omega arith), each_of_places P d xs (λ i l. h (suc i) (omega (arith, l))))

-- a sum of which all terms but one are 0
pub single : (ks vs : List ℤ) (i : ℕ) → i < length vs → length ks ≡ length vs → ((j : ℕ) → j < length vs → j ≢ i → entry vs j ≡ pos 0) → dot ks vs ≡ entry ks i *ℤ entry vs i
single [] vs i l e z = absurd (omega (arith, l, e))
single (k ∷ ks) [] i l e z = absurd (omega (arith, l))
single (k ∷ ks) (v ∷ vs) zero l e z =
    let r = rest ks vs (λ j h. z (suc j) (omega (arith, h)) (λ q. omega (arith, q))) in omega (arith, sums, r)
  where
    rest : (ks vs : List ℤ) → ((j : ℕ) → j < length vs → entry vs j ≡ pos 0) → dot ks vs ≡ pos 0
    rest [] vs h = refl
    rest (k ∷ ks) [] h = refl
    rest (k ∷ ks) (v ∷ vs) h =
        let a : v ≡ pos 0 = h 0 (omega arith) in
        let b = rest ks vs (λ j l. h (suc j) (omega (arith, l))) in
        let c : k *ℤ v ≡ pos 0 = ap (λ t. k *ℤ t) a ∙ *ℤ-zero k in
        omega (arith, sums, b, c)
single (k ∷ ks) (v ∷ vs) (suc i) l e z =
    let r = single ks vs i (omega (arith, l)) (omega (arith, e)) (λ j h n. z (suc j) (omega (arith, h)) (λ q. n (omega (arith, q)))) in
    let a : v ≡ pos 0 = z 0 (omega arith) (λ q. omega (arith, q)) in
    let c : k *ℤ v ≡ pos 0 = ap (λ t. k *ℤ t) a ∙ *ℤ-zero k in
    omega (arith, sums, r, c)
