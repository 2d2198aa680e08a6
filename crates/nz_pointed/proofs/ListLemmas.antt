-- Lists that grow at the end, pairs of two lists, and what is known place by place.
use Rattle.std.proofs.Common.{◌≡◌, ℕ, zero, suc, ◌+◌, ◌<◌, ◌≤◌, List, [], ◌∷◌, ◌++◌, length, map, get_or, take, drop, refl, sym, ap, ◌∙◌, subst, arith}
use Rattle.std.specs.List.{AllByRecursion as Each, AllZip}
use Rattle.std.proofs.lemmas.List.{take_more}
use Rattle.nz_spec.specs.Vectors.{Vector}
use Rattle.nz_spec.specs.Order.{Pairwise}
use Rattle.nz_spec.proofs.ListLaws.{zip_push}
use Rattle.nz_linear.proofs.Lists.{each_append}
use Rattle.nz_linear.specs.DualPairs.{Pair, pair_of}
use Rattle.nz_pointed.specs.Pointed.{paired}

-- one more that all stand in relation to
pub pairwise_push : {A : Type 0} (R : A → A → Type 0) (xs : List A) (x : A) → Pairwise R xs → Each (λ y. R y x) xs → Pairwise R (xs ++ (x ∷ []))
pairwise_push R [] x p e = (tt, tt)
pairwise_push R (y ∷ xs) x p e = (each_append (R y) xs (x ∷ []) p.0 (e.0, tt), pairwise_push R xs x p.1 e.1)

-- a list of pairs, split at a place
pub record Split (place : ℕ) (ps : List Pair) : Type 0 where
  pub before : List Pair
  pub pivot : Pair
  pub after : List Pair
  pub whole : ps ≡ before ++ (pivot ∷ after)
  pub same_before : take place (map (λ (p : Pair). p.vector) ps) ≡ map (λ (p : Pair). p.vector) before
  pub same_pivot : get_or (map (λ (p : Pair). p.vector) ps) place [] ≡ pivot.vector
  pub same_after : drop (place + 1) (map (λ (p : Pair). p.vector) ps) ≡ map (λ (p : Pair). p.vector) after

pub split_at : (place : ℕ) (ps : List Pair) → place < length (map (λ (p : Pair). p.vector) ps) → Split place ps
split_at place [] l = absurd (omega arith)
split_at zero (p ∷ ps) l = record { before = []; pivot = p; after = ps; whole = refl; same_before = refl; same_pivot = refl; same_after = refl }
split_at (suc place) (p ∷ ps) l =
    let s = split_at place ps (omega arith) in
    let e : suc place + 1 ≡ suc (place + 1) = omega arith in
    record {
      before = p ∷ s.before;
      pivot = s.pivot;
      after = s.after;
      whole = ap (λ t. p ∷ t) s.whole;
      same_before = ap (λ t. p.vector ∷ t) s.same_before;
      same_pivot = s.same_pivot;
      same_after = rw e s.same_after;
    }

pub map_join : {A B : Type 0} (f : A → B) (xs ys : List A) → map f (xs ++ ys) ≡ map f xs ++ map f ys
map_join f [] ys = refl
map_join f (x ∷ xs) ys = ap (λ t. f x ∷ t) (map_join f xs ys)

-- pairs are known by their forms and their vectors
pub paired_same : (ps : List Pair) → paired (map (λ (p : Pair). p.form) ps) (map (λ (p : Pair). p.vector) ps) ≡ ps
paired_same [] = refl
paired_same (p ∷ ps) = ap (λ t. p ∷ t) (paired_same ps)

-- the pairs with other vectors
abbrev pub with_vectors : List Pair → List Vector → List Pair
with_vectors [] vs = []
with_vectors (p ∷ ps) [] = []
with_vectors (p ∷ ps) (v ∷ vs) = pair_of p.form v ∷ with_vectors ps vs

pub take_joined : {A : Type 0} (n : ℕ) (xs ys : List A) → n ≤ length xs → take n (xs ++ ys) ≡ take n xs
take_joined zero xs ys l = refl
take_joined (suc n) [] ys l = absurd (omega arith)
take_joined (suc n) (x ∷ xs) ys l = ap (λ t. x ∷ t) (take_joined n xs ys (omega arith))

pub at_joined : {A : Type 0} (d : A) (n : ℕ) (xs ys : List A) → n < length xs → get_or (xs ++ ys) n d ≡ get_or xs n d
at_joined d n [] ys l = absurd (omega arith)
at_joined d zero (x ∷ xs) ys l = refl
at_joined d (suc n) (x ∷ xs) ys l = at_joined d n xs ys (omega arith)

pub at_end : {A : Type 0} (d x : A) (xs : List A) → get_or (xs ++ (x ∷ [])) (length xs) d ≡ x
at_end d x [] = refl
at_end d x (y ∷ xs) = at_end d x xs

pub take_whole : {A : Type 0} (xs ys : List A) → take (length xs) (xs ++ ys) ≡ xs
take_whole [] ys = refl
take_whole (x ∷ xs) ys = ap (λ t. x ∷ t) (take_whole xs ys)

pub length_joined : {A : Type 0} (x : A) (xs : List A) → length (xs ++ (x ∷ [])) ≡ length xs + 1
length_joined x [] = refl
length_joined x (y ∷ xs) = let r = length_joined x xs in omega (arith, r)

-- one more pair of two lists
pub zip_more : {A B : Type 0} (R : A → B → Type 0) (xs : List A) (ys zs : List B) (i : ℕ) (x : A) (y : B) → i < length xs → x ≡ get_or xs i x → AllZip R (take i xs) ys → R x y → zs ≡ ys ++ (y ∷ []) → AllZip R (take (i + 1) xs) zs
zip_more R xs ys zs i x y l e z r s = subst (AllZip R (take (i + 1) xs)) (sym s) (subst (λ us. AllZip R us (ys ++ (y ∷ []))) (ap (λ t. take i xs ++ (t ∷ [])) e ∙ sym (take_more xs i x l)) (zip_push R (take i xs) ys x y z r))

pub each_at : {A : Type 0} (P : A → Type 0) (d : A) (xs : List A) (i : ℕ) → Each P xs → i < length xs → P (get_or xs i d)
each_at P d [] i h l = absurd (omega arith)
each_at P d (x ∷ xs) zero h l = h.0
each_at P d (x ∷ xs) (suc i) h l = each_at P d xs i h.1 (omega arith)

pub each_take : {A : Type 0} (P : A → Type 0) (xs : List A) (i : ℕ) → Each P xs → Each P (take i xs)
each_take P xs zero h = tt
each_take P [] (suc i) h = tt
each_take P (x ∷ xs) (suc i) h = (h.0, each_take P xs i h.1)

-- a list that is not empty begins with its first element
pub from_first : {A : Type 0} (xs : List A) (x : A) → 0 < length xs → x ≡ get_or xs 0 x → xs ≡ x ∷ drop 1 xs
from_first [] x l e = absurd (omega arith)
from_first (y ∷ xs) x l e = ap (λ t. t ∷ xs) (sym e)

pub none_of : {A : Type 0} (xs : List A) → length xs ≡ 0 → xs ≡ []
none_of [] e = refl
none_of (x ∷ xs) e = absurd (omega arith)
