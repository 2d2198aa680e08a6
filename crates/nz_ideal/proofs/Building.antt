-- The lists of the ideal file, as they grow by one.
use Rattle.std.proofs.Common.{◌≡◌, ℕ, zero, suc, ◌+◌, ◌<◌, List, [], ◌∷◌, ◌++◌, length, take, get_or, map, Some, add-one, sym, ap, ◌∙◌, append_assoc}
use Rattle.std.specs.Prelude.{slice_get}
use Rattle.std.specs.List.{flat_map}
use Rattle.std.proofs.lemmas.List.{append-nil, map-append}
use Rattle.std.proofs.lemmas.Option.{slice_get-get_or}
use Rattle.nz_spec.specs.Vectors.{Vector}

take-suc : {A : Type 0} (xs : List A) (n : ℕ) (x : A) → slice_get xs n ≡ Some x → take (suc n) xs ≡ take n xs ++ x ∷ []
take-suc [] n x e = absurd cc
take-suc (y ∷ xs) zero x e = (let s : y ≡ x = cc in ap (λ z. z ∷ []) s)
take-suc (y ∷ xs) (suc n) x e = ap (λ zs. y ∷ zs) (take-suc xs n x e)

-- the first elements and one more
pub take-item : {A : Type 0} (xs : List A) (n : ℕ) (x : A) → slice_get xs n ≡ Some x → take (n + 1) xs ≡ take n xs ++ x ∷ []
take-item xs n x e = rw add-one (take-suc xs n x e)

flat-suc : {A B : Type 0} (f : A → List B) (xs : List A) (n : ℕ) (x : A) → slice_get xs n ≡ Some x → flat_map f (take (suc n) xs) ≡ flat_map f (take n xs) ++ f x
flat-suc f [] n x e = absurd cc
flat-suc f (y ∷ xs) zero x e = let same : y ≡ x = cc in append-nil (f y) ∙ ap f same
flat-suc f (y ∷ xs) (suc n) x e = ap (λ t. f y ++ t) (flat-suc f xs n x e) ∙ sym (append_assoc (f y) (flat_map f (take n xs)) (f x))

-- what the first elements give, and one more
pub flat-more : {A B : Type 0} (f : A → List B) (xs : List A) (n : ℕ) (x : A) → slice_get xs n ≡ Some x → flat_map f (take (n + 1) xs) ≡ flat_map f (take n xs) ++ f x
flat-more f xs n x e = rw add-one (flat-suc f xs n x e)

-- one more vector of those that a map gives
pub mapped-more : (f : Vector → Vector) (rows : List Vector) (n : ℕ) (row : Vector) (old out new : List Vector) → n < length rows → row ≡ get_or rows n [] → out ≡ old ++ map f (take n rows) → new ≡ out ++ f row ∷ [] → new ≡ old ++ map f (take (n + 1) rows)
mapped-more f rows n row old out new l e p q =
    q ∙ ap (λ (v : List Vector). v ++ f row ∷ []) p ∙ append_assoc old (map f (take n rows)) (f row ∷ [])
    ∙ ap (λ (v : List Vector). old ++ v) (sym (map-append f (take n rows) (row ∷ [])) ∙ ap (map f) (sym (take-item rows n row (slice_get-get_or rows n [] l ∙ ap Some (sym e)))))

-- what one more gives, behind others
pub given-more : {A B : Type 0} (f : A → List B) (xs : List A) (n : ℕ) (x : A) (old out new : List B) → slice_get xs n ≡ Some x → out ≡ old ++ flat_map f (take n xs) → new ≡ out ++ f x → new ≡ old ++ flat_map f (take (n + 1) xs)
given-more f xs n x old out new e p q =
    q ∙ ap (λ v. v ++ f x) p ∙ append_assoc old (flat_map f (take n xs)) (f x) ∙ ap (λ v. old ++ v) (sym (flat-more f xs n x e))

-- what one more gives, mapped
pub mapped-given-more : {A : Type 0} (g : Vector → Vector) (f : A → List Vector) (xs : List A) (n : ℕ) (x : A) (out new : List Vector) → slice_get xs n ≡ Some x → out ≡ map g (flat_map f (take n xs)) → new ≡ out ++ map g (f x) → new ≡ map g (flat_map f (take (n + 1) xs))
mapped-given-more g f xs n x out new e p q =
    q ∙ ap (λ (v : List Vector). v ++ map g (f x)) p ∙ sym (map-append g (flat_map f (take n xs)) (f x)) ∙ ap (map g) (sym (flat-more f xs n x e))
