-- Facts of each element of a list.
use Rattle.std.proofs.Common.{List, [], ◌∷◌, ◌++◌, map}
use Rattle.std.specs.List.{AllByRecursion as Each, AllZip}
use Rattle.nz_spec.proofs.ListLaws.{Each-weaker}

pub each_map : {A : Type 0} (P Q : A → Type 0) (xs : List A) → ((x : A) → P x → Q x) → Each P xs → Each Q xs
each_map P Q xs f h = Each-weaker P Q f xs h

pub each_map2 : {A : Type 0} (P Q R : A → Type 0) (xs : List A) → ((x : A) → P x → Q x → R x) → Each P xs → Each Q xs → Each R xs
each_map2 P Q R [] f h k = tt
each_map2 P Q R (x ∷ xs) f h k = (f x h.0 k.0, each_map2 P Q R xs f h.1 k.1)

pub each_map3 : {A : Type 0} (P Q R S : A → Type 0) (xs : List A) → ((x : A) → P x → Q x → R x → S x) → Each P xs → Each Q xs → Each R xs → Each S xs
each_map3 P Q R S [] f h k l = tt
each_map3 P Q R S (x ∷ xs) f h k l = (f x h.0 k.0 l.0, each_map3 P Q R S xs f h.1 k.1 l.1)

pub each_append : {A : Type 0} (P : A → Type 0) (xs ys : List A) → Each P xs → Each P ys → Each P (xs ++ ys)
each_append P [] ys h k = k
each_append P (x ∷ xs) ys h k = (h.0, each_append P xs ys h.1 k)

pub each_left : {A : Type 0} (P : A → Type 0) (xs ys : List A) → Each P (xs ++ ys) → Each P xs
each_left P [] ys h = tt
each_left P (x ∷ xs) ys h = (h.0, each_left P xs ys h.1)

pub each_right : {A : Type 0} (P : A → Type 0) (xs ys : List A) → Each P (xs ++ ys) → Each P ys
each_right P [] ys h = h
each_right P (x ∷ xs) ys h = each_right P xs ys h.1

pub each_of_map : {A B : Type 0} (f : A → B) (P : B → Type 0) (xs : List A) → Each (λ x. P (f x)) xs → Each P (map f xs)
each_of_map f P [] h = tt
each_of_map f P (x ∷ xs) h = (h.0, each_of_map f P xs h.1)

pub map_each : {A B : Type 0} (f : A → B) (P : B → Type 0) (xs : List A) → Each P (map f xs) → Each (λ x. P (f x)) xs
map_each f P [] h = tt
map_each f P (x ∷ xs) h = (h.0, map_each f P xs h.1)

pub each_insert : {A : Type 0} (P : A → Type 0) (p : A) (xs ys : List A) → Each P (p ∷ (xs ++ ys)) → Each P (xs ++ (p ∷ ys))
each_insert P p [] ys h = h
each_insert P p (x ∷ xs) ys h = (h.1.0, each_insert P p xs ys (h.0, h.1.1))

pub each_remove : {A : Type 0} (P : A → Type 0) (p : A) (xs ys : List A) → Each P (xs ++ (p ∷ ys)) → Each P (p ∷ (xs ++ ys))
each_remove P p [] ys h = h
each_remove P p (x ∷ xs) ys h = let r = each_remove P p xs ys h.1 in (r.0, (h.0, r.1))

pub zip_append : {A B : Type 0} (R : A → B → Type 0) (xs : List A) (us : List B) (ys : List A) (vs : List B) → AllZip R xs us → AllZip R ys vs → AllZip R (xs ++ ys) (us ++ vs)
zip_append R [] [] ys vs h k = k
zip_append R [] (u ∷ us) ys vs h k = absurd h
zip_append R (x ∷ xs) [] ys vs h k = absurd h
zip_append R (x ∷ xs) (u ∷ us) ys vs h k = (h.0, zip_append R xs us ys vs h.1 k)

pub zip_map : {A B : Type 0} (R : A → B → Type 0) (f : A → B) (P : A → Type 0) (xs : List A) → ((x : A) → P x → R x (f x)) → Each P xs → AllZip R xs (map f xs)
zip_map R f P [] h k = tt
zip_map R f P (x ∷ xs) h k = (h x k.0, zip_map R f P xs h k.1)

pub each_map4 : {A : Type 0} (P Q R S T : A → Type 0) (xs : List A) → ((x : A) → P x → Q x → R x → S x → T x) → Each P xs → Each Q xs → Each R xs → Each S xs → Each T xs
each_map4 P Q R S T [] f h k l m = tt
each_map4 P Q R S T (x ∷ xs) f h k l m = (f x h.0 k.0 l.0 m.0, each_map4 P Q R S T xs f h.1 k.1 l.1 m.1)

pub each_all : {A : Type 0} (P : A → Type 0) (xs : List A) → ((x : A) → P x) → Each P xs
each_all P [] f = tt
each_all P (x ∷ xs) f = (f x, each_all P xs f)

-- ---- two lists, place by place
pub zip_change : {A B : Type 0} (R S : A → B → Type 0) (xs : List A) (ys : List B) → ((x : A) (y : B) → R x y → S x y) → AllZip R xs ys → AllZip S xs ys
zip_change R S [] [] f z = tt
zip_change R S [] (y ∷ ys) f z = absurd z
zip_change R S (x ∷ xs) [] f z = absurd z
zip_change R S (x ∷ xs) (y ∷ ys) f z = (f x y z.0, zip_change R S xs ys f z.1)

pub zip_both : {A B : Type 0} (R S : A → B → Type 0) (xs : List A) (ys : List B) → AllZip R xs ys → AllZip S xs ys → AllZip (λ x y. R x y × S x y) xs ys
zip_both R S [] [] z k = tt
zip_both R S [] (y ∷ ys) z k = absurd z
zip_both R S (x ∷ xs) [] z k = absurd z
zip_both R S (x ∷ xs) (y ∷ ys) z k = ((z.0, k.0), zip_both R S xs ys z.1 k.1)

-- what is known of each of the second list
pub zip_right : {A B : Type 0} (R : A → B → Type 0) (P : B → Type 0) (xs : List A) (ys : List B) → AllZip R xs ys → Each P ys → AllZip (λ x y. R x y × P y) xs ys
zip_right R P [] [] z k = tt
zip_right R P [] (y ∷ ys) z k = absurd z
zip_right R P (x ∷ xs) [] z k = absurd z
zip_right R P (x ∷ xs) (y ∷ ys) z k = ((z.0, k.0), zip_right R P xs ys z.1 k.1)

-- what is known of each of the first list
pub zip_first : {A B : Type 0} (R : A → B → Type 0) (P : A → Type 0) (xs : List A) (ys : List B) → AllZip R xs ys → Each P xs → AllZip (λ x y. R x y × P x) xs ys
zip_first R P [] [] z k = tt
zip_first R P [] (y ∷ ys) z k = absurd z
zip_first R P (x ∷ xs) [] z k = absurd z
zip_first R P (x ∷ xs) (y ∷ ys) z k = ((z.0, k.0), zip_first R P xs ys z.1 k.1)

pub zip_left : {A B : Type 0} (R : A → B → Type 0) (P : A → Type 0) (xs : List A) (ys : List B) → ((x : A) (y : B) → R x y → P x) → AllZip R xs ys → Each P xs
zip_left R P [] [] f z = tt
zip_left R P [] (y ∷ ys) f z = absurd z
zip_left R P (x ∷ xs) [] f z = absurd z
zip_left R P (x ∷ xs) (y ∷ ys) f z = (f x y z.0, zip_left R P xs ys f z.1)

pub zip_to_right : {A B : Type 0} (R : A → B → Type 0) (P : B → Type 0) (xs : List A) (ys : List B) → ((x : A) (y : B) → R x y → P y) → AllZip R xs ys → Each P ys
zip_to_right R P [] [] f z = tt
zip_to_right R P [] (y ∷ ys) f z = absurd z
zip_to_right R P (x ∷ xs) [] f z = absurd z
zip_to_right R P (x ∷ xs) (y ∷ ys) f z = (f x y z.0, zip_to_right R P xs ys f z.1)

-- two relations that meet at the first of two lists
pub zip_meet : {A B C : Type 0} (R : A → B → Type 0) (S : B → C → Type 0) (T : A → C → Type 0) (xs : List A) (ys : List B) (zs : List C) → ((x : A) (y : B) (z : C) → R x y → S y z → T x z) → AllZip R xs ys → AllZip S ys zs → AllZip T xs zs
zip_meet R S T [] [] [] f h k = tt
zip_meet R S T [] [] (z ∷ zs) f h k = absurd k
zip_meet R S T [] (y ∷ ys) zs f h k = absurd h
zip_meet R S T (x ∷ xs) [] zs f h k = absurd h
zip_meet R S T (x ∷ xs) (y ∷ ys) [] f h k = absurd k
zip_meet R S T (x ∷ xs) (y ∷ ys) (z ∷ zs) f h k = (f x y z h.0 k.0, zip_meet R S T xs ys zs f h.1 k.1)
