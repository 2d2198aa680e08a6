-- Lists that grow by one.
use Rattle.std.proofs.Common.{◌≡◌, ℕ, zero, suc, ◌+◌, ◌<◌, List, [], ◌∷◌, ◌++◌, length, take, get_or, Some, add-one, refl, sym, ap, ◌∙◌, append_assoc, arith, Bool, true, false}
use Rattle.std.specs.Prelude.{ℤ, pos, slice_get, ◌||◌}
use Rattle.nz_spec.specs.Vectors.{Vector, zero_vector}
use Rattle.nz_input.specs.Files.{ItemData}
use Rattle.nz_system.specs.declared.groups.Group.{Group}
use Rattle.nz_system.specs.Groups.{includes, occurs}

take-one : {A : Type 0} (xs : List A) (n : ℕ) (d x : A) → n < length xs → x ≡ get_or xs n d → take (suc n) xs ≡ take n xs ++ x ∷ []
take-one [] n d x l e = absurd (omega arith)
take-one (y ∷ ys) zero d x l e = ap (λ z. z ∷ []) (sym e)
take-one (y ∷ ys) (suc n) d x l e = ap (λ zs. y ∷ zs) (take-one ys n d x (omega arith) e)

-- the next entry
pub entries-more : (row : Vector) (n : ℕ) (z : ℤ) (old out new : Vector) → n < length row → z ≡ get_or row n (pos 0) → out ≡ old ++ take n row → new ≡ out ++ z ∷ [] → new ≡ old ++ take (n + 1) row
entries-more row n z old out new l e p q =
    rw add-one (q ∙ ap (λ (v : Vector). v ++ z ∷ []) p ∙ append_assoc old (take n row) (z ∷ []) ∙ ap (λ (v : Vector). old ++ v) (sym (take-one row n (pos 0) z l e)))

zeros-one : (n : ℕ) → zero_vector (suc n) ≡ zero_vector n ++ pos 0 ∷ []
zeros-one zero = refl
zeros-one (suc n) = ap (λ (v : Vector). pos 0 ∷ v) (zeros-one n)

pub zeros-more : (n : ℕ) (old out new : Vector) → out ≡ old ++ zero_vector n → new ≡ out ++ pos 0 ∷ [] → new ≡ old ++ zero_vector (n + 1)
zeros-more n old out new p q =
    rw add-one (q ∙ ap (λ (v : Vector). v ++ pos 0 ∷ []) p ∙ append_assoc old (zero_vector n) (pos 0 ∷ []) ∙ ap (λ (v : Vector). old ++ v) (sym (zeros-one n)))

pub or-false : (b : Bool) → (b || false) ≡ (false || b)
or-false true = refl
or-false false = refl

pub or-assoc : (a b c : Bool) → (a || (b || c)) ≡ ((a || b) || c)
or-assoc true b c = refl
or-assoc false b c = refl

occurs-one : (group : Group) (items : List ItemData) (n : ℕ) (item : ItemData) → slice_get items n ≡ Some item → occurs group (take (suc n) items) ≡ (occurs group (take n items) || includes group item.kind)
occurs-one group [] n item e = absurd (cc)
occurs-one group (i ∷ items) zero item e = or-false (includes group i.kind) ∙ ap (λ (j : ItemData). false || includes group j.kind) (let s : i ≡ item = cc in s)
occurs-one group (i ∷ items) (suc n) item e = ap (λ b. includes group i.kind || b) (occurs-one group items n item e) ∙ or-assoc (includes group i.kind) (occurs group (take n items)) (includes group item.kind)

pub occurs-more : (group : Group) (items : List ItemData) (n : ℕ) (item : ItemData) (found : Bool) → slice_get items n ≡ Some item → found ≡ occurs group (take n items) → (found || includes group item.kind) ≡ occurs group (take (n + 1) items)
occurs-more group items n item found e p = rw add-one (ap (λ b. b || includes group item.kind) p ∙ sym (occurs-one group items n item e))
