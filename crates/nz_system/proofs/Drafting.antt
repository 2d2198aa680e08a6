-- Drafts that grow row by row.
use Rattle.std.proofs.Common.{◌≡◌, ℕ, zero, suc, ◌+◌, ◌<◌, List, [], ◌∷◌, ◌++◌, length, take, get_or, map, Some, add-one, refl, sym, ap, ◌∙◌, append_assoc, subst}
use Rattle.std.specs.Prelude.{slice_get, Bool, not, ◌&&◌}
use Rattle.std.specs.List.{flat_map}
use Rattle.std.proofs.lemmas.List.{append-nil}
use Rattle.std.proofs.lemmas.Option.{slice_get-get_or}
use Rattle.nz_spec.specs.Vectors.{Vector, entry}
use Rattle.nz_input.specs.Files.{ItemData, FileData}
use Rattle.nz_input.specs.declared.kind.Goal.{Goal}
use Rattle.nz_input.specs.declared.kind.Kind.{Kind}
use Rattle.nz_system.specs.declared.contribution.Contribution.{Contribution}
use Rattle.nz_system.specs.declared.contribution.Contribution.TheVariants.{NotNegative}
use Rattle.nz_system.specs.declared.draft.Draft.{Draft}
use Rattle.nz_system.specs.Contributions.{contributions, sign_form, sign_forms}
use Rattle.nz_system.specs.declared.groups.Group.TheVariants as group
use Rattle.nz_system.specs.Groups.{occurs}
use Rattle.nz_system.specs.Drafts.{with_one, with_all}
use Rattle.nz_system.specs.Meaning.{orthant_where, level_where, orthant, of_level}

pub with_all-append : (d : Draft) (cs es : List Contribution) → with_all d (cs ++ es) ≡ with_all (with_all d cs) es
with_all-append d [] es = refl
with_all-append d (c ∷ cs) es = with_all-append (with_one d c) cs es

flat-take : {A : Type 0} (f : A → List Contribution) (xs : List A) (n : ℕ) (x : A) → slice_get xs n ≡ Some x → flat_map f (take (suc n) xs) ≡ flat_map f (take n xs) ++ f x
flat-take f [] n x e = absurd cc
flat-take f (y ∷ xs) zero x e = let same : y ≡ x = cc in append-nil (f y) ∙ ap f same
flat-take f (y ∷ xs) (suc n) x e = ap (λ (t : List Contribution). f y ++ t) (flat-take f xs n x e) ∙ sym (append_assoc (f y) (flat_map f (take n xs)) (f x))

-- what one more gives
pub taken-more : {A : Type 0} (f : A → List Contribution) (xs : List A) (n : ℕ) (x : A) (old out new : Draft) → slice_get xs n ≡ Some x → out ≡ with_all old (flat_map f (take n xs)) → new ≡ with_all out (f x) → new ≡ with_all old (flat_map f (take (n + 1) xs))
taken-more f xs n x old out new e p q =
    rw add-one (q ∙ ap (λ d. with_all d (f x)) p ∙ sym (with_all-append old (flat_map f (take n xs)) (f x)) ∙ ap (λ cs. with_all old cs) (sym (flat-take f xs n x e)))

-- what one more row gives
pub row-taken : (level : Bool) (k : Kind) (rows : List Vector) (n : ℕ) (row : Vector) (old out new : Draft) → n < length rows → row ≡ get_or rows n [] → out ≡ with_all old (flat_map (contributions level k) (take n rows)) → new ≡ with_all out (contributions level k row) → new ≡ with_all old (flat_map (contributions level k) (take (n + 1) rows))
row-taken level k rows n row old out new l e p q = taken-more (contributions level k) rows n row old out new (slice_get-get_or rows n [] l ∙ ap Some (sym e)) p q

map-append : (fs gs : List Vector) → map NotNegative (fs ++ gs) ≡ map NotNegative fs ++ map NotNegative gs
map-append [] gs = refl
map-append (f ∷ fs) gs = ap (λ (t : List Contribution). NotNegative f ∷ t) (map-append fs gs)

-- what one more sign gives
pub sign-taken : (row behind : Vector) (n : ℕ) (old out new : Draft) → out ≡ with_all old (map NotNegative (sign_forms row behind n)) → new ≡ with_all out (map NotNegative (sign_form (length row) behind n (entry row n))) → new ≡ with_all old (map NotNegative (sign_forms row behind (n + 1)))
sign-taken row behind n old out new p q =
    rw add-one (q ∙ ap (λ d. with_all d (map NotNegative (sign_form (length row) behind n (entry row n)))) p
    ∙ sym (with_all-append old (map NotNegative (sign_forms row behind n)) (map NotNegative (sign_form (length row) behind n (entry row n))))
    ∙ ap (λ cs. with_all old cs) (sym (map-append (sign_forms row behind n) (sign_form (length row) behind n (entry row n)))))

-- the same where the item is seen from inside
pub item-taken : (level : Bool) (item : ItemData) (k : Kind) (rows : List Vector) (n : ℕ) (row : Vector) (old out new : Draft) → record { kind = k; rows = rows } ≡ item → n < length rows → row ≡ get_or rows n [] → out ≡ with_all old (flat_map (contributions level item.kind) (take n item.rows)) → new ≡ with_all out (contributions level k row) → new ≡ with_all old (flat_map (contributions level item.kind) (take (n + 1) item.rows))
item-taken level item k rows n row old out new same l e p q =
    subst (λ (i : ItemData). out ≡ with_all old (flat_map (contributions level i.kind) (take n i.rows)) → new ≡ with_all old (flat_map (contributions level i.kind) (take (n + 1) i.rows))) same
    (λ r. row-taken level k rows n row old out new l e r q) p

-- what no row gives
pub others-taken : (level : Bool) (file : FileData) (amb : ℕ) (items : List ItemData) (goals : List Goal) (bounded vertex : Bool) (old mid new : Draft) → record { amb = amb; items = items; goals = goals } ≡ file → bounded ≡ occurs group.Bounding items → vertex ≡ (occurs group.Cone items && not (occurs group.Vertices items)) → mid ≡ with_all old (orthant_where (not bounded) level amb) → new ≡ with_all mid (level_where level vertex amb) → new ≡ with_all old (orthant level file ++ of_level level file)
others-taken level file amb items goals bounded vertex old mid new same b v p q =
    subst (λ (f : FileData). new ≡ with_all old (orthant level f ++ of_level level f)) same
    (q ∙ ap (λ d. with_all d (level_where level vertex amb)) p
    ∙ sym (with_all-append old (orthant_where (not bounded) level amb) (level_where level vertex amb))
    ∙ ap (λ x. with_all old (orthant_where (not x) level amb ++ level_where level vertex amb)) b
    ∙ ap (λ x. with_all old (orthant_where (not (occurs group.Bounding items)) level amb ++ level_where level x amb)) v)
