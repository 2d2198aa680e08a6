-- The double description of a simplex, and what each description lists.
use Rattle.std.proofs.Common.{◌≡◌, ◌≢◌, ⊎_elim, ℕ, zero, suc, ◌+◌, ◌<◌, List, [], ◌∷◌, ◌++◌, length, map, get_or, pos, ◌<ℤ◌, refl, sym, ap, ◌∙◌, subst, arith}
use Rattle.std.specs.List.{AllByRecursion as Each}
use Rattle.std.proofs.lemmas.Int.{ints}
use Rattle.std.proofs.lemmas.List.{get_or_append_left, get_or_push, length_push, length-map}
use Rattle.nz_spec.specs.Vectors.{Vector, dot, IsPrimitive}
use Rattle.nz_spec.specs.Order.{Pairwise, IsListOf}
use Rattle.nz_spec.specs.Covers.{vectors_at}
use Rattle.nz_spec.proofs.ListLaws.{Each-from_contains}
use Rattle.nz_linear.specs.DualPairs.{Pair, pair_of, IsApart, IsDual}
use Rattle.nz_linear.specs.Extreme.{IsPointed}
use Rattle.nz_linear.specs.RayStep.{AreExtremeRays}
use Rattle.nz_linear.proofs.Lists.{each_map, each_of_map, map_each}
use Rattle.nz_linear.proofs.Dependence.{complete_length}
use Rattle.nz_linear.proofs.RayStart.{dual_rays, dual_pointed}
use Rattle.nz_linear.proofs.Splitting.{listed_is_ray, ray_is_listed}
use Rattle.nz_pointed.specs.Pointed.{paired, IsSimplexOf}
use Rattle.nz_rays.specs.Descriptions.{RowsAndRays, IsDescription, IsDouble, ListsRays, VanishesAt, AreZeros}
use Rattle.nz_rays.proofs.PlaceLemmas.{listed_same, below_next, zip_from}

-- the list of a description has just the primitive extreme rays, each once
pub lists_rays : (d : RowsAndRays) → IsDescription d → ListsRays d
lists_rays d i = record {
  in_order = i.once;
  only = Each-from_contains _ d.rays (λ x c. listed_is_ray d.width d.rows d.rays x i.extreme c);
  each = λ x r. ray_is_listed d.width d.rows d.rays x i.pointed i.extreme r;
}

-- ---- forms and vectors of a dual pair
forms_of : (fs vs : List Vector) → length vs ≡ length fs → map (λ (p : Pair). p.form) (paired fs vs) ≡ fs
forms_of [] vs l = refl
forms_of (f ∷ fs) [] l = absurd (let e : ⊥ = omega arith in e)
forms_of (f ∷ fs) (v ∷ vs) l = ap (λ t. f ∷ t) (forms_of fs vs (omega arith))

vectors_of : (fs vs : List Vector) → length vs ≡ length fs → map (λ (p : Pair). p.vector) (paired fs vs) ≡ vs
vectors_of [] [] l = refl
vectors_of [] (v ∷ vs) l = absurd (let e : ⊥ = omega arith in e)
vectors_of (f ∷ fs) [] l = absurd (let e : ⊥ = omega arith in e)
vectors_of (f ∷ fs) (v ∷ vs) l = ap (λ t. v ∷ t) (vectors_of fs vs (omega arith))

-- each form is 0 at the vectors of the others, and not at its own
record Meets (fs vs : List Vector) (k i : ℕ) : Type 0 where
  pub own : k ≡ i → pos 0 <ℤ dot (get_or fs k []) (get_or vs i [])
  pub other : k ≢ i → dot (get_or fs k []) (get_or vs i []) ≡ pos 0

apart_forms : (p : Pair) (fs vs : List Vector) → length vs ≡ length fs → Each (IsApart p) (paired fs vs) → (k : ℕ) → k < length fs → (dot (get_or fs k []) p.vector ≡ pos 0) × (dot p.form (get_or vs k []) ≡ pos 0)
apart_forms p [] vs l a k h = absurd (let e : ⊥ = omega arith in e)
apart_forms p (f ∷ fs) [] l a k h = absurd (let e : ⊥ = omega arith in e)
apart_forms p (f ∷ fs) (v ∷ vs) l a zero h = (a.0.back, a.0.there)
apart_forms p (f ∷ fs) (v ∷ vs) l a (suc k) h = apart_forms p fs vs (omega arith) a.1 k (omega arith)

meets_at : (fs vs : List Vector) → length vs ≡ length fs → IsDual (paired fs vs) → (k i : ℕ) → k < length fs → i < length fs → Meets fs vs k i
meets_at [] vs l d k i hk hi = absurd (let e : ⊥ = omega arith in e)
meets_at (f ∷ fs) [] l d k i hk hi = absurd (let e : ⊥ = omega arith in e)
meets_at (f ∷ fs) (v ∷ vs) l d zero zero hk hi = record { own = λ e. d.0; other = λ n. absurd (n refl) }
meets_at (f ∷ fs) (v ∷ vs) l d zero (suc i) hk hi = record { own = λ e. absurd (let b : ⊥ = omega arith in b); other = λ n. (apart_forms (pair_of f v) fs vs (omega arith) d.1 i (omega arith)).1 }
meets_at (f ∷ fs) (v ∷ vs) l d (suc k) zero hk hi = record { own = λ e. absurd (let b : ⊥ = omega arith in b); other = λ n. (apart_forms (pair_of f v) fs vs (omega arith) d.1 k (omega arith)).0 }
meets_at (f ∷ fs) (v ∷ vs) l d (suc k) (suc i) hk hi = let m = meets_at fs vs (omega arith) d.2 k i (omega arith) (omega arith) in record { own = λ e. m.own (omega arith); other = λ n. m.other (λ e. n (ap suc e)) }

-- the vectors are all different
vectors_differ : (ps : List Pair) → IsDual ps → Pairwise ◌≢◌ (map (λ (p : Pair). p.vector) ps)
vectors_differ [] d = tt
vectors_differ (p ∷ ps) d = (
  each_of_map (λ (q : Pair). q.vector) (λ v. p.vector ≢ v) ps (each_map (IsApart p) (λ (q : Pair). p.vector ≢ q.vector) ps (λ q a e. let h = ap (dot p.form) e ∙ a.there in let u = d.0 in let b : ⊥ = omega (arith, ints, h, u) in b) d.1),
  vectors_differ ps d.2,
)

-- ---- the start
-- the places other than that of the ray are those of the rows that are 0 at it
zeros_at : (fs vs : List Vector) (i : ℕ) (zs : List ℕ) → length vs ≡ length fs → IsDual (paired fs vs) → i < length fs → IsListOf ◌<◌ (λ k. (k < length fs) × (k ≢ i)) zs → AreZeros fs (get_or vs i []) zs
zeros_at fs vs i zs l d h z = listed_same ◌<◌ (λ k. (k < length fs) × (k ≢ i)) (VanishesAt fs (get_or vs i [])) zs z
    (λ k p. record { within = p.0; zero = (meets_at fs vs l d k i p.0 h).other p.1 })
    (λ k v. (v.within, λ e. let m = (meets_at fs vs l d k i v.within h).own e in let n = v.zero in let b : ⊥ = omega (arith, ints, m, n) in b))

length_at : (rows : List Vector) (places : List ℕ) → length (vectors_at rows places) ≡ length places
length_at rows places = length-map places (λ p. get_or rows p [])

pub simplex_description : (w : ℕ) (rows rays : List Vector) (places : List ℕ) → IsSimplexOf w rows places rays → IsDescription (record { width = w; rows = vectors_at rows places; rays = rays })
simplex_description w rows rays places s =
    let fs = vectors_at rows places in
    let l : length rays ≡ length fs = s.one_each ∙ sym (length_at rows places) in
    let ps = paired fs rays in
    let forms = forms_of fs rays l in
    let vectors = vectors_of fs rays l in
    record {
      pointed = subst (IsPointed w) forms (dual_pointed w ps s.only_zero);
      extreme = subst (λ (fs : List Vector). AreExtremeRays w fs rays) forms (subst (AreExtremeRays w (map (λ (p : Pair). p.form) ps)) vectors
          (dual_rays w ps s.dual s.only_zero (map_each (λ (p : Pair). p.vector) IsPrimitive ps (subst (Each IsPrimitive) (sym vectors) s.primitive))));
      once = subst (Pairwise ◌≢◌) vectors (vectors_differ ps s.dual.dual);
    }

pub simplex_double : (w : ℕ) (rows chosen rays vectors : List Vector) (places : List ℕ) (zeros : List (List ℕ)) → w ≡ length places → chosen ≡ vectors_at rows places → vectors ≡ rays → IsSimplexOf (length places) rows places rays → length zeros ≡ w
    → ((i : ℕ) → i < w → IsListOf ◌<◌ (λ k. (k < w) × (k ≢ i)) (get_or zeros i [])) → IsDouble (record { width = w; rows = chosen; rays = vectors }) zeros
simplex_double w rows chosen rays vectors places zeros ew ec ev s lz others =
    let fs = vectors_at rows places in
    let lf : length fs ≡ w = length_at rows places ∙ sym ew in
    let l : length rays ≡ length fs = s.one_each ∙ sym (length_at rows places) in
    rw (ec, ev) (record {
      description = subst (λ (n : ℕ). IsDescription (record { width = n; rows = fs; rays = rays })) (sym ew) (simplex_description (length places) rows rays places s);
      exact = zip_from (AreZeros fs) [] [] rays zeros (l ∙ lf ∙ sym lz)
          (λ i h. zeros_at fs rays i (get_or zeros i []) l s.dual.dual (omega (arith, l)) (subst (λ (n : ℕ). IsListOf ◌<◌ (λ k. (k < n) × (k ≢ i)) (get_or zeros i [])) (sym lf) (others i (omega (arith, l, lf)))));
    })

-- the lists of all other places, one by one
pub others_more : (count place : ℕ) (lists more : List (List ℕ)) (others : List ℕ) → (length lists ≡ place) × ((i : ℕ) → i < place → IsListOf ◌<◌ (λ k. (k < count) × (k ≢ i)) (get_or lists i [])) → IsListOf ◌<◌ (λ k. (k < count) × (k ≢ place)) others → more ≡ lists ++ (others ∷ [])
    → (length more ≡ place + 1) × ((i : ℕ) → i < place + 1 → IsListOf ◌<◌ (λ k. (k < count) × (k ≢ i)) (get_or more i []))
others_more count place lists more others h o e = (
  ap length e ∙ length_push lists others ∙ ap (λ n. n + 1) h.0,
  λ i l. rw e (⊎_elim
      (λ b. rw (get_or_append_left lists (others ∷ []) [] i (let k = h.0 in omega arith)) (h.1 i b))
      (λ s. rw (get_or_push lists others [] i (h.0 ∙ sym s)) (subst (λ (j : ℕ). IsListOf ◌<◌ (λ k. (k < count) × (k ≢ j)) others) (sym s) o))
      (below_next i place l)),
)

-- a simplex has as many places as its vectors have entries
pub simplex_width : (w : ℕ) (rows rays : List Vector) (places : List ℕ) → IsSimplexOf w rows places rays → w ≡ length places
simplex_width w rows rays places s =
    let fs = vectors_at rows places in
    let l : length rays ≡ length fs = s.one_each ∙ sym (length_at rows places) in
    sym (complete_length w (paired fs rays) s.dual s.only_zero) ∙ sym (length-map (paired fs rays) (λ (p : Pair). p.form)) ∙ ap length (forms_of fs rays l) ∙ length_at rows places

-- an answer of the test for lines, as the start asks for it
pub simplex_at_width : (w : ℕ) (rows rays : List Vector) (places : List ℕ) → IsSimplexOf w rows places rays → IsSimplexOf (length places) rows places rays
simplex_at_width w rows rays places s = subst (λ (n : ℕ). IsSimplexOf n rows places rays) (simplex_width w rows rays places s) s
