-- Lists by their places, and outcomes by their shapes.
use Rattle.std.proofs.Common.{◌≡◌, ℕ, suc, ◌+◌, ◌<◌, ◌≤◌, List, [], ◌∷◌, ◌++◌, length, get_or, take, map, refl, sym, ap, ap₂, subst, ◌∙◌, arith, take_all, length-append, IfSome}
use Rattle.std.proofs.lemmas.List.{get_or-map, length-map}
use Rattle.std.specs.List.{AllByRecursion as Each}
use Rattle.nz_spec.proofs.ListLaws.{each_at}
use Rattle.nz_blocks.specs.Outcomes.{OutcomeData, IsOutcome, IsAsked, number}
use Rattle.nz_blocks.specs.Shapes.{IsShaped}
use Rattle.nz_blocks.proofs.Laying.{take_more}
use Rattle.nz_blocks.proofs.NumberTexts.{each_both}

pub each_more : {X : Type 0} (P : X → Type 0) (xs : List X) (k : ℕ) (d : X) → k < length xs → Each P (take k xs) → P (get_or xs k d) → Each P (take (k + 1) xs)
each_more P xs k d l h p = subst (Each P) (sym (take_more xs k d l)) (each_both P (take k xs) (get_or xs k d ∷ []) h (p, tt))

pub each_whole : {X : Type 0} (P : X → Type 0) (xs : List X) (k : ℕ) → length xs ≤ k → Each P (take k xs) → Each P xs
each_whole P xs k l h = subst (Each P) (take_all k xs l) h

pub not_each : {X : Type 0} (P : X → Type 0) (xs : List X) (k : ℕ) (d : X) → k < length xs → ¬ P (get_or xs k d) → ¬ Each P xs
not_each P xs k d l n h = n (each_at P xs k d h l)

-- what stands at a place of a list of images
pub image_at : {X Y : Type 0} (f : X → Y) (xs : List X) (ys : List Y) (k : ℕ) (d : X) (e y : Y) → k < length ys → ys ≡ map f xs → y ≡ get_or ys k e → (k < length xs) × (y ≡ f (get_or xs k d))
image_at f xs ys k d e y l h u =
    let m : k < length xs = omega (arith, l, ap length h ∙ length-map xs f) in
    (m, u ∙ ap (λ z. get_or z k e) h ∙ get_or-map f xs k d e m)

pub taken_more : {X : Type 0} (items more xs : List X) (k : ℕ) (d y : X) → k < length xs → items ≡ take k xs → y ≡ get_or xs k d → more ≡ items ++ y ∷ [] → more ≡ take (k + 1) xs
taken_more items more xs k d y l i e m = m ∙ ap₂ (λ a b. a ++ b ∷ []) i e ∙ sym (take_more xs k d l)

pub all_taken : {X Y : Type 0} (f : X → Y) (items xs : List X) (ys : List Y) (k : ℕ) → length ys ≤ k → ys ≡ map f xs → items ≡ take k xs → items ≡ xs
all_taken f items xs ys k l h i = i ∙ take_all k xs (omega (arith, l, ap length h ∙ length-map xs f))

pub each_push : {X : Type 0} (P : X → Type 0) (items more : List X) (y : X) → Each P items → P y → more ≡ items ++ y ∷ [] → Each P more
each_push P items more y h p m = subst (Each P) (sym m) (each_both P items (y ∷ []) h (p, tt))

-- lists with one last element
pub last_one : {X : Type 0} (xs ys : List X) (x y : X) → xs ++ x ∷ [] ≡ ys ++ y ∷ [] → (x ≡ y) × (xs ≡ ys)
last_one [] [] x y e = (let h : x ≡ y = cc (e) in (h, refl))
last_one [] (b ∷ ys) x y e = absurd (omega (arith, ap length e ∙ ap suc (length-append ys (y ∷ []))))
last_one (a ∷ xs) [] x y e = absurd (omega (arith, sym (ap length e) ∙ ap suc (length-append xs (x ∷ []))))
last_one (a ∷ xs) (b ∷ ys) x y e =
    let first : a ≡ b = cc (e) in
    let rest : xs ++ x ∷ [] ≡ ys ++ y ∷ [] = cc (e) in
    let more = last_one xs ys x y rest in
    (more.0, ap₂ (λ z zs. z ∷ zs) first more.1)

pub none_last : {X : Type 0} (xs ys : List X) (y : X) → xs ≡ ys ++ y ∷ [] → length xs ≡ 0 → ⊥
none_last xs ys y e l = absurd (omega (arith, l, ap length e ∙ length-append ys (y ∷ [])))

-- ---- outcomes by their shapes

pub shaped : (o : OutcomeData) → IsOutcome o → IsShaped o
shaped o is = record {
  at_least = is.at_least;
  at_most = is.at_most;
  denominator = is.denominator;
  rows = (is.modules, (is.hilbert, (is.degree_one, (is.vertices, (is.rays, (is.support, (is.equations, (is.generators, tt))))))));
  together = record { described = is.described; covered = is.covered; bounded = is.bounded; levelled = is.levelled; divided = is.divided; parted = is.parted };
}

pub outcome_is : (o : OutcomeData) → IsShaped o → IfSome o.simplices (Each (Each (λ p. p < number o.generators))) → IfSome o.asked (Each (IsAsked o)) → IsOutcome o
outcome_is o is places asked = record {
  at_least = is.at_least;
  at_most = is.at_most;
  denominator = is.denominator;
  modules = is.rows.0;
  hilbert = is.rows.1.0;
  degree_one = is.rows.1.1.0;
  vertices = is.rows.1.1.1.0;
  rays = is.rows.1.1.1.1.0;
  support = is.rows.1.1.1.1.1.0;
  equations = is.rows.1.1.1.1.1.1.0;
  generators = is.rows.1.1.1.1.1.1.1.0;
  simplices = places;
  asked = asked;
  described = is.together.described;
  covered = is.together.covered;
  bounded = is.together.bounded;
  levelled = is.together.levelled;
  divided = is.together.divided;
  parted = is.together.parted;
}
