-- The goals among the first flags.
use Rattle.std.proofs.Common.{◌≡◌, ◌∙◌, sym, ap, ap₂, refl, arith, ℕ, suc, ◌+◌, ◌<◌, List, [], ◌∷◌, ◌++◌, take, get_or, Bool, true, false}
use Rattle.std.specs.Prelude.{filter, cond}
use Rattle.std.proofs.Math.Seq.{take-suc}
use Rattle.nz_input.specs.declared.kind.Goal.{Goal}
use Rattle.nz_words.specs.Orders.{all_goals}
use Rattle.nz_words.specs.Rules.{only_where}

filter_more : (p : Goal → Bool) (gs : List Goal) (g : Goal) → filter p (gs ++ g ∷ []) ≡ filter p gs ++ only_where (p g) g
filter_more p [] g = go (p g)
  where
    go : (b : Bool) → cond b (g ∷ []) [] ≡ only_where b g
    go true = refl
    go false = refl
filter_more p (x ∷ xs) g = go (p x) (filter_more p xs g)
  where
    go : (b : Bool) → filter p (xs ++ g ∷ []) ≡ filter p xs ++ only_where (p g) g → cond b (x ∷ filter p (xs ++ g ∷ [])) (filter p (xs ++ g ∷ [])) ≡ cond b (x ∷ filter p xs) (filter p xs) ++ only_where (p g) g
    go true e = ap (λ (ys : List Goal). x ∷ ys) e
    go false e = e

pub goals_more : (p : Goal → Bool) (k : ℕ) (d : Goal) (b : Bool) (old new : List Goal) → k < 9 → b ≡ p (get_or all_goals k d) → old ≡ filter p (take k all_goals) → new ≡ old ++ only_where b (get_or all_goals k d) → new ≡ filter p (take (k + 1) all_goals)
goals_more p k d b old new lt eb eo en =
    let next : k + 1 ≡ suc k = omega arith in
    let g = get_or all_goals k d in
    en ∙ ap₂ (λ (gs : List Goal) (wanted : Bool). gs ++ only_where wanted g) eo eb ∙ sym (filter_more p (take k all_goals) g)
    ∙ ap (filter p) (sym (take-suc all_goals k d lt) ∙ ap (λ (n : ℕ). take n all_goals) (sym next))
