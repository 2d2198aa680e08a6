-- Goals and modes, word by word.
use Rattle.std.proofs.Common.{◌≡◌, ℕ, zero, suc, ◌+◌, List, [], ◌∷◌, ◌++◌, take, Some, None, add-one, refl, sym, ap, ◌∙◌, Bool, true, false}
use Rattle.std.specs.Prelude.{slice_get, ◌||◌, Option}
use Rattle.nz_input.specs.declared.kind.Goal.{Goal}
use Rattle.nz_input.specs.declared.kind.Mode.{Mode}
use Rattle.nz_system.specs.Asked.{is_goal, names, mode_of, or_else, last_mode}
use Rattle.nz_system.proofs.Growing.{or-false, or-assoc}

pub names-append : (goal : Goal) (gs hs : List Goal) → names goal (gs ++ hs) ≡ (names goal gs || names goal hs)
names-append goal [] hs = refl
names-append goal (g ∷ gs) hs = ap (λ b. is_goal goal g || b) (names-append goal gs hs) ∙ or-assoc (is_goal goal g) (names goal gs) (names goal hs)

take-got : {A : Type 0} (xs : List A) (n : ℕ) (x : A) → slice_get xs n ≡ Some x → take (suc n) xs ≡ take n xs ++ x ∷ []
take-got [] n x e = absurd cc
take-got (y ∷ xs) zero x e = (let s : y ≡ x = cc in ap (λ z. z ∷ []) s)
take-got (y ∷ xs) (suc n) x e = ap (λ zs. y ∷ zs) (take-got xs n x e)

pub names-more : (goal : Goal) (goals : List Goal) (n : ℕ) (g : Goal) (found new : Bool) → slice_get goals n ≡ Some g → found ≡ names goal (take n goals) → new ≡ (found || is_goal goal g) → new ≡ names goal (take (n + 1) goals)
names-more goal goals n g found new e p q =
    rw add-one (q ∙ ap (λ b. b || is_goal goal g) p ∙ ap (λ b. names goal (take n goals) || b) (sym (or-false (is_goal goal g))) ∙ sym (names-append goal (take n goals) (g ∷ [])) ∙ ap (names goal) (sym (take-got goals n g e)))

or_else-none : (m : Option Mode) → or_else m None ≡ m
or_else-none None = refl
or_else-none (Some x) = refl

or_else-assoc : (a b c : Option Mode) → or_else (or_else a b) c ≡ or_else a (or_else b c)
or_else-assoc None b c = refl
or_else-assoc (Some x) b c = refl

last-append : (gs hs : List Goal) → last_mode (gs ++ hs) ≡ or_else (last_mode hs) (last_mode gs)
last-append [] hs = sym (or_else-none (last_mode hs))
last-append (g ∷ gs) hs = ap (λ m. or_else m (mode_of g)) (last-append gs hs) ∙ or_else-assoc (last_mode hs) (last_mode gs) (mode_of g)

pub mode-more : (goals : List Goal) (n : ℕ) (g : Goal) (mode new : Option Mode) → slice_get goals n ≡ Some g → mode ≡ last_mode (take n goals) → new ≡ or_else (mode_of g) mode → new ≡ last_mode (take (n + 1) goals)
mode-more goals n g mode new e p q =
    rw add-one (q ∙ ap (or_else (mode_of g)) p ∙ sym (last-append (take n goals) (g ∷ [])) ∙ ap last_mode (sym (take-got goals n g e)))

-- a word of the first list
pub either-then : (goal : Goal) (gs hs : List Goal) (b : Bool) → b ≡ names goal gs → b ≡ true → b ≡ names goal (gs ++ hs)
either-then goal gs hs b p q = q ∙ sym (names-append goal gs hs ∙ ap (λ x. x || names goal hs) (sym p ∙ q))

-- no word of the first list
pub either-else : (goal : Goal) (gs hs : List Goal) (b c : Bool) → b ≡ names goal gs → b ≡ false → c ≡ names goal hs → c ≡ names goal (gs ++ hs)
either-else goal gs hs b c p q r = r ∙ sym (names-append goal gs hs ∙ ap (λ x. x || names goal hs) (sym p ∙ q))
