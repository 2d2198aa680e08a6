-- Cuts one after the other.
use Rattle.std.proofs.Common.{◌≡◌, ℕ, suc, ◌+◌, ◌<◌, ◌≤◌, List, [], ◌∷◌, ◌++◌, length, take, drop, get_or, ℤ, subst, ap, sym, refl, ◌∙◌}
use Rattle.std.specs.Prelude.{IfErr, pos, ◌≤ℤ◌}
use Rattle.std.proofs.Common.{arith}
use Rattle.std.proofs.lemmas.Int.{ints}
use Rattle.nz_scalar.specs.Room.{HasRoom}
use Rattle.std.specs.declared.result.Result.{Result}
use Rattle.std.specs.declared.result.Result.TheVariants.{Ok, Err}
use Rattle.std.proofs.lemmas.List.{take_more, take_all, take-append-drop}
use Rattle.std.proofs.Math.Seq.{drop-cons}
use Rattle.nz_spec.specs.Vectors.{Vector}
use Rattle.nz_sweep.specs.Bases.{Base}
use Rattle.nz_sweep.specs.Numbers.{SomeNumberLarge, IsEquationNumber}
use Rattle.nz_sweep.specs.Rounds.{IsEquationMove}
use Rattle.nz_measures.specs.Sweeps.{Sweeps, none, onward}
use Rattle.nz_spec.specs.Systems.{Congruence}
use Rattle.nz_spec.specs.Constraints.{Constraint, Zero, Multiple, NotNegative}
use Rattle.nz_sweep.specs.Numbers.{IsCongruenceNumber}
use Rattle.nz_sweep.specs.Rounds.{IsCongruenceMove}
use Rattle.nz_system.specs.Meaning.{congruences_of}
use Rattle.nz_measures.specs.Sweeps.{CongruenceMove}
use Rattle.nz_frame.specs.Frames.{SomeCutLarge, SomeCongruenceLarge}

pub sweeps_push : {Cut : Type 0} (Move : Cut → Base → Base → Type 0) (cuts : List Cut) (cut : Cut) (b c d : Base) → Sweeps Move cuts b c → Move cut c d → Sweeps Move (cuts ++ cut ∷ []) b d
sweeps_push Move cuts cut b c d none m = onward m none
sweeps_push Move cuts cut b c d (onward {c = e} k s) m = onward k (sweeps_push Move _ cut e c d s m)

pub sweeps_start : (forms : List Vector) (b : Base) → Sweeps IsEquationMove (take 0 forms) b b
sweeps_start [] b = none
sweeps_start (f ∷ forms) b = none

pub sweeps_more : (forms : List Vector) (i : ℕ) (f : Vector) (a b c : Base) → i < length forms → f ≡ get_or forms i [] → IsEquationMove f b c → Sweeps IsEquationMove (take i forms) a b → Sweeps IsEquationMove (take (i + 1) forms) a c
sweeps_more forms i f a b c l e m s = subst (λ (cs : List Vector). Sweeps IsEquationMove cs a c) (ap (λ (r : Vector). take i forms ++ r ∷ []) e ∙ sym (take_more forms i [] l)) (sweeps_push IsEquationMove (take i forms) f a b c s m)

pub sweeps_all : (forms : List Vector) (i : ℕ) (a b : Base) → length forms ≤ i → Sweeps IsEquationMove (take i forms) a b → Sweeps IsEquationMove forms a b
sweeps_all forms i a b l s = subst (λ (cs : List Vector). Sweeps IsEquationMove cs a b) (take_all i forms l) s

pub cut_refused : (h : ℤ) (forms : List Vector) (i : ℕ) (f : Vector) (a b : Base) → i < length forms → f ≡ get_or forms i [] → Sweeps IsEquationMove (take i forms) a b → SomeNumberLarge h (IsEquationNumber f b) → SomeCutLarge h forms a
cut_refused h forms i f a b l e s k = record {
  form = f;
  moment = b;
  midway = record { earlier = take i forms; later = drop (suc i) forms; whole = sym (take-append-drop i forms) ∙ ap (λ (vs : List Vector). take i forms ++ vs) (drop-cons forms i [] l ∙ ap (λ (r : Vector). r ∷ drop (suc i) forms) (sym e)); sweeps = s };
  large = k;
}

-- ---- congruences
sweeps_append : {Cut : Type 0} (Move : Cut → Base → Base → Type 0) (xs ys : List Cut) (a b c : Base) → Sweeps Move xs a b → Sweeps Move ys b c → Sweeps Move (xs ++ ys) a c
sweeps_append Move xs ys a b c none s = s
sweeps_append Move xs ys a b c (onward {c = d} m k) s = onward m (sweeps_append Move _ ys d b c k s)

congruences-append : (xs ys : List Constraint) → congruences_of (xs ++ ys) ≡ congruences_of xs ++ congruences_of ys
congruences-append [] ys = refl
congruences-append (Zero f ∷ xs) ys = congruences-append xs ys
congruences-append (NotNegative f ∷ xs) ys = congruences-append xs ys
congruences-append (Multiple f m ∷ xs) ys = ap (λ (cs : List Congruence). record { form = f; modulus = m } ∷ cs) (congruences-append xs ys)

pub congruence_sweep : {A : Type 0} (condition : A → Constraint) (a b : A) (f : Vector) (m : ℤ) (x y : Base) → a ≡ b → condition b ≡ Multiple f m → IsCongruenceMove f m x y → Sweeps CongruenceMove (congruences_of (condition a ∷ [])) x y
congruence_sweep condition a b f m x y e g k = subst (λ (c : Constraint). Sweeps CongruenceMove (congruences_of (c ∷ [])) x y) (sym (ap condition e ∙ g)) (onward k none)

pub congruence_refused : {A : Type 0} (condition : A → Constraint) (a b : A) (f : Vector) (m h : ℤ) (x : Base) → a ≡ b → condition b ≡ Multiple f m → SomeNumberLarge h (IsCongruenceNumber f m x) → SomeCongruenceLarge h (congruences_of (condition a ∷ [])) x
congruence_refused condition a b f m h x e g k = subst (λ (c : Constraint). SomeCongruenceLarge h (congruences_of (c ∷ [])) x) (sym (ap condition e ∙ g)) (record { congruence = record { form = f; modulus = m }; moment = x; midway = record { earlier = []; later = []; whole = refl; sweeps = none }; large = k })

pub pass_zero : {A : Type 0} (condition : A → Constraint) (a b : A) (f : Vector) (x : Base) → a ≡ b → condition b ≡ Zero f → Sweeps CongruenceMove (congruences_of (condition a ∷ [])) x x
pass_zero condition a b f x e g = subst (λ (c : Constraint). Sweeps CongruenceMove (congruences_of (c ∷ [])) x x) (sym (ap condition e ∙ g)) none

pub pass_other : {A : Type 0} (condition : A → Constraint) (a b : A) (f : Vector) (x : Base) → a ≡ b → condition b ≡ NotNegative f → Sweeps CongruenceMove (congruences_of (condition a ∷ [])) x x
pass_other condition a b f x e g = subst (λ (c : Constraint). Sweeps CongruenceMove (congruences_of (c ∷ [])) x x) (sym (ap condition e ∙ g)) none

pub congruences_start : (cs : List Constraint) (b : Base) → Sweeps CongruenceMove (congruences_of (take 0 cs)) b b
congruences_start [] b = none
congruences_start (c ∷ cs) b = none

pub congruences_next : (cs : List Constraint) (i : ℕ) (c : Constraint) (a b d : Base) → i < length cs → c ≡ get_or cs i c → Sweeps CongruenceMove (congruences_of (c ∷ [])) b d → Sweeps CongruenceMove (congruences_of (take i cs)) a b → Sweeps CongruenceMove (congruences_of (take (i + 1) cs)) a d
congruences_next cs i c a b d l e s k =
    let t : take (i + 1) cs ≡ take i cs ++ c ∷ [] = take_more cs i c l ∙ ap (λ (x : Constraint). take i cs ++ x ∷ []) (sym e) in
    subst (λ (gs : List Congruence). Sweeps CongruenceMove gs a d) (sym (ap congruences_of t ∙ congruences-append (take i cs) (c ∷ []))) (sweeps_append CongruenceMove (congruences_of (take i cs)) (congruences_of (c ∷ [])) a b d k s)

pub congruences_end : (cs : List Constraint) (i : ℕ) (a b : Base) → length cs ≤ i → Sweeps CongruenceMove (congruences_of (take i cs)) a b → Sweeps CongruenceMove (congruences_of cs) a b
congruences_end cs i a b l s = subst (λ (xs : List Constraint). Sweeps CongruenceMove (congruences_of xs) a b) (take_all i cs l) s

pub congruences_refused : (h : ℤ) (cs : List Constraint) (i : ℕ) (c : Constraint) (a b : Base) → i < length cs → c ≡ get_or cs i c → Sweeps CongruenceMove (congruences_of (take i cs)) a b → SomeCongruenceLarge h (congruences_of (c ∷ [])) b → SomeCongruenceLarge h (congruences_of cs) a
congruences_refused h cs i c a b l e s k =
    let rest = drop (suc i) cs in
    let split : cs ≡ take i cs ++ c ∷ rest = sym (take-append-drop i cs) ∙ ap (λ (xs : List Constraint). take i cs ++ xs) (drop-cons cs i c l ∙ ap (λ (x : Constraint). x ∷ rest) (sym e)) in
    let m = k.midway in
    record {
      congruence = k.congruence;
      moment = k.moment;
      midway = record {
        earlier = congruences_of (take i cs) ++ m.earlier;
        later = m.later ++ congruences_of rest;
        whole = ap congruences_of split ∙ congruences-append (take i cs) (c ∷ rest) ∙ ap (λ (gs : List Congruence). congruences_of (take i cs) ++ gs) (congruences-append (c ∷ []) rest ∙ ap (λ (gs : List Congruence). gs ++ congruences_of rest) m.whole)
            ∙ spread (congruences_of (take i cs)) m.earlier m.later (congruences_of rest) k.congruence;
        sweeps = sweeps_append CongruenceMove (congruences_of (take i cs)) m.earlier a b k.moment s m.sweeps;
      };
      large = k.large;
    }
  where
    spread : (xs ys zs ws : List Congruence) (g : Congruence) → xs ++ ((ys ++ g ∷ zs) ++ ws) ≡ (xs ++ ys) ++ g ∷ (zs ++ ws)
    spread [] [] zs ws g = refl
    spread [] (y ∷ ys) zs ws g = ap (λ (us : List Congruence). y ∷ us) (spread [] ys zs ws g)
    spread (x ∷ xs) ys zs ws g = ap (λ (us : List Congruence). x ∷ us) (spread xs ys zs ws g)

pub err_map : {A E : Type 0} (P Q : E → Type 0) → ((e : E) → P e → Q e) → (r : Result A E) → IfErr r P → IfErr r Q
err_map P Q f (Ok a) k = k
err_map P Q f (Err e) k = f e k

-- numbers up to 0 have room
pub at_least : {h : ℤ} {fits : ℤ → Type 0} → HasRoom h fits → pos 0 ≤ℤ h
at_least room = let one = room.at_least in omega (arith, ints, one)
