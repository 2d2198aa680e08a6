-- Normal forms: a form that is 0 outside the key columns is known by its values.
use Rattle.std.proofs.Common.{◌≡◌, ℕ, List, ℤ, pos, ◌+ℤ◌, ◌*ℤ◌, neg_ℤ, ◌<ℤ◌, sym, ap₂, ◌∙◌, arith}
use Rattle.std.specs.List.{AllByRecursion as Each}
use Rattle.nz_spec.specs.Vectors.{Vector, dot, plus, scaled, entry, HasWidth, IsZero, IsPrimitive}
use Rattle.nz_spec.specs.Forms.{IsOtherColumn}
use Rattle.nz_spec.proofs.VectorLaws.{dot-scaled, dot-IsZero}
use Rattle.nz_spec.proofs.EquationLaws.{zero_outside_keys}
use Rattle.nz_linear.proofs.Ring.{sums, neg-mul}
use Rattle.nz_linear.proofs.Lists.{each_map2}
use Rattle.nz_linear.proofs.VectorLaws.{length-plus, length-scaled, dot-plus, plus-dot, scaled-dot, same_values}
use Rattle.nz_linear.proofs.Entries.{get_or-combined}
use Rattle.nz_linear.proofs.Division.{primitive_unique}

-- a·f - b·g
abbrev pub difference : ℤ → Vector → ℤ → Vector → Vector
difference a f b g = plus (scaled a f) (scaled (neg_ℤ b) g)

pub difference_value : (w : ℕ) (a : ℤ) (f : Vector) (b : ℤ) (g x : Vector) → HasWidth w f → HasWidth w g → dot (difference a f b g) x ≡ a *ℤ dot f x +ℤ neg_ℤ b *ℤ dot g x
difference_value w a f b g x lf lg =
    plus-dot w (scaled a f) (scaled (neg_ℤ b) g) x (length-scaled w a f lf) (length-scaled w (neg_ℤ b) g lg) ∙ ap₂ ◌+ℤ◌ (scaled-dot a f x) (scaled-dot (neg_ℤ b) g x)

gone : (a x b y : ℤ) → a *ℤ x ≡ b *ℤ y → a *ℤ x +ℤ neg_ℤ b *ℤ y ≡ pos 0
gone a x b y e = omega (arith, sums, e, neg-mul b y)

-- forms that agree on the list and at the other columns, but for factors, are multiples of one another
pub normal_along : (w : ℕ) (G : List Vector) (f g : Vector) (a b : ℤ) → HasWidth w f → HasWidth w g → Each (HasWidth w) G → Each (λ x. a *ℤ dot f x ≡ b *ℤ dot g x) G
    → ((j : ℕ) → IsOtherColumn w G j → a *ℤ entry f j ≡ b *ℤ entry g j) → scaled a f ≡ scaled b g
normal_along w G f g a b lf lg lG on at =
    let d = difference a f b g in
    let ld : HasWidth w d = length-plus w (scaled a f) (scaled (neg_ℤ b) g) (length-scaled w a f lf) (length-scaled w (neg_ℤ b) g lg) in
    let z : IsZero d = zero_outside_keys w G lG d ld
    (each_map2 (HasWidth w) (λ x. a *ℤ dot f x ≡ b *ℤ dot g x) (λ x. dot d x ≡ pos 0) G (λ x l e. difference_value w a f b g x lf lg ∙ gone a (dot f x) b (dot g x) e) lG on)
    (λ j o. get_or-combined a (neg_ℤ b) f g j (lf ∙ sym lg) (let i = o.within in omega arith) ∙ gone a (entry f j) b (entry g j) (at j o)) in
    same_values w (scaled a f) (scaled b g) (length-scaled w a f lf) (length-scaled w b g lg)
    (λ h. let e : dot h d ≡ pos 0 = dot-IsZero h d z in
    omega (arith, sums, e, dot-plus w h (scaled a f) (scaled (neg_ℤ b) g) (length-scaled w a f lf) (length-scaled w (neg_ℤ b) g lg), dot-scaled h (neg_ℤ b) g, dot-scaled h b g, neg-mul b (dot h g)))

-- and if they are primitive, and the factors are positive, they are one
pub normal_unique : (w : ℕ) (G : List Vector) (f g : Vector) (a b : ℤ) → pos 0 <ℤ a → pos 0 <ℤ b → HasWidth w f → HasWidth w g → IsPrimitive f → IsPrimitive g → Each (HasWidth w) G → Each (λ x. a *ℤ dot f x ≡ b *ℤ dot g x) G
    → ((j : ℕ) → IsOtherColumn w G j → a *ℤ entry f j ≡ b *ℤ entry g j) → f ≡ g
normal_unique w G f g a b pa pb lf lg pf pg lG on at = primitive_unique w a b f g pa pb lf lg (normal_along w G f g a b lf lg lG on at) pf pg
