-- From the causes of the parts to those of the whole.
use Rattle.std.proofs.Common.{◌≡◌, ℕ, ◌<◌, List, [], length, get_or, ℤ, subst, subst₂, sym, refl}
use Rattle.std.specs.List.{AllByRecursion as Each, Contains}
use Rattle.nz_spec.specs.Vectors.{Vector}
use Rattle.nz_spec.specs.Covers.{vectors_at}
use Rattle.nz_spec.specs.Order.{IsListOf, IsLexBefore}
use Rattle.nz_spec.proofs.ListLaws.{Each-weaker}
use Rattle.nz_vec.specs.declared.answers.Num.{Num}
use Rattle.nz_vec.specs.declared.answers.Num.TheVariants as num
use Rattle.nz_vec.specs.declared.answers.Work.{Work}
use Rattle.nz_vec.specs.declared.answers.Work.TheVariants.{Range, TooMany, Stopped, NoMemory}
use Rattle.nz_classes.specs.Walks as walks
use Rattle.nz_watch.specs.Telling.{Watched}
use Rattle.nz_cover.specs.Placing.{IsPlaceRefusal, IsTooLargeToPlace}
use Rattle.nz_reducer.specs.Reducers.{IsUnreduced}
use Rattle.nz_primal.specs.Parts.{WhereRange, SomeWalkLarge, IsFirstRefusal, IsLastRefusal}

pub where_map : (P Q : Type 0) → (P → Q) → (e : Work) → WhereRange P e → WhereRange Q e
where_map P Q f (Range told) p = f p
where_map P Q f TooMany p = tt
where_map P Q f (Stopped stage) p = tt
where_map P Q f NoMemory p = tt

pub where_first : (P : Type 0) (r : Num) (told : ℕ) (result : Work) → IsFirstRefusal r told result → (r ≡ num.Range → P) → WhereRange P result
where_first P num.Range told result i f = subst (WhereRange P) (sym i) (f refl)
where_first P num.NoMemory told result i f = subst (WhereRange P) (sym i) tt

pub where_last : (P : Type 0) (e : Work) (told passed : ℕ) (result : Work) → IsLastRefusal e told passed result → WhereRange P e → WhereRange P result
where_last P (Range number) told passed result i p = subst (WhereRange P) (sym i) p
where_last P TooMany told passed result i p = subst (WhereRange P) (sym i) tt
where_last P (Stopped stage) told passed result i p = subst (WhereRange P) (sym i) tt
where_last P NoMemory told passed result i p = subst (WhereRange P) (sym i) tt

pub walk_at : (bound : ℕ) (rays : List Vector) (simplices : List (List ℕ)) (forms : List (List Vector)) (i : ℕ) (places : List ℕ) (fs : List Vector) → i < length simplices → places ≡ get_or simplices i [] → fs ≡ get_or forms i [] → walks.IsTooLarge bound (vectors_at rays places) fs → SomeWalkLarge bound rays simplices forms
walk_at bound rays simplices forms i places fs l e f k = record { place = i; within = l; large = subst₂ (λ (ps : List ℕ) (gs : List Vector). walks.IsTooLarge bound (vectors_at rays ps) gs) e f k }

pub kept_listed : (rows list kept : List Vector) → IsListOf IsLexBefore (IsUnreduced rows list) kept → Each (Contains list) kept
kept_listed rows list kept h = Each-weaker (IsUnreduced rows list) (Contains list) (λ x u. u.candidate) kept h.only

pub walk_where : (bound limit : ℕ) (sides vs forms : List Vector) (e : Work) → sides ≡ vs → walks.IsRefusal bound limit sides forms e → WhereRange (walks.IsTooLarge bound vs forms) e
walk_where bound limit sides vs forms (Range told) s k = subst (λ (us : List Vector). walks.IsTooLarge bound us forms) s k.1
walk_where bound limit sides vs forms TooMany s k = tt
walk_where bound limit sides vs forms (Stopped stage) s k = tt
walk_where bound limit sides vs forms NoMemory s k = tt

pub place_where : (h : ℤ) (w : ℕ) (rays : List Vector) (told : ℕ) (before now : Watched) (e : Work) → IsPlaceRefusal h w rays told before now e → WhereRange (IsTooLargeToPlace h w rays) e
place_where h w rays told before now (Range number) k = k.1
place_where h w rays told before now TooMany k = tt
place_where h w rays told before now (Stopped stage) k = tt
place_where h w rays told before now NoMemory k = tt
