-- What a watch was told, after all stages, and by two calls one after the other.
use Rattle.std.proofs.Common.{◌≡◌, inl, inr, ℕ, max, List, length, false, sym, ap, ◌∙◌}
use Rattle.nz_spec.specs.Systems.{System}
use Rattle.nz_watch.specs.Watching.{Pair}
use Rattle.nz_watch.specs.Telling.{Watched, HasPassedAll, HasLeft}
use Rattle.nz_input.specs.declared.kind.Mode.{Mode}
use Rattle.nz_primal.proofs.RunLemmas.{passed_where}
use Rattle.nz_solve.specs.Solutions.{AreToldOf, WasToldSome, HasLeftWithin, LeavesWith}

-- with a number or without
pub some_left : (mode : Mode) (s : System) (limit told number : ℕ) (before now : Watched) → LeavesWith mode s limit told number before now → WasToldSome mode s told before now
some_left mode s limit told number before now (inl p) = inl p.1
some_left mode s limit told number before now (inr l) = inr (l.left.passed, l.left.telling)

-- all told is some told
pub some_of_all : (mode : Mode) (s : System) (told : ℕ) (a c : Watched) → HasPassedAll (AreToldOf mode s) told a c → WasToldSome mode s told a c
some_of_all mode s told a c h = inr (h.passed, h.telling)

-- the number after all stages
pub left_of_all : (Stages : List Pair → Type 0) (told number count : ℕ) (a c : Watched) → HasPassedAll Stages told a c → ((ps : List Pair) → Stages ps → length ps ≡ count) → number ≡ max told count → HasLeft Stages told number a c
left_of_all Stages told number count a c h law e = record { passed = h.passed; telling = h.telling; is_greater = e ∙ ap (λ n. max told n) (sym (law h.telling.stages h.telling.are_stages) ∙ sym h.all) }

pub left_where : (P Q : List Pair → Type 0) → ((ps : List Pair) → P ps → Q ps) → (told number : ℕ) (a c : Watched) → HasLeft P told number a c → HasLeft Q told number a c
left_where P Q f told number a c h = record { passed = h.passed; telling = passed_where P Q f told h.passed a c false h.telling; is_greater = h.is_greater }

pub left_same : (mode : Mode) (s : System) (limit told number other : ℕ) (a c : Watched) → other ≡ number → HasLeftWithin mode s limit told number a c → HasLeftWithin mode s limit told other a c
left_same mode s limit told number other a c e h = record { left = record { passed = h.left.passed; telling = h.left.telling; is_greater = e ∙ h.left.is_greater }; not_crowded = h.not_crowded }
