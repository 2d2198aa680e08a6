-- What a run writes to the console.
use Rattle.std.proofs.Common.{◌≡◌, ℕ, inl, inr, ◌+◌, ◌*◌, List, ◌++◌, length, ℤ, pos, refl, sym, ap, ◌∙◌, subst, arith, Option, Some, None, Bool, true, false}
use Rattle.std.specs.Prelude.{IsFalse, decimal}
use Rattle.std.specs.Fmt.{signed_decimal}
use Rattle.std.proofs.lemmas.List.{take_all}
use Rattle.nz_vec.specs.Texts.{Text}
use Rattle.nz_spec.specs.Vectors.{Vector}
use Rattle.nz_edge.specs.Folders.{BothTold}
use Rattle.nz_edge.specs.Answers.{PutAll}
use Rattle.nz_watch.specs.Counts.{Rose, IsQuiet}
use Rattle.nz_make.specs.Squares.{sum_of_all}
use Rattle.nz_make.specs.Laws.{PointsAreCounted}
use Rattle.nz_words.specs.Orders.{OrderData, IsOrder}
use Rattle.nz_run.specs.declared.status.Status.{Status}
use Rattle.nz_run.specs.declared.status.Status.TheVariants.{Done, Usage, Absent, ReadFault, TooLong, Grammar, Meaning, Line, Grade, Range, TooMany, Stopped, WriteFault, NoMemory, Converted, UnitsDone, Points, Unbounded}
use Rattle.nz_run.specs.Statuses.{status_line}
use Rattle.nz_run.specs.Runs.{IsSideOf}
use Rattle.nz_run.specs.Summaries.{counted_line, summary_line, DonePrints, Prints, PutsLines, known_line, known_lines}
use Rattle.nz_run.proofs.Composing.{told_weaker}

rose_loud : (f f' : ℕ) → Rose f f' → IsQuiet f f' → ⊥
rose_loud f f' (inl l) q = (let s = q.same in omega arith)
rose_loud f f' (inr e) q = (let b = q.below in omega arith)

-- ---- the numbers of the Hilbert basis of a made file

natural_decimal : (z : ℤ) (n : ℕ) → z ≡ pos n → signed_decimal z ≡ decimal n
natural_decimal z n e = ap signed_decimal e

known_is_counted : (n : ℕ) (xs : List Vector) → length xs ≡ (n + 1) * (n + 1) → sum_of_all xs ≡ pos ((n + 1) * ((n + 1) * (n + 1))) → known_line n ≡ summary_line n xs
known_is_counted n xs count sum =
    ap (λ (k : ℕ). counted_line n k (decimal ((n + 1) * ((n + 1) * (n + 1))))) (sym count)
    ∙ ap (counted_line n (length xs)) (sym (natural_decimal (sum_of_all xs) ((n + 1) * ((n + 1) * (n + 1))) sum))

done_prints : PointsAreCounted → (side : Option ℕ) → IsSideOf side → DonePrints side (known_lines side Done)
done_prints law None h = refl
done_prints law (Some n) h =
    let known = (law n h.0).0 in
    (known.0, known.1.basis, ap (λ (t : Text). status_line Done ++ t) (known_is_counted n known.0 known.1.count known.1.sum))

-- after Done comes the summary
pub known_done : (side : Option ℕ) (n : ℕ) (status : Status) → side ≡ Some n → status ≡ Done → status_line status ++ known_line n ≡ known_lines side status
known_done side n status e f = rw (e, f) refl

-- no summary comes where the run is not done
pub known_other : (n : ℕ) (status : Status) → (status ≡ Done → ⊥) → status_line status ≡ known_lines (Some n) status
known_other n Done h = absurd (h refl)
known_other n Usage h = refl
known_other n Absent h = refl
known_other n ReadFault h = refl
known_other n TooLong h = refl
known_other n (Grammar l k g) h = refl
known_other n (Meaning l k g) h = refl
known_other n (Line v) h = refl
known_other n (Grade v) h = refl
known_other n Range h = refl
known_other n TooMany h = refl
known_other n (Stopped k) h = refl
known_other n WriteFault h = refl
known_other n NoMemory h = refl
known_other n Converted h = refl
known_other n UnitsDone h = refl
known_other n Points h = refl
known_other n (Unbounded v) h = refl

-- ---- what is written is what is to be printed

prints : PointsAreCounted → (words : List Text) (side : Option ℕ) → IsSideOf side → (status : Status) → (status ≡ Done → (order : OrderData) × IsOrder words order × (order.make ≡ side)) → Prints words status (known_lines side status)
prints law words side h Done ordered = (let o = ordered refl in (o.0, o.1, subst (λ (m : Option ℕ). DonePrints m (known_lines side Done)) (sym o.2) (done_prints law side h)))
prints law words None h Usage ordered = refl
prints law words (Some n) h Usage ordered = refl
prints law words None h Absent ordered = refl
prints law words (Some n) h Absent ordered = refl
prints law words None h ReadFault ordered = refl
prints law words (Some n) h ReadFault ordered = refl
prints law words None h TooLong ordered = refl
prints law words (Some n) h TooLong ordered = refl
prints law words None h (Grammar l k g) ordered = refl
prints law words (Some n) h (Grammar l k g) ordered = refl
prints law words None h (Meaning l k g) ordered = refl
prints law words (Some n) h (Meaning l k g) ordered = refl
prints law words None h (Line v) ordered = refl
prints law words (Some n) h (Line v) ordered = refl
prints law words None h (Grade v) ordered = refl
prints law words (Some n) h (Grade v) ordered = refl
prints law words None h Range ordered = refl
prints law words (Some n) h Range ordered = refl
prints law words None h TooMany ordered = refl
prints law words (Some n) h TooMany ordered = refl
prints law words None h (Stopped k) ordered = refl
prints law words (Some n) h (Stopped k) ordered = refl
prints law words None h WriteFault ordered = refl
prints law words (Some n) h WriteFault ordered = refl
prints law words None h NoMemory ordered = refl
prints law words (Some n) h NoMemory ordered = refl
prints law words None h Converted ordered = refl
prints law words None h UnitsDone ordered = refl
prints law words None h Points ordered = refl
prints law words None h (Unbounded v) ordered = refl
prints law words (Some n) h Converted ordered = refl
prints law words (Some n) h UnitsDone ordered = refl
prints law words (Some n) h Points ordered = refl
prints law words (Some n) h (Unbounded v) ordered = refl

pub puts_lines : PointsAreCounted → (words : List Text) (r : Bool) (f f' : ℕ) (status : Status) (side : Option ℕ) (o n : Option Text) → IsSideOf side → (status ≡ Done → (order : OrderData) × IsOrder words order × (order.make ≡ side)) → (IsFalse r → Rose f f') → BothTold o n (λ old new. PutAll old new (known_lines side status) r) → BothTold o n (PutsLines words f f' status)
puts_lines law words r f f' status side o n within ordered cause h = told_weaker o n (λ old new. PutAll old new (known_lines side status) r) (PutsLines words f f' status) h (go r cause)
  where
    shown : Prints words status (known_lines side status)
    shown = prints law words side within status ordered

    go : (r : Bool) → (IsFalse r → Rose f f') → (a b : Text) → PutAll a b (known_lines side status) r → PutsLines words f f' status a b
    go true cause a b p = record { printed = known_lines side status; prints = shown; whole = λ q. p; part = (length (known_lines side status), p ∙ ap (λ (t : Text). a ++ t) (sym (take_all (length (known_lines side status)) (known_lines side status) (omega arith)))) }
    go false cause a b p = record { printed = known_lines side status; prints = shown; whole = λ q. absurd (rose_loud f f' (cause refl) q); part = p }
