-- The last nonzero entry of a vector, and the columns of the vectors that elimination leaves.
use Rattle.std.proofs.Common.{◌≡◌, ◌≢◌, ⊎_elim, ℕ, zero, suc, ◌<◌, ◌≤◌, List, [], ◌∷◌, length, map, ℤ, pos, refl, sym, ap, ap₂, ◌∙◌, subst, arith}
use Rattle.std.proofs.lemmas.Int.{ints}
use Rattle.std.proofs.lemmas.Bool.{cases_lt}
use Rattle.std.specs.List.{AllByRecursion as Each, AllZip}
use Rattle.nz_spec.specs.Vectors.{Vector, entry, HasWidth, IsZero, IsPrimitive}
use Rattle.std.proofs.Common.{false}
use Rattle.std.specs.Prelude.{IsTrue}
use Rattle.nz_spec.proofs.IntLaws.{int_cases}
use Rattle.nz_pointed.proofs.SignLemmas.{not_true}
use Rattle.nz_spec.specs.Order.{IsListOf}
use Rattle.nz_spec.specs.Forms.{IsOtherColumn, AreEquations}
use Rattle.nz_linear.specs.DualPairs.{Pair}
use Rattle.nz_linear.specs.Echelon.{EndsAt}
use Rattle.nz_linear.proofs.KeyColumns.{IsLeft, all_left, own_entry, columns_are_other, equations_of_left}
use Rattle.nz_linear.proofs.Lists.{map_each}
use Rattle.nz_pointed.specs.Pointed.{AreEquationsWith}
use Rattle.nz_pointed.specs.Elimination.{IsElimination}
use Rattle.nz_pointed.proofs.AnswerLemmas.{own_parts}

pub past_end : (x : Vector) (k : ℕ) → length x ≤ k → entry x k ≡ pos 0
past_end [] k l = refl
past_end (a ∷ x) zero l = absurd (omega (arith, l))
past_end (a ∷ x) (suc k) l = past_end x k (omega (arith, l))

-- what is not known to be other than 0 is 0
pub zero_of_false : (a : ℤ) → (a ≢ pos 0 → IsTrue false) → a ≡ pos 0
zero_of_false a h = ⊎_elim (λ e. e) (λ c. absurd (not_true (h (λ e. ⊎_elim (λ p. omega (arith, ints, p, e)) (λ p. omega (arith, ints, p, e)) c)))) (int_cases a)

-- an entry that is 0 before entries that are 0
pub one_less : (x : Vector) (old new : ℕ) (a : ℤ) → old ≡ suc new → a ≡ entry x new → a ≡ pos 0 → ((k : ℕ) → old ≤ k → entry x k ≡ pos 0) → (k : ℕ) → new ≤ k → entry x k ≡ pos 0
one_less x old new a o e z h k l = ⊎_elim (λ b. h k (omega (arith, o, b))) (λ b. let s : new ≡ k = omega (arith, l, b) in subst (λ (t : ℕ). entry x t ≡ pos 0) s (sym e ∙ z)) (cases_lt new k)

pub no_entry : (x : Vector) → ((k : ℕ) → entry x k ≡ pos 0) → IsZero x
no_entry [] h = tt
no_entry (a ∷ x) h = (h zero, no_entry x (λ k. h (suc k)))

pub ends_at : (x : Vector) (old new : ℕ) (a : ℤ) → old ≡ suc new → a ≡ entry x new → a ≢ pos 0 → ((k : ℕ) → old ≤ k → entry x k ≡ pos 0) → EndsAt new x
ends_at x old new a o e n h = record { nonzero = λ z. n (e ∙ z); after = λ k l. h k (omega (arith, o, l)) }

same_end : (a b : ℕ) (x : Vector) → EndsAt a x → EndsAt b x → a ≡ b
same_end a b x p q = ⊎_elim (λ l. absurd (q.nonzero (p.after b l))) (λ l. ⊎_elim (λ m. absurd (p.nonzero (q.after a m))) (λ m. omega (arith, l, m)) (cases_lt b a)) (cases_lt a b)

same_ends : (xs : List Vector) (cs ds : List ℕ) → AllZip (λ x c. EndsAt c x) xs cs → AllZip (λ x c. EndsAt c x) xs ds → cs ≡ ds
same_ends [] [] [] p q = refl
same_ends [] [] (b ∷ ds) p q = absurd q
same_ends [] (a ∷ cs) ds p q = absurd p
same_ends (x ∷ xs) [] ds p q = absurd p
same_ends (x ∷ xs) (a ∷ cs) [] p q = absurd q
same_ends (x ∷ xs) (a ∷ cs) (b ∷ ds) p q = ap₂ (λ c t. c ∷ t) (same_end a b x p.0 q.0) (same_ends xs cs ds p.1 q.1)

left_ends : (w : ℕ) (rows : List Vector) (columns : List ℕ) (free : List Pair) → AllZip (IsLeft w rows) columns free → AllZip (λ x c. EndsAt c x) (map (λ (p : Pair). p.vector) free) columns
left_ends w rows [] [] z = tt
left_ends w rows [] (p ∷ free) z = absurd z
left_ends w rows (c ∷ columns) [] z = absurd z
left_ends w rows (c ∷ columns) (p ∷ free) z = (record { nonzero = λ e. let o = own_entry w rows c p z.0 in omega (arith, ints, o, e); after = z.0.column.after }, left_ends w rows columns free z.1)

ends_length : (xs : List Vector) (cs : List ℕ) → AllZip (λ x c. EndsAt c x) xs cs → length xs ≡ length cs
ends_length [] [] z = refl
ends_length [] (c ∷ cs) z = absurd z
ends_length (x ∷ xs) [] z = absurd z
ends_length (x ∷ xs) (c ∷ cs) z = ap suc (ends_length xs cs z.1)

-- the vectors left are the equations, and end at their columns
pub equations_held : (w : ℕ) (rows : List Vector) (places columns : List ℕ) (chosen left forms : List Vector) → Each (HasWidth w) rows → IsElimination w rows places chosen left → AllZip (λ x c. EndsAt c x) left columns → forms ≡ left → AreEquationsWith w rows columns forms
equations_held w rows places columns chosen left forms l e z is =
    let vectors = map (λ (p : Pair). p.vector) e.free in
    let held : AllZip (λ x c. EndsAt c x) left e.columns = subst (λ (xs : List Vector). AllZip (λ x c. EndsAt c x) xs e.columns) e.same_left (left_ends w rows e.columns e.free (all_left w rows e.columns e.pairs e.free e.state e.column_pairs)) in
    let parts = own_parts e.free (map_each (λ (p : Pair). p.vector) IsPrimitive e.free (subst (Each IsPrimitive) (sym e.same_left) e.primitive_left)) in
    record {
      others = subst (IsListOf ◌<◌ (IsOtherColumn w rows)) (same_ends left e.columns columns held z) (columns_are_other w rows e.columns e.pairs e.free l e.state e.column_pairs);
      equations = subst (AreEquations w rows) (e.same_left ∙ sym is) (equations_of_left w rows e.columns e.pairs e.free vectors l e.state e.column_pairs parts);
      one_each = ap length is ∙ ends_length left columns z;
    }
