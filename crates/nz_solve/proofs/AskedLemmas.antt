-- The replies to asked vectors, from those of the constraints.
use Rattle.std.proofs.Common.{◌≡◌, ◌++◌, ◌∷◌, [], ◌+◌, ◌<◌, ◌≤◌, ℕ, List, length, take, get_or, ap₂, Option, Some, None, IfSome, Bool, true, false, ℤ, pos, sym, ap, ◌∙◌, subst}
use Rattle.std.specs.Prelude.{FitsSigned}
use Rattle.std.specs.Int.{w128}
use Rattle.std.specs.List.{AllByRecursion as Each, AllZip}
use Rattle.nz_spec.specs.Vectors.{Vector, HasWidth}
use Rattle.nz_spec.specs.Systems.{System, IsSystem, IsMember, file_width, asked_member}
use Rattle.nz_spec.specs.Monoids.{IsPositive, IsModuleGenerator}
use Rattle.nz_spec.specs.Elements.{IsHilbertElement, IsHilbertBasis, AreModuleGenerators}
use Rattle.nz_spec.specs.Constraints.{Constraint}
use Rattle.std.proofs.lemmas.List.{take_more, take_all}
use Rattle.std.proofs.lemmas.List.Elements.{Contains-append_right}
use Rattle.std.specs.Prelude.{Contains}
use Rattle.nz_spec.proofs.ListLaws.{Each-contains, contains_here}
use Rattle.nz_linear.proofs.Lists.{each_map}
use Rattle.nz_vec.specs.Conditions.{condition_of}
use Rattle.nz_member.specs.Values.{IsOfWidth}
use Rattle.nz_member.specs.Replies.{IsInMonoid, IsReplyTo, HasItsValue}
use Rattle.nz_member.specs.declared.reply.Reply.{Reply}
use Rattle.nz_member.specs.declared.reply.Reply.TheVariants.{Parts, Outside}
use Rattle.nz_blocks.specs.Outcomes.{Asked, at_level, HasText}
use Rattle.nz_frame.specs.Constraining.{AreAllConstraints}
use Rattle.nz_frame.proofs.ConstraintLists.{all_of_width, members_in_monoid}
use Rattle.nz_solve.specs.Replies.{IsWhere, IsReplyOf, AreReplies}
use Rattle.nz_solve.specs.Parts.{AreElementLists, IsFitting, IsAnswered}
use Rattle.nz_solve.proofs.ReplyLaws.{asked_reply, asked_wide}

-- a vector of the file with its level is an asked vector
pub level_there : (s : System) (level : Bool) → s.level ≡ level → (x : Vector) → at_level level x ≡ asked_member s x
level_there s true e x = sym (ap (λ (b : Bool). elim b [ true ↦ x ++ pos 1 ∷ [] | false ↦ x ]) e)
level_there s false e x = sym (ap (λ (b : Bool). elim b [ true ↦ x ++ pos 1 ∷ [] | false ↦ x ]) e)

-- the asked vectors of a system have the width of the file
pub asked_here : (s : System) → IsSystem s → (xs : List Vector) → s.asked ≡ Some xs → Each (HasWidth (file_width s)) xs
asked_here s is xs e = subst (λ (o : Option (List Vector)). IfSome o (Each (HasWidth (file_width s)))) e is.asked_width

-- the elements of the lists
basis_in_monoid : (s : System) → IsSystem s → (cs : List Constraint) → AreAllConstraints s cs → (hilbert : List Vector) → IsHilbertBasis s hilbert → Each (IsInMonoid s.width cs) hilbert
basis_in_monoid s is cs a hilbert b = members_in_monoid s is cs a hilbert (each_map (IsHilbertElement s) (IsMember s) hilbert (λ x h. h.irreducible.member) b.only)

modules_wide : (s : System) (modules : Option (List Vector)) (level : Bool) → IsWhere level (AreModuleGenerators s) modules → IfSome modules (Each (HasWidth s.width))
modules_wide s (Some xs) true h = each_map (IsModuleGenerator (IsMember s)) (HasWidth s.width) xs (λ x g. g.of_level_one.member.width) h.only
modules_wide s None level h = tt
modules_wide s (Some xs) false h = absurd (let e : Some xs ≡ None = h in cc)

pub all_fitting : (s : System) → IsSystem s → (cs : List Constraint) → AreAllConstraints s cs → (hilbert : List Vector) (modules : Option (List Vector)) → AreElementLists s hilbert modules → (level : Bool) → s.level ≡ level → (xs : List Vector) → Each (HasWidth (file_width s)) xs → Each (IsFitting cs level hilbert modules) xs
all_fitting s is cs a hilbert modules l level e [] w = tt
all_fitting s is cs a hilbert modules l level e (x ∷ xs) w =
    let wide : HasWidth s.width (at_level level x) = subst (HasWidth s.width) (sym (level_there s level e x)) (asked_wide s is x w.0) in (
      record {
        forms = subst (λ (n : ℕ). Each (IsOfWidth n) cs) (sym wide) (all_of_width s is cs a);
        elements = subst (λ (n : ℕ). Each (IsInMonoid n cs) hilbert) (sym wide) (basis_in_monoid s is cs a hilbert l.basis);
        generators = subst (λ (n : ℕ). IfSome modules (Each (HasWidth n))) (sym wide) (modules_wide s modules s.level l.are_modules);
      },
      all_fitting s is cs a hilbert modules l level e xs w.1,
    )

-- ---- texts
text_of_reply : (w : List Constraint) (level : Bool) (x : Vector) (reply : Reply ℤ) → (hilbert : List Vector) (modules : Option (List Vector)) → Each (IsOfWidth (length (at_level level x))) w → IsReplyTo (λ z. z) w (at_level level x) hilbert modules reply → HasItsValue (λ z. z) (FitsSigned w128) (at_level level x) reply → HasText level x reply
text_of_reply cs level x (Parts place counts) hilbert modules l r v = tt
text_of_reply cs level x (Outside c) hilbert modules l r v = record { form = broken_form; value = v }
  where
    broken_form : IsOfWidth (length (at_level level x)) (condition_of (λ z. z) c)
    broken_form = Each-contains (IsOfWidth (length (at_level level x))) cs (condition_of (λ z. z) c) l (subst (λ (ds : List Constraint). Contains ds (condition_of (λ z. z) c)) (sym r.whole) (Contains-append_right r.before (condition_of (λ z. z) c ∷ r.after) (condition_of (λ z. z) c) (contains_here (condition_of (λ z. z) c) r.after)))

-- ---- all replies
module _ (s : System) (is : IsSystem s) (positive : IsPositive (IsMember s)) (cs : List Constraint) (a : AreAllConstraints s cs) (hilbert : List Vector) (modules : Option (List Vector)) (lists : AreElementLists s hilbert modules) (level : Bool) (e : s.level ≡ level) where
  one_reply : (x : Vector) (b : Asked) → HasWidth (file_width s) x → IsAnswered cs level hilbert modules x b → (b.0 ≡ x) × IsReplyOf (λ z. z) s hilbert modules (asked_member s x) b.1
  one_reply x b l h = (h.same, asked_reply (λ z. z) s is positive cs a hilbert modules lists.basis lists.are_modules x l b.1 (subst (λ (y : Vector). IsReplyTo (λ z. z) cs y hilbert modules b.1) (level_there s level e x) h.reply))

  each_reply : (xs : List Vector) (bs : List Asked) → Each (HasWidth (file_width s)) xs → AllZip (IsAnswered cs level hilbert modules) xs bs → AllZip (λ (x : Vector) (b : Asked). (b.0 ≡ x) × IsReplyOf (λ z. z) s hilbert modules (asked_member s x) b.1) xs bs
  each_reply [] [] l z = tt
  each_reply [] (b ∷ bs) l z = absurd z
  each_reply (x ∷ xs) [] l z = absurd z
  each_reply (x ∷ xs) (b ∷ bs) l z = (one_reply x b l.0 z.0, each_reply xs bs l.1 z.1)

  pub all_replies : (xs : List Vector) (bs : List Asked) → Each (HasWidth (file_width s)) xs → AllZip (IsAnswered cs level hilbert modules) xs bs → AreReplies s xs bs
  all_replies xs bs l z = record { hilbert = hilbert; basis = lists.basis; modules = modules; are_modules = lists.are_modules; each = each_reply xs bs l z }

  one_text : (x : Vector) (b : Asked) → HasWidth (file_width s) x → IsAnswered cs level hilbert modules x b → HasText level b.0 b.1
  one_text x b l h =
      let w : HasWidth s.width (at_level level x) = subst (HasWidth s.width) (sym (level_there s level e x)) (asked_wide s is x l) in
      subst (λ (y : Vector). HasText level y b.1) (sym h.same) (text_of_reply cs level x b.1 hilbert modules (subst (λ n. Each (IsOfWidth n) cs) (sym w) (all_of_width s is cs a)) h.reply h.value)

  pub all_texts : (xs : List Vector) (bs : List Asked) → Each (HasWidth (file_width s)) xs → AllZip (IsAnswered cs level hilbert modules) xs bs → Each (λ (b : Asked). HasText level b.0 b.1) bs
  all_texts [] [] l z = tt
  all_texts [] (b ∷ bs) l z = absurd z
  all_texts (x ∷ xs) [] l z = absurd z
  all_texts (x ∷ xs) (b ∷ bs) l z = (one_text x b l.0 z.0, all_texts xs bs l.1 z.1)

-- ---- entry by entry
pub entries_more : (x before after : Vector) (i : ℕ) (a : ℤ) → i < length x → a ≡ get_or x i (pos 0) → before ≡ take i x → after ≡ before ++ a ∷ [] → after ≡ take (i + 1) x
entries_more x before after i a l e h k = k ∙ ap₂ (λ us u. us ++ u ∷ []) h e ∙ sym (take_more x i (pos 0) l)

pub entries_all : (x before : Vector) (i : ℕ) → length x ≤ i → before ≡ take i x → before ≡ x
entries_all x before i l h = h ∙ take_all i x l
