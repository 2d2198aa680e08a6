-- What is answered of asked vectors, in the words of a system; and that there is one answer.
use Rattle.std.proofs.Common.{◌≡◌, suc, ◌+◌, ◌-◌, List, [], ◌∷◌, ◌++◌, length, Option, Some, None, IsTrue, Bool, true, false, ℤ, pos, refl, sym, ap, ◌∙◌, subst, arith}
use Rattle.std.proofs.lemmas.Bool.{false≢true}
use Rattle.nz_spec.specs.Vectors.{Vector, HasWidth, level_of}
use Rattle.nz_spec.specs.Systems.{System, IsSystem, IsMember, file_width, asked_member}
use Rattle.nz_spec.specs.Monoids.{IsPositive}
use Rattle.nz_spec.specs.Elements.{IsHilbertBasis, AreModuleGenerators}
use Rattle.nz_spec.specs.Constraints.{Constraint}
use Rattle.nz_member.specs.Replies.{AreElementLists, IsReplyTo}
use Rattle.nz_member.specs.Members.{DescribeMembers}
use Rattle.nz_member.proofs.MemberLists.{basis_is_list, modules_are_lists, parts_of_members}
use Rattle.nz_member.specs.declared.reply.Reply.{Reply}
use Rattle.nz_member.specs.declared.reply.Reply.TheVariants.{Parts, Outside}
use Rattle.nz_frame.specs.Constraining.{AreAllConstraints}
use Rattle.nz_solve.specs.Replies.{IsWhere, IsReplyOf}
use Rattle.nz_frame.proofs.GroupLaws.{constraints_tell_members}

-- the constraints describe the members
pub describes : (s : System) → IsSystem s → (cs : List Constraint) → AreAllConstraints s cs → DescribeMembers s cs
describes s is cs a x = (
  (λ h. (constraints_tell_members s is cs a x h.width).0 h.met),
  (λ m. record { width = m.width; met = (constraints_tell_members s is cs a x m.width).1 m }),
)

-- the lists of the system are the element lists of its constraints
element_lists : (s : System) → IsSystem s → IsPositive (IsMember s) → (cs : List Constraint) → AreAllConstraints s cs → (hilbert : List Vector) (modules : Option (List Vector)) (level : Bool) → s.level ≡ level → IsHilbertBasis s hilbert → IsWhere level (AreModuleGenerators s) modules → (x : Vector) → HasWidth s.width x → (IsTrue level → level_of x ≡ pos 1) → AreElementLists cs x hilbert modules
element_lists s is positive cs a hilbert (Some modules) true e basis m x l one = modules_are_lists s is e cs (describes s is cs a) positive hilbert modules basis m x l (one refl)
element_lists s is positive cs a hilbert None true e basis m x l one = absurd m
element_lists s is positive cs a hilbert modules false e basis m x l one = subst (λ (o : Option (List Vector)). AreElementLists cs x hilbert o) (sym m) (basis_is_list s e cs (describes s is cs a) positive hilbert basis x l)

-- the reply of the constraints is the reply of the system, of a vector that has level 1 where there is a level
pub reply_of : {T : Type 0} (integer : T → ℤ) (s : System) → IsSystem s → IsPositive (IsMember s) → (cs : List Constraint) → AreAllConstraints s cs → (hilbert : List Vector) (modules : Option (List Vector)) → IsHilbertBasis s hilbert → IsWhere s.level (AreModuleGenerators s) modules
    → (x : Vector) → HasWidth s.width x → (IsTrue s.level → level_of x ≡ pos 1) → (reply : Reply T) → IsReplyTo integer cs x hilbert modules reply → IsReplyOf integer s hilbert modules x reply
reply_of integer s is positive cs a hilbert modules basis m x l one (Parts place counts) h =
    let c = h.parts (element_lists s is positive cs a hilbert modules s.level refl basis m x l one) in
    record {
      member = (constraints_tell_members s is cs a x l).0 h.met;
      times = c.times;
      counted = c.counted;
      parts = parts_of_members s cs (describes s is cs a) x l hilbert modules c.times place c.parts;
    }
reply_of integer s is positive cs a hilbert modules basis m x l one (Outside c) h = record { constraints = cs; are_all = a; first = h }

-- ---- an asked vector with its level
last_level : (x : Vector) (l : ℤ) → level_of (x ++ l ∷ []) ≡ l
last_level [] l = refl
last_level (a ∷ []) l = refl
last_level (a ∷ b ∷ x) l = last_level (b ∷ x) l

joined_length : (x : Vector) (l : ℤ) → length (x ++ l ∷ []) ≡ length x + 1
joined_length [] l = refl
joined_length (a ∷ x) l = ap suc (joined_length x l) ∙ omega arith

pub asked_wide : (s : System) → IsSystem s → (x : Vector) → HasWidth (file_width s) x → HasWidth s.width (asked_member s x)
asked_wide s is x l = by s.level refl
  where
    by : (b : Bool) → s.level ≡ b → HasWidth s.width (asked_member s x)
    by true e =
        let w : file_width s ≡ s.width - 1 = ap (λ b. elim b [ true ↦ s.width - 1 | false ↦ s.width ]) e in
        let n = is.at_least in
        let k = joined_length x (pos 1) in
        subst (λ (b : Bool). HasWidth s.width (elim b [ true ↦ x ++ pos 1 ∷ [] | false ↦ x ])) (sym e) (omega (arith, k, l, w, n))
    by false e =
        let w : file_width s ≡ s.width = ap (λ b. elim b [ true ↦ s.width - 1 | false ↦ s.width ]) e in
        subst (λ (b : Bool). HasWidth s.width (elim b [ true ↦ x ++ pos 1 ∷ [] | false ↦ x ])) (sym e) (l ∙ w)

pub asked_level : (s : System) (x : Vector) → IsTrue s.level → level_of (asked_member s x) ≡ pos 1
asked_level s x t = by s.level refl
  where
    by : (b : Bool) → s.level ≡ b → level_of (asked_member s x) ≡ pos 1
    by true e = subst (λ (b : Bool). level_of (elim b [ true ↦ x ++ pos 1 ∷ [] | false ↦ x ]) ≡ pos 1) (sym e) (last_level x (pos 1))
    by false e = absurd (false≢true (subst IsTrue e t))

-- so the reply of the constraints at an asked vector with its level is the reply of the system
pub asked_reply : {T : Type 0} (integer : T → ℤ) (s : System) → IsSystem s → IsPositive (IsMember s) → (cs : List Constraint) → AreAllConstraints s cs → (hilbert : List Vector) (modules : Option (List Vector)) → IsHilbertBasis s hilbert → IsWhere s.level (AreModuleGenerators s) modules
    → (x : Vector) → HasWidth (file_width s) x → (reply : Reply T) → IsReplyTo integer cs (asked_member s x) hilbert modules reply → IsReplyOf integer s hilbert modules (asked_member s x) reply
asked_reply integer s is positive cs a hilbert modules basis m x l reply h = reply_of integer s is positive cs a hilbert modules basis m (asked_member s x) (asked_wide s is x l) (asked_level s x) reply h
