use Rattle.std.proofs.Common.{ℕ, List, [], ◌∷◌, ◌++◌, Contains, ap, ◌∙◌, sym, subst}
use Rattle.nz_dual.specs.DegreeClasses.{ClassLists, AreClasses}
use Rattle.nz_dual.proofs.ClassLemmas.{classes_begun}
use Rattle.nz_dual.proofs.classes.DegreeClasses.begin.Goals as goal

pub invariant_of-self-2 : goal.invariant_of-self-2
invariant_of-self-2 c =
    let ds = c.self.inside.degrees.items in
    let ls = c.self.inside.links.items in
    let same = ap (λ (t : ClassLists). t.classes) c.self.view_is in
    subst (λ (es : List ℕ). AreClasses ds c.push.new.self.items es ls) (sym (c.push_reserved.ensures.items ∙ ap (λ (es : List ℕ). es ++ 0 ∷ []) c.reserve.ensures.items))
    (subst (λ (cs : List ℕ). AreClasses ds cs (c.self.inside.ends.items ++ 0 ∷ []) ls) (sym c.in-Ok-push.ensures.items)
    (classes_begun ds c.self.inside.classes.items c.self.inside.ends.items ls c.args.degree c.requires.small (λ h. c.requires.new (subst (λ (cs : List ℕ). Contains cs c.args.degree) same h)) c.self.invariant))
