use Rattle.std.proofs.Common.{◌≡◌, ◌<◌, ◌+◌, ℕ, List, [], ◌∷◌, ◌++◌, length, get_or, ap, ◌∙◌, sym, subst, arith}
use Rattle.std.specs.Prelude.{slice_set}
use Rattle.std.proofs.lemmas.List.{get_or_default}
use Rattle.nz_dual.specs.DegreeClasses.{ClassLists, AreClasses}
use Rattle.nz_dual.proofs.ClassLemmas.{classes_extended}
use Rattle.nz_dual.proofs.classes.DegreeClasses.extend.Goals as goal

pub invariant_of-self-2 : goal.invariant_of-self-2
invariant_of-self-2 c =
    let ds = c.self.inside.degrees.items in
    let cs = c.self.inside.classes.items in
    let es = c.self.inside.ends.items in
    let ls = c.self.inside.links.items in
    let same = sym (ap (λ (t : ClassLists). t.classes) c.self.view_is) in
    let inside : c.args.class < length cs = subst (λ (ks : List ℕ). c.args.class < length ks) same c.requires.class in
    let has_end : c.args.class < length es = (let k = c.self.invariant.ends_known in omega (arith, k, inside)) in
    let wide : c.len.result ≡ length ds + 1 = omega (arith, c.len.ensures, c.in-Ok-push.ensures.len, c.self.inside.degrees.ok.0) in
    subst (λ (ks : List ℕ). AreClasses ks cs (slice_set es c.args.class c.len.result) c.push_reserved.new.self.items) (sym c.in-Ok-push.ensures.items)
    (subst (AreClasses (ds ++ c.args.degree ∷ []) cs (slice_set es c.args.class c.len.result)) (sym (c.push_reserved.ensures.items ∙ ap (λ (ks : List ℕ). ks ++ c.index.result.now ∷ []) c.reserve.ensures.items ∙ ap (λ (k : ℕ). ls ++ k ∷ []) (c.index.ensures ∙ get_or_default es c.args.class c.index.result.now 0 has_end)))
    (classes_extended ds cs es ls c.args.class c.args.degree c.len.result inside (ap (λ (ks : List ℕ). get_or ks c.args.class 0) (sym same) ∙ c.requires.degree) wide c.self.invariant))
