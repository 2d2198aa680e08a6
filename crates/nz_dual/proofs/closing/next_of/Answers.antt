use Rattle.std.proofs.Common.{◌<◌, ◌^◌, ℕ, List, sym, subst}
use Rattle.std.specs.List.{AllByRecursion as Each}
use Rattle.nz_dual.specs.PairSums.{IsNext}
use Rattle.nz_dual.proofs.SumLemmas.{next_of_classes}
use Rattle.nz_dual.proofs.closing.next_of.Goals as goal

pub next_degree-requires-clause-firsts : goal.next_degree-requires-clause-firsts
next_degree-requires-clause-firsts g c = subst (Each (λ d. d < 2 ^ 127)) (sym c.classes.ensures.value) c.classes.ensures.small

pub next_degree-requires-clause-seconds : goal.next_degree-requires-clause-seconds
next_degree-requires-clause-seconds g c = subst (Each (λ d. d < 2 ^ 127)) (sym c.classes-2.ensures.value) c.classes-2.ensures.small

pub returns : goal.returns
returns g c = next_of_classes c.args.last c.args.up.now.degrees c.args.down.now.degrees c.args.up.now.classes c.args.down.now.classes c.next_degree.result c.classes.ensures.all c.classes-2.ensures.all
    (subst (λ (ds : List ℕ). IsNext c.args.last ds c.args.down.now.classes c.next_degree.result) c.classes.ensures.value
    (subst (λ (ds : List ℕ). IsNext c.args.last c.classes.result.now ds c.next_degree.result) c.classes-2.ensures.value c.next_degree.ensures))
