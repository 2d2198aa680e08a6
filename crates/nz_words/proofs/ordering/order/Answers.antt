use Rattle.std.proofs.Common.{◌∙◌, ap, sym, subst}
use Rattle.std.proofs.lemmas.Result.{MatchResult-weaker}
use Rattle.nz_words.specs.Parts.{bytes_of_each}
use Rattle.nz_words.specs.Orders.{GivenData, IsOrderOf}
use Rattle.nz_words.specs.Rules.{given_in, AreFlags}
use Rattle.nz_words.proofs.Meeting.{ordered_is_found, found_is_ordered, taken_flags}
use Rattle.nz_words.proofs.ordering.order.Goals as goal

pub returns-in-Err : goal.returns-in-Err
returns-in-Err c = λ usage o h. c.in-Err.ensures usage (ordered_is_found (bytes_of_each c.args.words.now) o h).0

pub all_given-requires : goal.all_given-requires
all_given-requires c = subst AreFlags (sym c.in-Ok.ensures.0) (taken_flags (bytes_of_each c.args.words.now) c.in-Ok.ensures.1)

pub returns-in-Ok-all_given : goal.returns-in-Ok-all_given
returns-in-Ok-all_given c =
    let words = bytes_of_each c.args.words.now in
    let same = c.in-Ok-all_given.ensures ∙ ap given_in c.in-Ok.ensures.0 in
    MatchResult-weaker c.order_of.result c.order_of.ensures
    (λ o h. found_is_ordered words o c.in-Ok.ensures.1 (subst (λ (g : GivenData). IsOrderOf g o) same h))
    (λ e h usage o ordered. h usage o (subst (λ (g : GivenData). IsOrderOf g o) (sym same) (ordered_is_found words o ordered).1))
