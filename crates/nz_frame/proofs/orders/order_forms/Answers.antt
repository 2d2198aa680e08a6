use Rattle.std.proofs.Common.{map, ap, ◌∙◌}
use Rattle.nz_linear.specs.Coordinates.{in_coordinates}
use Rattle.nz_frame.proofs.OrderLemmas.{forms_wide}
use Rattle.nz_frame.proofs.orders.order_forms.Goals as goal

pub all_pulled-requires : goal.all_pulled-requires
all_pulled-requires g c = forms_wide c.args.width c.args.base.now.width c.args.grading.now c.in-Ok.forms c.requires.width c.requires.grading c.in-Ok.ensures

pub returns-in-Ok-all_pulled-clause-pulled : goal.returns-in-Ok-all_pulled-clause-pulled
returns-in-Ok-all_pulled-clause-pulled g c = c.in-Ok-all_pulled.ensures ∙ ap (map (λ h. in_coordinates c.args.base.now.vectors h)) c.in-Ok.ensures
