use Rattle.nz_facets.proofs.SupportLemmas.{described}
use Rattle.nz_facets.proofs.describing.describe.Goals as goal

pub returns : goal.returns
returns g c = described c.args.width c.args.gens.now c.in-Ok-support_forms.support c.in-Ok.equations.forms c.requires c.in-Ok-support_forms.ensures c.in-Ok.ensures.equations
