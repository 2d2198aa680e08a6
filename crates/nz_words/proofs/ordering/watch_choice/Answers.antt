use Rattle.std.proofs.Common.{rules, inl, inr, refl}
use Rattle.nz_words.proofs.ordering.watch_choice.Goals as goal

pub returns-in-Ok : goal.returns-in-Ok
returns-in-Ok c = inl (record { order = c.in-Ok.order; ordered = c.in-Ok.ensures; same_verbose = search rules; same_stages = search rules })

pub returns-in-Err-Usage : goal.returns-in-Err-Usage
returns-in-Err-Usage c = inr (c.in-Err-Usage.ensures c.in-Err-Usage.field-0-is, refl, refl)
