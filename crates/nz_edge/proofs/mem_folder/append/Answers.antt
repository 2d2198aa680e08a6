use Rattle.std.proofs.Common.{refl, arith}
use Rattle.nz_edge.proofs.mem_folder.append.Goals as goal
use Rattle.nz_edge.proofs.mem_folder.append.Goals.{in-Ok-push, in-Err-push}

pub returns-clause-ok : goal.returns-clause-ok
returns-clause-ok c =
    elim c.match-push.branch [
      | in-Ok-push w ↦ rw w.result-is ((c.in-Ok.name, c.args.bytes), grind (arith, c.push.ensures.items), c.in-Ok.ensures.ok, refl)
      | in-Err-push w ↦ rw w.result-is tt
    ]
