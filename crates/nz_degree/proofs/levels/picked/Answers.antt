use Rattle.std.proofs.Common.{◌<◌, ◌+◌, List, [], length, take, sym, subst, arith}
use Rattle.nz_spec.specs.Vectors.{Vector}
use Rattle.nz_spec.proofs.ListLaws.{each_at}
use Rattle.nz_order.specs.Picks.{Picks, none}
use Rattle.nz_degree.specs.Levels.{IsOnSide, HasEntry}
use Rattle.nz_degree.proofs.DegreeLists.{picked_next, left_next, picked_all}
use Rattle.nz_degree.proofs.levels.picked.Goals as goal
use Rattle.nz_degree.proofs.levels.picked.Goals.{then-is_on_side+in_ok-try_copy+in_ok-push, else-is_on_side}

pub loop-place-init : goal.loop-place-init
loop-place-init g c = subst (λ (xs : List Vector). Picks (IsOnSide c.args.there (g.T.Scalar.integer c.args.level)) (take 0 c.args.list.now) xs) (sym c.new-picked.ensures) none

pub is_on_side-requires : goal.is_on_side-requires
is_on_side-requires g c =
    let l : c.loop-place.place < length c.args.list.now = omega (arith, c.len-place-end.ensures) in
    subst HasEntry (sym c.at-row.ensures) (each_at HasEntry c.args.list.now c.loop-place.place [] c.requires l)

pub loop-place-preserved : goal.loop-place-preserved
loop-place-preserved g c =
    let Q = IsOnSide c.args.there (g.T.Scalar.integer c.args.level) in
    let list = c.args.list.now in
    let l : c.loop-place.place < length list = omega (arith, c.len-place-end.ensures) in
    elim c.if-is_on_side.branch [
      | then-is_on_side+in_ok-try_copy+in_ok-push w ↦
          subst (Picks Q (take (c.loop-place.place + 1) list)) (sym w.picked-is)
          (picked_next Q list c.loop-place.picked w.push.new.self c.loop-place.place c.at-row.result.now w.in_ok-try_copy.field-0 l c.at-row.ensures w.if-is_on_side.ensures w.in_ok-try_copy.ensures w.in_ok-push.ensures.ok c.loop-place.invariant)
      | else-is_on_side w ↦
          subst (Picks Q (take (c.loop-place.place + 1) list)) (sym w.picked-is)
          (left_next Q list c.loop-place.picked c.loop-place.place c.at-row.result.now l c.at-row.ensures w.if-is_on_side.ensures c.loop-place.invariant)
    ]

pub returns : goal.returns
returns g c = picked_all (IsOnSide c.args.there (g.T.Scalar.integer c.args.level)) c.args.list.now c.loop-place.picked c.loop-place.place (omega (arith, c.len-place-end.ensures)) c.loop-place.invariant
