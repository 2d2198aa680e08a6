use Rattle.std.proofs.Common.{[], ◌∙◌, sym, ap, append-nil, Some}
use Rattle.std.specs.List.{flat_map}
use Rattle.nz_blocks.specs.AskedLines.{asked_line}
use Rattle.nz_blocks.proofs.Readings.{some_none}
use Rattle.nz_blocks.proofs.AskedReadings.{no_asked, has_asked}
use Rattle.nz_blocks.proofs.reading_asked.asked_at_end.Goals as goal

pub returns-in-None : goal.returns-in-None
returns-in-None c = λ level xs held e. no_asked c.as_slice.result.now _ c.args.size level xs c.as_slice.ensures held e c.in-None.ensures.found

pub returns-in-Ok : goal.returns-in-Ok
returns-in-Ok c = λ level xs held e.
    let there = has_asked c.as_slice.result.now _ c.args.size level xs c.as_slice.ensures held e (λ n. some_none _ (c.in-Some.ensures.absent n)) in
    let count = c.in-Some.ensures.found _ (flat_map (asked_line level) there.list) there.held.count there.headed there.is in
    let list = c.in-Ok.ensures level there.list [] there.held.each (sym count.0) (count.1 ∙ sym (append-nil (flat_map (asked_line level) there.list))) in
    ap (λ l. Some l) list ∙ there.named

pub returns-in-Err : goal.returns-in-Err
returns-in-Err c = λ level xs held e.
    let there = has_asked c.as_slice.result.now _ c.args.size level xs c.as_slice.ensures held e (λ n. some_none _ (c.in-Some.ensures.absent n)) in
    let count = c.in-Some.ensures.found _ (flat_map (asked_line level) there.list) there.held.count there.headed there.is in
    c.in-Err.ensures level there.list [] there.held.each (sym count.0) (count.1 ∙ sym (append-nil (flat_map (asked_line level) there.list)))
