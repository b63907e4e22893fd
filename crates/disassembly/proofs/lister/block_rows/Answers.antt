use Rattle.std.proofs.Common.{sym, ap, ◌∙◌}
use Rattle.std.proofs.lemmas.Result.{err_from_is_err_and}
use Rattle.image.specs.Reading.{reader_place}
use Rattle.image.proofs.Walk.{walk_start, walk_got, walk_more, walk_all, walk_done, walk_refused, step_given, step_refused, step_ended}
use Rattle.disassembly.specs.Rows.{block_rows}
use Rattle.disassembly.proofs.Rowing.{blocks_none, blocks_more}
use Rattle.disassembly.proofs.lister.block_rows.Goals as goal

pub loop-block-init : goal.loop-block-init
loop-block-init c =
    let image = c.args.image.now in
    let s = c.in_ok-block-items.block-items in
    let o = c.in_ok-block-items.ensures in
    (s, c.into_iter-block-iterator.ensures.into_iter_gives, walk_start image c.args.ends s o, c.new-rows.ensures.items ∙ sym (blocks_none image _ o.at_first))

pub returns-in_err-block : goal.returns-in_err-block
returns-in_err-block c =
    let i = c.loop-block.invariant in
    let r = c.in_err-block.field-0.0 in
    let step = step_refused _ _ i.0 i.1 r (rw c.in_err-block.was at c.in-Some.ensures.steps) in
    let w = walk_refused c.args.image.now c.args.ends i.0 step.0 i.2 r step.1 in
    let p = err_from_is_err_and c.from_residual-in_err-block.result c.from_residual-in_err-block.ensures.1 in
    rw (p.1, p.2) w.0

pub loop-block-preserved : goal.loop-block-preserved
loop-block-preserved c =
    let image = c.args.image.now in
    let ends = c.args.ends in
    let i = c.loop-block.invariant in
    let b = c.in_ok-block.field-0 in
    let step = step_given _ _ i.0 i.1 b (rw c.in_ok-block.was at c.in-Some.ensures.steps) in
    let g = walk_got image ends i.0 step.0 i.2 b step.2 in (
      step.0,
      step.1,
      walk_more image ends i.0 step.0 i.2 b step.2,
      blocks_more image (reader_place i.0) (reader_place step.0) b g.holds g.next_place _ _ _ i.3 c.in_ok-push.ensures.items c.from.ensures,
    )

pub returns : goal.returns
returns c =
    let image = c.args.image.now in
    let ends = c.args.ends in
    let i = c.loop-block.invariant in
    let step = step_ended _ _ i.0 i.1 c.in-None.ensures.steps in
    let all = walk_all image ends i.0 step.0 i.2 step.1 in
    let done = walk_done image ends i.0 step.0 i.2 step.1 in
    (done.0, i.3 ∙ ap (block_rows image) all)
