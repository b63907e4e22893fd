use Rattle.std.proofs.Common.{sym, ap}
use Rattle.std.proofs.lemmas.Result.{err_from_is_err_and}
use Rattle.std.specs.Option.{option_map}
use Rattle.image.specs.Rules.{told}
use Rattle.image.proofs.Walk.{walk_start, walk_more, walk_done, walk_refused, step_given, step_refused, step_ended}
use Rattle.image.proofs.reader.check.Goals as goal

pub loop-block-init : goal.loop-block-init
loop-block-init c =
    let s = c.in_ok-block-items.block-items in
    (s, c.into_iter-block-iterator.ensures.into_iter_gives, walk_start c.args.image.now c.args.ends s c.in_ok-block-items.ensures)

pub loop-block-preserved : goal.loop-block-preserved
loop-block-preserved c =
    let i = c.loop-block.invariant in
    let b = c.in_ok-block.field-0 in
    let step = step_given _ _ i.0 i.1 b (rw c.in_ok-block.was at c.in-Some.ensures.steps) in
    (step.0, step.1, walk_more c.args.image.now c.args.ends i.0 step.0 i.2 b step.2)

pub returns-in_err-block : goal.returns-in_err-block
returns-in_err-block c =
    let i = c.loop-block.invariant in
    let r = c.in_err-block.field-0.0 in
    let step = step_refused _ _ i.0 i.1 r (rw c.in_err-block.was at c.in-Some.ensures.steps) in
    let w = walk_refused c.args.image.now c.args.ends i.0 step.0 i.2 r step.1 in
    let p = err_from_is_err_and c.from_residual-in_err-block.result c.from_residual-in_err-block.ensures.1 in
    rw (p.1, p.2) (record { told = ap (option_map told) (sym w.0); answer = sym w.0; law = w.1 })

pub returns : goal.returns
returns c =
    let i = c.loop-block.invariant in
    let step = step_ended _ _ i.0 i.1 c.in-None.ensures.steps in
    let w = walk_done c.args.image.now c.args.ends i.0 step.0 i.2 step.1 in
    record { told = ap (option_map told) (sym w.0); answer = sym w.0; law = w.1 }
