use Rattle.std.proofs.Common.{◌≡◌, ℕ, ap, ◌∙◌, arith}
use Rattle.image.specs.Reading.{reader_place, OpenedAt}
use Rattle.image.specs.Load.{ends_of, words_after, bytes_after}
use Rattle.image.proofs.Walk.{walk_start, walk_got, walk_more, walk_all, walk_refused, step_given, step_refused, step_ended}
use Rattle.image.proofs.Cover.{room_for, words_begin, bytes_begin, words_step, bytes_step, words_loaded, bytes_loaded}
use Rattle.image.proofs.loader.put_blocks.Goals as goal

pub loop-block-init : goal.loop-block-init
loop-block-init c =
    let image = c.args.image.now in
    let ws = c.args.program.now in
    let d = c.args.data.now in
    let s = c.in_ok-block-items.block-items in
    let o : OpenedAt image (ends_of ws d) s = rw c.of.ensures at c.in_ok-block-items.ensures in
    (s, c.into_iter-block-iterator.ensures.into_iter_gives, walk_start image (ends_of ws d) s o, words_begin image ws _ o.at_first, bytes_begin image d _ o.at_first)

-- the image was accepted, so no step refuses
pub returns-in_err-block : goal.returns-in_err-block
returns-in_err-block c =
    let i = c.loop-block.invariant in
    let r = c.in_err-block.field-0.0 in
    let step = step_refused _ _ i.0 i.1 r (rw c.in_err-block.was at c.in-Some.ensures.steps) in
    let w = walk_refused c.args.image.now (ends_of c.args.program.now c.args.data.now) i.0 step.0 i.2 r step.1 in
    let refusal = w.0 in
    let unrefused = c.requires.unrefused in
    let z : ◌≡◌ {A = ℕ} 0 1 = cc in
    absurd (omega arith)

pub put_block-requires : goal.put_block-requires
put_block-requires c =
    let image = c.args.image.now in
    let ws = c.args.program.now in
    let d = c.args.data.now in
    let i = c.loop-block.invariant in
    let b = c.in_ok-block.field-0 in
    let step = step_given _ _ i.0 i.1 b (rw c.in_ok-block.was at c.in-Some.ensures.steps) in
    let g = walk_got image (ends_of ws d) i.0 step.0 i.2 b step.2 in
    room_for image ws d c.requires.accepted (reader_place i.0) g.inside b _ _ g.holds c.loop-block.auto.program c.loop-block.auto.data

pub loop-block-preserved : goal.loop-block-preserved
loop-block-preserved c =
    let image = c.args.image.now in
    let ws = c.args.program.now in
    let d = c.args.data.now in
    let i = c.loop-block.invariant in
    let b = c.in_ok-block.field-0 in
    let step = step_given _ _ i.0 i.1 b (rw c.in_ok-block.was at c.in-Some.ensures.steps) in
    let g = walk_got image (ends_of ws d) i.0 step.0 i.2 b step.2 in (
      step.0,
      step.1,
      walk_more image (ends_of ws d) i.0 step.0 i.2 b step.2,
      words_step image (reader_place i.0) b g.holds ws c.loop-block.program _ _ i.3 c.put_block.ensures.words g.next_place,
      bytes_step image (reader_place i.0) b g.holds d c.loop-block.data _ _ i.4 c.put_block.ensures.bytes g.next_place,
    )

pub returns : goal.returns
returns c =
    let image = c.args.image.now in
    let ws = c.args.program.now in
    let d = c.args.data.now in
    let i = c.loop-block.invariant in
    let step = step_ended _ _ i.0 i.1 c.in-None.ensures.steps in
    let all = walk_all image (ends_of ws d) i.0 step.0 i.2 step.1 in
    let words = i.3 ∙ ap (λ n. words_after image n ws) all in
    let bytes = i.4 ∙ ap (λ n. bytes_after image n d) all in
    let accepted = c.requires.accepted in
    record {
      answer = (c.requires.unrefused, words, bytes);
      law = (accepted, words_loaded image ws d accepted _ words, bytes_loaded image ws d accepted _ bytes);
    }
