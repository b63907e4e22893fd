use Rattle.memory.proofs.Asking.{asking_more, settled_done, settled_absent}
use Rattle.memory.proofs.settling.settle.Goals as goal

pub loop-value-preserved : goal.loop-value-preserved
loop-value-preserved g c =
    let e = c.in-Wait.ensures in
    asking_more g.M.Memory c.args.asked c.args.memory.now c.loop-value.memory c.ask.new.self c.loop-value.invariant
    (record { keeps = e.keeps; exact = e.exact })

pub returns-in-Done : goal.returns-in-Done
returns-in-Done g c =
    let e = c.in-Done.ensures in
    settled_done g.M.Memory c.args.asked c.args.memory.now c.loop-value.memory c.ask.new.self c.loop-value.invariant
    c.in-Done.value (record { keeps = e.keeps; exact = e.exact })

pub returns-in-Absent : goal.returns-in-Absent
returns-in-Absent g c =
    let e = c.in-Absent.ensures in
    settled_absent g.M.Memory c.args.asked c.args.memory.now c.loop-value.memory c.ask.new.self c.loop-value.invariant
    (record { keeps = e.keeps; exact = e.exact })
