use Rattle.stack.proofs.Child as frames
use Rattle.stack.proofs.frame.child.join.Goals as goal

pub returns : goal.returns
returns g c =
    let a = c.args in
    frames.join_frame a.goals a.frame.now c.insert.new.b c.candidate_start-end.result a.i a.paths (g.U.Used.uses a.used)
    c.requires.0.long c.candidate_start-end.ensures c.insert.auto.b c.insert.ensures
