use Rattle.stack.proofs.Records.{mark_stored}
use Rattle.stack.proofs.frame.fields.mark_bytes.Goals as goal

pub returns : goal.returns
returns c = let s = c in let g = c in mark_stored s.args.b.now c.store.new.b g.load.result g.marked-f.result s.requires g.load.ensures g.marked-f.ensures c.store.ensures
