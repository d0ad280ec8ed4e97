use Rattle.stack.proofs.Records.{loaded}
use Rattle.stack.proofs.frame.fields.load.Goals as goal

pub returns : goal.returns
returns c = loaded c.args.b.now
