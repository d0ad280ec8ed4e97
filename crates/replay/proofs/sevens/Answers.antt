use Rattle.std.proofs.Common.{sym}
use Rattle.book_file.proofs.Lengths.{long}
use Rattle.replay.proofs.sevens.Goals as goal

pub returns : goal.returns
returns c = sym (long 1000000 7)
