use Rattle.book_file.proofs.Lengths.{long}
use Rattle.book_file.proofs.buffer.Goals as goal

pub returns : goal.returns
returns c = long 65536 0
