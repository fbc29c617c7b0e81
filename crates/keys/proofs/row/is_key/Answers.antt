-- `is_key` meets its contract. Assumes nothing.
use borrow.Author.Tests.{lt-leb, le-leb}
use Rattle.keys.proofs.row.is_key.Goals as goal

pub returns-then-k-lt1 : goal.returns-then-k-lt1
returns-then-k-lt1 c = rw (lt-leb 1 _ c.if-k-lt1.true)

pub returns : goal.returns
returns c = rw (le-leb 1 _ c.if-k-lt1.false)
