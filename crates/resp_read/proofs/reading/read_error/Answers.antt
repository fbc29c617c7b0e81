use mathlib.Core.Path.{◌≡◌, sym, ◌∙◌}
use native.Mathlib.Omega.{arith}
use lib.ListN.{take}
use lib.Pointwise.{bytes_decides}
use Rattle.octets.proofs.Tested.{never}
use Rattle.resp_read.proofs.Replies.{err, not_error, error_none, error_zero, error_high, error_more, error_there}
use Rattle.resp_read.proofs.reading.read_error.Goals as goal
use Rattle.resp_read.proofs.reading.read_error.Goals.{Else-not-starts_with}

-- the first four bytes are those of an error reply
starts : (c : Else-not-starts_with) → take 4 c.args.s.now ≡ err
starts c = sym ((bytes_decides err (take 4 c.args.s.now)).0 (sym c.starts_with.ensures.value ∙ c.if-not-starts_with.false))

pub returns-then-not-starts_with : goal.returns-then-not-starts_with
returns-then-not-starts_with c =
    sym (not_error c.args.s.now λ e. never ((bytes_decides err (take 4 c.args.s.now)).1 (sym e)) (sym c.starts_with.ensures.value ∙ c.if-not-starts_with.true))

pub returns-in_err-n : goal.returns-in_err-n
returns-in_err-n c = c.from_residual.ensures ∙ sym (error_none c.args.s.now (starts (goal.at.returns-in_err-n c).Else-not-starts_with) c.in_err-n.ensures)

pub returns-then-n-lt1 : goal.returns-then-n-lt1
returns-then-n-lt1 c = sym (error_zero c.args.s.now (starts (goal.at.returns-then-n-lt1 c).Else-not-starts_with) _ c.in_ok-n.ensures (omega arith))

pub returns-then-n-gt18 : goal.returns-then-n-gt18
returns-then-n-gt18 c = sym (error_high c.args.s.now (starts (goal.at.returns-then-n-gt18 c).Else-not-starts_with) _ c.in_ok-n.ensures (omega arith) (omega arith))

pub returns-then-n-s : goal.returns-then-n-s
returns-then-n-s c = sym (error_more c.args.s.now (starts (goal.at.returns-then-n-s c).Else-not-starts_with) _ c.in_ok-n.ensures (omega arith) (omega arith) (omega arith))

pub returns : goal.returns
returns c = sym (error_there c.args.s.now (starts (goal.at.returns c).Else-not-starts_with) _ c.in_ok-n.ensures (omega arith) (omega arith) (omega arith))
