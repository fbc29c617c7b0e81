-- `wallathi_error_reply` meets its contract. Assumes nothing.
use Rattle.resp.specs.Reply.{is_refusal_number, error_bytes}
use Rattle.wallathi.proofs.Resp.{number_seen_lem}
use Rattle.wallathi.proofs.replies.wallathi_error_reply.Goals as goal

pub returns : goal.returns
returns c =
    let x = c.args in
    let d = c.error_reply-r.ensures in
    number_seen_lem (is_refusal_number x.n) (error_bytes x.n) x.out.now x.len.now _ _ _ _ d.0 d.1 c.tell_replied.ensures.0 c.tell_replied.ensures.1
