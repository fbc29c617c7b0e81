-- `wallathi_read_reply` meets its contract. Assumes nothing.
use mathlib.Core.Path.{ap, ◌∙◌}
use Rattle.std.proofs.Common.{Some}
use mathlib.Core.List.{[], ◌∷◌}
use Rattle.resp.specs.Parse.{parse_reply}
use Rattle.wallathi.proofs.Resp.{kind_seen, read_seen_lem}
use Rattle.wallathi.proofs.replies.wallathi_read_reply.Goals as goal

pub returns-in-Some-Range : goal.returns-in-Some-Range
returns-in-Some-Range c =
    let x = c.args in
    let d = c.tell_kind.ensures in
    kind_seen _ _ _ _ _ d.0 d.1 d.2 _ (read_seen_lem (x.kind.now ∷ (x.number.now ∷ [])) (parse_reply x.reply.now) _ _ c.read.ensures (c.in-Some-Range.is ∙ ap Some c.in-Some-Range.field-0-is))

pub returns-in-Some-Integer : goal.returns-in-Some-Integer
returns-in-Some-Integer c =
    let x = c.args in
    let d = c.tell_kind-in-Some-Integer.ensures in
    kind_seen _ _ _ _ _ d.0 d.1 d.2 _ (read_seen_lem (x.kind.now ∷ (x.number.now ∷ [])) (parse_reply x.reply.now) _ _ c.read.ensures (c.in-Some-Integer.is ∙ ap Some c.in-Some-Integer.field-0-is))

pub returns-in-Some-Error : goal.returns-in-Some-Error
returns-in-Some-Error c =
    let x = c.args in
    let d = c.tell_kind-in-Some-Error.ensures in
    kind_seen _ _ _ _ _ d.0 d.1 d.2 _ (read_seen_lem (x.kind.now ∷ (x.number.now ∷ [])) (parse_reply x.reply.now) _ _ c.read.ensures (c.in-Some-Error.is ∙ ap Some c.in-Some-Error.field-0-is))

pub returns-in-None : goal.returns-in-None
returns-in-None c = let x = c.args in read_seen_lem (x.kind.now ∷ (x.number.now ∷ [])) (parse_reply x.reply.now) _ _ c.read.ensures c.in-None.is
