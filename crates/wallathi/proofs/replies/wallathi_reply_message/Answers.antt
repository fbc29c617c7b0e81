-- `wallathi_reply_message` meets its contract. Assumes nothing.
use Rattle.std.proofs.Common.{Ok}
use mathlib.Core.Path.{ap, ◌∙◌}
use mathlib.Core.List.{[], ◌∷◌}
use Rattle.resp.specs.Parse.{parse_reply}
use Rattle.wallathi.proofs.Resp.{message_seen_lem, place_seen_lem}
use Rattle.wallathi.proofs.replies.wallathi_reply_message.Goals as goal

pub returns-in-Ok-Some : goal.returns-in-Ok-Some
returns-in-Ok-Some c =
    let x = c.args in
    let d = c.tell_message.ensures in
    let m = c.message_at.ensures in
    message_seen_lem _ _ _ _ _ _ _ d.0 d.1 d.2 d.3 _ (place_seen_lem x.place (x.id_ms.now ∷ (x.id_seq.now ∷ (x.len.now ∷ []))) x.out.now (parse_reply x.reply.now) _ _ _ m.0 m.1 (c.in-Ok-Some.is ∙ ap Ok c.in-Ok-Some.field-0-is))

pub returns-in-Ok-None : goal.returns-in-Ok-None
returns-in-Ok-None c =
    let x = c.args in
    let m = c.message_at.ensures in
    place_seen_lem x.place (x.id_ms.now ∷ (x.id_seq.now ∷ (x.len.now ∷ []))) x.out.now (parse_reply x.reply.now) _ _ _ m.0 m.1 (c.in-Ok-None.is ∙ ap Ok c.in-Ok-None.field-0-is)

pub returns-in-Err : goal.returns-in-Err
returns-in-Err c =
    let x = c.args in
    let m = c.message_at.ensures in
    rw c.number.ensures (place_seen_lem x.place (x.id_ms.now ∷ (x.id_seq.now ∷ (x.len.now ∷ []))) x.out.now (parse_reply x.reply.now) _ _ _ m.0 m.1 c.in-Err.is)
