use Rattle.std.proofs.Common.{[], ◌∷◌, ◌++◌, codes}
use Rattle.ascii_lines.proofs.ReplyLemmas.{said_joined}
use Rattle.ascii_lines.specs.Replies.{Says, line_reply, part_reply}
use Rattle.example_resp.proofs.replies.say_unknown.Goals as goal

pub returns : goal.returns
returns g c =
    let old = c.args.replies.now in
    let front : Says old (part_reply (codes "-ERR unknown command '") ∷ []) c.part.new.self =
    rw c.literal.ensures at c.part.ensures in
    let end : Says c.bytes_part.new.self (line_reply (codes "'") ∷ []) c.text.new.self =
    rw c.literal-2.ensures at c.text.ensures in
    said_joined old c.part.new.self c.text.new.self (codes "-ERR unknown command '")
    (c.args.name.now ++ codes "'") front
    (said_joined c.part.new.self c.bytes_part.new.self c.text.new.self c.args.name.now (codes "'")
    c.bytes_part.ensures end)
