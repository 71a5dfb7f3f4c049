use Rattle.std.proofs.Common.{[], ◌∷◌, ◌++◌, codes, decimal, length}
use Rattle.ascii_lines.specs.Replies.{line_reply}
use Rattle.ascii_lines.proofs.ReplyLemmas.{Says-trans}
use Rattle.example_resp.proofs.replies.say_value.Goals as goal

pub returns-in-Some : goal.returns-in-Some
returns-in-Some g c =
    let value = c.in-Some.value.now in
    rw c.in-Some.is (Says-trans c.args.replies.now c.number_line.new.self c.bytes.new.self
    (line_reply (codes "$" ++ decimal (length value)) ∷ []) (line_reply value ∷ [])
    (rw c.literal.ensures at c.number_line.ensures) c.bytes.ensures)
