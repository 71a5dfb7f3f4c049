use Rattle.std.proofs.Common.{drop, take, take-append-drop}
use Rattle.ascii_formats.specs.Parts.{part_text}
use Rattle.ascii_formats.proofs.parts.Part.split_at.Goals as goal

pub front-requires : goal.front-requires
front-requires c =
    let text = part_text c.args.self in
    let cut = take-append-drop c.args.mid text in
    (drop c.args.mid text, rw (c.split_at.ensures.front, c.text.ensures) cut)

pub rest-requires : goal.rest-requires
rest-requires c =
    let text = part_text c.args.self in
    let cut = take-append-drop c.args.mid text in
    (take c.args.mid text, rw (c.split_at.ensures.rest, c.text.ensures) cut)
