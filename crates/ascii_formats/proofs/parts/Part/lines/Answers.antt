use Rattle.std.proofs.Common.{map, subst}
use Rattle.std.proofs.lemmas.List.Elements.{All-map}
use Rattle.ascii.specs.Placed.{ArePlaced, IsPlaced, body_in}
use Rattle.ascii.specs.View.{text_of}
use Rattle.ascii_formats.proofs.parts.Part.lines.Goals as goal

pub invariant_of-result : goal.invariant_of-result
invariant_of-result c =
    let lines = c.line_spans.result in
    subst (λ text. ArePlaced 0 text (map body_in lines)) c.text.ensures
    (All-map (IsPlaced 0 (text_of c.text.result)) body_in lines c.line_spans.ensures.placed)
