use Rattle.std.proofs.Common.{ap, arith, length}
use Rattle.ascii.specs.ByText.{piece_spans_at}
use Rattle.ascii.specs.Found.{part_in}
use Rattle.ascii.specs.View.{text_of}
use Rattle.ascii.proofs.ByTextLemmas.{piece_spans_at_some}
use Rattle.ascii.proofs.CutLaws.{has_some}
use Rattle.ascii.proofs.iter.by_text.AtTextCut.has_none.Goals as goal

pub returns : goal.returns
returns c =
    let part = part_in c.args._part in
    let needle = text_of c.args.self.needle in
    let some = piece_spans_at_some part.start needle part.item in
    has_some (piece_spans_at needle part) (λ none. absurd (omega (arith, some, ap length none)))
