use Rattle.std.proofs.Common.{◌≡◌, ℕ, List, subst, sym, ◌∙◌, arith}
use Rattle.ascii_base.specs.Code.{code_of}
use Rattle.ascii.specs.Found.{piece_spans}
use Rattle.ascii.specs.Spans.{PieceSpans, WithStart}
use Rattle.ascii.proofs.SpansLemmas.{piece_spans_found, piece_spans_only}
use Rattle.ascii.specs.View.{text_of}
use Rattle.ascii.proofs.ascii_str.AsciiStr.split_spans_from.Goals as goal

pub returns-clause-walks : goal.returns-clause-walks
returns-clause-walks c = grind arith

pub returns-clause-iterates : goal.returns-clause-iterates
returns-clause-iterates c =
    let part : WithStart (List ℕ) =
    record { start = c.args.offset; item = text_of c.args.self } in
    let on = code_of c.args.on in
    let are : c.spans_at.result.items ≡ piece_spans on part = grind arith in
    record {
      spans = subst (PieceSpans part.start part.item on) (sym are) (piece_spans_found on part);
      only = λ spans held. piece_spans_only on part spans held ∙ sym are;
      separator = c.spans_at.ensures.on ∙ c.new.ensures;
      fits = c.spans_at.ensures.iterates.fits;
    }
