use Rattle.std.proofs.Common.{◌≡◌, ◌++◌, arith, false}
use Rattle.ascii.specs.ByClass.{words_by}
use Rattle.ascii.specs.Tests.{is_whitespace}
use Rattle.ascii.specs.View.{text_of}
use Rattle.ascii_lines.specs.LineReader.{read_line_in}
use Rattle.examples.specs.Tally.{Counts, words_of}
use Rattle.examples.proofs.TallyLemmas.{at_ok, counts_line}
use Rattle.examples.proofs.tally.WordCountLineStep.step.Goals as goal

pub returns-then-not-self : goal.returns-then-not-self
returns-then-not-self c = λ lines after ok.
    let so_far : c.args.self.now.has_failed ≡ false = grind (arith, c.if-not-self.true) in
    let counted = after so_far in
    let words = words_of lines ++ words_by is_whitespace (text_of c.args.line.text) in
    counts_line lines (read_line_in c.args.line) c.add_words.new.counts counted.1
    c.add_words.ensures.fits
    (at_ok (Counts words c.add_words.new.counts) c.add_words.result
    (rw c.is_err-self.ensures.value at ok) (c.add_words.ensures.counts (words_of lines) counted.0))
