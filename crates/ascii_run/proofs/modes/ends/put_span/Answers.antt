use Rattle.std.proofs.Common.{ap, ◌++◌, ◌∙◌}
use Rattle.std.proofs.lemmas.List.{append_assoc}
use Rattle.std.specs.Prelude.{codes, decimal}
use Rattle.ascii.specs.View.{text_of}
use Rattle.ascii_run.specs.Modes.Ends.{ending_word}
use Rattle.ascii_run.specs.Modes.Lines.{with_line_feed}
use Rattle.ascii_devices.proofs.BufferedLemmas.{AppendsBytes-is, AppendsBytes-trans}
use Rattle.ascii_run.proofs.modes.ends.put_span.Goals as goal

pub returns : goal.returns
returns g c =
    let span = c.args.span in
    let line = with_line_feed (text_of span.text) in
    let start = decimal span.start in
    let ending = ending_word span.ending in
    let word = codes " " ++ (ending ++ codes " ") in
    let is = c.as_bytes.ensures.value ∙ c.format.ensures.text in
    let number = AppendsBytes-is is c.put.ensures in
    let middle = AppendsBytes-is c.word_of_ending.ensures c.put-2.ensures in
    AppendsBytes-is
    (ap (λ xs. start ++ (codes " " ++ xs)) (append_assoc ending (codes " ") line))
    (AppendsBytes-trans start (word ++ line) number
    (AppendsBytes-trans word line middle c.put_line.ensures))
