use Rattle.ascii.specs.View.{text_of}
use Rattle.ascii_formats.proofs.DecimalsLemmas.{reads_decimal_number}
use Rattle.tests_callers.proofs.numbers.read_decimal.Goals as goal

pub returns : goal.returns
returns c =
    reads_decimal_number (text_of c.args.view) c.args.number c.to_decimal.result
    c.to_decimal.ensures c.requires
