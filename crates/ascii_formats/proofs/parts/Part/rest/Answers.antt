use Rattle.std.proofs.Common.{arith}
use Rattle.ascii.specs.View.{text_of}
use Rattle.ascii_formats.specs.Parts.{part_text}
use Rattle.ascii_formats.proofs.PartsLemmas.{rest_fits, rest_range}
use Rattle.ascii_formats.proofs.parts.Part.rest.Goals as goal

pub overflow_sub-result : goal.overflow_sub-result
overflow_sub-result c =
    omega (arith, c.len.ensures, rest_fits c.args.self (text_of c.args.text) c.requires)

pub returns-clause-text : goal.returns-clause-text
unfolding part_text
returns-clause-text c = rw c.len.ensures (rest_range c.args.self (text_of c.args.text) c.requires)

pub returns-clause-start : goal.returns-clause-start
returns-clause-start c =
    omega (arith, c.len.ensures, rest_fits c.args.self (text_of c.args.text) c.requires)
