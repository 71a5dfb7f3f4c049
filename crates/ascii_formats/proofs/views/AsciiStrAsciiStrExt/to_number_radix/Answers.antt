use Rattle.std.proofs.Common.{rules}
use Rattle.ascii_formats.proofs.NumbersLemmas.{whole_number}
use Rattle.ascii_formats.specs.Numbers.{LeadsWithNumber}
use Rattle.ascii.specs.View.{text_of}
use Rattle.ascii_formats.proofs.views.AsciiStrAsciiStrExt.to_number_radix.Goals as goal

pub returns-else-end-from : goal.returns-else-end-from
returns-else-end-from g c =
    let read : LeadsWithNumber g.N.Number.range c.args.radix (text_of c.args.self)
    c.in_ok-number.number c.in_ok-number.end = search rules in
    whole_number _ _ _ _ _ read (search rules) (search rules)
