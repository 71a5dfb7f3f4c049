use Rattle.std.proofs.Common.{◌≡◌, ◌++◌, arith, rules}
use Rattle.std.specs.Prelude.{codes}
use Rattle.ascii.specs.Lines.{ending_text}
use Rattle.ascii_devices.proofs.BufferedLemmas.{AppendsBytes-is, AppendsBytes-trans}
use Rattle.ascii_lines.proofs.WriteBufferLemmas.{puts}
use Rattle.ascii_lines.proofs.line_writer.put_line.Goals as goal

pub returns-in-Lf : goal.returns-in-Lf
returns-in-Lf g c =
    let body = c.args.body.now in
    let line_feed : body ++ codes "\n" ≡ body ++ ending_text c.args.ending = search rules in
    puts _ c.requires (omega arith)
    (AppendsBytes-is line_feed c.put_line.ensures)

pub returns-in_default : goal.returns-in_default
returns-in_default g c = puts _ c.requires (omega arith)
    (AppendsBytes-trans _ _ c.put.ensures
    (AppendsBytes-is c.ending_bytes.ensures c.put-in_default.ensures))
