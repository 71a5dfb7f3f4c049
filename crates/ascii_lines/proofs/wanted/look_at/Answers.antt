use Rattle.std.proofs.Common.{arith}
use Rattle.ascii_lines.specs.LineReader.{Looks, window_at}
use Rattle.ascii_lines.proofs.TakesLemmas.{end_found, end_rejects, from_err}
use Rattle.ascii_lines.proofs.wanted.look_at.Goals as goal

pub returns-in_err-end : goal.returns-in_err-end
returns-in_err-end g c =
    let window = window_at c.args.is_ended c.args.buffer.now in
    let error = c.in_err-end.field-0.0 in
    from_err c.from_residual.result error (Looks c.args.wanted c.args.start window)
    c.from_residual.ensures.1
    (end_rejects c.args.wanted c.args.start window c.args.n c.args.is_last c.requires error
    (grind arith))

pub returns : goal.returns
returns g c = end_found c.args.wanted c.args.start (window_at c.args.is_ended c.args.buffer.now)
    c.args.n c.args.is_last c.requires c.in_ok-end.end
    (rw c.front.ensures at c.in_ok-end.ensures)
