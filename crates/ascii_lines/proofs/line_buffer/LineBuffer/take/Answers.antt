use Rattle.std.proofs.Common.{ap}
use Rattle.ascii_lines.specs.LineBuffer.{WindowState}
use Rattle.ascii_lines.proofs.LineBufferLemmas.{held_rest, laid_after}
use Rattle.ascii_lines.proofs.line_buffer.LineBuffer.take.Goals as goal

pub invariant_of-self : goal.invariant_of-self
invariant_of-self g c = laid_after _ _ _ _ _ _ c.args.n _ c.self.invariant
    (ap (λ (w : WindowState). w.held) c.self.view_is) c.requires c.ascii_len.result
    (rw c.deref.ensures.value at c.ascii_len.ensures)

pub returns-then-self-clause-held : goal.returns-then-self-clause-held
returns-then-self-clause-held g c = held_rest _ _ _ _ _ _ c.args.n _ c.self.invariant
    (ap (λ (w : WindowState). w.held) c.self.view_is) c.requires

pub returns-else-self-clause-held : goal.returns-else-self-clause-held
returns-else-self-clause-held g c = held_rest _ _ _ _ _ _ c.args.n _ c.self.invariant
    (ap (λ (w : WindowState). w.held) c.self.view_is) c.requires
