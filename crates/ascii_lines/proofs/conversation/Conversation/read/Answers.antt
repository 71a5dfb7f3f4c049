use Rattle.std.proofs.Common.{[], ap, append-nil, refl, sym, ◌∙◌, arith}
use Rattle.ascii_lines.specs.LineBuffer.{WindowState}
use Rattle.ascii_lines.specs.Turns.{supply_at}
use Rattle.ascii_lines.specs.declared.conversation.Supply.TheVariants as supply
use Rattle.ascii_lines.proofs.ServeLemmas.{read_is, supply_reads, then_right}
use Rattle.ascii_lines.proofs.TurnsLemmas.{supply_ended}
use Rattle.ascii_lines.proofs.conversation.Conversation.read.Goals as goal

pub returns-in-Ok : goal.returns-in-Ok
returns-in-Ok g c =
    let fills = c.in-Ok.ensures.fills in
    let ended = c.is_at_end-is_ended in
    rw (← c.self.view_is) (record {
      mid = c.fill.new.self;
      read = fills.outcome.0;
      now = supply_at ended.result;
      buffer = c.in-Ok.ensures.buffer;
      ending = c.in-Ok.ensures.ending;
      reads = grind (arith, read_is);
      converses = rw (fills.outcome.2, fills.size) at c.converse.ensures.converses;
      ended = supply_ended ended.result ∙ (ended.ensures ∙ sym c.converse.ensures.at_end);
      unread = λ is. absurd (supply_reads ended.result is);
      size = c.converse.ensures.size ∙ fills.size;
      endings = c.converse.ensures.endings;
    })

pub returns-in-Err : goal.returns-in-Err
returns-in-Err g c =
    let fills = c.in-Err.ensures.fills in
    let held = fills.outcome.1 ∙ sym (append-nil c.self.inside.dialogue.buffer.held) in
    rw (← c.self.view_is) (record {
      mid = c.fill.new.self;
      read = [];
      now = supply.Failed;
      buffer = c.in-Err.ensures.buffer;
      ending = c.in-Err.ensures.ending;
      reads = (fills.outcome.0, refl);
      converses = rw (held, fills.size) at c.fail.ensures.converses;
      ended = grind arith;
      unread = λ is. then_right
          (then_right c.fail.ensures.unread (rw (← c.self.view_is) at c.requires.going))
          (rw (← c.self.view_is) at c.requires.waits);
      size = ap (λ (w : WindowState). w.size) c.fail.ensures.buffer ∙ fills.size;
      endings = c.fail.ensures.endings;
    })
