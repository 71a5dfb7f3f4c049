use Rattle.std.proofs.Common.{rules, arith, ◌≢◌}
use Rattle.ascii_lines.specs.Turns.{IsOver}
use Rattle.ascii_lines.proofs.TurnsLemmas.{Going-first, fail_asked, fail_line, over_rests}
use Rattle.ascii_lines.proofs.TurnsLemmas.{rests_lacks, sending_rests, then_breaks}
use Rattle.ascii_lines.specs.declared.conversation.Awaited.TheVariants.{Sending}
use Rattle.ascii_lines.proofs.conversation.Dialogue.fail.Goals as goal

pub returns-then-is_over-clause-converses : goal.returns-then-is_over-clause-converses
returns-then-is_over-clause-converses g c = grind (arith, over_rests)

pub returns-then-is_broken-clause-converses : goal.returns-then-is_broken-clause-converses
returns-then-is_broken-clause-converses g c =
    let apart : ¬ (IsOver c.args.self.now.awaited) = search rules in
    then_breaks _ _ _ _ _ _ _ _ _ (grind (arith, Going-first)) apart (search rules)

pub returns-in-Input-clause-converses : goal.returns-in-Input-clause-converses
returns-in-Input-clause-converses g c =
    let apart : ¬ (IsOver c.args.self.now.awaited) = search rules in
    let waits : c.args.self.now.awaited ≢ Sending = grind arith in
    let said = c.refuse-next.ensures.refuses in
    rw c.in-Input.is (fail_asked _ _ _ _ _ _ _ _ _ _ _ _ said.0 (rw c.in-Input.is at c.requires.0)
    (rw c.in-Input.is at (rests_lacks _ _ _ _ _ c.requires apart waits)) said.1 said.2
    c.refuse-next.ensures.request)

pub returns-in-LineEnd-clause-converses : goal.returns-in-LineEnd-clause-converses
returns-in-LineEnd-clause-converses g c = grind (arith, fail_line, rests_lacks)

pub returns-in-Sending-clause-converses : goal.returns-in-Sending-clause-converses
returns-in-Sending-clause-converses g c = grind (arith, sending_rests)
