use Rattle.std.proofs.Common.{◌≡◌, inl, refl, rules, true, ◌∙◌, arith}
use Rattle.ascii_lines.specs.Turns.{IsOver}
use Rattle.ascii_lines.proofs.TurnsLemmas.{Going-first, then_breaks, then_goes}
use Rattle.ascii_lines.proofs.conversation.Dialogue.converse.Goals as goal

pub turns-init : goal.turns-init
turns-init g c = grind (arith, Going-first)

pub returns-then-is_broken-clause-converses : goal.returns-then-is_broken-clause-converses
returns-then-is_broken-clause-converses g c =
    let apart : ¬ (IsOver c.turns.self.awaited) = search rules in
    then_breaks _ _ _ _ _ _ _ _ _ c.turns.invariant.0 apart (search rules)

pub turns-preserved : goal.turns-preserved
turns-preserved g c =
    let is : c.turn.result ≡ true = search rules in (
      then_goes _ _ _ _ _ _ _ _ _ c.turns.invariant.0 _ _ c.turns.invariant.2
          c.turns.invariant.1 _ _ (rw is at c.turn.ensures.turn),
      c.turn.ensures.size ∙ c.turns.invariant.1,
      c.turn.ensures.endings ∙ c.turns.invariant.2,
      c.turn.ensures.at_end ∙ c.turns.invariant.3,
      λ apart. inl refl,
    )
