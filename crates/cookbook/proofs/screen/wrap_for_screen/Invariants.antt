use Rattle.ascii.specs.View.{text_of}
use Rattle.cookbook.proofs.ScreenLemmas.{IsOnTheWay}
use Rattle.cookbook.proofs.screen.wrap_for_screen.Given as goal

-- what went out and what is to come
abbrev pub invariant-loop-ch : goal.invariant-loop-ch
invariant-loop-ch l = IsOnTheWay l.fn.width (text_of l.fn.view) l.text.text l.column l.ch-iterator
