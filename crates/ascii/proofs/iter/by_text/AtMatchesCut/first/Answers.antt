use Rattle.std.proofs.Common.{arith, length-drop, length-take-le}
use Rattle.std.proofs.lemmas.Bool.{false≢true}
use Rattle.memchr.proofs.lemmas.MatchLemmas.{OccursAt-part}
use Rattle.ascii.proofs.ByTextLemmas.{match_spans_at_first, match_spans_at_none}
use Rattle.ascii.proofs.LeftLemmas.{after_place}
use Rattle.ascii.proofs.iter.by_text.AtMatchesCut.first.Goals as goal

pub returns-in_err-at-clause-first : goal.returns-in_err-at-clause-first
returns-in_err-at-clause-first c = rw c.from_residual.ensures (grind (arith, match_spans_at_none))

pub returns-clause-first : goal.returns-clause-first
returns-clause-first c = grind (arith, OccursAt-part, match_spans_at_first, false≢true)

pub returns-clause-item : goal.returns-clause-item
returns-clause-item c = grind (arith, OccursAt-part)

pub returns-clause-left : goal.returns-clause-left
returns-clause-left c = grind (arith, after_place, length-take-le, length-drop)
