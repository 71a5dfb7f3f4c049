use Rattle.std.proofs.Common.{◌≡◌, length}
use Rattle.std.specs.Iterator.{IsFinite, size}
use Rattle.ascii_base.specs.Code.{code_of}
use Rattle.ascii.proofs.ExtendLemmas.{Gathers}
use Rattle.ascii.proofs.ascii_string.Text.extend_chars.Given as goal

-- the old text and the characters so far
abbrev pub invariant-loop-iter : goal.invariant-loop-iter
invariant-loop-iter g l = record {
  so_far : Gathers g.I.Iterator.next_gives code_of l.fn.iter l.iter l.fn.self l.self;
  size : length l.codes ≡ 64;
  can : g.I.Iterator.can_next l.iter;
  ends : IsFinite (g.I.Iterator.remaining l.iter);
}

abbrev pub decreases-loop-iter : goal.decreases-loop-iter
decreases-loop-iter g l = size (g.I.Iterator.remaining l.iter)
