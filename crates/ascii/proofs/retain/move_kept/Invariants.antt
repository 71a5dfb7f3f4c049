use Rattle.std.proofs.Common.{ℕ, ◌<◌, slice_index_or}
use Rattle.ascii.proofs.RetainLemmas.{KeepsUpTo}
use Rattle.std.specs.Fn.{Called}
use Rattle.ascii.proofs.retain.move_kept.Given as goal

abbrev pub invariant-loop-at : goal.invariant-loop-at
invariant-loop-at g l =
    KeepsUpTo (λ p ch b q. Called g.F.FnMut p (ch, tt) b q) l.initial.keep l.initial.bytes l.bytes
    l.kept l.at l.keep × ((i : ℕ) → slice_index_or l.bytes i 0 < 128)
    × goal.F-IsAlwaysCallable g l.keep
