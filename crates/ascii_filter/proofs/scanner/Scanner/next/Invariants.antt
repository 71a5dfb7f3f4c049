use Rattle.std.proofs.Common.{◌≡◌, List, ℕ, false}
use Rattle.ascii_devices.specs.States.{Gives}
use Rattle.ascii_filter.specs.Places.{Skips}
use Rattle.ascii_filter.proofs.scanner.Scanner.next.Given as goal

-- no read has failed, and the bytes that were passed are ASCII
abbrev pub invariant-chunks : goal.invariant-chunks
invariant-chunks g l =
    (g.S.Source.failures l.reader ≡ g.S.Source.failures l.fn.reader)
    × (l.fn.self.is_done ≡ false)
    × ((given passed : List ℕ) × Gives g.S.Source l.fn.reader l.reader given
    × Skips l.fn.self l.self given passed)

-- the bytes that may still be read
abbrev pub decreases-chunks : goal.decreases-chunks
decreases-chunks g l = l.self.room
