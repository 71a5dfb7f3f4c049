use Rattle.std.proofs.Common.{◌≡◌, ◌-◌, ◌^◌, List, ℕ, length}
use Rattle.ascii_run.specs.Streamed.{IsInput, front, last_after, stream}
use Rattle.ascii_devices.specs.Buffered.{IsReady}
use Rattle.ascii_devices.specs.States.{Gives, Takes}
use Rattle.ascii_run.proofs.bounded.bounded_engine.Given as goal

-- the text so far was read, and its front output was written
abbrev pub invariant-chunks : goal.invariant-chunks
invariant-chunks g l =
    (g.S.Source.failures l.reader ≡ g.S.Source.failures l.fn.reader)
    × (g.K.Sink.failures l.writer ≡ g.K.Sink.failures l.fn.writer)
    × (l.output.mode ≡ l.fn.mode) × IsReady l.output.buffer
    × ((done : List ℕ) × (length done ≡ l.position)
    × Gives g.S.Source l.fn.reader l.reader done
    × IsInput l.fn.mode done × (l.output.last ≡ last_after 10 done)
    × Takes g.K.Sink l.fn.writer l.writer (front (stream l.fn.mode) done))

-- the room left below the largest position
abbrev pub decreases-chunks : goal.decreases-chunks
decreases-chunks g l = 2 ^ 64 - l.position
