use Rattle.std.proofs.Common.{◌≡◌, List, ℕ, ◌++◌, length}
use Rattle.ascii_devices.specs.Buffered.{Sends, unbuffered}
use Rattle.ascii_devices.proofs.buffered.write_each.Given as goal

-- the sink took what is before the rest, and no write has failed
abbrev pub invariant-writes : goal.invariant-writes
invariant-writes g l =
    (sent : List ℕ)
    × Sends (unbuffered g.K.Sink l.fn.writer) (unbuffered g.K.Sink l.writer) sent
    × (sent ++ l.remaining ≡ l.bytes)
    × (g.K.Sink.failures l.writer ≡ g.K.Sink.failures l.fn.writer)
    × (g.K.Sink.aside l.writer ≡ g.K.Sink.aside l.fn.writer)

-- the bytes that are left
abbrev pub decreases-writes : goal.decreases-writes
decreases-writes g l = length l.remaining
