use Rattle.std.proofs.Common.{◌≡◌, ◌-◌, ◌^◌, vec_len}
use Rattle.ascii_devices.specs.States.{Gives}
use Rattle.ascii_run.specs.Reading.{HasFirstOther}
use Rattle.ascii_run.proofs.text_engine.read_all.Given as goal

-- the input holds what the reader gave, the position of its first byte that is not ASCII is known,
-- and no read has failed
abbrev pub invariant-reads : goal.invariant-reads
invariant-reads g l =
    Gives g.S.Source l.fn.reader l.reader l.input.items
    × (g.S.Source.failures l.reader ≡ g.S.Source.failures l.fn.reader)
    × HasFirstOther l.input.items l.other

-- the room left below the largest length
abbrev pub decreases-reads : goal.decreases-reads
decreases-reads g l = 2 ^ 64 - vec_len l.input
