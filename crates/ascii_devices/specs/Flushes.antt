-- How often a writer was flushed.
use Rattle.std.specs.Prelude.{ℕ, ◌+◌, List, [], ◌∷◌, length}
use Rattle.ascii_devices.specs.declared.flushing.Flushing.{Flushing}
use Rattle.ascii_devices.specs.declared.log.Event.{Event}
use Rattle.ascii_devices.specs.declared.log.Event.TheVariants.{Flushed}

-- the number of flushes of a writer that passed
abbrev pub flushes_of : {W : Type 0} → Flushing W → ℕ
flushes_of writer = length writer.flushes.items

-- the number of flushes in a history
abbrev pub flushes_in : List Event → ℕ
flushes_in [] = 0
flushes_in (Flushed ∷ events) = flushes_in events + 1
flushes_in (other ∷ events) = flushes_in events
