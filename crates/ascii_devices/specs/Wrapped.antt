-- Readers and writers as devices: what is inside, how many calls have failed, and what happened.
use Rattle.std.specs.Prelude.{ℕ, List, Some}
use Rattle.std.specs.declared.option.Option.{Option}
use Rattle.ascii_devices.specs.declared.Input.{Input}
use Rattle.ascii_devices.specs.declared.Output.{Output}
use Rattle.ascii_devices.specs.declared.duplex.Duplex.{Duplex}
use Rattle.ascii_devices.specs.declared.log.Event.{Event}

-- the reader inside an `Input`
abbrev pub reader_of : {R : Type 0} → Input R → R
reader_of input = input.reader

-- how many reads of an `Input` have failed
abbrev pub input_failures : {R : Type 0} → Input R → ℕ
input_failures input = input.failures

-- what has happened at an `Input` since it was created
abbrev pub input_history : {R : Type 0} → Input R → Option (List Event)
input_history input = Some input.log.items

-- the writer inside an `Output`
abbrev pub writer_of : {W : Type 0} → Output W → W
writer_of output = output.writer.writer

-- how many writes and flushes of an `Output` have failed
abbrev pub output_failures : {W : Type 0} → Output W → ℕ
output_failures output = output.failures

-- what has happened at an `Output` since it was created
abbrev pub output_history : {W : Type 0} → Output W → Option (List Event)
output_history output = Some output.log.items

-- the reader of a `Duplex`, as a source
abbrev pub input_of : {R W : Type 0} → Duplex R W → Input R
input_of duplex = duplex.input

-- the writer of a `Duplex`, as a sink
abbrev pub output_of : {R W : Type 0} → Duplex R W → Output W
output_of duplex = duplex.output

-- what has happened at a `Duplex`, in both directions, since it was created
abbrev pub duplex_history : {R W : Type 0} → Duplex R W → Option (List Event)
duplex_history duplex = Some duplex.log.items
