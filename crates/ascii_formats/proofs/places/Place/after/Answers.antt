use Rattle.std.proofs.Common.{◌-◌, arith}
use Rattle.ascii_formats.proofs.PlaceLemmas.{after_last, after_none, room_after}
use Rattle.ascii_formats.proofs.places.Place.after.Goals as goal

pub returns-in-Some-clause-place : goal.returns-in-Some-clause-place
returns-in-Some-clause-place c = grind (arith, after_last)

pub returns-in-Some-clause-room : goal.returns-in-Some-clause-room
returns-in-Some-clause-room c = grind (arith, returns-in-Some-clause-place, room_after)

pub returns-in-None-clause-place : goal.returns-in-None-clause-place
returns-in-None-clause-place c = grind (arith, after_none)
