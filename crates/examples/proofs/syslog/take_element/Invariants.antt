use Rattle.std.proofs.Common.{◌-◌, ◌∷◌, ◌++◌, All}
use Rattle.std.specs.List.{flat_map}
use Rattle.ascii_formats.specs.Parts.{IsFollowed, part_text}
use Rattle.examples.specs.Log.{IsParam, param_text}
use Rattle.examples.proofs.syslog.take_element.Given as goal

abbrev pub invariant-params : goal.invariant-params
invariant-params l =
    IsFollowed l.start (91 ∷ (part_text l.id ++ flat_map param_text l.params.items)) l.rest
    × All IsParam l.params.items

abbrev pub decreases-params : goal.decreases-params
decreases-params l = l.rest.end - l.rest.start
