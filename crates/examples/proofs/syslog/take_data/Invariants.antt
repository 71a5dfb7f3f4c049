use Rattle.std.proofs.Common.{◌-◌, All}
use Rattle.std.specs.List.{flat_map}
use Rattle.ascii_formats.specs.Parts.{IsFollowed}
use Rattle.examples.specs.Log.{IsElement, element_text}
use Rattle.examples.proofs.syslog.take_data.Given as goal

abbrev pub invariant-elements : goal.invariant-elements
invariant-elements l = IsFollowed l.start (flat_map element_text l.elements.items) l.rest
    × All IsElement l.elements.items

abbrev pub decreases-elements : goal.decreases-elements
decreases-elements l = l.rest.end - l.rest.start
