use Rattle.std.proofs.Common.{sym, arith}
use Rattle.ascii.specs.View.{text_of}
use Rattle.ascii_keys.proofs.FoldedMapLemmas.{no_value, none_there, remove_absent, remove_in_order}
use Rattle.ascii_keys.proofs.FoldedMapLemmas.{remove_is, remove_there, value_there}
use Rattle.ascii_keys.proofs.maps.FoldedMap.remove.Goals as goal

pub invariant_of-self : goal.invariant_of-self
invariant_of-self over c = rw c.remove.ensures.items (remove_in_order
    c.self.inside.entries.items c.self.invariant (text_of c.args.key) c.in-Ok.place
    (rw c.self.view_is c.in-Ok.ensures.found))

pub returns-in-Ok-clause-before : goal.returns-in-Ok-clause-before
returns-in-Ok-clause-before over c = grind (arith, value_there)

pub returns-in-Ok-clause-removes : goal.returns-in-Ok-clause-removes
returns-in-Ok-clause-removes over c = grind (arith, remove_there)

pub returns-in-Ok-clause-entries : goal.returns-in-Ok-clause-entries
returns-in-Ok-clause-entries over c = rw (c.remove.ensures.items, ← c.self.view_is)
    (remove_is c.self.inside.entries.items c.self.invariant (text_of c.args.key) c.in-Ok.place
    (rw c.self.view_is c.in-Ok.ensures.found) c.remove.result c.remove.ensures.value)

pub returns-in-Err-clause-before : goal.returns-in-Err-clause-before
returns-in-Err-clause-before over c =
    sym (no_value c.args.self.now (text_of c.args.key) _ c.in-Err.ensures.absent)

pub returns-in-Err-clause-removes : goal.returns-in-Err-clause-removes
returns-in-Err-clause-removes over c =
    none_there c.args.self.now (text_of c.args.key) _ c.in-Err.ensures.absent

pub returns-in-Err-clause-entries : goal.returns-in-Err-clause-entries
returns-in-Err-clause-entries over c =
    remove_absent c.args.self.now (text_of c.args.key) _ c.in-Err.ensures.absent
