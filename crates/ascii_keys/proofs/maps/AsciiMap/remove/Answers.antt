use Rattle.std.proofs.Common.{◌∙◌, None, subst, sym}
use Rattle.ascii_keys.proofs.AsciiMapLemmas.{ascii_less, changes_texts, lookup_texts}
use Rattle.ascii_keys.specs.Maps.{HasAsciiKeys}
use Rattle.ascii_keys.proofs.maps.AsciiMap.remove.Goals as goal

pub returns-clause-removes : goal.returns-clause-removes
returns-clause-removes over c = rw (← c.as_str.ensures, ← c.self.view_is)
    (changes_texts c.as_str.result.now c.self.inside.entries c.remove.new.self None
    c.remove.ensures.updates)

pub invariant_of-self : goal.invariant_of-self
invariant_of-self over c = subst HasAsciiKeys (sym c.remove.ensures.entries)
    (ascii_less _ c.self.inside.entries.entries c.self.invariant)

pub returns-clause-before : goal.returns-clause-before
returns-clause-before over c = rw (← c.as_str.ensures, ← c.self.view_is)
    (c.remove.ensures.value ∙ lookup_texts c.as_str.result.now c.self.inside.entries.entries)
