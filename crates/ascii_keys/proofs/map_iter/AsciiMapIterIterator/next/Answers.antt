use Rattle.std.proofs.Common.{subst}
use Rattle.ascii_keys.proofs.AsciiMapLemmas.{ascii_tail}
use Rattle.ascii_keys.specs.Maps.{HasAsciiKeys}
use Rattle.ascii_keys.proofs.map_iter.AsciiMapIterIterator.next.Goals as goal

pub invariant_of-self-2 : goal.invariant_of-self-2
invariant_of-self-2 g c = ascii_tail (c.in_ok-key.key.now, c.in_ok-key.value.now) c.next.new.self
    (subst HasAsciiKeys c.in_ok-key.ensures.steps c.self.invariant)
