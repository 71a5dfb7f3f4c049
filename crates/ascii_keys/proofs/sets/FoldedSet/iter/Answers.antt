use Rattle.ascii_keys.proofs.sets.FoldedSet.iter.Goals as goal

pub returns : goal.returns
returns c = rw (← c.self.view_is) c.keys.ensures
