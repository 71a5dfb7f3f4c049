use Rattle.std.proofs.Common.{None, arith}
use Rattle.example_resp.proofs.StoreLemmas.{changes_contents}
use Rattle.example_resp.proofs.store.Store.delete.Goals as goal

pub returns-clause-found : goal.returns-clause-found
returns-clause-found c = grind arith

pub returns-clause-removed : goal.returns-clause-removed
returns-clause-removed c = changes_contents c.args.self.now
    (record { entries = c.remove.new.self }) c.args.key.now None c.remove.ensures.updates
