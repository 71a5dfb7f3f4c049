use Rattle.std.proofs.Common.{◌≡◌, Some, rules}
use Rattle.example_resp.proofs.StoreLemmas.{changes_contents}
use Rattle.example_resp.proofs.store.Store.set.Goals as goal

pub returns : goal.returns
returns c =
    let key : c.in_ok-key.key.items ≡ c.args.key.now = search rules in
    let value : c.in_ok-value.value.items ≡ c.args.value.now = search rules in
    rw (← key, ← value)
    (changes_contents c.args.self.now (record { entries = c.insert.new.self })
    c.in_ok-key.key.items (Some c.in_ok-value.value) c.in_ok-insert.ensures.updates)
