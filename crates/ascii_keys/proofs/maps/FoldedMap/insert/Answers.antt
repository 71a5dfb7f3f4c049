use Rattle.std.proofs.Common.{sym, arith}
use Rattle.ascii.specs.View.{text_of}
use Rattle.ascii_keys.proofs.FoldedMapLemmas.{insert_in_order, insert_there, keys_inserted}
use Rattle.ascii_keys.proofs.FoldedMapLemmas.{keys_there, no_value, not_there, set_there}
use Rattle.ascii_keys.proofs.FoldedMapLemmas.{value_there}
use Rattle.ascii_keys.proofs.maps.FoldedMap.insert.Goals as goal

pub invariant_of-self-in-Err : goal.invariant_of-self-in-Err
invariant_of-self-in-Err over c = grind (arith, insert_in_order)

pub returns-in-Ok-clause-before : goal.returns-in-Ok-clause-before
returns-in-Ok-clause-before over c = grind (arith, value_there)

pub returns-in-Ok-clause-puts : goal.returns-in-Ok-clause-puts
returns-in-Ok-clause-puts over c = grind (arith, set_there)

pub returns-in-Ok-clause-keys : goal.returns-in-Ok-clause-keys
returns-in-Ok-clause-keys over c = rw (← c.self.view_is, c.replace.ensures.after)
    (keys_there c.self.inside.entries.items c.self.invariant (text_of c.args.key) c.in-Ok.place
    (rw c.self.view_is c.in-Ok.ensures.found) c.index_mut.result.now c.index_mut.ensures.value
    c.args.value)

pub returns-in_ok-insert-in-Err-clause-before : goal.returns-in_ok-insert-in-Err-clause-before
returns-in_ok-insert-in-Err-clause-before over c =
    sym (no_value c.args.self.now (text_of c.args.key) _ c.in-Err.ensures.absent)

pub returns-in_ok-insert-in-Err-clause-puts : goal.returns-in_ok-insert-in-Err-clause-puts
returns-in_ok-insert-in-Err-clause-puts over c = grind (arith, insert_there)

pub returns-in_ok-insert-in-Err-clause-keys : goal.returns-in_ok-insert-in-Err-clause-keys
returns-in_ok-insert-in-Err-clause-keys over c =
    rw (
      c.in_ok-insert-in-Err.ensures.items,
      c.in_ok-key-in-Err.ensures,
      c.new.ensures,
      c.self.view_is,
    ) (keys_inserted
    c.args.self.now (text_of c.args.key) c.in-Err.place c.in-Err.ensures.absent c.args.value)

pub returns-in_err-key-in-Err-clause-there : goal.returns-in_err-key-in-Err-clause-there
returns-in_err-key-in-Err-clause-there over c = λ some. absurd
    (not_there c.args.self.now (text_of c.args.key) _ c.in-Err.ensures.absent some)

pub returns-in_err-insert-in-Err-clause-there : goal.returns-in_err-insert-in-Err-clause-there
returns-in_err-insert-in-Err-clause-there over c = λ some. absurd
    (not_there c.args.self.now (text_of c.args.key) _ c.in-Err.ensures.absent some)
