use Rattle.ascii.specs.View.{text_of}
use Rattle.ascii_keys.proofs.FoldedMapLemmas.{insert_in_order, place_inserted, put_inserted}
use Rattle.ascii_keys.proofs.FoldedMapLemmas.{not_there, put_same}
use Rattle.ascii_keys.proofs.maps.FoldedMap.put_if_absent.Goals as goal

pub invariant_of-self-in-Err : goal.invariant_of-self-in-Err
invariant_of-self-in-Err g c =
    rw (c.in_ok-insert-in-Err.ensures.items, c.in_ok-key-in-Err.ensures, c.new.ensures)
    (insert_in_order c.self.inside.entries.items (text_of c.args.key) c.in-Err.place
    (rw c.self.view_is c.in-Err.ensures.absent) c.args.default c.self.invariant)

pub returns-in-Ok-clause-put : goal.returns-in-Ok-clause-put
returns-in-Ok-clause-put g c =
    let found = c.in-Ok.ensures.found in (
      found,
      rw (← c.self.view_is) (put_same c.self.inside.entries.items c.self.invariant
          (text_of c.args.key) c.in-Ok.place (rw c.self.view_is found) c.args.default),
    )

pub returns-in_ok-insert-in-Err-clause-put : goal.returns-in_ok-insert-in-Err-clause-put
returns-in_ok-insert-in-Err-clause-put g c =
    let old = c.args.self.now in
    let key = text_of c.args.key in
    let absent = c.in-Err.ensures.absent in
    rw (
      c.in_ok-insert-in-Err.ensures.items,
      c.in_ok-key-in-Err.ensures,
      c.new.ensures,
      c.self.view_is,
    ) (
      place_inserted old key c.in-Err.place absent c.args.default,
      put_inserted old key c.in-Err.place absent c.args.default,
    )

pub returns-in_err-key-in-Err-clause-there : goal.returns-in_err-key-in-Err-clause-there
returns-in_err-key-in-Err-clause-there g c = λ some. absurd
    (not_there c.args.self.now (text_of c.args.key) _ c.in-Err.ensures.absent some)

pub returns-in_err-insert-in-Err-clause-there : goal.returns-in_err-insert-in-Err-clause-there
returns-in_err-insert-in-Err-clause-there g c = λ some. absurd
    (not_there c.args.self.now (text_of c.args.key) _ c.in-Err.ensures.absent some)
