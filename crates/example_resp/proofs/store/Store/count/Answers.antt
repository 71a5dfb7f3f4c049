use Rattle.std.proofs.Common.{◌≡◌, ◌∙◌, ap, arith, false, get_or, true, ℕ}
use Rattle.std.specs.declared.alloc.Global.{Global}
use Rattle.std.specs.declared.vec.Vec.{Vec}
use Rattle.example_resp.specs.Store.{contents_of, one_at}
use Rattle.example_resp.proofs.CountLemmas.{counts_more, one_found}
use Rattle.example_resp.proofs.store.Store.count.Goals as goal
use Rattle.example_resp.proofs.store.Store.count.Goals.{else-contains, then-contains}

pub loop-key-preserved : goal.loop-key-preserved
loop-key-preserved c =
    let held = contents_of c.args.self.now in
    let keys = c.args.keys.now in
    let i = c.loop-key.key-index in
    let key = c.key-item.result in
    let same = c.as_slice.ensures.value ∙ ap (λ (k : Vec ℕ Global). k.items) c.key-item.is in
    let more = counts_more held keys i key c.loop-key-test.true in
    elim c.if-contains.branch [
      | then-contains w ↦
          let one : one_at held (get_or keys i key).items ≡ 1 =
          one_found held _ _ _ true same c.contains.ensures w.if-contains.true in (
            omega (arith, w.count-is, c.loop-key.invariant.0, more, one),
            omega (arith, w.count-is, c.loop-key.invariant.1),
          )
      | else-contains w ↦
          let none : one_at held (get_or keys i key).items ≡ 0 =
          one_found held _ _ _ false same c.contains.ensures w.if-contains.false in (
            omega (arith, w.count-is, c.loop-key.invariant.0, more, none),
            omega (arith, w.count-is, c.loop-key.invariant.1),
          )
    ]
