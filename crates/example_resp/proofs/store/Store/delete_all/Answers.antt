use Rattle.std.proofs.Common.{◌≡◌, ◌∙◌, List, None, ap, arith, false, get_or, subst, true, ℕ}
use Rattle.std.specs.Map.{update}
use Rattle.std.specs.Str.{bytes_eq}
use Rattle.std.specs.declared.alloc.Global.{Global}
use Rattle.std.specs.declared.vec.Vec.{Vec}
use Rattle.example_resp.specs.Store.{contents_of, one_at}
use Rattle.example_resp.proofs.CountLemmas.{one_found, removed_more, removes_more}
use Rattle.example_resp.proofs.store.Store.delete_all.Goals as goal
use Rattle.example_resp.proofs.store.Store.delete_all.Goals.{else-delete, then-delete}

pub loop-key-preserved : goal.loop-key-preserved
loop-key-preserved c =
    let first = contents_of c.args.self.now in
    let held = contents_of c.loop-key.self in
    let new = contents_of c.delete.new.self in
    let keys = c.args.keys.now in
    let i = c.loop-key.key-index in
    let key = c.key-item.result in
    let same = c.as_slice.ensures.value ∙ ap (λ (k : Vec ℕ Global). k.items) c.key-item.is in
    let before = c.loop-key.invariant.1 in
    let more = removed_more first held keys i key c.loop-key-test.true before in
    let gone = removes_more first held new keys i key c.loop-key-test.true before
    (subst (λ text. (other : List ℕ) → new other ≡ update bytes_eq held text None other) same
    c.delete.ensures.removed) in
    elim c.if-delete.branch [
      | then-delete w ↦
          let one : one_at held (get_or keys i key).items ≡ 1 =
          one_found held _ _ _ true same c.delete.ensures.found w.if-delete.true in (
            omega (arith, w.count-is, c.loop-key.invariant.0, more, one),
            gone,
            omega (arith, w.count-is, c.loop-key.invariant.2),
          )
      | else-delete w ↦
          let none : one_at held (get_or keys i key).items ≡ 0 =
          one_found held _ _ _ false same c.delete.ensures.found w.if-delete.false in (
            omega (arith, w.count-is, c.loop-key.invariant.0, more, none),
            gone,
            omega (arith, w.count-is, c.loop-key.invariant.2),
          )
    ]
