use Rattle.std.proofs.Common.{refl}
use Rattle.ascii.specs.View.{text_of}
use Rattle.ascii_keys.proofs.FoldedMapLemmas.{put_there, set_in_order, value_put}
use Rattle.ascii_keys.proofs.maps.FoldedMap.get_or_insert.Goals as goal

pub invariant_of-self-lent : goal.invariant_of-self-lent
invariant_of-self-lent g c = λ w. set_in_order c.self.inside.entries.items c.self.invariant
    (text_of c.args.key) c.in_ok-place.place (rw c.self.view_is c.in_ok-place.ensures.put.0)
    c.index_mut.result.now c.index_mut.ensures.value w

pub returns : goal.returns
returns g c =
    let entries = c.self.inside.entries.items in
    let key = text_of c.args.key in
    let old = c.args.self.now in
    let put = c.in_ok-place.ensures.put in
    let is = rw (← c.self.view_is) at put.0 in
    let puts = rw (← c.self.view_is) at put.1 in (
      (
        refl,
        λ w _. put_there entries c.self.invariant key c.in_ok-place.place is
            c.index_mut.result.now c.index_mut.ensures.value old _ puts w,
        tt,
      ),
      record {
        writes_back = tt;
        value = value_put entries c.self.invariant key c.in_ok-place.place is
            c.index_mut.result.now c.index_mut.ensures.value old _ puts;
        there = λ _. refl;
      },
    )
