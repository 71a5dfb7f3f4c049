use Rattle.std.proofs.Common.{◌∙◌, refl}
use Rattle.ascii_keys.proofs.AsciiMapLemmas.{lookup_texts, writes_texts}
use Rattle.ascii_keys.proofs.maps.AsciiMap.get_mut.Goals as goal

pub returns : goal.returns
returns g c =
    let key = c.as_str.result.now in
    let old = c.self.inside.entries in
    let found = c.get_mut in
    rw (← c.self.view_is, ← c.as_str.ensures) (
      (
        refl,
        λ w. writes_texts key old (found.follows.lender w) w found.result found.ensures.value
            (found.follows.holds w),
        rw found.follows.holds-at-none refl,
      ),
      record { writes_back = tt; value = found.ensures.value ∙ lookup_texts key old.entries },
    )
