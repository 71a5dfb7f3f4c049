use Rattle.std.proofs.Common.{◌≡◌, arith, take, drop}
use Rattle.ascii_formats.specs.Places.{feeds}
use Rattle.ascii_formats.proofs.PlaceLemmas.{feeds-cut}
use Rattle.ascii_formats.proofs.line_feeds.count_feeds.Goals as goal

pub parts-preserved : goal.parts-preserved
parts-preserved c =
    let rest = c.parts.rest.now in
    let few : c.from-count.result ≡ feeds (take 255 rest) = grind arith in
    let others : feeds c.split_at.result.1.now ≡ feeds (drop 255 rest) = grind arith in (
      omega (arith, few, others, feeds-cut 255 rest, c.parts.invariant.0),
      grind arith,
    )
