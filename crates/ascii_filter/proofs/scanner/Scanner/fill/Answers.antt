use Rattle.std.proofs.Common.{◌≡◌, [], arith, length, refl, rules, take, length-take-le}
use Rattle.ascii_devices.proofs.HistoryLemmas.{Gives-end, read_fails, read_gives}
use Rattle.ascii_filter.proofs.ScannerLemmas.{held_of}
use Rattle.ascii_filter.proofs.scanner.Scanner.fill.Goals as goal

pub returns-in_default-clause-outcome : goal.returns-in_default-clause-outcome
returns-in_default-clause-outcome g c = (
  [],
  read_fails g.S.Source c.args.reader.now c.read.new.self c.in_default.ensures.count
      c.in_default.ensures.history,
  refl,
)

pub returns-in_default-checked_sub-clause-outcome :
    goal.returns-in_default-checked_sub-clause-outcome
returns-in_default-checked_sub-clause-outcome g c =
    let n = c.in-Ok.n in
    let room : c.args.self.now.room ≡ c.self.inside.room = search rules in
    let part = take n c.read.new.buf in
    let long = length-take-le n c.read.new.buf c.in-Ok.ensures.bytes.0 in (
      part,
      read_gives g.S.Source c.args.reader.now c.read.new.self part c.in-Ok.ensures.bytes.1
          c.in-Ok.ensures.history,
      omega (arith, long, room, c.in_default-checked_sub.ensures),
    )

pub returns-clause-outcome : goal.returns-clause-outcome
returns-clause-outcome g c =
    let n = c.in-Ok.n in
    let room : c.args.self.now.room ≡ c.self.inside.room = search rules in
    let part = take n c.read.new.buf in
    let long = length-take-le n c.read.new.buf c.in-Ok.ensures.bytes.0 in
    let same : length c.read.new.buf ≡ c.self.inside.chunk.len = search rules in
    let gives =
    read_gives g.S.Source c.args.reader.now c.read.new.self part c.in-Ok.ensures.bytes.1
    c.in-Ok.ensures.history in (
      part,
      gives,
      (
        held_of n c.self.inside.chunk.len c.read.new.buf _ same,
        λ none. Gives-end g.S.Source c.args.reader.now c.read.new.self part gives
            c.in-Ok.ensures.count (c.in-Ok.ensures.end none),
        long,
        search rules,
        omega (arith, room, c.in-Some.ensures),
        search rules,
      ),
    )
