use Rattle.std.proofs.Common.{◌≡◌, ◌+◌, ◌-◌, ◌∷◌, ◌++◌, ◌∙◌, ap, rules, take, drop}
use Rattle.std.proofs.Common.{arith, get_or}
use Rattle.ascii_formats.specs.Places.{place_after}
use Rattle.ascii_filter.proofs.ScannerLemmas.{ascii_before, cut_held}
use Rattle.ascii_filter.proofs.scanner.Scanner.next_held.Goals as goal

pub returns : goal.returns
returns g c =
    let start = c.self.inside.start in
    let end = c.self.inside.end in
    let items = c.deref.result.now in
    let held = take (end - start) (drop start items) in
    let at = c.in-Some.at in
    let first = c.in-Some.ensures in
    let is : c.args.self.now.held ≡ held = search rules in
    let same : items ≡ c.self.inside.chunk.items = search rules in
    let place : c.self.inside.place ≡ c.args.self.now.place = search rules in (
      take at held,
      is ∙ (cut_held items start end at first.inside
          ∙ ap (λ all. take at held ++ get_or held at 0
          ∷ take (end - (start + (at + 1))) (drop (start + (at + 1)) all)) same),
      ascii_before held at first,
      omega (arith, first.other),
      c.after-place.ensures.place ∙ ap (λ one. place_after one (take at held)) place,
      c.after_byte-self-inside.ensures,
      search rules,
      search rules,
    )
