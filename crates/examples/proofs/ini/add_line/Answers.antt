use Rattle.std.proofs.Common.{◌≡◌, inr, refl, rules}
use Rattle.std.proofs.lemmas.List.Elements.{All-push}
use Rattle.examples.specs.Entries.{IsEntryOf, IsLineError}
use Rattle.examples.proofs.EntriesLemmas.{fails_with}
use Rattle.examples.proofs.ini.add_line.Goals as goal

pub returns-in_err-read_line-clause-line : goal.returns-in_err-read_line-clause-line
returns-in_err-read_line-clause-line c =
    fails_with c.from_residual.result c.in_err-read_line.field-0.0 _ (IsLineError c.args.line)
    c.from_residual.ensures.1 (inr c.in_err-read_line.ensures.line)

pub returns-in-Ok-clause-parts : goal.returns-in-Ok-clause-parts
returns-in-Ok-clause-parts c =
    let text = c.args.section.whole in
    let (key, value) : (c.in-Setting.key.whole ≡ text) × (c.in-Setting.value.whole ≡ text) =
    search rules in (
      refl,
      rw c.in-Ok.ensures.items (All-push (IsEntryOf text) _ _ c.requires.entries
          (record { section = refl; key = key; value = value })),
    )
