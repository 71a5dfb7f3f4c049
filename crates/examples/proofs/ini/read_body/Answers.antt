use Rattle.std.proofs.Common.{rules, refl}
use Rattle.examples.proofs.ini.read_body.Goals as goal

pub returns-then-is_empty-3-clause-body : goal.returns-then-is_empty-3-clause-body
returns-then-is_empty-3-clause-body c =
    let cut = c.in-Some-split_once_by in (
      refl,
      record { some = search rules; comment = search rules; section = search rules },
      (
        c.trim-key.result,
        c.trim-value.result,
        record {
          sides = (cut.key, cut.value);
          cut = cut.ensures.text;
          place = cut.ensures.place;
          trimmed_key = c.trim-key.ensures;
          trimmed_value = c.trim-value.ensures;
        },
        search rules,
      ),
    )

pub returns-clause-body : goal.returns-clause-body
returns-clause-body c =
    let cut = c.in-Some-split_once_by in (
      record { some = search rules; comment = search rules; section = search rules },
      record {
        sides = (cut.key, cut.value);
        cut = cut.ensures.text;
        place = cut.ensures.place;
        trimmed_key = c.trim-key.ensures;
        trimmed_value = c.trim-value.ensures;
      },
      search rules,
    )
