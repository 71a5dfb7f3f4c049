use Rattle.ascii.specs.View.{text_of}
use Rattle.ascii_formats.specs.Quotes.{quoted_text}
use Rattle.cookbook.proofs.CsvLemmas.{written_in_quotes, written_plain}
use Rattle.cookbook.proofs.csv.push_field.Goals as goal

pub returns-then-is_all : goal.returns-then-is_all
returns-then-is_all c =
    let text = text_of c.args.text in
    (text, written_plain text (c.is_all.ensures.0 c.if-is_all.true), c.push_str.ensures)

pub returns : goal.returns
returns c =
    let text = text_of c.args.text in (
      quoted_text 34 34 text,
      written_in_quotes text (λ plain. cc (c.is_all.ensures.1 plain, c.if-is_all.false)),
      c.push_quoted.ensures,
    )
