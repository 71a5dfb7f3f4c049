use Rattle.std.proofs.Common.{refl, subst, sym, ℕ}
use Rattle.std.specs.Prelude.{MatchOption}
use Rattle.ascii.specs.View.{text_of}
use Rattle.ascii_show.proofs.WordLemmas.{number_read}
use Rattle.ascii_show.specs.Words.{AreDigitsOf}
use Rattle.ascii_show.proofs.arguments.parse_number.Goals as goal

pub returns : goal.returns
returns c =
    let text = text_of c.args.digits in
    subst (λ read. MatchOption read (¬ ((n : ℕ) × AreDigitsOf text n)) (AreDigitsOf text))
    (sym c.ok.ensures.value) (number_read _ text c.to_number.result refl c.to_number.ensures)
