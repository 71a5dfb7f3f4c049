use Rattle.ascii.specs.View.{text_of}
use Rattle.ascii_formats.proofs.QuotesLemmas.{quoted_taken}
use Rattle.tests_callers.proofs.quotes.take_back.Goals as goal

pub returns : goal.returns
returns c =
    quoted_taken (λ taken. text_of taken.0) (λ taken. text_of taken.1) _ _ _ _ _ _ c.requires
    c.take_quoted.ensures
