use Rattle.std.proofs.Common.{◌≡◌, ◌∙◌, List, ◌∷◌, ◌++◌, [], None, Option, Some, subst, ℕ}
use Rattle.std.specs.Option.{IfSome}
use Rattle.ascii.specs.Cuts.{IsRemainder}
use Rattle.ascii.specs.Pieces.{Pieces, Remaining}
use Rattle.ascii.specs.TheCuts.{at_code}
use Rattle.ascii.specs.View.{text_of}
use Rattle.ascii.specs.declared.ascii_str.AsciiStr.{AsciiStr}
use Rattle.ascii.proofs.CallerLemmas.{last_of_pieces}
use Rattle.tests_callers.proofs.remainders.stem.Goals as goal

module _ (on : ℕ) (text last : List ℕ) (left : Remaining ℕ (List ℕ)) where
  before_last : (result : Option AsciiStr) → Pieces text on (left.items ++ last ∷ [])
      → left.on ≡ on → IsRemainder at_code left result
      → IfSome result (λ stem. (extension : List ℕ) × (text_of stem ++ on ∷ extension ≡ text))
  before_last None whole is rest = tt
  before_last (Some stem) whole is rest = (
    last,
    last_of_pieces on text (text_of stem) last left.items whole
        (subst (λ o. Pieces (text_of stem) o left.items) is rest.1),
  )

pub returns : goal.returns
returns c =
    let steps = c.in_ok-next_back.ensures.steps in
    let found = c.split-pieces.ensures.iterates in
    let text = text_of c.args.name in
    before_last 46 text (text_of c.in_ok-next_back.field-0) c.next_back.new.self c.remainder.result
    (subst (Pieces text 46) steps.0 found.pieces) (steps.1.0 ∙ found.separator)
    c.remainder.ensures
