use Rattle.std.proofs.Common.{◌≡◌, ◌∙◌, ℕ, List, ◌∷◌, Option, None, Some, subst}
use Rattle.std.specs.List.{join_with_byte}
use Rattle.std.specs.Option.{IfSome}
use Rattle.ascii.specs.Code.{code_of}
use Rattle.ascii.specs.Pieces.{IsRemainderUpTo, PiecesUpTo, Remaining}
use Rattle.ascii.specs.View.{text_of}
use Rattle.ascii.specs.declared.ascii_str.AsciiStr.{AsciiStr}
use Rattle.tests_callers.proofs.remainders.after_first_piece.Goals as goal

module _ (n on : ℕ) (text first : List ℕ) (all left : Remaining ℕ (List ℕ)) where
  after_first : (result : Option AsciiStr) → PiecesUpTo n text on all.items → all.on ≡ on
      → all.items ≡ first ∷ left.items → left.on ≡ all.on → IsRemainderUpTo left result
      → IfSome result (λ rest. (first : List ℕ) × (others : List (List ℕ))
      × PiecesUpTo n text on (first ∷ others) × (join_with_byte on others ≡ text_of rest))
  after_first None whole is items kept none = tt
  after_first (Some rest) whole is items kept tail = (
    first,
    left.items,
    subst (PiecesUpTo n text on) items whole,
    subst (λ o. join_with_byte o left.items ≡ text_of rest) (kept ∙ is)
        (tail.2.pieces.joined tail.1),
  )

pub returns : goal.returns
returns c =
    let steps = c.in_ok-next.ensures.steps in
    after_first c.args.n (code_of c.args.on) (text_of c.args.view) (text_of c.in_ok-next.field-0)
    c.splitn-pieces.result c.next.new.self c.remainder.result c.splitn-pieces.ensures.iterates.pieces
    c.splitn-pieces.ensures.separator steps.0 steps.1 c.remainder.ensures
