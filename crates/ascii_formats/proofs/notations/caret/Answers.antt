use Rattle.std.proofs.Common.{◌+◌, [], ◌∷◌, refl}
use Rattle.ascii_formats.proofs.NotationsLemmas.{cell_is}
use Rattle.ascii_formats.specs.declared.notations.TheConstants.{CARETS}
use Rattle.ascii_formats.proofs.notations.caret.Goals as goal

pub returns : goal.returns
returns c =
    rw (c.slice.ensures, c.literal.ensures, c.from-at.ensures)
    (cell_is CARETS.now (λ n. 94 ∷ (n + 64) ∷ []) 2 32 c.args.code refl c.requires)
