use Rattle.std.proofs.Common.{[], ◌∷◌, refl}
use Rattle.std.specs.Char.Escape.{backslash, hex_digit_at}
use Rattle.ascii_formats.proofs.NotationsLemmas.{cell_is}
use Rattle.ascii_formats.specs.declared.notations.TheConstants.{HEX_ESCAPES}
use Rattle.ascii_formats.proofs.notations.hex_escape.Goals as goal

pub returns : goal.returns
returns c =
    rw (c.slice.ensures, c.literal.ensures, c.from-at.ensures)
    (cell_is HEX_ESCAPES.now (λ n. backslash ∷ 120 ∷ hex_digit_at 16 n ∷ hex_digit_at 1 n ∷ []) 4 32
    c.args.code refl c.requires)
