-- Tokens that come one after the other.
use Rattle.std.proofs.Common.{◌≡◌, ℕ, ◌+◌, List, [], ◌∷◌, ◌++◌, arith, refl}
use Rattle.examples.specs.declared.tokens.Token.{Token}
use Rattle.examples.specs.Tokens.{AreLaid, lead, tail}

-- one more token, which starts where they end
pub laid_push : (at end : ℕ) (tokens : List Token) (token : Token) → AreLaid at tokens end
    → token.part.start ≡ end + lead token.kind
    → AreLaid at (tokens ++ token ∷ []) (token.part.end + tail token.kind)
laid_push at end [] token laid start = (omega (arith, laid, start), refl)
laid_push at end (first ∷ tokens) token laid start =
    (laid.0, laid_push (first.part.end + tail first.kind) end tokens token laid.1 start)
