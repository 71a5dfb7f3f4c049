use Rattle.std.proofs.Common.{◌≡◌, ◌-◌, ◌++◌, All, length}
use Rattle.std.specs.List.{flat_map}
use Rattle.ascii.specs.View.{text_of}
use Rattle.ascii_formats.specs.Parts.{part_text}
use Rattle.examples.specs.Tokens.{AreLaid, IsTokenOf, token_text}
use Rattle.examples.proofs.tokens.read_tokens.Given as goal

abbrev pub invariant-tokens : goal.invariant-tokens
invariant-tokens l = (flat_map token_text l.tokens.items ++ part_text l.rest ≡ text_of l.text)
    × All (IsTokenOf l.text) l.tokens.items × (l.rest.whole ≡ l.text)
    × AreLaid 0 l.tokens.items l.rest.start × (l.rest.end ≡ length (text_of l.text))

abbrev pub decreases-tokens : goal.decreases-tokens
decreases-tokens l = l.rest.end - l.rest.start
