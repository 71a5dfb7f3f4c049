use Rattle.std.proofs.Common.{refl}
use Rattle.hex.specs.Hex.{lower_digits}
use Rattle.hex.proofs.HexLemmas.{IsAscii-encode_with}
use Rattle.ascii.proofs.CallerLemmas.{ascii_by_test}
use Rattle.tests_callers.proofs.encodings.hex_encoded.Goals as goal

pub from_ascii_unchecked-requires : goal.from_ascii_unchecked-requires
from_ascii_unchecked-requires c =
    rw (c.into_bytes.ensures.value, c.in_ok-text.ensures)
    (IsAscii-encode_with lower_digits _ (ascii_by_test lower_digits refl))
