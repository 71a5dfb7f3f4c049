use Rattle.std.proofs.lemmas.Str.{IsUtf8-from_ascii}
use Rattle.ascii.proofs.ascii_string.StringFromAsciiString.from.Goals as goal

pub from_utf8_unchecked-requires : goal.from_utf8_unchecked-requires
from_utf8_unchecked-requires g c = IsUtf8-from_ascii _ c.string.invariant
