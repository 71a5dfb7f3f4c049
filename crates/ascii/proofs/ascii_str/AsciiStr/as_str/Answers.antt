use Rattle.std.proofs.lemmas.Str.{IsUtf8-from_ascii}
use Rattle.ascii.proofs.ascii_str.AsciiStr.as_str.Goals as goal

pub from_utf8_unchecked-requires : goal.from_utf8_unchecked-requires
from_utf8_unchecked-requires c = IsUtf8-from_ascii _ c.args.self.ascii
