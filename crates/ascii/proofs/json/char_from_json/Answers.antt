use Rattle.std.proofs.Common.{arith}
use Rattle.ascii.proofs.JsonLemmas.{one_byte_below}
use Rattle.ascii.proofs.json.char_from_json.Goals as goal

pub from_ascii_unchecked-requires : goal.from_ascii_unchecked-requires
from_ascii_unchecked-requires c = grind (arith, one_byte_below)
