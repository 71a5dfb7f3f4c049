use Rattle.std.proofs.Common.{◌-◌, arith}
use Rattle.std.proofs.lemmas.Str.{IsAscii-take}
use Rattle.ascii_formats.proofs.PaddingLemmas.{hex_ascii}
use Rattle.ascii_formats.proofs.strings.TextAsciiStringExt.push_hex.Goals as goal

pub as_ascii_str_unchecked-digits-requires : goal.as_ascii_str_unchecked-digits-requires
as_ascii_str_unchecked-digits-requires g c = grind (arith, IsAscii-take, hex_ascii)
