-- What std writes for a text by `{:?}`.
use Rattle.std.proofs.Common.{◌≡◌, ℕ, List, arith, Some}
use Rattle.std.proofs.lemmas.Bool.Decides.{nat_tests}
use Rattle.std.proofs.lemmas.Str.Ascii.{All-from_ascii}
use Rattle.std.proofs.lemmas.List.Sums.{list_all-from_AllPass}
use Rattle.std.specs.Fmt.{debug_str}
use Rattle.std.specs.Str.{IsAscii}
use Rattle.ascii.specs.View.{debug_text}

-- of codes it is known
pub debug_str-ascii : (t : List ℕ) → IsAscii t → debug_str t ≡ Some (debug_text t)
debug_str-ascii t h = grind (arith, list_all-from_AllPass, All-from_ascii, nat_tests)
