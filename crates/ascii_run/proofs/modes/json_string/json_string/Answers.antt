use Rattle.std.proofs.Common.{◌≡◌, ◌∙◌, subst, sym, arith}
use Rattle.std.specs.Str.{IsAscii}
use Rattle.ascii_run.specs.Modes.Json.{json_text}
use Rattle.ascii.specs.View.{text_of}
use Rattle.ascii_run.proofs.JsonTextLemmas.{IsAscii-json_text, printed}
use Rattle.ascii_run.proofs.modes.json_string.json_string.Goals as goal

pub from_ascii_unchecked-requires : goal.from_ascii_unchecked-requires
from_ascii_unchecked-requires g c =
    let is : c.into_inner.result.items ≡ json_text (text_of c.args.text) =
    printed _ _ _ _ _ _ c.into_inner.ensures.items (grind arith)
    c.in_ok-string.ensures.ok c.new-writer.ensures.tokens c.as_str.ensures in
    subst IsAscii (sym is) (IsAscii-json_text (text_of c.args.text) c.args.text.ascii)

pub returns : goal.returns
returns g c =
    c.from_ascii_unchecked.ensures.text ∙ printed _ _ _ _ _ _ c.into_inner.ensures.items
    (grind arith) c.in_ok-string.ensures.ok c.new-writer.ensures.tokens c.as_str.ensures
