use Rattle.std.proofs.Common.{◌≡◌, [], ◌∷◌, ◌+◌, map, subst, sym, arith}
use Rattle.ascii_run.specs.Modes.Json.{AreEscapes, json_text}
use Rattle.ascii_run.proofs.JsonTextLemmas.{escape_more}
use Rattle.ascii_run.proofs.modes.json_string.Escapes.new.Goals as goal

pub loop-code-preserved : goal.loop-code-preserved
loop-code-preserved g c =
    let escape = c.in_ok-json_string.field-0 in
    let is : escape.text ≡ json_text (c.loop-code.code ∷ []) = grind arith in
    subst (λ items. AreEscapes (c.loop-code.code + 1) (map (λ escape. escape.text) items))
    (sym c.in_ok-push.ensures.items)
    (escape_more (λ escape. escape.text) c.loop-code.strings.items escape c.loop-code.code
    c.loop-code.invariant is)
