use Rattle.std.proofs.Common.{◌≡◌, ◌∷◌, ◌++◌, MatchOption, [], append_assoc, arith, rules, sym}
use Rattle.ascii_formats.specs.Parts.{part_text}
use Rattle.cookbook.specs.MediaType.{IsParameter, IsSection}
use Rattle.cookbook.proofs.MediaTypeLemmas.{takes_after}
use Rattle.cookbook.proofs.media_type.take_section.Goals as goal

pub returns : goal.returns
returns c =
    let before = part_text c.span.result.0 in
    let after = part_text c.span-2.result.0 in
    let semicolon = c.in_ok-expect.ensures.followed.joined in
    takes_after (λ written found. MatchOption found (written ≡ []) (IsParameter written)) IsSection
    c.args.start c.span-2.result.1 (before ++ 59 ∷ after)
    (grind (
      arith,
      append_assoc,
      c.span.ensures.text.joined,
      semicolon,
      c.span-2.ensures.text.joined,
    )) (search rules) (λ written found says. record {
      before = before;
      after = after;
      parameter = written;
      joined = sym (append_assoc before (59 ∷ after) written);
      blank_before = c.span.ensures.text.within;
      blank_after = c.span-2.ensures.text.within;
      says = says;
    }) c.take_parameter.result c.take_parameter.ensures
