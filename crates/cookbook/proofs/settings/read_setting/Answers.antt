use Rattle.std.proofs.Common.{◌≡◌, [], rules}
use Rattle.ascii.specs.View.{text_of}
use Rattle.cookbook.proofs.SettingLemmas.{all_white}
use Rattle.cookbook.proofs.settings.read_setting.Goals as goal

pub returns-then-is_empty-2 : goal.returns-then-is_empty-2
returns-then-is_empty-2 c =
    let nothing : text_of c.trim-key.result ≡ [] = search rules in
    let white = all_white _ _ c.trim-key.ensures nothing in (
      _,
      c.without_comment-body.ensures,
      (_, _, c.in-Some.ensures, white, c.len-then-is_empty-2.ensures),
    )
