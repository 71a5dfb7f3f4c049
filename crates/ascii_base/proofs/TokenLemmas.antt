-- The characters of a token are those of its ranges.
use Rattle.std.proofs.Common.{ℕ, ◌≡◌, ◌<◌, true, refl, sym, ◌∙◌, IsTrue}
use Rattle.std.proofs.lemmas.Bool.{agree_below, agree_below_at}
use Rattle.ascii_base.specs.Class.{IsTokenCode, in_ranges}
use Rattle.ascii_base.specs.Tests.{is_token, is_token-decides}
use Rattle.ascii_base.specs.declared.classes.TheConstants.{TOKEN}

same_test : agree_below (in_ranges TOKEN) is_token 256 ≡ true
same_test = refl

-- a byte is in the ranges exactly where it is a character of a token
pub token_ranges : (x : ℕ) → x < 256
    → (IsTrue (in_ranges TOKEN x) → IsTokenCode x) × (IsTokenCode x → IsTrue (in_ranges TOKEN x))
unfolding IsTokenCode
token_ranges x byte =
    let token = is_token-decides x in
    let same = agree_below_at (in_ranges TOKEN) is_token 256 x same_test byte in
    (λ is. token.0 (sym same ∙ is), λ is. same ∙ token.1 is)
