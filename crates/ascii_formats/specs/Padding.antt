-- Texts that are filled up to a width.
use Rattle.std.specs.Prelude.{◌≡◌, ℕ, ◌+◌, ◌-◌, ◌/◌, ◌<◌, ◌≤◌, List, [], ◌++◌, length, replicate}
use Rattle.std.specs.Prelude.{IsOk, OnErr, OnOk}
use Rattle.std.below.core.specs.declared.fmt.formatter.Alignment.{Alignment}
use Rattle.std.below.core.specs.declared.fmt.formatter.Alignment.TheVariants.{Left, Right, Center}
use Rattle.std.specs.declared.result.Result.{Result}
use Rattle.ascii.specs.StringState.{StringState}

-- how many of `padding` characters come before a text that is aligned so
abbrev pub padding_before : Alignment → ℕ → ℕ
padding_before Left padding = 0
padding_before Right padding = padding
padding_before Center padding = padding / 2

-- `text` and as many codes `fill` as it is shorter than `width`, before it and after it as aligned
abbrev pub padded : Alignment → ℕ → ℕ → List ℕ → List ℕ
padded align width fill text =
    let padding = width - length text in
    let before = padding_before align padding in
    replicate before fill ++ (text ++ replicate (padding - before) fill)

-- ---- only private calls cite the following

-- `Ok`: `codes` are appended. `Err`: none or some of them are, and with all of them the text fits
-- neither the old capacity nor `sure` codes. Never `Err` if `codes` is empty. The capacity never shrinks.
pub record AppendsInParts {E : Type 0} (sure : ℕ) (codes : List ℕ) (old new : StringState)
    (result : Result (Unit {0}) E) : Type 0 where
  pub ok : OnOk result (new.text ≡ old.text ++ codes)
  pub err : OnErr result ((done : List ℕ) × (new.text ≡ old.text ++ done))
  pub full : OnErr result (old.capacity < length old.text + length codes)
  pub beyond : OnErr result (sure < length old.text + length codes)
  pub nothing : codes ≡ [] → IsOk result
  pub capacity : old.capacity ≤ new.capacity
