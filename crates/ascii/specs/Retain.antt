-- The characters of a text that a closure keeps.
use Rattle.std.specs.Prelude.{◌≡◌, ℕ, Bool, List, map}
use Rattle.std.specs.Fn.{Called, Mut}
use Rattle.std.specs.List.Retain.{IsFiltered}
use Rattle.ascii_base.specs.Code.{code_of}
use Rattle.ascii_base.specs.declared.ascii_char.AsciiChar.{AsciiChar}

-- `new` has the codes of those characters of `old` for which the closure `keep` returned `true`, in
-- order; it was called once for each character, from the first to the last
pub record RetainsChars {F : Type 0} (calls : Mut F (AsciiChar × Unit {0}) Bool) (keep : F)
    (old new : List ℕ) : Type 0 where
  pub all : List AsciiChar
  pub kept : List AsciiChar
  pub are : map code_of all ≡ old
  pub chosen : IsFiltered (λ f ch stays g. Called calls f (ch, tt) stays g) keep all kept
  pub stay : map code_of kept ≡ new
