-- The text of a value that is borrowed or owned.
use Rattle.std.specs.Prelude.{◌≡◌, ⊤, ℕ, List}
use Rattle.std.specs.declared.result.Result.{Result}
use Rattle.std.specs.declared.result.Result.TheVariants.{Ok}
use Rattle.ascii.specs.StringState.{StringState}
use Rattle.ascii.specs.declared.boxed.CowAsciiStr.{CowAsciiStr}
use Rattle.ascii.specs.declared.boxed.CowAsciiStr.TheVariants.{Borrowed, Owned}
use Rattle.ascii.specs.View.{text_of}

-- the codes, borrowed or owned
abbrev pub cow_text : {A : Type 0} → CowAsciiStr A → List ℕ
cow_text (Borrowed view) = text_of view
cow_text (Owned string) = string.text

-- an owned string is returned as it is, as `Ok`
abbrev pub OwnedStays : {A : Type 0} → CowAsciiStr A
    → Result StringState (CowAsciiStr A) → Type 0
OwnedStays (Borrowed view) result = ⊤
OwnedStays (Owned string) result = result ≡ Ok string
