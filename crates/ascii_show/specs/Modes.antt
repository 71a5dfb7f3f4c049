-- The modes of the program: the name of each, and the arguments that it takes.
use Rattle.std.specs.Prelude.{ℕ, List, [], ◌∷◌, ◌++◌, codes, map}
use Rattle.std.specs.Borrow.{Bor}
use Rattle.std.specs.List.{join_with_byte}
use Rattle.ascii_run.specs.declared.modes.Mode.{Mode}
use Rattle.ascii_run.specs.declared.modes.Mode.TheVariants.{Copy, Lines, Tac, Caret, Ends, Edit}
use Rattle.ascii_run.specs.declared.modes.Mode.TheVariants.{Json}
use Rattle.ascii_run.specs.Names.{mode_name}

-- a script of no ends, and no commands: the name of a mode does not depend on them
abbrev pub nothing : {A : Type 0} → Bor (List A)
nothing = record { ref_ptr = (0, 0); now = [] }

-- the modes in the order of the usage line, each with the arguments that the line shows after it
abbrev pub modes : List (Mode × List ℕ)
modes =
    (Copy, []) ∷ ((Lines, []) ∷ ((Tac, []) ∷ ((Caret, [])
    ∷ ((Ends nothing, codes " [-s] SCRIPT") ∷ ((Edit nothing, codes " WORD..")
    ∷ ((Json, []) ∷ []))))))

-- the usage line: the modes with their arguments, separated by `|`, the code 124
abbrev pub usage_line : List ℕ
usage_line =
    codes "usage: ascii_show "
    ++ join_with_byte 124 (map (λ row. mode_name row.0 ++ row.1) modes)
