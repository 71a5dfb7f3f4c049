-- Runs whose replies and text are known from outside, computed by the definitions.
use Rattle.std.proofs.Common.{◌≡◌, ℕ, ◌-◌, ◌^◌, true, List, [], ◌∷◌, Some, None, Err, refl}
use Rattle.ascii.specs.AsciiChar.TheVariants as ch
use Rattle.ascii.specs.AsciiRange.TheVariants as range
use Rattle.ascii.specs.declared.ascii_str.AsciiStr.{AsciiStr}
use Rattle.ascii.specs.View.{text_of}
use Rattle.ascii_run.specs.declared.commands.Cmd.{Cmd}
use Rattle.ascii_run.specs.declared.commands.Cmd.TheVariants as cmd
use Rattle.ascii_run.specs.Step.{a_char, a_number, a_text, a_truth, bad_position, done, refused}
use Rattle.ascii_run.specs.Step.{too_many}
use Rattle.ascii_run.specs.Edit.{edits}
use Rattle.ascii_run.specs.Run.{plain_replies, plain_text}

-- one command of each kind of reply, from `abc` to the empty text
abbrev worked : AsciiStr → List Cmd
worked b =
    cmd.Insert 4 ch.x ∷ cmd.Insert 3 ch.x ∷ cmd.Remove 4 ∷ cmd.Remove 0 ∷ cmd.Set 3
    ch.z ∷ cmd.Truncate 1
    ∷ cmd.Upper ∷ cmd.EqIgnoreCase b ∷ cmd.Copy (range.From 2) ∷ cmd.Copy (range.Inclusive 1 0)
    ∷ cmd.Reserve (2 ^ 64 - 1) ∷ cmd.Len ∷ cmd.Pop ∷ cmd.Pop ∷ []

abbrev abc : List ℕ
abc = 97 ∷ 98 ∷ 99 ∷ []

worked_replies : (b : AsciiStr) → text_of b ≡ 98 ∷ [] → plain_replies abc (worked b)
    ≡ bad_position ∷ done ∷ bad_position ∷ a_char (Some 97) ∷ bad_position ∷ done
    ∷ done ∷ a_truth true ∷ refused 1 ∷ a_text []
    ∷ too_many ∷ a_number 1 ∷ a_char (Some 66) ∷ a_char None ∷ []
worked_replies b is_b = rw is_b refl

worked_text : (b : AsciiStr) → plain_text abc (worked b) ≡ []
worked_text b = refl

-- the second command is the first that is rejected, whatever comes after it
abbrev faulty : List Cmd
faulty = cmd.Pop ∷ cmd.Remove 2 ∷ cmd.Set 9 ch.z ∷ []

worked_fault : edits 0 abc faulty ≡ Err 1
worked_fault = refl
