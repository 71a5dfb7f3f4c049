-- What commands make of a text, and where they stop.
use Rattle.std.specs.Prelude.{◌≡◌, ⊤, ℕ, ◌+◌, ◌-◌, ◌^◌, ◌&&◌, nat_le, nat_lt, List, [], ◌∷◌, ◌++◌}
use Rattle.std.specs.Prelude.{Option, Some, Result, Ok, Err, insert, length, map, remove, slice_set}
use Rattle.std.specs.Prelude.{take}
use Rattle.std.specs.Bool.{then_some}
use Rattle.std.specs.Option.{option_map_or}
use Rattle.std.specs.Result.{result_err}
use Rattle.ascii.specs.Case.{lower_image, upper_image}
use Rattle.ascii.specs.Code.{code_of}
use Rattle.ascii.specs.Range.{end_of, start_of}
use Rattle.ascii.specs.StringState.{insert_text}
use Rattle.ascii.specs.View.{text_of}
use Rattle.ascii_run.specs.declared.commands.Cmd.{Cmd}
use Rattle.ascii_run.specs.declared.commands.Cmd.TheVariants.{Push, PushStr, Insert, InsertStr}
use Rattle.ascii_run.specs.declared.commands.Cmd.TheVariants.{Remove, Pop, Truncate, Clear, Set}
use Rattle.ascii_run.specs.declared.commands.Cmd.TheVariants.{Upper, Lower, Reserve, Copy}
use Rattle.ascii_run.specs.declared.faults.EngineFault.{EngineFault}
use Rattle.ascii_run.specs.declared.faults.EngineFault.TheVariants.{Position, Memory}

-- the text after a command over the text `t` if no allocation fails, or `None` if its position, its
-- range or its number does not fit the text, and it is rejected
abbrev pub edited : List ℕ → Cmd → Option (List ℕ)
edited t (Push ch) = Some (t ++ code_of ch ∷ [])
edited t (PushStr view) = Some (t ++ text_of view)
edited t (Insert i ch) = then_some (nat_le i (length t)) (insert t i (code_of ch))
edited t (InsertStr i view) = then_some (nat_le i (length t)) (insert_text t i (text_of view))
edited t (Remove i) = then_some (nat_lt i (length t)) (remove t i)
edited t Pop = Some (take (length t - 1) t)
edited t (Truncate n) = Some (take n t)
edited t Clear = Some []
edited t (Set i ch) = then_some (nat_lt i (length t)) (slice_set t i (code_of ch))
edited t Upper = Some (map upper_image t)
edited t Lower = Some (map lower_image t)
edited t (Reserve n) = then_some (nat_le (length t + n) (2 ^ 64 - 1)) t
edited t (Copy r) =
    let end = end_of r (length t) in
    then_some (nat_le (start_of r) end && nat_le end (length t)) t
edited t other = Some t

-- the text after the commands, in order from the text `t`, if no allocation fails; or the index,
-- counted from `k`, of the first that is rejected
abbrev pub edits : ℕ → List ℕ → List Cmd → Result (List ℕ) ℕ
edits k t [] = Ok t
edits k t (cmd ∷ cmds) = option_map_or (λ mid. edits (k + 1) mid cmds) (edited t cmd) (Err k)

-- ---- cited by private functions only

-- why the edits of the text `t` stop. `Position`: it holds the index of the first command that is
-- rejected. `Memory`: an allocation failed.
abbrev pub StopsEdits : List ℕ → List Cmd → EngineFault → Type 0
StopsEdits t cmds (Position k) = result_err (edits 0 t cmds) ≡ Some k
StopsEdits t cmds Memory = ⊤
StopsEdits t cmds other = ⊥
