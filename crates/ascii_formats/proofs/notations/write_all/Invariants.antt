use Rattle.std.proofs.Common.{◌≡◌, List, ℕ, ◌++◌}
use Rattle.std.specs.Fmt.{HasWritten, HasWrittenStyled, IsFlush, IsPlainFormatter}
use Rattle.std.specs.List.{flat_map}
use Rattle.ascii.specs.View.{text_of}
use Rattle.ascii_formats.proofs.notations.write_all.Given as goal

abbrev pub invariant-loop-ch : goal.invariant-loop-ch
invariant-loop-ch g l =
    let took = g.W.Write.write_str_gives in
    let rest = flat_map g.N.Notation.written l.ch-iterator in
    let all = flat_map g.N.Notation.written (text_of l.fn.view) in
    (IsPlainFormatter l.initial.f
    → (done : List ℕ) × HasWritten took l.initial.f done l.f × (done ++ rest ≡ all))
    × (IsFlush l.initial.f
    → (done : List ℕ) × HasWrittenStyled took l.initial.f done l.f × (done ++ rest ≡ all))
