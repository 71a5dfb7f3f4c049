use Rattle.std.proofs.Common.{◌≡◌, ◌+◌, ◌≤◌, List, map, take}
use Rattle.std.specs.Iterator.{IsFinite, Yields, size}
use Rattle.std.specs.Str.{IsAscii}
use Rattle.ascii_base.specs.Code.{code_of}
use Rattle.ascii_base.specs.declared.ascii_char.AsciiChar.{AsciiChar}
use Rattle.ascii.proofs.collect.gather.Given as goal

-- the codes of the items so far
abbrev pub invariant-loop-at : goal.invariant-loop-at
invariant-loop-at g l = record {
  items : List AsciiChar;
  gave : Yields g.I.Iterator.next_gives l.fn.iter items l.iter;
  start : take l.at l.codes ≡ map code_of items;
  ascii : IsAscii (take l.at l.codes);
  can : g.I.Iterator.can_next l.iter;
  ends : IsFinite (g.I.Iterator.remaining l.iter);
  fewer : size (g.I.Iterator.remaining l.iter) + l.at ≤ size (g.I.Iterator.remaining l.fn.iter);
}
