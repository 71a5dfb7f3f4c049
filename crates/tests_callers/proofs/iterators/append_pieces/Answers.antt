use Rattle.std.proofs.Common.{Err, Ok, OnOk, Result}
use Rattle.std.specs.declared.alloc.AllocError.{AllocError}
use Rattle.ascii.proofs.CallerLemmas.{extends_split}
use Rattle.tests_callers.proofs.iterators.append_pieces.Goals as goal

on_ok : {P Q : Type 0} (result : Result (Unit {0}) AllocError) → OnOk result P → (P → Q)
    → OnOk result Q
on_ok (Ok _) held then = then held
on_ok (Err _) held then = tt

pub returns : goal.returns
returns c = on_ok c.extend_strs.result
    (extends_split c.split.result c.args.string.now c.extend_strs.new.self c.extend_strs.result
    c.extend_strs.ensures.extends)
    (λ added. (c.split.result.items, c.split.ensures.iterates.pieces, added))
