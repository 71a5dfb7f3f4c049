use Rattle.ascii_devices.specs.States.{source_state}
use Rattle.ascii_lines.proofs.SkippingLemmas.{pass_ends, pass_failed, passed_more, passed_none}
use Rattle.ascii_lines.proofs.SkippingLemmas.{passes_line, passes_on}
use Rattle.ascii_lines.proofs.skipping.pass_line.Goals as goal
use Rattle.std.proofs.Common.{inr, sym, ◌∙◌, arith}

pub fills-init : goal.fills-init
fills-init g c = grind (arith, passed_none)

pub returns-in-Some : goal.returns-in-Some
returns-in-Some g c = passes_line _ c.requires.plain _ _ _ _ _ _ _ _ _ c.fills.invariant _ _
    c.front.ensures c.len.ensures c.part_of_line-n.ensures.within c.pass-passed.ensures _ _
    c.in-Some.is c.part_of_line-n.ensures.part

pub returns-then-is_at_end : goal.returns-then-is_at_end
returns-then-is_at_end g c = pass_ends _ _ _ c.pass-passed.new.buffer c.pass.new.buffer _
    (source_state g.S.Source c.fills.source) _ _
    (passes_on _ c.requires.plain _ _ _ _ _ _ _ _ _ c.fills.invariant _ _ c.front.ensures
    c.len.ensures c.part_of_line-n.ensures.within c.pass-passed.ensures _ c.in_default.is
    c.part_of_line-n.ensures.part) (sym c.is_at_end.ensures ∙ c.if-is_at_end.true) _
    c.len-n.ensures c.pass.ensures

pub fill-requires-clause-room : goal.fill-requires-clause-room
fill-requires-clause-room g c = inr (passes_on _ c.requires.plain _ _ _ _ _ _ _ _ _
    c.fills.invariant _ _ c.front.ensures c.len.ensures c.part_of_line-n.ensures.within
    c.pass-passed.ensures _ c.in_default.is c.part_of_line-n.ensures.part).one

pub returns-in_default-fill : goal.returns-in_default-fill
returns-in_default-fill g c =
    let b = source_state g.S.Source c.fills.source in
    let now = source_state g.S.Source c.fill.new.source in
    let fails = c.in_default-fill.ensures.outcome in
    pass_failed _ _ _ c.pass-passed.new.buffer c.fill.new.self _ b now _
    (passes_on _ c.requires.plain _ _ _ _ _ _ _ _ _ c.fills.invariant _ _ c.front.ensures
    c.len.ensures c.part_of_line-n.ensures.within c.pass-passed.ensures _ c.in_default.is
    c.part_of_line-n.ensures.part) (sym c.is_at_end.ensures ∙ c.if-is_at_end.false) fails.0 fails.3
    fails.1 fails.2 c.in_default-fill.ensures.size

pub fills-preserved : goal.fills-preserved
fills-preserved g c =
    let b = source_state g.S.Source c.fills.source in
    let now = source_state g.S.Source c.fill.new.source in
    let read = c.in-Ok.ensures.outcome in
    passed_more _ _ _ c.pass-passed.new.buffer c.fill.new.self _ b now _ _
    (passes_on _ c.requires.plain _ _ _ _ _ _ _ _ _ c.fills.invariant _ _ c.front.ensures
    c.len.ensures c.part_of_line-n.ensures.within c.pass-passed.ensures _ c.in_default.is
    c.part_of_line-n.ensures.part) (sym c.is_at_end.ensures ∙ c.if-is_at_end.false) read.1 read.2
    read.3 c.in-Ok.ensures.size
