use Rattle.std.proofs.Common.{◌≡◌, ℕ, Bool, IfErr, arith, length-append, Ok, Option}
use Rattle.std.proofs.Math.Seq.{take-append_seam}
use Rattle.ascii_devices.specs.States.{source_state}
use Rattle.ascii_lines.specs.LineReader.{Looks, window_at}
use Rattle.ascii_lines.specs.LineBuffer.{WindowState}
use Rattle.ascii_lines.specs.declared.wanted.Found.{Found}
use Rattle.ascii_lines.specs.declared.wanted.Wanted.{Wanted}
use Rattle.ascii_lines.proofs.GathersLemmas.{Gathers-failed, Gathers-nil, Gathers-read}
use Rattle.ascii_lines.proofs.TakesLemmas.{from_err, takes_off}
use Rattle.ascii_lines.proofs.wanted.take_wanted.Goals as goal

pub fills-init : goal.fills-init
fills-init g c = grind (arith, Gathers-nil)

pub returns-in_err-found-clause-err : goal.returns-in_err-found-clause-err
returns-in_err-found-clause-err g c =
    let error = c.in_err-found.field-0.0 in
    let looks = c.in_err-found.ensures in
    grind (arith, from_err, IfErr)

-- what a look has found
looks : (wanted : Wanted) (start : ℕ) (buffer : WindowState) (ended : Bool)
    (found shown : Option Found) → ended ≡ buffer.is_at_end → found ≡ shown
    → Looks wanted start (window_at ended buffer) (Ok found)
    → Looks wanted start (window_at buffer.is_at_end buffer) (Ok shown)
looks wanted start buffer ended found shown is same look = grind arith

pub returns-in-Some-clause-ok : goal.returns-in-Some-clause-ok
returns-in-Some-clause-ok g c =
    let buffer = c.fills.buffer in
    takes_off c.args.wanted c.args.start c.args.buffer.now (window_at buffer.is_at_end buffer)
    c.take.new.self (source_state g.S.Source c.args.source.now)
    (source_state g.S.Source c.fills.source) c.in-Some.found (grind (arith, looks))
    c.fills.invariant.0 c.fills.invariant.2 c.fills.invariant.1 c.take.ensures.given
    c.take.ensures.held c.take.ensures.at_end

pub returns-in_default-fill-clause-err : goal.returns-in_default-fill-clause-err
returns-in_default-fill-clause-err g c = grind (arith, Gathers-failed, looks)

pub fills-preserved : goal.fills-preserved
fills-preserved g c = grind (arith, take-append_seam, Gathers-read, length-append, looks)
