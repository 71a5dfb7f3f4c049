use Rattle.std.proofs.Common.{[], ◌<◌, arith, length}
use Rattle.std.proofs.lemmas.List.{get_or-map, length-map}
use Rattle.ascii_show.specs.Call.{words_of}
use Rattle.ascii_show.proofs.EditLemmas.{more_words, first_bad_word}
use Rattle.ascii_show.proofs.ScriptLemmas.{bytes_of}
use Rattle.ascii_show.proofs.arguments.parse_commands.Goals as goal

pub returns-in_default : goal.returns-in_default
returns-in_default g c =
    let words = words_of c.args.args.now in
    let inside : c.loop-i.i < length words =
    omega (arith, c.loop-i-test.true, length-map c.args.args.now bytes_of) in
    let is = get_or-map bytes_of c.args.args.now c.loop-i.i _ []
    (omega (arith, c.loop-i-test.true)) in
    first_bad_word words c.loop-i.cmds.items c.loop-i.i _ inside is c.loop-i.invariant
    c.in_default.ensures

pub loop-i-preserved : goal.loop-i-preserved
loop-i-preserved g c =
    let words = words_of c.args.args.now in
    let inside : c.loop-i.i < length words =
    omega (arith, c.loop-i-test.true, length-map c.args.args.now bytes_of) in
    let is = get_or-map bytes_of c.args.args.now c.loop-i.i _ []
    (omega (arith, c.loop-i-test.true)) in
    rw c.in_ok-push.ensures.items
    (more_words words c.loop-i.cmds.items c.loop-i.i _ c.in-Some.cmd inside is
    c.loop-i.invariant c.in-Some.ensures)
