use Rattle.std.proofs.Common.{◌++◌}
use Rattle.std.specs.List.{flat_map}
use Rattle.ascii_devices.proofs.BufferedLemmas.{AppendsBytes-trans}
use Rattle.ascii_filter.specs.Checked.{shown_count, shown_place}
use Rattle.ascii_filter.specs.Places.{others_of}
use Rattle.ascii_filter.proofs.CheckLemmas.{no_memory, still_broken, writes}
use Rattle.ascii_filter.proofs.check.name_others.Goals as goal

pub returns-in_default-clause-outcome : goal.returns-in_default-clause-outcome
returns-in_default-clause-outcome g c =
    no_memory g.S.Source g.K.Sink c.args.check c.args.label.now c.args.reader.now c.args.writer.now
    c.out_of_memory.result c.out_of_memory.ensures

pub returns-in_default-new-clause-outcome : goal.returns-in_default-new-clause-outcome
returns-in_default-new-clause-outcome g c =
    no_memory g.S.Source g.K.Sink c.args.check c.args.label.now c.args.reader.now c.args.writer.now
    c.out_of_memory-in_default-new.result c.out_of_memory-in_default-new.ensures

pub returns-clause-outcome : goal.returns-clause-outcome
returns-clause-outcome g c =
    let answer = c.find_others-answer.result in
    let (given, text, gives, shown, looks) = c.find_others-answer.ensures.looks in
    let lines = flat_map (shown_place c.args.check c.args.label.now) (others_of text) in
    let count = shown_count c.args.check c.args.label.now answer.found answer.outcome in
    let (took, takes, written) =
    writes g.K.Sink c.args.writer.now c.put_count.new.writer c.finish.new.writer
    c.in-Ok-new.buffer c.put_count.new.buffer c.finish.new.self answer (lines ++ count)
    c.finish.result c.in-Ok-new.ensures.ready
    (AppendsBytes-trans lines count shown c.put_count.ensures)
    (λ is. still_broken _ _ count c.put_count.ensures (c.find_others-answer.ensures.write is))
    c.finish.ensures.outcome in
    (given, took, text, gives, takes, looks, written)
