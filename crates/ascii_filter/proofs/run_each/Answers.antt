use Rattle.std.proofs.Common.{◌≡◌, ◌+◌, ◌<◌, [], arith, drop, get_or, inr, inl, length, map, max, rules}
use Rattle.std.proofs.Common.{sym, take, ◌∙◌}
use Rattle.std.proofs.lemmas.Bool.{false≢true}
use Rattle.std.proofs.lemmas.List.{map_more}
use Rattle.ascii_filter.specs.Status.{verdict_status}
use Rattle.ascii_filter.proofs.VisitLemmas.{is_visit, no_visit, visited_last, visited_one}
use Rattle.ascii_filter.proofs.VisitLemmas.{words_parted}
use Rattle.ascii_filter.proofs.run_each.Goals as goal
use Rattle.ascii_filter.proofs.run_each.Goals.{else-verdict-gt0-via-else-verdict-gt0}
use Rattle.ascii_filter.proofs.run_each.Goals.{else-verdict-gt0-via-then-verdict-gt0+else-is_quiet}

pub loop-word-init : goal.loop-word-init
loop-word-init g c = no_visit g.K.Sink c.args.task c.args.writer.now

pub returns-then-failures-gt0 : goal.returns-then-failures-gt0
returns-then-failures-gt0 g c = record {
  visited = map (λ file. file.now) (take c.loop-word.word-index c.args.files.now);
  others = map (λ file. file.now) (drop c.loop-word.word-index c.args.files.now);
  parts = words_parted c.args.files.now c.loop-word.word-index;
  run = c.loop-word.invariant.0;
  ends = inr (inl (omega arith));
}

pub returns-then-is_quiet : goal.returns-then-is_quiet
returns-then-is_quiet g c =
    let files = c.args.files.now in
    let i = c.loop-word.word-index in
    let word = get_or files i (record { ref_ptr = (0, 0); now = [] }) in
    let inside : i < length files = omega arith in
    let (took, takes, is) = c.run_file-verdict.ensures in
    let verdict = c.run_file-verdict.result in
    let higher : c.max-status.result ≡ max c.loop-word.status (verdict_status verdict) =
    search rules in
    visited_last g.K.Sink c.args.task (map (λ file. file.now) (take i files))
    (map (λ file. file.now) (take (i + 1) files)) (map (λ file. file.now) (drop (i + 1) files))
    (map (λ file. file.now) files) c.args.writer.now c.loop-word.writer
    c.run_file-verdict.new.writer c.loop-word.status c.max-status.result word.now
    c.deref-in-loop-word.result.now took verdict c.loop-word.invariant takes
    (is_visit c.args.task c.is_null.result word.now c.name_of-name.result.now
    c.in_ok-shown.shown.items c.deref.result.now c.deref-in-loop-word.result.now took _ _ verdict
    c.name_of-name.ensures c.in_ok-shown.ensures c.is_null.ensures c.deref.ensures.value
    (c.deref-in-loop-word.ensures.value ∙ c.in_ok-label.ensures) (omega arith) is)
    higher (map_more (λ file. file.now) files i _ inside) (words_parted files (i + 1))
    (c.is_quiet.ensures.0 c.if-is_quiet.true, c.if-verdict-gt0.true)

pub loop-word-preserved : goal.loop-word-preserved
loop-word-preserved g c =
    let files = c.args.files.now in
    let i = c.loop-word.word-index in
    let word = get_or files i (record { ref_ptr = (0, 0); now = [] }) in
    let inside : i < length files = omega arith in
    let (took, takes, is) = c.run_file-verdict.ensures in
    let verdict = c.run_file-verdict.result in
    let higher : c.max-status.result ≡ max c.loop-word.status (verdict_status verdict) =
    search rules in
    visited_one g.K.Sink c.args.task (map (λ file. file.now) (take i files))
    (map (λ file. file.now) (take (i + 1) files)) c.args.writer.now c.loop-word.writer
    c.run_file-verdict.new.writer c.loop-word.status c.max-status.result word.now
    c.deref-in-loop-word.result.now took verdict c.loop-word.invariant takes
    (is_visit c.args.task c.is_null.result word.now c.name_of-name.result.now
    c.in_ok-shown.shown.items c.deref.result.now c.deref-in-loop-word.result.now took _ _ verdict
    c.name_of-name.ensures c.in_ok-shown.ensures c.is_null.ensures c.deref.ensures.value
    (c.deref-in-loop-word.ensures.value ∙ c.in_ok-label.ensures) (omega arith) is)
    higher (map_more (λ file. file.now) files i _ inside)
    (elim c.else-verdict-gt0.branch [
      | else-verdict-gt0-via-then-verdict-gt0+else-is_quiet w ↦ λ enough.
          false≢true (sym w.if-is_quiet.false ∙ w.is_quiet.ensures.1 enough.0)
      | else-verdict-gt0-via-else-verdict-gt0 w ↦ λ enough. omega (arith, enough.1)
    ])
