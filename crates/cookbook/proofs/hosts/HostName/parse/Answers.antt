use Rattle.std.proofs.Common.{◌++◌, arith, map, rules, subst, sym, ◌≡◌, []}
use Rattle.ascii.specs.Spans.{PieceSpans, piece_in}
use Rattle.ascii.specs.View.{text_of}
use Rattle.cookbook.specs.Hosts.{IsLabel}
use Rattle.cookbook.proofs.HostLemmas.{host_of_labels, label_of_host, no_label, wrong_label}
use Rattle.ascii.proofs.ListLemmas.{All-map_push, map-push_front}
use Rattle.cookbook.proofs.hosts.HostName.parse.Goals as goal

pub loop-label-preserved : goal.loop-label-preserved
loop-label-preserved c =
    let taken = c.loop-label.yielded in
    let label = c.in-Some.label in
    let inv = c.loop-label.invariant in
    let whole = subst (λ rest. PieceSpans 0 (text_of c.args.name) 46 (map piece_in taken ++ rest))
    c.in-Some.ensures.steps.0 inv.whole in
    record {
      whole = subst (PieceSpans 0 (text_of c.args.name) 46)
          (sym (map-push_front piece_in taken label c.next.new.self.items)) whole;
      labels = All-map_push (λ span. IsLabel span.item) piece_in taken label inv.labels
          c.in_ok-check_label.ensures;
    }

pub returns-in_err-check_label-clause-error : goal.returns-in_err-check_label-clause-error
returns-in_err-check_label-clause-error c =
    let front = map piece_in c.loop-label.yielded in
    let inv = c.loop-label.invariant in
    let whole = subst (λ rest. PieceSpans 0 (text_of c.args.name) 46 (front ++ rest))
    c.in-Some.ensures.steps.0 inv.whole in
    let wrong = wrong_label _ front _ (piece_in c.in-Some.label) _ (omega arith) whole inv.labels
    c.in_err-check_label.ensures in
    search (rules, wrong)

pub returns-in_err-check_label-clause-exact : goal.returns-in_err-check_label-clause-exact
returns-in_err-check_label-clause-exact c = λ host.
    let front = map piece_in c.loop-label.yielded in
    let whole = subst (λ rest. PieceSpans 0 (text_of c.args.name) 46 (front ++ rest))
    c.in-Some.ensures.steps.0 c.loop-label.invariant.whole in
    let label = label_of_host _ front _ (piece_in c.in-Some.label) whole host in
    absurd (no_label (piece_in c.in-Some.label) _ c.in_err-check_label.ensures label)

pub returns-in_err-kept-clause-error : goal.returns-in_err-kept-clause-error
returns-in_err-kept-clause-error c =
    let inv = c.loop-label.invariant in
    let none : c.loop-label.label-iterator.items ≡ [] = search rules in
    let host = host_of_labels _ _ _ (omega arith) inv.whole none inv.labels in
    search (rules, host)

pub returns-clause-host : goal.returns-clause-host
returns-clause-host c =
    let inv = c.loop-label.invariant in
    let none : c.loop-label.label-iterator.items ≡ [] = search rules in
    host_of_labels _ _ _ (omega arith) inv.whole none inv.labels
