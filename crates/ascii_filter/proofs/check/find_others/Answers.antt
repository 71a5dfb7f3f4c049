use Rattle.std.proofs.Common.{◌+◌, [], ◌++◌, arith, ap, ◌∙◌, inr, refl, sym, subst}
use Rattle.std.specs.Io.KnownBytes.{IsAtEnd}
use Rattle.std.specs.List.{flat_map}
use Rattle.std.specs.declared.result.Result.TheVariants.{Err, Ok}
use Rattle.ascii_devices.proofs.BufferedLemmas.{AppendsBytes-is, AppendsBytes-nil}
use Rattle.ascii_devices.proofs.BufferedLemmas.{AppendsBytes-trans}
use Rattle.ascii_devices.proofs.BufferedLemmas.{MayFail-still}
use Rattle.ascii_devices.proofs.HistoryLemmas.{Gives-nil, Gives-trans}
use Rattle.ascii_run.specs.declared.faults.BoundedFault.TheVariants.{Write}
use Rattle.ascii_filter.specs.Checked.{shown_place}
use Rattle.ascii_filter.proofs.CheckLemmas.{Passed-more, Passed-start, found_more, looks_at_end}
use Rattle.ascii_filter.proofs.CheckLemmas.{looks_no_more, looks_until, others-more, shown_more}
use Rattle.ascii_filter.proofs.CheckLemmas.{text_with}
use Rattle.ascii_filter.proofs.ScannerLemmas.{trans_end}
use Rattle.ascii_filter.specs.Places.{FindsNext, ScanOutcome, others_of}
use Rattle.ascii_filter.proofs.check.find_others.Goals as goal

pub others-init : goal.others-init
others-init g c = (
  refl,
  λ whole. c.requires.writes,
  omega arith,
  (
    [],
    [],
    Gives-nil g.S.Source c.args.reader.now,
    Passed-start c.args.scanner.now c.requires.fresh,
    refl,
    AppendsBytes-nil _,
  ),
)

pub returns-in-Ok-None-clause-looks : goal.returns-in-Ok-None-clause-looks
returns-in-Ok-None-clause-looks g c =
    let (given, text, gave, passed, is, shown) = c.others.invariant.3 in
    let (more, gives, outcome) = c.in-Ok-None.ensures.outcome in
    let kept = c.others.invariant.0 in
    let both =
    Gives-trans g.S.Source c.args.reader.now c.others.reader c.next.new.reader given more kept gave
    gives in
    let (all, same, looks) =
    looks_at_end c.args.check c.others.found c.others.scanner c.next.new.self given more text
    (IsAtEnd both.rest) passed is c.others.invariant.2 tt (IsAtEnd gives.rest)
    (trans_end g.S.Source c.args.reader.now c.others.reader c.next.new.reader given more kept gave
    gives (c.in-Ok-None.ensures.count.1 (λ is. cc)))
    (subst (λ o. ScanOutcome (Ok o) c.others.scanner c.next.new.self more (IsAtEnd gives.rest))
    c.in-Ok-None.field-0-is outcome) in (
      given ++ more,
      all,
      both,
      AppendsBytes-is (ap (flat_map (shown_place c.args.check c.args.label.now)) (sym same)) shown,
      looks,
    )

pub others-preserved : goal.others-preserved
others-preserved g c =
    let (given, text, gave, passed, is, shown) = c.others.invariant.3 in
    let (more, gives, outcome) = c.in-Ok-Some.ensures.outcome in
    let found = c.in-Ok-Some.other in
    let kept = c.others.invariant.0 in
    let finds : FindsNext c.others.scanner c.next.new.self more found =
    subst (λ o. ScanOutcome (Ok o) c.others.scanner c.next.new.self more (IsAtEnd gives.rest))
    c.in-Ok-Some.field-0-is outcome in
    let one = others-more c.others.scanner c.next.new.self given more text found passed finds in
    let all = text_with c.others.scanner c.next.new.self more text found finds in
    let shows = shown_place c.args.check c.args.label.now in
    let before = flat_map shows (others_of text) in (
      c.in-Ok-Some.ensures.count.1 (λ is. cc) ∙ kept,
      MayFail-still (shows found) c.others.invariant.1 c.put_place.ensures,
      omega (arith, c.others-test.true),
      (
        given ++ more,
        all,
        Gives-trans g.S.Source c.args.reader.now c.others.reader c.next.new.reader given more kept
            gave gives,
        Passed-more c.others.scanner c.next.new.self given more text found passed finds,
        found_more (others_of text) (others_of all) c.others.found found is one,
        AppendsBytes-is (shown_more shows (others_of text) (others_of all) found one)
            (AppendsBytes-trans before (shows found) shown c.put_place.ensures),
      ),
    )

pub returns-then-is_broken-clause-looks : goal.returns-then-is_broken-clause-looks
returns-then-is_broken-clause-looks g c =
    let (given, text, gave, passed, is, shown) = c.others.invariant.3 in
    let (more, gives, outcome) = c.in-Ok-Some.ensures.outcome in
    let found = c.in-Ok-Some.other in
    let kept = c.others.invariant.0 in
    let both =
    Gives-trans g.S.Source c.args.reader.now c.others.reader c.next.new.reader given more kept gave
    gives in
    let finds : FindsNext c.others.scanner c.next.new.self more found =
    subst (λ o. ScanOutcome (Ok o) c.others.scanner c.next.new.self more (IsAtEnd gives.rest))
    c.in-Ok-Some.field-0-is outcome in
    let one = others-more c.others.scanner c.next.new.self given more text found passed finds in
    let all = text_with c.others.scanner c.next.new.self more text found finds in
    let shows = shown_place c.args.check c.args.label.now in
    let before = flat_map shows (others_of text) in (
      given ++ more,
      all,
      both,
      AppendsBytes-is (shown_more shows (others_of text) (others_of all) found one)
          (AppendsBytes-trans before (shows found) shown c.put_place.ensures),
      looks_no_more c.args.check (c.others.found + 1) c.next.new.self (given ++ more) all
          (IsAtEnd both.rest)
          (Passed-more c.others.scanner c.next.new.self given more text found passed finds)
          (found_more (others_of text) (others_of all) c.others.found found is one)
          (omega (arith, c.others-test.true)) (Err Write) tt,
    )

pub returns-in-Err-clause-looks : goal.returns-in-Err-clause-looks
returns-in-Err-clause-looks g c =
    let (given, text, gave, passed, is, shown) = c.others.invariant.3 in
    let (more, gives, outcome) = c.in-Err.ensures.outcome in
    let both =
    Gives-trans g.S.Source c.args.reader.now c.others.reader c.next.new.reader given more
    c.others.invariant.0 gave gives in
    let (all, same, looks) =
    looks_until c.args.check c.others.found c.others.scanner c.next.new.self given more text
    (IsAtEnd both.rest) passed is c.others.invariant.2 c.in-Err.fault (IsAtEnd gives.rest)
    outcome in (
      given ++ more,
      all,
      both,
      AppendsBytes-is (ap (flat_map (shown_place c.args.check c.args.label.now)) (sym same)) shown,
      looks,
    )

pub returns-clause-looks : goal.returns-clause-looks
returns-clause-looks g c =
    let (given, text, gave, passed, is, shown) = c.others.invariant.3 in (
      given,
      text,
      gave,
      shown,
      looks_no_more c.args.check c.others.found c.others.scanner given text (IsAtEnd gave.rest)
          passed is c.others.invariant.2 (Ok tt)
          (inr (omega (arith, c.others-test.false, c.others.invariant.2))),
    )
