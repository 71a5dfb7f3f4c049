use Rattle.std.proofs.Common.{◌≡◌, [], ◌++◌, ◌∙◌, rules, refl, subst, sym, false}
use Rattle.std.proofs.lemmas.Bool.{false≢true}
use Rattle.std.proofs.lemmas.Str.Ascii.{IsAscii-nil}
use Rattle.std.specs.Str.{IsAscii}
use Rattle.ascii_devices.proofs.HistoryLemmas.{Gives-nil, Gives-trans}
use Rattle.ascii_filter.proofs.ScannerLemmas.{Skips-start, all_ascii, finds, none_held}
use Rattle.ascii_filter.proofs.ScannerLemmas.{passes_chunk}
use Rattle.ascii_filter.proofs.ScannerLemmas.{none_of, scan_fails, trans_end}
use Rattle.ascii_filter.specs.Places.{Skips}
use Rattle.ascii_filter.proofs.scanner.Scanner.next.Goals as goal

pub returns-then-self-clause-outcome : goal.returns-then-self-clause-outcome
returns-then-self-clause-outcome g c =
    let inside = c.self.inside in
    let none : c.args.self.now.held ≡ [] = search (rules, none_held) in (
      [],
      Gives-nil g.S.Source c.args.reader.now,
      (
        subst (λ held. IsAscii (held ++ [])) (sym none) IsAscii-nil,
        λ undone. absurd (false≢true (sym undone ∙ search rules)),
        search rules,
      ),
    )

pub chunks-init : goal.chunks-init
chunks-init g c =
    let undone : c.args.self.now.is_done ≡ false = search rules in (
      refl,
      undone,
      (
        [],
        [],
        Gives-nil g.S.Source c.args.reader.now,
        subst (λ now. Skips c.args.self.now now [] []) (sym c.in_default.ensures)
            (Skips-start c.args.self.now undone IsAscii-nil),
      ),
    )

pub returns-in-Some-clause-outcome : goal.returns-in-Some-clause-outcome
returns-in-Some-clause-outcome g c =
    let undone : c.args.self.now.is_done ≡ false = search rules in (
      [],
      Gives-nil g.S.Source c.args.reader.now,
      finds c.args.self.now c.args.self.now c.first_held.new.self [] [] c.in-Some.other
          (Skips-start c.args.self.now undone IsAscii-nil) c.in-Some.ensures,
    )

pub returns-in-Some-next_held-clause-outcome : goal.returns-in-Some-next_held-clause-outcome
returns-in-Some-next_held-clause-outcome g c =
    let (given, passed, gave, so_far) = c.chunks.invariant.2 in (
      given,
      gave,
      finds c.args.self.now c.chunks.self c.next_held.new.self given passed
          c.in-Some-next_held.other so_far c.in-Some-next_held.ensures,
    )

pub returns-in-Ok-eq0-clause-outcome : goal.returns-in-Ok-eq0-clause-outcome
returns-in-Ok-eq0-clause-outcome g c =
    let (given, passed, gave, so_far) = c.chunks.invariant.2 in
    let (more, gives, fill) = c.in-Ok-eq0.ensures.outcome in
    let zero : c.in-Ok-eq0.field-0 ≡ 0 = search rules in (
      given ++ more,
      Gives-trans g.S.Source c.args.reader.now c.chunks.reader c.fill.new.reader given more
          c.chunks.invariant.0 gave gives,
      (
        all_ascii c.args.self.now c.chunks.self c.next_held.new.self given passed more so_far
            c.in_default-next_held.ensures (none_of more (fill.2 ∙ zero)),
        λ undone. trans_end g.S.Source c.args.reader.now c.chunks.reader c.fill.new.reader given
            more c.chunks.invariant.0 gave gives (c.in-Ok-eq0.ensures.count.1 (λ is. cc))
            (fill.1 zero),
        refl,
      ),
    )

pub chunks-preserved : goal.chunks-preserved
chunks-preserved g c =
    let (given, passed, gave, so_far) = c.chunks.invariant.2 in
    let (more, gives, fill) = c.in-Ok.ensures.outcome in (
      search rules,
      c.chunks.invariant.1,
      (
        given ++ more,
        passed ++ c.chunks.self.held,
        Gives-trans g.S.Source c.args.reader.now c.chunks.reader c.fill.new.reader given more
            c.chunks.invariant.0 gave gives,
        passes_chunk c.args.self.now c.chunks.self c.next_held.new.self c.fill.new.self given
            passed more c.in-Ok.field-0 so_far c.in_default-next_held.ensures fill.0 fill.2 fill.3
            fill.4 fill.5,
      ),
    )

pub returns-in-Err-clause-outcome : goal.returns-in-Err-clause-outcome
returns-in-Err-clause-outcome g c =
    let (given, passed, gave, so_far) = c.chunks.invariant.2 in
    let (more, gives, fill) = c.in-Err.ensures.outcome in (
      given ++ more,
      Gives-trans g.S.Source c.args.reader.now c.chunks.reader c.fill.new.reader given more
          c.chunks.invariant.0 gave gives,
      scan_fails c.args.self.now c.chunks.self c.next_held.new.self c.fill.new.self given passed
          more c.in-Err.fault _ _ so_far c.in_default-next_held.ensures fill,
    )
