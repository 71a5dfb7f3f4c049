use Rattle.std.proofs.Common.{◌≡◌, ◌≢◌, ◌<◌, ◌++◌, [], ap, arith, length, map, refl, rules, subst}
use Rattle.std.proofs.Common.{sym}
use Rattle.std.proofs.lemmas.List.{length-map, length_push, map_push}
use Rattle.ascii.specs.Spans.{PieceSpans, piece_in}
use Rattle.ascii.specs.View.{text_of}
use Rattle.cookbook.specs.Rows.{IsFilled}
use Rattle.ascii.proofs.ListLemmas.{All-map_push, IsFirstAt-seam, map-push_front}
use Rattle.cookbook.proofs.table.read_row.Goals as goal

pub returns-then-len-columns : goal.returns-then-len-columns
returns-then-len-columns c =
    let front = map piece_in c.loop-span.yielded in
    let inv = c.loop-span.invariant in
    let whole = subst (λ rest. PieceSpans 0 (text_of c.args.row) 9 (front ++ rest))
    c.in-Some.ensures.steps.0 inv.whole in
    let many : length front ≡ c.args.columns =
    simp length-map (omega (arith, simp length-map at (ap length inv.same))) in (
      _,
      whole,
      IsFirstAt-seam IsFilled (λ span. span.start ≡ c.in-Some.span.start) front _
          (piece_in c.in-Some.span) inv.filled refl _ many,
    )

pub returns-then-is_empty : goal.returns-then-is_empty
returns-then-is_empty c =
    let front = map piece_in c.loop-span.yielded in
    let inv = c.loop-span.invariant in
    let whole = subst (λ rest. PieceSpans 0 (text_of c.args.row) 9 (front ++ rest))
    c.in-Some.ensures.steps.0 inv.whole in
    let many : length front ≡ c.len-field.result =
    simp length-map (omega (arith, simp length-map at (ap length inv.same))) in
    let within : c.len-field.result < c.args.columns = omega arith in (
      _,
      whole,
      (
        within,
        IsFirstAt-seam IsFilled
            (λ span. (span.start ≡ c.in-Some.span.start) × (span.item ≡ [])) front _
            (piece_in c.in-Some.span) inv.filled (refl, search rules) _ many,
      ),
    )

pub loop-span-preserved : goal.loop-span-preserved
loop-span-preserved c =
    let taken = c.loop-span.yielded in
    let inv = c.loop-span.invariant in
    let whole = subst (λ rest. PieceSpans 0 (text_of c.args.row) 9 (map piece_in taken ++ rest))
    c.in-Some.ensures.steps.0 inv.whole in
    let some : text_of c.in-Some.span.text ≢ [] = search rules in
    record {
      whole = subst (PieceSpans 0 (text_of c.args.row) 9)
          (sym (map-push_front piece_in taken c.in-Some.span _)) whole;
      same = simp (c.in_ok-push.ensures.items, map_push, inv.same);
      filled = All-map_push IsFilled piece_in taken c.in-Some.span inv.filled some;
      within = simp (c.in_ok-push.ensures.items, length_push) (omega arith);
    }
