use Rattle.std.proofs.Common.{◌≡◌, ◌++◌, arith, length, map, refl, subst, sym}
use Rattle.std.proofs.lemmas.List.{map_push}
use Rattle.std.proofs.lemmas.Slice.Zip.{AllZip-long}
use Rattle.ascii.specs.Spans.{LineSpansOf, line_in}
use Rattle.ascii.specs.View.{text_of}
use Rattle.cookbook.specs.Headers.{HasHeader, IsHeaderError, IsHeaderOf}
use Rattle.ascii.proofs.ListLemmas.{AllZip-push}
use Rattle.ascii.proofs.ListLemmas.{All-from_zip, IsFirstAt-seam, map-push_front}
use Rattle.cookbook.proofs.headers.read_headers.Goals as goal

pub loop-line-preserved : goal.loop-line-preserved
loop-line-preserved c =
    let taken = c.loop-line.yielded in
    let line = c.in-Some.line in
    let inv = c.loop-line.invariant in
    let whole = subst (λ rest. LineSpansOf 0 (text_of c.args.block) (map line_in taken ++ rest))
    c.in-Some.ensures.steps.0 inv.whole in
    let each = AllZip-push IsHeaderOf (map line_in taken) c.loop-line.headers.items (line_in line)
    c.in-Ok.header inv.each c.in-Ok.ensures in
    record {
      whole = subst (LineSpansOf 0 (text_of c.args.block))
          (sym (map-push_front line_in taken line c.next.new.self)) whole;
      each = rw (map_push line_in taken line, c.in_ok-push-in-Ok.ensures.items) each;
    }

pub returns-in-Err : goal.returns-in-Err
returns-in-Err c =
    let front = map line_in c.loop-line.yielded in
    let inv = c.loop-line.invariant in
    let whole = subst (λ rest. LineSpansOf 0 (text_of c.args.block) (front ++ rest))
    c.in-Some.ensures.steps.0 inv.whole in
    let many : length front ≡ c.len-number.result =
    omega (arith, AllZip-long IsHeaderOf front c.loop-line.headers.items inv.each) in (
      _,
      whole,
      IsFirstAt-seam HasHeader
          (λ line. (line.start ≡ c.in-Some.line.start)
          × IsHeaderError line.item.body c.in-Err.error)
          front _ (line_in c.in-Some.line) (All-from_zip IsHeaderOf front _ inv.each)
          (refl, c.in-Err.ensures) _ many,
    )
