use Rattle.std.proofs.Common.{◌++◌, ◌∷◌, [], append-nil, length, map, refl, subst, sym}
use Rattle.std.specs.List.{filter_map}
use Rattle.ascii.specs.Spans.{LineSpansOf, line_in}
use Rattle.ascii.specs.View.{text_of}
use Rattle.ascii.proofs.ListLemmas.{All-from_zip, IsFirstAt-seam}
use Rattle.cookbook.proofs.SettingLemmas.{error_inside, line_inside, line_more}
use Rattle.cookbook.specs.Settings.{IsFaultOf, Says}
use Rattle.cookbook.proofs.settings.read_settings.Goals as goal

pub loop-line-preserved-in-Continue-1 : goal.loop-line-preserved-in-Continue-1
loop-line-preserved-in-Continue-1 c =
    let inv = c.loop-line.invariant in
    let more = line_more (text_of c.args.text) c.loop-line.yielded c.in-Some.line c.next.new.self
    inv.found c.in-Ok.found
    (subst (λ rest. LineSpansOf 0 (text_of c.args.text) (map line_in c.loop-line.yielded ++ rest))
    c.in-Some.ensures.steps.0 inv.whole) inv.each c.in-Ok.ensures in
    record {
      found = inv.found ++ c.in-Ok.found ∷ [];
      whole = more.0;
      each = more.1;
      settings =
          rw (c.in_ok-push-in-Ok.ensures.items, inv.settings, more.2, c.in-Some-found.is) refl;
    }

pub loop-line-preserved : goal.loop-line-preserved
loop-line-preserved c =
    let inv = c.loop-line.invariant in
    let more = line_more (text_of c.args.text) c.loop-line.yielded c.in-Some.line c.next.new.self
    inv.found c.in-Ok.found
    (subst (λ rest. LineSpansOf 0 (text_of c.args.text) (map line_in c.loop-line.yielded ++ rest))
    c.in-Some.ensures.steps.0 inv.whole) inv.each c.in-Ok.ensures in
    record {
      found = inv.found ++ c.in-Ok.found ∷ [];
      whole = more.0;
      each = more.1;
      settings = rw (inv.settings, more.2, c.in_default.is)
          (sym (append-nil (filter_map (λ it. it) inv.found)));
    }

pub fault_of-requires : goal.fault_of-requires
fault_of-requires c =
    let inv = c.loop-line.invariant in
    let whole = subst (λ rest. LineSpansOf 0 (text_of c.args.text)
    (map line_in c.loop-line.yielded ++ rest)) c.in-Some.ensures.steps.0 inv.whole in
    line_inside (text_of c.args.text) (map line_in c.loop-line.yielded) _
    (line_in c.in-Some.line) _ whole (error_inside _ c.in-Err.error c.in-Err.ensures)

pub returns-in-Err : goal.returns-in-Err
returns-in-Err c =
    let front = map line_in c.loop-line.yielded in
    let inv = c.loop-line.invariant in
    let whole = subst (λ rest. LineSpansOf 0 (text_of c.args.text) (front ++ rest))
    c.in-Some.ensures.steps.0 inv.whole in (
      _,
      whole,
      (
        length front,
        IsFirstAt-seam _
            (λ line. IsFaultOf (text_of c.args.text) line c.fault_of.result)
            front _ (line_in c.in-Some.line) (All-from_zip Says front _ inv.each)
            (c.in-Err.error, c.in-Err.ensures, c.fault_of.ensures) _ refl,
      ),
    )
