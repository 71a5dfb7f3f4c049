use Rattle.std.proofs.Common.{◌≡◌, ◌++◌, List, Option, map}
use Rattle.std.specs.List.{AllZip, filter_map}
use Rattle.ascii.specs.Spans.{LineSpansOf, line_in}
use Rattle.ascii.specs.View.{text_of}
use Rattle.cookbook.specs.Settings.{Says}
use Rattle.cookbook.specs.declared.settings.Setting.{Setting}
use Rattle.cookbook.proofs.settings.read_settings.Given as goal

-- the settings so far are what the lines so far say, and the text has the others after them
abbrev pub invariant-loop-line : goal.invariant-loop-line
invariant-loop-line l = record {
  found : List (Option Setting);
  whole : LineSpansOf 0 (text_of l.text) (map line_in l.yielded ++ l.line-iterator);
  each : AllZip Says (map line_in l.yielded) found;
  settings : l.settings.items ≡ filter_map (λ it. it) found;
}
