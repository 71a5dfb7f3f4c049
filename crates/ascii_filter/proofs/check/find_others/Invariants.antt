use Rattle.std.proofs.Common.{◌≡◌, ◌≤◌, ◌-◌, List, ℕ, length}
use Rattle.std.specs.List.{flat_map}
use Rattle.ascii_devices.specs.Buffered.{AppendsBytes, MayFail, output_state}
use Rattle.ascii_devices.specs.States.{Gives}
use Rattle.ascii_filter.specs.Checked.{shown_place}
use Rattle.ascii_filter.specs.Places.{others_of}
use Rattle.ascii_filter.proofs.CheckLemmas.{Passed}
use Rattle.ascii_filter.proofs.check.find_others.Given as goal

-- the text so far was given and passed, its non-ASCII bytes were found, and what is shown of them
-- was appended
abbrev pub invariant-others : goal.invariant-others
invariant-others g l =
    let before = output_state g.K.Sink l.fn.writer l.fn.buffer in
    let now = output_state g.K.Sink l.writer l.buffer in
    (g.S.Source.failures l.reader ≡ g.S.Source.failures l.fn.reader)
    × MayFail now × (l.found ≤ l.check.most)
    × ((given text : List ℕ) × Gives g.S.Source l.fn.reader l.reader given
    × Passed l.scanner given text × (l.found ≡ length (others_of text))
    × AppendsBytes before now (flat_map (shown_place l.check l.label) (others_of text)))

-- how many bytes may still be found
abbrev pub decreases-others : goal.decreases-others
decreases-others g l = l.check.most - l.found
