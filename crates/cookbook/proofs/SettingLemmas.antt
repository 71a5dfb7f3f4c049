-- A text of which nothing is left when white space is cut, and the places of errors.
use Rattle.std.proofs.Common.{◌≡◌, ℕ, ◌+◌, ◌-◌, ◌<◌, ◌≤◌, Err, List, [], ◌∷◌, ◌++◌}
use Rattle.std.proofs.Common.{◌∙◌, Option, ap, arith, drop, inl, inr, le_of_eq, length}
use Rattle.std.proofs.Common.{length-append, map, subst, sym}
use Rattle.std.proofs.lemmas.List.{length-drop, length-take, map_push}
use Rattle.std.proofs.lemmas.List.Elements.{All-append, filter_map-append}
use Rattle.std.specs.List.{All, AllZip, filter_map}
use Rattle.ascii.proofs.ListLemmas.{AllZip-push}
use Rattle.ascii.proofs.PlacedLemmas.{lines_placed}
use Rattle.ascii.specs.Class.{IsWhitespace}
use Rattle.ascii.specs.Lines.{Line}
use Rattle.ascii.specs.Placed.{IsPlaced, body_in}
use Rattle.ascii.specs.Search.{IsCutAt}
use Rattle.ascii.specs.Spans.{LineSpansOf, WithStart, line_in}
use Rattle.ascii.specs.Trim.{Trims}
use Rattle.ascii.specs.declared.iter.spans.LineSpan.{LineSpan}
use Rattle.ascii.proofs.ListLemmas.{All-seam, map-push_front}
use Rattle.cookbook.specs.Settings.{IsWithoutComment, ReadsSetting, Says, position_of}
use Rattle.cookbook.specs.declared.settings.Setting.{Setting}
use Rattle.cookbook.specs.declared.settings.SettingError.{SettingError}
use Rattle.cookbook.specs.declared.settings.SettingError.TheVariants.{NoEquals, NoKey}

-- it is white space
pub all_white : (text left : List ℕ) → Trims IsWhitespace text left → left ≡ []
    → All IsWhitespace text
all_white text left trims nothing =
    let middle : trims.2.cut ≡ trims.0 =
    ap (λ t. t ++ trims.2.cut) (sym nothing) ∙ trims.2.joined in
    let both = All-append IsWhitespace trims.1.cut trims.0 trims.1.span.within
    (subst (All IsWhitespace) middle trims.2.within) in
    subst (All IsWhitespace) trims.1.span.joined both

-- ---- the place of an error

-- a cut's front is shorter than its text
front_shorter : (on : ℕ) (text before after : List ℕ) → IsCutAt on text before after
    → length before < length text
front_shorter on text before after cut =
    omega (arith, ap length cut.joined, length-append before (on ∷ after))

-- a body is not longer than its line
body_shorter : (line body : List ℕ) → IsWithoutComment line body → length body ≤ length line
body_shorter line body (inl cut) = omega (arith, front_shorter 35 line body cut.0 cut.1)
body_shorter line body (inr same) = le_of_eq (ap length same.0)

-- an error of a line has a position in it
pub error_inside : (line : List ℕ) (error : SettingError) → ReadsSetting line (Err error)
    → position_of error < length line
error_inside line (NoEquals place) reads =
    omega (arith, reads.2.1, body_shorter line reads.0 reads.1)
error_inside line (NoKey place) reads =
    let key = reads.2 in
    omega (
      arith,
      front_shorter 61 reads.0 key.0 key.1 key.2,
      key.4,
      body_shorter line reads.0 reads.1,
    )

-- a position in a line is a position in the text
pub line_inside : (text : List ℕ) (before after : List (WithStart Line)) (line : WithStart Line)
    (position : ℕ) → LineSpansOf 0 text (before ++ line ∷ after)
    → position < length line.item.body → line.start + position ≤ length text
line_inside text before after line position whole inside =
    let placed = All-seam (λ span. IsPlaced 0 text (body_in span)) before after line
    (lines_placed 0 text (before ++ line ∷ after) whole) in
    omega (arith, inside, placed.high)

-- ---- one more line

pub line_more : (text : List ℕ) (taken : List LineSpan) (line : LineSpan)
    (rest : List (WithStart Line)) (found : List (Option Setting)) (here : Option Setting)
    → LineSpansOf 0 text (map line_in taken ++ line_in line ∷ rest)
    → AllZip Says (map line_in taken) found → Says (line_in line) here
    → LineSpansOf 0 text (map line_in (taken ++ line ∷ []) ++ rest)
    × AllZip Says (map line_in (taken ++ line ∷ [])) (found ++ here ∷ [])
    × (filter_map (λ it. it) (found ++ here ∷ [])
    ≡ filter_map (λ it. it) found ++ filter_map (λ it. it) (here ∷ []))
line_more text taken line rest found here whole each says = (
  subst (LineSpansOf 0 text) (sym (map-push_front line_in taken line rest)) whole,
  rw (map_push line_in taken line)
      (AllZip-push Says (map line_in taken) found (line_in line) here each says),
  filter_map-append (λ it. it) found (here ∷ []),
)
