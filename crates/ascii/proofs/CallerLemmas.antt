-- Lemmas for the proofs of callers. Each can be named in a proof file, or in an attribute on the
-- caller as `#[tactic(auto, using(ascii::proofs::CallerLemmas::last_of_pieces))]`.
use Rattle.std.proofs.Common.{◌≡◌, ◌≢◌, ℕ, ◌+◌, ◌≤◌, List, [], ◌∷◌, ◌++◌, length, append-nil, refl}
use Rattle.std.proofs.Common.{arith, append_assoc, ap, ◌∙◌, Result, IsOk, OnOk, ◌-◌, ◌<◌, Option}
use Rattle.std.proofs.Common.{Some, get_or, length-append, map, sym, subst, Bool, true, false, ◌↔◌}
use Rattle.std.proofs.Common.{is_some}
use Rattle.std.specs.Char.{is_ascii}
use Rattle.std.specs.Iterator.{YieldsFirstBy}
use Rattle.std.specs.Fn.{Called, Mut}
use Rattle.std.specs.List.{All, Contains, filter, flat_map, items_where_true, join_with_byte}
use Rattle.std.specs.List.{list_all, slice_get}
use Rattle.std.specs.List.Retain.{ReturnsInTurn}
use Rattle.std.specs.Prelude.{IsTrue}
use Rattle.std.specs.Str.{IsAscii}
use Rattle.std.specs.declared.alloc.AllocError.{AllocError}
use Rattle.std.proofs.lemmas.Grind.{flat_map-append, common_steps}
use Rattle.std.proofs.lemmas.Iterator.{YieldsList}
use Rattle.std.proofs.lemmas.Iterator.Consumers.{YieldsList-from_first}
use Rattle.std.proofs.lemmas.List.{same_from_push, map_push}
use Rattle.std.proofs.lemmas.List.Elements.{All-cons, All-nil, All-get_or, All-head}
use Rattle.std.proofs.lemmas.List.Elements.{filter_from_retain}
use Rattle.memchr.specs.Find.{FindsNeedle}
use Rattle.ascii_base.specs.Code.{code_of, code_text}
use Rattle.ascii_base.specs.declared.ascii_char.AsciiChar.{AsciiChar}
use Rattle.ascii.specs.ByClass.{whole}
use Rattle.ascii.specs.Chunks.{ChunksOf, Run}
use Rattle.ascii.specs.Extend.{Collects, Extends}
use Rattle.ascii.specs.Lines.{Line, LinesOf, bodies, line_text}
use Rattle.ascii.specs.Pieces.{Pieces, Remaining}
use Rattle.ascii.specs.Spans.{LineSpansOf, PieceSpans, WithStart, items_of}
use Rattle.ascii.specs.Retain.{RetainsChars}
use Rattle.ascii.specs.Steps.{DropsFirst, StepsText, YieldsFirstAnd, at_front}
use Rattle.ascii.specs.TheCuts.{at_code}
use Rattle.ascii.specs.StringState.{StringState}
use Rattle.ascii.specs.View.{text_of}
use Rattle.ascii.proofs.CutLemmas.{found_if_contained}
use Rattle.ascii.proofs.ExtendLemmas.{all_from_extends, ok_from_extends, pieces_from_drains}
use Rattle.ascii.proofs.ExtendLemmas.{singles}
use Rattle.ascii.proofs.PiecesLemmas.{HasNo-from_absent, Pieces-only, Pieces-pieces_of}
use Rattle.ascii.proofs.PiecesLemmas.{pieces_of-free, pieces_of-split_at_last}
use Rattle.ascii.proofs.SpansLemmas.{room-lines, room-pieces, with_starts-last}
use Rattle.ascii.proofs.StepsLemmas.{road_from_first_and}
use Rattle.std.specs.Option.{IfSome}
use Rattle.std.proofs.Math.Seq.{get_or-append_seam, take-append_seam}
use Rattle.std.proofs.lemmas.Bool.{and_parts, lt-ltb, ltb-true}
use Rattle.std.proofs.lemmas.Bool.Decides.{nat_tests}
use Rattle.std.proofs.lemmas.List.Sums.{list_all-from_AllPass}
use Rattle.std.proofs.lemmas.Str.Ascii.{All-from_ascii, IsAscii-cons, IsAscii-nil}
use Rattle.std.proofs.lemmas.Option.{slice_get-get_or}
use Rattle.ascii_base.specs.Case.{lower_image, upper_image}
use Rattle.ascii_base.specs.First.{IsFirstAt}
use Rattle.ascii.specs.Found.{pieces_of}
use Rattle.ascii.specs.Search.{ContainsText, IsCut}
use Rattle.ascii.specs.Trim.{IsSpan, Trims}

-- ---- ASCII by a test

-- a text of which each code passes the test is ASCII
pub ascii_by_test : (text : List ℕ) → IsTrue (list_all is_ascii text) → IsAscii text
ascii_by_test [] pass = IsAscii-nil
ascii_by_test (code ∷ others) pass =
    let each = and_parts (is_ascii code) (list_all is_ascii others) pass in
    IsAscii-cons code others (ltb-true code 128 each.0) (ascii_by_test others each.1)

-- each code of an ASCII text passes the test
pub test_by_ascii : (text : List ℕ) → IsAscii text → IsTrue (list_all is_ascii text)
test_by_ascii text ascii = grind (arith, list_all-from_AllPass, lt-ltb, All-from_ascii)

-- ---- a search

-- a text contains a needle exactly if a search from the start finds it
pub contains_if_found : (text needle : List ℕ) (found : Option ℕ) → FindsNeedle text needle 0 found
    → IsTrue (is_some found) ↔ ContainsText needle text
contains_if_found text needle found finds = found_if_contained text needle found finds

-- ---- one item more at the back

-- pieces and one more are the joined pieces, the separator and the last piece
pub join_with_last : (on : ℕ) (pieces : List (List ℕ)) (last : List ℕ) → pieces ≢ []
    → join_with_byte on (pieces ++ last ∷ []) ≡ join_with_byte on pieces ++ on ∷ last
join_with_last on [] last some = absurd (some refl)
join_with_last on (piece ∷ []) last some = refl
join_with_last on (piece ∷ next ∷ others) last some =
    rw (join_with_last on (next ∷ others) last (λ none. cc), append_assoc)

-- the text of the other pieces, the separator and the last piece are the text
pub last_of_pieces : (on : ℕ) (text front last : List ℕ) (pieces : List (List ℕ))
    → Pieces text on (pieces ++ last ∷ []) → Pieces front on pieces → front ++ on ∷ last ≡ text
last_of_pieces on text front last pieces whole left = grind (arith, join_with_last)

-- a text without the separator is its one piece
pub one_piece : (on : ℕ) (text : List ℕ) (pieces : List (List ℕ))
    → Pieces text on pieces → ¬ (Contains text on) → pieces ≡ text ∷ []
one_piece on text pieces whole absent =
    Pieces-only text on pieces whole ∙ pieces_of-free on text (HasNo-from_absent on text absent)

-- the text after the last separator is the last piece
pub pieces_from_last_cut : (on : ℕ) (text before last : List ℕ)
    → IsCut (λ left right. ¬ (Contains right on)) (on ∷ []) text before last
    → (pieces : List (List ℕ)) × Pieces text on (pieces ++ last ∷ [])
pieces_from_last_cut on text before last cut = (
  pieces_of on before,
  subst (Pieces text on) (pieces_of-split_at_last on text before last (sym cut.joined)
      (HasNo-from_absent on last cut.sides)) (Pieces-pieces_of text on),
)

-- the text of the other lines and the last line, with its ending, are the text
pub last_of_lines : (text front : List ℕ) (last : Line) (lines : List Line)
    → LinesOf text (lines ++ last ∷ []) → LinesOf front lines → front ++ line_text last ≡ text
last_of_lines text front last lines whole left = grind (arith, flat_map-append, append-nil)

-- the last piece starts after the text of the others and one separator, and joins it to the text
pub last_of_piece_spans : (start on : ℕ) (text front : List ℕ) (last : WithStart (List ℕ))
    (spans : List (WithStart (List ℕ)))
    → PieceSpans start text on (spans ++ last ∷ []) → PieceSpans start front on spans
    → (last.start ≡ start + length front + 1) × (front ++ on ∷ last.item ≡ text)
last_of_piece_spans start on text front last spans whole left =
    let items = items_of spans in (
      grind (arith, room-pieces, same_from_push, map_push, with_starts-last),
      last_of_pieces on text front last.item items (rw map_push at whole.pieces) left.pieces,
    )

-- the last line starts after the text of the others, and joins it to the text
pub last_of_line_spans : (start : ℕ) (text front : List ℕ) (last : WithStart Line)
    (spans : List (WithStart Line))
    → LineSpansOf start text (spans ++ last ∷ []) → LineSpansOf start front spans
    → (last.start ≡ start + length front) × (front ++ line_text last.item ≡ text)
last_of_line_spans start text front last spans whole left =
    let items = items_of spans in (
      grind (arith, room-lines, same_from_push, map_push, with_starts-last),
      last_of_lines text front last.item items (rw map_push at whole.lines) left.lines,
    )

-- ---- extends and collects over `chars()`, `split()` and `lines()`

chars_road : (iter all : List ℕ) → iter ≡ all
    → YieldsList (YieldsFirstBy code_of (λ chars. chars)) code_of iter all
chars_road iter all is = YieldsList-from_first code_of _ all is

split_road : (split : Remaining ℕ (List ℕ)) → YieldsList
    (YieldsFirstAnd text_of (λ s. s.items) (StepsText at_front at_code))
    text_of split split.items
split_road split = road_from_first_and _ _ _ split.items refl

-- on `Ok`, extending from the characters of a text appends the text
pub extends_chars : (sure : ℕ) (iter all : List ℕ) (old new : StringState)
    (result : Result (Unit {0}) AllocError)
    → Extends sure (YieldsFirstBy code_of (λ chars. chars)) code_text iter old new result
    → iter ≡ all → OnOk result (new.text ≡ old.text ++ all)
extends_chars sure iter all old new result extends is =
    rw (singles all) at
    (all_from_extends (λ code. code ∷ []) old new result extends (chars_road iter all is))

-- extending from the characters of a text that fits the capacity succeeds
pub extends_fitting_chars : {sure : ℕ} (iter : List ℕ) (old new : StringState)
    (result : Result (Unit {0}) AllocError)
    → Extends sure (YieldsFirstBy code_of (λ chars. chars)) code_text iter old new result
    → length old.text + length iter ≤ old.capacity → IsOk result
extends_fitting_chars iter old new result extends fits =
    ok_from_extends (λ code. code ∷ []) old new result extends (chars_road iter iter refl)
    (rw (singles iter) fits)

-- collecting the characters of a text gives the text
pub collects_chars : (iter text : List ℕ)
    → Collects (YieldsFirstBy code_of (λ chars. chars)) code_text iter text
    → text ≡ iter
collects_chars iter text collects =
    collects.2 ∙ (pieces_from_drains (λ code. code ∷ []) collects.0 collects.1
    (chars_road iter iter refl) ∙ singles iter)

-- on `Ok`, extending from a split appends the pieces that remain
pub extends_split : {sure : ℕ} (split : Remaining ℕ (List ℕ)) (old new : StringState)
    (result : Result (Unit {0}) AllocError)
    → Extends sure (YieldsFirstAnd text_of (λ s. s.items) (StepsText at_front at_code))
    text_of split old new result
    → OnOk result (new.text ≡ old.text ++ flat_map (λ piece. piece) split.items)
extends_split split old new result extends =
    all_from_extends (λ piece. piece) old new result extends (split_road split)

-- collecting a split gives the pieces that remain, joined without a separator
pub collects_split : (split : Remaining ℕ (List ℕ)) (text : List ℕ)
    → Collects (YieldsFirstAnd text_of (λ s. s.items) (StepsText at_front at_code))
    text_of split text
    → text ≡ flat_map (λ piece. piece) split.items
collects_split split text collects =
    collects.2 ∙ pieces_from_drains (λ piece. piece) collects.0 collects.1 (split_road split)

-- collecting lines gives the bodies that remain, without their endings
pub collects_lines : (lines : List Line) (text : List ℕ)
    → Collects (YieldsFirstAnd text_of bodies DropsFirst) text_of lines text
    → text ≡ flat_map (λ body. body) (bodies lines)
collects_lines lines text collects =
    collects.2 ∙ pieces_from_drains (λ body. body) collects.0 collects.1
    (road_from_first_and _ _ DropsFirst (bodies lines) refl)

-- ---- a text and its start in a class

-- what follows the start in the class begins with the first code outside it
pub span_first : (Is : ℕ → Type 0) (text front rest : List ℕ) → IsSpan Is text front rest
    → rest ≢ [] → IsFirstAt Is (λ code. ¬ (Is code)) text (length front)
span_first Is text front [] span some = absurd (some refl)
span_first Is text front (c ∷ rest) span some =
    let inside : length front < length (front ++ c ∷ rest) = grind (arith, length-append) in
    let at = slice_get-get_or (front ++ c ∷ rest) (length front) c inside
    ∙ ap Some (get_or-append_seam front c rest c) in
    grind (arith, take-append_seam)

-- ---- what is done twice

-- the upper case of a text in upper case is that text
pub upper_twice : (t : List ℕ) → map upper_image (map upper_image t) ≡ map upper_image t
upper_twice [] = refl
upper_twice (n ∷ t) = grind (arith, nat_tests, upper_twice t)

-- the lower case of a text in lower case is that text
pub lower_twice : (t : List ℕ) → map lower_image (map lower_image t) ≡ map lower_image t
lower_twice [] = refl
lower_twice (n ∷ t) = grind (arith, nat_tests, lower_twice t)

module _ (Is : ℕ → Type 0) where
  -- the code at a position of a text is not in the class, if there is one
  abbrev IsBounded : List ℕ → ℕ → Type 0
  IsBounded t i = IfSome (slice_get t i) (λ code. ¬ (Is code))

  -- a text that begins with another code has no leading codes of the class to cut
  no_start : (t m cut : List ℕ) → IsSpan Is t cut m → IsBounded t 0 → m ≡ t
  no_start t m [] span bounded = span.joined
  no_start t m (c ∷ cut) span bounded = absurd (grind (arith, All-head))

  -- a text that ends with another code has no trailing codes of the class to cut
  no_end : (t m cut : List ℕ) → m ++ cut ≡ t → All Is cut → IsBounded t (length t - 1) → m ≡ t
  no_end t m [] joined within bounded = sym (append-nil m) ∙ joined
  no_end t m (c ∷ cut) joined within bounded =
      let xs = m ++ c ∷ cut in
      let last = length (c ∷ cut) - 1 in
      let inside : length xs - 1 < length xs = omega (arith, length-append m (c ∷ cut)) in
      let at : get_or xs (length xs - 1) 0 ≡ get_or (c ∷ cut) last 0 =
      grind (arith, common_steps) in
      grind (arith, slice_get-get_or, All-get_or)

  -- a text without leading codes of the class has none after its trailing ones are cut
  still_bounded : (t m cut : List ℕ) → m ++ cut ≡ t → IsBounded t 0 → IsBounded m 0
  still_bounded t [] cut joined bounded = tt
  still_bounded t (c ∷ m) cut joined bounded = grind arith

  -- trimming a trimmed text leaves it as it is
  pub trims_twice : (t m again : List ℕ) → Trims Is t m → Trims Is m again → again ≡ m
  trims_twice t m again once twice =
      let start = still_bounded once.0 m once.2.cut once.2.joined once.1.span.bounded in
      grind (arith, no_start, no_end)

-- ---- chunks, and characters that are kept

-- the chunks of a part, joined, are its bytes
pub joined_chunks : (part : WithStart (List ℕ)) (chunks : List (WithStart Run))
    → ChunksOf part chunks → flat_map (λ chunk. chunk.item.bytes) chunks ≡ part.item
joined_chunks part [] none = sym none
joined_chunks part (chunk ∷ chunks) held = grind (arith, joined_chunks held.0 chunks held.2)

codes_kept : (test : ℕ → Bool) (chars : List AsciiChar)
    → map code_of (filter (λ ch. test (code_of ch)) chars) ≡ filter test (map code_of chars)
codes_kept test [] = refl
codes_kept test (ch ∷ chars) = grind (arith, codes_kept test chars)

-- a closure that tests the code of each character leaves a filter of the codes
pub kept_by_code : {F : Type 0} (calls : Mut F (AsciiChar × Unit {0}) Bool) (test : ℕ → Bool)
    → ((f : F) (ch : AsciiChar) (stays : Bool) (g : F) → Called calls f (ch, tt) stays g
    → stays ≡ test (code_of ch))
    → (keep : F) (old new : List ℕ) → RetainsChars calls keep old new → new ≡ filter test old
kept_by_code calls test says keep old new is =
    let kept = filter_from_retain (λ f ch stays g. Called calls f (ch, tt) stays g)
    (λ ch. test (code_of ch)) says keep is.all is.kept is.chosen in
    grind (arith, codes_kept)

-- a closure that returns `true` only for codes of the class leaves only codes of the class
pub kept_in_class : {F : Type 0} (calls : Mut F (AsciiChar × Unit {0}) Bool) (Is : ℕ → Type 0)
    (keep : F) (old new : List ℕ) → RetainsChars calls keep old new
    → ((f : F) (ch : AsciiChar) (g : F) → Called calls f (ch, tt) true g → Is (code_of ch))
    → All Is new
kept_in_class {F} calls Is keep old new is says = subst (All Is) is.stay (grind (arith, each))
  where
    R : F → AsciiChar → Bool → F → Type 0
    R f ch stays g = Called calls f (ch, tt) stays g

    each : (f : F) (chars : List AsciiChar) (answers : List Bool) (last : F)
        → length answers ≡ length chars → (kept : List AsciiChar)
        → ReturnsInTurn R f answers chars last → kept ≡ items_where_true answers chars
        → All Is (map code_of kept)
    each f [] [] last many kept called are = rw are (All-nil Is)
    each f [] (b ∷ answers) last many kept called are = absurd (omega (arith, many))
    each f (ch ∷ chars) [] last many kept called are = absurd (omega (arith, many))
    each f (ch ∷ chars) (true ∷ answers) last many kept called are =
        rw are (All-cons Is (code_of ch) (map code_of (items_where_true answers chars))
        (says f ch called.0 called.1)
        (each called.0 chars answers last (omega (arith, many)) (items_where_true answers chars)
        called.2 refl))
    each f (ch ∷ chars) (false ∷ answers) last many kept called are =
        each called.0 chars answers last (omega (arith, many)) kept called.2 are
