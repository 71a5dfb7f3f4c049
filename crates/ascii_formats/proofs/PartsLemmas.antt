-- The text between two positions of a text, and what it starts and ends with.
use Rattle.std.proofs.Common.{◌≡◌, ◌≤◌, ◌↔◌, ℕ, ◌+◌, ◌-◌, List, [], ◌∷◌, ◌++◌, length, drop, arith, ap}
use Rattle.std.proofs.Common.{◌∙◌, append_assoc, drop-drop, get_or, length-append, length-drop, subst}
use Rattle.std.proofs.Common.{refl, take, take-append-drop}
use Rattle.std.specs.List.{All, flat_map, slice_range}
use Rattle.std.proofs.lemmas.Grind.{common_steps}
use Rattle.std.proofs.lemmas.List.{drop_more, flat_map_more, get_or-take}
use Rattle.std.proofs.lemmas.List.{length-take, length-take-le, take_all}
use Rattle.std.proofs.lemmas.List.Elements.{All-drop, All-from_get_or, All-head, All-map}
use Rattle.std.proofs.lemmas.List.Folds.{drop_split}
use Rattle.std.proofs.Math.Seq.{drop-append_seam}
use Rattle.ascii.specs.Bytes.{IsFirstOf}
use Rattle.ascii.specs.Parts.{WithStart}
use Rattle.ascii.specs.Placed.{HasAt}
use Rattle.ascii.specs.Search.{EndsWith, StartsWith}
use Rattle.ascii.specs.View.{text_of}
use Rattle.ascii.specs.declared.ascii_str.AsciiStr.{AsciiStr}
use Rattle.ascii.proofs.CutLemmas.{suffix_fits}
use Rattle.ascii.proofs.PlacedLemmas.{has_at}
use Rattle.ascii_formats.specs.declared.parts.Part.{Part}
use Rattle.ascii_formats.specs.Parts.{IsCutBy, IsFollowed, in_whole, part_text, parts_of}

-- all of a text
pub whole_range : (text : List ℕ) → slice_range text 0 (length text) ≡ text
whole_range text = grind (arith, take_all)

-- the length of the text between two positions
pub length_range : (text : List ℕ) (start end : ℕ) → start ≤ end → end ≤ length text
    → length (slice_range text start end) ≡ end - start
length_range text start end low high = grind (arith, length-take-le, length-drop)

-- it is empty exactly if the positions are the same
pub empty_range : (text : List ℕ) (start end : ℕ) → start ≤ end → end ≤ length text
    → (slice_range text start end ≡ []) ↔ (start ≡ end)
empty_range text start end low high = (
  λ none. omega (arith, length_range text start end low high, ap length none),
  λ same. rw same (grind arith),
)

-- what it starts with
pub front_range : (text front : List ℕ) (start end : ℕ) → start ≤ end → end ≤ length text
    → StartsWith front (slice_range text start end)
    → slice_range text start (start + length front) ≡ front
front_range text front start end low high starts =
    has_at text front (starts.0 ++ drop end text) start (grind (arith, append_assoc, drop_split))

-- a part is as long as its positions say
pub part_length : (part : Part) → part.start + length (part_text part) ≡ part.end
unfolding part_text
part_length part = omega (
  arith,
  length_range (text_of part.whole) part.start part.end part.fits.0 part.fits.1,
)

-- where the sides of a cut of a part meet
pub ruleset part_lengths = (part_length, append_assoc, length-append, length-take, length-drop)

-- what a part ends with is not longer
pub rest_fits : (part : Part) (rest : List ℕ) → EndsWith rest (part_text part)
    → part.start + length rest ≤ part.end
rest_fits part rest ends = omega (arith, part_length part, suffix_fits rest (part_text part) ends)

-- a part ends with what its whole has there
pub rest_range : (part : Part) (rest : List ℕ) → EndsWith rest (part_text part)
    → slice_range (text_of part.whole) (part.end - length rest) part.end ≡ rest
unfolding part_text
rest_range part rest ends =
    let text = text_of part.whole in
    let from = part.start + length ends.0 in
    let to : from + length rest ≡ part.end = omega (
      arith,
      length_range text part.start part.end part.fits.0 part.fits.1,
      ap length ends.1,
      length-append ends.0 rest,
    ) in
    let others : drop from text ≡ rest ++ drop part.end text = grind (
      arith,
      append_assoc,
      drop_split,
      drop-append_seam ends.0 (rest ++ drop part.end text),
      drop-drop (length ends.0) part.start text,
    ) in
    let at : part.end - length rest ≡ from = omega arith in
    rw at (subst (λ e. slice_range text from e ≡ rest) to
    (has_at text rest (drop part.end text) from others))

-- a part is what its whole has at its start
pub part_is_at : (part : Part) → HasAt (text_of part.whole) part.start (part_text part)
unfolding part_text
part_is_at part = grind (arith, length_range (text_of part.whole) part.start part.end)

-- a part that was cut off another is a part of its whole
pub part_whole : (part item : Part) (spans : List (WithStart (List ℕ)))
    (front rest : List (AsciiStr × WithStart (List ℕ)))
    → parts_of part spans ≡ front ++ in_whole item ∷ rest → item.whole ≡ part.whole
part_whole part item spans front rest cut =
    let Is : AsciiStr × WithStart (List ℕ) → Type 0 = λ it. it.0 ≡ part.whole in
    let all = subst (All Is) cut (All-map Is _ spans (λ k d low. refl)) in
    All-head Is (in_whole item) rest
    (subst (All Is) (drop-append_seam front _) (All-drop Is (length front) _ all))

-- a text ends with what comes after a cut of it
pub after_cut : (before between after text : List ℕ) → before ++ (between ++ after) ≡ text
    → EndsWith after text
after_cut before between after text joined =
    (before ++ between, append_assoc before between after ∙ joined)

-- the cut at the first code of a class
pub cut_by : (Is : ℕ → Type 0) (text : List ℕ) (at : ℕ) → IsFirstOf Is text 0 (length text) at
    → IsCutBy Is text (take at text) (drop (at + 1) text)
cut_by Is text at first = record {
  on = get_or text at 0;
  is = first.one;
  cut = record {
    joined = grind (arith, drop_more, take-append-drop);
    sides = All-from_get_or (λ code. ¬ (Is code)) (take at text) 0
        (grind (arith, common_steps, get_or-take));
  };
}

-- ---- for parsers that take things from the start of a part, one after the other

-- one more of a list, whose texts come after `front`
pub followed_more : {A : Type 0} (written : A → List ℕ) (front : List ℕ) (items longer : List A)
    (item : A) (part middle rest : Part) → longer ≡ items ++ item ∷ []
    → IsFollowed part (front ++ flat_map written items) middle
    → IsFollowed middle (written item) rest → IsFollowed part (front ++ flat_map written longer) rest
followed_more written front items longer item part middle rest same first second =
    let before = front ++ flat_map written items in
    rw (same, ← flat_map_more written front items item) (record {
      joined = append_assoc before (written item) (part_text rest)
          ∙ ap (λ l. before ++ l) second.joined ∙ first.joined;
      whole = second.whole ∙ first.whole;
      start = omega (arith, first.start, second.start, length-append before (written item));
      end = second.end ∙ first.end;
    })
