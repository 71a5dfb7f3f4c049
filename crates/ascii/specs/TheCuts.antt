-- The ways to cut that the iterators of a view use.
use Rattle.std.specs.Prelude.{◌≡◌, ℕ, Bool, List, length}
use Rattle.std.specs.List.{slice_split}
use Rattle.ascii.specs.ByClass.{IsOutside, piece_spans_by, word_spans_by, words_by}
use Rattle.ascii.specs.ByText.{IsFreeOf, match_spans_at, matches_at, piece_spans_at, pieces_at}
use Rattle.ascii.specs.Cutting.{Cutting}
use Rattle.ascii.specs.Ended.{EndsAtMost, inclusive, inclusive_spans, terminated, terminated_spans}
use Rattle.ascii.specs.Found.{piece_spans, pieces_of}
use Rattle.ascii.specs.Pieces.{Pieces}
use Rattle.ascii.specs.Parts.{LeavesAfter, LeavesBefore}
use Rattle.ascii.specs.Spans.{PieceSpans}
use Rattle.ascii.specs.Steps.{IsFree}
use Rattle.ascii.specs.Words.{IsWord}

-- at each `on`: the pieces between them
abbrev pub at_code : ℕ → Cutting
at_code on = record {
  AreItems = λ text pieces. Pieces text on pieces;
  items = pieces_of on;
  AreSpans = λ part spans. PieceSpans part.start part.item on spans;
  spans = piece_spans on;
  IsItem = IsFree on;
  LeavesFront = LeavesAfter 1;
  LeavesBack = LeavesBefore 1;
}

-- at each code of a class
abbrev pub at_class : (ℕ → Type 0) → (ℕ → Bool) → Cutting
at_class Is test = record {
  AreItems = λ text pieces. slice_split test text ≡ pieces;
  items = slice_split test;
  AreSpans = λ part spans. piece_spans_by test part ≡ spans;
  spans = piece_spans_by test;
  IsItem = IsOutside Is;
  LeavesFront = LeavesAfter 1;
  LeavesBack = LeavesBefore 1;
}

-- into the words outside a class
abbrev pub at_words : (ℕ → Type 0) → (ℕ → Bool) → Cutting
at_words Is test = record {
  AreItems = λ text words. words_by test text ≡ words;
  items = words_by test;
  AreSpans = λ part spans. word_spans_by test part ≡ spans;
  spans = word_spans_by test;
  IsItem = IsWord Is;
  LeavesFront = LeavesAfter 0;
  LeavesBack = LeavesBefore 0;
}

-- at each `on`, without an empty last piece
abbrev pub at_terminator : ℕ → Cutting
at_terminator on = record {
  AreItems = λ text pieces. terminated on text ≡ pieces;
  items = terminated on;
  AreSpans = λ part spans. terminated_spans on part ≡ spans;
  spans = terminated_spans on;
  IsItem = IsFree on;
  LeavesFront = LeavesAfter 1;
  LeavesBack = LeavesBefore 0;
}

-- after each `on`
abbrev pub at_end : ℕ → Cutting
at_end on = record {
  AreItems = λ text pieces. inclusive on text ≡ pieces;
  items = inclusive on;
  AreSpans = λ part spans. inclusive_spans on part ≡ spans;
  spans = inclusive_spans on;
  IsItem = EndsAtMost on;
  LeavesFront = LeavesAfter 0;
  LeavesBack = LeavesBefore 0;
}

-- at each occurrence of a text, from the front
abbrev pub at_text : List ℕ → Cutting
at_text needle = record {
  AreItems = λ text pieces. pieces_at needle text ≡ pieces;
  items = pieces_at needle;
  AreSpans = λ part spans. piece_spans_at needle part ≡ spans;
  spans = piece_spans_at needle;
  IsItem = IsFreeOf needle;
  LeavesFront = LeavesAfter (length needle);
  LeavesBack = LeavesBefore (length needle);
}

-- into the occurrences of a text, from the front
abbrev pub at_matches : List ℕ → Cutting
at_matches needle = record {
  AreItems = λ text found. matches_at needle text ≡ found;
  items = matches_at needle;
  AreSpans = λ part spans. match_spans_at needle part ≡ spans;
  spans = match_spans_at needle;
  IsItem = λ item. item ≡ needle;
  LeavesFront = LeavesAfter 0;
  LeavesBack = LeavesBefore 0;
}
