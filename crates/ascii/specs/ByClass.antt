-- The pieces of a text at the codes of a class, and its words: the pieces that are not empty.
use Rattle.std.specs.Prelude.{ℕ, Bool, true, false, not, List, [], ◌∷◌, All}
use Rattle.std.specs.List.{filter, slice_split}
use Rattle.ascii.specs.Spans.{WithStart, piece_size, with_starts}

-- a whole text, which starts at 0
abbrev pub whole : List ℕ → WithStart (List ℕ)
whole text = record { start = 0; item = text }

-- no code of the piece is in the class `Is`
abbrev pub IsOutside : (ℕ → Type 0) → List ℕ → Type 0
IsOutside Is piece = All (λ code. ¬ (Is code)) piece

-- the pieces of a part at each code that passes the test, laid end to end from its start
abbrev pub piece_spans_by : (ℕ → Bool) → WithStart (List ℕ) → List (WithStart (List ℕ))
piece_spans_by test part = with_starts piece_size part.start (slice_split test part.item)

-- whether a text has a code
abbrev pub has_some : List ℕ → Bool
has_some [] = false
has_some (code ∷ text) = true

-- the words of a text: the pieces that are not empty
abbrev pub words_by : (ℕ → Bool) → List ℕ → List (List ℕ)
words_by test text = filter has_some (slice_split test text)

-- the words of a part with their starts: the pieces that are not empty
abbrev pub word_spans_by : (ℕ → Bool) → WithStart (List ℕ) → List (WithStart (List ℕ))
word_spans_by test part = filter (λ span. has_some span.item) (piece_spans_by test part)

-- whether a code is on one side of a class: the test of the class if `inside` is true, and the
-- opposite if `inside` is false
abbrev pub side_test : (ℕ → Bool) → Bool → ℕ → Bool
side_test test true = test
side_test test false = λ code. not (test code)
