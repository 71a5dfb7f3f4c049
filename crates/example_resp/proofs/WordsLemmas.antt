-- Words of a line, piece by piece and word by word.
use Rattle.std.proofs.Common.{◌≢◌, ◌<◌, ◌≤◌, ℕ, List, [], ◌∷◌, ◌++◌, ap, arith}
use Rattle.std.proofs.Common.{inl, inr, length, length-append, refl, subst}
use Rattle.std.specs.Prelude.{IfSome, slice_get}
use Rattle.ascii.specs.Class.{IsWhitespace}
use Rattle.ascii.specs.Trim.{TrimsStart}
use Rattle.example_resp.specs.Words.{HasPieces, IsGap, IsPiece, IsWord, TakesWord, TakesWords}
use Rattle.example_resp.specs.declared.words.Quotes.{Quotes}
use Rattle.example_resp.specs.declared.words.Quotes.TheVariants.{Bare, Double, Single}

-- ---- pieces

-- one piece more
pub pieces_more : (quotes : Quotes) (text value rest : List ℕ) (code : ℕ) (others : List ℕ)
    → HasPieces quotes text value rest → IsPiece quotes rest code others
    → HasPieces quotes text (value ++ code ∷ []) others
pieces_more quotes text [] rest code others is piece =
    (others, subst (λ (t : List ℕ). IsPiece quotes t code others) is piece, refl)
pieces_more quotes text (first ∷ value) rest code others (after, one, pieces) piece =
    (after, one, pieces_more quotes after value rest code others pieces piece)

-- a piece has a code at least
pub piece_shorter : (quotes : Quotes) (text : List ℕ) (code : ℕ) (others : List ℕ)
    → IsPiece quotes text code others → length others < length text
piece_shorter Bare text code others piece = omega (arith, ap length piece.0)
piece_shorter Single text code others (inl quote) = omega (arith, ap length quote.0)
piece_shorter Single text code others (inr other) = omega (arith, ap length other.0)
piece_shorter Double text code others (inl (after, is, hex)) =
    omega (arith, ap length is, ap length hex.joined)
piece_shorter Double text code others (inr (inl (mark, is, escape, other))) =
    omega (arith, ap length is)
piece_shorter Double text code others (inr (inr other)) = omega (arith, ap length other.0)

pub pieces_shorter : (quotes : Quotes) (text value rest : List ℕ)
    → HasPieces quotes text value rest → length rest ≤ length text
pieces_shorter quotes text [] rest is = omega (arith, ap length is)
pieces_shorter quotes text (code ∷ value) rest (others, piece, pieces) = omega (
  arith,
  piece_shorter quotes text code others piece,
  pieces_shorter quotes others value rest pieces,
)

-- ---- words

-- one word more
pub words_more : (text : List ℕ) (words : List (List ℕ)) (mid word rest : List ℕ)
    → TakesWords text words mid → TakesWord mid word rest
    → TakesWords text (words ++ word ∷ []) rest
words_more text [] mid word rest is takes =
    (rest, subst (λ (t : List ℕ). TakesWord t word rest) is takes, refl)
words_more text (first ∷ words) mid word rest (others, one, more) takes =
    (others, one, words_more others words mid word rest more takes)

gap_is_space : (code : ℕ) → IsGap code → IsWhitespace code
gap_is_space code (inl space) = inr space
gap_is_space code (inr (inl tab)) = inl (omega (arith, tab), omega (arith, tab))
gap_is_space code (inr (inr (inl cr))) = inl (omega (arith, cr), omega (arith, cr))
gap_is_space code (inr (inr (inr feed))) = inl (omega (arith, feed), omega (arith, feed))

-- a text that begins with neither white space nor nothing is longer than what comes after its word
pub word_shorter : (text word after : List ℕ) → IsWord text word after → text ≢ []
    → IfSome (slice_get text 0) (λ first. ¬ (IsWhitespace first)) → length after < length text
word_shorter text [] after (inl (is, gap)) some bounded = absurd (go text some bounded
    (subst (λ (t : List ℕ). IfSome (slice_get t 0) IsGap) is gap))
  where
    go : (text : List ℕ) → text ≢ [] → IfSome (slice_get text 0) (λ first. ¬ (IsWhitespace first))
        → IfSome (slice_get text 0) IsGap → ⊥
    go [] some bounded gap = some refl
    go (code ∷ codes) some bounded gap = bounded (gap_is_space code gap)
word_shorter text (code ∷ word) after (inl ((others, piece, pieces), gap)) some bounded = omega (
  arith,
  piece_shorter Bare text code others piece,
  pieces_shorter Bare others word after pieces,
)
word_shorter text word after (inr quoted) some bounded = omega (
  arith,
  pieces_shorter Bare text quoted.front (quoted.mark ∷ quoted.inside) quoted.opens.before,
  pieces_shorter quoted.quotes quoted.inside quoted.value (quoted.mark ∷ after) quoted.closes,
)

-- so it is after the white space that comes then
pub trimmed_shorter : (after rest : List ℕ) → TrimsStart IsWhitespace after rest
    → length rest ≤ length after
trimmed_shorter after rest trims = omega (
  arith,
  ap length trims.span.joined,
  length-append trims.cut rest,
)
