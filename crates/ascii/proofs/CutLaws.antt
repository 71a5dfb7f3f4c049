-- The ways to cut are lawful.
use Rattle.std.proofs.Common.{◌≡◌, ◌≢◌, ◌↔◌, IsTrue, false, ℕ, Bool, List, [], ◌==◌, ap, arith}
use Rattle.std.proofs.Common.{reverse, subst, sym, ◌∙◌}
use Rattle.std.proofs.lemmas.Bool.{false≢true}
use Rattle.std.proofs.lemmas.List.{length-reverse, reverse-reverse}
use Rattle.ascii.proofs.ByClassLemmas.{piece_spans_fit_by, word_spans_fit_by, words_of_spans}
use Rattle.ascii.proofs.ByTextLemmas.{match_spans_fit, matches_of_spans, piece_spans_at_fit}
use Rattle.ascii.proofs.ByTextLemmas.{pieces_of_spans_at}
use Rattle.ascii.specs.Cutting.{Cutting, IsLawful, backwards}
use Rattle.ascii.proofs.EndedLemmas.{ended_spans_fit, items_of_ended}
use Rattle.ascii_base.proofs.ListLemmas.{map-reverse}
use Rattle.ascii.proofs.PiecesLemmas.{Pieces-only, Pieces-pieces_of}
use Rattle.ascii.proofs.PlacedLemmas.{inclusive_placed, matches_placed, pieces_at_placed}
use Rattle.ascii.proofs.PlacedLemmas.{pieces_placed, placed_reversed, terminated_placed}
use Rattle.ascii.proofs.PlacedLemmas.{words_placed}
use Rattle.ascii.specs.Spans.{piece_size}
use Rattle.ascii.proofs.SpansLemmas.{items-with_starts, piece_spans_fit, piece_spans_found}
use Rattle.ascii.specs.TheCuts.{at_class, at_code, at_end, at_matches, at_terminator, at_text}
use Rattle.ascii.specs.TheCuts.{at_words}

pub at_code_lawful : (on : ℕ) → IsLawful (at_code on)
at_code_lawful on = record {
  found = λ text. Pieces-pieces_of text on;
  only = λ text others are. Pieces-only text on others are;
  spanned = λ part. piece_spans_found on part;
  same = λ part. items-with_starts piece_size part.start _;
  placed = λ part. pieces_placed (λ code. code == on) part.start part.item;
  fits = λ part. piece_spans_fit on part;
}

pub at_class_lawful : (Is : ℕ → Type 0) (test : ℕ → Bool) → IsLawful (at_class Is test)
at_class_lawful Is test = grind (arith, items-with_starts, pieces_placed, piece_spans_fit_by)

pub at_words_lawful : (Is : ℕ → Type 0) (test : ℕ → Bool) → IsLawful (at_words Is test)
at_words_lawful Is test = grind (arith, words_of_spans, words_placed, word_spans_fit_by)

pub at_terminator_lawful : (on : ℕ) → IsLawful (at_terminator on)
at_terminator_lawful on = grind (arith, items_of_ended, terminated_placed, ended_spans_fit)

pub at_end_lawful : (on : ℕ) → IsLawful (at_end on)
at_end_lawful on = grind (arith, items_of_ended, inclusive_placed, ended_spans_fit)

pub at_text_lawful : (needle : List ℕ) → IsLawful (at_text needle)
at_text_lawful needle = grind (arith, pieces_of_spans_at, pieces_at_placed, piece_spans_at_fit)

pub at_matches_lawful : (needle : List ℕ) → IsLawful (at_matches needle)
at_matches_lawful needle = grind (arith, matches_of_spans, matches_placed, match_spans_fit)

pub backwards_lawful : (cut : Cutting) → IsLawful cut → IsLawful (backwards cut)
backwards_lawful cut laws = record {
  found = λ text. subst (cut.AreItems text) (sym (reverse-reverse (cut.items text))) (laws.found text);
  only = λ text others are. sym (reverse-reverse others) ∙ ap reverse (laws.only text (reverse others) are);
  spanned = grind (arith, reverse-reverse);
  same = λ part. map-reverse (λ span. span.item) (cut.spans part) ∙ ap reverse (laws.same part);
  placed = λ part. placed_reversed part.start part.item (cut.spans part) (laws.placed part);
  fits = λ part. omega (arith, length-reverse (cut.spans part), laws.fits part);
}

-- a cut that always has an item
pub has_some : {A : Type 0} (items : List A) → items ≢ [] → IsTrue false ↔ (items ≡ [])
has_some items some = (λ is. absurd (false≢true is), λ none. absurd (some none))
