-- Texts that begin or end with another when the case of letters is ignored.
use Rattle.std.proofs.Common.{◌≡◌, ℕ, ◌≤◌, List, length, take, drop, sym, ap, ◌∙◌, arith}
use Rattle.std.proofs.Common.{length-append}
use Rattle.std.specs.Prelude.{map}
use Rattle.std.specs.List.{slice_range}
use Rattle.std.proofs.lemmas.List.{length-map, map-append, take-append-drop, take-map}
use Rattle.std.proofs.Math.Seq.{take-append_seam}
use Rattle.ascii_base.specs.Case.{lower_image}
use Rattle.ascii.specs.Search.{IgnoringCase, IsPrefix, StartsWith}
use Rattle.ascii.proofs.CutLemmas.{joined_at, prefix_reads}

-- texts that are one when the case is ignored are as long as each other
as_long : (a b : List ℕ) → map lower_image a ≡ map lower_image b → length a ≡ length b
as_long a b same = grind (arith, length-map)

module _ (prefix text : List ℕ) where
  -- a prefix is no longer than its text
  pub folded_fits : IgnoringCase (λ start. StartsWith start text) prefix
      → length prefix ≤ length text
  folded_fits starts = grind (arith, length-append, as_long)

  -- the start of a text that begins with `prefix`
  pub folded_reads : IgnoringCase (λ start. StartsWith start text) prefix
      → map lower_image (slice_range text 0 (length prefix)) ≡ map lower_image prefix
  folded_reads starts =
      ap (λ n. map lower_image (slice_range text 0 n)) (sym (as_long starts.other prefix starts.same))
      ∙ (ap (map lower_image) (prefix_reads starts.other text starts.is) ∙ starts.same)

-- what follows a start that is the prefix
pub folded_rest : (n : ℕ) (prefix text : List ℕ)
    → map lower_image (slice_range text 0 n) ≡ map lower_image prefix
    → IgnoringCase (λ start. IsPrefix start text (slice_range text n (length text))) prefix
folded_rest n prefix text same = grind (arith, joined_at)

-- ---- the two texts in lower case begin so exactly if the texts do when the case is ignored

module _ (prefix text : List ℕ) where
  pub lower_starts : IgnoringCase (λ start. StartsWith start text) prefix
      → StartsWith (map lower_image prefix) (map lower_image text)
  lower_starts starts = (
    map lower_image starts.is.0,
    grind (arith, map-append),
  )

  pub starts_from_lower : StartsWith (map lower_image prefix) (map lower_image text)
      → IgnoringCase (λ start. StartsWith start text) prefix
  starts_from_lower starts =
      let reads : take (length prefix) (map lower_image text) ≡ map lower_image prefix =
      grind (arith, length-map, take-append_seam) in
      record {
        other = take (length prefix) text;
        same = sym (take-map lower_image (length prefix) text) ∙ reads;
        is = (drop (length prefix) text, take-append-drop (length prefix) text);
      }
