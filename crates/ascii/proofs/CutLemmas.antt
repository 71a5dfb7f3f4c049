-- Texts that begin with, end with or contain another.
use Rattle.std.proofs.Common.{◌≡◌, ℕ, ◌+◌, ◌-◌, List, ◌++◌, length, ◌≤◌, Option, None, Some, arith}
use Rattle.std.proofs.Common.{is_some, length-append, refl, true}
use Rattle.std.proofs.lemmas.Bool.{false≢true}
use native.Mathlib.Numerals.{unary_clauses}
use Rattle.std.specs.List.{slice_range}
use Rattle.std.proofs.lemmas.List.{length-take-le, take-append-drop, take_rest}
use Rattle.std.proofs.Math.Seq.{drop-append_seam, take-append_seam}
use Rattle.memchr.specs.Find.{FindsLastNeedle, FindsNeedle, Nowhere, OccursAt}
use Rattle.memchr.proofs.lemmas.MatchLemmas.{OccursAt-split}
use Rattle.ascii.specs.Search.{ContainsText, EndsWith, IsCut, StartsWith}

-- the start of a text that begins with `prefix`
pub prefix_reads : (prefix text : List ℕ) → StartsWith prefix text
    → slice_range text 0 (length prefix) ≡ prefix
prefix_reads prefix text starts = simp unary_clauses (grind (arith, take-append_seam))

-- a text is its start and what follows
pub joined_at : (n : ℕ) (text : List ℕ)
    → slice_range text 0 n ++ slice_range text n (length text) ≡ text
joined_at n text = grind (arith, take_rest, take-append-drop)

-- the end of a text that ends with `suffix`
pub suffix_reads : (suffix text : List ℕ) → EndsWith suffix text
    → slice_range text (length text - length suffix) (length text) ≡ suffix
suffix_reads suffix text ends =
    let whole : length text ≡ length ends.0 + length suffix = grind (arith, length-append) in
    let start : length text - length suffix ≡ length ends.0 = omega (arith, whole) in
    grind (arith, take_rest, drop-append_seam)

-- a text is at least as long as its end
pub suffix_fits : (suffix text : List ℕ) → EndsWith suffix text → length suffix ≤ length text
suffix_fits suffix text ends = grind (arith, length-append)

-- a search from the start finds a needle exactly if the text contains it
pub found_if_contained : (text needle : List ℕ) (found : Option ℕ)
    → FindsNeedle text needle 0 found
    → (is_some found ≡ true → ContainsText needle text)
    × (ContainsText needle text → is_some found ≡ true)
found_if_contained text needle None finds = (
  λ no. absurd (false≢true no),
  λ occurs. absurd (finds occurs.0 (omega arith)
      (let fits = occurs.1.fits in omega (arith, fits)) occurs.1),
)
found_if_contained text needle (Some k) finds = (λ _. (k, finds.1), λ _. refl)

-- a text is what comes before an occurrence of `needle`, the needle, and what comes after it
around : (text needle : List ℕ) (k : ℕ) → OccursAt text needle k
    → slice_range text 0 k ++ (needle ++ slice_range text (k + length needle) (length text)) ≡ text
around text needle k occurs = grind (arith, take_rest, OccursAt-split, take-append-drop)

-- the text before a position is as long as the position says
long_to : (text : List ℕ) (k : ℕ) → k ≤ length text → length (slice_range text 0 k) ≡ k
long_to text k inside = simp unary_clauses (length-take-le k text inside)

-- a text in which a search finds no needle does not contain it
pub not_found : (text needle : List ℕ) → FindsNeedle text needle 0 None
    → ¬ (ContainsText needle text)
not_found text needle finds occurs =
    false≢true ((found_if_contained text needle None finds).1 occurs)

-- the cut at the needle that a search finds first
pub cut_at_first_text : (text needle : List ℕ) (k : ℕ) → FindsNeedle text needle 0 (Some k)
    → IsCut (λ before after. Nowhere (OccursAt text needle) 0 (length before)) needle text
    (slice_range text 0 k)
    (slice_range text (k + length needle) (length text))
cut_at_first_text text needle k finds = record {
  joined = around text needle k finds.1;
  sides = rw (long_to text k (let fits = finds.1.fits in omega (arith, fits))) finds.0.before;
}

-- a text in which a search from the end finds no needle does not contain it
pub not_found_last : (text needle : List ℕ) → FindsLastNeedle text needle None
    → ¬ (ContainsText needle text)
not_found_last text needle finds occurs = finds occurs.0 (omega arith)
    (let fits = occurs.1.fits in omega (arith, fits)) occurs.1

-- the cut at the needle that a search finds last
pub cut_at_last_text : (text needle : List ℕ) (k : ℕ) → FindsLastNeedle text needle (Some k)
    → IsCut (λ before after. Nowhere (OccursAt text needle) (length before + 1) (length text + 1))
    needle text (slice_range text 0 k)
    (slice_range text (k + length needle) (length text))
cut_at_last_text text needle k finds = record {
  joined = around text needle k finds.1;
  sides = rw (long_to text k (let fits = finds.1.fits in omega (arith, fits))) finds.0.after;
}
