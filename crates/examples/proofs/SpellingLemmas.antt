-- What a set has after one more word.
use Rattle.std.proofs.Common.{arith, ℕ, List, [], ◌∷◌, ◌++◌}
use Rattle.std.proofs.lemmas.List.Folds.{list_any-append}
use Rattle.ascii_keys.proofs.FoldedMapLemmas.{same_laws}
use Rattle.ascii_keys.specs.Maps.{same_folded}
use Rattle.ascii_keys.specs.Sets.{Adds}
use Rattle.examples.specs.Spelling.{HasWords}

-- one more word of a list is one more of the set
pub has_more : (words known new : List (List ℕ)) (word : List ℕ) → HasWords words known
    → Adds same_folded known word new → HasWords (words ++ word ∷ []) new
has_more words known new word has adds = λ text.
    rw (
      adds text,
      has text,
      list_any-append (same_folded text) words (word ∷ []),
      same_laws.symm word text,
    ) (grind arith)
