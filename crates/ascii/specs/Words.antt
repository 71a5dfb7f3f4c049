-- The words of a text: its longest runs of codes outside a class.
use Rattle.std.specs.Prelude.{◌≡◌, ◌≢◌, ℕ, List, [], ◌∷◌, ◌++◌, All, IfSome}
use Rattle.std.specs.Prelude.{slice_get}
use Rattle.ascii.specs.declared.ascii_str.AsciiStr.{AsciiStr}
use Rattle.ascii.specs.View.{text_of}

-- `word` is not empty, and none of its codes is in the class `Is`
pub record IsWord (Is : ℕ → Type 0) (word : List ℕ) : Type 0 where
  pub some : word ≢ []
  pub free : All (λ code. ¬ (Is code)) word

-- `word` is the first word of `text`, and `rest` is what follows it: only codes of the class `Is`
-- come before the word, and `rest` is empty or begins with one
pub record IsFirstWord (Is : ℕ → Type 0) (text word rest : List ℕ) : Type 0 where
  pub gap : List ℕ
  pub joined : gap ++ (word ++ rest) ≡ text
  pub within : All Is gap
  pub is_word : IsWord Is word
  pub bounded : IfSome (slice_get rest 0) Is

-- `words` are the words of `text`, in order
abbrev pub Words : (ℕ → Type 0) → List ℕ → List (List ℕ) → Type 0
Words Is text [] = All Is text
Words Is text (word ∷ words) =
    (rest : List ℕ) × IsFirstWord Is text word rest × Words Is rest words

-- `Holds` is true of a list that is the words of the view
abbrev pub OfWords : (ℕ → Type 0) → AsciiStr → (List (List ℕ) → Type 0) → Type 0
OfWords Is view Holds = (words : List (List ℕ)) × Words Is (text_of view) words × Holds words
