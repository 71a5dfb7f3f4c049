-- The words of an edit, one after another.
use Rattle.std.proofs.Common.{◌≡◌, ◌∙◌, ℕ, ◌+◌, ◌<◌, List, [], ◌∷◌, ◌++◌, length, get_or}
use Rattle.std.proofs.Common.{take, drop, ap, add-one, All, arith, inr, suc, sym}
use Rattle.std.proofs.Common.{length-take-le}
use Rattle.std.specs.Prelude.{codes}
use Rattle.std.specs.List.{AllZip}
use Rattle.std.proofs.Math.Seq.{drop-cons, take-suc}
use Rattle.std.proofs.lemmas.List.{take-append-drop}
use Rattle.std.proofs.lemmas.List.Elements.{All-cons, All-nil}
use Rattle.ascii_run.specs.declared.commands.Cmd.{Cmd}
use Rattle.ascii_show.specs.Call.{HasBadWord}
use Rattle.ascii_show.specs.Words.{IsWord, IsWordOf}
use Rattle.ascii.proofs.ListLemmas.{AllZip-push}

-- one more word and its command
pub more_words : (words : List (List ℕ)) (cmds : List Cmd) (i : ℕ) (word : List ℕ) (cmd : Cmd)
    → i < length words → get_or words i [] ≡ word
    → AllZip IsWordOf (take i words) cmds → IsWordOf word cmd
    → AllZip IsWordOf (take (i + 1) words) (cmds ++ cmd ∷ [])
more_words words cmds i word cmd inside is all last =
    rw (add-one i, take-suc words i [] inside, is)
    (AllZip-push IsWordOf (take i words) cmds word cmd all last)

-- words with commands are words
all_words : (words : List (List ℕ)) (cmds : List Cmd)
    → AllZip IsWordOf words cmds → All IsWord words
all_words [] [] all = All-nil IsWord
all_words (word ∷ words) (cmd ∷ cmds) all =
    All-cons IsWord word words (cmd, all.0) (all_words words cmds all.1)
all_words [] (cmd ∷ cmds) all = absurd all
all_words (word ∷ words) [] all = absurd all

-- a word after words that are commands is the first that is not one
pub first_bad_word : (words : List (List ℕ)) (cmds : List Cmd) (i : ℕ) (word : List ℕ)
    → i < length words → get_or words i [] ≡ word
    → AllZip IsWordOf (take i words) cmds → ¬ (IsWord word)
    → HasBadWord (codes "edit" ∷ words) (i + 1)
first_bad_word words cmds i word inside is all bad = inr (
  take i words,
  drop (suc i) words,
  word,
  ap (λ ws. codes "edit" ∷ ws) (sym (take-append-drop i words)
      ∙ ap (λ ws. take i words ++ ws)
      (drop-cons words i [] inside ∙ ap (λ w. w ∷ drop (suc i) words) is)),
  all_words (take i words) cmds all,
  bad,
  omega (arith, length-take-le i words),
)
