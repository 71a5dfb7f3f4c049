-- The letters of ends.
use Rattle.std.proofs.Common.{◌≡◌, ◌≢◌, ◌∙◌, ℕ, ◌<◌, List, [], ◌∷◌, length, get_or, arith, ap}
use Rattle.std.proofs.Common.{ap₂, map, refl, subst, sym, inl, inr}
use Rattle.std.specs.Prelude.{codes}
use Rattle.std.specs.Borrow.{Bor}
use Rattle.std.proofs.lemmas.List.{get_or-map, length-map}
use Rattle.ascii.specs.declared.iter.walks.End.{End}
use Rattle.ascii.specs.declared.iter.walks.End.TheVariants.{Back, Front}
use Rattle.ascii_run.specs.declared.modes.Mode.TheVariants as mode
use Rattle.ascii_run.specs.Names.{IsPlainName}
use Rattle.ascii_show.specs.Call.{HasScript, IsCall, IsModeName, IsScriptFault, IsWordsFault}
use Rattle.ascii_show.specs.Call.{TakesNoArgument, words_of}
use Rattle.ascii_run.specs.declared.faults.EngineFault.TheVariants.{Memory}
use Rattle.ascii_show.specs.declared.failure.Failure.{Failure}
use Rattle.ascii_show.specs.declared.failure.Failure.TheVariants.{BadWord, Engine}
use Rattle.ascii_show.specs.Words.{AreEndsOf, IsNotEndLetter, IsScript, letter_of}

-- the bytes of an argument
abbrev pub bytes_of : Bor (List ℕ) → List ℕ
bytes_of arg = arg.now

-- a letter of no end spoils a script
pub no_script : (script : List ℕ) (i : ℕ) → i < length script
    → IsNotEndLetter (get_or script i 0) → ¬ (IsScript script)
no_script script i inside none is =
    none (get_or is.0 i Front) (grind (arith, get_or-map, length-map, inside, is.1))

-- `-s` is not a script
no_letter_is_minus : (end : End) → letter_of end ≢ 45
no_letter_is_minus Front is = omega (arith, is)
no_letter_is_minus Back is = omega (arith, is)

pub letters_are_no_option : (letters : List ℕ) (script : List End) → AreEndsOf letters script
    → letters ≢ codes "-s"
letters_are_no_option letters script are option =
    no_script (codes "-s") 0 (omega arith) no_letter_is_minus (script, are ∙ option)

-- one word, and two words
pub one_word : (args : List (Bor (List ℕ))) (none : Bor (List ℕ)) → length args ≡ 1
    → words_of args ≡ (get_or args 0 none).now ∷ []
one_word [] none one = absurd (omega (arith, one))
one_word (x ∷ []) none one = refl
one_word (x ∷ y ∷ zs) none one = absurd (omega (arith, one))

pub two_words : (args : List (Bor (List ℕ))) (none : Bor (List ℕ)) → length args ≡ 2
    → (first last : List ℕ)
    → (get_or args 0 none).now ≡ first → (get_or args 1 none).now ≡ last
    → words_of args ≡ first ∷ (last ∷ [])
two_words [] none two first last is_first is_last = absurd (omega (arith, two))
two_words (x ∷ []) none two first last is_first is_last = absurd (omega (arith, two))
two_words (x ∷ y ∷ []) none two first last is_first is_last =
    ap₂ (λ (a : List ℕ) (b : List ℕ). a ∷ (b ∷ [])) is_first is_last
two_words (x ∷ y ∷ z ∷ zs) none two first last is_first is_last = absurd (omega (arith, two))

-- arguments after `ends` without a script are not a call
no_ends : (words : List (List ℕ))
    → ((script : List ℕ) (n : ℕ) → ¬ (HasScript (codes "ends" ∷ words) script n))
    → ¬ (IsCall (codes "ends" ∷ words))
no_ends words none (inl (mode.Copy, is)) = omega (arith, ap (λ ws. get_or (get_or ws 0 []) 0 0) is)
no_ends words none (inl (mode.Lines, is)) =
    omega (arith, ap (λ ws. get_or (get_or ws 0 []) 0 0) is)
no_ends words none (inl (mode.Tac, is)) = omega (arith, ap (λ ws. get_or (get_or ws 0 []) 0 0) is)
no_ends words none (inl (mode.Caret, is)) =
    omega (arith, ap (λ ws. get_or (get_or ws 0 []) 0 0) is)
no_ends words none (inl (mode.Json, is)) = omega (arith, ap (λ ws. get_or (get_or ws 0 []) 0 0) is)
no_ends words none (inl (mode.Ends script, is)) = none (map letter_of script.now) 1
    (inl (is, letters_are_no_option (map letter_of script.now) script.now refl, refl))
no_ends words none (inl (mode.EndsSpans script, is)) =
    none (map letter_of script.now) 2 (inr (is, refl))
no_ends words none (inl (mode.Edit cmds, is)) =
    omega (arith, ap (λ ws. get_or (get_or ws 0 []) 1 0) is.1)
no_ends words none (inr (inl (script, n, has))) = none script n has
no_ends words none (inr (inr (edits, is))) =
    omega (arith, ap (λ ws. get_or (get_or ws 0 []) 1 0) is)

-- only `-s` is not a call
pub option_alone : (args : List (Bor (List ℕ))) (none : Bor (List ℕ)) → length args ≡ 1
    → (get_or args 0 none).now ≡ codes "-s"
    → ¬ (IsCall (codes "ends" ∷ words_of args))
option_alone args none one is = no_ends (words_of args) (λ script n has. elim has [
  | inl alone ↦ alone.1 (sym (ap (λ words. get_or words 1 []) alone.0)
      ∙ (ap (λ words. get_or words 0 []) (one_word args none one) ∙ is))
  | inr behind ↦ omega (arith, one, ap length behind.0, length-map args bytes_of)
])

-- why a script after `ends` has no ends is why the arguments request nothing
pub script_fault : (words : List (List ℕ)) (script : List ℕ) (n : ℕ) (failure : Failure)
    → HasScript words script n → IsScriptFault script n failure → IsWordsFault words failure
script_fault words script n (BadWord m) has fault =
    inl (script, subst (HasScript words script) (sym fault.0) has, fault.1)
script_fault words script n (Engine Memory) has fault = inr (inl (script, n, has))
script_fault words script n other has fault = absurd fault

-- ---- a call begins with the name of a mode, and a mode that takes no word is alone

-- the name of a mode that takes no argument is one in the library
plain_name : (name : List ℕ) → TakesNoArgument name → IsPlainName name
plain_name name (inl is) = (mode.Copy, tt, is)
plain_name name (inr (inl is)) = (mode.Lines, tt, is)
plain_name name (inr (inr (inl is))) = (mode.Tac, tt, is)
plain_name name (inr (inr (inr (inl is)))) = (mode.Caret, tt, is)
plain_name name (inr (inr (inr (inr is)))) = (mode.Json, tt, is)

-- no other word is the name of a mode
pub no_mode_name : (name : List ℕ) → name ≢ codes "ends" → name ≢ codes "edit"
    → ¬ (IsPlainName name) → ¬ (IsModeName name)
no_mode_name name not_ends not_edit none (inl takes) = none (plain_name name takes)
no_mode_name name not_ends not_edit none (inr (inl is)) = not_ends is
no_mode_name name not_ends not_edit none (inr (inr is)) = not_edit is
