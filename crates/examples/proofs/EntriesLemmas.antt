-- One more line of a settings file.
use Rattle.std.proofs.Common.{◌≡◌, ◌∙◌, ◌⊎◌, List, [], ◌∷◌, ◌++◌, Err, Ok, Result, ap, inl, inr, map}
use Rattle.std.proofs.Common.{subst, sym}
use Rattle.std.specs.Prelude.{IsErrAnd, MatchResult, ℕ}
use Rattle.std.specs.List.{AllZip, fold}
use Rattle.std.proofs.lemmas.List.Sums.{fold_push}
use Rattle.ascii.proofs.ListLemmas.{All-from_zip}
use Rattle.ascii.specs.Parts.{WithStart}
use Rattle.ascii.specs.declared.ascii_str.AsciiStr.{AsciiStr}
use Rattle.ascii_formats.specs.Parts.{AreLinesOf, in_whole}
use Rattle.ascii_formats.specs.declared.parts.Part.{Part}
use Rattle.examples.specs.Entries.{IsFirstFault, IsLineError, ReadsLine, after_line}
use Rattle.examples.specs.declared.ini.Entry.{Entry}
use Rattle.examples.specs.declared.ini.IniError.{IniError}
use Rattle.examples.specs.declared.ini.IniError.TheVariants.{Memory}
use Rattle.examples.specs.declared.ini.Parsed.{Parsed}

-- the state after what it says
pub one_more_said : (start state next : Part × List Entry) (parsed : List Parsed) (said : Parsed)
    → fold after_line start parsed ≡ state → next ≡ after_line state said
    → fold after_line start (parsed ++ said ∷ []) ≡ next
one_more_said start state next parsed said is more = fold_push after_line start parsed said
    ∙ (ap (λ (before : Part × List Entry). after_line before said) is ∙ sym more)

-- the error of a line after lines that are right
pub first_fault : (all line : Part) (before : List Part)
    (after : List (AsciiStr × WithStart (List ℕ))) (parsed : List Parsed) (error : IniError)
    → AreLinesOf all (map in_whole before ++ in_whole line ∷ after)
    → AllZip (λ line said. ReadsLine line (Ok said)) before parsed
    → IsLineError line error → (error ≡ Memory) ⊎ IsFirstFault all error
first_fault all line before after parsed error cut each (inl memory) = inl memory
first_fault all line before after parsed error cut each (inr fault) = inr (record {
  before = before;
  line = line;
  after = after;
  cut = cut;
  right = All-from_zip (λ line said. ReadsLine line (Ok said)) before parsed each;
  fault = fault;
})

-- a call returns the error of another
pub fails_with : {T : Type 0} (result : Result T IniError) (error : IniError) (P : T → Type 0)
    (Q : IniError → Type 0) → IsErrAnd result (λ e. e ≡ error) → Q error → MatchResult result P Q
fails_with (Ok _) error P Q is holds = absurd is
fails_with (Err e) error P Q is holds = subst Q (sym is) holds
