-- Which words after the program's name are a call, and what they ask for.
use Rattle.std.specs.Prelude.{◌≡◌, ◌≢◌, ◌⊎◌, ⊤, ℕ, ◌+◌, List, [], ◌∷◌, ◌++◌, All, codes, length, map}
use Rattle.std.specs.Borrow.{Bor}
use Rattle.std.specs.List.{AllZip}
use Rattle.ascii_run.specs.declared.faults.EngineFault.TheVariants.{Memory}
use Rattle.ascii_run.specs.declared.modes.Mode.{Mode}
use Rattle.ascii_run.specs.declared.modes.Mode.TheVariants as mode
use Rattle.ascii_show.specs.declared.arguments.Request.{Request}
use Rattle.ascii_show.specs.declared.arguments.Request.TheVariants as request
use Rattle.ascii_show.specs.declared.modes.Takes.{Takes}
use Rattle.ascii_show.specs.declared.modes.Takes.TheVariants.{Nothing, Script, Commands}
use Rattle.ascii_show.specs.declared.failure.Failure.{Failure}
use Rattle.ascii_show.specs.declared.failure.Failure.TheVariants.{Usage, BadWord, Engine}
use Rattle.ascii_show.specs.Words.{IsScript, IsWord, IsWordOf, letter_of}

-- the arguments of the program as words, each of them a list of bytes
abbrev pub words_of : List (Bor (List ℕ)) → List (List ℕ)
words_of args = map (λ arg. arg.now) args

-- the words ask for the mode, with the ends or the commands that it takes
abbrev pub Requests : List (List ℕ) → Mode → Type 0
Requests words mode.Copy = words ≡ codes "copy" ∷ []
Requests words mode.Lines = words ≡ codes "lines" ∷ []
Requests words mode.Tac = words ≡ codes "tac" ∷ []
Requests words mode.Caret = words ≡ codes "caret" ∷ []
Requests words (mode.Ends script) = words ≡ codes "ends" ∷ (map letter_of script.now ∷ [])
Requests words (mode.EndsSpans script) =
    words ≡ codes "ends" ∷ (codes "-s" ∷ (map letter_of script.now ∷ []))
Requests words (mode.Edit cmds) =
    (edits : List (List ℕ)) × (words ≡ codes "edit" ∷ edits) × AllZip IsWordOf edits cmds.now
Requests words mode.Json = words ≡ codes "json" ∷ []

-- the words are `ends` and a script, and the script is the word with the number `n` after `ends`:
-- the only one, which is not `-s`, or the second, after `-s`
abbrev pub HasScript : List (List ℕ) → List ℕ → ℕ → Type 0
HasScript words script n =
    ((words ≡ codes "ends" ∷ (script ∷ [])) × (script ≢ codes "-s") × (n ≡ 1))
    ⊎ ((words ≡ codes "ends" ∷ (codes "-s" ∷ (script ∷ []))) × (n ≡ 2))

-- the words are the name of a mode and as many words as it takes, accepted or not
abbrev pub IsCall : List (List ℕ) → Type 0
IsCall words = ((mode : Mode) × Requests words mode)
    ⊎ (((script : List ℕ) × (n : ℕ) × HasScript words script n)
    ⊎ ((edits : List (List ℕ)) × (words ≡ codes "edit" ∷ edits)))

-- `n`, counted from 1 after the mode, is the number of the first word that the mode does not
-- accept: the script of `ends`, or the first word of `edit` that is not a command
abbrev pub HasBadWord : List (List ℕ) → ℕ → Type 0
HasBadWord words n =
    ((script : List ℕ) × HasScript words script n × ¬ (IsScript script))
    ⊎ ((front others : List (List ℕ)) × (word : List ℕ)
    × (words ≡ codes "edit" ∷ (front ++ word ∷ others))
    × All IsWord front × ¬ (IsWord word) × (n ≡ length front + 1))

-- ---- cited by private functions only

-- why the words give no request. `Usage`: they are not a call. `BadWord`: it holds the number of
-- the first word that the mode does not accept. `Engine Memory`: they are a call; an allocation
-- failed.
abbrev pub IsWordsFault : List (List ℕ) → Failure → Type 0
IsWordsFault words Usage = ¬ (IsCall words)
IsWordsFault words (BadWord n) = HasBadWord words n
IsWordsFault words (Engine Memory) = IsCall words
IsWordsFault words other = ⊥

-- a request of the program as a mode
abbrev pub mode_of : {A : Type 0} → Request A → Mode
mode_of (request.Plain mode) = mode
mode_of (request.Ends script) = mode.Ends (record { ref_ptr = (0, 0); now = script.items })
mode_of (request.EndsSpans script) =
    mode.EndsSpans (record { ref_ptr = (0, 0); now = script.items })
mode_of (request.Edit cmds) = mode.Edit (record { ref_ptr = (0, 0); now = cmds.items })

-- the words ask for the mode of the request
abbrev pub RequestsBy : {A : Type 0} → List (List ℕ) → Request A → Type 0
RequestsBy words request = Requests words (mode_of request)

-- why the script with the number `number` gives no ends. `BadWord`: it holds the number, and some
-- letter is not that of an end. `Engine Memory`: an allocation failed.
abbrev pub IsScriptFault : List ℕ → ℕ → Failure → Type 0
IsScriptFault script number (BadWord n) = (n ≡ number) × ¬ (IsScript script)
IsScriptFault script number (Engine Memory) = ⊤
IsScriptFault script number other = ⊥

-- why the words of an edit give no commands. `BadWord`: it holds the number of the first word that
-- is not a command. `Engine Memory`: an allocation failed.
abbrev pub IsEditsFault : List (List ℕ) → Failure → Type 0
IsEditsFault edits (BadWord n) = HasBadWord (codes "edit" ∷ edits) n
IsEditsFault edits (Engine Memory) = ⊤
IsEditsFault edits other = ⊥

-- the word is the name of a mode that takes no further word
abbrev pub TakesNoArgument : List ℕ → Type 0
TakesNoArgument name =
    (name ≡ codes "copy") ⊎ ((name ≡ codes "lines") ⊎ ((name ≡ codes "tac")
    ⊎ ((name ≡ codes "caret") ⊎ (name ≡ codes "json"))))

-- the word is the name of a mode
abbrev pub IsModeName : List ℕ → Type 0
IsModeName name = TakesNoArgument name ⊎ ((name ≡ codes "ends") ⊎ (name ≡ codes "edit"))

-- `name` is the name of a mode that takes these arguments
abbrev pub NamesMode : List ℕ → Takes → Type 0
NamesMode name (Nothing mode) = TakesNoArgument name × Requests (name ∷ []) mode
NamesMode name Script = name ≡ codes "ends"
NamesMode name Commands = name ≡ codes "edit"
