-- Words that are known from outside, computed by the definitions.
use Rattle.std.proofs.Common.{◌≡◌, ◌≢◌, [], ◌∷◌, ◌++◌, drop, get_or, length, refl, sym, ap}
use Rattle.std.proofs.Common.{subst, arith, inl, inr}
use Rattle.std.specs.Prelude.{codes}
use Rattle.std.specs.Str.{IsAscii}
use Rattle.std.proofs.lemmas.List.Elements.{All-cons, All-nil}
use Rattle.ascii.specs.View.{text_of}
use Rattle.ascii.specs.declared.ascii_str.AsciiStr.{AsciiStr}
use Rattle.ascii.specs.declared.iter.walks.End.{End}
use Rattle.ascii.specs.declared.iter.walks.End.TheVariants.{Front, Back}
use Rattle.ascii_run.specs.declared.commands.Cmd.{Cmd}
use Rattle.ascii_run.specs.declared.commands.Cmd.TheVariants.{PushStr, InsertStr, Remove, Truncate}
use Rattle.ascii_run.specs.declared.commands.Cmd.TheVariants.{Pop, Upper, Lower}
use Rattle.ascii_run.specs.declared.modes.Mode.TheVariants as mode
use Rattle.ascii_show.specs.Call.{HasBadWord, IsCall}
use Rattle.ascii_show.specs.Modes.{usage_line}
use Rattle.ascii_show.specs.Words.{AreDigitsOf, AreEndsOf, IsScript, IsWord, IsWordOf, letter_of}
use Rattle.ascii_show.proofs.ScriptLemmas.{no_script, option_alone}

-- the usage line
usage : usage_line
    ≡ codes "usage: ascii_show copy|lines|tac|caret|ends [-s] SCRIPT|edit WORD..|json"
usage = refl

-- calls
copy_call : IsCall (codes "copy" ∷ [])
copy_call = inl (mode.Copy, refl)

ends_call : IsCall (codes "ends" ∷ (codes "" ∷ []))
ends_call = inr (inl (codes "", 1, inl (refl, (λ is. omega (arith, ap length is)), refl)))

ends_spans_call : IsCall (codes "ends" ∷ (codes "-s" ∷ (codes "F" ∷ [])))
ends_spans_call = inr (inl (codes "F", 2, inr (refl, refl)))

-- only `-s` after `ends`, and nothing
option_alone_call : ¬ (IsCall (codes "ends" ∷ (codes "-s" ∷ [])))
option_alone_call = option_alone (record { ref_ptr = (0, 0); now = codes "-s" } ∷ [])
    (record { ref_ptr = (0, 0); now = [] }) refl refl

no_words_call : ¬ (IsCall [])
no_words_call (inl (mode.Copy, is)) = omega (arith, ap length is)
no_words_call (inl (mode.Lines, is)) = omega (arith, ap length is)
no_words_call (inl (mode.Tac, is)) = omega (arith, ap length is)
no_words_call (inl (mode.Caret, is)) = omega (arith, ap length is)
no_words_call (inl (mode.Ends script, is)) = omega (arith, ap length is)
no_words_call (inl (mode.EndsSpans script, is)) = omega (arith, ap length is)
no_words_call (inl (mode.Edit cmds, is)) = omega (arith, ap length is.1)
no_words_call (inl (mode.Json, is)) = omega (arith, ap length is)
no_words_call (inr (inl (script, n, inl is))) = omega (arith, ap length is.0)
no_words_call (inr (inl (script, n, inr is))) = omega (arith, ap length is.0)
no_words_call (inr (inr (edits, is))) = omega (arith, ap length is)

-- scripts
script : AreEndsOf (codes "FBB") (Front ∷ Back ∷ Back ∷ [])
script = refl

other_letter : (end : End) → letter_of end ≢ 88
other_letter Front is = omega (arith, is)
other_letter Back is = omega (arith, is)

bad_script : ¬ (IsScript (codes "FXB"))
bad_script = no_script (codes "FXB") 1 (omega arith) other_letter

-- words of an edit
number : AreDigitsOf (codes "0003") 3
number = (
  (omega arith, (omega arith, (omega arith, (omega arith, (omega arith, tt))))),
  refl,
  omega arith,
)

one : AreDigitsOf (codes "1") 1
one = ((omega arith, (omega arith, tt)), refl, omega arith)

insertion : (view : AsciiStr) → text_of view ≡ codes "def" → IsAscii (text_of view)
    → IsWordOf (codes "i1:def") (InsertStr 1 view)
insertion view is ascii =
    (codes "1", ap (λ text. codes "i1:" ++ text) (sym is), one, ascii)

no_number : (cmd : Cmd) → ¬ (IsWordOf (codes "rx") cmd)
no_number (PushStr view) of = omega (arith, ap (λ word. get_or word 0 0) of.0)
no_number (InsertStr n view) of = omega (arith, ap (λ word. get_or word 0 0) of.1)
no_number (Remove n) of =
    let digits = subst (λ digits. AreDigitsOf digits n) (sym (ap (drop 1) of.1)) of.2 in
    omega (arith, digits.0.1.0)
no_number (Truncate n) of = omega (arith, ap (λ word. get_or word 0 0) of.1)
no_number Pop of = omega (arith, ap (λ word. get_or word 0 0) of)
no_number Upper of = omega (arith, ap (λ word. get_or word 0 0) of)
no_number Lower of = omega (arith, ap (λ word. get_or word 0 0) of)
no_number other of = absurd of

first_bad : HasBadWord (codes "edit" ∷ (codes "u" ∷ (codes "rx" ∷ []))) 2
first_bad = inr (
  codes "u" ∷ [],
  [],
  codes "rx",
  refl,
  All-cons IsWord (codes "u") [] (Upper, refl) (All-nil IsWord),
  λ is. no_number is.0 is.1,
  refl,
)
