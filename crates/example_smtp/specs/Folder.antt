-- What is in a folder of mail, call by call.
use Rattle.std.specs.Prelude.{◌≡◌, ℕ, ◌+◌, ◌≤◌, List, [], ◌∷◌, ◌++◌, MatchResult, None, Some, map}
use Rattle.std.specs.declared.option.Option.{Option}
use Rattle.std.specs.declared.result.Result.{Result}
use Rattle.example_smtp.specs.declared.folder.Call.{Call}
use Rattle.example_smtp.specs.declared.folder.Call.TheVariants.{Append, Create, Fail, Link, Remove}
use Rattle.example_smtp.specs.declared.folder.Call.TheVariants.{Sync, SyncFolder, Unlink}

-- what is in a folder: the bytes of each mail that the system has stored, in order; those of a
-- draft, if there is one, and those of it that the system has stored; those of a mail whose name it
-- has not stored, if there is one; and how many calls have failed
pub record Contents : Type 0 where
  pub mails : List (List ℕ)
  pub drafts : List (List ℕ)
  pub stored : List (List ℕ)
  pub links : List (List ℕ)
  pub failures : ℕ

-- what is in a folder after a call
abbrev pub after_call : Call → Contents → Contents
after_call Create old = record old { drafts = [] ∷ []; stored = [] }
after_call (Append byte) old =
    record old { drafts = map (λ bytes. bytes ++ byte ∷ []) old.drafts }
after_call Sync old = record old { stored = old.drafts }
after_call Link old = record old { links = old.stored }
after_call SyncFolder old = record old { mails = old.mails ++ old.links; links = [] }
after_call Unlink old = record old { links = [] }
after_call Remove old = record old { drafts = [] }
after_call Fail old = record old { failures = old.failures + 1 }

-- the outcome of a call
abbrev pub Returns : {A E : Type 0} → Call → Contents → Result A E → Contents → Type 0
Returns call old result new =
    MatchResult result (λ _. new ≡ after_call call old) (λ _. new ≡ after_call Fail old)

-- the outcome of appending bytes to a draft; if that fails, any may be in it
abbrev pub Writes : {A E : Type 0} → List ℕ → Contents → Result A E → Contents → Type 0
Writes more old result new = MatchResult result
    (λ _. new ≡ record old { drafts = map (λ bytes. bytes ++ more) old.drafts })
    (λ _. (drafts : List (List ℕ)) × (new ≡ record (after_call Fail old) { drafts = drafts }))

-- there is nothing but mails that the system has stored
abbrev pub IsTidy : Contents → Type 0
IsTidy folder = (folder.drafts ≡ []) × (folder.links ≡ [])

-- mails of these bytes were stored, in order, and those that were there still are. If no call has
-- failed, nothing else was left
pub record Stores (old : Contents) (added : List (List ℕ)) (new : Contents) : Type 0 where
  pub mails : new.mails ≡ old.mails ++ added
  pub failures : old.failures ≤ new.failures
  pub left : IsTidy old → new.failures ≡ old.failures → IsTidy new

-- the same of a folder that there may be
abbrev pub StoresIn : Option Contents → List (List ℕ) → Option Contents → Type 0
StoresIn None added new = new ≡ None
StoresIn (Some old) added new = (folder : Contents) × (new ≡ Some folder) × Stores old added folder

-- ---- cited by private functions only

-- what is in a folder after calls
abbrev pub after_calls : List Call → Contents → Contents
after_calls [] old = old
after_calls (call ∷ calls) old = after_calls calls (after_call call old)

-- what is in a folder after calls, of what was not there before them
abbrev pub contents_of : List Call → Contents
contents_of calls =
    after_calls calls (record { mails = []; drafts = []; stored = []; links = []; failures = 0 })
