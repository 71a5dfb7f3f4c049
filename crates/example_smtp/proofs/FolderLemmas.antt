-- What is in a folder of mail, and what is stored in it.
use Rattle.std.proofs.Common.{◌≡◌, ◌∙◌, ℕ, List, [], ◌∷◌, ◌++◌, None, Option, Some, ap, append-nil}
use Rattle.std.proofs.Common.{append_assoc, arith, refl, subst, sym}
use Rattle.std.proofs.Common.{map}
use Rattle.example_smtp.specs.Folder.{Contents, Stores, StoresIn, after_call, after_calls}
use Rattle.example_smtp.specs.Folder.{contents_of}
use Rattle.example_smtp.specs.declared.folder.Call.{Call}
use Rattle.example_smtp.specs.declared.folder.Call.TheVariants.{Append}

-- calls, and then others
calls_then : (first then : List Call) (old : Contents)
    → after_calls (first ++ then) old ≡ after_calls then (after_calls first old)
calls_then [] then old = refl
calls_then (call ∷ first) then old = calls_then first then (after_call call old)

-- a call more
pub call_noted : (calls : List Call) (call : Call)
    → contents_of (calls ++ call ∷ []) ≡ after_call call (contents_of calls)
call_noted calls call = calls_then calls (call ∷ []) (contents_of [])

-- bytes more in each draft
drafts_nil : (drafts : List (List ℕ)) → drafts ≡ map (λ bytes. bytes ++ []) drafts
drafts_nil [] = refl
drafts_nil (bytes ∷ drafts) =
    ap (λ b. b ∷ drafts) (sym (append-nil bytes)) ∙ ap (λ ds. (bytes ++ []) ∷ ds) (drafts_nil drafts)

drafts_cons : (drafts : List (List ℕ)) (byte : ℕ) (more : List ℕ)
    → map (λ bytes. bytes ++ more) (map (λ bytes. bytes ++ byte ∷ []) drafts)
    ≡ map (λ bytes. bytes ++ byte ∷ more) drafts
drafts_cons [] byte more = refl
drafts_cons (bytes ∷ drafts) byte more =
    ap (λ b. b ∷ map (λ bytes. bytes ++ more) (map (λ bytes. bytes ++ byte ∷ []) drafts))
    (append_assoc bytes (byte ∷ []) more)
    ∙ ap (λ ds. (bytes ++ byte ∷ more) ∷ ds) (drafts_cons drafts byte more)

bytes_after : (more : List ℕ) (old : Contents) → after_calls (map Append more) old
    ≡ record old { drafts = map (λ bytes. bytes ++ more) old.drafts }
bytes_after [] old = ap (λ ds. record old { drafts = ds }) (drafts_nil old.drafts)
bytes_after (byte ∷ more) old = bytes_after more (after_call (Append byte) old)
    ∙ ap (λ ds. record old { drafts = ds }) (drafts_cons old.drafts byte more)

-- bytes more in the draft
pub bytes_noted : (calls : List Call) (more : List ℕ) → contents_of (calls ++ map Append more)
    ≡ record (contents_of calls) { drafts = map (λ bytes. bytes ++ more) (contents_of calls).drafts }
bytes_noted calls more = calls_then calls (map Append more) (contents_of [])
    ∙ bytes_after more (contents_of calls)

-- nothing is stored
pub stores_none : (folder : Contents) → Stores folder [] folder
stores_none folder = record {
  mails = sym (append-nil folder.mails);
  failures = omega arith;
  left = λ tidy same. tidy;
}

-- mails are stored, and then others
pub stores_then : (old mid new : Contents) (first then : List (List ℕ)) → Stores old first mid
    → Stores mid then new → Stores old (first ++ then) new
stores_then old mid new first then before after = record {
  mails = after.mails ∙ (ap (λ mails. mails ++ then) before.mails
      ∙ append_assoc old.mails first then);
  failures = omega (arith, before.failures, after.failures);
  left = λ tidy same.
      after.left (before.left tidy (omega (arith, before.failures, after.failures, same)))
      (omega (arith, before.failures, after.failures, same));
}

-- nothing is stored in a folder that there may be
pub in_none : (folder : Option Contents) → StoresIn folder [] folder
in_none None = refl
in_none (Some folder) = (folder, refl, stores_none folder)

-- mails are stored in it, and then others
pub in_then : (old mid new : Option Contents) (first then : List (List ℕ)) → StoresIn old first mid
    → StoresIn mid then new → StoresIn old (first ++ then) new
in_then None mid new first then none after =
    subst (λ folder. StoresIn folder then new) none after
in_then (Some old) mid new first then (folder, is, before) after =
    let (last, there, more) = subst (λ folder. StoresIn folder then new) is after in
    (last, there, stores_then old folder last first then before more)
