-- Errors that no conversation explains.
use Rattle.std.proofs.Common.{◌≡◌, ◌+◌, ◌<◌, ℕ, List, ◌∷◌, ◌++◌, Bool, arith, get_or, length}
use Rattle.std.proofs.Common.{length-append, refl, true}
use Rattle.std.proofs.Math.ListN.{get_or-append}
use Rattle.std.proofs.lemmas.Bool.{false≢true}
use Rattle.ascii.specs.declared.iter.spans.Endings.TheVariants.{CrLfStrict}
use Rattle.ascii_lines.specs.Replies.{at_end_before}
use Rattle.ascii_lines.specs.Turns.{Faults, is_ended}
use Rattle.ascii_lines.specs.declared.conversation.Supply.{Supply}
use Rattle.ascii_lines.specs.Wanted.{IsLoneBreak}
use Rattle.ascii_lines.specs.declared.line_reader.LineError.TheVariants.{LoneBreak}
use Rattle.ascii_lines.specs.declared.wanted.Content.TheVariants.{Text}
use Rattle.ascii_lines.specs.declared.wanted.Wanted.TheVariants.{Line}

module _ (size i j n : ℕ) (all text : List ℕ) (is_at_end : Bool) (same : i ≡ j)
    (inside : i + 1 < length all) (cr : get_or all i 0 ≡ 13) (feed : get_or all (i + 1) 0 ≡ 10)
  where
    -- a CR with an LF after it is not alone, also if the LF came later
    cr_lf_not_lone : (others : List ℕ) → all ≡ text ++ others
        → IsLoneBreak (Line CrLfStrict Text) size text (at_end_before others is_at_end) j n → ⊥
    cr_lf_not_lone others parts lone = grind (arith, length-append, false≢true, get_or-append)

-- a strict conversation that was sent `ab` CR LF does not reject it for the CR
pub ab_cr_lf_is_not_lone : (now : Supply) (size : ℕ) (more : List ℕ)
    → Faults now (Line CrLfStrict Text) 0 size (97 ∷ 98 ∷ 13 ∷ 10 ∷ more) (LoneBreak 2) → ⊥
ab_cr_lf_is_not_lone now size more (text, others, parts, (strict, (i, n, is, lone)), read, some) =
    cr_lf_not_lone size 2 i n (97 ∷ 98 ∷ 13 ∷ 10 ∷ more) text (is_ended now) (omega (arith, is))
    (omega arith) refl refl others parts lone
