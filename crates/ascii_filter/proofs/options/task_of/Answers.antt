use Rattle.std.proofs.Common.{rules, ℕ, List, inl, inr, refl}
use Rattle.std.specs.Prelude.{codes, ◌≢◌}
use Rattle.ascii_filter.specs.Options.{IsModeName, IsOtherOf, TakesNoOther}
use Rattle.ascii_filter.specs.declared.options.Other.{Other}
use Rattle.ascii_filter.specs.declared.options.Other.TheVariants.{Escape, Replace, Stop}
use Rattle.ascii_filter.proofs.options.task_of.Goals as goal

-- a word names one thing
not_stop : (word : List ℕ) (other : Other) → IsOtherOf word other → other ≢ Stop
    → ¬ (IsOtherOf word Stop)
not_stop word Stop is other stop = other refl
not_stop word Replace is other stop = stop.0 is
not_stop word Escape is other stop = stop.1 is

pub returns-then-takes_no_other : goal.returns-then-takes_no_other
returns-then-takes_no_other c =
    let other : c.from_name-other.result ≢ Stop = search rules in
    let takes : TakesNoOther c.args.options.mode.now = search rules in
    inr (inl (refl, takes, not_stop _ _ c.from_name-other.ensures other))

pub returns-in_default : goal.returns-in_default
returns-in_default c =
    let mode : c.args.options.mode.now ≢ codes "check" = search rules in
    let none : ¬ (IsModeName c.args.options.mode.now) = search rules in
    inl (refl, mode, none)
