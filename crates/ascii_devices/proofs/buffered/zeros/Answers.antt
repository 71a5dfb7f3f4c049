use Rattle.std.proofs.Common.{◌≡◌, ℕ, arith, length, refl, subst, sym}
use Rattle.std.proofs.lemmas.Grind.{common_steps}
use Rattle.std.proofs.lemmas.List.Elements.{All-replicate}
use Rattle.std.specs.List.{All}
use Rattle.ascii_devices.proofs.ListLemmas.{zeros_more}
use Rattle.ascii_devices.proofs.buffered.zeros.Goals as goal

pub parts-preserved : goal.parts-preserved
parts-preserved g c = grind (arith, common_steps, zeros_more)

pub returns-clause-zeros : goal.returns-clause-zeros
returns-clause-zeros g c =
    subst (All (λ byte. byte ≡ 0)) (sym c.parts.invariant.1)
    (All-replicate (λ (byte : ℕ). byte ≡ 0) (length c.parts.zeros.items) 0 refl)
