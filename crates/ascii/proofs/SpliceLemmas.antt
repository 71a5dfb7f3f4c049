-- A part of a text that is written over and then cut.
use Rattle.std.proofs.Common.{◌≡◌, ℕ, ◌+◌, ◌-◌, ◌≤◌, List, ◌++◌, length, take, drop, Ok, sym, ap}
use Rattle.std.proofs.Common.{◌∙◌, arith, drop-drop, length-append, length-drop, length-take-le}
use Rattle.std.proofs.Math.Seq.{drop-append_seam, take-append_seam}
use Rattle.std.specs.List.{replace_range}
use Rattle.ascii.specs.StringState.{EditsInPlace, GrowsTo, StringState}

module _ (t piece : List ℕ) (start end : ℕ) (order : start + length piece ≤ end)
    (inside : end ≤ length t) where
  abbrev front : List ℕ
  front = take start t ++ piece

  -- what is written over a part, and the text after that part
  spliced : (w : List ℕ) → w ≡ replace_range t start (start + length piece) piece
      → take (start + length piece) w ++ drop end w ≡ replace_range t start end piece
  spliced w is =
      let far : length front + (end - (start + length piece)) ≡ end =
      grind (arith, length-append, length-take-le) in
      let before : take (start + length piece) w ≡ front =
      grind (arith, take-append_seam, length-append, length-take-le) in
      let after : drop end w ≡ drop end t =
      ap (λ n. drop n w) (sym far)
      ∙ (sym (drop-drop (end - (start + length piece)) (length front) w)
      ∙ (grind (arith, drop-append_seam, drop-drop))) in
      ap (λ r. r ++ drop end w) before ∙ ap (λ r. front ++ r) after

  -- two edits in place are one that never fails
  pub splices : {E : Type 0} {sure : ℕ} (old mid new : StringState) → old.text ≡ t
      → EditsInPlace (replace_range t start (start + length piece) piece) old mid
      → EditsInPlace (take (start + length piece) mid.text ++ drop end mid.text) mid new
      → GrowsTo {E = E} sure (replace_range t start end piece) old new (Ok tt)
  splices {E} {sure} old mid new same written cut =
      grind (arith, spliced, length-append, length-drop, length-take-le)
