-- The first line of a text.
use Rattle.std.proofs.Common.{◌≡◌, ◌≢◌, ℕ, ◌≤◌, List, [], ◌∷◌, ◌++◌, length, take, drop, None, Some}
use Rattle.std.proofs.Common.{Option, arith, ap, sym, ◌∙◌, subst, append_assoc}
use Rattle.std.specs.Prelude.{MatchOption}
use Rattle.std.proofs.Math.Seq.{take-append_seam}
use Rattle.std.proofs.lemmas.List.{get_or-take, length-take-le, take-append-drop}
use Rattle.ascii.specs.declared.iter.spans.Ending.{Ending}
use Rattle.ascii.specs.declared.iter.spans.Ending.TheVariants.{Absent}
use Rattle.ascii.specs.declared.iter.spans.Endings.TheVariants.{Any}
use Rattle.ascii.specs.Endings.{FreeUpTo, IsFirstStop}
use Rattle.ascii.specs.Lines.{LinesOf, ending_text}
use Rattle.ascii.proofs.EndingsLemmas.{IsFirstStop-same}
use Rattle.ascii_c.specs.Places.{IsFirstLine}

module _ (text body : List ℕ) (end : ℕ) (ending : Ending) (some : end ≢ 0)
    (line : LinesOf (take end text) (record { body = body; ending = ending } ∷ []))
    (ended : IsFirstStop Any (take end text) (length (take end text)) → ending ≢ Absent) where
  -- the text begins with the body
  whole : text ≡ body ++ ((ending_text ending ++ []) ++ drop end text)
  whole = sym (take-append-drop end text)
      ∙ (ap (λ t. t ++ drop end text) (sym line.joined) ∙ (grind (arith, append_assoc)))

  body_is : body ≡ take (length body) text
  body_is = sym (ap (take (length body)) whole ∙ take-append_seam body _)

  abbrev HasBody : List ℕ → Type 0
  HasBody b = LinesOf (take end text) (record { body = b; ending = ending } ∷ [])

  line_is : HasBody (take (length body) text)
  line_is = subst HasBody body_is line

  stops_there : (n : ℕ) → n ≤ length text → end ≡ n → IsFirstStop Any text n
      → IsFirstStop Any (take end text) (length (take end text))
  stops_there n inside is stops =
      let long : length (take end text) ≡ n = grind (arith, length-take-le) in
      let there = IsFirstStop-same Any text (take end text) n
      (λ k low. sym (get_or-take end text k 0 (omega (arith, low, is)))) stops in
      subst (IsFirstStop Any (take end text)) (sym long) there

  pub first_line : (found : Option ℕ) → (MatchOption found (FreeUpTo Any text (length text))
      (λ n. (n ≤ length text) × IsFirstStop Any text n))
      → MatchOption found (end ≡ length text) (λ n. end ≡ n) → IsFirstLine text (length body) end
  first_line None free is = record {
    some = omega (arith, some);
    inside = omega (arith, is);
    ending = ending;
    line = line_is;
    last = λ _. is;
  }
  first_line (Some n) stops is = record {
    some = omega (arith, some);
    inside = omega (arith, is, stops.0);
    ending = ending;
    line = line_is;
    last = λ absent. absurd (ended (stops_there n stops.0 is stops.1) absent);
  }
