-- Replies of a handler, one after another.
use Rattle.std.proofs.Common.{◌≡◌, ℕ, List, [], ◌∷◌, ◌++◌, Bool, true, false, IsTrue, append_assoc}
use Rattle.std.proofs.Common.{append-nil, Result, inl, inr, refl, ◌∙◌, arith}
use Rattle.std.proofs.lemmas.Bool.{false≢true}
use Rattle.std.proofs.lemmas.Grind.{flat_map-append}
use Rattle.std.proofs.lemmas.List.Folds.{list_all_at}
use Rattle.std.proofs.KnownBytes.{Appends-nil}
use Rattle.ascii_devices.proofs.HistoryLemmas.{Grows-nil}
use Rattle.ascii_devices.specs.Buffered.{OutputState}
use Rattle.ascii_lines.specs.LineWriter.{FailsToWrite, WritesBytes}
use Rattle.ascii_lines.specs.Replies.{Reply, IsLineOutcome, Says, SaysBytes, Saying, is_unbroken}
use Rattle.ascii_lines.specs.Replies.{line_given, line_reply, part_reply, reply_text}
use Rattle.ascii_lines.proofs.WriteBufferLemmas.{Passes-prefix, Passes-trans, PassesPrefix-more}

-- ---- bytes after bytes

WritesBytes-trans : {a b c : OutputState} (xs ys : List ℕ)
    → WritesBytes a b xs → WritesBytes b c ys → WritesBytes a c (xs ++ ys)
WritesBytes-trans {a} {b} {c} xs ys first then = grind (arith, Passes-trans)

FailsToWrite-after : {a b c : OutputState} (xs ys : List ℕ)
    → WritesBytes a b xs → FailsToWrite b c ys → FailsToWrite a c (xs ++ ys)
FailsToWrite-after {a} {b} {c} xs ys first then =
    grind (arith, Passes-prefix xs ys first.passed then.passed)

-- nothing was written
SaysBytes-nil : (broken : Bool) (a : OutputState) → a.buffer.is_broken ≡ broken
    → SaysBytes broken a [] a
SaysBytes-nil broken a whole = grind (arith, Appends-nil, Grows-nil, append-nil)

-- bytes, and then more
SaysBytes-trans : (p q : Bool) (a b c : OutputState) (xs ys : List ℕ)
    → a.buffer.is_broken ≡ p → b.buffer.is_broken ≡ q → SaysBytes p a xs b → SaysBytes q b ys c
    → SaysBytes p a (xs ++ ys) c
SaysBytes-trans false false a b c xs ys was is (inl first) (inl then) =
    inl (WritesBytes-trans xs ys first then)
SaysBytes-trans false false a b c xs ys was is (inl first) (inr then) =
    inr (FailsToWrite-after xs ys first then)
SaysBytes-trans false false a b c xs ys was is (inr first) then = grind (arith, false≢true)
SaysBytes-trans p q a b c xs ys was is first then = grind (arith, false≢true, PassesPrefix-more)

-- ---- replies after replies

module _ {K : Type 0} where
  -- no reply was given
  pub Says-nil : (a : Saying K) → Says a [] a
  Says-nil a = (SaysBytes-nil a.state.buffer.is_broken a.state refl, refl)

  -- replies, and then more
  pub Says-trans : (a b c : Saying K) (first after : List Reply) → Says a first b
      → Says b after c → Says a (first ++ after) c
  Says-trans a b c first after one two = (
    rw (flat_map-append (reply_text a.ending) first after) (grind (arith, SaysBytes-trans)),
    two.1 ∙ one.1,
  )

  -- a line without a break was given
  pub said_line : (a b : Saying K) (body : List ℕ) (result : Result (Unit {0}) ℕ)
      → IsTrue (is_unbroken body) → IsLineOutcome a body result b
      → Says a (line_given body result) b → Says a (line_reply body ∷ []) b
  said_line a b body result clean outcome says = grind (arith, list_all_at)

  -- a part, and then a line, are one line
  pub said_joined : (a b c : Saying K) (text more : List ℕ) → Says a (part_reply text ∷ []) b
      → Says b (line_reply more ∷ []) c → Says a (line_reply (text ++ more) ∷ []) c
  said_joined a b c text more one two =
      let both = Says-trans a b c (part_reply text ∷ []) (line_reply more ∷ []) one two in
      (simp append_assoc (simp append_assoc at both.0), both.1)

  -- a part, and then an empty line, are a line
  pub said_text : (a b c : Saying K) (text : List ℕ) → Says a (part_reply text ∷ []) b
      → Says b (line_reply [] ∷ []) c → Says a (line_reply text ∷ []) c
  said_text a b c text one two = rw (append-nil text) at (said_joined a b c text [] one two)
