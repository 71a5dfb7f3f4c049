-- The answers of an iterator, or of a list, to a script of ends.
use Rattle.std.proofs.Common.{arith, ◌≤◌, ◌≡◌, ℕ, ◌+◌, ◌<◌, List, [], ◌∷◌, ◌++◌, length, get_or}
use Rattle.std.proofs.Common.{take, map, Option, None, Result, Ok, Err, IfOk, MatchOption, refl, ap}
use Rattle.std.specs.Iterator.{YieldsFirstBy, YieldsLastBy}
use Rattle.std.specs.Option.{option_map}
use Rattle.std.proofs.lemmas.List.{take_all, take_more}
use Rattle.ascii.specs.declared.iter.walks.End.{End}
use Rattle.ascii.specs.declared.iter.walks.End.TheVariants.{Front, Back}
use Rattle.ascii.specs.Walks.{AnswersTo, ListAnswers, ListAnswersTo, TakesEnd}
use Rattle.ascii.specs.Found.{StepsAt}

-- what an end of an iterator of items gave, by what is read of the item
pub TakesEnd-by : {A B : Type 0} (read : A → B) (end : End) (r : Option A) (old new : List B)
    → (end ≡ Front → MatchOption r ((old ≡ []) × (new ≡ [])) (λ x. old ≡ read x ∷ new))
    → (end ≡ Back → MatchOption r ((old ≡ []) × (new ≡ [])) (λ x. old ≡ new ++ read x ∷ []))
    → TakesEnd end old (option_map read r) new
TakesEnd-by read end r old new front back = grind arith

-- a step from an end is one of the two
pub StepsAt-by : {S A : Type 0} (front back : S → Option A → S → Type 0) (end : End) (s : S)
    (r : Option A) (t : S)
    → (end ≡ Front → front s r t) → (end ≡ Back → back s r t) → StepsAt front back end s r t
StepsAt-by front back end s r t at_front at_back = grind arith

module _ {S A : Type 0} (takes : End → S → Option A → S → Type 0) where
  -- one more end of a script
  AnswersTo-more : (items : S) (script : List End) (answers : List (Option A)) (mid left : S)
      (end : End) (answer : Option A)
      → AnswersTo takes items script answers mid → takes end mid answer left
      → AnswersTo takes items (script ++ end ∷ []) (answers ++ answer ∷ []) left
  AnswersTo-more items [] [] mid left end answer so_far more = (left, rw (← so_far) more, refl)
  AnswersTo-more items (first ∷ script) (one ∷ answers) mid left end answer so_far more =
      (so_far.0, so_far.1, AnswersTo-more so_far.0 script answers mid left end answer so_far.2 more)
  AnswersTo-more items script answers mid left end answer so_far more = absurd so_far

  -- the answers of a script up to the next index
  pub AnswersTo-step : (items mid left : S) (script : List End) (k : ℕ) (end : End)
      (answers : List (Option A)) (answer : Option A)
      → k < length script → get_or script k end ≡ end
      → AnswersTo takes items (take k script) answers mid → takes end mid answer left
      → AnswersTo takes items (take (k + 1) script) (answers ++ answer ∷ []) left
  AnswersTo-step items mid left script k end answers answer inside here so_far more =
      grind (arith, take_more, AnswersTo-more)

  -- the answers of the whole script
  pub AnswersTo-all : (items left : S) (script : List End) (k : ℕ) (answers : List (Option A))
      → length script ≤ k
      → AnswersTo takes items (take k script) answers left
      → AnswersTo takes items script answers left
  AnswersTo-all items left script k answers past so_far = rw take_all at so_far

-- an iterator whose steps each take an end of the list that it has yet to yield answers a script as
-- that list does
ListAnswersTo-answers : {S A B : Type 0} (takes : End → S → Option A → S → Type 0)
    (read : A → B) (owed : S → List B)
    → ((end : End) (s : S) (r : Option A) (t : S) → takes end s r t
    → TakesEnd end (owed s) (option_map read r) (owed t))
    → (s : S) (script : List End) (answers : List (Option A)) (t : S)
    → AnswersTo takes s script answers t
    → ListAnswersTo (owed s) script (map (option_map read) answers) (owed t)
ListAnswersTo-answers takes read owed each s [] [] t is = ap owed is
ListAnswersTo-answers takes read owed each s (end ∷ script) (answer ∷ answers) t is =
    grind (arith, each, ListAnswersTo-answers takes read owed each is.0 script answers t is.2)
ListAnswersTo-answers takes read owed each s script answers t is = absurd is

-- what a walk of an iterator yielded, as ends of the list that it had yet to yield
pub ListAnswers-walked : {S A B V E X : Type 0} (front back : S → Option A → S → Type 0)
    (read : A → B) (owed : S → List B)
    → ((s : S) (r : Option A) (t : S) → front s r t → YieldsFirstBy read owed s r t)
    → ((s : S) (r : Option A) (t : S) → back s r t → YieldsLastBy read owed s r t)
    → (s : S) (script : List End) (items : V → List (Option A)) (result : Result V E)
    (Q : X → Type 0) (list : X → List B) (x : X)
    → Q x → list x ≡ owed s
    → IfOk result (λ answers. (left : S)
    × AnswersTo (StepsAt front back) s script (items answers) left)
    → IfOk result (λ answers. (y : X) × Q y
    × ListAnswers (list y) script (map (option_map read) (items answers)))
ListAnswers-walked front back read owed first last s script items (Ok answers) Q list x holds is
    walked = (
      x,
      holds,
      rw is (
        owed walked.0,
        ListAnswersTo-answers (StepsAt front back) read owed each s script
            (items answers) walked.0 walked.1,
      ),
    )
  where
    each : (end : End) (u : _) (r : Option _) (t : _) → StepsAt front back end u r t
        → TakesEnd end (owed u) (option_map read r) (owed t)
    each Front u None t step = first u None t step
    each end u r t step = grind arith
ListAnswers-walked front back read owed first last s script items (Err error) Q list x holds is
    walked = tt
