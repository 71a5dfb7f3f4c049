-- Inputs that are visited one after another.
use Rattle.std.proofs.Common.{◌≡◌, ℕ, List, [], ◌∷◌, ◌++◌, ap, arith, append-nil, max, refl, sym}
use Rattle.std.proofs.Common.{Bool, Some, cond, false, inl, inr, map, subst, true, ◌<◌, ◌∙◌}
use Rattle.std.proofs.Common.{Bor, drop, take, take-append-drop, ◌≤◌}
use Rattle.std.proofs.lemmas.Bool.{false≢true}
use Rattle.std.proofs.lemmas.Grind.{flat_map-append}
use Rattle.std.proofs.lemmas.List.{map-append}
use Rattle.std.proofs.lemmas.List.Elements.{All-nil, All-push}
use Rattle.std.proofs.lemmas.List.Quantifiers.{Any-push, all_pairs_push}
use Rattle.std.specs.List.{flat_map}
use Rattle.std.specs.Prelude.{All, Any, IsTrue, codes, ◌↔◌}
use Rattle.ascii_devices.proofs.HistoryLemmas.{Takes-nil, Takes-trans}
use Rattle.ascii_devices.specs.States.{Takes}
use Rattle.ascii_devices.specs.declared.Sink.{Ghosts}
use Rattle.ascii_filter.specs.Options.{IsNull, IsQuiet}
use Rattle.ascii_filter.specs.Status.{IsEnough, IsLabelOf, IsNameOf, IsShownAs, IsVisit, IsVisitOf}
use Rattle.ascii_filter.specs.Status.{Visit, Visits, VisitsAll, highest, verdict_status}
use Rattle.ascii_filter.specs.declared.failure.Failure.{Failure}
use Rattle.ascii_filter.specs.declared.failure.Verdict.{Verdict}
use Rattle.ascii_filter.specs.declared.options.Task.{Task}

highest-last : (visits : List Visit) (last : Visit)
    → highest (visits ++ last ∷ []) ≡ max (highest visits) (verdict_status last.verdict)
highest-last [] last = omega arith
highest-last (visit ∷ visits) last = omega (arith, highest-last visits last)

-- the visits of the first words, none of which is enough
abbrev pub SoFar : {K : Type 0} → Ghosts K → Task → List (List ℕ) → K → K → ℕ → Type 0
SoFar says task words old new status = (run : Visits says task words old new status)
    × All (λ visit. ¬ (IsEnough task visit)) run.visits

pub no_visit : {K : Type 0} (says : Ghosts K) (task : Task) (a : K) → SoFar says task [] a a 0
no_visit says task a = (
  record {
    visits = [];
    in_order = refl;
    took = Takes-nil says a;
    each = All-nil (IsVisitOf task);
    goes_on = λ i j d before inside. absurd (omega (arith, inside));
    highest_of = refl;
  },
  All-nil (λ visit. ¬ (IsEnough task visit)),
)

-- the visit of one more word
abbrev pub visit_of : {K : Type 0} → Ghosts K → K → List ℕ → List ℕ → List ℕ → Verdict → Visit
visit_of says c word label took verdict = record {
  word = word;
  label = label;
  took = took;
  failures = says.failures c;
  verdict = verdict;
}

one_more : {K : Type 0} (says : Ghosts K) (task : Task) (words : List (List ℕ)) (a b c : K)
    (status next : ℕ) (word label took : List ℕ) (verdict : Verdict)
    → (so_far : SoFar says task words a b status) → Takes says b c took
    → IsVisitOf task (visit_of says c word label took verdict)
    → next ≡ max status (verdict_status verdict)
    → (run : Visits says task (words ++ word ∷ []) a c next)
    × (run.visits ≡ so_far.0.visits ++ visit_of says c word label took verdict ∷ [])
one_more says task words a b c status next word label took verdict (run, more) takes is higher =
    let last = visit_of says c word label took verdict in
    let all = flat_map (λ visit. visit.took) run.visits in
    let same : all ++ took ≡ flat_map (λ visit. visit.took) (run.visits ++ last ∷ []) =
    sym (flat_map-append (λ visit. visit.took) run.visits (last ∷ [])
    ∙ ap (λ xs. all ++ xs) (append-nil took)) in (
      record {
        visits = run.visits ++ last ∷ [];
        in_order = map-append (λ visit. visit.word) run.visits (last ∷ [])
            ∙ ap (λ xs. xs ++ word ∷ []) run.in_order;
        took = subst (Takes says a c) same (Takes-trans says a b c all took run.took takes);
        each = All-push (IsVisitOf task) run.visits last run.each is;
        goes_on = all_pairs_push (λ earlier later. ¬ (IsEnough task earlier)) run.visits last
            run.goes_on (λ k d inside. more k d inside);
        highest_of = higher ∙ (ap (λ n. max n (verdict_status verdict)) run.highest_of
            ∙ sym (highest-last run.visits last));
      },
      refl,
    )

-- one more visit, after which something is left to find out
pub visited_one : {K : Type 0} (says : Ghosts K) (task : Task) (words more : List (List ℕ))
    (a b c : K) (status next : ℕ) (word label took : List ℕ) (verdict : Verdict)
    → SoFar says task words a b status → Takes says b c took
    → IsVisitOf task (visit_of says c word label took verdict)
    → next ≡ max status (verdict_status verdict) → more ≡ words ++ word ∷ []
    → ¬ (IsQuiet task × (0 < verdict.found)) → SoFar says task more a c next
visited_one says task words more a b c status next word label took verdict so_far takes is higher
    grown left =
    let last = visit_of says c word label took verdict in
    let (run, same) =
    one_more says task words a b c status next word label took verdict so_far takes is higher in
    subst (λ words. SoFar says task words a c next) (sym grown) (
      run,
      subst (All (λ visit. ¬ (IsEnough task visit))) (sym same)
          (All-push (λ visit. ¬ (IsEnough task visit)) so_far.0.visits last so_far.1 left),
    )

-- one more visit, which is enough
pub visited_last : {K : Type 0} (says : Ghosts K) (task : Task)
    (words more others all : List (List ℕ)) (a b c : K) (status next : ℕ) (word label took : List ℕ) (verdict : Verdict)
    → SoFar says task words a b status → Takes says b c took
    → IsVisitOf task (visit_of says c word label took verdict)
    → next ≡ max status (verdict_status verdict) → more ≡ words ++ word ∷ []
    → more ++ others ≡ all → IsQuiet task × (0 < verdict.found) → VisitsAll says task all a c next
visited_last says task words more others all a b c status next word label took verdict so_far
    takes is higher grown parts enough =
    let last = visit_of says c word label took verdict in
    let (run, same) =
    one_more says task words a b c status next word label took verdict so_far takes is higher in
    record {
      visited = words ++ word ∷ [];
      others = others;
      parts = subst (λ words. words ++ others ≡ all) grown parts;
      run = run;
      ends = inr (inr (subst (Any (IsEnough task)) (sym same)
          (Any-push (IsEnough task) so_far.0.visits last enough)));
    }

-- the label of an input is made of its name and of what messages call it
is_label : (task : Task) (null : Bool) (word name shown label : List ℕ) → IsNameOf word name
    → IsShownAs word name shown → (IsTrue null ↔ IsNull task)
    → label ≡ cond null (name ++ 0 ∷ []) (shown ++ codes ":") → IsLabelOf task word label
is_label task true word name shown label names shows null is =
    (name, shown, names, shows, λ _. is, λ not. absurd (not (null.0 refl)))
is_label task false word name shown label names shows null is =
    (name, shown, names, shows, λ yes. absurd (false≢true (null.1 yes)), λ _. is)

-- a visit with the label of its word, by a writer of which no call had failed
pub is_visit : (task : Task) (null : Bool) (word name shown said label took : List ℕ) (was now : ℕ)
    (verdict : Verdict) → IsNameOf word name → IsShownAs word name shown
    → (IsTrue null ↔ IsNull task) → said ≡ shown
    → label ≡ cond null (name ++ 0 ∷ []) (said ++ codes ":") → was ≤ 0
    → IsVisit task label took was now verdict
    → IsLabelOf task word label × IsVisit task label took 0 now verdict
is_visit task null word name shown said label took was now verdict names shows null_is same is none
    visit =
    let zero : was ≡ 0 = omega arith in (
      is_label task null word name shown label names shows null_is
          (is ∙ ap (λ said. cond null (name ++ 0 ∷ []) (said ++ codes ":")) same),
      subst (λ n. IsVisit task label took n now verdict) zero visit,
    )

-- the words of the first files and of the others are those of all
pub words_parted : (files : List (Bor (List ℕ))) (n : ℕ)
    → map (λ file. file.now) (take n files) ++ map (λ file. file.now) (drop n files)
    ≡ map (λ file. file.now) files
words_parted files n = sym (map-append (λ file. file.now) (take n files) (drop n files))
    ∙ ap (map (λ (file : Bor (List ℕ)). file.now)) (take-append-drop n files)

-- an input that is at fault before it is read
pub not_read : {K : Type 0} (says : Ghosts K) (task : Task) (label : List ℕ) (a : K)
    (verdict : Verdict) (failure : Failure)
    → verdict ≡ record { found = 0; failure = Some failure }
    → (took : List ℕ) × Takes says a a took
    × IsVisit task label took (says.failures a) (says.failures a) verdict
not_read says task label a verdict failure is = (
  [],
  Takes-nil says a,
  subst (IsVisit task label [] (says.failures a) (says.failures a)) (sym is)
      (inl (refl, refl, refl, refl)),
)
