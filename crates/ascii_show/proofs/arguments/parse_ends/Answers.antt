use Rattle.std.proofs.Common.{◌≡◌, ◌∙◌, ◌∷◌, List, [], ap, get_or, length, rules, sym, ℕ}
use Rattle.std.specs.Borrow.{Bor}
use Rattle.std.specs.Prelude.{codes}
use Rattle.ascii_show.specs.Call.{words_of}
use Rattle.ascii_show.proofs.ScriptLemmas.{one_word, option_alone, script_fault, two_words}
use Rattle.ascii_show.proofs.arguments.parse_ends.Goals as goal

-- what is there if there is no argument
abbrev none : Bor (List ℕ)
none = record { ref_ptr = (0, 0); now = [] }

pub returns-then-eq : goal.returns-then-eq
returns-then-eq g c =
    let one : length c.args.others.now ≡ 1 = search rules in
    let is : (get_or c.args.others.now 0 none).now ≡ codes "-s" = search rules in
    option_alone c.args.others.now none one is

pub returns-in_err-ends-in-len1 : goal.returns-in_err-ends-in-len1
returns-in_err-ends-in-len1 g c =
    let one : length c.args.others.now ≡ 1 = search rules in
    let whole : codes "ends" ∷ words_of c.args.others.now
    ≡ codes "ends" ∷ (c.as_bytes.result.now ∷ []) =
    ap (λ (words : List (List ℕ)). codes "ends" ∷ words) (one_word c.args.others.now none one
    ∙ ap (λ (word : List ℕ). word ∷ []) (sym c.as_bytes.ensures.value)) in
    search (rules, script_fault, whole)

pub returns-in_err-ends-in-text : goal.returns-in_err-ends-in-text
returns-in_err-ends-in-text g c =
    let two : length c.args.others.now ≡ 2 = search rules in
    let last : (get_or c.args.others.now 1 none).now ≡ c.as_bytes-in-text.result.now =
    sym c.as_bytes-in-text.ensures.value in
    let whole : codes "ends" ∷ words_of c.args.others.now
    ≡ codes "ends" ∷ (codes "-s" ∷ (c.as_bytes-in-text.result.now ∷ [])) =
    ap (λ (words : List (List ℕ)). codes "ends" ∷ words)
    (two_words c.args.others.now none two (codes "-s") c.as_bytes-in-text.result.now
    c.in-text.is-text last) in
    search (rules, script_fault, whole)
