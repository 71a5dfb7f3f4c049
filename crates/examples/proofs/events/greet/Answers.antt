use Rattle.std.proofs.Common.{◌≡◌, ◌∙◌, ◌∷◌, ◌++◌, [], Err, List, Ok, OnOk, Result, ℕ, subst, sym}
use Rattle.std.proofs.lemmas.Bool.{false≢true}
use Rattle.std.proofs.lemmas.Fmt.{contents_after_writes}
use Rattle.std.specs.Result.{is_ok}
use Rattle.ascii.specs.StringState.{StringState}
use Rattle.ascii.specs.View.{text_of}
use Rattle.ascii_lines.specs.Replies.{Saying, Says, line_given, line_reply}
use Rattle.examples.specs.Greeting.{greeting}
use Rattle.examples.proofs.events.greet.Goals as goal

-- if `s` is `Ok` exactly if the line was given, it was given if `s` is
said : {E K : Type 0} (old new : Saying K) (body : List ℕ) (given : Result (Unit {0}) ℕ)
    (s : Result (Unit {0}) E) → is_ok s ≡ is_ok given → Says old (line_given body given) new
    → OnOk s (Says old (line_reply body ∷ []) new)
said old new body (Ok _) (Ok _) same says = says
said old new body (Err _) (Ok _) same says = absurd (false≢true (sym same))
said old new body given (Err _) same says = tt

pub returns-clause-greets : goal.returns-clause-greets
returns-clause-greets g c =
    let appended = contents_after_writes
    (λ (old : StringState) (bytes : List ℕ) (new : StringState). new.text ≡ old.text ++ bytes)
    (λ (line : StringState). line.text) (λ w bytes v is. is) c.new-line.result
    (greeting c.args.longest) c.write.new.self c.in_ok-write.ensures.writes in
    let text = c.as_ascii_str.ensures ∙ rw c.new-line.ensures.text at appended in
    subst
    (λ body. OnOk c.map_err.result (Says c.args.replies.now (line_reply body ∷ []) c.line.new.self))
    text
    (said c.args.replies.now c.line.new.self (text_of c.as_ascii_str.result) c.line.result
    c.map_err.result c.map_err.ensures.variant c.line.ensures.says)
