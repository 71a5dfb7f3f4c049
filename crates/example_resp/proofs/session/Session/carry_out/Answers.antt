use Rattle.std.proofs.Common.{◌==◌, ◌≡◌, List, ap, arith, length, refl, subst, sym, ℕ, ◌∙◌}
use Rattle.std.proofs.lemmas.Bool.{false≢true}
use Rattle.std.specs.declared.alloc.Global.{Global}
use Rattle.std.specs.declared.vec.Vec.{Vec}
use Rattle.example_resp.specs.Commands.{IsCallFault, Says}
use Rattle.example_resp.specs.Session.{CarriesOut, answer_of}
use Rattle.example_resp.specs.Store.{contents_of, byte_lists}
use Rattle.example_resp.specs.declared.session.Plan.{Plan}
use Rattle.example_resp.specs.declared.session.Stage.TheVariants.{Request}
use Rattle.example_resp.proofs.FollowLemmas.{carried, rejected, told_lines}
use Rattle.example_resp.proofs.session.Session.carry_out.Goals as goal

pub returns-in_ok-follow-in-Ok-clause-answers : goal.returns-in_ok-follow-in-Ok-clause-answers
returns-in_ok-follow-in-Ok-clause-answers c =
    let old = c.args.self.now in
    let held = contents_of old.store in
    let words = old.words.items in
    let says = subst (λ (ws : List (Vec ℕ Global)). Says (byte_lists ws) c.in-Ok.command)
    c.deref.ensures.value c.in-Ok.ensures in
    carried held words c.in-Ok.command _
    (λ none. false≢true (sym c.if-is_empty.false ∙ (c.is_empty.ensures
    ∙ ap (λ (n : ℕ). n == 0)
    (let zero : old.words.len ≡ 0 = omega (arith, ap length none, old.words.ok.0) in zero)))) says
    (record {
      replies = told_lines held (contents_of c.follow.new.store) (byte_lists words)
          c.in-Ok.command c.in_ok-follow-in-Ok.field-0 says c.in_ok-follow-in-Ok.ensures.reply
          c.in_ok-follow-in-Ok.ensures.store;
      asks = c.next_of.ensures.next;
      idle = refl;
      contents = c.in_ok-follow-in-Ok.ensures.store;
    })

pub returns-in-Err-clause-answers : goal.returns-in-Err-clause-answers
returns-in-Err-clause-answers c =
    let old = c.args.self.now in
    let held = contents_of old.store in
    let words = old.words.items in
    let says = subst (λ (ws : List (Vec ℕ Global)). IsCallFault (byte_lists ws) c.in-Err.rejection)
    c.deref.ensures.value c.in-Err.ensures in
    subst (λ (plan : Plan). CarriesOut held (byte_lists words)
    (answer_of plan (record old { stage = Request }))) (sym c.rejected.ensures.plan)
    (rejected held words c.in-Err.rejection _
    (λ none. false≢true (sym c.if-is_empty.false ∙ (c.is_empty.ensures
    ∙ ap (λ (n : ℕ). n == 0)
    (let zero : old.words.len ≡ 0 = omega (arith, ap length none, old.words.ok.0) in zero)))) says
    (record { replies = refl; asks = refl; idle = refl; contents = λ key. refl }) refl)
