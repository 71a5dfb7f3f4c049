-- The replies of a lamp in a whole conversation.
use Rattle.std.proofs.Common.{◌≡◌, ◌∙◌, ◌++◌, List, [], ◌∷◌, Bool, ap, codes, refl}
use Rattle.ascii_lines.specs.Exchanges.{Runs, given_in, said_in}
use Rattle.ascii_lines.specs.Replies.{Reply, Step, line_reply, rejected, sent_out, skipped, took}
use Rattle.tests_callers.specs.Servers.{LampAnswers, LampRefuses, lamp_replies, reply_line, reply_to}
use Rattle.tests_callers.specs.declared.servers.Lamp.{Lamp}

pub lamp_runs : (old new : Lamp) (steps : List Step) → Runs LampAnswers LampRefuses old steps new
    → said_in steps ≡ lamp_replies old.lit (given_in steps)
lamp_runs old new [] run = refl
lamp_runs old new (took input replies ∷ steps) (asked, mid, told, run) =
    ap (λ (said : List Reply). said ++ said_in steps) told.says
    ∙ ap (λ (said : List Reply). line_reply (reply_line (reply_to old.lit input.body)) ∷ said)
    (lamp_runs mid new steps run ∙ ap (λ (lit : Bool). lamp_replies lit (given_in steps)) told.lit)
lamp_runs old new (rejected error replies ∷ steps) (asked, mid, told, run) =
    ap (λ (said : List Reply). said ++ said_in steps) told.says
    ∙ ap (λ (said : List Reply). line_reply (codes "bad line") ∷ said)
    (lamp_runs mid new steps run ∙ ap (λ (lit : Bool). lamp_replies lit (given_in steps)) told.lit)
lamp_runs old new (skipped bytes ∷ steps) run = lamp_runs old new steps run
lamp_runs old new (sent_out ∷ steps) run = lamp_runs old new steps run
