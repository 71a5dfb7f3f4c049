-- What is said in reply to a command that was carried out.
use Rattle.std.proofs.Common.{◌≡◌, ◌∙◌, ℕ, List, [], ◌∷◌, Err, Ok, Some, ap, refl}
use Rattle.std.specs.Prelude.{slice_get}
use Rattle.std.specs.declared.alloc.Global.{Global}
use Rattle.std.specs.declared.vec.Vec.{Vec}
use Rattle.example_resp.specs.Commands.{IsCallFault, Says, Tells, after, reply, value_reply}
use Rattle.example_resp.specs.Session.{Answer, CarriesOut, Follows, Rejects, reply_lines, value_at}
use Rattle.example_resp.specs.Store.{Contents, byte_lists}
use Rattle.example_resp.specs.declared.commands.Command.{Command}
use Rattle.example_resp.specs.declared.commands.Command.TheVariants as command
use Rattle.example_resp.specs.declared.commands.Rejection.{Rejection}
use Rattle.example_resp.specs.declared.replies.Reply.{Reply}

-- the second of two words
second : (words : List (List ℕ)) (name word : List ℕ) (others : List (List ℕ))
    → words ≡ name ∷ others → others ≡ word ∷ [] → slice_get words 1 ≡ Some word
second words name word others is one =
    ap (λ (ws : List (List ℕ)). slice_get ws 1)
    (is ∙ ap (λ (ws : List (List ℕ)). name ∷ ws) one)

-- the lines of what is told are the reply to the command
pub told_lines : (held new : Contents) (words : List (List ℕ)) (command : Command) (told : Reply)
    → Says words command → Tells held command told
    → ((key : List ℕ) → new key ≡ after held command key)
    → reply_lines new words told ≡ reply held command
told_lines held new words (command.SetValue key value) told says tells contents =
    ap (reply_lines new words) tells
told_lines held new words (command.GetValue key) told (verb, arguments, (name, is, named), parts)
    tells contents = ap (reply_lines new words) tells
    ∙ ap value_reply (ap (value_at new) (second words name key.now arguments is parts.1)
    ∙ contents key.now)
told_lines held new words (command.DeleteValues keys) told says tells contents =
    ap (reply_lines new words) tells
told_lines held new words (command.CountValues keys) told says tells contents =
    ap (reply_lines new words) tells
told_lines held new words command.Reply told says tells contents =
    ap (reply_lines new words) tells
told_lines held new words (command.Echo text) told (verb, arguments, (name, is, named), parts)
    tells contents = ap (reply_lines new words) tells
    ∙ ap value_reply (second words name text.now arguments is parts.1)
told_lines held new words command.Choose told says tells contents =
    ap (reply_lines new words) tells
told_lines held new words command.Name told says tells contents =
    ap (reply_lines new words) tells
told_lines held new words command.Greet told says tells contents =
    ap (reply_lines new words) tells
told_lines held new words command.Leave told says tells contents =
    ap (reply_lines new words) tells

-- words that do not say a command are answered by their rejection
pub rejected : (held : Contents) (words : List (Vec ℕ Global)) (fault : Rejection) (answer : Answer)
    → ¬ (words ≡ []) → IsCallFault (byte_lists words) fault → Rejects held fault answer
    → answer.state.words ≡ byte_lists words → CarriesOut held (byte_lists words) answer
rejected held [] fault answer some is rejects kept = absurd (some refl)
rejected held (word ∷ words) fault answer some is rejects kept = (Err fault, is, (rejects, kept))

-- words that say a command are carried out if it is followed
pub carried : (held : Contents) (words : List (Vec ℕ Global)) (command : Command) (answer : Answer)
    → ¬ (words ≡ []) → Says (byte_lists words) command → Follows held command answer
    → CarriesOut held (byte_lists words) answer
carried held [] command answer some says follows = absurd (some refl)
carried held (word ∷ words) command answer some says follows = (Ok command, says, follows)
