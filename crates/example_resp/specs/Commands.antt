-- The commands of a store: the words that say each, its reply, and the store after it.
use Rattle.std.specs.Map.{update}
use Rattle.std.specs.Prelude.{◌≡◌, ◌≢◌, ◌⊎◌, ℕ, ◌<◌, List, [], ◌∷◌, ◌++◌, None, Option, Some, codes}
use Rattle.std.specs.Prelude.{All, MatchResult, decimal, length, map, ⊤}
use Rattle.std.specs.List.{flat_map}
use Rattle.std.specs.Str.{bytes_eq}
use Rattle.std.specs.declared.result.Result.{Result}
use Rattle.ascii.specs.Case.{lower_image}
use Rattle.ascii.specs.Class.{IsPrintable}
use Rattle.example_resp.specs.Store.{Contents, removed_count, byte_lists, value_count, without}
use Rattle.example_resp.specs.declared.commands.Command.{Command}
use Rattle.example_resp.specs.declared.commands.Command.TheVariants.{SetValue, GetValue}
use Rattle.example_resp.specs.declared.commands.Command.TheVariants.{Choose, CountValues, DeleteValues, Echo}
use Rattle.example_resp.specs.declared.commands.Command.TheVariants.{Greet, Leave, Name}
use Rattle.example_resp.specs.declared.commands.Command.TheVariants.{Reply}
use Rattle.example_resp.specs.declared.commands.Rejection.{Rejection}
use Rattle.example_resp.specs.declared.commands.Rejection.TheVariants.{BadCount, BadEnding, BadInput}
use Rattle.example_resp.specs.declared.commands.Rejection.TheVariants.{BadLength, BadName, BadQuotes, Foreign}
use Rattle.example_resp.specs.declared.commands.Rejection.TheVariants.{NoLength, NoMemory}
use Rattle.example_resp.specs.declared.commands.Rejection.TheVariants.{NoDatabase, NoProtocol}
use Rattle.example_resp.specs.declared.commands.Rejection.TheVariants.{UnknownCommand}
use Rattle.example_resp.specs.declared.commands.Rejection.TheVariants.{UnknownSubcommand}
use Rattle.example_resp.specs.declared.commands.Rejection.TheVariants.{WrongArguments}
use Rattle.example_resp.specs.declared.commands.Verb.{Verb}
use Rattle.example_resp.specs.declared.replies.Reply as replies
use Rattle.example_resp.specs.declared.replies.Reply.TheVariants as said
use Rattle.example_resp.specs.declared.commands.Verb.TheVariants.{Set, Get, Del, Exists, Ping}
use Rattle.example_resp.specs.declared.commands.Verb.TheVariants as verbs
use Rattle.example_resp.specs.declared.commands.Verb.TheVariants.{Client, Hello, Quit, Select}

-- ---- what words say

-- the name of a verb in lower case
abbrev pub name_of : Verb → List ℕ
name_of Set = codes "set"
name_of Get = codes "get"
name_of Del = codes "del"
name_of Exists = codes "exists"
name_of Ping = codes "ping"
name_of verbs.Echo = codes "echo"
name_of Select = codes "select"
name_of Client = codes "client"
name_of Hello = codes "hello"
name_of Quit = codes "quit"

-- the number of arguments that a verb takes
abbrev pub IsCount : Verb → ℕ → Type 0
IsCount Set count = count ≡ 2
IsCount Get count = count ≡ 1
IsCount Del count = 0 < count
IsCount Exists count = 0 < count
IsCount Ping count = (count ≡ 0) ⊎ (count ≡ 1)
IsCount verbs.Echo count = count ≡ 1
IsCount Select count = count ≡ 1
IsCount Client count = 0 < count
IsCount Hello count = (count ≡ 0) ⊎ (count ≡ 1)
IsCount Quit count = ⊤

-- `word` is the name of `verb`, ignoring ASCII case
abbrev pub IsNameOf : Verb → List ℕ → Type 0
IsNameOf verb word = map lower_image word ≡ name_of verb

-- a line of a request of HTTP may begin with `word`, ignoring ASCII case
abbrev pub IsForeign : List ℕ → Type 0
IsForeign word = (map lower_image word ≡ codes "post") ⊎ (map lower_image word ≡ codes "host:")

-- `arguments` give a client a name, or tell what it is: `setname` with one word after it, or `setinfo`
-- with two, in any case
abbrev pub IsNaming : List (List ℕ) → Type 0
IsNaming [] = ⊥
IsNaming (word ∷ words) = ((map lower_image word ≡ codes "setname") × (length words ≡ 1))
    ⊎ ((map lower_image word ≡ codes "setinfo") × (length words ≡ 2))

-- `arguments` ask for the protocol that is spoken: they are none, or `2`
abbrev pub IsSpoken : List (List ℕ) → Type 0
IsSpoken arguments = (arguments ≡ []) ⊎ (arguments ≡ codes "2" ∷ [])

-- `command` is the verb `verb` with the arguments `arguments`
abbrev pub HasParts : Verb → List (List ℕ) → Command → Type 0
HasParts verb arguments (SetValue key value) =
    (verb ≡ Set) × (arguments ≡ key.now ∷ value.now ∷ [])
HasParts verb arguments (GetValue key) = (verb ≡ Get) × (arguments ≡ key.now ∷ [])
HasParts verb arguments (DeleteValues keys) =
    (verb ≡ Del) × (arguments ≡ byte_lists keys.now) × (arguments ≢ [])
HasParts verb arguments (CountValues keys) =
    (verb ≡ Exists) × (arguments ≡ byte_lists keys.now) × (arguments ≢ [])
HasParts verb arguments Reply = (verb ≡ Ping) × (arguments ≡ [])
HasParts verb arguments (Echo text) =
    ((verb ≡ Ping) ⊎ (verb ≡ verbs.Echo)) × (arguments ≡ text.now ∷ [])
HasParts verb arguments Choose = (verb ≡ Select) × (arguments ≡ codes "0" ∷ [])
HasParts verb arguments Name = (verb ≡ Client) × IsNaming arguments
HasParts verb arguments Greet = (verb ≡ Hello) × IsSpoken arguments
HasParts verb arguments Leave = verb ≡ Quit

-- why `verb` with the arguments `arguments` is not a command: it does not take their number, or what
-- they ask for is not there
abbrev pub IsPartsFault : Verb → List (List ℕ) → Rejection → Type 0
IsPartsFault verb arguments NoDatabase =
    (verb ≡ Select) × (length arguments ≡ 1) × (arguments ≢ codes "0" ∷ [])
IsPartsFault verb arguments UnknownSubcommand =
    (verb ≡ Client) × (0 < length arguments) × ¬ (IsNaming arguments)
IsPartsFault verb arguments NoProtocol =
    (verb ≡ Hello) × (length arguments ≡ 1) × (arguments ≢ codes "2" ∷ [])
IsPartsFault verb arguments fault =
    (fault ≡ WrongArguments verb) × ¬ (IsCount verb (length arguments))

-- `words` are the name of `verb` and then `arguments`
abbrev pub IsCall : List (List ℕ) → Verb → List (List ℕ) → Type 0
IsCall words verb arguments = (name : List ℕ) × (words ≡ name ∷ arguments) × IsNameOf verb name

-- `words` say `command`
abbrev pub Says : List (List ℕ) → Command → Type 0
Says words command = (verb : Verb) × (arguments : List (List ℕ)) × IsCall words verb arguments
    × HasParts verb arguments command

-- the first of `words` is that of a request of HTTP
abbrev pub IsForeignCall : List (List ℕ) → Type 0
IsForeignCall words = (name : List ℕ) × (arguments : List (List ℕ)) × (words ≡ name ∷ arguments)
    × IsForeign name

-- `words` begin with a word that is not the name of a verb, nor that of a request of HTTP; or there
-- are none
abbrev pub IsUnknown : List (List ℕ) → Type 0
IsUnknown words = ¬ (IsForeignCall words)
    × ((verb : Verb) (arguments : List (List ℕ)) → ¬ (IsCall words verb arguments))

-- the first of `words` has printable characters only
abbrev pub HasName : List (List ℕ) → Type 0
HasName words = (name : List ℕ) × (arguments : List (List ℕ)) × (words ≡ name ∷ arguments)
    × All IsPrintable name

-- why `words` do not say a command. `Foreign`: the first is that of a request of HTTP.
-- `UnknownCommand`: it is another word that is not the name of a verb, and is printable. `BadName`:
-- it is not printable, or there is none. Otherwise the verb has arguments at fault
abbrev pub IsCallFault : List (List ℕ) → Rejection → Type 0
IsCallFault words UnknownCommand = IsUnknown words × HasName words
IsCallFault words BadName = IsUnknown words × ¬ (HasName words)
IsCallFault words Foreign = IsForeignCall words
IsCallFault words rejection = (verb : Verb) × (arguments : List (List ℕ))
    × IsCall words verb arguments × IsPartsFault verb arguments rejection

-- `Ok`: the command that `words` say. `Err`: why they do not say one
abbrev pub ReadsCommand : List (List ℕ) → Result Command Rejection → Type 0
ReadsCommand words result = MatchResult result (Says words) (IsCallFault words)

-- ---- what a store replies

-- the reply to a value: its length and the value as a second line, or `$-1` for `None`
abbrev pub value_reply : Option (List ℕ) → List (List ℕ)
value_reply None = codes "$-1" ∷ []
value_reply (Some value) = (codes "$" ++ decimal (length value)) ∷ value ∷ []

-- the reply that is a number
abbrev pub count_reply : ℕ → List (List ℕ)
count_reply count = (codes ":" ++ decimal count) ∷ []

-- the reply to one who asks for the protocol: what the server says of itself, as words and numbers
abbrev pub server_reply : List ℕ
server_reply = flat_map (λ line. line ++ 13 ∷ 10 ∷ []) (codes "*14" ∷ codes "$6" ∷ codes "server"
    ∷ codes "$12" ∷ codes "example_resp" ∷ codes "$7" ∷ codes "version" ∷ codes "$5"
    ∷ codes "1.0.0" ∷ codes "$5" ∷ codes "proto" ∷ codes ":2" ∷ codes "$2" ∷ codes "id"
    ∷ codes ":1" ∷ codes "$4" ∷ codes "mode" ∷ codes "$10" ∷ codes "standalone" ∷ codes "$4"
    ∷ codes "role" ∷ codes "$6" ∷ codes "master" ∷ codes "$7" ∷ codes "modules" ∷ [])
    ++ codes "*0"

-- the reply of a store with these contents to a command
abbrev pub reply : Contents → Command → List (List ℕ)
reply contents (SetValue key value) = codes "+OK" ∷ []
reply contents (GetValue key) = value_reply (contents key.now)
reply contents (DeleteValues keys) = count_reply (removed_count contents (byte_lists keys.now))
reply contents (CountValues keys) = count_reply (value_count contents (byte_lists keys.now))
reply contents Reply = codes "+PONG" ∷ []
reply contents (Echo text) = value_reply (Some text.now)
reply contents Choose = codes "+OK" ∷ []
reply contents Name = codes "+OK" ∷ []
reply contents Greet = server_reply ∷ []
reply contents Leave = codes "+OK" ∷ []

-- what is to be said in reply to a command, of a store with these contents
abbrev pub Tells : Contents → Command → replies.Reply → Type 0
Tells contents (SetValue key value) told = told ≡ said.Done
Tells contents (GetValue key) told = told ≡ said.Value
Tells contents (DeleteValues keys) told =
    told ≡ said.Count (removed_count contents (byte_lists keys.now))
Tells contents (CountValues keys) told =
    told ≡ said.Count (value_count contents (byte_lists keys.now))
Tells contents Reply told = told ≡ said.Pong
Tells contents (Echo text) told = told ≡ said.Text
Tells contents Choose told = told ≡ said.Done
Tells contents Name told = told ≡ said.Done
Tells contents Greet told = told ≡ said.Server
Tells contents Leave told = told ≡ said.Done

-- the contents of a store after a command
abbrev pub after : Contents → Command → Contents
after contents (SetValue key value) = update bytes_eq contents key.now (Some value.now)
after contents (DeleteValues keys) = without contents (byte_lists keys.now)
after contents other = contents

-- the line that says why a request was rejected
abbrev pub error_line : Rejection → List ℕ
error_line UnknownCommand = codes "-ERR unknown command"
error_line BadName = codes "-ERR unknown command"
error_line Foreign = codes "-ERR Protocol error: a request of HTTP"
error_line (WrongArguments verb) =
    codes "-ERR wrong number of arguments for '" ++ (name_of verb ++ codes "' command")
error_line NoDatabase = codes "-ERR DB index is out of range"
error_line UnknownSubcommand = codes "-ERR unknown subcommand"
error_line NoProtocol = codes "-NOPROTO unsupported protocol version"
error_line BadCount = codes "-ERR Protocol error: invalid multibulk length"
error_line BadLength = codes "-ERR Protocol error: invalid bulk length"
error_line NoLength = codes "-ERR Protocol error: expected '$'"
error_line BadEnding = codes "-ERR the word is longer than its length"
error_line BadQuotes = codes "-ERR Protocol error: unbalanced quotes in request"
error_line BadInput = codes "-ERR Protocol error: bad input"
error_line NoMemory = codes "-OOM out of memory"

-- the error line for a command that is not known, with its name
abbrev pub unknown_line : List ℕ → List ℕ
unknown_line name = codes "-ERR unknown command '" ++ (name ++ codes "'")

-- the line that says why a request was rejected whose first word is this one, if it has any: it
-- repeats the name of a command that is not known
abbrev pub fault_line : Rejection → Option (List ℕ) → List ℕ
fault_line UnknownCommand (Some name) = unknown_line name
fault_line rejection name = error_line rejection
