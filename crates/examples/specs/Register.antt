-- What a register answers.
use Rattle.std.specs.Prelude.{◌≡◌, ◌≢◌, ◌⊎◌, ℕ, List, [], ◌∷◌, codes}
use Rattle.ascii_lines.specs.Replies.{Reply, line_reply}
use Rattle.ascii_lines.specs.declared.serving.Next.{Next}
use Rattle.ascii_lines.specs.declared.serving.Next.TheVariants.{Line, Close}
use Rattle.examples.specs.declared.register.Reply as register
use Rattle.examples.specs.declared.register.Reply.TheVariants as said

-- to the line `text`, a register that keeps `kept` gives these replies, asks for `next`, and keeps
-- `after`. It keeps a line as it is, and replies `BUSY` if the allocation for it fails
pub record Answers (kept text : List ℕ) (replies : List Reply) (next : Next) (after : List ℕ)
    : Type 0 where
  pub get : text ≡ codes "GET"
      → (replies ≡ line_reply kept ∷ []) × (next ≡ Line) × (after ≡ kept)
  pub quit : text ≡ codes "QUIT" → (replies ≡ line_reply (codes "BYE") ∷ []) × (next ≡ Close)
  pub other : text ≢ codes "GET" → text ≢ codes "QUIT" → (next ≡ Line)
      × (((replies ≡ line_reply (codes "OK") ∷ []) × (after ≡ text))
      ⊎ ((replies ≡ line_reply (codes "BUSY") ∷ []) × (after ≡ kept)))

-- to a line at fault it replies `BAD`, and the next line may come
pub record Refuses (kept : List ℕ) (replies : List Reply) (next : Next) (after : List ℕ) : Type 0
  where
    pub says : replies ≡ line_reply (codes "BAD") ∷ []
    pub asks : next ≡ Line
    pub same : after ≡ kept

-- the replies of a register that keeps `kept`
abbrev pub replies_to : register.Reply → List ℕ → List Reply
replies_to said.Kept kept = line_reply kept ∷ []
replies_to said.Done kept = line_reply (codes "OK") ∷ []
replies_to said.Busy kept = line_reply (codes "BUSY") ∷ []
replies_to said.Bye kept = line_reply (codes "BYE") ∷ []
