-- What contracts see of an owned string, and what its calls do to it.
use Rattle.std.specs.Prelude.{◌≡◌, ℕ, ◌+◌, ◌<◌, ◌≤◌, List, [], ◌++◌, length, take, drop, IsOk}
use Rattle.std.specs.Prelude.{OnErr, OnOk}
use Rattle.std.specs.Str.{IsAscii}
use Rattle.std.specs.declared.fmt.Error.{Error}
use Rattle.std.specs.declared.result.Result.{Result}

-- the text of a string, and its capacity in bytes
pub record StringState : Type 0 where
  pub text : List ℕ
  pub capacity : ℕ

-- the text `t` with `piece` inserted before position `i`
abbrev pub insert_text : List ℕ → ℕ → List ℕ → List ℕ
insert_text t i piece = take i t ++ (piece ++ drop i t)

-- `Ok`: the text becomes `text`. `Err`: it is unchanged, and `text` has more codes than the old
-- capacity, and more than `sure`. Never `Err` if `text` is the old text. The capacity never shrinks,
-- and the new text fits it.
pub record GrowsTo {E : Type 0} (sure : ℕ) (text : List ℕ) (old new : StringState)
    (result : Result (Unit {0}) E) : Type 0 where
  pub ok : OnOk result (new.text ≡ text)
  pub err : OnErr result (new.text ≡ old.text)
  pub full : OnErr result (old.capacity < length text)
  pub beyond : OnErr result (sure < length text)
  pub nothing : text ≡ old.text → IsOk result
  pub capacity : old.capacity ≤ new.capacity
  pub room : length new.text ≤ new.capacity

-- `Ok`: `piece` is ASCII and is appended. `Err`: the text is unchanged. Never `Err` if `piece` is
-- empty, or is ASCII and the longer text fits the capacity, or has at most `sure` codes. The capacity
-- never shrinks, and the new text fits it.
pub record Writes (sure : ℕ) (piece : List ℕ) (old new : StringState)
    (result : Result (Unit {0}) Error) : Type 0 where
  pub ok : OnOk result (new.text ≡ old.text ++ piece)
  pub ascii : OnOk result (IsAscii piece)
  pub err : OnErr result (new.text ≡ old.text)
  pub succeeds : IsAscii piece → length old.text + length piece ≤ old.capacity → IsOk result
  pub within : IsAscii piece → length old.text + length piece ≤ sure → IsOk result
  pub nothing : piece ≡ [] → IsOk result
  pub capacity : old.capacity ≤ new.capacity
  pub room : length new.text ≤ new.capacity

-- The text is unchanged. `Ok`: there is room for `additional` more bytes. `Err`: there was not
-- before, and with them the text is longer than `sure`. Never `Err` if `additional` is 0. The
-- capacity never shrinks, and the text fits it.
pub record Reserves {E : Type 0} (sure additional : ℕ) (old new : StringState)
    (result : Result (Unit {0}) E) : Type 0 where
  pub text : new.text ≡ old.text
  pub ok : OnOk result (length new.text + additional ≤ new.capacity)
  pub full : OnErr result (old.capacity < length old.text + additional)
  pub beyond : OnErr result (sure < length old.text + additional)
  pub nothing : additional ≡ 0 → IsOk result
  pub capacity : old.capacity ≤ new.capacity
  pub room : length new.text ≤ new.capacity

-- the text becomes `to`, and the capacity is unchanged; it has room for the old text
pub record EditsInPlace (to : List ℕ) (old new : StringState) : Type 0 where
  pub text : new.text ≡ to
  pub capacity : new.capacity ≡ old.capacity
  pub room : length old.text ≤ new.capacity
