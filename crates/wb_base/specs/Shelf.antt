-- What a shelf's reads give. Its content under a name is `None` where the shelf does not tell it,
-- `Some None` where it tells that it has no such name, and `Some (Some xs)` where it tells the bytes xs.
use Rattle.std.specs.Prelude.{◌≡◌, ◌≢◌, ℕ, ◌-◌, ◌<◌, ◌≤◌, ◌⊎◌, List, length, take, drop, Option, None, Some, Result, Ok, Err, Vec}
use Rattle.std.specs.declared.alloc.Global.{Global}
use Rattle.wb_base.specs.Faults.{Rose}
use Rattle.wb_base.specs.declared.faults.Failed.{Failed}
use Rattle.wb_base.specs.declared.faults.ReadFault.{ReadFault}
use Rattle.wb_base.specs.declared.faults.ReadFault.TheVariants as fault

-- what is known of one name
abbrev pub Content : Type 0
Content = Option (Option (List ℕ))

-- a failed read has a cause: a counted fault, or a name that the shelf tells to be absent
abbrev pub HasCause : Content → ℕ → ℕ → Type 0
HasCause content before now = Rose before now ⊎ (content ≡ Some None)

-- the first m bytes of the buffer are those of xs from a place on, and none only where there are none or no room
pub record GivesBytes (xs : List ℕ) (at : ℕ) (buf : List ℕ) (m : ℕ) : Type 0 where
  pub bytes : take m buf ≡ take m (drop at xs)
  pub within : m ≤ length xs - at
  pub some : 0 < length buf → at < length xs → 0 < m

-- a read gave m bytes at the front of the buffer, which was `old`
pub record Gives (content : Content) (at : ℕ) (old new : List ℕ) (m : ℕ) : Type 0 where
  pub bound : m ≤ length old
  pub rest : drop m new ≡ drop m old
  pub present : content ≢ Some None
  pub told : (xs : List ℕ) → content ≡ Some (Some xs) → GivesBytes xs at new m

-- the answer of a read at a place: the bytes there without a counted fault, or `Failed` with its cause
abbrev pub IsRead : Content → ℕ → List ℕ → List ℕ → ℕ → ℕ → Result ℕ Failed → Type 0
IsRead content at old new before now (Ok m) = Gives content at old new m × (now ≡ before)
IsRead content at old new before now (Err _) = HasCause content before now

-- the whole content, where it is told, and never more than the limit
pub record IsWhole (limit : ℕ) (content : Content) (bytes : List ℕ) : Type 0 where
  pub present : content ≢ Some None
  pub told : (xs : List ℕ) → content ≡ Some (Some xs) → bytes ≡ xs
  pub within : length bytes ≤ limit

-- there is more than the limit, where that is told
pub record IsLonger (limit : ℕ) (content : Content) : Type 0 where
  pub present : content ≢ Some None
  pub told : (xs : List ℕ) → content ≡ Some (Some xs) → limit < length xs

-- the answer of reading a content whole: its bytes, or the fault with its cause; only `Failed` has a counted one
abbrev pub IsReading : ℕ → Content → ℕ → ℕ → Result (Vec ℕ Global) ReadFault → Type 0
IsReading limit content before now (Ok bytes) = IsWhole limit content bytes.items × (now ≡ before)
IsReading limit content before now (Err fault.Failed) = HasCause content before now
IsReading limit content before now (Err fault.TooLong) = IsLonger limit content × (now ≡ before)
IsReading limit content before now (Err fault.OutOfMemory) = now ≡ before
