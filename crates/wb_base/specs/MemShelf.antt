-- A shelf in memory, which tells its contents.
use Rattle.std.specs.Prelude.{◌≡◌, ◌≢◌, ℕ, ◌-◌, ◌++◌, List, length, take, drop, min, Bool, true, false, Option, None, Some}
use Rattle.std.specs.Option.{option_map}
use Rattle.std.specs.BTreeMap.{get_by_text}
use Rattle.wb_base.specs.declared.mem_shelf.MemShelf.{MemShelf}

-- the content under a name, by the name's bytes
abbrev pub content_of : MemShelf → List ℕ → Option (List ℕ)
content_of s name = option_map (λ v. v.items) (get_by_text s.files name)

-- the name has this content now, and every other name what it had
pub record AddsContent (old new : MemShelf) (name bytes : List ℕ) : Type 0 where
  pub added : content_of new name ≡ Some bytes
  pub others : (n : List ℕ) → n ≢ name → content_of new n ≡ content_of old n

-- how many bytes a read gives from a place on, with this room for them; `None` where it is `Failed`
abbrev pub amount_given : Bool → Option (List ℕ) → ℕ → ℕ → Option ℕ
amount_given true content at room = None
amount_given false None at room = None
amount_given false (Some xs) at room = Some (min room (length xs - at))

-- the buffer after such a read
abbrev pub buffer_after : Option (List ℕ) → ℕ → List ℕ → Option ℕ → List ℕ
buffer_after content at buf None = buf
buffer_after None at buf (Some m) = buf
buffer_after (Some xs) at buf (Some m) = take m (drop at xs) ++ drop m buf
