-- What the reader of a script keeps, line by line. No public clause cites this.
use Rattle.std.specs.Prelude.{◌≡◌, ℕ, ◌+◌, ◌-◌, ◌*◌, ◌<◌, ◌≤◌, ⊤, List, [], ◌∷◌, ◌++◌, length, take, drop, IfSome}
use Rattle.std.specs.declared.option.Option.{Option}
use Rattle.std.specs.declared.option.Option.TheVariants.{Some, None}
use Rattle.wb_script.specs.declared.items.Item.{Item}
use Rattle.wb_script.specs.declared.table.Statement.{Statement}
use Rattle.wb_script.specs.declared.table.Statement.TheVariants.{Row, Repeat, End}
use Rattle.wb_script.specs.declared.reader.Opening.{Opening}
use Rattle.wb_script.specs.Script.{copies}

-- the items are within the limit, and an open repetition began among them
pub record HasRoom (items : List Item) (open_part : Option Opening) : Type 0 where
  pub few : length items ≤ 65536
  pub began : IfSome open_part (λ opening. (opening.start ≤ length items) × (0 < opening.times))

-- what stands after a line that may follow
abbrev pub Continues : List Item → Option Opening → ℕ → Option Statement → List Item → Option Opening → Type 0
Continues items before line None items' after = ⊥
Continues items before line (Some (Row None)) items' after = (items' ≡ items) × (after ≡ before)
Continues items before line (Some (Row (Some item))) items' after = (items' ≡ items ++ item ∷ []) × (after ≡ before) × (length items < 65536)
Continues items None line (Some (Repeat times)) items' after = (items' ≡ items) × (after ≡ Some (record { line = line; times = times; start = length items }))
Continues items (Some _) line (Some (Repeat times)) items' after = ⊥
Continues items None line (Some End) items' after = ⊥
Continues items (Some opening) line (Some End) items' after =
    (items' ≡ take opening.start items ++ copies opening.times (drop opening.start items)) × (after ≡ None)
    × (opening.start + opening.times * (length items - opening.start) ≤ 65536)

-- why a line may not follow
abbrev pub IsRefused : List Item → Option Opening → Option Statement → Type 0
IsRefused items before None = ⊤
IsRefused items before (Some (Row None)) = ⊥
IsRefused items before (Some (Row (Some item))) = 65536 ≤ length items
IsRefused items None (Some (Repeat times)) = ⊥
IsRefused items (Some _) (Some (Repeat times)) = ⊤
IsRefused items None (Some End) = ⊤
IsRefused items (Some opening) (Some End) = 65536 < opening.start + opening.times * (length items - opening.start)

-- the line that is answered is this one, which may not follow
abbrev pub IsRefusal : List Item → Option Opening → ℕ → Option Statement → ℕ → Type 0
IsRefusal items before line statement answered = (answered ≡ line) × IsRefused items before statement
