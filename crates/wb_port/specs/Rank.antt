-- A rank that each stride of a held chip raises: so a held run has each point at most once, in this order.
use Rattle.std.specs.Prelude.{ℕ, ◌+◌, ◌-◌, ◌*◌, Bool, not, ◌&&◌, if◌then◌else◌}
use Rattle.wb_rom.specs.declared.images.Image.{Image}
use Rattle.wb_port.specs.declared.chips.Chip.{Chip}
use Rattle.wb_port.specs.Port.{rqm}
use Rattle.wb_port.specs.Wait.{is_poll, to_gate}
use Rattle.wb_port.specs.Monitor.{place}

-- how many instructions a chip will idle: only where a request is asked, and is over
unfoldable pub lingers : Image → Bool → Bool → ℕ → ℕ
lingers image asked standing at = if asked && not standing && is_poll image at then to_gate image at else 0

-- the rank by what is asked, whether a request stands, the count and the address: chips with a request come after
-- all without one; then the count tells, and in a wait loop the distance to its test
abbrev pub rank_by : Image → ℕ → Bool → Bool → ℕ → ℕ → ℕ
rank_by image k asked standing count at =
    ((if standing then k + 1 else 0) + count) * 8 + (7 - lingers image asked standing at)

-- the rank of a chip at pace k
abbrev pub rank_of : Image → ℕ → Chip → ℕ
rank_of image k c = rank_by image k c.monitor.asked (rqm c.machine) c.monitor.count (place c)
