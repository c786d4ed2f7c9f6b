-- A request that stands is asked, at every moment of every schedule.
use Rattle.std.proofs.Common.{List, [], ◌∷◌}
use Rattle.wb_rom.specs.declared.images.Image.{Image}
use Rattle.wb_port.specs.declared.accesses.Event.{Event}
use Rattle.wb_port.specs.declared.accesses.Event.TheVariants as event
use Rattle.wb_port.specs.declared.chips.Chip.{Chip}
use Rattle.wb_port.specs.Monitor.{stepped}
use Rattle.wb_port.specs.Schedule.{powered, applied, after}
use Rattle.wb_law.specs.PortFacts.{PortFacts}
use Rattle.wb_law.specs.Requests.{RequestsAreAsked}
use Rattle.wb_law.proofs.Faithful.{IsSane, sane_step, sane_access, powered_sane}

module _ (facts : PortFacts) where
  after_sane : (image : Image) (s : List Event) (c : Chip) → IsSane facts image 0 c → IsSane facts image 0 (after image s c)
  after_sane image [] c sane = sane
  after_sane image (event.Step ∷ s) c sane = after_sane image s (stepped image c) (sane_step facts image 0 c sane)
  after_sane image (event.Host a ∷ s) c sane =
      after_sane image s (applied image (event.Host a) c) (sane_access facts image 0 a c sane)

  pub requests_are_asked : RequestsAreAsked
  requests_are_asked image start s = after_sane image s (powered start) (powered_sane facts image 0 start)
