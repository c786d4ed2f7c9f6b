-- Schedules: any finite list of whole instructions and accesses of the host, in any order.
use Rattle.std.specs.Prelude.{◌≡◌, ℕ, true, false, if◌then◌else◌, Option, None, List, [], ◌∷◌, ◌++◌}
use Rattle.std.specs.Option.{option_to_list}
use Rattle.wb_rom.specs.declared.images.Image.{Image}
use Rattle.wb_machine.specs.State.{power}
use Rattle.wb_port.specs.declared.accesses.Access.{Access}
use Rattle.wb_port.specs.declared.accesses.Access.TheVariants as access
use Rattle.wb_port.specs.declared.accesses.Event.{Event}
use Rattle.wb_port.specs.declared.accesses.Event.TheVariants as event
use Rattle.wb_port.specs.declared.chips.Chip.{Chip}
use Rattle.wb_port.specs.Port.{rqm, accessed, access_reply}
use Rattle.wb_port.specs.Monitor.{is_idle, stepped}
use Rattle.wb_port.specs.Talk.{Talk}

-- the chip at power-up with this RAM: nothing was asked, nothing counted, nothing broken
abbrev pub powered : List ℕ → Chip
powered start =
    record { machine = power start; monitor = record { asked = false; count = 0; breach = None } }

-- the chip after one event; an access of the host leaves the monitor as it is
abbrev pub applied : Image → Event → Chip → Chip
applied image event.Step c = stepped image c
applied image (event.Host a) c = record c { machine = accessed a c.machine }

-- what the host gets by one event
abbrev pub reply_of : Event → Chip → Option ℕ
reply_of event.Step c = None
reply_of (event.Host a) c = access_reply a c.machine

-- the chip after the events of a schedule
abbrev pub after : Image → List Event → Chip → Chip
after image [] c = c
after image (e ∷ s) c = after image s (applied image e c)

-- what the host gets by the events of a schedule, in order
abbrev pub replies : Image → List Event → Chip → List ℕ
replies image [] c = []
replies image (e ∷ s) c = option_to_list (reply_of e c) ++ replies image s (applied image e c)

-- an event is polite where it is no data transfer, or a request stands
abbrev pub IsPoliteEvent : Event → Chip → Type 0
IsPoliteEvent event.Step c = Unit {0}
IsPoliteEvent (event.Host access.Status) c = Unit {0}
IsPoliteEvent (event.Host access.Read) c = rqm c.machine ≡ true
IsPoliteEvent (event.Host (access.Write _)) c = rqm c.machine ≡ true

-- the host transfers data only while a request stands
abbrev pub IsPolite : Image → List Event → Chip → Type 0
IsPolite image [] c = Unit {0}
IsPolite image (e ∷ s) c = IsPoliteEvent e c × IsPolite image s (applied image e c)

-- an event keeps pace k where it is no instruction, or the count isn't k, or the instruction is idle
abbrev pub KeepsPaceAt : Image → ℕ → Event → Chip → Type 0
KeepsPaceAt image k event.Step c = c.monitor.count ≡ k → is_idle image c ≡ true
KeepsPaceAt image k (event.Host _) c = Unit {0}

-- no instruction that isn't idle starts while the count is k
abbrev pub KeepsPace : Image → ℕ → List Event → Chip → Type 0
KeepsPace image k [] c = Unit {0}
KeepsPace image k (e ∷ s) c = KeepsPaceAt image k e c × KeepsPace image k s (applied image e c)

-- the accesses of an event that count in a talk: data transfers, and status reads that find a request
abbrev pub told : Event → Chip → List Access
told event.Step c = []
told (event.Host access.Status) c = if rqm c.machine then access.Status ∷ [] else []
told (event.Host access.Read) c = access.Read ∷ []
told (event.Host (access.Write byte)) c = access.Write byte ∷ []

-- what the host gets by those
abbrev pub told_reply : Event → Chip → List ℕ
told_reply event.Step c = []
told_reply (event.Host access.Status) c =
    if rqm c.machine then option_to_list (access_reply access.Status c.machine) else []
told_reply (event.Host access.Read) c = option_to_list (access_reply access.Read c.machine)
told_reply (event.Host (access.Write byte)) c = []

-- the accesses of the talk of a schedule, in order
abbrev pub talk_from : Image → List Event → Chip → List Access
talk_from image [] c = []
talk_from image (e ∷ s) c = told e c ++ talk_from image s (applied image e c)

-- the bytes that these accesses gave, in order
abbrev pub said_from : Image → List Event → Chip → List ℕ
said_from image [] c = []
said_from image (e ∷ s) c = told_reply e c ++ said_from image s (applied image e c)

-- the talk of a schedule from a start
unfoldable pub talk : Image → List ℕ → List Event → Talk
talk image start s = record { start = start; accesses = talk_from image s (powered start) }

-- the bytes that the schedule said from that start
unfoldable pub said : Image → List ℕ → List Event → List ℕ
said image start s = said_from image s (powered start)
