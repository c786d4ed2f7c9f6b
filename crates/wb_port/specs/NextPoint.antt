-- How a point goes on, of what the machine shows after an instruction or a data transfer.
use Rattle.std.specs.Prelude.{not, ◌&&◌, ◌||◌, [], ◌∷◌, ◌++◌}
use Rattle.wb_rom.specs.declared.images.Image.{Image}
use Rattle.wb_machine.specs.State.{State}
use Rattle.wb_port.specs.declared.accesses.Kind.{Kind}
use Rattle.wb_port.specs.declared.points.Point.{Point}
use Rattle.wb_port.specs.declared.points.Shown.{Shown}
use Rattle.wb_port.specs.Port.{rqm, drs}
use Rattle.wb_port.specs.Wait.{raises_request, word_of}
use Rattle.wb_port.specs.Monitor.{count_after, idles_at, leaves_at}

-- what a point shows of a machine
abbrev pub shown_of : State → Shown
shown_of m = record { pc = m.regs.pc; sp = m.regs.sp; stack = m.stack; rqm = rqm m; drs = drs m }

-- the point that shows this of its machine, all else kept
abbrev pub showing : Shown → Point → Point
showing m p = record p { pc = m.pc; sp = m.sp; stack = m.stack; rqm = m.rqm; drs = m.drs }

-- the point after an instruction, as the observer sees it from the point before; the machine after it shows this
abbrev pub point_stepped : Image → Shown → Point → Point
point_stepped image m p =
    showing m (record p {
      count =
          count_after (idles_at image p.asked p.rqm p.pc) (raises_request (word_of image p.pc)) p.count;
      asked = raises_request (word_of image p.pc) || (p.asked && not (leaves_at image p.rqm p.pc));
    })

-- the point after a data transfer of this kind; the machine after it shows this
abbrev pub point_given : Kind → Shown → Point → Point
point_given kind m p = showing m (record p { kinds = p.kinds ++ kind ∷ [] })
