use Rattle.std.proofs.Common.{◌≡◌, drop}
use Rattle.wb_asm.specs.Laid.{HaveRoom}
use Rattle.wb_asm.specs.Words.{first_misvalued, prog_filled, drom_filled}
use Rattle.wb_asm.proofs.assembly.fill_all.Given as goal

abbrev pub invariant-loop-index : goal.invariant-loop-index
invariant-loop-index l =
    record {
      room : HaveRoom (drop l.index l.statements) (drop l.index l.placing.counters.items);
      fault : first_misvalued l.text l.placing.names (drop l.index l.statements) (drop l.index l.placing.counters.items)
          ≡ first_misvalued l.text l.placing.names l.statements l.placing.counters.items;
      prog : prog_filled l.text l.placing.names l.image.prog (drop l.index l.statements) (drop l.index l.placing.counters.items)
          ≡ prog_filled l.text l.placing.names l.initial.image.prog l.statements l.placing.counters.items;
      drom : drom_filled l.text l.placing.names l.image.drom (drop l.index l.statements) (drop l.index l.placing.counters.items)
          ≡ drom_filled l.text l.placing.names l.initial.image.drom l.statements l.placing.counters.items;
    }
