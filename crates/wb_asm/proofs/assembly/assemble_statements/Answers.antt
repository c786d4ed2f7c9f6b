use Rattle.std.proofs.Common.{sym, ◌∙◌, subst, List}
use Rattle.wb_asm.specs.Laid.{HaveRoom}
use Rattle.wb_asm.specs.declared.counters.Counters.{Counters}
use Rattle.wb_asm.proofs.Filled.{zeros_is, prog_filled_same, drom_filled_same}
use Rattle.wb_asm.proofs.Room.{have_room_all}
use Rattle.wb_asm.proofs.assembly.assemble_statements.Goals as goal

pub fill_all-requires : goal.fill_all-requires
fill_all-requires c =
    let laid = c.in_ok-placing.ensures.ok in
    subst (λ (counters : List Counters). HaveRoom c.args.statements.now counters) (sym laid.before)
    (have_room_all c.args.text.now c.args.statements.now laid.fault)

pub returns-clause-image : goal.returns-clause-image
returns-clause-image c =
    let laid = c.in_ok-placing.ensures.ok in
    let filled = c.in_ok-fill_all.ensures in
    record {
      placed = laid.fault;
      valued = rw (← laid.names, ← laid.before) filled.0;
      prog = prog_filled_same c.args.text.now c.args.statements.now _ _ _ _ _ _ _ filled.1.prog laid.names (c.in_ok-zero.ensures.zeros ∙ zeros_is 2048) laid.before;
      drom = drom_filled_same c.args.text.now c.args.statements.now _ _ _ _ _ _ _ filled.1.drom laid.names (c.in_ok-zero-2.ensures.zeros ∙ zeros_is 1024) laid.before;
    }
