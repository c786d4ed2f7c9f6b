use Rattle.std.proofs.Common.{◌≡◌, ◌≤◌, ◌++◌, drop, length, vec_len, vec_capacity}
use Rattle.wb_asm.specs.Counters.{first_misplaced, laid_out, counters}
use Rattle.wb_asm.specs.Layout.{start}
use Rattle.wb_asm.proofs.laying.lay_out.Given as goal

abbrev pub invariant-loop-statement : goal.invariant-loop-statement
invariant-loop-statement l =
    record {
      fault : first_misplaced l.text l.layout (drop l.statement-index l.statements) ≡ first_misplaced l.text start l.statements;
      layout : laid_out l.text l.layout (drop l.statement-index l.statements) ≡ laid_out l.text start l.statements;
      before : l.counters.items ++ counters l.text l.layout (drop l.statement-index l.statements) ≡ counters l.text start l.statements;
      count : vec_len l.counters ≡ l.statement-index;
      room : length l.statements ≤ vec_capacity l.counters;
    }
