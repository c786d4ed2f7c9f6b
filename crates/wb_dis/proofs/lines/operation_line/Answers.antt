use Rattle.std.proofs.Common.{◌≡◌}
use Rattle.wb_dis.specs.Line.{clauses, with_clauses}
use Rattle.wb_dis.proofs.Growth.{operation_text, operation-short}
use Rattle.wb_dis.proofs.lines.operation_line.Goals as goal

text : (c : goal.After-put_rpdec) → c.put_rpdec.new.line.bytes ≡ with_clauses c.args.mnemonic.now (clauses c.args.op.now)
text c =
    operation_text c.args.mnemonic.now c.push_str.new.self.bytes c.put_alu.new.line.bytes c.put_move.new.line.bytes
    c.put_dp.new.line.bytes c.put_m.new.line.bytes c.put_rpdec.new.line.bytes c.args.op.now c.requires
    (rw (c.push_str.ensures.bytes, c.new-line.ensures))
    c.put_alu.ensures.text c.put_move.ensures.text c.put_dp.ensures.text c.put_m.ensures.text c.put_rpdec.ensures

pub returns-clause-text : goal.returns-clause-text
returns-clause-text c = text c

pub returns-clause-short : goal.returns-clause-short
returns-clause-short c = rw (text c) (operation-short c.args.mnemonic.now c.args.op.now c.requires)
