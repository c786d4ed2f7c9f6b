use Rattle.std.proofs.Common.{refl, arith}
use Rattle.wb_script.proofs.ReadLemmas.{begin, advance, refused_by, handed_on}
use Rattle.wb_script.proofs.reader.read_lines.Goals as goal

pub loop-rest-init : goal.loop-rest-init
loop-rest-init c = record { progress = begin _ _ _ c.requires.empty refl; short = omega arith }

pub returns-in_err-read-clause-line : goal.returns-in_err-read-clause-line
returns-in_err-read-clause-line c =
    let before = c.loop-rest.reader in
    handed_on c.from_residual.result c.in_err-read.field-0.0 c.args.text.now c.from_residual.ensures.1
    (refused_by c.args.text.now c.loop-rest.rest.now c.split_line.result.0.now c.split_line.result.1.now c.loop-rest.line before.items.items before.opening
    c.statement_of.result c.in_err-read.field-0.0 c.loop-rest.invariant.progress c.split_line.ensures.first c.statement_of.ensures c.in_err-read.ensures.err)

pub loop-rest-preserved : goal.loop-rest-preserved
loop-rest-preserved c =
    let before = c.loop-rest.reader in
    let after = c.read.new.self in
    record {
      progress = advance c.args.text.now c.loop-rest.rest.now c.split_line.result.0.now c.split_line.result.1.now c.loop-rest.line before.items.items after.items.items before.opening after.opening
          c.loop-rest.invariant.progress c.split_line.ensures.first (rw c.statement_of.ensures at c.in_ok-read.ensures.ok);
      short = let shorter = c.split_line.ensures.shorter in omega arith;
    }
