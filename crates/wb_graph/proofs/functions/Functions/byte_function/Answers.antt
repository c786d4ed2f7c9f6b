use Rattle.std.proofs.Common.{rules, ◌≡◌, ◌⊎◌, arith, subst}
use Rattle.wb_graph.specs.Worlds.{byte_by_byte, side_by_side}
use Rattle.wb_graph.proofs.Boards.{keeps}
use Rattle.wb_graph.proofs.Names.{Naming, naming_more, byte_is}
use Rattle.wb_graph.proofs.functions.Functions.byte_function.Goals as goal

pub loop-bit-preserved : goal.loop-bit-preserved
loop-bit-preserved c =
    naming_more c.loop-bit.names 8 c.loop-bit.bit c.from.result c.variable_of.result (λ k x. (x ≡ byte_by_byte c.args.place k) ⊎ (x ≡ side_by_side c.args.place k)) c.loop-bit.invariant
    c.loop-bit-test.true (search rules) c.variable_of.ensures.bit_of_byte (omega (arith, c.variable_of.ensures.small))

pub returns-clause-function : goal.returns-clause-function
returns-clause-function c =
    let end : c.loop-bit.bit ≡ 8 = omega (arith, c.loop-bit-test.false, c.loop-bit.auto.bit-end) in
    byte_is c.args.self.now c.variables.new.diagrams c.args.place c.loop-bit.names c.ok.result c.requires
    (subst (λ n. Naming c.loop-bit.names 8 n (λ k x. (x ≡ byte_by_byte c.args.place k) ⊎ (x ≡ side_by_side c.args.place k))) end c.loop-bit.invariant) (search rules)

pub returns-clause-keeps : goal.returns-clause-keeps
returns-clause-keeps c = keeps c.args.self.now c.self.inside.diagrams c.variables.new.diagrams c.self.inside.summaries.items c.self.view_is c.variables.ensures.grown
