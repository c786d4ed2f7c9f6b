use Rattle.std.proofs.lemmas.Result.{IfOk-weaker}
use Rattle.wb_symport.proofs.Moves.{status_told}
use Rattle.wb_symport.proofs.port.sym_status.Goals as goal

pub returns-clause-value : goal.returns-clause-value
returns-clause-value c =
    IfOk-weaker c.status_byte.result _ _
    (λ id is. record {
      there = is.there;
      value = λ i a m st. status_told i c.args.graph.now c.args.state.now m st _ (is.value i a);
    })
    c.status_byte.ensures.value
