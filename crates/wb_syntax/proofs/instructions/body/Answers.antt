use Rattle.std.proofs.lemmas.List.{take_rest}
use Rattle.wb_syntax.proofs.Operands.{body_at}
use Rattle.wb_syntax.proofs.instructions.body.Goals as goal

pub returns-in-Some-mnemonic_of : goal.returns-in-Some-mnemonic_of
returns-in-Some-mnemonic_of c =
    body_at c.args.text.now c.args.tokens.now _ c.in-Some.name.now c.in-Some-mnemonic_of.mnemonic c.operands.result c.in-len1-up.len_at_least c.in-Some.ensures c.in-Some-mnemonic_of.ensures.some
    (rw take_rest at c.operands.ensures)
