use Rattle.wb_options.proofs.Words.{stripped}
use Rattle.wb_options.proofs.options.value_of.Goals as goal

pub returns : goal.returns
returns c = stripped c.args.key.now c.args.word.now c.strip_prefix.result c.strip_prefix.ensures.cases
