use Rattle.std.proofs.Common.{◌∙◌}
use Rattle.wb_options.proofs.Letters.{any_letters}
use Rattle.wb_options.proofs.values.any_shape.Goals as goal

pub returns : goal.returns
returns c = c.of.ensures ∙ any_letters c.from.result c.args.n c.from.ensures c.requires
