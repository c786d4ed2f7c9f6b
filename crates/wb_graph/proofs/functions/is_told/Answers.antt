use Rattle.std.proofs.Common.{◌≡◌, arith, true, true≢false, Some, None, Option, sym, ap, ◌∙◌}
use Rattle.std.proofs.lemmas.Grind.{common_steps}
use Rattle.std.specs.Option.{option_eq}
use Rattle.wb_vector.proofs.Looks.{same_words}
use Rattle.wb_graph.specs.declared.summaries.Function.{Function}
use Rattle.wb_graph.specs.declared.summaries.Function.TheVariants.{Word, Bit}
use Rattle.wb_graph.specs.contracts.summaries.FunctionPartialEq.TheImpl.{ghosts}
use Rattle.wb_graph.proofs.functions.is_told.Goals as goal

same : (a b : Function) → ghosts.eq a b ≡ true → a ≡ b
same (Word a) (Word b) h = ap Word (same_words a b h)
same (Bit a) (Bit b) h = grind (arith, common_steps)
same _ _ h = absurd (true≢false (sym h))

same_known : (o : Option Function) (a : Function) → option_eq ghosts.eq o (Some a) ≡ true → o ≡ Some a
same_known None a h = absurd (true≢false (sym h))
same_known (Some b) a h = ap Some (same b a h)

pub returns : goal.returns
returns c = λ e. same_known c.args.known c.args.function (sym c.eq.ensures ∙ e)
