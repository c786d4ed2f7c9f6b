use Rattle.std.proofs.Common.{refl}
use Rattle.wb_syntax.specs.declared.separators.Separator.TheVariants.{Comma}
use Rattle.wb_syntax.specs.Separators.{parts}
use Rattle.wb_syntax.specs.Statement.{AreExpressions}
use Rattle.wb_syntax.proofs.Operands.{refused_by}
use Rattle.wb_syntax.proofs.instructions.operands.Goals as goal

pub returns-in-Some : goal.returns-in-Some
returns-in-Some c = rw c.in-Op.is (c.in-Some.word, refl, c.in-Some.ensures)

pub returns-in-Some-word_of : goal.returns-in-Some-word_of
returns-in-Some-word_of c = rw c.in-Rt.is (c.in-Some-word_of.word, refl, c.in-Some-word_of.ensures)

pub returns-in-Ld : goal.returns-in-Ld
returns-in-Ld c = rw c.in-Ld.is c.load.ensures

pub returns-in-Equ : goal.returns-in-Equ
returns-in-Equ c = rw c.in-Equ.is c.definition.ensures

pub returns-in-Err-expressions : goal.returns-in-Err-expressions
returns-in-Err-expressions c =
    rw c.in-Word.is (refused_by (AreExpressions c.args.text.now (parts Comma c.args.tokens.now)) _ c.in-Err-expressions.refusal c.in-Err-expressions.ensures (λ b is. (is.0, is.2)))

pub returns-in-Err-expressions-2 : goal.returns-in-Err-expressions-2
returns-in-Err-expressions-2 c =
    rw c.in-Dw.is (refused_by (AreExpressions c.args.text.now (parts Comma c.args.tokens.now)) _ c.in-Err-expressions-2.refusal c.in-Err-expressions-2.ensures (λ b is. (is.0, is.2)))
