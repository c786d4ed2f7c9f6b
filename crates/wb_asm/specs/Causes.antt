-- The errors that come from the first two readings.
use Rattle.wb_lex.specs.declared.faults.LexFault.{LexFault}
use Rattle.wb_lex.specs.declared.faults.LexFault.TheVariants as lex
use Rattle.wb_syntax.specs.declared.faults.SyntaxFault.{SyntaxFault}
use Rattle.wb_syntax.specs.declared.faults.SyntaxFault.TheVariants as syntax
use Rattle.wb_asm.specs.declared.faults.AsmError.{AsmError}
use Rattle.wb_asm.specs.declared.faults.AsmError.TheVariants.{Fault, OutOfMemory}
use Rattle.wb_asm.specs.declared.faults.AsmKind.TheVariants as kind

abbrev pub of_lex : LexFault → AsmError
of_lex (lex.Byte line column) = Fault (record { line = line; kind = kind.Byte column })
of_lex (lex.Wide line) = Fault (record { line = line; kind = kind.Wide })
of_lex lex.OutOfMemory = OutOfMemory

abbrev pub of_syntax : SyntaxFault → AsmError
of_syntax (syntax.Syntax line) = Fault (record { line = line; kind = kind.Syntax })
of_syntax syntax.OutOfMemory = OutOfMemory
