use Rattle.wb_syntax.proofs.OneStatement.{one_statement, one_source, never_both, one_bad_line}
use Rattle.wb_syntax.proofs.laws.statements_are_read_in_one_way.Goals as goal

pub returns-clause-one_statement : goal.returns-clause-one_statement
returns-clause-one_statement c = one_statement

pub returns-clause-one_source : goal.returns-clause-one_source
returns-clause-one_source c = one_source

pub returns-clause-never_both : goal.returns-clause-never_both
returns-clause-never_both c = never_both

pub returns-clause-one_line : goal.returns-clause-one_line
returns-clause-one_line c = one_bad_line
