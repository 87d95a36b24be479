use Rattle.std.proofs.Common.{◌+◌, drop}
use Rattle.words.specs.Names.{name_bytes}
use Rattle.parse.specs.declared.token.Lexeme.TheVariants.{Variable}
use Rattle.parse.specs.Cursors.{whole, rest}
use Rattle.parse.proofs.Ahead.{at_lexeme, variable_known}
use Rattle.parse.proofs.variables.ScopeVariables.variable.Goals as goal

pub returns-in-Some-clause-told : goal.returns-in-Some-clause-told
returns-in-Some-clause-told c =
    let f = c.in-Some.ensures in
    let at = c.args.cursor.now in
    let past = drop (at.at + 1) (whole at) in
    variable_known c.args.self.now c.in-Rule.names c.in-Rule.is (rest at) past (name_bytes c.in-Variable.name) c.in-Some.known.index (at_lexeme (rest at) past c.in_ok-name.field-0 (Variable c.in-Variable.name) c.in_ok-name.ensures.1 c.in-Variable.is) f.0 f.1
