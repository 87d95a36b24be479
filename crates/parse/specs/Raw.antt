-- Words as they come from a text, as the grammar knows them before any is marked. Assumes nothing.
use Rattle.std.specs.Prelude.{ℕ, cond, List}
use Rattle.words.specs.declared.marks.Mark.{Mark}
use Rattle.words.specs.declared.marks.Mark.TheVariants as mark
use Rattle.words.specs.Lex as lex
use Rattle.syntax.specs.Syntax.{W, name, var, num, sign}
use Rattle.syntax.specs.Marks as code
use Rattle.syntax.specs.Grammar.{same_name, true_name, fail_name}
use Rattle.parse.specs.declared.token.Token.{Token}
use Rattle.parse.specs.Tokens.{token_word}

-- the grammar's code of a mark; an arrow is not yet known to have a guard
abbrev pub mark_code : Mark → ℕ
mark_code mark.At = code.at_mark
mark_code mark.Comma = code.comma
mark_code mark.Dot = code.dot
mark_code mark.Semicolon = code.semicolon
mark_code mark.Bar = code.bar
mark_code mark.Backslash = code.backslash
mark_code mark.Open = code.open_mark
mark_code mark.Close = code.close_mark
mark_code mark.Plus = code.plus
mark_code mark.Minus = code.minus
mark_code mark.Colon = code.colon
mark_code mark.Hash = code.hash
mark_code mark.Ask = code.ask
mark_code mark.Simplify = code.simplify
mark_code mark.Propagate = code.propagate
mark_code mark.Less = code.less
mark_code mark.AtMost = code.at_most
mark_code mark.Equal = code.equal
mark_code mark.AtLeast = code.at_least
mark_code mark.Greater = code.greater
mark_code mark.Different = code.different

-- `true` and `fail` are signs, any other name is a name
abbrev pub name_word : ℕ → List ℕ → W
name_word p s = cond (same_name s true_name) (sign code.true_word) (cond (same_name s fail_name) (sign code.fail_word) (name p s))

-- the word that a lexeme at a place is
abbrev pub raw_word : ℕ → lex.Lexeme → W
raw_word p (lex.name s) = name_word p s
raw_word p (lex.variable s) = var s
raw_word p (lex.number n) = num n
raw_word p (lex.sign m) = sign (mark_code m)

-- a token of the code as a word with its place
abbrev pub placed : Token → ℕ × W
placed t = (t.place, token_word t)
