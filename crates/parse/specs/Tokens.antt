-- Words of the code as words of the grammar. Assumes nothing.
use Rattle.std.specs.Prelude.{ℕ, List, [], ◌∷◌, map, Some, None, Option}
use Rattle.words.specs.Names.{name_bytes}
use Rattle.syntax.specs.Syntax.{W, name, var, num, weight, sign, kind}
use Rattle.syntax.specs.Marks as code
use Rattle.parse.specs.declared.token.Sign.{Sign}
use Rattle.parse.specs.declared.token.Sign.TheVariants as is
use Rattle.parse.specs.declared.token.Lexeme.{Lexeme}
use Rattle.parse.specs.declared.token.Lexeme.TheVariants as lexeme
use Rattle.parse.specs.declared.token.Token.{Token}

abbrev pub sign_code : Sign → ℕ
sign_code is.At = code.at_mark
sign_code is.Comma = code.comma
sign_code is.Dot = code.dot
sign_code is.Semicolon = code.semicolon
sign_code is.Bar = code.bar
sign_code is.Backslash = code.backslash
sign_code is.Open = code.open_mark
sign_code is.Close = code.close_mark
sign_code is.Plus = code.plus
sign_code is.Minus = code.minus
sign_code is.Colon = code.colon
sign_code is.Hash = code.hash
sign_code is.Ask = code.ask
sign_code is.Less = code.less
sign_code is.AtMost = code.at_most
sign_code is.Equal = code.equal
sign_code is.AtLeast = code.at_least
sign_code is.Greater = code.greater
sign_code is.Different = code.different
sign_code is.Simplify = code.simplify
sign_code is.SimplifyGuarded = code.simplify_guarded
sign_code is.Propagate = code.propagate
sign_code is.PropagateGuarded = code.propagate_guarded
sign_code is.True = code.true_word
sign_code is.Fail = code.fail_word

abbrev pub lexeme_word : ℕ → Lexeme → W
lexeme_word p (lexeme.Name n) = name p (name_bytes n)
lexeme_word p (lexeme.Variable n) = var (name_bytes n)
lexeme_word p (lexeme.Number n) = num n.value
lexeme_word p (lexeme.Weight n) = weight n.value
lexeme_word p (lexeme.Sign s) = sign (sign_code s)

abbrev pub token_word : Token → W
token_word t = lexeme_word t.place t.lexeme

abbrev pub words : List Token → List W
words ts = map token_word ts

-- the words from a token on, and none where there is no token
abbrev pub ahead_of : Option Token → List W → List W
ahead_of None r = []
ahead_of (Some t) r = token_word t ∷ r

-- the kind of the word, which does not depend on its place
abbrev pub lexeme_kind : Lexeme → ℕ
lexeme_kind (lexeme.Name n) = 0
lexeme_kind (lexeme.Variable n) = 1
lexeme_kind (lexeme.Number n) = 2
lexeme_kind (lexeme.Weight n) = 3
lexeme_kind (lexeme.Sign s) = kind (sign (sign_code s))
