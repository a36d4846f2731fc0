-- The number of each type of token that a scanner gives.
use Rattle.std.specs.Prelude.{ℕ}
use Rattle.input.specs.declared.token_type.TokenType.{TokenType}
use Rattle.input.specs.declared.token_type.TokenType.TheVariants.{Unknown, Name, Number, Assign, Semicolon, OpenParen, CloseParen, Plus, Minus, Star, Slash, Power, Equal, NotEqual, Less, LessOrEqual, Greater, GreaterOrEqual, Ampersand, Comma, And, Or, Xor, Not, Mod, Blank, Comment}

-- the number that a token of this type has
abbrev pub number_of : TokenType → ℕ
number_of Unknown = 0
number_of Name = 1
number_of Number = 2
number_of Assign = 3
number_of Semicolon = 4
number_of OpenParen = 5
number_of CloseParen = 6
number_of Plus = 7
number_of Minus = 8
number_of Star = 9
number_of Slash = 10
number_of Power = 11
number_of Equal = 12
number_of NotEqual = 13
number_of Less = 14
number_of LessOrEqual = 15
number_of Greater = 16
number_of GreaterOrEqual = 17
number_of Ampersand = 18
number_of Comma = 19
number_of And = 20
number_of Or = 21
number_of Xor = 22
number_of Not = 23
number_of Mod = 24
number_of Blank = 25
number_of Comment = 26
