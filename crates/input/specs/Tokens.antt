-- Tokens: which is the end, which is a token of the input.
use Rattle.std.specs.Prelude.{zero, suc, Bool, true, false, ◌&&◌, ◌||◌, ℤ, pos, negsuc, nat_le}
use Rattle.std.specs.Int.Signed.{non_neg}
use Rattle.input.specs.declared.token.Token.{Token}

-- whether a number is −1
abbrev pub minus_one : ℤ → Bool
minus_one (pos n) = false
minus_one (negsuc zero) = true
minus_one (negsuc (suc n)) = false

-- whether a token's type is −1, which is that of the end, whatever its index
abbrev pub is_end : Token → Bool
is_end t = minus_one t.ttype

-- a type that a token of the input may have: 0 to 65,535
abbrev pub is_type : ℤ → Bool
is_type (pos n) = nat_le n 65535
is_type (negsuc n) = false

-- whether a token's fields are those of a token of the input: type 0 to 65,535 and index 0 or more; a token that was made up has index −1
abbrev pub is_input : Token → Bool
is_input t = is_type t.ttype && non_neg t.index

-- whether a token's fields are those of the end of an input: type −1, index 0 or more
abbrev pub is_input_end : Token → Bool
is_input_end t = is_end t && non_neg t.index

-- whether a token has the type and the index of a token of the input or of its end: type −1 to 65,535, index 0 or more
abbrev pub has_place : Token → Bool
has_place t = is_input t || is_input_end t
