-- The tokens of a text, and the stream that they make.
use Rattle.std.specs.Prelude.{ℕ, zero, suc, ◌+◌, List, [], ◌∷◌, length, take, drop, pos, negsuc, None}
use Rattle.input.specs.declared.token.Token.{Token}
use Rattle.input.specs.Bytes.{Bytes}
use Rattle.input.specs.Streams.{Stream}
use Rattle.input.specs.Lexemes.{Kind, front_of, type_of, channel_of}

-- the token with the type and the channel of this kind and these bytes, and with this index, offset and length
abbrev pub token_of : Kind → Bytes → ℕ → ℕ → ℕ → Token
token_of kind part index offset len =
    record { ttype = pos (type_of kind part); channel = channel_of kind; index = pos index; offset = offset; len = len }

-- the tokens of a text, at most as many as the first number, which is there so that the recursion ends; the first has this index and this offset, and each
-- later one the next index, and the offset where the one before it ends
abbrev pub scanned_within : ℕ → ℕ → ℕ → Bytes → List Token
scanned_within zero index offset text = []
scanned_within (suc more) index offset [] = []
scanned_within (suc more) index offset (b ∷ bs) =
    let front = front_of b bs in
    token_of front.kind (take front.len (b ∷ bs)) index offset front.len
    ∷ scanned_within more (suc index) (offset + front.len) (drop front.len (b ∷ bs))

-- all tokens of a text, without the end, of which the first has this index and this offset; no token is empty, so there are at most as many as bytes
abbrev pub scanned_from : ℕ → ℕ → Bytes → List Token
scanned_from index offset text = scanned_within (length text) index offset text

-- all tokens of a text, without the end
abbrev pub scanned : Bytes → List Token
scanned text = scanned_from 0 0 text

-- the end with this index and this offset: type −1, channel 0, length 0
abbrev pub end_at : ℕ → ℕ → Token
end_at index offset = record { ttype = negsuc 0; channel = 0; index = pos index; offset = offset; len = 0 }

-- what a scanner means when it is opened over a text: no previous token, all tokens of the text ahead, and an end with their number as its index and the
-- text's length as its offset
abbrev pub scanner : Bytes → Stream
scanner text = record { previous = None; ahead = scanned text; end = end_at (length (scanned text)) (length text) }
