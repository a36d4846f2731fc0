-- The law of scanning: what the tokens of a text are, whatever finds them.
use Rattle.std.specs.Prelude.{◌≡◌, ℕ, suc, ◌+◌, ◌<◌, ◌≤◌, Bool, true, false, ◌⊎◌, List, [], ◌∷◌, ◌++◌, length, take, drop, pos, codes}
use Rattle.std.specs.List.{flat_map, AllByRecursion}
use Rattle.input.specs.declared.token.Token.{Token}
use Rattle.input.specs.Bytes.{Bytes, begins_name, is_in_name, is_digit, is_blank}
use Rattle.input.specs.Lexemes.{Kind, name, number, sign, blank, comment, unknown, signs, type_in, type_of, channel_of}

-- ── what each kind of lexeme is, by its bytes and what stands behind them ──

-- there is a first byte, and it passes the test
abbrev pub Begins : (ℕ → Bool) → Bytes → Type 0
Begins test [] = ⊥
Begins test (b ∷ bs) = test b ≡ true

-- nothing goes on: there is no byte, or the first one fails the test
abbrev pub Stops : (ℕ → Bool) → Bytes → Type 0
Stops test [] = Unit {0}
Stops test (b ∷ bs) = test b ≡ false

-- all bytes pass the test, and the run does not go on behind them
abbrev pub Run : (ℕ → Bool) → Bytes → Bytes → Type 0
Run test part rest = AllByRecursion (λ b. test b ≡ true) part × Stops test rest

-- these bytes are a sign: the list of signs has a type for them, which is above 0 for each of its signs
abbrev pub IsSign : Bytes → Type 0
IsSign part = 0 < type_in signs part 0

-- every sign that the text begins with has at most n bytes
abbrev pub NoLongerSign : ℕ → Bytes → Type 0
NoLongerSign n text = (part rest : Bytes) → IsSign part → part ++ rest ≡ text → length part ≤ n

-- every `*)` in the bytes has n bytes or more before it
abbrev pub FirstClosing : ℕ → Bytes → Type 0
FirstClosing n bytes = (front rest : Bytes) → front ++ (codes "*)" ++ rest) ≡ bytes → n ≤ length front

-- there is no `*)` in the bytes
abbrev pub NoClosing : Bytes → Type 0
NoClosing bytes = (front rest : Bytes) → front ++ (codes "*)" ++ rest) ≡ bytes → ⊥

-- the part is `(*` and then bytes that have no `*)` among themselves, and it goes to the end of the text
pub record Unclosed (part rest : Bytes) : Type 0 where
  pub inside : Bytes
  pub opens : part ≡ codes "(*" ++ inside
  pub unclosed : NoClosing inside
  pub last : rest ≡ []

-- one byte that begins no name, number, run of blanks or sign
pub record Lone (part rest : Bytes) : Type 0 where
  pub byte : ℕ
  pub one : part ≡ byte ∷ []
  pub no_name : begins_name byte ≡ false
  pub no_digit : is_digit byte ≡ false
  pub no_blank : is_blank byte ≡ false
  pub no_sign : NoLongerSign 0 (part ++ rest)

-- `(*`, what is inside, and the first `*)` behind the `(*`
pub record Commented (part rest : Bytes) : Type 0 where
  pub inside : Bytes
  pub opens : part ≡ codes "(*" ++ (inside ++ codes "*)")
  pub first : FirstClosing (length inside) (inside ++ (codes "*)" ++ rest))

-- what the bytes of each kind are, given what stands behind them: a name is a letter or `_` and then letters, digits and `_`, a number digits, blanks blank
-- bytes, and behind them stands no byte that would go on; a sign is the longest that begins there, and no `(` before a `*`; a comment goes from `(*` to the
-- first `*)` behind that; an unknown is a `(*` that is never closed, to the end of the text, or one byte that begins no name, number, blanks or sign. A number
-- and blanks may have no bytes here, where no digit or blank is behind; the law of scanning says besides that no part is empty
abbrev pub Reads : Kind → Bytes → Bytes → Type 0
Reads name part rest = Begins begins_name part × Run is_in_name part rest
Reads number part rest = Run is_digit part rest
Reads sign part rest = IsSign part × NoLongerSign (length part) (part ++ rest) × ((inside : Bytes) → part ++ rest ≡ codes "(*" ++ inside → ⊥)
Reads blank part rest = Run is_blank part rest
Reads comment part rest = Commented part rest
Reads unknown part rest = Unclosed part rest ⊎ Lone part rest

-- ── the tokens of a text ──

-- the part of the text that a token has, cut where the text ends; nothing where it begins beyond
abbrev pub bytes_at : Bytes → Token → Bytes
bytes_at text t = take t.len (drop t.offset text)

-- the bytes of a text that stand behind a token's part; none where the part ends at the end of the text or beyond
abbrev pub behind : Bytes → Token → Bytes
behind text t = drop (t.offset + t.len) text

-- for some kind, the token's bytes obey the rule of that kind where they stand, and the token has the type and the channel of that kind
pub record ByRule (text : Bytes) (t : Token) : Type 0 where
  pub kind : Kind
  pub reads : Reads kind (bytes_at text t) (behind text t)
  pub typed : t.ttype ≡ pos (type_of kind (bytes_at text t))
  pub on_channel : t.channel ≡ channel_of kind

-- each token begins where the one before it ends, the first at this offset
abbrev pub Placed : ℕ → List Token → Type 0
Placed offset [] = Unit {0}
Placed offset (t ∷ ts) = (t.offset ≡ offset) × Placed (offset + t.len) ts

-- the indices count up from this one
abbrev pub Counted : ℕ → List Token → Type 0
Counted index [] = Unit {0}
Counted index (t ∷ ts) = (t.index ≡ pos index) × Counted (suc index) ts

-- the law: joined, the tokens' parts are the whole text; none is empty, and none reaches beyond the text; the first begins at 0 and each other where the
-- one before it ends; the indices count up from 0; each obeys its rule
pub record Scans (text : Bytes) (ts : List Token) : Type 0 where
  pub whole : flat_map (bytes_at text) ts ≡ text
  pub some : AllByRecursion (λ t. 0 < t.len) ts
  pub within : AllByRecursion (λ t. t.offset + t.len ≤ length text) ts
  pub placed : Placed 0 ts
  pub counted : Counted 0 ts
  pub by_rule : AllByRecursion (ByRule text) ts
