-- The scanner's meaning is well formed.
use Rattle.std.specs.Prelude.{◌≡◌, ℕ, zero, suc, ◌+◌, Bool, true, false, cond, List, [], ◌∷◌, length, take, drop, nat_le, refl}
use Rattle.std.proofs.lemmas.Bool.{and_from}
use Rattle.input.specs.declared.scanner.Cursor.{Cursor}
use Rattle.input.specs.declared.scanner.Scanner.{Scanner}
use Rattle.std.specs.Str.{bytes_eq}
use Rattle.input.specs.Bytes.{Bytes, capitals}
use Rattle.input.specs.Streams.{WellFormed, SupplyFormed, Inputs}
use Rattle.input.specs.Lexemes.{Kind, name, number, sign, blank, comment, unknown, signs, words, type_in, type_of, front_of}
use Rattle.input.specs.Scanned.{scanned_within}
use Rattle.input.specs.Scanner.{still_to_scan, scanner_stream}
use Rattle.input.specs.Formed.{stream_formed}

-- the types of a list are at most 65,535
abbrev Small : List (Bytes × ℕ) → Type 0
Small [] = Unit {0}
Small ((bytes, k) ∷ more) = (nat_le k 65535 ≡ true) × Small more

-- the type that a list gives is at most 65,535, if all its types are and the type for what is not in it is
small_in : (list : List (Bytes × ℕ)) (part : Bytes) (other : ℕ) → Small list → nat_le other 65535 ≡ true → nat_le (type_in list part other) 65535 ≡ true
small_in [] part other s o = o
small_in ((bytes, k) ∷ more) part other s o = go (bytes_eq bytes part) (small_in more part other s.1 o)
  where
    go : (b : Bool) → nat_le (type_in more part other) 65535 ≡ true → nat_le (cond b k (type_in more part other)) 65535 ≡ true
    go true e = s.0
    go false e = e

-- the types of the signs are at most 65,535
signs_small : Small signs
signs_small = (refl, (refl, (refl, (refl, (refl, (refl, (refl, (refl, (refl, (refl, (refl, (refl, (refl, (refl, (refl, (refl, (refl, tt)))))))))))))))))

-- the types of the words are at most 65,535
words_small : Small words
words_small = (refl, (refl, (refl, (refl, (refl, tt)))))

-- every kind of lexeme has a type of at most 65,535, whatever its bytes
type_small : (k : Kind) (part : Bytes) → nat_le (type_of k part) 65535 ≡ true
type_small name part = small_in words (capitals part) 1 words_small refl
type_small number part = refl
type_small sign part = small_in signs part 0 signs_small refl
type_small blank part = refl
type_small comment part = refl
type_small unknown part = refl

-- all tokens that the rules give for a text are tokens of the input, whatever the first index and offset, and however many are allowed
inputs : (more index offset : ℕ) (text : Bytes) → Inputs (scanned_within more index offset text)
inputs zero index offset text = tt
inputs (suc more) index offset [] = tt
inputs (suc more) index offset (b ∷ bs) =
    let front = front_of b bs in
    (and_from _ _ (type_small front.kind (take front.len (b ∷ bs))) refl, inputs more (suc index) (offset + front.len) (drop front.len (b ∷ bs)))

-- what a cursor has still to give is tokens of the input, and then the end of one
pub still_formed : (c : Cursor) → SupplyFormed (still_to_scan c)
still_formed c = record { inputs = inputs (length c.rest.now) c.index c.offset c.rest.now; ends = refl }

-- a scanner is a well-formed stream
pub scanner_formed : (s : Scanner) → WellFormed (scanner_stream s)
scanner_formed s = stream_formed still_to_scan s.tokens (still_formed s.tokens.source)
