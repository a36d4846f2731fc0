-- The first word of a line.
use Rattle.std.specs.Prelude.{◌≡◌, List, [], ◌∷◌, Some, None, codes, Option, Result, MatchResult, find}
use Rattle.std.specs.Str.{bytes_eq}
use Rattle.replay.specs.declared.fault.Fault.{Fault}
use Rattle.replay.specs.declared.fault.Fault.TheVariants.{UnknownWord}
use Rattle.replay.specs.declared.keyword.Keyword.{Keyword}
use Rattle.replay.specs.declared.keyword.Keyword.TheVariants.{Text, Rules, Strategy, Recovering, Listener, Room, Enter, Recursion, State, Alternative, Extend, GiveUp, Match, Any, Consume, Leave, Unroll, Passes, Child, Parent, Nth, Leaf, TextOf, Print, Walk}
use Rattle.replay.specs.Bytes.{Bytes}

-- the word that each keyword is
abbrev pub name_of : Keyword → Bytes
name_of Text = codes "text"
name_of Rules = codes "rules"
name_of Strategy = codes "strategy"
name_of Recovering = codes "recovering"
name_of Listener = codes "listener"
name_of Room = codes "room"
name_of Enter = codes "enter"
name_of Recursion = codes "recursion"
name_of State = codes "state"
name_of Alternative = codes "alternative"
name_of Extend = codes "extend"
name_of GiveUp = codes "give-up"
name_of Match = codes "match"
name_of Any = codes "any"
name_of Consume = codes "consume"
name_of Leave = codes "leave"
name_of Unroll = codes "unroll"
name_of Passes = codes "passes"
name_of Child = codes "child"
name_of Parent = codes "parent"
name_of Nth = codes "nth"
name_of Leaf = codes "leaf"
name_of TextOf = codes "text-of"
name_of Print = codes "print"
name_of Walk = codes "walk"

-- all keywords: those of head lines, of calls and of questions
abbrev pub keywords : List Keyword
keywords =
    Text ∷ Rules ∷ Strategy ∷ Recovering ∷ Listener ∷ Room
    ∷ Enter ∷ Recursion ∷ State ∷ Alternative ∷ Extend ∷ GiveUp ∷ Match ∷ Any ∷ Consume ∷ Leave ∷ Unroll
    ∷ Passes ∷ Child ∷ Parent ∷ Nth ∷ Leaf ∷ TextOf ∷ Print ∷ Walk ∷ []

-- the first of some keywords that a word is, or none if it is none of them
abbrev pub keyword_in : List Keyword → Bytes → Option Keyword
keyword_in ks word = find (λ k. bytes_eq (name_of k) word) ks

-- the keyword that a word is, if it is one
abbrev pub keyword : Bytes → Option Keyword
keyword = keyword_in keywords

-- a word that is a keyword gives that keyword, and any other word the fault that it is unknown
abbrev pub GivesKeyword : Bytes → Result Keyword Fault → Type 0
GivesKeyword word r = MatchResult r (λ k. keyword word ≡ Some k) (λ fault. (keyword word ≡ None) × (fault ≡ UnknownWord))
