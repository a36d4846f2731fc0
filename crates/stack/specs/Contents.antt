-- What a stack holds, in the words that the contracts use.
use Rattle.std.specs.Prelude.{◌≡◌, ℕ, List, reverse, length, take}
use Rattle.stack.specs.declared.Stack.{Stack}

-- the places that were lent, with what stands in each, in the free ones too
abbrev pub lent : {T : Type 0} → Stack T → List T
lent s = s.items.now

-- how many places were lent
abbrev pub room : {T : Type 0} → Stack T → ℕ
room s = length (lent s)

-- the elements that a stack holds, the one pushed last first: what stands in its first `count` places, or in all where there are fewer, in reverse order
abbrev pub contents : {T : Type 0} → Stack T → List T
contents s = reverse (take s.count (lent s))

-- the number of the mutable borrow of the lent slice: where two stacks have the same, they have the same slice, and what stands in its places at the end of the
-- borrow is what the slice holds then
abbrev pub lender : {T : Type 0} → Stack T → ℕ
lender s = s.items.ghost_name

-- `new` has the places of `old`: as many, in the same borrow of the lent slice; what stands in them may differ
pub record SamePlaces {T : Type 0} (old new : Stack T) : Type 0 where
  pub room : room new ≡ room old
  pub lender : lender new ≡ lender old
