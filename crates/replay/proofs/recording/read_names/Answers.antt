use Rattle.std.proofs.Common.{◌≡◌, ℕ, ◌<◌, ◌==◌, Bool, true, false, cond, List, length, get_or, vec_items, Some, Ok, Err, Option, nat_lt, rules, tests, refl, sym, ap, ◌∙◌, arith}
use Rattle.std.proofs.lemmas.Bool.{le-ltb, eqb-true}
use Rattle.std.proofs.lemmas.Iterator.Consumers.{YieldsList-turn, YieldsList-end}
use Rattle.std.proofs.lemmas.Iterator.Splits.{YieldsList-from_slice_split}
use Rattle.std.proofs.lemmas.List.Recursion.{and_fails_at}
use Rattle.std.specs.Option.{option_map}
use Rattle.replay.specs.declared.fault.Fault.TheVariants.{EmptyName}
use Rattle.replay.specs.Bytes.{Bytes}
use Rattle.replay.specs.Recordings.{bytes_in, words, none_empty, names}
use Rattle.replay.proofs.recording.read_names.Goals as goal

-- the names of some bytes, by the test of their words
named : (o : Option Bytes) (bytes : Bytes) (t : Bool) → o ≡ Some bytes → none_empty (words bytes) ≡ t → names o ≡ cond t (Ok (words bytes)) (Err EmptyName)
named o bytes t is tested = ap names is ∙ ap (λ (b : Bool). cond b (Ok (words bytes)) (Err EmptyName)) tested

all_named : (o : Option Bytes) (bytes : Bytes) (read : List Bytes) → o ≡ Some bytes → read ≡ words bytes → none_empty read ≡ true → names o ≡ Ok read
all_named o bytes read is all full = rw all (named o bytes true is (rw all at full))

one_empty : (o : Option Bytes) (bytes name : Bytes) (i : ℕ) → o ≡ Some bytes → (i < length (words bytes)) × (name ≡ get_or (words bytes) i name) → length name ≡ 0
    → names o ≡ Err EmptyName
one_empty o bytes name i is there empty =
    named o bytes false is
    (and_fails_at none_empty (λ n. nat_lt 0 (length n)) refl (λ n ns. refl) (words bytes) i name there.0
    (ap (λ (n : Bytes). nat_lt 0 (length n)) (sym there.1) ∙ le-ltb 0 (length name) (omega arith)))

pub returns-then-is_empty : goal.returns-then-is_empty
returns-then-is_empty c =
    let bytes = c.in-Some.bytes.now in
    let there =
    YieldsList-turn (YieldsList-from_slice_split _ (λ b. b == 32) bytes (cc) (cc) (cc) (λ x b q k. search (rules, tests)))
    c.loop-name.yielded _ c.loop-name.yielded_by _ _ c.in-Some-name.name c.in-Some-name.is c.next.ensures.steps in
    rw c.into.ensures
    (one_empty _ bytes c.in-Some-name.name.now _ (ap (option_map (λ x. x.now)) c.in-Some.is) there (eqb-true _ _ (sym c.if-is_empty.ensures)))

pub returns : goal.returns
returns c =
    let bytes = c.in-Some.bytes.now in
    let all =
    YieldsList-end (YieldsList-from_slice_split _ (λ b. b == 32) bytes (cc) (cc) (cc) (λ x b q k. search (rules, tests)))
    c.loop-name.yielded _ c.loop-name.yielded_by _ _ c.in-None.is c.next.ensures.steps in
    let read = ap bytes_in c.loop-name.invariant.2 in
    all_named _ bytes (bytes_in (vec_items c.loop-name.read)) (ap (option_map (λ x. x.now)) c.in-Some.is) (read ∙ all.0)
    (ap none_empty read ∙ c.loop-name.invariant.3)
